use Rattle.ms_session.proofs.Sessions.{beginning_is_valid}
use Rattle.ms_session.proofs.Sessions.{opening_is_valid, entering_keeps_valid, leaving_keeps_valid, posting_keeps_valid, stepping_keeps_valid}
use Rattle.ms_session.proofs.laws.session_laws.Goals as goal

pub returns-clause-opening : goal.returns-clause-opening
returns-clause-opening c = opening_is_valid

pub returns-clause-entering : goal.returns-clause-entering
returns-clause-entering c = entering_keeps_valid

pub returns-clause-leaving : goal.returns-clause-leaving
returns-clause-leaving c = leaving_keeps_valid

pub returns-clause-posting : goal.returns-clause-posting
returns-clause-posting c = posting_keeps_valid

pub returns-clause-stepping : goal.returns-clause-stepping
returns-clause-stepping c = stepping_keeps_valid

pub returns-clause-beginning : goal.returns-clause-beginning
returns-clause-beginning c = beginning_is_valid
