use Rattle.ms_session.proofs.Rooms.{pushing_keeps_room, popping_keeps_room}
use Rattle.ms_session.proofs.Rooms.{opening_has_room, entering_keeps_room, leaving_keeps_room, posting_keeps_room, stepping_keeps_room}
use Rattle.ms_session.proofs.laws.room_laws.Goals as goal

pub returns-clause-opening : goal.returns-clause-opening
returns-clause-opening c = opening_has_room

pub returns-clause-entering : goal.returns-clause-entering
returns-clause-entering c = entering_keeps_room

pub returns-clause-leaving : goal.returns-clause-leaving
returns-clause-leaving c = leaving_keeps_room

pub returns-clause-posting : goal.returns-clause-posting
returns-clause-posting c = posting_keeps_room

pub returns-clause-stepping : goal.returns-clause-stepping
returns-clause-stepping c = stepping_keeps_room

pub returns-clause-pushing : goal.returns-clause-pushing
returns-clause-pushing c = pushing_keeps_room

pub returns-clause-popping : goal.returns-clause-popping
returns-clause-popping c = popping_keeps_room
