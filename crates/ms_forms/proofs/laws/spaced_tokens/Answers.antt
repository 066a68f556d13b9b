use Rattle.ms_forms.proofs.Exists.{spaced_tokens}
use Rattle.ms_forms.proofs.Written.{written_tokens, tokens_well}
use Rattle.ms_forms.proofs.laws.spaced_tokens.Goals as goal

pub returns : goal.returns
returns c = record { spelled = spaced_tokens; written = written_tokens; well_formed = tokens_well }
