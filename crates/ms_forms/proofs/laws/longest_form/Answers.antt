use Rattle.ms_forms.proofs.Spelled.{spelled, longest, no_token_at_blank, no_token_at_fault}
use Rattle.ms_forms.proofs.Blanks.{blanks}
use Rattle.ms_forms.proofs.Faults.{fails}
use Rattle.ms_forms.proofs.laws.longest_form.Goals as goal

pub returns : goal.returns
returns c = record { spelled = spelled; longest = longest; at_blank = no_token_at_blank; at_fault = no_token_at_fault; blanks = blanks; fails = fails }
