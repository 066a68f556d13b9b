use Rattle.ms_forms.proofs.Blanks.{blank_only}
use Rattle.ms_forms.proofs.Decided.{fails_only, token_only, one_token}
use Rattle.ms_forms.proofs.laws.decided_form.Goals as goal

pub returns : goal.returns
returns c = record { blank_only = blank_only; fails_only = fails_only; token_only = token_only; one_token = one_token }
