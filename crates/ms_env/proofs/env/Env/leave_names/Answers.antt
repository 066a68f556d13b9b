use Rattle.ms_env.proofs.Latest.{reverse_kept}
use Rattle.ms_env.proofs.env.Env.leave_names.Goals as goal

pub returns : goal.returns
returns c = rw c.truncate.ensures.items (reverse_kept c.args.mark c.args.self.now.entries.items)
