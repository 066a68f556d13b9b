use Rattle.ms_instance.specs.Instances.{intervals_of}
use Rattle.ms_env.specs.Entries as e
use Rattle.ms_env.proofs.Latest.{all_reversed}
use Rattle.ms_env.proofs.env.Env.operands.Goals as goal

pub operands_of-requires : goal.operands_of-requires
operands_of-requires c = rw c.as_slice.ensures.value (all_reversed (e.is_entry (intervals_of c.args.sets.now)) c.args.self.now.entries.items c.requires)
