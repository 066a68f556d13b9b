use Rattle.ms_num.specs.Sets.{set_of}
use Rattle.ms_store.specs.Copied.{IsCopied}
use Rattle.ms_store.proofs.ListsOf.{lengths_of}
use Rattle.ms_store.proofs.copies.CopiesStore.vars.Goals as goal

pub returns-clause-saved : goal.returns-clause-saved
returns-clause-saved c = lengths_of set_of c.args.self.now (let h = rw c.self.view_is at c.self.invariant in h.lengths)
