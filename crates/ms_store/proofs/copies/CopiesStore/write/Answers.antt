use Rattle.std.proofs.Common.{refl, map}
use Rattle.ms_num.specs.Sets.{set_of}
use Rattle.ms_cells.specs.Cells.{seen}
use Rattle.ms_store.proofs.ListsOf.{written_of}
use Rattle.ms_store.proofs.copies.CopiesStore.write.Goals as goal

pub returns-clause-ok : goal.returns-clause-ok
returns-clause-ok c = rw (c.in_ok-copied.ensures, ← c.self.view_is) (written_of set_of (seen c.self.inside.current.items (map (λ l. l.items) c.self.inside.saved.items)) _ c.args.v c.args.set.now refl)
