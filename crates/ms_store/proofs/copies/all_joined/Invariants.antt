use Rattle.std.proofs.Common.{◌≡◌, ◌++◌, take, map}
use Rattle.ms_store.proofs.copies.all_joined.Given as goal

abbrev pub invariant-loop-list : goal.invariant-loop-list
invariant-loop-list l = map (λ x. x.items) l.all.items ≡ map (λ x. x.items ++ l.more) (take l.list-index l.lists)
