use Rattle.std.proofs.Common.{◌≡◌, ◌++◌, take, drop, map}
use Rattle.ms_store.proofs.copies.shorten.Given as goal

abbrev pub invariant-loop-list : goal.invariant-loop-list
invariant-loop-list l = map (λ x. x.items) l.list-items ≡ map (λ s. take l.count s) (take l.list-index (map (λ x. x.items) l.initial.list-items)) ++ drop l.list-index (map (λ x. x.items) l.initial.list-items)
