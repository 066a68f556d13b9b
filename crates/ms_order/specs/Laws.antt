-- What the order of declarations is known by.
use Rattle.std.specs.Prelude.{◌≡◌, ℕ, ◌<◌, List, ◌↔◌, length}
use Rattle.ms_syntax.specs.Tree.{It}
use Rattle.ms_declarations.specs.Depends.{HasNoCycle}
use Rattle.ms_postorder.specs.Postorder.{In}
use Rattle.ms_postorder.specs.Laws.{Differ, StandsBefore}
use Rattle.ms_order.specs.Order.{IsOrder, Needs, declared}

abbrev pub OneOrder : Type 0
OneOrder = (items : List It) (one other : List ℕ) → IsOrder items one → IsOrder items other → one ≡ other

-- each number of a declared name stands in it once
pub record ComeOnce (items : List It) (order : List ℕ) : Type 0 where
  pub all : (a : ℕ) → In a order ↔ (a < length (declared items))
  pub once : Differ order

abbrev pub EachComesOnce : Type 0
EachComesOnce = (items : List It) (order : List ℕ) → IsOrder items order → ComeOnce items order

-- in a model without cycles each declaration stands behind those that it reads
abbrev pub ReadComeFirst : Type 0
ReadComeFirst = (items : List It) (order : List ℕ) → HasNoCycle items → IsOrder items order
    → (a b : ℕ) → Needs items a b → StandsBefore order b a
