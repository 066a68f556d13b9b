-- The nesting that is kept is that of the tree.
use Rattle.std.proofs.Common.{◌≡◌, inl, inr, ℕ, ◌≤◌, true, List, arith}
use Rattle.std.specs.Prelude.{nat_le}
use Rattle.std.proofs.lemmas.Bool.Decides.{nat_tests}
use Rattle.ms_base.specs.declared.limits.TheConstants.{TREE_NESTING_LIMIT}
use Rattle.ms_num.specs.Span.{Span}
use Rattle.ms_trees.specs.Size as size
use Rattle.ms_tree_nodes.specs.Nodes.{cap}
use Rattle.ms_tree_nodes.specs.Kept.{IsKept}
use Rattle.ms_kept.proofs.Joined.{nested}
use Rattle.ms_values.specs.declared.operand.Placed.{Placed}
use Rattle.ms_rules_laws.specs.Laws.{NestingIsOwn}

tested : (k n : ℕ) → nat_le k n ≡ true → k ≤ n
tested k n h = grind (arith, nat_tests)

within : (k m : ℕ) → k ≡ cap m → k ≤ TREE_NESTING_LIMIT → m ≤ TREE_NESTING_LIMIT
within k m e h = omega (arith, e, h)

pub nests : (sets : List Span) (x : Placed) → IsKept sets x → x.nesting ≤ TREE_NESTING_LIMIT → size.nesting_of x.tree ≤ TREE_NESTING_LIMIT
nests sets x h t = within x.nesting (size.nesting_of x.tree) (nested sets x h) t

pub nesting_is_own : NestingIsOwn
nesting_is_own sets x (inl h) t = nests sets x h.kept (tested x.nesting TREE_NESTING_LIMIT t)
nesting_is_own sets x (inr h) t = nests sets x h.kept (tested x.nesting TREE_NESTING_LIMIT t)
