use Rattle.std.proofs.Common.{◌≡◌, take}
use Rattle.std.specs.Prelude.{fold}
use Rattle.ms_trees.specs.declared.tree.Ground.TheVariants as g
use Rattle.ms_top.specs.Solution.{term_tree}
use Rattle.ms_top.proofs.trees.total_tree.Given as goal

abbrev pub invariant-loop-term : goal.invariant-loop-term
invariant-loop-term l = l.sum ≡ fold (λ sum y. g.Add sum (term_tree l.declarations y)) (term_tree l.declarations l.total.first) (take l.term-index l.total.others)
