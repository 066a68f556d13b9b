use Rattle.ms_expressions.proofs.recursion.+expr.Given as goal

abbrev pub decreases-expr : goal.decreases-expr
decreases-expr l = l.depth
