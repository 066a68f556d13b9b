use Rattle.std.proofs.Common.{ap, sym, ◌∙◌}
use Rattle.ms_syntax.specs.Tree.{ex_view, links_view, chain}
use Rattle.ms_cursor.specs.Level.{operands_of}
use Rattle.ms_expressions.proofs.Kept.{chained_some}
use Rattle.ms_expressions.proofs.Views.{view_concat, view_product, view_sum, view_and, view_or, view_implies, view_same}
use Rattle.ms_expressions.proofs.operators.chain.Goals as goal

pub returns-in-Concatenation : goal.returns-in-Concatenation
returns-in-Concatenation c =
    view_concat c.in_ok-first.first c.args.links ∙ ap (λ k. chain 2 (ex_view k) (links_view c.args.links.items)) (c.in_ok-first.ensures {u = tt {0}}).ok
    ∙ chained_some (operands_of c.args.level) 2 (ex_view c.args.first) c.args.links.items c.args.links.len c.if-is_empty.ensures c.args.links.ok.0 (ap operands_of (sym c.in-Concatenation.is))

pub returns-in-Product : goal.returns-in-Product
returns-in-Product c =
    view_product c.in_ok-first.first c.args.links ∙ ap (λ k. chain 3 (ex_view k) (links_view c.args.links.items)) (c.in_ok-first.ensures {u = tt {0}}).ok
    ∙ chained_some (operands_of c.args.level) 3 (ex_view c.args.first) c.args.links.items c.args.links.len c.if-is_empty.ensures c.args.links.ok.0 (ap operands_of (sym c.in-Product.is))

pub returns-in-Sum : goal.returns-in-Sum
returns-in-Sum c =
    view_sum c.in_ok-first.first c.args.links ∙ ap (λ k. chain 4 (ex_view k) (links_view c.args.links.items)) (c.in_ok-first.ensures {u = tt {0}}).ok
    ∙ chained_some (operands_of c.args.level) 4 (ex_view c.args.first) c.args.links.items c.args.links.len c.if-is_empty.ensures c.args.links.ok.0 (ap operands_of (sym c.in-Sum.is))

pub returns-in-Conjunction : goal.returns-in-Conjunction
returns-in-Conjunction c =
    view_and c.in_ok-first.first c.args.links ∙ ap (λ k. chain 8 (ex_view k) (links_view c.args.links.items)) (c.in_ok-first.ensures {u = tt {0}}).ok
    ∙ chained_some (operands_of c.args.level) 8 (ex_view c.args.first) c.args.links.items c.args.links.len c.if-is_empty.ensures c.args.links.ok.0 (ap operands_of (sym c.in-Conjunction.is))

pub returns-in-Disjunction : goal.returns-in-Disjunction
returns-in-Disjunction c =
    view_or c.in_ok-first.first c.args.links ∙ ap (λ k. chain 9 (ex_view k) (links_view c.args.links.items)) (c.in_ok-first.ensures {u = tt {0}}).ok
    ∙ chained_some (operands_of c.args.level) 9 (ex_view c.args.first) c.args.links.items c.args.links.len c.if-is_empty.ensures c.args.links.ok.0 (ap operands_of (sym c.in-Disjunction.is))

pub returns-in-Implication : goal.returns-in-Implication
returns-in-Implication c =
    view_implies c.in_ok-first.first c.args.links ∙ ap (λ k. chain 10 (ex_view k) (links_view c.args.links.items)) (c.in_ok-first.ensures {u = tt {0}}).ok
    ∙ chained_some (operands_of c.args.level) 10 (ex_view c.args.first) c.args.links.items c.args.links.len c.if-is_empty.ensures c.args.links.ok.0 (ap operands_of (sym c.in-Implication.is))

pub returns-in-Equivalence : goal.returns-in-Equivalence
returns-in-Equivalence c =
    view_same c.in_ok-first.first c.args.links ∙ ap (λ k. chain 11 (ex_view k) (links_view c.args.links.items)) (c.in_ok-first.ensures {u = tt {0}}).ok
    ∙ chained_some (operands_of c.args.level) 11 (ex_view c.args.first) c.args.links.items c.args.links.len c.if-is_empty.ensures c.args.links.ok.0 (ap operands_of (sym c.in-Equivalence.is))
