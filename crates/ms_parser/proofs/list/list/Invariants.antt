use Rattle.std.proofs.Common.{◌≡◌, map, ◌-◌}
use Rattle.ms_parser.specs.Lists as rules
use Rattle.ms_expressions.proofs.Turns.{grown_by}
use Rattle.ms_parser.proofs.list.list.Given as goal

abbrev pub invariant-loop-turn : goal.invariant-loop-turn
invariant-loop-turn g l = grown_by (map (g.T.Entry.view) l.found.items) (rules.more_items (g.T.Entry.rule) (l._turn-end - l._turn) l.tokens) ≡ rules.items (g.T.Entry.rule) l.fn.tokens
