use Rattle.std.proofs.Common.{◌≡◌, map, ◌-◌, length}
use Rattle.ms_cursor.specs.Reading.{many, many_to, grown}
use Rattle.ms_expressions.proofs.grammar.Grammar.more.Given as goal

abbrev pub invariant-loop-turn : goal.invariant-loop-turn
invariant-loop-turn g l = (l._turn-end ≡ length l.fn.tokens)
    × (grown (map g.T.Part.view l.found.items) (many_to (l._turn-end - l._turn) (g.M.Mark.matches l.mark) (λ a y. g.T.Part.rule l.self) l.tokens)
    ≡ grown (map g.T.Part.view l.fn.found.items) (many (g.M.Mark.matches l.mark) (λ a y. g.T.Part.rule l.self) l.fn.tokens))
