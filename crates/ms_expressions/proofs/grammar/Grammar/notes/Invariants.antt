use Rattle.std.proofs.Common.{◌≡◌, suc, map, ◌-◌, length}
use Rattle.ms_syntax.specs.Tree.{note_view}
use Rattle.ms_syntax.specs.declared.token.Symbol.TheVariants as s
use Rattle.ms_cursor.specs.Reading.{many_to, grown}
use Rattle.ms_cursor.specs.Kinds.{symbol}
use Rattle.ms_expressions.specs.Rules.{under, note_rest}
use Rattle.ms_expressions.proofs.grammar.Grammar.notes.Given as goal

abbrev pub invariant-loop-turn : goal.invariant-loop-turn
invariant-loop-turn g l = (l._turn-end ≡ length l.fn.tokens) × (grown (map note_view l.found.items) (many_to (l._turn-end - l._turn) (symbol s.ColonColon) (λ a y. (note_rest l.self.depth (under (suc l.self.depth)) (under l.self.depth) y.place)) l.tokens) ≡ many_to (length l.fn.tokens) (symbol s.ColonColon) (λ a y. (note_rest l.self.depth (under (suc l.self.depth)) (under l.self.depth) y.place)) l.fn.tokens)
