use Rattle.std.proofs.Common.{◌≡◌, suc, map, ◌-◌, length}
use Rattle.ms_syntax.specs.Tree.{declaration_view}
use Rattle.ms_expressions.specs.Rules.{under, more_locals}
use Rattle.ms_expressions.proofs.Turns.{grown_by}
use Rattle.ms_expressions.proofs.grammar.Grammar.more_locals.Given as goal

abbrev pub invariant-loop-turn : goal.invariant-loop-turn
invariant-loop-turn g l = (l._turn-end ≡ length l.fn.tokens)
    × (grown_by (map declaration_view l.found.items) (more_locals l.self.depth (under (suc l.self.depth)) (under l.self.depth) (l._turn-end - l._turn) l.tokens) ≡ more_locals l.self.depth (under (suc l.self.depth)) (under l.self.depth) (length l.fn.tokens) l.fn.tokens)
