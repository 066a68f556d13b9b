use Rattle.std.proofs.Common.{◌≡◌, ◌+◌, ◌*◌, ◌-◌, map, length}
use Rattle.ms_syntax.specs.Tree.{ex_view, link_view}
use Rattle.ms_cursor.specs.Reading.{ok, many_to, grown}
use Rattle.ms_cursor.specs.Kinds.{infix_of}
use Rattle.ms_cursor.specs.Level.{tighter, operands_of}
use Rattle.ms_expressions.specs.Rules.{under, signed, tier}
use Rattle.ms_expressions.proofs.Linked.{linked}
use Rattle.ms_expressions.proofs.grammar.Grammar.+tiers.Given as goal

abbrev pub decreases-tier : goal.decreases-tier
decreases-tier g l = 3 * l.levels

abbrev pub decreases-links : goal.decreases-links
decreases-links g l = 3 * tighter l.level + 1

abbrev pub decreases-behind : goal.decreases-behind
decreases-behind g l = 3 * tighter l.level + 2

abbrev pub invariant-links-loop-turn : goal.invariant-links-loop-turn
invariant-links-loop-turn g l = (l._turn-end ≡ length l.fn.tokens)
    × (grown (map link_view l.found.items) (many_to (l._turn-end - l._turn) (infix_of (operands_of l.fn.level)) (linked (tier (tighter l.fn.level) (signed l.self.depth (under l.self.depth)))) l.tokens) ≡ many_to (length l.fn.tokens) (infix_of (operands_of l.fn.level)) (linked (tier (tighter l.fn.level) (signed l.self.depth (under l.self.depth)))) l.fn.tokens)

abbrev pub invariant-tier-loop-below : goal.invariant-tier-loop-below
invariant-tier-loop-below g l = tier l.below (signed l.self.depth (under l.self.depth)) l.fn.tokens ≡ ok (ex_view l.read) l.tokens
