use Rattle.std.proofs.Common.{◌≡◌, ◌+◌, suc, map, ap, ◌∙◌, subst, arith}
use Rattle.std.proofs.lemmas.Result.{err_from_is_err_and}
use Rattle.ms_syntax.specs.Tree.{ex_view, link_view}
use Rattle.ms_expressions.specs.Rules.{under, signed, tier, behind}
use Rattle.ms_cursor.specs.Reading.{ok}
use Rattle.ms_cursor.specs.Reads.{Fails}
use Rattle.ms_cursor.specs.Kinds.{infix_of}
use Rattle.ms_cursor.specs.Level.{tighter, operands_of}
use Rattle.ms_expressions.proofs.Depth.{tier_next, tier_none, tier_fails, operand_fails}
use Rattle.ms_expressions.proofs.Linked.{linked, none_behind, link_step, link_stop, link_fails}
use Rattle.ms_expressions.proofs.Loops.{each_over}
use Rattle.ms_expressions.proofs.Views.{one_link_more}
use Rattle.ms_expressions.proofs.grammar.Grammar.+tiers.Goals as goal

pub links-returns-in_default : goal.links-returns-in_default
links-returns-in_default g t c =
    let operand = tier (tighter c.args.level) (signed c.args.self.now.depth (under c.args.self.now.depth)) in
    link_stop (operands_of c.args.level) operand c.left-turn-end.result c.loop-turn._turn (map link_view c.loop-turn.found.items) c.loop-turn.tokens c.eat_infix.new.self _ c.loop-turn.invariant.1 c.in_default.ensures.taken c.in_default.ensures.rest

pub links-returns-in_err-operand : goal.links-returns-in_err-operand
links-returns-in_err-operand g t c =
    let operand = tier (tighter c.args.level) (signed c.args.self.now.depth (under c.args.self.now.depth)) in
    let failed = link_fails (operands_of c.args.level) operand c.left-turn-end.result c.loop-turn._turn (map link_view c.loop-turn.found.items) c.loop-turn.tokens c.eat_infix.new.self _ c.loop-turn.invariant.1 (omega arith)
    c.in-Some.operator c.in-Some.token.now c.in-Some.ensures.taken c.in-Some.ensures.rest c.in_err-operand.field-0.0
    (subst (λ n. Fails (tier n (signed c.args.self.now.depth (under c.args.self.now.depth)) c.eat_infix.new.self) c.in_err-operand.field-0.0) c.tighter.ensures.value c.in_err-operand.ensures) in
    let p = err_from_is_err_and c.from_residual.result c.from_residual.ensures.1 in
    rw (p.1, p.2) failed

pub links-loop-turn-preserved : goal.links-loop-turn-preserved
links-loop-turn-preserved g t c =
    let operand = tier (tighter c.args.level) (signed c.args.self.now.depth (under c.args.self.now.depth)) in (
      c.loop-turn.invariant.0,
      link_step (operands_of c.args.level) operand c.left-turn-end.result c.loop-turn._turn (map link_view c.loop-turn.found.items) c.loop-turn.tokens c.eat_infix.new.self _ c.loop-turn.invariant.1 (omega arith)
          c.in-Some.operator c.in-Some.token.now c.in-Some.ensures.taken c.in-Some.ensures.rest (map link_view c.push.new.self.items) (ex_view c.in_ok-operand.operand) c.tier.new.tokens
          (subst (λ n. tier n (signed c.args.self.now.depth (under c.args.self.now.depth)) c.eat_infix.new.self ≡ ok (ex_view c.in_ok-operand.operand) c.tier.new.tokens) c.tighter.ensures.value c.in_ok-operand.ensures)
          (one_link_more c.loop-turn.found.items c.push.new.self.items c.in-Some.operator c.in-Some.token.now.place c.in_ok-operand.operand c.in_ok-push.ensures.items),
    )

pub links-returns : goal.links-returns
links-returns g t c =
    let operand = tier (tighter c.args.level) (signed c.args.self.now.depth (under c.args.self.now.depth)) in
    each_over (infix_of (operands_of c.args.level)) (linked operand) c.left-turn-end.result c.loop-turn._turn (map link_view c.loop-turn.found.items) c.loop-turn.tokens _ c.loop-turn.invariant.1 (omega arith)

pub behind-returns-then-not-sees_infix : goal.behind-returns-then-not-sees_infix
behind-returns-then-not-sees_infix g t c =
    none_behind (tighter c.args.level) (tier (tighter c.args.level) (signed c.args.self.now.depth (under c.args.self.now.depth))) (ex_view c.args.first) c.args.tokens.now c.sees_infix.result c.sees_infix.ensures c.if-not-sees_infix.true

pub tier-returns-in_err-read : goal.tier-returns-in_err-read
tier-returns-in_err-read g t c =
    let failed = operand_fails c.args.levels (signed c.args.self.now.depth (under c.args.self.now.depth)) c.args.tokens.now c.in_err-read.field-0.0 c.in_err-read.ensures in
    let p = err_from_is_err_and c.from_residual.result c.from_residual.ensures.1 in
    rw (p.1, p.2) failed

pub tier-loop-below-init : goal.tier-loop-below-init
tier-loop-below-init g t c = tier_none (signed c.args.self.now.depth (under c.args.self.now.depth)) c.args.tokens.now ∙ c.in_ok-read.ensures

pub tier-returns-in_err-read-2 : goal.tier-returns-in_err-read-2
tier-returns-in_err-read-2 g t c =
    let failed = tier_fails c.loop-below.below c.args.levels (signed c.args.self.now.depth (under c.args.self.now.depth)) c.args.tokens.now c.loop-below.tokens (ex_view c.loop-below.read) c.in_err-read-2.field-0.0 (omega arith) c.loop-below.invariant (subst (λ h. Fails (behind h (tier h (signed c.args.self.now.depth (under c.args.self.now.depth))) (ex_view c.loop-below.read) c.loop-below.tokens) c.in_err-read-2.field-0.0) c.above.ensures c.in_err-read-2.ensures) in
    let p = err_from_is_err_and c.from_residual-in_err-read-2.result c.from_residual-in_err-read-2.ensures.1 in
    rw (p.1, p.2) failed

pub tier-loop-below-preserved : goal.tier-loop-below-preserved
tier-loop-below-preserved g t c =
    let operand = signed c.args.self.now.depth (under c.args.self.now.depth) in
    let one : c.loop-below.below + 1 ≡ suc c.loop-below.below = omega arith in
    ap (λ n. tier n operand c.args.tokens.now) one ∙ tier_next c.loop-below.below operand c.args.tokens.now c.loop-below.tokens (ex_view c.loop-below.read) c.loop-below.invariant
    ∙ subst (λ h. behind h (tier h operand) (ex_view c.loop-below.read) c.loop-below.tokens ≡ ok (ex_view c.in_ok-read-2.read) c.behind.new.tokens) c.above.ensures c.in_ok-read-2.ensures
