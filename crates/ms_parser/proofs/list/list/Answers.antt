use Rattle.std.proofs.Common.{◌≡◌, ◌-◌, map, [], ◌∷◌, ◌++◌, length, false, ap, sym, ◌∙◌, arith, rules}
use Rattle.std.proofs.lemmas.List.{map-append}
use Rattle.std.proofs.lemmas.Result.{err_from_is_err_and}
use Rattle.ms_cursor.specs.Reading.{ok}
use Rattle.ms_expressions.specs.Nests.{turn_view}
use Rattle.ms_expressions.specs.Rules.{last}
use Rattle.ms_parser.specs.Lists.{more_items, item_turn}
use Rattle.ms_expressions.specs.Rules as r
use Rattle.ms_expressions.proofs.Turns.{grown_by, turn_more, turn_last, turn_fails}
use Rattle.ms_parser.proofs.Listed.{items_unroll, items_none, items_begin, items_fail, items_over, items_left, finish_none}
use Rattle.ms_parser.proofs.list.list.Goals as goal

pub returns-then-is_empty : goal.returns-then-is_empty
returns-then-is_empty g c =
    let none : c.args.tokens.now ≡ [] = search rules in
    items_none (g.T.Entry.rule) c.args.tokens.now none ∙ ap (λ v. ok (map (g.T.Entry.view) v, false) c.args.tokens.now) (sym c.new-found.ensures.items)

pub returns-in_err-read : goal.returns-in_err-read
returns-in_err-read g c =
    let some : c.args.tokens.now ≡ [] → ⊥ = search rules in
    let failed = items_fail (g.T.Entry.rule) c.args.tokens.now c.in_err-read.field-0.0 some c.in_err-read.ensures in
    let p = err_from_is_err_and c.from_residual.result c.from_residual.ensures.1 in
    rw (p.1, p.2) failed

pub loop-turn-init : goal.loop-turn-init
loop-turn-init g c =
    let some : c.args.tokens.now ≡ [] → ⊥ = search rules in
    let whole : c.left-turn-end.result - 0 ≡ length c.read.new.tokens = omega (arith, c.left-turn-end.ensures) in
    let one : map (g.T.Entry.view) c.push.new.self.items ≡ (g.T.Entry.view) c.in_ok-read.field-0 ∷ [] = ap (map (g.T.Entry.view)) (c.in_ok-push.ensures.items ∙ ap (λ v. v ++ c.in_ok-read.field-0 ∷ []) c.new-found.ensures.items) in
    ap (λ k. grown_by (map (g.T.Entry.view) c.push.new.self.items) (more_items (g.T.Entry.rule) k c.read.new.tokens)) whole
    ∙ items_begin (g.T.Entry.rule) c.args.tokens.now (map (g.T.Entry.view) c.push.new.self.items) ((g.T.Entry.view) c.in_ok-read.field-0) c.read.new.tokens some c.in_ok-read.ensures one

pub returns-in_err-entry : goal.returns-in_err-entry
returns-in_err-entry g c =
    let failed = turn_fails (more_items (g.T.Entry.rule)) (item_turn (g.T.Entry.rule)) (items_unroll (g.T.Entry.rule)) c.left-turn-end.result c.loop-turn._turn (map (g.T.Entry.view) c.loop-turn.found.items) c.loop-turn.tokens _ c.loop-turn.invariant c.loop-turn-test.true
    c.in_err-entry.field-0.0 c.in_err-entry.ensures in
    let p = err_from_is_err_and c.from_residual-in_err-entry.result c.from_residual-in_err-entry.ensures.1 in
    rw (p.1, p.2) failed

pub returns-in-Last : goal.returns-in-Last
returns-in-Last g c =
    let turn : item_turn (g.T.Entry.rule) c.loop-turn.tokens ≡ ok (last c.in-Last.closed) c.turn.new.tokens = c.in_ok-entry.ensures ∙ ap (λ v. ok (turn_view (g.T.Entry.view) v) c.turn.new.tokens) c.in-Last.is in
    turn_last (more_items (g.T.Entry.rule)) (item_turn (g.T.Entry.rule)) (items_unroll (g.T.Entry.rule)) c.left-turn-end.result c.loop-turn._turn (map (g.T.Entry.view) c.loop-turn.found.items) c.loop-turn.tokens _ c.loop-turn.invariant c.loop-turn-test.true
    c.in-Last.closed c.turn.new.tokens turn

pub loop-turn-preserved : goal.loop-turn-preserved
loop-turn-preserved g c =
    let turn : item_turn (g.T.Entry.rule) c.loop-turn.tokens ≡ ok (r.item ((g.T.Entry.view) c.in-Item.entry)) c.turn.new.tokens = c.in_ok-entry.ensures ∙ ap (λ v. ok (turn_view (g.T.Entry.view) v) c.turn.new.tokens) c.in-Item.is in
    turn_more (more_items (g.T.Entry.rule)) (item_turn (g.T.Entry.rule)) (items_unroll (g.T.Entry.rule)) c.left-turn-end.result c.loop-turn._turn (map (g.T.Entry.view) c.loop-turn.found.items) c.loop-turn.tokens _ c.loop-turn.invariant c.loop-turn-test.true
    (map (g.T.Entry.view) c.push-in-Item.new.self.items) ((g.T.Entry.view) c.in-Item.entry) c.turn.new.tokens turn (ap (map (g.T.Entry.view)) c.in_ok-push-in-Item.ensures.items ∙ map-append (g.T.Entry.view) c.loop-turn.found.items (c.in-Item.entry ∷ []))

pub returns-in_err-finish : goal.returns-in_err-finish
returns-in_err-finish g c =
    let failed = items_left (g.T.Entry.rule) c.left-turn-end.result c.loop-turn._turn (map (g.T.Entry.view) c.loop-turn.found.items) c.loop-turn.tokens _ c.loop-turn.invariant (omega arith) c.in_err-finish.field-0.0 c.in_err-finish.ensures in
    let p = err_from_is_err_and c.from_residual-in_err-finish.result c.from_residual-in_err-finish.ensures.1 in
    rw (p.1, p.2) failed

pub returns : goal.returns
returns g c =
    let ended : c.loop-turn.tokens ≡ [] = finish_none c.loop-turn.tokens _ c.in_ok-finish.ensures in
    items_over (g.T.Entry.rule) c.left-turn-end.result c.loop-turn._turn (map (g.T.Entry.view) c.loop-turn.found.items) c.loop-turn.tokens _ c.loop-turn.invariant (omega arith) ended
