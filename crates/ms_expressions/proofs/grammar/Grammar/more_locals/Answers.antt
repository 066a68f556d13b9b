use Rattle.std.proofs.Common.{suc, map, [], ◌∷◌, ap, ◌∙◌, arith}
use Rattle.std.proofs.lemmas.List.{map-append}
use Rattle.std.proofs.lemmas.Result.{err_from_is_err_and}
use Rattle.ms_syntax.specs.Tree.{declaration_view}
use Rattle.ms_expressions.specs.Nests.{turn_view}
use Rattle.ms_expressions.specs.Rules.{under, more_locals, local_turn}
use Rattle.ms_expressions.proofs.Told.{told}
use Rattle.ms_expressions.proofs.Turns.{locals_unroll, locals_over, locals_open, turn_more, turn_last, turn_fails, turns_over}
use Rattle.ms_expressions.proofs.grammar.Grammar.more_locals.Goals as goal

pub loop-turn-preserved : goal.loop-turn-preserved
loop-turn-preserved g c =
    let d = c.args.self.now.depth in
    let found = map declaration_view c.loop-turn.found.items in (
      c.loop-turn.invariant.0,
      turn_more (more_locals d (under (suc d)) (under d)) (local_turn d (under (suc d)) (under d)) (locals_unroll d (under (suc d)) (under d)) c.left-turn-end.result c.loop-turn._turn found c.loop-turn.tokens _ c.loop-turn.invariant.1 (omega arith)
          (map declaration_view c.push.new.self.items) (declaration_view c.in-Item.declaration) c.local_turn.new.tokens (told (turn_view declaration_view) _ _ _ _ c.in_ok-declaration.ensures c.in-Item.is)
          (ap (map declaration_view) c.in_ok-push-in-Item.ensures.items ∙ map-append declaration_view c.loop-turn.found.items (c.in-Item.declaration ∷ [])),
    )

pub returns-in-Last : goal.returns-in-Last
returns-in-Last g c =
    let d = c.args.self.now.depth in
    turn_last (more_locals d (under (suc d)) (under d)) (local_turn d (under (suc d)) (under d)) (locals_unroll d (under (suc d)) (under d)) c.left-turn-end.result c.loop-turn._turn (map declaration_view c.loop-turn.found.items) c.loop-turn.tokens _ c.loop-turn.invariant.1 (omega arith)
    c.in-Last.closed c.local_turn.new.tokens (told (turn_view declaration_view) _ _ _ _ c.in_ok-declaration.ensures c.in-Last.is)

pub returns-in_err-declaration : goal.returns-in_err-declaration
returns-in_err-declaration g c =
    let d = c.args.self.now.depth in
    let failed = turn_fails (more_locals d (under (suc d)) (under d)) (local_turn d (under (suc d)) (under d)) (locals_unroll d (under (suc d)) (under d)) c.left-turn-end.result c.loop-turn._turn (map declaration_view c.loop-turn.found.items) c.loop-turn.tokens _ c.loop-turn.invariant.1 (omega arith)
    c.in_err-declaration.field-0.0 c.in_err-declaration.ensures in
    let p = err_from_is_err_and c.from_residual.result c.from_residual.ensures.1 in
    rw (p.1, p.2) failed

pub returns : goal.returns
returns g c =
    let d = c.args.self.now.depth in
    let over = turns_over (more_locals d (under (suc d)) (under d)) c.left-turn-end.result c.loop-turn._turn (map declaration_view c.loop-turn.found.items) c.loop-turn.tokens _ c.loop-turn.invariant.1 (omega arith) in
    locals_over d (under (suc d)) (under d) (map declaration_view c.loop-turn.found.items) c.loop-turn.tokens _ over (tt, c.in_ok-expect.field-0.now) c.expect.new.self c.in_ok-expect.ensures

pub returns-in_err-expect : goal.returns-in_err-expect
returns-in_err-expect g c =
    let d = c.args.self.now.depth in
    let over = turns_over (more_locals d (under (suc d)) (under d)) c.left-turn-end.result c.loop-turn._turn (map declaration_view c.loop-turn.found.items) c.loop-turn.tokens _ c.loop-turn.invariant.1 (omega arith) in
    let failed = locals_open d (under (suc d)) (under d) (map declaration_view c.loop-turn.found.items) c.loop-turn.tokens _ over c.in_err-expect.field-0.0 c.in_err-expect.ensures in
    let p = err_from_is_err_and c.from_residual-in_err-expect.result c.from_residual-in_err-expect.ensures.1 in
    rw (p.1, p.2) failed
