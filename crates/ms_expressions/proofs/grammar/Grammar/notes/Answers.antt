use Rattle.std.proofs.Common.{suc, map, [], ◌∷◌, ap, ◌∙◌, sym, subst, arith}
use Rattle.std.proofs.lemmas.List.{map-append}
use Rattle.ms_syntax.specs.Tree.{note_view}
use Rattle.ms_syntax.specs.declared.token.Symbol.TheVariants as s
use Rattle.ms_cursor.specs.Reading.{ok}
use Rattle.ms_cursor.specs.Reads.{Fails}
use Rattle.ms_cursor.specs.Kinds.{symbol}
use Rattle.ms_expressions.specs.Rules.{under, note_rest}
use Rattle.ms_expressions.proofs.Loops.{each_step, each_stop, each_fails, each_over}
use Rattle.std.proofs.lemmas.Result.{err_from_is_err_and}
use Rattle.ms_expressions.proofs.grammar.Grammar.notes.Goals as goal

pub loop-turn-preserved : goal.loop-turn-preserved
loop-turn-preserved g c =
    let inv = c.loop-turn.invariant in
    let rest = note_rest c.args.self.now.depth (under (suc c.args.self.now.depth)) (under c.args.self.now.depth) in (
      inv.0,
      each_step (symbol s.ColonColon) (λ a y. rest y.place) c.left-turn-end.result c.loop-turn._turn (map note_view c.loop-turn.found.items) c.loop-turn.tokens _ inv.1 (omega arith) tt c.in-Some.token.now (sym c.in-Some.ensures.taken)
          (map note_view c.push.new.self.items) (note_view c.in_ok-note.field-0) c.note.new.tokens (ap (rest c.in-Some.token.now.place) (sym c.in-Some.ensures.rest) ∙ c.in_ok-note.ensures)
          (ap (map note_view) c.in_ok-push.ensures.items ∙ map-append note_view c.loop-turn.found.items (c.in_ok-note.field-0 ∷ [])),
    )

pub returns-in_default : goal.returns-in_default
returns-in_default g c =
    let inv = c.loop-turn.invariant in
    let rest = note_rest c.args.self.now.depth (under (suc c.args.self.now.depth)) (under c.args.self.now.depth) in
    each_stop (symbol s.ColonColon) (λ a y. rest y.place) c.left-turn-end.result c.loop-turn._turn (map note_view c.loop-turn.found.items) c.loop-turn.tokens _ inv.1 (sym c.in_default.ensures.taken)
    ∙ ap (ok (map note_view c.loop-turn.found.items)) (sym c.in_default.ensures.rest)

pub returns : goal.returns
returns g c =
    let inv = c.loop-turn.invariant in
    let rest = note_rest c.args.self.now.depth (under (suc c.args.self.now.depth)) (under c.args.self.now.depth) in
    each_over (symbol s.ColonColon) (λ a y. rest y.place) c.left-turn-end.result c.loop-turn._turn (map note_view c.loop-turn.found.items) c.loop-turn.tokens _ inv.1 (omega arith)

pub returns-in_err-note : goal.returns-in_err-note
returns-in_err-note g c =
    let inv = c.loop-turn.invariant in
    let rest = note_rest c.args.self.now.depth (under (suc c.args.self.now.depth)) (under c.args.self.now.depth) in
    let failed = each_fails (symbol s.ColonColon) (λ a y. rest y.place) c.left-turn-end.result c.loop-turn._turn (map note_view c.loop-turn.found.items) c.loop-turn.tokens _ inv.1 (omega arith) tt c.in-Some.token.now (sym c.in-Some.ensures.taken)
    c.in_err-note.field-0.0 (subst (λ t. Fails (rest c.in-Some.token.now.place t) c.in_err-note.field-0.0) c.in-Some.ensures.rest c.in_err-note.ensures) in
    let p = err_from_is_err_and c.from_residual.result c.from_residual.ensures.1 in
    rw (p.1, p.2) failed
