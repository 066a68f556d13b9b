use Rattle.std.proofs.Common.{map, [], ◌∷◌, ap, ◌∙◌, arith}
use Rattle.std.proofs.lemmas.List.{map-append}
use Rattle.std.proofs.lemmas.Result.{err_from_is_err_and}
use Rattle.ms_expressions.proofs.Loops.{loop_step, loop_stop, loop_fails, loop_over}
use Rattle.ms_expressions.proofs.grammar.Grammar.more.Goals as goal

pub loop-turn-preserved : goal.loop-turn-preserved
loop-turn-preserved g c =
    let inv = c.loop-turn.invariant in
    let found = map g.T.Part.view c.loop-turn.found.items in (
      inv.0,
      loop_step (g.M.Mark.matches c.args.mark) (g.T.Part.rule c.args.self.now) c.left-turn-end.result c.loop-turn._turn found c.loop-turn.tokens c.takes.new.self _ c.takes.result inv.1 c.takes.ensures.taken c.takes.ensures.rest
          (map g.T.Part.view c.push.new.self.items) (g.T.Part.view c.in_ok-read.field-0) c.read.new.tokens (omega arith) c.if-not-takes.false c.in_ok-read.ensures
          (ap (map g.T.Part.view) c.in_ok-push.ensures.items ∙ map-append g.T.Part.view c.loop-turn.found.items (c.in_ok-read.field-0 ∷ [])),
    )

pub returns-then-not-takes : goal.returns-then-not-takes
returns-then-not-takes g c =
    loop_stop (g.M.Mark.matches c.args.mark) (g.T.Part.rule c.args.self.now) c.left-turn-end.result c.loop-turn._turn (map g.T.Part.view c.loop-turn.found.items) c.loop-turn.tokens c.takes.new.self _ c.takes.result c.loop-turn.invariant.1 c.takes.ensures.taken c.takes.ensures.rest c.if-not-takes.true

pub returns : goal.returns
returns g c =
    loop_over (g.M.Mark.matches c.args.mark) (g.T.Part.rule c.args.self.now) c.left-turn-end.result c.loop-turn._turn (map g.T.Part.view c.loop-turn.found.items) c.loop-turn.tokens _ c.loop-turn.invariant.1 (omega arith)

pub returns-in_err-read : goal.returns-in_err-read
returns-in_err-read g c =
    let failed = loop_fails (g.M.Mark.matches c.args.mark) (g.T.Part.rule c.args.self.now) c.left-turn-end.result c.loop-turn._turn (map g.T.Part.view c.loop-turn.found.items) c.loop-turn.tokens c.takes.new.self _ c.takes.result c.loop-turn.invariant.1 c.takes.ensures.taken c.takes.ensures.rest
    c.in_err-read.field-0.0 (omega arith) c.if-not-takes.false c.in_err-read.ensures in
    let p = err_from_is_err_and c.from_residual.result c.from_residual.ensures.1 in
    rw (p.1, p.2) failed
