use Rattle.std.proofs.Common.{◌≡◌, ◌-◌, length, drop, take, ap, ◌∙◌, arith, length-drop, length-take, ◌++◌, ◌∷◌, []}
use Rattle.ms_lexer.specs.Reading.{piece_of}
use Rattle.ms_syntax.specs.Cut.{spanned}
use Rattle.ms_lexer.proofs.Steps.{among_here, fault_here, cut_step, sizes_step, blank_step, token_step, place_step}
use Rattle.ms_lexer.proofs.lexer.cut.Goals as goal
use Rattle.ms_lexer.proofs.lexer.cut.Goals.{in-Some+in_ok-push-in-Some, in-None}

pub returns-in-Err-clause-fault : goal.returns-in-Err-clause-fault
returns-in-Err-clause-fault c =
    let inv = c.loop-start.invariant in
    fault_here c.args.bytes.now inv.forms c.loop-start.start c.fault_at.result c.in-Err.e inv.cut (omega arith) c.fault_at.ensures c.in-Err.ensures.form

pub returns-in-Err-clause-within : goal.returns-in-Err-clause-within
returns-in-Err-clause-within c =
    let all = c.args.bytes.now in
    let start = c.loop-start.start in
    let rest = take (length all - start) (drop start all) in
    let rest_len : length rest ≡ length all - start = omega (arith, length-take (length all - start) (drop start all), length-drop start all) in
    among_here (length all) (length rest) start c.fault_at.result c.in-Err.e c.fault_at.ensures c.in-Err.ensures.offset (omega (arith, rest_len))

pub loop-start-preserved : goal.loop-start-preserved
loop-start-preserved c =
    let inv = c.loop-start.invariant in
    let all = c.args.bytes.now in
    let start = c.loop-start.start in
    let found = c.in-Ok.piece.0 in
    let len = c.in-Ok.piece.1 in
    let rest = take (length all - start) (drop start all) in
    let rest_len : length rest ≡ length all - start = omega (arith, length-take (length all - start) (drop start all), length-drop start all) in
    let part_len : length (take len rest) ≡ len = omega (arith, length-take len rest, rest_len, c.in-Ok.ensures.within) in
    record {
      forms = inv.forms ++ piece_of found len ∷ [];
      cut = cut_step c.args.file all inv.forms start len found inv.cut inv.behind c.in-Ok.ensures.form (omega arith);
      found = elim c.match-token.branch as (λ _. c.match-token.found.items ≡ spanned c.args.file all 0 (inv.forms ++ piece_of found len ∷ [])) [
        | in-Some+in_ok-push-in-Some w ↦ token_step c.args.file all inv.forms start len inv.behind c.loop-start.found.items c.match-token.found.items inv.found found w.in-Some.token c.loop-start.place w.in-Some.is inv.place
            (ap (λ v. v.items) w.found-is ∙ w.in_ok-push-in-Some.ensures.items)
        | in-None w ↦ blank_step c.args.file all inv.forms start len inv.behind c.loop-start.found.items c.match-token.found.items inv.found found w.in-None.is (ap (λ v. v.items) w.found-is)
      ];
      behind = sizes_step c.args.file all inv.forms start len found inv.cut inv.behind c.in-Ok.ensures.form (omega arith);
      place = place_step c.args.file all start len c.loop-start.place c.place_after-place.result inv.place c.place_after-place.ensures.value;
      line = omega (arith, part_len, inv.line, c.place_after-place.ensures.line);
      col = (c.place_after-place.ensures.col.0, omega (arith, part_len, inv.col, c.place_after-place.ensures.col));
      within = omega (arith, rest_len, c.in-Ok.ensures.within);
    }
