use Rattle.std.proofs.Common.{ℕ, ◌∙◌, suc, ap, sym, arith, take, drop}
use Rattle.std.proofs.lemmas.List.{append-nil}
use Rattle.ms_arrays.proofs.Lists.{row_more}
use Rattle.ms_arrays.proofs.tables.in_rows.Goals as goal

pub loop-turn-preserved : goal.loop-turn-preserved
loop-turn-preserved c = λ left h.
    let rest = c.loop-turn.rest.now in
    let row = c.from_vec.ensures ∙ c.in_ok-from_slice.ensures.items ∙ c.split_at.ensures.front ∙ ap (λ (k : ℕ). take k rest) c.min.ensures in
    let behind = c.split_at.ensures.back ∙ ap (λ (k : ℕ). drop k rest) c.min.ensures in
    rw c.in_ok-push.ensures.items (row_more c.args.width left c.loop-turn.made.items rest c.from_vec.result c.split_at.result.1.now row behind ∙ c.loop-turn.invariant (suc left) (omega (arith, h)))

pub returns : goal.returns
returns c = c.from_vec-2.ensures ∙ sym (append-nil c.loop-turn.made.items) ∙ c.loop-turn.invariant 0 (omega arith)
