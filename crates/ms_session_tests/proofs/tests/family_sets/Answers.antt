use Rattle.std.proofs.Common.{subst, sym, ◌∙◌, ap, ◌∷◌, []}
use Rattle.std.specs.Prelude.{pos}
use Rattle.ms_boxes.specs.Trees.{IsConstraint}
use Rattle.ms_boxes.specs.Boxes.{box_of}
use Rattle.ms_session_tests.proofs.Sampled.{square_admits, within_whole}
use Rattle.ms_session_tests.proofs.tests.family_sets.Goals as goal

pub returns : goal.returns
returns c = λ q f. subst (λ items. IsConstraint (box_of items) q) (sym c.in_ok-vec.ensures.items) (square_admits c.hull_laws.ensures.well_formed c.in_ok-xs.xs c.in_ok-ys.ys c.in_ok-ys.ensures.proper (c.in_ok-xs.ensures ∙ ap (λ v. v ∷ []) c.new.ensures) (within_whole c.in_ok-ys.ys c.in_ok-from_iv.field-0 (record { lo = pos 0; hi = pos 3 }) _ (c.in_ok-from_iv.ensures ∙ ap (λ v. v ∷ []) c.new-2.ensures) c.in_ok-ys.ensures.members) q f)
