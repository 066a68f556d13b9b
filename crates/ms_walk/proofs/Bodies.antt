-- The body of a function is opened.
use Rattle.std.proofs.Common.{◌≡◌, ℕ, zero, suc, ◌-◌, ◌<◌, List, ◌∷◌, refl, ap, Some, Result, arith}
use Rattle.ms_base.specs.declared.run.Count.TheVariants as count
use Rattle.ms_syntax.specs.declared.token.Place.{Place}
use Rattle.ms_code.specs.declared.code.Code.{Code}
use Rattle.ms_values.specs.declared.operand.Operand.{Operand}
use Rattle.ms_placing.specs.declared.fault.PlaceFault.{PlaceFault}
use Rattle.ms_placing.specs.declared.fault.PlaceFault.TheVariants as f
use Rattle.ms_placing.specs.Outside.{Outside}
use Rattle.ms_placing.specs.Steps.{Out, bad, Step, Rest, visit}
use Rattle.ms_placing.specs.Placing as p
use Rattle.ms_frames.specs.declared.frame.Here.{Here}
use Rattle.ms_frames.specs.declared.frame.Frame.{Frame}
use Rattle.ms_frames.specs.declared.frame.Frame.TheVariants as w
use Rattle.ms_frames.specs.declared.frame.Task.{Task}
use Rattle.ms_frames.specs.Frames.{Goes, calls, part, run_in, back, resume}

-- the answer to what is the same is the same
pub shows : (out : Outside) (o o' : Out) (r : Result Task PlaceFault) (fs : List Frame) (here : Here) (n : ℕ) (ws : List ℕ) → o ≡ o' → Goes out o' r fs here n ws → Goes out o r fs here n ws
shows out o o' r fs here n ws h g = rw h g

pub none_opens : (out : Outside) (d : ℕ) (q : Place) (body : Code) (xs : List Operand) (k : Rest) (n : ℕ) (ws : List ℕ) → d ≡ 0
    → p.opener out d q body xs k n ws ≡ bad (f.Big count.Nesting q) n ws
unfolding p.opener
none_opens out d q body xs k n ws h = rw h refl

one_opens : (out : Outside) (d : ℕ) (q : Place) (body : Code) (xs : List Operand) (k : Rest) → 0 < d
    → p.opener out d q body xs k ≡ part out (d - 1) body xs (λ r x. visit q (Some x) k)
unfolding p.opener
one_opens out zero q body xs k h = absurd (omega arith)
one_opens out (suc d) q body xs k h = let s : suc d - 1 ≡ d = omega arith in rw s refl

pub opens : (out : Outside) (fs fs' : List Frame) (here inner : Here) (q : Place) (body : Code) (xs : List Operand) (n : ℕ) (ws : List ℕ)
    → 0 < here.calls → inner ≡ record { calls = here.calls - 1; names = xs } → fs' ≡ w.Return q here ∷ fs
    → p.opener out here.calls q body xs (resume out fs here) n ws ≡ run_in out inner body (resume out fs' inner) n ws
unfolding resume back
opens out fs fs' here inner q body xs n ws h i k = rw (i, k) (ap (λ (s : Step). s n ws) (one_opens out here.calls q body xs (resume out fs here) h))
