-- A set by its ends and the numbers between them; for the crates above as well.
use Rattle.std.proofs.Common.{◌≡◌, sym, ap, ◌∙◌, Bool}
use Rattle.std.specs.Prelude.{ℤ, ◌≤ℤ◌}
use Rattle.std.proofs.Math.Path.{fun_ext}
use Rattle.ms_num.specs.Sets.{Set, IsSet}
use Rattle.ms_num.proofs.SharedMembers.{same_tests}
use Rattle.ms_domains.specs.Bounded.{bounded}
use Rattle.ms_domains.proofs.Parts.{in_of, of_in}

abbrev set_of_parts : ℤ → ℤ → (ℤ → Bool) → Set
set_of_parts a b f = record { lo = a; hi = b; has = f }

-- a set is what its numbers between its ends are
pub bounded_is : (s : Set) (p : ℤ → Bool) → IsSet s → ((z : ℤ) → s.lo ≤ℤ z → z ≤ℤ s.hi → p z ≡ s.has z) → bounded s.lo s.hi p ≡ s
bounded_is s p i h = ap (set_of_parts s.lo s.hi) (fun_ext (λ z. same_tests ((bounded s.lo s.hi p).has z) (s.has z)
    (λ e. let q = in_of s.lo s.hi p z e in sym (h z q.from q.to) ∙ q.passes)
    (λ e. of_in s.lo s.hi p z (record { from = i.from z e; to = i.to z e; passes = h z (i.from z e) (i.to z e) ∙ e }))))
