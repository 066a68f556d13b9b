-- An element of a list whose elements all pass.
use Rattle.std.proofs.Common.{ℕ, ℤ, pos, zero, suc, ◌<◌, Bool, true, false, ◌&&◌, List, [], ◌∷◌, length, get_or, IsTrue, arith}
use Rattle.std.specs.List.{list_all}
use Rattle.ms_num.specs.Span.{is_within}

both : (a b : Bool) → IsTrue (a && b) → IsTrue a × IsTrue b
both true true h = (h, h)
both true false h = absurd (cc)
both false b h = absurd (cc)

pub within_at : (xs : List ℤ) (k : ℕ) → IsTrue (list_all is_within xs) → k < length xs → IsTrue (is_within (get_or xs k (pos 0)))
within_at [] k h l = absurd (omega (arith, l))
within_at (x ∷ xs) zero h l = (both (is_within x) (list_all is_within xs) h).0
within_at (x ∷ xs) (suc k) h l = within_at xs k (both (is_within x) (list_all is_within xs) h).1 (omega (arith, l))
