-- The product of two numbers within the limits.
use Rattle.std.proofs.Common.{◌≡◌, ◌^◌, ◌-◌, refl, sym, ap, ◌∙◌, arith}
use Rattle.std.specs.Prelude.{ℤ, pos, negsuc, ◌*ℤ◌, ◌≤ℤ◌}
use Rattle.ms_num.specs.Numbers.{mul_at}
use Rattle.ms_num.specs.Span.{Span, Has, IsResult, IsLeast, IsWithin, mul_span}
use Rattle.ms_num.specs.Laws.{GivesLeast}

abbrev pub limits : Span
limits = record { lo = negsuc (2 ^ 50 - 1); hi = pos (2 ^ 50) }

pub product_within : GivesLeast mul_at mul_span → (x y : ℤ) → IsWithin x → IsWithin y → Has (mul_span limits limits) (x *ℤ y)
product_within law x y h k = (law limits limits (record { le = tt }) (record { le = tt })).all (x *ℤ y) (record { left = x; right = y; left_in = record { from = h.low; to = h.high }; right_in = record { from = k.low; to = k.high }; gives = refl })

pub product_low : GivesLeast mul_at mul_span → (x y : ℤ) → IsWithin x → IsWithin y → negsuc (2 ^ 100 - 1) ≤ℤ (x *ℤ y)
product_low law x y h k = (product_within law x y h k).from

pub product_high : GivesLeast mul_at mul_span → (x y : ℤ) → IsWithin x → IsWithin y → (x *ℤ y) ≤ℤ pos (2 ^ 100)
product_high law x y h k = (product_within law x y h k).to
