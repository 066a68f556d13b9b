-- The numbers between two ends that pass, as a set.
use Rattle.std.specs.Prelude.{Bool, ◌&&◌, ℤ, int_le}
use Rattle.ms_num.specs.Sets.{Set}

abbrev pub bounded : ℤ → ℤ → (ℤ → Bool) → Set
bounded lo hi p = record { lo = lo; hi = hi; has = λ z. int_le lo z && int_le z hi && p z }
