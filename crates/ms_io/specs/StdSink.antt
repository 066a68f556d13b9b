-- What contracts see of a `StdSink`.
use Rattle.std.specs.Prelude.{ℕ}

pub record Writing (W : Type 0) : Type 0 where
  pub writer : W
  pub faults : ℕ
