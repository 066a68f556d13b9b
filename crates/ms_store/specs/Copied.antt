-- The lists of a store that copies.
use Rattle.std.specs.Prelude.{◌≡◌, ◌<◌, ◌^◌, List, length}
use Rattle.std.specs.List.{All}
use Rattle.ms_num.specs.Span.{Span}
use Rattle.ms_cells.specs.Cells.{Lists}
use Rattle.ms_store.specs.Stored.{IsFilled}

-- no set is empty, and each saved list has as many as the current one
pub record IsCopied (l : Lists (List Span)) : Type 0 where
  pub few : length l.current < 2 ^ 32
  pub lengths : All (λ s. length s ≡ length l.current) l.saved
  pub filled : All IsFilled l.current
  pub saved : All (λ s. All IsFilled s) l.saved
