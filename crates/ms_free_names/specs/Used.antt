-- What is kept while the names that a text uses are found.
use Rattle.ms_free_names.specs.Uses.{Words}

-- the names that are bound around, and those that were used where they are not
pub record Used : Type 0 where
  pub bound : Words
  pub found : Words
