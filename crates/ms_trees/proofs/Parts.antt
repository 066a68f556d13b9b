-- Parts that may be asked, by the sorts that a node asks of them.
use Rattle.std.specs.Prelude.{◌≡◌, List, true, false, map}
use Rattle.ms_num.specs.Span.{Span}
use Rattle.ms_trees.specs.WellFormed.{is_well_formed, is_numeric, are_numbers, checked, IsTruth}
use Rattle.ms_trees.specs.declared.tree.Ground.{Ground}

-- an integer tree that may be asked
pub record IsNumber (b : List Span) (x : Ground) : Type 0 where
  pub fit : is_well_formed b x ≡ true
  pub numeric : is_numeric x ≡ true

-- two integer trees that may be asked
pub record AreNumbers (b : List Span) (x y : Ground) : Type 0 where
  pub left : is_well_formed b x ≡ true
  pub right : is_well_formed b y ≡ true
  pub left_numeric : is_numeric x ≡ true
  pub right_numeric : is_numeric y ≡ true

-- two Boolean trees that may be asked
pub record AreTruths (b : List Span) (x y : Ground) : Type 0 where
  pub left : is_well_formed b x ≡ true
  pub right : is_well_formed b y ≡ true
  pub left_boolean : is_numeric x ≡ false
  pub right_boolean : is_numeric y ≡ false

-- a list of integer trees and one more that may be asked
pub record ListAnd (b : List Span) (xs : List Ground) (y : Ground) : Type 0 where
  pub list : are_numbers (map (checked b) xs) ≡ true
  pub beside : IsNumber b y

pub record ListAndTwo (b : List Span) (xs : List Ground) (y z : Ground) : Type 0 where
  pub list : are_numbers (map (checked b) xs) ≡ true
  pub first : IsNumber b y
  pub second : IsNumber b z

-- a condition and two branches that may be asked
pub record NumberBranches (b : List Span) (c x y : Ground) : Type 0 where
  pub condition : IsTruth b c
  pub first : IsNumber b x
  pub second : IsNumber b y

pub record TruthBranches (b : List Span) (c x y : Ground) : Type 0 where
  pub condition : IsTruth b c
  pub first : IsTruth b x
  pub second : IsTruth b y
