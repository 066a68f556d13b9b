-- What a model of the plain form means: its ground trees, its solutions, and the least of them.
use Rattle.std.specs.Prelude.{◌≡◌, ℕ, zero, suc, List, [], ◌∷◌, map, fold, unwrap_or, ◌⊎◌, Bool, if◌then◌else◌, IsTrue, ℤ, pos, negsuc, ◌≤ℤ◌, ◌<ℤ◌}
use Rattle.std.specs.List.{list_all}
use Rattle.ms_trees.specs.declared.tree.Ground.{Ground}
use Rattle.ms_trees.specs.declared.tree.Ground.TheVariants as g
use Rattle.ms_trees.specs.Value.{value}
use Rattle.ms_top.specs.declared.plain.Number.{Number}
use Rattle.ms_top.specs.declared.plain.PlainDeclaration.{PlainDeclaration}
use Rattle.ms_top.specs.declared.plain.Term.{Term}
use Rattle.ms_top.specs.declared.plain.Term.TheVariants as term
use Rattle.ms_top.specs.declared.plain.Total.{Total}
use Rattle.ms_top.specs.declared.plain.Relation.{Relation}
use Rattle.ms_top.specs.declared.plain.Relation.TheVariants as relation
use Rattle.ms_top.specs.declared.plain.Comparison.{Comparison}
use Rattle.ms_top.specs.declared.plain.PlainModel.{PlainModel}
use Rattle.ms_top.specs.Plain.{place_of}
use Rattle.ms_top.specs.declared.domain.Domain.{Domain}

-- ---- ground trees

abbrev pub minus : ℕ → ℤ
minus zero = pos zero
minus (suc n) = negsuc n

abbrev pub integer_of : Number → ℤ
integer_of n = if n.negative then minus n.magnitude else pos n.magnitude

-- a name is the variable of its declaration
abbrev pub term_tree : List PlainDeclaration → Term → Ground
term_tree ds (term.Number n) = g.Num (integer_of n)
term_tree ds (term.Name w) = g.Var (unwrap_or (place_of ds w) 0)

-- added from the left
abbrev pub total_tree : List PlainDeclaration → Total → Ground
total_tree ds x = fold (λ sum y. g.Add sum (term_tree ds y)) (term_tree ds x.first) x.others

abbrev pub compared : Relation → Ground → Ground → Ground
compared relation.Equal x y = g.Eq x y
compared relation.NotEqual x y = g.Ne x y
compared relation.Less x y = g.Lt x y
compared relation.AtMost x y = g.Le x y
compared relation.Greater x y = g.Lt y x
compared relation.AtLeast x y = g.Le y x

abbrev pub comparison_tree : List PlainDeclaration → Comparison → Ground
comparison_tree ds c = compared c.relation (total_tree ds c.left) (total_tree ds c.right)

abbrev pub constraint_trees : PlainModel → List Ground
constraint_trees m = map (comparison_tree m.declarations) m.constraints

-- ---- assignments

abbrev pub domain_of : PlainDeclaration → Domain
domain_of d = record { lowest = integer_of d.lowest; highest = integer_of d.highest }

abbrev pub domains : PlainModel → List Domain
domains m = map domain_of m.declarations

-- one number for each domain, within it
abbrev pub Within : List Domain → List ℤ → Type 0
Within [] [] = Unit {0}
Within [] (z ∷ a) = ⊥
Within (d ∷ ds) [] = ⊥
Within (d ∷ ds) (z ∷ a) = (d.lowest ≤ℤ z) × (z ≤ℤ d.highest) × Within ds a

-- the first number in which they differ is less in the first
abbrev pub Precedes : List ℤ → List ℤ → Type 0
Precedes [] b = ⊥
Precedes (x ∷ a) [] = ⊥
Precedes (x ∷ a) (y ∷ b) = (x <ℤ y) ⊎ ((x ≡ y) × Precedes a b)

-- every tree is true on the assignment
abbrev pub meets : List Ground → List ℤ → Bool
meets trees a = list_all (λ g. (value a g).truth) trees

-- ---- solutions

pub record IsSolution (m : PlainModel) (a : List ℤ) : Type 0 where
  pub within : Within (domains m) a
  pub met : IsTrue (meets (constraint_trees m) a)

-- a solution before every other, in the order of the declarations
pub record IsLeast (m : PlainModel) (a : List ℤ) : Type 0 where
  pub solution : IsSolution m a
  pub least : (b : List ℤ) → IsSolution m b → (b ≡ a) ⊎ Precedes a b

abbrev pub HasNoSolution : PlainModel → Type 0
HasNoSolution m = (a : List ℤ) → IsSolution m a → ⊥
