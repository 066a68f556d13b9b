-- What an answer says of a term by the rules, and the laws that make it the only one.
use Rattle.std.specs.Prelude.{◌≡◌, ℕ, ◌↔◌, ◌⊎◌, IsTrue, Some, List}
use Rattle.ms_syntax.specs.declared.token.Place.{Place}
use Rattle.ms_typing.specs.declared.types.ExprType.{ExprType}
use Rattle.ms_typing.specs.declared.types.Cause.{Cause}
use Rattle.ms_typing.specs.declared.types.Surroundings.{Surroundings}
use Rattle.ms_typing.specs.declared.types.Surroundings.TheVariants as s
use Rattle.ms_typing.specs.Meaning.{Names, World}
use Rattle.ms_typing.specs.Conversion.{as_known, Converts, ConvertAll, converts}
use Rattle.ms_syntax.specs.Grouping.{Grouped, grouped, operand, operation}
use Rattle.ms_syntax.specs.Tree.{Ex, It, Links, chain}
use Rattle.ms_typing.specs.Items.{model_terms}
use Rattle.ms_typing.specs.Term.{Form, Term, Terms, node, term_of, two_terms}
use Rattle.ms_typing.specs.Term as f
use Rattle.ms_typing.specs.Row.{Row}
use Rattle.ms_typing.specs.HasType.{HasType, HaveTypes}
use Rattle.ms_typing.specs.Fault.{FirstFault, FirstOf}
use Rattle.ms_typing.specs.Least.{Typing, fault, has, row, typing, typings}

-- the least type: the term has it, and it converts to each that the term has
pub record IsLeast (x : Term) (t : ExprType) : Type 0 where
  pub has_it : HasType x t
  pub least : (u : ExprType) → HasType x u → Converts t u

pub record AreLeast (xs : Terms) (ts : List ExprType) : Type 0 where
  pub have_them : HaveTypes xs ts
  pub least : (us : List ExprType) → HaveTypes xs us → ConvertAll ts us

-- the least type, or the first fault
abbrev pub Judges : Term → Typing ExprType → Type 0
Judges x (has t) = IsLeast x t
Judges x (fault c p) = FirstFault x c p

abbrev pub JudgesAll : Terms → Typing (List ExprType) → Type 0
JudgesAll xs (has ts) = AreLeast xs ts
JudgesAll xs (fault c p) = FirstOf xs c p

-- ---- rows

-- what a node asks of its parts is what a row of the tables does, and they convert to it
abbrev pub AsksByTables : Type 0
AsksByTables = (g : Form) (ts us : List ExprType) (t : ExprType) → row g ts ≡ Some (us, t) → ConvertAll ts us × Row g us t

-- and its result is below that of each row to whose operands they convert
abbrev pub GivesLeast : Type 0
GivesLeast = (g : Form) (ts us : List ExprType) (u : ExprType) → ConvertAll ts us → Row g us u
    → (asked : List ExprType) × (t : ExprType) × (row g ts ≡ Some (asked, t)) × Converts t u

-- ---- terms

abbrev pub HasLeast : Type 0
HasLeast = (x : Term) (u : ExprType) → HasType x u → (t : ExprType) × (typing x ≡ has t) × IsLeast x t

abbrev pub Judged : Type 0
Judged = (x : Term) → Judges x (typing x)

abbrev pub JudgedAll : Type 0
JudgedAll = (xs : Terms) → JudgesAll xs (typings xs)

-- a fault is the one that the function finds
abbrev pub FaultFound : Type 0
FaultFound = (x : Term) (c : Cause) (p : Place) → FirstFault x c p → typing x ≡ fault c p

abbrev pub FaultOfAllFound : Type 0
FaultOfAllFound = (xs : Terms) (c : Cause) (p : Place) → FirstOf xs c p → typings xs ≡ fault c p

-- a term with a type has no fault, and each has at most one first fault
abbrev pub Excludes : Type 0
Excludes = (x : Term) (t : ExprType) (c : Cause) (p : Place) → HasType x t → FirstFault x c p → ⊥

abbrev pub OneFault : Type 0
OneFault = (x : Term) (c d : Cause) (p q : Place) → FirstFault x c p → FirstFault x d q → (c ≡ d) × (p ≡ q)

-- the same of lists, as those of a model's items
abbrev pub ExcludesAll : Type 0
ExcludesAll = (xs : Terms) (ts : List ExprType) (c : Cause) (p : Place) → HaveTypes xs ts → FirstOf xs c p → ⊥

abbrev pub OneFaultOfAll : Type 0
OneFaultOfAll = (xs : Terms) (c d : Cause) (p q : Place) → FirstOf xs c p → FirstOf xs d q → (c ≡ d) × (p ≡ q)

-- ---- chains

abbrev pub grouped_term : World → Surroundings → Names → Grouped → Term
grouped_term world around ns (operand e) = term_of world around ns e
grouped_term world around ns (operation op p first second) = node p (f.operation op) (two_terms (grouped_term world around ns first) (grouped_term world around ns second))

-- the nodes of a chain are its operators in pairs, as they group
abbrev pub ChainsGroup : Type 0
ChainsGroup = (world : World) (around : Surroundings) (ns : Names) (level : ℕ) (e : Ex) (links : Links)
    → term_of world around ns (chain level e links) ≡ grouped_term world around ns (grouped level e links)

-- ---- where everything is known

-- what is typed in a model is typed so in a body that an output item calls, with all of it known
abbrev pub TypedWhereKnown : Type 0
TypedWhereKnown = (world : World) (ns : Names) (e : Ex) (t : ExprType) → HasType (term_of world s.Model ns e) t → HasType (term_of world s.Called ns e) (as_known t)

-- ---- models

-- each item of the library and of the model has its types
pub record IsWellTyped (model library : List It) : Type 0 where
  pub results : List ExprType
  pub have_types : HaveTypes (model_terms model library) results

-- the first fault in a type, of the library before those of the model
abbrev pub HasFirstFault : List It → List It → Cause → Place → Type 0
HasFirstFault model library c p = FirstOf (model_terms model library) c p

abbrev pub WellTypedOrFaulty : Type 0
WellTypedOrFaulty = (model library : List It) → IsWellTyped model library ⊎ ((c : Cause) × (p : Place) × HasFirstFault model library c p)

abbrev pub NotBoth : Type 0
NotBoth = (model library : List It) (c : Cause) (p : Place) → IsWellTyped model library → HasFirstFault model library c p → ⊥

abbrev pub OneFirstFault : Type 0
OneFirstFault = (model library : List It) (c d : Cause) (p q : Place) → HasFirstFault model library c p → HasFirstFault model library d q → (c ≡ d) × (p ≡ q)

-- ---- conversions

abbrev pub ConvertsToItself : Type 0
ConvertsToItself = (t : ExprType) → Converts t t

abbrev pub ConvertsAlong : Type 0
ConvertsAlong = (t u v : ExprType) → Converts t u → Converts u v → Converts t v

abbrev pub ConvertsOneWay : Type 0
ConvertsOneWay = (t u : ExprType) → Converts t u → Converts u t → t ≡ u

abbrev pub Decided : Type 0
Decided = (t u : ExprType) → IsTrue (converts t u) ↔ Converts t u
