-- Data is read as the grammar writes it, and what the outcome says.
use Rattle.std.proofs.Common.{◌≡◌, ℕ, List, [], ◌∷◌, length, refl}
use Rattle.ms_syntax.specs.declared.token.Symbol.TheVariants as s
use Rattle.ms_syntax.specs.declared.token.Place.{Place}
use Rattle.ms_syntax.specs.Tree.{Ex, Pairs}
use Rattle.ms_syntax.specs.Grammar.{Tokens, ◌⋅◌, mark, Writes, WritesPair, WritesPairs, IsShallow}
use Rattle.ms_parser.specs.Answers.{HasAnswer, IsWithin, from_front}
use Rattle.ms_parser.specs.Lists.{items}
use Rattle.ms_parser.specs.Items.{assignment, assignments}
use Rattle.ms_parser.proofs.Classes.{symbol_class}
use Rattle.ms_parser.proofs.Exact.{Exact, nobody}
use Rattle.ms_parser.proofs.Parts.{Pair, both, behind}
use Rattle.ms_parser.proofs.Enclosed.{e_any, nobody_fresh, IsName, binder_exact, built}
use Rattle.ms_parser.proofs.Nested.{under_exact}
use Rattle.ms_parser.proofs.Items.{all, items_exact}
use Rattle.std.specs.Prelude.{Result}
use Rattle.ms_syntax.specs.declared.tree.Assignments.{Assignments}
use Rattle.ms_syntax.specs.Tree.{assignments_view}
use Rattle.ms_cursor.specs.declared.stop.Stop.{Stop}
use Rattle.ms_cursor.specs.Reads.{Reads}
use Rattle.ms_parser.proofs.Law as law
use Rattle.ms_parser.proofs.Answered as t

abbrev RawPair : (Place × List ℕ) × Ex → Tokens → Type 0
RawPair = Pair IsName (λ e. mark s.Equal ⋅ Writes e)

abbrev pair_of : (Place × List ℕ) × Ex → Place × List ℕ × Ex
pair_of r = (r.0.0, r.0.1, r.1)

assignment_exact : (n : ℕ) → Exact n 200 200 nobody e_any WritesPair assignment
unfolding assignment
assignment_exact n = built {B = Place × List ℕ × Ex} WritesPair pair_of (λ r w g. g) (λ z w g. (((z.0, z.1), z.2), refl, g))
    (both (binder_exact n 200 nobody (λ w. refl)) (behind (symbol_class s.Equal) refl refl ((under_exact 200 n nobody nobody_fresh).0)))

pair_some : (x : Place × List ℕ × Ex) → WritesPair x [] → ⊥
pair_some x ([], v, q, (y, n, t, l), g) = cc
pair_some x (z ∷ u, v, q, a, g) = cc

exact : (n : ℕ) → Exact n 200 200 nobody all WritesPairs (items assignment)
exact = items_exact 200 e_any refl WritesPair pair_some assignment assignment_exact

pub one_data : (ts : Tokens) (x y : Pairs) → WritesPairs x ts → WritesPairs y ts → IsShallow ts → x ≡ y
one_data = law.one_value all WritesPairs (items assignment) exact

pub some_data : (ts : Tokens) → HasAnswer WritesPairs ts
some_data = law.some_answer all WritesPairs (items assignment) exact

pub within : (ts : Tokens) (r : Result Assignments Stop) → Reads assignments_view (assignments ts) r [] → IsWithin (length ts) r
unfolding assignments
within = t.within assignments_view all WritesPairs (items assignment) exact

pub answered : (ts : Tokens) (r : Result Assignments Stop) → Reads assignments_view (assignments ts) r [] → t.Answered assignments_view WritesPairs ts (from_front (length ts) r)
unfolding assignments
answered = t.answered assignments_view all WritesPairs (items assignment) exact
