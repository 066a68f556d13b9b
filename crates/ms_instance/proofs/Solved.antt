-- A model that is accepted has a solve item.
use Rattle.std.proofs.Common.{◌≡◌, ℕ, true, List, [], ◌∷◌, Bor, Option, None, Some, is_some, refl}
use Rattle.std.specs.Option.{option_copied}
use Rattle.std.proofs.Math.Bool.{Bool-set}
use Rattle.std.proofs.Math.Logic.{∥∥₁_elim}
use Rattle.ms_syntax.specs.Tree.{It}
use Rattle.ms_syntax.specs.Tree as x
use Rattle.ms_typing.specs.Meaning.{World}
use Rattle.ms_syntax.specs.declared.token.Place.{Place}
use Rattle.ms_typing.specs.Items.{own_names}
use Rattle.ms_typing.specs.declared.types.ExprType.{ExprType}
use Rattle.ms_code.specs.Items.{items_code, assignment_code, value_among}
use Rattle.ms_declarations.specs.Include.{has_solve}
use Rattle.ms_declarations.specs.First.{FirstFault, none}
use Rattle.ms_types.specs.Faults.{IsAccepted}
use Rattle.ms_instance.specs.Reading.{first_goal}

given : (w : World) (p : Place) (e : x.Ex) (o : Option (ℕ × ExprType)) (is : List It) → is_some (first_goal (items_code w is)) ≡ true
    → is_some (first_goal (assignment_code w p e o ∷ items_code w is)) ≡ true
given w p e None is h = h
given w p e (Some r) is h = h

first_solve : (w : World) (is : List It) → has_solve is ≡ true → is_some (first_goal (items_code w is)) ≡ true
first_solve w [] h = absurd (cc)
first_solve w (x.include p n ∷ is) h = first_solve w is h
first_solve w (x.declaration d ∷ is) h = first_solve w is h
first_solve w (x.enumeration p n ns ∷ is) h = first_solve w is h
first_solve w (x.assignment p n e ∷ is) h = given w p e (value_among (own_names w p) n) is (first_solve w is h)
first_solve w (x.constraint p e notes ∷ is) h = first_solve w is h
first_solve w (x.solve p notes goal ∷ is) h = refl
first_solve w (x.output p e ∷ is) h = first_solve w is h
first_solve w (x.predicate p n ps e ∷ is) h = first_solve w is h
first_solve w (x.function p k n ps e ∷ is) h = first_solve w is h

declared_goal : (w : World) (is lib : List It) → FirstFault is lib None → is_some (first_goal (items_code w is)) ≡ true
declared_goal w is lib (none d a b) = first_solve w is d.solved

pub goal_of_accepted : (w : World) (is lib : List It) → ∥ IsAccepted is lib ∥₁ → is_some (first_goal (items_code w is)) ≡ true
goal_of_accepted w is lib a = ∥∥₁_elim a (Bool-set _ _) (λ a. declared_goal w is lib a.declared)

pub some_copied : {T : Type 0} (r : Option (Bor T)) (o : Option T) → option_copied r ≡ o → is_some o ≡ true → is_some r ≡ true
some_copied None None e h = h
some_copied None (Some x) e h = cc
some_copied (Some x) o e h = refl
