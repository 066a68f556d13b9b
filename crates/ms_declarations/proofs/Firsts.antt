-- Laws of first faults.
use Rattle.std.proofs.Common.{◌≡◌, ℕ, List, [], ◌∷◌, ◌++◌, Bool, true, false, Option, Some, None, ◌⊎◌, inl, inr, refl, sym, ap, subst, ◌∙◌}
use Rattle.std.specs.Prelude.{IfOk, Result, Ok, Err, option_map}
use Rattle.std.specs.Result.{IsErr}
use Rattle.std.specs.Option.{option_or}
use Rattle.std.proofs.lemmas.Result.{IfOk-from_err}
use Rattle.std.specs.declared.alloc.AllocError.{AllocError}
use Rattle.ms_syntax.specs.declared.token.Place.{Place}
use Rattle.ms_syntax.specs.Tree.{It, Names}
use Rattle.ms_declarations.specs.declared.fault.DeclarationFault.{DeclarationFault}
use Rattle.ms_declarations.specs.declared.fault.DeclarationFault.TheVariants as f
use Rattle.ms_declarations.specs.declared.stop.Stop.{Stop}
use Rattle.ms_declarations.specs.declared.stop.Stop.TheVariants as s
use Rattle.ms_declarations.specs.Include.{first_include, has_solve, unknown_file}
use Rattle.ms_declarations.specs.Declaring.{declarations, first_clash}
use Rattle.ms_declarations.specs.Depends.{DependsOn, FirstCycle, HasNoCycle, In, sayings}
use Rattle.ms_declarations.specs.First.{FirstFault, IsDeclared, Refuses, cycle_of_library, cycle_of_model, foreign, include, no_solve, none, repeated, twice}
use Rattle.ms_declarations.specs.Repeats.{TellsWith}
use Rattle.ms_declarations.proofs.Twices.{joined}

or_or : {A : Type 0} (a b c : Option A) → option_or (option_or a b) c ≡ option_or a (option_or b c)
or_or None b c = refl
or_or (Some x) b c = refl

pub include_append : (a b : List It) → first_include (a ++ b) ≡ option_or (first_include a) (first_include b)
include_append [] b = refl
include_append (i ∷ a) b = ap (option_or (unknown_file i)) (include_append a b) ∙ sym (or_or (unknown_file i) (first_include a) (first_include b))

-- a name is declared twice in the library, or else in the model
pub repeated_library : (model library : List It) (p q : Place) → first_clash (declarations library) ≡ Some (p, q) → repeated model library ≡ Some (p, q)
repeated_library model library p q e = joined (declarations library) (declarations model) ∙ ap (λ o. option_or o (first_clash (declarations model))) e

pub repeated_model : (model library : List It) (o : Option (Place × Place)) → first_clash (declarations library) ≡ None → first_clash (declarations model) ≡ o → repeated model library ≡ o
repeated_model model library o e g = joined (declarations library) (declarations model) ∙ ap (λ r. option_or r (first_clash (declarations model))) e ∙ g

pub refused : (model library : List It) (stop : Stop) (r : Result (Option DeclarationFault) AllocError) → foreign model library ≡ None
    → Refuses stop r → ((p q : Place) → stop ≡ s.Twice p q → repeated model library ≡ Some (p, q)) → IfOk r (FirstFault model library)
refused model library (s.Twice p q) r files e h = subst (λ a. IfOk a (FirstFault model library)) (sym e) (twice files (h p q refl))
refused model library s.Memory r files e h = IfOk-from_err r (FirstFault model library) e

-- ---- one first fault

module _ (D : Place × List ℕ → Type 0) where
  one_split : (b : Names) (n : Place × List ℕ) (r b' : Names) (n' : Place × List ℕ) (r' : Names) → b ++ n ∷ r ≡ b' ++ n' ∷ r' → D n → D n'
      → ((m : Place × List ℕ) → In m b → D m → ⊥) → ((m : Place × List ℕ) → In m b' → D m → ⊥) → n ≡ n'
  one_split [] n r [] n' r' e d d' h h' = cc
  one_split [] n r (c ∷ b') n' r' e d d' h h' = absurd (h' c (inl refl) (subst D (let same : n ≡ c = cc in same) d))
  one_split (c ∷ b) n r [] n' r' e d d' h h' = absurd (h c (inl refl) (subst D (let same : n' ≡ c = cc in same) d'))
  one_split (c ∷ b) n r (c' ∷ b') n' r' e d d' h h' =
      one_split b n r b' n' r' (let rest : b ++ n ∷ r ≡ b' ++ n' ∷ r' = cc in rest) d d' (λ m i. h m (inr i)) (λ m i. h' m (inr i))

pub one_cycle : (items : List It) (p q : Place) → FirstCycle items p → FirstCycle items q → p ≡ q
one_cycle items p q a b =
    ap (λ n. n.0) (one_split (λ n. DependsOn (sayings items) n.1 n.1) a.before (p, a.name) a.behind b.before (q, b.name) b.behind (sym a.names ∙ b.names) a.cyclic b.cyclic a.none_before b.none_before)

in_middle : (b : Names) (n : Place × List ℕ) (r : Names) → In n (b ++ n ∷ r)
in_middle [] n r = inl refl
in_middle (c ∷ b) n r = inr (in_middle b n r)

pub no_cycle : (items : List It) (p : Place) → FirstCycle items p → HasNoCycle items → ⊥
no_cycle items p a h = h (p, a.name) (subst (In (p, a.name)) (sym a.names) (in_middle a.before (p, a.name) a.behind)) a.cyclic

apart : {A : Type 0} {o : Option A} {y : A} → o ≡ Some y → o ≡ None → ⊥
apart e g = let wrong : Some _ ≡ None = sym e ∙ g in cc

unsolved : {b : Bool} → b ≡ false → b ≡ true → ⊥
unsolved e g = let wrong : false ≡ true = sym e ∙ g in cc

pub one_fault : (model library : List It) (a b : Option DeclarationFault) → FirstFault model library a → FirstFault model library b → a ≡ b
one_fault model library _ _ (include e) (include g) = ap (λ o. option_map f.Include o) (sym e ∙ g)
one_fault model library _ _ (include e) (twice g h) = absurd (apart e g)
one_fault model library _ _ (include e) (no_solve g h i) = absurd (apart e g)
one_fault model library _ _ (include e) (cycle_of_library g h) = absurd (apart e g.files)
one_fault model library _ _ (include e) (cycle_of_model g h i) = absurd (apart e g.files)
one_fault model library _ _ (include e) (none g h i) = absurd (apart e g.files)
one_fault model library _ _ (twice d e) (include g) = absurd (apart g d)
one_fault model library _ _ (twice d e) (twice g h) = ap (λ o. option_map (λ r. f.Twice r.0 r.1) o) (sym e ∙ h)
one_fault model library _ _ (twice d e) (no_solve g h i) = absurd (apart e h)
one_fault model library _ _ (twice d e) (cycle_of_library g h) = absurd (apart e g.names)
one_fault model library _ _ (twice d e) (cycle_of_model g h i) = absurd (apart e g.names)
one_fault model library _ _ (twice d e) (none g h i) = absurd (apart e g.names)
one_fault model library _ _ (no_solve d e k) (include g) = absurd (apart g d)
one_fault model library _ _ (no_solve d e k) (twice g h) = absurd (apart h e)
one_fault model library _ _ (no_solve d e k) (no_solve g h i) = refl
one_fault model library _ _ (no_solve d e k) (cycle_of_library g h) = absurd (unsolved k g.solved)
one_fault model library _ _ (no_solve d e k) (cycle_of_model g h i) = absurd (unsolved k g.solved)
one_fault model library _ _ (no_solve d e k) (none g h i) = absurd (unsolved k g.solved)
one_fault model library _ _ (cycle_of_library d e) (include g) = absurd (apart g d.files)
one_fault model library _ _ (cycle_of_library d e) (twice g h) = absurd (apart h d.names)
one_fault model library _ _ (cycle_of_library d e) (no_solve g h i) = absurd (unsolved i d.solved)
one_fault model library _ _ (cycle_of_library d e) (cycle_of_library g h) = ap (λ p. Some (f.Cycle p)) (one_cycle library _ _ e h)
one_fault model library _ _ (cycle_of_library d e) (cycle_of_model g h i) = absurd (no_cycle library _ e h)
one_fault model library _ _ (cycle_of_library d e) (none g h i) = absurd (no_cycle library _ e h)
one_fault model library _ _ (cycle_of_model d e k) (include g) = absurd (apart g d.files)
one_fault model library _ _ (cycle_of_model d e k) (twice g h) = absurd (apart h d.names)
one_fault model library _ _ (cycle_of_model d e k) (no_solve g h i) = absurd (unsolved i d.solved)
one_fault model library _ _ (cycle_of_model d e k) (cycle_of_library g h) = absurd (no_cycle library _ h e)
one_fault model library _ _ (cycle_of_model d e k) (cycle_of_model g h i) = ap (λ p. Some (f.Cycle p)) (one_cycle model _ _ k i)
one_fault model library _ _ (cycle_of_model d e k) (none g h i) = absurd (no_cycle model _ k i)
one_fault model library _ _ (none d e k) (include g) = absurd (apart g d.files)
one_fault model library _ _ (none d e k) (twice g h) = absurd (apart h d.names)
one_fault model library _ _ (none d e k) (no_solve g h i) = absurd (unsolved i d.solved)
one_fault model library _ _ (none d e k) (cycle_of_library g h) = absurd (no_cycle library _ h e)
one_fault model library _ _ (none d e k) (cycle_of_model g h i) = absurd (no_cycle model _ i k)
one_fault model library _ _ (none d e k) (none g h i) = refl

-- where a search for a name that is declared twice ends with one
pub told_stop : {X : Type 0} (found : Option (Place × Place)) (P : X → Type 0) (stop : Stop) → TellsWith found P (Err stop) → (p q : Place) → stop ≡ s.Twice p q → found ≡ Some (p, q)
told_stop found P (s.Twice a b) t p q e = t ∙ (let first : a ≡ p = cc in let second : b ≡ q = cc in ap (λ c. Some (c, b)) first ∙ ap (λ d. Some (p, d)) second)
told_stop found P s.Memory t p q e = absurd (let wrong : s.Memory ≡ s.Twice p q = e in cc)
