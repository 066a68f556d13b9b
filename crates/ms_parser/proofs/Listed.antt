-- The lists of items, as the code goes through them.
use Rattle.std.proofs.Common.{◌≡◌, ℕ, suc, ◌-◌, ◌≤◌, List, [], ◌∷◌, length, Option, Some, None, Bool, true, false, refl, sym, ap, ◌∙◌}
use Rattle.std.proofs.lemmas.List.{append-nil}
use Rattle.ms_syntax.specs.declared.token.Symbol.TheVariants as s
use Rattle.ms_syntax.specs.declared.token.Spanned.{Spanned}
use Rattle.ms_syntax.specs.declared.token.Place.{Place}
use Rattle.ms_syntax.specs.Tree.{Ex}
use Rattle.ms_syntax.specs.Grammar.{Tokens}
use Rattle.ms_cursor.specs.declared.stop.Stop.{Stop}
use Rattle.ms_cursor.specs.declared.stop.Stop.TheVariants.{Syntax, Deep, Memory}
use Rattle.ms_cursor.specs.Reads.{Fails}
use Rattle.ms_cursor.specs.Reading.{Out, ok, bad, deep, Parser, and_then, pure, pick, front, after, into, place_at, finish, sealed, ◌>>=◌}
use Rattle.ms_cursor.specs.Kinds.{symbol}
use Rattle.ms_expressions.specs.Rules.{Turn, item, last}
use Rattle.ms_parser.specs.Lists.{or_end, any_token, more_items, items, item_turn}
use Rattle.ms_parser.specs.Items.{range, of_range, behind_range}
use Rattle.ms_expressions.proofs.Turns.{grown_by, go_on, turns_over}

pub finish_none : (ts t : Tokens) → finish (tt {0}) ts ≡ ok tt t → ts ≡ []
finish_none [] t h = refl
finish_none (y ∷ ts) t h = absurd (cc)

module _ {A : Type 0} (one : Parser A) where
  pub items_unroll : (n : ℕ) (ts : Tokens) → more_items one (suc n) ts ≡ and_then (item_turn one ts) (go_on (more_items one n))
  unfolding more_items item_turn
  items_unroll n ts = at_mark (front (symbol s.Semicolon) ts)
    where
      item_then : (o : Out A) → and_then o (λ a. into {B = List A × Bool} (λ r. (a ∷ r.0, r.1)) (more_items one n)) ≡ and_then (and_then o (λ a. pure (item a))) (go_on (more_items one n))
      item_then (ok a r) = refl
      item_then (bad k) = refl
      item_then (deep k) = refl

      at_end : (t : Tokens) → or_end {A = List A × Bool} ([], true) (one >>= λ a. into {B = List A × Bool} (λ r. (a ∷ r.0, r.1)) (more_items one n)) t ≡ and_then (or_end (last true) (into item one) t) (go_on (more_items one n))
      at_end [] = refl
      at_end (y ∷ t) = item_then (one (y ∷ t))

      at_other : (q : Option (Unit {0} × Spanned)) → pick q (λ a. bad (length ts)) (pure {A = List A × Bool} ([], false) ts) ≡ and_then (pick q (λ a. bad (length ts)) (pure {A = Turn A} (last false) ts)) (go_on (more_items one n))
      at_other None = refl
      at_other (Some a) = refl

      at_mark : (q : Option (Unit {0} × Spanned))
          → pick q (λ a. or_end {A = List A × Bool} ([], true) (one >>= λ a. into {B = List A × Bool} (λ r. (a ∷ r.0, r.1)) (more_items one n)) (after ts)) (sealed {B = List A × Bool} any_token ([], false) ts)
          ≡ and_then (pick q (λ a. or_end (last true) (into item one) (after ts)) (sealed any_token (last false) ts)) (go_on (more_items one n))
      at_mark None = at_other (front any_token ts)
      at_mark (Some a) = at_end (after ts)

  pub items_none : (ts : Tokens) → ts ≡ [] → items one ts ≡ ok ([], false) ts
  unfolding items
  items_none ts h = ap (items one) h ∙ ap (ok ([], false)) (sym h)

  first_then : (a : A) (o : Out (List A × Bool)) → and_then o (λ r. pure {A = List A × Bool} (a ∷ r.0, r.1)) ≡ grown_by (a ∷ []) o
  first_then a (ok r t) = refl
  first_then a (bad k) = refl
  first_then a (deep k) = refl

  -- behind the first
  pub items_begin : (ts : Tokens) (found : List A) (a : A) (t : Tokens) → (ts ≡ [] → ⊥) → one ts ≡ ok a t → found ≡ a ∷ [] → grown_by found (more_items one (length t) t) ≡ items one ts
  unfolding items
  items_begin [] found a t some h g = absurd (some refl)
  items_begin (y ∷ ts) found a t some h g =
      ap (λ v. grown_by v (more_items one (length t) t)) g ∙ sym (first_then a (more_items one (length t) t))
      ∙ ap (λ o. and_then o (λ a. into {B = List A × Bool} (λ r. (a ∷ r.0, r.1)) (λ ts. more_items one (length ts) ts))) (sym h)

  pub items_fail : (ts : Tokens) (fault : Stop) → (ts ≡ [] → ⊥) → Fails (one ts) fault → Fails (items one ts) fault
  unfolding items
  items_fail [] fault some h = absurd (some refl)
  items_fail (y ∷ ts) Memory some h = tt
  items_fail (y ∷ ts) (Syntax k) some h = ap (λ o. and_then o (λ a. into {B = List A × Bool} (λ r. (a ∷ r.0, r.1)) (λ ts. more_items one (length ts) ts))) h
  items_fail (y ∷ ts) (Deep k) some h = ap (λ o. and_then o (λ a. into {B = List A × Bool} (λ r. (a ∷ r.0, r.1)) (λ ts. more_items one (length ts) ts))) h

  -- no turn is left
  module _ (end now : ℕ) (found : List A) (ts : Tokens) (whole : Out (List A × Bool)) (so_far : grown_by found (more_items one (end - now) ts) ≡ whole) (over : end ≤ now) where
    at_over : (ts : Tokens) → grown_by found (more_items one 0 ts) ≡ whole → (o : Out (Unit {0})) → finish (tt {0}) ts ≡ o → whole ≡ and_then o (λ a. pure {A = List A × Bool} (found, false))
    unfolding more_items
    at_over [] e o h = sym e ∙ ap (λ v. pure {A = List A × Bool} (v, false) []) (append-nil found) ∙ ap (λ o. and_then o (λ a. pure {A = List A × Bool} (found, false))) h
    at_over (y ∷ ts) e o h = sym e ∙ ap (λ o. and_then o (λ a. pure {A = List A × Bool} (found, false))) h

    rest : grown_by found (more_items one 0 ts) ≡ whole
    rest = turns_over (more_items one) end now found ts whole so_far over

    pub items_over : ts ≡ [] → whole ≡ ok (found, false) ts
    items_over h = at_over ts rest (ok tt ts) (ap (finish (tt {0})) h ∙ ap (ok tt) (sym h))

    pub items_left : (fault : Stop) → Fails (finish (tt {0}) ts) fault → Fails whole fault
    items_left Memory h = tt
    items_left (Syntax k) h = at_over ts rest (bad k) h
    items_left (Deep k) h = at_over ts rest (deep k) h

-- an item that begins with a range
pub of_range_is : (ts t : Tokens) (p : Place) (e : Ex) → range ts ≡ ok e t → p ≡ place_at ts → of_range ts ≡ behind_range p e t
unfolding of_range
of_range_is ts t p e h place = ap (λ o. and_then (and_then o (λ a. pure {A = Place × Ex} (place_at ts, a))) (λ c. behind_range c.0 c.1)) h ∙ ap (λ q. behind_range q e t) (sym place)
