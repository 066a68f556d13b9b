-- A loop over the operators of a level, each with its operand; and a level of which no operator comes.
use Rattle.std.proofs.Common.{◌≡◌, ℕ, zero, suc, ◌+◌, ◌-◌, ◌<◌, List, [], ◌∷◌, ◌++◌, Option, Some, None, Bool, true, false, length, refl, sym, ap, ◌∙◌, subst}
use Rattle.std.specs.Prelude.{is_some, if◌then◌else◌}
use Rattle.ms_syntax.specs.declared.token.Place.{Place}
use Rattle.ms_syntax.specs.declared.token.Spanned.{Spanned}
use Rattle.ms_syntax.specs.declared.token.Token.{Token}
use Rattle.ms_syntax.specs.declared.tree.Operator.{Operator}
use Rattle.ms_syntax.specs.Tree as x
use Rattle.ms_syntax.specs.Tree.{Ex, links_of}
use Rattle.ms_syntax.specs.Grammar.{Tokens}
use Rattle.ms_cursor.specs.declared.stop.Stop.{Stop}
use Rattle.ms_cursor.specs.declared.stop.Stop.TheVariants.{Syntax, Deep, Memory}
use Rattle.ms_cursor.specs.Reading.{Out, ok, Parser, and_then, pure, into, pick, front, after, many_to, grown}
use Rattle.ms_cursor.specs.Reads.{Fails}
use Rattle.ms_cursor.specs.Kinds.{infix_of}
use Rattle.ms_cursor.specs.Level.{is_single}
use Rattle.ms_expressions.specs.Rules.{behind, one_more, links, chained}
use Rattle.ms_expressions.proofs.Loops.{each_step, each_stop, each_fails}

abbrev pub linked : Parser Ex → Operator → Spanned → Parser (Operator × Place × Ex)
linked operand op y = into {B = Operator × Place × Ex} (λ e. (op, y.place, e)) operand

module _ (n : ℕ) (operand : Parser Ex) (end turn : ℕ) (found : List (Operator × Place × Ex)) (ts ts2 : Tokens) (whole : Out (List (Operator × Place × Ex)))
    (so_far : grown found (many_to (end - turn) (infix_of n) (linked operand) ts) ≡ whole) where
  pub link_stop : None ≡ front (infix_of n) ts → ts2 ≡ ts → whole ≡ ok found ts2
  link_stop e g = each_stop (infix_of n) (linked operand) end turn found ts whole so_far (sym e) ∙ ap (ok found) (sym g)

  module _ (less : turn < end) (op : Operator) (y : Spanned) (saw : Some (op, y) ≡ front (infix_of n) ts) (next : ts2 ≡ after ts) where
    pub link_step : (found2 : List (Operator × Place × Ex)) (e : Ex) (r : Tokens) → operand ts2 ≡ ok e r → found2 ≡ found ++ (op, y.place, e) ∷ []
        → grown found2 (many_to (end - (turn + 1)) (infix_of n) (linked operand) r) ≡ whole
    link_step found2 e r reads more =
        each_step (infix_of n) (linked operand) end turn found ts whole so_far less op y (sym saw) found2 (op, y.place, e) r
        (ap (λ o. and_then o (λ e. pure {A = Operator × Place × Ex} (op, y.place, e))) (ap operand (sym next) ∙ reads)) more

    into_fails : (o : Out Ex) (stop : Stop) → Fails o stop → Fails (and_then o (λ e. pure {A = Operator × Place × Ex} (op, y.place, e))) stop
    into_fails o Memory g = tt
    into_fails o (Syntax k) g = ap (λ o. and_then o (λ e. pure {A = Operator × Place × Ex} (op, y.place, e))) g
    into_fails o (Deep k) g = ap (λ o. and_then o (λ e. pure {A = Operator × Place × Ex} (op, y.place, e))) g

    pub link_fails : (stop : Stop) → Fails (operand ts2) stop → Fails whole stop
    link_fails stop g =
        each_fails (infix_of n) (linked operand) end turn found ts whole so_far less op y (sym saw) stop
        (into_fails (operand (after ts)) stop (subst (λ t. Fails (operand t) stop) next g))

-- ---- no operator of the level comes

no_more : {A B : Type 0} (k : ℕ) (f : Token → Option A) (p : A → Spanned → Parser B) (ts : Tokens) → front f ts ≡ None → many_to k f p ts ≡ ok [] ts
unfolding many_to
no_more zero f p ts e = refl
no_more (suc k) f p ts e = ap (λ o. pick o (λ a. and_then (p a.0 a.1 (after ts)) (λ x. λ us. and_then (many_to k f p us) (λ xs. pure (x ∷ xs)))) (ok [] ts)) e

no_one : (n : ℕ) (operand : Parser Ex) (first : Ex) (ts : Tokens) → front (infix_of n) ts ≡ None → one_more n operand first ts ≡ ok first ts
unfolding one_more
no_one n operand first ts e = ap (λ o. pick o (λ a. into (λ e. x.chain n first (x.link a.0 a.1.place e x.no_links)) operand (after ts)) (ok first ts)) e

no_links_more : (n : ℕ) (operand : Parser Ex) (first : Ex) (ts : Tokens) → front (infix_of n) ts ≡ None → into (chained n first) (links n operand) ts ≡ ok first ts
unfolding links
no_links_more n operand first ts e = ap (λ o. and_then (and_then o (λ ls. pure (links_of ls))) (λ ls. pure (chained n first ls))) (no_more (length ts) (infix_of n) (linked operand) ts e)

chosen : (b : Bool) (p q : Parser Ex) (ts : Tokens) (o : Out Ex) → p ts ≡ o → q ts ≡ o → (if b then p else q) ts ≡ o
chosen true p q ts o e f = e
chosen false p q ts o e f = f

is_none : {A : Type 0} (o : Option A) (b : Bool) → b ≡ is_some o → b ≡ false → o ≡ None
is_none None b e f = refl
is_none (Some a) b e f = absurd (let wrong : true ≡ false = sym e ∙ f in cc)

-- nothing of the level stands behind an operand
pub none_behind : (h : ℕ) (operand : Parser Ex) (first : Ex) (ts : Tokens) (b : Bool) → b ≡ is_some (front (infix_of (suc (suc h))) ts) → b ≡ false → behind h operand first ts ≡ ok first ts
unfolding behind
none_behind h operand first ts b saw missing =
    let none : front (infix_of (suc (suc h))) ts ≡ None = is_none (front (infix_of (suc (suc h))) ts) b saw missing in
    chosen (is_single (suc (suc h))) (one_more (suc (suc h)) operand first) (into (chained (suc (suc h)) first) (links (suc (suc h)) operand)) ts (ok first ts)
    (no_one (suc (suc h)) operand first ts none) (no_links_more (suc (suc h)) operand first ts none)
