-- Conditionals, and operations on truth values, where less may come.
use Rattle.std.proofs.Common.{◌≡◌, Bool, true, false, not, ◌&&◌, ◌||◌, Option, refl}
use Rattle.std.specs.Prelude.{is_some}
use Rattle.std.proofs.lemmas.Bool.{false≢true}
use Rattle.ms_num.specs.Span.{Span, join_some}
use Rattle.ms_trees.specs.Laws.{IsCoveredBy, MeansFewerNumbers, MeansFewerTruths}
use Rattle.ms_trees.specs.Enclosure as r
use Rattle.ms_trees.specs.declared.tree.Enclosure.{Enclosure}
use Rattle.ms_trees.proofs.Bools.{and_less, or_left, or_right, or_split, or_less}
use Rattle.ms_trees.proofs.Lists.{join_fewer, left_some}

admitted_fewer : (b b' : Bool) (o o' : Option Span) → (b ≡ true → b' ≡ true) → IsCoveredBy o o' → IsCoveredBy (r.admitted b o) (r.admitted b' o')
admitted_fewer true true o o' f g = g
admitted_fewer true false o o' f g = absurd (false≢true (f refl))
admitted_fewer false b' o o' f g = tt

pub either_less : (c c' x x' y y' : Enclosure) → MeansFewerTruths c c' → MeansFewerNumbers x x' → MeansFewerNumbers y y' → MeansFewerNumbers (r.either_number c x y) (r.either_number c' x' y')
either_less c c' x x' y y' t n m = record {
  some = some c.may_be_true c.may_be_false t.some;
  interval = join_fewer (r.admitted c.may_be_true x.interval) (r.admitted c.may_be_false y.interval) (r.admitted c'.may_be_true x'.interval) (r.admitted c'.may_be_false y'.interval) (admitted_fewer c.may_be_true c'.may_be_true x.interval x'.interval t.may_be_true n.interval) (admitted_fewer c.may_be_false c'.may_be_false y.interval y'.interval t.may_be_false m.interval);
  may_be_undefined = or_less (c.may_be_true && x.may_be_undefined) (c.may_be_false && y.may_be_undefined) (c'.may_be_true && x'.may_be_undefined) (c'.may_be_false && y'.may_be_undefined) (and_less c.may_be_true x.may_be_undefined c'.may_be_true x'.may_be_undefined t.may_be_true n.may_be_undefined) (and_less c.may_be_false y.may_be_undefined c'.may_be_false y'.may_be_undefined t.may_be_false m.may_be_undefined);
}
  where
    some : (p q : Bool) → (p || q) ≡ true → (is_some (join_some (r.admitted p x.interval) (r.admitted q y.interval)) || (p && x.may_be_undefined || q && y.may_be_undefined)) ≡ true
    some true q h =
        or_split (is_some x.interval) x.may_be_undefined n.some
        (λ e. or_left (is_some (join_some x.interval (r.admitted q y.interval))) (x.may_be_undefined || q && y.may_be_undefined) (left_some x.interval (r.admitted q y.interval) e))
        (λ e. or_right (is_some (join_some x.interval (r.admitted q y.interval))) (x.may_be_undefined || q && y.may_be_undefined) (or_left x.may_be_undefined (q && y.may_be_undefined) e))
    some false true h = m.some
    some false false h = absurd (false≢true h)

pub either_truer : (c c' x x' y y' : Enclosure) → MeansFewerTruths c c' → MeansFewerTruths x x' → MeansFewerTruths y y' → MeansFewerTruths (r.either_truth c x y) (r.either_truth c' x' y')
either_truer c c' x x' y y' t n m = record {
  some = some c.may_be_true c.may_be_false x.may_be_true x.may_be_false y.may_be_true y.may_be_false t.some n.some m.some;
  may_be_true = or_less (c.may_be_true && x.may_be_true) (c.may_be_false && y.may_be_true) (c'.may_be_true && x'.may_be_true) (c'.may_be_false && y'.may_be_true) (and_less c.may_be_true x.may_be_true c'.may_be_true x'.may_be_true t.may_be_true n.may_be_true) (and_less c.may_be_false y.may_be_true c'.may_be_false y'.may_be_true t.may_be_false m.may_be_true);
  may_be_false = or_less (c.may_be_true && x.may_be_false) (c.may_be_false && y.may_be_false) (c'.may_be_true && x'.may_be_false) (c'.may_be_false && y'.may_be_false) (and_less c.may_be_true x.may_be_false c'.may_be_true x'.may_be_false t.may_be_true n.may_be_false) (and_less c.may_be_false y.may_be_false c'.may_be_false y'.may_be_false t.may_be_false m.may_be_false);
}
  where
    some : (p q a b d e : Bool) → (p || q) ≡ true → (a || b) ≡ true → (d || e) ≡ true → ((p && a || q && d) || (p && b || q && e)) ≡ true
    some true q true b d e h k l = refl
    some true q false b d e h k l = or_right (q && d) (b || q && e) (or_left b (q && e) k)
    some false true a b d e h k l = l
    some false false a b d e h k l = absurd (false≢true h)

pub admits_less : (a b c d : Bool) (x y x' y' : Enclosure) → MeansFewerTruths x x' → MeansFewerTruths y y' → r.admits a b c d x y ≡ true → r.admits a b c d x' y' ≡ true
admits_less a b c d x y x' y' s t h =
    or_less (x.may_be_true && y.may_be_true && a || x.may_be_true && y.may_be_false && b || x.may_be_false && y.may_be_true && c) (x.may_be_false && y.may_be_false && d) (x'.may_be_true && y'.may_be_true && a || x'.may_be_true && y'.may_be_false && b || x'.may_be_false && y'.may_be_true && c) (x'.may_be_false && y'.may_be_false && d)
    (or_less (x.may_be_true && y.may_be_true && a || x.may_be_true && y.may_be_false && b) (x.may_be_false && y.may_be_true && c) (x'.may_be_true && y'.may_be_true && a || x'.may_be_true && y'.may_be_false && b) (x'.may_be_false && y'.may_be_true && c)
    (or_less (x.may_be_true && y.may_be_true && a) (x.may_be_true && y.may_be_false && b) (x'.may_be_true && y'.may_be_true && a) (x'.may_be_true && y'.may_be_false && b)
    (corner x.may_be_true y.may_be_true x'.may_be_true y'.may_be_true a s.may_be_true t.may_be_true) (corner x.may_be_true y.may_be_false x'.may_be_true y'.may_be_false b s.may_be_true t.may_be_false)) (corner x.may_be_false y.may_be_true x'.may_be_false y'.may_be_true c s.may_be_false t.may_be_true))
    (corner x.may_be_false y.may_be_false x'.may_be_false y'.may_be_false d s.may_be_false t.may_be_false) h
  where
    corner : (p q p' q' a : Bool) → (p ≡ true → p' ≡ true) → (q ≡ true → q' ≡ true) → (p && q && a) ≡ true → (p' && q' && a) ≡ true
    corner p q p' q' a f g e = and_less (p && q) a (p' && q') a (and_less p q p' q' f g) (λ k. k) e

pub admits_some : (a b c d : Bool) (x y : Enclosure) → (x.may_be_true || x.may_be_false) ≡ true → (y.may_be_true || y.may_be_false) ≡ true → (r.admits a b c d x y || r.admits (not a) (not b) (not c) (not d) x y) ≡ true
admits_some a b c d x y h k =
    or_split x.may_be_true x.may_be_false h
    (λ p. or_split y.may_be_true y.may_be_false k (λ q. at_first p q) (λ q. at_second p q))
    (λ p. or_split y.may_be_true y.may_be_false k (λ q. at_third p q) (λ q. at_fourth p q))
  where
    four : (p q s t p' q' s' t' : Bool) → ((p || p') || (q || q') || (s || s') || (t || t')) ≡ true → ((p || q || s || t) || (p' || q' || s' || t')) ≡ true
    four true q s t p' q' s' t' e = refl
    four false true s t p' q' s' t' e = refl
    four false false true t p' q' s' t' e = refl
    four false false false true p' q' s' t' e = refl
    four false false false false p' q' s' t' e = e

    either : (p q a : Bool) → p ≡ true → q ≡ true → ((p && q && a) || (p && q && not a)) ≡ true
    either p q true e f = rw (e, f) refl
    either p q false e f = rw (e, f) refl

    all : ((x.may_be_true && y.may_be_true && a || x.may_be_true && y.may_be_true && not a) || (x.may_be_true && y.may_be_false && b || x.may_be_true && y.may_be_false && not b) || (x.may_be_false && y.may_be_true && c || x.may_be_false && y.may_be_true && not c) || (x.may_be_false && y.may_be_false && d || x.may_be_false && y.may_be_false && not d)) ≡ true →
        (r.admits a b c d x y || r.admits (not a) (not b) (not c) (not d) x y) ≡ true
    all e = four (x.may_be_true && y.may_be_true && a) (x.may_be_true && y.may_be_false && b) (x.may_be_false && y.may_be_true && c) (x.may_be_false && y.may_be_false && d) (x.may_be_true && y.may_be_true && not a) (x.may_be_true && y.may_be_false && not b) (x.may_be_false && y.may_be_true && not c) (x.may_be_false && y.may_be_false && not d) e

    at_first : x.may_be_true ≡ true → y.may_be_true ≡ true → (r.admits a b c d x y || r.admits (not a) (not b) (not c) (not d) x y) ≡ true
    at_first p q = all (or_left _ _ (or_left _ _ (or_left _ _ (either x.may_be_true y.may_be_true a p q))))

    at_second : x.may_be_true ≡ true → y.may_be_false ≡ true → (r.admits a b c d x y || r.admits (not a) (not b) (not c) (not d) x y) ≡ true
    at_second p q = all (or_left _ _ (or_left _ _ (or_right _ _ (either x.may_be_true y.may_be_false b p q))))

    at_third : x.may_be_false ≡ true → y.may_be_true ≡ true → (r.admits a b c d x y || r.admits (not a) (not b) (not c) (not d) x y) ≡ true
    at_third p q = all (or_left _ _ (or_right _ _ (either x.may_be_false y.may_be_true c p q)))

    at_fourth : x.may_be_false ≡ true → y.may_be_false ≡ true → (r.admits a b c d x y || r.admits (not a) (not b) (not c) (not d) x y) ≡ true
    at_fourth p q = all (or_right _ _ (either x.may_be_false y.may_be_false d p q))
