-- What holds of each element that a loop has passed.
use Rattle.std.proofs.Common.{◌≡◌, Option, Some, None, ℕ, ◌+◌, ◌<◌, ◌≤◌, List, length, take, get_or, refl, sym, ap, ◌∙◌, subst, true, false, Bool, not}
use Rattle.std.specs.Prelude.{All, MatchBool}
use Rattle.std.proofs.lemmas.List.{take_all}
use Rattle.std.proofs.lemmas.List.Elements.{All-more}
use Rattle.ms_num.specs.Span.{Span}
use Rattle.ms_trees.specs.declared.tree.Ground.{Ground}
use Rattle.ms_trees.specs.declared.tree.Enclosure.{Enclosure}
use Rattle.ms_trees.specs.Value.{value}
use Rattle.ms_trees.specs.Enclosure.{enclosure, hull_at, points}
use Rattle.ms_trees.specs.WellFormed.{IsTruth}
use Rattle.ms_trees.specs.Laws.{exact, IsRefuted, PointsMeanThemselves, RefutedMeansUnmet}
use Rattle.ms_boxes.specs.Boxes.{Assignment, Box, box_of, box_size, least_point, IsProper}
use Rattle.ms_num.specs.Sets.{spans_of}
use Rattle.ms_boxes.specs.Trees.{HoldsNone, IsOnly, NoneRefuted}
use Rattle.ms_boxes.proofs.SharedFitting.{refuted_none}
use Rattle.ms_boxes.proofs.SharedSingles.{single_fit, single_only, single_spans}

pub passed_more : {X : Type 0} (P : X → Type 0) (xs : List X) (i : ℕ) (x : X) → i < length xs → x ≡ get_or xs i x → All P (take i xs) → P x → All P (take (i + 1) xs)
passed_more P xs i x l e h p = All-more P xs i x l h (subst P e p)

pub passed_all : {X : Type 0} (P : X → Type 0) (xs : List X) (i : ℕ) → length xs ≤ i → All P (take i xs) → All P xs
passed_all P xs i l h = subst (All P) (take_all i xs l) h

-- a constraint that is refuted is met nowhere on the box
pub refuted_at : RefutedMeansUnmet → (b : Box) (cons : List Ground) (i : ℕ) (g : Ground) → i < length cons → g ≡ get_or cons i g → IsProper b → All (IsTruth (spans_of b)) cons → IsRefuted (spans_of b) g → HoldsNone cons b
refuted_at law b cons i g l e proper fit r = refuted_none law b cons proper fit (i, g, l, sym e, r)

-- on a box of one assignment interval reasoning is exact
pub single_answer : PointsMeanThemselves → (b : Box) (cons : List Ground) (p : Assignment) → IsProper b → box_size b ≡ 1 → p ≡ least_point b → All (IsTruth (spans_of b)) cons → NoneRefuted cons b → IsOnly cons b p
single_answer law b cons p i e f fit none = single_only b cons p i e f (λ k d l. at (get_or cons k d) (single_fit b cons p i e f fit k d l) (none k d l))
  where
    at : (g : Ground) → IsTruth (points p) g → (enclosure (spans_of b) g).may_be_true ≡ true → (value p g).truth ≡ true
    at g t m =
        sym (ap (λ (q : Enclosure). q.may_be_true) (law p g t.fit ∙ ap (λ n. exact n (value p g)) t.boolean))
        ∙ sym (ap (λ s. (enclosure s g).may_be_true) (single_spans b i e ∙ ap points (sym f))) ∙ m

pub not_false : (b : Bool) → not b ≡ false → b ≡ true
not_false true e = refl
not_false false e = absurd (cc)

-- what a hull says of truth
pub hull_yes : (o : Option Span) (r : Enclosure) → (hull_at o r).may_be_true ≡ r.may_be_true
hull_yes None r = refl
hull_yes (Some s) r = refl

none_refuted_by : (b : Box) (cons : List Ground) (r : Bool) → r ≡ false → MatchBool r (HoldsNone cons b) (NoneRefuted cons b) → NoneRefuted cons b
none_refuted_by b cons false e h = h
none_refuted_by b cons true e h = absurd (cc)

pub not_refuted : (sets now : List (List Span)) (cons : List Ground) (r : Bool) → now ≡ sets → r ≡ false → MatchBool r (HoldsNone cons (box_of now)) (NoneRefuted cons (box_of now)) → NoneRefuted cons (box_of sets)
not_refuted sets now cons r e f h = none_refuted_by (box_of sets) cons r f (subst (λ q. MatchBool r (HoldsNone cons (box_of q)) (NoneRefuted cons (box_of q))) e h)
