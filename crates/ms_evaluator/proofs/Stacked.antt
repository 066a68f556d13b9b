-- Pushing what is known of the parts of a list.
use Rattle.std.proofs.Common.{◌≡◌, List, [], ◌∷◌, ◌++◌, length, take, drop, Option, Some, None, refl, sym, ap, ◌∙◌, arith}
use Rattle.std.proofs.Math.Seq.{take-append_seam, drop-append_seam}
use Rattle.std.proofs.lemmas.List.{length-append}
use Rattle.ms_trees.specs.declared.tree.Enclosure.{Enclosure}
use Rattle.ms_evaluator.specs.Findings.{before, all_known}
use Rattle.ms_evaluator.specs.Pushed.{IsPushed, IsLeft}

-- these, and then those of the rest
abbrev pub behind : List Enclosure → Option (List Enclosure) → Option (List Enclosure)
behind es None = None
behind es (Some ps) = Some (es ++ ps)

-- so many of the parts are pushed
pub record IsPushing (old now : List Enclosure) (rest all : List (Option Enclosure)) : Type 0 where
  pub so_far : List Enclosure
  pub stack : now ≡ old ++ so_far
  pub all_is : behind so_far (all_known rest) ≡ all_known all

nothing : (xs : List Enclosure) → xs ++ [] ≡ xs
nothing [] = refl
nothing (x ∷ xs) = ap (λ ys. x ∷ ys) (nothing xs)

-- none is pushed yet
pub pushing : (old : List Enclosure) (all : List (Option Enclosure)) → IsPushing old old all all
pushing old all = record { so_far = []; stack = sym (nothing old); all_is = one (all_known all) }
  where
    one : (o : Option (List Enclosure)) → behind [] o ≡ o
    one None = refl
    one (Some ps) = refl

module _ (old now : List Enclosure) (rest all : List (Option Enclosure)) where
  -- all are pushed
  pub pushed : IsPushing old now rest all → rest ≡ [] → IsPushed old now (length old) (all_known all)
  pushed p e = record {
    there = omega (arith, ap length p.stack, length-append old p.so_far);
    below = ap (take (length old)) p.stack ∙ take-append_seam old p.so_far;
    above = sym p.all_is ∙ ap (λ xs. behind p.so_far (all_known xs)) e ∙ ap (λ xs. Some xs) (nothing p.so_far ∙ sym (drop-append_seam old p.so_far) ∙ ap (drop (length old)) (sym p.stack));
  }

  module _ (x : Option Enclosure) (later : List (Option Enclosure)) (e : rest ≡ x ∷ later) where
    -- one is not known
    pub stops : IsPushing old now rest all → x ≡ None → IsLeft old (take (length old) now) (all_known all)
    stops p n = record {
      same = ap (take (length old)) p.stack ∙ take-append_seam old p.so_far;
      missing = sym p.all_is ∙ ap (λ xs. behind p.so_far (all_known xs)) e ∙ ap (λ y. behind p.so_far (before y (all_known later))) n;
    }

    -- one more is pushed
    pub pushes : (q : Enclosure) (new : List Enclosure) → IsPushing old now rest all → x ≡ Some q → new ≡ now ++ q ∷ [] → IsPushing old new later all
    pushes q new p s n = record {
      so_far = p.so_far ++ q ∷ [];
      stack = n ∙ ap (λ xs. xs ++ q ∷ []) p.stack ∙ assoc old p.so_far (q ∷ []);
      all_is = one (all_known later) ∙ sym (ap (λ y. behind p.so_far (before y (all_known later))) s) ∙ sym (ap (λ xs. behind p.so_far (all_known xs)) e) ∙ p.all_is;
    }
      where
        assoc : (xs ys zs : List Enclosure) → (xs ++ ys) ++ zs ≡ xs ++ (ys ++ zs)
        assoc [] ys zs = refl
        assoc (x ∷ xs) ys zs = ap (λ us. x ∷ us) (assoc xs ys zs)

        one : (o : Option (List Enclosure)) → behind (p.so_far ++ q ∷ []) o ≡ behind p.so_far (before (Some q) o)
        one None = refl
        one (Some ps) = ap (λ us. Some us) (assoc p.so_far (q ∷ []) ps)
