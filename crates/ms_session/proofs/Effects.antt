-- What `next` leaves, by its nodes.
use Rattle.std.proofs.Common.{◌≡◌, ◌≢◌, ◌⊎◌, inl, inr, ℕ, ◌+◌, zero, suc, refl, ap, ◌∙◌, subst, arith, List, [], ◌∷◌, ◌++◌, length, map, Some}
use Rattle.std.proofs.Math.ListN.{length-map}
use Rattle.ms_session.specs.declared.budget.Frame.{Frame}
use Rattle.ms_session.specs.declared.session.Step.{Step}
use Rattle.ms_session.specs.declared.session.Step.TheVariants.{Found, NoneLeft, Spent}
use Rattle.ms_session.specs.Frames.{spend_one, spend_many, spent_frame, number_in}
use Rattle.ms_boxes.specs.Boxes.{IsGiven, InSome, Assignment, Box}
use Rattle.ms_session.specs.Scopes.{Scope, last_of, after_node, none_left, stops, gives, goes_on}
use Rattle.ms_session.specs.Laws.{LeavesBy, NextLeaves, NextHasItsEffect, ClosedMeansAllGiven, SpendingKeepsFrames}

last_added : (ps : List Assignment) (p : Assignment) → last_of (ps ++ p ∷ []) ≡ Some p
last_added [] p = refl
last_added (q ∷ []) p = refl
last_added (q ∷ r ∷ ps) p = last_added (r ∷ ps) p

-- one node before many
one_before : (n : ℕ) (fr : List Frame) → spend_many n (spend_one fr) ≡ spend_one (spend_many n fr)
one_before zero fr = refl
one_before (suc n) fr = ap spend_one (one_before n fr)

none_more : (n : ℕ) → n ≡ n + 0
none_more n = omega arith

one_more : (s t n : ℕ) → t ≡ (s + 1) + n → t ≡ s + suc n
one_more s t n e = omega (arith, e)

not_nil : (b : Box) (rest fs : List Box) → fs ≡ b ∷ rest → fs ≢ []
not_nil b rest fs e = λ q. absurd cc

from_node : (sc sc' : Scope) (fs : List Box) (fr' : List Frame) (step : Step) → LeavesBy step (after_node sc fs) sc' fr' → LeavesBy step sc sc' fr'
from_node sc sc' fs fr' (Found p) h = record { given = h.given; last = h.last; closed = h.closed }
from_node sc sc' fs fr' NoneLeft h = record { given = h.given; frontier = h.frontier; closed = h.closed }
from_node sc sc' fs fr' Spent h = record { given = h.given; some = h.some; closed = h.closed; frame = h.frame; cut = h.cut }

pub next_has_its_effect : NextHasItsEffect
next_has_its_effect sets br sc sc' fr fr' step (none_left e) = record {
  cons = refl;
  nodes = 0;
  spent = none_more (sc.spent);
  frames = refl;
  by_step = record { given = refl; frontier = e; closed = refl };
}
next_has_its_effect sets br sc sc' fr fr' step (stops {b = b} {rest = rest} {k = k} e cut) = record {
  cons = refl;
  nodes = 0;
  spent = none_more (sc.spent);
  frames = refl;
  by_step = record { given = refl; some = not_nil b rest (sc.frontier) e; closed = refl; frame = k; cut = cut };
}
next_has_its_effect sets br sc sc' fr fr' step (gives {p = p} {fs = fs} e n) = record {
  cons = refl;
  nodes = 1;
  spent = refl;
  frames = refl;
  by_step = record { given = refl; last = last_added (sc.given) p; closed = refl };
}
next_has_its_effect sets br sc sc' fr fr' step (goes_on {fs = fs} e n h) =
    let rest : NextLeaves (after_node sc fs) (spend_one fr) step sc' fr' = next_has_its_effect sets br (after_node sc fs) sc' (spend_one fr) fr' step h in
    record {
      cons = rest.cons;
      nodes = suc rest.nodes;
      spent = one_more (sc.spent) (sc'.spent) rest.nodes rest.spent;
      frames = rest.frames ∙ one_before rest.nodes fr;
      by_step = from_node sc sc' fs fr' step rest.by_step;
    }

pub closed_means_all_given : ClosedMeansAllGiven
closed_means_all_given sets br sc v c p i m = none (v.covers p i m)
  where
    none : IsGiven (sc.given) p ⊎ InSome p (sc.frontier) → IsGiven (sc.given) p
    none (inl g) = g
    none (inr h) = absurd (subst (InSome p) (v.closed c) h)

spent_length : (fr : List Frame) → length (spend_one fr) ≡ length fr
spent_length fr = length-map fr spent_frame

spent_numbers : (fr : List Frame) → map number_in (spend_one fr) ≡ map number_in fr
spent_numbers [] = refl
spent_numbers (f ∷ fr) = ap (λ ns. f.number ∷ ns) (spent_numbers fr)

pub spending_keeps_frames : SpendingKeepsFrames
spending_keeps_frames zero fr = record { as_many = refl; numbers = refl }
spending_keeps_frames (suc n) fr =
    let rest = spending_keeps_frames n fr in
    record { as_many = spent_length (spend_many n fr) ∙ rest.as_many; numbers = spent_numbers (spend_many n fr) ∙ rest.numbers }
