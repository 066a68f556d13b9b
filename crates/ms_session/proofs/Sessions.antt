-- A session that begins is valid, and each call keeps it so.
use Rattle.std.proofs.Common.{◌≡◌, inl, inr, ◌*◌, ◌≤◌, zero, suc, refl, sym, ap, ◌∙◌, subst, arith, rules, List, [], ◌∷◌, ◌++◌, length}
use Rattle.std.specs.Prelude.{All}
use Rattle.std.proofs.lemmas.Bool.{false≢true}
use Rattle.std.proofs.lemmas.List.{append_assoc, get_or_append_left, length-append}
use Rattle.std.proofs.lemmas.List.Elements.{All-append}
use Rattle.ms_trees.specs.declared.tree.Ground.{Ground}
use Rattle.ms_trees.specs.declared.branching.Branching.{Branching}
use Rattle.ms_session.specs.declared.budget.Frame.{Frame}
use Rattle.ms_session.specs.declared.session.Step.{Step}
use Rattle.ms_num.specs.Sets.{Set, IsSet, Among, set_size}
use Rattle.ms_boxes.specs.Boxes.{Each, EachPair, IsGiven, InSome, Assignment, Box, InBox, IsBox, AreDisjoint, box_size, frontier_nodes, IsDeclared}
use Rattle.ms_session.specs.Frames.{spend_one}
use Rattle.ms_session.specs.Scopes.{Scope, Opens, IsFresh, Next, none_left, stops, gives, goes_on, after_node}
use Rattle.ms_boxes.specs.Trees.{Meets, Holds, IsConstraint}
use Rattle.ms_session.specs.Valid.{AreDifferent, IsValid, IsValidSession, Nested}
use Rattle.ms_boxes.specs.Laws.{AllBefore}
use Rattle.ms_session.specs.Laws.{OpeningIsValid, BeginningIsValid, EnteringKeepsValid, LeavingKeepsValid, PostingKeepsValid, SteppingKeepsValid}
use Rattle.ms_num.proofs.SharedCounts.{size_among}
use Rattle.ms_boxes.proofs.SharedParts.{products}
use Rattle.ms_session.proofs.Nexts.{next_keeps_valid}

declared_size : (s d : Set) → IsSet s → IsDeclared d → Among s d → set_size s ≤ set_size d
declared_size s d i (inl j) a = size_among d s j i a
declared_size s d i (inr e) a = absurd (false≢true (sym (ap (λ q. q.has s.lo) e) ∙ a s.lo i.low))

-- a box of the declared sets has at most their assignments
sets_size : (sets b : Box) → Each IsDeclared sets → IsBox sets b → box_size b ≤ box_size sets
sets_size [] [] e i = omega arith
sets_size [] (s ∷ b) e i = absurd i
sets_size (d ∷ sets) [] e i = absurd i
sets_size (d ∷ sets) (s ∷ b) e i = products (set_size s) (set_size d) (box_size b) (box_size sets) (declared_size s d i.0 e.0 i.1) (sets_size sets b e.1 i.2)

-- a frontier with at most one box
pub record Opened (sets : Box) (br : Branching) (cons : List Ground) (fs : List Box) : Type 0 where
  pub boxes : Each (IsBox sets) fs
  pub apart : EachPair AreDisjoint fs
  pub covers : (p : Assignment) → InBox p sets → Meets cons p → InSome p fs
  pub bounded : frontier_nodes fs ≤ 2 * box_size sets
  pub in_order : EachPair (AllBefore br) fs

opened : (sets : Box) (br : Branching) (cons : List Ground) (fs : List Box) → Each IsDeclared sets → Opens sets cons fs → Opened sets br cons fs
opened sets br cons [] e o = record { boxes = tt; apart = tt; covers = λ p i m. o p i m; bounded = omega arith; in_order = tt }
opened sets br cons (b ∷ []) e o = record { boxes = (o.0, tt); apart = (tt, tt); covers = λ p i m. inl (o.1 p i m); bounded = let h = sets_size sets b e o.0 in omega (arith, h); in_order = (tt, tt) }
opened sets br cons (b ∷ c ∷ fs) e o = absurd o

fresh_valid : (sets : Box) (br : Branching) (cons : List Ground) (sc : Scope) → Each IsDeclared sets → All (IsConstraint sets) cons → IsFresh sets cons sc → IsValid sets br sc
fresh_valid sets br cons sc e fits f = record {
  fit = subst (All (IsConstraint sets)) (sym f.cons) fits;
  boxes = o.boxes;
  apart = o.apart;
  new = λ p g s. subst (λ gs. IsGiven gs p) f.given g;
  covers = λ p i m. inr (o.covers p i (subst (λ c. Meets c p) f.cons m));
  once = subst (EachPair AreDifferent) (sym f.given) tt;
  bounded = let h = o.bounded in let z = f.spent in omega (arith, h, z);
  closed = λ c. absurd (false≢true (sym f.closed ∙ c));
  given = λ p g. absurd (subst (λ gs. IsGiven gs p) f.given g);
  in_order = λ _. o.in_order;
}
  where
    o : Opened sets br cons (sc.frontier)
    o = opened sets br cons (sc.frontier) e f.opens

pub opening_is_valid : OpeningIsValid
opening_is_valid s e fits f alone = record {
  declared = e;
  scopes = (fresh_valid (s.sets) (s.branching) (s.scope.cons) (s.scope) e fits f, subst (Each (IsValid (s.sets) (s.branching))) (sym alone) tt);
  nested = subst (Nested (s.scope)) (sym alone) tt;
  depth = let h = ap length alone in omega (arith, h);
}

pub beginning_is_valid : BeginningIsValid
beginning_is_valid declared br cons s d fits o = opening_is_valid s (subst (Each IsDeclared) (sym o.sets) d) (subst (λ q. All (IsConstraint q) s.scope.cons) (sym o.sets) (subst (All (IsConstraint declared)) (sym o.scope.cons) fits)) (record {
  cons = refl;
  given = o.scope.given;
  spent = o.scope.spent;
  closed = o.scope.closed;
  opens = subst (λ q. Opens q s.scope.cons s.scope.frontier) (sym o.sets) (subst (λ q. Opens declared q s.scope.frontier) (sym o.scope.cons) o.scope.opens);
}) o.parents

pub entering_keeps_valid : EnteringKeepsValid
entering_keeps_valid old new v l e = subst IsValidSession (sym e.is) (record {
  declared = v.declared;
  scopes = (fresh_valid (old.sets) (old.branching) (old.scope.cons) e.child v.declared v.scopes.0.fit e.fresh, v.scopes);
  nested = (record { added = []; is = e.fresh.cons ∙ sym (append_nothing (old.scope.cons)) }, v.nested);
  depth = omega (arith, l);
})
  where
    append_nothing : (xs : List Ground) → xs ++ [] ≡ xs
    append_nothing xs = search rules

pub leaving_keeps_valid : LeavingKeepsValid
leaving_keeps_valid old new v e = subst IsValidSession (sym e.is) (record {
  declared = v.declared;
  scopes = subst (Each (IsValid (old.sets) (old.branching))) e.stood v.scopes.1;
  nested = (subst (Nested (old.scope)) e.stood v.nested).1;
  depth = let h = v.depth in let k = ap length e.stood in omega (arith, h, k);
})

-- each of a longer list
all_more : (sets : Box) (cons : List Ground) (g : Ground) → All (IsConstraint sets) cons → IsConstraint sets g → All (IsConstraint sets) (cons ++ g ∷ [])
all_more sets cons g a h = All-append (IsConstraint sets) cons (g ∷ []) a one
  where
    one : All (IsConstraint sets) (g ∷ [])
    one zero d l = h
    one (suc k) d l = absurd (omega (arith, l))

fewer_meet : (p : Assignment) (cons : List Ground) (g : Ground) → Meets (cons ++ g ∷ []) p → Meets cons p
fewer_meet p cons g m k d l = subst (Holds p) (get_or_append_left cons (g ∷ []) d k l) (m k d (let e = length-append cons (g ∷ []) in omega (arith, e, l)))

nested_more : (sc : Scope) (below : List Scope) (g : Ground) → Nested sc below → Nested (record sc { cons = sc.cons ++ g ∷ [] }) below
nested_more sc [] g n = tt
nested_more sc (parent ∷ below) g n = (record { added = n.0.added ++ g ∷ []; is = ap (λ xs. xs ++ g ∷ []) n.0.is ∙ append_assoc (parent.cons) (n.0.added) (g ∷ []) }, n.1)

pub posting_keeps_valid : PostingKeepsValid
posting_keeps_valid s g v fit = record {
  declared = v.declared;
  scopes = (
    record {
      fit = all_more (s.sets) (s.scope.cons) g a.fit fit;
      boxes = a.boxes;
      apart = a.apart;
      new = a.new;
      covers = λ p i m. a.covers p i (fewer_meet p (s.scope.cons) g m);
      bounded = a.bounded;
      once = a.once;
      closed = a.closed;
      given = a.given;
      in_order = a.in_order;
    },
    v.scopes.1,
  );
  nested = nested_more (s.scope) (s.parents) g v.nested;
  depth = v.depth;
}
  where
    a : IsValid (s.sets) (s.branching) (s.scope)
    a = v.scopes.0

same_cons : (sets : Box) (br : Branching) (sc sc' : Scope) (fr fr' : List Frame) (step : Step) → Next sets br sc fr step sc' fr' → sc'.cons ≡ sc.cons
same_cons sets br sc sc' fr fr' step (none_left e) = refl
same_cons sets br sc sc' fr fr' step (stops e k) = refl
same_cons sets br sc sc' fr fr' step (gives e n) = refl
same_cons sets br sc sc' fr fr' step (goes_on {fs = fs} e n h) = same_cons sets br (after_node sc fs) sc' (spend_one fr) fr' step h

nested_same : (sc sc' : Scope) (below : List Scope) → sc'.cons ≡ sc.cons → Nested sc below → Nested sc' below
nested_same sc sc' [] e n = tt
nested_same sc sc' (parent ∷ below) e n = (record { added = n.0.added; is = e ∙ n.0.is }, n.1)

pub stepping_keeps_valid : SteppingKeepsValid
stepping_keeps_valid old new fr fr' step v s = subst IsValidSession (sym s.is) (record {
  declared = v.declared;
  scopes = (next_keeps_valid (old.sets) (old.branching) (old.scope) s.scope fr fr' step v.scopes.0 s.next, v.scopes.1);
  nested = nested_same (old.scope) s.scope (old.parents) (same_cons (old.sets) (old.branching) (old.scope) s.scope fr fr' step s.next) v.nested;
  depth = v.depth;
})
