-- Scopes as the plain session stores them: what each call keeps, and what it means.
use Rattle.ms_session.proofs.Narrowings.{box_within_box}
use Rattle.ms_boxes.proofs.SharedParts.{box_in_sets}
use Rattle.ms_session.specs.Plain.{CutsWithin}
use Rattle.std.proofs.Common.{◌≡◌, ℕ, ◌+◌, ◌<◌, suc, refl, sym, ap, ◌∙◌, subst, arith, false, Bool, List, [], ◌∷◌, ◌++◌, length, map, reverse, take, Option, Some, None, Result, Ok, Err}
use Rattle.std.specs.Prelude.{All, IfOk, OnErr}
use Rattle.std.proofs.lemmas.List.{reverse-append, length-reverse, length-append, take_all, take-append-le}
use Rattle.std.proofs.lemmas.List.Sums.{sum_by-append}
use Rattle.std.proofs.lemmas.List.Elements.{All-push, All-pop, All-nil}
use Rattle.std.specs.declared.alloc.AllocError.{AllocError}
use Rattle.ms_num.specs.Span.{Span}
use Rattle.ms_trees.specs.declared.tree.Ground.{Ground}
use Rattle.ms_trees.specs.declared.branching.Branching.{Branching}
use Rattle.ms_trees.specs.Size.{size_of}
use Rattle.ms_session.specs.declared.plain_node.BoxStep.{BoxStep}
use Rattle.ms_session.specs.declared.plain_node.BoxStep.TheVariants.{Dropped, Answered, Split}
use Rattle.ms_session.specs.declared.plain_scope.PlainScope.{PlainScope}
use Rattle.ms_session.specs.declared.plain_scope.Parent.{Parent}
use Rattle.ms_boxes.specs.Boxes.{Assignment, Box, Each, IsBox, IsDeclared, box_of, IsProper}
use Rattle.ms_session.specs.Scopes.{Scope, scope_after, NodeGives, IsFresh, Opens, IsOpening, Enters, Leaves, live_nodes, with_scope, with_constraint}
use Rattle.ms_boxes.specs.Trees.{Splits, Node, IsConstraint}
use Rattle.ms_boxes.specs.Nodes.{drops, answers, splits}
use Rattle.ms_session.specs.Valid.{IsValidSession}
use Rattle.ms_session.specs.Plain.{IsBoxStep}
use Rattle.ms_session.specs.Stored.{Stored, stored_of, parent_of, scope_of, scopes_below, state_of, frontier_of, AreOpening, IsOpened, answer_of, boxes_after, Applies, KeepsBoxes, IsSound, AreBelow, AreSound}
use Rattle.ms_boxes.specs.Laws.{Parts}
use Rattle.ms_boxes.specs.Trees.{ground_trees}
use Rattle.ms_boxes.proofs.SharedParts.{parts_of}
use Rattle.ms_session.proofs.Sessions.{opening_is_valid}

abbrev Ranged : Type 0
Ranged = List (List Span)

abbrev BoxIn : Box → Ranged → Type 0
BoxIn sets b = IsBox sets (box_of b)

-- the last of the stored boxes is the first of the frontier
frontier_last : (boxes : List Ranged) (b : Ranged) → frontier_of (boxes ++ b ∷ []) ≡ box_of b ∷ frontier_of boxes
frontier_last boxes b = ap (map box_of) (reverse-append boxes (b ∷ []))

-- ---- one node

splits_of : (sets : Box) (br : Branching) (cons : List Ground) (b c d : Box) → IsBox sets b → CutsWithin br cons b c d → Splits sets br cons b c d
splits_of sets br cons b c d i k = record {
  narrowed = k.narrowed;
  proper = box_within_box sets b k.narrowed i k.narrows.box;
  within = λ p h. box_in_sets b k.narrowed k.narrows.box p h;
  keeps = k.narrows.keeps;
  several = k.cuts.several;
  none_refuted = k.cuts.none_refuted;
  picks = k.cuts.picks;
}

parts_in : (sets : Box) (br : Branching) (cons : List Ground) (b c d : Box) → IsBox sets b → CutsWithin br cons b c d → Parts ground_trees sets cons b c d
parts_in sets br cons b c d i k = parts_of ground_trees sets br cons b c d i (splits_of sets br cons b c d i k)

node_taken : (sets : Box) (br : Branching) (cons : List Ground) (b : Ranged) (rest boxes : List Ranged) (taken : BoxStep) → BoxIn sets b → boxes ≡ rest ++ b ∷ [] → IsBoxStep br cons (box_of b) taken → Node sets br cons (frontier_of boxes) (answer_of taken) (frontier_of (boxes_after taken rest))
node_taken sets br cons b rest boxes taken i e t = subst (λ f. Node sets br cons f (answer_of taken) (frontier_of (boxes_after taken rest))) (sym (ap frontier_of e ∙ frontier_last rest b)) (by_taken taken t)
  where
    by_taken : (taken : BoxStep) → IsBoxStep br cons (box_of b) taken → Node sets br cons (box_of b ∷ frontier_of rest) (answer_of taken) (frontier_of (boxes_after taken rest))
    by_taken Dropped t = drops t
    by_taken (Answered p) t = answers t
    by_taken (Split c d) t = subst (λ f. Node sets br cons (box_of b ∷ frontier_of rest) None f) (sym (frontier_last (rest ++ d ∷ []) c ∙ ap (λ f. box_of c ∷ f) (frontier_last rest d))) (splits (splits_of sets br cons (box_of b) (box_of c) (box_of d) i t))

boxes_taken : (sets : Box) (br : Branching) (cons : List Ground) (b : Ranged) (rest : List Ranged) (taken : BoxStep) → BoxIn sets b → IsBoxStep br cons (box_of b) taken → All (BoxIn sets) rest → All (BoxIn sets) (boxes_after taken rest)
boxes_taken sets br cons b rest Dropped i t h = h
boxes_taken sets br cons b rest (Answered p) i t h = h
boxes_taken sets br cons b rest (Split c d) i t h =
    let k = parts_in sets br cons (box_of b) (box_of c) (box_of d) i t in
    All-push (BoxIn sets) (rest ++ d ∷ []) c (All-push (BoxIn sets) rest d h k.right_box) k.left_box

-- the scope `old` without its first box, `mid`, and with what was made of the box in its place
pub record Taking (sets : Box) (br : Branching) (cons : List Ground) (old mid : PlainScope) (first : Ranged) (taken : BoxStep) : Type 0 where
  pub sound : IsSound sets cons old
  pub live : mid.live ≡ old.live
  pub given : mid.given.items ≡ old.given.items
  pub boxes : old.boxes.items ≡ mid.boxes.items ++ first ∷ []
  pub spent : mid.spent ≡ old.spent
  pub closed : mid.closed ≡ old.closed
  pub takes : IsBoxStep br cons (box_of first) taken

-- the box is one of the declared sets, and so are the others
pub last_box : (sets : Box) (boxes rest : List Ranged) (b : Ranged) → All (BoxIn sets) boxes → boxes ≡ rest ++ b ∷ [] → BoxIn sets b
last_box sets boxes rest b h e = (All-pop (BoxIn sets) boxes rest (Some b) e h).1

rest_boxes : (sets : Box) (boxes rest : List Ranged) (b : Ranged) → All (BoxIn sets) boxes → boxes ≡ rest ++ b ∷ [] → All (BoxIn sets) rest
rest_boxes sets boxes rest b h e = (All-pop (BoxIn sets) boxes rest (Some b) e h).0

pub sound_put : (sets : Box) (br : Branching) (cons : List Ground) (old mid new : PlainScope) (first : Ranged) (taken : BoxStep) (r : Result (Option Assignment) AllocError) → Taking sets br cons old mid first taken → IfOk r (λ a. Applies mid taken a new) → OnErr r (KeepsBoxes mid new) → IsSound sets cons new
sound_put sets br cons old mid new first taken (Ok a) t p k = record {
  fit = t.sound.fit;
  live = p.live ∙ t.live ∙ t.sound.live;
  boxes = subst (All (BoxIn sets)) (sym p.boxes) (boxes_taken sets br cons first mid.boxes.items taken (last_box sets old.boxes.items mid.boxes.items first t.sound.boxes t.boxes) t.takes (rest_boxes sets old.boxes.items mid.boxes.items first t.sound.boxes t.boxes));
}
sound_put sets br cons old mid new first taken (Err e) t p k = record {
  fit = t.sound.fit;
  live = k.live ∙ t.live ∙ t.sound.live;
  boxes = subst (All (BoxIn sets)) (sym k.boxes) (rest_boxes sets old.boxes.items mid.boxes.items first t.sound.boxes t.boxes);
}

same_scope : (c : List Ground) (g g' : List Assignment) (f : List Box) (s s' : ℕ) (k k' : Bool) → g ≡ g' → s ≡ s' → k ≡ k' → (let x : Scope = record { cons = c; given = g; frontier = f; spent = s; closed = k } in x) ≡ (let y : Scope = record { cons = c; given = g'; frontier = f; spent = s'; closed = k' } in y)
same_scope c g g' f s s' k k' eg es ek = cc

scope_put : (sets : Box) (br : Branching) (cons : List Ground) (old mid new : PlainScope) (first : Ranged) (taken : BoxStep) → Taking sets br cons old mid first taken → Applies mid taken (answer_of taken) new → scope_of cons (stored_of new) ≡ scope_after (scope_of cons (stored_of old)) (frontier_of new.boxes.items) (answer_of taken)
scope_put sets br cons old mid new first Dropped t p = same_scope cons new.given.items old.given.items (frontier_of new.boxes.items) new.spent (old.spent + 1) new.closed old.closed (p.given ∙ t.given) (p.spent ∙ ap (λ n. n + 1) t.spent) (p.closed ∙ t.closed)
scope_put sets br cons old mid new first (Answered q) t p = same_scope cons new.given.items (old.given.items ++ q ∷ []) (frontier_of new.boxes.items) new.spent (old.spent + 1) new.closed old.closed (p.given ∙ ap (λ g. g ++ q ∷ []) t.given) (p.spent ∙ ap (λ n. n + 1) t.spent) (p.closed ∙ t.closed)
scope_put sets br cons old mid new first (Split c d) t p = same_scope cons new.given.items old.given.items (frontier_of new.boxes.items) new.spent (old.spent + 1) new.closed old.closed (p.given ∙ t.given) (p.spent ∙ ap (λ n. n + 1) t.spent) (p.closed ∙ t.closed)

-- a session as it is stored, by its parts
abbrev pub stored : Ranged → Branching → List Ground → PlainScope → List Parent → Bool → Stored
stored declared br cons current parents failed = record { sets = declared; branching = br; constraints = cons; scope = stored_of current; parents = map parent_of (reverse parents); failed = failed }

pub node_put : (declared : Ranged) (br : Branching) (cons : List Ground) (old mid new : PlainScope) (parents : List Parent) (failed : Bool) (first : Ranged) (taken : BoxStep) (r : Result (Option Assignment) AllocError) → Taking (box_of declared) br cons old mid first taken → IfOk r (λ a. Applies mid taken a new) → IfOk r (λ a. NodeGives (state_of (stored declared br cons old parents failed)) a (state_of (stored declared br cons new parents failed)))
node_put declared br cons old mid new parents failed first taken (Err e) t p = tt
node_put declared br cons old mid new parents failed first taken (Ok a) t p = subst (λ q. NodeGives (state_of (stored declared br cons old parents failed)) q (state_of (stored declared br cons new parents failed))) (sym p.answer_is) (gives (subst (λ q. Applies mid taken q new) p.answer_is p))
  where
    in_sets : BoxIn (box_of declared) first
    in_sets = last_box (box_of declared) old.boxes.items mid.boxes.items first t.sound.boxes t.boxes

    gives : Applies mid taken (answer_of taken) new → NodeGives (state_of (stored declared br cons old parents failed)) (answer_of taken) (state_of (stored declared br cons new parents failed))
    gives q = record {
      frontier = frontier_of new.boxes.items;
      node = subst (λ bs. Node (box_of declared) br cons (frontier_of old.boxes.items) (answer_of taken) (frontier_of bs)) (sym q.boxes) (node_taken (box_of declared) br cons first mid.boxes.items old.boxes.items taken in_sets t.boxes t.takes);
      is = ap (with_scope (state_of (stored declared br cons old parents failed))) (scope_put (box_of declared) br cons old mid new first taken t q);
    }

-- ---- scopes that begin

box_self : (b : Box) → IsProper b → IsBox b b
box_self [] i = tt
box_self (s ∷ b) i = (i.0, (λ z h. h), box_self b i.1)

opens_from : (declared : Ranged) (cons : List Ground) (boxes : List Ranged) → AreOpening declared boxes → Opens (box_of declared) cons (frontier_of boxes)
opens_from declared cons [] h = λ p i m. h p i
opens_from declared cons (b ∷ []) h = subst (λ q. Opens (box_of declared) cons (box_of q ∷ [])) (sym h.0) (box_self (box_of declared) h.1, λ p i m. i)
opens_from declared cons (b ∷ c ∷ bs) h = absurd h

pub fresh_from : (declared : Ranged) (cons : List Ground) (live : ℕ) (sc : PlainScope) → IsOpened declared live sc → IsFresh (box_of declared) cons (scope_of cons (stored_of sc))
fresh_from declared cons live sc o = record { cons = refl; given = o.given; spent = o.spent; closed = o.closed; opens = opens_from declared cons sc.boxes.items o.boxes }

boxes_from : (declared : Ranged) (boxes : List Ranged) → AreOpening declared boxes → All (BoxIn (box_of declared)) boxes
boxes_from declared [] h = All-nil (BoxIn (box_of declared))
boxes_from declared (b ∷ []) h = All-push (BoxIn (box_of declared)) [] b (All-nil (BoxIn (box_of declared))) (subst (BoxIn (box_of declared)) (sym h.0) (box_self (box_of declared) h.1))
boxes_from declared (b ∷ c ∷ bs) h = absurd h

pub sound_from : (declared : Ranged) (cons : List Ground) (live : ℕ) (sc : PlainScope) → All (IsConstraint (box_of declared)) cons → live ≡ live_nodes cons → IsOpened declared live sc → IsSound (box_of declared) cons sc
sound_from declared cons live sc fit e o = record {
  fit = fit;
  live = o.live_is ∙ e;
  boxes = boxes_from declared sc.boxes.items o.boxes;
}

-- ---- the scopes below the current one

-- the scope with these constraints, below one that begins
abbrev pub parent : List Ground → PlainScope → Parent
parent cons sc = record { scope = sc; posted = length cons }

below_push : (cons : List Ground) (parents : List Parent) (p : Parent) → scopes_below cons (map parent_of (reverse (parents ++ p ∷ []))) ≡ scope_of (take p.posted cons) (stored_of p.scope) ∷ scopes_below (take p.posted cons) (map parent_of (reverse parents))
below_push cons parents p = ap (λ q. scopes_below cons (map parent_of q)) (reverse-append parents (p ∷ []))

whole : (cons : List Ground) → take (length cons) cons ≡ cons
whole cons = take_all (length cons) cons (omega arith)

pub enters_from : (declared : Ranged) (br : Branching) (cons : List Ground) (live : ℕ) (old child : PlainScope) (parents now : List Parent) (failed : Bool) → IsOpened declared live child → now ≡ parents ++ parent cons old ∷ [] → Enters (state_of (stored declared br cons old parents failed)) (state_of (stored declared br cons child now failed))
enters_from declared br cons live old child parents now failed o e = record {
  child = scope_of cons (stored_of child);
  fresh = fresh_from declared cons live child o;
  is = ap (λ q. record (state_of (stored declared br cons child [] failed)) { parents = q }) (ap (λ q. scopes_below cons (map parent_of (reverse q))) e ∙ below_push cons parents (parent cons old) ∙ ap (λ q. scope_of q (stored_of old) ∷ scopes_below q (map parent_of (reverse parents))) (whole cons));
}

below_length : (cons : List Ground) (ps : List Parent) → length (scopes_below cons (map parent_of ps)) ≡ length ps
below_length cons [] = refl
below_length cons (p ∷ ps) = ap suc (below_length (take p.posted cons) ps)

pub parents_length : (cons : List Ground) (parents : List Parent) → length (scopes_below cons (map parent_of (reverse parents))) ≡ length parents
parents_length cons parents = below_length cons (reverse parents) ∙ length-reverse parents

pub sound_pushed : (sets : Box) (cons : List Ground) (old child : PlainScope) (parents now : List Parent) → AreSound sets cons old parents → IsSound sets cons child → length (scopes_below cons (map parent_of (reverse parents))) + 1 < 200 → now ≡ parents ++ parent cons old ∷ [] → AreSound sets cons child now
sound_pushed sets cons old child parents now a s l e = record {
  declared = a.declared;
  scope = s;
  below = subst (λ q. AreBelow sets cons (reverse q)) (sym e) (subst (AreBelow sets cons) (sym (reverse-append parents (parent cons old ∷ []))) nearest);
  depth = let n = parents_length cons parents in let m : length now ≡ suc (length parents) = ap length e ∙ pushed parents (parent cons old) in omega (arith, n, m, l);
}
  where
    pushed : (xs : List Parent) (x : Parent) → length (xs ++ x ∷ []) ≡ suc (length xs)
    pushed [] x = refl
    pushed (y ∷ xs) x = ap suc (pushed xs x)

    nearest : AreBelow sets cons (parent cons old ∷ reverse parents)
    nearest = (omega arith, subst (λ q. IsSound sets q old) (sym (whole cons)) a.scope, subst (λ q. AreBelow sets q (reverse parents)) (sym (whole cons)) a.below)

-- what is left when the nearest becomes the current one
pub sound_left : (sets : Box) (cons : List Ground) (current : PlainScope) (parents rest : List Parent) (p : Parent) → AreSound sets cons current parents → parents ≡ rest ++ p ∷ [] → AreSound sets (take p.posted cons) p.scope rest
sound_left sets cons current parents rest p a e =
    let below : AreBelow sets cons (p ∷ reverse rest) = subst (AreBelow sets cons) (reverse-append rest (p ∷ [])) (subst (λ q. AreBelow sets cons (reverse q)) e a.below) in
    record {
      declared = a.declared;
      scope = below.1;
      below = below.2;
      depth = let m : length parents ≡ suc (length rest) = ap length e ∙ pushed rest in let d = a.depth in omega (arith, m, d);
    }
  where
    pushed : (xs : List Parent) → length (xs ++ p ∷ []) ≡ suc (length xs)
    pushed [] = refl
    pushed (y ∷ xs) = ap suc (pushed xs)

pub leaves_from : (declared : Ranged) (br : Branching) (cons : List Ground) (current : PlainScope) (parents rest : List Parent) (p : Parent) (failed : Bool) → parents ≡ rest ++ p ∷ [] → Leaves (state_of (stored declared br cons current parents failed)) (state_of (stored declared br (take p.posted cons) p.scope rest failed))
leaves_from declared br cons current parents rest p failed e = record {
  parent = scope_of (take p.posted cons) (stored_of p.scope);
  below = scopes_below (take p.posted cons) (map parent_of (reverse rest));
  stood = ap (λ q. scopes_below cons (map parent_of (reverse q))) e ∙ below_push cons rest p;
  is = refl;
}

-- a constraint more leaves the scopes below as they are
below_more : (sets : Box) (cons : List Ground) (g : Ground) (ps : List Parent) → AreBelow sets cons ps → AreBelow sets (cons ++ g ∷ []) ps
below_more sets cons g [] h = tt
below_more sets cons g (p ∷ ps) h =
    let same = sym (take-append-le p.posted cons (g ∷ []) h.0) in
    let more = length-append cons (g ∷ []) in
    let within = h.0 in
    (omega (arith, more, within), subst (λ q. IsSound sets q p.scope) same h.1, subst (λ q. AreBelow sets q ps) same h.2)

scopes_more : (sets : Box) (cons : List Ground) (g : Ground) (ps : List Parent) → AreBelow sets cons ps → scopes_below (cons ++ g ∷ []) (map parent_of ps) ≡ scopes_below cons (map parent_of ps)
scopes_more sets cons g [] h = refl
scopes_more sets cons g (p ∷ ps) h = ap (λ q. scope_of q (stored_of p.scope) ∷ scopes_below q (map parent_of ps)) (take-append-le p.posted cons (g ∷ []) h.0)

pub sound_posted : (sets : Box) (cons now : List Ground) (g : Ground) (old new : PlainScope) (parents : List Parent) → AreSound sets cons old parents → IsConstraint sets g → now ≡ cons ++ g ∷ [] → new.live ≡ old.live + size_of g → new.boxes.items ≡ old.boxes.items → AreSound sets now new parents
sound_posted sets cons now g old new parents a fit e live boxes = subst (λ q. AreSound sets q new parents) (sym e) (record {
  declared = a.declared;
  scope = record {
    fit = All-push (IsConstraint sets) cons g a.scope.fit fit;
    live = let s = sum_by-append size_of cons (g ∷ []) in let o = a.scope.live in omega (arith, s, o, live);
    boxes = subst (All (BoxIn sets)) (sym boxes) a.scope.boxes;
  };
  below = below_more sets cons g (reverse parents) a.below;
  depth = a.depth;
})

pub posts_from : (declared : Ranged) (br : Branching) (cons now : List Ground) (g : Ground) (old new : PlainScope) (parents : List Parent) (failed : Bool) → AreSound (box_of declared) cons old parents → now ≡ cons ++ g ∷ [] → stored_of new ≡ stored_of old → state_of (stored declared br now new parents failed) ≡ with_constraint (state_of (stored declared br cons old parents failed)) g
posts_from declared br cons now g old new parents failed a e same =
    ap (λ q. state_of (stored declared br q new parents failed)) e
    ∙ ap (λ sc. record (state_of (stored declared br (cons ++ g ∷ []) new parents failed)) { scope = scope_of (cons ++ g ∷ []) sc }) same
    ∙ ap (λ q. record (state_of (stored declared br (cons ++ g ∷ []) old parents failed)) { parents = q }) (scopes_more (box_of declared) cons g (reverse parents) a.below)

-- ---- a session that begins

pub record Begins (sets declared : Ranged) (cons kept : List Ground) (live : ℕ) (sc : PlainScope) (parents : List Parent) : Type 0 where
  pub same : declared ≡ sets
  pub proper : Each IsDeclared (box_of sets)
  pub fit : All (IsConstraint (box_of sets)) cons
  pub copied : kept ≡ cons
  pub live_is : live ≡ live_nodes cons
  pub opened : IsOpened declared live sc
  pub alone : parents ≡ []

-- what holds where the sets and the constraints are those that were given, and no scope stands below
begins : (sets declared : Ranged) (cons kept : List Ground) (live : ℕ) (sc : PlainScope) (parents : List Parent) (P : Ranged → List Ground → List Parent → Type 0) → Begins sets declared cons kept live sc parents → P sets cons [] → P declared kept parents
begins sets declared cons kept live sc parents P b h = subst (λ q. P q kept parents) (sym b.same) (subst (λ q. P sets q parents) (sym b.copied) (subst (P sets cons) (sym b.alone) h))

opened_over : (sets declared : Ranged) (cons kept : List Ground) (live : ℕ) (sc : PlainScope) (parents : List Parent) → Begins sets declared cons kept live sc parents → IsOpened sets live sc
opened_over sets declared cons kept live sc parents b = subst (λ q. IsOpened q live sc) b.same b.opened

pub begins_sound : (sets declared : Ranged) (cons kept : List Ground) (live : ℕ) (sc : PlainScope) (parents : List Parent) → Begins sets declared cons kept live sc parents → AreSound (box_of declared) kept sc parents
begins_sound sets declared cons kept live sc parents b = begins sets declared cons kept live sc parents (λ d c ps. AreSound (box_of d) c sc ps) b (record {
  declared = b.proper;
  scope = sound_from sets cons live sc b.fit b.live_is (opened_over sets declared cons kept live sc parents b);
  below = tt;
  depth = omega arith;
})

pub begins_opening : (sets declared : Ranged) (br : Branching) (cons kept : List Ground) (live : ℕ) (sc : PlainScope) (parents : List Parent) → Begins sets declared cons kept live sc parents → IsOpening (box_of sets) br cons (state_of (stored declared br kept sc parents false))
begins_opening sets declared br cons kept live sc parents b = begins sets declared cons kept live sc parents (λ d c ps. IsOpening (box_of sets) br cons (state_of (stored d br c sc ps false))) b (record {
  sets = refl;
  branching = refl;
  scope = fresh_from sets cons live sc (opened_over sets declared cons kept live sc parents b);
  parents = refl;
  failed = refl;
})

pub begins_valid : (sets declared : Ranged) (br : Branching) (cons kept : List Ground) (live : ℕ) (sc : PlainScope) (parents : List Parent) → Begins sets declared cons kept live sc parents → IsValidSession (state_of (stored declared br kept sc parents false))
begins_valid sets declared br cons kept live sc parents b = begins sets declared cons kept live sc parents (λ d c ps. IsValidSession (state_of (stored d br c sc ps false))) b (opening_is_valid (state_of (stored sets br cons sc [] false)) b.proper b.fit (fresh_from sets cons live sc (opened_over sets declared cons kept live sc parents b)) refl)
