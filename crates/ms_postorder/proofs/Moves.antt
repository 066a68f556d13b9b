-- The steps of a depth-first search.
use Rattle.std.proofs.Common.{◌≡◌, ℕ, zero, suc, Some, None, ◌+◌, ◌<◌, ◌≤◌, List, [], ◌∷◌, ◌++◌, length, get_or, set, drop, reverse, Bool, true, false, ◌⊎◌, inl, inr, refl, sym, ap, subst, ◌∙◌, arith}
use Rattle.std.proofs.lemmas.Bool.{cases_eq, cases_lt}
use Rattle.std.proofs.lemmas.List.{reverse-append, drop_all, get_or-set_same, get_or-set_other, get_or_past, get_or_default, length-set}
use Rattle.std.proofs.lemmas.Option.{slice_get_within, get_or_from_slice_get}
use Rattle.std.proofs.Math.Seq.{drop-cons}
use Rattle.std.specs.Prelude.{slice_get}
use Rattle.ms_graph.specs.Graph.{Edges, ending}
use Rattle.ms_postorder.specs.declared.search.Frame.{Frame}
use Rattle.ms_postorder.specs.declared.search.Search.{Search}
use Rattle.ms_postorder.specs.Postorder.{ComeAll, In, nodes_from, none, passed, comes}
use Rattle.ms_postorder.proofs.Orders.{come_both}
use Rattle.ms_postorder.specs.Stacks.{Enters, Finish, Holds, IsSearch, Searched, Steps, Walks, empty, finish, left, nodes, stack, unseen}
use Rattle.ms_postorder.proofs.SharedMembers.{in_last, in_left, in_more}

pub stack_more : (fs : List Frame) (f : Frame) → reverse (fs ++ f ∷ []) ≡ f ∷ reverse fs
stack_more fs f = reverse-append fs (f ∷ [])

pub none_past : {X : Type 0} (xs : List X) (i : ℕ) → slice_get xs i ≡ None → length xs ≤ i
none_past [] i e = omega arith
none_past (x ∷ xs) zero e = absurd (let wrong : Some x ≡ None = e in cc)
none_past (x ∷ xs) (suc i) e = let rest : length xs ≤ i = none_past xs i e in omega arith

pub read_is : {X : Type 0} (xs : List X) (i : ℕ) (x d : X) → i < length xs → x ≡ get_or xs i x → get_or xs i d ≡ x
read_is xs i x d i_in e = sym (e ∙ get_or_default xs i x d i_in)

-- the frame when one more of its edges is followed
abbrev pub onward_of : Frame → Frame
onward_of f = record { node = f.node; followed = f.followed + 1 }

-- what is marked is a node
pub known_node : (g : Edges) (seen : List Bool) (a : ℕ) → length seen ≡ length g → get_or seen a false ≡ true → a < length g
known_node g seen a size e = elim (cases_lt a (length g)) [
  | inl l ↦ l
  | inr from ↦ absurd (let wrong : false ≡ true = sym (get_or_past seen a false (omega arith)) ∙ e in cc)
]

pub frame_node : {g : Edges} {seen : List Bool} {fs : List Frame} {order : List ℕ} (f : Frame) → Holds g seen (f ∷ fs) order → f.node < length g
frame_node {g = g} {seen = seen} f h = known_node g seen f.node h.size (h.known f.node (inr (inl refl)))

next_edge : (es : List ℕ) (k b : ℕ) → slice_get es k ≡ Some b → drop k es ≡ b ∷ drop (k + 1) es
next_edge es k b e =
    let one : suc k ≡ k + 1 = omega arith in
    drop-cons es k 0 (slice_get_within es k b e) ∙ ap (λ x. x ∷ drop (suc k) es) (get_or_from_slice_get es k b 0 e) ∙ ap (λ n. b ∷ drop n es) one

-- ---- an edge to a node that is seen

pub kept_holds : {g : Edges} {seen : List Bool} {fs : List Frame} {order : List ℕ} (f : Frame) → Holds g seen (f ∷ fs) order → Holds g seen (onward_of f ∷ fs) order
kept_holds f h = record { leads = h.leads; size = h.size; come = h.come; known = h.known }

less_followed : (g : Edges) (seen : List Bool) (fs : List Frame) (f : Frame) (b : ℕ) → ending g f.node f.followed ≡ Some b
    → left g seen (onward_of f ∷ fs) + 1 ≡ left g seen (f ∷ fs)
less_followed g seen fs f b e =
    let within : f.followed < length (get_or g f.node []) = slice_get_within (get_or g f.node []) f.followed b e in
    omega arith

goes_on : {g : Edges} {fs : List Frame} {order : List ℕ} (f : Frame) (b : ℕ) → ending g f.node f.followed ≡ Some b
    → (In b order ⊎ In b (nodes (f ∷ fs))) → (after : List ℕ) → Finish g (onward_of f ∷ fs) order after → Finish g (f ∷ fs) order after
goes_on {g = g} {fs = fs} {order = order} f b e m after (finish {targets = ts} c r) =
    finish (subst (λ ns. ComeAll g (f.node ∷ nodes fs) order ns ts) (sym (next_edge (get_or g f.node []) f.followed b e)) (passed m c)) r

pub step_from : {g : Edges} (f : Frame) (old new : Search) (fs : List Frame) → stack new ≡ fs → Holds g new.seen.items fs new.order.items
    → left g new.seen.items fs < left g old.seen.items (f ∷ stack old)
    → ((after : List ℕ) → Finish g fs new.order.items after → Finish g (f ∷ stack old) old.order.items after)
    → Steps g f old new
step_from {g = g} f old new fs is h less back = record {
  search = subst (λ s. Holds g new.seen.items s new.order.items) (sym is) h;
  falls = subst (λ s. left g new.seen.items s < left g old.seen.items (f ∷ stack old)) (sym is) less;
  finishes = subst (λ s. (after : List ℕ) → Finish g s new.order.items after → Finish g (f ∷ stack old) old.order.items after) (sym is) back;
}

pub step_seen : (g : Edges) (f : Frame) (old new : Search) (b : ℕ) → Holds g old.seen.items (f ∷ stack old) old.order.items
    → ending g f.node f.followed ≡ Some b → get_or old.seen.items b false ≡ true
    → new.seen.items ≡ old.seen.items → new.waiting.items ≡ old.waiting.items ++ onward_of f ∷ [] → new.order.items ≡ old.order.items
    → Steps g f old new
step_seen g f old new b h e m same_seen more same_order =
    let less = less_followed g old.seen.items (stack old) f b e in
    step_from f old new (onward_of f ∷ stack old) (ap reverse more ∙ stack_more old.waiting.items (onward_of f))
    (subst (λ s. Holds g s (onward_of f ∷ stack old) new.order.items) (sym same_seen)
    (subst (λ o. Holds g old.seen.items (onward_of f ∷ stack old) o) (sym same_order) (kept_holds f h)))
    (subst (λ s. left g s (onward_of f ∷ stack old) < left g old.seen.items (f ∷ stack old)) (sym same_seen) (omega (arith, less)))
    (subst (λ o. (after : List ℕ) → Finish g (onward_of f ∷ stack old) o after → Finish g (f ∷ stack old) old.order.items after) (sym same_order)
    (goes_on f b e (h.come b m)))

-- ---- an edge to a new node

abbrev first_frame : ℕ → Frame
first_frame a = record { node = a; followed = 0 }

new_seen : (g : Edges) (seen : List Bool) (a : ℕ) → length seen ≡ length g → a < length g → get_or seen a false ≡ false
    → unseen g (set seen a true) + suc (suc (length (get_or g a []))) ≡ unseen g seen
new_seen [] seen a size less n = absurd (omega arith)
new_seen (es ∷ g) [] a size less n = absurd (omega arith)
new_seen (es ∷ g) (false ∷ seen) zero size less n = omega arith
new_seen (es ∷ g) (true ∷ seen) zero size less n = absurd (let wrong : true ≡ false = n in cc)
new_seen (es ∷ g) (false ∷ seen) (suc a) size less n =
    let rest = new_seen g seen a (omega arith) (omega arith) n in omega (arith, rest)
new_seen (es ∷ g) (true ∷ seen) (suc a) size less n =
    let rest = new_seen g seen a (omega arith) (omega arith) n in omega (arith, rest)

pub entered_holds : {g : Edges} {seen : List Bool} {fs : List Frame} {order : List ℕ} (a : ℕ) → a < length g → Holds g seen fs order
    → Holds g (set seen a true) (first_frame a ∷ fs) order
entered_holds {g = g} {seen = seen} {fs = fs} {order = order} a less h =
    let a_in : a < length seen = omega (arith, h.size) in
    record {
      leads = h.leads;
      size = length-set seen a true ∙ h.size;
      come = λ b e. elim (cases_eq b a) [
        | inl same ↦ inr (inl same)
        | inr other ↦ elim (h.come b (sym (get_or-set_other seen a b true false other) ∙ e)) [
          | inl i ↦ inl i
          | inr i ↦ inr (inr i)
        ]
      ];
      known = λ b m. elim (cases_eq b a) [
        | inl same ↦ subst (λ n. get_or (set seen a true) n false ≡ true) (sym same) (get_or-set_same seen a true false a_in)
        | inr other ↦ get_or-set_other seen a b true false other ∙ h.known b (elim m [
          | inl i ↦ inl i
          | inr i ↦ elim i [
            | inl e ↦ absurd (other e)
            | inr j ↦ inr j
          ]
        ])
      ];
    }

no_true : {b : Bool} → b ≡ false → b ≡ true → ⊥
no_true p q = let wrong : false ≡ true = sym p ∙ q in cc

enters : {g : Edges} {seen : List Bool} {fs : List Frame} {order : List ℕ} (f : Frame) (b : ℕ) → Holds g seen (f ∷ fs) order
    → ending g f.node f.followed ≡ Some b → get_or seen b false ≡ false
    → (after : List ℕ) → Finish g (first_frame b ∷ onward_of f ∷ fs) order after → Finish g (f ∷ fs) order after
enters {g = g} {fs = fs} {order = order} f b h e n after (finish c (finish {targets = ts} d r)) =
    finish (subst (λ ns. ComeAll g (f.node ∷ nodes fs) order ns ts) (sym (next_edge (get_or g f.node []) f.followed b e))
    (comes (λ m. no_true n (h.known b (inl m))) (λ m. no_true n (h.known b (inr m))) c d)) r

pub step_new : (g : Edges) (f : Frame) (old mid new : Search) (b : ℕ) → Holds g old.seen.items (f ∷ stack old) old.order.items
    → ending g f.node f.followed ≡ Some b → get_or old.seen.items b false ≡ false
    → mid.seen.items ≡ old.seen.items → mid.waiting.items ≡ old.waiting.items ++ onward_of f ∷ [] → mid.order.items ≡ old.order.items
    → Enters mid new b → Steps g f old new
step_new g f old mid new b h e n same_seen more same_order t =
    let fs = first_frame b ∷ onward_of f ∷ stack old in
    let seen_is : new.seen.items ≡ set old.seen.items b true = t.seen ∙ ap (λ s. set s b true) same_seen in
    let order_is : new.order.items ≡ old.order.items = t.order ∙ same_order in
    let b_in : b < length g = h.leads f.node b (f.followed, e) in
    let less = less_followed g old.seen.items (stack old) f b e in
    let fewer = new_seen g old.seen.items b h.size b_in n in
    step_from f old new fs
    (ap reverse t.waiting ∙ stack_more mid.waiting.items (first_frame b) ∙ ap (λ ws. first_frame b ∷ reverse ws) more ∙ ap (λ ws. first_frame b ∷ ws) (stack_more old.waiting.items (onward_of f)))
    (subst (λ s. Holds g s fs new.order.items) (sym seen_is)
    (subst (λ o. Holds g (set old.seen.items b true) fs o) (sym order_is) (entered_holds b b_in (kept_holds f h))))
    (subst (λ s. left g s fs < left g old.seen.items (f ∷ stack old)) (sym seen_is) (omega (arith, less, fewer)))
    (subst (λ o. (after : List ℕ) → Finish g fs o after → Finish g (f ∷ stack old) old.order.items after) (sym order_is) (enters f b h e n))

-- ---- a node whose edges are all followed

left_holds : {g : Edges} {seen : List Bool} {fs : List Frame} {order : List ℕ} (f : Frame) → Holds g seen (f ∷ fs) order → Holds g seen fs (order ++ f.node ∷ [])
left_holds {order = order} f h = record {
  leads = h.leads;
  size = h.size;
  come = λ a e. elim (h.come a e) [
    | inl i ↦ inl (in_left order (f.node ∷ []) a i)
    | inr i ↦ elim i [
      | inl same ↦ inl (subst (λ n. In a (order ++ n ∷ [])) same (in_last order a))
      | inr j ↦ inr j
    ]
  ];
  known = λ a m. elim m [
    | inl i ↦ elim (in_more order f.node a i) [
      | inl j ↦ h.known a (inl j)
      | inr same ↦ h.known a (inr (inl same))
    ]
    | inr j ↦ h.known a (inr (inr j))
  ];
}

pub step_leaves : (g : Edges) (f : Frame) (old new : Search) → Holds g old.seen.items (f ∷ stack old) old.order.items
    → ending g f.node f.followed ≡ None
    → new.seen.items ≡ old.seen.items → new.waiting.items ≡ old.waiting.items → new.order.items ≡ old.order.items ++ f.node ∷ []
    → Steps g f old new
step_leaves g f old new h e same_seen same_waiting more =
    let none_left : drop f.followed (get_or g f.node []) ≡ [] = drop_all f.followed (get_or g f.node []) (none_past (get_or g f.node []) f.followed e) in
    step_from f old new (stack old) (ap reverse same_waiting)
    (subst (λ s. Holds g s (stack old) new.order.items) (sym same_seen)
    (subst (λ o. Holds g old.seen.items (stack old) o) (sym more) (left_holds f h)))
    (subst (λ s. left g s (stack old) < left g old.seen.items (f ∷ stack old)) (sym same_seen) (omega arith))
    (subst (λ o. (after : List ℕ) → Finish g (stack old) o after → Finish g (f ∷ stack old) old.order.items after) (sym more)
    (λ after r. finish (subst (λ ns. ComeAll g (f.node ∷ nodes (stack old)) old.order.items ns old.order.items) (sym none_left) none) r))

-- ---- whole searches

nothing : {X : Type 0} (xs : List X) → length xs ≡ 0 → xs ≡ []
nothing [] e = refl
nothing (x ∷ xs) e = absurd (omega arith)

pub walked : (g : Edges) (old mid new : Search) → IsSearch g mid
    → ((after : List ℕ) → Finish g (stack mid) mid.order.items after → Finish g (stack old) old.order.items after)
    → length mid.waiting.items ≡ 0 → length new.waiting.items ≡ 0 → new.seen.items ≡ mid.seen.items → new.order.items ≡ mid.order.items
    → Walks g old new
walked g old mid new h back no_mid no_new same_seen same_order =
    let mid_idle : mid.waiting.items ≡ [] = nothing mid.waiting.items no_mid in
    let new_idle : new.waiting.items ≡ [] = nothing new.waiting.items no_new in
    let same : stack new ≡ stack mid = ap reverse (new_idle ∙ sym mid_idle) in
    record {
      search = subst (λ s. Holds g new.seen.items s new.order.items) (sym same)
          (subst (λ s. Holds g s (stack mid) new.order.items) (sym same_seen) (subst (λ o. Holds g mid.seen.items (stack mid) o) (sym same_order) h));
      idle = new_idle;
      finishes = subst (λ o. Finish g (stack old) old.order.items o) (sym same_order)
          (back mid.order.items (subst (λ s. Finish g s mid.order.items mid.order.items) (sym (ap reverse mid_idle)) empty));
    }

pub searched_seen : (g : Edges) (s : Search) (a : ℕ) → IsSearch g s → s.waiting.items ≡ [] → get_or s.seen.items a false ≡ true → Searched g s s a
searched_seen g s a h idle e =
    let m : In a s.order.items ⊎ In a [] = subst (λ ws. In a s.order.items ⊎ In a (nodes (reverse ws))) idle (h.come a e) in
    record { search = h; idle = idle; come = passed m none }

pub begun : (g : Edges) (old mid : Search) (a : ℕ) → IsSearch g old → a < length g → Enters old mid a → IsSearch g mid
begun g old mid a h less t =
    subst (λ s. Holds g s (stack mid) mid.order.items) (sym t.seen)
    (subst (λ o. Holds g (set old.seen.items a true) (stack mid) o) (sym t.order)
    (subst (λ fs. Holds g (set old.seen.items a true) fs old.order.items) (sym (ap reverse t.waiting ∙ stack_more old.waiting.items (first_frame a)))
    (entered_holds a less h)))

one_comes : (g : Edges) (a : ℕ) (order after : List ℕ) → (In a order → ⊥) → Finish g (first_frame a ∷ []) order after → ComeAll g [] order (a ∷ []) after
one_comes g a order after n (finish c empty) = comes n (λ i. i) c none

pub searched_new : (g : Edges) (old mid new : Search) (a : ℕ) → IsSearch g old → old.waiting.items ≡ [] → get_or old.seen.items a false ≡ false
    → Enters old mid a → Walks g mid new → Searched g old new a
searched_new g old mid new a h idle n t w =
    let alone : stack mid ≡ first_frame a ∷ [] = ap reverse (t.waiting ∙ ap (λ ws. ws ++ first_frame a ∷ []) idle) in
    record {
      search = w.search;
      idle = w.idle;
      come = one_comes g a old.order.items new.order.items (λ m. no_true n (h.known a (inl m)))
          (subst (λ o. Finish g (first_frame a ∷ []) o new.order.items) t.order (subst (λ fs. Finish g fs mid.order.items new.order.items) alone w.finishes));
    }

-- ---- from node to node

pub next_node : (g : Edges) (k : ℕ) (before mid after : List ℕ) → k < length g → ComeAll g [] before (k ∷ []) mid
    → ComeAll g [] mid (nodes_from (k + 1) (drop (k + 1) g)) after → ComeAll g [] before (nodes_from k (drop k g)) after
next_node g k before mid after less c r =
    let one : k + 1 ≡ suc k = omega arith in
    subst (λ ns. ComeAll g [] before ns after) (sym (ap (nodes_from k) (drop-cons g k [] less)))
    (come_both c (subst (λ n. ComeAll g [] mid (nodes_from n (drop n g)) after) one r))

pub no_node : (g : Edges) (k : ℕ) (order : List ℕ) → length g ≤ k → ComeAll g [] order (nodes_from k (drop k g)) order
no_node g k order past = subst (λ ns. ComeAll g [] order ns order) (sym (ap (nodes_from k) (drop_all k g past))) none
