-- What a search has found.
use Rattle.std.proofs.Common.{◌≡◌, ℕ, ◌+◌, ◌<◌, List, [], ◌∷◌, ◌++◌, length, get_or, map, Bool, Some, ◌⊎◌, inl, inr, refl, sym, ap, subst, ◌∙◌, arith}
use Rattle.std.proofs.lemmas.Bool.{cases_lt}
use Rattle.std.proofs.lemmas.List.{get_or-map, get_or_append_left, get_or_at, get_or_past, length-map, map-append}
use Rattle.std.proofs.lemmas.Option.{get_or_from_slice_get, slice_get-get_or, slice_get_within}
use Rattle.std.specs.List.Sorted.{IsPermutation, IsSorted}
use Rattle.std.specs.Ordering.{nat_cmp}
use Rattle.std.specs.Prelude.{slice_get}
use Rattle.ms_graph.specs.Graph.{Edges, HasEdge}
use Rattle.ms_postorder.specs.Postorder.{In}
use Rattle.ms_postorder.specs.Laws.{Differ}
use Rattle.ms_postorder.proofs.SharedMembers.{in_left, in_more}
use Rattle.ms_order.specs.declared.finder.Finder.{Finder}
use Rattle.ms_order.specs.Finding.{Finds, FindsBut, FindsIn, IsFlag, IsInner, IsRow, Meets, Seen, SeenIn, next, over}
use Rattle.ms_order.proofs.Rising.{in_permutation, sorted_rises}

-- ---- a node is taken off the stack

pub popped : (g : Edges) (flags : List Bool) (start : ℕ) (marks : List ℕ) (turn : ℕ) (waiting found : List ℕ) (node : ℕ)
    → FindsIn g flags start marks turn (waiting ++ node ∷ []) found (λ a. In a (waiting ++ node ∷ []))
    → FindsIn g flags start marks turn waiting found (λ a. In a waiting ⊎ (a ≡ node))
popped g flags start marks turn waiting found node h = record {
  leads = h.leads;
  size = h.size;
  bound = h.bound;
  some = h.some;
  sound = h.sound;
  tells = h.tells;
  differ = h.differ;
  waits = λ a m. h.waits a (in_left waiting (node ∷ []) a m);
  closed = λ a i. elim (h.closed a i) [
    | inl m ↦ inl (in_more waiting node a m)
    | inr all ↦ inr all
  ];
}

-- a node that is seen, or the start, is a node of the graph
pub inner_node : (g : Edges) (flags : List Bool) (start : ℕ) (marks : List ℕ) (turn : ℕ) (a : ℕ) → length marks ≡ length g → 0 < turn → start < length g
    → IsInner flags start marks turn a → a < length g
inner_node g flags start marks turn a size some start_in i = elim i [
  | inl e ↦ omega arith
  | inr s ↦ elim (cases_lt a (length g)) [
    | inl l ↦ l
    | inr past ↦ absurd (let none : get_or marks a 0 ≡ 0 = get_or_past marks a 0 (omega arith) in let is : get_or marks a 0 ≡ turn = s.0 in omega arith)
  ]
]

-- where an edge of such a node leads is met
pub inner_meets : (g : Edges) (flags : List Bool) (start : ℕ) (marks : List ℕ) (turn : ℕ) (a b : ℕ) → ((c : ℕ) → SeenIn marks turn c → Meets g flags start c)
    → IsInner flags start marks turn a → HasEdge g a b → Meets g flags start b
inner_meets g flags start marks turn a b sound i e = elim i [
  | inl is ↦ next (subst (λ c. HasEdge g c b) is e)
  | inr s ↦ over (sound a s.0) s.1 e
]

-- ---- all edges of a node are followed

pub followed : (g : Edges) (flags : List Bool) (start node : ℕ) (s : Finder) → FindsBut g flags start node s
    → ((b : ℕ) → HasEdge g node b → Seen s b) → Finds g flags start s
followed g flags start node s h all = record {
  leads = h.leads;
  size = h.size;
  bound = h.bound;
  some = h.some;
  sound = h.sound;
  tells = h.tells;
  differ = h.differ;
  waits = h.waits;
  closed = λ a i. elim (h.closed a i) [
    | inl l ↦ elim l [
      | inl w ↦ inl w
      | inr is ↦ inr (λ b e. all b (subst (λ c. HasEdge g c b) is e))
    ]
    | inr done ↦ inr done
  ];
}

-- ---- the search is over

complete : (g : Edges) (flags : List Bool) (start : ℕ) (s : Finder) → Finds g flags start s → s.waiting.items ≡ []
    → (b : ℕ) → Meets g flags start b → Seen s b
complete g flags start s h idle b (next e) = elim (h.closed start (inl refl)) [
  | inl m ↦ absurd (subst (In start) idle m)
  | inr all ↦ all b e
]
complete g flags start s h idle b (over {f = f} m n e) = elim (h.closed f (inr (complete g flags start s h idle f m, n))) [
  | inl w ↦ absurd (subst (In f) idle w)
  | inr all ↦ all b e
]

pub row_found : (g : Edges) (flags : List Bool) (start : ℕ) (s : Finder) (found row : List ℕ) → Finds g flags start s → s.waiting.items ≡ []
    → IsFlag flags start → found ≡ s.found.items → IsPermutation found row → IsSorted nat_cmp row → IsRow g flags start row
row_found g flags start s found row h idle flag is p sorted = record {
  rises = sorted_rises found row (subst Differ (sym is) h.differ) p sorted;
  members = λ b. (
    λ m. let f = (h.tells b).0 (subst (In b) is ((in_permutation found row b p).1 m)) in (flag, h.sound b f.0, f.1),
    λ n. (in_permutation found row b p).0 (subst (In b) (sym is) ((h.tells b).1 (complete g flags start s h idle b n.1, n.2))),
  );
}

pub no_row : (g : Edges) (flags : List Bool) (start : ℕ) → (IsFlag flags start → ⊥) → IsRow g flags start []
no_row g flags start other = record {
  rises = λ k k_in. absurd (omega arith);
  members = λ b. (λ m. absurd m, λ n. absurd (other n.0));
}

-- ---- reads

pub targets_are : {V : Type 0} (f : V → List ℕ) (graph : List V) (node : ℕ) (v : V) (es : List ℕ) → node < length graph → v ≡ get_or graph node v → es ≡ f v
    → es ≡ get_or (map f graph) node []
targets_are f graph node v es node_in is e = e ∙ ap f is ∙ sym (get_or-map f graph node v [] node_in)

pub edge_at : (g : Edges) (node : ℕ) (es : List ℕ) → es ≡ get_or g node [] → (i : ℕ) → i < length es → HasEdge g node (get_or es i 0)
edge_at g node es is i i_in = (i, subst (λ xs. slice_get xs i ≡ Some (get_or es i 0)) is (slice_get-get_or es i 0 i_in))

pub edge_place : (g : Edges) (node : ℕ) (es : List ℕ) → es ≡ get_or g node [] → (b : ℕ) → HasEdge g node b → (k : ℕ) × (k < length es) × (slice_get es k ≡ Some b)
edge_place g node es is b (k, e) = let f : slice_get es k ≡ Some b = subst (λ xs. slice_get xs k ≡ Some b) (sym is) e in (k, slice_get_within es k b f, f)

pub same_read : (es : List ℕ) (i k b : ℕ) → k ≡ i → slice_get es k ≡ Some b → get_or es i 0 ≡ b
same_read es i k b is e = ap (λ j. get_or es j 0) (sym is) ∙ get_or_from_slice_get es k b 0 e

pub nothing : {X : Type 0} (xs : List X) → length xs ≡ 0 → xs ≡ []
nothing [] e = refl
nothing (x ∷ xs) e = absurd (omega arith)

-- ---- from row to row

pub next_row : {V : Type 0} (f : V → List ℕ) (g : Edges) (flags : List Bool) (rows : List V) (k : ℕ) (row : V) → length rows ≡ k
    → ((a : ℕ) → a < k → IsRow g flags a (get_or (map f rows) a [])) → IsRow g flags k (f row)
    → (a : ℕ) → a < k + 1 → IsRow g flags a (get_or (map f (rows ++ row ∷ [])) a [])
next_row f g flags rows k row size h r a less =
    let long : length (map f rows) ≡ k = length-map rows f ∙ size in
    subst (λ xs. IsRow g flags a (get_or xs a [])) (sym (map-append f rows (row ∷ [])))
    (elim (cases_lt a k) [
      | inl l ↦ subst (IsRow g flags a) (sym (get_or_append_left (map f rows) (f row ∷ []) [] a (omega arith))) (h a l)
      | inr from ↦
          let is : k ≡ a = omega arith in
          subst (IsRow g flags a) (sym (get_or_at (map f rows) (f row) [] [] a (long ∙ is))) (subst (λ b. IsRow g flags b (f row)) is r)
    ])
