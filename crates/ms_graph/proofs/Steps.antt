-- What the search keeps, step by step.
use Rattle.std.proofs.Common.{◌≡◌, ℕ, ◌+◌, ◌-◌, ◌<◌, ◌≤◌, List, [], length, get_or, Bool, true, false, Some, ◌⊎◌, inl, inr, ◌↔◌, refl, sym, ap, subst, ◌∙◌, arith}
use Rattle.std.proofs.lemmas.Bool.{cases_eq, cases_lt}
use Rattle.std.proofs.lemmas.Option.{slice_get_within}
use Rattle.ms_graph.specs.declared.graph.Mark.{Mark}
use Rattle.ms_graph.specs.declared.graph.Mark.TheVariants.{New, Open, Done}
use Rattle.ms_graph.specs.Graph.{Edges, ending, HasEdge, Leads, IsOnCycle, edge, onward}
use Rattle.ms_graph.specs.Search.{Holds, IsNotBefore, Reaches, here, there, done, open_at}
use Rattle.ms_graph.proofs.Reach.{leads_leads, reaches_reaches, reaches_edge, edge_reaches, reaches_other, along}

-- marks are told apart

pub open_new : {i : ℕ} {m : Mark} → m ≡ Open i → m ≡ New → ⊥
open_new p q = let wrong : Open _ ≡ New = sym p ∙ q in cc

pub open_done : {i : ℕ} {m : Mark} → m ≡ Open i → m ≡ Done → ⊥
open_done p q = let wrong : Open _ ≡ Done = sym p ∙ q in cc

pub new_done : {m : Mark} → m ≡ New → m ≡ Done → ⊥
new_done p q = let wrong : New ≡ Done = sym p ∙ q in cc

pub same_open : {i j : ℕ} {m : Mark} → m ≡ Open i → m ≡ Open j → i ≡ j
same_open p q = let both : Open _ ≡ Open _ = sym p ∙ q in cc

pub data Cases : Mark → Type 0 where
  new_mark : {m : Mark} → m ≡ New → Cases m
  open_mark : {m : Mark} (i : ℕ) → m ≡ Open i → Cases m
  done_mark : {m : Mark} → m ≡ Done → Cases m

pub cases : (m : Mark) → Cases m
cases New = new_mark refl
cases (Open i) = open_mark i refl
cases Done = done_mark refl

module _ (g : Edges) (mark : ℕ → Mark) (followed : ℕ → ℕ) (size : ℕ) (at : ℕ → ℕ) (Start Walked : ℕ → Type 0) (cyclic : ℕ → Bool) (h : Holds g mark followed size at Start Walked cyclic) where
  -- places of one node are one
  pub one_place : (i j : ℕ) → i < size → j < size → at i ≡ at j → i ≡ j
  one_place i j i_in j_in e = same_open (ap mark (sym e) ∙ h.standing i i_in) (h.standing j j_in)

  -- each node of the path reaches one of the last group
  pub all_reach : (t : ℕ) → t < size → ((s : ℕ) → Start s → s ≤ t) → (i : ℕ) → i < size → Reaches g (at i) (at t)
  all_reach t t_in last i i_in =
      elim (cases_lt t i) [
        | inl behind ↦ h.back t i (omega arith) i_in (λ s m. inl (last s m))
        | inr before ↦ h.onward i t before t_in
      ]

  -- one more edge of a node is followed
  pub advanced : (followed' : ℕ → ℕ) (t u : ℕ) → t < size → at t ≡ u
      → followed' u ≡ followed u + 1 → ((a : ℕ) → (a ≡ u → ⊥) → followed' a ≡ followed a)
      → ((b : ℕ) → ending g u (followed u) ≡ Some b → IsNotBefore mark size at Start t b)
      → Holds g mark followed' size at Start Walked cyclic
  advanced followed' t u t_in is_u more others next = record {
    standing = h.standing;
    opened = h.opened;
    closed = h.closed;
    told = h.told;
    onward = h.onward;
    back = h.back;
    within = λ i k b i_in k_in e. elim (cases_eq (at i) u) [
      | inl same ↦
          let i_t : i ≡ t = one_place i t i_in t_in (same ∙ sym is_u) in
          let k_in' : k < followed u + 1 = subst (λ n. k < n) (ap followed' same ∙ more) k_in in
          let e' : ending g u k ≡ Some b = subst (λ a. ending g a k ≡ Some b) same e in
          elim (cases_lt k (followed u)) [
            | inl early ↦ h.within i k b i_in (subst (λ a. k < followed a) (sym same) early) e
            | inr late ↦
                let k_is : k ≡ followed u = omega arith in
                subst (λ j. IsNotBefore mark size at Start j b) (sym i_t) (next b (subst (λ j. ending g u j ≡ Some b) k_is e'))
          ]
      | inr other ↦ h.within i k b i_in (subst (λ n. k < n) (others (at i) other) k_in) e
    ];
    finished = λ i i_in. elim (h.finished i i_in) [
      | inl w ↦ inl w
      | inr all ↦ elim (cases_eq (at i) u) [
        | inl same ↦ inr (subst (λ a. length (get_or g a []) ≤ followed' a) (sym same)
            (let all' : length (get_or g u []) ≤ followed u = subst (λ a. length (get_or g a []) ≤ followed a) same all in omega arith))
        | inr other ↦ inr (subst (λ n. length (get_or g (at i) []) ≤ n) (sym (others (at i) other)) all)
      ]
    ];
    fresh = λ a new. others a (λ same. open_new (ap mark (same ∙ sym is_u) ∙ h.standing t t_in) new) ∙ h.fresh a new;
    starts = h.starts;
    places = h.places;
    begun = h.begun;
  }

  -- a new node is put on the path, as a group of its own
  pub opened_one : (mark' : ℕ → Mark) (at' : ℕ → ℕ) (Start' Walked' : ℕ → Type 0) (v : ℕ)
      → mark v ≡ New → mark' v ≡ Open size → ((a : ℕ) → (a ≡ v → ⊥) → mark' a ≡ mark a)
      → at' size ≡ v → ((i : ℕ) → i < size → at' i ≡ at i)
      → ((s : ℕ) → Start s → Start' s) → Start' size → ((s : ℕ) → Start' s → Start s ⊎ (s ≡ size))
      → ((s : ℕ) → Walked s → Walked' s) → Walked' size → ((s : ℕ) → Walked' s → Walked s ⊎ (s ≡ size))
      → ((i : ℕ) → i < size → Reaches g (at i) v)
      → Holds g mark' followed (size + 1) at' Start' Walked' cyclic
  opened_one mark' at' Start' Walked' v new now others top below start_old start_new start_one walk_old walk_new walk_one reach =
      let apart : (a : ℕ) → (mark a ≡ New → ⊥) → mark' a ≡ mark a = λ a n. others a (λ same. n (ap mark same ∙ new)) in
      let ends : (i : ℕ) → i < size + 1 → (i < size) ⊎ (i ≡ size) = λ i i_in. elim (cases_lt i size) [ inl l ↦ inl l | inr g ↦ inr (omega arith) ] in
      record {
        standing = λ i i_in. elim (ends i i_in) [
          | inl l ↦ rw (below i l) (apart (at i) (open_new (h.standing i l)) ∙ h.standing i l)
          | inr e ↦ subst (λ j. mark' (at' j) ≡ Open j) (sym e) (ap mark' top ∙ now)
        ];
        opened = λ a i m. elim (cases_eq a v) [
          | inl same ↦ let i_is : size ≡ i = same_open now (ap mark' (sym same) ∙ m) in
              (omega arith, subst (λ j. at' j ≡ a) i_is (top ∙ sym same))
          | inr other ↦ let old : (i < size) × (at i ≡ a) = h.opened a i (sym (others a other) ∙ m) in
              (omega (arith, old.0), below i old.0 ∙ old.1)
        ];
        closed = λ a b m e.
            let not_v : a ≡ v → ⊥ = λ same. open_done now (ap mark' (sym same) ∙ m) in
            let b_done : mark b ≡ Done = h.closed a b (sym (others a not_v) ∙ m) e in
            apart b (λ n. new_done n b_done) ∙ b_done;
        told = λ a m.
            let not_v : a ≡ v → ⊥ = λ same. open_done now (ap mark' (sym same) ∙ m) in
            h.told a (sym (others a not_v) ∙ m);
        onward = λ i j le j_in. elim (ends j j_in) [
          | inl l ↦ rw (below i (omega arith), below j l) (h.onward i j le l)
          | inr e ↦ elim (cases_lt i size) [
            | inl i_in ↦ subst (λ k. Reaches g (at' i) (at' k)) (sym e) (rw (below i i_in, top) (reach i i_in))
            | inr i_out ↦ let same : i ≡ j = omega arith in subst (λ k. Reaches g (at' i) (at' k)) same here
          ]
        ];
        back = λ i j le j_in one. elim (ends j j_in) [
          | inl l ↦ rw (below i (omega arith), below j l) (h.back i j le l (λ s m. one s (start_old s m)))
          | inr e ↦ elim (cases_lt i size) [
            | inl i_in ↦ absurd (elim (one size start_new) [ inl a ↦ omega arith | inr b ↦ omega arith ])
            | inr i_out ↦ let same : i ≡ j = omega arith in subst (λ k. Reaches g (at' k) (at' i)) same here
          ]
        ];
        within = λ i k b i_in k_in e. elim (ends i i_in) [
          | inl l ↦ elim (h.within i k b l (subst (λ a. k < followed a) (below i l) k_in) (subst (λ a. ending g a k ≡ Some b) (below i l) e)) [
            | done d ↦ done (apart b (λ n. new_done n d) ∙ d)
            | open_at j j_in is_b no_before ↦ open_at j (omega arith) (below j j_in ∙ is_b)
                (λ s m s_le. elim (start_one s m) [ inl old ↦ no_before s old s_le | inr s_is ↦ absurd (omega arith) ])
          ]
          | inr s ↦ let none : followed (at' i) ≡ 0 = ap followed (ap at' s ∙ top) ∙ h.fresh v new in absurd (omega arith)
        ];
        finished = λ i i_in. elim (ends i i_in) [
          | inl l ↦ elim (h.finished i l) [ inl w ↦ inl (walk_old i w) | inr all ↦ inr (rw (below i l) all) ]
          | inr s ↦ inl (subst Walked' (sym s) walk_new)
        ];
        fresh = λ a m. h.fresh a (sym (others a (λ same. open_new now (ap mark' (sym same) ∙ m))) ∙ m);
        starts = λ s m. elim (start_one s m) [ inl old ↦ walk_old s (h.starts s old) | inr e ↦ subst Walked' (sym e) walk_new ];
        places = λ s m. elim (walk_one s m) [ inl old ↦ (let l : s < size = h.places s old in omega arith) | inr e ↦ omega arith ];
        begun = λ some. elim (cases_lt 0 size) [ inl l ↦ start_old 0 (h.begun l) | inr none ↦ (let e : size ≡ 0 = omega arith in subst Start' e start_new) ];
      }

  -- an edge leads back to an open node: from its group on, all is one group
  pub joined : (Start' : ℕ → Type 0) (t p : ℕ) → t < size → p < size → ((s : ℕ) → Start s → s ≤ t)
      → HasEdge g (at t) (at p)
      → ((s : ℕ) → Start' s → Start s) → ((s : ℕ) → Start' s → s ≤ p) → ((s : ℕ) → Start s → s ≤ p → Start' s)
      → Holds g mark followed size at Start' Walked cyclic
  joined Start' t p t_in p_in last e fewer up_to kept = record {
    standing = h.standing;
    opened = h.opened;
    closed = h.closed;
    told = h.told;
    onward = h.onward;
    back = λ i j le j_in one.
        let round : Leads g (at j) (at p) = reaches_edge (all_reach t t_in last j j_in) e in
        elim (cases_lt p j) [
          | inr j_le ↦ h.back i j le j_in (λ s m. elim (cases_lt p s) [ inl l ↦ inr (omega arith) | inr s_le ↦ one s (kept s m s_le) ])
          | inl p_lt ↦ elim (cases_lt p i) [
            | inl before ↦ reaches_reaches (there round) (h.onward p i (omega arith) (omega arith))
            | inr i_le ↦ reaches_reaches (there round) (h.back i p i_le p_in
                (λ s m. elim (cases_lt p s) [ inl l ↦ inr l | inr s_le ↦ elim (one s (kept s m s_le)) [ inl a ↦ inl a | inr b ↦ absurd (omega arith) ] ]))
          ]
        ];
    within = λ i k b i_in k_in f. elim (h.within i k b i_in k_in f) [
      | done d ↦ done d
      | open_at j j_in is_b no_before ↦ open_at j j_in is_b (λ s m. no_before s (fewer s m))
    ];
    finished = h.finished;
    fresh = h.fresh;
    starts = λ s m. h.starts s (fewer s m);
    places = h.places;
    begun = λ some. kept 0 (h.begun some) (omega arith);
  }

  -- the walk leaves a node whose edges are all followed, and with which no group begins
  pub left_one : (Walked' : ℕ → Type 0) (t : ℕ) → length (get_or g (at t) []) ≤ followed (at t) → (Start t → ⊥)
      → ((s : ℕ) → Walked' s → Walked s) → ((s : ℕ) → Walked s → Walked' s ⊎ (s ≡ t))
      → Holds g mark followed size at Start Walked' cyclic
  left_one Walked' t all no_start fewer one = record {
    standing = h.standing;
    opened = h.opened;
    closed = h.closed;
    told = h.told;
    onward = h.onward;
    back = h.back;
    within = h.within;
    finished = λ i i_in. elim (h.finished i i_in) [
      | inl w ↦ elim (one i w) [ inl still ↦ inl still | inr e ↦ inr (subst (λ j. length (get_or g (at j) []) ≤ followed (at j)) (sym e) all) ]
      | inr f ↦ inr f
    ];
    fresh = h.fresh;
    starts = λ s m. elim (one s (h.starts s m)) [ inl still ↦ still | inr e ↦ absurd (no_start (subst Start e m)) ];
    places = λ s m. h.places s (fewer s m);
    begun = h.begun;
  }

  -- in the last group each node reaches each
  pub in_group : (t : ℕ) → ((s : ℕ) → Start s → s ≤ t) → (i j : ℕ) → t ≤ i → t ≤ j → i < size → j < size → Reaches g (at i) (at j)
  in_group t last i j i_from j_from i_in j_in =
      elim (cases_lt j i) [
        | inl behind ↦ h.back j i (omega arith) i_in (λ s m. inl (let l : s ≤ t = last s m in omega arith))
        | inr before ↦ h.onward i j before j_in
      ]

  pub two_in_group : (t : ℕ) → ((s : ℕ) → Start s → s ≤ t) → (i j : ℕ) → t ≤ i → t ≤ j → i < size → j < size → (i ≡ j → ⊥) → Leads g (at i) (at i)
  two_in_group t last i j i_from j_from i_in j_in apart =
      leads_leads
      (reaches_other (in_group t last i j i_from j_from i_in j_in) (λ e. apart (one_place i j i_in j_in e)))
      (reaches_other (in_group t last j i j_from i_from j_in i_in) (λ e. apart (one_place i j i_in j_in (sym e))))

  -- all edges of the last group are followed, where those of its first node are, and the walk stands on no other
  pub group_followed : (t : ℕ) → length (get_or g (at t) []) ≤ followed (at t) → ((s : ℕ) → Walked s → s ≤ t) → (i : ℕ) → t ≤ i → i < size
      → length (get_or g (at i) []) ≤ followed (at i)
  group_followed t all walk i i_from i_in = elim (h.finished i i_in) [
    | inl w ↦ (let l : i ≤ t = walk i w in let e : t ≡ i = omega arith in subst (λ j. length (get_or g (at j) []) ≤ followed (at j)) e all)
    | inr f ↦ f
  ]

  -- an edge of the last group leads to a node that is done, or into the group
  pub group_edge : (t : ℕ) → length (get_or g (at t) []) ≤ followed (at t) → ((s : ℕ) → Walked s → s ≤ t) → Start t
      → (i b : ℕ) → t ≤ i → i < size → HasEdge g (at i) b
      → (mark b ≡ Done) ⊎ ((j : ℕ) × (t ≤ j) × (j < size) × (at j ≡ b))
  group_edge t all walk start i b i_from i_in (k, e) =
      let few : length (get_or g (at i) []) ≤ followed (at i) = group_followed t all walk i i_from i_in in
      let k_in : k < length (get_or g (at i) []) = slice_get_within (get_or g (at i) []) k b e in
      elim (h.within i k b i_in (omega arith) e) [
        | done d ↦ inl d
        | open_at j j_in is_b no_before ↦ inr (j, no_before t start i_from, j_in, is_b)
      ]

  -- where the last group is one node, an edge from it to itself is all that makes a cycle
  pub lone : (t : ℕ) → size ≡ t + 1 → length (get_or g (at t) []) ≤ followed (at t) → ((s : ℕ) → Walked s → s ≤ t) → Start t
      → (a : ℕ) → at t ≡ a → Leads g a a → HasEdge g a a
  lone t is_last all walk start a is_a (edge e) = e
  lone t is_last all walk start a is_a (onward {b = c} e r) =
      elim (group_edge t all walk start t c (omega arith) (omega arith) (subst (λ b. HasEdge g b c) (sym is_a) e)) [
        | inl d ↦ absurd (open_done (ap mark (sym is_a) ∙ h.standing t (omega arith)) (along (λ b. mark b ≡ Done) h.closed r d))
        | inr m ↦ (let same : t ≡ m.0 = omega (arith, m.1, m.2) in
            let c_is : c ≡ a = sym m.3 ∙ (ap at (sym same) ∙ is_a) in subst (λ b. HasEdge g a b) c_is e)
      ]

  module _ (mark' : ℕ → Mark) (at' : ℕ → ℕ) (Start' Walked' : ℕ → Type 0) (cyclic' : ℕ → Bool) (t : ℕ) (flag : Bool)
      (t_in : t < size) (start : Start t) (all : length (get_or g (at t) []) ≤ followed (at t))
      (last : (s : ℕ) → Start s → s ≤ t) (walk : (s : ℕ) → Walked s → s ≤ t)
      (many : t + 1 < size → flag ≡ true) (one : size ≡ t + 1 → (flag ≡ true) ↔ HasEdge g (at t) (at t))
      (below : (i : ℕ) → i < t → at' i ≡ at i)
      (start_old : (s : ℕ) → Start' s → (s < t) × Start s) (start_new : (s : ℕ) → Start s → s < t → Start' s)
      (walk_old : (s : ℕ) → Walked' s → (s < t) × Walked s) (walk_new : (s : ℕ) → Walked s → s < t → Walked' s)
      (gone : (i : ℕ) → t ≤ i → i < size → (mark' (at i) ≡ Done) × (cyclic' (at i) ≡ flag))
      (stay : (a : ℕ) → ((i : ℕ) → t ≤ i → i < size → at i ≡ a → ⊥) → (mark' a ≡ mark a) × (cyclic' a ≡ cyclic a)) where
    pub fate : (a : ℕ) → ((i : ℕ) × (t ≤ i) × (i < size) × (at i ≡ a)) ⊎ ((mark' a ≡ mark a) × (cyclic' a ≡ cyclic a))
    fate a = elim (cases (mark a)) [
      | new_mark n ↦ inr (stay a (λ i i_from i_in e. open_new (ap mark (sym e) ∙ h.standing i i_in) n))
      | done_mark d ↦ inr (stay a (λ i i_from i_in e. open_done (ap mark (sym e) ∙ h.standing i i_in) d))
      | open_mark i m ↦
          let o : (i < size) × (at i ≡ a) = h.opened a i m in
          elim (cases_lt i t) [
            | inr from ↦ inl (i, from, o.0, o.1)
            | inl less ↦ inr (stay a (λ j j_from j_in e. let same : i ≡ j = one_place i j o.0 j_in (o.1 ∙ sym e) in omega arith))
          ]
    ]

    -- a node before the group stays as it was
    kept : (i : ℕ) → i < t → (mark' (at i) ≡ mark (at i)) × (cyclic' (at i) ≡ cyclic (at i))
    kept i less = stay (at i) (λ j j_from j_in e. let same : i ≡ j = one_place i j (omega arith) j_in (sym e) in omega arith)

    done_stays : (a : ℕ) → mark a ≡ Done → mark' a ≡ Done
    done_stays a d = (stay a (λ i i_from i_in e. open_done (ap mark (sym e) ∙ h.standing i i_in) d)).0 ∙ d

    tells : (i : ℕ) → t ≤ i → i < size → (flag ≡ true) ↔ IsOnCycle g (at i)
    tells i from i_in = elim (cases_lt (t + 1) size) [
      | inl more ↦ (
        λ _. elim (cases_eq i t) [
          | inl first ↦ two_in_group t last i (t + 1) from (omega arith) i_in more (λ e. omega arith)
          | inr later ↦ two_in_group t last i t from (omega arith) i_in t_in later
        ],
        λ _. many more,
      )
      | inr no_more ↦
          let is_last : size ≡ t + 1 = omega arith in
          let is_t : t ≡ i = omega arith in
          subst (λ j. (flag ≡ true) ↔ IsOnCycle g (at j)) is_t
          (λ f. edge ((one is_last).0 f), λ r. (one is_last).1 (lone t is_last all walk start (at t) refl r))
    ]

    -- the last group is done
    pub closed_group : Holds g mark' followed t at' Start' Walked' cyclic'
    closed_group = record {
      standing = λ i less. rw (below i less) ((kept i less).0 ∙ h.standing i (omega arith));
      opened = λ a i m. elim (fate a) [
        | inl f ↦ absurd (open_done m (ap mark' (sym f.3) ∙ (gone f.0 f.1 f.2).0))
        | inr f ↦
            let o : (i < size) × (at i ≡ a) = h.opened a i (sym f.0 ∙ m) in
            elim (cases_lt i t) [
              | inl less ↦ (less, below i less ∙ o.1)
              | inr from ↦ absurd (open_done m (ap mark' (sym o.1) ∙ (gone i from o.0).0))
            ]
      ];
      closed = λ a b m e. elim (fate a) [
        | inr f ↦ done_stays b (h.closed a b (sym f.0 ∙ m) e)
        | inl f ↦ elim (group_edge t all walk start f.0 b f.1 f.2 (subst (λ c. HasEdge g c b) (sym f.3) e)) [
          | inl d ↦ done_stays b d
          | inr j ↦ ap mark' (sym j.3) ∙ (gone j.0 j.1 j.2).0
        ]
      ];
      told = λ a m. elim (fate a) [
        | inr f ↦ (let old : (cyclic a ≡ true) ↔ IsOnCycle g a = h.told a (sym f.0 ∙ m) in
            subst (λ b. (b ≡ true) ↔ IsOnCycle g a) (sym f.1) old)
        | inl f ↦ subst (λ c. (cyclic' c ≡ true) ↔ IsOnCycle g c) f.3
            (subst (λ b. (b ≡ true) ↔ IsOnCycle g (at f.0)) (sym (gone f.0 f.1 f.2).1) (tells f.0 f.1 f.2))
      ];
      onward = λ i j le less. rw (below i (omega arith), below j less) (h.onward i j le (omega arith));
      back = λ i j le less one_group. rw (below i (omega arith), below j less) (h.back i j le (omega arith)
          (λ s m. elim (cases_lt s t) [ inl l ↦ one_group s (start_new s m l) | inr from ↦ inr (omega arith) ]));
      within = λ i k b less k_in e.
          elim (h.within i k b (omega arith) (subst (λ a. k < followed a) (below i less) k_in) (subst (λ a. ending g a k ≡ Some b) (below i less) e)) [
            | done d ↦ done (done_stays b d)
            | open_at j j_in is_b no_before ↦ elim (cases_lt j t) [
              | inl l ↦ open_at j l (below j l ∙ is_b) (λ s m s_le. no_before s (start_old s m).1 s_le)
              | inr from ↦ done (ap mark' (sym is_b) ∙ (gone j from j_in).0)
            ]
          ];
      finished = λ i less. elim (h.finished i (omega arith)) [
        | inl w ↦ inl (walk_new i w less)
        | inr f ↦ inr (rw (below i less) f)
      ];
      fresh = λ a m. elim (fate a) [
        | inl f ↦ absurd (new_done m (ap mark' (sym f.3) ∙ (gone f.0 f.1 f.2).0))
        | inr f ↦ h.fresh a (sym f.0 ∙ m)
      ];
      starts = λ s m. walk_new s (h.starts s (start_old s m).1) (start_old s m).0;
      places = λ s m. (walk_old s m).0;
      begun = λ some. start_new 0 (h.begun (omega arith)) some;
    }
