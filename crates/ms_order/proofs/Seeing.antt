-- A search sees one node more.
use Rattle.std.proofs.Common.{◌≡◌, ℕ, zero, suc, ◌+◌, ◌<◌, ◌≤◌, List, [], ◌∷◌, ◌++◌, length, get_or, set, Bool, true, false, ◌⊎◌, inl, inr, refl, sym, ap, subst, ◌∙◌, arith}
use Rattle.std.specs.Prelude.{eqb, if◌then◌else◌}
use Rattle.std.proofs.lemmas.Bool.{cases_eq, eq-eqb}
use Rattle.std.proofs.lemmas.Bool.Decides.{eqb_tells}
use Rattle.std.proofs.lemmas.List.{length-append, length-set, get_or-set_same, get_or-set_other, get_or_default}
use Rattle.ms_graph.specs.Graph.{Edges, HasEdge}
use Rattle.ms_postorder.specs.Postorder.{In}
use Rattle.ms_postorder.proofs.SharedMembers.{differ_more, in_last, in_left, in_more}
use Rattle.ms_order.specs.declared.finder.Finder.{Finder}
use Rattle.ms_order.specs.Finding.{FindsBut, FindsIn, IsFlag, IsInner, Meets, Seen, SeenIn, Visits, unseen}

pub read_is : {X : Type 0} (xs : List X) (i : ℕ) (x d : X) → i < length xs → x ≡ get_or xs i x → get_or xs i d ≡ x
read_is xs i x d i_in e = sym (e ∙ get_or_default xs i x d i_in)

pub not_flag : (flags : List Bool) (a : ℕ) → get_or flags a false ≡ false → IsFlag flags a → ⊥
not_flag flags a e f = let wrong : false ≡ true = sym e ∙ f in cc

-- ---- one mark more

seen_cases : (marks : List ℕ) (turn t a : ℕ) → SeenIn (set marks t turn) turn a → (a ≡ t) ⊎ SeenIn marks turn a
seen_cases marks turn t a s = elim (cases_eq a t) [
  | inl is ↦ inl is
  | inr apart ↦ inr (sym (get_or-set_other marks t a turn 0 apart) ∙ s)
]

seen_now : (marks : List ℕ) (turn t : ℕ) → t < length marks → SeenIn (set marks t turn) turn t
seen_now marks turn t t_in = get_or-set_same marks t turn 0 t_in

seen_kept : (marks : List ℕ) (turn t a : ℕ) → t < length marks → SeenIn marks turn a → SeenIn (set marks t turn) turn a
seen_kept marks turn t a t_in s = elim (cases_eq a t) [
  | inl is ↦ subst (λ b. SeenIn (set marks t turn) turn b) (sym is) (seen_now marks turn t t_in)
  | inr apart ↦ get_or-set_other marks t a turn 0 apart ∙ s
]

bound_kept : (marks : List ℕ) (turn t : ℕ) → t < length marks → ((a : ℕ) → get_or marks a 0 ≤ turn) → (a : ℕ) → get_or (set marks t turn) a 0 ≤ turn
bound_kept marks turn t t_in h a = elim (cases_eq a t) [
  | inl is ↦ (let e : get_or (set marks t turn) a 0 ≡ turn = subst (λ b. SeenIn (set marks t turn) turn b) (sym is) (seen_now marks turn t t_in) in omega arith)
  | inr apart ↦ (let e : get_or (set marks t turn) a 0 ≡ get_or marks a 0 = get_or-set_other marks t a turn 0 apart in let l : get_or marks a 0 ≤ turn = h a in omega arith)
]

inner_kept : (flags : List Bool) (start : ℕ) (marks : List ℕ) (turn t a : ℕ) → t < length marks → IsInner flags start marks turn a → IsInner flags start (set marks t turn) turn a
inner_kept flags start marks turn t a t_in i = elim i [
  | inl e ↦ inl e
  | inr s ↦ inr (seen_kept marks turn t a t_in s.0, s.1)
]

fewer : (turn : ℕ) (marks : List ℕ) (t : ℕ) → t < length marks → (SeenIn marks turn t → ⊥) → unseen turn (set marks t turn) + 1 ≡ unseen turn marks
fewer turn [] t t_in n = absurd (omega arith)
fewer turn (m ∷ ms) zero t_in n = elim (eqb_tells m turn) [
  | inl y ↦ absurd (n y.1)
  | inr o ↦ first (eqb turn turn) (eqb m turn) (eq-eqb turn turn refl) o.0
] where
  first : (a b : Bool) → a ≡ true → b ≡ false → (if a then 0 else 1) + unseen turn ms + 1 ≡ (if b then 0 else 1) + unseen turn ms
  first true false e f = omega arith
  first true true e f = absurd (let wrong : true ≡ false = f in cc)
  first false b e f = absurd (let wrong : false ≡ true = e in cc)
fewer turn (m ∷ ms) (suc t) t_in n =
    let rest : unseen turn (set ms t turn) + 1 ≡ unseen turn ms = fewer turn ms t (omega arith) n in
    omega arith

module _ (g : Edges) (flags : List Bool) (start node turn t : ℕ) (marks waiting found : List ℕ)
    (h : FindsIn g flags start marks turn waiting found (λ a. In a waiting ⊎ (a ≡ node))) (met : Meets g flags start t)
    (t_in : t < length marks) (new : SeenIn marks turn t → ⊥) where
  sound_kept : (a : ℕ) → SeenIn (set marks t turn) turn a → Meets g flags start a
  sound_kept a s = elim (seen_cases marks turn t a s) [
    | inl is ↦ subst (Meets g flags start) (sym is) met
    | inr old ↦ h.sound a old
  ]

  edges_kept : (a : ℕ) → ((b : ℕ) → HasEdge g a b → SeenIn marks turn b) → (b : ℕ) → HasEdge g a b → SeenIn (set marks t turn) turn b
  edges_kept a all b e = seen_kept marks turn t b t_in (all b e)

  pub flag_seen : IsFlag flags t → FindsIn g flags start (set marks t turn) turn waiting (found ++ t ∷ []) (λ a. In a waiting ⊎ (a ≡ node))
  flag_seen flag = record {
    leads = h.leads;
    size = length-set marks t turn ∙ h.size;
    bound = bound_kept marks turn t t_in h.bound;
    some = h.some;
    sound = sound_kept;
    tells = λ b. (
      λ m. elim (in_more found t b m) [
        | inl old ↦ (let o = (h.tells b).0 old in (seen_kept marks turn t b t_in o.0, o.1))
        | inr is ↦ (subst (SeenIn (set marks t turn) turn) (sym is) (seen_now marks turn t t_in), subst (IsFlag flags) (sym is) flag)
      ],
      λ s. elim (seen_cases marks turn t b s.0) [
        | inl is ↦ subst (λ c. In b (found ++ c ∷ [])) is (in_last found b)
        | inr old ↦ in_left found (t ∷ []) b ((h.tells b).1 (old, s.1))
      ],
    );
    differ = differ_more found t h.differ (λ m. new ((h.tells t).0 m).0);
    waits = λ a m. inner_kept flags start marks turn t a t_in (h.waits a m);
    closed = λ a i. elim (inner_before a i) [
      | inl j ↦ elim (h.closed a j) [
        | inl l ↦ inl l
        | inr all ↦ inr (edges_kept a all)
      ]
      | inr is ↦ absurd (is flag)
    ];
  } where
    inner_before : (a : ℕ) → IsInner flags start (set marks t turn) turn a → IsInner flags start marks turn a ⊎ (IsFlag flags t → ⊥)
    inner_before a i = elim i [
      | inl e ↦ inl (inl e)
      | inr s ↦ elim (seen_cases marks turn t a s.0) [
        | inl is ↦ inr (subst (λ b. IsFlag flags b → ⊥) is s.1)
        | inr old ↦ inl (inr (old, s.1))
      ]
    ]

  pub other_seen : (IsFlag flags t → ⊥) → FindsIn g flags start (set marks t turn) turn (waiting ++ t ∷ []) found (λ a. In a (waiting ++ t ∷ []) ⊎ (a ≡ node))
  other_seen other = record {
    leads = h.leads;
    size = length-set marks t turn ∙ h.size;
    bound = bound_kept marks turn t t_in h.bound;
    some = h.some;
    sound = sound_kept;
    tells = λ b. (
      λ m. let o = (h.tells b).0 m in (seen_kept marks turn t b t_in o.0, o.1),
      λ s. elim (seen_cases marks turn t b s.0) [
        | inl is ↦ absurd (other (subst (IsFlag flags) is s.1))
        | inr old ↦ (h.tells b).1 (old, s.1)
      ],
    );
    differ = h.differ;
    waits = λ a m. elim (in_more waiting t a m) [
      | inl old ↦ inner_kept flags start marks turn t a t_in (h.waits a old)
      | inr is ↦ inr (subst (SeenIn (set marks t turn) turn) (sym is) (seen_now marks turn t t_in), subst (λ b. IsFlag flags b → ⊥) (sym is) other)
    ];
    closed = λ a i. elim i [
      | inl e ↦ old_closed a (inl e)
      | inr s ↦ elim (seen_cases marks turn t a s.0) [
        | inl is ↦ inl (inl (subst (λ c. In a (waiting ++ c ∷ [])) is (in_last waiting a)))
        | inr old ↦ old_closed a (inr (old, s.1))
      ]
    ];
  } where
    old_closed : (a : ℕ) → IsInner flags start marks turn a → (In a (waiting ++ t ∷ []) ⊎ (a ≡ node)) ⊎ ((b : ℕ) → HasEdge g a b → SeenIn (set marks t turn) turn b)
    old_closed a i = elim (h.closed a i) [
      | inl l ↦ elim l [
        | inl w ↦ inl (inl (in_left waiting (t ∷ []) a w))
        | inr e ↦ inl (inr e)
      ]
      | inr all ↦ inr (edges_kept a all)
    ]

seen_moved : (old new : Finder) (t : ℕ) → new.marks.items ≡ set old.marks.items t old.turn → new.turn ≡ old.turn
    → (a : ℕ) → SeenIn (set old.marks.items t old.turn) old.turn a → Seen new a
seen_moved old new t marks_is turn_is a s =
    subst (λ ms. SeenIn ms new.turn a) (sym marks_is) (subst (λ k. SeenIn (set old.marks.items t old.turn) k a) (sym turn_is) s)

pub flag_visited : (g : Edges) (flags : List Bool) (start node : ℕ) (old new : Finder) (t : ℕ) → FindsBut g flags start node old → Meets g flags start t
    → t < length old.marks.items → (Seen old t → ⊥) → IsFlag flags t
    → new.marks.items ≡ set old.marks.items t old.turn → new.turn ≡ old.turn → new.waiting.items ≡ old.waiting.items → new.found.items ≡ old.found.items ++ t ∷ []
    → Visits g flags start node old new t
flag_visited g flags start node old new t h met t_in fresh flag marks_is turn_is waiting_is found_is =
    let f = flag_seen g flags start node old.turn t old.marks.items old.waiting.items old.found.items h met t_in fresh flag in
    let less = fewer old.turn old.marks.items t t_in fresh in
    record {
      finds = subst (λ ms. FindsIn g flags start ms new.turn new.waiting.items new.found.items (λ a. In a new.waiting.items ⊎ (a ≡ node))) (sym marks_is)
          (subst (λ k. FindsIn g flags start (set old.marks.items t old.turn) k new.waiting.items new.found.items (λ a. In a new.waiting.items ⊎ (a ≡ node))) (sym turn_is)
          (subst (λ ws. FindsIn g flags start (set old.marks.items t old.turn) old.turn ws new.found.items (λ a. In a ws ⊎ (a ≡ node))) (sym waiting_is)
          (subst (λ fs. FindsIn g flags start (set old.marks.items t old.turn) old.turn old.waiting.items fs (λ a. In a old.waiting.items ⊎ (a ≡ node))) (sym found_is) f)));
      seen = seen_moved old new t marks_is turn_is t (seen_now old.marks.items old.turn t t_in);
      stays = λ a s. seen_moved old new t marks_is turn_is a (seen_kept old.marks.items old.turn t a t_in s);
      turn = turn_is;
      falls =
          let e : unseen new.turn new.marks.items ≡ unseen old.turn (set old.marks.items t old.turn) = ap (λ k. unseen k new.marks.items) turn_is ∙ ap (unseen old.turn) marks_is in
          let w : length new.waiting.items ≡ length old.waiting.items = ap length waiting_is in
          omega arith;
    }

pub other_visited : (g : Edges) (flags : List Bool) (start node : ℕ) (old new : Finder) (t : ℕ) → FindsBut g flags start node old → Meets g flags start t
    → t < length old.marks.items → (Seen old t → ⊥) → (IsFlag flags t → ⊥)
    → new.marks.items ≡ set old.marks.items t old.turn → new.turn ≡ old.turn → new.waiting.items ≡ old.waiting.items ++ t ∷ [] → new.found.items ≡ old.found.items
    → Visits g flags start node old new t
other_visited g flags start node old new t h met t_in fresh other marks_is turn_is waiting_is found_is =
    let f = other_seen g flags start node old.turn t old.marks.items old.waiting.items old.found.items h met t_in fresh other in
    let less = fewer old.turn old.marks.items t t_in fresh in
    record {
      finds = subst (λ ms. FindsIn g flags start ms new.turn new.waiting.items new.found.items (λ a. In a new.waiting.items ⊎ (a ≡ node))) (sym marks_is)
          (subst (λ k. FindsIn g flags start (set old.marks.items t old.turn) k new.waiting.items new.found.items (λ a. In a new.waiting.items ⊎ (a ≡ node))) (sym turn_is)
          (subst (λ ws. FindsIn g flags start (set old.marks.items t old.turn) old.turn ws new.found.items (λ a. In a ws ⊎ (a ≡ node))) (sym waiting_is)
          (subst (λ fs. FindsIn g flags start (set old.marks.items t old.turn) old.turn (old.waiting.items ++ t ∷ []) fs (λ a. In a (old.waiting.items ++ t ∷ []) ⊎ (a ≡ node))) (sym found_is) f)));
      seen = seen_moved old new t marks_is turn_is t (seen_now old.marks.items old.turn t t_in);
      stays = λ a s. seen_moved old new t marks_is turn_is a (seen_kept old.marks.items old.turn t a t_in s);
      turn = turn_is;
      falls =
          let e : unseen new.turn new.marks.items ≡ unseen old.turn (set old.marks.items t old.turn) = ap (λ k. unseen k new.marks.items) turn_is ∙ ap (unseen old.turn) marks_is in
          let w : length new.waiting.items ≡ length old.waiting.items + 1 = ap length waiting_is ∙ length-append old.waiting.items (t ∷ []) in
          omega arith;
    }
