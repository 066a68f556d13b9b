-- Laws of the order in which nodes come.
use Rattle.std.proofs.Common.{◌≡◌, ℕ, ◌<◌, List, [], ◌∷◌, ◌++◌, length, ◌⊎◌, inl, inr, refl, sym, ap, subst, ◌∙◌, arith, append_assoc}
use Rattle.ms_graph.specs.Graph.{Edges, HasEdge, LeadToNodes, Leads, edge, onward}
use Rattle.ms_postorder.specs.Postorder.{ComeAll, In, none, passed, comes}
use Rattle.ms_postorder.specs.Laws.{Differ, EachStandsOnce, HasNoCycle, OnePostorder, StandsBefore, TargetsFirst}
use Rattle.ms_postorder.proofs.SharedMembers.{differ_more, edge_in, in_edge, in_last, in_left, in_more, nodes_within, within_nodes}

-- ---- there is one

one_coming : {g : Edges} {w before nodes a b : List ℕ} → ComeAll g w before nodes a → ComeAll g w before nodes b → a ≡ b
one_coming none none = refl
one_coming (passed m r) (passed n s) = one_coming r s
one_coming (passed m r) (comes x y c s) = absurd (elim m [ inl i ↦ x i | inr i ↦ y i ])
one_coming (comes x y c s) (passed m r) = absurd (elim m [ inl i ↦ x i | inr i ↦ y i ])
one_coming {g = g} {w = w} {nodes = k ∷ ns} {a = a} (comes x y c s) (comes x' y' c' s') =
    one_coming (subst (λ t. ComeAll g w (t ++ k ∷ []) ns a) (one_coming c c') s) s'

pub one_order : OnePostorder
one_order g one other p q = one_coming p q

-- some come after others
pub come_both : {g : Edges} {w before xs ys mid after : List ℕ} → ComeAll g w before xs mid → ComeAll g w mid ys after → ComeAll g w before (xs ++ ys) after
come_both none h = h
come_both (passed m r) h = passed m (come_both r h)
come_both (comes x y c s) h = comes x y c (come_both s h)

-- ---- what stands in it

stays : {g : Edges} {w before nodes after : List ℕ} → ComeAll g w before nodes after → (a : ℕ) → In a before → In a after
stays none a m = m
stays (passed n r) a m = stays r a m
stays (comes {targets = ts} {a = k} x y c s) a m = stays s a (in_left ts (k ∷ []) a (stays c a m))

comes_or_waits : {g : Edges} {w before nodes after : List ℕ} → ComeAll g w before nodes after → (a : ℕ) → In a nodes → In a after ⊎ In a w
comes_or_waits none a m = absurd m
comes_or_waits {w = w} {before = before} {nodes = k ∷ ns} (passed n r) a (inl e) = elim (subst (λ b. In b before ⊎ In b w) (sym e) n) [
  | inl i ↦ inl (stays r a i)
  | inr i ↦ inr i
]
comes_or_waits (passed n r) a (inr m) = comes_or_waits r a m
comes_or_waits (comes {targets = ts} {a = k} x y c s) a (inl e) = inl (stays s a (subst (λ b. In a (ts ++ b ∷ [])) e (in_last ts a)))
comes_or_waits (comes x y c s) a (inr m) = comes_or_waits s a m

-- one that waits does not come
waits : {g : Edges} {w before nodes after : List ℕ} → ComeAll g w before nodes after → (a : ℕ) → In a w → (In a before → ⊥) → In a after → ⊥
waits none a i n m = n m
waits (passed p r) a i n m = waits r a i n m
waits {w = w} (comes {targets = ts} {a = k} x y c s) a i n m = waits s a i (λ j. elim (in_more ts k a j) [
  | inl t ↦ waits c a (inr i) n t
  | inr e ↦ y (subst (λ b. In b w) e i)
]) m

differ : {g : Edges} {w before nodes after : List ℕ} → ComeAll g w before nodes after → Differ before → Differ after
differ none d = d
differ (passed n r) d = differ r d
differ (comes {targets = ts} {a = k} x y c s) d = differ s (differ_more ts k (differ c d) (waits c k (inl refl) x))

within : {g : Edges} {w before nodes after : List ℕ} → LeadToNodes g → ComeAll g w before nodes after
    → ((a : ℕ) → In a nodes → a < length g) → ((a : ℕ) → In a before → a < length g) → (a : ℕ) → In a after → a < length g
within l none ns bs a m = bs a m
within l (passed n r) ns bs a m = within l r (λ b i. ns b (inr i)) bs a m
within {g = g} l (comes {targets = ts} {a = k} x y c s) ns bs a m =
    within l s (λ b i. ns b (inr i)) (λ b i. elim (in_more ts k b i) [
      | inl t ↦ within l c (λ d j. l k d (in_edge g k d j)) bs b t
      | inr e ↦ ns b (inl e)
    ]) a m

pub each_once : EachStandsOnce
each_once g order l p = record {
  all = λ a. (
    λ m. within l p (λ b i. let w = nodes_within 0 g b i in omega (arith, w.1)) (λ b i. absurd i) a m,
    λ less. elim (comes_or_waits p a (within_nodes 0 g a (omega arith) (omega arith))) [
      | inl i ↦ i
      | inr i ↦ absurd i
    ],
  );
  once = differ p _;
}

-- ---- those that edges lead to stand first

leads_edge : {g : Edges} {a b c : ℕ} → Leads g a b → HasEdge g b c → Leads g a c
leads_edge (edge e) h = onward e (edge h)
leads_edge (onward e r) h = onward e (leads_edge r h)

abbrev Sound : Edges → List ℕ → Type 0
Sound g order = (a b : ℕ) → In a order → HasEdge g a b → StandsBefore order b a

later : (xs : List ℕ) (y b a : ℕ) → StandsBefore xs b a → StandsBefore (xs ++ y ∷ []) b a
later xs y b a h = record {
  before = h.before;
  behind = h.behind ++ y ∷ [];
  parts = ap (λ zs. zs ++ y ∷ []) h.parts ∙ append_assoc h.before (a ∷ h.behind) (y ∷ []);
  stands = h.stands;
}

sound_more : (g : Edges) (ts : List ℕ) (k : ℕ) → Sound g ts → ((b : ℕ) → HasEdge g k b → In b ts) → Sound g (ts ++ k ∷ [])
sound_more g ts k h all a b m e = elim (in_more ts k a m) [
  | inl i ↦ later ts k b a (h a b i e)
  | inr same ↦ record {
    before = ts;
    behind = [];
    parts = ap (λ n. ts ++ n ∷ []) (sym same);
    stands = all b (subst (λ n. HasEdge g n b) same e);
  }
]

sound : {g : Edges} {w before nodes after : List ℕ} → HasNoCycle g → ComeAll g w before nodes after
    → ((p a : ℕ) → In p w → In a nodes → Leads g p a) → Sound g before → Sound g after
sound free none from h = h
sound free (passed n r) from h = sound free r (λ p a i m. from p a i (inr m)) h
sound {g = g} {w = w} free (comes {targets = ts} {a = k} x y c s) from h =
    let inner : Sound g ts = sound free c (λ p a i m. elim i [
      | inl e ↦ subst (λ n. Leads g n a) (sym e) (edge (in_edge g k a m))
      | inr j ↦ leads_edge (from p k j (inl refl)) (in_edge g k a m)
    ]) h in
    let all : (b : ℕ) → HasEdge g k b → In b ts = λ b e. elim (comes_or_waits c b (edge_in g k b e)) [
      | inl i ↦ i
      | inr i ↦ elim i [
        | inl same ↦ absurd (free k (edge (subst (λ n. HasEdge g k n) same e)))
        | inr j ↦ absurd (free b (leads_edge (from b k j (inl refl)) e))
      ]
    ] in
    sound free s (λ p a i m. from p a i (inr m)) (sound_more g ts k inner all)

pub targets_before : TargetsFirst
targets_before g order free p a b less e =
    sound free p (λ q c i m. absurd i) (λ c d i f. absurd i) a b
    (elim (comes_or_waits p a (within_nodes 0 g a (omega arith) (omega arith))) [
      | inl i ↦ i
      | inr i ↦ absurd i
    ]) e
