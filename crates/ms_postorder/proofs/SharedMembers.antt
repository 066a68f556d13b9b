-- What stands in a list.
use Rattle.std.proofs.Common.{◌≡◌, ℕ, zero, suc, Some, None, ◌+◌, ◌<◌, ◌≤◌, List, [], ◌∷◌, ◌++◌, length, get_or, ◌⊎◌, inl, inr, refl, sym, ap, arith}
use Rattle.std.proofs.lemmas.Bool.{cases_eq}
use Rattle.std.specs.Prelude.{slice_get}
use Rattle.ms_graph.specs.Graph.{Edges, HasEdge}
use Rattle.ms_postorder.specs.Postorder.{In, nodes_from}
use Rattle.ms_postorder.specs.Laws.{Differ}

pub in_left : (xs ys : List ℕ) (a : ℕ) → In a xs → In a (xs ++ ys)
in_left [] ys a m = absurd m
in_left (x ∷ xs) ys a (inl e) = inl e
in_left (x ∷ xs) ys a (inr m) = inr (in_left xs ys a m)

pub in_right : (xs ys : List ℕ) (a : ℕ) → In a ys → In a (xs ++ ys)
in_right [] ys a m = m
in_right (x ∷ xs) ys a m = inr (in_right xs ys a m)

pub in_cases : (xs ys : List ℕ) (a : ℕ) → In a (xs ++ ys) → In a xs ⊎ In a ys
in_cases [] ys a m = inr m
in_cases (x ∷ xs) ys a (inl e) = inl (inl e)
in_cases (x ∷ xs) ys a (inr m) = elim (in_cases xs ys a m) [
  | inl i ↦ inl (inr i)
  | inr i ↦ inr i
]

pub in_last : (xs : List ℕ) (a : ℕ) → In a (xs ++ a ∷ [])
in_last xs a = in_right xs (a ∷ []) a (inl refl)

-- one of some, or the one behind them
pub in_more : (xs : List ℕ) (b a : ℕ) → In a (xs ++ b ∷ []) → In a xs ⊎ (a ≡ b)
in_more xs b a m = elim (in_cases xs (b ∷ []) a m) [
  | inl i ↦ inl i
  | inr i ↦ elim i [
    | inl e ↦ inr e
    | inr n ↦ absurd n
  ]
]

pub slice_in : (xs : List ℕ) (k b : ℕ) → slice_get xs k ≡ Some b → In b xs
slice_in [] k b e = absurd (let wrong : None ≡ Some b = e in cc)
slice_in (x ∷ xs) zero b e = inl (let same : Some x ≡ Some b = e in cc)
slice_in (x ∷ xs) (suc k) b e = inr (slice_in xs k b e)

pub in_slice : (xs : List ℕ) (b : ℕ) → In b xs → (k : ℕ) × (slice_get xs k ≡ Some b)
in_slice [] b m = absurd m
in_slice (x ∷ xs) b (inl e) = (0, ap Some (sym e))
in_slice (x ∷ xs) b (inr m) = let rest = in_slice xs b m in (suc rest.0, rest.1)

pub edge_in : (g : Edges) (a b : ℕ) → HasEdge g a b → In b (get_or g a [])
edge_in g a b e = slice_in (get_or g a []) e.0 b e.1

pub in_edge : (g : Edges) (a b : ℕ) → In b (get_or g a []) → HasEdge g a b
in_edge g a b m = in_slice (get_or g a []) b m

pub differ_more : (xs : List ℕ) (b : ℕ) → Differ xs → (In b xs → ⊥) → Differ (xs ++ b ∷ [])
differ_more [] b d n = (λ m. m, d)
differ_more (x ∷ xs) b d n = (
  λ m. elim (in_more xs b x m) [
    | inl i ↦ d.0 i
    | inr e ↦ n (inl (sym e))
  ],
  differ_more xs b d.1 (λ m. n (inr m)),
)

-- numbers of nodes
pub nodes_within : (k : ℕ) (g : Edges) (a : ℕ) → In a (nodes_from k g) → (k ≤ a) × (a < k + length g)
nodes_within k [] a m = absurd m
nodes_within k (es ∷ g) a (inl e) = (omega arith, omega arith)
nodes_within k (es ∷ g) a (inr m) = let rest = nodes_within (suc k) g a m in (omega (arith, rest.0), omega (arith, rest.1))

pub within_nodes : (k : ℕ) (g : Edges) (a : ℕ) → k ≤ a → a < k + length g → In a (nodes_from k g)
within_nodes k [] a from less = absurd (omega arith)
within_nodes k (es ∷ g) a from less = elim (cases_eq a k) [
  | inl e ↦ inl e
  | inr n ↦ inr (within_nodes (suc k) g a (omega arith) (omega arith))
]
