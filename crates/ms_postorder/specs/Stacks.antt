-- What a depth-first search keeps.
use Rattle.std.specs.Prelude.{◌≡◌, ℕ, suc, ◌+◌, ◌-◌, ◌<◌, List, [], ◌∷◌, ◌++◌, ◌⊎◌, Bool, true, false, length, get_or, map, drop, reverse, set, if◌then◌else◌}
use Rattle.ms_graph.specs.Graph.{Edges, LeadToNodes}
use Rattle.ms_postorder.specs.declared.search.Frame.{Frame}
use Rattle.ms_postorder.specs.declared.search.Search.{Search}
use Rattle.ms_postorder.specs.Postorder.{ComeAll, In}

-- the nodes that wait, the innermost first
abbrev pub nodes : List Frame → List ℕ
nodes fs = map (λ f. f.node) fs

-- what comes of a stack of nodes that wait, the innermost first, with how many edges of each are followed
pub data Finish (g : Edges) : List Frame → List ℕ → List ℕ → Type 0 where
  empty : {before : List ℕ} → Finish g [] before before
  finish : {f : Frame} {fs : List Frame} {before targets after : List ℕ}
      → ComeAll g (f.node ∷ nodes fs) before (drop f.followed (get_or g f.node [])) targets
      → Finish g fs (targets ++ f.node ∷ []) after
      → Finish g (f ∷ fs) before after

-- the marks of the nodes that have come or wait, those that wait, and those that have come
pub record Holds (g : Edges) (seen : List Bool) (fs : List Frame) (order : List ℕ) : Type 0 where
  pub leads : LeadToNodes g
  pub size : length seen ≡ length g
  pub come : (a : ℕ) → get_or seen a false ≡ true → In a order ⊎ In a (nodes fs)
  pub known : (a : ℕ) → In a order ⊎ In a (nodes fs) → get_or seen a false ≡ true

abbrev pub stack : Search → List Frame
stack s = reverse s.waiting.items

abbrev pub IsSearch : Edges → Search → Type 0
IsSearch g s = Holds g s.seen.items (stack s) s.order.items

-- ---- what is left to do falls with each step

abbrev pub unseen : Edges → List Bool → ℕ
unseen [] seen = 0
unseen (es ∷ g) [] = 0
unseen (es ∷ g) (b ∷ seen) = (if b then 0 else suc (suc (length es))) + unseen g seen

abbrev pub unfollowed : Edges → List Frame → ℕ
unfollowed g [] = 0
unfollowed g (f ∷ fs) = suc (length (get_or g f.node []) - f.followed) + unfollowed g fs

abbrev pub left : Edges → List Bool → List Frame → ℕ
left g seen fs = unseen g seen + unfollowed g fs

-- ---- steps

pub record Enters (old new : Search) (node : ℕ) : Type 0 where
  pub seen : new.seen.items ≡ set old.seen.items node true
  pub waiting : new.waiting.items ≡ old.waiting.items ++ (record { node = node; followed = 0 }) ∷ []
  pub order : new.order.items ≡ old.order.items

-- one edge more of the innermost node, which is no more on the stack, or it comes
pub record Steps (g : Edges) (f : Frame) (old new : Search) : Type 0 where
  pub search : IsSearch g new
  pub falls : left g new.seen.items (stack new) < left g old.seen.items (f ∷ stack old)
  pub finishes : (after : List ℕ) → Finish g (stack new) new.order.items after → Finish g (f ∷ stack old) old.order.items after

pub record Walks (g : Edges) (old new : Search) : Type 0 where
  pub search : IsSearch g new
  pub idle : new.waiting.items ≡ []
  pub finishes : Finish g (stack old) old.order.items new.order.items

pub record Searched (g : Edges) (old new : Search) (node : ℕ) : Type 0 where
  pub search : IsSearch g new
  pub idle : new.waiting.items ≡ []
  pub come : ComeAll g [] old.order.items (node ∷ []) new.order.items
