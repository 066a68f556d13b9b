-- What a depth-first search for cycles keeps.
use Rattle.std.specs.Prelude.{◌≡◌, ℕ, ◌+◌, ◌-◌, ◌*◌, ◌<◌, ◌≤◌, List, [], ◌∷◌, ◌++◌, set, take, Bool, true, false, Some, ◌⊎◌, ◌↔◌, length, get_or}
use Rattle.ms_graph.specs.declared.graph.Mark.{Mark}
use Rattle.ms_graph.specs.declared.graph.Mark.TheVariants.{New, Open, Done}
use Rattle.ms_graph.specs.declared.graph.Search.{Search}
use Rattle.ms_graph.specs.Graph.{Edges, ending, HasEdge, LeadToNodes, Leads, IsOnCycle}

-- a leads to b, or is b
pub data Reaches (g : Edges) : ℕ → ℕ → Type 0 where
  here : {a : ℕ} → Reaches g a a
  there : {a b : ℕ} → Leads g a b → Reaches g a b

abbrev pub Among : List ℕ → ℕ → Type 0
Among xs n = (k : ℕ) × (k < length xs) × (get_or xs k 0 ≡ n)

abbrev pub Rises : List ℕ → Type 0
Rises xs = (i j : ℕ) → i < j → j < length xs → get_or xs i 0 < get_or xs j 0

-- a node is done, or stands on the path in no earlier group than the place i
pub data IsNotBefore (mark : ℕ → Mark) (size : ℕ) (at : ℕ → ℕ) (Start : ℕ → Type 0) (i b : ℕ) : Type 0 where
  done : mark b ≡ Done → IsNotBefore mark size at Start i b
  open_at : (j : ℕ) → j < size → at j ≡ b → ((s : ℕ) → Start s → s ≤ i → s ≤ j) → IsNotBefore mark size at Start i b

-- of the marks of the nodes, how many edges of each are followed, the path with its nodes, the places where its
-- groups begin and those where the walk stands, and which nodes were found on a cycle
pub record Holds (g : Edges) (mark : ℕ → Mark) (followed : ℕ → ℕ) (size : ℕ) (at : ℕ → ℕ) (Start Walked : ℕ → Type 0) (cyclic : ℕ → Bool) : Type 0 where
  pub standing : (i : ℕ) → i < size → mark (at i) ≡ Open i
  pub opened : (a i : ℕ) → mark a ≡ Open i → (i < size) × (at i ≡ a)
  pub closed : (a b : ℕ) → mark a ≡ Done → HasEdge g a b → mark b ≡ Done
  pub told : (a : ℕ) → mark a ≡ Done → (cyclic a ≡ true) ↔ IsOnCycle g a
  pub onward : (i j : ℕ) → i ≤ j → j < size → Reaches g (at i) (at j)
  -- in one group, where none begins behind i up to j
  pub back : (i j : ℕ) → i ≤ j → j < size → ((s : ℕ) → Start s → (s ≤ i) ⊎ (j < s)) → Reaches g (at j) (at i)
  pub within : (i k b : ℕ) → i < size → k < followed (at i) → ending g (at i) k ≡ Some b → IsNotBefore mark size at Start i b
  pub finished : (i : ℕ) → i < size → Walked i ⊎ (length (get_or g (at i) []) ≤ followed (at i))
  pub fresh : (a : ℕ) → mark a ≡ New → followed a ≡ 0
  pub starts : (s : ℕ) → Start s → Walked s
  pub places : (s : ℕ) → Walked s → s < size
  pub begun : 0 < size → Start 0

abbrev pub mark_of : Search → ℕ → Mark
mark_of s a = get_or s.marks.items a New

abbrev pub followed_of : Search → ℕ → ℕ
followed_of s a = get_or s.followed.items a 0

abbrev pub at_of : Search → ℕ → ℕ
at_of s i = get_or s.path.items i 0

abbrev pub cyclic_of : Search → ℕ → Bool
cyclic_of s a = get_or s.cyclic.items a false

pub record IsSearch (g : Edges) (s : Search) : Type 0 where
  pub leads : LeadToNodes g
  pub marks : length s.marks.items ≡ length g
  pub followed : length s.followed.items ≡ length g
  pub cyclic : length s.cyclic.items ≡ length g
  pub groups_rise : Rises s.groups.items
  pub walk_rises : Rises s.walk.items
  pub holds : Holds g (mark_of s) (followed_of s) (length s.path.items) (at_of s) (Among s.groups.items) (Among s.walk.items) (cyclic_of s)

-- the walk ends at the place
pub record IsTop (s : Search) (place : ℕ) : Type 0 where
  pub some : 0 < length s.walk.items
  pub last : get_or s.walk.items (length s.walk.items - 1) 0 ≡ place

-- no node is new again
abbrev pub Stays : Search → Search → Type 0
Stays old new = (a : ℕ) → mark_of new a ≡ New → mark_of old a ≡ New

-- ---- the parts of a step, without what they are for

pub record Opens (old new : Search) (node : ℕ) : Type 0 where
  pub marks : new.marks.items ≡ set old.marks.items node (Open (length old.path.items))
  pub followed : new.followed.items ≡ old.followed.items
  pub path : new.path.items ≡ old.path.items ++ node ∷ []
  pub groups : new.groups.items ≡ old.groups.items ++ length old.path.items ∷ []
  pub walk : new.walk.items ≡ old.walk.items ++ length old.path.items ∷ []
  pub cyclic : new.cyclic.items ≡ old.cyclic.items

-- so many of some places, which rise, are not behind a place
pub record AreUpTo (places : List ℕ) (place n : ℕ) : Type 0 where
  pub inside : n ≤ length places
  pub behind : (k : ℕ) → n ≤ k → k < length places → place < get_or places k 0
  pub last : 0 < n → get_or places (n - 1) 0 ≤ place

pub record Joins (old new : Search) (place : ℕ) : Type 0 where
  pub marks : new.marks.items ≡ old.marks.items
  pub followed : new.followed.items ≡ old.followed.items
  pub path : new.path.items ≡ old.path.items
  pub groups : (n : ℕ) × AreUpTo old.groups.items place n × (new.groups.items ≡ take n old.groups.items)
  pub walk : new.walk.items ≡ old.walk.items
  pub cyclic : new.cyclic.items ≡ old.cyclic.items

-- the nodes of a part of the path are done, and the others as they were
pub record AreDone (path : List ℕ) (low high : ℕ) (flag : Bool) (old new : List Mark) (found now : List Bool) : Type 0 where
  pub gone : (i : ℕ) → low ≤ i → i < high → (get_or new (get_or path i 0) New ≡ Done) × (get_or now (get_or path i 0) false ≡ flag)
  pub stay : (a : ℕ) → ((i : ℕ) → low ≤ i → i < high → get_or path i 0 ≡ a → ⊥) → (get_or new a New ≡ get_or old a New) × (get_or now a false ≡ get_or found a false)
  pub marks : length new ≡ length old
  pub cyclic : length now ≡ length found

pub record Closes (old new : Search) (start : ℕ) (flag : Bool) : Type 0 where
  pub nodes : AreDone old.path.items start (length old.path.items) flag old.marks.items new.marks.items old.cyclic.items new.cyclic.items
  pub followed : new.followed.items ≡ old.followed.items
  pub path : new.path.items ≡ take start old.path.items
  pub groups : new.groups.items ≡ take (length old.groups.items - 1) old.groups.items
  pub walk : new.walk.items ≡ take (length old.walk.items - 1) old.walk.items

-- ---- steps

-- what is left where a node that an edge leads to was met
pub record Met (g : Edges) (old new : Search) (place target : ℕ) : Type 0 where
  pub search : IsSearch g new
  pub behind : IsNotBefore (mark_of new) (length new.path.items) (at_of new) (Among new.groups.items) place target
  pub inside : place < length new.path.items
  pub same : at_of new place ≡ at_of old place
  pub walk : length new.walk.items ≤ length old.walk.items + 1
  pub stays : Stays old new

-- how many edges are not followed yet
abbrev pub unfollowed : Edges → List ℕ → ℕ
unfollowed [] fs = 0
unfollowed (es ∷ g) [] = 0
unfollowed (es ∷ g) (f ∷ fs) = (length es - f) + unfollowed g fs

-- falls with each step
abbrev pub left : Edges → Search → ℕ
left g s = 2 * unfollowed g s.followed.items + length s.walk.items

pub record Steps (g : Edges) (old new : Search) : Type 0 where
  pub search : IsSearch g new
  pub stays : Stays old new
  pub falls : left g new < left g old

-- a node is new no more, and none is open
pub record Searched (g : Edges) (old new : Search) (node : ℕ) : Type 0 where
  pub search : IsSearch g new
  pub idle : length new.path.items ≡ 0
  pub stays : Stays old new
  pub met : mark_of new node ≡ New → ⊥
