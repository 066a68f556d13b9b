-- What the search keeps, over its lists.
use Rattle.std.proofs.Common.{◌≡◌, ℕ, zero, suc, ◌+◌, ◌-◌, ◌*◌, ◌<◌, ◌≤◌, List, [], ◌∷◌, ◌++◌, length, get_or, set, take, Bool, true, false, Some, ◌⊎◌, inl, inr, ◌↔◌, refl, sym, ap, subst, ◌∙◌, arith}
use Rattle.std.proofs.lemmas.Bool.{cases_eq, cases_lt}
use Rattle.std.proofs.lemmas.List.{length-append, length-set, length_push, length-take-le, get_or_append_left, get_or_at, get_or-take, get_or_past, get_or-set_same, get_or-set_other}
use Rattle.std.proofs.lemmas.Option.{slice_get_within}
use Rattle.ms_graph.specs.declared.graph.Mark.{Mark}
use Rattle.ms_graph.specs.declared.graph.Mark.TheVariants.{New, Open, Done}
use Rattle.ms_graph.specs.declared.graph.Search.{Search}
use Rattle.ms_graph.specs.Graph.{Edges, ending, HasEdge, Leads, IsOnCycle, TellsCycles}
use Rattle.ms_graph.specs.Search.{Among, AreDone, AreUpTo, Closes, Holds, IsNotBefore, IsSearch, IsTop, Joins, Met, Opens, Reaches, Rises, Searched, Stays, Steps, at_of, cyclic_of, done, followed_of, left, mark_of, open_at, there, unfollowed}
use Rattle.ms_graph.proofs.Reach.{reaches_edge}
use Rattle.ms_graph.proofs.Places.{among_first, among_most, among_push, among_push_new, among_push_old, among_take, most_below, rises_last, rises_push, rises_take, up_to_below, up_to_kept}
use Rattle.ms_graph.proofs.Steps as step
use Rattle.ms_graph.proofs.Steps.{Cases, cases, done_mark, new_mark, open_mark, new_done, open_new}

abbrev pub HoldsFor : Edges → List Mark → List ℕ → List ℕ → List ℕ → List ℕ → List Bool → Type 0
HoldsFor g marks followed path groups walk cyclic = Holds g (λ a. get_or marks a New) (λ a. get_or followed a 0) (length path) (λ i. get_or path i 0) (Among groups) (Among walk) (λ a. get_or cyclic a false)

pub carried : (g : Edges) (m m' : List Mark) (f f' p p' r r' w w' : List ℕ) (c c' : List Bool)
    → m ≡ m' → f ≡ f' → p ≡ p' → r ≡ r' → w ≡ w' → c ≡ c' → HoldsFor g m f p r w c → HoldsFor g m' f' p' r' w' c'
carried g m m' f f' p p' r r' w w' c c' em ef ep er ew ec h =
    subst (λ x. HoldsFor g m' f' p' r' w' x) ec
    (subst (λ x. HoldsFor g m' f' p' r' x c) ew
    (subst (λ x. HoldsFor g m' f' p' x w c) er
    (subst (λ x. HoldsFor g m' f' x r w c) ep
    (subst (λ x. HoldsFor g m' x p r w c) ef
    (subst (λ x. HoldsFor g x f p r w c) em h)))))

-- a mark that is not the default stands in the list
pub marked_in : (marks : List Mark) (a : ℕ) → (get_or marks a New ≡ New → ⊥) → a < length marks
marked_in marks a n = elim (cases_lt a (length marks)) [ inl l ↦ l | inr past ↦ absurd (n (get_or_past marks a New past)) ]

module _ (g : Edges) (s : Search) (h : IsSearch g s) where
  pub node_in : (i : ℕ) → i < length s.path.items → at_of s i < length g
  node_in i i_in = subst (λ n. at_of s i < n) h.marks (marked_in s.marks.items (at_of s i) (open_new (h.holds.standing i i_in)))

  module _ (place : ℕ) (top : IsTop s place) where
    pub top_walked : Among s.walk.items place
    top_walked = (length s.walk.items - 1, (let some : 0 < length s.walk.items = top.some in omega arith), top.last)

    pub top_in : place < length s.path.items
    top_in = h.holds.places place top_walked

    pub walk_last : (n : ℕ) → Among s.walk.items n → n ≤ place
    walk_last n m = subst (λ p. n ≤ p) top.last (rises_last s.walk.items h.walk_rises n m)

    pub groups_last : (n : ℕ) → Among s.groups.items n → n ≤ place
    groups_last n m = walk_last n (h.holds.starts n m)

    -- the walk without its last place
    pub most : (n : ℕ) → Among (take (length s.walk.items - 1) s.walk.items) n → (n < place) × Among s.walk.items n
    most n m = (subst (λ p. n < p) top.last (most_below s.walk.items h.walk_rises n m), among_take s.walk.items (length s.walk.items - 1) n m)

    pub most_or_last : (n : ℕ) → Among s.walk.items n → Among (take (length s.walk.items - 1) s.walk.items) n ⊎ (n ≡ place)
    most_or_last n m = elim (among_most s.walk.items n m) [ inl a ↦ inl a | inr e ↦ inr (e ∙ top.last) ]

-- ---- a node is met

pushed : (g : Edges) (marks : List Mark) (followed path groups walk : List ℕ) (cyclic : List Bool) (v : ℕ)
    → HoldsFor g marks followed path groups walk cyclic → v < length marks → get_or marks v New ≡ New
    → ((i : ℕ) → i < length path → Reaches g (get_or path i 0) v)
    → HoldsFor g (set marks v (Open (length path))) followed (path ++ v ∷ []) (groups ++ length path ∷ []) (walk ++ length path ∷ []) cyclic
pushed g marks followed path groups walk cyclic v h v_in new reach =
    subst (λ n. Holds g (λ a. get_or (set marks v (Open (length path))) a New) (λ a. get_or followed a 0) n (λ i. get_or (path ++ v ∷ []) i 0) (Among (groups ++ length path ∷ [])) (Among (walk ++ length path ∷ [])) (λ a. get_or cyclic a false))
    (sym (length_push path v))
    (step.opened_one g _ _ _ _ _ _ _ h
    (λ a. get_or (set marks v (Open (length path))) a New) (λ i. get_or (path ++ v ∷ []) i 0) (Among (groups ++ length path ∷ [])) (Among (walk ++ length path ∷ [])) v
    new (get_or-set_same marks v (Open (length path)) New v_in) (λ a n. get_or-set_other marks v a (Open (length path)) New n)
    (get_or_at path v [] 0 (length path) refl) (λ i l. get_or_append_left path (v ∷ []) 0 i l)
    (λ n m. among_push_old groups (length path) n m) (among_push_new groups (length path)) (λ n m. among_push groups (length path) n m)
    (λ n m. among_push_old walk (length path) n m) (among_push_new walk (length path)) (λ n m. among_push walk (length path) n m)
    reach)

pub opened_search : (g : Edges) (old new : Search) (v : ℕ) → IsSearch g old → Opens old new v → v < length old.marks.items → mark_of old v ≡ New
    → ((i : ℕ) → i < length old.path.items → Reaches g (at_of old i) v) → IsSearch g new
opened_search g old new v h o v_in is_new reach = record {
  leads = h.leads;
  marks = ap length o.marks ∙ length-set old.marks.items v (Open (length old.path.items)) ∙ h.marks;
  followed = ap length o.followed ∙ h.followed;
  cyclic = ap length o.cyclic ∙ h.cyclic;
  groups_rise = subst Rises (sym o.groups) (rises_push old.groups.items (length old.path.items) h.groups_rise (λ n m. h.holds.places n (h.holds.starts n m)));
  walk_rises = subst Rises (sym o.walk) (rises_push old.walk.items (length old.path.items) h.walk_rises (λ n m. h.holds.places n m));
  holds = carried g _ new.marks.items _ new.followed.items _ new.path.items _ new.groups.items _ new.walk.items _ new.cyclic.items
      (sym o.marks) (sym o.followed) (sym o.path) (sym o.groups) (sym o.walk) (sym o.cyclic)
      (pushed g old.marks.items old.followed.items old.path.items old.groups.items old.walk.items old.cyclic.items v h.holds v_in is_new reach);
}

pub opened_stays : (old new : Search) (v : ℕ) → Opens old new v → v < length old.marks.items → Stays old new
opened_stays old new v o v_in a n = elim (cases_eq a v) [
  | inl same ↦ absurd (open_new (ap (λ m. get_or m v New) o.marks ∙ get_or-set_same old.marks.items v (Open (length old.path.items)) New v_in) (ap (mark_of new) (sym same) ∙ n))
  | inr other ↦ sym (ap (λ m. get_or m a New) o.marks ∙ get_or-set_other old.marks.items v a (Open (length old.path.items)) New other) ∙ n
]

pub met_new : (g : Edges) (old new : Search) (place v : ℕ) → v < length old.marks.items → mark_of old v ≡ New → Opens old new v
    → IsSearch g old → IsTop old place → HasEdge g (at_of old place) v → Met g old new place v
met_new g old new place v v_in is_new o h top e =
    let size : length new.path.items ≡ length old.path.items + 1 = ap length o.path ∙ length_push old.path.items v in
    let place_in : place < length old.path.items = top_in g old h place top in
    record {
      search = opened_search g old new v h o v_in is_new
          (λ i i_in. there (reaches_edge (step.all_reach g _ _ _ _ _ _ _ h.holds place place_in (groups_last g old h place top) i i_in) e));
      behind = open_at (length old.path.items) (omega arith)
          (ap (λ p. get_or p (length old.path.items) 0) o.path ∙ get_or_at old.path.items v [] 0 (length old.path.items) refl)
          (λ s m s_le. omega arith);
      inside = omega arith;
      same = ap (λ p. get_or p place 0) o.path ∙ get_or_append_left old.path.items (v ∷ []) 0 place place_in;
      walk = (let w : length new.walk.items ≡ length old.walk.items + 1 = ap length o.walk ∙ length_push old.walk.items (length old.path.items) in omega arith);
      stays = opened_stays old new v o v_in;
    }

pub met_open : (g : Edges) (old new : Search) (place v start : ℕ) → mark_of old v ≡ Open start → Joins old new start
    → IsSearch g old → IsTop old place → HasEdge g (at_of old place) v → Met g old new place v
met_open g old new place v start is_open j h top e =
    let o : (start < length old.path.items) × (at_of old start ≡ v) = h.holds.opened v start is_open in
    let place_in : place < length old.path.items = top_in g old h place top in
    let e' : HasEdge g (at_of old place) (at_of old start) = subst (λ b. HasEdge g (at_of old place) b) (sym o.1) e in
    let n = j.groups.0 in
    let below : (s : ℕ) → Among new.groups.items s → s ≤ start = λ s m. up_to_below old.groups.items start n h.groups_rise j.groups.1 s (subst (λ xs. Among xs s) j.groups.2 m) in
    record {
      search = record {
        leads = h.leads;
        marks = ap length j.marks ∙ h.marks;
        followed = ap length j.followed ∙ h.followed;
        cyclic = ap length j.cyclic ∙ h.cyclic;
        groups_rise = subst Rises (sym j.groups.2) (rises_take old.groups.items n h.groups_rise);
        walk_rises = subst Rises (sym j.walk) h.walk_rises;
        holds = carried g _ new.marks.items _ new.followed.items _ new.path.items _ new.groups.items _ new.walk.items _ new.cyclic.items
            (sym j.marks) (sym j.followed) (sym j.path) refl (sym j.walk) (sym j.cyclic)
            (step.joined g _ _ _ _ _ _ _ h.holds (Among new.groups.items) place start place_in o.0 (groups_last g old h place top) e'
            (λ s m. among_take old.groups.items n s (subst (λ xs. Among xs s) j.groups.2 m))
            below
            (λ s m s_le. subst (λ xs. Among xs s) (sym j.groups.2) (up_to_kept old.groups.items start n j.groups.1 s m s_le)));
      };
      behind = open_at start (subst (λ p. start < length p) (sym j.path) o.0) (ap (λ p. get_or p start 0) j.path ∙ o.1) (λ s m s_le. below s m);
      inside = subst (λ p. place < length p) (sym j.path) place_in;
      same = ap (λ p. get_or p place 0) j.path;
      walk = (let w : length new.walk.items ≡ length old.walk.items = ap length j.walk in omega arith);
      stays = λ a m. sym (ap (λ ms. get_or ms a New) j.marks) ∙ m;
    }

pub met_done : (g : Edges) (old new : Search) (place v : ℕ) → mark_of old v ≡ Done
    → new.marks.items ≡ old.marks.items → new.followed.items ≡ old.followed.items → new.path.items ≡ old.path.items → new.groups.items ≡ old.groups.items → new.walk.items ≡ old.walk.items → new.cyclic.items ≡ old.cyclic.items
    → IsSearch g old → IsTop old place → Met g old new place v
met_done g old new place v is_done em ef ep er ew ec h top =
    let place_in : place < length old.path.items = top_in g old h place top in
    record {
      search = record {
        leads = h.leads;
        marks = ap length em ∙ h.marks;
        followed = ap length ef ∙ h.followed;
        cyclic = ap length ec ∙ h.cyclic;
        groups_rise = subst Rises (sym er) h.groups_rise;
        walk_rises = subst Rises (sym ew) h.walk_rises;
        holds = carried g _ new.marks.items _ new.followed.items _ new.path.items _ new.groups.items _ new.walk.items _ new.cyclic.items
            (sym em) (sym ef) (sym ep) (sym er) (sym ew) (sym ec) h.holds;
      };
      behind = done (ap (λ ms. get_or ms v New) em ∙ is_done);
      inside = subst (λ p. place < length p) (sym ep) place_in;
      same = ap (λ p. get_or p place 0) ep;
      walk = (let w : length new.walk.items ≡ length old.walk.items = ap length ew in omega arith);
      stays = λ a m. sym (ap (λ ms. get_or ms a New) em) ∙ m;
    }

-- ---- one more edge is followed

pub follows_one : (g : Edges) (fs : List ℕ) (u : ℕ) → length fs ≡ length g → u < length g → get_or fs u 0 < length (get_or g u [])
    → unfollowed g (set fs u (get_or fs u 0 + 1)) + 1 ≡ unfollowed g fs
follows_one [] fs u e u_in less = absurd (omega arith)
follows_one (es ∷ g) [] u e u_in less = absurd (omega arith)
follows_one (es ∷ g) (f ∷ fs) zero e u_in less = omega arith
follows_one (es ∷ g) (f ∷ fs) (suc u) e u_in less =
    let rest : unfollowed g (set fs u (get_or fs u 0 + 1)) + 1 ≡ unfollowed g fs = follows_one g fs u (omega arith) (omega arith) less in
    omega arith

pub followed_search : (g : Edges) (old mid new : Search) (place node target : ℕ) → IsSearch g old → IsTop old place → at_of old place ≡ node
    → ending g node (followed_of old node) ≡ Some target → Met g old mid place target → mid.followed.items ≡ old.followed.items
    → new.marks.items ≡ mid.marks.items → new.followed.items ≡ set mid.followed.items node (get_or mid.followed.items node 0 + 1)
    → new.path.items ≡ mid.path.items → new.groups.items ≡ mid.groups.items → new.walk.items ≡ mid.walk.items → new.cyclic.items ≡ mid.cyclic.items
    → Steps g old new
followed_search g old mid new place node target h top stands leads m ef em en ep er ew ec =
    let more = get_or mid.followed.items node 0 + 1 in
    let node_known : node < length g = subst (λ a. a < length g) stands (node_in g old h place (top_in g old h place top)) in
    let known : node < length mid.followed.items = subst (λ n. node < n) (sym m.search.followed) node_known in
    let less : followed_of old node < length (get_or g node []) = slice_get_within (get_or g node []) (followed_of old node) target leads in
    record {
      search = record {
        leads = h.leads;
        marks = ap length em ∙ m.search.marks;
        followed = ap length en ∙ length-set mid.followed.items node more ∙ m.search.followed;
        cyclic = ap length ec ∙ m.search.cyclic;
        groups_rise = subst Rises (sym er) m.search.groups_rise;
        walk_rises = subst Rises (sym ew) m.search.walk_rises;
        holds = carried g _ new.marks.items _ new.followed.items _ new.path.items _ new.groups.items _ new.walk.items _ new.cyclic.items
            (sym em) (sym en) (sym ep) (sym er) (sym ew) (sym ec)
            (step.advanced g _ _ _ _ _ _ _ m.search.holds (λ a. get_or (set mid.followed.items node more) a 0) place node m.inside (m.same ∙ stands)
            (get_or-set_same mid.followed.items node more 0 known) (λ a n. get_or-set_other mid.followed.items node a more 0 n)
            (λ b e.
            let e' : ending g node (followed_of old node) ≡ Some b = subst (λ fs. ending g node (get_or fs node 0) ≡ Some b) ef e in
            let same : Some target ≡ Some b = sym leads ∙ e' in
            let is_b : target ≡ b = cc in
            subst (λ c. IsNotBefore (mark_of mid) (length mid.path.items) (at_of mid) (Among mid.groups.items) place c) is_b m.behind));
      };
      stays = λ a n. m.stays a (sym (ap (λ ms. get_or ms a New) em) ∙ n);
      falls =
          let e : new.followed.items ≡ set old.followed.items node (get_or old.followed.items node 0 + 1) =
          en ∙ ap (λ fs. set fs node (get_or fs node 0 + 1)) ef in
          let falls : unfollowed g new.followed.items + 1 ≡ unfollowed g old.followed.items =
          subst (λ fs. unfollowed g fs + 1 ≡ unfollowed g old.followed.items) (sym e) (follows_one g old.followed.items node h.followed node_known less) in
          let walk : length new.walk.items ≡ length mid.walk.items = ap length ew in
          omega (arith, m.walk);
    }

-- ---- the walk leaves a node

pub closed_search : (g : Edges) (old new : Search) (place node : ℕ) (flag : Bool) → IsSearch g old → IsTop old place → at_of old place ≡ node
    → length (get_or g node []) ≤ followed_of old node
    → (0 < length old.groups.items) × (get_or old.groups.items (length old.groups.items - 1) 0 ≡ place)
    → (place + 1 < length old.path.items → flag ≡ true) → (length old.path.items ≡ place + 1 → (flag ≡ true) ↔ HasEdge g node node)
    → Closes old new place flag → Steps g old new
closed_search g old new place node flag h top stands all ends many one cl =
    let place_in : place < length old.path.items = top_in g old h place top in
    let start : Among old.groups.items place = (length old.groups.items - 1, omega (arith, ends.0), ends.1) in
    let before : (s : ℕ) → Among new.groups.items s → (s < place) × Among old.groups.items s = λ s m.
    let m' : Among (take (length old.groups.items - 1) old.groups.items) s = subst (λ xs. Among xs s) cl.groups m in
    (subst (λ p. s < p) ends.1 (most_below old.groups.items h.groups_rise s m'), among_take old.groups.items (length old.groups.items - 1) s m') in
    let walked : (s : ℕ) → Among new.walk.items s → (s < place) × Among old.walk.items s = λ s m.
    most g old h place top s (subst (λ xs. Among xs s) cl.walk m) in
    let all' : length (get_or g (at_of old place) []) ≤ followed_of old (at_of old place) = subst (λ a. length (get_or g a []) ≤ followed_of old a) (sym stands) all in
    let one' : length old.path.items ≡ place + 1 → (flag ≡ true) ↔ HasEdge g (at_of old place) (at_of old place) = λ e. subst (λ a. (flag ≡ true) ↔ HasEdge g a a) (sym stands) (one e) in
    let below : (i : ℕ) → i < place → get_or (take place old.path.items) i 0 ≡ get_or old.path.items i 0 = λ i less. get_or-take place old.path.items i 0 less in
    let group_old : (s : ℕ) → Among old.groups.items s → s < place → Among new.groups.items s = λ s m less.
    elim (among_most old.groups.items s m) [ inl a ↦ subst (λ xs. Among xs s) (sym cl.groups) a | inr e ↦ absurd (let e' : s ≡ place = e ∙ ends.1 in omega arith) ] in
    let walk_old : (s : ℕ) → Among old.walk.items s → s < place → Among new.walk.items s = λ s m less.
    elim (most_or_last g old h place top s m) [ inl a ↦ subst (λ xs. Among xs s) (sym cl.walk) a | inr e ↦ absurd (omega arith) ] in
    let size : length (take place old.path.items) ≡ place = length-take-le place old.path.items (omega arith) in
    record {
      search = record {
        leads = h.leads;
        marks = cl.nodes.marks ∙ h.marks;
        followed = ap length cl.followed ∙ h.followed;
        cyclic = cl.nodes.cyclic ∙ h.cyclic;
        groups_rise = subst Rises (sym cl.groups) (rises_take old.groups.items (length old.groups.items - 1) h.groups_rise);
        walk_rises = subst Rises (sym cl.walk) (rises_take old.walk.items (length old.walk.items - 1) h.walk_rises);
        holds = carried g new.marks.items _ _ new.followed.items _ new.path.items new.groups.items _ new.walk.items _ new.cyclic.items _
            refl (sym cl.followed) (sym cl.path) refl refl refl
            (subst (λ n. Holds g (mark_of new) (followed_of old) n (λ i. get_or (take place old.path.items) i 0) (Among new.groups.items) (Among new.walk.items) (cyclic_of new)) (sym size)
            (step.closed_group g (mark_of old) (followed_of old) (length old.path.items) (at_of old) (Among old.groups.items) (Among old.walk.items) (cyclic_of old) h.holds
            (mark_of new) (λ i. get_or (take place old.path.items) i 0) (Among new.groups.items) (Among new.walk.items) (cyclic_of new) place flag
            place_in start all' (groups_last g old h place top) (walk_last g old h place top) many one' below before group_old walked walk_old cl.nodes.gone cl.nodes.stay));
      };
      stays = λ a n. elim (step.fate g (mark_of old) (followed_of old) (length old.path.items) (at_of old) (Among old.groups.items) (Among old.walk.items) (cyclic_of old) h.holds
          (mark_of new) (λ i. get_or (take place old.path.items) i 0) (Among new.groups.items) (Among new.walk.items) (cyclic_of new) place flag
          place_in start all' (groups_last g old h place top) (walk_last g old h place top) many one' below before group_old walked walk_old cl.nodes.gone cl.nodes.stay a) [
            | inl f ↦ absurd (new_done n (ap (mark_of new) (sym f.3) ∙ (cl.nodes.gone f.0 f.1 f.2).0))
            | inr f ↦ sym f.0 ∙ n
          ];
      falls =
          let some : 0 < length old.walk.items = top.some in
          let walk : length new.walk.items ≡ length old.walk.items - 1 = ap length cl.walk ∙ length-take-le (length old.walk.items - 1) old.walk.items (omega arith) in
          let same : unfollowed g new.followed.items ≡ unfollowed g old.followed.items = ap (unfollowed g) cl.followed in
          omega arith;
    }

pub left_search : (g : Edges) (old new : Search) (place node : ℕ) → IsSearch g old → IsTop old place → at_of old place ≡ node
    → length (get_or g node []) ≤ followed_of old node
    → ((0 < length old.groups.items) × (get_or old.groups.items (length old.groups.items - 1) 0 ≡ place) → ⊥)
    → new.marks.items ≡ old.marks.items → new.followed.items ≡ old.followed.items → new.path.items ≡ old.path.items → new.groups.items ≡ old.groups.items
    → new.walk.items ≡ take (length old.walk.items - 1) old.walk.items → new.cyclic.items ≡ old.cyclic.items
    → Steps g old new
left_search g old new place node h top stands all ends em ef ep er ew ec =
    let some : 0 < length old.walk.items = top.some in
    let all' : length (get_or g (at_of old place) []) ≤ followed_of old (at_of old place) = subst (λ a. length (get_or g a []) ≤ followed_of old a) (sym stands) all in
    let no_start : Among old.groups.items place → ⊥ = λ m.
    let last = get_or old.groups.items (length old.groups.items - 1) 0 in
    let k_in : m.0 < length old.groups.items = m.1 in
    let high : place ≤ last = rises_last old.groups.items h.groups_rise place m in
    let low : last ≤ place = groups_last g old h place top last (length old.groups.items - 1, omega arith, refl) in
    let is_last : last ≡ place = omega arith in
    ends (omega arith, is_last) in
    record {
      search = record {
        leads = h.leads;
        marks = ap length em ∙ h.marks;
        followed = ap length ef ∙ h.followed;
        cyclic = ap length ec ∙ h.cyclic;
        groups_rise = subst Rises (sym er) h.groups_rise;
        walk_rises = subst Rises (sym ew) (rises_take old.walk.items (length old.walk.items - 1) h.walk_rises);
        holds = carried g _ new.marks.items _ new.followed.items _ new.path.items _ new.groups.items new.walk.items _ _ new.cyclic.items
            (sym em) (sym ef) (sym ep) (sym er) refl (sym ec)
            (step.left_one g _ _ _ _ _ _ _ h.holds (Among new.walk.items) place all' no_start
            (λ s m. (most g old h place top s (subst (λ xs. Among xs s) ew m)).1)
            (λ s m. elim (most_or_last g old h place top s m) [ inl a ↦ inl (subst (λ xs. Among xs s) (sym ew) a) | inr e ↦ inr e ]));
      };
      stays = λ a n. sym (ap (λ ms. get_or ms a New) em) ∙ n;
      falls =
          let walk : length new.walk.items ≡ length old.walk.items - 1 = ap length ew ∙ length-take-le (length old.walk.items - 1) old.walk.items (omega arith) in
          let same : unfollowed g new.followed.items ≡ unfollowed g old.followed.items = ap (unfollowed g) ef in
          omega arith;
    }

-- ---- whole walks

-- where the walk is over, no node is open
pub walk_over : (g : Edges) (s : Search) → IsSearch g s → length s.walk.items ≡ 0 → length s.path.items ≡ 0
walk_over g s h none = elim (cases_lt 0 (length s.path.items)) [
  | inl some ↦ absurd (let m : Among s.walk.items 0 = h.holds.starts 0 (h.holds.begun some) in let k_in : m.0 < length s.walk.items = m.1 in omega arith)
  | inr le ↦ omega arith
]

pub begun_search : (g : Edges) (old mid : Search) (node : ℕ) → IsSearch g old → length old.path.items ≡ 0 → node < length g → mark_of old node ≡ New → Opens old mid node → IsSearch g mid
begun_search g old mid node h idle node_known new o =
    opened_search g old mid node h o (subst (λ n. node < n) (sym h.marks) node_known) new (λ i i_in. absurd (omega arith))

pub searched_new : (g : Edges) (old mid new : Search) (node : ℕ) → IsSearch g old → node < length g → mark_of old node ≡ New → Opens old mid node
    → IsSearch g new → length new.path.items ≡ 0 → Stays mid new → Searched g old new node
searched_new g old mid new node h node_known is_new o after idle stays =
    let known : node < length old.marks.items = subst (λ n. node < n) (sym h.marks) node_known in
    record {
      search = after;
      idle = idle;
      stays = λ a n. opened_stays old mid node o known a (stays a n);
      met = λ n. open_new (ap (λ m. get_or m node New) o.marks ∙ get_or-set_same old.marks.items node (Open (length old.path.items)) New known) (stays node n);
    }

-- where no node is new or open, each is done
pub all_told : (g : Edges) (s : Search) → IsSearch g s → length s.path.items ≡ 0 → ((a : ℕ) → a < length g → mark_of s a ≡ New → ⊥) → TellsCycles g s.cyclic.items
all_told g s h idle old = (
  h.cyclic,
  λ a a_in. elim (cases (mark_of s a)) [
    | new_mark n ↦ absurd (old a a_in n)
    | open_mark i m ↦ absurd (let o = h.holds.opened a i m in omega (arith, o.0))
    | done_mark d ↦ h.holds.told a d
  ],
)

-- one more node of the path is done
pub done_more : (path : List ℕ) (low place : ℕ) (flag : Bool) (old new : List Mark) (found now : List Bool) (a : ℕ)
    → AreDone path low place flag old new found now → low ≤ place → get_or path place 0 ≡ a → a < length new → a < length now
    → AreDone path low (place + 1) flag old (set new a Done) found (set now a flag)
done_more path low place flag old new found now a d from is_a in_new in_now = record {
  gone = λ i i_from i_in. elim (cases_eq (get_or path i 0) a) [
    | inl same ↦ (
      subst (λ b. get_or (set new a Done) b New ≡ Done) (sym same) (get_or-set_same new a Done New in_new),
      subst (λ b. get_or (set now a flag) b false ≡ flag) (sym same) (get_or-set_same now a flag false in_now),
    )
    | inr other ↦ elim (cases_eq i place) [
      | inl e ↦ absurd (other (ap (λ k. get_or path k 0) e ∙ is_a))
      | inr before ↦
          let old_gone = d.gone i i_from (omega arith) in (
            get_or-set_other new a (get_or path i 0) Done New other ∙ old_gone.0,
            get_or-set_other now a (get_or path i 0) flag false other ∙ old_gone.1,
          )
    ]
  ];
  stay = λ b none.
      let other : b ≡ a → ⊥ = λ same. none place from (omega arith) (is_a ∙ sym same) in
      let old_stay = d.stay b (λ i i_from i_in. none i i_from (omega arith)) in (
        get_or-set_other new a b Done New other ∙ old_stay.0,
        get_or-set_other now a b flag false other ∙ old_stay.1,
      );
  marks = length-set new a Done ∙ d.marks;
  cyclic = length-set now a flag ∙ d.cyclic;
}
