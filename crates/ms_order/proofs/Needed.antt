-- The graph of what declarations read, and its order.
use Rattle.std.proofs.Common.{◌≡◌, ℕ, suc, ◌<◌, List, [], ◌∷◌, length, get_or, map, replicate, Bool, true, false, Some, inl, inr, ◌↔◌, refl, sym, ap, subst, ◌∙◌, arith}
use Rattle.std.proofs.lemmas.Bool.{cases_lt}
use Rattle.std.proofs.lemmas.List.{get_or_past, length-map, length-replicate}
use Rattle.std.proofs.lemmas.Slice.Eq.{bytes_eq-Decides}
use Rattle.std.specs.List.{flat_map}
use Rattle.std.specs.List.Sorted.{IsStrictlyIncreasing}
use Rattle.ms_syntax.specs.declared.token.Place.{Place}
use Rattle.ms_syntax.specs.Tree as x
use Rattle.ms_syntax.specs.Tree.{It}
use Rattle.ms_graph.specs.Graph.{Edges, HasEdge, LeadToNodes, Leads, edge, onward}
use Rattle.ms_free_names.specs.Uses.{Words}
use Rattle.ms_declarations.specs.Depends as dep
use Rattle.ms_declarations.specs.Depends.{DependsOn, UsesName, is_value, restrained, sayings}
use Rattle.ms_postorder.specs.Postorder.{In, IsPostorder}
use Rattle.ms_postorder.specs.Laws as post
use Rattle.ms_postorder.proofs.SharedMembers.{edge_in, in_edge}
use Rattle.ms_order.specs.Order.{AreNeeds, IsOrder, IsValue, Needs, Reads, declared, number_in}
use Rattle.ms_order.specs.Order as o
use Rattle.ms_order.specs.Drawing.{drawn, flags_by, says_by}
use Rattle.ms_order.specs.Finding.{IsFlag, IsRow, Meets, next, over}
use Rattle.ms_order.specs.Laws.{EachComesOnce, OneOrder, ReadComeFirst}
use Rattle.ms_order.proofs.Words.{number_within, one_name}
use Rattle.ms_order.proofs.Drawn.{any_in, edge_uses, flag_value, flags_of, flags_size, graph_of, graph_size, in_flat, same_sayings, saying_number, uses_edge, value_flag}
use Rattle.ms_order.proofs.Rising.{same_rising}

-- ---- what is met in numbers is read in names

module _ (items : List It) where
  met_reads : {a b : ℕ} → Meets (graph_of items) (flags_of items) a b → (w u : List ℕ) → number_in (declared items) w ≡ Some a → number_in (declared items) u ≡ Some b
      → Reads items w u
  met_reads {a = a} {b = b} (next e) w u p q =
      let d = edge_uses items a b e in
      o.directly (d.0, d.1, one_name (declared items) d.0.0 w a d.2 p, subst (λ v. dep.In v d.0.1) (one_name (declared items) d.3.0 u b d.3.2 q) d.3.1)
  met_reads {b = b} (over {f = f} m n e) w u p q =
      let d = edge_uses items f b e in
      o.through (met_reads m w d.0.0 p d.2) (λ v. n (value_flag items d.0.0 f d.2 v))
      (d.0, d.1, refl, subst (λ v. dep.In v d.0.1) (one_name (declared items) d.3.0 u b d.3.2 q) d.3.1)

  uses_met : (w u : List ℕ) (a b : ℕ) → UsesName (sayings items) w u → number_in (declared items) w ≡ Some a → number_in (declared items) u ≡ Some b → HasEdge (graph_of items) a b
  uses_met w u a b (s, m, is, used) p q = uses_edge items a b (s, m, ap (number_in (declared items)) is ∙ p, (u, used, q))

  used_number : (f u : List ℕ) → UsesName (sayings items) f u → (k : ℕ) × (number_in (declared items) f ≡ Some k)
  used_number f u (s, m, is, used) = let k = saying_number items s m in (k.0, ap (number_in (declared items)) (sym is) ∙ k.1)

  value_of : (w : List ℕ) (a : ℕ) → number_in (declared items) w ≡ Some a → IsFlag (flags_of items) a → IsValue items w
  value_of w a p f = let v = flag_value items a f in subst (IsValue items) (one_name (declared items) v.0 w a v.1 p) v.2

  reads_met : {w u : List ℕ} → Reads items w u → (a b : ℕ) → number_in (declared items) w ≡ Some a → number_in (declared items) u ≡ Some b
      → Meets (graph_of items) (flags_of items) a b
  reads_met {w = w} {u = u} (o.directly r) a b p q = next (uses_met w u a b r p q)
  reads_met {u = u} (o.through {f = f} r n s) a b p q =
      let k = used_number f u s in
      over (reads_met r a k.0 p k.1) (λ v. n (value_of f k.0 k.1 v)) (uses_met f u k.0 b s k.1 q)

  row_needs : (a b : ℕ) (row : List ℕ) → IsRow (graph_of items) (flags_of items) a row → In b row ↔ Needs items a b
  row_needs a b row r = (
    λ m.
        let h = (r.members b).0 m in
        let w = flag_value items a h.0 in
        let u = flag_value items b h.2 in
        record {
          reader = w.0;
          read = u.0;
          reader_number = w.1;
          read_number = u.1;
          reader_value = w.2;
          read_value = u.2;
          reads = met_reads h.1 w.0 u.0 w.1 u.1;
        },
    λ n. (r.members b).1 (value_flag items n.reader a n.reader_number n.reader_value, reads_met n.reads a b n.reader_number n.read_number, value_flag items n.read b n.read_number n.read_value),
  )

  pub are_needs : (g : Edges) → length g ≡ length (declared items)
      → ((a : ℕ) → a < length g → IsRow (graph_of items) (flags_of items) a (get_or g a [])) → AreNeeds items g
  are_needs g size rows = record {
    size = size;
    rise = λ a. elim (cases_lt a (length g)) [
      | inl l ↦ (rows a l).rises
      | inr past ↦ subst IsStrictlyIncreasing (sym (get_or_past g a [] past)) (λ k k_in. absurd (omega arith))
    ];
    edges = λ a b. (
      λ e. elim (cases_lt a (length g)) [
        | inl l ↦ (row_needs a b (get_or g a []) (rows a l)).0 (edge_in g a b e)
        | inr past ↦ absurd (subst (In b) (get_or_past g a [] past) (edge_in g a b e))
      ],
      λ n. in_edge g a b ((row_needs a b (get_or g a []) (rows a (subst (λ k. a < k) (sym size) (number_within (declared items) n.reader a n.reader_number)))).1 n),
    );
  }

  pub needs_lead : (g : Edges) → AreNeeds items g → LeadToNodes g
  needs_lead g h a b e = let n = (h.edges a b).0 e in subst (λ k. b < k) (sym h.size) (number_within (declared items) n.read b n.read_number)

-- ---- laws

same_edges : (g h : Edges) → length g ≡ length h → ((a : ℕ) → get_or g a [] ≡ get_or h a []) → g ≡ h
same_edges [] [] e f = refl
same_edges [] (y ∷ h) e f = absurd (omega arith)
same_edges (x ∷ g) [] e f = absurd (omega arith)
same_edges (x ∷ g) (y ∷ h) e f = ap (λ z. z ∷ g) (f 0) ∙ ap (λ zs. y ∷ zs) (same_edges g h (omega arith) (λ a. f (suc a)))

one_graph : (items : List It) (g h : Edges) → AreNeeds items g → AreNeeds items h → g ≡ h
one_graph items g h p q = same_edges g h (p.size ∙ sym q.size) (λ a. same_rising (get_or g a []) (get_or h a []) (p.rise a) (q.rise a) (λ b. (
  λ m. edge_in h a b ((q.edges a b).1 ((p.edges a b).0 (in_edge g a b m))),
  λ m. edge_in g a b ((p.edges a b).1 ((q.edges a b).0 (in_edge h a b m))),
)))

pub one_declaration_order : post.OnePostorder → OneOrder
one_declaration_order law items one other p q =
    law p.needs one other p.come (subst (λ g. IsPostorder g other) (one_graph items q.needs p.needs q.are p.are) q.come)

pub each_declaration_once : post.EachStandsOnce → EachComesOnce
each_declaration_once law items order p =
    let h = law p.needs order (needs_lead items p.needs p.are) p.come in
    record { all = λ a. subst (λ n. In a order ↔ (a < n)) p.are.size (h.all a); once = h.once }

uses_depends : {ss : List dep.Saying} {w f u : List ℕ} → DependsOn ss w f → UsesName ss f u → DependsOn ss w u
uses_depends (dep.directly r) s = dep.through r (dep.directly s)
uses_depends (dep.through r d) s = dep.through r (uses_depends d s)

reads_depends : {items : List It} {w u : List ℕ} → Reads items w u → DependsOn (sayings items) w u
reads_depends (o.directly r) = dep.directly r
reads_depends (o.through r n s) = uses_depends (reads_depends r) s

depends_on : {ss : List dep.Saying} {w v u : List ℕ} → DependsOn ss w v → DependsOn ss v u → DependsOn ss w u
depends_on (dep.directly r) d = dep.through r d
depends_on (dep.through r e) d = dep.through r (depends_on e d)

leads_depends : (items : List It) (g : Edges) → AreNeeds items g → {a b : ℕ} → Leads g a b
    → (w : List ℕ) × (u : List ℕ) × (number_in (declared items) w ≡ Some a) × (number_in (declared items) u ≡ Some b) × IsValue items w × DependsOn (sayings items) w u
leads_depends items g h {a = a} {b = b} (edge e) = let n = (h.edges a b).0 e in (n.reader, n.read, n.reader_number, n.read_number, n.reader_value, reads_depends n.reads)
leads_depends items g h {a = a} {b = b} (onward {b = c} e r) =
    let n = (h.edges a c).0 e in
    let d = leads_depends items g h r in (
      n.reader,
      d.1,
      n.reader_number,
      d.3,
      n.reader_value,
      depends_on (reads_depends n.reads) (subst (λ v. DependsOn (sayings items) v d.1) (one_name (declared items) d.0 n.read c d.2 n.read_number) d.5),
    )

value_restrained : (i : It) (w : List ℕ) → is_value w i ≡ true → (p : Place) × dep.In (p, w) (restrained i)
value_restrained (x.declaration (x.declare p k v ns q)) w e = (p, inl (ap (λ u. (let r : Place × List ℕ = (p, u) in r)) (sym ((bytes_eq-Decides v w).0 e))))
value_restrained (x.include p v) w e = absurd (let wrong : false ≡ true = e in cc)
value_restrained (x.enumeration p v ns) w e = absurd (let wrong : false ≡ true = e in cc)
value_restrained (x.assignment p v e1) w e = absurd (let wrong : false ≡ true = e in cc)
value_restrained (x.constraint p e1 ns) w e = absurd (let wrong : false ≡ true = e in cc)
value_restrained (x.solve p ns q) w e = absurd (let wrong : false ≡ true = e in cc)
value_restrained (x.output p e1) w e = absurd (let wrong : false ≡ true = e in cc)
value_restrained (x.predicate p v ps e1) w e = absurd (let wrong : false ≡ true = e in cc)
value_restrained (x.function p k v ps e1) w e = absurd (let wrong : false ≡ true = e in cc)

no_cycle : (items : List It) (g : Edges) → dep.HasNoCycle items → AreNeeds items g → post.HasNoCycle g
no_cycle items g free h a c =
    let d = leads_depends items g h c in
    let i = any_in (is_value d.0) items d.4 in
    let n = value_restrained i.0 d.0 i.2 in
    free (n.0, d.0) (in_flat restrained items i.0 (n.0, d.0) i.1 n.1)
    (subst (DependsOn (sayings items) d.0) (one_name (declared items) d.1 d.0 a d.3 d.2) d.5)

pub read_declarations_first : post.TargetsFirst → ReadComeFirst
read_declarations_first law items order free p a b n =
    law p.needs order (no_cycle items p.needs free p.are) p.come a b
    (subst (λ k. a < k) (sym p.are.size) (number_within (declared items) n.reader a n.reader_number))
    ((p.are.edges a b).1 n)

-- ---- what the code makes

pub flags_are : (items : List It) (names : Words) (flags : List Bool) → names ≡ declared items
    → flags ≡ flags_by names items (replicate (length names) false) → flags ≡ flags_of items
flags_are items names flags n e = e ∙ ap (λ ns. flags_by ns items (replicate (length ns) false)) n

pub graph_is : (items : List It) (names : Words) (flags : List Bool) (g : Edges) → names ≡ declared items → flags ≡ flags_of items
    → g ≡ drawn names (flat_map (says_by names flags) items) (replicate (length names) []) → g ≡ graph_of items
graph_is items names flags g n f e =
    e
    ∙ ap (λ ns. drawn ns (flat_map (says_by ns flags) items) (replicate (length ns) [])) n
    ∙ ap (λ fs. drawn (declared items) (flat_map (says_by (declared items) fs) items) (replicate (length (declared items)) [])) f
    ∙ ap (λ ss. drawn (declared items) ss (replicate (length (declared items)) [])) (same_sayings items)

pub sizes : {V : Type 0} (f : V → List ℕ) (items : List It) (graph : List V) (flags : List Bool) → map f graph ≡ graph_of items → flags ≡ flags_of items
    → length flags ≡ length graph
sizes f items graph flags g e =
    ap length e ∙ flags_size (declared items) items (replicate (length (declared items)) false) ∙ length-replicate (length (declared items)) false
    ∙ sym (graph_size items) ∙ sym (ap length g) ∙ length-map graph f

pub needs_made : {V : Type 0} (f : V → List ℕ) (items : List It) (graph needs : List V) (flags : List Bool) → map f graph ≡ graph_of items → flags ≡ flags_of items
    → length needs ≡ length graph → ((a : ℕ) → a < length graph → IsRow (map f graph) flags a (get_or (map f needs) a [])) → AreNeeds items (map f needs)
needs_made f items graph needs flags g e size rows =
    are_needs items (map f needs) (length-map needs f ∙ size ∙ sym (length-map graph f) ∙ ap length g ∙ graph_size items)
    (λ a less.
    subst (λ h. IsRow h (flags_of items) a (get_or (map f needs) a [])) g
    (subst (λ fs. IsRow (map f graph) fs a (get_or (map f needs) a [])) e (rows a (subst (λ n. a < n) (length-map needs f ∙ size) less))))
