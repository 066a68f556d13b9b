-- Cycles of names are cycles of their numbers.
use Rattle.std.proofs.Common.{◌≡◌, ℕ, zero, suc, ◌+◌, ◌<◌, ◌≤◌, List, [], ◌∷◌, ◌++◌, length, get_or, set, map, drop, replicate, Bool, true, false, Option, Some, None, ◌⊎◌, inl, inr, ◌↔◌, refl, sym, ap, subst, ◌∙◌, arith}
use Rattle.std.specs.Prelude.{option_map, is_some, slice_get, MatchOption, if◌then◌else◌, ◌||◌}
use Rattle.std.specs.Option.{option_or, option_to_list}
use Rattle.std.specs.List.{flat_map, list_any}
use Rattle.std.specs.Str.{bytes_eq}
use Rattle.std.proofs.lemmas.Bool.{cases_eq, cases_lt}
use Rattle.std.proofs.lemmas.List.{length-set, get_or-set_same, get_or-set_other, get_or_past, get_or-replicate, length-replicate, drop_more}
use Rattle.std.proofs.lemmas.Slice.Eq.{bytes_eq-Decides}
use Rattle.ms_syntax.specs.declared.token.Place.{Place}
use Rattle.ms_syntax.specs.Tree as x
use Rattle.ms_syntax.specs.declared.tree.Index.{Index}
use Rattle.ms_syntax.specs.declared.tree.Item.{Item}
use Rattle.ms_syntax.specs.Tree.{Names, It, index_view, indices_of, item_view}
use Rattle.ms_graph.specs.Graph.{Edges, HasEdge, IsOnCycle, LeadToNodes, Leads, TellsCycles, edge, ending, onward}
use Rattle.ms_declarations.specs.Numbering.{number_of}
use Rattle.ms_declarations.specs.Declaring.{declared_by, names_by, names_of}
use Rattle.ms_free_names.specs.Uses.{Words, uses}
use Rattle.ms_declarations.specs.Depends.{DependsOn, FirstCycle, HasNoCycle, In, Saying, UsesName, directly, is_annotation, is_single, is_value, restrained, says, sayings, through}
use Rattle.ms_declarations.specs.Drawing.{AreValues, TellsCycle, drawn, drawn_at, drawn_one, first_marked, marked, numbers, says_with}
use Rattle.ms_declarations.proofs.Numbers.{Test, other, same, test}

-- ---- members of lists

in_left : {A : Type 0} (xs ys : List A) (y : A) → In y xs → In y (xs ++ ys)
in_left [] ys y m = absurd m
in_left (z ∷ xs) ys y m = elim m [ inl e ↦ inl e | inr r ↦ inr (in_left xs ys y r) ]

in_right : {A : Type 0} (xs ys : List A) (y : A) → In y ys → In y (xs ++ ys)
in_right [] ys y m = m
in_right (z ∷ xs) ys y m = inr (in_right xs ys y m)

in_either : {A : Type 0} (xs ys : List A) (y : A) → In y (xs ++ ys) → In y xs ⊎ In y ys
in_either [] ys y m = inr m
in_either (z ∷ xs) ys y m = elim m [ inl e ↦ inl (inl e) | inr r ↦ elim (in_either xs ys y r) [ inl a ↦ inl (inr a) | inr b ↦ inr b ] ]

get_in : {A : Type 0} (xs : List A) (y : A) → In y xs → (k : ℕ) × (slice_get xs k ≡ Some y)
get_in [] y m = absurd m
get_in (z ∷ xs) y m = elim m [ inl e ↦ (0, ap (λ a. Some a) (sym e)) | inr r ↦ (let g = get_in xs y r in (suc g.0, g.1)) ]

same_some : {A : Type 0} {a b : A} → Some a ≡ Some b → a ≡ b
same_some e = cc

in_get : {A : Type 0} (xs : List A) (k : ℕ) (y : A) → slice_get xs k ≡ Some y → In y xs
in_get [] k y e = absurd (let wrong : None ≡ Some y = e in cc)
in_get (z ∷ xs) zero y e = inl (sym (same_some e))
in_get (z ∷ xs) (suc k) y e = inr (in_get xs k y e)

in_flat : {A B : Type 0} (f : A → List B) (is : List A) (i : A) (y : B) → In i is → In y (f i) → In y (flat_map f is)
in_flat f [] i y m h = absurd m
in_flat f (j ∷ is) i y m h = elim m [
  | inl e ↦ in_left (f j) (flat_map f is) y (subst (λ k. In y (f k)) e h)
  | inr r ↦ in_right (f j) (flat_map f is) y (in_flat f is i y r h)
]

flat_in : {A B : Type 0} (f : A → List B) (is : List A) (y : B) → In y (flat_map f is) → (i : A) × In i is × In y (f i)
flat_in f [] y m = absurd m
flat_in f (j ∷ is) y m = elim (in_either (f j) (flat_map f is) y m) [
  | inl a ↦ (j, inl refl, a)
  | inr b ↦ (let r = flat_in f is y b in (r.0, inr r.1, r.2))
]

any_in : {A : Type 0} (p : A → Bool) (is : List A) → list_any p is ≡ true → (i : A) × In i is × (p i ≡ true)
any_in p [] e = absurd (let wrong : false ≡ true = e in cc)
any_in p (i ∷ is) e = go (λ h. any_in p is h) (p i) refl e where
  go : (list_any p is ≡ true → (j : _) × In j is × (p j ≡ true)) → (b : Bool) → p i ≡ b → (b || list_any p is) ≡ true → (j : _) × In j (i ∷ is) × (p j ≡ true)
  go rest true h e = (i, inl refl, h)
  go rest false h e = let r = rest e in (r.0, inr r.1, r.2)

-- ---- names and numbers

some_suc : (o : Option ℕ) (k : ℕ) → option_map (λ j. suc j) o ≡ Some k → (j : ℕ) × (o ≡ Some j) × (k ≡ suc j)
some_suc None k e = absurd (let wrong : None ≡ Some k = e in cc)
some_suc (Some j) k e = (j, refl, sym (same_some e))

pub number_within : (ns : Names) (w : List ℕ) (k : ℕ) → number_of ns w ≡ Some k → k < length ns
number_within [] w k e = absurd (let wrong : None ≡ Some k = e in cc)
number_within (n ∷ ns) w k e = go (λ j h. number_within ns w j h) (bytes_eq n.1 w) e where
  go : ((j : ℕ) → number_of ns w ≡ Some j → j < length ns) → (b : Bool) → (if b then Some 0 else option_map (λ j. suc j) (number_of ns w)) ≡ Some k → k < suc (length ns)
  go rest true e = let is : 0 ≡ k = same_some e in omega arith
  go rest false e = let s = some_suc (number_of ns w) k e in let r : s.0 < length ns = rest s.0 s.1 in omega (arith, s.2)

-- names of one number are one
pub one_name : (ns : Names) (w v : List ℕ) (k : ℕ) → number_of ns w ≡ Some k → number_of ns v ≡ Some k → w ≡ v
one_name [] w v k e f = absurd (let wrong : None ≡ Some k = e in cc)
one_name (n ∷ ns) w v k e f = go (λ j g h. one_name ns w v j g h) (bytes_eq n.1 w) (bytes_eq n.1 v) (test n.1 w) (test n.1 v) e f where
  go : ((j : ℕ) → number_of ns w ≡ Some j → number_of ns v ≡ Some j → w ≡ v) → (a b : Bool) → Test n.1 w a → Test n.1 v b
      → (if a then Some 0 else option_map (λ j. suc j) (number_of ns w)) ≡ Some k → (if b then Some 0 else option_map (λ j. suc j) (number_of ns v)) ≡ Some k → w ≡ v
  go rest true true (same p) (same q) e f = sym p ∙ q
  go rest true false t u e f = let s = some_suc (number_of ns v) k f in let is : 0 ≡ k = same_some e in absurd (omega (arith, s.2))
  go rest false true t u e f = let s = some_suc (number_of ns w) k e in let is : 0 ≡ k = same_some f in absurd (omega (arith, s.2))
  go rest false false t u e f =
      let s = some_suc (number_of ns w) k e in let r = some_suc (number_of ns v) k f in
      let j : s.0 ≡ r.0 = omega (arith, s.2, r.2) in
      rest s.0 s.1 (r.1 ∙ ap (λ i. Some i) (sym j))

pub numbered : (ns : Names) (n : Place × List ℕ) → In n ns → (k : ℕ) × (number_of ns n.1 ≡ Some k)
numbered [] n m = absurd m
numbered (o ∷ ns) n m = go (bytes_eq o.1 n.1) (test o.1 n.1) (elim m [ inl e ↦ inl (ap (λ p. p.1) e) | inr r ↦ inr (numbered ns n r) ]) where
  go : (b : Bool) → Test o.1 n.1 b → (n.1 ≡ o.1) ⊎ ((k : ℕ) × (number_of ns n.1 ≡ Some k)) → (k : ℕ) × ((if b then Some 0 else option_map (λ j. suc j) (number_of ns n.1)) ≡ Some k)
  go true t h = (0, refl)
  go false (other apart) h = elim h [ inl e ↦ absurd (apart (sym e)) | inr r ↦ (suc r.0, ap (option_map (λ j. suc j)) r.1) ]

-- ---- drawn edges

numbers_in : (ns : Names) (ws : Words) (b : ℕ) → In b (numbers ns ws) → (u : List ℕ) × In u ws × (number_of ns u ≡ Some b)
numbers_in ns [] b m = absurd m
numbers_in ns (w ∷ ws) b m = go (number_of ns w) refl (elim (in_either (option_to_list (number_of ns w)) (numbers ns ws) b m) [ inl a ↦ inl a | inr r ↦ inr (numbers_in ns ws b r) ]) where
  go : (o : Option ℕ) → number_of ns w ≡ o → In b (option_to_list o) ⊎ ((u : List ℕ) × In u ws × (number_of ns u ≡ Some b)) → (u : List ℕ) × In u (w ∷ ws) × (number_of ns u ≡ Some b)
  go None e h = elim h [ inl a ↦ absurd a | inr r ↦ (r.0, inr r.1, r.2) ]
  go (Some k) e h = elim h [ inl a ↦ elim a [ inl is ↦ (w, inl refl, e ∙ ap (λ j. Some j) (sym is)) | inr none ↦ absurd none ] | inr r ↦ (r.0, inr r.1, r.2) ]

in_numbers : (ns : Names) (ws : Words) (u : List ℕ) (b : ℕ) → In u ws → number_of ns u ≡ Some b → In b (numbers ns ws)
in_numbers ns [] u b m e = absurd m
in_numbers ns (w ∷ ws) u b m e = elim m [
  | inl is ↦ in_left (option_to_list (number_of ns w)) (numbers ns ws) b (subst (λ o. In b (option_to_list o)) (sym (ap (number_of ns) (sym is) ∙ e)) (inl refl))
  | inr r ↦ in_right (option_to_list (number_of ns w)) (numbers ns ws) b (in_numbers ns ws u b r e)
]

one_edge : (o : Option ℕ) (to : List ℕ) (g : Edges) (a b : ℕ) → In b (get_or (drawn_at o to g) a []) → In b (get_or g a []) ⊎ ((o ≡ Some a) × In b to)
one_edge None to g a b m = inl m
one_edge (Some k) to g a b m = elim (cases_eq a k) [
  | inr apart ↦ inl (subst (In b) (get_or-set_other g k a (get_or g k [] ++ to) [] apart) m)
  | inl is ↦ elim (cases_lt k (length g)) [
    | inl k_in ↦ (let read : get_or (set g k (get_or g k [] ++ to)) a [] ≡ get_or g k [] ++ to = ap (λ i. get_or (set g k (get_or g k [] ++ to)) i []) is ∙ get_or-set_same g k (get_or g k [] ++ to) [] k_in in
        elim (in_either (get_or g k []) to b (subst (In b) read m)) [
          | inl old ↦ inl (subst (λ i. In b (get_or g i [])) (sym is) old)
          | inr new ↦ inr (ap (λ i. Some i) (sym is), new)
        ])
    | inr past ↦ absurd (subst (In b) (get_or_past (set g k (get_or g k [] ++ to)) a [] (let e : length (set g k (get_or g k [] ++ to)) ≡ length g = length-set g k (get_or g k [] ++ to) in omega arith)) m)
  ]
]

one_kept : (o : Option ℕ) (to : List ℕ) (g : Edges) (a b : ℕ) → In b (get_or g a []) → In b (get_or (drawn_at o to g) a [])
one_kept None to g a b m = m
one_kept (Some k) to g a b m = elim (cases_eq a k) [
  | inr apart ↦ subst (In b) (sym (get_or-set_other g k a (get_or g k [] ++ to) [] apart)) m
  | inl is ↦ elim (cases_lt k (length g)) [
    | inl k_in ↦ (let read : get_or (set g k (get_or g k [] ++ to)) a [] ≡ get_or g k [] ++ to = ap (λ i. get_or (set g k (get_or g k [] ++ to)) i []) is ∙ get_or-set_same g k (get_or g k [] ++ to) [] k_in in
        subst (In b) (sym read) (in_left (get_or g k []) to b (subst (λ i. In b (get_or g i [])) is m)))
    | inr past ↦ absurd (subst (In b) (get_or_past g a [] (omega arith)) m)
  ]
]

one_drawn : (to : List ℕ) (g : Edges) (a b : ℕ) → a < length g → In b to → In b (get_or (drawn_at (Some a) to g) a [])
one_drawn to g a b a_in m = subst (In b) (sym (get_or-set_same g a (get_or g a [] ++ to) [] a_in)) (in_right (get_or g a []) to b m)

one_size : (o : Option ℕ) (to : List ℕ) (g : Edges) → length (drawn_at o to g) ≡ length g
one_size None to g = refl
one_size (Some k) to g = length-set g k (get_or g k [] ++ to)

pub drawn_size : (ns : Names) (ss : List Saying) (g : Edges) → length (drawn ns ss g) ≡ length g
drawn_size ns [] g = refl
drawn_size ns (s ∷ ss) g = drawn_size ns ss (drawn_one ns s g) ∙ one_size (number_of ns s.0) (numbers ns s.1) g

abbrev Drawn : Names → List Saying → ℕ → ℕ → Type 0
Drawn ns ss a b = (s : Saying) × In s ss × (number_of ns s.0 ≡ Some a) × ((u : List ℕ) × In u s.1 × (number_of ns u ≡ Some b))

drawn_edge : (ns : Names) (ss : List Saying) (g : Edges) (a b : ℕ) → In b (get_or (drawn ns ss g) a []) → In b (get_or g a []) ⊎ Drawn ns ss a b
drawn_edge ns [] g a b m = inl m
drawn_edge ns (s ∷ ss) g a b m = elim (drawn_edge ns ss (drawn_one ns s g) a b m) [
  | inr d ↦ inr (d.0, inr d.1, d.2, d.3)
  | inl n ↦ elim (one_edge (number_of ns s.0) (numbers ns s.1) g a b n) [
    | inl old ↦ inl old
    | inr new ↦ inr (s, inl refl, new.0, numbers_in ns s.1 b new.1)
  ]
]

kept : (ns : Names) (ss : List Saying) (g : Edges) (a b : ℕ) → In b (get_or g a []) → In b (get_or (drawn ns ss g) a [])
kept ns [] g a b m = m
kept ns (s ∷ ss) g a b m = kept ns ss (drawn_one ns s g) a b (one_kept (number_of ns s.0) (numbers ns s.1) g a b m)

edge_drawn : (ns : Names) (ss : List Saying) (g : Edges) (a b : ℕ) (s : Saying) → In s ss → length ns ≤ length g → number_of ns s.0 ≡ Some a → In b (numbers ns s.1) → In b (get_or (drawn ns ss g) a [])
edge_drawn ns [] g a b s m le e h = absurd m
edge_drawn ns (t ∷ ss) g a b s m le e h = elim m [
  | inl is ↦ kept ns ss (drawn_one ns t g) a b
      (let a_in : a < length ns = number_within ns s.0 a e in
      subst (λ r. In b (get_or (drawn_one ns r g) a [])) is
      (subst (λ o. In b (get_or (drawn_at o (numbers ns s.1) g) a [])) (sym e) (one_drawn (numbers ns s.1) g a b (omega arith) h)))
  | inr r ↦ edge_drawn ns ss (drawn_one ns t g) a b s r (let size : length (drawn_one ns t g) ≡ length g = one_size (number_of ns t.0) (numbers ns t.1) g in omega arith) e h
]

-- ---- what a text says, it says of names of its items

value_named : (items : List It) (w : List ℕ) (i : It) → is_value w i ≡ true → In i items → (p : Place) × In (p, w) (names_of items)
value_named items w (x.declaration (x.declare p k v ns o)) e m =
    (p, in_flat (names_by items) items (x.declaration (x.declare p k v ns o)) (p, w) m (inl (ap (λ u. (let q : Place × List ℕ = (p, u) in q)) (sym ((bytes_eq-Decides v w).0 e)))))
value_named items w (x.include p v) e m = absurd (let wrong : false ≡ true = e in cc)
value_named items w (x.enumeration p v ns) e m = absurd (let wrong : false ≡ true = e in cc)
value_named items w (x.assignment p v e1) e m = absurd (let wrong : false ≡ true = e in cc)
value_named items w (x.constraint p e1 ns) e m = absurd (let wrong : false ≡ true = e in cc)
value_named items w (x.solve p ns q) e m = absurd (let wrong : false ≡ true = e in cc)
value_named items w (x.output p e1) e m = absurd (let wrong : false ≡ true = e in cc)
value_named items w (x.predicate p v ps e1) e m = absurd (let wrong : false ≡ true = e in cc)
value_named items w (x.function p k v ps e1) e m = absurd (let wrong : false ≡ true = e in cc)

alone : {A : Type 0} (y z : A) → In y (z ∷ []) → y ≡ z
alone y z m = elim m [ inl e ↦ e | inr none ↦ absurd none ]

named_at : (items : List It) (i : It) (p : Place) (w : List ℕ) (s : Saying) → In i items → In (p, w) (names_by items i) → s.0 ≡ w → (q : Place) × In (q, s.0) (names_of items)
named_at items i p w s m h e = (p, in_flat (names_by items) items i (p, s.0) m (subst (λ u. In (p, u) (names_by items i)) (sym e) h))

says_named : (items : List It) (i : It) (s : Saying) → In i items → In s (says items i) → (q : Place) × In (q, s.0) (names_of items)
says_named items (x.declaration (x.declare p k w ns o)) s m h = named_at items (x.declaration (x.declare p k w ns o)) p w s m (inl refl) (ap (λ t. t.0) (alone s _ h))
says_named items (x.include p w) s m h = absurd h
says_named items (x.enumeration p w ns) s m h = absurd h
says_named items (x.assignment p w e) s m h = go (list_any (is_value w) items) refl h where
  go : (b : Bool) → list_any (is_value w) items ≡ b → In s (if b then (w, uses [] e) ∷ [] else []) → (q : Place) × In (q, s.0) (names_of items)
  go true any h = let i = any_in (is_value w) items any in let n = value_named items w i.0 i.2 i.1 in (n.0, subst (λ u. In (n.0, u) (names_of items)) (sym (ap (λ t. t.0) (alone s _ h))) n.1)
  go false any h = absurd h
says_named items (x.constraint p e ns) s m h = absurd h
says_named items (x.solve p ns q) s m h = absurd h
says_named items (x.output p e) s m h = absurd h
says_named items (x.predicate p w ps e) s m h = named_at items (x.predicate p w ps e) p w s m (inl refl) (ap (λ t. t.0) (alone s _ h))
says_named items (x.function p k w ps e) s m h = named_at items (x.function p k w ps e) p w s m (inl refl) (ap (λ t. t.0) (alone s _ h))

saying_number : (items : List It) (s : Saying) → In s (sayings items) → (k : ℕ) × (number_of (names_of items) s.0 ≡ Some k)
saying_number items s m = let r = flat_in (says items) items s m in let n = says_named items r.0 s r.1 r.2 in numbered (names_of items) (n.0, s.0) n.1

restrained_named : (items : List It) (i : It) (n : Place × List ℕ) → In n (restrained i) → In n (names_by items i)
restrained_named items (x.declaration d) n m = m
restrained_named items (x.include p w) n m = absurd m
restrained_named items (x.enumeration p w ns) n m = absurd m
restrained_named items (x.assignment p w e) n m = absurd m
restrained_named items (x.constraint p e ns) n m = absurd m
restrained_named items (x.solve p ns q) n m = absurd m
restrained_named items (x.output p e) n m = absurd m
restrained_named items (x.predicate p w ps e) n m = m
restrained_named items (x.function p k w ps e) n m = go (is_annotation k) m where
  go : (b : Bool) → In n (if b then [] else (p, w) ∷ []) → In n ((p, w) ∷ [])
  go true m = absurd m
  go false m = m

restrained_number : (items : List It) (n : Place × List ℕ) → In n (flat_map restrained items) → (k : ℕ) × (number_of (names_of items) n.1 ≡ Some k)
restrained_number items n m = let r = flat_in restrained items n m in numbered (names_of items) n (in_flat (names_by items) items r.0 n r.1 (restrained_named items r.0 n r.2))

-- ---- dependence is a path

module _ (ns : Names) (ss : List Saying) (g : Edges)
    (draws : (s : Saying) (u : List ℕ) (a b : ℕ) → In s ss → In u s.1 → number_of ns s.0 ≡ Some a → number_of ns u ≡ Some b → HasEdge g a b)
    (drawn_from : (a b : ℕ) → HasEdge g a b → (s : Saying) × In s ss × (number_of ns s.0 ≡ Some a) × ((u : List ℕ) × In u s.1 × (number_of ns u ≡ Some b)))
    (known : (s : Saying) → In s ss → (k : ℕ) × (number_of ns s.0 ≡ Some k)) where
  source : {w u : List ℕ} → DependsOn ss w u → (k : ℕ) × (number_of ns w ≡ Some k)
  source (directly (s, m, e, h)) = let k = known s m in (k.0, ap (number_of ns) (sym e) ∙ k.1)
  source (through (s, m, e, h) r) = let k = known s m in (k.0, ap (number_of ns) (sym e) ∙ k.1)

  pub leads : {w u : List ℕ} (a b : ℕ) → DependsOn ss w u → number_of ns w ≡ Some a → number_of ns u ≡ Some b → Leads g a b
  leads a b (directly (s, m, e, h)) f t = edge (draws s _ a b m h (ap (number_of ns) e ∙ f) t)
  leads a b (through (s, m, e, h) r) f t = let k = source r in onward (draws s _ a k.0 m h (ap (number_of ns) e ∙ f) k.1) (leads k.0 b r k.1 t)

  pub depends : {a b : ℕ} → Leads g a b → (w u : List ℕ) → number_of ns w ≡ Some a → number_of ns u ≡ Some b → DependsOn ss w u
  depends {a = a} {b = b} (edge e) w u f t =
      let d = drawn_from a b e in
      directly (d.0, d.1, one_name ns d.0.0 w a d.2 f, subst (λ v. In v d.0.1) (one_name ns d.3.0 u b d.3.2 t) d.3.1)
  depends {a = a} (onward {b = c} e r) w u f t =
      let d = drawn_from a c e in
      through (d.0, d.1, one_name ns d.0.0 w a d.2 f, d.3.1) (depends r d.3.0 u d.3.2 t)

-- ---- marks

abbrev Found : List Saying → Names → Place → Type 0
Found ss cs p = (before : Names) × (name : List ℕ) × (behind : Names) × (cs ≡ before ++ (p, name) ∷ behind) × DependsOn ss name name × ((n : Place × List ℕ) → In n before → DependsOn ss n.1 n.1 → ⊥)

abbrev Told : List Saying → Names → Option Place → Type 0
Told ss cs None = (n : Place × List ℕ) → In n cs → DependsOn ss n.1 n.1 → ⊥
Told ss cs (Some p) = Found ss cs p

told : (ns : Names) (ss : List Saying) (marks : List Bool) → (cs : Names)
    → ((n : Place × List ℕ) → In n cs → (marked (number_of ns n.1) marks ≡ true) ↔ DependsOn ss n.1 n.1)
    → Told ss cs (first_marked ns marks cs)
told ns ss marks [] h = λ n m. absurd m
told ns ss marks (c ∷ cs) h = go (marked (number_of ns c.1) marks) refl (first_marked ns marks cs) (told ns ss marks cs (λ n m. h n (inr m))) where
  go : (b : Bool) → marked (number_of ns c.1) marks ≡ b → (o : Option Place) → Told ss cs o → Told ss (c ∷ cs) (if b then Some c.0 else o)
  go true e o t = ([], c.1, cs, refl, (h c (inl refl)).0 e, λ n m. absurd m)
  go false e None t = λ n m d. elim m [
    | inl is ↦ (let wrong : true ≡ false = sym ((h c (inl refl)).1 (subst (λ k. DependsOn ss k.1 k.1) is d)) ∙ e in cc)
    | inr r ↦ t n r d
  ]
  go false e (Some p) t = (
    c ∷ t.0,
    t.1,
    t.2,
    ap (λ l. c ∷ l) t.3,
    t.4,
    λ n m d. elim m [
      | inl is ↦ (let wrong : true ≡ false = sym ((h c (inl refl)).1 (subst (λ k. DependsOn ss k.1 k.1) is d)) ∙ e in cc)
      | inr r ↦ t.5 n r d
    ],
  )

-- ---- a text

same_says : (items : List It) (values : Names) → AreValues items values → (i : It) → says items i ≡ says_with values i
same_says items values h (x.include p w) = refl
same_says items values h (x.declaration d) = refl
same_says items values h (x.enumeration p w ns) = refl
same_says items values h (x.assignment p w e) = ap (λ b. if b then (w, uses [] e) ∷ [] else []) (sym (h w))
same_says items values h (x.constraint p e ns) = refl
same_says items values h (x.solve p ns g) = refl
same_says items values h (x.output p e) = refl
same_says items values h (x.predicate p w ps e) = refl
same_says items values h (x.function p k w ps e) = refl

same_sayings : (items : List It) (values : Names) → AreValues items values → (is : List It) → flat_map (says items) is ≡ flat_map (says_with values) is
same_sayings items values h [] = refl
same_sayings items values h (i ∷ is) = ap (λ s. s ++ flat_map (says items) is) (same_says items values h i) ∙ ap (λ s. says_with values i ++ s) (same_sayings items values h is)

none_yet : (n a b : ℕ) → In b (get_or (replicate n []) a []) → ⊥
none_yet n a b m = elim (cases_lt a n) [
  | inl a_in ↦ subst (In b) (get_or-replicate n a [] [] a_in) m
  | inr past ↦ subst (In b) (get_or_past (replicate n []) a [] (let e : length (replicate {A = List ℕ} n []) ≡ n = length-replicate n [] in omega arith)) m
]

module _ (items : List It) (g : Edges) (is_g : g ≡ drawn (names_of items) (sayings items) (replicate (length (names_of items)) [])) where
  size : length g ≡ length (names_of items)
  size = ap length is_g ∙ drawn_size (names_of items) (sayings items) (replicate (length (names_of items)) []) ∙ length-replicate (length (names_of items)) []

  from_edge : (a b : ℕ) → HasEdge g a b → Drawn (names_of items) (sayings items) a b
  from_edge a b (k, e) = elim (drawn_edge (names_of items) (sayings items) (replicate (length (names_of items)) []) a b (subst (λ h. In b (get_or h a [])) is_g (in_get (get_or g a []) k b e))) [
    | inl none ↦ absurd (none_yet (length (names_of items)) a b none)
    | inr d ↦ d
  ]

  pub lead_to_nodes : LeadToNodes g
  lead_to_nodes a b e = let d = from_edge a b e in subst (λ n. b < n) (sym size) (number_within (names_of items) d.3.0 b d.3.2)

  draws : (s : Saying) (u : List ℕ) (a b : ℕ) → In s (sayings items) → In u s.1 → number_of (names_of items) s.0 ≡ Some a → number_of (names_of items) u ≡ Some b → HasEdge g a b
  draws s u a b m h e f =
      let le : length (names_of items) ≤ length (replicate {A = List ℕ} (length (names_of items)) []) = (let r : length (replicate {A = List ℕ} (length (names_of items)) []) ≡ length (names_of items) = length-replicate (length (names_of items)) [] in omega arith) in
      let i = edge_drawn (names_of items) (sayings items) (replicate (length (names_of items)) []) a b s m le e (in_numbers (names_of items) s.1 u b h f) in
      get_in (get_or g a []) b (subst (λ h. In b (get_or h a [])) (sym is_g) i)

  -- the first name that is marked is the first one that depends on itself
  pub told_cycle : (marks : List Bool) → TellsCycles g marks → TellsCycle items (first_marked (names_of items) marks (flat_map restrained items))
  told_cycle marks t = go (first_marked (names_of items) marks (flat_map restrained items)) (told (names_of items) (sayings items) marks (flat_map restrained items) exact) where
    exact : (n : Place × List ℕ) → In n (flat_map restrained items) → (marked (number_of (names_of items) n.1) marks ≡ true) ↔ DependsOn (sayings items) n.1 n.1
    exact n m =
        let k = restrained_number items n m in
        let k_in : k.0 < length g = subst (λ z. k.0 < z) (sym size) (number_within (names_of items) n.1 k.0 k.1) in
        let tells = t.1 k.0 k_in in
        subst (λ o. (marked o marks ≡ true) ↔ DependsOn (sayings items) n.1 n.1) (sym k.1) (
          λ on. depends (names_of items) (sayings items) g draws from_edge (saying_number items) (tells.0 on) n.1 n.1 k.1 k.1,
          λ d. tells.1 (leads (names_of items) (sayings items) g draws from_edge (saying_number items) k.0 k.0 d k.1 k.1),
        )

    go : (o : Option Place) → Told (sayings items) (flat_map restrained items) o → TellsCycle items o
    go None h = h
    go (Some p) h = record { before = h.0; name = h.1; behind = h.2; names = h.3; cyclic = h.4; none_before = h.5 }

-- ---- part by part

pub drawn_append : (ns : Names) (a b : List Saying) (g : Edges) → drawn ns (a ++ b) g ≡ drawn ns b (drawn ns a g)
drawn_append ns [] b g = refl
drawn_append ns (s ∷ a) b g = drawn_append ns a b (drawn_one ns s g)

pub marked_append : (ns : Names) (marks : List Bool) (a b : Names) → first_marked ns marks (a ++ b) ≡ option_or (first_marked ns marks a) (first_marked ns marks b)
marked_append ns marks [] b = refl
marked_append ns marks (n ∷ a) b = go (marked (number_of ns n.1) marks) (marked_append ns marks a b) where
  go : (t : Bool) → first_marked ns marks (a ++ b) ≡ option_or (first_marked ns marks a) (first_marked ns marks b)
      → (if t then Some n.0 else first_marked ns marks (a ++ b)) ≡ option_or (if t then Some n.0 else first_marked ns marks a) (first_marked ns marks b)
  go true h = refl
  go false h = h

-- the graph that is drawn item by item
pub whole_graph : (items : List It) (values : Names) → AreValues items values → (g : Edges) (n : ℕ) → n ≡ length (names_of items)
    → (ns : Names) → ns ≡ names_of items → g ≡ drawn ns (flat_map (says_with values) items) (replicate n [])
    → g ≡ drawn (names_of items) (sayings items) (replicate (length (names_of items)) [])
whole_graph items values h g n e ns is d =
    d ∙ ap (λ m. drawn m (flat_map (says_with values) items) (replicate n [])) is
    ∙ ap (λ ss. drawn (names_of items) ss (replicate n [])) (sym (same_sayings items values h items))
    ∙ ap (λ k. drawn (names_of items) (sayings items) (replicate k [])) e

pub several : (is : List Index) → 1 ≤ length is → false ≡ is_single (indices_of (map index_view is))
several [] some = absurd (omega arith)
several (i ∷ is) some = refl

pub marked_step : (ns : Names) (marks : List Bool) (items : List Item) (i : ℕ) (item : Item) → i < length items → item ≡ get_or items i item
    → first_marked ns marks (flat_map restrained (map item_view (drop i items)))
    ≡ option_or (first_marked ns marks (restrained (item_view item))) (first_marked ns marks (flat_map restrained (map item_view (drop (i + 1) items))))
marked_step ns marks items i item i_in e =
    ap (λ is. first_marked ns marks (flat_map restrained (map item_view is))) (drop_more items i item i_in ∙ ap (λ z. z ∷ drop (i + 1) items) (sym e))
    ∙ marked_append ns marks (restrained (item_view item)) (flat_map restrained (map item_view (drop (i + 1) items)))
