-- The graph of what names use has an edge for each use, and no other.
use Rattle.std.proofs.Common.{◌≡◌, ℕ, ◌<◌, ◌≤◌, List, [], ◌∷◌, ◌++◌, length, get_or, set, map, replicate, Bool, true, false, Option, Some, None, ◌⊎◌, inl, inr, refl, sym, ap, subst, ◌∙◌, arith}
use Rattle.std.specs.Prelude.{if◌then◌else◌, ◌||◌}
use Rattle.std.specs.Option.{option_to_list}
use Rattle.std.specs.List.{flat_map, list_any}
use Rattle.std.specs.Str.{bytes_eq}
use Rattle.std.proofs.lemmas.Bool.{cases_eq, cases_lt}
use Rattle.std.proofs.lemmas.List.{length-set, get_or-set_same, get_or-set_other, get_or_past, get_or-replicate, length-replicate, get_or-map, map-set}
use Rattle.std.proofs.lemmas.Slice.Eq.{bytes_eq-Decides}
use Rattle.ms_syntax.specs.Tree as x
use Rattle.ms_syntax.specs.Tree.{It}
use Rattle.ms_graph.specs.Graph.{Edges, HasEdge, LeadToNodes}
use Rattle.ms_free_names.specs.Uses.{Words, uses}
use Rattle.ms_declarations.specs.Depends as dep
use Rattle.ms_declarations.specs.Depends.{Saying, is_value, says, sayings}
use Rattle.ms_postorder.specs.Postorder.{In}
use Rattle.ms_postorder.proofs.SharedMembers.{edge_in, in_cases, in_edge, in_left, in_right}
use Rattle.ms_order.specs.Order.{IsValue, declared, number_in}
use Rattle.ms_order.specs.Drawing.{drawn, drawn_at, drawn_one, flag_at, flag_by, flag_of, flagged, flags_by, numbers, says_by, words_by}
use Rattle.ms_order.specs.Finding.{IsFlag}
use Rattle.ms_order.proofs.Words.{Test, declared_rest, number_within, numbered, one_name, other, same, same_some, test}

pub drawn_append : (ns : Words) (a b : List Saying) (g : Edges) → drawn ns (a ++ b) g ≡ drawn ns b (drawn ns a g)
drawn_append ns [] b g = refl
drawn_append ns (s ∷ a) b g = drawn_append ns a b (drawn_one ns s g)

-- ---- members of lists

in_first : {A : Type 0} (xs ys : List A) (y : A) → dep.In y xs → dep.In y (xs ++ ys)
in_first [] ys y m = absurd m
in_first (z ∷ xs) ys y m = elim m [ inl e ↦ inl e | inr r ↦ inr (in_first xs ys y r) ]

in_second : {A : Type 0} (xs ys : List A) (y : A) → dep.In y ys → dep.In y (xs ++ ys)
in_second [] ys y m = m
in_second (z ∷ xs) ys y m = inr (in_second xs ys y m)

in_either : {A : Type 0} (xs ys : List A) (y : A) → dep.In y (xs ++ ys) → dep.In y xs ⊎ dep.In y ys
in_either [] ys y m = inr m
in_either (z ∷ xs) ys y m = elim m [ inl e ↦ inl (inl e) | inr r ↦ elim (in_either xs ys y r) [ inl a ↦ inl (inr a) | inr b ↦ inr b ] ]

pub in_flat : {A B : Type 0} (f : A → List B) (is : List A) (i : A) (y : B) → dep.In i is → dep.In y (f i) → dep.In y (flat_map f is)
in_flat f [] i y m h = absurd m
in_flat f (j ∷ is) i y m h = elim m [
  | inl e ↦ in_first (f j) (flat_map f is) y (subst (λ k. dep.In y (f k)) e h)
  | inr r ↦ in_second (f j) (flat_map f is) y (in_flat f is i y r h)
]

flat_in : {A B : Type 0} (f : A → List B) (is : List A) (y : B) → dep.In y (flat_map f is) → (i : A) × dep.In i is × dep.In y (f i)
flat_in f [] y m = absurd m
flat_in f (j ∷ is) y m = elim (in_either (f j) (flat_map f is) y m) [
  | inl a ↦ (j, inl refl, a)
  | inr b ↦ (let r = flat_in f is y b in (r.0, inr r.1, r.2))
]

pub any_in : {A : Type 0} (p : A → Bool) (is : List A) → list_any p is ≡ true → (i : A) × dep.In i is × (p i ≡ true)
any_in p [] e = absurd (let wrong : false ≡ true = e in cc)
any_in p (i ∷ is) e = go (λ h. any_in p is h) (p i) refl e where
  go : (list_any p is ≡ true → (j : _) × dep.In j is × (p j ≡ true)) → (b : Bool) → p i ≡ b → (b || list_any p is) ≡ true → (j : _) × dep.In j (i ∷ is) × (p j ≡ true)
  go rest true h e = (i, inl refl, h)
  go rest false h e = let r = rest e in (r.0, inr r.1, r.2)

-- ---- declared names have numbers

word_in : (items : List It) (i : It) (w : List ℕ) → dep.In i items → dep.In w (words_by i) → dep.In w (declared items)
word_in [] i w m h = absurd m
word_in (j ∷ items) i w m h = subst (dep.In w) (sym (declared_rest j items)) (elim m [
  | inl e ↦ in_first (words_by j) (declared items) w (subst (λ k. dep.In w (words_by k)) e h)
  | inr r ↦ in_second (words_by j) (declared items) w (word_in items i w r h)
])

value_word : (i : It) (w : List ℕ) → is_value w i ≡ true → dep.In w (words_by i)
value_word (x.declaration (x.declare p k v ns o)) w e = inl (sym ((bytes_eq-Decides v w).0 e))
value_word (x.include p v) w e = absurd (let wrong : false ≡ true = e in cc)
value_word (x.enumeration p v ns) w e = absurd (let wrong : false ≡ true = e in cc)
value_word (x.assignment p v e1) w e = absurd (let wrong : false ≡ true = e in cc)
value_word (x.constraint p e1 ns) w e = absurd (let wrong : false ≡ true = e in cc)
value_word (x.solve p ns q) w e = absurd (let wrong : false ≡ true = e in cc)
value_word (x.output p e1) w e = absurd (let wrong : false ≡ true = e in cc)
value_word (x.predicate p v ps e1) w e = absurd (let wrong : false ≡ true = e in cc)
value_word (x.function p k v ps e1) w e = absurd (let wrong : false ≡ true = e in cc)

pub value_number : (items : List It) (w : List ℕ) → IsValue items w → (k : ℕ) × (number_in (declared items) w ≡ Some k)
value_number items w v =
    let i = any_in (is_value w) items v in
    numbered (declared items) w (word_in items i.0 w i.1 (value_word i.0 w i.2))

alone : {A : Type 0} (y z : A) → dep.In y (z ∷ []) → y ≡ z
alone y z m = elim m [ inl e ↦ e | inr none ↦ absurd none ]

says_word : (items : List It) (i : It) (s : Saying) → dep.In i items → dep.In s (says items i) → dep.In s.0 (declared items)
says_word items (x.declaration (x.declare p k w ns o)) s m h =
    word_in items (x.declaration (x.declare p k w ns o)) s.0 m (inl (ap (λ t. t.0) (alone s _ h)))
says_word items (x.include p w) s m h = absurd h
says_word items (x.enumeration p w ns) s m h = absurd h
says_word items (x.assignment p w e) s m h = go (list_any (is_value w) items) refl h where
  go : (b : Bool) → list_any (is_value w) items ≡ b → dep.In s (if b then (w, uses [] e) ∷ [] else []) → dep.In s.0 (declared items)
  go true any h =
      let i = any_in (is_value w) items any in
      subst (λ u. dep.In u (declared items)) (sym (ap (λ t. t.0) (alone s _ h))) (word_in items i.0 w i.1 (value_word i.0 w i.2))
  go false any h = absurd h
says_word items (x.constraint p e ns) s m h = absurd h
says_word items (x.solve p ns q) s m h = absurd h
says_word items (x.output p e) s m h = absurd h
says_word items (x.predicate p w ps e) s m h = word_in items (x.predicate p w ps e) s.0 m (inl (ap (λ t. t.0) (alone s _ h)))
says_word items (x.function p k w ps e) s m h = word_in items (x.function p k w ps e) s.0 m (inl (ap (λ t. t.0) (alone s _ h)))

pub saying_number : (items : List It) (s : Saying) → dep.In s (sayings items) → (k : ℕ) × (number_in (declared items) s.0 ≡ Some k)
saying_number items s m = let r = flat_in (says items) items s m in numbered (declared items) s.0 (says_word items r.0 s r.1 r.2)

-- ---- flags

flag_size : (o : Option ℕ) (flags : List Bool) → length (flag_at o flags) ≡ length flags
flag_size None flags = refl
flag_size (Some k) flags = length-set flags k true

flag_one : (ns : Words) (v w : List ℕ) (flags : List Bool) → length ns ≤ length flags → ((k : ℕ) × (number_in ns v ≡ Some k))
    → flagged ns (flag_at (number_in ns v) flags) w ≡ (flagged ns flags w || bytes_eq v w)
flag_one ns v w flags size (k, e) = ap (λ o. flagged ns (flag_at o flags) w) e ∙ go (number_in ns w) refl (bytes_eq v w) (test v w) where
  k_in : k < length flags
  k_in = let l : k < length ns = number_within ns v k e in omega arith

  or_true : (b : Bool) → (b || true) ≡ true
  or_true true = refl
  or_true false = refl

  or_false : (b : Bool) → (b || false) ≡ b
  or_false true = refl
  or_false false = refl

  go : (o : Option ℕ) → number_in ns w ≡ o → (b : Bool) → Test v w b → flag_of o (set flags k true) ≡ (flag_of o flags || b)
  go None f true (same p) = absurd (let wrong : Some k ≡ None = sym e ∙ ap (number_in ns) p ∙ f in cc)
  go None f false t = refl
  go (Some j) f true (same p) =
      let is : k ≡ j = same_some (sym e ∙ ap (number_in ns) p ∙ f) in
      subst (λ i. get_or (set flags k true) i false ≡ true) is (get_or-set_same flags k true false k_in) ∙ sym (or_true (get_or flags j false))
  go (Some j) f false (other apart) = elim (cases_eq j k) [
    | inl is ↦ absurd (apart (one_name ns v w k e (f ∙ ap (λ i. Some i) is)))
    | inr differ ↦ get_or-set_other flags k j true false differ ∙ sym (or_false (get_or flags j false))
  ]

none_more : (b : Bool) → b ≡ (b || false)
none_more true = refl
none_more false = refl

flag_item : (ns : Words) (i : It) (w : List ℕ) (flags : List Bool) → length ns ≤ length flags → ((v : List ℕ) → is_value v i ≡ true → (k : ℕ) × (number_in ns v ≡ Some k))
    → flagged ns (flag_by ns i flags) w ≡ (flagged ns flags w || is_value w i)
flag_item ns (x.declaration (x.declare p k v es o)) w flags size h = flag_one ns v w flags size (h v ((bytes_eq-Decides v v).1 refl))
flag_item ns (x.include p v) w flags size h = none_more (flagged ns flags w)
flag_item ns (x.enumeration p v es) w flags size h = none_more (flagged ns flags w)
flag_item ns (x.assignment p v e1) w flags size h = none_more (flagged ns flags w)
flag_item ns (x.constraint p e1 es) w flags size h = none_more (flagged ns flags w)
flag_item ns (x.solve p es q) w flags size h = none_more (flagged ns flags w)
flag_item ns (x.output p e1) w flags size h = none_more (flagged ns flags w)
flag_item ns (x.predicate p v ps e1) w flags size h = none_more (flagged ns flags w)
flag_item ns (x.function p k v ps e1) w flags size h = none_more (flagged ns flags w)

item_size : (ns : Words) (i : It) (flags : List Bool) → length (flag_by ns i flags) ≡ length flags
item_size ns (x.declaration (x.declare p k v es o)) flags = flag_size (number_in ns v) flags
item_size ns (x.include p v) flags = refl
item_size ns (x.enumeration p v es) flags = refl
item_size ns (x.assignment p v e1) flags = refl
item_size ns (x.constraint p e1 es) flags = refl
item_size ns (x.solve p es q) flags = refl
item_size ns (x.output p e1) flags = refl
item_size ns (x.predicate p v ps e1) flags = refl
item_size ns (x.function p k v ps e1) flags = refl

pub flags_size : (ns : Words) (is : List It) (flags : List Bool) → length (flags_by ns is flags) ≡ length flags
flags_size ns [] flags = refl
flags_size ns (i ∷ is) flags = flags_size ns is (flag_by ns i flags) ∙ item_size ns i flags

or_assoc : (a b d : Bool) → ((a || b) || d) ≡ (a || (b || d))
or_assoc true b d = refl
or_assoc false b d = refl

flags_tell : (ns : Words) (is : List It) (w : List ℕ) (flags : List Bool) → length ns ≤ length flags
    → ((i : It) → dep.In i is → (v : List ℕ) → is_value v i ≡ true → (k : ℕ) × (number_in ns v ≡ Some k))
    → flagged ns (flags_by ns is flags) w ≡ (flagged ns flags w || list_any (is_value w) is)
flags_tell ns [] w flags size h = none_more (flagged ns flags w)
flags_tell ns (i ∷ is) w flags size h =
    let size_more : length ns ≤ length (flag_by ns i flags) = (let e = item_size ns i flags in omega (arith, e)) in
    flags_tell ns is w (flag_by ns i flags) size_more (λ j m. h j (inr m))
    ∙ ap (λ b. b || list_any (is_value w) is) (flag_item ns i w flags size (h i (inl refl)))
    ∙ or_assoc (flagged ns flags w) (is_value w i) (list_any (is_value w) is)

no_flags : (o : Option ℕ) (n : ℕ) → flag_of o (replicate n false) ≡ false
no_flags None n = refl
no_flags (Some k) n = unset n k where
  unset : (n k : ℕ) → get_or (replicate n false) k false ≡ false
  unset n k = elim (cases_lt k n) [
    | inl k_in ↦ get_or-replicate n k false false k_in
    | inr past ↦ get_or_past (replicate n false) k false (let e : length (replicate n false) ≡ n = length-replicate n false in omega arith)
  ]

-- the flags of a text
abbrev pub flags_of : List It → List Bool
flags_of items = flags_by (declared items) items (replicate (length (declared items)) false)

pub flagged_value : (items : List It) (w : List ℕ) → flagged (declared items) (flags_of items) w ≡ list_any (is_value w) items
flagged_value items w =
    let n = length (declared items) in
    let size : n ≤ length (replicate n false) = (let e : length (replicate n false) ≡ n = length-replicate n false in omega arith) in
    flags_tell (declared items) items w (replicate n false) size (λ i m v e. numbered (declared items) v (word_in items i v m (value_word i v e)))
    ∙ ap (λ b. b || list_any (is_value w) items) (no_flags (number_in (declared items) w) n)

-- a flagged number is that of a variable or parameter
flag_from : (o : Option ℕ) (flags : List Bool) (a : ℕ) → IsFlag (flag_at o flags) a → IsFlag flags a ⊎ (o ≡ Some a)
flag_from None flags a f = inl f
flag_from (Some k) flags a f = elim (cases_eq a k) [
  | inl is ↦ inr (ap (λ i. Some i) (sym is))
  | inr differ ↦ inl (sym (get_or-set_other flags k a true false differ) ∙ f)
]

abbrev Named : Words → List It → ℕ → Type 0
Named ns is a = (w : List ℕ) × (number_in ns w ≡ Some a) × ((i : It) × dep.In i is × (is_value w i ≡ true))

item_flags : (ns : Words) (i : It) (flags : List Bool) (a : ℕ) → IsFlag (flag_by ns i flags) a → IsFlag flags a ⊎ ((w : List ℕ) × (number_in ns w ≡ Some a) × (is_value w i ≡ true))
item_flags ns (x.declaration (x.declare p k v es o)) flags a f = elim (flag_from (number_in ns v) flags a f) [
  | inl h ↦ inl h
  | inr e ↦ inr (v, e, (bytes_eq-Decides v v).1 refl)
]
item_flags ns (x.include p v) flags a f = inl f
item_flags ns (x.enumeration p v es) flags a f = inl f
item_flags ns (x.assignment p v e1) flags a f = inl f
item_flags ns (x.constraint p e1 es) flags a f = inl f
item_flags ns (x.solve p es q) flags a f = inl f
item_flags ns (x.output p e1) flags a f = inl f
item_flags ns (x.predicate p v ps e1) flags a f = inl f
item_flags ns (x.function p k v ps e1) flags a f = inl f

flags_from : (ns : Words) (is : List It) (flags : List Bool) (a : ℕ) → IsFlag (flags_by ns is flags) a → IsFlag flags a ⊎ Named ns is a
flags_from ns [] flags a f = inl f
flags_from ns (i ∷ is) flags a f = elim (flags_from ns is (flag_by ns i flags) a f) [
  | inr n ↦ inr (n.0, n.1, (n.2.0, inr n.2.1, n.2.2))
  | inl g ↦ elim (item_flags ns i flags a g) [
    | inl h ↦ inl h
    | inr n ↦ inr (n.0, n.1, (i, inl refl, n.2))
  ]
]

in_any : {A : Type 0} (p : A → Bool) (is : List A) (i : A) → dep.In i is → p i ≡ true → list_any p is ≡ true
in_any p [] i m e = absurd m
in_any p (j ∷ is) i m e = elim m [
  | inl is_j ↦ ap (λ b. b || list_any p is) (ap p (sym is_j) ∙ e)
  | inr r ↦ ap (λ b. p j || b) (in_any p is i r e) ∙ last (p j)
] where
  last : (b : Bool) → (b || true) ≡ true
  last true = refl
  last false = refl

pub flag_value : (items : List It) (a : ℕ) → IsFlag (flags_of items) a → (w : List ℕ) × (number_in (declared items) w ≡ Some a) × IsValue items w
flag_value items a f = elim (flags_from (declared items) items (replicate (length (declared items)) false) a f) [
  | inl h ↦ absurd (let wrong : false ≡ true = sym (no_flags (Some a) (length (declared items))) ∙ h in cc)
  | inr n ↦ (n.0, n.1, in_any (is_value n.0) items n.2.0 n.2.1 n.2.2)
]

pub value_flag : (items : List It) (w : List ℕ) (a : ℕ) → number_in (declared items) w ≡ Some a → IsValue items w → IsFlag (flags_of items) a
value_flag items w a e v = ap (λ o. flag_of o (flags_of items)) (sym e) ∙ flagged_value items w ∙ v

same_says : (items : List It) (i : It) → says_by (declared items) (flags_of items) i ≡ says items i
same_says items (x.include p w) = refl
same_says items (x.declaration d) = refl
same_says items (x.enumeration p w ns) = refl
same_says items (x.assignment p w e) = ap (λ b. if b then (w, uses [] e) ∷ [] else []) (flagged_value items w)
same_says items (x.constraint p e ns) = refl
same_says items (x.solve p ns g) = refl
same_says items (x.output p e) = refl
same_says items (x.predicate p w ps e) = refl
same_says items (x.function p k w ps e) = refl

same_all : (items is : List It) → flat_map (says_by (declared items) (flags_of items)) is ≡ flat_map (says items) is
same_all items [] = refl
same_all items (i ∷ is) = ap (λ s. s ++ flat_map (says_by (declared items) (flags_of items)) is) (same_says items i) ∙ ap (λ s. says items i ++ s) (same_all items is)

pub same_sayings : (items : List It) → flat_map (says_by (declared items) (flags_of items)) items ≡ sayings items
same_sayings items = same_all items items

-- ---- drawn edges

numbers_in : (ns : Words) (ws : Words) (b : ℕ) → In b (numbers ns ws) → (u : List ℕ) × dep.In u ws × (number_in ns u ≡ Some b)
numbers_in ns [] b m = absurd m
numbers_in ns (w ∷ ws) b m = go (number_in ns w) refl (elim (in_cases (option_to_list (number_in ns w)) (numbers ns ws) b m) [ inl a ↦ inl a | inr r ↦ inr (numbers_in ns ws b r) ]) where
  go : (o : Option ℕ) → number_in ns w ≡ o → In b (option_to_list o) ⊎ ((u : List ℕ) × dep.In u ws × (number_in ns u ≡ Some b)) → (u : List ℕ) × dep.In u (w ∷ ws) × (number_in ns u ≡ Some b)
  go None e h = elim h [ inl a ↦ absurd a | inr r ↦ (r.0, inr r.1, r.2) ]
  go (Some k) e h = elim h [ inl a ↦ elim a [ inl is ↦ (w, inl refl, e ∙ ap (λ j. Some j) (sym is)) | inr none ↦ absurd none ] | inr r ↦ (r.0, inr r.1, r.2) ]

in_numbers : (ns : Words) (ws : Words) (u : List ℕ) (b : ℕ) → dep.In u ws → number_in ns u ≡ Some b → In b (numbers ns ws)
in_numbers ns [] u b m e = absurd m
in_numbers ns (w ∷ ws) u b m e = elim m [
  | inl is ↦ in_left (option_to_list (number_in ns w)) (numbers ns ws) b (subst (λ o. In b (option_to_list o)) (sym (ap (number_in ns) (sym is) ∙ e)) (inl refl))
  | inr r ↦ in_right (option_to_list (number_in ns w)) (numbers ns ws) b (in_numbers ns ws u b r e)
]

one_edge : (o : Option ℕ) (to : List ℕ) (g : Edges) (a b : ℕ) → In b (get_or (drawn_at o to g) a []) → In b (get_or g a []) ⊎ ((o ≡ Some a) × In b to)
one_edge None to g a b m = inl m
one_edge (Some k) to g a b m = elim (cases_eq a k) [
  | inr apart ↦ inl (subst (In b) (get_or-set_other g k a (get_or g k [] ++ to) [] apart) m)
  | inl is ↦ elim (cases_lt k (length g)) [
    | inl k_in ↦ (let read : get_or (set g k (get_or g k [] ++ to)) a [] ≡ get_or g k [] ++ to = ap (λ i. get_or (set g k (get_or g k [] ++ to)) i []) is ∙ get_or-set_same g k (get_or g k [] ++ to) [] k_in in
        elim (in_cases (get_or g k []) to b (subst (In b) read m)) [
          | inl old ↦ inl (subst (λ i. In b (get_or g i [])) (sym is) old)
          | inr new ↦ inr (ap (λ i. Some i) (sym is), new)
        ])
    | inr past ↦ absurd (subst (In b) (get_or_past (set g k (get_or g k [] ++ to)) a [] (let e : length (set g k (get_or g k [] ++ to)) ≡ length g = length-set g k (get_or g k [] ++ to) in omega arith)) m)
  ]
]

one_kept : (o : Option ℕ) (to : List ℕ) (g : Edges) (a b : ℕ) → In b (get_or g a []) → In b (get_or (drawn_at o to g) a [])
one_kept None to g a b m = m
one_kept (Some k) to g a b m = elim (cases_eq a k) [
  | inr apart ↦ subst (In b) (sym (get_or-set_other g k a (get_or g k [] ++ to) [] apart)) m
  | inl is ↦ elim (cases_lt k (length g)) [
    | inl k_in ↦ (let read : get_or (set g k (get_or g k [] ++ to)) a [] ≡ get_or g k [] ++ to = ap (λ i. get_or (set g k (get_or g k [] ++ to)) i []) is ∙ get_or-set_same g k (get_or g k [] ++ to) [] k_in in
        subst (In b) (sym read) (in_left (get_or g k []) to b (subst (λ i. In b (get_or g i [])) is m)))
    | inr past ↦ absurd (subst (In b) (get_or_past g a [] (omega arith)) m)
  ]
]

one_drawn : (to : List ℕ) (g : Edges) (a b : ℕ) → a < length g → In b to → In b (get_or (drawn_at (Some a) to g) a [])
one_drawn to g a b a_in m = subst (In b) (sym (get_or-set_same g a (get_or g a [] ++ to) [] a_in)) (in_right (get_or g a []) to b m)

one_size : (o : Option ℕ) (to : List ℕ) (g : Edges) → length (drawn_at o to g) ≡ length g
one_size None to g = refl
one_size (Some k) to g = length-set g k (get_or g k [] ++ to)

pub drawn_size : (ns : Words) (ss : List Saying) (g : Edges) → length (drawn ns ss g) ≡ length g
drawn_size ns [] g = refl
drawn_size ns (s ∷ ss) g = drawn_size ns ss (drawn_one ns s g) ∙ one_size (number_in ns s.0) (numbers ns s.1) g

abbrev pub Drawn : Words → List Saying → ℕ → ℕ → Type 0
Drawn ns ss a b = (s : Saying) × dep.In s ss × (number_in ns s.0 ≡ Some a) × ((u : List ℕ) × dep.In u s.1 × (number_in ns u ≡ Some b))

drawn_edge : (ns : Words) (ss : List Saying) (g : Edges) (a b : ℕ) → In b (get_or (drawn ns ss g) a []) → In b (get_or g a []) ⊎ Drawn ns ss a b
drawn_edge ns [] g a b m = inl m
drawn_edge ns (s ∷ ss) g a b m = elim (drawn_edge ns ss (drawn_one ns s g) a b m) [
  | inr d ↦ inr (d.0, inr d.1, d.2, d.3)
  | inl n ↦ elim (one_edge (number_in ns s.0) (numbers ns s.1) g a b n) [
    | inl old ↦ inl old
    | inr new ↦ inr (s, inl refl, new.0, numbers_in ns s.1 b new.1)
  ]
]

kept : (ns : Words) (ss : List Saying) (g : Edges) (a b : ℕ) → In b (get_or g a []) → In b (get_or (drawn ns ss g) a [])
kept ns [] g a b m = m
kept ns (s ∷ ss) g a b m = kept ns ss (drawn_one ns s g) a b (one_kept (number_in ns s.0) (numbers ns s.1) g a b m)

edge_drawn : (ns : Words) (ss : List Saying) (g : Edges) (a b : ℕ) (s : Saying) → dep.In s ss → length ns ≤ length g → number_in ns s.0 ≡ Some a → In b (numbers ns s.1) → In b (get_or (drawn ns ss g) a [])
edge_drawn ns [] g a b s m le e h = absurd m
edge_drawn ns (t ∷ ss) g a b s m le e h = elim m [
  | inl is ↦ kept ns ss (drawn_one ns t g) a b
      (let a_in : a < length ns = number_within ns s.0 a e in
      subst (λ r. In b (get_or (drawn_one ns r g) a [])) is
      (subst (λ o. In b (get_or (drawn_at o (numbers ns s.1) g) a [])) (sym e) (one_drawn (numbers ns s.1) g a b (omega arith) h)))
  | inr r ↦ edge_drawn ns ss (drawn_one ns t g) a b s r (let size : length (drawn_one ns t g) ≡ length g = one_size (number_in ns t.0) (numbers ns t.1) g in omega arith) e h
]

none_yet : (n a b : ℕ) → In b (get_or (replicate n []) a []) → ⊥
none_yet n a b m = elim (cases_lt a n) [
  | inl a_in ↦ subst (In b) (get_or-replicate n a [] [] a_in) m
  | inr past ↦ subst (In b) (get_or_past (replicate n []) a [] (let e : length (replicate {A = List ℕ} n []) ≡ n = length-replicate n [] in omega arith)) m
]

-- the graph of a text
abbrev pub graph_of : List It → Edges
graph_of items = drawn (declared items) (sayings items) (replicate (length (declared items)) [])

pub graph_size : (items : List It) → length (graph_of items) ≡ length (declared items)
graph_size items = drawn_size (declared items) (sayings items) (replicate (length (declared items)) []) ∙ length-replicate (length (declared items)) []

pub edge_uses : (items : List It) (a b : ℕ) → HasEdge (graph_of items) a b → Drawn (declared items) (sayings items) a b
edge_uses items a b e = elim (drawn_edge (declared items) (sayings items) (replicate (length (declared items)) []) a b (edge_in (graph_of items) a b e)) [
  | inl none ↦ absurd (none_yet (length (declared items)) a b none)
  | inr d ↦ d
]

pub uses_edge : (items : List It) (a b : ℕ) → Drawn (declared items) (sayings items) a b → HasEdge (graph_of items) a b
uses_edge items a b d =
    let n = length (declared items) in
    let le : n ≤ length (replicate {A = List ℕ} n []) = (let r : length (replicate {A = List ℕ} n []) ≡ n = length-replicate n [] in omega arith) in
    in_edge (graph_of items) a b
    (edge_drawn (declared items) (sayings items) (replicate n []) a b d.0 d.1 le d.2 (in_numbers (declared items) d.0.1 d.3.0 b d.3.1 d.3.2))

pub graph_leads : (items : List It) → LeadToNodes (graph_of items)
graph_leads items a b e =
    let d = edge_uses items a b e in
    subst (λ n. b < n) (sym (graph_size items)) (number_within (declared items) d.3.0 b d.3.2)

-- an element of a list is replaced by one that shows more
pub added : {V : Type 0} (f : V → List ℕ) (xs : List V) (i : ℕ) (new x : V) (more : List ℕ) → i < length xs
    → x ≡ get_or xs i x → f new ≡ f x ++ more → map f (set xs i new) ≡ set (map f xs) i (get_or (map f xs) i [] ++ more)
added f xs i new x more i_in is_x grown =
    let read : get_or (map f xs) i [] ≡ f x = get_or-map f xs i x [] i_in ∙ ap f (sym is_x) in
    map-set f xs i new ∙ ap (set (map f xs) i) (grown ∙ ap (λ a. a ++ more) (sym read))
