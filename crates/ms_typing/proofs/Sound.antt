-- What the function on rows asks of the parts is a row of the tables to whose operands they convert.
use Rattle.std.proofs.Common.{◌≡◌, Bool, true, false, ◌&&◌, List, [], ◌∷◌, ◌++◌, Option, Some, None, length, map, refl, subst, ◌⊎◌, inl, inr, option_and_then}
use Rattle.std.specs.Prelude.{if◌then◌else◌}
use Rattle.std.proofs.lemmas.Bool.{and_parts}
use Rattle.ms_syntax.specs.declared.tree.Operator.{Operator}
use Rattle.ms_syntax.specs.declared.tree.Operator.TheVariants as o
use Rattle.ms_syntax.specs.declared.tree.Sign.TheVariants as sign
use Rattle.ms_typing.specs.declared.types.Scalar.{Scalar}
use Rattle.ms_typing.specs.declared.types.Scalar.TheVariants.{Truth, Number, Empty}
use Rattle.ms_typing.specs.declared.types.Shape.{Shape}
use Rattle.ms_typing.specs.declared.types.Shape.TheVariants.{Single, Line, Grid}
use Rattle.ms_typing.specs.declared.types.ExprType.{ExprType}
use Rattle.ms_typing.specs.declared.types.ExprType.TheVariants.{Plain, Text, Set, Search}
use Rattle.ms_built_ins.specs.declared.names.BuiltIn.TheVariants as b
use Rattle.ms_built_ins.specs.BuiltIns.{or_else}
use Rattle.ms_typing.specs.Conversion.{ConvertAll, Converts, plain, text, empty_text, truth_search, none, more, is_element, is_grid, is_line, numbers, shape_of, shaped, truths}
use Rattle.ms_typing.specs.Meaning.{Meaning, Told}
use Rattle.ms_typing.specs.Meaning as m
use Rattle.ms_typing.specs.Term.{Form}
use Rattle.ms_typing.specs.Term as f
use Rattle.ms_typing.specs.Row.{Call, Row, arms, is_array, is_array_type, is_fixed, is_shown}
use Rattle.ms_typing.specs.Row as r
use Rattle.ms_typing.specs.Least.{Kind, a_number, a_truth, access_at, access_plain, access_text, all_known, are_known, array_grid, array_line, at, branches, call, call_built_in, call_told, choose_among, choose_known, choose_variable, comprehend, concat, concat_at, conditions, connect, convert_all, element_asked, elements, elements_at, equate, equate_at, extreme, fixed, follows, generate, generate_over, generate_told, is_repeat, join, join_all, join_some, last_given, last_of, needs, on_incumbent, operand, operate, outputs_at, over_array, row, some_search, stand, stand_told, tested, uniform, of_numbers, of_truths}
use Rattle.ms_typing.proofs.Converting.{all_from}

-- what is given: operands to which the parts convert, and a row with them
pub record Sound (P : List ExprType → ExprType → Type 0) (ts : List ExprType) (x : List ExprType × ExprType) : Type 0 where
  pub convert : ConvertAll ts x.0
  pub is_row : P x.0 x.1

given : {A : Type 0} → (b : Bool) (t u : A) → (if b then Some t else None) ≡ Some u → (b ≡ true) × (t ≡ u)
given true t u e = (refl, cc)
given false t u e = absurd (cc)

pub when : {A : Type 0} → (b : Bool) (p : Option A) (x : A) → (if b then p else None) ≡ Some x → (b ≡ true) × (p ≡ Some x)
when true p x e = (refl, e)
when false p x e = absurd (cc)

either : {A : Type 0} → (b : Bool) (p q : Option A) (x : A) → (if b then p else q) ≡ Some x → ((b ≡ true) × (p ≡ Some x)) ⊎ ((b ≡ false) × (q ≡ Some x))
either true p q x e = inl (refl, e)
either false p q x e = inr (refl, e)

one_of : {A : Type 0} → (p q : Option A) (x : A) → or_else p q ≡ Some x → (p ≡ Some x) ⊎ (q ≡ Some x)
one_of (Some y) q x e = inl e
one_of None q x e = inr e

pub then_some : {A B : Type 0} → (p : Option A) (k : A → Option B) (x : B) → option_and_then k p ≡ Some x → (t : A) × (p ≡ Some t) × (k t ≡ Some x)
then_some (Some t) k x e = (t, refl, e)
then_some None k x e = absurd (cc)

module _ {P : List ExprType → ExprType → Type 0} where
  from_needs : (ts us : List ExprType) (t : ExprType) → P us t → (x : List ExprType × ExprType) → needs ts us t ≡ Some x → Sound P ts x
  from_needs ts us t p x e = let h = given (convert_all ts us) (us, t) x e in subst (λ y. Sound P ts y) h.1 (record { convert = all_from ts us h.0; is_row = p })

  from_uniform : (xs : List Kind) (r : Kind) (ts : List ExprType) → ((k : Bool) → P (map (at k) xs) (at k r)) → (x : List ExprType × ExprType) → uniform xs r ts ≡ Some x → Sound P ts x
  from_uniform xs r ts p x e = let k = are_known xs ts in from_needs ts (map (at k) xs) (at k r) (p k) x e

  from_over : (c r : Scalar) (ts : List ExprType) → ((s : Shape) (k : Bool) → is_array s ≡ true → P (Plain c s k ∷ []) (Plain r Single k)) → (x : List ExprType × ExprType) → over_array c r ts ≡ Some x → Sound P ts x
  from_over c r ts p x e =
      let s = shape_of (operand 0 ts) in
      let h = when (is_array s) (uniform (follows c s ∷ []) (follows r Single) ts) x e in
      from_uniform (follows c s ∷ []) (follows r Single) ts (λ k. p s k h.0) x h.1

  from_extreme : (ts : List ExprType) → ((s : Shape) (k : Bool) → is_array s ≡ true → P (Plain Number s k ∷ []) (numbers k)) → ((k : Bool) → P (numbers k ∷ numbers k ∷ []) (numbers k))
      → (x : List ExprType × ExprType) → extreme ts ≡ Some x → Sound P ts x
  from_extreme ts p q x e = elim (either (is_array (shape_of (operand 0 ts))) (over_array Number Number ts) (of_numbers ts) x e) [
    | inl h ↦ from_over Number Number ts p x h.1
    | inr h ↦ from_uniform (a_number ∷ a_number ∷ []) a_number ts q x h.1
  ]

  from_tested : (test : ExprType → Bool) (t r : ExprType) (ts : List ExprType) → (test t ≡ true → P (t ∷ []) r) → (x : List ExprType × ExprType) → tested test t r ts ≡ Some x → Sound P ts x
  from_tested test t r ts p x e = let h = when (test t) (needs ts (t ∷ []) r) x e in from_needs ts (t ∷ []) r (p h.0) x h.1

  from_equate_at : ((k : Bool) → P (numbers k ∷ numbers k ∷ []) (truths k)) → ((k : Bool) → P (truths k ∷ truths k ∷ []) (truths k)) → P (Set ∷ Set ∷ []) (truths true) → P (Text Single ∷ Text Single ∷ []) (truths true)
      → (t : ExprType) (ts : List ExprType) (x : List ExprType × ExprType) → equate_at t ts ≡ Some x → Sound P ts x
  from_equate_at n b s w (Plain Truth q k) ts x e = from_needs ts _ _ (b k) x e
  from_equate_at n b s w (Plain Number q k) ts x e = from_needs ts _ _ (n k) x e
  from_equate_at n b s w (Plain Empty q k) ts x e = from_needs ts _ _ (n k) x e
  from_equate_at n b s w (Text q) ts x e = from_needs ts _ _ w x e
  from_equate_at n b s w Set ts x e = from_needs ts _ _ s x e
  from_equate_at n b s w Search ts x e = absurd (cc)

  from_equate : ((k : Bool) → P (numbers k ∷ numbers k ∷ []) (truths k)) → ((k : Bool) → P (truths k ∷ truths k ∷ []) (truths k)) → P (Set ∷ Set ∷ []) (truths true) → P (Text Single ∷ Text Single ∷ []) (truths true)
      → (ts : List ExprType) (x : List ExprType × ExprType) → equate ts ≡ Some x → Sound P ts x
  from_equate n b s w ts x e =
      let h = then_some (join (operand 0 ts) (operand 1 ts)) (λ t. equate_at t ts) x e in
      from_equate_at n b s w h.0 ts x h.2

  from_connect : ((k : Bool) → P (truths k ∷ truths k ∷ []) (truths k)) → P (Search ∷ Search ∷ []) Search → (ts : List ExprType) (x : List ExprType × ExprType) → connect ts ≡ Some x → Sound P ts x
  from_connect p q ts x e = elim (one_of (of_truths ts) (needs ts (Search ∷ Search ∷ []) Search) x e) [
    | inl h ↦ from_uniform (a_truth ∷ a_truth ∷ []) a_truth ts p x h
    | inr h ↦ from_needs ts (Search ∷ Search ∷ []) Search q x h
  ]

array_line_sound : (t : ExprType) (ts : List ExprType) (x : List ExprType × ExprType) → array_line t ts ≡ Some x → Sound (Call (m.built_in b.ArrayLine)) ts x
array_line_sound t ts x e = let h = when (is_array_type t) (needs ts (Set ∷ t ∷ []) (shaped Line t)) x e in from_needs ts _ _ (r.array_line h.0) x h.1

array_grid_sound : (t : ExprType) (ts : List ExprType) (x : List ExprType × ExprType) → array_grid t ts ≡ Some x → Sound (Call (m.built_in b.ArrayGrid)) ts x
array_grid_sound t ts x e = let h = when (is_array_type t) (needs ts (Set ∷ Set ∷ t ∷ []) (shaped Grid t)) x e in from_needs ts _ _ (r.array_grid h.0) x h.1

incumbent_sound : (t : ExprType) (ts : List ExprType) (x : List ExprType × ExprType) → on_incumbent t ts ≡ Some x → Sound (Call (m.built_in b.Sol)) ts x
incumbent_sound (Plain c s k) ts x e = from_needs ts _ _ r.sol x e
incumbent_sound (Text s) ts x e = absurd (cc)
incumbent_sound Set ts x e = absurd (cc)
incumbent_sound Search ts x e = absurd (cc)

print_sound : (ts : List ExprType) (x : List ExprType × ExprType) → call_built_in b.Print ts ≡ Some x → Sound (Call (m.built_in b.Print)) ts x
print_sound ts x e = elim (one_of (needs ts [] Search) (needs ts (Text Single ∷ []) Search) x e) [
  | inl h ↦ from_needs ts [] Search r.print_solution x h
  | inr h ↦ from_needs ts (Text Single ∷ []) Search r.print_text x h
]

pub call_sound : (w : Meaning) (ts : List ExprType) (x : List ExprType × ExprType) → call w ts ≡ Some x → Sound (Call w) ts x
call_sound (m.value t) ts x e = absurd (cc)
call_sound (m.function us t) ts x e = from_needs ts us t r.function x e
call_sound (m.built_in b.ForAll) ts x e = from_over Truth Truth ts (λ s k h. r.for_all h) x e
call_sound (m.built_in b.Exists) ts x e = from_over Truth Truth ts (λ s k h. r.exists_one h) x e
call_sound (m.built_in b.Sum) ts x e = from_over Number Number ts (λ s k h. r.sum_of h) x e
call_sound (m.built_in b.Min) ts x e = from_extreme ts (λ s k h. r.min_of h) (λ k. r.min_two) x e
call_sound (m.built_in b.Max) ts x e = from_extreme ts (λ s k h. r.max_of h) (λ k. r.max_two) x e
call_sound (m.built_in b.Abs) ts x e = from_uniform (a_number ∷ []) a_number ts (λ k. r.absolute) x e
call_sound (m.built_in b.BoolToInt) ts x e = from_uniform (a_truth ∷ []) a_number ts (λ k. r.bool_to_int) x e
call_sound (m.built_in b.Count) ts x e = from_uniform (follows Number Line ∷ a_number ∷ []) a_number ts (λ k. r.count) x e
call_sound (m.built_in b.AllDifferent) ts x e = from_over Number Truth ts (λ s k h. r.all_different h) x e
call_sound (m.built_in b.Table) ts x e = from_uniform (follows Number Line ∷ fixed (Plain Number Grid true) ∷ []) a_truth ts (λ k. r.table) x e
call_sound (m.built_in b.Length) ts x e = from_tested is_array_type (operand 0 ts) (numbers true) ts (λ h. r.length_of h) x e
call_sound (m.built_in b.IndexSet) ts x e = from_tested is_line (operand 0 ts) Set ts (λ h. r.index_set h) x e
call_sound (m.built_in b.RowIndexSet) ts x e = from_tested is_grid (operand 0 ts) Set ts (λ h. r.row_index_set h) x e
call_sound (m.built_in b.ColumnIndexSet) ts x e = from_tested is_grid (operand 0 ts) Set ts (λ h. r.column_index_set h) x e
call_sound (m.built_in b.Card) ts x e = from_needs ts (Set ∷ []) (numbers true) r.card x e
call_sound (m.built_in b.ArrayLine) ts x e = array_line_sound (operand 1 ts) ts x e
call_sound (m.built_in b.ArrayGrid) ts x e = array_grid_sound (operand 2 ts) ts x e
call_sound (m.built_in b.Show) ts x e = from_tested is_shown (operand 0 ts) (Text Single) ts (λ h. r.show h) x e
call_sound (m.built_in b.Fix) ts x e = from_tested is_fixed (operand 0 ts) (operand 0 ts) ts (λ h. r.fixed h) x e
call_sound (m.built_in b.Sol) ts x e = incumbent_sound (operand 0 ts) ts x e
call_sound (m.built_in b.HasSol) ts x e = from_needs ts [] (truths true) r.has_sol x e
call_sound (m.built_in b.Uniform) ts x e = from_needs ts (numbers true ∷ numbers true ∷ []) (numbers true) r.uniform x e
call_sound (m.built_in b.Next) ts x e = from_needs ts [] Search r.next x e
call_sound (m.built_in b.Post) ts x e = from_needs ts (truths false ∷ []) Search r.post x e
call_sound (m.built_in b.Commit) ts x e = from_needs ts [] Search r.commit x e
call_sound (m.built_in b.Print) ts x e = print_sound ts x e
call_sound (m.built_in b.Scope) ts x e = from_needs ts (Search ∷ []) Search r.scope x e
call_sound (m.built_in b.Repeat) ts x e = from_needs ts (Search ∷ []) Search r.repeat x e
call_sound (m.built_in b.Break) ts x e = absurd (cc)
call_sound (m.built_in b.Fail) ts x e = absurd (cc)
call_sound (m.built_in b.Skip) ts x e = absurd (cc)
call_sound (m.built_in b.TimeLimit) ts x e = from_needs ts (numbers true ∷ Search ∷ []) Search r.time_limit x e
call_sound (m.built_in b.Keep) ts x e = from_needs ts (Plain Number Line false ∷ []) Search r.keep x e
call_sound (m.built_in b.ClearFront) ts x e = from_needs ts [] Search r.clear_front x e
call_sound (m.built_in b.PrintFront) ts x e = from_needs ts [] Search r.print_front x e

call_told_sound : (w : Told) (ts : List ExprType) (x : List ExprType × ExprType) → call_told w ts ≡ Some x → Sound (Row (f.calls w)) ts x
call_told_sound m.unknown ts x e = absurd (cc)
call_told_sound (m.means w) ts x e = let h = call_sound w ts x e in record { convert = h.convert; is_row = r.calls h.is_row }
call_told_sound (m.barred w) ts x e = absurd (cc)

stand_sound : (w : Meaning) (ts : List ExprType) (x : List ExprType × ExprType) → stand w ts ≡ Some x → Sound (Row (f.stands (m.means w))) ts x
stand_sound (m.value t) ts x e = from_needs ts [] t r.stands x e
stand_sound (m.function us t) ts x e = absurd (cc)
stand_sound (m.built_in b.Break) ts x e = from_needs ts [] Search r.break_stands x e
stand_sound (m.built_in b.Fail) ts x e = from_needs ts [] Search r.fail_stands x e
stand_sound (m.built_in b.Skip) ts x e = from_needs ts [] Search r.skip_stands x e
stand_sound (m.built_in other) ts x e = absurd (cc)

stand_told_sound : (w : Told) (ts : List ExprType) (x : List ExprType × ExprType) → stand_told w ts ≡ Some x → Sound (Row (f.stands w)) ts x
stand_told_sound m.unknown ts x e = absurd (cc)
stand_told_sound (m.means w) ts x e = stand_sound w ts x e
stand_told_sound (m.barred w) ts x e = absurd (cc)

-- what is asked of an array of elements is an array of elements
line_asked : (t : ExprType) {v : ExprType} → is_element t ≡ true → Converts (shaped Line t) v → (v ≡ shaped Line (shaped Single v)) × (is_element (shaped Single v) ≡ true)
line_asked (Plain c s k) h (plain {c = d} {r = Line} {l = l} x y z) = (refl, refl)
line_asked (Plain c s k) h (plain {r = Single} x y z) = absurd (cc)
line_asked (Plain c s k) h (plain {r = Grid} x y z) = absurd (cc)
line_asked (Plain c s k) h (empty_text {r = Line} x y z) = (refl, refl)
line_asked (Plain c s k) h (empty_text {r = Single} x y z) = absurd (cc)
line_asked (Plain c s k) h (empty_text {r = Grid} x y z) = absurd (cc)
line_asked (Plain c s k) h (truth_search x y z) = absurd (cc)
line_asked (Text s) h (text {r = Line} y) = (refl, refl)
line_asked (Text s) h (text {r = Single} y) = absurd (cc)
line_asked (Text s) h (text {r = Grid} y) = absurd (cc)
line_asked Set h c = absurd (cc)
line_asked Search h c = absurd (cc)

pub asked_is_line : (t : ExprType) {us : List ExprType} → is_element t ≡ true → ConvertAll (shaped Line t ∷ []) us → (us ≡ (shaped Line (element_asked us) ∷ [])) × (is_element (element_asked us) ≡ true)
asked_is_line t h (more {u = v} c none) = let l = line_asked t h c in (let e : (v ∷ []) ≡ (shaped Line (shaped Single v) ∷ []) = cc in e, l.1)

generate_over_sound : (w : Meaning) (asked ts : List ExprType) (one : Bool) (t : ExprType) (x : List ExprType × ExprType) → generate_over w asked ts t ≡ Some x → Sound (Row (f.generates (m.means w) asked one)) ts x
generate_over_sound w asked ts one t x e =
    let h = when (is_element t) _ x e in
    let g = then_some (call w (shaped Line t ∷ [])) (λ g. needs ts (asked ++ (element_asked g.0 ∷ [])) g.1) x h.1 in
    let s = call_sound w (shaped Line t ∷ []) g.0 g.1 in
    let l = asked_is_line t h.0 s.convert in
    let c : Call w (shaped Line (element_asked g.0.0) ∷ []) g.0.1 = subst (λ us. Call w us g.0.1) l.0 s.is_row in
    from_needs ts _ _ (r.generates (element_asked g.0.0) l.1 c) x g.2

repeat_sound : (w : Meaning) (asked : List ExprType) (one : Bool) (ts : List ExprType) → is_repeat w ≡ true → one ≡ true → (x : List ExprType × ExprType) → needs ts (asked ++ (Search ∷ [])) Search ≡ Some x → Sound (Row (f.generates (m.means w) asked one)) ts x
repeat_sound (m.built_in b.Repeat) asked true ts h k x e = from_needs ts _ _ r.repeat_each x e
repeat_sound (m.built_in b.Repeat) asked false ts h k x e = absurd (cc)
repeat_sound (m.built_in other) asked one ts h k x e = absurd (cc)
repeat_sound (m.value t) asked one ts h k x e = absurd (cc)
repeat_sound (m.function us t) asked one ts h k x e = absurd (cc)

generate_sound : (w : Meaning) (asked : List ExprType) (one : Bool) (ts : List ExprType) (x : List ExprType × ExprType) → generate w asked one ts ≡ Some x → Sound (Row (f.generates (m.means w) asked one)) ts x
generate_sound w asked one ts x e = elim (either (is_repeat w && one) _ _ x e) [
  | inl h ↦ let p = and_parts (is_repeat w) one h.0 in repeat_sound w asked one ts p.0 p.1 x h.1
  | inr h ↦ let t = then_some (last_of ts) (generate_over w asked ts) x h.1 in generate_over_sound w asked ts one t.0 x t.2
]

generate_told_sound : (w : Told) (asked : List ExprType) (one : Bool) (ts : List ExprType) (x : List ExprType × ExprType) → generate_told w asked one ts ≡ Some x → Sound (Row (f.generates w asked one)) ts x
generate_told_sound m.unknown asked one ts x e = absurd (cc)
generate_told_sound (m.means w) asked one ts x e = generate_sound w asked one ts x e
generate_told_sound (m.barred w) asked one ts x e = absurd (cc)

concat_sound : (ts : List ExprType) (x : List ExprType × ExprType) → concat ts ≡ Some x → Sound (Row (f.operation o.Concat)) ts x
concat_sound ts x e =
    let h = then_some (join (operand 0 ts) (operand 1 ts)) (λ t. concat_at t ts) x e in
    elim (either (is_line h.0) (needs ts (h.0 ∷ h.0 ∷ []) h.0) (needs ts (Text Single ∷ Text Single ∷ []) (Text Single)) x h.2) [
      | inl g ↦ from_needs ts _ _ (r.concat_arrays g.0) x g.1
      | inr g ↦ from_needs ts _ _ r.concat_texts x g.1
    ]

operate_sound : (op : Operator) (ts : List ExprType) (x : List ExprType × ExprType) → operate op ts ≡ Some x → Sound (Row (f.operation op)) ts x
operate_sound o.Equivalent ts x e = from_uniform (a_truth ∷ a_truth ∷ []) a_truth ts (λ k. r.equivalent) x e
operate_sound o.Implies ts x e = from_uniform (a_truth ∷ a_truth ∷ []) a_truth ts (λ k. r.implies) x e
operate_sound o.ImpliedBy ts x e = from_uniform (a_truth ∷ a_truth ∷ []) a_truth ts (λ k. r.implied_by) x e
operate_sound o.Or ts x e = from_connect (λ k. r.or) r.search_or ts x e
operate_sound o.Xor ts x e = from_uniform (a_truth ∷ a_truth ∷ []) a_truth ts (λ k. r.exclusive_or) x e
operate_sound o.And ts x e = from_connect (λ k. r.and) r.search_and ts x e
operate_sound o.Equal ts x e = from_equate (λ k. r.equal_numbers) (λ k. r.equal_truths) r.equal_sets r.equal_texts ts x e
operate_sound o.NotEqual ts x e = from_equate (λ k. r.unequal_numbers) (λ k. r.unequal_truths) r.unequal_sets r.unequal_texts ts x e
operate_sound o.Less ts x e = from_uniform (a_number ∷ a_number ∷ []) a_truth ts (λ k. r.less) x e
operate_sound o.AtMost ts x e = from_uniform (a_number ∷ a_number ∷ []) a_truth ts (λ k. r.at_most) x e
operate_sound o.Greater ts x e = from_uniform (a_number ∷ a_number ∷ []) a_truth ts (λ k. r.greater) x e
operate_sound o.AtLeast ts x e = from_uniform (a_number ∷ a_number ∷ []) a_truth ts (λ k. r.at_least) x e
operate_sound o.In ts x e = from_uniform (a_number ∷ fixed Set ∷ []) a_truth ts (λ k. r.member) x e
operate_sound o.To ts x e = from_needs ts _ _ r.range x e
operate_sound o.Plus ts x e = from_uniform (a_number ∷ a_number ∷ []) a_number ts (λ k. r.plus) x e
operate_sound o.Minus ts x e = from_uniform (a_number ∷ a_number ∷ []) a_number ts (λ k. r.minus) x e
operate_sound o.Times ts x e = from_uniform (a_number ∷ a_number ∷ []) a_number ts (λ k. r.times) x e
operate_sound o.Div ts x e = from_uniform (a_number ∷ a_number ∷ []) a_number ts (λ k. r.quotient) x e
operate_sound o.Mod ts x e = from_uniform (a_number ∷ a_number ∷ []) a_number ts (λ k. r.remainder) x e
operate_sound o.Concat ts x e = concat_sound ts x e

access_plain_sound : (c : Scalar) (s : Shape) (ts : List ExprType) (x : List ExprType × ExprType) → access_plain c s ts ≡ Some x → Sound (Row f.access) ts x
access_plain_sound c Single ts x e = absurd (cc)
access_plain_sound c Line ts x e = from_uniform (follows c Line ∷ a_number ∷ []) (follows c Single) ts (λ k. r.access_line) x e
access_plain_sound c Grid ts x e = from_uniform (follows c Grid ∷ a_number ∷ a_number ∷ []) (follows c Single) ts (λ k. r.access_grid) x e

access_text_sound : (s : Shape) (ts : List ExprType) (x : List ExprType × ExprType) → access_text s ts ≡ Some x → Sound (Row f.access) ts x
access_text_sound Single ts x e = absurd (cc)
access_text_sound Line ts x e = from_needs ts _ _ r.access_text_line x e
access_text_sound Grid ts x e = from_needs ts _ _ r.access_text_grid x e

access_sound : (t : ExprType) (ts : List ExprType) (x : List ExprType × ExprType) → access_at t ts ≡ Some x → Sound (Row f.access) ts x
access_sound (Plain c s k) ts x e = access_plain_sound c s ts x e
access_sound (Text s) ts x e = access_text_sound s ts x e
access_sound Set ts x e = absurd (cc)
access_sound Search ts x e = absurd (cc)

array_sound : (ts : List ExprType) (x : List ExprType × ExprType) → elements Line ts ≡ Some x → Sound (Row f.array) ts x
array_sound ts x e =
    let h = then_some (join_all (Plain Empty Single true) ts) (elements_at Line ts) x e in
    let g = when (is_element h.0) _ x h.2 in from_needs ts _ _ (r.array (length ts) h.0 g.0) x g.1

grid_sound : (ts : List ExprType) (x : List ExprType × ExprType) → elements Grid ts ≡ Some x → Sound (Row (f.grid true)) ts x
grid_sound ts x e =
    let h = then_some (join_all (Plain Empty Single true) ts) (elements_at Grid ts) x e in
    let g = when (is_element h.0) _ x h.2 in from_needs ts _ _ (r.grid (length ts) h.0 g.0) x g.1

comprehension_sound : (asked : List ExprType) (t : ExprType) (ts : List ExprType) (x : List ExprType × ExprType) → comprehend asked t ts ≡ Some x → Sound (Row (f.comprehension asked)) ts x
comprehension_sound asked t ts x e = let g = when (is_element t) _ x e in from_needs ts _ _ (r.comprehension g.0) x g.1

choose_variable_sound : (cs ts : List ExprType) (t : ExprType) (x : List ExprType × ExprType) → choose_variable cs ts t ≡ Some x → Sound (Row f.choice) ts x
choose_variable_sound cs ts (Plain c s k) x e = from_needs ts _ _ (r.choice_variable _) x e
choose_variable_sound cs ts (Text s) x e = absurd (cc)
choose_variable_sound cs ts Set x e = absurd (cc)
choose_variable_sound cs ts Search x e = absurd (cc)

choose_at_sound : (k : Bool) (cs ts : List ExprType) (t : ExprType) (x : List ExprType × ExprType) → (if k then choose_known cs ts else choose_variable cs ts) t ≡ Some x → Sound (Row f.choice) ts x
choose_at_sound true cs ts t x e = from_needs ts _ _ (r.choice_known (length cs)) x e
choose_at_sound false cs ts t x e = choose_variable_sound cs ts t x e

choice_sound : (cs ts : List ExprType) (x : List ExprType × ExprType) → choose_among cs ts ≡ Some x → Sound (Row f.choice) ts x
choice_sound cs ts x e = elim (either (some_search cs) _ _ x e) [
  | inl h ↦ from_needs ts _ _ (r.choice_search _) x h.1
  | inr h ↦ let g = then_some (join_some (branches ts)) (if all_known cs then choose_known cs ts else choose_variable cs ts) x h.1 in choose_at_sound (all_known cs) cs ts g.0 x g.2
]

lets_sound : (declared ts : List ExprType) (x : List ExprType × ExprType) → option_and_then (last_given declared ts) (last_of ts) ≡ Some x → Sound (Row (f.lets declared)) ts x
lets_sound declared ts x e = let h = then_some (last_of ts) (last_given declared ts) x e in from_needs ts _ _ r.lets x h.2

outputs_sound : (s : Shape) (ts : List ExprType) (x : List ExprType × ExprType) → outputs_at s ts ≡ Some x → Sound (Row f.outputs) ts x
outputs_sound s ts x e = let h = when (is_array s) _ x e in from_needs ts _ _ (r.outputs h.0) x h.1

pub row_sound : (g : Form) (ts : List ExprType) (x : List ExprType × ExprType) → row g ts ≡ Some x → Sound (Row g) ts x
row_sound f.number ts x e = from_needs ts _ _ r.number x e
row_sound f.text ts x e = from_needs ts _ _ r.text x e
row_sound f.truth ts x e = from_needs ts _ _ r.truth x e
row_sound (f.stands w) ts x e = stand_told_sound w ts x e
row_sound (f.calls w) ts x e = call_told_sound w ts x e
row_sound (f.generates w asked one) ts x e = generate_told_sound w asked one ts x e
row_sound (f.operation op) ts x e = operate_sound op ts x e
row_sound (f.prefix sign.Not) ts x e = from_uniform (a_truth ∷ []) a_truth ts (λ k. r.negated) x e
row_sound (f.prefix sign.Minus) ts x e = from_uniform (a_number ∷ []) a_number ts (λ k. r.negative) x e
row_sound f.parenthesis ts x e = from_needs ts _ _ r.parenthesis x e
row_sound f.access ts x e = access_sound (operand 0 ts) ts x e
row_sound f.array ts x e = array_sound ts x e
row_sound (f.grid true) ts x e = grid_sound ts x e
row_sound (f.grid false) ts x e = absurd (cc)
row_sound f.set ts x e = from_needs ts _ _ (r.set (length ts)) x e
row_sound (f.comprehension asked) ts x e = comprehension_sound asked (operand 0 ts) ts x e
row_sound f.choice ts x e = choice_sound (conditions ts) ts x e
row_sound (f.lets declared) ts x e = lets_sound declared ts x e
row_sound (f.declares true asked t) ts x e = from_needs ts _ _ r.declares x e
row_sound (f.declares false asked t) ts x e = absurd (cc)
row_sound (f.assigns t) ts x e = from_needs ts _ _ r.assigns x e
row_sound f.gives ts x e = from_needs ts _ _ r.gives x e
row_sound f.constrains ts x e = from_needs ts _ _ r.constrains x e
row_sound f.satisfies ts x e = from_needs ts _ _ r.satisfies x e
row_sound f.optimizes ts x e = from_needs ts _ _ r.optimizes x e
row_sound f.searches ts x e = from_needs ts _ _ r.searches x e
row_sound f.outputs ts x e = outputs_sound (shape_of (operand 0 ts)) ts x e
row_sound f.unsupported ts x e = absurd (cc)
row_sound f.misplaced ts x e = absurd (cc)
