-- What is handed in is fit.
use Rattle.std.proofs.Common.{◌≡◌, Bool, true, false, ◌&&◌, List, [], ◌∷◌, map, refl, subst}
use Rattle.std.specs.Prelude.{◌^◌, ◌+ℤ◌, ℤ, negsuc, pos, if◌then◌else◌}
use Rattle.std.specs.List.{AllByRecursion, list_all}
use Rattle.ms_num.specs.Ranges.{RisesPast}
use Rattle.ms_num.specs.Span.{Span, is_within}
use Rattle.ms_trees.specs.WellFormed.{is_numeric, is_well_formed}
use Rattle.ms_trees.specs.declared.tree.Ground.{Ground, out-Ground}
use Rattle.ms_trees.specs.declared.tree.Ground.TheOpen.{Ground-F, Num, True, False}
use Rattle.ms_trees.proofs.Bools.{and_left, and_right}
use Rattle.ms_tree_nodes.specs.Kept.{kept_of}
use Rattle.ms_values.specs.declared.operand.Kind.{Kind}
use Rattle.ms_values.specs.declared.operand.Kind.TheVariants as k
use Rattle.ms_values.specs.declared.operand.Operand.TheVariants as o
use Rattle.ms_values.specs.declared.value.Value.{Value}
use Rattle.ms_values.specs.declared.value.Value.TheVariants as v
use Rattle.ms_rules.specs.Operands.{condition_of, integer_of, number_of}
use Rattle.ms_rules.specs.Conversions.{kind_of_type}
use Rattle.ms_rules_laws.specs.Fit.{AreFit, AreIntervals, IsCondition, IsFit, IsInteger, IsWithinIfAny}
use Rattle.ms_rules_laws.proofs.Elements as e
use Rattle.ms_rules_laws.proofs.Known as m
use Rattle.ms_rules_laws.proofs.Nodes as t
use Rattle.ms_rules_laws.proofs.Parts as l
use Rattle.ms_placing.specs.Values as s
use Rattle.ms_exchange.specs.Fit.{are_fit, is_fit_as, is_leaf}
use Rattle.ms_exchange.specs.Read.{number_layer, number_read}
use Rattle.ms_exchange.proofs.Reading.{numbers_are}
use Rattle.ms_exchange_laws.specs.Laws.{HandedInIsFit, HasRanges}

-- ---- leaves

layer_within : (d : Ground-F Ground) → IsWithinIfAny (number_layer d)
layer_within (Num n) = m.if_within_keeps n
layer_within True = m.one_within
layer_within False = m.zero_within
layer_within other = tt

read_within : (x : Ground) → IsWithinIfAny (number_read x)
read_within x = layer_within (out-Ground x)

leaves_within : (ts : List Ground) → list_all is_leaf ts ≡ true → AllByRecursion IsWithinIfAny (map (λ x. number_of (s.leaf_in x)) ts)
leaves_within ts h = subst (AllByRecursion IsWithinIfAny) (numbers_are ts h) (l.all_mapped IsWithinIfAny number_read read_within ts)

module _ (sets : List Span) where
  -- ---- trees

  tree_by : (x : Ground) (b : Bool) → is_numeric x ≡ b → is_well_formed sets x ≡ true → IsFit sets (if b then o.Integer (kept_of sets x) else o.Condition (kept_of sets x))
  tree_by x true n h = t.integer_tree sets x h n
  tree_by x false n h = t.boolean_tree sets x h n

  tree_in : (x : Ground) → is_well_formed sets x ≡ true → IsFit sets (s.tree_in sets x)
  tree_in x h = tree_by x (is_numeric x) refl h

  all_in : {Y : Type 0} (Q : Y → Type 0) (f : Ground → Y) → ((x : Ground) → is_well_formed sets x ≡ true → Q (f x)) → (ts : List Ground) → list_all (is_well_formed sets) ts ≡ true → AllByRecursion Q (map f ts)
  all_in Q f g [] h = tt
  all_in Q f g (x ∷ ts) h = (g x (and_left (is_well_formed sets x) (list_all (is_well_formed sets) ts) h), all_in Q f g ts (and_right (is_well_formed sets x) (list_all (is_well_formed sets) ts) h))

  trees_in : (kind : Kind) (ts : List Ground) → are_fit sets kind ts ≡ true → AreFit sets (s.trees_in sets kind ts)
  trees_in k.Number ts h = leaves_within ts h
  trees_in k.Truth ts h = tt
  trees_in k.Text ts h = tt
  trees_in k.Integer ts h = all_in (IsInteger sets) (λ x. integer_of (s.tree_in sets x)) (λ x i. e.integer_read sets (s.tree_in sets x) (tree_in x i)) ts h
  trees_in k.Condition ts h = all_in (IsCondition sets) (λ x. condition_of (s.tree_in sets x)) (λ x i. e.condition_read sets (s.tree_in sets x) (tree_in x i)) ts h

  -- ---- sets

  intervals : (z : ℤ) (rs : List Span) → RisesPast z rs → AreIntervals rs
  intervals z [] h = tt
  intervals z (r ∷ rs) h = (h.1, intervals (r.hi +ℤ pos 1) rs h.2)

  -- ---- all values

  handed_in : (kind : Kind) (x : Value) → HasRanges x → is_fit_as sets kind x ≡ true → IsFit sets (s.handed_in sets kind x)
  handed_in kind (v.Number n) r h = m.within_of n h
  handed_in kind (v.Truth b) r h = tt
  handed_in kind (v.Set rs) r h = intervals (negsuc (2 ^ 50)) rs r
  handed_in kind (v.Text w) r h = tt
  handed_in kind (v.Tree x) r h = tree_in x h
  handed_in kind (v.Trees1 i ts) r h = (m.within_of i.lo (and_left (is_within i.lo) (are_fit sets kind ts) h), trees_in kind ts (and_right (is_within i.lo) (are_fit sets kind ts) h))
  handed_in kind (v.Trees2 rows columns ts) r h =
      let sides = and_left (is_within rows.lo && is_within columns.lo) (are_fit sets kind ts) h in (
        (m.within_of rows.lo (and_left (is_within rows.lo) (is_within columns.lo) sides), m.within_of columns.lo (and_right (is_within rows.lo) (is_within columns.lo) sides)),
        trees_in kind ts (and_right (is_within rows.lo && is_within columns.lo) (are_fit sets kind ts) h),
      )
  handed_in kind (v.Texts1 i ts) r h = (m.within_of i.lo h, tt)
  handed_in kind (v.Texts2 rows columns ts) r h =
      ((m.within_of rows.lo (and_left (is_within rows.lo) (is_within columns.lo) h), m.within_of columns.lo (and_right (is_within rows.lo) (is_within columns.lo) h)), tt)

pub handed_in_is_fit : HandedInIsFit
handed_in_is_fit sets type x r h = e.convert sets type (s.handed_in sets (kind_of_type type) x) (handed_in sets (kind_of_type type) x r h)
