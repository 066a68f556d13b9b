-- On an assignment a tree may mean just what it means there.
use Rattle.std.proofs.Common.{◌≡◌, ℤ, Bool, true, false, ◌&&◌, List, Option, Some, None, option_map, if◌then◌else◌, refl, sym, ap, ◌∙◌, subst}
use Rattle.ms_trees.specs.Enclosure.{enclosure, points}
use Rattle.ms_trees.specs.Value.{Meaning, value, value_step}
use Rattle.ms_trees.specs.WellFormed.{is_well_formed, is_numeric, numeric_layer}
use Rattle.ms_trees.specs.Laws.{PointsMeanThemselves, exact, of_number}
use Rattle.ms_trees.specs.declared.tree.Enclosure.{Enclosure}
use Rattle.ms_trees.specs.declared.tree.Ground.{Ground, map-Ground, out-Ground, roll-out-Ground, fold-roll-Ground}
use Rattle.ms_trees.specs.declared.tree.Ground.TheOpen as g
use Rattle.ms_trees.proofs.Layers.{layer_map}
use Rattle.ms_ground.specs.Known.{known}
use Rattle.ms_functions.specs.There.{number_there, truth_there}

-- a Boolean node has no number, and an integer node is not true
numberless_node : (p : List ℤ) (d : g.Ground-F Meaning) → numeric_layer d ≡ false → (value_step p d).number ≡ None
numberless_node p (g.Num n) h = cc
numberless_node p g.Undef h = cc
numberless_node p (g.Var v) h = cc
numberless_node p (g.Add a b) h = cc
numberless_node p (g.Sub a b) h = cc
numberless_node p (g.Mul a b) h = cc
numberless_node p (g.Div a b) h = cc
numberless_node p (g.Mod a b) h = cc
numberless_node p (g.Neg a) h = cc
numberless_node p (g.Abs a) h = cc
numberless_node p (g.Sum xs) h = cc
numberless_node p (g.Least xs) h = cc
numberless_node p (g.Greatest xs) h = cc
numberless_node p (g.ToInt a) h = cc
numberless_node p (g.Elem low xs i) h = cc
numberless_node p (g.Elem2 low left width xs i j) h = cc
numberless_node p (g.Count xs y) h = cc
numberless_node p (g.IteI c x y) h = cc
numberless_node p g.True h = refl
numberless_node p g.False h = refl
numberless_node p (g.BVar v) h = refl
numberless_node p (g.And xs) h = refl
numberless_node p (g.Or xs) h = refl
numberless_node p (g.Not a) h = refl
numberless_node p (g.Iff a b) h = refl
numberless_node p (g.Imp a b) h = refl
numberless_node p (g.Xor a b) h = refl
numberless_node p (g.Eq a b) h = refl
numberless_node p (g.Ne a b) h = refl
numberless_node p (g.Lt a b) h = refl
numberless_node p (g.Le a b) h = refl
numberless_node p (g.IteB c x y) h = refl
numberless_node p (g.In a rs) h = refl
numberless_node p (g.AllDiff xs) h = refl
numberless_node p (g.Table xs rows) h = refl

truthless_node : (p : List ℤ) (d : g.Ground-F Meaning) → numeric_layer d ≡ true → (value_step p d).truth ≡ false
truthless_node p (g.Num n) h = refl
truthless_node p g.Undef h = refl
truthless_node p (g.Var v) h = refl
truthless_node p (g.Add a b) h = refl
truthless_node p (g.Sub a b) h = refl
truthless_node p (g.Mul a b) h = refl
truthless_node p (g.Div a b) h = refl
truthless_node p (g.Mod a b) h = refl
truthless_node p (g.Neg a) h = refl
truthless_node p (g.Abs a) h = refl
truthless_node p (g.Sum xs) h = refl
truthless_node p (g.Least xs) h = refl
truthless_node p (g.Greatest xs) h = refl
truthless_node p (g.ToInt a) h = refl
truthless_node p (g.Elem low xs i) h = refl
truthless_node p (g.Elem2 low left width xs i j) h = refl
truthless_node p (g.Count xs y) h = refl
truthless_node p (g.IteI c x y) h = refl
truthless_node p g.True h = cc
truthless_node p g.False h = cc
truthless_node p (g.BVar v) h = cc
truthless_node p (g.And xs) h = cc
truthless_node p (g.Or xs) h = cc
truthless_node p (g.Not a) h = cc
truthless_node p (g.Iff a b) h = cc
truthless_node p (g.Imp a b) h = cc
truthless_node p (g.Xor a b) h = cc
truthless_node p (g.Eq a b) h = cc
truthless_node p (g.Ne a b) h = cc
truthless_node p (g.Lt a b) h = cc
truthless_node p (g.Le a b) h = cc
truthless_node p (g.IteB c x y) h = cc
truthless_node p (g.In a rs) h = cc
truthless_node p (g.AllDiff xs) h = cc
truthless_node p (g.Table xs rows) h = cc

value_out : (p : List ℤ) (t : Ground) → value p t ≡ value_step p (map-Ground Ground Meaning (value p) (out-Ground t))
value_out p t = ap (value p) (sym (roll-out-Ground t)) ∙ fold-roll-Ground Meaning (value_step p) (out-Ground t)

numeric_out : (p : List ℤ) (t : Ground) → is_numeric t ≡ numeric_layer (map-Ground Ground Meaning (value p) (out-Ground t))
numeric_out p t = ap is_numeric (sym (roll-out-Ground t)) ∙ fold-roll-Ground Bool numeric_layer (out-Ground t)
    ∙ layer_map is_numeric (out-Ground t) ∙ sym (layer_map (value p) (out-Ground t))

numberless : (p : List ℤ) (t : Ground) → is_numeric t ≡ false → (value p t).number ≡ None
numberless p t h = ap (λ (m : Meaning). m.number) (value_out p t) ∙ numberless_node p _ (sym (numeric_out p t) ∙ h)

truthless : (p : List ℤ) (t : Ground) → is_numeric t ≡ true → (value p t).truth ≡ false
truthless p t h = ap (λ (m : Meaning). m.truth) (value_out p t) ∙ truthless_node p _ (sym (numeric_out p t) ∙ h)

of_one : (o : Option ℤ) → option_map (λ s. s.lo) (of_number o).interval ≡ o
of_one None = refl
of_one (Some z) = refl

never : (o : Option ℤ) → false ≡ (of_number o).may_be_true
never None = refl
never (Some z) = refl

number_of_exact : (b : Bool) (m : Meaning) → (b ≡ false → m.number ≡ None) → option_map (λ s. s.lo) (exact b m).interval ≡ m.number
number_of_exact true m h = of_one m.number
number_of_exact false m h = sym (h refl)

truth_of_exact : (b : Bool) (m : Meaning) → (b ≡ true → m.truth ≡ false) → (exact b m).may_be_true ≡ m.truth
truth_of_exact true m h = rw (h refl) (sym (never m.number))
truth_of_exact false m h = refl

number_where : (w : Bool) (q : Enclosure) (n : Option ℤ) → (w ≡ true → option_map (λ s. s.lo) q.interval ≡ n) → number_there (known w q) ≡ (if w then n else None)
number_where true q n h = h refl
number_where false q n h = refl

truth_where : (w : Bool) (q : Enclosure) (b : Bool) → (w ≡ true → q.may_be_true ≡ b) → truth_there (known w q) ≡ (w && b)
truth_where true q b h = h refl
truth_where false q b h = refl

pub number_on_point : PointsMeanThemselves → (p : List ℤ) (t : Ground) →
    number_there (known (is_well_formed (points p) t) (enclosure (points p) t)) ≡ (if is_well_formed (points p) t then (value p t).number else None)
number_on_point law p t = number_where (is_well_formed (points p) t) (enclosure (points p) t) (value p t).number
    (λ (w : is_well_formed (points p) t ≡ true). subst (λ (q : Enclosure). option_map (λ s. s.lo) q.interval ≡ (value p t).number) (sym (law p t w)) (number_of_exact (is_numeric t) (value p t) (numberless p t)))

pub truth_on_point : PointsMeanThemselves → (p : List ℤ) (t : Ground) →
    truth_there (known (is_well_formed (points p) t) (enclosure (points p) t)) ≡ (is_well_formed (points p) t && (value p t).truth)
truth_on_point law p t = truth_where (is_well_formed (points p) t) (enclosure (points p) t) (value p t).truth
    (λ (w : is_well_formed (points p) t ≡ true). subst (λ (q : Enclosure). q.may_be_true ≡ (value p t).truth) (sym (law p t w)) (truth_of_exact (is_numeric t) (value p t) (truthless p t)))
