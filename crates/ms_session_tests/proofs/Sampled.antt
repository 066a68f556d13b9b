-- The trees of the small models are constraints there, and what the calls on their sessions keep.
use Rattle.std.proofs.Common.{◌≡◌, ℕ, ◌<◌, zero, suc, refl, sym, ap, ◌∙◌, subst, arith, true, false, Bool, ◌&&◌, List, [], ◌∷◌, length, Some, Result, Ok, Err}
use Rattle.std.specs.Prelude.{ℤ, pos, ◌≤ℤ◌, IfOk, OnOk}
use Rattle.std.proofs.lemmas.Int.{ints}
use Rattle.ms_num.specs.Span.{Span, Inside, point, is_narrow, add_span, mul_span, mod_span, has}
use Rattle.ms_trees.specs.declared.tree.Enclosure.{Enclosure}
use Rattle.ms_trees.specs.declared.tree.Ground.{Ground, map-Ground, out-Ground, fold_out-Ground}
use Rattle.ms_trees.specs.declared.tree.Ground.TheVariants as g
use Rattle.ms_trees.specs.declared.tree.Ground.TheOpen as F
use Rattle.ms_trees.specs.Enclosure.{enclosure, enclosure_step, span_at, operation, division, points}
use Rattle.ms_trees.specs.Enclosure as r
use Rattle.ms_trees.specs.WellFormed.{Checked, checked, well_formed_rule, is_well_formed, is_numeric, numeric_layer, is_number, has_variable, fits, IsTruth}
use Rattle.ms_trees.proofs.Layers.{fit_out}
use Rattle.ms_trees.proofs.Bools.{and_true, and_left}
use Rattle.ms_trees.specs.Laws.{IsSmaller, HasVariable, SmallerBoxesStayWellFormed}
use Rattle.ms_num.specs.Ranges.{IsRanges, is_member}
use Rattle.ms_num.proofs.SharedMembers.{has_from}
use Rattle.ms_num.proofs.SharedSpans.{of_le, read_51}
use Rattle.std.proofs.Common.{w64, to_z, of_z, ◌||◌}
use Rattle.std.specs.declared.alloc.AllocError.{AllocError}
use Rattle.ms_trees.specs.declared.branching.Branching.{Branching}
use Rattle.ms_session.specs.Stored.{Stored, state_of}
use Rattle.std.specs.Int.Signed.{≤ℤ_refl}
use Rattle.std.specs.Prelude.{if◌then◌else◌}
use Rattle.ms_session.specs.declared.budget.Frame.{Frame}
use Rattle.ms_session.specs.declared.session.Step.{Step}
use Rattle.ms_num.specs.Sets.{set_of, span_of, declared_span, declared_spans}
use Rattle.ms_session.specs.Scopes.{SessionState, Enters, Leaves, NextGives, with_constraint, IsOpening}
use Rattle.ms_boxes.specs.Trees.{IsConstraint}
use Rattle.ms_session.specs.Laws.{AllHaveRoom, EnteringKeepsRoom, LeavingKeepsRoom, PostingKeepsRoom}
use Rattle.ms_boxes.specs.Boxes.{box_of}
use Rattle.ms_session_tests.specs.Samples.{line, square, Admits, IsFree}
use Rattle.ms_num.proofs.SharedSets.{ranges_is_set}

-- an integer tree that is fit, and what it may mean
pub record Part (b : List Span) (t : Ground) (x : Enclosure) : Type 0 where
  pub fit : is_well_formed b t ≡ true
  pub numeric : is_numeric t ≡ true
  pub means : enclosure b t ≡ x

of_layer : (b : List Span) (t : Ground) (d : F.Ground-F Ground) → out-Ground t ≡ d → well_formed_rule b (map-Ground Ground Checked (checked b) d) ≡ true → is_well_formed b t ≡ true
of_layer b t d e h = fit_out b t ∙ ap (λ z. well_formed_rule b (map-Ground Ground Checked (checked b) z)) e ∙ h

reach_layer : (b : List Span) (t : Ground) (d : F.Ground-F Ground) → out-Ground t ≡ d → enclosure b t ≡ enclosure_step b (map-Ground Ground Enclosure (enclosure b) d)
reach_layer b t d e = fold_out-Ground Enclosure (enclosure_step b) t ∙ ap (λ z. enclosure_step b (map-Ground Ground Enclosure (enclosure b) z)) e

numeric_of : (t : Ground) (d : F.Ground-F Ground) → out-Ground t ≡ d → is_numeric t ≡ numeric_layer (map-Ground Ground Bool is_numeric d)
numeric_of t d e = fold_out-Ground Bool numeric_layer t ∙ ap (λ z. numeric_layer (map-Ground Ground Bool is_numeric z)) e

variable_part : (b : List Span) (v : ℕ) → has_variable b v ≡ true → fits (Some (span_at b v)) ≡ true → Part b (g.Var v) (r.numeric_enclosure (Some (span_at b v)) false)
variable_part b v h f = record {
  fit = of_layer b (g.Var v) (F.Var v) (g.outs-Var v) (and_true (has_variable b v) (fits (Some (span_at b v))) h f);
  numeric = numeric_of (g.Var v) (F.Var v) (g.outs-Var v);
  means = reach_layer b (g.Var v) (F.Var v) (g.outs-Var v);
}

number_part : (b : List Span) (n : ℤ) → is_narrow (point n) ≡ true → Part b (g.Num n) (r.numeric_enclosure (Some (point n)) false)
number_part b n h = record {
  fit = of_layer b (g.Num n) (F.Num n) (g.outs-Num n) (and_true true (is_narrow (point n)) refl h);
  numeric = numeric_of (g.Num n) (F.Num n) (g.outs-Num n);
  means = reach_layer b (g.Num n) (F.Num n) (g.outs-Num n);
}

both_numbers : (b : List Span) (s t : Ground) (x y : Enclosure) → Part b s x → Part b t y → (is_number (checked b s) && is_number (checked b t)) ≡ true
both_numbers b s t x y p q = and_true (is_number (checked b s)) (is_number (checked b t)) (and_true (is_well_formed b s) (is_numeric s) p.fit p.numeric) (and_true (is_well_formed b t) (is_numeric t) q.fit q.numeric)

-- an operation is narrow where its results are
sum_part : (b : List Span) (s t : Ground) (x y : Enclosure) → Part b s x → Part b t y → fits (operation add_span x y).interval ≡ true → Part b (g.Add s t) (operation add_span x y)
sum_part b s t x y p q h = record {
  fit = of_layer b (g.Add s t) (F.Add s t) (g.outs-Add s t) (and_true (is_number (checked b s) && is_number (checked b t)) (fits (operation add_span (enclosure b s) (enclosure b t)).interval) (both_numbers b s t x y p q) (ap (λ z. fits (operation add_span z (enclosure b t)).interval) p.means ∙ ap (λ z. fits (operation add_span x z).interval) q.means ∙ h));
  numeric = numeric_of (g.Add s t) (F.Add s t) (g.outs-Add s t);
  means = reach_layer b (g.Add s t) (F.Add s t) (g.outs-Add s t) ∙ ap (λ z. operation add_span z (enclosure b t)) p.means ∙ ap (λ z. operation add_span x z) q.means;
}

product_part : (b : List Span) (s t : Ground) (x y : Enclosure) → Part b s x → Part b t y → fits (operation mul_span x y).interval ≡ true → Part b (g.Mul s t) (operation mul_span x y)
product_part b s t x y p q h = record {
  fit = of_layer b (g.Mul s t) (F.Mul s t) (g.outs-Mul s t) (and_true (is_number (checked b s) && is_number (checked b t)) (fits (operation mul_span (enclosure b s) (enclosure b t)).interval) (both_numbers b s t x y p q) (ap (λ z. fits (operation mul_span z (enclosure b t)).interval) p.means ∙ ap (λ z. fits (operation mul_span x z).interval) q.means ∙ h));
  numeric = numeric_of (g.Mul s t) (F.Mul s t) (g.outs-Mul s t);
  means = reach_layer b (g.Mul s t) (F.Mul s t) (g.outs-Mul s t) ∙ ap (λ z. operation mul_span z (enclosure b t)) p.means ∙ ap (λ z. operation mul_span x z) q.means;
}

remainder_part : (b : List Span) (s t : Ground) (x y : Enclosure) → Part b s x → Part b t y → fits (division mod_span x y).interval ≡ true → Part b (g.Mod s t) (division mod_span x y)
remainder_part b s t x y p q h = record {
  fit = of_layer b (g.Mod s t) (F.Mod s t) (g.outs-Mod s t) (and_true (is_number (checked b s) && is_number (checked b t)) (fits (division mod_span (enclosure b s) (enclosure b t)).interval) (both_numbers b s t x y p q) (ap (λ z. fits (division mod_span z (enclosure b t)).interval) p.means ∙ ap (λ z. fits (division mod_span x z).interval) q.means ∙ h));
  numeric = numeric_of (g.Mod s t) (F.Mod s t) (g.outs-Mod s t);
  means = reach_layer b (g.Mod s t) (F.Mod s t) (g.outs-Mod s t) ∙ ap (λ z. division mod_span z (enclosure b t)) p.means ∙ ap (λ z. division mod_span x z) q.means;
}

equal_truth : (b : List Span) (s t : Ground) (x y : Enclosure) → Part b s x → Part b t y → IsTruth b (g.Eq s t)
equal_truth b s t x y p q = record { fit = of_layer b (g.Eq s t) (F.Eq s t) (g.outs-Eq s t) (and_true (is_number (checked b s) && is_number (checked b t)) true (both_numbers b s t x y p q) refl); boolean = numeric_of (g.Eq s t) (F.Eq s t) (g.outs-Eq s t) }

unequal_truth : (b : List Span) (s t : Ground) (x y : Enclosure) → Part b s x → Part b t y → IsTruth b (g.Ne s t)
unequal_truth b s t x y p q = record { fit = of_layer b (g.Ne s t) (F.Ne s t) (g.outs-Ne s t) (and_true (is_number (checked b s) && is_number (checked b t)) true (both_numbers b s t x y p q) refl); boolean = numeric_of (g.Ne s t) (F.Ne s t) (g.outs-Ne s t) }

less_truth : (b : List Span) (s t : Ground) (x y : Enclosure) → Part b s x → Part b t y → IsTruth b (g.Lt s t)
less_truth b s t x y p q = record { fit = of_layer b (g.Lt s t) (F.Lt s t) (g.outs-Lt s t) (and_true (is_number (checked b s) && is_number (checked b t)) true (both_numbers b s t x y p q) refl); boolean = numeric_of (g.Lt s t) (F.Lt s t) (g.outs-Lt s t) }

pub true_truth : (b : List Span) → IsTruth b g.True
true_truth b = record { fit = of_layer b g.True F.True g.outs-True refl; boolean = numeric_of g.True F.True g.outs-True }

pub false_truth : (b : List Span) → IsTruth b g.False
false_truth b = record { fit = of_layer b g.False F.False g.outs-False refl; boolean = numeric_of g.False F.False g.outs-False }

-- ---- the trees over one variable

on_line : Part line (g.Var 0) (r.numeric_enclosure (Some (span_at line 0)) false)
on_line = variable_part line 0 refl refl

pub three_line : IsTruth line (g.Eq (g.Var 0) (g.Num (pos 3)))
three_line = equal_truth line (g.Var 0) (g.Num (pos 3)) _ _ on_line (number_part line (pos 3) refl)

pub above_line : IsTruth line (g.Lt (g.Num (pos 2)) (g.Var 0))
above_line = less_truth line (g.Num (pos 2)) (g.Var 0) _ _ (number_part line (pos 2) refl) on_line

pub other_line : IsTruth line (g.Ne (g.Var 0) (g.Num (pos 2)))
other_line = unequal_truth line (g.Var 0) (g.Num (pos 2)) _ _ on_line (number_part line (pos 2) refl)

-- ---- the trees of the family

x_part : Part square (g.Var 0) (r.numeric_enclosure (Some (span_at square 0)) false)
x_part = variable_part square 0 refl refl

y_part : Part square (g.Var 1) (r.numeric_enclosure (Some (span_at square 1)) false)
y_part = variable_part square 1 refl refl

pub family_two : IsTruth square (g.Eq (g.Var 0) (g.Num (pos 2)))
family_two = equal_truth square (g.Var 0) (g.Num (pos 2)) _ _ x_part (number_part square (pos 2) refl)

pub family_three : IsTruth square (g.Ne (g.Var 1) (g.Num (pos 2)))
family_three = unequal_truth square (g.Var 1) (g.Num (pos 2)) _ _ y_part (number_part square (pos 2) refl)

pub family_four : IsTruth square (g.Lt (g.Var 0) (g.Var 1))
family_four = less_truth square (g.Var 0) (g.Var 1) _ _ x_part y_part

pub family_five : IsTruth square (g.Ne (g.Var 0) (g.Var 1))
family_five = unequal_truth square (g.Var 0) (g.Var 1) _ _ x_part y_part

pub family_six : IsTruth square (g.Eq (g.Add (g.Var 0) (g.Var 1)) (g.Num (pos 3)))
family_six = equal_truth square (g.Add (g.Var 0) (g.Var 1)) (g.Num (pos 3)) _ _ (sum_part square (g.Var 0) (g.Var 1) _ _ x_part y_part refl) (number_part square (pos 3) refl)

pub family_seven : IsTruth square (g.Lt (g.Mul (g.Var 0) (g.Var 1)) (g.Num (pos 3)))
family_seven = less_truth square (g.Mul (g.Var 0) (g.Var 1)) (g.Num (pos 3)) _ _ (product_part square (g.Var 0) (g.Var 1) _ _ x_part y_part refl) (number_part square (pos 3) refl)

pub family_rest : IsTruth square (g.Eq (g.Mod (g.Var 1) (g.Var 0)) (g.Num (pos 0)))
family_rest = equal_truth square (g.Mod (g.Var 1) (g.Var 0)) (g.Num (pos 0)) _ _ (remainder_part square (g.Var 1) (g.Var 0) _ _ y_part x_part refl) (number_part square (pos 0) refl)

-- ---- what calls keep

pub on_ok : {X E : Type 0} (o : Result X E) (P Q : Type 0) → OnOk o P → (P → Q) → OnOk o Q
on_ok (Ok x) P Q p f = f p
on_ok (Err e) P Q p f = tt

pub if_ok_is : {E : Type 0} (o : Result Ground E) (t : Ground) (b : List Span) → IfOk o (λ q. q ≡ t) → IsTruth b t → IfOk o (IsTruth b)
if_ok_is (Ok q) t b e h = subst (IsTruth b) (sym e) h
if_ok_is (Err e) t b i h = tt

pub admits_same : (spans : List Span) (s t : SessionState) → t.sets ≡ s.sets → Admits spans s → Admits spans t
admits_same spans s t e h q f = subst (λ d. IsConstraint d q) (sym e) (h q f)

pub entered_free : EnteringKeepsRoom → (old new : SessionState) → Enters old new → IsFree old new
entered_free law old new e = record { room = λ fr h. law old new fr h e; sets = ap (λ (s : SessionState). s.sets) e.is }

pub left_free : LeavingKeepsRoom → (old new : SessionState) → Leaves old new → IsFree old new
left_free law old new e = record { room = λ fr h. law old new fr h e; sets = ap (λ (s : SessionState). s.sets) e.is }

pub posted_free : PostingKeepsRoom → (old new : SessionState) (q : Ground) → new ≡ with_constraint old q → IsFree old new
posted_free law old new q e = record { room = λ fr h. subst (AllHaveRoom fr) (sym e) (law old q fr h); sets = ap (λ (s : SessionState). s.sets) e }

pub step_sets : (old new : SessionState) (fr fr' : List Frame) (step : Step) → NextGives old fr step new fr' → new.sets ≡ old.sets
step_sets old new fr fr' step s = ap (λ (q : SessionState). q.sets) s.is

-- ---- declared sets within the intervals

inside_declared : (ss : List Span) (lo hi : ℤ) → IsRanges ss → lo ≤ℤ pos 0 → pos 0 ≤ℤ hi → ((z : ℤ) → is_member ss z ≡ true → lo ≤ℤ z) → ((z : ℤ) → is_member ss z ≡ true → z ≤ℤ hi) → Inside (declared_span (set_of ss)) (record { lo = lo; hi = hi })
inside_declared [] lo hi i l h from to = record { lo = l; proper = ≤ℤ_refl (pos 0); hi = h }
inside_declared (s ∷ ss) lo hi i l h from to =
    let k = ranges_is_set (s ∷ ss) i (λ e. absurd (cc)) in
    subst (λ t. Inside (if t then span_of (set_of (s ∷ ss)) else record { lo = pos 0; hi = pos 0 }) (record { lo = lo; hi = hi })) (sym (of_le (set_of (s ∷ ss)).lo (set_of (s ∷ ss)).hi (k.from (set_of (s ∷ ss)).hi k.high)))
    (record { lo = from (set_of (s ∷ ss)).lo k.low; proper = k.from (set_of (s ∷ ss)).hi k.high; hi = to (set_of (s ∷ ss)).hi k.high })

-- on the first interval alone, or on both
smaller_one : (s t : Span) → Inside s t → IsSmaller (s ∷ []) (t ∷ [])
smaller_one s t i = record { inside = at }
  where
    at : (v : ℕ) → HasVariable (t ∷ []) v → Inside (span_at (s ∷ []) v) (span_at (t ∷ []) v)
    at zero h = i
    at (suc v) h = absurd (let l = h.within in omega (arith, l))

smaller_two : (s t u v : Span) → Inside s t → Inside u v → IsSmaller (s ∷ u ∷ []) (t ∷ v ∷ [])
smaller_two s t u v i j = record { inside = at }
  where
    at : (n : ℕ) → HasVariable (t ∷ v ∷ []) n → Inside (span_at (s ∷ u ∷ []) n) (span_at (t ∷ v ∷ []) n)
    at zero h = i
    at (suc zero) h = j
    at (suc (suc n)) h = absurd (let l = h.within in omega (arith, l))

truth_smaller : SmallerBoxesStayWellFormed → (b c : List Span) → length b ≡ length c → IsSmaller b c → (q : Ground) → IsTruth c q → IsTruth b q
truth_smaller law b c e m q f = record { fit = law b c e m q f.fit; boolean = f.boolean }

pub line_admits : SmallerBoxesStayWellFormed → (high : ℤ) → pos 1 ≤ℤ high → high ≤ℤ pos 4 → (s : SessionState) → s.sets ≡ box_of ((record { lo = pos 1; hi = high } ∷ []) ∷ []) → Admits line s
line_admits law high low up s e q f = subst (λ d. IsConstraint d q) (sym e) (truth_smaller law (declared_spans (box_of ((record { lo = pos 1; hi = high } ∷ []) ∷ []))) line refl (smaller_one (declared_span (set_of (record { lo = pos 1; hi = high } ∷ []))) (record { lo = pos 1; hi = pos 4 }) at) q f)
  where
    at : Inside (declared_span (set_of (record { lo = pos 1; hi = high } ∷ []))) (record { lo = pos 1; hi = pos 4 })
    at = subst (λ t. Inside (if t then record { lo = pos 1; hi = high } else record { lo = pos 0; hi = pos 0 }) (record { lo = pos 1; hi = pos 4 })) (sym (of_le (pos 1) high low)) (record { lo = ≤ℤ_refl (pos 1); proper = low; hi = up })

pub square_admits : SmallerBoxesStayWellFormed → (xs ys : List Span) → IsRanges ys → xs ≡ record { lo = pos 0; hi = pos 2 } ∷ [] → ((z : ℤ) → is_member ys z ≡ true → has (record { lo = pos 0; hi = pos 3 }) z ≡ true) → (q : Ground) → IsTruth square q → IsConstraint (box_of (xs ∷ ys ∷ [])) q
square_admits law xs ys i e m q f = subst (λ x. IsConstraint (box_of (x ∷ ys ∷ [])) q) (sym e) (truth_smaller law (declared_spans (box_of ((record { lo = pos 0; hi = pos 2 } ∷ []) ∷ ys ∷ []))) square refl (smaller_two (record { lo = pos 0; hi = pos 2 }) (record { lo = pos 0; hi = pos 3 }) (declared_span (set_of ys)) (record { lo = pos 0; hi = pos 3 }) (record { lo = ≤ℤ_refl (pos 0); proper = omega (arith, ints); hi = omega (arith, ints) }) (inside_declared ys (pos 0) (pos 3) i (≤ℤ_refl (pos 0)) (omega (arith, ints)) (λ z h. (has_from (record { lo = pos 0; hi = pos 3 }) z (m z h)).from) (λ z h. (has_from (record { lo = pos 0; hi = pos 3 }) z (m z h)).to))) q f)

-- on the points of the square
pub square_holds : SmallerBoxesStayWellFormed → (x y : ℕ) → x < 4 → y < 4 → (q : Ground) → IsTruth square q → is_well_formed (points (pos x ∷ pos y ∷ [])) q ≡ true
square_holds law x y lx ly q f = law (points (pos x ∷ pos y ∷ [])) square refl (smaller_two (point (pos x)) (record { lo = pos 0; hi = pos 3 }) (point (pos y)) (record { lo = pos 0; hi = pos 3 }) (at x lx) (at y ly)) q f.fit
  where
    at : (n : ℕ) → n < 4 → Inside (point (pos n)) (record { lo = pos 0; hi = pos 3 })
    at n l = record { lo = omega (arith, ints); proper = ≤ℤ_refl (pos n); hi = omega (arith, ints, l) }

-- ---- what the samples' functions read back

pub square_read : SmallerBoxesStayWellFormed → (m n : ℤ) (x y : ℕ) → m ≡ pos x → n ≡ pos y → x < 4 → y < 4 → (q : Ground) → IsTruth square q → is_well_formed (point (to_z w64 (of_z w64 m)) ∷ point (to_z w64 (of_z w64 n)) ∷ []) q ≡ true
square_read law m n x y em en lx ly q f = subst (λ z. is_well_formed (point z ∷ point (to_z w64 (of_z w64 n)) ∷ []) q ≡ true) (sym (read m x em lx)) (subst (λ z. is_well_formed (point (pos x) ∷ point z ∷ []) q ≡ true) (sym (read n y en ly)) (square_holds law x y lx ly q f))
  where
    read : (m : ℤ) (x : ℕ) → m ≡ pos x → x < 4 → to_z w64 (of_z w64 m) ≡ pos x
    read m x e l = read_51 m (omega (arith, ints, e)) (omega (arith, ints, e, l)) ∙ e

pub within_whole : (ys zs : List Span) (s : Span) (keep : ℤ → Bool) → zs ≡ s ∷ [] → ((z : ℤ) → is_member ys z ≡ (is_member zs z && keep z)) → (z : ℤ) → is_member ys z ≡ true → has s z ≡ true
within_whole ys zs s keep e m z h = alone (has s z) (and_left (is_member (s ∷ []) z) (keep z) (sym (m z ∙ ap (λ w. is_member w z && keep z) e) ∙ h))
  where
    alone : (b : Bool) → (b || false) ≡ true → b ≡ true
    alone true e = refl
    alone false e = e

pub opened_admits : SmallerBoxesStayWellFormed → (high : ℤ) → pos 1 ≤ℤ high → high ≤ℤ pos 4 → (ranges : List Span) (br : Branching) (cons : List Ground) (o : Result Stored AllocError) → ranges ≡ record { lo = pos 1; hi = high } ∷ [] → IfOk o (λ s. IsOpening (set_of ranges ∷ []) br cons (state_of s)) → IfOk o (λ s. Admits line (state_of s))
opened_admits law high low up ranges br cons (Ok s) e h = line_admits law high low up (state_of s) (h.sets ∙ ap (λ q. set_of q ∷ []) e)
opened_admits law high low up ranges br cons (Err x) e h = tt

pub high_read : (high : ℤ) → pos 1 ≤ℤ high → high ≤ℤ pos 4 → to_z w64 (of_z w64 high) ≡ high
high_read high l h = read_51 high (omega (arith, ints, l)) (omega (arith, ints, h))

-- a tree over a part that is known by an equation
pub truth_of : (b : List Span) (part whole : Ground) (around : Ground → Ground) → part ≡ whole → IsTruth b (around whole) → IsTruth b (around part)
truth_of b part whole around e h = subst (λ q. IsTruth b (around q)) (sym e) h
