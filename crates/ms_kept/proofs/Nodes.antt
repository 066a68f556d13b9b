-- Each node of one, two or three parts.
use Rattle.std.proofs.Common.{◌≡◌, ◌∙◌, ℕ, ◌+◌, ◌||◌, Bool, true, false, not, List, length, Some, None, refl, sym, ap, arith}
use Rattle.ms_num.specs.Span.{Span, add_span, sub_span, mul_span, div_span, mod_span, neg_span, abs_span}
use Rattle.ms_trees.specs.Value.{iff, imp, xor}
use Rattle.ms_trees.specs.Enclosure as r
use Rattle.ms_trees.specs.Enclosure.{enclosure, span_at}
use Rattle.ms_trees.specs.Size as s
use Rattle.ms_trees.specs.WellFormed.{fits}
use Rattle.ms_trees.specs.declared.tree.Enclosure.{Enclosure}
use Rattle.ms_trees.specs.declared.tree.Ground.{Ground}
use Rattle.ms_trees.specs.declared.tree.Ground.TheVariants as g
use Rattle.ms_trees.specs.declared.tree.Ground.TheFolds.{the_lemmas}
use Rattle.ms_tree_nodes.specs.Nodes as n
use Rattle.ms_kept.specs.Laws as l
use Rattle.ms_kept.proofs.Joined.{joined, meant, sized, nested, one_more, of_one, of_two, of_three, if_any}

-- ---- leaves

pub numbers : l.NumbersAreKept
numbers sets (Some z) = joined sets (g.Num z) _ _ _ (search the_lemmas) (search the_lemmas) (search the_lemmas)
numbers sets None = joined sets g.Undef _ _ _ (search the_lemmas) (search the_lemmas) (search the_lemmas)

pub truths : l.TruthsAreKept
truths sets true = joined sets g.True _ _ _ (search the_lemmas) (search the_lemmas) (search the_lemmas)
truths sets false = joined sets g.False _ _ _ (search the_lemmas) (search the_lemmas) (search the_lemmas)

pub variables : l.VariablesAreKept
variables sets v = joined sets (g.Var v) _ _ _ (search the_lemmas) (search the_lemmas) (search the_lemmas)

pub bit_variables : l.BitVariablesAreKept
bit_variables sets v = joined sets (g.BVar v) _ _ _ (search the_lemmas) (search the_lemmas) (search the_lemmas)

-- ---- numbers

-- none where what they may mean leaves the limits
two_narrow : (f : Ground → Ground → Ground) (m : Enclosure → Enclosure → Enclosure) → l.KeepsTwo (λ x y. n.over_two f x y (m x.enclosure y.enclosure)) → l.KeepsTwoIfAny (n.narrow_two f m)
two_narrow f m keeps sets x y h k = if_any sets (n.over_two f x y) (fits (m x.enclosure y.enclosure).interval) (m x.enclosure y.enclosure) (keeps sets x y h k)

one_narrow : (f : Ground → Ground) (m : Enclosure → Enclosure) → l.KeepsOne (λ x. n.over_one f x (m x.enclosure)) → l.KeepsOneIfAny (n.narrow_one f m)
one_narrow f m keeps sets x h = if_any sets (n.over_one f x) (fits (m x.enclosure).interval) (m x.enclosure) (keeps sets x h)

pub sum : l.KeepsTwoIfAny n.sum
sum = two_narrow g.Add (r.operation add_span) (λ sets x y. of_two sets g.Add (r.operation add_span) x y (search the_lemmas) (search the_lemmas) (search the_lemmas))

pub difference : l.KeepsTwoIfAny n.difference
difference = two_narrow g.Sub (r.operation sub_span) (λ sets x y. of_two sets g.Sub (r.operation sub_span) x y (search the_lemmas) (search the_lemmas) (search the_lemmas))

pub product : l.KeepsTwoIfAny n.product
product = two_narrow g.Mul (r.operation mul_span) (λ sets x y. of_two sets g.Mul (r.operation mul_span) x y (search the_lemmas) (search the_lemmas) (search the_lemmas))

pub quotient : l.KeepsTwoIfAny n.quotient
quotient = two_narrow g.Div (r.division div_span) (λ sets x y. of_two sets g.Div (r.division div_span) x y (search the_lemmas) (search the_lemmas) (search the_lemmas))

pub remainder : l.KeepsTwoIfAny n.remainder
remainder = two_narrow g.Mod (r.division mod_span) (λ sets x y. of_two sets g.Mod (r.division mod_span) x y (search the_lemmas) (search the_lemmas) (search the_lemmas))

pub negation : l.KeepsOneIfAny n.negation
negation = one_narrow g.Neg (r.image_enclosure neg_span) (λ sets x. of_one sets g.Neg (r.image_enclosure neg_span) x (search the_lemmas) (search the_lemmas) (search the_lemmas))

pub magnitude : l.KeepsOneIfAny n.magnitude
magnitude = one_narrow g.Abs (r.image_enclosure abs_span) (λ sets x. of_one sets g.Abs (r.image_enclosure abs_span) x (search the_lemmas) (search the_lemmas) (search the_lemmas))

-- the interval of a tree that may be true or false
some_bits : (yes no : Bool) → (yes || no) ≡ true → n.bits yes no ≡ Some (r.bits yes no)
some_bits true true h = refl
some_bits true false h = refl
some_bits false true h = refl
some_bits false false h = cc

pub bits : l.BitsAreKept
bits sets x some h =
    let m = meant sets x h in
    joined sets (g.ToInt x.tree) _ _ _ (ap (λ o. r.numeric_enclosure o false) (some_bits x.enclosure.may_be_true x.enclosure.may_be_false some) ∙ ap (λ (q : Enclosure). r.numeric_enclosure (Some (r.bits q.may_be_true q.may_be_false)) false) m ∙ sym (fold sets x.tree))
    (one_more x.size (s.size_of x.tree) _ (sized sets x h) (search the_lemmas)) (one_more x.nesting (s.nesting_of x.tree) _ (nested sets x h) (search the_lemmas))
  where
    fold : (sets : List Span) (t : Ground) → enclosure sets (g.ToInt t) ≡ r.numeric_enclosure (Some (r.bits (enclosure sets t).may_be_true (enclosure sets t).may_be_false)) false
    fold sets t = search the_lemmas

pub choice : l.KeepsThree n.choice
choice sets c x y = of_three sets g.IteI r.either_number c x y (search the_lemmas) (search the_lemmas) (search the_lemmas)

-- ---- truth values

pub denial : l.KeepsOne n.denial
denial sets x = of_one sets g.Not (λ q. r.boolean_enclosure q.may_be_false q.may_be_true) x (search the_lemmas) (search the_lemmas) (search the_lemmas)

pub equivalence : l.KeepsTwo n.equivalence
equivalence sets x y = of_two sets g.Iff (r.combined iff) x y (search the_lemmas) (search the_lemmas) (search the_lemmas)

pub implication : l.KeepsTwo n.implication
implication sets x y = of_two sets g.Imp (r.combined imp) x y (search the_lemmas) (search the_lemmas) (search the_lemmas)

pub exclusive : l.KeepsTwo n.exclusive
exclusive sets x y = of_two sets g.Xor (r.combined xor) x y (search the_lemmas) (search the_lemmas) (search the_lemmas)

pub choice_of_truths : l.KeepsThree n.choice_of_truths
choice_of_truths sets c x y = of_three sets g.IteB r.either_truth c x y (search the_lemmas) (search the_lemmas) (search the_lemmas)

-- ---- comparisons

pub equal : l.KeepsTwo n.equal
equal sets x y = of_two sets g.Eq (r.comparison r.meets r.may_differ) x y (search the_lemmas) (search the_lemmas) (search the_lemmas)

pub unequal : l.KeepsTwo n.unequal
unequal sets x y = of_two sets g.Ne (r.comparison r.may_differ r.meets) x y (search the_lemmas) (search the_lemmas) (search the_lemmas)

pub less : l.KeepsTwo n.less
less sets x y = of_two sets g.Lt (r.comparison r.may_be_less r.may_be_at_least) x y (search the_lemmas) (search the_lemmas) (search the_lemmas)

pub at_most : l.KeepsTwo n.at_most
at_most sets x y = of_two sets g.Le (r.comparison r.may_be_at_most r.may_be_greater) x y (search the_lemmas) (search the_lemmas) (search the_lemmas)

in_set : List Span → Enclosure → Enclosure
in_set rs q = r.boolean_enclosure (r.test_interval (r.may_be_in rs) q.interval) (q.may_be_undefined || r.test_interval (λ p. not (r.is_inside rs p)) q.interval)

pub member : l.MembersAreKept
unfolding in_set
member rs sets x h =
    joined sets (g.In x.tree rs) (in_set rs x.enclosure) _ _ (ap (in_set rs) (meant sets x h) ∙ sym (search the_lemmas)) (counted x.size (s.size_of x.tree) (length rs) _ (sized sets x h) (search the_lemmas)) (one_more x.nesting (s.nesting_of x.tree) _ (nested sets x h) (search the_lemmas))
  where
    counted : (a m k t : ℕ) → a ≡ n.cap m → t ≡ 1 + m + k → n.above (a + k) ≡ n.cap t
    counted a m k t e h = omega (arith, e, h)
