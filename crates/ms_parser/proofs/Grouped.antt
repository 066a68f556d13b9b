-- How chains group.
use Rattle.std.proofs.Common.{◌≡◌, ◌≤◌, ℕ, Bool, true, false, refl, sym, ap, ◌∙◌, subst, arith}
use Rattle.std.specs.Prelude.{◌==◌, if◌then◌else◌}
use Rattle.ms_syntax.specs.declared.token.Place.{Place}
use Rattle.ms_syntax.specs.declared.tree.Operator.{Operator}
use Rattle.ms_syntax.specs.declared.tree.Operator.TheVariants as o
use Rattle.ms_syntax.specs.Tree.{Ex, Links, chain, no_links, link, of_concat, of_range, of_comparison}
use Rattle.ms_syntax.specs.Grammar.{Tokens, Writes, WritesLinks, IsChain, operands, single}
use Rattle.ms_syntax.specs.Grouping.{Grouped, operand, operation, to_left, to_right, grouped, followed_by}

to_left_last : (g : Grouped) (f : Ex) (links : Links) (op : Operator) (p : Place) → to_left g (followed_by links op p f) ≡ operation op p (to_left g links) (operand f)
to_left_last g f no_links op p = refl
to_left_last g f (link op2 p2 e2 more) op p = to_left_last (operation op2 p2 g (operand e2)) f more op p

pub left_law : (n : ℕ) (e f : Ex) (links : Links) (op : Operator) (p : Place) → (n == of_concat) ≡ false → grouped n e (followed_by links op p f) ≡ operation op p (grouped n e links) (operand f)
left_law n e f links op p h =
    ap (λ b. if b then to_right e (followed_by links op p f) else to_left (operand e) (followed_by links op p f)) h ∙ to_left_last (operand e) f links op p
    ∙ ap (λ b. operation op p (if b then to_right e links else to_left (operand e) links) (operand f)) (sym h)

pub right_law : (e f : Ex) (links : Links) (op : Operator) (p : Place) → grouped of_concat e (link op p f links) ≡ operation op p (operand e) (grouped of_concat f links)
right_law e f links op p = refl

pub alone_law : (n : ℕ) (e : Ex) → grouped n e no_links ≡ operand e
alone_law n e = by (n == of_concat)
  where
    by : (b : Bool) → (if b then to_right e no_links else to_left (operand e) no_links) ≡ operand e
    by true = refl
    by false = refl

-- ---- levels with one operator at most

single_at : (op : Operator) → of_range ≤ operands op → operands op ≤ of_comparison → single op ≡ true
single_at o.Equivalent low high = absurd (omega arith)
single_at o.Implies low high = absurd (omega arith)
single_at o.ImpliedBy low high = absurd (omega arith)
single_at o.Or low high = absurd (omega arith)
single_at o.Xor low high = absurd (omega arith)
single_at o.And low high = absurd (omega arith)
single_at o.Equal low high = refl
single_at o.NotEqual low high = refl
single_at o.Less low high = refl
single_at o.AtMost low high = refl
single_at o.Greater low high = refl
single_at o.AtLeast low high = refl
single_at o.In low high = refl
single_at o.To low high = refl
single_at o.Plus low high = absurd (omega arith)
single_at o.Minus low high = absurd (omega arith)
single_at o.Times low high = absurd (omega arith)
single_at o.Div low high = absurd (omega arith)
single_at o.Mod low high = absurd (omega arith)
single_at o.Concat low high = absurd (omega arith)

both_truths : (b : Bool) → b ≡ true → b ≡ false → ⊥
both_truths b t f = cc

one_link : (n : ℕ) (links : Links) (w : Tokens) → of_range ≤ n → n ≤ of_comparison → IsChain links → WritesLinks n links w → (op : Operator) × (p : Place) × (f : Ex) × (links ≡ link op p f no_links)
one_link n no_links w low high chained written = absurd chained
one_link n (link op p f no_links) w low high chained written = (op, p, f, refl)
one_link n (link op p f (link op2 p2 f2 more)) w low high chained written =
    let level : operands op ≡ n = written.0 in
    absurd (both_truths (single op) (single_at op (subst (λ k. of_range ≤ k) (sym level) low) (subst (λ k. k ≤ of_comparison) (sym level) high)) chained)

pub one_operator : (n : ℕ) (e : Ex) (links : Links) (w : Tokens) → of_range ≤ n → n ≤ of_comparison → Writes (chain n e links) w → (op : Operator) × (p : Place) × (f : Ex) × (links ≡ link op p f no_links)
one_operator n e links w low high (chained, (u, v, whole, first, rest)) = one_link n links v low high chained rest
