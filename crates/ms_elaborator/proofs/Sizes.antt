-- The lists of an expression are smaller than it.
use Rattle.std.proofs.Common.{◌≡◌, ◌<◌, List, Box, Vec, Global, rules}
use denote.Param.Weighed.{most}
use Rattle.ms_syntax.specs.declared.token.Place.{Place}
use Rattle.ms_syntax.specs.declared.tree.Expr.{Expr, the_lemmas}
use Rattle.ms_syntax.specs.declared.tree.Expr as expr
use Rattle.ms_syntax.specs.declared.tree.Expr.TheVariants as v
use Rattle.ms_syntax.specs.declared.tree.Link.{Link}
use Rattle.ms_syntax.specs.declared.tree.Link as link
use Rattle.ms_syntax.specs.declared.tree.Subscript.{Subscript}
use Rattle.ms_syntax.specs.declared.tree.Subscript as subscript

module _ (e : Expr) (first : Box Expr Global) (links : Vec Link Global) (xs : List Link) where
  pub in_equivalence : e ≡ v.Equivalence first links → xs ≡ links.items → most (λ (x : Link). link.size-Link x) xs < expr.size-Expr e
  in_equivalence h k = search (rules, the_lemmas)

  pub in_implication : e ≡ v.Implication first links → xs ≡ links.items → most (λ (x : Link). link.size-Link x) xs < expr.size-Expr e
  in_implication h k = search (rules, the_lemmas)

  pub in_disjunction : e ≡ v.Disjunction first links → xs ≡ links.items → most (λ (x : Link). link.size-Link x) xs < expr.size-Expr e
  in_disjunction h k = search (rules, the_lemmas)

  pub in_conjunction : e ≡ v.Conjunction first links → xs ≡ links.items → most (λ (x : Link). link.size-Link x) xs < expr.size-Expr e
  in_conjunction h k = search (rules, the_lemmas)

  pub in_sum : e ≡ v.Sum first links → xs ≡ links.items → most (λ (x : Link). link.size-Link x) xs < expr.size-Expr e
  in_sum h k = search (rules, the_lemmas)

  pub in_product : e ≡ v.Product first links → xs ≡ links.items → most (λ (x : Link). link.size-Link x) xs < expr.size-Expr e
  in_product h k = search (rules, the_lemmas)

  pub in_concatenation : e ≡ v.Concatenation first links → xs ≡ links.items → most (λ (x : Link). link.size-Link x) xs < expr.size-Expr e
  in_concatenation h k = search (rules, the_lemmas)

pub in_access : (e : Expr) (p : Place) (array : Box Expr Global) (is : Vec Subscript Global) (xs : List Subscript) → e ≡ v.Access p array is → xs ≡ is.items
    → most (λ (x : Subscript). subscript.size-Subscript x) xs < expr.size-Expr e
in_access e p array is xs h k = search (rules, the_lemmas)
