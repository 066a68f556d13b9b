-- The nodes of a chain are its operators as they group.
use Rattle.std.proofs.Common.{◌≡◌, Bool, true, false, refl, ap}
use Rattle.std.specs.Prelude.{if◌then◌else◌, ◌==◌}
use Rattle.ms_syntax.specs.Grouping.{Grouped, operand, operation, to_left, to_right}
use Rattle.ms_syntax.specs.Tree.{Ex, Links, link, no_links, of_concat}
use Rattle.ms_typing.specs.declared.types.Surroundings.{Surroundings}
use Rattle.ms_typing.specs.Judged.{ChainsGroup, grouped_term}
use Rattle.ms_typing.specs.Meaning.{Names, World}
use Rattle.ms_typing.specs.Term.{Term, left_term, node, one_term, right_term, term, term_of, two_terms}
use Rattle.ms_typing.specs.Term as f

module _ (world : World) (around : Surroundings) (ns : Names) where
  to_the_left : (g : Grouped) (links : Links) → left_term world around ns (grouped_term world around ns g) links ≡ grouped_term world around ns (to_left g links)
  to_the_left g no_links = refl
  to_the_left g (link op p e links) = to_the_left (operation op p g (operand e)) links

  to_the_right : (e : Ex) (links : Links) → right_term world around ns (term_of world around ns e) links ≡ grouped_term world around ns (to_right e links)
  to_the_right e no_links = refl
  to_the_right e (link op p d links) = ap (λ (t : Term). node p (f.operation op) (two_terms (term_of world around ns e) t)) (to_the_right d links)

  either_way : (b : Bool) (e : Ex) (links : Links)
      → (if b then right_term world around ns (term_of world around ns e) links else left_term world around ns (term_of world around ns e) links)
      ≡ grouped_term world around ns (if b then to_right e links else to_left (operand e) links)
  either_way true e links = to_the_right e links
  either_way false e links = to_the_left (operand e) links

pub chains_group : ChainsGroup
chains_group world around ns level e links = either_way world around ns (level == of_concat) e links
