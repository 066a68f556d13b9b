-- What an expression adds to the generators that a list of expressions is.
use Rattle.std.specs.Prelude.{ℕ, List, Option, Some, None, ◌==◌, if◌then◌else◌}
use Rattle.ms_syntax.specs.declared.token.Place.{Place}
use Rattle.ms_syntax.specs.declared.tree.Operator.TheVariants as o
use Rattle.ms_syntax.specs.Tree as x
use Rattle.ms_syntax.specs.Tree.{Ex, Maybe, of_membership}

-- a name, or a name that is said to be in a set, with the set
abbrev pub part_of : Ex → Option ((Place × List ℕ) × Maybe)
part_of (x.name p w) = Some ((p, w), x.absent)
part_of (x.chain l (x.name p w) (x.link o.In q e x.no_links)) = if l == of_membership then Some ((p, w), x.present e) else None
part_of _ = None
