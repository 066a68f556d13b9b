-- An assignment of data, by its place.
use Rattle.std.proofs.Common.{◌≡◌, ℕ, List, map, option_map, ap, sym}
use Rattle.std.specs.Prelude.{slice_get}
use Rattle.std.proofs.lemmas.Option.{slice_get-map}
use Rattle.ms_syntax.specs.Tree.{assignment_view}
use Rattle.ms_syntax.specs.declared.tree.Assignment.{Assignment}
use Rattle.ms_typing.specs.declared.types.ExprType.{ExprType}
use Rattle.ms_typing.specs.Meaning.{World}
use Rattle.ms_made.specs.Giving.{given_datum}

pub datum_at : (world : World) (t : ExprType) (list : List Assignment) (n : ℕ)
    → given_datum world t (option_map assignment_view (slice_get list n)) ≡ given_datum world t (slice_get (map assignment_view list) n)
datum_at world t list n = ap (given_datum world t) (sym (slice_get-map assignment_view list n))
