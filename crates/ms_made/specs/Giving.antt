-- The value that is given to a declaration, as a typed tree with the file that gives it.
use Rattle.std.specs.Prelude.{ℕ, List, [], Bool, true, false, slice_get, Option, Some, None, if◌then◌else◌}
use Rattle.ms_syntax.specs.Tree.{Ex}
use Rattle.ms_typing.specs.declared.types.ExprType.{ExprType}
use Rattle.ms_typing.specs.declared.types.Surroundings.TheVariants as s
use Rattle.ms_typing.specs.Conversion.{converts}
use Rattle.ms_typing.specs.Least.{Typing, typing}
use Rattle.ms_typing.specs.Least as l
use Rattle.ms_typing.specs.Meaning.{World}
use Rattle.ms_typing.specs.Term.{term_of}
use Rattle.ms_code.specs.Items.{data_code}
use Rattle.ms_code.specs.declared.code.Code.{Code}
use Rattle.ms_code.specs.declared.item.Declaration.{Declaration}
use Rattle.ms_code.specs.declared.item.Item.{Item}
use Rattle.ms_code.specs.declared.item.Item.TheVariants as i
use Rattle.ms_items.specs.Declaring.{declarers}
use Rattle.ms_types.specs.Texts.{model_of, names_among}
use Rattle.ms_types.specs.declared.typed.Typed.{Typed}
use Rattle.ms_instance.specs.Views.{model_items}
use Rattle.ms_given.specs.Givings.{Pair}
use Rattle.ms_given.specs.declared.source.Source.{Source}
use Rattle.ms_given.specs.declared.source.Source.TheVariants as g
use Rattle.ms_declared.specs.Values.{Given}

-- ---- the declaration of the name with this number; a function has none

abbrev pub declaration_of : Option Item → Option Declaration
declaration_of (Some (i.Declare d)) = Some d
declaration_of other = None

abbrev pub item_at : List Item → Option ℕ → Option Item
item_at is None = None
item_at is (Some k) = slice_get is k

abbrev pub declaration_at : Typed → ℕ → Option Declaration
declaration_at typed n = declaration_of (item_at (model_items typed) (slice_get (declarers 0 (model_of typed).0) n))

-- ---- data: a value of the declared type, which names nothing

abbrev pub fits_kind : ExprType → Typing ExprType → Bool
fits_kind t (l.has u) = converts u t
fits_kind t (l.fault why p) = false

abbrev pub typed_data : World → ExprType → Ex → Option Code
typed_data world t e = if fits_kind t (typing (term_of world s.Data [] e)) then Some (data_code t world e) else None

abbrev pub given_datum : World → ExprType → Option Pair → Option Given
given_datum world t None = None
given_datum world t (Some d) = Some (record { file = d.0.file; code = typed_data world t d.2 })

-- ---- an assignment item

abbrev pub given_item : Option Item → Option Given
given_item (Some (i.Assign p number e)) = Some (record { file = p.file; code = Some e })
given_item other = None

-- ---- all of them

abbrev pub given_by : Typed → List Pair → Declaration → Option Source → Option Given
given_by typed pairs d None = None
given_by typed pairs d (Some g.Declaration) = Some (record { file = d.place.file; code = d.value })
given_by typed pairs d (Some (g.Item n)) = given_item (slice_get (model_items typed) n)
given_by typed pairs d (Some (g.Datum n)) = given_datum (names_among typed) d.kind (slice_get pairs n)
