-- What contracts see of an instance.
use Rattle.std.specs.Prelude.{List, slice_get, Option, None}
use Rattle.ms_num.specs.Span.{Span}
use Rattle.ms_trees.specs.declared.tree.Ground.{Ground}
use Rattle.ms_code.specs.declared.code.Code.{Code}
use Rattle.ms_code.specs.declared.code.Reference.{Reference}
use Rattle.ms_code.specs.declared.code.Reference.TheVariants as r
use Rattle.ms_code.specs.declared.item.Item.{Item}
use Rattle.ms_items.specs.Declaring.{declarers}
use Rattle.ms_types.specs.Texts.{model_of, library_of}
use Rattle.ms_types.specs.declared.typed.Typed.{Typed}
use Rattle.ms_values.specs.declared.operand.Operand.{Operand}
use Rattle.ms_rules.specs.Calls.{nothing}
use Rattle.ms_instance.specs.declared.instance.Instance.{Instance}
use Rattle.ms_instance.specs.Instances.{intervals_of}
use Rattle.ms_instance.specs.Names.{body_at, value_or_nothing}
pub use Rattle.ms_instance.specs.Reading.{model_items, library_items}

abbrev pub text_of : Instance → Typed
text_of i = i.typed

abbrev pub sets_of : Instance → List (List Span)
sets_of i = i.sets.items

abbrev pub constraints_of : Instance → List Ground
constraints_of i = i.constraints

abbrev pub values_of : Instance → List Operand
values_of i = i.values

abbrev pub spans_of : Instance → List Span
spans_of i = intervals_of (sets_of i)

-- the value of a declared name; functions and what is not declared outside of an expression have none
abbrev pub value_in : Instance → Reference → Operand
value_in i (r.Local k) = nothing
value_in i (r.Model k) = value_or_nothing (slice_get (values_of i) k)
value_in i (r.Library k) = nothing
value_in i (r.BuiltIn b) = nothing

-- ---- bodies of functions

abbrev pub read_in : (Item → Option Code) → Typed → Reference → Option Code
read_in read t (r.Local k) = None
read_in read t (r.Model k) = body_at read (model_items t) (declarers 0 (model_of t).0) k
read_in read t (r.Library k) = body_at read (library_items t) (declarers 0 (library_of t).0) k
read_in read t (r.BuiltIn b) = None
