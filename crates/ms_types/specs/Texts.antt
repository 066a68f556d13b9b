-- Both texts of a checked model.
use Rattle.ms_syntax.specs.Tree.{Items, tree_view}
use Rattle.ms_typing.specs.Items.{world_of}
use Rattle.ms_typing.specs.Meaning.{World}
use Rattle.ms_types.specs.declared.typed.Typed.{Typed}

abbrev pub model_of : Typed → Items
model_of t = tree_view t.tree

abbrev pub library_of : Typed → Items
library_of t = tree_view t.library

-- the names that the items of both declare
abbrev pub names_among : Typed → World
names_among t = world_of (model_of t).0 (library_of t).0
