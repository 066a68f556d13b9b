-- The order in which the code asks for the types of both texts.
use Rattle.std.specs.Prelude.{List}
use Rattle.ms_syntax.specs.Tree.{It}
use Rattle.ms_typing.specs.Items.{items_terms}
use Rattle.ms_typing.specs.Least.{Typing, and_then, typings}
use Rattle.ms_typing.specs.Meaning.{World}
use Rattle.ms_items.specs.Parts.{checked}

-- the library's items, and then the model's
abbrev pub walk_texts : World → List It → List It → Typing (Unit {0})
walk_texts world library model = and_then (checked (typings (items_terms world library))) (λ a. checked (typings (items_terms world model)))
