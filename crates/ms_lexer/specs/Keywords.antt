-- The groups of keywords in which a word is looked for.
use Rattle.std.specs.Prelude.{List, [], ◌∷◌}
use Rattle.ms_syntax.specs.declared.token.Keyword.{Keyword}
use Rattle.ms_syntax.specs.declared.token.Keyword.TheVariants as k

abbrev pub ann_to_endif : List Keyword
ann_to_endif = k.Ann ∷ k.Array ∷ k.Bool ∷ k.Constraint ∷ k.Div ∷ k.Else ∷ k.Elseif ∷ k.Endif ∷ []

abbrev pub enum_to_let : List Keyword
enum_to_let = k.Enum ∷ k.False ∷ k.Function ∷ k.If ∷ k.In ∷ k.Include ∷ k.Int ∷ k.Let ∷ []

abbrev pub maximize_to_predicate : List Keyword
maximize_to_predicate = k.Maximize ∷ k.Minimize ∷ k.Mod ∷ k.Not ∷ k.Of ∷ k.Output ∷ k.Par ∷ k.Predicate ∷ []

abbrev pub satisfy_to_xor : List Keyword
satisfy_to_xor = k.Satisfy ∷ k.Search ∷ k.Set ∷ k.Solve ∷ k.String ∷ k.Then ∷ k.True ∷ k.Var ∷ k.Where ∷ k.Xor ∷ []
