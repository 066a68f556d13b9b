-- The keywords and their bytes.
use Rattle.std.specs.Prelude.{ℕ, List, [], ◌∷◌, Option, Some, None, if◌then◌else◌, codes}
use Rattle.std.specs.Str.{bytes_eq}
use Rattle.ms_syntax.specs.declared.token.Keyword.{Keyword}
use Rattle.ms_syntax.specs.declared.token.Keyword.TheVariants as k

abbrev pub keyword_bytes : Keyword → List ℕ
keyword_bytes k.Ann = codes "ann"
keyword_bytes k.Array = codes "array"
keyword_bytes k.Bool = codes "bool"
keyword_bytes k.Constraint = codes "constraint"
keyword_bytes k.Div = codes "div"
keyword_bytes k.Else = codes "else"
keyword_bytes k.Elseif = codes "elseif"
keyword_bytes k.Endif = codes "endif"
keyword_bytes k.Enum = codes "enum"
keyword_bytes k.False = codes "false"
keyword_bytes k.Function = codes "function"
keyword_bytes k.If = codes "if"
keyword_bytes k.In = codes "in"
keyword_bytes k.Include = codes "include"
keyword_bytes k.Int = codes "int"
keyword_bytes k.Let = codes "let"
keyword_bytes k.Maximize = codes "maximize"
keyword_bytes k.Minimize = codes "minimize"
keyword_bytes k.Mod = codes "mod"
keyword_bytes k.Not = codes "not"
keyword_bytes k.Of = codes "of"
keyword_bytes k.Output = codes "output"
keyword_bytes k.Par = codes "par"
keyword_bytes k.Predicate = codes "predicate"
keyword_bytes k.Satisfy = codes "satisfy"
keyword_bytes k.Search = codes "search"
keyword_bytes k.Set = codes "set"
keyword_bytes k.Solve = codes "solve"
keyword_bytes k.String = codes "string"
keyword_bytes k.Then = codes "then"
keyword_bytes k.True = codes "true"
keyword_bytes k.Var = codes "var"
keyword_bytes k.Where = codes "where"
keyword_bytes k.Xor = codes "xor"

abbrev pub all_keywords : List Keyword
all_keywords = k.Ann ∷ k.Array ∷ k.Bool ∷ k.Constraint ∷ k.Div ∷ k.Else ∷ k.Elseif ∷ k.Endif ∷ k.Enum ∷ k.False ∷ k.Function ∷ k.If ∷ k.In ∷ k.Include ∷ k.Int ∷ k.Let ∷ k.Maximize ∷ k.Minimize ∷ k.Mod ∷ k.Not ∷ k.Of ∷ k.Output ∷ k.Par ∷ k.Predicate ∷ k.Satisfy ∷ k.Search ∷ k.Set ∷ k.Solve ∷ k.String ∷ k.Then ∷ k.True ∷ k.Var ∷ k.Where ∷ k.Xor ∷ []

-- the one of these keywords that is spelled so
abbrev pub keyword_among : List Keyword → List ℕ → Option Keyword
keyword_among [] w = None
keyword_among (x ∷ others) w = if bytes_eq w (keyword_bytes x) then Some x else keyword_among others w
