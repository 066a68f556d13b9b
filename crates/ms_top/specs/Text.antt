-- What the program writes.
use Rattle.std.specs.Prelude.{ℕ, List, [], ◌∷◌, ◌++◌, ℤ, codes, ◌==◌, if◌then◌else◌}
use Rattle.std.specs.Fmt.{decimal, signed_decimal}
use Rattle.ms_top.specs.declared.plain.PlainDeclaration.{PlainDeclaration}
use Rattle.ms_top.specs.declared.plain.PlainModel.{PlainModel}
use Rattle.ms_top.specs.declared.status.Status.{Status}
use Rattle.ms_top.specs.declared.status.Status.TheVariants.{Done, Usage, ReadFault, Refused, WriteFault, NoMemory}
use Rattle.ms_top.specs.declared.status.Fault.{Fault}
use Rattle.ms_top.specs.declared.status.Fault.TheVariants.{LongFile, Lex, Syntax, Deep, Typing, Form}
use Rattle.ms_rows.specs.declared.fault.TypeFault.{TypeFault}
use Rattle.ms_rows.specs.declared.fault.TypeFault.TheVariants.{Include, Twice, NoSolve, Cycle, Unknown, Arity, NotKnown, Unsupported, Mismatch, Memory}
use Rattle.ms_syntax.specs.declared.token.Place.{Place}
use Rattle.ms_syntax.specs.declared.token.LexKind.{LexKind}
use Rattle.ms_syntax.specs.declared.token.LexKind.TheVariants.{BadByte, OpenText, OpenComment, BigNumber}

-- ---- solutions

-- NAME = NUMBER;
abbrev pub variable_line : List ℕ → ℤ → List ℕ
variable_line name z = name ++ codes " = " ++ signed_decimal z ++ codes ";\n"

-- a line for each declared variable
abbrev pub variable_lines : List PlainDeclaration → List ℤ → List ℕ
variable_lines [] a = []
variable_lines (d ∷ ds) [] = []
variable_lines (d ∷ ds) (z ∷ a) = variable_line d.name z ++ variable_lines ds a

abbrev pub separator : List ℕ
separator = codes "----------\n"

abbrev pub solution_text : PlainModel → List ℤ → List ℕ
solution_text m a = variable_lines m.declarations a ++ separator

abbrev pub unsatisfiable_text : List ℕ
unsatisfiable_text = codes "=====UNSATISFIABLE=====\n"

-- ---- faults

abbrev pub fault_words : LexKind → List ℕ
fault_words BadByte = codes "unexpected byte"
fault_words OpenText = codes "text is not closed"
fault_words OpenComment = codes "comment is not closed"
fault_words BigNumber = codes "number too large"

-- the name of a file by its number: 0 is the model, of this name, and 2 the library
abbrev pub file_name : List ℕ → ℕ → List ℕ
file_name model file = if file == 0 then model else if file == 2 then codes "minisearch.mzn" else []

-- FILE: WORDS
abbrev pub of_file : List ℕ → List ℕ → List ℕ
of_file file words = file ++ codes ": " ++ words ++ codes "\n"

-- FILE:LINE:COLUMN: WORDS
abbrev pub at_place : (ℕ → List ℕ) → Place → List ℕ → List ℕ
at_place names place words = names place.file ++ codes ":" ++ decimal place.line ++ codes ":" ++ decimal place.col ++ codes ": " ++ words ++ codes "\n"

-- what is said of a fault of declarations or types; of a name that is declared twice, at the later place
abbrev pub type_fault_text : (ℕ → List ℕ) → TypeFault → List ℕ
type_fault_text names (Include place) = at_place names place (codes "file cannot be included")
type_fault_text names (Twice earlier later) = at_place names later (codes "declared twice")
type_fault_text names NoSolve = of_file (names 0) (codes "no solve item")
type_fault_text names (Cycle place) = at_place names place (codes "definitions form a cycle")
type_fault_text names (Unknown place) = at_place names place (codes "unknown name")
type_fault_text names (Arity place) = at_place names place (codes "wrong number of arguments")
type_fault_text names (NotKnown place) = at_place names place (codes "value must be known")
type_fault_text names (Unsupported place) = at_place names place (codes "not supported")
type_fault_text names (Mismatch place) = at_place names place (codes "types do not fit")
type_fault_text names Memory = codes "out of memory\n"

-- what is said of a fault, where the files have these names
abbrev pub fault_text : (ℕ → List ℕ) → Fault → List ℕ
fault_text names (LongFile file) = of_file (names file) (codes "longer than 1048576 bytes")
fault_text names (Lex place kind) = at_place names place (fault_words kind)
fault_text names (Syntax place) = at_place names place (codes "syntax error")
fault_text names (Deep place) = at_place names place (codes "nested too deeply")
fault_text names (Typing fault) = type_fault_text names fault
fault_text names (Form file) = of_file (names file) (codes "not built yet")

-- what is said of a status
abbrev pub report_text : (ℕ → List ℕ) → Status → List ℕ
report_text names (Done closing limit) = []
report_text names Usage = codes "one model file is wanted\n"
report_text names ReadFault = of_file (names 0) (codes "cannot read")
report_text names (Refused fault) = fault_text names fault
report_text names WriteFault = codes "cannot write\n"
report_text names NoMemory = codes "out of memory\n"
