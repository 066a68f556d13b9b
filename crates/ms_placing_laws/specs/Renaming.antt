-- Typed trees in which names stand for something else.
use Rattle.std.specs.Prelude.{◌≡◌, ℕ, zero, suc, ◌+◌, ◌-◌, nat_lt, nat_eq, List, [], ◌∷◌, length, map, option_map, if◌then◌else◌}
use Rattle.ms_code.specs.declared.code.Reference.{Reference}
use Rattle.ms_code.specs.declared.code.Reference.TheVariants as r
use Rattle.ms_code.specs.declared.code.Code.{Code, fold-Code, roll-Code}
use Rattle.ms_code.specs.declared.code.Code.TheOpen.{Code-F}
use Rattle.ms_code.specs.declared.code.Arm.{Arm, Arm-F, roll-Arm}
use Rattle.ms_code.specs.declared.code.Generator.{Generator, Generator-F, roll-Generator}
use Rattle.ms_code.specs.declared.code.Generators.{Generators, Generators-F, roll-Generators}
use Rattle.ms_code.specs.declared.code.Link.{Link, Link-F, roll-Link}
use Rattle.ms_code.specs.declared.code.Row.{Row, Row-F, roll-Row}
use Rattle.ms_code.specs.declared.code.Subscript.{Subscript, Subscript-F, roll-Subscript}

-- what a name becomes, where so many names were declared before it inside the tree
abbrev pub Renaming : Type 0
Renaming = ℕ → Reference → Reference

-- so many names deeper
abbrev pub deeper : ℕ → ℕ → ℕ
deeper zero d = d
deeper (suc n) d = deeper n (suc d)

-- ---- the parts, each under so many names

abbrev pub Under : Type 0 → Type 0
Under A = ℕ → A

pub record GeneratorUnder : Type 0 where
  pub names : ℕ
  pub under : Under Generator

-- with how many names there are behind generators that stand under so many
pub record GeneratorsUnder : Type 0 where
  pub behind : ℕ → ℕ
  pub under : Under Generators

abbrev pub all_under : {A : Type 0} → ℕ → List (Under A) → List A
all_under d = map (λ a. a d)

-- each value under the locals before it
abbrev pub locals_under : ℕ → List (Under Code) → List Code
locals_under d [] = []
locals_under d (e ∷ es) = e d ∷ locals_under (suc d) es

-- each generator under the names of those before it
abbrev pub generators_under : ℕ → List GeneratorUnder → List Generator
generators_under d [] = []
generators_under d (q ∷ qs) = q.under d ∷ generators_under (deeper q.names d) qs

abbrev pub behind_all : List GeneratorUnder → ℕ → ℕ
behind_all [] d = d
behind_all (q ∷ qs) d = behind_all qs (deeper q.names d)

-- ---- all forms

-- what stands inside for Code, Arm, Generator, Generators, Link, Row, Subscript
abbrev pub Layer : (Type 0 → Type 0 → Type 0 → Type 0 → Type 0 → Type 0 → Type 0 → Type 0) → Type 0
Layer F = F (Under Code) (Under Arm) GeneratorUnder GeneratorsUnder (Under Link) (Under Row) (Under Subscript)

-- functions that are called keep their names
abbrev pub renamed_layer : Renaming → Layer Code-F → Under (Code-F Code Arm Generator Generators Link Row Subscript)
renamed_layer f (Code-F.Number p n) d = Code-F.Number p n
renamed_layer f (Code-F.Truth p b) d = Code-F.Truth p b
renamed_layer f (Code-F.Text p w) d = Code-F.Text p w
renamed_layer f (Code-F.Name p name) d = Code-F.Name p (f d name)
renamed_layer f (Code-F.Chain a ls) d = Code-F.Chain (a d) (all_under d ls)
renamed_layer f (Code-F.Prefix p sign a) d = Code-F.Prefix p sign (a d)
renamed_layer f (Code-F.Parenthesis p a) d = Code-F.Parenthesis p (a d)
renamed_layer f (Code-F.Access p a ss) d = Code-F.Access p (a d) (all_under d ss)
renamed_layer f (Code-F.Call p name es) d = Code-F.Call p name (all_under d es)
renamed_layer f (Code-F.Gathered p t qs a) d = Code-F.Gathered p t (qs.under d) (a (qs.behind d))
renamed_layer f (Code-F.RepeatEach p qs a) d = Code-F.RepeatEach p (qs.under d) (a (qs.behind d))
renamed_layer f (Code-F.Array p t es) d = Code-F.Array p t (all_under d es)
renamed_layer f (Code-F.Rows p t rows) d = Code-F.Rows p t (all_under d rows)
renamed_layer f (Code-F.Set p es) d = Code-F.Set p (all_under d es)
renamed_layer f (Code-F.Comprehension p t qs a) d = Code-F.Comprehension p t (qs.under d) (a (qs.behind d))
renamed_layer f (Code-F.If p arms last) d = Code-F.If p (all_under d arms) (last d)
renamed_layer f (Code-F.Let p es a) d = Code-F.Let p (locals_under d es) (a (deeper (length es) d))
renamed_layer f (Code-F.Convert t a) d = Code-F.Convert t (a d)

abbrev pub renamed_step : Renaming → Layer Code-F → Under Code
renamed_step f y d = roll-Code (renamed_layer f y d)

abbrev pub arm_step : Layer Arm-F → Under Arm
arm_step a d = roll-Arm (record { kind = a.kind; condition = a.condition d; branch = a.branch d })

abbrev pub generator_step : Layer Generator-F → GeneratorUnder
generator_step q = record { names = q.names; under = λ d. roll-Generator (record { place = q.place; names = q.names; set = q.set d }) }

abbrev pub generators_step : Layer Generators-F → GeneratorsUnder
generators_step qs = record {
  behind = behind_all qs.list;
  under = λ d. roll-Generators (record { list = generators_under d qs.list; condition = option_map (λ e. e (behind_all qs.list d)) qs.condition });
}

abbrev pub link_step : Layer Link-F → Under Link
link_step l d = roll-Link (record { operator = l.operator; place = l.place; operand = l.operand d })

abbrev pub row_step : Layer Row-F → Under Row
row_step row d = roll-Row (record { elements = all_under d row.elements })

abbrev pub subscript_step : Layer Subscript-F → Under Subscript
subscript_step s d = roll-Subscript (record { first = s.first d; second = option_map (λ e. e d) s.second })

-- the tree under so many names in which each name is what it becomes
abbrev pub renamed : Renaming → ℕ → Code → Code
renamed f d e = fold-Code _ _ _ _ _ _ _ (renamed_step f) arm_step generator_step generators_step link_step row_step subscript_step e d

-- ---- a value put in for a name

-- the local that was declared just before the latest ones, so many, becomes another name; those before it move down by one
abbrev pub put_reference : Reference → Renaming
put_reference s d (r.Local k) = if nat_lt k d then r.Local k else (if nat_eq k d then s else r.Local (k - 1))
put_reference s d (r.Model k) = r.Model k
put_reference s d (r.Library k) = r.Library k
put_reference s d (r.BuiltIn b) = r.BuiltIn b

abbrev pub put : Reference → ℕ → Code → Code
put s = renamed (put_reference s)

-- ---- more names around

-- all locals of outside move up by so many
abbrev pub lift : ℕ → Renaming
lift n d (r.Local k) = if nat_lt k d then r.Local k else r.Local (k + n)
lift n d (r.Model k) = r.Model k
lift n d (r.Library k) = r.Library k
lift n d (r.BuiltIn b) = r.BuiltIn b

-- each tree under one more local than the one before, the first under so many
abbrev pub lifted : ℕ → List Code → List Code
lifted n [] = []
lifted n (e ∷ es) = renamed (lift n) 0 e ∷ lifted (suc n) es

-- all locals of outside but the latest, so many, become a declared name
abbrev pub keep : ℕ → Renaming
keep n d (r.Local k) = if nat_lt k (d + n) then r.Local k else r.Model 0
keep n d (r.Model k) = r.Model k
keep n d (r.Library k) = r.Library k
keep n d (r.BuiltIn b) = r.BuiltIn b

-- of the locals of outside it has none but the latest, so many
abbrev pub HasLocals : ℕ → Code → Type 0
HasLocals n e = renamed (keep n) 0 e ≡ e

-- ---- a name that a tree does not have

-- a name of the model becomes the next one
abbrev pub avoid : ℕ → Renaming
avoid n d (r.Local k) = r.Local k
avoid n d (r.Model k) = if nat_eq k n then r.Model (suc n) else r.Model k
avoid n d (r.Library k) = r.Library k
avoid n d (r.BuiltIn b) = r.BuiltIn b

abbrev pub IsFresh : ℕ → Code → Type 0
IsFresh n e = renamed (avoid n) 0 e ≡ e
