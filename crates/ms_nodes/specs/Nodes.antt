-- Nodes of typed trees from parts that have their types and trees.
use Rattle.std.specs.Prelude.{ℕ, suc, nat_lt, true, List, [], ◌∷◌, map, take, drop, Option, option_map, if◌then◌else◌}
use Rattle.ms_syntax.specs.declared.token.Place.{Place}
use Rattle.ms_typing.specs.declared.types.ExprType.{ExprType}
use Rattle.ms_typing.specs.declared.types.ExprType.TheVariants.{Search}
use Rattle.ms_typing.specs.declared.types.Shape.TheVariants.{Single}
use Rattle.ms_typing.specs.Conversion.{shaped, truths}
use Rattle.ms_typing.specs.Meaning.{Told}
use Rattle.ms_code.specs.Code.{arm, asked_of, brought, gathered, generator_call, generators, is_xor, link, operand, row}
use Rattle.ms_code.specs.Code as code
use Rattle.ms_code.specs.declared.code.Reference.{Reference}
use Rattle.ms_code.specs.declared.code.Code.{Code}
use Rattle.ms_code.specs.declared.code.Code.TheVariants as c
use Rattle.ms_code.specs.declared.code.Arm.{Arm}
use Rattle.ms_code.specs.declared.code.Generator.{Generator, roll-Generator}
use Rattle.ms_code.specs.declared.code.Generators.{Generators}
use Rattle.ms_code.specs.declared.code.Link.{Link}
use Rattle.ms_code.specs.declared.code.Row.{Row}
use Rattle.ms_nodes.specs.declared.parts.Choice.{Choice}
use Rattle.ms_nodes.specs.declared.parts.Elaborated.{Elaborated}
use Rattle.ms_nodes.specs.declared.parts.Operand.{Operand}
use Rattle.ms_nodes.specs.declared.parts.Source.{Source}
use Rattle.ms_nodes.specs.Parts.{kinds_of}

-- ---- parts that are brought to what is asked

-- all to one type
abbrev pub bring_all : ExprType → List Elaborated → List Code
bring_all t = map (λ m. brought t m.kind m.code)

abbrev pub bring_next : List ExprType → Elaborated → Code
bring_next [] m = m.code
bring_next (t ∷ ts) m = brought t m.kind m.code

abbrev pub behind : List ExprType → List ExprType
behind [] = []
behind (t ∷ ts) = ts

-- each to its own; those for which nothing is asked stay as they are
abbrev pub bring_each : List ExprType → List Elaborated → List Code
bring_each ts [] = []
bring_each ts (m ∷ ms) = bring_next ts m ∷ bring_each (behind ts) ms

-- ---- chains

-- an operand of a chain of this type
abbrev pub link_of : ExprType → Operand → Link
link_of whole o = link o.operator o.place (operand whole o.operand.kind o.operand.code)

abbrev pub linked : ExprType → List Operand → List Link
linked whole = map (link_of whole)

-- how many there are through the last `xor`; 0 where there is none
abbrev pub through_xor : List Operand → ℕ
through_xor [] = 0
through_xor (o ∷ os) = if nat_lt 0 (through_xor os) then suc (through_xor os) else (if is_xor o.operator then 1 else 0)

-- a chain of this type, whose operands are each brought to what it asks
abbrev pub plain_chain : ExprType → Elaborated → List Operand → Code
plain_chain whole m os = c.Chain (operand whole m.kind m.code) (linked whole os)

-- and one whose operands through the last `xor`, so many, are one operand of the whole
abbrev pub split_chain : ExprType → ℕ → Elaborated → List Operand → Code
split_chain whole n m os = c.Chain (c.Convert Search (c.Chain m.code (take n (linked (truths true) os)))) (drop n (linked whole os))

abbrev pub chain : ExprType → Elaborated → List Operand → Code
chain whole m os = code.chain whole m.kind (through_xor os) m.code (linked (truths true) os) (linked whole os)

-- ---- lists

abbrev pub source : Source → Generator
source g = roll-Generator (record { place = g.place; names = g.names; set = g.set.code })

abbrev pub sources : List Source × Option Elaborated → Generators
sources s = generators (map source s.0) (option_map (λ m. m.code) s.1)

abbrev pub row_of : ExprType → List Elaborated → Row
row_of t ms = row (bring_all t ms)

-- a condition with a branch that is brought to this type
abbrev pub arm_of : ExprType → Choice → Arm
arm_of t a = arm a.condition.kind a.condition.code (brought t a.branch.kind a.branch.code)

abbrev pub arms : ExprType → List Choice → List Arm
arms t = map (arm_of t)

-- ---- functions

abbrev pub call : Told → Place → Reference → List Elaborated → Code
call told p r ms = c.Call p r (bring_each (asked_of told (kinds_of ms)) ms)

abbrev pub repeating : Place → Generators → Elaborated → Code
repeating p gens m = c.RepeatEach p gens (brought Search m.kind m.code)

abbrev pub gather : Told → Place → Reference → Generators → Elaborated → Code
gather told p r gens m =
    let whole = gathered told m.kind in
    c.Call p r (c.Gathered p whole gens (brought (shaped Single whole) m.kind m.code) ∷ [])

-- a function with generators, whose array, or search, is this element
abbrev pub gathering : Told → Place → Reference → Generators → Elaborated → Code
gathering told p r gens m = generator_call told p r m.kind gens m.code
