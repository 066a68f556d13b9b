-- Answers of placings.
use Rattle.std.specs.Prelude.{◌≡◌, ℕ, List, Option, Some, None, Result, Ok, Err}
use Rattle.ms_syntax.specs.declared.token.Place.{Place}
use Rattle.ms_values.specs.declared.operand.Operand.{Operand}
use Rattle.ms_values.specs.declared.value.Value.{Value}
use Rattle.ms_placing.specs.Steps.{Out, ok, bad}
use Rattle.ms_placing.specs.Values.{given}
use Rattle.ms_placing.specs.declared.fault.PlaceFault.TheVariants as f
use Rattle.ms_fix.specs.declared.fault.GroundFault.{GroundFault}
use Rattle.ms_fix.specs.declared.fault.GroundFault.TheVariants as g

-- an operand whose value is this, or that has none, with the words that are left
pub record Comes (out : Out) (value : Option Value) (words : List ℕ) : Type 0 where
  pub place : Place
  pub operand : Operand
  pub left : ℕ
  pub is : out ≡ ok place operand left words
  pub gives : given operand ≡ value

-- the value, or the first fault with its place, with the words that are left; want of memory may come at any time
abbrev pub Grounds : Out → Result Value GroundFault → List ℕ → Type 0
Grounds out (Ok x) ws = Comes out (Some x) ws
Grounds out (Err (g.Wide p)) ws = (left : ℕ) × (out ≡ bad (f.Wide p) left ws)
Grounds out (Err (g.Big count p)) ws = (left : ℕ) × (out ≡ bad (f.Big count p) left ws)
Grounds out (Err g.Undefined) ws = Comes out None ws
Grounds out (Err g.Memory) ws = Unit {0}
