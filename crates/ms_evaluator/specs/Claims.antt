-- Numbers that parts claim for themselves, in rising order.
use Rattle.std.specs.Prelude.{◌≡◌, ℕ, ◌+◌, ◌<◌, List, length, Option, Some, None, pos, false, ◌+ℤ◌, ◌≤ℤ◌, slice_index_or}
use Rattle.ms_num.specs.Span.{Span}
use Rattle.ms_trees.specs.Enclosure.{numeric_enclosure}
use Rattle.ms_trees.specs.declared.tree.Enclosure.{Enclosure}
use Rattle.ms_evaluator.specs.declared.claims.Slot.{Slot}

abbrev pub slot_at : List Slot → ℕ → Slot
slot_at rs k = slice_index_or rs k (record { lo = pos 0; hi = pos 0; owner = 0; place = 0; first = 0 })

abbrev pub part_at : List Enclosure → ℕ → Enclosure
part_at ps k = slice_index_or ps k (numeric_enclosure None false)

-- the numbers that a slot claims
abbrev pub span_of : Slot → Span
span_of r = record { lo = r.lo; hi = r.hi }

-- the claim lies in the interval
abbrev pub IsClaim : Option Span → Slot → Type 0
IsClaim None r = ⊥
IsClaim (Some s) r = (s.lo ≤ℤ r.lo) × (r.hi ≤ℤ s.hi)

-- the claim is the interval
abbrev pub IsWholeClaim : Option Span → Slot → Type 0
IsWholeClaim o r = o ≡ Some (span_of r)

-- the slot at the place, and the claim of the part of that index
pub record IsSlot (ps : List Enclosure) (rs : List Slot) (k : ℕ) : Type 0 where
  pub there : (slot_at rs k).place < length ps
  pub owned : (slot_at rs (slot_at rs k).place).owner ≡ k
  pub proper : (slot_at rs k).lo ≤ℤ (slot_at rs k).hi
  pub inside : IsClaim (part_at ps k).interval (slot_at rs (slot_at rs k).place)
  pub rises : k + 1 < length ps → ((slot_at rs k).hi +ℤ pos 1) ≤ℤ (slot_at rs (k + 1)).lo

abbrev pub AreSlots : List Enclosure → List Slot → Type 0
AreSlots ps rs = (k : ℕ) → k < length ps → IsSlot ps rs k

abbrev pub IsWhole : List Enclosure → List Slot → ℕ → Type 0
IsWhole ps rs k = IsWholeClaim (part_at ps k).interval (slot_at rs (slot_at rs k).place)

abbrev pub AreWhole : List Enclosure → List Slot → Type 0
AreWhole ps rs = (k : ℕ) → k < length ps → IsWhole ps rs k
