-- What a propagator does to the sets of a store.
use Rattle.std.specs.Prelude.{◌≡◌, ◌⊎◌, ◌<◌, ℕ, length, false, List}
use Rattle.ms_num.specs.Sets.{Set, IsSet, Among, set_size, spans_of}
use Rattle.ms_cells.specs.Cells.{Lists}
use Rattle.ms_store.specs.Stored.{set_at}
use Rattle.ms_boxes.specs.Boxes.{Assignment, InBox}
use Rattle.ms_prim.specs.declared.primitive.Primitive.{Primitive}
use Rattle.ms_prim.specs.declared.propagator.Ran.{Ran}
use Rattle.ms_prim.specs.declared.propagator.Ran.TheVariants.{Settled, Empty}
use Rattle.ms_prim.specs.Naming.{is_named}
use Rattle.ms_prim.specs.Settling.{IsMet, IsSettled}

-- some numbers of the set t are gone in s, and some stay
pub record IsLess (s t : Set) : Type 0 where
  pub proper : IsSet s
  pub among : Among s t
  pub fewer : set_size s < set_size t

abbrev pub Shrinks : Set → Set → Type 0
Shrinks s t = (s ≡ t) ⊎ IsLess s t

-- numbers went, of variables that the primitive names alone, and none that an assignment has which meets it; the saved lists stand
pub record Narrows (p : Primitive) (old new : Lists Set) : Type 0 where
  pub saved : new.saved ≡ old.saved
  pub count : length new.current ≡ length old.current
  pub elsewhere : (v : ℕ) → is_named p v ≡ false → set_at new v ≡ set_at old v
  pub shrinks : (v : ℕ) → Shrinks (set_at new v) (set_at old v)
  pub keeps : (a : Assignment) → InBox a old.current → IsMet a p → InBox a new.current

-- no assignment of the sets meets the primitive
abbrev pub Fails : Primitive → Lists Set → Type 0
Fails p l = (a : Assignment) → InBox a l.current → IsMet a p → ⊥

-- settled on the sets as they are afterwards; or no assignment of the sets met it before
abbrev pub RanGives : Ran → Primitive → Lists Set → Lists Set → Type 0
RanGives Settled p old new = IsSettled (spans_of new.current) p
RanGives Empty p old new = Fails p old
