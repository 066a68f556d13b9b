-- What has been pushed on a stack.
use Rattle.std.specs.Prelude.{◌≡◌, ◌≤◌, ℕ, List, Option, Some, None, length, take, drop}
use Rattle.ms_trees.specs.declared.tree.Enclosure.{Enclosure}

-- the items lie on the stack from the place on, and below it what was there before
pub record IsPushed (old new : List Enclosure) (base : ℕ) (items : Option (List Enclosure)) : Type 0 where
  pub there : base ≤ length new
  pub below : take base new ≡ old
  pub above : items ≡ Some (drop base new)

-- there are no items, and the stack is as it was
pub record IsLeft (old new : List Enclosure) (items : Option (List Enclosure)) : Type 0 where
  pub same : new ≡ old
  pub missing : items ≡ None

abbrev pub ArePushed : List Enclosure → List Enclosure → Option ℕ → Option (List Enclosure) → Type 0
ArePushed old new None items = IsLeft old new items
ArePushed old new (Some base) items = IsPushed old new base items
