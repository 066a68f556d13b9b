-- A word that a built-in name does not take makes no difference.
use Rattle.std.proofs.Common.{◌≡◌, ℕ, ℤ, Bool, true, false, List, refl, ap, Option, Some, None, if◌then◌else◌, is_some}
use Rattle.ms_built_ins.specs.declared.names.BuiltIn.{BuiltIn}
use Rattle.ms_built_ins.specs.declared.names.BuiltIn.TheVariants as b
use Rattle.ms_values.specs.declared.operand.Operand.{Operand}
use Rattle.ms_values.specs.declared.operand.Operand.TheVariants as o
use Rattle.ms_rules.specs.Operands.{number_of}
use Rattle.ms_rules.specs.Calls.{call, draws, drawn, first, second}

by_test : (t : Bool) (x y z : ℤ) → false ≡ is_some (if t then Some x else None) → (if t then Some y else None) ≡ (if t then Some z else None)
by_test true x y z h = absurd (cc)
by_test false x y z h = refl

undrawn : (word w : ℕ) (low high : Option ℤ) → false ≡ is_some (drawn 0 low high) → drawn word low high ≡ drawn w low high
undrawn word w None high h = refl
undrawn word w (Some low) None h = refl
undrawn word w (Some low) (Some high) h = by_test _ _ _ _ h

taken : (word w : ℕ) (low high : Option ℤ) (takes : Bool) → takes ≡ is_some (drawn 0 low high) → (takes ≡ true → word ≡ w) → drawn word low high ≡ drawn w low high
taken word w low high true h k = ap (λ v. drawn v low high) (k refl)
taken word w low high false h k = undrawn word w low high h

pub read_word : (point : Option (List ℤ)) (word w : ℕ) (name : BuiltIn) (xs : List Operand) (takes : Bool) → takes ≡ draws name xs → (takes ≡ true → word ≡ w) → call point word name xs ≡ call point w name xs
unfolding call
read_word point word w b.ForAll xs takes h k = refl
read_word point word w b.Exists xs takes h k = refl
read_word point word w b.Sum xs takes h k = refl
read_word point word w b.Min xs takes h k = refl
read_word point word w b.Max xs takes h k = refl
read_word point word w b.Abs xs takes h k = refl
read_word point word w b.BoolToInt xs takes h k = refl
read_word point word w b.Count xs takes h k = refl
read_word point word w b.AllDifferent xs takes h k = refl
read_word point word w b.Table xs takes h k = refl
read_word point word w b.Length xs takes h k = refl
read_word point word w b.IndexSet xs takes h k = refl
read_word point word w b.RowIndexSet xs takes h k = refl
read_word point word w b.ColumnIndexSet xs takes h k = refl
read_word point word w b.Card xs takes h k = refl
read_word point word w b.ArrayLine xs takes h k = refl
read_word point word w b.ArrayGrid xs takes h k = refl
read_word point word w b.Show xs takes h k = refl
read_word point word w b.Fix xs takes h k = refl
read_word point word w b.Sol xs takes h k = refl
read_word point word w b.HasSol xs takes h k = refl
read_word point word w b.Uniform xs takes h k = ap (λ (m : Option ℤ). Some (o.Number m)) (taken word w (number_of (first xs)) (number_of (second xs)) takes h k)
read_word point word w b.Next xs takes h k = refl
read_word point word w b.Post xs takes h k = refl
read_word point word w b.Commit xs takes h k = refl
read_word point word w b.Print xs takes h k = refl
read_word point word w b.Scope xs takes h k = refl
read_word point word w b.Repeat xs takes h k = refl
read_word point word w b.Break xs takes h k = refl
read_word point word w b.Fail xs takes h k = refl
read_word point word w b.Skip xs takes h k = refl
read_word point word w b.TimeLimit xs takes h k = refl
read_word point word w b.Keep xs takes h k = refl
read_word point word w b.ClearFront xs takes h k = refl
read_word point word w b.PrintFront xs takes h k = refl
