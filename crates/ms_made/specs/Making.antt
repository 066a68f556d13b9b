-- What a step of making an instance makes, or the fault that it has.
use Rattle.std.specs.Prelude.{◌≡◌, ℕ, List, Result, Ok, Err}
use Rattle.ms_declared.specs.Made.{Made, made, faulty}
use Rattle.ms_declared.specs.declared.fault.ValueFault.{ValueFault}
use Rattle.ms_declared.specs.declared.fault.ValueFault.TheVariants as v
use Rattle.ms_made.specs.declared.fault.InstanceFault.{InstanceFault}
use Rattle.ms_made.specs.declared.fault.InstanceFault.TheVariants as f

pub data Making (A : Type 0) : Type 0 where
  done : A → Making A
  failed : InstanceFault → Making A

-- a step after another
abbrev pub and_next : {A B : Type 0} → Making A → (A → Making B) → Making B
and_next (done x) f = f x
and_next (failed fault) f = failed fault

-- a fault of the value of this name
abbrev pub fault_of : List ℕ → ValueFault → InstanceFault
fault_of w (v.Shape file) = f.Shape w file
fault_of w (v.NoValue file) = f.NoValue w file
fault_of w (v.Wide p) = f.Wide p
fault_of w (v.Big count p) = f.Big count p
fault_of w v.Memory = f.Memory

abbrev pub of_name : {A : Type 0} → List ℕ → Made A → Making A
of_name w (made x) = done x
of_name w (faulty fault) = failed (fault_of w fault)

-- an answer, which code gives by a value that stands for what is made. Want of memory may come at any time
abbrev pub AnswersOf : {A B : Type 0} → (B → A) → Making A → Result B InstanceFault → Type 0
AnswersOf view m (Ok x) = m ≡ done (view x)
AnswersOf view m (Err (f.Unknown w file)) = m ≡ failed (f.Unknown w file)
AnswersOf view m (Err (f.Twice w file)) = m ≡ failed (f.Twice w file)
AnswersOf view m (Err (f.Missing w)) = m ≡ failed (f.Missing w)
AnswersOf view m (Err (f.Shape w file)) = m ≡ failed (f.Shape w file)
AnswersOf view m (Err (f.NoValue w file)) = m ≡ failed (f.NoValue w file)
AnswersOf view m (Err (f.Wide p)) = m ≡ failed (f.Wide p)
AnswersOf view m (Err (f.Big count p)) = m ≡ failed (f.Big count p)
AnswersOf view m (Err f.Memory) = Unit {0}

abbrev pub Answers : {A : Type 0} → Making A → Result A InstanceFault → Type 0
Answers m r = AnswersOf (λ x. x) m r
