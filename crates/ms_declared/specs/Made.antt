-- What a step makes, or the fault that it has.
use Rattle.std.specs.Prelude.{◌≡◌, Result, Ok, Err}
use Rattle.ms_declared.specs.declared.fault.ValueFault.{ValueFault}
use Rattle.ms_declared.specs.declared.fault.ValueFault.TheVariants as v

pub data Made (A : Type 0) : Type 0 where
  made : A → Made A
  faulty : ValueFault → Made A

-- a step after another
abbrev pub and_then : {A B : Type 0} → Made A → (A → Made B) → Made B
and_then (made x) f = f x
and_then (faulty fault) f = faulty fault

-- an answer, which code gives by a value that stands for what is made. Want of memory may come at any time
abbrev pub GivesOf : {A B : Type 0} → (B → A) → Made A → Result B ValueFault → Type 0
GivesOf view m (Ok x) = m ≡ made (view x)
GivesOf view m (Err (v.Shape file)) = m ≡ faulty (v.Shape file)
GivesOf view m (Err (v.NoValue file)) = m ≡ faulty (v.NoValue file)
GivesOf view m (Err (v.Wide p)) = m ≡ faulty (v.Wide p)
GivesOf view m (Err (v.Big count p)) = m ≡ faulty (v.Big count p)
GivesOf view m (Err v.Memory) = Unit {0}

abbrev pub Gives : {A : Type 0} → Made A → Result A ValueFault → Type 0
Gives m r = GivesOf (λ x. x) m r
