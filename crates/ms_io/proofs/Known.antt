-- Known bytes of a writer or a reader over several calls.
use Rattle.std.proofs.Common.{◌≡◌, ℕ, List, [], ◌++◌, length, Option, None, Some, sym, ◌∙◌, ap, append_assoc, append-nil, refl, take, drop, subst, ◌≤◌, arith, length-append, length-drop, ◌-◌, ◌<◌}
use Rattle.std.proofs.Math.Seq.{take-append_seam, take-length}
use Rattle.std.proofs.lemmas.List.{take-append-drop}
use Rattle.std.specs.Io.KnownBytes.{Appends, Keeps, Consumes, IsAtEnd}
use Rattle.ms_io.specs.OsFiles.{IsAllLeft, IsMoreLeft}

pub record HasTaken (old new : Option (List ℕ)) (piece rest : List ℕ) : Type 0 where
  pub taken : List ℕ
  pub parts : piece ≡ taken ++ rest
  pub known : Appends old new taken

pub Appends-none : (known : Option (List ℕ)) → Appends known known []
Appends-none None = tt
Appends-none (Some xs) = sym (append-nil xs)

pub Appends-Appends : (old mid new : Option (List ℕ)) (one two : List ℕ) → Appends old mid one → Appends mid new two → Appends old new (one ++ two)
Appends-Appends None mid new one two first second = tt
Appends-Appends (Some xs) None new one two first second = absurd first
Appends-Appends (Some xs) (Some ys) None one two first second = absurd second
Appends-Appends (Some xs) (Some ys) (Some zs) one two first second = second ∙ ap (λ l. l ++ two) first ∙ append_assoc xs one two

pub Appends-Keeps : (old mid new : Option (List ℕ)) (one : List ℕ) → Appends old mid one → Keeps mid new → Appends old new one
Appends-Keeps None mid new one first second = tt
Appends-Keeps (Some xs) None new one first second = absurd first
Appends-Keeps (Some xs) (Some ys) None one first second = absurd second
Appends-Keeps (Some xs) (Some ys) (Some zs) one first second = second ∙ first

-- what stands after the first n
pub take-drop_rest : (n : ℕ) (l : List ℕ) → take (length l - n) (drop n l) ≡ drop n l
take-drop_rest n l = subst (λ k. take k (drop n l) ≡ drop n l) (length-drop n l) (take-length (drop n l))

-- nothing taken yet
pub HasTaken-none : (known : Option (List ℕ)) (piece : List ℕ) → HasTaken known known piece piece
HasTaken-none known piece = record { taken = []; parts = refl; known = Appends-none known }

-- the next count bytes of the rest are taken
pub HasTaken-more : (old mid new : Option (List ℕ)) (piece rest : List ℕ) (count : ℕ) → HasTaken old mid piece rest →
    Appends mid new (take count rest) → HasTaken old new piece (drop count rest)
HasTaken-more old mid new piece rest count so_far more = record {
  taken = so_far.taken ++ take count rest;
  parts = so_far.parts ∙ ap (λ l. so_far.taken ++ l) (sym (take-append-drop count rest)) ∙ sym (append_assoc so_far.taken (take count rest) (drop count rest));
  known = Appends-Appends old mid new so_far.taken (take count rest) so_far.known more;
}

pub HasTaken-kept : (old mid new : Option (List ℕ)) (piece rest : List ℕ) → HasTaken old mid piece rest → Keeps mid new → HasTaken old new piece rest
HasTaken-kept old mid new piece rest so_far kept = record {
  taken = so_far.taken;
  parts = so_far.parts;
  known = Appends-Keeps old mid new so_far.taken so_far.known kept;
}

-- with no rest the whole piece is taken
pub HasTaken-whole : (old new : Option (List ℕ)) (piece : List ℕ) → HasTaken old new piece [] → Appends old new piece
HasTaken-whole old new piece all = subst (λ l. Appends old new l) (sym (all.parts ∙ append-nil all.taken)) all.known

-- a prefix of the piece is taken
pub HasTaken-prefix : (old new : Option (List ℕ)) (piece rest : List ℕ) → HasTaken old new piece rest →
    (k : ℕ) × (k ≤ length piece) × Appends old new (take k piece)
HasTaken-prefix old new piece rest some =
    let front : take (length some.taken) piece ≡ some.taken = ap (take (length some.taken)) some.parts ∙ take-append_seam some.taken rest in
    (length some.taken, rw (some.parts, length-append some.taken rest) (omega arith), subst (λ l. Appends old new l) (sym front) some.known)

pub Consumes-none : (known : Option (List ℕ)) → Consumes known known []
Consumes-none None = tt
Consumes-none (Some xs) = refl

pub Consumes-Consumes : (old mid new : Option (List ℕ)) (one two : List ℕ) → Consumes old mid one → Consumes mid new two → Consumes old new (one ++ two)
Consumes-Consumes None mid new one two first second = tt
Consumes-Consumes (Some xs) None new one two first second = absurd first
Consumes-Consumes (Some xs) (Some ys) None one two first second = absurd second
Consumes-Consumes (Some xs) (Some ys) (Some zs) one two first second = first ∙ ap (λ l. one ++ l) second ∙ sym (append_assoc one two zs)

pub Consumes-Keeps : (old mid new : Option (List ℕ)) (one : List ℕ) → Consumes old mid one → Keeps mid new → Consumes old new one
Consumes-Keeps None mid new one first second = tt
Consumes-Keeps (Some xs) None new one first second = absurd first
Consumes-Keeps (Some xs) (Some ys) None one first second = absurd second
Consumes-Keeps (Some xs) (Some ys) (Some zs) one first second = first ∙ ap (λ l. one ++ l) (sym second)

-- bytes that were read to the end are all that were left
pub Consumes-all : (old new : Option (List ℕ)) (bytes : List ℕ) → Consumes old new bytes → IsAtEnd new → IsAllLeft old bytes
Consumes-all None new bytes consumed ends = tt
Consumes-all (Some xs) None bytes consumed ends = absurd consumed
Consumes-all (Some xs) (Some ys) bytes consumed ends = sym (append-nil bytes) ∙ ap (λ l. bytes ++ l) (sym ends) ∙ sym consumed

-- no fewer were left than were read
pub Consumes-more : (old new : Option (List ℕ)) (bytes : List ℕ) (most : ℕ) → Consumes old new bytes → most < length bytes → IsMoreLeft old most
Consumes-more None new bytes most consumed more = tt
Consumes-more (Some xs) None bytes most consumed more = absurd consumed
Consumes-more (Some xs) (Some ys) bytes most consumed more = rw (consumed, length-append bytes ys) (omega arith)
