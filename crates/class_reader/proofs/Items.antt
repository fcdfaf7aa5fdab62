-- What it is to read a format of the class file, of bytes that are bytes.
use Rattle.std.proofs.Common.{ℕ, zero, suc, ◌+◌, ◌<◌, ◌≤◌, inl, inr, List, [], ◌∷◌, length, get_or, take, drop, arith, length-take}
use Rattle.std.specs.List.{AllByRecursion}
use Rattle.std.proofs.lemmas.Bool.{cases_lt}
use Rattle.std.proofs.lemmas.List.{get_or-drop, get_or-take, get_or_past}
use Rattle.const_pool.specs.ClassFile.{IsByte}
use Rattle.byte_formats.proofs.Items as items
pub use Rattle.byte_formats.proofs.Items.{same_read, one_read, read_parts, no_fault, ok_parts, err_parts}
use Rattle.class_reader.specs.Formats.{Format}
use Rattle.class_reader.specs.Reading.{Read}

abbrev pub IsBytes : List ℕ → Type 0
IsBytes bytes = (i : ℕ) → get_or bytes i 0 < 256

abbrev pub Takes : {A : Type 0} → Format A → List ℕ → A → List ℕ → Type 0
Takes = items.Takes IsBytes

abbrev pub IsRead : {A : Type 0} → (ℕ → List ℕ → Read A) → Format A → Type 0
IsRead = items.IsRead IsBytes

pub IsBytes-drop : (n : ℕ) (bytes : List ℕ) → IsBytes bytes → IsBytes (drop n bytes)
IsBytes-drop n bytes h i = rw get_or-drop (h (n + i))

pub IsBytes-take : (n : ℕ) (bytes : List ℕ) → IsBytes bytes → IsBytes (take n bytes)
IsBytes-take n bytes h i =
    elim (cases_lt i n) [
      | inl lt ↦ rw (get_or-take n bytes i 0 lt) (h i)
      | inr le ↦
          let past : length (take n bytes) ≤ i = omega (arith, length-take n bytes) in
          rw (get_or_past (take n bytes) i 0 past) (omega arith)
    ]

-- the bytes, each for itself
pub IsBytes-each : (bytes : List ℕ) → IsBytes bytes → AllByRecursion IsByte bytes
IsBytes-each [] h = tt
IsBytes-each (b ∷ bytes) h = (h 0, IsBytes-each bytes (λ i. h (suc i)))

pub each-IsBytes : (bytes : List ℕ) → AllByRecursion IsByte bytes → IsBytes bytes
each-IsBytes [] h i = omega arith
each-IsBytes (b ∷ bytes) h zero = h.0
each-IsBytes (b ∷ bytes) h (suc i) = each-IsBytes bytes h.1 i
