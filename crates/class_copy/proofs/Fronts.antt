-- What is fetched of a file: all of it, or of a longer one a front that is too long itself.
use Rattle.std.proofs.Common.{◌≡◌, ℕ, ◌+◌, ◌<◌, ◌≤◌, ◌⊎◌, inl, inr, List, length, take, Option, Some, None, Result, Err, refl, sym, ap, subst, ◌∙◌, arith}
use Rattle.std.specs.Prelude.{IsSomeAnd}
use Rattle.std.specs.Option.{option_map}
use Rattle.std.proofs.lemmas.Bool.{cases_lt}
use Rattle.std.proofs.lemmas.List.{length-take, take_all}
use Rattle.byte_streams.specs.Streams.{Told, contents_at, IsFetched, IsToldAs, HasTold}
use Rattle.class_reader.specs.declared.error.ReadError.{ReadError}
use Rattle.class_reader.specs.Files.{IsFirstFault, most_bytes}
use Rattle.class_copy.specs.declared.copying.CopyError.{CopyError}
use Rattle.class_copy.specs.declared.copying.CopyError.TheVariants.{NotFetched, NotRead, NotPut, NoMemory}
use Rattle.class_copy.specs.Copies.{IsSomeFile, IsFileTold, IsAnswer}

abbrev some : List ℕ → Option (List ℕ)
some bytes = Some bytes

some_is : (x y : List ℕ) → some x ≡ some y → x ≡ y
some_is x y e = cc

-- the contents are what was fetched, or what was fetched is too long, as they are
whole_or_long : (contents bytes : List ℕ) → take (most_bytes + 1) contents ≡ bytes → (contents ≡ bytes) ⊎ ((most_bytes < length contents) × (most_bytes < length bytes))
whole_or_long contents bytes e =
    let len = length-take (most_bytes + 1) contents in
    let same = ap length e in
    elim (cases_lt most_bytes (length contents)) [
      | inl long ↦ inr (long, omega (arith, len, same, long))
      | inr short ↦ inl (sym (take_all (most_bytes + 1) contents (omega (arith, short))) ∙ e)
    ]

fault_of_front : (contents bytes : List ℕ) (fault : ReadError) → take (most_bytes + 1) contents ≡ bytes → IsFirstFault bytes fault → IsFirstFault contents fault
fault_of_front contents bytes fault e h = elim (whole_or_long contents bytes e) [
  | inl same ↦ subst (λ t. IsFirstFault t fault) (sym same) h
  | inr long ↦ elim h [ inl too_long ↦ inl (long.0, too_long.1) | inr short ↦ absurd (omega (arith, long.1, short.0)) ]
]

front_whole : (contents bytes : List ℕ) → take (most_bytes + 1) contents ≡ bytes → length bytes ≤ most_bytes → contents ≡ bytes
front_whole contents bytes e short = elim (whole_or_long contents bytes e) [
  | inl same ↦ same
  | inr long ↦ absurd (omega (arith, long.1, short))
]

fault_at : (o : Option (List ℕ)) (bytes : List ℕ) (fault : ReadError) → option_map (take (most_bytes + 1)) o ≡ some bytes → IsFirstFault bytes fault → IsSomeAnd o (λ t. IsFirstFault t fault)
fault_at None bytes fault e h = absurd (cc)
fault_at (Some contents) bytes fault e h = fault_of_front contents bytes fault (some_is (take (most_bytes + 1) contents) bytes e) h

-- a fault of what was fetched is one of the contents
pub told_fault : (files : Option Told) (name bytes : List ℕ) (fault : ReadError) → IsFetched files name most_bytes bytes → IsFirstFault bytes fault → HasTold files name (λ t. IsFirstFault t fault)
told_fault None name bytes fault fetched h = tt
told_fault (Some told) name bytes fault fetched h = fault_at (contents_at told name) bytes fault fetched h

whole_at : (o : Option (List ℕ)) (bytes : List ℕ) → option_map (take (most_bytes + 1)) o ≡ some bytes → length bytes ≤ most_bytes → o ≡ some bytes
whole_at None bytes e short = e
whole_at (Some contents) bytes e short = ap some (front_whole contents bytes (some_is (take (most_bytes + 1) contents) bytes e) short)

-- what was fetched and is not too long is all of the contents
pub told_whole : (files : Option Told) (name bytes : List ℕ) → IsFetched files name most_bytes bytes → length bytes ≤ most_bytes → IsToldAs files name bytes
told_whole None name bytes fetched short = tt
told_whole (Some told) name bytes fetched short = whole_at (contents_at told name) bytes fetched short

-- a class file that was fetched is the file of that name
pub told_file : (files : Option Told) (name bytes : List ℕ) → IsFetched files name most_bytes bytes → IsSomeFile bytes → IsFileTold files name bytes
told_file files name bytes fetched file = record { file = file; whole = told_whole files name bytes fetched file.1.short }

-- so the file of that name is a class file
pub has_file : (files : Option Told) (name bytes : List ℕ) → IsFileTold files name bytes → HasTold files name IsSomeFile
has_file None name bytes is = tt
has_file (Some told) name bytes is = subst (λ (o : Option (List ℕ)). IsSomeAnd o IsSomeFile) (sym is.whole) is.file

-- what was fetched is refused for its first fault
pub refusal : {A : Type 0} (files : Option Told) (name bytes : List ℕ) (e : CopyError)
    → IsFetched files name most_bytes bytes
    → ((fault : ReadError) → ◌≡◌ {A = Result A CopyError} (Err e) (Err (NotRead fault)) → IsFirstFault bytes fault)
    → (◌≡◌ {A = Result A CopyError} (Err e) (Err NotPut) → ⊥)
    → IsAnswer {A = A} files name (Err e)
refusal files name bytes NotFetched fetched faults put = tt
refusal files name bytes (NotRead fault) fetched faults put = told_fault files name bytes fault fetched (faults fault refl)
refusal files name bytes NotPut fetched faults put = absurd (put refl)
refusal files name bytes NoMemory fetched faults put = tt
