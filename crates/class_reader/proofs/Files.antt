-- What is read of a file: a class exactly where the bytes spell one, and else the first fault.
use Rattle.std.proofs.Common.{◌≡◌, ℕ, ◌<◌, ◌≤◌, inl, inr, Bool, true, false, cond, eqb, ltb, List, [], ◌++◌, length, Result, Ok, Err, refl, sym, ap, subst, ◌∙◌, append-nil, length-append, arith}
use Rattle.std.proofs.lemmas.Bool.{eqb-true, eqb-false, ne_eqb, ltb-true, ltb-false, lt-ltb, le-ltb}
use Rattle.std.proofs.lemmas.List.{nil_from_length}
use Rattle.const_pool.specs.declared.class.ClassFile.{ClassFile}
use Rattle.const_pool.specs.ClassFile.{Spells}
use Rattle.class_reader.specs.declared.error.ReadError.{ReadError}
use Rattle.class_reader.specs.declared.error.ReadError.TheVariants.{TooLong, Trailing}
use Rattle.class_reader.specs.Formats.{place}
use Rattle.class_reader.specs.ClassFormat as format
use Rattle.class_reader.specs.Files.{most_bytes, IsFile, IsTrailing, IsImageFault, IsFirstFault}
use Rattle.class_reader.specs.Reading.{Read, class_at, all_of, image_of, file_of}
use Rattle.class_reader.proofs.Items.{IsBytes, one_read}
use Rattle.class_reader.proofs.Classes.{class_is_read}
use Rattle.class_reader.proofs.Bridge.{class-spelled, spelled-class}

abbrev class_of : ClassFile → Result ClassFile ReadError
class_of c = Ok c

abbrev fault_of : ReadError → Result ClassFile ReadError
fault_of fault = Err fault

not_both : (c : ClassFile) (fault : ReadError) → class_of c ≡ fault_of fault → ⊥
not_both c fault e = cc

same_class : (c d : ClassFile) → class_of c ≡ class_of d → c ≡ d
same_class c d e = cc

same_fault : (one other : ReadError) → fault_of one ≡ fault_of other → one ≡ other
same_fault one other e = cc

-- ---- all of the bytes

module _ (limit : ℕ) where
  all_one : (c : ClassFile) (rest : List ℕ) (d : ClassFile) → all_of limit (one_read c rest) ≡ Ok d
      → (c ≡ d) × (rest ≡ [])
  all_one c rest d = by_case (eqb (length rest) 0) refl
    where
      by_case : (b : Bool) → eqb (length rest) 0 ≡ b
          → cond b (class_of c) (Err (Trailing (place limit rest))) ≡ Ok d
          → (c ≡ d) × (rest ≡ [])
      by_case true is e = (same_class c d e, nil_from_length rest (eqb-true _ _ is))
      by_case false is e = absurd (not_both d _ (sym e))

  -- what was all of the bytes was read up to their end
  all : (read : Read ClassFile) (c : ClassFile) → all_of limit read ≡ Ok c → read ≡ Ok (c, [])
  all (Ok x) c e =
      let same = all_one x.0 x.1 c e in
      ap (λ z. one_read z x.1) same.0 ∙ ap (λ r. one_read c r) same.1
  all (Err fault) c e = absurd (not_both c fault (sym e))

  goes_wrong : (c : ClassFile) (rest : List ℕ) (fault : ReadError)
      → all_of limit (one_read c rest) ≡ Err fault
      → (0 < length rest) × (fault ≡ Trailing (place limit rest))
  goes_wrong c rest fault = by_case (eqb (length rest) 0) refl
    where
      by_case : (b : Bool) → eqb (length rest) 0 ≡ b
          → cond b (class_of c) (Err (Trailing (place limit rest))) ≡ Err fault
          → (0 < length rest) × (fault ≡ Trailing (place limit rest))
      by_case true is e = absurd (not_both c fault e)
      by_case false is e =
          let some : 0 < length rest = omega (arith, eqb-false _ _ is) in
          (some, sym (same_fault (Trailing (place limit rest)) fault e))

  goes_on : (c : ClassFile) (more : List ℕ) → 0 < length more
      → all_of limit (one_read c more) ≡ Err (Trailing (place limit more))
  goes_on c more some = rw (ne_eqb (length more) 0 (λ e. omega arith)) refl

-- behind the front stands the place of what follows
behind : (bytes front more : List ℕ) → bytes ≡ front ++ more
    → place (length bytes) more ≡ length front
behind bytes front more e = let sum = ap length e ∙ length-append front more in omega arith

-- ---- bytes, however many they are

pub image_spells : (bytes : List ℕ) (c : ClassFile) → IsBytes bytes → image_of bytes ≡ Ok c
    → Spells bytes c
unfolding image_of
image_spells bytes c fits e =
    let taken = class_is_read.takes (length bytes) bytes c [] fits (all (length bytes) _ c e) in
    let whole : bytes ≡ taken.front = taken.parts ∙ append-nil taken.front in
    class-spelled bytes c (subst (λ t. format.class.Spells t c) (sym whole) taken.spelled)

pub spells_image : (bytes : List ℕ) (c : ClassFile) → Spells bytes c → image_of bytes ≡ Ok c
unfolding image_of
spells_image bytes c h =
    let read : class_at (length bytes) bytes ≡ Ok (c, []) =
    ap (class_at (length bytes)) (sym (append-nil bytes))
    ∙ class_is_read.again (length bytes) bytes [] c (spelled-class bytes c h) in
    ap (all_of (length bytes)) read

-- the fault of bytes that were read so
image_wrong : (bytes : List ℕ) (read : Read ClassFile) (fault : ReadError) → IsBytes bytes
    → class_at (length bytes) bytes ≡ read
    → all_of (length bytes) read ≡ Err fault → IsImageFault bytes fault
unfolding IsImageFault
image_wrong bytes (Ok x) fault fits is e =
    let taken = class_is_read.takes (length bytes) bytes x.0 x.1 fits is in
    let wrong = goes_wrong (length bytes) x.0 x.1 fault e in
    inr (record {
      front = taken.front;
      more = x.1;
      parts = taken.parts;
      some = wrong.0;
      class = x.0;
      spelled = class-spelled taken.front x.0 taken.spelled;
      told = wrong.1 ∙ ap Trailing (behind bytes taken.front x.1 taken.parts);
    })
image_wrong bytes (Err first) fault fits is e =
    let same = same_fault first fault e in
    let found = class_is_read.faults (length bytes) bytes first fits is in
    inl (subst (format.class.Faults (length bytes) bytes) same found)

pub image_faults : (bytes : List ℕ) (fault : ReadError) → IsBytes bytes
    → image_of bytes ≡ Err fault → IsImageFault bytes fault
unfolding image_of
image_faults bytes fault fits e = image_wrong bytes _ fault fits refl e

trailing_image : (bytes : List ℕ) (fault : ReadError) → IsTrailing bytes fault
    → image_of bytes ≡ Err fault
unfolding image_of
trailing_image bytes fault h =
    let limit = length bytes in
    let read : class_at limit bytes ≡ Ok (h.class, h.more) =
    ap (class_at limit) h.parts
    ∙ class_is_read.again limit h.front h.more h.class (spelled-class h.front h.class h.spelled) in
    ap (all_of limit) read
    ∙ goes_on limit h.class h.more h.some
    ∙ ap (λ at. fault_of (Trailing at)) (behind bytes h.front h.more h.parts)
    ∙ ap Err (sym h.told)

pub faults_image : (bytes : List ℕ) (fault : ReadError) → IsImageFault bytes fault
    → image_of bytes ≡ Err fault
unfolding image_of IsImageFault
faults_image bytes fault (inl h) =
    ap (all_of (length bytes)) (class_is_read.stops (length bytes) bytes fault h)
faults_image bytes fault (inr h) = trailing_image bytes fault h

pub one_class : (bytes : List ℕ) (c d : ClassFile) → Spells bytes c → Spells bytes d → c ≡ d
one_class bytes c d h k = same_class c d (sym (spells_image bytes c h) ∙ spells_image bytes d k)

-- ---- files

pub file_spells : (bytes : List ℕ) (c : ClassFile) → IsBytes bytes → file_of bytes ≡ Ok c
    → IsFile bytes c
unfolding file_of
file_spells bytes c fits = by_case (ltb most_bytes (length bytes)) refl
  where
    by_case : (b : Bool) → ltb most_bytes (length bytes) ≡ b
        → cond b (Err TooLong) (image_of bytes) ≡ class_of c → IsFile bytes c
    by_case true is e = absurd (not_both c TooLong (sym e))
    by_case false is e = record { short = ltb-false _ _ is; spells = image_spells bytes c fits e }

short_file : (bytes : List ℕ) → length bytes ≤ most_bytes → file_of bytes ≡ image_of bytes
unfolding file_of
short_file bytes short = rw (le-ltb most_bytes (length bytes) short) refl

pub spells_file : (bytes : List ℕ) (c : ClassFile) → IsFile bytes c → file_of bytes ≡ Ok c
spells_file bytes c h = short_file bytes h.short ∙ spells_image bytes c h.spells

pub file_faults : (bytes : List ℕ) (fault : ReadError) → IsBytes bytes → file_of bytes ≡ Err fault
    → IsFirstFault bytes fault
unfolding file_of
file_faults bytes fault fits = by_case (ltb most_bytes (length bytes)) refl
  where
    by_case : (b : Bool) → ltb most_bytes (length bytes) ≡ b
        → cond b (Err TooLong) (image_of bytes) ≡ fault_of fault → IsFirstFault bytes fault
    by_case true is e = inl (ltb-true _ _ is, sym (same_fault TooLong fault e))
    by_case false is e = inr (ltb-false _ _ is, image_faults bytes fault fits e)

pub faults_file : (bytes : List ℕ) (fault : ReadError) → IsFirstFault bytes fault
    → file_of bytes ≡ Err fault
unfolding file_of
faults_file bytes fault (inl h) = rw (lt-ltb most_bytes (length bytes) h.0) (ap Err (sym h.1))
faults_file bytes fault (inr h) = short_file bytes h.0 ∙ faults_image bytes fault h.1

-- bytes have one first fault
pub one_image_fault : (bytes : List ℕ) (one other : ReadError) → IsImageFault bytes one
    → IsImageFault bytes other → one ≡ other
one_image_fault bytes one other h k =
    same_fault one other (sym (faults_image bytes one h) ∙ faults_image bytes other k)

pub one_fault : (bytes : List ℕ) (one other : ReadError) → IsFirstFault bytes one
    → IsFirstFault bytes other → one ≡ other
one_fault bytes one other h k =
    same_fault one other (sym (faults_file bytes one h) ∙ faults_file bytes other k)

-- bytes that spell a class have no fault
pub no_image_fault : (bytes : List ℕ) (c : ClassFile) (fault : ReadError) → Spells bytes c
    → IsImageFault bytes fault → ⊥
no_image_fault bytes c fault h k =
    not_both c fault (sym (spells_image bytes c h) ∙ faults_image bytes fault k)

pub no_first_fault : (bytes : List ℕ) (c : ClassFile) (fault : ReadError) → IsFile bytes c
    → IsFirstFault bytes fault → ⊥
no_first_fault bytes c fault h k =
    not_both c fault (sym (spells_file bytes c h) ∙ faults_file bytes fault k)
