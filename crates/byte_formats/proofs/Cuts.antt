-- Taking so many bytes, where there are as many.
use Rattle.std.proofs.Common.{◌≡◌, ℕ, ◌≤◌, Bool, true, false, cond, ltb, List, ◌++◌, length, take, drop, Ok, Err, refl, sym, arith}
use Rattle.std.proofs.lemmas.Bool.{ltb-true, ltb-false, lt-ltb, le-ltb}
use Rattle.std.proofs.lemmas.List.{take_at, drop_at, length-append}
use Rattle.byte_formats.specs.Formats.{place, IsCut}
use Rattle.byte_formats.specs.Reading.{Read, made_of_front}
use Rattle.byte_formats.proofs.Items.{one_read, read_parts, no_fault}

abbrev pub cut_at : {E A : Type 0} → (ℕ → E) → ℕ → (List ℕ → A) → ℕ → List ℕ → Read E A
cut_at cut len make limit bytes = made_of_front (cut (place limit bytes)) len make bytes

module _ {E A : Type 0} (cut : ℕ → E) (len : ℕ) (make : List ℕ → A) where
  pub cut_takes : (limit : ℕ) (bytes : List ℕ) (x : A) (rest : List ℕ)
      → cut_at cut len make limit bytes ≡ Ok (x, rest)
      → (len ≤ length bytes) × (make (take len bytes) ≡ x) × (drop len bytes ≡ rest)
  cut_takes limit bytes x rest = by_case (ltb (length bytes) len) refl
    where
      by_case : (b : Bool) → ltb (length bytes) len ≡ b
          → cond b
          (Err (cut (place limit bytes)))
          (one_read (make (take len bytes)) (drop len bytes))
          ≡ one_read x rest
          → (len ≤ length bytes) × (make (take len bytes) ≡ x) × (drop len bytes ≡ rest)
      by_case true is e = absurd (no_fault x rest _ (sym e))
      by_case false is e = let same = read_parts _ _ _ _ e in (ltb-false _ _ is, same.0, same.1)

  pub cut_again : (limit : ℕ) (front rest : List ℕ) → length front ≡ len
      → cut_at cut len make limit (front ++ rest) ≡ Ok (make front, rest)
  cut_again limit front rest e =
      let long : ltb (length (front ++ rest)) len ≡ false =
      le-ltb _ _ (omega (arith, length-append front rest)) in
      rw (long, take_at front rest len e, drop_at front rest len e) refl

  pub cut_whole : (limit : ℕ) (bytes : List ℕ) → len ≤ length bytes
      → cut_at cut len make limit bytes ≡ Ok (make (take len bytes), drop len bytes)
  cut_whole limit bytes within = rw (le-ltb _ _ within) refl

  pub cut_faults : (limit : ℕ) (bytes : List ℕ) (fault : E)
      → cut_at cut len make limit bytes ≡ Err fault → IsCut cut len limit bytes fault
  cut_faults limit bytes fault = by_case (ltb (length bytes) len) refl
    where
      by_case : (b : Bool) → ltb (length bytes) len ≡ b
          → cond b
          (Err (cut (place limit bytes)))
          (one_read (make (take len bytes)) (drop len bytes))
          ≡ Err fault
          → IsCut cut len limit bytes fault
      by_case true is e =
          let told : cut (place limit bytes) ≡ fault = cc in (ltb-true _ _ is, sym told)
      by_case false is e = absurd (no_fault _ _ _ e)

  pub cut_stops : (limit : ℕ) (bytes : List ℕ) (fault : E) → IsCut cut len limit bytes fault
      → cut_at cut len make limit bytes ≡ Err fault
  cut_stops limit bytes fault h = rw (lt-ltb _ _ h.0, h.1) refl
