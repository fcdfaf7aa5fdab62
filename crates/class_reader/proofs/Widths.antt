-- Reading numbers of a width, and runs of bytes.
use Rattle.std.proofs.Common.{◌≡◌, ℕ, ◌*◌, ◌%◌, ◌^◌, ◌<◌, ◌≤◌, List, [], ◌∷◌, ◌++◌, length, take, drop, Ok, Err, refl, sym, ap, subst, ◌∙◌, arith}
use Rattle.std.specs.List.{AllByRecursion}
use Rattle.std.specs.Int.{Width, w8, w16, w32, w64, byte_len, from_be_bytes, to_be_bytes}
use Rattle.std.proofs.lemmas.List.{take-append-drop, length-take}
use Rattle.std.proofs.lemmas.Nat.{be_bytes_2, be_bytes_4, be_bytes_8, from_be_bytes-to_be_bytes_2, from_be_bytes-to_be_bytes_4, from_be_bytes-to_be_bytes_8}
use Rattle.const_pool.specs.ClassFile.{IsByte}
use Rattle.byte_formats.proofs.Cuts.{cut_takes, cut_again, cut_whole, cut_faults, cut_stops}
use Rattle.class_reader.specs.declared.error.ReadError.{ReadError}
use Rattle.class_reader.specs.declared.error.ReadError.TheVariants.{Truncated}
use Rattle.class_reader.specs.Formats.{IsCut, number, run}
use Rattle.class_reader.specs.Reading.{number_at, run_at}
use Rattle.class_reader.proofs.Items.{IsBytes, IsBytes-take, IsBytes-drop, IsBytes-each, Takes, IsRead, one_read}

-- ---- numbers

-- what the laws of a width's numbers rest on
record IsWide (w : Width) : Type 0 where
  len : (n : ℕ) → length (to_be_bytes w n) ≡ byte_len w
  back : (bytes : List ℕ) → length bytes ≡ byte_len w → IsBytes bytes
      → to_be_bytes w (from_be_bytes w bytes) ≡ bytes
  again : (n : ℕ) → n < 2 ^ (8 * byte_len w) → from_be_bytes w (to_be_bytes w n) ≡ n
  below : (bytes : List ℕ) → IsBytes bytes → from_be_bytes w bytes < 2 ^ (8 * byte_len w)

byte_back : (bytes : List ℕ) → length bytes ≡ 1 → IsBytes bytes
    → to_be_bytes w8 (from_be_bytes w8 bytes) ≡ bytes
byte_back [] len fits = absurd (omega arith)
byte_back (b ∷ []) len fits =
    let same : b % 256 ≡ b = omega (arith, fits 0) in ap (λ (n : ℕ). n ∷ []) same
byte_back (b ∷ c ∷ bytes) len fits = absurd (omega arith)

wide8 : IsWide w8
wide8 = record {
  len = λ n. refl;
  back = byte_back;
  again = λ n lt. omega arith;
  below = λ bytes fits. omega (arith, fits 0);
}

wide16 : IsWide w16
wide16 = record {
  len = λ n. refl;
  back = λ bytes len fits. be_bytes_2 bytes _ len fits refl;
  again = λ n lt. from_be_bytes-to_be_bytes_2 n lt;
  below = λ bytes fits. omega (arith, fits 0, fits 1);
}

wide32 : IsWide w32
wide32 = record {
  len = λ n. refl;
  back = λ bytes len fits. be_bytes_4 bytes _ len fits refl;
  again = λ n lt. from_be_bytes-to_be_bytes_4 n lt;
  below = λ bytes fits. omega (arith, fits 0, fits 1, fits 2, fits 3);
}

wide64 : IsWide w64
wide64 = record {
  len = λ n. refl;
  back = λ bytes len fits. be_bytes_8 bytes _ len fits refl;
  again = λ n lt. from_be_bytes-to_be_bytes_8 n lt;
  below =
      λ bytes fits. omega (arith, fits 0, fits 1, fits 2, fits 3, fits 4, fits 5, fits 6, fits 7);
}

module _ (w : Width) (wide : IsWide w) where
  number_takes : (limit : ℕ) (bytes : List ℕ) (x : ℕ) (rest : List ℕ) → IsBytes bytes
      → number_at w limit bytes ≡ Ok (x, rest)
      → Takes (number w) bytes x rest
  unfolding number_at
  number_takes limit bytes x rest fits e =
      let cut = cut_takes Truncated (byte_len w) (from_be_bytes w) limit bytes x rest e in
      let front = take (byte_len w) bytes in
      let front_fits : IsBytes front = IsBytes-take (byte_len w) bytes fits in
      let len : length front ≡ byte_len w = omega (arith, length-take (byte_len w) bytes) in
      let back : to_be_bytes w (from_be_bytes w front) ≡ front = wide.back front len front_fits in
      let n = from_be_bytes w front in
      let spelled : (n < 2 ^ (8 * byte_len w)) × (front ≡ to_be_bytes w n) =
      (wide.below front front_fits, sym back) in
      record {
        front = front;
        parts = subst (λ r. bytes ≡ front ++ r) cut.2 (sym (take-append-drop (byte_len w) bytes));
        spelled = subst (λ n. (n < 2 ^ (8 * byte_len w)) × (front ≡ to_be_bytes w n)) cut.1 spelled;
        rest_fits = subst IsBytes cut.2 (IsBytes-drop (byte_len w) bytes fits);
      }

  number_again : (limit : ℕ) (front rest : List ℕ) (n : ℕ)
      → (n < 2 ^ (8 * byte_len w)) × (front ≡ to_be_bytes w n)
      → number_at w limit (front ++ rest) ≡ Ok (n, rest)
  unfolding number_at
  number_again limit front rest n h =
      let len : length front ≡ byte_len w = ap length h.1 ∙ wide.len n in
      let value : from_be_bytes w front ≡ n = ap (from_be_bytes w) h.1 ∙ wide.again n h.0 in
      cut_again Truncated (byte_len w) (from_be_bytes w) limit front rest len
      ∙ ap (λ k. one_read k rest) value

  number_faults : (limit : ℕ) (bytes : List ℕ) (fault : ReadError)
      → number_at w limit bytes ≡ Err fault
      → IsCut (byte_len w) limit bytes fault
  unfolding number_at
  number_faults limit bytes fault e = cut_faults Truncated (byte_len w) (from_be_bytes w) limit bytes fault e

  number_stops : (limit : ℕ) (bytes : List ℕ) (fault : ReadError)
      → IsCut (byte_len w) limit bytes fault
      → number_at w limit bytes ≡ Err fault
  unfolding number_at
  number_stops limit bytes fault h = cut_stops Truncated (byte_len w) (from_be_bytes w) limit bytes fault h

  number_is_read : IsRead (number_at w) (number w)
  number_is_read = record {
    takes = number_takes;
    again = number_again;
    faults = λ limit bytes fault fits e. number_faults limit bytes fault e;
    stops = number_stops;
  }

pub u1_is_read : IsRead (number_at w8) (number w8)
u1_is_read = number_is_read w8 wide8

pub u2_is_read : IsRead (number_at w16) (number w16)
u2_is_read = number_is_read w16 wide16

pub u4_is_read : IsRead (number_at w32) (number w32)
u4_is_read = number_is_read w32 wide32

pub u8_is_read : IsRead (number_at w64) (number w64)
u8_is_read = number_is_read w64 wide64

-- ---- runs of bytes

abbrev itself : List ℕ → List ℕ
itself bytes = bytes

module _ (len : ℕ) where
  run_takes : (limit : ℕ) (bytes x rest : List ℕ) → IsBytes bytes
      → run_at len limit bytes ≡ Ok (x, rest) → Takes (run len) bytes x rest
  unfolding run_at
  run_takes limit bytes x rest fits e =
      let cut = cut_takes Truncated len itself limit bytes x rest e in
      let front = take len bytes in
      let long : length front ≡ len = omega (arith, length-take len bytes) in
      let spelled : (front ≡ front) × (length front ≡ len) × AllByRecursion IsByte front =
      (refl, long, IsBytes-each front (IsBytes-take len bytes fits)) in
      record {
        front = front;
        parts = subst (λ r. bytes ≡ front ++ r) cut.2 (sym (take-append-drop len bytes));
        spelled =
            subst (λ t. (front ≡ t) × (length t ≡ len) × AllByRecursion IsByte t) cut.1 spelled;
        rest_fits = subst IsBytes cut.2 (IsBytes-drop len bytes fits);
      }

  -- the parts of what was taken
  pub run_takes_parts : (limit : ℕ) (bytes x rest : List ℕ) → run_at len limit bytes ≡ Ok (x, rest)
      → (len ≤ length bytes) × (take len bytes ≡ x) × (drop len bytes ≡ rest)
  unfolding run_at
  run_takes_parts limit bytes x rest e = cut_takes Truncated len itself limit bytes x rest e

  pub run_again : (limit : ℕ) (front rest : List ℕ) → length front ≡ len
      → run_at len limit (front ++ rest) ≡ Ok (front, rest)
  unfolding run_at
  run_again limit front rest e = cut_again Truncated len itself limit front rest e

  pub run_whole : (limit : ℕ) (bytes : List ℕ) → len ≤ length bytes
      → run_at len limit bytes ≡ Ok (take len bytes, drop len bytes)
  unfolding run_at
  run_whole limit bytes within = cut_whole Truncated len itself limit bytes within

  pub run_faults : (limit : ℕ) (bytes : List ℕ) (fault : ReadError)
      → run_at len limit bytes ≡ Err fault → IsCut len limit bytes fault
  unfolding run_at
  run_faults limit bytes fault e = cut_faults Truncated len itself limit bytes fault e

  pub run_stops : (limit : ℕ) (bytes : List ℕ) (fault : ReadError) → IsCut len limit bytes fault
      → run_at len limit bytes ≡ Err fault
  unfolding run_at
  run_stops limit bytes fault h = cut_stops Truncated len itself limit bytes fault h

  run_spelled : (limit : ℕ) (front rest x : List ℕ)
      → (front ≡ x) × (length x ≡ len) × AllByRecursion IsByte x
      → run_at len limit (front ++ rest) ≡ Ok (x, rest)
  run_spelled limit front rest x h =
      run_again limit front rest (ap length h.0 ∙ h.1) ∙ ap (λ t. one_read t rest) h.0

  pub run_is_read : IsRead (run_at len) (run len)
  run_is_read = record {
    takes = run_takes;
    again = run_spelled;
    faults = λ limit bytes fault fits e. run_faults limit bytes fault e;
    stops = run_stops;
  }
