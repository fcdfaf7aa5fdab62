-- Reading texts in modified UTF-8.
use Rattle.std.proofs.Common.{◌≡◌, ℕ, ◌⊎◌, inl, inr, List, ◌++◌, length, take, drop, Result, Ok, Err, refl, sym, ap, subst, ◌∙◌, arith}
use Rattle.std.proofs.lemmas.List.{take-append-drop, length-take}
use Rattle.text_coding.specs.Spelling.{IsSpelling, IsFirstBad}
use Rattle.class_reader.specs.declared.error.ReadError.{ReadError}
use Rattle.class_reader.specs.declared.error.ReadError.TheVariants.{BadUtf8}
use Rattle.class_reader.specs.Decoding.{text_decoded}
use Rattle.class_reader.specs.Formats.{place, IsCut, IsBadText, text}
use Rattle.class_reader.specs.Reading.{◌>>=◌, Read, text_at, text_from}
use Rattle.class_reader.proofs.Decoded.{decoded-spelling, decoded-first_bad, spelling-decoded, first_bad-decoded}
use Rattle.class_reader.proofs.Items.{IsBytes, IsBytes-drop, Takes, IsRead, read_parts, no_fault, ok_parts, err_parts}
use Rattle.class_reader.proofs.Widths.{run_takes_parts, run_again, run_whole, run_faults, run_stops}

-- what follows a run of bytes that was read
abbrev then_text : ℕ → List ℕ → Read (List ℕ) → Read (List ℕ)
then_text limit bytes read = read >>= λ t. text_from limit bytes t.1 (text_decoded t.0)

module _ (len limit : ℕ) where
  -- a text that came from these bytes was decoded
  from_text : (bytes rest front units others : List ℕ) (answer : Result (List ℕ) ℕ)
      → text_decoded front ≡ answer
      → text_from limit bytes rest answer ≡ Ok (units, others)
      → IsSpelling front units × (rest ≡ others)
  from_text bytes rest front units others (Ok found) is e =
      let same = read_parts found rest units others e in
      (subst (IsSpelling front) same.0 (decoded-spelling front found is), same.1)
  from_text bytes rest front units others (Err at) is e = absurd (no_fault units others _ (sym e))

  text_takes : (bytes units rest : List ℕ) → IsBytes bytes
      → text_at len limit bytes ≡ Ok (units, rest) → Takes (text len) bytes units rest
  unfolding text_at
  text_takes bytes units rest fits e =
      let a = ok_parts _ _ _ e in
      let run = run_takes_parts len limit bytes a.0.0 a.0.1 a.1 in
      let decoded_so = from_text bytes a.0.1 a.0.0 units rest _ refl a.2 in
      let behind : drop len bytes ≡ rest = run.2 ∙ decoded_so.1 in
      let long : length (take len bytes) ≡ len =
      let within = run.0 in omega (arith, length-take len bytes) in
      record {
        front = take len bytes;
        parts = subst (λ r. bytes ≡ take len bytes ++ r) behind (sym (take-append-drop len bytes));
        spelled = (subst (λ t. IsSpelling t units) (sym run.1) decoded_so.0, long);
        rest_fits = subst IsBytes behind (IsBytes-drop len bytes fits);
      }

  text_again : (front rest units : List ℕ) → IsSpelling front units × (length front ≡ len)
      → text_at len limit (front ++ rest) ≡ Ok (units, rest)
  unfolding text_at
  text_again front rest units h =
      ap (then_text limit (front ++ rest)) (run_again len limit front rest h.1)
      ∙ ap (text_from limit (front ++ rest) rest) (spelling-decoded front units h.0)

  -- a fault behind bytes that are all there is that of the text
  from_bad : (bytes rest front : List ℕ) (answer : Result (List ℕ) ℕ) (fault : ReadError)
      → text_decoded front ≡ answer
      → text_from limit bytes rest answer ≡ Err fault
      → (at : ℕ) × IsFirstBad front at × (fault ≡ BadUtf8 (place limit (drop at bytes)))
  from_bad bytes rest front (Ok units) fault is e = absurd (no_fault units rest fault e)
  from_bad bytes rest front (Err at) fault is e =
      let told : BadUtf8 (place limit (drop at bytes)) ≡ fault = cc in
      (at, decoded-first_bad front at is, sym told)

  text_faults : (bytes : List ℕ) (fault : ReadError) → text_at len limit bytes ≡ Err fault
      → IsCut len limit bytes fault ⊎ IsBadText len limit bytes fault
  unfolding text_at
  text_faults bytes fault e = elim (err_parts _ _ _ e) [
    | inl short ↦ inl (run_faults len limit bytes fault short)
    | inr a ↦
        let run = run_takes_parts len limit bytes a.0.0 a.0.1 a.1 in
        let bad = from_bad bytes a.0.1 a.0.0 _ fault refl a.2 in
        inr (record {
          whole = run.0;
          at = bad.0;
          bad = subst (λ t. IsFirstBad t bad.0) (sym run.1) bad.1;
          told = bad.2;
        })
  ]

  text_stops : (bytes : List ℕ) (fault : ReadError)
      → IsCut len limit bytes fault ⊎ IsBadText len limit bytes fault
      → text_at len limit bytes ≡ Err fault
  unfolding text_at
  text_stops bytes fault (inl h) =
      ap (then_text limit bytes) (run_stops len limit bytes fault h)
  text_stops bytes fault (inr h) =
      ap (then_text limit bytes) (run_whole len limit bytes h.whole)
      ∙ ap (text_from limit bytes (drop len bytes)) (first_bad-decoded (take len bytes) h.at h.bad)
      ∙ ap Err (sym h.told)

pub text_is_read : (len : ℕ) → IsRead (text_at len) (text len)
text_is_read len = record {
  takes = λ limit bytes units rest fits e. text_takes len limit bytes units rest fits e;
  again = λ limit front rest units h. text_again len limit front rest units h;
  faults = λ limit bytes fault fits e. text_faults len limit bytes fault e;
  stops = λ limit bytes fault h. text_stops len limit bytes fault h;
}
