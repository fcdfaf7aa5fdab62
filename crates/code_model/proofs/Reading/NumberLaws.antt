-- Reading numbers of a width, and runs of bytes.
use Rattle.std.proofs.Common.{◌≡◌, ℕ, List, ◌++◌, length, take, Ok, sym, ap, subst, ◌∙◌, arith}
use Rattle.std.specs.Int.{Width, byte_len, from_be_bytes, cast_signed}
use Rattle.std.proofs.lemmas.List.{take-append-drop, length-take}
use Rattle.code_model.specs.declared.error.CodeError.{CodeError}
use Rattle.code_model.specs.declared.error.CodeError.TheVariants.{Cut}
use Rattle.code_model.specs.Formats.{Format, IsCut, number, run}
use Rattle.code_model.specs.Operands.{number_signed, target, target_reached}
use Rattle.code_model.specs.Reading.{number_at, run_at, signed_at, target_at}
use Rattle.code_model.proofs.Reading.Items.{Takes, IsRead, one_read}
use Rattle.byte_formats.proofs.Cuts.{cut_at, cut_takes, cut_again, cut_faults, cut_stops}
use Rattle.byte_formats.proofs.Turns.{made_is_read, in_turn_is_read}

-- the fault of bytes that end within an instruction, wherever that is
abbrev cut_off : ℕ → ℕ → CodeError
cut_off at place = Cut at

-- what is spelled by so many bytes
abbrev cut : {A : Type 0} → ℕ → ℕ → (List ℕ → A) → Format A
cut at len make = record { Spells = λ text x. (length text ≡ len) × (make text ≡ x); Faults = IsCut at len }

module _ {A : Type 0} (at len : ℕ) (make : List ℕ → A) where
  is_taken : (limit : ℕ) (bytes : List ℕ) (x : A) (rest : List ℕ) → cut_at (cut_off at) len make limit bytes ≡ Ok (x, rest) → Takes (cut at len make) bytes x rest
  is_taken limit bytes x rest e =
      let taken = cut_takes (cut_off at) len make limit bytes x rest e in
      record {
        front = take len bytes;
        parts = subst (λ r. bytes ≡ take len bytes ++ r) taken.2 (sym (take-append-drop len bytes));
        spelled = (omega (arith, length-take len bytes, taken.0), taken.1);
        rest_fits = tt;
      }

  cut_is_read : IsRead (cut_at (cut_off at) len make 0) (cut at len make)
  cut_is_read = record {
    takes = λ limit bytes x rest fits e. is_taken limit bytes x rest e;
    again = λ limit front rest x h. cut_again (cut_off at) len make limit front rest h.0 ∙ ap (λ y. one_read y rest) h.1;
    faults = λ limit bytes fault fits e. cut_faults (cut_off at) len make limit bytes fault e;
    stops = cut_stops (cut_off at) len make;
  }

pub number_is_read : (at : ℕ) (w : Width) → IsRead (number_at at w) (number at w)
unfolding number_at
number_is_read at w = cut_is_read at (byte_len w) (from_be_bytes w)

-- ---- runs of bytes

abbrev itself : List ℕ → List ℕ
itself bytes = bytes

pub run_is_read : (at len : ℕ) → IsRead (run_at at len) (run at len)
unfolding run_at
run_is_read at len =
    let law = cut_is_read at len itself in
    record {
      takes = λ limit bytes x rest fits e. (let t = law.takes limit bytes x rest fits e in record { front = t.front; parts = t.parts; spelled = (t.spelled.1, ap length (sym t.spelled.1) ∙ t.spelled.0); rest_fits = tt });
      again = λ limit front rest x h. law.again limit front rest x (ap length h.0 ∙ h.1, h.0);
      faults = law.faults;
      stops = law.stops;
    }

-- ---- signed numbers and targets

pub signed_is_read : (at : ℕ) (w : Width) → IsRead (signed_at at w) (number_signed at w)
unfolding signed_at
signed_is_read at w = in_turn_is_read (number_is_read at w) (λ n. made_is_read (cast_signed w n))

pub target_is_read : (at : ℕ) (w : Width) → IsRead (target_at at w) (target at w)
unfolding target_at
target_is_read at w = in_turn_is_read (signed_is_read at w) (λ d. made_is_read (target_reached at d))
