-- What a sound program is for the laws on places, and for those on points.
use Rattle.std.proofs.Common.{◌≡◌, ℕ, zero, suc, ◌<◌, Bool, true, false, List, [], ◌∷◌, length, is_some, refl, sym, eqb-true, arith}
use Rattle.std.specs.Prelude.{◌==◌, ◌||◌, slice_get}
use Rattle.std.specs.List.{AllByRecursion}
use Rattle.std.specs.Option.{option_and_then}
use Rattle.std.proofs.lemmas.Bool.{eq-eqb, or_left, or_right}
use Rattle.std.proofs.lemmas.Option.{option_and_then_some}
use Rattle.const_pool.specs.declared.class.ClassFile.{ClassFile}
use Rattle.const_pool.specs.declared.class.CodeAttribute.{CodeAttribute}
use Rattle.const_pool.specs.declared.class.Handler.{Handler}
use Rattle.code_model.specs.declared.instr.Instr.{Instr}
use Rattle.jvm_model.specs.Basis.Data.{Program}
use Rattle.jvm_model.specs.Codes.Lines.{targets_of}
use Rattle.jvm_model.specs.Basis.Methods.{method_code}
use Rattle.jvm_model.specs.Codes.Places.{is_start_in}
use Rattle.jvm_model.specs.Codes.ProgramPlaces.{HasClosedCodes, HasPlaces, IsClosedCode, is_place_of}
use Rattle.jvm_model.specs.Basis.Programs.{class_at, place_of_method}
use Rattle.jvm_model.specs.Soundness.SoundPrograms.{IsSoundProgram}
use Rattle.jvm_model.specs.Soundness.Whole.{FitsHandler, HasSoundCode, HasSoundCodes, IsWhole, instrs_of, is_stop}

-- ---- a code that leads to starts leads to its places

start-place : (code : CodeAttribute) (at : ℕ) → is_start_in (instrs_of code) at ≡ true → is_place_of code at ≡ true
start-place code at e =
    or_right (at == 0) (is_start_in (instrs_of code) at || at == length code.code) (or_left (is_start_in (instrs_of code) at) (at == length code.code) e)

stop-place : (code : CodeAttribute) (at : ℕ) → is_stop code at ≡ true → is_place_of code at ≡ true
stop-place code at e = or_right (at == 0) (is_start_in (instrs_of code) at || at == length code.code) (by (is_start_in (instrs_of code) at) e)
  where
    by : (b : Bool) → (b || (length code.code == at)) ≡ true → (b || (at == length code.code)) ≡ true
    by true e = refl
    by false e = eq-eqb at (length code.code) (sym (eqb-true (length code.code) at e))

starts-places : (code : CodeAttribute) (ts : List ℕ) → AllByRecursion (λ t. is_start_in (instrs_of code) t ≡ true) ts → AllByRecursion (λ t. is_place_of code t ≡ true) ts
starts-places code [] each = tt
starts-places code (t ∷ ts) each = (start-place code t each.0, starts-places code ts each.1)

targets-places : (code : CodeAttribute) (is : List Instr) → AllByRecursion (λ (i : Instr). AllByRecursion (λ t. is_start_in (instrs_of code) t ≡ true) (targets_of i.arg)) is
    → AllByRecursion (λ (i : Instr). AllByRecursion (λ t. is_place_of code t ≡ true) (targets_of i.arg)) is
targets-places code [] each = tt
targets-places code (i ∷ is) each = (starts-places code (targets_of i.arg) each.0, targets-places code is each.1)

handlers-places : (code : CodeAttribute) (hs : List Handler) → AllByRecursion (FitsHandler code) hs → AllByRecursion (HasPlaces code) hs
handlers-places code [] each = tt
handlers-places code (h ∷ hs) each =
    ((start-place code h.start each.0.0, stop-place code h.end each.0.1, start-place code h.handler each.0.2), handlers-places code hs each.1)

closed-code : (code : CodeAttribute) → HasSoundCode code → IsClosedCode code
closed-code code sound = record {
  reads = sound.reads;
  targets = targets-places code (instrs_of code) sound.targets;
  handlers = handlers-places code code.handlers sound.handlers;
}

-- the codes of a program
pub closed-codes : (p : Program) → HasSoundCodes p → HasClosedCodes p
closed-codes p sound method code e =
    option_and_then_some (λ place. option_and_then (λ c. method_code c place.position) (class_at p place.class)) (place_of_method p method) code e
    (λ place stands rest. option_and_then_some (λ c. method_code c place.position) (class_at p place.class) code rest
    (λ c is at. closed-code code (sound method place c code stands is at)))

-- ---- a sound program is whole

there : {A : Type 0} (xs : List A) (k : ℕ) → k < length xs → is_some (slice_get xs k) ≡ true
there [] k less = absurd (omega (arith, less))
there (x ∷ xs) zero less = refl
there (x ∷ xs) (suc k) less = there xs k (omega (arith, less))

pub whole-sound : (own : List ClassFile) (name : List ℕ) (p : Program) → IsSoundProgram own name p → IsWhole p
whole-sound own name p sound = record {
  fit = sound.fit;
  own = own;
  classes = sound.classes_are;
  methods = sound.methods;
  free = sound.free;
  main = there p.methods p.main sound.main;
  codes = sound.codes;
}
