-- Code that stays within itself, from what admission looks at: each code is instructions from its front to its end,
-- which jump to starts of instructions, and whose handlers begin, end and go on at such.
use Rattle.std.proofs.Common.{◌≡◌, ℕ, Bool, true, false, List, [], ◌∷◌, length, map, Option, Some, None, if◌then◌else◌, refl, sym, ap, subst, ◌∙◌, eqb-true, arith}
use Rattle.std.proofs.lemmas.Bool.{eq-eqb, false≢true, or_left, or_right}
use Rattle.std.specs.Prelude.{is_some, unwrap_or, ◌==◌, ◌||◌}
use Rattle.std.specs.List.{AllByRecursion}
use Rattle.std.specs.Option.{IfSome, option_and_then, option_map, option_map_or}
use Rattle.std.proofs.lemmas.Option.{none-some, same_Some}
use Rattle.const_pool.specs.declared.class.ClassFile.{ClassFile}
use Rattle.const_pool.specs.declared.class.CodeAttribute.{CodeAttribute}
use Rattle.const_pool.specs.declared.class.Handler.{Handler}
use Rattle.code_model.specs.declared.instr.Instr.{Instr}
use Rattle.code_model.specs.Instructions.{Reads, end_of, instruction_at}
use Rattle.code_model.proofs.Reading.Readings.{at-instruction_at, instruction_at-past}
use Rattle.jvm_model.specs.Basis.Data.{MethodPlace, Program, Catcher, Instruction, Local, Operation}
use Rattle.jvm_model.specs.Codes.Closed.{IsClosed}
use Rattle.jvm_model.specs.Codes.Lines.{code_instruction, ends, instruction_of, method_instruction, next_of, operation_of, targets_of}
use Rattle.jvm_model.specs.Basis.Methods.{method_code}
use Rattle.jvm_model.specs.Codes.Originals.{catcher_of, method_handlers, original}
use Rattle.jvm_model.specs.Codes.Places.{is_place, is_start_in, read_from}
use Rattle.jvm_model.specs.Basis.Programs.{class_at, place_of_method}
use Rattle.jvm_model.proofs.Relocated.StandingFrames.{Stand, place-start, read-stand}
use Rattle.jvm_model.specs.Soundness.Calls.{is_code_end, places_of}
use Rattle.jvm_model.specs.Soundness.Whole.{FitsHandler, HasSoundCode, HasSoundCodes, instrs_of, is_stop}

module _ (bytes : List ℕ) where
  -- what holds of each instruction holds of the one at a start
  at-start : (P : Instr → Type 0) (js : List Instr) (at : ℕ) (j : Instr) → Stand bytes js → AllByRecursion P js → is_start_in js at ≡ true → instruction_at bytes at ≡ Some j → P j
  at-start P [] at j stand each start found = absurd (false≢true start)
  at-start P (i ∷ js) at j stand each start found = by (i.at == at) refl start (λ h. at-start P js at j stand.1 each.1 h found)
    where
      by : (b : Bool) → (i.at == at) ≡ b → (b || is_start_in js at) ≡ true → (is_start_in js at ≡ true → P j) → P j
      by true e h rest = subst P (same_Some i j (sym stand.0 ∙ (ap (instruction_at bytes) (eqb-true i.at at e) ∙ found))) each.0
      by false e h rest = rest h

  -- each instruction ends where one starts, or at the end
  Stops : List Instr → Instr → Type 0
  Stops all j = (is_start_in all (end_of j) || (length bytes == end_of j)) ≡ true

  stops-more : (i : Instr) (all : List Instr) (js : List Instr) → AllByRecursion (Stops all) js → AllByRecursion (Stops (i ∷ all)) js
  unfolding Stops
  stops-more i all [] each = tt
  stops-more i all (j ∷ js) each = (by (is_start_in all (end_of j)) each.0, stops-more i all js each.1)
    where
      by : (b : Bool) → (b || (length bytes == end_of j)) ≡ true → (((i.at == end_of j) || b) || (length bytes == end_of j)) ≡ true
      by true e = or_left ((i.at == end_of j) || true) (length bytes == end_of j) (or_right (i.at == end_of j) true refl)
      by false e = or_right ((i.at == end_of j) || false) (length bytes == end_of j) e

  reads-stop : (at : ℕ) (js : List Instr) → Reads bytes at js → AllByRecursion (Stops js) js
  unfolding Stops
  reads-stop at [] reads = tt
  reads-stop at (i ∷ []) reads = (or_right ((i.at == end_of i) || false) (length bytes == end_of i) (eq-eqb (length bytes) (end_of i) (sym reads.1)), tt)
  reads-stop at (i ∷ j ∷ js) reads =
      let next : j.at ≡ end_of i = at-instruction_at bytes (end_of i) j reads.1.0 in (
        or_left ((i.at == end_of i) || ((j.at == end_of i) || is_start_in js (end_of i))) (length bytes == end_of i)
            (or_right (i.at == end_of i) ((j.at == end_of i) || is_start_in js (end_of i)) (or_left (j.at == end_of i) (is_start_in js (end_of i)) (eq-eqb j.at (end_of i) next))),
        stops-more i (j ∷ js) (j ∷ js) (reads-stop (end_of i) (j ∷ js) reads.1),
      )

-- a start, or the end, is a place
place-of : (code : CodeAttribute) (at : ℕ) → is_stop code at ≡ true → ((at == 0 || is_start_in (instrs_of code) at) || (length code.code == at)) ≡ true
place-of code at e = by (is_start_in (instrs_of code) at) e
  where
    by : (b : Bool) → (b || (length code.code == at)) ≡ true → ((at == 0 || b) || (length code.code == at)) ≡ true
    by true e = or_left (at == 0 || true) (length code.code == at) (or_right (at == 0) true refl)
    by false e = or_right (at == 0 || false) (length code.code == at) e

-- no instruction stands at the end
inside : (code : CodeAttribute) (at : ℕ) (j : Instr) → instruction_at code.code at ≡ Some j → ((at == 0 || is_start_in (instrs_of code) at) || (length code.code == at)) ≡ true
    → is_start_in (instrs_of code) at ≡ true
inside code at j found e = place-start code.code at j found (by (at == 0 || is_start_in (instrs_of code) at) e)
  where
    by : (b : Bool) → (b || (length code.code == at)) ≡ true → b ≡ true
    by true e = refl
    by false e =
        absurd (none-some j (sym (instruction_at-past code.code at (let past : length code.code ≡ at = eqb-true (length code.code) at e in omega (arith, past))) ∙ found))

-- ---- an instruction of a code

record IsOf (code : CodeAttribute) (at : ℕ) (i : Instruction) : Type 0 where
  instr : Instr
  op : Operation Local
  stands : instruction_at code.code at ≡ Some instr
  is : i ≡ record { operation = op; own = instr.at; next = next_of op (end_of instr); targets = targets_of instr.arg }

is-of : (c : ClassFile) (code : CodeAttribute) (at : ℕ) (i : Instruction) → code_instruction c code.code at ≡ Some i → IsOf code at i
is-of c code at i e = by (instruction_at code.code at) refl e
  where
    made : (j : Instr) (o : Option (Operation Local)) → instruction_at code.code at ≡ Some j
        → option_map (λ op. record { operation = op; own = j.at; next = next_of op (end_of j); targets = targets_of j.arg }) o ≡ Some i → IsOf code at i
    made j None stands e = absurd (none-some i e)
    made j (Some op) stands e =
        record { instr = j; op = op; stands = stands; is = sym (same_Some (record { operation = op; own = j.at; next = next_of op (end_of j); targets = targets_of j.arg }) i e) }

    by : (o : Option Instr) → instruction_at code.code at ≡ o → option_and_then (instruction_of c) o ≡ Some i → IsOf code at i
    by None stands e = absurd (none-some i e)
    by (Some j) stands e = made j (operation_of c j) stands e

module _ (code : CodeAttribute) (sound : HasSoundCode code) (at : ℕ) (i : Instruction) (of : IsOf code at i)
    (place : ((at == 0 || is_start_in (instrs_of code) at) || (length code.code == at)) ≡ true) where
  start : is_start_in (instrs_of code) at ≡ true
  start = inside code at of.instr of.stands place

  code-next : IfSome i.next (λ k. ((k == 0 || is_start_in (instrs_of code) k) || (length code.code == k)) ≡ true)
  unfolding Stops
  code-next =
      subst (λ (x : Instruction). IfSome x.next (λ k. ((k == 0 || is_start_in (instrs_of code) k) || (length code.code == k)) ≡ true)) (sym of.is)
      (by (ends of.op)
      (at-start code.code (Stops code.code (instrs_of code)) (instrs_of code) at of.instr (read-stand code.code (length code.code) 0)
      (reads-stop code.code 0 (instrs_of code) sound.reads) start of.stands))
    where
      by : (b : Bool) → is_stop code (end_of of.instr) ≡ true
          → IfSome (let o : Option ℕ = if b then None else Some (end_of of.instr) in o) (λ k. ((k == 0 || is_start_in (instrs_of code) k) || (length code.code == k)) ≡ true)
      by true e = tt
      by false e = place-of code (end_of of.instr) e

  code-targets : AllByRecursion (λ k. ((k == 0 || is_start_in (instrs_of code) k) || (length code.code == k)) ≡ true) i.targets
  code-targets =
      subst (λ (x : Instruction). AllByRecursion (λ k. ((k == 0 || is_start_in (instrs_of code) k) || (length code.code == k)) ≡ true) x.targets) (sym of.is)
      (each (targets_of of.instr.arg)
      (at-start code.code (λ (j : Instr). AllByRecursion (λ k. is_start_in (instrs_of code) k ≡ true) (targets_of j.arg)) (instrs_of code) at of.instr
      (read-stand code.code (length code.code) 0) sound.targets start of.stands))
    where
      each : (ks : List ℕ) → AllByRecursion (λ k. is_start_in (instrs_of code) k ≡ true) ks
          → AllByRecursion (λ k. ((k == 0 || is_start_in (instrs_of code) k) || (length code.code == k)) ≡ true) ks
      each [] all = tt
      each (k ∷ ks) all = (place-of code k (or_left (is_start_in (instrs_of code) k) (length code.code == k) all.0), each ks all.1)

-- ---- the listing

module _ (p : Program) (sound : HasSoundCodes p) where
  -- of a method of a class: its place, its class, its code
  abbrev IsPlaceOf : Option CodeAttribute → ℕ → Bool
  IsPlaceOf o at =
      (if is_some o then at == 0 || is_start_in (option_map_or (λ (code : CodeAttribute). read_from (length code.code) code.code 0) o []) at else true)
      || option_map_or (λ (code : CodeAttribute). length code.code == at) o false

  abbrev places_in : Option MethodPlace → ℕ → Bool
  places_in o at = unwrap_or (option_and_then (λ (place : MethodPlace). option_and_then (λ c. Some (is_place c place.position at || is_code_end c place.position at)) (class_at p place.class)) o) true

  zero-place : (v : ℕ) → places_of p v 0 ≡ true
  zero-place v = by (place_of_method p v)
    where
      coded : (o : Option CodeAttribute) → IsPlaceOf o 0 ≡ true
      coded None = refl
      coded (Some code) = refl

      class : (o : Option ClassFile) (place : MethodPlace) → unwrap_or (option_and_then (λ c. Some (is_place c place.position 0 || is_code_end c place.position 0)) o) true ≡ true
      class None place = refl
      class (Some c) place = coded (method_code c place.position)

      by : (o : Option MethodPlace) → places_in o 0 ≡ true
      by None = refl
      by (Some place) = class (class_at p place.class) place

  -- what follows from an instruction at a place of its code holds in the listing
  by-code : (P : (ℕ → Bool) → Instruction → Type 0)
      → ((code : CodeAttribute) → HasSoundCode code → (at : ℕ) (i : Instruction) → IsOf code at i
      → ((at == 0 || is_start_in (instrs_of code) at) || (length code.code == at)) ≡ true
      → P (λ k. (k == 0 || is_start_in (instrs_of code) k) || (length code.code == k)) i)
      → (v at : ℕ) (i : Instruction) → places_of p v at ≡ true → (original p).at v at ≡ Some i → P (places_of p v) i
  by-code P each v at i place found = by (place_of_method p v) refl place found
    where
      coded : (c : ClassFile) (position : ℕ) (o : Option CodeAttribute) → method_code c position ≡ o → ((code : CodeAttribute) → o ≡ Some code → HasSoundCode code)
          → IsPlaceOf o at ≡ true → option_and_then (λ (code : CodeAttribute). code_instruction c code.code at) o ≡ Some i → P (IsPlaceOf o) i
      coded c position None is has place found = absurd (none-some i found)
      coded c position (Some code) is has place found = each code (has code refl) at i (is-of c code at i found) place

      class : (at_place : MethodPlace) (o : Option ClassFile) → place_of_method p v ≡ Some at_place → class_at p at_place.class ≡ o
          → unwrap_or (option_and_then (λ c. Some (is_place c at_place.position at || is_code_end c at_place.position at)) o) true ≡ true
          → option_and_then (λ c. method_instruction c at_place.position at) o ≡ Some i
          → P (λ k. unwrap_or (option_and_then (λ c. Some (is_place c at_place.position k || is_code_end c at_place.position k)) o) true) i
      class at_place None stands is place found = absurd (none-some i found)
      class at_place (Some c) stands is place found =
          coded c at_place.position (method_code c at_place.position) refl (λ code e. sound v at_place c code stands is e) place found

      by : (o : Option MethodPlace) → place_of_method p v ≡ o → places_in o at ≡ true
          → option_and_then (λ (at_place : MethodPlace). option_and_then (λ c. method_instruction c at_place.position at) (class_at p at_place.class)) o ≡ Some i
          → P (places_in o) i
      by None stands place found = absurd (none-some i found)
      by (Some at_place) stands place found = class at_place (class_at p at_place.class) stands refl place found

  handlers-within : (v : ℕ) → AllByRecursion (λ (h : Catcher). (places_of p v h.start ≡ true) × (places_of p v h.finish ≡ true) × (places_of p v h.target ≡ true)) ((original p).handlers v)
  handlers-within v = by (place_of_method p v) refl
    where
      each : (c : ClassFile) (code : CodeAttribute) (hs : List Handler) → AllByRecursion (FitsHandler code) hs
          → AllByRecursion (λ (h : Catcher). (IsPlaceOf (Some code) h.start ≡ true) × (IsPlaceOf (Some code) h.finish ≡ true) × (IsPlaceOf (Some code) h.target ≡ true)) (map (catcher_of c) hs)
      each c code [] all = tt
      each c code (h ∷ hs) all = (
        (
          place-of code h.start (or_left (is_start_in (instrs_of code) h.start) (length code.code == h.start) all.0.0),
          place-of code h.end all.0.1,
          place-of code h.handler (or_left (is_start_in (instrs_of code) h.handler) (length code.code == h.handler) all.0.2),
        ),
        each c code hs all.1,
      )

      coded : (c : ClassFile) (o : Option CodeAttribute) → ((code : CodeAttribute) → o ≡ Some code → HasSoundCode code)
          → AllByRecursion (λ (h : Catcher). (IsPlaceOf o h.start ≡ true) × (IsPlaceOf o h.finish ≡ true) × (IsPlaceOf o h.target ≡ true))
          (unwrap_or (option_map (λ (code : CodeAttribute). map (catcher_of c) code.handlers) o) [])
      coded c None has = tt
      coded c (Some code) has = each c code code.handlers (has code refl).handlers

      class : (at_place : MethodPlace) (o : Option ClassFile) → place_of_method p v ≡ Some at_place → class_at p at_place.class ≡ o
          → (let is : ℕ → Bool = λ k. unwrap_or (option_and_then (λ c. Some (is_place c at_place.position k || is_code_end c at_place.position k)) o) true in
          AllByRecursion (λ (h : Catcher). (is h.start ≡ true) × (is h.finish ≡ true) × (is h.target ≡ true)) (unwrap_or (option_and_then (λ c. method_handlers c at_place.position) o) []))
      class at_place None stands is = tt
      class at_place (Some c) stands is = coded c (method_code c at_place.position) (λ code e. sound v at_place c code stands is e)

      by : (o : Option MethodPlace) → place_of_method p v ≡ o
          → AllByRecursion (λ (h : Catcher). (places_in o h.start ≡ true) × (places_in o h.finish ≡ true) × (places_in o h.target ≡ true))
          (unwrap_or (option_and_then (λ (at_place : MethodPlace). option_and_then (λ c. method_handlers c at_place.position) (class_at p at_place.class)) o) [])
      by None stands = tt
      by (Some at_place) stands = class at_place (class_at p at_place.class) stands refl

  -- The program's code stays within itself.
  pub closed-by : IsClosed (places_of p) (original p)
  closed-by = record {
    start = zero-place;
    first = zero-place;
    next = λ v at i place e. by-code (λ is x. IfSome x.next (λ k. is k ≡ true)) code-next v at i place e;
    targets = λ v at i place e. by-code (λ is x. AllByRecursion (λ k. is k ≡ true) x.targets) code-targets v at i place e;
    handlers = handlers-within;
  }
