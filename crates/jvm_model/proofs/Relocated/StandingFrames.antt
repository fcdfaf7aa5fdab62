-- A frame of closed code stands where an instruction starts, and so at an operation of its method's code.
use Rattle.std.proofs.Common.{◌≡◌, ℕ, zero, suc, Bool, true, false, List, [], ◌∷◌, length, Option, Some, None, ◌≤◌, if◌then◌else◌, refl, sym, ap, subst, ◌∙◌, eqb-true, inl, inr, arith}
use Rattle.std.proofs.lemmas.Bool.{cases_eq, false≢true}
use Rattle.std.specs.Prelude.{filter_map, is_some, unwrap_or, ◌==◌, ◌||◌}
use Rattle.std.specs.List.{AllByRecursion, cons_option}
use Rattle.std.specs.Option.{option_and_then, option_map, option_map_or}
use Rattle.std.proofs.lemmas.Option.{none-some, same_Some}
use Rattle.const_pool.specs.declared.class.ClassFile.{ClassFile}
use Rattle.const_pool.specs.declared.class.CodeAttribute.{CodeAttribute}
use Rattle.code_model.specs.declared.instr.Instr.{Instr}
use Rattle.code_model.specs.Instructions.{instruction_at, end_of}
use Rattle.code_model.proofs.Reading.Readings.{at-instruction_at, instruction_at-past}
use Rattle.jvm_model.specs.Basis.Data.{MethodPlace, Entry, Active, Initializing, Frame, Local, Operation, Instruction, World}
use Rattle.jvm_model.specs.Codes.Lines.{code_instruction, instruction_of, method_instruction, next_of, operation_of, targets_of}
use Rattle.jvm_model.specs.Basis.Methods.{method_code}
use Rattle.jvm_model.specs.Codes.Originals.{original}
use Rattle.jvm_model.specs.Codes.Closed.{IsClosed, norm_of}
use Rattle.jvm_model.specs.Codes.Moved.{moved_stack, at_homes}
use Rattle.jvm_model.specs.Running.Run.{run}
use Rattle.jvm_model.proofs.Relocated.ClosedCode.{closed-placed}
use Rattle.jvm_model.specs.Codes.Places.{is_place, is_start_in, method_reading, read_from}
use Rattle.jvm_model.specs.Basis.Programs.{class_at, place_of_method}
use Rattle.jvm_model.specs.Soundness.Sound.{IsFit}
use Rattle.jvm_model.specs.Soundness.SoundListings.{IsSoundEntry, RunsOriginal}
use Rattle.jvm_model.specs.Soundness.Climbing.{HasBareObject}
use Rattle.jvm_model.proofs.Revealing.CalledSteps.{Has}
use Rattle.jvm_model.proofs.Revealing.CalledRuns.{IsAt, StandsAt}
use Rattle.jvm_model.specs.Soundness.Calls.{StandsAtPlace, is_code_end, places_of}
use Rattle.jvm_model.specs.Profiling.Targets.{operations_of}

module _ (bytes : List ℕ) where
  abbrev pub Stand : List Instr → Type 0
  Stand js = AllByRecursion (λ (j : Instr). instruction_at bytes j.at ≡ Some j) js

  pub read-stand : (n at : ℕ) → Stand (read_from n bytes at)
  read-stand zero at = tt
  read-stand (suc n) at = by (instruction_at bytes at) refl (read-stand n)
    where
      by : (o : Option Instr) → instruction_at bytes at ≡ o → ((k : ℕ) → Stand (read_from n bytes k))
          → Stand (option_map_or (λ (i : Instr). i ∷ read_from n bytes (end_of i)) o [])
      by None e rest = tt
      by (Some i) e rest = (ap (instruction_at bytes) (at-instruction_at bytes at i e) ∙ e, rest (end_of i))

  module _ (c : ClassFile) (j : Instr) (op : Operation Local) (is : operation_of c j ≡ Some op) where
    has-behind : (o : Option (Operation Local)) (ops : List (Operation Local)) → Has ops op → Has (cons_option o ops) op
    has-behind None ops has = has
    has-behind (Some k) ops has = record { front = k ∷ has.front; rest = has.rest; is = ap (λ (l : List (Operation Local)). k ∷ l) has.is }

    has-made : (js : List Instr) (at : ℕ) → Stand js → is_start_in js at ≡ true → instruction_at bytes at ≡ Some j → Has (filter_map (operation_of c) js) op
    has-made [] at stand start found = absurd (false≢true start)
    has-made (i ∷ js) at stand start found = by (i.at == at) refl start (λ h. has-made js at stand.1 h found)
      where
        by : (b : Bool) → (i.at == at) ≡ b → (b || is_start_in js at) ≡ true → (is_start_in js at ≡ true → Has (filter_map (operation_of c) js) op)
            → Has (cons_option (operation_of c i) (filter_map (operation_of c) js)) op
        by true e h rest =
            let same : i ≡ j = same_Some i j (sym stand.0 ∙ (ap (instruction_at bytes) (eqb-true i.at at e) ∙ found)) in
            record { front = []; rest = filter_map (operation_of c) js; is = ap (λ o. cons_option o (filter_map (operation_of c) js)) (ap (operation_of c) same ∙ is) }
        by false e h rest = has-behind (operation_of c i) (filter_map (operation_of c) js) (rest h)

  -- the first instruction starts at 0
  first-start : (n : ℕ) (j : Instr) → instruction_at bytes 0 ≡ Some j → is_start_in (read_from (suc n) bytes 0) 0 ≡ true
  first-start n j found =
      ap (λ o. is_start_in (option_map_or (λ (i : Instr). i ∷ read_from n bytes (end_of i)) o []) 0) found
      ∙ ap (λ k. (k == 0) || is_start_in (read_from n bytes (end_of j)) 0) (at-instruction_at bytes 0 j found)

  some-bytes : (j : Instr) → instruction_at bytes 0 ≡ Some j → 1 ≤ length bytes
  some-bytes j found = elim (cases_eq (length bytes) 0) [
    | inl none ↦ absurd (none-some j (sym (instruction_at-past bytes 0 (omega (arith, none))) ∙ found))
    | inr other ↦ omega arith
  ]

  pub place-start : (at : ℕ) (j : Instr) → instruction_at bytes at ≡ Some j → (at == 0 || is_start_in (read_from (length bytes) bytes 0) at) ≡ true
      → is_start_in (read_from (length bytes) bytes 0) at ≡ true
  place-start at j found e = by (at == 0) refl e
    where
      sized : (n : ℕ) → length bytes ≡ n → instruction_at bytes 0 ≡ Some j → is_start_in (read_from n bytes 0) 0 ≡ true
      sized zero none found = let some = some-bytes j found in absurd (omega (arith, some, none))
      sized (suc n) is found = first-start n j found

      by : (b : Bool) → (at == 0) ≡ b → (b || is_start_in (read_from (length bytes) bytes 0) at) ≡ true → is_start_in (read_from (length bytes) bytes 0) at ≡ true
      by false other h = h
      by true first h =
          let zero_is : at ≡ 0 = eqb-true at 0 first in
          subst (λ k. is_start_in (read_from (length bytes) bytes 0) k ≡ true) (sym zero_is) (sized (length bytes) refl (ap (instruction_at bytes) (sym zero_is) ∙ found))

-- of a method of a class
reading-has : (c : ClassFile) (position at : ℕ) (i : Instruction) → (is_place c position at || is_code_end c position at) ≡ true → method_instruction c position at ≡ Some i
    → Has (filter_map (operation_of c) (method_reading c position)) i.operation
reading-has c position at i place found = by (method_code c position) place found
  where
    made : (bytes : List ℕ) (j : Instr) (o : Option (Operation Local)) → operation_of c j ≡ o → is_start_in (read_from (length bytes) bytes 0) at ≡ true → instruction_at bytes at ≡ Some j
        → option_map (λ op. record { operation = op; own = j.at; next = next_of op (end_of j); targets = targets_of j.arg }) o ≡ Some i
        → Has (filter_map (operation_of c) (read_from (length bytes) bytes 0)) i.operation
    made bytes j None is start stands e = absurd (none-some i e)
    made bytes j (Some op) is start stands e =
        let same : op ≡ i.operation = ap (λ (x : Instruction). x.operation) (same_Some (record { operation = op; own = j.at; next = next_of op (end_of j); targets = targets_of j.arg }) i e) in
        subst (Has (filter_map (operation_of c) (read_from (length bytes) bytes 0))) same
        (has-made bytes c j op is (read_from (length bytes) bytes 0) at (read-stand bytes (length bytes) 0) start stands)

    -- no instruction stands at the end
    within-code : (bytes : List ℕ) (j : Instr) → instruction_at bytes at ≡ Some j → (b : Bool) → (b || (length bytes == at)) ≡ true → b ≡ true
    within-code bytes j stands true h = refl
    within-code bytes j stands false h =
        let past : length bytes ≡ at = eqb-true (length bytes) at h in
        absurd (none-some j (sym (instruction_at-past bytes at (omega (arith, past))) ∙ stands))

    at-code : (bytes : List ℕ) (o : Option Instr) → instruction_at bytes at ≡ o
        → ((at == 0 || is_start_in (read_from (length bytes) bytes 0) at) || (length bytes == at)) ≡ true
        → option_and_then (instruction_of c) o ≡ Some i → Has (filter_map (operation_of c) (read_from (length bytes) bytes 0)) i.operation
    at-code bytes None stands start e = absurd (none-some i e)
    at-code bytes (Some j) stands start e =
        made bytes j (operation_of c j) refl
        (place-start bytes at j stands (within-code bytes j stands (at == 0 || is_start_in (read_from (length bytes) bytes 0) at) start)) stands e

    by : (o : Option CodeAttribute)
        → ((if is_some o then at == 0 || is_start_in (option_map_or (λ (code : CodeAttribute). read_from (length code.code) code.code 0) o []) at else true)
        || option_map_or (λ (code : CodeAttribute). length code.code == at) o false) ≡ true
        → option_and_then (λ (code : CodeAttribute). code_instruction c code.code at) o ≡ Some i
        → Has (filter_map (operation_of c) (option_map_or (λ (code : CodeAttribute). read_from (length code.code) code.code 0) o [])) i.operation
    by None place e = absurd (none-some i e)
    by (Some code) place e = at-code code.code (instruction_at code.code at) refl place e

module _ (w : World) (fit : IsFit w.program) (bare : HasBareObject w.program) (main_is : is_some (place_of_method w.program w.program.main) ≡ true) where
  frame-at : (f : Frame) → f.version ≡ f.method → places_of w.program f.version f.place ≡ true → IsAt w fit bare (operations_of w.program) main_is f
  frame-at f original_is place_is i found =
      by (place_of_method w.program f.method) (ap (λ v. places_of w.program v f.place) (sym original_is) ∙ place_is) (ap (λ v. (original w.program).at v f.place) (sym original_is) ∙ found)
    where
      of : (o : Option ClassFile) (place : MethodPlace)
          → unwrap_or (option_and_then (λ c. Some (is_place c place.position f.place || is_code_end c place.position f.place)) o) true ≡ true
          → option_and_then (λ c. method_instruction c place.position f.place) o ≡ Some i
          → Has (unwrap_or (option_and_then (λ c. Some (filter_map (operation_of c) (method_reading c place.position))) o) []) i.operation
      of None place start e = absurd (none-some i e)
      of (Some c) place start e = reading-has c place.position f.place i start e

      by : (o : Option MethodPlace)
          → unwrap_or (option_and_then (λ (place : MethodPlace). option_and_then (λ c. Some (is_place c place.position f.place || is_code_end c place.position f.place)) (class_at w.program place.class)) o) true ≡ true
          → option_and_then (λ (place : MethodPlace). option_and_then (λ c. method_instruction c place.position f.place) (class_at w.program place.class)) o ≡ Some i
          → Has (unwrap_or (option_and_then (λ (place : MethodPlace). option_and_then (λ c. Some (filter_map (operation_of c) (method_reading c place.position))) (class_at w.program place.class)) o) []) i.operation
      by None start e = absurd (none-some i e)
      by (Some place) start e = of (class_at w.program place.class) place start e

  pub places-stand : (loaded : List ℕ) (stack : List Entry) → AllByRecursion (IsSoundEntry RunsOriginal w.program loaded) stack → StandsAtPlace w.program stack
      → StandsAt w fit bare (operations_of w.program) main_is stack
  places-stand loaded [] each stands = tt
  places-stand loaded (Active f ∷ below) each stands = frame-at f each.0.1 stands
  places-stand loaded (Initializing class part ∷ below) each stands = tt

-- ---- closed code

-- what is left as it is, is a place
fixed-place : (is_place : ℕ → ℕ → Bool) (v at : ℕ) (b : Bool) → is_place v 0 ≡ true → is_place v at ≡ b → (if b then at else 0) ≡ at → is_place v at ≡ true
fixed-place is_place v at true start e same = e
fixed-place is_place v at false start e same = ap (is_place v) (sym same) ∙ start

abbrev place_in : List Entry → ℕ
place_in [] = 0
place_in (Active f ∷ below) = f.place
place_in (Initializing class part ∷ below) = 0

pub closed-stands : (w : World) → IsClosed (places_of w.program) (original w.program) → (n : ℕ) → StandsAtPlace w.program (run w n).stack
closed-stands w closed n = by (run w n).stack (closed-placed (places_of w.program) w (original w.program) closed n)
  where
    by : (stack : List Entry) → moved_stack (at_homes (norm_of (places_of w.program))) stack ≡ stack → StandsAtPlace w.program stack
    by [] e = tt
    by (Active f ∷ below) e =
        fixed-place (places_of w.program) f.version f.place (places_of w.program f.version f.place) (closed.start f.version) refl (ap place_in e)
    by (Initializing class part ∷ below) e = tt
