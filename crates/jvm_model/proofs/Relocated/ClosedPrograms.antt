-- The original code of a program stays within its places.
use Rattle.std.proofs.Common.{◌≡◌, ℕ, zero, suc, Bool, true, false, cond, List, [], ◌∷◌, map, length, Option, Some, None, refl, sym, ap, subst, ◌∙◌, eqb-true, arith}
use Rattle.std.specs.Prelude.{slice_get, unwrap_or, ◌==◌, ◌||◌}
use Rattle.std.specs.List.{AllByRecursion}
use Rattle.std.specs.Option.{IfSome, option_and_then, option_map, option_map_or}
use Rattle.std.proofs.lemmas.Bool.{eq-eqb, false≢true, or_left, or_right}
use Rattle.std.proofs.lemmas.Option.{same_Some, none-some}
use Rattle.jf_bytes.proofs.Lists.{each_at}
use Rattle.const_pool.specs.declared.class.ClassFile.{ClassFile}
use Rattle.const_pool.specs.declared.class.CodeAttribute.{CodeAttribute}
use Rattle.const_pool.specs.declared.class.Handler.{Handler}
use Rattle.code_model.specs.declared.instr.Instr.{Instr}
use Rattle.code_model.specs.Instructions.{Reads, end_of, instruction_at}
use Rattle.code_model.proofs.Reading.Readings.{Reads-each, at-instruction_at, instruction_at-past}
use Rattle.jvm_model.specs.declared.program.MethodPlace.{MethodPlace}
use Rattle.jvm_model.specs.declared.program.Program.{Program}
use Rattle.jvm_model.specs.Codes.Closed.{IsClosed, IsWithin, norm_of}
use Rattle.jvm_model.specs.Basis.Data.{Catcher, Instruction, Local, Operation}
use Rattle.jvm_model.specs.Codes.Lines.{code_instruction, ends, instruction_of, method_instruction, next_of, operation_of, targets_of}
use Rattle.jvm_model.specs.Basis.Methods.{method_code}
use Rattle.jvm_model.specs.Codes.Moved.{IsMovedListing, at_homes}
use Rattle.jvm_model.specs.Codes.Originals.{catcher_of, method_handlers, original}
use Rattle.jvm_model.specs.Codes.Places.{is_start_in}
use Rattle.jvm_model.specs.Basis.Programs.{class_at, code_of_method, place_of_method}
use Rattle.jvm_model.proofs.Relocated.ClosedCode.{closed-agrees}
use Rattle.jvm_model.specs.Codes.ProgramPlaces.{HasClosedCodes, HasPlaces, IsClosedCode, is_place_in, is_place_of, reading_of}

-- ---- readings

pub record Nth (is : List Instr) (at : ℕ) : Type 0 where
  pub nth : ℕ
  pub instr : Instr
  pub stands : slice_get is nth ≡ Some instr
  pub here : instr.at ≡ at

pub nth-any : (is : List Instr) (at : ℕ) → is_start_in is at ≡ true → Nth is at
nth-any [] at e = absurd (false≢true e)
nth-any (j ∷ is) at e = by (j.at == at) refl e (nth-any is at) where
  by : (b : Bool) → (j.at == at) ≡ b → (b || is_start_in is at) ≡ true → (is_start_in is at ≡ true → Nth is at) → Nth (j ∷ is) at
  by true t e rest = record { nth = 0; instr = j; stands = refl; here = eqb-true j.at at t }
  by false t e rest = let r = rest e in record { nth = suc r.nth; instr = r.instr; stands = r.stands; here = r.here }

-- behind each instruction stands the next one, or the code ends there
next-of : (bytes : List ℕ) (at : ℕ) (is : List Instr) (k : ℕ) (i : Instr) → Reads bytes at is → slice_get is k ≡ Some i
    → (is_start_in is (end_of i) || end_of i == length bytes) ≡ true
next-of bytes at [] k i reads e = absurd (none-some i e)
next-of bytes at (j ∷ []) zero i reads e =
    or_right (is_start_in (j ∷ []) (end_of i)) (end_of i == length bytes) (eq-eqb (end_of i) (length bytes) (ap end_of (sym (same_Some j i e)) ∙ reads.1))
next-of bytes at (j ∷ []) (suc k) i reads e = absurd (none-some i e)
next-of bytes at (j ∷ next ∷ is) zero i reads e =
    let starts : next.at ≡ end_of i = at-instruction_at bytes (end_of j) next reads.1.0 ∙ ap end_of (same_Some j i e) in
    or_left (is_start_in (j ∷ next ∷ is) (end_of i)) (end_of i == length bytes)
    (or_right (j.at == end_of i) (is_start_in (next ∷ is) (end_of i)) (or_left (next.at == end_of i) (is_start_in is (end_of i)) (eq-eqb next.at (end_of i) starts)))
next-of bytes at (j ∷ next ∷ is) (suc k) i reads e =
    longer (j.at == end_of i) (is_start_in (next ∷ is) (end_of i)) (end_of i == length bytes) (next-of bytes (end_of j) (next ∷ is) k i reads.1 e) where
      longer : (a b c : Bool) → (b || c) ≡ true → ((a || b) || c) ≡ true
      longer true b c h = refl
      longer false b c h = h

module _ (c : ClassFile) (code : CodeAttribute) (closed : IsClosedCode code) where
  -- what stands at an offset that is a place
  at-nth : (at : ℕ) (j : Instr) → is_place_of code at ≡ true → instruction_at code.code at ≡ Some j → (k : ℕ) × (slice_get (reading_of code) k ≡ Some j)
  at-nth at j place there = by (at == 0) (is_start_in (reading_of code) at) refl refl place
    where
      same-there : Nth (reading_of code) at → (k : ℕ) × (slice_get (reading_of code) k ≡ Some j)
      same-there n =
          let own : instruction_at code.code n.instr.at ≡ Some n.instr =
          each_at (λ (x : Instr). instruction_at code.code x.at ≡ Some x) (reading_of code) n.nth n.instr (Reads-each code.code 0 (reading_of code) closed.reads) n.stands in
          let is : n.instr ≡ j = same_Some n.instr j (sym own ∙ (ap (instruction_at code.code) n.here ∙ there)) in
          (n.nth, n.stands ∙ ap Some is)

      first : (is : List Instr) → Reads code.code 0 is → instruction_at code.code 0 ≡ Some j → slice_get is 0 ≡ Some j
      first [] reads e = absurd (none-some j (sym (instruction_at-past code.code 0 (omega (arith, reads))) ∙ e))
      first (i ∷ is) reads e = sym reads.0 ∙ e

      by : (a b : Bool) → (at == 0) ≡ a → is_start_in (reading_of code) at ≡ b → (a || (b || at == length code.code)) ≡ true → (k : ℕ) × (slice_get (reading_of code) k ≡ Some j)
      by true b ia ib h = (0, first (reading_of code) closed.reads (ap (instruction_at code.code) (sym (eqb-true at 0 ia)) ∙ there))
      by false true ia ib h = same-there (nth-any (reading_of code) at ib)
      by false false ia ib h =
          absurd (none-some j (sym (instruction_at-past code.code at (let e : at ≡ length code.code = eqb-true at (length code.code) h in omega (arith, e))) ∙ there))

  next-place : (op : Operation Local) (k : ℕ) (j : Instr) → slice_get (reading_of code) k ≡ Some j → IfSome (next_of op (end_of j)) (λ n. is_place_of code n ≡ true)
  next-place op k j nth = by (ends op) where
    by : (b : Bool) → IfSome (cond b None (Some (end_of j))) (λ n. is_place_of code n ≡ true)
    by true = tt
    by false = or_right (end_of j == 0) _ (next-of code.code 0 (reading_of code) k j closed.reads nth)

  -- of the instruction that stands at a place
  code-next : (at : ℕ) (o : Option Instr) (i : Instruction) → is_place_of code at ≡ true → instruction_at code.code at ≡ o → option_and_then (instruction_of c) o ≡ Some i
      → IfSome i.next (λ n. is_place_of code n ≡ true) × AllByRecursion (λ n. is_place_of code n ≡ true) i.targets
  code-next at None i place there e = absurd (none-some i e)
  code-next at (Some j) i place there e = by (operation_of c j) e (at-nth at j place there)
    where
      by : (o : Option (Operation Local)) → option_map (λ op. record { operation = op; own = j.at; next = next_of op (end_of j); targets = targets_of j.arg }) o ≡ Some i
          → (k : ℕ) × (slice_get (reading_of code) k ≡ Some j) → IfSome i.next (λ n. is_place_of code n ≡ true) × AllByRecursion (λ n. is_place_of code n ≡ true) i.targets
      by None e found = absurd (none-some i e)
      by (Some op) e found =
          let is : record { operation = op; own = j.at; next = next_of op (end_of j); targets = targets_of j.arg } ≡ i = same_Some _ i e in (
            subst (λ (x : Instruction). IfSome x.next (λ n. is_place_of code n ≡ true)) is (next-place op found.0 j found.1),
            subst (λ (x : Instruction). AllByRecursion (λ n. is_place_of code n ≡ true) x.targets) is
                (each_at (λ (x : Instr). AllByRecursion (λ t. is_place_of code t ≡ true) (targets_of x.arg)) (reading_of code) found.0 j closed.targets found.1),
          )

-- ---- in a program

module _ (p : Program) (closed : HasClosedCodes p) where
  abbrev is_place : ℕ → ℕ → Bool
  is_place = is_place_in p

  -- the class and the code of a method
  record Stands (method : ℕ) (code : CodeAttribute) : Type 0 where
    class : ClassFile
    position : ℕ
    at : (offset : ℕ) → (original p).at method offset ≡ code_instruction class code.code offset
    handlers : (original p).handlers method ≡ map (catcher_of class) code.handlers

  stands : (method : ℕ) (code : CodeAttribute) → code_of_method p method ≡ Some code → Stands method code
  stands method code e = by_place (place_of_method p method) refl e
    where
      by_code : (place : MethodPlace) (c : ClassFile) (o : Option CodeAttribute) → place_of_method p method ≡ Some place → class_at p place.class ≡ Some c → method_code c place.position ≡ o
          → o ≡ Some code → Stands method code
      by_code place c o is_method is_class is_code e = record {
        class = c;
        position = place.position;
        at = λ offset.
            ap (option_and_then (λ (x : MethodPlace). option_and_then (λ k. method_instruction k x.position offset) (class_at p x.class))) is_method
            ∙ (ap (option_and_then (λ k. method_instruction k place.position offset)) is_class
            ∙ ap (option_and_then (λ k. code_instruction c k.code offset)) (is_code ∙ e));
        handlers =
            ap (λ o. unwrap_or (option_and_then (λ (x : MethodPlace). option_and_then (λ k. method_handlers k x.position) (class_at p x.class)) o) []) is_method
            ∙ (ap (λ o. unwrap_or (option_and_then (λ k. method_handlers k place.position) o) []) is_class
            ∙ ap (λ o. unwrap_or (option_map (λ (k : CodeAttribute). map (catcher_of c) k.handlers) o) []) (is_code ∙ e));
      }

      by_class : (place : MethodPlace) (o : Option ClassFile) → place_of_method p method ≡ Some place → class_at p place.class ≡ o
          → option_and_then (λ c. method_code c place.position) o ≡ Some code → Stands method code
      by_class place None is_method is_class e = absurd (none-some code e)
      by_class place (Some c) is_method is_class e = by_code place c (method_code c place.position) is_method is_class refl e

      by_place : (o : Option MethodPlace) → place_of_method p method ≡ o
          → option_and_then (λ (place : MethodPlace). option_and_then (λ c. method_code c place.position) (class_at p place.class)) o ≡ Some code → Stands method code
      by_place None is_method e = absurd (none-some code e)
      by_place (Some place) is_method e = by_class place (class_at p place.class) is_method refl e

  -- what is no method with code has all places
  free : (method : ℕ) → code_of_method p method ≡ None → (n : ℕ) → is_place method n ≡ true
  free method none n = ap (λ (o : Option CodeAttribute). option_map_or (λ k. is_place_of k n) o true) none

  own : (method : ℕ) (code : CodeAttribute) → code_of_method p method ≡ Some code → (n : ℕ) → is_place method n ≡ is_place_of code n
  own method code e n = ap (λ (o : Option CodeAttribute). option_map_or (λ k. is_place_of k n) o true) e

  start-by : (method : ℕ) (o : Option CodeAttribute) → code_of_method p method ≡ o → is_place method 0 ≡ true
  start-by method None e = free method e 0
  start-by method (Some code) e = own method code e 0

  free-each : (method : ℕ) → code_of_method p method ≡ None → (ns : List ℕ) → AllByRecursion (λ n. is_place method n ≡ true) ns
  free-each method none [] = tt
  free-each method none (n ∷ ns) = (free method none n, free-each method none ns)

  free-next : (method : ℕ) → code_of_method p method ≡ None → (o : Option ℕ) → IfSome o (λ n. is_place method n ≡ true)
  free-next method none None = tt
  free-next method none (Some n) = free method none n

  own-each : (method : ℕ) (code : CodeAttribute) → code_of_method p method ≡ Some code → (ns : List ℕ) → AllByRecursion (λ n. is_place_of code n ≡ true) ns → AllByRecursion (λ n. is_place method n ≡ true) ns
  own-each method code e [] h = tt
  own-each method code e (n ∷ ns) h = (own method code e n ∙ h.0, own-each method code e ns h.1)

  own-next : (method : ℕ) (code : CodeAttribute) → code_of_method p method ≡ Some code → (o : Option ℕ) → IfSome o (λ n. is_place_of code n ≡ true) → IfSome o (λ n. is_place method n ≡ true)
  own-next method code e None h = tt
  own-next method code e (Some n) h = own method code e n ∙ h

  within : (method at : ℕ) (i : Instruction) (o : Option CodeAttribute) → code_of_method p method ≡ o → is_place method at ≡ true → (original p).at method at ≡ Some i
      → IfSome i.next (λ n. is_place method n ≡ true) × AllByRecursion (λ n. is_place method n ≡ true) i.targets
  within method at i None e place there = (free-next method e i.next, free-each method e i.targets)
  within method at i (Some code) e place there =
      let s = stands method code e in
      let both = code-next s.class code (closed method code e) at (instruction_at code.code at) i (sym (own method code e at) ∙ place) refl (sym (s.at at) ∙ there) in
      (own-next method code e i.next both.0, own-each method code e i.targets both.1)

  free-handlers : (method : ℕ) → code_of_method p method ≡ None → (hs : List Catcher) → AllByRecursion (IsWithin is_place method) hs
  free-handlers method none [] = tt
  free-handlers method none (h ∷ hs) = ((free method none h.start, free method none h.finish, free method none h.target), free-handlers method none hs)

  own-handlers : (method : ℕ) (code : CodeAttribute) (c : ClassFile) → code_of_method p method ≡ Some code → (hs : List Handler) → AllByRecursion (HasPlaces code) hs
      → AllByRecursion (IsWithin is_place method) (map (catcher_of c) hs)
  own-handlers method code c e [] h = tt
  own-handlers method code c e (x ∷ hs) h =
      ((own method code e x.start ∙ h.0.0, own method code e x.end ∙ h.0.1, own method code e x.handler ∙ h.0.2), own-handlers method code c e hs h.1)

  handlers-by : (method : ℕ) (o : Option CodeAttribute) → code_of_method p method ≡ o → AllByRecursion (IsWithin is_place method) ((original p).handlers method)
  handlers-by method None e = free-handlers method e ((original p).handlers method)
  handlers-by method (Some code) e =
      let s = stands method code e in
      subst (AllByRecursion (IsWithin is_place method)) (sym s.handlers) (own-handlers method code s.class e code.handlers (closed method code e).handlers)

  pub program-closed : IsClosed is_place (original p)
  program-closed = record {
    start = λ v. start-by v (code_of_method p v) refl;
    first = λ v. start-by v (code_of_method p v) refl;
    next = λ v at i place e. (within v at i (code_of_method p v) refl place e).0;
    targets = λ v at i place e. (within v at i (code_of_method p v) refl place e).1;
    handlers = λ v. handlers-by v (code_of_method p v) refl;
  }

  pub program-agrees : IsMovedListing (norm_of is_place) (at_homes (norm_of is_place)) (original p) (original p)
  program-agrees = closed-agrees is_place (original p) program-closed
