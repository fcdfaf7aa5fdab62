-- The places of a method are the starts of its instructions, and the end of its code.
use Rattle.std.proofs.Common.{◌≡◌, ◌<◌, ℕ, Bool, true, false, cond, List, [], ◌∷◌, length, Option, Some, refl, sym, ap, subst, ◌∙◌, inl, inr, eqb-true, arith}
use Rattle.std.specs.Prelude.{slice_get, ◌==◌, ◌||◌}
use Rattle.std.specs.Option.{option_map_or}
use Rattle.const_pool.specs.declared.class.CodeAttribute.{CodeAttribute}
use Rattle.code_model.specs.declared.instr.Instr.{Instr}
use Rattle.code_model.specs.Instructions.{Reads}
use Rattle.code_model.proofs.Reading.Readings.{Reads-unique, at-instruction_at}
use Rattle.jvm_model.specs.declared.program.Program.{Program}
use Rattle.jvm_model.specs.Codes.Closed.{norm_of}
use Rattle.jvm_model.specs.Codes.Moved.{IsPlace}
use Rattle.jvm_model.specs.Codes.Places.{is_start_in}
use Rattle.jvm_model.specs.Basis.Programs.{code_of_method}
use Rattle.jvm_model.specs.Codes.ProgramPlaces.{IsStartOrEnd, is_place_in, is_place_of, reading_of}
use Rattle.jvm_model.proofs.Relocated.ClosedPrograms.{nth-any}

module _ (p : Program) (method : ℕ) (old : CodeAttribute) (coded : code_of_method p method ≡ Some old) (instrs : List Instr) (reads : Reads old.code 0 instrs)
    (read : Reads old.code 0 (reading_of old)) (some : 0 < length instrs) where
  abbrev len : ℕ
  len = length old.code

  same-reading : reading_of old ≡ instrs
  same-reading = Reads-unique old.code 0 (reading_of old) instrs read reads

  first-by : (is : List Instr) → Reads old.code 0 is → 0 < length is → IsStartOrEnd is len 0
  first-by [] r lt = absurd (omega arith)
  first-by (i ∷ is) r lt = inl (0, i, refl, at-instruction_at old.code 0 i r.0)

  start-by : (place : ℕ) (a b : Bool) → (place == 0) ≡ a → is_start_in (reading_of old) place ≡ b → (a || (b || place == len)) ≡ true → IsStartOrEnd instrs len place
  start-by place true b ia ib h = subst (IsStartOrEnd instrs len) (sym (eqb-true place 0 ia)) (first-by instrs reads some)
  start-by place false true ia ib h =
      let n = nth-any (reading_of old) place ib in
      inl (n.nth, n.instr, ap (λ is. slice_get is n.nth) (sym same-reading) ∙ n.stands, n.here)
  start-by place false false ia ib h = inr (eqb-true place len h)

  pub places-of : (place : ℕ) → IsPlace (norm_of (is_place_in p)) method place → IsStartOrEnd instrs len place
  places-of place here = by (is_place_of old place) refl (ap (λ (o : Option CodeAttribute). cond (option_map_or (λ k. is_place_of k place) o true) place 0) (sym coded) ∙ here) where
    by : (b : Bool) → is_place_of old place ≡ b → cond b place 0 ≡ place → IsStartOrEnd instrs len place
    by true is e = start-by place (place == 0) (is_start_in (reading_of old) place) refl refl is
    by false is e = subst (IsStartOrEnd instrs len) e (first-by instrs reads some)
