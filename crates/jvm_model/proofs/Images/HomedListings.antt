-- At each home of a version stands what stands at its offset in the original code, by homes.
use Rattle.std.proofs.Common.{◌≡◌, ℕ, zero, suc, true, cond, List, [], ◌∷◌, map, length, Some, None, sym, ap, ◌∙◌}
use Rattle.std.proofs.lemmas.Bool.{lt-ltb}
use Rattle.std.proofs.lemmas.Option.{none-some}
use Rattle.std.specs.Prelude.{nat_lt, slice_get, unwrap_or}
use Rattle.std.specs.Option.{option_and_then, option_map}
use Rattle.jf_bytes.proofs.Lists.{each_at}
use Rattle.const_pool.specs.declared.class.ClassFile.{ClassFile}
use Rattle.code_model.specs.declared.instr.Instr.{Instr}
use Rattle.code_model.specs.declared.laying.Laid.{Laid}
use Rattle.code_model.specs.Groups.{IsLaidIn}
use Rattle.code_model.specs.Instructions.{instruction_at}
use Rattle.code_model.specs.Layout.{home_of, place_in}
use Rattle.code_model.proofs.Reading.Readings.{Reads-each, instruction_at_within}
use Rattle.jvm_model.specs.Codes.Lines.{code_instruction, instruction_of, operation_of}
use Rattle.jvm_model.specs.Codes.Moved.{moved_instruction}
use Rattle.jvm_model.specs.Rewriting.Versions.{group_of}
use Rattle.jvm_model.specs.Codes.Homed.{IsHomed, homed_instruction, instruction_for, start_in, with_own}
use Rattle.jvm_model.proofs.Images.HomedLines.{homed-line}

pub nth-map : {A B : Type 0} (f : A → B) (xs : List A) (k : ℕ) (x : A) → slice_get xs k ≡ Some x → slice_get (map f xs) k ≡ Some (f x)
nth-map f [] k x e = absurd (none-some x e)
nth-map f (y ∷ ys) zero x e = ap (option_map f) e
nth-map f (y ∷ ys) (suc k) x e = nth-map f ys k x e

module _ (c image : ClassFile) (leave old : List ℕ) (instrs : List Instr) (laid : Laid) (is : IsHomed c image leave old instrs laid) where
  abbrev h : ℕ → ℕ
  h = home_of laid.homes

  -- at the home of an instruction
  pub homed-at : (k : ℕ) (i : Instr) → slice_get instrs k ≡ Some i
      → homed_instruction image laid.code laid.homes (length old) (h i.at) ≡ option_map (moved_instruction h) (code_instruction c old i.at)
  homed-at k i nth =
      let here : instruction_at old i.at ≡ Some i = each_at (λ (j : Instr). instruction_at old j.at ≡ Some j) instrs k i (Reads-each old 0 instrs is.reads) nth in
      let does = each_at (λ (j : Instr). operation_of image j ≡ operation_of c j) instrs k i is.does nth in
      let g = group_of leave i in
      let there : IsLaidIn laid g = each_at (IsLaidIn laid) (map (group_of leave) instrs) k g is.laid_out (nth-map (group_of leave) instrs k i nth) in
      let home : h i.at ≡ there.home = ap (λ o. unwrap_or o 0) there.homed in
      let short : nat_lt i.at (length old) ≡ true = lt-ltb i.at (length old) (instruction_at_within old i.at i here) in
      ap (λ n. option_and_then (instruction_for image laid.code laid.homes (length old)) (start_in laid.homes n)) home
      ∙ (ap (option_and_then (instruction_for image laid.code laid.homes (length old))) (is.back i.at there.home there.homed)
      ∙ (ap (λ b. cond b (option_and_then (λ place. option_map (with_own i.at) (code_instruction image laid.code place)) (place_in laid.homes i.at)) None) short
      ∙ (ap (option_and_then (λ place. option_map (with_own i.at) (code_instruction image laid.code place))) there.placed
      ∙ (homed-line c image laid g there does
      ∙ ap (λ o. option_map (moved_instruction h) (option_and_then (instruction_of c) o)) (sym here)))))
