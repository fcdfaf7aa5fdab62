-- Where the probes of a version stand.
use Rattle.std.proofs.Common.{◌≡◌, ℕ, true, List, [], cond, length, take, drop, Some, sym, ap, subst, ◌∙◌}
use Rattle.std.specs.Prelude.{slice_get, unwrap_or}
use Rattle.std.specs.Option.{option_map}
use Rattle.std.proofs.lemmas.Option.{slice_get-map}
use Rattle.const_pool.specs.declared.class.CodeAttribute.{CodeAttribute}
use Rattle.const_pool.specs.Tail.{unwind_index}
use Rattle.code_model.specs.declared.instr.Instr.{Instr}
use Rattle.code_model.specs.declared.laying.Group.{Group}
use Rattle.code_model.specs.declared.laying.Homes.{Homes}
use Rattle.code_model.specs.Groups.{IsBytes, instrs_of}
use Rattle.code_model.specs.Instructions.{Reads}
use Rattle.code_model.specs.Layout.{end_from, home_of, laid_of}
use Rattle.code_model.proofs.CodeLayouts.Layouts.{back_stands, front_stands, groups_stand, home_in-end}
use Rattle.jvm_model.specs.declared.event.Mark.{Mark}
use Rattle.jvm_model.specs.Rewriting.Versions.{IsVersion, entry_probe, group_of, groups_of, is_return_opcode, leave_probe, probe_bytes, unwind_code}
use Rattle.jvm_model.proofs.Images.GroupedInstrs.{instrs-groups}
use Rattle.jvm_machine.specs.Probes.{HasBytes}

module _ (count number : ℕ) (mark : Mark) (old new : CodeAttribute) (homes : Homes) (is : IsVersion count number mark old new homes) where
  abbrev front : List ℕ
  front = entry_probe count number mark

  abbrev leave : List ℕ
  leave = leave_probe count number

  abbrev groups : List Group
  groups = groups_of count number is.reading.instrs

  abbrev laid : List ℕ
  laid = (laid_of front groups (unwind_code count number)).code

  code-is : new.code ≡ laid
  code-is = ap (λ (k : CodeAttribute). k.code) is.code

  reads : Reads old.code 0 (instrs_of groups)
  reads = subst (Reads old.code 0) (sym (instrs-groups leave is.reading.instrs)) is.reads.instrs

  -- at the entry
  pub entry-there : HasBytes new.code 0 front
  entry-there = ap (λ (t : List ℕ). take (length front) t) code-is ∙ front_stands front groups (unwind_code count number)

  -- before each return
  pub leave-there : IsBytes old.code → (k : ℕ) (i : Instr) → slice_get is.reading.instrs k ≡ Some i → is_return_opcode i.op ≡ true → HasBytes new.code (home_of homes i.at) leave
  leave-there fits k i nth returns =
      let stands = groups_stand old.code front (unwind_code count number) groups reads fits k (group_of leave i) (slice_get-map (group_of leave) is.reading.instrs k ∙ ap (option_map (group_of leave)) nth) in
      let home : ℕ = end_from (length front) (take k groups) in
      let homed : home_of homes i.at ≡ home = ap (λ (h : Homes). home_of h i.at) is.moved ∙ ap (λ o. unwrap_or o 0) stands.home_is in
      let before : (group_of leave i).before ≡ leave = ap (λ b. cond b leave []) returns in
      subst (λ n. HasBytes new.code n leave) (sym homed)
      (subst (λ (t : List ℕ). HasBytes t home leave) (sym code-is) (subst (λ b. HasBytes laid home b) before stands.before_is))

  -- and behind the code
  pub unwind-there : HasBytes new.code (home_of homes (length old.code)) (probe_bytes number (unwind_index count))
  unwind-there =
      let last : ℕ = end_from (length front) groups in
      let homed : home_of homes (length old.code) ≡ last = ap (λ (h : Homes). home_of h (length old.code)) is.moved ∙ ap (λ o. unwrap_or o 0) (home_in-end old.code front groups reads) in
      let probe : List ℕ = probe_bytes number (unwind_index count) in
      subst (λ n. HasBytes new.code n probe) (sym homed)
      (ap (λ (t : List ℕ). take (length probe) (drop last t)) code-is ∙ ap (λ (t : List ℕ). take (length probe) t) (back_stands front groups (unwind_code count number)))
