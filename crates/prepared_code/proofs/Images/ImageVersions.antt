-- A method's code in an image is the rewritten version of the method.
use Rattle.std.proofs.Common.{◌≡◌, ◌≤◌, ◌<◌, ℕ, Bool, true, false, cond, List, [], ◌∷◌, ◌++◌, map, length, sym, ap, subst, arith}
use Rattle.std.specs.List.{AllByRecursion}
use Rattle.const_pool.specs.declared.class.ClassFile.{ClassFile}
use Rattle.const_pool.specs.declared.class.CodeAttribute.{CodeAttribute}
use Rattle.code_model.specs.declared.instr.Instr.{Instr}
use Rattle.code_model.specs.declared.laying.Group.{Group}
use Rattle.code_model.specs.declared.laying.Homes.{Homes}
use Rattle.code_model.specs.declared.laying.Laid.{Laid}
use Rattle.code_model.specs.Groups.{AreGroups, IsShort}
use Rattle.code_model.specs.Layout.{home_of}
use Rattle.jvm_model.specs.declared.event.Mark.{Mark}
use Rattle.jvm_model.specs.declared.program.Program.{Program}
use Rattle.jvm_model.specs.Codes.Lines.{code_instruction}
use Rattle.jvm_model.specs.Codes.Moved.{IsPlace}
use Rattle.jvm_model.specs.Codes.Originals.{catcher_of, original}
use Rattle.jvm_model.specs.Rewriting.Versions.{IsVersion, catch_all, entry_probe, group_of, is_return_opcode, laid_version, leave_probe, moved_handler, unwind_code}
use Rattle.jvm_model.proofs.Images.GroupedInstrs.{instrs-groups}
use Rattle.prepared_code.specs.LaidMethods.{CanBeLaid, NamesClass}
use Rattle.prepared_code.specs.Rewritten.{rewritten_version}
use Rattle.prepared_code.specs.VersionListings.{IsVersionOf}
use Rattle.prepared_code.proofs.Images.LaidRewritten.{laid-rewritten}
use Rattle.jvm_model.specs.Codes.ProgramPlaces.{IsStartOrEnd}
use Rattle.prepared_code.proofs.Images.RewrittenVersions.{rewritten-is}

-- ---- its instructions with their probes are groups

short-front : (leave : List ℕ) (b : Bool) → length leave ≤ 16 → length (cond b leave []) ≤ 16
short-front leave true short = short
short-front leave false short = omega arith

short-fronts : (leave : List ℕ) (instrs : List Instr) → length leave ≤ 16 → AllByRecursion (λ (g : Group). IsShort g.before) (map (group_of leave) instrs)
short-fronts leave [] short = tt
short-fronts leave (i ∷ rest) short = (short-front leave (is_return_opcode i.op) short, short-fronts leave rest short)

some-groups : (leave : List ℕ) (instrs : List Instr) → 0 < length instrs → 1 ≤ length (map (group_of leave) instrs)
some-groups leave [] some = absurd (omega arith)
some-groups leave (i ∷ rest) some = omega arith

module _ (p : Program) (norm : ℕ → ℕ → ℕ) (method : ℕ) (c image : ClassFile) (count number : ℕ) (mark : Mark) (old new : CodeAttribute) (homes : Homes)
    (version : IsVersion count number mark old new homes) (can : CanBeLaid count number mark c image old version.reading)
    (at : (place : ℕ) → (original p).at method place ≡ code_instruction c old.code place) (handled : (original p).handlers method ≡ map (catcher_of c) old.handlers)
    (named : AllByRecursion (NamesClass c image) old.handlers)
    (places : (place : ℕ) → IsPlace norm method place → IsStartOrEnd version.reading.instrs (length old.code) place) where
  abbrev instrs : List Instr
  instrs = version.reading.instrs

  abbrev leave : List ℕ
  leave = leave_probe count number

  abbrev laid : Laid
  laid = laid_version count number mark instrs

  are-groups : AreGroups (map (group_of leave) instrs)
  are-groups = record {
    bytes = old.code;
    fits = can.bytes;
    reading = version.reading;
    reads = version.reads;
    short = can.most;
    some = some-groups leave instrs can.some;
    instrs = instrs-groups leave instrs;
    fronts = short-fronts leave instrs (omega arith);
  }

  code-is : new.code ≡ laid.code
  code-is = ap (λ (k : CodeAttribute). k.code) version.code

  handlers-are : new.handlers ≡ map (moved_handler laid.homes) old.handlers ++ catch_all laid.homes (length old.code) ∷ []
  handlers-are = ap (λ (k : CodeAttribute). k.handlers) version.code

  pub image-version : IsVersionOf p norm (rewritten_version method image new homes (length old.code)) (home_of homes)
  image-version =
      subst (λ (hs : Homes). IsVersionOf p norm (rewritten_version method image new hs (length old.code)) (home_of hs)) (sym version.moved)
      (rewritten-is p norm method c image leave old new instrs laid
      (laid-rewritten p norm method c image (entry_probe count number mark) leave (unwind_code count number) old new instrs version.reads.instrs are-groups can.near can.short can.does at
      code-is (catch_all laid.homes (length old.code)) handlers-are named handled places))
