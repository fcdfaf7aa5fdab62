-- The lines of a version that rewritten code is are lines of its class.
use Rattle.std.proofs.Common.{◌<◌, ◌≤◌, ℕ, Bool, true, false, cond, List, length, Option, Some, None, sym, subst, ⊎_elim}
use Rattle.std.specs.Option.{IfSome, option_and_then, option_flatten, option_map}
use Rattle.std.specs.Prelude.{nat_lt}
use Rattle.std.proofs.lemmas.Bool.{cases_lt}
use Rattle.const_pool.specs.declared.class.ClassFile.{ClassFile}
use Rattle.const_pool.specs.declared.class.CodeAttribute.{CodeAttribute}
use Rattle.code_model.specs.declared.instr.Instr.{Instr}
use Rattle.code_model.specs.declared.laying.Homes.{Homes}
use Rattle.code_model.specs.Instructions.{instruction_at}
use Rattle.code_model.specs.Layout.{place_in}
use Rattle.jvm_model.specs.Basis.Families.{family_of}
use Rattle.jvm_model.specs.Codes.Lines.{instruction_of, operation_of}
use Rattle.prepared_lines.specs.declared.line.Line.{Line}
use Rattle.jvm_model.specs.Codes.Homed.{start_in}
use Rattle.prepared_lines.specs.Lines.{operation_kept, line_of}
use Rattle.prepared_code.specs.Ready.{IsOwnLine}
use Rattle.prepared_code.specs.Rewritten.{homed_line, line_for, own_line, placed_line, rewritten_version}
use Rattle.prepared_code.specs.Versions.{HasOwnLines, IsPreparedLine, line_in}
use Rattle.prepared_code.proofs.Lines.Dimensions.{Fits, by-family, made-with as fits-with}
use Rattle.prepared_code.proofs.Lines.LineFamilies.{made-with}
use Rattle.prepared_code.proofs.Tables.Tabled.{tabled-at, tabled-past}
use Rattle.prepared_code.proofs.Lines.Tied.{own-tie, tied-instruction}

module _ (P : Line → Type 0) (image : ClassFile) (each : (i : Instr) → IfSome (line_of image i) P) (moves : (own : ℕ) (line : Line) → P line → P (own_line own line)) where
  coded : (o : Option Instr) → IfSome (option_and_then (line_of image) o) P
  coded None = tt
  coded (Some i) = each i

  owned : (own : ℕ) (o : Option Line) → IfSome o P → IfSome (option_map (own_line own) o) P
  owned own None h = tt
  owned own (Some line) h = moves own line h

  placed : (code : List ℕ) (own : ℕ) (o : Option ℕ) → IfSome (option_and_then (λ place. placed_line image code place own) o) P
  placed code own None = tt
  placed code own (Some place) = owned own (option_and_then (line_of image) (instruction_at code place)) (coded (instruction_at code place))

  chosen : (b : Bool) (o : Option Line) → IfSome o P → IfSome (cond b o None) P
  chosen true o h = h
  chosen false o h = tt

  started : (code : List ℕ) (homes : Homes) (len : ℕ) (o : Option ℕ) → IfSome (option_and_then (line_for image code homes len) o) P
  started code homes len None = tt
  started code homes len (Some at) = chosen (nat_lt at len) _ (placed code at (place_in homes at))

  pub lines-each : (method : ℕ) (code : CodeAttribute) (homes : Homes) (len place : ℕ) → IfSome (line_in place (rewritten_version method image code homes len)) P
  lines-each method code homes len place =
      ⊎_elim
      (λ (lt : place < length code.code). subst (λ (o : Option (Option Line)). IfSome (option_flatten o) P) (sym (tabled-at (homed_line image code.code homes len) (length code.code) place lt))
      (started code.code homes len (start_in homes place)))
      (λ (le : length code.code ≤ place). subst (λ (o : Option (Option Line)). IfSome (option_flatten o) P) (sym (tabled-past (homed_line image code.code homes len) (length code.code) place le)) tt)
      (cases_lt place (length code.code))

pub rewritten-lines : (method : ℕ) (image : ClassFile) (code : CodeAttribute) (homes : Homes) (len : ℕ) → HasOwnLines (rewritten_version method image code homes len)
rewritten-lines method image code homes len = record {
  prepared = λ place. lines-each IsPreparedLine image (λ i. made-with image i (option_map operation_kept (operation_of image i))) (λ own line h. record { family = h.family; hot = h.hot }) method code homes len place;
  dimensions = λ place. lines-each Fits image (λ i. fits-with image i (operation_of image i) (by-family image i.op i.arg (family_of i.op))) (λ own line h. h) method code homes len place;
}

pub rewritten-own : (method : ℕ) (image : ClassFile) (code : CodeAttribute) (homes : Homes) (len place : ℕ) → IfSome (line_in place (rewritten_version method image code homes len)) IsOwnLine
rewritten-own method image code homes len place =
    lines-each IsOwnLine image (λ i. own-tie (line_of image i) (instruction_of image i) (tied-instruction image i))
    (λ own line h. record { kept = h.kept; next = h.next; alone = h.alone; within = h.within }) method code homes len place
