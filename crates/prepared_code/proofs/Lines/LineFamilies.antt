-- The family that is kept in a line is its instruction's, and it is run as that asks.
use Rattle.std.proofs.Common.{◌≡◌, ℕ, Option, Some, None, refl, sym, subst}
use Rattle.std.specs.Borrow.{Bor}
use Rattle.std.specs.Option.{IfSome, option_and_then, option_copied, option_map}
use Rattle.const_pool.specs.declared.class.ClassFile.{ClassFile}
use Rattle.code_model.specs.declared.instr.Instr.{Instr}
use Rattle.code_model.specs.Instructions.{instruction_at}
use Rattle.jvm_model.specs.declared.program.Program.{Program}
use Rattle.jvm_model.specs.declared.instruction.Operation.{Operation}
use Rattle.jvm_model.specs.Basis.Families.{family_of}
use Rattle.jvm_model.specs.Basis.Methods.{method_code}
use Rattle.jvm_model.specs.Basis.Programs.{class_at, place_of_method}
use Rattle.prepared_lines.specs.declared.line.LocalAction.{LocalAction}
use Rattle.prepared_lines.specs.declared.line.Line.{Line}
use Rattle.prepared_code.specs.Lines.{original_line_at}
use Rattle.prepared_lines.specs.Lines.{line_with}
use Rattle.prepared_code.specs.Versions as versions
use Rattle.prepared_code.specs.Versions.{ArePrepared, HasLines, IsPreparedLine, line_in}
use Rattle.prepared_code.specs.Tables.{Version, Versions, version_at}

each-then : {A : Type 0} (f : A → Option Line) → ((x : A) → IfSome (f x) IsPreparedLine) → (o : Option A) → IfSome (option_and_then f o) IsPreparedLine
each-then f each None = tt
each-then f each (Some x) = each x

pub made-with : (c : ClassFile) (i : Instr) (a : Option (Operation LocalAction)) → IfSome (option_map (line_with c i) a) IsPreparedLine
made-with c i None = tt
made-with c i (Some a) = record { family = refl; hot = refl }

pub prepared-at : (p : Program) (method at : ℕ) → IfSome (original_line_at p method at) IsPreparedLine
prepared-at p method at =
    each-then _
    (λ place. each-then _
    (λ c. each-then _
    (λ code. each-then _
    (λ i. made-with c i _)
    (instruction_at code.code at))
    (method_code c place.position))
    (class_at p place.class))
    (place_of_method p method)

seen : (r : Option (Bor Line)) → IfSome (option_copied r) IsPreparedLine → IfSome r (λ l. l.now.family ≡ family_of l.now.instr.op)
seen None h = tt
seen (Some l) h = h.family

pub keeps-family : (v : Versions) → HasLines v → (version place : ℕ) (r : Option (Bor Line)) → option_copied r ≡ versions.line_at v version place
    → IfSome r (λ l. l.now.family ≡ family_of l.now.instr.op)
keeps-family v lines version place r found = seen r (subst (λ (o : Option Line). IfSome o IsPreparedLine) (sym found) (lines.prepared version place))

seen-version : (r : Option (Bor Version)) → ((place : ℕ) → IfSome (option_and_then (line_in place) (option_copied r)) IsPreparedLine) → IfSome r (λ x. ArePrepared x.now)
seen-version None h = tt
seen-version (Some x) h = h

pub keeps-prepared : (v : Versions) → HasLines v → (version : ℕ) (r : Option (Bor Version)) → option_copied r ≡ version_at v version → IfSome r (λ x. ArePrepared x.now)
keeps-prepared v lines version r found =
    seen-version r (λ place. subst (λ (o : Option Version). IfSome (option_and_then (line_in place) o) IsPreparedLine) (sym found) (lines.prepared version place))
