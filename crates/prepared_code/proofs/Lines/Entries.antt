-- Methods that are prepared one by one give what the definitions look up there.
use Rattle.std.proofs.Common.{◌≡◌, ℕ, ◌<◌, length, Option, Some, None, refl, ap, subst, sym, ◌∙◌}
use Rattle.std.specs.Prelude.{◌^◌, map, slice_get}
use Rattle.std.specs.Option.{option_map, option_map_or, option_and_then}
use Rattle.std.proofs.lemmas.List.FromFn.{length-map-range_with_len}
use Rattle.std.proofs.lemmas.Option.{slice_get-map}
use Rattle.const_pool.specs.declared.class.ClassFile.{ClassFile}
use Rattle.const_pool.specs.declared.class.Member.{Member}
use Rattle.const_pool.specs.declared.class.CodeAttribute.{CodeAttribute}
use Rattle.jvm_model.specs.declared.program.MethodPlace.{MethodPlace}
use Rattle.jvm_model.specs.declared.program.Program.{Program}
use Rattle.jvm_model.specs.Basis.Methods.{code_of, method_code, method_params, member_shape}
use Rattle.jvm_model.specs.Basis.Programs.{class_at, class_named}
use Rattle.jvm_model.specs.Basis.SharedState.{error, kind_for, string, throwable}
use Rattle.jvm_model.specs.declared.exception.Exception.{Exception}
use Rattle.symbolic_references.specs.declared.program_tables.Method.{Method}
use Rattle.symbolic_references.specs.declared.program_tables.ProgramTables.{ProgramTables}
use Rattle.member_selection.specs.Numbers.{AreNumbers}
use Rattle.symbolic_references.specs.ProgramFacts.{AreTablesOf, exception_in, exception_kind}
use Rattle.prepared_code.specs.Prepared.{FitsOriginals, IsPrepared}
use Rattle.prepared_code.specs.Entries.{entry_of, no_method, entry_in, entry_at, original_versions, own_number}
use Rattle.prepared_code.specs.Versions.{HasLines}
use Rattle.prepared_code.specs.Tables.{Versions}
use Rattle.prepared_code.proofs.Tables.OriginalVersions.{original-lines}

-- ---- the parameters

params-member : (c : ClassFile) (m : Option Member)
    → (option_map_or (entry_of c) m no_method).params ≡ option_map (λ shape. shape.params) (option_and_then (member_shape c.pool) m)
params-member c None = refl
params-member c (Some m) = refl

params-class : (place : MethodPlace) (c : Option ClassFile)
    → (option_map_or (entry_in place) c no_method).params ≡ option_and_then (λ k. method_params k place.position) c
params-class place None = refl
params-class place (Some c) = params-member c (slice_get c.methods place.position)

params-place : (p : Program) (place : Option MethodPlace)
    → option_and_then (λ (m : Method). m.params) (option_map (entry_at p) place)
    ≡ option_and_then (λ (x : MethodPlace). option_and_then (λ c. method_params c x.position) (class_at p x.class)) place
params-place p None = refl
params-place p (Some place) = params-class place (class_at p place.class)

-- ---- the limits

record AreLimits (m : Method) (code : Option CodeAttribute) : Type 0 where
  stack : m.max_stack ≡ option_map_or (λ k. k.max_stack) code 0
  locals : m.max_locals ≡ option_map_or (λ k. k.max_locals) code 0

limits-member : (c : ClassFile) (m : Option Member) → AreLimits (option_map_or (entry_of c) m no_method) (option_and_then code_of m)
limits-member c None = record { stack = refl; locals = refl }
limits-member c (Some m) = record { stack = refl; locals = refl }

limits-class : (place : MethodPlace) (c : Option ClassFile)
    → AreLimits (option_map_or (entry_in place) c no_method) (option_and_then (λ k. method_code k place.position) c)
limits-class place None = record { stack = refl; locals = refl }
limits-class place (Some c) = limits-member c (slice_get c.methods place.position)

abbrev code_at : Program → MethodPlace → Option CodeAttribute
code_at p x = option_and_then (λ c. method_code c x.position) (class_at p x.class)

stack-place : (p : Program) (place : Option MethodPlace)
    → option_map_or (λ (m : Method). m.max_stack) (option_map (entry_at p) place) 0
    ≡ option_map_or (λ k. k.max_stack) (option_and_then (code_at p) place) 0
stack-place p None = refl
stack-place p (Some place) = (limits-class place (class_at p place.class)).stack

locals-place : (p : Program) (place : Option MethodPlace)
    → option_map_or (λ (m : Method). m.max_locals) (option_map (entry_at p) place) 0
    ≡ option_map_or (λ k. k.max_locals) (option_and_then (code_at p) place) 0
locals-place p None = refl
locals-place p (Some place) = (limits-class place (class_at p place.class)).locals

-- ---- all of them

pub IsPrepared-entries : (p : Program) (v : Versions) → FitsOriginals p → length p.classes < 2 ^ 24 → length p.methods < 2 ^ 32 → v ≡ original_versions p
    → IsPrepared p v
IsPrepared-entries p v fits few numbered made = record {
  fits = fits;
  few = few;
  numbered = numbered;
  lines = subst HasLines (sym made) (original-lines p);
  count = ap (λ (w : Versions). length w.current) made ∙ length-map-range_with_len own_number 0 (length p.methods);
}

pub tables-entries : (p : Program) (t : ProgramTables) → length p.classes < 2 ^ 24 → length p.methods < 2 ^ 32 → t.methods ≡ map (entry_at p) p.methods
    → ((e : Exception) → exception_in p t.exceptions e ≡ exception_kind p e) → t.exceptions.string ≡ kind_for p string → t.exceptions.string < 2 ^ 25 → AreNumbers p t.numbers
    → t.throwable ≡ class_named p throwable → t.error ≡ class_named p error → AreTablesOf p t
tables-entries p t few numbered is raised text small numbers above errors =
    let entry : (k : ℕ) → slice_get t.methods k ≡ option_map (entry_at p) (slice_get p.methods k) = λ k. ap (λ ms. slice_get ms k) is ∙ slice_get-map (entry_at p) p.methods k in
    record {
      few = few;
      numbered = numbered;
      numbers = numbers;
      params = λ k. ap (option_and_then (λ (m : Method). m.params)) (entry k) ∙ params-place p (slice_get p.methods k);
      max_stack = λ k. ap (λ (o : Option Method). option_map_or (λ m. m.max_stack) o 0) (entry k) ∙ stack-place p (slice_get p.methods k);
      max_locals = λ k. ap (λ (o : Option Method). option_map_or (λ m. m.max_locals) o 0) (entry k) ∙ locals-place p (slice_get p.methods k);
      raised = raised;
      string = text;
      small = small;
      throwable = above;
      error = errors;
    }
