use Rattle.std.proofs.Common.{◌≡◌, ◌∙◌, ap, subst, sym}
use Rattle.std.specs.Prelude.{IfOk, OnOk, Some, slice_get}
use Rattle.jvm_model.specs.Basis.Programs.{class_at}
use Rattle.jvm_model.specs.Basis.SharedState.{kind_for, string}
use Rattle.jvm_model.specs.Running.Constants.{sets_constants}
use Rattle.jvm_model.specs.declared.program.Program.{Program}
use Rattle.symbolic_references.specs.Held.{IsSetting}
use Rattle.member_selection.specs.Objects.{IsUsable}
use Rattle.symbolic_references.specs.Runtimes.{RuntimeView, linker_in, with_fields, with_shared}
use Rattle.symbolic_references.proofs.ConstantsSet.{all-set, left-by, thrown-by}
use Rattle.symbolic_references.proofs.runtime.Runtime.set_constants.Goals as goal

pub invariant_of-self : goal.invariant_of-self
invariant_of-self c = record {
  tables = c.self.invariant.tables;
  built_in = c.self.invariant.built_in;
  exceptions = c.self.invariant.exceptions;
  selections = c.self.invariant.selections;
  objects = c.set_fields.ensures.loaded c.self.inside.linker
      (subst (λ (v : RuntimeView). IsUsable (linker_in v) c.string_kind-string_kind.result) (sym c.self.view_is) c.string_kind-string_kind.ensures.usable) c.self.invariant.objects;
}

pub returns-in-Some-clause-thrown : goal.returns-in-Some-clause-thrown
returns-in-Some-clause-thrown c =
    let r = c.self.inside in
    let p = r.linker.program in
    let v : RuntimeView = record {
      world = record { program = p; input = r.input };
      shared = record { loaded = r.linker.loaded; phases = r.phases; statics = r.statics; heap = r.heap; made = r.made; read = r.read };
      output = r.output;
    } in
    let new = with_fields c.set_fields.new.heap c.set_fields.new.statics v.shared in
    let there : class_at p c.args.class ≡ Some c.in-Some.file.now =
    sym (c.in-Some.ensures ∙ ap (λ (p : Program). slice_get p.classes c.args.class) c.program.ensures) in
    let kind = c.string_kind-string_kind.ensures.kind ∙ ap (λ (v : RuntimeView). kind_for v.world.program string) (sym c.self.view_is) in
    let set : IsSetting c.set_fields.result new (sets_constants p c.args.class v.shared) =
    all-set p c.args.class v.shared c.in-Some.file.now c.set_fields.result new there (c.set_fields.ensures.set p v.shared kind) in
    subst (λ (v : RuntimeView). IfOk c.set_fields.result (λ thrown. thrown ≡ (sets_constants v.world.program c.args.class v.shared).thrown)) c.self.view_is
    (thrown-by c.set_fields.result new (sets_constants p c.args.class v.shared) set)

pub returns-in-Some-clause-runtime : goal.returns-in-Some-clause-runtime
returns-in-Some-clause-runtime c =
    let r = c.self.inside in
    let p = r.linker.program in
    let v : RuntimeView = record {
      world = record { program = p; input = r.input };
      shared = record { loaded = r.linker.loaded; phases = r.phases; statics = r.statics; heap = r.heap; made = r.made; read = r.read };
      output = r.output;
    } in
    let new = with_fields c.set_fields.new.heap c.set_fields.new.statics v.shared in
    let there : class_at p c.args.class ≡ Some c.in-Some.file.now =
    sym (c.in-Some.ensures ∙ ap (λ (p : Program). slice_get p.classes c.args.class) c.program.ensures) in
    let kind = c.string_kind-string_kind.ensures.kind ∙ ap (λ (v : RuntimeView). kind_for v.world.program string) (sym c.self.view_is) in
    let set : IsSetting c.set_fields.result new (sets_constants p c.args.class v.shared) =
    all-set p c.args.class v.shared c.in-Some.file.now c.set_fields.result new there (c.set_fields.ensures.set p v.shared kind) in
    subst (λ (x : RuntimeView). OnOk c.set_fields.result (with_shared new v ≡ with_shared (sets_constants x.world.program c.args.class x.shared).shared x)) c.self.view_is
    (left-by c.set_fields.result new (sets_constants p c.args.class v.shared) v set)
