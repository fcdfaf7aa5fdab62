use Rattle.std.proofs.Common.{◌≡◌, ◌∙◌, true, ap, sym, rules, subst, IfOk}
use Rattle.frame_stack.specs.FrameLists.{top_operands}
use Rattle.jvm_model.specs.Classes.Load.{load_of}
use Rattle.jvm_model.specs.Instructions.SymbolicReference.{resolved_kind, resolves}
use Rattle.member_selection.specs.Objects.{IsResolved}
use Rattle.jvm_model.specs.Basis.Data.{World}
use Rattle.symbolic_references.specs.Runtimes.{RuntimeView, linker_in, with_loaded}
use Rattle.symbolic_references.proofs.Attempted.{found_by, loaded-by, loaded-none, resolved_later}
use Rattle.member_selection.proofs.MoreLoaded.{none-more}
use Rattle.symbolic_references.proofs.runtime.Runtime.find.Goals as goal

pub returns-then-not-resolves-clause-runtime : goal.returns-then-not-resolves-clause-runtime
returns-then-not-resolves-clause-runtime c =
    loaded-none c.args.self.now c.args.reference.now c.args.frames.now (sym c.resolves.ensures ∙ c.if-not-resolves.true)

pub returns-then-not-resolves-clause-more : goal.returns-then-not-resolves-clause-more
returns-then-not-resolves-clause-more c = none-more (linker_in c.args.self.now)

pub returns-clause-runtime : goal.returns-clause-runtime
returns-clause-runtime c =
    let v = c.args.self.now in
    let does : resolves c.args.reference.now (top_operands c.args.frames.now.frames) ≡ true = search rules in
    c.in_ok-found.ensures.runtime
    ∙ (ap (λ name. with_loaded (load_of v.world.program v.shared.loaded name).loaded v) c.resolved_name.ensures ∙ loaded-by v c.args.reference.now c.args.frames.now does)

pub returns-clause-found : goal.returns-clause-found
returns-clause-found c =
    let v = c.args.self.now in
    let m = c.resolve.new.self in
    let n = c.args.reference.now in
    let o = top_operands c.args.frames.now.frames in
    let does : resolves n o ≡ true = search rules in
    found_by (linker_in m) n o c.in_ok-found.found does
    (resolved_later (linker_in v) (linker_in m) n o c.in_ok-found.found does
    (ap (λ (w : World). w.program) c.in_ok-found.ensures.world)
    (ap (λ (x : RuntimeView). x.shared.loaded) c.in_ok-found.ensures.runtime
    ∙ ap (λ name. (load_of v.world.program v.shared.loaded name).loaded) c.resolved_name.ensures)
    (c.in_ok-found.ensures.found ∙ ap (λ name. resolved_kind v.world.program v.shared.loaded name) c.resolved_name.ensures))
    (subst (λ name. IfOk c.in_ok-found.found (λ kind. IsResolved (linker_in m) name kind)) c.resolved_name.ensures c.in_ok-found.ensures.resolved)

pub returns-then-not-resolves-clause-loaded : goal.returns-then-not-resolves-clause-loaded
returns-then-not-resolves-clause-loaded c =
    ap (λ (x : RuntimeView). x.shared.loaded) (loaded-none c.args.self.now c.args.reference.now c.args.frames.now (sym c.resolves.ensures ∙ c.if-not-resolves.true))

pub returns-clause-loaded : goal.returns-clause-loaded
returns-clause-loaded c = ap (λ (x : RuntimeView). x.shared.loaded) (returns-clause-runtime c)
