use Rattle.std.proofs.Common.{subst, sym, ap, ◌∙◌}
use Rattle.frame_stack.specs.FrameLists.{FramesView}
use Rattle.jvm_model.specs.declared.program.Program.{Program}
use Rattle.jvm_model.specs.Basis.Data.{World}
use Rattle.jvm_model.specs.Basis.SharedState.{shared_before}
use Rattle.prepared_code.specs.Kept.{AreKnown}
use Rattle.prepared_code.proofs.Lines.CellLemmas.{nil-known}
use Rattle.symbolic_references.specs.Runtimes.{linker_in}
use Rattle.symbolic_references.specs.ProgramFacts.{AreTablesOf}
use Rattle.interpreter.proofs.Loads.BeforeStart.{built-in-before, exceptions-before, objects-before, shared-before, state-before}
use Rattle.interpreter.proofs.startup.starting.parts_before.Goals as goal

pub new-requires-2-clause-tables : goal.new-requires-2-clause-tables
new-requires-2-clause-tables c = subst (λ p. AreTablesOf p c.in_ok-tables.tables) (sym c.in_ok-linker.ensures.program) c.in_ok-tables.ensures

pub new-requires-2-clause-built_in : goal.new-requires-2-clause-built_in
new-requires-2-clause-built_in c = built-in-before c.args.originals.now.program c.requires.fit c.in_ok-linker.linker c.in_ok-linker.ensures.program c.in_ok-linker.ensures.loaded

pub new-requires-2-clause-exceptions : goal.new-requires-2-clause-exceptions
new-requires-2-clause-exceptions c = exceptions-before c.args.originals.now.program c.requires.fit c.in_ok-linker.linker c.in_ok-linker.ensures.program c.in_ok-linker.ensures.loaded

pub new-requires-2-clause-objects : goal.new-requires-2-clause-objects
new-requires-2-clause-objects c =
    objects-before c.args.originals.now.program c.requires.fit c.in_ok-linker.linker c.in_ok-beginning.beginning.heap c.in_ok-linker.ensures.program c.in_ok-linker.ensures.loaded
    (c.in_ok-beginning.ensures.heap ∙ ap (λ (p : Program). (shared_before p).heap) c.in_ok-linker.ensures.program)

pub returns-clause-state : goal.returns-clause-state
returns-clause-state c =
    state-before (record { program = c.args.originals.now.program; input = c.args.input }) c.new.result.frames c.new-2.result.shared c.new-2.result.output (ap (λ (f : FramesView). f.frames) c.new.ensures)
    (c.new-2.ensures.shared
    ∙ shared-before c.args.originals.now.program c.in_ok-linker.linker.program c.in_ok-linker.linker.loaded c.in_ok-beginning.beginning c.in_ok-linker.ensures.program c.in_ok-linker.ensures.loaded
    c.in_ok-beginning.ensures.phases c.in_ok-beginning.ensures.statics c.in_ok-beginning.ensures.heap c.in_ok-beginning.ensures.made)
    c.new-2.ensures.output

pub returns-clause-world : goal.returns-clause-world
returns-clause-world c = c.new-2.ensures.world ∙ ap (λ (p : Program). let w : World = record { program = p; input = c.args.input } in w) c.in_ok-linker.ensures.program

pub returns-clause-known : goal.returns-clause-known
returns-clause-known c =
    subst (AreKnown (linker_in c.new-2.result) c.args.originals.now.versions) (sym c.requires.rows) (nil-known (linker_in c.new-2.result) c.args.originals.now.versions)
