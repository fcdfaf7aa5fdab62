use Rattle.std.proofs.Common.{sym, ◌∙◌}
use Rattle.jvm_model.specs.Classes.Selection.{candidate}
use Rattle.class_linker.specs.DeclaredMethods.{at_place}
use Rattle.class_linker.proofs.Searches.{behind, chain_behind, first, first_has, left, passed_over}
use Rattle.class_linker.proofs.loaded_classes.LoadedClasses.first_candidate.Goals as goal

pub candidate-requires-clause-known : goal.candidate-requires-clause-known
candidate-requires-clause-known c =
    λ none. first c.args.self.index.now (at_place c.args.m) _ _ _ (left c.args.classes.now c.loop-class.class-index c.loop-class-test.true)
    (c.loop-class.invariant.known none)

pub loop-class-preserved : goal.loop-class-preserved
loop-class-preserved c =
    let e = left c.args.classes.now c.loop-class.class-index c.loop-class-test.true in
    let have = first_has c.args.self.rows.now _ _ _ e c.loop-class.invariant.rows in
    record {
      decides = passed_over (candidate c.args.self.index.now c.args.interface (at_place c.args.m)) _ _ _ e (sym c.candidate.ensures.found ∙ c.in_default.is)
          ∙ c.loop-class.invariant.decides;
      rows = have.1;
      chain = chain_behind c.args.self.index.now _ _ _ e c.loop-class.invariant.chain;
      known = λ none. behind c.args.self.index.now c.args.self.rows.now c.args.self.of_program (at_place c.args.m) _ _ _ e c.loop-class.invariant.chain have.0
          (c.candidate.ensures.known none);
    }
