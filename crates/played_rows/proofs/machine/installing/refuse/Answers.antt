use Rattle.std.proofs.Common.{[], Ok, ap, ◌∙◌, subst, sym}
use Rattle.jvm_model.specs.Classes.Load.{is_among}
use Rattle.played_rows.specs.Machine.Played.{IsOtherwise}
use Rattle.played_rows.proofs.MachineLemmas.Otherwise.{refused-else}
use Rattle.hotswap.specs.Redefining.{IsRefused}
use Rattle.program_fit.proofs.Runs.{runnable}
use Rattle.played_rows.proofs.MachineLemmas.Images.{spells-none}
use Rattle.played_rows.proofs.MachineLemmas.Stays.{same-ready}
use Rattle.played_rows.proofs.machine.installing.refuse.Goals as goal

pub redefine-requires-clause-image : goal.redefine-requires-clause-image
redefine-requires-clause-image c = spells-none c.args.vm.now.program c.args.class c.args.bytes.now [] [] (c.is_unfit.ensures.unfit (c.in_ok-is_unfit.was ∙ ap Ok c.if-not-branch.false))

pub returns-in-Err-clause-refused : goal.returns-in-Err-clause-refused
returns-in-Err-clause-refused c = λ e. record {
  refused = subst (IsRefused c.args.vm.now.program c.args.class c.args.bytes.now) (c.same_refusal.ensures.same e) (c.in-Err.ensures.refused (c.same_refusal.ensures.found e));
  same = c.in-Err.ensures.err;
}

pub returns-in-Err-clause-ready : goal.returns-in-Err-clause-ready
returns-in-Err-clause-ready c = λ e. same-ready c.args.vm.now c.redefine.new.vm c.requires c.in-Err.ensures.err

pub redefine-requires-clause-formed : goal.redefine-requires-clause-formed
redefine-requires-clause-formed c = (runnable c.args.vm.now.program c.requires.admitted).formed

pub redefine-requires-clause-known : goal.redefine-requires-clause-known
redefine-requires-clause-known c = c.is_unfit.ensures.known (c.in_ok-is_unfit.was ∙ ap Ok c.if-not-branch.false)

pub returns-then-not-is_loaded-clause-otherwise : goal.returns-then-not-is_loaded-clause-otherwise
returns-then-not-is_loaded-clause-otherwise c = IsOtherwise.not_loaded c.args.class c.args.bytes.now c.args.wanted
    (ap (is_among c.args.class) (sym (c.linker.ensures.loaded c.requires.whole)) ∙ (sym c.is_loaded.ensures ∙ c.if-not-is_loaded.true))

pub returns-then-not-branch-clause-otherwise : goal.returns-then-not-branch-clause-otherwise
returns-then-not-branch-clause-otherwise c =
    IsOtherwise.not_refused c.args.class c.args.bytes.now c.args.wanted (c.is_unfit.ensures.fit (c.in_ok-is_unfit.was ∙ ap Ok c.if-not-branch.true))

pub returns-in-Err-clause-otherwise : goal.returns-in-Err-clause-otherwise
returns-in-Err-clause-otherwise c =
    refused-else c.same_refusal.result c.args.vm.now c.args.class c.args.bytes.now c.args.wanted c.in-Err.came c.in-Err.ensures.refused c.same_refusal.ensures.other
