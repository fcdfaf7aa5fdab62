-- the words were given, or memory ran out over them
use Rattle.std.proofs.Common.{◌≡◌, refl, sym, ap, ◌∙◌, inl, inr}
use Rattle.std.specs.Prelude.{◌⊎◌, Ok}
use Rattle.jfluid_cli.specs.declared.refusal.Refusal.{Refusal}
use Rattle.jfluid_cli.specs.declared.refusal.Refusal.TheVariants.{NoMemory}
use Rattle.jfluid_cli.proofs.Reports.Finished.{answered-words}
use Rattle.jfluid_cli.proofs.Reports.OnDevices.{answered-of, answered-from}
use Rattle.jfluid_cli.proofs.top.jfluid.Goals as goal

of-memory : (told : Refusal) → (told ≡ NoMemory) ⊎ (told ≡ NoMemory) → told ≡ NoMemory
of-memory told (inl same) = same
of-memory told (inr same) = same

pub returns-in-Err-clause-answered : goal.returns-in-Err-clause-answered
returns-in-Err-clause-answered g c = answered-from _ _ _ _ _ _ c.devices.view_is
    (answered-words c.args.words _ _ _ NoMemory c.tell.result c.status.result refl
    tt (λ a b xs ys. refl) (λ e. of-memory c.tell.result c.tell.ensures.which) c.tell.ensures.which
    c.status.ensures c.tell.ensures.line)

pub returns-clause-answered : goal.returns-clause-answered
returns-clause-answered g c = answered-of _ _ c.args.devices.now c.answer_words.new.devices _ _ (ap Ok c.as_slice.ensures ∙ sym c.in-Ok.is)
    c.answer_words.ensures.answered
