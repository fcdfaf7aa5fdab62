use Rattle.std.proofs.Common.{ap, subst, sym, ◌∙◌}
use Rattle.jvm_model.specs.Classes.Load.{is_among}
use Rattle.possible_callees.specs.Lineages.{LeadTo}
use Rattle.call_revelation.specs.CalledClasses.{uppers_of}
use Rattle.call_revelation.proofs.References.CalledLemmas.{all-uppers, handed-before, handed-more}
use Rattle.call_revelation.proofs.Revelations.Grown.{grown-named, grown-self, grown-then}
use Rattle.call_revelation.proofs.Classes.SubtypeSteps.{direct-lead}
use Rattle.call_revelation.proofs.Revelations.Marking.{named-more}
use Rattle.call_revelation.proofs.reveal.Reveal.load_class.Goals as goal

pub load_named-requires-clause-revelation : goal.load_named-requires-clause-revelation
load_named-requires-clause-revelation c =
    let p = c.args.linker.now.program in
    let old = c.args.self.now in
    let handed = c.requires.revelation.kept.named in
    named-more p old c.keep.new.self c.requires.revelation
    (handed-before p old.lineage.loaded old.named c.keep.new.self c.args.new c.in_ok-uppers.uppers handed c.keep.ensures.classes c.keep.ensures.above c.requires.fresh)
    (λ k h. ap (is_among k) c.keep.ensures.classes ∙ h)

pub load_named-requires-clause-ahead : goal.load_named-requires-clause-ahead
load_named-requires-clause-ahead c = record { loaded = c.requires.ahead.loaded; root = c.requires.ahead.root }

pub load_named-requires-clause-led : goal.load_named-requires-clause-led
load_named-requires-clause-led c =
    let p = c.args.linker.now.program in
    let loaded = c.args.self.now.lineage.loaded in
    subst (LeadTo p loaded c.args.new) (sym (c.as_slice-2.ensures ∙ c.in_ok-direct.ensures)) (direct-lead p loaded c.args.new c.requires.next)

pub load_named-requires-clause-handed : goal.load_named-requires-clause-handed
load_named-requires-clause-handed c =
    let p = c.args.linker.now.program in
    let old = c.args.self.now in
    let handed = c.requires.revelation.kept.named in
    handed-more p old.lineage.loaded old.named c.keep.new.self c.args.new c.in_ok-uppers.uppers handed c.keep.ensures.classes c.keep.ensures.above
    (all-uppers p old.lineage.loaded old.named c.args.new c.in_ok-uppers.uppers handed c.requires.next
    (λ upper. c.in_ok-uppers.ensures upper ∙ ap (λ d. is_among upper (uppers_of old.named d c.args.new)) (c.as_slice.ensures ∙ c.in_ok-direct.ensures)))

pub returns-in_err-direct-clause-grown : goal.returns-in_err-direct-clause-grown
returns-in_err-direct-clause-grown c = grown-self c.args.linker.now.program c.args.self.now c.requires.revelation.kept

pub returns-in_err-uppers-clause-grown : goal.returns-in_err-uppers-clause-grown
returns-in_err-uppers-clause-grown c = grown-self c.args.linker.now.program c.args.self.now c.requires.revelation.kept

pub returns-clause-grown : goal.returns-clause-grown
returns-clause-grown c =
    let p = c.args.linker.now.program in
    let old = c.args.self.now in
    let kept = c.requires.revelation.kept in
    grown-then p old (record old { named = c.keep.new.self }) c.load_named.new.self
    (grown-named p old c.keep.new.self kept
    (handed-before p old.lineage.loaded old.named c.keep.new.self c.args.new c.in_ok-uppers.uppers kept.named c.keep.ensures.classes c.keep.ensures.above c.requires.fresh)
    (λ k h. ap (is_among k) c.keep.ensures.classes ∙ h))
    c.load_named.ensures.grown
