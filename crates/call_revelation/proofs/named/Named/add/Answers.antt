use Rattle.std.proofs.Common.{◌≡◌, ◌∙◌, ap, refl, sym, subst, arith}
use Rattle.std.specs.Vec.{with_items}
use Rattle.std.proofs.lemmas.List.{with_items_is}
use Rattle.jvm_model.specs.Classes.Load.{is_among}
use Rattle.possible_callees.specs.Lineages.{IsClosed, IsNoted, class_noted}
use Rattle.call_revelation.proofs.References.CalledLemmas.{handed-kept, handed-noted}
use Rattle.call_revelation.proofs.named.Named.add.Goals as goal

pub returns-in_err-note-clause-handed : goal.returns-in_err-note-clause-handed
returns-in_err-note-clause-handed c = λ p lined handed.
    let old = c.args.self.now.above in
    let new = c.note.new.lists in
    let xs = c.as_slice.result.now in
    let only = subst (λ l. IsNoted c.args.class xs l new) c.as_mut_slice.ensures.value c.note.ensures.only in
    let is : (with_items old new).items ≡ new = with_items_is old new (omega (arith, only.places, old.ok.0)) in
    handed-kept p c.args.lineage.now.loaded c.args.self.now (record { classes = c.args.self.now.classes; above = with_items old new }) c.args.class xs
    (subst (IsNoted c.args.class xs old.items) (sym is) only) refl handed

pub returns-in_err-add-clause-handed : goal.returns-in_err-add-clause-handed
returns-in_err-add-clause-handed c = λ p lined handed.
    let old = c.args.self.now.above in
    let new = c.note.new.lists in
    let xs = c.as_slice.result.now in
    let only = subst (λ l. IsNoted c.args.class xs l new) c.as_mut_slice.ensures.value c.note.ensures.only in
    let is : (with_items old new).items ≡ new = with_items_is old new (omega (arith, only.places, old.ok.0)) in
    handed-kept p c.args.lineage.now.loaded c.args.self.now (record { classes = c.add.new.self; above = with_items old new }) c.args.class xs
    (subst (IsNoted c.args.class xs old.items) (sym is) only) c.in_err-add.ensures handed

pub returns-clause-handed : goal.returns-clause-handed
returns-clause-handed c = λ p lined handed.
    let old = c.args.self.now.above in
    let new = c.note.new.lists in
    let xs = c.as_slice.result.now in
    let below = c.args.lineage.now.below.items in
    let only = subst (λ l. IsNoted c.args.class xs l new) c.as_mut_slice.ensures.value c.in_ok-note.ensures.only in
    let is : (with_items old new).items ≡ new = with_items_is old new (omega (arith, only.places, old.ok.0)) in
    handed-noted p c.args.lineage.now c.args.self.now (record { classes = c.add.new.self; above = with_items old new }) c.args.class xs lined
    (ap (is_among c.args.class) c.as_slice.ensures ∙ c.in_ok-lower.ensures.own) (subst (IsClosed below) (sym c.as_slice.ensures) c.in_ok-lower.ensures.closed)
    (subst (IsNoted c.args.class xs old.items) (sym is) only) (is ∙ (c.in_ok-note.ensures.noted ∙ ap (λ l. class_noted c.args.class l xs) c.as_mut_slice.ensures.value))
    c.in_ok-add.ensures handed
