use Rattle.std.proofs.Common.{sym, ◌∙◌}
use Rattle.class_shape.specs.ClassShapes.{IsShapeFault}
use Rattle.class_shape.proofs.ImageShapes.{image-shape}
use Rattle.class_shape.proofs.ShapeLaws.{told-fault, none-same, same-number, fault-number, heading-told, if-none, is-none, if-some}
use Rattle.class_shape.proofs.shape.shape_fault.Goals as goal

pub returns-clause-same : goal.returns-clause-same
returns-clause-same c =
    let these = c.args.original.now in
    let those = c.args.image.now in
    let is = c.number_of.ensures in
    (λ none. none-same these those (sym is ∙ if-none c.number_of.result none), λ same. is-none c.number_of.result (is ∙ same-number these those same))

pub returns-clause-number : goal.returns-clause-number
returns-clause-number c =
    let these = c.args.original.now in
    let those = c.args.image.now in
    if-some (IsShapeFault these those) c.number_of.result (λ n e. told-fault these those n (sym c.number_of.ensures ∙ e))

pub returns-clause-only : goal.returns-clause-only
returns-clause-only c = λ told fault. c.number_of.ensures ∙ fault-number c.args.original.now c.args.image.now told fault

pub returns-clause-heading : goal.returns-clause-heading
returns-clause-heading c = λ e. heading-told c.args.original.now c.args.image.now c.requires (sym c.number_of.ensures ∙ e)

pub returns-clause-image : goal.returns-clause-image
returns-clause-image c = λ formed image.
    let these = c.args.original.now in
    let those = c.args.image.now in
    c.number_of.ensures ∙ same-number these those (image-shape these those formed image)
