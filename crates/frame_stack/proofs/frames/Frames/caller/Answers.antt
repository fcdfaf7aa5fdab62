use Rattle.std.proofs.Common.{sym, ap, ◌∙◌, refl}
use Rattle.std.specs.Option.{option_map}
use Rattle.frame_stack.proofs.Callers.{caller-is, told}
use Rattle.frame_stack.proofs.frames.Frames.caller.Goals as goal

pub returns : goal.returns
returns c =
    let f = c.self.inside in
    rw (← c.self.view_is) (sym (caller-is f.top f.below.items f.slots.items c.self.invariant.flat.bottom
    ∙ ap (option_map told) (sym (c.last_of.ensures ∙ rw c.deref.ensures.value refl) ∙ c.in-Some.is)))

pub returns-in_default : goal.returns-in_default
returns-in_default c =
    let f = c.self.inside in
    rw (← c.self.view_is) (sym (caller-is f.top f.below.items f.slots.items c.self.invariant.flat.bottom
    ∙ ap (option_map told) (sym (c.last_of.ensures ∙ rw c.deref.ensures.value refl) ∙ c.in_default.is)))
