use Rattle.std.proofs.Common.{sym, ◌∙◌, refl, arith}
use Rattle.std.proofs.lemmas.Bool.{le-leb, lt-leb}
use Rattle.frame_stack.proofs.Callers.{gives-none, has-caller}
use Rattle.frame_stack.proofs.frames.Frames.can_give.Goals as goal

pub returns-in_default : goal.returns-in_default
returns-in_default c =
    let f = c.self.inside in
    rw (← c.self.view_is) (sym (gives-none f.top f.below.items f.slots.items c.args.value (sym (c.last_of.ensures ∙ rw c.deref.ensures.value refl) ∙ c.in_default.is)))

pub returns-in_default-value : goal.returns-in_default-value
returns-in_default-value c =
    let f = c.self.inside in
    rw (c.in_default-value.is, ← c.self.view_is) (sym (has-caller f.top f.below.items f.slots.capacity f.slots.items c.in-Some.entry f.room c.self.invariant.flat.frames c.self.invariant.flat.bottom
    (sym (c.last_of.ensures ∙ rw c.deref.ensures.value refl) ∙ c.in-Some.is)).bare)

pub overflow_sub-height : goal.overflow_sub-height
overflow_sub-height c =
    let f = c.self.inside in
    omega (
      arith,
      c.base.ensures,
      (has-caller f.top f.below.items f.slots.capacity f.slots.items c.in-Some.entry f.room c.self.invariant.flat.frames c.self.invariant.flat.bottom
          (sym (c.last_of.ensures ∙ rw c.deref.ensures.value refl) ∙ c.in-Some.is)).above,
    )

pub overflow_sub-height-2 : goal.overflow_sub-height-2
overflow_sub-height-2 c =
    let f = c.self.inside in
    omega (
      arith,
      c.base.ensures,
      (has-caller f.top f.below.items f.slots.capacity f.slots.items c.in-Some.entry f.room c.self.invariant.flat.frames c.self.invariant.flat.bottom
          (sym (c.last_of.ensures ∙ rw c.deref.ensures.value refl) ∙ c.in-Some.is)).above,
    )

pub overflow_sub-entry : goal.overflow_sub-entry
overflow_sub-entry c =
    let f = c.self.inside in
    let caller = (has-caller f.top f.below.items f.slots.capacity f.slots.items c.in-Some.entry f.room c.self.invariant.flat.frames c.self.invariant.flat.bottom
    (sym (c.last_of.ensures ∙ rw c.deref.ensures.value refl) ∙ c.in-Some.is)) in
    omega (arith, c.base.ensures, caller.above, caller.within)

pub returns : goal.returns
returns c =
    let f = c.self.inside in
    let caller = (has-caller f.top f.below.items f.slots.capacity f.slots.items c.in-Some.entry f.room c.self.invariant.flat.frames c.self.invariant.flat.bottom
    (sym (c.last_of.ensures ∙ rw c.deref.ensures.value refl) ∙ c.in-Some.is)) in
    rw (c.in-Some-value.is, ← c.self.view_is)
    (sym (caller.can c.in-Some-value.value ∙ le-leb _ _ (omega (arith, c.base.ensures, c.width.ensures, caller.above, caller.within, c.if-entry-height.false))))

pub returns-then-entry-height : goal.returns-then-entry-height
returns-then-entry-height c =
    let f = c.self.inside in
    let caller = (has-caller f.top f.below.items f.slots.capacity f.slots.items c.in-Some.entry f.room c.self.invariant.flat.frames c.self.invariant.flat.bottom
    (sym (c.last_of.ensures ∙ rw c.deref.ensures.value refl) ∙ c.in-Some.is)) in
    rw (c.in-Some-value.is, ← c.self.view_is)
    (sym (caller.can c.in-Some-value.value ∙ lt-leb _ _ (omega (arith, c.base.ensures, c.width.ensures, caller.above, caller.within, c.if-entry-height.true))))
