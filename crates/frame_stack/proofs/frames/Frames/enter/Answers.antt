use Rattle.std.proofs.Common.{◌≡◌, ◌+◌, ℕ, sym, subst, ◌∙◌, get_or, arith, refl}
use Rattle.std.specs.Prelude.{Option}
use Rattle.std.specs.Vec.{vec_capacity}
use Rattle.frame_stack.specs.declared.entry.Entry.{Entry}
use Rattle.frame_stack.specs.Cuts.{top_floor}
use Rattle.frame_stack.specs.Pins.{pins_of_top}
use Rattle.frame_stack.proofs.Passing.{HasPassed}
use Rattle.frame_stack.proofs.Floors.{HasFloor, has-floor, has-passed}
use Rattle.frame_stack.proofs.Counting.{counted-begun}
use Rattle.frame_stack.proofs.Entering.{IsEntered, is-entered, new-limit}
use Rattle.frame_stack.proofs.frames.Frames.enter.Goals as goal

entered-now : (c : goal.After-self-2-1) → IsEntered c.args.version c.args.method c.in-Some.base c.args.max_locals c.args.max_stack c.args.args
    c.self.inside.top c.self.inside.below.items (vec_capacity c.put_below.new.below) c.self.inside.slots.items c.fill.new.slots.capacity c.self.inside.room
entered-now c =
    let f = c.self.inside in
    let low : HasFloor (top_floor f.top) f.slots.items _ = has-floor f.top f.below.items f.slots.capacity f.slots.items c.self.invariant.flat.frames in
    let passed : HasPassed (top_floor f.top) c.in-Some.base c.args.args f.slots.items =
    has-passed (top_floor f.top) c.in-Some.base c.args.args f.slots.items low.within low.are
    (sym c.in-Some.is ∙ (c.end_below.ensures ∙ rw (c.floor.ensures) refl)) in
    is-entered c.args.version c.args.method c.in-Some.base c.args.max_locals c.args.max_stack c.args.args
    f.top f.below.items (vec_capacity f.below) (vec_capacity c.put_below.new.below) f.slots.items f.slots.capacity c.fill.new.slots.capacity f.room
    c.self.invariant.flat (rw (← c.self.view_is) at c.requires.room) (rw (← c.self.view_is) at c.requires.few)
    passed (omega arith) (omega (arith, c.fill.ensures.capacity))

pub some-self-inside-requires : goal.some-self-inside-requires
some-self-inside-requires c =
    let f = c.self.inside in
    let low : HasFloor (top_floor f.top) f.slots.items _ = has-floor f.top f.below.items f.slots.capacity f.slots.items c.self.invariant.flat.frames in
    let passed : HasPassed (top_floor f.top) c.in-Some.base c.args.args f.slots.items =
    has-passed (top_floor f.top) c.in-Some.base c.args.args f.slots.items low.within low.are
    (sym c.in-Some.is ∙ (c.end_below.ensures ∙ rw c.floor.ensures refl)) in
    omega (
      arith,
      c.len.ensures.fits,
      new-limit f.top f.below.items (vec_capacity f.below) f.slots.items f.slots.capacity f.room c.in-Some.base (c.args.max_locals + c.args.max_stack)
          c.self.invariant.flat (rw (← c.self.view_is) at c.requires.room) (omega (arith, passed.at)),
    )

pub invariant_of-self : goal.invariant_of-self
invariant_of-self c =
    let f = c.self.inside in
    let counted : (version : ℕ) → get_or c.count_up.new.counters.items version 0 ≡ get_or f.counters.items version 0 + pins_of_top version f.top =
    subst (λ (t : Option Entry). (version : ℕ) → get_or c.count_up.new.counters.items version 0 ≡ get_or f.counters.items version 0 + pins_of_top version t) c.get-caller.ensures c.count_up.ensures in
    rw (c.some-self-inside.ensures, c.put_below.ensures.items, c.get-caller.ensures, c.fill.ensures.items) (record { flat = (entered-now c).flat; counted = counted-begun f.counters.items _ f.top _ f.below.items f.room c.self.invariant.counted counted })

pub returns-clause-answer : goal.returns-clause-answer
returns-clause-answer c = sym (rw (← c.self.view_is) (entered-now c).can)

pub returns-clause-frames : goal.returns-clause-frames
returns-clause-frames c =
    rw (← c.self.view_is, c.some-self-inside.ensures, c.put_below.ensures.items, c.get-caller.ensures, c.fill.ensures.items) (entered-now c).seen
