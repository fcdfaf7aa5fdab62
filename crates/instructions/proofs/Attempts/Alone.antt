-- What `basic` has done to the top frame is what the line comes to.
use Rattle.std.proofs.Common.{◌≡◌, ℕ, Bool, true, false, List, [], ◌∷◌, Some, cond, refl, ap, ◌∙◌}
use Rattle.std.specs.Prelude.{nat_le}
use Rattle.frame_stack.specs.Widths.{height_of}
use Rattle.frame_stack.specs.FrameLists.{PlacedFrame, FramesView}
use Rattle.jvm_model.specs.Running.Applies.{breaks, with_frame}
use Rattle.jvm_model.specs.Instructions.LocalRules.{by_zero}
use Rattle.jvm_basic.specs.declared.effect.Effect.TheVariants.{Next, Throws, Bad, Other}
use Rattle.jvm_basic.specs.Outcomes.{Outcome, GoesOn, Raises, Breaks, Leaves, effect_in, frames_in, with_top, outcome_asked, effect_of, after}
use Rattle.jvm_basic.specs.Rules.{rule_of}
use Rattle.prepared_lines.specs.declared.line.Line.{Line}
use Rattle.prepared_code.specs.declared.parts.Parts.{Parts}
use Rattle.jvm_model.specs.declared.exception.Exception.TheVariants.{Arithmetic}
use Rattle.activations.specs.Applied.{IsTop, on_top, on_parts, run_ended, raising}
use Rattle.instructions.specs.Acts.{comes_to, acts_alone}
use Rattle.prepared_code.specs.States.{frame_in, state_with, state_in}
use Rattle.prepared_code.specs.Versions.{Setup}

module _ (w : Setup) (line : Line) (p : Parts) where
  pub next-is : (x : Outcome) (f : PlacedFrame) (fs : List PlacedFrame) → effect_in x (f ∷ fs) ≡ Next
      → state_with (frames_in x (f ∷ fs)) p ≡ comes_to w line (state_with fs p) (frame_in f) x
  next-is (GoesOn l o place) f fs e = by (nat_le (height_of o) f.max_stack) e where
    by : (b : Bool) → cond b Next Bad ≡ Next
        → state_with (cond b (with_top l o place (f ∷ fs)) (f ∷ fs)) p
        ≡ cond b (with_frame (state_with fs p) (record (frame_in f) { place = place; locals = l; operands = o })) (breaks (state_with fs p) (frame_in f) line.instr.at)
    by true e = refl
    by false e = absurd cc
  next-is (Raises class) f fs e = absurd cc
  next-is Breaks f fs e = absurd cc
  next-is Leaves f fs e = absurd cc

  bad-is : (x : Outcome) (f : PlacedFrame) (fs : List PlacedFrame) → effect_in x (f ∷ fs) ≡ Bad
      → state_with (frames_in x (f ∷ fs)) (run_ended f.method line.instr.at p) ≡ comes_to w line (state_with fs p) (frame_in f) x
  bad-is (GoesOn l o place) f fs e = by (nat_le (height_of o) f.max_stack) e where
    by : (b : Bool) → cond b Next Bad ≡ Bad
        → state_with (cond b (with_top l o place (f ∷ fs)) (f ∷ fs)) (run_ended f.method line.instr.at p)
        ≡ cond b (with_frame (state_with fs p) (record (frame_in f) { place = place; locals = l; operands = o })) (breaks (state_with fs p) (frame_in f) line.instr.at)
    by true e = absurd cc
    by false e = refl
  bad-is (Raises class) f fs e = absurd cc
  bad-is Breaks f fs e = refl
  bad-is Leaves f fs e = absurd cc

  other-is : (x : Outcome) (f : PlacedFrame) (fs : List PlacedFrame) → effect_in x (f ∷ fs) ≡ Other
      → state_with (frames_in x (f ∷ fs)) (run_ended f.method line.instr.at p) ≡ comes_to w line (state_with fs p) (frame_in f) x
  other-is (GoesOn l o place) f fs e = absurd (never (nat_le (height_of o) f.max_stack) e) where
    never : (b : Bool) → cond b Next Bad ≡ Other → ⊥
    never true e = absurd cc
    never false e = absurd cc
  other-is (Raises class) f fs e = absurd cc
  other-is Breaks f fs e = absurd cc
  other-is Leaves f fs e = refl

  -- a division by zero
  throws-is : (x : Outcome) (f : PlacedFrame) (fs : List PlacedFrame) (class : ℕ) → effect_in x (f ∷ fs) ≡ Throws class
      → state_with (frames_in x (f ∷ fs)) (raising w.world Arithmetic (Some by_zero) p) ≡ comes_to w line (state_with fs p) (frame_in f) x
  throws-is (GoesOn l o place) f fs class e = absurd (never (nat_le (height_of o) f.max_stack) e) where
    never : (b : Bool) → cond b Next Bad ≡ Throws class → ⊥
    never true e = absurd cc
    never false e = absurd cc
  throws-is (Raises raised) f fs class e = refl
  throws-is Breaks f fs class e = absurd cc
  throws-is Leaves f fs class e = absurd cc

  next-on : (method : ℕ) (fs : List PlacedFrame) → IsTop method fs
      → effect_in (outcome_asked (rule_of line.instr line.constant line.next) fs) fs ≡ Next
      → state_with (frames_in (outcome_asked (rule_of line.instr line.constant line.next) fs) fs) p ≡ on_top (acts_alone w line) p fs
  next-on method [] top e = absurd top
  next-on method (f ∷ fs) top e = next-is (rule_of line.instr line.constant line.next f.locals f.operands) f fs e

  bad-on : (method : ℕ) (fs : List PlacedFrame) → IsTop method fs
      → effect_in (outcome_asked (rule_of line.instr line.constant line.next) fs) fs ≡ Bad
      → state_with (frames_in (outcome_asked (rule_of line.instr line.constant line.next) fs) fs) (run_ended method line.instr.at p) ≡ on_top (acts_alone w line) p fs
  bad-on method [] top e = absurd top
  bad-on method (f ∷ fs) top e =
      ap (λ m. state_with (frames_in (rule_of line.instr line.constant line.next f.locals f.operands) (f ∷ fs)) (run_ended m line.instr.at p)) top
      ∙ bad-is (rule_of line.instr line.constant line.next f.locals f.operands) f fs e

  other-on : (method : ℕ) (fs : List PlacedFrame) → IsTop method fs
      → effect_in (outcome_asked (rule_of line.instr line.constant line.next) fs) fs ≡ Other
      → state_with (frames_in (outcome_asked (rule_of line.instr line.constant line.next) fs) fs) (run_ended method line.instr.at p) ≡ on_top (acts_alone w line) p fs
  other-on method [] top e = absurd top
  other-on method (f ∷ fs) top e =
      ap (λ m. state_with (frames_in (rule_of line.instr line.constant line.next f.locals f.operands) (f ∷ fs)) (run_ended m line.instr.at p)) top
      ∙ other-is (rule_of line.instr line.constant line.next f.locals f.operands) f fs e

  throws-on : (method class : ℕ) (fs : List PlacedFrame) → IsTop method fs
      → effect_in (outcome_asked (rule_of line.instr line.constant line.next) fs) fs ≡ Throws class
      → state_with (frames_in (outcome_asked (rule_of line.instr line.constant line.next) fs) fs) (raising w.world Arithmetic (Some by_zero) p) ≡ on_top (acts_alone w line) p fs
  throws-on method class [] top e = absurd top
  throws-on method class (f ∷ fs) top e = throws-is (rule_of line.instr line.constant line.next f.locals f.operands) f fs class e

  pub goes-throws : (method class : ℕ) (frames : FramesView) → IsTop method p.frames.frames
      → effect_of (rule_of line.instr line.constant line.next) p.frames ≡ Throws class → frames ≡ after (rule_of line.instr line.constant line.next) p.frames
      → state_in (raising w.world Arithmetic (Some by_zero) (record p { frames = frames })) ≡ on_parts (acts_alone w line) p
  goes-throws method class frames top e made =
      ap (λ (s : FramesView). state_with s.frames (raising w.world Arithmetic (Some by_zero) p)) made ∙ throws-on method class p.frames.frames top e

  pub goes-next : (method : ℕ) (frames : FramesView) → IsTop method p.frames.frames
      → effect_of (rule_of line.instr line.constant line.next) p.frames ≡ Next → frames ≡ after (rule_of line.instr line.constant line.next) p.frames
      → state_in (record p { frames = frames }) ≡ on_parts (acts_alone w line) p
  goes-next method frames top e made = ap (λ (s : FramesView). state_with s.frames p) made ∙ next-on method p.frames.frames top e

  pub goes-bad : (method : ℕ) (frames : FramesView) → IsTop method p.frames.frames
      → effect_of (rule_of line.instr line.constant line.next) p.frames ≡ Bad → frames ≡ after (rule_of line.instr line.constant line.next) p.frames
      → state_in (run_ended method line.instr.at (record p { frames = frames })) ≡ on_parts (acts_alone w line) p
  goes-bad method frames top e made =
      ap (λ (s : FramesView). state_with s.frames (run_ended method line.instr.at p)) made ∙ bad-on method p.frames.frames top e

  pub goes-other : (method : ℕ) (frames : FramesView) → IsTop method p.frames.frames
      → effect_of (rule_of line.instr line.constant line.next) p.frames ≡ Other → frames ≡ after (rule_of line.instr line.constant line.next) p.frames
      → state_in (run_ended method line.instr.at (record p { frames = frames })) ≡ on_parts (acts_alone w line) p
  goes-other method frames top e made =
      ap (λ (s : FramesView). state_with s.frames (run_ended method line.instr.at p)) made ∙ other-on method p.frames.frames top e
