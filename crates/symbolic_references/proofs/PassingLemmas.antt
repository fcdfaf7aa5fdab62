-- Where a frame has not gone on by a rule, it is as it was.
use Rattle.std.proofs.Common.{◌≡◌, ◌≤◌, ℕ, Bool, true, false, cond, List, length, Option, Some, None, drop, refl, sym, ap, subst, ◌∙◌}
use Rattle.std.proofs.lemmas.Bool.{false≢true}
use Rattle.frame_stack.specs.FrameLists.{FramesView, PlacedFrame, top_operands, with_frames}
use Rattle.jvm_basic.specs.Outcomes.{top_locals, with_top}
use Rattle.std.specs.Prelude.{Ok, IfSome}
use Rattle.std.specs.Option.{option_map}
use Rattle.const_pool.specs.References.{Reference}
use Rattle.heap_objects.specs.Heaps.{with_slot_at}
use Rattle.jvm_model.specs.Instructions.FieldRules.{Putting, field_owner, kind_by, puts_into, putting_of, slot_of}
use Rattle.jvm_model.specs.Classes.Lookup.{MemberPlace}
use Rattle.jvm_model.specs.Instructions.SymbolicReference.{unless_refused}
use Rattle.jvm_model.specs.Instructions.ObjectRules.{done}
use Rattle.jvm_model.specs.declared.program.Program.{Program}
use Rattle.jvm_model.specs.declared.state.Phase.{Phase}
use Rattle.jvm_model.specs.declared.state.Phase.TheVariants.{Erroneous, Fresh, Ready, Running}
use Rattle.jvm_model.specs.declared.state.Shared.{Shared}
use Rattle.jvm_model.specs.Basis.Data.{Back, Breaks, Done, Exits, GoesOn, Initializes, Invokes, Locals, Next, Operands, Outcome, Raises, Returns, Subroutine, Target, Throws, World}
use Rattle.jvm_model.specs.Instructions.Rules.{when_ready}
use Rattle.member_selection.specs.Answers.{frames_after, goes_on}
use Rattle.symbolic_references.specs.Fields.{writes}
use Rattle.jvm_model.specs.Instructions.InvocationRules.{invokes_selected}
use Rattle.member_selection.specs.declared.known.Callee.TheVariants as callee
use Rattle.member_selection.specs.declared.known.Chosen.{Chosen}
use Rattle.member_selection.specs.declared.targets.Target.{Target as TheTarget}
use Rattle.member_selection.specs.Callees.{HasCallee, IsCallee, IsCode, IsNative, chosen_place}
use Rattle.symbolic_references.specs.Passing.{IfPassed, IsCall, IsNativeCall, is_usable}
use Rattle.symbolic_references.specs.Runtimes.{RuntimeView, after}
use Rattle.member_selection.specs.Resolved.{field_found, puts_instance}
use Rattle.member_selection.specs.Targets.{data_in}
use Rattle.symbolic_references.proofs.CalleeLemmas.{code-invoked, native-invoked}

stays : (q : Outcome) (next : ℕ) (fs : List PlacedFrame) → goes_on q fs ≡ false → frames_after q next fs ≡ fs
stays (GoesOn l o Next) next fs off = ap (λ b. cond b (with_top l o next fs) fs) off
stays (GoesOn l o (Target k)) next fs off = refl
stays (GoesOn l o (Back k)) next fs off = refl
stays Subroutine next fs off = refl
stays (Invokes m args below) next fs off = refl
stays (Returns d) next fs off = refl
stays (Throws r) next fs off = refl
stays (Raises name message) next fs off = refl
stays (Initializes c) next fs off = refl
stays (Exits n) next fs off = refl
stays (Breaks b) next fs off = refl

module _ (d : Done) (old new : FramesView) (next : ℕ) (before left : RuntimeView) where
  -- it has gone on
  pub passed-on : goes_on d.outcome old.frames ≡ true → new ≡ with_frames (frames_after d.outcome next old.frames) old → left ≡ after d before
      → IfPassed true d next old before new left
  passed-on on moved same = record { goes = on; frames = moved; runtime = same }

  -- by what it answers, where nothing that is shared changes
  pub passed-by : (b : Bool) → b ≡ goes_on d.outcome old.frames → new ≡ with_frames (frames_after d.outcome next old.frames) old → before ≡ after d before
      → left ≡ before → IfPassed b d next old before new left
  passed-by true told moved same kept = passed-on (sym told) moved (kept ∙ same)
  passed-by false told moved same kept = (moved ∙ ap (λ fs. with_frames fs old) (stays d.outcome next old.frames (sym told)), kept)

-- where a frame has not gone on without the operands
pub not-moved : (q : Outcome) (next : ℕ) (old new : FramesView) → goes_on q old.frames ≡ false
    → new ≡ with_frames (frames_after q next old.frames) old → new ≡ old
not-moved q next old new off moved = moved ∙ ap (λ fs. with_frames fs old) (stays q next old.frames off)

-- a class that is usable is not initialized before
pub when-usable : (p : Program) (o : Option Phase) (class : ℕ) (s : Shared) (d : Done) → is_usable o ≡ true → d ≡ when_ready p o class s d
when-usable p (Some Ready) class s d is = refl
when-usable p (Some Running) class s d is = refl
when-usable p (Some Fresh) class s d is = absurd (false≢true is)
when-usable p (Some Erroneous) class s d is = absurd (false≢true is)
when-usable p None class s d is = absurd (false≢true is)

-- a value that goes into the slot of the field
pub puts-written : (p : Program) (kind : ℕ) (r : Reference) (m : MemberPlace) (s : Shared) (l : Locals) (o : Operands) (x : Putting) (object slot : ℕ)
    → putting_of (kind_by r) o ≡ Some x → Ok object ≡ field_owner p s r m x.object → slot ≡ slot_of p m → field_found p kind false r ≡ Ok m
    → writes object slot x.datum s l o ≡ puts_instance p kind r s l o
puts-written p kind r m s l o x object slot is owned at named =
    sym (ap (λ found. unless_refused s found (λ m. puts_into p r m (putting_of (kind_by r) o) s l o)) named
    ∙ (ap (λ given. puts_into p r m given s l o) is
    ∙ (ap (λ owner. unless_refused s owner (λ owner. done (record s { heap = with_slot_at owner (slot_of p m) x.datum s.heap }) (GoesOn l (drop 2 o) Next))) (sym owned)
    ∙ ap (λ k. writes object k x.datum s l o) (sym at))))

-- ---- a call of code

pub call-of : (w : World) (s : Shared) (fs : List PlacedFrame) (t : TheTarget) (m : Chosen) (n : ℕ) → t.selected ≡ Some m → m.callee ≡ callee.Code n
    → t.count ≤ length (top_operands fs) → IfSome t.selected (HasCallee w.program)
    → IsCall (record { method = n; count = t.count })
    (invokes_selected w (option_map chosen_place t.selected) (data_in t.count (top_operands fs)) s (top_locals fs) (drop t.count (top_operands fs))) s fs
call-of w s fs t m n selected code within has =
    let is : IsCode w.program (chosen_place m) n =
    subst (λ x. IsCallee x w.program (chosen_place m)) code (subst (λ x. IfSome x (HasCallee w.program)) selected has) in
    record {
      invokes = ap (λ x. invokes_selected w (option_map chosen_place x) (data_in t.count (top_operands fs)) s (top_locals fs) (drop t.count (top_operands fs))) selected
          ∙ code-invoked w (chosen_place m) (data_in t.count (top_operands fs)) s (top_locals fs) (drop t.count (top_operands fs)) n is;
      within = within;
    }

-- a call of a native method
pub native-of : (w : World) (s : Shared) (fs : List PlacedFrame) (t : TheTarget) (m : Chosen) (n : ℕ) → t.selected ≡ Some m → m.callee ≡ callee.Native n
    → t.count ≤ length (top_operands fs) → IfSome t.selected (HasCallee w.program)
    → IsNativeCall w (record { number = n; count = t.count })
    (invokes_selected w (option_map chosen_place t.selected) (data_in t.count (top_operands fs)) s (top_locals fs) (drop t.count (top_operands fs))) s fs
native-of w s fs t m n selected native within has =
    let is : IsNative w.program (chosen_place m) n =
    subst (λ x. IsCallee x w.program (chosen_place m)) native (subst (λ x. IfSome x (HasCallee w.program)) selected has) in
    record {
      stands = is.stands;
      within = within;
      runs = ap (λ x. invokes_selected w (option_map chosen_place x) (data_in t.count (top_operands fs)) s (top_locals fs) (drop t.count (top_operands fs))) selected
          ∙ native-invoked w (chosen_place m) (data_in t.count (top_operands fs)) s (top_locals fs) (drop t.count (top_operands fs)) n is;
    }
