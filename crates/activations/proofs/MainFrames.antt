-- The frame of `main`, whose argument array was put into its first local.
use Rattle.std.proofs.Common.{◌≡◌, ℕ, zero, suc, ◌+◌, ◌-◌, Bool, true, List, [], ◌∷◌, Some, None, refl, sym, ap, ◌∙◌, arith}
use Rattle.std.specs.Prelude.{map, replicate, slice_set}
use Rattle.std.proofs.lemmas.Bool.{le-leb}
use Rattle.heap_objects.specs.declared.Value.{Value}
use Rattle.heap_objects.specs.declared.Value.TheVariants.{Ref}
use Rattle.heap_objects.specs.Changes.{changed_if}
use Rattle.frame_stack.specs.FrameLists.{PlacedFrame, FramesView, can_enter, has_slot, with_local, with_room, with_written}
use Rattle.jvm_model.specs.declared.state.Entry.{Entry}
use Rattle.jvm_model.specs.declared.state.Entry.TheVariants.{Active}
use Rattle.jvm_model.specs.Basis.Data.{Locals}
use Rattle.jvm_model.specs.Running.Applies.{new_frame}
use Rattle.jvm_model.specs.Running.Moves.{argument_array}
use Rattle.jvm_model.specs.Basis.Programs.{max_locals_of, max_stack_of}
use Rattle.prepared_code.specs.States.{active}
use Rattle.activations.specs.Arguments.{frame_begun as placed, with_version_frame}
use Rattle.prepared_code.specs.Versions.{Setup, current_of, first_of, listing_of}

first_local : (v : Value) (n : ℕ) → (n ≡ 0 → ⊥) → slice_set (replicate (n - 0) None) 0 (Some v) ≡ Some v ∷ replicate (n - 1) None
first_local v zero some = absurd (some refl)
first_local v (suc n) some =
    let whole : suc n - 0 ≡ suc n = omega arith in
    let rest : suc n - 1 ≡ n = omega arith in
    ap (λ m. slice_set (replicate m None) 0 (Some v)) whole ∙ ap (λ m. let l : Locals = Some v ∷ replicate m None in l) (sym rest)

-- `begun` is with the frame, `new` with its argument
with_argument : (w : Setup) (main locals stack : ℕ) (begun new : FramesView) (wrote : Bool) → (locals ≡ 0 → ⊥)
    → begun.frames ≡ placed w.versions main locals stack [] ∷ [] → wrote ≡ has_slot 0 (Ref 5) begun.frames → new ≡ changed_if wrote (with_written 0 (Ref 5)) begun
    → new.frames ≡ record (placed w.versions main locals stack []) { locals = Some (Ref 5) ∷ replicate (locals - 1) None } ∷ []
with_argument w main locals stack begun new wrote some one answer put =
    let has : wrote ≡ true = answer ∙ (ap (has_slot 0 (Ref 5)) one ∙ le-leb (0 + 1) locals (omega arith)) in
    ap (λ (s : FramesView). s.frames) (put ∙ ap (λ b. changed_if b (with_written 0 (Ref 5)) begun) has) ∙ ap (with_local 0 (Ref 5)) one
    ∙ ap (λ l. let fs : List PlacedFrame = record (placed w.versions main locals stack []) { locals = l } ∷ [] in fs) (first_local (Ref 5) locals some)

-- `begun` is `mid` with a frame that takes nothing
with_frame : (w : Setup) (main locals stack : ℕ) (mid begun : FramesView) (entered : Bool) → mid.frames ≡ []
    → entered ≡ can_enter locals 0 mid.frames → begun ≡ changed_if entered (with_version_frame w.versions main locals stack 0) mid
    → begun.frames ≡ placed w.versions main locals stack [] ∷ []
with_frame w main locals stack mid begun entered none answer made =
    let has : entered ≡ true = answer ∙ (ap (can_enter locals 0) none ∙ le-leb 0 locals (omega arith)) in
    ap (λ (s : FramesView). s.frames) (made ∙ ap (λ b. changed_if b (with_version_frame w.versions main locals stack 0) mid) has)
    ∙ ap (λ fs. (with_version_frame w.versions main locals stack 0 (record mid { frames = fs })).frames) none

abbrev entries_of : Setup → ℕ → ℕ → ℕ → List Entry
entries_of w main locals stack = Active (record {
  method = main;
  version = current_of w.versions main;
  place = first_of w.versions (current_of w.versions main);
  locals = Some (Ref 5) ∷ replicate (locals - 1) None;
  operands = [];
  max_locals = locals;
  max_stack = stack;
}) ∷ []

pub main_frame : (w : Setup) (main locals stack : ℕ) (old mid begun new : FramesView) (entered wrote : Bool) → main ≡ w.world.program.main
    → locals ≡ max_locals_of w.world main → stack ≡ max_stack_of w.world main → (locals ≡ 0 → ⊥) → old.frames ≡ []
    → mid ≡ with_room (locals + stack) old
    → entered ≡ can_enter locals 0 mid.frames → begun ≡ changed_if entered (with_version_frame w.versions main locals stack 0) mid
    → wrote ≡ has_slot 0 (Ref 5) begun.frames → new ≡ changed_if wrote (with_written 0 (Ref 5)) begun
    → map active new.frames ≡ Active (new_frame w.world (listing_of w.versions) w.world.program.main argument_array) ∷ []
main_frame w main locals stack old mid begun new entered wrote is of_locals of_stack some none roomy enters made writes put =
    let mid_none : mid.frames ≡ [] = ap (λ (s : FramesView). s.frames) roomy ∙ none in
    let one = with_frame w main locals stack mid begun entered mid_none enters made in
    ap (map active) (with_argument w main locals stack begun new wrote some one writes put)
    ∙ ap (λ l. entries_of w main l stack) of_locals ∙ ap (entries_of w main (max_locals_of w.world main)) of_stack
    ∙ ap (λ m. let es : List Entry = Active (new_frame w.world (listing_of w.versions) m argument_array) ∷ [] in es) is
