-- Where the probe of a return has told, the current frame stands at a return of its method.
use Rattle.std.proofs.Common.{◌≡◌, ℕ, Bool, true, false, not, List, [], ◌∷◌, Option, Some, None, refl, sym, ap, subst, ◌∙◌, inl, inr}
use Rattle.std.specs.Prelude.{◌==◌, ◌&&◌}
use Rattle.std.specs.List.{AllByRecursion}
use Rattle.std.specs.Option.{IfSome}
use Rattle.jvm_model.specs.declared.due.Due.{Due}
use Rattle.jvm_model.specs.declared.due.Due.TheVariants.{Begins, Ends, Nothing}
use Rattle.jvm_model.specs.declared.event.EventKind.TheVariants as kind
use Rattle.jvm_model.specs.declared.state.State.{State}
use Rattle.jvm_model.specs.declared.ending.Ending.{Ending}
use Rattle.jvm_model.specs.declared.state.Entry.{Entry}
use Rattle.jvm_model.specs.declared.state.Entry.TheVariants.{Active, Initializing}
use Rattle.jvm_model.specs.declared.state.Frame.{Frame}
use Rattle.jvm_model.specs.Turns.InHand.{original_of}
use Rattle.jvm_model.specs.Codes.Moved.{moved_stack, at_homes}
use Rattle.jvm_model.specs.Codes.Originals.{original}
use Rattle.jvm_model.specs.Turns.Pauses.{is_end, later_of}
use Rattle.jvm_model.specs.Turns.Rest.{Attempt, Todo}
use Rattle.jvm_model.specs.Running.Run.{turn}
use Rattle.jvm_model.specs.Rewriting.StandsForRun.{versions_forgotten, norm_by}
use Rattle.jvm_model.specs.Turns.StepPauses.{Awaits, is_at_return}
use Rattle.jvm_model.specs.Turns.Told.{frame_held, helds}
use Rattle.interpreter.specs.declared.turns.hands.Gone.{Gone}
use Rattle.interpreter.specs.declared.turns.hands.Hand.{Hand}
use Rattle.interpreter.specs.Moves.Hands.{HasInHand, IsLeft, todo_of, versioned_in}
use Rattle.prepared_code.specs.Ready.{IsSoundEntryIn, IsSoundIn}
use Rattle.prepared_code.specs.Standing.{places_of}
use Rattle.prepared_code.specs.Versions.{Setup, mark_of, method_of}
use Rattle.jvm_machine.specs.declared.advancing.Telling.TheVariants as telling
use Rattle.jvm_machine.specs.Advances.{left_in}
use Rattle.jvm_machine.specs.Machine.{IsMachine, IsSoundOnce, state_seen}
use Rattle.jvm_machine.specs.Probes.{IfLeaves, IsReturn, HasReturn}
use Rattle.jvm_machine.specs.View.{is_resting}

told-busy : (b : Bool) → (b && not true) ≡ false
told-busy true = refl
told-busy false = refl

module _ (w : Setup) (hand : Hand) (clock : ℕ) (s : State) (is : IsMachine w hand (state_seen w s true false clock hand) s) (delivered : hand.delivered ≡ true)
    (todo : todo_of hand.moves ≡ Attempt) where
  busy : is_resting (state_seen w s true false clock hand) ≡ false
  busy = ap (λ b. hand.passed == 0 && not b) delivered ∙ told-busy (hand.passed == 0)

  in_hand : HasInHand w is.homes (turn w.world clock) hand (helds (mark_of w.versions) s.stack) s
  in_hand = (is.whole refl).in_hand busy

  sound : IsSoundIn w s
  sound = by ((is.whole refl).sound busy) where
    by : IsSoundOnce w hand s → IsSoundIn w s
    by (inl there) = there
    by (inr starting) = absurd (let e : true ≡ false = sym delivered ∙ starting.undelivered in cc)

  abbrev stack_in : List Entry → List Entry
  stack_in stack = moved_stack (at_homes is.homes) stack

  stack-is : s.stack ≡ stack_in in_hand.between.stack
  stack-is = ap (λ (z : State). z.stack) in_hand.versioned

  same-frame : (f g : Frame) (a b : List Entry) → Active f ∷ a ≡ Active g ∷ b → f ≡ g
  same-frame f g a b e = same-active (Active f) (Active g) (ap (λ (l : List Entry). first l (Active f)) e) where
    first : List Entry → Entry → Entry
    first [] other = other
    first (x ∷ xs) other = x

    frame_or : Frame → Entry → Frame
    frame_or other (Active h) = h
    frame_or other (Initializing class part) = other

    same-active : (x y : Entry) → x ≡ y → frame_or f x ≡ frame_or f y
    same-active x y same = ap (frame_or f) same

  by : (ending : Option Ending) (stack : List Entry) → in_hand.between.stack ≡ stack
      → is_at_return (original w.world.program) ending (moved_stack (versions_forgotten (method_of w.versions)) stack) ≡ true → HasReturn (state_seen w s true false clock hand)
  by None [] e back = absurd (let h : false ≡ true = back in cc)
  by None (Initializing class part ∷ below) e back = absurd (let h : false ≡ true = back in cc)
  by (Some ended) stack e back = absurd (let h : false ≡ true = back in cc)
  by None (Active f ∷ below) e back =
      let there : s.stack ≡ stack_in (Active f ∷ below) = stack-is ∙ ap stack_in e in
      let runs = (subst (λ z. IsSoundStack z) there sound.stack).0.1.0 in
      let placed = same-frame _ f _ below (ap (moved_stack (at_homes (norm_by (method_of w.versions) (places_of w.world.program)))) (sym e) ∙ (in_hand.placed ∙ e)) in
      record {
        current = frame_held (mark_of w.versions) f;
        others = helds (mark_of w.versions) (stack_in below);
        live = ap (helds (mark_of w.versions)) there;
        at = f.place;
        returns = subst (λ m. IsReturn w.world.program m f.place) runs (record {
          place = ap (λ (g : Frame). g.place) placed;
          returns = back;
        });
      }
    where
      IsSoundStack : List Entry → Type 0
      IsSoundStack z = AllByRecursion (IsSoundEntryIn w s.shared.loaded) z

  pub has-return : HasReturn (state_seen w s true false clock hand)
  has-return =
      let there : State = original_of (versioned_in w is.homes) in_hand.between in
      let awaits : Awaits w.world (original w.world.program) Attempt there = subst (λ (t : Todo). Awaits w.world (original w.world.program) t there) todo (in_hand.awaits delivered) in
      by in_hand.between.ending in_hand.between.stack refl awaits

-- ---- what a call has come to

pub some-left : (o : Option Gone) (gone : Gone) → o ≡ Some gone → IfSome o (λ g. IsLeft g) → IsLeft gone
some-left o gone is left = subst (λ x. IfSome x (λ g. IsLeft g)) is left

pub leaves-by : (w : Setup) (hand : Hand) (clock : ℕ) (s : State) (gone : Gone) → hand ≡ left_in gone → IsLeft gone
    → IsMachine w hand (state_seen w s true false clock hand) s → IfLeaves (telling.Due gone.due) (state_seen w s true false clock hand)
leaves-by w hand clock s gone handed left is = by gone.due refl where
  by : (due : Due) → gone.due ≡ due → IfLeaves (telling.Due due) (state_seen w s true false clock hand)
  by Nothing e = tt
  by Begins e = tt
  by (Ends kind.Root) e = tt
  by (Ends kind.Enter) e = tt
  by (Ends kind.Unwind) e = tt
  by (Ends kind.Leave) e =
      has-return w hand clock s is (ap (λ (h : Hand). h.delivered) handed ∙ (left.delivered ∙ ap is_end e))
      (ap (λ (h : Hand). todo_of h.moves) handed ∙ (left.moves ∙ ap later_of e))
