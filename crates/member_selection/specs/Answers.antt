-- What an instruction comes to, by the outcome of its rule, and what becomes of the current frame (JVM Specification
-- 2.6, 4.9.2, 6.5).
use Rattle.std.specs.Prelude.{ℕ, false, List, Result, Ok, Err, ◌==◌, if◌then◌else◌, Bool}
use Rattle.base_classes.specs.declared.places.TheConstants.{CLASS_CIRCULARITY_ERROR, NO_CLASS_DEF_FOUND_ERROR, NO_SUCH_FIELD_ERROR, NO_SUCH_METHOD_ERROR}
use Rattle.frame_stack.specs.FrameLists.{PlacedFrame, FramesView, top_operands}
use Rattle.jvm_basic.specs.Outcomes.{can_hold, top_locals, with_top}
use Rattle.jvm_model.specs.declared.state.Shared.{Shared}
use Rattle.jvm_model.specs.Basis.Data.{Locals, Operands, Next, Outcome, GoesOn, Raises, Throws, Initializes, Exits, Breaks, Done}
use Rattle.jvm_model.specs.Classes.Lookup.{MemberPlace}
use Rattle.member_selection.specs.declared.declared_member.DeclaredMember.{DeclaredMember}
use Rattle.member_selection.specs.Members.{at_place}
use Rattle.jvm_model.specs.declared.exception.Exception.{Exception}
use Rattle.jvm_model.specs.declared.exception.Exception.TheVariants as exception
use Rattle.jvm_model.specs.Instructions.Exceptions.{exception_name}
use Rattle.member_selection.specs.declared.outcome.AbruptCompletion.{AbruptCompletion}
use Rattle.member_selection.specs.declared.outcome.AbruptCompletion.TheVariants as abrupt

-- ---- what completes abruptly

-- that of the built-in class at this place, where it is the error of a load or of a resolution
abbrev pub exception_numbered : ℕ → Exception
exception_numbered number =
    if number == NO_CLASS_DEF_FOUND_ERROR then exception.NoClassDefinition else
    if number == CLASS_CIRCULARITY_ERROR then exception.ClassCircularity else
    if number == NO_SUCH_FIELD_ERROR then exception.NoSuchField else
    if number == NO_SUCH_METHOD_ERROR then exception.NoSuchMethod else exception.IncompatibleClassChange

abbrev pub abrupt_view : AbruptCompletion → Outcome
abrupt_view (abrupt.Raises e message) = Raises (exception_name e) message
abrupt_view (abrupt.Throws object) = Throws object
abrupt_view (abrupt.Initializes class) = Initializes class
abrupt_view (abrupt.Exits status) = Exits status
abrupt_view abrupt.Breaks = Breaks false

-- what a step finds, or what it asks for where it completes abruptly
abbrev pub found_view : {A : Type 0} → Result A AbruptCompletion → Result A Outcome
found_view (Ok x) = Ok x
found_view (Err e) = Err (abrupt_view e)

abbrev pub place_found : Result DeclaredMember AbruptCompletion → Result MemberPlace Outcome
place_found (Ok m) = Ok (at_place m)
place_found (Err e) = Err (abrupt_view e)

-- ---- a frame that goes on, or not

-- to the next place, with operands within its limit
abbrev pub goes_on : Outcome → List PlacedFrame → Bool
goes_on (GoesOn l o Next) fs = can_hold o fs
goes_on q fs = false

-- Unless it goes on the frame is as it was.
abbrev pub frames_after : Outcome → ℕ → List PlacedFrame → List PlacedFrame
frames_after (GoesOn l o Next) next fs = if can_hold o fs then with_top l o next fs else fs
frames_after q next fs = fs

-- ---- a rule sees the locals and operands of the current frame

abbrev pub Asking : Type 0
Asking = Locals → Operands → Outcome

abbrev pub asking_in_frame : Asking → FramesView → Outcome
asking_in_frame asks f = asks (top_locals f.frames) (top_operands f.frames)

-- a rule that may change what is shared
abbrev pub Rule : Type 0
Rule = Locals → Operands → Done

abbrev pub done_on : Rule → FramesView → Done
done_on rule f = rule (top_locals f.frames) (top_operands f.frames)

abbrev pub shared_by : Rule → FramesView → Shared
shared_by rule f = (done_on rule f).shared

abbrev pub wrote_by : Rule → FramesView → List ℕ
wrote_by rule f = (done_on rule f).wrote
