-- Worked runs over lists of instructions: where code breaks what a verifier would have asked of it (JVM Specification
-- 4.9, 4.10).
use Rattle.std.specs.Prelude.{◌≡◌, List, [], ◌∷◌, Some, None, pos, refl, codes}
use Rattle.heap_objects.specs.declared.datum.Datum.TheVariants as datum
use Rattle.heap_objects.specs.declared.Value.TheVariants.{Int, Long, Ref, Addr}
use Rattle.jvm_model.specs.Basis.Data.{Local, Operation, Nop, Constant, Within, Athrow, Unverifiable, Loads, Left, Unwound}
use Rattle.jvm_model.specs.declared.family.StackInstruction.TheVariants.{Pop, DupX1, Dup2X2}
use Rattle.jvm_model.specs.Running.Run.{turn_in}
use Rattle.jvm_model.specs.Profiling.Activations.{trace_in}
use Rattle.jvm_model.specs.Basis.Values.{managed_stack}
use Rattle.jvm_model.specs.Basis.StackForms.{forms_of}
use Rattle.jvm_model.proofs.Worked.WorkedPrograms.{Routine, Sketches, after, changes_of, trace_by, member, main_member, routine, main_routine, alone, at, int, null, ireturn, returns, call}

-- one class, whose main comes first
abbrev pub main_with : Routine → List Routine → Sketches
main_with main others = record { classes = alone (codes "D") (main ∷ others) ∷ []; main = 0 }

-- ---- the depth of operands, in which a long counts twice

-- at the offset of the instruction that makes them too deep
abbrev pub constants : Sketches
constants = main_with (main_routine 3 (at 0 1 (int 1) ∷ at 1 1 (int 2) ∷ at 2 1 (int 3) ∷ at 3 1 (int 4) ∷ [])) []

pub constants-go_on : (after constants 3).ending ≡ None
unfolding turn_in
constants-go_on = refl

pub constants-end : (after constants 4).ending ≡ Some (Unverifiable 0 3)
unfolding turn_in
constants-end = refl

abbrev pub long_constant : Operation Local
long_constant = Within (Constant (datum.Long (pos 1)))

pub longs-end : (after (main_with (main_routine 3 (at 0 1 long_constant ∷ at 1 1 long_constant ∷ [])) []) 2).ending ≡ Some (Unverifiable 0 1)
unfolding turn_in
longs-end = refl

-- by a result: at the caller's invoke instruction, against the caller's limit, and the callee has ended
abbrev pub result : Sketches
result = main_with (main_routine 3 (at 0 1 (int 1) ∷ at 1 1 (int 2) ∷ at 2 1 (int 3) ∷ at 3 3 (call (codes "D") (codes "f") (codes "()I")) ∷ at 6 1 returns ∷ []))
    (routine (member (codes "f") (codes "()I")) 4 0 (at 0 1 (int 7) ∷ at 1 1 ireturn ∷ []) ∷ [])

pub result-goes_on : (after result 5).ending ≡ None
unfolding turn_in
result-goes_on = refl

pub result-ends : (after result 6).ending ≡ Some (Unverifiable 0 3)
unfolding turn_in
result-ends = refl

pub result-trace : trace_by result 6 ≡ record {
  activations = record { method = 0; parent = None; begin = 0; «end» = None } ∷ record { method = 1; parent = Some 0; begin = 4; «end» = Some 6 } ∷ [];
  live = 0 ∷ [];
}
unfolding trace_in turn_in
result-trace = refl

-- by the object that is caught: at the invoke instruction that threw it
abbrev pub no_room : Sketches
no_room = main_with (record (main_routine 0 (at 0 3 (call (codes "D") (codes "f") (codes "()V")) ∷ at 3 1 returns ∷ at 4 1 returns ∷ [])) {
  handlers = record { start = 0; finish = 3; target = 4; catches = None } ∷ [];
}) (routine (member (codes "f") (codes "()V")) 1 0 (at 0 1 null ∷ at 1 1 Athrow ∷ []) ∷ [])

pub no_room-ends : (after no_room 3).ending ≡ Some (Unverifiable 0 0)
unfolding turn_in
no_room-ends = refl

pub no_room-changes : changes_of no_room 3 ≡ Unwound ∷ []
unfolding turn_in
no_room-changes = refl

-- ---- a return without its value: at the return, and its activation has ended

abbrev pub valueless : Sketches
valueless = main_with (main_routine 1 (at 0 3 (call (codes "D") (codes "f") (codes "()I")) ∷ at 3 1 returns ∷ []))
    (routine (member (codes "f") (codes "()I")) 1 0 (at 0 1 (Within Nop) ∷ at 1 1 ireturn ∷ []) ∷ [])

pub valueless-ends : (after valueless 3).ending ≡ Some (Unverifiable 1 1)
unfolding turn_in
valueless-ends = refl

pub valueless-changes : changes_of valueless 3 ≡ Left ∷ []
unfolding turn_in
valueless-changes = refl

-- ---- arguments that do not fit into the locals

-- main's: in the start, and it has not begun
abbrev pub no_local : Sketches
no_local = main_with (routine main_member 0 0 (at 0 1 returns ∷ [])) []

pub no_local-ends : (after no_local 0).ending ≡ Some (Unverifiable 0 0)
unfolding turn_in
no_local-ends = refl

pub no_local-changes : changes_of no_local 0 ≡ Loads (0 ∷ []) ∷ []
unfolding turn_in
no_local-changes = refl

-- a callee's: at the invoke instruction
abbrev pub no_local_there : Sketches
no_local_there = main_with (main_routine 1 (at 0 1 (int 1) ∷ at 1 3 (call (codes "D") (codes "f") (codes "(I)V")) ∷ at 4 1 returns ∷ []))
    (routine (member (codes "f") (codes "(I)V")) 1 0 (at 0 1 returns ∷ []) ∷ [])

pub no_local_there-ends : (after no_local_there 2).ending ≡ Some (Unverifiable 0 1)
unfolding turn_in
no_local_there-ends = refl

pub no_local_there-changes : changes_of no_local_there 2 ≡ []
unfolding turn_in
no_local_there-changes = refl

-- ---- stack instructions, by which of the topmost operands are long

pub dup_x1-puts : managed_stack (forms_of DupX1) (Int (pos 1) ∷ Ref 2 ∷ Int (pos 3) ∷ []) ≡ Some (Int (pos 1) ∷ Ref 2 ∷ Int (pos 1) ∷ Int (pos 3) ∷ [])
dup_x1-puts = refl

pub dup2_x2-puts : managed_stack (forms_of Dup2X2) (Long (pos 1) ∷ Int (pos 2) ∷ Addr 3 ∷ []) ≡ Some (Long (pos 1) ∷ Int (pos 2) ∷ Addr 3 ∷ Long (pos 1) ∷ [])
dup2_x2-puts = refl

pub pop-refuses : managed_stack (forms_of Pop) (Long (pos 1) ∷ []) ≡ None
pop-refuses = refl
