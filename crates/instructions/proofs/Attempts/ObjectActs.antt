-- What an instruction asks for that sees objects: no method is invoked by it, and no class is initialized before. What
-- applies by it is what the line does.
use Rattle.std.proofs.Common.{◌≡◌, ℕ, Bool, true, false, cond, List, [], ◌∷◌, Option, Some, None, refl, sym, ap, subst, ◌∙◌}
use Rattle.std.specs.Prelude.{nat_le, ℤ, pos, negsuc, ◌+◌, ◌==◌}
use Rattle.std.proofs.lemmas.Bool.{false≢true}
use Rattle.heap_objects.specs.declared.Value.{Value}
use Rattle.frame_stack.specs.FrameLists.{PlacedFrame, top_operands}
use Rattle.jvm_basic.specs.Outcomes.{top_locals}
use Rattle.const_pool.specs.declared.descriptor.Kind.{Kind}
use Rattle.jvm_model.specs.declared.program.Program.{Program}
use Rattle.jvm_model.specs.declared.state.Frame.{Frame}
use Rattle.jvm_model.specs.declared.state.Shared.{Shared}
use Rattle.jvm_model.specs.declared.state.State.{State}
use Rattle.jvm_model.specs.declared.instruction.Operation.{Operation}
use Rattle.jvm_model.specs.declared.instruction.Operation.TheVariants as operation
use Rattle.jvm_model.specs.Basis.Data.{Locals, Operands, Outcome, GoesOn, Subroutine, Invokes, Returns, Throws, Raises, Initializes, Exits, Breaks, Done, World}
use Rattle.jvm_model.specs.Basis.SharedState.{class_of, throwable}
use Rattle.jvm_model.specs.Basis.Values.{int_of, ref_of}
use Rattle.jvm_model.specs.Classes.Lookup.{is_below}
use Rattle.jvm_model.specs.Instructions.ConstantRules.{pushes_string}
use Rattle.jvm_model.specs.Instructions.LocalRules.{replaces}
use Rattle.jvm_model.specs.Instructions.ObjectRules.{Access, ToNull, ToAnother, Outside, Inside, Storing, access_to, fits_array, loads_at, loads_element, makes, measures, array_element_of, stores_at, stores_element, storing_of, throws, watches}
use Rattle.jvm_model.specs.Running.Constants.{can_intern}
use Rattle.jvm_model.specs.Running.Run.{starts}
use Rattle.symbolic_references.specs.Runtimes.{RuntimeView, with_shared}
use Rattle.prepared_lines.specs.declared.line.LocalAction.{LocalAction}
use Rattle.prepared_lines.specs.declared.line.Line.{Line}
use Rattle.prepared_code.specs.declared.parts.Parts.{Parts}
use Rattle.prepared_code.specs.Originals.{OriginalsView, setup_in}
use Rattle.prepared_code.specs.States.{frame_in, state_in, state_with}
use Rattle.prepared_code.specs.Versions.{Setup}
use Rattle.activations.specs.Applied.{IsTop, acts_asked, on_parts, on_top}
use Rattle.instructions.specs.Acts.{acts, acts_by, acts_done, is_named, sees_objects}
use Rattle.activations.specs.TakenArguments.{TakesArguments}
use Rattle.instructions.proofs.Attempts.NamedLaws.{is_plain}

-- ---- neither of the two

if-plain : (b : Bool) (x y : Outcome) → is_plain x ≡ true → is_plain y ≡ true → is_plain (cond b x y) ≡ true
if-plain true x y one other = one
if-plain false x y one other = other

if-done : (b : Bool) (x y : Done) → is_plain x.outcome ≡ true → is_plain y.outcome ≡ true → is_plain (cond b x y).outcome ≡ true
if-done true x y one other = one
if-done false x y one other = other

replaced : (taken : ℕ) (v : Option Value) (l : Locals) (o : Operands) → is_plain (replaces taken v l o) ≡ true
replaced taken None l o = refl
replaced taken (Some v) l o = refl

thrown : (w : World) (s : Shared) (x : Option ℕ) → is_plain (throws w s x) ≡ true
thrown w s None = refl
thrown w s (Some r) = if-plain (r == 0) _ _ refl (if-plain (is_below w.program (class_of w.program s r) throwable) _ _ refl refl)

watched : (x : Option ℕ) (l : Locals) (o : Operands) → is_plain (watches x l o) ≡ true
watched None l o = refl
watched (Some r) l o = if-plain (r == 0) _ _ refl refl

measured : (x : Option ℕ) (s : Shared) (l : Locals) (o : Operands) → is_plain (measures x s l o) ≡ true
measured None s l o = refl
measured (Some r) s l o = if-plain (r == 0) _ _ refl (replaced 1 _ l o)

loaded : (k : Kind) (x : Option (ℕ × ℤ)) (s : Shared) (l : Locals) (o : Operands) → is_plain (loads_element k x s l o) ≡ true
loaded k None s l o = refl
loaded k (Some at) s l o = by (access_to k at.0 at.1 s.heap) where
  by : (access : Access) → is_plain (loads_at access at.0 at.1 s l o) ≡ true
  by ToNull = refl
  by ToAnother = refl
  by Outside = refl
  by (Inside slot) = replaced 2 _ l o

made : (k : ℕ) (x : Option ℤ) (s : Shared) (l : Locals) (o : Operands) → is_plain (makes k x s l o).outcome ≡ true
made k None s l o = refl
made k (Some (negsuc n)) s l o = refl
made k (Some (pos count)) s l o = if-done (nat_le (s.heap.used + (1 + count)) s.heap.limit) _ _ refl refl

stored : (p : Program) (k : Kind) (x : Option Storing) (s : Shared) (l : Locals) (o : Operands) → is_plain (stores_element p k x s l o).outcome ≡ true
stored p k None s l o = refl
stored p k (Some x) s l o = by (access_to k x.array x.index s.heap) where
  by : (access : Access) → is_plain (stores_at p access x.array x.index x.datum s l o).outcome ≡ true
  by ToNull = refl
  by ToAnother = refl
  by Outside = refl
  by (Inside slot) = if-done (fits_array p x.datum x.array s.heap) _ _ refl refl

pushed : (p : Program) (units : List ℕ) (s : Shared) (l : Locals) (o : Operands) → is_plain (pushes_string p units s l o).outcome ≡ true
pushed p units s l o = if-done (can_intern units s.heap) _ _ refl refl

pub objects-plain : (w : World) (a : Operation LocalAction) (s : Shared) (l : Locals) (o : Operands) → is_plain (sees_objects w a s l o).outcome ≡ true
objects-plain w operation.Athrow s l o = thrown w s (ref_of o)
objects-plain w operation.Monitor s l o = watched (ref_of o) l o
objects-plain w operation.Arraylength s l o = measured (ref_of o) s l o
objects-plain w (operation.Newarray kind) s l o = made kind (int_of o) s l o
objects-plain w (operation.LoadElement k) s l o = loaded k (array_element_of o) s l o
objects-plain w (operation.StoreElement k) s l o = stored w.program k (storing_of k o) s l o
objects-plain w (operation.LdcString units) s l o = pushed w.program units s l o
objects-plain w (operation.Within i) s l o = refl
objects-plain w (operation.Named n) s l o = refl

pub plain-starts : (q : Outcome) → is_plain q ≡ true → starts q ≡ None
plain-starts (Initializes c) plain = absurd (false≢true plain)
plain-starts (Invokes m args below) plain = refl
plain-starts (GoesOn l o to) plain = refl
plain-starts Subroutine plain = refl
plain-starts (Returns d) plain = refl
plain-starts (Throws r) plain = refl
plain-starts (Raises name message) plain = refl
plain-starts (Exits n) plain = refl
plain-starts (Breaks b) plain = refl

pub plain-takes : (q : Outcome) (o : Operands) → is_plain q ≡ true → TakesArguments q o
plain-takes (Invokes m args below) o plain = absurd (false≢true plain)
plain-takes (Initializes c) o plain = tt
plain-takes (GoesOn l q to) o plain = tt
plain-takes Subroutine o plain = tt
plain-takes (Returns d) o plain = tt
plain-takes (Throws r) o plain = tt
plain-takes (Raises name message) o plain = tt
plain-takes (Exits n) o plain = tt
plain-takes (Breaks b) o plain = tt

-- ---- what the line does

-- it sees objects
abbrev pub sees : Operation LocalAction → Bool
sees (operation.Within i) = false
sees (operation.Named n) = false
sees _ = true

pub acts-seeing : (w : Setup) (line : Line) (s : State) (f : Frame) (a : Operation LocalAction) → sees a ≡ true
    → acts_done w line s f (sees_objects w.world a s.shared f.locals f.operands) ≡ acts_by w line s f a
acts-seeing w line s f operation.Athrow is = refl
acts-seeing w line s f operation.Monitor is = refl
acts-seeing w line s f operation.Arraylength is = refl
acts-seeing w line s f (operation.Newarray kind) is = refl
acts-seeing w line s f (operation.LoadElement k) is = refl
acts-seeing w line s f (operation.StoreElement k) is = refl
acts-seeing w line s f (operation.LdcString units) is = refl
acts-seeing w line s f (operation.Within i) is = absurd (false≢true is)
acts-seeing w line s f (operation.Named n) is = absurd (false≢true is)

-- a line that is none of the others does
pub seeing : (a : Operation LocalAction) → is_named a ≡ false → ((i : LocalAction) → a ≡ operation.Within i → ⊥) → sees a ≡ true
seeing operation.Athrow unnamed within = refl
seeing operation.Monitor unnamed within = refl
seeing operation.Arraylength unnamed within = refl
seeing (operation.Newarray kind) unnamed within = refl
seeing (operation.LoadElement k) unnamed within = refl
seeing (operation.StoreElement k) unnamed within = refl
seeing (operation.LdcString units) unnamed within = refl
seeing (operation.Within i) unnamed within = absurd (within i refl)
seeing (operation.Named n) unnamed within = absurd (false≢true (sym unnamed))

-- what is done by what the code asks for, over what is left
module _ (o : OriginalsView) (line : Line) (method : ℕ) (p : Parts) where
  abbrev w : Setup
  w = setup_in p.runtime o

  abbrev asks : List PlacedFrame → Done
  asks all = sees_objects p.runtime.world line.operation p.runtime.shared (top_locals all) (top_operands all)

  abbrev acted : Setup → RuntimeView → Outcome → List PlacedFrame → State
  acted v left q all = on_top (λ s f. acts_asked v line s f q) (record p { runtime = left }) all

  seen-acts : sees line.operation ≡ true → (all : List PlacedFrame) → IsTop method all
      → acted w (with_shared (asks all).shared p.runtime) (asks all).outcome all ≡ on_top (acts w line) p all
  seen-acts is [] top = absurd top
  seen-acts is (f ∷ fs) top = acts-seeing w line (state_with fs p) (frame_in f) line.operation is

  pub object-acts : (left : RuntimeView) (q : Outcome) (new : Parts) → sees line.operation ≡ true → IsTop method p.frames.frames
      → q ≡ (asks p.frames.frames).outcome → left ≡ with_shared (asks p.frames.frames).shared p.runtime
      → state_in new ≡ acted (setup_in left o) left q p.frames.frames → state_in new ≡ on_parts (acts w line) p
  object-acts left q new is top asks_so leaves made =
      made
      ∙ (ap (λ (r : RuntimeView). acted (setup_in r o) r q p.frames.frames) leaves
      ∙ (ap (λ (x : Outcome). acted w (with_shared (asks p.frames.frames).shared p.runtime) x p.frames.frames) asks_so
      ∙ seen-acts is p.frames.frames top))

  -- it starts nothing, and invokes nothing
  pub object-starts : (q : Outcome) → q ≡ (asks p.frames.frames).outcome → starts q ≡ None
  object-starts q is =
      ap starts is ∙ plain-starts (asks p.frames.frames).outcome (objects-plain p.runtime.world line.operation p.runtime.shared (top_locals p.frames.frames) (top_operands p.frames.frames))

  pub object-takes : (q : Outcome) → q ≡ (asks p.frames.frames).outcome → TakesArguments q (top_operands p.frames.frames)
  object-takes q is =
      subst (λ (x : Outcome). TakesArguments x (top_operands p.frames.frames)) (sym is)
      (plain-takes (asks p.frames.frames).outcome (top_operands p.frames.frames)
      (objects-plain p.runtime.world line.operation p.runtime.shared (top_locals p.frames.frames) (top_operands p.frames.frames)))
