-- What is loaded behind a line: what was loaded, and what the line names.
use Rattle.std.proofs.Common.{◌≡◌, ℕ, suc, ◌+◌, Bool, true, false, cond, List, [], ◌∷◌, ◌++◌, Option, Some, None, nat_le, nat_lt, refl, sym, ◌∙◌}
use Rattle.std.specs.Prelude.{slice_get, ℤ, pos, negsuc}
use Rattle.std.specs.Option.{option_map}
use Rattle.std.proofs.lemmas.Bool.{false≢true}
use Rattle.heap_objects.specs.declared.datum.Datum.{Datum}
use Rattle.heap_objects.specs.declared.Value.TheVariants.{Addr}
use Rattle.const_pool.specs.declared.descriptor.Kind.{Kind}
use Rattle.frame_stack.specs.Widths.{height_of}
use Rattle.jvm_model.specs.declared.state.Entry.{Entry}
use Rattle.jvm_model.specs.declared.state.Entry.TheVariants.{Active, Initializing}
use Rattle.jvm_model.specs.declared.state.Frame.{Frame}
use Rattle.jvm_model.specs.declared.state.State.{State}
use Rattle.jvm_model.specs.Running.Applies.{applies, breaks, enters_subroutine, gives_back, goes, has_room, invocation_turn, live_in, most_live, place_of, resumes, begins, still, throws_at}
use Rattle.jvm_model.specs.Instructions.ConstantRules.{pushes_string}
use Rattle.jvm_model.specs.Running.Constants.{can_intern}
use Rattle.jvm_model.specs.Basis.Data.{Locals, Operands, Listing, Instruction, Outcome, GoesOn, Subroutine, Invokes, Returns, Throws, Raises, Initializes, Exits, Breaks, Done}
use Rattle.jvm_model.specs.declared.instruction.SymbolicReference.{SymbolicReference}
use Rattle.jvm_model.specs.declared.instruction.Operation.{Operation}
use Rattle.jvm_model.specs.declared.instruction.Operation.TheVariants as operation
use Rattle.jvm_model.specs.Instructions.LocalRules.{arithmetic_exception, by_zero, returns}
use Rattle.jvm_model.specs.Instructions.SymbolicReference.{newly_loaded}
use Rattle.jvm_model.specs.Instructions.ObjectRules.{Access, ToNull, ToAnother, Outside, Inside, Storing, access_to, fits_array, loads_element, makes, measures, array_element_of as element_of, stores_at, stores_element, storing_of, throws, watches}
use Rattle.jvm_model.specs.Basis.SharedState.{null, exception_raised, stack_overflow}
use Rattle.jvm_model.specs.Basis.Values.{as_value, int_of, ref_of, with_value}
use Rattle.jvm_basic.specs.Outcomes.{Outcome as Comes, GoesOn as Goes, Raises as Divides, Breaks as Fails, Leaves}
use Rattle.jvm_basic.specs.Rules.{rule_of}
use Rattle.prepared_lines.specs.declared.line.LocalAction.{LocalAction}
use Rattle.prepared_lines.specs.declared.line.LocalAction.TheVariants as local_action
use Rattle.prepared_lines.specs.declared.line.Line.{Line}
use Rattle.instructions.specs.Acts.{acts_by, acts_named, attempts_line, comes_to, is_named, named_done, ready_for, with_done}
use Rattle.activations.specs.Applied.{gives_back_line, placed_line, resumes_line, returns_or_ends}
use Rattle.jvm_model.proofs.Loading.LoadedMoves.{made-loaded}
use Rattle.instructions.proofs.Attempts.NamedLaws.{is-named}
use Rattle.prepared_code.specs.Versions.{Setup, listing_of, line_at, next_in}

-- what is loaded stays
abbrev pub Keeps : State → State → Type 0
Keeps s x = x.shared.loaded ≡ s.shared.loaded

module _ (s : State) (f : Frame) where
  goes-keeps : (own : ℕ) (l : Locals) (o : Operands) (place : Option ℕ) → Keeps s (goes s f own l o place)
  goes-keeps own l o None = refl
  goes-keeps own l o (Some place) = by (nat_le (height_of o) f.max_stack) where
    by : (b : Bool) → Keeps s (cond b (record s { stack = Active (record f { place = place; locals = l; operands = o }) ∷ s.stack }) (breaks s f own))
    by true = refl
    by false = refl

  enters-keeps : (i : Instruction) (next : Option ℕ) → Keeps s (enters_subroutine s f i next)
  enters-keeps i None = refl
  enters-keeps i (Some next) = goes-keeps i.own f.locals (Addr next ∷ f.operands) (slice_get i.targets 0)

  invokes-keeps : (w : Setup) (t : Listing) (i : Instruction) (m : ℕ) (args : List Datum) (below : Operands) → Keeps s (invocation_turn w.world t i s f m args below).after
  invokes-keeps w t i m args below = by (has_room w.world m args) (nat_lt (suc (live_in s.stack)) most_live) where
    by : (room few : Bool)
        → Keeps s (cond room (cond few (begins w.world t s f m args below) (still (throws_at s f (exception_raised w.world s.shared stack_overflow None)))) (still (breaks s f i.own))).after
    by true true = refl
    by true false = made-loaded w.world s.shared stack_overflow None null
    by false few = refl

resumes-keeps : (s : State) (caller : Frame) (d : Option Datum) (found : Option Instruction) → Keeps s (resumes s caller d found)
resumes-keeps s caller d None = refl
resumes-keeps s caller d (Some i) = goes-keeps s caller i.own caller.locals (with_value (option_map as_value d) caller.operands) i.next

back-keeps : (t : Listing) (s : State) (d : Option Datum) (es : List Entry) → Keeps s (gives_back t s d es)
back-keeps t s d [] = refl
back-keeps t s d (Initializing c part ∷ below) = refl
back-keeps t s d (Active caller ∷ below) = resumes-keeps (record s { stack = below }) caller d (t.at caller.version caller.place)

-- whatever is asked for
pub applies-loaded : (w : Setup) (t : Listing) (i : Instruction) (q : Outcome) (s : State) (f : Frame) → Keeps s (applies w.world t i q s f).after
applies-loaded w t i (GoesOn l o to) s f = goes-keeps s f i.own l o (place_of i to)
applies-loaded w t i Subroutine s f = enters-keeps s f i i.next
applies-loaded w t i (Invokes m args below) s f = invokes-keeps s f w t i m args below
applies-loaded w t i (Returns d) s f = back-keeps t s d s.stack
applies-loaded w t i (Throws r) s f = refl
applies-loaded w t i (Raises name message) s f = made-loaded w.world s.shared name message null
applies-loaded w t i (Initializes c) s f = refl
applies-loaded w t i (Exits n) s f = refl
applies-loaded w t i (Breaks true) s f = refl
applies-loaded w t i (Breaks false) s f = refl

-- ---- lines that name nothing

module _ (w : Setup) (line : Line) (s : State) (f : Frame) where
  comes-keeps : (x : Comes) → Keeps s (comes_to w line s f x)
  comes-keeps (Goes l o place) = goes-keeps s f line.instr.at l o (Some place)
  comes-keeps (Divides class) = made-loaded w.world s.shared arithmetic_exception (Some by_zero) null
  comes-keeps Fails = refl
  comes-keeps Leaves = refl

  line-keeps : (x : State) (caller : Frame) (d : Option Datum) (lo : Option Line) → Keeps x (resumes_line x caller d lo)
  line-keeps x caller d None = refl
  line-keeps x caller d (Some l) = goes-keeps x caller l.instr.at caller.locals (with_value (option_map as_value d) caller.operands) (next_in l)

  gives-keeps : (d : Option Datum) (es : List Entry) → Keeps s (gives_back_line w.versions s d es)
  gives-keeps d [] = refl
  gives-keeps d (Initializing c part ∷ below) = refl
  gives-keeps d (Active caller ∷ below) = line-keeps (record s { stack = below }) caller d (line_at w.versions caller.version caller.place)

  returns-keep : (q : Outcome) → Keeps s (returns_or_ends w line s f q)
  returns-keep (Returns d) = gives-keeps d s.stack
  returns-keep (GoesOn l o to) = refl
  returns-keep Subroutine = refl
  returns-keep (Invokes m args below) = refl
  returns-keep (Throws r) = refl
  returns-keep (Raises name message) = refl
  returns-keep (Initializes c) = refl
  returns-keep (Exits n) = refl
  returns-keep (Breaks b) = refl

  asked-keeps : (x : State) (q : Outcome) → Keeps x (applies w.world (listing_of w.versions) (placed_line line) q x f).after
  asked-keeps x q = applies-loaded w (listing_of w.versions) (placed_line line) q x f

  chosen-keeps : (b : Bool) (x y : Done) → x.shared.loaded ≡ s.shared.loaded → y.shared.loaded ≡ s.shared.loaded → (cond b x y).shared.loaded ≡ s.shared.loaded
  chosen-keeps true x y hx hy = hx
  chosen-keeps false x y hx hy = hy

  makes-keep : (kind : ℕ) (count : Option ℤ) → (makes kind count s.shared f.locals f.operands).shared.loaded ≡ s.shared.loaded
  makes-keep kind None = refl
  makes-keep kind (Some (negsuc n)) = refl
  makes-keep kind (Some (pos count)) = chosen-keeps (nat_le (s.shared.heap.used + (1 + count)) s.shared.heap.limit) _ _ refl refl

  stores-keep : (k : Kind) (x : Option Storing) → (stores_element w.world.program k x s.shared f.locals f.operands).shared.loaded ≡ s.shared.loaded
  stores-keep k None = refl
  stores-keep k (Some x) = by (access_to k x.array x.index s.shared.heap) where
    by : (access : Access) → (stores_at w.world.program access x.array x.index x.datum s.shared f.locals f.operands).shared.loaded ≡ s.shared.loaded
    by ToNull = refl
    by ToAnother = refl
    by Outside = refl
    by (Inside slot) = chosen-keeps (fits_array w.world.program x.datum x.array s.shared.heap) _ _ refl refl

  string-keeps : (units : List ℕ) → (pushes_string w.world.program units s.shared f.locals f.operands).shared.loaded ≡ s.shared.loaded
  string-keeps units = chosen-keeps (can_intern units s.shared.heap) _ _ refl refl

  acts-keep : (a : Operation LocalAction) → is_named a ≡ false → Keeps s (acts_by w line s f a)
  acts-keep (operation.Named n) none = absurd (false≢true (sym none))
  acts-keep (operation.Within local_action.Basic) none = comes-keeps (rule_of line.instr line.constant line.next f.locals f.operands)
  acts-keep (operation.Within (local_action.Return k)) none = returns-keep (returns k f.operands)
  acts-keep operation.Athrow none = asked-keeps s (throws w.world s.shared (ref_of f.operands))
  acts-keep operation.Monitor none = asked-keeps s (watches (ref_of f.operands) f.locals f.operands)
  acts-keep operation.Arraylength none = asked-keeps s (measures (ref_of f.operands) s.shared f.locals f.operands)
  acts-keep (operation.Newarray kind) none =
      let d = makes kind (int_of f.operands) s.shared f.locals f.operands in
      asked-keeps (record s { shared = d.shared }) d.outcome ∙ makes-keep kind (int_of f.operands)
  acts-keep (operation.LoadElement k) none = asked-keeps s (loads_element k (element_of f.operands) s.shared f.locals f.operands)
  acts-keep (operation.StoreElement k) none =
      let d = stores_element w.world.program k (storing_of k f.operands) s.shared f.locals f.operands in
      asked-keeps (record s { shared = d.shared }) d.outcome ∙ stores-keep k (storing_of k f.operands)
  acts-keep (operation.LdcString units) none =
      let d = pushes_string w.world.program units s.shared f.locals f.operands in
      asked-keeps (record s { shared = d.shared }) d.outcome ∙ string-keeps units

pub attempts-keep : (w : Setup) (s : State) (f : Frame) (lo : Option Line) → ((l : Line) → lo ≡ Some l → is_named l.operation ≡ false) → Keeps s (attempts_line w s f lo)
attempts-keep w s f None quiet = refl
attempts-keep w s f (Some line) quiet = acts-keep w line s f line.operation (quiet line refl)

-- ---- lines that name something

pub named-loads : (w : Setup) (line : Line) (n : SymbolicReference) (s : State) (f : Frame)
    → (acts_named w line n s f).shared.loaded ≡ s.shared.loaded ++ newly_loaded w.world.program s.shared.loaded n f.operands
named-loads w line n s f =
    let d : Done = named_done w n s f in
    applies-loaded w (listing_of w.versions) (placed_line line) d.outcome (with_done d s) f
    ∙ (is-named (ready_for w n s f).shared f.operands w n f.locals).loaded
