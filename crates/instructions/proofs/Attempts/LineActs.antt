-- What a line does is what applies by the instruction that it stands for.
use Rattle.std.proofs.Common.{◌≡◌, ℕ, Bool, true, false, cond, List, [], ◌∷◌, ◌++◌, Option, Some, None, refl, sym, ap, subst, ◌∙◌}
use Rattle.std.specs.Prelude.{nat_le, slice_get, ℤ, pos, negsuc, ◌+◌, ◌==◌}
use Rattle.std.specs.Option.{option_map}
use Rattle.std.proofs.lemmas.Bool.{false≢true}
use Rattle.std.proofs.lemmas.List.{append-nil}
use Rattle.std.proofs.lemmas.Option.{same_Some, none-some}
use Rattle.heap_objects.specs.declared.datum.Datum.{Datum}
use Rattle.heap_objects.specs.declared.Value.{Value}
use Rattle.heap_objects.specs.declared.Value.TheVariants.{Int, Long, Ref, Addr}
use Rattle.const_pool.specs.declared.descriptor.Kind.{Kind}
use Rattle.jvm_model.specs.declared.program.Program.{Program}
use Rattle.jvm_model.specs.declared.state.Entry.{Entry}
use Rattle.jvm_model.specs.declared.state.Entry.TheVariants.{Active, Initializing}
use Rattle.jvm_model.specs.declared.state.Frame.{Frame}
use Rattle.jvm_model.specs.declared.state.Shared.{Shared}
use Rattle.jvm_model.specs.declared.state.State.{State}
use Rattle.jvm_model.specs.Running.Applies.{enters_subroutine, goes, resumes, gives_back, applies}
use Rattle.jvm_model.specs.Instructions.ConstantRules.{pushes_string}
use Rattle.jvm_model.specs.Running.Constants.{can_intern}
use Rattle.jvm_model.specs.Basis.Data.{Locals, Operands, Listing, Instruction, Outcome, GoesOn, Subroutine, Invokes, Returns, Throws, Raises, Initializes, Exits, Breaks, Next, Target, Back, Done}
use Rattle.jvm_model.specs.declared.instruction.Local.{Local}
use Rattle.jvm_model.specs.declared.instruction.Local.TheVariants.{Nop, Constant, Load, Store, ManageStack, BinaryOfInts, BinaryOfLongs, DivisionOfInts, DivisionOfLongs, ShiftOfLong, UnaryOfInt, UnaryOfLong, Lcmp, Iinc, Branch, Goto, Switch, Jsr, Ret, Return}
use Rattle.jvm_model.specs.declared.instruction.SymbolicReference.{SymbolicReference}
use Rattle.jvm_model.specs.declared.instruction.Keys.{Keys}
use Rattle.jvm_model.specs.declared.instruction.Operation.{Operation}
use Rattle.jvm_model.specs.declared.instruction.Operation.TheVariants.{Within, Named, Athrow, Monitor, Newarray, Arraylength, LoadElement, StoreElement, LdcString}
use Rattle.jvm_model.specs.Codes.Lines.{ends, is_last, targets_of}
use Rattle.jvm_model.specs.Instructions.LocalRules.{arithmetic_exception, by_zero, divides_these, goes_if, holds, tests, switches_on, goes_back, replaces, returns, returns_datum, within}
use Rattle.jvm_model.specs.Classes.Lookup.{is_below}
use Rattle.jvm_model.specs.Instructions.ObjectRules.{Access, ToNull, ToAnother, Outside, Inside, Storing, access_to, done, fits_array, loads_at, loads_element, makes, measures, array_element_of, stores_at, stores_element, storing_of, throws, watches}
use Rattle.jvm_model.specs.Instructions.Does.{does, loads}
use Rattle.jvm_model.specs.Instructions.SymbolicReference.{newly_loaded}
use Rattle.jvm_model.specs.Instructions.ReferenceRules.{does_named}
use Rattle.jvm_model.specs.Running.Run.{starts, with_classes_loaded}
use Rattle.jvm_model.specs.Basis.SharedState.{class_of, null_pointer, throwable}
use Rattle.jvm_model.specs.Basis.StackForms.{forms_of}
use Rattle.jvm_model.specs.Basis.Values.{datum_of, local_loaded, local_in, int_of, ref_of, managed_stack}
use Rattle.jvm_basic.specs.Rules.{goes_at, outcome_placed}
use Rattle.jvm_basic.proofs.PlacedOutcomes.{is_simple, pushes-simple, replaces-simple, leaves-simple, stores-simple, increments-simple}
use Rattle.prepared_lines.specs.declared.line.LocalAction.{LocalAction}
use Rattle.prepared_lines.specs.declared.line.Line.{Line}
use Rattle.activations.specs.Applied.{placed_line, acts_asked, resumes_line, gives_back_line, returns_or_ends, acts_return}
use Rattle.instructions.specs.Acts.{comes_to, acts_alone, acts_done, acts_by, acts, class_awaited, ready_for, with_done}
use Rattle.prepared_lines.specs.Lines.{operation_kept, local_kept}
use Rattle.prepared_code.specs.Ready.{IsRuleOf, IsTied}
use Rattle.prepared_code.specs.Tables.{Versions}
use Rattle.prepared_code.specs.Versions.{Setup, listing_of, line_at, instruction_by, instruction_in}
use Rattle.activations.proofs.ConcludedOutcomes.{stays}

-- ---- what an instruction asks for that its frame does by itself

abbrev divided : Outcome
divided = Raises arithmetic_exception (Some by_zero)

-- it goes on, throws for a division by zero, or breaks; control goes on behind it only where it is not the last
abbrev IsOwn : Bool → Outcome → Type 0
IsOwn last (GoesOn m o Next) = last ≡ false
IsOwn last (GoesOn m o (Target k)) = Unit {0}
IsOwn last (GoesOn m o (Back t)) = Unit {0}
IsOwn last Subroutine = last ≡ false
IsOwn last (Raises name message) = Raises name message ≡ divided
IsOwn last (Breaks false) = Unit {0}
IsOwn last (Breaks true) = ⊥
IsOwn last (Invokes m args below) = ⊥
IsOwn last (Returns d) = ⊥
IsOwn last (Throws r) = ⊥
IsOwn last (Initializes c) = ⊥
IsOwn last (Exits n) = ⊥

simple-own : (q : Outcome) → is_simple q ≡ true → IsOwn false q
simple-own (GoesOn m o Next) h = refl
simple-own (GoesOn m o (Back t)) h = tt
simple-own (GoesOn m o (Target k)) h = tt
simple-own (Breaks false) h = tt
simple-own (Breaks true) h = absurd (false≢true h)
simple-own _ h = absurd (false≢true h)

divides-own : (x : Option (Option Value)) (m : Locals) (o : Operands) → IsOwn false (divides_these x m o)
divides-own None m o = tt
divides-own (Some None) m o = refl
divides-own (Some (Some v)) m o = refl

branch-own : (x : Option Bool) (taken : ℕ) (m : Locals) (o : Operands) → IsOwn false (goes_if x taken m o)
branch-own None taken m o = tt
branch-own (Some true) taken m o = tt
branch-own (Some false) taken m o = refl

switch-own : (keys : Keys) (x : Option ℤ) (m : Locals) (o : Operands) → IsOwn true (switches_on keys x m o)
switch-own keys None m o = tt
switch-own keys (Some n) m o = tt

back-own : (x : Option Value) (m : Locals) (o : Operands) → IsOwn true (goes_back x m o)
back-own (Some (Addr t)) m o = tt
back-own (Some (Int n)) m o = tt
back-own (Some (Long n)) m o = tt
back-own (Some (Ref r)) m o = tt
back-own None m o = tt

-- a return is none of them
abbrev own_kind : Local → Option (Option Kind)
own_kind (Return k) = Some k
own_kind _ = None

within-own : (l : Local) (m : Locals) (o : Operands) → own_kind l ≡ None → IsOwn (is_last l) (within l m o)
within-own Nop m o h = refl
within-own (Constant d) m o h = refl
within-own (Load k slot) m o h = simple-own _ (pushes-simple (local_loaded k (slice_get m slot)) m o)
within-own (Store k slot) m o h = simple-own _ (stores-simple k slot m o)
within-own (ManageStack op) m o h = simple-own _ (leaves-simple (managed_stack (forms_of op) o) m)
within-own (BinaryOfInts op) m o h = simple-own _ (replaces-simple 2 _ m o)
within-own (BinaryOfLongs op) m o h = simple-own _ (replaces-simple 2 _ m o)
within-own (DivisionOfInts op) m o h = divides-own _ m o
within-own (DivisionOfLongs op) m o h = divides-own _ m o
within-own (ShiftOfLong op) m o h = simple-own _ (replaces-simple 2 _ m o)
within-own (UnaryOfInt op) m o h = simple-own _ (replaces-simple 1 _ m o)
within-own (UnaryOfLong op) m o h = simple-own _ (replaces-simple 1 _ m o)
within-own Lcmp m o h = simple-own _ (replaces-simple 2 _ m o)
within-own (Iinc slot d) m o h = simple-own _ (increments-simple slot d (local_in m slot) m o)
within-own (Branch test) m o h = branch-own (holds test o) (tests test) m o
within-own Goto m o h = tt
within-own (Switch keys) m o h = switch-own keys (int_of o) m o
within-own Jsr m o h = refl
within-own (Ret slot) m o h = back-own (local_in m slot) m o
within-own (Return k) m o h = absurd (none-some k (sym h))

pub stays-starts : (q : Outcome) → stays q ≡ true → starts q ≡ None
stays-starts (Returns d) h = refl
stays-starts (Breaks b) h = refl
stays-starts (Initializes c) h = absurd (false≢true h)
stays-starts (GoesOn m o to) h = refl
stays-starts Subroutine h = refl
stays-starts (Raises name message) h = refl
stays-starts (Invokes m args below) h = refl
stays-starts (Throws r) h = refl
stays-starts (Exits n) h = refl

own-stays : (last : Bool) (q : Outcome) → IsOwn last q → stays q ≡ true
own-stays last (GoesOn m o to) h = refl
own-stays last Subroutine h = refl
own-stays last (Raises name message) h = refl
own-stays last (Breaks false) h = refl
own-stays last (Breaks true) h = absurd h
own-stays last (Invokes m args below) h = absurd h
own-stays last (Returns d) h = absurd h
own-stays last (Throws r) h = absurd h
own-stays last (Initializes c) h = absurd h
own-stays last (Exits n) h = absurd h

own-starts : (last : Bool) (q : Outcome) → IsOwn last q → starts q ≡ None
own-starts last (GoesOn m o to) h = refl
own-starts last Subroutine h = refl
own-starts last (Raises name message) h = refl
own-starts last (Breaks b) h = refl
own-starts last (Invokes m args below) h = absurd h
own-starts last (Returns d) h = absurd h
own-starts last (Throws r) h = absurd h
own-starts last (Initializes c) h = absurd h
own-starts last (Exits n) h = absurd h

-- ---- it applies as the line's outcome

module _ (w : Setup) (t : Listing) (line : Line) (s : State) (f : Frame) where
  at-same : (m : Locals) (o : Operands) (place : Option ℕ) → goes s f line.instr.at m o place ≡ comes_to w line s f (goes_at m o place)
  at-same m o None = refl
  at-same m o (Some place) = refl

  abbrev by_next : Operation Local → Option ℕ → Instruction
  by_next op next = record { operation = op; own = line.instr.at; next = next; targets = targets_of line.instr.arg }

  -- with the offset behind it, where it has one
  own-same : (op : Operation Local) (last : Bool) (q : Outcome) → IsOwn last q
      → (applies w.world t (by_next op (cond last None (Some line.next))) q s f).after ≡ comes_to w line s f (outcome_placed line.next (targets_of line.instr.arg) f.locals f.operands q)
  own-same op last (GoesOn m o Next) h = ap (λ b. goes s f line.instr.at m o (cond b None (Some line.next))) h
  own-same op last (GoesOn m o (Target k)) h = at-same m o (slice_get (targets_of line.instr.arg) k)
  own-same op last (GoesOn m o (Back place)) h = refl
  own-same op last Subroutine h =
      ap (λ b. (applies w.world t (by_next op (cond b None (Some line.next))) Subroutine s f).after) h
      ∙ at-same f.locals (Addr line.next ∷ f.operands) (slice_get (targets_of line.instr.arg) 0)
  own-same op last (Raises name message) h = ap (λ q. (applies w.world t (by_next op (cond last None (Some line.next))) q s f).after) h
  own-same op last (Breaks false) h = refl
  own-same op last (Breaks true) h = absurd h
  own-same op last (Invokes m args below) h = absurd h
  own-same op last (Returns d) h = absurd h
  own-same op last (Throws r) h = absurd h
  own-same op last (Initializes c) h = absurd h
  own-same op last (Exits n) h = absurd h

  -- by its rule
  pub alone-same : (l : Local) → own_kind l ≡ None → IsRuleOf line l
      → (applies w.world t (instruction_by (Within l) line) (within l f.locals f.operands) s f).after ≡ acts_alone w line s f
  alone-same l own rule =
      own-same (Within l) (is_last l) (within l f.locals f.operands) (within-own l f.locals f.operands own)
      ∙ ap (comes_to w line s f) (sym (rule f.locals f.operands))

-- ---- returns

-- the caller resumes at its line
resumes-same : (s : State) (caller : Frame) (d : Option Datum) (lo : Option Line) → resumes s caller d (option_map instruction_in lo) ≡ resumes_line s caller d lo
resumes-same s caller d None = refl
resumes-same s caller d (Some line) = refl

gives-same : (v : Versions) (s : State) (d : Option Datum) (es : List Entry) → gives_back (listing_of v) s d es ≡ gives_back_line v s d es
gives-same v s d [] = refl
gives-same v s d (Initializing c part ∷ below) = refl
gives-same v s d (Active caller ∷ below) = resumes-same (record s { stack = below }) caller d (line_at v caller.version caller.place)

-- an outcome of a return
abbrev IsReturn : Outcome → Type 0
IsReturn (Returns d) = Unit {0}
IsReturn (Breaks true) = Unit {0}
IsReturn _ = ⊥

datum-return : (x : Option Datum) → IsReturn (returns_datum x)
datum-return None = tt
datum-return (Some d) = tt

returns-return : (k : Option Kind) (o : Operands) → IsReturn (returns k o)
returns-return None o = tt
returns-return (Some k) [] = tt
returns-return (Some k) (v ∷ below) = datum-return (datum_of k v)

return-starts : (q : Outcome) → IsReturn q → starts q ≡ None
return-starts (Returns d) h = refl
return-starts (Breaks b) h = refl
return-starts (GoesOn m o to) h = absurd h
return-starts Subroutine h = absurd h
return-starts (Raises name message) h = absurd h
return-starts (Invokes m args below) h = absurd h
return-starts (Throws r) h = absurd h
return-starts (Initializes c) h = absurd h
return-starts (Exits n) h = absurd h

return-same : (w : Setup) (line : Line) (op : Operation Local) (s : State) (f : Frame) (q : Outcome) → IsReturn q
    → (applies w.world (listing_of w.versions) (instruction_by op line) q s f).after ≡ returns_or_ends w line s f q
return-same w line op s f (Returns d) h = gives-same w.versions s d s.stack
return-same w line op s f (Breaks true) h = refl
return-same w line op s f (Breaks false) h = absurd h
return-same w line op s f (GoesOn m o to) h = absurd h
return-same w line op s f Subroutine h = absurd h
return-same w line op s f (Raises name message) h = absurd h
return-same w line op s f (Invokes m args below) h = absurd h
return-same w line op s f (Throws r) h = absurd h
return-same w line op s f (Initializes c) h = absurd h
return-same w line op s f (Exits n) h = absurd h

-- ---- an attempt, by what it asks for

-- what applies is this state, and nothing is initialized before
pub record ActsAs (w : Setup) (i : Instruction) (s : State) (f : Frame) (d : Done) (x : State) : Type 0 where
  pub starts_none : starts d.outcome ≡ None
  pub applied : (applies w.world (listing_of w.versions) i d.outcome (record s { shared = d.shared; output = s.output ++ d.wrote }) f).after ≡ x

-- where nothing shared is changed, and nothing is written
quiet-acts : (w : Setup) (i : Instruction) (s : State) (f : Frame) (q : Outcome) (x : State) → starts q ≡ None
    → (applies w.world (listing_of w.versions) i q s f).after ≡ x → ActsAs w i s f (done s.shared q) x
quiet-acts w i s f q x none is = record {
  starts_none = none;
  applied = ap (λ out. (applies w.world (listing_of w.versions) i q (record s { output = out }) f).after) (append-nil s.output) ∙ is;
}

alone-acts : (w : Setup) (line : Line) (s : State) (f : Frame) (l : Local) → own_kind l ≡ None → IsRuleOf line l
    → ActsAs w (instruction_by (Within l) line) s f (does w.world (Within l) s.shared f.locals f.operands) (acts_alone w line s f)
alone-acts w line s f l own rule =
    quiet-acts w (instruction_by (Within l) line) s f (within l f.locals f.operands) (acts_alone w line s f)
    (own-starts (is_last l) (within l f.locals f.operands) (within-own l f.locals f.operands own))
    (alone-same w (listing_of w.versions) line s f l own rule)

return-acts : (w : Setup) (line : Line) (s : State) (f : Frame) (k : Option Kind)
    → ActsAs w (instruction_by (Within (Return k)) line) s f (does w.world (Within (Return k)) s.shared f.locals f.operands) (acts_return w line k s f)
return-acts w line s f k =
    quiet-acts w (instruction_by (Within (Return k)) line) s f (returns k f.operands) (acts_return w line k s f)
    (return-starts (returns k f.operands) (returns-return k f.operands))
    (return-same w line (Within (Return k)) s f (returns k f.operands) (returns-return k f.operands))

within-acts : (w : Setup) (line : Line) (s : State) (f : Frame) (l : Local) → IsRuleOf line l
    → ActsAs w (instruction_by (Within l) line) s f (does w.world (Within l) s.shared f.locals f.operands) (acts_by w line s f (Within (local_kept l)))
within-acts w line s f (Return k) rule = return-acts w line s f k
within-acts w line s f l rule = alone-acts w line s f l refl rule

-- ---- what the model's rule asks for, at the line's place

-- what applies does not ask which operation it is, where control goes on behind it
placed-same : (w : Setup) (line : Line) (op : Operation Local) (s : State) (f : Frame) (q : Outcome) → ends op ≡ false
    → (applies w.world (listing_of w.versions) (instruction_by op line) q s f).after ≡ (applies w.world (listing_of w.versions) (placed_line line) q s f).after
placed-same w line op s f (GoesOn m o Next) behind = ap (λ b. goes s f line.instr.at m o (cond b None (Some line.next))) behind
placed-same w line op s f (GoesOn m o (Target k)) behind = refl
placed-same w line op s f (GoesOn m o (Back t)) behind = refl
placed-same w line op s f Subroutine behind =
    ap (λ b. enters_subroutine s f (instruction_by op line) (cond b None (Some line.next))) behind
placed-same w line op s f (Raises name message) behind = refl
placed-same w line op s f (Breaks b) behind = refl
placed-same w line op s f (Invokes m args below) behind = refl
placed-same w line op s f (Returns d) behind = refl
placed-same w line op s f (Throws x) behind = refl
placed-same w line op s f (Initializes c) behind = refl
placed-same w line op s f (Exits n) behind = refl

asked-acts : (w : Setup) (line : Line) (op : Operation Local) (s : State) (f : Frame) (q : Outcome) → ends op ≡ false → starts q ≡ None
    → ActsAs w (instruction_by op line) s f (done s.shared q) (acts_asked w line s f q)
asked-acts w line op s f q behind starts_none =
    quiet-acts w (instruction_by op line) s f q (acts_asked w line s f q) starts_none (placed-same w line op s f q behind)

-- where nothing is written
pub record IsSilent (d : Done) : Type 0 where
  pub kept : stays d.outcome ≡ true
  pub wrote : d.wrote ≡ []

done-acts : (w : Setup) (line : Line) (op : Operation Local) (s : State) (f : Frame) (d : Done) → ends op ≡ false → IsSilent d
    → ActsAs w (instruction_by op line) s f d (acts_done w line s f d)
done-acts w line op s f d behind silent = record {
  starts_none = stays-starts d.outcome silent.kept;
  applied =
      ap (λ out. (applies w.world (listing_of w.versions) (instruction_by op line) d.outcome (record s { shared = d.shared; output = out }) f).after)
      (ap (λ xs. s.output ++ xs) silent.wrote ∙ append-nil s.output)
      ∙ placed-same w line op (record s { shared = d.shared }) f d.outcome behind;
}

-- ---- instructions that see objects

chosen-stays : (b : Bool) (x y : Outcome) → stays x ≡ true → stays y ≡ true → stays (cond b x y) ≡ true
chosen-stays true x y hx hy = hx
chosen-stays false x y hx hy = hy

replaces-stays : (taken : ℕ) (v : Option Value) (m : Locals) (o : Operands) → stays (replaces taken v m o) ≡ true
replaces-stays taken v m o = own-stays false _ (simple-own _ (replaces-simple taken v m o))

pub measures-stays : (x : Option ℕ) (s : Shared) (m : Locals) (o : Operands) → stays (measures x s m o) ≡ true
measures-stays None s m o = refl
measures-stays (Some r) s m o = chosen-stays (r == 0) _ _ refl (replaces-stays 1 _ m o)

pub watches-stays : (x : Option ℕ) (m : Locals) (o : Operands) → stays (watches x m o) ≡ true
watches-stays None m o = refl
watches-stays (Some r) m o = chosen-stays (r == 0) _ _ refl refl

pub loads-stays : (k : Kind) (x : Option (ℕ × ℤ)) (s : Shared) (m : Locals) (o : Operands) → stays (loads_element k x s m o) ≡ true
loads-stays k None s m o = refl
loads-stays k (Some at) s m o = by (access_to k at.0 at.1 s.heap) where
  by : (access : Access) → stays (loads_at access at.0 at.1 s m o) ≡ true
  by ToNull = refl
  by ToAnother = refl
  by Outside = refl
  by (Inside slot) = replaces-stays 2 _ m o

chosen-silent : (b : Bool) (x y : Done) → IsSilent x → IsSilent y → IsSilent (cond b x y)
chosen-silent true x y hx hy = hx
chosen-silent false x y hx hy = hy

pub makes-silent : (k : ℕ) (x : Option ℤ) (s : Shared) (m : Locals) (o : Operands) → IsSilent (makes k x s m o)
makes-silent k None s m o = record { kept = refl; wrote = refl }
makes-silent k (Some (negsuc n)) s m o = record { kept = refl; wrote = refl }
makes-silent k (Some (pos count)) s m o =
    chosen-silent (nat_le (s.heap.used + (1 + count)) s.heap.limit) _ _ (record { kept = refl; wrote = refl }) (record { kept = refl; wrote = refl })

pub stores-silent : (p : Program) (k : Kind) (x : Option Storing) (s : Shared) (m : Locals) (o : Operands) → IsSilent (stores_element p k x s m o)
stores-silent p k None s m o = record { kept = refl; wrote = refl }
stores-silent p k (Some x) s m o = by (access_to k x.array x.index s.heap) where
  by : (access : Access) → IsSilent (stores_at p access x.array x.index x.datum s m o)
  by ToNull = record { kept = refl; wrote = refl }
  by ToAnother = record { kept = refl; wrote = refl }
  by Outside = record { kept = refl; wrote = refl }
  by (Inside slot) = chosen-silent (fits_array p x.datum x.array s.heap) _ _ (record { kept = refl; wrote = refl }) (record { kept = refl; wrote = refl })

pub string-silent : (p : Program) (units : List ℕ) (s : Shared) (m : Locals) (o : Operands) → IsSilent (pushes_string p units s m o)
string-silent p units s m o =
    chosen-silent (can_intern units s.heap) _ _ (record { kept = refl; wrote = refl }) (record { kept = refl; wrote = refl })

-- athrow goes on nowhere
module _ (w : Setup) (line : Line) (s : State) (f : Frame) where
  abbrev ThrowsAs : Outcome → Type 0
  ThrowsAs q = ActsAs w (instruction_by Athrow line) s f (done s.shared q) (acts_asked w line s f q)

  chosen-throws : (b : Bool) (x y : Outcome) → ThrowsAs x → ThrowsAs y → ThrowsAs (cond b x y)
  chosen-throws true x y hx hy = hx
  chosen-throws false x y hx hy = hy

  raises-as : (name : List ℕ) (message : Option (List ℕ)) → ThrowsAs (Raises name message)
  raises-as name message = quiet-acts w (instruction_by Athrow line) s f (Raises name message) _ refl refl

  throws-as : (r : ℕ) → ThrowsAs (Throws r)
  throws-as r = quiet-acts w (instruction_by Athrow line) s f (Throws r) _ refl refl

  unverifiable-as : ThrowsAs (Breaks false)
  unverifiable-as = quiet-acts w (instruction_by Athrow line) s f (Breaks false) _ refl refl

  athrow-acts : (x : Option ℕ) → ThrowsAs (throws w.world s.shared x)
  athrow-acts None = unverifiable-as
  athrow-acts (Some r) =
      chosen-throws (r == 0) _ _ (raises-as null_pointer None)
      (chosen-throws (is_below w.world.program (class_of w.world.program s.shared r) throwable) _ _ (throws-as r) unverifiable-as)

pub throws-stays : (w : Setup) (s : Shared) (x : Option ℕ) → stays (throws w.world s x) ≡ true
throws-stays w s None = refl
throws-stays w s (Some r) =
    chosen-stays (r == 0) _ _ refl (chosen-stays (is_below w.world.program (class_of w.world.program s r) throwable) _ _ refl refl)

-- ---- every line

-- by the action that the line has
acted : (w : Setup) (line : Line) (s : State) (f : Frame) (op : Operation Local) (a : Operation LocalAction) → a ≡ line.operation
    → ActsAs w (instruction_by op line) s f (does w.world op s.shared f.locals f.operands) (acts_by w line s f a)
    → ActsAs w (instruction_by op line) s f (does w.world op s.shared f.locals f.operands) (acts w line s f)
acted w line s f op a is acts_so =
    subst (λ x. ActsAs w (instruction_by op line) s f (does w.world op s.shared f.locals f.operands) (acts_by w line s f x)) is acts_so

-- an instruction that names nothing
abbrev names : Operation Local → Bool
names (Named n) = true
names op = false

op-acts : (w : Setup) (line : Line) (s : State) (f : Frame) (op : Operation Local) → names op ≡ false → IsTied line op
    → ActsAs w (instruction_by op line) s f (does w.world op s.shared f.locals f.operands) (acts w line s f)
op-acts w line s f (Named n) none tied = absurd (false≢true (sym none))
op-acts w line s f (Within l) none tied = acted w line s f (Within l) (Within (local_kept l)) tied.kept (within-acts w line s f l (tied.alone l refl))
op-acts w line s f Athrow none tied = acted w line s f Athrow Athrow tied.kept (athrow-acts w line s f (ref_of f.operands))
op-acts w line s f Monitor none tied =
    acted w line s f Monitor Monitor tied.kept
    (asked-acts w line Monitor s f (watches (ref_of f.operands) f.locals f.operands) refl
    (stays-starts _ (watches-stays (ref_of f.operands) f.locals f.operands)))
op-acts w line s f Arraylength none tied =
    acted w line s f Arraylength Arraylength tied.kept
    (asked-acts w line Arraylength s f (measures (ref_of f.operands) s.shared f.locals f.operands) refl (stays-starts _ (measures-stays (ref_of f.operands) s.shared f.locals f.operands)))
op-acts w line s f (Newarray kind) none tied =
    acted w line s f (Newarray kind) (Newarray kind) tied.kept
    (done-acts w line (Newarray kind) s f (makes kind (int_of f.operands) s.shared f.locals f.operands) refl
    (makes-silent kind (int_of f.operands) s.shared f.locals f.operands))
op-acts w line s f (LoadElement k) none tied =
    acted w line s f (LoadElement k) (LoadElement k) tied.kept
    (asked-acts w line (LoadElement k) s f (loads_element k (array_element_of f.operands) s.shared f.locals f.operands) refl
    (stays-starts _ (loads-stays k (array_element_of f.operands) s.shared f.locals f.operands)))
op-acts w line s f (StoreElement k) none tied =
    acted w line s f (StoreElement k) (StoreElement k) tied.kept
    (done-acts w line (StoreElement k) s f (stores_element w.world.program k (storing_of k f.operands) s.shared f.locals f.operands) refl
    (stores-silent w.world.program k (storing_of k f.operands) s.shared f.locals f.operands))
op-acts w line s f (LdcString units) none tied =
    acted w line s f (LdcString units) (LdcString units) tied.kept
    (done-acts w line (LdcString units) s f (pushes_string w.world.program units s.shared f.locals f.operands) refl
    (string-silent w.world.program units s.shared f.locals f.operands))

op-awaits : (w : Setup) (s : State) (f : Frame) (op : Operation Local) → names op ≡ false → class_awaited w s f (operation_kept op) ≡ None
op-awaits w s f (Named n) none = absurd (false≢true (sym none))
op-awaits w s f (Within l) none = refl
op-awaits w s f Athrow none = refl
op-awaits w s f Monitor none = refl
op-awaits w s f Arraylength none = refl
op-awaits w s f (Newarray kind) none = refl
op-awaits w s f (LoadElement k) none = refl
op-awaits w s f (StoreElement k) none = refl
op-awaits w s f (LdcString units) none = refl

-- ---- instructions that name something

pub with-loaded : (classes : List ℕ) (s : State) → with_classes_loaded classes s ≡ record s { shared = record s.shared { loaded = s.shared.loaded ++ classes } }
with-loaded [] s = ap (λ local_loaded. record s { shared = record s.shared { loaded = local_loaded } }) (sym (append-nil s.shared.loaded))
with-loaded (c ∷ more) s = refl

-- ---- every operation, over the classes that it loads

module _ (w : Setup) (line : Line) (op : Operation Local) (s : State) (f : Frame) where
  abbrev pub readied : State
  readied = with_classes_loaded (loads w.world op s.shared f.operands) s

  abbrev pub done_there : Done
  done_there = does w.world op readied.shared f.locals f.operands

  -- what applies is what the line comes to, and the same class is initialized before
  pub record StepsAs : Type 0 where
    pub starts_same : starts done_there.outcome ≡ class_awaited w s f line.operation
    pub applied : (applies w.world (listing_of w.versions) (instruction_by op line) done_there.outcome (with_done done_there readied) f).after ≡ acts w line s f

named-steps : (w : Setup) (line : Line) (n : SymbolicReference) (s : State) (f : Frame) → IsTied line (Named n) → StepsAs w line (Named n) s f
named-steps w line n s f tied =
    let ready : State = readied w line (Named n) s f in
    let same : ready ≡ ready_for w n s f = with-loaded (newly_loaded w.world.program s.shared.loaded n f.operands) s in
    let there : Done = does_named w.world n ready.shared f.locals f.operands in
    record {
      starts_same =
          ap (λ (x : State). starts (does_named w.world n x.shared f.locals f.operands).outcome) same
          ∙ ap (class_awaited w s f) tied.kept;
      applied =
          placed-same w line (Named n) (with_done there ready) f there.outcome refl
          ∙ (ap (λ (x : State). let d = does_named w.world n x.shared f.locals f.operands in acts_asked w line (with_done d x) f d.outcome) same
          ∙ ap (acts_by w line s f) tied.kept);
    }

pub steps-as : (w : Setup) (line : Line) (op : Operation Local) (s : State) (f : Frame) → IsTied line op → StepsAs w line op s f
steps-as w line (Named n) s f tied = named-steps w line n s f tied
steps-as w line (Within l) s f tied =
    let acts_so = op-acts w line s f (Within l) refl tied in
    record { starts_same = acts_so.starts_none ∙ (sym (op-awaits w s f (Within l) refl) ∙ ap (class_awaited w s f) tied.kept); applied = acts_so.applied }
steps-as w line Athrow s f tied =
    let acts_so = op-acts w line s f Athrow refl tied in
    record { starts_same = acts_so.starts_none ∙ ap (class_awaited w s f) tied.kept; applied = acts_so.applied }
steps-as w line Monitor s f tied =
    let acts_so = op-acts w line s f Monitor refl tied in
    record { starts_same = acts_so.starts_none ∙ ap (class_awaited w s f) tied.kept; applied = acts_so.applied }
steps-as w line Arraylength s f tied =
    let acts_so = op-acts w line s f Arraylength refl tied in
    record { starts_same = acts_so.starts_none ∙ ap (class_awaited w s f) tied.kept; applied = acts_so.applied }
steps-as w line (Newarray kind) s f tied =
    let acts_so = op-acts w line s f (Newarray kind) refl tied in
    record { starts_same = acts_so.starts_none ∙ ap (class_awaited w s f) tied.kept; applied = acts_so.applied }
steps-as w line (LoadElement k) s f tied =
    let acts_so = op-acts w line s f (LoadElement k) refl tied in
    record { starts_same = acts_so.starts_none ∙ ap (class_awaited w s f) tied.kept; applied = acts_so.applied }
steps-as w line (StoreElement k) s f tied =
    let acts_so = op-acts w line s f (StoreElement k) refl tied in
    record { starts_same = acts_so.starts_none ∙ ap (class_awaited w s f) tied.kept; applied = acts_so.applied }
steps-as w line (LdcString units) s f tied =
    let acts_so = op-acts w line s f (LdcString units) refl tied in
    record { starts_same = acts_so.starts_none ∙ ap (class_awaited w s f) tied.kept; applied = acts_so.applied }

-- a line that awaits a class names something
pub awaits-named : (w : Setup) (line : Line) (op : Operation Local) (s : State) (f : Frame) (c : ℕ) → IsTied line op → class_awaited w s f line.operation ≡ Some c
    → (n : SymbolicReference) × (op ≡ Named n)
awaits-named w line op s f c tied is = by op (ap (class_awaited w s f) tied.kept ∙ is) where
  by : (o : Operation Local) → class_awaited w s f (operation_kept o) ≡ Some c → (n : SymbolicReference) × (o ≡ Named n)
  by (Named n) e = (n, refl)
  by (Within l) e = absurd (none-some c e)
  by Athrow e = absurd (none-some c e)
  by Monitor e = absurd (none-some c e)
  by Arraylength e = absurd (none-some c e)
  by (Newarray kind) e = absurd (none-some c e)
  by (LoadElement k) e = absurd (none-some c e)
  by (StoreElement k) e = absurd (none-some c e)
  by (LdcString units) e = absurd (none-some c e)

pub starts-some : (q : Outcome) (c : ℕ) → starts q ≡ Some c → q ≡ Initializes c
starts-some (Initializes k) c e = ap Initializes (same_Some k c e)
starts-some (Returns d) c e = absurd (none-some c e)
starts-some (Breaks b) c e = absurd (none-some c e)
starts-some (GoesOn m o to) c e = absurd (none-some c e)
starts-some Subroutine c e = absurd (none-some c e)
starts-some (Raises name message) c e = absurd (none-some c e)
starts-some (Invokes m args below) c e = absurd (none-some c e)
starts-some (Throws r) c e = absurd (none-some c e)
starts-some (Exits n) c e = absurd (none-some c e)
