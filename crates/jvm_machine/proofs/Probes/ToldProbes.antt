-- What a turn tells comes from a probe of the current activation's version.
use Rattle.std.proofs.Common.{◌≡◌, ◌<◌, ℕ, Bool, true, false, suc, List, [], ◌∷◌, length, Some, refl, sym, ap, subst, ◌∙◌, inl, inr, ◌⊎◌, arith}
use Rattle.std.specs.Prelude.{slice_get, if◌then◌else◌}
use Rattle.std.specs.Option.{option_and_then, option_map_or}
use Rattle.std.proofs.lemmas.Option.{none-some, same_Some}
use Rattle.jf_bytes.proofs.Options.{and_then_parts, map_parts, map_or_parts}
use Rattle.const_pool.specs.declared.class.ClassFile.{ClassFile}
use Rattle.const_pool.specs.declared.class.CodeAttribute.{CodeAttribute}
use Rattle.code_model.specs.declared.instr.Instr.{Instr}
use Rattle.code_model.specs.declared.laying.Homes.{Homes}
use Rattle.code_model.specs.Groups.{IsBytes}
use Rattle.code_model.specs.Instructions.{Reads, instruction_at}
use Rattle.code_model.specs.Layout.{home_of}
use Rattle.code_model.proofs.CodeLayouts.Ready.{known}
use Rattle.jvm_model.specs.declared.due.Due.{Due}
use Rattle.jvm_model.specs.declared.due.Due.TheVariants.{Begins, Ends, Nothing}
use Rattle.jvm_model.specs.declared.event.Event.{Event}
use Rattle.jvm_model.specs.declared.event.EventKind.{EventKind}
use Rattle.jvm_model.specs.declared.event.EventKind.TheVariants as kind
use Rattle.jvm_model.specs.declared.event.Mark.{Mark}
use Rattle.jvm_model.specs.declared.event.Mark.TheVariants as mark
use Rattle.jvm_model.specs.declared.program.MethodPlace.{MethodPlace}
use Rattle.jvm_model.specs.declared.program.Program.{Program}
use Rattle.jvm_model.specs.Basis.Data.{Began, Change, Instruction, Left, Loads, Unwound}
use Rattle.jvm_model.specs.declared.instruction.Local.{Local}
use Rattle.jvm_model.specs.declared.instruction.Operation.{Operation}
use Rattle.jvm_model.specs.Rewriting.Images.{is_off}
use Rattle.jvm_model.specs.Codes.Lines.{code_instruction, instruction_of, method_instruction, operation_of}
use Rattle.jvm_model.specs.Basis.Methods.{method_code}
use Rattle.jvm_model.specs.Codes.Originals.{original}
use Rattle.jvm_model.specs.Turns.Pauses.{begin_kind, end_due, stop_by, stop_from, stop_in, told_at}
use Rattle.jvm_model.specs.Basis.Programs.{class_at, code_of_method, place_of_method}
use Rattle.jvm_model.specs.Turns.StepPauses.{is_return}
use Rattle.jvm_model.specs.Turns.Told.{Held, held_after}
use Rattle.jvm_model.specs.Rewriting.Versions.{IsVersion, probe_bytes}
use Rattle.jvm_model.specs.Codes.ProgramPlaces.{IsClosedCode, IsStartOrEnd}
use Rattle.jvm_model.specs.Rewriting.StandsFor.{mark_at}
use Rattle.jvm_model.specs.Rewriting.Versions.{is_return_opcode}
use Rattle.jvm_model.proofs.Relocated.PlacesOf.{places-of}
use Rattle.jvm_model.proofs.Running.FormedCodes.{Reads-nth}
use Rattle.code_model.proofs.Reading.Readings.{instruction_at_within}
use Rattle.jvm_machine.specs.declared.advancing.Telling.TheVariants as telling
use Rattle.jvm_machine.specs.Advances.{Stops, told_in}
use Rattle.jvm_machine.specs.Probes.{ComesFromProbe, HasBytes, IfLeaves, IsReturn, HasReturn, probe_index, probe_place}
use Rattle.jvm_machine.specs.View.{View, step_begun, next_stop, to_come}
use Rattle.jvm_machine.proofs.Probes.ReturnCodes.{return-opcode}
use Rattle.jvm_machine.proofs.Probes.VersionProbes.{entry-there, leave-there, unwind-there}

-- ---- where a step stops

abbrev pub IsMarkedFirst : List Held → Type 0
IsMarkedFirst [] = ⊥
IsMarkedFirst (h ∷ more) = is_off h.mark ≡ false

abbrev pub IsTold : Due → List Held → Type 0
IsTold Nothing live = Unit {0}
IsTold Begins live = IsMarkedFirst live
IsTold (Ends k) live = IsMarkedFirst live × ((k ≡ kind.Leave) ⊎ (k ≡ kind.Unwind))

module _ (marks : ℕ → Mark) where
  end-told : (k : EventKind) → (k ≡ kind.Leave) ⊎ (k ≡ kind.Unwind) → (n : ℕ) (live : List Held) (c : Change) (more : List Change) → (let later = stop_in marks (suc n) (held_after marks live c) more in IsTold later.due later.live
      → (let s = stop_by live (held_after marks live c) n (end_due k live) later in IsTold s.due s.live))
  end-told k fits n [] c more later = later
  end-told k fits n (h ∷ live) c more later = by (is_off h.mark) refl where
    by : (b : Bool) → is_off h.mark ≡ b → (let s = stop_by (h ∷ live) (held_after marks (h ∷ live) c) n (if b then Nothing else Ends k) (stop_in marks (suc n) (held_after marks (h ∷ live) c) more) in IsTold s.due s.live)
    by true e = later
    by false e = (e, fits)

  pub stops-told : (n : ℕ) (live : List Held) (changes : List Change) → (let s = stop_in marks n live changes in IsTold s.due s.live)
  stops-told n live [] = tt
  stops-told n live (Loads classes ∷ more) = stops-told (suc n) live more
  stops-told n live (Left ∷ more) = end-told kind.Leave (inl refl) n live Left more (stops-told (suc n) (held_after marks live Left) more)
  stops-told n live (Unwound ∷ more) = end-told kind.Unwind (inr refl) n live Unwound more (stops-told (suc n) (held_after marks live Unwound) more)
  stops-told n live (Began m ∷ more) = by (stops-told (suc n) (held_after marks live (Began m)) more) (is_off (marks m)) refl where
    by : (let s = stop_in marks (suc n) (held_after marks live (Began m)) more in IsTold s.due s.live) → (b : Bool) → is_off (marks m) ≡ b
        → (let s = stop_by live (held_after marks live (Began m)) n (if b then Nothing else Begins) (stop_in marks (suc n) (held_after marks live (Began m)) more) in IsTold s.due s.live)
    by later true e = later
    by later false e = e

  pub stop-told : (delivered : Bool) (n : ℕ) (live : List Held) (changes : List Change) → (let s = stop_from marks delivered n live changes in IsTold s.due s.live)
  stop-told false n live changes = stops-told n live changes
  stop-told true n live [] = tt
  stop-told true n live (c ∷ more) = stops-told (suc n) (held_after marks live c) more

-- ---- the instruction that returns

-- it is read there, and its opcode returns
pub record Returning (c : ClassFile) (code : List ℕ) (at : ℕ) : Type 0 where
  pub instr : Instr
  pub here : instruction_at code at ≡ Some instr
  pub operation : Operation Local
  pub does : operation_of c instr ≡ Some operation
  pub returns : is_return operation ≡ true

some-instrs : (bytes : List ℕ) (at : ℕ) (i : Instr) (is : List Instr) → Reads bytes 0 is → instruction_at bytes at ≡ Some i → 0 < length is
some-instrs bytes at i [] reads here = absurd (let within = instruction_at_within bytes at i here in omega (arith, reads, within))
some-instrs bytes at i (j ∷ is) reads here = omega arith

module _ (p : Program) (method at : ℕ) (is : IsReturn p method at) (old : CodeAttribute) (coded : code_of_method p method ≡ Some old) where
  pub in-class : (place : MethodPlace) × (place_of_method p method ≡ Some place) × (c : ClassFile) × (class_at p place.class ≡ Some c) × (method_code c place.position ≡ Some old)
  in-class =
      let place = and_then_parts (λ (place : MethodPlace). option_and_then (λ c. method_code c place.position) (class_at p place.class)) (place_of_method p method) old coded in
      let class = and_then_parts (λ c. method_code c place.0.position) (class_at p place.0.class) old place.2 in
      (place.0, place.1, class.0, class.1, class.2)

  abbrev pub c : ClassFile
  c = in-class.2

  listing-is : (original p).at method at ≡ code_instruction c old.code at
  listing-is =
      ap (option_and_then (λ (place : MethodPlace). option_and_then (λ x. method_instruction x place.position at) (class_at p place.class))) in-class.1
      ∙ (ap (option_and_then (λ (x : ClassFile). method_instruction x in-class.0.position at)) in-class.3
      ∙ ap (option_and_then (λ (k : CodeAttribute). code_instruction c k.code at)) in-class.4)

  pub returning : Returning c old.code at
  returning =
      let found = map_or_parts (λ (i : Instruction). is_return i.operation) (code_instruction c old.code at)
      (ap (λ o. option_map_or (λ (i : Instruction). is_return i.operation) o false) (sym listing-is) ∙ is.returns) in
      let read = and_then_parts (instruction_of c) (instruction_at old.code at) found.0 found.1 in
      let done = map_parts _ (operation_of c read.0) found.0 read.2 in
      record {
        instr = read.0;
        here = read.1;
        operation = done.0;
        does = done.1;
        returns = ap (λ (i : Instruction). is_return i.operation) done.2 ∙ found.2;
      }

-- ---- the probe

-- of a version's method, with its mark
module _ (p : Program) (method at : ℕ) (m : Mark) (count : ℕ) (old new : CodeAttribute) (homes : Homes) (coded : code_of_method p method ≡ Some old) (fits : IsBytes old.code)
    (closed : IsClosedCode old) (version : IsVersion count method m old new homes) where
  leave-stands : IsReturn p method at → HasBytes new.code (home_of homes at) (probe_bytes method (probe_index count kind.Leave))
  leave-stands is =
      let ret = returning p method at is old coded in
      by ret (places-of p method old coded version.reading.instrs version.reads.instrs closed.reads (some-instrs old.code at ret.instr version.reading.instrs version.reads.instrs ret.here) at is.place)
    where
      by : Returning (c p method at is old coded) old.code at → IsStartOrEnd version.reading.instrs (length old.code) at → HasBytes new.code (home_of homes at) (probe_bytes method (probe_index count kind.Leave))
      by ret (inr end) = absurd (let within = instruction_at_within old.code at ret.instr ret.here in omega (arith, end, within))
      by ret (inl start) =
          let read : instruction_at old.code at ≡ Some start.1 = ap (instruction_at old.code) (sym start.3) ∙ Reads-nth old.code 0 version.reading.instrs start.0 start.1 version.reads.instrs start.2 in
          let same : ret.instr ≡ start.1 = same_Some ret.instr start.1 (sym ret.here ∙ read) in
          let opcode = return-opcode (c p method at is old coded) ret.instr ret.operation (known old.code at ret.instr ret.here fits).op ret.does ret.returns in
          subst (λ n. HasBytes new.code (home_of homes n) (probe_bytes method (probe_index count kind.Leave))) start.3
          (leave-there count method m old new homes version fits start.0 start.1 start.2 (ap (λ (i : Instr). is_return_opcode i.op) (sym same) ∙ opcode))

  begin-stands : HasBytes new.code 0 (probe_bytes method (probe_index count (begin_kind m)))
  begin-stands = by m version where
    by : (x : Mark) → IsVersion count method x old new homes → HasBytes new.code 0 (probe_bytes method (probe_index count (begin_kind x)))
    by mark.Root is = entry-there count method mark.Root old new homes is
    by mark.Plain is = entry-there count method mark.Plain old new homes is
    by mark.Off is = entry-there count method mark.Off old new homes is

  pub begins-there : HasBytes new.code (probe_place (begin_kind m) at old homes) (probe_bytes method (probe_index count (begin_kind m)))
  begins-there = by m begin-stands where
    by : (x : Mark) → HasBytes new.code 0 (probe_bytes method (probe_index count (begin_kind x))) → HasBytes new.code (probe_place (begin_kind x) at old homes) (probe_bytes method (probe_index count (begin_kind x)))
    by mark.Root there = there
    by mark.Plain there = there
    by mark.Off there = there

  pub ends-there : (k : EventKind) → (k ≡ kind.Leave) ⊎ (k ≡ kind.Unwind) → (k ≡ kind.Leave → IsReturn p method at) → HasBytes new.code (probe_place k at old homes) (probe_bytes method (probe_index count k))
  ends-there k (inl leaves) returns =
      subst (λ x. HasBytes new.code (probe_place x at old homes) (probe_bytes method (probe_index count x))) (sym leaves) (leave-stands (returns leaves))
  ends-there k (inr unwinds) returns =
      subst (λ x. HasBytes new.code (probe_place x at old homes) (probe_bytes method (probe_index count x))) (sym unwinds) (unwind-there count method m old new homes version)

-- ---- an event

module _ (v : View) (clock : ℕ) where
  comes-by : (live : List Held) (due : Due) (event : Event) → v.live ≡ live → IsTold due live → IfLeaves (telling.Due due) v → told_at due clock live ≡ Some event → ComesFromProbe v event
  comes-by live Nothing event is delivered leaves e = absurd (none-some event e)
  comes-by [] Begins event is delivered leaves e = absurd delivered
  comes-by [] (Ends k) event is delivered leaves e = absurd delivered.0
  comes-by (h ∷ more) Begins event is delivered leaves e =
      subst (ComesFromProbe v) (same_Some _ event e) (record {
        mark = h.mark;
        others = more;
        live = is;
        marked = delivered;
        at = 0;
        returns = λ leave. absurd (begin-no-leave h.mark leave);
        stands = λ count old new homes coded fits closed version. begins-there v.program h.method 0 h.mark count old new homes coded fits closed version;
      })
    where
      begin-no-leave : (m : Mark) → begin_kind m ≡ kind.Leave → ⊥
      begin-no-leave mark.Root e = cc
      begin-no-leave mark.Plain e = cc
      begin-no-leave mark.Off e = cc
  comes-by (h ∷ more) (Ends k) event is delivered leaves e = subst (ComesFromProbe v) (same_Some _ event e) (by delivered.1) where
    first-same : (a b : Held) (x y : List Held) → a ∷ x ≡ b ∷ y → a ≡ b
    first-same a b x y same = same_Some a b (ap (λ (l : List Held). slice_get l 0) same)

    whole : (at : ℕ) → (k ≡ kind.Leave → IsReturn v.program h.method at) → ComesFromProbe v (record { kind = k; method = h.method; clock = clock })
    whole at returns = record {
      mark = h.mark;
      others = more;
      live = is;
      marked = delivered.0;
      at = at;
      returns = returns;
      stands = λ count old new homes coded fits closed version. ends-there v.program h.method at h.mark count old new homes coded fits closed version k delivered.1 returns;
    }

    by : (k ≡ kind.Leave) ⊎ (k ≡ kind.Unwind) → ComesFromProbe v (record { kind = k; method = h.method; clock = clock })
    by (inr unwinds) = whole 0 (λ leaves. absurd (let e : kind.Leave ≡ kind.Unwind = sym leaves ∙ unwinds in cc))
    by (inl leaves_it) =
        let stands : HasReturn v = subst (λ x. IfLeaves (telling.Due (Ends x)) v) leaves_it leaves in
        let same : stands.current ≡ h = first-same stands.current h stands.others more (sym stands.live ∙ is) in
        whole stands.at (λ again. subst (λ (x : Held). IsReturn v.program x.method stands.at) same stands.returns)

-- what a call has come to
pub from-probe : (old new : View) (due : Due) → Stops old due new → IfLeaves (telling.Due due) new → (event : Event) → told_at due new.clock new.live ≡ Some event → ComesFromProbe new event
from-probe old new due stops leaves event delivered =
    comes-by new new.clock new.live due event refl (by due refl) leaves delivered
  where
    here : IsTold (next_stop (step_begun old)).due (next_stop (step_begun old)).live
    here = stop-told (mark_at (step_begun old).marks) (step_begun old).delivered (step_begun old).passed (step_begun old).live (to_come (step_begun old))

    by : (d : Due) → due ≡ d → IsTold d new.live
    by Nothing e = tt
    by Begins e =
        subst (λ l. IsTold Begins l) (sym (ap (λ (x : View). x.live) (stops.stepped ∙ ap (told_in (step_begun old)) e))) (subst (λ d. IsTold d (next_stop (step_begun old)).live) (stops.due_is ∙ e) here)
    by (Ends k) e =
        subst (λ l. IsTold (Ends k) l) (sym (ap (λ (x : View). x.live) (stops.stepped ∙ ap (told_in (step_begun old)) e))) (subst (λ d. IsTold d (next_stop (step_begun old)).live) (stops.due_is ∙ e) here)
