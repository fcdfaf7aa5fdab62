-- What a session's parts are together.
use Rattle.std.specs.Prelude.{◌≡◌, ◌+◌, ◌≤◌, ◌<◌, ◌^◌, ℕ, Bool, true, false, not, fold, filter, List, [], ◌∷◌, ◌++◌, length, ◌==◌, ◌&&◌}
use Rattle.std.specs.List.{enumerate_from, list_any}
use Rattle.jvm_model.specs.declared.event.Act.{Act}
use Rattle.jvm_model.specs.declared.event.Event.{Event}
use Rattle.jvm_model.specs.declared.event.Mark.{Mark}
use Rattle.jvm_model.specs.declared.program.MethodPlace.{MethodPlace}
use Rattle.jvm_model.specs.declared.program.Program.{Program}
use Rattle.jvm_model.specs.Soundness.Calls.{AreFrom}
use Rattle.jvm_model.specs.Profiling.EventLists.{entries, entries_by}
use Rattle.jvm_model.specs.Basis.KindNumbers.{user_count}
use Rattle.jvm_model.specs.Classes.Load.{is_among}
use Rattle.jvm_model.specs.Profiling.Points.{methods_selected, has_class}
use Rattle.jvm_model.specs.Profiling.Revealed.{Revealed, mark_of, marks_of}
use Rattle.jvm_model.specs.Profiling.Revelation.{IsLoadOrder}
use Rattle.jvm_model.specs.Rewriting.StandsFor.{mark_at}
use Rattle.jvm_model.specs.Profiling.Swaps.{same_mark}
use Rattle.jvm_model.specs.Soundness.Whole.{IsWhole}
use Rattle.jvm_machine.specs.declared.turn.Turn.{Turn}
use Rattle.jvm_machine.specs.declared.turn.Turn.TheVariants.{Settled, Loaded, Probe, Ended, Broken, NoMemory}
use Rattle.jvm_machine.specs.View.{View, is_resting, run_state, world}
use Rattle.class_linker.specs.Linkers.{LinkerView}
use Rattle.possible_callees.specs.Tables.{IsPrefix}
use Rattle.call_revelation.specs.Reveals.{IsRevelation, now_of}
use Rattle.context_tree.specs.Counts.{AreInOrder, opens}
use Rattle.context_tree.specs.Profiles.{Profile, calls_of, steps_credited, profile_of, event_taken}
use Rattle.context_tree.specs.Seen.{Seen, seen_act}
use Rattle.event_buffer.specs.Buffers.{last_clock}
use Rattle.profile_session.specs.declared.parts.Parts.{Parts}
use Rattle.profile_session.specs.Keeping.{Kept, at_point, marks_seen, swapped_now}
use Rattle.profile_session.specs.Images.{AreImageable}
use Rattle.profile_session.specs.Standing.{AtRest, InStep}
use Rattle.profile_session.specs.Turned.{events_in, kept_turned}

-- ---- what they are seen as

-- what the tree is, once it has taken what the buffer holds
abbrev pub profile_in : Parts → Profile
profile_in x = fold event_taken x.tree x.buffer.events

-- the calls that it has at most then
abbrev pub calls_in : Parts → ℕ
calls_in x = calls_of x.tree + entries x.buffer.events

abbrev pub revealed_in : Parts → Revealed
revealed_in x = now_of x.reveal

-- what is seen where this is revealed and this path is open
abbrev pub seen_by : Revealed → List ℕ → Seen
seen_by r path = record { selected = r.selected; entered = r.entered; loaded = r.loaded; «open» = path }

abbrev pub kept_in : Parts → Kept
kept_in x = record { seen = seen_by (revealed_in x) (profile_in x).open; swaps = x.swaps }

-- the classes that the machine has loaded
abbrev pub loaded_in : Parts → List ℕ
loaded_in x = (run_state x.vm).shared.loaded

-- what the linker of a machine is seen as
abbrev pub linking : View → LinkerView
linking v = record { program = v.program; loaded = (run_state v).shared.loaded }

-- the program and the input are the same
abbrev pub IsSameRun : Parts → Parts → Type 0
IsSameRun old new = world new.vm ≡ world old.vm

-- ---- they fit

-- The machine is whole, and no version is held needlessly; what is revealed is of its program; new activations begin in
-- versions of the marks that were shown; the depth is that of the open path, no event is late, and there are fewer
-- calls than a number can count.
pub record AreFit (x : Parts) : Type 0 where
  pub whole : x.vm.broken ≡ false
  pub tidy : x.vm.stale ≡ false
  pub revelation : IsRevelation x.vm.program x.reveal
  pub imageable : AreImageable x.vm.program
  pub root : is_among (user_count x.vm.program) x.reveal.lineage.loaded ≡ true
  pub marks : x.vm.marks ≡ x.reveal.shown
  pub depth : x.depth ≡ length (profile_in x).open
  pub shallow : x.depth ≤ 2 ^ 63
  pub few : calls_in x ≤ 2 ^ 63
  pub order : AreInOrder x.tree.clock x.buffer.events x.vm.clock
  pub last : last_clock x.buffer ≤ x.vm.clock
  pub room : 16 ≤ x.buffer.capacity

-- all that has changed is swapped
abbrev pub AreShown : Parts → Type 0
AreShown x = x.reveal.shown ≡ marks_of x.vm.program (revealed_in x)

-- ---- a point

-- no class is lost
abbrev pub IsGrown : Revealed → Revealed → Type 0
IsGrown before now = (class : ℕ) → is_among class before.loaded ≡ true → is_among class now.loaded ≡ true

-- what was shown are the marks of something that was revealed before
pub record IsShowable (x : Parts) : Type 0 where
  pub before : Revealed
  pub shown : x.reveal.shown ≡ marks_of x.vm.program before
  pub grown : IsGrown before (revealed_in x)

-- a method of the class has another mark than the one in this list
abbrev pub differs_from : Program → List Mark → Revealed → ℕ → Bool
differs_from p shown now class =
    list_any (λ (e : ℕ × MethodPlace). e.1.class == class && not (same_mark (mark_at shown e.0) (mark_of p now e.0))) (enumerate_from 0 p.methods)

abbrev pub changed_from : Program → List Mark → Revealed → List ℕ
changed_from p shown now = filter (differs_from p shown now) now.loaded

-- the classes whose marks have changed were swapped, and nothing else has changed
pub record Shows (old new : Parts) : Type 0 where
  pub same : new ≡ record old { vm = new.vm; reveal = new.reveal; swaps = new.swaps }
  pub vm : new.vm ≡ record old.vm { marks = marks_of old.vm.program (revealed_in old) }
  pub now : revealed_in new ≡ revealed_in old
  pub swaps : new.swaps ≡ old.swaps ++ swapped_now old.vm.program old.vm.clock (revealed_in old) (changed_from old.vm.program old.reveal.shown (revealed_in old))
  pub fit : AreFit new
  pub shown : AreShown new

-- the same where this is revealed now
pub record IsPoint (old : Parts) (r : Revealed) (new : Parts) : Type 0 where
  pub kept : kept_in new ≡ at_point old.vm.program old.vm.clock (kept_in old) (seen_by r (profile_in old).open)
  pub profile : profile_in new ≡ profile_in old
  pub calls : calls_in new ≡ calls_in old
  pub vm : new.vm ≡ record old.vm { marks = marks_of old.vm.program r }
  pub now : revealed_in new ≡ r
  pub fit : AreFit new
  pub shown : AreShown new
  pub acts : new.acts ≡ old.acts

-- ---- events

-- the tree has taken what the buffer held
pub record Drains (old new : Parts) : Type 0 where
  pub same : new ≡ record old { tree = new.tree; buffer = new.buffer }
  pub profile : profile_in new ≡ profile_in old
  pub calls : calls_in new ≤ calls_in old
  pub empty : new.buffer.events ≡ []
  pub fit : AreFit new

-- the event is the last one that is held
pub record Pushes (old : Parts) (e : Event) (new : Parts) : Type 0 where
  pub same : new ≡ record old { tree = new.tree; buffer = new.buffer }
  pub profile : profile_in new ≡ event_taken (profile_in old) e
  pub calls : calls_in new ≤ calls_in old + entries_by e.kind
  pub order : AreInOrder new.tree.clock new.buffer.events new.vm.clock
  pub last : last_clock new.buffer ≤ new.vm.clock
  pub room : 16 ≤ new.buffer.capacity

-- and the depth is that of the path which is open then
pub record Takes (old : Parts) (e : Event) (new : Parts) : Type 0 where
  pub same : new ≡ record old { tree = new.tree; buffer = new.buffer; depth = new.depth }
  pub profile : profile_in new ≡ event_taken (profile_in old) e
  pub calls : calls_in new ≤ calls_in old + entries_by e.kind
  pub fit : AreFit new

-- ---- what is heard

-- the session has done what the turn asks
pub record Hears (old : Parts) (turn : Turn) (new : Parts) : Type 0 where
  pub kept : kept_in new ≡ kept_turned old.vm.program old.vm.clock (kept_in old) turn
  pub profile : profile_in new ≡ fold event_taken (profile_in old) (events_in turn)
  pub calls : calls_in new ≤ calls_in old + entries (events_in turn)
  pub vm : new.vm ≡ record old.vm { marks = marks_seen old.vm.program (kept_in new).seen }
  pub fit : AreFit new
  pub shown : AreShown new
  pub acts : new.acts ≡ old.acts

-- What it needs to know of an event: it is told now, no class is known that was not loaded, a method that it enters is
-- of a known class, and it can be counted.
pub record IsTellable (x : Parts) (e : Event) : Type 0 where
  pub now : e.clock ≡ x.vm.clock
  pub prefix : IsPrefix x.reveal.lineage.loaded (loaded_in x)
  pub begun : opens (profile_in x).open e.kind ≡ true → has_class x.vm.program x.reveal.lineage.loaded e.method ≡ true
  pub shallow : x.depth + entries_by e.kind ≤ 2 ^ 63
  pub few : calls_in x + entries_by e.kind ≤ 2 ^ 63

-- all that is loaded is known, or more was loaded behind it
pub record CanLoad (x : Parts) : Type 0 where
  pub prefix : IsPrefix x.reveal.lineage.loaded (loaded_in x)
  pub order : IsLoadOrder x.vm.program [] (loaded_in x)

-- And of classes: they are the ones that are loaded more.
pub record AreLoadable (x : Parts) (classes : List ℕ) : Type 0 where
  pub some : 0 < length classes
  pub loaded : x.reveal.lineage.loaded ++ classes ≡ loaded_in x
  pub order : IsLoadOrder x.vm.program [] (loaded_in x)

abbrev pub Needs : Parts → Turn → Type 0
Needs x (Probe e) = IsTellable x e
Needs x (Loaded classes) = AreLoadable x classes
Needs x Settled = Unit {0}
Needs x Ended = Unit {0}
Needs x Broken = Unit {0}
Needs x NoMemory = Unit {0}

pub record IsHearable (x : Parts) (turn : Turn) : Type 0 where
  pub fit : AreFit x
  pub shown : AreShown x
  pub needs : Needs x turn

-- ---- actions

abbrev pub chosen_by : Act → Revealed → Revealed
chosen_by act r = record r { selected = methods_selected act r.selected }

-- the action is accepted, and the classes whose marks it has changed were swapped
pub record Acts (old : Parts) (act : Act) (new : Parts) : Type 0 where
  pub kept : kept_in new ≡ at_point old.vm.program old.vm.clock (kept_in old) (seen_act (kept_in old).seen act)
  pub profile : profile_in new ≡ profile_in old
  pub calls : calls_in new ≡ calls_in old
  pub vm : new.vm ≡ record old.vm { marks = marks_seen old.vm.program (kept_in new).seen }
  pub fit : AreFit new
  pub shown : AreShown new
  pub acts : new.acts ≡ old.acts ++ act ∷ []

-- the tree has taken all that was told, and the steps up to the clock
pub record Brings (old new : Parts) : Type 0 where
  pub same : new ≡ record old { tree = new.tree; buffer = new.buffer }
  pub tree : new.tree ≡ steps_credited old.vm.clock (profile_in old)
  pub profile : profile_in new ≡ steps_credited old.vm.clock (profile_in old)
  pub calls : calls_in new ≤ calls_in old
  pub fit : AreFit new

-- ---- between turns

-- What they are of these events: the tree is theirs once it has taken what the buffer holds, but for steps that it was
-- given already.
pub record AreOf (x : Parts) (delivered : List Event) : Type 0 where
  pub profile : steps_credited x.vm.clock (profile_in x) ≡ steps_credited x.vm.clock (profile_of delivered)
  pub calls : calls_in x ≤ entries delivered
  pub order : AreInOrder 0 delivered x.vm.clock

pub record IsProfiling (x : Parts) : Type 0 where
  pub fit : AreFit x
  pub shown : AreShown x
  pub whole : IsWhole x.vm.program
  pub from : AreFrom 0 x.acts

-- at rest
pub record Rests (x : Parts) : Type 0 where
  pub is : IsProfiling x
  pub delivered : List Event
  pub are : AreOf x delivered
  pub stands : AtRest x.acts (world x.vm) delivered (kept_in x) x.vm

-- in a step
pub record IsBusy (x : Parts) : Type 0 where
  pub is : IsProfiling x
  pub busy : is_resting x.vm ≡ false
  pub delivered : List Event
  pub are : AreOf x delivered
  pub stands : InStep x.acts (world x.vm) delivered (kept_in x) x.vm
