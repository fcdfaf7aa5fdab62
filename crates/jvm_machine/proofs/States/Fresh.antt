-- A machine that was just made: original code runs, and nothing was done.
use Rattle.std.proofs.Common.{◌≡◌, ℕ, zero, suc, true, false, List, [], ◌∷◌, length, map, Option, Some, None, slice_get, slice_index_or, refl, sym, ap, ap₂, ◌∙◌}
use Rattle.std.specs.List.{range_with_len}
use Rattle.std.specs.Option.{option_map_or}
use Rattle.const_pool.specs.declared.class.ClassFile.{ClassFile}
use Rattle.const_pool.specs.declared.class.Member.{Member}
use Rattle.jvm_model.specs.declared.event.Mark.{Mark}
use Rattle.jvm_model.specs.declared.event.Mark.TheVariants.{Off}
use Rattle.jvm_model.specs.declared.program.MethodPlace.{MethodPlace}
use Rattle.jvm_model.specs.declared.program.Program.{Program}
use Rattle.jvm_model.specs.declared.state.State.{State}
use Rattle.jvm_model.specs.Basis.Programs.{class_at}
use Rattle.jvm_model.specs.Turns.Told.{helds}
use Rattle.interpreter.specs.declared.turns.hands.Hand.{Hand}
use Rattle.interpreter.specs.Machine.Before.{IsAtStart}
use Rattle.prepared_code.specs.Entries.{no_version, original_slot, original_version, original_versions, version_entry, version_in, version_of}
use Rattle.prepared_code.specs.Standing.{IsSetUp}
use Rattle.prepared_code.specs.Tables.{Version, Versions}
use Rattle.prepared_code.specs.Versions.{Setup, mark_of}
use Rattle.jvm_machine.specs.Machine.{IsMachine, marks_of, state_seen}
use Rattle.jvm_machine.specs.View.{View, machine_made}

abbrev fresh_hand : Hand
fresh_hand = record { moves = false; delivered = false; passed = 0 }

-- ---- no version of original code is marked

abbrev IsPlain : Version → Type 0
IsPlain x = x.prepared.mark ≡ Off

pub original-plain : (p : Program) (k : ℕ) → IsPlain (original_version p k)
original-plain p k = at (slice_get p.methods k) where
  entry : (place : MethodPlace) (c : ClassFile) (m : Option Member) → IsPlain (option_map_or (version_entry k c) m (no_version k))
  entry place c None = refl
  entry place c (Some m) = refl

  within : (place : MethodPlace) (c : Option ClassFile) → IsPlain (option_map_or (version_in k place) c (no_version k))
  within place None = refl
  within place (Some c) = entry place c (slice_get c.methods place.position)

  at : (place : Option MethodPlace) → IsPlain (option_map_or (version_of p k) place (no_version k))
  at None = refl
  at (Some place) = within place (class_at p place.class)

slot-plain : (p : Program) (xs : List ℕ) (k : ℕ) → option_map_or (λ (x : Version). x.prepared.mark) (slice_index_or (map (original_slot p) xs) k None) Off ≡ Off
slot-plain p [] k = refl
slot-plain p (x ∷ xs) zero = original-plain p x
slot-plain p (x ∷ xs) (suc k) = slot-plain p xs k

all-same : {A B : Type 0} (f : A → Mark) → ((a : A) → f a ≡ Off) → (xs : List A) (ys : List B) → length xs ≡ length ys → map f xs ≡ map (λ y. Off) ys
all-same f each [] [] e = refl
all-same f each [] (y ∷ ys) e = absurd (let h : 0 ≡ suc (length ys) = e in cc)
all-same f each (x ∷ xs) [] e = absurd (let h : suc (length xs) ≡ 0 = e in cc)
all-same f each (x ∷ xs) (y ∷ ys) e = ap₂ ◌∷◌ (each x) (all-same f each xs ys (ap pred_of e)) where
  pred_of : ℕ → ℕ
  pred_of zero = 0
  pred_of (suc n) = n

original-marks : (p : Program) → length (original_versions p).current ≡ length p.methods → marks_of (original_versions p) ≡ map (λ place. Off) p.methods
original-marks p count = all-same (mark_of (original_versions p)) (λ k. slot-plain p (range_with_len 0 (length p.methods)) k) (original_versions p).current p.methods count

-- ---- the machine

module _ (w : Setup) (s : State) (set : IsSetUp w) (at_start : IsAtStart w.world s) where
  pub fresh-machine : IsMachine w fresh_hand (state_seen w s false false 0 fresh_hand) s
  fresh-machine = record {
    homes = set.homes;
    has = set.has;
    before_the_run = λ unstarted. record { clock = refl; passed = refl; delivered = refl };
    whole = λ same. record {
      stands = λ resting started. absurd (let e : false ≡ true = started in cc);
      rests = λ resting started. absurd (let e : false ≡ true = started in cc);
      in_hand = λ busy. absurd (let e : true ≡ false = busy in cc);
      sound = λ busy. absurd (let e : true ≡ false = busy in cc);
      first = λ unstarted. at_start;
    };
  }

  pub fresh-seen : (p : Program) (input : List ℕ) → w.world.program ≡ p → w.world.input ≡ input → w.versions ≡ original_versions p → state_seen w s false false 0 fresh_hand ≡ machine_made p input
  fresh-seen p input program given versions =
      let count : length (original_versions p).current ≡ length p.methods =
      sym (ap (λ (v : Versions). length v.current) versions) ∙ (set.has.are.count ∙ ap (λ (q : Program). length q.methods) program) in
      let view : Program → List ℕ → View = λ q given. record (machine_made q given) { marks = marks_of w.versions; live = helds (mark_of w.versions) s.stack } in
      ap₂ view program given
      ∙ ap₂ (λ marks live. record (machine_made p input) { marks = marks; live = live }) (ap marks_of versions ∙ original-marks p count)
      (ap (λ (z : State). helds (mark_of w.versions) z.stack) at_start.before)
