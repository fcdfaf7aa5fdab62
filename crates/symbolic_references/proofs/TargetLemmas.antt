-- The rules of invocations by the target that is found before anything is changed (JVM Specification 6.5).
use Rattle.std.proofs.Common.{◌≡◌, ℕ, ◌≤◌, List, length, drop, take, min, Option, Some, None, refl, sym, ap, ◌∙◌, arith}
use Rattle.std.specs.Prelude.{false, true, reverse, Result, Ok, Err}
use Rattle.std.specs.Option.{option_map}
use Rattle.std.proofs.lemmas.Bool.{false≢true}
use Rattle.std.proofs.lemmas.List.{length-map, length-reverse, length-take}
use Rattle.heap_objects.specs.declared.datum.Datum.{Datum}
use Rattle.heap_objects.specs.Heaps.{kind_at}
use Rattle.const_pool.specs.References.{Reference}
use Rattle.jvm_model.specs.declared.state.Phase.{Phase}
use Rattle.jvm_model.specs.declared.state.Phase.TheVariants.{Fresh, Running, Ready, Erroneous}
use Rattle.jvm_model.specs.declared.state.Shared.{Shared}
use Rattle.jvm_model.specs.Basis.Data.{Locals, Operands, World, Outcome}
use Rattle.jvm_model.specs.Instructions.InvocationRules.{Selecting, arguments_by, invokes_on, invokes_selected, invokes_with_static, names_interface, not_of_class, receiver_in, selected_by}
use Rattle.jvm_model.specs.Classes.Lookup.{MemberPlace}
use Rattle.jvm_model.specs.Instructions.SymbolicReference.{◌>>=◌, is_instance, present, receiver, unless_refused}
use Rattle.jvm_model.specs.Instructions.ObjectRules.{done}
use Rattle.jvm_model.specs.Instructions.Rules.{when_ready}
use Rattle.jvm_model.specs.Basis.SharedState.{class_of, phase_of}
use Rattle.jvm_model.specs.declared.program.Program.{Program}
use Rattle.member_selection.specs.declared.known.Chosen.{Chosen}
use Rattle.member_selection.specs.Known.{IsFixed}
use Rattle.symbolic_references.specs.Passing.{is_usable}
use Rattle.member_selection.specs.declared.outcome.AbruptCompletion.{AbruptCompletion}
use Rattle.member_selection.specs.declared.targets.Target.{Target as TheTarget}
use Rattle.member_selection.specs.Answers.{abrupt_view}
use Rattle.member_selection.specs.Objects.{class_at_kind}
use Rattle.member_selection.specs.Callees.{chosen_place}
use Rattle.member_selection.specs.Resolved.{invokes_instance, invokes_static_method, method_found}
use Rattle.member_selection.specs.Targets.{Target, as_datum, data_in, instance_target, invokes_target, static_target, target_in, unless_unready, unready_by}

-- ---- instance methods

module _ (w : World) (by : Selecting) (r : Reference) (s : Shared) (l : Locals) (o : Operands) where
  abbrev chosen : MemberPlace → List Datum → ℕ → Result Target Outcome
  chosen m args class = Ok (record { selected = selected_by w.program by m class; args = args })

  abbrev with_class : MemberPlace → List Datum → Result ℕ Outcome → Result Target Outcome
  with_class m args found = found >>= (λ object. Ok (class_at_kind w.program (kind_at object s.heap))) >>= chosen m args

  by-receiver : (m : MemberPlace) (args : List Datum) (found : Result ℕ Outcome)
      → invokes_target w (with_class m args found) s l o
      ≡ unless_refused s found (λ object. invokes_selected w (selected_by w.program by m (class_of w.program s object)) args s l (drop (length args) o))
  by-receiver m args (Ok object) = refl
  by-receiver m args (Err e) = refl

  abbrev receiver_of : List Datum → Result ℕ Outcome
  receiver_of args = receiver (receiver_in args) (is_instance w.program s.heap (receiver_in args) r.class) (not_of_class by)

  by-arguments : (m : MemberPlace) (found : Option (List Datum))
      → invokes_target w (present found >>= λ args. with_class m args (receiver_of args)) s l o ≡ invokes_on w by r m found s l o
  by-arguments m None = refl
  by-arguments m (Some args) = by-receiver m args (receiver_of args)

  by-method : (found : Result MemberPlace Outcome)
      → invokes_target w (found >>= λ m. present (arguments_by true r.member o) >>= λ args. with_class m args (receiver_of args)) s l o
      ≡ unless_refused s found (λ m. invokes_on w by r m (arguments_by true r.member o) s l o)
  by-method (Ok m) = by-arguments m (arguments_by true r.member o)
  by-method (Err e) = refl

  pub instance-rule : (kind : ℕ) → invokes_target w (instance_target w.program kind by r s.heap o) s l o ≡ invokes_instance w kind by r s l o
  instance-rule kind = by-method (method_found w.program kind (names_interface by) false r)

-- ---- static methods

module _ (w : World) (r : Reference) (s : Shared) (l : Locals) (o : Operands) where
  abbrev fixed : MemberPlace → List Datum → Result Target Outcome
  fixed m args = Ok (record { selected = Some m; args = args })

  by-present : (m : MemberPlace) (found : Option (List Datum)) → invokes_target w (present found >>= fixed m) s l o ≡ invokes_with_static w m found s l o
  by-present m None = refl
  by-present m (Some args) = refl

  by-phase : (m : MemberPlace) (phase : Option Phase)
      → invokes_target w (unless_unready (unready_by w.program m.class phase) (present (arguments_by false r.member o)) >>= fixed m) s l o
      ≡ when_ready w.program phase m.class s (invokes_with_static w m (arguments_by false r.member o) s l o)
  by-phase m (Some Ready) = by-present m (arguments_by false r.member o)
  by-phase m (Some Running) = by-present m (arguments_by false r.member o)
  by-phase m (Some Fresh) = refl
  by-phase m (Some Erroneous) = refl
  by-phase m None = refl

  by-found : (found : Result MemberPlace Outcome)
      → invokes_target w (found >>= λ m. unless_unready (unready_by w.program m.class (phase_of s m.class)) (present (arguments_by false r.member o)) >>= fixed m) s l o
      ≡ unless_refused s found (λ m. when_ready w.program (phase_of s m.class) m.class s (invokes_with_static w m (arguments_by false r.member o) s l o))
  by-found (Ok m) = by-phase m (phase_of s m.class)
  by-found (Err e) = refl

  pub static-rule : (kind : ℕ) → invokes_target w (static_target w.program kind r s o) s l o ≡ invokes_static_method w kind r s l o
  static-rule kind = by-found (method_found w.program kind false true r)

-- ---- a target that was found

pub length-data : (count : ℕ) (o : Operands) → count ≤ length o → length (data_in count o) ≡ count
length-data count o enough =
    let all : length (data_in count o) ≡ length (reverse (take count o)) = length-map (reverse (take count o)) as_datum in
    let back : length (reverse (take count o)) ≡ length (take count o) = length-reverse (take count o) in
    let len : length (take count o) ≡ min count (length o) = length-take count o in
    omega (arith, all, back, len, enough)

pub does-target : (w : World) (found : Result Target Outcome) (s : Shared) (l : Locals) (o : Operands) (t : TheTarget) → Ok (target_in o t) ≡ found → t.count ≤ length o
    → invokes_selected w (option_map chosen_place t.selected) (data_in t.count o) s l (drop t.count o) ≡ invokes_target w found s l o
does-target w found s l o t is enough =
    ap (λ n. invokes_selected w (option_map chosen_place t.selected) (data_in t.count o) s l (drop n o)) (sym (length-data t.count o enough))
    ∙ ap (λ x. invokes_target w x s l o) is

pub refuses-target : (w : World) (found : Result Target Outcome) (s : Shared) (l : Locals) (o : Operands) (e : AbruptCompletion) → Err (abrupt_view e) ≡ found
    → invokes_target w found s l o ≡ done s (abrupt_view e)
refuses-target w found s l o e is = ap (λ x. invokes_target w x s l o) (sym is)

-- ---- a static method that was found

ready-by : (p : Program) (class : ℕ) (phase : Option Phase) → is_usable phase ≡ true → unready_by p class phase ≡ None
ready-by p class (Some Ready) is = refl
ready-by p class (Some Running) is = refl
ready-by p class (Some Fresh) is = absurd (false≢true is)
ready-by p class (Some Erroneous) is = absurd (false≢true is)
ready-by p class None is = absurd (false≢true is)

module _ (p : Program) (kind : ℕ) (r : Reference) (s : Shared) (o : Operands) (m : Chosen) (count : ℕ) where
  abbrev of_method : MemberPlace → List Datum → Result Target Outcome
  of_method m args = Ok (record { selected = Some m; args = args })

  abbrev with_found : Result MemberPlace Outcome → Result Target Outcome
  with_found found =
      found >>= λ m. unless_unready (unready_by p m.class (phase_of s m.class)) (present (arguments_by false r.member o)) >>= of_method m

  pub target_fixed : IsFixed p kind r m → is_usable (phase_of s m.place.class) ≡ true → Some (data_in count o) ≡ arguments_by false r.member o
      → Ok (target_in o (record { selected = Some m; count = count })) ≡ static_target p kind r s o
  target_fixed is usable given =
      sym (ap with_found is.named
      ∙ (ap (λ asked. unless_unready asked (present (arguments_by false r.member o)) >>= of_method (chosen_place m)) (ready-by p m.place.class (phase_of s m.place.class) usable)
      ∙ ap (λ args. present args >>= of_method (chosen_place m)) (sym given)))
