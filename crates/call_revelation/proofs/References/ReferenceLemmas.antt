-- What the instructions of a method that can begin methods begin is what the method does.
use Rattle.std.proofs.Common.{◌≡◌, ℕ, zero, suc, Bool, true, false, List, [], ◌∷◌, ◌++◌, ap, sym, refl, ◌∙◌, inl, inr}
use Rattle.std.specs.Prelude.{Option, Some, None, slice_get, ◌⊎◌, ◌||◌, if◌then◌else◌}
use Rattle.std.specs.List.{cons_option}
use Rattle.std.specs.Option.{option_map_or}
use Rattle.std.proofs.lemmas.Bool.{false≢true, or_cases, or_left, or_right}
use Rattle.std.proofs.lemmas.Option.{none-some, same_Some}
use Rattle.const_pool.specs.References.{Reference}
use Rattle.jvm_model.specs.declared.program.Program.{Program}
use Rattle.jvm_model.specs.declared.instruction.Local.{Local}
use Rattle.jvm_model.specs.declared.instruction.Operation.{Operation}
use Rattle.jvm_model.specs.declared.instruction.Operation.TheVariants.{Within, Named, Athrow, Monitor, Newarray, Arraylength, LoadElement, StoreElement, LdcString}
use Rattle.jvm_model.specs.Instructions.InvocationRules.{Selecting, Virtual, OfInterface}
use Rattle.jvm_model.specs.Classes.Load.{is_among}
use Rattle.jvm_model.specs.Instructions.SymbolicReference.{resolved_name}
use Rattle.jvm_model.specs.declared.instruction.SymbolicReference.{SymbolicReference}
use Rattle.jvm_model.specs.declared.instruction.SymbolicReference.TheVariants.{New, Getfield, Putfield, Getstatic, Putstatic, Invokevirtual, Invokespecial, Invokestatic, Invokeinterface, Checkcast, Instanceof, Anewarray, Multianewarray, LdcClass}
use Rattle.jvm_model.specs.Profiling.Revelation.{gained_by, gained_by_operation, gained_call, gained_in, gained_named, gained_on, is_named, symbolic_reference_in, symbolic_references_of}
use Rattle.jvm_model.specs.Profiling.Targets.{begun_by, begun_by_operation, loaded_class_named, targets_in}
use Rattle.jvm_model.proofs.Loading.Among.{among-append}
use Rattle.call_revelation.specs.Books.{called_on, is_call}

-- ---- an operation and what it names

-- a function on operations that looks at what can begin methods alone
abbrev SeesReference : (Operation Local → List ℕ) → (SymbolicReference → List ℕ) → Operation Local → Option SymbolicReference → Type 0
SeesReference of_operation of_reference op None = of_operation op ≡ []
SeesReference of_operation of_reference op (Some n) = of_operation op ≡ of_reference n

module _ (p : Program) (loaded : List ℕ) where
  begins : (op : Operation Local) → SeesReference (begun_by_operation p loaded) (begun_by p loaded) op (symbolic_reference_in op)
  begins (Named (New name)) = refl
  begins (Named (Getstatic r)) = refl
  begins (Named (Putstatic r)) = refl
  begins (Named (Invokestatic r)) = refl
  begins (Named (Invokespecial caller r interface)) = refl
  begins (Named (Invokevirtual r)) = refl
  begins (Named (Invokeinterface r)) = refl
  begins (Named (Getfield r)) = refl
  begins (Named (Putfield r)) = refl
  begins (Named (Checkcast name)) = refl
  begins (Named (Instanceof name)) = refl
  begins (Named (Anewarray name)) = refl
  begins (Named (Multianewarray name dimensions)) = refl
  begins (Named (LdcClass name)) = refl
  begins (Within i) = refl
  begins Athrow = refl
  begins Monitor = refl
  begins (Newarray kind) = refl
  begins Arraylength = refl
  begins (LoadElement k) = refl
  begins (StoreElement k) = refl
  begins (LdcString units) = refl

  gains : (new : ℕ) (op : Operation Local) → SeesReference (gained_by_operation p loaded new) (gained_by p loaded new) op (symbolic_reference_in op)
  gains new (Named (New name)) = refl
  gains new (Named (Getstatic r)) = refl
  gains new (Named (Putstatic r)) = refl
  gains new (Named (Invokestatic r)) = refl
  gains new (Named (Invokespecial caller r interface)) = refl
  gains new (Named (Invokevirtual r)) = refl
  gains new (Named (Invokeinterface r)) = refl
  gains new (Named (Getfield r)) = refl
  gains new (Named (Putfield r)) = refl
  gains new (Named (Checkcast name)) = refl
  gains new (Named (Instanceof name)) = refl
  gains new (Named (Anewarray name)) = refl
  gains new (Named (Multianewarray name dimensions)) = refl
  gains new (Named (LdcClass name)) = refl
  gains new (Within i) = refl
  gains new Athrow = refl
  gains new Monitor = refl
  gains new (Newarray kind) = refl
  gains new Arraylength = refl
  gains new (LoadElement k) = refl
  gains new (StoreElement k) = refl
  gains new (LdcString units) = refl

-- ---- a list of operations and what they name

-- one of these, and what it gives
pub record IsOne (f : SymbolicReference → List ℕ) (ns : List SymbolicReference) (m : ℕ) : Type 0 where
  pub index : ℕ
  pub reference : SymbolicReference
  pub there : slice_get ns index ≡ Some reference
  pub within : is_among m (f reference) ≡ true

module _ (of_operation : Operation Local → List ℕ) (f : SymbolicReference → List ℕ) (sees : (op : Operation Local) → SeesReference of_operation f op (symbolic_reference_in op)) where
  pub one-behind : (o : Option SymbolicReference) (ns : List SymbolicReference) (m : ℕ) → IsOne f ns m → IsOne f (cons_option o ns) m
  one-behind None ns m one = one
  one-behind (Some n) ns m one = record { index = suc one.index; reference = one.reference; there = one.there; within = one.within }

  abbrev all_of : List (Operation Local) → List ℕ
  all_of [] = []
  all_of (op ∷ rest) = of_operation op ++ all_of rest

  pub from-all : (ops : List (Operation Local)) (m : ℕ) → is_among m (all_of ops) ≡ true → IsOne f (symbolic_references_of ops) m
  from-all [] m h = absurd (false≢true h)
  from-all (op ∷ rest) m h =
      elim (or_cases (is_among m (of_operation op)) (is_among m (all_of rest)) (sym (among-append m (of_operation op) (all_of rest)) ∙ h)) [
        | inl a ↦ first (symbolic_reference_in op) (sees op) a
        | inr b ↦ one-behind (symbolic_reference_in op) (symbolic_references_of rest) m (from-all rest m b)
      ]
    where
      first : (o : Option SymbolicReference) → SeesReference of_operation f op o → is_among m (of_operation op) ≡ true → IsOne f (cons_option o (symbolic_references_of rest)) m
      first None e a = absurd (false≢true (sym (ap (is_among m) e) ∙ a))
      first (Some n) e a = record { index = 0; reference = n; there = refl; within = sym (ap (is_among m) e) ∙ a }

  pub to-all : (ops : List (Operation Local)) (m i : ℕ) (n : SymbolicReference) → slice_get (symbolic_references_of ops) i ≡ Some n → is_among m (f n) ≡ true → is_among m (all_of ops) ≡ true
  to-all [] m i n e h = absurd (none-some n e)
  to-all (op ∷ rest) m i n e h = among-append m (of_operation op) (all_of rest) ∙ by (symbolic_reference_in op) i (sees op) e (λ j. to-all rest m j n)
    where
      by : (o : Option SymbolicReference) (i : ℕ) → SeesReference of_operation f op o → slice_get (cons_option o (symbolic_references_of rest)) i ≡ Some n
          → ((j : ℕ) → slice_get (symbolic_references_of rest) j ≡ Some n → is_among m (f n) ≡ true → is_among m (all_of rest) ≡ true)
          → (is_among m (of_operation op) || is_among m (all_of rest)) ≡ true
      by None i s e behind = or_right (is_among m (of_operation op)) (is_among m (all_of rest)) (behind i e h)
      by (Some x) zero s e behind =
          or_left (is_among m (of_operation op)) (is_among m (all_of rest)) (ap (is_among m) s ∙ (ap (λ y. is_among m (f y)) (same_Some x n e) ∙ h))
      by (Some x) (suc j) s e behind = or_right (is_among m (of_operation op)) (is_among m (all_of rest)) (behind j e h)

  pub is-all : (ops : List (Operation Local)) (g : List (Operation Local) → List ℕ) → g [] ≡ [] → ((op : Operation Local) (rest : List (Operation Local)) → g (op ∷ rest) ≡ of_operation op ++ g rest)
      → g ops ≡ all_of ops
  is-all [] g nothing one = nothing
  is-all (op ∷ rest) g nothing one = one op rest ∙ ap (λ l. of_operation op ++ l) (is-all rest g nothing one)

-- ---- targets and gains

module _ (p : Program) (loaded : List ℕ) where
  pub target-of : (ops : List (Operation Local)) (m i : ℕ) (n : SymbolicReference) → slice_get (symbolic_references_of ops) i ≡ Some n → is_among m (begun_by p loaded n) ≡ true
      → is_among m (targets_in p loaded ops) ≡ true
  target-of ops m i n e h =
      ap (is_among m) (is-all (begun_by_operation p loaded) (begun_by p loaded) (begins p loaded) ops (targets_in p loaded) refl (λ op rest. refl))
      ∙ to-all (begun_by_operation p loaded) (begun_by p loaded) (begins p loaded) ops m i n e h

  module _ (new : ℕ) where
    pub gain-of : (ops : List (Operation Local)) (m i : ℕ) (n : SymbolicReference) → slice_get (symbolic_references_of ops) i ≡ Some n → is_among m (gained_by p loaded new n) ≡ true
        → is_among m (gained_in p loaded new ops) ≡ true
    gain-of ops m i n e h =
        ap (is_among m) (is-all (gained_by_operation p loaded new) (gained_by p loaded new) (gains p loaded new) ops (gained_in p loaded new) refl (λ op rest. refl))
        ∙ to-all (gained_by_operation p loaded new) (gained_by p loaded new) (gains p loaded new) ops m i n e h

    pub gain-from : (ops : List (Operation Local)) (m : ℕ) → is_among m (gained_in p loaded new ops) ≡ true → IsOne (gained_by p loaded new) (symbolic_references_of ops) m
    gain-from ops m h =
        from-all (gained_by_operation p loaded new) (gained_by p loaded new) (gains p loaded new) ops m
        (sym (ap (is_among m) (is-all (gained_by_operation p loaded new) (gained_by p loaded new) (gains p loaded new) ops (gained_in p loaded new) refl (λ op rest. refl))) ∙ h)

    -- it names the class itself
    pub record NamesIt (n : SymbolicReference) (m : ℕ) : Type 0 where
      pub named : is_named p new (resolved_name n) ≡ true
      pub begun : is_among m (begun_by p (loaded ++ new ∷ []) n) ≡ true

    -- or it is a call on a class above it
    pub record CallsIt (n : SymbolicReference) (m : ℕ) : Type 0 where
      pub call : is_call n ≡ true
      pub class : ℕ
      pub named : loaded_class_named p loaded (resolved_name n) ≡ Some class
      pub called : is_among m (called_on p new class n) ≡ true

    names-it : (n : SymbolicReference) (m : ℕ) → is_among m (gained_named p loaded new n (resolved_name n)) ≡ true → NamesIt n m
    names-it n m h = by (is_named p new (resolved_name n)) refl h
      where
        by : (b : Bool) → is_named p new (resolved_name n) ≡ b → is_among m (if b then begun_by p (loaded ++ new ∷ []) n else []) ≡ true → NamesIt n m
        by true e h = record { named = e; begun = h }
        by false e h = absurd (false≢true h)

    calls-it : (n : SymbolicReference) (by : Selecting) (r : Reference) (m : ℕ) → is_call n ≡ true → resolved_name n ≡ r.class
        → ((class : ℕ) → called_on p new class n ≡ gained_on p new class by r) → is_among m (gained_call p loaded new by r) ≡ true → CallsIt n m
    calls-it n by r m is same on h = at (loaded_class_named p loaded r.class) refl h
      where
        at : (o : Option ℕ) → loaded_class_named p loaded r.class ≡ o → is_among m (option_map_or (λ class. gained_on p new class by r) o []) ≡ true → CallsIt n m
        at None e h = absurd (false≢true h)
        at (Some class) e h =
            record { call = is; class = class; named = ap (loaded_class_named p loaded) same ∙ e; called = ap (is_among m) (on class) ∙ h }

    pub gained-either : (n : SymbolicReference) (m : ℕ) → is_among m (gained_by p loaded new n) ≡ true → NamesIt n m ⊎ CallsIt n m
    gained-either (New name) m h = inl (names-it (New name) m h)
    gained-either (Getstatic r) m h = inl (names-it (Getstatic r) m h)
    gained-either (Putstatic r) m h = inl (names-it (Putstatic r) m h)
    gained-either (Invokestatic r) m h = inl (names-it (Invokestatic r) m h)
    gained-either (Invokespecial caller r interface) m h = inl (names-it (Invokespecial caller r interface) m h)
    gained-either (Invokevirtual r) m h =
        let front = gained_named p loaded new (Invokevirtual r) r.class in
        let back = gained_call p loaded new Virtual r in
        elim (or_cases (is_among m front) (is_among m back) (sym (among-append m front back) ∙ h)) [
          | inl a ↦ inl (names-it (Invokevirtual r) m a)
          | inr b ↦ inr (calls-it (Invokevirtual r) Virtual r m refl refl (λ class. refl) b)
        ]
    gained-either (Invokeinterface r) m h =
        let front = gained_named p loaded new (Invokeinterface r) r.class in
        let back = gained_call p loaded new OfInterface r in
        elim (or_cases (is_among m front) (is_among m back) (sym (among-append m front back) ∙ h)) [
          | inl a ↦ inl (names-it (Invokeinterface r) m a)
          | inr b ↦ inr (calls-it (Invokeinterface r) OfInterface r m refl refl (λ class. refl) b)
        ]
    gained-either (Getfield r) m h = absurd (false≢true h)
    gained-either (Putfield r) m h = absurd (false≢true h)
    gained-either (Checkcast name) m h = absurd (false≢true h)
    gained-either (Instanceof name) m h = absurd (false≢true h)
    gained-either (Anewarray name) m h = absurd (false≢true h)
    gained-either (Multianewarray name dimensions) m h = absurd (false≢true h)
    gained-either (LdcClass name) m h = absurd (false≢true h)

    -- a call that names a loaded class
    pub called-gains : (n : SymbolicReference) (m class : ℕ) → loaded_class_named p loaded (resolved_name n) ≡ Some class → is_among m (called_on p new class n) ≡ true
        → is_among m (gained_by p loaded new n) ≡ true
    called-gains (Invokevirtual r) m class e h =
        among-append m (gained_named p loaded new (Invokevirtual r) r.class) (gained_call p loaded new Virtual r)
        ∙ or_right (is_among m (gained_named p loaded new (Invokevirtual r) r.class)) (is_among m (gained_call p loaded new Virtual r))
        (ap (λ o. is_among m (option_map_or (λ class. gained_on p new class Virtual r) o [])) e ∙ h)
    called-gains (Invokeinterface r) m class e h =
        among-append m (gained_named p loaded new (Invokeinterface r) r.class) (gained_call p loaded new OfInterface r)
        ∙ or_right (is_among m (gained_named p loaded new (Invokeinterface r) r.class)) (is_among m (gained_call p loaded new OfInterface r))
        (ap (λ o. is_among m (option_map_or (λ class. gained_on p new class OfInterface r) o [])) e ∙ h)
    called-gains (New name) m class e h = absurd (false≢true h)
    called-gains (Getstatic r) m class e h = absurd (false≢true h)
    called-gains (Putstatic r) m class e h = absurd (false≢true h)
    called-gains (Invokestatic r) m class e h = absurd (false≢true h)
    called-gains (Invokespecial caller r interface) m class e h = absurd (false≢true h)
    called-gains (Getfield r) m class e h = absurd (false≢true h)
    called-gains (Putfield r) m class e h = absurd (false≢true h)
    called-gains (Checkcast name) m class e h = absurd (false≢true h)
    called-gains (Instanceof name) m class e h = absurd (false≢true h)
    called-gains (Anewarray name) m class e h = absurd (false≢true h)
    called-gains (Multianewarray name dimensions) m class e h = absurd (false≢true h)
    called-gains (LdcClass name) m class e h = absurd (false≢true h)
