-- What a revelation keeps is enough: what a class adds to the targets of operations is what it makes of the
-- instructions that name it, and of the calls on a class above it.
use Rattle.std.proofs.Common.{◌≡◌, ℕ, Bool, true, false, List, [], ◌∷◌, ◌++◌, ap, ap₂, sym, refl, ◌∙◌}
use Rattle.std.proofs.lemmas.List.{append-nil}
use Rattle.std.specs.Prelude.{filter_map, flat_map, Option, Some, None, ◌||◌, if◌then◌else◌}
use Rattle.std.specs.List.{cons_option}
use Rattle.std.specs.Option.{option_and_then, option_map, option_map_or}
use Rattle.const_pool.specs.References.{Reference}
use Rattle.jvm_model.specs.Basis.Data.{Program, Local, Operation, Within, Named, Athrow, Monitor, Newarray, Arraylength, LoadElement, StoreElement, LdcString}
use Rattle.jvm_model.specs.Instructions.SymbolicReference.{SymbolicReference, New, Getfield, Putfield, Getstatic, Putstatic, Invokevirtual, Invokespecial, Invokestatic, Invokeinterface, Checkcast, Instanceof, Anewarray, Multianewarray, LdcClass}
use Rattle.jvm_model.specs.Instructions.InvocationRules.{Selecting, Virtual, OfInterface, names_interface, selected_by}
use Rattle.jvm_model.specs.Classes.Load.{is_among}
use Rattle.jvm_model.specs.Classes.Lookup.{MemberPlace, is_subtype, resolved_method}
use Rattle.jvm_model.specs.Classes.Selection.{is_static}
use Rattle.jvm_model.specs.Profiling.Revelation.{Call, call_gain, call_in, call_on, calls_of, gained_by, gained_by_operation, gained_call, gained_from, gained_in, gained_named, gained_on, named_gain, symbolic_reference_in, symbolic_references_of}
use Rattle.jvm_model.specs.Profiling.Targets.{method_coded, found_where, loaded_class_named}
use Rattle.jvm_model.proofs.Loading.Among.{among-append, or-exchanged}

module _ (p : Program) (loaded : List ℕ) (new : ℕ) where
  abbrev named_part : Operation Local → List ℕ
  named_part op = option_map_or (named_gain p loaded new) (symbolic_reference_in op) []

  abbrev call_part : Operation Local → List ℕ
  call_part op = option_map_or (call_gain p new) (call_in p loaded op) []

  -- the gain of a call, by the call that is kept
  call-kept : (by : Selecting) (r : Reference) → gained_call p loaded new by r ≡ option_map_or (call_gain p new) (call_on p loaded by r) []
  call-kept by r = at (loaded_class_named p loaded r.class)
    where
      mapped : (class : ℕ) (o : Option MemberPlace)
          → (if is_subtype p new class then option_map_or (λ m. method_coded p (selected_by p by m new)) o [] else [])
          ≡ option_map_or (call_gain p new) (option_map (λ m. record { class = class; by = by; method = m }) o) []
      mapped class (Some m) = refl
      mapped class None = test (is_subtype p new class)
        where
          test : (b : Bool) → (let l : List ℕ = if b then [] else [] in l) ≡ []
          test true = refl
          test false = refl

      at : (o : Option ℕ) → option_map_or (λ class. gained_on p new class by r) o []
          ≡ option_map_or (call_gain p new)
          (option_and_then (λ class. option_map (λ m. record { class = class; by = by; method = m }) (found_where (is_static p) false (resolved_method p class (names_interface by) r.member))) o) []
      at None = refl
      at (Some class) = mapped class (found_where (is_static p) false (resolved_method p class (names_interface by) r.member))

  -- an operation's gain is that of its name and that of its call
  operation-kept : (op : Operation Local) → gained_by_operation p loaded new op ≡ named_part op ++ call_part op
  operation-kept (Named (New name)) = sym (append-nil (gained_by p loaded new (New name)))
  operation-kept (Named (Getstatic r)) = sym (append-nil (gained_by p loaded new (Getstatic r)))
  operation-kept (Named (Putstatic r)) = sym (append-nil (gained_by p loaded new (Putstatic r)))
  operation-kept (Named (Invokestatic r)) = sym (append-nil (gained_by p loaded new (Invokestatic r)))
  operation-kept (Named (Invokespecial caller r interface)) = sym (append-nil (gained_by p loaded new (Invokespecial caller r interface)))
  operation-kept (Named (Invokevirtual r)) = ap (λ l. gained_named p loaded new (Invokevirtual r) r.class ++ l) (call-kept Virtual r)
  operation-kept (Named (Invokeinterface r)) = ap (λ l. gained_named p loaded new (Invokeinterface r) r.class ++ l) (call-kept OfInterface r)
  operation-kept (Named (Getfield r)) = refl
  operation-kept (Named (Putfield r)) = refl
  operation-kept (Named (Checkcast name)) = refl
  operation-kept (Named (Instanceof name)) = refl
  operation-kept (Named (Anewarray name)) = refl
  operation-kept (Named (Multianewarray name dimensions)) = refl
  operation-kept (Named (LdcClass name)) = refl
  operation-kept (Within i) = refl
  operation-kept Athrow = refl
  operation-kept Monitor = refl
  operation-kept (Newarray kind) = refl
  operation-kept Arraylength = refl
  operation-kept (LoadElement k) = refl
  operation-kept (StoreElement k) = refl
  operation-kept (LdcString units) = refl

  flat-made : (A : Type 0) (f : A → List ℕ) (g : Operation Local → Option A) (op : Operation Local) (rest : List (Operation Local))
      → flat_map f (filter_map g (op ∷ rest)) ≡ option_map_or f (g op) [] ++ flat_map f (filter_map g rest)
  flat-made A f g op rest = by (g op)
    where
      by : (o : Option A) → flat_map f (cons_option o (filter_map g rest)) ≡ option_map_or f o [] ++ flat_map f (filter_map g rest)
      by None = refl
      by (Some x) = refl

  -- among a list whose parts are put in another order
  turned : (m : ℕ) (a b c d : List ℕ) → is_among m ((a ++ b) ++ (c ++ d)) ≡ is_among m ((a ++ c) ++ (b ++ d))
  turned m a b c d =
      among-append m (a ++ b) (c ++ d) ∙ (ap₂ (λ x y. x || y) (among-append m a b) (among-append m c d)
      ∙ (or-exchanged (is_among m a) (is_among m b) (is_among m c) (is_among m d)
      ∙ (sym (ap₂ (λ x y. x || y) (among-append m a c) (among-append m b d)) ∙ sym (among-append m (a ++ c) (b ++ d)))))

  -- What is gained by operations is gained from what is kept of them.
  pub kept-gains : (operations : List (Operation Local)) (m : ℕ)
      → is_among m (gained_in p loaded new operations) ≡ is_among m (gained_from p loaded new (symbolic_references_of operations) (calls_of p loaded operations))
  kept-gains [] m = refl
  kept-gains (op ∷ rest) m =
      let names = flat_map (named_gain p loaded new) (symbolic_references_of rest) in
      let calls = flat_map (call_gain p new) (calls_of p loaded rest) in
      ap (λ l. is_among m (l ++ gained_in p loaded new rest)) (operation-kept op)
      ∙ (among-append m (named_part op ++ call_part op) (gained_in p loaded new rest)
      ∙ (ap (λ b. is_among m (named_part op ++ call_part op) || b) (kept-gains rest m)
      ∙ (sym (among-append m (named_part op ++ call_part op) (names ++ calls))
      ∙ (turned m (named_part op) (call_part op) names calls
      ∙ sym (ap₂ (λ a b. is_among m (a ++ b)) (flat-made SymbolicReference (named_gain p loaded new) symbolic_reference_in op rest) (flat-made Call (call_gain p new) (call_in p loaded) op rest))))))
