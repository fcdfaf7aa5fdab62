-- The loop over the needs of a class: where it stops, and what it has done at its end.
use Rattle.std.proofs.Common.{◌≡◌, ℕ, suc, ◌-◌, ◌<◌, ◌≤◌, true, false, List, [], ◌∷◌, ◌++◌, length, map, drop, get_or, ap, sym, subst, ◌∙◌}
use Rattle.std.specs.Prelude.{Option, Some, None}
use Rattle.std.proofs.Math.ListN.{drop_of_length-le}
use Rattle.std.proofs.Math.Seq.{drop-cons}
use Rattle.jvm_model.specs.Classes.Load.{Incompatible, Loading, behind_needs, loading_done, loading_failed, is_among, is_met, load_named, load_needs, needs_of}
use Rattle.jvm_model.specs.Classes.Lookup.{interfaces_of, superclass_of}
use Rattle.jvm_model.specs.declared.program.Program.{Program}
use Rattle.class_linker.specs.LoadedClasses.{LoadedClassRows, holds_all, holds_class}
use Rattle.class_linker.specs.declared.loading.Fault as code
use Rattle.class_linker.specs.declared.loading.Need.{Need}
use Rattle.class_linker.specs.declared.loading.Standing.{Standing}
use Rattle.class_linker.specs.declared.loading.Standing.TheVariants.{Fresh}
use Rattle.class_linker.specs.States.{HaveLoadedClasses, IfFresh, IsFresh, fault_view, loading_view, need_view}
use Rattle.jvm_model.proofs.Loading.LoadKept.{not_loaded}
use Rattle.jvm_model.proofs.Loading.Among.{among-last}
use Rattle.class_linker.proofs.LoadWalks.{all_have, fresh_of, interfaces_pass, needs_done, stops_at, stops_behind, superclass_passes}

module _ (p : Program) (depth : ℕ) (path : List ℕ) (class : ℕ) (before now : List ℕ) (items : List Need) (i : ℕ)
    (walked : load_needs p (load_named p (depth - 1) (path ++ class ∷ [])) (map need_view (drop i items)) now
    ≡ load_needs p (load_named p (depth - 1) (path ++ class ∷ [])) (needs_of p class) before) where
  -- the need in hand, and those behind it
  from_here : (d : Need) → i < length items → load_needs p (load_named p (depth - 1) (path ++ class ∷ []))
      (need_view (get_or items i d) ∷ map need_view (drop (suc i) items)) now
      ≡ load_needs p (load_named p (depth - 1) (path ++ class ∷ [])) (needs_of p class) before
  from_here d within = ap (λ ns. load_needs p (load_named p (depth - 1) (path ++ class ∷ [])) (map need_view ns) now) (sym (drop-cons items i d within)) ∙ walked

  -- what loading it gave
  gave : (taken name after : List ℕ) (result view : Option code.Fault) → taken ≡ path ++ class ∷ []
      → loading_view after result ≡ load_named p (depth - 1) taken name now → result ≡ view
      → load_named p (depth - 1) (path ++ class ∷ []) name now ≡ loading_view after view
  gave taken name after result view same e is =
      ap (λ t. load_named p (depth - 1) t name now) (sym same) ∙ (sym e ∙ ap (loading_view after) is)

  pub stopped_at : (d : Need) → i < length items → (taken after : List ℕ) (result : Option code.Fault) (fault : code.Fault) → taken ≡ path ++ class ∷ []
      → loading_view after result ≡ load_named p (depth - 1) taken (get_or items i d).name.now now → result ≡ Some fault
      → loading_view after (Some fault) ≡ fresh_of p depth path before class
  stopped_at d within taken after result fault same e is =
      ap (behind_needs class) (sym (stops_at p (load_named p (depth - 1) (path ++ class ∷ [])) (need_view (get_or items i d)) (map need_view (drop (suc i) items)) now after
      (fault_view fault) (gave taken (get_or items i d).name.now after result (Some fault) same e is)) ∙ from_here d within)

  pub stopped_behind : (d : Need) → i < length items → (taken after : List ℕ) (result : Option code.Fault) → taken ≡ path ++ class ∷ []
      → loading_view after result ≡ load_named p (depth - 1) taken (get_or items i d).name.now now → result ≡ None
      → is_met p (need_view (get_or items i d)) ≡ false
      → loading_failed after Incompatible ≡ fresh_of p depth path before class
  stopped_behind d within taken after result same e is not_met =
      ap (behind_needs class) (sym (stops_behind p (load_named p (depth - 1) (path ++ class ∷ [])) (need_view (get_or items i d)) (map need_view (drop (suc i) items)) now after
      (gave taken (get_or items i d).name.now after result None same e is) not_met) ∙ from_here d within)

  -- ---- at the end

  all_done : length items ≤ i → load_needs p (load_named p (depth - 1) (path ++ class ∷ [])) (needs_of p class) before ≡ loading_done now
  all_done past = sym walked ∙ ap (λ ns. load_needs p (load_named p (depth - 1) (path ++ class ∷ [])) (map need_view ns) now) (drop_of_length-le items past)

  pub still_fresh : length items ≤ i → (s : Standing) → IfFresh p path before s → s ≡ Fresh class → is_among class now ≡ false
  still_fresh past s fresh is =
      let own : IsFresh p path before class = subst (IfFresh p path before) is fresh in
      ap (λ (l : Loading). is_among class l.loaded) (sym (all_done past))
      ∙ not_loaded p class (depth - 1) (path ++ class ∷ []) (needs_of p class) before (among-last class path) own.not_loaded

  pub interfaces_have : length items ≤ i → (rows : LoadedClassRows) → HaveLoadedClasses rows now → holds_all rows (interfaces_of p class) ≡ true
  interfaces_have past rows have =
      all_have (λ c. is_among c now) (holds_class rows) have (interfaces_of p class)
      (interfaces_pass p (λ c. is_among c now) class (needs_done p (depth - 1) (path ++ class ∷ []) now (needs_of p class) before (all_done past)))

  pub superclass_has : length items ≤ i → (rows : LoadedClassRows) → HaveLoadedClasses rows now → holds_all rows (superclass_of p class) ≡ true
  superclass_has past rows have =
      all_have (λ c. is_among c now) (holds_class rows) have (superclass_of p class)
      (superclass_passes p (λ c. is_among c now) class (needs_done p (depth - 1) (path ++ class ∷ []) now (needs_of p class) before (all_done past)))

  pub is_loaded : length items ≤ i → (after : List ℕ) → after ≡ now ++ class ∷ [] → loading_done after ≡ fresh_of p depth path before class
  is_loaded past after is = ap loading_done is ∙ ap (behind_needs class) (sym (all_done past))
