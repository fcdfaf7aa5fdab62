-- What loading needs and leaves.
use Rattle.std.proofs.Common.{◌≡◌, ℕ, Bool, true, false, List, [], ◌∷◌, ◌++◌, length, map, ap, ap₂, sym, refl, ◌∙◌}
use Rattle.std.specs.Prelude.{Option, Some, None, filter_map, flat_map, take, ◌==◌, ◌||◌}
use Rattle.std.proofs.Math.Seq.{take-append_seam, take-length}
use Rattle.std.specs.List.{cons_option}
use Rattle.std.specs.Option.{option_to_list}
use Rattle.std.proofs.lemmas.Bool.{false≢true, eqb-true}
use Rattle.const_pool.specs.declared.class.ClassFile.{ClassFile}
use Rattle.const_pool.specs.References.{named_class}
use Rattle.jvm_model.specs.Classes.Load as load
use Rattle.jvm_model.specs.declared.program.Program.{Program}
use Rattle.jvm_model.proofs.Loading.Among.{among-append}
use Rattle.class_linker.specs.declared.loading.LinkerState.{LinkerState}
use Rattle.class_linker.specs.LoadedClasses.{AreKept, AreLoadedClasses, LoadedClassRows, holds_class}
use Rattle.class_linker.specs.States.{IsLater, IsState, needs_at, needs_in}

each_need : (f : ℕ → Option (List ℕ)) (xs : List ℕ)
    → flat_map (λ x. map (load.need true) (option_to_list (f x))) xs ≡ map (load.need true) (filter_map f xs)
each_need f [] = refl
each_need f (x ∷ xs) = by (f x) (each_need f xs)
  where
    by : (o : Option (List ℕ)) → flat_map (λ x. map (load.need true) (option_to_list (f x))) xs ≡ map (load.need true) (filter_map f xs)
        → map (load.need true) (option_to_list o) ++ flat_map (λ x. map (load.need true) (option_to_list (f x))) xs
        ≡ map (load.need true) (cons_option o (filter_map f xs))
    by None rest = rest
    by (Some name) rest = ap (λ l. load.need true name ∷ l) rest

pub needs_are : (c : ClassFile) → needs_in c ≡ load.class_needs c
needs_are c = ap (λ l. needs_at c false c.super_class ++ l) (each_need (named_class c.pool) c.interfaces)

-- ---- a state after a row was made

module _ (p : Program) (s : LinkerState) (rows : LoadedClassRows) (is : IsState p s) (are : AreLoadedClasses p rows) (kept : AreKept s.rows rows) where
  pub state_same : (loaded : List ℕ) → loaded ≡ s.loaded → IsState p (record { rows = rows; loaded = loaded })
  state_same loaded same = record {
    rows = are;
    loaded = λ c among. kept c (is.loaded c (ap (load.is_among c) (sym same) ∙ among));
  }

  pub state_more : (class : ℕ) (loaded : List ℕ) → loaded ≡ s.loaded ++ class ∷ [] → holds_class rows class ≡ true
      → IsState p (record { rows = rows; loaded = loaded })
  state_more class loaded more has = record {
    rows = are;
    loaded = λ c among. by c (load.is_among c s.loaded) (c == class) refl refl (sym (among-append c s.loaded (class ∷ [])) ∙ (ap (load.is_among c) (sym more) ∙ among));
  }
    where
      by : (c : ℕ) (before last : Bool) → load.is_among c s.loaded ≡ before → (c == class) ≡ last
          → (load.is_among c s.loaded || ((c == class) || false)) ≡ true → holds_class rows c ≡ true
      by c true last was is_last among = kept c (is.loaded c was)
      by c false true was is_last among = ap (holds_class rows) (eqb-true c class is_last) ∙ has
      by c false false was is_last among =
          absurd (false≢true (sym (ap₂ (λ a b. a || (b || false)) was is_last) ∙ among))

pub later_same : (s : LinkerState) (rows : LoadedClassRows) (loaded : List ℕ) → AreKept s.rows rows → loaded ≡ s.loaded → IsLater s (record { rows = rows; loaded = loaded })
later_same s rows loaded kept same = record { rows = kept; loaded = ap (take (length s.loaded)) same ∙ take-length s.loaded }

pub later_more : (s : LinkerState) (rows : LoadedClassRows) (loaded more : List ℕ) → AreKept s.rows rows → loaded ≡ s.loaded ++ more
    → IsLater s (record { rows = rows; loaded = loaded })
later_more s rows loaded more kept same =
    record { rows = kept; loaded = ap (take (length s.loaded)) same ∙ take-append_seam s.loaded more }
