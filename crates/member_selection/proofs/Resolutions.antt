-- What the linker's answer to a load says of the resolution (JVM Specification 5.4.3.1).
use Rattle.std.proofs.Common.{◌≡◌, ℕ, ◌≤◌, true, List, [], ◌∷◌, ◌++◌, ap, sym, subst, refl, ◌∙◌}
use Rattle.std.specs.Prelude.{◌/◌, length, drop, Option, Some, None, Ok, Err, unwrap_or}
use Rattle.class_linker.specs.declared.answers.Loaded.TheVariants.{New, Already, Throws}
use Rattle.class_linker.specs.Linkers.{absent_name, answer_by, answer_of, error_number}
use Rattle.jvm_model.specs.declared.program.Program.{Program}
use Rattle.jvm_model.specs.Basis.Data.{Raises}
use Rattle.jvm_model.specs.Basis.KindNumbers.{user_count}
use Rattle.jvm_model.specs.Classes.Kinds.{kind_named, meaning_of}
use Rattle.jvm_model.specs.Classes.Load.{Fault, NoClass, Circular, Incompatible, error_of, is_among, load_of}
use Rattle.jvm_model.specs.Instructions.SymbolicReference.{kind_unless, message_of, resolved_kind}
use Rattle.jvm_model.specs.declared.instruction.SymbolicReference.TheVariants.{New as NewReference}
use Rattle.jvm_model.proofs.Loading.LoadsAgain.{newly-loaded}
use Rattle.member_selection.specs.Answers.{exception_numbered}
use Rattle.jvm_model.specs.Instructions.Exceptions.{exception_name}
use Rattle.jvm_model.proofs.Loading.Among.{among-front}
use Rattle.member_selection.specs.Objects.{IsResolved, IsUsable}
use Rattle.member_selection.proofs.Loads.{resolves}

-- a kind was found, and these classes were loaded for it
pub record Finds (p : Program) (before name classes : List ℕ) (kind : ℕ) : Type 0 where
  pub found : Ok kind ≡ resolved_kind p before name
  pub loaded : before ++ classes ≡ (load_of p before name).loaded
  pub resolved : IsResolved (record { program = p; loaded = (load_of p before name).loaded }) name kind

-- a fault stopped it, behind these classes
pub record Fails (p : Program) (before name classes : List ℕ) (number : ℕ) (message : Option (List ℕ)) : Type 0 where
  pub found : Err (Raises (exception_name (exception_numbered number)) message) ≡ resolved_kind p before name
  pub loaded : before ++ classes ≡ (load_of p before name).loaded

whole : (p : Program) (before name : List ℕ) → before ++ drop (length before) (load_of p before name).loaded ≡ (load_of p before name).loaded
whole p before name = newly-loaded p before (NewReference name) [] refl

fault-name : (fault : Fault) → exception_name (exception_numbered (error_number (error_of fault))) ≡ error_of fault
fault-name (NoClass name) = refl
fault-name Circular = refl
fault-name Incompatible = refl

fault-message : (fault : Fault) → absent_name fault ≡ message_of fault
fault-message (NoClass name) = refl
fault-message Circular = refl
fault-message Incompatible = refl

-- ---- the answer, by the fault

already-by : (o : Option Fault) (k kind : ℕ) (classes : List ℕ) → Already kind ≡ answer_by o k classes → (o ≡ None) × (k ≡ kind) × (classes ≡ [])
already-by None k kind [] e = (refl, (let same : Already kind ≡ Already k → k ≡ kind = λ e. cc in same e), refl)
already-by None k kind (class ∷ more) e = absurd (let no : Already kind ≡ New k (class ∷ more) → ⊥ = λ e. cc in no e)
already-by (Some fault) k kind classes e =
    absurd (let no : Already kind ≡ Throws (error_number (error_of fault)) classes (absent_name fault) → ⊥ = λ e. cc in no e)

new-by : (o : Option Fault) (k kind : ℕ) (given classes : List ℕ) → New kind given ≡ answer_by o k classes → (o ≡ None) × (k ≡ kind) × (classes ≡ given)
new-by None k kind given [] e = absurd (let no : New kind given ≡ Already k → ⊥ = λ e. cc in no e)
new-by None k kind given (class ∷ more) e = (
  refl,
  (let same : New kind given ≡ New k (class ∷ more) → k ≡ kind = λ e. cc in same e),
  (let same : New kind given ≡ New k (class ∷ more) → class ∷ more ≡ given = λ e. cc in same e),
)
new-by (Some fault) k kind given classes e =
    absurd (let no : New kind given ≡ Throws (error_number (error_of fault)) classes (absent_name fault) → ⊥ = λ e. cc in no e)

stopped-by : (o : Option Fault) (k number : ℕ) (given classes : List ℕ) (message : Option (List ℕ)) → Throws number given message ≡ answer_by o k classes
    → (fault : Fault) × (o ≡ Some fault) × (error_number (error_of fault) ≡ number) × (absent_name fault ≡ message) × (classes ≡ given)
stopped-by None k number given [] message e = absurd (let no : Throws number given message ≡ Already k → ⊥ = λ e. cc in no e)
stopped-by None k number given (class ∷ more) message e =
    absurd (let no : Throws number given message ≡ New k (class ∷ more) → ⊥ = λ e. cc in no e)
stopped-by (Some fault) k number given classes message e = (
  fault,
  refl,
  (let same : Throws number given message ≡ Throws (error_number (error_of fault)) classes (absent_name fault) → error_number (error_of fault) ≡ number = λ e. cc in same e),
  (let same : Throws number given message ≡ Throws (error_number (error_of fault)) classes (absent_name fault) → absent_name fault ≡ message = λ e. cc in same e),
  (let same : Throws number given message ≡ Throws (error_number (error_of fault)) classes (absent_name fault) → classes ≡ given = λ e. cc in same e),
)

-- ---- what was found

module _ (p : Program) (before name : List ℕ) where
  rooted : is_among (user_count p) before ≡ true → is_among (user_count p) (load_of p before name).loaded ≡ true
  rooted root =
      subst (λ classes. is_among (user_count p) classes ≡ true) (whole p before name)
      (among-front (user_count p) before (drop (length before) (load_of p before name).loaded) root)

  finds : (kind : ℕ) (classes : List ℕ) → length p.classes ≤ 4149 → is_among (user_count p) before ≡ true
      → ((load_of p before name).fault ≡ None) × (unwrap_or (kind_named p name) 0 ≡ kind) × (drop (length before) (load_of p before name).loaded ≡ classes)
      → Finds p before name classes kind
  finds kind classes few root (none, is, given) = by (resolves p name before none few (rooted root))
    where
      by : (k : ℕ) × (kind_named p name ≡ Some k) × IsUsable (record { program = p; loaded = (load_of p before name).loaded }) k
          × (k / 16777216 ≡ (meaning_of name).dimensions)
          → Finds p before name classes kind
      by (k, named, usable, deep) =
          let same : k ≡ kind = sym (ap (λ o. unwrap_or o 0) named) ∙ is in
          let of_kind : kind_named p name ≡ Some kind = named ∙ ap Some same in
          record {
            found = sym (ap (λ o. kind_unless o (kind_named p name)) none ∙ ap (λ o. kind_unless None o) of_kind);
            loaded = ap (λ cs. before ++ cs) (sym given) ∙ whole p before name;
            resolved = record { named = of_kind; dimensions = ap (λ n. n / 16777216) (sym same) ∙ deep; usable = subst (IsUsable (record { program = p; loaded = (load_of p before name).loaded })) same usable };
          }

  pub finds-already : (kind : ℕ) → length p.classes ≤ 4149 → is_among (user_count p) before ≡ true
      → Already kind ≡ answer_of p before name (load_of p before name) → Finds p before name [] kind
  finds-already kind few root e =
      finds kind [] few root (already-by (load_of p before name).fault (unwrap_or (kind_named p name) 0) kind (drop (length before) (load_of p before name).loaded) e)

  pub finds-new : (kind : ℕ) (classes : List ℕ) → length p.classes ≤ 4149 → is_among (user_count p) before ≡ true
      → New kind classes ≡ answer_of p before name (load_of p before name) → Finds p before name classes kind
  finds-new kind classes few root e =
      finds kind classes few root
      (new-by (load_of p before name).fault (unwrap_or (kind_named p name) 0) kind classes (drop (length before) (load_of p before name).loaded) e)

  fails : (number : ℕ) (classes : List ℕ) (message : Option (List ℕ))
      → (fault : Fault) × ((load_of p before name).fault ≡ Some fault) × (error_number (error_of fault) ≡ number) × (absent_name fault ≡ message) × (drop (length before) (load_of p before name).loaded ≡ classes)
      → Fails p before name classes number message
  fails number classes message (fault, is, numbered, told, given) = record {
    found =
        ap (λ n. Err (Raises (exception_name (exception_numbered n)) message)) (sym numbered)
        ∙ (ap (λ m. Err (Raises (exception_name (exception_numbered (error_number (error_of fault)))) m)) (sym told ∙ fault-message fault)
        ∙ (ap (λ class. Err (Raises class (message_of fault))) (fault-name fault)
        ∙ sym (ap (λ o. kind_unless o (kind_named p name)) is)));
    loaded = ap (λ cs. before ++ cs) (sym given) ∙ whole p before name;
  }

  pub fails-by : (number : ℕ) (classes : List ℕ) (message : Option (List ℕ)) → Throws number classes message ≡ answer_of p before name (load_of p before name)
      → Fails p before name classes number message
  fails-by number classes message e =
      fails number classes message
      (stopped-by (load_of p before name).fault (unwrap_or (kind_named p name) 0) number classes (drop (length before) (load_of p before name).loaded) message e)
