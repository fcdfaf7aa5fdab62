-- The names of generated classes are free, and none has the name of one before it.
use Rattle.std.proofs.Common.{◌≡◌, ℕ, Bool, true, false, List, [], ◌∷◌, Option, None, Some, refl, ap, sym}
use Rattle.std.specs.Prelude.{◌≢◌}
use Rattle.std.specs.Option.{option_map_or}
use Rattle.std.specs.List.{AllByRecursion, AllZip, list_any}
use Rattle.std.proofs.lemmas.Slice.Eq.{bytes_eq-Decides}
use Rattle.const_pool.specs.declared.class.ClassFile.{ClassFile}
use Rattle.const_pool.specs.declared.pool.Const.{Const}
use Rattle.const_pool.specs.declared.pool.Const.TheVariants.{Gap, Utf8, Integer, Float, Long, Double, Class, Text, Field, Method, InterfaceMethod, NameType}
use Rattle.const_pool.specs.BuiltIn.{probe_class, built_in_names}
use Rattle.const_pool.specs.References.{named_text}
use Rattle.jvm_model.specs.Basis.Descriptors.{same_text}
use Rattle.program_gen.specs.Generated.{HasOwnPool, IsNoProbe, IsOwnName}
use Rattle.admit_check.specs.Shapes.{is_probe_entry, is_reserved, is_taken_name, has_same_name, name_fault, own_name}

pub unlike : (a b : List ℕ) → a ≢ b → same_text a b ≡ false
unlike a b differ = by (same_text a b) (λ same. differ ((bytes_eq-Decides a b).0 same))
  where
    by : (s : Bool) → (s ≡ true → ⊥) → s ≡ false
    by true differs = absurd (differs refl)
    by false differs = refl

unlike-all : (name : List ℕ) (taken : List (List ℕ)) → AllByRecursion (λ other. name ≢ other) taken → list_any (same_text name) taken ≡ false
unlike-all name [] differ = refl
unlike-all name (other ∷ taken) differ = rw (unlike name other differ.0) (unlike-all name taken differ.1)

no-probe : (pool : List Const) (entry : Const) → IsNoProbe pool entry → is_probe_entry pool entry ≡ false
no-probe pool (Class i) h = by (named_text pool i) (λ e. h e)
  where
    by : (o : Option (List ℕ)) → (o ≡ Some probe_class → ⊥) → option_map_or (λ name. same_text name probe_class) o false ≡ false
    by None differs = refl
    by (Some name) differs = unlike name probe_class (λ e. differs (ap (λ n. Some n) e))
no-probe pool Gap h = refl
no-probe pool (Utf8 t) h = refl
no-probe pool (Integer n) h = refl
no-probe pool (Float n) h = refl
no-probe pool (Long n) h = refl
no-probe pool (Double n) h = refl
no-probe pool (Text i) h = refl
no-probe pool (Field c n) h = refl
no-probe pool (Method c n) h = refl
no-probe pool (InterfaceMethod c n) h = refl
no-probe pool (NameType n d) h = refl

no-probes : (pool entries : List Const) → AllByRecursion (IsNoProbe pool) entries → list_any (is_probe_entry pool) entries ≡ false
no-probes pool [] own = refl
no-probes pool (entry ∷ entries) own = rw (no-probe pool entry own.0) (no-probes pool entries own.1)

free : (c : ClassFile) (name : List ℕ) → own_name c ≡ Some name → IsOwnName name → HasOwnPool c → is_reserved c ≡ false
free c name named own pool =
    let taken : is_taken_name name ≡ false = rw (unlike name probe_class own.0) (unlike-all name built_in_names own.1) in
    rw (named, taken) (no-probes c.pool c.pool pool.own)

abbrev pub HasOwnName : List ℕ → ClassFile → Type 0
HasOwnName name c = own_name c ≡ Some name

symmetric : (a b : List ℕ) → b ≢ a → same_text a b ≡ false
symmetric a b differ = unlike a b (λ e. differ (sym e))

none-before : (c : ClassFile) (name : List ℕ) → own_name c ≡ Some name → (names : List (List ℕ)) (earlier : List ClassFile) → AllZip HasOwnName names earlier
    → AllByRecursion (λ other. other ≢ name) names → list_any (has_same_name c) earlier ≡ false
none-before c name named [] [] have differ = refl
none-before c name named [] (e ∷ earlier) have differ = absurd have
none-before c name named (other ∷ names) [] have differ = absurd have
none-before c name named (other ∷ names) (e ∷ earlier) have differ =
    let one : has_same_name c e ≡ false = (rw (named, have.0) (symmetric name other differ.0)) in
    rw one (none-before c name named names earlier have.1 differ.1)

-- the name of a class is its own, and no class before it has the name
pub name-fine : (earlier : List ClassFile) (names : List (List ℕ)) (k : ℕ) (c : ClassFile) (name : List ℕ) → AllZip HasOwnName names earlier → own_name c ≡ Some name → IsOwnName name
    → HasOwnPool c → AllByRecursion (λ other. other ≢ name) names → name_fault earlier k c ≡ None
name-fine earlier names k c name have named own pool differ = rw (free c name named own pool, none-before c name named names earlier have differ) refl
