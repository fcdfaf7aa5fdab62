-- What is made of what is kept is what instructions begin.
use Rattle.std.proofs.Common.{◌≡◌, ℕ, suc, ◌+◌, ◌<◌, Bool, true, false, List, [], ◌∷◌, length, ap, sym, refl, ◌∙◌, arith}
use Rattle.std.specs.Prelude.{filter, filter_map, Option, Some, None, if◌then◌else◌}
use Rattle.std.specs.Option.{option_map_or, option_to_list}
use Rattle.std.proofs.lemmas.Bool.{false≢true}
use Rattle.std.proofs.lemmas.Option.{none-some, same_Some}
use Rattle.const_pool.specs.declared.class.ClassFile.{ClassFile}
use Rattle.jvm_model.specs.declared.program.Program.{Program}
use Rattle.jvm_model.specs.Classes.Load.{is_among}
use Rattle.jvm_model.specs.Classes.Lookup.{MemberPlace, is_subtype}
use Rattle.const_pool.specs.declared.class.Member.{Member}
use Rattle.const_pool.specs.References.{NameAndType}
use Rattle.jvm_model.specs.Basis.Methods.{is_member, method_from, method_named}
use Rattle.jvm_model.specs.Basis.Programs.{initializer_name, initializer_of}
use Rattle.jvm_model.specs.Classes.Selection.{method_selected}
use Rattle.jvm_model.specs.declared.instruction.SymbolicReference.{SymbolicReference}
use Rattle.jvm_model.specs.declared.instruction.SymbolicReference.TheVariants as model
use Rattle.jvm_model.specs.Profiling.Targets.{begun_by, method_coded, initializers, loaded_class_named, selections}
use Rattle.jvm_model.specs.Instructions.InvocationRules.{selected_by}
use Rattle.possible_callees.specs.declared.lineage.Lineage.{Lineage}
use Rattle.possible_callees.specs.Lineages.{IsClosed, IsLineage, begun_named, initializer_in, number_of, selecting, selection_of}
use Rattle.possible_callees.proofs.Numbers.Adding.{made-flat}
use Rattle.possible_callees.proofs.Numbers.Choosing.{chosen-alike, tested-alike}

pub initializers-of : (p : Program) (loaded : List ℕ) (class : ℕ) (supertypes : List ℕ) → ((upper : ℕ) → is_among upper supertypes ≡ is_subtype p class upper)
    → (m : ℕ) → is_among m (filter_map (initializer_in p loaded) supertypes) ≡ is_among m (initializers p loaded class)
initializers-of p loaded class supertypes are m =
    chosen-alike loaded supertypes (is_subtype p class) (initializer_of p) (λ x. option_to_list (initializer_of p x)) (λ x. refl)
    (λ x h. sym (are x) ∙ h) (λ x there h. are x ∙ h) m
    ∙ sym (ap (is_among m) (made-flat (initializer_of p) (filter (is_subtype p class) loaded)))

numbered-alike : (p : Program) (o : Option MemberPlace) → option_to_list (number_of p o) ≡ method_coded p o
numbered-alike p None = refl
numbered-alike p (Some m) = refl

selected-alike : (p : Program) (interface : Bool) (m : MemberPlace) (x : ℕ)
    → option_to_list (number_of p (method_selected p x interface m)) ≡ method_coded p (selected_by p (selecting interface) m x)
selected-alike p true m x = numbered-alike p (method_selected p x true m)
selected-alike p false m x = numbered-alike p (method_selected p x false m)

pub selections-of : (p : Program) (v : Lineage) (class : ℕ) (interface : Bool) (m0 : MemberPlace) (lower : List ℕ) → IsLineage p v → class < length p.classes
    → is_among class lower ≡ true → IsClosed v.below.items lower
    → (m : ℕ) → is_among m (filter_map (selection_of p v.loaded interface class m0) lower) ≡ is_among m (selections p v.loaded class (selecting interface) m0)
selections-of p v class interface m0 lower is within own closed m =
    tested-alike v.loaded lower (λ x. is_subtype p x class) (λ x. number_of p (method_selected p x interface m0))
    (λ x. method_coded p (selected_by p (selecting interface) m0 x)) (selected-alike p interface m0)
    (λ x there sub. is.whole class x lower within there sub own closed) m

-- a method that was found is one of the class
found-within : (c : ClassFile) (wanted : NameAndType) (n at : ℕ) (methods : List Member) → method_from c.pool wanted n methods ≡ Some at → at < n + length methods
found-within c wanted n at [] e = absurd (none-some at e)
found-within c wanted n at (m ∷ rest) e = by (is_member c.pool wanted m) e (λ k. found-within c wanted (n + 1) at rest k)
  where
    by : (b : Bool) → (if b then Some n else method_from c.pool wanted (n + 1) rest) ≡ Some at
        → (method_from c.pool wanted (n + 1) rest ≡ Some at → at < (n + 1) + length rest) → at < n + suc (length rest)
    by true e behind = let same : n ≡ at = same_Some n at e in omega (arith, same)
    by false e behind = let less : at < (n + 1) + length rest = behind e in omega (arith, less)

pub method_within : (c : ClassFile) (at : ℕ) → method_named c initializer_name ≡ Some at → at < length c.methods
method_within c at e = let less : at < 0 + length c.methods = found-within c initializer_name 0 at c.methods e in omega (arith, less)

-- ---- by the class that an instruction names

abbrev pub is_special : SymbolicReference → Bool
is_special (model.Invokespecial caller r interface) = true
is_special _ = false

abbrev nothing : ℕ → List ℕ
nothing class = []

begins-nothing : (o : Option ℕ) → [] ≡ option_map_or nothing o []
begins-nothing None = refl
begins-nothing (Some class) = refl

pub begun-by-name : (p : Program) (loaded : List ℕ) (n : SymbolicReference) → is_special n ≡ false → begun_by p loaded n ≡ begun_named p loaded n
begun-by-name p loaded (model.New name) e = refl
begun-by-name p loaded (model.Getfield r) e = begins-nothing (loaded_class_named p loaded r.class)
begun-by-name p loaded (model.Putfield r) e = begins-nothing (loaded_class_named p loaded r.class)
begun-by-name p loaded (model.Getstatic r) e = refl
begun-by-name p loaded (model.Putstatic r) e = refl
begun-by-name p loaded (model.Invokevirtual r) e = refl
begun-by-name p loaded (model.Invokespecial caller r interface) e = absurd (false≢true (sym e))
begun-by-name p loaded (model.Invokestatic r) e = refl
begun-by-name p loaded (model.Invokeinterface r) e = refl
begun-by-name p loaded (model.Checkcast name) e = begins-nothing (loaded_class_named p loaded name)
begun-by-name p loaded (model.Instanceof name) e = begins-nothing (loaded_class_named p loaded name)
begun-by-name p loaded (model.Anewarray name) e = begins-nothing (loaded_class_named p loaded name)
begun-by-name p loaded (model.Multianewarray name count) e = begins-nothing (loaded_class_named p loaded name)
begun-by-name p loaded (model.LdcClass name) e = begins-nothing (loaded_class_named p loaded name)
