-- What a class's pool names, it names with more entries behind: so an instruction of the class does the same in a class
-- with such a pool, and a handler catches the same.
use Rattle.std.proofs.Common.{◌≡◌, ℕ, Bool, true, false, List, slice_get, cond, Option, Some, None, refl, sym, ap, subst, ◌∙◌, [], ◌∷◌, ◌++◌, inl, inr}
use Rattle.std.specs.Prelude.{◌==◌, ◌⊎◌}
use Rattle.std.specs.Option.{option_map, option_and_then, ok_or}
use Rattle.std.proofs.lemmas.Option.{none-some, option_and_then_some}
use Rattle.const_pool.specs.declared.pool.Const.{Const}
use Rattle.const_pool.specs.declared.pool.Const.TheVariants as const
use Rattle.const_pool.specs.declared.class.ClassFile.{ClassFile}
use Rattle.const_pool.specs.References.{Reference, named_text, named_class, named_field, named_method, class_entry, ◌>>=◌}
use Rattle.code_model.specs.declared.instr.Arg.{Arg}
use Rattle.code_model.specs.declared.instr.Arg.TheVariants as arg
use Rattle.code_model.specs.declared.instr.Instr.{Instr}
use Rattle.jvm_model.specs.declared.family.Family.{Family}
use Rattle.jvm_model.specs.declared.family.Family.TheVariants as family
use Rattle.jvm_model.specs.Basis.Data.{Constant, SymbolicReference, New, Getfield, Putfield, Getstatic, Putstatic, Invokevirtual, Invokestatic, Invokeinterface, Checkcast, Instanceof, Anewarray, LdcClass, Local, Operation, Within, Named, LdcString}
use Rattle.jvm_model.specs.Basis.Families.{family_of}
use Rattle.jvm_model.specs.Codes.Lines.{number_of, named_interface_method, special_of, symbolic_reference_of, interface_reference, multi_of, array_reference, named_by, other_operation, pool_constant_operation, object_constant, operation_by, operation_of}
use Rattle.jvm_model.specs.Basis.Programs.{name_of}
use Rattle.jvm_model.proofs.Images.ImagePools.{named_text-more, named_class-more, named_field-more, named_method-more, named_interface_method-more}
use Rattle.std.specs.List.{AllByRecursion}
use Rattle.std.specs.Result.{result_ok}
use Rattle.jf_bytes.proofs.Lists.{slice_get-front}
use Rattle.jf_bytes.proofs.Options.{is_some_parts}
use Rattle.const_pool.specs.declared.class.Handler.{Handler}
use Rattle.const_pool.specs.declared.pool.PoolError.TheVariants.{BadIndex}
use Rattle.const_pool.specs.ClassFile.{IsClassFile, IsHandler}
use Rattle.const_pool.specs.Pool.{Names, entry_of, is_class}
use Rattle.jvm_model.proofs.Soundness.PoolTexts.{HaveTexts, have-texts, named-there}
use Rattle.jvm_model.specs.Soundness.SoundPrograms.{HaveOperations}

-- the class's pool with more behind it, and its own index
pub record HasMore (c image : ClassFile) : Type 0 where
  pub more : List Const
  pub pool : image.pool ≡ c.pool ++ more
  pub this : image.this_class ≡ c.this_class

-- it has the class's name
pub name_of-kept : (c image : ClassFile) (name : List ℕ) → HasMore c image → name_of c ≡ Some name → name_of image ≡ Some name
name_of-kept c image name has e =
    ap (named_class image.pool) has.this ∙ (ap (λ p. named_class p c.this_class) has.pool ∙ named_class-more c.pool has.more c.this_class name e)

pub map-kept : {A B : Type 0} (f : A → B) (old new : Option A) (o : B) → ((a : A) → old ≡ Some a → new ≡ Some a) → option_map f old ≡ Some o → option_map f new ≡ Some o
map-kept f None new o keeps e = absurd (none-some o e)
map-kept f (Some a) new o keeps e = ap (option_map f) (keeps a refl) ∙ e

chosen-kept : {A : Type 0} (b : Bool) (x y x' y' : Option A) (o : A) → (x ≡ Some o → x' ≡ Some o) → (y ≡ Some o → y' ≡ Some o) → cond b x y ≡ Some o → cond b x' y' ≡ Some o
chosen-kept true x y x' y' o first second e = first e
chosen-kept false x y x' y' o first second e = second e

then-kept : {A B : Type 0} (f g : A → Option B) (old new : Option A) (o : B) → ((a : A) → old ≡ Some a → new ≡ Some a) → ((a : A) → f a ≡ Some o → g a ≡ Some o)
    → option_and_then f old ≡ Some o → option_and_then g new ≡ Some o
then-kept f g old new o first second e = option_and_then_some f old o e (λ a is rest. ap (option_and_then g) (first a is) ∙ second a rest)

-- what the class's pool names at an index the other's names
abbrev Kept : {A : Type 0} → Option A → Option A → Type 0
Kept {A} old new = (x : A) → old ≡ Some x → new ≡ Some x

field-kept : (c image : ClassFile) (index : ℕ) → HasMore c image → Kept (named_field c.pool index) (named_field image.pool index)
field-kept c image index has r is = ap (λ p. named_field p index) has.pool ∙ named_field-more c.pool has.more index r is

method-kept : (c image : ClassFile) (index : ℕ) → HasMore c image → Kept (named_method c.pool index) (named_method image.pool index)
method-kept c image index has r is = ap (λ p. named_method p index) has.pool ∙ named_method-more c.pool has.more index r is

class-kept : (c image : ClassFile) (index : ℕ) → HasMore c image → Kept (named_class c.pool index) (named_class image.pool index)
class-kept c image index has name is = ap (λ p. named_class p index) has.pool ∙ named_class-more c.pool has.more index name is

text-kept : (c image : ClassFile) (index : ℕ) → HasMore c image → Kept (named_text c.pool index) (named_text image.pool index)
text-kept c image index has text e = ap (λ p. named_text p index) has.pool ∙ named_text-more c.pool has.more index text e

interface_method-kept : (c image : ClassFile) (index : ℕ) → HasMore c image → Kept (named_interface_method c.pool index) (named_interface_method image.pool index)
interface_method-kept c image index has r is = ap (λ p. named_interface_method p index) has.pool ∙ named_interface_method-more c.pool has.more index r is

-- invokespecial names the class in which it stands too
special-kept : (c image : ClassFile) (index : ℕ) → HasMore c image
    → Kept (option_and_then (λ caller. option_map (special_of caller) (named_method c.pool index)) (name_of c))
    (option_and_then (λ caller. option_map (special_of caller) (named_method image.pool index)) (name_of image))
special-kept c image index has n =
    then-kept (λ caller. option_map (special_of caller) (named_method c.pool index)) (λ caller. option_map (special_of caller) (named_method image.pool index)) (name_of c) (name_of image) n
    (λ caller. name_of-kept c image caller has)
    (λ caller. map-kept (special_of caller) (named_method c.pool index) (named_method image.pool index) n (method-kept c image index has))

symbolic_reference_of-kept : (c image : ClassFile) (op index : ℕ) → HasMore c image → Kept (symbolic_reference_of c op index) (symbolic_reference_of image op index)
symbolic_reference_of-kept c image op index has n =
    chosen-kept (op == 178) _ _ _ _ n (field Getstatic) (chosen-kept (op == 179) _ _ _ _ n (field Putstatic)
    (chosen-kept (op == 180) _ _ _ _ n (field Getfield) (chosen-kept (op == 181) _ _ _ _ n (field Putfield)
    (chosen-kept (op == 182) _ _ _ _ n (method Invokevirtual) (chosen-kept (op == 183) _ _ _ _ n (special-kept c image index has n)
    (chosen-kept (op == 184) _ _ _ _ n (method Invokestatic) (chosen-kept (op == 187) _ _ _ _ n (class New)
    (chosen-kept (op == 189) _ _ _ _ n (class Anewarray) (chosen-kept (op == 192) _ _ _ _ n (class Checkcast)
    (chosen-kept (op == 193) _ None _ None n (class Instanceof) (λ none. none)))))))))))
  where
    field : (make : Reference → SymbolicReference) → option_map make (named_field c.pool index) ≡ Some n → option_map make (named_field image.pool index) ≡ Some n
    field make = map-kept make (named_field c.pool index) (named_field image.pool index) n (field-kept c image index has)

    method : (make : Reference → SymbolicReference) → option_map make (named_method c.pool index) ≡ Some n → option_map make (named_method image.pool index) ≡ Some n
    method make = map-kept make (named_method c.pool index) (named_method image.pool index) n (method-kept c image index has)

    class : (make : List ℕ → SymbolicReference) → option_map make (named_class c.pool index) ≡ Some n → option_map make (named_class image.pool index) ≡ Some n
    class make = map-kept make (named_class c.pool index) (named_class image.pool index) n (class-kept c image index has)

interface_reference-kept : (c image : ClassFile) (op index : ℕ) → HasMore c image → Kept (interface_reference c op index) (interface_reference image op index)
interface_reference-kept c image op index has n =
    chosen-kept (op == 185) _ None _ None n
    (map-kept Invokeinterface (named_interface_method c.pool index) (named_interface_method image.pool index) n (interface_method-kept c image index has)) (λ none. none)

array_reference-kept : (c image : ClassFile) (op index dimensions : ℕ) → HasMore c image → Kept (array_reference c op index dimensions) (array_reference image op index dimensions)
array_reference-kept c image op index dimensions has n =
    chosen-kept (op == 197) _ None _ None n
    (map-kept (multi_of dimensions) (named_class c.pool index) (named_class image.pool index) n (class-kept c image index has)) (λ none. none)

named-kept : (old new : Option SymbolicReference) (o : Operation Local) → Kept old new → option_and_then named_by old ≡ Some o → option_and_then named_by new ≡ Some o
named-kept old new o keeps = then-kept named_by named_by old new o keeps (λ n is. is)

other_operation-kept : (c image : ClassFile) (op : ℕ) (a : Arg) (o : Operation Local) → HasMore c image → other_operation c op a ≡ Some o → other_operation image op a ≡ Some o
other_operation-kept c image op (arg.Pool index) o has e = named-kept (symbolic_reference_of c op index) (symbolic_reference_of image op index) o (symbolic_reference_of-kept c image op index has) e
other_operation-kept c image op (arg.Interface index count last) o has e =
    named-kept (interface_reference c op index) (interface_reference image op index) o (interface_reference-kept c image op index has) e
other_operation-kept c image op (arg.Multi index dimensions) o has e =
    named-kept (array_reference c op index dimensions) (array_reference image op index dimensions) o (array_reference-kept c image op index dimensions has) e
other_operation-kept c image op a o has e = e

-- what an entry of the pool is to an ldc
abbrev given_by : List Const → Option Const → Option (Operation Local)
given_by pool entry = pool_constant_operation (option_map Within (option_map Constant (option_and_then number_of entry))) (option_and_then (object_constant pool) entry)

entry-kept : (c image : ClassFile) (entry : Const) (o : Operation Local) → HasMore c image → given_by c.pool (Some entry) ≡ Some o → given_by image.pool (Some entry) ≡ Some o
entry-kept c image (const.Integer n) o has e = e
entry-kept c image (const.Long n) o has e = e
entry-kept c image (const.Text i) o has e = map-kept LdcString (named_text c.pool i) (named_text image.pool i) o (text-kept c image i has) e
entry-kept c image (const.Class i) o has e = map-kept (λ name. Named (LdcClass name)) (named_text c.pool i) (named_text image.pool i) o (text-kept c image i has) e
entry-kept c image _ o has e = absurd (none-some o e)

given-kept : (c image : ClassFile) (a : Arg) (o : Operation Local) → HasMore c image → operation_by c 18 a family.PoolConstant ≡ Some o → operation_by image 18 a family.PoolConstant ≡ Some o
given-kept c image (arg.Pool index) o has e = by (slice_get c.pool index) refl e
  where
    by : (x : Option Const) → slice_get c.pool index ≡ x → given_by c.pool x ≡ Some o → given_by image.pool (slice_get image.pool index) ≡ Some o
    by None is e = absurd (none-some o e)
    by (Some entry) is e =
        subst (λ x. given_by image.pool x ≡ Some o) (sym (ap (λ p. slice_get p index) has.pool ∙ slice_get-front c.pool has.more index entry is))
        (entry-kept c image entry o has e)
given-kept c image _ o has e = absurd (none-some o e)

operation_by-kept : (c image : ClassFile) (op : ℕ) (a : Arg) (f : Family) (o : Operation Local) → HasMore c image → operation_by c op a f ≡ Some o → operation_by image op a f ≡ Some o
operation_by-kept c image op a family.NotLocal o has e = other_operation-kept c image op a o has e
operation_by-kept c image op a family.PoolConstant o has e = given-kept c image a o has e
operation_by-kept c image op a f o has e = e

-- an instruction that does something in the class does it there
pub operation-more : (c image : ClassFile) (i : Instr) (o : Operation Local) → HasMore c image → operation_of c i ≡ Some o → operation_of image i ≡ Some o
operation-more c image i o has e = operation_by-kept c image i.op i.arg (family_of i.op) o has e

-- ---- of a class file

gap-named : (pool : List Const) (i : ℕ) → slice_get pool i ≡ Some const.Gap → named_class pool i ≡ None
gap-named pool i e = ap (λ o. result_ok (ok_or (option_and_then entry_of o) BadIndex >>= class_entry pool)) e

module _ (c image : ClassFile) (formed : IsClassFile c) (has : HasMore c image) where
  texts : HaveTexts c.pool
  texts = have-texts c.pool formed.pool

  class-same : (i : ℕ) → (i ≡ 0) ⊎ Names is_class c.pool i → named_class image.pool i ≡ named_class c.pool i
  class-same i (inl is) =
      let gap : slice_get c.pool i ≡ Some const.Gap = ap (slice_get c.pool) is ∙ formed.pool.first in
      gap-named image.pool i (ap (λ p. slice_get p i) has.pool ∙ slice_get-front c.pool has.more i const.Gap gap) ∙ sym (gap-named c.pool i gap)
  class-same i (inr named) =
      let x = is_some_parts (named_class c.pool i) (named-there c.pool texts i named) in
      ap (λ p. named_class p i) has.pool ∙ (named_class-more c.pool has.more i x.0 x.1 ∙ sym x.1)

  -- what a handler catches
  pub names-classes : (hs : List Handler) → AllByRecursion (IsHandler c.pool) hs → AllByRecursion (λ (h : Handler). named_class image.pool h.catch_class ≡ named_class c.pool h.catch_class) hs
  names-classes [] are = tt
  names-classes (h ∷ hs) are = (class-same h.catch_class are.0.class, names-classes hs are.1)

-- ---- a code

-- each of its instructions does the same there
pub operations-same : (c image : ClassFile) → HasMore c image → (is : List Instr) → HaveOperations c is → AllByRecursion (λ i. operation_of image i ≡ operation_of c i) is
operations-same c image has [] have = tt
operations-same c image has (i ∷ is) have =
    let does = is_some_parts (operation_of c i) have.0 in
    (operation-more c image i does.0 has does.1 ∙ sym does.1, operations-same c image has is have.1)
