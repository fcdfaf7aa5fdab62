-- What is a class file fits the widths of its counts and lengths.
use Rattle.std.proofs.Common.{◌≡◌, List, [], ◌∷◌, All, sym, ap, subst}
use Rattle.std.specs.List.{AllByRecursion}
use Rattle.std.proofs.lemmas.List.Elements.{All-nil, All-cons}
use Rattle.const_pool.specs.declared.pool.Const.{Const}
use Rattle.const_pool.specs.declared.pool.Const.TheVariants.{Gap, Utf8, Integer, Float, Long, Double, Class, Text, Field, Method, InterfaceMethod, NameType}
use Rattle.const_pool.specs.declared.class.ClassFile.{ClassFile}
use Rattle.const_pool.specs.declared.class.Attribute.{Attribute}
use Rattle.const_pool.specs.declared.class.Attribute.TheVariants.{ConstantValue, Code, Other}
use Rattle.const_pool.specs.declared.class.CodeAttribute.{CodeAttribute}
use Rattle.const_pool.specs.declared.class.Member.{Member}
use Rattle.const_pool.specs.Pool.{AreEntries, IsPool}
use Rattle.const_pool.specs.ClassFile.{IsCode, IsFieldAttribute, IsMethodAttribute, IsClassAttribute, IsMember, IsClassFile}
use Rattle.class_writer.specs.Fits.{FitsEntry, FitsRaw, FitsCode, FitsAttribute, FitsMember, FitsClass}

-- what follows from P for each element
each : {A : Type 0} (P Q : A → Type 0) → ((x : A) → P x → Q x) → (xs : List A) → AllByRecursion P xs → All Q xs
each P Q from [] all = All-nil Q
each P Q from (x ∷ xs) all = All-cons Q x xs (from x all.0) (each P Q from xs all.1)

fits_code : (pool : List Const) (c : CodeAttribute) → IsCode pool c → FitsCode c
fits_code pool c is = record { handler_count = is.handler_count; attribute_count = is.attribute_count; attributes = each _ FitsRaw (λ raw r. r.length) c.attributes is.attributes; whole = is.whole }

fits_field : (pool : List Const) (a : Attribute) → IsFieldAttribute pool a → FitsAttribute a
fits_field pool (ConstantValue name index) is = tt
fits_field pool (Code name code) is = absurd is
fits_field pool (Other raw) is = is.0.length

fits_method : (pool : List Const) (a : Attribute) → IsMethodAttribute pool a → FitsAttribute a
fits_method pool (ConstantValue name index) is = absurd is
fits_method pool (Code name code) is = fits_code pool code is.2
fits_method pool (Other raw) is = is.0.length

fits_attribute : (pool : List Const) (a : Attribute) → IsClassAttribute pool a → FitsAttribute a
fits_attribute pool (ConstantValue name index) is = absurd is
fits_attribute pool (Code name code) is = absurd is
fits_attribute pool (Other raw) is = is.length

fits_member : (IsAttribute : List Const → Attribute → Type 0) (pool : List Const) → ((a : Attribute) → IsAttribute pool a → FitsAttribute a) → (m : Member) → IsMember IsAttribute pool m → FitsMember m
fits_member IsAttribute pool from m is = record { count = is.count; attributes = each (IsAttribute pool) FitsAttribute from m.attributes is.attributes }

fits_entries : (pool rest : List Const) → AreEntries pool rest → AllByRecursion FitsEntry rest
fits_entries pool [] are = tt
fits_entries pool (Gap ∷ rest) are = absurd are.0
fits_entries pool (Long n ∷ Gap ∷ rest) are = (tt, (tt, fits_entries pool rest are.1))
fits_entries pool (Double n ∷ Gap ∷ rest) are = (tt, (tt, fits_entries pool rest are.1))
fits_entries pool (Long n ∷ rest) are = absurd are
fits_entries pool (Double n ∷ rest) are = absurd are
fits_entries pool (Utf8 t ∷ rest) are = (are.0.1, fits_entries pool rest are.1)
fits_entries pool (Integer n ∷ rest) are = (tt, fits_entries pool rest are.1)
fits_entries pool (Float n ∷ rest) are = (tt, fits_entries pool rest are.1)
fits_entries pool (Class i ∷ rest) are = (tt, fits_entries pool rest are.1)
fits_entries pool (Text i ∷ rest) are = (tt, fits_entries pool rest are.1)
fits_entries pool (Field c n ∷ rest) are = (tt, fits_entries pool rest are.1)
fits_entries pool (Method c n ∷ rest) are = (tt, fits_entries pool rest are.1)
fits_entries pool (InterfaceMethod c n ∷ rest) are = (tt, fits_entries pool rest are.1)
fits_entries pool (NameType n d ∷ rest) are = (tt, fits_entries pool rest are.1)

fits_pool : (pool : List Const) → IsPool pool → All FitsEntry pool
fits_pool [] is = All-nil FitsEntry
fits_pool (c ∷ rest) is =
    let gap : Gap ≡ c = let first = is.first in cc in
    let same : c ∷ rest ≡ Gap ∷ rest = ap (λ (g : Const). g ∷ rest) (sym gap) in
    let fits = each FitsEntry FitsEntry (λ entry f. f) rest (fits_entries (c ∷ rest) rest (is.entries rest same)) in
    All-cons FitsEntry c rest (subst FitsEntry gap tt) fits

pub fits_class : (c : ClassFile) → IsClassFile c → FitsClass c
fits_class c is = record {
  pool = fits_pool c.pool is.pool;
  interface_count = is.interface_count;
  field_count = is.field_count;
  fields = each (IsMember IsFieldAttribute c.pool) FitsMember (fits_member IsFieldAttribute c.pool (fits_field c.pool)) c.fields is.fields;
  method_count = is.method_count;
  methods = each (IsMember IsMethodAttribute c.pool) FitsMember (fits_member IsMethodAttribute c.pool (fits_method c.pool)) c.methods is.methods;
  attribute_count = is.attribute_count;
  attributes = each (IsClassAttribute c.pool) FitsAttribute (fits_attribute c.pool) c.attributes is.attributes;
}
