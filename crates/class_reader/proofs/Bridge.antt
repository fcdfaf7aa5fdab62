-- The two descriptions of the class file format say the same of well-formed files: the formats of this crate, which
-- tell faults too, and the bytes of a class in const_pool.
use Rattle.std.proofs.Common.{◌≡◌, ℕ, ◌≤◌, ◌⊎◌, ◌&&◌, ◌==◌, true, nat_le, List, ◌++◌, refl, sym, ap, subst, ◌∙◌, arith}
use Rattle.std.specs.List.{AllByRecursion}
use Rattle.std.proofs.lemmas.Bool.{and_parts, and_from, eqb-true, leb-true, le-leb}
use Rattle.const_pool.specs.declared.pool.Const.{Const}
use Rattle.const_pool.specs.declared.class.ClassFile.{ClassFile}
use Rattle.const_pool.specs.declared.class.Member.{Member}
use Rattle.const_pool.specs.declared.class.Attribute.{Attribute}
use Rattle.const_pool.specs.Pool.{u2, u4, Names, is_utf8, is_class, IsPool, pool_bytes}
use Rattle.const_pool.specs.ClassFile.{IsU2, FitsCount, IsMember, IsFieldAttribute, IsMethodAttribute, IsClassAttribute, IsClassFile, attribute_bytes, member_bytes, class_bytes, Spells}
use Rattle.const_pool.specs.ClassFile as file
use Rattle.class_reader.specs.declared.error.ReadError.TheVariants.{BadMagic, BadVersion}
use Rattle.class_reader.specs.Formats.{Format}
use Rattle.class_reader.specs.ClassFormat as format
use Rattle.class_reader.specs.ClassFormat.{Body, class_with}
use Rattle.class_reader.proofs.BridgeParts.{IsSpelledBy, said_as, u2_law, u4_law, opened, closed, behind, turn, end_turn, tested_law, counted_law}
use Rattle.class_reader.proofs.BridgePool.{pool_law}
use Rattle.class_reader.proofs.BridgeAttributes.{ref_law, optional_ref_law, field_attribute_law, method_attribute_law, class_attribute_law}

-- ---- fields and methods

module _ (IsAttribute : List Const → Attribute → Type 0) (pool : List Const) (attribute : Format Attribute) (law : IsSpelledBy attribute attribute_bytes (IsAttribute pool)) where
  member_to : (text : List ℕ) (m : Member) → (format.member attribute pool).Spells text m → (text ≡ member_bytes m) × IsMember IsAttribute pool m
  member_to text m s =
      let a = opened u2_law s in
      let n = opened (ref_law is_utf8 pool) a.second in
      let d = opened (ref_law is_utf8 pool) n.second in
      let e = closed (counted_law law) d.second in
      let from_descriptor = behind n.rest (u2 d.x) d.rest _ d.parts e.spelled in
      let from_name = behind a.rest (u2 n.x) n.rest _ n.parts from_descriptor in
      let from_access = behind text (u2 a.x) a.rest _ a.parts from_name in
      subst (λ (m : Member). (text ≡ member_bytes m) × IsMember IsAttribute pool m) e.is
      (from_access, record { access = a.fits; name = n.fits.0; named = n.fits.1; descriptor = d.fits.0; described = d.fits.1; count = e.fits.0; attributes = e.fits.1 })

  member_from : (m : Member) → IsMember IsAttribute pool m → (format.member attribute pool).Spells (member_bytes m) m
  member_from m h =
      turn u2_law _ m.access h.access (turn (ref_law is_utf8 pool) _ m.name (h.name, h.named)
      (turn (ref_law is_utf8 pool) _ m.descriptor (h.descriptor, h.described) (end_turn (counted_law law) _ m.attributes (h.count, h.attributes))))

  member_law : IsSpelledBy (format.member attribute pool) member_bytes (IsMember IsAttribute pool)
  member_law = record { «to» = member_to; «from» = member_from }

-- ---- what stands behind the pool

abbrev body_bytes : Body → List ℕ
body_bytes b = u2 b.access ++ (u2 b.this_class ++ (u2 b.super_class ++ (file.items_counted u2 b.interfaces
    ++ (file.items_counted member_bytes b.fields ++ (file.items_counted member_bytes b.methods ++ file.items_counted attribute_bytes b.attributes)))))

record FitsBody (pool : List Const) (b : Body) : Type 0 where
  access : IsU2 b.access
  this_class : IsU2 b.this_class × Names is_class pool b.this_class
  super_class : IsU2 b.super_class × ((b.super_class ≡ 0) ⊎ Names is_class pool b.super_class)
  interfaces : FitsCount b.interfaces × AllByRecursion (λ i. IsU2 i × Names is_class pool i) b.interfaces
  fields : FitsCount b.fields × AllByRecursion (IsMember IsFieldAttribute pool) b.fields
  methods : FitsCount b.methods × AllByRecursion (IsMember IsMethodAttribute pool) b.methods
  attributes : FitsCount b.attributes × AllByRecursion (IsClassAttribute pool) b.attributes

module _ (pool : List Const) where
  field_law : IsSpelledBy (format.member (format.field_attribute pool) pool) member_bytes (IsMember IsFieldAttribute pool)
  field_law = member_law IsFieldAttribute pool (format.field_attribute pool) (field_attribute_law pool)

  method_law : IsSpelledBy (format.member (format.method_attribute pool) pool) member_bytes (IsMember IsMethodAttribute pool)
  method_law = member_law IsMethodAttribute pool (format.method_attribute pool) (method_attribute_law pool)

  body_to : (text : List ℕ) (b : Body) → (format.body pool).Spells text b → (text ≡ body_bytes b) × FitsBody pool b
  body_to text b s =
      let access = opened u2_law s in
      let this = opened (ref_law is_class pool) access.second in
      let super = opened (optional_ref_law is_class pool) this.second in
      let interfaces = opened (counted_law (ref_law is_class pool)) super.second in
      let fields = opened (counted_law field_law) interfaces.second in
      let methods = opened (counted_law method_law) fields.second in
      let attributes = closed (counted_law (class_attribute_law pool)) methods.second in
      let from_methods = behind fields.rest (file.items_counted member_bytes methods.x) methods.rest _ methods.parts attributes.spelled in
      let from_fields = behind interfaces.rest (file.items_counted member_bytes fields.x) fields.rest _ fields.parts from_methods in
      let from_interfaces = behind super.rest (file.items_counted u2 interfaces.x) interfaces.rest _ interfaces.parts from_fields in
      let from_super = behind this.rest (u2 super.x) super.rest _ super.parts from_interfaces in
      let from_this = behind access.rest (u2 this.x) this.rest _ this.parts from_super in
      let whole = behind text (u2 access.x) access.rest _ access.parts from_this in
      subst (λ (b : Body). (text ≡ body_bytes b) × FitsBody pool b) attributes.is
      (whole, record { access = access.fits; this_class = this.fits; super_class = super.fits; interfaces = interfaces.fits; fields = fields.fits; methods = methods.fits; attributes = attributes.fits })

  body_from : (b : Body) → FitsBody pool b → (format.body pool).Spells (body_bytes b) b
  body_from b h =
      turn u2_law _ b.access h.access (turn (ref_law is_class pool) _ b.this_class h.this_class (turn (optional_ref_law is_class pool) _ b.super_class h.super_class
      (turn (counted_law (ref_law is_class pool)) _ b.interfaces h.interfaces (turn (counted_law field_law) _ b.fields h.fields (turn (counted_law method_law) _ b.methods h.methods
      (end_turn (counted_law (class_attribute_law pool)) _ b.attributes h.attributes))))))

  body_law : IsSpelledBy (format.body pool) body_bytes (FitsBody pool)
  body_law = record { «to» = body_to; «from» = body_from }

-- ---- the class

magic_law : IsSpelledBy format.magic u4 (λ n. n ≡ 0xCAFEBABE)
magic_law = said_as (λ n. n ≡ 0xCAFEBABE) (tested_law u4_law (λ n. n == 0xCAFEBABE) (λ at n. BadMagic)) (λ n h. eqb-true _ _ h.1) (λ n h. (omega (arith, h), rw h refl))

major_fits : (major : ℕ) → 45 ≤ major → major ≤ 50 → IsU2 major × ((nat_le 45 major && nat_le major 50) ≡ true)
major_fits major least most = (omega (arith, most), and_from _ _ (le-leb 45 major least) (le-leb major 50 most))

major_law : IsSpelledBy format.major_version u2 (λ major. (45 ≤ major) × (major ≤ 50))
major_law = said_as (λ major. (45 ≤ major) × (major ≤ 50)) (tested_law u2_law (λ major. nat_le 45 major && nat_le major 50) (λ at major. BadVersion major))
    (λ major h. let tests = and_parts _ _ h.1 in (leb-true _ _ tests.0, leb-true _ _ tests.1)) (λ major h. major_fits major h.0 h.1)

is_class_file : (minor major : ℕ) (pool : List Const) (b : Body) → IsU2 minor → 45 ≤ major → major ≤ 50 → IsPool pool → FitsBody pool b → IsClassFile (class_with minor major pool b)
is_class_file minor major pool b fits least most formed h = record {
  version = record { fits = fits; least = least; most = most };
  pool = formed;
  access = h.access;
  this_index = h.this_class.0;
  this_class = h.this_class.1;
  super_index = h.super_class.0;
  super_class = h.super_class.1;
  interface_count = h.interfaces.0;
  interfaces = h.interfaces.1;
  field_count = h.fields.0;
  fields = h.fields.1;
  method_count = h.methods.0;
  methods = h.methods.1;
  attribute_count = h.attributes.0;
  attributes = h.attributes.1;
}

-- What the format spells is a class file, with its bytes.
pub class-spelled : (text : List ℕ) (c : ClassFile) → format.class.Spells text c → Spells text c
unfolding format.class
class-spelled text c s =
    let magic = opened magic_law s in
    let minor = opened u2_law magic.second in
    let major = opened major_law minor.second in
    let pool = opened pool_law major.second in
    let body = closed (body_law pool.x) pool.second in
    let from_pool = behind major.rest (pool_bytes pool.x) pool.rest _ pool.parts body.spelled in
    let from_major = behind minor.rest (u2 major.x) major.rest _ major.parts from_pool in
    let from_minor = behind magic.rest (u2 minor.x) minor.rest _ minor.parts from_major in
    let whole = behind text (u4 0xCAFEBABE) magic.rest _ (magic.parts ∙ ap (λ (n : ℕ). u4 n ++ magic.rest) magic.fits) from_minor in
    subst (Spells text) body.is (record { spelled = whole; formed = is_class_file minor.x major.x pool.x body.x minor.fits major.fits.0 major.fits.1 pool.fits body.fits })

body_of : ClassFile → Body
body_of c = record { access = c.access; this_class = c.this_class; super_class = c.super_class; interfaces = c.interfaces; fields = c.fields; methods = c.methods; attributes = c.attributes }

body_fits : (c : ClassFile) → IsClassFile c → FitsBody c.pool (body_of c)
unfolding body_of
body_fits c h = record {
  access = h.access;
  this_class = (h.this_index, h.this_class);
  super_class = (h.super_index, h.super_class);
  interfaces = (h.interface_count, h.interfaces);
  fields = (h.field_count, h.fields);
  methods = (h.method_count, h.methods);
  attributes = (h.attribute_count, h.attributes);
}

class_from : (c : ClassFile) → IsClassFile c → format.class.Spells (class_bytes c) c
unfolding format.class body_of
class_from c h =
    turn magic_law _ 0xCAFEBABE refl (turn u2_law _ c.minor h.version.fits (turn major_law _ c.major (h.version.least, h.version.most)
    (turn pool_law _ c.pool h.pool (end_turn (body_law c.pool) (class_with c.minor c.major c.pool) (body_of c) (body_fits c h)))))

-- A class file's bytes are what the format spells.
pub spelled-class : (text : List ℕ) (c : ClassFile) → Spells text c → format.class.Spells text c
spelled-class text c s = subst (λ (t : List ℕ). format.class.Spells t c) (sym s.spelled) (class_from c s.formed)
