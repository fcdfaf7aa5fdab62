-- The methods of a class, and the pool behind them.
use Rattle.std.proofs.Common.{◌≡◌, ℕ, ◌+◌, ◌*◌, ◌<◌, ◌≤◌, ◌^◌, List, [], ◌∷◌, ◌++◌, length, Some, slice_get, refl, sym, subst, length-append, append_assoc, arith, lit<}
use Rattle.std.specs.Prelude.{codes}
use Rattle.std.specs.List.{AllByRecursion, AllZip, flat_map}
use Rattle.std.proofs.lemmas.List.{append-nil}
use Rattle.const_pool.specs.declared.pool.Const.{Const}
use Rattle.const_pool.specs.declared.pool.Const.TheVariants.{Utf8}
use Rattle.const_pool.specs.declared.class.Member.{Member}
use Rattle.const_pool.specs.declared.class.CodeAttribute.{CodeAttribute}
use Rattle.const_pool.specs.declared.class.Attribute.{Attribute}
use Rattle.const_pool.specs.declared.class.Attribute.TheVariants.{Code}
use Rattle.const_pool.specs.Pool.{is_utf8}
use Rattle.const_pool.specs.ClassFile.{IsByte, IsCode, IsMember, IsMethodAttribute, code_bytes, code_name, member_bytes}
use Rattle.program_gen.specs.declared.rows.MethodRow.{MethodRow}
use Rattle.program_gen.specs.Names.{member_text, member_descriptor}
use Rattle.class_making.specs.Making.{MemberMade, MembersMade}
use Rattle.program_gen.specs.Making.{entry_shared, code_from, method_added, methods_from}
use Rattle.program_gen.specs.Fits.{FitsMethod}
use Rattle.program_gen.specs.Members.{HasCodeOf, IsMethodOf}
use Rattle.program_gen.proofs.Pools.{zip-push, zip-by, names-at, text-named, IsGood}
use Rattle.program_gen.proofs.SharedNames.{Grows, then-grows, at-grown, text-added, member_text-fit, member_descriptor-fit, code-fit}
use Rattle.program_gen.proofs.MadeCode.{grows-none, grows-wider, code-grows}
use Rattle.program_gen.proofs.SpelledCode.{IsPart, code-parts, parts-more, parts-spelled}

-- the code of a method as it is made
abbrev code_of : ℕ → ℕ → List ℕ → CodeAttribute
code_of stack locals bytes = record { max_stack = stack; max_locals = locals; code = bytes; handlers = []; attributes = [] }

-- a method whose indices name the texts of its row, with one code, which is the row's instructions
pub record IsMade (pool : List Const) (row : MethodRow) (m : Member) : Type 0 where
  pub access : m.access ≡ row.access
  pub access_fits : m.access < 2 ^ 16
  pub named : slice_get pool m.name ≡ Some (Utf8 (member_text row.name))
  pub name_small : m.name < 2 ^ 16
  pub described : slice_get pool m.descriptor ≡ Some (Utf8 (member_descriptor row.name))
  pub descriptor_small : m.descriptor < 2 ^ 16
  pub attribute : ℕ
  pub attribute_small : attribute < 2 ^ 16
  pub attribute_at : slice_get pool attribute ≡ Some (Utf8 code_name)
  pub bytes : List ℕ
  pub is : m.attributes ≡ Code attribute (code_of row.max_stack row.max_locals bytes) ∷ []
  pub stack_small : row.max_stack < 2 ^ 16
  pub locals_small : row.max_locals < 2 ^ 16
  pub parts : List (List ℕ)
  pub spelled : AllZip (IsPart pool) row.code parts
  pub joined : bytes ≡ flat_map (λ part. part) parts
  pub each : AllByRecursion IsByte bytes
  pub some : 0 < length bytes
  pub few : length bytes ≤ 78

made-more : (n a : ℕ) (p q : List Const) → Grows n a p q → (row : MethodRow) (m : Member) → IsMade p row m → IsMade q row m
made-more n a p q g row m h = record {
  access = h.access;
  access_fits = h.access_fits;
  named = at-grown n a p q m.name _ g h.named;
  name_small = h.name_small;
  described = at-grown n a p q m.descriptor _ g h.described;
  descriptor_small = h.descriptor_small;
  attribute = h.attribute;
  attribute_small = h.attribute_small;
  attribute_at = at-grown n a p q h.attribute _ g h.attribute_at;
  bytes = h.bytes;
  is = h.is;
  stack_small = h.stack_small;
  locals_small = h.locals_small;
  parts = h.parts;
  spelled = parts-more n a p q g row.code h.parts h.spelled;
  joined = h.joined;
  each = h.each;
  some = h.some;
  few = h.few;
}

-- ---- as a member of a class file

length-code_bytes : (stack locals : ℕ) (bytes : List ℕ) → length (code_bytes (code_of stack locals bytes)) ≡ 12 + length bytes
length-code_bytes stack locals bytes = let same = length-append bytes (0 ∷ 0 ∷ 0 ∷ 0 ∷ []) in omega (arith, same)

is-code : (pool : List Const) (stack locals : ℕ) (bytes : List ℕ) → stack < 2 ^ 16 → locals < 2 ^ 16 → AllByRecursion IsByte bytes → 0 < length bytes → length bytes ≤ 78
    → IsCode pool (code_of stack locals bytes)
is-code pool stack locals bytes s l each some few =
    let whole = length-code_bytes stack locals bytes in
    record {
      max_stack = s;
      max_locals = l;
      some = some;
      short = omega (arith, few);
      code = each;
      handler_count = lit< tt;
      handlers = tt;
      attribute_count = lit< tt;
      attributes = tt;
      whole = omega (arith, whole, few);
    }

pub is-member : (pool : List Const) (row : MethodRow) (m : Member) → IsMade pool row m → IsMember IsMethodAttribute pool m
is-member pool row m h = record {
  access = h.access_fits;
  name = h.name_small;
  named = names-at is_utf8 pool m.name _ h.named refl;
  descriptor = h.descriptor_small;
  described = names-at is_utf8 pool m.descriptor _ h.described refl;
  count = rw h.is (lit< tt);
  attributes = rw h.is ((h.attribute_small, text-named pool h.attribute code_name h.attribute_at, is-code pool row.max_stack row.max_locals h.bytes h.stack_small h.locals_small h.each h.some h.few), tt);
}

-- ---- making it

pub record MethodGrows (n : ℕ) (pool : List Const) (row : MethodRow) (made : MemberMade) : Type 0 where
  pub grows : Grows n 159 pool made.pool
  pub is : IsMade made.pool row made.member

pub method-grows : (n : ℕ) (pool : List Const) (row : MethodRow) → IsGood n pool → n < 60000 → FitsMethod row → MethodGrows n pool row (method_added pool row)
unfolding method_added
method-grows n pool row g h fits =
    let few = fits.few in
    let a = text-added n pool (member_text row.name) g (omega arith) (member_text-fit row.name) in
    let name = entry_shared pool (Utf8 (member_text row.name)) in
    let b = text-added (n + 1) name.pool (member_descriptor row.name) a.grows.good (omega arith) (member_descriptor-fit row.name) in
    let descriptor = entry_shared name.pool (Utf8 (member_descriptor row.name)) in
    let c = text-added ((n + 1) + 1) descriptor.pool (codes "Code") b.grows.good (omega arith) code-fit in
    let attribute = entry_shared descriptor.pool (Utf8 (codes "Code")) in
    let d = code-grows row.code (((n + 1) + 1) + 1) attribute.pool [] c.grows.good (omega (arith, few)) tt fits.each in
    let whole = code-parts row.code (((n + 1) + 1) + 1) attribute.pool [] c.grows.good (omega (arith, few)) tt fits.each in
    let size = 6 * length row.code in
    let made = code_from attribute.pool [] row.code in
    let last_two = then-grows ((n + 1) + 1) 1 size _ _ _ c.grows d.grows in
    let last_three = then-grows (n + 1) 1 (1 + size) _ _ _ b.grows last_two in
    let all = then-grows n 1 (1 + (1 + size)) _ _ _ a.grows last_three in
    let some = fits.some in
    let longer = d.longer in
    let shorter = d.shorter in
    record {
      grows = grows-wider n (1 + (1 + (1 + size))) 159 pool made.pool (omega (arith, few)) all;
      is = record {
        access = refl;
        access_fits = fits.access_fits;
        named = at-grown (n + 1) (1 + (1 + size)) _ _ name.index _ last_three a.at;
        name_small = a.small;
        described = at-grown ((n + 1) + 1) (1 + size) _ _ descriptor.index _ last_two b.at;
        descriptor_small = b.small;
        attribute = attribute.index;
        attribute_small = c.small;
        attribute_at = at-grown (((n + 1) + 1) + 1) size _ _ attribute.index _ d.grows c.at;
        bytes = made.bytes;
        is = refl;
        stack_small = fits.stack;
        locals_small = fits.locals;
        parts = whole.parts;
        spelled = whole.each;
        joined = whole.joined;
        each = d.each;
        some = omega (arith, some, longer);
        few = omega (arith, few, shorter);
      };
    }

pub record MethodsGrow (n added : ℕ) (pool : List Const) (rows : List MethodRow) (made : MembersMade) : Type 0 where
  pub grows : Grows n added pool made.pool
  pub each : AllZip (IsMade made.pool) rows made.members

pub methods-grow : (rows before : List MethodRow) (n : ℕ) (pool : List Const) (done : List Member) → IsGood n pool → n + 159 * length rows < 60000
    → AllZip (IsMade pool) before done → AllByRecursion FitsMethod rows → MethodsGrow n (159 * length rows) pool (before ++ rows) (methods_from pool done rows)
unfolding methods_from
methods-grow [] before n pool done g h each fits =
    record { grows = grows-none n pool g; each = subst (λ (all : List MethodRow). AllZip (IsMade pool) all done) (sym (append-nil before)) each }
methods-grow (row ∷ rest) before n pool done g h each fits =
    let first = method-grows n pool row g (omega arith) fits.0 in
    let made = method_added pool row in
    let so_far = zip-push (IsMade made.pool) before done row made.member (zip-by (IsMade pool) (IsMade made.pool) (made-more n 159 pool made.pool first.grows) before done each) first.is in
    let later = methods-grow rest (before ++ row ∷ []) (n + 159) made.pool (done ++ made.member ∷ []) first.grows.good (omega arith) so_far fits.1 in
    let all : 159 + 159 * length rest ≡ 159 * length (row ∷ rest) = omega arith in
    record {
      grows = subst (λ k. Grows n k pool (methods_from made.pool (done ++ made.member ∷ []) rest).pool) all (then-grows n 159 (159 * length rest) _ _ _ first.grows later.grows);
      each = subst (λ (rows : List MethodRow). AllZip (IsMade (methods_from made.pool (done ++ made.member ∷ []) rest).pool) rows (methods_from made.pool (done ++ made.member ∷ []) rest).members)
          (append_assoc before (row ∷ []) rest) later.each;
    }

-- how many there are
pub length-methods_from : (rows : List MethodRow) (pool : List Const) (done : List Member) → length (methods_from pool done rows).members ≡ length done + length rows
unfolding methods_from
length-methods_from [] pool done = omega arith
length-methods_from (row ∷ rest) pool done =
    let made = method_added pool row in
    let later = length-methods_from rest made.pool (done ++ made.member ∷ []) in
    let one = length-append done (made.member ∷ []) in
    omega (arith, later, one)

-- ---- how many bytes they have

member-bytes : (pool : List Const) (row : MethodRow) (m : Member) → IsMade pool row m → length (member_bytes m) ≤ 104
member-bytes pool row m h = subst (λ (list : List Attribute). length (member_bytes (record m { attributes = list })) ≤ 104) (sym h.is) (
    let whole = length-code_bytes row.max_stack row.max_locals h.bytes in
    let code = code_bytes (code_of row.max_stack row.max_locals h.bytes) in
    let more = length-append code [] in
    let few = h.few in
    omega (arith, whole, more, few))

pub members-bytes : (pool : List Const) (rows : List MethodRow) (ms : List Member) → AllZip (IsMade pool) rows ms → length (flat_map member_bytes ms) ≤ 104 * length ms
members-bytes pool [] [] h = omega arith
members-bytes pool [] (m ∷ ms) h = absurd h
members-bytes pool (row ∷ rows) [] h = absurd h
members-bytes pool (row ∷ rows) (m ∷ ms) h =
    let here = member-bytes pool row m h.0 in
    let rest = members-bytes pool rows ms h.1 in
    let both = length-append (member_bytes m) (flat_map member_bytes ms) in
    omega (arith, both)

-- ---- what the row says of them

pub has-method : (pool : List Const) (row : MethodRow) (m : Member) → IsMade pool row m → IsMethodOf pool row m
has-method pool row m h = record {
  access = h.access;
  name = text-named pool m.name (member_text row.name) h.named;
  descriptor = text-named pool m.descriptor (member_descriptor row.name) h.described;
}

pub has-code : (pool : List Const) (row : MethodRow) (m : Member) → IsMade pool row m → HasCodeOf pool row m
has-code pool row m h = record {
  name = h.attribute;
  named = text-named pool h.attribute code_name h.attribute_at;
  bytes = h.bytes;
  is = h.is;
  code = parts-spelled pool row.code h.parts h.bytes h.spelled h.joined;
}
