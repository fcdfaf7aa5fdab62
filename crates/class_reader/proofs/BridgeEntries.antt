-- Entries of the constant pool: both descriptions spell them with the same bytes, and ask the same of them.
use Rattle.std.proofs.Common.{◌≡◌, ℕ, ◌^◌, ◌<◌, Bool, true, false, cond, eqb, ℤ, pos, negsuc, List, ◌++◌, length, Some, FitsSigned, refl, sym, ap, subst, ◌∙◌, arith, rules}
use Rattle.std.specs.Int.{w8, w16, w32, w64, to_be_bytes, cast_signed, cast_unsigned}
use Rattle.std.proofs.lemmas.Bool.{and_parts, and_from, eqb-true}
use Rattle.std.proofs.lemmas.Int.{to_z-of_z, of_z-to_z}
use Rattle.jf_bytes.specs.ModifiedUtf8.{modified_utf8}
use Rattle.text_coding.specs.Spelling.{IsUnits}
use Rattle.const_pool.specs.declared.pool.Const.{Const}
use Rattle.const_pool.specs.declared.pool.Const.TheVariants.{Gap, Utf8, Integer, Float, Long, Double, Class, Text, Field, Method, InterfaceMethod, NameType}
use Rattle.const_pool.specs.Pool.{u1, u2, u4, u8, IsEntry, entry_bytes}
use Rattle.const_pool.specs.ClassFile.{IsU2}
use Rattle.class_reader.specs.declared.tags.Tag.{Tag}
use Rattle.class_reader.specs.declared.tags.Tag.TheVariants as tag
use Rattle.class_reader.specs.declared.error.ReadError.TheVariants.{BadTag}
use Rattle.class_reader.specs.Formats.{Format, number, text, value_made, in_turn, AreInTurn, value_converted}
use Rattle.class_reader.specs.ClassFormat.{tag_of, pair, contents, entry, fits_in}
use Rattle.class_reader.proofs.BridgeParts.{IsSpelledBy, number_law, u2_law, opened, closed, behind, turn, end_turn}

-- ---- tags

abbrev number_of : Tag → ℕ
number_of tag.Utf8 = 1
number_of tag.Integer = 3
number_of tag.Float = 4
number_of tag.Long = 5
number_of tag.Double = 6
number_of tag.Class = 7
number_of tag.Text = 8
number_of tag.Field = 9
number_of tag.Method = 10
number_of tag.InterfaceMethod = 11
number_of tag.NameType = 12

chosen : {A P : Type 0} (b : Bool) (x y z : A) → cond b x y ≡ z → (b ≡ true → x ≡ z → P) → (y ≡ z → P) → P
chosen true x y z e on_true on_false = on_true refl e
chosen false x y z e on_true on_false = on_false e

same_tag : (n k : ℕ) (u t : Tag) → k ≡ number_of u → eqb n k ≡ true → Some u ≡ Some t → n ≡ number_of t
same_tag n k u t is e h = let same : u ≡ t = cc in eqb-true n k e ∙ is ∙ ap number_of same

tag_is : (n : ℕ) (t : Tag) → tag_of n ≡ Some t → n ≡ number_of t
tag_is n t e =
    chosen _ _ _ _ e (same_tag n 1 tag.Utf8 t refl) (λ e.
    chosen _ _ _ _ e (same_tag n 3 tag.Integer t refl) (λ e.
    chosen _ _ _ _ e (same_tag n 4 tag.Float t refl) (λ e.
    chosen _ _ _ _ e (same_tag n 5 tag.Long t refl) (λ e.
    chosen _ _ _ _ e (same_tag n 6 tag.Double t refl) (λ e.
    chosen _ _ _ _ e (same_tag n 7 tag.Class t refl) (λ e.
    chosen _ _ _ _ e (same_tag n 8 tag.Text t refl) (λ e.
    chosen _ _ _ _ e (same_tag n 9 tag.Field t refl) (λ e.
    chosen _ _ _ _ e (same_tag n 10 tag.Method t refl) (λ e.
    chosen _ _ _ _ e (same_tag n 11 tag.InterfaceMethod t refl) (λ e.
    chosen _ _ _ _ e (same_tag n 12 tag.NameType t refl) (λ e. absurd cc)))))))))))

one_byte : (n : ℕ) → n < 2 ^ 8 → to_be_bytes w8 n ≡ u1 n
one_byte n h = ap u1 (omega arith)

tag_small : (t : Tag) → number_of t < 2 ^ 8
tag_small tag.Utf8 = omega arith
tag_small _ = omega arith

tag_back : (t : Tag) → tag_of (number_of t) ≡ Some t
tag_back tag.Utf8 = refl
tag_back _ = refl

tag_law : IsSpelledBy (value_converted (number w8) tag_of (λ at n. BadTag at)) (λ t. u1 (number_of t)) (λ t. Unit {0})
tag_law = record {
  «to» = λ text t s. (s.spelled.1 ∙ one_byte s.x s.spelled.0 ∙ ap u1 (tag_is s.x t s.made), tt);
  «from» = λ t h. record { x = number_of t; spelled = (tag_small t, sym (one_byte (number_of t) (tag_small t))); made = tag_back t };
}

-- ---- an entry by itself

-- the parts of an entry are in the range of their types
abbrev pub FitsEntry : Const → Type 0
FitsEntry Gap = ⊥
FitsEntry (Utf8 t) = IsUnits t × (length (modified_utf8 t) < 2 ^ 16)
FitsEntry (Integer n) = FitsSigned w32 n
FitsEntry (Float n) = n < 2 ^ 32
FitsEntry (Long n) = FitsSigned w64 n
FitsEntry (Double n) = n < 2 ^ 64
FitsEntry (Class i) = IsU2 i
FitsEntry (Text i) = IsU2 i
FitsEntry (Field c n) = IsU2 c × IsU2 n
FitsEntry (Method c n) = IsU2 c × IsU2 n
FitsEntry (InterfaceMethod c n) = IsU2 c × IsU2 n
FitsEntry (NameType n d) = IsU2 n × IsU2 d

-- a tag and what follows it are the bytes of an entry
abbrev IsTagged : ℕ → List ℕ → Const → Type 0
IsTagged tag text c = (u1 tag ++ text ≡ entry_bytes c) × FitsEntry c

single_to : {P : Format ℕ} {bytes : ℕ → List ℕ} {Fits : ℕ → Type 0} → IsSpelledBy P bytes Fits → (tag : ℕ) (make : ℕ → Const)
    → ((n : ℕ) → Fits n → IsTagged tag (bytes n) (make n)) → (text : List ℕ) (c : Const) → AreInTurn P (λ n. value_made (make n)) text c → IsTagged tag text c
single_to law tag make each text c s =
    let a = closed law s in
    let one = each a.x a.fits in
    subst (IsTagged tag text) a.is (ap (λ (t : List ℕ). u1 tag ++ t) a.spelled ∙ one.0, one.1)

pair_to : (tag : ℕ) (make : ℕ → ℕ → Const) → ((a b : ℕ) → IsU2 a → IsU2 b → IsTagged tag (u2 a ++ u2 b) (make a b)) → (text : List ℕ) (c : Const) → (pair make).Spells text c → IsTagged tag text c
pair_to tag make each text c s =
    let a = opened u2_law s in
    let b = closed u2_law a.second in
    let one = each a.x b.x a.fits b.fits in
    subst (IsTagged tag text) b.is (ap (λ (t : List ℕ). u1 tag ++ t) (behind text (u2 a.x) a.rest (u2 b.x) a.parts b.spelled) ∙ one.0, one.1)

text_law : (len : ℕ) → IsSpelledBy (text len) modified_utf8 (λ units. IsUnits units × (length (modified_utf8 units) ≡ len))
text_law len = record {
  «to» = λ bytes units s. (sym s.0.spelled, (s.0.fit, ap length s.0.spelled ∙ s.1));
  «from» = λ units h. (record { fit = h.0; spelled = refl }, h.1);
}

utf8_to : (text : List ℕ) (c : Const) → (contents tag.Utf8).Spells text c → IsTagged 1 text c
utf8_to text c s =
    let a = opened u2_law s in
    let b = closed (text_law a.x) a.second in
    let len : u2 a.x ++ a.rest ≡ u2 (length (modified_utf8 b.x)) ++ a.rest = ap (λ (n : ℕ). u2 n ++ a.rest) (sym b.fits.1) in
    let spelled = behind text (u2 (length (modified_utf8 b.x))) a.rest (modified_utf8 b.x) (a.parts ∙ len) b.spelled in
    subst (IsTagged 1 text) b.is (ap (λ (t : List ℕ). u1 1 ++ t) spelled, (b.fits.0, subst IsU2 (sym b.fits.1) a.fits))

integer_tagged : (n : ℕ) → n < 2 ^ 32 → IsTagged 3 (u4 n) (Integer (cast_signed w32 n))
integer_tagged n h = (ap (λ (m : ℕ). u1 3 ++ u4 m) (sym (of_z-to_z w32 n h)), search rules)

long_tagged : (n : ℕ) → n < 2 ^ 64 → IsTagged 5 (u8 n) (Long (cast_signed w64 n))
long_tagged n h = (ap (λ (m : ℕ). u1 5 ++ u8 m) (sym (of_z-to_z w64 n h)), search rules)

contents_to : (t : Tag) (text : List ℕ) (c : Const) → (contents t).Spells text c → IsTagged (number_of t) text c
contents_to tag.Utf8 text c s = utf8_to text c s
contents_to tag.Integer text c s = single_to (number_law w32) 3 (λ n. Integer (cast_signed w32 n)) integer_tagged text c s
contents_to tag.Float text c s = single_to (number_law w32) 4 Float (λ n h. (refl, h)) text c s
contents_to tag.Long text c s = single_to (number_law w64) 5 (λ n. Long (cast_signed w64 n)) long_tagged text c s
contents_to tag.Double text c s = single_to (number_law w64) 6 Double (λ n h. (refl, h)) text c s
contents_to tag.Class text c s = single_to u2_law 7 Class (λ n h. (refl, h)) text c s
contents_to tag.Text text c s = single_to u2_law 8 Text (λ n h. (refl, h)) text c s
contents_to tag.Field text c s = pair_to 9 Field (λ a b h k. (refl, (h, k))) text c s
contents_to tag.Method text c s = pair_to 10 Method (λ a b h k. (refl, (h, k))) text c s
contents_to tag.InterfaceMethod text c s = pair_to 11 InterfaceMethod (λ a b h k. (refl, (h, k))) text c s
contents_to tag.NameType text c s = pair_to 12 NameType (λ a b h k. (refl, (h, k))) text c s

entry_to : (text : List ℕ) (c : Const) → entry.Spells text c → (text ≡ entry_bytes c) × FitsEntry c
entry_to text c s =
    let a = opened tag_law s in
    let h = contents_to a.x a.rest c a.second in
    (a.parts ∙ h.0, h.1)

pair_from : (make : ℕ → ℕ → Const) (a b : ℕ) → IsU2 a → IsU2 b → (pair make).Spells (u2 a ++ u2 b) (make a b)
pair_from make a b h k = turn u2_law (λ a. in_turn (number w16) (λ b. value_made (make a b))) a h (end_turn u2_law (make a) b k)

-- the bits of a signed number
bits_32 : (z : ℤ) → FitsSigned w32 z → cast_unsigned w32 z < 2 ^ 32
bits_32 (pos n) h = let below : n < 2 ^ 31 = h.sfits in omega arith
bits_32 (negsuc n) h = omega arith

bits_64 : (z : ℤ) → FitsSigned w64 z → cast_unsigned w64 z < 2 ^ 64
bits_64 (pos n) h = let below : n < 2 ^ 63 = h.sfits in omega arith
bits_64 (negsuc n) h = omega arith

integer_from : (z : ℤ) → FitsSigned w32 z → (contents tag.Integer).Spells (u4 (cast_unsigned w32 z)) (Integer z)
integer_from z h =
    subst (λ (y : ℤ). (contents tag.Integer).Spells (u4 (cast_unsigned w32 z)) (Integer y)) (to_z-of_z w32 z h)
    (end_turn (number_law w32) (λ n. Integer (cast_signed w32 n)) (cast_unsigned w32 z) (bits_32 z h))

long_from : (z : ℤ) → FitsSigned w64 z → (contents tag.Long).Spells (u8 (cast_unsigned w64 z)) (Long z)
long_from z h =
    subst (λ (y : ℤ). (contents tag.Long).Spells (u8 (cast_unsigned w64 z)) (Long y)) (to_z-of_z w64 z h)
    (end_turn (number_law w64) (λ n. Long (cast_signed w64 n)) (cast_unsigned w64 z) (bits_64 z h))

utf8_from : (t : List ℕ) → IsUnits t → length (modified_utf8 t) < 2 ^ 16 → (contents tag.Utf8).Spells (u2 (length (modified_utf8 t)) ++ modified_utf8 t) (Utf8 t)
utf8_from t h k = turn u2_law (λ len. in_turn (text len) (λ units. value_made (Utf8 units))) (length (modified_utf8 t)) k (end_turn (text_law (length (modified_utf8 t))) Utf8 t (h, refl))

entry_from : (c : Const) → FitsEntry c → entry.Spells (entry_bytes c) c
entry_from Gap h = absurd h
entry_from (Utf8 t) h = turn tag_law contents tag.Utf8 tt (utf8_from t h.0 h.1)
entry_from (Integer n) h = turn tag_law contents tag.Integer tt (integer_from n h)
entry_from (Float n) h = turn tag_law contents tag.Float tt (end_turn (number_law w32) Float n h)
entry_from (Long n) h = turn tag_law contents tag.Long tt (long_from n h)
entry_from (Double n) h = turn tag_law contents tag.Double tt (end_turn (number_law w64) Double n h)
entry_from (Class i) h = turn tag_law contents tag.Class tt (end_turn u2_law Class i h)
entry_from (Text i) h = turn tag_law contents tag.Text tt (end_turn u2_law Text i h)
entry_from (Field c n) h = turn tag_law contents tag.Field tt (pair_from Field c n h.0 h.1)
entry_from (Method c n) h = turn tag_law contents tag.Method tt (pair_from Method c n h.0 h.1)
entry_from (InterfaceMethod c n) h = turn tag_law contents tag.InterfaceMethod tt (pair_from InterfaceMethod c n h.0 h.1)
entry_from (NameType n d) h = turn tag_law contents tag.NameType tt (pair_from NameType n d h.0 h.1)

pub entry_law : IsSpelledBy entry entry_bytes FitsEntry
entry_law = record { «to» = entry_to; «from» = entry_from }

-- ---- an entry in its pool

pub is_entry : (pool : List Const) (c : Const) → FitsEntry c → fits_in pool c ≡ true → IsEntry pool c
is_entry pool Gap h named = absurd h
is_entry pool (Utf8 t) h named = (h.0, h.1)
is_entry pool (Integer n) h named = h
is_entry pool (Float n) h named = h
is_entry pool (Long n) h named = h
is_entry pool (Double n) h named = h
is_entry pool (Class i) h named = (h, named)
is_entry pool (Text i) h named = (h, named)
is_entry pool (Field c n) h named = let p = and_parts _ _ named in (h.0, h.1, p.0, p.1)
is_entry pool (Method c n) h named = let p = and_parts _ _ named in (h.0, h.1, p.0, p.1)
is_entry pool (InterfaceMethod c n) h named = let p = and_parts _ _ named in (h.0, h.1, p.0, p.1)
is_entry pool (NameType n d) h named = let p = and_parts _ _ named in (h.0, h.1, p.0, p.1)

pub entry_parts : (pool : List Const) (c : Const) → IsEntry pool c → FitsEntry c × (fits_in pool c ≡ true)
entry_parts pool Gap h = absurd h
entry_parts pool (Utf8 t) h = ((h.0, h.1), refl)
entry_parts pool (Integer n) h = (h, refl)
entry_parts pool (Float n) h = (h, refl)
entry_parts pool (Long n) h = (h, refl)
entry_parts pool (Double n) h = (h, refl)
entry_parts pool (Class i) h = (h.0, h.1)
entry_parts pool (Text i) h = (h.0, h.1)
entry_parts pool (Field c n) h = ((h.0, h.1), and_from _ _ h.2 h.3)
entry_parts pool (Method c n) h = ((h.0, h.1), and_from _ _ h.2 h.3)
entry_parts pool (InterfaceMethod c n) h = ((h.0, h.1), and_from _ _ h.2 h.3)
entry_parts pool (NameType n d) h = ((h.0, h.1), and_from _ _ h.2 h.3)
