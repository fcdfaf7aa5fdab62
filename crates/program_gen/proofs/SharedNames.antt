-- The entries of texts, classes and members.
use Rattle.std.proofs.Common.{◌≡◌, ◌≢◌, get_or, ℕ, zero, suc, ◌+◌, ◌<◌, ◌^◌, Bool, true, false, List, [], ◌∷◌, ◌++◌, length, Some, slice_get, refl, ap, sym, ◌∙◌, subst, append_assoc, arith}
use Rattle.std.specs.Prelude.{◌&&◌, ◌==◌, nat_lt, codes, if◌then◌else◌}
use Rattle.std.specs.Fmt.{decimal, digits}
use Rattle.std.specs.List.{list_all, AllByRecursion}
use Rattle.std.proofs.lemmas.Bool.{and_parts, ltb-true, ltb-false}
use Rattle.jf_bytes.specs.ModifiedUtf8.{modified_utf8}
use Rattle.jf_bytes.proofs.Lists.{slice_get-front}
use Rattle.const_pool.specs.declared.pool.Const.{Const}
use Rattle.const_pool.specs.declared.pool.Const.TheVariants.{Utf8, Class, Field, Method, NameType}
use Rattle.const_pool.specs.BuiltIn.{probe_class}
use Rattle.const_pool.specs.Pool.{Names, is_utf8, is_class, is_name_type}
use Rattle.program_gen.specs.declared.rows.ClassName.{ClassName}
use Rattle.program_gen.specs.declared.rows.ClassName.TheVariants.{Object, System, PrintStream, Main, Numbered}
use Rattle.program_gen.specs.declared.rows.MemberName.{MemberName}
use Rattle.program_gen.specs.declared.rows.MemberName.TheVariants.{Initializer, Entry, Run, Out, Println}
use Rattle.program_gen.specs.Names.{class_text, member_text, member_descriptor}
use Rattle.class_making.specs.Making.{EntryMade, member_entry}
use Rattle.program_gen.specs.Making.{entry_shared, class_shared, name_type_shared, member_shared}
use Rattle.program_gen.specs.Fits.{FitsName}
use Rattle.program_gen.proofs.Pools.{names-at, IsNarrow, IsGood}
use Rattle.program_gen.proofs.SharedEntries.{shared-holds}

-- ---- texts

abbrev is_fit : List ℕ → Bool
is_fit text = list_all (λ unit. nat_lt unit 65536) text && nat_lt (length (modified_utf8 text)) 256

units-fit : (text : List ℕ) → list_all (λ unit. nat_lt unit 65536) text ≡ true → AllByRecursion (λ unit. unit < 2 ^ 16) text
units-fit [] h = tt
units-fit (unit ∷ text) h = let parts = and_parts _ _ h in (ltb-true unit 65536 parts.0, units-fit text parts.1)

pub text-narrow : (pool : List Const) (text : List ℕ) → is_fit text ≡ true → IsNarrow pool (Utf8 text)
text-narrow pool text h =
    let parts = and_parts (list_all (λ unit. nat_lt unit 65536) text) (nat_lt (length (modified_utf8 text)) 256) h in
    let short = ltb-true (length (modified_utf8 text)) 256 parts.1 in
    record { entry = (units-fit text parts.0, omega (arith, short)); narrow = refl; few = omega (arith, short); other = tt }

-- all names with a number below this one are fit
abbrev are_fit : ℕ → Bool
are_fit zero = true
are_fit (suc n) = is_fit (codes "Gen" ++ decimal n) && are_fit n

all-fit : are_fit 200 ≡ true
unfolding digits
all-fit = refl

fit-below : (n k : ℕ) → are_fit n ≡ true → k < n → is_fit (codes "Gen" ++ decimal k) ≡ true
fit-below zero k h below = absurd (omega arith)
fit-below (suc n) k h below = by (nat_lt k n) refl (fit-below n k (and_parts (is_fit (codes "Gen" ++ decimal n)) (are_fit n) h).1)
  where
    by : (b : Bool) → nat_lt k n ≡ b → (k < n → is_fit (codes "Gen" ++ decimal k) ≡ true) → is_fit (codes "Gen" ++ decimal k) ≡ true
    by true e rest = rest (ltb-true k n e)
    by false e rest =
        let last = ltb-false k n e in
        let same : k ≡ n = omega (arith, last, below) in
        subst (λ m. is_fit (codes "Gen" ++ decimal m) ≡ true) (sym same) (and_parts (is_fit (codes "Gen" ++ decimal n)) (are_fit n) h).0

class_text-fit : (name : ClassName) → FitsName name → is_fit (class_text name) ≡ true
class_text-fit Object h = refl
class_text-fit System h = refl
class_text-fit PrintStream h = refl
class_text-fit Main h = refl
class_text-fit (Numbered number) h = fit-below 200 number all-fit h

pub member_text-fit : (name : MemberName) → is_fit (member_text name) ≡ true
member_text-fit Initializer = refl
member_text-fit Entry = refl
member_text-fit Run = refl
member_text-fit Out = refl
member_text-fit Println = refl

pub member_descriptor-fit : (name : MemberName) → is_fit (member_descriptor name) ≡ true
member_descriptor-fit Initializer = refl
member_descriptor-fit Entry = refl
member_descriptor-fit Run = refl
member_descriptor-fit Out = refl
member_descriptor-fit Println = refl

pub code-fit : is_fit (codes "Code") ≡ true
code-fit = refl

-- ---- a pool that grows

-- the pool has become longer by so many entries at most, behind those that it had
pub record Grows (n added : ℕ) (pool after : List Const) : Type 0 where
  pub more : List Const
  pub grown : after ≡ pool ++ more
  pub good : IsGood (n + added) after

pub then-grows : (n a b : ℕ) (p q r : List Const) → Grows n a p q → Grows (n + a) b q r → Grows n (a + b) p r
then-grows n a b p q r g h = record {
  more = g.more ++ h.more;
  grown = h.grown ∙ ap (λ (x : List Const). x ++ h.more) g.grown ∙ append_assoc p g.more h.more;
  good = subst (λ k. IsGood k r) (let e : (n + a) + b ≡ n + (a + b) = omega arith in e) h.good;
}

pub at-grown : (n a : ℕ) (p q : List Const) (i : ℕ) (c : Const) → Grows n a p q → slice_get p i ≡ Some c → slice_get q i ≡ Some c
at-grown n a p q i c g h = ap (λ (x : List Const). slice_get x i) g.grown ∙ slice_get-front p g.more i c h

-- the entry that the index names, behind what was added
pub record HasAdded (n added : ℕ) (pool : List Const) (entry : Const) (s : EntryMade) : Type 0 where
  pub grows : Grows n added pool s.pool
  pub at : slice_get s.pool s.index ≡ Some entry
  pub small : s.index < 2 ^ 16

pub entry-added : (n : ℕ) (pool : List Const) (entry : Const) → IsGood n pool → n < 65535 → IsNarrow pool entry → HasAdded n 1 pool entry (entry_shared pool entry)
entry-added n pool entry g h plain =
    let s = shared-holds n pool entry g h plain in
    record {
      grows = record { more = s.more; grown = s.grown; good = subst (λ k. IsGood k (entry_shared pool entry).pool) (let e : suc n ≡ n + 1 = omega arith in e) s.good };
      at = s.at;
      small = s.small;
    }

pub text-added : (n : ℕ) (pool : List Const) (text : List ℕ) → IsGood n pool → n < 65535 → is_fit text ≡ true → HasAdded n 1 pool (Utf8 text) (entry_shared pool (Utf8 text))
text-added n pool text g h fit = entry-added n pool (Utf8 text) g h (text-narrow pool text fit)

-- no class is that of the probes, which has another letter after the first
class_text-other : (name : ClassName) → class_text name ≢ probe_class
class_text-other Object e = let same : ◌≡◌ {A = ℕ} 97 102 = ap (λ (x : List ℕ). get_or x 1 0) e in omega arith
class_text-other System e = let same : ◌≡◌ {A = ℕ} 97 102 = ap (λ (x : List ℕ). get_or x 1 0) e in omega arith
class_text-other PrintStream e = let same : ◌≡◌ {A = ℕ} 97 102 = ap (λ (x : List ℕ). get_or x 1 0) e in omega arith
class_text-other Main e = let same : ◌≡◌ {A = ℕ} 101 102 = ap (λ (x : List ℕ). get_or x 1 0) e in omega arith
class_text-other (Numbered number) e = let same : ◌≡◌ {A = ℕ} 101 102 = ap (λ (x : List ℕ). get_or x 1 0) e in omega arith

-- a class has its text's index
pub record HasClass (n : ℕ) (pool : List Const) (text : List ℕ) (s : EntryMade) : Type 0 where
  pub name : ℕ
  pub named : slice_get s.pool name ≡ Some (Utf8 text)
  pub added : HasAdded n 2 pool (Class name) s

pub class-added : (n : ℕ) (pool : List Const) (name : ClassName) → IsGood n pool → n < 65000 → FitsName name → HasClass n pool (class_text name) (class_shared pool name)
unfolding class_shared
class-added n pool name g h fits =
    let t = text-added n pool (class_text name) g (omega arith) (class_text-fit name fits) in
    let text = entry_shared pool (Utf8 (class_text name)) in
    let c = entry-added (n + 1) text.pool (Class text.index) t.grows.good (omega arith)
    (record {
      entry = (t.small, names-at is_utf8 text.pool text.index _ t.at refl);
      narrow = refl;
      few = omega arith;
      other = record { text = class_text name; at = t.at; other = class_text-other name };
    }) in
    record {
      name = text.index;
      named = at-grown (n + 1) 1 _ _ text.index _ c.grows t.at;
      added = record { grows = then-grows n 1 1 _ _ _ t.grows c.grows; at = c.at; small = c.small };
    }

pub record HasNameType (n : ℕ) (pool : List Const) (member : MemberName) (s : EntryMade) : Type 0 where
  pub name : ℕ
  pub named : slice_get s.pool name ≡ Some (Utf8 (member_text member))
  pub descriptor : ℕ
  pub described : slice_get s.pool descriptor ≡ Some (Utf8 (member_descriptor member))
  pub added : HasAdded n 3 pool (NameType name descriptor) s

name_type-added : (n : ℕ) (pool : List Const) (member : MemberName) → IsGood n pool → n < 65000 → HasNameType n pool member (name_type_shared pool member)
unfolding name_type_shared
name_type-added n pool member g h =
    let a = text-added n pool (member_text member) g (omega arith) (member_text-fit member) in
    let name = entry_shared pool (Utf8 (member_text member)) in
    let b = text-added (n + 1) name.pool (member_descriptor member) a.grows.good (omega arith) (member_descriptor-fit member) in
    let descriptor = entry_shared name.pool (Utf8 (member_descriptor member)) in
    let both = then-grows n 1 1 _ _ _ a.grows b.grows in
    let name_at = at-grown (n + 1) 1 _ _ name.index _ b.grows a.at in
    let c = entry-added (n + 2) descriptor.pool (NameType name.index descriptor.index) both.good (omega arith)
    (record { entry = (a.small, b.small, names-at is_utf8 descriptor.pool name.index _ name_at refl, names-at is_utf8 descriptor.pool descriptor.index _ b.at refl); narrow = refl; few = omega arith; other = tt }) in
    record {
      name = name.index;
      named = at-grown (n + 2) 1 _ _ name.index _ c.grows name_at;
      descriptor = descriptor.index;
      described = at-grown (n + 2) 1 _ _ descriptor.index _ c.grows b.at;
      added = record { grows = then-grows n 2 1 _ _ _ both c.grows; at = c.at; small = c.small };
    }

member-narrow : (pool : List Const) (op class member : ℕ) → (class < 2 ^ 16) × (member < 2 ^ 16) × Names is_class pool class × Names is_name_type pool member
    → IsNarrow pool (member_entry op class member)
member-narrow pool op class member h = by (op == 178)
  where
    by : (b : Bool) → IsNarrow pool (if b then Field class member else Method class member)
    by true = record { entry = h; narrow = refl; few = omega arith; other = tt }
    by false = record { entry = h; narrow = refl; few = omega arith; other = tt }

-- the entry of a member at this index, with all that it stands on
pub record StandsMember (pool : List Const) (op : ℕ) (class : ClassName) (member : MemberName) (index : ℕ) : Type 0 where
  pub class_index : ℕ
  pub class_name : ℕ
  pub name_type : ℕ
  pub name : ℕ
  pub descriptor : ℕ
  pub at : slice_get pool index ≡ Some (member_entry op class_index name_type)
  pub class_at : slice_get pool class_index ≡ Some (Class class_name)
  pub class_named : slice_get pool class_name ≡ Some (Utf8 (class_text class))
  pub name_type_at : slice_get pool name_type ≡ Some (NameType name descriptor)
  pub named : slice_get pool name ≡ Some (Utf8 (member_text member))
  pub described : slice_get pool descriptor ≡ Some (Utf8 (member_descriptor member))

pub record HasMember (n : ℕ) (pool : List Const) (op : ℕ) (class : ClassName) (member : MemberName) (s : EntryMade) : Type 0 where
  pub entry : Const
  pub added : HasAdded n 6 pool entry s
  pub stands : StandsMember s.pool op class member s.index

pub member-added : (n : ℕ) (pool : List Const) (op : ℕ) (class : ClassName) (member : MemberName) → IsGood n pool → n < 64000 → FitsName class
    → HasMember n pool op class member (member_shared pool op class member)
unfolding member_shared
member-added n pool op class member g h fits =
    let a = class-added n pool class g (omega arith) fits in
    let c = class_shared pool class in
    let b = name_type-added (n + 2) c.pool member a.added.grows.good (omega arith) in
    let m = name_type_shared c.pool member in
    let both = then-grows n 2 3 _ _ _ a.added.grows b.added.grows in
    let class_at = at-grown (n + 2) 3 _ _ c.index _ b.added.grows a.added.at in
    let d = entry-added (n + 5) m.pool (member_entry op c.index m.index) both.good (omega arith)
    (member-narrow m.pool op c.index m.index
    (a.added.small, b.added.small, names-at is_class m.pool c.index _ class_at refl, names-at is_name_type m.pool m.index _ b.added.at refl)) in
    record {
      entry = member_entry op c.index m.index;
      added = record { grows = then-grows n 5 1 _ _ _ both d.grows; at = d.at; small = d.small };
      stands = record {
        class_index = c.index;
        class_name = a.name;
        name_type = m.index;
        name = b.name;
        descriptor = b.descriptor;
        at = d.at;
        class_at = at-grown (n + 5) 1 _ _ c.index _ d.grows class_at;
        class_named = at-grown (n + 5) 1 _ _ a.name _ d.grows (at-grown (n + 2) 3 _ _ a.name _ b.added.grows a.named);
        name_type_at = at-grown (n + 5) 1 _ _ m.index _ d.grows b.added.at;
        named = at-grown (n + 5) 1 _ _ b.name _ d.grows b.named;
        described = at-grown (n + 5) 1 _ _ b.descriptor _ d.grows b.described;
      };
    }
