-- An entry that is shared: its index names it, and the pool has grown by one at most.
use Rattle.std.proofs.Common.{◌≡◌, ℕ, zero, suc, ◌+◌, ◌<◌, ◌^◌, Bool, true, false, cond, List, [], ◌∷◌, ◌++◌, length, Option, Some, None, slice_get, refl, ap, sym, ◌∙◌, subst, arith}
use Rattle.std.specs.List.{position_from}
use Rattle.std.proofs.lemmas.Bool.{and_parts, eqb-true}
use Rattle.std.proofs.lemmas.List.{append-nil}
use Rattle.std.proofs.lemmas.Option.{slice_get_within}
use Rattle.std.proofs.lemmas.Slice.Eq.{bytes_eq-Decides}
use Rattle.const_pool.specs.declared.pool.Const.{Const}
use Rattle.const_pool.specs.declared.pool.Const.TheVariants.{Gap, Utf8, Integer, Float, Long, Double, Class, Text, Field, Method, InterfaceMethod, NameType}
use Rattle.class_making.specs.Making.{EntryMade, short_of}
use Rattle.program_gen.specs.Making.{is_text, is_class, is_field, is_method, is_name_type, is_same, shared_at, entry_shared}
use Rattle.program_gen.proofs.Pools.{seam, IsNarrow, IsGood, good-push, good-wider}

text-is : (text : List ℕ) (other : Const) → is_text text other ≡ true → Utf8 text ≡ other
text-is text Gap h = absurd cc
text-is text (Utf8 t) h = ap (λ (t : List ℕ). Utf8 t) ((bytes_eq-Decides text t).0 h)
text-is text (Integer n) h = absurd cc
text-is text (Float n) h = absurd cc
text-is text (Long n) h = absurd cc
text-is text (Double n) h = absurd cc
text-is text (Class i) h = absurd cc
text-is text (Text i) h = absurd cc
text-is text (Field c m) h = absurd cc
text-is text (Method c m) h = absurd cc
text-is text (InterfaceMethod c m) h = absurd cc
text-is text (NameType n d) h = absurd cc

class-is : (name : ℕ) (other : Const) → is_class name other ≡ true → Class name ≡ other
class-is name Gap h = absurd cc
class-is name (Utf8 t) h = absurd cc
class-is name (Integer n) h = absurd cc
class-is name (Float n) h = absurd cc
class-is name (Long n) h = absurd cc
class-is name (Double n) h = absurd cc
class-is name (Class i) h = ap (λ (n : ℕ). Class n) (eqb-true name i h)
class-is name (Text i) h = absurd cc
class-is name (Field c m) h = absurd cc
class-is name (Method c m) h = absurd cc
class-is name (InterfaceMethod c m) h = absurd cc
class-is name (NameType n d) h = absurd cc

field-is : (class member : ℕ) (other : Const) → is_field class member other ≡ true → Field class member ≡ other
field-is class member Gap h = absurd cc
field-is class member (Utf8 t) h = absurd cc
field-is class member (Integer n) h = absurd cc
field-is class member (Float n) h = absurd cc
field-is class member (Long n) h = absurd cc
field-is class member (Double n) h = absurd cc
field-is class member (Class i) h = absurd cc
field-is class member (Text i) h = absurd cc
field-is class member (Field c m) h = let parts = and_parts _ _ h in ap (λ (p : ℕ). Field p member) (eqb-true class c parts.0) ∙ ap (λ (p : ℕ). Field c p) (eqb-true member m parts.1)
field-is class member (Method c m) h = absurd cc
field-is class member (InterfaceMethod c m) h = absurd cc
field-is class member (NameType n d) h = absurd cc

method-is : (class member : ℕ) (other : Const) → is_method class member other ≡ true → Method class member ≡ other
method-is class member Gap h = absurd cc
method-is class member (Utf8 t) h = absurd cc
method-is class member (Integer n) h = absurd cc
method-is class member (Float n) h = absurd cc
method-is class member (Long n) h = absurd cc
method-is class member (Double n) h = absurd cc
method-is class member (Class i) h = absurd cc
method-is class member (Text i) h = absurd cc
method-is class member (Field c m) h = absurd cc
method-is class member (Method c m) h = let parts = and_parts _ _ h in ap (λ (p : ℕ). Method p member) (eqb-true class c parts.0) ∙ ap (λ (p : ℕ). Method c p) (eqb-true member m parts.1)
method-is class member (InterfaceMethod c m) h = absurd cc
method-is class member (NameType n d) h = absurd cc

name_type-is : (name descriptor : ℕ) (other : Const) → is_name_type name descriptor other ≡ true → NameType name descriptor ≡ other
name_type-is name descriptor Gap h = absurd cc
name_type-is name descriptor (Utf8 t) h = absurd cc
name_type-is name descriptor (Integer n) h = absurd cc
name_type-is name descriptor (Float n) h = absurd cc
name_type-is name descriptor (Long n) h = absurd cc
name_type-is name descriptor (Double n) h = absurd cc
name_type-is name descriptor (Class i) h = absurd cc
name_type-is name descriptor (Text i) h = absurd cc
name_type-is name descriptor (Field c m) h = absurd cc
name_type-is name descriptor (Method c m) h = absurd cc
name_type-is name descriptor (InterfaceMethod c m) h = absurd cc
name_type-is name descriptor (NameType n d) h = let parts = and_parts _ _ h in ap (λ (p : ℕ). NameType p descriptor) (eqb-true name n parts.0) ∙ ap (λ (p : ℕ). NameType n p) (eqb-true descriptor d parts.1)

same-is : (entry other : Const) → is_same entry other ≡ true → entry ≡ other
same-is (Utf8 text) other h = text-is text other h
same-is (Class name) other h = class-is name other h
same-is (Field class member) other h = field-is class member other h
same-is (Method class member) other h = method-is class member other h
same-is (NameType name descriptor) other h = name_type-is name descriptor other h
same-is Gap other h = absurd cc
same-is (Integer n) other h = absurd cc
same-is (Float n) other h = absurd cc
same-is (Long n) other h = absurd cc
same-is (Double n) other h = absurd cc
same-is (Text i) other h = absurd cc
same-is (InterfaceMethod c m) other h = absurd cc

-- the first place that passes
record Passes {A : Type 0} (test : A → Bool) (xs : List A) (first n : ℕ) : Type 0 where
  pub place : ℕ
  pub item : A
  pub number : n ≡ first + place
  pub at : slice_get xs place ≡ Some item
  pub passed : test item ≡ true

later : {A : Type 0} (test : A → Bool) (x : A) (xs : List A) (first n : ℕ) → Passes test xs (first + 1) n → Passes test (x ∷ xs) first n
later test x xs first n p = record { place = suc p.place; item = p.item; number = p.number ∙ omega arith; at = p.at; passed = p.passed }

position_found : {A : Type 0} (test : A → Bool) (xs : List A) (first n : ℕ) → position_from test first xs ≡ Some n → Passes test xs first n
position_found test [] first n h = absurd cc
position_found test (x ∷ xs) first n h = by_test (test x) refl h (λ e. later test x xs first n (position_found test xs (first + 1) n e))
  where
    by_test : (b : Bool) → test x ≡ b → cond b (Some first) (position_from test (first + 1) xs) ≡ Some n
        → (position_from test (first + 1) xs ≡ Some n → Passes test (x ∷ xs) first n) → Passes test (x ∷ xs) first n
    by_test true is e rest = record { place = zero; item = x; number = let same : first ≡ n = cc in let end : n ≡ first + zero = omega arith in end; at = refl; passed = is }
    by_test false is e rest = rest e

pub record IsShared (n : ℕ) (pool : List Const) (entry : Const) (s : EntryMade) : Type 0 where
  pub more : List Const
  pub grown : s.pool ≡ pool ++ more
  pub good : IsGood (suc n) s.pool
  pub at : slice_get s.pool s.index ≡ Some entry
  pub small : s.index < 2 ^ 16

short-is : (k : ℕ) → k < 65535 → short_of k ≡ k
short-is k h = omega arith

shared-found : (n : ℕ) (pool : List Const) (entry : Const) (place : ℕ) → IsGood n pool → n < 65535 → position_from (is_same entry) 0 pool ≡ Some place
    → IsShared n pool entry (shared_at pool entry (Some place))
shared-found n pool entry place g h e =
    let p = position_found (is_same entry) pool 0 place e in
    let same = same-is entry p.item p.passed in
    let within = slice_get_within pool p.place p.item p.at in
    let count = g.count in
    let number : place ≡ p.place = p.number ∙ omega arith in
    let short : short_of place ≡ p.place = short-is place (omega (arith, number, within, count)) ∙ number in
    record {
      more = [];
      grown = sym (append-nil pool);
      good = good-wider n (suc n) pool (omega arith) g;
      at = ap (slice_get pool) short ∙ p.at ∙ ap (λ (c : Const). Some c) (sym same);
      small = omega (arith, short, within, count);
    }

shared-new : (n : ℕ) (pool : List Const) (entry : Const) → IsGood n pool → n < 65535 → IsNarrow pool entry → IsShared n pool entry (shared_at pool entry None)
shared-new n pool entry g h plain =
    let count = g.count in
    let short : short_of (length pool) ≡ length pool = short-is (length pool) (omega (arith, count)) in
    record {
      more = entry ∷ [];
      grown = refl;
      good = good-push n pool entry g plain;
      at = ap (slice_get (pool ++ entry ∷ [])) short ∙ seam pool entry;
      small = omega (arith, short, count);
    }

pub shared-holds : (n : ℕ) (pool : List Const) (entry : Const) → IsGood n pool → n < 65535 → IsNarrow pool entry → IsShared n pool entry (entry_shared pool entry)
unfolding entry_shared
shared-holds n pool entry g h plain = by (position_from (is_same entry) 0 pool) refl
  where
    by : (o : Option ℕ) → position_from (is_same entry) 0 pool ≡ o → IsShared n pool entry (shared_at pool entry (position_from (is_same entry) 0 pool))
    by (Some place) e = subst (λ (o : Option ℕ). IsShared n pool entry (shared_at pool entry o)) (sym e) (shared-found n pool entry place g h e)
    by None e = subst (λ (o : Option ℕ). IsShared n pool entry (shared_at pool entry o)) (sym e) (shared-new n pool entry g h plain)
