-- The test of overriding is the relation, among loaded classes.
use Rattle.std.proofs.Common.{◌≡◌, ℕ, suc, ◌+◌, Bool, true, false, List, [], ◌∷◌, ap, ap₂, sym, refl, ◌∙◌, arith}
use Rattle.std.specs.Prelude.{Option, Some, None, not, slice_get, ◌==◌, ◌&&◌, if◌then◌else◌}
use Rattle.std.specs.Option.{option_and_then, option_map, option_map_or}
use Rattle.std.proofs.lemmas.Bool.{and_parts, false≢true, eqb-true}
use Rattle.std.proofs.lemmas.Option.{none-some, same_Some}
use Rattle.const_pool.specs.declared.class.ClassFile.{ClassFile}
use Rattle.const_pool.specs.declared.class.Member.{Member}
use Rattle.const_pool.specs.declared.pool.Const.{Const}
use Rattle.const_pool.specs.References.{NameAndType, same_text_at}
use Rattle.jvm_model.specs.declared.program.Program.{Program}
use Rattle.jvm_model.specs.Classes.Lookup.{MemberPlace, is_subtype, method_at, place_in}
use Rattle.jvm_model.specs.Basis.Methods.{is_member, method_from}
use Rattle.jvm_model.specs.Basis.Programs.{class_at}
use Rattle.jvm_model.specs.Classes.Selection.{signature_of, stands_below, texts_of}
use Rattle.class_index.specs.Members.{is_declared_as}
use Rattle.class_index.proofs.MemberTexts.{text_is}

-- ---- the name and descriptor of a method that was found by them

texts_are : (c : ClassFile) (w : NameAndType) (m : Member) → is_member c.pool w m ≡ true → texts_of c m ≡ Some w
texts_are c w m h =
    let parts = and_parts (same_text_at c.pool m.name w.name) (same_text_at c.pool m.descriptor w.descriptor) h in
    ap₂ (λ n d. option_and_then (λ name. option_map (λ descriptor. record { name = name; descriptor = descriptor }) d) n)
    (text_is c.pool m.name w.name parts.0) (text_is c.pool m.descriptor w.descriptor parts.1)

-- a method at a place counted from a number
pub record IsFound (pool : List Const) (w : NameAndType) (n k : ℕ) (ms : List Member) : Type 0 where
  pub behind : ℕ
  pub counted : k ≡ n + behind
  pub method : Member
  pub there : slice_get ms behind ≡ Some method
  pub named : is_member pool w method ≡ true

one_behind : (pool : List Const) (w : NameAndType) (n k : ℕ) (m : Member) (ms : List Member) → IsFound pool w (n + 1) k ms → IsFound pool w n k (m ∷ ms)
one_behind pool w n k m ms f = record {
  behind = suc f.behind;
  counted = counted;
  method = f.method;
  there = f.there;
  named = f.named;
}
  where
    counted : k ≡ n + suc f.behind
    counted = omega (arith, f.counted)

at_once : (pool : List Const) (w : NameAndType) (n k : ℕ) (m : Member) (ms : List Member) → is_member pool w m ≡ true → n ≡ k → IsFound pool w n k (m ∷ ms)
at_once pool w n k m ms named same = record { behind = 0; counted = counted; method = m; there = refl; named = named }
  where
    counted : k ≡ n + 0
    counted = omega (arith, same)

found_from : (pool : List Const) (w : NameAndType) (n k : ℕ) (ms : List Member) → method_from pool w n ms ≡ Some k → IsFound pool w n k ms
found_from pool w n k [] h = absurd (none-some k h)
found_from pool w n k (m ∷ ms) h = by (is_member pool w m) refl h (found_from pool w (n + 1) k ms)
  where
    by : (b : Bool) → is_member pool w m ≡ b → (if b then Some n else method_from pool w (n + 1) ms) ≡ Some k
        → (method_from pool w (n + 1) ms ≡ Some k → IsFound pool w (n + 1) k ms) → IsFound pool w n k (m ∷ ms)
    by true named e rest = at_once pool w n k m ms named (same_Some n k e)
    by false other e rest = one_behind pool w n k m ms (rest e)

signature_found : (p : Program) (w : NameAndType) (class k : ℕ) → method_at p w class ≡ Some k → signature_of p (place_in class k) ≡ Some w
signature_found p w class k h = by (class_at p class) refl h
  where
    at_found : (c : ClassFile) → IsFound c.pool w 0 k c.methods → option_and_then (texts_of c) (slice_get c.methods k) ≡ Some w
    at_found c f =
        let e : k ≡ f.behind = omega (arith, f.counted) in
        ap (λ i. option_and_then (texts_of c) (slice_get c.methods i)) e
        ∙ (ap (option_and_then (texts_of c)) f.there ∙ texts_are c w f.method f.named)

    by : (o : Option ClassFile) → class_at p class ≡ o → option_and_then (λ (c : ClassFile). method_from c.pool w 0 c.methods) o ≡ Some k
        → signature_of p (place_in class k) ≡ Some w
    by None is e = absurd (none-some k e)
    by (Some c) is e =
        ap (λ (o : Option ClassFile). option_and_then (λ (d : ClassFile). option_and_then (texts_of d) (slice_get d.methods k)) o) is
        ∙ at_found c (found_from c.pool w 0 k c.methods e)

-- what the second's name and descriptor give in the first's class
pub record IsDeclared (p : Program) (m1 m2 : MemberPlace) : Type 0 where
  pub wanted : NameAndType
  pub asked : signature_of p m2 ≡ Some wanted
  pub found : method_at p wanted m1.class ≡ Some m1.position

pub declared : (p : Program) (m1 m2 : MemberPlace) → is_declared_as p m1 m2 ≡ true → IsDeclared p m1 m2
declared p m1 m2 h = by (signature_of p m2) refl h
  where
    at : (w : NameAndType) (o : Option ℕ) → method_at p w m1.class ≡ o → option_map_or (λ at. at == m1.position) o false ≡ true
        → method_at p w m1.class ≡ Some m1.position
    at w None is k = absurd (false≢true k)
    at w (Some n) is k = is ∙ ap Some (eqb-true n m1.position k)

    by : (o : Option NameAndType) → signature_of p m2 ≡ o
        → option_map_or (λ w. option_map_or (λ at. at == m1.position) (method_at p w m1.class) false) o false ≡ true → IsDeclared p m1 m2
    by None is k = absurd (false≢true k)
    by (Some w) is k = record { wanted = w; asked = is; found = at w (method_at p w m1.class) refl k }

pub same_signature : (p : Program) (m1 m2 : MemberPlace) → is_declared_as p m1 m2 ≡ true → signature_of p m1 ≡ signature_of p m2
same_signature p m1 m2 h =
    let d = declared p m1 m2 h in
    signature_found p d.wanted m1.class m1.position d.found ∙ sym d.asked

-- ---- standing below

pub record IsBelow (p : Program) (m1 m2 : MemberPlace) : Type 0 where
  pub other : (m1.class == m2.class) ≡ false
  pub sub : is_subtype p m1.class m2.class ≡ true
  pub declared : is_declared_as p m1 m2 ≡ true

split : (a b c : Bool) → (not a && b && c) ≡ true → (a ≡ false) × (b ≡ true) × (c ≡ true)
split false true true h = (refl, refl, refl)
split false true false h = absurd (false≢true h)
split false false c h = absurd (false≢true h)
split true b c h = absurd (false≢true h)

pub joined : (a b c : Bool) → a ≡ false → b ≡ true → c ≡ true → (not a && b && c) ≡ true
joined a b c x y z = cc

pub below : (p : Program) (m1 m2 : MemberPlace) → stands_below p m1 m2 ≡ true → IsBelow p m1 m2
below p m1 m2 h =
    let parts = split (m1.class == m2.class) (is_subtype p m1.class m2.class) (is_declared_as p m1 m2) h in
    record { other = parts.0; sub = parts.1; declared = parts.2 }
