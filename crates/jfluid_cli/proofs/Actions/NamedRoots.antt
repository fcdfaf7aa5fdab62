-- A method has one name: two roots that name the same method of a program are the same.
use Rattle.std.proofs.Common.{◌≡◌, ℕ, zero, suc, ◌+◌, ◌≤◌, Bool, true, false, cond, List, [], ◌∷◌, Option, Some, None, get_or, refl, sym, ap, subst, ◌∙◌, arith}
use Rattle.std.specs.Prelude.{slice_get, position, ◌==◌, ◌&&◌}
use Rattle.std.specs.Option.{option_and_then, option_map_or}
use Rattle.std.proofs.lemmas.Bool.{and_from, and_parts, eqb-true}
use Rattle.std.proofs.lemmas.Option.{same_Some, none-some, slice_get-get_or}
use Rattle.std.proofs.lemmas.List.Quantifiers.{position-Some}
use Rattle.std.proofs.lemmas.Slice.Eq.{bytes_eq-Decides}
use Rattle.jf_bytes.proofs.Options.{and_then_parts}
use Rattle.const_pool.specs.declared.class.ClassFile.{ClassFile}
use Rattle.const_pool.specs.declared.class.Member.{Member}
use Rattle.const_pool.specs.declared.pool.Const.{Const}
use Rattle.const_pool.specs.References.{NameAndType, name_type_of, named_text, same_text_at}
use Rattle.plan_text.specs.declared.plan.RootName.{RootName}
use Rattle.plan_text.specs.Lines.{same_root}
use Rattle.jvm_model.specs.declared.program.MethodPlace.{MethodPlace}
use Rattle.jvm_model.specs.declared.program.Program.{Program}
use Rattle.jvm_model.specs.Basis.Descriptors.{same_text}
use Rattle.jvm_model.specs.Basis.Methods.{is_member, method_from, method_named}
use Rattle.jvm_model.specs.Basis.Programs.{class_at, class_named, declared_method, has_name, name_of, no_class, number_from, number_of_method, same_place}
use Rattle.jvm_model.proofs.Soundness.SoundRules.{number-least}
use Rattle.admit_check.specs.Admission.{root_in}

-- ---- texts

-- a text that is the one of an entry
same-text-is : (o : Option (List ℕ)) (t u : List ℕ) → option_map_or (λ found. same_text found t) o false ≡ true
    → option_map_or (λ found. same_text found u) o false ≡ true → t ≡ u
same-text-is None t u left right = absurd cc
same-text-is (Some found) t u left right = sym ((bytes_eq-Decides found t).0 left) ∙ (bytes_eq-Decides found u).0 right

same-name-is : (o : Option (List ℕ)) (t u : List ℕ) → option_map_or (same_text t) o false ≡ true
    → option_map_or (same_text u) o false ≡ true → t ≡ u
same-name-is None t u left right = absurd cc
same-name-is (Some found) t u left right = (bytes_eq-Decides t found).0 left ∙ sym ((bytes_eq-Decides u found).0 right)

-- ---- methods of a class

-- What is known of a method that was found.
record IsFoundMember (pool : List Const) (wanted : NameAndType) (ms : List Member) (i : ℕ) : Type 0 where
  pub member : Member
  pub there : slice_get ms i ≡ Some member
  pub is : is_member pool wanted member ≡ true

member-least : (pool : List Const) (wanted : NameAndType) (n k : ℕ) (ms : List Member) → method_from pool wanted n ms ≡ Some k → n ≤ k
member-least pool wanted n k [] e = absurd (none-some k e)
member-least pool wanted n k (m ∷ rest) e = of (is_member pool wanted m) e (member-least pool wanted (n + 1) k rest) where
  of : (b : Bool) → cond b (Some n) (method_from pool wanted (n + 1) rest) ≡ Some k
      → (method_from pool wanted (n + 1) rest ≡ Some k → n + 1 ≤ k) → n ≤ k
  of true e later = (let same = same_Some n k e in omega (arith, same))
  of false e later = (let more = later e in omega (arith, more))

member-found : (pool : List Const) (wanted : NameAndType) (n k : ℕ) (ms : List Member) (i : ℕ)
    → method_from pool wanted n ms ≡ Some k → k ≡ n + i → IsFoundMember pool wanted ms i
member-found pool wanted n k [] i e at = absurd (none-some k e)
member-found pool wanted n k (m ∷ rest) i e at =
    by (is_member pool wanted m) refl e i at (λ j e at. member-found pool wanted (n + 1) k rest j e at)
  where
    by : (b : Bool) → is_member pool wanted m ≡ b → cond b (Some n) (method_from pool wanted (n + 1) rest) ≡ Some k
        → (i : ℕ) → k ≡ n + i
        → ((j : ℕ) → method_from pool wanted (n + 1) rest ≡ Some k → k ≡ n + 1 + j → IsFoundMember pool wanted rest j)
        → IsFoundMember pool wanted (m ∷ rest) i
    by true is e zero at later = record { member = m; there = refl; is = is }
    by true is e (suc i) at later = absurd (let same = same_Some n k e in omega (arith, same, at))
    by false is e zero at later = absurd (let more = member-least pool wanted (n + 1) k rest e in omega (arith, more, at))
    by false is e (suc i) at later =
        let found = later i e (omega (arith, at)) in
        record { member = found.member; there = found.there; is = found.is }

member-one : (pool : List Const) (wanted other : NameAndType) (m : Member) → is_member pool wanted m ≡ true
    → is_member pool other m ≡ true → (wanted.name ≡ other.name) × (wanted.descriptor ≡ other.descriptor)
member-one pool wanted other m left right =
    let l = and_parts (same_text_at pool m.name wanted.name) (same_text_at pool m.descriptor wanted.descriptor) left in
    let r = and_parts (same_text_at pool m.name other.name) (same_text_at pool m.descriptor other.descriptor) right in (
      same-text-is (named_text pool m.name) wanted.name other.name l.0 r.0,
      same-text-is (named_text pool m.descriptor) wanted.descriptor other.descriptor l.1 r.1,
    )

-- ---- numbers

record IsFoundPlace (class at : ℕ) (places : List MethodPlace) (i : ℕ) : Type 0 where
  pub place : MethodPlace
  pub there : slice_get places i ≡ Some place
  pub class_is : place.class ≡ class
  pub position_is : place.position ≡ at

number-found : (n k class at : ℕ) (places : List MethodPlace) (i : ℕ) → number_from n class at places ≡ Some k → k ≡ n + i
    → IsFoundPlace class at places i
number-found n k class at [] i e is = absurd (none-some k e)
number-found n k class at (x ∷ rest) i e is =
    by (same_place class at x) refl e i is (λ j e is. number-found (n + 1) k class at rest j e is)
  where
    by : (b : Bool) → same_place class at x ≡ b → cond b (Some n) (number_from (n + 1) class at rest) ≡ Some k
        → (i : ℕ) → k ≡ n + i
        → ((j : ℕ) → number_from (n + 1) class at rest ≡ Some k → k ≡ n + 1 + j → IsFoundPlace class at rest j)
        → IsFoundPlace class at (x ∷ rest) i
    by true same e zero is later =
        let both = and_parts (x.class == class) (x.position == at) same in
        record {
          place = x;
          there = refl;
          class_is = eqb-true x.class class both.0;
          position_is = eqb-true x.position at both.1;
        }
    by true same e (suc i) is later = absurd (let here = same_Some n k e in omega (arith, here, is))
    by false same e zero is later = absurd (let more = number-least (n + 1) k class at rest e in omega (arith, more, is))
    by false same e (suc i) is later =
        let found = later i e (omega (arith, is)) in
        record { place = found.place; there = found.there; class_is = found.class_is; position_is = found.position_is }

-- ---- roots

position-there : (test : ClassFile → Bool) (cs : List ClassFile) (k : ℕ) → position test cs ≡ Some k
    → (c : ClassFile) × (slice_get cs k ≡ Some c) × (test c ≡ true)
position-there test cs k e =
    let found = position-Some test cs k no_class e in
    (get_or cs k no_class, slice_get-get_or cs k no_class found.0, found.1)

-- Where a root's method stands.
record StandsAt (p : Program) (r : RootName) (method : ℕ) : Type 0 where
  pub class : ℕ
  pub position : ℕ
  pub file : ClassFile
  pub there : slice_get p.classes class ≡ Some file
  pub name : has_name r.class file ≡ true
  pub place : IsFoundPlace class position p.methods method
  pub member : IsFoundMember file.pool (name_type_of r.name r.descriptor) file.methods position

stands-at : (p : Program) (r : RootName) (method : ℕ) → root_in p r ≡ Some method → StandsAt p r method
stands-at p r method e =
    let wanted : NameAndType = name_type_of r.name r.descriptor in
    let c = and_then_parts (declared_method p wanted) (class_named p r.class) method e in
    let named = position-there (has_name r.class) p.classes c.0 c.1 in
    let f = and_then_parts (λ (k : ClassFile). option_and_then (number_of_method p c.0) (method_named k wanted)) (class_at p c.0) method c.2 in
    let at = and_then_parts (number_of_method p c.0) (method_named f.0 wanted) method f.2 in
    let one : named.0 ≡ f.0 = same_Some named.0 f.0 (sym named.1 ∙ f.1) in
    record {
      class = c.0;
      position = at.0;
      file = f.0;
      there = f.1;
      name = subst (λ (k : ClassFile). has_name r.class k ≡ true) one named.2;
      place = number-found 0 method c.0 at.0 p.methods method at.2 (omega arith);
      member = member-found f.0.pool wanted 0 at.0 f.0.methods at.0 at.1 (omega arith);
    }

same-fields : (r q : RootName) → r.class ≡ q.class → r.name ≡ q.name → r.descriptor ≡ q.descriptor → same_root r q ≡ true
same-fields r q class name descriptor =
    and_from (same_text r.class q.class && same_text r.name q.name) (same_text r.descriptor q.descriptor)
    (and_from (same_text r.class q.class) (same_text r.name q.name) ((bytes_eq-Decides r.class q.class).1 class)
    ((bytes_eq-Decides r.name q.name).1 name))
    ((bytes_eq-Decides r.descriptor q.descriptor).1 descriptor)

one-name : (p : Program) (r q : RootName) (method : ℕ) → (a : StandsAt p r method) → (b : StandsAt p q method) → same_root r q ≡ true
one-name p r q method a b =
    let place : a.place.place ≡ b.place.place = same_Some a.place.place b.place.place (sym a.place.there ∙ b.place.there) in
    let class : a.class ≡ b.class =
    sym a.place.class_is ∙ (ap (λ (x : MethodPlace). x.class) place ∙ b.place.class_is) in
    let at : a.position ≡ b.position =
    sym a.place.position_is ∙ (ap (λ (x : MethodPlace). x.position) place ∙ b.place.position_is) in
    let file : a.file ≡ b.file = same_Some a.file b.file (sym a.there ∙ (ap (slice_get p.classes) class ∙ b.there)) in
    let member : a.member.member ≡ b.member.member =
    same_Some a.member.member b.member.member
    (sym a.member.there
    ∙ (ap (λ (k : ClassFile). slice_get k.methods a.position) file
    ∙ (ap (slice_get b.file.methods) at ∙ b.member.there))) in
    let wanted : NameAndType = name_type_of r.name r.descriptor in
    let here : is_member b.file.pool wanted b.member.member ≡ true =
    subst (λ (m : Member). is_member b.file.pool wanted m ≡ true) member
    (subst (λ (k : ClassFile). is_member k.pool wanted a.member.member ≡ true) file a.member.is) in
    let names = member-one b.file.pool wanted (name_type_of q.name q.descriptor) b.member.member here b.member.is in
    let classes : r.class ≡ q.class =
    same-name-is (name_of b.file) r.class q.class (subst (λ (k : ClassFile). has_name r.class k ≡ true) file a.name) b.name in
    same-fields r q classes names.0 names.1

-- two roots that name the same method are the same
pub named-alike : (p : Program) (r q : RootName) (method : ℕ) → root_in p r ≡ Some method → root_in p q ≡ Some method
    → same_root r q ≡ true
named-alike p r q method left right = one-name p r q method (stands-at p r method left) (stands-at p q method right)

-- and two that are the same name the same method
pub same-method : (p : Program) (r q : RootName) → same_root r q ≡ true → root_in p r ≡ root_in p q
same-method p r q same =
    let front = and_parts (same_text r.class q.class && same_text r.name q.name) (same_text r.descriptor q.descriptor) same in
    let both = and_parts (same_text r.class q.class) (same_text r.name q.name) front.0 in
    let class : r.class ≡ q.class = (bytes_eq-Decides r.class q.class).0 both.0 in
    let name : r.name ≡ q.name = (bytes_eq-Decides r.name q.name).0 both.1 in
    let descriptor : r.descriptor ≡ q.descriptor = (bytes_eq-Decides r.descriptor q.descriptor).0 front.1 in
    ap (λ (c : List ℕ). option_and_then (declared_method p (name_type_of r.name r.descriptor)) (class_named p c)) class
    ∙ (ap (λ (n : List ℕ). option_and_then (declared_method p (name_type_of n r.descriptor)) (class_named p q.class)) name
    ∙ ap (λ (d : List ℕ). option_and_then (declared_method p (name_type_of q.name d)) (class_named p q.class)) descriptor)
