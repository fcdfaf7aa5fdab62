-- The marks that are seen where the versions of a class for its image were added: those of the image for the class's
-- methods, the others as before.
use Rattle.std.proofs.Common.{◌≡◌, ◌<◌, ◌≤◌, ◌+◌, ◌-◌, ℕ, zero, suc, Bool, true, false, cond, List, [], ◌∷◌, ◌++◌, length, map, Option, Some, None, refl, sym, ap, ap₂, ◌∙◌, eqb-true, arith}
use Rattle.std.specs.Prelude.{nat_le, slice_get, slice_set, unwrap_or, ◌==◌, ◌&&◌, if◌then◌else◌}
use Rattle.std.specs.List.{AllByRecursion}
use Rattle.std.specs.Option.{option_and_then, option_map, option_map_or}
use Rattle.std.proofs.lemmas.Bool.{eq-eqb, le-leb, leb-true, ne_eqb}
use Rattle.std.proofs.lemmas.List.{length-set}
use Rattle.std.proofs.lemmas.Option.{none-some, same_Some}
use Rattle.jf_bytes.proofs.Lists.{slice_get-set_same}
use Rattle.const_pool.specs.declared.class.ClassFile.{ClassFile}
use Rattle.const_pool.specs.declared.class.CodeAttribute.{CodeAttribute}
use Rattle.const_pool.specs.declared.class.Member.{Member}
use Rattle.code_model.specs.declared.laying.Homes.{Homes}
use Rattle.frame_stack.specs.FrameLists.{PlacedFrame, pins_of}
use Rattle.method_versions.specs.Tables.{held_besides, is_number}
use Rattle.jvm_model.specs.declared.event.Mark.{Mark}
use Rattle.jvm_model.specs.declared.event.Mark.TheVariants.{Off}
use Rattle.jvm_model.specs.declared.program.MethodPlace.{MethodPlace}
use Rattle.jvm_model.specs.declared.program.Program.{Program}
use Rattle.jvm_model.specs.Basis.Methods.{code_of, method_code}
use Rattle.jvm_model.specs.Basis.Programs.{class_at, number_of_method, methods_numbered, place_of_method}
use Rattle.jvm_model.specs.Rewriting.StandsFor.{mark_at}
use Rattle.prepared_code.specs.ClassVersions.{alone, class_version, class_versions, homes_at, member_version, version_by, versions_from}
use Rattle.prepared_code.specs.Entries.{no_version, original_version, version_entry, version_in, version_of}
use Rattle.prepared_code.specs.Standing.{HasVersions, IsOfProgram}
use Rattle.prepared_code.specs.Tables.{Adds, IsAdded, Version, Versions, version_at}
use Rattle.prepared_code.specs.Versions.{Setup, current_of, mark_of}
use Rattle.prepared_code.specs.VersionListings.{HasCurrent}
use Rattle.prepared_code.proofs.Images.ClassVersionLaws.{place-of}
use Rattle.prepared_code.proofs.Tables.StandingSteps.{has-one}
use Rattle.jvm_machine.specs.Installs.{mark_over, marks_over}
use Rattle.jvm_machine.specs.Machine.{marks_of}
use Rattle.jvm_machine.proofs.Versions.Numbered.{method-there, number-of}
use Rattle.jvm_machine.proofs.Versions.Released.{in-list, map-same}

-- ---- lists

set-apart : {A : Type 0} (xs : List A) (i k : ℕ) (a : A) → (k ≡ i → ⊥) → slice_get (slice_set xs i a) k ≡ slice_get xs k
set-apart [] i k a other = refl
set-apart (x ∷ xs) zero zero a other = absurd (other refl)
set-apart (x ∷ xs) zero (suc k) a other = refl
set-apart (x ∷ xs) (suc i) zero a other = refl
set-apart (x ∷ xs) (suc i) (suc k) a other = set-apart xs i k a (λ same. other (ap suc same))

set-map : {B : Type 0} (f : ℕ → B) (xs : List ℕ) (i a : ℕ) → map f (slice_set xs i a) ≡ slice_set (map f xs) i (f a)
set-map f [] i a = refl
set-map f (b ∷ xs) zero a = refl
set-map f (b ∷ xs) (suc i) a = ap (λ l. f b ∷ l) (set-map f xs i a)

-- two functions that agree on each number of a list but the one that is set
set-same : {B : Type 0} (f g : ℕ → B) (xs : List ℕ) (m : ℕ) (a : B) → ((i n : ℕ) → slice_get xs i ≡ Some n → (i ≡ m → ⊥) → f n ≡ g n) → slice_set (map f xs) m a ≡ slice_set (map g xs) m a
set-same f g [] m a each = refl
set-same f g (x ∷ xs) zero a each = ap (λ l. a ∷ l) (map-same f g xs (λ i n e. each (suc i) n e (λ same. (let h : suc i ≡ 0 = same in absurd (omega (arith, h))))))
set-same f g (x ∷ xs) (suc m) a each =
    ap₂ ◌∷◌ (each 0 x refl (λ same. (let h : 0 ≡ suc m = same in absurd (omega (arith, h)))))
    (set-same f g xs m a (λ i n e other. each (suc i) n e (λ same. other (let h : suc i ≡ suc m = same in omega (arith, h)))))

same-list : {A : Type 0} (xs ys : List A) → length xs ≡ length ys → ((k : ℕ) → k < length xs → slice_get xs k ≡ slice_get ys k) → xs ≡ ys
same-list [] [] e each = refl
same-list [] (y ∷ ys) e each = absurd (let h : 0 ≡ suc (length ys) = e in omega (arith, h))
same-list (x ∷ xs) [] e each = absurd (let h : suc (length xs) ≡ 0 = e in omega (arith, h))
same-list (x ∷ xs) (y ∷ ys) e each =
    ap₂ ◌∷◌ (same_Some x y (each 0 (omega arith)))
    (same-list xs ys (let h : suc (length xs) ≡ suc (length ys) = e in omega (arith, h)) (λ k lt. each (suc k) (omega (arith, lt))))

-- ---- versions more

abbrev pub added_marks : List Version → List Mark → List Mark
added_marks [] old = old
added_marks (x ∷ xs) old = added_marks xs (slice_set old x.method x.prepared.mark)

module _ (w : Setup) (homes : ℕ → ℕ → ℕ) (has : HasVersions w homes) (fs : List PlacedFrame) (number : ℕ) (x : Version) (of : IsOfProgram w.world.program x) (after : Versions)
    (added : IsAdded fs number x w.versions after) where
  abbrev v : Versions
  v = w.versions

  abbrev former : Option ℕ
  former = slice_get v.current x.method

  marked-here : mark_of after number ≡ x.prepared.mark
  marked-here =
      ap (λ (o : Option Version). option_map_or (λ y. y.prepared.mark) o Off)
      (added.held number ∙ ap (λ b. if b then Some x else held_besides fs former number (version_at v number)) (eq-eqb number number refl))

  -- the version that another method begins in stays
  marked-there : (i n : ℕ) → slice_get v.current i ≡ Some n → (i ≡ x.method → ⊥) → mark_of after n ≡ mark_of v n
  marked-there i n e other =
      ap (λ (o : Option Version). option_map_or (λ y. y.prepared.mark) o Off) (stays (held_besides fs former n (version_at v n)) refl)
    where
      few : i < length w.world.program.methods
      few = let lt = in-list v.current i n e in let c = has.are.count in omega (arith, lt, c)

      was : HasCurrent v i
      was = has.are.current i few

      now : HasCurrent after i
      now = (has-one w fs after number x of added homes has).are.current i few

      here : current_of v i ≡ n
      here = ap (λ o. unwrap_or o (4294967296 + i)) e

      there : current_of after i ≡ n
      there = ap (λ o. unwrap_or o (4294967296 + i)) (ap (λ ks. slice_get ks i) added.current ∙ (set-apart v.current x.method i number other ∙ e))

      apart : n ≡ number → ⊥
      apart same = none-some was.version (sym added.vacant ∙ (ap (version_at v) (sym same ∙ sym here) ∙ was.held))

      held : version_at after n ≡ held_besides fs former n (version_at v n)
      held = added.held n ∙ ap (λ b. if b then Some x else held_besides fs former n (version_at v n)) (ne_eqb n number apart)

      by : (b : Bool) → cond b None (version_at v n) ≡ held_besides fs former n (version_at v n) → version_at after n ≡ version_at v n
      by true is = absurd (none-some now.version (is ∙ (sym held ∙ (ap (version_at after) (sym there) ∙ now.held))))
      by false is = held ∙ sym is

      stays : (o : Option Version) → held_besides fs former n (version_at v n) ≡ o → version_at after n ≡ version_at v n
      stays o is = by (is_number n former && (pins_of n fs == 0)) refl

  pub marks-one : marks_of after ≡ slice_set (marks_of v) x.method x.prepared.mark
  marks-one =
      ap (map (mark_of after)) added.current
      ∙ (set-map (mark_of after) v.current x.method number
      ∙ (ap (slice_set (map (mark_of after) v.current) x.method) marked-here ∙ set-same (mark_of after) (mark_of v) v.current x.method x.prepared.mark marked-there))

pub marks-all : (fs : List PlacedFrame) (xs : List Version) (w : Setup) (homes : ℕ → ℕ → ℕ) (after : Versions) → HasVersions w homes → AllByRecursion (IsOfProgram w.world.program) xs
    → Adds fs xs w.versions after → marks_of after ≡ added_marks xs (marks_of w.versions)
marks-all fs [] w homes after has of adds = ap marks_of adds
marks-all fs (x ∷ xs) w homes after has of adds =
    marks-all fs xs (record w { versions = adds.1 }) _ after (has-one w fs adds.1 adds.0 x of.0 adds.2 homes has) of.1 adds.3
    ∙ ap (added_marks xs) (marks-one w homes has fs adds.0 x of.0 adds.1 adds.2)

added-length : (xs : List Version) (old : List Mark) → length (added_marks xs old) ≡ length old
added-length [] old = refl
added-length (x ∷ xs) old = added-length xs (slice_set old x.method x.prepared.mark) ∙ length-set old x.method x.prepared.mark

-- ---- those of a class

original-own : (p : Program) (k : ℕ) → (original_version p k).method ≡ k
original-own p k = at (slice_get p.methods k) where
  entry : (c : ClassFile) (m : Option Member) → (option_map_or (version_entry k c) m (no_version k)).method ≡ k
  entry c None = refl
  entry c (Some m) = refl

  within : (place : MethodPlace) (c : Option ClassFile) → (option_map_or (version_in k place) c (no_version k)).method ≡ k
  within place None = refl
  within place (Some c) = entry c (slice_get c.methods place.position)

  at : (place : Option MethodPlace) → (option_map_or (version_of p k) place (no_version k)).method ≡ k
  at None = refl
  at (Some place) = within place (class_at p place.class)

method-by : (p : Program) (k : ℕ) (image : ClassFile) (old : CodeAttribute) (h : Option Homes) (new : Option CodeAttribute) → (version_by p k image old h new).method ≡ k
method-by p k image old (Some h) (Some new) = refl
method-by p k image old (Some h) None = original-own p k
method-by p k image old None new = original-own p k

-- it is set, if there is one
abbrev set_by : Option Version → List Mark → List Mark
set_by o old = option_map_or (λ (x : Version). slice_set old x.method x.prepared.mark) o old

added-alone : (o : Option Version) (xs : List Version) (old : List Mark) → added_marks (alone o ++ xs) old ≡ added_marks xs (set_by o old)
added-alone None xs old = refl
added-alone (Some x) xs old = refl

set-length : (o : Option Version) (old : List Mark) → length (set_by o old) ≡ length old
set-length None old = refl
set-length (Some x) old = length-set old x.method x.prepared.mark

module _ (p : Program) (methods : p.methods ≡ methods_numbered p.classes) (class : ℕ) (c : ClassFile) (there : class_at p class ≡ Some c) (image : ClassFile) (marks : List Mark) (homes : List (Option Homes))
    (marked : (at k : ℕ) (code : CodeAttribute) → method_code c at ≡ Some code → (class_version p image homes at code k).prepared.mark ≡ mark_at marks at) where
  abbrev place_at : ℕ → MethodPlace
  place_at at = record { class = class; position = at }

  -- it is that of the method there
  set-at-place : (at k : ℕ) (m : Member) (old : List Mark) → slice_get c.methods at ≡ Some m → place_of_method p k ≡ Some (place_at at) → k < length old
      → slice_get (set_by (member_version p class image homes at m) old) k ≡ Some (mark_at marks at)
  set-at-place at k m old member found lt =
      let code = method-there p methods k (place_at at) c found there in
      let coded : code_of m ≡ Some code.0 = sym (ap (option_and_then code_of) member) ∙ code.1 in
      let number : number_of_method p class at ≡ Some k = number-of p methods k class at found in
      let x : Version = class_version p image homes at code.0 k in
      let one : member_version p class image homes at m ≡ Some x =
      ap (option_and_then (λ old. option_map (class_version p image homes at old) (number_of_method p class at))) coded
      ∙ ap (option_map (class_version p image homes at code.0)) number in
      ap (λ o. slice_get (set_by o old) k) one
      ∙ (ap (λ i. slice_get (slice_set old i x.prepared.mark) k) (method-by p k image code.0 (homes_at homes at) (method_code image at))
      ∙ (slice_get-set_same old k x.prepared.mark lt ∙ ap (λ a. let o : Option Mark = Some a in o) (marked at k code.0 code.1)))

  -- and no other method's
  set-elsewhere : (at k : ℕ) (m : Member) (old : List Mark) → (place_of_method p k ≡ Some (place_at at) → ⊥)
      → slice_get (set_by (member_version p class image homes at m) old) k ≡ slice_get old k
  set-elsewhere at k m old other = by (code_of m) where
    of : (code : CodeAttribute) (o : Option ℕ) → number_of_method p class at ≡ o → slice_get (set_by (option_map (class_version p image homes at code) o) old) k ≡ slice_get old k
    of code None is = refl
    of code (Some n) is =
        set-apart old (class_version p image homes at code n).method k (class_version p image homes at code n).prepared.mark
        (λ same. other (ap (place_of_method p) (same ∙ method-by p n image code (homes_at homes at) (method_code image at)) ∙ place-of p class at n is))

    by : (o : Option CodeAttribute) → slice_get (set_by (option_and_then (λ old. option_map (class_version p image homes at old) (number_of_method p class at)) o) old) k ≡ slice_get old k
    by None = refl
    by (Some code) = of code (number_of_method p class at) refl

  abbrev then_mark : ℕ → MethodPlace → Option Mark → Option Mark
  then_mark at place was = cond (place.class == class && nat_le at place.position) (Some (mark_at marks place.position)) was

  same-place : (place : MethodPlace) (at : ℕ) → place.class ≡ class → place.position ≡ at → place ≡ place_at at
  same-place place at e f = ap₂ (λ a b. let q : MethodPlace = record { class = a; position = b } in q) e f

  from : (at : ℕ) (ms : List Member) → ((k : ℕ) → slice_get ms k ≡ slice_get c.methods (at + k)) → (old : List Mark) (k : ℕ) (place : MethodPlace) → place_of_method p k ≡ Some place → k < length old
      → slice_get (added_marks (versions_from p class image homes at ms) old) k ≡ then_mark at place (slice_get old k)
  from at [] stand old k place found lt = by (place.class == class) refl (nat_le at place.position) refl where
    by : (b : Bool) → (place.class == class) ≡ b → (d : Bool) → nat_le at place.position ≡ d → slice_get old k ≡ cond (b && d) (Some (mark_at marks place.position)) (slice_get old k)
    by false e d f = refl
    by true e false f = refl
    by true e true f =
        let same : place.class ≡ class = eqb-true place.class class e in
        let le : at ≤ place.position = leb-true at place.position f in
        let code = method-there p methods k place c found (ap (class_at p) same ∙ there) in
        let sum : at + (place.position - at) ≡ place.position = omega (arith, le) in
        let none : slice_get c.methods place.position ≡ None = ap (slice_get c.methods) (sym sum) ∙ sym (stand (place.position - at)) in
        absurd (none-some code.0 (sym (ap (option_and_then code_of) none) ∙ code.1))
  from at (m ∷ rest) stand old k place found lt =
      ap (λ l. slice_get l k) (added-alone (member_version p class image homes at m) (versions_from p class image homes (at + 1) rest) old)
      ∙ (from (at + 1) rest (λ i. let next : at + suc i ≡ at + 1 + i = omega arith in stand (suc i) ∙ ap (slice_get c.methods) next)
      (set_by (member_version p class image homes at m) old) k place found
      (let many : length (set_by (member_version p class image homes at m) old) ≡ length old = set-length (member_version p class image homes at m) old in omega (arith, many, lt))
      ∙ by (place.class == class) refl (nat_le at place.position) refl (nat_le (at + 1) place.position) refl)
    where
      after : List Mark
      after = set_by (member_version p class image homes at m) old

      first : slice_get c.methods at ≡ Some m
      first = let here : at ≡ at + 0 = omega arith in ap (slice_get c.methods) here ∙ sym (stand 0)

      elsewhere : (place ≡ place_at at → ⊥) → slice_get after k ≡ slice_get old k
      elsewhere other = set-elsewhere at k m old (λ is. other (same_Some place (place_at at) (sym found ∙ is)))

      by : (b : Bool) → (place.class == class) ≡ b → (d : Bool) → nat_le at place.position ≡ d → (e : Bool) → nat_le (at + 1) place.position ≡ e
          → cond (b && e) (Some (mark_at marks place.position)) (slice_get after k) ≡ cond (b && d) (Some (mark_at marks place.position)) (slice_get old k)
      by false x d y e z = elsewhere (λ same. (let h : false ≡ true = sym x ∙ (ap (λ (q : MethodPlace). q.class == class) same ∙ eq-eqb class class refl) in cc))
      by true x true y true z = refl
      by true x false y true z = absurd (let h : false ≡ true = sym y ∙ le-leb at place.position (let le = leb-true (at + 1) place.position z in omega (arith, le)) in cc)
      by true x false y false z =
          elsewhere (λ same. (let h : false ≡ true = sym y ∙ le-leb at place.position (let pos : place.position ≡ at = ap (λ (q : MethodPlace). q.position) same in omega (arith, pos)) in cc))
      by true x true y false z =
          let le : at ≤ place.position = leb-true at place.position y in
          let pos : place.position ≡ at = only le z in
          let here : place ≡ place_at at = same-place place at (eqb-true place.class class x) pos in
          set-at-place at k m old first (found ∙ ap (λ (q : MethodPlace). let o : Option MethodPlace = Some q in o) here) lt
          ∙ ap (λ i. let o : Option Mark = Some (mark_at marks i) in o) (sym pos)
        where
          only : at ≤ place.position → nat_le (at + 1) place.position ≡ false → place.position ≡ at
          only le z = grind (arith)

  over-length : (places : List MethodPlace) (old : List Mark) → length old ≡ length places → length (marks_over class marks places old) ≡ length old
  over-length [] [] e = refl
  over-length [] (a ∷ old) e = absurd (let h : suc (length old) ≡ 0 = e in omega (arith, h))
  over-length (place ∷ places) [] e = refl
  over-length (place ∷ places) (a ∷ old) e = ap suc (over-length places old (let h : suc (length old) ≡ suc (length places) = e in omega (arith, h)))

  over-at : (places : List MethodPlace) (old : List Mark) (k : ℕ) (place : MethodPlace) (was : Mark) → slice_get places k ≡ Some place → slice_get old k ≡ Some was
      → slice_get (marks_over class marks places old) k ≡ Some (mark_over class marks place was)
  over-at [] old k place was e f = absurd (none-some place e)
  over-at (q ∷ places) [] k place was e f = absurd (none-some was f)
  over-at (q ∷ places) (a ∷ old) zero place was e f =
      ap₂ (λ x y. let o : Option Mark = Some (mark_over class marks x y) in o) (same_Some q place e) (same_Some a was f)
  over-at (q ∷ places) (a ∷ old) (suc k) place was e f = over-at places old k place was e f

  there-is : {A : Type 0} (xs : List A) (k : ℕ) → k < length xs → (x : A) × (slice_get xs k ≡ Some x)
  there-is [] k lt = absurd (omega arith)
  there-is (x ∷ xs) zero lt = (x, refl)
  there-is (x ∷ xs) (suc k) lt = there-is xs k (omega arith)

  pub class-marks : (old : List Mark) → length old ≡ length p.methods → added_marks (class_versions p class image homes) old ≡ marks_over class marks p.methods old
  class-marks old many =
      ap (λ (o : Option ClassFile). added_marks (option_map_or (λ (c : ClassFile). versions_from p class image homes 0 c.methods) o []) old) there
      ∙ same-list (added_marks (versions_from p class image homes 0 c.methods) old) (marks_over class marks p.methods old)
      (added-length (versions_from p class image homes 0 c.methods) old ∙ sym (over-length p.methods old many)) each
    where
      each : (k : ℕ) → k < length (added_marks (versions_from p class image homes 0 c.methods) old)
          → slice_get (added_marks (versions_from p class image homes 0 c.methods) old) k ≡ slice_get (marks_over class marks p.methods old) k
      each k lt =
          let len = added-length (versions_from p class image homes 0 c.methods) old in
          let within : k < length old = omega (arith, lt, len) in
          let place = there-is p.methods k (omega (arith, within, many)) in
          let was = there-is old k within in
          from 0 c.methods (λ i. let same : i ≡ 0 + i = omega arith in ap (slice_get c.methods) same) old k place.0 place.1 within
          ∙ (ap (then_mark 0 place.0) was.1 ∙ (by (place.0.class == class) place.0 was.0 refl ∙ sym (over-at p.methods old k place.0 was.0 place.1 was.1)))
        where
          by : (b : Bool) (place : MethodPlace) (was : Mark) → (place.class == class) ≡ b → then_mark 0 place (Some was) ≡ Some (mark_over class marks place was)
          by true place was e =
              ap (λ b. cond (b && nat_le 0 place.position) (Some (mark_at marks place.position)) (Some was)) e
              ∙ (ap (λ d. cond d (Some (mark_at marks place.position)) (Some was)) (le-leb 0 place.position (omega arith))
              ∙ ap (λ b. let o : Option Mark = Some (if b then mark_at marks place.position else was) in o) (sym e))
          by false place was e =
              ap (λ b. cond (b && nat_le 0 place.position) (Some (mark_at marks place.position)) (Some was)) e
              ∙ ap (λ b. let o : Option Mark = Some (if b then mark_at marks place.position else was) in o) (sym e)
