-- Where each class whose marks have changed is swapped, all methods have the marks of now.
use Rattle.std.proofs.Common.{◌≡◌, ℕ, zero, suc, ◌+◌, Bool, true, false, not, ◌&&◌, ◌||◌, ◌==◌, List, [], ◌∷◌, ◌++◌, map, Some, None, slice_get, if◌then◌else◌, refl, sym, ap, ap₂, subst, ◌∙◌, ◌<◌, ◌≤◌, length, drop, get_or, append_assoc, arith, add-one, zero-add}
use Rattle.std.specs.Prelude.{filter}
use Rattle.std.specs.List.{list_any, enumerate_from}
use Rattle.std.specs.Option.{option_map_or}
use Rattle.std.specs.List.{AllByRecursion}
use Rattle.std.proofs.lemmas.Bool.{and_parts, eqb-true, eq-eqb}
use Rattle.std.proofs.lemmas.Option.{slice_get_within}
use Rattle.std.proofs.lemmas.List.{append-nil}
use Rattle.std.proofs.Math.Bool.{or-true}
use Rattle.const_pool.specs.declared.class.Member.{Member}
use Rattle.jvm_model.specs.declared.event.Mark.{Mark}
use Rattle.jvm_model.specs.declared.event.Mark.TheVariants.{Off, Plain, Root}
use Rattle.jvm_model.specs.declared.program.MethodPlace.{MethodPlace}
use Rattle.jvm_model.specs.declared.program.Program.{Program}
use Rattle.jvm_model.specs.Classes.Load.{is_among}
use Rattle.jvm_model.specs.Profiling.Points.{is_target}
use Rattle.jvm_model.specs.Basis.Programs.{number_of_method, methods_numbered}
use Rattle.jvm_model.specs.Profiling.Revealed.{Revealed, changed_of, mark_of, marks_of, stand_of}
use Rattle.jvm_model.specs.Rewriting.StandsFor.{mark_at}
use Rattle.jvm_model.specs.Profiling.Swaps.{differs, same_mark}
use Rattle.jvm_model.specs.Profiling.Targets.{operations_of}
use Rattle.jvm_machine.specs.Installs.{marks_over, with_class}
use Rattle.jvm_machine.specs.View.{View, world}
use Rattle.profile_session.specs.declared.swap.Swap.{Swap}
use Rattle.profile_session.specs.Images.{class_in, marks_for}
use Rattle.profile_session.specs.Keeping.{swap_now, swapped_now}
use Rattle.profile_session.specs.Parts.{changed_from, differs_from}
use Rattle.profile_session.specs.Swapping.{AreKnown, HasSwapped, with_classes}
use Rattle.profile_session.proofs.Swaps.MethodPlaces.{class-of, number-back, within-class}

-- ---- lists over numbered places

abbrev NumberedMethod : Type 0
NumberedMethod = ℕ × MethodPlace

same-map : (F G : NumberedMethod → Mark) (n : ℕ) (l : List MethodPlace) → ((i : ℕ) (x : MethodPlace) → slice_get l i ≡ Some x → F (n + i, x) ≡ G (n + i, x))
    → map F (enumerate_from n l) ≡ map G (enumerate_from n l)
same-map F G n [] each = refl
same-map F G n (x ∷ l) each =
    let e : n + 0 ≡ n = omega arith in
    ap₂ (λ (m : Mark) ms. m ∷ ms) (subst (λ (k : ℕ). F (k, x) ≡ G (k, x)) e (each 0 x refl))
    (same-map F G (n + 1) l (λ i y found. let q : n + suc i ≡ n + 1 + i = omega arith in subst (λ (k : ℕ). F (k, y) ≡ G (k, y)) q (each (suc i) y found)))

at-pair : (F : NumberedMethod → Mark) (n : ℕ) (l : List MethodPlace) (i : ℕ) (x : MethodPlace) → slice_get l i ≡ Some x → mark_at (map F (enumerate_from n l)) i ≡ F (n + i, x)
at-pair F n [] i x found = absurd (let no : None ≡ Some x = found in cc)
at-pair F n (y ∷ l) zero x found =
    let e : n ≡ n + 0 = omega arith in
    let one : y ≡ x = (let inj : Some y ≡ Some x → y ≡ x = λ q. cc in inj found) in
    ap₂ (λ (k : ℕ) y. F (k, y)) e one
at-pair F n (y ∷ l) (suc i) x found = at-pair F (n + 1) l i x found ∙ (let q : n + 1 + i ≡ n + suc i = omega arith in ap (λ (k : ℕ). F (k, x)) q)

at-member : (f : ℕ → Mark) (n : ℕ) (l : List Member) (i : ℕ) → i < length l → mark_at (map (λ (e : ℕ × Member). f e.0) (enumerate_from n l)) i ≡ f (n + i)
at-member f n [] i less = absurd (omega (arith, less))
at-member f n (m ∷ l) zero less = let e : n ≡ n + 0 = omega arith in ap f e
at-member f n (m ∷ l) (suc i) less = at-member f (n + 1) l i (omega (arith, less)) ∙ (let q : n + 1 + i ≡ n + suc i = omega arith in ap f q)

-- ---- one class, and several

either : (f g : Mark) (a b : Bool) → (if b then f else if a then f else g) ≡ (if a || b then f else g)
either f g true true = refl
either f g true false = refl
either f g false true = refl
either f g false false = refl

module _ (p : Program) (r : Revealed) (are : p.methods ≡ methods_numbered p.classes) where
  -- the mark that a class's list has for one of its methods
  in-class : (i : ℕ) (x : MethodPlace) → slice_get p.methods i ≡ Some x → mark_at (marks_for p r x.class) x.position ≡ mark_of p r i
  in-class i x found =
      at-member (λ at. option_map_or (mark_of p r) (number_of_method p x.class at) Off) 0 (class_in p x.class).methods x.position (within-class p are i x found)
      ∙ (ap (λ at. option_map_or (mark_of p r) (number_of_method p x.class at) Off) (zero-add x.position)
      ∙ ap (λ o. option_map_or (mark_of p r) o Off) (number-back p are i x found))

  over-map : (c : ℕ) (ms : List Mark) (g : NumberedMethod → Mark) (n : ℕ) (places : List MethodPlace)
      → marks_over c ms places (map g (enumerate_from n places)) ≡ map (λ (e : NumberedMethod). if e.1.class == c then mark_at ms e.1.position else g e) (enumerate_from n places)
  over-map c ms g n [] = refl
  over-map c ms g n (x ∷ places) = ap (λ (l : List Mark). (if x.class == c then mark_at ms x.position else g (n, x)) ∷ l) (over-map c ms g (n + 1) places)

  one-class : (c : ℕ) (v : View) (g : NumberedMethod → Mark) → v.program ≡ p → v.marks ≡ map g (enumerate_from 0 p.methods)
      → (with_class c (marks_for p r c) v).marks ≡ map (λ (e : NumberedMethod). if e.1.class == c then mark_of p r e.0 else g e) (enumerate_from 0 p.methods)
  one-class c v g same e =
      ap₂ (λ (q : Program) ms. marks_over c (marks_for p r c) q.methods ms) same e
      ∙ (over-map c (marks_for p r c) g 0 p.methods
      ∙ same-map (λ (e : NumberedMethod). if e.1.class == c then mark_at (marks_for p r c) e.1.position else g e) (λ (e : NumberedMethod). if e.1.class == c then mark_of p r e.0 else g e) 0 p.methods
      (λ i x found. by i x found (x.class == c) refl))
    where
      by : (i : ℕ) (x : MethodPlace) → slice_get p.methods i ≡ Some x → (b : Bool) → (x.class == c) ≡ b
          → (if x.class == c then mark_at (marks_for p r c) x.position else g (0 + i, x)) ≡ (if x.class == c then mark_of p r (0 + i) else g (0 + i, x))
      by i x found true q =
          let at : x.class ≡ c = eqb-true x.class c q in
          let one : mark_at (marks_for p r c) x.position ≡ mark_of p r (0 + i) =
          ap (λ k. mark_at (marks_for p r k) x.position) (sym at) ∙ (in-class i x found ∙ ap (mark_of p r) (sym (zero-add i))) in
          ap (λ m. if x.class == c then m else g (0 + i, x)) one
      by i x found false q =
          ap (λ b. if b then mark_at (marks_for p r c) x.position else g (0 + i, x)) q ∙ ap (λ b. if b then mark_of p r (0 + i) else g (0 + i, x)) (sym q)

  several : (classes : List ℕ) (v : View) (g : NumberedMethod → Mark) → v.program ≡ p → v.marks ≡ map g (enumerate_from 0 p.methods)
      → with_classes p r classes v ≡ record v { marks = map (λ (e : NumberedMethod). if is_among e.1.class classes then mark_of p r e.0 else g e) (enumerate_from 0 p.methods) }
  several [] v g same e = ap (λ l. let r : View = record v { marks = l } in r) e
  several (c ∷ more) v g same e =
      let next : NumberedMethod → Mark = λ (e : NumberedMethod). if e.1.class == c then mark_of p r e.0 else g e in
      several more (with_class c (marks_for p r c) v) next same (one-class c v g same e)
      ∙ ap (λ l. let r : View = record v { marks = l } in r)
      (same-map (λ (e : NumberedMethod). if is_among e.1.class more then mark_of p r e.0 else next e) (λ (e : NumberedMethod). if is_among e.1.class (c ∷ more) then mark_of p r e.0 else g e) 0 p.methods
      (λ i x found. either (mark_of p r (0 + i)) (g (0 + i, x)) (x.class == c) (is_among x.class more)))

-- ---- a class that has not changed

among-filter : (test : ℕ → Bool) (l : List ℕ) (x : ℕ) → is_among x l ≡ true → test x ≡ true → is_among x (filter test l) ≡ true
among-filter test [] x among is = absurd (let h : false ≡ true = among in cc)
among-filter test (y ∷ l) x among is = by (λ later. among-filter test l x later is) (x == y) refl (test y) refl where
  by : (is_among x l ≡ true → is_among x (filter test l) ≡ true) → (a : Bool) → (x == y) ≡ a → (b : Bool) → test y ≡ b → is_among x (if test y then y ∷ filter test l else filter test l) ≡ true
  by rest true e true t = subst (λ b. is_among x (if b then y ∷ filter test l else filter test l) ≡ true) (sym t) (ap (λ b. b || is_among x (filter test l)) e)
  by rest true e false t = absurd (let h : false ≡ true = sym t ∙ (ap test (sym (eqb-true x y e)) ∙ is) in cc)
  by rest false e true t =
      subst (λ b. is_among x (if b then y ∷ filter test l else filter test l) ≡ true) (sym t)
      (ap (λ b. (x == y) || b) (rest (ap (λ b. b || is_among x l) (sym e) ∙ among)) ∙ or-true (x == y))
  by rest false e false t =
      subst (λ b. is_among x (if b then y ∷ filter test l else filter test l) ≡ true) (sym t) (rest (ap (λ b. b || is_among x l) (sym e) ∙ among))

mark-is : (a b : Mark) → same_mark a b ≡ true → a ≡ b
mark-is Off Off e = refl
mark-is Plain Plain e = refl
mark-is Root Root e = refl
mark-is Off Plain e = absurd (let h : false ≡ true = e in cc)
mark-is Off Root e = absurd (let h : false ≡ true = e in cc)
mark-is Plain Off e = absurd (let h : false ≡ true = e in cc)
mark-is Plain Root e = absurd (let h : false ≡ true = e in cc)
mark-is Root Off e = absurd (let h : false ≡ true = e in cc)
mark-is Root Plain e = absurd (let h : false ≡ true = e in cc)

any-at : (test : NumberedMethod → Bool) (n : ℕ) (l : List MethodPlace) (i : ℕ) (x : MethodPlace) → slice_get l i ≡ Some x → list_any test (enumerate_from n l) ≡ false → test (n + i, x) ≡ false
any-at test n [] i x found none = absurd (let no : None ≡ Some x = found in cc)
any-at test n (y ∷ l) zero x found none =
    let e : n ≡ n + 0 = omega arith in
    let one : y ≡ x = (let inj : Some y ≡ Some x → y ≡ x = λ q. cc in inj found) in
    sym (ap₂ (λ (k : ℕ) y. test (k, y)) e one) ∙ left (test (n, y)) (list_any test (enumerate_from (n + 1) l)) none
  where
    left : (a b : Bool) → (a || b) ≡ false → a ≡ false
    left true b e = e
    left false b e = refl
any-at test n (y ∷ l) (suc i) x found none =
    let q : n + 1 + i ≡ n + suc i = omega arith in
    subst (λ (k : ℕ). test (k, x) ≡ false) q (any-at test (n + 1) l i x found (right (test (n, y)) (list_any test (enumerate_from (n + 1) l)) none))
  where
    right : (a b : Bool) → (a || b) ≡ false → b ≡ false
    right true b e = absurd (let h : true ≡ false = e in cc)
    right false b e = e

module _ (p : Program) (shown now : Revealed) (are : p.methods ≡ methods_numbered p.classes) (grown : (class : ℕ) → is_among class shown.loaded ≡ true → is_among class now.loaded ≡ true) where
  -- a method whose class is not loaded
  unloaded : (r : Revealed) (i : ℕ) (x : MethodPlace) → slice_get p.methods i ≡ Some x → is_among x.class r.loaded ≡ false → mark_of p r i ≡ Off
  unloaded r i x found out =
      ap (λ b. let m : Mark = if b then (if is_among i r.selected then Root else if is_target p (operations_of p) r.loaded r.entered i then Plain else Off) else Off in m)
      (ap (λ o. option_map_or (λ (place : MethodPlace). is_among place.class r.loaded) o false) found ∙ out)

  unchanged : (i : ℕ) (x : MethodPlace) → slice_get p.methods i ≡ Some x → is_among x.class (changed_of p shown now) ≡ false → mark_of p shown i ≡ mark_of p now i
  unchanged i x found out = by (is_among x.class now.loaded) refl where
    by : (b : Bool) → is_among x.class now.loaded ≡ b → mark_of p shown i ≡ mark_of p now i
    by false away = unloaded shown i x found (not-shown (is_among x.class shown.loaded) refl) ∙ sym (unloaded now i x found away) where
      not-shown : (b : Bool) → is_among x.class shown.loaded ≡ b → is_among x.class shown.loaded ≡ false
      not-shown false e = e
      not-shown true e = absurd (let h : false ≡ true = sym away ∙ grown x.class e in cc)
    by true here = of-test (differs p (operations_of p) (stand_of shown) (stand_of now) x.class) refl where
      of-test : (b : Bool) → differs p (operations_of p) (stand_of shown) (stand_of now) x.class ≡ b → mark_of p shown i ≡ mark_of p now i
      of-test true e = absurd (let h : false ≡ true = sym out ∙ among-filter (differs p (operations_of p) (stand_of shown) (stand_of now)) now.loaded x.class here e in cc)
      of-test false e =
          mark-is (mark_of p shown i) (mark_of p now i)
          (same (same_mark (mark_of p shown i) (mark_of p now i))
          (subst (λ k. (x.class == x.class && not (same_mark (mark_of p shown k) (mark_of p now k))) ≡ false) (zero-add i)
          (any-at (λ (e : NumberedMethod). e.1.class == x.class && not (same_mark (mark_of p shown e.0) (mark_of p now e.0))) 0 p.methods i x found e)))
        where
          same : (b : Bool) → (x.class == x.class && not b) ≡ false → b ≡ true
          same true e = refl
          same false e = absurd (let h : true ≡ false = ap (λ b. b && true) (sym (eq-eqb x.class x.class refl)) ∙ e in cc)

  pub all-swapped : (v : View) → v.program ≡ p → v.marks ≡ marks_of p shown → with_classes p now (changed_of p shown now) v ≡ record v { marks = marks_of p now }
  all-swapped v same marks =
      several p now are (changed_of p shown now) v (λ (e : NumberedMethod). mark_of p shown e.0) same marks
      ∙ ap (λ l. let r : View = record v { marks = l } in r)
      (same-map (λ (e : NumberedMethod). if is_among e.1.class (changed_of p shown now) then mark_of p now e.0 else mark_of p shown e.0) (λ (e : NumberedMethod). mark_of p now e.0) 0 p.methods
      (λ i x found. pick i x found (is_among x.class (changed_of p shown now)) refl))
    where
      pick : (i : ℕ) (x : MethodPlace) → slice_get p.methods i ≡ Some x → (b : Bool) → is_among x.class (changed_of p shown now) ≡ b
          → (if is_among x.class (changed_of p shown now) then mark_of p now (0 + i) else mark_of p shown (0 + i)) ≡ mark_of p now (0 + i)
      pick i x found true e = ap (λ b. if b then mark_of p now (0 + i) else mark_of p shown (0 + i)) e
      pick i x found false e =
          ap (λ b. if b then mark_of p now (0 + i) else mark_of p shown (0 + i)) e ∙ subst (λ k. mark_of p shown k ≡ mark_of p now k) (sym (zero-add i)) (unchanged i x found e)

-- ---- what has changed, by the marks that were shown

any-same : (F G : NumberedMethod → Bool) (n : ℕ) (l : List MethodPlace) → ((i : ℕ) (x : MethodPlace) → slice_get l i ≡ Some x → F (n + i, x) ≡ G (n + i, x))
    → list_any F (enumerate_from n l) ≡ list_any G (enumerate_from n l)
any-same F G n [] each = refl
any-same F G n (x ∷ l) each =
    let e : n + 0 ≡ n = omega arith in
    ap₂ (λ a b. a || b) (subst (λ (k : ℕ). F (k, x) ≡ G (k, x)) e (each 0 x refl))
    (any-same F G (n + 1) l (λ i y found. let q : n + suc i ≡ n + 1 + i = omega arith in subst (λ (k : ℕ). F (k, y) ≡ G (k, y)) q (each (suc i) y found)))

filter-same : (f g : ℕ → Bool) → ((n : ℕ) → f n ≡ g n) → (l : List ℕ) → filter f l ≡ filter g l
filter-same f g each [] = refl
filter-same f g each (n ∷ l) = ap₂ (λ b (rest : List ℕ). if b then n ∷ rest else rest) (each n) (filter-same f g each l)

differs-shown : (p : Program) (shown : List Mark) (before now : Revealed) → shown ≡ marks_of p before → (class : ℕ)
    → differs_from p shown now class ≡ differs p (operations_of p) (stand_of before) (stand_of now) class
differs-shown p shown before now is class =
    any-same (λ (e : NumberedMethod). e.1.class == class && not (same_mark (mark_at shown e.0) (mark_of p now e.0))) (λ (e : NumberedMethod). e.1.class == class && not (same_mark (mark_of p before e.0) (mark_of p now e.0)))
    0 p.methods
    (λ i x found. ap (λ m. x.class == class && not (same_mark m (mark_of p now (0 + i))))
    (ap (λ l. mark_at l (0 + i)) is ∙ (ap (mark_at (marks_of p before)) (zero-add i) ∙ at-pair (λ (e : NumberedMethod). mark_of p before e.0) 0 p.methods i x found)))

pub changed-shown : (p : Program) (shown : List Mark) (before now : Revealed) → shown ≡ marks_of p before → changed_from p shown now ≡ changed_of p before now
changed-shown p shown before now is =
    filter-same (differs_from p shown now) (differs p (operations_of p) (stand_of before) (stand_of now)) (differs-shown p shown before now is) now.loaded

-- and of an equal program
pub changed-equal : (p q : Program) (shown : List Mark) (before now : Revealed) (classes : List ℕ) → q ≡ p → shown ≡ marks_of p before
    → ((before : Revealed) → shown ≡ marks_of q before → classes ≡ changed_of q before now) → classes ≡ changed_of p before now
changed-equal p q shown before now classes same is each =
    each before (is ∙ ap (λ (p : Program). marks_of p before) (sym same)) ∙ ap (λ (p : Program). changed_of p before now) same

-- a class that has changed is one of the program
pub record IsPair (test : NumberedMethod → Bool) (n : ℕ) (l : List MethodPlace) : Type 0 where
  pub at : ℕ
  pub place : MethodPlace
  pub found : slice_get l at ≡ Some place
  pub holds : test (n + at, place) ≡ true

pub pair-with : (test : NumberedMethod → Bool) (n : ℕ) (l : List MethodPlace) → list_any test (enumerate_from n l) ≡ true → IsPair test n l
pair-with test n [] is = absurd (let h : false ≡ true = is in cc)
pair-with test n (x ∷ l) is = by (test (n, x)) refl (pair-with test (n + 1) l) is where
  by : (b : Bool) → test (n, x) ≡ b → (list_any test (enumerate_from (n + 1) l) ≡ true → IsPair test (n + 1) l) → (b || list_any test (enumerate_from (n + 1) l)) ≡ true
      → IsPair test n (x ∷ l)
  by true e later is = let q : n + 0 ≡ n = omega arith in record { at = 0; place = x; found = refl; holds = ap (λ (k : ℕ). test (k, x)) q ∙ e }
  by false e later is =
      let there = later is in
      let q : n + suc there.at ≡ n + 1 + there.at = omega arith in
      record { at = suc there.at; place = there.place; found = there.found; holds = ap (λ (k : ℕ). test (k, there.place)) q ∙ there.holds }

filter-all : (test : ℕ → Bool) (P : ℕ → Type 0) → ((n : ℕ) → test n ≡ true → P n) → (l : List ℕ) → AllByRecursion P (filter test l)
filter-all test P each [] = tt
filter-all test P each (n ∷ l) = by (test n) refl (filter-all test P each l) where
  by : (b : Bool) → test n ≡ b → AllByRecursion P (filter test l) → AllByRecursion P (if b then n ∷ filter test l else filter test l)
  by true e rest = (each n e, rest)
  by false e rest = rest

pub changed-known : (p : Program) → p.methods ≡ methods_numbered p.classes → (shown : List Mark) (now : Revealed) → AreKnown p (changed_from p shown now)
changed-known p are shown now =
    filter-all (differs_from p shown now) (λ class. class < length p.classes) (λ class differs.
    let there = pair-with (λ (e : NumberedMethod). e.1.class == class && not (same_mark (mark_at shown e.0) (mark_of p now e.0))) 0 p.methods differs in
    let parts = and_parts (there.place.class == class) (not (same_mark (mark_at shown (0 + there.at)) (mark_of p now (0 + there.at)))) there.holds in
    let is = class-of p are there.at there.place there.found in
    subst (λ c. c < length p.classes) (eqb-true there.place.class class parts.0) (slice_get_within p.classes there.place.class is.class is.found)) now.loaded

known-in : (p : Program) (classes : List ℕ) (i : ℕ) → AreKnown p classes → i < length classes → get_or classes i 0 < length p.classes
known-in p [] i all less = absurd (omega (arith, less))
known-in p (c ∷ classes) zero all less = all.0
known-in p (c ∷ classes) (suc i) all less = known-in p classes i all.1 (omega (arith, less))

pub known-at : (p q : Program) → q ≡ p → (classes : List ℕ) (i class : ℕ) → AreKnown p classes → i < length classes → class ≡ get_or classes i 0 → class < length q.classes
known-at p q same classes i class all less at =
    subst (λ (p : Program). class < length p.classes) (sym same) (subst (λ c. c < length p.classes) (sym at) (known-in p classes i all less))

-- ---- the program stays

classes-program : (p : Program) (r : Revealed) (classes : List ℕ) (v : View) → (with_classes p r classes v).program ≡ v.program
classes-program p r [] v = refl
classes-program p r (c ∷ more) v = classes-program p r more (with_class c (marks_for p r c) v)

pub swapped-program : (p : Program) (r : Revealed) (classes : List ℕ) (old new : View) (before after : List Swap) → HasSwapped p r classes old new before after
    → new.program ≡ old.program
swapped-program p r classes old new before after is = ap (λ (v : View). v.program) is.vm ∙ classes-program p r classes old

-- ---- from class to class

drop-suc : (l : List ℕ) (i : ℕ) → i < length l → drop i l ≡ get_or l i 0 ∷ drop (suc i) l
drop-suc [] i less = absurd (omega (arith, less))
drop-suc (x ∷ l) zero less = refl
drop-suc (x ∷ l) (suc i) less = drop-suc l i (omega (arith, less))

drop-one : (l : List ℕ) (i : ℕ) → i < length l → drop i l ≡ get_or l i 0 ∷ drop (i + 1) l
drop-one l i less = drop-suc l i less ∙ ap (λ k. get_or l i 0 ∷ drop k l) (sym (add-one i))

-- with the classes that are left it comes to what it comes to from the first on
pub record AreSwapping (first : View) (r : Revealed) (classes : List ℕ) (i : ℕ) (v : View) (before swaps : List Swap) : Type 0 where
  pub vm : with_classes first.program r (drop i classes) v ≡ with_classes first.program r classes first
  pub swaps_are : swaps ++ swapped_now first.program first.clock r (drop i classes) ≡ before ++ swapped_now first.program first.clock r classes
  pub whole : v.broken ≡ false
  pub program : v.program ≡ first.program
  pub clock : v.clock ≡ first.clock
  pub same : world v ≡ world first

pub swapping-first : (first : View) (r : Revealed) (classes : List ℕ) (before : List Swap) → first.broken ≡ false → AreSwapping first r classes 0 first before before
swapping-first first r classes before whole = record { vm = refl; swaps_are = refl; whole = whole; program = refl; clock = refl; same = refl }

pub swapping-next : (first : View) (r : Revealed) (classes : List ℕ) (i : ℕ) (v : View) (before swaps : List Swap) → AreSwapping first r classes i v before swaps → i < length classes
    → (new : View) (after : List Swap) (class : ℕ) (swap : Swap) → class ≡ get_or classes i 0 → new ≡ with_class class (marks_for v.program r class) v
    → swap ≡ swap_now v.program v.clock r class → after ≡ swaps ++ swap ∷ [] → AreSwapping first r classes (i + 1) new before after
swapping-next first r classes i v before swaps is less new after class swap at new_is swap_is after_is =
    let p = first.program in
    let c = get_or classes i 0 in
    let rest = drop (i + 1) classes in
    let stepped : new ≡ with_class c (marks_for p r c) v =
    new_is ∙ (ap (λ (q : Program). with_class class (marks_for q r class) v) is.program ∙ ap (λ k. with_class k (marks_for p r k) v) at) in
    let entry : swap ≡ swap_now p first.clock r c = swap_is ∙ (ap₂ (λ (q : Program) n. swap_now q n r class) is.program is.clock ∙ ap (swap_now p first.clock r) at) in
    record {
      vm = ap (with_classes p r rest) stepped ∙ (ap (λ l. with_classes p r l v) (sym (drop-one classes i less)) ∙ is.vm);
      swaps_are = ap (λ l. l ++ swapped_now p first.clock r rest) (after_is ∙ ap (λ s. swaps ++ s ∷ []) entry)
          ∙ (append_assoc swaps (swap_now p first.clock r c ∷ []) (swapped_now p first.clock r rest)
          ∙ (ap (λ l. swaps ++ swapped_now p first.clock r l) (sym (drop-one classes i less)) ∙ is.swaps_are));
      whole = ap (λ (v : View). v.broken) stepped ∙ is.whole;
      program = ap (λ (v : View). v.program) stepped ∙ is.program;
      clock = ap (λ (v : View). v.clock) stepped ∙ is.clock;
      same = ap world stepped ∙ is.same;
    }

drop-all : (l : List ℕ) (i : ℕ) → length l ≤ i → drop i l ≡ []
drop-all [] zero le = refl
drop-all [] (suc i) le = refl
drop-all (x ∷ l) zero le = absurd (omega (arith, le))
drop-all (x ∷ l) (suc i) le = drop-all l i (omega (arith, le))

pub swapping-done : (first : View) (r : Revealed) (classes : List ℕ) (i : ℕ) (v : View) (before swaps : List Swap) → AreSwapping first r classes i v before swaps → length classes ≤ i
    → HasSwapped first.program r classes first v before swaps
swapping-done first r classes i v before swaps is le =
    let none = drop-all classes i le in
    record {
      vm = ap (λ l. with_classes first.program r l v) (sym none) ∙ is.vm;
      swaps = sym (append-nil swaps) ∙ (ap (λ l. swaps ++ swapped_now first.program first.clock r l) (sym none) ∙ is.swaps_are);
    }
