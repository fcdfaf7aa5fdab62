-- Versions that are kept without their lines, seen with the lines that they are to have.
use Rattle.std.proofs.Common.{◌≡◌, ◌≢◌, ◌≤◌, ℕ, zero, suc, Bool, true, false, List, [], ◌∷◌, length, Option, Some, None, refl, sym, ap, subst, ◌∙◌}
use Rattle.std.specs.Prelude.{◌==◌, ◌&&◌, map, slice_get, slice_index_or, if◌then◌else◌}
use Rattle.std.specs.Borrow.{Bor}
use Rattle.std.specs.List.{AllByRecursion, range_with_len}
use Rattle.std.specs.Option.{IfSome, option_and_then, option_copied, option_map, option_map_or}
use Rattle.std.proofs.lemmas.Bool.{eq-eqb, eqb-true}
use Rattle.std.proofs.lemmas.List.{ext_get_or, length-map}
use Rattle.std.proofs.lemmas.Option.{none-some}
use Rattle.const_pool.specs.declared.class.ClassFile.{ClassFile}
use Rattle.const_pool.specs.declared.class.Member.{Member}
use Rattle.frame_stack.specs.FrameLists.{PlacedFrame, pins_of}
use Rattle.method_versions.specs.Tables.{IsFirst, current_in, held_besides, is_number, is_old, is_superseded_in, method_in, prepared_anew}
use Rattle.jvm_model.specs.declared.event.Mark.TheVariants.{Off}
use Rattle.jvm_model.specs.declared.program.MethodPlace.{MethodPlace}
use Rattle.jvm_model.specs.declared.program.Program.{Program}
use Rattle.jvm_model.specs.Basis.Programs.{class_at}
use Rattle.prepared_lines.specs.declared.line.Line.{Line}
use Rattle.prepared_code.specs.declared.versions.Catching.{Catching}
use Rattle.prepared_code.specs.Entries.{no_version, original_slot, original_version, original_versions, own_number, version_entry, version_in, version_of}
use Rattle.prepared_code.specs.Making.{AreBare, HasItsLines, IsBare, IsReplaced, bare_slot, bare_version, bare_versions, has_lines, made_by, with_lines}
use Rattle.prepared_code.specs.Tables.{Adds, IsAdded, Releases, Version, Versions, version_at}
use Rattle.jvm_model.specs.Basis.Families.{family_of}
use Rattle.prepared_code.specs.Versions.{ArePrepared, HasLines, IsPreparedLine, first_of, line_at, line_in, mark_of}
use Rattle.prepared_code.proofs.Tables.OriginalsRun.{of-place, original-first}

-- ---- original code has its lines, and no probes

record IsPlain (x : Version) : Type 0 where
  lines : x.prepared.has_lines ≡ true
  mark : x.prepared.mark ≡ Off

plain-member : (k : ℕ) (c : ClassFile) (m : Option Member) → IsPlain (option_map_or (version_entry k c) m (no_version k))
plain-member k c None = record { lines = refl; mark = refl }
plain-member k c (Some m) = record { lines = refl; mark = refl }

plain-class : (k : ℕ) (place : MethodPlace) (c : Option ClassFile) → IsPlain (option_map_or (version_in k place) c (no_version k))
plain-class k place None = record { lines = refl; mark = refl }
plain-class k place (Some c) = plain-member k c (slice_get c.methods place.position)

plain-place : (p : Program) (k : ℕ) (place : Option MethodPlace) → IsPlain (option_map_or (version_of p k) place (no_version k))
plain-place p k None = record { lines = refl; mark = refl }
plain-place p k (Some place) = plain-class k place (class_at p place.class)

plain : (p : Program) (k : ℕ) → IsPlain (original_version p k)
plain p k = plain-place p k (slice_get p.methods k)

pub original-has-lines : (p : Program) (k : ℕ) → (original_version p k).prepared.has_lines ≡ true
original-has-lines p k = (plain p k).lines

pub original-method : (p : Program) (k : ℕ) → (original_version p k).method ≡ k
original-method p k = of-place p k (slice_get p.methods k)

-- ---- one version

module _ (p : Program) (x : Version) where
  abbrev by_lines : Bool → Version
  by_lines b = if b then x else original_version p x.method

  pub made-same : x.prepared.has_lines ≡ true → made_by p x ≡ x
  made-same e = ap by_lines e

  pub made-original : x.prepared.has_lines ≡ false → made_by p x ≡ original_version p x.method
  made-original e = ap by_lines e

  pub made-method : (made_by p x).method ≡ x.method
  made-method = by x.prepared.has_lines where
    by : (b : Bool) → (by_lines b).method ≡ x.method
    by true = refl
    by false = original-method p x.method

  module _ {A : Type 0} (f : Version → A) (same : (k : ℕ) → f (bare_version p k) ≡ f (original_version p k)) (bare : IsBare p x) where
    pub made-keeps : f (made_by p x) ≡ f x
    made-keeps = by x.prepared.has_lines refl where
      by : (b : Bool) → x.prepared.has_lines ≡ b → f (by_lines b) ≡ f x
      by true e = refl
      by false e = sym (ap f (bare e) ∙ same x.method)

  -- a line that is kept is one of its lines
  pub made-line : IsBare p x → (place : ℕ) (l : Line) → line_in place x ≡ Some l → line_in place (made_by p x) ≡ Some l
  made-line bare place l is = by x.prepared.has_lines refl where
    by : (b : Bool) → x.prepared.has_lines ≡ b → line_in place (by_lines b) ≡ Some l
    by true e = is
    by false e = absurd (none-some l (sym (ap (line_in place) (bare e)) ∙ is))

  pub marked-made : IsBare p x → (made_by p x).prepared.mark ≢ Off → x.prepared.has_lines ≡ true
  marked-made bare marked = by x.prepared.has_lines refl where
    by : (b : Bool) → x.prepared.has_lines ≡ b → x.prepared.has_lines ≡ true
    by true e = e
    by false e = absurd (marked (ap (λ (y : Version). y.prepared.mark) (made-original e) ∙ (plain p x.method).mark))

-- ---- the versions of a table

slot-made : (f : Version → Version) (xs : List (Option Version)) (k : ℕ) → slice_index_or (map (option_map f) xs) k None ≡ option_map f (slice_index_or xs k None)
slot-made f [] k = refl
slot-made f (x ∷ xs) zero = refl
slot-made f (x ∷ xs) (suc k) = slot-made f xs k

abbrev method_of_slot : Option Version → Option ℕ
method_of_slot o = option_map (λ (x : Version). x.method) o

module _ (p : Program) where
  method-slot : (o : Option Version) → method_of_slot (option_map (made_by p) o) ≡ method_of_slot o
  method-slot None = refl
  method-slot (Some x) = ap Some (made-method p x)

  module _ (v : Versions) where
    pub at-made : (k : ℕ) → version_at (with_lines p v) k ≡ option_map (made_by p) (version_at v k)
    at-made k = slot-made (made_by p) v.slots k

    pub method-made : (k : ℕ) → method_in (with_lines p v).slots k ≡ method_in v.slots k
    method-made k = ap method_of_slot (at-made k) ∙ method-slot (version_at v k)

    pub superseded-made : (k : ℕ) → is_superseded_in (with_lines p v).slots v.current k ≡ is_superseded_in v.slots v.current k
    superseded-made k = ap (is_old v.current k) (method-made k)

    pub version-made : (k : ℕ) (x : Version) → version_at v k ≡ Some x → x.prepared.has_lines ≡ true → version_at (with_lines p v) k ≡ Some x
    version-made k x is has = at-made k ∙ (ap (option_map (made_by p)) is ∙ ap Some (made-same p x has))

    pub original-made : (k : ℕ) (x : Version) → version_at v k ≡ Some x → x.prepared.has_lines ≡ false → version_at (with_lines p v) k ≡ Some (original_version p x.method)
    original-made k x is has = at-made k ∙ (ap (option_map (made_by p)) is ∙ ap Some (made-original p x has))

    -- what does not ask for lines
    module _ {A : Type 0} (f : Version → A) (same : (k : ℕ) → f (bare_version p k) ≡ f (original_version p k)) (bare : AreBare p v) (d : A) where
      keeps-slot : (o : Option Version) → IfSome o (IsBare p) → option_map_or f (option_map (made_by p) o) d ≡ option_map_or f o d
      keeps-slot None is = refl
      keeps-slot (Some x) is = made-keeps p x f same is

      pub keeps-made : (k : ℕ) → option_map_or f (version_at (with_lines p v) k) d ≡ option_map_or f (version_at v k) d
      keeps-made k = ap (λ (o : Option Version). option_map_or f o d) (at-made k) ∙ keeps-slot (version_at v k) (bare.each k)

    pub mark-made : AreBare p v → (k : ℕ) → mark_of v k ≡ mark_of (with_lines p v) k
    mark-made bare k = sym (keeps-made (λ (x : Version). x.prepared.mark) (λ m. refl) bare Off k)

    pub first-made : AreBare p v → (k : ℕ) → first_of v k ≡ first_of (with_lines p v) k
    first-made bare k = sym (keeps-made (λ (x : Version). x.prepared.first) (λ m. refl) bare 0 k)

    abbrev handlers_in : Option Version → Option (List Catching)
    handlers_in o = option_map (λ (x : Version). x.prepared.handlers) o

    handlers-slot : (o : Option Version) → IfSome o (IsBare p) → handlers_in (option_map (made_by p) o) ≡ handlers_in o
    handlers-slot None is = refl
    handlers-slot (Some x) is = ap Some (made-keeps p x (λ y. y.prepared.handlers) (λ m. refl) is)

    pub handlers-made : AreBare p v → (k : ℕ) → handlers_in (version_at v k) ≡ handlers_in (version_at (with_lines p v) k)
    handlers-made bare k = sym (ap handlers_in (at-made k) ∙ handlers-slot (version_at v k) (bare.each k))

    -- ---- lines

    line-slot : (o : Option Version) → IfSome o (IsBare p) → (place : ℕ) (l : Line) → option_and_then (line_in place) o ≡ Some l
        → option_and_then (line_in place) (option_map (made_by p) o) ≡ Some l
    line-slot None bare place l is = is
    line-slot (Some x) bare place l is = made-line p x bare place l is

    pub line-made : AreBare p v → (k place : ℕ) (l : Line) → line_at v k place ≡ Some l → line_at (with_lines p v) k place ≡ Some l
    line-made bare k place l is = ap (option_and_then (line_in place)) (at-made k) ∙ line-slot (version_at v k) (bare.each k) place l is

    lines-slot : (o : Option Version) → option_map_or (λ (x : Version). x.prepared.has_lines) o true ≡ true → (place : ℕ)
        → option_and_then (line_in place) o ≡ option_and_then (line_in place) (option_map (made_by p) o)
    lines-slot None has place = refl
    lines-slot (Some x) has place = sym (ap (line_in place) (made-same p x has))

    pub lines-made : (k : ℕ) → has_lines v k ≡ true → HasItsLines p v k
    lines-made k has place = lines-slot (version_at v k) has place ∙ sym (ap (option_and_then (line_in place)) (at-made k))

    marked-slot : (o : Option Version) → IfSome o (IsBare p) → option_map_or (λ (x : Version). x.prepared.mark) (option_map (made_by p) o) Off ≢ Off
        → option_map_or (λ (x : Version). x.prepared.has_lines) o true ≡ true
    marked-slot None bare marked = refl
    marked-slot (Some x) bare marked = marked-made p x bare marked

    -- those in which probes stand are never without their lines
    pub marked-lines : AreBare p v → (k : ℕ) → mark_of (with_lines p v) k ≢ Off → HasItsLines p v k
    marked-lines bare k marked =
        lines-made k (marked-slot (version_at v k) (bare.each k) (λ off. marked (ap (λ (o : Option Version). option_map_or (λ x. x.prepared.mark) o Off) (at-made k) ∙ off)))

  -- ---- versions more, or fewer

  added-slot : (x : Version) → x.prepared.has_lines ≡ true → (b : Bool) (o : Option Version)
      → option_map (made_by p) (if b then Some x else o) ≡ (if b then Some x else option_map (made_by p) o)
  added-slot x has true o = ap Some (made-same p x has)
  added-slot x has false o = refl

  left-slot : (b : Bool) (o : Option Version) → option_map (made_by p) (if b then None else o) ≡ (if b then None else option_map (made_by p) o)
  left-slot true o = refl
  left-slot false o = refl

  added-made : (fs : List PlacedFrame) (number : ℕ) (x : Version) (old new : Versions) → x.prepared.has_lines ≡ true → IsAdded fs number x old new
      → IsAdded fs number x (with_lines p old) (with_lines p new)
  added-made fs number x old new has added = record {
    vacant = at-made old number ∙ ap (option_map (made_by p)) added.vacant;
    small = added.small;
    held = λ k.
        let stays : Bool = is_number k (current_in old.current x.method) && pins_of k fs == 0 in
        at-made new k ∙ (ap (option_map (made_by p)) (added.held k)
        ∙ (added-slot x has (k == number) (if stays then None else version_at old k)
        ∙ ap (λ (o : Option Version). if k == number then Some x else o)
        (left-slot stays (version_at old k) ∙ ap (λ (o : Option Version). if stays then None else o) (sym (at-made old k)))));
    current = added.current;
  }

  pub adds-made : (fs : List PlacedFrame) (xs : List Version) (old new : Versions) → AllByRecursion (λ (x : Version). x.prepared.has_lines ≡ true) xs → Adds fs xs old new
      → Adds fs xs (with_lines p old) (with_lines p new)
  adds-made fs [] old new has adds = ap (with_lines p) adds
  adds-made fs (x ∷ xs) old new has adds =
      (adds.0, with_lines p adds.1, added-made fs adds.0 x old adds.1 has.0 adds.2, adds-made fs xs adds.1 new has.1 adds.3)

  pub releases-made : (fs : List PlacedFrame) (old new : Versions) → Releases fs old new → Releases fs (with_lines p old) (with_lines p new)
  releases-made fs old new released = record {
    held = λ k.
        at-made new k ∙ (ap (option_map (made_by p)) (released.held k)
        ∙ (left-slot (is_superseded_in old.slots old.current k && pins_of k fs == 0) (version_at old k)
        ∙ (ap (λ (o : Option Version). if is_superseded_in old.slots old.current k && pins_of k fs == 0 then None else o) (sym (at-made old k))
        ∙ ap (λ b. if b && pins_of k fs == 0 then None else version_at (with_lines p old) k) (sym (superseded-made old k)))));
    current = released.current;
    count = length-map new.slots (option_map (made_by p)) ∙ (released.count ∙ sym (length-map old.slots (option_map (made_by p))));
  }

  -- ---- what stays bare

  bare-with : (x : Version) → x.prepared.has_lines ≡ true → IsBare p x
  bare-with x has none = absurd (apart (sym has ∙ none)) where
    apart : true ≡ false → ⊥
    apart e = cc

  bare-if : (b : Bool) (o : Option Version) → IfSome o (IsBare p) → IfSome (if b then None else o) (IsBare p)
  bare-if true o is = tt
  bare-if false o is = is

  bare-either : (b : Bool) (x : Version) (o : Option Version) → x.prepared.has_lines ≡ true → IfSome o (IsBare p) → IfSome (if b then Some x else o) (IsBare p)
  bare-either true x o has is = bare-with x has
  bare-either false x o has is = is

  bare-added : (fs : List PlacedFrame) (number : ℕ) (x : Version) (old new : Versions) → x.prepared.has_lines ≡ true → IsAdded fs number x old new → AreBare p old → AreBare p new
  bare-added fs number x old new has added bare = record {
    each = λ k. subst (λ (o : Option Version). IfSome o (IsBare p)) (sym (added.held k))
        (bare-either (k == number) x (held_besides fs (current_in old.current x.method) k (version_at old k)) has
        (bare-if (is_number k (current_in old.current x.method) && pins_of k fs == 0) (version_at old k) (bare.each k)));
  }

  pub bare-adds : (fs : List PlacedFrame) (xs : List Version) (old new : Versions) → AllByRecursion (λ (x : Version). x.prepared.has_lines ≡ true) xs → Adds fs xs old new
      → AreBare p old → AreBare p new
  bare-adds fs [] old new has adds bare = subst (AreBare p) (sym adds) bare
  bare-adds fs (x ∷ xs) old new has adds bare = bare-adds fs xs adds.1 new has.1 adds.3 (bare-added fs adds.0 x old adds.1 has.0 adds.2 bare)

  pub bare-released : (fs : List PlacedFrame) (old new : Versions) → Releases fs old new → AreBare p old → AreBare p new
  bare-released fs old new released bare = record {
    each = λ k. subst (λ (o : Option Version). IfSome o (IsBare p)) (sym (released.held k))
        (bare-if (is_superseded_in old.slots old.current k && pins_of k fs == 0) (version_at old k) (bare.each k));
  }

  -- ---- a version whose lines are made

  module _ (number : ℕ) (x y : Version) (old new : Versions) (held : version_at old number ≡ Some x) (none : x.prepared.has_lines ≡ false) (is : y ≡ original_version p x.method)
      (replaced : IsReplaced number y.prepared old new) where
    -- it is of the same method
    anew : prepared_anew y.prepared x ≡ y
    anew =
        ap (λ (n : ℕ). let z : Version = record { method = n; prepared = y.prepared } in z)
        (sym (ap (λ (z : Version). z.method) is ∙ original-method p x.method))

    put : (k : ℕ) → version_at new k ≡ (if k == number then Some y else version_at old k)
    put k =
        replaced.held k
        ∙ ap (λ (o : Option Version). if k == number then o else version_at old k) (ap (option_map (prepared_anew y.prepared)) held ∙ ap Some anew)

    y-has : y.prepared.has_lines ≡ true
    y-has = ap (λ (z : Version). z.prepared.has_lines) is ∙ original-has-lines p x.method

    replaced-slot : (k : ℕ) (b : Bool) → (k == number) ≡ b → option_map (made_by p) (if b then Some y else version_at old k) ≡ option_map (made_by p) (version_at old k)
    replaced-slot k true e =
        ap Some (made-same p y y-has ∙ is) ∙ sym (ap (λ n. option_map (made_by p) (version_at old n)) (eqb-true k number e)
        ∙ (ap (option_map (made_by p)) held ∙ ap Some (made-original p x none)))
    replaced-slot k false e = refl

    pub replaced-same : with_lines p new ≡ with_lines p old
    replaced-same =
        ap (λ (xs : List (Option Version)). let u : Versions = record { slots = xs; current = new.current } in u)
        (ext_get_or None (with_lines p new).slots (with_lines p old).slots
        (length-map new.slots (option_map (made_by p)) ∙ (replaced.count ∙ sym (length-map old.slots (option_map (made_by p)))))
        (λ k lt. at-made new k ∙ (ap (option_map (made_by p)) (put k) ∙ (replaced-slot k (k == number) refl ∙ sym (at-made old k)))))
        ∙ ap (λ (ks : List ℕ). let u : Versions = record { slots = (with_lines p old).slots; current = ks } in u) replaced.current

    pub replaced-lines : has_lines new number ≡ true
    replaced-lines = ap (λ (o : Option Version). option_map_or (λ z. z.prepared.has_lines) o true) (put number) ∙ by (number == number) (eq-eqb number number refl) where
      by : (b : Bool) → b ≡ true → option_map_or (λ (z : Version). z.prepared.has_lines) (if b then Some y else version_at old number) true ≡ true
      by true e = y-has
      by false e = absurd cc

    pub replaced-bare : AreBare p old → AreBare p new
    replaced-bare bare = record {
      each = λ k. subst (λ (o : Option Version). IfSome o (IsBare p)) (sym (put k)) (bare-either (k == number) y (version_at old k) y-has (bare.each k));
    }

  -- ---- what is kept at first

  slots-made : (ks : List ℕ) → map (option_map (made_by p)) (map (bare_slot p) ks) ≡ map (original_slot p) ks
  slots-made [] = refl
  slots-made (k ∷ ks) = ap (λ (o : Option Version). o ∷ map (option_map (made_by p)) (map (bare_slot p) ks)) (ap (λ n. original_slot p n) (original-method p k)) ∙ ap (λ os. original_slot p k ∷ os) (slots-made ks)

  pub first-versions : with_lines p (bare_versions p) ≡ original_versions p
  first-versions =
      ap (λ (xs : List (Option Version)). let u : Versions = record { slots = xs; current = map own_number (range_with_len 0 (length p.methods)) } in u)
      (slots-made (range_with_len 0 (length p.methods)))

  bare-slots : (ks : List ℕ) (k : ℕ) → IfSome (slice_index_or (map (bare_slot p) ks) k None) (IsBare p)
  bare-slots [] k = tt
  bare-slots (m ∷ ks) zero = λ none. sym (ap (bare_version p) (original-method p m))
  bare-slots (m ∷ ks) (suc k) = bare-slots ks k

  pub first-bare : AreBare p (bare_versions p)
  first-bare = record { each = λ k. bare-slots (range_with_len 0 (length p.methods)) k }

  -- each method begins in its own
  pub bare-first : length p.methods ≤ 4294967296 → IsFirst (bare_versions p).slots (bare_versions p).current
  bare-first few =
      let first : IsFirst (original_versions p).slots (original_versions p).current = original-first p few in
      let same : (with_lines p (bare_versions p)).slots ≡ (original_versions p).slots = ap (λ (v : Versions). v.slots) first-versions in
      let method : (k : ℕ) → method_in (original_versions p).slots k ≡ method_in (bare_versions p).slots k =
      λ k. sym (ap (λ xs. method_in xs k) same) ∙ method-made (bare_versions p) k in
      let many : length (bare_versions p).slots ≡ length (original_versions p).slots =
      sym (length-map (bare_versions p).slots (option_map (made_by p))) ∙ ap (λ (xs : List (Option Version)). length xs) same in
      record {
        own = λ m. own-first method (current_in (bare_versions p).current m) m (first.own m);
        methods = many ∙ first.methods;
        few = subst (λ n. n ≤ 4294967296) (sym many) first.few;
        alone = λ k. ap (is_old (bare_versions p).current k) (sym (method k)) ∙ first.alone k;
      }
    where
      own-first : ((k : ℕ) → method_in (original_versions p).slots k ≡ method_in (bare_versions p).slots k) → (o : Option ℕ) (m : ℕ)
          → IfSome o (λ n. method_in (original_versions p).slots n ≡ Some m) → IfSome o (λ n. method_in (bare_versions p).slots n ≡ Some m)
      own-first method None m is = tt
      own-first method (Some n) m is = sym (method n) ∙ is

-- ---- what is found in a table

module _ (p : Program) (v : Versions) where
  pub seen-line : AreBare p v → (k place : ℕ) (r : Option (Bor Line)) → option_copied r ≡ line_at v k place → IfSome r (λ l. line_at (with_lines p v) k place ≡ Some l.now)
  seen-line bare k place None found = tt
  seen-line bare k place (Some l) found = line-made p v bare k place l.now (sym found)

  pub seen-family : AreBare p v → HasLines (with_lines p v) → (k place : ℕ) (r : Option (Bor Line)) → option_copied r ≡ line_at v k place
      → IfSome r (λ l. l.now.family ≡ family_of l.now.instr.op)
  seen-family bare lines k place None found = tt
  seen-family bare lines k place (Some l) found =
      (subst (λ (o : Option Line). IfSome o IsPreparedLine) (line-made p v bare k place l.now (sym found)) (lines.prepared k place)).family

  -- a version of the table has the lines that are seen
  pub are-prepared : HasLines (with_lines p v) → (k : ℕ) (x : Version) → version_at (with_lines p v) k ≡ Some x → ArePrepared x
  are-prepared lines k x there place = subst (λ (o : Option Version). IfSome (option_and_then (line_in place) o) IsPreparedLine) there (lines.prepared k place)
