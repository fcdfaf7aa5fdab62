-- The mark that is told by what is kept is the mark that stands; and what each event changes.
use Rattle.std.proofs.Common.{◌≡◌, ℕ, ◌<◌, Bool, true, false, List, [], ◌∷◌, ◌++◌, length, ap, sym, subst, refl, ◌∙◌, inl, inr}
use Rattle.std.specs.Prelude.{Option, Some, None, is_some, not, slice_set, unwrap_or, ◌==◌, ◌||◌, ◌&&◌}
use Rattle.std.specs.Option.{option_map_or}
use Rattle.std.proofs.lemmas.Bool.{false≢true, or_cases, or_left, or_parts, eqb-true}
use Rattle.std.proofs.Math.Bool.{and-true, or-false}
use Rattle.jf_bytes.proofs.Lists.{slice_get-set_same}
use Rattle.jvm_model.specs.declared.program.MethodPlace.{MethodPlace}
use Rattle.jvm_model.specs.declared.program.Program.{Program}
use Rattle.jvm_model.specs.Classes.Load.{is_among}
use Rattle.jvm_model.specs.Profiling.Points.{has_class, is_target}
use Rattle.jvm_model.specs.Basis.Programs.{place_of_method}
use Rattle.jvm_model.specs.Profiling.Revealed.{mark_of, without_method}
use Rattle.jvm_model.specs.Soundness.Sound.{HasClass, HasSupertypes}
use Rattle.jvm_model.specs.Profiling.Targets.{operations_of, targets_in}
use Rattle.jvm_model.proofs.Loading.Among.{among-append}
use Rattle.class_linker.specs.Linkers.{IsLoaded, LinkerView}
use Rattle.possible_callees.specs.declared.lineage.Lineage.{Lineage}
use Rattle.possible_callees.specs.Lineages.{IsLineage}
use Rattle.possible_callees.specs.Tables.{Adds, IsPrefix, list_at}
use Rattle.possible_callees.proofs.Numbers.Adding.{among-filter, among-with}
use Rattle.possible_callees.proofs.Numbers.TableLemmas.{set-length, set-other}
use Rattle.possible_callees.proofs.Numbers.Fronts.{front-among}
use Rattle.call_revelation.specs.declared.book.Book.{Book}
use Rattle.call_revelation.specs.declared.named.Named.{Named}
use Rattle.call_revelation.specs.declared.reveal.Reveal.{Reveal}
use Rattle.call_revelation.specs.Books.{IsBookOf, code_at, methods_gathered}
use Rattle.call_revelation.specs.CalledClasses.{AreHanded, HasCalled, HasUppers}
use Rattle.call_revelation.specs.Flags.{flag_at}
use Rattle.call_revelation.specs.Reveals.{IsAhead, IsKept, IsRevelation, mark_by, mark_kept, now_of}
use Rattle.class_index.specs.Orders.{with_class}
use Rattle.call_revelation.proofs.Classes.LoadStep.{load-step}

pub mark-is : (p : Program) (r : Reveal) → IsRevelation p r → (m : ℕ) → mark_kept p r m ≡ mark_of p (now_of r) m
mark-is p r is m = ap (λ t. mark_by (has_class p r.lineage.loaded m) (is_among m r.selected) t) (is.targets m)

-- ---- a class is loaded more

class-kept : (p : Program) (loaded : List ℕ) (new m : ℕ) → HasClass p loaded m → HasClass p (loaded ++ new ∷ []) m
class-kept p loaded new m has place e =
    among-append place.class loaded (new ∷ []) ∙ or_left (is_among place.class loaded) (is_among place.class (new ∷ [])) (has place e)

pub kept-loaded : (p : Program) (r : Reveal) (new : ℕ) (lineage : Lineage) → IsKept p r → IsLineage p lineage → lineage.loaded ≡ r.lineage.loaded ++ new ∷ []
    → AreHanded p (r.lineage.loaded ++ new ∷ []) r.named → IsKept p (record r { lineage = lineage })
kept-loaded p r new lineage is lined loaded handed = record {
  fit = is.fit;
  short = is.short;
  numbers = is.numbers;
  own = is.own;
  lineage = lined;
  book = is.book;
  flags = is.flags;
  flagged = is.flagged;
  marked = is.marked;
  booked = is.booked;
  callers = λ m h. subst (λ l. HasClass p l m) (sym loaded) (class-kept p r.lineage.loaded new m (is.callers m h));
  named = subst (λ l. AreHanded p l r.named) (sym loaded) handed;
  called = is.called;
}

-- or_parts targets nor what is stale matter
pub kept-other : (p : Program) (r : Reveal) (targets stale : List ℕ) → IsKept p r → IsKept p (record r { targets = targets; stale = stale })
kept-other p r targets stale is = record {
  fit = is.fit;
  short = is.short;
  numbers = is.numbers;
  own = is.own;
  lineage = is.lineage;
  book = is.book;
  flags = is.flags;
  flagged = is.flagged;
  marked = is.marked;
  booked = is.booked;
  callers = is.callers;
  named = is.named;
  called = is.called;
}

-- more was read
pub kept-read : (p : Program) (r : Reveal) (book : Book) → IsKept p r → IsBookOf p book
    → ((m : ℕ) → is_some (code_at r.book.codes m) ≡ true → is_some (code_at book.codes m) ≡ true) → IsKept p (record r { book = book })
kept-read p r book is booked codes = record {
  fit = is.fit;
  short = is.short;
  numbers = is.numbers;
  own = is.own;
  lineage = is.lineage;
  book = booked;
  flags = is.flags;
  flagged = is.flagged;
  marked = is.marked;
  booked = λ m h. codes m (is.booked m h);
  callers = is.callers;
  named = is.named;
  called = is.called;
}

-- calls name more classes, or a class has more above it
pub kept-named : (p : Program) (r : Reveal) (named : Named) → IsKept p r → AreHanded p r.lineage.loaded named
    → ((class : ℕ) → is_among class r.named.classes ≡ true → is_among class named.classes ≡ true) → IsKept p (record r { named = named })
kept-named p r named is handed more = record {
  fit = is.fit;
  short = is.short;
  numbers = is.numbers;
  own = is.own;
  lineage = is.lineage;
  book = is.book;
  flags = is.flags;
  flagged = is.flagged;
  marked = is.marked;
  booked = is.booked;
  callers = is.callers;
  named = handed;
  called = λ m h class there. more class (is.called m h class there);
}

pub named-more : (p : Program) (r : Reveal) (named : Named) → IsRevelation p r → AreHanded p r.lineage.loaded named
    → ((class : ℕ) → is_among class r.named.classes ≡ true → is_among class named.classes ≡ true) → IsRevelation p (record r { named = named })
named-more p r named is handed more = record { kept = kept-named p r named is.kept handed more; targets = is.targets; shown = is.shown }

pub ahead-more : (l : LinkerView) (r : Reveal) (new : ℕ) (next : Reveal) → IsAhead l r → IsLoaded l new → next.lineage.loaded ≡ r.lineage.loaded ++ new ∷ []
    → IsAhead l next
ahead-more l r new next ahead there loaded = record {
  loaded = λ class h. elim (or_cases (is_among class r.lineage.loaded) (is_among class (new ∷ [])) (sym (among-append class r.lineage.loaded (new ∷ [])) ∙ (sym (ap (is_among class) loaded) ∙ h))) [
    | inl old ↦ ahead.loaded class old
    | inr same ↦ ap (λ c. is_among c l.loaded) (eqb-true class new (sym (or-false (class == new)) ∙ same)) ∙ there
  ];
  root = ahead.root;
}

-- a method of another class is no more loaded than it was
other-class : (p : Program) (own : List (List ℕ)) (loaded : List ℕ) (new m : ℕ)
    → ((place : MethodPlace) → place_of_method p m ≡ Some place → is_among m (list_at own place.class) ≡ true) → is_among m (list_at own new) ≡ false
    → has_class p (loaded ++ new ∷ []) m ≡ has_class p loaded m
other-class p own loaded new m owned none = by (place_of_method p m) refl
  where
    test : (place : MethodPlace) (b : Bool) → place_of_method p m ≡ Some place → (place.class == new) ≡ b
        → is_among place.class (loaded ++ new ∷ []) ≡ is_among place.class loaded
    test place true e same =
        absurd (false≢true (sym none ∙ (ap (λ c. is_among m (list_at own c)) (sym (eqb-true place.class new same)) ∙ owned place e)))
    test place false e other =
        among-append place.class loaded (new ∷ []) ∙ (ap (λ b. is_among place.class loaded || (b || false)) other ∙ or-false (is_among place.class loaded))

    by : (o : Option MethodPlace) → place_of_method p m ≡ o
        → option_map_or (λ (place : MethodPlace). is_among place.class (loaded ++ new ∷ [])) o false ≡ option_map_or (λ (place : MethodPlace). is_among place.class loaded) o false
    by None e = refl
    by (Some place) e = test place (place.class == new) e refl

module _ (p : Program) (r : Reveal) (is : IsRevelation p r) (new : ℕ) (above : HasSupertypes p r.lineage.loaded) (fresh : is_among new r.lineage.loaded ≡ false)
    (lineage : Lineage) (lined : IsLineage p lineage) (loaded : lineage.loaded ≡ r.lineage.loaded ++ new ∷ [])
    (handed : AreHanded p (r.lineage.loaded ++ new ∷ []) r.named) (uppers : List ℕ) (whole : HasUppers p r.entered new uppers)
    (found targets stale first : List ℕ)
    (adds : (m : ℕ) → is_among m found
    ≡ is_among m (methods_gathered p r.lineage.loaded new r.entered r.book.codes r.book.waiting.items r.book.calls.items uppers))
    (targeted : Adds r.targets targets found) (staled : Adds r.stale first found) (owned : Adds first stale (list_at r.own.items new)) where
  -- the targets with the class
  target-more : (m : ℕ) → is_target p (operations_of p) (r.lineage.loaded ++ new ∷ []) r.entered m
      ≡ (is_target p (operations_of p) r.lineage.loaded r.entered m || is_among m found)
  target-more m =
      load-step p r.book.codes r.book.waiting.items r.book.calls.items is.kept.book r.entered r.lineage.loaded new above fresh is.kept.booked uppers whole m
      ∙ ap (λ t. is_target p (operations_of p) r.lineage.loaded r.entered m || t) (sym (adds m))

  not-stale : (m : ℕ) → is_among m stale ≡ false → (is_among m r.stale ≡ false) × ((is_among m found ≡ false) × (is_among m (list_at r.own.items new) ≡ false))
  not-stale m none =
      let one = or_parts (is_among m first) (is_among m (list_at r.own.items new)) (sym (owned m) ∙ none) in
      let two = or_parts (is_among m r.stale) (is_among m found) (sym (staled m) ∙ one.0) in
      (two.0, (two.1, one.1))

  still-marked : (m : ℕ) → is_among m stale ≡ false
      → mark_of p (record { selected = r.selected; entered = r.entered; loaded = r.lineage.loaded ++ new ∷ [] }) m ≡ mark_of p (now_of r) m
  still-marked m none =
      let old = not-stale m none in
      ap (λ b. mark_by b (is_among m r.selected) (is_target p (operations_of p) (r.lineage.loaded ++ new ∷ []) r.entered m))
      (other-class p r.own.items r.lineage.loaded new m (is.kept.own m) old.1.1)
      ∙ ap (λ t. mark_by (has_class p r.lineage.loaded m) (is_among m r.selected) t)
      (target-more m ∙ (ap (λ t. is_target p (operations_of p) r.lineage.loaded r.entered m || t) old.1.0 ∙ or-false (is_target p (operations_of p) r.lineage.loaded r.entered m)))

  pub loaded-more : IsRevelation p (record r { lineage = lineage; targets = targets; stale = stale })
  loaded-more = record {
    kept = kept-other p (record r { lineage = lineage }) targets stale (kept-loaded p r new lineage is.kept lined loaded handed);
    targets = λ m.
        targeted m ∙ (ap (λ t. t || is_among m found) (is.targets m)
        ∙ (sym (target-more m) ∙ ap (λ l. is_target p (operations_of p) l r.entered m) (sym loaded)));
    shown = λ m none.
        is.shown m (not-stale m none).0
        ∙ (sym (still-marked m none) ∙ ap (λ l. mark_of p (record { selected = r.selected; entered = r.entered; loaded = l }) m) (sym loaded));
  }

-- ---- a method is entered

module _ (p : Program) (r : Reveal) (is : IsRevelation p r) (method : ℕ) (within : method < length p.methods) (has : HasClass p r.lineage.loaded method)
    (book : Book) (booked : IsBookOf p book) (codes : (m : ℕ) → is_some (code_at r.book.codes m) ≡ true → is_some (code_at book.codes m) ≡ true)
    (read : is_some (code_at book.codes method) ≡ true) (calls : HasCalled p r.named method) (found targets stale : List ℕ)
    (adds : (m : ℕ) → is_among m found ≡ is_among m (targets_in p r.lineage.loaded (operations_of p method)))
    (targeted : Adds r.targets targets found) (staled : Adds r.stale stale found) where
  abbrev entered : List ℕ
  entered = method ∷ r.entered

  if-entered : (P : ℕ → Type 0) (m : ℕ) → is_among m entered ≡ true → P method → (is_among m r.entered ≡ true → P m) → P m
  if-entered P m h first behind =
      elim (or_cases (m == method) (is_among m r.entered) h) [
        | inl same ↦ subst P (sym (eqb-true m method same)) first
        | inr there ↦ behind there
      ]

  flags-more : (m : ℕ) → flag_at (slice_set r.flags method true) m ≡ is_among m entered
  flags-more m = by (m == method) refl
    where
      by : (b : Bool) → (m == method) ≡ b → flag_at (slice_set r.flags method true) m ≡ (b || is_among m r.entered)
      by true e =
          ap (λ k. flag_at (slice_set r.flags method true) k) (eqb-true m method e)
          ∙ ap (λ (o : Option Bool). unwrap_or o false) (slice_get-set_same r.flags method true (subst (λ n. method < n) (sym is.kept.flagged) within))
      by false e = ap (λ (o : Option Bool). unwrap_or o false) (set-other r.flags method m true e) ∙ is.kept.flags m

  target-too : (m : ℕ) → is_target p (operations_of p) r.lineage.loaded entered m ≡ (is_target p (operations_of p) r.lineage.loaded r.entered m || is_among m found)
  target-too m =
      swapped (is_among m (targets_in p r.lineage.loaded (operations_of p method))) (is_target p (operations_of p) r.lineage.loaded r.entered m)
      ∙ ap (λ t. is_target p (operations_of p) r.lineage.loaded r.entered m || t) (sym (adds m))
    where
      swapped : (a b : Bool) → (a || b) ≡ (b || a)
      swapped true true = refl
      swapped true false = refl
      swapped false true = refl
      swapped false false = refl

  pub entered-more : IsRevelation p (record r { book = book; entered = entered; flags = slice_set r.flags method true; targets = targets; stale = stale })
  entered-more = record {
    kept = record {
      fit = is.kept.fit;
      short = is.kept.short;
      numbers = is.kept.numbers;
      own = is.kept.own;
      lineage = is.kept.lineage;
      book = booked;
      flags = flags-more;
      flagged = set-length r.flags method true ∙ is.kept.flagged;
      marked = is.kept.marked;
      booked = λ m h. if-entered (λ k. is_some (code_at book.codes k) ≡ true) m h read (λ there. codes m (is.kept.booked m there));
      callers = λ m h. if-entered (λ k. HasClass p r.lineage.loaded k) m h has (λ there. is.kept.callers m there);
      named = is.kept.named;
      called = λ m h. if-entered (λ k. HasCalled p r.named k) m h calls (λ there. is.kept.called m there);
    };
    targets = λ m. targeted m ∙ (ap (λ t. t || is_among m found) (is.targets m) ∙ sym (target-too m));
    shown = λ m none.
        let old = or_parts (is_among m r.stale) (is_among m found) (sym (staled m) ∙ none) in
        is.shown m old.0
        ∙ ap (λ t. mark_by (has_class p r.lineage.loaded m) (is_among m r.selected) t)
        (sym (target-too m ∙ (ap (λ t. is_target p (operations_of p) r.lineage.loaded r.entered m || t) old.1 ∙ or-false (is_target p (operations_of p) r.lineage.loaded r.entered m))));
  }

-- ---- a method is selected, or no more

-- kept with other lists of what is selected and stale
pub reselected : (p : Program) (r : Reveal) → IsRevelation p r → (selected stale : List ℕ)
    → ((m : ℕ) → is_among m stale ≡ false → (is_among m r.stale ≡ false) × (is_among m selected ≡ is_among m r.selected))
    → IsRevelation p (record r { selected = selected; stale = stale })
reselected p r is selected stale same = record {
  kept = record {
    fit = is.kept.fit;
    short = is.kept.short;
    numbers = is.kept.numbers;
    own = is.kept.own;
    lineage = is.kept.lineage;
    book = is.kept.book;
    flags = is.kept.flags;
    flagged = is.kept.flagged;
    marked = is.kept.marked;
    booked = is.kept.booked;
    callers = is.kept.callers;
    named = is.kept.named;
    called = is.kept.called;
  };
  targets = is.targets;
  shown = λ m none.
      is.shown m (same m none).0
      ∙ ap (λ s. mark_by (has_class p r.lineage.loaded m) s (is_target p (operations_of p) r.lineage.loaded r.entered m)) (sym (same m none).1);
}

-- another method is among the others
pub among-others : (method m : ℕ) (methods : List ℕ) → (m == method) ≡ false → is_among m (without_method method methods) ≡ is_among m methods
among-others method m methods other =
    among-filter (λ x. not (x == method)) methods m ∙ (ap (λ b. is_among m methods && not b) other ∙ and-true (is_among m methods))

pub selected-more : (p : Program) (r : Reveal) → IsRevelation p r → (method : ℕ) (selected stale : List ℕ) → stale ≡ with_class r.stale method
    → ((m : ℕ) → (m == method) ≡ false → is_among m selected ≡ is_among m r.selected) → IsRevelation p (record r { selected = selected; stale = stale })
selected-more p r is method selected stale staled others = reselected p r is selected stale (λ m none. each m none)
  where
    each : (m : ℕ) → is_among m stale ≡ false → (is_among m r.stale ≡ false) × (is_among m selected ≡ is_among m r.selected)
    each m none =
        let both = or_parts (is_among m r.stale) (m == method) (sym (among-with m r.stale method) ∙ (sym (ap (is_among m) staled) ∙ none)) in
        (both.0, others m both.1)

pub others-with : (method m : ℕ) (selected methods : List ℕ) → selected ≡ method ∷ without_method method methods → (m == method) ≡ false
    → is_among m selected ≡ is_among m methods
others-with method m selected methods e other =
    ap (is_among m) e ∙ (ap (λ b. b || is_among m (without_method method methods)) other ∙ among-others method m methods other)

pub others-without : (method m : ℕ) (selected methods : List ℕ) → selected ≡ without_method method methods → (m == method) ≡ false
    → is_among m selected ≡ is_among m methods
others-without method m selected methods e other = ap (is_among m) e ∙ among-others method m methods other

-- ---- a quiet point

pub quieted : (p : Program) (r : Reveal) → IsRevelation p r → (flags : List Bool) (stale : List ℕ) → length flags ≡ length r.flags → ((m : ℕ) → flag_at flags m ≡ false)
    → Adds r.stale stale r.targets → IsRevelation p (record r { entered = []; flags = flags; targets = []; stale = stale })
quieted p r is flags stale long off staled = record {
  kept = record {
    fit = is.kept.fit;
    short = is.kept.short;
    numbers = is.kept.numbers;
    own = is.kept.own;
    lineage = is.kept.lineage;
    book = is.kept.book;
    flags = off;
    flagged = long ∙ is.kept.flagged;
    marked = is.kept.marked;
    booked = λ m h. absurd (false≢true h);
    callers = λ m h. absurd (false≢true h);
    named = is.kept.named;
    called = λ m h. absurd (false≢true h);
  };
  targets = λ m. refl;
  shown = λ m none.
      let old = or_parts (is_among m r.stale) (is_among m r.targets) (sym (staled m) ∙ none) in
      is.shown m old.0
      ∙ ap (λ t. mark_by (has_class p r.lineage.loaded m) (is_among m r.selected) t) (sym (is.targets m) ∙ old.1);
}

-- more that is stale does no harm
pub staler : (p : Program) (r : Reveal) → IsRevelation p r → (stale : List ℕ) → IsPrefix r.stale stale → IsRevelation p (record r { stale = stale })
staler p r is stale front = reselected p r is r.selected stale (λ m none. (before m none (is_among m r.stale) refl, refl))
  where
    before : (m : ℕ) → is_among m stale ≡ false → (b : Bool) → is_among m r.stale ≡ b → is_among m r.stale ≡ false
    before m none false e = e
    before m none true e = absurd (false≢true (sym none ∙ front-among r.stale stale m front e))
