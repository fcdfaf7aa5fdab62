-- What a call leaves that stops can be cut back to what there was.
use Rattle.std.proofs.Common.{◌≡◌, ℕ, Bool, true, false, List, length, take, ap, sym, subst, refl, ◌∙◌}
use Rattle.std.specs.Prelude.{is_some, Result, Ok, Err, OnErr}
use Rattle.std.proofs.lemmas.Bool.{false≢true}
use Rattle.jvm_model.specs.declared.program.Program.{Program}
use Rattle.jvm_model.specs.Classes.Load.{is_among}
use Rattle.possible_callees.specs.declared.lineage.Lineage.{Lineage}
use Rattle.possible_callees.specs.Lineages.{IsLineage}
use Rattle.possible_callees.specs.Tables.{IsPrefix}
use Rattle.possible_callees.proofs.Numbers.Fronts.{front-among, front-self, front-take, front-then}
use Rattle.call_revelation.specs.declared.book.Book.{Book}
use Rattle.call_revelation.specs.declared.named.Named.{Named}
use Rattle.call_revelation.specs.declared.reveal.Reveal.{Reveal}
use Rattle.call_revelation.specs.Books.{IsBookOf, code_at}
use Rattle.call_revelation.specs.CalledClasses.{AreHanded}
use Rattle.call_revelation.specs.Reveals.{IsGrown, IsKept, IsRevelation, now_of}
use Rattle.call_revelation.proofs.References.CalledLemmas.{fewer-handed}

pub grown-self : (p : Program) (r : Reveal) → IsKept p r → IsGrown p r r
grown-self p r is = record {
  lineage = is.lineage;
  book = is.book;
  codes = λ m h. h;
  named = is.named;
  called = λ class h. h;
  loaded = front-self r.lineage.loaded;
  targets = front-self r.targets;
  stale = front-self r.stale;
  same = refl;
}

pub grown-then : (p : Program) (a b c : Reveal) → IsGrown p a b → IsGrown p b c → IsGrown p a c
grown-then p a b c first second = record {
  lineage = second.lineage;
  book = second.book;
  codes = λ m h. second.codes m (first.codes m h);
  named = second.named;
  called = λ class h. second.called class (first.called class h);
  loaded = front-then a.lineage.loaded b.lineage.loaded c.lineage.loaded first.loaded second.loaded;
  targets = front-then a.targets b.targets c.targets first.targets second.targets;
  stale = front-then a.stale b.stale c.stale first.stale second.stale;
  same = second.same ∙ ap (λ (r : Reveal). record r { lineage = c.lineage; book = c.book; named = c.named; targets = c.targets; stale = c.stale }) first.same;
}

pub grown-lineage : (p : Program) (old new : Reveal) → IsKept p old → new ≡ (record old { lineage = new.lineage }) → IsLineage p new.lineage
    → IsPrefix old.lineage.loaded new.lineage.loaded → AreHanded p new.lineage.loaded old.named → IsGrown p old new
grown-lineage p old new kept same lineage front handed = subst (IsGrown p old) (sym same) (record {
  lineage = lineage;
  book = kept.book;
  codes = λ m h. h;
  named = handed;
  called = λ class h. h;
  loaded = front;
  targets = front-self old.targets;
  stale = front-self old.stale;
  same = refl;
})

pub grown-book : (p : Program) (old : Reveal) (book : Book) → IsKept p old → IsBookOf p book
    → ((m : ℕ) → is_some (code_at old.book.codes m) ≡ true → is_some (code_at book.codes m) ≡ true) → IsGrown p old (record old { book = book })
grown-book p old book kept booked codes = record {
  lineage = kept.lineage;
  book = booked;
  codes = codes;
  named = kept.named;
  called = λ class h. h;
  loaded = front-self old.lineage.loaded;
  targets = front-self old.targets;
  stale = front-self old.stale;
  same = refl;
}

-- calls name more classes, or a class has more above it
pub grown-named : (p : Program) (old : Reveal) (named : Named) → IsKept p old → AreHanded p old.lineage.loaded named
    → ((class : ℕ) → is_among class old.named.classes ≡ true → is_among class named.classes ≡ true) → IsGrown p old (record old { named = named })
grown-named p old named kept handed more = record {
  lineage = kept.lineage;
  book = kept.book;
  codes = λ m h. h;
  named = handed;
  called = more;
  loaded = front-self old.lineage.loaded;
  targets = front-self old.targets;
  stale = front-self old.stale;
  same = refl;
}

pub grown-read : (p : Program) (old : Reveal) (book : Book) (named : Named) → IsKept p old → IsBookOf p book
    → ((m : ℕ) → is_some (code_at old.book.codes m) ≡ true → is_some (code_at book.codes m) ≡ true) → AreHanded p old.lineage.loaded named
    → ((class : ℕ) → is_among class old.named.classes ≡ true → is_among class named.classes ≡ true)
    → IsGrown p old (record old { book = book; named = named })
grown-read p old book named kept booked codes handed more = record {
  lineage = kept.lineage;
  book = booked;
  codes = codes;
  named = handed;
  called = more;
  loaded = front-self old.lineage.loaded;
  targets = front-self old.targets;
  stale = front-self old.stale;
  same = refl;
}

-- more targets, and more that is stale
pub grown-more : (p : Program) (old mid : Reveal) (targets stale : List ℕ) → IsGrown p old mid → IsPrefix mid.targets targets → IsPrefix mid.stale stale
    → IsGrown p old (record mid { targets = targets; stale = stale })
grown-more p old mid targets stale grown first second =
    grown-then p old mid (record mid { targets = targets; stale = stale }) grown (record {
      lineage = grown.lineage;
      book = grown.book;
      codes = λ m h. h;
      named = grown.named;
      called = λ class h. h;
      loaded = front-self mid.lineage.loaded;
      targets = first;
      stale = second;
      same = refl;
    })

not-before : (a b : List ℕ) (m : ℕ) → IsPrefix a b → is_among m b ≡ false → is_among m a ≡ false
not-before a b m front none = by (is_among m a) refl
  where
    by : (t : Bool) → is_among m a ≡ t → is_among m a ≡ false
    by false e = e
    by true e = absurd (false≢true (sym none ∙ front-among a b m front e))

-- with fewer classes loaded
abbrev pub cut_lineage : Lineage → List ℕ → Lineage
cut_lineage v loaded = record { loaded = loaded; below = v.below }

module _ (p : Program) (old : Reveal) (is : IsRevelation p old) (lineage : Lineage) (book : Book) (named : Named) (stale : List ℕ)
    (lined : IsLineage p lineage) (front : IsPrefix old.lineage.loaded lineage.loaded) (booked : IsBookOf p book)
    (codes : (m : ℕ) → is_some (code_at old.book.codes m) ≡ true → is_some (code_at book.codes m) ≡ true) (handed : AreHanded p lineage.loaded named)
    (called : (class : ℕ) → is_among class old.named.classes ≡ true → is_among class named.classes ≡ true) (staled : IsPrefix old.stale stale) where
  abbrev back : Reveal
  back = record old { lineage = cut_lineage lineage old.lineage.loaded; book = book; named = named; stale = stale }

  pub cut-back : IsRevelation p back
  cut-back = record {
    kept = record {
      fit = is.kept.fit;
      short = is.kept.short;
      numbers = is.kept.numbers;
      own = is.kept.own;
      lineage = record {
        places = lined.places;
        whole = λ class lower classes within there. lined.whole class lower classes within (front-among old.lineage.loaded lineage.loaded lower front there);
      };
      book = booked;
      flags = is.kept.flags;
      flagged = is.kept.flagged;
      marked = is.kept.marked;
      booked = λ m h. codes m (is.kept.booked m h);
      callers = is.kept.callers;
      named = fewer-handed p old.lineage.loaded lineage.loaded named (λ x h. front-among old.lineage.loaded lineage.loaded x front h) handed;
      called = λ m h class there. called class (is.kept.called m h class there);
    };
    targets = is.targets;
    shown = λ m none. is.shown m (not-before old.stale stale m staled none);
  }

-- and so whatever is kept by a call that stopped
pub gone-back : (p : Program) (old new : Reveal) → IsRevelation p old → IsGrown p old new
    → IsRevelation p (record new { lineage = cut_lineage new.lineage (take (length old.lineage.loaded) new.lineage.loaded); targets = take (length old.targets) new.targets })
gone-back p old new is grown =
    let rest : IsRevelation p (record old { lineage = cut_lineage new.lineage old.lineage.loaded; book = new.book; named = new.named; stale = new.stale }) =
    cut-back p old is new.lineage new.book new.named new.stale grown.lineage grown.loaded grown.book grown.codes grown.named grown.called grown.stale in
    subst (IsRevelation p) (back-is) rest
  where
    back-is : (record old { lineage = cut_lineage new.lineage old.lineage.loaded; book = new.book; named = new.named; stale = new.stale })
        ≡ (record new { lineage = cut_lineage new.lineage (take (length old.lineage.loaded) new.lineage.loaded); targets = take (length old.targets) new.targets })
    back-is =
        ap (λ (l : List ℕ). record old { lineage = cut_lineage new.lineage l; book = new.book; named = new.named; stale = new.stale }) (sym (front-take old.lineage.loaded new.lineage.loaded grown.loaded))
        ∙ (ap (λ (t : List ℕ). record old { lineage = cut_lineage new.lineage (take (length old.lineage.loaded) new.lineage.loaded); book = new.book; named = new.named; targets = t; stale = new.stale })
        (sym (front-take old.targets new.targets grown.targets))
        ∙ sym (ap (λ (r : Reveal). record r { lineage = cut_lineage new.lineage (take (length old.lineage.loaded) new.lineage.loaded); targets = take (length old.targets) new.targets }) grown.same))

-- nothing else is another
pub back-same : (old new : Reveal) (lineage : Lineage) (targets : List ℕ) → lineage.loaded ≡ old.lineage.loaded
    → new ≡ (record old { lineage = new.lineage; book = new.book; named = new.named; targets = new.targets; stale = new.stale })
    → now_of (record new { lineage = lineage; targets = targets }) ≡ now_of old
back-same old new lineage targets loaded same =
    ap (λ (r : Reveal). now_of (record r { lineage = lineage; targets = targets })) same
    ∙ ap (λ (l : List ℕ). record { selected = old.selected; entered = old.entered; loaded = l }) loaded

pub went-back : (p : Program) (old mid new : Reveal) (n k : ℕ) → IsRevelation p old → IsGrown p old mid → n ≡ length old.lineage.loaded → k ≡ length old.targets
    → new ≡ (record mid { lineage = cut_lineage mid.lineage (take n mid.lineage.loaded); targets = take k mid.targets }) → IsRevelation p new
went-back p old mid new n k is grown first second e =
    subst (IsRevelation p) (sym (e
    ∙ (ap (λ (n : ℕ). record mid { lineage = cut_lineage mid.lineage (take n mid.lineage.loaded); targets = take k mid.targets }) first
    ∙ ap (λ (k : ℕ). record mid { lineage = cut_lineage mid.lineage (take (length old.lineage.loaded) mid.lineage.loaded); targets = take k mid.targets }) second)))
    (gone-back p old mid is grown)

pub if-err : {A E : Type 0} (r : Result A E) (P : Type 0) → P → OnErr r P
if-err (Ok x) P h = tt
if-err (Err e) P h = h
