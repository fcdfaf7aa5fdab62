-- What happens leaves a scene ready.
use Rattle.std.proofs.Common.{◌≡◌, ℕ, ◌+◌, List, [], true, add-one, ap, sym, subst, refl, ◌∙◌}
use Rattle.std.specs.Prelude.{Result, Ok, Err, OnOk}
use Rattle.jvm_model.specs.declared.program.Program.{Program}
use Rattle.jvm_model.specs.Profiling.Points.{has_class}
use Rattle.jvm_model.specs.Profiling.Revealed.{Revealed, marks_of, with_loaded, with_method_entered}
use Rattle.class_linker.specs.Linkers.{LinkerView, linker_of}
use Rattle.program_fit.specs.Runnable.{IsAdmitted}
use Rattle.possible_callees.specs.Tables.{IsPrefix}
use Rattle.call_revelation.specs.declared.reveal.Reveal.{Reveal}
use Rattle.call_revelation.specs.Reveals.{IsRevelation, nothing_revealed, now_of}
use Rattle.played_rows.specs.declared.revelation.item.Happening.{Happening}
use Rattle.played_rows.specs.declared.revelation.item.Happening.TheVariants.{Entered, Loaded, Shown}
use Rattle.played_rows.specs.Revelation.Rows.{entered_often, revealed_by}
use Rattle.played_rows.specs.Revelation.Scenes.{HasHappened, IsBlank, IsFollowed, IsFresh, IsLinked, IsReady, loading, marks_shown, methods_revealed}
use Rattle.played_rows.proofs.RevelationLemmas.SceneLemmas.{followed, nothing-along}

still-ready : (l : LinkerView) (old new : Reveal) → IsReady l old → IsRevelation l.program new → (now_of new).loaded ≡ (now_of old).loaded → IsReady l new
still-ready l old new is revelation loaded = record {
  along = record {
    admitted = is.along.admitted;
    revelation = revelation;
    prefix = subst (λ xs. IsPrefix xs l.loaded) (sym loaded) is.along.prefix;
    order = is.along.order;
  };
  root = is.root;
}

-- where the loaded classes stay, and no mark is shown
happened : (happening : Happening) (l : LinkerView) (old new : Reveal) → IsReady l old → IsRevelation l.program new
    → (revealed_by l.program happening (now_of old)).loaded ≡ (now_of old).loaded
    → with_loaded l.loaded (revealed_by l.program happening (now_of old)) ≡ revealed_by l.program happening (methods_revealed l old)
    → now_of new ≡ revealed_by l.program happening (now_of old) → new.shown ≡ marks_shown happening l old → HasHappened happening l old l new
happened happening l old new is revelation same behind now shown = record {
  ready = still-ready l old new is revelation (ap (λ (n : Revealed). n.loaded) now ∙ same);
  program = refl;
  now = ap (with_loaded l.loaded) now ∙ behind;
  shown = shown;
}

pub if-happened : {E : Type 0} (happening : Happening) (l : LinkerView) (old new : Reveal) (result : Result (Unit {0}) E) → IsReady l old → IsRevelation l.program new
    → (revealed_by l.program happening (now_of old)).loaded ≡ (now_of old).loaded
    → with_loaded l.loaded (revealed_by l.program happening (now_of old)) ≡ revealed_by l.program happening (methods_revealed l old)
    → OnOk result (now_of new ≡ revealed_by l.program happening (now_of old)) → new.shown ≡ marks_shown happening l old
    → OnOk result (HasHappened happening l old l new)
if-happened happening l old new (Ok done) is revelation same behind now shown = happened happening l old new is revelation same behind now shown
if-happened happening l old new (Err error) is revelation same behind now shown = tt

-- marks are shown behind what the revelation takes
pub shows : (l : LinkerView) (old mid new : Reveal) → IsFollowed l old mid → IsRevelation l.program new → now_of new ≡ now_of mid
    → new.shown ≡ marks_of l.program (now_of mid) → HasHappened Shown l old l new
shows l old mid new by revelation now shown = record {
  ready = still-ready l mid new by.ready revelation (ap (λ (n : Revealed). n.loaded) now);
  program = refl;
  now = ap (with_loaded l.loaded) (now ∙ by.now);
  shown = shown ∙ ap (marks_of l.program) by.now;
}

-- ---- classes are loaded

pub if-followed : {E : Type 0} (l : LinkerView) (old new : Reveal) (result : Result (Unit {0}) E) → IsReady l old → IsRevelation l.program new
    → OnOk result (now_of new ≡ with_loaded l.loaded (now_of old)) → new.shown ≡ old.shown → OnOk result (IsFollowed l old new)
if-followed l old new (Ok done) is revelation now shown = followed l old new is revelation now shown
if-followed l old new (Err error) is revelation now shown = tt

pub loaded-more : (name : List ℕ) (l next : LinkerView) (r after : Reveal) → next ≡ loading name l → IsFollowed next r after → HasHappened (Loaded name) l r next after
loaded-more name l next r after e by = record {
  ready = by.ready;
  program = ap (λ (v : LinkerView). v.program) e;
  now = ap (with_loaded next.loaded) by.now ∙ ap (λ (v : LinkerView). with_loaded v.loaded (now_of r)) e;
  shown = by.shown;
}

-- ---- the start

pub blank : (p : Program) (l : LinkerView) (r : Reveal) → IsAdmitted p → l ≡ linker_of p → IsRevelation p r → now_of r ≡ nothing_revealed
    → r.shown ≡ marks_of p nothing_revealed → IsBlank l r
blank p l r admitted e revelation now shown = record {
  along = nothing-along p l r admitted e revelation now;
  seen = record {
    now = ap (λ (v : LinkerView). with_loaded v.loaded (now_of r)) e ∙ ap (with_loaded []) now;
    shown = shown ∙ ap (λ (v : LinkerView). marks_of v.program nothing_revealed) (sym e);
  };
}

pub fresh : (l next : LinkerView) (r after : Reveal) → IsBlank l r → IsLinked l next → IsFollowed next r after → IsFresh next after
fresh l next r after is by taken = record {
  ready = taken.ready;
  seen = record {
    now = ap (with_loaded next.loaded) taken.now ∙ ap (with_loaded next.loaded) is.seen.now;
    shown = taken.shown ∙ (is.seen.shown ∙ ap (λ p. marks_of p nothing_revealed) (sym by.program));
  };
}

-- ---- a method is entered several times

pub entered-first : (method : ℕ) (l : LinkerView) (r mid : Reveal) → IsFollowed l r mid → HasHappened (Entered method 0) l r l mid
entered-first method l r mid by = record { ready = by.ready; program = refl; now = ap (with_loaded l.loaded) by.now; shown = by.shown }

pub class-first : (method : ℕ) (l : LinkerView) (r mid : Reveal) → IsFollowed l r mid → has_class l.program l.loaded method ≡ true
    → has_class l.program (now_of mid).loaded method ≡ true
class-first method l r mid by has = ap (λ (n : Revealed). has_class l.program n.loaded method) by.now ∙ has

pub class-next : {E : Type 0} (method : ℕ) (p : Program) (old new : Reveal) (result : Result (Unit {0}) E) → has_class p (now_of old).loaded method ≡ true
    → OnOk result (now_of new ≡ with_method_entered method (now_of old)) → OnOk result (has_class p (now_of new).loaded method ≡ true)
class-next method p old new (Ok done) has now = ap (λ (n : Revealed). has_class p n.loaded method) now ∙ has
class-next method p old new (Err error) has now = tt

pub entered-next : (method times : ℕ) (l : LinkerView) (r mid after : Reveal) → HasHappened (Entered method times) l r l mid
    → HasHappened (Entered method 1) l mid l after → HasHappened (Entered method (times + 1)) l r l after
entered-next method times l r mid after first then_ = record {
  ready = then_.ready;
  program = refl;
  now = then_.now ∙ (ap (with_method_entered method) first.now ∙ ap (λ n. entered_often method n (methods_revealed l r)) (sym (add-one times)));
  shown = then_.shown ∙ first.shown;
}
