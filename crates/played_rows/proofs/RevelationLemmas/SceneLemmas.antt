-- An admitted program can be linked and methods_revealed, and a revelation follows what its linker loads.
use Rattle.std.proofs.Common.{◌≡◌, ℕ, true, false, ◌+◌, ◌<◌, ◌^◌, List, [], ◌∷◌, ◌++◌, length, ap, sym, subst, refl, ◌∙◌}
use Rattle.std.specs.Prelude.{Option, Some, None}
use Rattle.std.specs.Option.{option_map_or}
use Rattle.std.proofs.lemmas.Option.{slice_get_within}
use Rattle.jvm_model.specs.declared.program.MethodPlace.{MethodPlace}
use Rattle.jvm_model.specs.declared.program.Program.{Program}
use Rattle.jvm_model.specs.Basis.KindNumbers.{user_count}
use Rattle.jvm_model.specs.Classes.Load.{is_among, load_of}
use Rattle.jvm_model.specs.Profiling.Points.{has_class}
use Rattle.jvm_model.specs.Basis.Programs.{place_of_method}
use Rattle.jvm_model.specs.Profiling.Revealed.{Revealed}
use Rattle.jvm_model.specs.Soundness.Sound.{HasClass, HasSupertypes}
use Rattle.jvm_model.proofs.Loading.LoadOrder.{load-order}
use Rattle.jvm_model.proofs.Soundness.SoundClasses.{named-load}
use Rattle.class_linker.specs.declared.answers.Loaded.{Loaded}
use Rattle.class_linker.specs.declared.answers.Loaded.TheVariants.{New, Already, Throws, NoMemory}
use Rattle.class_linker.specs.Linkers.{IsLoaded, LinkerView, linker_of, loaded_by}
use Rattle.member_selection.specs.Numbers.{all_coded}
use Rattle.program_fit.specs.Runnable.{IsAdmitted}
use Rattle.program_fit.proofs.Runs.{runnable}
use Rattle.possible_callees.specs.Tables.{IsPrefix}
use Rattle.possible_callees.proofs.Numbers.Fronts.{front-among, front-more, front-self, front-then}
use Rattle.call_revelation.specs.declared.reveal.Reveal.{Reveal}
use Rattle.call_revelation.specs.Reveals.{IsAhead, IsRevelation, nothing_revealed, now_of}
use Rattle.prepared_code.proofs.Initializing.BuiltInLoads.{few-coded}
use Rattle.played_rows.specs.Revelation.Scenes.{IsAlong, IsFollowed, IsLinked, IsReady, methods_revealed}

-- ---- what is loaded more

load-front : (p : Program) (loaded name : List ℕ) → IsPrefix loaded (load_of p loaded name).loaded
load-front p loaded name =
    (named-load p (IsPrefix loaded)
    (λ l class needs front. front-then loaded l (l ++ class ∷ []) front (front-more l (l ++ class ∷ []) (class ∷ []) refl))
    (length p.classes + 1) [] name loaded).kept (front-self loaded)

by-load : (l : LinkerView) (name : List ℕ) → IsLinked l (record { program = l.program; loaded = (load_of l.program l.loaded name).loaded })
by-load l name = record {
  program = refl;
  prefix = load-front l.program l.loaded name;
  order = load-order l.program l.loaded name;
}

by-answer : (l : LinkerView) (result : Loaded) (name : List ℕ) → IsLinked l (loaded_by result name l)
by-answer l (New kind classes) name = by-load l name
by-answer l (Already kind) name = by-load l name
by-answer l (Throws error classes absent) name = by-load l name
by-answer l NoMemory name = record { program = refl; prefix = front-self l.loaded; order = λ order. order }

pub linked : (l next : LinkerView) (result : Loaded) (name : List ℕ) → next ≡ loaded_by result name l → IsLinked l next
linked l next result name e = subst (IsLinked l) (sym e) (by-answer l result name)

-- ---- what follows it

pub along-linked : (l next : LinkerView) (r : Reveal) → IsAlong l r → IsLinked l next → IsAlong next r
along-linked l next r is by = record {
  admitted = subst IsAdmitted (sym by.program) is.admitted;
  revelation = subst (λ p. IsRevelation p r) (sym by.program) is.revelation;
  prefix = front-then (now_of r).loaded l.loaded next.loaded is.prefix by.prefix;
  order = by.order is.order;
}

root-linked : (l next : LinkerView) → IsLoaded l (user_count l.program) → IsLinked l next → IsLoaded next (user_count next.program)
root-linked l next root by =
    front-among l.loaded next.loaded (user_count next.program) by.prefix (ap (λ p. is_among (user_count p) l.loaded) by.program ∙ root)

pub ready-linked : (l next : LinkerView) (r : Reveal) → IsReady l r → IsLinked l next → IsReady next r
ready-linked l next r is by = record { along = along-linked l next r is.along by; root = root-linked l next is.root by }

pub ready-ahead : (l : LinkerView) (r : Reveal) → IsReady l r → IsAhead l r
ready-ahead l r is = record { loaded = λ class h. front-among r.lineage.loaded l.loaded class is.along.prefix h; root = is.root }

pub followed : (l : LinkerView) (old new : Reveal) → IsReady l old → IsRevelation l.program new → now_of new ≡ methods_revealed l old → new.shown ≡ old.shown
    → IsFollowed l old new
followed l old new is revelation now shown =
    let same : (now_of new).loaded ≡ l.loaded = ap (λ (n : Revealed). n.loaded) now in
    record {
      ready = record {
        along = record {
          admitted = is.along.admitted;
          revelation = revelation;
          prefix = subst (λ xs. IsPrefix xs l.loaded) (sym same) (front-self l.loaded);
          order = is.along.order;
        };
        root = is.root;
      };
      now = now;
      shown = shown;
    }

none-above : (p : Program) → HasSupertypes p []
none-above p = record { superclass = λ class h. absurd cc; interfaces = λ class h. absurd cc }

-- nothing is loaded of an admitted program
pub nothing-along : (p : Program) (l : LinkerView) (r : Reveal) → IsAdmitted p → l ≡ linker_of p → IsRevelation p r → now_of r ≡ nothing_revealed → IsAlong l r
nothing-along p l r admitted e revelation now = subst (λ l. IsAlong l r) (sym e) (record {
  admitted = admitted;
  revelation = revelation;
  prefix = subst (λ (n : Revealed). IsPrefix n.loaded []) (sym now) (front-self []);
  order = none-above p;
})

-- ---- a method of a class that is loaded

-- it has a place
placed : (p : Program) (loaded : List ℕ) (method : ℕ) (found : Option MethodPlace)
    → option_map_or (λ (place : MethodPlace). is_among place.class loaded) found false ≡ true → (place : MethodPlace) × (found ≡ Some place)
placed p loaded method None has = absurd cc
placed p loaded method (Some place) has = (place, refl)

pub within : (p : Program) (loaded : List ℕ) (method : ℕ) → has_class p loaded method ≡ true → method < length p.methods
within p loaded method has =
    let at = placed p loaded method (place_of_method p method) has in slice_get_within p.methods method at.0 at.1

pub class-loaded : (p : Program) (loaded : List ℕ) (method : ℕ) → has_class p loaded method ≡ true → HasClass p loaded method
class-loaded p loaded method has place e =
    ap (λ found. option_map_or (λ (place : MethodPlace). is_among place.class loaded) found false) (sym e) ∙ has

-- ---- methods are numbered

pub few-methods : (p : Program) → IsAdmitted p → all_coded p.classes < 2 ^ 32
few-methods p admitted = let fits = (runnable p admitted).fits in few-coded p fits.numbered fits.methods
