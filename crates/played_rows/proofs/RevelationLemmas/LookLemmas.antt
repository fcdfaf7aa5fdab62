-- The marks of all methods one by one, the methods that one can begin, and marks that are the same.
use Rattle.std.proofs.Common.{◌≡◌, ◌<◌, ◌≤◌, ◌+◌, ℕ, Bool, true, false, List, [], ◌∷◌, ◌++◌, drop, length, map, ap, sym, ◌∙◌, refl}
use Rattle.std.specs.Prelude.{Result, Ok, Err, IfOk}
use Rattle.std.specs.Bool.{Decides}
use Rattle.std.specs.Cmp.Lexicographic.{pointwise}
use Rattle.std.specs.List.{enumerate_from}
use Rattle.std.proofs.lemmas.List.{append-nil, append_assoc, drop_all, drop_more}
use Rattle.std.proofs.lemmas.Slice.Eq.{slice_eq-Decides}
use Rattle.jvm_model.specs.declared.event.Mark.{Mark}
use Rattle.jvm_model.specs.declared.event.Mark.TheVariants.{Off, Plain, Root}
use Rattle.jvm_model.specs.declared.program.MethodPlace.{MethodPlace}
use Rattle.jvm_model.specs.declared.program.Program.{Program}
use Rattle.jvm_model.specs.Classes.Load.{is_among}
use Rattle.jvm_model.specs.Profiling.Revealed.{Revealed, mark_of, marks_of}
use Rattle.jvm_model.specs.Profiling.Targets.{targets}
use Rattle.possible_callees.specs.Tables.{IsRising}
use Rattle.played_rows.specs.declared.revelation.item.Fact.{Fact}
use Rattle.played_rows.specs.declared.revelation.item.Fact.TheVariants.{Marks}
use Rattle.played_rows.specs.Revelation.Rows.{AreTargets}

-- ---- the marks of all methods

abbrev pub marks_from : Program → Revealed → ℕ → List MethodPlace → List Mark
marks_from p r n places = map (λ (e : ℕ × MethodPlace). mark_of p r e.0) (enumerate_from n places)

pub marks-first : (p : Program) (r : Revealed) (marks : List Mark) (places : List MethodPlace) → marks ≡ [] → places ≡ p.methods
    → marks ++ marks_from p r 0 places ≡ marks_of p r
marks-first p r marks places none same =
    ap (λ (ms : List Mark). ms ++ marks_from p r 0 places) none ∙ ap (marks_from p r 0) same

pub marks-next : (p : Program) (r : Revealed) (marks more : List Mark) (mark : Mark) (places : List MethodPlace) (i : ℕ) (due : List Mark) → i < length places
    → more ≡ marks ++ mark ∷ [] → mark ≡ mark_of p r i → marks ++ marks_from p r i (drop i places) ≡ due → more ++ marks_from p r (i + 1) (drop (i + 1) places) ≡ due
marks-next p r marks more mark places i due less pushed is before =
    let rest = drop_more places i (record { class = 0; position = 0 }) less in
    ap (λ (ms : List Mark). ms ++ marks_from p r (i + 1) (drop (i + 1) places)) pushed
    ∙ (append_assoc marks (mark ∷ []) (marks_from p r (i + 1) (drop (i + 1) places))
    ∙ (ap (λ m. marks ++ m ∷ marks_from p r (i + 1) (drop (i + 1) places)) is
    ∙ (ap (λ ps. marks ++ marks_from p r i ps) (sym rest) ∙ before)))

pub marks-all : (p : Program) (r : Revealed) (marks : List Mark) (places : List MethodPlace) (i : ℕ) (due : List Mark) → length places ≤ i
    → marks ++ marks_from p r i (drop i places) ≡ due → marks ≡ due
marks-all p r marks places i due end before =
    sym (append-nil marks) ∙ (ap (λ ps. marks ++ marks_from p r i ps) (sym (drop_all i places end)) ∙ before)

-- ---- what can begin

pub if-targets : {E : Type 0} (p : Program) (loaded : List ℕ) (method : ℕ) (result : Result (List ℕ) E) → IfOk result (λ ms. IsRising ms)
    → IfOk result (λ ms. (m : ℕ) → is_among m ms ≡ is_among m (targets p loaded method)) → IfOk result (AreTargets p loaded method)
if-targets p loaded method (Ok ms) rising among = record { rising = rising; targets = among }
if-targets p loaded method (Err error) rising among = tt

-- ---- marks that are the same

decided : (E : Mark → Mark → Bool) → E Off Off ≡ true → E Plain Plain ≡ true → E Root Root ≡ true → E Off Plain ≡ false → E Off Root ≡ false → E Plain Off ≡ false
    → E Plain Root ≡ false → E Root Off ≡ false → E Root Plain ≡ false → (a b : Mark) → Decides (E a b) (a ≡ b)
decided E oo pp rr op or po pr ro rp Off Off = (λ e. refl, λ e. oo)
decided E oo pp rr op or po pr ro rp Plain Plain = (λ e. refl, λ e. pp)
decided E oo pp rr op or po pr ro rp Root Root = (λ e. refl, λ e. rr)
decided E oo pp rr op or po pr ro rp Off Plain = (λ e. absurd cc, λ e. absurd cc)
decided E oo pp rr op or po pr ro rp Off Root = (λ e. absurd cc, λ e. absurd cc)
decided E oo pp rr op or po pr ro rp Plain Off = (λ e. absurd cc, λ e. absurd cc)
decided E oo pp rr op or po pr ro rp Plain Root = (λ e. absurd cc, λ e. absurd cc)
decided E oo pp rr op or po pr ro rp Root Off = (λ e. absurd cc, λ e. absurd cc)
decided E oo pp rr op or po pr ro rp Root Plain = (λ e. absurd cc, λ e. absurd cc)

pub marks-decided : (E : Mark → Mark → Bool) (xs ys : List Mark) (r : Bool) → r ≡ pointwise E xs ys → E Off Off ≡ true → E Plain Plain ≡ true → E Root Root ≡ true
    → E Off Plain ≡ false → E Off Root ≡ false → E Plain Off ≡ false → E Plain Root ≡ false → E Root Off ≡ false → E Root Plain ≡ false → Decides r (xs ≡ ys)
marks-decided E xs ys r is oo pp rr op or po pr ro rp = slice_eq-Decides (decided E oo pp rr op or po pr ro rp) xs ys r is

marks-alike : (a b : List Mark) → Marks b ≡ Marks a → a ≡ b
marks-alike a b e = cc

-- of facts, where these are their marks
pub facts-decided : (wanted came : Fact) (a b xs ys : List Mark) (r : Bool) → wanted ≡ Marks a → came ≡ Marks b → xs ≡ a → ys ≡ b → Decides r (xs ≡ ys)
    → Decides r (came ≡ wanted)
facts-decided wanted came a b xs ys r w c x y d =
    (λ e. c ∙ (ap Marks (sym (sym x ∙ (d.0 e ∙ y))) ∙ sym w), λ e. d.1 (x ∙ (marks-alike a b (sym c ∙ (e ∙ w)) ∙ sym y)))

pub not-same : (wanted came : Fact) (r : Bool) → Decides r (came ≡ wanted) → r ≡ false → came ≡ wanted → ⊥
not-same wanted came r d no_ same = let yes_ = d.1 same in cc
