-- Which methods are selected behind the actions that a session has taken.
use Rattle.std.proofs.Common.{◌≡◌, ℕ, zero, suc, ◌+◌, ◌<◌, ◌≤◌, Bool, true, false, cond, List, [], ◌∷◌, ◌++◌, take, Some, refl, sym, ap, subst, ◌∙◌, arith, inl, inr, add-one}
use Rattle.std.specs.Prelude.{filter, nat_le, not, slice_get, ◌==◌}
use Rattle.std.specs.List.{AllByRecursion}
use Rattle.std.proofs.lemmas.Bool.{cases_lt, eq-eqb, le-leb, lt-leb, ne_eqb}
use Rattle.std.proofs.lemmas.List.{append-nil}
use Rattle.std.proofs.lemmas.Option.{same_Some, none-some}
use Rattle.jf_bytes.proofs.Lists.{each_weaker}
use Rattle.jvm_model.specs.declared.event.Act.{Act}
use Rattle.jvm_model.specs.Soundness.Calls.{AreFrom}
use Rattle.jvm_model.specs.Basis.Data.{Change, Loads, Began, Left, Unwound, Listing, World}
use Rattle.jvm_model.specs.Classes.Load.{is_among}
use Rattle.jvm_model.specs.Codes.Originals.{original}
use Rattle.jvm_model.specs.Profiling.Points.{Standing, acts_at, acts_behind, after_act, after_acts, after_change, after_changes, methods_selected, is_quiet, nothing, standing_settled, standing_in, standing_in-suc, standing_in-zero}
use Rattle.jvm_model.specs.Running.Run.{turn_in}
use Rattle.profile_session.specs.Sessions.{Profiling, is_selected_in, standing_of, world_of}
use Rattle.jfluid_cli.specs.Actions.{Alternate, CanBeTaken, IsAlong, IsDue, chosen_by}
use Rattle.jfluid_cli.proofs.Actions.ActionLemmas.{IsFrom, keeps-all, keeps-none, rise}

chosen-append : (selected : List ℕ) (xs ys : List Act) → chosen_by selected (xs ++ ys) ≡ chosen_by (chosen_by selected xs) ys
chosen-append selected [] ys = refl
chosen-append selected (x ∷ xs) ys = chosen-append (methods_selected x selected) xs ys

-- ---- a step

settled-selected : (acts : List Act) (s : Standing) → (standing_settled acts s).selected ≡ s.selected
settled-selected acts s = by (is_quiet acts s) where
  by : (b : Bool) → (cond b (record s { entered = [] }) s).selected ≡ s.selected
  by true = refl
  by false = refl

acts-selected : (acts todo : List Act) (s : Standing) → (after_acts acts s todo).selected ≡ chosen_by s.selected todo
acts-selected acts [] s = refl
acts-selected acts (act ∷ more) s =
    acts-selected acts more (after_act acts s act)
    ∙ ap (λ (now : List ℕ). chosen_by now more) (settled-selected acts (record s { selected = methods_selected act s.selected }))

changes-selected : (acts : List Act) (step : ℕ) (changes : List Change) (s : Standing)
    → (after_changes acts step s changes).selected ≡ s.selected
changes-selected acts step [] s = refl
changes-selected acts step (Loads classes ∷ more) s = changes-selected acts step more (after_change acts step s (Loads classes))
changes-selected acts step (Began method ∷ more) s = changes-selected acts step more (after_change acts step s (Began method))
changes-selected acts step (Left ∷ more) s = changes-selected acts step more (after_change acts step s Left)
changes-selected acts step (Unwound ∷ more) s = changes-selected acts step more (after_change acts step s Unwound)

-- the actions before a step, moment by moment
abbrev front : List Act → ℕ → List Act
front acts zero = acts_at 0 acts
front acts (suc n) = front acts n ++ acts_behind n acts

standing-chosen : (acts : List Act) (w : World) (t : Listing) (n : ℕ) → (standing_in acts w t n).selected ≡ chosen_by [] (front acts n)
standing-chosen acts w t zero =
    ap (λ (s : Standing). s.selected) (standing_in-zero acts w t) ∙ acts-selected acts (acts_at 0 acts) (nothing w)
standing-chosen acts w t (suc n) =
    let changes = (turn_in w t n).changes in
    let before : Standing = standing_in acts w t n in
    let «end» : Standing = standing_settled acts (after_changes acts n before changes) in
    ap (λ (s : Standing). s.selected) (standing_in-suc acts w t n)
    ∙ (acts-selected acts (acts_behind n acts) «end»
    ∙ (ap (λ (now : List ℕ). chosen_by now (acts_behind n acts))
    (settled-selected acts (after_changes acts n before changes)
    ∙ (changes-selected acts n changes before ∙ standing-chosen acts w t n))
    ∙ sym (chosen-append [] (front acts n) (acts_behind n acts))))

-- ---- actions whose moments do not fall

abbrev up-to : ℕ → Act → Bool
up-to k a = nat_le a.moment k

abbrev at : ℕ → Act → Bool
at k a = a.moment == k

within-yes : (k : ℕ) (a : Act) → a.moment ≤ k → up-to k a ≡ true
within-yes k a le = le-leb a.moment k le

within-no : (k : ℕ) (a : Act) → k < a.moment → up-to k a ≡ false
within-no k a more = lt-leb a.moment k more

none-up-to : (k least : ℕ) (acts : List Act) → AreFrom least acts → k < least → filter (up-to k) acts ≡ []
none-up-to k least acts order less =
    keeps-none (up-to k) acts
    (each_weaker (IsFrom least) (λ a. up-to k a ≡ false) acts (λ a from. within-no k a (omega (arith, less, from)))
    (rise least least acts order (omega arith)))

cons-cond : (b : Bool) (a : Act) (xs ys : List Act) → b ≡ true → cond b (a ∷ xs) ys ≡ a ∷ xs
cons-cond true a xs ys e = refl
cons-cond false a xs ys e = absurd cc

skip-cond : (b : Bool) (a : Act) (xs ys : List Act) → b ≡ false → cond b (a ∷ xs) ys ≡ ys
skip-cond false a xs ys e = refl
skip-cond true a xs ys e = absurd cc

-- those up to a moment, and then those of the next
one-moment-more : (k least : ℕ) (acts : List Act) → AreFrom least acts
    → filter (up-to (suc k)) acts ≡ filter (up-to k) acts ++ filter (at (suc k)) acts
one-moment-more k least [] order = refl
one-moment-more k least (a ∷ more) order =
    let later = one-moment-more k a.moment more order.1 in
    let upper : List Act = filter (up-to (suc k)) more in
    let lower : List Act = filter (up-to k) more in
    let here : List Act = filter (at (suc k)) more in
    elim (cases_lt a.moment (suc k)) [
      | inl no_later ↦
          cons-cond (up-to (suc k) a) a upper upper (within-yes (suc k) a (omega (arith, no_later)))
          ∙ (ap (λ (xs : List Act). a ∷ xs) later
          ∙ sym (ap (λ (xs : List Act). xs ++ cond (at (suc k) a) (a ∷ here) here)
          (cons-cond (up-to k a) a lower lower (within-yes k a (omega (arith, no_later))))
          ∙ ap (λ (xs : List Act). a ∷ (lower ++ xs))
          (skip-cond (at (suc k) a) a here here (ne_eqb a.moment (suc k) (λ e. omega (arith, e, no_later))))))
      | inr late ↦
          (let none : lower ≡ [] = none-up-to k a.moment more order.1 (omega (arith, late)) in
          let rest : upper ≡ here = later ∙ ap (λ (xs : List Act). xs ++ here) none in
          let front-none : cond (up-to k a) (a ∷ lower) lower ≡ [] =
          skip-cond (up-to k a) a lower lower (within-no k a (omega (arith, late))) ∙ none in
          elim (cases_lt (suc k) a.moment) [
            | inl beyond ↦
                skip-cond (up-to (suc k) a) a upper upper (within-no (suc k) a beyond)
                ∙ (rest
                ∙ sym (ap (λ (xs : List Act). xs ++ cond (at (suc k) a) (a ∷ here) here) front-none
                ∙ skip-cond (at (suc k) a) a here here (ne_eqb a.moment (suc k) (λ e. omega (arith, e, beyond)))))
            | inr back ↦
                cons-cond (up-to (suc k) a) a upper upper (within-yes (suc k) a back)
                ∙ (ap (λ (xs : List Act). a ∷ xs) rest
                ∙ sym (ap (λ (xs : List Act). xs ++ cond (at (suc k) a) (a ∷ here) here) front-none
                ∙ cons-cond (at (suc k) a) a here here (eq-eqb a.moment (suc k) (omega (arith, late, back)))))
          ])
    ]

at-zero : (acts : List Act) → filter (at 0) acts ≡ filter (up-to 0) acts
at-zero [] = refl
at-zero (a ∷ more) = elim (cases_lt 0 a.moment) [
  | inl later ↦
      skip-cond (at 0 a) a (filter (at 0) more) (filter (at 0) more) (ne_eqb a.moment 0 (λ e. omega (arith, e, later)))
      ∙ (at-zero more
      ∙ sym (skip-cond (up-to 0 a) a (filter (up-to 0) more) (filter (up-to 0) more) (within-no 0 a later)))
  | inr none ↦
      cons-cond (at 0 a) a (filter (at 0) more) (filter (at 0) more) (eq-eqb a.moment 0 (omega (arith, none)))
      ∙ (ap (λ (xs : List Act). a ∷ xs) (at-zero more)
      ∙ sym (cons-cond (up-to 0 a) a (filter (up-to 0) more) (filter (up-to 0) more) (within-yes 0 a none)))
]

front-is : (k : ℕ) (acts : List Act) → AreFrom 0 acts → front acts (suc k) ≡ filter (up-to k) acts
front-is zero acts order = append-nil (acts_at 0 acts) ∙ at-zero acts
front-is (suc k) acts order =
    ap (λ (xs : List Act). xs ++ filter (at (suc k)) acts) (front-is k acts order) ∙ sym (one-moment-more k 0 acts order)

-- where no action is later than the step, it comes to all of them
pub standing-all : (acts : List Act) (w : World) (t : Listing) (k : ℕ) → AreFrom 0 acts → AllByRecursion (λ (a : Act). a.moment ≤ k) acts
    → (standing_in acts w t (suc k)).selected ≡ chosen_by [] acts
standing-all acts w t k order no_later =
    standing-chosen acts w t (suc k)
    ∙ ap (λ (xs : List Act). chosen_by [] xs)
    (front-is k acts order
    ∙ keeps-all (up-to k) acts (each_weaker (λ (a : Act). a.moment ≤ k) (λ a. up-to k a ≡ true) acts (λ a le. within-yes k a le) no_later))

-- before the start, where all are of moment 0
pub standing-first : (acts : List Act) (w : World) (t : Listing) → AllByRecursion (λ (a : Act). a.moment ≤ 0) acts
    → (standing_in acts w t 0).selected ≡ chosen_by [] acts
standing-first acts w t no_later =
    standing-chosen acts w t 0
    ∙ ap (λ (xs : List Act). chosen_by [] xs)
    (at-zero acts
    ∙ keeps-all (up-to 0) acts (each_weaker (λ (a : Act). a.moment ≤ 0) (λ a. up-to 0 a ≡ true) acts (λ a le. within-yes 0 a le) no_later))

-- what stands selected before a step of a session
abbrev selected-before : Profiling → ℕ → List ℕ
selected-before s n = (standing_in s.acts (world_of s) (original s.program) n).selected

-- of a session: what stands selected is what its actions have left
pub selected-is : (s : Profiling) → AreFrom 0 s.acts → AllByRecursion (λ (a : Act). a.moment ≤ s.clock) s.acts
    → (s.started ≡ false → s.clock ≡ 0) → (standing_of s).selected ≡ chosen_by [] s.acts
selected-is s order no_later first = by s.started refl where
  by : (b : Bool) → s.started ≡ b → selected-before s (cond s.started (s.clock + 1) 0) ≡ chosen_by [] s.acts
  by true is =
      ap (λ (b : Bool). selected-before s (cond b (s.clock + 1) 0)) is
      ∙ (ap (selected-before s) (add-one s.clock) ∙ standing-all s.acts (world_of s) (original s.program) s.clock order no_later)
  by false is =
      ap (λ (b : Bool). selected-before s (cond b (s.clock + 1) 0)) is
      ∙ standing-first s.acts (world_of s) (original s.program)
      (subst (λ n. AllByRecursion (λ (a : Act). a.moment ≤ n) s.acts) (first is) no_later)

-- ---- the action that is due

from-take : (least n : ℕ) (acts : List Act) → AreFrom least acts → AreFrom least (take n acts)
from-take least zero acts order = tt
from-take least (suc n) [] order = tt
from-take least (suc n) (a ∷ more) order = (order.0, from-take a.moment n more order.1)

alternate-at : (earlier acts : List Act) (n : ℕ) (act : Act) → Alternate earlier acts → slice_get acts n ≡ Some act
    → is_among act.method (chosen_by [] (earlier ++ take n acts)) ≡ not act.select
alternate-at earlier [] n act fits there = absurd (none-some act there)
alternate-at earlier (a ∷ more) zero act fits there =
    let same : a ≡ act = same_Some a act there in
    subst (λ (x : Act). is_among x.method (chosen_by [] (earlier ++ [])) ≡ not x.select) same
    (ap (λ (list : List Act). is_among a.method (chosen_by [] list)) (append-nil earlier) ∙ fits.0)
alternate-at earlier (a ∷ more) (suc n) act fits there =
    ap (λ (list : List Act). is_among act.method (chosen_by [] list)) (shift earlier a (take n more))
    ∙ alternate-at (earlier ++ a ∷ []) more n act fits.1 there
  where
    shift : (list : List Act) (x : Act) (bs : List Act) → list ++ x ∷ bs ≡ (list ++ x ∷ []) ++ bs
    shift [] x bs = refl
    shift (y ∷ list) x bs = ap (λ ys. y ∷ ys) (shift list x bs)

-- it asks for what is not so
pub due-fits : (s : Profiling) (n : ℕ) (act : Act) → CanBeTaken s.program.acts → IsAlong s n → IsDue s n act
    → (s.started ≡ false → s.clock ≡ 0) → is_selected_in s act.method ≡ not act.select
due-fits s n act can along due first =
    let acts = s.program.acts in
    let order : AreFrom 0 s.acts = subst (AreFrom 0) (sym along.acts) (from-take 0 n acts can.in_order) in
    let no_later : AllByRecursion (λ (a : Act). a.moment ≤ s.clock) s.acts =
    subst (AllByRecursion (λ (a : Act). a.moment ≤ s.clock)) (sym along.acts) along.taken in
    ap (is_among act.method) (selected-is s order no_later first ∙ ap (λ (list : List Act). chosen_by [] list) along.acts)
    ∙ alternate-at [] acts n act can.alternate due.there
