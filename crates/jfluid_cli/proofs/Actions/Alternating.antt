-- The actions of a plan select what is not selected, and deselect what is.
use Rattle.std.proofs.Common.{◌≡◌, ℕ, ◌+◌, Bool, true, false, cond, List, [], ◌∷◌, ◌++◌, length, Option, Some, None, Result, Ok, Err, refl, sym, ap, subst, ◌∙◌, inl, inr}
use Rattle.std.specs.Prelude.{MatchOption, filter, is_some, not, nat_le, nat_lt, codes, ◌==◌, ◌&&◌, ◌||◌}
use Rattle.std.specs.Bool.{MatchBool}
use Rattle.std.specs.List.{AllZip, list_any}
use Rattle.std.specs.Option.{option_map}
use Rattle.std.specs.Result.{MatchResult}
use Rattle.std.specs.Str.{bytes_eq, is_utf8}
use Rattle.std.proofs.lemmas.Bool.{cases_Bool, eq-eqb, eqb-true, ne_eqb, or_from, or_left, false≢true}
use Rattle.std.proofs.lemmas.Option.{same_Some}
use Rattle.std.proofs.lemmas.Str.{IsUtf8-from_is_utf8, is_utf8-from_IsUtf8}
use Rattle.const_pool.specs.declared.class.ClassFile.{ClassFile}
use Rattle.plan_text.specs.declared.plan.Action.{Action}
use Rattle.plan_text.specs.declared.plan.Plan.{Plan}
use Rattle.plan_text.specs.declared.plan.LineCause.TheVariants as cause
use Rattle.plan_text.specs.declared.plan.PlanError.{PlanError}
use Rattle.plan_text.specs.declared.plan.PlanError.TheVariants as error
use Rattle.plan_text.specs.declared.plan.RootName.{RootName}
use Rattle.plan_text.specs.Lines.{IsActed, IsLine, IsOrdered, IsPlanRead, IsRead, IsSaid, IsTimed, IsWorded, halves, is_silent, lines_of, action_misplaced, most_bytes, most_said, order_of, same_root, selected_after, silent_plan, with_action, with_arg, with_budget, with_heap, with_main, with_placed, with_root, word_of}
use Rattle.plan_text.specs.Numbers.{greatest_steps, heap_of, number_of}
use Rattle.plan_text.specs.Plans.{plan_selecting}
use Rattle.plan_text.specs.Roots.{name_slashed}
use Rattle.jf_bytes.specs.Unicode.{utf16_of}
use Rattle.command_line.specs.Chosen.{IsOwnPlan}
use Rattle.jvm_model.specs.declared.event.Act.{Act}
use Rattle.jvm_model.specs.declared.program.Program.{Program}
use Rattle.jvm_model.specs.Classes.Load.{is_among}
use Rattle.jvm_model.specs.Profiling.Points.{methods_selected}
use Rattle.admit_check.specs.Admission.{admission_of, root_in}
use Rattle.jfluid_cli.specs.Actions.{Alternate, AlternateRoots, chosen_by}
use Rattle.jfluid_cli.proofs.Runs.Admitted.{IsActOf, plan-acts, program_for}
use Rattle.jfluid_cli.proofs.Actions.NamedRoots.{named-alike, same-method}
use Rattle.jfluid_cli.proofs.Reports.Pairs.{zip-push}

abbrev Answer : Type 0
Answer = Result Plan PlanError

one-behind : (earlier actions : List Action) (a : Action) → AlternateRoots earlier actions
    → selected_after false a.root (earlier ++ actions) ≡ not a.select → AlternateRoots earlier (actions ++ a ∷ [])
one-behind earlier [] a before is = (subst (λ (list : List Action). selected_after false a.root list ≡ not a.select) (append-none earlier) is, tt)
  where
    append-none : (list : List Action) → list ++ [] ≡ list
    append-none [] = refl
    append-none (x ∷ list) = ap (λ ys. x ∷ ys) (append-none list)
one-behind earlier (x ∷ actions) a before is = (
  before.0,
  one-behind (earlier ++ x ∷ []) actions a before.1
      (subst (λ (list : List Action). selected_after false a.root list ≡ not a.select) (shift earlier x actions) is),
)
  where
    shift : (list : List Action) (x : Action) (bs : List Action) → list ++ x ∷ bs ≡ (list ++ x ∷ []) ++ bs
    shift [] x bs = refl
    shift (y ∷ list) x bs = ap (λ ys. y ∷ ys) (shift list x bs)

-- ---- a line

abbrev IsFine : Answer → Type 0
IsFine (Ok plan) = AlternateRoots [] plan.actions
IsFine (Err fault) = Unit {0}

placed-well : (earlier : List Action) (a : Action) (number : ℕ) → action_misplaced number earlier a ≡ None
    → selected_after false a.root earlier ≡ not a.select
placed-well earlier a number e =
    by (list_any (λ x. nat_lt a.moment x.moment) earlier) a.select (selected_after false a.root earlier) e
  where
    by : (fallen select selected : Bool)
        → cond fallen (Some (error.Backwards number))
        (cond (select && selected) (Some (error.AlreadySelected number))
        (cond (not select && not selected) (Some (error.NotSelected number))
        (cond (nat_lt (length earlier) most_said) None (Some (error.TooMany number))))) ≡ None
        → selected ≡ not select
    by true select selected e = absurd cc
    by false true true e = absurd cc
    by false true false e = refl
    by false false true e = refl
    by false false false e = absurd cc

action-fine : (number : ℕ) (plan : Plan) (a : Action) → AlternateRoots [] plan.actions → IsFine (with_action number plan a)
action-fine number plan a fine = by (action_misplaced number plan.actions a) refl where
  by : (o : Option PlanError) → action_misplaced number plan.actions a ≡ o → IsFine (with_placed plan a o)
  by (Some fault) e = tt
  by None e = one-behind [] plan.actions a fine (placed-well plan.actions a number e)

root-fine : (number : ℕ) (plan : Plan) (moment : ℕ) (select : Bool) (r : Option RootName) → AlternateRoots [] plan.actions
    → IsFine (with_root number plan moment select r)
root-fine number plan moment select None fine = tt
root-fine number plan moment select (Some r) fine = action-fine number plan (record { moment = moment; select = select; root = r }) fine

is-fine : (r s : Answer) → r ≡ s → IsFine s → IsFine r
is-fine r s e = subst IsFine (sym e)

acted-fine : (number : ℕ) (plan : Plan) (moment : Option ℕ) (select : Bool) (word : List ℕ) (r : Answer)
    → AlternateRoots [] plan.actions → IsActed number plan moment select word r → IsFine r
acted-fine number plan None select word r fine is = is-fine r _ is tt
acted-fine number plan (Some moment) select word r fine is = is-fine r _ is.2 (root-fine number plan moment select is.0 fine)

ordered-fine : (number : ℕ) (plan : Plan) (moment : List ℕ) (order : Option Bool) (word : List ℕ) (r : Answer)
    → AlternateRoots [] plan.actions → IsOrdered number plan moment order word r → IsFine r
ordered-fine number plan moment None word r fine is = is-fine r _ is tt
ordered-fine number plan moment (Some select) word r fine is = acted-fine number plan (number_of greatest_steps moment) select word r fine is

option-fine : {A : Type 0} (o : Option A) (r : Answer) (Without : Type 0) (With : A → Type 0) → (Without → IsFine r)
    → ((x : A) → With x → IsFine r) → MatchOption o Without With → IsFine r
option-fine None r Without With first second is = first is
option-fine (Some x) r Without With first second is = second x is

bool-fine : (b : Bool) (r : Answer) (Yes No : Type 0) → (Yes → IsFine r) → (No → IsFine r) → MatchBool b Yes No → IsFine r
bool-fine true r Yes No first second is = first is
bool-fine false r Yes No first second is = second is

timed-fine : (number : ℕ) (plan : Plan) (rest : List ℕ) (r : Answer) → AlternateRoots [] plan.actions
    → IsTimed number plan rest r → IsFine r
timed-fine number plan rest r fine =
    option-fine (halves rest) r _ _ (λ e. is-fine r _ e tt)
    (λ timed. option-fine (halves timed.1) r _ _ (λ e. is-fine r _ e tt)
    (λ ordered. ordered-fine number plan timed.0 (order_of ordered.0) ordered.1 r fine))

main-fine : (number : ℕ) (plan : Plan) (name : List ℕ) → AlternateRoots [] plan.actions → IsFine (with_main number plan name)
main-fine number plan name fine = by (length name == 0) (is_some plan.main) where
  by : (none twice : Bool)
      → IsFine (cond none (Err (error.BadLine number cause.Name)) (cond twice (Err (error.BadLine number cause.Twice))
      (Ok (record plan { main = Some (name_slashed (utf16_of name)) }))))
  by true twice = tt
  by false true = tt
  by false false = fine

arg-fine : (number : ℕ) (plan : Plan) (text : List ℕ) → AlternateRoots [] plan.actions → IsFine (with_arg number plan text)
arg-fine number plan text fine = by (nat_lt (length plan.args) most_said) where
  by : (b : Bool) → IsFine (cond b (Ok (record plan { args = plan.args ++ utf16_of text ∷ [] })) (Err (error.TooMany number)))
  by true = fine
  by false = tt

budget-fine : (number : ℕ) (plan : Plan) (steps : Option ℕ) → AlternateRoots [] plan.actions → IsFine (with_budget number plan steps)
budget-fine number plan None fine = tt
budget-fine number plan (Some steps) fine = by (is_some plan.budget) where
  by : (b : Bool) → IsFine (cond b (Err (error.BadLine number cause.Twice)) (Ok (record plan { budget = Some steps })))
  by true = tt
  by false = fine

heap-fine : (number : ℕ) (plan : Plan) (slots : Option ℕ) → AlternateRoots [] plan.actions → IsFine (with_heap number plan slots)
heap-fine number plan None fine = tt
heap-fine number plan (Some slots) fine = by (is_some plan.heap) where
  by : (b : Bool) → IsFine (cond b (Err (error.BadLine number cause.Twice)) (Ok (record plan { heap = Some slots })))
  by true = tt
  by false = fine

-- by the word that a line begins with
by-word : {W : Type 0} (main arg budget heap action : W) (a b c d e : Bool) (Is : Option W → Type 0) (F : Type 0)
    → Is (cond a (Some main) (cond b (Some arg) (cond c (Some budget) (cond d (Some heap) (cond e (Some action) None)))))
    → (Is (Some main) → F) → (Is (Some arg) → F) → (Is (Some budget) → F) → (Is (Some heap) → F) → (Is (Some action) → F)
    → (Is None → F) → F
by-word main arg budget heap action true b c d e Is F is one two three four five six = one is
by-word main arg budget heap action false true c d e Is F is one two three four five six = two is
by-word main arg budget heap action false false true d e Is F is one two three four five six = three is
by-word main arg budget heap action false false false true e Is F is one two three four five six = four is
by-word main arg budget heap action false false false false true Is F is one two three four five six = five is
by-word main arg budget heap action false false false false false Is F is one two three four five six = six is

worded-fine : (number : ℕ) (plan : Plan) (word rest : List ℕ) (r : Answer) → AlternateRoots [] plan.actions
    → IsWorded number plan (word_of word) rest r → IsFine r
worded-fine number plan word rest r fine is =
    by-word _ _ _ _ _ (bytes_eq word (codes "main")) (bytes_eq word (codes "arg")) (bytes_eq word (codes "budget"))
    (bytes_eq word (codes "heap")) (bytes_eq word (codes "at")) (λ w. IsWorded number plan w rest r) (IsFine r) is
    (λ e. is-fine r _ e (main-fine number plan rest fine))
    (λ e. is-fine r _ e (arg-fine number plan rest fine))
    (λ e. is-fine r _ e (budget-fine number plan (number_of greatest_steps rest) fine))
    (λ e. is-fine r _ e (heap-fine number plan (heap_of rest) fine))
    (λ e. timed-fine number plan rest r fine e)
    (λ e. is-fine r _ e tt)

said-fine : (number : ℕ) (plan : Plan) (line : List ℕ) (r : Answer) → AlternateRoots [] plan.actions
    → IsSaid number plan line r → IsFine r
said-fine number plan line r fine =
    bool-fine (is_silent line) r _ _ (λ e. is-fine r _ e fine)
    (bool-fine (bytes_eq line (codes "arg")) r _ _ (λ e. is-fine r _ e (arg-fine number plan [] fine))
    (option-fine (halves line) r _ _ (λ e. is-fine r _ e tt)
    (λ parts. worded-fine number plan parts.0 parts.1 r fine)))

line-fine : (number : ℕ) (plan : Plan) (line : List ℕ) (r : Answer) → AlternateRoots [] plan.actions
    → IsLine number plan line r → IsFine r
line-fine number plan line r fine is = elim (cases_Bool (is_utf8 line)) [
  | inl utf8 ↦ said-fine number plan line r fine (is.text (IsUtf8-from_is_utf8 line utf8))
  | inr other ↦ is-fine r _ (is.other (λ text. false≢true (sym other ∙ is_utf8-from_IsUtf8 line text))) tt
]

-- ---- a text

read-fine : (lines : List (List ℕ)) (number : ℕ) (plan : Plan) (r : Answer) → AlternateRoots [] plan.actions
    → IsRead number plan lines r → IsFine r
read-fine [] number plan r fine is = is-fine r _ is fine
read-fine (line ∷ rest) number plan r fine is =
    by is.0 (line-fine number plan line is.0 fine is.1) (λ more fine is. read-fine rest (number + 1) more r fine is) is.2
  where
    by : (step : Answer) → IsFine step
        → ((more : Plan) → AlternateRoots [] more.actions → IsRead (number + 1) more rest r → IsFine r)
        → MatchResult step (λ more. IsRead (number + 1) more rest r) (λ fault. r ≡ Err fault) → IsFine r
    by (Ok more) fine later is = later more fine is
    by (Err fault) fine later is = is-fine r _ is tt

pub plan-fine : (bytes : List ℕ) (plan : Plan) → IsPlanRead bytes (Ok plan) → AlternateRoots [] plan.actions
plan-fine bytes plan is = by (nat_le (length bytes) most_bytes) is where
  by : (b : Bool) → MatchBool b (IsRead 1 silent_plan (lines_of bytes) (Ok plan)) ((let r : Answer = Ok plan in r) ≡ Err error.TooLong)
      → AlternateRoots [] plan.actions
  by true is = read-fine (lines_of bytes) 1 silent_plan (Ok plan) tt is
  by false is = absurd cc

pub selecting-fine : (root : RootName) → AlternateRoots [] (plan_selecting root).actions
selecting-fine root = (refl, tt)

same-plan : (p q : Plan) → ◌≡◌ {A = Answer} (Ok p) (Ok q) → p ≡ q
same-plan p q e = cc e

-- of the words' plan, whichever it is
pub own-fine : (root : Option (List ℕ)) (plan : Plan) → IsOwnPlan root (Ok plan) → AlternateRoots [] plan.actions
own-fine None plan is = subst (λ (p : Plan). AlternateRoots [] p.actions) (sym (same-plan plan silent_plan is)) tt
own-fine (Some word) plan is = subst (λ (p : Plan). AlternateRoots [] p.actions) (sym is.2) (selecting-fine is.0)

-- ---- what is selected

others-any : (m k : ℕ) (selected : List ℕ) → (m ≡ k → ⊥)
    → is_among m (filter (λ x. not (x == k)) selected) ≡ is_among m selected
others-any m k [] other = refl
others-any m k (x ∷ xs) other = by (x == k) refl (others-any m k xs other) where
  by : (b : Bool) → (x == k) ≡ b → is_among m (filter (λ x. not (x == k)) xs) ≡ is_among m xs
      → is_among m (cond (not b) (x ∷ filter (λ x. not (x == k)) xs) (filter (λ x. not (x == k)) xs)) ≡ (m == x || is_among m xs)
  by false e rest = ap (λ b. m == x || b) rest
  by true e rest =
      rest
      ∙ sym (ap (λ b. b || is_among m xs) (ne_eqb m x (λ is. other (is ∙ eqb-true x k e))))

others-none : (k : ℕ) (selected : List ℕ) → is_among k (filter (λ x. not (x == k)) selected) ≡ false
others-none k [] = refl
others-none k (x ∷ xs) = by (x == k) refl (others-none k xs) where
  by : (b : Bool) → (x == k) ≡ b → is_among k (filter (λ x. not (x == k)) xs) ≡ false
      → is_among k (cond (not b) (x ∷ filter (λ x. not (x == k)) xs) (filter (λ x. not (x == k)) xs)) ≡ false
  by true e rest = rest
  by false e rest = or_from (k == x) (is_among k (filter (λ x. not (x == k)) xs))
      (ne_eqb k x (λ is. false≢true (sym e ∙ eq-eqb x k (sym is)))) rest

differ : (k m : ℕ) → (k == m) ≡ false → m ≡ k → ⊥
differ k m e is = false≢true (sym e ∙ eq-eqb k m (sym is))

-- what one action makes of what is selected
chosen-one : (m : ℕ) (act : Act) (selected : List ℕ)
    → is_among m (methods_selected act selected) ≡ cond (act.method == m) act.select (is_among m selected)
chosen-one m act selected = by (act.method == m) refl act.select where
  by : (b : Bool) → (act.method == m) ≡ b → (select : Bool)
      → (let others : List ℕ = filter (λ x. not (x == act.method)) selected in
      is_among m (cond select (act.method ∷ others) others)) ≡ cond b select (is_among m selected)
  by true e true =
      or_left (m == act.method) (is_among m (filter (λ x. not (x == act.method)) selected))
      (eq-eqb m act.method (sym (eqb-true act.method m e)))
  by true e false =
      ap (λ (n : ℕ). is_among n (filter (λ x. not (x == act.method)) selected)) (sym (eqb-true act.method m e))
      ∙ others-none act.method selected
  by false e true =
      ap (λ b. b || is_among m (filter (λ x. not (x == act.method)) selected))
      (ne_eqb m act.method (differ act.method m e))
      ∙ others-any m act.method selected (differ act.method m e)
  by false e false = others-any m act.method selected (differ act.method m e)

-- ---- the acts of an admitted program

act-is : (p : Program) (a : Action) (act : Act) → IsActOf p a act → (root_in p a.root ≡ Some act.method) × (act.select ≡ a.select)
act-is p a act is = by (root_in p a.root) is where
  by : (o : Option ℕ) → (let f : ℕ → Act = λ m. record { moment = a.moment; select = a.select; method = m } in option_map f o ≡ Some act)
      → (o ≡ Some act.method) × (act.select ≡ a.select)
  by None e = absurd cc
  by (Some m) e =
      let same : (let x : Act = record { moment = a.moment; select = a.select; method = m } in x) ≡ act = cc e in
      (ap (λ (x : Act). let o : Option ℕ = Some x.method in o) same, sym (ap (λ (x : Act). x.select) same))

same-iff : (p : Program) (q r : RootName) (k m : ℕ) → root_in p q ≡ Some k → root_in p r ≡ Some m → same_root q r ≡ (k == m)
same-iff p q r k m left right = by (k == m) refl (same_root q r) refl where
  by : (b : Bool) → (k == m) ≡ b → (s : Bool) → same_root q r ≡ s → s ≡ b
  by true e true is = refl
  by false e false is = refl
  by true e false is =
      sym is ∙ named-alike p q r m (left ∙ ap (λ (n : ℕ). let o : Option ℕ = Some n in o) (eqb-true k m e)) right
  by false e true is =
      absurd (false≢true (sym e ∙ eq-eqb k m (same_Some k m (sym left ∙ (same-method p q r is ∙ right)))))

-- the plan's words and the program's numbers tell the same of what is selected
selected-alike : (p : Program) (r : RootName) (m : ℕ) → root_in p r ≡ Some m → (actions : List Action) (acts : List Act)
    → AllZip (IsActOf p) actions acts → (selected : List ℕ) (before : Bool) → is_among m selected ≡ before
    → is_among m (chosen_by selected acts) ≡ selected_after before r actions
selected-alike p r m named [] [] zip selected before is = is
selected-alike p r m named [] (act ∷ acts) zip selected before is = absurd zip
selected-alike p r m named (a ∷ rest) [] zip selected before is = absurd zip
selected-alike p r m named (a ∷ rest) (act ∷ acts) zip selected before is =
    let of = act-is p a act zip.0 in
    selected-alike p r m named rest acts zip.1 (methods_selected act selected) (cond (same_root a.root r) a.select before)
    (chosen-one m act selected
    ∙ (ap (λ b. cond b act.select (is_among m selected)) (sym (same-iff p a.root r act.method m of.0 named))
    ∙ (ap (λ s. cond (same_root a.root r) s (is_among m selected)) of.1
    ∙ ap (cond (same_root a.root r) a.select) is)))

acts-alternate : (p : Program) (earlier : List Action) (before : List Act) (actions : List Action) (acts : List Act)
    → AllZip (IsActOf p) earlier before → AllZip (IsActOf p) actions acts → AlternateRoots earlier actions → Alternate before acts
acts-alternate p earlier before [] [] front zip fine = tt
acts-alternate p earlier before [] (act ∷ acts) front zip fine = absurd zip
acts-alternate p earlier before (a ∷ rest) [] front zip fine = absurd zip
acts-alternate p earlier before (a ∷ rest) (act ∷ acts) front zip fine =
    let of = act-is p a act zip.0 in (
      selected-alike p a.root act.method of.0 earlier before front [] false refl
          ∙ (fine.0 ∙ ap not (sym of.1)),
      acts-alternate p (earlier ++ a ∷ []) (before ++ act ∷ []) rest acts
          (zip-push (IsActOf p) earlier before a act front zip.0) zip.1 fine.1,
    )

-- an admitted program's acts select what is not selected, and deselect what is
pub acts-alternating : (classes : List ClassFile) (name : List ℕ) (plan : Plan) (p : Program)
    → AlternateRoots [] plan.actions → admission_of classes name plan ≡ Ok p → Alternate [] p.acts
acts-alternating classes name plan p fine admitted =
    acts-alternate (program_for classes plan) [] [] plan.actions p.acts tt (plan-acts classes name plan p admitted)
    fine
