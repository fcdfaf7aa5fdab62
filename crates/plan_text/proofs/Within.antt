-- The plan that a text says keeps to its bounds.
use Rattle.std.proofs.Common.{◌≡◌, ℕ, ◌+◌, ◌≤◌, Bool, true, false, List, [], ◌∷◌, ◌++◌, length, Option, Some, None, refl, sym, subst, arith}
use Rattle.std.specs.Prelude.{Result, Ok, Err, MatchOption, IfOk, IfSome, codes, is_some, not, nat_le, nat_lt, ◌==◌, ◌&&◌, if◌then◌else◌}
use Rattle.std.specs.Bool.{MatchBool}
use Rattle.std.specs.Result.{MatchResult}
use Rattle.std.specs.Option.{option_and_then}
use Rattle.std.specs.List.{AllByRecursion, list_any}
use Rattle.std.specs.Str.{is_utf8, bytes_eq, IsUtf8}
use Rattle.std.specs.Str.Parse.{digits_value}
use Rattle.std.proofs.lemmas.Bool.{and_parts, leb-true, ltb-true, ltb-false, false≢true, or_parts}
use Rattle.std.proofs.lemmas.List.{length-append}
use Rattle.std.proofs.lemmas.Option.{none-some}
use Rattle.std.proofs.lemmas.Str.{IsUtf8-from_is_utf8, is_utf8-from_IsUtf8}
use Rattle.jf_bytes.specs.Unicode.{utf16_of}
use Rattle.plan_text.specs.declared.plan.RootName.{RootName}
use Rattle.plan_text.specs.declared.plan.Action.{Action}
use Rattle.plan_text.specs.declared.plan.Plan.{Plan}
use Rattle.plan_text.specs.declared.plan.PlanError.{PlanError}
use Rattle.plan_text.specs.declared.plan.LineCause.TheVariants.{Utf8, Unknown, Number, Name, Twice}
use Rattle.plan_text.specs.declared.plan.PlanError.TheVariants.{BadLine, TooMany, Backwards, AlreadySelected, NotSelected}
use Rattle.plan_text.specs.declared.lines.Word.{Word}
use Rattle.plan_text.specs.declared.lines.Word.TheVariants.{Main, Arg, Budget, Heap, At}
use Rattle.plan_text.specs.Numbers.{is_number, number_of, heap_of, greatest_steps, least_heap, greatest_heap}
use Rattle.plan_text.specs.Roots.{name_slashed}
use Rattle.plan_text.specs.Lines.{halves, is_silent, word_of, order_of, most_said, silent_plan, selected_after, action_misplaced, with_main, with_arg, with_budget, with_heap, with_placed, with_action, with_root, IsActed, IsOrdered, IsTimed, IsWorded, IsSaid, IsLine, IsRead, UpToMemory}
use Rattle.plan_text.specs.Bounds.{DoNotFall, IsWithin}

abbrev Answer : Type 0
Answer = Result Plan PlanError

-- a plan that is answered is within its bounds
abbrev IsKept : Answer → Type 0
IsKept r = IfOk r IsWithin

-- so are those of which this holds
abbrev Keeps : (Answer → Type 0) → Type 0
Keeps Holds = (r : Answer) → Holds r → IsKept r

-- ---- by cases

kept_if : (t : Bool) (one another : Answer) → (t ≡ true → IsKept one) → (t ≡ false → IsKept another) → IsKept (if t then one else another)
kept_if true one another first second = first refl
kept_if false one another first second = second refl

keeps_one : (answer : Answer) → IsKept answer → Keeps (λ r. r ≡ answer)
keeps_one answer kept r is = subst IsKept (sym is) kept

option_keeps : {A : Type 0} (o : Option A) (Without : Answer → Type 0) (With : A → Answer → Type 0) → Keeps Without → ((x : A) → Keeps (With x)) → Keeps (λ r. MatchOption o (Without r) (λ x. With x r))
option_keeps None Without With without with_one r holds = without r holds
option_keeps (Some x) Without With without with_one r holds = with_one x r holds

bool_keeps : (t : Bool) (Yes No : Answer → Type 0) → Keeps Yes → Keeps No → Keeps (λ r. MatchBool t (Yes r) (No r))
bool_keeps true Yes No yes_one no_one r holds = yes_one r holds
bool_keeps false Yes No yes_one no_one r holds = no_one r holds

-- ---- numbers

some_if : (t : Bool) (value most : ℕ) → (t ≡ true → value ≤ most) → IfSome (if t then Some value else None) (λ n. n ≤ most)
some_if true value most fits = fits refl
some_if false value most fits = tt

number-fits : (most : ℕ) (word : List ℕ) → IfSome (number_of most word) (λ n. n ≤ most)
number-fits most word =
    let value : ℕ = digits_value 10 word in
    some_if (is_number word && nat_le value most) value most
    (λ t. leb-true value most (and_parts (is_number word) (nat_le value most) t).1)

least_if : (t : Bool) (slots : ℕ) → (t ≡ true → least_heap ≤ slots) → slots ≤ greatest_heap → IfSome (if t then Some slots else None) (λ n. (least_heap ≤ n) × (n ≤ greatest_heap))
least_if true slots least most = (least refl, most)
least_if false slots least most = tt

least-fits : (o : Option ℕ) → IfSome o (λ n. n ≤ greatest_heap) → IfSome (option_and_then (λ slots. if nat_le least_heap slots then Some slots else None) o) (λ n. (least_heap ≤ n) × (n ≤ greatest_heap))
least-fits None most = tt
least-fits (Some slots) most = least_if (nat_le least_heap slots) slots (λ t. leb-true least_heap slots t) most

-- ---- a plan with one line more

main-within : (number : ℕ) (plan : Plan) (name : List ℕ) → IsWithin plan → IsKept (with_main number plan name)
main-within number plan name w =
    let more : Plan = record plan { main = Some (name_slashed (utf16_of name)) } in
    kept_if (length name == 0) (Err (BadLine number Name)) (if is_some plan.main then Err (BadLine number Twice) else Ok more)
    (λ _. tt)
    (λ _. kept_if (is_some plan.main) (Err (BadLine number Twice)) (Ok more) (λ _. tt)
    (λ _. record { args = w.args; actions = w.actions; budget = w.budget; heap = w.heap; moments = w.moments; rising = w.rising }))

arg-within : (number : ℕ) (plan : Plan) (text : List ℕ) → IsWithin plan → IsKept (with_arg number plan text)
arg-within number plan text w =
    kept_if (nat_lt (length plan.args) most_said) (Ok (record plan { args = plan.args ++ utf16_of text ∷ [] })) (Err (TooMany number))
    (λ few. record {
      args = omega (arith, length-append plan.args (utf16_of text ∷ []), ltb-true (length plan.args) most_said few);
      actions = w.actions;
      budget = w.budget;
      heap = w.heap;
      moments = w.moments;
      rising = w.rising;
    })
    (λ _. tt)

budget-within : (number : ℕ) (plan : Plan) (o : Option ℕ) → IfSome o (λ n. n ≤ greatest_steps) → IsWithin plan → IsKept (with_budget number plan o)
budget-within number plan None fits w = tt
budget-within number plan (Some steps) fits w =
    kept_if (is_some plan.budget) (Err (BadLine number Twice)) (Ok (record plan { budget = Some steps })) (λ _. tt)
    (λ _. record { args = w.args; actions = w.actions; budget = fits; heap = w.heap; moments = w.moments; rising = w.rising })

heap-within : (number : ℕ) (plan : Plan) (o : Option ℕ) → IfSome o (λ n. (least_heap ≤ n) × (n ≤ greatest_heap)) → IsWithin plan → IsKept (with_heap number plan o)
heap-within number plan None fits w = tt
heap-within number plan (Some slots) fits w =
    kept_if (is_some plan.heap) (Err (BadLine number Twice)) (Ok (record plan { heap = Some slots })) (λ _. tt)
    (λ _. record { args = w.args; actions = w.actions; budget = w.budget; heap = fits; moments = w.moments; rising = w.rising })

-- ---- actions

all_pushed : (P : Action → Type 0) (xs : List Action) (x : Action) → AllByRecursion P xs → P x → AllByRecursion P (xs ++ x ∷ [])
all_pushed P [] x all holds = (holds, tt)
all_pushed P (y ∷ xs) x all holds = (all.0, all_pushed P xs x all.1 holds)

pushed-rising : (xs : List Action) (x : Action) → DoNotFall xs → AllByRecursion (λ e. e.moment ≤ x.moment) xs → DoNotFall (xs ++ x ∷ [])
pushed-rising [] x rising below = (tt, tt)
pushed-rising (y ∷ xs) x rising below =
    (all_pushed (λ later. y.moment ≤ later.moment) xs x rising.0 below.0, pushed-rising xs x rising.1 below.1)

none_above : (xs : List Action) (moment : ℕ) → list_any (λ e. nat_lt moment e.moment) xs ≡ false → AllByRecursion (λ e. e.moment ≤ moment) xs
none_above [] moment none = tt
none_above (x ∷ xs) moment none =
    let parts = or_parts (nat_lt moment x.moment) (list_any (λ e. nat_lt moment e.moment) xs) none in
    (ltb-false moment x.moment parts.0, none_above xs moment parts.1)

-- no fault is found where the first test fails and the last one holds
no_fault : (a b c d : Bool) (first second third fourth : PlanError)
    → (if a then Some first else if b then Some second else if c then Some third else if d then None else Some fourth) ≡ None
    → (a ≡ false) × (d ≡ true)
no_fault true b c d first second third fourth e = absurd (none-some first (sym e))
no_fault false true c d first second third fourth e = absurd (none-some second (sym e))
no_fault false false true d first second third fourth e = absurd (none-some third (sym e))
no_fault false false false true first second third fourth e = (refl, refl)
no_fault false false false false first second third fourth e = absurd (none-some fourth (sym e))

placed-within : (plan : Plan) (action : Action) (fault : Option PlanError) → (fault ≡ None → IsWithin (record plan { actions = plan.actions ++ action ∷ [] })) → IsKept (with_placed plan action fault)
placed-within plan action None within = within refl
placed-within plan action (Some fault) within = tt

action-within : (number : ℕ) (plan : Plan) (action : Action) → action.moment ≤ greatest_steps → IsWithin plan → IsKept (with_action number plan action)
action-within number plan action moment_fits w =
    placed-within plan action (action_misplaced number plan.actions action) (λ fine.
    let selected : Bool = selected_after false action.root plan.actions in
    let found = no_fault (list_any (λ e. nat_lt action.moment e.moment) plan.actions) (action.select && selected)
    (not action.select && not selected) (nat_lt (length plan.actions) most_said)
    (Backwards number) (AlreadySelected number) (NotSelected number) (TooMany number) fine in
    record {
      args = w.args;
      actions = omega (arith, length-append plan.actions (action ∷ []), ltb-true (length plan.actions) most_said found.1);
      budget = w.budget;
      heap = w.heap;
      moments = all_pushed (λ a. a.moment ≤ greatest_steps) plan.actions action w.moments moment_fits;
      rising = pushed-rising plan.actions action w.rising (none_above plan.actions action.moment found.0);
    })

root-within : (number : ℕ) (plan : Plan) (moment : ℕ) (select : Bool) (root : Option RootName) → moment ≤ greatest_steps → IsWithin plan → IsKept (with_root number plan moment select root)
root-within number plan moment select None moment_fits w = tt
root-within number plan moment select (Some root) moment_fits w =
    action-within number plan (record { moment = moment; select = select; root = root }) moment_fits w

-- ---- a line

acted-keeps : (number : ℕ) (plan : Plan) (moment : Option ℕ) (select : Bool) (word : List ℕ) → IfSome moment (λ n. n ≤ greatest_steps) → IsWithin plan → Keeps (IsActed number plan moment select word)
acted-keeps number plan None select word moment_fits w r holds = keeps_one (Err (BadLine number Number)) tt r holds
acted-keeps number plan (Some moment) select word moment_fits w r holds =
    keeps_one (with_root number plan moment select holds.0) (root-within number plan moment select holds.0 moment_fits w) r holds.2

ordered-keeps : (number : ℕ) (plan : Plan) (moment : List ℕ) (order : Option Bool) (word : List ℕ) → IsWithin plan → Keeps (IsOrdered number plan moment order word)
ordered-keeps number plan moment None word w r holds = keeps_one (Err (BadLine number Unknown)) tt r holds
ordered-keeps number plan moment (Some select) word w r holds =
    acted-keeps number plan (number_of greatest_steps moment) select word (number-fits greatest_steps moment) w r holds

timed-keeps : (number : ℕ) (plan : Plan) (rest : List ℕ) → IsWithin plan → Keeps (IsTimed number plan rest)
timed-keeps number plan rest w =
    option_keeps (halves rest) (λ r. r ≡ Err (BadLine number Unknown))
    (λ timed r. MatchOption (halves timed.1) (r ≡ Err (BadLine number Unknown)) (λ ordered. IsOrdered number plan timed.0 (order_of ordered.0) ordered.1 r))
    (keeps_one (Err (BadLine number Unknown)) tt)
    (λ timed. option_keeps (halves timed.1) (λ r. r ≡ Err (BadLine number Unknown))
    (λ ordered r. IsOrdered number plan timed.0 (order_of ordered.0) ordered.1 r)
    (keeps_one (Err (BadLine number Unknown)) tt)
    (λ ordered. ordered-keeps number plan timed.0 (order_of ordered.0) ordered.1 w))

worded-keeps : (number : ℕ) (plan : Plan) (word : Option Word) (rest : List ℕ) → IsWithin plan → Keeps (IsWorded number plan word rest)
worded-keeps number plan None rest w r holds = keeps_one (Err (BadLine number Unknown)) tt r holds
worded-keeps number plan (Some Main) rest w r holds = keeps_one (with_main number plan rest) (main-within number plan rest w) r holds
worded-keeps number plan (Some Arg) rest w r holds = keeps_one (with_arg number plan rest) (arg-within number plan rest w) r holds
worded-keeps number plan (Some Budget) rest w r holds =
    keeps_one (with_budget number plan (number_of greatest_steps rest)) (budget-within number plan (number_of greatest_steps rest) (number-fits greatest_steps rest) w) r holds
worded-keeps number plan (Some Heap) rest w r holds =
    keeps_one (with_heap number plan (heap_of rest)) (heap-within number plan (heap_of rest) (least-fits (number_of greatest_heap rest) (number-fits greatest_heap rest)) w) r holds
worded-keeps number plan (Some At) rest w r holds = timed-keeps number plan rest w r holds

said-keeps : (number : ℕ) (plan : Plan) (line : List ℕ) → IsWithin plan → Keeps (IsSaid number plan line)
said-keeps number plan line w =
    bool_keeps (is_silent line) (λ r. r ≡ Ok plan)
    (λ r. MatchBool (bytes_eq line (codes "arg")) (r ≡ with_arg number plan []) (MatchOption (halves line) (r ≡ Err (BadLine number Unknown)) (λ parts. IsWorded number plan (word_of parts.0) parts.1 r)))
    (keeps_one (Ok plan) w)
    (bool_keeps (bytes_eq line (codes "arg")) (λ r. r ≡ with_arg number plan [])
    (λ r. MatchOption (halves line) (r ≡ Err (BadLine number Unknown)) (λ parts. IsWorded number plan (word_of parts.0) parts.1 r))
    (keeps_one (with_arg number plan []) (arg-within number plan [] w))
    (option_keeps (halves line) (λ r. r ≡ Err (BadLine number Unknown)) (λ parts r. IsWorded number plan (word_of parts.0) parts.1 r)
    (keeps_one (Err (BadLine number Unknown)) tt)
    (λ parts. worded-keeps number plan (word_of parts.0) parts.1 w)))

line-tested : (test : Bool) (number : ℕ) (plan : Plan) (line : List ℕ) → is_utf8 line ≡ test → IsWithin plan → Keeps (IsLine number plan line)
line-tested true number plan line tested w r holds =
    said-keeps number plan line w r (holds.text (IsUtf8-from_is_utf8 line tested))
line-tested false number plan line tested w r holds =
    let refuted : IsUtf8 line → ⊥ = λ utf8. let found = is_utf8-from_IsUtf8 line utf8 in false≢true cc in
    keeps_one (Err (BadLine number Utf8)) tt r (holds.other refuted)

-- ---- a text

gone_on-keeps : (number : ℕ) (rest : List (List ℕ)) (step : Answer) → IsKept step → ((plan : Plan) → IsWithin plan → Keeps (IsRead (number + 1) plan rest))
    → Keeps (λ r. MatchResult step (λ more. IsRead (number + 1) more rest r) (λ fault. r ≡ Err fault))
gone_on-keeps number rest (Ok plan) kept later r holds = later plan kept r holds
gone_on-keeps number rest (Err fault) kept later r holds = keeps_one (Err fault) tt r holds

read-keeps : (lines : List (List ℕ)) (number : ℕ) (plan : Plan) → IsWithin plan → Keeps (IsRead number plan lines)
read-keeps [] number plan w r holds = keeps_one (Ok plan) w r holds
read-keeps (line ∷ rest) number plan w r holds =
    gone_on-keeps number rest holds.0 (line-tested (is_utf8 line) number plan line refl w holds.0 holds.1)
    (λ more within. read-keeps rest (number + 1) more within) r holds.2

silent-within : IsWithin silent_plan
silent-within = record { args = omega arith; actions = omega arith; budget = tt; heap = tt; moments = tt; rising = tt }

-- what lines say is within the bounds
pub read-within : (lines : List (List ℕ)) (r : Answer) → UpToMemory r (IsRead 1 silent_plan lines) → IfOk r IsWithin
read-within lines (Ok plan) holds = read-keeps lines 1 silent_plan silent-within (Ok plan) holds
read-within lines (Err fault) holds = tt
