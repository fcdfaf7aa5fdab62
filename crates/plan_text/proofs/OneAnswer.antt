-- A text has one answer: two that the definition allows are the same.
use Rattle.std.proofs.Common.{◌≡◌, ℕ, ◌+◌, Bool, true, false, List, [], ◌∷◌, Option, Some, None, refl, sym, ap, subst}
use Rattle.std.specs.Prelude.{Result, Ok, Err, MatchOption, nat_le, length}
use Rattle.std.specs.Bool.{MatchBool}
use Rattle.std.specs.Result.{MatchResult}
use Rattle.std.specs.Str.{is_utf8, bytes_eq, IsUtf8}
use Rattle.std.specs.Prelude.{codes}
use Rattle.std.proofs.lemmas.Str.{IsUtf8-from_is_utf8, is_utf8-from_IsUtf8}
use Rattle.std.proofs.lemmas.Bool.{false≢true}
use Rattle.plan_text.specs.declared.plan.RootName.{RootName}
use Rattle.plan_text.specs.declared.plan.Plan.{Plan}
use Rattle.plan_text.specs.declared.plan.PlanError.{PlanError}
use Rattle.plan_text.specs.declared.plan.LineCause.TheVariants.{Unknown}
use Rattle.plan_text.specs.declared.plan.PlanError.TheVariants.{BadLine, TooLong}
use Rattle.plan_text.specs.declared.lines.Word.{Word}
use Rattle.plan_text.specs.declared.lines.Word.TheVariants.{Main, Arg, Budget, Heap, At}
use Rattle.plan_text.specs.Numbers.{number_of, greatest_steps}
use Rattle.plan_text.specs.Roots.{IsRoot, IsNoRoot}
use Rattle.plan_text.specs.Lines.{halves, is_silent, word_of, order_of, lines_of, most_bytes, silent_plan, with_root, with_arg, IsActed, IsOrdered, IsTimed, IsWorded, IsSaid, IsLine, IsRead, IsPlanRead}

-- an answer, as the definitions speak of it
abbrev Answer : Type 0
Answer = Result Plan PlanError

-- at most one answer
abbrev IsOne : (Answer → Type 0) → Type 0
IsOne Holds = (a b : Answer) → Holds a → Holds b → a ≡ b

this_one : (answer : Answer) → IsOne (λ r. r ≡ answer)
this_one answer a b first second = cc

-- ---- by cases

option_one : {A : Type 0} (o : Option A) (Without : Answer → Type 0) (With : A → Answer → Type 0) → IsOne Without → ((x : A) → IsOne (With x)) → IsOne (λ r. MatchOption o (Without r) (λ x. With x r))
option_one None Without With without with_one a b first second = without a b first second
option_one (Some x) Without With without with_one a b first second = with_one x a b first second

bool_one : (t : Bool) (Yes No : Answer → Type 0) → IsOne Yes → IsOne No → IsOne (λ r. MatchBool t (Yes r) (No r))
bool_one true Yes No yes_one no_one a b first second = yes_one a b first second
bool_one false Yes No yes_one no_one a b first second = no_one a b first second

-- ---- a line

-- a word has one reading as a root
root-one : (word : List ℕ) (o p : Option RootName) → MatchOption o (IsNoRoot word) (IsRoot word) → MatchOption p (IsNoRoot word) (IsRoot word) → o ≡ p
root-one word None None first second = refl
root-one word None (Some q) first second = absurd (first q second)
root-one word (Some r) None first second = absurd (second r first)
root-one word (Some r) (Some q) first second = let e = first.parts in let k = second.parts in cc

acted-one : (number : ℕ) (plan : Plan) (moment : Option ℕ) (select : Bool) (word : List ℕ) → IsOne (IsActed number plan moment select word)
acted-one number plan None select word a b first second = cc
acted-one number plan (Some moment) select word a b first second =
    let same : first.0 ≡ second.0 = root-one word first.0 second.0 first.1 second.1 in
    let answers : with_root number plan moment select first.0 ≡ with_root number plan moment select second.0 = ap (with_root number plan moment select) same in
    let e = first.2 in let k = second.2 in cc

ordered-one : (number : ℕ) (plan : Plan) (moment : List ℕ) (order : Option Bool) (word : List ℕ) → IsOne (IsOrdered number plan moment order word)
ordered-one number plan moment None word a b first second = cc
ordered-one number plan moment (Some select) word a b first second = acted-one number plan (number_of greatest_steps moment) select word a b first second

timed-one : (number : ℕ) (plan : Plan) (rest : List ℕ) → IsOne (IsTimed number plan rest)
timed-one number plan rest =
    option_one (halves rest) (λ r. r ≡ Err (BadLine number Unknown))
    (λ timed r. MatchOption (halves timed.1) (r ≡ Err (BadLine number Unknown)) (λ ordered. IsOrdered number plan timed.0 (order_of ordered.0) ordered.1 r))
    (this_one (Err (BadLine number Unknown)))
    (λ timed. option_one (halves timed.1) (λ r. r ≡ Err (BadLine number Unknown))
    (λ ordered r. IsOrdered number plan timed.0 (order_of ordered.0) ordered.1 r)
    (this_one (Err (BadLine number Unknown)))
    (λ ordered. ordered-one number plan timed.0 (order_of ordered.0) ordered.1))

worded-one : (number : ℕ) (plan : Plan) (word : Option Word) (rest : List ℕ) → IsOne (IsWorded number plan word rest)
worded-one number plan None rest a b first second = cc
worded-one number plan (Some Main) rest a b first second = cc
worded-one number plan (Some Arg) rest a b first second = cc
worded-one number plan (Some Budget) rest a b first second = cc
worded-one number plan (Some Heap) rest a b first second = cc
worded-one number plan (Some At) rest a b first second = timed-one number plan rest a b first second

said-one : (number : ℕ) (plan : Plan) (line : List ℕ) → IsOne (IsSaid number plan line)
said-one number plan line =
    bool_one (is_silent line) (λ r. r ≡ Ok plan)
    (λ r. MatchBool (bytes_eq line (codes "arg")) (r ≡ with_arg number plan []) (MatchOption (halves line) (r ≡ Err (BadLine number Unknown)) (λ parts. IsWorded number plan (word_of parts.0) parts.1 r)))
    (this_one (Ok plan))
    (bool_one (bytes_eq line (codes "arg")) (λ r. r ≡ with_arg number plan [])
    (λ r. MatchOption (halves line) (r ≡ Err (BadLine number Unknown)) (λ parts. IsWorded number plan (word_of parts.0) parts.1 r))
    (this_one (with_arg number plan []))
    (option_one (halves line) (λ r. r ≡ Err (BadLine number Unknown)) (λ parts r. IsWorded number plan (word_of parts.0) parts.1 r)
    (this_one (Err (BadLine number Unknown)))
    (λ parts. worded-one number plan (word_of parts.0) parts.1)))

-- where the test is known
line-tested : (test : Bool) (number : ℕ) (plan : Plan) (line : List ℕ) → is_utf8 line ≡ test → IsOne (IsLine number plan line)
line-tested true number plan line tested a b first second =
    let utf8 : IsUtf8 line = IsUtf8-from_is_utf8 line tested in
    said-one number plan line a b (first.text utf8) (second.text utf8)
line-tested false number plan line tested a b first second =
    let no : IsUtf8 line → ⊥ = λ utf8. let yes = is_utf8-from_IsUtf8 line utf8 in false≢true cc in
    let e = first.other no in let k = second.other no in cc

line-one : (number : ℕ) (plan : Plan) (line : List ℕ) → IsOne (IsLine number plan line)
line-one number plan line = line-tested (is_utf8 line) number plan line refl

-- ---- a text

-- the same step leads to the same answer
gone_on-one : (number : ℕ) (rest : List (List ℕ)) (step : Answer) → ((plan : Plan) → IsOne (IsRead (number + 1) plan rest))
    → IsOne (λ r. MatchResult step (λ more. IsRead (number + 1) more rest r) (λ fault. r ≡ Err fault))
gone_on-one number rest (Ok plan) later a b first second = later plan a b first second
gone_on-one number rest (Err fault) later a b first second = cc

read-one : (lines : List (List ℕ)) (number : ℕ) (plan : Plan) → IsOne (IsRead number plan lines)
read-one [] number plan a b first second = cc
read-one (line ∷ rest) number plan a b first second =
    let same : second.0 ≡ first.0 = sym (line-one number plan line first.0 second.0 first.1 second.1) in
    gone_on-one number rest first.0 (λ more. read-one rest (number + 1) more) a b first.2
    (subst (λ step. MatchResult step (λ more. IsRead (number + 1) more rest b) (λ fault. b ≡ Err fault)) same second.2)

-- a text has one answer
pub plan_read-one : (bytes : List ℕ) → IsOne (IsPlanRead bytes)
plan_read-one bytes =
    bool_one (nat_le (length bytes) most_bytes) (IsRead 1 silent_plan (lines_of bytes)) (λ r. r ≡ Err TooLong)
    (read-one (lines_of bytes) 1 silent_plan) (this_one (Err TooLong))
