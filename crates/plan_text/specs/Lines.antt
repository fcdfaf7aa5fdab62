-- What a plan's text says, line by line, and the first line with a fault.
use Rattle.std.specs.Prelude.{◌≡◌, ◌≢◌, ℕ, ◌+◌, ◌-◌, Bool, true, false, not, ◌==◌, ◌&&◌, List, [], ◌∷◌, ◌++◌, length, take, Option, Some, None, is_some, Result, Ok, Err, codes, nat_lt, nat_le, slice_index, if◌then◌else◌, MatchOption}
use Rattle.std.specs.Bool.{MatchBool}
use Rattle.std.specs.Result.{MatchResult}
use Rattle.std.specs.List.{list_any, slice_split, position_or_len, before_first, after_first}
use Rattle.std.specs.Str.{IsUtf8, bytes_eq}
use Rattle.jf_bytes.specs.Unicode.{utf16_of}
use Rattle.plan_text.specs.declared.plan.RootName.{RootName}
use Rattle.plan_text.specs.declared.plan.Action.{Action}
use Rattle.plan_text.specs.declared.plan.Plan.{Plan}
use Rattle.plan_text.specs.declared.plan.LineCause.TheVariants.{Utf8, Unknown, Number, Name, Root, Twice}
use Rattle.plan_text.specs.declared.plan.PlanError.{PlanError}
use Rattle.plan_text.specs.declared.plan.PlanError.TheVariants.{TooLong, BadLine, Backwards, AlreadySelected, NotSelected, TooMany, NoMemory}
use Rattle.plan_text.specs.declared.lines.Word.{Word}
use Rattle.plan_text.specs.declared.lines.Word.TheVariants.{Main, Arg, Budget, Heap, At}
use Rattle.plan_text.specs.Numbers.{number_of, heap_of, greatest_steps}
use Rattle.plan_text.specs.Roots.{IsRoot, IsNoRoot, name_slashed}

-- ---- lines and their words

-- a text of more bytes is no plan
abbrev pub most_bytes : ℕ
most_bytes = 1048576

abbrev pub is_feed : ℕ → Bool
is_feed byte = byte == 10

-- less one byte 13 at the end
abbrev pub without_return : List ℕ → List ℕ
without_return piece = if slice_index piece (length piece - 1) == 13 then take (length piece - 1) piece else piece

-- A piece between bytes 10 is a line. Only before a byte 10 a byte 13 is no part of it, so not in the last one.
abbrev pub line_before : List ℕ → List (List ℕ) → List ℕ
line_before piece [] = piece
line_before piece (next ∷ more) = without_return piece

abbrev pub lines_in : List (List ℕ) → List (List ℕ)
lines_in [] = []
lines_in (piece ∷ rest) = line_before piece rest ∷ lines_in rest

-- the lines of a text, of which one that is empty says nothing, so it is no matter whether the last one ends with a
-- byte 10
abbrev pub lines_of : List ℕ → List (List ℕ)
lines_of bytes = lines_in (slice_split is_feed bytes)

abbrev pub is_space : ℕ → Bool
is_space byte = byte == 32

-- what stands before the first space and behind it
abbrev pub halves : List ℕ → Option (List ℕ × List ℕ)
halves line =
    if nat_lt (position_or_len is_space line) (length line)
    then Some (before_first is_space line, after_first is_space line)
    else None

-- an empty line, or a comment
abbrev pub is_silent : List ℕ → Bool
is_silent [] = true
is_silent (first ∷ rest) = first == 35

-- the first word of a line
abbrev pub word_of : List ℕ → Option Word
word_of word =
    if bytes_eq word (codes "main") then Some Main
    else if bytes_eq word (codes "arg") then Some Arg
    else if bytes_eq word (codes "budget") then Some Budget
    else if bytes_eq word (codes "heap") then Some Heap
    else if bytes_eq word (codes "at") then Some At
    else None

-- whether a root is selected or deselected
abbrev pub order_of : List ℕ → Option Bool
order_of word =
    if bytes_eq word (codes "select") then Some true
    else if bytes_eq word (codes "deselect") then Some false
    else None

-- ---- the plan so far, and with one line more

abbrev pub silent_plan : Plan
silent_plan = record { main = None; args = []; budget = None; heap = None; actions = [] }

-- so many args and so many actions a plan may have
abbrev pub most_said : ℕ
most_said = 256

abbrev pub with_main : ℕ → Plan → List ℕ → Result Plan PlanError
with_main number plan name =
    if length name == 0 then Err (BadLine number Name)
    else if is_some plan.main then Err (BadLine number Twice)
    else Ok (record plan { main = Some (name_slashed (utf16_of name)) })

abbrev pub with_arg : ℕ → Plan → List ℕ → Result Plan PlanError
with_arg number plan text =
    if nat_lt (length plan.args) most_said
    then Ok (record plan { args = plan.args ++ utf16_of text ∷ [] })
    else Err (TooMany number)

abbrev pub with_budget : ℕ → Plan → Option ℕ → Result Plan PlanError
with_budget number plan None = Err (BadLine number Number)
with_budget number plan (Some steps) =
    if is_some plan.budget then Err (BadLine number Twice)
    else Ok (record plan { budget = Some steps })

abbrev pub with_heap : ℕ → Plan → Option ℕ → Result Plan PlanError
with_heap number plan None = Err (BadLine number Number)
with_heap number plan (Some slots) =
    if is_some plan.heap then Err (BadLine number Twice)
    else Ok (record plan { heap = Some slots })

abbrev pub same_root : RootName → RootName → Bool
same_root a b = (bytes_eq a.class b.class && bytes_eq a.name b.name) && bytes_eq a.descriptor b.descriptor

-- whether a root is selected behind these actions, where it was or was not before them
abbrev pub selected_after : Bool → RootName → List Action → Bool
selected_after before root [] = before
selected_after before root (action ∷ rest) =
    selected_after (if same_root action.root root then action.select else before) root rest

-- an action is out of place: its moment is below an earlier one, its root is selected twice, or is not selected
abbrev pub action_misplaced : ℕ → List Action → Action → Option PlanError
action_misplaced number earlier action =
    let selected = selected_after false action.root earlier in
    if list_any (λ e. nat_lt action.moment e.moment) earlier then Some (Backwards number)
    else if action.select && selected then Some (AlreadySelected number)
    else if not action.select && not selected then Some (NotSelected number)
    else if nat_lt (length earlier) most_said then None
    else Some (TooMany number)

abbrev pub with_placed : Plan → Action → Option PlanError → Result Plan PlanError
with_placed plan action (Some fault) = Err fault
with_placed plan action None = Ok (record plan { actions = plan.actions ++ action ∷ [] })

abbrev pub with_action : ℕ → Plan → Action → Result Plan PlanError
with_action number plan action = with_placed plan action (action_misplaced number plan.actions action)

-- with the action for the root that a word names, if it names one
abbrev pub with_root : ℕ → Plan → ℕ → Bool → Option RootName → Result Plan PlanError
with_root number plan moment select None = Err (BadLine number Root)
with_root number plan moment select (Some root) =
    with_action number plan (record { moment = moment; select = select; root = root })

-- ---- what a line does, by its form

-- a moment, an order and the word for a root
abbrev pub IsActed : ℕ → Plan → Option ℕ → Bool → List ℕ → Result Plan PlanError → Type 0
IsActed number plan None select word r = r ≡ Err (BadLine number Number)
IsActed number plan (Some moment) select word r =
    (root : Option RootName) × MatchOption root (IsNoRoot word) (IsRoot word) × (r ≡ with_root number plan moment select root)

abbrev pub IsOrdered : ℕ → Plan → List ℕ → Option Bool → List ℕ → Result Plan PlanError → Type 0
IsOrdered number plan moment None word r = r ≡ Err (BadLine number Unknown)
IsOrdered number plan moment (Some select) word r =
    IsActed number plan (number_of greatest_steps moment) select word r

-- what stands behind `at` and a space
abbrev pub IsTimed : ℕ → Plan → List ℕ → Result Plan PlanError → Type 0
IsTimed number plan rest r = MatchOption (halves rest) (r ≡ Err (BadLine number Unknown)) (λ timed.
    MatchOption (halves timed.1) (r ≡ Err (BadLine number Unknown)) (λ ordered.
    IsOrdered number plan timed.0 (order_of ordered.0) ordered.1 r))

-- a word, and what stands behind it and a space
abbrev pub IsWorded : ℕ → Plan → Option Word → List ℕ → Result Plan PlanError → Type 0
IsWorded number plan None rest r = r ≡ Err (BadLine number Unknown)
IsWorded number plan (Some Main) rest r = r ≡ with_main number plan rest
IsWorded number plan (Some Arg) rest r = r ≡ with_arg number plan rest
IsWorded number plan (Some Budget) rest r = r ≡ with_budget number plan (number_of greatest_steps rest)
IsWorded number plan (Some Heap) rest r = r ≡ with_heap number plan (heap_of rest)
IsWorded number plan (Some At) rest r = IsTimed number plan rest r

-- a line of characters
abbrev pub IsSaid : ℕ → Plan → List ℕ → Result Plan PlanError → Type 0
IsSaid number plan line r =
    MatchBool (is_silent line) (r ≡ Ok plan)
    (MatchBool (bytes_eq line (codes "arg")) (r ≡ with_arg number plan [])
    (MatchOption (halves line) (r ≡ Err (BadLine number Unknown)) (λ parts.
    IsWorded number plan (word_of parts.0) parts.1 r)))

-- a line
pub record IsLine (number : ℕ) (plan : Plan) (line : List ℕ) (r : Result Plan PlanError) : Type 0 where
  pub text : IsUtf8 line → IsSaid number plan line r
  pub other : ¬ (IsUtf8 line) → r ≡ Err (BadLine number Utf8)

-- ---- the whole

-- the lines from this number on, up to the first with a fault
abbrev pub IsRead : ℕ → Plan → List (List ℕ) → Result Plan PlanError → Type 0
IsRead number plan [] r = r ≡ Ok plan
IsRead number plan (line ∷ rest) r =
    (step : Result Plan PlanError) × IsLine number plan line step
    × MatchResult step (λ more. IsRead (number + 1) more rest r) (λ fault. r ≡ Err fault)

-- what is answered for a text
abbrev pub IsPlanRead : List ℕ → Result Plan PlanError → Type 0
IsPlanRead bytes r =
    MatchBool (nat_le (length bytes) most_bytes) (IsRead 1 silent_plan (lines_of bytes) r) (r ≡ Err TooLong)

-- an answer holds, unless memory ran out
abbrev pub UpToMemory : Result Plan PlanError → (Result Plan PlanError → Type 0) → Type 0
UpToMemory (Ok plan) Holds = Holds (Ok plan)
UpToMemory (Err fault) Holds = fault ≢ NoMemory → Holds (Err fault)
