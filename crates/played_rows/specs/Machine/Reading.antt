-- What the lines of a row say of the machine.
use Rattle.std.specs.Prelude.{◌≡◌, ℕ, zero, suc, ◌+◌, ◌-◌, ◌^◌, Bool, true, false, List, [], ◌∷◌, ◌++◌, length, map, min, Option, Some, None, codes, ◌||◌, if◌then◌else◌}
use Rattle.std.specs.Option.{option_and_then, option_map}
use Rattle.std.specs.Str.{bytes_eq}
use Rattle.byte_streams.specs.Streams.{Told}
use Rattle.jvm_machine.specs.declared.turn.Turn.{Turn}
use Rattle.jvm_machine.specs.declared.turn.Turn.TheVariants as turn
use Rattle.jvm_model.specs.declared.ending.Ending.{Ending}
use Rattle.jvm_model.specs.declared.ending.Ending.TheVariants as ending
use Rattle.jvm_model.specs.declared.event.EventKind.{EventKind}
use Rattle.jvm_model.specs.declared.program.Program.{Program}
use Rattle.played_rows.specs.declared.machine.line.Line.{Line}
use Rattle.played_rows.specs.declared.machine.line.Line.TheVariants as line
use Rattle.played_rows.specs.declared.machine.line.Placed.{Placed}
use Rattle.played_rows.specs.declared.machine.saying.Refusal.{Refusal}
use Rattle.played_rows.specs.declared.machine.saying.Said.{Said}
use Rattle.played_rows.specs.declared.machine.telling.OneTurn.{OneTurn}
use Rattle.played_rows.specs.Files.{IsFileAt}
use Rattle.played_rows.specs.Machine.Names.{method_called}
use Rattle.played_rows.specs.Machine.Words.{cause_said, kind_said, marks_said, number_said, output_said, rest_of, status_said, word_of}
use Rattle.played_rows.specs.Names.{class_called, classes_called}

-- ---- one turn

-- `KIND METHOD CLOCK`: an event
abbrev pub event_said : Program → EventKind → List ℕ → Option OneTurn
event_said p kind words =
    option_and_then (λ method.
    option_map (λ clock. record { turn = turn.Probe (record { kind = kind; method = method; clock = clock }); clock = clock })
    (number_said 64 (rest_of words)))
    (method_called p (word_of words))

-- `loaded CLASS..`, `ended CLOCK ..`, `settled CLOCK`, or an event: classes are loaded in the step that settles next
abbrev pub turn_said : Program → ℕ → List ℕ → List ℕ → Option OneTurn
turn_said p next word rest =
    if bytes_eq word (codes "loaded") then
    option_map (λ classes. record { turn = turn.Loaded classes; clock = next }) (classes_called p rest)
    else if bytes_eq word (codes "ended") then
    option_map (λ clock. record { turn = turn.Ended; clock = clock }) (number_said 64 (word_of rest))
    else if bytes_eq word (codes "settled") then
    option_map (λ clock. record { turn = turn.Settled; clock = clock }) (number_said 64 (word_of rest))
    else option_and_then (λ kind. event_said p kind rest) (kind_said word)

-- `unverifiable METHOD OFFSET`
abbrev pub unverifiable_said : Program → List ℕ → Option Ending
unverifiable_said p words =
    option_and_then (λ method. option_map (λ at. ending.Unverifiable method at) (number_said 16 (rest_of words)))
    (method_called p (word_of words))

-- `returned`, `exited STATUS`, `uncaught CLASS`, or that
abbrev pub ending_said : Program → List ℕ → Option Ending
ending_said p words =
    if bytes_eq (word_of words) (codes "returned") then Some ending.Returned
    else if bytes_eq (word_of words) (codes "exited") then option_map (λ status. ending.Exited status) (status_said (rest_of words))
    else if bytes_eq (word_of words) (codes "uncaught") then option_map (λ class. ending.Uncaught class) (class_called p (rest_of words))
    else if bytes_eq (word_of words) (codes "unverifiable") then unverifiable_said p (rest_of words)
    else None

-- ---- what a line says: lines, and the clock of the step that settles next behind them

-- a clock as a number of 64 bits
abbrev pub behind : ℕ → ℕ
behind clock = min (clock + 1) (2 ^ 64 - 1)

-- the clock behind a turn of this clock: a step that settles is done
abbrev pub clock_behind : Turn → ℕ → ℕ
clock_behind turn.Settled clock = behind clock
clock_behind turn.Ended clock = clock
clock_behind (turn.Probe event) clock = clock
clock_behind (turn.Loaded classes) clock = clock
clock_behind turn.Broken clock = clock
clock_behind turn.NoMemory clock = clock

-- it is asked for in one step, or in so many
abbrev pub turn_line : Option ℕ → OneTurn → Line
turn_line None told = line.Turned told.turn told.clock
turn_line (Some most) told = line.Ran most told.turn told.clock

-- the run's ending stands behind the clock of the turn that ended it
abbrev pub with_ending : Program → List ℕ → List ℕ → Line → ℕ → Option Said
with_ending p word rest first next =
    if bytes_eq word (codes "ended") then
    option_map (λ ending. record { lines = first ∷ line.Ended ending ∷ []; next = next }) (ending_said p (rest_of rest))
    else Some (record { lines = first ∷ []; next = next })

-- a line of one turn
abbrev pub turn_taken : Program → Option ℕ → List ℕ → ℕ → Option Said
turn_taken p most words next =
    option_and_then (λ told. with_ending p (word_of words) (rest_of words) (turn_line most told) (clock_behind told.turn told.clock))
    (turn_said p next (word_of words) (rest_of words))

-- the same so many times, one behind the other
abbrev pub said_behind : Said → Said → Said
said_behind first rest = record { lines = first.lines ++ rest.lines; next = rest.next }

abbrev pub so_often : (ℕ → Option Said) → ℕ → ℕ → Option Said
so_often says zero next = Some (record { lines = []; next = next })
so_often says (suc n) next = option_and_then (λ first. option_map (said_behind first) (so_often says n first.next)) (says next)

-- these lines of each of so many clocks from this one on
abbrev pub of_clocks : (ℕ → List Line) → ℕ → ℕ → List Line
of_clocks lines zero clock = []
of_clocks lines (suc n) clock = lines clock ++ of_clocks lines n (clock + 1)

-- the same up to this clock
abbrev pub up_to : (ℕ → List Line) → ℕ → ℕ → Said
up_to lines first last = record { lines = of_clocks lines (behind last - first) first; next = behind last }

-- the step settles
abbrev pub settles : ℕ → List Line
settles clock = line.Turned turn.Settled clock ∷ []

-- it tells an event and then settles
abbrev pub tells : EventKind → ℕ → ℕ → List Line
tells kind method clock =
    line.Turned (turn.Probe (record { kind = kind; method = method; clock = clock })) clock ∷ line.Turned turn.Settled clock ∷ []

-- `each FIRST LAST KIND METHOD`
abbrev pub each_said : Program → List ℕ → Option Said
each_said p words =
    let event = rest_of (rest_of words) in
    option_and_then (λ first. option_and_then (λ last. option_and_then (λ kind.
    option_map (λ method. up_to (tells kind method) first last)
    (method_called p (rest_of event)))
    (kind_said (word_of event)))
    (number_said 64 (word_of (rest_of words))))
    (number_said 64 (word_of words))

abbrev pub one_line : ℕ → Line → Said
one_line next l = record { lines = l ∷ []; next = next }

-- `install CLASS MARKS`
abbrev pub install_said : Program → List ℕ → Option Line
install_said p words =
    option_and_then (λ class. option_map (λ marks. line.Installed class marks) (marks_said (rest_of words)))
    (class_called p (word_of words))

-- lines that say nothing of the machine: empty ones, remarks, and those that name the classes
abbrev pub is_silent : List ℕ → Bool
is_silent word = bytes_eq word [] || bytes_eq word (codes "#") || bytes_eq word (codes "class") || bytes_eq word (codes "main")

-- what a line says that names no file
abbrev pub plain_said : Program → ℕ → List ℕ → Option Said
plain_said p next text =
    let word = word_of text in
    let rest = rest_of text in
    if is_silent word then Some (record { lines = []; next = next })
    else if bytes_eq word (codes "install") then option_map (one_line next) (install_said p rest)
    else if bytes_eq word (codes "printed") then Some (one_line next (line.Printed (output_said rest)))
    else if bytes_eq word (codes "live") then option_map (λ count. one_line next (line.Lives count)) (number_said 32 rest)
    else if bytes_eq word (codes "settled") then option_map (up_to settles next) (number_said 64 (word_of rest))
    else if bytes_eq word (codes "run") then option_and_then (λ most. turn_taken p (Some most) (rest_of rest) next) (number_said 64 (word_of rest))
    else if bytes_eq word (codes "times") then
    option_and_then (λ count. so_often (turn_taken p None (rest_of rest)) count next) (number_said 64 (word_of rest))
    else if bytes_eq word (codes "each") then each_said p rest
    else turn_taken p None text next

-- `refused CLASS FILE CAUSE..`: the class, and why the bytes do not redefine it
abbrev pub refusal_said : Program → List ℕ → Option Refusal
refusal_said p words =
    option_and_then (λ class. option_map (λ cause. record { class = class; cause = cause }) (cause_said (rest_of (rest_of words))))
    (class_called p (word_of words))

-- the bytes are those of the file of this name
abbrev pub Refuses : Option Told → List ℕ → ℕ → Option Refusal → Option Said → Type 0
Refuses told path next None said = said ≡ None
Refuses told path next (Some refusal) said =
    (bytes : List ℕ) × IsFileAt told path bytes × (said ≡ Some (one_line next (line.Refused refusal.class bytes refusal.cause)))

-- what a line says, if it says something
abbrev pub LineSays : Program → Option Told → ℕ → List ℕ → Option Said → Type 0
LineSays p told next text said = by (bytes_eq (word_of text) (codes "refused")) where
  by : Bool → Type 0
  by true = Refuses told (word_of (rest_of (rest_of text))) next (refusal_said p (rest_of text)) said
  by false = said ≡ plain_said p next text

-- ---- all lines

-- lines with the number of the row's line that says them
abbrev pub placed_at : ℕ → List Line → List Placed
placed_at number lines = map (λ l. record { number = number; line = l }) lines

-- Each of these lines says something, and this is what they say in order, each with its number, and the clock of the
-- step that settles next.
pub data AreSaid (p : Program) (told : Option Told) : List (List ℕ) → List Placed → ℕ → Type 0 where
  none : AreSaid p told [] [] 0
  more : (texts : List (List ℕ)) (text : List ℕ) (placed : List Placed) (next : ℕ) (said : Said) → AreSaid p told texts placed next
      → LineSays p told next text (Some said) → AreSaid p told (texts ++ text ∷ []) (placed ++ placed_at (length texts + 1) said.lines) said.next

abbrev pub AreRead : Program → Option Told → List (List ℕ) → List Placed → Type 0
AreRead p told texts placed = (next : ℕ) × AreSaid p told texts placed next

-- the first line that says nothing
pub record IsUnknown (p : Program) (told : Option Told) (texts : List (List ℕ)) (text : List ℕ) : Type 0 where
  pub before : List (List ℕ)
  pub placed : List Placed
  pub next : ℕ
  pub said : AreSaid p told before placed next
  pub silent : LineSays p told next text None
  pub after : List (List ℕ)
  pub there : texts ≡ before ++ text ∷ after
