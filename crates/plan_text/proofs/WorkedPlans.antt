-- Lines and texts of plans, with what the definitions say of them.
use Rattle.std.proofs.Common.{◌≡◌, ℕ, Bool, true, false, List, [], ◌∷◌, Some, None, refl, arith}
use Rattle.std.specs.Prelude.{Result, Ok, Err, codes}
use Rattle.std.specs.Str.{chars, is_utf8}
use Rattle.std.specs.Char.{encode_utf8}
use Rattle.std.proofs.lemmas.Str.{IsUtf8-from_is_utf8, is_utf8-from_IsUtf8}
use Rattle.std.proofs.lemmas.Option.{none-some}
use Rattle.std.proofs.lemmas.Bool.{false≢true}
use Rattle.const_pool.specs.Descriptors.{IsField}
use Rattle.const_pool.specs.declared.descriptor.Kind.TheVariants.{Int}
use Rattle.plan_text.specs.declared.plan.RootName.{RootName}
use Rattle.plan_text.specs.declared.plan.Action.{Action}
use Rattle.plan_text.specs.declared.plan.Plan.{Plan}
use Rattle.plan_text.specs.declared.plan.LineCause.TheVariants.{Utf8, Unknown, Number, Name, Root, Twice}
use Rattle.plan_text.specs.declared.plan.PlanError.{PlanError}
use Rattle.plan_text.specs.declared.plan.PlanError.TheVariants.{BadLine, Backwards, AlreadySelected, NotSelected}
use Rattle.plan_text.specs.Roots.{IsRoot}
use Rattle.plan_text.specs.Lines.{IsLine, IsSaid, IsPlanRead, lines_of, silent_plan}

-- what a line says behind a plan that is silent
abbrev Says : List ℕ → Result Plan PlanError → Type 0
Says line r = IsSaid 1 silent_plan line r

-- ---- lines

-- one byte 13 goes before a byte 10 alone
returns : lines_of (97 ∷ 13 ∷ 13 ∷ 10 ∷ 98 ∷ 13 ∷ []) ≡ (97 ∷ 13 ∷ []) ∷ (98 ∷ 13 ∷ []) ∷ []
returns = refl

-- an empty line stands behind a last byte 10
last_feed : lines_of (97 ∷ 10 ∷ []) ≡ (97 ∷ []) ∷ [] ∷ []
last_feed = refl

return_alone : lines_of (13 ∷ []) ≡ (13 ∷ []) ∷ []
return_alone = refl

nothing : Says (codes "") (Ok silent_plan)
nothing = refl

comment : Says (codes "# main") (Ok silent_plan)
comment = refl

return_line : Says (13 ∷ []) (Err (BadLine 1 Unknown))
return_line = refl

zeros_lead : Says (codes "budget 007") (Ok (record silent_plan { budget = Some 7 }))
zeros_lead = refl

digits_14 : Says (codes "budget 00000000000007") (Err (BadLine 1 Number))
digits_14 = refl

greatest : Says (codes "budget 1000000000000") (Ok (record silent_plan { budget = Some 1000000000000 }))
greatest = refl

too_great : Says (codes "budget 1000000000001") (Err (BadLine 1 Number))
too_great = refl

two_numbers : Says (codes "budget 5 6") (Err (BadLine 1 Number))
two_numbers = refl

no_number : Says (codes "budget ") (Err (BadLine 1 Number))
no_number = refl

budget_alone : Says (codes "budget") (Err (BadLine 1 Unknown))
budget_alone = refl

letter : Says (codes "budget x") (Err (BadLine 1 Number))
letter = refl

least_heap_but_one : Says (codes "heap 1023") (Err (BadLine 1 Number))
least_heap_but_one = refl

heap_least : Says (codes "heap 1024") (Ok (record silent_plan { heap = Some 1024 }))
heap_least = refl

heap_greatest : Says (codes "heap 67108864") (Ok (record silent_plan { heap = Some 67108864 }))
heap_greatest = refl

heap_above : Says (codes "heap 67108865") (Err (BadLine 1 Number))
heap_above = refl

no_name : Says (codes "main ") (Err (BadLine 1 Name))
no_name = refl

main_alone : Says (codes "main") (Err (BadLine 1 Unknown))
main_alone = refl

name_with_a_space : Says (codes "main a b") (Ok (record silent_plan { main = Some (codes "a b") }))
unfolding chars
name_with_a_space = refl

dots : Says (codes "main a.b.C") (Ok (record silent_plan { main = Some (codes "a/b/C") }))
unfolding chars
dots = refl

arg_alone : Says (codes "arg") (Ok (record silent_plan { args = [] ∷ [] }))
unfolding chars
arg_alone = refl

arg_empty : Says (codes "arg ") (Ok (record silent_plan { args = [] ∷ [] }))
unfolding chars
arg_empty = refl

arg_spaces : Says (codes "arg  x ") (Ok (record silent_plan { args = codes " x " ∷ [] }))
unfolding chars
arg_spaces = refl

space_first : Says (codes " arg") (Err (BadLine 1 Unknown))
space_first = refl

order_alone : Says (codes "select f") (Err (BadLine 1 Unknown))
order_alone = refl

number_first : Says (codes "at x select f") (Err (BadLine 1 Number))
number_first = refl

no_space : Says (codes "at 5 select") (Err (BadLine 1 Unknown))
no_space = refl

two_spaces : Says (codes "at  5 select X") (Err (BadLine 1 Unknown))
two_spaces = refl

other_order : Says (codes "at 5 choose X") (Err (BadLine 1 Unknown))
other_order = refl

-- a word that names no root
no_root : Says (codes "at 5 select ") (Err (BadLine 1 Root))
unfolding chars
no_root = (None, (λ r is. none-some r is.parts), refl)

-- a second one
twice : IsSaid 2 (record silent_plan { heap = Some 1024 }) (codes "heap 2000") (Err (BadLine 2 Twice))
twice = refl

-- its number is looked at before
number_before_twice : IsSaid 2 (record silent_plan { heap = Some 1024 }) (codes "heap 2") (Err (BadLine 2 Number))
number_before_twice = refl

-- ---- texts

-- a line whose characters are known
said : (number : ℕ) (plan : Plan) (line : List ℕ) (r : Result Plan PlanError) → is_utf8 line ≡ true → IsSaid number plan line r → IsLine number plan line r
said number plan line r utf8 says = record { text = λ _. says; other = λ no. absurd (no (IsUtf8-from_is_utf8 line utf8)) }

-- a line of other bytes
other : (number : ℕ) (plan : Plan) (line : List ℕ) → is_utf8 line ≡ false → IsLine number plan line (Err (BadLine number Utf8))
other number plan line not_utf8 = record {
  text = λ utf8. absurd (false≢true (rw not_utf8 at (is_utf8-from_IsUtf8 line utf8)));
  other = λ _. refl;
}

empty_utf8 : is_utf8 [] ≡ true
unfolding is_utf8 chars encode_utf8
empty_utf8 = refl

comment_utf8 : is_utf8 (35 ∷ []) ≡ true
unfolding is_utf8 chars encode_utf8
comment_utf8 = refl

letter_utf8 : is_utf8 (120 ∷ []) ≡ true
unfolding is_utf8 chars encode_utf8
letter_utf8 = refl

-- bytes that are no UTF-8 are told before all else, also in a comment
not_utf8 : IsLine 1 silent_plan (35 ∷ 255 ∷ []) (Err (BadLine 1 Utf8))
unfolding is_utf8 chars encode_utf8
not_utf8 = other 1 silent_plan (35 ∷ 255 ∷ []) refl

abbrev f : RootName
f = record { class = codes "P1"; name = codes "f"; descriptor = codes "(I)I" }

is_int : IsField (codes "I") Int
is_int = record { dimensions = 0; most = omega arith; element = codes "I"; element_kind = Int; base = refl; spelled = refl; held = refl }

is_f : IsRoot (codes "P1.f(I)I") f
unfolding chars
is_f = record {
  parts = refl;
  described = (
    record { params = Int ∷ []; result = Some Int },
    record {
      params = codes "I";
      result = codes "I";
      fields = (codes "I", [], is_int, refl, refl);
      most = omega arith;
      returned = is_int;
      spelled = refl;
    },
  );
}

-- the action of a line about f, and a plan of such actions
abbrev act : ℕ → Bool → Action
act moment select = record { moment = moment; select = select; root = f }

abbrev acting : List Action → Plan
acting actions = record silent_plan { actions = actions }

-- behind actions of f
abbrev Acts : List Action → List ℕ → Result Plan PlanError → Type 0
Acts actions line r = IsSaid 2 (acting actions) line r

backwards : Acts (act 5 true ∷ []) (codes "at 4 deselect P1.f(I)I") (Err (Backwards 2))
backwards = (Some f, is_f, refl)

-- before the order is looked at
backwards_first : Acts (act 5 true ∷ []) (codes "at 4 select P1.f(I)I") (Err (Backwards 2))
backwards_first = (Some f, is_f, refl)

not_selected : Acts [] (codes "at 0 deselect P1.f(I)I") (Err (NotSelected 2))
not_selected = (Some f, is_f, refl)

selected_twice : Acts (act 5 true ∷ []) (codes "at 5 select P1.f(I)I") (Err (AlreadySelected 2))
selected_twice = (Some f, is_f, refl)

deselected_twice : Acts (act 5 true ∷ act 6 false ∷ []) (codes "at 6 deselect P1.f(I)I") (Err (NotSelected 2))
deselected_twice = (Some f, is_f, refl)

selected_again : Acts (act 5 true ∷ act 6 false ∷ []) (codes "at 6 select P1.f(I)I") (Ok (acting (act 5 true ∷ act 6 false ∷ act 6 true ∷ [])))
selected_again = (Some f, is_f, refl)

other_root : Acts (record { moment = 5; select = true; root = record f { name = codes "g" } } ∷ []) (codes "at 5 deselect P1.f(I)I") (Err (NotSelected 2))
other_root = (Some f, is_f, refl)

-- no text is the plan that is silent
empty_text : IsPlanRead [] (Ok silent_plan)
empty_text = (Ok silent_plan, said 1 silent_plan [] (Ok silent_plan) empty_utf8 refl, refl)

-- the numbers are those of the lines, of which empty ones and comments count
second_line : IsPlanRead (35 ∷ 10 ∷ 13 ∷ 10 ∷ 120 ∷ 10 ∷ 255 ∷ []) (Err (BadLine 3 Unknown))
second_line = (
  Ok silent_plan,
  said 1 silent_plan (35 ∷ []) (Ok silent_plan) comment_utf8 refl,
  (
    Ok silent_plan,
    said 2 silent_plan [] (Ok silent_plan) empty_utf8 refl,
    (Err (BadLine 3 Unknown), said 3 silent_plan (120 ∷ []) (Err (BadLine 3 Unknown)) letter_utf8 refl, refl),
  ),
)
