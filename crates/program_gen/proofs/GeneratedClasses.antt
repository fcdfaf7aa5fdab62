-- One class more.
use Rattle.std.proofs.Common.{◌≡◌, ℕ, suc, ◌+◌, List, [], ◌∷◌, ◌++◌, map, ap, sym, ◌∙◌, subst, arith}
use Rattle.std.specs.List.{AllByRecursion}
use Rattle.std.proofs.lemmas.List.{map-append}
use Rattle.jf_bytes.proofs.Lists.{each_push}
use Rattle.const_pool.specs.declared.class.ClassFile.{ClassFile}
use Rattle.const_pool.specs.ClassFile.{IsClassFile}
use Rattle.program_gen.specs.declared.rows.ClassRow.{ClassRow}
use Rattle.program_gen.specs.declared.rows.Choices.{Choices}
use Rattle.program_gen.specs.Draws.{state_at, choices_of}
use Rattle.program_gen.specs.Chains.{choices_from, state_behind}
use Rattle.program_gen.specs.Programs.{main_row, numbered_row, rows_below}
use Rattle.program_gen.specs.Making.{class_file_of}
use Rattle.program_gen.proofs.DrawnChoices.{draws_before, choices-drawn, state-drawn}

pub next-classes : (seed size number state : ℕ) (before after : List ClassFile) (class : ClassFile) (row : ClassRow) (choices : Choices)
    → before ≡ map class_file_of (main_row ∷ rows_below seed size number) → after ≡ before ++ class ∷ []
    → class ≡ class_file_of row → row ≡ numbered_row number choices → choices ≡ choices_from state size number → state ≡ state_at seed (draws_before number)
    → after ≡ map class_file_of (main_row ∷ rows_below seed size (number + 1))
next-classes seed size number state before after class row choices b a c r d s =
    let drawn : choices ≡ choices_of seed size number = d ∙ ap (λ x. choices_from x size number) s ∙ choices-drawn seed size number in
    let made : class ≡ class_file_of (numbered_row number (choices_of seed size number)) = c ∙ ap class_file_of (r ∙ ap (numbered_row number) drawn) in
    let one : suc number ≡ number + 1 = omega arith in
    a ∙ ap (λ xs. xs ++ class ∷ []) b
    ∙ ap (λ x. map class_file_of (main_row ∷ rows_below seed size number) ++ x ∷ []) made
    ∙ sym (map-append class_file_of (main_row ∷ rows_below seed size number) (numbered_row number (choices_of seed size number) ∷ []))
    ∙ ap (λ n. map class_file_of (main_row ∷ rows_below seed size n)) one

pub next-formed : (before after : List ClassFile) (class : ClassFile) → AllByRecursion IsClassFile before → after ≡ before ++ class ∷ [] → IsClassFile class
    → AllByRecursion IsClassFile after
next-formed before after class each e formed = subst (AllByRecursion IsClassFile) (sym e) (each_push IsClassFile before class each formed)

pub next-state : (seed number before after : ℕ) → before ≡ state_at seed (draws_before number) → after ≡ state_behind before number
    → after ≡ state_at seed (draws_before (number + 1))
next-state seed number before after b a = a ∙ ap (λ x. state_behind x number) b ∙ state-drawn seed number
