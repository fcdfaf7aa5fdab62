-- Words for roots, and as much as a plan may have. That a descriptor is one is worked in WorkedDescriptors; more lines of
-- plans stand in WorkedPlans of plan_text.
use Rattle.std.proofs.Common.{◌≡◌, ℕ, true, false, List, [], ◌∷◌, Some, None, refl, map, codes}
use Rattle.std.specs.Prelude.{Result, Ok, Err, replicate, nat_le, Option}
use Rattle.std.specs.Str.{chars}
use Rattle.jf_bytes.specs.Unicode.{utf16_of}
use Rattle.plan_text.specs.declared.plan.RootName.{RootName}
use Rattle.plan_text.specs.declared.plan.Action.{Action}
use Rattle.plan_text.specs.declared.plan.Plan.{Plan}
use Rattle.plan_text.specs.declared.plan.PlanError.{PlanError}
use Rattle.plan_text.specs.declared.plan.PlanError.TheVariants.{TooMany}
use Rattle.plan_text.specs.Roots.{root_in}
use Rattle.plan_text.specs.Lines.{silent_plan, most_bytes, with_arg, with_action, with_main}

abbrev root : List ℕ → List ℕ → List ℕ → Option RootName
root class name descriptor = Some (record { class = class; name = name; descriptor = descriptor })

-- ---- words with their parts

abbrev words : List (List ℕ)
words =
    codes "P1.f(I)I" ∷ codes "a.b.C.m()V" ∷ codes "a/b/C.m()V" ∷ codes "A.<init>(La.b;)V" ∷ codes "A.m([[J)[I" ∷ []

parts : map (λ word. root_in (utf16_of word)) words
    ≡ root (codes "P1") (codes "f") (codes "(I)I")
    ∷ root (codes "a/b/C") (codes "m") (codes "()V")
    ∷ root (codes "a/b/C") (codes "m") (codes "()V")
    ∷ root (codes "A") (codes "<init>") (codes "(La.b;)V")
    ∷ root (codes "A") (codes "m") (codes "([[J)[I")
    ∷ []
unfolding chars
parts = refl

-- without a dot, without a bracket, without a class, without a name
without_parts : map (λ word. root_in (utf16_of word)) (codes "" ∷ codes "P1" ∷ codes "P1.f" ∷ codes "f(I)I" ∷ codes ".f()V" ∷ codes "P1.()V" ∷ codes "P1f(a.b)V" ∷ [])
    ≡ None ∷ None ∷ None ∷ None ∷ None ∷ None ∷ None ∷ []
unfolding chars
without_parts = refl

-- ---- what a plan says

-- an arg is text to the line's end
arg : with_arg 1 silent_plan (0xC3 ∷ 0xA9 ∷ 32 ∷ []) ≡ Ok (record silent_plan { args = (0xE9 ∷ 32 ∷ []) ∷ [] })
unfolding chars
arg = refl

-- a byte 13 that is not before the line's end is one of the name
name_with_a_return : with_main 1 silent_plan (80 ∷ 13 ∷ 49 ∷ []) ≡ Ok (record silent_plan { main = Some (80 ∷ 13 ∷ 49 ∷ []) })
unfolding chars
name_with_a_return = refl

-- ---- as much as there may be

abbrev args : ℕ → Plan
args count = record silent_plan { args = replicate count [] }

last_arg : with_arg 256 (args 255) [] ≡ Ok (args 256)
unfolding chars
last_arg = refl

arg_too_many : with_arg 257 (args 256) [] ≡ Err (TooMany 257)
arg_too_many = refl

abbrev acts : ℕ → Plan
acts count = record silent_plan { actions = replicate count (record { moment = 3; select = false; root = record { class = codes "A"; name = codes "f"; descriptor = codes "()V" } }) }

abbrev selecting : Action
selecting = record { moment = 3; select = true; root = record { class = codes "A"; name = codes "f"; descriptor = codes "()V" } }

act_too_many : with_action 257 (acts 256) selecting ≡ Err (TooMany 257)
act_too_many = refl

text_lengths : nat_le 1048576 most_bytes ∷ nat_le 1048577 most_bytes ∷ [] ≡ true ∷ false ∷ []
text_lengths = refl
