-- Words and plans, with what they ask for together.
use Rattle.std.proofs.Common.{◌≡◌, false, [], ◌∷◌, Some, None, refl, codes}
use Rattle.plan_text.specs.declared.plan.Plan.{Plan}
use Rattle.plan_text.specs.Lines.{silent_plan}
use Rattle.command_line.specs.Words.{Read, generation_of}
use Rattle.command_line.specs.Chosen.{run_chosen}

abbrev silent_words : Read
silent_words = record { main = None; root = None; budget = None; plan = None; generated = None; images = false; files = [] }

abbrev words : Read
words = record silent_words { main = Some (codes "W"); budget = Some 5 }

abbrev plan : Plan
plan = record silent_plan { main = Some (codes "P"); args = codes "a" ∷ []; budget = Some 7; heap = Some 1024 }

words_first : run_chosen words plan ≡ Some (record { main = codes "W"; args = codes "a" ∷ []; budget = 5; heap = 1024; actions = [] })
words_first = refl

plan_next : run_chosen silent_words plan ≡ Some (record { main = codes "P"; args = codes "a" ∷ []; budget = 7; heap = 1024; actions = [] })
plan_next = refl

else_usual : run_chosen (record silent_words { main = Some (codes "W") }) silent_plan
    ≡ Some (record { main = codes "W"; args = []; budget = 100000000; heap = 4194304; actions = [] })
else_usual = refl

-- a plan's main class is not looked at where words generate the program
generated_main : run_chosen (record silent_words { main = Some (codes "GenMain"); generated = Some (generation_of 1 2) }) plan
    ≡ Some (record { main = codes "GenMain"; args = codes "a" ∷ []; budget = 7; heap = 1024; actions = [] })
generated_main = refl

no_main : run_chosen (record silent_words { budget = Some 5 }) (record plan { main = None }) ≡ None
no_main = refl
