-- The text of the report: the ending, the steps, the swaps and the tree.
use Rattle.std.specs.Prelude.{◌≡◌, ℕ, ℤ, zero, suc, ◌+◌, ◌-◌, Bool, List, [], ◌∷◌, ◌++◌, length, replicate, filter, sum_by, Option, Some, None, codes, slice_get, Result, OnOk, if◌then◌else◌}
use Rattle.std.specs.Option.{option_map_or}
use Rattle.std.specs.List.{flat_map}
use Rattle.std.specs.Fmt.{decimal, signed_decimal}
use Rattle.const_pool.specs.declared.class.ClassFile.{ClassFile}
use Rattle.const_pool.specs.References.{named_text}
use Rattle.context_tree.specs.Profiles.{Profile, is_child, last_method, total_of}
use Rattle.jvm_model.specs.Profiling.Paths.{Context}
use Rattle.jvm_model.specs.Basis.Programs.{class_at, name_of, name_at, place_of_method}
use Rattle.jvm_model.specs.declared.program.MethodPlace.{MethodPlace}
use Rattle.jvm_model.specs.declared.program.Program.{Program}
use Rattle.jvm_model.specs.declared.ending.Ending.{Ending}
use Rattle.jvm_model.specs.declared.ending.Ending.TheVariants.{Returned, Exited, Uncaught, Unverifiable}
use Rattle.profile_report.specs.declared.facts.Facts.{Facts}
use Rattle.profile_report.specs.Shown.{text_shown}

-- ---- what is written

-- the text is put behind what was there
abbrev pub Adds : {A E : Type 0} → Result A E → List ℕ → List ℕ → List ℕ → Type 0
Adds result old new text = OnOk result (new ≡ old ++ text)

-- ---- names

-- the class at this position
abbrev pub class_text : Program → ℕ → List ℕ
class_text p class = text_shown (name_at p class)

-- class, dot, name, descriptor
abbrev pub member_text : ClassFile → ℕ → List ℕ
member_text c position =
    text_shown (name_of c) ++ (codes "." ++ (
    option_map_or (λ m. text_shown (named_text c.pool m.name)) (slice_get c.methods position) []
    ++ option_map_or (λ m. text_shown (named_text c.pool m.descriptor)) (slice_get c.methods position) []))

-- the method with this number
abbrev pub method_text : Program → ℕ → List ℕ
method_text p method =
    option_map_or (λ (place : MethodPlace). option_map_or (λ c. member_text c place.position) (class_at p place.class) []) (place_of_method p method) []

-- ---- the ending

-- System.exit with its code
abbrev pub exit_text : ℤ → List ℕ
exit_text code = codes "exit " ++ signed_decimal code

-- a throwable of this class, which nothing caught
abbrev pub uncaught_text : Program → ℕ → List ℕ
uncaught_text p class = codes "uncaught " ++ class_text p class

-- a place in the code: the method and the offset
abbrev pub place_text : Program → ℕ → ℕ → List ℕ
place_text p method offset = method_text p method ++ (codes " " ++ decimal offset)

abbrev pub unverifiable_text : Program → ℕ → ℕ → List ℕ
unverifiable_text p method offset = codes "unverifiable " ++ place_text p method offset

-- how the run ended, or that the budget was spent
abbrev pub ending_text : Program → Option Ending → List ℕ
ending_text p None = codes "budget"
ending_text p (Some Returned) = codes "returned"
ending_text p (Some (Exited code)) = exit_text code
ending_text p (Some (Uncaught class)) = uncaught_text p class
ending_text p (Some (Unverifiable method offset)) = unverifiable_text p method offset

-- ---- the tree, depth first

-- the contexts one method below a path, in order of first begin
abbrev pub below : List Context → List ℕ → List Context
below contexts path = filter (is_child path) contexts

-- Each context below a path with those below it, so many levels deep. No path is longer than there are contexts, since
-- each of its fronts is the path of one.
abbrev pub contexts_listed : ℕ → List Context → List ℕ → List Context
contexts_listed zero contexts path = []
contexts_listed (suc levels) contexts path = flat_map (λ (c : Context). c ∷ contexts_listed levels contexts c.path) (below contexts path)

-- three counts, each with a space behind it
abbrev pub counts_text : ℕ → ℕ → ℕ → List ℕ
counts_text calls own total = decimal calls ++ (codes " " ++ (decimal own ++ (codes " " ++ (decimal total ++ codes " "))))

-- two spaces for each level below the outermost, then CALLS OWN TOTAL METHOD
abbrev pub line_text : Program → ℕ → ℕ → ℕ → ℕ → ℕ → List ℕ
line_text program level calls own total method =
    replicate (level + level) 32 ++ (decimal calls ++ (codes " " ++ (decimal own ++ (codes " " ++ (decimal total ++ (codes " " ++ (method_text program method ++ codes "\n")))))))

-- the line of a context: an outermost path has one method, and so the level 0
abbrev pub context_line : Program → List Context → Context → List ℕ
context_line program contexts c = line_text program (length c.path - 1) c.calls c.own (total_of c.path contexts) (last_method c.path)

abbrev pub tree_text : Program → List Context → List ℕ
tree_text program contexts = codes "tree\n" ++ flat_map (context_line program contexts) (contexts_listed (length contexts) contexts [])

-- in place of the tree: how many contexts it has, and the sums of calls and of own steps
abbrev pub summary_text : List Context → List ℕ
summary_text contexts =
    codes "contexts " ++ (decimal (length contexts) ++ (codes "\ncalls " ++ (decimal (sum_by (λ (c : Context). c.calls) contexts)
    ++ (codes "\nown " ++ (decimal (sum_by (λ (c : Context). c.own) contexts) ++ codes "\n")))))

-- ---- the whole

abbrev pub report_text : Program → Option Ending → ℕ → ℕ → Bool → List Context → List ℕ
report_text program ending steps swaps summary contexts =
    codes "ending " ++ (ending_text program ending ++ (codes "\nsteps " ++ (decimal steps ++ (codes "\nswaps " ++ (decimal swaps ++ (codes "\n"
    ++ (if summary then summary_text contexts else tree_text program contexts)))))))

-- the lines of the ending, of the steps and of the swaps
abbrev pub facts_text : Program → Facts → List ℕ
facts_text program facts =
    codes "ending " ++ (ending_text program facts.ending ++ (codes "\nsteps " ++ (decimal facts.steps
    ++ (codes "\nswaps " ++ (decimal facts.swaps ++ codes "\n")))))

-- the report of a tree
abbrev pub report_of : Program → Facts → Profile → List ℕ
report_of program facts tree = report_text program facts.ending facts.steps facts.swaps facts.summary tree.contexts
