-- Words have one plan, and with it ask for one thing, where the files tell their contents.
use Rattle.std.proofs.Common.{◌≡◌, ℕ, false, true, List, Option, Some, None, Result, Ok, Err, refl, sym, ap, subst, ◌∙◌, inl, inr}
use Rattle.std.specs.Prelude.{◌≢◌, IsSome}
use Rattle.std.specs.Option.{option_and_then}
use Rattle.std.proofs.lemmas.Option.{same_Some}
use Rattle.byte_streams.specs.Streams.{Told}
use Rattle.plan_text.specs.declared.plan.Plan.{Plan}
use Rattle.plan_text.specs.declared.plan.PlanError.{PlanError}
use Rattle.plan_text.specs.declared.plan.PlanError.TheVariants.{TooLong, BadLine, Backwards, AlreadySelected, NotSelected, TooMany, NoMemory}
use Rattle.plan_text.specs.declared.plan.RootName.{RootName}
use Rattle.plan_text.specs.Lines.{IsPlanRead, silent_plan}
use Rattle.plan_text.specs.Plans.{plan_selecting}
use Rattle.plan_text.proofs.OneAnswer.{plan_read-one}
use Rattle.command_line.specs.Chosen.{IsOwnPlan}
use Rattle.command_line.specs.Words.{Read}
use Rattle.jfluid_cli.specs.Asking.{IsMisplanned, IsPlanBy, IsPlanFor, IsToldPlan}
use Rattle.jfluid_cli.specs.Causes.{CallInputs, Accepts}
use Rattle.jfluid_cli.specs.Words.{Command, words_accepted, command_for, command_of}

abbrev Answer : Type 0
Answer = Result Plan PlanError

abbrev plan_ok : Plan → Answer
plan_ok p = Ok p

same-ok : (a b : Plan) → plan_ok a ≡ plan_ok b → a ≡ b
same-ok a b e = cc e

not-ok : (a : Plan) (fault : PlanError) → ◌≡◌ {A = Answer} (Ok a) (Err fault) → ⊥
not-ok a fault e = cc e

-- ---- a plan's file

told-one : (files : Told) (name : List ℕ) (a b : Answer) → IsToldPlan (Some files) name a
    → IsToldPlan (Some files) name b → a ≡ b
told-one files name a b left right =
    let same : left.0 ≡ right.0 = same_Some left.0 right.0 (sym left.1 ∙ right.1) in
    plan_read-one right.0 a b (subst (λ (bytes : List ℕ). IsPlanRead bytes a) same left.2) right.2

-- ---- a word for a root

own-one : (root : Option (List ℕ)) (a b : Plan) → IsOwnPlan root (Ok a) → IsOwnPlan root (Ok b) → a ≡ b
own-one None a b left right = same-ok a b (left ∙ sym right)
own-one (Some word) a b left right =
    let same : left.0 ≡ right.0 = same_Some left.0 right.0 (sym left.1.parts ∙ right.1.parts) in
    left.2 ∙ (ap (λ (r : RootName). plan_selecting r) same ∙ sym right.2)

own-other : (root : Option (List ℕ)) (a : Plan) (fault : PlanError) → IsOwnPlan root (Ok a) → IsOwnPlan root (Err fault)
    → fault ≢ NoMemory → ⊥
own-other None a fault left right other = not-ok silent_plan fault (sym right)
own-other (Some word) a (BadLine line cause) left right other = right.2 left.0 left.1
own-other (Some word) a NoMemory left right other = absurd (other refl)
own-other (Some word) a TooLong left right other = absurd right
own-other (Some word) a (Backwards line) left right other = absurd right
own-other (Some word) a (AlreadySelected line) left right other = absurd right
own-other (Some word) a (NotSelected line) left right other = absurd right
own-other (Some word) a (TooMany line) left right other = absurd right

-- ---- either

-- the file of a plan that is named is told
abbrev pub TellsPlan : Option Told → Option (List ℕ) → Type 0
TellsPlan told None = Unit {0}
TellsPlan told (Some name) = IsSome told

pub tells-plan : (told : Option Told) (named : Option (List ℕ)) → IsSome told → TellsPlan told named
tells-plan told None tells = tt
tells-plan told (Some name) tells = tells

by-one : (told : Option Told) (root named : Option (List ℕ)) (a b : Plan) → TellsPlan told named → IsPlanBy told root named (Ok a)
    → IsPlanBy told root named (Ok b) → a ≡ b
by-one told root None a b tells left right = own-one root a b left right
by-one None root (Some name) a b tells left right = absurd (let e : false ≡ true = tells in cc)
by-one (Some files) root (Some name) a b tells left right = same-ok a b (told-one files name (Ok a) (Ok b) left right)

by-other : (told : Option Told) (root named : Option (List ℕ)) (a : Plan) (fault : PlanError) → TellsPlan told named
    → IsPlanBy told root named (Ok a) → IsPlanBy told root named (Err fault) → fault ≢ NoMemory → ⊥
by-other told root None a fault tells left right other = own-other root a fault left right other
by-other None root (Some name) a fault tells left right other = absurd (let e : false ≡ true = tells in cc)
by-other (Some files) root (Some name) a fault tells left right other =
    not-ok a fault (told-one files name (Ok a) (Err fault) left right)

-- ---- what words ask for

same-words : (g : CallInputs) (words others : Read) → words_accepted g.words ≡ Some words → words_accepted g.words ≡ Some others
    → words ≡ others
same-words g words others left right = same_Some words others (sym left ∙ right)

pub one-by : (g : CallInputs) (k l : Command) → Accepts g k → (right : Accepts g l) → TellsPlan g.told right.words.plan → k ≡ l
one-by g k l left right tells =
    let same : left.words ≡ right.words = same-words g left.words right.words left.read right.read in
    let here : IsPlanFor g.told right.words (Ok k.plan) =
    subst (λ (r : Read). IsPlanFor g.told r (Ok k.plan)) same left.planned in
    let plan : k.plan ≡ l.plan =
    by-one g.told right.words.root right.words.plan k.plan l.plan tells here right.planned in
    same_Some k l
    (sym left.asked ∙ (ap (λ (r : Read). command_for r k.plan) same
    ∙ (ap (λ (p : Plan). command_for right.words p) plan ∙ right.asked)))

pub one-command : (g : CallInputs) (k l : Command) → IsSome g.told → Accepts g k → Accepts g l → k ≡ l
one-command g k l tells left right = one-by g k l left right (tells-plan g.told right.words.plan tells)

-- words that are accepted with their plan are not refused for it
pub not-misplanned : (g : CallInputs) (words : Read) (k : Command) → TellsPlan g.told words.plan → words_accepted g.words ≡ Some words
    → IsMisplanned g.told words → Accepts g k → ⊥
not-misplanned g words k tells read (inl (fault, is)) accepts =
    let here : IsPlanFor g.told words (Ok k.plan) =
    subst (λ (r : Read). IsPlanFor g.told r (Ok k.plan)) (same-words g accepts.words words accepts.read read)
    accepts.planned in
    by-other g.told words.root words.plan k.plan fault tells here is.fault_is is.other
not-misplanned g words k tells read (inr main) accepts =
    let same : accepts.words ≡ words = same-words g accepts.words words accepts.read read in
    let here : IsPlanFor g.told words (Ok k.plan) =
    subst (λ (r : Read). IsPlanFor g.told r (Ok k.plan)) same accepts.planned in
    let plan : k.plan ≡ main.plan =
    by-one g.told words.root words.plan k.plan main.plan tells here main.plan_is in
    not-some k (sym accepts.asked ∙ (ap (λ (r : Read). command_for r k.plan) same
    ∙ (ap (λ (p : Plan). command_for words p) plan ∙ main.none)))
  where
    not-some : (c : Command) → ◌≡◌ {A = Option Command} (Some c) None → ⊥
    not-some c e = cc e

-- ---- the command of words and plan

pub commanded : (g : CallInputs) (k : Command) → Accepts g k → command_of g.words k.plan ≡ Some k
commanded g k accepts = ap (option_and_then (λ (r : Read). command_for r k.plan)) accepts.read ∙ accepts.asked
