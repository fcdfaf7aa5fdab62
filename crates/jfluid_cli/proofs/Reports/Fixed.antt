-- What the cause of a refusal fixes, in what is given.
use Rattle.std.proofs.Common.{◌≡◌, ℕ, ◌<◌, ◌≤◌, false, true, List, [], ◌∷◌, length, Option, Some, None, Ok, refl, sym, ap, subst, ◌∙◌, arith, inl, inr}
use Rattle.std.specs.Prelude.{◌⊎◌, is_some, IfSome, IsSome}
use Rattle.std.proofs.lemmas.Option.{same_Some, none-some}
use Rattle.byte_streams.specs.Streams.{Told}
use Rattle.plan_text.specs.declared.plan.Plan.{Plan}
use Rattle.jvm_model.specs.declared.program.Program.{Program}
use Rattle.command_line.specs.Chosen.{IsOwnPlan}
use Rattle.command_line.specs.Input.{most_input}
use Rattle.command_line.specs.Words.{Read}
use Rattle.command_line.specs.declared.words.Generation.{Generation}
use Rattle.jfluid_cli.specs.declared.kept.Kept.{Kept}
use Rattle.jfluid_cli.specs.declared.refusal.Refusal.{Refusal}
use Rattle.jfluid_cli.specs.declared.refusal.Refusal.TheVariants.{Clap, Words, Plan as BadPlan, NotRead, NotAdmitted, InputFailed, OutFailed, PlanNotFetched, NotFetched, NoMemory, InputTooLong}
use Rattle.jfluid_cli.specs.Asking.{asked_by, HasBadRoot, IsPlanBy, IsPlanFor}
use Rattle.jfluid_cli.specs.Causes.{CallInputs, Accepts, AreContentsOf, HasLongInput, IsAccepted, IsAdmitted, IsLong, IsUnfit, OfProgram, OfWords, TellsFor, Because}
use Rattle.jfluid_cli.specs.Contents.{AreContentsBy, AreToldAs}
use Rattle.jfluid_cli.specs.Origins.{HasOrigin}
use Rattle.jfluid_cli.specs.Refusals.{status_of}
use Rattle.jfluid_cli.specs.Top.{HasNoProgram, IsProgram, is_one_of}
use Rattle.jfluid_cli.specs.Words.{Command, words_accepted}
use Rattle.jfluid_cli.proofs.Commands.Accepted.{accepted-claps, accepted-refused}
use Rattle.jfluid_cli.proofs.Commands.OneCommand.{TellsPlan, not-misplanned, one-by, one-command}
use Rattle.jfluid_cli.proofs.Files.Spelled.{none-faulty, none-spelled}

-- by the status of a refusal
pub by-status : (r : Refusal) (P : Type 0) → (status_of r ≡ 2 → P) → (status_of r ≡ 3 → P)
    → (status_of r ≡ 5 → P) → (status_of r ≡ 6 → P) → (status_of r ≡ 7 → P) → (status_of r ≡ 9 → P)
    → (status_of r ≡ 11 → P) → P
by-status (Clap text) P two three five six seven nine eleven = two refl
by-status Words P two three five six seven nine eleven = two refl
by-status (BadPlan fault) P two three five six seven nine eleven = two refl
by-status (NotRead at fault) P two three five six seven nine eleven = three refl
by-status (NotAdmitted fault) P two three five six seven nine eleven = three refl
by-status InputFailed P two three five six seven nine eleven = five refl
by-status OutFailed P two three five six seven nine eleven = six refl
by-status PlanNotFetched P two three five six seven nine eleven = seven refl
by-status (NotFetched at) P two three five six seven nine eleven = seven refl
by-status NoMemory P two three five six seven nine eleven = nine refl
by-status InputTooLong P two three five six seven nine eleven = eleven refl

-- ---- the words

abbrev pub IsTwoOrNine : Refusal → Type 0
IsTwoOrNine r = (status_of r ≡ 2) ⊎ (status_of r ≡ 9)

abbrev AreRead : CallInputs → Type 0
AreRead g = (words : Read) × (words_accepted g.words ≡ Some words)

read-by : (g : CallInputs) (k : Command) → Accepts g k → AreRead g
read-by g k accepts = (accepts.words, accepts.read)

-- any but 2 and 9 comes only where the words are accepted by themselves
pub read-or : (g : CallInputs) (r : Refusal) → Because g r → IsTwoOrNine r ⊎ AreRead g
read-or g (Clap text) cause = inl (inl refl)
read-or g Words cause = inl (inl refl)
read-or g (BadPlan fault) cause = inl (inl refl)
read-or g (NotRead at fault) cause = inr (read-by g cause.command cause.accepts)
read-or g (NotAdmitted fault) cause = inr (read-by g cause.command cause.accepts)
read-or g InputFailed cause = inr (read-by g cause.command cause.accepts)
read-or g OutFailed cause = inr (read-by g cause.command cause.accepts)
read-or g PlanNotFetched cause = inr (cause.0, cause.1)
read-or g (NotFetched at) cause = inr (read-by g cause.command cause.accepts)
read-or g NoMemory cause = inl (inr refl)
read-or g InputTooLong cause = inr (read-by g cause.0.command cause.0.accepts)

abbrev pub AreAccepted : CallInputs → Type 0
AreAccepted g = (k : Command) × Accepts g k

-- and any but these and that of the plan's fetch only where they are accepted with their plan
pub accepted-or : (g : CallInputs) (r : Refusal) → Because g r → IsTwoOrNine r ⊎ ((r ≡ PlanNotFetched) ⊎ AreAccepted g)
accepted-or g (Clap text) cause = inl (inl refl)
accepted-or g Words cause = inl (inl refl)
accepted-or g (BadPlan fault) cause = inl (inl refl)
accepted-or g (NotRead at fault) cause = inr (inr (cause.command, cause.accepts))
accepted-or g (NotAdmitted fault) cause = inr (inr (cause.command, cause.accepts))
accepted-or g InputFailed cause = inr (inr (cause.command, cause.accepts))
accepted-or g OutFailed cause = inr (inr (cause.command, cause.accepts))
accepted-or g PlanNotFetched cause = inr (inl refl)
accepted-or g (NotFetched at) cause = inr (inr (cause.command, cause.accepts))
accepted-or g NoMemory cause = inl (inr refl)
accepted-or g InputTooLong cause = inr (inr (cause.0.command, cause.0.accepts))

-- 2 comes only where words and plan are not accepted
-- the accepted words have that plan
same-named : (g : CallInputs) (words : Read) (k : Command) (accepts : Accepts g k) → words_accepted g.words ≡ Some words
    → TellsPlan g.told accepts.words.plan → TellsPlan g.told words.plan
same-named g words k accepts read =
    subst (λ (r : Read). TellsPlan g.told r.plan) (same_Some accepts.words words (sym accepts.read ∙ read))

pub two-refused : (g : CallInputs) (r : Refusal) (k : Command) → Because g r → status_of r ≡ 2
    → (accepts : Accepts g k) → TellsPlan g.told accepts.words.plan → ⊥
two-refused g (Clap text) k cause two accepts tells =
    none-some accepts.words (sym (accepted-claps g.words cause) ∙ accepts.read)
two-refused g Words k (inl refused) two accepts tells =
    none-some accepts.words (sym (accepted-refused g.words refused) ∙ accepts.read)
two-refused g Words k (inr main) two accepts tells =
    not-misplanned g main.0 k (same-named g main.0 k accepts main.1 tells) main.1 (inr main.2) accepts
two-refused g (BadPlan fault) k cause two accepts tells =
    not-misplanned g cause.0 k (same-named g cause.0 k accepts cause.1 tells) cause.1 (inl (fault, cause.2)) accepts
two-refused g (NotRead at fault) k cause two accepts tells = absurd cc
two-refused g (NotAdmitted fault) k cause two accepts tells = absurd cc
two-refused g InputFailed k cause two accepts tells = absurd cc
two-refused g OutFailed k cause two accepts tells = absurd cc
two-refused g PlanNotFetched k cause two accepts tells = absurd cc
two-refused g (NotFetched at) k cause two accepts tells = absurd cc
two-refused g NoMemory k cause two accepts tells = absurd cc
two-refused g InputTooLong k cause two accepts tells = absurd cc

-- words whose root names no method have no plan
own-bad : (told : Option Told) (root named : Option (List ℕ)) (word : List ℕ) (p : Plan) → named ≡ None
    → root ≡ Some word → IsPlanBy told root named (Ok p) → IsOwnPlan (Some word) (Ok p)
own-bad told root named word p none given is =
    subst (λ (o : Option (List ℕ)). IsOwnPlan o (Ok p)) given
    (subst (λ (o : Option (List ℕ)). IsPlanBy told root o (Ok p)) none is)

pub not-rooted : (g : CallInputs) (k : Command) → OfWords g HasBadRoot → Accepts g k → ⊥
not-rooted g k (words, read, bad) accepts =
    let same : accepts.words ≡ words = same_Some accepts.words words (sym accepts.read ∙ read) in
    let here : IsPlanFor g.told words (Ok k.plan) =
    subst (λ (r : Read). IsPlanFor g.told r (Ok k.plan)) same accepts.planned in
    let own = own-bad g.told words.root words.plan bad.root k.plan bad.own bad.given here in
    bad.none own.0 own.1

-- nor do they name a plan's file
pub not-named : (g : CallInputs) (r : Refusal) → OfWords g HasBadRoot → Because g r → r ≡ PlanNotFetched → ⊥
not-named g r (words, read, bad) cause is =
    let of : Because g PlanNotFetched = subst (Because g) is cause in
    let same : of.0 ≡ words = same_Some of.0 words (sym of.1 ∙ read) in
    none-true (ap is_some (sym (ap (λ (x : Read). x.plan) same ∙ bad.own)) ∙ of.2)
  where
    none-true : false ≡ true → ⊥
    none-true e = cc

-- ---- the files

-- what the files tell under the same words is the same
pub same-told : (files : Told) (words xs ys : List (List ℕ)) → AreToldAs (Some files) words xs
    → AreToldAs (Some files) words ys → xs ≡ ys
same-told files [] [] [] left right = refl
same-told files [] [] (y ∷ ys) left right = absurd right
same-told files [] (x ∷ xs) ys left right = absurd left
same-told files (word ∷ words) [] ys left right = absurd left
same-told files (word ∷ words) (x ∷ xs) [] left right = absurd right
same-told files (word ∷ words) (x ∷ xs) (y ∷ ys) left right =
    let here : x ≡ y = same_Some x y (sym left.0 ∙ right.0) in
    let rest : xs ≡ ys = same-told files words xs ys left.1 right.1 in
    cc (here, rest)

pub tells : (o : Option Told) (files : Told) → o ≡ Some files → IsSome o
tells o files telling = ap is_some telling

-- and what is generated of the same is
same-by : (files : Told) (o : Option Generation) (words xs ys : List (List ℕ)) → AreContentsBy (Some files) o words xs
    → AreContentsBy (Some files) o words ys → xs ≡ ys
same-by files None words xs ys left right = same-told files words xs ys left right
same-by files (Some g) words xs ys left right = left ∙ sym right

-- for the same command there are the same contents
pub same-contents : (told : Option Told) (a b : Command) (files : Told) (left right : List (List ℕ))
    → a ≡ b → told ≡ Some files → AreContentsOf told a left
    → AreContentsOf (Some files) b right → left ≡ right
same-contents told a b files left right same telling first second =
    same-by files b.generated b.files left right
    (subst (λ (t : Option Told). AreContentsOf t b left) telling
    (subst (λ (x : Command). AreContentsOf told x left) same first))
    second

-- ---- what is admitted

-- the file of its plan is told, and those of its classes
pub plan-told : (told : Option Told) (named : Option (List ℕ)) (o : Option Generation) → TellsFor told named o → TellsPlan told named
plan-told told None o tells = tt
plan-told told (Some name) o tells = tells

classes-told : (told : Option Told) (named : Option (List ℕ)) (words xs ys : List (List ℕ)) → TellsFor told named None
    → AreToldAs told words xs → AreToldAs told words ys → xs ≡ ys
classes-told (Some files) named words xs ys tells left right = same-told files words xs ys left right
classes-told None None words xs ys tells left right = absurd (let e : false ≡ true = tells in cc)
classes-told None (Some name) words xs ys tells left right = absurd (let e : false ≡ true = tells in cc)

contents-told : (told : Option Told) (named : Option (List ℕ)) (o : Option Generation) (words xs ys : List (List ℕ)) → TellsFor told named o
    → AreContentsBy told o words xs → AreContentsBy told o words ys → xs ≡ ys
contents-told told named None words xs ys tells left right = classes-told told named words xs ys tells left right
contents-told told named (Some g) words xs ys tells left right = left ∙ sym right

pub admitted-command : (g : CallInputs) (k : Command) (p : Program) → Accepts g k → (a : IsAdmitted g p) → k ≡ a.command
admitted-command g k p accepts a =
    one-by g k a.command accepts a.accepts (plan-told g.told a.accepts.words.plan a.command.generated a.telling)

pub admitted-contents : (g : CallInputs) (k : Command) (p : Program) (contents : List (List ℕ)) (a : IsAdmitted g p)
    → k ≡ a.command → AreContentsOf g.told k contents → contents ≡ a.contents
admitted-contents g k p contents a same told_as =
    contents-told g.told a.accepts.words.plan a.command.generated a.command.files contents a.contents a.telling
    (subst (λ (x : Command). AreContentsOf g.told x contents) same told_as) a.told_as

-- contents of no program are not admitted
none-admitted : (g : CallInputs) (k : Command) (contents : List (List ℕ)) (p : Program) → Accepts g k
    → AreContentsOf g.told k contents → HasNoProgram (asked_by k) contents → IsAdmitted g p → ⊥
none-admitted g k contents p accepts told_as none a =
    let same : k ≡ a.command = admitted-command g k p accepts a in
    let one : contents ≡ a.contents = admitted-contents g k p contents a same told_as in
    none p
    (subst (λ (xs : List (List ℕ)). IsProgram (asked_by k) xs p) (sym one)
    (subst (λ (x : Command). IsProgram (asked_by x) a.contents p) (sym same) a.program_is))

-- 3 comes only where no program is told
pub three-refused : (g : CallInputs) (r : Refusal) (p : Program) → Because g r → status_of r ≡ 3 → IsAdmitted g p → ⊥
three-refused g (NotRead at fault) p cause three a =
    none-admitted g cause.command cause.contents p cause.accepts cause.told_as
    (none-faulty (asked_by cause.command) cause.contents at fault cause.holds) a
three-refused g (NotAdmitted fault) p cause three a =
    none-admitted g cause.command cause.contents p cause.accepts cause.told_as
    (none-spelled (asked_by cause.command) cause.contents fault cause.holds) a
three-refused g (Clap text) p cause three a = absurd cc
three-refused g Words p cause three a = absurd cc
three-refused g (BadPlan fault) p cause three a = absurd cc
three-refused g InputFailed p cause three a = absurd cc
three-refused g OutFailed p cause three a = absurd cc
three-refused g PlanNotFetched p cause three a = absurd cc
three-refused g (NotFetched at) p cause three a = absurd cc
three-refused g NoMemory p cause three a = absurd cc
three-refused g InputTooLong p cause three a = absurd cc

-- 5, 6 and 11 come only where a program is told
pub program-told : (g : CallInputs) (r : Refusal) → Because g r → is_one_of (5 ∷ 6 ∷ 11 ∷ []) (status_of r) ≡ true
    → OfProgram g
program-told g InputFailed cause late = cause
program-told g OutFailed cause late = cause
program-told g InputTooLong cause late = cause.0
program-told g (Clap text) cause late = absurd cc
program-told g Words cause late = absurd cc
program-told g (BadPlan fault) cause late = absurd cc
program-told g (NotRead at fault) cause late = absurd cc
program-told g (NotAdmitted fault) cause late = absurd cc
program-told g PlanNotFetched cause late = absurd cc
program-told g (NotFetched at) cause late = absurd cc
program-told g NoMemory cause late = absurd cc

-- contents that are a program are not unfit
pub not-unfit : (g : CallInputs) → OfProgram g → IsUnfit g → ⊥
not-unfit g of u =
    let same : of.command ≡ u.command =
    one-command g of.command u.command (tells g.told u.files u.telling) of.accepts u.accepts in
    let one : of.contents ≡ u.contents =
    same-contents g.told of.command u.command u.files of.contents u.contents same u.telling of.told_as u.told_as in
    u.none of.holds.0
    (subst (λ (xs : List (List ℕ)). IsProgram (asked_by u.command) xs of.holds.0) one
    (subst (λ (x : Command). IsProgram (asked_by x) of.contents of.holds.0) same of.holds.1))

-- ---- the input

-- 11 comes only where there is too much
pub long-told : (g : CallInputs) (r : Refusal) → Because g r → status_of r ≡ 11 → IsLong g.left
long-told g InputTooLong cause eleven = cause.1
long-told g (Clap text) cause eleven = absurd cc
long-told g Words cause eleven = absurd cc
long-told g (BadPlan fault) cause eleven = absurd cc
long-told g (NotRead at fault) cause eleven = absurd cc
long-told g (NotAdmitted fault) cause eleven = absurd cc
long-told g InputFailed cause eleven = absurd cc
long-told g OutFailed cause eleven = absurd cc
long-told g PlanNotFetched cause eleven = absurd cc
long-told g (NotFetched at) cause eleven = absurd cc
long-told g NoMemory cause eleven = absurd cc

pub not-long : (g : CallInputs) (p : Program) → IsLong g.left → IsAccepted g p → ⊥
not-long g p long a =
    let more : most_input < length a.input = subst IsLong a.input_is long in
    let few : length a.input ≤ most_input = a.short in
    absurd (omega arith)

-- what is kept has an input within the limit
pub kept-input : (g : CallInputs) (k : Kept) (all : List ℕ) → HasOrigin g k → g.left ≡ Some all
    → k.session.value.input ≡ all
kept-input g k all o left =
    subst (λ (x : Option (List ℕ)). IfSome x (λ bytes. k.session.value.input ≡ bytes)) left o.input

pub kept-short : (g : CallInputs) (k : Kept) → HasOrigin g k → HasLongInput g → ⊥
kept-short g k o l =
    let same : k.session.value.input ≡ l.input = kept-input g k l.input o l.input_is in
    let more : most_input < length l.input = l.long in
    let few : length k.session.value.input ≤ most_input = o.short in
    absurd (omega (arith, ap length same, more, few))

-- what is kept is a program
pub kept-program : (g : CallInputs) (k : Kept) → HasOrigin g k → OfProgram g
kept-program g k o = record {
  command = o.command;
  accepts = o.accepts;
  contents = k.classes;
  told_as = o.told_as;
  holds = (k.session.value.program, o.program);
}
