use Rattle.std.proofs.Common.{◌≡◌, ◌+◌, ◌-◌, ◌<◌, ℕ, List, Option, Some, None, sym, ap, subst, refl, ◌∙◌, arith}
use Rattle.std.specs.Option.{IfSome, option_and_then}
use Rattle.prepared_code.specs.Tables.{version_at}
use Rattle.prepared_code.specs.declared.initializations.Initialization.{Initialization}
use Rattle.prepared_code.specs.declared.parts.Parts.{Parts}
use Rattle.prepared_code.specs.Ready.{CanRun, IsSoundIn}
use Rattle.prepared_code.specs.Runs.{IsLineIn, LeadsAlone}
use Rattle.prepared_code.specs.Versions.{Setup}
use Rattle.prepared_code.specs.Initializations.{state_of}
use Rattle.interpreter.specs.Moves.Passing.{Passes}
use Rattle.interpreter.specs.Moves.Onward.{GoesOnward}
use Rattle.prepared_code.specs.Originals.{OriginalsView, setup_in}
use Rattle.interpreter.proofs.Moves.Behind.{leads-sound}
use Rattle.prepared_code.proofs.Lines.KnownNames.{names-kept}
use Rattle.instructions.proofs.Attempts.NamedAttempts.{same-setup}
use Rattle.interpreter.proofs.Silent.GoingOnward.{passes-still, silent-onward, told-onward}
use Rattle.interpreter.proofs.Silent.SilentSteps.{passes-alone, passes-on, passes_none}
use Rattle.interpreter.proofs.turns.passing.pass_to.Goals as goal

pub loop-made-init : goal.loop-made-init
loop-made-init c = (omega arith, passes_none (setup_in c.args.parts.now.runtime c.args.originals.now) c.args.initializing.now c.args.parts.now c.requires.at_instruction)

-- what was made before the line
plainly : (w : Setup) (ms : List Initialization) (old mid new : Parts) (n m : ℕ) → Passes w ms old n mid → LeadsAlone w mid m new → Passes w ms old (n + m) new
plainly w ms old mid new n m first plain = passes-on w ms old mid new n m first (passes-alone w ms mid new m plain first.at_instruction)

-- the same is run there
same-run : (o : OriginalsView) (ms : List Initialization) (old new : Parts) (n : ℕ) → Passes (setup_in old.runtime o) ms old n new → setup_in new.runtime o ≡ setup_in old.runtime o
same-run o ms old new n passes = same-setup old.runtime new.runtime o o passes.world refl

-- what is said of the line where it has stopped
of-line : {A : Type 0} (o : Option A) (l : A) → o ≡ Some l → (P : A → Type 0) → IfSome o P → P l
of-line o l is P said = subst (λ o. IfSome o P) is said

pub pass_line-requires-clause-run : goal.pass_line-requires-clause-run
pass_line-requires-clause-run c =
    subst CanRun (sym (same-run c.args.originals.now c.args.initializing.now c.args.parts.now c.plain_to-stop.new.parts (c.loop-made.made + c.plain_to-stop.new.count)
    (plainly (setup_in c.args.parts.now.runtime c.args.originals.now) c.args.initializing.now c.args.parts.now c.loop-made.parts c.plain_to-stop.new.parts c.loop-made.made c.plain_to-stop.new.count
    c.loop-made.invariant.1 (c.plain_to-stop.ensures.made (setup_in c.args.parts.now.runtime c.args.originals.now) c.requires.run c.in-Some.ensures.runs))))
    c.requires.run

pub pass_line-requires-clause-known : goal.pass_line-requires-clause-known
pass_line-requires-clause-known c =
    let made = (plainly (setup_in c.args.parts.now.runtime c.args.originals.now) c.args.initializing.now c.args.parts.now c.loop-made.parts c.plain_to-stop.new.parts c.loop-made.made c.plain_to-stop.new.count
    c.loop-made.invariant.1 (c.plain_to-stop.ensures.made (setup_in c.args.parts.now.runtime c.args.originals.now) c.requires.run c.in-Some.ensures.runs)) in
    names-kept c.args.originals.now c.args.parts.now.runtime c.plain_to-stop.new.parts.runtime made.world made.loaded c.requires.known

pub pass_line-requires-clause-sound : goal.pass_line-requires-clause-sound
pass_line-requires-clause-sound c =
    let w = setup_in c.args.parts.now.runtime c.args.originals.now in
    let ms = c.args.initializing.now in
    let n = c.loop-made.made + c.plain_to-stop.new.count in
    let made = (plainly (setup_in c.args.parts.now.runtime c.args.originals.now) c.args.initializing.now c.args.parts.now c.loop-made.parts c.plain_to-stop.new.parts c.loop-made.made c.plain_to-stop.new.count
    c.loop-made.invariant.1 (c.plain_to-stop.ensures.made (setup_in c.args.parts.now.runtime c.args.originals.now) c.requires.run c.in-Some.ensures.runs)) in
    subst (λ (u : Setup). IsSoundIn u (state_of ms c.plain_to-stop.new.parts)) (sym (same-run c.args.originals.now ms c.args.parts.now c.plain_to-stop.new.parts n made))
    (leads-sound w c.requires.run (state_of ms c.args.parts.now) n (state_of ms c.plain_to-stop.new.parts) made.leads c.requires.sound)

pub pass_line-requires-clause-at_instruction : goal.pass_line-requires-clause-at_instruction
pass_line-requires-clause-at_instruction c =
    (plainly (setup_in c.args.parts.now.runtime c.args.originals.now) c.args.initializing.now c.args.parts.now c.loop-made.parts c.plain_to-stop.new.parts c.loop-made.made c.plain_to-stop.new.count
    c.loop-made.invariant.1 (c.plain_to-stop.ensures.made (setup_in c.args.parts.now.runtime c.args.originals.now) c.requires.run c.in-Some.ensures.runs)).at_instruction

-- one more is made
pub loop-made-preserved : goal.loop-made-preserved
loop-made-preserved c =
    let w = setup_in c.args.parts.now.runtime c.args.originals.now in
    let ms = c.args.initializing.now in
    let mid = c.plain_to-stop.new.parts in
    let n = c.loop-made.made + c.plain_to-stop.new.count in
    let first = plainly w ms c.args.parts.now c.loop-made.parts mid c.loop-made.made c.plain_to-stop.new.count c.loop-made.invariant.1 (c.plain_to-stop.ensures.made (setup_in c.args.parts.now.runtime c.args.originals.now) c.requires.run c.in-Some.ensures.runs) in
    let went =
    subst (λ (u : Setup). GoesOnward u ms mid (Some c.in-Some-pass_line.due) c.pass_line.new.parts) (same-run c.args.originals.now ms c.args.parts.now mid n first)
    (subst (λ o. GoesOnward (setup_in mid.runtime c.args.originals.now) ms mid o c.pass_line.new.parts) c.in-Some-pass_line.is c.pass_line.ensures) in
    let one = silent-onward w ms mid c.pass_line.new.parts c.in-Some-pass_line.due (sym c.is_telling.ensures ∙ c.if-is_telling.false) went in
    let less = c.loop-made-test.true in
    let below = of-line c.plain_to-stop.result c.in-Some-stop.line c.in-Some-stop.is (λ l. c.plain_to-stop.new.count < c.args.most - c.loop-made.made) c.plain_to-stop.ensures.below in (
      omega (arith, less, below),
      passes-on w ms c.args.parts.now mid c.pass_line.new.parts n 1 first one,
    )

-- nothing is run
pub returns-in_default-clause-made : goal.returns-in_default-clause-made
returns-in_default-clause-made c = record { between = c.loop-made.parts; passes = c.loop-made.invariant.1; comes = refl }

-- as many as were wanted, or no line stands there
pub returns-in_default-stop-clause-made : goal.returns-in_default-stop-clause-made
returns-in_default-stop-clause-made c = record {
  between = c.plain_to-stop.new.parts;
  passes = plainly (setup_in c.args.parts.now.runtime c.args.originals.now) c.args.initializing.now c.args.parts.now c.loop-made.parts c.plain_to-stop.new.parts c.loop-made.made c.plain_to-stop.new.count
      c.loop-made.invariant.1 (c.plain_to-stop.ensures.made (setup_in c.args.parts.now.runtime c.args.originals.now) c.requires.run c.in-Some.ensures.runs);
  comes = refl;
}

pub pass_line-requires-clause-runs : goal.pass_line-requires-clause-runs
pass_line-requires-clause-runs c =
    ap (option_and_then (version_at c.args.originals.now.versions)) c.plain_to-stop.ensures.same ∙ c.in-Some.ensures.runs

pub pass_line-requires-clause-stands : goal.pass_line-requires-clause-stands
pass_line-requires-clause-stands c =
    of-line c.plain_to-stop.result c.in-Some-stop.line c.in-Some-stop.is (λ l. IsLineIn c.in-Some.version.now c.plain_to-stop.new.parts.frames.frames l.now)
    c.plain_to-stop.ensures.stands

-- the line is left to others
pub returns-in_default-pass_line-clause-made : goal.returns-in_default-pass_line-clause-made
returns-in_default-pass_line-clause-made c =
    let w = setup_in c.args.parts.now.runtime c.args.originals.now in
    let ms = c.args.initializing.now in
    let mid = c.plain_to-stop.new.parts in
    let first = plainly w ms c.args.parts.now c.loop-made.parts mid c.loop-made.made c.plain_to-stop.new.count c.loop-made.invariant.1 (c.plain_to-stop.ensures.made (setup_in c.args.parts.now.runtime c.args.originals.now) c.requires.run c.in-Some.ensures.runs) in
    let none =
    subst (λ (u : Setup). GoesOnward u ms mid None c.pass_line.new.parts) (same-run c.args.originals.now ms c.args.parts.now mid (c.loop-made.made + c.plain_to-stop.new.count) first)
    (subst (λ o. GoesOnward (setup_in mid.runtime c.args.originals.now) ms mid o c.pass_line.new.parts) c.in_default-pass_line.is c.pass_line.ensures) in
    record {
      between = c.pass_line.new.parts;
      passes = passes-still w ms c.args.parts.now mid c.pass_line.new.parts (c.loop-made.made + c.plain_to-stop.new.count) first none;
      comes = refl;
    }

-- a probe tells of it
pub returns-then-is_telling-clause-made : goal.returns-then-is_telling-clause-made
returns-then-is_telling-clause-made c =
    let w = setup_in c.args.parts.now.runtime c.args.originals.now in
    let ms = c.args.initializing.now in
    let mid = c.plain_to-stop.new.parts in
    let n = c.loop-made.made + c.plain_to-stop.new.count in
    let first = plainly w ms c.args.parts.now c.loop-made.parts mid c.loop-made.made c.plain_to-stop.new.count c.loop-made.invariant.1 (c.plain_to-stop.ensures.made w c.requires.run c.in-Some.ensures.runs) in
    let went =
    subst (λ (u : Setup). GoesOnward u ms mid (Some c.in-Some-pass_line.due) c.pass_line.new.parts) (same-run c.args.originals.now ms c.args.parts.now mid n first)
    (subst (λ o. GoesOnward (setup_in mid.runtime c.args.originals.now) ms mid o c.pass_line.new.parts) c.in-Some-pass_line.is c.pass_line.ensures) in
    record {
      between = mid;
      passes = first;
      comes = told-onward w ms mid c.pass_line.new.parts c.in-Some-pass_line.due (sym c.is_telling.ensures ∙ c.if-is_telling.true) went;
    }

pub returns-then-is_telling-clause-below : goal.returns-then-is_telling-clause-below
returns-then-is_telling-clause-below c =
    let below = of-line c.plain_to-stop.result c.in-Some-stop.line c.in-Some-stop.is (λ l. c.plain_to-stop.new.count < c.args.most - c.loop-made.made) c.plain_to-stop.ensures.below in
    let less = c.loop-made-test.true in
    omega (arith, less, below)

pub returns-clause-made : goal.returns-clause-made
returns-clause-made c = record { between = c.loop-made.parts; passes = c.loop-made.invariant.1; comes = refl }

pub returns-in_default-stop-clause-within : goal.returns-in_default-stop-clause-within
returns-in_default-stop-clause-within c =
    let within = c.plain_to-stop.ensures.within in
    let less = c.loop-made-test.true in
    omega (arith, less, within)

pub returns-in_default-pass_line-clause-within : goal.returns-in_default-pass_line-clause-within
returns-in_default-pass_line-clause-within c =
    let within = c.plain_to-stop.ensures.within in
    let less = c.loop-made-test.true in
    omega (arith, less, within)

pub returns-then-is_telling-clause-within : goal.returns-then-is_telling-clause-within
returns-then-is_telling-clause-within c =
    let within = c.plain_to-stop.ensures.within in
    let less = c.loop-made-test.true in
    omega (arith, less, within)
