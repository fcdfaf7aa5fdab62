-- Initializations that are put on the current frame, and taken off it.
use Rattle.std.proofs.Common.{◌≡◌, suc, List, [], ◌∷◌, length, map, Option, Some, None, sym, ap, ◌∙◌, arith}
use Rattle.std.specs.Option.{MatchOption}
use Rattle.std.proofs.lemmas.Bool.{le-leb}
use Rattle.std.proofs.lemmas.Option.{none-some}
use Rattle.jvm_model.specs.declared.state.Entry.{Entry}
use Rattle.jvm_model.specs.Running.Moves.{at_part}
use Rattle.prepared_code.specs.declared.initializations.Initialization.{Initialization}
use Rattle.prepared_code.specs.declared.parts.Parts.{Parts}
use Rattle.prepared_code.specs.Initializations.{TakesInitialization, initialization_on, stack_of, state_of}
use Rattle.prepared_code.specs.States.{active, state_in}
use Rattle.prepared_code.proofs.Initializing.InitializingStacks.{length-active}
use Rattle.prepared_code.proofs.Initializing.InitializingStacks.{none-over, none-there, stack-front, stack-initialization, stack-nothing, stack-plain}

module _ (p : Parts) where
  abbrev entries : List Entry
  entries = map active p.frames.frames

  same-many : length entries ≡ length p.frames.frames
  same-many = length-active p.frames.frames

  pub marked-at : (old new : List Initialization) (m : Initialization) → m.depth ≡ length p.frames.frames → new ≡ m ∷ old
      → state_of new p ≡ at_part (state_of old p) m.class m.part
  marked-at old new m many is =
      ap (λ es. record (state_in p) { stack = es })
      (ap (stack_of entries) is ∙ stack-initialization m entries old (le-leb (length entries) m.depth (let e = same-many in omega (arith, many, e))))

  pub marked-below : (old new : List Initialization) (m : Initialization) → m.depth ≡ length p.frames.frames → new ≡ m ∷ old → initialization_on (suc (length p.frames.frames)) new ≡ None
  marked-below old new m many is = ap (initialization_on (suc (length p.frames.frames))) is ∙ none-over m old (length p.frames.frames) many

  pub taken : (old new : List Initialization) (r : Option Initialization) → MatchOption r ((old ≡ []) × (new ≡ [])) (λ x. old ≡ x ∷ new)
      → (m : Initialization) → initialization_on (length p.frames.frames) old ≡ Some m → state_of old p ≡ at_part (state_of new p) m.class m.part
  taken old new None popped m is =
      absurd (none-some m (sym (none-there (length p.frames.frames)) ∙ (ap (initialization_on (length p.frames.frames)) (sym popped.0) ∙ is)))
  taken old new (Some x) popped m is =
      ap (λ es. record (state_in p) { stack = es })
      (ap (stack_of entries) popped ∙ stack-front entries x new m (ap (λ n. initialization_on n (x ∷ new)) same-many ∙ (ap (initialization_on (length p.frames.frames)) (sym popped) ∙ is)))

-- where none was taken
pub not-taken : (r : Option Initialization) (p : Parts) (old new : List Initialization) → TakesInitialization r p old new → r ≡ None
    → (new ≡ old) × (initialization_on (length p.frames.frames) old ≡ None)
not-taken None p old new takes is = takes
not-taken (Some m) p old new takes is = absurd (none-some m (sym is))

-- ---- no initializations

pub plain-state : (ms : List Initialization) (p : Parts) → ms ≡ [] → state_of ms p ≡ state_in p
plain-state ms p none = ap (λ es. record (state_in p) { stack = es }) (ap (stack_of (map active p.frames.frames)) none ∙ stack-plain (map active p.frames.frames))

-- where nothing is on the stack there are none
pub none-marked : (ms : List Initialization) (p : Parts) → (state_of ms p).stack ≡ [] → ms ≡ []
none-marked ms p empty = stack-nothing (map active p.frames.frames) ms empty
