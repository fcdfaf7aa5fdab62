-- The current frame is the current activation: initializations are none.
use Rattle.std.proofs.Common.{◌≡◌, ℕ, suc, List, [], ◌∷◌, ◌++◌, length, map, Option, Some, None, refl, sym, ap, ◌∙◌}
use Rattle.frame_stack.specs.FrameLists.{PlacedFrame}
use Rattle.jvm_model.specs.declared.due.Due.{Due}
use Rattle.jvm_model.specs.declared.due.Due.TheVariants.{Nothing, Ends, Begins}
use Rattle.jvm_model.specs.declared.event.Event.{Event}
use Rattle.jvm_model.specs.declared.event.Mark.{Mark}
use Rattle.jvm_model.specs.declared.state.Entry.{Entry}
use Rattle.jvm_model.specs.Turns.Pauses.{begin_kind, told_at}
use Rattle.jvm_model.specs.Turns.Told.{helds, frame_held}
use Rattle.prepared_code.specs.declared.initializations.Initialization.{Initialization}
use Rattle.prepared_code.specs.declared.parts.Here.{Here}
use Rattle.prepared_code.specs.declared.parts.Parts.{Parts}
use Rattle.prepared_code.specs.Initializations.{above, beneath, initializing_entry, stack_of, state_of}
use Rattle.prepared_code.specs.States.{active, frame_in, here_of}

held-initializing : (v : ℕ → Mark) (ms : List Initialization) (rest : List Entry) → helds v (map initializing_entry ms ++ rest) ≡ helds v rest
held-initializing v [] rest = refl
held-initializing v (m ∷ ms) rest = held-initializing v ms rest

held-none : (v : ℕ → Mark) (ms : List Initialization) → helds v (map initializing_entry ms) ≡ []
held-none v [] = refl
held-none v (m ∷ ms) = held-none v ms

stack-none : (v : ℕ → Mark) (ms : List Initialization) → helds v (stack_of [] ms) ≡ []
unfolding stack_of
stack-none v ms = held-none v ms

stack-some : (v : ℕ → Mark) (f : PlacedFrame) (fs : List PlacedFrame) (ms : List Initialization)
    → helds v (stack_of (active f ∷ map active fs) ms) ≡ frame_held v (frame_in f) ∷ helds v (stack_of (map active fs) (beneath (suc (length (map active fs))) ms))
unfolding stack_of
stack-some v f fs ms = held-initializing v (above (suc (length (map active fs))) ms) _

-- as many activations are live as there are frames
frames-live : (v : ℕ → Mark) (fs : List PlacedFrame) (ms : List Initialization) → length (helds v (stack_of (map active fs) ms)) ≡ length fs
frames-live v [] ms = ap length (stack-none v ms)
frames-live v (f ∷ fs) ms = ap length (stack-some v f fs ms) ∙ ap suc (frames-live v fs (beneath (suc (length (map active fs))) ms))

pub live-frames : (v : ℕ → Mark) (ms : List Initialization) (p : Parts) → length (helds v (state_of ms p).stack) ≡ length p.frames.frames
live-frames v ms p = frames-live v p.frames.frames ms

-- ---- what is told of the current frame

abbrev pub told_here : (ℕ → Mark) → Due → ℕ → Option Here → Option Event
told_here v due clock None = None
told_here v Nothing clock (Some here) = None
told_here v (Ends k) clock (Some here) = Some (record { kind = k; method = here.method; clock = clock })
told_here v Begins clock (Some here) = Some (record { kind = begin_kind (v here.version); method = here.method; clock = clock })

no-held : (due : Due) (clock : ℕ) → told_at due clock [] ≡ None
no-held Nothing clock = refl
no-held (Ends k) clock = refl
no-held Begins clock = refl

told-frames : (v : ℕ → Mark) (due : Due) (clock : ℕ) (fs : List PlacedFrame) (ms : List Initialization) → told_at due clock (helds v (stack_of (map active fs) ms)) ≡ told_here v due clock (here_of fs)
told-frames v due clock [] ms = ap (told_at due clock) (stack-none v ms) ∙ no-held due clock
told-frames v Nothing clock (f ∷ fs) ms = refl
told-frames v (Ends k) clock (f ∷ fs) ms = ap (told_at (Ends k) clock) (stack-some v f fs ms)
told-frames v Begins clock (f ∷ fs) ms = ap (told_at Begins clock) (stack-some v f fs ms)

pub told-by : (v : ℕ → Mark) (due : Due) (clock : ℕ) (p : Parts) (ms : List Initialization) (o : Option Here) → o ≡ here_of p.frames.frames
    → told_at due clock (helds v (state_of ms p).stack) ≡ told_here v due clock o
told-by v due clock p ms o e = told-frames v due clock p.frames.frames ms ∙ ap (told_here v due clock) (sym e)
