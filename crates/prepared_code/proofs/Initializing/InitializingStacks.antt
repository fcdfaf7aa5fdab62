-- Stacks of frames and initializations: what pushes and pops of either do to them.
use Rattle.std.proofs.Common.{◌≡◌, ◌<◌, ℕ, suc, Bool, true, false, cond, List, [], ◌∷◌, ◌++◌, length, map, Some, None, nat_le, refl, sym, ap, ◌∙◌, arith}
use Rattle.std.proofs.lemmas.Bool.{le-leb, lt-leb, leb-false}
use Rattle.std.proofs.lemmas.Option.{same_Some, none-some}
use Rattle.jvm_model.specs.declared.state.Entry.{Entry}
use Rattle.jvm_model.specs.declared.state.Entry.TheVariants.{Active, Initializing}
use Rattle.jvm_model.specs.Running.Applies.{live_in}
use Rattle.prepared_code.specs.declared.initializations.Initialization.{Initialization}
use Rattle.prepared_code.specs.Initializations.{initializing_entry, initialization_on, above, beneath, stack_of}
use Rattle.frame_stack.specs.FrameLists.{PlacedFrame}
use Rattle.prepared_code.specs.States.{active}

pub length-active : (fs : List PlacedFrame) → length (map active fs) ≡ length fs
length-active [] = refl
length-active (f ∷ fs) = ap suc (length-active fs)

-- ---- the initialization on top

pub none-more : (n : ℕ) (ms : List Initialization) → initialization_on n ms ≡ None → initialization_on (suc n) ms ≡ None
unfolding initialization_on
none-more n [] none = refl
none-more n (m ∷ ms) none = by (nat_le n m.depth) refl none where
  by : (b : Bool) → nat_le n m.depth ≡ b → cond b (Some m) None ≡ None → cond (nat_le (suc n) m.depth) (Some m) None ≡ None
  by true e isnt = absurd (none-some m (sym isnt))
  by false e isnt =
      let less : m.depth < n = leb-false n m.depth e in
      ap (λ b. cond b (Some m) None) (lt-leb (suc n) m.depth (omega arith))

pub none-left : (ms : List Initialization) → initialization_on 0 ms ≡ None → ms ≡ []
unfolding initialization_on
none-left [] none = refl
none-left (m ∷ ms) none = absurd (none-some m (sym none ∙ ap (λ b. cond b (Some m) None) (le-leb 0 m.depth (omega arith))))

-- one that stands on so many frames stands below the next one
pub none-over : (m : Initialization) (ms : List Initialization) (n : ℕ) → m.depth ≡ n → initialization_on (suc n) (m ∷ ms) ≡ None
unfolding initialization_on
none-over m ms n is = ap (λ b. cond b (Some m) None) (lt-leb (suc n) m.depth (omega arith))

-- ---- the stack

pub stack-empty : (ms : List Initialization) → stack_of [] ms ≡ map initializing_entry ms
unfolding stack_of
stack-empty ms = refl

pub stack-plain : (es : List Entry) → stack_of es [] ≡ es
unfolding stack_of above beneath
stack-plain [] = refl
stack-plain (e ∷ es) = ap (λ rest. let all : List Entry = e ∷ rest in all) (stack-plain es)

-- a frame with no initialization on it
pub stack-frame : (e : Entry) (es : List Entry) (ms : List Initialization) → initialization_on (suc (length es)) ms ≡ None → stack_of (e ∷ es) ms ≡ e ∷ stack_of es ms
unfolding stack_of above beneath initialization_on
stack-frame e es [] none = refl
stack-frame e es (m ∷ ms) none = by (nat_le (suc (length es)) m.depth) none where
  by : (b : Bool) → cond b (Some m) None ≡ None
      → map initializing_entry (cond b (m ∷ above (suc (length es)) ms) []) ++ e ∷ stack_of es (cond b (beneath (suc (length es)) ms) (m ∷ ms)) ≡ e ∷ stack_of es (m ∷ ms)
  by true isnt = absurd (none-some m (sym isnt))
  by false isnt = refl

-- an initialization on the current frame
pub stack-initialization : (m : Initialization) (es : List Entry) (ms : List Initialization) → nat_le (length es) m.depth ≡ true → stack_of es (m ∷ ms) ≡ initializing_entry m ∷ stack_of es ms
unfolding stack_of above beneath
stack-initialization m [] ms on = refl
stack-initialization m (e ∷ es) ms on =
    ap (λ b. map initializing_entry (cond b (m ∷ above (suc (length es)) ms) []) ++ e ∷ stack_of es (cond b (beneath (suc (length es)) ms) (m ∷ ms))) on

-- ---- how many activations are live

live-behind : (ms : List Initialization) (es : List Entry) → live_in (map initializing_entry ms ++ es) ≡ live_in es
live-behind [] es = refl
live-behind (m ∷ ms) es = live-behind ms es

live-initializing : (ms : List Initialization) → live_in (map initializing_entry ms) ≡ 0
live-initializing [] = refl
live-initializing (m ∷ ms) = live-initializing ms

pub live-stack : (es : List Entry) (ms : List Initialization) → live_in (stack_of es ms) ≡ live_in es
unfolding stack_of above beneath
live-stack [] ms = live-initializing ms
live-stack (Active f ∷ es) ms =
    live-behind (above (suc (length es)) ms) (Active f ∷ stack_of es (beneath (suc (length es)) ms))
    ∙ ap suc (live-stack es (beneath (suc (length es)) ms))
live-stack (Initializing c part ∷ es) ms =
    live-behind (above (suc (length es)) ms) (Initializing c part ∷ stack_of es (beneath (suc (length es)) ms))
    ∙ live-stack es (beneath (suc (length es)) ms)

-- the initialization that is on the current frame is at the front
pub stack-front : (es : List Entry) (x : Initialization) (ms : List Initialization) (m : Initialization) → initialization_on (length es) (x ∷ ms) ≡ Some m → stack_of es (x ∷ ms) ≡ initializing_entry m ∷ stack_of es ms
unfolding initialization_on
stack-front es x ms m is = by (nat_le (length es) x.depth) refl is where
  by : (b : Bool) → nat_le (length es) x.depth ≡ b → cond b (Some x) None ≡ Some m → stack_of es (x ∷ ms) ≡ initializing_entry m ∷ stack_of es ms
  by true e same =
      let front : initializing_entry x ≡ initializing_entry m = ap initializing_entry (same_Some x m same) in
      stack-initialization x es ms e ∙ ap (λ i. let all : List Entry = i ∷ stack_of es ms in all) front
  by false e same = absurd (none-some m same)

pub stack-on : (es : List Entry) (ms : List Initialization) (m : Initialization) → initialization_on (length es) ms ≡ Some m → (rest : List Entry) × (stack_of es ms ≡ initializing_entry m ∷ rest)
unfolding initialization_on
stack-on es [] m is = absurd (none-some m is)
stack-on es (x ∷ ms) m is = (stack_of es ms, stack-front es x ms m is)

pub none-there : (n : ℕ) → initialization_on n [] ≡ None
unfolding initialization_on
none-there n = refl

pub stack-nothing : (es : List Entry) (ms : List Initialization) → stack_of es ms ≡ [] → ms ≡ []
unfolding stack_of
stack-nothing [] [] e = refl
stack-nothing [] (m ∷ ms) e = absurd cc
stack-nothing (x ∷ es) ms e = absurd (by (above (suc (length es)) ms) e) where
  by : (marks : List Initialization) → map initializing_entry marks ++ x ∷ stack_of es (beneath (suc (length es)) ms) ≡ [] → ⊥
  by [] same = absurd cc
  by (m ∷ marks) same = absurd cc
