-- The words of the laws on changes: which methods the frames are of, and in which order a step changes them.
use Rattle.std.specs.Prelude.{ℕ, suc, List, [], ◌∷◌}
use Rattle.jvm_model.specs.Basis.Data.{Entry, Active, Initializing, Change, Loads, Began, Left, Unwound}

-- the methods of the frames, the current one first
abbrev pub methods : List Entry → List ℕ
methods [] = []
methods (Active f ∷ below) = f.method ∷ methods below
methods (Initializing c part ∷ below) = methods below

abbrev pub without_first : List ℕ → List ℕ
without_first [] = []
without_first (m ∷ ms) = ms

-- the methods after a change, and after several
abbrev pub methods_after_change : List ℕ → Change → List ℕ
methods_after_change ms (Loads classes) = ms
methods_after_change ms (Began m) = m ∷ ms
methods_after_change ms Left = without_first ms
methods_after_change ms Unwound = without_first ms

abbrev pub methods_after_changes : List ℕ → List Change → List ℕ
methods_after_changes ms [] = ms
methods_after_changes ms (c ∷ more) = methods_after_changes (methods_after_change ms c) more

-- how many activations begin
abbrev pub begun_count : List Change → ℕ
begun_count [] = 0
begun_count (Loads classes ∷ more) = begun_count more
begun_count (Began m ∷ more) = suc (begun_count more)
begun_count (Left ∷ more) = begun_count more
begun_count (Unwound ∷ more) = begun_count more

-- activations end first, and behind them one begins at most
abbrev pub EndThenBegin : List Change → Type 0
EndThenBegin [] = Unit {0}
EndThenBegin (Left ∷ more) = EndThenBegin more
EndThenBegin (Unwound ∷ more) = EndThenBegin more
EndThenBegin (Began m ∷ []) = Unit {0}
EndThenBegin (Began m ∷ c ∷ more) = ⊥
EndThenBegin (Loads classes ∷ more) = ⊥

abbrev pub OnlyEnd : List Change → Type 0
OnlyEnd [] = Unit {0}
OnlyEnd (Left ∷ more) = OnlyEnd more
OnlyEnd (Unwound ∷ more) = OnlyEnd more
OnlyEnd (Began m ∷ more) = ⊥
OnlyEnd (Loads classes ∷ more) = ⊥

-- classes are loaded before that
abbrev pub AreOrdered : List Change → Type 0
AreOrdered (Loads classes ∷ more) = EndThenBegin more
AreOrdered changes = EndThenBegin changes
