-- What a call leaves of what it may change.
use Rattle.std.specs.Prelude.{Bool, if◌then◌else◌}

-- what was there, changed where the call was done, and else as it was
abbrev pub changed_if : {A : Type 0} → Bool → (A → A) → A → A
changed_if done change old = if done then change old else old
