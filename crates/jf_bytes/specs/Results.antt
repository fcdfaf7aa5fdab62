-- What a call may answer.
use Rattle.std.specs.Prelude.{◌≡◌, ◌⊎◌, Result, Err}

-- the answer is this one, unless it is that error
abbrev pub IsUnless : {A E : Type 0} → Result A E → Result A E → E → Type 0
IsUnless result answer error = (result ≡ answer) ⊎ (result ≡ Err error)
