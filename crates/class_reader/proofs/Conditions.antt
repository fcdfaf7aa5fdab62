-- Reading numbers that meet a test.
use Rattle.std.proofs.Common.{ℕ, Bool}
use Rattle.std.specs.Int.{Width}
use Rattle.byte_formats.proofs.Conditions as conditions
use Rattle.class_reader.specs.declared.error.ReadError.{ReadError}
use Rattle.class_reader.specs.Formats.{number, value_tested}
use Rattle.class_reader.specs.Reading.{number_at, tested_at}
use Rattle.class_reader.proofs.Items.{IsRead}

pub tested_is_read : (w : Width) (test : ℕ → Bool) (why : ℕ → ℕ → ReadError)
    → IsRead (number_at w) (number w)
    → IsRead (tested_at w test why) (value_tested (number w) test why)
unfolding tested_at
tested_is_read w test why law =
    conditions.tested_is_read (number_at w) (number w) test why law
