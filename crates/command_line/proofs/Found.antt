-- What the getters of matches read, as what stands in their rows.
use Rattle.std.proofs.Common.{◌≡◌, List, ℕ}
use Rattle.std.specs.Option.{option_map}
use Rattle.clap.specs.Words.{all_of, first_of, first_value, matched_of, raw_values, rows_of}
use Rattle.clap.specs.declared.parser.matches.Found.{Found}
use Rattle.clap.proofs.WalkLemmas.{first_value-rows, raw_values-rows}

pub first_in_rows : (f : Found) (id : List ℕ) → first_value f id ≡ first_of id (rows_of f)
first_in_rows = first_value-rows

pub all_in_rows : (f : Found) (id : List ℕ) → option_map raw_values (matched_of f id) ≡ all_of id (rows_of f)
all_in_rows = raw_values-rows
