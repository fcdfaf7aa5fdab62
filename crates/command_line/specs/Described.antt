-- The command as clap knows it: six options with one value each, a flag, and any number of files.
use Rattle.std.specs.Prelude.{ℕ, List, Some, codes}
use Rattle.clap.specs.Words.{App, Rule, new_app, new_rule, with_rule}
use Rattle.clap.specs.declared.builder.ArgAction.TheVariants.{Append, SetTrue}

-- An option of this name, whose value is any text. It has one value, which help gives a name.
abbrev pub option : List ℕ → Rule
option name = record (new_rule name) { long = Some name; value_names = 1 }

-- a flag of this name, which takes no value
abbrev pub flag : List ℕ → Rule
flag name = record (new_rule name) { long = Some name; action = Some SetTrue }

-- the files, of which each is one word that is no option
abbrev pub files : Rule
files = record (new_rule (codes "FILE")) { action = Some Append }

-- nothing is required, has a default or a short name, or excludes another; help is clap's own
abbrev pub jfluid : App
jfluid =
    let main = with_rule (new_app (codes "jfluid")) (option (codes "main")) in
    let root = with_rule main (option (codes "root")) in
    let budget = with_rule root (option (codes "budget")) in
    let plan = with_rule budget (option (codes "plan")) in
    let gen = with_rule plan (option (codes "gen")) in
    let size = with_rule gen (option (codes "size")) in
    let images = with_rule size (flag (codes "images")) in
    with_rule images files
