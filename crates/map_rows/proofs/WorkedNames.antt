-- Names on small pages.
use Rattle.std.proofs.Common.{◌≡◌, List, [], ◌∷◌, refl}
use Rattle.std.specs.Prelude.{ℕ, codes}
use Rattle.map_rows.specs.Names.{missing}

abbrev missing_of : List ℕ → List (List ℕ)
missing_of page = missing (codes "/crates/a/specs/Up/Down.antt\n/crates/a/src/top.rt\n/docs/MAP.md\n/tools/measure\n") page

-- whole files, files without their endings, and folders
pub all_there : missing_of (codes "`Up/Down`, `a/src/top.rt`, `top.rt` of `a/specs`, `src/`, `MAP.md` (`tools/measure`)") ≡ []
all_there = refl

-- parts of a name, a file as a folder, and files in other folders, in order
pub not_there : missing_of (codes "`p/Down`, `op.rt`, `Up/Do`, `MAP/`, `docs/top.rt`")
    ≡ codes "p/Down" ∷ (codes "op.rt" ∷ (codes "Up/Do" ∷ (codes "MAP/" ∷ (codes "docs/top.rt" ∷ []))))
not_there = refl

-- words, spans with a blank or a line's end, and what stands outside of backquotes are no names
pub no_names : missing_of (codes "no/file `Gone` no.rt `a / b`, `a\n/b`, ```\n x/y\n```") ≡ []
no_names = refl

-- an open backquote
pub open_span : missing_of (codes "`Up/Down` and `no/file") ≡ codes "no/file" ∷ []
open_span = refl
