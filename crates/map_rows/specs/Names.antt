-- Which files a page names, and which of them are not in a list.
use Rattle.std.specs.Prelude.{ℕ, Bool, true, false, not, List, [], ◌∷◌, ◌++◌, ◌==◌, ◌&&◌, ◌||◌, codes, if◌then◌else◌}
use Rattle.std.specs.Char.{is_ascii_alphanumeric}
use Rattle.std.specs.List.{ends_with, filter, list_all, list_any, slice_split, starts_with}

-- ---- the spans of a page

-- every second one of these, with or without the first
abbrev pub every_second : Bool → List (List ℕ) → List (List ℕ)
every_second with_first [] = []
every_second true (first ∷ rest) = first ∷ every_second false rest
every_second false (first ∷ rest) = every_second true rest

-- what stands in backquotes, of which every second one closes; the last, where it is open, ends with the page
abbrev pub spans : List ℕ → List (List ℕ)
spans page = every_second false (slice_split (λ b. b == 96) page)

-- ---- names of files

-- letters, digits, and `_` `.` `-` `+` `/`
abbrev pub is_path_byte : ℕ → Bool
is_path_byte byte = is_ascii_alphanumeric byte || list_any (λ b. b == byte) (codes "_.-+/")

-- a text ends so
abbrev pub ends_in : List ℕ → List ℕ → Bool
ends_in text end = ends_with (λ a b. a == b) text end

-- the endings of sources, proofs, pages and scripts
abbrev pub has_ending : List ℕ → Bool
has_ending name = ends_in name (codes ".rt") || ends_in name (codes ".antt") || ends_in name (codes ".md") || ends_in name (codes ".py")

-- a span names a file or a folder: it is part of a path, and has a `/` or such an ending
abbrev pub is_name : List ℕ → Bool
is_name span = list_all is_path_byte span && (list_any (λ b. b == 47) span || has_ending span)

-- ---- what is in a list

-- a text stands somewhere in another
abbrev pub stands_in : List ℕ → List ℕ → Bool
stands_in part [] = starts_with (λ a b. a == b) [] part
stands_in part (first ∷ rest) = starts_with (λ a b. a == b) (first ∷ rest) part || stands_in part rest

-- whole parts of a path of the list, behind a `/`, are the name with this end
abbrev pub stands : List ℕ → List ℕ → List ℕ → Bool
stands list name end = stands_in (codes "/" ++ (name ++ end)) list

-- A name with a `/` at its end is a folder of a path in the list. Another is a folder, a file without its ending, or a
-- whole file, at the end of a line.
abbrev pub is_there : List ℕ → List ℕ → Bool
is_there list name =
    if ends_in name (codes "/") then stands list name []
    else (stands list name (codes "/") || (stands list name (codes ".") || stands list name (codes "\n")))

-- ---- the answer

abbrev pub is_missing : List ℕ → List ℕ → Bool
is_missing list span = is_name span && not (is_there list span)

-- the names of files on a page that are not in the list, in order
abbrev pub missing : List ℕ → List ℕ → List (List ℕ)
missing list page = filter (is_missing list) (spans page)
