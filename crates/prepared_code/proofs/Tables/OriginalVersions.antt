-- Original code as versions: what stands there is what the definitions have at the offsets of methods.
use Rattle.std.proofs.Common.{◌≡◌, ℕ, ◌≤◌, ◌<◌, List, [], length, Option, Some, None, refl, ap, subst, sym, ◌∙◌, ⊎_elim}
use Rattle.std.specs.Prelude.{slice_get}
use Rattle.std.specs.Option.{IfSome, option_map_or, option_and_then, option_flatten}
use Rattle.std.proofs.lemmas.Bool.{cases_lt}
use Rattle.std.proofs.lemmas.Option.{slice_get_past}
use Rattle.const_pool.specs.declared.class.ClassFile.{ClassFile}
use Rattle.const_pool.specs.declared.class.Member.{Member}
use Rattle.const_pool.specs.declared.class.CodeAttribute.{CodeAttribute}
use Rattle.code_model.proofs.Reading.Readings.{instruction_at-past}
use Rattle.jvm_model.specs.declared.program.MethodPlace.{MethodPlace}
use Rattle.jvm_model.specs.declared.program.Program.{Program}
use Rattle.jvm_model.specs.Basis.Methods.{code_of}
use Rattle.jvm_model.specs.Codes.Originals.{original}
use Rattle.jvm_model.specs.Basis.Programs.{class_at}
use Rattle.prepared_lines.specs.declared.line.Line.{Line}
use Rattle.prepared_code.specs.Entries.{code_line, lines_of, no_version, original_slot, original_versions, version_entry, version_in, version_of}
use Rattle.prepared_code.specs.Lines.{method_line}
use Rattle.prepared_code.specs.Lines as originals
use Rattle.prepared_code.specs.Ready.{IsOwnLine}
use Rattle.prepared_code.specs.Versions.{HasLines, IsPreparedLine, line_at, line_in, listing_of}
use Rattle.prepared_code.proofs.Lines.Dimensions.{Fits, fits-at}
use Rattle.prepared_code.proofs.Lines.LineFamilies.{prepared-at}
use Rattle.prepared_code.proofs.Tables.Tabled.{slotted-at, slotted-past, tabled-place}
use Rattle.prepared_code.proofs.Lines.Tied.{Tie, own-tie, shown, tied-at}

-- ---- the lines

-- no instruction stands past the end, so no line
code_line-past : (c : ClassFile) (code : List ℕ) (at : ℕ) → length code ≤ at → code_line c code at ≡ None
code_line-past c code at le = rw (instruction_at-past code at le) refl

line-code : (c : ClassFile) (code : Option CodeAttribute) (at : ℕ)
    → option_flatten (slice_get (option_map_or (λ k. lines_of c k.code) code []) at) ≡ option_and_then (λ k. code_line c k.code at) code
line-code c None at = refl
line-code c (Some code) at = tabled-place (code_line c code.code) (length code.code) at (code_line-past c code.code at)

line-member : (c : ClassFile) (m : Option Member) (k at : ℕ)
    → line_in at (option_map_or (version_entry k c) m (no_version k)) ≡ option_and_then (λ x. code_line c x.code at) (option_and_then code_of m)
line-member c None k at = refl
line-member c (Some m) k at = line-code c (code_of m) at

line-class : (place : MethodPlace) (c : Option ClassFile) (k at : ℕ)
    → line_in at (option_map_or (version_in k place) c (no_version k)) ≡ option_and_then (λ x. method_line at x place.position) c
line-class place None k at = refl
line-class place (Some c) k at = line-member c (slice_get c.methods place.position) k at

line-place : (p : Program) (place : Option MethodPlace) (k at : ℕ)
    → line_in at (option_map_or (version_of p k) place (no_version k))
    ≡ option_and_then (λ (x : MethodPlace). option_and_then (λ c. method_line at c x.position) (class_at p x.class)) place
line-place p None k at = refl
line-place p (Some place) k at = line-class place (class_at p place.class) k at

none-past : (p : Program) (k at : ℕ) → length p.methods ≤ k → originals.original_line_at p k at ≡ None
none-past p k at le =
    ap (option_and_then (λ (x : MethodPlace). option_and_then (λ c. method_line at c x.position) (class_at p x.class))) (slice_get_past p.methods k le)

-- at each place of each version
pub original-line : (p : Program) (k at : ℕ) → line_at (original_versions p) k at ≡ originals.original_line_at p k at
original-line p k at =
    ⊎_elim
    (λ (lt : k < length p.methods). ap (option_and_then (line_in at)) (slotted-at (original_slot p) (length p.methods) k lt) ∙ line-place p (slice_get p.methods k) k at)
    (λ (le : length p.methods ≤ k). ap (option_and_then (line_in at)) (slotted-past (original_slot p) (length p.methods) k le) ∙ sym (none-past p k at le))
    (cases_lt k (length p.methods))

pub original-lines : (p : Program) → HasLines (original_versions p)
original-lines p = record {
  prepared = λ k at. subst (λ (o : Option Line). IfSome o IsPreparedLine) (sym (original-line p k at)) (prepared-at p k at);
  dimensions = λ k at. subst (λ (o : Option Line). IfSome o Fits) (sym (original-line p k at)) (fits-at p k at);
}

pub original-own : (p : Program) (k at : ℕ) → IfSome (line_at (original_versions p) k at) IsOwnLine
original-own p k at =
    subst (λ (o : Option Line). IfSome o IsOwnLine) (sym (original-line p k at)) (own-tie (originals.original_line_at p k at) ((original p).at k at) (tied-at p k at))

-- as a listing they are original code
pub original-at : (p : Program) (k at : ℕ) → (listing_of (original_versions p)).at k at ≡ (original p).at k at
original-at p k at = shown (line_at (original_versions p) k at) ((original p).at k at) (subst (λ (o : Option Line). Tie o ((original p).at k at)) (sym (original-line p k at)) (tied-at p k at))
