use Rattle.std.proofs.Common.{List, Option, ℕ, map, sym, ap, subst, ◌∙◌, arith}
use Rattle.std.specs.List.{range_with_len}
use Rattle.method_versions.specs.Tables.{IsFirst}
use Rattle.prepared_code.specs.Entries.{own_number}
use Rattle.prepared_code.specs.Making.{bare_versions}
use Rattle.prepared_code.specs.Tables.{Version}
use Rattle.prepared_code.proofs.Tables.Made.{bare-first}
use Rattle.prepared_code.proofs.preparing.bare_versions.Goals as goal

pub of-requires : goal.of-requires
of-requires c =
    let few = c.requires.methods in
    subst (λ (slots : List (Option Version)). IsFirst slots c.in_ok-current.current) (sym c.in_ok-all.ensures)
    (subst (λ (current : List ℕ). IsFirst (bare_versions c.args.program.now).slots current) (sym (c.in_ok-current.ensures ∙ ap (λ n. map own_number (range_with_len 0 n)) c.len.ensures)) (bare-first c.args.program.now (omega (arith, few))))
