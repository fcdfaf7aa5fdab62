use Rattle.std.proofs.Common.{◌≡◌, ℕ, List, Option, Some, None, IfSome, ap, sym, ◌∙◌}
use Rattle.byte_streams.specs.Streams.{Told, front_at}
use Rattle.worked_rows.specs.Rows.{file_at}
use Rattle.worked_rows.proofs.judging.fetch_list.Goals as goal

as_text : (told : Option Told) (path bytes text : List ℕ) → IfSome told (λ t. front_at t path 67108864 ≡ Some bytes) → text ≡ bytes → IfSome told (λ t. file_at t path ≡ Some text)
unfolding file_at
as_text (Some t) path bytes text h e = h ∙ ap Some (sym e)
as_text None path bytes text h e = tt

pub returns-in-Ok-from_utf8-clause-found : goal.returns-in-Ok-from_utf8-clause-found
returns-in-Ok-from_utf8-clause-found g c =
    as_text (g.F.Files.contents c.args.files.now) c.args.list.now c.in-Ok.bytes.items _ c.in-Ok.ensures.found (ap (λ b. b.items) c.in-Ok-from_utf8.ensures.ok)
