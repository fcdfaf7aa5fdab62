use Rattle.std.proofs.Common.{ℕ, false, List, [], length, ap, ap₂, ◌∙◌}
use Rattle.std.specs.Prelude.{None, replicate}
use Rattle.jvm_model.specs.declared.event.Mark.TheVariants.{Off}
use Rattle.jvm_model.specs.declared.program.MethodPlace.{MethodPlace}
use Rattle.possible_callees.proofs.Classes.LineageLemmas.{nothing-loaded}
use Rattle.call_revelation.specs.Reveals.{owned_from}
use Rattle.prepared_code.proofs.Initializing.BuiltInLoads.{few-coded}
use Rattle.call_revelation.proofs.References.BookLemmas.{nothing-read}
use Rattle.call_revelation.proofs.References.CalledLemmas.{nothing-named}
use Rattle.call_revelation.proofs.Revelations.First.{first-revelation}
use Rattle.call_revelation.proofs.reveal.Reveal.new.Goals as goal

pub new-requires-clause-few : goal.new-requires-clause-few
new-requires-clause-few c = few-coded c.args.program.now c.requires.numbered c.requires.few

pub returns-clause-revelation : goal.returns-clause-revelation
returns-clause-revelation c =
    let p = c.args.program.now in
    let places = c.as_slice-places.ensures in
    first-revelation p _ c.requires.numbered c.requires.fit c.requires.short c.in_ok-numbers.ensures
    (nothing-loaded p c.in_ok-lineage.lineage c.in_ok-lineage.ensures.loaded (c.in_ok-lineage.ensures.below ∙ ap (λ n. replicate n []) c.len-classes.ensures))
    (nothing-read p c.in_ok-book.book.codes c.in_ok-book.book.waiting.items c.in_ok-book.book.calls.items
    (c.in_ok-book.ensures.codes ∙ ap (λ (l : List MethodPlace). replicate (length l) None) places)
    (c.in_ok-book.ensures.waiting ∙ ap (λ n. replicate n []) c.len-classes.ensures)
    (c.in_ok-book.ensures.calls ∙ ap (λ n. replicate n []) c.len-classes.ensures))
    (nothing-named p c.in_ok-named.named c.in_ok-named.ensures.classes (c.in_ok-named.ensures.above ∙ ap (λ n. replicate n []) c.len-classes.ensures)
    c.in_ok-lineage.lineage.loaded)
    (record {
      own = c.in_ok-own.ensures ∙ ap₂ (λ (l : List MethodPlace) (n : ℕ). owned_from 0 l (replicate n [])) places c.len-classes.ensures;
      loaded = c.in_ok-lineage.ensures.loaded;
      selected = c.in_ok-selected.ensures;
      entered = c.new-6.ensures;
      flags = c.in_ok-flags.ensures ∙ ap (λ (l : List MethodPlace). replicate (length l) false) places;
      targets = c.new-7.ensures;
      shown = c.in_ok-shown.ensures ∙ ap (λ (l : List MethodPlace). replicate (length l) Off) places;
    })
