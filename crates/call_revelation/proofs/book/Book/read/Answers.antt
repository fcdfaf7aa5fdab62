use Rattle.std.proofs.Common.{◌<◌, ◌∙◌, false, length, subst, sym, ap, ap₂, arith, true}
use Rattle.std.specs.Prelude.{is_some}
use Rattle.std.specs.Vec.{with_items}
use Rattle.std.proofs.lemmas.List.{with_items_is}
use Rattle.jvm_model.specs.Profiling.Revelation.{symbolic_references_of}
use Rattle.jvm_model.specs.Profiling.Targets.{operations_of}
use Rattle.call_revelation.specs.Books.{code_at, with_uses}
use Rattle.call_revelation.proofs.References.BookLemmas.{book-kept, has-read, still-read}
use Rattle.call_revelation.proofs.book.Book.read.Goals as goal

pub returns-clause-book : goal.returns-clause-book
returns-clause-book c =
    let p = c.args.linker.now.program in
    let book = c.args.self.now in
    let waiting = c.note_uses.new.lists in
    let calls = c.note_uses-2.new.lists in
    book-kept c.args.linker.now.program book.codes book.waiting.items book.calls.items c.requires.book c.args.method c.in_ok-references.references
    (subst (λ n. c.args.method < n) (sym c.requires.book.methods) c.requires.method) (c.in_ok-references.ensures ∙ ap (λ q. symbolic_references_of (operations_of q c.args.method)) c.program.ensures)
    c.set.new.self (with_items book.waiting waiting).items (with_items book.calls calls).items c.set.ensures
    (with_items_is book.waiting waiting (omega (arith, c.in_ok-note_uses.ensures.more.places, ap length c.as_mut_slice.ensures.value, book.waiting.ok.0))
    ∙ (c.in_ok-note_uses.ensures.noted
    ∙ ap₂ (λ ns l. with_uses p false c.args.method 0 ns l) c.as_slice-named.ensures c.as_mut_slice.ensures.value))
    (with_items_is book.calls calls (omega (arith, c.in_ok-note_uses-2.ensures.more.places, ap length c.as_mut_slice-2.ensures.value, book.calls.ok.0))
    ∙ (c.in_ok-note_uses-2.ensures.noted
    ∙ ap₂ (λ ns l. with_uses p true c.args.method 0 ns l) c.as_slice-named.ensures c.as_mut_slice-2.ensures.value))

pub returns-clause-has : goal.returns-clause-has
returns-clause-has c =
    let book = c.args.self.now in
    ap (λ codes. is_some (code_at codes c.args.method)) c.set.ensures
    ∙ has-read c.args.linker.now.program book.codes book.waiting.items book.calls.items c.requires.book c.args.method c.in_ok-references.references
    (subst (λ n. c.args.method < n) (sym c.requires.book.methods) c.requires.method) (c.in_ok-references.ensures ∙ ap (λ q. symbolic_references_of (operations_of q c.args.method)) c.program.ensures)

pub returns-clause-kept : goal.returns-clause-kept
returns-clause-kept c = λ m h.
    let book = c.args.self.now in
    ap (λ codes. is_some (code_at codes m)) c.set.ensures
    ∙ still-read c.args.linker.now.program book.codes book.waiting.items book.calls.items c.requires.book c.args.method c.in_ok-references.references
    (subst (λ n. c.args.method < n) (sym c.requires.book.methods) c.requires.method) (c.in_ok-references.ensures ∙ ap (λ q. symbolic_references_of (operations_of q c.args.method)) c.program.ensures) m h
