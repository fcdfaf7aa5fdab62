use Rattle.std.proofs.Common.{ap, ◌∙◌, subst, inl, Ok, Err}
use Rattle.text_coding.specs.declared.error.TextError.TheVariants.{BadUtf8}
use Rattle.text_coding.specs.Spelling.{IsFirstBad}
use Rattle.text_coding.proofs.SpellingLemmas.{first_bad-left, first_bad-one, begins-left, spelling-more, begins-within, spelling_all}
use Rattle.text_coding.proofs.modified.from_modified.Goals as goal

pub loop-at-preserved : goal.loop-at-preserved
loop-at-preserved c =
    let begins = begins-left c.args.bytes.now c.in-Ok.unit c.loop-at.at c.in-Ok.ensures.unit in
    record {
      within = rw c.spelled_len-at.ensures (begins-within c.args.bytes.now c.in-Ok.unit c.loop-at.at begins c.loop-at.invariant.within);
      spelling = rw (c.spelled_len-at.ensures, c.in_ok-push-in-Ok.ensures.items) (spelling-more c.args.bytes.now c.loop-at.units.items c.in-Ok.unit c.loop-at.at c.loop-at.invariant.spelling begins);
    }

pub returns-in-Err-clause-only : goal.returns-in-Err-clause-only
returns-in-Err-clause-only c =
    let bad = first_bad-left c.args.bytes.now _ c.loop-at.at c.in-Err.good c.loop-at.invariant.spelling c.loop-at.invariant.within c.in-Err.ensures.bad in
    λ units h. absurd (bad.no_text units h)

pub returns-in-Err-clause-refused : goal.returns-in-Err-clause-refused
returns-in-Err-clause-refused c =
    let bad = first_bad-left c.args.bytes.now _ c.loop-at.at c.in-Err.good c.loop-at.invariant.spelling c.loop-at.invariant.within c.in-Err.ensures.bad in
    λ at e. subst (IsFirstBad c.args.bytes.now) (cc) bad

pub returns-in-Err-clause-first_bad : goal.returns-in-Err-clause-first_bad
returns-in-Err-clause-first_bad c =
    let bad = first_bad-left c.args.bytes.now _ c.loop-at.at c.in-Err.good c.loop-at.invariant.spelling c.loop-at.invariant.within c.in-Err.ensures.bad in
    λ at h. inl (ap (λ n. Err (BadUtf8 n)) (first_bad-one c.args.bytes.now _ at bad h))

pub returns-clause-only : goal.returns-clause-only
returns-clause-only c =
    λ units h. inl (ap Ok (c.new.ensures ∙ spelling_all c.args.bytes.now c.loop-at.units.items units c.loop-at.at c.loop-at-test.false c.loop-at.invariant.spelling h))
