-- Marks of methods with Code alone, told by a test.
use Rattle.std.proofs.Common.{◌≡◌, Bool, true, false, List, [], ◌∷◌, refl}
use Rattle.std.specs.Prelude.{is_some, ◌||◌}
use Rattle.std.proofs.lemmas.Bool.{and_parts}
use Rattle.const_pool.specs.declared.class.Member.{Member}
use Rattle.jvm_model.specs.declared.event.Mark.{Mark}
use Rattle.jvm_model.specs.Rewriting.Images.{is_off}
use Rattle.jvm_model.specs.Basis.Methods.{code_of}
use Rattle.inject_events.specs.Answers.{MarkedHaveCode, can_be_marked, can_all_be_marked}

one-can : (off coded : Bool) → (off || coded) ≡ true → off ≡ false → coded ≡ true
one-can false coded is marked = is
one-can true coded is marked = absurd cc

pub have-can : (marks : List Mark) (methods : List Member) → can_all_be_marked marks methods ≡ true → MarkedHaveCode marks methods
have-can [] methods is = tt
have-can (mark ∷ marks) [] is = tt
have-can (mark ∷ marks) (m ∷ methods) is =
    let parts = and_parts (can_be_marked mark m) (can_all_be_marked marks methods) is in
    (one-can (is_off mark) (is_some (code_of m)) parts.0, have-can marks methods parts.1)

can-one : (off coded : Bool) → (off ≡ false → coded ≡ true) → (off || coded) ≡ true
can-one true coded has = refl
can-one false coded has = has refl

can-have : (marks : List Mark) (methods : List Member) → MarkedHaveCode marks methods → can_all_be_marked marks methods ≡ true
can-have [] methods have = refl
can-have (mark ∷ marks) [] have = refl
can-have (mark ∷ marks) (m ∷ methods) have = rw (can-one (is_off mark) (is_some (code_of m)) have.0) (can-have marks methods have.1)

pub lack-cannot : (marks : List Mark) (methods : List Member) → can_all_be_marked marks methods ≡ false → MarkedHaveCode marks methods → ⊥
lack-cannot marks methods is have = absurd (let can = can-have marks methods have in cc)
