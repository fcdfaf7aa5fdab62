-- A search upwards: what is known of the classes that are left.
use Rattle.std.proofs.Common.{◌≡◌, ℕ, ◌+◌, ◌<◌, true, List, ◌∷◌, length, drop, get_or, add-one, ap, sym, subst, ◌∙◌}
use Rattle.std.specs.Prelude.{Option, Some, None, ◌||◌}
use Rattle.std.specs.Option.{option_map_or}
use Rattle.std.proofs.Math.Seq.{drop-cons}
use Rattle.std.proofs.lemmas.Bool.{and_parts}
use Rattle.jf_bytes.proofs.Tests.{equals_itself}
use Rattle.jvm_model.specs.declared.program.Program.{Program}
use Rattle.jvm_model.specs.Classes.Load.{is_among}
use Rattle.jvm_model.specs.Classes.Lookup.{MemberPlace, first_in, place_in}
use Rattle.class_linker.specs.Passing.{AreUnpassed, IsChain, IsUnpassed}
use Rattle.class_linker.specs.LoadedClasses.{AreLoadedClasses, LoadedClassRows, holds_all, holds_class}
use Rattle.class_linker.proofs.PassedOn.{unpassed_above}

-- those that are left
pub left : (xs : List ℕ) (i : ℕ) → i < length xs → drop i xs ≡ get_or xs i 0 ∷ drop (i + 1) xs
left xs i within = rw (add-one, drop-cons xs i 0 within)

-- a class that has none is passed over
pub passed_over : (at : ℕ → Option ℕ) (cs : List ℕ) (c : ℕ) (rest : List ℕ) → cs ≡ c ∷ rest → at c ≡ None → first_in at rest ≡ first_in at cs
passed_over at cs c rest e none =
    sym (ap (first_in at) e ∙ ap (λ o. option_map_or (λ position. Some (place_in c position)) o (first_in at rest)) none)

pub first_has : (rows : LoadedClassRows) (cs : List ℕ) (c : ℕ) (rest : List ℕ) → cs ≡ c ∷ rest → holds_all rows cs ≡ true
    → (holds_class rows c ≡ true) × (holds_all rows rest ≡ true)
first_has rows cs c rest e have = and_parts (holds_class rows c) (holds_all rows rest) (sym (ap (holds_all rows) e) ∙ have)

pub first : (p : Program) (m : MemberPlace) (cs : List ℕ) (c : ℕ) (rest : List ℕ) → cs ≡ c ∷ rest → AreUnpassed p m cs → IsUnpassed p m c
first p m cs c rest e all = all c (ap (is_among c) e ∙ ap (λ b. b || is_among c rest) (equals_itself c))

pub chain_behind : (p : Program) (cs : List ℕ) (c : ℕ) (rest : List ℕ) → cs ≡ c ∷ rest → IsChain p cs → IsChain p rest
chain_behind p cs c rest e chain = (subst (IsChain p) e chain).1

pub behind : (p : Program) (rows : LoadedClassRows) → AreLoadedClasses p rows → (m : MemberPlace) (cs : List ℕ) (c : ℕ) (rest : List ℕ) → cs ≡ c ∷ rest → IsChain p cs
    → holds_class rows c ≡ true → IsUnpassed p m c → AreUnpassed p m rest
behind p rows are m cs c rest e chain has none d there = unpassed_above p rows are m c d has ((subst (IsChain p) e chain).0 d there) none
