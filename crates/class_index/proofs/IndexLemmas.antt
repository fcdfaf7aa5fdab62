-- The table of names gives what walking the classes gives.
use Rattle.std.proofs.Common.{◌≡◌, ℕ, ◌+◌, Bool, true, false, List, [], ◌∷◌, ◌++◌, ap, sym, refl, ◌∙◌}
use Rattle.std.specs.Prelude.{Option, Some, None, is_some, filter_map, if◌then◌else◌}
use Rattle.std.specs.List.{cons_option, position_from}
use Rattle.std.specs.Map.{lookup}
use Rattle.std.specs.Option.{option_and_then, option_map_or, option_or}
use Rattle.std.specs.Str.{bytes_eq}
use Rattle.std.proofs.lemmas.Iterator.Adapters.{position_from-zero}
use Rattle.std.proofs.lemmas.Slice.Eq.{bytes_eq-Decides}
use Rattle.const_pool.specs.declared.class.ClassFile.{ClassFile}
use Rattle.jvm_model.specs.declared.program.Program.{Program}
use Rattle.jvm_model.specs.Basis.Programs.{class_named, has_name, name_of}
use Rattle.const_pool.specs.References.{named_class}
use Rattle.jvm_model.specs.Classes.Lookup.{interface_names}
use Rattle.class_index.specs.Indices.{interfaces_in}
use Rattle.class_index.specs.Names.{Entries, named_from, position_of, with_first, with_name}

lookup-last : (test : List ℕ → Bool) (es : Entries) (n : List ℕ) (at : ℕ)
    → lookup test (es ++ (n, at) ∷ []) ≡ option_or (lookup test es) (if test n then Some at else None)
lookup-last test [] n at = refl
lookup-last test (e ∷ es) n at = by (test e.0) (lookup-last test es n at)
  where
    by : (b : Bool) → lookup test (es ++ (n, at) ∷ []) ≡ option_or (lookup test es) (if test n then Some at else None)
        → (if b then Some e.1 else lookup test (es ++ (n, at) ∷ [])) ≡ option_or (if b then Some e.1 else lookup test es) (if test n then Some at else None)
    by true rest = refl
    by false rest = rest

or_none : (o : Option ℕ) → o ≡ option_or o None
or_none None = refl
or_none (Some n) = refl

-- where there is an entry already
there : (q n : List ℕ) (at k : ℕ) (es : Entries) → position_of n es ≡ Some k
    → position_of q es ≡ option_or (position_of q es) (if bytes_eq q n then Some at else None)
there q n at k es has = by (bytes_eq q n) refl
  where
    by : (b : Bool) → bytes_eq q n ≡ b → position_of q es ≡ option_or (position_of q es) (if b then Some at else None)
    by true same =
        let found : position_of q es ≡ Some k = ap (λ t. position_of t es) ((bytes_eq-Decides q n).0 same) ∙ has in
        found ∙ sym (ap (λ o. option_or o (Some at)) found)
    by false other = or_none (position_of q es)

named_once : (q n : List ℕ) (at : ℕ) (es : Entries)
    → position_of q (with_first n at es) ≡ option_or (position_of q es) (if bytes_eq q n then Some at else None)
named_once q n at es = by (position_of n es) refl
  where
    by : (o : Option ℕ) → position_of n es ≡ o
        → position_of q (if is_some o then es else es ++ (n, at) ∷ []) ≡ option_or (position_of q es) (if bytes_eq q n then Some at else None)
    by None has = lookup-last (bytes_eq q) es n at
    by (Some k) has = there q n at k es has

or_then : (o : Option ℕ) (b : Bool) (at : ℕ) (r : Option ℕ)
    → option_or (option_or o (if b then Some at else None)) r ≡ option_or o (if b then Some at else r)
or_then None true at r = refl
or_then None false at r = refl
or_then (Some k) b at r = refl

named_before : (q : List ℕ) (o : Option (List ℕ)) (at : ℕ) (es : Entries) (r : Option ℕ)
    → option_or (position_of q (with_name o at es)) r
    ≡ option_or (position_of q es) (if option_map_or (bytes_eq q) o false then Some at else r)
named_before q None at es r = refl
named_before q (Some n) at es r =
    ap (λ o. option_or o r) (named_once q n at es) ∙ or_then (position_of q es) (bytes_eq q n) at r

named_gives : (q : List ℕ) (at : ℕ) (cs : List ClassFile) (es : Entries)
    → position_of q (named_from at cs es) ≡ option_or (position_of q es) (position_from (has_name q) at cs)
named_gives q at [] es = or_none (position_of q es)
named_gives q at (c ∷ cs) es =
    named_gives q (at + 1) cs (with_name (name_of c) at es)
    ∙ named_before q (name_of c) at es (position_from (has_name q) (at + 1) cs)

pub named_all : (p : Program) (q : List ℕ) → position_of q (named_from 0 p.classes []) ≡ class_named p q
named_all p q = named_gives q 0 p.classes [] ∙ sym (position_from-zero (has_name q) p.classes)

fused : {X Y Z : Type 0} (f : X → Option Y) (g : Y → Option Z) (xs : List X)
    → filter_map g (filter_map f xs) ≡ filter_map (λ x. option_and_then g (f x)) xs
fused f g [] = refl
fused {X} {Y} {Z} f g (x ∷ xs) = by (f x) ∙ ap (cons_option (option_and_then g (f x))) (fused f g xs)
  where
    by : (o : Option Y) → filter_map g (cons_option o (filter_map f xs)) ≡ cons_option (option_and_then g o) (filter_map g (filter_map f xs))
    by None = refl
    by (Some y) = refl

pub interfaces_are : (p : Program) (c : ClassFile) → filter_map (class_named p) (interface_names c) ≡ interfaces_in p c
interfaces_are p c = fused (named_class c.pool) (class_named p) c.interfaces
