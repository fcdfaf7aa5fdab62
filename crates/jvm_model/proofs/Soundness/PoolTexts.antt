-- The texts that a pool's entries and a class's index name are there.
use Rattle.std.proofs.Common.{◌≡◌, ℕ, zero, suc, true, false, List, [], ◌∷◌, Option, Some, None, is_some, refl, sym, ap, subst, ◌∙◌}
use Rattle.std.specs.Prelude.{slice_get}
use Rattle.std.specs.Option.{ok_or, option_and_then, option_map_or}
use Rattle.std.specs.Result.{result_ok}
use Rattle.std.proofs.lemmas.Option.{none-some, same_Some}
use Rattle.const_pool.specs.declared.pool.Const.{Const}
use Rattle.const_pool.specs.declared.pool.Const.TheVariants as const
use Rattle.const_pool.specs.declared.pool.PoolError.TheVariants.{BadIndex}
use Rattle.const_pool.specs.Pool.{AreEntries, IsPool, Names, entry_of, is_class, is_utf8}
use Rattle.const_pool.specs.References.{class_entry, named_class, named_text, text_entry, ◌>>=◌}

-- the text of a String or of a class's name is there
abbrev pub HasText : List Const → Const → Type 0
HasText pool (const.Text i) = is_some (named_text pool i) ≡ true
HasText pool (const.Class i) = is_some (named_text pool i) ≡ true
HasText pool _ = Unit {0}

abbrev pub HaveTexts : List Const → Type 0
HaveTexts pool = (index : ℕ) (entry : Const) → slice_get pool index ≡ Some entry → HasText pool entry

-- ---- texts

text-found : (o : Option Const) → option_map_or is_utf8 o false ≡ true → is_some (result_ok (ok_or (option_and_then entry_of o) BadIndex >>= text_entry)) ≡ true
text-found (Some (const.Utf8 t)) h = refl
text-found (Some _) h = absurd cc
text-found None h = absurd cc

utf8-text : (pool : List Const) (i : ℕ) → Names is_utf8 pool i → is_some (named_text pool i) ≡ true
utf8-text pool i h = text-found (slice_get pool i) h

text-in : (pool rest : List Const) (n : ℕ) (entry : Const) → AreEntries pool rest → slice_get rest n ≡ Some entry → HasText pool entry
text-in pool [] n entry are e = absurd (none-some entry e)
text-in pool (const.Class i ∷ rest) zero entry are e = subst (HasText pool) (same_Some (const.Class i) entry e) (utf8-text pool i are.0.1)
text-in pool (const.Text i ∷ rest) zero entry are e = subst (HasText pool) (same_Some (const.Text i) entry e) (utf8-text pool i are.0.1)
text-in pool (const.Long v ∷ const.Gap ∷ rest) zero entry are e = subst (HasText pool) (same_Some (const.Long v) entry e) tt
text-in pool (const.Long v ∷ const.Gap ∷ rest) (suc zero) entry are e = subst (HasText pool) (same_Some const.Gap entry e) tt
text-in pool (const.Long v ∷ const.Gap ∷ rest) (suc (suc n)) entry are e = text-in pool rest n entry are.1 e
text-in pool (const.Double v ∷ const.Gap ∷ rest) zero entry are e = subst (HasText pool) (same_Some (const.Double v) entry e) tt
text-in pool (const.Double v ∷ const.Gap ∷ rest) (suc zero) entry are e = subst (HasText pool) (same_Some const.Gap entry e) tt
text-in pool (const.Double v ∷ const.Gap ∷ rest) (suc (suc n)) entry are e = text-in pool rest n entry are.1 e
text-in pool (const.Long v ∷ _) n entry are e = absurd are
text-in pool (const.Double v ∷ _) n entry are e = absurd are
text-in pool (const.Gap ∷ rest) n entry are e = absurd are.0
text-in pool (const.Utf8 v ∷ rest) zero entry are e = subst (HasText pool) (same_Some (const.Utf8 v) entry e) tt
text-in pool (const.Integer v ∷ rest) zero entry are e = subst (HasText pool) (same_Some (const.Integer v) entry e) tt
text-in pool (const.Float v ∷ rest) zero entry are e = subst (HasText pool) (same_Some (const.Float v) entry e) tt
text-in pool (const.Field a b ∷ rest) zero entry are e = subst (HasText pool) (same_Some (const.Field a b) entry e) tt
text-in pool (const.Method a b ∷ rest) zero entry are e = subst (HasText pool) (same_Some (const.Method a b) entry e) tt
text-in pool (const.InterfaceMethod a b ∷ rest) zero entry are e = subst (HasText pool) (same_Some (const.InterfaceMethod a b) entry e) tt
text-in pool (const.NameType a b ∷ rest) zero entry are e = subst (HasText pool) (same_Some (const.NameType a b) entry e) tt
text-in pool (const.Utf8 v ∷ rest) (suc n) entry are e = text-in pool rest n entry are.1 e
text-in pool (const.Integer v ∷ rest) (suc n) entry are e = text-in pool rest n entry are.1 e
text-in pool (const.Float v ∷ rest) (suc n) entry are e = text-in pool rest n entry are.1 e
text-in pool (const.Class i ∷ rest) (suc n) entry are e = text-in pool rest n entry are.1 e
text-in pool (const.Text i ∷ rest) (suc n) entry are e = text-in pool rest n entry are.1 e
text-in pool (const.Field a b ∷ rest) (suc n) entry are e = text-in pool rest n entry are.1 e
text-in pool (const.Method a b ∷ rest) (suc n) entry are e = text-in pool rest n entry are.1 e
text-in pool (const.InterfaceMethod a b ∷ rest) (suc n) entry are e = text-in pool rest n entry are.1 e
text-in pool (const.NameType a b ∷ rest) (suc n) entry are e = text-in pool rest n entry are.1 e

pub have-texts : (pool : List Const) → IsPool pool → HaveTexts pool
have-texts [] formed index entry e = absurd (none-some entry e)
have-texts (x ∷ rest) formed zero entry e = subst (HasText (x ∷ rest)) (same_Some const.Gap entry (sym formed.first ∙ e)) tt
have-texts (x ∷ rest) formed (suc n) entry e =
    text-in (x ∷ rest) rest n entry (formed.entries rest (ap (λ y. y ∷ rest) (same_Some x const.Gap formed.first))) e

-- ---- names of classes

class-found : (pool : List Const) → HaveTexts pool → (i : ℕ) (o : Option Const) → slice_get pool i ≡ o → option_map_or is_class o false ≡ true
    → is_some (result_ok (ok_or (option_and_then entry_of o) BadIndex >>= class_entry pool)) ≡ true
class-found pool texts i (Some (const.Class n)) e h = texts i (const.Class n) e
class-found pool texts i (Some _) e h = absurd cc
class-found pool texts i None e h = absurd cc

pub named-there : (pool : List Const) → HaveTexts pool → (i : ℕ) → Names is_class pool i → is_some (named_class pool i) ≡ true
named-there pool texts i h = class-found pool texts i (slice_get pool i) refl h
