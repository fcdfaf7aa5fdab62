-- The attributes of a version, put together, and how many bytes attributes have.
use Rattle.std.proofs.Common.{◌≡◌, ℕ, ◌+◌, ◌-◌, ◌*◌, ◌≤◌, Bool, true, false, cond, leb, ltb, List, [], ◌∷◌, ◌++◌, length, refl, sym, ap, ◌∙◌, arith}
use Rattle.std.specs.Prelude.{map, not, nat_le}
use Rattle.std.specs.List.{flat_map}
use Rattle.std.proofs.lemmas.Bool.{leb-true, leb-false, le-ltb, lt-ltb}
use Rattle.std.proofs.lemmas.List.{length-append}
use Rattle.const_pool.specs.declared.class.Raw.{Raw}
use Rattle.const_pool.specs.declared.class.CodeAttribute.{CodeAttribute}
use Rattle.const_pool.specs.declared.class.Handler.{Handler}
use Rattle.const_pool.specs.ClassFile.{items_counted, raw_bytes, handler_bytes, code_bytes}
use Rattle.code_model.specs.declared.laying.Homes.{Homes}
use Rattle.inject_events.specs.declared.settings.Setting.{Setting}
use Rattle.inject_events.specs.Tables.{moved_raw, lacks_frames, added_table, version_tables}
use Rattle.inject_events.specs.Rewriting.{is_too_large}

pub with-added : (s : Setting) (homes : Homes) (end : ℕ) (raws tables new : List Raw) (added : Raw) (lacks : Bool) → lacks ≡ lacks_frames s raws → lacks ≡ true
    → tables ≡ map (moved_raw s homes end) raws → added ≡ added_table s homes end → new ≡ tables ++ added ∷ [] → new ≡ version_tables s homes end raws
with-added s homes end raws tables new added lacks is on tabled made pushed =
    pushed
    ∙ ap (λ (ts : List Raw). ts ++ added ∷ []) tabled
    ∙ ap (λ (a : Raw). map (moved_raw s homes end) raws ++ a ∷ []) made
    ∙ ap (λ (b : Bool). map (moved_raw s homes end) raws ++ cond b (added_table s homes end ∷ []) []) (sym on ∙ is)

-- ---- bytes of a Code's contents

length-handlers : (hs : List Handler) → length (flat_map handler_bytes hs) ≡ 8 * length hs
length-handlers [] = refl
length-handlers (h ∷ hs) =
    let whole = length-append (handler_bytes h) (flat_map handler_bytes hs) in
    let others = length-handlers hs in
    omega arith

pub length-code_bytes : (c : CodeAttribute) → length (code_bytes c) ≡ 12 + length c.code + 8 * length c.handlers + length (flat_map raw_bytes c.attributes)
length-code_bytes c =
    let tables = items_counted raw_bytes c.attributes in
    let behind = items_counted handler_bytes c.handlers ++ tables in
    let whole = length-append c.code behind in
    let handlers = length-append (flat_map handler_bytes c.handlers) tables in
    let eight = length-handlers c.handlers in
    omega arith

-- attributes that do not fit behind the others make it too large
pub too_large-is : (c : CodeAttribute) → length c.code ≤ 65535 → length c.handlers ≤ 65535
    → not (nat_le (length (flat_map raw_bytes c.attributes)) (4294967295 - (12 + length c.code + 8 * length c.handlers))) ≡ is_too_large c
too_large-is c short few = by_case (leb (length (flat_map raw_bytes c.attributes)) (4294967295 - (12 + length c.code + 8 * length c.handlers))) refl
  where
    by_case : (b : Bool) → leb (length (flat_map raw_bytes c.attributes)) (4294967295 - (12 + length c.code + 8 * length c.handlers)) ≡ b → not b ≡ ltb 4294967295 (length (code_bytes c))
    by_case true is =
        let long = length-code_bytes c in
        let le = leb-true (length (flat_map raw_bytes c.attributes)) (4294967295 - (12 + length c.code + 8 * length c.handlers)) is in
        sym (le-ltb 4294967295 (length (code_bytes c)) (omega arith))
    by_case false is =
        let long = length-code_bytes c in
        let lt = leb-false (length (flat_map raw_bytes c.attributes)) (4294967295 - (12 + length c.code + 8 * length c.handlers)) is in
        sym (lt-ltb 4294967295 (length (code_bytes c)) (omega arith))

-- the same of what the code looked at
pub too_large-found : (c : CodeAttribute) (raws : List Raw) (len count : ℕ) (fit : Bool) → raws ≡ c.attributes → len ≡ length c.code → count ≡ length c.handlers → length c.code ≤ 65535 → length c.handlers ≤ 65535
    → fit ≡ nat_le (length (flat_map raw_bytes raws)) (4294967295 - (12 + len + 8 * count)) → not fit ≡ is_too_large c
too_large-found c raws len count fit same long many short few fits = ap not fits ∙ rw (same, long, many) (too_large-is c short few)
