-- The entry of the top frame, where there is one.
use Rattle.std.specs.Prelude.{◌≡◌, ◌<◌, ◌^◌, ℕ, Bool, true, false, Option, Some, None}
use Rattle.frame_stack.specs.declared.entry.Entry.{Entry}
use Rattle.frame_stack.specs.Cuts.{floor, limit}

abbrev pub top_in : Bool → Entry → Option Entry
top_in true e = Some e
top_in false e = None

abbrev pub no_entry : Entry
no_entry = record { version = 0; method = 0; place = 0; base = 0; max_locals = 0; max_stack = 0 }

-- the places are those of the entry, which has none where there is no frame
pub record IsTop (live : Bool) (e : Entry) (low high : ℕ) : Type 0 where
  pub floor : low ≡ floor e
  pub limit : high ≡ limit e
  pub bare : live ≡ false → e ≡ no_entry
  pub fits : low < 2 ^ 64

abbrev pub place_in : Option Entry → Option ℕ
place_in None = None
place_in (Some e) = Some e.place

abbrev pub base_in : Option Entry → ℕ
base_in None = 0
base_in (Some e) = e.base

abbrev pub locals_in : Option Entry → ℕ
locals_in None = 0
locals_in (Some e) = e.max_locals

abbrev pub entry_moved : ℕ → Option Entry → Option Entry
entry_moved place None = None
entry_moved place (Some e) = Some (record e { place = place })
