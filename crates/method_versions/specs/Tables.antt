-- Versions by their numbers, and the current one of each method.
use Rattle.std.specs.Prelude.{◌≡◌, ◌≤◌, ℕ, ◌++◌, Bool, false, List, length, Option, Some, None, not, nat_le, slice_get, slice_index_or, ◌==◌, ◌&&◌, if◌then◌else◌, refl}
use Rattle.std.specs.List.{list_any}
use Rattle.std.specs.Option.{IfSome, option_map, option_map_or}
use Rattle.std.specs.Coded.{Coded, code_by, coded×, coded_ℕ, coded_list, coded_option}
use Rattle.frame_stack.specs.FrameLists.{PlacedFrame, pins_of}
use Rattle.method_versions.specs.declared.versions.Held.{Held}

-- the version with each number, the number of the version that each method begins in, and how many more fit
pub record Table (T : Type 0) : Type 0 where
  pub slots : List (Option (Held T))
  pub current : List ℕ
  pub spare : ℕ

abbrev pub held_code : {T : Type 0} → Coded T → Coded (Held T)
held_code {T} code =
    code_by (ℕ × T) (coded× coded_ℕ code) (λ h. (h.method, h.prepared)) (λ p. record { method = p.0; prepared = p.1 }) (λ _. refl)

abbrev pub table_code : {T : Type 0} → Coded T → Coded (Table T)
table_code {T} code =
    code_by
    (List (Option (Held T)) × (List ℕ × ℕ))
    (coded× (coded_list (coded_option (held_code code))) (coded× (coded_list coded_ℕ) coded_ℕ))
    (λ t. (t.slots, (t.current, t.spare)))
    (λ p. record { slots = p.0; current = p.1.0; spare = p.1.1 })
    (λ _. refl)

-- the number of the version that the method begins in
abbrev pub current_in : List ℕ → ℕ → Option ℕ
current_in current method = slice_get current method

abbrev pub is_number : ℕ → Option ℕ → Bool
is_number number o = option_map_or (λ now. now == number) o false

-- of this method, which begins in another one
abbrev pub is_old : List ℕ → ℕ → Option ℕ → Bool
is_old current number o = option_map_or (λ method. not (is_number number (current_in current method))) o false

module _ {T : Type 0} where
  abbrev pub held_in : List (Option (Held T)) → ℕ → Option (Held T)
  held_in slots number = slice_index_or slots number None

  abbrev pub method_in : List (Option (Held T)) → ℕ → Option ℕ
  method_in slots number = option_map (λ (h : Held T). h.method) (held_in slots number)

  abbrev pub held_at : Table T → ℕ → Option (Held T)
  held_at t number = held_in t.slots number

  abbrev pub current_of : Table T → ℕ → Option ℕ
  current_of t method = current_in t.current method

  -- there is such a version, and its method begins in another one
  abbrev pub is_superseded_in : List (Option (Held T)) → List ℕ → ℕ → Bool
  is_superseded_in slots current number = is_old current number (method_in slots number)

  abbrev pub is_superseded : Table T → ℕ → Bool
  is_superseded t number = is_superseded_in t.slots t.current number

  -- each method begins in a version of its own
  abbrev pub AreCurrent : List (Option (Held T)) → List ℕ → Type 0
  AreCurrent slots current = (method : ℕ) → IfSome (current_in current method) (λ number. method_in slots number ≡ Some method)

  -- ---- what is held besides

  -- nothing where the version is the method's former one, and no frame runs it
  abbrev pub held_besides : List PlacedFrame → Option ℕ → ℕ → Option (Held T) → Option (Held T)
  held_besides fs former number held = if is_number number former && pins_of number fs == 0 then None else held

  -- what is held with one version more, in which its method begins
  abbrev pub held_with : ℕ → Held T → List PlacedFrame → Table T → ℕ → Option (Held T)
  held_with new version fs t number =
      if number == new then Some version else held_besides fs (current_of t version.method) number (held_at t number)

  -- what is held where these are the frames: a superseded version while one of them runs it
  abbrev pub held_for : List PlacedFrame → Table T → ℕ → Option (Held T)
  held_for fs t number = if is_superseded t number && pins_of number fs == 0 then None else held_at t number

  -- the same version, of which this is prepared
  abbrev pub prepared_anew : T → Held T → Held T
  prepared_anew prepared version = record version { prepared = prepared }

  -- what is held where the version with a number, if there is one, is prepared anew
  abbrev pub held_anew : ℕ → T → Table T → ℕ → Option (Held T)
  held_anew number prepared t other =
      if other == number then option_map (prepared_anew prepared) (held_at t number) else held_at t other

  -- ---- tables that are made

  -- each method begins in a version of its own, and there is no other
  pub record IsFirst (first : List (Option (Held T))) (current : List ℕ) : Type 0 where
    pub own : AreCurrent first current
    pub methods : length first ≡ length current
    pub few : length first ≤ 4294967296
    pub alone : (number : ℕ) → is_superseded_in first current number ≡ false

-- ---- what a table keeps

abbrev pub is_listed : ℕ → List ℕ → Bool
is_listed number numbers = list_any (λ n. n == number) numbers

-- what is held without those of these versions that no frame runs
abbrev pub held_but : {T : Type 0} → List ℕ → List PlacedFrame → List (Option (Held T)) → ℕ → Option (Held T)
held_but numbers fs slots number = if is_listed number numbers && pins_of number fs == 0 then None else held_in slots number

-- how many more fit, where numbers below this many have a version: a number is a u32
abbrev pub spare_of : ℕ → ℕ → ℕ
spare_of numbers free = if nat_le numbers 4294967296 then free else 0

-- the superseded versions are listed
pub record IsTable {T : Type 0} (first later : List (Option (Held T))) (current superseded : List ℕ) : Type 0 where
  pub own : AreCurrent (first ++ later) current
  pub methods : length first ≡ length current
  pub few : length first ≤ 4294967296
  pub far : (number : ℕ) → 4294967296 ≤ number → held_in (first ++ later) number ≡ None
  pub listed : (number : ℕ) → is_superseded_in (first ++ later) current number ≡ is_listed number superseded
