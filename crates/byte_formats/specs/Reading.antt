-- Reading from left to right: the item at the front of the bytes and the bytes after it, or the
-- first fault.
use Rattle.std.specs.Prelude.{◌≡◌, ◌≢◌, ℕ, zero, suc, List, [], ◌∷◌, ◌++◌, length, take, drop, Result, Ok, Err, nat_lt, if◌then◌else◌}
use Rattle.std.specs.Borrow.{Bor}

infixl 10 ◌>>=◌
abbrev pub ◌>>=◌ : {E A B : Type 0} → Result A E → (A → Result B E) → Result B E
(Ok x) >>= f = f x
(Err e) >>= f = Err e

-- what was read from the front of the bytes, and the bytes after it
abbrev pub Read : Type 0 → Type 0 → Type 0
Read E A = Result (A × List ℕ) E

-- What a function returned, seen by view, is what reading gives, unless its fault is this one: that
-- memory ran out.
abbrev pub Gives : {E X Y : Type 0} → E → (X → Y) → Result X E → Result Y E → Type 0
Gives want view (Ok x) read = read ≡ Ok (view x)
Gives want view (Err e) read = e ≢ want → read ≡ Err e

-- an item with the bytes after it, which the code holds by a reference
abbrev pub with_rest : {A : Type 0} → A × Bor (List ℕ) → A × List ℕ
with_rest x = (x.0, x.1.now)

-- what is made of so many bytes, or the fault that they are not there
abbrev pub made_of_front : {E A : Type 0} → E → ℕ → (List ℕ → A) → List ℕ → Read E A
made_of_front cut len make bytes = if nat_lt (length bytes) len then Err cut else Ok (make (take len bytes), drop len bytes)

-- so many items, one after the other
unfoldable pub many_at : {E A : Type 0} → (List ℕ → Read E A) → ℕ → List ℕ → Read E (List A)
many_at item zero bytes = Ok ([], bytes)
many_at item (suc n) bytes = do
  first ← item bytes
  others ← many_at item n first.1
  Ok (first.0 ∷ others.0, others.1)

-- what was read before, and what is still read
abbrev pub with_front : {E A : Type 0} → List A → Read E (List A) → Read E (List A)
with_front front read = read >>= λ x. Ok (front ++ x.0, x.1)
