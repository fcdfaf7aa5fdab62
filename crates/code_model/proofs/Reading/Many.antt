-- Reading the pairs of a lookupswitch into two columns, as a loop does.
use Rattle.std.proofs.Common.{◌≡◌, ℕ, ◌-◌, ◌≤◌, List, [], ◌∷◌, ◌++◌, map, Ok, Err, refl, sym, ap, ◌∙◌, append_assoc, arith}
use Rattle.std.specs.Prelude.{ℤ}
use Rattle.std.proofs.lemmas.List.{append-nil}
use Rattle.code_model.specs.declared.error.CodeError.{CodeError}
use Rattle.code_model.specs.Operands.{key_of, target_of}
use Rattle.code_model.specs.Reading.{◌>>=◌, Read, with_columns, many_at}

abbrev pub Columns : Type 0
Columns = List ℤ × List ℕ

abbrev pub in_columns : Columns → Read (List (ℤ × ℕ)) → Read Columns
in_columns front read = with_columns front.0 front.1 read

abbrev pub one_row_more : Columns → ℤ × ℕ → Columns
one_row_more front x = (front.0 ++ x.0 ∷ [], front.1 ++ x.1 ∷ [])

pub in_columns-cons : (front : Columns) (x : ℤ × ℕ) (read : Read (List (ℤ × ℕ))) → in_columns front (read >>= λ others. Ok (x ∷ others.0, others.1)) ≡ in_columns (one_row_more front x) read
in_columns-cons front x (Ok others) =
    let keys : front.0 ++ x.0 ∷ map key_of others.0 ≡ (front.0 ++ x.0 ∷ []) ++ map key_of others.0 = sym (append_assoc front.0 (x.0 ∷ []) (map key_of others.0)) in
    let targets : front.1 ++ x.1 ∷ map target_of others.0 ≡ (front.1 ++ x.1 ∷ []) ++ map target_of others.0 = sym (append_assoc front.1 (x.1 ∷ []) (map target_of others.0)) in
    let made : List ℤ → List ℕ → Read Columns = λ ks ts. Ok ((ks, ts), others.1) in
    ap (λ ks. made ks (front.1 ++ x.1 ∷ map target_of others.0)) keys ∙ ap (made ((front.0 ++ x.0 ∷ []) ++ map key_of others.0)) targets
in_columns-cons front x (Err e) = refl

pub in_columns-fails : (front : Columns) (e : CodeError) → in_columns front (Err e) ≡ Err e
in_columns-fails front e = refl

pub columns_done : (item : List ℕ → Read (ℤ × ℕ)) (keys : List ℤ) (targets : List ℕ) (count i : ℕ) (bytes : List ℕ) (total : Read Columns) → count ≤ i → with_columns keys targets (many_at item (count - i) bytes) ≡ total → total ≡ Ok ((keys, targets), bytes)
unfolding many_at
columns_done item keys targets count i bytes total le so_far =
    let k : count - i ≡ 0 = omega arith in
    let made : List ℤ → List ℕ → Read Columns = λ ks ts. Ok ((ks, ts), bytes) in
    let one : with_columns keys targets (many_at item (count - i) bytes) ≡ Ok ((keys, targets), bytes) =
    rw k (ap (λ ks. made ks (targets ++ [])) (append-nil keys) ∙ ap (made keys) (append-nil targets)) in
    sym so_far ∙ one
