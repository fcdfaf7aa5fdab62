-- What a source has left where its input was not taken to its end.
use Rattle.std.proofs.Common.{◌≡◌, ◌≤◌, ◌+◌, ◌++◌, ℕ, List, [], length, take, Option, Result, Ok, Err, sym, ap, subst, arith}
use Rattle.std.proofs.lemmas.List.{length-append, length-take}
use Rattle.std.proofs.KnownBytes.{Consumes-nil, Consumes-trans}
use Rattle.std.specs.Io.KnownBytes.{Consumes}
use Rattle.std.specs.Result.{IsErrAnd}
use Rattle.command_line.specs.declared.input.InputError.{InputError}
use Rattle.command_line.specs.declared.input.InputError.TheVariants.{Failed, NoMemory}
use Rattle.command_line.specs.Input.{TakesAtMost, TakesInput, TakesOneMore, most_input, most_taken}

only-error : (r : Result (List ℕ) InputError) (error : InputError) → IsErrAnd r (λ e. e ≡ error) → r ≡ Err error
only-error (Ok bytes) error is = absurd is
only-error (Err e) error is = ap (λ (x : InputError). let q : Result (List ℕ) InputError = Err x in q) is

-- a take failed behind these bytes
pub rest-of-failed : (old mid new : Option (List ℕ)) (bytes : List ℕ) (r : Result (List ℕ) InputError) → length bytes ≤ most_input
    → Consumes old mid bytes → new ≡ mid → IsErrAnd r (λ e. e ≡ Failed) → TakesInput old new r
rest-of-failed old mid new bytes r few taken same is = subst (TakesInput old new) (sym (only-error r Failed is)) (record {
  bytes = bytes;
  few = few;
  taken = subst (λ (l : Option (List ℕ)). Consumes old l bytes) (sym same) taken;
})

joined-length : (bytes more : List ℕ) (count : ℕ) → length bytes + count ≤ most_input + 1 → length (bytes ++ take count more) ≤ most_taken
joined-length bytes more count few = omega (arith, length-append bytes (take count more), length-take count more, few)

-- no memory was left for the last of them
pub rest-of-unkept : (old mid new : Option (List ℕ)) (bytes more : List ℕ) (count : ℕ) (r : Result (List ℕ) InputError)
    → length bytes + count ≤ most_input + 1 → Consumes old mid bytes → Consumes mid new (take count more) → IsErrAnd r (λ e. e ≡ NoMemory)
    → TakesInput old new r
rest-of-unkept old mid new bytes more count r few taken last is = subst (TakesInput old new) (sym (only-error r NoMemory is)) (record {
  bytes = bytes ++ take count more;
  few = joined-length bytes more count few;
  taken = Consumes-trans old mid new bytes (take count more) taken last;
})

-- ---- how far, for callers

-- nothing was taken
pub rest-untaken : (most : ℕ) (left : Option (List ℕ)) → TakesAtMost most left left
rest-untaken most left = record { bytes = []; few = omega arith; taken = Consumes-nil left }

-- the limit is fewer than are taken at most
pub rest-within : (old new : Option (List ℕ)) → TakesAtMost most_input old new → TakesAtMost most_taken old new
rest-within old new takes = record {
  bytes = takes.bytes;
  few = (let few = takes.few in omega (arith, few));
  taken = takes.taken;
}

-- one byte more than the limit is as many
pub rest-of-long : (old new : Option (List ℕ)) → TakesOneMore old new → TakesAtMost most_taken old new
rest-of-long old new takes = record {
  bytes = takes.bytes;
  few = (let count = takes.count in omega (arith, count));
  taken = takes.taken;
}
