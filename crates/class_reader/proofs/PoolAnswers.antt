-- What a `Pool` asks of the entries that were read.
use Rattle.std.proofs.Common.{ℕ, List, Result, Ok, Err, IfOk, IsTrue}
use Rattle.const_pool.specs.declared.pool.Const.{Const}
use Rattle.const_pool.specs.Pool.{has_gaps}
use Rattle.const_pool.proofs.Gaps.{has_gaps-from_pool}
use Rattle.class_reader.specs.declared.error.ReadError.{ReadError}
use Rattle.class_reader.specs.Reading.{Gives, pool_at}
use Rattle.class_reader.proofs.Items.{IsBytes}
use Rattle.class_reader.proofs.Entries.{pool_is_read}
use Rattle.class_reader.proofs.BridgePool.{pool_law}

pub gaps_of : {X : Type 0} (view : X → List Const × List ℕ) (limit : ℕ) (bytes : List ℕ) → IsBytes bytes → (r : Result X ReadError) → Gives view r (pool_at limit bytes) → IfOk r (λ x. IsTrue (has_gaps (view x).0))
gaps_of view limit bytes fits (Ok x) given =
    let taken = pool_is_read.takes limit bytes (view x).0 (view x).1 fits given in
    has_gaps-from_pool (view x).0 (pool_law.to taken.front (view x).0 taken.spelled).1
gaps_of view limit bytes fits (Err e) given = tt
