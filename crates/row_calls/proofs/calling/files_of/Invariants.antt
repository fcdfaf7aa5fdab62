use Rattle.std.proofs.Common.{◌≡◌, vec_len}
use Rattle.row_calls.proofs.calling.files_of.Given as goal

abbrev pub invariant-loop-file : goal.invariant-loop-file
invariant-loop-file l = vec_len l.names ≡ vec_len l.all
