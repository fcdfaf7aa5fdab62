-- What the versions of a class's methods have in common, and what a method's own number and mark add to it.
use Rattle.std.specs.Prelude.{ℕ, List, [], ◌∷◌, ◌++◌, length, ◌==◌}
use Rattle.const_pool.specs.declared.class.ClassFile.{ClassFile}
use Rattle.const_pool.specs.declared.pool.Const.{Const}
use Rattle.const_pool.specs.declared.tail.Tail.{Tail}
use Rattle.const_pool.specs.Tail.{with_tail, root_index, enter_index, leave_index, unwind_index, throwable_index, frames_index}
use Rattle.jvm_model.specs.declared.event.Mark.{Mark}
use Rattle.jvm_model.specs.declared.event.Mark.TheVariants.{Off, Plain, Root}
use Rattle.jvm_model.specs.Rewriting.Versions.{probe_bytes}
use Rattle.inject_events.specs.declared.probes.Probes.{Probes}
use Rattle.inject_events.specs.declared.settings.Setting.{Setting}

-- ---- the pool with its tail, and the frames that count

-- a pool with its tail behind it
abbrev pub tail_of : List Const → Tail
tail_of pool = record {
  pool = with_tail pool;
  root = root_index (length pool);
  enter = enter_index (length pool);
  leave = leave_index (length pool);
  unwind = unwind_index (length pool);
  throwable = throwable_index (length pool);
  frames = frames_index (length pool);
}

-- a StackMapTable counts in major 50 alone (4.7.4, 4.10)
abbrev pub setting_of : ClassFile → Setting
setting_of c = record { framed = c.major == 50; tail = tail_of c.pool }

-- ---- the probes of a method with this number

abbrev pub entry_in : Tail → Mark → ℕ
entry_in tail Root = tail.root
entry_in tail Plain = tail.enter
entry_in tail Off = tail.enter

abbrev pub probes_in : Tail → ℕ → Mark → Probes
probes_in tail number mark = record {
  entry = probe_bytes number (entry_in tail mark);
  leave = probe_bytes number tail.leave;
  unwind = probe_bytes number tail.unwind ++ 191 ∷ [];
}
