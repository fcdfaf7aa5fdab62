-- The limits of a version, computed at their edges: each number that is not refused, and the next one, which is.
use Rattle.std.proofs.Common.{◌≡◌, ℕ, zero, suc, Bool, true, false, cond, [], ◌∷◌, length, Some, None, refl, ap, ◌∙◌}
use Rattle.std.specs.Prelude.{◌+◌, replicate, nat_lt, ◌==◌, ◌&&◌, ◌||◌, not}
use Rattle.std.specs.List.{list_any}
use Rattle.std.proofs.lemmas.List.{length-replicate}
use Rattle.const_pool.specs.declared.class.ClassFile.{ClassFile}
use Rattle.const_pool.specs.declared.class.CodeAttribute.{CodeAttribute}
use Rattle.const_pool.specs.declared.class.Handler.{Handler}
use Rattle.const_pool.specs.declared.class.Raw.{Raw}
use Rattle.const_pool.specs.declared.class.Attribute.TheVariants.{Code}
use Rattle.const_pool.specs.declared.pool.Const.TheVariants.{Gap}
use Rattle.jvm_model.specs.declared.event.Mark.TheVariants.{Off, Root}
use Rattle.inject_events.specs.declared.error.Cause.TheVariants as cause
use Rattle.inject_events.specs.Tables.{has_full_table, lacks_frames, are_frames_full}
use Rattle.inject_events.specs.Rewriting.{room_cause, is_full_pool, refused_from, refused_of}
use Rattle.inject_events.specs.Settings.{setting_of}
use Rattle.inject_events.proofs.WorkedTables.{setting}

-- ---- the exception table

abbrev handler : Handler
handler = record { start = 0; end = 1; handler = 0; catch_class = 0 }

abbrev guarded : ℕ → ℕ → CodeAttribute
guarded most count = record { max_stack = most; max_locals = 0; code = 177 ∷ []; handlers = replicate count handler; attributes = [] }

room_by_count : (most count : ℕ) → room_cause (setting true) (guarded most count) ≡ (cond (most == 65535) (Some cause.Stack) (cond (count == 65535) (Some cause.Handlers) None))
room_by_count most count = ap (λ (n : ℕ). cond (most == 65535) (Some cause.Stack) (cond (n == 65535) (Some cause.Handlers) None)) (length-replicate count handler)

greatest_handlers : room_cause (setting true) (guarded 0 65534) ≡ None
greatest_handlers = room_by_count 0 65534

full_handlers : room_cause (setting true) (guarded 0 65535) ≡ Some cause.Handlers
full_handlers = room_by_count 0 65535

-- the stack is looked at first
full_stack_and_handlers : room_cause (setting true) (guarded 65535 65535) ≡ Some cause.Stack
full_stack_and_handlers = room_by_count 65535 65535

-- ---- the attributes

-- an attribute that is no table
abbrev other : Raw
other = record { name = 0; bytes = [] }

abbrev with_others : ℕ → CodeAttribute
with_others count = record { max_stack = 0; max_locals = 0; code = 177 ∷ []; handlers = []; attributes = replicate count other }

none-any : (f : Raw → Bool) (count : ℕ) → f other ≡ false → list_any f (replicate count other) ≡ false
none-any f zero is = refl
none-any f (suc count) is = rw is (none-any f count is)

lacks-others : (framed : Bool) (count : ℕ) → lacks_frames (setting framed) (replicate count other) ≡ framed
lacks-others false count = refl
lacks-others true count = ap not (none-any _ count refl)

full-others : (framed : Bool) (count : ℕ) → has_full_table (setting framed) (replicate count other) ≡ false
full-others false count = none-any _ count refl
full-others true count = none-any _ count refl

others_full : (framed : Bool) (count : ℕ) → are_frames_full (setting framed) (replicate count other) ≡ (framed && (count == 65535))
others_full framed count =
    ap (λ (b : Bool). b || (lacks_frames (setting framed) (replicate count other) && (length (replicate count other) == 65535))) (full-others framed count)
    ∙ ap (λ (b : Bool). b && (length (replicate count other) == 65535)) (lacks-others framed count)
    ∙ ap (λ (n : ℕ). framed && (n == 65535)) (length-replicate count other)

others_room : (framed : Bool) (count : ℕ) → room_cause (setting framed) (with_others count) ≡ (cond (framed && (count == 65535)) (Some cause.Frames) None)
others_room framed count = ap (λ (b : Bool). cond b (Some cause.Frames) None) (others_full framed count)

-- a StackMapTable can be added to 65,534 attributes, and not to 65,535
greatest_attributes : room_cause (setting true) (with_others 65534) ≡ None
greatest_attributes = others_room true 65534

full_attributes : room_cause (setting true) (with_others 65535) ≡ Some cause.Frames
full_attributes = others_room true 65535

-- none is added below major 50
full_in_49 : room_cause (setting false) (with_others 65535) ≡ None
full_in_49 = others_room false 65535

-- ---- the pool

abbrev entries : ℕ → ClassFile
entries count = record {
  minor = 0;
  major = 50;
  pool = replicate count Gap;
  access = 0;
  this_class = 0;
  super_class = 0;
  interfaces = [];
  fields = [];
  methods = record { access = 9; name = 0; descriptor = 0; attributes = [] } ∷ record { access = 9; name = 0; descriptor = 0; attributes = Code 0 (guarded 0 0) ∷ [] } ∷ [];
  attributes = [];
}

pool_room : (count : ℕ) → is_full_pool (entries count) ≡ nat_lt 65535 (count + 18)
pool_room count = ap (λ (n : ℕ). nat_lt 65535 (n + 18)) (length-replicate count Gap)

greatest_pool : is_full_pool (entries 65517) ≡ false
greatest_pool = pool_room 65517

full_pool : is_full_pool (entries 65518) ≡ true
full_pool = pool_room 65518

-- it is a cause of the first marked method
full_pool_is_refused : refused_of (entries 65518) 0 (Off ∷ Root ∷ []) ≡ Some (1, cause.Pool)
full_pool_is_refused = ap (λ (b : Bool). cond b (Some (1, cause.Pool)) (refused_from (setting_of (entries 65518)) 0 0 (Off ∷ Root ∷ []) (entries 65518).methods)) full_pool

-- and none of a class without marks
full_pool_without_marks : refused_of (entries 65518) 0 (Off ∷ Off ∷ []) ≡ None
full_pool_without_marks = refl
