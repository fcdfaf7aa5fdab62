-- A class whose codes are short can be rewritten: a version of such a code passes no limit.
use Rattle.std.proofs.Common.{◌≡◌, ℕ, suc, ◌+◌, ◌<◌, ◌≤◌, Bool, true, false, cond, ltb, eqb, List, [], ◌∷◌, length, Option, Some, None, refl, sym, ap, subst, ◌∙◌, arith}
use Rattle.std.specs.Prelude.{ℤ, pos, negsuc, ◌-ℤ◌, map, is_some, IfSome, nat_le, ◌==◌, ◌&&◌, ◌||◌}
use Rattle.std.specs.Int.{Width, byte_len}
use Rattle.std.specs.List.{flat_map, list_all}
use Rattle.std.specs.Option.{option_or, option_map_or}
use Rattle.std.proofs.lemmas.Bool.{and_parts, ltb-true, leb-true, le-ltb, ne_eqb}
use Rattle.std.proofs.lemmas.Int.{ints}
use Rattle.std.proofs.lemmas.List.{length-append, length-map}
use Rattle.std.proofs.Math.Bool.{or-true}
use Rattle.const_pool.specs.declared.class.ClassFile.{ClassFile}
use Rattle.const_pool.specs.declared.class.CodeAttribute.{CodeAttribute}
use Rattle.const_pool.specs.declared.class.Handler.{Handler}
use Rattle.const_pool.specs.declared.class.Member.{Member}
use Rattle.const_pool.specs.ClassFile.{code_bytes, raw_bytes}
use Rattle.code_model.specs.declared.instr.Arg.{Arg}
use Rattle.code_model.specs.declared.instr.Arg.TheVariants.{Plain as NoOperand, Value, Pool, Local, Inc, Target, Table, Lookup, Interface, Multi, Array}
use Rattle.code_model.specs.declared.instr.Instr.{Instr}
use Rattle.code_model.specs.declared.instr.Code.{Code}
use Rattle.code_model.specs.declared.laying.Group.{Group}
use Rattle.code_model.specs.declared.laying.Homes.{Homes}
use Rattle.code_model.specs.declared.laying.Laid.{Laid}
use Rattle.code_model.specs.Layout.{width_of, place_of, group_end, end_from, homes_of, home_of, laid_of, is_near, fits_branch, first_far_from, first_far}
use Rattle.code_model.proofs.CodeLayouts.Walks.{le-end_from, length-laid_of}
use Rattle.jvm_model.specs.declared.event.Mark.{Mark}
use Rattle.jvm_model.specs.declared.event.Mark.TheVariants.{Off, Plain}
use Rattle.jvm_model.specs.Basis.Methods.{code_of}
use Rattle.jvm_model.specs.Rewriting.Images.{all_off, next_number}
use Rattle.jvm_model.specs.Rewriting.Versions.{group_of, moved_handler, catch_all}
use Rattle.jvm_model.proofs.Images.LaidLengths.{length-laid_of-le}
use Rattle.inject_events.specs.declared.error.Cause.{Cause}
use Rattle.inject_events.specs.declared.error.Cause.TheVariants as cause
use Rattle.inject_events.specs.declared.probes.Probes.{Probes}
use Rattle.inject_events.specs.declared.settings.Setting.{Setting}
use Rattle.inject_events.specs.Answers.{IsReadableCode, IsReadableBody, HasReadableBody, HaveReadableBodies, IsReadableClass, IsProfilable}
use Rattle.inject_events.specs.Settings.{setting_of, probes_in}
use Rattle.inject_events.specs.Probing.{laid_with, first_marked}
use Rattle.inject_events.specs.Rewriting.{Refused, instrs_in, code_around, laid_version_of, version_of, room_cause, far_cause, layout_cause, size_cause, version_cause, cause_of_coded, cause_of_method, refused_here, refused_from, is_full_pool, refused_of_marked, plain_mark, all_plain}
use Rattle.inject_events.specs.SmallCodes.{is_small_code, has_small_body, has_room, has_small_codes}
use Rattle.inject_events.specs.Tables.{are_frames_full}
use Rattle.inject_events.proofs.InstrsIn.{instrs_in-is}
use Rattle.inject_events.proofs.LaidBytes.{home-le}
use Rattle.inject_events.proofs.SmallTables.{tables-le, frames-room}
use Rattle.inject_events.proofs.Tabling.{length-code_bytes}

-- ---- branches within a short code

near : (a b : ℕ) → a ≤ 32767 → b ≤ 32767 → is_near (pos a -ℤ pos b) ≡ true
near a b le le' = by_sign (pos a -ℤ pos b) refl
  where
    by_sign : (z : ℤ) → pos a -ℤ pos b ≡ z → is_near z ≡ true
    by_sign (pos n) e = let bound : n ≤ 32767 = omega (arith, ints) in grind (arith, ints)
    by_sign (negsuc n) e = let bound : n ≤ 32767 = omega (arith, ints) in grind (arith, ints)

fits-near : (home : ℕ → ℕ) (place : ℕ) (w : Width) (operand : Arg) → ((t : ℕ) → home t ≤ 32767) → place ≤ 32767 → fits_branch home place w operand ≡ true
fits-near home place w (Target t) homes within =
    ap (λ (b : Bool). (byte_len w == 4) || b) (near (home t) place (homes t) within) ∙ or-true (byte_len w == 4)
fits-near home place w NoOperand homes within = refl
fits-near home place w (Value n) homes within = refl
fits-near home place w (Pool index) homes within = refl
fits-near home place w (Local slot) homes within = refl
fits-near home place w (Inc slot n) homes within = refl
fits-near home place w (Table default low targets) homes within = refl
fits-near home place w (Lookup default keys targets) homes within = refl
fits-near home place w (Interface index count last) homes within = refl
fits-near home place w (Multi index dimensions) homes within = refl
fits-near home place w (Array kind) homes within = refl

none-far : (home : ℕ → ℕ) (at : ℕ) (gs : List Group) → ((t : ℕ) → home t ≤ 32767) → end_from at gs ≤ 32767 → first_far_from home at gs ≡ None
none-far home at [] homes within = refl
none-far home at (g ∷ rest) homes within =
    let ends = le-end_from (group_end at g) rest in
    let here : place_of at g ≤ 32767 = omega arith in
    let far : Option ℕ = Some g.instr.at in
    ap (λ (b : Bool). cond b (first_far_from home (group_end at g) rest) far) (fits-near home (place_of at g) (width_of g.instr) g.instr.arg homes here)
    ∙ none-far home (group_end at g) rest homes within

-- ---- the code of a version

pub laid-short : (s : Setting) (number : ℕ) (mark : Mark) (old : CodeAttribute) → IsReadableCode old.code → length old.code ≤ 4096 → length (laid_version_of s number mark old).code ≤ 32767
laid-short s number mark old readable short =
    let p : Probes = probes_in s.tail number mark in
    let code : Code = readable.reading in
    let most = length-laid_of-le p.entry p.leave p.unwind old.code code readable.reads (omega arith) (omega arith) (omega arith) in
    let same : length (laid_with p (instrs_in old.code)).code ≡ length (laid_with p code.instrs).code = ap (λ (instrs : List Instr). length (laid_with p instrs).code) (instrs_in-is old.code code readable.reads) in
    omega (arith, same)

layout-none : (s : Setting) (number : ℕ) (mark : Mark) (old : CodeAttribute) → IsReadableCode old.code → length old.code ≤ 4096 → layout_cause (probes_in s.tail number mark) (instrs_in old.code) ≡ None
layout-none s number mark old readable short =
    let p : Probes = probes_in s.tail number mark in
    let gs : List Group = map (group_of p.leave) (instrs_in old.code) in
    let most = laid-short s number mark old readable short in
    let ends = length-laid_of p.entry gs p.unwind in
    let within : end_from (length p.entry) gs ≤ 32767 = omega arith in
    let fits : ltb 65535 (length (laid_of p.entry gs p.unwind).code) ≡ false = le-ltb 65535 (length (laid_of p.entry gs p.unwind).code) (omega arith) in
    let homes : (t : ℕ) → home_of (homes_of p.entry gs) t ≤ 32767 = λ t. let most_home = home-le p.entry gs t in omega arith in
    let far : first_far p.entry gs ≡ None = none-far (home_of (homes_of p.entry gs)) (length p.entry) gs homes within in
    ap (λ (b : Bool). cond b (Some cause.Length) (far_cause (first_far p.entry gs))) fits ∙ ap far_cause far

-- ---- its Code

record IsShort (old : CodeAttribute) : Type 0 where
  stack : old.max_stack < 65535
  handlers : length old.handlers < 65535
  code : length old.code ≤ 4096
  tables : length (flat_map raw_bytes old.attributes) ≤ 16384

short-is : (old : CodeAttribute) → is_small_code old ≡ true → IsShort old
short-is old small =
    let tables : Bool = nat_le (length (flat_map raw_bytes old.attributes)) 16384 in
    let code : Bool = nat_le (length old.code) 4096 in
    let handlers : Bool = ltb (length old.handlers) 65535 in
    let a = and_parts (ltb old.max_stack 65535) (handlers && (code && tables)) small in
    let b = and_parts handlers (code && tables) a.1 in
    let c = and_parts code tables b.1 in
    record {
      stack = ltb-true old.max_stack 65535 a.0;
      handlers = ltb-true (length old.handlers) 65535 b.0;
      code = leb-true (length old.code) 4096 c.0;
      tables = leb-true (length (flat_map raw_bytes old.attributes)) 16384 c.1;
    }

room-none : (s : Setting) (old : CodeAttribute) → IsShort old → room_cause s old ≡ None
room-none s old short =
    let few = short.stack in
    let less = short.handlers in
    let stack : eqb old.max_stack 65535 ≡ false = ne_eqb old.max_stack 65535 (λ is. omega arith) in
    let handlers : eqb (length old.handlers) 65535 ≡ false = ne_eqb (length old.handlers) 65535 (λ is. omega arith) in
    let frames : Option Cause = cond (are_frames_full s old.attributes) (Some cause.Frames) None in
    ap (λ (b : Bool). cond b (Some cause.Stack) (cond (eqb (length old.handlers) 65535) (Some cause.Handlers) frames)) stack
    ∙ ap (λ (b : Bool). cond b (Some cause.Handlers) frames) handlers
    ∙ ap (λ (b : Bool). cond b (Some cause.Frames) None) (frames-room s old.attributes short.tables)

around-le : (s : Setting) (old : CodeAttribute) (laid : Laid) → IsShort old → length laid.code ≤ 32767 → length (code_bytes (code_around s old laid.code laid.homes)) ≤ 4294967295
around-le s old laid short within =
    let less = short.handlers in
    let few = short.tables in
    let homes : Homes = laid.homes in
    let whole = length-code_bytes (code_around s old laid.code homes) in
    let moved : List Handler = map (moved_handler homes) old.handlers in
    let handlers = length-append moved (catch_all homes (length old.code) ∷ []) in
    let same = length-map old.handlers (moved_handler homes) in
    let tables = tables-le s homes (length old.code) old.attributes in
    omega arith

size-none : (s : Setting) (number : ℕ) (mark : Mark) (old : CodeAttribute) → IsReadableCode old.code → IsShort old → size_cause (version_of s number mark old).code ≡ None
size-none s number mark old readable short =
    let most = around-le s old (laid_version_of s number mark old) short (laid-short s number mark old readable short.code) in
    ap (λ (b : Bool). cond b (Some cause.Length) None) (le-ltb 4294967295 (length (code_bytes (version_of s number mark old).code)) most)

pub version-none : (s : Setting) (number : ℕ) (mark : Mark) (old : CodeAttribute) → IsReadableCode old.code → is_small_code old ≡ true → version_cause s number mark old ≡ None
version-none s number mark old readable small =
    let short = short-is old small in
    let layout : Option Cause = layout_cause (probes_in s.tail number mark) (instrs_in old.code) in
    let size : Option Cause = size_cause (version_of s number mark old).code in
    ap (λ (o : Option Cause). option_or o (option_or layout size)) (room-none s old short)
    ∙ ap (λ (o : Option Cause). option_or o size) (layout-none s number mark old readable short.code)
    ∙ size-none s number mark old readable short

-- ---- the methods, and the class

method-none : (s : Setting) (number : ℕ) (m : Member) → HasReadableBody m → has_small_body m ≡ true → cause_of_method s number (plain_mark m) m ≡ None
method-none s number m body small = by_code (code_of m) refl body small
  where
    by_code : (o : Option CodeAttribute) → code_of m ≡ o → IfSome o IsReadableBody → option_map_or is_small_code o true ≡ true → cause_of_method s number (cond (is_some o) Plain Off) m ≡ None
    by_code None e body small = refl
    by_code (Some old) e body small = subst (λ (o : Option CodeAttribute). cause_of_coded s number Plain o ≡ None) (sym e) (version-none s number Plain old body.readable small)

methods-none : (s : Setting) (number position : ℕ) (methods : List Member) → HaveReadableBodies methods → list_all has_small_body methods ≡ true → refused_from s number position (map plain_mark methods) methods ≡ None
methods-none s number position [] bodies small = refl
methods-none s number position (m ∷ rest) bodies small =
    let parts = and_parts (has_small_body m) (list_all has_small_body rest) small in
    let later : Option Refused = refused_from s (next_number number m) (position + 1) (map plain_mark rest) rest in
    ap (λ (o : Option Cause). refused_here position o later) (method-none s number m (bodies 0 m refl) parts.0)
    ∙ methods-none s (next_number number m) (position + 1) rest (λ k n at. bodies (suc k) n at) parts.1

pub IsProfilable-small : (c : ClassFile) → IsReadableClass c → has_small_codes c ≡ true → IsProfilable c
IsProfilable-small c readable small = by_off (all_off (all_plain c))
  where
    parts : (has_room c.pool ≡ true) × (list_all has_small_body c.methods ≡ true)
    parts = and_parts (has_room c.pool) (list_all has_small_body c.methods) small

    marked : refused_of_marked c 0 (all_plain c) ≡ None
    marked =
        let room : is_full_pool c ≡ false = le-ltb 65535 (length c.pool + 18) (leb-true (length c.pool + 18) 65535 parts.0) in
        let methods : Option Refused = refused_from (setting_of c) 0 0 (all_plain c) c.methods in
        ap (λ (b : Bool). cond b (Some (first_marked (all_plain c), cause.Pool)) methods) room ∙ methods-none (setting_of c) 0 0 c.methods readable.bodies parts.1

    by_off : (off : Bool) → cond off None (refused_of_marked c 0 (all_plain c)) ≡ None
    by_off true = refl
    by_off false = marked
