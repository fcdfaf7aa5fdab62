-- The entry probe of a version of an image tells whose probes it has.
use Rattle.std.proofs.Common.{◌≡◌, ◌<◌, ◌^◌, ◌+◌, ℕ, Bool, true, false, List, ◌∷◌, ◌++◌, length, Option, Some, None, refl, sym, ap, ◌∙◌, append_assoc, length-append, arith}
use Rattle.std.specs.Prelude.{MatchBool, slice_get}
use Rattle.std.specs.Option.{option_and_then, option_map, option_map_or}
use Rattle.std.proofs.lemmas.Option.{none-some, same_Some, slice_get-map}
use Rattle.const_pool.specs.declared.class.ClassFile.{ClassFile}
use Rattle.const_pool.specs.declared.class.CodeAttribute.{CodeAttribute}
use Rattle.const_pool.specs.declared.class.Member.{Member}
use Rattle.const_pool.specs.declared.pool.Const.{Const}
use Rattle.const_pool.specs.References.{Reference, named_method}
use Rattle.const_pool.specs.Tail.{enter_index, root_index, tail_entries, with_tail}
use Rattle.code_model.specs.declared.laying.Homes.{Homes}
use Rattle.code_model.specs.Layout.{groups_bytes, home_of, homes_of, u2}
use Rattle.jvm_model.specs.declared.event.EventKind.{EventKind}
use Rattle.jvm_model.specs.declared.event.EventKind.TheVariants as kind
use Rattle.jvm_model.specs.declared.event.Mark.{Mark}
use Rattle.jvm_model.specs.declared.event.Mark.TheVariants.{Off, Plain, Root}
use Rattle.jvm_model.specs.Rewriting.Images.{IsImage, IsOriginal, IsRewritten, all_off, is_off}
use Rattle.jvm_model.specs.Rewriting.StandsFor.{invoked_probe, probe_kind}
use Rattle.jvm_model.specs.Rewriting.Versions.{IsVersion, entry_probe, groups_of, probe_bytes, unwind_code}
use Rattle.jvm_model.proofs.Images.ImagePools.{enter-named, root-named}
use Rattle.jvm_model.proofs.Images.ImageProbes.{invokestatic_at}
use Rattle.prepared_lines.specs.Probes.{entry_mark, mark_of_kind}

-- what invokestatic behind three bytes invokes
invoked-mark : (image : ClassFile) (p ys : List ℕ) (index : ℕ) (r : Reference) (kind : EventKind) → length p ≡ 3 → index < 2 ^ 16 → named_method image.pool index ≡ Some r → probe_kind r ≡ Some kind
    → entry_mark image (p ++ (184 ∷ (u2 index ++ ys))) ≡ mark_of_kind kind
invoked-mark image p ys index r kind len few named is =
    ap (λ o. option_map_or mark_of_kind (option_and_then (invoked_probe image) o) Off) (invokestatic_at p ys index 3 few len)
    ∙ (ap (λ o. option_map_or mark_of_kind (option_and_then probe_kind o) Off) named ∙ ap (λ o. option_map_or mark_of_kind o Off) is)

-- a probe's bytes
probe-mark : (image : ClassFile) (ys : List ℕ) (number index : ℕ) (r : Reference) (kind : EventKind) → index < 2 ^ 16 → named_method image.pool index ≡ Some r → probe_kind r ≡ Some kind
    → entry_mark image (probe_bytes number index ++ ys) ≡ mark_of_kind kind
probe-mark image ys number index r kind few named is =
    ap (entry_mark image) (append_assoc (17 ∷ u2 number) (184 ∷ u2 index) ys)
    ∙ invoked-mark image (17 ∷ u2 number) ys index r kind refl few named is

-- the tail has eighteen entries
index-within : (pool : List Const) (image : ClassFile) → image.pool ≡ with_tail pool → length image.pool < 2 ^ 16 → length pool + 18 < 2 ^ 16
index-within pool image same few =
    let many : length image.pool ≡ length (with_tail pool) = ap length same in
    let sum : length (with_tail pool) ≡ length pool + length (tail_entries (length pool)) = length-append pool (tail_entries (length pool)) in
    omega (arith, many, sum, few)

pub version-mark : (c image : ClassFile) (number : ℕ) (mark : Mark) (old new : CodeAttribute) (h : Homes) → image.pool ≡ with_tail c.pool → length image.pool < 2 ^ 16 → is_off mark ≡ false
    → IsVersion (length c.pool) number mark old new h → entry_mark image new.code ≡ mark
version-mark c image number mark old new h pool few on is =
    ap (λ (k : CodeAttribute). entry_mark image k.code) is.code ∙ by mark on
  where
    room : length c.pool + 18 < 2 ^ 16
    room = index-within c.pool image pool few

    rest : Mark → List ℕ
    rest m =
        let front : List ℕ = entry_probe (length c.pool) number m in
        let groups = groups_of (length c.pool) number is.reading.instrs in
        groups_bytes (home_of (homes_of front groups)) (length front) groups ++ unwind_code (length c.pool) number

    by : (m : Mark) → is_off m ≡ false → entry_mark image (entry_probe (length c.pool) number m ++ rest m) ≡ m
    by Root on =
        probe-mark image (rest Root) number (root_index (length c.pool)) _ kind.Root (omega (arith, room))
        (ap (λ q. named_method q (root_index (length c.pool))) pool ∙ root-named c.pool) refl
    by Plain on =
        probe-mark image (rest Plain) number (enter_index (length c.pool)) _ kind.Enter (omega (arith, room))
        (ap (λ q. named_method q (enter_index (length c.pool))) pool ∙ enter-named c.pool) refl
    by Off on = absurd cc

-- where a method has homes the image has the class's pool with its tail
pub rewritten-pool : (c : ClassFile) (first : ℕ) (marks : List Mark) (image : ClassFile) (homes : List (Option Homes)) (at : ℕ) (moved : Homes) → IsImage c first marks image homes
    → slice_get homes at ≡ Some (Some moved) → image.pool ≡ with_tail c.pool
rewritten-pool c first marks image homes at moved is housed = by (all_off marks) is where
  unmoved : (o : Option Member) → (let o : Option (Option Homes) = option_map (λ m. None) o in o ≡ Some (Some moved)) → image.pool ≡ with_tail c.pool
  unmoved None e = absurd (none-some (Some moved) e)
  unmoved (Some m) e = absurd (none-some moved (same_Some None (Some moved) e))

  by : (b : Bool) → MatchBool b (IsOriginal c image homes) (IsRewritten c first marks image homes) → image.pool ≡ with_tail c.pool
  by true original =
      let none : Member → Option Homes = λ m. None in
      unmoved (slice_get c.methods at) (sym (slice_get-map none c.methods at) ∙ (ap (λ hs. slice_get hs at) (sym original.unmoved) ∙ housed))
  by false rewritten = ap (λ (x : ClassFile). x.pool) rewritten.rest
