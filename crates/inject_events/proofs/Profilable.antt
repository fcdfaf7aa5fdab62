-- Whether a class can be rewritten does not depend on the numbers of its methods, nor on which marks other than Off
-- those with Code have: all probes have the same lengths.
use Rattle.std.proofs.Common.{◌≡◌, ◌≢◌, ℕ, ◌+◌, ◌*◌, Bool, true, false, cond, ltb, List, [], ◌∷◌, ◌++◌, length, Option, Some, None, refl, sym, ap, subst, ◌∙◌, arith}
use Rattle.std.specs.Prelude.{map, is_some, Result, Err}
use Rattle.std.specs.List.{flat_map}
use Rattle.std.specs.Option.{option_or}
use Rattle.std.proofs.lemmas.Option.{none-some}
use Rattle.std.proofs.lemmas.Bool.{and_parts}
use Rattle.const_pool.specs.declared.class.ClassFile.{ClassFile}
use Rattle.const_pool.specs.declared.class.CodeAttribute.{CodeAttribute}
use Rattle.const_pool.specs.declared.class.Member.{Member}
use Rattle.const_pool.specs.ClassFile.{code_bytes, raw_bytes}
use Rattle.code_model.specs.declared.instr.Instr.{Instr}
use Rattle.code_model.specs.declared.laying.Group.{Group}
use Rattle.code_model.specs.declared.laying.Homes.{Homes}
use Rattle.code_model.specs.declared.laying.Laid.{Laid}
use Rattle.code_model.specs.Layout.{Spot, place_of, group_end, spots_from, end_from, source_end, size_at, home_of, width_of, fits_branch, first_far_from, first_far}
use Rattle.code_model.proofs.CodeLayouts.Walks.{length-laid_of}
use Rattle.jvm_model.specs.declared.event.Mark.{Mark}
use Rattle.jvm_model.specs.declared.event.Mark.TheVariants.{Off, Plain, Root}
use Rattle.jvm_model.specs.Basis.Methods.{code_of}
use Rattle.jvm_model.specs.Rewriting.Images.{is_off, all_off, next_number}
use Rattle.jvm_model.specs.Rewriting.Versions.{is_return_opcode, group_of, probe_bytes}
use Rattle.inject_events.specs.declared.error.Cause.{Cause}
use Rattle.inject_events.specs.declared.error.Cause.TheVariants as cause
use Rattle.inject_events.specs.declared.error.InjectError.{InjectError}
use Rattle.inject_events.specs.declared.error.InjectError.TheVariants as inject
use Rattle.inject_events.specs.declared.image.Image.{Image}
use Rattle.inject_events.specs.declared.probes.Probes.{Probes}
use Rattle.inject_events.specs.declared.settings.Setting.{Setting}
use Rattle.inject_events.specs.Answers.{IsImageAnswer, IsProfilable, MarkedHaveCode}
use Rattle.inject_events.specs.Probing.{laid_with, first_marked}
use Rattle.inject_events.specs.Rewriting.{Refused, instrs_in, code_around, version_of, room_cause, far_cause, layout_cause, size_cause, version_cause, cause_of_coded, cause_of_method, refused_here, refused_from, is_full_pool, refused_of_marked, refused_of, plain_mark, all_plain}
use Rattle.inject_events.specs.Settings.{setting_of, probes_in, entry_in}
use Rattle.inject_events.proofs.Rooms.{none_of}
use Rattle.inject_events.proofs.Tabling.{length-code_bytes}
use Rattle.inject_events.proofs.Refusals.{here-none}

-- ---- layouts with probes of the same lengths

record AreAlike (p q : Probes) : Type 0 where
  entry : length p.entry ≡ length q.entry
  leave : length p.leave ≡ length q.leave
  unwind : length p.unwind ≡ length q.unwind

length-front : (a b : List ℕ) (i : Bool) → length a ≡ length b → length (cond i a []) ≡ length (cond i b [])
length-front a b true same = same
length-front a b false same = refl

place-same : (a b : List ℕ) (at : ℕ) (i : Instr) → length a ≡ length b → place_of at (group_of a i) ≡ place_of at (group_of b i)
place-same a b at i same = ap (λ n. at + n) (length-front a b (is_return_opcode i.op) same)

group_end-same : (a b : List ℕ) (at : ℕ) (i : Instr) → length a ≡ length b → group_end at (group_of a i) ≡ group_end at (group_of b i)
group_end-same a b at i same = ap (λ n. n + size_at n i) (place-same a b at i same)

end_from-same : (a b : List ℕ) (at : ℕ) (instrs : List Instr) → length a ≡ length b → end_from at (map (group_of a) instrs) ≡ end_from at (map (group_of b) instrs)
end_from-same a b at [] same = refl
end_from-same a b at (i ∷ rest) same =
    ap (λ n. end_from n (map (group_of a) rest)) (group_end-same a b at i same) ∙ end_from-same a b (group_end at (group_of b i)) rest same

source_end-same : (a b : List ℕ) (end : ℕ) (instrs : List Instr) → source_end end (map (group_of a) instrs) ≡ source_end end (map (group_of b) instrs)
source_end-same a b end [] = refl
source_end-same a b end (i ∷ rest) = source_end-same a b (i.at + size_at i.at i) rest

spots-same : (a b : List ℕ) (at : ℕ) (instrs : List Instr) → length a ≡ length b → spots_from at (map (group_of a) instrs) ≡ spots_from at (map (group_of b) instrs)
spots-same a b at [] same = refl
spots-same a b at (i ∷ rest) same =
    ap (λ n. let s : Spot = record { from = i.at; home = at; place = n } in s ∷ spots_from (group_end at (group_of a i)) (map (group_of a) rest)) (place-same a b at i same)
    ∙ ap (λ (spots : List Spot). record { from = i.at; home = at; place = place_of at (group_of b i) } ∷ spots)
    (ap (λ n. spots_from n (map (group_of a) rest)) (group_end-same a b at i same) ∙ spots-same a b (group_end at (group_of b i)) rest same)

-- the spots of groups that begin here, and then of the code's end
abbrev spots_all : ℕ → List Group → List Spot
spots_all at groups = let code_end = end_from at groups in spots_from at groups ++ record { from = source_end 0 groups; home = code_end; place = code_end } ∷ []

abbrev homes_in : List Spot → Homes
homes_in spots = record { from = map (λ (s : Spot). s.from) spots; home = map (λ (s : Spot). s.home) spots; place = map (λ (s : Spot). s.place) spots }

abbrev end_spot : ℕ → ℕ → Spot
end_spot from home = record { from = from; home = home; place = home }

all-same : (a b : List ℕ) (at : ℕ) (instrs : List Instr) → length a ≡ length b → spots_all at (map (group_of a) instrs) ≡ spots_all at (map (group_of b) instrs)
all-same a b at instrs same =
    ap (λ (spots : List Spot). spots ++ end_spot (source_end 0 (map (group_of a) instrs)) (end_from at (map (group_of a) instrs)) ∷ []) (spots-same a b at instrs same)
    ∙ ap (λ n. spots_from at (map (group_of b) instrs) ++ end_spot n (end_from at (map (group_of a) instrs)) ∷ []) (source_end-same a b 0 instrs)
    ∙ ap (λ n. spots_from at (map (group_of b) instrs) ++ end_spot (source_end 0 (map (group_of b) instrs)) n ∷ []) (end_from-same a b at instrs same)

homes-same : (p q : Probes) (instrs : List Instr) → AreAlike p q → (laid_with p instrs).homes ≡ (laid_with q instrs).homes
homes-same p q instrs alike =
    ap (λ n. homes_in (spots_all n (map (group_of p.leave) instrs))) alike.entry ∙ ap homes_in (all-same p.leave q.leave (length q.entry) instrs alike.leave)

length-same : (p q : Probes) (instrs : List Instr) → AreAlike p q → length (laid_with p instrs).code ≡ length (laid_with q instrs).code
length-same p q instrs alike =
    length-laid_of p.entry (map (group_of p.leave) instrs) p.unwind
    ∙ ap (λ n. end_from n (map (group_of p.leave) instrs) + length p.unwind) alike.entry
    ∙ ap (λ n. n + length p.unwind) (end_from-same p.leave q.leave (length q.entry) instrs alike.leave)
    ∙ ap (λ n. end_from (length q.entry) (map (group_of q.leave) instrs) + n) alike.unwind
    ∙ sym (length-laid_of q.entry (map (group_of q.leave) instrs) q.unwind)

far-same : (a b : List ℕ) (home : ℕ → ℕ) (at : ℕ) (instrs : List Instr) → length a ≡ length b → first_far_from home at (map (group_of a) instrs) ≡ first_far_from home at (map (group_of b) instrs)
far-same a b home at [] same = refl
far-same a b home at (i ∷ rest) same =
    let far : Option ℕ = Some i.at in
    ap (λ n. cond (fits_branch home n (width_of i) i.arg) (first_far_from home (group_end at (group_of a i)) (map (group_of a) rest)) far) (place-same a b at i same)
    ∙ ap (λ o. cond (fits_branch home (place_of at (group_of b i)) (width_of i) i.arg) o far)
    (ap (λ n. first_far_from home n (map (group_of a) rest)) (group_end-same a b at i same) ∙ far-same a b home (group_end at (group_of b i)) rest same)

first_far-same : (p q : Probes) (instrs : List Instr) → AreAlike p q → first_far p.entry (map (group_of p.leave) instrs) ≡ first_far q.entry (map (group_of q.leave) instrs)
first_far-same p q instrs alike =
    ap (λ (homes : Homes). first_far_from (home_of homes) (length p.entry) (map (group_of p.leave) instrs)) (homes-same p q instrs alike)
    ∙ ap (λ n. first_far_from (home_of (laid_with q instrs).homes) n (map (group_of p.leave) instrs)) alike.entry
    ∙ far-same p.leave q.leave (home_of (laid_with q instrs).homes) (length q.entry) instrs alike.leave

layout_cause-same : (p q : Probes) (instrs : List Instr) → AreAlike p q → layout_cause p instrs ≡ layout_cause q instrs
layout_cause-same p q instrs alike =
    ap (λ n. cond (ltb 65535 n) (Some cause.Length) (far_cause (first_far p.entry (map (group_of p.leave) instrs)))) (length-same p q instrs alike)
    ∙ ap (λ far. cond (ltb 65535 (length (laid_with q instrs).code)) (Some cause.Length) (far_cause far)) (first_far-same p q instrs alike)

-- ---- a Code around such layouts

around-length : (s : Setting) (old : CodeAttribute) (code : List ℕ) (homes : Homes) → length (code_bytes (code_around s old code homes))
    ≡ 12 + length code + 8 * length (code_around s old code homes).handlers + length (flat_map raw_bytes (code_around s old code homes).attributes)
around-length s old code homes = length-code_bytes (code_around s old code homes)

size-same : (s : Setting) (old : CodeAttribute) (a b : Laid) → a.homes ≡ b.homes → length a.code ≡ length b.code → length (code_bytes (code_around s old a.code a.homes)) ≡ length (code_bytes (code_around s old b.code b.homes))
size-same s old a b homes code =
    ap (λ (h : Homes). length (code_bytes (code_around s old a.code h))) homes
    ∙ around-length s old a.code b.homes
    ∙ ap (λ n. 12 + n + 8 * length (code_around s old b.code b.homes).handlers + length (flat_map raw_bytes (code_around s old b.code b.homes).attributes)) code
    ∙ sym (around-length s old b.code b.homes)

-- ---- a version, a method

length-probe : (number index : ℕ) → length (probe_bytes number index) ≡ 6
length-probe number index = omega arith

length-unwind : (number index : ℕ) → length (probe_bytes number index ++ 191 ∷ []) ≡ 7
length-unwind number index = omega arith

probes-alike : (s : Setting) (n m : ℕ) (a b : Mark) → AreAlike (probes_in s.tail n a) (probes_in s.tail m b)
probes-alike s n m a b = record {
  entry = length-probe n (entry_in s.tail a) ∙ sym (length-probe m (entry_in s.tail b));
  leave = length-probe n s.tail.leave ∙ sym (length-probe m s.tail.leave);
  unwind = length-unwind n s.tail.unwind ∙ sym (length-unwind m s.tail.unwind);
}

version_cause-same : (s : Setting) (n m : ℕ) (a b : Mark) (old : CodeAttribute) → version_cause s n a old ≡ version_cause s m b old
version_cause-same s n m a b old =
    let alike = probes-alike s n m a b in
    let p : Probes = probes_in s.tail n a in
    let q : Probes = probes_in s.tail m b in
    let instrs = instrs_in old.code in
    let size = size-same s old (laid_with p instrs) (laid_with q instrs) (homes-same p q instrs alike) (length-same p q instrs alike) in
    ap (λ (o : Option Cause). option_or (room_cause s old) (option_or o (size_cause (version_of s n a old).code))) (layout_cause-same p q instrs alike)
    ∙ ap (λ k. option_or (room_cause s old) (option_or (layout_cause q instrs) (cond (ltb 4294967295 k) (Some cause.Length) None))) size

coded-same : (s : Setting) (n m : ℕ) (a b : Mark) (code : Option CodeAttribute) → cause_of_coded s m b code ≡ None → cause_of_coded s n a code ≡ None
coded-same s n m a b None none = refl
coded-same s n m a b (Some old) none = version_cause-same s n m a b old ∙ none

-- where a method is tried, it has Code
tried-coded : (s : Setting) (n m : ℕ) (a : Mark) (method : Member) (code : Option CodeAttribute) → code_of method ≡ code → cause_of_method s m (cond (is_some code) Plain Off) method ≡ None
    → cause_of_coded s n a code ≡ None
tried-coded s n m a method None coded none = refl
tried-coded s n m a method (Some old) coded none =
    coded-same s n m a Plain (Some old) (subst (λ (o : Option CodeAttribute). cause_of_coded s m Plain o ≡ None) coded none)

method-same : (s : Setting) (n m : ℕ) (mark : Mark) (method : Member) → cause_of_method s m (plain_mark method) method ≡ None → cause_of_method s n mark method ≡ None
method-same s n m Off method none = refl
method-same s n m Plain method none = tried-coded s n m Plain method (code_of method) refl none
method-same s n m Root method none = tried-coded s n m Root method (code_of method) refl none

-- ---- the class

none-here : (position : ℕ) (why : Option Cause) (later : Option Refused) → why ≡ None → later ≡ None → refused_here position why later ≡ None
none-here position None later none rest = rest
none-here position (Some why) later none rest = absurd cc

methods-same : (s : Setting) (n m place position : ℕ) (marks : List Mark) (methods : List Member) → refused_from s m place (map plain_mark methods) methods ≡ None → refused_from s n position marks methods ≡ None
methods-same s n m place position [] methods none = refl
methods-same s n m place position (mark ∷ marks) [] none = refl
methods-same s n m place position (mark ∷ marks) (x ∷ methods) none =
    let parts = here-none place (cause_of_method s m (plain_mark x) x) (refused_from s (next_number m x) (place + 1) (map plain_mark methods) methods) none in
    none-here position (cause_of_method s n mark x) (refused_from s (next_number n x) (position + 1) marks methods) (method-same s n m mark x parts.0)
    (methods-same s (next_number n x) (next_number m x) (place + 1) (position + 1) marks methods parts.1)

marked-same : (c : ClassFile) (first : ℕ) (marks : List Mark) → refused_of_marked c 0 (all_plain c) ≡ None → refused_of_marked c first marks ≡ None
marked-same c first marks none =
    let parts = none_of (is_full_pool c) (first_marked (all_plain c), cause.Pool) (refused_from (setting_of c) 0 0 (all_plain c) c.methods) none in
    rw parts.0 (methods-same (setting_of c) first 0 0 0 marks c.methods parts.1)

-- where no method has Code, none is marked
off-uncoded : (mark : Mark) (coded : Bool) → (is_off mark ≡ false → coded ≡ true) → is_off (cond coded Plain Off) ≡ true → is_off mark ≡ true
off-uncoded Off coded has off = refl
off-uncoded Plain true has off = absurd cc
off-uncoded Plain false has off = absurd (let found = has refl in cc)
off-uncoded Root true has off = absurd cc
off-uncoded Root false has off = absurd (let found = has refl in cc)

off-marks : (marks : List Mark) (methods : List Member) → length marks ≡ length methods → MarkedHaveCode marks methods → all_off (map plain_mark methods) ≡ true → all_off marks ≡ true
off-marks [] methods counted have off = refl
off-marks (mark ∷ marks) [] counted have off = absurd (omega (arith, counted))
off-marks (mark ∷ marks) (m ∷ methods) counted have off =
    let parts = and_parts (is_off (plain_mark m)) (all_off (map plain_mark methods)) off in
    rw (off-uncoded mark (is_some (code_of m)) have.0 parts.0) (off-marks marks methods (omega (arith, counted)) have.1 parts.1)

pub refused_of-profilable : (c : ClassFile) (first : ℕ) (marks : List Mark) → length marks ≡ length c.methods → MarkedHaveCode marks c.methods → IsProfilable c → refused_of c first marks ≡ None
refused_of-profilable c first marks counted have none = by_plain (all_off (all_plain c)) refl none
  where
    by_marked : (off : Bool) → refused_of_marked c 0 (all_plain c) ≡ None → cond off None (refused_of_marked c first marks) ≡ None
    by_marked true plain = refl
    by_marked false plain = marked-same c first marks plain

    by_plain : (plain : Bool) → all_off (all_plain c) ≡ plain → cond plain None (refused_of_marked c 0 (all_plain c)) ≡ None → refused_of c first marks ≡ None
    by_plain true off none = rw (off-marks marks c.methods counted have off) refl
    by_plain false off none = by_marked (all_off marks) none

pub never_refused : (c : ClassFile) (first : ℕ) (marks : List Mark) (answer : Result Image InjectError) (made : Image) → length marks ≡ length c.methods → IsImageAnswer answer (refused_of c first marks) made
    → MarkedHaveCode marks c.methods → IsProfilable c → (method : ℕ) (why : Cause) → answer ≢ Err (inject.NotProfilable method why)
never_refused c first marks answer made counted is have profilable = λ method why refused.
    let answered : IsImageAnswer (Err (inject.NotProfilable method why)) (refused_of c first marks) made = subst (λ (a : Result Image InjectError). IsImageAnswer a (refused_of c first marks) made) refused is in
    none-some (method, why) (sym (refused_of-profilable c first marks counted have profilable) ∙ answered)
