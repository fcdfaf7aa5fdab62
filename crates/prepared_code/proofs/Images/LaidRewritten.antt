-- A code that was laid out with its probes is the rewritten code of its method.
use Rattle.std.proofs.Common.{◌≡◌, ◌≤◌, ◌<◌, ℕ, cond, List, [], ◌∷◌, ◌++◌, map, length, Option, Some, None, refl, sym, ap, subst, ◌∙◌, inl, inr, arith}
use Rattle.std.proofs.lemmas.Bool.{le-ltb}
use Rattle.std.proofs.lemmas.Option.{same_Some, none-some, slice_get-map}
use Rattle.std.specs.Prelude.{slice_get, unwrap_or}
use Rattle.std.specs.List.{AllByRecursion}
use Rattle.std.specs.Option.{option_and_then, option_map}
use Rattle.jf_bytes.proofs.Lists.{each_at}
use Rattle.jf_bytes.proofs.Options.{map_parts}
use Rattle.const_pool.specs.declared.class.ClassFile.{ClassFile}
use Rattle.const_pool.specs.declared.class.CodeAttribute.{CodeAttribute}
use Rattle.const_pool.specs.declared.class.Handler.{Handler}
use Rattle.code_model.specs.declared.instr.Instr.{Instr}
use Rattle.code_model.specs.declared.laying.Group.{Group}
use Rattle.code_model.specs.declared.laying.Laid.{Laid}
use Rattle.code_model.specs.Groups.{AreGroups, IsLaidIn, instrs_of}
use Rattle.code_model.specs.Instructions.{Reads}
use Rattle.code_model.specs.Layout.{Spot, all_spots, end_from, first_far, home_in, home_of, laid_of, place_in, place_of}
use Rattle.code_model.proofs.CodeLayouts.Among.{starts_rise, which_spot, source_end-reads}
use Rattle.code_model.proofs.CodeLayouts.Layouts.{home_in-end}
use Rattle.code_model.proofs.Offsets.Lookups.{found_beside-back, spot-found_beside}
use Rattle.code_model.proofs.Reading.Readings.{instruction_at-past, instruction_at_within}
use Rattle.jvm_model.specs.declared.program.Program.{Program}
use Rattle.jvm_model.specs.Basis.Data.{Instruction}
use Rattle.jvm_model.specs.Codes.Lines.{code_instruction, instruction_of, operation_of}
use Rattle.jvm_model.specs.Codes.Moved.{IsPlace, moved_instruction}
use Rattle.jvm_model.specs.Codes.Originals.{catcher_of, original}
use Rattle.jvm_model.specs.Rewriting.Versions.{group_of, moved_handler}
use Rattle.jvm_model.proofs.Events.Chains.{slice_get_at}
use Rattle.jvm_model.proofs.Images.GroupedInstrs.{instrs-groups}
use Rattle.jvm_model.specs.Codes.Homed.{IsHomed, homed_instruction, instruction_for, start_in, with_own}
use Rattle.prepared_code.specs.VersionListings.{HasOperation}
use Rattle.jvm_model.proofs.Images.HomedListings.{homed-at, nth-map}
use Rattle.jvm_model.proofs.Images.HomesRise.{home-rises}
use Rattle.jvm_model.proofs.Images.LaidHomes.{is-homed}
use Rattle.prepared_code.specs.LaidMethods.{NamesClass}
use Rattle.jvm_model.specs.Codes.ProgramPlaces.{IsStartOrEnd}
use Rattle.prepared_code.proofs.Images.RewrittenVersions.{IsRewritten}

module _ (p : Program) (norm : ℕ → ℕ → ℕ) (method : ℕ) (c image : ClassFile) (front leave tail : List ℕ) (old new : CodeAttribute) (instrs : List Instr)
    (reads : Reads old.code 0 instrs) (groups : AreGroups (map (group_of leave) instrs)) (near : first_far front (map (group_of leave) instrs) ≡ None)
    (short : length (laid_of front (map (group_of leave) instrs) tail).code ≤ 65535) (does : AllByRecursion (λ i. operation_of image i ≡ operation_of c i) instrs)
    (at : (place : ℕ) → (original p).at method place ≡ code_instruction c old.code place) where
  abbrev gs : List Group
  gs = map (group_of leave) instrs

  abbrev pub laid : Laid
  laid = laid_of front gs tail

  abbrev h : ℕ → ℕ
  h = home_of laid.homes

  abbrev len : ℕ
  len = length old.code

  homed : IsHomed c image leave old.code instrs laid
  homed = is-homed c image front leave tail old.code instrs reads groups near short does

  group-reads : Reads old.code 0 (instrs_of gs)
  group-reads = subst (Reads old.code 0) (sym (instrs-groups leave instrs)) reads

  -- an offset that has a home is a start or the end
  start-nth : (t home : ℕ) → home_in laid.homes t ≡ Some home → IsStartOrEnd instrs len t
  start-nth t home e =
      let s = spot-found_beside (λ (x : Spot). x.from) (λ (x : Spot). x.home) (all_spots front gs) t home e in
      elim (which_spot (length front) 0 gs s.front s.spot s.rest s.parts) [
        | inl g ↦ (let there : slice_get gs (length g.pre) ≡ Some g.group = ap (λ (xs : List Group). slice_get xs (length g.pre)) g.parts ∙ slice_get_at g.pre g.group g.post in
            let found = map_parts (group_of leave) (slice_get instrs (length g.pre)) g.group (sym (slice_get-map (group_of leave) instrs (length g.pre)) ∙ there) in
            inl (length g.pre, found.0, found.1, ap (λ (x : Group). x.instr.at) found.2 ∙ (ap (λ (x : Spot). x.from) (sym g.is) ∙ s.number)))
        | inr end ↦ inr (sym s.number ∙ ap (λ (x : Spot). x.from) end ∙ source_end-reads old.code 0 0 gs group-reads refl)
      ]

  -- and the home of an offset that was found by it
  home-of-start : (k t : ℕ) → start_in laid.homes k ≡ Some t → home_in laid.homes t ≡ Some k
  home-of-start k t e =
      found_beside-back (λ (x : Spot). x.home) (λ (x : Spot). x.from) 0 (all_spots front gs) k t (starts_rise old.code (length front) 0 gs group-reads) e

  laid-at : (n : ℕ) (i : Instr) → slice_get instrs n ≡ Some i → IsLaidIn laid (group_of leave i)
  laid-at n i nth = each_at (IsLaidIn laid) gs n (group_of leave i) homed.laid_out (nth-map (group_of leave) instrs n i nth)

  has-home : (t : ℕ) → IsStartOrEnd instrs len t → (x : ℕ) × (home_in laid.homes t ≡ Some x)
  has-home t (inl start) =
      let there = laid-at start.0 start.1 start.2 in
      (there.home, ap (home_in laid.homes) (sym start.3) ∙ there.homed)
  has-home t (inr same) = (end_from (length front) gs, ap (home_in laid.homes) same ∙ home_in-end old.code front gs group-reads)

  homed-home : (t x : ℕ) → home_in laid.homes t ≡ Some x → h t ≡ x
  homed-home t x e = ap (λ o. unwrap_or o 0) e

  end-home : home_in laid.homes len ≡ Some (h len)
  end-home = let e = home_in-end old.code front gs group-reads in e ∙ ap (λ n. let o : Option ℕ = Some n in o) (sym (homed-home len (end_from (length front) gs) e))

  -- what goes with the end is nothing
  end-none : instruction_for image laid.code laid.homes len len ≡ None
  end-none = ap (λ b. cond b (option_and_then (λ place. option_map (with_own len) (code_instruction image laid.code place)) (place_in laid.homes len)) None) (le-ltb len len (omega arith))

  within-start : (k t : ℕ) → start_in laid.homes k ≡ Some t → length laid.code ≤ k → IsStartOrEnd instrs len t → homed_instruction image laid.code laid.homes len k ≡ None
  within-start k t e le (inl start) =
      let there = laid-at start.0 start.1 start.2 in
      let same : k ≡ there.home = same_Some k there.home (sym (home-of-start k t e) ∙ (ap (home_in laid.homes) (sym start.3) ∙ there.homed)) in
      let inside : place_of there.home (group_of leave start.1) < length laid.code = instruction_at_within laid.code (place_of there.home (group_of leave start.1)) _ there.stands in
      absurd (omega (arith, same))
  within-start k t e le (inr same) =
      ap (option_and_then (instruction_for image laid.code laid.homes len)) (e ∙ ap (λ n. let o : Option ℕ = Some n in o) same) ∙ end-none

  within-by : (k : ℕ) (o : Option ℕ) → start_in laid.homes k ≡ o → length laid.code ≤ k → homed_instruction image laid.code laid.homes len k ≡ None
  within-by k None e le = ap (option_and_then (instruction_for image laid.code laid.homes len)) e
  within-by k (Some t) e le = within-start k t e le (start-nth t k (home-of-start k t e))

  only-start : (k t : ℕ) (i : Instruction) → start_in laid.homes k ≡ Some t → homed_instruction image laid.code laid.homes len k ≡ Some i → IsStartOrEnd instrs len t → HasOperation p method i.operation
  only-start k t i e found (inl start) =
      let own : h start.1.at ≡ k = ap h start.3 ∙ homed-home t k (home-of-start k t e) in
      let stands = sym (homed-at c image leave old.code instrs laid homed start.0 start.1 start.2) ∙ (ap (homed_instruction image laid.code laid.homes len) own ∙ found) in
      let moved = map_parts (moved_instruction h) (code_instruction c old.code start.1.at) i stands in
      record { place = start.1.at; instruction = moved.0; there = at start.1.at ∙ moved.1; does = ap (λ (x : Instruction). x.operation) moved.2 }
  only-start k t i e found (inr same) =
      absurd (none-some i (sym (ap (option_and_then (instruction_for image laid.code laid.homes len)) (e ∙ ap (λ n. let o : Option ℕ = Some n in o) same) ∙ end-none) ∙ found))

  only-by : (k : ℕ) (i : Instruction) (o : Option ℕ) → start_in laid.homes k ≡ o → homed_instruction image laid.code laid.homes len k ≡ Some i → HasOperation p method i.operation
  only-by k i None e found = absurd (none-some i (sym (ap (option_and_then (instruction_for image laid.code laid.homes len)) e) ∙ found))
  only-by k i (Some t) e found = only-start k t i e found (start-nth t k (home-of-start k t e))

  pub laid-rewritten : new.code ≡ laid.code → (back : Handler) → new.handlers ≡ map (moved_handler laid.homes) old.handlers ++ back ∷ [] → AllByRecursion (NamesClass c image) old.handlers
      → (original p).handlers method ≡ map (catcher_of c) old.handlers → ((place : ℕ) → IsPlace norm method place → IsStartOrEnd instrs len place)
      → IsRewritten p norm method c image leave old new instrs laid
  laid-rewritten code back handlers named handled places = record {
    homed = homed;
    code = code;
    back = back;
    handlers = handlers;
    named = named;
    at = at;
    handled = handled;
    places = places;
    nothing = ap (option_and_then (instruction_of c)) (instruction_at-past old.code len (omega arith));
    end = end-home;
    within = λ k le. within-by k (start_in laid.homes k) refl le;
    only = λ k i found. only-by k i (start_in laid.homes k) refl found;
    rises = λ a b pa pb less.
        let first = has-home a (places a pa) in
        let second = has-home b (places b pb) in
        home-rises front old.code gs group-reads a b first.0 second.0 first.1 second.1 less;
  }
