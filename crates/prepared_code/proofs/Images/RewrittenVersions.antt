-- The version that a method's rewritten code is has the method's original code by homes.
use Rattle.std.proofs.Common.{◌≡◌, ◌≤◌, ◌<◌, ◌+◌, ◌-◌, ℕ, Bool, true, false, cond, List, [], ◌∷◌, ◌++◌, map, length, Option, Some, None, refl, sym, ap, subst, ◌∙◌, ⊎_elim, inl, inr, arith}
use Rattle.std.proofs.lemmas.Bool.{cases_lt, le-ltb}
use Rattle.std.proofs.lemmas.List.{length-append, map-append}
use Rattle.std.specs.Prelude.{nat_lt, slice_get, take, ◌==◌}
use Rattle.std.specs.List.{AllByRecursion}
use Rattle.std.specs.Option.{option_and_then, option_flatten, option_map}
use Rattle.const_pool.specs.declared.class.ClassFile.{ClassFile}
use Rattle.const_pool.specs.declared.class.CodeAttribute.{CodeAttribute}
use Rattle.const_pool.specs.declared.class.Handler.{Handler}
use Rattle.code_model.specs.declared.instr.Instr.{Instr}
use Rattle.code_model.specs.declared.laying.Homes.{Homes}
use Rattle.code_model.specs.declared.laying.Laid.{Laid}
use Rattle.code_model.specs.Instructions.{instruction_at}
use Rattle.code_model.specs.Layout.{home_in, home_of, place_in}
use Rattle.jvm_model.specs.declared.program.Program.{Program}
use Rattle.jvm_model.specs.Basis.Data.{Catcher, Instruction}
use Rattle.jvm_model.specs.Codes.Lines.{code_instruction, instruction_of}
use Rattle.jvm_model.specs.Codes.Moved.{IsPlace, moved_catcher, moved_instruction}
use Rattle.jvm_model.specs.Codes.Originals.{catcher_of, original}
use Rattle.jvm_model.specs.Rewriting.Versions.{moved_handler}
use Rattle.prepared_lines.specs.declared.line.Line.{Line}
use Rattle.prepared_code.specs.declared.versions.Catching.{Catching}
use Rattle.prepared_code.specs.Tables.{Version}
use Rattle.prepared_code.specs.Entries.{catching_of, code_line}
use Rattle.jvm_model.specs.Codes.ProgramPlaces.{IsStartOrEnd}
use Rattle.jvm_model.specs.Codes.Homed.{IsHomed, homed_instruction, instruction_for, start_in, with_own}
use Rattle.prepared_code.specs.LaidMethods.{NamesClass}
use Rattle.prepared_lines.specs.Lines.{line_of}
use Rattle.prepared_code.specs.Rewritten.{homed_line, homed_lines, line_for, own_handlers, own_line, placed_line, rewritten_version}
use Rattle.prepared_code.specs.Versions.{catcher_in, instruction_in, line_in}
use Rattle.prepared_code.specs.VersionListings.{HasOperation, IsVersionOf}
use Rattle.jvm_model.proofs.Images.HomedListings.{homed-at}
use Rattle.prepared_code.proofs.Tables.Tabled.{tabled-at, tabled-past}
use Rattle.prepared_code.proofs.Lines.Tied.{shown, tied-instruction}

-- ---- a line shows what stands there

own-shown : (own : ℕ) (o : Option Line) → option_map instruction_in (option_map (own_line own) o) ≡ option_map (with_own own) (option_map instruction_in o)
own-shown own None = refl
own-shown own (Some line) = refl

code-shown : (image : ClassFile) (o : Option Instr) → option_map instruction_in (option_and_then (line_of image) o) ≡ option_and_then (instruction_of image) o
code-shown image None = refl
code-shown image (Some i) = shown (line_of image i) (instruction_of image i) (tied-instruction image i)

placed-shown : (image : ClassFile) (code : List ℕ) (own : ℕ) (o : Option ℕ)
    → option_map instruction_in (option_and_then (λ place. placed_line image code place own) o) ≡ option_and_then (λ place. option_map (with_own own) (code_instruction image code place)) o
placed-shown image code own None = refl
placed-shown image code own (Some place) =
    own-shown own (code_line image code place) ∙ ap (option_map (with_own own)) (code-shown image (instruction_at code place))

chosen-shown : (b : Bool) (o : Option Line) (x : Option Instruction) → option_map instruction_in o ≡ x → option_map instruction_in (cond b o None) ≡ cond b x None
chosen-shown true o x e = e
chosen-shown false o x e = refl

start-shown : (image : ClassFile) (code : List ℕ) (homes : Homes) (len : ℕ) (o : Option ℕ)
    → option_map instruction_in (option_and_then (line_for image code homes len) o) ≡ option_and_then (instruction_for image code homes len) o
start-shown image code homes len None = refl
start-shown image code homes len (Some at) = chosen-shown (nat_lt at len) _ _ (placed-shown image code at (place_in homes at))

homed-shown : (image : ClassFile) (code : List ℕ) (homes : Homes) (len home : ℕ) → option_map instruction_in (homed_line image code homes len home) ≡ homed_instruction image code homes len home
homed-shown image code homes len home = start-shown image code homes len (start_in homes home)

-- ---- handlers

all-but-last : {A : Type 0} (xs : List A) (x : A) → take (length (xs ++ x ∷ []) - 1) (xs ++ x ∷ []) ≡ xs
all-but-last {A} xs x =
    ap (λ n. take n (xs ++ x ∷ [])) (let long : length (xs ++ x ∷ []) ≡ length xs + 1 = length-append xs (x ∷ []) in let same : length (xs ++ x ∷ []) - 1 ≡ length xs = omega arith in same) ∙ front xs where
      front : (ys : List A) → take (length ys) (ys ++ x ∷ []) ≡ ys
      front [] = refl
      front (y ∷ ys) = ap (λ (zs : List A). y ∷ zs) (front ys)

caught-same : (c image : ClassFile) (homes : Homes) (h : Handler) → NamesClass c image h
    → catcher_in (catching_of image (moved_handler homes h)) ≡ moved_catcher (home_of homes) (catcher_of c h)
caught-same c image homes h named =
    ap (λ (name : Option (List ℕ)). record { start = home_of homes h.start; finish = home_of homes h.end; target = home_of homes h.handler; catches = cond (h.catch_class == 0) None name }) named

all-caught : (c image : ClassFile) (homes : Homes) (hs : List Handler) → AllByRecursion (NamesClass c image) hs
    → map catcher_in (map (catching_of image) (map (moved_handler homes) hs)) ≡ map (moved_catcher (home_of homes)) (map (catcher_of c) hs)
all-caught c image homes [] named = refl
all-caught c image homes (h ∷ hs) named =
    ap (λ (x : Catcher). x ∷ map catcher_in (map (catching_of image) (map (moved_handler homes) hs))) (caught-same c image homes h named.0)
    ∙ ap (λ (xs : List Catcher). moved_catcher (home_of homes) (catcher_of c h) ∷ xs) (all-caught c image homes hs named.1)

-- ---- the version

-- the original and the rewritten code of a method of the program
pub record IsRewritten (p : Program) (norm : ℕ → ℕ → ℕ) (method : ℕ) (c image : ClassFile) (leave : List ℕ) (old new : CodeAttribute) (instrs : List Instr) (laid : Laid) : Type 0 where
  pub homed : IsHomed c image leave old.code instrs laid
  pub code : new.code ≡ laid.code
  pub back : Handler
  pub handlers : new.handlers ≡ map (moved_handler laid.homes) old.handlers ++ back ∷ []
  pub named : AllByRecursion (NamesClass c image) old.handlers
  pub at : (place : ℕ) → (original p).at method place ≡ code_instruction c old.code place
  pub handled : (original p).handlers method ≡ map (catcher_of c) old.handlers
  pub places : (place : ℕ) → IsPlace norm method place → IsStartOrEnd instrs (length old.code) place
  pub nothing : code_instruction c old.code (length old.code) ≡ None
  pub end : home_in laid.homes (length old.code) ≡ Some (home_of laid.homes (length old.code))
  pub within : (place : ℕ) → length laid.code ≤ place → homed_instruction image laid.code laid.homes (length old.code) place ≡ None
  pub only : (k : ℕ) (i : Instruction) → homed_instruction image laid.code laid.homes (length old.code) k ≡ Some i → HasOperation p method i.operation
  pub rises : (a b : ℕ) → IsPlace norm method a → IsPlace norm method b → a < b → home_of laid.homes a < home_of laid.homes b

module _ (p : Program) (norm : ℕ → ℕ → ℕ) (method : ℕ) (c image : ClassFile) (leave : List ℕ) (old new : CodeAttribute) (instrs : List Instr) (laid : Laid)
    (is : IsRewritten p norm method c image leave old new instrs laid) where
  abbrev h : ℕ → ℕ
  h = home_of laid.homes

  abbrev len : ℕ
  len = length old.code

  abbrev x : Version
  x = rewritten_version method image new laid.homes len

  lines-are : homed_lines image new.code laid.homes len ≡ homed_lines image laid.code laid.homes len
  lines-are = ap (λ code. homed_lines image code laid.homes len) is.code

  -- what the table shows at a place
  shows : (k : ℕ) → option_map instruction_in (line_in k x) ≡ homed_instruction image laid.code laid.homes len k
  shows k =
      ap (λ (ls : List (Option Line)). option_map instruction_in (option_flatten (slice_get ls k))) lines-are
      ∙ ⊎_elim
      (λ (lt : k < length laid.code). ap (λ (o : Option (Option Line)). option_map instruction_in (option_flatten o)) (tabled-at (homed_line image laid.code laid.homes len) (length laid.code) k lt)
      ∙ homed-shown image laid.code laid.homes len k)
      (λ (le : length laid.code ≤ k). ap (λ (o : Option (Option Line)). option_map instruction_in (option_flatten o)) (tabled-past (homed_line image laid.code laid.homes len) (length laid.code) k le)
      ∙ sym (is.within k le))
      (cases_lt k (length laid.code))

  -- at the end there is nothing
  end-shows : homed_instruction image laid.code laid.homes len (h len) ≡ None
  end-shows =
      ap (option_and_then (instruction_for image laid.code laid.homes len)) (is.homed.back len (h len) is.end)
      ∙ ap (λ b. cond b (option_and_then (λ place. option_map (with_own len) (code_instruction image laid.code place)) (place_in laid.homes len)) None) (le-ltb len len (omega arith))

  lines-by : (at : ℕ) → IsStartOrEnd instrs len at → option_map instruction_in (line_in (h at) x) ≡ option_map (moved_instruction h) ((original p).at method at)
  lines-by at (inl start) =
      let same : start.1.at ≡ at = start.3 in
      subst (λ n. option_map instruction_in (line_in (h n) x) ≡ option_map (moved_instruction h) ((original p).at method n)) same
      (shows (h start.1.at) ∙ (homed-at c image leave old.code instrs laid is.homed start.0 start.1 start.2 ∙ sym (ap (option_map (moved_instruction h)) (is.at start.1.at))))
  lines-by at (inr same) =
      subst (λ n. option_map instruction_in (line_in (h n) x) ≡ option_map (moved_instruction h) ((original p).at method n)) (sym same)
      (shows (h len) ∙ (end-shows ∙ sym (ap (option_map (moved_instruction h)) (is.at len ∙ is.nothing))))

  handlers-are : map catcher_in (own_handlers (map (catching_of image) new.handlers)) ≡ map (moved_catcher h) ((original p).handlers method)
  handlers-are =
      ap (λ (hs : List Handler). map catcher_in (own_handlers (map (catching_of image) hs))) is.handlers
      ∙ (ap (λ (cs : List Catching). map catcher_in (own_handlers cs)) (map-append (catching_of image) (map (moved_handler laid.homes) old.handlers) (is.back ∷ []))
      ∙ (ap (map catcher_in) (all-but-last (map (catching_of image) (map (moved_handler laid.homes) old.handlers)) (catching_of image is.back))
      ∙ (all-caught c image laid.homes old.handlers is.named
      ∙ sym (ap (map (moved_catcher h)) is.handled))))

  pub rewritten-is : IsVersionOf p norm x h
  rewritten-is = record {
    first = refl;
    lines = λ at place. lines-by at (is.places at place);
    only = λ k i e. is.only k i (sym (shows k) ∙ e);
    handlers = handlers-are;
    rises = λ a b some pa pb less. is.rises a b pa pb less;
  }
