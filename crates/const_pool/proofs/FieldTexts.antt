-- The stages of a field descriptor are right: reading ends with a kind exactly where the grammar has the text with it.
use Rattle.std.proofs.Common.{◌≡◌, ◌≢◌, ℕ, zero, suc, ◌+◌, ◌<◌, ◌≤◌, Bool, true, false, ltb, eqb, cond, List, [], ◌∷◌, ◌++◌, Option, Some, None, Result, Ok, Err, IfOk, codes, refl, sym, ap, subst, ◌∙◌, append_assoc, arith}
use Rattle.std.specs.List.{AllByRecursion}
use Rattle.std.proofs.lemmas.Bool.{eqb-true, eqb-false, ne_eqb, ltb-true, lt-ltb}
use Rattle.jf_bytes.proofs.Options.{map_parts}
use Rattle.const_pool.specs.declared.descriptor.Kind.{Kind}
use Rattle.const_pool.specs.declared.descriptor.Kind.TheVariants.{Int, Long, Ref, Byte, Bool as boolean, Char, Short, Float, Double}
use Rattle.const_pool.specs.declared.descriptor.DescriptorError.{DescriptorError}
use Rattle.const_pool.specs.declared.descriptor.DescriptorError.TheVariants.{BadDescriptor, NoMemory}
use Rattle.const_pool.specs.declared.stages.Front.{Front}
use Rattle.const_pool.specs.declared.stages.Front.TheVariants.{Dimensions, Class, Name}
use Rattle.const_pool.specs.declared.stages.FieldStage.{FieldStage}
use Rattle.const_pool.specs.declared.stages.FieldStage.TheVariants.{Within, Whole}
use Rattle.const_pool.specs.Descriptors.{IsName, IsBase, IsField, IsFieldText, dimensions_text, held_kind}
use Rattle.const_pool.specs.Fronts.{IsStuckAt}
use Rattle.const_pool.specs.Stages.{letter_kind, array_kind, front_step, field_step, field_end, field_answer, fault_told}
use Rattle.const_pool.proofs.Halts.{EndsWith, CanEnd, behind, behind_keeps, some, some_is, answer_found, answer_only, answer_stuck, told_ok, told_bad, told_memory}

-- either way that a test may have come out
pub chosen : {A P : Type 0} (b : Bool) (x y z : A) → cond b x y ≡ z → (b ≡ true → x ≡ z → P) → (b ≡ false → y ≡ z → P) → P
chosen true x y z e on_true on_false = on_true refl e
chosen false x y z e on_true on_false = on_false refl e

-- a test that came out true
pub passed : {A : Type 0} (b : Bool) (x y : A) → cond b (some x) None ≡ some y → (b ≡ true) × (x ≡ y)
passed true x y e = (refl, some_is x y e)
passed false x y e = absurd cc

-- a test that came out false
pub not_failed : {A : Type 0} (b : Bool) (o : Option A) (y : A) → cond b None o ≡ some y → (b ≡ false) × (o ≡ some y)
not_failed true o y e = absurd cc
not_failed false o y e = (refl, e)

abbrev pub field_behind : FieldStage → List ℕ → Option FieldStage
field_behind stage units = behind field_step field_end stage units

-- ---- what is in the grammar is read

not_semicolon : (unit : ℕ) → codes ";" ≢ unit ∷ [] → eqb unit 59 ≡ false
not_semicolon unit h = ne_eqb unit 59 (λ e. h (ap (λ (u : ℕ). u ∷ []) (sym e)))

dimensions_read : (n m : ℕ) (rest : List ℕ) → n + m ≤ 255 → field_behind (Within (Dimensions n)) (dimensions_text m ++ rest) ≡ field_behind (Within (Dimensions (n + m))) rest
dimensions_read n zero rest most = ap (λ (k : ℕ). field_behind (Within (Dimensions k)) rest) (omega arith)
dimensions_read n (suc m) rest most =
    let less : ltb n 255 ≡ true = lt-ltb n 255 (omega arith) in
    let more : (n + 1) + m ≡ n + suc m = omega arith in
    let others = dimensions_read (n + 1) m rest (omega (arith, most)) in
    rw less (others ∙ ap (λ (k : ℕ). field_behind (Within (Dimensions k)) rest) more)

name_read : (name : List ℕ) → AllByRecursion (λ unit. codes ";" ≢ unit ∷ []) name → field_behind (Within Name) (name ++ codes ";") ≡ Some (Whole Ref)
name_read [] plain = refl
name_read (unit ∷ name) plain = rw (not_semicolon unit plain.0) (name_read name plain.1)

class_read : (name : List ℕ) → IsName name → field_behind (Within Class) (name ++ codes ";") ≡ Some (Whole Ref)
class_read [] h = absurd (h.some refl)
class_read (unit ∷ name) h = rw (not_semicolon unit h.plain.0) (name_read name h.plain.1)

array_kind-Ref : (n : ℕ) → array_kind n Ref ≡ Ref
array_kind-Ref zero = refl
array_kind-Ref (suc n) = refl

base_read : (n : ℕ) (text : List ℕ) (kind : Kind) → IsBase text kind → field_behind (Within (Dimensions n)) text ≡ Some (Whole (array_kind n kind))
base_read n text Byte h = rw h refl
base_read n text Char h = rw h refl
base_read n text Double h = rw h refl
base_read n text Float h = rw h refl
base_read n text Int h = rw h refl
base_read n text Long h = rw h refl
base_read n text Short h = rw h refl
base_read n text boolean h = rw h refl
base_read n text Ref h = rw (h.2, array_kind-Ref n) (class_read h.0 h.1)

pub field_read : (text : List ℕ) (kind : Kind) → IsField text kind → field_behind (Within (Dimensions 0)) text ≡ Some (Whole kind)
field_read text kind h =
    let n = h.dimensions in
    let read : field_behind (Within (Dimensions 0)) (dimensions_text n ++ h.element) ≡ Some (Whole (array_kind (0 + n) h.element_kind)) = dimensions_read 0 n h.element (omega (arith, h.most)) ∙ base_read (0 + n) h.element h.element_kind h.base in
    let same : array_kind (0 + n) h.element_kind ≡ kind = ap (λ (k : ℕ). array_kind k h.element_kind) (omega arith) ∙ sym h.held in
    ap (field_behind (Within (Dimensions 0))) h.spelled ∙ read ∙ ap (λ (k : Kind). Some (Whole k)) same

pub field_complete : (text : List ℕ) (kind : Kind) → IsField text kind → EndsWith field_step field_end (Within (Dimensions 0)) text kind
field_complete text kind h = record { last = Whole kind; reached = field_read text kind h; ended = refl }

-- ---- what is read is in the grammar

-- the text before a front
abbrev pub IsFrontText : Front → List ℕ → Type 0
IsFrontText (Dimensions n) text = (n ≤ 255) × (text ≡ dimensions_text n)
IsFrontText Class text = (n : ℕ) × (n ≤ 255) × (text ≡ dimensions_text n ++ codes "L")
IsFrontText Name text = (n : ℕ) × (n ≤ 255) × (name : List ℕ) × IsName name × (text ≡ dimensions_text n ++ (codes "L" ++ name))

abbrev pub IsStageText : FieldStage → List ℕ → Type 0
IsStageText (Within front) text = IsFrontText front text
IsStageText (Whole kind) text = IsField text kind

dimensions_more : (n : ℕ) → dimensions_text n ++ codes "[" ≡ dimensions_text (suc n)
dimensions_more zero = refl
dimensions_more (suc n) = ap (λ (t : List ℕ). 91 ∷ t) (dimensions_more n)

by_letter : (unit letter : ℕ) (found kind : Kind) → IsBase (letter ∷ []) found → eqb unit letter ≡ true → some found ≡ some kind → IsBase (unit ∷ []) kind
by_letter unit letter found kind h same is = subst (λ (k : Kind). IsBase (unit ∷ []) k) (some_is found kind is) (subst (λ (u : ℕ). IsBase (u ∷ []) found) (sym (eqb-true unit letter same)) h)

letter_base : (unit : ℕ) (kind : Kind) → letter_kind unit ≡ Some kind → IsBase (unit ∷ []) kind
letter_base unit kind e =
    chosen _ _ _ _ e (λ same is. by_letter unit 66 Byte kind refl same is) (λ not e.
    chosen _ _ _ _ e (λ same is. by_letter unit 67 Char kind refl same is) (λ not e.
    chosen _ _ _ _ e (λ same is. by_letter unit 68 Double kind refl same is) (λ not e.
    chosen _ _ _ _ e (λ same is. by_letter unit 70 Float kind refl same is) (λ not e.
    chosen _ _ _ _ e (λ same is. by_letter unit 73 Int kind refl same is) (λ not e.
    chosen _ _ _ _ e (λ same is. by_letter unit 74 Long kind refl same is) (λ not e.
    chosen _ _ _ _ e (λ same is. by_letter unit 83 Short kind refl same is) (λ not e.
    chosen _ _ _ _ e (λ same is. by_letter unit 90 boolean kind refl same is) (λ not e. absurd cc))))))))

dimension_grows : (n : ℕ) (text : List ℕ) (unit : ℕ) → IsFrontText (Dimensions n) text → n < 255 → unit ≡ 91 → IsFrontText (Dimensions (n + 1)) (text ++ unit ∷ [])
dimension_grows n text unit h less is =
    let one : n + 1 ≡ suc n = omega arith in
    (omega (arith, less), rw (h.1, is, one) (dimensions_more n))

dimensions_grow : (n : ℕ) (text : List ℕ) (unit : ℕ) (stage : FieldStage) → IsFrontText (Dimensions n) text → front_step (Dimensions n) unit ≡ Some stage → IsStageText stage (text ++ unit ∷ [])
dimensions_grow n text unit stage h e =
    chosen _ _ _ _ e (λ same e.
    let less = passed _ _ _ e in
    let grown = dimension_grows n text unit h (ltb-true n 255 less.0) (eqb-true unit 91 same) in
    subst (λ (s : FieldStage). IsStageText s (text ++ unit ∷ [])) less.1 grown) (λ not e.
    chosen _ _ _ _ e
    (λ same is.
    let unit_is : unit ≡ 76 = eqb-true unit 76 same in
    let grown : IsFrontText Class (text ++ unit ∷ []) = (n, h.0, rw (h.1, unit_is) refl) in
    subst (λ (s : FieldStage). IsStageText s (text ++ unit ∷ [])) (some_is (Within Class) stage is) grown)
    (λ not e.
    let m = map_parts (λ (kind : Kind). Whole (array_kind n kind)) (letter_kind unit) stage e in
    let field : IsField (text ++ unit ∷ []) (array_kind n m.0) = record {
      dimensions = n;
      most = h.0;
      element = unit ∷ [];
      element_kind = m.0;
      base = letter_base unit m.0 m.1;
      spelled = ap (λ (t : List ℕ). t ++ unit ∷ []) h.1;
      held = refl;
    } in
    subst (λ (s : FieldStage). IsStageText s (text ++ unit ∷ [])) m.2 field))

semicolon_not : (unit : ℕ) → eqb unit 59 ≡ false → codes ";" ≢ unit ∷ []
semicolon_not unit h e = eqb-false unit 59 h cc

class_grows : (text : List ℕ) (unit : ℕ) (stage : FieldStage) → IsFrontText Class text → front_step Class unit ≡ Some stage → IsStageText stage (text ++ unit ∷ [])
class_grows text unit stage h e =
    let not = not_failed _ _ _ e in
    let name : IsName (unit ∷ []) = record { some = λ e. absurd cc; plain = (semicolon_not unit not.0, tt) } in
    let grown : IsFrontText Name (text ++ unit ∷ []) = (h.0, h.1, unit ∷ [], name, ap (λ (t : List ℕ). t ++ unit ∷ []) h.2 ∙ append_assoc (dimensions_text h.0) (codes "L") (unit ∷ [])) in
    subst (λ (s : FieldStage). IsStageText s (text ++ unit ∷ [])) (some_is (Within Name) stage not.1) grown

plain_more : (name : List ℕ) (unit : ℕ) → AllByRecursion (λ unit. codes ";" ≢ unit ∷ []) name → codes ";" ≢ unit ∷ [] → AllByRecursion (λ unit. codes ";" ≢ unit ∷ []) (name ++ unit ∷ [])
plain_more [] unit h last = (last, tt)
plain_more (first ∷ name) unit h last = (h.0, plain_more name unit h.1 last)

not_empty : (name : List ℕ) (unit : ℕ) → name ++ unit ∷ [] ≢ []
not_empty [] unit e = cc
not_empty (first ∷ name) unit e = cc

class_regroup : (n : ℕ) (text name : List ℕ) (unit : ℕ) → text ≡ dimensions_text n ++ (codes "L" ++ name) → text ++ unit ∷ [] ≡ dimensions_text n ++ (codes "L" ++ (name ++ unit ∷ []))
class_regroup n text name unit e = ap (λ (t : List ℕ). t ++ unit ∷ []) e ∙ append_assoc (dimensions_text n) (codes "L" ++ name) (unit ∷ [])

held_kind-Ref : (n : ℕ) → held_kind n Ref ≡ Ref
held_kind-Ref zero = refl
held_kind-Ref (suc n) = refl

name_grows : (text : List ℕ) (unit : ℕ) (stage : FieldStage) → IsFrontText Name text → front_step Name unit ≡ Some stage → IsStageText stage (text ++ unit ∷ [])
name_grows text unit stage h e =
    let spelled = class_regroup h.0 text h.2 unit h.4 in
    chosen _ _ _ _ (some_is _ stage e)
    (λ same is.
    let unit_is : unit ≡ 59 = eqb-true unit 59 same in
    let base : IsBase (codes "L" ++ (h.2 ++ unit ∷ [])) Ref = (h.2, h.3, ap (λ (u : ℕ). codes "L" ++ (h.2 ++ u ∷ [])) unit_is) in
    let field : IsField (text ++ unit ∷ []) Ref = record {
      dimensions = h.0;
      most = h.1;
      element = codes "L" ++ (h.2 ++ unit ∷ []);
      element_kind = Ref;
      base = base;
      spelled = spelled;
      held = sym (held_kind-Ref h.0);
    } in
    subst (λ (s : FieldStage). IsStageText s (text ++ unit ∷ [])) is field)
    (λ not is.
    let name : IsName (h.2 ++ unit ∷ []) = record { some = not_empty h.2 unit; plain = plain_more h.2 unit h.3.plain (semicolon_not unit not) } in
    let grown : IsFrontText Name (text ++ unit ∷ []) = (h.0, h.1, h.2 ++ unit ∷ [], name, spelled) in
    subst (λ (s : FieldStage). IsStageText s (text ++ unit ∷ [])) is grown)

pub front_grows : (front : Front) (text : List ℕ) (unit : ℕ) (stage : FieldStage) → IsFrontText front text → front_step front unit ≡ Some stage → IsStageText stage (text ++ unit ∷ [])
front_grows (Dimensions n) text unit stage h e = dimensions_grow n text unit stage h e
front_grows Class text unit stage h e = class_grows text unit stage h e
front_grows Name text unit stage h e = name_grows text unit stage h e

pub no_text : IsFrontText (Dimensions 0) []
no_text = (omega arith, refl)

field_grows : (stage next : FieldStage) (text : List ℕ) (unit : ℕ) → IsStageText stage text → field_step stage unit ≡ Some next → IsStageText next (text ++ unit ∷ [])
field_grows (Within front) next text unit h e = front_grows front text unit next h e
field_grows (Whole kind) next text unit h e = absurd cc

field_ended : (last : FieldStage) (text : List ℕ) (kind : Kind) → IsStageText last text → field_end last ≡ Some kind → IsField text kind
field_ended (Within front) text kind h e = absurd cc
field_ended (Whole found) text kind h e = subst (IsField text) (some_is found kind e) h

pub field_sound : (text : List ℕ) (kind : Kind) → EndsWith field_step field_end (Within (Dimensions 0)) text kind → IsField text kind
field_sound text kind h = field_ended h.last text kind (behind_keeps field_step field_end IsStageText field_grows (Within (Dimensions 0)) h.last [] text no_text h.reached) h.ended

-- ---- each stage can be ended

pub field_can_end : (stage : FieldStage) → CanEnd field_step field_end stage
field_can_end (Within (Dimensions n)) = record { more = codes "I"; fit = (omega arith, tt); answer = array_kind n Int; ends = record { last = Whole (array_kind n Int); reached = refl; ended = refl } }
field_can_end (Within Class) = record { more = codes "A;"; fit = (omega arith, (omega arith, tt)); answer = Ref; ends = record { last = Whole Ref; reached = refl; ended = refl } }
field_can_end (Within Name) = record { more = codes ";"; fit = (omega arith, tt); answer = Ref; ends = record { last = Whole Ref; reached = refl; ended = refl } }
field_can_end (Whole kind) = record { more = []; fit = tt; answer = kind; ends = record { last = Whole kind; reached = refl; ended = refl } }

-- ---- what the call tells

told_as : (text : List ℕ) (kind : Kind) → IsField text kind → field_answer text ≡ Ok kind
told_as = answer_only field_step field_end (Within (Dimensions 0)) IsField field_sound field_complete field_can_end

pub field_found : (text : List ℕ) (result : Result Kind DescriptorError) → result ≡ fault_told (field_answer text) → IfOk result (λ kind. IsField text kind)
field_found text (Ok kind) e = answer_found field_step field_end (Within (Dimensions 0)) IsField field_sound field_complete field_can_end text kind (told_ok (field_answer text) kind e)
field_found text (Err error) e = tt

pub field_only : (text : List ℕ) (result : Result Kind DescriptorError) (kind : Kind) → result ≡ fault_told (field_answer text) → IsField text kind → result ≡ Ok kind
field_only text result kind e h = e ∙ ap fault_told (told_as text kind h)

pub field_stuck : (text : List ℕ) (result : Result Kind DescriptorError) (at : ℕ) → result ≡ fault_told (field_answer text) → result ≡ Err (BadDescriptor at) → IsStuckAt IsFieldText text at
field_stuck text result at e is = answer_stuck field_step field_end (Within (Dimensions 0)) IsField field_sound field_complete field_can_end text at (told_bad (field_answer text) at (sym is ∙ e))

pub field_memory : (text : List ℕ) (result : Result Kind DescriptorError) → result ≡ fault_told (field_answer text) → result ≢ Err NoMemory
field_memory text result e is = told_memory (field_answer text) (sym is ∙ e)
