-- The stages of a method descriptor are right: reading ends with a shape exactly where the grammar has the text with
-- it.
use Rattle.std.proofs.Common.{◌≡◌, ℕ, ◌+◌, ◌-◌, ◌^◌, ◌<◌, ◌≤◌, false, ltb, eqb, List, [], ◌∷◌, ◌++◌, Option, Some, None, Result, Ok, Err, IfOk, codes, refl, sym, ap, subst, ◌∙◌, append_assoc, arith}
use Rattle.std.specs.List.{AllByRecursion}
use Rattle.std.proofs.lemmas.Bool.{eqb-true, ne_eqb, le-ltb, ltb-false}
use Rattle.std.proofs.lemmas.List.{append-nil}
use Rattle.std.proofs.lemmas.List.Sums.{sum_by-append, sum_by-cons}
use Rattle.jf_bytes.proofs.Options.{map_parts, and_then_parts}
use Rattle.const_pool.specs.declared.descriptor.Kind.{Kind}
use Rattle.const_pool.specs.declared.descriptor.Kind.TheVariants.{Int, Ref}
use Rattle.const_pool.specs.declared.descriptor.Shape.{Shape}
use Rattle.const_pool.specs.declared.descriptor.DescriptorError.{DescriptorError}
use Rattle.const_pool.specs.declared.descriptor.DescriptorError.TheVariants.{BadDescriptor, NoMemory}
use Rattle.const_pool.specs.declared.stages.Front.{Front}
use Rattle.const_pool.specs.declared.stages.Front.TheVariants.{Dimensions, Class, Name}
use Rattle.const_pool.specs.declared.stages.FieldStage.{FieldStage}
use Rattle.const_pool.specs.declared.stages.FieldStage.TheVariants.{Within, Whole}
use Rattle.const_pool.specs.declared.stages.Stage.{Stage}
use Rattle.const_pool.specs.declared.stages.Stage.TheVariants as stages
use Rattle.const_pool.specs.declared.stages.Step.{Step}
use Rattle.const_pool.specs.Descriptors.{IsField, AreFields, IsResult, IsMethod, IsMethodText, IsReadAs, slots, slot_count}
use Rattle.const_pool.specs.Fronts.{IsStuckAt}
use Rattle.const_pool.specs.Stages.{Reading, front_step, first_slots, to_stage, within_param, within_result, method_step, with_step, reading_step, reading_end, stage_end, array_kind, method_answer, Answers}
use Rattle.const_pool.proofs.Halts.{EndsWith, CanEnd, behind, behind_keeps, some_is, answer_found, answer_only, answer_stuck}
use Rattle.const_pool.proofs.FieldTexts.{chosen, passed, not_failed, field_behind, field_read, IsFrontText, IsStageText, front_grows, no_text}
use Rattle.const_pool.proofs.ParamSlots.{IsInside, HasSlots, first_unit, next_unit, slots_read}

abbrev pub reading_at : Stage → List Kind → Reading
reading_at s params = record { stage = s; params = params }

abbrev pub method_behind : Reading → List ℕ → Option Reading
method_behind reading units = behind reading_step reading_end reading units

-- ---- what is in the grammar is read

param_rest : (room : ℕ) (params : List Kind) (stage : FieldStage) (text rest : List ℕ) (kind : Kind) → field_behind stage text ≡ Some (Whole kind)
    → method_behind (with_step params (within_param room stage)) (text ++ rest) ≡ method_behind (reading_at (stages.Params room) (params ++ kind ∷ [])) rest
param_rest room params (Within front) [] rest kind e = absurd cc
param_rest room params (Within front) (unit ∷ text) rest kind e =
    let next = and_then_parts (λ s. field_behind s text) (front_step front unit) (Whole kind) e in
    rw (append-nil params, next.1) (param_rest room params next.0 text rest kind next.2)
param_rest room params (Whole found) [] rest kind e = let same : found ≡ kind = cc in ap (λ (k : Kind). method_behind (reading_at (stages.Params room) (params ++ k ∷ [])) rest) same
param_rest room params (Whole found) (unit ∷ text) rest kind e = absurd cc

not_close : (unit : ℕ) (stage : FieldStage) → front_step (Dimensions 0) unit ≡ Some stage → eqb unit 41 ≡ false
not_close unit stage e = ne_eqb unit 41 (λ is. absurd (let none : front_step (Dimensions 0) 41 ≡ Some stage = ap (front_step (Dimensions 0)) (sym is) ∙ e in cc))

not_void : (unit : ℕ) (stage : FieldStage) → front_step (Dimensions 0) unit ≡ Some stage → eqb unit 86 ≡ false
not_void unit stage e = ne_eqb unit 86 (λ is. absurd (let none : front_step (Dimensions 0) 86 ≡ Some stage = ap (front_step (Dimensions 0)) (sym is) ∙ e in cc))

param_read : (room : ℕ) (params : List Kind) (text rest : List ℕ) (kind : Kind) → field_behind (Within (Dimensions 0)) text ≡ Some (Whole kind) → slots kind ≤ room
    → method_behind (reading_at (stages.Params room) params) (text ++ rest) ≡ method_behind (reading_at (stages.Params (room - slots kind)) (params ++ kind ∷ [])) rest
param_read room params [] rest kind e fits = absurd cc
param_read room params (unit ∷ text) rest kind e fits =
    let next = and_then_parts (λ s. field_behind s text) (front_step (Dimensions 0) unit) (Whole kind) e in
    let count : slots kind ≡ first_slots unit = slots_read (first_slots unit) next.0 text kind (first_unit unit next.0 next.1) next.2 in
    let room_is : ltb room (first_slots unit) ≡ false = le-ltb room (first_slots unit) (subst (λ (n : ℕ). n ≤ room) count fits) in
    let others = param_rest (room - first_slots unit) params next.0 text rest kind next.2 in
    rw (not_close unit next.0 next.1, room_is, next.1, count) others

params_read : (room : ℕ) (params kinds : List Kind) (text rest : List ℕ) → AreFields text kinds → slot_count kinds ≤ room
    → method_behind (reading_at (stages.Params room) params) (text ++ rest) ≡ method_behind (reading_at (stages.Params (room - slot_count kinds)) (params ++ kinds)) rest
params_read room params [] text rest h fits =
    let left : room - slot_count [] ≡ room = omega arith in
    rw (left, h, append-nil params) refl
params_read room params (kind ∷ kinds) text rest h fits =
    let count : slot_count (kind ∷ kinds) ≡ slots kind + slot_count kinds = sum_by-cons slots kind kinds in
    let first = param_read room params h.0 (h.1 ++ rest) kind (field_read h.0 kind h.2) (omega (arith, fits, count)) in
    let others = params_read (room - slots kind) (params ++ kind ∷ []) kinds h.1 rest h.3 (omega (arith, fits, count)) in
    let left : (room - slots kind) - slot_count kinds ≡ room - slot_count (kind ∷ kinds) = omega (arith, count) in
    let parts : text ++ rest ≡ h.0 ++ (h.1 ++ rest) = ap (λ (t : List ℕ). t ++ rest) h.4 ∙ append_assoc h.0 h.1 rest in
    let same : method_behind (reading_at (stages.Params ((room - slots kind) - slot_count kinds)) ((params ++ kind ∷ []) ++ kinds)) rest ≡ method_behind (reading_at (stages.Params (room - slot_count (kind ∷ kinds))) (params ++ kind ∷ kinds)) rest =
    rw (left, append_assoc params (kind ∷ []) kinds) refl in
    ap (method_behind (reading_at (stages.Params room) params)) parts ∙ first ∙ others ∙ same

result_rest : (params : List Kind) (stage : FieldStage) (text : List ℕ) (kind : Kind) → field_behind stage text ≡ Some (Whole kind)
    → method_behind (with_step params (within_result stage)) text ≡ Some (reading_at (stages.Whole (Some kind)) params)
result_rest params (Within front) [] kind e = absurd cc
result_rest params (Within front) (unit ∷ text) kind e =
    let next = and_then_parts (λ s. field_behind s text) (front_step front unit) (Whole kind) e in
    rw (append-nil params, next.1) (result_rest params next.0 text kind next.2)
result_rest params (Whole found) [] kind e = let same : found ≡ kind = cc in rw (append-nil params, same) refl
result_rest params (Whole found) (unit ∷ text) kind e = absurd cc

field_result_read : (params : List Kind) (text : List ℕ) (kind : Kind) → field_behind (Within (Dimensions 0)) text ≡ Some (Whole kind)
    → method_behind (reading_at stages.Result params) text ≡ Some (reading_at (stages.Whole (Some kind)) params)
field_result_read params [] kind e = absurd cc
field_result_read params (unit ∷ text) kind e =
    let next = and_then_parts (λ s. field_behind s text) (front_step (Dimensions 0) unit) (Whole kind) e in
    rw (not_void unit next.0 next.1, next.1) (result_rest params next.0 text kind next.2)

result_read : (params : List Kind) (text : List ℕ) (result : Option Kind) → IsResult text result → method_behind (reading_at stages.Result params) text ≡ Some (reading_at (stages.Whole result) params)
result_read params text None h = rw (h, append-nil params) refl
result_read params text (Some kind) h = field_result_read params text kind (field_read text kind h)

pub method_complete : (text : List ℕ) (shape : Shape) → IsMethod text shape → EndsWith reading_step reading_end (reading_at stages.Open []) text shape
method_complete text shape h =
    let kinds = shape.params in
    let open_read : method_behind (reading_at stages.Open []) (codes "(" ++ (h.params ++ (codes ")" ++ h.result))) ≡ method_behind (reading_at (stages.Params 255) []) (h.params ++ (codes ")" ++ h.result)) = refl in
    let read = params_read 255 [] kinds h.params (codes ")" ++ h.result) h.fields h.most in
    let close : method_behind (reading_at (stages.Params (255 - slot_count kinds)) kinds) (codes ")" ++ h.result) ≡ method_behind (reading_at stages.Result kinds) h.result = ap (λ (ks : List Kind). method_behind (reading_at stages.Result ks) h.result) (append-nil kinds) in
    let whole = result_read kinds h.result shape.result h.returned in
    record { last = reading_at (stages.Whole shape.result) kinds; reached = ap (method_behind (reading_at stages.Open [])) h.spelled ∙ open_read ∙ read ∙ close ∙ whole; ended = refl }

-- ---- what is read is in the grammar

-- the text before a stage, with its parameters
abbrev pub IsMethodStage : Stage → List Kind → List ℕ → Type 0
IsMethodStage stages.Open params text = (text ≡ []) × (params ≡ [])
IsMethodStage (stages.Params room) params text = (fields : List ℕ) × AreFields fields params × (slot_count params + room ≡ 255) × (text ≡ codes "(" ++ fields)
IsMethodStage (stages.Param room front) params text =
    (fields partial : List ℕ) × AreFields fields params × (slot_count params + 1 + room ≡ 255) × IsFrontText front partial × IsInside front × (text ≡ codes "(" ++ (fields ++ partial))
IsMethodStage stages.Result params text = (fields : List ℕ) × AreFields fields params × (slot_count params ≤ 255) × (text ≡ codes "(" ++ (fields ++ codes ")"))
IsMethodStage (stages.Returned front) params text =
    (fields partial : List ℕ) × AreFields fields params × (slot_count params ≤ 255) × IsFrontText front partial × (text ≡ codes "(" ++ (fields ++ (codes ")" ++ partial)))
IsMethodStage (stages.Whole result) params text = IsMethod text (record { params = params; result = result })

abbrev pub IsReadingText : Reading → List ℕ → Type 0
IsReadingText reading text = IsMethodStage reading.stage reading.params text

-- a step from stages with these parameters leads to what the text is
abbrev Leads : List Kind → Step → List ℕ → Type 0
Leads params step text = IsReadingText (with_step params step) text

same_params : (fields : List ℕ) (params : List Kind) → AreFields fields params → AreFields fields (params ++ [])
same_params fields params h = subst (AreFields fields) (sym (append-nil params)) h

AreFields-more : (params : List Kind) (fields text : List ℕ) (kind : Kind) → AreFields fields params → IsField text kind → AreFields (fields ++ text) (params ++ kind ∷ [])
AreFields-more [] fields text kind h field = (text, [], field, refl, ap (λ (t : List ℕ). t ++ text) h ∙ sym (append-nil text))
AreFields-more (first ∷ params) fields text kind h field =
    (h.0, h.1 ++ text, h.2, AreFields-more params h.1 text kind h.3 field, ap (λ (t : List ℕ). t ++ text) h.4 ∙ append_assoc h.0 h.1 text)

slots_more : (params : List Kind) (kind : Kind) → slot_count (params ++ kind ∷ []) ≡ slot_count params + slots kind
slots_more params kind = sum_by-append slots params (kind ∷ []) ∙ ap (λ (n : ℕ). slot_count params + n) (sum_by-cons slots kind [] ∙ omega arith)

same_count : (params : List Kind) → slot_count (params ++ []) ≡ slot_count params
same_count params = ap slot_count (append-nil params)

param_leads : (count room : ℕ) (params : List Kind) (stage : FieldStage) (fields partial : List ℕ) → AreFields fields params → slot_count params + count + room ≡ 255
    → IsStageText stage partial → HasSlots count stage → Leads params (within_param room stage) (codes "(" ++ (fields ++ partial))
param_leads count room params (Within front) fields partial h most text inside =
    (fields, partial, same_params fields params h, omega (arith, most, same_count params, inside.1), text, inside.0, refl)
param_leads count room params (Whole kind) fields partial h most text taken =
    (fields ++ partial, AreFields-more params fields partial kind h text, omega (arith, most, slots_more params kind, taken), refl)

result_leads : (params : List Kind) (stage : FieldStage) (fields partial : List ℕ) → AreFields fields params → slot_count params ≤ 255
    → IsStageText stage partial → Leads params (within_result stage) (codes "(" ++ (fields ++ (codes ")" ++ partial)))
result_leads params (Within front) fields partial h most text = (fields, partial, same_params fields params h, omega (arith, most, same_count params), text, refl)
result_leads params (Whole kind) fields partial h most text = record {
  params = fields;
  result = partial;
  fields = same_params fields params h;
  most = omega (arith, most, same_count params);
  returned = text;
  spelled = refl;
}

abbrev NextLeads : Stage → Type 0
NextLeads s = (params : List Kind) (text : List ℕ) (unit : ℕ) (step : Step) → IsMethodStage s params text → method_step s unit ≡ Some step → Leads params step (text ++ unit ∷ [])

open_leads : NextLeads stages.Open
open_leads params text unit step h e =
    let first = passed _ _ _ e in
    let next : Leads params (to_stage (stages.Params 255)) (text ++ unit ∷ []) = rw (h.0, h.1, eqb-true unit 40 first.0) ([], refl, refl, refl) in
    subst (λ (s : Step). Leads params s (text ++ unit ∷ [])) first.1 next

-- a unit behind ( and what follows it
regroup : (text fields partial : List ℕ) (unit : ℕ) → text ≡ codes "(" ++ (fields ++ partial) → text ++ unit ∷ [] ≡ codes "(" ++ (fields ++ (partial ++ unit ∷ []))
regroup text fields partial unit e = ap (λ (t : List ℕ). t ++ unit ∷ []) e ∙ ap (λ (t : List ℕ). codes "(" ++ t) (append_assoc fields partial (unit ∷ []))

params_lead : (room : ℕ) → NextLeads (stages.Params room)
params_lead room params text unit step h e =
    let whole : text ≡ codes "(" ++ (h.0 ++ []) = h.3 ∙ ap (λ (t : List ℕ). codes "(" ++ t) (sym (append-nil h.0)) in
    let more = regroup text h.0 [] unit whole in
    chosen _ _ _ _ e
    (λ same is.
    let unit_is : unit ≡ 41 = eqb-true unit 41 same in
    let closed : text ++ unit ∷ [] ≡ codes "(" ++ (h.0 ++ codes ")") = more ∙ ap (λ (u : ℕ). codes "(" ++ (h.0 ++ u ∷ [])) unit_is in
    let next : Leads params (to_stage stages.Result) (text ++ unit ∷ []) = (h.0, same_params h.0 params h.1, omega (arith, h.2, same_count params), closed) in
    subst (λ (s : Step). Leads params s (text ++ unit ∷ [])) (some_is _ step is) next)
    (λ not e.
    let fits = not_failed _ _ _ e in
    let m = map_parts (within_param (room - first_slots unit)) (front_step (Dimensions 0) unit) step fits.1 in
    let grown = front_grows (Dimensions 0) [] unit m.0 no_text m.1 in
    let room_is : first_slots unit ≤ room = ltb-false room (first_slots unit) fits.0 in
    let count : slot_count params + first_slots unit + (room - first_slots unit) ≡ 255 = omega (arith, h.2, room_is) in
    let next = param_leads (first_slots unit) (room - first_slots unit) params m.0 h.0 (unit ∷ []) h.1 count grown (first_unit unit m.0 m.1) in
    subst (λ (s : Step). Leads params s (text ++ unit ∷ [])) m.2 (subst (Leads params (within_param (room - first_slots unit) m.0)) (sym more) next))

param_lead : (room : ℕ) (front : Front) → NextLeads (stages.Param room front)
param_lead room front params text unit step h e =
    let m = map_parts (within_param room) (front_step front unit) step e in
    let grown = front_grows front h.1 unit m.0 h.4 m.1 in
    let next = param_leads 1 room params m.0 h.0 (h.1 ++ unit ∷ []) h.2 h.3 grown (next_unit front unit m.0 h.5 m.1) in
    subst (λ (s : Step). Leads params s (text ++ unit ∷ [])) m.2 (subst (Leads params (within_param room m.0)) (sym (regroup text h.0 h.1 unit h.6)) next)

result_lead : NextLeads stages.Result
result_lead params text unit step h e =
    let more = regroup text h.0 (codes ")") unit h.3 in
    chosen _ _ _ _ e
    (λ same is.
    let unit_is : unit ≡ 86 = eqb-true unit 86 same in
    let next : Leads params (to_stage (stages.Whole None)) (text ++ unit ∷ []) = record {
      params = h.0;
      result = unit ∷ [];
      fields = same_params h.0 params h.1;
      most = omega (arith, h.2, same_count params);
      returned = ap (λ (u : ℕ). u ∷ []) unit_is;
      spelled = more;
    } in
    subst (λ (s : Step). Leads params s (text ++ unit ∷ [])) (some_is _ step is) next)
    (λ not e.
    let m = map_parts within_result (front_step (Dimensions 0) unit) step e in
    let grown = front_grows (Dimensions 0) [] unit m.0 no_text m.1 in
    let next = result_leads params m.0 h.0 (unit ∷ []) h.1 h.2 grown in
    subst (λ (s : Step). Leads params s (text ++ unit ∷ [])) m.2 (subst (Leads params (within_result m.0)) (sym more) next))

returned_leads : (front : Front) → NextLeads (stages.Returned front)
returned_leads front params text unit step h e =
    let m = map_parts within_result (front_step front unit) step e in
    let grown = front_grows front h.1 unit m.0 h.4 m.1 in
    let next = result_leads params m.0 h.0 (h.1 ++ unit ∷ []) h.2 h.3 grown in
    subst (λ (s : Step). Leads params s (text ++ unit ∷ [])) m.2 (subst (Leads params (within_result m.0)) (sym (regroup text h.0 (codes ")" ++ h.1) unit h.5)) next)

stage_leads : (s : Stage) → NextLeads s
stage_leads stages.Open params text unit step h e = open_leads params text unit step h e
stage_leads (stages.Params room) params text unit step h e = params_lead room params text unit step h e
stage_leads (stages.Param room front) params text unit step h e = param_lead room front params text unit step h e
stage_leads stages.Result params text unit step h e = result_lead params text unit step h e
stage_leads (stages.Returned front) params text unit step h e = returned_leads front params text unit step h e
stage_leads (stages.Whole result) params text unit step h e = absurd cc

reading_grows : (reading next : Reading) (text : List ℕ) (unit : ℕ) → IsReadingText reading text → reading_step reading unit ≡ Some next → IsReadingText next (text ++ unit ∷ [])
reading_grows reading next text unit h e =
    let m = map_parts (with_step reading.params) (method_step reading.stage unit) next e in
    subst (λ (r : Reading). IsReadingText r (text ++ unit ∷ [])) m.2 (stage_leads reading.stage reading.params text unit m.0 h m.1)

stage_ended : (s : Stage) (params : List Kind) (text : List ℕ) (shape : Shape) → IsMethodStage s params text → stage_end s params ≡ Some shape → IsMethod text shape
stage_ended (stages.Whole result) params text shape h e = subst (IsMethod text) (some_is _ shape e) h
stage_ended _ params text shape h e = absurd cc

pub method_sound : (text : List ℕ) (shape : Shape) → EndsWith reading_step reading_end (reading_at stages.Open []) text shape → IsMethod text shape
method_sound text shape h =
    let start : IsReadingText (reading_at stages.Open []) [] = (refl, refl) in
    stage_ended h.last.stage h.last.params text shape (behind_keeps reading_step reading_end IsReadingText reading_grows (reading_at stages.Open []) h.last [] text start h.reached) h.ended

-- ---- each stage can be ended

abbrev CanEndAt : Stage → List Kind → Type 0
CanEndAt s params = CanEnd reading_step reading_end (reading_at s params)

-- with this result, and with parameters that more units may have brought
can_end_with : (s : Stage) (params kinds : List Kind) (result : Option Kind) (more : List ℕ) → AllByRecursion (λ unit. unit < 2 ^ 16) more
    → method_behind (reading_at s params) more ≡ Some (reading_at (stages.Whole result) kinds) → CanEndAt s params
can_end_with s params kinds result more fit reached = record {
  more = more;
  fit = fit;
  answer = record { params = kinds; result = result };
  ends = record { last = reading_at (stages.Whole result) kinds; reached = reached; ended = refl };
}

param_can_end : (room : ℕ) (params : List Kind) (front : Front) → CanEndAt (stages.Param room front) params
param_can_end room params (Dimensions n) = can_end_with (stages.Param room (Dimensions n)) params (((params ++ array_kind n Int ∷ []) ++ []) ++ []) None (codes "I)V") (omega arith, (omega arith, (omega arith, tt))) refl
param_can_end room params Class = can_end_with (stages.Param room Class) params ((((params ++ []) ++ Ref ∷ []) ++ []) ++ []) None (codes "A;)V") (omega arith, (omega arith, (omega arith, (omega arith, tt)))) refl
param_can_end room params Name = can_end_with (stages.Param room Name) params (((params ++ Ref ∷ []) ++ []) ++ []) None (codes ";)V") (omega arith, (omega arith, (omega arith, tt))) refl

result_can_end : (params : List Kind) (front : Front) → CanEndAt (stages.Returned front) params
result_can_end params (Dimensions n) = can_end_with (stages.Returned (Dimensions n)) params (params ++ []) (Some (array_kind n Int)) (codes "I") (omega arith, tt) refl
result_can_end params Class = can_end_with (stages.Returned Class) params ((params ++ []) ++ []) (Some Ref) (codes "A;") (omega arith, (omega arith, tt)) refl
result_can_end params Name = can_end_with (stages.Returned Name) params (params ++ []) (Some Ref) (codes ";") (omega arith, tt) refl

stage_can_end : (s : Stage) (params : List Kind) → CanEndAt s params
stage_can_end stages.Open params = can_end_with stages.Open params (((params ++ []) ++ []) ++ []) None (codes "()V") (omega arith, (omega arith, (omega arith, tt))) refl
stage_can_end (stages.Params room) params = can_end_with (stages.Params room) params ((params ++ []) ++ []) None (codes ")V") (omega arith, (omega arith, tt)) refl
stage_can_end (stages.Param room front) params = param_can_end room params front
stage_can_end stages.Result params = can_end_with stages.Result params (params ++ []) None (codes "V") (omega arith, tt) refl
stage_can_end (stages.Returned front) params = result_can_end params front
stage_can_end (stages.Whole result) params = can_end_with (stages.Whole result) params params result [] tt refl

pub method_can_end : (reading : Reading) → CanEnd reading_step reading_end reading
method_can_end reading = stage_can_end reading.stage reading.params

-- ---- what the call tells

method_told : (text : List ℕ) (shape : Shape) → IsMethod text shape → method_answer text ≡ Ok shape
method_told text shape h = answer_only reading_step reading_end (reading_at stages.Open []) IsMethod method_sound method_complete method_can_end text shape h

pub method_found : (text : List ℕ) (result : Result Shape DescriptorError) → Answers result (method_answer text) → IfOk result (λ shape. IsMethod text shape)
method_found text (Ok shape) e = answer_found reading_step reading_end (reading_at stages.Open []) IsMethod method_sound method_complete method_can_end text shape e
method_found text (Err error) e = tt

pub method_only : (text : List ℕ) (result : Result Shape DescriptorError) (shape : Shape) → Answers result (method_answer text) → IsMethod text shape → IsReadAs result shape
method_only text (Ok read) shape e h = let told = method_told text shape h in cc
method_only text (Err (BadDescriptor at)) shape e h = let told = method_told text shape h in absurd cc
method_only text (Err NoMemory) shape e h = tt

pub method_stuck : (text : List ℕ) (result : Result Shape DescriptorError) (at : ℕ) → Answers result (method_answer text) → result ≡ Err (BadDescriptor at) → IsStuckAt IsMethodText text at
method_stuck text result at e is = answer_stuck reading_step reading_end (reading_at stages.Open []) IsMethod method_sound method_complete method_can_end text at (subst (λ (r : Result Shape DescriptorError). Answers r (method_answer text)) is e)
