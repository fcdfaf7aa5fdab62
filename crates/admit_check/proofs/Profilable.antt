-- A class without a fault can be rewritten.
use Rattle.std.proofs.Common.{◌≡◌, ℕ, [], ◌∷◌, Option, Some, None, refl}
use Rattle.std.specs.Option.{option_map, option_or}
use Rattle.const_pool.specs.declared.class.ClassFile.{ClassFile}
use Rattle.inject_events.specs.Answers.{IsProfilable}
use Rattle.inject_events.specs.Rewriting.{Refused, refused_of, all_plain}
use Rattle.inject_events.proofs.Rooms.{neither}
use Rattle.code_admission.specs.declared.error.AdmitError.{AdmitError}
use Rattle.code_admission.specs.Checks.{first_of}
use Rattle.code_admission.specs.Codes.{codes_fault}
use Rattle.code_admission.specs.Floating.{floating_fault}
use Rattle.admit_check.specs.Shapes.{shape_fault}
use Rattle.admit_check.specs.Profiling.{profiling_fault, refusal_told}

none-told : (k : ℕ) (refused : Option Refused) → option_map (refusal_told k) refused ≡ None → refused ≡ None
none-told k None none = refl
none-told k (Some refused) none = absurd cc

pub profilable-none : (k : ℕ) (c : ClassFile) → profiling_fault k c ≡ None → IsProfilable c
profilable-none k c none = none-told k (refused_of c 0 (all_plain c)) none

-- ---- classes without a fault

pub profilable-class : (named : Option AdmitError) (k : ℕ) (c : ClassFile) → first_of (named ∷ shape_fault k c ∷ codes_fault k c ∷ floating_fault k c ∷ profiling_fault k c ∷ []) ≡ None → IsProfilable c
profilable-class named k c fine =
    let behind_floats : Option AdmitError = option_or (profiling_fault k c) None in
    let behind_codes : Option AdmitError = option_or (floating_fault k c) behind_floats in
    let behind_shape : Option AdmitError = option_or (codes_fault k c) behind_codes in
    let behind_name : Option AdmitError = option_or (shape_fault k c) behind_shape in
    let a = neither named behind_name fine in
    let b = neither (shape_fault k c) behind_shape a.1 in
    let d = neither (codes_fault k c) behind_codes b.1 in
    let e = neither (floating_fault k c) behind_floats d.1 in
    profilable-none k c (neither (profiling_fault k c) None e.1).0
