-- The method that a word names, by what is read of its descriptor.
use Rattle.std.proofs.Common.{◌≡◌, ℕ, List, Option, Some, None, inl, inr, refl, ap, sym, ◌∙◌}
use Rattle.std.specs.Prelude.{Result, Ok, Err, IfOk}
use Rattle.std.specs.Option.{option_and_then, option_map}
use Rattle.jf_bytes.specs.Unicode.{utf16_of}
use Rattle.const_pool.specs.declared.descriptor.Shape.{Shape}
use Rattle.plan_text.specs.declared.plan.RootName.{RootName}
use Rattle.plan_text.specs.Roots.{IsNoRoot, IsRoot, root_in}
use Rattle.jvm_model.specs.declared.program.Program.{Program}
use Rattle.jvm_model.specs.Basis.Descriptors.{shape_of}
use Rattle.jvm_model.proofs.Running.Shapes.{method_read, method_sound}
use Rattle.played_rows.specs.Machine.Names.{IsMethodOf, method_called, method_of_root, root_called}

root-read : (word : List ℕ) (root : RootName) → IsRoot word root → root_called word ≡ Some root
root-read word root is =
    ap (option_and_then (λ (r : RootName). option_map (λ (shape : Shape). r) (shape_of r.descriptor))) is.parts
    ∙ ap (option_map (λ (shape : Shape). root)) (method_read root.descriptor is.described.0 is.described.1)

no-root : (word : List ℕ) → IsNoRoot word → root_called word ≡ None
no-root word none = by (root_in (utf16_of word)) refl
  where
    by_shape : (root : RootName) → root_in (utf16_of word) ≡ Some root → (o : Option Shape) → shape_of root.descriptor ≡ o
        → option_map (λ (shape : Shape). root) o ≡ None
    by_shape root parts None e = refl
    by_shape root parts (Some shape) e =
        absurd (none root (record { parts = parts; described = (shape, method_sound root.descriptor shape e) }))

    by : (o : Option RootName) → root_in (utf16_of word) ≡ o
        → option_and_then (λ (r : RootName). option_map (λ (shape : Shape). r) (shape_of r.descriptor)) o ≡ None
    by None e = refl
    by (Some root) e = by_shape root e (shape_of root.descriptor) refl

method-called : (p : Program) (word : List ℕ) (found : Option ℕ) → IsMethodOf p word found → found ≡ method_called p word
method-called p word found (inl (root, is, e)) = e ∙ sym (ap (option_and_then (method_of_root p)) (root-read word root is))
method-called p word found (inr (none, e)) = e ∙ sym (ap (option_and_then (method_of_root p)) (no-root word none))

pub all-called : {E : Type 0} (p : Program) (word : List ℕ) (r : Result (Option ℕ) E) → IfOk r (IsMethodOf p word)
    → IfOk r (λ found. found ≡ method_called p word)
all-called p word (Ok found) is = method-called p word found is
all-called p word (Err e) is = tt
