-- Bytes redefine a class, or one thing is told of them; and what was answered is that, or memory ran out.
use Rattle.std.proofs.Common.{◌≡◌, ◌≢◌, ◌⊎◌, inl, inr, ℕ, List, Option, Some, None, Result, Ok, Err, IfOk, IfErr, refl, sym, ap, subst, ◌∙◌}
use Rattle.std.proofs.lemmas.Option.{none-some, same_Some}
use Rattle.const_pool.specs.declared.class.ClassFile.{ClassFile}
use Rattle.const_pool.specs.ClassFile.{IsClassFile, Spells}
use Rattle.class_reader.specs.declared.error.ReadError.{ReadError}
use Rattle.class_reader.specs.declared.error.ReadError.TheVariants as read
use Rattle.class_reader.specs.Files.{IsImageFault}
use Rattle.class_reader.proofs.Files.{one_class, one_image_fault, no_image_fault}
use Rattle.class_shape.specs.declared.error.SwapError.{SwapError}
use Rattle.class_shape.specs.declared.error.SwapError.TheVariants.{Unreadable, NotSameShape, NoMemory}
use Rattle.class_shape.specs.ClassShapes.{HasSameShape, IsShapeFault}
use Rattle.class_shape.specs.Comparing.{number_of}
use Rattle.class_shape.specs.Reading.{IsAnswered, answer_by, refusal_of}
use Rattle.class_shape.specs.Reading.IsAnswered.{wants, takes, tells}
use Rattle.class_shape.specs.Swaps.{IsSwap, IsSwapFault, HasOtherShape, IsSomeImage}
use Rattle.class_shape.proofs.ImageShapes.{image-shape}
use Rattle.class_shape.proofs.ShapeLaws.{told-fault, none-same, same-number, fault-number}

module _ (original : ClassFile) (bytes : List ℕ) where
  -- ---- one of them alone

  pub one-swap : (a b : ClassFile) → IsSwap original bytes a → IsSwap original bytes b → a ≡ b
  one-swap a b one other = one_class bytes a b one.spelled other.spelled

  same-told : (a b : ℕ) → HasOtherShape original bytes a → HasOtherShape original bytes b → a ≡ b
  same-told a b one other =
      let same : other.image ≡ one.image = one_class bytes other.image one.image other.spelled one.spelled in
      same_Some a b
      (sym (fault-number original one.image a one.shape)
      ∙ fault-number original one.image b (subst (λ image. IsShapeFault original image b) same other.shape))

  pub one-swap_fault : (a b : SwapError) → IsSwapFault original bytes a → IsSwapFault original bytes b → a ≡ b
  one-swap_fault (Unreadable a) (Unreadable b) one other = ap Unreadable (one_image_fault bytes a b one.0 other.0)
  one-swap_fault (Unreadable a) (NotSameShape b) one other = absurd (no_image_fault bytes other.image a other.spelled one.0)
  one-swap_fault (NotSameShape a) (Unreadable b) one other = absurd (no_image_fault bytes one.image b one.spelled other.0)
  one-swap_fault (NotSameShape a) (NotSameShape b) one other = ap NotSameShape (same-told a b one other)
  one-swap_fault NoMemory b one other = absurd one
  one-swap_fault (Unreadable a) NoMemory one other = absurd other
  one-swap_fault (NotSameShape a) NoMemory one other = absurd other

  pub no-swap_fault : (image : ClassFile) (e : SwapError) → IsSwap original bytes image → IsSwapFault original bytes e → ⊥
  no-swap_fault image (Unreadable fault) swap is = no_image_fault bytes image fault swap.spelled is.0
  no-swap_fault image (NotSameShape told) swap is =
      let same : image ≡ is.image = one_class bytes image is.image swap.spelled is.spelled in
      none-some told
      (sym (same-number original is.image (subst (HasSameShape original) same swap.shape)) ∙ fault-number original is.image told is.shape)
  no-swap_fault image NoMemory swap is = is

  -- ---- what was answered

  pub of-image : (image : ClassFile) → Spells bytes image → IsAnswered original bytes (answer_by (number_of original image) image)
  of-image image spelled = by (number_of original image) refl
    where
      by : (o : Option ℕ) → number_of original image ≡ o → IsAnswered original bytes (answer_by o image)
      by (Some told) is = tells (NotSameShape told) (record { image = image; spelled = spelled; shape = told-fault original image told is })
      by None is = takes image (record { spelled = spelled; shape = none-same original image is })

  pub of-fault : (fault : ReadError) → (fault ≢ read.NoMemory → IsImageFault bytes fault) → IsAnswered original bytes (Err (refusal_of fault))
  of-fault read.NoMemory is = wants
  of-fault read.TooLong is = tells (Unreadable read.TooLong) (is (λ e. cc), λ e. cc)
  of-fault (read.Truncated at) is = tells (Unreadable (read.Truncated at)) (is (λ e. cc), λ e. cc)
  of-fault read.BadMagic is = tells (Unreadable read.BadMagic) (is (λ e. cc), λ e. cc)
  of-fault (read.BadVersion n) is = tells (Unreadable (read.BadVersion n)) (is (λ e. cc), λ e. cc)
  of-fault (read.BadTag at) is = tells (Unreadable (read.BadTag at)) (is (λ e. cc), λ e. cc)
  of-fault (read.BadUtf8 at) is = tells (Unreadable (read.BadUtf8 at)) (is (λ e. cc), λ e. cc)
  of-fault (read.BadIndex i) is = tells (Unreadable (read.BadIndex i)) (is (λ e. cc), λ e. cc)
  of-fault (read.BadRef at) is = tells (Unreadable (read.BadRef at)) (is (λ e. cc), λ e. cc)
  of-fault (read.BadLength at) is = tells (Unreadable (read.BadLength at)) (is (λ e. cc), λ e. cc)
  of-fault (read.Trailing at) is = tells (Unreadable (read.Trailing at)) (is (λ e. cc), λ e. cc)

  pub found : (r : Result ClassFile SwapError) → IsAnswered original bytes r → IfOk r (IsSwap original bytes)
  found _ wants = tt
  found _ (takes image swap) = swap
  found _ (tells e is) = tt

  pub refused : (r : Result ClassFile SwapError) → IsAnswered original bytes r → IfErr r (λ e. e ≢ NoMemory → IsSwapFault original bytes e)
  refused _ wants = λ other. absurd (other refl)
  refused _ (takes image swap) = tt
  refused _ (tells e is) = λ other. is

  pub only : (r : Result ClassFile SwapError) (image : ClassFile) → IsAnswered original bytes r → IsSwap original bytes image → (r ≡ Ok image) ⊎ (r ≡ Err NoMemory)
  only _ image wants swap = inr refl
  only _ image (takes other is) swap = inl (ap (λ c. Ok c) (one-swap other image is swap))
  only _ image (tells e is) swap = absurd (no-swap_fault image e swap is)

  pub first : (r : Result ClassFile SwapError) (refusal : SwapError) → IsAnswered original bytes r → IsSwapFault original bytes refusal → (r ≡ Err refusal) ⊎ (r ≡ Err NoMemory)
  first _ refusal wants fault = inr refl
  first _ refusal (takes image swap) fault = absurd (no-swap_fault image refusal swap fault)
  first _ refusal (tells e is) fault = inl (ap (λ c. Err c) (one-swap_fault e refusal is fault))

  pub taken : (r : Result ClassFile SwapError) (image : ClassFile) → IsAnswered original bytes r → IsClassFile original → Spells bytes image → IsSomeImage original image
      → (r ≡ Ok image) ⊎ (r ≡ Err NoMemory)
  taken r image answered formed spelled is = only r image answered (record { spelled = spelled; shape = image-shape original image formed is })
