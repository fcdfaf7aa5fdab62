-- What was put is the image that the words ask for.
use Rattle.std.proofs.Common.{◌≡◌, ℕ, List, Option, Some, Result, Ok, Err, sym, subst}
use Rattle.std.specs.Prelude.{OnOk}
use Rattle.byte_streams.specs.Streams.{Told}
use Rattle.jvm_model.specs.declared.event.Mark.{Mark}
use Rattle.class_image.specs.Words.{first_said, marks_said}
use Rattle.class_image.specs.Imaging.{HasImage, PutsImage}

pub OnOk-map : {A E : Type 0} (r : Result A E) {P Q : Type 0} → (P → Q) → OnOk r P → OnOk r Q
OnOk-map (Ok x) follows holds = follows holds
OnOk-map (Err e) follows holds = tt

pub PutsImage-found : (Way : Option (List ℕ) → Option (List ℕ) → List ℕ → Type 0) (told : Option Told) (name first marks : List ℕ) (old new : Option (List ℕ)) (number : ℕ) (letters given : List Mark) (out put : List ℕ)
    → Some number ≡ first_said first → Some letters ≡ marks_said marks → given ≡ letters → put ≡ out → HasImage told name number given out → Way old new put
    → PutsImage Way told name first marks old new
PutsImage-found Way told name first marks old new number letters given out put numbered lettered same alike image way = record {
  number = number;
  numbered = sym numbered;
  letters = letters;
  lettered = sym lettered;
  out = out;
  image = subst (λ (ms : List Mark). HasImage told name number ms out) same image;
  put = subst (Way old new) alike way;
}
