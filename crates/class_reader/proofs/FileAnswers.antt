-- What the readers answer.
use Rattle.std.proofs.Common.{◌≡◌, ◌≢◌, ◌⊎◌, inl, inr, refl, Result, Ok, Err, IfOk, IfErr, sym, ◌∙◌, ap}
use Rattle.const_pool.specs.declared.class.ClassFile.{ClassFile}
use Rattle.class_reader.specs.declared.error.ReadError.{ReadError}
use Rattle.class_reader.specs.declared.error.ReadError.TheVariants.{TooLong, Truncated, BadMagic, BadVersion, BadTag, BadUtf8, BadIndex, BadRef, BadLength, Trailing, NoMemory}
use Rattle.class_reader.specs.Reading.{Gives}

abbrev Read : Type 0
Read = Result ClassFile ReadError

class_of : ClassFile → Read
class_of c = Ok c

-- memory ran out, or it did not
memory_or : (e : ReadError) → (e ≡ NoMemory) ⊎ (e ≢ NoMemory)
memory_or NoMemory = inl refl
memory_or TooLong = inr (λ e. cc)
memory_or (Truncated at) = inr (λ e. cc)
memory_or BadMagic = inr (λ e. cc)
memory_or (BadVersion n) = inr (λ e. cc)
memory_or (BadTag at) = inr (λ e. cc)
memory_or (BadUtf8 at) = inr (λ e. cc)
memory_or (BadIndex i) = inr (λ e. cc)
memory_or (BadRef at) = inr (λ e. cc)
memory_or (BadLength at) = inr (λ e. cc)
memory_or (Trailing at) = inr (λ e. cc)

-- the answer is what reading gives, or memory ran out
pub either_way : (r read : Read) → Gives (λ c. c) r read → (r ≡ read) ⊎ (r ≡ Err NoMemory)
either_way (Ok c) read given = inl (sym given)
either_way (Err e) read given = elim (memory_or e) [ inl memory ↦ inr (ap (λ f. Err f) memory) | inr other ↦ inl (sym (given other)) ]

pub gives_same : (r read answer : Read) → Gives (λ c. c) r read → read ≡ answer → (r ≡ answer) ⊎ (r ≡ Err NoMemory)
gives_same r read answer given is = elim (either_way r read given) [ inl same ↦ inl (same ∙ is) | inr memory ↦ inr memory ]

module _ (Spelled : ClassFile → Type 0) (Fault : ReadError → Type 0) (read : Read) where
  pub is_found : ((c : ClassFile) → read ≡ Ok c → Spelled c) → (r : Read) → Gives (λ c. c) r read → IfOk r Spelled
  is_found law (Ok c) given = law c given
  is_found law (Err e) given = tt

  pub is_refused : ((fault : ReadError) → read ≡ Err fault → Fault fault) → (r : Read) → Gives (λ c. c) r read → IfErr r (λ fault. fault ≢ NoMemory → Fault fault)
  is_refused law (Ok c) given = tt
  is_refused law (Err e) given = λ other. law e (given other)
