-- What lines say, one by one.
use Rattle.std.proofs.Common.{◌≡◌, ◌<◌, ◌≤◌, ◌+◌, ℕ, zero, suc, List, [], ◌∷◌, ◌++◌, length, map, take, drop, ap, sym, subst, ◌∙◌, refl, arith}
use Rattle.std.specs.Prelude.{Option, Some, None, get_or}
use Rattle.std.proofs.lemmas.List.{take_all}
use Rattle.byte_streams.specs.Streams.{Told}
use Rattle.jvm_model.specs.declared.program.Program.{Program}
use Rattle.played_rows.specs.declared.machine.line.Placed.{Placed}
use Rattle.played_rows.specs.declared.machine.parts.RowError.{RowError}
use Rattle.played_rows.specs.declared.machine.parts.RowError.TheVariants.{Missing, NotText, NotRead, NotAdmitted, Unknown, NoMemory}
use Rattle.played_rows.specs.declared.machine.saying.Said.{Said}
use Rattle.played_rows.specs.Machine.Causes.{IsCause, IsMissing, IsSilent}
use Rattle.played_rows.specs.Machine.Reading.{AreSaid, LineSays, placed_at}
use Rattle.played_rows.specs.Machine.Words.{rest_of, word_of}
use Rattle.played_rows.proofs.ListLemmas.{parted-each, taken-more}

so-many : {A : Type 0} (f : A → List ℕ) (xs : List A) (i : ℕ) → i < length xs → length (map f (take i xs)) ≡ i
so-many f [] i less = absurd (omega (arith, less))
so-many f (y ∷ ys) zero less = refl
so-many f (y ∷ ys) (suc i) less = ap suc (so-many f ys i (omega (arith, less)))

module _ {A : Type 0} (f : A → List ℕ) (xs : List A) (i : ℕ) (x d : A) (less : i < length xs) (is : x ≡ get_or xs i d)
    (p : Program) (here told : Option Told) (placed : List Placed) (next : ℕ) (same : here ≡ told)
    (read : AreSaid p told (map f (take i xs)) placed next) where
  -- one line more says something
  pub said-more : (text : List ℕ) (answer : Option Said) (said : Said) (number : ℕ) (new : List Placed) → text ≡ f x → answer ≡ Some said
      → LineSays p here next text answer → number ≡ i + 1 → new ≡ placed ++ placed_at number said.lines → AreSaid p told (map f (take (i + 1) xs)) new said.next
  said-more text answer said number new named is_said says numbered put =
      let counted : number ≡ length (map f (take i xs)) + 1 = numbered ∙ ap (λ k. k + 1) (sym (so-many f xs i less)) in
      subst (λ ps. AreSaid p told (map f (take (i + 1) xs)) ps said.next) (sym (put ∙ ap (λ k. placed ++ placed_at k said.lines) counted))
      (subst (λ texts. AreSaid p told texts (placed ++ placed_at (length (map f (take i xs)) + 1) said.lines) said.next)
      (taken-more f xs i x d less is)
      (AreSaid.more (map f (take i xs)) (f x) placed next said read
      (subst (λ t. LineSays p told next t (Some said)) named (subst (λ t. LineSays p t next text (Some said)) same (subst (LineSays p here next text) is_said says)))))

  -- it says nothing
  pub said-none : (text : List ℕ) (answer : Option Said) (e : RowError) → text ≡ f x → answer ≡ None → LineSays p here next text answer → IsSilent text e → IsCause p told (map f xs) e
  said-none text answer (Missing name) named nothing says silent = absurd silent
  said-none text answer (NotText name) named nothing says silent = absurd silent
  said-none text answer (NotRead name) named nothing says silent = absurd silent
  said-none text answer (NotAdmitted name) named nothing says silent = absurd silent
  said-none text answer (Unknown unknown) named nothing says silent = record {
    before = map f (take i xs);
    placed = placed;
    next = next;
    said = read;
    silent = subst (λ t. LineSays p told next t None) (sym silent) (subst (λ t. LineSays p t next text None) same (subst (LineSays p here next text) nothing says));
    after = map f (drop (i + 1) xs);
    there = parted-each f xs i x d less is ∙ ap (λ t. map f (take i xs) ++ (t ∷ map f (drop (i + 1) xs))) (sym named ∙ sym silent);
  }
  said-none text answer NoMemory named nothing says silent = tt

  -- the file that it names is not fetched
  pub file-missing : (text : List ℕ) (e : RowError) → text ≡ f x → IsMissing (word_of (rest_of (rest_of text))) e → IsCause p told (map f xs) e
  file-missing text (Missing name) named missing = record {
    before = map f (take i xs);
    text = f x;
    after = map f (drop (i + 1) xs);
    there = parted-each f xs i x d less is;
    named = missing ∙ ap (λ t. word_of (rest_of (rest_of t))) named;
  }
  file-missing text (NotText name) named missing = absurd missing
  file-missing text (NotRead name) named missing = absurd missing
  file-missing text (NotAdmitted name) named missing = absurd missing
  file-missing text (Unknown unknown) named missing = absurd missing
  file-missing text NoMemory named missing = tt

pub none-said : (p : Program) (told : Option Told) (placed : List Placed) → placed ≡ [] → AreSaid p told [] placed 0
none-said p told placed e = subst (λ ps. AreSaid p told [] ps 0) (sym e) AreSaid.none

pub all-taken : {A : Type 0} (f : A → List ℕ) (xs : List A) (i : ℕ) → length xs ≤ i → map f (take i xs) ≡ map f xs
all-taken f xs i past = ap (map f) (take_all i xs past)
