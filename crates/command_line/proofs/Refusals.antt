-- clap's answer says whether it takes the words.
use Rattle.std.proofs.Common.{◌≡◌, ◌∙◌, ℕ, List, [], ◌∷◌, true, false, inl, inr, Ok, Err, ap, subst, refl}
use Rattle.clap.specs.Words.{App, HasMatchesOf, fault_of, is_simple_and_free, kind_of}
use Rattle.clap.specs.Kinds.{HasKind, IsAmong, Kinds}
use Rattle.clap.specs.declared.parser.matches.ArgMatches.{ArgMatches}
use Rattle.clap.specs.declared.error.Error.{Error}
use Rattle.clap.specs.declared.error.kind.ErrorKind.{ErrorKind}
use Rattle.command_line.specs.Described.{jfluid}
use Rattle.command_line.specs.Words.{is_taken}
use Rattle.command_line.specs.Reading.{IsMatched, IsRefusal}
use Rattle.command_line.specs.declared.words.WordsError.{WordsError}
use Rattle.command_line.specs.declared.words.WordsError.TheVariants.{Clap, Refused, NoMemory}
use Rattle.command_line.proofs.Taken.{none, takes_is}

-- matches come only of words that have no fault
pub matched_by_clap : (a : App) (words : List (List ℕ)) (m : ArgMatches) → a ≡ jfluid
    → (is_simple_and_free a ≡ true → fault_of a words ≡ []) → HasMatchesOf a words m → IsMatched words (Ok m)
unfolding is_taken
matched_by_clap a words m is faultless found =
    let none_is = subst (λ x. is_simple_and_free x ≡ true → fault_of x words ≡ []) is faultless refl in
    let same = subst (λ x. HasMatchesOf x words m) is found refl in
    (takes_is words ∙ ap none none_is, same.0)

some_kind : (k : ErrorKind) (kinds : Kinds) → IsAmong k kinds → none kinds ≡ false
some_kind k [] among = absurd among
some_kind k (x ∷ xs) among = refl

of_clap : (words : List (List ℕ)) (e : Error) (r : WordsError)
    → HasKind (fault_of jfluid words) e → IsRefusal (kind_of e) r → IsMatched words (Err r)
unfolding is_taken
of_clap words e (Clap message) (inl memory) told = absurd (told memory)
of_clap words e (Clap message) (inr among) told = takes_is words ∙ some_kind (kind_of e) (fault_of jfluid words) among
of_clap words e Refused kind told = absurd told
of_clap words e NoMemory kind told = tt

-- an error comes of words that have a fault, or of want of memory
pub refused_by_clap : (a : App) (words : List (List ℕ)) (e : Error) (r : WordsError) → a ≡ jfluid
    → (is_simple_and_free a ≡ true → HasKind (fault_of a words) e) → IsRefusal (kind_of e) r → IsMatched words (Err r)
refused_by_clap a words e r is kinds told =
    of_clap words e r (subst (λ x. is_simple_and_free x ≡ true → HasKind (fault_of x words) e) is kinds refl) told
