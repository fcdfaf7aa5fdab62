-- `settled` gives the normal form, and there is one alone.
use Rattle.std.proofs.Common.{◌≡◌, ℕ, zero, suc, Option, Some, None, refl, sym, subst, ◌∙◌}
use Rattle.std.specs.Option.{option_map_or}
use Rattle.std.proofs.lemmas.Option.{same_Some, none-some}
use Rattle.jvm_model.specs.Basis.Data.{Turn, Listing, World}
use Rattle.jvm_model.specs.Running.Moves.{move, moves_left, then_turn, settles, turn_settled}
use Rattle.jvm_model.specs.Running.Normal.{Reaches, here, by_move, IsNormalForm}
use Rattle.jvm_model.proofs.Running.Settles.{settled-stops}

reaches-by : (w : World) (t : Listing) (n : ℕ) → ((a : Turn) → Reaches w t (settles w t n a) a) → (a : Turn) (found : Option Turn) → move w t a.after ≡ found
    → Reaches w t (option_map_or (λ next. settles w t n (then_turn a next)) found a) a
reaches-by w t n before a None e = here
reaches-by w t n before a (Some next) e = by_move a next e (before (then_turn a next))

settles-reaches : (w : World) (t : Listing) (n : ℕ) (a : Turn) → Reaches w t (settles w t n a) a
settles-reaches w t zero a = here
settles-reaches w t (suc n) a = reaches-by w t n (settles-reaches w t n) a (move w t a.after) refl

pub settled-normal : (w : World) (t : Listing) (a : Turn) → IsNormalForm w t a (turn_settled w t a)
settled-normal w t a = record { reached = settles-reaches w t (moves_left a.after) a; stops = settled-stops w t a }

only-one : (w : World) (t : Listing) (b c a : Turn) → move w t b.after ≡ None → move w t c.after ≡ None → Reaches w t b a → Reaches w t c a → b ≡ c
only-one w t b c a bs cs here here = refl
only-one w t b c a bs cs here (by_move a' next e more) = absurd (none-some next (sym bs ∙ e))
only-one w t b c a bs cs (by_move a' next e more) here = absurd (none-some next (sym cs ∙ e))
only-one w t b c a bs cs (by_move a' next e more) (by_move a'' next' e' more') =
    only-one w t b c (then_turn a next) bs cs more (subst (λ (x : Turn). Reaches w t c (then_turn a x)) (same_Some next' next (sym e' ∙ e)) more')

pub one-normal-form : (w : World) (t : Listing) (a b : Turn) → IsNormalForm w t a b → b ≡ turn_settled w t a
one-normal-form w t a b is = let mine = settled-normal w t a in only-one w t b (turn_settled w t a) a is.stops mine.stops is.reached mine.reached
