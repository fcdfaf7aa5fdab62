use Rattle.std.proofs.Common.{◌≡◌, ◌+◌, ◌<◌, ℕ, true, false, List, Option, Some, None, ap, subst, ◌∙◌, arith}
use Rattle.std.specs.Prelude.{not, unwrap_or, ◌==◌}
use Rattle.std.specs.Option.{option_map}
use Rattle.std.proofs.lemmas.Bool.{eqb-true}
use Rattle.method_versions.specs.Tables.{current_in, held_in, is_number, is_old, is_superseded_in}
use Rattle.prepared_code.specs.Tables.{Version}
use Rattle.interpreter.proofs.turns.passing.begins_in.Goals as goal

-- it is the number of one, since it is below what stands for none
is-number : (o : Option ℕ) (number m : ℕ) → (unwrap_or o (4294967296 + m) == number) ≡ true → number < 4294967296 → not (is_number number o) ≡ false
is-number None number m same less = absurd (let e = eqb-true (4294967296 + m) number same in omega (arith, e, less))
is-number (Some now) number m same less = ap not same

current-by : (slots : List (Option Version)) (current : List ℕ) (number : ℕ) (x : Version) → held_in slots number ≡ Some x
    → (unwrap_or (current_in current x.method) (4294967296 + x.method) == number) ≡ true → number < 4294967296 → is_superseded_in slots current number ≡ false
current-by slots current number x there same less =
    ap (λ o. is_old current number (option_map (λ (x : Version). x.method) o)) there ∙ is-number (current_in current x.method) number x.method same less

pub returns : goal.returns
returns c = λ same.
    let v = c.args.originals.now.versions in
    let most = c.if-number-ge-MOST_VERSIONS.false in
    current-by v.slots v.current c.args.number c.args.version.now c.requires (subst (λ n. (n == c.args.number) ≡ true) c.current.ensures same) (omega (arith, most))
