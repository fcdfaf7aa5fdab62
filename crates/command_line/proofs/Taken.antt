-- clap's test of whether words are taken says what its list of faults says: each step passes exactly where it has no
-- fault.
use Rattle.std.proofs.Common.{◌≡◌, ◌∙◌, ◌&&◌, ◌||◌, ℕ, Bool, true, false, not, zero, suc, refl, sym, ap, ap₂, arith, List, [], ◌∷◌, length, drop, nat_le, Option, Some, None, is_some, rules}
use Rattle.std.specs.Prelude.{encode_utf8, if◌then◌else◌, slice_get}
use Rattle.std.specs.Option.{option_map_or}
use Rattle.std.specs.List.{list_all}
use Rattle.std.specs.Str.{bytes_eq, chars}
use Rattle.std.proofs.lemmas.Bool.{and_parts}
use Rattle.std.proofs.Math.Bool.{and_assoc}
use Rattle.clap.specs.Lexer.{long_of, short_of}
use Rattle.clap.specs.Facts.{parser_of_value, unwrap_or_range}
use Rattle.clap.specs.ValueTests.{accepts}
use Rattle.clap.specs.Kinds.{Kinds, or_else, range_kinds, value_kinds, values_kinds}
use Rattle.clap.specs.Walk.{Held, Names, Row, Rule, Step, Text, Waiting, Walk, action_of, arg_by_id, arg_by_index, arg_by_long, arg_by_short, attached_value, finished, has_row, is_empty, is_pending, most_values, next, reacted, settled, subcommand, subcommand_met, takes_several, takes_values, trailing, value, values_or_missing, walk, walk_from, walked, with_default, word_met}
use Rattle.clap.specs.Simple.{Shape, argument_words, built, entered}
use Rattle.clap.specs.Takes.{action_passes, built_takes, bundle_passes, bundle_step_passes, count_passes, entered_passes, flag_word_passes, flags_pass, is_valid, level_passes, long_passes, option_passes, other_passes, positional_passes, react_passes, set_passes, settle_passes, short_passes, step_passes, takes, turn_passes, use_passes, walk_passes, word_passes}
use Rattle.clap.specs.Faults.{action_fault, built_fault, bundle_fault, bundle_step_fault, check_fault, count_fault, default_fault, defaults_fault, entered_fault, fault_of, flag_word_fault, flags_fault, given_default_fault, level_fault, long_fault, option_fault, other_fault, positional_fault, react_fault, repeat_fault, set_fault, settle_fault, short_fault, step_fault, stray_fault, turn_fault, use_fault, values_fault, walk_fault, word_fault}
use Rattle.clap.specs.declared.builder.action.ArgAction.{ArgAction}
use Rattle.clap.specs.declared.builder.action.ArgAction.TheVariants.{Set, Append, SetTrue, SetFalse, Count, Help, HelpShort, HelpLong, Version}
use Rattle.clap.specs.declared.builder.value_parser.ValueParser.{ValueParser}
use Rattle.clap.specs.declared.error.kind.ErrorKind.{ErrorKind}
use Rattle.command_line.specs.Described.{jfluid}

-- there is no fault
abbrev pub none : Kinds → Bool
none [] = true
none (k ∷ ks) = false

none_of_two : (a b : Kinds) → (none a && none b) ≡ none (or_else a b)
none_of_two [] b = refl
none_of_two (k ∷ ks) b = refl

-- two steps, one after the other
two : (x y : Bool) (a b : Kinds) → x ≡ none a → y ≡ none b → (x && y) ≡ none (or_else a b)
two x y a b first second = ap₂ (λ p q. p && q) first second ∙ none_of_two a b

none_if : (b : Bool) (k : ErrorKind) → b ≡ none (if b then [] else k ∷ [])
none_if true k = refl
none_if false k = refl

either : (b x : Bool) (a : Kinds) → x ≡ none a → (b || x) ≡ none (if b then [] else a)
either true x a same = refl
either false x a same = same

optional : {A : Type 0} (f : A → Bool) (g : A → Kinds) (o : Option A) → ((a : A) → f a ≡ none (g a)) → option_map_or f o true ≡ none (option_map_or g o [])
optional f g None same = refl
optional f g (Some a) same = same a

-- ---- one use

of_values : (i : Bool) (p : ValueParser) (vs : List Text) → list_all (accepts i p) vs ≡ none (values_kinds i p vs)
of_values i p [] = refl
of_values i p (v ∷ vs) = two _ _ (value_kinds i p v) (values_kinds i p vs) (none_if (accepts i p v) _) (of_values i p vs)

of_repeat : (has again : Bool) (k : ErrorKind) → (not has || again) ≡ none (if has && not again then k ∷ [] else [])
of_repeat true true k = refl
of_repeat true false k = refl
of_repeat false again k = refl

of_set : (again : Bool) (a : Rule) (values : List Text) (rows : List Row) → set_passes again a values rows ≡ none (set_fault again a values rows)
of_set again a values rows =
    two _ _ (repeat_fault again a.id rows) (values_fault a values) (of_repeat (has_row a.id rows) again _) (of_values a.ignore_case (parser_of_value a.parser) values)

of_count : (a : Rule) (values : List Text) (rows : List Row) → count_passes a values rows ≡ none (count_fault a values rows)
of_count a [] rows = none_if _ _
of_count a (v ∷ vs) rows = of_values a.ignore_case (parser_of_value a.parser) (v ∷ vs)

of_action : (x : ArgAction) (again : Bool) (a : Rule) (values : List Text) (rows : List Row) → action_passes x again a values rows ≡ none (action_fault x again a values rows)
of_action Set again a values rows = of_set again a values rows
of_action SetTrue again a values rows = of_set again a values rows
of_action SetFalse again a values rows = of_set again a values rows
of_action Append again a values rows = of_values a.ignore_case (parser_of_value a.parser) values
of_action Count again a values rows = of_count a values rows
of_action Help again a values rows = refl
of_action HelpShort again a values rows = refl
of_action HelpLong again a values rows = refl
of_action Version again a values rows = refl

of_range : (least most n : ℕ) → (nat_le least n && nat_le n most) ≡ none (range_kinds least most n)
of_range least most n = grind (arith, rules)

of_use : (again : Bool) (a : Rule) (values : List Text) (rows : List Row) → use_passes again a values rows ≡ none (use_fault again a values rows)
of_use again a values rows =
    let least = (unwrap_or_range a.range).start_inclusive in
    sym (and_assoc (nat_le least (length values)) (nat_le (length values) (most_values a)) _)
    ∙ two _ _ (range_kinds least (most_values a) (length values)) (action_fault (action_of a) again a (values_or_missing a values) rows)
    (of_range least (most_values a) (length values)) (of_action (action_of a) again a (values_or_missing a values) rows)

-- ---- the walk

of_settle : (c : List Rule) (again : Bool) (h : Held) → settle_passes c again h ≡ none (settle_fault c again h)
of_settle c again h = optional _ _ h.pending (λ p. optional _ _ (arg_by_id c p.0) (λ a. of_use again a p.1 h.rows))

of_react : (c : List Rule) (again : Bool) (a : Rule) (values : List Text) (h : Held) → react_passes c again a values h ≡ none (react_fault c again a values h)
of_react c again a values h = two _ _ (settle_fault c again h) (use_fault again a values (settled c h).rows) (of_settle c again h) (of_use again a values (settled c h).rows)

of_option : (c : List Rule) (again : Bool) (a : Rule) (v : Option Text) (h : Held) → option_passes c again a v h ≡ none (option_fault c again a v h)
of_option c again a (Some v) h = of_react c again a (v ∷ []) h
of_option c again a None h = of_settle c again h

choice : (b x y : Bool) (a d : Kinds) → x ≡ none a → y ≡ none d → (if b then x else y) ≡ none (if b then a else d)
choice true x y a d first second = first
choice false x y a d first second = second

unattached : (b x : Bool) (k : ErrorKind) (a : Kinds) → x ≡ none a → (not b && x) ≡ none (if b then k ∷ [] else a)
unattached true x k a same = refl
unattached false x k a same = same

of_long : (c : List Rule) (again : Bool) (o : Option Rule) (v : Option Text) (h : Held) → long_passes c again o v h ≡ none (long_fault c again o v h)
of_long c again None v h = refl
of_long c again (Some a) v h =
    choice (takes_values a) _ _ (option_fault c again a v h) _ (of_option c again a v h) (unattached (is_some v) _ _ (react_fault c again a [] h) (of_react c again a [] h))

of_short : (c : List Rule) (again : Bool) (o : Option Rule) (rest : Text) (h : Held) (f : Held → Bool) (g : Held → Kinds) → ((h : Held) → f h ≡ none (g h))
    → short_passes c again o rest h f ≡ none (short_fault c again o rest h g)
of_short c again None rest h f g same = refl
of_short c again (Some a) rest h f g same =
    choice (takes_values a) _ _ (option_fault c again a (attached_value rest) h) _ (of_option c again a (attached_value rest) h)
    (two _ _ (react_fault c again a [] h) (g (reacted c a [] h)) (of_react c again a [] h) (same (reacted c a [] h)))

of_bundle_step : (c : List Rule) (again : Bool) (x : Option ℕ) (flags : Text) (skip : ℕ) (h : Held) (f : Text → ℕ → Held → Bool) (g : Text → ℕ → Held → Kinds)
    → ((t : Text) (n : ℕ) (h : Held) → f t n h ≡ none (g t n h)) → bundle_step_passes c again x flags skip h f ≡ none (bundle_step_fault c again x flags skip h g)
of_bundle_step c again None flags skip h f g same = refl
of_bundle_step c again (Some x) flags zero h f g same =
    of_short c again (arg_by_short c x) (drop (length (encode_utf8 x)) flags) h (f (drop (length (encode_utf8 x)) flags) 0) (g (drop (length (encode_utf8 x)) flags) 0)
    (same (drop (length (encode_utf8 x)) flags) 0)
of_bundle_step c again (Some x) flags (suc skip) h f g same = same (drop (length (encode_utf8 x)) flags) skip h

of_flags : (c : List Rule) (again : Bool) (k : ℕ) (flags : Text) (skip : ℕ) (h : Held) → flags_pass c again k flags skip h ≡ none (flags_fault c again k flags skip h)
unfolding flags_pass flags_fault
of_flags c again zero flags skip h = refl
of_flags c again (suc k) flags skip h = of_bundle_step c again (slice_get (chars flags) 0) flags skip h (flags_pass c again k) (flags_fault c again k) (of_flags c again k)

of_bundle : (c : List Rule) (again : Bool) (flags : Text) (h : Held) → bundle_passes c again flags h ≡ none (bundle_fault c again flags h)
of_bundle c again flags h = of_flags c again (length flags) flags h.skip (record h { skip = 0 })

of_flag_word : (c : List Rule) (again : Bool) (l : Option (Text × Option Text)) (word : Text) (h : Held) → flag_word_passes c again l word h ≡ none (flag_word_fault c again l word h)
of_flag_word c again (Some p) word h = of_long c again (arg_by_long c p.0) p.1 h
of_flag_word c again None word h = optional _ _ (short_of word) (λ flags. of_bundle c again flags h)

no_help : (named disabled : Bool) (k : ErrorKind) (ks : Kinds) → (not named || disabled) ≡ none (if named && not disabled then k ∷ ks else [])
no_help true true k ks = refl
no_help true false k ks = refl
no_help false disabled k ks = refl

of_other : (s : Shape) (o : Option Text) (word : Text) (h : Held) → other_passes s o word h ≡ none (other_fault s o word h)
of_other s (Some name) word h = no_help _ _ _ _
of_other s None word h = either (bytes_eq word (45 ∷ 45 ∷ [])) _ _ (of_flag_word s.rules s.args_override_self (long_of word) word h)

of_word : (s : Shape) (names : Names) (is_trailing : Bool) (waiting : Waiting) (word : Text) (h : Held)
    → word_passes s names is_trailing waiting word h ≡ none (word_fault s names is_trailing waiting word h)
of_word s names is_trailing waiting word h = either is_trailing _ _ (of_other s (subcommand_met names waiting word) word h)

of_positional : (c : List Rule) (again : Bool) (a : Rule) (h : Held) → positional_passes c again a h ≡ none (positional_fault c again a h)
of_positional c again a h = either (is_pending a h.pending && takes_several a) _ _ (of_settle c again h)

one_of_two : (b : Bool) (k l : ErrorKind) (ks ls : Kinds) → false ≡ none (if b then k ∷ ks else l ∷ ls)
one_of_two true k l ks ls = refl
one_of_two false k l ks ls = refl

taken_by : (s : Shape) (o : Option Rule) (h : Held)
    → option_map_or (λ a. positional_passes s.rules s.args_override_self a h) o false
    ≡ none (option_map_or (λ a. positional_fault s.rules s.args_override_self a h) o (stray_fault s))
taken_by s None h = one_of_two s.is_leaf _ _ _ _
taken_by s (Some a) h = of_positional s.rules s.args_override_self a h

of_step : (s : Shape) (position : ℕ) (h : Held) (step : Step) → step_passes s position h step ≡ none (step_fault s position h step)
of_step s position h (next w) = refl
of_step s position h (trailing p) = refl
of_step s position h (subcommand name) = refl
of_step s position h value = taken_by s (arg_by_index s.rules position) h

of_turn : (s : Shape) (names : Names) (w : Walk) (word : Text) → turn_passes s names w word ≡ none (turn_fault s names w word)
of_turn s names w word =
    let met = word_met s.rules names w.is_trailing w.waiting w.position word w.held in
    either (is_some w.stopped) _ _ (two _ _ (word_fault s names w.is_trailing w.waiting word w.held) (step_fault s w.position met.0 met.1)
    (of_word s names w.is_trailing w.waiting word w.held) (of_step s w.position met.0 met.1))

of_walk : (s : Shape) (names : Names) (w : Walk) (words : List Text) → walk_passes s names w words ≡ none (walk_fault s names w words)
unfolding walk_passes walk_fault
of_walk s names w [] = refl
of_walk s names w (word ∷ rest) =
    two _ _ (turn_fault s names w word) (walk_fault s names (walked s.rules names w word) rest) (of_turn s names w word) (of_walk s names (walked s.rules names w word) rest)

-- ---- after the walk

-- an argument has no default, or one without a fault
abbrev good_default : Rule → Bool
good_default a = is_empty a.defaults || none (given_default_fault a a.defaults)

abbrev good_defaults : List Rule → Bool
good_defaults = list_all good_default

silent_default : (has bare : Bool) (ks : Kinds) → (bare || none ks) ≡ true → true ≡ none (if has || bare then [] else ks)
silent_default true bare ks e = refl
silent_default false true ks e = refl
silent_default false false ks e = sym e

of_defaults : (rows : List Row) (rules : List Rule) → good_defaults rules ≡ true → true ≡ none (defaults_fault rows rules)
unfolding defaults_fault
of_defaults rows [] e = refl
of_defaults rows (a ∷ rest) e =
    let parts = and_parts (good_default a) (good_defaults rest) e in
    two true true (default_fault rows a) (defaults_fault (with_default rows a) rest)
    (silent_default (has_row a.id rows) (is_empty a.defaults) (given_default_fault a a.defaults) parts.0) (of_defaults (with_default rows a) rest parts.1)

abbrev top : Shape
top = (built jfluid).top

of_check : (rows : List Row) (is_entered : Bool) → is_valid top rows is_entered ≡ none (check_fault top rows is_entered)
of_check rows true = refl
of_check rows false = refl

of_level : (h : Held) (words : List Text) (is_entered : Bool) → level_passes top [] h words is_entered ≡ none (level_fault top [] h words is_entered [])
of_level h words is_entered =
    let end = (walk top.rules [] h words).held in
    two _ _ (walk_fault top [] (walk_from h) words) _ (of_walk top [] (walk_from h) words)
    (two _ _ (settle_fault top.rules top.args_override_self end) _ (of_settle top.rules top.args_override_self end)
    (two true _ (defaults_fault (settled top.rules end).rows top.rules) _ (of_defaults (settled top.rules end).rows top.rules refl)
    (of_check (finished top.rules end) is_entered)))

nothing_entered : (stop : Option (Text × List Text)) → (entered_passes (built jfluid) stop ≡ true) × (entered_fault (built jfluid) stop ≡ [])
nothing_entered None = (refl, refl)
nothing_entered (Some p) = (refl, refl)

of_words : (h : Held) (words : List Text) → built_takes (built jfluid) h words ≡ none (built_fault (built jfluid) h words)
of_words h words =
    let stop = (walk top.rules [] h words).stopped in
    let is_entered = is_some (entered (built jfluid) stop) in
    ap₂ (λ x y. x && y) (nothing_entered stop).0 (of_level h words is_entered)
    ∙ ap (λ below. none (level_fault top [] h words is_entered below)) (sym (nothing_entered stop).1)

pub takes_is : (words : List Text) → takes jfluid words ≡ none (fault_of jfluid words)
takes_is words = of_words _ (argument_words jfluid words)
