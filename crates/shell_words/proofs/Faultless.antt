-- A command with no subcommand takes the words where no step of its parse has a fault.
use Rattle.std.proofs.Common.{◌≡◌, ◌∙◌, sym, ◌&&◌, ◌||◌, ◌==◌, ap, refl, arith, ℕ, Bool, true, false, not, codes, cond, zero, suc, List, [], ◌∷◌, length, Option, Some, None, is_some}
use Rattle.std.specs.Prelude.{nat_le, nat_lt, slice_get}
use Rattle.std.specs.List.{list_all, list_any}
use Rattle.std.specs.Option.{option_map_or}
use Rattle.std.specs.Str.{bytes_eq, chars}
use Rattle.std.proofs.lemmas.Bool.{eqb-true, le-leb, ltb-false}
use Rattle.clap.specs.Lexer.{long_of, short_of}
use Rattle.clap.specs.Facts.{explicit_source, unwrap_or_range}
use Rattle.clap.specs.Faults.{action_fault, bundle_step_fault, check_fault, count_fault, fault_of, flag_word_fault, flags_fault, level_fault, long_fault, option_fault, other_fault, positional_fault, react_fault, set_fault, settle_fault, short_fault, step_fault, stray_fault, turn_fault, use_fault, walk_fault, word_fault}
use Rattle.clap.specs.Kinds.{Kinds, check_kinds, or_else, range_kinds, value_kinds, values_kinds}
use Rattle.clap.specs.Simple.{App, Shape, argument_words, built, is_simple}
use Rattle.clap.specs.Takes.{action_passes, bundle_step_passes, count_passes, default_passes, flag_word_passes, flags_pass, is_given, is_valid, level_passes, long_passes, option_passes, other_passes, positional_passes, react_passes, set_passes, settle_passes, short_passes, step_passes, takes, turn_passes, use_passes, walk_passes, word_passes}
use Rattle.clap.specs.ValueTests.{accepts}
use Rattle.clap.specs.Walk.{Held, Names, Row, Rule, Step, Text, Waiting, Walk, action_of, arg_by_id, arg_by_index, arg_by_long, arg_by_short, attached_value, finished, has_row, is_pending, most_values, next, nothing_held, reacted, settled, subcommand, subcommand_met, takes_several, takes_values, trailing, value, values_or_missing, walk, walk_from, walked, word_met}
use Rattle.clap.specs.declared.builder.action.ArgAction.{ArgAction}
use Rattle.clap.specs.declared.builder.action.ArgAction.TheVariants as action
use Rattle.clap.specs.declared.builder.value_parser.ValueParser.{ValueParser}
use Rattle.clap.specs.declared.error.kind.ErrorKind.{ErrorKind}
use Rattle.clap.specs.declared.error.kind.ErrorKind.TheVariants.{InvalidSubcommand, TooFewValues, TooManyValues, UnknownArgument, WrongNumberOfValues}
use Rattle.clap.proofs.FaultLemmas.{leaf_fault}
use Rattle.clap.proofs.TakesLemmas.{leaf_takes}

-- ---- tests and faults

both_none : (a b : Kinds) → or_else a b ≡ [] → (a ≡ []) × (b ≡ [])
both_none [] b e = (refl, e)
both_none (k ∷ ks) b e = cc

otherwise : (b : Bool) (k : ErrorKind) (ks after : Kinds) → cond b (k ∷ ks) after ≡ [] → (b ≡ false) × (after ≡ [])
otherwise true k ks after e = cc
otherwise false k ks after e = (refl, e)

passed : (b : Bool) (k : ErrorKind) (ks : Kinds) → cond b [] (k ∷ ks) ≡ [] → b ≡ true
passed true k ks e = refl
passed false k ks e = cc

both_true : (a b : Bool) → a ≡ true → b ≡ true → (a && b) ≡ true
both_true a b p q = rw (p, q) refl

second_true : (a b : Bool) → b ≡ true → (a || b) ≡ true
second_true true b e = refl
second_true false b e = e

-- ---- one use of an argument

range_passes : (least most n : ℕ) → range_kinds least most n ≡ [] → (nat_le least n ≡ true) × (nat_le n most ≡ true)
range_passes least most n e = go (least == most) refl (otherwise (nat_lt 0 least && n == 0) _ _ _ e).1
  where
    go : (b : Bool) → (least == most) ≡ b
        → cond b (cond (least == n) [] (WrongNumberOfValues ∷ [])) (cond (nat_lt n least) (TooFewValues ∷ []) (cond (nat_lt most n) (TooManyValues ∷ []) [])) ≡ []
        → (nat_le least n ≡ true) × (nat_le n most ≡ true)
    go true same h =
        let all = eqb-true least most same in
        let given = eqb-true least n (passed (least == n) _ _ h) in
        (le-leb least n (omega arith), le-leb n most (omega arith))
    go false other h =
        let least_is = otherwise (nat_lt n least) _ _ _ h in
        let most_is = otherwise (nat_lt most n) _ _ _ least_is.1 in
        (le-leb least n (ltb-false n least least_is.0), le-leb n most (ltb-false most n most_is.0))

values_pass_all : (ignore_case : Bool) (p : ValueParser) (vs : List Text) → values_kinds ignore_case p vs ≡ [] → list_all (accepts ignore_case p) vs ≡ true
values_pass_all ignore_case p [] e = refl
values_pass_all ignore_case p (v ∷ vs) e =
    let h = both_none (value_kinds ignore_case p v) _ e in
    both_true _ _ (passed (accepts ignore_case p v) _ _ h.0) (values_pass_all ignore_case p vs h.1)

once : (b again : Bool) → (b && not again) ≡ false → (not b || again) ≡ true
once true true e = refl
once true false e = cc
once false again e = refl

set_in : (again : Bool) (a : Rule) (values : List Text) (rows : List Row) → set_fault again a values rows ≡ [] → set_passes again a values rows ≡ true
set_in again a values rows e =
    let h = both_none _ _ e in
    both_true _ _ (once (has_row a.id rows) again (otherwise (has_row a.id rows && not again) _ _ _ h.0).0) (values_pass_all _ _ values h.1)

count_in : (a : Rule) (values : List Text) (rows : List Row) → count_fault a values rows ≡ [] → count_passes a values rows ≡ true
count_in a [] rows e = passed _ _ _ e
count_in a (v ∷ vs) rows e = values_pass_all _ _ (v ∷ vs) e

action_in : (x : ArgAction) (again : Bool) (a : Rule) (values : List Text) (rows : List Row) → action_fault x again a values rows ≡ [] → action_passes x again a values rows ≡ true
action_in action.Set again a values rows e = set_in again a values rows e
action_in action.SetTrue again a values rows e = set_in again a values rows e
action_in action.SetFalse again a values rows e = set_in again a values rows e
action_in action.Append again a values rows e = values_pass_all _ _ values e
action_in action.Count again a values rows e = count_in a values rows e
action_in action.Help again a values rows e = cc
action_in action.HelpShort again a values rows e = cc
action_in action.HelpLong again a values rows e = cc
action_in action.Version again a values rows e = cc

use_in : (again : Bool) (a : Rule) (values : List Text) (rows : List Row) → use_fault again a values rows ≡ [] → use_passes again a values rows ≡ true
use_in again a values rows e =
    let h = both_none _ _ e in
    let range = range_passes (unwrap_or_range a.range).start_inclusive (most_values a) (length values) h.0 in
    both_true _ _ range.0 (both_true _ _ range.1 (action_in (action_of a) again a (values_or_missing a values) rows h.1))

-- ---- the walk

settle_in : (c : List Rule) (again : Bool) (h : Held) → settle_fault c again h ≡ [] → settle_passes c again h ≡ true
settle_in c again h = go h.pending
  where
    found : (p : Text × List Text) (o : Option Rule) → option_map_or (λ a. use_fault again a p.1 h.rows) o [] ≡ []
        → option_map_or (λ a. use_passes again a p.1 h.rows) o true ≡ true
    found p None e = refl
    found p (Some a) e = use_in again a p.1 h.rows e

    go : (o : Option (Text × List Text)) → option_map_or (λ p. option_map_or (λ a. use_fault again a p.1 h.rows) (arg_by_id c p.0) []) o [] ≡ []
        → option_map_or (λ p. option_map_or (λ a. use_passes again a p.1 h.rows) (arg_by_id c p.0) true) o true ≡ true
    go None e = refl
    go (Some p) e = found p (arg_by_id c p.0) e

react_in : (c : List Rule) (again : Bool) (a : Rule) (values : List Text) (h : Held) → react_fault c again a values h ≡ [] → react_passes c again a values h ≡ true
react_in c again a values h e =
    let parts = both_none _ _ e in
    both_true _ _ (settle_in c again h parts.0) (use_in again a values (settled c h).rows parts.1)

option_in : (c : List Rule) (again : Bool) (a : Rule) (v : Option Text) (h : Held) → option_fault c again a v h ≡ [] → option_passes c again a v h ≡ true
option_in c again a (Some v) h e = react_in c again a (v ∷ []) h e
option_in c again a None h e = settle_in c again h e

long_in : (c : List Rule) (again : Bool) (found : Option Rule) (v : Option Text) (h : Held) → long_fault c again found v h ≡ [] → long_passes c again found v h ≡ true
long_in c again None v h e = cc
long_in c again (Some a) v h e = go (takes_values a) e
  where
    go : (b : Bool) → cond b (option_fault c again a v h) (cond (is_some v) (TooManyValues ∷ []) (react_fault c again a [] h)) ≡ []
        → cond b (option_passes c again a v h) (not (is_some v) && react_passes c again a [] h) ≡ true
    go true f = option_in c again a v h f
    go false f =
        let parts = otherwise (is_some v) _ _ _ f in
        both_true _ _ (ap not parts.0) (react_in c again a [] h parts.1)

short_in : (c : List Rule) (again : Bool) (found : Option Rule) (rest : Text) (h : Held) (fault : Held → Kinds) (passes : Held → Bool)
    → ((x : Held) → fault x ≡ [] → passes x ≡ true) → short_fault c again found rest h fault ≡ [] → short_passes c again found rest h passes ≡ true
short_in c again None rest h fault passes after e = cc
short_in c again (Some a) rest h fault passes after e = go (takes_values a) e
  where
    go : (b : Bool) → cond b (option_fault c again a (attached_value rest) h) (or_else (react_fault c again a [] h) (fault (reacted c a [] h))) ≡ []
        → cond b (option_passes c again a (attached_value rest) h) (react_passes c again a [] h && passes (reacted c a [] h)) ≡ true
    go true f = option_in c again a (attached_value rest) h f
    go false f =
        let parts = both_none _ _ f in
        both_true _ _ (react_in c again a [] h parts.0) (after (reacted c a [] h) parts.1)

bundle_step_in : (c : List Rule) (again : Bool) (x : Option ℕ) (flags : Text) (skip : ℕ) (h : Held) (fault : Text → ℕ → Held → Kinds) (passes : Text → ℕ → Held → Bool)
    → ((t : Text) (n : ℕ) (y : Held) → fault t n y ≡ [] → passes t n y ≡ true)
    → bundle_step_fault c again x flags skip h fault ≡ [] → bundle_step_passes c again x flags skip h passes ≡ true
bundle_step_in c again None flags skip h fault passes after e = refl
bundle_step_in c again (Some x) flags zero h fault passes after e =
    short_in c again (arg_by_short c x) _ h (fault _ 0) (passes _ 0) (λ y. after _ 0 y) e
bundle_step_in c again (Some x) flags (suc skip) h fault passes after e = after _ skip h e

flags_in : (c : List Rule) (again : Bool) (k : ℕ) (flags : Text) (skip : ℕ) (h : Held) → flags_fault c again k flags skip h ≡ [] → flags_pass c again k flags skip h ≡ true
unfolding flags_fault flags_pass
flags_in c again zero flags skip h e = refl
flags_in c again (suc k) flags skip h e =
    bundle_step_in c again (slice_get (chars flags) 0) flags skip h (flags_fault c again k) (flags_pass c again k) (flags_in c again k) e

flag_word_in : (c : List Rule) (again : Bool) (long : Option (Text × Option Text)) (word : Text) (h : Held) → flag_word_fault c again long word h ≡ []
    → flag_word_passes c again long word h ≡ true
flag_word_in c again (Some p) word h e = long_in c again (arg_by_long c p.0) p.1 h e
flag_word_in c again None word h e = go (short_of word) e
  where
    go : (o : Option Text) → option_map_or (λ flags. flags_fault c again (length flags) flags h.skip (record h { skip = 0 })) o [] ≡ []
        → option_map_or (λ flags. flags_pass c again (length flags) flags h.skip (record h { skip = 0 })) o true ≡ true
    go None f = refl
    go (Some flags) f = flags_in c again (length flags) flags h.skip (record h { skip = 0 }) f

other_in : (s : Shape) (met : Option Text) (word : Text) (h : Held) → other_fault s met word h ≡ [] → other_passes s met word h ≡ true
other_in s (Some name) word h e = once (bytes_eq name (codes "help")) s.disable_help_subcommand
    (otherwise (bytes_eq name (codes "help") && not s.disable_help_subcommand) _ _ _ e).0
other_in s None word h e = go (bytes_eq word (45 ∷ 45 ∷ [])) e
  where
    go : (b : Bool) → cond b [] (flag_word_fault s.rules s.args_override_self (long_of word) word h) ≡ []
        → (b || flag_word_passes s.rules s.args_override_self (long_of word) word h) ≡ true
    go true f = refl
    go false f = flag_word_in s.rules s.args_override_self (long_of word) word h f

word_in : (s : Shape) (names : Names) (is_trailing : Bool) (waiting : Waiting) (word : Text) (h : Held) → word_fault s names is_trailing waiting word h ≡ []
    → word_passes s names is_trailing waiting word h ≡ true
word_in s names true waiting word h e = refl
word_in s names false waiting word h e = other_in s (subcommand_met names waiting word) word h e

positional_in : (c : List Rule) (again : Bool) (b : Bool) (h : Held) → cond b [] (settle_fault c again h) ≡ [] → (b || settle_passes c again h) ≡ true
positional_in c again true h e = refl
positional_in c again false h e = settle_in c again h e

stray : (s : Shape) → stray_fault s ≡ [] → false ≡ true
stray s = go s.is_leaf
  where
    go : (b : Bool) → cond b (UnknownArgument ∷ []) (UnknownArgument ∷ InvalidSubcommand ∷ []) ≡ [] → false ≡ true
    go true e = cc
    go false e = cc

step_in : (s : Shape) (position : ℕ) (h : Held) (step : Step) → step_fault s position h step ≡ [] → step_passes s position h step ≡ true
step_in s position h (next waiting) e = refl
step_in s position h (trailing place) e = refl
step_in s position h (subcommand name) e = refl
step_in s position h value e = go (arg_by_index s.rules position) e
  where
    go : (o : Option Rule) → option_map_or (λ a. positional_fault s.rules s.args_override_self a h) o (stray_fault s) ≡ []
        → option_map_or (λ a. positional_passes s.rules s.args_override_self a h) o false ≡ true
    go None f = stray s f
    go (Some a) f = positional_in s.rules s.args_override_self (is_pending a h.pending && takes_several a) h f

turn_in : (s : Shape) (names : Names) (w : Walk) (word : Text) → turn_fault s names w word ≡ [] → turn_passes s names w word ≡ true
turn_in s names w word = go (is_some w.stopped)
  where
    go : (b : Bool)
        → cond b [] (or_else (word_fault s names w.is_trailing w.waiting word w.held)
        (step_fault s w.position (word_met s.rules names w.is_trailing w.waiting w.position word w.held).0 (word_met s.rules names w.is_trailing w.waiting w.position word w.held).1)) ≡ []
        → (b || (word_passes s names w.is_trailing w.waiting word w.held
        && step_passes s w.position (word_met s.rules names w.is_trailing w.waiting w.position word w.held).0 (word_met s.rules names w.is_trailing w.waiting w.position word w.held).1)) ≡ true
    go true e = refl
    go false e =
        let parts = both_none _ _ e in
        both_true _ _ (word_in s names w.is_trailing w.waiting word w.held parts.0) (step_in s w.position
        (word_met s.rules names w.is_trailing w.waiting w.position word w.held).0 (word_met s.rules names w.is_trailing w.waiting w.position word w.held).1 parts.1)

walk_in : (s : Shape) (names : Names) (w : Walk) (words : List Text) → walk_fault s names w words ≡ [] → walk_passes s names w words ≡ true
unfolding walk_fault walk_passes
walk_in s names w [] e = refl
walk_in s names w (word ∷ rest) e =
    let parts = both_none (turn_fault s names w word) _ e in
    both_true _ _ (turn_in s names w word parts.0) (walk_in s names (walked s.rules names w word) rest parts.1)

-- ---- after the walk

none_missing : (given : Rule → Bool) (rules : List Rule) → list_any (λ a. a.required && not (given a)) rules ≡ false → list_all (λ a. not a.required || given a) rules ≡ true
none_missing given [] e = refl
none_missing given (a ∷ rest) e = go a.required (given a) (none_missing given rest) e
  where
    go : (required is : Bool)
        → (list_any (λ b. b.required && not (given b)) rest ≡ false → list_all (λ b. not b.required || given b) rest ≡ true)
        → ((required && not is) || list_any (λ b. b.required && not (given b)) rest) ≡ false
        → ((not required || is) && list_all (λ b. not b.required || given b) rest) ≡ true
    go true true others h = others h
    go true false others h = cc
    go false is others h = others h

-- the last checks, where no subcommand was met
checked : (wants_help explicit wants_subcommand missing free given : Bool) → (missing ≡ false → given ≡ true) → free ≡ true
    → check_kinds (wants_help && not explicit) wants_subcommand missing ≡ []
    → ((not wants_help || explicit) && ((not wants_subcommand || false) && (free && given))) ≡ true
checked wants_help explicit wants_subcommand missing free given all is_free e =
    let help = otherwise (wants_help && not explicit) _ _ _ e in
    let sub = otherwise wants_subcommand _ _ _ help.1 in
    let none = otherwise missing _ _ _ sub.1 in
    both_true _ _ (once wants_help explicit help.0) (both_true _ _ (once wants_subcommand false (ap (λ b. b && true) sub.0))
    (both_true _ _ is_free (all none.0)))

check_in : (s : Shape) (rows : List Row) → list_all (λ a. a.is_free) s.rules ≡ true → check_fault s rows false ≡ [] → is_valid s rows false ≡ true
check_in s rows free = go s.subcommand_negates_reqs
  where
    go : (negates : Bool)
        → check_kinds (s.arg_required_else_help && not (list_any (λ r. explicit_source r.source) rows)) s.subcommand_required
        (not (negates && false) && list_any (λ a. a.required && not (is_given a.id rows)) s.rules) ≡ []
        → ((not s.arg_required_else_help || list_any (λ r. explicit_source r.source) rows) && ((not s.subcommand_required || false)
        && (list_all (λ a. a.is_free) s.rules && ((negates && false) || list_all (λ a. not a.required || is_given a.id rows) s.rules)))) ≡ true
    go true e = checked s.arg_required_else_help _ s.subcommand_required _ _ _ (none_missing (λ a. is_given a.id rows) s.rules) free e
    go false e = checked s.arg_required_else_help _ s.subcommand_required _ _ _ (none_missing (λ a. is_given a.id rows) s.rules) free e

level_in : (s : Shape) (names : Names) (h : Held) (words : List Text) → list_all default_passes s.rules ≡ true → list_all (λ a. a.is_free) s.rules ≡ true
    → level_fault s names h words false [] ≡ [] → level_passes s names h words false ≡ true
level_in s names h words defaults free e =
    let end = (walk s.rules names h words).held in
    let first = both_none _ _ e in
    let second = both_none _ _ first.1 in
    let third = both_none _ _ second.1 in
    both_true _ _ (walk_in s names (walk_from h) words first.0)
    (both_true _ _ (settle_in s.rules s.args_override_self end second.0)
    (both_true _ _ defaults (check_in s (finished s.rules end) free third.1)))

-- where the defaults pass and no argument has a rule on another
pub takes_faultless : (a : App) (words : List Text) → is_simple a ≡ true → (built a).subs ≡ [] → list_all default_passes (built a).top.rules ≡ true
    → list_all (λ r. r.is_free) (built a).top.rules ≡ true → fault_of a words ≡ [] → takes a words ≡ true
takes_faultless a words simple leaf defaults free e =
    both_true _ _ simple (leaf_takes (built a) nothing_held (argument_words a words) leaf
    (level_in (built a).top [] nothing_held (argument_words a words) defaults free (sym (leaf_fault (built a) nothing_held (argument_words a words) leaf) ∙ e)))
