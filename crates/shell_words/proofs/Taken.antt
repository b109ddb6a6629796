-- What a parse tells of `options_of`.
use Rattle.std.proofs.Common.{◌≡◌, ◌∙◌, ◌↔◌, ◌||◌, true≢false, ap, ap₂, subst, sym, cond, ℕ, Bool, true, false, refl, inl, inr, List, Option, Some, None, Result, Ok, Err, codes}
use Rattle.std.specs.Prelude.{IfErr, IfOk, IfSome, IsErrAnd}
use Rattle.std.specs.Str.{bytes_eq}
use Rattle.std.proofs.lemmas.Slice.Eq.{bytes_eq-Decides}
use Rattle.clap.specs.Kinds.{FailsBy}
use Rattle.clap.specs.Faults.{fault_of, is_simple_and_free}
use Rattle.clap.specs.Matches.{one_text}
use Rattle.clap.specs.Simple.{App, is_simple, matches_of}
use Rattle.clap.specs.Takes.{takes}
use Rattle.clap.specs.Values.{Accepts, kind_of}
use Rattle.clap.specs.Walk.{Text, one_of, rows_of}
use Rattle.clap.specs.declared.builder.value_parser.ValueParser.TheVariants as parser
use Rattle.clap.specs.declared.error.Error.{Error}
use Rattle.clap.specs.declared.error.kind.ErrorKind.TheVariants.{OutOfMemory}
use Rattle.clap.specs.declared.parser.matches.Found.{Found}
use Rattle.sql_meaning.specs.declared.script.Options.{Options}
use Rattle.shell_words.specs.declared.WordsError.{WordsError}
use Rattle.shell_words.specs.declared.WordsError.TheVariants.{Memory, Usage}
use Rattle.clap.proofs.OnLiterals.{clap_on_literals}
use Rattle.clap.proofs.WalkLemmas.{one_text-rows}
use Rattle.shell_words.specs.CommandLine.{IsFlagText, bail_of, budget_of, options_in, options_of, sqlsh}
use Rattle.shell_words.proofs.Faultless.{takes_faultless}

pub sqlsh_is_simple : is_simple sqlsh ≡ true
unfolding clap_on_literals
sqlsh_is_simple = refl

sqlsh_is_free : is_simple_and_free sqlsh ≡ true
unfolding clap_on_literals
sqlsh_is_free = refl

taken_by : {T : Type 0} (words : List Text) (r : Result T Error) → FailsBy (fault_of sqlsh words) r → IfOk r (λ _. takes sqlsh words ≡ true)
taken_by words (Ok m) none = takes_faultless sqlsh words sqlsh_is_simple refl refl refl none
taken_by words (Err e) h = tt

-- a parse of the command that succeeds takes the words
pub taken : {T : Type 0} (a : App) (words : List Text) (r : Result T Error) → a ≡ sqlsh → (is_simple_and_free a ≡ true → FailsBy (fault_of a words) r)
    → IfOk r (λ _. takes sqlsh words ≡ true)
taken a words r is kinds =
    taken_by words r (subst (λ b. is_simple_and_free b ≡ true → FailsBy (fault_of b words) r) is kinds sqlsh_is_free)

flag_text : (text : Text) → (bytes_eq text (codes "true") || bytes_eq text (codes "false")) ≡ true → IsFlagText text
flag_text text = go (bytes_eq text (codes "true")) refl
  where
    go : (b : Bool) → bytes_eq text (codes "true") ≡ b → (b || bytes_eq text (codes "false")) ≡ true → IsFlagText text
    go true is e = inl ((bytes_eq-Decides text (codes "true")).0 is)
    go false is e = inr ((bytes_eq-Decides text (codes "false")).0 e)

pub flag_texts : (o : Option Text) → IfSome o (Accepts false parser.Bool) → IfSome o IsFlagText
flag_texts None h = tt
flag_texts (Some text) h = flag_text text h

abbrev is_memory : WordsError → Bool
is_memory Usage = false
is_memory Memory = true

-- words that clap refuses ask for nothing
pub none_asked : (words : List Text) (r : Result Options WordsError) (e : Error) → IsErrAnd r (λ w. (w ≡ Memory) ↔ (kind_of e ≡ OutOfMemory))
    → (takes sqlsh words ≡ true → kind_of e ≡ OutOfMemory) → IfErr r (λ w. w ≡ Usage → options_of words ≡ None)
none_asked words (Ok o) e is h = tt
none_asked words (Err w) e is h = λ usage. go (takes sqlsh words) (λ yes. differ (sym usage ∙ is.1 (h yes)))
  where
    differ : Usage ≡ Memory → ⊥
    differ e = let bad : false ≡ true = ap is_memory e in true≢false (sym bad)

    go : (b : Bool) → (b ≡ true → ⊥) → cond b (Some (options_in (matches_of sqlsh words))) None ≡ None
    go true never = absurd (never refl)
    go false never = refl

-- and those that it takes for what its matches say
pub asked : (words : List Text) (f : Found) (budget : ℕ) (bail : Bool) → takes sqlsh words ≡ true → rows_of f ≡ matches_of sqlsh words
    → budget ≡ budget_of (one_text f (codes "budget")) → bail ≡ bail_of (one_text f (codes "bail"))
    → options_of words ≡ Some (record { budget = budget; bail = bail })
asked words f budget bail is rows budget_is bail_is =
    let one = λ (id : Text). one_text-rows f id ∙ ap (one_of id) rows in
    ap (λ b. cond b (Some (options_in (matches_of sqlsh words))) None) is
    ∙ ap₂ (λ (x : ℕ) (y : Bool). Some (record { budget = x; bail = y })) (sym (budget_is ∙ ap budget_of (one (codes "budget")))) (sym (bail_is ∙ ap bail_of (one (codes "bail"))))
