-- What some command lines ask for.
use Rattle.std.specs.Prelude.{◌≡◌, true, false, List, [], ◌∷◌, Option, Some, None, codes, refl}
use Rattle.clap.specs.Words.{Text}
use Rattle.clap.proofs.OnLiterals.{clap_on_literals}
use Rattle.eng_value.specs.declared.limits.TheConstants.{DEFAULT_BUDGET}
use Rattle.shell_words.specs.CommandLine.{options_of}
use Rattle.sql_meaning.specs.declared.script.Options.{Options}

-- what the words behind the program's name ask for
abbrev asked : List Text → Option Options
asked words = options_of (codes "sqlsh" ∷ words)

nothing_asked : asked [] ≡ Some (record { budget = DEFAULT_BUDGET; bail = false })
unfolding clap_on_literals
nothing_asked = refl

budget_apart : asked (codes "--budget" ∷ codes "7" ∷ []) ≡ Some (record { budget = 7; bail = false })
unfolding clap_on_literals
budget_apart = refl

budget_and_bail : asked (codes "--budget=7" ∷ codes "--bail" ∷ []) ≡ Some (record { budget = 7; bail = true })
unfolding clap_on_literals
budget_and_bail = refl

bail_and_budget : asked (codes "--bail" ∷ codes "--budget" ∷ codes "1099511627776" ∷ []) ≡ Some (record { budget = 1099511627776; bail = true })
unfolding clap_on_literals
bail_and_budget = refl

-- digits, a plus in front and zeros too
budget_with_a_plus : asked (codes "--budget=+5" ∷ []) ≡ Some (record { budget = 5; bail = false })
unfolding clap_on_literals
budget_with_a_plus = refl

budget_with_zeros : asked (codes "--budget" ∷ codes "007" ∷ []) ≡ Some (record { budget = 7; bail = false })
unfolding clap_on_literals
budget_with_zeros = refl

-- `--` ends the options, and nothing has to stand behind it
options_end : asked (codes "--" ∷ []) ≡ Some (record { budget = DEFAULT_BUDGET; bail = false })
unfolding clap_on_literals
options_end = refl

no_option_behind_the_end : asked (codes "--" ∷ codes "--bail" ∷ []) ≡ None
unfolding clap_on_literals
no_option_behind_the_end = refl

bail_twice : asked (codes "--bail" ∷ codes "--bail" ∷ []) ≡ None
unfolding clap_on_literals
bail_twice = refl

budget_twice : asked (codes "--budget=1" ∷ codes "--budget=1" ∷ []) ≡ None
unfolding clap_on_literals
budget_twice = refl

budget_of_nothing : asked (codes "--budget" ∷ codes "0" ∷ []) ≡ None
unfolding clap_on_literals
budget_of_nothing = refl

budget_too_large : asked (codes "--budget" ∷ codes "1099511627777" ∷ []) ≡ None
unfolding clap_on_literals
budget_too_large = refl

budget_alone : asked (codes "--budget" ∷ []) ≡ None
unfolding clap_on_literals
budget_alone = refl

other_option : asked (codes "--make" ∷ codes "3" ∷ []) ≡ None
unfolding clap_on_literals
other_option = refl

short_help : asked (codes "-h" ∷ []) ≡ None
unfolding clap_on_literals
short_help = refl

help : asked (codes "--help" ∷ []) ≡ None
unfolding clap_on_literals
help = refl

version : asked (codes "--version" ∷ []) ≡ None
unfolding clap_on_literals
version = refl

empty_word : asked ([] ∷ []) ≡ None
unfolding clap_on_literals
empty_word = refl

plain_word : asked (codes "x" ∷ []) ≡ None
unfolding clap_on_literals
plain_word = refl
