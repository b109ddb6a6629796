-- The command line of `sqlsh`, as clap reads it.
use Rattle.std.specs.Prelude.{◌≡◌, ◌⊎◌, ℕ, Bool, true, false, List, Option, Some, None, codes, if◌then◌else◌}
use Rattle.std.specs.Option.{option_map_or}
use Rattle.std.specs.Str.{bytes_eq}
use Rattle.std.specs.Str.Parse.{digits_value, without_leading_plus}
use Rattle.clap.specs.Words.{App, Row, Rule, Text, matches_of, new_app, new_rule, one_of, takes, with_rule}
use Rattle.clap.specs.Simple.{on_top}
use Rattle.clap.specs.declared.builder.action.ArgAction.TheVariants.{Set, SetTrue}
use Rattle.clap.specs.declared.builder.value_parser.ValueParser.TheVariants as parser
use Rattle.eng_value.specs.declared.limits.TheConstants.{DEFAULT_BUDGET}
use Rattle.sql_meaning.specs.declared.script.Options.{Options}

-- ---- the command

-- `--budget N`, where N is a number from 1 to the default
abbrev pub budget_rule : Rule
budget_rule = record (new_rule (codes "budget")) {
  long = Some (codes "budget");
  action = Some Set;
  parser = Some (parser.Unsigned 1 DEFAULT_BUDGET);
}

-- `--bail`
abbrev pub bail_rule : Rule
bail_rule = record (new_rule (codes "bail")) {
  long = Some (codes "bail");
  action = Some SetTrue;
  parser = Some parser.Bool;
}

-- a command that answers neither `--help` nor `--version`
abbrev pub without_help : App → App
without_help = on_top (λ s. record s { disable_help_flag = true; disable_version_flag = true })

-- `sqlsh [--budget N] [--bail]`
abbrev pub sqlsh : App
sqlsh = with_rule (with_rule (without_help (new_app (codes "sqlsh"))) budget_rule) bail_rule

-- ---- what it asks for

-- the number that the value of `--budget` spells, or the default
abbrev pub budget_of : Option Text → ℕ
budget_of value = option_map_or (λ text. digits_value 10 (without_leading_plus text)) value DEFAULT_BUDGET

-- clap gives a flag one of two texts
abbrev pub IsFlagText : Text → Type 0
IsFlagText text = (text ≡ codes "true") ⊎ (text ≡ codes "false")

-- whether the text of `--bail` is that of a flag that was given
abbrev pub bail_of : Option Text → Bool
bail_of value = option_map_or (bytes_eq (codes "true")) value false

-- what the matches of the command say, where `one_of` is the text that was found for an id
abbrev pub options_in : List Row → Options
options_in rows = record {
  budget = budget_of (one_of (codes "budget") rows);
  bail = bail_of (one_of (codes "bail") rows);
}

-- what the words ask for, the program's name first; none where clap refuses them, that is, where `takes` is false
abbrev pub options_of : List Text → Option Options
options_of words = if takes sqlsh words then Some (options_in (matches_of sqlsh words)) else None
