use Rattle.std.proofs.Common.{map, string_bytes}
use Rattle.clap.specs.Words.{found_of}
use Rattle.shell_words.proofs.Taken.{asked, none_asked}
use Rattle.shell_words.proofs.read_options.Goals as goal

pub returns-in_err-matches-clause-refused : goal.returns-in_err-matches-clause-refused
returns-in_err-matches-clause-refused c =
    none_asked (map string_bytes c.args.words.now) c.from_residual.result c.in_err-matches.field-0.0 c.from_residual.ensures.1 c.in_err-matches.ensures.refused

pub returns-clause-read : goal.returns-clause-read
returns-clause-read c =
    let met = c.in_ok-matches in
    asked (map string_bytes c.args.words.now) (found_of met.matches) c.budget_in.result c.bail_in.result met.ensures.taken met.ensures.rows c.budget_in.ensures.value c.bail_in.ensures
