-- What a function that parses ensures.
use Rattle.std.specs.Prelude.{◌≡◌, ◌≢◌, Result, Ok, Err, List, ◌++◌}
use Rattle.sql_tree.specs.declared.token.Token.{Token}
use Rattle.sql_tree.specs.declared.expr.Expr.{Expr}
use Rattle.sql_grammar.specs.declared.counts.Counts.{Counts}
use Rattle.sql_grammar.specs.declared.counts.Role.{Role}
use Rattle.sql_grammar.specs.Rules.{Kinds, Outcome, ◌>>=◌, Done, Stop, Why, Wrong, Over, one}
use Rattle.sql_grammar.specs.Grammar.{applied}
use Rattle.parse_cursor.specs.declared.error.ParseError.{ParseError}
use Rattle.parse_cursor.specs.declared.error.ParseError.TheVariants.{Memory, Syntax, TooMuch}

abbrev pub why : ParseError → Why
why Memory = Wrong
why Syntax = Wrong
why (TooMuch l) = Over l

-- what reading gave, unless memory ran out, with the counts and the tokens that are left
abbrev pub Gives : {A : Type 0} → Outcome A → Result A ParseError → Counts → List Token → Type 0
Gives o (Ok a) c new = o ≡ Done a c new
Gives o (Err e) c new = e ≢ Memory → o ≡ Stop (why e) new

-- what was found before, and what is found from there on
abbrev pub collected : {A : Type 0} → List A → Outcome (List A) → Outcome (List A)
collected found o = o >>= λ more c end. Done (found ++ more) c end

-- what stands to the left, with the suffixes that are found from there on
abbrev pub apply_to : Expr → Outcome (List (Expr → Expr)) → Outcome Expr
apply_to left o = o >>= λ fs c end. Done (applied left fs) c end

-- what is found, of what stands to the left
abbrev pub apply_one : {A : Type 0} → A → Outcome (A → Expr) → Outcome Expr
apply_one left o = o >>= λ f c rest. Done (f left) c rest

-- what was found, behind a closing token
abbrev pub closed : {A : Type 0} → A → Role → Kinds → Counts → List Token → Outcome A
closed found m ks c ts = one m ks c ts >>= λ t e rest. Done found e rest
