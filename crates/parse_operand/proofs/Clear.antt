-- One token of look-ahead tells what to do in each rule, and with which kinds each begins.
use Rattle.std.proofs.Common.{◌≡◌, [], ◌∷◌, None, refl}
use Rattle.sql_tree.specs.declared.token.TokenKind.TheVariants as kind
use Rattle.sql_grammar.specs.Rules.{first}
use Rattle.sql_grammar.specs.Grammar.{names, literal_kinds, literal, parameter, call, of_table, named, enclosed, existing, casting, choosing, exprs, arm, some_arguments, all_rules}
use Rattle.sql_grammar.specs.Queries.{query, all_query_rules}
use Rattle.parse_operand.specs.Parts.{branches}

pub first_literal : first literal ≡ literal_kinds
unfolding all_rules
first_literal = refl

pub first_parameter : first parameter ≡ kind.Parameter ∷ []
unfolding all_rules
first_parameter = refl

pub first_named : first named ≡ names
unfolding all_rules
first_named = refl

pub first_enclosed : first enclosed ≡ kind.LeftParen ∷ []
unfolding all_rules
first_enclosed = refl

pub first_existing : first existing ≡ kind.Exists ∷ []
unfolding all_rules
first_existing = refl

pub first_casting : first casting ≡ kind.Cast ∷ []
unfolding all_rules
first_casting = refl

pub first_choosing : first choosing ≡ kind.Case ∷ []
unfolding all_rules
first_choosing = refl

pub first_of_table : first of_table ≡ kind.Dot ∷ []
unfolding all_rules
first_of_table = refl

pub first_call : first call ≡ kind.LeftParen ∷ []
unfolding all_rules
first_call = refl

pub first_arm : first arm ≡ kind.When ∷ []
unfolding all_rules
first_arm = refl

pub first_branches : first (branches None) ≡ kind.When ∷ []
unfolding all_rules branches
first_branches = refl

pub first_exprs : first exprs ≡ kind.Not ∷ kind.Minus ∷ kind.Plus ∷ kind.Tilde ∷ kind.Number ∷ kind.Text ∷ kind.Blob ∷ kind.Null ∷ kind.True ∷ kind.False ∷ kind.Parameter ∷ kind.Word ∷ kind.QuotedName ∷ kind.Abort ∷ kind.After ∷ kind.Asc ∷ kind.Before ∷ kind.Begin ∷ kind.By ∷ kind.Deferred ∷ kind.Desc ∷ kind.Each ∷ kind.Exclusive ∷ kind.Explain ∷ kind.First ∷ kind.For ∷ kind.Ignore ∷ kind.Immediate ∷ kind.Instead ∷ kind.Key ∷ kind.Last ∷ kind.Nulls ∷ kind.Of ∷ kind.Offset ∷ kind.Plan ∷ kind.Pragma ∷ kind.Query ∷ kind.Release ∷ kind.Replace ∷ kind.Rollback ∷ kind.Row ∷ kind.Trigger ∷ kind.View ∷ kind.Virtual ∷ kind.LeftParen ∷ kind.Exists ∷ kind.Cast ∷ kind.Case ∷ kind.Raise ∷ []
unfolding all_rules
first_exprs = refl

pub first_some_arguments : first some_arguments ≡ kind.Star ∷ kind.Distinct ∷ kind.Not ∷ kind.Minus ∷ kind.Plus ∷ kind.Tilde ∷ kind.Number ∷ kind.Text ∷ kind.Blob ∷ kind.Null ∷ kind.True ∷ kind.False ∷ kind.Parameter ∷ kind.Word ∷ kind.QuotedName ∷ kind.Abort ∷ kind.After ∷ kind.Asc ∷ kind.Before ∷ kind.Begin ∷ kind.By ∷ kind.Deferred ∷ kind.Desc ∷ kind.Each ∷ kind.Exclusive ∷ kind.Explain ∷ kind.First ∷ kind.For ∷ kind.Ignore ∷ kind.Immediate ∷ kind.Instead ∷ kind.Key ∷ kind.Last ∷ kind.Nulls ∷ kind.Of ∷ kind.Offset ∷ kind.Plan ∷ kind.Pragma ∷ kind.Query ∷ kind.Release ∷ kind.Replace ∷ kind.Rollback ∷ kind.Row ∷ kind.Trigger ∷ kind.View ∷ kind.Virtual ∷ kind.LeftParen ∷ kind.Exists ∷ kind.Cast ∷ kind.Case ∷ kind.Raise ∷ []
unfolding all_rules
first_some_arguments = refl

pub first_query : first query ≡ kind.With ∷ kind.Select ∷ kind.Values ∷ []
unfolding all_query_rules
first_query = refl

pub ruleset primary_firsts = (first_literal, first_parameter, first_named, first_enclosed, first_existing, first_casting, first_choosing)

pub ruleset behind_name_firsts = (first_of_table, first_call)
