-- Tables of modules and functions of hosts.
use Rattle.std.specs.Prelude.{◌≡◌, true, false, List, [], ◌∷◌, map, pos, Option, Some, None, if◌then◌else◌, codes, refl}
use Rattle.eng_entry.specs.Names.{is_same_name}
use Rattle.eng_value.specs.declared.cause.Cause.TheVariants.{Arity, Misuse, Unknown}
use Rattle.eng_value.specs.declared.cause.NameKind.TheVariants as kind
use Rattle.eng_value.specs.declared.modules.ColumnKind.TheVariants as column_kind
use Rattle.eng_value.specs.declared.modules.ColumnKind.{ColumnKind}
use Rattle.eng_value.specs.declared.modules.ModColumn.{ModColumn}
use Rattle.eng_value.specs.declared.value.Value.TheVariants as value
use Rattle.sql_grammar.specs.Marks.{count}
use Rattle.sql_grammar.specs.Statements.{all_statement_rules}
use Rattle.sql_lex.specs.Pieces.{word_kind}
use Rattle.sql_lex.specs.Tokens.{tokens_of}
use Rattle.sql_words.specs.Spelled.{the_text_test}
use Rattle.sql_words.specs.declared.literal.Literal.TheVariants as literal
use Rattle.bound_tree.specs.Exprs as e
use Rattle.bound_tree.specs.declared.units.BoundCore.{BoundCore}
use Rattle.bound_tree.specs.declared.units.BoundItem.{BoundItem}
use Rattle.bound_tree.specs.declared.units.BoundSource.TheVariants.{Module}
use Rattle.sql_bound.specs.Carriers.{All, AllOf}
use Rattle.sql_bound.specs.Samples.{around_of, bound_over, call, called_with, col, commanded_over, core, core_at, delete, dot, lit, named, named_as, natural, no_facts, query, refused_over, res, results_at, scalar, sources_at, span, token_at, using, why}
use Rattle.sql_bound.specs.Scopes.{Around, Facts}

-- ---- a module whose name is a table: value, and the arguments start, stop and step; and a function of one argument

abbrev series_columns : List ModColumn
series_columns =
    record { name = codes "value"; type_text = []; kind = column_kind.Shown } ∷ record { name = codes "start"; type_text = []; kind = column_kind.Required }
    ∷ record { name = codes "stop"; type_text = []; kind = column_kind.Required } ∷ record { name = codes "step"; type_text = []; kind = column_kind.Optional } ∷ []

abbrev facts : Facts
facts = record no_facts {
  scalar = λ name. if is_same_name name (codes "twice") then Some (pos 1, false) else None;
  aggregate = λ name. if is_same_name name (codes "median") then Some (pos 1) else None;
  host_module = λ name. if is_same_name name (codes "series") then Some (true, false) else None;
  columns = λ name table. Some series_columns;
}

abbrev hosts : Around
hosts = record (around_of [] []) { facts = facts }

abbrev one : e.BoundExpr
one = e.Literal (literal.Value (value.Integer (pos 1)))

-- an argument may name the items on the left, and `*` shows no argument
arguments_on_the_left : sources_at 0 (bound_over hosts (codes "SELECT 1 FROM series(1,1) AS x, series(x.value,1) AS y") (λ t. query (core (res t (lit t 1) 1 1 ∷ []) (called_with t 3 (lit t 5 ∷ lit t 7 ∷ []) 10 ∷ called_with t 12 (dot t 14 16 ∷ lit t 18 ∷ []) 21 ∷ []) None)))
    ≡ Module (codes "series") (codes "series") 0 (one ∷ one ∷ []) ∷ Module (codes "series") (codes "series") 0 (e.Column 0 0 ∷ one ∷ []) ∷ []
unfolding all_statement_rules count tokens_of word_kind the_text_test
arguments_on_the_left = refl

not_of_itself : refused_over hosts (codes "SELECT 1 FROM series(x.value) AS x") (λ t. query (core (res t (lit t 1) 1 1 ∷ []) (called_with t 3 (dot t 5 7 ∷ []) 10 ∷ []) None)) ≡ Some (Unknown kind.Column (codes "x.value"))
unfolding all_statement_rules count tokens_of word_kind the_text_test
not_of_itself = refl

shown : results_at 0 (bound_over hosts (codes "SELECT *, stop FROM series AS x") (λ t. query (core (All ∷ res t (col t 3) 3 3 ∷ []) (called_with t 5 [] 7 ∷ []) None))) ≡ e.Column 0 0 ∷ e.Column 0 2 ∷ []
unfolding all_statement_rules count tokens_of word_kind the_text_test
shown = refl

-- by its name it shows what is not hidden, which may be nothing
abbrev hidden_facts : Facts
hidden_facts = record facts { columns = λ name table. Some (record { name = codes "start"; type_text = []; kind = column_kind.Required } ∷ []) }

abbrev with_hidden : Around
with_hidden = record (around_of [] []) { facts = hidden_facts }

nothing_shown : refused_over with_hidden (codes "SELECT x.*, 1 FROM series AS x") (λ t. query (core (AllOf (token_at t 1) ∷ res t (lit t 5) 5 5 ∷ []) (called_with t 7 [] 9 ∷ []) None)) ≡ None
unfolding all_statement_rules count tokens_of word_kind the_text_test
nothing_shown = refl

-- NATURAL passes over what is hidden, though another column of the name is joined
abbrev with_start : Around
with_start = record (around_of (codes "CREATE TABLE w(start)" ∷ []) []) { facts = facts }

natural_by_what_is_shown : results_at 0 (bound_over with_start (codes "SELECT * FROM w, series(1,2) AS g NATURAL JOIN w") (λ t. query (core (All ∷ []) (named t 3 ∷ called_with t 5 (lit t 7 ∷ lit t 9 ∷ []) 12 ∷ natural t 15 ∷ []) None))) ≡ e.Column 0 0 ∷ e.Column 1 0 ∷ []
unfolding all_statement_rules count tokens_of word_kind the_text_test
natural_by_what_is_shown = refl

-- an item tells which arguments its module must have
abbrev kinds_of : Option BoundCore → List (List ColumnKind)
kinds_of None = []
kinds_of (Some c) = map (λ (i : BoundItem). i.kinds) c.items

arguments_by_kind : kinds_of (core_at 0 (bound_over with_start (codes "SELECT 1 FROM series, w") (λ t. query (core (res t (lit t 1) 1 1 ∷ []) (named t 3 ∷ named t 5 ∷ []) None)))) ≡ (column_kind.Shown ∷ column_kind.Required ∷ column_kind.Required ∷ column_kind.Optional ∷ []) ∷ [] ∷ []
unfolding all_statement_rules count tokens_of word_kind the_text_test
arguments_by_kind = refl

-- USING joins by what is hidden, too
using_what_is_hidden : results_at 0 (bound_over with_start (codes "SELECT start FROM w JOIN series USING (start)") (λ t. query (core (res t (col t 1) 1 1 ∷ []) (named t 3 ∷ using t 5 (8 ∷ []) ∷ []) None))) ≡ e.Column 0 0 ∷ []
unfolding all_statement_rules count tokens_of word_kind the_text_test
using_what_is_hidden = refl

too_many_arguments : refused_over hosts (codes "SELECT 1 FROM series(1,1,1,nosuch) AS x") (λ t. query (core (res t (lit t 1) 1 1 ∷ []) (called_with t 3 (lit t 5 ∷ lit t 7 ∷ lit t 9 ∷ col t 11 ∷ []) 14 ∷ []) None)) ≡ Some (Arity (codes "series"))
unfolding all_statement_rules count tokens_of word_kind the_text_test
too_many_arguments = refl

read_only : why (commanded_over hosts (codes "DELETE FROM series WHERE nosuch") (λ t. delete t 2 (Some (col t 4)))) ≡ Some (Misuse (codes "series"))
unfolding all_statement_rules count tokens_of word_kind the_text_test
read_only = refl

-- an index of its name does not hide it, in a FROM as where it is written
abbrev with_index : Around
with_index = record (around_of (codes "CREATE TABLE w(start)" ∷ codes "CREATE INDEX series ON w(start)" ∷ []) []) { facts = facts }

beside_an_index : (sources_at 0 (bound_over with_index (codes "SELECT 1 FROM series") (λ t. query (core (res t (lit t 1) 1 1 ∷ []) (named t 3 ∷ []) None))) ≡ Module (codes "series") (codes "series") 0 [] ∷ []) × (why (commanded_over with_index (codes "DELETE FROM series") (λ t. delete t 2 None)) ≡ Some (Misuse (codes "series")))
unfolding all_statement_rules count tokens_of word_kind the_text_test
beside_an_index = (refl, refl)

-- a table of a module keeps its name beside an alias, and is refused where the module has gone
abbrev with_table : Facts → Around
with_table hosts = record (around_of (codes "CREATE VIRTUAL TABLE k USING series" ∷ []) []) { facts = hosts }

beside_an_alias : sources_at 0 (bound_over (with_table facts) (codes "SELECT 1 FROM k AS x") (λ t. query (core (res t (lit t 1) 1 1 ∷ []) (named_as t 3 5 ∷ []) None))) ≡ Module (codes "k") (codes "series") 0 [] ∷ []
unfolding all_statement_rules count tokens_of word_kind the_text_test
beside_an_alias = refl

its_module_has_gone : (refused_over (with_table no_facts) (codes "SELECT 1 FROM k") (λ t. query (core (res t (lit t 1) 1 1 ∷ []) (named t 3 ∷ []) None)) ≡ Some (Unknown kind.Module (codes "series"))) × (why (commanded_over (with_table no_facts) (codes "DELETE FROM k") (λ t. delete t 2 None)) ≡ Some (Unknown kind.Module (codes "series")))
unfolding all_statement_rules count tokens_of word_kind the_text_test
its_module_has_gone = (refl, refl)

-- ---- functions of hosts

a_function : results_at 0 (bound_over hosts (codes "SELECT twice(1)") (λ t. query (core (res t (call t 1 (lit t 3 ∷ [])) 1 4 ∷ []) [] None))) ≡ e.HostCall (codes "twice") (one ∷ []) ∷ []
unfolding all_statement_rules count tokens_of word_kind the_text_test
a_function = refl

its_arity : refused_over hosts (codes "SELECT twice(1,2)") (λ t. query (core (res t (call t 1 (lit t 3 ∷ lit t 5 ∷ [])) 1 6 ∷ []) [] None)) ≡ Some (Arity (codes "twice"))
unfolding all_statement_rules count tokens_of word_kind the_text_test
its_arity = refl

-- and in whatever case it is written it is one function
in_another_case : refused_over with_start (codes "SELECT TWICE(start) FROM w GROUP BY twice(start)") (λ t. query (record (core (res t (call t 1 (col t 3 ∷ [])) 1 4 ∷ []) (named t 6 ∷ []) None) { group_by = span t (call t 9 (col t 11 ∷ [])) 9 12 ∷ [] })) ≡ None
unfolding all_statement_rules count tokens_of word_kind the_text_test
in_another_case = refl

-- so are an aggregate and a table of a host
one_unit_in_another_case : results_at 1 (bound_over hosts (codes "SELECT (SELECT median(value) FROM series AS x), (SELECT MEDIAN(value) FROM SERIES AS x)") (λ t. query (core (res t (scalar (query (core (res t (call t 3 (col t 5 ∷ [])) 3 6 ∷ []) (called_with t 8 [] 10 ∷ []) None))) 1 11 ∷ res t (scalar (query (core (res t (call t 15 (col t 17 ∷ [])) 15 18 ∷ []) (called_with t 20 [] 22 ∷ []) None))) 13 23 ∷ []) [] None))) ≡ e.Scalar 0 [] ∷ e.Scalar 0 [] ∷ []
unfolding all_statement_rules count tokens_of word_kind the_text_test
one_unit_in_another_case = refl
