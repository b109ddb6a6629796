-- What the code's scopes are to the definition.
use Rattle.std.specs.Prelude.{◌≡◌, ◌⊎◌, Result, Err, ℕ, List, [], ◌∷◌, map, Option, Some, None, Ok, if◌then◌else◌}
use Rattle.std.specs.Option.{option_map}
use Rattle.eng_entry.specs.Names.{is_same_name}
use Rattle.eng_entry.specs.declared.entry.Entry.{Entry}
use Rattle.eng_value.specs.declared.cause.Cause.{Cause}
use Rattle.eng_value.specs.declared.cause.Cause.TheVariants.{Mem}
use Rattle.sql_tree.specs.declared.expr.Expr.{Expr}
use Rattle.sql_tree.specs.declared.expr.Expr.TheOpen.{ResultColumn-F}
use Rattle.sql_tree.specs.declared.query.Query.{Query, out-Query}
use Rattle.sql_tree.specs.declared.query.ResultColumn.{ResultColumn}
use Rattle.sql_tree.specs.declared.query.SpannedExpr.{out-SpannedExpr}
use Rattle.sql_tree.specs.Layers.{ResultLayer, of_result as layer_of}
use Rattle.sql_words.specs.Spelled.{name_at}
use Rattle.bound_tree.specs.declared.units.BoundUnit.{BoundUnit}
use Rattle.sql_words.specs.Refusals.{◌>>=◌}
use Rattle.sql_bound.specs.Expressions.{collation_called}
use Rattle.sql_bound.specs.Operands.{collated}
use Rattle.sql_bound.specs.Refusals.{Checked}
use Rattle.sql_bound.specs.declared.scopes.Operand.{Operand}
use Rattle.sql_bound.specs.declared.scopes.Sight.{Sight}
use Rattle.sql_tree.specs.declared.token.Token.{Token}
use Rattle.sql_bound.specs.Froms.{Inside}
use Rattle.eng_entry.specs.Entries.{Entries}
use Rattle.sql_bound.specs.Limits.{most_queries}
use Rattle.sql_bound.specs.declared.facts.HostFacts.{HostFacts}
use Rattle.sql_bound.specs.declared.scopes.Allowed.{Allowed}
use Rattle.sql_bound.specs.HostFacts.{facts_of}
use Rattle.sql_bound.specs.Results.{aliases_of}
use Rattle.sql_bound.specs.Scopes.{Around, bare_in, nearest, Level, Outer, Scope, UnitsAnswer, in_statement}
use Rattle.sql_bound.specs.Queries.{Written}
use Rattle.sql_bound.specs.Trees.{depth_of, of_compound, of_limit, of_part, of_query, of_result, of_table, of_term, outer_at, within}
use Rattle.sql_bound.specs.declared.scopes.Asked.{Asked}
use Rattle.sql_bound.specs.declared.scopes.Standing.TheVariants.{Nowhere}
use Rattle.sql_bound.specs.declared.scopes.Standing.{Standing}
use Rattle.sql_bound.specs.declared.scopes.WithEntry.{WithEntry}
use Rattle.bind_query.specs.Where.{Where}

abbrev pub Levels : Type 0
Levels = List Level

abbrev pub around_of : Where → Around
around_of w = record { catalog = w.catalog; facts = facts_of w.facts }

abbrev pub outer_of : Where → Levels → List WithEntry → Outer
outer_of w ls ts =
    record {
      text = w.text;
      within = w.within;
      around = around_of w;
      depth = depth_of (λ text. of_query) (around_of w) w.depth;
      levels = ls;
      tables = ts;
      allowed = w.allowed;
    }

-- without names of results
abbrev pub plain_of : Where → Levels → List WithEntry → Scope
plain_of w ls ts = record { outer = outer_of w ls ts; aliases = []; aggregates = w.standing }

abbrev pub scope_of : Where → Levels → List WithEntry → Scope
scope_of w ls ts = record (plain_of w ls ts) { aliases = aliases_of w.text (plain_of w ls ts) (map of_result w.results) }

-- the query of a view, one level deeper
abbrev pub views_at : Around → ℕ → List ℕ → List ℕ → Query → List BoundUnit → UnitsAnswer Asked
views_at around depth name text q units =
    (of_query q).bound (within name (outer_at around (depth_of (λ text. of_query) around depth) text [] in_statement)) units

-- in a query that is entered, whose own queries stand at the depth
abbrev pub inside_of : Where → Levels → List WithEntry → Inside
inside_of w ls ts = record { outer = outer_of w ls ts; views = views_at (around_of w) w.depth }

-- where no names of results count
abbrev pub without_results : Where → Where
without_results w = record w { results = [] }

-- where no aggregate may stand
abbrev pub within_aggregate : Where → Where
within_aggregate w = record w { standing = Nowhere }

-- ---- names of results

-- the first result of this name behind AS
abbrev pub named_here : List ℕ → List ℕ → ResultLayer → Option Expr → Option Expr
named_here text name ResultColumn-F.All rest = rest
named_here text name (ResultColumn-F.AllOf t) rest = rest
named_here text name (ResultColumn-F.Expression x None) rest = rest
named_here text name (ResultColumn-F.Expression x (Some t)) rest = if is_same_name (name_at text t) name then Some (out-SpannedExpr x).expr else rest

abbrev pub result_called : List ℕ → List ResultColumn → List ℕ → Option Expr
result_called text [] name = None
result_called text (r ∷ rs) name = named_here text name (layer_of r) (result_called text rs name)

-- ---- the column of the own FROM

abbrev pub own_sight : Levels → List ℕ → Checked (Option Sight)
own_sight [] name = Ok None
own_sight (own ∷ outer) name = nearest name (bare_in name) (own ∷ [])

-- ---- COLLATE

abbrev pub collated_by : Where → Token → Operand → Checked Operand
collated_by w t a = collation_called (facts_of w.facts) (name_at w.text t) >>= λ c. Ok (collated c a)

-- ---- other places

-- in a query whose own queries stand at this depth
abbrev pub entered : ℕ → Where → Where
entered depth w = record w { depth = depth; standing = Nowhere; results = [] }

-- in a clause of a SELECT
abbrev pub clause : Standing → List ResultColumn → Where → Where
clause standing results w = record w { standing = standing; results = results }

-- in the text of a view
abbrev pub in_view : Entry → Where → Where
in_view entry w = record w { text = entry.text; within = Some entry.name; allowed = in_statement; standing = Nowhere; results = [] }

-- the own FROM
abbrev pub own_of : Levels → Level
own_of [] = []
own_of (own ∷ outer) = own

-- ---- a query as it is written

abbrev pub written_of : Query → Written
written_of q =
    record {
      tables = map of_table (out-Query q).with;
      first = of_part (out-Query q).first;
      others = map of_compound (out-Query q).others;
      order = map of_term (out-Query q).order_by;
      limit = option_map of_limit (out-Query q).limit;
    }

-- ---- results that stand for others

-- a result is what this makes of it
abbrev pub AnswersAs : {A B : Type 0} → (A → B) → Result B Cause → Result A Cause → Type 0
AnswersAs f meant (Ok a) = meant ≡ Ok (f a)
AnswersAs f meant (Err why) = (why ≡ Mem) ⊎ (meant ≡ Err why)

-- ---- where a text begins

-- a statement's text, or that of the view or trigger of an entry: queries may stand as deep in it as in any
abbrev pub in_text : List ℕ → Option (List ℕ) → Entries → HostFacts → Allowed → Where
in_text text within catalog facts allowed =
    record { text = text; within = within; catalog = catalog; facts = facts; depth = most_queries; allowed = allowed; standing = Nowhere; results = [] }
