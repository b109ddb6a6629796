-- What worked examples are written with: what trees come to, by the tokens of a text, and entries by the texts of CREATEs. A tree's fold comes to the same, since it makes these steps; here nothing stands between the steps and what they compute.
use Rattle.std.specs.Prelude.{ℕ, suc, true, false, List, [], ◌∷◌, ◌++◌, map, Option, Some, None, Ok, Err, slice_get, slice_index_or, codes}
use Rattle.eng_entry.specs.declared.entry.Entry.{Entry}
use Rattle.eng_entry.specs.declared.entry.EntryKind.TheVariants as entry_kind
use Rattle.eng_entry.specs.declared.entry.EntryKind.{EntryKind}
use Rattle.eng_value.specs.declared.cause.Cause.{Cause}
use Rattle.sql_grammar.specs.Answers.{Answer, Tree, Syntax, TooMuch}
use Rattle.sql_lex.specs.Tokens.{tokens_of}
use Rattle.sql_tree.specs.declared.expr.Arguments.TheVariants as arguments
use Rattle.sql_tree.specs.declared.expr.BinaryOp.{BinaryOp}
use Rattle.sql_tree.specs.declared.expr.Expr.TheOpen.{Expr-F}
use Rattle.sql_tree.specs.declared.expr.UnaryOp.{UnaryOp}
use Rattle.sql_tree.specs.declared.query.CompoundOp.{CompoundOp}
use Rattle.sql_tree.specs.declared.query.Join.{Join}
use Rattle.sql_tree.specs.declared.statement.Command.TheVariants as command
use Rattle.sql_tree.specs.declared.statement.Command.{Command}
use Rattle.sql_tree.specs.declared.statement.ConflictChoice.TheVariants as choice
use Rattle.sql_tree.specs.declared.statement.ConflictChoice.{ConflictChoice}
use Rattle.sql_tree.specs.declared.statement.Definition.TheVariants as definition
use Rattle.sql_tree.specs.declared.statement.Definition.{Definition}
use Rattle.sql_tree.specs.declared.statement.Statement.{Statement}
use Rattle.sql_tree.specs.declared.token.Token.{Token}
use Rattle.sql_tree.specs.declared.token.TokenKind.TheVariants as token
use Rattle.sql_words.specs.Spelled.{name_at}
use Rattle.sql_words.specs.Bodies.{answer_of}
use Rattle.bound_tree.specs.Exprs.{BoundExpr}
use Rattle.bound_tree.specs.declared.statements.BoundCommand.TheVariants as bound_command
use Rattle.bound_tree.specs.declared.statements.BoundCommand.{BoundCommand}
use Rattle.bound_tree.specs.declared.units.BoundCore.{BoundCore}
use Rattle.bound_tree.specs.declared.units.BoundItem.{BoundItem}
use Rattle.bound_tree.specs.declared.units.BoundPart.TheVariants as bound_part
use Rattle.bound_tree.specs.declared.units.BoundPart.{BoundPart}
use Rattle.bound_tree.specs.declared.units.BoundSource.{BoundSource}
use Rattle.bound_tree.specs.declared.units.BoundUnit.TheVariants.{Queried, Recursed}
use Rattle.bound_tree.specs.declared.units.BoundUnit.{BoundUnit}
use Rattle.bound_tree.specs.declared.writes.BoundChange.{BoundChange}
use Rattle.sql_bound.specs.Carriers.{CoreParts, Expression, ItemParts, QueryParts, ResultParts, SpannedExpression, SetParts, Inserts, Updates, Deletes, RowParts, TableParts, TermParts, Unconstrained, Using, Table, Derived, Select, Values, One}
use Rattle.sql_bound.specs.Expressions.{expr_step}
use Rattle.sql_bound.specs.Recursions.{parts_of_query}
use Rattle.sql_bound.specs.Refusals.{Checked}
use Rattle.sql_bound.specs.Scopes.{Around, Facts, UnitsAnswer, in_statement}
use Rattle.sql_bound.specs.Statements.{rows_bound}
use Rattle.sql_bound.specs.Trees.{depth_of, full_depth, outer_at}
use Rattle.sql_bound.specs.Writes.{Opened}
use Rattle.sql_bound.specs.declared.scopes.Asked.{Asked}
use Rattle.sql_bound.specs.declared.scopes.ResultColumn.{ResultColumn}

-- ---- no host, and no savepoint

abbrev pub no_facts : Facts
no_facts = record {
  scalar = λ name. None;
  aggregate = λ name. None;
  collation = λ name. None;
  host_module = λ name. None;
  columns = λ name table. None;
  savepoint = λ name. false;
  recursive_triggers = false;
  rowids = true;
}

-- ---- the entries of what these texts create, in turn

abbrev pub owner_of : List ℕ → Definition → List ℕ
owner_of text (definition.Table t) = []
owner_of text (definition.Index i) = name_at text i.table
owner_of text (definition.View v) = []
owner_of text (definition.Trigger t) = name_at text t.table
owner_of text (definition.VirtualTable m) = name_at text m.module_name

abbrev pub kind_of : Definition → EntryKind
kind_of (definition.Table t) = entry_kind.Table
kind_of (definition.Index i) = entry_kind.Index
kind_of (definition.View v) = entry_kind.View
kind_of (definition.Trigger t) = entry_kind.Trigger
kind_of (definition.VirtualTable m) = entry_kind.Module

abbrev pub entry_of : ℕ → List ℕ → Statement → Command → List Entry
entry_of number text s (command.Create c) =
    record { kind = kind_of c.definition; name = name_at text c.name; owner = owner_of text c.definition; number = number; text = text; def = s } ∷ []
entry_of number text s other = []

abbrev pub entry_read : ℕ → List ℕ → Answer Statement → List Entry
entry_read number text (Tree s) = entry_of number text s s.command
entry_read number text (Syntax rest) = []
entry_read number text (TooMuch l rest) = []

abbrev pub entries_from : ℕ → List (List ℕ) → List Entry
entries_from number [] = []
entries_from number (text ∷ texts) = entry_read number text (answer_of text) ++ entries_from (suc number) texts

-- things of the one space, and triggers
abbrev pub around_of : List (List ℕ) → List (List ℕ) → Around
around_of texts triggers = record { catalog = record { names = entries_from 0 texts; triggers = entries_from 0 triggers }; facts = no_facts }

-- ---- trees over the tokens of a text, told by their places

abbrev pub no_token : Token
no_token = record { kind = token.Illegal; span = record { start = 0; end = 0 }; parameter = None }

abbrev pub plain_join : Join
plain_join = record { natural = false; left = false }

-- a text, cut into its tokens
abbrev pub token_at : List Token → ℕ → Token
token_at tokens n = slice_index_or tokens n no_token

module _ (tokens : List Token) where
  abbrev pub col : ℕ → Expression
  col n = expr_step (Expr-F.Column (token_at tokens n))

  abbrev pub dot : ℕ → ℕ → Expression
  dot m n = expr_step (Expr-F.TableColumn (token_at tokens m) (token_at tokens n))

  abbrev pub lit : ℕ → Expression
  lit n = expr_step (Expr-F.Literal (token_at tokens n))

  abbrev pub call : ℕ → List Expression → Expression
  call n args = expr_step (Expr-F.Call (token_at tokens n) arguments.All args None)

  abbrev pub starred : ℕ → Expression
  starred n = expr_step (Expr-F.Call (token_at tokens n) arguments.Star [] None)

  abbrev pub collate : Expression → ℕ → Expression
  collate x n = expr_step (Expr-F.Collate x (token_at tokens n))

  -- with DISTINCT
  abbrev pub call_distinct : ℕ → List Expression → Expression
  call_distinct n args = expr_step (Expr-F.Call (token_at tokens n) arguments.Distinct args None)

  -- with a FILTER
  abbrev pub call_filtered : ℕ → List Expression → Expression → Expression
  call_filtered n args filter = expr_step (Expr-F.Call (token_at tokens n) arguments.All args (Some filter))

  -- a table with these arguments, and its name behind AS
  abbrev pub called_with : ℕ → List Expression → ℕ → ItemParts
  called_with n args name = record { join = plain_join; source = Table (token_at tokens n) (Some args); alias = Some (token_at tokens name); constraint = Unconstrained }

  -- an expression with its text, from one token to another
  abbrev pub span : Expression → ℕ → ℕ → SpannedExpression
  span x m n = record { expr = x; text = record { start = (token_at tokens m).span.start; end = (token_at tokens n).span.end } }

  abbrev pub res : Expression → ℕ → ℕ → ResultParts
  res x m n = One (span x m n) None

  abbrev pub res_as : Expression → ℕ → ℕ → ℕ → ResultParts
  res_as x m n name = One (span x m n) (Some (token_at tokens name))

  abbrev pub named : ℕ → ItemParts
  named n = record { join = plain_join; source = Table (token_at tokens n) None; alias = None; constraint = Unconstrained }

  abbrev pub named_as : ℕ → ℕ → ItemParts
  named_as n name = record { join = plain_join; source = Table (token_at tokens n) None; alias = Some (token_at tokens name); constraint = Unconstrained }

  abbrev pub using : ℕ → List ℕ → ItemParts
  using n names = record { join = plain_join; source = Table (token_at tokens n) None; alias = None; constraint = Using (map (token_at tokens) names) }

  abbrev pub natural : ℕ → ItemParts
  natural n = record { join = record { natural = true; left = false }; source = Table (token_at tokens n) None; alias = None; constraint = Unconstrained }

  -- with one argument, which follows
  abbrev pub called : ℕ → ItemParts
  called n = record { join = plain_join; source = Table (token_at tokens n) (Some (expr_step (Expr-F.Literal (token_at tokens (suc (suc n)))) ∷ [])); alias = None; constraint = Unconstrained }

  abbrev pub nested : QueryParts → ItemParts
  nested q = record { join = plain_join; source = Derived q; alias = None; constraint = Unconstrained }

  abbrev pub common : ℕ → List ℕ → QueryParts → TableParts
  common n names q = record { name = token_at tokens n; columns = map (token_at tokens) names; query = q }

  abbrev pub by : SpannedExpression → TermParts
  by x = record { key = x; descending = false; nulls = None }

abbrev pub both : BinaryOp → Expression → Expression → Expression
both o a b = expr_step (Expr-F.Binary o a b)

abbrev pub unary : UnaryOp → Expression → Expression
unary o a = expr_step (Expr-F.Unary o a)

abbrev pub between : Expression → Expression → Expression → Expression
between a low high = expr_step (Expr-F.Between a low high)

abbrev pub parameter : Expression
parameter = expr_step (Expr-F.Parameter no_token)

abbrev pub raise_ignore : Expression
raise_ignore = expr_step Expr-F.RaiseIgnore

abbrev pub scalar : QueryParts → Expression
scalar q = expr_step (Expr-F.Subquery q)

abbrev pub exists : QueryParts → Expression
exists q = expr_step (Expr-F.Exists q)

abbrev pub in_query : Expression → QueryParts → Expression
in_query a q = expr_step (Expr-F.InQuery a q)

abbrev pub core : List ResultParts → List ItemParts → Option Expression → CoreParts
core results from filter = record { distinct = false; results = results; from = from; filter = filter; group_by = []; having = None }

abbrev pub query : CoreParts → QueryParts
query c = parts_of_query (record { tables = []; first = Select c; others = []; order = []; limit = None })

abbrev pub ordered : CoreParts → List TermParts → QueryParts
ordered c terms = parts_of_query (record { tables = []; first = Select c; others = []; order = terms; limit = None })

abbrev pub compound : CoreParts → CompoundOp → CoreParts → List TermParts → QueryParts
compound c o d terms = parts_of_query (record { tables = []; first = Select c; others = record { op = o; part = Select d } ∷ []; order = terms; limit = None })

abbrev pub with_tables : List TableParts → CoreParts → QueryParts
with_tables ts c = parts_of_query (record { tables = ts; first = Select c; others = []; order = []; limit = None })

-- ---- writes and triggers, by the tokens of their texts

module _ (tokens : List Token) where
  abbrev pub insert : ConflictChoice → ℕ → List ℕ → Option QueryParts → RowParts
  insert choice n columns source = Inserts (record { choice = choice; table = token_at tokens n; columns = map (token_at tokens) columns; source = source })

  abbrev pub set : ℕ → Expression → SetParts
  set n x = record { column = token_at tokens n; value = x }

  abbrev pub update : ℕ → List SetParts → Option Expression → RowParts
  update n sets filter = Updates (record { choice = choice.Abort; table = token_at tokens n; sets = sets; filter = filter })

  abbrev pub delete : ℕ → Option Expression → RowParts
  delete n filter = Deletes (record { table = token_at tokens n; filter = filter })

abbrev pub values : List (List Expression) → QueryParts
values rows = parts_of_query (record { tables = []; first = Values rows; others = []; order = []; limit = None })

-- ---- what a query is bound to, where queries may stand so deep

-- a query that stands for the tree of each view; where no view is used it is any
abbrev pub no_view : QueryParts
no_view = values []

abbrev pub asked_by : QueryParts → Around → ℕ → List ℕ → QueryParts → UnitsAnswer Asked
asked_by view around deep text q = q.bound (outer_at around (depth_of (λ text tree. view) around deep) text [] in_statement) []

abbrev pub asked_in : Around → ℕ → List ℕ → QueryParts → UnitsAnswer Asked
asked_in = asked_by no_view

abbrev pub refusal_of : UnitsAnswer Asked → Option Cause
refusal_of (Ok a) = None
refusal_of (Err why) = Some why

abbrev pub units_of : UnitsAnswer Asked → List BoundUnit
units_of (Ok a) = a.1
units_of (Err why) = []

-- ---- what is looked at in a unit

abbrev pub core_in : BoundUnit → Option BoundCore
core_in (Queried q) = core_of_part q.first
  where
    core_of_part : BoundPart → Option BoundCore
    core_of_part (bound_part.Select c) = Some c
    core_of_part (bound_part.Values rows) = None
core_in (Recursed r) = Some r.part

abbrev pub core_at : ℕ → UnitsAnswer Asked → Option BoundCore
core_at n answer = of_option (slice_get (units_of answer) n)
  where
    of_option : Option BoundUnit → Option BoundCore
    of_option None = None
    of_option (Some u) = core_in u

abbrev pub conjuncts_at : ℕ → UnitsAnswer Asked → List BoundExpr
conjuncts_at n answer = conjuncts (core_at n answer)
  where
    conjuncts : Option BoundCore → List BoundExpr
    conjuncts None = []
    conjuncts (Some c) = c.conjuncts

abbrev pub results_at : ℕ → UnitsAnswer Asked → List BoundExpr
results_at n answer = results (core_at n answer)
  where
    results : Option BoundCore → List BoundExpr
    results None = []
    results (Some c) = c.results

-- where the rows of its items come from
abbrev pub sources_at : ℕ → UnitsAnswer Asked → List BoundSource
sources_at n answer = sources (core_at n answer)
  where
    sources : Option BoundCore → List BoundSource
    sources None = []
    sources (Some c) = map (λ (i : BoundItem). i.source) c.items

-- the names of its columns
abbrev pub names_of : UnitsAnswer Asked → List (List ℕ)
names_of (Ok a) = map (λ (c : ResultColumn). c.name) a.0.columns
names_of (Err why) = []

-- ---- a text and its tree, over what is around

abbrev pub bound_over : Around → List ℕ → (List Token → QueryParts) → UnitsAnswer Asked
bound_over around text tree = asked_in around 20 text (tree (tokens_of text))

abbrev pub refused_over : Around → List ℕ → (List Token → QueryParts) → Option Cause
refused_over around text tree = refusal_of (bound_over around text tree)

-- two tables
abbrev pub tables : Around
tables = around_of (codes "CREATE TABLE t(a INTEGER, B)" ∷ codes "CREATE TABLE u(b, c)" ∷ []) []

abbrev pub bound : List ℕ → (List Token → QueryParts) → UnitsAnswer Asked
bound = bound_over tables

abbrev pub refused : List ℕ → (List Token → QueryParts) → Option Cause
refused = refused_over tables

-- ---- writes over what is around; no trigger of a sample is opened by its tree

abbrev pub commanded_over : Around → List ℕ → (List Token → RowParts) → Checked (BoundCommand × Opened)
commanded_over around text tree = rows_bound (outer_at around (full_depth around) text [] in_statement) (tree (tokens_of text))

-- with what views are written as, by their texts
abbrev pub commanded_by : (List ℕ → QueryParts) → Around → List ℕ → (List Token → RowParts) → Checked (BoundCommand × Opened)
commanded_by views around text tree = rows_bound (outer_at around (depth_of (λ text tree. views text) around 20) text [] in_statement) (tree (tokens_of text))

abbrev pub commanded : List ℕ → (List Token → RowParts) → Checked (BoundCommand × Opened)
commanded = commanded_over tables

abbrev pub why : {A : Type 0} → Checked A → Option Cause
why (Ok a) = None
why (Err reason) = Some reason

abbrev pub refused_write : List ℕ → (List Token → RowParts) → Option Cause
refused_write text tree = why (commanded text tree)

abbrev pub change_of : Checked (BoundCommand × Opened) → Option BoundChange
change_of (Ok (bound_command.Written w, opened)) = Some w.change
change_of other = None
