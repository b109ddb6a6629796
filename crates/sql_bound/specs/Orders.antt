-- ORDER BY and LIMIT (SELECT, sections 4 and 5).
use Rattle.std.specs.Prelude.{ℕ, Bool, true, false, not, List, [], ◌∷◌, position, Option, Some, None, Ok, Err, unwrap_or, slice_get}
use Rattle.std.specs.List.{list_any}
use Rattle.eng_entry.specs.Names.{is_same_name}
use Rattle.eng_value.specs.declared.cause.Cause.TheVariants.{Unknown}
use Rattle.eng_value.specs.declared.cause.NameKind.TheVariants as kind
use Rattle.eng_value.specs.declared.collation.Collation.{Collation}
use Rattle.sql_tree.specs.declared.query.NullsOrder.TheVariants as nulls
use Rattle.sql_tree.specs.declared.query.NullsOrder.{NullsOrder}
use Rattle.sql_words.specs.Collations.{by_bytes}
use Rattle.sql_words.specs.Refusals.{◌>>=◌}
use Rattle.sql_words.specs.Spelled.{literal_at, name_at}
use Rattle.bound_tree.specs.Exprs.{BoundExpr}
use Rattle.bound_tree.specs.declared.units.BoundTerm.{BoundTerm}
use Rattle.bound_tree.specs.declared.units.TermKey.TheVariants.{Expression as ByExpression, Result as ByResult}
use Rattle.bound_tree.specs.declared.units.TermKey.{TermKey}
use Rattle.sql_bound.specs.Carriers.{Expression, LimitParts, Name, Number, Other, Term, TermParts}
use Rattle.sql_bound.specs.Cores.{scope_with}
use Rattle.sql_bound.specs.Groups.{grouped_checked}
use Rattle.sql_bound.specs.Operands.{collation_of, collation_of_result}
use Rattle.sql_bound.specs.Refusals.{Checked}
use Rattle.sql_bound.specs.Results.{ShownResult, at_place, place_named, text_of}
use Rattle.sql_bound.specs.Scopes.{Answer, Outer, Scope, is_called, scope_over}
use Rattle.sql_bound.specs.declared.queries.BoundLimit.{BoundLimit}
use Rattle.sql_bound.specs.declared.queries.BoundSelect.{BoundSelect}
use Rattle.sql_bound.specs.declared.scopes.Operand.{Operand}
use Rattle.sql_bound.specs.declared.scopes.ResultColumn.{ResultColumn}
use Rattle.sql_bound.specs.declared.scopes.Standing.TheVariants.{Taken}
use Rattle.sql_bound.specs.declared.scopes.Work.{Work}

-- ---- where NULLs stand: first where it ascends, unless it is said otherwise

abbrev pub nulls_first : Bool → Option NullsOrder → Bool
nulls_first descending None = not descending
nulls_first descending (Some nulls.First) = true
nulls_first descending (Some nulls.Last) = false

abbrev pub term_with : TermParts → TermKey → Collation → BoundTerm
term_with t key collation = record { key = key; collation = collation; descending = t.descending; nulls_first = nulls_first t.descending t.nulls }

-- ---- by a result, under its collation

abbrev pub collation_at_place : Option ResultColumn → Collation
collation_at_place None = by_bytes
collation_at_place (Some c) = collation_of_result c

abbrev pub by_result : TermParts → List ResultColumn → ℕ → BoundTerm
by_result t columns place = term_with t (ByResult place) (collation_at_place (slice_get columns place))

abbrev pub unknown_term : {A : Type 0} → List ℕ → TermParts → Checked A
unknown_term text t = Err (Unknown kind.Column (text_of text t.key.text))

-- a number of a result
abbrev pub numbered_term : List ℕ → TermParts → List ResultColumn → Option ResultColumn → Option ℕ → Checked BoundTerm
numbered_term text t columns (Some c) (Some place) = Ok (by_result t columns place)
numbered_term text t columns other place = unknown_term text t

-- ---- of one SELECT: a whole number, then a name of a result as the whole term, then an expression

abbrev pub expression_term : TermParts → Operand → BoundTerm
expression_term t a = term_with t (ByExpression a.tree) (unwrap_or (collation_of a) by_bytes)

abbrev pub by_expression : BoundSelect → Outer → TermParts → Work → Answer BoundTerm
by_expression s o t w =
    t.key.expr.bound (scope_with Taken s.found.level o) w >>= λ a. grouped_checked s.grouped s.keys s.found.level a.0.tree >>= λ u. Ok (expression_term t a.0, a.1)

abbrev pub with_work : {A : Type 0} → Work → Checked A → Answer A
with_work w answer = answer >>= λ a. Ok (a, w)

abbrev pub by_number : BoundSelect → Outer → TermParts → Option (Option ℕ) → Work → Answer BoundTerm
by_number s o t None w = by_expression s o t w
by_number s o t (Some place) w = with_work w (numbered_term o.text t s.shown.columns (at_place s.shown.columns place) place)

-- the place of the first result that gets the name behind AS; `*` moves those behind it on
abbrev pub is_given : List ℕ → ShownResult → Bool
is_given name r = is_called name r.given

abbrev pub place_given : List ℕ → List ShownResult → Option ℕ
place_given name results = position (is_given name) results

abbrev pub by_alias : BoundSelect → Outer → TermParts → Option ℕ → Work → Answer BoundTerm
by_alias s o t None w = by_expression s o t w
by_alias s o t (Some place) w = Ok (by_result t s.shown.columns place, w)

abbrev pub by_term : BoundSelect → Outer → List ShownResult → TermParts → Term → Work → Answer BoundTerm
by_term s o results t (Number n) w = by_number s o t (place_named (literal_at o.text n)) w
by_term s o results t (Name n) w = by_alias s o t (place_given (name_at o.text n) results) w
by_term s o results t Other w = by_expression s o t w

abbrev pub terms_of_select : BoundSelect → Outer → List ShownResult → List TermParts → Work → Answer (List BoundTerm)
terms_of_select s o results [] w = Ok ([], w)
terms_of_select s o results (t ∷ ts) w =
    by_term s o results t t.key.expr.term w >>= λ a. terms_of_select s o results ts a.1 >>= λ more. Ok (a.0 ∷ more.0, more.1)

-- whether ORDER BY holds an aggregate
abbrev pub orders_by_aggregate : Outer → List TermParts → Bool
orders_by_aggregate o ts = list_any (λ (t : TermParts). t.key.expr.aggregates o) ts

-- ---- of a compound: a number, or a name of the first part's

abbrev pub place_called : List ℕ → List ResultColumn → Option ℕ
place_called name columns = position (λ (c : ResultColumn). is_same_name c.name name) columns

abbrev pub compound_number : List ℕ → TermParts → List ResultColumn → Option (Option ℕ) → Checked BoundTerm
compound_number text t columns None = unknown_term text t
compound_number text t columns (Some place) = numbered_term text t columns (at_place columns place) place

abbrev pub compound_name : List ℕ → TermParts → List ResultColumn → Option ℕ → Checked BoundTerm
compound_name text t columns None = unknown_term text t
compound_name text t columns (Some place) = Ok (by_result t columns place)

abbrev pub compound_term : List ℕ → List ResultColumn → TermParts → Term → Checked BoundTerm
compound_term text columns t (Number n) = compound_number text t columns (place_named (literal_at text n))
compound_term text columns t (Name n) = compound_name text t columns (place_called (name_at text n) columns)
compound_term text columns t Other = unknown_term text t

abbrev pub terms_of_compound : List ℕ → List ResultColumn → List TermParts → Checked (List BoundTerm)
terms_of_compound text columns [] = Ok []
terms_of_compound text columns (t ∷ ts) = compound_term text columns t t.key.expr.term >>= λ a. terms_of_compound text columns ts >>= λ more. Ok (a ∷ more)

-- ---- LIMIT: the count, then the offset; they see nothing of the own FROM

abbrev pub offset_bound : Scope → Option Expression → Work → Answer (Option BoundExpr)
offset_bound s None w = Ok (None, w)
offset_bound s (Some x) w = x.bound s w >>= λ a. Ok (Some a.0.tree, a.1)

abbrev pub limit_bound : Outer → Option LimitParts → Work → Answer BoundLimit
limit_bound o None w = Ok (record { count = None; offset = None }, w)
limit_bound o (Some l) w =
    l.count.bound (scope_over [] o) w >>= λ c. offset_bound (scope_over [] o) l.offset c.1 >>= λ f. Ok (record { count = Some c.0.tree; offset = f.0 }, f.1)
