-- A SELECT: FROM, WHERE, GROUP BY, HAVING and the results, in this order (SELECT, section 2).
use Rattle.std.specs.Prelude.{ℕ, Bool, true, false, not, ◌||◌, List, map, [], ◌∷◌, Option, Some, None, Ok, Err, is_some, unwrap_or, if◌then◌else◌}
use Rattle.std.specs.List.{list_any}
use Rattle.eng_value.specs.declared.cause.Cause.TheVariants.{Unknown}
use Rattle.eng_value.specs.declared.cause.NameKind.TheVariants as kind
use Rattle.sql_words.specs.Collations.{by_bytes}
use Rattle.sql_words.specs.Refusals.{◌>>=◌}
use Rattle.sql_words.specs.Spelled.{literal_at}
use Rattle.bound_tree.specs.Exprs.{BoundExpr}
use Rattle.bound_tree.specs.declared.units.BoundAggregate.{BoundAggregate}
use Rattle.bound_tree.specs.declared.units.BoundCore.{BoundCore}
use Rattle.bound_tree.specs.declared.units.BoundGroups.{BoundGroups}
use Rattle.bound_tree.specs.declared.units.BoundKey.{BoundKey}
use Rattle.sql_bound.specs.Carriers.{CoreParts, Expression, Number, One, ResultParts, SpannedExpression, Term}
use Rattle.sql_bound.specs.Declarations.{is_empty}
use Rattle.sql_bound.specs.Froms.{Inside, items_found, nothing_found}
use Rattle.sql_bound.specs.Groups.{grouped_checked}
use Rattle.sql_bound.specs.Operands.{collation_of, collation_of_result}
use Rattle.sql_bound.specs.Results.{ShownResult, aliases_of, at_place, nothing_shown, place_named, results_bound, shown_in, text_of}
use Rattle.sql_bound.specs.Scopes.{Answer, Level, Outer, Scope, scope_over}
use Rattle.sql_bound.specs.declared.froms.Found.{Found}
use Rattle.sql_bound.specs.declared.froms.QueueTable.{QueueTable}
use Rattle.sql_bound.specs.declared.queries.BoundSelect.{BoundSelect}
use Rattle.sql_bound.specs.declared.queries.Shown.{Shown}
use Rattle.sql_bound.specs.declared.scopes.Operand.{Operand}
use Rattle.sql_bound.specs.declared.scopes.Standing.TheVariants.{Nowhere, Taken}
use Rattle.sql_bound.specs.declared.scopes.Standing.{Standing}
use Rattle.sql_bound.specs.declared.scopes.Work.{Work}

-- ---- scopes: WHERE, GROUP BY and HAVING see the names of results, the results and ORDER BY do not

abbrev pub scope_with : Standing → Level → Outer → Scope
scope_with standing own o = record (scope_over own o) { aggregates = standing }

abbrev pub scope_of_clause : Standing → Level → Outer → List ResultParts → Scope
scope_of_clause standing own o results = let plain = scope_with standing own o in record plain { aliases = aliases_of o.text plain results }

-- ---- whether it is grouped

abbrev pub result_aggregates : Outer → ResultParts → Bool
result_aggregates o (One x name) = x.expr.aggregates o
result_aggregates o other = false

-- GROUP BY, HAVING or an aggregate makes it so
abbrev pub is_grouped : Outer → CoreParts → Bool → Bool
is_grouped o core ordered_by_aggregate =
    not (is_empty core.group_by) || is_some core.having || list_any (result_aggregates o) core.results || ordered_by_aggregate

-- ---- WHERE and HAVING

abbrev pub conjuncts_bound : Scope → Option Expression → Work → Answer (List BoundExpr)
conjuncts_bound s None w = Ok ([], w)
conjuncts_bound s (Some x) w = x.bound s w >>= λ a. Ok (x.conjuncts a.0.tree, a.1)

-- no column in it is bare; a group expression may be all of it, so that it is looked at before it is split
abbrev pub having_bound : Scope → List BoundKey → Level → Option Expression → Work → Answer (List BoundExpr)
having_bound s keys own None w = Ok ([], w)
having_bound s keys own (Some x) w = x.bound s w >>= λ a. grouped_checked true keys own a.0.tree >>= λ u. Ok (x.conjuncts a.0.tree, a.1)

-- ---- GROUP BY: a whole number names a result, a name a column before a result

abbrev pub key_of : Operand → BoundKey
key_of a = record { expr = a.tree; collation = unwrap_or (collation_of a) by_bytes }

-- the result is what it is without names of results
abbrev pub numbered : Scope → List ℕ → Option ShownResult → Work → Answer Operand
numbered s text None w = Err (Unknown kind.Column text)
numbered s text (Some r) w = r.bound (record s { aliases = [] }) w

abbrev pub by_number : Scope → List ShownResult → SpannedExpression → Option (Option ℕ) → Work → Answer Operand
by_number s shown x None w = x.expr.bound s w
by_number s shown x (Some place) w = numbered s (text_of s.outer.text x.text) (at_place shown place) w

abbrev pub by_term : Scope → List ShownResult → SpannedExpression → Term → Work → Answer Operand
by_term s shown x (Number t) w = by_number s shown x (place_named (literal_at s.outer.text t)) w
by_term s shown x _ w = x.expr.bound s w

abbrev pub keys_bound : Scope → List ShownResult → List SpannedExpression → Work → Answer (List BoundKey)
keys_bound s shown [] w = Ok ([], w)
keys_bound s shown (x ∷ xs) w = by_term s shown x x.expr.term w >>= λ a. keys_bound s shown xs a.1 >>= λ more. Ok (key_of a.0 ∷ more.0, more.1)

-- ---- the whole

abbrev pub select_with : CoreParts → Found → List BoundExpr → Bool → List BoundKey → List BoundExpr → Shown → BoundSelect
select_with core f conjuncts grouped keys having shown =
    record { found = f; conjuncts = conjuncts; grouped = grouped; keys = keys; having = having; shown = shown; distinct = core.distinct }

abbrev pub results_of : Standing → Outer → CoreParts → Level → Bool → List BoundKey → Work → Answer Shown
results_of standing o core own grouped keys w =
    results_bound (record { scope = scope_with standing own o; own = own; grouped = grouped; keys = keys }) core.results (nothing_shown, w)

-- behind FROM, where aggregates stand in HAVING and the results as it is said
abbrev pub clauses_bound : Standing → Outer → CoreParts → Bool → Found → Work → Answer BoundSelect
clauses_bound standing o core grouped f w =
    conjuncts_bound (scope_of_clause Nowhere f.level o core.results) core.filter w >>= λ c.
    keys_bound (scope_of_clause Nowhere f.level o core.results) (shown_in o.text f.level core.results) core.group_by c.1 >>= λ k.
    having_bound (scope_of_clause standing f.level o core.results) k.0 f.level core.having k.1 >>= λ h.
    results_of standing o core f.level grouped k.0 h.1 >>= λ r.
    Ok (select_with core f c.0 grouped k.0 h.0 r.0, r.1)

abbrev pub select_bound : Inside → CoreParts → Bool → Work → Answer BoundSelect
select_bound i core ordered_by_aggregate w =
    items_found i None core.from nothing_found w >>= λ f. clauses_bound Taken i.outer core (is_grouped i.outer core ordered_by_aggregate) f.0 f.1

-- the part of a recursive table that names it, in which no aggregate may stand
abbrev pub recursive_select_bound : Inside → QueueTable → CoreParts → Work → Answer BoundSelect
recursive_select_bound i queue core w =
    items_found i (Some queue) core.from nothing_found w >>= λ f. clauses_bound Nowhere i.outer core (is_grouped i.outer core false) f.0 f.1

-- ---- with its aggregates, of which the next SELECT sees none

abbrev pub groups_of : BoundSelect → List BoundAggregate → Option BoundGroups
groups_of s aggregates = if s.grouped then Some (record { keys = s.keys; aggregates = aggregates; having = s.having }) else None

abbrev pub core_of : BoundSelect → Work → BoundCore
core_of s w = record { items = s.found.items; conjuncts = s.conjuncts; groups = groups_of s w.aggregates; results = s.shown.trees; collations = map collation_of_result s.shown.columns; distinct = s.distinct }

abbrev pub without_aggregates : Work → Work
without_aggregates w = record w { aggregates = [] }
