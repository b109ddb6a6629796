-- Parts of SELECTs, orders and compounds that functions of their own bind.
use Rattle.std.specs.Prelude.{Bool, List, [], ◌∷◌, length, Some, Ok}
use Rattle.sql_words.specs.Refusals.{◌>>=◌}
use Rattle.bound_tree.specs.declared.units.BoundCompound.{BoundCompound}
use Rattle.bound_tree.specs.declared.units.BoundKey.{BoundKey}
use Rattle.bound_tree.specs.declared.units.BoundTerm.{BoundTerm}
use Rattle.sql_bound.specs.Carriers.{CompoundParts, Expression, LimitParts, ResultParts, SpannedExpression, TermParts}
use Rattle.sql_bound.specs.Compounds.{compound_with, first_word, part_bound, rows_behind, values_bound, width_fits}
use Rattle.sql_bound.specs.Cores.{by_term, key_of}
use Rattle.sql_bound.specs.Froms.{Inside}
use Rattle.sql_bound.specs.Groups.{grouped_checked}
use Rattle.sql_bound.specs.Limits.{room_behind}
use Rattle.sql_bound.specs.Orders.{by_result, expression_term, offset_bound, unknown_term, with_work}
use Rattle.sql_bound.specs.Results.{ResultScope, ShownResult, column_result, columns_result, shown_by}
use Rattle.sql_bound.specs.Scopes.{Answer, Level, Scope}
use Rattle.sql_bound.specs.declared.queries.BoundLimit.{BoundLimit}
use Rattle.sql_bound.specs.declared.queries.BoundSelect.{BoundSelect}
use Rattle.sql_bound.specs.declared.queries.Shown.{Shown}
use Rattle.sql_bound.specs.declared.scopes.Operand.{Operand}
use Rattle.sql_bound.specs.declared.scopes.ResultColumn.{ResultColumn}
use Rattle.sql_bound.specs.declared.scopes.Work.{Work}
use Rattle.bind_result.specs.Terms.{select_place}
use Rattle.bind_result.specs.declared.orders.TermPlace.TheVariants.{At, Nowhere, Else}
use Rattle.bind_result.specs.declared.orders.TermPlace.{TermPlace}

-- ---- results

abbrev pub result_scope : Scope → Level → Bool → List BoundKey → ResultScope
result_scope s own grouped keys = record { scope = s; own = own; grouped = grouped; keys = keys }

-- a result, or those that a star shows
abbrev pub result_met : ResultScope → ResultParts → Shown × Work → Answer Shown
result_met s r so_far = shown_by s.scope.outer.text s.own r >>= λ more. columns_result s more so_far

-- a result that is an expression
abbrev pub one_met : ResultScope → ShownResult → Shown × Work → Answer Shown
one_met s r so_far = room_behind so_far.0.trees >>= λ u. column_result s r so_far

-- ---- GROUP BY

abbrev pub key_bound : Scope → List ShownResult → SpannedExpression → Work → Answer BoundKey
key_bound s shown x w = by_term s shown x x.expr.term w >>= λ a. Ok (key_of a.0, a.1)

-- ---- ORDER BY

-- a term that is an expression
abbrev pub term_by_expression : BoundSelect → Scope → TermParts → Work → Answer BoundTerm
term_by_expression s sc t w = t.key.expr.bound sc w >>= λ a. grouped_checked s.grouped s.keys s.found.level a.0.tree >>= λ u. Ok (expression_term t a.0, a.1)

-- a term, by the result that it names
abbrev pub term_by : BoundSelect → Scope → TermParts → TermPlace → Work → Answer BoundTerm
term_by s sc t (At place) w = Ok (by_result t s.shown.columns place, w)
term_by s sc t Nowhere w = with_work w (unknown_term sc.outer.text t)
term_by s sc t Else w = term_by_expression s sc t w

abbrev pub term_bound : BoundSelect → Scope → List ShownResult → TermParts → Work → Answer BoundTerm
term_bound s sc results t w = term_by s sc t (select_place sc.outer.text s.shown.columns results t.key.expr.term) w

-- ---- parts behind the first

abbrev pub other_bound : Inside → List ResultColumn → CompoundParts → Work → Answer BoundCompound
other_bound i columns c w =
    part_bound i c.part w >>= λ g. width_fits (first_word c.part) (length columns) (length g.0.columns) >>= λ u. Ok (compound_with c columns g.0, g.1)

-- ---- VALUES, behind the rows so far

abbrev pub rows_after : Scope → List (List Expression) → List (List Operand) → Work → Answer (List (List Operand))
rows_after s rows [] w = values_bound s rows w
rows_after s rows (first ∷ more) w = rows_behind s (length first) rows (first ∷ more, w)

-- ---- LIMIT

abbrev pub limit_in : Scope → LimitParts → Work → Answer BoundLimit
limit_in s l w = l.count.bound s w >>= λ c. offset_bound s l.offset c.1 >>= λ f. Ok (record { count = Some c.0.tree; offset = f.0 }, f.1)
