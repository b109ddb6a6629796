-- Terms of GROUP BY and ORDER BY as wholes, and the results that they name.
use Rattle.std.specs.Prelude.{ℕ, List, [], ◌∷◌, ◌++◌, slice_get, Option, Some, None, Ok}
use Rattle.sql_words.specs.Spelled.{literal_at, name_at}
use Rattle.sql_words.specs.Refusals.{◌>>=◌}
use Rattle.bound_tree.specs.declared.units.BoundTerm.{BoundTerm}
use Rattle.sql_bound.specs.Carriers.{Name, Number, Other, Term, TermParts}
use Rattle.sql_bound.specs.Groups.{grouped_checked}
use Rattle.sql_bound.specs.Orders.{by_result, compound_term, expression_term, place_called, place_given, unknown_term}
use Rattle.sql_bound.specs.Refusals.{Checked}
use Rattle.sql_bound.specs.Results.{ShownResult, place_named}
use Rattle.sql_bound.specs.declared.queries.BoundSelect.{BoundSelect}
use Rattle.sql_bound.specs.declared.scopes.Operand.{Operand}
use Rattle.sql_bound.specs.declared.scopes.ResultColumn.{ResultColumn}
use Rattle.bind_result.specs.declared.terms.TermForm.{TermForm}
use Rattle.bind_result.specs.declared.terms.TermForm.TheVariants as form
use Rattle.bind_result.specs.declared.orders.TermPlace.{TermPlace}
use Rattle.bind_result.specs.declared.orders.TermPlace.TheVariants.{At, Nowhere, Else}

abbrev pub form_meant : TermForm → Term
form_meant (form.Number t) = Number t
form_meant (form.Name t) = Name t
form_meant form.Other = Other

-- the place that a term names, if it is a whole number
abbrev pub place_meant : List ℕ → Term → Option (Option ℕ)
place_meant text (Number t) = place_named (literal_at text t)
place_meant text (Name t) = None
place_meant text Other = None

-- ---- the result by which a term orders; Else: it is an expression

abbrev pub place_there : Option ResultColumn → ℕ → TermPlace
place_there None place = Nowhere
place_there (Some c) place = At place

abbrev pub numbered_place : List ResultColumn → Option (Option ℕ) → TermPlace
numbered_place columns None = Else
numbered_place columns (Some None) = Nowhere
numbered_place columns (Some (Some place)) = place_there (slice_get columns place) place

abbrev pub named_place : TermPlace → Option ℕ → TermPlace
named_place other None = other
named_place other (Some place) = At place

-- of one SELECT
abbrev pub select_place : List ℕ → List ResultColumn → List ShownResult → Term → TermPlace
select_place text columns results (Number t) = numbered_place columns (place_named (literal_at text t))
select_place text columns results (Name t) = named_place Else (place_given (name_at text t) results)
select_place text columns results Other = Else

-- of a compound, where no expression stands
abbrev pub compound_place : List ℕ → List ResultColumn → Term → TermPlace
compound_place text columns (Number t) = numbered_place columns (place_named (literal_at text t))
compound_place text columns (Name t) = named_place Nowhere (place_called (name_at text t) columns)
compound_place text columns Other = Nowhere

-- a term that goes by a result, or by none
abbrev pub by_place : List ℕ → List ResultColumn → TermParts → TermPlace → Checked BoundTerm
by_place text columns t (At place) = Ok (by_result t columns place)
by_place text columns t other = unknown_term text t

-- the terms of a compound, behind those so far
abbrev pub collected : List ℕ → List ResultColumn → List TermParts → List BoundTerm → Checked (List BoundTerm)
collected text columns [] so_far = Ok so_far
collected text columns (t ∷ ts) so_far = compound_term text columns t t.key.expr.term >>= λ a. collected text columns ts (so_far ++ a ∷ [])

-- a term that is an expression, in which no column is bare where the query is grouped
abbrev pub term_checked : BoundSelect → TermParts → Operand → Checked BoundTerm
term_checked s t a = grouped_checked s.grouped s.keys s.found.level a.tree >>= λ u. Ok (expression_term t a)
