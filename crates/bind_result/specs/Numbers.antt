-- Results by their places and names, as far as plain data tells of them.
use Rattle.std.specs.Prelude.{ℕ, ◌+◌, List, [], ◌∷◌, map, slice_get, Option, Some, None, Ok, Err}
use Rattle.std.specs.Option.{option_map}
use Rattle.sql_bound.specs.Carriers.{Binding, ResultParts}
use Rattle.sql_bound.specs.Refusals.{Checked}
use Rattle.sql_bound.specs.Operands.{column_operand}
use Rattle.sql_bound.specs.Results.{ShownResult, shown_by, shown_or_none}
use Rattle.sql_bound.specs.Scopes.{Level}
use Rattle.sql_bound.specs.Trees.{of_expr}
use Rattle.sql_bound.specs.declared.scopes.ScopeColumn.{ScopeColumn}
use Rattle.bind_result.specs.declared.numbering.Next.{Next}
use Rattle.bind_result.specs.declared.numbering.Next.TheVariants as next
use Rattle.bind_result.specs.declared.numbering.ShownAt.{ShownAt}
use Rattle.bind_result.specs.declared.numbering.ShownAt.TheVariants as placed
use Rattle.bind_result.specs.declared.numbering.ShownBy.{ShownBy}
use Rattle.bind_result.specs.declared.numbering.ShownBy.TheVariants as shows

abbrev pub or_nothing : {A : Type 0} → Checked (List A) → List A
or_nothing (Ok xs) = xs
or_nothing (Err why) = []

-- ---- what results are bound to

abbrev pub bound_of : ShownResult → Binding
bound_of r = r.bound

abbrev pub bindings_by : List ℕ → Level → ResultParts → List Binding
bindings_by text own r = map bound_of (shown_or_none (shown_by text own r))

abbrev pub column_binding : ScopeColumn → Binding
column_binding c = λ s w. Ok (column_operand c c.tree, w)

abbrev pub binding_of : ShownAt → Option Binding
binding_of (placed.Column c) = Some (column_binding c)
binding_of (placed.Expr e) = Some (of_expr e.now).bound
binding_of placed.Nothing = None

abbrev pub bindings_of : ShownBy → List Binding
bindings_of (shows.Columns cs) = map column_binding cs
bindings_of (shows.Expr e) = (of_expr e.now).bound ∷ []

-- what stands behind has places of its own
abbrev pub next_binding : Next → List Binding → Option Binding
next_binding (next.At a) rest = binding_of a
next_binding (next.Behind place) rest = slice_get rest place

-- ---- names behind AS

abbrev pub further : ℕ → Option ℕ → Option ℕ
further count place = option_map (λ n. count + n) place

-- it is here, or so many are none of it
abbrev pub given_behind : Option ℕ → Option ℕ → Option ℕ
given_behind None place = Some 0
given_behind (Some count) place = further count place
