-- Result columns: what `*` shows, what each result is, and what it is called (SELECT, section 2.4).
use Rattle.std.specs.Prelude.{ℕ, zero, suc, ◌-◌, Bool, not, ◌&&◌, List, [], ◌∷◌, ◌++◌, map, filter, take, drop, slice_get, ℤ, pos, negsuc, Option, Some, None, Ok, Err, unwrap_or, if◌then◌else◌, codes}
use Rattle.std.specs.List.{flat_map, list_any}
use Rattle.eng_value.specs.declared.cause.Cause.TheVariants.{Misuse, Unknown}
use Rattle.eng_value.specs.declared.cause.NameKind.TheVariants as kind
use Rattle.eng_value.specs.declared.value.Value.TheVariants as value
use Rattle.sql_tree.specs.declared.token.Span.{Span}
use Rattle.sql_tree.specs.declared.token.Token.{Token}
use Rattle.sql_words.specs.Refusals.{◌>>=◌, or_else}
use Rattle.sql_words.specs.Spelled.{as_text, name_at}
use Rattle.sql_words.specs.declared.literal.Literal.TheVariants as literal
use Rattle.sql_words.specs.declared.literal.Literal.{Literal}
use Rattle.bound_tree.specs.declared.units.BoundKey.{BoundKey}
use Rattle.sql_bound.specs.Carriers.{All, AllOf, Binding, One, ResultParts, SpannedExpression}
use Rattle.sql_bound.specs.Groups.{grouped_checked}
use Rattle.sql_bound.specs.Limits.{room_behind}
use Rattle.sql_bound.specs.Operands.{column_operand}
use Rattle.sql_bound.specs.Refusals.{Checked}
use Rattle.sql_bound.specs.Scopes.{Alias, Answer, Level, Scope, is_called, is_shown}
use Rattle.sql_bound.specs.declared.queries.Shown.{Shown}
use Rattle.sql_bound.specs.declared.scopes.Operand.{Operand}
use Rattle.sql_bound.specs.declared.scopes.ResultColumn.{ResultColumn}
use Rattle.sql_bound.specs.declared.scopes.ScopeColumn.{ScopeColumn}
use Rattle.sql_bound.specs.declared.scopes.ScopeItem.{ScopeItem}
use Rattle.sql_bound.specs.declared.scopes.Work.{Work}

-- ---- what `*` shows

-- a result as it stands for one column: what it is, the name that it gets, and its text
pub record ShownResult : Type 0 where
  pub bound : Binding
  pub given : Option (List ℕ)
  pub text : List ℕ

abbrev pub text_of : List ℕ → Span → List ℕ
text_of text span = as_text (take (span.end - span.start) (drop span.start text))

abbrev pub column_shown : ScopeColumn → ShownResult
column_shown c = record { bound = λ s w. Ok (column_operand c c.tree, w); given = None; text = [] }

abbrev pub is_shown_bare : ScopeColumn → Bool
is_shown_bare c = is_shown c && not c.joined

-- each column once that USING shows
abbrev pub all_columns : Level → List ShownResult
all_columns level = map column_shown (flat_map (λ (item : ScopeItem). filter is_shown_bare item.columns) level)

abbrev pub columns_of_item : List ℕ → ScopeItem → List ShownResult
columns_of_item name item = if is_called name item.name then map column_shown (filter is_shown item.columns) else []

abbrev pub all_shown : Level → Checked (List ShownResult)
all_shown [] = Err (Misuse (codes "*"))
all_shown (item ∷ items) = Ok (all_columns (item ∷ items))

-- an item may be there and show nothing
abbrev pub shown_of : List ℕ → Level → Checked (List ShownResult)
shown_of name level =
    if list_any (λ (item : ScopeItem). is_called name item.name) level then Ok (flat_map (columns_of_item name) level) else Err (Unknown kind.Table name)

abbrev pub given_name : List ℕ → Option Token → Option (List ℕ)
given_name text None = None
given_name text (Some t) = Some (name_at text t)

abbrev pub one_shown : List ℕ → SpannedExpression → Option Token → ShownResult
one_shown text x name = record { bound = x.expr.bound; given = given_name text name; text = text_of text x.text }

abbrev pub shown_by : List ℕ → Level → ResultParts → Checked (List ShownResult)
shown_by text level All = all_shown level
shown_by text level (AllOf t) = shown_of (name_at text t) level
shown_by text level (One x name) = Ok (one_shown text x name ∷ [])

-- ---- names of results: what one stands for without names of results

abbrev pub alias_of : List ℕ → Scope → ResultParts → List Alias
alias_of text plain (One x (Some t)) = record { name = name_at text t; shown = λ standing. x.expr.bound (record plain { aggregates = standing }) } ∷ []
alias_of text plain other = []

abbrev pub aliases_of : List ℕ → Scope → List ResultParts → List Alias
aliases_of text plain results = flat_map (alias_of text plain) results

-- ---- results by number

abbrev pub shown_or_none : Checked (List ShownResult) → List ShownResult
shown_or_none (Ok rs) = rs
shown_or_none (Err why) = []

-- all that is shown, whatever of it is refused in its turn
abbrev pub shown_in : List ℕ → Level → List ResultParts → List ShownResult
shown_in text level results = flat_map (λ r. shown_or_none (shown_by text level r)) results

-- a whole number, from 1 on, as a place; a number that is none of 64 bits is no whole number, and so an expression
abbrev pub place_of_integer : ℤ → Option ℕ
place_of_integer (pos zero) = None
place_of_integer (pos (suc place)) = Some place
place_of_integer (negsuc n) = None

-- the place that a number names, if it is a whole one, which may be no place at all
abbrev pub place_named : Literal → Option (Option ℕ)
place_named (literal.Value (value.Integer n)) = Some (place_of_integer n)
place_named other = None

abbrev pub at_place : {A : Type 0} → List A → Option ℕ → Option A
at_place xs None = None
at_place xs (Some place) = slice_get xs place

-- ---- results in turn

abbrev pub nothing_shown : Shown
nothing_shown = record { trees = []; columns = [] }

-- by its alias, else its column, else its text
abbrev pub name_of_result : ShownResult → Operand → List ℕ
name_of_result r a = unwrap_or (or_else r.given a.name) r.text

abbrev pub result_column : List ℕ → Operand → ResultColumn
result_column name a = record { name = name; affinity = a.affinity; explicit = a.explicit; column = a.column }

abbrev pub with_result : ShownResult → Operand → Shown → Shown
with_result r a shown = record { trees = shown.trees ++ a.tree ∷ []; columns = shown.columns ++ result_column (name_of_result r a) a ∷ [] }

-- what results are bound in: the scope, and the group expressions, where the query is grouped
pub record ResultScope : Type 0 where
  pub scope : Scope
  pub own : Level
  pub grouped : Bool
  pub keys : List BoundKey

abbrev pub column_result : ResultScope → ShownResult → Shown × Work → Answer Shown
column_result s r so_far =
    r.bound s.scope so_far.1 >>= λ a. grouped_checked s.grouped s.keys s.own a.0.tree >>= λ u. Ok (with_result r a.0 so_far.0, a.1)

abbrev pub columns_result : ResultScope → List ShownResult → Shown × Work → Answer Shown
columns_result s [] so_far = Ok so_far
columns_result s (r ∷ rs) so_far = room_behind so_far.0.trees >>= λ u. column_result s r so_far >>= λ next. columns_result s rs next

abbrev pub results_bound : ResultScope → List ResultParts → Shown × Work → Answer Shown
results_bound s [] so_far = Ok so_far
results_bound s (r ∷ rs) so_far = shown_by s.scope.outer.text s.own r >>= λ more. columns_result s more so_far >>= λ next. results_bound s rs next
