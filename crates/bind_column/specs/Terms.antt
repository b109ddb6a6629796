-- Terms of ORDER BY, by what is written behind their expressions (term_with and by_result of Orders.antt).
use Rattle.std.specs.Prelude.{◌≡◌, ℕ, Bool, List, Option, slice_get, refl}
use Rattle.eng_value.specs.declared.collation.Collation.{Collation}
use Rattle.sql_tree.specs.declared.query.NullsOrder.{NullsOrder}
use Rattle.sql_bound.specs.Carriers.{TermParts}
use Rattle.sql_bound.specs.Orders.{by_result, collation_at_place, nulls_first, term_with}
use Rattle.bound_tree.specs.declared.units.BoundTerm.{BoundTerm}
use Rattle.bound_tree.specs.declared.units.TermKey.{TermKey}
use Rattle.bound_tree.specs.declared.units.TermKey.TheVariants.{Result as ByResult}
use Rattle.sql_bound.specs.declared.scopes.ResultColumn.{ResultColumn}

abbrev pub term_of : Bool → Option NullsOrder → TermKey → Collation → BoundTerm
term_of descending nulls key collation = record { key = key; collation = collation; descending = descending; nulls_first = nulls_first descending nulls }

abbrev pub result_term : Bool → Option NullsOrder → List ResultColumn → ℕ → BoundTerm
result_term descending nulls columns place = term_of descending nulls (ByResult place) (collation_at_place (slice_get columns place))

-- ---- they are those of the definition

pub term_with-is : (t : TermParts) (key : TermKey) (collation : Collation) → term_with t key collation ≡ term_of t.descending t.nulls key collation
term_with-is t key collation = refl

pub by_result-is : (t : TermParts) (columns : List ResultColumn) (place : ℕ) → by_result t columns place ≡ result_term t.descending t.nulls columns place
by_result-is t columns place = refl
