-- How the rows of a FROM's items read.
use Rattle.std.proofs.Common.{◌≡◌, ◌≢◌, ◌⊎◌, ℕ, ◌<◌, ◌≤◌, length, List, [], ◌∷◌, Some, inl, inr, arith, get_or, set}
use Rattle.std.proofs.lemmas.List.{get_or-replicate, get_or-set_same, get_or-set_other, get_or_past, length-set}
use Rattle.eng_value.specs.Causes.{CauseSet}
use Rattle.eng_value.specs.Environments.{ItemRow, bad_row, column_of, ignoring}
use Rattle.eng_value.specs.declared.out.Out.{Out}
use Rattle.eng_value.specs.declared.out.Out.TheVariants.{Good, Bad}
use Rattle.eng_value.specs.declared.value.Value.TheVariants.{Null}

pub bad_row-reads : (width place : ℕ) (causes : CauseSet) → place < width → column_of (bad_row width causes) place ≡ Bad causes
bad_row-reads width place causes lt = get_or-replicate width place (Bad causes) (Good Null) lt

set_null : (outs : List Out) (place : ℕ) → (place < length outs) ⊎ (length outs ≤ place) → get_or (set outs place (Good Null)) place (Good Null) ≡ Good Null
set_null outs place (inl lt) = get_or-set_same outs place (Good Null) (Good Null) lt
set_null outs place (inr le) = get_or_past (set outs place (Good Null)) place (Good Null) (omega (arith, length-set outs place (Good Null)))

pub ignoring-reads : (row : ItemRow) (place : ℕ) → column_of (ignoring (Some place ∷ []) row) place ≡ Good Null
ignoring-reads row place = set_null row.columns place (grind arith)

pub ignoring-others : (row : ItemRow) (place other : ℕ) → other ≢ place → column_of (ignoring (Some place ∷ []) row) other ≡ column_of row other
ignoring-others row place other apart = get_or-set_other row.columns place other (Good Null) (Good Null) apart
