-- The rows of an INSERT that runs name nothing, and its CHECKs name the row that is put.
use Rattle.std.proofs.Common.{◌≡◌, ℕ, List, [], ◌∷◌, Bool, length, Option, None, drop, Ok, Err, Result, subst}
use Rattle.std.specs.List.{AllByRecursion}
use Rattle.std.specs.Prelude.{slice_get}
use Rattle.bound_tree.specs.Exprs.{BoundExpr}
use Rattle.bound_tree.specs.declared.units.BoundPart.TheVariants as part
use Rattle.bound_tree.specs.declared.units.BoundPart.{BoundPart}
use Rattle.bound_tree.specs.declared.units.BoundUnit.{BoundUnit}
use Rattle.bound_tree.specs.declared.writes.BoundChange.TheVariants as change
use Rattle.bound_tree.specs.declared.writes.BoundChange.{BoundChange}
use Rattle.bound_tree.specs.declared.writes.BoundTarget.{BoundTarget}
use Rattle.bound_tree.specs.declared.writes.BoundWrite.{BoundWrite}
use Rattle.eng_value.specs.declared.cause.Cause.TheVariants as cause
use Rattle.eng_value.specs.declared.cause.Cause.{Cause}
use Rattle.sql_meaning.proofs.ValidLaws.{if_built-ok, same-ok, then-ok}
use Rattle.sql_meaning.specs.Runnables.{Put, Puts, Runnable}
use Rattle.sql_meaning.specs.Running.{columns_put, first_or, first_part, has_own_keys, keys_of, put_at, put_into, put_of, put_with, rowid_from, rows_of_part, table_of_source}
use Rattle.sql_meaning.specs.declared.bound.PutColumn.{PutColumn}
use Rattle.sql_meaning.specs.declared.bound.RowidFrom.{RowidFrom}
use Rattle.sql_meaning.specs.declared.column.Column.{Column}
use Rattle.sql_meaning.specs.declared.column.TableEntry.{TableEntry}
use Rattle.sql_words.specs.Refusals.{◌>>=◌}
use Rattle.bound_laws.specs.Order.{in_front}
use Rattle.meaning_laws.specs.Names.{EachNamesBelow, NamesBelowIfThere}
use Rattle.meaning_laws.specs.Runs.{InsertIsWithin}
use Rattle.meaning_laws.proofs.QueryLaws.{RunsWell, rows_below}
use Rattle.meaning_laws.proofs.UnitLaws.{GivesPart, PartStands}

-- the source of an INSERT is handed what it takes
abbrev pub SourceRuns : List BoundUnit → BoundChange → Type 0
SourceRuns units (change.Inserted places given source handed) = GivesPart units source (length handed)
SourceRuns units change.Defaulted = Unit {0}
SourceRuns units (change.Updated sets conjuncts) = Unit {0}
SourceRuns units (change.Deleted conjuncts) = Unit {0}

abbrev pub DefaultIsWithin : PutColumn → Type 0
DefaultIsWithin c = NamesBelowIfThere 0 c.default

-- what an INSERT takes of what was bound
pub record WriteRuns (units : List BoundUnit) (w : BoundWrite) : Type 0 where
  pub defaults : AllByRecursion (NamesBelowIfThere 0) w.target.defaults
  pub checks : EachNamesBelow 1 w.target.checks
  pub source : SourceRuns units w.change

-- ---- columns

first_default : (defaults : List (Option BoundExpr)) → AllByRecursion (NamesBelowIfThere 0) defaults → NamesBelowIfThere 0 (first_or None defaults)
first_default [] h = tt
first_default (d ∷ defaults) h = h.0

other_defaults : (defaults : List (Option BoundExpr)) → AllByRecursion (NamesBelowIfThere 0) defaults → AllByRecursion (NamesBelowIfThere 0) (drop 1 defaults)
other_defaults [] h = tt
other_defaults (d ∷ defaults) h = h.1

defaults_put : (columns : List Column) (places : List (Option ℕ)) (defaults : List (Option BoundExpr)) (not_nulls : List Bool) → AllByRecursion (NamesBelowIfThere 0) defaults → AllByRecursion DefaultIsWithin (columns_put columns places defaults not_nulls)
defaults_put [] places defaults not_nulls h = tt
defaults_put (c ∷ columns) places defaults not_nulls h =
    (first_default defaults h, defaults_put columns (drop 1 places) (drop 1 defaults) (drop 1 not_nulls) (other_defaults defaults h))

-- ---- rows

rows_of : (given : ℕ) (p : BoundPart) (rows : List (List BoundExpr)) → PartStands given p → rows_of_part p ≡ Ok rows → AllByRecursion (EachNamesBelow 0) rows
rows_of given (part.Values values) rows h e = subst (AllByRecursion (EachNamesBelow 0)) (same-ok values rows e) (rows_below (in_front h.0 given) values h.1)
rows_of given (part.Select c) rows h e = absurd (let bad : Err cause.NotYet ≡ Ok rows = e in cc)

-- ---- the INSERT

module _ (t : TableEntry) (target : BoundTarget) (defaults : AllByRecursion (NamesBelowIfThere 0) target.defaults) (checks : EachNamesBelow 1 target.checks) where
  with_within : (columns : List PutColumn) (given : Option ℕ) (rows : List (List BoundExpr)) (p : Put) → AllByRecursion DefaultIsWithin columns → AllByRecursion (EachNamesBelow 0) rows → put_with t target columns given rows ≡ Ok p → InsertIsWithin p.insert
  with_within columns given rows p put within e =
      let made : RowidFrom → Result Put Cause = λ from. Ok (record { table = t; insert = record { table = t.number; name = t.name; columns = columns; rowid = from; checks = target.checks; keys = keys_of t.rowid target.item.indexes; rows = rows } }) in
      let one = then-ok (rowid_from columns t.rowid given) made p e in
      subst (λ (x : Put). InsertIsWithin x.insert) (same-ok _ p one.2) (record { rows = within; defaults = put; checks = checks })

  at_within : (places : List (Option ℕ)) (given : Option ℕ) (rows : List (List BoundExpr)) (p : Put) → AllByRecursion (EachNamesBelow 0) rows → put_at t target places given rows ≡ Ok p → InsertIsWithin p.insert
  at_within places given rows p within e =
      with_within (columns_put t.columns places target.defaults target.not_nulls) given rows p (defaults_put t.columns places target.defaults target.not_nulls defaults) within e

  into_within : (units : List BoundUnit) (c : BoundChange) (p : Put) → SourceRuns units c → put_into t target units c ≡ Ok p → InsertIsWithin p.insert
  into_within units (change.Inserted places given source handed) p h e =
      let put : List (List BoundExpr) → Result Put Cause = λ rows. put_at t target places given rows in
      let one = then-ok (first_part (slice_get units source) >>= rows_of_part) put p e in
      let two = then-ok (first_part (slice_get units source)) rows_of_part one.0 one.1 in
      at_within places given one.0 p (rows_of (length handed) two.0 one.0 (h two.0 two.1) two.2) one.2
  into_within units change.Defaulted p h e = at_within [] None ([] ∷ []) p (tt, tt) e
  into_within units (change.Updated sets conjuncts) p h e = absurd (let bad : Err cause.NotYet ≡ Ok p = e in cc)
  into_within units (change.Deleted conjuncts) p h e = absurd (let bad : Err cause.NotYet ≡ Ok p = e in cc)

pub put_runs : (tables : List TableEntry) (units : List BoundUnit) (w : BoundWrite) (r : Runnable) → WriteRuns units w → put_of tables units w ≡ Ok r → RunsWell r
put_runs tables units w r h e =
    let puts : Put → Result Runnable Cause = λ put. Ok (Puts put) in
    let into : TableEntry → Result Runnable Cause = λ t. put_into t w.target units w.change >>= puts in
    let built = if_built-ok (has_own_keys w.target.item.indexes) (table_of_source tables w.target.item.source >>= into) r e in
    let table = then-ok (table_of_source tables w.target.item.source) into r built.1 in
    let put = then-ok (put_into table.0 w.target units w.change) puts r table.2 in
    subst RunsWell (same-ok (Puts put.0) r put.2) (record { within = into_within table.0 w.target h.defaults h.checks units w.change put.0 h.source put.1; columns = tt })
