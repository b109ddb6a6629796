-- What runs of a part of a query names only what is there.
use Rattle.std.proofs.Common.{◌≡◌, Bool, true, false, not, ◌&&◌, List, [], length, Option, Some, None, is_some, Ok, Result, refl, sym, subst}
use Rattle.std.specs.List.{AllByRecursion, flat_map}
use Rattle.bound_tree.specs.Conditions.{conditions_of}
use Rattle.bound_tree.specs.Exprs.{BoundExpr}
use Rattle.bound_tree.specs.declared.units.BoundCore.{BoundCore}
use Rattle.bound_tree.specs.declared.units.BoundGroups.{BoundGroups}
use Rattle.bound_tree.specs.declared.units.BoundItem.{BoundItem}
use Rattle.bound_tree.specs.declared.units.BoundPart.TheVariants as part
use Rattle.bound_tree.specs.declared.units.BoundPart.{BoundPart}
use Rattle.bound_tree.specs.declared.units.BoundUnit.{BoundUnit}
use Rattle.eng_value.specs.declared.cause.Cause.{Cause}
use Rattle.sql_meaning.proofs.ValidLaws.{if_built-ok, same-ok, then-ok}
use Rattle.sql_meaning.specs.Runnables.{FromItem, Queries, Query, Runnable, Shows}
use Rattle.sql_meaning.specs.Running.{from_of, is_plain_core, part_of, rejecting, select_of, tested_by}
use Rattle.sql_meaning.specs.declared.column.TableEntry.{TableEntry}
use Rattle.sql_words.specs.Refusals.{◌>>=◌}
use Rattle.bound_laws.specs.Order.{CoreIsWithin, PartIsWithin, aggregates_of, in_front, widths_of}
use Rattle.bound_laws.specs.Reach.{EachIsWithin, IsWithin, Reach}
use Rattle.bound_laws.proofs.Lists.{all_append, all_weaker}
use Rattle.meaning_laws.specs.Names.{EachNamesBelow}
use Rattle.meaning_laws.specs.Runs.{HasColumns, JoinsAreWithin, NamesColumns, QueryIsWithin, RunnableIsWithin, widths_in}
use Rattle.meaning_laws.proofs.FromLaws.{all_below, all_conditions, from_stands, tested_within, widths_length}

-- what runs names what is there, both as items and as columns
pub record RunsWell (r : Runnable) : Type 0 where
  pub within : RunnableIsWithin r
  pub columns : NamesColumns r

-- ---- rows of values

pub rows_below : (r : Reach) (rows : List (List BoundExpr)) → AllByRecursion (EachIsWithin r []) rows → AllByRecursion (EachNamesBelow 0) rows
rows_below r rows h = all_weaker (EachIsWithin r []) (EachNamesBelow 0) (all_below r []) rows h

-- ---- a SELECT

no_groups : (groups : Option BoundGroups) (others : Bool) → (not (is_some groups) && others) ≡ true → groups ≡ None
no_groups None others h = refl
no_groups (Some g) others h = absurd (let bad : false ≡ true = h in cc)

-- over columns that are there only items are named that are there
query_is : (q : Query) → JoinsAreWithin 0 q.from → HasColumns q → QueryIsWithin q
query_is q joins h =
    let as_many = widths_length q.from in
    record {
      joins = joins;
      conjuncts = subst (λ count. EachNamesBelow count q.conjuncts) as_many (all_below (in_front h.units 0) (widths_in q.from) q.conjuncts h.conjuncts);
      results = subst (λ count. EachNamesBelow count q.results) as_many (all_below (in_front h.units 0) (widths_in q.from) q.results h.results);
    }

module _ (units : List BoundUnit) where
  abbrev front : Reach
  front = in_front units 0

  rejecting_within : (c : BoundCore) → CoreIsWithin units 0 c → EachIsWithin front (widths_of c.items) (rejecting c)
  rejecting_within c h =
      all_append (IsWithin front (widths_of c.items)) (flat_map (λ (i : BoundItem). tested_by i.join i.ons) c.items) c.conjuncts
      (tested_within front [] c.items h.items) h.conjuncts

  -- where nothing is grouped, no aggregate is there
  results_within : (c : BoundCore) → is_plain_core c ≡ true → CoreIsWithin units 0 c → EachIsWithin front (widths_of c.items) c.results
  results_within c plain h =
      subst (λ groups. EachIsWithin (record { units = units; arguments = 0; aggregates = length (aggregates_of groups) }) (widths_of c.items) c.results)
      (no_groups c.groups (not c.distinct) plain) h.results

  select_runs : (tables : List TableEntry) (c : BoundCore) (r : Runnable) → CoreIsWithin units 0 c → select_of tables c ≡ Ok r → RunsWell r
  select_runs tables c r h e =
      let tests : List BoundExpr = flat_map conditions_of (rejecting c) in
      let shown : List FromItem → Result Runnable Cause = λ from. Ok (Queries (record { from = from; conjuncts = tests; results = c.results })) in
      let built = if_built-ok (is_plain_core c) (from_of tables c.items >>= shown) r e in
      let made = then-ok (from_of tables c.items) shown r built.1 in
      let stands = from_stands front tables [] c.items made.0 h.items made.1 in
      let q : Query = record { from = made.0; conjuncts = tests; results = c.results } in
      let columns : HasColumns q = record {
        units = units;
        conjuncts = subst (λ from. EachIsWithin front from tests) (sym stands.widths) (all_conditions front (widths_of c.items) (rejecting c) (rejecting_within c h));
        results = subst (λ from. EachIsWithin front from c.results) (sym stands.widths) (results_within c built.0 h);
      } in
      subst RunsWell (same-ok (Queries q) r made.2) (record { within = query_is q stands.joins columns; columns = columns })

  pub part_runs : (tables : List TableEntry) (p : BoundPart) (r : Runnable) → PartIsWithin units 0 p → part_of tables p ≡ Ok r → RunsWell r
  part_runs tables (part.Select c) r h e = select_runs tables c r h e
  part_runs tables (part.Values rows) r h e = subst RunsWell (same-ok (Shows rows) r e) (record { within = rows_below front rows h; columns = (units, h) })
