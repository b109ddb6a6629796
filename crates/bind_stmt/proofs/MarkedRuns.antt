-- What runs of a statement of which something is ignored is what would run of it else, but for what its items ignore.
use Rattle.std.proofs.Common.{◌≡◌, ◌≤◌, ◌+◌, ◌*◌, ℕ, suc, nat_eq, Bool, true, false, not, ◌&&◌, List, [], ◌∷◌, ◌++◌, length, map, is_some, option_map, Option, Some, None, Result, Ok, Err, slice_get, flat_map, refl, sym, ap, subst, ◌∙◌}
use Rattle.std.proofs.lemmas.List.{length-map}
use Rattle.std.proofs.lemmas.Option.{slice_get-map}
use Rattle.eng_value.specs.declared.authorizing.Action.{Action}
use Rattle.eng_value.specs.declared.cause.Cause.{Cause}
use Rattle.sql_tree.specs.declared.statement.Statement.{Statement}
use Rattle.bound_tree.specs.Conditions.{conditions_of}
use Rattle.bound_tree.specs.Exprs.{BoundExpr}
use Rattle.bound_tree.specs.declared.statements.BoundCommand.{BoundCommand}
use Rattle.bound_tree.specs.declared.statements.BoundCommand.TheVariants as made
use Rattle.bound_tree.specs.declared.statements.BoundStatement.{BoundStatement}
use Rattle.bound_tree.specs.declared.units.BoundCore.{BoundCore}
use Rattle.bound_tree.specs.declared.units.BoundItem.{BoundItem}
use Rattle.bound_tree.specs.declared.units.BoundPart.{BoundPart}
use Rattle.bound_tree.specs.declared.units.BoundPart.TheVariants as part
use Rattle.bound_tree.specs.declared.units.BoundQuery.{BoundQuery}
use Rattle.bound_tree.specs.declared.units.BoundUnit.{BoundUnit}
use Rattle.bound_tree.specs.declared.units.BoundUnit.TheVariants as unit
use Rattle.bound_tree.specs.declared.writes.BoundChange.{BoundChange}
use Rattle.bound_tree.specs.declared.writes.BoundChange.TheVariants as change
use Rattle.bound_tree.specs.declared.writes.BoundTarget.{BoundTarget}
use Rattle.bound_tree.specs.declared.writes.BoundWrite.{BoundWrite}
use Rattle.bound_actions.specs.Froms.{table_of}
use Rattle.bound_ignored.specs.Marked.{ignoring, marked, marked_as, marked_command, marked_compound, marked_core, marked_part, marked_unit, marked_write, places_in}
use Rattle.sql_meaning.specs.declared.column.TableEntry.{TableEntry}
use Rattle.sql_meaning.specs.Running.{command_of, first_part, from_of, has_own_keys, if_built, is_plain_core, is_plain_query, item_of_table, part_of, put_at, put_into, put_of, query_of, rejecting, rows_of_part, runnable_of, select_of, table_of_source, tested_by}
use Rattle.sql_meaning.specs.Runnables.{Creates, DoesNothing, Drops, Explains, FromItem, Indexes, Puts, Queries, Runnable, Shows, Unindexes}
use Rattle.sql_meaning.proofs.ValidLaws.{same-ok}
use Rattle.sql_words.specs.Refusals.{◌>>=◌}
use Rattle.bind_stmt.specs.Small.{IsSmall, columns_in, from_size}
use Rattle.bind_stmt.specs.Steps.{inner_ons}

-- ---- without what is ignored

abbrev bare_item : FromItem → FromItem
bare_item i = record i { ignored = [] }

abbrev bare_from : List FromItem → List FromItem
bare_from from = map bare_item from

abbrev bare : Runnable → Runnable
bare (Queries q) = Queries (record q { from = bare_from q.from })
bare (Creates e) = Creates e
bare (Drops t) = Drops t
bare (Indexes i) = Indexes i
bare (Unindexes name) = Unindexes name
bare (Puts p) = Puts p
bare (Shows rows) = Shows rows
bare DoesNothing = DoesNothing
bare (Explains how x) = Explains how x

abbrev bared : {A : Type 0} → (A → A) → Result A Cause → Result A Cause
bared f (Ok a) = Ok (f a)
bared f (Err why) = Err why

-- ---- FROM

module _ (tables : List TableEntry) (ignored : List Action) (within : Option (List ℕ)) where
  cons-bare : (i : FromItem) (r : Result (List FromItem) Cause) → bared bare_from (r >>= λ others. Ok (i ∷ others)) ≡ (bared bare_from r >>= λ others. Ok (bare_item i ∷ others))
  cons-bare i (Ok others) = refl
  cons-bare i (Err why) = refl

  -- items that differ in what they ignore, in front of others that are alike
  item-alike : (i : BoundItem) (t : Result TableEntry Cause) (p q : List (Option ℕ)) (x y : Result (List FromItem) Cause) → bared bare_from x ≡ bared bare_from y
      → bared bare_from (t >>= λ u. x >>= λ others. Ok (item_of_table (record i { ignored = p }) u ∷ others)) ≡ bared bare_from (t >>= λ u. y >>= λ others. Ok (item_of_table (record i { ignored = q }) u ∷ others))
  item-alike i (Ok u) p q x y alike =
      let behind : Result (List FromItem) Cause → Result (List FromItem) Cause = λ r. r >>= λ others. Ok (bare_item (item_of_table i u) ∷ others) in
      cons-bare (item_of_table (record i { ignored = p }) u) x ∙ ap behind alike ∙ sym (cons-bare (item_of_table (record i { ignored = q }) u) y)
  item-alike i (Err why) p q x y alike = refl

  from-alike : (items : List BoundItem) → bared bare_from (from_of tables (map (marked ignored within) items)) ≡ bared bare_from (from_of tables items)
  from-alike [] = refl
  from-alike (i ∷ items) = by (table_of i.source) (from-alike items)
    where
      by : (table : Option (List ℕ)) → bared bare_from (from_of tables (map (marked ignored within) items)) ≡ bared bare_from (from_of tables items)
          → bared bare_from (table_of_source tables (marked_as ignored within table i).source >>= λ t. from_of tables (map (marked ignored within) items) >>= λ others. Ok (item_of_table (marked_as ignored within table i) t ∷ others))
          ≡ bared bare_from (from_of tables (i ∷ items))
      by None alike = item-alike i (table_of_source tables i.source) i.ignored i.ignored (from_of tables (map (marked ignored within) items)) (from_of tables items) alike
      by (Some table) alike = item-alike i (table_of_source tables i.source) (places_in ignored within table i.columns) i.ignored (from_of tables (map (marked ignored within) items)) (from_of tables items) alike

  -- ---- queries

  -- what is ignored changes nothing of what ONs say
  tested-alike : (i : BoundItem) (table : Option (List ℕ)) → tested_by (marked_as ignored within table i).join (marked_as ignored within table i).ons ≡ tested_by i.join i.ons
  tested-alike i None = refl
  tested-alike i (Some table) = refl

  ons-alike : (items : List BoundItem) → inner_ons (map (marked ignored within) items) ≡ inner_ons items
  ons-alike [] = refl
  ons-alike (i ∷ items) =
      ap (λ ons. ons ++ inner_ons (map (marked ignored within) items)) (tested-alike i (table_of i.source)) ∙ ap (λ others. tested_by i.join i.ons ++ others) (ons-alike items)

  abbrev over : List BoundExpr → List BoundExpr → List FromItem → Result Runnable Cause
  over conjuncts results from = Ok (Queries (record { from = from; conjuncts = flat_map conditions_of conjuncts; results = results }))

  over-bare : (conjuncts results : List BoundExpr) (r : Result (List FromItem) Cause) → bared bare (r >>= over conjuncts results) ≡ (bared bare_from r >>= over conjuncts results)
  over-bare conjuncts results (Ok from) = refl
  over-bare conjuncts results (Err why) = refl

  select-alike : (c : BoundCore) → bared bare (select_of tables (marked_core ignored within c)) ≡ bared bare (select_of tables c)
  select-alike c =
      ap (λ ons. bared bare (if_built (is_plain_core c) (from_of tables (map (marked ignored within) c.items) >>= over (ons ++ c.conjuncts) c.results))) (ons-alike c.items)
      ∙ by (is_plain_core c)
    where
      by : (plain : Bool) → bared bare (if_built plain (from_of tables (map (marked ignored within) c.items) >>= over (rejecting c) c.results)) ≡ bared bare (if_built plain (from_of tables c.items >>= over (rejecting c) c.results))
      by false = refl
      by true =
          over-bare (rejecting c) c.results (from_of tables (map (marked ignored within) c.items)) ∙ ap (λ r. r >>= over (rejecting c) c.results) (from-alike c.items)
          ∙ sym (over-bare (rejecting c) c.results (from_of tables c.items))

  part-alike : (p : BoundPart) → bared bare (part_of tables (marked_part ignored within p)) ≡ bared bare (part_of tables p)
  part-alike (part.Select c) = select-alike c
  part-alike (part.Values rows) = refl

  rows-alike : (p : BoundPart) → rows_of_part (marked_part ignored within p) ≡ rows_of_part p
  rows-alike (part.Select c) = refl
  rows-alike (part.Values rows) = refl

plain-alike : (ignored : List Action) (q : BoundQuery) → is_plain_query (record q { first = marked_part ignored q.within q.first; others = map (marked_compound ignored q.within) q.others }) ≡ is_plain_query q
plain-alike ignored q = ap (λ n. nat_eq n 0 && nat_eq (length q.order) 0 && not (is_some q.limit) && not (is_some q.offset)) (length-map q.others (marked_compound ignored q.within))

module _ (tables : List TableEntry) (ignored : List Action) where
  abbrev units_marked : List BoundUnit → List BoundUnit
  units_marked units = map (marked_unit ignored) units

  unit-at : (units : List BoundUnit) (place : ℕ) → slice_get (units_marked units) place ≡ option_map (marked_unit ignored) (slice_get units place)
  unit-at units place = slice_get-map (marked_unit ignored) units place

  -- what is made of the first part of a plain query
  first-alike : {A : Type 0} (f : A → A) (g : BoundPart → Result A Cause) → ((within : Option (List ℕ)) (p : BoundPart) → bared f (g (marked_part ignored within p)) ≡ bared f (g p)) → (o : Option BoundUnit)
      → bared f (first_part (option_map (marked_unit ignored) o) >>= g) ≡ bared f (first_part o >>= g)
  first-alike f g same None = refl
  first-alike f g same (Some (unit.Recursed r)) = refl
  first-alike f g same (Some (unit.Queried q)) =
      ap (λ b. bared f (if_built b (Ok (marked_part ignored q.within q.first)) >>= g)) (plain-alike ignored q) ∙ by (is_plain_query q)
    where
      by : (plain : Bool) → bared f (if_built plain (Ok (marked_part ignored q.within q.first)) >>= g) ≡ bared f (if_built plain (Ok q.first) >>= g)
      by false = refl
      by true = same q.within q.first

  query-alike : (units : List BoundUnit) (place : ℕ) → bared bare (query_of tables (units_marked units) place) ≡ bared bare (query_of tables units place)
  query-alike units place =
      ap (λ o. bared bare (first_part o >>= part_of tables)) (unit-at units place) ∙ first-alike bare (part_of tables) (part-alike tables ignored) (slice_get units place)

  -- ---- INSERT

  bared-same : {A : Type 0} (r : Result A Cause) → bared (λ a. a) r ≡ r
  bared-same (Ok a) = refl
  bared-same (Err why) = refl

  source-alike : (units : List BoundUnit) (place : ℕ) → (first_part (slice_get (units_marked units) place) >>= rows_of_part) ≡ (first_part (slice_get units place) >>= rows_of_part)
  source-alike units place =
      ap (λ o. first_part o >>= rows_of_part) (unit-at units place)
      ∙ sym (bared-same (first_part (option_map (marked_unit ignored) (slice_get units place)) >>= rows_of_part))
      ∙ first-alike (λ rows. rows) rows_of_part (λ within p. ap (bared (λ rows. rows)) (rows-alike tables ignored within p)) (slice_get units place)
      ∙ bared-same (first_part (slice_get units place) >>= rows_of_part)

  put-alike : (t : TableEntry) (target : BoundTarget) (units : List BoundUnit) (c : BoundChange) → put_into t target (units_marked units) c ≡ put_into t target units c
  put-alike t target units (change.Inserted places given source arguments) = ap (λ r. r >>= λ rows. put_at t target places given rows) (source-alike units source)
  put-alike t target units change.Defaulted = refl
  put-alike t target units (change.Updated sets conjuncts) = refl
  put-alike t target units (change.Deleted conjuncts) = refl

  -- nothing of what is ignored counts where rows are put
  abbrev ignored_in : Option (List ℕ) → BoundTarget → BoundTarget
  ignored_in table target = record target { item = marked_as ignored None table target.item }

  target-alike : (t : TableEntry) (table : Option (List ℕ)) (target : BoundTarget) (units : List BoundUnit) (c : BoundChange) → put_into t (ignored_in table target) units c ≡ put_into t target units c
  target-alike t None target units c = refl
  target-alike t (Some table) target units (change.Inserted places given source arguments) = refl
  target-alike t (Some table) target units change.Defaulted = refl
  target-alike t (Some table) target units (change.Updated sets conjuncts) = refl
  target-alike t (Some table) target units (change.Deleted conjuncts) = refl

  write-alike : (units : List BoundUnit) (w : BoundWrite) → put_of tables (units_marked units) (marked_write ignored None w) ≡ put_of tables units w
  write-alike units w = by (table_of w.target.item.source)
    where
      into : Option (List ℕ) → TableEntry → Result Runnable Cause
      into table t = put_into t (ignored_in table w.target) (units_marked units) w.change >>= λ put. Ok (Puts put)

      over : (table : Option (List ℕ)) (r : Result TableEntry Cause) → (r >>= into table) ≡ (r >>= λ t. put_into t w.target units w.change >>= λ put. Ok (Puts put))
      over table (Ok t) = ap (λ r. r >>= λ put. Ok (Puts put)) (target-alike t table w.target (units_marked units) w.change ∙ put-alike t w.target units w.change)
      over table (Err why) = refl

      by : (table : Option (List ℕ)) → put_of tables (units_marked units) (record w { target = ignored_in table w.target }) ≡ put_of tables units w
      by None = ap (if_built (has_own_keys w.target.item.indexes)) (over None (table_of_source tables w.target.item.source))
      by (Some table) = ap (if_built (has_own_keys w.target.item.indexes)) (over (Some table) (table_of_source tables w.target.item.source))

  -- ---- any statement

  command-alike : (number : ℕ) (text : List ℕ) (s : Statement) (units : List BoundUnit) (k : BoundCommand) → bared bare (command_of tables number text s (units_marked units) (marked_command ignored k)) ≡ bared bare (command_of tables number text s units k)
  command-alike number text s units (made.Asked place) = query-alike units place
  command-alike number text s units (made.Written w) = ap (bared bare) (write-alike units w)
  command-alike number text s units (made.Created c) = refl
  command-alike number text s units (made.Removed r) = refl
  command-alike number text s units (made.Transacted t) = refl
  command-alike number text s units (made.Pragma name) = refl
  command-alike number text s units (made.Nothing kind name owner) = refl

-- ---- it is as large

from_size-bare : (from : List FromItem) → from_size (bare_from from) ≡ from_size from
from_size-bare [] = refl
from_size-bare (i ∷ from) = ap (λ n. 1 + suc n) (length-map from bare_item)

columns-bare : (from : List FromItem) → columns_in (bare_from from) ≡ columns_in from
columns-bare [] = refl
columns-bare (i ∷ from) = ap (λ n. i.width + n) (columns-bare from)

bare-small : (size : ℕ) (x : Runnable) → IsSmall size x → IsSmall size (bare x)
bare-small size (Queries q) small =
    record {
      filter = small.filter;
      shown = small.shown;
      stars = small.stars;
      within = subst (λ n. 1 + small.shown + n + small.filter ≤ size) (sym (from_size-bare q.from)) small.within;
      hundred = small.hundred;
      of_table = subst (λ n. small.stars ≤ 100 * n) (sym (columns-bare q.from)) small.of_table;
      results = small.results;
    }
bare-small size (Creates e) small = small
bare-small size (Drops t) small = small
bare-small size (Indexes i) small = small
bare-small size (Unindexes name) small = small
bare-small size (Puts p) small = small
bare-small size (Shows rows) small = small
bare-small size DoesNothing small = small
bare-small size (Explains how x) small = small

small-bare : (size : ℕ) (x : Runnable) → IsSmall size (bare x) → IsSmall size x
small-bare size (Queries q) small =
    record {
      filter = small.filter;
      shown = small.shown;
      stars = small.stars;
      within = subst (λ n. 1 + small.shown + n + small.filter ≤ size) (from_size-bare q.from) small.within;
      hundred = small.hundred;
      of_table = subst (λ n. small.stars ≤ 100 * n) (columns-bare q.from) small.of_table;
      results = small.results;
    }
small-bare size (Creates e) small = small
small-bare size (Drops t) small = small
small-bare size (Indexes i) small = small
small-bare size (Unindexes name) small = small
small-bare size (Puts p) small = small
small-bare size (Shows rows) small = small
small-bare size DoesNothing small = small
small-bare size (Explains how x) small = small

by-bare : (size : ℕ) (x : Runnable) (r : Result Runnable Cause) → bared bare r ≡ Ok (bare x) → ((y : Runnable) → r ≡ Ok y → IsSmall size y) → IsSmall size x
by-bare size x (Ok y) is small = small-bare size x (subst (IsSmall size) (same-ok (bare y) (bare x) is) (bare-small size y (small y refl)))
by-bare size x (Err why) is small = absurd (let bad : Err why ≡ Ok (bare x) = is in cc)

pub marked-small : (size : ℕ) (tables : List TableEntry) (number : ℕ) (text : List ℕ) (s : Statement) (ignored : List Action) (b : BoundStatement) (x : Runnable) → ((y : Runnable) → runnable_of tables number text s b ≡ Ok y → IsSmall size y)
    → runnable_of tables number text s (ignoring ignored b) ≡ Ok x → IsSmall size x
marked-small size tables number text s ignored b x small is =
    by-bare size x (runnable_of tables number text s b) (sym (command-alike tables ignored number text s b.units b.command) ∙ ap (bared bare) is) small
