-- What statements that are ready to run come to is what the definitions say of what was bound.
use Rattle.std.proofs.Common.{◌≡◌, ◌⊎◌, inl, inr, ◌||◌, ℕ, ◌<◌, true, List, [], ◌∷◌, ◌++◌, ℤ, length, map, option_map, All, Option, Some, None, refl, sym, ap, ◌∙◌}
use Rattle.std.specs.List.{AllZip, flat_map}
use Rattle.std.proofs.lemmas.List.Elements.{All-head, All-tail}
use Rattle.std.specs.FinSet as set
use Rattle.std.specs.Cmp.Lexicographic.{nat_list_cmp_total}
use Rattle.eng_value.specs.Causes.{CauseSet, cause_key, has_cause, named}
use Rattle.eng_value.specs.Environments.{Environment, Surroundings, environment, table_row}
use Rattle.eng_value.specs.HostMeanings.{HostMeanings}
use Rattle.eng_value.specs.Written.{unwritten}
use Rattle.eng_value.specs.declared.cause.Cause.{Cause}
use Rattle.eng_value.specs.declared.value.Value.{Value}
use Rattle.plan_tree.specs.Plans.{joined_table, rows_of_from, split_join}
use Rattle.gen_write.specs.Writes.{Course, rows_run, run_by, source_run, untouched}
use Rattle.bound_tree.specs.Exprs.{BoundExpr}
use Rattle.sql_meaning.specs.declared.bound.BoundInsert.{BoundInsert}
use Rattle.sql_meaning.specs.declared.bound.BoundSelect.{BoundSelect}
use Rattle.sql_meaning.specs.declared.column.TableEntry.{TableEntry}
use Rattle.sql_meaning.specs.Runnables.{FromItem, NewIndex, Put, Query}
use Rattle.sql_meaning.specs.Statement.{Item, Row, Failed as Bad, IsNamed, causes_of, with_others, closed, drop_outcome, Outcome, query_outcome, items_of, items_at, from_rows, index_outcome, put_outcome, put_source, source_of as source_meant, refusal_of, given_of, rows_put}
use Rattle.sql_meaning.specs.Steps.{Effect, Done, Left, Fails}
use Rattle.sql_meaning.specs.World.{Context, State, context, environment_at, rows_at}
use Rattle.vm_code.specs.Machine.{ending_by, World as Lists, IsSound, Shared}
use Rattle.bind_stmt.specs.Binds.{AreFrom, IsIndexAs, IsJoin, IsQueryAs}
use Rattle.sql_meaning.specs.Searches.{marks_in}
use Rattle.sql_meaning.specs.declared.bound.FromTable.{FromTable}
use Rattle.bound_ignored.specs.Erased.{Marks, erased}
use Rattle.sql_meaning.proofs.ErasedRows.{IsStored, erased_join, from-erased}
use Rattle.sql_meaning.specs.Products.{FromRow, in_row}
use Rattle.sql_meaning.specs.declared.bound.Join.{Join}
use Rattle.sql_meaning.specs.declared.bound.Join.TheVariants.{Inner, Left}
use Rattle.sql_meaning.proofs.RowidPlaces.{HasPlace}
use Rattle.bind_stmt.specs.declared.statement.DroppedTable.{DroppedTable}
use Rattle.eng_entry.specs.Entries.{Entries}
use Rattle.engine.specs.Held.{state_of}
use Rattle.engine.specs.declared.preparing.NewIndexEntry.{NewIndexEntry}
use Rattle.engine.specs.Outcomes.{drop_outcome_in, index_outcome_in, query_outcome_in, put_outcome_in, left_by, surroundings_in}
use Rattle.engine.proofs.CarryingOut.{StandsFor, ended_by, stands_same}
use Rattle.engine.proofs.Puts.{Puts, puts_rows}

-- ---- bad items

-- there is no bad item, or those causes of the first that may be named are among those of all
abbrev pub BadSides : List Item → Type 0
BadSides items =
    ((refusal_of items ≡ None) × (causes_of items ≡ None))
    ⊎ ((first : CauseSet) × (all : CauseSet) × (refusal_of items ≡ Some first) × (causes_of items ≡ Some all) × ((k : Cause) → has_cause (named first) k ≡ true → has_cause all k ≡ true))

among_others : (causes : CauseSet) (others : Option CauseSet) (k : Cause) → has_cause causes k ≡ true → has_cause (with_others causes others) k ≡ true
among_others causes None k has = has
among_others causes (Some others) k has = set.contains-union nat_list_cmp_total causes others (cause_key k) ∙ ap (λ b. b || has_cause others k) has

pub bad_sides : (items : List Item) → BadSides items
bad_sides [] = inl (refl, refl)
bad_sides (Row row ∷ items) = bad_sides items
bad_sides (Bad causes ∷ items) =
    inr (causes, with_others (named causes) (causes_of items), refl, refl, among_others (named causes) (causes_of items))

-- ---- queries

-- a join that was bound tests what the item's tests over rows that are stored
join_same : (m : Marks) (meant made : Join) → IsJoin m meant made → split_join made ≡ erased_join m meant
join_same m Inner Inner at = refl
join_same m (Left ons) (Left made) at = ap Left at
join_same m Inner (Left made) at = absurd at
join_same m (Left ons) Inner at = absurd at

-- the run of a query ends as the query is refused
pub query_ended : (state : State) (items : List Item) → ending_by (refusal_of items) ≡ ended_by (query_outcome state items).refusal
query_ended state items = by (refusal_of items)
  where
    by : (refusal : Option CauseSet) → ending_by refusal ≡ ended_by (option_map named refusal)
    by None = refl
    by (Some causes) = refl

module _ (hosts : HostMeanings) (entries : Entries) (lists : Lists) (changes : ℕ) (last : ℤ) (params : List Value) where
  abbrev state : State
  state = state_of entries lists changes last

  abbrev ctx : Context
  ctx = context hosts state params

  abbrev around : Surroundings
  around = surroundings_in hosts params lists

  -- ---- SELECT

  -- each row of an item's table has a place for the column that is the rowid
  abbrev pub HavePlaces : FromItem → Type 0
  HavePlaces i = All (HasPlace i.table.rowid) (rows_at lists i.table.number)

  -- what expressions see before an item has a row
  abbrev pub seen_first : Environment
  seen_first = environment around [] [] []

  -- the items that were bound stand for the FROM's over rows that are stored
  items_stored : (m : Marks) (from : List FromItem) (read : List FromTable) → AreFrom m from read → All HavePlaces from → AllZip (IsStored lists m) from (map (joined_table seen_first) read)
  items_stored m [] [] at places = tt
  items_stored m (i ∷ from) (f ∷ read) at places =
      let item = at.0 in (
        record { rows = ap (λ n. map table_row (rows_at lists n)) item.table; join = join_same m i.join f.join item.join; places = All-head HavePlaces i from places },
        items_stored m from read at.1 (All-tail HavePlaces i from places),
      )
  items_stored m [] (f ∷ read) at places = absurd at
  items_stored m (i ∷ from) [] at places = absurd at

  -- a FROM comes to its items over rows that are stored, with NULL in place of what is ignored and the rowid in place of the column that is it
  from_same : (conjuncts results : List BoundExpr) (from : List FromItem) (read : List FromTable) → AreFrom (marks_in from) from read → All HavePlaces from
      → flat_map (λ (row : FromRow). items_at conjuncts results (environment_at ctx row.rows) row.causes) (from_rows ctx from)
      ≡ flat_map (λ (row : FromRow). items_at (map (erased (marks_in from)) conjuncts) (map (erased (marks_in from)) results) (in_row seen_first row) row.causes) (rows_of_from seen_first read)
  from_same conjuncts results from read at places =
      sym (from-erased ctx conjuncts results from (map (joined_table seen_first) read) (items_stored (marks_in from) from read at places))

  pub query_same : (q : Query) (b : BoundSelect) → IsQueryAs q b → All HavePlaces q.from → query_outcome state (items_of ctx q) ≡ query_outcome_in hosts entries lists changes last params b
  query_same q b at places = rw (at.conjuncts, at.results) (ap (query_outcome state) (from_same q.conjuncts q.results q.from b.from at.from places))

  -- ---- INSERT

  abbrev start : Shared
  start = untouched lists last

  abbrev left : Course → Outcome
  left course = left_by entries lists changes last (run_by course).ending course.shared

  by_effect : (s : Effect) (course : Course) → Puts start s course → closed state s ≡ left course
  by_effect (Done u y) course (goes, shared, returned) = rw (goes, shared, returned) refl
  by_effect (Left y) course p = absurd p
  by_effect (Fails causes y) course (fails, given) = rw (fails, given) refl

  abbrev env : Environment
  env = environment around [] [] []

  module _ (table : TableEntry) (b : BoundInsert) (lt : b.table < length lists) (sound : IsSound lists) where
    abbrev put : Put
    put = record { table = table; insert = b }

    -- a source without a bad row
    put_good : (source : List (List Value)) → put_source ctx put None source ≡ left (source_run env b start None source)
    put_good source = by_effect (rows_put env b source (unwritten lists last)) (rows_run env b source start) (puts_rows env b source start sound lt)

    -- where there is one, the causes of the first are among those of all
    put_bad : (first all : CauseSet) (source : List (List Value)) → ((k : Cause) → has_cause (named first) k ≡ true → has_cause all k ≡ true)
        → StandsFor (put_source ctx put (Some all) source) (left (source_run env b start (Some first) source))
    put_bad first all source among = record { refusal = by_first; fails = refl; told = refl; given = refl; shows_plan = refl; changed = refl; next = refl }
      where
        by_first : (why : Option Cause) → IsNamed (Some (named first)) why → IsNamed (Some all) why
        by_first None n = absurd n
        by_first (Some k) n = among k n

    put_by : (items : List Item) (source : List (List Value)) → BadSides items → StandsFor (put_source ctx put (causes_of items) source) (left (source_run env b start (refusal_of items) source))
    put_by items source (inl none) = rw (none.0, none.1) (stands_same _ _ (put_good source))
    put_by items source (inr bad) = rw (bad.2, bad.3) (put_bad bad.0 bad.1 source bad.4)

    put_stands : StandsFor (put_outcome ctx put) (put_outcome_in hosts entries lists changes last params b)
    put_stands = put_by (source_meant ctx put) (given_of (source_meant ctx put)) (bad_sides (source_meant ctx put))

  pub put_same : (p : Put) (b : BoundInsert) → b ≡ p.insert → p.insert.table < length lists → IsSound lists → StandsFor (put_outcome ctx p) (put_outcome_in hosts entries lists changes last params b)
  put_same p b at lt sound = rw at (put_stands p.table p.insert lt sound)

  -- ---- CREATE INDEX and DROP TABLE

  pub index_same : (i : NewIndex) (n : NewIndexEntry) → IsIndexAs i n.index → n.entry ≡ i.entry → index_outcome state i ≡ index_outcome_in entries lists changes last n
  index_same i n at entry = rw (at.unique, at.terms, at.table, at.table_name, entry) refl

  pub drop_same : (t : TableEntry) (d : DroppedTable) → d.name ≡ t.name → d.table ≡ t.number → drop_outcome state t ≡ drop_outcome_in entries lists changes last d
  drop_same t d named number = rw (named, number) refl
