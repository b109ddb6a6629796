-- What whole statements do that are not refused.
use Rattle.std.proofs.Common.{◌≡◌, ℕ, suc, Bool, true, false, ◌&&◌, if◌then◌else◌, List, [], ◌∷◌, ◌++◌, length, Option, Some, None, Ok, refl, sym, ap, ◌∙◌, subst, arith}
use Rattle.std.proofs.lemmas.List.{length-map}
use Rattle.eng_entry.specs.declared.entry.Entry.{Entry}
use Rattle.eng_value.specs.Environments.{Environment}
use Rattle.eng_entry.specs.Entries.{with_entry}
use Rattle.eng_index.specs.Keys.{has_doubles}
use Rattle.eng_value.specs.Causes.{CauseSet, named, only}
use Rattle.eng_value.specs.declared.cause.Cause.TheVariants as cause
use Rattle.eng_value.specs.declared.cause.ConstraintKind.TheVariants as constraint
use Rattle.eng_value.specs.Written.{Written}
use Rattle.eng_value.specs.declared.value.Value.{Value}
use Rattle.bound_tree.specs.Exprs.{BoundExpr}
use Rattle.sql_meaning.specs.declared.column.TableEntry.{TableEntry}
use Rattle.sql_meaning.specs.Runnables.{Runnable, Creates, Drops, Indexes, NewIndex, Put, Puts, Queries, Query, Shows, Unindexes}
use Rattle.sql_meaning.specs.Declarations.{table_called, table_with}
use Rattle.sql_meaning.specs.Effects.{AddsIndex, AddsRows, AddsTable, AreAdded, DropsIndex, DropsTable}
use Rattle.sql_meaning.specs.Permits.{asked_by}
use Rattle.sql_meaning.specs.Rows.{rowid_column}
use Rattle.sql_meaning.specs.Statement.{Item, Outcome, Row, Failed, begun, bound_for, bound_outcome, causes_of, closed, done, failed, given_of, outcome_of, put_outcome, put_source, rows_put, source_of, text_outcome, with_catalog, written}
use Rattle.sql_meaning.specs.Steps.{Effect, Done, Left, Fails}
use Rattle.sql_meaning.specs.Valid.{IsTable, IsValid}
use Rattle.sql_meaning.specs.World.{Context, State, environment_at, rows_at, tables_in}
use Rattle.sql_meaning.proofs.EffectLaws.{PutsRows}
use Rattle.sql_meaning.proofs.StepLaws.{Gives, anyhow, never}
use Rattle.sql_meaning.proofs.TableLaws.{entry-gone, none-called, numbers-new, others-none, rows_at-behind, rows_at-more, rows_at-set, rows_at-set_other}
use Rattle.sql_meaning.proofs.ValidLaws.{IsIndexed, IsPut, created-table, found-rows, left, source_put, tables-beside, tables-without, text-fits}

-- the outcome of a text is that of what it is bound to
text-is : (ctx : Context) (text : List ℕ) (b : Runnable) → bound_for ctx text ≡ Ok b → text_outcome ctx text ≡ outcome_of ctx b
text-is ctx text b is = ap (bound_outcome ctx) is

-- ---- INSERT

-- a source without a bad item gives a row for each
pub given_each : (items : List Item) → causes_of items ≡ None → length (given_of items) ≡ length items
given_each [] none = refl
given_each (Row row ∷ items) none = ap suc (given_each items none)
given_each (Failed causes ∷ items) none = absurd (cc)

written-adds : (state : State) (env : Environment) (p : Put) (count : ℕ) (x : Written) → rowid_column p.insert.rowid ≡ p.table.rowid → table_called (tables_in state) p.table.name ≡ Some p.table → IsTable state.world.tables p.table → PutsRows p.table env p.insert p.table.number (begun state) x count → AddsRows state env p count (written state x)
written-adds state env p count x column found held put =
    let number = p.table.number in
    record {
      found = found;
      column = column;
      catalog = refl;
      others = λ other differs. ap (λ lists. rows_at lists other) put.world ∙ rows_at-set_other state.world.tables number other _ differs;
      new = put.new;
      added = subst (AreAdded p.insert.keys (rows_at state.world.tables number) put.new) (sym (ap (λ lists. rows_at lists number) put.world ∙ rows_at-set state.world.tables number put.rows held.there)) put.added;
      fitting = put.fitting;
      drawn = put.drawn;
      count = put.count;
      rest = record { transaction = refl; in_flight = refl; commit_answers = refl; recursive_triggers = refl };
      changed = omega (arith, put.changes);
      changes = omega (arith, put.changes);
      last_rowid = put.last_rowid;
    }

closed-adds : (state : State) (env : Environment) (p : Put) (count : ℕ) (s : Effect) → rowid_column p.insert.rowid ≡ p.table.rowid → table_called (tables_in state) p.table.name ≡ Some p.table → IsTable state.world.tables p.table → Gives (λ u x. PutsRows p.table env p.insert p.table.number (begun state) x count) never anyhow s
    → (closed state s).refusal ≡ None → AddsRows state env p count (closed state s)
closed-adds state env p count (Done u x) column found held put e = written-adds state env p count x column found held put
closed-adds state env p count (Left x) column found held put e = absurd put
closed-adds state env p count (Fails causes x) column found held put e = absurd (let bad : Some (named causes) ≡ None = e in cc)

put_source-adds : (ctx : Context) (p : Put) (count : ℕ) (causes : Option CauseSet) (source : List (List Value)) → IsValid ctx.state → IsPut (tables_in ctx.state) p → (causes ≡ None → length source ≡ count)
    → (put_source ctx p causes source).refusal ≡ None → AddsRows ctx.state (environment_at ctx []) p count (put_source ctx p causes source)
put_source-adds ctx p count (Some causes) source valid put many e = absurd (let bad : Some causes ≡ None = e in cc)
put_source-adds ctx p count None source valid put many e =
    let env = environment_at ctx [] in
    let all = rows_put env p.insert source (begun ctx.state) in
    subst (λ n. AddsRows ctx.state env p n (closed ctx.state all)) (many refl)
    (closed-adds ctx.state env p (length source) all put.into.column put.found (found-rows ctx.state valid p.table put.found) (source_put ctx.state valid p env source put) e)

put-adds : (ctx : Context) (p : Put) → IsValid ctx.state → IsPut (tables_in ctx.state) p → (put_outcome ctx p).refusal ≡ None → AddsRows ctx.state (environment_at ctx []) p (length p.insert.rows) (put_outcome ctx p)
put-adds ctx p valid put e =
    put_source-adds ctx p (length p.insert.rows) (causes_of (source_of ctx p)) (given_of (source_of ctx p)) valid put (λ none. given_each (source_of ctx p) none ∙ length-map p.insert.rows _) e

pub inserts : (ctx : Context) (text : List ℕ) (p : Put) → IsValid ctx.state → bound_for ctx text ≡ Ok (Puts p) → (text_outcome ctx text).refusal ≡ None → AddsRows ctx.state (environment_at ctx []) p (length p.insert.rows) (text_outcome ctx text)
inserts ctx text p valid is e =
    let whole = text-is ctx text (Puts p) is in
    subst (AddsRows ctx.state (environment_at ctx []) p (length p.insert.rows)) (sym whole)
    (put-adds ctx p valid (text-fits (asked_by ctx.hosts.authorizer) ctx.state.world text (Puts p) is) (ap (λ (o : Outcome). o.refusal) (sym whole) ∙ e))

-- ---- CREATE TABLE

pub creates : (ctx : Context) (text : List ℕ) (e : Entry) → IsValid ctx.state → bound_for ctx text ≡ Ok (Creates e) → AddsTable ctx.state e (text_outcome ctx text)
creates ctx text e valid is =
    let c = text-fits (asked_by ctx.hosts.authorizer) ctx.state.world text (Creates e) is in
    let lists = ctx.state.world.tables in
    let t = table_with e c.columns in
    subst (AddsTable ctx.state e) (sym (text-is ctx text (Creates e) is)) (record {
      free = none-called e.name ctx.state.world.catalog.names c.free;
      new = t;
      table = created-table ctx.state.world.catalog (length lists) e c;
      catalog = refl;
      number = numbers-new lists (tables_in ctx.state) t valid.world.tables c.number;
      rows = ap (rows_at (lists ++ [] ∷ [])) c.number ∙ rows_at-behind lists;
      others = λ other differs. rows_at-more lists other (λ same. differs (same ∙ sym c.number));
      counts = record { rest = record { transaction = refl; in_flight = refl; commit_answers = refl; recursive_triggers = refl }; changed = refl; changes = refl; last_rowid = refl };
    })

-- ---- DROP TABLE

pub drops : (ctx : Context) (text : List ℕ) (t : TableEntry) → IsValid ctx.state → bound_for ctx text ≡ Ok (Drops t) → DropsTable ctx.state t (text_outcome ctx text)
drops ctx text t valid is =
    let found = text-fits (asked_by ctx.hosts.authorizer) ctx.state.world text (Drops t) is in
    let held = found-rows ctx.state valid t found in
    subst (DropsTable ctx.state t) (sym (text-is ctx text (Drops t) is)) (record {
      found = found;
      catalog = refl;
      gone = ap (λ tables. table_called tables t.name) (left ctx.state valid t) ∙ others-none t.name (tables_in ctx.state);
      rows = rows_at-set ctx.state.world.tables t.number [] held.there;
      others = λ other differs. rows_at-set_other ctx.state.world.tables t.number other [] differs;
      counts = record { rest = record { transaction = refl; in_flight = refl; commit_answers = refl; recursive_triggers = refl }; changed = refl; changes = refl; last_rowid = refl };
    })

-- ---- CREATE INDEX and DROP INDEX

index-adds : (state : State) (i : NewIndex) (valid : IsValid state) → IsIndexed state.world.catalog i → (broken : Bool) → i.unique && has_doubles i.terms (rows_at state.world.tables i.table.number) ≡ broken → (causes : CauseSet)
    → let o = if broken then failed state causes else done [] (with_catalog state (with_entry i.entry state.world.catalog)) in o.refusal ≡ None → AddsIndex state i o
index-adds state i valid is true broken causes e = absurd (let bad : Some (named causes) ≡ None = e in cc)
index-adds state i valid is false broken causes e = record {
  found = is.found;
  free = is.free;
  catalog = refl;
  tables = tables-beside state valid i is;
  rows = refl;
  unique = λ one. sym (ap (λ b. b && has_doubles i.terms (rows_at state.world.tables i.table.number)) one) ∙ broken;
  counts = record { rest = record { transaction = refl; in_flight = refl; commit_answers = refl; recursive_triggers = refl }; changed = refl; changes = refl; last_rowid = refl };
}

pub indexes : (ctx : Context) (text : List ℕ) (i : NewIndex) → IsValid ctx.state → bound_for ctx text ≡ Ok (Indexes i) → (text_outcome ctx text).refusal ≡ None → AddsIndex ctx.state i (text_outcome ctx text)
indexes ctx text i valid is e =
    let whole = text-is ctx text (Indexes i) is in
    subst (AddsIndex ctx.state i) (sym whole)
    (index-adds ctx.state i valid (text-fits (asked_by ctx.hosts.authorizer) ctx.state.world text (Indexes i) is) (i.unique && has_doubles i.terms (rows_at ctx.state.world.tables i.table.number)) refl (only (cause.Constraint constraint.Unique i.table.name))
    (ap (λ (o : Outcome). o.refusal) (sym whole) ∙ e))

pub unindexes : (ctx : Context) (text name : List ℕ) → IsValid ctx.state → bound_for ctx text ≡ Ok (Unindexes name) → DropsIndex ctx.state name (text_outcome ctx text)
unindexes ctx text name valid is =
    let fits = text-fits (asked_by ctx.hosts.authorizer) ctx.state.world text (Unindexes name) is in
    subst (DropsIndex ctx.state name) (sym (text-is ctx text (Unindexes name) is)) (record {
      catalog = refl;
      gone = entry-gone ctx.state.world.catalog.names name;
      tables = tables-without ctx.state valid name fits;
      rows = refl;
      counts = record { rest = record { transaction = refl; in_flight = refl; commit_answers = refl; recursive_triggers = refl }; changed = refl; changes = refl; last_rowid = refl };
    })

-- ---- queries

pub selects : (ctx : Context) (text : List ℕ) (q : Query) → bound_for ctx text ≡ Ok (Queries q) → (text_outcome ctx text).next ≡ ctx.state
selects ctx text q is = ap (λ (o : Outcome). o.next) (text-is ctx text (Queries q) is)

pub shows : (ctx : Context) (text : List ℕ) (rows : List (List BoundExpr)) → bound_for ctx text ≡ Ok (Shows rows) → (text_outcome ctx text).next ≡ ctx.state
shows ctx text rows is = ap (λ (o : Outcome). o.next) (text-is ctx text (Shows rows) is)
