-- How what was bound stands to what the definitions bind.
use Rattle.std.specs.Prelude.{◌≡◌, ◌⊎◌, ⊤, ℕ, List, Some, Result, Ok, Err, map}
use Rattle.std.specs.List.{AllZip, flat_map}
use Rattle.eng_value.specs.declared.cause.Cause.{Cause}
use Rattle.eng_value.specs.declared.cause.Cause.TheVariants.{Mem}
use Rattle.sql_tree.specs.Sizes.{size_of_statement}
use Rattle.sql_tree.specs.declared.statement.Statement.{Statement}
use Rattle.sql_meaning.specs.declared.bound.BoundInsert.{BoundInsert}
use Rattle.sql_meaning.specs.declared.bound.BoundSelect.{BoundSelect}
use Rattle.sql_meaning.specs.declared.bound.FromTable.{FromTable}
use Rattle.sql_meaning.specs.declared.bound.Join.{Join}
use Rattle.sql_meaning.specs.declared.bound.Join.TheVariants as join
use Rattle.sql_meaning.specs.Runnables.{Runnable, Creates, DoesNothing, Drops, FromItem, Indexes, NewIndex, Put, Puts, Queries, Query, Shows, Unindexes}
use Rattle.sql_meaning.specs.Declarations.{columns_created, rowid_created}
use Rattle.eng_entry.specs.Entries.{Entries}
use Rattle.bound_tree.specs.Conditions.{conditions_of}
use Rattle.bound_ignored.specs.Erased.{Marks, erased}
use Rattle.sql_meaning.specs.Permits.{Asking}
use Rattle.sql_meaning.specs.Searches.{marks_in}
use Rattle.sql_meaning.specs.Statement.{plain_bound}
use Rattle.bind_stmt.specs.Small.{IsSmall}
use Rattle.bind_stmt.specs.declared.creating.NewIndex as bound_index
use Rattle.bind_stmt.specs.declared.statement.Bound.{Bound}
use Rattle.bind_stmt.specs.declared.statement.Bound.TheVariants as bound

-- ---- answers

-- the cause is that of the definition, or want of memory
abbrev pub IsRefusal : {B : Type 0} → Result B Cause → Cause → Type 0
IsRefusal meant why = (why ≡ Mem) ⊎ (meant ≡ Err why)

-- what the definition gives, or its refusal
abbrev pub Answers : {B : Type 0} → Result B Cause → Result B Cause → Type 0
Answers meant (Ok b) = meant ≡ Ok b
Answers meant (Err why) = IsRefusal meant why

-- what the definition gives stands so to what was answered, or its refusal
abbrev pub AnswersBy : {B C : Type 0} → (B → C → Type 0) → Result B Cause → Result C Cause → Type 0
AnswersBy {B} R meant (Ok c) = (b : B) × (meant ≡ Ok b) × R b c
AnswersBy R meant (Err why) = IsRefusal meant why

-- ---- what stands for what

-- what a LEFT JOIN's ON tests stands as it reads rows that are stored
abbrev pub IsJoin : Marks → Join → Join → Type 0
IsJoin m join.Inner join.Inner = ⊤
IsJoin m (join.Left ons) (join.Left made) = flat_map conditions_of made ≡ map (erased m) ons
IsJoin m _ _ = ⊥

-- an item by the number of its table, with the terms of its indexes
pub record IsItem (m : Marks) (i : FromItem) (f : FromTable) : Type 0 where
  pub table : f.table ≡ i.table.number
  pub indexes : f.indexes ≡ i.indexes
  pub join : IsJoin m i.join f.join

-- each item of a FROM that has these marks
abbrev pub AreFrom : Marks → List FromItem → List FromTable → Type 0
AreFrom m from made = AllZip (IsItem m) from made

-- NULL stands in place of what is ignored, and the rowid in place of the column that is it
pub record IsQueryAs (q : Query) (b : BoundSelect) : Type 0 where
  pub from : AreFrom (marks_in q.from) q.from b.from
  pub conjuncts : flat_map conditions_of b.conjuncts ≡ map (erased (marks_in q.from)) q.conjuncts
  pub results : b.results ≡ map (erased (marks_in q.from)) q.results

-- the rows, and what their table's columns take
abbrev pub IsPut : Put → BoundInsert → Type 0
IsPut p b = b ≡ p.insert

-- an index by the name and the number of its table
pub record IsIndexAs (i : NewIndex) (x : bound_index.NewIndex) : Type 0 where
  pub name : x.name ≡ i.entry.name
  pub table_name : x.table_name ≡ i.table.name
  pub table : x.table ≡ i.table.number
  pub terms : x.terms ≡ i.terms
  pub unique : x.unique ≡ i.unique

-- ---- statements

abbrev pub IsBound : Runnable → Bound → Type 0
IsBound (Creates e) (bound.CreateTable t) =
    (t.name ≡ e.name) × (columns_created e.text e.def.command ≡ Some t.columns) × (t.rowid ≡ rowid_created e.text e.def.command)
IsBound (Drops t) (bound.DropTable d) = (d.name ≡ t.name) × (d.table ≡ t.number)
IsBound (Indexes i) (bound.CreateIndex x) = IsIndexAs i x
IsBound (Unindexes name) (bound.DropIndex n) = n ≡ name
IsBound (Puts p) (bound.Insert b) = IsPut p b
IsBound (Queries q) (bound.Select b) = IsQueryAs q b
IsBound (Shows rows) (bound.Values b) = b ≡ rows
IsBound DoesNothing bound.Nothing = ⊤
IsBound _ _ = ⊥

-- the statement is bound, and what runs is small beside its tree; or it is refused; and memory may be wanting
abbrev pub BindsTo : ℕ → Result Runnable Cause → Result Bound Cause → Type 0
BindsTo size meant (Ok b) = (x : Runnable) × (meant ≡ Ok x) × IsBound x b × IsSmall size x
BindsTo size meant (Err why) = IsRefusal meant why

-- over this catalog, where a new table gets this number, and this is said of what statements do
unfoldable pub Binds : Asking → Entries → ℕ → List ℕ → Statement → Result Bound Cause → Type 0
Binds asked catalog number text s r = BindsTo (size_of_statement s) (plain_bound asked catalog number text s) r
