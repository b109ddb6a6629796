-- An INSERT whose source is a plain query of one part asks a unit that is small beside its tree, where the catalog has no triggers; and what
-- it puts by default and tests is small beside the tree of its table.
use Rattle.std.proofs.Common.{ℕ, ◌≡◌, true, List, [], map, Option, Some, Ok, sym, ap, ◌∙◌, subst}
use Rattle.eng_entry.specs.declared.entry.Entry.{Entry}
use Rattle.sql_tree.specs.declared.query.Query.{Query}
use Rattle.sql_tree.specs.declared.statement.Insert.{Insert}
use Rattle.sql_tree.specs.declared.statement.InsertSource.TheVariants as source
use Rattle.sql_tree.specs.declared.statement.RowCommand.TheVariants as rows_by
use Rattle.sql_words.specs.Refusals.{◌>>=◌}
use Rattle.sql_words.specs.Spelled.{name_at}
use Rattle.bound_tree.specs.declared.statements.BoundCommand.TheVariants.{Written}
use Rattle.bound_tree.specs.declared.statements.BoundCommand.{BoundCommand}
use Rattle.bound_tree.specs.declared.writes.BoundChange.{BoundChange}
use Rattle.bound_tree.specs.declared.writes.BoundWrite.{BoundWrite}
use Rattle.sql_bound.specs.Carriers.{InsertParts, QueryParts}
use Rattle.sql_bound.specs.Declarations.{table_named}
use Rattle.sql_bound.specs.Refusals.{Checked}
use Rattle.sql_bound.specs.Scopes.{Around, Outer, begun}
use Rattle.sql_bound.specs.Statements.{nothing_opened, rows_bound}
use Rattle.sql_bound.specs.Targets.{Target, target_bound}
use Rattle.sql_bound.specs.Trees.{of_insert_source, of_query, of_rows}
use Rattle.sql_bound.specs.Triggers.{opening}
use Rattle.sql_bound.specs.Writes.{Begun, Opened, Opening, fired_all, insert_begun, inserted_from, inserting, places_named, write_bound, write_with}
use Rattle.sql_bound.specs.declared.scopes.Work.{Work}
use Rattle.bound_size.specs.Plain.{is_plain_query}
use Rattle.bound_size.specs.Small.{InsertsSmall, IsSmallTarget}
use Rattle.bound_size.proofs.BoundLaws.{bound_by, same_answer}
use Rattle.bound_size.proofs.PlaceLaws.{inserted_placed}
use Rattle.bound_size.proofs.TargetLaws.{target_small}

abbrev Writing : Type 0
Writing = Begun × Work

module _ (o : Outer) where
  -- ---- what an INSERT begins with

  -- its target, and what it changes of that
  record Begins (i : InsertParts) (w : Work) (g : Writing) : Type 0 where
    target : Target × Work
    found : target_bound o (name_at o.text i.table) inserting w ≡ Ok target
    target_is : target.0 ≡ g.0.target
    listed : List (Option ℕ)
    change : BoundChange × Work
    given : inserted_from o target.0 listed i.source target.1 ≡ Ok change
    change_is : change.0 ≡ g.0.change
    work_is : change.1 ≡ g.1

  begins : (i : InsertParts) (w : Work) (g : Writing) → insert_begun o i w ≡ Ok g → Begins i w g
  begins i w g h =
      let made : Target → BoundChange × Work → Writing = λ t c. (record { target = t; choice = i.choice; firing = inserting; change = c.0 }, c.1) in
      let names = map (name_at o.text) i.columns in
      let t = bound_by (target_bound o (name_at o.text i.table) inserting w) (λ t. places_named t.0 names >>= λ listed. inserted_from o t.0 listed i.source t.1 >>= λ c. Ok (made t.0 c)) g h in
      let l = bound_by (places_named t.0.0 names) (λ listed. inserted_from o t.0.0 listed i.source t.0.1 >>= λ c. Ok (made t.0.0 c)) g t.2 in
      let c = bound_by (inserted_from o t.0.0 l.0 i.source t.0.1) (λ c. Ok (made t.0.0 c)) g l.2 in
      let same = same_answer (made t.0.0 c.0) g c.2 in
      record {
        target = t.0;
        found = t.1;
        target_is = ap (λ (x : Writing). x.0.target) same;
        listed = l.0;
        change = c.0;
        given = c.1;
        change_is = ap (λ (x : Writing). x.0.change) same;
        work_is = ap (λ (x : Writing). x.1) same;
      }

  begun_small : (q : Query) (i : InsertParts) (w : Work) (g : Writing) → i.source ≡ Some (of_query q) → is_plain_query q ≡ true → insert_begun o i w ≡ Ok g → InsertsSmall q g.0.change g.1.units
  begun_small q i w g from plain h =
      let b = begins i w g h in
      let placed = inserted_placed q o b.target.0 b.listed b.target.1 b.change plain (subst (λ (x : Option QueryParts). inserted_from o b.target.0 b.listed x b.target.1 ≡ Ok b.change) from b.given) in
      let small : InsertsSmall q b.change.0 b.change.1.units = record { columns = _; rowid = _; source = placed.0; arguments = placed.1; change = placed.2; makes = placed.3 } in
      subst (λ (x : Work). InsertsSmall q g.0.change x.units) b.work_is (subst (λ c. InsertsSmall q c b.change.1.units) b.change_is small)

  begun_target : (i : InsertParts) (w : Work) (g : Writing) → insert_begun o i w ≡ Ok g → IsSmallTarget (table_named (name_at o.text i.table) o.around.catalog) g.0.target.target
  begun_target i w g h =
      let b = begins i w g h in
      let name = name_at o.text i.table in
      subst (λ (t : Target). IsSmallTarget (table_named name o.around.catalog) t.target) b.target_is (target_small o name w b.target b.found)

  -- ---- as it is bound with its triggers

  abbrev parts_of : Insert → InsertParts
  parts_of i = record { choice = i.choice; table = i.table; columns = i.columns; source = of_insert_source i.source }

  -- it is what it began with; no unit comes to its own where nothing fires
  pub record IsWritten (i : Insert) (r : BoundCommand × Opened) : Type 0 where
    pub write : BoundWrite
    pub command : r.0 ≡ Written write
    pub begun_as : Writing
    pub began : insert_begun o (parts_of i) (begun []) ≡ Ok begun_as
    pub target : begun_as.0.target.target ≡ write.target
    pub change : begun_as.0.change ≡ write.change
    pub units : o.around.catalog.triggers ≡ [] → begun_as.1.units ≡ r.1.units

  none_fires : (open_it : Opening) (around : Around) (b : Begun) (triggers : List Entry) (so_far f : List ℕ × Opened) → triggers ≡ [] → fired_all open_it around b triggers so_far ≡ Ok f → so_far ≡ f
  none_fires open_it around b triggers so_far f none h = same_answer so_far f (subst (λ ts. fired_all open_it around b ts so_far ≡ Ok f) none h)

  written_as : (i : Insert) (r : BoundCommand × Opened) → rows_bound o (of_rows (rows_by.Insert i)) ≡ Ok r → IsWritten i r
  written_as i r h =
      let open_it = opening o.around in
      let opened : Writing → Opened = λ g. record nothing_opened { units = g.1.units } in
      let write : Writing → List ℕ × Opened → BoundWrite × Opened = λ g f. (write_with g.0 g.1.needs f.0 true, f.1) in
      let told : BoundWrite × Opened → BoundCommand × Opened = λ b. (Written b.0, b.1) in
      let fires : Writing → Checked (List ℕ × Opened) = λ g. fired_all open_it o.around g.0 o.around.catalog.triggers ([], opened g) in
      let b = bound_by (write_bound open_it o.around true (insert_begun o (parts_of i) (begun [])) nothing_opened) (λ b. Ok (told b)) r h in
      let g = bound_by (insert_begun o (parts_of i) (begun [])) (λ g. fires g >>= λ f. Ok (write g f)) b.0 b.1 in
      let f = bound_by (fires g.0) (λ f. Ok (write g.0 f)) b.0 g.2 in
      let same_b = same_answer (write g.0 f.0) b.0 f.2 in
      let same_r = same_answer (told b.0) r b.2 in
      record {
        write = b.0.0;
        command = sym (ap (λ (x : BoundCommand × Opened). x.0) same_r);
        begun_as = g.0;
        began = g.1;
        target = ap (λ (x : BoundWrite × Opened). x.0.target) same_b;
        change = ap (λ (x : BoundWrite × Opened). x.0.change) same_b;
        units = λ none.
            ap (λ (x : List ℕ × Opened). x.1.units) (none_fires open_it o.around g.0.0 o.around.catalog.triggers ([], opened g.0) f.0 none f.1)
            ∙ ap (λ (x : BoundWrite × Opened). x.1.units) same_b ∙ ap (λ (x : BoundCommand × Opened). x.1.units) same_r;
      }

  pub insert_placed : (q : Query) (i : Insert) (r : BoundCommand × Opened) → i.source ≡ source.Query q → o.around.catalog.triggers ≡ [] → is_plain_query q ≡ true → rows_bound o (of_rows (rows_by.Insert i)) ≡ Ok r
      → (write : BoundWrite) × (r.0 ≡ Written write) × InsertsSmall q write.change r.1.units
  insert_placed q i r from none plain h =
      let w = written_as i r h in
      let small = begun_small q (parts_of i) (begun []) w.begun_as (ap of_insert_source from) plain w.began in
      (w.write, w.command, subst (λ units. InsertsSmall q w.write.change units) (w.units none) (subst (λ change. InsertsSmall q change w.begun_as.1.units) w.change small))

  pub insert_targeted : (i : Insert) (r : BoundCommand × Opened) → rows_bound o (of_rows (rows_by.Insert i)) ≡ Ok r
      → (write : BoundWrite) × (r.0 ≡ Written write) × IsSmallTarget (table_named (name_at o.text i.table) o.around.catalog) write.target
  insert_targeted i r h =
      let w = written_as i r h in
      (w.write, w.command, subst (IsSmallTarget (table_named (name_at o.text i.table) o.around.catalog)) w.target (begun_target (parts_of i) (begun []) w.begun_as w.began))
