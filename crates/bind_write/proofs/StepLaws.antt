-- What the steps of binding a write come to.
use Rattle.std.proofs.Common.{◌≡◌, ◌⊎◌, ◌∙◌, ℕ, Bool, true, false, ◌&&◌, List, [], ◌∷◌, ◌++◌, map, Option, Some, Result, Ok, Err, IfOk, ap, sym, subst, inl, inr}
use Rattle.std.specs.Option.{option_map}
use Rattle.bind_query.specs.Scopes.{Levels, clause, outer_of, scope_of}
use Rattle.bind_query.specs.Where.{Where}
use Rattle.bind_target.specs.Meant.{ComesAs}
use Rattle.bind_with.specs.Items.{view_given}
use Rattle.bind_write.specs.Parts.{delete_parts, deleted, insert_parts, update_parts, updated}
use Rattle.bind_write.proofs.WriteLaws.{delete-is, inside_view, insert-is, option-same, update-is, view-is, view_after}
use Rattle.bound_tree.specs.Exprs.{BoundExpr}
use Rattle.bound_tree.specs.declared.units.BoundUnit.{BoundUnit}
use Rattle.bound_tree.specs.declared.writes.BoundChange.TheVariants.{Deleted, Updated}
use Rattle.bound_tree.specs.declared.writes.BoundChange.{BoundChange}
use Rattle.bound_tree.specs.declared.writes.BoundSet.{BoundSet}
use Rattle.bound_tree.specs.declared.writes.FiringEvent.TheVariants.{AtDelete, AtInsert, AtUpdate}
use Rattle.eng_entry.specs.declared.entry.Entry.{Entry}
use Rattle.eng_entry.specs.declared.entry.EntryKind.TheVariants as kind
use Rattle.eng_value.specs.declared.cause.Cause.{Cause}
use Rattle.eng_value.specs.declared.cause.Cause.TheVariants.{Mem}
use Rattle.sql_bound.specs.Answers.{Answers, Comes, Goes, OnlyMem}
use Rattle.sql_bound.specs.Carriers.{SetParts}
use Rattle.sql_bound.specs.Cores.{conjuncts_bound}
use Rattle.sql_bound.specs.Declarations.{DeclaredColumn, DeclaredTable, declared_column, declared_table, definition_of, table_in, view_in}
use Rattle.sql_bound.specs.Froms.{nothing_found, of_entry, of_table, of_view, scope_item, with_units}
use Rattle.sql_bound.specs.Limits.{room_behind}
use Rattle.sql_bound.specs.Refusals.{Checked}
use Rattle.sql_bound.specs.Scopes.{Answer, Around, Facts, Level, Scope, UnitsAnswer, scope_over}
use Rattle.sql_bound.specs.Targets.{Firing, Target, checks_bound, defaults_bound, found_place, inside_write, place_written, plain_target, table_target, target_bound, target_of}
use Rattle.sql_bound.specs.Trees.{of_assignment, of_expr, of_insert_source, of_option, of_query}
use Rattle.sql_bound.specs.Writes.{Begun, delete_begun, deleting, insert_begun, inserted_from, inserting, places_named, set_bound, set_names, sets_bound, update_begun, updating}
use Rattle.sql_bound.specs.declared.froms.Sourced.{Sourced}
use Rattle.sql_bound.specs.declared.scopes.Asked.{Asked}
use Rattle.sql_bound.specs.declared.scopes.Operand.{Operand}
use Rattle.sql_bound.specs.declared.scopes.Standing.TheVariants.{Nowhere}
use Rattle.sql_bound.specs.declared.scopes.Work.{Work}
use Rattle.sql_words.specs.Refusals.{◌>>=◌}
use Rattle.sql_words.specs.Spelled.{name_at}
use Rattle.sql_tree.specs.declared.expr.Expr.{Expr}
use Rattle.sql_tree.specs.declared.statement.Assignment.{Assignment}
use Rattle.sql_tree.specs.declared.statement.ColumnDefinition.{ColumnDefinition}
use Rattle.sql_tree.specs.declared.statement.ConflictChoice.TheVariants as choice
use Rattle.sql_tree.specs.declared.statement.Delete.{Delete}
use Rattle.sql_tree.specs.declared.statement.Insert.{Insert}
use Rattle.sql_tree.specs.declared.statement.TableDefinition.{TableDefinition}
use Rattle.sql_tree.specs.declared.statement.Update.{Update}
use Rattle.sql_tree.specs.declared.statement.ViewDefinition.{ViewDefinition}

-- ---- results

pub comes-as : {A S : Type 0} (m n : Result (A × S) Cause) (r : Result A Cause) (new : S) → m ≡ n → Comes n r new → Comes m r new
comes-as m n (Ok a) new is h = is ∙ h
comes-as m n (Err why) new is (inl mem) = inl mem
comes-as m n (Err why) new is (inr h) = inr (is ∙ h)

-- where a refusal is handed on
pub comes-refused : {A S : Type 0} (m : Result (A × S) Cause) (r : Result A Cause) (new : S) (why : Cause) → (y : Cause) × (r ≡ Err y) × (y ≡ why) → (why ≡ Mem) ⊎ (m ≡ Err why) → Comes m r new
comes-refused m r new why handed h =
    subst (λ x. Comes m x new) (sym handed.1) (subst (λ (z : Cause). (z ≡ Mem) ⊎ (m ≡ Err z)) (sym handed.2) h)

pub comes-as-refused : {A B S : Type 0} (f : A → B) (m : Result (B × S) Cause) (r : Result A Cause) (new : S) (why : Cause) → (y : Cause) × (r ≡ Err y) × (y ≡ why) → (why ≡ Mem) ⊎ (m ≡ Err why) → ComesAs f m r new
comes-as-refused f m r new why handed h =
    subst (λ x. ComesAs f m x new) (sym handed.1) (subst (λ (z : Cause). (z ≡ Mem) ⊎ (m ≡ Err z)) (sym handed.2) h)

-- ---- the rows of a view

module _ (w : Where) (name : List ℕ) (entry : Entry) (v : ViewDefinition) (wk : Work) (p : Where) (is : p ≡ inside_view w entry) (units : List BoundUnit) (same : units ≡ wk.units) where
  view-at : (r : UnitsAnswer Asked) → (of_query v.query).bound (outer_of p [] []) units ≡ r → of_view (inside_write (outer_of w [] [])) name entry (Some v) wk ≡ view_after entry v wk r
  view-at r h =
      view-is w name entry v wk
      ∙ ap (λ (q : Where). view_after entry v wk ((of_query v.query).bound (outer_of q [] []) wk.units)) (sym is)
      ∙ ap (λ (us : List BoundUnit). view_after entry v wk ((of_query v.query).bound (outer_of p [] []) us)) (sym same)
      ∙ ap (λ (m : UnitsAnswer Asked). view_after entry v wk m) h

  pub view-refused : (why : Cause) → (why ≡ Mem) ⊎ ((of_query v.query).bound (outer_of p [] []) units ≡ Err why)
      → (why ≡ Mem) ⊎ (of_view (inside_write (outer_of w [] [])) name entry (Some v) wk ≡ Err why)
  view-refused why (inl mem) = inl mem
  view-refused why (inr h) = inr (view-at (Err why) h)

  pub view-made : (a : Asked) (us : List BoundUnit) → (of_query v.query).bound (outer_of p [] []) units ≡ Ok (a, us)
      → (r : Result Sourced Cause) → Answers (view_given entry v a.unit a.columns) r → Comes (of_view (inside_write (outer_of w [] [])) name entry (Some v) wk) r (record wk { units = us })
  view-made a us h (Ok s) given = view-at (Ok (a, us)) h ∙ ap (λ (m : Checked Sourced). with_units m (record wk { units = us })) given
  view-made a us h (Err why) (inl mem) = inl mem
  view-made a us h (Err why) (inr given) = inr (view-at (Ok (a, us)) h ∙ ap (λ (m : Checked Sourced). with_units m (record wk { units = us })) given)

-- ---- the rows of an entry

module _ (w : Where) (name : List ℕ) (entry : Entry) (wk : Work) where
  pub view-of : (v : ViewDefinition) → view_in (definition_of entry) ≡ Some v → (r : Result Sourced Cause) (new : Work)
      → Comes (of_view (inside_write (outer_of w [] [])) name entry (Some v) wk) r new → Comes (of_entry (inside_write (outer_of w [] [])) name entry kind.View [] nothing_found wk) r new
  view-of v is r new h =
      comes-as (of_entry (inside_write (outer_of w [] [])) name entry kind.View [] nothing_found wk) (of_view (inside_write (outer_of w [] [])) name entry (Some v) wk) r new
      (ap (λ (found : Option ViewDefinition). of_view (inside_write (outer_of w [] [])) name entry found wk) is) h

  units-beside : (m : Checked Sourced) (r : Result Sourced Cause) → Answers m r → Comes (with_units m wk) r wk
  units-beside m (Ok s) h = ap (λ (n : Checked Sourced). with_units n wk) h
  units-beside m (Err why) (inl mem) = inl mem
  units-beside m (Err why) (inr h) = inr (ap (λ (n : Checked Sourced). with_units n wk) h)

  pub table-of : entry.kind ≡ kind.Table → (r : Result Sourced Cause) → Answers (of_table (outer_of w [] []) name entry (table_in (definition_of entry))) r
      → Comes (of_entry (inside_write (outer_of w [] [])) name entry entry.kind [] nothing_found wk) r wk
  table-of is r h =
      comes-as (of_entry (inside_write (outer_of w [] [])) name entry entry.kind [] nothing_found wk) (with_units (of_table (outer_of w [] []) name entry (table_in (definition_of entry))) wk) r wk
      (ap (λ k. of_entry (inside_write (outer_of w [] [])) name entry k [] nothing_found wk) is) (units-beside (of_table (outer_of w [] []) name entry (table_in (definition_of entry))) r h)

-- ---- a table with what its entry declares

module _ (around : Around) (facts : Facts) (text txt : List ℕ) (same : txt ≡ text) (s : Sourced) (t : TableDefinition) (columns : List ColumnDefinition) (all : columns ≡ t.columns) (name : List ℕ) (w : Work) where
  abbrev told : DeclaredTable
  told = declared_table facts text t

  abbrev row_seen : Level
  row_seen = scope_item 0 (Some name) s ∷ []

  abbrev with_checks : List (Option BoundExpr) → List BoundExpr × Work → Answer Target
  with_checks d c = Ok (target_of name s (record (plain_target s name) { defaults = d; not_nulls = map (λ (x : DeclaredColumn). x.not_null) told.columns; checks = c.0 }), c.1)

  abbrev with_defaults : List (Option BoundExpr) × Work → Answer Target
  with_defaults d = checks_bound around text row_seen told.checks d.1 >>= λ c. with_checks d.0 c

  defaults-at : (r : Answer (List (Option BoundExpr))) → defaults_bound around txt (map (declared_column facts txt) columns) w ≡ r → table_target around text s told name w ≡ (r >>= λ d. with_defaults d)
  defaults-at r h =
      ap (λ (n : List ℕ). defaults_bound around n (map (declared_column facts n) t.columns) w >>= λ d. with_defaults d) (sym same)
      ∙ ap (λ (cs : List ColumnDefinition). defaults_bound around txt (map (declared_column facts txt) cs) w >>= λ d. with_defaults d) (sym all)
      ∙ ap (λ (m : Answer (List (Option BoundExpr))). m >>= λ d. with_defaults d) h

  pub defaults-refused : (why : Cause) → (why ≡ Mem) ⊎ (defaults_bound around txt (map (declared_column facts txt) columns) w ≡ Err why) → (why ≡ Mem) ⊎ (table_target around text s told name w ≡ Err why)
  defaults-refused why (inl mem) = inl mem
  defaults-refused why (inr h) = inr (defaults-at (Err why) h)

  pub checks-refused : (d : List (Option BoundExpr)) (next : Work) → defaults_bound around txt (map (declared_column facts txt) columns) w ≡ Ok (d, next)
      → (why : Cause) → (why ≡ Mem) ⊎ (checks_bound around txt row_seen (declared_table facts txt t).checks next ≡ Err why) → (why ≡ Mem) ⊎ (table_target around text s told name w ≡ Err why)
  checks-refused d next so why (inl mem) = inl mem
  checks-refused d next so why (inr h) =
      inr
      (defaults-at (Ok (d, next)) so
      ∙ ap (λ (n : List ℕ). checks_bound around n row_seen (declared_table facts n t).checks next >>= λ c. with_checks d c) (sym same)
      ∙ ap (λ (m : Answer (List BoundExpr)). m >>= λ c. with_checks d c) h)

-- ---- the row that SET and WHERE see

module _ (w : Where) (ls : Levels) (t : Target) (p : Where) (row : p ≡ clause Nowhere [] w) (all : Levels) (around : all ≡ t.level ∷ ls) where
  row-is : scope_over t.level (outer_of w ls []) ≡ scope_of p all []
  row-is = ap (λ (q : Where). scope_of q (t.level ∷ ls) []) (sym row) ∙ ap (λ (l : Levels). scope_of p l []) (sym around)

  filter-is : (x : Option Expr) (wk : Work) → conjuncts_bound (scope_over t.level (outer_of w ls [])) (of_option x) wk ≡ conjuncts_bound (scope_of p all []) (option_map of_expr x) wk
  filter-is x wk =
      ap (λ (s : Scope). conjuncts_bound s (of_option x) wk) row-is ∙ ap (λ f. conjuncts_bound (scope_of p all []) f wk) (option-same x)

  pub deleted-refused : (d : Delete) (wk : Work) (why : Cause) → (why ≡ Mem) ⊎ (conjuncts_bound (scope_of p all []) (option_map of_expr d.filter) wk ≡ Err why)
      → (why ≡ Mem) ⊎ (deleted (outer_of w ls []) t (delete_parts d) wk ≡ Err why)
  deleted-refused d wk why (inl mem) = inl mem
  deleted-refused d wk why (inr h) = inr (ap (λ (m : Answer (List BoundExpr)). m >>= λ c. only_filter c) (filter-is d.filter wk ∙ h))
    where
      only_filter : List BoundExpr × Work → Answer BoundChange
      only_filter c = Ok (Deleted c.0, c.1)

  module _ (u : Update) (wk : Work) (assignments : List Assignment) (set : assignments ≡ u.assignments) where
    abbrev with_filter : List BoundSet → List BoundExpr × Work → Answer BoundChange
    with_filter sets c = Ok (Updated sets c.0, c.1)

    abbrev with_sets : List BoundSet × Work → Answer BoundChange
    with_sets sets = conjuncts_bound (scope_over t.level (outer_of w ls [])) (of_option u.filter) sets.1 >>= λ c. with_filter sets.0 c

    updated-at : (r : Answer (List BoundSet)) → sets_bound (scope_of p all []) t (map of_assignment assignments) ([], wk) ≡ r → updated (outer_of w ls []) t (update_parts u) wk ≡ (r >>= λ sets. with_sets sets)
    updated-at r h =
        ap (λ (s : Scope). sets_bound s t (map of_assignment u.assignments) ([], wk) >>= λ sets. with_sets sets) row-is
        ∙ ap (λ (xs : List Assignment). sets_bound (scope_of p all []) t (map of_assignment xs) ([], wk) >>= λ sets. with_sets sets) (sym set)
        ∙ ap (λ (m : Answer (List BoundSet)). m >>= λ sets. with_sets sets) h

    pub sets-refused : (why : Cause) → (why ≡ Mem) ⊎ (sets_bound (scope_of p all []) t (map of_assignment assignments) ([], wk) ≡ Err why)
        → (why ≡ Mem) ⊎ (updated (outer_of w ls []) t (update_parts u) wk ≡ Err why)
    sets-refused why (inl mem) = inl mem
    sets-refused why (inr h) = inr (updated-at (Err why) h)

    pub filter-refused : (sets : List BoundSet) (next : Work) → sets_bound (scope_of p all []) t (map of_assignment assignments) ([], wk) ≡ Ok (sets, next)
        → (again : Levels) → again ≡ all → (why : Cause) → (why ≡ Mem) ⊎ (conjuncts_bound (scope_of p again []) (option_map of_expr u.filter) next ≡ Err why)
        → (why ≡ Mem) ⊎ (updated (outer_of w ls []) t (update_parts u) wk ≡ Err why)
    filter-refused sets next so again same why (inl mem) = inl mem
    filter-refused sets next so again same why (inr h) =
        inr
        (updated-at (Ok (sets, next)) so
        ∙ ap (λ (m : Answer (List BoundExpr)). m >>= λ c. with_filter sets c)
        (filter-is u.filter next ∙ ap (λ (l : Levels). conjuncts_bound (scope_of p l []) (option_map of_expr u.filter) next) (sym same) ∙ h))

-- ---- `column = value`

module _ (s : Scope) (t : Target) (a : SetParts) (sets : List BoundSet) (w : Work) (u : Unit {0}) (room : room_behind sets ≡ Ok u) (name : List ℕ) (called : name ≡ name_at s.outer.text a.column) where
  abbrev with_value : Option ℕ → Operand × Work → Answer (List BoundSet)
  with_value place x = Ok (sets ++ record { column = place; value = x.0.tree } ∷ [], x.1)

  abbrev with_place : Option ℕ → Answer (List BoundSet)
  with_place place = a.value.bound s w >>= λ x. with_value place x

  set-at : (r : Checked (Option ℕ)) → found_place name (place_written t.source name) ≡ r → set_bound s t a (sets, w) ≡ (r >>= λ place. with_place place)
  set-at r h =
      ap (λ (m : Checked (Unit {0})). m >>= λ v. found_place (name_at s.outer.text a.column) (place_written t.source (name_at s.outer.text a.column)) >>= λ place. with_place place) room
      ∙ ap (λ (n : List ℕ). found_place n (place_written t.source n) >>= λ place. with_place place) (sym called)
      ∙ ap (λ (m : Checked (Option ℕ)). m >>= λ place. with_place place) h

  pub place-refused : (why : Cause) → (why ≡ Mem) ⊎ (found_place name (place_written t.source name) ≡ Err why) → (why ≡ Mem) ⊎ (set_bound s t a (sets, w) ≡ Err why)
  place-refused why (inl mem) = inl mem
  place-refused why (inr h) = inr (set-at (Err why) h)

  module _ (place : Option ℕ) (so : found_place name (place_written t.source name) ≡ Ok place) where
    pub value-refused : (why : Cause) → (why ≡ Mem) ⊎ (a.value.bound s w ≡ Err why) → (why ≡ Mem) ⊎ (set_bound s t a (sets, w) ≡ Err why)
    value-refused why (inl mem) = inl mem
    value-refused why (inr h) = inr (set-at (Ok place) so ∙ ap (λ (m : Answer Operand). m >>= λ x. with_value place x) h)

    pub set-put : (x : Operand) (next : Work) → a.value.bound s w ≡ Ok (x, next) → (r : Result (Unit {0}) Cause) (new : List BoundSet)
        → IfOk r (λ done. new ≡ sets ++ record { column = place; value = x.tree } ∷ []) → OnlyMem r → Goes (set_bound s t a (sets, w)) r new next
    set-put x next h (Ok done) new put mem =
        set-at (Ok place) so ∙ ap (λ (m : Answer Operand). m >>= λ y. with_value place y) h ∙ ap (λ (ys : List BoundSet). Ok (ys, next)) (sym put)
    set-put x next h (Err why) new put mem = inl mem

-- ---- a write that begins: its target, then what it changes

module _ (m : Answer Begun) (target : Answer Target) (change : Target × Work → Answer BoundChange) (begun : Target → BoundChange → Begun) where
  abbrev with_change : Target → BoundChange × Work → Answer Begun
  with_change t c = Ok (begun t c.0, c.1)

  abbrev with_target : Target × Work → Answer Begun
  with_target t = change t >>= λ c. with_change t.0 c

  abbrev Begins : Type 0
  Begins = m ≡ (target >>= λ t. with_target t)

  module _ (is : Begins) where
    target-refused : (why : Cause) → (why ≡ Mem) ⊎ (target ≡ Err why) → (why ≡ Mem) ⊎ (m ≡ Err why)
    target-refused why (inl mem) = inl mem
    target-refused why (inr h) = inr (is ∙ ap (λ (r : Answer Target). r >>= λ t. with_target t) h)

    module _ (t : Target) (next : Work) (so : target ≡ Ok (t, next)) where
      change-refused : (why : Cause) → (why ≡ Mem) ⊎ (change (t, next) ≡ Err why) → (why ≡ Mem) ⊎ (m ≡ Err why)
      change-refused why (inl mem) = inl mem
      change-refused why (inr h) = inr (is ∙ ap (λ (r : Answer Target). r >>= λ t. with_target t) so ∙ ap (λ (r : Answer BoundChange). r >>= λ c. with_change t c) h)

      begun-made : (c : BoundChange) (new : Work) → change (t, next) ≡ Ok (c, new) → m ≡ Ok (begun t c, new)
      begun-made c new h = is ∙ ap (λ (r : Answer Target). r >>= λ t. with_target t) so ∙ ap (λ (r : Answer BoundChange). r >>= λ c. with_change t c) h

-- ---- UPDATE

module _ (w : Where) (ls : Levels) (u : Update) (wk : Work) (name : List ℕ) (called : name ≡ name_at w.text u.table) (names : List (List ℕ)) (set : names ≡ set_names w.text (map of_assignment u.assignments)) where
  abbrev fired_by : List (List ℕ) → Firing
  fired_by sets = record { event = AtUpdate; sets = sets }

  abbrev update_target : Answer Target
  update_target = target_bound (outer_of w [] []) name (fired_by names) wk

  abbrev update_change : Target × Work → Answer BoundChange
  update_change t = updated (outer_of w ls []) t.0 (update_parts u) t.1

  abbrev update_made : Target → BoundChange → Begun
  update_made t c = record { target = t; choice = u.choice; firing = fired_by names; change = c }

  update-begins : Begins (update_begun (outer_of w ls []) (update_parts u) wk) update_target update_change update_made
  update-begins =
      update-is w ls u wk
      ∙ ap (λ (n : List ℕ). target_bound (outer_of w [] []) n (updating w.text (update_parts u)) wk >>= λ t. updated (outer_of w ls []) t.0 (update_parts u) t.1 >>= λ c. made_with (updating w.text (update_parts u)) t.0 c) (sym called)
      ∙ ap (λ (sets : List (List ℕ)). target_bound (outer_of w [] []) name (fired_by sets) wk >>= λ t. updated (outer_of w ls []) t.0 (update_parts u) t.1 >>= λ c. made_with (fired_by sets) t.0 c) (sym set)
    where
      made_with : Firing → Target → BoundChange × Work → Answer Begun
      made_with g t c = Ok (record { target = t; choice = u.choice; firing = g; change = c.0 }, c.1)

  pub update-target-refused : (why : Cause) → (why ≡ Mem) ⊎ (update_target ≡ Err why) → (why ≡ Mem) ⊎ (update_begun (outer_of w ls []) (update_parts u) wk ≡ Err why)
  update-target-refused = target-refused (update_begun (outer_of w ls []) (update_parts u) wk) update_target update_change update_made update-begins

  pub update-change-refused : (t : Target) (next : Work) → update_target ≡ Ok (t, next) → (why : Cause) → (why ≡ Mem) ⊎ (update_change (t, next) ≡ Err why)
      → (why ≡ Mem) ⊎ (update_begun (outer_of w ls []) (update_parts u) wk ≡ Err why)
  update-change-refused = change-refused (update_begun (outer_of w ls []) (update_parts u) wk) update_target update_change update_made update-begins

  pub update-begun-made : (t : Target) (next : Work) → update_target ≡ Ok (t, next) → (c : BoundChange) (new : Work) → update_change (t, next) ≡ Ok (c, new)
      → (sets : List (List ℕ)) → sets ≡ names → update_begun (outer_of w ls []) (update_parts u) wk ≡ Ok (record { target = t; choice = u.choice; firing = fired_by sets; change = c }, new)
  update-begun-made t next so c new h sets same =
      begun-made (update_begun (outer_of w ls []) (update_parts u) wk) update_target update_change update_made update-begins t next so c new h
      ∙ ap (λ (ns : List (List ℕ)). Ok (record { target = t; choice = u.choice; firing = fired_by ns; change = c }, new)) (sym same)

-- ---- DELETE

module _ (w : Where) (ls : Levels) (d : Delete) (wk : Work) (name : List ℕ) (called : name ≡ name_at w.text d.table) where
  abbrev delete_target : Answer Target
  delete_target = target_bound (outer_of w [] []) name deleting wk

  abbrev delete_change : Target × Work → Answer BoundChange
  delete_change t = deleted (outer_of w ls []) t.0 (delete_parts d) t.1

  abbrev delete_made : Target → BoundChange → Begun
  delete_made t c = record { target = t; choice = choice.Abort; firing = deleting; change = c }

  delete-begins : Begins (delete_begun (outer_of w ls []) (delete_parts d) wk) delete_target delete_change delete_made
  delete-begins =
      delete-is w ls d wk
      ∙ ap (λ (n : List ℕ). target_bound (outer_of w [] []) n deleting wk >>= λ t. deleted (outer_of w ls []) t.0 (delete_parts d) t.1 >>= λ c. made t.0 c) (sym called)
    where
      made : Target → BoundChange × Work → Answer Begun
      made t c = Ok (delete_made t c.0, c.1)

  pub delete-target-refused : (why : Cause) → (why ≡ Mem) ⊎ (delete_target ≡ Err why) → (why ≡ Mem) ⊎ (delete_begun (outer_of w ls []) (delete_parts d) wk ≡ Err why)
  delete-target-refused = target-refused (delete_begun (outer_of w ls []) (delete_parts d) wk) delete_target delete_change delete_made delete-begins

  pub delete-change-refused : (t : Target) (next : Work) → delete_target ≡ Ok (t, next) → (why : Cause) → (why ≡ Mem) ⊎ (delete_change (t, next) ≡ Err why)
      → (why ≡ Mem) ⊎ (delete_begun (outer_of w ls []) (delete_parts d) wk ≡ Err why)
  delete-change-refused = change-refused (delete_begun (outer_of w ls []) (delete_parts d) wk) delete_target delete_change delete_made delete-begins

  pub delete-begun-made : (t : Target) (next : Work) → delete_target ≡ Ok (t, next) → (c : BoundChange) (new : Work) → delete_change (t, next) ≡ Ok (c, new)
      → (none : List (List ℕ)) → none ≡ []
      → delete_begun (outer_of w ls []) (delete_parts d) wk ≡ Ok (record { target = t; choice = choice.Abort; firing = record { event = AtDelete; sets = none }; change = c }, new)
  delete-begun-made t next so c new h none empty =
      begun-made (delete_begun (outer_of w ls []) (delete_parts d) wk) delete_target delete_change delete_made delete-begins t next so c new h
      ∙ ap (λ (sets : List (List ℕ)). Ok (record { target = t; choice = choice.Abort; firing = record { event = AtDelete; sets = sets }; change = c }, new)) (sym empty)

-- ---- INSERT

module _ (w : Where) (ls : Levels) (i : Insert) (wk : Work) (name : List ℕ) (called : name ≡ name_at w.text i.table) where
  abbrev insert_made : Target → BoundChange → Begun
  insert_made t c = record { target = t; choice = i.choice; firing = inserting; change = c }

  abbrev insert_change : Target → BoundChange × Work → Answer Begun
  insert_change t c = Ok (insert_made t c.0, c.1)

  abbrev insert_listed : Target × Work → List (Option ℕ) → Answer Begun
  insert_listed t listed = inserted_from (outer_of w ls []) t.0 listed (of_insert_source i.source) t.1 >>= λ c. insert_change t.0 c

  abbrev insert_target : Target × Work → Answer Begun
  insert_target t = places_named t.0 (map (name_at w.text) i.columns) >>= λ listed. insert_listed t listed

  insert-at : (r : Answer Target) → target_bound (outer_of w [] []) name inserting wk ≡ r → insert_begun (outer_of w ls []) (insert_parts i) wk ≡ (r >>= λ t. insert_target t)
  insert-at r h =
      insert-is w ls i wk
      ∙ ap (λ (n : List ℕ). target_bound (outer_of w [] []) n inserting wk >>= λ t. insert_target t) (sym called)
      ∙ ap (λ (m : Answer Target). m >>= λ t. insert_target t) h

  pub insert-target-refused : (why : Cause) → (why ≡ Mem) ⊎ (target_bound (outer_of w [] []) name inserting wk ≡ Err why)
      → (why ≡ Mem) ⊎ (insert_begun (outer_of w ls []) (insert_parts i) wk ≡ Err why)
  insert-target-refused why (inl mem) = inl mem
  insert-target-refused why (inr h) = inr (insert-at (Err why) h)

  module _ (t : Target) (next : Work) (so : target_bound (outer_of w [] []) name inserting wk ≡ Ok (t, next)) where
    listed-at : (r : Checked (List (Option ℕ))) → places_named t (map (name_at w.text) i.columns) ≡ r → insert_begun (outer_of w ls []) (insert_parts i) wk ≡ (r >>= λ listed. insert_listed (t, next) listed)
    listed-at r h = insert-at (Ok (t, next)) so ∙ ap (λ (m : Checked (List (Option ℕ))). m >>= λ listed. insert_listed (t, next) listed) h

    module _ (names : List (List ℕ)) (called_so : names ≡ map (name_at w.text) i.columns) where
      named-at : (r : Checked (List (Option ℕ))) → places_named t names ≡ r → insert_begun (outer_of w ls []) (insert_parts i) wk ≡ (r >>= λ listed. insert_listed (t, next) listed)
      named-at r h = listed-at r (ap (λ (ns : List (List ℕ)). places_named t ns) (sym called_so) ∙ h)

      pub insert-listed-refused : (why : Cause) → (why ≡ Mem) ⊎ (places_named t names ≡ Err why) → (why ≡ Mem) ⊎ (insert_begun (outer_of w ls []) (insert_parts i) wk ≡ Err why)
      insert-listed-refused why (inl mem) = inl mem
      insert-listed-refused why (inr h) = inr (named-at (Err why) h)

      module _ (found listed : List (Option ℕ)) (placed : places_named t names ≡ Ok found) (seen : listed ≡ found) where
        change-at : (r : Answer BoundChange) → inserted_from (outer_of w ls []) t listed (of_insert_source i.source) next ≡ r → insert_begun (outer_of w ls []) (insert_parts i) wk ≡ (r >>= λ c. insert_change t c)
        change-at r h =
            named-at (Ok found) placed
            ∙ ap (λ (m : Answer BoundChange). m >>= λ c. insert_change t c)
            (ap (λ (l : List (Option ℕ)). inserted_from (outer_of w ls []) t l (of_insert_source i.source) next) (sym seen) ∙ h)

        pub insert-change-refused : (why : Cause) → (why ≡ Mem) ⊎ (inserted_from (outer_of w ls []) t listed (of_insert_source i.source) next ≡ Err why)
            → (why ≡ Mem) ⊎ (insert_begun (outer_of w ls []) (insert_parts i) wk ≡ Err why)
        insert-change-refused why (inl mem) = inl mem
        insert-change-refused why (inr h) = inr (change-at (Err why) h)

        pub insert-begun-made : (c : BoundChange) (new : Work) → inserted_from (outer_of w ls []) t listed (of_insert_source i.source) next ≡ Ok (c, new) → (none : List (List ℕ)) → none ≡ []
            → insert_begun (outer_of w ls []) (insert_parts i) wk ≡ Ok (record { target = t; choice = i.choice; firing = record { event = AtInsert; sets = none }; change = c }, new)
        insert-begun-made c new h none empty =
            change-at (Ok (c, new)) h
            ∙ ap (λ (sets : List (List ℕ)). Ok (record { target = t; choice = i.choice; firing = record { event = AtInsert; sets = sets }; change = c }, new)) (sym empty)

-- ---- what REPLACE's deletes fire

pub replaced-not : (r rep can : Bool) → r ≡ rep → r ≡ false → false ≡ (rep && can)
replaced-not r rep can is false_so = ap (λ (b : Bool). b && can) (sym false_so ∙ is)

pub replaced-so : (r rep can : Bool) → r ≡ rep → r ≡ true → (q : Result Bool Cause) → IfOk q (λ b. b ≡ can) → IfOk q (λ b. b ≡ (rep && can))
replaced-so r rep can is true_so (Ok b) h = h ∙ ap (λ (a : Bool). a && can) (sym true_so ∙ is)
replaced-so r rep can is true_so (Err why) h = tt
