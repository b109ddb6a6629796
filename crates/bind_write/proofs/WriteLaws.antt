-- Writes as code binds them: in other steps than the definition, which come to the same.
use Rattle.std.proofs.Common.{◌≡◌, ℕ, List, [], map, Option, Some, None, Ok, Err, refl, ap, ◌∙◌}
use Rattle.std.specs.Option.{option_map}
use Rattle.bind_query.specs.Scopes.{Levels, in_text, outer_of}
use Rattle.bind_query.specs.Where.{Where}
use Rattle.bind_with.specs.Items.{view_given}
use Rattle.bind_write.specs.Parts.{delete_parts, deleted, insert_parts, update_parts, updated}
use Rattle.bind_write.proofs.LevelLaws.{target-same}
use Rattle.bound_tree.specs.Exprs.{BoundExpr}
use Rattle.bound_tree.specs.declared.units.BoundSource.TheVariants.{View}
use Rattle.bound_tree.specs.declared.writes.BoundChange.TheVariants.{Deleted, Updated}
use Rattle.bound_tree.specs.declared.writes.BoundChange.{BoundChange}
use Rattle.bound_tree.specs.declared.writes.BoundSet.{BoundSet}
use Rattle.eng_entry.specs.declared.entry.Entry.{Entry}
use Rattle.sql_bound.specs.Cores.{conjuncts_bound}
use Rattle.sql_bound.specs.Froms.{as_columns, of_view, plain_source, with_names}
use Rattle.sql_bound.specs.Refusals.{Checked}
use Rattle.sql_bound.specs.Scopes.{Answer, UnitsAnswer, in_statement, scope_over}
use Rattle.sql_bound.specs.Targets.{Target, inside_write, target_bound}
use Rattle.sql_bound.specs.Trees.{of_expr, of_insert_source, of_option, of_query}
use Rattle.sql_bound.specs.Writes.{Begun, delete_begun, deleting, insert_begun, inserted_from, inserting, places_named, sets_bound, update_begun, updating}
use Rattle.sql_bound.specs.declared.froms.Sourced.{Sourced}
use Rattle.sql_bound.specs.declared.scopes.Asked.{Asked}
use Rattle.sql_bound.specs.declared.scopes.ResultColumn.{ResultColumn}
use Rattle.sql_bound.specs.declared.scopes.Work.{Work}
use Rattle.sql_words.specs.Refusals.{◌>>=◌}
use Rattle.sql_words.specs.Spelled.{name_at}
use Rattle.sql_tree.specs.declared.expr.Expr.{Expr}
use Rattle.sql_tree.specs.declared.statement.ConflictChoice.TheVariants as choice
use Rattle.sql_tree.specs.declared.statement.Delete.{Delete}
use Rattle.sql_tree.specs.declared.statement.Insert.{Insert}
use Rattle.sql_tree.specs.declared.statement.Update.{Update}
use Rattle.sql_tree.specs.declared.statement.ViewDefinition.{ViewDefinition}

-- ---- the rows of a view

abbrev beside : Work → Checked Sourced → Answer Sourced
beside w r = r >>= λ s. Ok (s, w)

abbrev named_beside : Entry → ℕ → Work → Checked (List ResultColumn) → Answer Sourced
named_beside entry unit w r = r >>= λ cs. Ok (plain_source (Some entry.name) (View entry.name unit) (as_columns cs), w)

abbrev named_source : Entry → ℕ → Checked (List ResultColumn) → Checked Sourced
named_source entry unit r = r >>= λ cs. Ok (plain_source (Some entry.name) (View entry.name unit) (as_columns cs))

names-next : (entry : Entry) (unit : ℕ) (w : Work) (r : Checked (List ResultColumn)) → named_beside entry unit w r ≡ beside w (named_source entry unit r)
names-next entry unit w (Ok cs) = refl
names-next entry unit w (Err why) = refl

abbrev pub view_after : Entry → ViewDefinition → Work → UnitsAnswer Asked → Answer Sourced
view_after entry v w r = r >>= λ a. view_given entry v a.0.unit a.0.columns >>= λ s. Ok (s, record w { units = a.1 })

abbrev view_before : Entry → ViewDefinition → Work → UnitsAnswer Asked → Answer Sourced
view_before entry v w r = r >>= λ a. named_beside entry a.0.unit (record w { units = a.1 }) (with_names entry.name (map (name_at entry.text) v.columns) a.0.columns)

view-next : (entry : Entry) (v : ViewDefinition) (w : Work) (r : UnitsAnswer Asked) → view_before entry v w r ≡ view_after entry v w r
view-next entry v w (Ok a) = names-next entry a.0.unit (record w { units = a.1 }) (with_names entry.name (map (name_at entry.text) v.columns) a.0.columns)
view-next entry v w (Err why) = refl

-- the view's own text, in which its query is bound
abbrev pub inside_view : Where → Entry → Where
inside_view w entry = in_text entry.text (Some entry.name) w.catalog w.facts in_statement

pub view-is : (w : Where) (name : List ℕ) (entry : Entry) (v : ViewDefinition) (wk : Work)
    → of_view (inside_write (outer_of w [] [])) name entry (Some v) wk
    ≡ view_after entry v wk ((of_query v.query).bound (outer_of (inside_view w entry) [] []) wk.units)
view-is w name entry v wk = view-next entry v wk ((of_query v.query).bound (outer_of (inside_view w entry) [] []) wk.units)

-- ---- WHERE

pub option-same : (x : Option Expr) → of_option x ≡ option_map of_expr x
option-same None = refl
option-same (Some x) = refl

-- ---- INSERT

pub insert-is : (w : Where) (ls : Levels) (i : Insert) (wk : Work)
    → insert_begun (outer_of w ls []) (insert_parts i) wk
    ≡ (target_bound (outer_of w [] []) (name_at w.text i.table) inserting wk >>= λ t. places_named t.0 (map (name_at w.text) i.columns) >>= λ listed.
    inserted_from (outer_of w ls []) t.0 listed (of_insert_source i.source) t.1 >>= λ c. Ok (record { target = t.0; choice = i.choice; firing = inserting; change = c.0 }, c.1))
insert-is w ls i wk =
    ap (λ (r : Answer Target). r >>= λ t. places_named t.0 (map (name_at w.text) i.columns) >>= λ listed.
    inserted_from (outer_of w ls []) t.0 listed (of_insert_source i.source) t.1 >>= λ c. Ok (record { target = t.0; choice = i.choice; firing = inserting; change = c.0 }, c.1))
    (target-same w ls (name_at w.text i.table) inserting wk)

-- ---- UPDATE

module _ (w : Where) (ls : Levels) (u : Update) where
  abbrev update_with : Target → BoundChange × Work → Answer Begun
  update_with t c = Ok (record { target = t; choice = u.choice; firing = updating w.text (update_parts u); change = c.0 }, c.1)

  where-next : (t : Target) (sets : List BoundSet) (r : Answer (List BoundExpr))
      → (r >>= λ c. update_with t (Updated sets c.0, c.1)) ≡ ((r >>= λ c. Ok (Updated sets c.0, c.1)) >>= λ c. update_with t c)
  where-next t sets (Ok c) = refl
  where-next t sets (Err why) = refl

  sets-next : (t : Target) (r : Answer (List BoundSet))
      → (r >>= λ sets. conjuncts_bound (scope_over t.level (outer_of w ls [])) (of_option u.filter) sets.1 >>= λ c. update_with t (Updated sets.0 c.0, c.1))
      ≡ ((r >>= λ sets. conjuncts_bound (scope_over t.level (outer_of w ls [])) (of_option u.filter) sets.1 >>= λ c. Ok (Updated sets.0 c.0, c.1)) >>= λ c. update_with t c)
  sets-next t (Ok sets) = where-next t sets.0 (conjuncts_bound (scope_over t.level (outer_of w ls [])) (of_option u.filter) sets.1)
  sets-next t (Err why) = refl

  target-next : (r : Answer Target)
      → (r >>= λ t. sets_bound (scope_over t.0.level (outer_of w ls [])) t.0 (update_parts u).sets ([], t.1) >>= λ sets.
      conjuncts_bound (scope_over t.0.level (outer_of w ls [])) (of_option u.filter) sets.1 >>= λ c. update_with t.0 (Updated sets.0 c.0, c.1))
      ≡ (r >>= λ t. updated (outer_of w ls []) t.0 (update_parts u) t.1 >>= λ c. update_with t.0 c)
  target-next (Ok t) = sets-next t.0 (sets_bound (scope_over t.0.level (outer_of w ls [])) t.0 (update_parts u).sets ([], t.1))
  target-next (Err why) = refl

  pub update-is : (wk : Work)
      → update_begun (outer_of w ls []) (update_parts u) wk
      ≡ (target_bound (outer_of w [] []) (name_at w.text u.table) (updating w.text (update_parts u)) wk >>= λ t. updated (outer_of w ls []) t.0 (update_parts u) t.1 >>= λ c.
      Ok (record { target = t.0; choice = u.choice; firing = updating w.text (update_parts u); change = c.0 }, c.1))
  update-is wk =
      target-next (target_bound (outer_of w ls []) (name_at w.text u.table) (updating w.text (update_parts u)) wk)
      ∙ ap (λ (r : Answer Target). r >>= λ t. updated (outer_of w ls []) t.0 (update_parts u) t.1 >>= λ c. update_with t.0 c)
      (target-same w ls (name_at w.text u.table) (updating w.text (update_parts u)) wk)

-- ---- DELETE

module _ (w : Where) (ls : Levels) (d : Delete) where
  abbrev delete_with : Target → BoundChange × Work → Answer Begun
  delete_with t c = Ok (record { target = t; choice = choice.Abort; firing = deleting; change = c.0 }, c.1)

  only-next : (t : Target) (r : Answer (List BoundExpr))
      → (r >>= λ c. delete_with t (Deleted c.0, c.1)) ≡ ((r >>= λ c. Ok (Deleted c.0, c.1)) >>= λ c. delete_with t c)
  only-next t (Ok c) = refl
  only-next t (Err why) = refl

  goal-next : (r : Answer Target)
      → (r >>= λ t. conjuncts_bound (scope_over t.0.level (outer_of w ls [])) (of_option d.filter) t.1 >>= λ c. delete_with t.0 (Deleted c.0, c.1))
      ≡ (r >>= λ t. deleted (outer_of w ls []) t.0 (delete_parts d) t.1 >>= λ c. delete_with t.0 c)
  goal-next (Ok t) = only-next t.0 (conjuncts_bound (scope_over t.0.level (outer_of w ls [])) (of_option d.filter) t.1)
  goal-next (Err why) = refl

  pub delete-is : (wk : Work)
      → delete_begun (outer_of w ls []) (delete_parts d) wk
      ≡ (target_bound (outer_of w [] []) (name_at w.text d.table) deleting wk >>= λ t. deleted (outer_of w ls []) t.0 (delete_parts d) t.1 >>= λ c.
      Ok (record { target = t.0; choice = choice.Abort; firing = deleting; change = c.0 }, c.1))
  delete-is wk =
      goal-next (target_bound (outer_of w ls []) (name_at w.text d.table) deleting wk)
      ∙ ap (λ (r : Answer Target). r >>= λ t. deleted (outer_of w ls []) t.0 (delete_parts d) t.1 >>= λ c. delete_with t.0 c)
      (target-same w ls (name_at w.text d.table) deleting wk)
