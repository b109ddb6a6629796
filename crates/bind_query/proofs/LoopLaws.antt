-- Items and WITH tables, one more of a list that is walked.
use Rattle.std.proofs.Common.{◌≡◌, ℕ, ◌+◌, ◌<◌, List, [], ◌∷◌, map, drop, length, get_or, Option, Ok, Err, ap, ◌∙◌}
use Rattle.std.proofs.lemmas.List.{at_drop_more}
use Rattle.bind_query.proofs.TableLaws.{tables-on, tables-refused}
use Rattle.bound_tree.specs.declared.units.BoundUnit.{BoundUnit}
use Rattle.eng_value.specs.declared.cause.Cause.{Cause}
use Rattle.sql_bound.specs.Froms.{Inside, item_found, items_found}
use Rattle.sql_bound.specs.Scopes.{Answer}
use Rattle.sql_bound.specs.Trees.{of_item, of_table}
use Rattle.sql_bound.specs.Withs.{tables_bound}
use Rattle.sql_bound.specs.declared.froms.Found.{Found}
use Rattle.sql_bound.specs.declared.froms.QueueTable.{QueueTable}
use Rattle.sql_bound.specs.declared.scopes.Work.{Work}
use Rattle.sql_words.specs.Refusals.{◌>>=◌}
use Rattle.sql_tree.specs.declared.query.CommonTable.{CommonTable}
use Rattle.sql_tree.specs.declared.query.FromItem.{FromItem}

module _ (i : Inside) (queue : Option QueueTable) (from : List FromItem) (k : ℕ) (d : FromItem) (f : Found) (w : Work) (below : k < length from) where
  pub items-step : (g : Found) (v : Work) → item_found i queue (of_item (get_or from k d)) f w ≡ Ok (g, v)
      → items_found i queue (map of_item (drop k from)) f w ≡ items_found i queue (map of_item (drop (k + 1) from)) g v
  items-step g v is =
      at_drop_more (λ xs. items_found i queue (map of_item xs) f w) from k d below
      ∙ ap (λ (r : Answer Found). r >>= λ h. items_found i queue (map of_item (drop (k + 1) from)) h.0 h.1) is

  pub items-stop : (why : Cause) → item_found i queue (of_item (get_or from k d)) f w ≡ Err why → items_found i queue (map of_item (drop k from)) f w ≡ Err why
  items-stop why is =
      at_drop_more (λ xs. items_found i queue (map of_item xs) f w) from k d below
      ∙ ap (λ (r : Answer Found). r >>= λ h. items_found i queue (map of_item (drop (k + 1) from)) h.0 h.1) is

module _ (i : Inside) (so_far : List ℕ) (ts : List CommonTable) (k : ℕ) (d : CommonTable) (units : List BoundUnit) (below : k < length ts) where
  pub tables-step : (j : Inside) (q : List ℕ) (v : List BoundUnit) → tables_bound i so_far (of_table (get_or ts k d) ∷ []) units ≡ Ok ((j, q), v)
      → tables_bound i so_far (map of_table (drop k ts)) units ≡ tables_bound j q (map of_table (drop (k + 1) ts)) v
  tables-step j q v is =
      at_drop_more (λ xs. tables_bound i so_far (map of_table xs) units) ts k d below
      ∙ tables-on i so_far (of_table (get_or ts k d)) (map of_table (drop (k + 1) ts)) units j q v is

  pub tables-stop : (why : Cause) → tables_bound i so_far (of_table (get_or ts k d) ∷ []) units ≡ Err why → tables_bound i so_far (map of_table (drop k ts)) units ≡ Err why
  tables-stop why is =
      at_drop_more (λ xs. tables_bound i so_far (map of_table xs) units) ts k d below
      ∙ tables-refused i so_far (of_table (get_or ts k d)) (map of_table (drop (k + 1) ts)) units why is
