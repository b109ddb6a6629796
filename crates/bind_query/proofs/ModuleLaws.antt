-- Tables of modules, and an item whose source is bound, by what code has of them.
use Rattle.std.proofs.Common.{◌≡◌, ℕ, List, [], ◌∷◌, Option, Ok, Err, sym, ap, ◌∙◌}
use Rattle.bind_query.proofs.FromLaws.{item-alias, item-source}
use Rattle.bind_query.specs.Scopes.{Levels, clause, outer_of, scope_of}
use Rattle.bind_query.specs.Where.{Where}
use Rattle.bound_tree.specs.Exprs.{BoundExpr}
use Rattle.eng_value.specs.declared.cause.Cause.{Cause}
use Rattle.eng_value.specs.declared.modules.ModColumn.{ModColumn}
use Rattle.sql_bound.specs.Carriers.{Expression, ItemParts, SourceParts}
use Rattle.sql_bound.specs.Expressions.{all_bound}
use Rattle.sql_bound.specs.Froms.{Inside, arguments_fit, called_by, columns_told, has_room, item_found, joined_to, module_source, of_module, of_source}
use Rattle.sql_bound.specs.Operands.{trees_of}
use Rattle.sql_bound.specs.Refusals.{Checked}
use Rattle.sql_bound.specs.Scopes.{Answer, Level, scope_over}
use Rattle.sql_bound.specs.Trees.{of_item, of_source as source_of}
use Rattle.sql_bound.specs.declared.froms.Found.{Found}
use Rattle.sql_bound.specs.declared.froms.QueueTable.{QueueTable}
use Rattle.sql_bound.specs.declared.froms.Sourced.{Sourced}
use Rattle.sql_bound.specs.declared.scopes.Operand.{Operand}
use Rattle.sql_bound.specs.declared.scopes.Standing.TheVariants.{Nowhere}
use Rattle.sql_bound.specs.declared.scopes.WithEntry.{WithEntry}
use Rattle.sql_bound.specs.declared.scopes.Work.{Work}
use Rattle.sql_words.specs.Refusals.{◌>>=◌}
use Rattle.sql_tree.specs.declared.query.FromItem.{FromItem, out-FromItem}
use Rattle.sql_tree.specs.declared.token.Token.{Token}

-- with the work as it is then
abbrev behind : Work → Sourced → Answer Sourced
behind w s = Ok (s, w)

pub over-level : (w inner : Where) (ls ms : Levels) (ts : List WithEntry) (level : Level) → inner ≡ clause Nowhere [] w → ms ≡ level ∷ ls → scope_of inner ms ts ≡ scope_over level (outer_of w ls ts)
over-level w inner ls ms ts level is deeper = ap (λ (x : Where). scope_of x ms ts) is ∙ ap (λ (l : Levels). scope_of (clause Nowhere [] w) l ts) deeper

module _ (i : Inside) (shown name : List ℕ) (table : ℕ) (args : List Expression) (f : Found) (w : Work) where
  abbrev rows : List ModColumn → List Operand × Work → Answer Sourced
  rows cs xs = Ok (module_source shown name table cs (trees_of xs.0), xs.1)

  abbrev fitted : List ModColumn → Unit {0} → Answer Sourced
  fitted cs u = all_bound (scope_over f.level i.outer) args w >>= rows cs

  abbrev told : List ModColumn → Answer Sourced
  told cs = arguments_fit name cs args >>= fitted cs

  module _ (cs : List ModColumn) (columns : columns_told i.outer.around.facts name table ≡ Ok cs) (fit : arguments_fit name cs args ≡ Ok tt) where
    by-arguments : of_module i shown name table args f w ≡ (all_bound (scope_over f.level i.outer) args w >>= rows cs)
    by-arguments = ap (λ (c : Checked (List ModColumn)). c >>= told) columns ∙ ap (λ (u : Checked (Unit {0})). u >>= fitted cs) fit

    pub module-refused : (why : Cause) → all_bound (scope_over f.level i.outer) args w ≡ Err why → of_module i shown name table args f w ≡ Err why
    module-refused why is = by-arguments ∙ ap (λ (a : Answer (List Operand)). a >>= rows cs) is

    pub module-made : (xs : List Operand) (v : Work) (sh na : List ℕ) (ds : List ModColumn) (trees : List BoundExpr) → all_bound (scope_over f.level i.outer) args w ≡ Ok (xs, v)
        → sh ≡ shown → na ≡ name → ds ≡ cs → trees ≡ trees_of xs → of_module i shown name table args f w ≡ Ok (module_source sh na table ds trees, v)
    module-made xs v sh na ds trees is same_shown same_name same_columns same_trees =
        by-arguments
        ∙ ap (λ (a : Answer (List Operand)). a >>= rows cs) is
        ∙ ap (λ (x : List ℕ). behind v (module_source x name table cs (trees_of xs))) (sym same_shown)
        ∙ ap (λ (x : List ℕ). behind v (module_source sh x table cs (trees_of xs))) (sym same_name)
        ∙ ap (λ (x : List ModColumn). behind v (module_source sh na table x (trees_of xs))) (sym same_columns)
        ∙ ap (λ (x : List BoundExpr). behind v (module_source sh na table ds x)) (sym same_trees)

-- ---- an item

module _ (i : Inside) (queue : Option QueueTable) (f : Found) (w : Work) where
  abbrev joined : ItemParts → Sourced × Work → Answer Found
  joined item s = joined_to i item (called_by i.outer.text item.alias s.0.name) s.0 f s.1

  abbrev sourced : ItemParts → Unit {0} → Answer Found
  sourced item u = of_source i queue item.source f w >>= joined item

  pub item-by : (item : FromItem) (s : Sourced) (v : Work) (called : Option (List ℕ)) → has_room f ≡ Ok tt → of_source i queue (source_of (out-FromItem item).source) f w ≡ Ok (s, v)
      → called ≡ called_by i.outer.text (out-FromItem item).alias s.name → item_found i queue (of_item item) f w ≡ joined_to i (of_item item) called s f v
  item-by item s v called room is named =
      ap (λ (u : Checked (Unit {0})). u >>= sourced (of_item item)) room
      ∙ ap (λ (p : SourceParts). of_source i queue p f w >>= joined (of_item item)) (item-source item)
      ∙ ap (λ (a : Answer Sourced). a >>= joined (of_item item)) is
      ∙ ap (λ (t : Option Token). joined_to i (of_item item) (called_by i.outer.text t s.name) s f v) (item-alias item)
      ∙ ap (λ (n : Option (List ℕ)). joined_to i (of_item item) n s f v) (sym named)
