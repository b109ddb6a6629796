-- Items of a FROM, by their trees.
use Rattle.std.proofs.Common.{◌≡◌, ℕ, List, map, Option, Some, None, refl, ap, sym, ◌∙◌, rules}
use Rattle.bind_query.specs.Scopes.{Levels, inside_of}
use Rattle.bind_query.specs.Where.{Where}
use Rattle.bind_with.specs.Parts.{arguments_of}
use Rattle.eng_entry.specs.declared.entry.Entry.{Entry}
use Rattle.sql_bound.specs.Carriers as parts
use Rattle.sql_bound.specs.Froms.{Inside, of_name, of_source, of_view}
use Rattle.sql_bound.specs.Scopes.{with_named}
use Rattle.sql_bound.specs.Trees.{of_constraint, of_expr, of_item, of_source as source_of}
use Rattle.sql_bound.specs.declared.froms.Found.{Found}
use Rattle.sql_bound.specs.declared.froms.QueueTable.{QueueTable}
use Rattle.sql_bound.specs.declared.scopes.WithEntry.{WithEntry}
use Rattle.sql_bound.specs.declared.scopes.Work.{Work}
use Rattle.sql_words.specs.Spelled.{name_at}
use Rattle.sql_tree.specs.declared.expr.Expr.{Expr, the_lemmas}
use Rattle.sql_tree.specs.declared.query.FromItem.{FromItem, out-FromItem}
use Rattle.sql_tree.specs.declared.query.Source.{Source}
use Rattle.sql_tree.specs.declared.query.Source.TheVariants as source_tree
use Rattle.sql_tree.specs.declared.statement.ViewDefinition.{ViewDefinition}
use Rattle.sql_tree.specs.declared.token.Token.{Token}

source-plain : (t : Token) → source_of (source_tree.Table t None) ≡ parts.Table t None
source-plain t = search (rules, the_lemmas)

source-called : (t : Token) (arguments : List Expr) → source_of (source_tree.Table t (Some arguments)) ≡ parts.Table t (Some (map of_expr arguments))
source-called t arguments = search (rules, the_lemmas)

module _ (i : Inside) (queue : Option QueueTable) (f : Found) (w : Work) where
  table-by : (t : Token) (arguments : Option (List Expr))
      → of_source i queue (source_of (source_tree.Table t arguments)) f w ≡ of_name i queue (name_at i.outer.text t) (with_named (name_at i.outer.text t) i.outer.tables) (map of_expr (arguments_of arguments)) f w
  table-by t None = ap (λ s. of_source i queue s f w) (source-plain t)
  table-by t (Some arguments) = ap (λ s. of_source i queue s f w) (source-called t arguments)

  pub table-is : (s : Source) (t : Token) (arguments : Option (List Expr)) (name : List ℕ) → s ≡ source_tree.Table t arguments → name ≡ name_at i.outer.text t
      → of_source i queue (source_of s) f w ≡ of_name i queue name (with_named name i.outer.tables) (map of_expr (arguments_of arguments)) f w
  table-is s t arguments name is called =
      ap (λ x. of_source i queue (source_of x) f w) is
      ∙ table-by t arguments
      ∙ ap (λ n. of_name i queue n (with_named n i.outer.tables) (map of_expr (arguments_of arguments)) f w) (sym called)

-- ---- a view sees no FROM around it

pub view-anywhere : (w : Where) (ls ms : Levels) (ts us : List WithEntry) (name : List ℕ) (entry : Entry) (v : Option ViewDefinition) (work : Work)
    → of_view (inside_of w ls ts) name entry v work ≡ of_view (inside_of w ms us) name entry v work
view-anywhere w ls ms ts us name entry None work = refl
view-anywhere w ls ms ts us name entry (Some v) work = refl

-- ---- an item

pub item-join : (item : FromItem) → (of_item item).join ≡ (out-FromItem item).join
item-join item = search (rules, the_lemmas)

pub item-source : (item : FromItem) → (of_item item).source ≡ source_of (out-FromItem item).source
item-source item = search (rules, the_lemmas)

pub item-alias : (item : FromItem) → (of_item item).alias ≡ (out-FromItem item).alias
item-alias item = search (rules, the_lemmas)

pub item-constraint : (item : FromItem) → (of_item item).constraint ≡ of_constraint (out-FromItem item).constraint
item-constraint item = search (rules, the_lemmas)

pub ruleset item_steps = (item-join, item-source, item-alias, item-constraint)
