-- With an empty FROM beyond all others the FROM of a query is the same.
use Rattle.std.proofs.Common.{◌≡◌, ◌∙◌, ℕ, suc, ◌+◌, ◌-◌, Bool, true, false, cond, List, [], ◌∷◌, ◌++◌, length, map, Option, Some, None, Ok, refl, ap, arith}
use Rattle.std.specs.Bool.{⊤}
use Rattle.std.specs.List.{AllByRecursion}
use Rattle.std.specs.Option.{option_map}
use Rattle.std.proofs.Math.ListN.{length-append}
use Rattle.eng_entry.specs.Names.{is_same_name}
use Rattle.eng_entry.specs.declared.entry.Entry.{Entry}
use Rattle.eng_entry.specs.declared.entry.EntryKind.TheVariants as entry_kind
use Rattle.eng_entry.specs.declared.entry.EntryKind.{EntryKind}
use Rattle.sql_words.specs.Spelled.{name_at}
use Rattle.bound_tree.specs.Exprs.{BoundExpr}
use Rattle.sql_bound.specs.Carriers as parts
use Rattle.sql_bound.specs.Carriers.{ConstraintParts, Expression, ItemParts, QueryParts, SourceParts}
use Rattle.sql_bound.specs.Declarations.{table_named}
use Rattle.sql_bound.specs.Froms.{Inside, arguments_fit, as_columns, beside_from, called_by, columns_told, constrained, derived, has_room, item_found, items_found, joined_to, module_there, of_catalog, of_entry, of_eponymous, of_module, of_name, of_source, of_with, or_none, plain_source, scope_item, with_source, without_arguments}
use Rattle.sql_bound.specs.Scopes.{Answer, Level, further, handed, scope_over, with_named}
use Rattle.sql_bound.specs.declared.froms.Found.{Found}
use Rattle.sql_bound.specs.declared.froms.Joining.{Joining}
use Rattle.sql_bound.specs.declared.froms.QueueTable.{QueueTable}
use Rattle.sql_bound.specs.declared.froms.Sourced.{Sourced}
use Rattle.sql_bound.specs.declared.scopes.ResultColumn.{ResultColumn}
use Rattle.sql_bound.specs.declared.scopes.WithEntry.{WithEntry}
use Rattle.sql_bound.specs.declared.scopes.WithMeaning.TheVariants.{Bound, Itself}
use Rattle.sql_bound.specs.declared.scopes.WithMeaning.{WithMeaning}
use Rattle.sql_bound.specs.declared.scopes.Work.{Work}
use Rattle.bound_laws.specs.Views.{beyond, one_further}
use Rattle.bound_laws.proofs.BeyondLaws.{ExprAlike, QueryAlike, alike, alike_behind, all_alike}

-- ---- what is known of the parts

pub record QueryPartsAlike (q : QueryParts) : Type 0 where
  pub bound : QueryAlike q.bound
  pub tables : (name : List ℕ) (names : List (List ℕ)) → QueryAlike (q.as_table name names)

abbrev pub ArgumentsAlike : Option (List Expression) → Type 0
ArgumentsAlike None = ⊤
ArgumentsAlike (Some args) = AllByRecursion ExprAlike args

abbrev pub SourceAlike : SourceParts → Type 0
SourceAlike (parts.Table t args) = ArgumentsAlike args
SourceAlike (parts.Derived q) = QueryPartsAlike q

abbrev pub ConstraintAlike : ConstraintParts → Type 0
ConstraintAlike parts.Unconstrained = ⊤
ConstraintAlike (parts.On x) = ExprAlike x
ConstraintAlike (parts.Using ts) = ⊤

pub record ItemAlike (item : ItemParts) : Type 0 where
  pub source : SourceAlike item.source
  pub constraint : ConstraintAlike item.constraint

abbrev pub inside_beyond : Inside → Inside
inside_beyond i = record { outer = beyond i.outer; views = i.views }

-- ---- WITH tables

pub named_beyond : (name : List ℕ) (ts : List WithEntry) → with_named name (map one_further ts) ≡ option_map one_further (with_named name ts)
named_beyond name [] = refl
named_beyond name (t ∷ ts) = go (is_same_name t.name name) (named_beyond name ts) where
  go : (b : Bool) → with_named name (map one_further ts) ≡ option_map one_further (with_named name ts) → cond b (Some (one_further t)) (with_named name (map one_further ts)) ≡ option_map one_further (cond b (Some t) (with_named name ts))
  go true rest = refl
  go false rest = rest

pub one_more : (levels : List Level) → length (levels ++ [] ∷ []) ≡ suc (length levels)
one_more levels = let nothing : List Level = [] ∷ [] in let both : length (levels ++ nothing) ≡ length levels + length nothing = length-append levels nothing in omega arith

same_distance : (levels : List Level) (around : ℕ) → length (levels ++ [] ∷ []) - suc around ≡ length levels - around
same_distance levels around = let more = one_more levels in omega arith

abbrev given_by : List ℕ → ℕ → Bool → List ResultColumn → List BoundExpr × Work → Answer Sourced
given_by name u recursive cs h = Ok (plain_source (Some name) (with_source recursive u h.0) (as_columns cs), h.1)

module _ (i : Inside) where
  with_alike : (queue : Option QueueTable) (t : WithEntry) (m : WithMeaning) (f : Found) (w : Work) → of_with (inside_beyond i) queue (one_further t) m f w ≡ of_with i queue t m f w
  with_alike queue t Itself f w = refl
  with_alike queue t (Bound u recursive needs cs) f w =
      ap (λ (d : ℕ). given_by t.name u recursive cs (handed (map (further d) needs) w)) (same_distance i.outer.levels t.around)

  module_alike : (shown name : List ℕ) (table : ℕ) (args : List Expression) (f : Found) (w : Work) → AllByRecursion ExprAlike args → of_module (inside_beyond i) shown name table args f w ≡ of_module i shown name table args f w
  module_alike shown name table args f w all =
      alike_behind (columns_told i.outer.around.facts name table) _ _ (λ cs. alike_behind (arguments_fit name cs args) _ _ (λ u. alike _ _ _ _ (all_alike (scope_over f.level i.outer) [] tt args all w) (λ xs. refl)))

  entry_alike : (name : List ℕ) (entry : Entry) (k : EntryKind) (args : List Expression) (f : Found) (w : Work) → AllByRecursion ExprAlike args → of_entry (inside_beyond i) name entry k args f w ≡ of_entry i name entry k args f w
  entry_alike name entry entry_kind.Table args f w all = refl
  entry_alike name entry entry_kind.View args f w all = refl
  entry_alike name entry entry_kind.Module args f w all = alike_behind (module_there entry (i.outer.around.facts.host_module entry.owner)) _ _ (λ u. module_alike entry.name entry.owner entry.number args f w all)
  entry_alike name entry entry_kind.Index args f w all = refl
  entry_alike name entry entry_kind.Trigger args f w all = refl

  eponymous_alike : (name : List ℕ) (told : Option (Bool × Bool)) (args : List Expression) (f : Found) (w : Work) → AllByRecursion ExprAlike args → of_eponymous (inside_beyond i) name told args f w ≡ of_eponymous i name told args f w
  eponymous_alike name None args f w all = refl
  eponymous_alike name (Some (true, writable)) args f w all = module_alike name name 0 args f w all
  eponymous_alike name (Some (false, writable)) args f w all = refl

  catalog_alike : (name : List ℕ) (entry : Option Entry) (args : List Expression) (f : Found) (w : Work) → AllByRecursion ExprAlike args → of_catalog (inside_beyond i) name entry args f w ≡ of_catalog i name entry args f w
  catalog_alike name (Some entry) args f w all = entry_alike name entry entry.kind args f w all
  catalog_alike name None args f w all = eponymous_alike name (i.outer.around.facts.host_module name) args f w all

  name_alike : (queue : Option QueueTable) (name : List ℕ) (t : Option WithEntry) (args : List Expression) (f : Found) (w : Work) → AllByRecursion ExprAlike args
      → of_name (inside_beyond i) queue name (option_map one_further t) args f w ≡ of_name i queue name t args f w
  name_alike queue name (Some t) args f w all = alike_behind (without_arguments t.name args) _ _ (λ u. with_alike queue t t.meaning f w)
  name_alike queue name None args f w all = catalog_alike name (table_named name i.outer.around.catalog) args f w all

  arguments_alike : (args : Option (List Expression)) → ArgumentsAlike args → AllByRecursion ExprAlike (or_none args)
  arguments_alike None all = tt
  arguments_alike (Some args) all = all

  source_alike : (queue : Option QueueTable) (source : SourceParts) (f : Found) (w : Work) → SourceAlike source → of_source (inside_beyond i) queue source f w ≡ of_source i queue source f w
  source_alike queue (parts.Table t args) f w same =
      ap (λ (e : Option WithEntry). of_name (inside_beyond i) queue (name_at i.outer.text t) e (or_none args) f w) (named_beyond (name_at i.outer.text t) i.outer.tables)
      ∙ name_alike queue (name_at i.outer.text t) (with_named (name_at i.outer.text t) i.outer.tables) (or_none args) f w (arguments_alike args same)
  source_alike queue (parts.Derived q) f w same = ap (derived w) (same.bound (beside_from i.outer) w.units)

  -- ---- joins

  constrained_alike : (left : Level) (natural : Bool) (constraint : ConstraintParts) (j : Joining) (w : Work) → ConstraintAlike constraint → constrained (inside_beyond i) left natural constraint j w ≡ constrained i left natural constraint j w
  constrained_alike left true parts.Unconstrained j w same = refl
  constrained_alike left true (parts.On x) j w same = refl
  constrained_alike left true (parts.Using ts) j w same = refl
  constrained_alike left false parts.Unconstrained j w same = refl
  constrained_alike left false (parts.On x) j w same = alike _ _ _ _ (same.bound (scope_over (left ++ j.right ∷ []) i.outer) [] tt w) (λ c. refl)
  constrained_alike left false (parts.Using ts) j w same = refl

  joined_alike : (item : ItemParts) (name : Option (List ℕ)) (s : Sourced) (f : Found) (w : Work) → ConstraintAlike item.constraint → joined_to (inside_beyond i) item name s f w ≡ joined_to i item name s f w
  joined_alike item name s f w same = alike _ _ _ _ (constrained_alike f.level item.join.natural item.constraint (record { right = scope_item (length f.items) name s; ons = [] }) w same) (λ j. refl)

  item_alike : (queue : Option QueueTable) (item : ItemParts) (f : Found) (w : Work) → ItemAlike item → item_found (inside_beyond i) queue item f w ≡ item_found i queue item f w
  item_alike queue item f w same =
      alike_behind (has_room f) _ _ (λ u. alike _ _ _ _ (source_alike queue item.source f w same.source) (λ s. joined_alike item (called_by i.outer.text item.alias s.0.name) s.0 f s.1 same.constraint))

  pub items_alike : (queue : Option QueueTable) (items : List ItemParts) (f : Found) (w : Work) → AllByRecursion ItemAlike items → items_found (inside_beyond i) queue items f w ≡ items_found i queue items f w
  items_alike queue [] f w all = refl
  items_alike queue (item ∷ items) f w all = alike _ _ _ _ (item_alike queue item f w all.0) (λ g. items_alike queue items g.0 g.1 all.1)
