-- What a table puts by default and tests of a row is small beside the tree of its CREATE TABLE, where this asks no query.
use Rattle.std.proofs.Common.{◌≡◌, ◌≤◌, ℕ, ◌+◌, ◌*◌, Bool, true, false, ◌&&◌, List, [], ◌∷◌, ◌++◌, map, Option, Some, None, Ok, refl, sym, ap, subst, ◌∙◌, arith}
use Rattle.std.proofs.lemmas.List.Folds.{list_all-append}
use Rattle.std.specs.List.{flat_map, list_all}
use Rattle.std.specs.Option.{option_map, option_to_list}
use Rattle.eng_entry.specs.declared.entry.Entry.{Entry}
use Rattle.eng_entry.specs.declared.entry.EntryKind.TheVariants as entry_kind
use Rattle.eng_entry.specs.declared.entry.EntryKind.{EntryKind}
use Rattle.eng_value.specs.declared.modules.ModColumn.{ModColumn}
use Rattle.sql_tree.specs.Sizes.{or_0, size_of, size_of_behind, size_of_column, size_of_constraint, size_of_table, total}
use Rattle.sql_tree.specs.declared.expr.Expr.{Expr}
use Rattle.sql_tree.specs.declared.statement.ColumnConstraint.TheVariants as own
use Rattle.sql_tree.specs.declared.statement.ColumnConstraint.{ColumnConstraint}
use Rattle.sql_tree.specs.declared.statement.ColumnDefinition.{ColumnDefinition}
use Rattle.sql_tree.specs.declared.statement.TableConstraint.TheVariants as behind
use Rattle.sql_tree.specs.declared.statement.TableConstraint.{TableConstraint}
use Rattle.sql_tree.specs.declared.statement.TableDefinition.{TableDefinition}
use Rattle.sql_tree.specs.declared.statement.ViewDefinition.{ViewDefinition}
use Rattle.sql_words.specs.Refusals.{◌>>=◌, or_else}
use Rattle.sql_words.specs.Spelled.{name_at}
use Rattle.bound_tree.specs.Exprs.{BoundExpr}
use Rattle.bound_tree.specs.declared.units.BoundSource.TheVariants as bound_source
use Rattle.bound_tree.specs.declared.units.BoundSource.{BoundSource}
use Rattle.bound_tree.specs.declared.units.BoundUnit.{BoundUnit}
use Rattle.bound_tree.specs.declared.writes.FiringEvent.TheVariants.{AtInsert}
use Rattle.sql_bound.specs.Declarations.{DeclaredColumn, checks_of, declared_column, declared_table, default_of, definition_of, table_checks, table_in, table_named, view_in}
use Rattle.sql_bound.specs.Expressions.{all_bound}
use Rattle.sql_bound.specs.Froms.{Inside, arguments_fit, as_columns, columns_told, declared_source, module_source, module_there, nothing_found, of_catalog, of_entry, of_eponymous, of_module, of_table, of_view, plain_source, scope_item, with_names, with_units}
use Rattle.sql_bound.specs.Lasting.{collations_kept}
use Rattle.sql_bound.specs.Operands.{trees_of}
use Rattle.sql_bound.specs.Refusals.{Checked}
use Rattle.sql_bound.specs.Scopes.{Around, Facts, Level, Outer, scope_over}
use Rattle.sql_bound.specs.Targets.{Target, checks_bound, constraint_bound, declared_target, default_bound, defaults_bound, in_check, in_default, inside_write, may_write_module, may_write_view, plain_target, shown_name, table_target, target_bound, target_of}
use Rattle.sql_bound.specs.Trees.{full_depth, of_expr, outer_at}
use Rattle.sql_bound.specs.Writes.{inserting}
use Rattle.sql_bound.specs.declared.froms.Sourced.{Sourced}
use Rattle.sql_bound.specs.declared.scopes.Allowed.{Allowed}
use Rattle.sql_bound.specs.declared.scopes.Asked.{Asked}
use Rattle.sql_bound.specs.declared.scopes.Operand.{Operand}
use Rattle.sql_bound.specs.declared.scopes.ResultColumn.{ResultColumn}
use Rattle.sql_bound.specs.declared.scopes.Work.{Work}
use Rattle.bound_size.specs.Brought.{AllBringNodes}
use Rattle.bound_size.specs.Plain.{is_plain, is_plain_behind, is_plain_column, is_plain_constraint, is_plain_table, option_plain}
use Rattle.bound_size.specs.Sizes.{all_nodes, nodes_of}
use Rattle.bound_size.specs.Small.{HasSmallConstraints, IsSmallTarget, constraints_nodes}
use Rattle.bound_size.proofs.BoundLaws.{both_hold, bound_by, same_answer}
use Rattle.bound_size.proofs.FromLaws.{item_brings}
use Rattle.bound_size.proofs.SizeLaws.{tree_nodes}

-- ---- the trees of defaults and CHECKs

total-append : (xs ys : List Expr) → total (map size_of (xs ++ ys)) ≡ total (map size_of xs) + total (map size_of ys)
total-append [] ys = omega arith
total-append (x ∷ xs) ys = omega (arith, total-append xs ys)

-- the size of a default that is there
abbrev option_size : Option Expr → ℕ
option_size o = or_0 (option_map size_of o)

either_size : (a b : Option Expr) → option_size (or_else a b) ≤ option_size a + option_size b
either_size None b = omega arith
either_size (Some a) b = omega arith

constraints_few : (cs : List ColumnConstraint) → option_size (default_of cs) + total (map size_of (checks_of cs)) ≤ total (map size_of_constraint cs)
constraints_few [] = omega arith
constraints_few (own.PrimaryKey ∷ cs) = omega (arith, constraints_few cs)
constraints_few (own.NotNull ∷ cs) = omega (arith, constraints_few cs)
constraints_few (own.Null ∷ cs) = omega (arith, constraints_few cs)
constraints_few (own.Unique ∷ cs) = omega (arith, constraints_few cs)
constraints_few (own.Check x ∷ cs) = omega (arith, constraints_few cs)
constraints_few (own.Default x ∷ cs) = omega (arith, constraints_few cs, either_size (default_of cs) (Some x))
constraints_few (own.Collate t ∷ cs) = omega (arith, constraints_few cs)

behind_few : (cs : List TableConstraint) → total (map size_of (table_checks cs)) ≡ total (map size_of_behind cs)
behind_few [] = refl
behind_few (behind.PrimaryKey key ∷ cs) = omega (arith, behind_few cs)
behind_few (behind.Unique key ∷ cs) = omega (arith, behind_few cs)
behind_few (behind.Check x ∷ cs) = omega (arith, behind_few cs)

module _ (facts : Facts) (text : List ℕ) where
  abbrev declared : List ColumnDefinition → List DeclaredColumn
  declared ds = map (declared_column facts text) ds

  abbrev checks_in : List ColumnDefinition → List Expr
  checks_in ds = flat_map (λ (d : DeclaredColumn). d.checks) (declared ds)

  abbrev defaults_in : List ColumnDefinition → ℕ
  defaults_in ds = total (map (λ (d : ColumnDefinition). option_size (default_of d.constraints)) ds)

  columns_few : (ds : List ColumnDefinition) → defaults_in ds + total (map size_of (checks_in ds)) ≤ total (map size_of_column ds)
  columns_few [] = omega arith
  columns_few (d ∷ ds) = omega (arith, columns_few ds, constraints_few d.constraints, total-append (checks_of d.constraints) (checks_in ds))

-- ---- they ask no query

abbrev is_plain_option : Option Expr → Bool
is_plain_option o = option_plain (option_map is_plain o)

either_plain : (a b : Option Expr) → is_plain_option a ≡ true → is_plain_option b ≡ true → is_plain_option (or_else a b) ≡ true
either_plain None b h k = k
either_plain (Some a) b h k = h

and_true : (p q : Bool) → p ≡ true → q ≡ true → (p && q) ≡ true
and_true p q h k = rw (h, k) refl

defaults_plain : (cs : List ColumnConstraint) → list_all is_plain_constraint cs ≡ true → is_plain_option (default_of cs) ≡ true
defaults_plain [] h = refl
defaults_plain (own.PrimaryKey ∷ cs) h = defaults_plain cs h
defaults_plain (own.NotNull ∷ cs) h = defaults_plain cs h
defaults_plain (own.Null ∷ cs) h = defaults_plain cs h
defaults_plain (own.Unique ∷ cs) h = defaults_plain cs h
defaults_plain (own.Check x ∷ cs) h = defaults_plain cs (both_hold (is_plain x) (list_all is_plain_constraint cs) h).1
defaults_plain (own.Default x ∷ cs) h =
    let both = both_hold (is_plain x) (list_all is_plain_constraint cs) h in either_plain (default_of cs) (Some x) (defaults_plain cs both.1) both.0
defaults_plain (own.Collate t ∷ cs) h = defaults_plain cs h

checks_plain : (cs : List ColumnConstraint) → list_all is_plain_constraint cs ≡ true → list_all is_plain (checks_of cs) ≡ true
checks_plain [] h = refl
checks_plain (own.PrimaryKey ∷ cs) h = checks_plain cs h
checks_plain (own.NotNull ∷ cs) h = checks_plain cs h
checks_plain (own.Null ∷ cs) h = checks_plain cs h
checks_plain (own.Unique ∷ cs) h = checks_plain cs h
checks_plain (own.Check x ∷ cs) h =
    let both = both_hold (is_plain x) (list_all is_plain_constraint cs) h in and_true (is_plain x) (list_all is_plain (checks_of cs)) both.0 (checks_plain cs both.1)
checks_plain (own.Default x ∷ cs) h = checks_plain cs (both_hold (is_plain x) (list_all is_plain_constraint cs) h).1
checks_plain (own.Collate t ∷ cs) h = checks_plain cs h

behind_plain : (cs : List TableConstraint) → list_all is_plain_behind cs ≡ true → list_all is_plain (table_checks cs) ≡ true
behind_plain [] h = refl
behind_plain (behind.PrimaryKey key ∷ cs) h = behind_plain cs h
behind_plain (behind.Unique key ∷ cs) h = behind_plain cs h
behind_plain (behind.Check x ∷ cs) h =
    let both = both_hold (is_plain x) (list_all is_plain_behind cs) h in and_true (is_plain x) (list_all is_plain (table_checks cs)) both.0 (behind_plain cs both.1)

columns_plain : (facts : Facts) (text : List ℕ) (ds : List ColumnDefinition) → list_all is_plain_column ds ≡ true → list_all is_plain (checks_in facts text ds) ≡ true
columns_plain facts text [] h = refl
columns_plain facts text (d ∷ ds) h =
    let both = both_hold (is_plain_column d) (list_all is_plain_column ds) h in
    list_all-append is_plain (checks_of d.constraints) (checks_in facts text ds)
    ∙ and_true (list_all is_plain (checks_of d.constraints)) (list_all is_plain (checks_in facts text ds)) (checks_plain d.constraints both.0) (columns_plain facts text ds both.1)

-- ---- what they are bound to

module _ (around : Around) (text : List ℕ) where
  constraint_small : (level : Level) (allowed : Allowed) (x : Expr) (w : Work) (r : BoundExpr × Work) → AllBringNodes level → is_plain x ≡ true → constraint_bound around text level allowed (of_expr x) w ≡ Ok r → nodes_of r.0 ≤ 2 * size_of x
  constraint_small level allowed x w r brings plain h =
      let s = scope_over level (outer_at around (full_depth around) text [] allowed) in
      let a = bound_by ((of_expr x).bound s w) (λ a. Ok (a.0.tree, a.1)) r h in
      subst (λ (y : BoundExpr × Work). nodes_of y.0 ≤ 2 * size_of x) (same_answer (a.0.0.tree, a.0.1) r a.2) (tree_nodes x s w a.0 plain refl brings a.1)

  checks_small : (level : Level) (xs : List Expr) (w : Work) (r : List BoundExpr × Work) → AllBringNodes level → list_all is_plain xs ≡ true → checks_bound around text level xs w ≡ Ok r → all_nodes r.0 ≤ 2 * total (map size_of xs)
  checks_small level [] w r brings plain h = subst (λ (y : List BoundExpr × Work). all_nodes y.0 ≤ 2 * 0) (same_answer ([], w) r h) (omega arith)
  checks_small level (x ∷ xs) w r brings plain h =
      let both = both_hold (is_plain x) (list_all is_plain xs) plain in
      let a = bound_by (constraint_bound around text level in_check (of_expr x) w) (λ a. checks_bound around text level xs a.1 >>= λ more. Ok (a.0 ∷ more.0, more.1)) r h in
      let more = bound_by (checks_bound around text level xs a.0.1) (λ more. Ok (a.0.0 ∷ more.0, more.1)) r a.2 in
      subst (λ (y : List BoundExpr × Work). all_nodes y.0 ≤ 2 * (size_of x + total (map size_of xs))) (same_answer (a.0.0 ∷ more.0.0, more.0.1) r more.2)
      (omega (arith, constraint_small level in_check x w a.0 brings both.0 a.1, checks_small level xs a.0.1 more.0 brings both.1 more.1))

  default_small : (o : Option Expr) (w : Work) (r : Option BoundExpr × Work) → is_plain_option o ≡ true → default_bound around text o w ≡ Ok r → all_nodes (option_to_list r.0) ≤ 2 * option_size o
  default_small None w r plain h = subst (λ (y : Option BoundExpr × Work). all_nodes (option_to_list y.0) ≤ 2 * 0) (same_answer (None, w) r h) (omega arith)
  default_small (Some x) w r plain h =
      let a = bound_by (constraint_bound around text [] in_default (of_expr x) w) (λ a. Ok (Some a.0, a.1)) r h in
      subst (λ (y : Option BoundExpr × Work). all_nodes (option_to_list y.0) ≤ 2 * size_of x) (same_answer (Some a.0.0, a.0.1) r a.2) (omega (arith, constraint_small [] in_default x w a.0 tt plain a.1))

  nodes-more : (o : Option BoundExpr) (os : List (Option BoundExpr)) → all_nodes (flat_map option_to_list (o ∷ os)) ≡ all_nodes (option_to_list o) + all_nodes (flat_map option_to_list os)
  nodes-more None os = omega arith
  nodes-more (Some x) os = omega arith

  defaults_small : (facts : Facts) (ds : List ColumnDefinition) (w : Work) (r : List (Option BoundExpr) × Work) → list_all is_plain_column ds ≡ true → defaults_bound around text (declared facts text ds) w ≡ Ok r
      → all_nodes (flat_map option_to_list r.0) ≤ 2 * defaults_in facts text ds
  defaults_small facts [] w r plain h = subst (λ (y : List (Option BoundExpr) × Work). all_nodes (flat_map option_to_list y.0) ≤ 2 * 0) (same_answer ([], w) r h) (omega arith)
  defaults_small facts (d ∷ ds) w r plain h =
      let both = both_hold (is_plain_column d) (list_all is_plain_column ds) plain in
      let a = bound_by (default_bound around text (default_of d.constraints) w) (λ a. defaults_bound around text (declared facts text ds) a.1 >>= λ more. Ok (a.0 ∷ more.0, more.1)) r h in
      let more = bound_by (defaults_bound around text (declared facts text ds) a.0.1) (λ more. Ok (a.0.0 ∷ more.0, more.1)) r a.2 in
      subst (λ (y : List (Option BoundExpr) × Work). all_nodes (flat_map option_to_list y.0) ≤ 2 * (option_size (default_of d.constraints) + defaults_in facts text ds)) (same_answer (a.0.0 ∷ more.0.0, more.0.1) r more.2)
      (omega (arith, nodes-more a.0.0 more.0.0, default_small (default_of d.constraints) w a.0 (defaults_plain d.constraints both.0) a.1, defaults_small facts ds a.0.1 more.0 both.1 more.1))

  table_small : (facts : Facts) (s : Sourced) (t : TableDefinition) (name : List ℕ) (w : Work) (r : Target × Work) → table_target around text s (declared_table facts text t) name w ≡ Ok r
      → (r.0.target.item.source ≡ s.source) × (is_plain_table t ≡ true → constraints_nodes r.0.target ≤ 2 * size_of_table t)
  table_small facts s t name w r h =
      let columns = declared facts text t.columns in
      let level = scope_item 0 (Some name) s ∷ [] in
      let own_checks = checks_in facts text t.columns in
      let checks = own_checks ++ table_checks t.constraints in
      let made : List (Option BoundExpr) × Work → List BoundExpr × Work → Target × Work = λ d c.
      (target_of name s (record (plain_target s name) { defaults = d.0; not_nulls = map (λ (x : DeclaredColumn). x.not_null) columns; checks = c.0 }), c.1) in
      let d = bound_by (defaults_bound around text columns w) (λ d. checks_bound around text level checks d.1 >>= λ c. Ok (made d c)) r h in
      let c = bound_by (checks_bound around text level checks d.0.1) (λ c. Ok (made d.0 c)) r d.2 in
      let few : is_plain_table t ≡ true → constraints_nodes (made d.0 c.0).0.target ≤ 2 * size_of_table t = λ plain.
      let both = both_hold (list_all is_plain_column t.columns) (list_all is_plain_behind t.constraints) plain in
      let all_plain = list_all-append is_plain own_checks (table_checks t.constraints)
      ∙ and_true (list_all is_plain own_checks) (list_all is_plain (table_checks t.constraints)) (columns_plain facts text t.columns both.0) (behind_plain t.constraints both.1) in
      omega (
        arith,
        defaults_small facts t.columns w d.0 both.0 d.1,
        checks_small level checks d.0.1 c.0 ((item_brings 0 (Some name) s).nodes, tt) all_plain c.1,
        columns_few facts text t.columns,
        behind_few t.constraints,
        total-append own_checks (table_checks t.constraints),
      ) in
      subst (λ (y : Target × Work). (y.0.target.item.source ≡ s.source) × (is_plain_table t ≡ true → constraints_nodes y.0.target ≤ 2 * size_of_table t)) (same_answer (made d.0 c.0) r c.2) (refl, few)

-- ---- the rows of a table come from the entry that creates it

-- they are those of the table of this name, which this entry creates
record IsTableOf (entry : Entry) (name : List ℕ) : Type 0 where
  named : entry.name ≡ name
  table : TableDefinition
  creates : table_in (definition_of entry) ≡ Some table

-- a source is a table only of an entry that creates it
abbrev ComesFrom : Option Entry → BoundSource → Type 0
ComesFrom there source = (name : List ℕ) (number : ℕ) → source ≡ bound_source.Table name number → (entry : Entry) × (there ≡ Some entry) × IsTableOf entry name

module _ (i : Inside) (written : List ℕ) (there : Option Entry) where
  abbrev IsFrom : Sourced × Work → Type 0
  IsFrom r = ComesFrom there r.0.source

  module_from : (shown name : List ℕ) (number : ℕ) (w : Work) (r : Sourced × Work) → of_module i shown name number [] nothing_found w ≡ Ok r → IsFrom r
  module_from shown name number w r h =
      let made : List ModColumn → List Operand × Work → Sourced × Work = λ cs xs. (module_source shown name number cs (trees_of xs.0), xs.1) in
      let all = all_bound (scope_over nothing_found.level i.outer) [] w in
      let cs = bound_by (columns_told i.outer.around.facts name number) (λ cs. arguments_fit name cs [] >>= λ u. all >>= λ xs. Ok (made cs xs)) r h in
      let u = bound_by (arguments_fit name cs.0 []) (λ u. all >>= λ xs. Ok (made cs.0 xs)) r cs.2 in
      let xs = bound_by all (λ xs. Ok (made cs.0 xs)) r u.2 in
      subst IsFrom (same_answer (made cs.0 xs.0) r xs.2) (λ n k is. cc)

  view_from : (entry : Entry) (v : Option ViewDefinition) (w : Work) (r : Sourced × Work) → of_view i written entry v w ≡ Ok r → IsFrom r
  view_from entry None w r h = cc
  view_from entry (Some v) w r h =
      let asked = i.views entry.name entry.text v.query w.units in
      let columns = map (name_at entry.text) v.columns in
      let made : Asked × List BoundUnit → List ResultColumn → Sourced × Work = λ a cs. (plain_source (Some entry.name) (bound_source.View entry.name a.0.unit) (as_columns cs), record w { units = a.1 }) in
      let a = bound_by asked (λ a. with_names entry.name columns a.0.columns >>= λ cs. Ok (made a cs)) r h in
      let cs = bound_by (with_names entry.name columns a.0.0.columns) (λ cs. Ok (made a.0 cs)) r a.2 in
      subst IsFrom (same_answer (made a.0 cs.0) r cs.2) (λ n k is. cc)

  table_from : (entry : Entry) (t : Option TableDefinition) (w : Work) (r : Sourced × Work) → there ≡ Some entry → table_in (definition_of entry) ≡ t → with_units (of_table i.outer written entry t) w ≡ Ok r → IsFrom r
  table_from entry None w r is creates h = cc
  table_from entry (Some t) w r is creates h =
      let source = declared_source i.outer entry (declared_table i.outer.around.facts entry.text t) in
      let s = bound_by (of_table i.outer written entry (Some t)) (λ s. Ok (s, w)) r h in
      let u = bound_by (collations_kept i.outer.around entry t) (λ u. Ok source) s.0 s.1 in
      let same : (source, w) ≡ r = ap (λ (x : Sourced). (x, w)) (same_answer source s.0 u.2) ∙ same_answer (s.0, w) r s.2 in
      subst IsFrom same (λ n k at. (entry, is, record { named = cc; table = t; creates = creates }))

  entry_from : (entry : Entry) (k : EntryKind) (w : Work) (r : Sourced × Work) → there ≡ Some entry → of_entry i written entry k [] nothing_found w ≡ Ok r → IsFrom r
  entry_from entry entry_kind.Table w r is h = table_from entry (table_in (definition_of entry)) w r is refl h
  entry_from entry entry_kind.View w r is h = view_from entry (view_in (definition_of entry)) w r h
  entry_from entry entry_kind.Module w r is h =
      let u = bound_by (module_there entry (i.outer.around.facts.host_module entry.owner)) (λ u. of_module i entry.name entry.owner entry.number [] nothing_found w) r h in
      module_from entry.name entry.owner entry.number w r u.2
  entry_from entry entry_kind.Index w r is h = cc
  entry_from entry entry_kind.Trigger w r is h = cc

  eponymous_from : (m : Option (Bool × Bool)) (w : Work) (r : Sourced × Work) → of_eponymous i written m [] nothing_found w ≡ Ok r → IsFrom r
  eponymous_from (Some (true, writable)) w r h = module_from written written 0 w r h
  eponymous_from (Some (false, writable)) w r h = cc
  eponymous_from None w r h = cc

  catalog_from : (o : Option Entry) (w : Work) (r : Sourced × Work) → there ≡ o → of_catalog i written o [] nothing_found w ≡ Ok r → IsFrom r
  catalog_from (Some entry) w r is h = entry_from entry entry.kind w r is h
  catalog_from None w r is h = eponymous_from (i.outer.around.facts.host_module written) w r h

-- ---- the target of an INSERT

declared_small : (around : Around) (shown : List ℕ) (s : Sourced) (there : Option Entry) (w : Work) (r : Target × Work) → ComesFrom there s.source → declared_target around AtInsert shown s there w ≡ Ok r → IsSmallTarget there r.0.target
declared_small around shown s None w r from h name number at =
    let same : (target_of shown s (plain_target s shown), w) ≡ r = same_answer (target_of shown s (plain_target s shown), w) r h in
    let source : s.source ≡ r.0.target.item.source = ap (λ (x : Target × Work). x.0.target.item.source) same in
    let entry = from name number (source ∙ at) in
    absurd (none_there entry.0 entry.1)
  where
    none_there : (e : Entry) → None ≡ Some e → ⊥
    none_there e h = cc
declared_small around shown s (Some entry) w r from h name number at = by (table_in (definition_of entry)) refl h
  where
    target_by : Option TableDefinition → Checked (Target × Work)
    target_by None = Ok (target_of shown s (plain_target s shown), w)
    target_by (Some t) = table_target around entry.text s (declared_table around.facts entry.text t) shown w

    by : (o : Option TableDefinition) → table_in (definition_of entry) ≡ o → target_by o ≡ Ok r → HasSmallConstraints (Some entry) name r.0.target
    by None creates h =
        let same : (target_of shown s (plain_target s shown), w) ≡ r = same_answer (target_of shown s (plain_target s shown), w) r h in
        let found = from name number (ap (λ (x : Target × Work). x.0.target.item.source) same ∙ at) in
        absurd (none_created found.0 found.1 found.2 creates)
      where
        none_created : (e : Entry) → Some entry ≡ Some e → IsTableOf e name → table_in (definition_of entry) ≡ None → ⊥
        none_created e is own none = let same : entry ≡ e = cc in let some : table_in (definition_of entry) ≡ Some own.table = subst (λ x. table_in (definition_of x) ≡ Some own.table) (sym same) own.creates in cc
    by (Some t) creates h =
        let made = table_small around entry.text around.facts s t shown w r h in
        let found = from name number (sym made.0 ∙ at) in
        record { entry = entry; is_there = refl; named = own_name found.0 found.1 found.2; table = t; creates = creates; small = made.1 }
      where
        own_name : (e : Entry) → Some entry ≡ Some e → IsTableOf e name → entry.name ≡ name
        own_name e is own = let same : entry ≡ e = cc in ap (λ (x : Entry). x.name) same ∙ own.named

pub target_small : (o : Outer) (name : List ℕ) (w : Work) (r : Target × Work) → target_bound o name inserting w ≡ Ok r → IsSmallTarget (table_named name o.around.catalog) r.0.target
target_small o name w r h =
    let there = table_named name o.around.catalog in
    let target = λ (s : Sourced × Work). declared_target o.around AtInsert (shown_name name s.0.name) s.0 there s.1 in
    let writable = λ (s : Sourced × Work). may_write_view o.around s.0 inserting s.0.source >>= λ u. target s in
    let u = bound_by (may_write_module o.around name there) (λ u. of_catalog (inside_write o) name there [] nothing_found w >>= writable) r h in
    let s = bound_by (of_catalog (inside_write o) name there [] nothing_found w) writable r u.2 in
    let v = bound_by (may_write_view o.around s.0.0 inserting s.0.0.source) (λ u. target s.0) r s.2 in
    declared_small o.around (shown_name name s.0.0.name) s.0.0 there s.0.1 r (catalog_from (inside_write o) name there there w s.0 refl s.1) v.2
