-- What a table without constraints and indexes is as the target of an INSERT.
use Rattle.std.proofs.Common.{◌≡◌, ◌+◌, ℕ, suc, nat_lt, arith, Bool, true, false, not, ◌&&◌, if◌then◌else◌, List, [], ◌∷◌, ◌++◌, length, map, position, Option, Some, None, Ok, flat_map, refl, ap, ◌∙◌}
use Rattle.std.specs.List.{list_all, list_any, position_or_len}
use Rattle.std.specs.Option.{option_map, option_to_list}
use Rattle.std.proofs.lemmas.Bool.{le-ltb}
use Rattle.std.proofs.lemmas.List.{length-map}
use Rattle.eng_entry.specs.declared.entry.Entry.{Entry}
use Rattle.eng_entry.specs.declared.entry.EntryKind.TheVariants as entry_kind
use Rattle.sql_tree.specs.declared.statement.ColumnDefinition.{ColumnDefinition}
use Rattle.sql_tree.specs.declared.statement.TableDefinition.{TableDefinition}
use Rattle.sql_words.specs.Refusals.{◌>>=◌, or_else}
use Rattle.bound_tree.specs.Exprs.{BoundExpr}
use Rattle.bound_tree.specs.declared.units.BoundColumn.{BoundColumn}
use Rattle.bound_tree.specs.declared.units.BoundSource.TheVariants as bound_source
use Rattle.bound_tree.specs.declared.writes.BoundTarget.{BoundTarget}
use Rattle.bound_tree.specs.declared.writes.FiringEvent.TheVariants.{AtInsert}
use Rattle.bound_size.proofs.BoundLaws.{both_hold}
use Rattle.sql_bound.specs.Declarations.{DeclaredColumn, bound_columns, checks_of, created_index, created_indexes, declared_column, declared_table, default_of, definition_of, index_with, indexes_of_keys, is_index_of, is_integer_type, is_not_null, is_own_rowid, is_primary, own_key, own_keys, rowid_of, rowid_of_constraints, table_checks, table_in, table_key, table_named}
use Rattle.sql_bound.specs.Froms.{Inside, declared_source, nothing_found, of_catalog, of_entry, of_table, scope_item, with_units}
use Rattle.sql_bound.specs.Lasting.{all_there, collations_kept, index_there, indexes_there, last_collate, of_column, of_key}
use Rattle.sql_bound.specs.Declarations.{index_in}
use Rattle.sql_bound.specs.Scopes.{Answer, Around, Facts, Level, Outer}
use Rattle.sql_bound.specs.Targets.{Target, checks_bound, declared_target, default_bound, defaults_bound, inside_write, may_write_module, may_write_view, shown_name, table_target, target_bound, target_of, plain_target}
use Rattle.sql_bound.specs.Writes.{inserting, shown_places}
use Rattle.sql_bound.specs.declared.froms.Sourced.{Sourced}
use Rattle.sql_bound.specs.declared.scopes.Work.{Work}
use Rattle.sql_meaning.specs.Built.{is_empty}
use Rattle.bind_stmt.specs.Plain.{has_no_index, is_plain_column, is_plain_table}
use Rattle.bind_stmt.proofs.Places.{AreNone, AreUnset, all_shown, places_from}
use Rattle.bind_stmt.proofs.PlainValues.{none-in, then_is}

-- ---- columns without constraints

abbrev ArePlain : List ColumnDefinition → Type 0
ArePlain ds = list_all is_plain_column ds ≡ true

-- the first has no constraint, and those behind it
plain-first : (d : ColumnDefinition) (ds : List ColumnDefinition) → ArePlain (d ∷ ds) → (d.constraints ≡ []) × ArePlain ds
plain-first d ds h = let k = both_hold (is_plain_column d) (list_all is_plain_column ds) h in (none-in d.constraints k.0, k.1)

no-collate : (ds : List ColumnDefinition) → ArePlain ds → flat_map of_column ds ≡ []
no-collate [] h = refl
no-collate (d ∷ ds) h = let k = plain-first d ds h in ap (λ cs. option_to_list (last_collate cs) ++ flat_map of_column ds) k.0 ∙ no-collate ds k.1

no-checks : (facts : Facts) (text : List ℕ) (ds : List ColumnDefinition) → ArePlain ds → flat_map (λ (d : DeclaredColumn). d.checks) (map (declared_column facts text) ds) ≡ []
no-checks facts text [] h = refl
no-checks facts text (d ∷ ds) h =
    let k = plain-first d ds h in
    ap (λ cs. checks_of cs ++ flat_map (λ (c : DeclaredColumn). c.checks) (map (declared_column facts text) ds)) k.0 ∙ no-checks facts text ds k.1

and-false : (b : Bool) → (b && false) ≡ false
and-false true = refl
and-false false = refl

no-own : (text : List ℕ) (ds : List ColumnDefinition) → ArePlain ds → position_or_len (is_own_rowid text) ds ≡ length ds
no-own text [] h = refl
no-own text (d ∷ ds) h =
    let k = plain-first d ds h in
    let here : is_own_rowid text d ≡ false = ap (λ cs. is_integer_type text d.type_name && list_any is_primary cs) k.0 ∙ and-false (is_integer_type text d.type_name) in
    ap (λ b. if not b then 1 + position_or_len (is_own_rowid text) ds else 0) here ∙ ap (λ n. 1 + n) (no-own text ds k.1) ∙ omega arith

no-rowid : (text : List ℕ) (t : TableDefinition) → ArePlain t.columns → t.constraints ≡ [] → rowid_of text t ≡ None
no-rowid text t plain none =
    let own : position (is_own_rowid text) t.columns ≡ None = ap (λ n. if nat_lt n (length t.columns) then Some n else None) (no-own text t.columns plain) ∙ ap (λ b. if b then Some (length t.columns) else None) (le-ltb (length t.columns) (length t.columns) (omega arith)) in
    ap (λ o. or_else o (rowid_of_constraints text t.columns t.constraints)) own ∙ ap (rowid_of_constraints text t.columns) none

no-defaults : (a : Around) (facts : Facts) (text : List ℕ) (ds : List ColumnDefinition) (w : Work) → ArePlain ds → (made : List (Option BoundExpr)) × (defaults_bound a text (map (declared_column facts text) ds) w ≡ Ok (made, w)) × AreNone made
no-defaults a facts text [] w h = ([], refl, tt)
no-defaults a facts text (d ∷ ds) w h =
    let k = plain-first d ds h in
    let rest = no-defaults a facts text ds w k.1 in
    let next : Option BoundExpr × Work → Answer (List (Option BoundExpr)) = λ b. defaults_bound a text (map (declared_column facts text) ds) b.1 >>= λ more. Ok (b.0 ∷ more.0, more.1) in (
      None ∷ rest.0,
      ap (λ cs. default_bound a text (default_of cs) w >>= next) k.0 ∙ ap (λ r. r >>= λ more. Ok (None ∷ more.0, more.1)) rest.1,
      (refl, rest.2),
    )

no-not_nulls : (facts : Facts) (text : List ℕ) (ds : List ColumnDefinition) → ArePlain ds → AreUnset (map (λ (d : DeclaredColumn). d.not_null) (map (declared_column facts text) ds))
no-not_nulls facts text [] h = tt
no-not_nulls facts text (d ∷ ds) h = let k = plain-first d ds h in (ap (λ cs. list_any is_not_null cs) k.0, no-not_nulls facts text ds k.1)

no-keys : (rowid : Option ℕ) (columns : List BoundColumn) (place : ℕ) (ds : List ColumnDefinition) → ArePlain ds → own_keys rowid columns place ds ≡ []
no-keys rowid columns place [] h = refl
no-keys rowid columns place (d ∷ ds) h =
    let k = plain-first d ds h in ap (λ cs. flat_map (own_key rowid columns place) cs ++ own_keys rowid columns (suc place) ds) k.0 ∙ no-keys rowid columns (suc place) ds k.1

-- ---- no index

index-first : (b rest : Bool) → (not b && rest) ≡ true → (b ≡ false) × (rest ≡ true)
index-first false rest h = (refl, h)
index-first true rest h = absurd (let bad : false ≡ true = h in cc)

no-index : (facts : Facts) (table : List ℕ) (entries : List Entry) → has_no_index table entries ≡ true → indexes_there facts table entries ≡ Ok tt
no-index facts table [] h = refl
no-index facts table (entry ∷ entries) h =
    let k = index-first (is_index_of table entry) (has_no_index table entries) h in
    ap (λ b. (if b then index_there facts entry (index_in (definition_of entry)) else Ok tt) >>= λ u. indexes_there facts table entries) k.0 ∙ no-index facts table entries k.1

no-created : (facts : Facts) (table : List ℕ) (columns : List BoundColumn) (entries : List Entry) → has_no_index table entries ≡ true → flat_map (created_index facts table columns) entries ≡ []
no-created facts table columns [] h = refl
no-created facts table columns (entry ∷ entries) h =
    let k = index-first (is_index_of table entry) (has_no_index table entries) h in
    ap (λ b. (if b then option_to_list (option_map (index_with facts columns entry) (index_in (definition_of entry))) else []) ++ flat_map (created_index facts table columns) entries) k.0 ∙ no-created facts table columns entries k.1

-- ---- the table

-- a target without defaults, constraints and indexes
pub record IsBare (entry : Entry) (d : BoundTarget) : Type 0 where
  pub source : d.item.source ≡ bound_source.Table entry.name entry.number
  pub indexes : d.item.indexes ≡ []
  pub defaults : AreNone d.defaults
  pub not_nulls : AreUnset d.not_nulls
  pub checks : d.checks ≡ []

-- as the target of an INSERT it has so many columns, each in its place, and no rowid among them
pub record IsPlainTarget (entry : Entry) (width : ℕ) (t : Target) : Type 0 where
  pub bare : IsBare entry t.target
  pub hidden : shown_places 0 t.source.hidden ≡ places_from 0 width
  pub columns : length t.source.columns ≡ width
  pub rowid : t.source.rowid ≡ None

module _ (o : Outer) (name : List ℕ) (entry : Entry) (t : TableDefinition) (table : entry.kind ≡ entry_kind.Table) (defines : table_in (definition_of entry) ≡ Some t) (plain : is_plain_table t ≡ true)
    (bare : has_no_index entry.name o.around.catalog.names ≡ true) where
  abbrev own : Sourced
  own = declared_source o entry (declared_table o.around.facts entry.text t)

  no-constraints : t.constraints ≡ []
  no-constraints = none-in t.constraints (both_hold (is_empty t.constraints) (list_all is_plain_column t.columns) plain).0

  plain-columns : ArePlain t.columns
  plain-columns = (both_hold (is_empty t.constraints) (list_all is_plain_column t.columns) plain).1

  kept : collations_kept o.around entry t ≡ Ok tt
  kept =
      ap (λ ts. all_there o.around.facts entry.text (ts ++ flat_map of_key t.constraints) >>= λ u. indexes_there o.around.facts entry.name o.around.catalog.names) (no-collate t.columns plain-columns)
      ∙ ap (λ cs. all_there o.around.facts entry.text (flat_map of_key cs) >>= λ u. indexes_there o.around.facts entry.name o.around.catalog.names) no-constraints ∙ no-index o.around.facts entry.name o.around.catalog.names bare

  table-is : of_table o name entry (table_in (definition_of entry)) ≡ Ok own
  table-is = ap (of_table o name entry) defines ∙ ap (λ r. r >>= λ u. Ok own) kept

  catalog-is : (i : Inside) (w : Work) → i.outer ≡ o → of_catalog i name (Some entry) [] nothing_found w ≡ Ok (own, w)
  catalog-is i w is =
      ap (λ k. of_entry i name entry k [] nothing_found w) table ∙ ap (λ p. with_units (of_table p name entry (table_in (definition_of entry))) w) is ∙ ap (λ r. with_units r w) table-is

  module-is : may_write_module o.around name (Some entry) ≡ Ok tt
  module-is = rw table refl

  checks-none : (declared_table o.around.facts entry.text t).checks ≡ []
  checks-none =
      ap (λ cs. cs ++ table_checks t.constraints) (no-checks o.around.facts entry.text t.columns plain-columns) ∙ ap table_checks no-constraints

  keys-none : (declared_table o.around.facts entry.text t).keys ≡ []
  keys-none =
      let dt = declared_table o.around.facts entry.text t in
      let columns = bound_columns dt.columns in
      ap (λ ks. ks ++ flat_map (table_key o.around.facts entry.text dt.rowid columns) t.constraints) (no-keys dt.rowid columns 0 t.columns plain-columns)
      ∙ ap (λ cs. flat_map (table_key o.around.facts entry.text dt.rowid columns) cs) no-constraints

  indexes-none : own.indexes ≡ []
  indexes-none =
      let dt = declared_table o.around.facts entry.text t in
      let created = created_indexes o.around.facts o.around.catalog entry.name (bound_columns dt.columns) in
      ap (λ ks. indexes_of_keys entry 1 ks ++ created) keys-none ∙ no-created o.around.facts entry.name (bound_columns dt.columns) o.around.catalog.names bare

  target-is : (w : Work) → (d : BoundTarget) × (declared_target o.around AtInsert entry.name own (Some entry) w ≡ Ok (target_of entry.name own d, w)) × IsBare entry d
  target-is w =
      let dt = declared_table o.around.facts entry.text t in
      let defaults = no-defaults o.around o.around.facts entry.text t.columns w plain-columns in
      let level : Level = scope_item 0 (Some entry.name) own ∷ [] in
      let made : List (Option BoundExpr) × Work → List BoundExpr × Work → Target × Work = λ d c. (target_of entry.name own (record (plain_target own entry.name) { defaults = d.0; not_nulls = map (λ (x : DeclaredColumn). x.not_null) dt.columns; checks = c.0 }), c.1) in
      let by_table : declared_target o.around AtInsert entry.name own (Some entry) w ≡ table_target o.around entry.text own dt entry.name w = rw defines refl in (
        record (plain_target own entry.name) { defaults = defaults.0; not_nulls = map (λ (x : DeclaredColumn). x.not_null) dt.columns; checks = [] },
        by_table ∙ then_is (defaults_bound o.around entry.text dt.columns w) (λ d. checks_bound o.around entry.text level dt.checks d.1 >>= λ c. Ok (made d c)) (defaults.0, w) _ defaults.1
            (ap (λ cs. checks_bound o.around entry.text level cs w >>= λ c. Ok (made (defaults.0, w) c)) checks-none),
        record {
          source = refl;
          indexes = indexes-none;
          defaults = defaults.2;
          not_nulls = no-not_nulls o.around.facts entry.text t.columns plain-columns;
          checks = refl;
        },
      )

  pub plain-target : (w : Work) → table_named name o.around.catalog ≡ Some entry → (target : Target) × (target_bound o name inserting w ≡ Ok (target, w)) × IsPlainTarget entry (length t.columns) target
  plain-target w found =
      let last = target-is w in
      let after : Sourced × Work → Answer Target = λ s. may_write_view o.around s.0 inserting s.0.source >>= λ u. declared_target o.around AtInsert (shown_name name s.0.name) s.0 (table_named name o.around.catalog) s.1 in
      let by : Option Entry → Answer Target = λ e. may_write_module o.around name e >>= λ u. of_catalog (inside_write o) name e [] nothing_found w >>= λ s. may_write_view o.around s.0 inserting s.0.source >>= λ u. declared_target o.around AtInsert (shown_name name s.0.name) s.0 e s.1 in
      let target = target_of entry.name own last.0 in
      let hides : map (λ c. false) own.columns ≡ own.hidden = refl in
      let wide : length own.columns ≡ length t.columns = length-map (map (declared_column o.around.facts entry.text) t.columns) (λ (d : DeclaredColumn). d.column) ∙ length-map t.columns (declared_column o.around.facts entry.text) in (
        target,
        ap by found
            ∙ then_is (may_write_module o.around name (Some entry)) (λ u. of_catalog (inside_write o) name (Some entry) [] nothing_found w >>= λ s. may_write_view o.around s.0 inserting s.0.source >>= λ u. declared_target o.around AtInsert (shown_name name s.0.name) s.0 (Some entry) s.1) tt _ module-is
            (then_is (of_catalog (inside_write o) name (Some entry) [] nothing_found w) (λ s. may_write_view o.around s.0 inserting s.0.source >>= λ u. declared_target o.around AtInsert (shown_name name s.0.name) s.0 (Some entry) s.1) (own, w) _ (catalog-is (inside_write o) w refl) last.1),
        record { bare = last.2; hidden = all_shown 0 own.columns ∙ ap (places_from 0) wide; columns = wide; rowid = no-rowid entry.text t plain-columns no-constraints },
      )
