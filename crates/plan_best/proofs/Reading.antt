-- What the sides of a comparison come to at a row.
use Rattle.std.proofs.Common.{◌≡◌, ℕ, zero, suc, ◌<◌, Bool, true, false, ◌&&◌, List, [], ◌∷◌, length, map, Some, None, if◌then◌else◌, refl, sym, ap, ◌∙◌, arith}
use Rattle.std.specs.Prelude.{nat_eq, slice_index_or}
use Rattle.std.specs.List.{list_any}
use Rattle.std.proofs.lemmas.List.{get_or-set_same}
use Rattle.std.specs.declared.option.Option.{Option}
use Rattle.bound_tree.specs.Exprs as e
use Rattle.bound_tree.specs.Exprs.{BoundExpr}
use Rattle.eng_index.proofs.Lists.{differ}
use Rattle.eng_index.specs.Keys.{source_value, term_value}
use Rattle.eng_index.specs.declared.key_term.KeyTerm.{KeyTerm}
use Rattle.eng_index.specs.declared.key_term.TermSource.{TermSource}
use Rattle.eng_index.specs.declared.key_term.TermSource.TheVariants as term
use Rattle.eng_value.specs.Collations.{compare, compare_by, keys_of}
use Rattle.eng_value.specs.Environments.{Environment, ItemRow, column_of, null_row, row_at, table_row}
use Rattle.eng_value.specs.HostMeanings.{HostMeanings}
use Rattle.eng_value.specs.StoredRows.{StoredRow}
use Rattle.eng_value.specs.declared.built.Built.{Built}
use Rattle.eng_value.specs.declared.built.Built.TheVariants as built
use Rattle.eng_value.specs.declared.collation.Collation.{Collation}
use Rattle.eng_value.specs.declared.collation.Collation.TheVariants as collation
use Rattle.eng_value.specs.declared.out.Out.TheVariants.{Good}
use Rattle.eng_value.specs.declared.value.Value.{Value}
use Rattle.eng_value.specs.declared.value.Value.TheVariants.{Null, Integer, Text, Blob}
use Rattle.plan_best.specs.Comparing.{is_searchable, reads_same}
use Rattle.plan_best.specs.Sides.{source_at, source_of}
use Rattle.plan_tree.specs.Ignoring.{ignores}
use Rattle.plan_tree.specs.Visits.{at_item}
use Rattle.sql_meaning.specs.Expression.{literal_out, parameter_of, value_of}
use Rattle.sql_meaning.specs.Searches.{begins_with, is_collation, is_given, is_good, is_key, same_built}

-- ---- numbers that are the same

pub same_number : (m n : ℕ) → nat_eq m n ≡ true → m ≡ n
same_number m n is = grind arith

both_true : (a b : Bool) → (a && b) ≡ true → (a ≡ true) × (b ≡ true)
both_true true b is = (refl, is)
both_true false b is = absurd (differ (sym is))

-- ---- the rowid or a column

-- of the item that is asked for
source_at_is : (item own : ℕ) (source s : TermSource) → source_at item own source ≡ Some s → (own ≡ item) × (source ≡ s)
source_at_is item own source s is = by (nat_eq own item) refl is
  where
    by : (b : Bool) → nat_eq own item ≡ b → (if b then Some source else None) ≡ Some s → (own ≡ item) × (source ≡ s)
    by true same is = (same_number own item same, cc)
    by false same is = absurd (cc)

column_value : (values : List Value) (column : ℕ) → slice_index_or (map Good values) column (Good Null) ≡ Good (slice_index_or values column Null)
column_value [] column = refl
column_value (v ∷ values) zero = refl
column_value (v ∷ values) (suc column) = column_value values column

-- by whether it is one
pub by_source : (item : ℕ) (P : BoundExpr → Option TermSource → Type 0) → ((own : ℕ) → P (e.Rowid own) (source_at item own term.Rowid)) → ((own column : ℕ) → P (e.Column own column) (source_at item own (term.Column column))) → ((x : BoundExpr) → ((indexes : List (List KeyTerm)) (c : Collation) → is_key indexes c x ≡ false) → P x None) → (x : BoundExpr) → P x (source_of item x)
by_source item P rowid column other (e.Literal l) = other _ (λ indexes c. refl)
by_source item P rowid column other (e.Parameter n) = other _ (λ indexes c. refl)
by_source item P rowid column other (e.Column own place) = column own place
by_source item P rowid column other (e.Rowid own) = rowid own
by_source item P rowid column other (e.Argument n) = other _ (λ indexes c. refl)
by_source item P rowid column other (e.Aggregate n) = other _ (λ indexes c. refl)
by_source item P rowid column other (e.Unary o a) = other _ (λ indexes c. refl)
by_source item P rowid column other (e.Binary o a b) = other _ (λ indexes c. refl)
by_source item P rowid column other (e.LikeEscaped a b c) = other _ (λ indexes d. refl)
by_source item P rowid column other (e.Between s u a low high) = other _ (λ indexes c. refl)
by_source item P rowid column other (e.InList s a others) = other _ (λ indexes c. refl)
by_source item P rowid column other (e.ChooseArm arms last) = other _ (λ indexes c. refl)
by_source item P rowid column other (e.MatchArm a arms last) = other _ (λ indexes c. refl)
by_source item P rowid column other (e.Iif a b c) = other _ (λ indexes d. refl)
by_source item P rowid column other (e.CoalesceList f args) = other _ (λ indexes c. refl)
by_source item P rowid column other (e.CallBuiltin f c args) = other _ (λ indexes d. refl)
by_source item P rowid column other (e.CallHost name args) = other _ (λ indexes c. refl)
by_source item P rowid column other (e.ScalarOf unit handed) = other _ (λ indexes c. refl)
by_source item P rowid column other (e.ExistsIn unit handed) = other _ (λ indexes c. refl)
by_source item P rowid column other (e.InUnit s a unit handed) = other _ (λ indexes c. refl)
by_source item P rowid column other e.RaiseIgnore = other _ (λ indexes c. refl)
by_source item P rowid column other (e.RaiseAbort text) = other _ (λ indexes c. refl)

-- the row of the item itself
row_there : (env : Environment) (item own : ℕ) (r : StoredRow) → item < length env.rows → own ≡ item → row_at (at_item env item r) own ≡ table_row r
row_there env item own r place is =
    ap (row_at (at_item env item r)) is ∙ get_or-set_same env.rows item (table_row r) null_row place

pub source-value : (env : Environment) (item : ℕ) → item < length env.rows → (r : StoredRow) (s : TermSource) (a : BoundExpr) → source_of item a ≡ Some s → value_of a (at_item env item r) ≡ Good (source_value s r)
source-value env item place r s =
    by_source item (λ a found. found ≡ Some s → value_of a (at_item env item r) ≡ Good (source_value s r)) (λ own is.
    let same = source_at_is item own term.Rowid s is in
    ap (λ (row : ItemRow). row.rowid) (row_there env item own r place same.0) ∙ ap (λ (q : TermSource). Good (source_value q r)) same.1) (λ own column is.
    let same = source_at_is item own (term.Column column) s is in
    ap (λ (row : ItemRow). column_of row column) (row_there env item own r place same.0) ∙ column_value r.values column ∙ ap (λ (q : TermSource). Good (source_value q r)) same.1) (λ a key is. absurd (cc))

module _ (item : ℕ) (first : item ≡ 0) where
  pub source-key : (indexes : List (List KeyTerm)) (c : Collation) (s : TermSource) (a : BoundExpr) → source_of item a ≡ Some s → is_key indexes c a ≡ is_searchable indexes c s
  source-key indexes c s =
      by_source item (λ a found. found ≡ Some s → is_key indexes c a ≡ is_searchable indexes c s) (λ own is.
      let same = source_at_is item own term.Rowid s is in
      ap (λ i. nat_eq i 0) (same.0 ∙ first) ∙ ap (is_searchable indexes c) same.1) (λ own column is.
      let same = source_at_is item own (term.Column column) s is in
      ap (λ i. nat_eq i 0 && list_any (begins_with c column) indexes) (same.0 ∙ first) ∙ ap (is_searchable indexes c) same.1) (λ a key is. absurd (cc))

  pub no_source-key : (indexes : List (List KeyTerm)) (c : Collation) (a : BoundExpr) → source_of item a ≡ None → is_key indexes c a ≡ false
  no_source-key indexes c =
      by_source item (λ a found. found ≡ None → is_key indexes c a ≡ false) (λ own is. rowid own (nat_eq own item) refl is) (λ own column is. of_column own column (nat_eq own item) refl is) (λ a key is. key indexes c)
    where
      rowid : (own : ℕ) (b : Bool) → nat_eq own item ≡ b → (if b then Some term.Rowid else None) ≡ None → nat_eq own 0 ≡ false
      rowid own true same is = absurd (cc)
      rowid own false same is = ap (nat_eq own) (sym first) ∙ same

      of_column : (own column : ℕ) (b : Bool) → nat_eq own item ≡ b → (if b then Some (term.Column column) else None) ≡ None → (nat_eq own 0 && list_any (begins_with c column) indexes) ≡ false
      of_column own column true same is = absurd (cc)
      of_column own column false same is = ap (λ b. b && list_any (begins_with c column) indexes) (ap (nat_eq own) (sym first) ∙ same)

-- ---- literals and parameters

-- by whether it is one
pub by_given : (params : List Value) (P : BoundExpr → Type 0) → ((l : _) → is_good (literal_out l) ≡ true → P (e.Literal l)) → ((n : ℕ) → is_good (parameter_of params n) ≡ true → P (e.Parameter n)) → (x : BoundExpr) → is_given params x ≡ true → P x
by_given params P literal parameter (e.Literal l) is = literal l is
by_given params P literal parameter (e.Parameter n) is = parameter n is
by_given params P literal parameter (e.Column item place) is = absurd (differ (sym is))
by_given params P literal parameter (e.Rowid item) is = absurd (differ (sym is))
by_given params P literal parameter (e.Argument n) is = absurd (differ (sym is))
by_given params P literal parameter (e.Aggregate n) is = absurd (differ (sym is))
by_given params P literal parameter (e.Unary o a) is = absurd (differ (sym is))
by_given params P literal parameter (e.Binary o a b) is = absurd (differ (sym is))
by_given params P literal parameter (e.LikeEscaped a b c) is = absurd (differ (sym is))
by_given params P literal parameter (e.Between s u a low high) is = absurd (differ (sym is))
by_given params P literal parameter (e.InList s a others) is = absurd (differ (sym is))
by_given params P literal parameter (e.ChooseArm arms last) is = absurd (differ (sym is))
by_given params P literal parameter (e.MatchArm a arms last) is = absurd (differ (sym is))
by_given params P literal parameter (e.Iif a b c) is = absurd (differ (sym is))
by_given params P literal parameter (e.CoalesceList f args) is = absurd (differ (sym is))
by_given params P literal parameter (e.CallBuiltin f c args) is = absurd (differ (sym is))
by_given params P literal parameter (e.CallHost name args) is = absurd (differ (sym is))
by_given params P literal parameter (e.ScalarOf unit handed) is = absurd (differ (sym is))
by_given params P literal parameter (e.ExistsIn unit handed) is = absurd (differ (sym is))
by_given params P literal parameter (e.InUnit s a unit handed) is = absurd (differ (sym is))
by_given params P literal parameter e.RaiseIgnore is = absurd (differ (sym is))
by_given params P literal parameter (e.RaiseAbort text) is = absurd (differ (sym is))

pub given-ignores : (params : List Value) (item : ℕ) (x : BoundExpr) → is_given params x ≡ true → ignores item x ≡ true
given-ignores params item = by_given params (λ x. ignores item x ≡ true) (λ l is. refl) (λ n is. refl)

pub given-source : (params : List Value) (item : ℕ) (x : BoundExpr) → is_given params x ≡ true → source_of item x ≡ None
given-source params item = by_given params (λ x. source_of item x ≡ None) (λ l is. refl) (λ n is. refl)

pub given-good : (params : List Value) (env : Environment) → env.params ≡ params → (a : BoundExpr) → is_given params a ≡ true → is_good (value_of a env) ≡ true
given-good params env same = by_given params (λ a. is_good (value_of a env) ≡ true) (λ l is. is) (λ n is. ap (λ ps. is_good (parameter_of ps n)) same ∙ is)

-- ---- the term of a key

same_built_is : (a b : Built) → same_built a b ≡ true → a ≡ b
same_built_is built.Binary built.Binary is = refl
same_built_is built.Binary built.NoCase is = absurd (differ (sym is))
same_built_is built.Binary built.Rtrim is = absurd (differ (sym is))
same_built_is built.NoCase built.Binary is = absurd (differ (sym is))
same_built_is built.NoCase built.NoCase is = refl
same_built_is built.NoCase built.Rtrim is = absurd (differ (sym is))
same_built_is built.Rtrim built.Binary is = absurd (differ (sym is))
same_built_is built.Rtrim built.NoCase is = absurd (differ (sym is))
same_built_is built.Rtrim built.Rtrim is = refl

collation_compares : (hosts : HostMeanings) (c : Collation) (own : Built) (v w : Value) → is_collation c own ≡ true → compare own v w ≡ compare_by (keys_of hosts c) v w
collation_compares hosts (collation.Built b) own v w is = ap (λ k. compare k v w) (sym (same_built_is b own is))
collation_compares hosts (collation.Host place) own v w is = absurd (differ (sym is))

-- an integer is compared alike under all collations
integer_compares : (own other : List ℕ → List ℕ) (n : _) (w : Value) → compare_by own (Integer n) w ≡ compare_by other (Integer n) w
integer_compares own other n Null = refl
integer_compares own other n (Integer m) = refl
integer_compares own other n (Text t) = refl
integer_compares own other n (Blob t) = refl

-- what the term and the comparison read of a row, and how they compare it
pub record ReadsAlike (hosts : HostMeanings) (source : TermSource) (c : Collation) (t : KeyTerm) (r : StoredRow) : Type 0 where
  pub value : term_value t r ≡ source_value source r
  pub alike : (v : Value) → compare t.collation (source_value source r) v ≡ compare_by (keys_of hosts c) (source_value source r) v

pub reads_alike : (hosts : HostMeanings) (source : TermSource) (c : Collation) (t : KeyTerm) (r : StoredRow) → reads_same source c t t.source ≡ true → ReadsAlike hosts source c t r
reads_alike hosts source c t r = by source t.source refl
  where
    by : (source own : TermSource) → t.source ≡ own → reads_same source c t own ≡ true → ReadsAlike hosts source c t r
    by term.Rowid term.Rowid same is = record { value = ap (λ (s : TermSource). source_value s r) same; alike = λ v. integer_compares _ _ r.rowid v }
    by term.Rowid (term.Column other) same is = absurd (differ (sym is))
    by (term.Column own) term.Rowid same is = absurd (differ (sym is))
    by (term.Column own) (term.Column other) same is =
        let parts = both_true (nat_eq own other) (is_collation c t.collation) is in
        record { value = ap (λ (s : TermSource). source_value s r) same ∙ sym (ap (λ k. source_value (term.Column k) r) (same_number own other parts.0)); alike = λ v. collation_compares hosts c t.collation _ v parts.1 }
