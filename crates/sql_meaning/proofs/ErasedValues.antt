-- An expression as it reads rows that are stored, with NULL in place of what is ignored and the rowid in place of the column that is it, comes
-- over them to what the expression itself comes to over the rows as they are seen.
use Rattle.std.proofs.Common.{◌≡◌, ◌<◌, length, subst, ℕ, zero, suc, Bool, true, false, ◌||◌, List, [], ◌∷◌, Option, Some, None, map, refl, sym, ap, ◌∙◌}
use Rattle.std.specs.List.{list_any}
use Rattle.std.specs.Option.{option_map, option_to_list}
use Rattle.std.specs.Prelude.{nat_eq, slice_index_or, slice_set}
use Rattle.std.proofs.lemmas.Bool.{eq-eqb, eqb-true}
use Rattle.std.proofs.lemmas.List.{get_or-set_other, get_or-set_same, length-map, map-set}
use Rattle.bound_tree.specs.Exprs as e
use Rattle.bound_tree.specs.Exprs.{BoundArms, BoundExpr, BoundExprs, BoundMatches, NoExprs, AnExpr, NoArms, AnArm, NoMatches, AMatch}
use Rattle.bound_ignored.specs.Erased.{ItemMarks, Marks, column_or_rowid, erased, erased_arms, erased_in, erased_matches, is_marked, is_rowid, marks_at, or_null, same_place}
use Rattle.eng_value.specs.Applied.{binary_of, member_of, unary_of}
use Rattle.eng_value.specs.Collations.{keys_of}
use Rattle.eng_value.specs.Comparisons.{comparison_of, like_escaped_of}
use Rattle.eng_value.specs.Environments.{Environment, ItemRow, column_of, ignoring, null_row, row_at, table_row, without_column}
use Rattle.eng_value.specs.StoredRows.{StoredRow}
use Rattle.eng_value.specs.Truths.{choice_of, truth_in, truth_of}
use Rattle.eng_value.specs.declared.compare_op.CompareOp.TheVariants as compare
use Rattle.eng_value.specs.declared.out.Out.{Out}
use Rattle.eng_value.specs.declared.out.Out.TheVariants.{Good}
use Rattle.eng_value.specs.declared.value.Value.TheVariants as value
use Rattle.sql_meaning.specs.Expression.{arms_of, between_of, chosen_in, first_known, function_of, matched_in, matches_of, value_of, values_of}
use Rattle.sql_meaning.specs.World.{seen}
use Rattle.sql_meaning.proofs.RowidPlaces.{HasPlace}
use Rattle.sql_meaning.specs.Statement.{Item, after_conjunct, if_some, item_of, items_at, shown, sifted}

-- ---- what a row reads where columns are ignored

abbrev null_if : Bool → Out → Out
null_if true o = Good value.Null
null_if false o = o

null_if-or : (a b : Bool) (o : Out) → null_if b (null_if a o) ≡ null_if (a || b) o
null_if-or true true o = refl
null_if-or true false o = refl
null_if-or false b o = refl

set-same : (outs : List Out) (k : ℕ) → slice_index_or (slice_set outs k (Good value.Null)) k (Good value.Null) ≡ Good value.Null
set-same [] k = refl
set-same (o ∷ outs) zero = refl
set-same (o ∷ outs) (suc k) = set-same outs k

column-set : (outs : List Out) (k place : ℕ) → slice_index_or (slice_set outs place (Good value.Null)) k (Good value.Null) ≡ null_if (nat_eq k place) (slice_index_or outs k (Good value.Null))
column-set outs k place = by (nat_eq k place) refl
  where
    by : (b : Bool) → nat_eq k place ≡ b → slice_index_or (slice_set outs place (Good value.Null)) k (Good value.Null) ≡ null_if b (slice_index_or outs k (Good value.Null))
    by true is = ap (λ p. slice_index_or (slice_set outs p (Good value.Null)) k (Good value.Null)) (sym (eqb-true k place is)) ∙ set-same outs k
    by false is = get_or-set_other outs place k (Good value.Null) (Good value.Null) (λ same. let told : nat_eq k place ≡ true = eq-eqb k place same in let bad : true ≡ false = sym told ∙ is in absurd (cc))

column-without : (row : ItemRow) (k : ℕ) (place : Option ℕ) → column_of (without_column row place) k ≡ null_if (same_place (Some k) place) (column_of row k)
column-without row k None = refl
column-without row k (Some place) = column-set row.columns k place

rowid-without : (row : ItemRow) (place : Option ℕ) → (without_column row place).rowid ≡ null_if (same_place None place) row.rowid
rowid-without row None = refl
rowid-without row (Some place) = refl

causes-without : (row : ItemRow) (place : Option ℕ) → (without_column row place).causes ≡ row.causes
causes-without row None = refl
causes-without row (Some place) = refl

-- a column that is ignored reads NULL, and another what it read
pub column_of-ignoring : (places : List (Option ℕ)) (row : ItemRow) (k : ℕ) → column_of (ignoring places row) k ≡ null_if (list_any (same_place (Some k)) places) (column_of row k)
column_of-ignoring [] row k = refl
column_of-ignoring (place ∷ places) row k =
    column_of-ignoring places (without_column row place) k
    ∙ ap (null_if (list_any (same_place (Some k)) places)) (column-without row k place)
    ∙ null_if-or (same_place (Some k) place) (list_any (same_place (Some k)) places) (column_of row k)

pub rowid-ignoring : (places : List (Option ℕ)) (row : ItemRow) → (ignoring places row).rowid ≡ null_if (list_any (same_place None) places) row.rowid
rowid-ignoring [] row = refl
rowid-ignoring (place ∷ places) row =
    rowid-ignoring places (without_column row place)
    ∙ ap (null_if (list_any (same_place None) places)) (rowid-without row place)
    ∙ null_if-or (same_place None place) (list_any (same_place None) places) row.rowid

-- a row carries the same causes
pub causes-ignoring : (places : List (Option ℕ)) (row : ItemRow) → (ignoring places row).causes ≡ row.causes
causes-ignoring [] row = refl
causes-ignoring (place ∷ places) row = causes-ignoring places (without_column row place) ∙ causes-without row place

-- ---- what a row reads as it is seen

abbrev rowid_if : Bool → Out → Out → Out
rowid_if true rowid o = rowid
rowid_if false rowid o = o

-- so a row that is stored reads as another, where these are the marks of its item
pub record ReadsAs (k : ItemMarks) (row other : ItemRow) : Type 0 where
  pub column : (place : ℕ) → column_of other place ≡ null_if (list_any (same_place (Some place)) k.ignored) (rowid_if (same_place (Some place) k.rowid) row.rowid (column_of row place))
  pub rowid : other.rowid ≡ null_if (list_any (same_place None) k.ignored) row.rowid
  pub causes : other.causes ≡ row.causes

null_if-null : (b : Bool) → null_if b (Good value.Null) ≡ Good value.Null
null_if-null true = refl
null_if-null false = refl

rowid_if-same : (b : Bool) (o : Out) → rowid_if b o o ≡ o
rowid_if-same true o = refl
rowid_if-same false o = refl

-- where there is no row yet
pub null-reads : (k : ItemMarks) → ReadsAs k null_row null_row
null-reads k = record {
  column = λ place. sym (ap (null_if (list_any (same_place (Some place)) k.ignored)) (rowid_if-same (same_place (Some place) k.rowid) (Good value.Null)) ∙ null_if-null (list_any (same_place (Some place)) k.ignored));
  rowid = sym (null_if-null (list_any (same_place None) k.ignored));
  causes = refl;
}

set-read : (outs : List Out) (p k : ℕ) (o : Out) → p < length outs → slice_index_or (slice_set outs p o) k (Good value.Null) ≡ rowid_if (nat_eq k p) o (slice_index_or outs k (Good value.Null))
set-read outs p k o within = by (nat_eq k p) refl
  where
    by : (b : Bool) → nat_eq k p ≡ b → slice_index_or (slice_set outs p o) k (Good value.Null) ≡ rowid_if b o (slice_index_or outs k (Good value.Null))
    by true is = ap (λ n. slice_index_or (slice_set outs p o) n (Good value.Null)) (eqb-true k p is) ∙ get_or-set_same outs p o (Good value.Null) within
    by false is = get_or-set_other outs p k o (Good value.Null) (λ same. let told : nat_eq k p ≡ true = eq-eqb k p same in let bad : true ≡ false = sym told ∙ is in absurd (cc))

column-seen : (column : Option ℕ) (r : StoredRow) (k : ℕ) → HasPlace column r → column_of (table_row (seen column r)) k ≡ rowid_if (same_place (Some k) column) (Good (value.Integer r.rowid)) (column_of (table_row r) k)
column-seen None r k place = refl
column-seen (Some p) r k place =
    let v = value.Integer r.rowid in
    ap (λ outs. slice_index_or outs k (Good value.Null)) (map-set Good r.values p v) ∙ set-read (map Good r.values) p k (Good v) (subst (λ n. p < n) (sym (length-map r.values Good)) place)

-- a row of a table reads as it is seen, but for what is ignored
pub seen-reads : (ignored : List (Option ℕ)) (column : Option ℕ) (r : StoredRow) → HasPlace column r → ReadsAs (record { ignored = ignored; rowid = column }) (table_row r) (ignoring ignored (table_row (seen column r)))
seen-reads ignored column r place = record {
  column = λ k. column_of-ignoring ignored (table_row (seen column r)) k ∙ ap (null_if (list_any (same_place (Some k)) ignored)) (column-seen column r k place);
  rowid = rowid-ignoring ignored (table_row (seen column r));
  causes = causes-ignoring ignored (table_row (seen column r));
}

value_of-or_null : (b : Bool) (y : BoundExpr) (x : Environment) → value_of (or_null b y) x ≡ null_if b (value_of y x)
value_of-or_null true y x = refl
value_of-or_null false y x = refl

value_of-column : (b : Bool) (item place : ℕ) (x : Environment) → value_of (column_or_rowid b item place) x ≡ rowid_if b (row_at x item).rowid (column_of (row_at x item) place)
value_of-column true item place x = refl
value_of-column false item place x = refl

-- ---- expressions

three : (f : Out → Out → Out → Out) {a a' b b' c c' : Out} → a ≡ a' → b ≡ b' → c ≡ c' → f a b c ≡ f a' b' c'
three f {a} {a'} {b} {b'} {c} {c'} p q r = ap (λ o. f o b c) p ∙ ap (λ o. f a' o c) q ∙ ap (f a' b') r

if_some-same : (kept : Option Out) (f g : Out → Option Out) → ((o : Out) → f o ≡ g o) → if_some kept f ≡ if_some kept g
if_some-same None f g same = refl
if_some-same (Some o) f g same = same o

listed-same : (kept : Option Out) (f g : Out → Item) → ((o : Out) → f o ≡ g o) → option_to_list (option_map f kept) ≡ option_to_list (option_map g kept)
listed-same None f g same = refl
listed-same (Some o) f g same = ap (λ item. item ∷ []) (same o)

module _ (m : Marks) (x : Environment) (rows : List ItemRow) (reads : (item : ℕ) → ReadsAs (marks_at m item) (row_at x item) (slice_index_or rows item null_row)) where
  abbrev other : Environment
  other = record x { rows = rows }

  mutual
    pub value_of-erased : (y : BoundExpr) → value_of (erased m y) x ≡ value_of y other
    value_of-erased (e.Literal l) = refl
    value_of-erased (e.Parameter number) = refl
    value_of-erased (e.Column item place) =
        value_of-or_null (is_marked m item (Some place)) (column_or_rowid (is_rowid m item place) item place) x
        ∙ ap (null_if (is_marked m item (Some place))) (value_of-column (is_rowid m item place) item place x) ∙ sym ((reads item).column place)
    value_of-erased (e.Rowid item) =
        value_of-or_null (is_marked m item None) (e.Rowid item) x ∙ sym (reads item).rowid
    value_of-erased (e.Argument place) = refl
    value_of-erased (e.Aggregate slot) = refl
    value_of-erased (e.Unary op a) = ap (unary_of op) (value_of-erased a)
    value_of-erased (e.Binary op a b) =
        ap (λ o. binary_of (keys_of x.hosts) op o (value_of (erased m b) x)) (value_of-erased a)
        ∙ ap (binary_of (keys_of x.hosts) op (value_of a other)) (value_of-erased b)
    value_of-erased (e.LikeEscaped a b c) =
        three like_escaped_of (value_of-erased a) (value_of-erased b) (value_of-erased c)
    value_of-erased (e.Between above below a low high) =
        three (between_of (keys_of x.hosts) above below) (value_of-erased a) (value_of-erased low) (value_of-erased high)
    value_of-erased (e.InList sides a others) =
        ap (λ o. member_of (keys_of x.hosts) sides o (values_of (erased_in m others) x)) (value_of-erased a)
        ∙ ap (member_of (keys_of x.hosts) sides (value_of a other)) (values_of-erased others)
    value_of-erased (e.ChooseArm arms otherwise) = chosen-erased arms (value_of-erased otherwise)
    value_of-erased (e.MatchArm a arms otherwise) =
        matched-erased arms (value_of-erased a) (value_of-erased otherwise)
    value_of-erased (e.Iif a b c) =
        three choice_of (value_of-erased a) (value_of-erased b) (value_of-erased c)
    value_of-erased (e.CoalesceList f es) = ap first_known (values_of-erased es)
    value_of-erased (e.CallBuiltin f collation args) =
        ap (function_of (keys_of x.hosts) f collation) (values_of-erased args)
    value_of-erased (e.CallHost name args) = refl
    value_of-erased (e.ScalarOf unit args) = refl
    value_of-erased (e.ExistsIn unit args) = refl
    value_of-erased (e.InUnit sides a unit args) = refl
    value_of-erased e.RaiseIgnore = refl
    value_of-erased (e.RaiseAbort text) = refl

    values_of-erased : (es : BoundExprs) → values_of (erased_in m es) x ≡ values_of es other
    values_of-erased NoExprs = refl
    values_of-erased (AnExpr a rest) =
        ap (λ o. o ∷ values_of (erased_in m rest) x) (value_of-erased a)
        ∙ ap (λ l. value_of a other ∷ l) (values_of-erased rest)

    chosen-erased : (arms : BoundArms) {p q : Out} → p ≡ q → chosen_in x (arms_of (erased_arms m arms)) p ≡ chosen_in other (arms_of arms) q
    chosen-erased NoArms d = d
    chosen-erased (AnArm a b rest) d =
        three choice_of (value_of-erased a) (value_of-erased b) (chosen-erased rest d)

    matched-erased : (arms : BoundMatches) {t u p q : Out} → t ≡ u → p ≡ q → matched_in x t (matches_of (erased_matches m arms)) p ≡ matched_in other u (matches_of arms) q
    matched-erased NoMatches c d = d
    matched-erased (AMatch sides a b rest) {t} {u} c d =
        let compared : Out → Out → Out = λ o v. comparison_of (keys_of x.hosts) compare.Eq sides o v in
        let tested = ap (λ o. compared o (value_of (erased m a) x)) c ∙ ap (compared u) (value_of-erased a) in
        three choice_of tested (value_of-erased b) (matched-erased rest c d)

  -- ---- what a row is kept by, and what it shows

  pub sifted-erased : (conjuncts : List BoundExpr) (causes : Out) → sifted (map (erased m) conjuncts) x causes ≡ sifted conjuncts other causes
  sifted-erased [] causes = refl
  sifted-erased (c ∷ cs) causes =
      ap (λ o. if_some (after_conjunct causes (truth_in (truth_of o))) (sifted (map (erased m) cs) x)) (value_of-erased c)
      ∙ if_some-same (after_conjunct causes (truth_in (truth_of (value_of c other)))) (sifted (map (erased m) cs) x) (sifted cs other) (λ more. sifted-erased cs more)

  values-erased : (results : List BoundExpr) → map (λ r. value_of r x) (map (erased m) results) ≡ map (λ r. value_of r other) results
  values-erased [] = refl
  values-erased (r ∷ results) =
      ap (λ o. o ∷ map (λ r. value_of r x) (map (erased m) results)) (value_of-erased r)
      ∙ ap (λ l. value_of r other ∷ l) (values-erased results)

  pub shown-erased : (results : List BoundExpr) (causes : Out) → shown (map (erased m) results) x causes ≡ shown results other causes
  shown-erased results causes = ap (item_of causes) (values-erased results)

  pub items_at-erased : (conjuncts results : List BoundExpr) (causes : Out) → items_at (map (erased m) conjuncts) (map (erased m) results) x causes ≡ items_at conjuncts results other causes
  items_at-erased conjuncts results causes =
      ap (λ kept. option_to_list (option_map (shown (map (erased m) results) x) kept)) (sifted-erased conjuncts causes)
      ∙ listed-same (sifted conjuncts other causes) (shown (map (erased m) results) x) (shown results other) (λ more. shown-erased results more)
