-- What the tree of rows finds, and what is in the way of a row.
use Rattle.std.proofs.Common.{◌≡◌, ℕ, zero, suc, ◌≤◌, List, [], ◌∷◌, ◌++◌, Some, None, Option, Bool, true, false, ◌&&◌, cond, ℤ, int_eq, is_some, length, map, drop, refl, sym, ap, ap₂, ◌∙◌, subst, arith}
use Rattle.std.proofs.Math.Path.{fun_ext}
use Rattle.std.specs.Prelude.{slice_get}
use Rattle.std.specs.List.{filter, flat_map}
use Rattle.std.specs.Ordering.{int_cmp, is_eq}
use Rattle.std.specs.declared.cmp.Ordering.{Ordering}
use Rattle.std.proofs.lemmas.Int.{ints}
use Rattle.std.proofs.lemmas.List.{length-map}
use Rattle.eng_index.specs.Keys.{found, is_double, is_equal, is_within, key_values, row_in_way, source_value, term_value}
use Rattle.eng_index.specs.Stored.{row_under, rowids_of}
use Rattle.eng_index.specs.declared.key_term.KeyTerm.{KeyTerm}
use Rattle.eng_index.specs.declared.key_term.TermSource.TheVariants.{Rowid}
use Rattle.eng_index.specs.declared.range.Limit.{Limit}
use Rattle.eng_index.specs.declared.range.Range.{Range}
use Rattle.eng_index.proofs.WithinFronts.{reverse_eq, turned}
use Rattle.eng_value.specs.Collations.{compare}
use Rattle.eng_value.specs.StoredRows.{StoredRow, IsAscending}
use Rattle.eng_value.specs.declared.value.Value.{Value}
use Rattle.eng_value.specs.declared.value.Value.TheVariants.{Null, Integer, Text, Blob}
use Rattle.vm_code.specs.Machine.{World, rows_of}
use Rattle.vm_code.proofs.Rows.{IsBelow, absent_head, absent_tail, ascending_head, ascending_tail}
use Rattle.vm_tables.proofs.Stored.{absent_below}
use Rattle.vm_tables.specs.Indexes.{SeeksRowid}
use Rattle.vm_tables.specs.Rows.{on_row}

-- ---- the row of a rowid

abbrev pub has_rowid : ℤ → StoredRow → Bool
has_rowid n r = int_eq r.rowid n

none_has : (rows : List StoredRow) (n : ℤ) → row_under rows n ≡ None → filter (has_rowid n) rows ≡ []
none_has [] n e = refl
none_has (x ∷ xs) n e =
    ap (λ b. cond b (x ∷ filter (has_rowid n) xs) (filter (has_rowid n) xs)) (absent_head x xs n e) ∙ none_has xs n (absent_tail x xs n e)

abbrev only_if : Bool → ℤ → List ℤ
only_if b n = cond b (n ∷ []) []

-- the rowids of the rows that have it: that one or none
rowids_under : (rows : List StoredRow) (n : ℤ) → IsAscending rows → rowids_of (filter (has_rowid n) rows) ≡ only_if (is_some (row_under rows n)) n
rowids_under [] n up = refl
rowids_under (x ∷ xs) n up = by (int_eq x.rowid n) refl (rowids_under xs n (ascending_tail x xs up))
  where
    by : (b : Bool) → int_eq x.rowid n ≡ b → rowids_of (filter (has_rowid n) xs) ≡ only_if (is_some (row_under xs n)) n → rowids_of (cond b (x ∷ filter (has_rowid n) xs) (filter (has_rowid n) xs)) ≡ only_if (is_some (cond b (Some x) (row_under xs n))) n
    by true is rest =
        let at : x.rowid ≡ n = grind (arith, ints) in
        let low : IsBelow n xs = subst (λ m. IsBelow m xs) at (ascending_head x xs up) in
        ap (λ m. m ∷ rowids_of (filter (has_rowid n) xs)) at ∙ ap (λ l. n ∷ rowids_of l) (none_has xs n (absent_below xs n low))
    by false is rest = rest

pub rowids_none : (rows : List StoredRow) (n : ℤ) → IsAscending rows → is_some (row_under rows n) ≡ false → rowids_of (filter (has_rowid n) rows) ≡ []
rowids_none rows n up e = rowids_under rows n up ∙ ap (λ b. only_if b n) e

pub rowids_one : (rows : List StoredRow) (n : ℤ) → IsAscending rows → is_some (row_under rows n) ≡ true → rowids_of (filter (has_rowid n) rows) ≡ n ∷ []
rowids_one rows n up e = rowids_under rows n up ∙ ap (λ b. only_if b n) e

pub count_none : (rows : List StoredRow) (n : ℤ) → IsAscending rows → is_some (row_under rows n) ≡ false → length (filter (has_rowid n) rows) ≡ 0
count_none rows n up e = sym (length-map (filter (has_rowid n) rows) (λ (r : StoredRow). r.rowid)) ∙ ap length (rowids_none rows n up e)

pub count_one : (rows : List StoredRow) (n : ℤ) → IsAscending rows → is_some (row_under rows n) ≡ true → length (filter (has_rowid n) rows) ≡ 1
count_one rows n up e = sym (length-map (filter (has_rowid n) rows) (λ (r : StoredRow). r.rowid)) ∙ ap length (rowids_one rows n up e)

-- ---- a range of one rowid

integers_equal : (t : KeyTerm) (a b : ℤ) → is_equal t (Integer a) (Integer b) ≡ int_eq a b
integers_equal t a b = by (int_cmp a b) refl
  where
    by : (o : Ordering) → int_cmp a b ≡ o → is_eq o ≡ int_eq a b
    by o is = grind (arith, ints)

and_true : (b : Bool) → (b && true) ≡ b
and_true true = refl
and_true false = refl

module _ (t : KeyTerm) (rest : List Value) (n : ℤ) (lower upper : Option Limit) (reads : t.source ≡ Rowid) where
  within_rowid : (r : StoredRow) → is_within (t ∷ []) (Integer n ∷ rest) lower upper r ≡ int_eq r.rowid n
  within_rowid r =
      ap (λ s. is_equal t (source_value s r) (Integer n) && true) reads ∙ ap (λ b. b && true) (integers_equal t r.rowid n) ∙ and_true (int_eq r.rowid n)

pub seeks : (terms : List KeyTerm) (range : Range) (t : KeyTerm) (n : ℤ) → slice_get terms 0 ≡ Some t → length terms ≡ 1 → t.source ≡ Rowid → slice_get range.equal 0 ≡ Some (Integer n) → SeeksRowid terms range n
seeks terms range t n first alone reads is rows = by terms range.equal first alone is
  where
    by : (ts : List KeyTerm) (equal : List Value) → slice_get ts 0 ≡ Some t → length ts ≡ 1 → slice_get equal 0 ≡ Some (Integer n) → filter (is_within ts equal range.lower range.upper) rows ≡ filter (has_rowid n) rows
    by [] equal f one e = absurd (omega arith)
    by (u ∷ us) [] f one e = absurd (cc)
    by (u ∷ v ∷ us) (w ∷ equal) f one e = absurd (omega arith)
    by (u ∷ []) (w ∷ equal) f one e =
        let same : u ≡ t = cc in
        let value : w ≡ Integer n = cc in
        ap (λ x. filter (is_within (x ∷ []) (w ∷ equal) range.lower range.upper) rows) same
        ∙ ap (λ x. filter (is_within (t ∷ []) (x ∷ equal) range.lower range.upper) rows) value
        ∙ ap (λ p. filter p rows) (fun_ext (within_rowid t equal n range.lower range.upper reads))

-- ---- rows that are equal in each term

null_equal : (t : KeyTerm) (v : Value) → is_equal t v Null ≡ false
null_equal t Null = refl
null_equal t (Integer n) = refl
null_equal t (Text text) = refl
null_equal t (Blob bytes) = refl

equal_turned : (t : KeyTerm) (v w : Value) → is_eq (compare t.collation v w) ≡ is_eq (compare t.collation w v)
equal_turned t v w = reverse_eq (compare t.collation v w) ∙ ap is_eq (sym (turned t.collation v w))

equal_back : (t : KeyTerm) (v w : Value) → is_equal t v w ≡ is_equal t w v
equal_back t Null w = sym (null_equal t w)
equal_back t (Integer n) Null = refl
equal_back t (Integer n) (Integer m) = equal_turned t (Integer n) (Integer m)
equal_back t (Integer n) (Text text) = equal_turned t (Integer n) (Text text)
equal_back t (Integer n) (Blob bytes) = equal_turned t (Integer n) (Blob bytes)
equal_back t (Text text) Null = refl
equal_back t (Text text) (Integer m) = equal_turned t (Text text) (Integer m)
equal_back t (Text text) (Text other) = equal_turned t (Text text) (Text other)
equal_back t (Text text) (Blob bytes) = equal_turned t (Text text) (Blob bytes)
equal_back t (Blob bytes) Null = refl
equal_back t (Blob bytes) (Integer m) = equal_turned t (Blob bytes) (Integer m)
equal_back t (Blob bytes) (Text text) = equal_turned t (Blob bytes) (Text text)
equal_back t (Blob bytes) (Blob others) = equal_turned t (Blob bytes) (Blob others)

within_double : (terms : List KeyTerm) (row r : StoredRow) → is_within terms (key_values terms row) None None r ≡ is_double terms row r
within_double [] row r = refl
within_double (t ∷ terms) row r = ap₂ (λ a b. a && b) (equal_back t (term_value t r) (term_value t row)) (within_double terms row r)

-- a search for the values of a row finds its doubles
pub found_doubles : (terms : List KeyTerm) (row : StoredRow) (range : Range) (rows : List StoredRow) → range ≡ record { equal = key_values terms row; lower = None; upper = None } → found terms range rows ≡ filter (is_double terms row) rows
found_doubles terms row range rows is = ap (λ x. found terms x rows) is ∙ ap (λ p. filter p rows) (fun_ext (within_double terms row))

pub first_rowid : (rows : List StoredRow) → slice_get (rowids_of rows) 0 ≡ on_row (slice_get rows 0)
first_rowid [] = refl
first_rowid (r ∷ rows) = refl

-- ---- the first row in the way

-- the first that is equal to a row in each term of one of these keys
abbrev pub first_double : List (List KeyTerm) → List StoredRow → StoredRow → Option StoredRow
first_double keys rows row = slice_get (flat_map (λ test. filter (test row) rows) (map is_double keys)) 0

first_kept : (xs more : List StoredRow) → is_some (on_row (slice_get xs 0)) ≡ true → on_row (slice_get (xs ++ more) 0) ≡ on_row (slice_get xs 0)
first_kept [] more e = absurd (cc)
first_kept (x ∷ xs) more e = refl

first_behind : (xs more : List StoredRow) → is_some (on_row (slice_get xs 0)) ≡ false → slice_get (xs ++ more) 0 ≡ slice_get more 0
first_behind [] more e = refl
first_behind (x ∷ xs) more e = absurd (cc)

first_has : (rows : List StoredRow) (n : ℤ) → is_some (row_under rows n) ≡ true → on_row (slice_get (filter (has_rowid n) rows) 0) ≡ Some n
first_has [] n e = absurd (cc)
first_has (x ∷ xs) n e = by (int_eq x.rowid n) refl (first_has xs n) e
  where
    by : (b : Bool) → int_eq x.rowid n ≡ b → (is_some (row_under xs n) ≡ true → on_row (slice_get (filter (has_rowid n) xs) 0) ≡ Some n) → is_some (cond b (Some x) (row_under xs n)) ≡ true → on_row (slice_get (cond b (x ∷ filter (has_rowid n) xs) (filter (has_rowid n) xs)) 0) ≡ Some n
    by true is rest f = ap Some (grind (arith, ints))
    by false is rest f = rest f

-- the row of its rowid
pub same_in_way : (keys : List (List KeyTerm)) (rows : List StoredRow) (row : StoredRow) → is_some (row_under rows row.rowid) ≡ true → on_row (row_in_way keys rows row) ≡ Some row.rowid
same_in_way keys rows row e =
    let first = first_has rows row.rowid e in
    first_kept (filter (has_rowid row.rowid) rows) (flat_map (λ test. filter (test row) rows) (map is_double keys)) (ap is_some first) ∙ first

not_some : (o : Option StoredRow) → is_some o ≡ false → o ≡ None
not_some None e = refl
not_some (Some r) e = absurd (cc)

-- and where there is none, the first double
pub double_in_way : (keys : List (List KeyTerm)) (rows : List StoredRow) (row : StoredRow) → is_some (row_under rows row.rowid) ≡ false → row_in_way keys rows row ≡ first_double keys rows row
double_in_way keys rows row e =
    ap (λ l. slice_get (l ++ flat_map (λ test. filter (test row) rows) (map is_double keys)) 0) (none_has rows row.rowid (not_some (row_under rows row.rowid) e))

-- no row is
pub no_rows : (w : World) (t : ℕ) → length w ≤ t → rows_of w t ≡ []
no_rows [] t le = refl
no_rows (x ∷ w) zero le = absurd (omega arith)
no_rows (x ∷ w) (suc t) le = no_rows w t (omega arith)

none_double : (keys : List (List KeyTerm)) (row : StoredRow) → flat_map (λ test. filter (test row) []) (map is_double keys) ≡ []
none_double [] row = refl
none_double (terms ∷ keys) row = none_double keys row

pub none_in_way : (keys : List (List KeyTerm)) (row : StoredRow) → row_in_way keys [] row ≡ None
none_in_way keys row = ap (λ l. slice_get l 0) (none_double keys row)

-- key by key
module _ (rows : List StoredRow) (row : StoredRow) where
  -- the first double by a key
  abbrev pub double_by : List KeyTerm → Option ℤ
  double_by terms = on_row (slice_get (filter (is_double terms row) rows) 0)

  abbrev more : List (List KeyTerm) → List StoredRow
  more keys = flat_map (λ test. filter (test row) rows) (map is_double keys)

  pub double_found : (keys : List (List KeyTerm)) (k : ℕ) (terms : List KeyTerm) → slice_get keys k ≡ Some terms → is_some (double_by terms) ≡ true → on_row (first_double (drop k keys) rows row) ≡ double_by terms
  double_found [] k terms is e = absurd (cc)
  double_found (x ∷ keys) zero terms is e =
      let same : terms ≡ x = cc in
      first_kept (filter (is_double x row) rows) (more keys) (ap (λ y. is_some (double_by y)) (sym same) ∙ e) ∙ ap double_by (sym same)
  double_found (x ∷ keys) (suc k) terms is e = double_found keys k terms is e

  pub double_missing : (keys : List (List KeyTerm)) (k : ℕ) (terms : List KeyTerm) → slice_get keys k ≡ Some terms → is_some (double_by terms) ≡ false → first_double (drop k keys) rows row ≡ first_double (drop (suc k) keys) rows row
  double_missing [] k terms is e = absurd (cc)
  double_missing (x ∷ keys) zero terms is e =
      let same : terms ≡ x = cc in
      first_behind (filter (is_double x row) rows) (more keys) (ap (λ y. is_some (double_by y)) (sym same) ∙ e)
  double_missing (x ∷ keys) (suc k) terms is e = double_missing keys k terms is e
