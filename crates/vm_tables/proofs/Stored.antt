-- The rows of a tree's pairs: what the tree finds, puts and takes out, as rows.
use Rattle.std.proofs.Common.{◌≡◌, ℕ, zero, suc, ◌-◌, List, [], ◌∷◌, ◌++◌, true, false, not, cond, Some, None, Option, Ok, ℤ, pos, ◌+ℤ◌, ◌<ℤ◌, int_lt, int_le, length, is_some, if◌then◌else◌, refl, sym, ◌∙◌, ap, subst, arith, append-nil, append_assoc}
use Rattle.std.specs.Prelude.{slice_get}
use Rattle.std.specs.Option.{option_map}
use Rattle.std.specs.Ordering.{int_cmp, int_eq}
use Rattle.std.specs.declared.cmp.Ordering.TheVariants.{Less, Equal, Greater}
use Rattle.std.specs.declared.cmp.Ordering.{Ordering}
use Rattle.std.proofs.lemmas.Int.{ints}
use Rattle.std.proofs.lemmas.List.{length-map}
use Rattle.eng_key.specs.Rowids.{IsRowid, least_rowid, rowid_key, rowid_of}
use Rattle.eng_key.proofs.RowidLaws.{keys_keep_the_order, rowid_comes_back}
use Rattle.eng_record.specs.Spelling.{spelling}
use Rattle.eng_record.specs.Reading.{reading}
use Rattle.eng_tree.specs.Map.{Bytes, Pair, order, by_order, find, greatest, least_from, put, without}
use Rattle.eng_tree.specs.Map.{IsBelow as IsBelowKeys, IsAscending as AreAscendingKeys}
use Rattle.eng_tree.proofs.Laws.{by_cases, ascending_put, ascending_without}
use Rattle.eng_tree.proofs.Places.{greatest_at_end}
use Rattle.eng_value.specs.StoredRows.{StoredRow, IsAscending, rowid_behind}
use Rattle.eng_value.specs.declared.limits.TheConstants.{MAX_ROWID}
use Rattle.vm_code.specs.Machine.{row_under, row_behind, put_row}
use Rattle.vm_tables.specs.Changes.{drop_row}
use Rattle.vm_code.proofs.Rows.{All-head, All-tail, All-cons, All-nil, All-by, lt_trans, IsBelow, ascending_nil, ascending_cons, ascending_head, ascending_tail, lt_is, lt_back, eq_self, eq_below, row_under-between, row_behind-between, first_of}
use Rattle.vm_tables.specs.Rows.{on_row, values_of}
use Rattle.vm_tables.proofs.RowsLess.{drop_row-absent}
use Rattle.vm_tables.specs.Stored.{pair_of, row_of, rows_in, row_from, IsKept, AreKept, IsRecord, IsStored}

-- ---- integers

less : (a b : ℤ) → int_cmp a b ≡ Less → a <ℤ b
less a b e = grind (arith, ints)

same : (a b : ℤ) → int_cmp a b ≡ Equal → a ≡ b
same a b e = grind (arith, ints)

greater : (a b : ℤ) → int_cmp a b ≡ Greater → b <ℤ a
greater a b e = grind (arith, ints)

-- no row has a rowid below those of all
pub absent_below : (rows : List StoredRow) (n : ℤ) → IsBelow n rows → row_under rows n ≡ None
absent_below [] n low = refl
absent_below (x ∷ xs) n low =
    let lt : n <ℤ x.rowid = All-head (λ (y : StoredRow). n <ℤ y.rowid) x xs low in
    let ne : int_eq x.rowid n ≡ false = grind (arith, ints) in
    ap (λ b. cond b (Some x) (row_under xs n)) ne ∙ absent_below xs n (All-tail (λ (y : StoredRow). n <ℤ y.rowid) x xs low)

below_all : (n : ℤ) (x : StoredRow) (xs : List StoredRow) → n <ℤ x.rowid → IsAscending (x ∷ xs) → IsBelow n (x ∷ xs)
below_all n x xs lt up =
    All-cons (λ (y : StoredRow). n <ℤ y.rowid) x xs lt (All-by (λ (y : StoredRow). x.rowid <ℤ y.rowid) (λ (y : StoredRow). n <ℤ y.rowid) (λ y h. lt_trans n x.rowid y.rowid lt h) xs (ascending_head x xs up))

-- ---- pairs

-- the rowid of a pair that was found, if one was
abbrev pub on_pair : Option Pair → Option ℤ
on_pair None = None
on_pair (Some p) = rowid_of p.0

pub rowid_is : (p : Pair) → IsKept p → rowid_of p.0 ≡ Some (row_of p).rowid
rowid_is p kept = ap (λ (q : Pair). rowid_of q.0) kept.pair ∙ rowid_comes_back (row_of p).rowid kept.rowid

-- a pair of keys stand to one another as their rows' rowids
pairs_in_order : (p q : Pair) → IsKept p → IsKept q → order p.0 q.0 ≡ int_cmp (row_of p).rowid (row_of q).rowid
pairs_in_order p q kept_p kept_q =
    ap (λ (r : Pair). order r.0 q.0) kept_p.pair
    ∙ ap (λ (r : Pair). order (rowid_key (row_of p).rowid) r.0) kept_q.pair
    ∙ keys_keep_the_order (row_of p).rowid (row_of q).rowid kept_p.rowid kept_q.rowid

below_rows : (p : Pair) (qs : List Pair) → IsKept p → AreKept qs → IsBelowKeys p.0 qs → IsAscending (rows_in qs) → IsBelow (row_of p).rowid (rows_in qs)
below_rows p [] kept k h up = All-nil (λ (y : StoredRow). (row_of p).rowid <ℤ y.rowid)
below_rows p (q ∷ qs) kept k h up =
    below_all (row_of p).rowid (row_of q) (rows_in qs) (less (row_of p).rowid (row_of q).rowid (sym (pairs_in_order p q kept k.0) ∙ h)) up

pub ascending_rows : (ps : List Pair) → AreKept ps → AreAscendingKeys ps → IsAscending (rows_in ps)
ascending_rows [] kept up = ascending_nil
ascending_rows (p ∷ ps) kept up =
    let rest = ascending_rows ps kept.1 up.1 in
    ascending_cons (row_of p) (rows_in ps) (below_rows p ps kept.0 kept.1 up.0 rest) rest

pub stored_ascends : (ps : List Pair) → IsStored ps → IsAscending (rows_in ps)
stored_ascends ps stored = ascending_rows ps stored.0 stored.1

pub some_mapped : {A B : Type 0} (f : A → B) (o : Option A) → is_some o ≡ is_some (option_map f o)
some_mapped f None = refl
some_mapped f (Some x) = refl

-- ---- what is found

module _ (n : ℤ) (is : IsRowid n) where
  order_as : (p : Pair) (o : Ordering) → IsKept p → int_cmp (row_of p).rowid n ≡ o → order p.0 (rowid_key n) ≡ o
  order_as p o kept e =
      ap (λ (q : Pair). order q.0 (rowid_key n)) kept.pair
      ∙ keys_keep_the_order (row_of p).rowid n kept.rowid is
      ∙ e

  -- the value of the key is the record of the row under the rowid
  pub found_row : (ps : List Pair) (v : Bytes) → AreKept ps → find (rowid_key n) ps ≡ Some v → (r : StoredRow) × (row_under (rows_in ps) n ≡ Some r) × (reading v ≡ Ok r.values)
  found_row [] v kept e = absurd (cc)
  found_row (p ∷ ps) v kept e =
      let r = row_of p in
      by_cases (int_cmp r.rowid n)
      (λ b.
      let f : find (rowid_key n) ps ≡ Some v = ap (λ o. by_order o (find (rowid_key n) ps) (Some p.1) None) (sym (order_as p Less kept.0 b)) ∙ e in
      let more = found_row ps v kept.1 f in
      (more.0, ap (λ t. cond t (Some r) (row_under (rows_in ps) n)) (eq_below r.rowid n (less r.rowid n b)) ∙ more.1, more.2))
      (λ s.
      let f : Some p.1 ≡ Some v = ap (λ o. by_order o (find (rowid_key n) ps) (Some p.1) None) (sym (order_as p Equal kept.0 s)) ∙ e in
      let value : p.1 ≡ v = cc in
      let this : int_eq r.rowid n ≡ true = ap (int_eq r.rowid) (sym (same r.rowid n s)) ∙ eq_self r.rowid in
      (r, ap (λ t. cond t (Some r) (row_under (rows_in ps) n)) this, ap reading (sym value) ∙ kept.0.values))
      (λ a.
      let f : None ≡ Some v = ap (λ o. by_order o (find (rowid_key n) ps) (Some p.1) None) (sym (order_as p Greater kept.0 a)) ∙ e in
      absurd (cc))

  absent_row : (ps : List Pair) → AreKept ps → IsAscending (rows_in ps) → find (rowid_key n) ps ≡ None → row_under (rows_in ps) n ≡ None
  absent_row [] kept up e = refl
  absent_row (p ∷ ps) kept up e =
      let r = row_of p in
      by_cases (int_cmp r.rowid n)
      (λ b.
      let f : find (rowid_key n) ps ≡ None = ap (λ o. by_order o (find (rowid_key n) ps) (Some p.1) None) (sym (order_as p Less kept.0 b)) ∙ e in
      ap (λ t. cond t (Some r) (row_under (rows_in ps) n)) (eq_below r.rowid n (less r.rowid n b))
      ∙ absent_row ps kept.1 (ascending_tail r (rows_in ps) up) f)
      (λ s.
      let f : Some p.1 ≡ None = ap (λ o. by_order o (find (rowid_key n) ps) (Some p.1) None) (sym (order_as p Equal kept.0 s)) ∙ e in
      absurd (cc))
      (λ a. absent_below (r ∷ rows_in ps) n (below_all n r (rows_in ps) (greater r.rowid n a) up))

  pub found_none : (ps : List Pair) → IsStored ps → find (rowid_key n) ps ≡ None → row_under (rows_in ps) n ≡ None
  found_none ps stored e = absent_row ps stored.0 (stored_ascends ps stored) e

  -- the value of the key is the record of the row, if there is one
  pub found_record : (ps : List Pair) → IsStored ps → IsRecord (find (rowid_key n) ps) (row_under (rows_in ps) n)
  found_record ps stored = by (find (rowid_key n) ps) refl
    where
      by : (o : Option Bytes) → find (rowid_key n) ps ≡ o → IsRecord o (row_under (rows_in ps) n)
      by None e = found_none ps stored e
      by (Some v) e = found_row ps v stored.0 e

  -- the key is there where there is a row
  pub found_some : (ps : List Pair) → IsStored ps → is_some (find (rowid_key n) ps) ≡ is_some (row_under (rows_in ps) n)
  found_some ps stored = by (find (rowid_key n) ps) refl
    where
      by : (o : Option Bytes) → find (rowid_key n) ps ≡ o → is_some o ≡ is_some (row_under (rows_in ps) n)
      by None e = ap is_some (sym (found_none ps stored e))
      by (Some v) e = ap is_some (sym (found_row ps v stored.0 e).1)

  -- a key is free where there is no row
  pub free_key : (ps : List Pair) → AreKept ps → row_under (rows_in ps) n ≡ None → find (rowid_key n) ps ≡ None
  free_key ps kept free = by (find (rowid_key n) ps) refl
    where
      by : (o : Option Bytes) → find (rowid_key n) ps ≡ o → o ≡ None
      by None e = refl
      by (Some v) e = let there = (found_row ps v kept e).1 in absurd (cc)

  -- the least key not below is that of the first row not below
  pub sought_row : (ps : List Pair) → AreKept ps → on_pair (least_from (rowid_key n) ps) ≡ on_row (row_from (rows_in ps) n)
  sought_row [] kept = refl
  sought_row (p ∷ ps) kept =
      let r = row_of p in
      let here : int_le n r.rowid ≡ true → on_pair (Some p) ≡ on_row (row_from (r ∷ rows_in ps) n) = (λ le. rowid_is p kept.0 ∙ ap (λ t. on_row (cond t (Some r) (row_from (rows_in ps) n))) (sym le)) in
      by_cases (int_cmp r.rowid n)
      (λ b.
      let past : int_le n r.rowid ≡ false = grind (arith, ints) in
      ap (λ o. on_pair (by_order o (least_from (rowid_key n) ps) (Some p) (Some p))) (order_as p Less kept.0 b)
      ∙ sought_row ps kept.1
      ∙ ap (λ t. on_row (cond t (Some r) (row_from (rows_in ps) n))) (sym past))
      (λ s.
      let le : int_le n r.rowid ≡ true = grind (arith, ints) in
      ap (λ o. on_pair (by_order o (least_from (rowid_key n) ps) (Some p) (Some p))) (order_as p Equal kept.0 s) ∙ here le)
      (λ a.
      let le : int_le n r.rowid ≡ true = grind (arith, ints) in
      ap (λ o. on_pair (by_order o (least_from (rowid_key n) ps) (Some p) (Some p))) (order_as p Greater kept.0 a) ∙ here le)

-- a pair in a place is that of a row in this place
pub kept_at : (ps : List Pair) (i : ℕ) (p : Pair) → AreKept ps → slice_get ps i ≡ Some p → IsKept p × (slice_get (rows_in ps) i ≡ Some (row_of p))
kept_at [] i p kept e = absurd (cc)
kept_at (q ∷ qs) zero p kept e = let same : q ≡ p = cc in (subst IsKept same kept.0, ap (λ x. Some (row_of x)) same)
kept_at (q ∷ qs) (suc i) p kept e = kept_at qs i p kept.1 e

-- the pair in a place is that of the row in this place
pub in_place : (ps : List Pair) (i : ℕ) → AreKept ps → on_pair (slice_get ps i) ≡ on_row (slice_get (rows_in ps) i)
in_place [] i kept = refl
in_place (p ∷ ps) zero kept = rowid_is p kept.0
in_place (p ∷ ps) (suc i) kept = in_place ps i kept.1

pub last_row : (ps : List Pair) → AreKept ps → on_pair (greatest ps) ≡ on_row (slice_get (rows_in ps) (length (rows_in ps) - 1))
last_row ps kept =
    ap on_pair (greatest_at_end ps)
    ∙ in_place ps (length ps - 1) kept
    ∙ ap (λ i. on_row (slice_get (rows_in ps) (i - 1))) (sym (length-map ps row_of))

-- ---- searches as the machine over lists makes them

pub first_row : (ps : List Pair) → AreKept ps → row_from (rows_in ps) least_rowid ≡ slice_get (rows_in ps) 0
first_row [] kept = refl
first_row (p ∷ ps) kept =
    let r = row_of p in
    let fits = kept.0.rowid in
    let le : int_le least_rowid r.rowid ≡ true = grind (arith, ints, fits) in
    ap (λ t. cond t (Some r) (row_from (rows_in ps) least_rowid)) le

pub behind_row : (rows : List StoredRow) (n : ℤ) → row_from rows (n +ℤ pos 1) ≡ row_behind rows n
behind_row [] n = refl
behind_row (r ∷ rs) n =
    let e : int_le (n +ℤ pos 1) r.rowid ≡ int_lt n r.rowid = grind (arith, ints) in
    ap (λ t. cond t (Some r) (row_from rs (n +ℤ pos 1))) e ∙ ap (cond (int_lt n r.rowid) (Some r)) (behind_row rs n)

pub none_behind : (ps : List Pair) (n : ℤ) → AreKept ps → int_le MAX_ROWID n ≡ true → row_behind (rows_in ps) n ≡ None
none_behind [] n kept h = refl
none_behind (p ∷ ps) n kept h =
    let r = row_of p in
    let fits = kept.0.rowid in
    let past : int_lt n r.rowid ≡ false = grind (arith, ints, fits) in
    ap (λ t. cond t (Some r) (row_behind (rows_in ps) n)) past ∙ none_behind ps n kept.1 h

-- ---- a row more

module _ (r : StoredRow) (v : Bytes) (is : IsRowid r.rowid) (spelled : v ≡ spelling r.values) (read : reading v ≡ Ok r.values) where
  new_row : row_of (rowid_key r.rowid, v) ≡ r
  new_row = rw (rowid_comes_back r.rowid is, read) refl

  new_kept : IsKept (rowid_key r.rowid, v)
  new_kept = record {
    rowid = subst (λ (x : StoredRow). IsRowid x.rowid) (sym new_row) is;
    pair = ap (λ s. (rowid_key r.rowid, s)) spelled ∙ ap pair_of (sym new_row);
    values = read ∙ ap (λ (x : StoredRow). Ok x.values) (sym new_row);
  }

  put_kept : (ps : List Pair) → AreKept ps → AreKept (put (rowid_key r.rowid) v ps)
  put_kept [] kept = (new_kept, tt)
  put_kept (p ∷ ps) kept =
      by_cases (order p.0 (rowid_key r.rowid))
      (λ b. rw b (kept.0, put_kept ps kept.1))
      (λ s. rw s (new_kept, kept.1))
      (λ a. rw a (new_kept, kept))

  pub stored_put : (ps : List Pair) → IsStored ps → IsStored (put (rowid_key r.rowid) v ps)
  stored_put ps stored = (put_kept ps stored.0, ascending_put (rowid_key r.rowid) v ps stored.1)

  pub put_rows : (ps : List Pair) → AreKept ps → find (rowid_key r.rowid) ps ≡ None → rows_in (put (rowid_key r.rowid) v ps) ≡ put_row (rows_in ps) r
  put_rows [] kept e = ap (λ x. x ∷ []) new_row
  put_rows (p ∷ ps) kept e =
      let x = row_of p in
      let n = r.rowid in
      by_cases (int_cmp x.rowid n)
      (λ b.
      let o = order_as n is p Less kept.0 b in
      let f : find (rowid_key n) ps ≡ None = ap (λ o. by_order o (find (rowid_key n) ps) (Some p.1) None) (sym o) ∙ e in
      ap (λ o. rows_in (by_order o (p ∷ put (rowid_key n) v ps) ((rowid_key n, v) ∷ ps) ((rowid_key n, v) ∷ (p ∷ ps)))) o
      ∙ ap (λ l. x ∷ l) (put_rows ps kept.1 f)
      ∙ ap (λ t. if t then r ∷ x ∷ rows_in ps else x ∷ put_row (rows_in ps) r) (sym (lt_back x.rowid n (less x.rowid n b))))
      (λ s.
      let f : Some p.1 ≡ None = ap (λ o. by_order o (find (rowid_key n) ps) (Some p.1) None) (sym (order_as n is p Equal kept.0 s)) ∙ e in
      absurd (cc))
      (λ a.
      ap (λ o. rows_in (by_order o (p ∷ put (rowid_key n) v ps) ((rowid_key n, v) ∷ ps) ((rowid_key n, v) ∷ (p ∷ ps)))) (order_as n is p Greater kept.0 a)
      ∙ ap (λ y. y ∷ x ∷ rows_in ps) new_row
      ∙ ap (λ t. if t then r ∷ x ∷ rows_in ps else x ∷ put_row (rows_in ps) r) (sym (lt_is n x.rowid (greater x.rowid n a))))

-- ---- a row less

without_kept : (k : Bytes) (ps : List Pair) → AreKept ps → AreKept (without k ps)
without_kept k [] kept = tt
without_kept k (p ∷ ps) kept =
    by_cases (order p.0 k) (λ b. rw b (kept.0, without_kept k ps kept.1)) (λ s. rw s kept.1) (λ a. rw a kept)

pub stored_without : (k : Bytes) (ps : List Pair) → IsStored ps → IsStored (without k ps)
stored_without k ps stored = (without_kept k ps stored.0, ascending_without k ps stored.1)

rows_without : (n : ℤ) (ps : List Pair) → IsRowid n → AreKept ps → IsAscending (rows_in ps) → rows_in (without (rowid_key n) ps) ≡ drop_row (rows_in ps) n
rows_without n [] is kept up = refl
rows_without n (p ∷ ps) is kept up =
    let r = row_of p in
    by_cases (int_cmp r.rowid n)
    (λ b.
    ap (λ o. rows_in (by_order o (p ∷ without (rowid_key n) ps) ps (p ∷ ps))) (order_as n is p Less kept.0 b)
    ∙ ap (λ l. r ∷ l) (rows_without n ps is kept.1 (ascending_tail r (rows_in ps) up))
    ∙ ap (λ t. cond (not t) (r ∷ drop_row (rows_in ps) n) (drop_row (rows_in ps) n)) (sym (eq_below r.rowid n (less r.rowid n b))))
    (λ s.
    let this : int_eq r.rowid n ≡ true = ap (int_eq r.rowid) (sym (same r.rowid n s)) ∙ eq_self r.rowid in
    let low : IsBelow n (rows_in ps) = subst (λ m. IsBelow m (rows_in ps)) (same r.rowid n s) (ascending_head r (rows_in ps) up) in
    ap (λ o. rows_in (by_order o (p ∷ without (rowid_key n) ps) ps (p ∷ ps))) (order_as n is p Equal kept.0 s)
    ∙ sym (drop_row-absent (rows_in ps) n (absent_below (rows_in ps) n low))
    ∙ ap (λ t. cond (not t) (r ∷ drop_row (rows_in ps) n) (drop_row (rows_in ps) n)) (sym this))
    (λ a.
    ap (λ o. rows_in (by_order o (p ∷ without (rowid_key n) ps) ps (p ∷ ps))) (order_as n is p Greater kept.0 a)
    ∙ sym (drop_row-absent (r ∷ rows_in ps) n (absent_below (r ∷ rows_in ps) n (below_all n r (rows_in ps) (greater r.rowid n a) up))))

pub without_rows : (n : ℤ) (ps : List Pair) → IsRowid n → IsStored ps → rows_in (without (rowid_key n) ps) ≡ drop_row (rows_in ps) n
without_rows n ps is stored = rows_without n ps is stored.0 (stored_ascends ps stored)

-- ---- the rowid behind the last row

pub behind_none : (last : Option StoredRow) → on_row last ≡ None → rowid_behind last ≡ Some (pos 1)
behind_none None e = refl
behind_none (Some r) e = absurd (cc)

pub behind_some : (last : Option StoredRow) (n : ℤ) → on_row last ≡ Some n → rowid_behind last ≡ (if int_le MAX_ROWID n then None else Some (n +ℤ pos 1))
behind_some None n e = absurd (cc)
behind_some (Some r) n e = let this : r.rowid ≡ n = cc in ap (λ m. if int_le MAX_ROWID m then None else Some (m +ℤ pos 1)) this

-- ---- going over the rows

-- behind the rows that were gone over stand others, of which the first has this rowid
pub record Remains (all done : List StoredRow) (next : Option ℤ) : Type 0 where
  pub rest : List StoredRow
  pub parts : all ≡ done ++ rest
  pub first : next ≡ on_row (slice_get rest 0)

pub none_remain : (all done : List StoredRow) → Remains all done None → done ≡ all
none_remain all done left = by left.rest left.parts left.first
  where
    by : (rest : List StoredRow) → all ≡ done ++ rest → None ≡ on_row (slice_get rest 0) → done ≡ all
    by [] parts e = sym (parts ∙ append-nil done)
    by (r ∷ rs) parts e = absurd (cc)

-- the first that remains, and the others
pub record Goes (all done : List StoredRow) (n : ℤ) : Type 0 where
  pub row : StoredRow
  pub rest : List StoredRow
  pub parts : all ≡ done ++ row ∷ rest
  pub rowid : row.rowid ≡ n

pub goes : (all done : List StoredRow) (n : ℤ) → Remains all done (Some n) → Goes all done n
goes all done n left = by left.rest left.parts left.first
  where
    by : (rest : List StoredRow) → all ≡ done ++ rest → Some n ≡ on_row (slice_get rest 0) → Goes all done n
    by [] parts e = absurd (cc)
    by (r ∷ rs) parts e = record { row = r; rest = rs; parts = parts; rowid = cc }

module _ (all done : List StoredRow) (n : ℤ) (up : IsAscending all) (left : Remains all done (Some n)) where
  abbrev g : Goes all done n
  g = goes all done n left

  split_up : IsAscending (done ++ g.row ∷ g.rest)
  split_up = subst IsAscending g.parts up

  pub this_row : row_under all n ≡ Some g.row
  this_row =
      ap (row_under all) (sym g.rowid)
      ∙ ap (λ l. row_under l g.row.rowid) g.parts
      ∙ row_under-between done g.row g.rest split_up

  row_is : (r : StoredRow) → r.rowid ≡ n → r.values ≡ values_of (row_under all n) → r ≡ g.row
  row_is r rowid values =
      let same_rowid : r.rowid ≡ g.row.rowid = rowid ∙ sym g.rowid in
      let same_values : r.values ≡ g.row.values = values ∙ ap values_of this_row in
      λ i. record { rowid = same_rowid i; values = same_values i }

  pub one_more : (r : StoredRow) (next : Option ℤ) → r.rowid ≡ n → r.values ≡ values_of (row_under all n) → next ≡ on_row (row_behind all n) → Remains all (done ++ r ∷ []) next
  one_more r next rowid values behind = record {
    rest = g.rest;
    parts = g.parts ∙ ap (λ x. done ++ x ∷ g.rest) (sym (row_is r rowid values)) ∙ sym (append_assoc done (r ∷ []) g.rest);
    first =
        behind
        ∙ ap (λ m. on_row (row_behind all m)) (sym g.rowid)
        ∙ ap (λ l. on_row (row_behind l g.row.rowid)) g.parts
        ∙ ap on_row (row_behind-between done g.row g.rest split_up)
        ∙ first_is g.rest;
  }
    where
      first_is : (rows : List StoredRow) → on_row (first_of rows) ≡ on_row (slice_get rows 0)
      first_is [] = refl
      first_is (x ∷ xs) = refl
