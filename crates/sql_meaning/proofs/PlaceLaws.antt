-- The rows of a table stay rows of it where one comes to the place of its rowid.
use Rattle.std.proofs.Common.{◌≡◌, suc, List, [], ◌∷◌, ◌++◌, slice_get, Bool, true, false, cond, is_some, ℤ, ◌<ℤ◌, int_eq, int_lt, if◌then◌else◌, All, refl, arith}
use Rattle.std.specs.List.{AllZip, filter}
use Rattle.std.proofs.lemmas.Int.{ints}
use Rattle.std.proofs.lemmas.List.Elements.{All-cons, All-head, All-nil, All-tail}
use Rattle.std.proofs.lemmas.List.Kept.{AllPairs-cons}
use Rattle.eng_number.specs.Numbers.{fits_integer}
use Rattle.eng_value.specs.StoredRows.{StoredRow, IsAscending}
use Rattle.eng_index.specs.Keys.{has_same_rowid, standing}
use Rattle.eng_index.specs.declared.key_term.KeyTerm.{KeyTerm}
use Rattle.sql_meaning.specs.declared.column.TableEntry.{TableEntry}
use Rattle.sql_meaning.specs.Rows.{is_met}
use Rattle.eng_index.specs.Stored.{put_row}
use Rattle.sql_meaning.specs.Valid.{AreRowsOf, IsHeldBy, IsRowOf}

abbrev Below : StoredRow → StoredRow → Type 0
Below a b = a.rowid <ℤ b.rowid

lt_trans : (a b c : ℤ) → a <ℤ b → b <ℤ c → a <ℤ c
lt_trans a b c h k = omega (arith, ints)

less : (a b : ℤ) → int_lt a b ≡ true → a <ℤ b
less a b is = grind (arith, ints)

greater : (a b : ℤ) → int_lt a b ≡ false → int_eq b a ≡ false → b <ℤ a
greater a b is other = grind (arith, ints)

-- what holds of all rows and of one more
pub all-in : (P : StoredRow → Type 0) (rows : List StoredRow) (r : StoredRow) → P r → All P rows → All P (put_row rows r)
all-in P [] r here all = All-cons P r [] here all
all-in P (x ∷ rows) r here all = by (int_lt r.rowid x.rowid) (all-in P rows r here (All-tail P x rows all))
  where
    by : (b : Bool) → All P (put_row rows r) → All P (if b then r ∷ x ∷ rows else x ∷ put_row rows r)
    by true rest = All-cons P r (x ∷ rows) here all
    by false rest = All-cons P x (put_row rows r) (All-head P x rows all) rest

-- no row has the rowid
abbrev pub IsFree : List StoredRow → StoredRow → Type 0
IsFree rows r = filter (has_same_rowid r) rows ≡ []

-- it is neither that of the first nor of another
pub free-first : (x : StoredRow) (rows : List StoredRow) (r : StoredRow) → IsFree (x ∷ rows) r → (int_eq x.rowid r.rowid ≡ false) × IsFree rows r
free-first x rows r free = by (int_eq x.rowid r.rowid) free
  where
    by : (b : Bool) → cond b (x ∷ filter (has_same_rowid r) rows) (filter (has_same_rowid r) rows) ≡ [] → (b ≡ false) × IsFree rows r
    by true f = absurd (cc)
    by false f = (refl, f)

-- where no row is in the way, none stands there, and none has the rowid
pub none-met : (keys : List (List KeyTerm)) (rows : List StoredRow) (r : StoredRow) → is_met keys rows r ≡ false → standing keys rows r ≡ []
none-met keys rows r free = by (standing keys rows r) free
  where
    by : (all : List StoredRow) → is_some (slice_get all 0) ≡ false → all ≡ []
    by [] f = refl
    by (x ∷ all) f = absurd (let bad : true ≡ false = f in cc)

pub own-rowid : (keys : List (List KeyTerm)) (rows : List StoredRow) (r : StoredRow) → standing keys rows r ≡ [] → IsFree rows r
own-rowid keys rows r none = front (filter (has_same_rowid r) rows) _ none
  where
    front : (xs ys : List StoredRow) → xs ++ ys ≡ [] → xs ≡ []
    front [] ys e = refl
    front (x ∷ xs) ys e = absurd (cc)

-- the first of ascending rows is below the others, which ascend
first-below : (x : StoredRow) (rows : List StoredRow) → IsAscending (x ∷ rows) → All (Below x) rows
first-below x rows up = λ k d l. up 0 (suc k) d (omega arith) (omega arith)

others-ascend : (x : StoredRow) (rows : List StoredRow) → IsAscending (x ∷ rows) → IsAscending rows
others-ascend x rows up = λ i j d l h. up (suc i) (suc j) d (omega arith) (omega arith)

ascending-in : (rows : List StoredRow) (r : StoredRow) → IsAscending rows → IsFree rows r → IsAscending (put_row rows r)
ascending-in [] r up free = AllPairs-cons Below r [] (All-nil (Below r)) up
ascending-in (x ∷ rows) r up free =
    let others = free-first x rows r free in
    by (int_lt r.rowid x.rowid) refl others.0 (ascending-in rows r (others-ascend x rows up) others.1)
  where
    above : All (Below x) rows
    above = first-below x rows up

    by : (b : Bool) → int_lt r.rowid x.rowid ≡ b → int_eq x.rowid r.rowid ≡ false → IsAscending (put_row rows r) → IsAscending (if b then r ∷ x ∷ rows else x ∷ put_row rows r)
    by true is other rest =
        let low = less r.rowid x.rowid is in
        AllPairs-cons Below r (x ∷ rows) (All-cons (Below r) x rows low (λ k d l. lt_trans r.rowid x.rowid _ low (above k d l))) up
    by false is other rest =
        AllPairs-cons Below x (put_row rows r) (all-in (Below x) rows r (greater r.rowid x.rowid is other) above) rest

-- a row whose rowid is free comes among the rows of its table
pub rows-in : (t : TableEntry) (rows : List StoredRow) (r : StoredRow) → AreRowsOf t rows → IsFree rows r → fits_integer r.rowid ≡ true → AllZip IsHeldBy t.columns r.values → AreRowsOf t (put_row rows r)
rows-in t rows r valid free fits held =
    record { ascending = ascending-in rows r valid.ascending free; each = all-in (IsRowOf t) rows r (record { rowid = fits; values = held }) valid.each }
