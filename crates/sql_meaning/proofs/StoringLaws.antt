-- What a column has stored it stores as it is, so that the values of a new row are held by the columns of its table; and the rowids that are drawn.
use Rattle.std.proofs.Common.{◌≡◌, ℕ, fold, zero, suc, ◌-◌, List, [], ◌∷◌, ◌++◌, Bool, true, false, length, map, Some, None, Ok, Err, ℤ, pos, ◌+ℤ◌, ◌<ℤ◌, int_le, Option, slice_get, slice_set, if◌then◌else◌, All, refl, sym, ap, ◌∙◌, subst, arith}
use Rattle.std.specs.Bool.{⊤}
use Rattle.std.specs.List.{AllZip}
use Rattle.std.proofs.lemmas.Int.{ints}
use Rattle.std.proofs.lemmas.List.{set-set}
use Rattle.std.proofs.lemmas.List.Elements.{All-cons, All-head, All-nil, All-tail}
use Rattle.eng_number.specs.Numbers.{fits_integer, text_kind}
use Rattle.eng_number.specs.declared.numbers.TextKind.{TextKind}
use Rattle.eng_number.specs.declared.numbers.TextKind.TheVariants as kind
use Rattle.eng_value.specs.Applied.{merged}
use Rattle.eng_value.specs.Casts.{integer_as_text, numeric_text, store_as, store_number}
use Rattle.eng_value.specs.Environments.{Environment, no_causes, with_causes}
use Rattle.eng_value.specs.Outs.{turned}
use Rattle.eng_value.specs.StoredRows.{StoredRow, next_rowid, rowid_behind}
use Rattle.eng_value.specs.declared.affinity.Affinity.{Affinity}
use Rattle.eng_value.specs.declared.affinity.Affinity.TheVariants as affinity
use Rattle.eng_value.specs.declared.limits.TheConstants.{MAX_ROWID}
use Rattle.eng_value.specs.declared.out.Out.{Out}
use Rattle.eng_value.specs.declared.out.Out.TheVariants.{Good, Bad}
use Rattle.eng_value.specs.declared.value.Value.{Value}
use Rattle.eng_value.specs.declared.value.Value.TheVariants as value
use Rattle.sql_meaning.specs.declared.bound.BoundInsert.{BoundInsert}
use Rattle.sql_meaning.specs.declared.bound.PutColumn.{PutColumn}
use Rattle.sql_meaning.specs.declared.bound.RowidFrom.{RowidFrom}
use Rattle.sql_meaning.specs.declared.bound.RowidFrom.TheVariants as rowid
use Rattle.sql_meaning.specs.declared.column.Column.{Column}
use Rattle.sql_meaning.specs.declared.column.TableEntry.{TableEntry}
use Rattle.sql_meaning.specs.Effects.{HasRowid}
use Rattle.sql_meaning.specs.Rows.{NewRow, given_rowid, good_or_null, new_by, new_row, rowid_beside, rowid_column, stored_for, value_for}
use Rattle.sql_meaning.specs.Running.{stores_integers}
use Rattle.sql_meaning.specs.Valid.{AreRowsOf, IsHeldBy, IsRowOf}
use Rattle.sql_meaning.specs.World.{seen, stored, with_column}

-- ---- a value

good-same : (v w : Value) → Good v ≡ Good w → v ≡ w
good-same v w is = cc

number_again : (text : List ℕ) (k : TextKind) (w : Value) → text_kind text ≡ k → numeric_text text k ≡ Good w → store_number w ≡ Good w
number_again text kind.NoNumber w is e =
    subst (λ v. store_number v ≡ Good v) (good-same (value.Text text) w e) (ap (numeric_text text) is)
number_again text (kind.Whole n) w is e = subst (λ v. store_number v ≡ Good v) (good-same (value.Integer n) w e) refl
number_again text kind.Real w is e = absurd (cc)

store_number-again : (v w : Value) → store_number v ≡ Good w → store_number w ≡ Good w
store_number-again value.Null w e = subst (λ u. store_number u ≡ Good u) (good-same value.Null w e) refl
store_number-again (value.Integer n) w e = subst (λ u. store_number u ≡ Good u) (good-same (value.Integer n) w e) refl
store_number-again (value.Text text) w e = number_again text (text_kind text) w refl e
store_number-again (value.Blob bytes) w e = subst (λ u. store_number u ≡ Good u) (good-same (value.Blob bytes) w e) refl

as_text-again : (v : Value) → integer_as_text (integer_as_text v) ≡ integer_as_text v
as_text-again value.Null = refl
as_text-again (value.Integer n) = refl
as_text-again (value.Text text) = refl
as_text-again (value.Blob bytes) = refl

-- what is stored is stored as it is
pub store_as-again : (a : Affinity) (v w : Value) → store_as a v ≡ Good w → store_as a w ≡ Good w
unfolding store_as
store_as-again affinity.Integer v w e = store_number-again v w e
store_as-again affinity.Numeric v w e = store_number-again v w e
store_as-again affinity.Real v w e = absurd (cc)
store_as-again affinity.Text v w e =
    subst (λ u. Good (integer_as_text u) ≡ Good u) (good-same (integer_as_text v) w e) (ap Good (as_text-again v))
store_as-again affinity.Blob v w e = refl
store_as-again affinity.None v w e = refl

-- ---- a row

abbrev WithGood : Out → List Out → Type 0
WithGood c outs = ((v : Value) × (c ≡ Good v)) × (outs ≡ map Good (map good_or_null outs))

one_more : (c a : Out) (outs : List Out) → WithGood (merged a c) outs → WithGood c (a ∷ outs)
one_more c (Good x) outs g = (g.0, ap (λ os. Good x ∷ os) g.1)
one_more (Good v) (Bad s) outs g = absurd (let bad : Bad s ≡ Good g.0.0 = g.0.1 in cc)
one_more (Bad t) (Bad s) outs g = absurd (let bad : merged (Bad s) (Bad t) ≡ Good g.0.0 = g.0.1 in cc)

all_good : (c : Out) (outs : List Out) (v : Value) → fold with_causes c outs ≡ Good v → WithGood c outs
all_good c [] v e = ((v, e), refl)
all_good c (a ∷ outs) v e = one_more c a outs (all_good (with_causes c a) outs v e)

-- what stands in front is good as well
good_front : (outs others : List Out) → outs ++ others ≡ map Good (map good_or_null (outs ++ others)) → outs ≡ map Good (map good_or_null outs)
good_front [] others e = refl
good_front (a ∷ outs) others e =
    let both : a ∷ (outs ++ others) ≡ Good (good_or_null a) ∷ map Good (map good_or_null (outs ++ others)) = e in
    let here : a ≡ Good (good_or_null a) = cc in
    let rest : outs ++ others ≡ map Good (map good_or_null (outs ++ others)) = cc in
    let front = good_front outs others rest in
    cc

-- a column of an INSERT stores the value as it is
abbrev pub Stores : PutColumn → Value → Type 0
Stores c v = store_as c.affinity v ≡ Good v

turned-held : (a : Affinity) (o : Out) (w : Value) → turned (store_as a) o ≡ Good w → store_as a w ≡ Good w
turned-held a (Good v) w e = store_as-again a v w e
turned-held a (Bad causes) w e = absurd (let bad : Bad causes ≡ Good w = e in cc)

-- values for all columns, as these store them
stored_for-held : (env : Environment) (columns : List PutColumn) (source ws : List Value) → stored_for env columns source ≡ map Good ws → AllZip Stores columns ws
stored_for-held env [] source [] e = tt
stored_for-held env [] source (w ∷ ws) e = absurd (let none : [] ≡ Good w ∷ map Good ws = e in cc)
stored_for-held env (c ∷ columns) source [] e =
    absurd (let none : turned (store_as c.affinity) (value_for env source c.place c.default) ∷ stored_for env columns source ≡ [] = e in cc)
stored_for-held env (c ∷ columns) source (w ∷ ws) e =
    let both : turned (store_as c.affinity) (value_for env source c.place c.default) ∷ stored_for env columns source ≡ Good w ∷ map Good ws = e in
    (turned-held c.affinity (value_for env source c.place c.default) w cc, stored_for-held env columns source ws cc)

-- a row that is to be put has for each column a value as this stores it, and none for its rowid where none is given
pub record IsNew (b : BoundInsert) (new : NewRow) : Type 0 where
  pub held : AllZip Stores b.columns new.values
  pub drawn : b.rowid ≡ rowid.Drawn → new.rowid ≡ value.Null

new_by-is : (env : Environment) (b : BoundInsert) (source : List Value) (o : Out) (new : NewRow) → fold with_causes no_causes (stored_for env b.columns source ++ rowid_beside b.rowid source) ≡ o
    → new_by b.rowid (stored_for env b.columns source) (rowid_beside b.rowid source) o ≡ Ok new → IsNew b new
new_by-is env b source (Good v) new is e =
    let outs = stored_for env b.columns source in
    let beside = rowid_beside b.rowid source in
    let made : NewRow = record { rowid = given_rowid b.rowid (map good_or_null beside) (map good_or_null outs); values = map good_or_null outs } in
    let good = good_front outs beside (all_good no_causes (outs ++ beside) v is).1 in
    subst (IsNew b) (let same : made ≡ new = cc in same) (record {
      held = stored_for-held env b.columns source (map good_or_null outs) good;
      drawn = λ drawn. ap (λ from. given_rowid from (map good_or_null beside) (map good_or_null outs)) drawn;
    })
new_by-is env b source (Bad causes) new is e = absurd (let bad : Err causes ≡ Ok new = e in cc)

pub new_row-is : (env : Environment) (b : BoundInsert) (source : List Value) (new : NewRow) → new_row env b source ≡ Ok new → IsNew b new
new_row-is env b source new e =
    new_by-is env b source (fold with_causes no_causes (stored_for env b.columns source ++ rowid_beside b.rowid source)) new refl e

-- ---- an INSERT and its table

-- its columns store as those of the table
abbrev pub StoresAs : Column → PutColumn → Type 0
StoresAs c p = p.affinity ≡ c.affinity

-- one that is the rowid stores integers
abbrev pub RowidStored : RowidFrom → List PutColumn → Type 0
RowidStored rowid.Drawn columns = ⊤
RowidStored (rowid.Given place) columns = ⊤
RowidStored (rowid.Column place) columns = stores_integers (slice_get columns place) ≡ true

pub record IsInto (t : TableEntry) (b : BoundInsert) : Type 0 where
  pub number : b.table ≡ t.number
  pub columns : AllZip StoresAs t.columns b.columns
  pub rowid : RowidStored b.rowid b.columns
  pub column : rowid_column b.rowid ≡ t.rowid

held-by : (columns : List Column) (puts : List PutColumn) (values : List Value) → AllZip StoresAs columns puts → AllZip Stores puts values → AllZip IsHeldBy columns values
held-by [] [] [] same held = tt
held-by [] [] (v ∷ values) same held = absurd held
held-by [] (p ∷ puts) values same held = absurd same
held-by (c ∷ columns) [] values same held = absurd same
held-by (c ∷ columns) (p ∷ puts) [] same held = absurd held
held-by (c ∷ columns) (p ∷ puts) (v ∷ values) same held = (subst (λ a. store_as a v ≡ Good v) same.0 held.0, held-by columns puts values same.1 held.1)

-- ---- the column that is the rowid

-- of a value that was put there nothing is left where another is put
with_column-again : (column : Option ℕ) (v w : Value) (values : List Value) → with_column column w (with_column column v values) ≡ with_column column w values
with_column-again None v w values = refl
with_column-again (Some place) v w values = set-set values place v w

-- what is seen of a row that was stored is what was seen of it
pub seen-stored : (column : Option ℕ) (r : StoredRow) → seen column (stored column (seen column r)) ≡ seen column r
seen-stored column r =
    let v = value.Integer r.rowid in
    ap (λ vs. record r { values = vs }) (with_column-again column value.Null v (with_column column v r.values) ∙ with_column-again column v v r.values)

null-stored : (c : PutColumn) (a : Affinity) → c.affinity ≡ a → stores_integers (Some c) ≡ true → store_as a value.Null ≡ Good value.Null
unfolding store_as
null-stored c affinity.Integer is stores = refl
null-stored c affinity.Numeric is stores = refl
null-stored c affinity.Real is stores = absurd (let bad : false ≡ true = subst (λ a. stores_integers (Some (record c { affinity = a })) ≡ true) is stores in cc)
null-stored c affinity.Text is stores = absurd (let bad : false ≡ true = subst (λ a. stores_integers (Some (record c { affinity = a })) ≡ true) is stores in cc)
null-stored c affinity.Blob is stores = refl
null-stored c affinity.None is stores = refl

set-held : (columns : List PutColumn) (values : List Value) (place : ℕ) → stores_integers (slice_get columns place) ≡ true → AllZip Stores columns values → AllZip Stores columns (slice_set values place value.Null)
set-held [] values place stores held = absurd (let bad : false ≡ true = stores in cc)
set-held (c ∷ columns) [] place stores held = absurd held
set-held (c ∷ columns) (v ∷ values) zero stores held = (null-stored c c.affinity refl stores, held.1)
set-held (c ∷ columns) (v ∷ values) (suc place) stores held = (held.0, set-held columns values place stores held.1)

with_null-held : (from : RowidFrom) (columns : List PutColumn) (values : List Value) → RowidStored from columns → AllZip Stores columns values → AllZip Stores columns (with_column (rowid_column from) value.Null values)
with_null-held rowid.Drawn columns values stores held = held
with_null-held (rowid.Given place) columns values stores held = held
with_null-held (rowid.Column place) columns values stores held = set-held columns values place stores held

-- a new row, as it is stored
abbrev pub new_stored : BoundInsert → NewRow → ℤ → StoredRow
new_stored b new n = stored (rowid_column b.rowid) (seen (rowid_column b.rowid) (record { rowid = n; values = new.values }))

-- what is stored is held by the columns of the table
pub new-held : (t : TableEntry) (b : BoundInsert) (new : NewRow) (n : ℤ) → IsInto t b → IsNew b new → AllZip IsHeldBy t.columns (new_stored b new n).values
new-held t b new n into is =
    let column = rowid_column b.rowid in
    subst (AllZip IsHeldBy t.columns) (sym (with_column-again column (value.Integer n) value.Null new.values))
    (held-by t.columns b.columns (with_column column value.Null new.values) into.columns (with_null-held b.rowid b.columns new.values into.rowid is.held))

-- the column that is the rowid has it
set-there : (columns : List PutColumn) (values : List Value) (place : ℕ) (w : Value) → stores_integers (slice_get columns place) ≡ true → AllZip Stores columns values → slice_get (slice_set values place w) place ≡ Some w
set-there [] values place w stores held = absurd (let bad : false ≡ true = stores in cc)
set-there (c ∷ columns) [] place w stores held = absurd held
set-there (c ∷ columns) (v ∷ values) zero w stores held = refl
set-there (c ∷ columns) (v ∷ values) (suc place) w stores held = set-there columns values place w stores held.1

rowid-there : (from : RowidFrom) (columns : List PutColumn) (r : StoredRow) → RowidStored from columns → AllZip Stores columns r.values → HasRowid from (stored (rowid_column from) (seen (rowid_column from) r))
rowid-there rowid.Drawn columns r stores held = tt
rowid-there (rowid.Given place) columns r stores held = tt
rowid-there (rowid.Column place) columns r stores held =
    let v = value.Integer r.rowid in (
      ap (λ vs. slice_get vs place) (set-set r.values place v value.Null) ∙ set-there columns r.values place value.Null stores held,
      ap (λ (s : StoredRow). slice_get s.values place) (seen-stored (Some place) r) ∙ set-there columns r.values place v stores held,
    )

pub new-at : (t : TableEntry) (b : BoundInsert) (new : NewRow) (r : StoredRow) → IsInto t b → IsNew b new → r ≡ new_stored b new r.rowid → HasRowid b.rowid r
new-at t b new r into is same =
    subst (HasRowid b.rowid) (sym same) (rowid-there b.rowid b.columns (record { rowid = r.rowid; values = new.values }) into.rowid is.held)

-- ---- rowids

next-fits : (m n : ℤ) → fits_integer m ≡ true → int_le MAX_ROWID m ≡ false → n ≡ m +ℤ pos 1 → fits_integer n ≡ true
next-fits m n fits below is = grind (arith, ints)

-- what a rowid that is drawn is like
pub record IsDrawn (rows : List StoredRow) (n : ℤ) : Type 0 where
  pub above : All (λ (r : StoredRow). r.rowid <ℤ n) rows
  pub fits : fits_integer n ≡ true

after_last : (last : StoredRow) (n : ℤ) (b : Bool) → int_le MAX_ROWID last.rowid ≡ b → fits_integer last.rowid ≡ true → (if b then None else Some (last.rowid +ℤ pos 1)) ≡ Some n → (last.rowid <ℤ n) × (fits_integer n ≡ true)
after_last last n true is fits e = absurd (cc)
after_last last n false is fits e = let same : n ≡ last.rowid +ℤ pos 1 = cc in (omega (arith, ints, same), next-fits last.rowid n fits is same)

lt_trans : (a b c : ℤ) → a <ℤ b → b <ℤ c → a <ℤ c
lt_trans a b c h k = omega (arith, ints)

pub next-drawn : (t : TableEntry) (rows : List StoredRow) (n : ℤ) → AreRowsOf t rows → next_rowid rows ≡ Some n → IsDrawn rows n
next-drawn t [] n valid e = record { above = All-nil (λ (r : StoredRow). r.rowid <ℤ n); fits = subst (λ m. fits_integer m ≡ true) (let one : pos 1 ≡ n = cc in one) refl }
next-drawn t (x ∷ []) n valid e =
    let one = after_last x n (int_le MAX_ROWID x.rowid) refl (All-head (IsRowOf t) x [] valid.each).rowid e in
    record { above = All-cons (λ (r : StoredRow). r.rowid <ℤ n) x [] one.0 (All-nil (λ (r : StoredRow). r.rowid <ℤ n)); fits = one.1 }
next-drawn t (x ∷ y ∷ ys) n valid e =
    let place : length (x ∷ y ∷ ys) - 1 ≡ suc (length (y ∷ ys) - 1) = omega arith in
    let rest : AreRowsOf t (y ∷ ys) = record { ascending = λ i j d l h. valid.ascending (suc i) (suc j) d (omega arith) (omega arith); each = All-tail (IsRowOf t) x (y ∷ ys) valid.each } in
    let more = next-drawn t (y ∷ ys) n rest (sym (ap (λ k. rowid_behind (slice_get (x ∷ y ∷ ys) k)) place) ∙ e) in
    let low : x.rowid <ℤ y.rowid = valid.ascending 0 1 x (omega arith) (omega arith) in
    record { above = All-cons (λ (r : StoredRow). r.rowid <ℤ n) x (y ∷ ys) (lt_trans x.rowid y.rowid n low (All-head (λ (r : StoredRow). r.rowid <ℤ n) y ys more.above)) more.above; fits = more.fits }
