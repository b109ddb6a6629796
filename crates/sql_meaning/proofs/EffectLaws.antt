-- What statements do.
use Rattle.std.proofs.Common.{◌≡◌, ◌<◌, ◌↔◌, ◌⊎◌, inl, inr, ℕ, suc, ◌+◌, ◌-◌, List, [], ◌∷◌, ◌++◌, Bool, true, false, length, Option, Some, None, ℤ, pos, ◌+ℤ◌, ◌<ℤ◌, int_le, slice_get, slice_set, if◌then◌else◌, All, Any, refl, sym, ap, ◌∙◌, subst, arith}
use Rattle.std.proofs.lemmas.Int.{ints}
use Rattle.std.proofs.lemmas.List.Elements.{All-cons, All-nil}
use Rattle.std.proofs.lemmas.List.{get_or-set_same, length-set, set-get_or, set-set}
use Rattle.eng_number.specs.Numbers.{fits_integer}
use Rattle.eng_value.specs.Causes.{only}
use Rattle.eng_value.specs.Environments.{Environment}
use Rattle.eng_value.specs.StoredRows.{StoredRow, next_rowid, rowid_behind}
use Rattle.eng_value.specs.Truths.{truth_in, truth_of}
use Rattle.eng_value.specs.Written.{Written}
use Rattle.eng_value.specs.declared.cause.Cause.TheVariants.{Full}
use Rattle.eng_value.specs.declared.limits.TheConstants.{MAX_ROWID}
use Rattle.eng_value.specs.declared.out.Out.{Out}
use Rattle.eng_value.specs.declared.truth.Truth.{Truth}
use Rattle.eng_value.specs.declared.truth.Truth.TheVariants as truth
use Rattle.eng_value.specs.declared.value.Value.{Value}
use Rattle.eng_value.specs.declared.value.Value.TheVariants as value
use Rattle.bound_tree.specs.Exprs.{BoundExpr}
use Rattle.sql_meaning.specs.declared.bound.BoundInsert.{BoundInsert}
use Rattle.sql_meaning.specs.declared.bound.RowidFrom.TheVariants as rowid
use Rattle.sql_meaning.specs.declared.column.TableEntry.{TableEntry}
use Rattle.sql_meaning.specs.Effects.{AreAdded, AreDrawn, IsFitting, IsFull, IsOneMore, last_rowid_of}
use Rattle.sql_meaning.specs.Expression.{value_of}
use Rattle.sql_meaning.specs.Rows.{NewRow, drawn, fitted, fixed, row_put, with_row}
use Rattle.eng_index.specs.Stored.{put_row}
use Rattle.sql_meaning.specs.Statement.{after_conjunct, if_some, items_at, rows_put, sifted}
use Rattle.sql_meaning.specs.Steps.{Done, Effect, Fails, or_next}
use Rattle.sql_meaning.specs.Valid.{AreRowsOf, IsRowOf}
use Rattle.sql_meaning.specs.World.{rows_at}
use Rattle.sql_meaning.proofs.PlaceLaws.{own-rowid, rows-in}
use Rattle.sql_meaning.proofs.RowLaws.{PutsRow, row_put-gives, rowid-drawn}
use Rattle.sql_meaning.proofs.StepLaws.{Gives, anyhow, gives-weaker, gives-or_next, gives-then, never}
use Rattle.sql_meaning.proofs.StoringLaws.{IsInto, next-drawn}

-- ---- conjuncts

rejected_by : (causes : Out) (t : Truth) (rest : Out → Option Out) → (t ≡ truth.False) ⊎ (t ≡ truth.Unknown) → if_some (after_conjunct causes t) rest ≡ None
rejected_by causes t rest (inl is) = ap (λ u. if_some (after_conjunct causes u) rest) is
rejected_by causes t rest (inr is) = ap (λ u. if_some (after_conjunct causes u) rest) is

none_behind : (o : Option Out) (rest : Out → Option Out) → ((causes : Out) → rest causes ≡ None) → if_some o rest ≡ None
none_behind None rest none = refl
none_behind (Some causes) rest none = none causes

sifted-rejects : (before after : List BoundExpr) (c : BoundExpr) (env : Environment) → (truth_in (truth_of (value_of c env)) ≡ truth.False) ⊎ (truth_in (truth_of (value_of c env)) ≡ truth.Unknown) → (causes : Out) → sifted (before ++ c ∷ after) env causes ≡ None
sifted-rejects [] after c env fails causes = rejected_by causes (truth_in (truth_of (value_of c env))) (sifted after env) fails
sifted-rejects (b ∷ before) after c env fails causes =
    none_behind (after_conjunct causes (truth_in (truth_of (value_of b env)))) (sifted (before ++ c ∷ after) env) (sifted-rejects before after c env fails)

pub rejects : (before after : List BoundExpr) (c : BoundExpr) (results : List BoundExpr) (env : Environment) (causes : Out) → (truth_in (truth_of (value_of c env)) ≡ truth.False) ⊎ (truth_in (truth_of (value_of c env)) ≡ truth.Unknown) → items_at (before ++ c ∷ after) results env causes ≡ []
rejects before after c results env causes fails = rw (sifted-rejects before after c env fails causes) refl

-- ---- rowids

any-tail : (P : StoredRow → Type 0) (x : StoredRow) (rows : List StoredRow) → Any P rows → Any P (x ∷ rows)
any-tail P x rows a = (suc a.0, a.1, omega (arith, a.2), a.3, a.4)

-- the last of the rows
record Last (rows : List StoredRow) : Type 0 where
  row : StoredRow
  here : slice_get rows (length rows - 1) ≡ Some row
  among : Any (λ (r : StoredRow). r ≡ row) rows

last_of : (x : StoredRow) (rows : List StoredRow) → Last (x ∷ rows)
last_of x [] = record { row = x; here = refl; among = (0, x, omega arith, refl, refl) }
last_of x (y ∷ rows) =
    let place : length (x ∷ y ∷ rows) - 1 ≡ suc (length (y ∷ rows) - 1) = omega arith in
    let rest = last_of y rows in
    record { row = rest.row; here = ap (slice_get (x ∷ y ∷ rows)) place ∙ rest.here; among = any-tail (λ (r : StoredRow). r ≡ rest.row) x (y ∷ rows) rest.among }

any-by : (P Q : StoredRow → Type 0) (rows : List StoredRow) → ((r : StoredRow) → P r → Q r) → Any P rows → Any Q rows
any-by P Q rows more a = (a.0, a.1, a.2, a.3, more a.1 a.4)

none-here : (P : StoredRow → Type 0) → Any P [] → ⊥
none-here P a = omega (arith, a.2)

-- the rowid that is drawn is one more than the largest
one_more_by : (t : TableEntry) (x : StoredRow) (rows : List StoredRow) (n : ℤ) (last : Last (x ∷ rows)) (b : Bool) → AreRowsOf t (x ∷ rows) → next_rowid (x ∷ rows) ≡ Some n → (if b then None else Some (last.row.rowid +ℤ pos 1)) ≡ Some n → IsOneMore (x ∷ rows) n
one_more_by t x rows n last true valid next e = absurd (cc)
one_more_by t x rows n last false valid next e =
    let is : n ≡ last.row.rowid +ℤ pos 1 = cc in
    inr (any-by (λ (r : StoredRow). r ≡ last.row) (λ (r : StoredRow). n ≡ r.rowid +ℤ pos 1) (x ∷ rows) (λ r same. is ∙ ap (λ (o : StoredRow). o.rowid +ℤ pos 1) (sym same)) last.among, (next-drawn t (x ∷ rows) n valid next).above)

pub one_more : (t : TableEntry) (rows : List StoredRow) (n : ℤ) → AreRowsOf t rows → next_rowid rows ≡ Some n → IsOneMore rows n
one_more t [] n valid e = inl (refl, let one : pos 1 ≡ n = cc in sym one)
one_more t (x ∷ rows) n valid e =
    let last = last_of x rows in
    one_more_by t x rows n last (int_le MAX_ROWID last.row.rowid) valid e (sym (ap rowid_behind last.here) ∙ e)

-- there is none exactly where the largest is taken
is_max : (n : ℤ) → fits_integer n ≡ true → int_le MAX_ROWID n ≡ true → n ≡ MAX_ROWID
is_max n fits high = grind (arith, ints)

not_max : (n m : ℤ) → int_le MAX_ROWID m ≡ false → n <ℤ (m +ℤ pos 1) → n ≡ MAX_ROWID → ⊥
not_max n m low below is = grind (arith, ints)

each-here : (P : StoredRow → Type 0) (rows : List StoredRow) (Q : StoredRow → Type 0) → All P rows → Any Q rows → (r : StoredRow) × P r × Q r
each-here P rows Q all a = (a.1, subst P a.3 (all a.0 a.1 a.2), a.4)

none_by : (t : TableEntry) (x : StoredRow) (rows : List StoredRow) (last : Last (x ∷ rows)) (b : Bool) → int_le MAX_ROWID last.row.rowid ≡ b → AreRowsOf t (x ∷ rows) → (next_rowid (x ∷ rows) ≡ (if b then None else Some (last.row.rowid +ℤ pos 1))) → (next_rowid (x ∷ rows) ≡ None) ↔ IsFull (x ∷ rows)
none_by t x rows last true is valid next =
    let row = each-here (IsRowOf t) (x ∷ rows) (λ (r : StoredRow). r ≡ last.row) valid.each last.among in
    let fits : fits_integer last.row.rowid ≡ true = subst (λ (r : StoredRow). fits_integer r.rowid ≡ true) row.2 row.1.rowid in
    (λ e. any-by (λ (r : StoredRow). r ≡ last.row) (λ (r : StoredRow). r.rowid ≡ MAX_ROWID) (x ∷ rows) (λ r same. ap (λ (o : StoredRow). o.rowid) same ∙ is_max last.row.rowid fits is) last.among, λ full. next)
none_by t x rows last false is valid next =
    let above = (next-drawn t (x ∷ rows) (last.row.rowid +ℤ pos 1) valid next).above in (
      λ e. absurd (let bad : None ≡ Some (last.row.rowid +ℤ pos 1) = sym e ∙ next in cc),
      λ full. let row = each-here (λ (r : StoredRow). r.rowid <ℤ (last.row.rowid +ℤ pos 1)) (x ∷ rows) (λ (r : StoredRow). r.rowid ≡ MAX_ROWID) above full in absurd (not_max row.0.rowid last.row.rowid is row.1 row.2),
    )

pub none-full : (t : TableEntry) (rows : List StoredRow) → AreRowsOf t rows → (next_rowid rows ≡ None) ↔ IsFull rows
none-full t [] valid = (λ e. absurd (let bad : Some (pos 1) ≡ None = e in cc), λ full. absurd (none-here (λ (r : StoredRow). r.rowid ≡ MAX_ROWID) full))
none-full t (x ∷ rows) valid = let last = last_of x rows in none_by t x rows last (int_le MAX_ROWID last.row.rowid) refl valid (ap rowid_behind last.here)

-- ---- a rowid where none is given

null_full : (t : TableEntry) (rows : List StoredRow) (x : Written) (o : Option ℤ) → next_rowid rows ≡ o → (next_rowid rows ≡ None) ↔ IsFull rows
    → ((drawn t.name o x ≡ Fails (only (Full t.name)) x) ↔ IsFull rows) × (((n : ℤ) × (drawn t.name o x ≡ Done n x)) ⊎ IsFull rows)
null_full t rows x None is full = ((λ e. full.0 is, λ f. refl), inr (full.0 is))
null_full t rows x (Some n) is full =
    ((λ e. absurd (let bad : Done n x ≡ Fails (only (Full t.name)) x = e in cc), λ f. absurd (let bad : Some n ≡ None = sym is ∙ full.1 f in cc)), inl (n, refl))

pub full_exactly : (t : TableEntry) (x : Written) → AreRowsOf t (rows_at x.world t.number)
    → ((fixed t.name (rows_at x.world t.number) value.Null x ≡ Fails (only (Full t.name)) x) ↔ IsFull (rows_at x.world t.number))
    × (((n : ℤ) × (fixed t.name (rows_at x.world t.number) value.Null x ≡ Done n x)) ⊎ IsFull (rows_at x.world t.number))
full_exactly t x valid =
    let rows = rows_at x.world t.number in null_full t rows x (next_rowid rows) refl (none-full t rows valid)

-- a rowid that is drawn is one more than the largest
pub drawn-is : (t : TableEntry) (env : Environment) (b : BoundInsert) (rows : List StoredRow) (new : NewRow) (x y : Written) (r : StoredRow) → AreRowsOf t rows → new.rowid ≡ value.Null → fitted env b rows new x ≡ Done r y → IsOneMore rows r.rowid
drawn-is t env b rows new x y r valid null e = one_more t rows r.rowid valid (rowid-drawn t env b rows new x y r valid null e)

-- ---- rows that are put

-- so many rows have come among those of their table, and no other has changed; they are counted, and nothing is told or returned
pub record PutsRows (t : TableEntry) (env : Environment) (b : BoundInsert) (table : ℕ) (x y : Written) (given : ℕ) : Type 0 where
  pub new : List StoredRow
  pub rows : List StoredRow
  pub world : y.world ≡ slice_set x.world table rows
  pub added : AreAdded b.keys (rows_at x.world table) new rows
  pub fitting : All (IsFitting env b) new
  pub drawn : b.rowid ≡ rowid.Drawn → AreDrawn (rows_at x.world table) new
  pub valid : AreRowsOf t rows
  pub count : length new ≡ given
  pub changes : y.changes ≡ x.changes + given
  pub last_rowid : y.last_rowid ≡ last_rowid_of x.last_rowid new
  pub fits : fits_integer x.last_rowid ≡ true → fits_integer y.last_rowid ≡ true
  pub told : y.told ≡ x.told
  pub returned : y.returned ≡ x.returned

none_put : (t : TableEntry) (env : Environment) (b : BoundInsert) (table : ℕ) (x : Written) → AreRowsOf t (rows_at x.world table) → PutsRows t env b table x x 0
none_put t env b table x valid = record {
  new = [];
  rows = rows_at x.world table;
  world = sym (set-get_or x.world table []);
  added = refl;
  fitting = All-nil (IsFitting env b);
  drawn = λ is. tt;
  valid = valid;
  count = refl;
  changes = omega arith;
  last_rowid = refl;
  fits = λ fits. fits;
  told = refl;
  returned = refl;
}

-- the rows of a table that has one more
pub rows_at-with_row : (x : Written) (table : ℕ) (r : StoredRow) → table < length x.world → rows_at (with_row x table r).world table ≡ put_row (rows_at x.world table) r
rows_at-with_row x table r within = get_or-set_same x.world table (put_row (rows_at x.world table) r) [] within

-- one, and then others
put_then : (t : TableEntry) (env : Environment) (b : BoundInsert) (x y : Written) (one : PutsRow t env b x y) (z : Written) (count : ℕ) → b.table < length x.world → AreRowsOf t (rows_at x.world b.table)
    → PutsRows t env b b.table (with_row x b.table one.row) z count → PutsRows t env b b.table x z (suc count)
put_then t env b x y one z count within valid rest =
    let r = one.row in
    let old = rows_at x.world b.table in
    let here = rows_at-with_row x b.table r within in
    record {
      new = r ∷ rest.new;
      rows = rest.rows;
      world = rest.world ∙ set-set x.world b.table (put_row old r) rest.rows;
      added = (one.free, subst (λ rs. AreAdded b.keys rs rest.new rest.rows) here rest.added);
      fitting = All-cons (IsFitting env b) r rest.new one.fitting rest.fitting;
      drawn = λ is. (one_more t old r.rowid valid (one.next is), subst (λ rs. AreDrawn rs rest.new) here (rest.drawn is));
      valid = rest.valid;
      count = omega (arith, rest.count);
      changes = omega (arith, rest.changes);
      last_rowid = rest.last_rowid;
      fits = λ f. rest.fits one.fits;
      told = rest.told;
      returned = rest.returned;
    }

-- what the others need of the state that the first one left
record Ready (t : TableEntry) (b : BoundInsert) (x : Written) : Type 0 where
  there : b.table < length x.world
  valid : AreRowsOf t (rows_at x.world b.table)

ready : (t : TableEntry) (env : Environment) (b : BoundInsert) (x y : Written) → Ready t b x → PutsRow t env b x y → Ready t b y
ready t env b x y is one =
    let rows = put_row (rows_at x.world b.table) one.row in
    subst (Ready t b) (sym one.put) (record {
      there = subst (λ n. b.table < n) (sym (length-set x.world b.table rows)) is.there;
      valid = subst (AreRowsOf t) (sym (rows_at-with_row x b.table one.row is.there)) (rows-in t (rows_at x.world b.table) one.row is.valid (own-rowid b.keys (rows_at x.world b.table) one.row one.free) one.fits one.held);
    })

all_put : (t : TableEntry) (env : Environment) (b : BoundInsert) (source : List (List Value)) (x : Written) → IsInto t b → Ready t b x → Gives (λ u y. PutsRows t env b b.table x y (length source)) never anyhow (rows_put env b source x)
all_put t env b [] x into is = none_put t env b b.table x is.valid
all_put t env b (row ∷ source) x into is =
    let others : Unit {0} → Written → Effect = λ u y. rows_put env b source y in
    gives-then never anyhow (λ u y. PutsRow t env b x y) (λ u y. PutsRows t env b b.table x y (suc (length source))) (or_next (row_put env b row x)) others
    (gives-or_next (λ u y. PutsRow t env b x y) never never anyhow (row_put env b row x) (λ y left. absurd left) (row_put-gives t env b row x into is.valid))
    (λ u y one. gives-weaker (λ v z. PutsRows t env b b.table y z (length source)) (λ v z. PutsRows t env b b.table x z (suc (length source))) never anyhow anyhow (rows_put env b source y)
    (λ v z rest. put_then t env b x y one z (length source) is.there is.valid (subst (λ m. PutsRows t env b b.table m z (length source)) one.put rest))
    (λ causes z h. tt) (all_put t env b source y into (ready t env b x y is one)))

-- what a source of rows is put to, where no row fails
pub rows_put-gives : (t : TableEntry) (env : Environment) (b : BoundInsert) (source : List (List Value)) (x : Written) → IsInto t b → t.number < length x.world → AreRowsOf t (rows_at x.world t.number)
    → Gives (λ u y. PutsRows t env b t.number x y (length source)) never anyhow (rows_put env b source x)
rows_put-gives t env b source x into there valid =
    subst (λ n. Gives (λ u y. PutsRows t env b n x y (length source)) never anyhow (rows_put env b source x)) into.number
    (all_put t env b source x into (record { there = subst (λ n. n < length x.world) (sym into.number) there; valid = subst (λ n. AreRowsOf t (rows_at x.world n)) (sym into.number) valid }))
