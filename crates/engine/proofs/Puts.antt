-- The rows of an INSERT come to their places, one after another, as the definition puts them.
use Rattle.std.proofs.Common.{◌≡◌, ℕ, ◌<◌, ◌+◌, List, [], ◌∷◌, Bool, true, false, ◌&&◌, not, length, is_some, Option, Some, None, Result, Ok, Err, int_lt, if◌then◌else◌, slice_set, refl, sym, ap, ◌∙◌, subst, lt-ltb}
use Rattle.std.proofs.lemmas.List.{length-set}
use Rattle.eng_value.specs.Causes.{CauseSet}
use Rattle.eng_value.specs.Environments.{Environment}
use Rattle.eng_value.specs.StoredRows.{StoredRow}
use Rattle.eng_value.specs.Written.{Written}
use Rattle.eng_value.specs.declared.value.Value.{Value}
use Rattle.gen_write.specs.Writes.{Course, and_on, course_of, row_effect, rows_run}
use Rattle.sql_meaning.proofs.RowLaws.{IsFitted, fails, fitted-gives}
use Rattle.sql_meaning.proofs.StepLaws.{Gives, anyhow, gives-then, gives-weaker, never}
use Rattle.sql_meaning.specs.Rows.{NewRow, fitted, is_met, new_row, row_changed, row_put, with_row as with_row_meant}
use Rattle.eng_index.specs.Keys.{row_in_way}
use Rattle.eng_index.specs.declared.key_term.KeyTerm.{KeyTerm}
use Rattle.sql_meaning.specs.Statement.{rows_put}
use Rattle.sql_meaning.specs.Steps.{Step, Done, Left, Fails, Effect, ◌then◌, done, or_next, settled}
use Rattle.sql_meaning.specs.World.{rows_at}
use Rattle.sql_meaning.specs.declared.bound.BoundInsert.{BoundInsert}
use Rattle.vm_code.specs.Machine.{IsSound, Shared, is_free, is_missing, put_row, rows_of, with_row, world_of}
use Rattle.vm_code.proofs.Kept.{sound_with_row}
use Rattle.vm_code.proofs.NewRows.{missing_unless_met}

-- ---- the place of a row

-- where no row is in the way of a row, its rowid is free
free-if : (keys : List (List KeyTerm)) (rows : List StoredRow) (r : StoredRow) → is_met keys rows r ≡ false → is_missing rows r.rowid ≡ true
free-if keys rows r free = ap (λ o. not (is_some o)) (missing_unless_met keys rows r (none (row_in_way keys rows r) free))
  where
    none : (o : Option StoredRow) → is_some o ≡ false → o ≡ None
    none None f = refl
    none (Some x) f = absurd (cc)

-- the machine puts a row whose rowid is free where the definition does
with_row-same : (x : Written) (table : ℕ) (r : StoredRow) → table < length x.world → is_missing (rows_at x.world table) r.rowid ≡ true → with_row x table r ≡ with_row_meant x table r
with_row-same x table r lt free =
    let missing : is_free x.world table r.rowid ≡ true = ap (λ b. b && is_missing (rows_of x.world table) r.rowid) (lt-ltb table (length x.world) lt) ∙ free in
    ap (λ b. if b then record x { world = slice_set x.world table (put_row (rows_of x.world table) r); changes = x.changes + 1; last_rowid = r.rowid } else x) missing

-- no table more or less, and nothing is returned
with_row-long : (x : Written) (table : ℕ) (r : StoredRow) → (length (with_row x table r).world ≡ length x.world) × ((with_row x table r).returned ≡ x.returned)
with_row-long x table r = by (is_free x.world table r.rowid)
  where
    rows : List StoredRow
    rows = put_row (rows_of x.world table) r

    after : Bool → Written
    after b = if b then record x { world = slice_set x.world table rows; changes = x.changes + 1; last_rowid = r.rowid } else x

    by : (b : Bool) → (length (after b).world ≡ length x.world) × ((after b).returned ≡ x.returned)
    by true = (length-set x.world table rows, refl)
    by false = (refl, refl)

-- ---- one row

-- two ways to go on that are the same where something holds
then-same : {A : Type 0} (made : A → Written → Type 0) (s : Step A) (f g : A → Written → Effect) → Gives made never anyhow s → ((a : A) (y : Written) → made a y → f a y ≡ g a y) → (s then f) ≡ (s then g)
then-same made (Done a y) f g gives same = same a y gives
then-same made (Left y) f g gives same = absurd gives
then-same made (Fails causes y) f g gives same = refl

module _ (env : Environment) (b : BoundInsert) where
  -- a row that is fitted changes nothing, and its rowid is free
  abbrev Fits : Written → StoredRow → Written → Type 0
  Fits w r y = (y ≡ w) × (is_missing (rows_at w.world b.table) r.rowid ≡ true)

  fits : (new : NewRow) (w : Written) → Gives (Fits w) never anyhow (fitted env b (rows_at w.world b.table) new w)
  fits new w =
      gives-weaker (λ r y. (y ≡ w) × IsFitted env b (rows_at w.world b.table) new r) (Fits w) never (fails w) anyhow (fitted env b (rows_at w.world b.table) new w)
      (λ r y is. (is.0, free-if b.keys (rows_at w.world b.table) r is.1.free)) (λ causes y is. tt) (fitted-gives w env b (rows_at w.world b.table) new)

  -- the machine does with a row of the source what the definition does
  row-same : (row : List Value) (w : Written) → b.table < length w.world → row_effect env b row w ≡ row_put env b row w
  row-same row w lt = by (new_row env b row)
    where
      by : (r : Result NewRow CauseSet) → (settled r w then λ new x. fitted env b (rows_of x.world b.table) new x then λ row x. done (with_row x b.table row)) ≡ (settled r w then λ new x. row_changed env b new x)
      by (Err causes) = refl
      by (Ok new) =
          then-same (Fits w) (fitted env b (rows_at w.world b.table) new w) (λ r y. done (with_row y b.table r)) (λ r y. done (with_row_meant y b.table r)) (fits new w)
          (λ r y is. subst (λ (z : Written). done (with_row z b.table r) ≡ done (with_row_meant z b.table r)) (sym is.0) (ap done (with_row-same w b.table r lt is.1)))

  -- what is true of what is written from one row to the next
  pub record IsReady (w y : Written) : Type 0 where
    pub sound : IsSound y.world
    pub there : b.table < length y.world
    pub returned : y.returned ≡ w.returned

  put-ready : (w : Written) (r : StoredRow) → IsSound w.world → b.table < length w.world → IsReady w (with_row w b.table r)
  put-ready w r sound lt =
      let long = with_row-long w b.table r in record { sound = sound_with_row w b.table r sound; there = subst (λ n. b.table < n) (sym long.0) lt; returned = long.1 }

  row-ready : (row : List Value) (w : Written) → IsSound w.world → b.table < length w.world → Gives (λ u y. IsReady w y) never anyhow (row_effect env b row w)
  row-ready row w sound lt = by (new_row env b row)
    where
      by : (r : Result NewRow CauseSet) → Gives (λ u y. IsReady w y) never anyhow (settled r w then λ new x. fitted env b (rows_of x.world b.table) new x then λ row x. done (with_row x b.table row))
      by (Err causes) = tt
      by (Ok new) =
          gives-then never anyhow (Fits w) (λ u y. IsReady w y) (fitted env b (rows_at w.world b.table) new w) (λ r y. done (with_row y b.table r)) (fits new w)
          (λ r y is. subst (λ z. IsReady w (with_row z b.table r)) (sym is.0) (put-ready w r sound lt))

-- ---- all rows

-- what a course comes to from `x` on where the definition ends so: the same is written, and nothing is given; or it fails for the same causes
abbrev pub Puts : Shared → Effect → Course → Type 0
Puts x (Done u y) course = (course.causes ≡ None) × (course.shared ≡ record x { written = y }) × (y.returned ≡ x.written.returned)
Puts x (Left y) course = ⊥
Puts x (Fails causes y) course = (course.causes ≡ Some causes) × (course.shared.given ≡ x.given)

-- one row, and then the others
puts-then : (x : Shared) (y : Written) (s : Effect) (course : Course) → y.returned ≡ x.written.returned → Puts (record x { written = y }) s course → Puts x s course
puts-then x y (Done u z) course same p = (p.0, p.1, p.2 ∙ same)
puts-then x y (Left z) course same p = p
puts-then x y (Fails causes z) course same p = p

module _ (env : Environment) (b : BoundInsert) where
  abbrev OneMore : List (List Value) → Type 0
  OneMore source = (x : Shared) → IsSound (world_of x) → b.table < length (world_of x) → Puts x (rows_put env b source x.written) (rows_run env b source x)

  puts-row : (source : List (List Value)) → OneMore source → (x : Shared) (s : Effect) → Gives (λ u y. IsReady env b x.written y) never anyhow s
      → Puts x (or_next s then λ u y. rows_put env b source y) (and_on (course_of x s) (rows_run env b source))
  puts-row source others x (Done u y) ready =
      puts-then x y (rows_put env b source y) (rows_run env b source (record x { written = y })) ready.returned (others (record x { written = y }) ready.sound ready.there)
  puts-row source others x (Left y) ready = absurd ready
  puts-row source others x (Fails causes y) ready = (refl, refl)

  pub puts_rows : (source : List (List Value)) → OneMore source
  puts_rows [] x sound lt = (refl, refl, refl)
  puts_rows (row ∷ source) x sound lt =
      subst (λ s. Puts x (or_next s then λ u y. rows_put env b source y) (and_on (course_of x (row_effect env b row x.written)) (rows_run env b source))) (row-same env b row x.written lt)
      (puts-row source (puts_rows source) x (row_effect env b row x.written) (row-ready env b row x.written sound lt))
