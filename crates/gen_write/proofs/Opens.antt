-- What is open along the code of rows: the cursor of the table, and for CHECKs the one that stands on the row.
use Rattle.std.proofs.Common.{◌≡◌, ℕ, ◌≤◌, ◌<◌, List, [], ◌∷◌, length, All, Contains, Option, Some, None, refl, sym, ap, ◌∙◌, subst, arith, ⊎_elim}
use Rattle.std.proofs.lemmas.Bool.{cases_lt}
use Rattle.std.proofs.lemmas.List.Elements.{Contains-push_cases}
use Rattle.gen_write.specs.Stretches.{SteadyAt}
use Rattle.vm_code.specs.declared.op.Op.{Op}
use Rattle.vm_code.specs.declared.op.Op.TheVariants as op
use Rattle.vm_code.specs.declared.open_cursor.CursorKind.{CursorKind}
use Rattle.vm_code.specs.declared.open_cursor.CursorKind.TheVariants.{Row, Table}
use Rattle.vm_code.specs.declared.open_cursor.Need.{Need}
use Rattle.vm_code.specs.declared.open_cursor.Need.TheVariants as need
use Rattle.vm_code.specs.declared.open_cursor.OpenCursor.{OpenCursor}
use Rattle.vm_code.specs.declared.way.Way.TheVariants as way
use Rattle.vm_code.specs.declared.program.Unit as unit_type
use Rattle.vm_code.specs.Draft.{Draft, begun, with_op}
use Rattle.vm_code.specs.Track.{Meets, OpenSet, behind, closed, needs_of, on, target_of, way_of}
use Rattle.vm_code.specs.Tracked.{AreBelow, IsTracked, Steady}
use Rattle.vm_code.specs.Frames.{Grows}
use Rattle.vm_code.proofs.Tracks.{closed-opened, needs_none, needs_one, stays_by, tracked_op}

pub at_none : (xs : OpenSet) (a : Draft) → SteadyAt xs a a
at_none xs a = record { keeps = λ l h. h; made = λ l le lt. absurd (omega arith); stays = λ is t. (is, t) }

pub at_then : {xs : OpenSet} {a b c : Draft} → SteadyAt xs a b → SteadyAt xs b c → SteadyAt xs a c
at_then {xs} {a} {b} {c} x y = record {
  keeps = λ l h. y.keeps l (x.keeps l h);
  made = λ l le lt. ⊎_elim (λ inside. y.keeps l (x.made l le inside)) (λ behind_b. y.made l behind_b lt) (cases_lt l (length b.labels));
  stays = λ is t. let at = x.stays is t in y.stays at.0 at.1;
}

-- code that finds open what it needs
pub at_of : {needs : List Need} {a b : Draft} (xs : OpenSet) → All (Meets xs) needs → Steady needs [] a b → SteadyAt xs a b
at_of xs met x = record { keeps = x.keeps; made = x.made; stays = λ is t. x.stays xs is met t (λ l none. absurd none) }

some_is : (xs ys : OpenSet) → Some xs ≡ Some ys → xs ≡ ys
some_is xs ys e = cc

number_is : (x y : OpenCursor) → x ≡ y → x.cursor ≡ y.cursor
number_is x y e = ap (λ (z : OpenCursor). z.cursor) e

-- the cursor of the table
abbrev pub table_open : OpenSet
table_open = on Table 1 ∷ []

-- and that of the row beside it
abbrev pub both_open : OpenSet
both_open = on Table 1 ∷ on Row 0 ∷ []

-- a cursor stands on the row, between
pub at_standing : {needs : List Need} {a z : Draft} (rowid first n : ℕ) → All (Meets both_open) needs → Grows a z → Steady needs [] (with_op a (op.RowOf 0 rowid first n)) z → SteadyAt table_open a (with_op z (op.Close 0))
at_standing {needs} {a} {z} rowid first n met grows x = record {
  keeps = x.keeps;
  made = x.made;
  stays = λ is t. inside is t;
}
  where
    row_of : Op
    row_of = op.RowOf 0 rowid first n

    inside : a.track.now ≡ Some table_open → IsTracked a → ((with_op z (op.Close 0)).track.now ≡ Some table_open) × IsTracked (with_op z (op.Close 0))
    inside is t =
        let below : AreBelow a.cursors table_open = t.now table_open is in
        let one : 1 < a.cursors = below (on Table 1) (0, omega arith, refl) in
        let below_both : AreBelow a.cursors both_open = λ y h. ⊎_elim (λ old. below y old) (λ same. let number = number_is (on Row 0) y same in omega (arith, number, one)) (Contains-push_cases table_open (on Row 0) y h) in
        let standing : IsTracked (with_op a row_of) = tracked_op a row_of table_open t is tt (needs_none row_of table_open refl) (λ l e. cc) (λ zs e. let same : both_open ≡ zs = some_is both_open zs e in subst (AreBelow a.cursors) same below_both) in
        let at = x.stays both_open (ap (behind (way.Opens (on Row 0))) is) met standing (λ l none. absurd none) in
        let more : AreBelow z.cursors table_open = λ y h. let lt = below y h in omega (arith, lt, grows.cursors) in (
          ap (behind (way.Closes 0)) at.0,
          tracked_op z (op.Close 0) both_open at.1 at.0 tt (needs_one (op.Close 0) (need.Open 0) both_open refl (Row, (1, omega arith, refl))) (λ l e. cc) (λ zs e. let same : table_open ≡ zs = some_is table_open zs e in subst (AreBelow z.cursors) same more),
        )

-- a cursor is opened in front of code that finds it open, and closed behind it
pub at_opened : {a y z : Draft} (kind : CursorKind) (c : ℕ) (o : Op) → way_of o ≡ way.Opens (on kind c) → needs_of o ≡ [] → SteadyAt [] a y → SteadyAt (on kind c ∷ []) (with_op y o) z → c < y.cursors → y.cursors ≤ z.cursors → SteadyAt [] a (with_op z (op.Close c))
at_opened {a} {y} {z} kind c o opens needs x body lt more = record {
  keeps = λ l h. body.keeps l (x.keeps l h);
  made = λ l le below. ⊎_elim (λ inside. body.keeps l (x.made l le inside)) (λ behind_y. body.made l behind_y below) (cases_lt l (length y.labels));
  stays = λ is t. inside is t;
}
  where
    this : OpenCursor
    this = on kind c

    one : OpenSet
    one = this ∷ []

    none : closed c one ≡ []
    none = closed-opened this [] (λ k h. absurd (omega (arith, h.1)))

    inside : a.track.now ≡ Some [] → IsTracked a → ((with_op z (op.Close c)).track.now ≡ Some []) × IsTracked (with_op z (op.Close c))
    inside is t =
        let front = x.stays is t in
        let now : (with_op y o).track.now ≡ Some one = ap (λ w. behind w y.track.now) opens ∙ ap (behind (way.Opens this)) front.0 in
        let below_one : AreBelow y.cursors one = λ k h. ⊎_elim (λ old. front.1.now [] front.0 k old) (λ same. let number = number_is this k same in omega (arith, number, lt)) (Contains-push_cases [] this k h) in
        let opening : IsTracked (with_op y o) = tracked_op y o [] front.1 front.0 (stays_by o (way.Opens this) opens tt) (needs_none o [] needs) (λ l e. absurd (let no : None ≡ Some l = sym (ap target_of opens) ∙ e in cc)) (λ zs e. let same : one ≡ zs = some_is one zs (sym (ap (λ w. behind w (Some [])) opens) ∙ e) in subst (AreBelow y.cursors) same below_one) in
        let at = body.stays now opening in
        let more_below : AreBelow z.cursors [] = λ k h. let known = front.1.now [] front.0 k h in omega (arith, known, more) in (
          ap (behind (way.Closes c)) at.0 ∙ ap Some none,
          tracked_op z (op.Close c) one at.1 at.0 tt (needs_one (op.Close c) (need.Open c) one refl (kind, (0, omega arith, refl))) (λ l e. cc) (λ zs e. let same : [] ≡ zs = some_is [] zs (sym (ap Some none) ∙ e) in subst (AreBelow z.cursors) same more_below),
        )

-- from the start of a unit
pub steady_from : (units : List (Option unit_type.Unit)) {b : Draft} → SteadyAt [] (begun units) b → Steady [] [] (begun units) b
steady_from units {b} x = record {
  keeps = x.keeps;
  made = x.made;
  stays = λ xs is met t marks.
      let none : [] ≡ xs = some_is [] xs is in
      subst (λ ys. (b.track.now ≡ Some ys) × IsTracked b) none (x.stays refl t);
}
