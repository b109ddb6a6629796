-- What is open where the cursors of loops are, and between their opening and closing.
use Rattle.std.proofs.Common.{◌≡◌, ◌≢◌, ℕ, zero, suc, ◌+◌, ◌≤◌, ◌<◌, Bool, true, false, not, nat_eq, Contains, List, [], ◌∷◌, ◌++◌, cond, length, Some, refl, sym, ap, ◌∙◌, subst, arith, ◌⊎◌, inl, inr, ⊎_elim}
use Rattle.std.specs.Prelude.{All, map, slice_get}
use Rattle.std.specs.List.{flat_map, range_with_len}
use Rattle.std.proofs.Math.Nat.{eq-or-lt_of_le}
use Rattle.std.proofs.lemmas.Bool.{eqb-true, le-ltb}
use Rattle.std.proofs.lemmas.List.Concat.{flat_map-cons}
use Rattle.std.proofs.lemmas.List.Elements.{All-weaker, Contains-append_left, Contains-push, Contains-push_cases}
use Rattle.gen_loop.specs.Needs.{IsNamedBelow, NamesBelow, conjuncts_read, gathering_needs, loop_reads, loops_needs, plan_reads, rowids_needs}
use Rattle.gen_loop.specs.Stretches.{Apart, ArePlaced, AreSpread, opened_all, opened_each, places_of, with_cursors}
use Rattle.gen_loop.proofs.Cursors.{opened-labels}
use Rattle.gen_loop.proofs.Spread.{among-spread, placed-spread}
use Rattle.plan_tree.specs.declared.access.JoinPlan.{JoinPlan}
use Rattle.plan_tree.specs.declared.access.Loop.{Loop}
use Rattle.vm_code.specs.declared.op.Op.TheVariants as op
use Rattle.vm_code.specs.declared.way.Way.TheVariants as way
use Rattle.vm_code.specs.declared.open_cursor.CursorKind.TheVariants.{Sorter, Table}
use Rattle.vm_code.specs.declared.open_cursor.Need.{Need}
use Rattle.vm_code.specs.declared.open_cursor.Need.TheVariants as need
use Rattle.vm_code.specs.declared.open_cursor.OpenCursor.{OpenCursor}
use Rattle.vm_code.specs.Draft.{Draft, with_cursor, with_op}
use Rattle.vm_code.specs.Track.{Meets, OpenSet, behind, closed, closed_from, on, opened}
use Rattle.vm_code.specs.Tracked.{Among, AreBelow, IsTracked, Steady}
use Rattle.vm_code.proofs.Meeting.{met_both, met_head, met_left, met_more, met_none, met_right, met_tail}
use Rattle.vm_code.proofs.Tracks.{needs_none, tracked_op, tracked_registers}

-- ---- open cursors

one_of : (x y : OpenCursor) (xs : OpenSet) → Contains (x ∷ xs) y → (x ≡ y) ⊎ Contains xs y
one_of x y xs (zero, lt, e) = inl e
one_of x y xs (suc k, lt, e) = inr (k, omega (arith, lt), e)

one_more : (x y : OpenCursor) (xs : OpenSet) → Contains xs y → Contains (x ∷ xs) y
one_more x y xs h = (suc h.0, omega (arith, h.1), h.2)

-- what is still open where a cursor was closed was open, and other cursors still are
was_open : (c : ℕ) (xs : OpenSet) (y : OpenCursor) → Contains (closed c xs) y → Contains xs y
was_open c [] y h = h
was_open c (x ∷ xs) y h = by (nat_eq x.cursor c) (λ rest. was_open c xs y rest) h
  where
    by : (b : Bool) → (Contains (closed c xs) y → Contains xs y) → Contains (cond (not b) (x ∷ closed c xs) (closed c xs)) y → Contains (x ∷ xs) y
    by true was h = one_more x y xs (was h)
    by false was h =
        ⊎_elim (λ same. (zero, omega arith, same)) (λ rest. one_more x y xs (was rest)) (one_of x y (closed c xs) h)

still_open : (c : ℕ) (xs : OpenSet) (y : OpenCursor) → y.cursor ≢ c → Contains xs y → Contains (closed c xs) y
still_open c [] y ne h = h
still_open c (x ∷ xs) y ne h = by (nat_eq x.cursor c) refl (λ rest. still_open c xs y ne rest)
  where
    by : (b : Bool) → nat_eq x.cursor c ≡ b → (Contains xs y → Contains (closed c xs) y) → Contains (cond (not b) (x ∷ closed c xs) (closed c xs)) y
    by true e still =
        ⊎_elim (λ same. absurd (ne (ap (λ (v : OpenCursor). v.cursor) (sym same) ∙ eqb-true x.cursor c e))) still (one_of x y xs h)
    by false e still =
        ⊎_elim (λ same. (zero, omega arith, same)) (λ rest. one_more x y (closed c xs) (still rest)) (one_of x y xs h)

below-opened : (n : ℕ) (x : OpenCursor) (xs : OpenSet) → x.cursor < n → AreBelow n xs → AreBelow n (opened x xs)
below-opened n x xs lt below y h =
    ⊎_elim (λ old. below y (was_open x.cursor xs y old)) (λ same. subst (λ (v : OpenCursor). v.cursor < n) same lt) (Contains-push_cases (closed x.cursor xs) x y h)

-- ---- the tables of loops

-- the first cursors are open, each on a table
abbrev pub Tables : ℕ → OpenSet → Type 0
Tables n xs = (k : ℕ) → k < n → Contains xs (on Table k)

-- those in the places of loops are opened
abbrev tables_opened : List Loop → OpenSet → OpenSet
tables_opened [] xs = xs
tables_opened (l ∷ loops) xs = tables_opened loops (opened (on Table l.place) xs)

stays-opened : (loops : List Loop) (k : ℕ) (xs : OpenSet) → Apart k loops → Contains xs (on Table k) → Contains (tables_opened loops xs) (on Table k)
stays-opened [] k xs apart h = h
stays-opened (l ∷ loops) k xs apart h =
    stays-opened loops k (opened (on Table l.place) xs) apart.1 (Contains-append_left (closed l.place xs) (on Table l.place ∷ []) (on Table k) (still_open l.place xs (on Table k) (λ same. apart.0 (sym same)) h))

opened-there : (loops : List Loop) (n k : ℕ) (xs : OpenSet) → ArePlaced n loops → Among (places_of loops) k → Contains (tables_opened loops xs) (on Table k)
opened-there [] n k xs placed none = absurd none
opened-there (l ∷ loops) n k xs placed among =
    let c = l.place in
    let now = opened (on Table c) xs in
    ⊎_elim (λ same. subst (λ j. Contains (tables_opened loops now) (on Table j)) same (stays-opened loops c now placed.2 (Contains-push (closed c xs) (on Table c)))) (λ more. opened-there loops n k now placed.3 more) among

each-tracked : (loops : List Loop) (d : Draft) (n : ℕ) (xs : OpenSet) → n ≤ d.cursors → ArePlaced n loops → d.track.now ≡ Some xs → IsTracked d → ((opened_each d loops).track.now ≡ Some (tables_opened loops xs)) × IsTracked (opened_each d loops)
each-tracked [] d n xs le placed is t = (is, t)
each-tracked (l ∷ loops) d n xs le placed is t =
    let c = l.place in
    let o = op.OpenRead c l.table in
    let d1 = with_op d o in
    let ys : OpenSet = opened (on Table c) xs in
    let more : AreBelow d.cursors ys = below-opened d.cursors (on Table c) xs (omega (arith, placed.0, le)) (t.now xs is) in
    let reads : IsTracked d1 = tracked_op d o xs t is tt (needs_none o xs refl) (λ k e. cc) (λ zs e. let same : Some ys ≡ Some zs = e in subst (AreBelow d.cursors) (cc) more) in
    each-tracked loops d1 n ys le placed.3 (ap (behind (way.Opens (on Table c))) is) reads

-- code opens cursors, whatever was open, and what is found open behind it
pub record Opens (a z : Draft) (Found : OpenSet → Type 0) : Type 0 where
  pub labels : z.labels ≡ a.labels
  pub opens : (xs : OpenSet) → a.track.now ≡ Some xs → IsTracked a → (ys : OpenSet) × (z.track.now ≡ Some ys) × Found ys × IsTracked z

pub opens-loops : (loops : List Loop) (a : Draft) → AreSpread loops → Opens a (opened_all a loops) (Tables (length loops))
opens-loops loops a spread = record {
  labels = opened-labels loops a;
  opens = λ xs is t.
      let n = length loops in
      let wide : IsTracked (with_cursors a n) = tracked_registers a a.next a.most (a.cursors + n) (omega arith) t in
      let placed = placed-spread loops (a.cursors + n) spread (omega arith) in
      let all = each-tracked loops (with_cursors a n) (a.cursors + n) xs (omega arith) placed is wide in
      (tables_opened loops xs, all.0, (λ k lt. opened-there loops (a.cursors + n) k xs placed (among-spread loops k spread lt)), all.1);
}

-- with a sorter's cursor behind the others
abbrev pub with_sorter : Draft → ℕ → Draft
with_sorter b c = with_op (with_cursor b) (op.SorterOpen c)

abbrev pub AndSorter : ℕ → OpenSet → Type 0
AndSorter n xs = Tables n xs × Contains xs (on Sorter n)

pub opens-sorter : (a b : Draft) (c : ℕ) → c ≡ b.cursors → Opens a b (Tables c) → Opens a (with_sorter b c) (AndSorter c)
opens-sorter a b c c_is opens = record {
  labels = opens.labels;
  opens = λ xs is t.
      let o = op.SorterOpen c in
      let before = opens.opens xs is t in
      let ys = before.0 in
      let more : OpenSet = opened (on Sorter c) ys in
      let was : AreBelow (b.cursors + 1) ys = λ y h. let lt = before.3.now ys before.1 y h in omega (arith, lt) in
      let below : AreBelow (b.cursors + 1) more = below-opened (b.cursors + 1) (on Sorter c) ys (omega (arith, c_is)) was in
      let wider : IsTracked (with_cursor b) = tracked_registers b b.next b.most (b.cursors + 1) (omega arith) before.3 in
      let now : IsTracked (with_sorter b c) = tracked_op (with_cursor b) o ys wider before.1 tt (needs_none o ys refl) (λ k e. cc) (λ zs e. let same : Some more ≡ Some zs = e in subst (AreBelow (b.cursors + 1)) (cc) below) in
      let tables : Tables c more = λ k lt. Contains-append_left (closed c ys) (on Sorter c ∷ []) (on Table k) (still_open c ys (on Table k) (λ same. absurd (omega (arith, same, lt))) (before.2 k lt)) in
      (more, ap (behind (way.Opens (on Sorter c))) before.1, (tables, Contains-push (closed c ys) (on Sorter c)), now);
}

-- ---- what is needed there

nothing_met : (n : ℕ) (own : Need) → Meets [] own → IsNamedBelow n own
nothing_met n (need.Open c) met = absurd (let lt = met.1.1 in omega (arith, lt))
nothing_met n (need.Table c) met = absurd (let lt = met.1 in omega (arith, lt))
nothing_met n (need.Rows c) met =
    ⊎_elim (λ table. absurd (let lt = table.1 in omega (arith, lt))) (λ row. absurd (let lt = row.1 in omega (arith, lt))) met
nothing_met n (need.Sorter c) met = absurd (let lt = met.1 in omega (arith, lt))

-- where nothing is open that is needed, nothing is needed
pub names-nothing : (n : ℕ) (needs : List Need) → All (Meets []) needs → NamesBelow n needs
names-nothing n needs met = All-weaker (Meets []) (IsNamedBelow n) (nothing_met n) needs met

named_met : (n : ℕ) (ys : OpenSet) → Tables n ys → (own : Need) → IsNamedBelow n own → Meets ys own
named_met n ys tables (need.Open c) never = absurd never
named_met n ys tables (need.Table c) never = absurd never
named_met n ys tables (need.Rows c) lt = inl (tables c lt)
named_met n ys tables (need.Sorter c) never = absurd never

-- rows of the first items are there
pub met-named : (n : ℕ) (ys : OpenSet) (needs : List Need) → Tables n ys → NamesBelow n needs → All (Meets ys) needs
met-named n ys needs tables names = All-weaker (IsNamedBelow n) (Meets ys) (named_met n ys tables) needs names

met-loops : (n : ℕ) (ys : OpenSet) (loops : List Loop) (body : List Need) → Tables n ys → ArePlaced n loops → All (Meets ys) (flat_map loop_reads loops) → All (Meets ys) body → All (Meets ys) (loops_needs loops body)
met-loops n ys [] body tables placed reads met = met
met-loops n ys (l ∷ loops) body tables placed reads met =
    let both = subst (All (Meets ys)) (flat_map-cons loop_reads l loops) reads in
    let own = met_left ys (loop_reads l) (flat_map loop_reads loops) both in
    let rest = met-loops n ys loops body tables placed.3 (met_right ys (loop_reads l) (flat_map loop_reads loops) both) met in
    met_more ys (need.Table l.place) (loop_reads l ++ loops_needs loops body) (tables l.place placed.0) (met_both ys (loop_reads l) (loops_needs loops body) own rest)

pub met-plan : (p : JoinPlan) (body : List Need) (ys : OpenSet) → AreSpread p.loops → Tables (length p.loops) ys → All (Meets ys) (plan_reads p) → All (Meets ys) body → All (Meets ys) (gathering_needs p body)
met-plan p body ys spread tables reads met =
    let n = length p.loops in
    let checks = met_left ys (conjuncts_read p.checks) (flat_map loop_reads p.loops) reads in
    let rest = met_right ys (conjuncts_read p.checks) (flat_map loop_reads p.loops) reads in
    met_both ys (conjuncts_read p.checks) (loops_needs p.loops body) checks (met-loops n ys p.loops body tables (placed-spread p.loops n spread (omega arith)) rest met)

-- where expressions name nothing else, the loops of a plan find what they need
pub found-plan : (p : JoinPlan) (body : List Need) → AreSpread p.loops → NamesBelow (length p.loops) (plan_reads p ++ body) → (ys : OpenSet) → Tables (length p.loops) ys → All (Meets ys) (gathering_needs p body)
found-plan p body spread names ys tables =
    let all = met-named (length p.loops) ys (plan_reads p ++ body) tables names in
    met-plan p body ys spread tables (met_left ys (plan_reads p) body all) (met_right ys (plan_reads p) body all)

-- rowids of the first items
rows_met : (ys : OpenSet) (from count : ℕ) → ((k : ℕ) → k < from + count → Contains ys (on Table k)) → All (Meets ys) (map need.Rows (range_with_len from count))
rows_met ys from zero tables = met_none ys
rows_met ys from (suc count) tables =
    met_more ys (need.Rows from) (map need.Rows (range_with_len (from + 1) count)) (inl (tables from (omega arith))) (rows_met ys (from + 1) count (λ k lt. tables k (omega (arith, lt))))

pub met-rowids : (n : ℕ) (ys : OpenSet) → Tables n ys → All (Meets ys) (rowids_needs n)
met-rowids n ys tables = rows_met ys 0 n (λ k lt. tables k (omega (arith, lt)))

-- the first cursors on tables
abbrev pub tables_needs : ℕ → List Need
tables_needs width = map need.Table (range_with_len 0 width)

tables_met : (ys : OpenSet) (from count : ℕ) → ((k : ℕ) → k < from + count → Contains ys (on Table k)) → All (Meets ys) (map need.Table (range_with_len from count))
tables_met ys from zero tables = met_none ys
tables_met ys from (suc count) tables =
    met_more ys (need.Table from) (map need.Table (range_with_len (from + 1) count)) (tables from (omega arith)) (tables_met ys (from + 1) count (λ k lt. tables k (omega (arith, lt))))

pub met-tables : (n : ℕ) (ys : OpenSet) → Tables n ys → All (Meets ys) (tables_needs n)
met-tables n ys tables = tables_met ys 0 n (λ k lt. tables k (omega (arith, lt)))

tables_there : (ys : OpenSet) (from count k : ℕ) → from ≤ k → k < from + count → All (Meets ys) (map need.Table (range_with_len from count)) → Contains ys (on Table k)
tables_there ys from zero k le lt met = absurd (omega (arith, le, lt))
tables_there ys from (suc count) k le lt met =
    let rest = map need.Table (range_with_len (from + 1) count) in
    ⊎_elim (λ same. subst (λ j. Contains ys (on Table j)) same (met_head ys (need.Table from) rest met)) (λ more. tables_there ys (from + 1) count k (omega (arith, more)) (omega (arith, lt)) (met_tail ys (need.Table from) rest met)) (eq-or-lt_of_le le)

pub tables-there : (n : ℕ) (ys : OpenSet) → All (Meets ys) (tables_needs n) → Tables n ys
tables-there n ys met k lt = tables_there ys 0 n k (omega arith) (omega (arith, lt)) met

-- ---- between the opening of cursors and the closing of all

none_below : (xs : OpenSet) → AreBelow 0 xs → xs ≡ []
none_below [] below = refl
none_below (x ∷ xs) below = absurd (let lt = below x (0, omega arith, refl) in omega (arith, lt))

none_left : (xs : OpenSet) → closed_from 0 xs ≡ []
none_left [] = refl
none_left (x ∷ xs) =
    ap (λ b. cond b (x ∷ closed_from 0 xs) (closed_from 0 xs)) (le-ltb x.cursor 0 (omega arith)) ∙ none_left xs

-- the cursors are the first ones, and code between finds what it needs wherever what is said of the whole holds
pub st_closed : {more needs : List Need} {Found : OpenSet → Type 0} (a z y : Draft) → a.cursors ≡ 0 → Opens a z Found → (All (Meets []) more → (ys : OpenSet) → Found ys → All (Meets ys) needs) → Steady needs [] z y → Steady more [] a (with_op y (op.CloseFrom 0))
st_closed {more} {needs} {Found} a z y first opens finds body = record {
  keeps = λ l is. body.keeps l (subst (λ ls. (place : ℕ) × (slice_get ls l ≡ Some (Some place))) (sym opens.labels) is);
  made = λ l le lt. body.made l (omega (arith, le, ap length opens.labels)) lt;
  stays = λ xs is met t marks.
      let close = op.CloseFrom 0 in
      let none = none_below xs (subst (λ n. AreBelow n xs) first (t.now xs is)) in
      let before = opens.opens xs is t in
      let there = finds (subst (λ (v : OpenSet). All (Meets v) more) none met) before.0 before.2 in
      let now = body.stays before.0 before.1 there before.3 (λ l no. absurd no) in
      let back : closed_from 0 before.0 ≡ xs = none_left before.0 ∙ sym none in (
        ap (behind (way.ClosesFrom 0)) now.0 ∙ ap Some back,
        tracked_op y close before.0 now.1 now.0 tt (needs_none close before.0 refl) (λ l e. cc) (λ zs e k h.
            let same : Some (closed_from 0 before.0) ≡ Some zs = e in
            let is : closed_from 0 before.0 ≡ zs = cc in
            let left : zs ≡ [] = sym is ∙ none_left before.0 in
            absurd (let lt = (subst (λ (v : OpenSet). Contains v k) left h).1 in omega (arith, lt))),
      );
}
