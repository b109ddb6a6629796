-- The cursors of a set stand as it says, whatever is opened, moved and closed.
use Rattle.std.proofs.Common.{◌≡◌, ◌≢◌, ℕ, zero, suc, ◌<◌, inl, inr, List, [], ◌∷◌, length, Bool, true, not, refl, sym, ap, ◌∙◌, subst, arith, ⊎_elim}
use Rattle.std.specs.Prelude.{Contains, filter, nat_eq, nat_lt, slice_set}
use Rattle.std.proofs.lemmas.Bool.{cases_eq, eq-eqb, ltb-true, not-true, both_ways}
use Rattle.std.proofs.lemmas.List.{get_or-set_same, get_or-set_other}
use Rattle.std.proofs.lemmas.List.Elements.{All-contains, All-contains_itself, All-filter, Contains-push_cases, filter_passes}
use Rattle.vm_code.specs.declared.open_cursor.CursorKind.{CursorKind}
use Rattle.vm_code.specs.declared.open_cursor.CursorKind.TheVariants.{Row, Sorter, Table}
use Rattle.vm_code.specs.declared.open_cursor.Need.{Need}
use Rattle.vm_code.specs.declared.open_cursor.Need.TheVariants as need
use Rattle.vm_code.specs.declared.open_cursor.OpenCursor.{OpenCursor}
use Rattle.vm_code.specs.Machine as machine
use Rattle.vm_code.specs.Machine.{Cursor, Closed, cursor_at}
use Rattle.vm_code.specs.Track.{Meets, OpenSet, closed, closed_from, on, opened}
use Rattle.vm_check.specs.Missing.{IsThere, StandsAs, stands_on}

-- they stand as the set says
abbrev pub Covers : OpenSet → List Cursor → Type 0
Covers xs cursors = (x : OpenCursor) → Contains xs x → StandsAs (cursor_at cursors x.cursor) x.kind

-- what a filter keeps was there, and passes
pub kept_was : (p : OpenCursor → Bool) (xs : OpenSet) (x : OpenCursor) → Contains (filter p xs) x → Contains xs x
kept_was p xs x h = All-contains (Contains xs) (filter p xs) x (All-filter p (Contains xs) xs (All-contains_itself xs)) h

pub kept_passes : (p : OpenCursor → Bool) (xs : OpenSet) (x : OpenCursor) → Contains (filter p xs) x → p x ≡ true
kept_passes p xs x h = All-contains (λ y. p y ≡ true) (filter p xs) x (filter_passes p xs) h

-- a cursor that stands is there
pub stands_below : (cursors : List Cursor) (c : ℕ) (kind : CursorKind) → StandsAs (cursor_at cursors c) kind → c < length cursors
stands_below [] c kind e = absurd (cc)
stands_below (x ∷ cursors) zero kind e = omega arith
stands_below (x ∷ cursors) (suc c) kind e = omega (arith, stands_below cursors c kind e)

-- two numbers that a test tells apart
apart : (a b : ℕ) → not (nat_eq a b) ≡ true → b ≢ a
apart a b e same = both_ways (nat_eq a b) (not-true (nat_eq a b) e) (eq-eqb a b (sym same))

-- one moves
pub covers_moved : (xs : OpenSet) (cursors : List Cursor) (c : ℕ) (kind : CursorKind) (y : Cursor) → StandsAs (cursor_at cursors c) kind → StandsAs y kind → Covers xs cursors → Covers xs (slice_set cursors c y)
covers_moved xs cursors c kind y was now covers x h = ⊎_elim (λ (e : c ≡ x.cursor). here e) (λ ne. ap stands_on (get_or-set_other cursors c x.cursor y Closed (λ q. ne (sym q))) ∙ covers x h) (cases_eq c x.cursor)
  where
    here : c ≡ x.cursor → StandsAs (cursor_at (slice_set cursors c y) x.cursor) x.kind
    here e =
        let old : StandsAs (cursor_at cursors c) x.kind = subst (λ k. StandsAs (cursor_at cursors k) x.kind) (sym e) (covers x h) in
        let new : StandsAs y x.kind = now ∙ sym was ∙ old in
        subst (λ k. StandsAs (cursor_at (slice_set cursors c y) k) x.kind) e (ap stands_on (get_or-set_same cursors c y Closed (stands_below cursors c kind was)) ∙ new)

-- one is closed
pub covers_closed : (xs : OpenSet) (cursors : List Cursor) (c : ℕ) (y : Cursor) → Covers xs cursors → Covers (closed c xs) (slice_set cursors c y)
covers_closed xs cursors c y covers x h =
    let test : OpenCursor → Bool = λ (z : OpenCursor). not (nat_eq z.cursor c) in
    ap stands_on (get_or-set_other cursors c x.cursor y Closed (λ q. apart x.cursor c (kept_passes test xs x h) (sym q))) ∙ covers x (kept_was test xs x h)

-- one is opened
pub covers_opened : (xs : OpenSet) (cursors : List Cursor) (kind : CursorKind) (c : ℕ) (y : Cursor) → c < length cursors → StandsAs y kind → Covers xs cursors → Covers (opened (on kind c) xs) (slice_set cursors c y)
covers_opened xs cursors kind c y lt now covers x h = ⊎_elim (λ was. covers_closed xs cursors c y covers x was) (λ same. subst (λ (z : OpenCursor). StandsAs (cursor_at (slice_set cursors c y) z.cursor) z.kind) same (ap stands_on (get_or-set_same cursors c y Closed lt) ∙ now)) (Contains-push_cases (closed c xs) (on kind c) x h)

-- those from one on are closed
still : (c k : ℕ) (cursors : List Cursor) → k < c → cursor_at (machine.closed_from c cursors) k ≡ cursor_at cursors k
still c k [] lt = refl
still zero k (x ∷ cursors) lt = absurd (omega arith)
still (suc c) zero (x ∷ cursors) lt = refl
still (suc c) (suc k) (x ∷ cursors) lt = still c k cursors (omega arith)

pub closed_from_long : (c : ℕ) (cursors : List Cursor) → length (machine.closed_from c cursors) ≡ length cursors
closed_from_long c [] = refl
closed_from_long zero (x ∷ cursors) = ap suc (closed_from_long zero cursors)
closed_from_long (suc c) (x ∷ cursors) = ap suc (closed_from_long c cursors)

pub covers_closed_from : (xs : OpenSet) (cursors : List Cursor) (c : ℕ) → Covers xs cursors → Covers (closed_from c xs) (machine.closed_from c cursors)
covers_closed_from xs cursors c covers x h =
    let test : OpenCursor → Bool = λ (z : OpenCursor). nat_lt z.cursor c in
    ap stands_on (still c x.cursor cursors (ltb-true x.cursor c (kept_passes test xs x h))) ∙ covers x (kept_was test xs x h)

-- what is met in the set is there
pub met_is_there : (xs : OpenSet) (cursors : List Cursor) (n : Need) → Covers xs cursors → Meets xs n → IsThere cursors n
met_is_there xs cursors (need.Open c) covers h = (h.0, covers (on h.0 c) h.1)
met_is_there xs cursors (need.Table c) covers h = covers (on Table c) h
met_is_there xs cursors (need.Rows c) covers h = ⊎_elim (λ a. inl (covers (on Table c) a)) (λ b. inr (covers (on Row c) b)) h
met_is_there xs cursors (need.Sorter c) covers h = covers (on Sorter c) h
