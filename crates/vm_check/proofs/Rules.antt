-- The tests of sets and instructions tell exactly what the rules say.
use Rattle.std.proofs.Common.{◌≡◌, ℕ, zero, suc, ◌+◌, ◌≤◌, ◌<◌, List, [], ◌∷◌, ◌++◌, length, Bool, true, false, not, ◌&&◌, ◌||◌, Some, None, refl, sym, ap, ◌∙◌, subst, arith, inl, inr, ◌⊎◌, ⊎_elim, append-nil}
use Rattle.std.specs.Prelude.{All, Contains, filter, nat_eq, nat_le, nat_lt, slice_get, slice_index_or}
use Rattle.std.specs.Bool.{Decides}
use Rattle.std.specs.List.{list_all, list_any}
use Rattle.std.specs.declared.option.Option.{Option}
use Rattle.std.proofs.lemmas.Bool.{both_ways, cases_Bool, leb-true, le-leb, not-true, not_from_false, or_cases, or_left, or_right}
use Rattle.std.proofs.lemmas.Bool.Decides.{Decides-and, Decides-by_and, Decides-by_or, Decides-eqb, Decides-like, Decides-ltb, Decides-or}
use Rattle.std.proofs.lemmas.List.Elements.{All-contains, Contains-get_or, Decides-contains}
use Rattle.vm_code.specs.declared.open_cursor.CursorKind.{CursorKind}
use Rattle.vm_code.specs.declared.open_cursor.CursorKind.TheVariants.{Row, Sorter, Table}
use Rattle.vm_code.specs.declared.open_cursor.Need.{Need}
use Rattle.vm_code.specs.declared.open_cursor.Need.TheVariants as need
use Rattle.vm_code.specs.declared.open_cursor.OpenCursor.{OpenCursor}
use Rattle.vm_code.specs.declared.program.Program.{Program}
use Rattle.vm_code.specs.declared.program.Unit.{Unit}
use Rattle.vm_code.specs.declared.program.UnitKind.{UnitKind}
use Rattle.vm_code.specs.declared.program.UnitKind.TheVariants.{Called, Main}
use Rattle.vm_code.specs.declared.way.Way.{Way}
use Rattle.vm_code.specs.declared.way.Way.TheVariants as way
use Rattle.vm_code.specs.Accepted.{IsOpenAt, UnitsFit}
use Rattle.vm_code.specs.Machine.{unit_at}
use Rattle.vm_code.specs.Track.{Meets, OpenSet, behind, on, target_of}
use Rattle.vm_code.specs.Tracked.{AreBelow}
use Rattle.vm_check.specs.Tests.{are_below, falls_well, goes_on, holds, is_called, is_cursor, is_kind, is_met, is_reached_with, is_set, jumps_well, leads_well, left, set_at, stays, takes, units_well}

-- ---- sets

is_kind_tells : (a b : CursorKind) → Decides (is_kind a b) (a ≡ b)
is_kind_tells Table Table = (λ e. refl, λ e. refl)
is_kind_tells Table Row = (λ e. absurd (cc), λ e. absurd (cc))
is_kind_tells Table Sorter = (λ e. absurd (cc), λ e. absurd (cc))
is_kind_tells Row Table = (λ e. absurd (cc), λ e. absurd (cc))
is_kind_tells Row Row = (λ e. refl, λ e. refl)
is_kind_tells Row Sorter = (λ e. absurd (cc), λ e. absurd (cc))
is_kind_tells Sorter Table = (λ e. absurd (cc), λ e. absurd (cc))
is_kind_tells Sorter Row = (λ e. absurd (cc), λ e. absurd (cc))
is_kind_tells Sorter Sorter = (λ e. refl, λ e. refl)

same_cursor : (k l : CursorKind) (a b : ℕ) → k ≡ l → a ≡ b → on k a ≡ on l b
same_cursor k l a b e f = cc

is_cursor_tells : (x y : OpenCursor) → Decides (is_cursor x y) (x ≡ y)
is_cursor_tells x y = Decides-like (is_cursor x y) (λ h. same_cursor x.kind y.kind x.cursor y.cursor h.1 h.0) (λ e. (ap (λ (z : OpenCursor). z.cursor) e, ap (λ (z : OpenCursor). z.kind) e)) (Decides-and (nat_eq x.cursor y.cursor) (is_kind x.kind y.kind) (Decides-eqb x.cursor y.cursor) (is_kind_tells x.kind y.kind))

same_lists : (x y : OpenCursor) (xs ys : OpenSet) → x ≡ y → xs ≡ ys → x ∷ xs ≡ y ∷ ys
same_lists x y xs ys e f = cc

same_heads : (x y : OpenCursor) (xs ys : OpenSet) → x ∷ xs ≡ y ∷ ys → (x ≡ y) × (xs ≡ ys)
same_heads x y xs ys e = (cc, cc)

pub is_set_tells : (xs ys : OpenSet) → Decides (is_set xs ys) (xs ≡ ys)
is_set_tells [] [] = (λ e. refl, λ e. refl)
is_set_tells [] (y ∷ ys) = (λ e. absurd (cc), λ e. absurd (cc))
is_set_tells (x ∷ xs) [] = (λ e. absurd (cc), λ e. absurd (cc))
is_set_tells (x ∷ xs) (y ∷ ys) = Decides-like (is_cursor x y && is_set xs ys) (λ h. same_lists x y xs ys h.0 h.1) (λ e. same_heads x y xs ys e) (Decides-and (is_cursor x y) (is_set xs ys) (is_cursor_tells x y) (is_set_tells xs ys))

some_same : (xs ys : OpenSet) → Some ys ≡ Some xs → xs ≡ ys
some_same xs ys e = cc

pub reached_tells : (o : Option OpenSet) (xs : OpenSet) → Decides (is_reached_with o xs) (o ≡ Some xs)
reached_tells None xs = (λ e. absurd (cc), λ e. absurd (cc))
reached_tells (Some ys) xs = Decides-like (is_set xs ys) (λ e. ap Some (sym e)) (λ e. some_same xs ys e) (is_set_tells xs ys)

-- a set that is found, and one that stands in its place
pub set_found : (sets : List (Option OpenSet)) (k : ℕ) (xs : OpenSet) → slice_index_or sets k None ≡ Some xs → slice_get sets k ≡ Some (Some xs)
set_found [] k xs e = absurd (cc)
set_found (s ∷ sets) zero xs e = ap Some e
set_found (s ∷ sets) (suc k) xs e = set_found sets k xs e

inner_same : (s : Option OpenSet) (xs : OpenSet) → Some s ≡ Some (Some xs) → s ≡ Some xs
inner_same s xs e = cc

pub set_there : (sets : List (Option OpenSet)) (k : ℕ) (xs : OpenSet) → slice_get sets k ≡ Some (Some xs) → slice_index_or sets k None ≡ Some xs
set_there [] k xs e = absurd (cc)
set_there (s ∷ sets) zero xs e = inner_same s xs e
set_there (s ∷ sets) (suc k) xs e = set_there sets k xs e

-- behind the last instruction there is none
beyond : (sets : List (Option OpenSet)) (k : ℕ) → length sets ≤ k → slice_index_or sets k None ≡ None
beyond [] k le = refl
beyond (s ∷ sets) zero le = absurd (omega arith)
beyond (s ∷ sets) (suc k) le = beyond sets k (omega arith)

pub falls_off : (x : Unit) (place : ℕ) (xs : OpenSet) (w : Way) → goes_on w ≡ true → length x.sets ≤ place → falls_well x place xs w ≡ false
falls_off x place xs w goes le = rw (goes, beyond x.sets (place + 1) (omega arith)) refl

pub leads_tells : (x : Unit) (place : ℕ) (w : Way) (xs : OpenSet) → Decides (leads_well x place w xs) (IsOpenAt x place (left w xs))
leads_tells x place w xs = Decides-like (leads_well x place w xs) (set_found x.sets place (left w xs)) (set_there x.sets place (left w xs)) (reached_tells (set_at x place) (left w xs))

-- ---- what is left open

all_kept : (p : OpenCursor → Bool) → ((x : OpenCursor) → p x ≡ true) → (xs : OpenSet) → filter p xs ≡ xs
all_kept p all [] = refl
all_kept p all (x ∷ xs) = rw (all x) (ap (λ l. x ∷ l) (all_kept p all xs))

-- the same, where an instruction changes nothing
unchanged : (w : Way) → ((x : OpenCursor) → stays w x ≡ true) → (xs : OpenSet) → filter (stays w) xs ++ [] ≡ xs
unchanged w all xs = append-nil (filter (stays w) xs) ∙ all_kept (stays w) all xs

left_behind : (w : Way) (xs : OpenSet) → goes_on w ≡ true → behind w (Some xs) ≡ Some (left w xs)
left_behind way.Continues xs e = ap Some (sym (unchanged way.Continues (λ x. refl) xs))
left_behind (way.Opens y) xs e = refl
left_behind (way.Closes c) xs e = ap Some (sym (append-nil (filter (stays (way.Closes c)) xs)))
left_behind (way.ClosesFrom c) xs e = ap Some (sym (append-nil (filter (stays (way.ClosesFrom c)) xs)))
left_behind (way.Forks l) xs e = ap Some (sym (unchanged (way.Forks l) (λ x. refl) xs))
left_behind (way.Jumps l) xs e = absurd (cc)
left_behind (way.Calls u n to) xs e = ap Some (sym (unchanged (way.Calls u n to) (λ x. refl) xs))
left_behind way.Leaves xs e = absurd (cc)
left_behind (way.Returns n) xs e = absurd (cc)

goes_behind : (w : Way) (xs ys : OpenSet) → behind w (Some xs) ≡ Some ys → goes_on w ≡ true
goes_behind way.Continues xs ys e = refl
goes_behind (way.Opens y) xs ys e = refl
goes_behind (way.Closes c) xs ys e = refl
goes_behind (way.ClosesFrom c) xs ys e = refl
goes_behind (way.Forks l) xs ys e = refl
goes_behind (way.Jumps l) xs ys e = absurd (cc)
goes_behind (way.Calls u n to) xs ys e = refl
goes_behind way.Leaves xs ys e = absurd (cc)
goes_behind (way.Returns n) xs ys e = absurd (cc)

-- ---- where an instruction leads

abbrev pub Falls : Unit → ℕ → OpenSet → Way → Type 0
Falls x place xs w = (ys : OpenSet) → behind w (Some xs) ≡ Some ys → IsOpenAt x (place + 1) ys

pub falls_tells : (x : Unit) (place : ℕ) (xs : OpenSet) (w : Way) → Decides (falls_well x place xs w) (Falls x place xs w)
falls_tells x place xs w = (to, from)
  where
    there : leads_well x (place + 1) w xs ≡ true → Falls x place xs w
    there e ys b =
        let same : left w xs ≡ ys = some_same (left w xs) ys (sym b ∙ left_behind w xs (goes_behind w xs ys b)) in
        subst (IsOpenAt x (place + 1)) same ((leads_tells x (place + 1) w xs).0 e)

    to : falls_well x place xs w ≡ true → Falls x place xs w
    to e ys b =
        ⊎_elim (λ stops. absurd (both_ways (goes_on w) (not-true (goes_on w) stops) (goes_behind w xs ys b))) (λ leads. there leads ys b) (or_cases (not (goes_on w)) (leads_well x (place + 1) w xs) e)

    from : Falls x place xs w → falls_well x place xs w ≡ true
    from f =
        ⊎_elim (λ goes. or_right (not (goes_on w)) (leads_well x (place + 1) w xs) ((leads_tells x (place + 1) w xs).1 (f (left w xs) (left_behind w xs goes)))) (λ stops. or_left (not (goes_on w)) (leads_well x (place + 1) w xs) (not_from_false (goes_on w) stops)) (cases_Bool (goes_on w))

abbrev pub Jumps : Unit → OpenSet → Way → Type 0
Jumps x xs w = (target : ℕ) → target_of w ≡ Some target → IsOpenAt x target xs

-- an instruction that jumps leaves the same open
jumps_like : (x : Unit) (xs : OpenSet) (w : Way) (l : ℕ) → target_of w ≡ Some l → left w xs ≡ xs → Decides (leads_well x l w xs) (Jumps x xs w)
jumps_like x xs w l is same = Decides-like (leads_well x l w xs) to (λ f. subst (IsOpenAt x l) (sym same) (f l is)) (leads_tells x l w xs)
  where
    to : IsOpenAt x l (left w xs) → Jumps x xs w
    to h target e =
        let there : l ≡ target = cc in
        subst (λ k. IsOpenAt x k xs) there (subst (IsOpenAt x l) same h)

pub jumps_tells : (x : Unit) (xs : OpenSet) (w : Way) → Decides (jumps_well x xs w) (Jumps x xs w)
jumps_tells x xs way.Continues = (λ e target t. absurd (cc), λ f. refl)
jumps_tells x xs (way.Opens y) = (λ e target t. absurd (cc), λ f. refl)
jumps_tells x xs (way.Closes c) = (λ e target t. absurd (cc), λ f. refl)
jumps_tells x xs (way.ClosesFrom c) = (λ e target t. absurd (cc), λ f. refl)
jumps_tells x xs (way.Forks l) = jumps_like x xs (way.Forks l) l refl (unchanged (way.Forks l) (λ x. refl) xs)
jumps_tells x xs (way.Jumps l) = jumps_like x xs (way.Jumps l) l refl (unchanged (way.Jumps l) (λ x. refl) xs)
jumps_tells x xs (way.Calls u n to) = (λ e target t. absurd (cc), λ f. refl)
jumps_tells x xs way.Leaves = (λ e target t. absurd (cc), λ f. refl)
jumps_tells x xs (way.Returns n) = (λ e target t. absurd (cc), λ f. refl)

-- ---- what is needed of cursors

holds_tells : (xs : OpenSet) (x : OpenCursor) → Decides (holds xs x) (Contains xs x)
holds_tells xs x = Decides-contains xs x (holds xs x) (Decides-by_or (is_cursor x) (λ y. y ≡ x) (list_any (is_cursor x)) (λ y. Decides-like (is_cursor x y) sym sym (is_cursor_tells x y)) refl (λ _ _. refl) xs)

abbrev SomeKind : OpenSet → ℕ → Type 0
SomeKind xs c = (kind : CursorKind) × Contains xs (on kind c)

kind_to : (xs : OpenSet) (c : ℕ) → (Contains xs (on Table c) ⊎ Contains xs (on Row c)) ⊎ Contains xs (on Sorter c) → SomeKind xs c
kind_to xs c h = ⊎_elim (λ two. ⊎_elim (λ a. (Table, a)) (λ b. (Row, b)) two) (λ d. (Sorter, d)) h

kind_from : (xs : OpenSet) (c : ℕ) (kind : CursorKind) → Contains xs (on kind c) → (Contains xs (on Table c) ⊎ Contains xs (on Row c)) ⊎ Contains xs (on Sorter c)
kind_from xs c Table h = inl (inl h)
kind_from xs c Row h = inl (inr h)
kind_from xs c Sorter h = inr h

rows_tells : (xs : OpenSet) (c : ℕ) → Decides (holds xs (on Table c) || holds xs (on Row c)) (Contains xs (on Table c) ⊎ Contains xs (on Row c))
rows_tells xs c = Decides-or (holds xs (on Table c)) (holds xs (on Row c)) (holds_tells xs (on Table c)) (holds_tells xs (on Row c))

is_met_tells : (xs : OpenSet) (n : Need) → Decides (is_met xs n) (Meets xs n)
is_met_tells xs (need.Open c) = Decides-like (is_met xs (need.Open c)) (kind_to xs c) (λ h. kind_from xs c h.0 h.1) (Decides-or (holds xs (on Table c) || holds xs (on Row c)) (holds xs (on Sorter c)) (rows_tells xs c) (holds_tells xs (on Sorter c)))
is_met_tells xs (need.Table c) = holds_tells xs (on Table c)
is_met_tells xs (need.Rows c) = rows_tells xs c
is_met_tells xs (need.Sorter c) = holds_tells xs (on Sorter c)

pub needs_tell : (xs : OpenSet) (needs : List Need) → Decides (list_all (is_met xs) needs) (All (Meets xs) needs)
needs_tell xs needs = Decides-by_and (is_met xs) (Meets xs) (list_all (is_met xs)) (is_met_tells xs) refl (λ _ _. refl) needs

-- another test of the same
pub same_test : (xs : OpenSet) (needs : List Need) (b : Bool) → (b ≡ true → All (Meets xs) needs) → (b ≡ false → ¬ (All (Meets xs) needs)) → b ≡ list_all (is_met xs) needs
same_test xs needs true met lacking = sym ((needs_tell xs needs).1 (met refl))
same_test xs needs false met lacking = ⊎_elim (λ t. absurd (lacking refl ((needs_tell xs needs).0 t))) sym (cases_Bool (list_all (is_met xs) needs))

pub below_tells : (n : ℕ) (xs : OpenSet) → Decides (are_below n xs) (AreBelow n xs)
below_tells n xs = Decides-like (are_below n xs) (λ all x h. All-contains Below xs x all h) (λ f k d lt. f (slice_index_or xs k d) (Contains-get_or xs k d lt)) (Decides-by_and (λ (x : OpenCursor). nat_lt x.cursor n) Below (list_all (λ (x : OpenCursor). nat_lt x.cursor n)) (λ x. Decides-ltb x.cursor n) refl (λ _ _. refl) xs)
  where
    Below : OpenCursor → Type 0
    Below x = x.cursor < n

-- ---- units

pub is_called_tells : (kind : UnitKind) → Decides (is_called kind) (kind ≡ Called)
is_called_tells Called = (λ e. refl, λ e. refl)
is_called_tells Main = (λ e. absurd (cc), λ e. absurd (cc))

abbrev Takes : ℕ → ℕ → ℕ → Option Unit → Type 0
Takes registers n to o = (y : Unit) × (o ≡ Some y) × (y.kind ≡ Called) × (y.arguments ≡ n) × (to + y.results ≤ registers)

takes_tells : (registers n to : ℕ) (o : Option Unit) → Decides (takes registers n to o) (Takes registers n to o)
takes_tells registers n to None = (λ e. absurd (cc), λ h. absurd (none h.0 h.1))
  where
    none : (y : Unit) → None ≡ Some y → ⊥
    none y e = cc
takes_tells registers n to (Some y) = Decides-like (takes registers n to (Some y)) (λ h. (y, refl, h.0.0, h.0.1, h.1)) (λ h. by h.0 h.1 h.2 h.3 h.4) (Decides-and (is_called y.kind && nat_eq y.arguments n) (nat_le (to + y.results) registers) (Decides-and (is_called y.kind) (nat_eq y.arguments n) (is_called_tells y.kind) (Decides-eqb y.arguments n)) (leb-true (to + y.results) registers, le-leb (to + y.results) registers))
  where
    by : (z : Unit) → Some y ≡ Some z → z.kind ≡ Called → z.arguments ≡ n → to + z.results ≤ registers → ((y.kind ≡ Called) × (y.arguments ≡ n)) × (to + y.results ≤ registers)
    by z e kind arguments results =
        let same : z ≡ y = cc in
        subst (λ (v : Unit). ((v.kind ≡ Called) × (v.arguments ≡ n)) × (to + v.results ≤ registers)) same ((kind, arguments), results)

pub units_tell : (p : Program) (x : Unit) (w : Way) → Decides (units_well p x w) (UnitsFit p x w)
units_tell p x way.Continues = (λ e. tt, λ h. refl)
units_tell p x (way.Opens y) = (λ e. tt, λ h. refl)
units_tell p x (way.Closes c) = (λ e. tt, λ h. refl)
units_tell p x (way.ClosesFrom c) = (λ e. tt, λ h. refl)
units_tell p x (way.Forks l) = (λ e. tt, λ h. refl)
units_tell p x (way.Jumps l) = (λ e. tt, λ h. refl)
units_tell p x (way.Calls u n to) = takes_tells x.registers n to (unit_at p u)
units_tell p x way.Leaves = (λ e. tt, λ h. refl)
units_tell p x (way.Returns n) = Decides-and (is_called x.kind) (nat_eq x.results n) (is_called_tells x.kind) (Decides-eqb x.results n)
