-- The test of what is needed of cursors.
use Rattle.std.proofs.Common.{◌≡◌, ℕ, suc, ◌+◌, ◌<◌, Bool, true, false, ◌&&◌, ◌||◌, List, [], ◌∷◌, ◌++◌, length, map, take, All, Contains, refl, sym, ap, ◌∙◌, subst, arith, ◌⊎◌, inl, inr, ⊎_elim, nat_eq}
use Rattle.std.specs.Prelude.{slice_index_or}
use Rattle.std.specs.List.{flat_map, list_all}
use Rattle.std.proofs.lemmas.Bool.{eq-eqb, eqb-true}
use Rattle.std.proofs.lemmas.List.{append-nil, take_more}
use Rattle.std.proofs.lemmas.List.Concat.{flat_map-append, flat_map-cons}
use Rattle.std.proofs.lemmas.List.Folds.{list_all-append, list_any_at}
use Rattle.std.proofs.lemmas.List.Elements.{All-append, All-cons, All-contains, All-head, All-nil, All-tail}
use Rattle.vm_code.specs.declared.open_cursor.CursorKind.{CursorKind}
use Rattle.vm_code.specs.declared.open_cursor.CursorKind.TheVariants.{Row, Sorter, Table}
use Rattle.vm_code.specs.declared.open_cursor.Need.{Need}
use Rattle.vm_code.specs.declared.open_cursor.Need.TheVariants as need
use Rattle.vm_code.specs.declared.open_cursor.OpenCursor.{OpenCursor}
use Rattle.vm_code.specs.declared.operand.Operand.{Operand}
use Rattle.vm_code.specs.Needs.{is_kind, is_on, is_this, meets}
use Rattle.vm_code.specs.Track.{Meets, OpenSet, on, operand_needs}

-- ---- needs of lists

all_left : {X : Type 0} (P : X → Type 0) (xs ys : List X) → All P (xs ++ ys) → All P xs
all_left P [] ys all = All-nil P
all_left P (x ∷ xs) ys all =
    All-cons P x xs (All-head P x (xs ++ ys) all) (all_left P xs ys (All-tail P x (xs ++ ys) all))

all_right : {X : Type 0} (P : X → Type 0) (xs ys : List X) → All P (xs ++ ys) → All P ys
all_right P [] ys all = all
all_right P (x ∷ xs) ys all = all_right P xs ys (All-tail P x (xs ++ ys) all)

all_of : {X A : Type 0} (P : X → Type 0) (f : A → List X) (those : List A) → All (λ a. All P (f a)) those → All P (flat_map f those)
all_of P f [] all = All-nil P
all_of P f (a ∷ those) all =
    subst (All P) (sym (flat_map-cons f a those)) (All-append P (f a) (flat_map f those) (All-head (λ a. All P (f a)) a those all) (all_of P f those (All-tail (λ a. All P (f a)) a those all)))

all_each : {X A : Type 0} (P : X → Type 0) (f : A → List X) (those : List A) → All P (flat_map f those) → All (λ a. All P (f a)) those
all_each P f [] all = All-nil (λ a. All P (f a))
all_each P f (a ∷ those) all =
    let both = subst (All P) (flat_map-cons f a those) all in
    All-cons (λ a. All P (f a)) a those (all_left P (f a) (flat_map f those) both) (all_each P f those (all_right P (f a) (flat_map f those) both))

-- nothing is needed
pub met_none : (xs : OpenSet) → All (Meets xs) []
met_none xs = All-nil (Meets xs)

-- one thing, or one more
pub met_one : (xs : OpenSet) (need : Need) → Meets xs need → All (Meets xs) (need ∷ [])
met_one xs need met = All-cons (Meets xs) need [] met (All-nil (Meets xs))

pub met_more : (xs : OpenSet) (need : Need) (needs : List Need) → Meets xs need → All (Meets xs) needs → All (Meets xs) (need ∷ needs)
met_more xs need needs met all = All-cons (Meets xs) need needs met all

pub met_head : (xs : OpenSet) (need : Need) (needs : List Need) → All (Meets xs) (need ∷ needs) → Meets xs need
met_head xs need needs all = All-head (Meets xs) need needs all

pub met_tail : (xs : OpenSet) (need : Need) (needs : List Need) → All (Meets xs) (need ∷ needs) → All (Meets xs) needs
met_tail xs need needs all = All-tail (Meets xs) need needs all

-- one of those that are needed
pub met_among : (xs : OpenSet) (needs : List Need) (need : Need) → Contains needs need → All (Meets xs) needs → Meets xs need
met_among xs needs need inside all = All-contains (Meets xs) needs need all inside

-- what two lists need is what each of them needs
pub met_both : (xs : OpenSet) (needs more : List Need) → All (Meets xs) needs → All (Meets xs) more → All (Meets xs) (needs ++ more)
met_both xs needs more all rest = All-append (Meets xs) needs more all rest

pub met_left : (xs : OpenSet) (needs more : List Need) → All (Meets xs) (needs ++ more) → All (Meets xs) needs
met_left xs needs more all = all_left (Meets xs) needs more all

pub met_right : (xs : OpenSet) (needs more : List Need) → All (Meets xs) (needs ++ more) → All (Meets xs) more
met_right xs needs more all = all_right (Meets xs) needs more all

-- and so of many
pub met_all : {A : Type 0} (xs : OpenSet) (f : A → List Need) (those : List A) → All (λ a. All (Meets xs) (f a)) those → All (Meets xs) (flat_map f those)
met_all xs f those all = all_of (Meets xs) f those all

pub met_each : {A : Type 0} (xs : OpenSet) (f : A → List Need) (those : List A) → All (Meets xs) (flat_map f those) → All (λ a. All (Meets xs) (f a)) those
met_each xs f those all = all_each (Meets xs) f those all

-- cursors that are open on tables
abbrev pub tables : List ℕ → List Need
tables cs = map (λ c. need.Table c) cs

-- where a table is open rows are read
pub met_rows : (xs : OpenSet) (c : ℕ) → Meets xs (need.Table c) → Meets xs (need.Rows c)
met_rows xs c met = inl met

-- what is open on something is open
pub met_open : (xs : OpenSet) (kind : CursorKind) (c : ℕ) → Contains xs (on kind c) → Meets xs (need.Open c)
met_open xs kind c inside = (kind, inside)

-- ---- the test

and_left : (a b : Bool) → (a && b) ≡ true → a ≡ true
and_left true b e = refl
and_left false b e = cc

and_right : (a b : Bool) → (a && b) ≡ true → b ≡ true
and_right true b e = e
and_right false b e = cc

same_number : (m n : ℕ) → nat_eq m n ≡ true → m ≡ n
same_number m n e = eqb-true m n e

number_same : (n : ℕ) → nat_eq n n ≡ true
number_same n = eq-eqb n n refl

same_kind : (kind other : CursorKind) → is_kind kind other ≡ true → kind ≡ other
same_kind Table Table e = refl
same_kind Row Row e = refl
same_kind Sorter Sorter e = refl
same_kind Table Row e = cc
same_kind Table Sorter e = cc
same_kind Row Table e = cc
same_kind Row Sorter e = cc
same_kind Sorter Table e = cc
same_kind Sorter Row e = cc

kind_same : (kind : CursorKind) → is_kind kind kind ≡ true
kind_same Table = refl
kind_same Row = refl
kind_same Sorter = refl

this_is : (kind : CursorKind) (c : ℕ) (x : OpenCursor) → is_this kind c x ≡ true → x ≡ on kind c
this_is kind c x e =
    ap (λ n. record { cursor = n; kind = x.kind }) (same_number x.cursor c (and_left (nat_eq x.cursor c) (is_kind x.kind kind) e))
    ∙ ap (on_kind c) (same_kind x.kind kind (and_right (nat_eq x.cursor c) (is_kind x.kind kind) e))
  where
    on_kind : ℕ → CursorKind → OpenCursor
    on_kind c k = on k c

is_the : (kind : CursorKind) (c : ℕ) → is_this kind c (on kind c) ≡ true
is_the kind c = ap (λ b. b && is_kind kind kind) (number_same c) ∙ kind_same kind

in_head : (x : OpenCursor) (xs : OpenSet) → Contains (x ∷ xs) x
in_head x xs = (0, omega arith, refl)

in_tail : (x y : OpenCursor) (xs : OpenSet) → Contains xs y → Contains (x ∷ xs) y
in_tail x y xs h = (suc h.0, omega (arith, h.1), h.2)

on_any : (kind : CursorKind) (c : ℕ) (x : OpenCursor) (xs : OpenSet) (b : Bool) → is_this kind c x ≡ b → is_on kind c (x ∷ xs) ≡ (b || is_on kind c xs)
on_any kind c x xs b e = ap (λ t. t || is_on kind c xs) e

on_cons : (kind : CursorKind) (c : ℕ) (x : OpenCursor) (xs : OpenSet) → (is_on kind c xs ≡ true → Contains xs (on kind c)) → is_on kind c (x ∷ xs) ≡ true → Contains (x ∷ xs) (on kind c)
on_cons kind c x xs rest e = by (is_this kind c x) refl
  where
    by : (b : Bool) → is_this kind c x ≡ b → Contains (x ∷ xs) (on kind c)
    by true is = subst (Contains (x ∷ xs)) (this_is kind c x is) (in_head x xs)
    by false is = in_tail x (on kind c) xs (rest (sym (on_any kind c x xs false is) ∙ e))

on_contains : (kind : CursorKind) (c : ℕ) (xs : OpenSet) → is_on kind c xs ≡ true → Contains xs (on kind c)
on_contains kind c [] e = cc
on_contains kind c (x ∷ xs) e = on_cons kind c x xs (λ rest. on_contains kind c xs rest) e

-- by the test of one in a place
on_at : (kind : CursorKind) (c : ℕ) (xs : OpenSet) (k : ℕ) → k < length xs → slice_index_or xs k (on kind c) ≡ on kind c → is_on kind c xs ≡ true
on_at kind c xs k lt e = list_any_at (is_this kind c) xs k (on kind c) lt (ap (is_this kind c) e ∙ is_the kind c)

contains_on : (kind : CursorKind) (c : ℕ) (xs : OpenSet) → Contains xs (on kind c) → is_on kind c xs ≡ true
contains_on kind c xs h = on_at kind c xs h.0 h.1 h.2

or_cases : (a b : Bool) → (a || b) ≡ true → (a ≡ true) ⊎ (b ≡ true)
or_cases true b e = inl refl
or_cases false b e = inr e

or_left : (a b : Bool) → a ≡ true → (a || b) ≡ true
or_left true b e = refl
or_left false b e = cc

or_right : (a b : Bool) → b ≡ true → (a || b) ≡ true
or_right true b e = refl
or_right false b e = e

meets_met : (xs : OpenSet) (n : Need) → meets xs n ≡ true → Meets xs n
meets_met xs (need.Open c) e =
    ⊎_elim (λ other. ⊎_elim (λ table. (Table, on_contains Table c xs table)) (λ row. (Row, on_contains Row c xs row)) (or_cases (is_on Table c xs) (is_on Row c xs) other)) (λ sorter. (Sorter, on_contains Sorter c xs sorter)) (or_cases (is_on Table c xs || is_on Row c xs) (is_on Sorter c xs) e)
meets_met xs (need.Table c) e = on_contains Table c xs e
meets_met xs (need.Rows c) e =
    ⊎_elim (λ table. inl (on_contains Table c xs table)) (λ row. inr (on_contains Row c xs row)) (or_cases (is_on Table c xs) (is_on Row c xs) e)
meets_met xs (need.Sorter c) e = on_contains Sorter c xs e

open_meets : (xs : OpenSet) (c : ℕ) (kind : CursorKind) → Contains xs (on kind c) → meets xs (need.Open c) ≡ true
open_meets xs c Table h =
    or_left (is_on Table c xs || is_on Row c xs) (is_on Sorter c xs) (or_left (is_on Table c xs) (is_on Row c xs) (contains_on Table c xs h))
open_meets xs c Row h =
    or_left (is_on Table c xs || is_on Row c xs) (is_on Sorter c xs) (or_right (is_on Table c xs) (is_on Row c xs) (contains_on Row c xs h))
open_meets xs c Sorter h =
    or_right (is_on Table c xs || is_on Row c xs) (is_on Sorter c xs) (contains_on Sorter c xs h)

met_meets : (xs : OpenSet) (n : Need) → Meets xs n → meets xs n ≡ true
met_meets xs (need.Open c) met = open_meets xs c met.0 met.1
met_meets xs (need.Table c) met = contains_on Table c xs met
met_meets xs (need.Rows c) met =
    ⊎_elim (λ table. or_left (is_on Table c xs) (is_on Row c xs) (contains_on Table c xs table)) (λ row. or_right (is_on Table c xs) (is_on Row c xs) (contains_on Row c xs row)) met
met_meets xs (need.Sorter c) met = contains_on Sorter c xs met

-- what passes the test is so
pub all_met : (xs : OpenSet) (needs : List Need) → list_all (meets xs) needs ≡ true → All (Meets xs) needs
all_met xs [] e = All-nil (Meets xs)
all_met xs (n ∷ ns) e =
    All-cons (Meets xs) n ns (meets_met xs n (and_left (meets xs n) (list_all (meets xs) ns) e)) (all_met xs ns (and_right (meets xs n) (list_all (meets xs) ns) e))

-- and what is so passes it
pub met_passes : (xs : OpenSet) (needs : List Need) → All (Meets xs) needs → list_all (meets xs) needs ≡ true
met_passes xs [] all = refl
met_passes xs (n ∷ ns) all =
    ap (λ b. b && list_all (meets xs) ns) (met_meets xs n (All-head (Meets xs) n ns all))
    ∙ met_passes xs ns (All-tail (Meets xs) n ns all)

pub none_lacks : (xs : OpenSet) (needs : List Need) → list_all (meets xs) needs ≡ false → ¬ (All (Meets xs) needs)
none_lacks xs needs e all = let wrong : false ≡ true = sym e ∙ met_passes xs needs all in cc

-- one operand more
pub find_step : (xs : OpenSet) (os : List Operand) (i : ℕ) (d : Operand) → i < length os → list_all (meets xs) (flat_map operand_needs (take (i + 1) os)) ≡ (list_all (meets xs) (flat_map operand_needs (take i os)) && list_all (meets xs) (operand_needs (slice_index_or os i d)))
find_step xs os i d lt =
    ap (λ l. list_all (meets xs) (flat_map operand_needs l)) (take_more os i d lt)
    ∙ ap (list_all (meets xs)) (flat_map-append operand_needs (take i os) (slice_index_or os i d ∷ []))
    ∙ list_all-append (meets xs) (flat_map operand_needs (take i os)) (flat_map operand_needs (slice_index_or os i d ∷ []))
    ∙ ap (λ l. list_all (meets xs) (flat_map operand_needs (take i os)) && list_all (meets xs) l) (flat_map-cons operand_needs (slice_index_or os i d) [] ∙ append-nil (operand_needs (slice_index_or os i d)))

-- two lists
pub find_both : (xs : OpenSet) (needs more : List Need) → list_all (meets xs) (needs ++ more) ≡ (list_all (meets xs) needs && list_all (meets xs) more)
find_both xs needs more = list_all-append (meets xs) needs more
