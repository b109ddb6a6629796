-- Lists all of whose members are so, and lists with others behind them.
use Rattle.std.proofs.lemmas.Bool.Decides.{Decides-ltb}
use Rattle.std.specs.List.{position_or_len}
use Rattle.std.proofs.Common.{position, nat_lt, get_or, ◌≡◌, ◌∙◌, ℕ, zero, suc, ◌<◌, Bool, true, false, cond, filter, List, [], ◌∷◌, ◌++◌, length, map, Option, Some, None, slice_get, refl, sym, ap, subst, append_assoc, append-nil, arith}
use Rattle.std.specs.Bool.{⊤}
use Rattle.std.specs.List.{AllByRecursion, flat_map}
use Rattle.bound_tree.specs.Exprs.{BoundExpr, exprs}
use Rattle.bound_tree.specs.declared.units.BoundUnit.{BoundUnit}
use Rattle.bound_laws.specs.Order.{AddsUnits, AreInOrderBehind, UnitIsWithin}
use Rattle.bound_laws.specs.Reach.{AreWithin, EachIsWithin, HasColumn, HasItem, Reach, Serves, arguments_of, columns_of, count_of}

-- ---- all

module _ {X : Type 0} (P : X → Type 0) where
  pub all_kept : (passes : X → Bool) (xs : List X) → AllByRecursion P xs → AllByRecursion P (filter passes xs)
  all_kept passes [] all = tt
  all_kept passes (x ∷ xs) all = go (passes x) (all_kept passes xs all.1) where
    go : (b : Bool) → AllByRecursion P (filter passes xs) → AllByRecursion P (cond b (x ∷ filter passes xs) (filter passes xs))
    go true rest = (all.0, rest)
    go false rest = rest

  pub all_append : (xs ys : List X) → AllByRecursion P xs → AllByRecursion P ys → AllByRecursion P (xs ++ ys)
  all_append [] ys all more = more
  all_append (x ∷ xs) ys all more = (all.0, all_append xs ys all.1 more)

  pub all_flat : {Y : Type 0} (Q : Y → Type 0) (f : Y → List X) → ((y : Y) → Q y → AllByRecursion P (f y)) → (ys : List Y) → AllByRecursion Q ys → AllByRecursion P (flat_map f ys)
  all_flat Q f each [] all = tt
  all_flat Q f each (y ∷ ys) all = all_append (f y) (flat_map f ys) (each y all.0) (all_flat Q f each ys all.1)

  pub all_weaker : (Q : X → Type 0) → ((x : X) → P x → Q x) → (xs : List X) → AllByRecursion P xs → AllByRecursion Q xs
  all_weaker Q f [] all = tt
  all_weaker Q f (x ∷ xs) all = (f x all.0, all_weaker Q f xs all.1)

  pub all_mapped : {Y : Type 0} (f : Y → X) → ((y : Y) → P (f y)) → (ys : List Y) → AllByRecursion P (map f ys)
  all_mapped f each [] = tt
  all_mapped f each (y ∷ ys) = (each y, all_mapped f each ys)

  pub all_mapped_of : {Y : Type 0} (Q : Y → Type 0) (f : Y → X) → ((y : Y) → Q y → P (f y)) → (ys : List Y) → AllByRecursion Q ys → AllByRecursion P (map f ys)
  all_mapped_of Q f each [] all = tt
  all_mapped_of Q f each (y ∷ ys) all = (each y all.0, all_mapped_of Q f each ys all.1)

  abbrev pub IfThere : Option X → Type 0
  IfThere None = ⊤
  IfThere (Some x) = P x

  pub member_at : (xs : List X) (place : ℕ) → AllByRecursion P xs → IfThere (slice_get xs place)
  member_at [] place all = tt
  member_at (x ∷ xs) zero all = all.0
  member_at (x ∷ xs) (suc place) all = member_at xs place all.1

-- ---- places

pub place_within : {X : Type 0} (test : X → Bool) (xs : List X) (place : ℕ) → position test xs ≡ Some place → place < length xs
place_within test xs place is = go (nat_lt (position_or_len test xs) (length xs)) (Decides-ltb (position_or_len test xs) (length xs)).0 is where
  go : (b : Bool) → (b ≡ true → position_or_len test xs < length xs) → cond b (Some (position_or_len test xs)) None ≡ Some place → place < length xs
  go true within same = let here : position_or_len test xs ≡ place = cc in omega (arith, within refl)
  go false within same = cc

-- ---- with others behind them

abbrev pub BeginsWith : {A : Type 0} → List A → List A → Type 0
BeginsWith {A} first all = (more : List A) × (all ≡ first ++ more)

pub begins_itself : {A : Type 0} (xs : List A) → BeginsWith xs xs
begins_itself xs = ([], sym (append-nil xs))

pub begins_before : {A : Type 0} (xs ys zs : List A) → BeginsWith xs ys → BeginsWith ys zs → BeginsWith xs zs
begins_before xs ys zs h k = (h.0 ++ k.0, k.1 ∙ ap (λ l. l ++ k.0) h.1 ∙ append_assoc xs h.0 k.0)

pub begins_added : (us vs : List BoundUnit) → AddsUnits us vs → BeginsWith us vs
begins_added us vs h = (h.0, h.1)

order_append : (before xs ys : List BoundUnit) → AreInOrderBehind before xs → AreInOrderBehind (before ++ xs) ys → AreInOrderBehind before (xs ++ ys)
order_append before [] ys h k = subst (λ b. AreInOrderBehind b ys) (append-nil before) k
order_append before (x ∷ xs) ys h k = (h.0, order_append (before ++ x ∷ []) xs ys h.1 (subst (λ b. AreInOrderBehind b ys) (sym (append_assoc before (x ∷ []) xs)) k))

pub adds_nothing : (us : List BoundUnit) → AddsUnits us us
adds_nothing us = ([], sym (append-nil us), tt)

pub adds_one : (us : List BoundUnit) (u : BoundUnit) → UnitIsWithin us u → AddsUnits us (us ++ u ∷ [])
adds_one us u h = (u ∷ [], refl, (h, tt))

pub adds_before : (us vs ws : List BoundUnit) → AddsUnits us vs → AddsUnits vs ws → AddsUnits us ws
adds_before us vs ws h k =
    (h.0 ++ k.0, k.1 ∙ ap (λ l. l ++ k.0) h.1 ∙ append_assoc us h.0 k.0, order_append us h.0 k.0 h.2 (subst (λ b. AreInOrderBehind b k.0) h.1 k.2))

pub order_of_all : (us vs : List BoundUnit) → AddsUnits us vs → AreInOrderBehind [] us → AreInOrderBehind [] vs
order_of_all us vs h before = subst (AreInOrderBehind []) (sym h.1) (order_append [] us h.0 before h.2)

-- ---- units

serves_append : (us more : List BoundUnit) (unit given width : ℕ) → Serves us unit given width → Serves (us ++ more) unit given width
serves_append [] more unit given width h = absurd h
serves_append (u ∷ us) more zero given width h = h
serves_append (u ∷ us) more (suc unit) given width h = serves_append us more unit given width h

pub serves_later : (us vs : List BoundUnit) (unit given width : ℕ) → BeginsWith us vs → Serves us unit given width → Serves vs unit given width
serves_later us vs unit given width h t = subst (λ all. Serves all unit given width) (sym h.1) (serves_append us h.0 unit given width t)

pub serves_last : (us : List BoundUnit) (u : BoundUnit) → Serves (us ++ u ∷ []) (length us) (arguments_of u) (length (columns_of u))
serves_last [] u = (refl, refl)
serves_last (x ∷ us) u = serves_last us u

pub serves_at : (us : List BoundUnit) (place : ℕ) (d : BoundUnit) → place < length us → Serves us place (arguments_of (get_or us place d)) (length (columns_of (get_or us place d)))
serves_at [] place d h = let no : place < 0 = h in absurd (omega arith)
serves_at (u ∷ us) zero d h = (refl, refl)
serves_at (u ∷ us) (suc place) d h = serves_at us place d (omega arith)

pub serves_below : (us : List BoundUnit) (unit given width : ℕ) → Serves us unit given width → unit < length us
serves_below [] unit given width h = absurd h
serves_below (u ∷ us) zero given width h = omega arith
serves_below (u ∷ us) (suc unit) given width h = omega (arith, serves_below us unit given width h)

-- ---- columns

pub column_append : (from more : List ℕ) (item place : ℕ) → HasColumn from item place → HasColumn (from ++ more) item place
column_append [] more item place h = absurd h
column_append (width ∷ from) more zero place h = h
column_append (width ∷ from) more (suc item) place h = column_append from more item place h

pub item_append : (from more : List ℕ) (item : ℕ) → HasItem from item → HasItem (from ++ more) item
item_append [] more item h = absurd h
item_append (width ∷ from) more zero h = tt
item_append (width ∷ from) more (suc item) h = item_append from more item h

pub column_last : (from : List ℕ) (width place : ℕ) → place < width → HasColumn (from ++ width ∷ []) (length from) place
column_last [] width place h = h
column_last (x ∷ from) width place h = column_last from width place h

pub item_last : (from : List ℕ) (width : ℕ) → HasItem (from ++ width ∷ []) (length from)
item_last [] width = tt
item_last (x ∷ from) width = item_last from width

-- ---- lists of expressions

pub count_of-exprs : (xs : List BoundExpr) → count_of (exprs xs) ≡ length xs
count_of-exprs [] = refl
count_of-exprs (x ∷ xs) = ap suc (count_of-exprs xs)

pub exprs_within : (r : Reach) (from : List ℕ) (xs : List BoundExpr) → EachIsWithin r from xs → AreWithin r from (exprs xs)
exprs_within r from [] all = tt
exprs_within r from (x ∷ xs) all = (all.0, exprs_within r from xs all.1)
