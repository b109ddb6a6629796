-- Expressions as they read rows that are stored: where nothing is marked, they stay as they are; and what a WHERE tests stays in its place.
use Rattle.std.proofs.Common.{◌≡◌, ℕ, zero, suc, Bool, true, false, List, [], ◌∷◌, ◌++◌, map, Option, Some, None, refl, sym, ap, ◌∙◌, arith}
use Rattle.std.specs.List.{All, flat_map, list_any}
use Rattle.std.proofs.lemmas.List.{map-append}
use Rattle.std.proofs.lemmas.List.Elements.{All-cons, All-head, All-nil, All-tail}
use Rattle.bound_tree.specs.Conditions.{conditions_of}
use Rattle.bound_tree.specs.Exprs as e
use Rattle.bound_tree.specs.Exprs.{BoundArms, BoundExpr, BoundExprs, BoundMatches, NoExprs, AnExpr, NoArms, AnArm, NoMatches, AMatch}
use Rattle.bound_tree.specs.declared.units.BoundItem.{BoundItem}
use Rattle.bound_ignored.specs.Erased.{ItemMarks, Marks, column_or_rowid, erased, erased_arms, erased_in, erased_matches, is_marked, is_rowid, marks_at, marks_of, no_marks, or_null, same_place}

two : {A B C : Type 0} (f : A → B → C) {a a' : A} {b b' : B} → a ≡ a' → b ≡ b' → f a b ≡ f a' b'
two f {a} {a'} {b} {b'} p q = ap (λ x. f x b) p ∙ ap (f a') q

three : {A B C D : Type 0} (f : A → B → C → D) {a a' : A} {b b' : B} {c c' : C} → a ≡ a' → b ≡ b' → c ≡ c' → f a b c ≡ f a' b' c'
three f {a} {a'} {b} {b'} {c} {c'} p q r = ap (λ x. f x b c) p ∙ two (f a') q r

-- ---- where nothing is marked

-- no item has a column that is ignored, or one that is the rowid
abbrev pub AreUnmarked : Marks → Type 0
AreUnmarked m = (item : ℕ) → marks_at m item ≡ no_marks

module _ (m : Marks) (none : AreUnmarked m) where
  is_marked-none : (item : ℕ) (place : Option ℕ) → is_marked m item place ≡ false
  is_marked-none item place = ap (λ (k : ItemMarks). list_any (same_place place) k.ignored) (none item)

  is_rowid-none : (item column : ℕ) → is_rowid m item column ≡ false
  is_rowid-none item column = ap (λ (k : ItemMarks). same_place (Some column) k.rowid) (none item)

  mutual
    pub erased-unmarked : (x : BoundExpr) → erased m x ≡ x
    erased-unmarked (e.Literal l) = refl
    erased-unmarked (e.Parameter n) = refl
    erased-unmarked (e.Column i c) =
        ap (λ b. or_null b (column_or_rowid (is_rowid m i c) i c)) (is_marked-none i (Some c)) ∙ ap (λ b. column_or_rowid b i c) (is_rowid-none i c)
    erased-unmarked (e.Rowid i) = ap (λ b. or_null b (e.Rowid i)) (is_marked-none i None)
    erased-unmarked (e.Argument n) = refl
    erased-unmarked (e.Aggregate n) = refl
    erased-unmarked (e.Unary o a) = ap (e.Unary o) (erased-unmarked a)
    erased-unmarked (e.Binary o a b) = two (e.Binary o) (erased-unmarked a) (erased-unmarked b)
    erased-unmarked (e.LikeEscaped a b c) = three e.LikeEscaped (erased-unmarked a) (erased-unmarked b) (erased-unmarked c)
    erased-unmarked (e.Between s u a b c) = three (e.Between s u) (erased-unmarked a) (erased-unmarked b) (erased-unmarked c)
    erased-unmarked (e.InList s a others) = two (e.InList s) (erased-unmarked a) (erased_in-unmarked others)
    erased-unmarked (e.ChooseArm arms a) = two e.ChooseArm (erased_arms-unmarked arms) (erased-unmarked a)
    erased-unmarked (e.MatchArm a arms b) = three e.MatchArm (erased-unmarked a) (erased_matches-unmarked arms) (erased-unmarked b)
    erased-unmarked (e.Iif a b c) = three e.Iif (erased-unmarked a) (erased-unmarked b) (erased-unmarked c)
    erased-unmarked (e.CoalesceList f args) = ap (e.CoalesceList f) (erased_in-unmarked args)
    erased-unmarked (e.CallBuiltin f c args) = ap (e.CallBuiltin f c) (erased_in-unmarked args)
    erased-unmarked (e.CallHost name args) = ap (e.CallHost name) (erased_in-unmarked args)
    erased-unmarked (e.ScalarOf unit handed) = ap (e.ScalarOf unit) (erased_in-unmarked handed)
    erased-unmarked (e.ExistsIn unit handed) = ap (e.ExistsIn unit) (erased_in-unmarked handed)
    erased-unmarked (e.InUnit s a unit handed) = two (λ x y. e.InUnit s x unit y) (erased-unmarked a) (erased_in-unmarked handed)
    erased-unmarked e.RaiseIgnore = refl
    erased-unmarked (e.RaiseAbort text) = refl

    erased_in-unmarked : (xs : BoundExprs) → erased_in m xs ≡ xs
    erased_in-unmarked NoExprs = refl
    erased_in-unmarked (AnExpr a rest) = two AnExpr (erased-unmarked a) (erased_in-unmarked rest)

    erased_arms-unmarked : (xs : BoundArms) → erased_arms m xs ≡ xs
    erased_arms-unmarked NoArms = refl
    erased_arms-unmarked (AnArm a b rest) = three AnArm (erased-unmarked a) (erased-unmarked b) (erased_arms-unmarked rest)

    erased_matches-unmarked : (xs : BoundMatches) → erased_matches m xs ≡ xs
    erased_matches-unmarked NoMatches = refl
    erased_matches-unmarked (AMatch s a b rest) = three (AMatch s) (erased-unmarked a) (erased-unmarked b) (erased_matches-unmarked rest)

  pub map-erased-unmarked : (xs : List BoundExpr) → map (erased m) xs ≡ xs
  map-erased-unmarked [] = refl
  map-erased-unmarked (x ∷ xs) = two (λ y ys. y ∷ ys) (erased-unmarked x) (map-erased-unmarked xs)

pub unmarked : (m : Marks) → All (λ k. k ≡ no_marks) m → (item : ℕ) → marks_at m item ≡ no_marks
unmarked [] none item = refl
unmarked (x ∷ m) none zero = none 0 no_marks (omega arith)
unmarked (x ∷ m) none (suc item) = unmarked m (λ k d lt. none (suc k) d (omega arith)) item

-- an item of which nothing is marked
abbrev pub IsUnmarked : BoundItem → Type 0
IsUnmarked i = (i.ignored ≡ []) × (i.rowid ≡ None)

marks-none : (i : BoundItem) → IsUnmarked i → record { ignored = i.ignored; rowid = i.rowid } ≡ no_marks
marks-none i none = two (λ (places : List (Option ℕ)) (rowid : Option ℕ). record { ignored = places; rowid = rowid }) none.0 none.1

items-none : (items : List BoundItem) → All IsUnmarked items → All (λ k. k ≡ no_marks) (marks_of items)
items-none [] none = All-nil (λ k. k ≡ no_marks)
items-none (i ∷ items) none =
    All-cons (λ k. k ≡ no_marks) _ (marks_of items) (marks-none i (All-head IsUnmarked i items none)) (items-none items (All-tail IsUnmarked i items none))

pub unmarked_items : (items : List BoundItem) → All IsUnmarked items → AreUnmarked (marks_of items)
unmarked_items items none = unmarked (marks_of items) (items-none items none)

-- ---- what a WHERE tests

conditions_of-or_null : (b : Bool) (x : BoundExpr) → conditions_of x ≡ x ∷ [] → conditions_of (or_null b x) ≡ or_null b x ∷ []
conditions_of-or_null true x is = refl
conditions_of-or_null false x is = is

conditions_of-column : (b : Bool) (i c : ℕ) → conditions_of (column_or_rowid b i c) ≡ column_or_rowid b i c ∷ []
conditions_of-column true i c = refl
conditions_of-column false i c = refl

pub conditions_of-erased : (m : Marks) (x : BoundExpr) → conditions_of (erased m x) ≡ map (erased m) (conditions_of x)
conditions_of-erased m (e.Literal l) = refl
conditions_of-erased m (e.Parameter n) = refl
conditions_of-erased m (e.Column i c) =
    conditions_of-or_null (is_marked m i (Some c)) (column_or_rowid (is_rowid m i c) i c) (conditions_of-column (is_rowid m i c) i c)
conditions_of-erased m (e.Rowid i) = conditions_of-or_null (is_marked m i None) (e.Rowid i) refl
conditions_of-erased m (e.Argument n) = refl
conditions_of-erased m (e.Aggregate n) = refl
conditions_of-erased m (e.Unary o a) = refl
conditions_of-erased m (e.Binary o a b) = refl
conditions_of-erased m (e.LikeEscaped a b c) = refl
conditions_of-erased m (e.Between s u a b c) = refl
conditions_of-erased m (e.InList s a others) = refl
conditions_of-erased m (e.ChooseArm arms a) = refl
conditions_of-erased m (e.MatchArm a arms b) = refl
conditions_of-erased m (e.Iif a b c) = refl
conditions_of-erased m (e.CoalesceList f args) = refl
conditions_of-erased m (e.CallBuiltin f c args) = refl
conditions_of-erased m (e.CallHost name args) = refl
conditions_of-erased m (e.ScalarOf unit handed) = refl
conditions_of-erased m (e.ExistsIn unit handed) = refl
conditions_of-erased m (e.InUnit s a unit handed) = refl
conditions_of-erased m e.RaiseIgnore = refl
conditions_of-erased m (e.RaiseAbort text) = refl

pub flat_map-conditions_of-erased : (m : Marks) (xs : List BoundExpr) → flat_map conditions_of (map (erased m) xs) ≡ map (erased m) (flat_map conditions_of xs)
flat_map-conditions_of-erased m [] = refl
flat_map-conditions_of-erased m (x ∷ xs) =
    two (λ ys zs. ys ++ zs) (conditions_of-erased m x) (flat_map-conditions_of-erased m xs)
    ∙ sym (map-append (erased m) (conditions_of x) (flat_map conditions_of xs))
