-- Where nothing is marked, expressions stay as they are.
use Rattle.std.proofs.Common.{◌≡◌, ℕ, nat_eq, Bool, true, false, not, ◌||◌, List, [], ◌∷◌, is_some, length, map, All, Option, Some, None, refl, sym, ap, ◌∙◌, arith}
use Rattle.std.proofs.lemmas.Bool.{ne_eqb}
use Rattle.std.proofs.lemmas.List.Elements.{All-cons, All-nil}
use Rattle.bound_ignored.specs.Erased.{Marks, erased, marks_of}
use Rattle.bound_ignored.proofs.ErasedLaws.{AreUnmarked, IsUnmarked, erased-unmarked, unmarked_items}
use Rattle.bound_tree.specs.Exprs.{BoundExpr}
use Rattle.bound_tree.specs.declared.units.BoundItem.{BoundItem}
use Rattle.bind_stmt.specs.Ignored.{are_marked, is_marked}

neither : (a b : Bool) → (a || b) ≡ false → (a ≡ false) × (b ≡ false)
neither true b e = absurd (let bad : true ≡ false = e in cc)
neither false b e = (refl, e)

no-place : (places : List (Option ℕ)) → not (nat_eq (length places) 0) ≡ false → places ≡ []
no-place [] e = refl
no-place (p ∷ places) e =
    let some : nat_eq (length (p ∷ places)) 0 ≡ false = ne_eqb (length (p ∷ places)) 0 (λ none. absurd (omega (arith, none))) in
    absurd (let bad : true ≡ false = ap not (sym some) ∙ e in cc)

no-rowid : (o : Option ℕ) → is_some o ≡ false → o ≡ None
no-rowid None e = refl
no-rowid (Some place) e = absurd (let bad : true ≡ false = e in cc)

none-marked : (items : List BoundItem) → are_marked items ≡ false → All IsUnmarked items
none-marked [] e = All-nil IsUnmarked
none-marked (i ∷ items) e =
    let k = neither (is_marked i) (are_marked items) e in
    let here = neither (not (nat_eq (length i.ignored) 0)) (is_some i.rowid) k.0 in
    All-cons IsUnmarked i items (no-place i.ignored here.0, no-rowid i.rowid here.1) (none-marked items k.1)

all-same : (m : Marks) → AreUnmarked m → (xs : List BoundExpr) → xs ≡ map (erased m) xs
all-same m none [] = refl
all-same m none (x ∷ xs) = ap (λ y. y ∷ xs) (sym (erased-unmarked m none x)) ∙ ap (λ ys. erased m x ∷ ys) (all-same m none xs)

pub unmarked-same : (items : List BoundItem) → are_marked items ≡ false → (xs : List BoundExpr) → xs ≡ map (erased (marks_of items)) xs
unmarked-same items none xs = all-same (marks_of items) (unmarked_items items (none-marked items none)) xs
