-- Columns in their places, one after another.
use Rattle.std.proofs.Common.{◌≡◌, ℕ, zero, suc, ◌+◌, ◌<◌, Bool, List, [], ◌∷◌, ◌++◌, length, drop, get_or, slice_get, Option, Some, None, Bor, ◌≢◌, refl, sym, ap, ◌∙◌, append_assoc, add-one}
use Rattle.std.proofs.lemmas.List.{append-nil, at_drop_more}
use Rattle.std.proofs.lemmas.Option.{get_or_from_slice_get, slice_get_within}
use Rattle.std.specs.Option.{option_copied}
use Rattle.bound_tree.specs.declared.units.BoundColumn.{BoundColumn}
use Rattle.sql_bound.specs.Froms.{columns_from}
use Rattle.sql_bound.specs.declared.scopes.ScopeColumn.{ScopeColumn}

dropped-some : {X : Type 0} (xs : List X) (i : ℕ) (x : X) → slice_get xs i ≡ Some x → drop i xs ≡ x ∷ drop (i + 1) xs
dropped-some xs i x here =
    at_drop_more (λ ys. ys) xs i x (slice_get_within xs i x here) ∙ ap (λ y. y ∷ drop (i + 1) xs) (get_or_from_slice_get xs i x x here)

dropped-none : {X : Type 0} (xs : List X) (i : ℕ) → slice_get xs i ≡ None → drop i xs ≡ []
dropped-none [] zero none = refl
dropped-none [] (suc i) none = refl
dropped-none (x ∷ xs) zero none = cc
dropped-none (x ∷ xs) (suc i) none = dropped-none xs i none

pub not-there : {X : Type 0} (r : Option (Bor X)) (o : Option X) → ((x : Bor X) → r ≢ Some x) → option_copied r ≡ o → o ≡ None
not-there None o not is = sym is
not-there (Some x) o not is = absurd (not x refl)

columns-cut : (item n : ℕ) (cs : List BoundColumn) → columns_from item n cs [] ≡ []
columns-cut item n [] = refl
columns-cut item n (c ∷ cs) = refl

snoc-append : {X : Type 0} (xs : List X) (x : X) (rest : List X) → xs ++ (x ∷ rest) ≡ (xs ++ x ∷ []) ++ rest
snoc-append xs x rest = rw append_assoc refl

pub columns-end : (item : ℕ) (found : List ScopeColumn) (columns : List BoundColumn) (hidden : List Bool) (i : ℕ) → slice_get hidden i ≡ None
    → found ++ columns_from item i (drop i columns) (drop i hidden) ≡ found
columns-end item found columns hidden i none =
    ap (λ more. found ++ more) (ap (λ hs. columns_from item i (drop i columns) hs) (dropped-none hidden i none) ∙ columns-cut item i (drop i columns)) ∙ append-nil found

pub columns-step : (item : ℕ) (found new : List ScopeColumn) (columns : List BoundColumn) (hidden : List Bool) (i : ℕ) (d : BoundColumn) (h : Bool) (c : ScopeColumn) → i < length columns
    → slice_get hidden i ≡ Some h → columns_from item i (get_or columns i d ∷ []) (h ∷ []) ≡ c ∷ [] → new ≡ found ++ c ∷ []
    → found ++ columns_from item i (drop i columns) (drop i hidden) ≡ new ++ columns_from item (i + 1) (drop (i + 1) columns) (drop (i + 1) hidden)
columns-step item found new columns hidden i d h c within here made is =
    let rest = columns_from item (suc i) (drop (i + 1) columns) (drop (i + 1) hidden) in
    let split : columns_from item i (drop i columns) (drop i hidden) ≡ columns_from item i (get_or columns i d ∷ []) (h ∷ []) ++ rest =
    ap (λ cs. columns_from item i cs (drop i hidden)) (at_drop_more (λ ys. ys) columns i d within)
    ∙ ap (λ hs. columns_from item i (get_or columns i d ∷ drop (i + 1) columns) hs) (dropped-some hidden i h here) in
    ap (λ more. found ++ more) (split ∙ ap (λ one. one ++ rest) made)
    ∙ snoc-append found c rest
    ∙ ap (λ ks. ks ++ rest) (sym is)
    ∙ ap (λ n. new ++ columns_from item n (drop (i + 1) columns) (drop (i + 1) hidden)) (sym (add-one i))
