-- An item that is joined by NATURAL is bound as one that is joined by USING.
use Rattle.std.proofs.Common.{◌≡◌, ℕ, suc, Bool, true, false, Option, List, [], ◌∷◌, length, map, Ok, ap, arith}
use Rattle.std.specs.List.{All}
use Rattle.std.proofs.lemmas.List.Elements.{All-cons, All-tail}
use Rattle.eng_value.specs.declared.limits.TheConstants.{MAX_COLUMNS}
use Rattle.sql_tree.specs.declared.token.Token.{Token}
use Rattle.sql_words.specs.Refusals.{◌>>=◌}
use Rattle.sql_words.specs.Spelled.{name_at}
use Rattle.bound_tree.specs.declared.units.BoundColumn.{BoundColumn}
use Rattle.sql_bound.proofs.JoinLaws.{IsShown, ShowsAll, all_alike}
use Rattle.sql_bound.proofs.NameLaws.{head_of}
use Rattle.sql_bound.specs.Carriers.{ItemParts, Unconstrained, Using}
use Rattle.sql_bound.specs.Froms.{Inside, columns_from, common_names, constrained, joined_to, scope_item, with_item, with_units}
use Rattle.sql_bound.specs.Scopes.{Level}
use Rattle.sql_bound.specs.declared.froms.Found.{Found}
use Rattle.sql_bound.specs.declared.froms.Joining.{Joining}
use Rattle.sql_bound.specs.declared.froms.Sourced.{Sourced}
use Rattle.sql_bound.specs.declared.scopes.Work.{Work}

pub as_using : (i : Inside) (left : Level) (names : List Token) (j : Joining) (w : Work) → map (name_at i.outer.text) names ≡ common_names left j.right → All ShowsAll left → ShowsAll j.right → constrained i left true Unconstrained j w ≡ constrained i left false (Using names) j w
as_using i left names j w h all right = rw h (ap (λ a. with_units a w) (all_alike left MAX_COLUMNS (common_names left j.right) j all right))

no_columns : All IsShown []
no_columns k d l = absurd (omega arith)

columns_shown : (item place : ℕ) (columns : List BoundColumn) (hidden : List Bool) → All (λ h. h ≡ false) hidden → All IsShown (columns_from item place columns hidden)
columns_shown item place [] hidden all = no_columns
columns_shown item place (c ∷ columns) [] all = no_columns
columns_shown item place (c ∷ columns) (h ∷ hidden) all =
    All-cons IsShown _ (columns_from item (suc place) columns hidden) (head_of (λ b. b ≡ false) h hidden all) (columns_shown item (suc place) columns hidden (All-tail (λ b. b ≡ false) h hidden all))

pub item_as_using : (i : Inside) (item : ItemParts) (names : List Token) (name : Option (List ℕ)) (s : Sourced) (f : Found) (w : Work) → map (name_at i.outer.text) names ≡ common_names f.level (scope_item (length f.items) name s) → All ShowsAll f.level → All (λ h. h ≡ false) s.hidden → joined_to i (record item { join = record item.join { natural = true }; constraint = Unconstrained }) name s f w ≡ joined_to i (record item { join = record item.join { natural = false }; constraint = Using names }) name s f w
item_as_using i item names name s f w h all shown =
    let j : Joining = record { right = scope_item (length f.items) name s; ons = [] } in
    ap (λ a. a >>= λ k. Ok (with_item (record item { join = record item.join { natural = true }; constraint = Unconstrained }) name s f k.0, k.1)) (as_using i f.level names j w h all (columns_shown (length f.items) 0 s.columns s.hidden shown))
