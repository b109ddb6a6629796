-- What the nearest FROM that has a column decides.
use Rattle.std.proofs.Common.{◌≡◌, ◌∙◌, ℕ, suc, ◌+◌, true, false, not, cond, Option, List, [], ◌∷◌, ◌++◌, length, Some, None, Ok, Err, refl, arith}
use Rattle.std.specs.List.{All, flat_map}
use Rattle.std.proofs.lemmas.List.Elements.{All-tail}
use Rattle.eng_value.specs.declared.cause.Cause.TheVariants.{Ambiguous}
use Rattle.sql_bound.specs.Refusals.{Checked}
use Rattle.sql_bound.specs.Scopes.{Level, counted_once, name_of_ambiguous, nearest_from, nearest_of, unjoined}
use Rattle.sql_bound.specs.declared.scopes.ScopeColumn.{ScopeColumn}
use Rattle.sql_bound.specs.declared.scopes.ScopeItem.{ScopeItem}
use Rattle.sql_bound.specs.declared.scopes.Sight.{Sight}

pub head_of : {A : Type 0} (P : A → Type 0) (x : A) (xs : List A) → All P (x ∷ xs) → P x
head_of P x xs all = all 0 x (omega arith)

-- ---- what is left of the columns of one FROM

two_left : (name : List ℕ) (up : ℕ) (further : Checked (Option Sight)) (c d : ScopeColumn) (between others : List ScopeColumn) → d.joined ≡ false → nearest_of name up (c ∷ unjoined (between ++ d ∷ others)) further ≡ Err (Ambiguous (name_of_ambiguous name c))
two_left name up further c d [] others h = rw h refl
two_left name up further c d (e ∷ between) others h =
    elim (e.joined) as (λ b. nearest_of name up (c ∷ cond (not b) (e ∷ unjoined (between ++ d ∷ others)) (unjoined (between ++ d ∷ others))) further ≡ Err (Ambiguous (name_of_ambiguous name c))) [
      | true ↦ two_left name up further c d between others h
      | false ↦ refl
    ]

pub none_left : (columns : List ScopeColumn) → All (λ (d : ScopeColumn). d.joined ≡ true) columns → unjoined columns ≡ []
none_left [] all = refl
none_left (d ∷ columns) all = rw (head_of (λ (x : ScopeColumn). x.joined ≡ true) d columns all) (none_left columns (All-tail (λ (x : ScopeColumn). x.joined ≡ true) d columns all))

-- ---- FROM by FROM

module _ (name : List ℕ) (candidates : ScopeItem → List ScopeColumn) where
  abbrev counted : Level → List ScopeColumn
  counted level = counted_once (flat_map candidates level)

  abbrev IsWithout : Level → Type 0
  IsWithout level = flat_map candidates level ≡ []

  passed : (up : ℕ) (nearer : List Level) (levels : List Level) → All IsWithout nearer → nearest_from up name counted (nearer ++ levels) ≡ nearest_from (up + length nearer) name counted levels
  passed up [] levels all = let e : up + 0 ≡ up = omega arith in rw e refl
  passed up (level ∷ nearer) levels all =
      let here : flat_map candidates level ≡ [] = head_of IsWithout level nearer all in
      let e : suc up + length nearer ≡ up + suc (length nearer) = omega arith in
      rw (here, ← e) (passed (suc up) nearer levels (All-tail IsWithout level nearer all))

  pub two_are_ambiguous : (nearer : List Level) (own : Level) (outer : List Level) (c d : ScopeColumn) (between others : List ScopeColumn) → All IsWithout nearer → flat_map candidates own ≡ c ∷ (between ++ d ∷ others) → d.joined ≡ false → nearest_from 0 name counted (nearer ++ own ∷ outer) ≡ Err (Ambiguous (name_of_ambiguous name c))
  two_are_ambiguous nearer own outer c d between others all h k =
      passed 0 nearer (own ∷ outer) all ∙ rw h (two_left name (0 + length nearer) (nearest_from (suc (0 + length nearer)) name counted outer) c d between others k)

  pub one_is_found : (nearer : List Level) (own : Level) (outer : List Level) (c : ScopeColumn) (others : List ScopeColumn) → All IsWithout nearer → flat_map candidates own ≡ c ∷ others → All (λ (d : ScopeColumn). d.joined ≡ true) others → nearest_from 0 name counted (nearer ++ own ∷ outer) ≡ Ok (Some (record { up = length nearer; column = c }))
  one_is_found nearer own outer c others all h k =
      let e : 0 + length nearer ≡ length nearer = omega arith in
      passed 0 nearer (own ∷ outer) all ∙ rw (h, none_left others k, e) refl

  pub none_is_found : (up : ℕ) (levels : List Level) → All IsWithout levels → nearest_from up name counted levels ≡ Ok None
  none_is_found up [] all = refl
  none_is_found up (level ∷ levels) all = rw (head_of IsWithout level levels all) (none_is_found (suc up) levels (All-tail IsWithout level levels all))
