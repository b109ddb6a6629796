-- What may stand somewhere, and scopes within aggregates.
use Rattle.std.proofs.Common.{◌≡◌, Bool, true, false, ℕ, List, [], ◌∷◌, ◌++◌, map, Some, None, Result, Ok, Err, ap, ◌∙◌, refl, inl, inr}
use Rattle.eng_value.specs.declared.cause.Cause.{Cause}
use Rattle.sql_bound.specs.Answers.{Answers, Comes}
use Rattle.sql_bound.specs.Carriers.{All, AllOf, One, ResultParts}
use Rattle.sql_bound.specs.Expressions.{if_allowed, within_aggregate}
use Rattle.sql_bound.specs.Results.{alias_of, aliases_of}
use Rattle.sql_bound.specs.Scopes.{Alias, Outer, Scope}
use Rattle.sql_bound.specs.Trees.{of_result}
use Rattle.sql_bound.specs.declared.scopes.Standing.{Standing}
use Rattle.sql_bound.specs.declared.scopes.Standing.TheVariants.{Nowhere}
use Rattle.sql_bound.specs.declared.scopes.WithEntry.{WithEntry}
use Rattle.bind_query.specs.Scopes.{Levels, outer_of, scope_of, within_aggregate as where_within}
use Rattle.bind_query.specs.Where.{Where}

-- ---- the same with what was gathered beside it

beside : {A S : Type 0} → S → Result A Cause → Result (A × S) Cause
beside w (Ok a) = Ok (a, w)
beside w (Err why) = Err why

answers-beside : {A S : Type 0} (meant r : Result A Cause) (w : S) → Answers meant r → Comes (beside w meant) r w
unfolding beside
answers-beside meant (Ok a) w is = ap (beside w) is
answers-beside meant (Err why) w (inl mem) = inl mem
answers-beside meant (Err why) w (inr is) = inr (ap (beside w) is)

pub allowed-beside : {A S : Type 0} (allowed : Bool) (name : List ℕ) (a : A) (w : S) (r : Result A Cause)
    → Answers (if_allowed allowed name (Ok a)) r → Comes (if_allowed allowed name (Ok (a, w))) r w
unfolding beside
allowed-beside true name a w r h = answers-beside (Ok a) r w h
allowed-beside false name a w r h = answers-beside (if_allowed false name (Ok a)) r w h

-- ---- aliases do not go by where aggregates may stand

alias-same : (text : List ℕ) (o : Outer) (a b : Standing) (r : ResultParts)
    → alias_of text (record { outer = o; aliases = []; aggregates = a }) r ≡ alias_of text (record { outer = o; aliases = []; aggregates = b }) r
alias-same text o a b All = refl
alias-same text o a b (AllOf t) = refl
alias-same text o a b (One x None) = refl
alias-same text o a b (One x (Some t)) = refl

aliases-same : (text : List ℕ) (o : Outer) (a b : Standing) (rs : List ResultParts)
    → aliases_of text (record { outer = o; aliases = []; aggregates = a }) rs ≡ aliases_of text (record { outer = o; aliases = []; aggregates = b }) rs
aliases-same text o a b [] = refl
aliases-same text o a b (r ∷ rs) =
    ap (λ (front : List Alias). front ++ aliases_of text (record { outer = o; aliases = []; aggregates = a }) rs) (alias-same text o a b r)
    ∙ ap (λ (rest : List Alias). alias_of text (record { outer = o; aliases = []; aggregates = b }) r ++ rest) (aliases-same text o a b rs)

abbrev with_none : Outer → List Alias → Scope
with_none o all = record { outer = o; aliases = all; aggregates = Nowhere }

pub scope-within : (w : Where) (ls : Levels) (ts : List WithEntry) → scope_of (where_within w) ls ts ≡ within_aggregate (scope_of w ls ts)
scope-within w ls ts = ap (with_none (outer_of w ls ts)) (aliases-same w.text (outer_of w ls ts) Nowhere w.standing (map of_result w.results))
