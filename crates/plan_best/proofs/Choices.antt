-- The best search so far, and what one more leaves of it.
use Rattle.std.proofs.Common.{◌≡◌, ℕ, ◌+◌, ◌<◌, Bool, true, false, ◌||◌, ◌&&◌, List, [], ◌∷◌, ◌++◌, length, take, Some, None, refl, sym, ap, ap₂, ◌∙◌, subst}
use Rattle.std.proofs.lemmas.List.{take_more}
use Rattle.std.proofs.lemmas.List.Folds.{list_any-append, list_any_at, list_any_more}
use Rattle.std.proofs.lemmas.Option.{get_or_from_slice_get, slice_get-get_or}
use Rattle.std.specs.List.{list_any}
use Rattle.std.specs.Prelude.{get_or, slice_get}
use Rattle.std.specs.declared.option.Option.{Option}
use Rattle.bound_tree.specs.Exprs as e
use Rattle.bound_tree.specs.Exprs.{BoundExpr}
use Rattle.eng_index.specs.declared.key_term.KeyTerm.{KeyTerm}
use Rattle.eng_index.specs.declared.key_term.TermSource.{TermSource}
use Rattle.eng_index.specs.declared.key_term.TermSource.TheVariants as term
use Rattle.eng_value.specs.declared.collation.Collation.{Collation}
use Rattle.eng_value.specs.declared.value.Value.{Value}
use Rattle.plan_best.specs.Comparing.{Compares, is_begun, is_equal_search, is_searchable, reads_same}
use Rattle.plan_best.specs.Drafts.{BestOf, BestUnless, HasNoSearch, MayBest}
use Rattle.plan_best.specs.declared.comparing.Comparison.{Comparison}
use Rattle.plan_best.specs.declared.drafting.Draft.{Draft}
use Rattle.sql_meaning.specs.Searches.{begins_with, is_column, is_collation, is_search}

-- ---- an index that a comparison begins

begins_alike : (c : Collation) (column : ℕ) (t : KeyTerm) (s : TermSource) → reads_same (term.Column column) c t s ≡ (is_column column s && is_collation c t.collation)
begins_alike c column t term.Rowid = refl
begins_alike c column t (term.Column other) = refl

module _ (c : Comparison) where
  begun_by_column : (column : ℕ) → c.source ≡ term.Column column → (terms : List KeyTerm) → is_begun c terms ≡ begins_with c.collation column terms
  begun_by_column column is [] = refl
  begun_by_column column is (t ∷ terms) =
      ap (λ (s : TermSource). reads_same s c.collation t t.source) is ∙ begins_alike c.collation column t t.source

  pub any_begun : (column : ℕ) → c.source ≡ term.Column column → (indexes : List (List KeyTerm)) → list_any (is_begun c) indexes ≡ list_any (begins_with c.collation column) indexes
  any_begun column is [] = refl
  any_begun column is (terms ∷ indexes) = ap₂ (λ p q. p || q) (begun_by_column column is terms) (any_begun column is indexes)

  -- the rowid is searchable, and so is what begins an index
  pub begun_searchable : (indexes : List (List KeyTerm)) → list_any (is_begun c) indexes ≡ true → is_searchable indexes c.collation c.source ≡ true
  begun_searchable indexes any = by c.source refl
    where
      by : (s : TermSource) → c.source ≡ s → is_searchable indexes c.collation s ≡ true
      by term.Rowid is = refl
      by (term.Column column) is = sym (any_begun column is indexes) ∙ any

-- ---- one more

module _ (params : List Value) (indexes : List (List KeyTerm)) (cs : List BoundExpr) where
  pub unless_not : (best : Option Draft) → MayBest params 0 indexes cs best → (is : Bool) → is ≡ false → BestUnless params indexes cs is best best
  unless_not None may is not = (refl, not)
  unless_not (Some d) may is not = may

  pub unless_may : (is : Bool) (was best : Option Draft) → BestUnless params indexes cs is was best → MayBest params 0 indexes cs best
  unless_may is was None unless = tt
  unless_may is was (Some d) unless = unless

  pub best_may : (those : List BoundExpr) (best : Option Draft) → BestOf params indexes cs those best → MayBest params 0 indexes cs best
  best_may those None none = tt
  best_may those (Some d) serves = serves

  neither : (a b : Bool) → a ≡ false → b ≡ false → (a || (b || false)) ≡ false
  neither a b not_a not_b = ap₂ (λ p q. p || (q || false)) not_a not_b

  more_none : (those : List BoundExpr) (c : BoundExpr) → HasNoSearch params indexes those → is_search indexes params c ≡ false → HasNoSearch params indexes (those ++ c ∷ [])
  more_none those c none not =
      list_any-append (is_search indexes params) those (c ∷ []) ∙ neither (list_any (is_search indexes params) those) (is_search indexes params c) none not

  best_more : (those : List BoundExpr) (c : BoundExpr) (was best : Option Draft) → BestOf params indexes cs those was → BestUnless params indexes cs (is_search indexes params c) was best → BestOf params indexes cs (those ++ c ∷ []) best
  best_more those c was None of unless =
      more_none those c (subst (λ (o : Option Draft). BestOf params indexes cs those o) unless.0 of) unless.1
  best_more those c was (Some d) of unless = unless

  -- the conjunct in the next place
  pub best_next : (place : ℕ) → place < length cs → (was best : Option Draft) → BestOf params indexes cs (take place cs) was → ((c : BoundExpr) → slice_get cs place ≡ Some c → BestUnless params indexes cs (is_search indexes params c) was best) → BestOf params indexes cs (take (place + 1) cs) best
  best_next place lt was best of unless =
      let next = get_or cs place e.RaiseIgnore in
      subst (λ l. BestOf params indexes cs l best) (sym (take_more cs place e.RaiseIgnore lt)) (best_more (take place cs) next was best of (unless next (slice_get-get_or cs place e.RaiseIgnore lt)))

  or_none : (a b : Bool) → b ≡ false → (a || b) ≡ a
  or_none true b not = refl
  or_none false b not = not

  -- an index that the comparison doesn't begin
  pub unless_next : (c : Comparison) (place : ℕ) → place < length indexes → (item terms : List KeyTerm) → item ≡ get_or indexes place item → terms ≡ item → (b : Bool) → b ≡ is_begun c terms → b ≡ false → (was best : Option Draft) → BestUnless params indexes cs (list_any (is_begun c) (take place indexes)) was best → BestUnless params indexes cs (list_any (is_begun c) (take (place + 1) indexes)) was best
  unless_next c place lt item terms at same b is not was best unless =
      let none : is_begun c (get_or indexes place item) ≡ false = ap (is_begun c) (sym at ∙ sym same) ∙ sym is ∙ not in
      let all = list_any_more (is_begun c) indexes place item lt ∙ or_none (list_any (is_begun c) (take place indexes)) (is_begun c (get_or indexes place item)) none in
      subst (λ b. BestUnless params indexes cs b was best) (sym all) unless

-- an index that it begins
pub begun_at : (c : Comparison) (indexes : List (List KeyTerm)) (place : ℕ) → place < length indexes → (item terms : List KeyTerm) → item ≡ get_or indexes place item → terms ≡ item → (b : Bool) → b ≡ is_begun c terms → b ≡ true → is_searchable indexes c.collation c.source ≡ true
begun_at c indexes place lt item terms at same b is begun =
    begun_searchable c indexes (list_any_at (is_begun c) indexes place item lt (ap (is_begun c) (sym at ∙ sym same) ∙ sym is ∙ begun))

-- ---- what a conjunct begins

module _ (params : List Value) (indexes : List (List KeyTerm)) (cs : List BoundExpr) where
  -- one that does, in its place
  pub begun_columns : (q : BoundExpr) (place : ℕ) → q ≡ get_or cs place q → (by : Comparison) → Compares params 0 q by → is_equal_search by ≡ true → (column : ℕ) → by.source ≡ term.Column column → (was best : Option Draft) → BestUnless params indexes cs (list_any (is_begun by) indexes) was best → (c : BoundExpr) → slice_get cs place ≡ Some c → BestUnless params indexes cs (is_search indexes params c) was best
  begun_columns q place q_is by compares equal column is was best unless c at =
      let same : is_search indexes params q ≡ list_any (is_begun by) indexes = compares.search refl indexes ∙ ap₂ (λ p q. p && q) equal (ap (is_searchable indexes by.collation) is ∙ sym (any_begun by column is indexes)) in
      let one : c ≡ q = sym (q_is ∙ get_or_from_slice_get cs place c q at) in
      subst (λ b. BestUnless params indexes cs b was best) (sym (ap (is_search indexes params) one ∙ same)) unless
