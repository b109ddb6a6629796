-- What a search keeps while keys are added behind others.
use Rattle.std.proofs.Common.{◌≡◌, ℕ, ◌+◌, ◌<◌, Bool, true, false, List, length, get_or, Some, sym, ap, ◌∙◌, subst}
use Rattle.std.proofs.lemmas.Option.{slice_get-get_or}
use Rattle.std.specs.Prelude.{slice_get}
use Rattle.bound_tree.specs.Exprs.{BoundExpr}
use Rattle.eng_index.proofs.Lists.{differ}
use Rattle.eng_index.specs.declared.key_term.KeyTerm.{KeyTerm}
use Rattle.eng_index.specs.declared.range.Bounds.{Bounds}
use Rattle.eng_value.specs.declared.value.Value.{Value}
use Rattle.plan_best.specs.Drafts.{HasAdded, IsNext, KeepsServing, MayGoOn}
use Rattle.plan_best.specs.declared.comparing.Wanted.{Wanted}
use Rattle.plan_best.specs.declared.comparing.Wanted.TheVariants as wanted
use Rattle.plan_best.specs.declared.drafting.Draft.{Draft}

-- ---- nothing was added

added_none : (added : Bool) (for : Wanted) (old new : Draft) → HasAdded added for old new → added ≡ false → new ≡ old
added_none true for old new has not = absurd (differ not)
added_none false for old new has not = has

module _ (params : List Value) (item : ℕ) (cs : List BoundExpr) where
  pub serves_on : (a b c : Draft) → KeepsServing params item cs a b → KeepsServing params item cs b c → KeepsServing params item cs a c
  serves_on a b c first second indexes serves = second indexes (first indexes serves)

  pub still_goes_on : (added : Bool) (for : Wanted) (old new : Draft) → HasAdded added for old new → added ≡ false → MayGoOn params item cs old → MayGoOn params item cs new
  still_goes_on added for old new has not goes_on =
      subst (λ (d : Draft). MayGoOn params item cs d) (sym (added_none added for old new has not)) goes_on

-- the term in the next place
pub still_term : (added : Bool) (for : Wanted) (old new : Draft) → HasAdded added for old new → added ≡ false → (those : List KeyTerm) (i : ℕ) (t : KeyTerm) → those ≡ old.search.terms → old.search.bounds.equal ≡ i → i < length old.search.terms → slice_get new.search.terms new.search.bounds.equal ≡ Some (get_or those i t)
still_term added for old new has not those i t those_is equal_is lt =
    subst (λ (d : Draft). slice_get d.search.terms d.search.bounds.equal ≡ Some (get_or those i t)) (sym (added_none added for old new has not)) (ap (slice_get old.search.terms) equal_is ∙ slice_get-get_or old.search.terms i t lt ∙ ap (λ ts. Some (get_or ts i t)) (sym those_is))

-- ---- one key more is equal

module _ (added : Bool) (old new : Draft) (has : HasAdded added wanted.Equal old new) (is : added ≡ true) where
  has_equal : HasAdded true wanted.Equal old new
  has_equal = subst (λ b. HasAdded b wanted.Equal old new) is has

  pub more_terms : new.search.terms ≡ old.search.terms
  more_terms = has_equal.0

  pub more_equal : new.search.bounds.equal ≡ old.search.bounds.equal + 1
  more_equal = ap (λ (b : Bounds). b.equal) has_equal.1

  pub more_next : IsNext wanted.Equal old.search.bounds → IsNext wanted.Equal new.search.bounds
  more_next next = (ap (λ (b : Bounds). b.lower) has_equal.1 ∙ next.0, ap (λ (b : Bounds). b.upper) has_equal.1 ∙ next.1)
