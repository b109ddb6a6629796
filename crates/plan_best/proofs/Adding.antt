-- What adding a key that was found for a draft leaves.
use Rattle.std.proofs.Common.{◌≡◌, ℕ, zero, suc, ◌<◌, Bool, true, false, ◌&&◌, List, [], ◌∷◌, length, Some, None, refl, sym, ap, ◌∙◌, subst, arith}
use Rattle.std.proofs.lemmas.Option.{slice_get_within}
use Rattle.std.specs.Prelude.{replicate, slice_get}
use Rattle.bound_tree.specs.Exprs.{BoundExpr}
use Rattle.eng_index.proofs.Lists.{differ}
use Rattle.eng_index.specs.declared.key_term.KeyTerm.{KeyTerm}
use Rattle.eng_index.specs.declared.range.Bounds.{Bounds}
use Rattle.eng_value.specs.declared.compare_op.CompareOp.{CompareOp}
use Rattle.eng_value.specs.declared.compare_op.CompareOp.TheVariants as op
use Rattle.eng_value.specs.declared.value.Value.{Value}
use Rattle.plan_best.proofs.Serving.{begun_served, more_open, more_served, none_open, none_served}
use Rattle.plan_best.proofs.Ranging.{MayFollow, may_follow}
use Rattle.plan_best.specs.Comparing.{is_begun, is_equality, is_searchable, is_wanted}
use Rattle.plan_best.specs.Drafts.{HasAdded, IsBehind, IsFound, IsNext, IsSearchAt, KeepsServing, MayGoOn, Serves, UnlessSearch, with_bound, with_key, without_keys}
use Rattle.plan_best.specs.declared.comparing.Comparison.{Comparison}
use Rattle.plan_best.specs.declared.comparing.Wanted.{Wanted}
use Rattle.plan_best.specs.declared.comparing.Wanted.TheVariants as wanted
use Rattle.plan_best.specs.declared.drafting.Draft.{Draft}
use Rattle.sql_meaning.specs.Searches.{has_none, is_search}

-- ---- a key that was found

module _ (params : List Value) (item : ℕ) (cs : List BoundExpr) (d : Draft) (t : KeyTerm) (for : Wanted) (given : Bool) (place : ℕ) (c : Comparison) (found : IsFound params item cs d.consumed t for given place c) (at : slice_get d.search.terms d.search.bounds.equal ≡ Some t) (next : IsNext for d.search.bounds) (goes_on : MayGoOn params item cs d) where
  follows : MayFollow c.op d.search.bounds
  follows = may_follow for c.op d.search.bounds found.fitting.wanted next

  pub add_serves : KeepsServing params item cs d (with_key d place c)
  add_serves indexes serves =
      more_served params item cs d t place c found.conjunct found.fitting.compares found.at found.free at found.fitting.term follows goes_on indexes serves

  pub add_goes_on : given ≡ true → MayGoOn params item cs (with_key d place c)
  add_goes_on is =
      more_open params item cs d t place c found.conjunct found.fitting.compares found.at found.free at found.fitting.term follows goes_on (found.fitting.given_so ∙ is)

-- as the code has it
pub add_serves_so : (params : List Value) (item : ℕ) (cs : List BoundExpr) (d new : Draft) (t : KeyTerm) (for : Wanted) (given : Bool) (consumed : List Bool) (place : ℕ) (c : Comparison) → consumed ≡ d.consumed → IsFound params item cs consumed t for given place c → slice_get d.search.terms d.search.bounds.equal ≡ Some t → IsNext for d.search.bounds → MayGoOn params item cs d → new ≡ with_key d place c → KeepsServing params item cs d new
add_serves_so params item cs d new t for given consumed place c free found at next goes_on new_is =
    subst (λ (n : Draft). KeepsServing params item cs d n) (sym new_is) (add_serves params item cs d t for given place c (subst (λ those. IsFound params item cs those t for given place c) free found) at next goes_on)

pub add_goes_on_so : (params : List Value) (item : ℕ) (cs : List BoundExpr) (d new : Draft) (t : KeyTerm) (for : Wanted) (given : Bool) (consumed : List Bool) (place : ℕ) (c : Comparison) → consumed ≡ d.consumed → IsFound params item cs consumed t for given place c → slice_get d.search.terms d.search.bounds.equal ≡ Some t → IsNext for d.search.bounds → MayGoOn params item cs d → new ≡ with_key d place c → given ≡ true → MayGoOn params item cs new
add_goes_on_so params item cs d new t for given consumed place c free found at next goes_on new_is is =
    subst (λ (n : Draft). MayGoOn params item cs n) (sym new_is) (add_goes_on params item cs d t for given place c (subst (λ those. IsFound params item cs those t for given place c) free found) at next goes_on is)

behind : (for : Wanted) (o : CompareOp) (b : Bounds) → is_wanted for o ≡ true → IsBehind for b (with_bound o b)
behind wanted.Equal op.Eq b is = refl
behind wanted.Equal op.Lt b is = absurd (differ (sym is))
behind wanted.Equal op.Le b is = absurd (differ (sym is))
behind wanted.Equal op.Gt b is = absurd (differ (sym is))
behind wanted.Equal op.Ge b is = absurd (differ (sym is))
behind wanted.Lower op.Eq b is = absurd (differ (sym is))
behind wanted.Lower op.Lt b is = absurd (differ (sym is))
behind wanted.Lower op.Le b is = absurd (differ (sym is))
behind wanted.Lower op.Gt b is = (refl, refl)
behind wanted.Lower op.Ge b is = (refl, refl)
behind wanted.Upper op.Eq b is = absurd (differ (sym is))
behind wanted.Upper op.Lt b is = refl
behind wanted.Upper op.Le b is = refl
behind wanted.Upper op.Gt b is = absurd (differ (sym is))
behind wanted.Upper op.Ge b is = absurd (differ (sym is))

pub add_added : (for : Wanted) (d : Draft) (place : ℕ) (c : Comparison) → is_wanted for c.op ≡ true → HasAdded true for d (with_key d place c)
add_added for d place c is = (refl, behind for c.op d.search.bounds is)

-- ---- the first key

may_first : (o : CompareOp) → MayFollow o (record { equal = 0; lower = None; upper = None })
may_first op.Eq = (refl, refl)
may_first op.Lt = refl
may_first op.Le = refl
may_first op.Gt = (refl, refl)
may_first op.Ge = (refl, refl)

get-replicate : (n place : ℕ) → place < n → slice_get (replicate n false) place ≡ Some false
get-replicate zero place lt = absurd (omega arith)
get-replicate (suc n) zero lt = refl
get-replicate (suc n) (suc place) lt = get-replicate n place (omega arith)

all_three : (a b c : Bool) → ((a && b) && c) ≡ true → (a ≡ true) × (b ≡ true) × (c ≡ true)
all_three true true true is = (refl, refl, refl)
all_three true true false is = absurd (differ (sym is))
all_three true false c is = absurd (differ (sym is))
all_three false b c is = absurd (differ (sym is))

module _ (params : List Value) (cs : List BoundExpr) (place : ℕ) (c : Comparison) (search : IsSearchAt params cs place c) where
  abbrev begun : List KeyTerm → Draft
  begun terms = with_key (without_keys terms (length cs)) place c

  free : slice_get (replicate (length cs) false) place ≡ Some false
  free = get-replicate (length cs) place (slice_get_within cs place search.conjunct search.at)

  given : c.given ≡ true
  given = (all_three (is_equality c.op) c.given (has_none c.key.own) search.equal).1

  searched : (indexes : List (List KeyTerm)) → is_searchable indexes c.collation c.source ≡ true → is_search indexes params search.conjunct ≡ true
  searched indexes is =
      search.compares.search refl indexes ∙ ap (λ b. b && is_searchable indexes c.collation c.source) search.equal ∙ is

  pub begun_serves : (terms : List KeyTerm) → is_begun c terms ≡ true → (indexes : List (List KeyTerm)) → is_searchable indexes c.collation c.source ≡ true → Serves params 0 indexes cs (begun terms)
  begun_serves [] is indexes able = absurd (differ (sym is))
  begun_serves (t ∷ terms) is indexes able =
      begun_served params 0 cs (without_keys (t ∷ terms) (length cs)) t place c search.conjunct search.compares search.at free refl is (may_first c.op) (none_open params 0 cs (t ∷ terms)) indexes given (searched indexes able)

  pub begun_goes_on : (terms : List KeyTerm) → is_begun c terms ≡ true → MayGoOn params 0 cs (begun terms)
  begun_goes_on [] is = absurd (differ (sym is))
  begun_goes_on (t ∷ terms) is =
      more_open params 0 cs (without_keys (t ∷ terms) (length cs)) t place c search.conjunct search.compares search.at free refl is (may_first c.op) (none_open params 0 cs (t ∷ terms)) given

  begun_op : (o : CompareOp) → is_equality o ≡ true → IsNext wanted.Equal (with_bound o (record { equal = 0; lower = None; upper = None }))
  begun_op op.Eq is = (refl, refl)
  begun_op op.Lt is = absurd (differ (sym is))
  begun_op op.Le is = absurd (differ (sym is))
  begun_op op.Gt is = absurd (differ (sym is))
  begun_op op.Ge is = absurd (differ (sym is))

  pub begun_next : (terms : List KeyTerm) → IsNext wanted.Equal (begun terms).search.bounds
  begun_next terms = begun_op c.op (all_three (is_equality c.op) c.given (has_none c.key.own) search.equal).0

-- ---- where no conjunct is a search

pub none_goes_on : (params : List Value) (item : ℕ) (cs : List BoundExpr) (terms : List KeyTerm) → MayGoOn params item cs (without_keys terms (length cs))
none_goes_on params item cs terms = none_open params item cs terms

pub none_serves : (params : List Value) (item : ℕ) (indexes : List (List KeyTerm)) (cs : List BoundExpr) (terms : List KeyTerm) → UnlessSearch params item indexes cs → Serves params item indexes cs (without_keys terms (length cs))
none_serves params item indexes cs terms not = none_served params item cs terms indexes not
