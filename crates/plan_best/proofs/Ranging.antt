-- A key more narrows the range that a search looks for, and a bad one leaves it as it was.
use Rattle.std.proofs.Common.{◌≡◌, ℕ, zero, suc, ◌+◌, ◌≤◌, ◌<◌, Bool, true, false, ◌&&◌, List, [], ◌∷◌, ◌++◌, length, take, Some, None, refl, sym, ap, ap₂, ◌∙◌, subst, arith}
use Rattle.std.proofs.lemmas.List.{take_all, take-append-le, length-take-le, length-append}
use Rattle.std.proofs.lemmas.Option.{slice_get_past}
use Rattle.std.specs.List.{AllByRecursion}
use Rattle.std.specs.Prelude.{slice_get}
use Rattle.std.specs.declared.option.Option.{Option}
use Rattle.eng_index.proofs.Lists.{differ}
use Rattle.eng_index.specs.Keys.{is_equal, is_from, is_known_so, is_up_to, is_within, passes_above, passes_below, term_value}
use Rattle.eng_index.specs.Searching.{bound_count, bounded_by, front_values, limit_count, limit_of}
use Rattle.eng_index.specs.declared.key_term.KeyTerm.{KeyTerm}
use Rattle.eng_index.specs.declared.range.Bounds.{Bounds}
use Rattle.eng_index.specs.declared.range.Edge.{Edge}
use Rattle.eng_index.specs.declared.range.Edge.TheVariants as edge
use Rattle.eng_index.specs.declared.range.Limit.{Limit}
use Rattle.eng_index.specs.declared.range.Range.{Range}
use Rattle.eng_value.specs.Causes.{CauseSet}
use Rattle.eng_value.specs.StoredRows.{StoredRow}
use Rattle.eng_value.specs.declared.compare_op.CompareOp.{CompareOp}
use Rattle.eng_value.specs.declared.compare_op.CompareOp.TheVariants as op
use Rattle.eng_value.specs.declared.out.Out.{Out}
use Rattle.eng_value.specs.declared.out.Out.TheVariants.{Good, Bad}
use Rattle.eng_value.specs.declared.value.Value.{Value}
use Rattle.plan_best.specs.Comparing.{is_wanted, stands_so}
use Rattle.plan_best.specs.Drafts.{IsNext, with_bound}
use Rattle.plan_best.specs.declared.comparing.Wanted.{Wanted}
use Rattle.plan_best.specs.declared.comparing.Wanted.TheVariants as wanted
use Rattle.plan_tree.specs.Visits.{is_in_range}
use Rattle.sql_meaning.specs.Searches.{is_good}

-- ---- the values in front of the first bad one

abbrev pub AreGood : List Out → Type 0
AreGood outs = AllByRecursion (λ out. is_good out ≡ true) outs

pub front-length : (outs : List Out) → AreGood outs → length (front_values outs) ≡ length outs
front-length [] all = refl
front-length (Good v ∷ outs) all = ap suc (front-length outs all.1)
front-length (Bad causes ∷ outs) all = absurd (differ (sym all.0))

pub front-good : (outs : List Out) (v : Value) → AreGood outs → front_values (outs ++ Good v ∷ []) ≡ front_values outs ++ v ∷ []
front-good [] v all = refl
front-good (Good w ∷ outs) v all = ap (λ l. w ∷ l) (front-good outs v all.1)
front-good (Bad causes ∷ outs) v all = absurd (differ (sym all.0))

pub front-bad : (outs : List Out) (causes : CauseSet) → AreGood outs → front_values (outs ++ Bad causes ∷ []) ≡ front_values outs
front-bad [] causes all = refl
front-bad (Good w ∷ outs) causes all = ap (λ l. w ∷ l) (front-bad outs causes all.1)
front-bad (Bad other ∷ outs) causes all = absurd (differ (sym all.0))

-- ---- places in lists

module _ {X : Type 0} where
  get-seam : (xs : List X) (x : X) (n : ℕ) → length xs ≡ n → slice_get (xs ++ x ∷ []) n ≡ Some x
  get-seam [] x n is = subst (λ k. slice_get (x ∷ []) k ≡ Some x) is refl
  get-seam (y ∷ xs) x zero is = absurd (omega arith)
  get-seam (y ∷ xs) x (suc n) is = get-seam xs x n (omega arith)

  get-left : (xs ys : List X) (n : ℕ) → n < length xs → slice_get (xs ++ ys) n ≡ slice_get xs n
  get-left [] ys n lt = absurd (omega arith)
  get-left (x ∷ xs) ys zero lt = refl
  get-left (x ∷ xs) ys (suc n) lt = get-left xs ys n (omega arith)

-- ---- bounds and values

abbrev range : List Value → Option Limit → Option Limit → Range
range equal lower upper = record { equal = equal; lower = lower; upper = upper }

abbrev bounds : ℕ → Option Edge → Option Edge → Bounds
bounds equal lower upper = record { equal = equal; lower = lower; upper = upper }

abbrev limit : Value → Edge → Option Limit
limit v at = Some (record { value = v; edge = at })

module _ (n : ℕ) (values : List Value) where
  -- as many values as are wanted
  equal-past : length values ≡ n → bounded_by (bounds (n + 1) None None) values ≡ bounded_by (bounds n None None) values
  equal-past long = ap (λ l. range l None None) (take_all (n + 1) values (omega arith) ∙ sym (take_all n values (omega arith)))

  equal-more : (v : Value) → length values ≡ n → bounded_by (bounds (n + 1) None None) (values ++ v ∷ []) ≡ range (take n values ++ v ∷ []) None None
  equal-more v long =
      ap (λ l. range l None None) (take_all (n + 1) (values ++ v ∷ []) (omega (arith, length-append values (v ∷ []))) ∙ ap (λ l. l ++ v ∷ []) (sym (take_all n values (omega arith))))

  lower-past : (at : Edge) → length values ≡ n → bounded_by (bounds n (Some at) None) values ≡ bounded_by (bounds n None None) values
  lower-past at long = ap (λ o. range (take n values) (limit_of (Some at) o) None) (slice_get_past values n (omega arith))

  lower-more : (at : Edge) (v : Value) → length values ≡ n → bounded_by (bounds n (Some at) None) (values ++ v ∷ []) ≡ range (take n values) (limit v at) None
  lower-more at v long =
      ap₂ (λ l o. range l (limit_of (Some at) o) None) (take-append-le n values (v ∷ []) (omega arith)) (get-seam values v n long)

  -- the lower limit, as it is
  same_lower : (lower : Option Edge) (v : Value) → length values ≡ n + limit_count lower → limit_of lower (slice_get (values ++ v ∷ []) n) ≡ limit_of lower (slice_get values n)
  same_lower None v long = refl
  same_lower (Some at) v long = ap (limit_of (Some at)) (get-left values (v ∷ []) n (omega arith))

  upper-past : (lower : Option Edge) (at : Edge) → length values ≡ n + limit_count lower → bounded_by (bounds n lower (Some at)) values ≡ bounded_by (bounds n lower None) values
  upper-past lower at long =
      ap (λ o. range (take n values) (limit_of lower (slice_get values n)) (limit_of (Some at) o)) (slice_get_past values (n + limit_count lower) (omega arith))

  upper-more : (lower : Option Edge) (at : Edge) (v : Value) → length values ≡ n + limit_count lower → bounded_by (bounds n lower (Some at)) (values ++ v ∷ []) ≡ range (take n values) (limit_of lower (slice_get values n)) (limit v at)
  upper-more lower at v long =
      ap₂ (λ l o. range l o (limit_of (Some at) (slice_get (values ++ v ∷ []) (n + limit_count lower)))) (take-append-le n values (v ∷ []) (omega arith)) (same_lower lower v long)
      ∙ ap (λ o. range (take n values) (limit_of lower (slice_get values n)) (limit_of (Some at) o)) (get-seam values v (n + limit_count lower) long)

-- ---- rows within a range that is narrower

both-true : (a : Bool) → (a && true) ≡ a
both-true true = refl
both-true false = refl

both-assoc : (a b c : Bool) → (a && (b && c)) ≡ ((a && b) && c)
both-assoc true b c = refl
both-assoc false b c = refl

none_within : (terms : List KeyTerm) (r : StoredRow) → is_within terms [] None None r ≡ true
none_within [] r = refl
none_within (t ∷ terms) r = refl

module _ (t : KeyTerm) (r : StoredRow) where
  within_equal : (v : Value) (terms : List KeyTerm) (equal : List Value) → slice_get terms (length equal) ≡ Some t → is_within terms (equal ++ v ∷ []) None None r ≡ (is_within terms equal None None r && is_equal t (term_value t r) v)
  within_equal v [] equal at = absurd (cc)
  within_equal v (u ∷ terms) [] at =
      let same : u ≡ t = cc in
      ap (λ b. is_equal u (term_value u r) v && b) (none_within terms r) ∙ both-true (is_equal u (term_value u r) v) ∙ ap (λ (q : KeyTerm). is_equal q (term_value q r) v) same
  within_equal v (u ∷ terms) (w ∷ equal) at =
      ap (λ b. is_equal u (term_value u r) w && b) (within_equal v terms equal at) ∙ both-assoc (is_equal u (term_value u r) w) (is_within terms equal None None r) (is_equal t (term_value t r) v)

  within_lower : (l : Limit) (terms : List KeyTerm) (equal : List Value) → slice_get terms (length equal) ≡ Some t → is_within terms equal (Some l) None r ≡ (is_within terms equal None None r && is_from (Some l) t (term_value t r))
  within_lower l [] equal at = absurd (cc)
  within_lower l (u ∷ terms) [] at =
      let same : u ≡ t = cc in
      both-true (is_from (Some l) u (term_value u r)) ∙ ap (λ (q : KeyTerm). is_from (Some l) q (term_value q r)) same
  within_lower l (u ∷ terms) (w ∷ equal) at =
      ap (λ b. is_equal u (term_value u r) w && b) (within_lower l terms equal at) ∙ both-assoc (is_equal u (term_value u r) w) (is_within terms equal None None r) (is_from (Some l) t (term_value t r))

  within_upper : (lower : Option Limit) (l : Limit) (terms : List KeyTerm) (equal : List Value) → slice_get terms (length equal) ≡ Some t → is_within terms equal lower (Some l) r ≡ (is_within terms equal lower None r && is_up_to (Some l) t (term_value t r))
  within_upper lower l [] equal at = absurd (cc)
  within_upper lower l (u ∷ terms) [] at =
      let same : u ≡ t = cc in
      ap (λ b. is_from lower u (term_value u r) && b) (ap (λ (q : KeyTerm). is_up_to (Some l) q (term_value q r)) same) ∙ ap (λ b. b && is_up_to (Some l) t (term_value t r)) (sym (both-true (is_from lower u (term_value u r))))
  within_upper lower l (u ∷ terms) (w ∷ equal) at =
      ap (λ b. is_equal u (term_value u r) w && b) (within_upper lower l terms equal at) ∙ both-assoc (is_equal u (term_value u r) w) (is_within terms equal lower None r) (is_up_to (Some l) t (term_value t r))

-- ---- a key more, by how it compares

-- the bounds behind which such a key may stand
abbrev pub MayFollow : CompareOp → Bounds → Type 0
MayFollow op.Eq b = (b.lower ≡ None) × (b.upper ≡ None)
MayFollow op.Lt b = b.upper ≡ None
MayFollow op.Le b = b.upper ≡ None
MayFollow op.Gt b = (b.lower ≡ None) × (b.upper ≡ None)
MayFollow op.Ge b = (b.lower ≡ None) × (b.upper ≡ None)

pub may_follow : (for : Wanted) (o : CompareOp) (b : Bounds) → is_wanted for o ≡ true → IsNext for b → MayFollow o b
may_follow wanted.Equal op.Eq b is next = next
may_follow wanted.Equal op.Lt b is next = absurd (differ (sym is))
may_follow wanted.Equal op.Le b is next = absurd (differ (sym is))
may_follow wanted.Equal op.Gt b is next = absurd (differ (sym is))
may_follow wanted.Equal op.Ge b is next = absurd (differ (sym is))
may_follow wanted.Lower op.Eq b is next = absurd (differ (sym is))
may_follow wanted.Lower op.Lt b is next = absurd (differ (sym is))
may_follow wanted.Lower op.Le b is next = absurd (differ (sym is))
may_follow wanted.Lower op.Gt b is next = next
may_follow wanted.Lower op.Ge b is next = next
may_follow wanted.Upper op.Eq b is next = absurd (differ (sym is))
may_follow wanted.Upper op.Lt b is next = next
may_follow wanted.Upper op.Le b is next = next
may_follow wanted.Upper op.Gt b is next = absurd (differ (sym is))
may_follow wanted.Upper op.Ge b is next = absurd (differ (sym is))

module _ (terms : List KeyTerm) (t : KeyTerm) (n : ℕ) (values : List Value) (at : slice_get terms n ≡ Some t) where
  front_long : n ≤ length values → length (take n values) ≡ n
  front_long le = length-take-le n values le

  at_front : n ≤ length values → slice_get terms (length (take n values)) ≡ Some t
  at_front le = ap (slice_get terms) (front_long le) ∙ at

  -- so many values, one for each bound
  abbrev Narrows : CompareOp → Bounds → Type 0
  Narrows o b =
      (v : Value) (r : StoredRow) → is_in_range terms (bounded_by (with_bound o b) (values ++ v ∷ [])) r ≡ (is_in_range terms (bounded_by b values) r && is_known_so (stands_so o) t (term_value t r) v)

  narrows_equal : length values ≡ n → Narrows op.Eq (bounds n None None)
  narrows_equal long v r =
      ap (λ (q : Range). is_in_range terms q r) (equal-more n values v long) ∙ within_equal t r v terms (take n values) (at_front (omega arith))

  narrows_lower : (o : CompareOp) (e : Edge) → passes_below e ≡ stands_so o → length values ≡ n → (v : Value) (r : StoredRow) → is_in_range terms (bounded_by (bounds n (Some e) None) (values ++ v ∷ [])) r ≡ (is_in_range terms (bounded_by (bounds n None None) values) r && is_known_so (stands_so o) t (term_value t r) v)
  narrows_lower o e so long v r =
      ap (λ (q : Range). is_in_range terms q r) (lower-more n values e v long)
      ∙ within_lower t r (record { value = v; edge = e }) terms (take n values) (at_front (omega arith))
      ∙ ap (λ s. is_in_range terms (bounded_by (bounds n None None) values) r && is_known_so s t (term_value t r) v) so

  narrows_upper : (o : CompareOp) (e : Edge) (lower : Option Edge) → passes_above e ≡ stands_so o → length values ≡ n + limit_count lower → (v : Value) (r : StoredRow) → is_in_range terms (bounded_by (bounds n lower (Some e)) (values ++ v ∷ [])) r ≡ (is_in_range terms (bounded_by (bounds n lower None) values) r && is_known_so (stands_so o) t (term_value t r) v)
  narrows_upper o e lower so long v r =
      ap (λ (q : Range). is_in_range terms q r) (upper-more n values lower e v long)
      ∙ within_upper t r (limit_of lower (slice_get values n)) (record { value = v; edge = e }) terms (take n values) (at_front (omega arith))
      ∙ ap (λ s. is_in_range terms (bounded_by (bounds n lower None) values) r && is_known_so s t (term_value t r) v) so

  abbrev Counted : Bounds → Type 0
  Counted b = length values ≡ bound_count b

  -- for bounds in parts
  narrows_parts : (o : CompareOp) (lower upper : Option Edge) → MayFollow o (bounds n lower upper) → Counted (bounds n lower upper) → Narrows o (bounds n lower upper)
  narrows_parts op.Eq None None next long = narrows_equal (omega arith)
  narrows_parts op.Eq (Some e) upper next long = absurd (cc)
  narrows_parts op.Eq None (Some e) next long = absurd (cc)
  narrows_parts op.Lt lower None next long = narrows_upper op.Lt edge.Excluded lower refl (omega arith)
  narrows_parts op.Lt lower (Some e) next long = absurd (cc)
  narrows_parts op.Le lower None next long = narrows_upper op.Le edge.Included lower refl (omega arith)
  narrows_parts op.Le lower (Some e) next long = absurd (cc)
  narrows_parts op.Gt None None next long = narrows_lower op.Gt edge.Excluded refl (omega arith)
  narrows_parts op.Gt (Some e) upper next long = absurd (cc)
  narrows_parts op.Gt None (Some e) next long = absurd (cc)
  narrows_parts op.Ge None None next long = narrows_lower op.Ge edge.Included refl (omega arith)
  narrows_parts op.Ge (Some e) upper next long = absurd (cc)
  narrows_parts op.Ge None (Some e) next long = absurd (cc)

-- a value more, of which there are as many as bounds
pub narrows : (terms : List KeyTerm) (t : KeyTerm) (o : CompareOp) (b : Bounds) (values : List Value) → slice_get terms b.equal ≡ Some t → MayFollow o b → length values ≡ bound_count b → (v : Value) (r : StoredRow) → is_in_range terms (bounded_by (with_bound o b) (values ++ v ∷ [])) r ≡ (is_in_range terms (bounded_by b values) r && is_known_so (stands_so o) t (term_value t r) v)
narrows terms t o b values at next long = narrows_parts terms t b.equal values at o b.lower b.upper next long

past_parts : (n : ℕ) (values : List Value) (o : CompareOp) (lower upper : Option Edge) → MayFollow o (bounds n lower upper) → length values ≡ bound_count (bounds n lower upper) → bounded_by (with_bound o (bounds n lower upper)) values ≡ bounded_by (bounds n lower upper) values
past_parts n values op.Eq None None next long = equal-past n values (omega arith)
past_parts n values op.Eq (Some e) upper next long = absurd (cc)
past_parts n values op.Eq None (Some e) next long = absurd (cc)
past_parts n values op.Lt lower None next long = upper-past n values lower edge.Excluded (omega arith)
past_parts n values op.Lt lower (Some e) next long = absurd (cc)
past_parts n values op.Le lower None next long = upper-past n values lower edge.Included (omega arith)
past_parts n values op.Le lower (Some e) next long = absurd (cc)
past_parts n values op.Gt None None next long = lower-past n values edge.Excluded (omega arith)
past_parts n values op.Gt (Some e) upper next long = absurd (cc)
past_parts n values op.Gt None (Some e) next long = absurd (cc)
past_parts n values op.Ge None None next long = lower-past n values edge.Included (omega arith)
past_parts n values op.Ge (Some e) upper next long = absurd (cc)
past_parts n values op.Ge None (Some e) next long = absurd (cc)

-- a bound without a value says nothing
pub past : (o : CompareOp) (b : Bounds) (values : List Value) → MayFollow o b → length values ≡ bound_count b → bounded_by (with_bound o b) values ≡ bounded_by b values
past o b values next long = past_parts b.equal values o b.lower b.upper next long

counted_parts : (o : CompareOp) (n : ℕ) (lower upper : Option Edge) → MayFollow o (bounds n lower upper) → bound_count (with_bound o (bounds n lower upper)) ≡ bound_count (bounds n lower upper) + 1
counted_parts op.Eq n None None next = omega arith
counted_parts op.Eq n (Some e) upper next = absurd (cc)
counted_parts op.Eq n None (Some e) next = absurd (cc)
counted_parts op.Lt n lower None next = omega arith
counted_parts op.Lt n lower (Some e) next = absurd (cc)
counted_parts op.Le n lower None next = omega arith
counted_parts op.Le n lower (Some e) next = absurd (cc)
counted_parts op.Gt n None None next = omega arith
counted_parts op.Gt n (Some e) upper next = absurd (cc)
counted_parts op.Gt n None (Some e) next = absurd (cc)
counted_parts op.Ge n None None next = omega arith
counted_parts op.Ge n (Some e) upper next = absurd (cc)
counted_parts op.Ge n None (Some e) next = absurd (cc)

pub counted : (o : CompareOp) (b : Bounds) → MayFollow o b → bound_count (with_bound o b) ≡ bound_count b + 1
counted o b next = counted_parts o b.equal b.lower b.upper next
