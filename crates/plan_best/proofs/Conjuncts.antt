-- A comparison of the rowid or a column with a key says what a search by the key is to know.
use Rattle.std.proofs.Common.{◌≡◌, ℕ, ◌≤◌, ◌<◌, Bool, true, false, ◌&&◌, ◌||◌, List, length, Some, None, refl, sym, ap, ap₂, ◌∙◌, subst}
use Rattle.std.specs.declared.option.Option.{Option}
use Rattle.bound_tree.specs.Exprs as e
use Rattle.bound_tree.specs.Exprs.{BoundExpr}
use Rattle.eng_index.proofs.Lists.{differ}
use Rattle.eng_index.specs.Keys.{source_value, is_known_so, term_value}
use Rattle.eng_index.specs.declared.key_term.KeyTerm.{KeyTerm}
use Rattle.eng_index.specs.declared.key_term.TermSource.{TermSource}
use Rattle.eng_value.specs.Casts.{beside}
use Rattle.eng_value.specs.Collations.{keys_of}
use Rattle.eng_value.specs.Comparisons.{comparison, comparison_of}
use Rattle.eng_value.specs.Environments.{Environment, table_row}
use Rattle.eng_value.specs.Outs.{turned}
use Rattle.eng_value.specs.StoredRows.{StoredRow}
use Rattle.eng_value.specs.Truths.{truth_in, truth_of}
use Rattle.eng_value.specs.declared.affinity.Affinity.{Affinity}
use Rattle.eng_value.specs.declared.affinity.Affinity.TheVariants as affinity
use Rattle.eng_value.specs.declared.collation.Collation.{Collation}
use Rattle.eng_value.specs.declared.compare_op.CompareOp.{CompareOp}
use Rattle.eng_value.specs.declared.compare_op.CompareOp.TheVariants as op
use Rattle.eng_value.specs.declared.operators.BinaryOperator.TheVariants as binary
use Rattle.eng_value.specs.declared.operators.Sides.{Sides}
use Rattle.eng_value.specs.declared.out.Out.{Out}
use Rattle.eng_value.specs.declared.out.Out.TheVariants.{Good, Bad}
use Rattle.eng_value.specs.declared.truth.Truth.TheVariants.{True}
use Rattle.eng_value.specs.declared.value.Value.{Value}
use Rattle.plan_best.specs.Comparing.{Compares, IsNoSearch, IsNoSearchSo, MayCompare, MayStand, Rejects, is_equal_search, is_equality, is_of_term, is_search_so, is_searchable, stands_so, truth_at}
use Rattle.plan_best.specs.Sides.{is_kept_beside, op_round, sides_round, source_of}
use Rattle.plan_best.specs.declared.comparing.Comparison.{Comparison}
use Rattle.plan_best.proofs.Reading.{ReadsAlike, given-good, given-ignores, given-source, no_source-key, reads_alike, source-key, source-value}
use Rattle.plan_best.proofs.Standing.{IsTruthBy, comparison-round, kept_beside, truth_by_search, truth_met, truth_rejected}
use Rattle.plan_tree.proofs.Ignoring.{ignores-same}
use Rattle.plan_tree.specs.Ignoring.{ignores}
use Rattle.plan_tree.specs.Visits.{at_item, key_expr, key_out}
use Rattle.plan_tree.specs.declared.access.Key.{Key}
use Rattle.sql_meaning.specs.Expression.{value_of}
use Rattle.sql_meaning.specs.Products.{after_conjunct}
use Rattle.sql_meaning.specs.Searches.{has_none, is_given, is_good, is_key, is_search}

-- what is good becomes a value
good_becomes : (f : Value → Value) (a : Out) (v : Value) → turned (λ w. Good (f w)) a ≡ Good v → (w : Value) × (a ≡ Good w) × (f w ≡ v)
good_becomes f (Good w) v is = (w, refl, cc)
good_becomes f (Bad causes) v is = absurd (cc)

good_stays : (f : Value → Value) (a : Out) → is_good a ≡ true → is_good (turned (λ w. Good (f w)) a) ≡ true
good_stays f (Good w) is = refl
good_stays f (Bad causes) is = is

-- ---- tests

search_so : (s g n k m : Bool) → (((s && g) && n) || ((k && false) && m)) ≡ (((true && g) && n) && s)
search_so true true true true m = refl
search_so true true true false m = refl
search_so true true false true m = refl
search_so true true false false m = refl
search_so true false n true m = refl
search_so true false n false m = refl
search_so false true true true m = refl
search_so false true true false m = refl
search_so false true false true m = refl
search_so false true false false m = refl
search_so false false n true m = refl
search_so false false n false m = refl

either-comm : (a b : Bool) → (a || b) ≡ (b || a)
either-comm true true = refl
either-comm true false = refl
either-comm false true = refl
either-comm false false = refl

and_false : (b : Bool) → (b && false) ≡ false
and_false true = refl
and_false false = refl

unequal : (o : CompareOp) (b : Bool) → b ≡ false → (is_equality o && b) ≡ false
unequal op.Eq b is = is
unequal op.Lt b is = refl
unequal op.Le b is = refl
unequal op.Gt b is = refl
unequal op.Ge b is = refl

-- ---- the rowid or a column on the left side, and the key on the right one

module _ (params : List Value) (item : ℕ) (source : TermSource) (o : CompareOp) (c : Collation) (k : Key) (a : BoundExpr) (is : source_of item a ≡ Some source) where
  abbrev with_key : Comparison
  with_key = record { source = source; collation = c; op = o; key = k; given = is_given params (key_expr k) }

  abbrev both : Sides
  both = record { left = k.other; right = k.own; collation = c }

  abbrev whole : BoundExpr
  whole = e.Binary (binary.Compare o both) a (key_expr k)

  module _ (fixed : ignores item (key_expr k) ≡ true) (kept : is_kept_beside k.own k.other ≡ true) where
    module _ (env : Environment) (place : item < length env.rows) (t : KeyTerm) (r : StoredRow) (v : Value) (of_term : is_of_term with_key t ≡ true) (key : key_out k env ≡ Good v) where
      abbrev own : Value
      own = source_value source r

      reads : ReadsAlike env.hosts source c t r
      reads = reads_alike env.hosts source c t r of_term

      key_value : (w : Value) × (value_of (key_expr k) env ≡ Good w) × (beside k.other k.own w ≡ v)
      key_value = good_becomes (beside k.other k.own) (value_of (key_expr k) env) v key

      value-is : value_of whole (at_item env item r) ≡ comparison_of (keys_of env.hosts) o both (Good own) (Good key_value.0)
      value-is = ap₂ (comparison_of (keys_of env.hosts) o both) (source-value env item place r source a is) (ignores-same item (key_expr k) fixed env (table_row r) ∙ key_value.1)

      compared-is : comparison_of (keys_of env.hosts) o both (Good own) (Good key_value.0) ≡ Good (comparison (keys_of env.hosts) o both own key_value.0)
      unfolding comparison_of
      compared-is = refl

      truth-is : truth_at env item whole r ≡ truth_in (truth_of (Good (comparison (keys_of env.hosts) o both own key_value.0)))
      truth-is = ap (λ (q : Out). truth_in (truth_of q)) (value-is ∙ compared-is)

      so-is : is_known_so (stands_so o) t (term_value t r) v ≡ is_known_so (stands_so o) t own v
      so-is = ap (λ u. is_known_so (stands_so o) t u v) reads.value

      by_search : IsTruthBy (is_known_so (stands_so o) t own v) (truth_in (truth_of (Good (comparison (keys_of env.hosts) o both own key_value.0))))
      by_search = truth_by_search (keys_of env.hosts) o both t own key_value.0 v (kept_beside k.own k.other own kept) key_value.2 (reads.alike v)

      pub one_way_met : is_known_so (stands_so o) t (term_value t r) v ≡ true → truth_at env item whole r ≡ True
      one_way_met so = truth-is ∙ truth_met (is_known_so (stands_so o) t own v) _ by_search (sym so-is ∙ so)

      pub one_way_rejected : is_known_so (stands_so o) t (term_value t r) v ≡ false → Rejects env item whole r
      one_way_rejected so causes = rw truth-is (truth_rejected (is_known_so (stands_so o) t own v) _ by_search (sym so-is ∙ so) causes)

    good_key : (env : Environment) → env.params ≡ params → is_given params (key_expr k) ≡ true → is_good (key_out k env) ≡ true
    good_key env same given = good_stays (beside k.other k.own) (value_of (key_expr k) env) (given-good params env same (key_expr k) given)

    not_given : is_given params a ≡ false
    not_given = by (is_given params a) refl
      where
        by : (b : Bool) → is_given params a ≡ b → is_given params a ≡ false
        by true given = let none = given-source params item a given in absurd (cc)
        by false given = given

    search-is : item ≡ 0 → (indexes : List (List KeyTerm)) → is_search indexes params whole ≡ (is_equal_search with_key && is_searchable indexes c source)
    search-is first indexes = by o
      where
        by : (o : CompareOp) → is_search indexes params (e.Binary (binary.Compare o both) a (key_expr k)) ≡ (((is_equality o && is_given params (key_expr k)) && has_none k.own) && is_searchable indexes c source)
        by op.Eq =
            rw (source-key item first indexes c source a is, not_given) (search_so (is_searchable indexes c source) (is_given params (key_expr k)) (has_none k.own) (is_key indexes c (key_expr k)) (has_none k.other))
        by op.Lt = refl
        by op.Le = refl
        by op.Gt = refl
        by op.Ge = refl

    pub one_way_compares : Compares params item whole with_key
    one_way_compares = record {
      met = one_way_met;
      rejected = one_way_rejected;
      given = good_key;
      side = λ size larger. (larger o both a (key_expr k)).1;
      search = search-is;
    }

-- ---- where there is none

module _ (params : List Value) (item : ℕ) (o : CompareOp) (sides : Sides) (a b : BoundExpr) where
  pub no_key : source_of item a ≡ None → IsNoSearchSo params item o sides a b
  no_key is first indexes =
      unequal o _ (ap (λ k. (k && is_given params b) && has_none sides.right) (no_source-key item first indexes sides.collation a is))

  no_given : is_given params b ≡ false → (indexes : List (List KeyTerm)) → is_search_so indexes params o sides a b ≡ false
  no_given is indexes =
      unequal o _ (ap (λ g. (is_key indexes sides.collation a && g) && has_none sides.right) is ∙ ap (λ g. g && has_none sides.right) (and_false (is_key indexes sides.collation a)))

  no_none : has_none sides.right ≡ false → (indexes : List (List KeyTerm)) → is_search_so indexes params o sides a b ≡ false
  no_none is indexes =
      unequal o _ (ap (λ g. (is_key indexes sides.collation a && is_given params b) && g) is ∙ and_false (is_key indexes sides.collation a && is_given params b))

  pub no_fixed : ignores item b ≡ false → IsNoSearchSo params item o sides a b
  no_fixed is first = no_given (by (is_given params b) refl)
    where
      by : (g : Bool) → is_given params b ≡ g → is_given params b ≡ false
      by true given = absurd (differ (sym (given-ignores params item b given) ∙ is))
      by false given = given

  pub no_kept : is_kept_beside sides.right sides.left ≡ false → IsNoSearchSo params item o sides a b
  no_kept is first = no_none (by sides.right is)
    where
      by : (right : Affinity) → is_kept_beside right sides.left ≡ false → has_none right ≡ false
      by affinity.Integer kept = refl
      by affinity.Numeric kept = refl
      by affinity.Real kept = refl
      by affinity.Text kept = refl
      by affinity.Blob kept = refl
      by affinity.None kept = absurd (differ kept)

-- ---- either way round

module _ (params : List Value) (item : ℕ) (o : CompareOp) (sides : Sides) (a b : BoundExpr) where
  abbrev this : BoundExpr
  this = e.Binary (binary.Compare o sides) a b

  abbrev round : BoundExpr
  round = e.Binary (binary.Compare (op_round o) (sides_round sides)) b a

  abbrev so : List (List KeyTerm) → Bool
  so indexes = is_search_so indexes params o sides a b

  abbrev so_round : List (List KeyTerm) → Bool
  so_round indexes = is_search_so indexes params (op_round o) (sides_round sides) b a

  search-either : (indexes : List (List KeyTerm)) → is_search indexes params this ≡ (so indexes || so_round indexes)
  search-either indexes = by o
    where
      by : (o : CompareOp) → is_search indexes params (e.Binary (binary.Compare o sides) a b) ≡ (is_search_so indexes params o sides a b || is_search_so indexes params (op_round o) (sides_round sides) b a)
      by op.Eq = refl
      by op.Lt = refl
      by op.Le = refl
      by op.Gt = refl
      by op.Ge = refl

  search-round : (indexes : List (List KeyTerm)) → is_search indexes params round ≡ is_search indexes params this
  search-round indexes = by o
    where
      by : (o : CompareOp) → is_search indexes params (e.Binary (binary.Compare (op_round o) (sides_round sides)) b a) ≡ is_search indexes params (e.Binary (binary.Compare o sides) a b)
      by op.Eq = either-comm ((is_key indexes sides.collation b && is_given params a) && has_none sides.left) ((is_key indexes sides.collation a && is_given params b) && has_none sides.right)
      by op.Lt = refl
      by op.Le = refl
      by op.Gt = refl
      by op.Ge = refl

  pub no_search : IsNoSearchSo params item o sides a b → IsNoSearchSo params item (op_round o) (sides_round sides) b a → IsNoSearch params item this
  no_search not not_round first indexes =
      search-either indexes ∙ ap₂ (λ p q. p || q) (not first indexes) (not_round first indexes)

  truth-round : (env : Environment) (r : StoredRow) → truth_at env item this r ≡ truth_at env item round r
  truth-round env r =
      ap (λ (q : Out). truth_in (truth_of q)) (comparison-round env.hosts o sides (value_of a (at_item env item r)) (value_of b (at_item env item r)))

  compares_round : (c : Comparison) → Compares params item round c → key_expr c.key ≡ a → Compares params item this c
  compares_round c compares key_is = record {
    met = λ env place t r v of_term key is. truth-round env r ∙ compares.met env place t r v of_term key is;
    rejected = λ env place t r v of_term key is causes. ap (after_conjunct causes) (truth-round env r) ∙ compares.rejected env place t r v of_term key is causes;
    given = compares.given;
    side = λ size larger. subst (λ (k : BoundExpr). size k ≤ size this) (sym key_is) (larger o sides a b).0;
    search = λ first indexes. sym (search-round indexes) ∙ compares.search first indexes;
  }

  -- what is found the other way round, where there is nothing this way
  pub stands_round : (q : CompareOp) (turned : Sides) → q ≡ op_round o → turned ≡ sides_round sides → (found : Option Comparison) → MayStand params item o sides a b None → MayStand params item q turned b a found → MayCompare params item this found
  stands_round q turned q_is turned_is found not may =
      by found (subst (λ (p : CompareOp). MayStand params item p (sides_round sides) b a found) q_is (subst (λ (s : Sides). MayStand params item q s b a found) turned_is may))
    where
      by : (found : Option Comparison) → MayStand params item (op_round o) (sides_round sides) b a found → MayCompare params item this found
      by None not_round = no_search not not_round
      by (Some c) stands = compares_round c stands.0 stands.1

-- ---- any other expression compares nothing

pub by_compared : (P : BoundExpr → Type 0) → ((o : CompareOp) (sides : Sides) (a b : BoundExpr) → P (e.Binary (binary.Compare o sides) a b)) → ((x : BoundExpr) → ((indexes : List (List KeyTerm)) (params : List Value) → is_search indexes params x ≡ false) → P x) → (x : BoundExpr) → P x
by_compared P compared other (e.Binary (binary.Compare o sides) a b) = compared o sides a b
by_compared P compared other (e.Binary (binary.Arithmetic o) a b) = other _ (λ indexes params. refl)
by_compared P compared other (e.Binary (binary.Integers o) a b) = other _ (λ indexes params. refl)
by_compared P compared other (e.Binary binary.Concatenate a b) = other _ (λ indexes params. refl)
by_compared P compared other (e.Binary binary.And a b) = other _ (λ indexes params. refl)
by_compared P compared other (e.Binary binary.Or a b) = other _ (λ indexes params. refl)
by_compared P compared other (e.Binary (binary.Is sides) a b) = other _ (λ indexes params. refl)
by_compared P compared other (e.Binary binary.Like a b) = other _ (λ indexes params. refl)
by_compared P compared other (e.Binary binary.Glob a b) = other _ (λ indexes params. refl)
by_compared P compared other (e.Literal l) = other _ (λ indexes params. refl)
by_compared P compared other (e.Parameter n) = other _ (λ indexes params. refl)
by_compared P compared other (e.Column item place) = other _ (λ indexes params. refl)
by_compared P compared other (e.Rowid item) = other _ (λ indexes params. refl)
by_compared P compared other (e.Argument n) = other _ (λ indexes params. refl)
by_compared P compared other (e.Aggregate n) = other _ (λ indexes params. refl)
by_compared P compared other (e.Unary o a) = other _ (λ indexes params. refl)
by_compared P compared other (e.LikeEscaped a b c) = other _ (λ indexes params. refl)
by_compared P compared other (e.Between s u a low high) = other _ (λ indexes params. refl)
by_compared P compared other (e.InList s a others) = other _ (λ indexes params. refl)
by_compared P compared other (e.ChooseArm arms last) = other _ (λ indexes params. refl)
by_compared P compared other (e.MatchArm a arms last) = other _ (λ indexes params. refl)
by_compared P compared other (e.Iif a b c) = other _ (λ indexes params. refl)
by_compared P compared other (e.CoalesceList f args) = other _ (λ indexes params. refl)
by_compared P compared other (e.CallBuiltin f c args) = other _ (λ indexes params. refl)
by_compared P compared other (e.CallHost name args) = other _ (λ indexes params. refl)
by_compared P compared other (e.ScalarOf unit handed) = other _ (λ indexes params. refl)
by_compared P compared other (e.ExistsIn unit handed) = other _ (λ indexes params. refl)
by_compared P compared other (e.InUnit s a unit handed) = other _ (λ indexes params. refl)
by_compared P compared other e.RaiseIgnore = other _ (λ indexes params. refl)
by_compared P compared other (e.RaiseAbort text) = other _ (λ indexes params. refl)
