-- What reads nothing of an item's row comes to the same whatever row the item has.
use Rattle.std.proofs.Common.{◌≡◌, ℕ, Bool, true, false, not, ◌&&◌, ◌∷◌, refl, sym, ap, ◌∙◌}
use Rattle.std.specs.Prelude.{nat_eq}
use Rattle.std.proofs.lemmas.Bool.{eq-eqb}
use Rattle.std.proofs.lemmas.List.{get_or-set_other}
use Rattle.bound_tree.specs.Exprs as e
use Rattle.bound_tree.specs.Exprs.{BoundArms, BoundExpr, BoundExprs, BoundMatches, NoExprs, AnExpr, NoArms, AnArm, NoMatches, AMatch}
use Rattle.eng_index.proofs.Lists.{differ}
use Rattle.eng_value.specs.Applied.{binary_of, member_of, unary_of}
use Rattle.eng_value.specs.Collations.{keys_of}
use Rattle.eng_value.specs.Comparisons.{comparison_of, like_escaped_of}
use Rattle.eng_value.specs.Environments.{Environment, ItemRow, column_of, null_row, row_at}
use Rattle.eng_value.specs.Truths.{choice_of}
use Rattle.eng_value.specs.declared.compare_op.CompareOp.TheVariants as compare
use Rattle.eng_value.specs.declared.out.Out.{Out}
use Rattle.plan_tree.specs.Ignoring.{all_ignore, arms_ignore, ignores, matches_ignore}
use Rattle.plan_tree.specs.Visits.{Ignores, with_row_at}
use Rattle.sql_meaning.specs.Expression.{arms_of, between_of, chosen_in, first_known, function_of, matched_in, matches_of, value_of, values_of}

both : (a b : Bool) → (a && b) ≡ true → (a ≡ true) × (b ≡ true)
both true b is = (refl, is)
both false b is = absurd (differ (sym is))

three : (f : Out → Out → Out → Out) {a a' b b' c c' : Out} → a ≡ a' → b ≡ b' → c ≡ c' → f a b c ≡ f a' b' c'
three f {a} {a'} {b} {b'} {c} {c'} p q r = ap (λ o. f o b c) p ∙ ap (λ o. f a' o c) q ∙ ap (f a' b') r

-- another item's row stays
other_row : (env : Environment) (item other : ℕ) (row : ItemRow) → not (nat_eq other item) ≡ true → row_at (with_row_at env item row) other ≡ row_at env other
other_row env item other row differs =
    get_or-set_other env.rows item other row null_row (λ same. let told : nat_eq other item ≡ true = eq-eqb other item same in let bad : true ≡ false = sym differs ∙ ap not told in differ bad)

module _ (item : ℕ) (env : Environment) (row : ItemRow) where
  abbrev there : Environment
  there = with_row_at env item row

  mutual
    value_same : (c : BoundExpr) → ignores item c ≡ true → value_of c there ≡ value_of c env
    value_same (e.Literal l) is = refl
    value_same (e.Parameter number) is = refl
    value_same (e.Column other place) is = ap (λ r. column_of r place) (other_row env item other row is)
    value_same (e.Rowid other) is = ap (λ (r : ItemRow). r.rowid) (other_row env item other row is)
    value_same (e.Argument place) is = refl
    value_same (e.Aggregate slot) is = refl
    value_same (e.Unary op a) is = ap (unary_of op) (value_same a is)
    value_same (e.Binary op a b) is =
        let parts = both (ignores item a) (ignores item b) is in
        ap (λ o. binary_of (keys_of env.hosts) op o (value_of b there)) (value_same a parts.0)
        ∙ ap (binary_of (keys_of env.hosts) op (value_of a env)) (value_same b parts.1)
    value_same (e.LikeEscaped a b c) is =
        let parts = both (ignores item a) (ignores item b && ignores item c) is in
        let others = both (ignores item b) (ignores item c) parts.1 in
        three like_escaped_of (value_same a parts.0) (value_same b others.0) (value_same c others.1)
    value_same (e.Between above below a low high) is =
        let parts = both (ignores item a) (ignores item low && ignores item high) is in
        let others = both (ignores item low) (ignores item high) parts.1 in
        three (between_of (keys_of env.hosts) above below) (value_same a parts.0) (value_same low others.0) (value_same high others.1)
    value_same (e.InList sides a others) is =
        let parts = both (ignores item a) (all_ignore item others) is in
        ap (λ o. member_of (keys_of env.hosts) sides o (values_of others there)) (value_same a parts.0)
        ∙ ap (member_of (keys_of env.hosts) sides (value_of a env)) (values_same others parts.1)
    value_same (e.ChooseArm arms otherwise) is =
        let parts = both (arms_ignore item arms) (ignores item otherwise) is in
        chosen_same arms parts.0 (value_same otherwise parts.1)
    value_same (e.MatchArm a arms otherwise) is =
        let parts = both (ignores item a) (matches_ignore item arms && ignores item otherwise) is in
        let others = both (matches_ignore item arms) (ignores item otherwise) parts.1 in
        matched_same arms others.0 (value_same a parts.0) (value_same otherwise others.1)
    value_same (e.Iif a b c) is =
        let parts = both (ignores item a) (ignores item b && ignores item c) is in
        let others = both (ignores item b) (ignores item c) parts.1 in
        three choice_of (value_same a parts.0) (value_same b others.0) (value_same c others.1)
    value_same (e.CoalesceList f es) is = ap first_known (values_same es is)
    value_same (e.CallBuiltin f collation args) is =
        ap (function_of (keys_of env.hosts) f collation) (values_same args is)
    value_same (e.CallHost name args) is = refl
    value_same (e.ScalarOf unit args) is = refl
    value_same (e.ExistsIn unit args) is = refl
    value_same (e.InUnit sides a unit args) is = refl
    value_same e.RaiseIgnore is = refl
    value_same (e.RaiseAbort text) is = refl

    values_same : (es : BoundExprs) → all_ignore item es ≡ true → values_of es there ≡ values_of es env
    values_same NoExprs is = refl
    values_same (AnExpr a rest) is =
        let parts = both (ignores item a) (all_ignore item rest) is in
        ap (λ o. o ∷ values_of rest there) (value_same a parts.0)
        ∙ ap (λ l. value_of a env ∷ l) (values_same rest parts.1)

    chosen_same : (arms : BoundArms) → arms_ignore item arms ≡ true → {p q : Out} → p ≡ q → chosen_in there (arms_of arms) p ≡ chosen_in env (arms_of arms) q
    chosen_same NoArms is d = d
    chosen_same (AnArm a b rest) is d =
        let parts = both (ignores item a && ignores item b) (arms_ignore item rest) is in
        let arm = both (ignores item a) (ignores item b) parts.0 in
        three choice_of (value_same a arm.0) (value_same b arm.1) (chosen_same rest parts.1 d)

    matched_same : (arms : BoundMatches) → matches_ignore item arms ≡ true → {t u p q : Out} → t ≡ u → p ≡ q → matched_in there t (matches_of arms) p ≡ matched_in env u (matches_of arms) q
    matched_same NoMatches is c d = d
    matched_same (AMatch sides a b rest) is {t} {u} c d =
        let parts = both (ignores item a && ignores item b) (matches_ignore item rest) is in
        let arm = both (ignores item a) (ignores item b) parts.0 in
        let compared : Out → Out → Out = λ o v. comparison_of (keys_of env.hosts) compare.Eq sides o v in
        let tested = ap (λ o. compared o (value_of a there)) c ∙ ap (compared u) (value_same a arm.0) in
        three choice_of tested (value_same b arm.1) (matched_same rest parts.1 c d)

pub ignores-same : (item : ℕ) (c : BoundExpr) → ignores item c ≡ true → Ignores item c
ignores-same item c is = λ env row. value_same item env row c is
