-- Expressions that see no row see the same where rows read NULL.
use Rattle.std.proofs.Common.{◌≡◌, ℕ, List, ◌∷◌, refl, ap, ◌∙◌}
use Rattle.std.specs.Prelude.{slice_index_or}
use Rattle.bound_tree.specs.Exprs as e
use Rattle.bound_tree.specs.Exprs.{BoundArms, BoundExpr, BoundExprs, BoundMatches, NoExprs, AnExpr, NoArms, AnArm, NoMatches, AMatch}
use Rattle.eng_value.specs.Applied.{binary_of, member_of, unary_of}
use Rattle.eng_value.specs.Collations.{keys_of}
use Rattle.eng_value.specs.Comparisons.{comparison_of, like_escaped_of}
use Rattle.eng_value.specs.Environments.{Environment, ItemRow, Lists, column_of, null_row, row_at}
use Rattle.eng_value.specs.Truths.{choice_of}
use Rattle.eng_value.specs.declared.compare_op.CompareOp.TheVariants as compare
use Rattle.eng_value.specs.declared.out.Out.{Out}
use Rattle.sql_meaning.specs.Expression.{arms_of, between_of, chosen_in, first_known, function_of, matched_in, matches_of, value_of, values_of}

three : (f : Out → Out → Out → Out) {a a' b b' c c' : Out} → a ≡ a' → b ≡ b' → c ≡ c' → f a b c ≡ f a' b' c'
three f {a} {a'} {b} {b'} {c} {c'} p q r = ap (λ o. f o b c) p ∙ ap (λ o. f a' o c) q ∙ ap (f a' b') r

module _ (x : Environment) (rows : List ItemRow) (world : Lists) (same : (item : ℕ) → row_at x item ≡ slice_index_or rows item null_row) where
  abbrev other : Environment
  other = record x { rows = rows; world = world }

  mutual
    -- an expression comes to the same
    pub value_of-same : (y : BoundExpr) → value_of y x ≡ value_of y other
    value_of-same (e.Literal l) = refl
    value_of-same (e.Parameter number) = refl
    value_of-same (e.Column item place) = ap (λ row. column_of row place) (same item)
    value_of-same (e.Rowid item) = ap (λ (row : ItemRow). row.rowid) (same item)
    value_of-same (e.Argument place) = refl
    value_of-same (e.Aggregate slot) = refl
    value_of-same (e.Unary op a) = ap (unary_of op) (value_of-same a)
    value_of-same (e.Binary op a b) =
        ap (λ o. binary_of (keys_of x.hosts) op o (value_of b x)) (value_of-same a)
        ∙ ap (binary_of (keys_of x.hosts) op (value_of a other)) (value_of-same b)
    value_of-same (e.LikeEscaped a b c) =
        three like_escaped_of (value_of-same a) (value_of-same b) (value_of-same c)
    value_of-same (e.Between above below a low high) =
        three (between_of (keys_of x.hosts) above below) (value_of-same a) (value_of-same low) (value_of-same high)
    value_of-same (e.InList sides a others) =
        ap (λ o. member_of (keys_of x.hosts) sides o (values_of others x)) (value_of-same a)
        ∙ ap (member_of (keys_of x.hosts) sides (value_of a other)) (values_of-same others)
    value_of-same (e.ChooseArm arms otherwise) = chosen-same arms (value_of-same otherwise)
    value_of-same (e.MatchArm a arms otherwise) =
        matched-same arms (value_of-same a) (value_of-same otherwise)
    value_of-same (e.Iif a b c) = three choice_of (value_of-same a) (value_of-same b) (value_of-same c)
    value_of-same (e.CoalesceList f es) = ap first_known (values_of-same es)
    value_of-same (e.CallBuiltin f collation args) =
        ap (function_of (keys_of x.hosts) f collation) (values_of-same args)
    value_of-same (e.CallHost name args) = refl
    value_of-same (e.ScalarOf unit args) = refl
    value_of-same (e.ExistsIn unit args) = refl
    value_of-same (e.InUnit sides a unit args) = refl
    value_of-same e.RaiseIgnore = refl
    value_of-same (e.RaiseAbort text) = refl

    values_of-same : (es : BoundExprs) → values_of es x ≡ values_of es other
    values_of-same NoExprs = refl
    values_of-same (AnExpr a rest) =
        ap (λ o. o ∷ values_of rest x) (value_of-same a) ∙ ap (λ l. value_of a other ∷ l) (values_of-same rest)

    chosen-same : (arms : BoundArms) {p q : Out} → p ≡ q → chosen_in x (arms_of arms) p ≡ chosen_in other (arms_of arms) q
    chosen-same NoArms d = d
    chosen-same (AnArm a b rest) d =
        three choice_of (value_of-same a) (value_of-same b) (chosen-same rest d)

    matched-same : (arms : BoundMatches) {t u p q : Out} → t ≡ u → p ≡ q → matched_in x t (matches_of arms) p ≡ matched_in other u (matches_of arms) q
    matched-same NoMatches c d = d
    matched-same (AMatch sides a b rest) {t} {u} c d =
        let compared : Out → Out → Out = λ o v. comparison_of (keys_of x.hosts) compare.Eq sides o v in
        let tested = ap (λ o. compared o (value_of a x)) c ∙ ap (compared u) (value_of-same a) in
        three choice_of tested (value_of-same b) (matched-same rest c d)
