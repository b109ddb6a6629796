-- Expressions tell environments apart by the rows that they read alone.
use Rattle.std.proofs.Common.{◌≡◌, ℕ, ◌∷◌, refl, ap, ◌∙◌}
use Rattle.bound_tree.specs.Exprs as e
use Rattle.bound_tree.specs.Exprs.{BoundArms, BoundExpr, BoundExprs, BoundMatches, NoExprs, AnExpr, NoArms, AnArm, NoMatches, AMatch}
use Rattle.eng_value.specs.Applied.{binary_of, member_of, unary_of}
use Rattle.eng_value.specs.Collations.{keys_of}
use Rattle.eng_value.specs.Comparisons.{comparison_of, like_escaped_of}
use Rattle.eng_value.specs.Environments.{Environment, ItemRow, column_of, row_at}
use Rattle.eng_value.specs.Truths.{choice_of}
use Rattle.eng_value.specs.declared.compare_op.CompareOp.TheVariants as compare
use Rattle.eng_value.specs.declared.out.Out.{Out}
use Rattle.sql_meaning.specs.Expression.{arms_of, between_of, chosen_in, first_known, function_of, matched_in, matches_of, value_of, values_of}

three : (f : Out → Out → Out → Out) {a a' b b' c c' : Out} → a ≡ a' → b ≡ b' → c ≡ c' → f a b c ≡ f a' b' c'
three f {a} {a'} {b} {b'} {c} {c'} p q r = ap (λ o. f o b c) p ∙ ap (λ o. f a' o c) q ∙ ap (f a' b') r

-- other rows, of which each item reads the same
module _ (env : Environment) (rows : _) (alike : (item : ℕ) → row_at (record env { rows = rows }) item ≡ row_at env item) where
  abbrev there : Environment
  there = record env { rows = rows }

  mutual
    pub value_same : (c : BoundExpr) → value_of c there ≡ value_of c env
    value_same (e.Literal l) = refl
    value_same (e.Parameter number) = refl
    value_same (e.Column item place) = ap (λ r. column_of r place) (alike item)
    value_same (e.Rowid item) = ap (λ (r : ItemRow). r.rowid) (alike item)
    value_same (e.Argument place) = refl
    value_same (e.Aggregate slot) = refl
    value_same (e.Unary op a) = ap (unary_of op) (value_same a)
    value_same (e.Binary op a b) =
        ap (λ o. binary_of (keys_of env.hosts) op o (value_of b there)) (value_same a)
        ∙ ap (binary_of (keys_of env.hosts) op (value_of a env)) (value_same b)
    value_same (e.LikeEscaped a b c) = three like_escaped_of (value_same a) (value_same b) (value_same c)
    value_same (e.Between above below a low high) =
        three (between_of (keys_of env.hosts) above below) (value_same a) (value_same low) (value_same high)
    value_same (e.InList sides a others) =
        ap (λ o. member_of (keys_of env.hosts) sides o (values_of others there)) (value_same a)
        ∙ ap (member_of (keys_of env.hosts) sides (value_of a env)) (values_same others)
    value_same (e.ChooseArm arms otherwise) = chosen_same arms (value_same otherwise)
    value_same (e.MatchArm a arms otherwise) = matched_same arms (value_same a) (value_same otherwise)
    value_same (e.Iif a b c) = three choice_of (value_same a) (value_same b) (value_same c)
    value_same (e.CoalesceList f es) = ap first_known (values_same es)
    value_same (e.CallBuiltin f collation args) = ap (function_of (keys_of env.hosts) f collation) (values_same args)
    value_same (e.CallHost name args) = refl
    value_same (e.ScalarOf unit args) = refl
    value_same (e.ExistsIn unit args) = refl
    value_same (e.InUnit sides a unit args) = refl
    value_same e.RaiseIgnore = refl
    value_same (e.RaiseAbort text) = refl

    values_same : (es : BoundExprs) → values_of es there ≡ values_of es env
    values_same NoExprs = refl
    values_same (AnExpr a rest) =
        ap (λ o. o ∷ values_of rest there) (value_same a) ∙ ap (λ l. value_of a env ∷ l) (values_same rest)

    chosen_same : (arms : BoundArms) → {p q : Out} → p ≡ q → chosen_in there (arms_of arms) p ≡ chosen_in env (arms_of arms) q
    chosen_same NoArms d = d
    chosen_same (AnArm a b rest) d = three choice_of (value_same a) (value_same b) (chosen_same rest d)

    matched_same : (arms : BoundMatches) → {t u p q : Out} → t ≡ u → p ≡ q → matched_in there t (matches_of arms) p ≡ matched_in env u (matches_of arms) q
    matched_same NoMatches c d = d
    matched_same (AMatch sides a b rest) {t} {u} c d =
        let compared : Out → Out → Out = λ o v. comparison_of (keys_of env.hosts) compare.Eq sides o v in
        let tested = ap (λ o. compared o (value_of a there)) c ∙ ap (compared u) (value_same a) in
        three choice_of tested (value_same b) (matched_same rest c d)
