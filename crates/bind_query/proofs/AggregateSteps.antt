-- What the steps of binding an aggregate come to.
use Rattle.std.proofs.Common.{◌≡◌, ◌⊎◌, ◌∙◌, ℕ, List, ◌++◌, length, Option, Result, Ok, Err, ap, sym, inl, inr}
use Rattle.eng_value.specs.declared.cause.Cause.{Cause}
use Rattle.eng_value.specs.declared.cause.Cause.TheVariants.{Mem}
use Rattle.bound_tree.specs.Exprs as e
use Rattle.sql_words.specs.Refusals.{◌>>=◌}
use Rattle.sql_tree.specs.declared.expr.Arguments.{Arguments}
use Rattle.sql_bound.specs.Answers.{Becomes, Comes}
use Rattle.sql_bound.specs.Callees.{Aggregator, may_aggregate}
use Rattle.sql_bound.specs.Carriers.{Expression}
use Rattle.sql_bound.specs.Expressions.{aggregate_bound, aggregate_of, all_bound, option_bound, with_aggregate, within_aggregate}
use Rattle.sql_bound.specs.Operands.{option_list, over}
use Rattle.sql_bound.specs.Refusals.{Checked}
use Rattle.sql_bound.specs.Scopes.{Answer, Scope}
use Rattle.sql_bound.specs.declared.scopes.Operand.{Operand}
use Rattle.sql_bound.specs.declared.scopes.WithEntry.{WithEntry}
use Rattle.sql_bound.specs.declared.scopes.Work.{Work}
use Rattle.bind_query.specs.Scopes.{Levels, scope_of, within_aggregate as where_within}
use Rattle.bind_query.specs.Where.{Where}
use Rattle.bind_query.proofs.ExprSteps.{comes-become}
use Rattle.bind_query.proofs.ScopeLaws.{scope-within}

module _ (w : Where) (ls : Levels) (ts : List WithEntry) (a : Aggregator) (how : Arguments) (args : List Expression) (filter : Option Expression) (work : Work) where
  abbrev whole : Scope
  whole = scope_of w ls ts

  abbrev made : List Operand → Option Operand × Work → Answer Operand
  made xs f = Ok (over (xs ++ option_list f.0) (e.Aggregate (length f.1.aggregates)), with_aggregate (aggregate_of a how xs f.0) f.1)

  abbrev behind : List Operand × Work → Answer Operand
  behind xs = option_bound (within_aggregate whole) filter xs.1 >>= λ f. made xs.0 f

  module _ (p : Where) (is : p ≡ where_within w) (u : Unit {0}) (given : ℕ) (count : length args ≡ given) (seen : Where) (view : seen ≡ w) (may : may_aggregate a seen.standing how given ≡ Ok u) where
    within : scope_of p ls ts ≡ within_aggregate whole
    within = ap (λ (q : Where). scope_of q ls ts) is ∙ scope-within w ls ts

    may_now : may_aggregate a w.standing how (length args) ≡ Ok u
    may_now = ap (λ (n : ℕ). may_aggregate a w.standing how n) count ∙ ap (λ (v : Where). may_aggregate a v.standing how given) (sym view) ∙ may

    with_args : (r : Answer (List Operand)) → all_bound (scope_of p ls ts) args work ≡ r → aggregate_bound whole a how args filter work ≡ (r >>= λ xs. behind xs)
    with_args r h =
        ap (λ (m : Checked (Unit {0})). m >>= λ u. all_bound (within_aggregate whole) args work >>= λ xs. behind xs) may_now
        ∙ ap (λ (s : Scope). all_bound s args work >>= λ xs. behind xs) (sym within)
        ∙ ap (λ (m : Answer (List Operand)). m >>= λ xs. behind xs) h

    pub args-refused : (why : Cause) → (why ≡ Mem) ⊎ (all_bound (scope_of p ls ts) args work ≡ Err why) → (why ≡ Mem) ⊎ (aggregate_bound whole a how args filter work ≡ Err why)
    args-refused why (inl mem) = inl mem
    args-refused why (inr h) = inr (with_args (Err why) h)

    module _ (xs : List Operand) (next : Work) (so : all_bound (scope_of p ls ts) args work ≡ Ok (xs, next)) where
      with_filter : (r : Answer (Option Operand)) → option_bound (scope_of p ls ts) filter next ≡ r → aggregate_bound whole a how args filter work ≡ (r >>= λ f. made xs f)
      with_filter r h =
          with_args (Ok (xs, next)) so
          ∙ ap (λ (s : Scope). option_bound s filter next >>= λ f. made xs f) (sym within)
          ∙ ap (λ (m : Answer (Option Operand)). m >>= λ f. made xs f) h

      pub filter-refused : (why : Cause) → (why ≡ Mem) ⊎ (option_bound (scope_of p ls ts) filter next ≡ Err why) → (why ≡ Mem) ⊎ (aggregate_bound whole a how args filter work ≡ Err why)
      filter-refused why (inl mem) = inl mem
      filter-refused why (inr h) = inr (with_filter (Err why) h)

      pub aggregate-made : (f : Option Operand) (last : Work) (r : Result Operand Cause) (new : Work) → option_bound (scope_of p ls ts) filter next ≡ Ok (f, last)
          → Becomes (over (xs ++ option_list f) (e.Aggregate (length last.aggregates)), with_aggregate (aggregate_of a how xs f) last) r new
          → Comes (aggregate_bound whole a how args filter work) r new
      aggregate-made f last r new h so_made =
          comes-become (aggregate_bound whole a how args filter work) (over (xs ++ option_list f) (e.Aggregate (length last.aggregates)), with_aggregate (aggregate_of a how xs f) last) r new
          (with_filter (Ok (f, last)) h) so_made
