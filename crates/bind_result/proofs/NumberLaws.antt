-- Laws of results by their places and names.
use Rattle.std.proofs.Common.{◌≡◌, ◌⊎◌, ℕ, zero, suc, ◌+◌, ◌-◌, ◌<◌, ◌≤◌, Bool, true, false, nat_lt, List, [], ◌∷◌, ◌++◌, map, length, slice_get, position, cond, Option, Some, None, Result, Ok, Err, IfOk, inl, inr, refl, ap, sym, ◌∙◌, arith, rules}
use Rattle.std.specs.List.{flat_map, position_or_len}
use Rattle.std.specs.Option.{option_map}
use Rattle.std.proofs.lemmas.Bool.{le-ltb, lt-ltb, ltb-false, ltb-true}
use Rattle.std.proofs.lemmas.Option.{slice_get-map}
use Rattle.eng_value.specs.declared.cause.Cause.{Cause}
use Rattle.eng_value.specs.declared.cause.Cause.TheVariants.{Mem}
use Rattle.sql_tree.specs.declared.expr.Expr.{the_lemmas}
use Rattle.sql_tree.specs.declared.query.ResultColumn.{ResultColumn, fold-roll-ResultColumn}
use Rattle.sql_tree.specs.declared.query.ResultColumn.TheVariants.{rolls-All, rolls-AllOf, rolls-Expression}
use Rattle.sql_tree.specs.declared.query.ResultColumn.TheVariants as column
use Rattle.sql_tree.specs.declared.query.SpannedExpr.{SpannedExpr, out-SpannedExpr}
use Rattle.sql_tree.specs.declared.token.Token.{Token}
use Rattle.sql_words.specs.Refusals.{◌>>=◌}
use Rattle.sql_words.specs.Spelled.{name_at}
use Rattle.sql_bound.specs.Carriers.{All, AllOf, Binding, Expression, One, ResultParts}
use Rattle.sql_bound.specs.Orders.{is_given, place_given}
use Rattle.sql_bound.specs.Refusals.{Checked}
use Rattle.sql_bound.specs.Results.{ShownResult, at_place, column_shown, given_name, one_shown, shown_by, shown_in, shown_or_none}
use Rattle.sql_bound.specs.Scopes.{Level, is_called}
use Rattle.sql_bound.specs.Trees.{of_expr, of_result, of_spanned}
use Rattle.sql_bound.specs.declared.scopes.ScopeColumn.{ScopeColumn}
use Rattle.bind_column.proofs.StarLaws.{all_shown-is, shown_of-is}
use Rattle.bind_column.specs.Stars.{all_of, those_of}
use Rattle.bind_result.specs.Numbers.{binding_of, bindings_by, bound_of, column_binding, further, or_nothing}
use Rattle.bind_result.specs.declared.numbering.ShownAt.{ShownAt}

-- ---- stars that are refused show nothing

pub nothing-of : (meant : Checked (List ScopeColumn)) (why : Cause) (r : Result (List ScopeColumn) Cause)
    → (why ≡ Mem) ⊎ (meant ≡ Err why) → IfOk r (λ cs. (cs ≡ []) × (why ≡ Mem → ⊥)) → IfOk r (λ cs. cs ≡ or_nothing meant)
nothing-of meant why (Err w) is h = tt
nothing-of meant why (Ok cs) (inl mem) h = absurd (h.1 mem)
nothing-of meant why (Ok cs) (inr is) h = h.0 ∙ sym (ap (λ (m : Checked (List ScopeColumn)). or_nothing m) is)

-- ---- results as they are written

pub result-All : of_result column.All ≡ All
result-All = rw (← rolls-All, fold-roll-ResultColumn) refl

pub result-AllOf : (t : Token) → of_result (column.AllOf t) ≡ AllOf t
result-AllOf t = rw (← rolls-AllOf t, fold-roll-ResultColumn) refl

pub result-Expression : (x : SpannedExpr) (alias : Option Token) → of_result (column.Expression x alias) ≡ One (of_spanned x) alias
result-Expression x alias = rw (← rolls-Expression x alias, fold-roll-ResultColumn) refl

pub spanned_expr : (x : SpannedExpr) → (of_spanned x).expr ≡ of_expr (out-SpannedExpr x).expr
spanned_expr x = search (rules, the_lemmas)

-- ---- what they are bound to

columns-bound : (cs : List ScopeColumn) → map bound_of (map column_shown cs) ≡ map column_binding cs
columns-bound [] = refl
columns-bound (c ∷ cs) = ap (λ more. column_binding c ∷ more) (columns-bound cs)

checked-bound : (cs : Checked (List ScopeColumn)) → map bound_of (shown_or_none (cs >>= λ xs. Ok (map column_shown xs))) ≡ map column_binding (or_nothing cs)
checked-bound (Ok cs) = columns-bound cs
checked-bound (Err why) = refl

pub bindings-All : (text : List ℕ) (own : Level) → bindings_by text own (of_result column.All) ≡ map column_binding (or_nothing (all_of own))
bindings-All text own = rw (result-All, all_shown-is own) (checked-bound (all_of own))

pub bindings-AllOf : (text : List ℕ) (own : Level) (t : Token) → bindings_by text own (of_result (column.AllOf t)) ≡ map column_binding (or_nothing (those_of (name_at text t) own))
bindings-AllOf text own t = rw (result-AllOf t, shown_of-is (name_at text t) own) (checked-bound (those_of (name_at text t) own))

pub bindings-Expression : (text : List ℕ) (own : Level) (x : SpannedExpr) (alias : Option Token) → bindings_by text own (of_result (column.Expression x alias)) ≡ (of_expr (out-SpannedExpr x).expr).bound ∷ []
bindings-Expression text own x alias = rw (result-Expression x alias) (ap (λ (y : Expression). y.bound ∷ []) (spanned_expr x))

-- ---- places

slice_get-front : {A : Type 0} (xs rest : List A) (k : ℕ) → k < length xs → slice_get (xs ++ rest) k ≡ slice_get xs k
slice_get-front [] rest k h = absurd (omega arith)
slice_get-front (x ∷ xs) rest zero h = refl
slice_get-front (x ∷ xs) rest (suc k) h = slice_get-front xs rest k (omega arith)

slice_get-behind : {A : Type 0} (xs rest : List A) (k n : ℕ) → k ≡ length xs + n → slice_get (xs ++ rest) k ≡ slice_get rest n
slice_get-behind [] rest k n is = let z : k ≡ 0 + n = is in let e : k ≡ n = omega arith in ap (slice_get rest) e
slice_get-behind (x ∷ xs) rest zero n is = absurd (omega arith)
slice_get-behind (x ∷ xs) rest (suc k) n is = slice_get-behind xs rest k n (omega arith)

length-bound : (cs : List ScopeColumn) → length (map column_binding cs) ≡ length cs
length-bound [] = refl
length-bound (c ∷ cs) = ap suc (length-bound cs)

pub column-here : (cs : List ScopeColumn) (rest : List Binding) (place : ℕ) (c : ScopeColumn) → place < length cs → slice_get cs place ≡ Some c → slice_get (map column_binding cs ++ rest) place ≡ Some (column_binding c)
column-here cs rest place c within is =
    slice_get-front (map column_binding cs) rest place (rw (length-bound cs) within)
    ∙ slice_get-map column_binding cs place
    ∙ ap (option_map column_binding) is

pub column-behind : (cs : List ScopeColumn) (rest : List Binding) (place n : ℕ) → place ≡ length cs + n → slice_get (map column_binding cs ++ rest) place ≡ slice_get rest n
column-behind cs rest place n is = slice_get-behind (map column_binding cs) rest place n (rw (length-bound cs) is)

bound-behind : (xs ys : List ShownResult) → map bound_of (xs ++ ys) ≡ map bound_of xs ++ map bound_of ys
bound-behind [] ys = refl
bound-behind (x ∷ xs) ys = ap (λ more. bound_of x ∷ more) (bound-behind xs ys)

pub bindings-in : (text : List ℕ) (own : Level) (rs : List ResultParts) → flat_map (bindings_by text own) rs ≡ map bound_of (shown_in text own rs)
bindings-in text own [] = refl
bindings-in text own (r ∷ rs) =
    ap (λ more. bindings_by text own r ++ more) (bindings-in text own rs)
    ∙ sym (bound-behind (shown_or_none (shown_by text own r)) (shown_in text own rs))

pub binding-in : (text : List ℕ) (own : Level) (rs : List ResultParts) (place : ℕ) → slice_get (flat_map (bindings_by text own) rs) place ≡ option_map bound_of (slice_get (shown_in text own rs) place)
binding-in text own rs place = ap (λ all. slice_get all place) (bindings-in text own rs) ∙ slice_get-map bound_of (shown_in text own rs) place

pub at-place : (text : List ℕ) (own : Level) (rs : List ResultParts) (place : Option ℕ) (n : ℕ) (r : Result ShownAt Cause) → place ≡ Some n
    → IfOk r (λ x. binding_of x ≡ slice_get (flat_map (bindings_by text own) rs) n) → IfOk r (λ x. binding_of x ≡ option_map bound_of (at_place (shown_in text own rs) place))
at-place text own rs place n (Ok x) is h = h ∙ binding-in text own rs n ∙ ap (λ p. option_map bound_of (at_place (shown_in text own rs) p)) (sym is)
at-place text own rs place n (Err why) is h = tt

-- ---- names behind AS

pub further-zero : (p : Option ℕ) → further 0 p ≡ p
further-zero None = refl
further-zero (Some n) = let e : 0 + n ≡ n = omega arith in ap Some e

pub further-twice : (n m : ℕ) (p : Option ℕ) → further n (further m p) ≡ further (n + m) p
further-twice n m None = refl
further-twice n m (Some k) = let e : n + (m + k) ≡ (n + m) + k = omega arith in ap Some e

nat_lt-suc : (n m : ℕ) → nat_lt (1 + n) (suc m) ≡ nat_lt n m
nat_lt-suc n m = by (nat_lt n m) refl
  where
    by : (b : Bool) → nat_lt n m ≡ b → nat_lt (1 + n) (suc m) ≡ b
    by true e = let l : n < m = ltb-true n m e in lt-ltb (1 + n) (suc m) (omega arith)
    by false e = let l : m ≤ n = ltb-false n m e in le-ltb (1 + n) (suc m) (omega arith)

next-place : (b : Bool) (n : ℕ) → cond b (Some (1 + n)) None ≡ further 1 (cond b (Some n) None)
next-place true n = refl
next-place false n = refl

place-other : (name : List ℕ) (x : ShownResult) (xs : List ShownResult) → is_given name x ≡ false → place_given name (x ∷ xs) ≡ further 1 (place_given name xs)
place-other name x xs is =
    let n : ℕ = position_or_len (is_given name) xs in
    rw is (ap (λ b. cond b (Some (1 + n)) None) (nat_lt-suc n (length xs)) ∙ next-place (nat_lt n (length xs)) n)

place-here : (name : List ℕ) (x : ShownResult) (xs : List ShownResult) → is_given name x ≡ true → place_given name (x ∷ xs) ≡ Some 0
place-here name x xs is = rw is (ap (λ b. cond b (Some 0) None) (lt-ltb 0 (suc (length xs)) (omega arith)))

place-columns : (name : List ℕ) (cs : List ScopeColumn) (rest : List ShownResult) → place_given name (map column_shown cs ++ rest) ≡ further (length cs) (place_given name rest)
place-columns name [] rest = sym (further-zero (place_given name rest))
place-columns name (c ∷ cs) rest =
    place-other name (column_shown c) (map column_shown cs ++ rest) refl
    ∙ ap (further 1) (place-columns name cs rest)
    ∙ further-twice 1 (length cs) (place_given name rest)
    ∙ (let e : 1 + length cs ≡ suc (length cs) = omega arith in ap (λ n. further n (place_given name rest)) e)

place-checked : (name : List ℕ) (cs : Checked (List ScopeColumn)) (rest : List ShownResult)
    → place_given name (shown_or_none (cs >>= λ xs. Ok (map column_shown xs)) ++ rest) ≡ further (length (or_nothing cs)) (place_given name rest)
place-checked name (Ok cs) rest = place-columns name cs rest
place-checked name (Err why) rest = sym (further-zero (place_given name rest))

module _ (name text : List ℕ) (own : Level) (rest : List ShownResult) where
  pub given-All : place_given name (shown_or_none (shown_by text own (of_result column.All)) ++ rest) ≡ further (length (or_nothing (all_of own))) (place_given name rest)
  given-All = rw (result-All, all_shown-is own) (place-checked name (all_of own) rest)

  pub given-AllOf : (t : Token) → place_given name (shown_or_none (shown_by text own (of_result (column.AllOf t))) ++ rest) ≡ further (length (or_nothing (those_of (name_at text t) own))) (place_given name rest)
  given-AllOf t = rw (result-AllOf t, shown_of-is (name_at text t) own) (place-checked name (those_of (name_at text t) own) rest)

  pub given-here : (x : SpannedExpr) (alias : Option Token) → is_called name (given_name text alias) ≡ true → place_given name (shown_or_none (shown_by text own (of_result (column.Expression x alias))) ++ rest) ≡ Some 0
  given-here x alias is = rw (result-Expression x alias) (place-here name (one_shown text (of_spanned x) alias) rest is)

  pub given-other : (x : SpannedExpr) (alias : Option Token) → is_called name (given_name text alias) ≡ false → place_given name (shown_or_none (shown_by text own (of_result (column.Expression x alias))) ++ rest) ≡ further 1 (place_given name rest)
  given-other x alias is = rw (result-Expression x alias) (place-other name (one_shown text (of_spanned x) alias) rest is)

pub ruleset nothing_laws = nothing-of

pub ruleset shown_laws = (bindings-All, bindings-AllOf, bindings-Expression)

pub ruleset place_laws = (column-here, column-behind)

pub ruleset given_laws = (given-All, given-AllOf, given-here, given-other)
