-- What expressions are as terms, and the results by which compounds are ordered.
use Rattle.std.proofs.Common.{◌≡◌, ℕ, List, [], ◌∷◌, ◌++◌, Option, Some, None, Result, Ok, Err, slice_get, refl, sym, ap, ◌∙◌, append_assoc}
use Rattle.sql_tree.specs.declared.expr.Arguments.{Arguments}
use Rattle.sql_tree.specs.declared.expr.Arm.{Arm}
use Rattle.sql_tree.specs.declared.expr.BinaryOp.{BinaryOp}
use Rattle.sql_tree.specs.declared.expr.Expr.{Expr, fold-roll-Expr}
use Rattle.sql_tree.specs.declared.expr.Expr.TheVariants.{rolls-Literal, rolls-Parameter, rolls-Column, rolls-TableColumn, rolls-Unary, rolls-Binary, rolls-Between, rolls-Like, rolls-In, rolls-InQuery, rolls-Subquery, rolls-Exists, rolls-Collate, rolls-Cast, rolls-Call, rolls-Case, rolls-RaiseIgnore, rolls-RaiseAbort}
use Rattle.sql_tree.specs.declared.expr.Expr.TheVariants as x
use Rattle.sql_tree.specs.declared.expr.TypeName.{TypeName}
use Rattle.sql_tree.specs.declared.expr.UnaryOp.{UnaryOp}
use Rattle.sql_tree.specs.declared.query.Query.{Query}
use Rattle.sql_tree.specs.declared.token.Token.{Token}
use Rattle.sql_words.specs.Refusals.{◌>>=◌}
use Rattle.bound_tree.specs.declared.units.BoundTerm.{BoundTerm}
use Rattle.sql_bound.specs.Carriers.{Name, Number, Other, Term, TermParts}
use Rattle.sql_bound.specs.Expressions.{literal_term}
use Rattle.sql_bound.specs.Orders.{by_result, compound_name, compound_number, compound_term, numbered_term, place_called, terms_of_compound, unknown_term}
use Rattle.sql_bound.specs.Refusals.{Checked}
use Rattle.sql_bound.specs.Results.{at_place, place_named}
use Rattle.sql_bound.specs.Trees.{of_expr}
use Rattle.sql_bound.specs.declared.scopes.ResultColumn.{ResultColumn}
use Rattle.sql_words.specs.Spelled.{literal_at, name_at}
use Rattle.bind_result.specs.Terms.{by_place, collected, compound_place, named_place, numbered_place, place_there}
use Rattle.bind_result.specs.declared.orders.TermPlace.TheVariants.{At, Nowhere, Else}
use Rattle.bind_result.specs.declared.orders.TermPlace.{TermPlace}

-- ---- clause by clause

pub term-Literal : (t : Token) → (of_expr (x.Literal t)).term ≡ literal_term t
term-Literal t = rw (← rolls-Literal t, fold-roll-Expr) refl

pub term-Parameter : (t : Token) → (of_expr (x.Parameter t)).term ≡ Other
term-Parameter t = rw (← rolls-Parameter t, fold-roll-Expr) refl

pub term-Column : (t : Token) → (of_expr (x.Column t)).term ≡ Name t
term-Column t = rw (← rolls-Column t, fold-roll-Expr) refl

pub term-TableColumn : (t c : Token) → (of_expr (x.TableColumn t c)).term ≡ Other
term-TableColumn t c = rw (← rolls-TableColumn t c, fold-roll-Expr) refl

pub term-Unary : (u : UnaryOp) (a : Expr) → (of_expr (x.Unary u a)).term ≡ Other
term-Unary u a = rw (← rolls-Unary u a, fold-roll-Expr) refl

pub term-Binary : (u : BinaryOp) (a b : Expr) → (of_expr (x.Binary u a b)).term ≡ Other
term-Binary u a b = rw (← rolls-Binary u a b, fold-roll-Expr) refl

pub term-Between : (a b c : Expr) → (of_expr (x.Between a b c)).term ≡ Other
term-Between a b c = rw (← rolls-Between a b c, fold-roll-Expr) refl

pub term-Like : (a b : Expr) (c : Option Expr) → (of_expr (x.Like a b c)).term ≡ Other
term-Like a b None = rw (← rolls-Like a b None, fold-roll-Expr) refl
term-Like a b (Some c) = rw (← rolls-Like a b (Some c), fold-roll-Expr) refl

pub term-In : (a : Expr) (others : List Expr) → (of_expr (x.In a others)).term ≡ Other
term-In a others = rw (← rolls-In a others, fold-roll-Expr) refl

pub term-InQuery : (a : Expr) (q : Query) → (of_expr (x.InQuery a q)).term ≡ Other
term-InQuery a q = rw (← rolls-InQuery a q, fold-roll-Expr) refl

pub term-Subquery : (q : Query) → (of_expr (x.Subquery q)).term ≡ Other
term-Subquery q = rw (← rolls-Subquery q, fold-roll-Expr) refl

pub term-Exists : (q : Query) → (of_expr (x.Exists q)).term ≡ Other
term-Exists q = rw (← rolls-Exists q, fold-roll-Expr) refl

pub term-Collate : (a : Expr) (t : Token) → (of_expr (x.Collate a t)).term ≡ Other
term-Collate a t = rw (← rolls-Collate a t, fold-roll-Expr) refl

pub term-Cast : (a : Expr) (t : TypeName) → (of_expr (x.Cast a t)).term ≡ Other
term-Cast a t = rw (← rolls-Cast a t, fold-roll-Expr) refl

pub term-Call : (t : Token) (how : Arguments) (args : List Expr) (filter : Option Expr) → (of_expr (x.Call t how args filter)).term ≡ Other
term-Call t how args None = rw (← rolls-Call t how args None, fold-roll-Expr) refl
term-Call t how args (Some f) = rw (← rolls-Call t how args (Some f), fold-roll-Expr) refl

pub term-Case : (a : Option Expr) (arms : List Arm) (otherwise : Option Expr) → (of_expr (x.Case a arms otherwise)).term ≡ Other
term-Case None arms None = rw (← rolls-Case None arms None, fold-roll-Expr) refl
term-Case None arms (Some c) = rw (← rolls-Case None arms (Some c), fold-roll-Expr) refl
term-Case (Some a) arms None = rw (← rolls-Case (Some a) arms None, fold-roll-Expr) refl
term-Case (Some a) arms (Some c) = rw (← rolls-Case (Some a) arms (Some c), fold-roll-Expr) refl

pub term-RaiseIgnore : (of_expr x.RaiseIgnore).term ≡ Other
term-RaiseIgnore = rw (← rolls-RaiseIgnore, fold-roll-Expr) refl

pub term-RaiseAbort : (t : Token) → (of_expr (x.RaiseAbort t)).term ≡ Other
term-RaiseAbort t = rw (← rolls-RaiseAbort t, fold-roll-Expr) refl

pub ruleset term_laws = (term-Literal, term-Parameter, term-Column, term-TableColumn, term-Unary, term-Binary, term-Between, term-Like, term-In, term-InQuery, term-Subquery, term-Exists, term-Collate, term-Cast, term-Call, term-Case, term-RaiseIgnore, term-RaiseAbort)

-- ---- compounds

module _ (text : List ℕ) (columns : List ResultColumn) (t : TermParts) where
  numbered-by : (place : Option ℕ) → numbered_term text t columns (at_place columns place) place ≡ by_place text columns t (numbered_place columns (Some place))
  numbered-by None = refl
  numbered-by (Some place) = there (slice_get columns place)
    where
      there : (c : Option ResultColumn) → numbered_term text t columns c (Some place) ≡ by_place text columns t (place_there c place)
      there None = refl
      there (Some c) = refl

  number-by : (place : Option (Option ℕ)) → compound_number text t columns place ≡ by_place text columns t (numbered_place columns place)
  number-by None = refl
  number-by (Some place) = numbered-by place

  name-by : (place : Option ℕ) → compound_name text t columns place ≡ by_place text columns t (named_place Nowhere place)
  name-by None = refl
  name-by (Some place) = refl

  pub compound_term-by : (term : Term) → compound_term text columns t term ≡ by_place text columns t (compound_place text columns term)
  compound_term-by (Number n) = number-by (place_named (literal_at text n))
  compound_term-by (Name n) = name-by (place_called (name_at text n) columns)
  compound_term-by Other = refl

pub ruleset compound_laws = compound_term-by

-- ---- one after another

behind : List BoundTerm → Checked (List BoundTerm) → Checked (List BoundTerm)
behind so_far (Ok more) = Ok (so_far ++ more)
behind so_far (Err why) = Err why

module _ (text : List ℕ) (columns : List ResultColumn) where
  terms-next : (ts : List TermParts) (so_far : List BoundTerm) (r : Checked BoundTerm)
      → ((more : List BoundTerm) → collected text columns ts more ≡ behind more (terms_of_compound text columns ts))
      → (r >>= λ a. collected text columns ts (so_far ++ a ∷ [])) ≡ behind so_far (r >>= λ a. terms_of_compound text columns ts >>= λ more. Ok (a ∷ more))
  unfolding behind
  terms-next ts so_far (Err why) h = refl
  terms-next ts so_far (Ok a) h = h (so_far ++ a ∷ []) ∙ more (terms_of_compound text columns ts)
    where
      more : (r : Checked (List BoundTerm)) → behind (so_far ++ a ∷ []) r ≡ behind so_far (r >>= λ m. Ok (a ∷ m))
      more (Ok m) = ap Ok (append_assoc so_far (a ∷ []) m)
      more (Err why) = refl

  terms-behind : (ts : List TermParts) (so_far : List BoundTerm) → collected text columns ts so_far ≡ behind so_far (terms_of_compound text columns ts)
  unfolding behind
  terms-behind [] so_far = ap Ok (none so_far)
    where
      none : (ys : List BoundTerm) → ys ≡ ys ++ []
      none [] = refl
      none (y ∷ ys) = ap (λ zs. y ∷ zs) (none ys)
  terms-behind (t ∷ ts) so_far = terms-next ts so_far (compound_term text columns t t.key.expr.term) (terms-behind ts)

  pub terms-collected : (ts : List TermParts) → terms_of_compound text columns ts ≡ collected text columns ts []
  unfolding behind
  terms-collected ts = front (terms_of_compound text columns ts) ∙ sym (terms-behind ts [])
    where
      front : (r : Checked (List BoundTerm)) → r ≡ behind [] r
      front (Ok a) = refl
      front (Err why) = refl
