-- What rules with no loop read, in the steps of the code.
use Rattle.std.proofs.Common.{◌≡◌, ℕ, Bool, true, false, ◌||◌, List, [], ◌∷◌, Some, None, refl, ◌∙◌}
use Rattle.sql_tree.specs.declared.token.Token.{Token}
use Rattle.sql_tree.specs.declared.token.TokenKind.{TokenKind}
use Rattle.sql_tree.specs.declared.token.TokenKind.TheVariants as kind
use Rattle.sql_tree.specs.declared.expr.Expr.TheVariants as tree
use Rattle.sql_grammar.specs.declared.counts.Counts.{Counts}
use Rattle.sql_grammar.specs.declared.counts.Role.TheVariants as role
use Rattle.sql_grammar.specs.Rules.{starts, first, tok, reads, one, Outcome, Done, Stop, ◌>>=◌}
use Rattle.sql_grammar.specs.Grammar.{Name, after, name, names, in_parentheses, cast, expr, literal_kinds, literal, parameter, filter, call, of_table, behind_name, named, casting, existing, raising, exprs, some_arguments, raise_what}
use Rattle.sql_grammar.specs.Bodies.{rules}
use Rattle.sql_grammar.proofs.ReadingLaws.{chosen, other}
use Rattle.parse_cursor.specs.Gives.{apply_one}
use Rattle.parse_operand.specs.Parts.{in_arguments, in_condition, in_cast, in_query, in_raise, behind}
use Rattle.parse_operand.proofs.Clear.{first_exprs, first_some_arguments}
use Rattle.parse_cursor.proofs.Steps.{both_to, after_to, after_is, maybe_some, maybe_none, apply_after, apply_both}

-- ---- a word, and an expression

pub behind_is : (k : TokenKind) (d : ℕ) (c : Counts) (ts : List Token) → reads Name rules d (behind k) c ts ≡ (one role.Quiet (k ∷ []) c ts >>= λ t e rest. reads Name rules d expr e rest)
unfolding behind
behind_is k d c ts = after_is role.Quiet k expr d c ts

-- ---- primaries

pub literal_is : (d : ℕ) (c : Counts) (ts : List Token) → reads Name rules d literal c ts ≡ (one role.Quiet literal_kinds c ts >>= λ t e rest. Done (tree.Literal t) e rest)
unfolding literal
literal_is d c ts = refl

pub parameter_is : (d : ℕ) (c : Counts) (ts : List Token) → reads Name rules d parameter c ts ≡ (one role.Quiet (kind.Parameter ∷ []) c ts >>= λ t e rest. Done (tree.Parameter t) e rest)
unfolding parameter
parameter_is d c ts = refl

pub of_table_is : (table : Token) (d : ℕ) (c : Counts) (ts : List Token) → apply_one table (reads Name rules d of_table c ts) ≡ (one role.Quiet (kind.Dot ∷ []) c ts >>= λ t e rest. one role.Quiet names e rest >>= λ n f end. Done (tree.TableColumn table n) f end)
unfolding of_table
of_table_is table d c ts = apply_after (λ n t. tree.TableColumn t n) role.Quiet kind.Dot name table d c ts

pub raise_ignore : (d : ℕ) (c : Counts) (ts : List Token) → starts (kind.Ignore ∷ []) ts ≡ true → reads Name rules d raise_what c ts ≡ (one role.Quiet (kind.Ignore ∷ []) c ts >>= λ t e rest. Done tree.RaiseIgnore e rest)
unfolding raise_what
raise_ignore d c ts here = chosen _ _ _ here

pub raise_abort : (d : ℕ) (c : Counts) (ts : List Token) → starts (kind.Ignore ∷ []) ts ≡ false → reads Name rules d raise_what c ts ≡ (one role.Quiet (kind.Abort ∷ []) c ts >>= λ t e rest. one role.Quiet (kind.Comma ∷ []) e rest >>= λ u f mid. one role.Quiet (kind.Text ∷ []) f mid >>= λ x g end. Done (tree.RaiseAbort x) g end)
unfolding raise_what
raise_abort d c ts none = other _ _ _ none ∙ after_to tree.RaiseAbort role.Quiet kind.Abort (after role.Quiet kind.Comma (tok role.Quiet (kind.Text ∷ []))) d c ts ∙ word (one role.Quiet (kind.Abort ∷ []) c ts) where
  word : (o : Outcome Token) → (o >>= λ t e rest. reads Name rules d (after role.Quiet kind.Comma (tok role.Quiet (kind.Text ∷ []))) e rest >>= λ a g end. Done (tree.RaiseAbort a) g end) ≡ (o >>= λ t e rest. one role.Quiet (kind.Comma ∷ []) e rest >>= λ u f mid. one role.Quiet (kind.Text ∷ []) f mid >>= λ x g end. Done (tree.RaiseAbort x) g end)
  word (Done t e rest) = after_to tree.RaiseAbort role.Quiet kind.Comma (tok role.Quiet (kind.Text ∷ [])) d e rest
  word (Stop w rest) = refl

pub ruleset raise_whats = (raise_ignore, raise_abort)

pub named_is : (d : ℕ) (c : Counts) (ts : List Token) → reads Name rules d named c ts ≡ (one role.Quiet names c ts >>= λ n e rest. apply_one n (reads Name rules d behind_name e rest))
unfolding named
named_is d c ts = both_to (one role.Quiet names) (reads Name rules d behind_name) (λ p. p.1 p.0) c ts

pub casting_is : (d : ℕ) (c : Counts) (ts : List Token) → reads Name rules d casting c ts ≡ (one role.Quiet (kind.Cast ∷ []) c ts >>= λ t e rest. reads Name rules d in_cast e rest >>= λ p f end. Done (tree.Cast p.0 p.1) f end)
unfolding casting in_cast
casting_is d c ts = after_to (λ p. tree.Cast p.0 p.1) role.Quiet kind.Cast (in_parentheses cast) d c ts

pub raising_is : (d : ℕ) (c : Counts) (ts : List Token) → reads Name rules d raising c ts ≡ (one role.Quiet (kind.Raise ∷ []) c ts >>= λ t e rest. reads Name rules d in_raise e rest)
unfolding raising in_raise
raising_is d c ts = after_is role.Quiet kind.Raise in_raise d c ts

pub existing_is : (d : ℕ) (c : Counts) (ts : List Token) → reads Name rules d existing c ts ≡ (one role.Quiet (kind.Exists ∷ []) c ts >>= λ t e rest. reads Name rules d in_query e rest >>= λ q f end. Done (tree.Exists q) f end)
unfolding existing in_query
existing_is d c ts = after_to tree.Exists role.Quiet kind.Exists in_query d c ts

-- ---- calls

pub filter_some : (d : ℕ) (c : Counts) (ts : List Token) → starts (kind.Filter ∷ []) ts ≡ true → reads Name rules d filter c ts ≡ (one role.Quiet (kind.Filter ∷ []) c ts >>= λ t e rest. reads Name rules d in_condition e rest >>= λ a f end. Done (Some a) f end)
unfolding filter in_condition
filter_some d c ts here = maybe_some role.Quiet kind.Filter in_condition d c ts here

pub filter_none : (d : ℕ) (c : Counts) (ts : List Token) → starts (kind.Filter ∷ []) ts ≡ false → reads Name rules d filter c ts ≡ Done None c ts
unfolding filter in_condition
filter_none d c ts none = maybe_none role.Quiet kind.Filter in_condition d c ts none

pub call_is : (function : Token) (d : ℕ) (c : Counts) (ts : List Token) → apply_one function (reads Name rules d call c ts) ≡ (reads Name rules d in_arguments c ts >>= λ a e rest. reads Name rules d filter e rest >>= λ f g end. Done (tree.Call function a.0 a.1 f) g end)
unfolding call in_arguments
call_is function d c ts = apply_both (reads Name rules d in_arguments) (reads Name rules d filter) (λ p n. tree.Call n p.0.0 p.0.1 p.1) function c ts

pub starts_special : (ts : List Token) → starts (kind.Star ∷ kind.Distinct ∷ []) ts ≡ true → starts (first some_arguments) ts ≡ true
starts_special [] here = cc here
starts_special (t ∷ ts) here = rw first_some_arguments (either _ _ _ here) where
  either : (a b x : Bool) → a || (b || false) ≡ true → a || (b || x) ≡ true
  either true b x h = refl
  either false true x h = refl
  either false false x h = cc h

pub starts_others : (ts : List Token) → starts (kind.Star ∷ kind.Distinct ∷ []) ts ≡ false → starts (first some_arguments) ts ≡ starts (first exprs) ts
starts_others [] none = refl
starts_others (t ∷ ts) none = rw (first_some_arguments, first_exprs) (neither _ _ _ none) where
  neither : (a b x : Bool) → a || (b || false) ≡ false → a || (b || x) ≡ x
  neither true b x h = cc h
  neither false true x h = cc h
  neither false false x h = refl

pub ruleset starts_arguments = (starts_special, starts_others)
