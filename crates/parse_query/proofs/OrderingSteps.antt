-- What ORDER BY and LIMIT read, in the steps of the code.
use Rattle.std.proofs.Common.{◌≡◌, ℕ, Bool, true, false, List, [], ◌∷◌, Some, None, refl, ◌∙◌}
use Rattle.sql_tree.specs.declared.token.Token.{Token}
use Rattle.sql_tree.specs.declared.token.TokenKind.TheVariants as kind
use Rattle.sql_grammar.specs.declared.counts.Counts.{Counts}
use Rattle.sql_grammar.specs.declared.counts.Role.TheVariants as role
use Rattle.sql_grammar.specs.Rules.{starts, reads, one, pick_read, Done, ◌>>=◌}
use Rattle.sql_grammar.specs.Bodies.{rules}
use Rattle.sql_grammar.proofs.ReadingLaws.{chosen, other}
use Rattle.sql_tree.specs.declared.query.NullsOrder.TheVariants as nulls_order
use Rattle.sql_tree.specs.declared.query.OrderingTerm.{roll-OrderingTerm}
use Rattle.sql_grammar.specs.Grammar.{Name, expr, after}
use Rattle.sql_grammar.specs.Queries.{spanned_expr, direction, first_or_last, nulls, term, order_by, limit_of, second_limit, row_limit, limit, ordering}
use Rattle.parse_cursor.proofs.Steps.{both_to, three_to, after_two, maybe_some, maybe_none, or_none_some, or_none_none}
use Rattle.parse_cursor.specs.Items.{items}
use Rattle.parse_query.specs.Parts.{unordered}
use Rattle.parse_query.proofs.Clear.{terms_clear}

pub direction_desc : (d : ℕ) (c : Counts) (ts : List Token) → starts (kind.Desc ∷ []) ts ≡ true → reads Name rules d direction c ts ≡ (one role.Outside (kind.Desc ∷ []) c ts >>= λ t e rest. Done true e rest)
unfolding direction
direction_desc d c ts here = chosen _ _ _ here

pub direction_asc : (d : ℕ) (c : Counts) (ts : List Token) → starts (kind.Desc ∷ []) ts ≡ false → starts (kind.Asc ∷ []) ts ≡ true → reads Name rules d direction c ts ≡ (one role.Outside (kind.Asc ∷ []) c ts >>= λ t e rest. Done false e rest)
unfolding direction
direction_asc d c ts none here = other _ _ _ none ∙ chosen _ _ _ here

pub direction_none : (d : ℕ) (c : Counts) (ts : List Token) → starts (kind.Desc ∷ []) ts ≡ false → starts (kind.Asc ∷ []) ts ≡ false → reads Name rules d direction c ts ≡ Done false c ts
unfolding direction
direction_none d c ts none others = other _ _ _ none ∙ other _ _ _ others

pub ruleset directions = (direction_desc, direction_asc, direction_none)

pub first_is : (d : ℕ) (c : Counts) (ts : List Token) → starts (kind.First ∷ []) ts ≡ true → reads Name rules d first_or_last c ts ≡ (one role.Outside (kind.First ∷ []) c ts >>= λ t e rest. Done nulls_order.First e rest)
unfolding first_or_last
first_is d c ts here = chosen _ _ _ here

pub last_is : (d : ℕ) (c : Counts) (ts : List Token) → starts (kind.First ∷ []) ts ≡ false → reads Name rules d first_or_last c ts ≡ (one role.Outside (kind.Last ∷ []) c ts >>= λ t e rest. Done nulls_order.Last e rest)
unfolding first_or_last
last_is d c ts none = other _ _ _ none

pub ruleset first_or_lasts = (first_is, last_is)

pub nulls_some : (d : ℕ) (c : Counts) (ts : List Token) → starts (kind.Nulls ∷ []) ts ≡ true → reads Name rules d nulls c ts ≡ (one role.Outside (kind.Nulls ∷ []) c ts >>= λ t e rest. reads Name rules d first_or_last e rest >>= λ n f end. Done (Some n) f end)
unfolding nulls
nulls_some d c ts here = maybe_some role.Outside kind.Nulls first_or_last d c ts here

pub nulls_none : (d : ℕ) (c : Counts) (ts : List Token) → starts (kind.Nulls ∷ []) ts ≡ false → reads Name rules d nulls c ts ≡ Done None c ts
unfolding nulls
nulls_none d c ts none = maybe_none role.Outside kind.Nulls first_or_last d c ts none

pub ruleset nulls_steps = (nulls_some, nulls_none)

pub term_is : (d : ℕ) (c : Counts) (ts : List Token) → reads Name rules d term c ts ≡ (reads Name rules d spanned_expr c ts >>= λ x e rest. reads Name rules d direction e rest >>= λ b f mid. reads Name rules d nulls f mid >>= λ n g end. Done (roll-OrderingTerm (record { key = x; descending = b; nulls = n })) g end)
unfolding term
term_is d c ts = three_to (reads Name rules d spanned_expr) (reads Name rules d direction) (reads Name rules d nulls) (λ p. roll-OrderingTerm (record { key = p.0; descending = p.1.0; nulls = p.1.1 })) c ts

pub order_by_some : (d : ℕ) (c : Counts) (ts : List Token) → starts (kind.Order ∷ []) ts ≡ true → reads Name rules d order_by c ts ≡ (one role.Outside (kind.Order ∷ []) c ts >>= λ t e rest. one role.Outside (kind.By ∷ []) e rest >>= λ u f mid. reads Name rules d (items term) f mid)
unfolding order_by items
order_by_some d c ts here = or_none_some (after role.Outside kind.Order (after role.Outside kind.By (items term))) d c ts here ∙ after_two role.Outside role.Outside kind.Order kind.By (items term) d c ts

pub order_by_none : (d : ℕ) (c : Counts) (ts : List Token) → starts (kind.Order ∷ []) ts ≡ false → reads Name rules d order_by c ts ≡ Done [] c ts
unfolding order_by items
order_by_none d c ts none = or_none_none (after role.Outside kind.Order (after role.Outside kind.By (items term))) d c ts none

pub ruleset order_bys = (order_by_some, order_by_none, terms_clear)

pub second_some : (d : ℕ) (c : Counts) (ts : List Token) → starts (kind.Offset ∷ kind.Comma ∷ []) ts ≡ true → reads Name rules d second_limit c ts ≡ (one role.Outside (kind.Offset ∷ kind.Comma ∷ []) c ts >>= λ t e rest. reads Name rules d expr e rest >>= λ x f end. Done (Some (t, x)) f end)
unfolding second_limit
second_some d c ts here = chosen _ _ _ here ∙ both_to (one role.Outside (kind.Offset ∷ kind.Comma ∷ [])) (reads Name rules d expr) Some c ts

pub second_none : (d : ℕ) (c : Counts) (ts : List Token) → starts (kind.Offset ∷ kind.Comma ∷ []) ts ≡ false → reads Name rules d second_limit c ts ≡ Done None c ts
unfolding second_limit
second_none d c ts none = other _ _ _ none

pub ruleset second_limits = (second_some, second_none)

pub row_limit_is : (d : ℕ) (c : Counts) (ts : List Token) → reads Name rules d row_limit c ts ≡ (reads Name rules d expr c ts >>= λ a e rest. reads Name rules d second_limit e rest >>= λ b f end. Done (limit_of a b) f end)
unfolding row_limit
row_limit_is d c ts = both_to (reads Name rules d expr) (reads Name rules d second_limit) (λ p. limit_of p.0 p.1) c ts

pub limit_some : (d : ℕ) (c : Counts) (ts : List Token) → starts (kind.Limit ∷ []) ts ≡ true → reads Name rules d limit c ts ≡ (one role.Outside (kind.Limit ∷ []) c ts >>= λ t e rest. reads Name rules d row_limit e rest >>= λ a f end. Done (Some a) f end)
unfolding limit
limit_some d c ts here = maybe_some role.Outside kind.Limit row_limit d c ts here

pub limit_none : (d : ℕ) (c : Counts) (ts : List Token) → starts (kind.Limit ∷ []) ts ≡ false → reads Name rules d limit c ts ≡ Done None c ts
unfolding limit
limit_none d c ts none = maybe_none role.Outside kind.Limit row_limit d c ts none

pub ruleset limits = (limit_some, limit_none)

pub ordering_is : (d : ℕ) (c : Counts) (ts : List Token) → reads Name rules d ordering c ts ≡ (reads Name rules d order_by c ts >>= λ a e rest. reads Name rules d limit e rest >>= λ b f end. Done (a, b) f end)
unfolding ordering
ordering_is d c ts = refl

pub behind_select : (b : Bool) (d : ℕ) (c : Counts) (ts : List Token) → b ≡ true → pick_read b (reads Name rules d ordering) (reads Name rules d unordered) c ts ≡ reads Name rules d ordering c ts
behind_select true d c ts is = refl
behind_select false d c ts is = cc is

pub behind_values : (b : Bool) (d : ℕ) (c : Counts) (ts : List Token) → b ≡ false → pick_read b (reads Name rules d ordering) (reads Name rules d unordered) c ts ≡ Done ([], None) c ts
unfolding unordered
behind_values true d c ts is = cc is
behind_values false d c ts is = refl

pub ruleset orderings_behind = (behind_select, behind_values)
