-- What WITH and whole queries read, in the steps of the code.
use Rattle.std.proofs.Common.{◌≡◌, ℕ, Bool, true, false, List, [], ◌∷◌, refl, ◌∙◌}
use Rattle.sql_tree.specs.declared.token.Token.{Token}
use Rattle.sql_tree.specs.declared.token.TokenKind.TheVariants as kind
use Rattle.sql_grammar.specs.declared.counts.Counts.{Counts}
use Rattle.sql_grammar.specs.declared.counts.Role.TheVariants as role
use Rattle.sql_grammar.specs.Rules.{starts, reads, one, pick_read, tok, Outcome, Done, Stop, ◌>>=◌}
use Rattle.sql_grammar.specs.Bodies.{rules}
use Rattle.sql_tree.specs.declared.query.CommonTable.{CommonTable, roll-CommonTable}
use Rattle.sql_tree.specs.declared.query.Query.{roll-Query}
use Rattle.sql_grammar.specs.Grammar.{Name, names, after}
use Rattle.sql_grammar.specs.Queries.{given, column_names, common_table, tables, common_tables, Parts, parts, Ordering, ordering, ends_in_select, ordered_parts, query_of, query}
use Rattle.parse_cursor.proofs.Steps.{both_to, three_to, after_is, or_none_some, or_none_none}
use Rattle.parse_query.specs.Parts.{as_query, found_of, found_parts, unordered}
use Rattle.parse_query.proofs.Clear.{tables_clear}
use Rattle.parse_cursor.specs.Items.{items}
use Rattle.parse_cursor.specs.Parts.{given_word}
use Rattle.parse_clause.specs.Parts.{in_query}

pub as_query_is : (d : ℕ) (c : Counts) (ts : List Token) → reads Name rules d as_query c ts ≡ (one role.Outside (kind.As ∷ []) c ts >>= λ t e rest. reads Name rules d in_query e rest)
unfolding as_query
as_query_is d c ts = after_is role.Outside kind.As in_query d c ts

pub common_table_is : (d : ℕ) (c : Counts) (ts : List Token) → reads Name rules d common_table c ts ≡ (one role.Quiet names c ts >>= λ t e rest. reads Name rules d column_names e rest >>= λ ns f mid. reads Name rules d as_query f mid >>= λ q g end. Done (roll-CommonTable (record { name = t; columns = ns; query = q })) g end)
unfolding common_table as_query in_query
common_table_is d c ts = three_to (one role.Quiet names) (reads Name rules d column_names) (reads Name rules d as_query) (λ p. roll-CommonTable (record { name = p.0; columns = p.1.0; query = p.1.1 })) c ts

pub tables_is : (d : ℕ) (c : Counts) (ts : List Token) → reads Name rules d tables c ts ≡ (reads Name rules d (given_word kind.Recursive) c ts >>= λ b e rest. reads Name rules d (items common_table) e rest)
unfolding tables given_word items
tables_is d c ts = both_to (reads Name rules d (given (tok role.Outside (kind.Recursive ∷ [])))) (reads Name rules d (items common_table)) (λ p. p.1) c ts ∙ word (reads Name rules d (given (tok role.Outside (kind.Recursive ∷ []))) c ts) where
  same : (o : Outcome (List CommonTable)) → (o >>= λ a f end. Done a f end) ≡ o
  same (Done a f end) = refl
  same (Stop w end) = refl

  word : (o : Outcome Bool) → (o >>= λ b e rest. reads Name rules d (items common_table) e rest >>= λ a f end. Done a f end) ≡ (o >>= λ b e rest. reads Name rules d (items common_table) e rest)
  word (Done b e rest) = same (reads Name rules d (items common_table) e rest)
  word (Stop w rest) = refl

pub ruleset tables_steps = (tables_is, tables_clear)

pub common_tables_some : (d : ℕ) (c : Counts) (ts : List Token) → starts (kind.With ∷ []) ts ≡ true → reads Name rules d common_tables c ts ≡ (one role.Outside (kind.With ∷ []) c ts >>= λ t e rest. reads Name rules d tables e rest)
unfolding common_tables
common_tables_some d c ts here = or_none_some (after role.Outside kind.With tables) d c ts here ∙ after_is role.Outside kind.With tables d c ts

pub common_tables_none : (d : ℕ) (c : Counts) (ts : List Token) → starts (kind.With ∷ []) ts ≡ false → reads Name rules d common_tables c ts ≡ Done [] c ts
unfolding common_tables
common_tables_none d c ts none = or_none_none (after role.Outside kind.With tables) d c ts none

pub ruleset common_tables_steps = (common_tables_some, common_tables_none)

-- ---- whole queries

pub query_is : (d : ℕ) (c : Counts) (ts : List Token) → reads Name rules d query c ts
    ≡ (reads Name rules d common_tables c ts >>= λ w e rest. reads Name rules d found_parts e rest >>= λ p f mid. pick_read p.ends_in_select (reads Name rules d ordering) (reads Name rules d unordered) f mid >>= λ o g end. Done (roll-Query (record { with = w; first = p.first; others = p.others; order_by = o.0; limit = o.1 })) g end)
unfolding query ordered_parts found_parts unordered
query_is d c ts = both_to (reads Name rules d common_tables) (reads Name rules d ordered_parts) (λ p. query_of p.0 p.1) c ts ∙ word (reads Name rules d common_tables c ts) where
  last : (w : List CommonTable) (p : Parts) (o : Outcome Ordering) → ((o >>= λ b g end. Done (p, b) g end) >>= λ q f end. Done (query_of w q) f end) ≡ (o >>= λ b g end. Done (query_of w (p, b)) g end)
  last w p (Done b g end) = refl
  last w p (Stop x end) = refl

  next : (w : List CommonTable) (o : Outcome Parts) → ((o >>= λ p f mid. pick_read (ends_in_select p) (reads Name rules d ordering) (reads Name rules d unordered) f mid >>= λ b g end. Done (p, b) g end) >>= λ q f end. Done (query_of w q) f end)
      ≡ ((o >>= λ p f mid. Done (found_of p) f mid) >>= λ p f mid. pick_read p.ends_in_select (reads Name rules d ordering) (reads Name rules d unordered) f mid >>= λ b g end. Done (roll-Query (record { with = w; first = p.first; others = p.others; order_by = b.0; limit = b.1 })) g end)
  next w (Done p f mid) = last w p (pick_read (ends_in_select p) (reads Name rules d ordering) (reads Name rules d unordered) f mid)
  next w (Stop x mid) = refl

  word : (o : Outcome (List CommonTable)) → (o >>= λ w e rest. reads Name rules d ordered_parts e rest >>= λ q f end. Done (query_of w q) f end)
      ≡ (o >>= λ w e rest. reads Name rules d found_parts e rest >>= λ p f mid. pick_read p.ends_in_select (reads Name rules d ordering) (reads Name rules d unordered) f mid >>= λ b g end. Done (roll-Query (record { with = w; first = p.first; others = p.others; order_by = b.0; limit = b.1 })) g end)
  word (Done w e rest) = next w (reads Name rules d parts e rest)
  word (Stop x rest) = refl
