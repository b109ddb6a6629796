-- What is made by each CREATE, in the steps of the code.
use Rattle.std.proofs.Common.{◌≡◌, ℕ, List, [], ◌∷◌, ap, ◌∙◌}
use Rattle.sql_tree.specs.declared.statement.Definition.TheVariants as definition
use Rattle.sql_tree.specs.declared.token.Token.{Token}
use Rattle.sql_tree.specs.declared.token.TokenKind.TheVariants as kind
use Rattle.sql_grammar.specs.declared.counts.Counts.{Counts}
use Rattle.sql_grammar.specs.declared.counts.Role.TheVariants as role
use Rattle.sql_grammar.specs.Rules.{seq, before, reads, Outcome, one, Done, ◌>>=◌}
use Rattle.sql_grammar.specs.Grammar.{Name, after}
use Rattle.sql_grammar.specs.Bodies.{rules}
use Rattle.sql_grammar.specs.Queries.{column_names, query}
use Rattle.sql_grammar.specs.Definitions.{header, create_table, indexed, create_index, create_view, trigger_parts, create_trigger, using_module, create_virtual_table, named_definition, created, create, Named}
use Rattle.parse_cursor.proofs.Steps.{both_to, three_to, after_to, after_is}
use Rattle.parse_create.specs.Parts.{in_columns}
use Rattle.parse_create.proofs.Thens.{then, then_on}
use Rattle.parse_cursor.specs.Parts.{given_word}

pub create_table_is : (d : ℕ) (c : Counts) (ts : List Token) → reads Name rules d create_table c ts ≡ (one role.Outside (kind.Table ∷ []) c ts >>= λ t e rest. reads Name rules d header e rest >>= λ h f mid. reads Name rules d in_columns f mid >>= λ x g end. Done (h, definition.Table x) g end)
unfolding create_table in_columns
create_table_is d c ts =
    after_to (λ p. (p.0, definition.Table p.1)) role.Outside kind.Table (seq header in_columns) d c ts
    ∙ then (one role.Outside (kind.Table ∷ []) c ts) _ _ (λ t e rest. both_to (reads Name rules d header) (reads Name rules d in_columns) (λ p. (p.0, definition.Table p.1)) e rest)

pub create_index_is : (d : ℕ) (c : Counts) (ts : List Token) → reads Name rules d create_index c ts
    ≡ (reads Name rules d (given_word kind.Unique) c ts >>= λ u e rest. one role.Outside (kind.Index ∷ []) e rest >>= λ t f mid. reads Name rules d header f mid >>= λ h g far. reads Name rules d indexed g far >>= λ x i end. Done (h, definition.Index (record { unique = u; table = x.0; columns = x.1 })) i end)
unfolding create_index given_word
create_index_is d c ts =
    both_to (reads Name rules d (given_word kind.Unique)) (reads Name rules d (after role.Outside kind.Index (seq header indexed))) (λ p. (p.1.0, definition.Index (record { unique = p.0; table = p.1.1.0; columns = p.1.1.1 }))) c ts
    ∙ then (reads Name rules d (given_word kind.Unique) c ts) _ _ (λ u e rest.
    after_to (λ q. (q.0, definition.Index (record { unique = u; table = q.1.0; columns = q.1.1 }))) role.Outside kind.Index (seq header indexed) d e rest
    ∙ then (one role.Outside (kind.Index ∷ []) e rest) _ _ (λ t f mid. both_to (reads Name rules d header) (reads Name rules d indexed) (λ q. (q.0, definition.Index (record { unique = u; table = q.1.0; columns = q.1.1 }))) f mid))

pub create_view_is : (d : ℕ) (c : Counts) (ts : List Token) → reads Name rules d create_view c ts
    ≡ (one role.Outside (kind.View ∷ []) c ts >>= λ t e rest. reads Name rules d header e rest >>= λ h f mid. reads Name rules d column_names f mid >>= λ ns g far. one role.Outside (kind.As ∷ []) g far >>= λ u i last. reads Name rules d query i last >>= λ q j end. Done (h, definition.View (record { columns = ns; query = q })) j end)
unfolding create_view
create_view_is d c ts =
    after_to (λ p. (p.0, definition.View (record { columns = p.1.0; query = p.1.1 }))) role.Outside kind.View (seq header (seq column_names (after role.Outside kind.As query))) d c ts
    ∙ then (one role.Outside (kind.View ∷ []) c ts) _ _ (λ t e rest.
    three_to (reads Name rules d header) (reads Name rules d column_names) (reads Name rules d (after role.Outside kind.As query)) (λ p. (p.0, definition.View (record { columns = p.1.0; query = p.1.1 }))) e rest
    ∙ then (reads Name rules d header e rest) _ _ (λ h f mid. then (reads Name rules d column_names f mid) _ _ (λ ns g far. after_to (λ q. (h, definition.View (record { columns = ns; query = q }))) role.Outside kind.As query d g far)))

pub create_trigger_is : (d : ℕ) (c : Counts) (ts : List Token) → reads Name rules d create_trigger c ts ≡ (one role.Outside (kind.Trigger ∷ []) c ts >>= λ t e rest. reads Name rules d header e rest >>= λ h f mid. reads Name rules d trigger_parts f mid >>= λ x g end. Done (h, definition.Trigger x) g end)
unfolding create_trigger
create_trigger_is d c ts =
    after_to (λ p. (p.0, definition.Trigger p.1)) role.Outside kind.Trigger (seq header trigger_parts) d c ts
    ∙ then (one role.Outside (kind.Trigger ∷ []) c ts) _ _ (λ t e rest. both_to (reads Name rules d header) (reads Name rules d trigger_parts) (λ p. (p.0, definition.Trigger p.1)) e rest)

pub create_virtual_table_is : (d : ℕ) (c : Counts) (ts : List Token) → reads Name rules d create_virtual_table c ts
    ≡ (one role.Outside (kind.Virtual ∷ []) c ts >>= λ t e rest. one role.Outside (kind.Table ∷ []) e rest >>= λ u f mid. reads Name rules d header f mid >>= λ h g far. reads Name rules d using_module g far >>= λ x i end. Done (h, definition.VirtualTable x) i end)
unfolding create_virtual_table
create_virtual_table_is d c ts =
    after_to (λ p. (p.0, definition.VirtualTable p.1)) role.Outside kind.Virtual (after role.Outside kind.Table (seq header using_module)) d c ts
    ∙ then (one role.Outside (kind.Virtual ∷ []) c ts) _ _ (λ t e rest.
    after_to (λ p. (p.0, definition.VirtualTable p.1)) role.Outside kind.Table (seq header using_module) d e rest
    ∙ then (one role.Outside (kind.Table ∷ []) e rest) _ _ (λ u f mid. both_to (reads Name rules d header) (reads Name rules d using_module) (λ p. (p.0, definition.VirtualTable p.1)) f mid))

pub create_is : (d : ℕ) (c : Counts) (ts : List Token) → reads Name rules d create c ts ≡ (one role.Outside (kind.Create ∷ []) c ts >>= λ t e rest. reads Name rules d named_definition e rest >>= λ p f end. Done (created p (before ts end)) f end)
unfolding create
create_is d c ts =
    ap (λ (o : Outcome Named). o >>= λ p f end. Done (created p (before ts end)) f end) (after_is role.Outside kind.Create named_definition d c ts)
    ∙ then_on (one role.Outside (kind.Create ∷ []) c ts) (λ t e rest. reads Name rules d named_definition e rest) (λ p f end. Done (created p (before ts end)) f end)
