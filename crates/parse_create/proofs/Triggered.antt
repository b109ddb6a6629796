-- What the parts of CREATE TRIGGER read, in the steps of the code.
use Rattle.std.proofs.Common.{◌≡◌, ℕ, true, false, List, [], ◌∷◌, ◌∙◌}
use Rattle.sql_tree.specs.declared.statement.TriggerEvent.TheVariants as event
use Rattle.sql_tree.specs.declared.statement.TriggerTime.TheVariants as time
use Rattle.sql_tree.specs.declared.token.Token.{Token}
use Rattle.sql_tree.specs.declared.token.TokenKind.TheVariants as kind
use Rattle.sql_grammar.specs.declared.counts.Counts.{Counts}
use Rattle.sql_grammar.specs.declared.counts.Role.TheVariants as role
use Rattle.sql_grammar.specs.Rules.{tok, seq, starts, reads, one, Done, ◌>>=◌}
use Rattle.sql_grammar.specs.Grammar.{Name, after, name, names}
use Rattle.sql_grammar.specs.Bodies.{rules}
use Rattle.sql_grammar.specs.Writes.{row_command}
use Rattle.sql_grammar.specs.Definitions.{instead_of, trigger_time, all_names, of_columns, trigger_event, for_each_row, when, body_command, trigger_body, trigger_parts}
use Rattle.sql_grammar.proofs.ReadingLaws.{chosen, other}
use Rattle.parse_cursor.proofs.Steps.{both_to, four_to, after_is, after_to, or_none_some, or_none_none}
use Rattle.parse_create.specs.Parts.{on_table}
use Rattle.parse_create.proofs.Thens.{then}

-- ---- when

pub before : (d : ℕ) (c : Counts) (ts : List Token) → starts (kind.Before ∷ []) ts ≡ true → reads Name rules d trigger_time c ts ≡ (one role.Outside (kind.Before ∷ []) c ts >>= λ t e rest. Done time.Before e rest)
unfolding trigger_time
before d c ts here = chosen _ _ _ here

pub behind : (d : ℕ) (c : Counts) (ts : List Token) → starts (kind.Before ∷ []) ts ≡ false → starts (kind.After ∷ []) ts ≡ true → reads Name rules d trigger_time c ts ≡ (one role.Outside (kind.After ∷ []) c ts >>= λ t e rest. Done time.After e rest)
unfolding trigger_time
behind d c ts none here = other _ _ _ none ∙ chosen _ _ _ here

pub instead : (d : ℕ) (c : Counts) (ts : List Token) → starts (kind.Before ∷ []) ts ≡ false → starts (kind.After ∷ []) ts ≡ false → starts (kind.Instead ∷ []) ts ≡ true
    → reads Name rules d trigger_time c ts ≡ (one role.Outside (kind.Instead ∷ []) c ts >>= λ t e rest. one role.Outside (kind.Of ∷ []) e rest >>= λ u f end. Done time.InsteadOf f end)
unfolding trigger_time instead_of
instead d c ts none nor here = other _ _ _ none ∙ other _ _ _ nor ∙ chosen _ _ _ here ∙ after_to (λ t. time.InsteadOf) role.Outside kind.Instead (tok role.Outside (kind.Of ∷ [])) d c ts

pub untimed : (d : ℕ) (c : Counts) (ts : List Token) → starts (kind.Before ∷ []) ts ≡ false → starts (kind.After ∷ []) ts ≡ false → starts (kind.Instead ∷ []) ts ≡ false → reads Name rules d trigger_time c ts ≡ Done time.Before c ts
unfolding trigger_time instead_of
untimed d c ts none nor neither = other _ _ _ none ∙ other _ _ _ nor ∙ other _ _ _ neither

pub ruleset times = (before, behind, instead, untimed)

-- ---- at what

pub columns_named : (d : ℕ) (c : Counts) (ts : List Token) → starts (kind.Of ∷ []) ts ≡ true → reads Name rules d of_columns c ts ≡ (one role.Outside (kind.Of ∷ []) c ts >>= λ t e rest. reads Name rules d all_names e rest)
unfolding of_columns
columns_named d c ts here = or_none_some (after role.Outside kind.Of all_names) d c ts here ∙ after_is role.Outside kind.Of all_names d c ts

pub columns_unnamed : (d : ℕ) (c : Counts) (ts : List Token) → starts (kind.Of ∷ []) ts ≡ false → reads Name rules d of_columns c ts ≡ Done [] c ts
unfolding of_columns
columns_unnamed d c ts none = or_none_none (after role.Outside kind.Of all_names) d c ts none

pub ruleset columns = (columns_named, columns_unnamed)

pub at_delete : (d : ℕ) (c : Counts) (ts : List Token) → starts (kind.Delete ∷ []) ts ≡ true → reads Name rules d trigger_event c ts ≡ (one role.Outside (kind.Delete ∷ []) c ts >>= λ t e rest. Done event.Delete e rest)
unfolding trigger_event
at_delete d c ts here = chosen _ _ _ here

pub at_insert : (d : ℕ) (c : Counts) (ts : List Token) → starts (kind.Delete ∷ []) ts ≡ false → starts (kind.Insert ∷ []) ts ≡ true → reads Name rules d trigger_event c ts ≡ (one role.Outside (kind.Insert ∷ []) c ts >>= λ t e rest. Done event.Insert e rest)
unfolding trigger_event
at_insert d c ts none here = other _ _ _ none ∙ chosen _ _ _ here

pub at_update : (d : ℕ) (c : Counts) (ts : List Token) → starts (kind.Delete ∷ []) ts ≡ false → starts (kind.Insert ∷ []) ts ≡ false
    → reads Name rules d trigger_event c ts ≡ (one role.Outside (kind.Update ∷ []) c ts >>= λ t e rest. reads Name rules d of_columns e rest >>= λ ns f end. Done (event.Update ns) f end)
unfolding trigger_event
at_update d c ts none nor = other _ _ _ none ∙ other _ _ _ nor ∙ after_to event.Update role.Outside kind.Update of_columns d c ts

pub ruleset events = (at_delete, at_insert, at_update)

pub each_row : (d : ℕ) (c : Counts) (ts : List Token) → starts (kind.For ∷ []) ts ≡ true
    → reads Name rules d for_each_row c ts ≡ (one role.Outside (kind.For ∷ []) c ts >>= λ t e rest. one role.Outside (kind.Each ∷ []) e rest >>= λ u f mid. one role.Outside (kind.Row ∷ []) f mid >>= λ v g end. Done true g end)
unfolding for_each_row
each_row d c ts here = chosen _ _ _ here ∙ after_to (λ x. true) role.Outside kind.For (after role.Outside kind.Each (tok role.Outside (kind.Row ∷ []))) d c ts ∙ then (one role.Outside (kind.For ∷ []) c ts) _ _ (λ t e rest. after_to (λ x. true) role.Outside kind.Each (tok role.Outside (kind.Row ∷ [])) d e rest)

pub no_row : (d : ℕ) (c : Counts) (ts : List Token) → starts (kind.For ∷ []) ts ≡ false → reads Name rules d for_each_row c ts ≡ Done false c ts
unfolding for_each_row
no_row d c ts none = other _ _ _ none

pub ruleset rows = (each_row, no_row)

-- ---- what is done

pub body_command_is : (d : ℕ) (c : Counts) (ts : List Token) → reads Name rules d body_command c ts ≡ (reads Name rules d row_command c ts >>= λ a e rest. one role.Fresh (kind.Semicolon ∷ []) e rest >>= λ t f end. Done a f end)
unfolding body_command
body_command_is d c ts = both_to (reads Name rules d row_command) (one role.Fresh (kind.Semicolon ∷ [])) (λ p. p.0) c ts

-- ---- all of it

pub on_table_is : (d : ℕ) (c : Counts) (ts : List Token) → reads Name rules d on_table c ts ≡ (one role.Outside (kind.On ∷ []) c ts >>= λ t e rest. one role.Quiet names e rest)
unfolding on_table
on_table_is d c ts = after_is role.Outside kind.On name d c ts

pub trigger_parts_is : (d : ℕ) (c : Counts) (ts : List Token) → reads Name rules d trigger_parts c ts
    ≡ (reads Name rules d trigger_time c ts >>= λ w e rest. reads Name rules d trigger_event e rest >>= λ v f mid. reads Name rules d on_table f mid >>= λ n g far. reads Name rules d for_each_row g far >>= λ b h near.
    reads Name rules d when h near >>= λ x i last. reads Name rules d trigger_body i last >>= λ body j end. Done (record { time = w; event = v; table = n; condition = x; body = body }) j end)
unfolding trigger_parts on_table
trigger_parts_is d c ts =
    both_to (reads Name rules d trigger_time) (reads Name rules d (seq trigger_event (seq on_table (seq for_each_row (seq when trigger_body))))) (λ p. record { time = p.0; event = p.1.0; table = p.1.1.0; condition = p.1.1.1.1.0; body = p.1.1.1.1.1 }) c ts
    ∙ then (reads Name rules d trigger_time c ts) _ _ (λ w e rest.
    both_to (reads Name rules d trigger_event) (reads Name rules d (seq on_table (seq for_each_row (seq when trigger_body)))) (λ q. record { time = w; event = q.0; table = q.1.0; condition = q.1.1.1.0; body = q.1.1.1.1 }) e rest
    ∙ then (reads Name rules d trigger_event e rest) _ _ (λ v f mid.
    four_to (reads Name rules d on_table) (reads Name rules d for_each_row) (reads Name rules d when) (reads Name rules d trigger_body) (λ q. record { time = w; event = v; table = q.0; condition = q.1.1.0; body = q.1.1.1 }) f mid))
