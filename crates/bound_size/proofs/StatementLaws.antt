-- Whole statements.
use Rattle.std.proofs.Common.{◌≡◌, ℕ, true, List, [], Ok, sym, ap, subst, ◌∙◌}
use Rattle.sql_tree.specs.declared.query.Query.{Query}
use Rattle.sql_tree.specs.declared.statement.Command.TheVariants as command
use Rattle.sql_tree.specs.declared.statement.Command.{Command}
use Rattle.sql_tree.specs.declared.statement.Insert.{Insert}
use Rattle.sql_tree.specs.declared.statement.InsertSource.TheVariants as source
use Rattle.sql_tree.specs.declared.statement.RowCommand.TheVariants as rows_by
use Rattle.sql_tree.specs.declared.statement.Statement.{Statement}
use Rattle.bound_tree.specs.declared.statements.BoundCommand.TheVariants.{Asked, Written}
use Rattle.bound_tree.specs.declared.statements.BoundStatement.{BoundStatement}
use Rattle.bound_tree.specs.declared.writes.BoundWrite.{BoundWrite}
use Rattle.sql_words.specs.Spelled.{name_at}
use Rattle.sql_bound.specs.Declarations.{table_named}
use Rattle.sql_bound.specs.Scopes.{Around, Outer, in_statement}
use Rattle.sql_bound.specs.Statements.{bound_of, command_bound, statement_with}
use Rattle.sql_bound.specs.Trees.{full_depth, outer_at}
use Rattle.bound_size.specs.Plain.{is_plain_query}
use Rattle.bound_size.specs.Small.{InsertsSmall, IsSmallTarget, MakesSmall}
use Rattle.bound_size.proofs.BoundLaws.{bound_by, same_answer}
use Rattle.bound_size.proofs.InsertLaws.{insert_placed, insert_targeted}
use Rattle.bound_size.proofs.PlaceLaws.{asked_placed}

-- in which it is bound
abbrev outermost : Around → List ℕ → Outer
outermost around text = outer_at around (full_depth around) text [] in_statement

pub query_small : (around : Around) (text : List ℕ) (s : Statement) (q : Query) (b : BoundStatement) → s.command ≡ command.Rows (rows_by.Query q) → is_plain_query q ≡ true → bound_of around text s ≡ Ok b
    → (place : ℕ) × (b.command ≡ Asked place) × MakesSmall q place b.units
query_small around text s q b is plain h =
    let o = outermost around text in
    let c = bound_by (command_bound o s.command) (λ c. Ok (statement_with s.explain c)) b h in
    let placed = asked_placed q o c.0 plain (subst (λ (x : Command). command_bound o x ≡ Ok c.0) is c.1) in
    let same = same_answer (statement_with s.explain c.0) b c.2 in
    (placed.0, ap (λ (x : BoundStatement). x.command) (sym same) ∙ placed.1, subst (λ (x : BoundStatement). MakesSmall q placed.0 x.units) same placed.2)

pub insert_small : (around : Around) (text : List ℕ) (s : Statement) (i : Insert) (q : Query) (b : BoundStatement) → s.command ≡ command.Rows (rows_by.Insert i) → i.source ≡ source.Query q → around.catalog.triggers ≡ []
    → is_plain_query q ≡ true → bound_of around text s ≡ Ok b → (write : BoundWrite) × (b.command ≡ Written write) × InsertsSmall q write.change b.units
insert_small around text s i q b is from none plain h =
    let o = outermost around text in
    let c = bound_by (command_bound o s.command) (λ c. Ok (statement_with s.explain c)) b h in
    let placed = insert_placed o q i c.0 from none plain (subst (λ (x : Command). command_bound o x ≡ Ok c.0) is c.1) in
    let same = same_answer (statement_with s.explain c.0) b c.2 in
    (placed.0, ap (λ (x : BoundStatement). x.command) (sym same) ∙ placed.1, subst (λ (x : BoundStatement). InsertsSmall q placed.0.change x.units) same placed.2)

pub target_small : (around : Around) (text : List ℕ) (s : Statement) (i : Insert) (b : BoundStatement) → s.command ≡ command.Rows (rows_by.Insert i) → bound_of around text s ≡ Ok b
    → (write : BoundWrite) × (b.command ≡ Written write) × IsSmallTarget (table_named (name_at text i.table) around.catalog) write.target
target_small around text s i b is h =
    let o = outermost around text in
    let c = bound_by (command_bound o s.command) (λ c. Ok (statement_with s.explain c)) b h in
    let placed = insert_targeted o i c.0 (subst (λ (x : Command). command_bound o x ≡ Ok c.0) is c.1) in
    (placed.0, ap (λ (x : BoundStatement). x.command) (sym (same_answer (statement_with s.explain c.0) b c.2)) ∙ placed.1, placed.2)
