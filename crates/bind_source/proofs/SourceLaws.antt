-- A table whose collations are there.
use Rattle.std.proofs.Common.{◌≡◌, ◌⊎◌, inl, ℕ, List, Option, Some, Result, Ok, Err, IfOk, sym, ap, ◌∙◌}
use Rattle.eng_entry.specs.declared.entry.Entry.{Entry}
use Rattle.eng_value.specs.declared.cause.Cause.{Cause}
use Rattle.sql_tree.specs.declared.statement.TableDefinition.{TableDefinition}
use Rattle.sql_bound.specs.Answers.{Answers, OnlyMem}
use Rattle.sql_bound.specs.Declarations.{declared_table}
use Rattle.sql_bound.specs.Froms.{declared_source, of_table}
use Rattle.sql_bound.specs.Lasting.{collations_kept}
use Rattle.sql_bound.specs.Scopes.{Around, Outer}
use Rattle.sql_bound.specs.declared.froms.Sourced.{Sourced}
use Rattle.sql_words.specs.Refusals.{◌>>=◌}

pub kept-is : (o : Outer) (around : Around) (name : List ℕ) (entry : Entry) (table : TableDefinition) (r : Result Sourced Cause) → o.around ≡ around → collations_kept around entry table ≡ Ok tt
    → IfOk r (λ s. s ≡ declared_source o entry (declared_table around.facts entry.text table)) → OnlyMem r → Answers (of_table o name entry (Some table)) r
kept-is o around name entry table (Ok s) is kept made mem =
    ap (λ (a : Around). collations_kept a entry table >>= λ u. Ok (declared_source o entry (declared_table o.around.facts entry.text table))) is
    ∙ ap (λ k. k >>= λ u. Ok (declared_source o entry (declared_table o.around.facts entry.text table))) kept
    ∙ ap (λ (a : Around). Ok (declared_source o entry (declared_table a.facts entry.text table))) is
    ∙ ap Ok (sym made)
kept-is o around name entry table (Err why) is kept made mem = inl mem
