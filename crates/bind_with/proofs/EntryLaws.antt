-- Tables of the catalog, and arguments that are counted.
use Rattle.std.proofs.Common.{◌≡◌, ◌⊎◌, inl, inr, ℕ, List, map, length, Result, Ok, Err, ap, ◌∙◌, refl}
use Rattle.bind_source.specs.Arounds.{around_of}
use Rattle.eng_entry.specs.declared.entry.Entry.{Entry}
use Rattle.eng_entry.specs.declared.entry.EntryKind.TheVariants as entry_kind
use Rattle.eng_value.specs.declared.cause.Cause.{Cause}
use Rattle.sql_bound.specs.Answers.{Answers, Comes}
use Rattle.sql_bound.specs.Carriers.{Expression}
use Rattle.sql_bound.specs.Declarations.{definition_of, table_in}
use Rattle.sql_bound.specs.Froms.{Inside, of_entry, of_table, with_units, without_arguments}
use Rattle.sql_bound.specs.Refusals.{Checked}
use Rattle.sql_bound.specs.declared.froms.Found.{Found}
use Rattle.sql_bound.specs.declared.froms.Sourced.{Sourced}
use Rattle.sql_bound.specs.declared.scopes.Work.{Work}
use Rattle.sql_words.specs.Refusals.{◌>>=◌}

module _ (i : Inside) (name : List ℕ) (entry : Entry) (args : List Expression) (f : Found) (w : Work) where
  rest : Unit {0} → Checked (Sourced × Work)
  rest u = with_units (of_table i.outer name entry (table_in (definition_of entry))) w

  pub plain-is : (r : Result Sourced Cause) → without_arguments entry.name args ≡ Ok tt → Answers (of_table i.outer name entry (table_in (definition_of entry))) r → Comes (of_entry i name entry entry_kind.Table args f w) r w
  unfolding rest
  plain-is (Ok s) none is = ap (λ a. a >>= rest) none ∙ ap (λ a. with_units a w) is
  plain-is (Err why) none (inl mem) = inl mem
  plain-is (Err why) none (inr is) = inr (ap (λ a. a >>= rest) none ∙ ap (λ a. with_units a w) is)

  pub plain-refused : (why : Cause) → without_arguments entry.name args ≡ Err why → of_entry i name entry entry_kind.Table args f w ≡ Err why
  unfolding rest
  plain-refused why some = ap (λ a. a >>= rest) some
