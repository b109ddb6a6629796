use Rattle.std.proofs.Common.{◌≡◌, ap, sym, ◌∙◌, rules}
use Rattle.std.specs.List.{filter}
use Rattle.std.proofs.lemmas.Fn.{filter_same}
use Rattle.sql_meaning.proofs.TableLaws.{is_other}
use Rattle.eng_entry.specs.Entries.{Entries}
use Rattle.sql_meaning.specs.Declarations.{tables_of}
use Rattle.engine.proofs.Schemas.{tables_without}
use Rattle.engine.proofs.schema.Schema.remove.Goals as goal

pub invariant_of-self : goal.invariant_of-self
invariant_of-self c =
    let kept : c.retain.new.self.items ≡ filter (is_other c.args.name.now) c.self.inside.tables.items = filter_same _ _ _ (λ x b f' k. search rules) _ _ c.retain.ensures.filtered in
    (kept ∙ tables_without c.self.inside.tables.items c.self.inside.catalog c.args.name.now c.self.invariant.0 ∙ ap tables_of (sym c.drop_name.ensures.rest), ap (λ (k : Entries). k.triggers) c.drop_name.ensures.rest ∙ c.self.invariant.1)
