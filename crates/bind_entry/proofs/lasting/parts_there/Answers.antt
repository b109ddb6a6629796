use Rattle.std.proofs.Common.{◌≡◌, Err, ◌∙◌, get_or, arith}
use Rattle.std.specs.Option.{option_to_list}
use Rattle.std.proofs.lemmas.Grind.{common_steps}
use Rattle.sql_bound.specs.HostFacts.{facts_of}
use Rattle.sql_bound.specs.Lasting.{all_there, of_parts}
use Rattle.sql_tree.specs.declared.statement.IndexedColumn.{IndexedColumn}
use Rattle.bind_entry.proofs.ThereLaws.{step-passed, step-refused}
use Rattle.bind_entry.proofs.lasting.parts_there.Goals as goal

pub loop-part-preserved : goal.loop-part-preserved
loop-part-preserved c =
    c.loop-part.invariant
    ∙ step-passed (λ (p : IndexedColumn). option_to_list p.collation) (facts_of c.args.facts.now) c.args.text.now c.args.parts.now c.loop-part.part-index _ c.loop-part-test.true c.in_ok-option_there.ensures

pub returns-in_err-option_there : goal.returns-in_err-option_there
returns-in_err-option_there c =
    let facts = facts_of c.args.facts.now in
    let text = c.args.text.now in
    let why = c.in_err-option_there.field-0.0 in
    let refused : (d : IndexedColumn) → all_there facts text (option_to_list (get_or c.args.parts.now c.loop-part.part-index d).collation) ≡ Err why → all_there facts text (of_parts c.args.parts.now) ≡ Err why = λ d h.
    c.loop-part.invariant ∙ step-refused (λ (p : IndexedColumn). option_to_list p.collation) facts text c.args.parts.now c.loop-part.part-index d why c.loop-part-test.true h in
    grind (arith, common_steps, refused)
