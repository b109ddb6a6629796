use Rattle.std.proofs.Common.{◌≡◌, Ok, Err, sym, ap, ◌∙◌, arith}
use Rattle.std.specs.List.{flat_map}
use Rattle.std.proofs.lemmas.Grind.{common_steps}
use Rattle.sql_bound.specs.HostFacts.{facts_of}
use Rattle.sql_bound.specs.Lasting.{all_there, of_key}
use Rattle.sql_tree.specs.declared.statement.TableConstraint.{TableConstraint}
use Rattle.bind_entry.proofs.ThereLaws.{step-passed, step-refused}
use Rattle.bind_entry.proofs.lasting.keys_there.Goals as goal

pub loop-constraint-preserved : goal.loop-constraint-preserved
loop-constraint-preserved c =
    let facts = facts_of c.args.facts.now in
    let text = c.args.text.now in
    let x = c.constraint-item.result in
    c.loop-constraint.invariant
    ∙ step-passed of_key facts text c.args.constraints.now c.loop-constraint.constraint-index x c.loop-constraint-test.true
    (ap (λ (d : TableConstraint). all_there facts text (of_key d)) (sym c.constraint-item.is) ∙ c.in_ok-key_there.ensures)

pub returns-in_err-key_there : goal.returns-in_err-key_there
returns-in_err-key_there c =
    let facts = facts_of c.args.facts.now in
    let text = c.args.text.now in
    let x = c.constraint-item.result in
    let why = c.in_err-key_there.field-0.0 in
    let refused : all_there facts text (of_key x) ≡ Err why → all_there facts text (flat_map of_key c.args.constraints.now) ≡ Err why = λ h.
    c.loop-constraint.invariant
    ∙ step-refused of_key facts text c.args.constraints.now c.loop-constraint.constraint-index x why c.loop-constraint-test.true
    (ap (λ (d : TableConstraint). all_there facts text (of_key d)) (sym c.constraint-item.is) ∙ h) in
    grind (arith, common_steps, refused)
