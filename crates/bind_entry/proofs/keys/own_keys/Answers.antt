use Rattle.std.proofs.Common.{◌≡◌, ◌++◌, ◌∙◌, get_or, arith}
use Rattle.std.specs.List.{flat_map}
use Rattle.std.proofs.lemmas.Grind.{common_steps}
use Rattle.sql_bound.specs.Declarations.{own_key}
use Rattle.bind_entry.proofs.KeyLaws.{own_keys-step}
use Rattle.bind_entry.proofs.keys.own_keys.Goals as goal

pub loop-definition-preserved : goal.loop-definition-preserved
loop-definition-preserved c =
    let i = c.loop-definition.definition-index in
    let x = c.definition-item.result in
    let put : c.put_keys_of_column.new.keys ≡ c.loop-definition.keys ++ flat_map (own_key c.args.rowid c.args.columns.now i) (get_or c.args.definitions.now i x).constraints = grind (arith, common_steps) in (
      grind (arith, common_steps),
      c.loop-definition.invariant.1 ∙ own_keys-step c.args.rowid c.args.columns.now c.loop-definition.keys c.put_keys_of_column.new.keys c.args.definitions.now i x c.loop-definition-test.true put,
    )
