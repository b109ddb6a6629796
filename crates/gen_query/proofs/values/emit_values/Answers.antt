use Rattle.std.proofs.Common.{◌≡◌, ◌+◌, [], ◌∷◌, ◌++◌, None, take, sym, ap, ◌∙◌, subst, arith, rules}
use Rattle.std.proofs.lemmas.List.{take_all, take_more}
use Rattle.gen_query.specs.Queries.{by_world, rows_in_turn_steps, rows_read, values_effect}
use Rattle.gen_query.proofs.Following.{values_more, values_none}
use Rattle.vm_code.specs.Frames.{Does, needing}
use Rattle.gen_query.proofs.values.emit_values.Goals as goal

pub loop-row-init : goal.loop-row-init
loop-row-init c = record { does = values_none c.args.b.now; cursors = search rules; units = search rules }

pub emit_value_row-requires : goal.emit_value_row-requires
emit_value_row-requires c = omega (arith, c.loop-row.invariant.does.next, c.loop-row.invariant.does.grows.most, c.requires)

pub loop-row-preserved : goal.loop-row-preserved
loop-row-preserved c =
    let i = c.loop-row.row-index in
    let all = c.args.rows.now in
    let one = c.row-item.result in
    let more : take (i + 1) all ≡ take i all ++ one ∷ [] = take_more all i one c.loop-row-test.true ∙ ap (λ x. take i all ++ x ∷ []) (sym c.row-item.is) in
    let row = rw c.as_slice.ensures at c.in_ok-emit_value_row.ensures.does in
    record {
      does = subst (λ l. Does (needing (rows_read l)) c.args.b.now c.emit_value_row.new.b 0 0 None (values_effect l) (by_world (λ w. rows_in_turn_steps l))) (sym more) (values_more c.args.b.now c.loop-row.b c.emit_value_row.new.b (take i all) one c.loop-row.invariant.does row);
      cursors = c.in_ok-emit_value_row.ensures.cursors ∙ c.loop-row.invariant.cursors;
      units = c.in_ok-emit_value_row.ensures.units ∙ c.loop-row.invariant.units;
    }

pub returns-clause-does : goal.returns-clause-does
returns-clause-does c =
    let all = c.args.rows.now in
    let whole : take c.loop-row.row-index all ≡ all = take_all c.loop-row.row-index all (omega arith) in
    subst (λ l. Does (needing (rows_read l)) c.args.b.now c.loop-row.b 0 0 None (values_effect l) (by_world (λ w. rows_in_turn_steps l))) whole c.loop-row.invariant.does
