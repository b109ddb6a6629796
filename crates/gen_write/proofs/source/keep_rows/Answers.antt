use Rattle.std.proofs.Common.{◌≡◌, ◌+◌, [], ◌∷◌, ◌++◌, take, sym, ap, ◌∙◌, subst, arith, rules}
use Rattle.std.specs.List.{flat_map}
use Rattle.std.proofs.lemmas.List.{take_all, take_more}
use Rattle.gen_write.specs.Stretches.{KeepsRows}
use Rattle.gen_write.proofs.Keeping.{keeps_no_rows, keeps_rows_then, keeps_rows_wider}
use Rattle.gen_expr.proofs.Covering.{covers_item}
use Rattle.gen_write.specs.Writes.{needs_of_each}
use Rattle.vm_code.specs.Frames.{needing}
use Rattle.gen_write.proofs.source.keep_rows.Goals as goal

pub loop-row-init : goal.loop-row-init
loop-row-init c = record { keeps = rw c.new-source.ensures (keeps_no_rows (needing (flat_map needs_of_each c.args.rows.now)) c.args.b.now c.args.causes c.requires.counted); cursors = search rules; units = search rules }

pub keep_row-requires-clause-taken : goal.keep_row-requires-clause-taken
keep_row-requires-clause-taken c = omega (arith, c.requires.taken, c.loop-row.invariant.keeps.next)

pub keep_row-requires-clause-counted : goal.keep_row-requires-clause-counted
keep_row-requires-clause-counted c = c.loop-row.invariant.keeps.counted

pub loop-row-preserved : goal.loop-row-preserved
loop-row-preserved c =
    let i = c.loop-row.row-index in
    let all = c.args.rows.now in
    let one = c.row-item.result in
    let more : take (i + 1) all ≡ take i all ++ one ∷ [] = take_more all i one c.loop-row-test.true ∙ ap (λ x. take i all ++ x ∷ []) (sym c.row-item.is) in
    let row = keeps_rows_wider (flat_map needs_of_each all) (covers_item needs_of_each all i one c.loop-row-test.true c.row-item.is) (rw c.as_slice.ensures at c.in_ok-keep_row.ensures.keeps) in
    record {
      keeps = rw (more, c.in_ok-push.ensures.ok) (keeps_rows_then c.args.causes (take i all) one c.loop-row.source c.in_ok-keep_row.field-0 c.loop-row.invariant.keeps row);
      cursors = c.in_ok-keep_row.ensures.cursors ∙ c.loop-row.invariant.cursors;
      units = c.in_ok-keep_row.ensures.units ∙ c.loop-row.invariant.units;
    }

pub returns-clause-keeps : goal.returns-clause-keeps
returns-clause-keeps c =
    let all = c.args.rows.now in
    let whole : take c.loop-row.row-index all ≡ all = take_all c.loop-row.row-index all (omega arith) in
    subst (λ rows. KeepsRows (needing (flat_map needs_of_each all)) c.args.b.now c.loop-row.b c.args.causes rows c.loop-row.source) whole c.loop-row.invariant.keeps
