use Rattle.std.proofs.Common.{◌≡◌, ◌-◌, ◌<◌, length, ap, arith, subst, ◌∙◌, rules, w64, to_z, of_z}
use Rattle.vm_code.specs.Machine.{row_behind, row_under}
use Rattle.vm_tables.specs.Rows.{on_row, values_of}
use Rattle.vm_tables.proofs.Gathering.{AreGathered, all_gathered, built_of, more_remain, one_gathered, one_more_pair}
use Rattle.vm_tables.proofs.row_tree.RowTree.indexed.Goals as goal

pub loop-next-smaller : goal.loop-next-smaller
loop-next-smaller c =
    let all = c.args.self.now in
    let old = c.loop-next.entries in
    let new = c.push.new.self in
    let left = subst (AreGathered all old) c.in-Some.is c.loop-next.invariant.gathered in
    let remain = more_remain all old c.in-Some.rowid left in
    let more = one_more_pair old new c.new-row.result left.done left.entries (c.in_ok-push.ensures.rows left.done left.entries) in
    let less : length all - length new.pairs < length all - length old.pairs = omega (arith, remain, more) in
    less

pub loop-next-preserved : goal.loop-next-preserved
loop-next-preserved c =
    let all = c.args.self.now in
    let old = c.loop-next.entries in
    let n : to_z w64 (of_z w64 c.in-Some.rowid) ≡ c.in-Some.rowid = search rules in
    let left = subst (AreGathered all old) c.in-Some.is c.loop-next.invariant.gathered in
    let values = c.new-row.ensures.values ∙ c.in_ok-values.ensures ∙ ap (λ m. values_of (row_under all m)) n in
    let behind = c.behind-next.ensures ∙ ap (λ m. on_row (row_behind all m)) n in
    record {
      terms = c.in_ok-push.ensures.terms ∙ c.loop-next.invariant.terms;
      gathered = one_gathered all old c.push.new.self c.in-Some.rowid c.new-row.result c.behind-next.result c.order.ensures c.in_ok-push.ensures.rows (c.new-row.ensures.rowid ∙ n) values behind left;
    }

pub returns-clause-rows : goal.returns-clause-rows
returns-clause-rows c =
    let all = c.args.self.now in
    let left = subst (AreGathered all c.loop-next.entries) c.in_default.is c.loop-next.invariant.gathered in
    built_of c.into_index.result all c.loop-next.entries c.order.ensures (all_gathered all c.loop-next.entries left) c.into_index.ensures.rows
