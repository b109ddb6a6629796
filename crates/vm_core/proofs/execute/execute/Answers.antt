use Rattle.std.proofs.Common.{◌≡◌, [], map, ap, ◌∙◌, rules, subst, w64, to_z, of_z}
use Rattle.eng_key.specs.Values.{value_keys}
use Rattle.eng_value.specs.Applied.{binary_of, function_by, unary_of}
use Rattle.eng_value.specs.Collations.{own_keys}
use Rattle.eng_value.specs.Comparisons.{like_escaped_of}
use Rattle.eng_value.specs.HostMeanings.{no_hosts}
use Rattle.vm_code.specs.Machine.{operand_of, put, setting}
use Rattle.vm_core.specs.Events.{ActsOver}
use Rattle.vm_core.specs.Operands.{operand_now}
use Rattle.vm_core.specs.Paused.{state_at}
use Rattle.vm_core.proofs.OperandLaws.{all_read_now, reads_now}
use Rattle.vm_core.proofs.execute.execute.Goals as goal

pub returns-in-Goto-clause-leads : goal.returns-in-Goto-clause-leads
returns-in-Goto-clause-leads c ask = rw c.in-Goto.is (c.go_to.ensures c.args.event.now c.args.tables.now.world)

pub returns-in-If-clause-leads : goal.returns-in-If-clause-leads
returns-in-If-clause-leads c ask = rw c.in-If.is (c.jump_where.ensures c.args.event.now c.args.tables.now.world)

pub returns-in-IfNot-clause-leads : goal.returns-in-IfNot-clause-leads
returns-in-IfNot-clause-leads c ask = rw c.in-IfNot.is (c.jump_where-in-IfNot.ensures c.args.event.now c.args.tables.now.world)

pub returns-in-IsNull-clause-leads : goal.returns-in-IsNull-clause-leads
returns-in-IsNull-clause-leads c ask = rw c.in-IsNull.is (c.jump_where-in-IsNull.ensures c.args.event.now c.args.tables.now.world)

pub returns-in-NotNull-clause-leads : goal.returns-in-NotNull-clause-leads
returns-in-NotNull-clause-leads c ask = rw c.in-NotNull.is (c.jump_where-in-NotNull.ensures c.args.event.now c.args.tables.now.world)

pub returns-in-IsBad-clause-leads : goal.returns-in-IsBad-clause-leads
returns-in-IsBad-clause-leads c ask = rw c.in-IsBad.is (c.jump_where-in-IsBad.ensures c.args.event.now c.args.tables.now.world)

pub returns-in-Halt-clause-leads : goal.returns-in-Halt-clause-leads
returns-in-Halt-clause-leads c ask = rw c.in-Halt.is (c.finish.ensures c.args.tables.now.world)

pub returns-in-HaltBad-clause-leads : goal.returns-in-HaltBad-clause-leads
returns-in-HaltBad-clause-leads c ask = rw c.in-HaltBad.is (c.halt.ensures c.args.tables.now.world)

pub returns-in-Call-clause-leads : goal.returns-in-Call-clause-leads
returns-in-Call-clause-leads c ask = rw c.in-Call.is (c.call.ensures c.args.event.now c.args.tables.now.world)

pub returns-in-Ret-clause-leads : goal.returns-in-Ret-clause-leads
returns-in-Ret-clause-leads c ask = rw c.in-Ret.is (c.ret.ensures c.args.tables.now.world)

pub returns-in-Argument-clause-leads : goal.returns-in-Argument-clause-leads
returns-in-Argument-clause-leads c ask = rw c.in-Argument.is (c.put_argument.ensures c.args.event.now c.args.tables.now.world)

pub returns-in-ResultRow-clause-leads : goal.returns-in-ResultRow-clause-leads
returns-in-ResultRow-clause-leads c ask = rw c.in-ResultRow.is (c.give.ensures c.args.tables.now.world)

pub returns-in-Null-clause-leads : goal.returns-in-Null-clause-leads
returns-in-Null-clause-leads c ask = rw c.in-Null.is (c.put_null.ensures c.args.event.now c.args.tables.now.world)

pub returns-in-Integer-clause-leads : goal.returns-in-Integer-clause-leads
returns-in-Integer-clause-leads c ask =
    let n : to_z w64 (of_z w64 c.in-Integer.value) ≡ c.in-Integer.value = search rules in
    let leads = c.put_integer.ensures c.args.event.now c.args.tables.now.world in
    rw c.in-Integer.is (rw n at leads)

pub returns-in-String8-clause-leads : goal.returns-in-String8-clause-leads
returns-in-String8-clause-leads c ask = rw c.in-String8.is (c.put_text.ensures c.args.event.now c.args.tables.now.world)

pub returns-in-Blob-clause-leads : goal.returns-in-Blob-clause-leads
returns-in-Blob-clause-leads c ask = rw c.in-Blob.is (c.put_blob.ensures c.args.event.now c.args.tables.now.world)

pub returns-in-Bad-clause-leads : goal.returns-in-Bad-clause-leads
returns-in-Bad-clause-leads c ask = rw c.in-Bad.is (c.put_bad.ensures c.args.event.now c.args.tables.now.world)

pub returns-in-Variable-clause-leads : goal.returns-in-Variable-clause-leads
returns-in-Variable-clause-leads c ask = rw c.in-Variable.is (c.put_parameter.ensures c.args.event.now c.args.tables.now.world)

pub returns-in-Copy-clause-leads : goal.returns-in-Copy-clause-leads
returns-in-Copy-clause-leads c ask = rw c.in-Copy.is (c.put_copy.ensures c.args.event.now c.args.tables.now.world)

pub returns-in-Affinity-clause-leads : goal.returns-in-Affinity-clause-leads
returns-in-Affinity-clause-leads c ask = rw c.in-Affinity.is (c.store_as.ensures c.args.event.now c.args.tables.now.world)

pub returns-in-Beside-clause-leads : goal.returns-in-Beside-clause-leads
returns-in-Beside-clause-leads c ask = rw c.in-Beside.is (c.compare_as.ensures c.args.event.now c.args.tables.now.world)

pub returns-in-MustBeInt-clause-leads : goal.returns-in-MustBeInt-clause-leads
returns-in-MustBeInt-clause-leads c ask = rw c.in-MustBeInt.is (c.must_be_int.ensures c.args.tables.now.world)

pub returns-in-Unary-clause-leads : goal.returns-in-Unary-clause-leads
returns-in-Unary-clause-leads c ask =
    let m = setting no_hosts ask c.args.params.now c.args.program.now in
    let p = c.args.running.now in
    let w = c.args.tables.now.world in
    rw c.in-Unary.is (subst (λ a. ActsOver c.put_unary.result c.args.event.now p w c.put_unary.new.self w (λ s. put s c.in-Unary.to (unary_of c.in-Unary.operator a))) (reads_now m p w c.in-Unary.operand) (c.put_unary.ensures c.args.event.now))

pub returns-in-Binary-clause-leads : goal.returns-in-Binary-clause-leads
returns-in-Binary-clause-leads c ask =
    let m = setting no_hosts ask c.args.params.now c.args.program.now in
    let p = c.args.running.now in
    let w = c.args.tables.now.world in
    let right = subst (λ b. ActsOver c.put_binary.result c.args.event.now p w c.put_binary.new.self w (λ s. put s c.in-Binary.to (binary_of own_keys c.in-Binary.operator (operand_now c.args.params.now p w c.in-Binary.left) b))) (reads_now m p w c.in-Binary.right) (c.put_binary.ensures c.args.event.now) in
    rw c.in-Binary.is (subst (λ a. ActsOver c.put_binary.result c.args.event.now p w c.put_binary.new.self w (λ s. put s c.in-Binary.to (binary_of own_keys c.in-Binary.operator a (operand_of m (state_at p w []) c.in-Binary.right)))) (reads_now m p w c.in-Binary.left) right)

pub returns-in-LikeEscaped-clause-leads : goal.returns-in-LikeEscaped-clause-leads
returns-in-LikeEscaped-clause-leads c ask =
    let m = setting no_hosts ask c.args.params.now c.args.program.now in
    let p = c.args.running.now in
    let w = c.args.tables.now.world in
    let now = operand_now c.args.params.now p w in
    let there = operand_of m (state_at p w []) in
    let third = subst (λ x. ActsOver c.put_like_escaped.result c.args.event.now p w c.put_like_escaped.new.self w (λ s. put s c.in-LikeEscaped.to (like_escaped_of (now c.in-LikeEscaped.text) (now c.in-LikeEscaped.pattern) x))) (reads_now m p w c.in-LikeEscaped.escape) (c.put_like_escaped.ensures c.args.event.now) in
    let second = subst (λ x. ActsOver c.put_like_escaped.result c.args.event.now p w c.put_like_escaped.new.self w (λ s. put s c.in-LikeEscaped.to (like_escaped_of (now c.in-LikeEscaped.text) x (there c.in-LikeEscaped.escape)))) (reads_now m p w c.in-LikeEscaped.pattern) third in
    rw c.in-LikeEscaped.is (subst (λ x. ActsOver c.put_like_escaped.result c.args.event.now p w c.put_like_escaped.new.self w (λ s. put s c.in-LikeEscaped.to (like_escaped_of x (there c.in-LikeEscaped.pattern) (there c.in-LikeEscaped.escape)))) (reads_now m p w c.in-LikeEscaped.text) second)

pub returns-in-Function-clause-leads : goal.returns-in-Function-clause-leads
returns-in-Function-clause-leads c ask =
    let m = setting no_hosts ask c.args.params.now c.args.program.now in
    let p = c.args.running.now in
    let w = c.args.tables.now.world in
    rw c.in-Function.is (subst (λ outs. ActsOver c.put_call.result c.args.event.now p w c.put_call.new.self w (λ s. put s c.in-Function.to (function_by (value_keys own_keys) c.in-Function.name c.in-Function.collation outs))) (ap (map (operand_now c.args.params.now p w)) c.as_slice.ensures ∙ all_read_now m p w c.in-Function.args) (c.put_call.ensures c.args.event.now))

pub returns-in-Merge-clause-leads : goal.returns-in-Merge-clause-leads
returns-in-Merge-clause-leads c ask = rw c.in-Merge.is (c.put_merged.ensures c.args.event.now c.args.tables.now.world)

pub returns-in-OpenRead-clause-leads : goal.returns-in-OpenRead-clause-leads
returns-in-OpenRead-clause-leads c ask = rw c.in-OpenRead.is (c.open.ensures c.args.event.now c.args.tables.now.world)

pub returns-in-OpenWrite-clause-leads : goal.returns-in-OpenWrite-clause-leads
returns-in-OpenWrite-clause-leads c ask = rw c.in-OpenWrite.is (c.open-in-OpenWrite.ensures c.args.event.now c.args.tables.now.world)

pub returns-in-RowOf-clause-leads : goal.returns-in-RowOf-clause-leads
returns-in-RowOf-clause-leads c ask = rw c.in-RowOf.is (c.stand_on.ensures c.args.event.now c.args.tables.now.world)

pub returns-in-Close-clause-leads : goal.returns-in-Close-clause-leads
returns-in-Close-clause-leads c ask = rw c.in-Close.is (c.close.ensures c.args.event.now c.args.tables.now.world)

pub returns-in-CloseFrom-clause-leads : goal.returns-in-CloseFrom-clause-leads
returns-in-CloseFrom-clause-leads c ask = rw c.in-CloseFrom.is (c.close_from.ensures c.args.event.now c.args.tables.now.world)

pub returns-in-Rewind-clause-leads : goal.returns-in-Rewind-clause-leads
returns-in-Rewind-clause-leads c ask = rw c.in-Rewind.is (c.jump_where_empty.ensures c.args.event.now)

pub returns-in-Next-clause-leads : goal.returns-in-Next-clause-leads
returns-in-Next-clause-leads c ask = rw c.in-Next.is (c.jump_where_next.ensures c.args.event.now)

pub returns-in-Search-clause-leads : goal.returns-in-Search-clause-leads
returns-in-Search-clause-leads c ask = rw c.in-Search.is (rw c.as_slice-in-Search.ensures at (c.search.ensures.leads c.args.event.now))

pub returns-in-SeekRowid-clause-leads : goal.returns-in-SeekRowid-clause-leads
returns-in-SeekRowid-clause-leads c ask = rw c.in-SeekRowid.is (c.seek_rowid.ensures c.args.event.now)

pub returns-in-SorterOpen-clause-leads : goal.returns-in-SorterOpen-clause-leads
returns-in-SorterOpen-clause-leads c ask = rw c.in-SorterOpen.is (c.open_sorter.ensures c.args.event.now c.args.tables.now.world)

pub returns-in-SorterInsert-clause-leads : goal.returns-in-SorterInsert-clause-leads
returns-in-SorterInsert-clause-leads c ask = rw c.in-SorterInsert.is (c.insert_sorted.ensures c.args.event.now c.args.tables.now.world)

pub returns-in-SorterSort-clause-leads : goal.returns-in-SorterSort-clause-leads
returns-in-SorterSort-clause-leads c ask = rw c.in-SorterSort.is (rw c.as_slice-in-SorterSort.ensures at (c.sort.ensures c.args.event.now c.args.tables.now.world))

pub returns-in-SorterData-clause-leads : goal.returns-in-SorterData-clause-leads
returns-in-SorterData-clause-leads c ask = rw c.in-SorterData.is (c.put_sorted.ensures c.args.event.now c.args.tables.now.world)

pub returns-in-SorterNext-clause-leads : goal.returns-in-SorterNext-clause-leads
returns-in-SorterNext-clause-leads c ask = rw c.in-SorterNext.is (c.jump_where_sorted.ensures c.args.event.now c.args.tables.now.world)

pub returns-in-Column-clause-leads : goal.returns-in-Column-clause-leads
returns-in-Column-clause-leads c ask = rw c.in-Column.is (c.put_column.ensures c.args.event.now)

pub returns-in-Rowid-clause-leads : goal.returns-in-Rowid-clause-leads
returns-in-Rowid-clause-leads c ask = rw c.in-Rowid.is (c.put_rowid.ensures c.args.event.now)

pub returns-in-NotExists-clause-leads : goal.returns-in-NotExists-clause-leads
returns-in-NotExists-clause-leads c ask = rw c.in-NotExists.is (c.jump_where_missing.ensures c.args.event.now)

pub returns-in-NoConflict-clause-leads : goal.returns-in-NoConflict-clause-leads
returns-in-NoConflict-clause-leads c ask = rw c.in-NoConflict.is (rw c.as_slice-in-NoConflict.ensures at (c.jump_without_conflict.ensures.leads c.args.event.now))

pub returns-in-NewRowid-clause-leads : goal.returns-in-NewRowid-clause-leads
returns-in-NewRowid-clause-leads c ask = rw c.in-NewRowid.is c.new_rowid.ensures

pub returns-in-Insert-clause-leads : goal.returns-in-Insert-clause-leads
returns-in-Insert-clause-leads c ask = rw c.in-Insert.is (c.insert_registers.ensures.leads c.args.event.now)

pub returns-in-BuildIndex-clause-leads : goal.returns-in-BuildIndex-clause-leads
returns-in-BuildIndex-clause-leads c ask = rw c.in-BuildIndex.is (rw c.as_slice-in-BuildIndex.ensures at c.build_index.ensures.leads)

pub returns-in-Schema-clause-leads : goal.returns-in-Schema-clause-leads
returns-in-Schema-clause-leads c ask = rw c.in-Schema.is (c.change_schema.ensures.leads c.args.event.now)
