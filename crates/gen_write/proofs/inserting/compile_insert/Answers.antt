use Rattle.std.proofs.Common.{◌≡◌, ◌+◌, [], ap, ◌∙◌, arith}
use Rattle.gen_write.proofs.Whole.{insert-accepted, insert-performs}
use Rattle.vm_code.specs.Draft.{Draft, begun}
use Rattle.gen_write.proofs.inserting.compile_insert.Goals as goal

pub put_rows-requires-clause-cursors : goal.put_rows-requires-clause-cursors
put_rows-requires-clause-cursors c =
    let b0 : c.new-b.result ≡ begun [] = c.new-b.ensures ∙ ap begun c.new.ensures in
    let none = rw (c.in_ok-op.ensures, c.in_ok-causes.ensures.1, b0) at c.in_ok-source.ensures.cursors in
    rw (c.in_ok-op-2.ensures, c.in_ok-cursor-2.ensures.1, c.in_ok-cursor.ensures.1) (omega (arith, none))

pub returns-clause-performs : goal.returns-clause-performs
returns-clause-performs c =
    let b0 : c.new-b.result ≡ begun [] = c.new-b.ensures ∙ ap begun c.new.ensures in
    let causes_is : c.in_ok-causes.causes ≡ 0 = c.in_ok-causes.ensures.0 ∙ ap (λ (d : Draft). d.next) b0 in
    let keeps = rw (c.in_ok-op.ensures, c.in_ok-causes.ensures.1, b0, causes_is, c.as_slice.ensures) at c.in_ok-source.ensures.keeps in
    let none = rw (c.in_ok-op.ensures, c.in_ok-causes.ensures.1, b0) at c.in_ok-source.ensures.cursors in
    let puts = rw (c.in_ok-op-2.ensures, c.in_ok-cursor-2.ensures.1, c.in_ok-cursor.ensures.1, causes_is, c.as_slice-2.ensures) at c.in_ok-put_rows.ensures.puts in
    let wide : c.put_rows.new.b.cursors ≡ c.keep_rows.new.b.cursors + 1 + 1 = rw (c.in_ok-op-2.ensures, c.in_ok-cursor-2.ensures.1, c.in_ok-cursor.ensures.1) at c.in_ok-put_rows.ensures.cursors in
    let program = rw (c.in_ok-op-4.ensures, c.in_ok-op-3.ensures) at c.finish_program.ensures in
    insert-performs c.args.insert.now c.in_ok-source.source c.keep_rows.new.b c.put_rows.new.b keeps none puts (omega (arith, wide, none)) c.finish_program.result program

pub returns-clause-accepted : goal.returns-clause-accepted
returns-clause-accepted c fits =
    let b0 : c.new-b.result ≡ begun [] = c.new-b.ensures ∙ ap begun c.new.ensures in
    let causes_is : c.in_ok-causes.causes ≡ 0 = c.in_ok-causes.ensures.0 ∙ ap (λ (d : Draft). d.next) b0 in
    let keeps = rw (c.in_ok-op.ensures, c.in_ok-causes.ensures.1, b0, causes_is, c.as_slice.ensures) at c.in_ok-source.ensures.keeps in
    let none = rw (c.in_ok-op.ensures, c.in_ok-causes.ensures.1, b0) at c.in_ok-source.ensures.cursors in
    let puts = rw (c.in_ok-op-2.ensures, c.in_ok-cursor-2.ensures.1, c.in_ok-cursor.ensures.1, causes_is, c.as_slice-2.ensures) at c.in_ok-put_rows.ensures.puts in
    let wide : c.put_rows.new.b.cursors ≡ c.keep_rows.new.b.cursors + 1 + 1 = rw (c.in_ok-op-2.ensures, c.in_ok-cursor-2.ensures.1, c.in_ok-cursor.ensures.1) at c.in_ok-put_rows.ensures.cursors in
    let program = rw (c.in_ok-op-4.ensures, c.in_ok-op-3.ensures) at c.finish_program.ensures in
    let alone = rw (c.in_ok-op-2.ensures, c.in_ok-cursor-2.ensures.1, c.in_ok-cursor.ensures.1, c.in_ok-source.ensures.units, c.in_ok-op.ensures, c.in_ok-causes.ensures.1, b0) at c.in_ok-put_rows.ensures.units in
    insert-accepted c.args.insert.now c.in_ok-source.source c.keep_rows.new.b c.put_rows.new.b keeps none puts (omega (arith, wide, none)) fits alone c.finish_program.result program
