use Rattle.std.proofs.Common.{◌≡◌, [], ap, ◌∙◌}
use Rattle.gen_write.proofs.Whole.{index-accepted}
use Rattle.vm_code.specs.Draft.{begun}
use Rattle.gen_write.proofs.indexing.compile_index.Goals as goal

pub returns-clause-accepted : goal.returns-clause-accepted
returns-clause-accepted c =
    let b0 : c.new-b.result ≡ begun [] = c.new-b.ensures ∙ ap begun c.new.ensures in
    let program = rw (c.in_ok-op-4.ensures, c.in_ok-op-3.ensures, c.in_ok-op-2.ensures, c.in_ok-op.ensures, c.in_ok-cursor.ensures.1, c.in_ok-cursor.ensures.0, c.in_ok-terms.ensures, c.in_ok-unique.ensures, b0) at c.finish_program.ensures in
    index-accepted c.args.table c.args.name.now c.args.terms.now c.args.unique c.finish_program.result program
