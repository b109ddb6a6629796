use Rattle.std.proofs.Common.{◌≤◌, ◌∷◌, [], ap, sym, ◌∙◌, drop, length, take, arith, length-append}
use Rattle.std.proofs.lemmas.List.{take-append-le, take_all}
use Rattle.vm_tables.specs.Changes.{before}
use Rattle.vm_tables.proofs.TakingBack.{none_left, one_back}
use Rattle.vm_tables.proofs.change.take_back.Goals as goal

pub loop-log-preserved : goal.loop-log-preserved
loop-log-preserved c =
    let rest = c.pop.new.self.items in
    let from = c.args.from in
    let long = ap length c.in-Some.ensures.items ∙ length-append rest (c.in-Some.change ∷ []) in
    let le : from ≤ length rest = omega arith in
    record {
      tables =
          ap (before (drop from rest)) c.undo.ensures
          ∙ one_back rest c.in-Some.change c.loop-log.tables.items from le
          ∙ ap (λ l. before (drop from l) c.loop-log.tables.items) (sym c.in-Some.ensures.items)
          ∙ c.loop-log.invariant.tables;
      log = sym (take-append-le from rest (c.in-Some.change ∷ []) le) ∙ ap (take from) (sym c.in-Some.ensures.items) ∙ c.loop-log.invariant.log;
    }

pub returns : goal.returns
returns c =
    let le : length c.loop-log.log.items ≤ c.args.from = omega arith in
    record {
      tables = sym (none_left c.loop-log.log.items c.loop-log.tables.items c.args.from le) ∙ c.loop-log.invariant.tables;
      log = sym (take_all c.args.from c.loop-log.log.items le) ∙ c.loop-log.invariant.log;
    }
