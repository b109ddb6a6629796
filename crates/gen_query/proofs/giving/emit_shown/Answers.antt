use Rattle.std.proofs.Common.{◌≡◌, ◌-◌, ◌∙◌}
use Rattle.std.proofs.lemmas.Result.{on_ok_weaker}
use Rattle.gen_query.specs.Stretches.{with_row_given}
use Rattle.gen_query.proofs.giving.emit_shown.Goals as goal

pub give_row-requires : goal.give_row-requires
give_row-requires c =
    record { «open» = c.in_ok-gather.ensures.gathers.grows.open_labels c.args.next (c.in_ok-emit_results.ensures.fills.grows.open_labels c.args.next c.requires.«open») }

pub returns : goal.returns
returns c =
    let first_is = c.next_register-first.ensures in
    let end_is = c.next_register-end.ensures in
    on_ok_weaker {P = c.give_row.new.b ≡ with_row_given c.gather.new.b c.next_register-first.result (c.next_register-end.result - c.next_register-first.result) c.args.causes c.args.next} c.give_row.result (λ is. record {
      filled = c.emit_results.new.b;
      gathered = c.gather.new.b;
      fills = c.in_ok-emit_results.ensures.fills;
      gathers = rw (first_is, end_is) at c.in_ok-gather.ensures.gathers;
      cursors = c.in_ok-gather.ensures.cursors ∙ c.in_ok-emit_results.ensures.cursors;
      units = c.in_ok-gather.ensures.units ∙ c.in_ok-emit_results.ensures.units;
      is = rw (first_is, end_is) at is;
    }) c.give_row.ensures
