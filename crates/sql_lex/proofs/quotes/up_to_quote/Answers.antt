use Rattle.std.proofs.Common.{◌+◌, ◌≤◌, length, length-drop, drop, sym, ap, ◌∙◌, arith}
use Rattle.sql_lex.specs.Pieces.{begins_with, up_to_quote}
use Rattle.sql_lex.specs.Widths.{further}
use Rattle.sql_lex.proofs.Widths.{further_twice, quote_other, quote_twice, begins_has}
use Rattle.sql_lex.proofs.quotes.up_to_quote.Goals as goal

pub loop-width-preserved-then-bytes-width : goal.loop-width-preserved-then-bytes-width
loop-width-preserved-then-bytes-width c =
    let bytes = c.args.bytes.now in
    let width = c.loop-width.width in record {
      value =
          sym (further_twice width 1 (up_to_quote c.args.quote (drop (width + 1) bytes)))
          ∙ ap (further width) (sym (quote_other c.args.quote bytes width c.loop-width-test.true c.if-bytes-width.true))
          ∙ c.loop-width.invariant.value;
      within = omega arith;
    }

pub loop-width-preserved : goal.loop-width-preserved
loop-width-preserved c =
    let bytes = c.args.bytes.now in
    let width = c.loop-width.width in
    let again = sym (ap (begins_with c.args.quote) c.behind.ensures) ∙ sym c.begins_with.ensures ∙ c.if-begins_with.true in
    let more : 1 ≤ length (drop (width + 1) bytes) = begins_has c.args.quote (drop (width + 1) bytes) again in record {
      value =
          sym (further_twice width 2 (up_to_quote c.args.quote (drop (width + 2) bytes)))
          ∙ ap (further width) (sym (quote_twice c.args.quote bytes width c.loop-width-test.true c.if-bytes-width.false again))
          ∙ c.loop-width.invariant.value;
      within = omega (arith, length-drop (width + 1) bytes);
    }
