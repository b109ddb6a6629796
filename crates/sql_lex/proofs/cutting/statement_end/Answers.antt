use Rattle.std.proofs.Common.{length, length-drop, drop, sym, ap, ◌∙◌, arith}
use Rattle.std.proofs.lemmas.List.{drop-drop}
use Rattle.std.proofs.lemmas.Str.{IsCharBoundary-after_ascii, IsCharBoundary-before_ascii}
use Rattle.sql_lex.specs.Plain.{end_at}
use Rattle.sql_lex.proofs.Readings.{end_at_start, ends_there, goes_on}
use Rattle.sql_lex.proofs.Skipping.{ended_at, ended_behind}
use Rattle.sql_lex.proofs.cutting.statement_end.Goals as goal

pub loop-first-init : goal.loop-first-init
loop-first-init c = record {
  end = rw c.as_bytes-rest.ensures.value (end_at_start c.args.text.now);
  place = omega (arith, ap length c.as_bytes-rest.ensures.value);
  rest = sym c.as_bytes-rest.ensures.value;
}

pub loop-first-preserved : goal.loop-first-preserved
loop-first-preserved c =
    let read = c.loop-first.reading in
    let start = c.loop-first.start in
    let rest = c.loop-first.rest.now in
    let p = c.front_piece-piece.result in record {
      end =
          rw (c.behind-rest.ensures, c.width_of.ensures, c.width_of-start.ensures, c.behind_piece-reading.ensures)
          (goes_on read start c.in-Some.first c.in-Some.more.now rest p _ c.in-Some.ensures c.front_piece-piece.ensures.value c.front_piece-piece.ensures.some
          (sym c.is_end.ensures ∙ c.if-is_end.false)
          c.loop-first.invariant.end);
      place =
          omega (arith, ap length c.behind-rest.ensures, length-drop c.width_of.result rest, c.width_of.ensures, c.width_of-start.ensures, c.front_piece-piece.ensures.within, c.loop-first.invariant.place);
      rest =
          rw (c.behind-rest.ensures, c.width_of.ensures, c.width_of-start.ensures)
          (sym (drop-drop _ start c.args.text.now) ∙ ap (drop _) c.loop-first.invariant.rest);
    }

pub returns-then-is_end-clause-end : goal.returns-then-is_end-clause-end
returns-then-is_end-clause-end c =
    ends_there c.loop-first.reading c.loop-first.start c.in-Some.first c.in-Some.more.now _ c.front_piece-piece.result _ c.in-Some.ensures c.front_piece-piece.ensures.value c.front_piece-piece.ensures.some (sym c.is_end.ensures ∙ c.if-is_end.true) c.loop-first.invariant.end

pub returns-then-is_end-clause-semicolon : goal.returns-then-is_end-clause-semicolon
returns-then-is_end-clause-semicolon c = (ended_at c.args.text.now c.loop-first.start (sym (returns-then-is_end-clause-end c))).1

pub returns-then-is_end-clause-front : goal.returns-then-is_end-clause-front
returns-then-is_end-clause-front c =
    let byte = ended_at c.args.text.now c.loop-first.start (sym (returns-then-is_end-clause-end c)) in
    IsCharBoundary-before_ascii c.args.text.now c.loop-first.start byte.0 (omega (arith, byte.1))

pub returns-then-is_end-clause-back : goal.returns-then-is_end-clause-back
returns-then-is_end-clause-back c =
    let byte = ended_at c.args.text.now c.loop-first.start (sym (returns-then-is_end-clause-end c)) in
    IsCharBoundary-after_ascii c.args.text.now c.loop-first.start c.utf8.text byte.0 (omega (arith, byte.1))

pub returns-in-Other-clause-end : goal.returns-in-Other-clause-end
returns-in-Other-clause-end c = c.plain_end.ensures ∙ sym (ap (λ r. end_at r c.loop-first.start c.loop-first.rest.now) c.in-Other.is) ∙ c.loop-first.invariant.end

pub returns-in-Other-clause-within : goal.returns-in-Other-clause-within
returns-in-Other-clause-within c = (ended_behind c.args.text.now c.plain_end.result c.utf8.text (returns-in-Other-clause-end c)).0

pub returns-in-Other-clause-semicolon : goal.returns-in-Other-clause-semicolon
returns-in-Other-clause-semicolon c = (ended_behind c.args.text.now c.plain_end.result c.utf8.text (returns-in-Other-clause-end c)).1

pub returns-in-Other-clause-front : goal.returns-in-Other-clause-front
returns-in-Other-clause-front c = (ended_behind c.args.text.now c.plain_end.result c.utf8.text (returns-in-Other-clause-end c)).2

pub returns-in-Other-clause-back : goal.returns-in-Other-clause-back
returns-in-Other-clause-back c = (ended_behind c.args.text.now c.plain_end.result c.utf8.text (returns-in-Other-clause-end c)).3
