use Rattle.std.proofs.Common.{◌≡◌, ◌+◌, length, length-drop, drop, ap, ◌∙◌, arith}
use Rattle.sql_lex.specs.Plain.{plain_end}
use Rattle.sql_lex.proofs.Skipping.{piece_behind, plain_behind}
use Rattle.sql_lex.proofs.cutting.plain_end.Goals as goal

pub loop-first-init : goal.loop-first-init
loop-first-init c = record {
  end = plain_behind c.plain_width-width.result c.args.from c.args.text.now c.behind-rest.result.now c.plain_width-width.ensures.value c.behind-rest.ensures;
  place = omega (arith, ap length c.behind-rest.ensures, length-drop c.plain_width-width.result c.args.text.now, c.plain_width-width.ensures.within);
}

pub loop-first-preserved : goal.loop-first-preserved
loop-first-preserved c =
    let start = c.loop-first.start in
    let text = c.loop-first.rest.now in
    let w = c.width_of-width.result in
    let n = c.plain_width-plain.result in
    let next = c.behind-next.result.now in
    let sum : start + (w + n) ≡ start + w + n = omega arith in record {
      end =
          ap (λ k. plain_end k c.behind-rest-in-Some.result.now) sum
          ∙ plain_behind n (start + w) next c.behind-rest-in-Some.result.now c.plain_width-plain.ensures.value c.behind-rest-in-Some.ensures
          ∙ ap (λ k. plain_end (start + k) next) c.width_of-width.ensures
          ∙ piece_behind c.in-Some.first start c.in-Some.more.now text next c.front_piece.result _ c.in-Some.ensures c.front_piece.ensures.value c.if-first-eq59.false (c.behind-next.ensures ∙ ap (λ k. drop k text) c.width_of-width.ensures) c.loop-first.invariant.end;
      place =
          omega (arith, ap length c.behind-next.ensures, length-drop w text, c.width_of-width.ensures, c.front_piece.ensures.within, ap length c.behind-rest-in-Some.ensures, length-drop n next, c.plain_width-plain.ensures.within, c.loop-first.invariant.place);
    }
