use Rattle.std.proofs.Common.{List, length, length-drop, refl, sym, ap, subst, arith}
use Rattle.sql_tree.specs.declared.token.Token.{Token}
use Rattle.std.specs.List.{All}
use Rattle.sql_lex.specs.Tokens.{InOrder, tokens_of}
use Rattle.sql_lex.proofs.Following.{IsCut, loop_more, none_left, tokens_cut, tokens_in_order}
use Rattle.sql_lex.proofs.lexer.tokens.Goals as goal

pub loop-first-init : goal.loop-first-init
unfolding tokens_of
loop-first-init c = record {
  tokens = rw (c.in_ok-tokens.ensures.items, c.as_bytes-rest.ensures.value) refl;
  place = omega (arith, ap length c.as_bytes-rest.ensures.value);
  largest = omega arith;
}

pub loop-first-preserved : goal.loop-first-preserved
loop-first-preserved c =
    let items = c.loop-first.tokens.items in
    let start = c.loop-first.start in
    let text = c.loop-first.rest.now in
    let p = c.front_piece-piece.result in record {
      tokens =
          rw (c.behind-rest.ensures, c.width_of.ensures, c.width_of-start.ensures, c.largest_in-largest.ensures.value)
          (loop_more items _ _ start c.loop-first.largest c.in-Some.first c.in-Some.more.now text p c.in-Some.ensures c.front_piece-piece.ensures.value c.front_piece-piece.ensures.some
          (rw (← c.token_in.ensures) c.in_ok-put.ensures)
          c.loop-first.invariant.tokens);
      place =
          omega (arith, ap length c.behind-rest.ensures, length-drop c.width_of.result text, c.width_of.ensures, c.width_of-start.ensures, c.front_piece-piece.ensures.within, c.loop-first.invariant.place);
      largest = c.largest_in-largest.ensures.small;
    }

pub returns-clause-order : goal.returns-clause-order
returns-clause-order c =
    let same = none_left c.loop-first.tokens.items _ c.loop-first.start c.loop-first.largest c.loop-first.rest.now c.in_default.ensures c.loop-first.invariant.tokens in
    subst (λ (ts : List Token). InOrder 0 (length c.args.text.now) ts) (sym same) (tokens_in_order c.args.text.now)

pub returns-clause-characters : goal.returns-clause-characters
returns-clause-characters c =
    let same = none_left c.loop-first.tokens.items _ c.loop-first.start c.loop-first.largest c.loop-first.rest.now c.in_default.ensures c.loop-first.invariant.tokens in
    subst (λ (ts : List Token). All (IsCut c.args.text.now) ts) (sym same) (tokens_cut c.args.text.now c.utf8.text)
