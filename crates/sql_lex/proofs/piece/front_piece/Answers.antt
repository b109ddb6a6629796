use Rattle.std.proofs.Common.{◌≤◌, length, sym, subst}
use Rattle.sql_lex.specs.declared.piece.Piece.{Piece}
use Rattle.sql_lex.specs.Tokens.{width_of}
use Rattle.sql_lex.proofs.Cuts.{piece_fits}
use Rattle.sql_lex.proofs.piece.front_piece.Goals as goal

pub returns-clause-some : goal.returns-clause-some
returns-clause-some c =
    let P : Piece → Type 0 = λ p. 1 ≤ width_of p in
    subst P (sym c.by_first.ensures) (piece_fits c.args.first c.args.rest.now).some

pub returns-clause-within : goal.returns-clause-within
returns-clause-within c =
    let P : Piece → Type 0 = λ p. width_of p ≤ length c.args.text.now in
    let fits = (piece_fits c.args.first c.args.rest.now).within in
    subst P (sym c.by_first.ensures) (rw c.requires fits)
