-- Signs of two bytes come before signs of one.
use Rattle.std.proofs.Common.{◌≡◌, ℕ, Bool, true, false, cond, ◌&&◌, ◌==◌, List, Option, Some, None, refl, sym, ap, ◌∙◌}
use Rattle.sql_tree.specs.declared.token.TokenKind.{TokenKind}
use Rattle.sql_lex.specs.declared.piece.Piece.{Piece}
use Rattle.sql_lex.specs.declared.piece.Piece.TheVariants.{Lexeme}
use Rattle.sql_lex.specs.Pieces.{begins_with, sign_piece}
use Rattle.sql_lex.specs.Signs.{double_kind, single_kind}

abbrev pub sign_of : Option TokenKind → TokenKind → Piece
sign_of (Some k) single = Lexeme k 2
sign_of None single = Lexeme single 1

two : (test : Bool) (k : TokenKind) (rest : Piece) (o : Option TokenKind) (single : TokenKind) → rest ≡ sign_of o single → cond test (Lexeme k 2) rest ≡ sign_of (cond test (Some k) o) single
two true k rest o single e = refl
two false k rest o single e = e

one : (test : Bool) (k other : TokenKind) (rest : Piece) → rest ≡ Lexeme other 1 → cond test (Lexeme k 1) rest ≡ Lexeme (cond test k other) 1
one true k other rest e = refl
one false k other rest e = e

pub sign_is : (b : ℕ) (bytes : List ℕ) → sign_piece b bytes ≡ sign_of (double_kind b bytes) (single_kind b)
sign_is b bytes =
    two (b == 124 && begins_with 124 bytes) _ _ _ _ (two (b == 60 && begins_with 60 bytes) _ _ _ _ (two (b == 62 && begins_with 62 bytes) _ _ _ _ (
    two (b == 60 && begins_with 61 bytes) _ _ _ _ (two (b == 62 && begins_with 61 bytes) _ _ _ _ (two (b == 61 && begins_with 61 bytes) _ _ _ _ (
    two (b == 60 && begins_with 62 bytes) _ _ _ _ (two (b == 33 && begins_with 61 bytes) _ _ _ _ (
    one (b == 40) _ _ _ (one (b == 41) _ _ _ (one (b == 44) _ _ _ (one (b == 59) _ _ _ (
    one (b == 46) _ _ _ (one (b == 42) _ _ _ (one (b == 43) _ _ _ (one (b == 45) _ _ _ (
    one (b == 47) _ _ _ (one (b == 37) _ _ _ (one (b == 38) _ _ _ (one (b == 124) _ _ _ (
    one (b == 126) _ _ _ (one (b == 60) _ _ _ (one (b == 62) _ _ _ (one (b == 61) _ _ _ refl)))))))))))))))))))))))

pub sign_double : (b : ℕ) (bytes : List ℕ) (o : Option TokenKind) (k : TokenKind) → o ≡ double_kind b bytes → o ≡ Some k → Lexeme k 2 ≡ sign_piece b bytes
sign_double b bytes o k e is = sym (sign_is b bytes ∙ ap (λ two. sign_of two (single_kind b)) (sym e ∙ is))
