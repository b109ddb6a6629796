use Rattle.std.proofs.Common.{◌≡◌, ℕ, List, ◌∷◌, IsUtf8, IsCharBoundary, refl, sym, ◌∙◌, subst}
use Rattle.std.proofs.lemmas.Str.{IsCharBoundary-start}
use Rattle.sql_lex.specs.declared.piece.Piece.{Piece}
use Rattle.sql_lex.specs.declared.piece.Piece.TheVariants.{Blank, Lexeme, Parameter}
use Rattle.sql_lex.specs.Cutting.{blank_of}
use Rattle.sql_lex.specs.Pieces.{piece}
use Rattle.sql_lex.specs.Tokens.{width_of}
use Rattle.sql_lex.proofs.Cuts.{Fits, piece_fits}
use Rattle.sql_lex.proofs.Following.{boundary}
use Rattle.sql_lex.proofs.cutting.blank_width.Goals as goal

blank_boundary : (xs : List ℕ) (p : Piece) → IsUtf8 xs → Fits xs (width_of p) → IsCharBoundary xs (blank_of p)
blank_boundary xs (Blank width) utf8 fits = boundary xs width utf8 fits
blank_boundary xs (Lexeme k width) utf8 fits = IsCharBoundary-start xs utf8
blank_boundary xs (Parameter number width) utf8 fits = IsCharBoundary-start xs utf8

front_boundary : (xs bytes : List ℕ) (b width : ℕ) (p : Piece) → IsUtf8 xs → xs ≡ b ∷ bytes → p ≡ piece b bytes → width ≡ blank_of p → IsCharBoundary xs width
front_boundary xs bytes b width p utf8 is e w =
    let fits : Fits (b ∷ bytes) (width_of p) = subst (λ (p : Piece). Fits (b ∷ bytes) (width_of p)) (sym e) (piece_fits b bytes) in
    subst (λ (n : ℕ). IsCharBoundary xs n) (sym w) (blank_boundary xs p utf8 (subst (λ (ys : List ℕ). Fits ys (width_of p)) (sym is) fits))

pub returns-in-Some-clause-back : goal.returns-in-Some-clause-back
returns-in-Some-clause-back c =
    front_boundary c.args.text.now c.in-Some.rest.now c.in-Some.first c.blank_in_front.result _ c.utf8.text (sym c.as_bytes-bytes.ensures.value ∙ c.in-Some.ensures) refl c.blank_in_front.ensures.value
