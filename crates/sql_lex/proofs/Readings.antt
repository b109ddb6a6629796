-- Reading a statement piece by piece.
use Rattle.std.proofs.Common.{◌≡◌, ℕ, suc, zero, ◌+◌, ◌<◌, ◌≤◌, Bool, true, false, cond, ◌&&◌, List, [], ◌∷◌, length, length-drop, get_or, drop, Option, Some, if◌then◌else◌, refl, sym, ap, ◌∙◌, arith}
use Rattle.std.proofs.lemmas.List.{get_or-drop}
use Rattle.sql_tree.specs.Kinds.{same_kind}
use Rattle.sql_tree.specs.declared.token.Token.{Token}
use Rattle.sql_tree.specs.declared.token.TokenKind.TheVariants as kind
use Rattle.sql_lex.specs.declared.piece.Piece.{Piece}
use Rattle.sql_lex.specs.declared.piece.Piece.TheVariants.{Blank, Lexeme, Parameter}
use Rattle.sql_lex.specs.declared.reading.Reading.{Reading}
use Rattle.sql_lex.specs.declared.reading.Reading.TheVariants as reading
use Rattle.sql_lex.specs.Cutting.{statement_end}
use Rattle.sql_lex.specs.Pieces.{piece, is_parameter}
use Rattle.sql_lex.specs.Reading.{after, behind_piece, ends_at_semicolon, is_end}
use Rattle.sql_lex.specs.Tokens.{in_front, largest_in, lexed, number_behind, plain, token_in, tokens_of, width_of}
use Rattle.sql_lex.proofs.Cuts.{piece_fits}
use Rattle.sql_lex.specs.Plain.{end_at, end_from}
use Rattle.sql_lex.proofs.Endings.{end_is}
use Rattle.sql_lex.proofs.Following.{lexed_more}
use Rattle.sql_lex.proofs.Semicolons.{is_semicolon, semicolon_begins}

-- a parameter, and what stands in no statement, are read alike
illegal_alike : (read : Reading) → after read kind.Illegal ≡ after read kind.Parameter
illegal_alike reading.Start = refl
illegal_alike reading.Explain = refl
illegal_alike reading.Query = refl
illegal_alike reading.Plan = refl
illegal_alike reading.Create = refl
illegal_alike reading.Other = refl
illegal_alike reading.Body = refl
illegal_alike reading.Semicolon = refl
illegal_alike reading.End = refl

-- the token of a piece, if it has one, and those behind it
one_piece : (read : Reading) (from largest : ℕ) (p : Piece) (tokens : List Token) → end_from read (in_front (token_in from largest p) tokens) ≡ (if is_end read p then Some from else end_from (behind_piece read p) tokens)
one_piece read from largest (Blank width) tokens = refl
one_piece read from largest (Lexeme k width) tokens = refl
one_piece read from largest (Parameter number width) tokens = by (is_parameter (number_behind largest number))
  where
    by : (t : Bool) → end_from read (cond t (record { kind = kind.Parameter; span = record { start = from; end = from + width }; parameter = Some (number_behind largest number) }) (plain kind.Illegal from width) ∷ tokens) ≡ end_from (after read kind.Parameter) tokens
    by true = refl
    by false = ap (λ r. end_from r tokens) (illegal_alike read)

-- the first piece, whatever the largest number of a parameter in front of it
piece_more : (read : Reading) (from largest b : ℕ) (bytes : List ℕ) (p : Piece) → p ≡ piece b bytes → 1 ≤ width_of p → end_from read (lexed from largest 0 (b ∷ bytes)) ≡ (if is_end read p then Some from else end_from (behind_piece read p) (lexed (from + width_of p) (largest_in largest p) 0 (drop (width_of p) (b ∷ bytes))))
piece_more read from largest b bytes p e one =
    ap (end_from read) (lexed_more from largest b bytes p e one)
    ∙ one_piece read from largest p (lexed (from + width_of p) (largest_in largest p) 0 (drop (width_of p) (b ∷ bytes)))

same_end : (most from largest other : ℕ) (bytes : List ℕ) (read : Reading) → length bytes ≤ most → end_from read (lexed from largest 0 bytes) ≡ end_from read (lexed from other 0 bytes)
same_end most from largest other [] read le = refl
same_end zero from largest other (b ∷ bytes) read le = absurd (omega arith)
same_end (suc most) from largest other (b ∷ bytes) read le =
    let p = piece b bytes in
    let fits = piece_fits b bytes in
    let less : length (drop (width_of p) (b ∷ bytes)) ≤ most = omega (arith, length-drop (width_of p) (b ∷ bytes), fits.some) in
    piece_more read from largest b bytes p refl fits.some
    ∙ ap (λ o. cond (is_end read p) (Some from) o) (same_end most (from + width_of p) (largest_in largest p) (largest_in other p) (drop (width_of p) (b ∷ bytes)) (behind_piece read p) less)
    ∙ sym (piece_more read from other b bytes p refl fits.some)

pub end_at_start : (text : List ℕ) → end_at reading.Start 0 text ≡ statement_end text
unfolding statement_end tokens_of
end_at_start text = sym (end_is (lexed 0 0 0 text))

pub end_at_more : (read : Reading) (from b : ℕ) (bytes : List ℕ) (p : Piece) → p ≡ piece b bytes → 1 ≤ width_of p → end_at read from (b ∷ bytes) ≡ (if is_end read p then Some from else end_at (behind_piece read p) (from + width_of p) (drop (width_of p) (b ∷ bytes)))
end_at_more read from b bytes p e one =
    let rest : List ℕ = drop (width_of p) (b ∷ bytes) in
    piece_more read from 0 b bytes p e one
    ∙ ap (λ o. cond (is_end read p) (Some from) o) (same_end (length rest) (from + width_of p) (largest_in 0 p) 0 rest (behind_piece read p) (omega arith))

-- the loop, one piece further
pub goes_on : (read : Reading) (from b : ℕ) (bytes text : List ℕ) (p : Piece) (all : Option ℕ) → text ≡ b ∷ bytes → p ≡ piece b bytes → 1 ≤ width_of p → is_end read p ≡ false → end_at read from text ≡ all
    → end_at (behind_piece read p) (from + width_of p) (drop (width_of p) text) ≡ all
goes_on read from b bytes text p all is e one no_end h =
    ap (λ xs. end_at (behind_piece read p) (from + width_of p) (drop (width_of p) xs)) is
    ∙ sym (end_at_more read from b bytes p e one ∙ ap (λ t. cond t (Some from) (end_at (behind_piece read p) (from + width_of p) (drop (width_of p) (b ∷ bytes)))) no_end)
    ∙ ap (end_at read from) (sym is) ∙ h

-- the loop, at the end
pub ends_there : (read : Reading) (from b : ℕ) (bytes text : List ℕ) (p : Piece) (all : Option ℕ) → text ≡ b ∷ bytes → p ≡ piece b bytes → 1 ≤ width_of p → is_end read p ≡ true → end_at read from text ≡ all → Some from ≡ all
ends_there read from b bytes text p all is e one end h =
    sym (end_at_more read from b bytes p e one ∙ ap (λ t. cond t (Some from) (end_at (behind_piece read p) (from + width_of p) (drop (width_of p) (b ∷ bytes)))) end)
    ∙ ap (end_at read from) (sym is) ∙ h

and_left : (s t : Bool) → (s && t) ≡ true → s ≡ true
and_left true t h = refl
and_left false t h = absurd (cc)

end_semicolon : (read : Reading) (p : Piece) → is_end read p ≡ true → is_semicolon p ≡ true
end_semicolon read (Blank width) h = h
end_semicolon read (Lexeme k width) h = and_left (same_kind k kind.Semicolon) (ends_at_semicolon read) h
end_semicolon read (Parameter number width) h = h

pub end_byte : (read : Reading) (b : ℕ) (bytes : List ℕ) (p : Piece) → p ≡ piece b bytes → is_end read p ≡ true → b ≡ 59
end_byte read b bytes p e h = semicolon_begins b bytes (ap is_semicolon (sym e) ∙ end_semicolon read p h)

-- the byte at a place, by what is there
pub byte_at : (text : List ℕ) (from b : ℕ) (bytes : List ℕ) → drop from text ≡ b ∷ bytes → (from < length text) × (get_or text from 0 ≡ b)
byte_at text from b bytes at =
    let one : length (drop from text) ≡ suc (length bytes) = ap length at in
    let zero_more : from + 0 ≡ from = omega arith in
    (omega (arith, length-drop from text), ap (λ n. get_or text n 0) (sym zero_more) ∙ sym (get_or-drop from text 0 0) ∙ ap (λ xs. get_or xs 0 0) at)

-- the byte where the statement ends
pub semicolon_at : (text : List ℕ) (read : Reading) (from b : ℕ) (bytes xs : List ℕ) (p : Piece) → drop from text ≡ xs → xs ≡ b ∷ bytes → p ≡ piece b bytes → is_end read p ≡ true → (from < length text) × (get_or text from 0 ≡ 59)
semicolon_at text read from b bytes xs p at is e end =
    let byte = byte_at text from b bytes (at ∙ is) in
    (byte.0, byte.1 ∙ end_byte read b bytes p e end)
