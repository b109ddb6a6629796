-- A piece that is a `;` begins with that byte.
use Rattle.std.proofs.Common.{◌≡◌, ℕ, suc, ◌-◌, Bool, true, false, cond, not, ◌&&◌, ◌==◌, List, [], ◌∷◌, length, take, drop, Option, Some, None, refl, sym, ◌∙◌, arith}
use Rattle.std.specs.Prelude.{nat_eq, nat_le, ◌%◌}
use Rattle.std.specs.Char.{is_ascii_digit, is_ascii_hexdigit}
use Rattle.std.specs.List.{take_while, list_all}
use Rattle.std.specs.Str.{str_eq_ignore_ascii_case}
use Rattle.std.specs.Str.Parse.{digits_value}
use Rattle.std.proofs.lemmas.Bool.Decides.{nat_tests}
use Rattle.sql_tree.specs.Kinds.{same_kind}
use Rattle.sql_tree.specs.declared.token.TokenKind.{TokenKind}
use Rattle.sql_tree.specs.declared.token.TokenKind.TheVariants as kind
use Rattle.sql_lex.specs.declared.keywords.TheConstants.{KEYWORDS}
use Rattle.sql_lex.specs.declared.piece.Piece.{Piece}
use Rattle.sql_lex.specs.declared.piece.Piece.TheVariants.{Blank, Lexeme, Parameter}
use Rattle.sql_lex.specs.Pieces.{begins_with, begins_word, blob_up_to, closed, hex_digits, is_parameter, is_space, is_x, kind_where, number_by_digits, number_of_width, parameter_piece, piece, sign_piece, up_to, up_to_quote, without_zeros, word_kind, word_width}

abbrev pub is_semicolon : Piece → Bool
is_semicolon (Blank width) = false
is_semicolon (Lexeme k width) = same_kind k kind.Semicolon
is_semicolon (Parameter number width) = false

abbrev IsNone : Piece → Type 0
IsNone p = is_semicolon p ≡ false

abbrev Begins : ℕ → Piece → Type 0
Begins b p = is_semicolon p ≡ true → b ≡ 59

false_true : {X : Type 0} → false ≡ true → X
false_true e = absurd (cc)

from_none : (b : ℕ) (p : Piece) → IsNone p → Begins b p
from_none b p none is = false_true (sym none ∙ is)

whichever : (P : Piece → Type 0) (t : Bool) (x y : Piece) → P x → P y → P (cond t x y)
whichever P true x y f g = f
whichever P false x y f g = g

-- ---- what is no `;`

no_word : {K : Type 0} (is_word : K → Bool) (kind_of : K → TokenKind) (ks : List K) → list_all (λ k. not (same_kind (kind_of k) kind.Semicolon)) ks ≡ true → same_kind (kind_where is_word kind_of ks) kind.Semicolon ≡ false
no_word is_word kind_of [] all = refl
no_word is_word kind_of (k ∷ ks) all = by (is_word k) (same_kind (kind_of k) kind.Semicolon) refl all (no_word is_word kind_of ks)
  where
    by : (t u : Bool) → same_kind (kind_of k) kind.Semicolon ≡ u → (not u && list_all (λ k. not (same_kind (kind_of k) kind.Semicolon)) ks) ≡ true → (list_all (λ k. not (same_kind (kind_of k) kind.Semicolon)) ks ≡ true → same_kind (kind_where is_word kind_of ks) kind.Semicolon ≡ false) → same_kind (cond t (kind_of k) (kind_where is_word kind_of ks)) kind.Semicolon ≡ false
    by true true e all h = false_true all
    by true false e all h = e
    by false true e all h = false_true all
    by false false e all h = h all

pub word_none : (word : List ℕ) → same_kind (word_kind word) kind.Semicolon ≡ false
unfolding word_kind
word_none word = no_word (λ k. str_eq_ignore_ascii_case k.0.now word) (λ k. k.1) KEYWORDS refl

closed_none : (k : TokenKind) (o : Option ℕ) (bytes : List ℕ) → same_kind k kind.Semicolon ≡ false → IsNone (closed k 1 o bytes)
closed_none k None bytes h = refl
closed_none k (Some width) bytes h = h

blob_none : (o : Option ℕ) (bytes : List ℕ) → IsNone (blob_up_to o bytes)
blob_none None bytes = refl
blob_none (Some width) bytes = by (list_all is_ascii_hexdigit (take (width - 1) bytes) && nat_eq (length (take (width - 1) bytes) % 2) 0)
  where
    by : (t : Bool) → same_kind (cond t kind.Blob kind.Illegal) kind.Semicolon ≡ false
    by true = refl
    by false = refl

width_none : (width : ℕ) (bytes : List ℕ) → IsNone (number_of_width width bytes)
width_none width bytes = whichever IsNone (nat_eq (word_width (drop width bytes)) 0) _ _ refl refl

number_none : (digits bytes : List ℕ) → IsNone (number_by_digits digits bytes)
number_none [] bytes = width_none _ bytes
number_none (d ∷ ds) bytes = whichever IsNone (nat_le (length (without_zeros (d ∷ ds))) 16) _ _ (width_none _ bytes) refl

parameter_none : (digits : List ℕ) → IsNone (parameter_piece digits)
parameter_none [] = refl
parameter_none (d ∷ ds) = whichever IsNone (is_parameter (digits_value 10 (d ∷ ds))) (Parameter (Some (digits_value 10 (d ∷ ds))) (suc (length (d ∷ ds)))) (Lexeme kind.Illegal (suc (length (d ∷ ds)))) refl refl

-- ---- signs

-- one more test in front of the others
skipped : (b : ℕ) (t : Bool) (k : TokenKind) (width : ℕ) (rest : Piece) → same_kind k kind.Semicolon ≡ false → Begins b rest → Begins b (cond t (Lexeme k width) rest)
skipped b true k width rest none h is = false_true (sym none ∙ is)
skipped b false k width rest none h is = h is

found : (b : ℕ) (rest : Piece) → Begins b rest → Begins b (cond (b == 59) (Lexeme kind.Semicolon 1) rest)
found b rest h = by (b == 59) refl
  where
    by : (t : Bool) → (b == 59) ≡ t → Begins b (cond t (Lexeme kind.Semicolon 1) rest)
    by true e is = grind (arith, nat_tests)
    by false e is = h is

sign_begins : (b : ℕ) (bytes : List ℕ) → Begins b (sign_piece b bytes)
sign_begins b bytes =
    skipped b (b == 124 && begins_with 124 bytes) _ _ _ refl (skipped b (b == 60 && begins_with 60 bytes) _ _ _ refl (
    skipped b (b == 62 && begins_with 62 bytes) _ _ _ refl (skipped b (b == 60 && begins_with 61 bytes) _ _ _ refl (
    skipped b (b == 62 && begins_with 61 bytes) _ _ _ refl (skipped b (b == 61 && begins_with 61 bytes) _ _ _ refl (
    skipped b (b == 60 && begins_with 62 bytes) _ _ _ refl (skipped b (b == 33 && begins_with 61 bytes) _ _ _ refl (
    skipped b (b == 40) _ _ _ refl (skipped b (b == 41) _ _ _ refl (skipped b (b == 44) _ _ _ refl (found b _ (
    skipped b (b == 46) _ _ _ refl (skipped b (b == 42) _ _ _ refl (skipped b (b == 43) _ _ _ refl (
    skipped b (b == 45) _ _ _ refl (skipped b (b == 47) _ _ _ refl (skipped b (b == 37) _ _ _ refl (
    skipped b (b == 38) _ _ _ refl (skipped b (b == 124) _ _ _ refl (skipped b (b == 126) _ _ _ refl (
    skipped b (b == 60) _ _ _ refl (skipped b (b == 62) _ _ _ refl (skipped b (b == 61) _ _ _ refl (from_none b (Lexeme kind.Illegal 1) refl))))))))))))))))))))))))

-- ---- each piece

either : (b : ℕ) (t : Bool) (x y : Piece) → IsNone x → Begins b y → Begins b (cond t x y)
either b true x y none h = from_none b x none
either b false x y none h = h

pub semicolon_begins : (b : ℕ) (bytes : List ℕ) → is_semicolon (piece b bytes) ≡ true → b ≡ 59
semicolon_begins b bytes =
    either b (is_space b) _ _ refl (
    either b (b == 45 && begins_with 45 bytes) _ _ refl (
    either b (b == 47 && begins_with 42 bytes) _ _ refl (
    either b (b == 39) _ _ (closed_none kind.Text (up_to_quote 39 bytes) bytes refl) (
    either b (b == 34) _ _ (closed_none kind.QuotedName (up_to_quote 34 bytes) bytes refl) (
    either b (b == 96) _ _ (closed_none kind.QuotedName (up_to_quote 96 bytes) bytes refl) (
    either b (b == 91) _ _ (closed_none kind.QuotedName (up_to 93 bytes) bytes refl) (
    either b (is_x b && begins_with 39 bytes) _ _ (blob_none (up_to 39 (drop 1 bytes)) (drop 1 bytes)) (
    either b (begins_word b) _ _ (word_none _) (
    either b (is_ascii_digit b) _ _ (number_none (hex_digits (b ∷ bytes)) (b ∷ bytes)) (
    either b (b == 63) _ _ (parameter_none (take_while is_ascii_digit bytes)) (sign_begins b bytes)))))))))))
