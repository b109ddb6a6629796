-- A text that is cut behind one of its tokens has the tokens up to this one.
use Rattle.std.proofs.Common.{◌≡◌, ◌<◌, ◌≤◌, ℕ, zero, suc, ◌+◌, ◌-◌, List, [], ◌∷◌, ◌++◌, length, length-drop, take, drop, Option, Some, None, IfSome, refl, sym, ap, subst, ◌∙◌, arith}
use Rattle.std.proofs.lemmas.List.{drop-take}
use Rattle.sql_tree.specs.declared.token.Token.{Token}
use Rattle.sql_lex.specs.declared.piece.Piece.{Piece}
use Rattle.sql_lex.specs.Pieces.{piece}
use Rattle.sql_lex.specs.Tokens.{in_front, largest_in, lexed, token_in, tokens_of, width_of}
use Rattle.sql_lex.proofs.Cuts.{piece_fits}
use Rattle.sql_lex.proofs.Following.{IsAt, lexed_more, token_at}
use Rattle.sql_lex.proofs.Taking.{piece_taken}

-- the token ends behind the byte from which it is read, and up to its end the same is read
record IsCut (from largest : ℕ) (bytes : List ℕ) (front : List Token) (t : Token) : Type 0 where
  behind : from < t.span.end
  same : lexed from largest 0 (take (t.span.end - from) bytes) ≡ front ++ t ∷ []

none_read : (front behind : List Token) (t : Token) {X : Type 0} → [] ≡ front ++ t ∷ behind → X
none_read [] behind t h = cc
none_read (f ∷ front) behind t h = cc

-- a piece stays where the text is cut behind it
piece_kept : (from largest b m : ℕ) (bytes : List ℕ) (p : Piece) → p ≡ piece b bytes → width_of p ≤ m
    → lexed from largest 0 (take m (b ∷ bytes)) ≡ in_front (token_in from largest p) (lexed (from + width_of p) (largest_in largest p) 0 (take (m - width_of p) (drop (width_of p) (b ∷ bytes))))
piece_kept from largest b zero bytes p is le = let some = subst (λ q. 1 ≤ width_of q) (sym is) (piece_fits b bytes).some in absurd (omega (arith, some, le))
piece_kept from largest b (suc m) bytes p is le =
    let some = subst (λ q. 1 ≤ width_of q) (sym is) (piece_fits b bytes).some in
    let kept : p ≡ piece b (take m bytes) = is ∙ sym (piece_taken m b bytes (subst (λ q. width_of q ≤ suc m) is le)) in
    let many : suc m ≡ width_of p + (suc m - width_of p) = omega (arith, le) in
    lexed_more from largest b (take m bytes) p kept some
    ∙ ap (λ xs. in_front (token_in from largest p) (lexed (from + width_of p) (largest_in largest p) 0 xs))
    (ap (λ n. drop (width_of p) (take n (b ∷ bytes))) many ∙ drop-take (width_of p) (suc m - width_of p) (b ∷ bytes))

module _ (from largest b : ℕ) (bytes : List ℕ) where
  abbrev first : Piece
  first = piece b bytes

  abbrev next : ℕ
  next = from + width_of first

  abbrev further : List ℕ
  further = drop (width_of first) (b ∷ bytes)

  abbrev read : List ℕ → List Token
  read xs = lexed next (largest_in largest first) 0 xs

  -- cut behind a token that ends no earlier than the first piece
  cut_later : (e : ℕ) (o : Option Token) → token_in from largest first ≡ o → next ≤ e → lexed from largest 0 (take (e - from) (b ∷ bytes)) ≡ in_front o (read (take (e - next) further))
  cut_later e o is le =
      let less : e - from - width_of first ≡ e - next = omega arith in
      piece_kept from largest b (e - from) bytes first refl (omega (arith, le)) ∙ ap (λ n. in_front (token_in from largest first) (read (take n further))) less ∙ ap (λ x. in_front x (read (take (e - next) further))) is

  cut_first : (t : Token) (behind front : List Token) → ((fs : List Token) → read further ≡ fs ++ t ∷ behind → IsCut next (largest_in largest first) further fs t)
      → (o : Option Token) → IfSome o (IsAt from (width_of first)) → token_in from largest first ≡ o → in_front o (read further) ≡ front ++ t ∷ behind → IsCut from largest (b ∷ bytes) front t
  cut_first t behind front later None at is h =
      let rest = later front h in
      record { behind = omega (arith, rest.behind); same = cut_later t.span.end None is (omega (arith, rest.behind)) ∙ rest.same }
  cut_first t behind [] later (Some u) at is h =
      let same : u ≡ t = cc in
      let end : t.span.end ≡ next = ap (λ (v : Token). v.span.end) (sym same) ∙ at.1 in
      let none : t.span.end - next ≡ 0 = omega (arith, end) in
      record {
        behind = omega (arith, end, (piece_fits b bytes).some);
        same = cut_later t.span.end (Some u) is (omega (arith, end)) ∙ ap (λ n. u ∷ read (take n further)) none ∙ ap (λ v. v ∷ []) same;
      }
  cut_first t behind (f ∷ front) later (Some u) at is h =
      let same : u ≡ f = cc in
      let others : read further ≡ front ++ t ∷ behind = cc in
      let rest = later front others in
      record { behind = omega (arith, rest.behind); same = cut_later t.span.end (Some u) is (omega (arith, rest.behind)) ∙ ap (λ ts. u ∷ ts) rest.same ∙ ap (λ v. v ∷ front ++ t ∷ []) same }

cut_from : (most from largest : ℕ) (bytes : List ℕ) (front behind : List Token) (t : Token) → length bytes ≤ most → lexed from largest 0 bytes ≡ front ++ t ∷ behind → IsCut from largest bytes front t
cut_from most from largest [] front behind t le h = none_read front behind t h
cut_from zero from largest (b ∷ bytes) front behind t le h = absurd (omega (arith, le))
cut_from (suc most) from largest (b ∷ bytes) front behind t le h =
    let p = piece b bytes in
    let few : length (further from largest b bytes) ≤ most = omega (arith, length-drop (width_of p) (b ∷ bytes), (piece_fits b bytes).some, le) in
    cut_first from largest b bytes t behind front (λ fs. cut_from most (from + width_of p) (largest_in largest p) (drop (width_of p) (b ∷ bytes)) fs behind t few)
    (token_in from largest p) (token_at from largest p) refl (sym (lexed_more from largest b bytes p refl (piece_fits b bytes).some) ∙ h)

pub tokens_cut_behind : (text : List ℕ) (front behind : List Token) (t : Token) → tokens_of text ≡ front ++ t ∷ behind → tokens_of (take t.span.end text) ≡ front ++ t ∷ []
unfolding tokens_of
tokens_cut_behind text front behind t h =
    let whole : t.span.end ≡ t.span.end - 0 = omega arith in
    ap (λ n. lexed 0 0 0 (take n text)) whole ∙ (cut_from (length text) 0 0 text front behind t (omega arith) h).same
