-- The text of a statement from its first token to its last one.
use Rattle.std.proofs.Common.{◌≡◌, ◌≤◌, ℕ, Bool, true, false, if◌then◌else◌, List, [], ◌∷◌, length, ◌-◌, suc, Some, take, drop, slice_get, All, refl, sym, ap, arith, ◌∙◌}
use Rattle.std.specs.Str.{IsCharBoundary, IsUtf8, is_utf8}
use Rattle.std.proofs.lemmas.List.Elements.{All-head, All-tail, All-take}
use Rattle.std.proofs.lemmas.Str.{IsCharBoundary-start}
use Rattle.sql_lex.proofs.FirstTokens.{as_many_from}
use Rattle.sql_lex.proofs.TokenCuts.{Stands, all_stand, ends, starts}
use Rattle.sql_lex.specs.Cutting.{start_of}
use Rattle.sql_lex.specs.Tokens.{InOrder, slice_of, tokens_of}
use Rattle.sql_words.specs.Bodies.{end_of, is_semicolon, without_end}
use Rattle.sql_tree.specs.declared.token.Token.{Token}

module _ (text : List ℕ) where
  abbrev IsCut : Token → Type 0
  IsCut t = is_utf8 (slice_of text t) ≡ true

  without_stand : (ts : List Token) → All (Stands text) ts → All (Stands text) (without_end ts)
  without_stand ts all = by (is_semicolon (slice_get ts (length ts - 1)))
    where
      by : (ended : Bool) → All (Stands text) (if ended then take (length ts - 1) ts else ts)
      by true = All-take (Stands text) (length ts - 1) ts all
      by false = all

  end_cut : IsUtf8 text → (ts : List Token) → All (Stands text) ts → IsCharBoundary text (end_of ts)
  end_cut utf8 [] all = IsCharBoundary-start text utf8
  end_cut utf8 (t ∷ []) all = ends text t utf8 (All-head (Stands text) t [] all)
  end_cut utf8 (t ∷ u ∷ ts) all = end_cut utf8 (u ∷ ts) (All-tail (Stands text) t (u ∷ ts) all)

  -- the text may be cut behind its last token
  pub body_cut : IsUtf8 text → (ts : List Token) → InOrder 0 (length text) ts → All IsCut ts → IsCharBoundary text (end_of (without_end ts))
  body_cut utf8 ts order cut = end_cut utf8 (without_end ts) (without_stand ts (all_stand text 0 ts order cut))

  -- and in front of its first one
  pub first_cut : IsUtf8 text → (ts : List Token) → InOrder 0 (length text) ts → All IsCut ts → IsCharBoundary text (start_of ts 0)
  first_cut utf8 [] order cut = IsCharBoundary-start text utf8
  first_cut utf8 (t ∷ ts) order cut = starts text t (All-head (Stands text) t ts (all_stand text 0 (t ∷ ts) order cut))

-- from its first token on a text has as many tokens
pub tokens_kept : (text : List ℕ) → length (tokens_of (drop (start_of (tokens_of text) 0) text)) ≤ length (tokens_of text)
tokens_kept text = by (tokens_of text) refl
  where
    by : (ts : List Token) → tokens_of text ≡ ts → length (tokens_of (drop (start_of ts 0) text)) ≤ length (tokens_of text)
    by [] is = omega arith
    by (t ∷ ts) is = omega (arith, as_many_from text t ts is)

-- the end is that of the last token
pub end_of_last : (ts : List Token) (t : Token) → slice_get ts (length ts - 1) ≡ Some t → end_of ts ≡ t.span.end
end_of_last [] t e = absurd (cc)
end_of_last (x ∷ []) t e = let same : x ≡ t = cc in ap (λ (u : Token). u.span.end) same
end_of_last (x ∷ y ∷ ts) t e =
    let place : length (x ∷ y ∷ ts) - 1 ≡ suc (length (y ∷ ts) - 1) = omega arith in
    end_of_last (y ∷ ts) t (sym (ap (λ k. slice_get (x ∷ y ∷ ts) k) place) ∙ e)
