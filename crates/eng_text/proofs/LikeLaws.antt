-- Laws of the patterns of LIKE.
use Rattle.std.proofs.Common.{◌≡◌, ℕ, true, false, List, [], ◌∷◌, Option, refl}
use Rattle.eng_text.specs.Patterns.{Run, is_escape, is_like, like_part, like_parts, matches, percent, same_folded}

-- a character that is no escape is a part of its own
pub like_parts-plain : (escape : Option ℕ) (c : ℕ) (cs : List ℕ) → is_escape escape c ≡ false → like_parts escape (c ∷ cs) ≡ like_part c ∷ like_parts escape cs
like_parts-plain escape c [] plain = rw plain refl
like_parts-plain escape c (d ∷ cs) plain = rw plain refl

matches-percent : (text : List ℕ) → matches same_folded (Run ∷ []) text ≡ true
matches-percent [] = refl
matches-percent (c ∷ cs) = matches-percent cs

pub percent_matches : (escape : Option ℕ) (text : List ℕ) → is_escape escape percent ≡ false → is_like escape (percent ∷ []) text ≡ true
unfolding is_like
percent_matches escape text plain = rw plain (matches-percent text)
