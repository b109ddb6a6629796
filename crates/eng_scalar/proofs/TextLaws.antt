-- The characters of parts of a text.
use Rattle.std.proofs.Common.{◌≡◌, ℕ, zero, suc, ◌-◌, ◌<◌, List, [], ◌∷◌, ◌++◌, take, drop, refl, sym, ap, ◌∙◌, arith}
use Rattle.std.proofs.lemmas.List.{take-append-drop, append_cancel_right}
use Rattle.std.proofs.lemmas.Str.{chars-append, encodes-append, encodes-chars}
use Rattle.std.specs.Prelude.{encode_utf8_all}
use Rattle.std.specs.Str.{IsUtf8, chars}

-- a text is what its characters spell
pub spelled : (text cs : List ℕ) → IsUtf8 text → chars text ≡ cs → text ≡ encode_utf8_all cs
spelled text cs utf8 is = sym (encodes-chars text utf8) ∙ ap encode_utf8_all is

pub drop_first : (n : ℕ) (cs : List ℕ) (c : ℕ) (ds : List ℕ) → cs ≡ c ∷ ds → 0 < n → drop n cs ≡ drop (n - 1) ds
drop_first zero cs c ds is some = absurd (omega arith)
drop_first (suc n) cs c ds is some = let less : suc n - 1 ≡ n = omega arith in rw (is, less) refl

pub drop_none : (n : ℕ) (cs : List ℕ) → cs ≡ [] → drop n cs ≡ []
drop_none zero cs none = none
drop_none (suc n) cs none = rw none refl

-- a text is the characters in front of its end, and that end
pub front-rest : (text rest : List ℕ) (n : ℕ) → IsUtf8 text → IsUtf8 rest → chars rest ≡ drop n (chars text) → text ≡ encode_utf8_all (take n (chars text)) ++ rest
front-rest text rest n utf8 utf8_rest is =
    let whole : text ≡ encode_utf8_all (take n (chars text) ++ drop n (chars text)) = sym (encodes-chars text utf8) ∙ ap encode_utf8_all (sym (take-append-drop n (chars text))) in
    whole ∙ encodes-append (take n (chars text)) (drop n (chars text)) ∙ ap (λ (t : List ℕ). encode_utf8_all (take n (chars text)) ++ t) (ap encode_utf8_all (sym is) ∙ encodes-chars rest utf8_rest)

-- the characters of what is in front of that end
pub chars-front : (text front rest : List ℕ) (n : ℕ) → IsUtf8 text → IsUtf8 front → chars rest ≡ drop n (chars text) → text ≡ front ++ rest → chars front ≡ take n (chars text)
chars-front text front rest n utf8 utf8_front is split =
    append_cancel_right (chars front) (take n (chars text)) (drop n (chars text))
    (ap (λ (t : List ℕ). chars front ++ t) (sym is) ∙ sym (chars-append front rest utf8_front) ∙ ap chars (sym split) ∙ sym (take-append-drop n (chars text)))

pub ruleset drop_steps = (drop_first, drop_none)
