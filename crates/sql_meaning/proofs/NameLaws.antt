-- Names: to name one thing is an equivalence.
use Rattle.std.proofs.Common.{◌≡◌, ◌↔◌, ℕ, List, true, refl, sym, ◌∙◌, ap, bytes_eq}
use Rattle.std.specs.Str.{str_to_ascii_lowercase}
use Rattle.std.specs.Cmp.Lexicographic.{bytes_decides}
use Rattle.std.proofs.lemmas.Bool.Decides.{same_from_decides}
use Rattle.eng_entry.specs.Names.{is_same_name}

-- two names name one thing exactly where they are the same in lower case
pub is_same_name-true : (a b : List ℕ) → (is_same_name a b ≡ true) ↔ (str_to_ascii_lowercase a ≡ str_to_ascii_lowercase b)
is_same_name-true a b = bytes_decides (str_to_ascii_lowercase a) (str_to_ascii_lowercase b)

pub is_same_name-refl : (a : List ℕ) → is_same_name a a ≡ true
is_same_name-refl a = (is_same_name-true a a).1 refl

pub is_same_name-sym : (a b : List ℕ) → is_same_name a b ≡ true → is_same_name b a ≡ true
is_same_name-sym a b h = (is_same_name-true b a).1 (sym ((is_same_name-true a b).0 h))

pub is_same_name-trans : (a b c : List ℕ) → is_same_name a b ≡ true → is_same_name b c ≡ true → is_same_name a c ≡ true
is_same_name-trans a b c h k = (is_same_name-true a c).1 ((is_same_name-true a b).0 h ∙ (is_same_name-true b c).0 k)

-- names that name one thing are the same names for another
pub is_same_name-left : (c a b : List ℕ) → is_same_name a b ≡ true → is_same_name c a ≡ is_same_name c b
is_same_name-left c a b h = ap (λ l. bytes_eq (str_to_ascii_lowercase c) l) ((is_same_name-true a b).0 h)

pub is_same_name_comm : (a b : List ℕ) → is_same_name a b ≡ is_same_name b a
is_same_name_comm a b =
    same_from_decides {P = is_same_name a b ≡ true} (is_same_name a b) (is_same_name b a) (λ h. h, λ h. h) (is_same_name-sym b a, is_same_name-sym a b)
