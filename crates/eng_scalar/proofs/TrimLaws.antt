-- Trimming takes one character after the other.
use Rattle.std.proofs.Common.{◌≡◌, ℕ, true, false, ◌==◌, List, [], ◌∷◌, ◌++◌, refl, ap, ◌∙◌}
use Rattle.std.proofs.lemmas.List.{reverse-append, reverse-reverse}
use Rattle.std.specs.List.{list_any}
use Rattle.std.specs.Prelude.{codes, reverse}
use Rattle.std.specs.Str.{chars}
use Rattle.eng_value.specs.Functions.{without_back, without_front}

pub front-none : (these cs : List ℕ) → cs ≡ [] → without_front these cs ≡ []
front-none these cs none = rw none refl

pub front-among : (these cs : List ℕ) (c : ℕ) (ds : List ℕ) → cs ≡ c ∷ ds → list_any (λ t. t == c) these ≡ true → without_front these cs ≡ without_front these ds
front-among these cs c ds is among = rw (is, among) refl

pub front-other : (these cs : List ℕ) (c : ℕ) (ds : List ℕ) → cs ≡ c ∷ ds → list_any (λ t. t == c) these ≡ false → without_front these cs ≡ cs
front-other these cs c ds is other = rw (is, other) refl

last : (cs : List ℕ) (c : ℕ) (ds : List ℕ) → cs ≡ ds ++ c ∷ [] → reverse cs ≡ c ∷ reverse ds
last cs c ds is = ap reverse is ∙ reverse-append ds (c ∷ [])

pub back-none : (these cs : List ℕ) → cs ≡ [] → without_back these cs ≡ []
back-none these cs none = rw none refl

pub back-among : (these cs : List ℕ) (c : ℕ) (ds : List ℕ) → cs ≡ ds ++ c ∷ [] → list_any (λ t. t == c) these ≡ true → without_back these cs ≡ without_back these ds
back-among these cs c ds is among = ap reverse (front-among these (reverse cs) c (reverse ds) (last cs c ds is) among)

pub back-other : (these cs : List ℕ) (c : ℕ) (ds : List ℕ) → cs ≡ ds ++ c ∷ [] → list_any (λ t. t == c) these ≡ false → without_back these cs ≡ cs
back-other these cs c ds is other = ap reverse (front-other these (reverse cs) c (reverse ds) (last cs c ds is) other) ∙ reverse-reverse cs

pub ruleset front_steps = (front-none, front-among, front-other)

pub ruleset back_steps = (back-none, back-among, back-other)

pub chars_space : chars (codes " ") ≡ codes " "
unfolding chars
chars_space = refl
