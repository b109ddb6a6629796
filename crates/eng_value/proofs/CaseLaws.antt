-- A second change of case leaves only the last.
use Rattle.std.proofs.Common.{◌≡◌, ℕ, List, [], ◌∷◌, map, refl, arith}
use Rattle.std.proofs.lemmas.Bool.Decides.{nat_tests}
use Rattle.std.specs.Char.{to_ascii_lowercase, to_ascii_uppercase}
use Rattle.eng_text.specs.Texts.{folded}

twice : (f g : ℕ → ℕ) → ((c : ℕ) → f (g c) ≡ f c) → (cs : List ℕ) → map f (map g cs) ≡ map f cs
twice f g last [] = refl
twice f g last (c ∷ cs) = rw (last c, twice f g last cs) refl

lower-lower : (c : ℕ) → to_ascii_lowercase (to_ascii_lowercase c) ≡ to_ascii_lowercase c
lower-lower c = grind (arith, nat_tests)

lower-upper : (c : ℕ) → to_ascii_lowercase (to_ascii_uppercase c) ≡ to_ascii_lowercase c
lower-upper c = grind (arith, nat_tests)

upper-lower : (c : ℕ) → to_ascii_uppercase (to_ascii_lowercase c) ≡ to_ascii_uppercase c
upper-lower c = grind (arith, nat_tests)

upper-upper : (c : ℕ) → to_ascii_uppercase (to_ascii_uppercase c) ≡ to_ascii_uppercase c
upper-upper c = grind (arith, nat_tests)

pub folded_twice : (text : List ℕ) → folded (folded text) ≡ folded text
folded_twice text = twice to_ascii_lowercase to_ascii_lowercase lower-lower text

pub folded_upper : (text : List ℕ) → folded (map to_ascii_uppercase text) ≡ folded text
folded_upper text = twice to_ascii_lowercase to_ascii_uppercase lower-upper text

pub upper_folded : (text : List ℕ) → map to_ascii_uppercase (folded text) ≡ map to_ascii_uppercase text
upper_folded text = twice to_ascii_uppercase to_ascii_lowercase upper-lower text

pub upper_twice : (text : List ℕ) → map to_ascii_uppercase (map to_ascii_uppercase text) ≡ map to_ascii_uppercase text
upper_twice text = twice to_ascii_uppercase to_ascii_uppercase upper-upper text
