-- The affinity of a type that is told as one word.
use Rattle.std.proofs.Common.{◌≡◌, ℕ, List, [], ◌∷◌, not, filter, false, true≢false, refl, sym}
use Rattle.eng_text.specs.Texts.{folded}
use Rattle.eng_value.specs.declared.affinity.Affinity.TheVariants as affinity
use Rattle.bind_name.specs.Types.{affinity_of_folded}
use Rattle.bind_name.proofs.Affinities.{affinity_of_folded_is}
use Rattle.sql_words.specs.Types.{affinity_of_words}
use Rattle.sql_bound.specs.Declarations.{is_empty}

pub word-none : (w : List ℕ) → w ≡ [] → affinity_of_words (filter (λ (word : List ℕ). not (is_empty word)) (w ∷ [])) ≡ affinity.Blob
word-none w none = rw none refl

pub word-some : (w : List ℕ) → is_empty w ≡ false → affinity_of_words (filter (λ (word : List ℕ). not (is_empty word)) (w ∷ [])) ≡ affinity_of_folded (folded w ∷ [])
word-some [] some = absurd (true≢false some)
word-some (b ∷ bytes) some = sym (affinity_of_folded_is ((b ∷ bytes) ∷ []))

pub ruleset words = (word-none, word-some)
