-- The affinities of types, by words whose letters are in lower case.
use Rattle.std.specs.Prelude.{ℕ, Bool, List, [], ◌∷◌, is_some, if◌then◌else◌, codes}
use Rattle.std.specs.List.{list_any}
use Rattle.eng_text.specs.Texts.{place_of}
use Rattle.eng_value.specs.declared.affinity.Affinity.{Affinity}
use Rattle.eng_value.specs.declared.affinity.Affinity.TheVariants as affinity

-- the part stands in some word
abbrev pub holds : List (List ℕ) → List ℕ → Bool
holds words part = list_any (λ w. is_some (place_of part w)) words

-- the first rule that fits, by which parts stand in the words
abbrev pub affinity_by : (List ℕ → Bool) → Affinity
affinity_by has =
    if has (codes "int") then affinity.Integer else
    if list_any has (codes "char" ∷ codes "clob" ∷ codes "text" ∷ []) then affinity.Text else
    if has (codes "blob") then affinity.Blob else
    if list_any has (codes "real" ∷ codes "floa" ∷ codes "doub" ∷ []) then affinity.Real else affinity.Numeric

abbrev pub affinity_of_folded : List (List ℕ) → Affinity
affinity_of_folded [] = affinity.Blob
affinity_of_folded (w ∷ ws) = affinity_by (holds (w ∷ ws))
