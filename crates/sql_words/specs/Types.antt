-- The affinity of a type's words (Datatypes In SQLite, section 3.1).
use Rattle.std.specs.Prelude.{ℕ, Bool, List, [], ◌∷◌, map, Option, Some, None, is_some, if◌then◌else◌, codes}
use Rattle.std.specs.List.{list_any}
use Rattle.eng_text.specs.Texts.{folded, place_of}
use Rattle.eng_value.specs.declared.affinity.Affinity.{Affinity}
use Rattle.eng_value.specs.declared.affinity.Affinity.TheVariants as affinity
use Rattle.sql_tree.specs.declared.expr.TypeName.{TypeName}
use Rattle.sql_words.specs.Spelled.{name_at}

-- some word holds this one
abbrev pub mentions : List (List ℕ) → List ℕ → Bool
mentions words part = list_any (λ w. is_some (place_of part (folded w))) words

-- the first rule that fits; no word at all is BLOB
abbrev pub affinity_of_words : List (List ℕ) → Affinity
affinity_of_words [] = affinity.Blob
affinity_of_words (w ∷ ws) =
    if mentions (w ∷ ws) (codes "int") then affinity.Integer else
    if list_any (mentions (w ∷ ws)) (codes "char" ∷ codes "clob" ∷ codes "text" ∷ []) then affinity.Text else
    if mentions (w ∷ ws) (codes "blob") then affinity.Blob else
    if list_any (mentions (w ∷ ws)) (codes "real" ∷ codes "floa" ∷ codes "doub" ∷ []) then affinity.Real else affinity.Numeric

abbrev pub affinity_of_type : List ℕ → TypeName → Affinity
affinity_of_type text t = affinity_of_words (map (name_at text) t.words)

abbrev pub type_affinity : List ℕ → Option TypeName → Affinity
type_affinity text None = affinity.Blob
type_affinity text (Some t) = affinity_of_type text t
