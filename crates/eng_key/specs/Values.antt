-- The keys of values under a collation: the class in front, and behind it what the class is ordered by (Datatypes In SQLite,
-- sections 4.1 and 7).
use Rattle.std.specs.Prelude.{◌≡◌, ℕ, List, [], ◌∷◌, pos, codes, refl}
use Rattle.eng_value.specs.Collations.{Keys, text_key}
use Rattle.eng_value.specs.declared.built.Built.{Built}
use Rattle.eng_value.specs.declared.built.Built.TheVariants as built
use Rattle.eng_value.specs.declared.collation.Collation.{Collation}
use Rattle.eng_value.specs.declared.value.Value.{Value}
use Rattle.eng_value.specs.declared.value.Value.TheVariants.{Null, Integer, Text, Blob}
use Rattle.eng_key.specs.Rowids.{rowid_key}

-- by the keys of texts
unfoldable pub key_by : (List ℕ → List ℕ) → Value → List ℕ
key_by key Null = 0 ∷ []
key_by key (Integer n) = 1 ∷ rowid_key n
key_by key (Text text) = 2 ∷ key text
key_by key (Blob bytes) = 3 ∷ bytes

abbrev pub value_key : Built → Value → List ℕ
value_key b v = key_by (text_key b) v

-- under any collation, by the keys that these have
abbrev pub value_keys : Keys → Collation → Value → List ℕ
value_keys keys c v = key_by (keys c) v

no_text : (value_key built.Binary Null ≡ 0 ∷ []) × (value_key built.NoCase (Integer (pos 1)) ≡ 1 ∷ 128 ∷ 0 ∷ 0 ∷ 0 ∷ 0 ∷ 0 ∷ 0 ∷ 1 ∷ []) × (value_key built.NoCase (Blob (codes "A ")) ≡ 3 ∷ codes "A ")
unfolding key_by rowid_key
no_text = (refl, refl, refl)

texts : (value_key built.Binary (Text (codes "Ab ")) ≡ 2 ∷ codes "Ab ") × (value_key built.NoCase (Text (codes "Ab ")) ≡ 2 ∷ codes "ab ") × (value_key built.Rtrim (Text (codes "Ab ")) ≡ 2 ∷ codes "Ab")
unfolding key_by
texts = (refl, refl, refl)
