-- Keys of values stand to one another as the values, where those of integers do.
use Rattle.std.proofs.Common.{◌≡◌, ℕ, List, ℤ, nat_cmp, refl}
use Rattle.std.specs.Cmp.Lexicographic.{slice_cmp}
use Rattle.std.specs.Ordering.{int_cmp}
use Rattle.eng_value.specs.Collations.{built_in, compare, own_keys}
use Rattle.eng_value.specs.declared.built.Built.{Built}
use Rattle.eng_value.specs.declared.collation.Collation.{Collation}
use Rattle.eng_value.specs.declared.collation.Collation.TheVariants as collation
use Rattle.eng_value.specs.declared.value.Value.{Value}
use Rattle.eng_value.specs.declared.value.Value.TheVariants.{Null, Integer, Text, Blob}
use Rattle.eng_key.specs.Rowids.{rowid_key}
use Rattle.eng_key.specs.Values.{key_by, value_key, value_keys}

pub keys_of_integers : (collation : Built) (m n : ℤ) → slice_cmp nat_cmp (rowid_key m) (rowid_key n) ≡ int_cmp m n → slice_cmp nat_cmp (value_key collation (Integer m)) (value_key collation (Integer n)) ≡ compare collation (Integer m) (Integer n)
unfolding key_by
keys_of_integers collation m n is = is

pub key_of_null : (collation : Built) (v : Value) → slice_cmp nat_cmp (value_key collation Null) (value_key collation v) ≡ compare collation Null v
unfolding key_by
key_of_null collation Null = refl
key_of_null collation (Integer n) = refl
key_of_null collation (Text t) = refl
key_of_null collation (Blob t) = refl

pub key_of_text : (collation : Built) (s : List ℕ) (v : Value) → slice_cmp nat_cmp (value_key collation (Text s)) (value_key collation v) ≡ compare collation (Text s) v
unfolding key_by
key_of_text collation s Null = refl
key_of_text collation s (Integer n) = refl
key_of_text collation s (Text t) = refl
key_of_text collation s (Blob t) = refl

pub key_of_blob : (collation : Built) (s : List ℕ) (v : Value) → slice_cmp nat_cmp (value_key collation (Blob s)) (value_key collation v) ≡ compare collation (Blob s) v
unfolding key_by
key_of_blob collation s Null = refl
key_of_blob collation s (Integer n) = refl
key_of_blob collation s (Text t) = refl
key_of_blob collation s (Blob t) = refl

pub key_beside_null : (collation : Built) (n : ℤ) → slice_cmp nat_cmp (value_key collation (Integer n)) (value_key collation Null) ≡ compare collation (Integer n) Null
unfolding key_by
key_beside_null collation n = refl

pub key_beside_text : (collation : Built) (n : ℤ) (t : List ℕ) → slice_cmp nat_cmp (value_key collation (Integer n)) (value_key collation (Text t)) ≡ compare collation (Integer n) (Text t)
unfolding key_by
key_beside_text collation n t = refl

pub key_beside_blob : (collation : Built) (n : ℤ) (t : List ℕ) → slice_cmp nat_cmp (value_key collation (Integer n)) (value_key collation (Blob t)) ≡ compare collation (Integer n) (Blob t)
unfolding key_by
key_beside_blob collation n t = refl

-- where no host has a collation the built-in one serves
pub own_value_key : (c : Collation) (v : Value) → value_key (built_in c) v ≡ value_keys own_keys c v
own_value_key (collation.Built b) v = refl
own_value_key (collation.Host place) v = refl
