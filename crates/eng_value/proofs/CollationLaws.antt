-- Each collation is a total order of the values with their keys in the place of their texts.
use Rattle.std.proofs.Common.{◌≡◌, ℕ, List, [], ℤ, pos, refl, sym, ap, ◌∙◌}
use Rattle.std.specs.Cmp.{IsTotalOrder}
use Rattle.std.specs.Cmp.Lexicographic.{slice_cmp}
use Rattle.std.specs.Ordering.{int_cmp, nat_cmp, on, ordering_reverse, ordering_then, then_cmp}
use Rattle.std.specs.declared.cmp.Ordering.{Ordering}
use Rattle.std.specs.declared.cmp.Ordering.TheVariants.{Less, Equal, Greater}
use Rattle.std.proofs.lemmas.Cmp.{int_cmp_total, nat_cmp_total, nat_list_cmp_total, on_total, then_total, tied_itself}
use Rattle.std.proofs.lemmas.Map.Lookups.{exact_bytes, exact_signed}
use Rattle.eng_value.specs.declared.built.Built.TheVariants as built
use Rattle.eng_value.specs.declared.value.Value.{Value}
use Rattle.eng_value.specs.declared.value.Value.TheVariants.{Null, Integer, Text, Blob}
use Rattle.eng_value.specs.Collations.{compare, compare_by, keyed, keys_of, text_key}
use Rattle.eng_value.specs.HostMeanings.{HostMeanings}
use Rattle.eng_value.specs.declared.collation.Collation.{Collation}
use Rattle.eng_value.specs.Compare.{value_cmp}

-- ---- the order of values, as that of their classes, then of their integers, then of their bytes

abbrev class : Value → ℕ
class Null = 0
class (Integer n) = 1
class (Text text) = 2
class (Blob bytes) = 3

abbrev integer_of : Value → ℤ
integer_of Null = pos 0
integer_of (Integer n) = n
integer_of (Text text) = pos 0
integer_of (Blob bytes) = pos 0

abbrev bytes_of : Value → List ℕ
bytes_of Null = []
bytes_of (Integer n) = []
bytes_of (Text text) = text
bytes_of (Blob bytes) = bytes

abbrev by_parts : Value → Value → Ordering
by_parts = then_cmp (on class nat_cmp) (then_cmp (on integer_of int_cmp) (on bytes_of (slice_cmp nat_cmp)))

by_parts_total : IsTotalOrder by_parts
by_parts_total = then_total (on_total class nat_cmp_total) (then_total (on_total integer_of int_cmp_total) (on_total bytes_of nat_list_cmp_total))

then-Equal : (o : Ordering) → ordering_then o Equal ≡ o
then-Equal Less = refl
then-Equal Equal = refl
then-Equal Greater = refl

value_cmp-parts : (a b : Value) → value_cmp a b ≡ by_parts a b
value_cmp-parts Null Null = refl
value_cmp-parts Null (Integer n) = refl
value_cmp-parts Null (Text t) = refl
value_cmp-parts Null (Blob t) = refl
value_cmp-parts (Integer m) Null = refl
value_cmp-parts (Integer m) (Integer n) = sym (then-Equal (int_cmp m n))
value_cmp-parts (Integer m) (Text t) = refl
value_cmp-parts (Integer m) (Blob t) = refl
value_cmp-parts (Text s) Null = refl
value_cmp-parts (Text s) (Integer n) = refl
value_cmp-parts (Text s) (Text t) = refl
value_cmp-parts (Text s) (Blob t) = refl
value_cmp-parts (Blob s) Null = refl
value_cmp-parts (Blob s) (Integer n) = refl
value_cmp-parts (Blob s) (Text t) = refl
value_cmp-parts (Blob s) (Blob t) = refl

value_cmp_total : IsTotalOrder value_cmp
value_cmp_total = record {
  antisymm = λ a b. value_cmp-parts a b ∙ by_parts_total.antisymm a b ∙ ap ordering_reverse (sym (value_cmp-parts b a));
  trans = λ a b c p q. value_cmp-parts a c ∙ by_parts_total.trans a b c (sym (value_cmp-parts a b) ∙ p) (sym (value_cmp-parts b c) ∙ q);
  congr = λ a b c p. value_cmp-parts a c ∙ by_parts_total.congr a b c (sym (value_cmp-parts a b) ∙ p) ∙ sym (value_cmp-parts b c);
}

same_value : (a b : Value) → value_cmp a b ≡ Equal → a ≡ b
same_value Null Null is = refl
same_value Null (Integer n) is = absurd (cc)
same_value Null (Text t) is = absurd (cc)
same_value Null (Blob t) is = absurd (cc)
same_value (Integer m) Null is = absurd (cc)
same_value (Integer m) (Integer n) is = ap Integer (exact_signed m n is)
same_value (Integer m) (Text t) is = absurd (cc)
same_value (Integer m) (Blob t) is = absurd (cc)
same_value (Text s) Null is = absurd (cc)
same_value (Text s) (Integer n) is = absurd (cc)
same_value (Text s) (Text t) is = ap Text (exact_bytes s t is)
same_value (Text s) (Blob t) is = absurd (cc)
same_value (Blob s) Null is = absurd (cc)
same_value (Blob s) (Integer n) is = absurd (cc)
same_value (Blob s) (Text t) is = absurd (cc)
same_value (Blob s) (Blob t) is = ap Blob (exact_bytes s t is)

-- ---- collations

pub compare_total : (hosts : HostMeanings) (collation : Collation) → IsTotalOrder (compare_by (keys_of hosts collation))
compare_total hosts collation = on_total (keyed (keys_of hosts collation)) value_cmp_total

pub same_keyed : (hosts : HostMeanings) (collation : Collation) (a b : Value) → compare_by (keys_of hosts collation) a b ≡ Equal → keyed (keys_of hosts collation) a ≡ keyed (keys_of hosts collation) b
same_keyed hosts collation a b is = same_value (keyed (keys_of hosts collation) a) (keyed (keys_of hosts collation) b) is

equal_by : (key : List ℕ → List ℕ) (a b : Value) → keyed key a ≡ keyed key b → compare_by key a b ≡ Equal
equal_by key a b is = ap (λ k. value_cmp k (keyed key b)) is ∙ tied_itself value_cmp_total (keyed key b)

pub equal_keyed : (hosts : HostMeanings) (collation : Collation) (a b : Value) → keyed (keys_of hosts collation) a ≡ keyed (keys_of hosts collation) b → compare_by (keys_of hosts collation) a b ≡ Equal
equal_keyed hosts collation a b is = equal_by (keys_of hosts collation) a b is

keyed-binary : (v : Value) → keyed (text_key built.Binary) v ≡ v
keyed-binary Null = refl
keyed-binary (Integer n) = refl
keyed-binary (Text text) = refl
keyed-binary (Blob bytes) = refl

pub same_binary : (a b : Value) → compare built.Binary a b ≡ Equal → a ≡ b
same_binary a b is = sym (keyed-binary a) ∙ same_value (keyed (text_key built.Binary) a) (keyed (text_key built.Binary) b) is ∙ keyed-binary b

pub equal_binary : (hosts : HostMeanings) (collation : Collation) (a b : Value) → compare built.Binary a b ≡ Equal → compare_by (keys_of hosts collation) a b ≡ Equal
equal_binary hosts collation a b is = equal_by (keys_of hosts collation) a b (ap (keyed (keys_of hosts collation)) (same_binary a b is))
