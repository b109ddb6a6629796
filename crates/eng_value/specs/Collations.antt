-- Comparison of values under a collation (Datatypes In SQLite, sections 4.1 and 7).
use Rattle.std.specs.Prelude.{◌≡◌, ℕ, ◌==◌, List, [], ◌∷◌, reverse, if◌then◌else◌, codes, refl, slice_get, Option, Some, None}
use Rattle.std.specs.declared.cmp.Ordering.{Ordering}
use Rattle.std.specs.declared.cmp.Ordering.TheVariants.{Less, Equal, Greater}
use Rattle.eng_text.specs.Texts.{folded}
use Rattle.eng_value.specs.declared.built.Built.{Built}
use Rattle.eng_value.specs.declared.built.Built.TheVariants as built
use Rattle.eng_value.specs.declared.collation.Collation.{Collation}
use Rattle.eng_value.specs.declared.collation.Collation.TheVariants as collation
use Rattle.eng_value.specs.HostMeanings.{CollationMeaning, HostMeanings, no_hosts}
use Rattle.eng_value.specs.declared.value.Value.{Value}
use Rattle.eng_value.specs.declared.value.Value.TheVariants.{Null, Integer, Text, Blob}
use Rattle.eng_value.specs.Compare.{value_cmp}

abbrev pub without_spaces : List ℕ → List ℕ
without_spaces [] = []
without_spaces (b ∷ bytes) = if b == 32 then without_spaces bytes else b ∷ bytes

-- the bytes by which a text is compared
abbrev pub text_key : Built → List ℕ → List ℕ
text_key built.Binary text = text
text_key built.NoCase text = folded text
text_key built.Rtrim text = reverse (without_spaces (reverse text))

-- ---- collations of hosts

-- the key of a text under each collation
abbrev pub Keys : Type 0
Keys = Collation → List ℕ → List ℕ

-- what is told; a host that tells none has the text itself
abbrev pub told_key : CollationMeaning → List ℕ → List ℕ
told_key None text = text
told_key (Some key) text = key text

abbrev pub host_key : Option (List ℕ × CollationMeaning) → List ℕ → List ℕ
host_key None text = text
host_key (Some entry) text = told_key entry.1 text

abbrev pub keys_of : HostMeanings → Keys
keys_of hosts (collation.Built b) text = text_key b text
keys_of hosts (collation.Host place) text = host_key (slice_get hosts.collations place) text

-- where no host has one
abbrev pub own_keys : Keys
own_keys = keys_of no_hosts

-- the built-in collation that is as good there
abbrev pub built_in : Collation → Built
built_in (collation.Built b) = b
built_in (collation.Host place) = built.Binary

pub own_keys-are : (c : Collation) → own_keys c ≡ text_key (built_in c)
own_keys-are (collation.Built b) = refl
own_keys-are (collation.Host place) = refl

-- ---- comparisons

-- a value with its key in the place of a text
abbrev pub keyed : (List ℕ → List ℕ) → Value → Value
keyed key Null = Null
keyed key (Integer n) = Integer n
keyed key (Text text) = Text (key text)
keyed key (Blob bytes) = Blob bytes

abbrev pub compare_by : (List ℕ → List ℕ) → Value → Value → Ordering
compare_by key a b = value_cmp (keyed key a) (keyed key b)

abbrev pub compare : Built → Value → Value → Ordering
compare b v w = compare_by (text_key b) v w

cases : (compare built.Binary (Text (codes "a")) (Text (codes "A")) ≡ Greater) × (compare built.NoCase (Text (codes "a")) (Text (codes "A")) ≡ Equal) × (compare built.Rtrim (Text (codes "a")) (Text (codes "a ")) ≡ Equal) × (compare built.Rtrim (Text (codes " a")) (Text (codes "a")) ≡ Less)
cases = (refl, refl, refl, refl)
