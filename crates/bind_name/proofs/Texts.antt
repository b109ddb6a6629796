-- Bytes that are a text, and others.
use Rattle.std.proofs.Common.{◌≡◌, ℕ, Bool, true, false, List, [], refl}
use Rattle.std.specs.Str.{is_utf8, IsUtf8}
use Rattle.std.proofs.lemmas.Str.{IsUtf8-from_is_utf8, is_utf8-from_IsUtf8}
use Rattle.sql_words.specs.Spelled.{as_text}

pub utf8_as_text : (bytes : List ℕ) → IsUtf8 bytes → as_text bytes ≡ bytes
utf8_as_text bytes utf8 = rw (is_utf8-from_IsUtf8 bytes utf8) refl

pub other_as_text : (bytes : List ℕ) → (IsUtf8 bytes → ⊥) → as_text bytes ≡ []
other_as_text bytes other = by (is_utf8 bytes) refl
  where
    by : (t : Bool) → is_utf8 bytes ≡ t → as_text bytes ≡ []
    by true e = absurd (other (IsUtf8-from_is_utf8 bytes e))
    by false e = rw e refl
