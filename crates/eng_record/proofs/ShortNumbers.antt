-- Numbers and lengths in one byte.
use Rattle.std.proofs.Common.{◌≡◌, ℕ, ◌+◌, ◌-◌, ◌*◌, ◌<◌, ◌≤◌, List, length, get_or, drop, Ok, refl, ap, ◌∙◌, arith}
use Rattle.std.proofs.lemmas.Bool.{lt-ltb, le-ltb, eq-eqb}
use Rattle.std.proofs.lemmas.List.{length-drop}
use Rattle.eng_record.specs.Reading.{header_len_at, number_at, used, varint_at}
use Rattle.eng_record.specs.Spelling.{header_len, own_len_from, varint_len}
use Rattle.eng_record.proofs.ReadingLoops.{number_ends}
use Rattle.eng_record.proofs.WritingLoops.{own_len_stops}

short_len : (n : ℕ) → n < 128 → varint_len n ≡ 1
unfolding varint_len
short_len n lt = rw (lt-ltb n 128 lt) refl

short_header : (n : ℕ) → 0 < n → n < 128 → header_len (n - 1) ≡ n
unfolding header_len
short_header n some lt =
    let whole : n - 1 + 1 ≡ n = omega arith in
    let own : own_len_from 8 1 (n - 1) ≡ 1 = own_len_stops 1 (n - 1) (omega arith) (omega (arith, ap varint_len whole, short_len n lt)) in
    omega (arith, own)

module _ (b : ℕ) (bytes rest : List ℕ) (some : 1 ≤ length bytes) (b-is : b ≡ get_or bytes 0 0) (rest-is : rest ≡ drop 1 bytes) (small : b < 128) where
  one_used : used bytes rest ≡ 1
  one_used = omega (arith, ap length rest-is, length-drop 1 bytes, some)

  short_number : number_at bytes ≡ Ok (b, rest)
  unfolding number_at
  short_number =
      let value : 128 * 0 + b ≡ b = omega arith in
      number_ends 0 0 b bytes rest (omega arith) some b-is rest-is small ∙ ap (λ (n : ℕ). Ok (n, rest)) value

  pub short_varint_at : varint_at bytes ≡ Ok (b, rest)
  unfolding varint_at
  short_varint_at = rw (short_number, one_used, short_len b small) refl

  pub short_header_at : 0 < b → header_len_at bytes ≡ Ok (b - 1, rest)
  unfolding header_len_at
  short_header_at above =
      rw (short_number, one_used, le-ltb b 1 above, short_header b above small, eq-eqb b b refl) refl
