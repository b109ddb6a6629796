-- What is written as a varint is read again, and what is read in as few bytes as it needs would be written so.
use Rattle.std.proofs.Common.{◌≡◌, ℕ, zero, suc, ◌+◌, ◌-◌, ◌*◌, ◌/◌, ◌%◌, ◌^◌, ◌<◌, ◌≤◌, true, false, cond, ltb, List, [], ◌∷◌, ◌++◌, length, Ok, refl, sym, ap, subst, ◌∙◌, append_assoc, arith, inl, inr}
use Rattle.std.proofs.Math.Nat.{pow-suc, pow-le-pow_right}
use Rattle.std.proofs.lemmas.Bool.{cases_lt, cond_both, ltb-true, ltb-false, lt-ltb, le-ltb}
use Rattle.std.proofs.lemmas.List.{length-append}
use Rattle.std.proofs.lemmas.Nat.{div-add-mod', div-mul-add, mod-mul-add, mod_below, mul-add-lt}
use Rattle.eng_record.specs.Spelling.{leading, varint_len, varint}
use Rattle.eng_record.specs.Reading.{number_from, number_at, used}
use Rattle.eng_record.proofs.Steps.{IsBytes, IsBytes-tail, same_read}

-- ---- lengths

by_limit : (P : ℕ → Type 0) (n limit x y : ℕ) → (n < limit → P x) → (limit ≤ n → P y) → P (cond (ltb n limit) x y)
by_limit P n limit x y below above = cond_both (ltb n limit) x y P (λ e. below (ltb-true n limit e)) (λ e. above (ltb-false n limit e))

-- so many bytes are those that n needs
pub record IsLen (n len : ℕ) : Type 0 where
  pub least : 1 ≤ len
  pub most : len ≤ 9
  pub short : n < 2 ^ 56 → (len ≤ 8) × (n / 128 < 128 ^ (len - 1))
  pub long : 2 ^ 56 ≤ n → len ≡ 9

len_short : (n k : ℕ) → 1 ≤ k → k ≤ 8 → n / 128 < 128 ^ (k - 1) → n < 2 ^ 56 → IsLen n k
len_short n k least most fits small = record { least = least; most = omega arith; short = λ _. (most, fits); long = λ big. absurd (omega arith) }

pub varint_len_is : (n : ℕ) → IsLen n (varint_len n)
unfolding varint_len
varint_len_is n =
    by_limit (IsLen n) n _ _ _ (λ h. len_short n 1 (omega arith) (omega arith) (omega arith) (omega arith)) (λ _.
    by_limit (IsLen n) n _ _ _ (λ h. len_short n 2 (omega arith) (omega arith) (omega arith) (omega arith)) (λ _.
    by_limit (IsLen n) n _ _ _ (λ h. len_short n 3 (omega arith) (omega arith) (omega arith) (omega arith)) (λ _.
    by_limit (IsLen n) n _ _ _ (λ h. len_short n 4 (omega arith) (omega arith) (omega arith) (omega arith)) (λ _.
    by_limit (IsLen n) n _ _ _ (λ h. len_short n 5 (omega arith) (omega arith) (omega arith) (omega arith)) (λ _.
    by_limit (IsLen n) n _ _ _ (λ h. len_short n 6 (omega arith) (omega arith) (omega arith) (omega arith)) (λ _.
    by_limit (IsLen n) n _ _ _ (λ h. len_short n 7 (omega arith) (omega arith) (omega arith) (omega arith)) (λ _.
    by_limit (IsLen n) n _ _ _ (λ h. len_short n 8 (omega arith) (omega arith) (omega arith) (omega arith)) (λ big.
    record { least = omega arith; most = omega arith; short = λ small. absurd (omega arith); long = λ _. refl }))))))))

-- the answers x and y of two chains of limits, from low on, the second no less
record Grows (low x y : ℕ) : Type 0 where
  least : low ≤ y
  grows : x ≤ y

one_limit : (a b limit low x y : ℕ) → a ≤ b → Grows (suc low) x y → Grows low (cond (ltb a limit) low x) (cond (ltb b limit) low y)
one_limit a b limit low x y le others =
    by_limit (λ r. Grows low (cond (ltb a limit) low x) r) b limit low y
    (λ lt. by_limit (λ l. Grows low l low) a limit low x (λ _. record { least = omega arith; grows = omega arith }) (λ ge. absurd (omega arith)))
    (λ _. by_limit (λ l. Grows low l y) a limit low x
    (λ _. record { least = omega (arith, others.least); grows = omega (arith, others.least) })
    (λ _. record { least = omega (arith, others.least); grows = others.grows }))

pub varint_len-le : (a b : ℕ) → a ≤ b → varint_len a ≤ varint_len b
unfolding varint_len
varint_len-le a b le =
    let step = λ (limit low x y : ℕ). one_limit a b limit low x y le in
    (step (2 ^ 7) 1 _ _ (step (2 ^ 14) 2 _ _ (step (2 ^ 21) 3 _ _ (step (2 ^ 28) 4 _ _ (step (2 ^ 35) 5 _ _ (step (2 ^ 42) 6 _ _ (step (2 ^ 49) 7 _ _ (step (2 ^ 56) 8 9 9 (record { least = omega arith; grows = omega arith }))))))))).grows

pub length-leading : (k n : ℕ) → length (leading k n) ≡ k
length-leading zero n = refl
length-leading (suc k) n = ap suc (length-leading k (n % 128 ^ k))

pub length-varint : (n : ℕ) → length (varint n) ≡ varint_len n
unfolding varint
length-varint n =
    let len = varint_len_is n in
    cond_both (ltb n (2 ^ 56)) (leading (varint_len n - 1) (n / 128) ++ n % 128 ∷ []) (leading 8 (n / 256) ++ n % 256 ∷ []) (λ (bytes : List ℕ). length bytes ≡ varint_len n)
    (λ _. omega (arith, len.least, length-append (leading (varint_len n - 1) (n / 128)) (n % 128 ∷ []), length-leading (varint_len n - 1) (n / 128)))
    (λ e. omega (arith, len.long (ltb-false n (2 ^ 56) e), length-append (leading 8 (n / 256)) (n % 256 ∷ []), length-leading 8 (n / 256)))

-- ---- what is written is read again

leading_read : (k most high n : ℕ) (rest : List ℕ) → n < 128 ^ k → k ≤ most → number_from most high (leading k n ++ rest) ≡ number_from (most - k) (high * 128 ^ k + n) rest
leading_read zero most high n rest small within =
    let none : most - 0 ≡ most = omega arith in
    let same : high * 128 ^ 0 + n ≡ high = omega arith in
    rw (none, same) refl
leading_read (suc k) zero high n rest small within = absurd (omega arith)
leading_read (suc k) (suc most) high n rest small within =
    let leads : ltb (128 + n / 128 ^ k) 128 ≡ false = le-ltb _ _ (omega arith) in
    let bits : 128 + n / 128 ^ k - 128 ≡ n / 128 ^ k = omega arith in
    let left : most - k ≡ suc most - suc k = omega arith in
    let sum : (128 * high + n / 128 ^ k) * 128 ^ k + n % 128 ^ k ≡ high * 128 ^ suc k + n = rw (pow-suc 128 k) (omega (arith, div-add-mod' n (128 ^ k))) in
    rw (leads, bits) (leading_read k most (128 * high + n / 128 ^ k) (n % 128 ^ k) rest (mod_below n (128 ^ k) (omega arith)) (omega arith)
    ∙ ap (λ m. number_from m ((128 * high + n / 128 ^ k) * 128 ^ k + n % 128 ^ k) rest) left
    ∙ ap (λ h. number_from (suc most - suc k) h rest) sum)

last_read : (more high b : ℕ) (rest : List ℕ) → 0 < more → b < 128 → number_from more high (b ∷ rest) ≡ Ok (128 * high + b, rest)
last_read zero high b rest some lt = absurd (omega arith)
last_read (suc more) high b rest some lt = rw (lt-ltb b 128 lt) refl

pub varint_read : (n : ℕ) (rest : List ℕ) → n < 2 ^ 64 → number_at (varint n ++ rest) ≡ Ok (n, rest)
unfolding number_at varint
varint_read n rest fits =
    let len = varint_len_is n in
    elim (cases_lt n (2 ^ 56)) [
      | inl lt ↦
          let k = varint_len n - 1 in
          let value : 128 * (0 * 128 ^ k + n / 128) + n % 128 ≡ n = omega arith in
          rw (lt-ltb n (2 ^ 56) lt) (ap (number_from 8 0) (append_assoc (leading k (n / 128)) (n % 128 ∷ []) rest)
          ∙ leading_read k 8 0 (n / 128) (n % 128 ∷ rest) (len.short lt).1 (omega (arith, (len.short lt).0))
          ∙ last_read (8 - k) (0 * 128 ^ k + n / 128) (n % 128) rest (omega (arith, (len.short lt).0, len.least)) (omega arith)
          ∙ ap (λ v. Ok (v, rest)) value)
      | inr ge ↦
          let value : 256 * (0 * 128 ^ 8 + n / 256) + n % 256 ≡ n = omega arith in
          rw (le-ltb n (2 ^ 56) ge) (ap (number_from 8 0) (append_assoc (leading 8 (n / 256)) (n % 256 ∷ []) rest)
          ∙ leading_read 8 8 0 (n / 256) (n % 256 ∷ rest) (omega arith) (omega arith)
          ∙ ap (λ v. Ok (v, rest)) value)
    ]

-- ---- what is read would be written so

-- the bytes before the last one, what their bits say, and the last one
record IsRead (most high : ℕ) (bytes : List ℕ) (n : ℕ) (rest : List ℕ) : Type 0 where
  leads : ℕ
  top : ℕ
  last : ℕ
  within : leads ≤ most
  small : top < 128 ^ leads
  parts : bytes ≡ leading leads top ++ last ∷ rest
  short : leads < most → (last < 128) × (n ≡ 128 * (high * 128 ^ leads + top) + last)
  long : leads ≡ most → (last < 256) × (n ≡ 256 * (high * 128 ^ leads + top) + last)

-- one more byte in front
one_more : (most high b : ℕ) (bytes : List ℕ) (n : ℕ) (rest : List ℕ) → 128 ≤ b → b < 256 → IsRead most (128 * high + (b - 128)) bytes n rest → IsRead (suc most) high (b ∷ bytes) n rest
one_more most high b bytes n rest leads fits r =
    let p = 128 ^ r.leads in
    let top = (b - 128) * p + r.top in
    let power : 128 ^ suc r.leads ≡ p * 128 = pow-suc 128 r.leads in
    let first : 128 + top / p ≡ b = omega (arith, div-mul-add (b - 128) p r.top r.small) in
    let others : top % p ≡ r.top = mod-mul-add (b - 128) p r.top r.small in
    let value : (128 * high + (b - 128)) * p + r.top ≡ high * 128 ^ suc r.leads + top = rw power (omega arith) in
    record {
      leads = suc r.leads;
      top = top;
      last = r.last;
      within = omega (arith, r.within);
      small = rw power (omega (arith, mul-add-lt (b - 128) p r.top 128 (omega arith) r.small));
      parts = rw (first, others) (ap (λ (bs : List ℕ). b ∷ bs) r.parts);
      short = λ lt. ((r.short (omega arith)).0, (r.short (omega arith)).1 ∙ ap (λ v. 128 * v + r.last) value);
      long = λ e. ((r.long (omega arith)).0, (r.long (omega arith)).1 ∙ ap (λ v. 256 * v + r.last) value);
    }

is_read : (most high : ℕ) (bytes : List ℕ) (n : ℕ) (rest : List ℕ) → IsBytes bytes → number_from most high bytes ≡ Ok (n, rest) → IsRead most high bytes n rest
is_read zero high [] n rest fits e = absurd cc
is_read (suc more) high [] n rest fits e = absurd cc
is_read zero high (b ∷ bytes) n rest fits e =
    let same = same_read (256 * high + b, bytes) (n, rest) e in
    record {
      leads = 0;
      top = 0;
      last = b;
      within = omega arith;
      small = omega arith;
      parts = ap (λ (p : ℕ × List ℕ). b ∷ p.1) same;
      short = λ lt. absurd (omega arith);
      long = λ _. (fits 0, omega (arith, ap (λ (p : ℕ × List ℕ). p.0) same));
    }
is_read (suc more) high (b ∷ bytes) n rest fits e =
    elim (cases_lt b 128) [
      | inl lt ↦
          let test : ltb b 128 ≡ true = lt-ltb b 128 lt in
          let same = same_read (128 * high + b, bytes) (n, rest) (rw test at e) in
          record {
            leads = 0;
            top = 0;
            last = b;
            within = omega arith;
            small = omega arith;
            parts = ap (λ (p : ℕ × List ℕ). b ∷ p.1) same;
            short = λ _. (lt, omega (arith, ap (λ (p : ℕ × List ℕ). p.0) same));
            long = λ none. absurd (omega arith);
          }
      | inr ge ↦
          let test : ltb b 128 ≡ false = le-ltb b 128 ge in
          one_more more high b bytes n rest ge (fits 0) (is_read more (128 * high + (b - 128)) bytes n rest (IsBytes-tail b bytes fits) (rw test at e))
    ]

-- nine bytes have 64 bits
pub number_small : (bytes : List ℕ) (n : ℕ) (rest : List ℕ) → IsBytes bytes → number_at bytes ≡ Ok (n, rest) → n < 2 ^ 64
unfolding number_at
number_small bytes n rest fits e =
    let r = is_read 8 0 bytes n rest fits e in
    let bits : r.top < 2 ^ 56 = omega (arith, r.small, pow-le-pow_right {n = 128} (omega arith) {i = r.leads} {j = 8} r.within) in
    elim (cases_lt r.leads 8) [
      | inl lt ↦ omega (arith, (r.short lt).0, (r.short lt).1)
      | inr ge ↦ let whole : r.leads ≡ 8 = omega (arith, r.within) in omega (arith, (r.long whole).0, (r.long whole).1)
    ]

pub varint_written : (bytes : List ℕ) (n : ℕ) (rest : List ℕ) → IsBytes bytes → number_at bytes ≡ Ok (n, rest) → used bytes rest ≡ varint_len n → bytes ≡ varint n ++ rest
unfolding number_at varint
varint_written bytes n rest fits e least =
    let r = is_read 8 0 bytes n rest fits e in
    let len = varint_len_is n in
    let count : length bytes ≡ r.leads + suc (length rest) = ap length r.parts ∙ length-append (leading r.leads r.top) (r.last ∷ rest) ∙ ap (λ k. k + suc (length rest)) (length-leading r.leads r.top) in
    elim (cases_lt n (2 ^ 56)) [
      | inl lt ↦
          let short = r.short (omega (arith, (len.short lt).0)) in
          let k : varint_len n - 1 ≡ r.leads = omega arith in
          let top : n / 128 ≡ r.top = omega (arith, short.0, short.1) in
          let last : n % 128 ≡ r.last = omega (arith, short.0, short.1) in
          rw (lt-ltb n (2 ^ 56) lt, k, top, last) (r.parts ∙ sym (append_assoc (leading r.leads r.top) (r.last ∷ []) rest))
      | inr ge ↦
          let k : r.leads ≡ 8 = omega (arith, len.long ge) in
          let long = r.long k in
          let top : n / 256 ≡ r.top = omega (arith, long.0, long.1) in
          let last : n % 256 ≡ r.last = omega (arith, long.0, long.1) in
          rw (le-ltb n (2 ^ 56) ge, top, last) (subst (λ (leads : ℕ). bytes ≡ leading leads r.top ++ r.last ∷ rest) k r.parts)
    ]
