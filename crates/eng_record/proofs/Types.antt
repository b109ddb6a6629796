-- Types of values, and their numbers.
use Rattle.std.proofs.Common.{◌≡◌, ℕ, zero, suc, ◌+◌, ◌-◌, ◌*◌, ◌/◌, ◌%◌, ◌^◌, ◌<◌, ◌≤◌, Bool, true, false, cond, eqb, leb, Option, Some, refl, sym, subst, ◌∙◌, arith}
use Rattle.std.specs.Prelude.{ℤ, ⊤}
use Rattle.std.proofs.lemmas.Bool.{eq-eqb, ne_eqb, eqb-true, eqb-false, lt-leb, leb-true, leb-false}
use Rattle.eng_value.specs.declared.value.Value.{Value}
use Rattle.eng_value.specs.declared.value.Value.TheVariants as value
use Rattle.eng_record.specs.declared.serial_type.SerialType.{SerialType}
use Rattle.eng_record.specs.declared.serial_type.SerialType.TheVariants as types
use Rattle.eng_record.specs.Spelling.{integer_len, integer_type, type_of, code, IsSpellableValue}
use Rattle.eng_record.specs.Reading.{type_of_code}
use Rattle.eng_record.proofs.Integers.{IsWidth, one, two, three, four, six, eight, IsLenOf, zero_len, one_len, width_len, integer_len_is}

-- ---- numbers of types

-- an integer's type has one of the six lengths
abbrev pub IsType : SerialType → Type 0
IsType types.Null = ⊤
IsType (types.Integer k) = IsWidth k
IsType types.Zero = ⊤
IsType types.One = ⊤
IsType (types.Blob n) = ⊤
IsType (types.Text n) = ⊤

integer_coded : (k : ℕ) → IsWidth k → type_of_code (code (types.Integer k)) ≡ Some (types.Integer k)
integer_coded k one = refl
integer_coded k two = refl
integer_coded k three = refl
integer_coded k four = refl
integer_coded k six = refl
integer_coded k eight = refl

large_code : (n : ℕ) → 12 ≤ n → type_of_code n ≡ cond (eqb (n % 2) 0) (Some (types.Blob ((n - 12) / 2))) (Some (types.Text ((n - 13) / 2)))
large_code n large =
    rw (ne_eqb n 0 (λ e. omega arith), lt-leb n 4 (omega arith), ne_eqb n 5 (λ e. omega arith), ne_eqb n 6 (λ e. omega arith), ne_eqb n 7 (λ e. omega arith), ne_eqb n 8 (λ e. omega arith), ne_eqb n 9 (λ e. omega arith), lt-leb n 11 (omega arith)) refl

-- the number of a type tells the type
pub type_again : (kind : SerialType) → IsType kind → type_of_code (code kind) ≡ Some kind
type_again types.Null h = refl
type_again (types.Integer k) h = integer_coded k h
type_again types.Zero h = refl
type_again types.One h = refl
type_again (types.Blob n) h =
    let even : eqb ((12 + 2 * n) % 2) 0 ≡ true = eq-eqb _ _ (omega arith) in
    let half : (12 + 2 * n - 12) / 2 ≡ n = omega arith in
    large_code (12 + 2 * n) (omega arith) ∙ rw (even, half) refl
type_again (types.Text n) h =
    let odd : eqb ((13 + 2 * n) % 2) 0 ≡ false = ne_eqb _ _ (λ e. omega arith) in
    let half : (13 + 2 * n - 13) / 2 ≡ n = omega arith in
    large_code (13 + 2 * n) (omega arith) ∙ rw (odd, half) refl

-- a type that has the number n
pub record IsCoded (n : ℕ) (kind : SerialType) : Type 0 where
  pub number : code kind ≡ n
  pub is_type : IsType kind

pick : {A : Type 0} (P : Type 0) (test : Bool) (x y z : A) → (test ≡ true → x ≡ z → P) → (test ≡ false → y ≡ z → P) → cond test x y ≡ z → P
pick P true x y z yes_so not_so e = yes_so refl e
pick P false x y z yes_so not_so e = not_so refl e

some : SerialType → Option SerialType
some kind = Some kind

is_coded : (n : ℕ) (x kind : SerialType) → IsCoded n x → Some x ≡ Some kind → IsCoded n kind
is_coded n x kind made e =
    let same : x ≡ kind = cc in
    subst (IsCoded n) same made

small_width : (n : ℕ) → (n ≡ 0 → ⊥) → n ≤ 4 → IsWidth n
small_width zero some most = absurd (some refl)
small_width (suc zero) some most = one
small_width (suc (suc zero)) some most = two
small_width (suc (suc (suc zero))) some most = three
small_width (suc (suc (suc (suc zero)))) some most = four
small_width (suc (suc (suc (suc (suc n))))) some most = absurd (omega arith)

-- the type of a number has that number
pub type_written : (n : ℕ) (kind : SerialType) → type_of_code n ≡ Some kind → IsCoded n kind
type_written n kind =
    pick (IsCoded n kind) (eqb n 0) _ _ _ (λ t. is_coded n types.Null kind (record { number = sym (eqb-true n 0 t); is_type = tt })) (λ t0.
    pick (IsCoded n kind) (leb n 4) _ _ _ (λ t. is_coded n (types.Integer n) kind (record { number = rw t refl; is_type = small_width n (eqb-false n 0 t0) (leb-true n 4 t) })) (λ t4.
    pick (IsCoded n kind) (eqb n 5) _ _ _ (λ t. is_coded n (types.Integer 6) kind (record { number = sym (eqb-true n 5 t); is_type = six })) (λ t5.
    pick (IsCoded n kind) (eqb n 6) _ _ _ (λ t. is_coded n (types.Integer 8) kind (record { number = sym (eqb-true n 6 t); is_type = eight })) (λ t6.
    pick (IsCoded n kind) (eqb n 7) _ _ _ (λ t e. absurd cc) (λ t7.
    pick (IsCoded n kind) (eqb n 8) _ _ _ (λ t. is_coded n types.Zero kind (record { number = sym (eqb-true n 8 t); is_type = tt })) (λ t8.
    pick (IsCoded n kind) (eqb n 9) _ _ _ (λ t. is_coded n types.One kind (record { number = sym (eqb-true n 9 t); is_type = tt })) (λ t9.
    pick (IsCoded n kind) (leb n 11) _ _ _ (λ t e. absurd cc) (λ t11.
    pick (IsCoded n kind) (eqb (n % 2) 0) _ _ _
    (λ t. is_coded n (types.Blob ((n - 12) / 2)) kind (record { number = omega (arith, leb-false n 11 t11, eqb-true (n % 2) 0 t); is_type = tt }))
    (λ t. is_coded n (types.Text ((n - 13) / 2)) kind (record { number = omega (arith, leb-false n 11 t11, eqb-false (n % 2) 0 t); is_type = tt }))))))))))

-- ---- types of values

-- a type whose number fits a varint
pub record IsSmallType (kind : SerialType) : Type 0 where
  pub is_type : IsType kind
  pub small : code kind < 2 ^ 64

pub integer_typed : (n : ℤ) (k : ℕ) → IsWidth k → integer_type n k ≡ types.Integer k
integer_typed n k one = refl
integer_typed n k two = refl
integer_typed n k three = refl
integer_typed n k four = refl
integer_typed n k six = refl
integer_typed n k eight = refl

width_is_small : (k : ℕ) → IsWidth k → IsSmallType (types.Integer k)
width_is_small k one = record { is_type = one; small = omega arith }
width_is_small k two = record { is_type = two; small = omega arith }
width_is_small k three = record { is_type = three; small = omega arith }
width_is_small k four = record { is_type = four; small = omega arith }
width_is_small k six = record { is_type = six; small = omega arith }
width_is_small k eight = record { is_type = eight; small = omega arith }

integer_is_small : (n : ℤ) (k : ℕ) → IsLenOf n k → IsSmallType (integer_type n k)
integer_is_small n k (zero_len e) = subst (λ (m : ℤ). IsSmallType (integer_type m 0)) (sym e) (record { is_type = tt; small = omega arith })
integer_is_small n k (one_len e) = subst (λ (m : ℤ). IsSmallType (integer_type m 0)) (sym e) (record { is_type = tt; small = omega arith })
integer_is_small n k (width_len width fits) = rw (integer_typed n k width) (width_is_small k width)

pub type_is_small : (v : Value) → IsSpellableValue v → IsSmallType (type_of v)
type_is_small value.Null h = record { is_type = tt; small = omega arith }
type_is_small (value.Integer n) h = integer_is_small n (integer_len n) (integer_len_is n h)
type_is_small (value.Text bytes) h = record { is_type = tt; small = h.1 }
type_is_small (value.Blob bytes) h = record { is_type = tt; small = h }
