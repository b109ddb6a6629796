-- The keys of rows stand to one another as the rows.
use Rattle.std.proofs.Common.{◌≡◌, ℕ, suc, ◌+◌, ◌-◌, ◌<◌, List, [], ◌∷◌, ◌++◌, false, length, drop, min, get_or, refl, sym, ap, ap₂, ◌∙◌, subst, arith, add-one, append_assoc, append-nil}
use Rattle.std.proofs.Math.Seq.{drop-cons}
use Rattle.std.specs.Ordering.{is_le, is_lt, ordering_then}
use Rattle.std.specs.List.{AllByRecursion}
use Rattle.std.specs.declared.cmp.Ordering.{Ordering}
use Rattle.std.specs.declared.cmp.Ordering.TheVariants.{Less, Equal, Greater}
use Rattle.eng_value.specs.Collations.{keyed}
use Rattle.eng_value.specs.Compare.{bytes_cmp}
use Rattle.eng_value.specs.declared.value.Value.{Value}
use Rattle.eng_key.specs.declared.key_part.KeyPart.{KeyPart}
use Rattle.eng_key.specs.RowKeys.{AreAlike, FrontsBound, IsSound, IsSoundRow, KeepsOrder, behind_front, directed_cmp, keyed_row, part_key, row_cmp, row_key, spelled_value, text_bytes}
use Rattle.eng_key.proofs.SpellingLaws.{spelled_value-begins, spelled_value-cmp, then-Equal, then_assoc}

-- ---- the order

row_key-cmp : (row other : List Value) (parts others : List KeyPart) (x y : List ℕ) → length row ≡ length other → AreAlike parts others → IsSoundRow row parts → IsSoundRow other others → bytes_cmp (row_key row parts ++ x) (row_key other others ++ y) ≡ ordering_then (row_cmp parts (keyed_row row parts) (keyed_row other others)) (bytes_cmp x y)
row_key-cmp [] [] [] others x y len alike h k = refl
row_key-cmp [] [] (p ∷ parts) others x y len alike h k = refl
row_key-cmp [] (w ∷ other) parts others x y len alike h k = absurd (omega arith)
row_key-cmp (v ∷ row) [] parts others x y len alike h k = absurd (omega arith)
row_key-cmp (v ∷ row) (w ∷ other) [] [] x y len alike h k = refl
row_key-cmp (v ∷ row) (w ∷ other) [] (q ∷ others) x y len alike h k = absurd alike
row_key-cmp (v ∷ row) (w ∷ other) (p ∷ parts) [] x y len alike h k = absurd alike
row_key-cmp (v ∷ row) (w ∷ other) (p ∷ parts) (q ∷ others) x y len alike h k =
    let behind = row_key row parts ++ x in
    let behind' = row_key other others ++ y in
    let standing = directed_cmp p.desc p.nulls_first (keyed (text_bytes p) v) (keyed (text_bytes q) w) in
    let rest = row_cmp parts (keyed_row row parts) (keyed_row other others) in
    ap₂ bytes_cmp (append_assoc (part_key p v) (row_key row parts) x) (append_assoc (part_key q w) (row_key other others) y)
    ∙ ap₂ (λ desc first. bytes_cmp (part_key p v ++ behind) (spelled_value desc first (keyed (text_bytes q) w) ++ behind')) (sym alike.0) (sym alike.1)
    ∙ spelled_value-cmp p.desc p.nulls_first (keyed (text_bytes p) v) (keyed (text_bytes q) w) behind behind' h.0 k.0
    ∙ ap (ordering_then standing) (row_key-cmp row other parts others x y (omega arith) alike.2 h.1 k.1)
    ∙ sym (then_assoc standing rest (bytes_cmp x y))

pub keeps_order : (row : List Value) (parts : List KeyPart) → IsSoundRow row parts → KeepsOrder row parts (row_key row parts)
keeps_order row parts sound other others len alike sound' =
    ap₂ bytes_cmp (sym (append-nil (row_key row parts))) (sym (append-nil (row_key other others)))
    ∙ row_key-cmp row other parts others [] [] len alike sound sound'
    ∙ then-Equal (row_cmp parts (keyed_row row parts) (keyed_row other others))

-- ---- fronts

parts_behind : List Value → List KeyPart → List KeyPart
parts_behind [] parts = parts
parts_behind (v ∷ row) [] = []
parts_behind (v ∷ row) (p ∷ parts) = parts_behind row parts

row_key-no_parts : (row : List Value) → row_key row [] ≡ []
row_key-no_parts [] = refl
row_key-no_parts (v ∷ row) = refl

row_key-append : (row rest : List Value) (parts : List KeyPart) → row_key (row ++ rest) parts ≡ row_key row parts ++ row_key rest (parts_behind row parts)
unfolding parts_behind
row_key-append [] rest parts = refl
row_key-append (v ∷ row) rest [] = sym (row_key-no_parts rest)
row_key-append (v ∷ row) rest (p ∷ parts) =
    ap (λ k. part_key p v ++ k) (row_key-append row rest parts) ∙ sym (append_assoc (part_key p v) (row_key row parts) (row_key rest (parts_behind row parts)))

not_below_none : (k : List ℕ) → is_lt (bytes_cmp k []) ≡ false
not_below_none [] = refl
not_below_none (b ∷ k) = refl

below_behind : (row : List Value) (parts : List KeyPart) → bytes_cmp (row_key row parts) (5 ∷ []) ≡ Less
below_behind [] parts = refl
below_behind (v ∷ row) [] = refl
below_behind (v ∷ row) (p ∷ parts) = spelled_value-begins p.desc p.nulls_first (keyed (text_bytes p) v) (row_key row parts)

lt-then : (o p : Ordering) → is_lt p ≡ false → is_lt (ordering_then o p) ≡ is_lt o
lt-then Less p is = refl
lt-then Equal p is = is
lt-then Greater p is = refl

le-then : (o p : Ordering) → p ≡ Less → is_lt (ordering_then o p) ≡ is_le o
le-then Less p is = refl
le-then Equal p is = ap is_lt is
le-then Greater p is = refl

pub fronts_bound : FrontsBound
fronts_bound row rest front parts others len alike sound sound' =
    let behind = row_key rest (parts_behind row parts) in
    let standing = row_cmp parts (keyed_row row parts) (keyed_row front others) in (
      ap is_lt (ap₂ bytes_cmp (row_key-append row rest parts) (sym (append-nil (row_key front others))) ∙ row_key-cmp row front parts others behind [] len alike sound sound') ∙ lt-then standing (bytes_cmp behind []) (not_below_none behind),
      ap is_lt (ap (λ k. bytes_cmp k (behind_front (row_key front others))) (row_key-append row rest parts) ∙ row_key-cmp row front parts others behind (5 ∷ []) len alike sound sound') ∙ le-then standing (bytes_cmp behind (5 ∷ [])) (below_behind rest (parts_behind row parts)),
    )

-- ---- as it is written

-- what is left of the key, and of the row, from a place on
row_key-from : (row : List Value) (parts : List KeyPart) (n : ℕ) (v : Value) (p : KeyPart) → n < length row → n < length parts → v ≡ get_or row n v → p ≡ get_or parts n p → row_key (drop n row) (drop n parts) ≡ part_key p v ++ row_key (drop (n + 1) row) (drop (n + 1) parts)
row_key-from row parts n v p lt lt' is is' =
    rw add-one (ap₂ row_key (drop-cons row n v lt) (drop-cons parts n p lt') ∙ ap₂ (λ w q. part_key q w ++ row_key (drop (suc n) row) (drop (suc n) parts)) (sym is) (sym is'))

keyed_row-from : (row : List Value) (parts : List KeyPart) (n : ℕ) (v : Value) (p : KeyPart) → n < length row → n < length parts → v ≡ get_or row n v → p ≡ get_or parts n p → keyed_row (drop n row) (drop n parts) ≡ keyed (text_bytes p) v ∷ keyed_row (drop (n + 1) row) (drop (n + 1) parts)
keyed_row-from row parts n v p lt lt' is is' =
    rw add-one (ap₂ keyed_row (drop-cons row n v lt) (drop-cons parts n p lt') ∙ ap₂ (λ w q. keyed (text_bytes q) w ∷ keyed_row (drop (suc n) row) (drop (suc n) parts)) (sym is) (sym is'))

-- the key so far, and that what is left is sound as far as the whole is
pub record IsSpelled (row : List Value) (parts : List KeyPart) (n : ℕ) (made : List ℕ) : Type 0 where
  pub key : made ++ row_key (drop n row) (drop n parts) ≡ row_key row parts
  pub sound : IsSoundRow (drop n row) (drop n parts) → IsSoundRow row parts

pub is_spelled-more : (row : List Value) (parts : List KeyPart) (n : ℕ) (made more : List ℕ) (v : Value) (p : KeyPart) → n < length row → n < length parts → v ≡ get_or row n v → p ≡ get_or parts n p → more ≡ made ++ part_key p v → IsSound (keyed (text_bytes p) v) → IsSpelled row parts n made → IsSpelled row parts (n + 1) more
is_spelled-more row parts n made more v p lt lt' is is' e sound before = record {
  key =
      ap (λ k. k ++ row_key (drop (n + 1) row) (drop (n + 1) parts)) e
      ∙ append_assoc made (part_key p v) (row_key (drop (n + 1) row) (drop (n + 1) parts))
      ∙ ap (λ k. made ++ k) (sym (row_key-from row parts n v p lt lt' is is'))
      ∙ before.key;
  sound = λ rest. before.sound (subst (AllByRecursion IsSound) (sym (keyed_row-from row parts n v p lt lt' is is')) (sound, rest));
}

nothing_left : (row : List Value) (parts : List KeyPart) (n : ℕ) → n ≡ min (length row) (length parts) → (row_key (drop n row) (drop n parts) ≡ []) × (keyed_row (drop n row) (drop n parts) ≡ [])
nothing_left [] parts n e = let none : n ≡ 0 = omega (arith, e) in rw none (refl, refl)
nothing_left (v ∷ row) [] n e = let none : n ≡ 0 = omega (arith, e) in rw none (refl, refl)
nothing_left (v ∷ row) (p ∷ parts) n e =
    let more : n ≡ suc (n - 1) = omega (arith, e) in
    rw more (nothing_left row parts (n - 1) (omega (arith, e)))

pub is_spelled-all : (row : List Value) (parts : List KeyPart) (n : ℕ) (made : List ℕ) → n ≡ min (length row) (length parts) → IsSpelled row parts n made → (made ≡ row_key row parts) × IsSoundRow row parts
is_spelled-all row parts n made e so_far =
    let none = nothing_left row parts n e in (
      sym (append-nil made) ∙ ap (λ k. made ++ k) (sym none.0) ∙ so_far.key,
      so_far.sound (subst (AllByRecursion IsSound) (sym none.1) tt),
    )
