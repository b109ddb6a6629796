-- Sorters: the order of rows by terms, and rows that are left out one after another.
use Rattle.std.proofs.Common.{◌≡◌, ℕ, zero, suc, ◌+◌, List, [], ◌∷◌, Bool, true, false, nat_lt, length, drop, is_some, slice_get, if◌then◌else◌, Result, Ok, Err, OnOk, Bor, refl, ap, ◌∙◌, arith}
use Rattle.std.proofs.lemmas.Bool.{lt-ltb}
use denote.Param.Members.{Mut}
use Rattle.std.specs.Cmp.{IsStrictWeakOrder, IsTotalOrder}
use Rattle.std.specs.Fn.{Called, ComparesAs}
use Rattle.std.specs.List.Sorted.{IsSortedByClosure, IsStableByClosure}
use Rattle.std.specs.Ordering.{is_lt}
use Rattle.std.specs.declared.alloc.AllocError.{AllocError}
use Rattle.std.specs.declared.cmp.Ordering.{Ordering}
use Rattle.std.proofs.lemmas.Cmp.{back_total, on_total, then_total}
use Rattle.std.proofs.lemmas.Fn.{always_returns_same}
use Rattle.std.proofs.lemmas.List.MinMax.{ranks_by}
use Rattle.eng_index.specs.Keys.{key_cmp, term_cmp, term_value}
use Rattle.eng_index.specs.declared.key_term.KeyTerm.{KeyTerm}
use Rattle.eng_value.specs.Arrangements.{arranged}
use Rattle.eng_value.specs.Collations.{compare}
use Rattle.eng_value.specs.Environments.{ItemRow}
use Rattle.eng_value.specs.HostMeanings.{no_hosts}
use Rattle.eng_value.specs.declared.built.Built.{Built}
use Rattle.eng_value.specs.declared.collation.Collation.TheVariants as collation
use Rattle.eng_value.proofs.CollationLaws.{compare_total}
use Rattle.eng_value.proofs.Sorting.{sorted_is_arranged}
use Rattle.vm_code.specs.Machine.{comes_before, compared}

-- ---- the order of rows

values_total : (b : Built) → IsTotalOrder (compare b)
values_total b = compare_total no_hosts (collation.Built b)

term_total : (t : KeyTerm) → IsTotalOrder (term_cmp t)
term_total t = by t.descending
  where
    by : (descending : Bool) → IsTotalOrder (λ v w. if descending then compare t.collation w v else compare t.collation v w)
    by true = back_total (values_total t.collation)
    by false = values_total t.collation

rows_total : (terms : List KeyTerm) → IsTotalOrder (key_cmp terms)
rows_total [] = record { antisymm = λ x y. refl; trans = λ x y z e f. e; congr = λ x y z e. refl }
rows_total (t ∷ terms) = then_total (on_total (term_value t) (term_total t)) (rows_total terms)

pub rows_ranked : (terms : List KeyTerm) → IsStrictWeakOrder (comes_before terms)
rows_ranked terms = ranks_by (rows_total terms) compared

-- a sort of std by a closure that compares rows by terms arranges them
pub arranged_by : {F : Type 0} {g : Mut F (Bor ItemRow × (Bor ItemRow × Unit {0})) Ordering} {f : F} (terms : List KeyTerm) (r : Result (Unit {0}) AllocError) (xs ys : List ItemRow) → OnOk r (IsSortedByClosure g f ys) → IsStableByClosure g f xs ys → ((a : Bor ItemRow × (Bor ItemRow × Unit {0})) (o : Ordering) (f' : F) → Called g f a o f' → (o ≡ key_cmp terms (compared a.0.now) (compared a.1.0.now)) × (f' ≡ f)) → OnOk r (ys ≡ arranged (comes_before terms) xs)
arranged_by {F} {g} {f} terms r xs ys up stable calls = by r up
  where
    compares : ComparesAs g (comes_before terms) f
    compares =
        always_returns_same g (λ a o. is_lt o ≡ comes_before terms a.0.now a.1.0.now) f (λ a o f' k. (ap is_lt (calls a o f' k).0, (calls a o f' k).1))

    by : (r : Result (Unit {0}) AllocError) → OnOk r (IsSortedByClosure g f ys) → OnOk r (ys ≡ arranged (comes_before terms) xs)
    by (Ok u) up =
        sorted_is_arranged (comes_before terms) (rows_ranked terms) xs ys (up (comes_before terms) (rows_ranked terms) compares) (stable (comes_before terms) (rows_ranked terms) compares)
    by (Err e) up = tt

-- ---- rows that are left out

pub drop_one : {X : Type 0} (n : ℕ) (xs : List X) → drop (n + 1) xs ≡ drop 1 (drop n xs)
drop_one zero [] = refl
drop_one zero (x ∷ xs) = refl
drop_one (suc n) [] = let more : suc n + 1 ≡ suc (n + 1) = omega arith in ap (λ k. drop k []) more
drop_one (suc n) (x ∷ xs) =
    let more : suc n + 1 ≡ suc (n + 1) = omega arith in ap (λ k. drop k (x ∷ xs)) more ∙ drop_one n xs

pub has_second : {X : Type 0} (n : ℕ) (xs : List X) → nat_lt (n + 1) (length xs) ≡ is_some (slice_get (drop n xs) 1)
has_second zero [] = refl
has_second zero (x ∷ []) = refl
has_second zero (x ∷ y ∷ xs) = lt-ltb 1 (suc (suc (length xs))) (omega arith)
has_second (suc n) [] = grind arith
has_second (suc n) (x ∷ xs) = one_less n (length xs) ∙ has_second n xs
  where
    one_less : (k m : ℕ) → nat_lt (suc k + 1) (suc m) ≡ nat_lt (k + 1) m
    one_less k m = grind arith
