-- Registers that are moved or written one after another.
use Rattle.std.proofs.Common.{◌≡◌, ◌≢◌, ℕ, suc, ◌+◌, ◌-◌, ◌<◌, List, ap, sym, ◌∙◌, arith}
use Rattle.std.specs.Prelude.{slice_set}
use Rattle.std.proofs.lemmas.List.{get_or-set_other}
use Rattle.eng_value.specs.declared.out.Out.{Out}
use Rattle.eng_value.specs.declared.out.Out.TheVariants.{Good}
use Rattle.eng_value.specs.declared.value.Value.TheVariants.{Null}
use Rattle.vm_code.specs.Machine.{columns_from, outs_from, put_all, read, row_of_outs}
use Rattle.vm_code.proofs.Registers.{outs_same}

-- the registers behind one that is written are as they were
elsewhere : (regs : List Out) (at : ℕ) (v : Out) (k : ℕ) → at < k → read (slice_set regs at v) k ≡ read regs k
elsewhere regs at v k lt =
    let other : k ≢ at = omega arith in
    get_or-set_other regs at k v (Good Null) other

-- what is left to do, where so many were moved
abbrev pub left_over : List Out → List Out → ℕ → ℕ → ℕ → ℕ → List Out
left_over own from to first count i = put_all own (to + i) (outs_from from (first + i) (count - i))

pub one_moved : (own from : List Out) (to first count i : ℕ) → i < count
    → left_over (slice_set own (to + i) (read from (first + i))) (slice_set from (first + i) (Good Null)) to first count (i + 1) ≡ left_over own from to first count i
one_moved own from to first count i lt =
    let more : count - i ≡ suc (count - (i + 1)) = omega arith in
    let target : to + (i + 1) ≡ to + i + 1 = omega arith in
    let source : first + (i + 1) ≡ first + i + 1 = omega arith in
    let rest = outs_same (slice_set from (first + i) (Good Null)) from (count - (i + 1)) (first + i + 1) (λ k le less. elsewhere from (first + i) (Good Null) k (omega arith)) in
    let own' = slice_set own (to + i) (read from (first + i)) in
    let from' = slice_set from (first + i) (Good Null) in
    ap (λ t. put_all own' t (outs_from from' (first + (i + 1)) (count - (i + 1)))) target
    ∙ ap (λ f. put_all own' (to + i + 1) (outs_from from' f (count - (i + 1)))) source
    ∙ ap (put_all own' (to + i + 1)) rest
    ∙ ap (λ n. put_all own (to + i) (outs_from from (first + i) n)) (sym more)

-- a row's columns that are still to be written, where so many were
pub one_loaded : (own outs : List Out) (to count i : ℕ) → i < count → put_all (slice_set own (to + i) (read outs i)) (to + (i + 1)) (columns_from (row_of_outs outs) (i + 1) (count - (i + 1))) ≡ put_all own (to + i) (columns_from (row_of_outs outs) i (count - i))
one_loaded own outs to count i lt =
    let more : count - i ≡ suc (count - (i + 1)) = omega arith in
    let target : to + (i + 1) ≡ to + i + 1 = omega arith in
    ap (λ t. put_all (slice_set own (to + i) (read outs i)) t (columns_from (row_of_outs outs) (i + 1) (count - (i + 1)))) target
    ∙ ap (λ n. put_all own (to + i) (columns_from (row_of_outs outs) i n)) (sym more)
