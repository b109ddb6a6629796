-- The values of registers in front of the first that is bad.
use Rattle.std.proofs.Common.{◌≡◌, ℕ, suc, ◌+◌, ◌-◌, ◌<◌, List, [], ◌∷◌, ◌++◌, Some, None, sym, ap, ◌∙◌, arith, append-nil, append_assoc, refl}
use Rattle.eng_index.specs.Searching.{front_values}
use Rattle.eng_value.specs.declared.out.Out.{Out}
use Rattle.eng_value.specs.declared.out.Out.TheVariants.{Good, Bad}
use Rattle.eng_value.specs.declared.value.Value.{Value}
use Rattle.vm_code.specs.Machine.{outs_from, read}
use Rattle.vm_store.specs.Held.{held_value}

-- those that are still to be read, of so many from the first on
abbrev pub fronts_left : List Out → ℕ → ℕ → ℕ → List Value
fronts_left regs first count i = front_values (outs_from regs (first + i) (count - i))

module _ (regs : List Out) (first count i : ℕ) (lt : i < count) where
  split : fronts_left regs first count i ≡ front_values (read regs (first + i) ∷ outs_from regs (first + (i + 1)) (count - (i + 1)))
  split =
      let more : count - i ≡ suc (count - (i + 1)) = omega arith in
      let next : first + i + 1 ≡ first + (i + 1) = omega arith in
      ap (λ n. front_values (outs_from regs (first + i) n)) more
      ∙ ap (λ k. front_values (read regs (first + i) ∷ outs_from regs k (count - (i + 1)))) next

  one_good : (out : Out) (v : Value) (rest : List Out) → held_value out ≡ Some v → front_values (out ∷ rest) ≡ v ∷ front_values rest
  one_good (Good w) v rest is = let same : w ≡ v = cc in ap (λ x. x ∷ front_values rest) same
  one_good (Bad causes) v rest is = absurd (cc)

  one_bad : (out : Out) (rest : List Out) → held_value out ≡ None → front_values (out ∷ rest) ≡ []
  one_bad (Good w) rest is = absurd (cc)
  one_bad (Bad causes) rest is = refl

  pub front_more : (values : List Value) (v : Value) (all : List Value) → held_value (read regs (first + i)) ≡ Some v → values ++ fronts_left regs first count i ≡ all → (values ++ v ∷ []) ++ fronts_left regs first count (i + 1) ≡ all
  front_more values v all is so_far =
      append_assoc values (v ∷ []) (fronts_left regs first count (i + 1))
      ∙ ap (λ l. values ++ l) (sym (split ∙ one_good (read regs (first + i)) v (outs_from regs (first + (i + 1)) (count - (i + 1))) is))
      ∙ so_far

  pub front_ends : (values all : List Value) → held_value (read regs (first + i)) ≡ None → values ++ fronts_left regs first count i ≡ all → values ≡ all
  front_ends values all is so_far =
      sym (append-nil values)
      ∙ ap (λ l. values ++ l) (sym (split ∙ one_bad (read regs (first + i)) (outs_from regs (first + (i + 1)) (count - (i + 1))) is))
      ∙ so_far
