-- Registers that are written.
use Rattle.std.proofs.Common.{◌≡◌, ℕ, List, false, refl, ap, ◌∙◌}
use Rattle.std.specs.Prelude.{slice_set}
use Rattle.std.proofs.lemmas.List.{set-set, set-get_or}
use Rattle.eng_value.specs.Applied.{merged}
use Rattle.eng_value.specs.declared.out.Out.{Out}
use Rattle.eng_value.specs.declared.out.Out.TheVariants.{Good, Bad}
use Rattle.eng_value.specs.declared.value.Value.TheVariants.{Null}
use Rattle.vm_code.specs.Machine.{is_bad, read}

-- what is written twice: the first is gone
pub written_twice : {A : Type 0} (xs : List A) (i : ℕ) (a b : A) → slice_set (slice_set xs i a) i b ≡ slice_set xs i b
written_twice xs i a b = set-set xs i a b

good_merges : (a b : Out) → is_bad a ≡ false → merged a b ≡ b
good_merges (Good v) b e = refl
good_merges (Bad causes) b e = absurd (cc)

-- the causes of a register that is good
pub good_adds_nothing : (regs : List Out) (from to : ℕ) → is_bad (read regs from) ≡ false → slice_set regs to (merged (read regs from) (read regs to)) ≡ regs
good_adds_nothing regs from to e = ap (slice_set regs to) (good_merges (read regs from) (read regs to) e) ∙ set-get_or regs to (Good Null)
