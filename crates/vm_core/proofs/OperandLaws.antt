-- What operands read.
use Rattle.std.proofs.Common.{◌≡◌, ℕ, ℤ, List, [], ◌∷◌, zero, suc, map, Some, None, refl, ap, ◌∙◌}
use Rattle.std.specs.Prelude.{slice_get}
use Rattle.eng_value.specs.declared.out.Out.{Out}
use Rattle.eng_value.specs.declared.out.Out.TheVariants.{Good, Bad}
use Rattle.eng_value.specs.declared.value.Value.TheVariants.{Null, Integer, Text, Blob}
use Rattle.vm_code.specs.declared.operand.Operand.{Operand}
use Rattle.vm_code.specs.declared.operand.Operand.TheVariants as operand
use Rattle.vm_code.specs.Machine.{World, Setting, operand_of, read}
use Rattle.vm_core.specs.Operands.{operand_now}
use Rattle.vm_core.specs.Paused.{Progress, state_at}
use Rattle.vm_store.specs.Held.{held_integer, held_text}

-- the machine over lists reads the same
pub reads_now : (m : Setting) (p : Progress) (w : World) (o : Operand) → operand_now m.params p w o ≡ operand_of m (state_at p w []) o
reads_now m p w (operand.Register r) = refl
reads_now m p w (operand.Constant out) = refl
reads_now m p w (operand.Parameter k) = refl
reads_now m p w (operand.Argument k) = refl
reads_now m p w (operand.Column c k) = refl
reads_now m p w (operand.Rowid c) = refl

pub all_read_now : (m : Setting) (p : Progress) (w : World) (os : List Operand) → map (operand_now m.params p w) os ≡ map (operand_of m (state_at p w [])) os
all_read_now m p w [] = refl
all_read_now m p w (o ∷ os) =
    ap (λ v. v ∷ map (operand_now m.params p w) os) (reads_now m p w o) ∙ ap (λ l. operand_of m (state_at p w []) o ∷ l) (all_read_now m p w os)

-- what holds an integer or a text is that
pub is_integer : (out : Out) (n : ℤ) → Some n ≡ held_integer out → out ≡ Good (Integer n)
is_integer (Good Null) n e = absurd (cc)
is_integer (Good (Integer m)) n e = cc
is_integer (Good (Text text)) n e = absurd (cc)
is_integer (Good (Blob bytes)) n e = absurd (cc)
is_integer (Bad causes) n e = absurd (cc)

pub is_text : (out : Out) (text : List ℕ) → Some text ≡ held_text out → out ≡ Good (Text text)
is_text (Good Null) text e = absurd (cc)
is_text (Good (Integer m)) text e = absurd (cc)
is_text (Good (Text other)) text e = cc
is_text (Good (Blob bytes)) text e = absurd (cc)
is_text (Bad causes) text e = absurd (cc)

-- a register that is not there reads NULL
pub none_there : (regs : List Out) (r : ℕ) → None ≡ slice_get regs r → Good Null ≡ read regs r
none_there [] zero e = refl
none_there [] (suc r) e = refl
none_there (x ∷ regs) zero e = absurd (cc)
none_there (x ∷ regs) (suc r) e = none_there regs r e
