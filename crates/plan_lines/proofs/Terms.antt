-- Terms that are sought among others.
use Rattle.std.proofs.Common.{◌≡◌, ℕ, zero, suc, ◌<◌, List, [], ◌∷◌, false, drop, length, refl, arith}
use Rattle.eng_index.specs.declared.key_term.KeyTerm.{KeyTerm}
use Rattle.plan_lines.specs.Lines.{begins_with}

-- no terms begin with those from a place on
pub begins_with-none : (rest sought : List KeyTerm) (i : ℕ) → length rest < 1 → i < length sought → begins_with rest (drop i sought) ≡ false
begins_with-none (t ∷ rest) sought i none there = absurd (omega (arith, none))
begins_with-none [] [] i none there = absurd (omega (arith, there))
begins_with-none [] (s ∷ sought) zero none there = refl
begins_with-none [] (s ∷ sought) (suc i) none there = begins_with-none [] sought i none (omega (arith, there))
