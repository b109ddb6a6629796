-- Rows that a sink takes, some and then others, and its count of faults.
use Rattle.std.proofs.Common.{◌≤◌, ℕ, [], ◌++◌, Some, None, Option, sym, ap, ◌∙◌, arith, append_assoc, append-nil}
use Rattle.host_traits.specs.Faults.{Rose}
use Rattle.engine.specs.Taking.{Rows, Adds}

pub adds_none : (t : Option Rows) → Adds t t []
adds_none None = tt
adds_none (Some xs) = sym (append-nil xs)

pub adds_then : (t u v : Option Rows) (xs ys : Rows) → Adds t u xs → Adds u v ys → Adds t v (xs ++ ys)
adds_then None u v xs ys a b = tt
adds_then (Some ts) None v xs ys a b = absurd a
adds_then (Some ts) (Some us) None xs ys a b = absurd b
adds_then (Some ts) (Some us) (Some vs) xs ys a b = b ∙ ap (λ l. l ++ ys) a ∙ append_assoc ts xs ys

-- a count that has risen since later has risen since before
pub rose_since : (a b c : ℕ) → a ≤ b → Rose b c → Rose a c
rose_since a b c le rose = omega arith
