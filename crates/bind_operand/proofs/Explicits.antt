-- The collation of several operands.
use Rattle.std.proofs.Common.{◌≡◌, List, [], ◌∷◌, ◌++◌, Option, Some, None, refl}
use Rattle.eng_value.specs.declared.collation.Collation.{Collation}
use Rattle.sql_words.specs.Refusals.{or_else}
use Rattle.sql_bound.specs.declared.scopes.Operand.{Operand}
use Rattle.sql_bound.specs.Operands.{first_explicit}

pub or_else-none : (a : Option Collation) → or_else a None ≡ a
or_else-none None = refl
or_else-none (Some a) = refl

pub or_else-assoc : (a b c : Option Collation) → or_else (or_else a b) c ≡ or_else a (or_else b c)
or_else-assoc None b c = refl
or_else-assoc (Some a) b c = refl

pub first_explicit-append : (xs ys : List Operand) → first_explicit (xs ++ ys) ≡ or_else (first_explicit xs) (first_explicit ys)
first_explicit-append [] ys = refl
first_explicit-append (x ∷ xs) ys = rw (or_else-assoc, ← first_explicit-append xs ys) refl

pub ruleset or_elses = (or_else-none, or_else-assoc)

pub ruleset first_explicit_appends = (first_explicit-append, or_else-assoc)
