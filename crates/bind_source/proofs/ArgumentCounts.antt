-- Arguments that there are not.
use Rattle.std.proofs.Common.{◌≡◌, ℕ, ◌<◌, List, [], ◌∷◌, length, Ok, Err, refl, arith}
use Rattle.eng_value.specs.declared.cause.Cause.TheVariants.{Arity}
use Rattle.sql_bound.specs.Carriers.{Expression}
use Rattle.sql_bound.specs.Froms.{without_arguments}

pub without-none : (name : List ℕ) (args : List Expression) → length args ≡ 0 → without_arguments name args ≡ Ok tt
without-none name [] none = refl
without-none name (x ∷ xs) none = absurd (omega arith)

pub without-some : (name : List ℕ) (args : List Expression) (count : ℕ) → length args ≡ count → 0 < count → without_arguments name args ≡ Err (Arity name)
without-some name [] count same some = absurd (omega arith)
without-some name (x ∷ xs) count same some = refl

pub ruleset counts = (without-none, without-some)
