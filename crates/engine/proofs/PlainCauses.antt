-- The causes and the rows of a statement whose instructions nobody counts.
use Rattle.std.proofs.Common.{ℕ, [], Option, Some, sym, subst, arith}
use Rattle.eng_value.specs.declared.cause.Cause.{Cause}
use Rattle.host_traits.specs.Faults.{Rose}
use Rattle.sql_meaning.specs.Statement.{MayGive, Outcome}
use Rattle.sql_meaning.specs.World.{State}
use Rattle.engine.specs.Causes.{GivesCounted, IsCause, no_memory as free, used_up as spent, sink_failed, meant as named}
use Rattle.engine.specs.Taking.{Rows}
use Rattle.engine.specs.Uncounted.{IsPlainCause, no_memory, used_up, meant}

-- where the sink did not fail
pub plain_cause : (o : Outcome) (old now : State) (budget bound ran : ℕ) (t0 t : Option Rows) (rose : Type 0) (why : Cause)
    → (rose → ⊥) → IsCause o old now budget bound ran t0 t rose why → IsPlainCause o budget bound why
plain_cause o old now budget bound ran t0 t rose _ still (free same) = no_memory
plain_cause o old now budget bound ran t0 t rose _ still (spent same all less) = used_up less
plain_cause o old now budget bound ran t0 t rose _ still (sink_failed same failed) = absurd (still failed)
plain_cause o old now budget bound ran t0 t rose _ still (named why left is given) = meant why is

-- a sink that counts no fault did not fail
pub none_rose : Rose 0 0 → ⊥
none_rose rose = absurd (omega (arith, rose))

-- what a sink took in which nothing was before
pub given_rows : (o : Outcome) (rows : Rows) (count : ℕ) → GivesCounted o (Some []) (Some rows) count → MayGive o rows
given_rows o rows count given = subst (λ these. MayGive o these) (sym given.2) given.1
