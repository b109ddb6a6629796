-- One after another, each over the work that those in front of it leave.
use Rattle.std.specs.Prelude.{List, [], ◌∷◌, ◌++◌, Ok}
use Rattle.sql_words.specs.Refusals.{◌>>=◌}
use Rattle.sql_bound.specs.Carriers.{ArmParts}
use Rattle.sql_bound.specs.Scopes.{Answer, Scope}
use Rattle.sql_bound.specs.declared.scopes.ArmOperands.{ArmOperands}
use Rattle.sql_bound.specs.declared.scopes.Work.{Work}

-- what each comes to goes behind what there is so far
abbrev pub in_turn : {A B : Type 0} → (A → Work → Answer B) → List A → List B → Work → Answer (List B)
in_turn f [] so_far w = Ok (so_far, w)
in_turn f (x ∷ xs) so_far w = f x w >>= λ a. in_turn f xs (so_far ++ a.0 ∷ []) a.1

-- an arm of a CASE
abbrev pub arm_bound : Scope → ArmParts → Work → Answer ArmOperands
arm_bound s arm w = arm.condition.bound s w >>= λ c. arm.value.bound s c.1 >>= λ v. Ok (record { condition = c.0; value = v.0 }, v.1)
