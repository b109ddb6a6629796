-- A refused statement keeps the state.
use Rattle.std.proofs.Common.{◌≡◌, ℕ, Bool, true, false, ◌&&◌, if◌then◌else◌, List, [], Some, None, Ok, Err, Result, refl}
use Rattle.eng_entry.specs.Entries.{with_entry}
use Rattle.eng_index.specs.Keys.{has_doubles}
use Rattle.eng_value.specs.declared.cause.Cause.TheVariants as cause
use Rattle.eng_value.specs.declared.cause.ConstraintKind.TheVariants as constraint
use Rattle.std.specs.declared.option.Option.{Option}
use Rattle.eng_value.specs.Causes.{CauseSet, named, only}
use Rattle.eng_value.specs.declared.cause.Cause.{Cause}
use Rattle.eng_value.specs.declared.value.Value.{Value}
use Rattle.sql_meaning.specs.Runnables.{Runnable, Creates, DoesNothing, Drops, Indexes, NewIndex, Put, Puts, Queries, Shows, Unindexes, Explains}
use Rattle.sql_meaning.specs.Statement.{Outcome, begun, bound_for, bound_outcome, causes_of, closed, done, failed, given_of, outcome_of, put_source, refused, rows_put, source_of, text_outcome, with_catalog}
use Rattle.sql_meaning.specs.Steps.{Effect, Done, Left, Fails}
use Rattle.sql_meaning.specs.World.{Context, State, environment_at, rows_at}

-- where it is a refusal, it changes nothing
record Keeps (state : State) (o : Outcome) : Type 0 where
  kept : (causes : CauseSet) → o.refusal ≡ Some causes → (o.next ≡ state) × (o.changed ≡ 0) × (o.told ≡ [])

refused-keeps : (state : State) (causes : CauseSet) → Keeps state (refused state causes)
refused-keeps state causes = record { kept = λ others e. (refl, refl, refl) }

closed-keeps : (state : State) (s : Effect) → Keeps state (closed state s)
closed-keeps state (Done u x) = record { kept = λ causes e. absurd (let bad : None ≡ Some causes = e in cc) }
closed-keeps state (Left x) = record { kept = λ causes e. absurd (let bad : None ≡ Some causes = e in cc) }
closed-keeps state (Fails causes x) = refused-keeps state (named causes)

put_source-keeps : (ctx : Context) (p : Put) (causes : Option CauseSet) (source : List (List Value)) → Keeps ctx.state (put_source ctx p causes source)
put_source-keeps ctx p (Some causes) source = refused-keeps ctx.state causes
put_source-keeps ctx p None source = closed-keeps ctx.state (rows_put (environment_at ctx []) p.insert source (begun ctx.state))

index-keeps : (state : State) (i : NewIndex) (broken : Bool)
    → Keeps state (if broken then failed state (only (cause.Constraint constraint.Unique i.table.name)) else done [] (with_catalog state (with_entry i.entry state.world.catalog)))
index-keeps state i true = refused-keeps state (named (only (cause.Constraint constraint.Unique i.table.name)))
index-keeps state i false = record { kept = λ causes e. absurd (let bad : None ≡ Some causes = e in cc) }

outcome_of-keeps : (ctx : Context) (b : Runnable) → Keeps ctx.state (outcome_of ctx b)
outcome_of-keeps ctx (Creates e) = record { kept = λ causes is. absurd (let bad : None ≡ Some causes = is in cc) }
outcome_of-keeps ctx (Drops t) = record { kept = λ causes is. absurd (let bad : None ≡ Some causes = is in cc) }
outcome_of-keeps ctx (Indexes i) = index-keeps ctx.state i (i.unique && has_doubles i.terms (rows_at ctx.state.world.tables i.table.number))
outcome_of-keeps ctx (Unindexes name) = record { kept = λ causes is. absurd (let bad : None ≡ Some causes = is in cc) }
outcome_of-keeps ctx (Puts p) = put_source-keeps ctx p (causes_of (source_of ctx p)) (given_of (source_of ctx p))
outcome_of-keeps ctx (Queries q) = record { kept = λ causes is. (refl, refl, refl) }
outcome_of-keeps ctx (Shows rows) = record { kept = λ causes is. (refl, refl, refl) }
outcome_of-keeps ctx DoesNothing = record { kept = λ causes is. (refl, refl, refl) }
outcome_of-keeps ctx (Explains how b) = record { kept = λ causes is. (refl, refl, refl) }

bound_outcome-keeps : (ctx : Context) (r : Result Runnable Cause) → Keeps ctx.state (bound_outcome ctx r)
bound_outcome-keeps ctx (Ok b) = outcome_of-keeps ctx b
bound_outcome-keeps ctx (Err why) = refused-keeps ctx.state (only why)

-- a statement that is refused changes no row, tells no hook of any, and leaves the state as it is
pub text_outcome-refused : (ctx : Context) (text : List ℕ) (causes : CauseSet) → (text_outcome ctx text).refusal ≡ Some causes
    → ((text_outcome ctx text).next ≡ ctx.state) × ((text_outcome ctx text).changed ≡ 0) × ((text_outcome ctx text).told ≡ [])
text_outcome-refused ctx text = (bound_outcome-keeps ctx (bound_for ctx text)).kept
