-- What code has of a write, and the records of the definition for which it stands.
use Rattle.std.specs.Prelude.{◌≡◌, ◌⊎◌, ℕ, List, Some, Result, Ok, Err}
use Rattle.bind_target.specs.declared.written.Begun.{Begun as BegunHere}
use Rattle.bind_target.specs.declared.written.Opened.{Opened as OpenedHere}
use Rattle.bind_target.specs.declared.written.Target.{Target as TargetHere}
use Rattle.bound_tree.specs.declared.writes.BoundTarget.{BoundTarget}
use Rattle.bound_tree.specs.declared.writes.FiringEvent.{FiringEvent}
use Rattle.eng_value.specs.declared.cause.Cause.{Cause}
use Rattle.eng_value.specs.declared.cause.Cause.TheVariants.{Mem}
use Rattle.sql_bound.specs.Froms.{plain_item}
use Rattle.sql_bound.specs.Targets.{Firing, Target, target_of}
use Rattle.sql_bound.specs.Writes.{Begun, Opened}

abbrev pub bound_target : TargetHere → BoundTarget
bound_target t = record { item = plain_item (Some t.name) t.source; defaults = t.defaults; not_nulls = t.not_nulls; checks = t.checks }

abbrev pub target_meant : TargetHere → Target
target_meant t = target_of t.name t.source (bound_target t)

abbrev pub firing_meant : FiringEvent → List (List ℕ) → Firing
firing_meant event sets = record { event = event; sets = sets }

abbrev pub begun_meant : BegunHere → Begun
begun_meant b = record { target = target_meant b.target; choice = b.choice; firing = firing_meant b.event b.sets; change = b.change }

abbrev pub opened_meant : OpenedHere → Opened
opened_meant o = record { units = o.units; triggers = o.triggers }

-- ---- results that stand for others

-- the value for which the result stands, and the state, are those that are meant
abbrev pub ComesAs : {A B S : Type 0} → (A → B) → Result (B × S) Cause → Result A Cause → S → Type 0
ComesAs f meant (Ok a) new = meant ≡ Ok (f a, new)
ComesAs f meant (Err why) new = (why ≡ Mem) ⊎ (meant ≡ Err why)
