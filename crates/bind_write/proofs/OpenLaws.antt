-- What the steps of opening triggers come to.
use Rattle.std.proofs.Common.{◌≡◌, ◌⊎◌, ◌∙◌, ℕ, ◌+◌, List, [], ◌∷◌, ◌++◌, map, slice_set, Option, Some, None, Result, Ok, Err, IfOk, ap, sym, inl, inr, length}
use Rattle.bind_query.specs.Scopes.{Levels, around_of, outer_of, scope_of}
use Rattle.bind_query.specs.Where.{Where}
use Rattle.bind_write.specs.Parts.{condition_in}
use Rattle.bind_write.proofs.FireLaws.{condition-is, inside_trigger, opened-before, opens-now}
use Rattle.bind_write.proofs.StepLaws.{comes-as}
use Rattle.bound_tree.specs.Exprs.{BoundExpr}
use Rattle.bound_tree.specs.declared.writes.BoundStep.{BoundStep}
use Rattle.bound_tree.specs.declared.writes.BoundTrigger.{BoundTrigger}
use Rattle.eng_entry.specs.declared.entry.Entry.{Entry}
use Rattle.eng_value.specs.declared.cause.Cause.{Cause}
use Rattle.eng_value.specs.declared.cause.Cause.TheVariants.{Mem}
use Rattle.sql_bound.specs.Answers.{Comes, OnlyMem}
use Rattle.sql_bound.specs.Carriers.{Queries}
use Rattle.sql_bound.specs.Refusals.{Checked}
use Rattle.sql_bound.specs.Scopes.{Around, Level, Outer}
use Rattle.sql_bound.specs.Trees.{of_option, of_query, of_rows, of_trigger}
use Rattle.sql_bound.specs.Triggers.{condition_bound, event_of, header_of, opened_now, opening, opening_of, outer_of as outer_in, place_of_trigger, rows_seen, step_bound, steps_bound, trigger_at_place, trigger_of, with_trigger}
use Rattle.sql_bound.specs.Writes.{Opened, Opening}
use Rattle.sql_bound.specs.declared.froms.Sourced.{Sourced}
use Rattle.sql_words.specs.Refusals.{◌>>=◌}
use Rattle.sql_tree.specs.declared.query.Query.{Query}
use Rattle.sql_tree.specs.declared.statement.RowCommand.TheVariants as command
use Rattle.sql_tree.specs.declared.statement.RowCommand.{RowCommand}
use Rattle.sql_tree.specs.declared.statement.TriggerDefinition.{TriggerDefinition}

-- ---- all that may be opened

pub opening-all : (around : Around) (n : ℕ) → n ≡ length around.catalog.triggers → opening_of trigger_of around n ≡ opening around
opening-all around n is = ap (λ (k : ℕ). opening_of trigger_of around k) is

-- ---- a query in a body

pub query-step : (op : Opening) (around : Around) (out : Outer) (c : RowCommand) (q : Query) (o : Opened) → c ≡ command.Query q → (r : Result BoundStep Cause) (new : Opened)
    → Comes (step_bound op around out (Queries (of_query q)) o) r new → Comes (step_bound op around out (of_rows c) o) r new
query-step op around out c q o is r new h =
    comes-as (step_bound op around out (of_rows c) o) (step_bound op around out (Queries (of_query q)) o) r new (ap (λ (d : RowCommand). step_bound op around out (of_rows d) o) is) h

-- ---- opened before or now

module _ (around : Around) (s : Sourced) (entry : Entry) (o : Opened) (left : ℕ) where
  pub open-there : (place : ℕ) → place_of_trigger entry.name o.triggers ≡ Some place → (r : Result ℕ Cause) → IfOk r (λ n. n ≡ place) → OnlyMem r
      → Comes (opening_of trigger_of around left s entry o) r o
  open-there place is (Ok n) so mem = opened-before around s entry o left place is ∙ ap (λ (k : ℕ). Ok (k, o)) (sym so)
  open-there place is (Err why) so mem = inl mem

  pub open-next : (n : ℕ) → left ≡ n + 1 → place_of_trigger entry.name o.triggers ≡ None → (r : Result ℕ Cause) (new : Opened)
      → Comes (opened_now (opening_of trigger_of around n) around s entry (trigger_of entry) o) r new → Comes (opening_of trigger_of around left s entry o) r new
  open-next n more none r new h =
      comes-as (opening_of trigger_of around left s entry o) (opened_now (opening_of trigger_of around n) around s entry (trigger_of entry) o) r new (opens-now around s entry o left n more none) h

-- ---- a trigger in its place

module _ (left : ℕ) (w : Where) (s : Sourced) (entry : Entry) (t : TriggerDefinition) (place : ℕ) (o : Opened) (headed : List BoundTrigger) (takes : headed ≡ o.triggers ++ header_of entry s (of_trigger t) ∷ [])
    (p : Where) (is : p ≡ inside_trigger w entry) (levels : Levels) (seen : levels ≡ rows_seen (event_of t.event) s ∷ []) where
  abbrev opens : Opening
  opens = opening_of trigger_of (around_of w) left

  abbrev rows : Level
  rows = rows_seen (event_of t.event) s

  abbrev taken : Opened
  taken = record o { triggers = headed }

  abbrev with_body : Option BoundExpr → List BoundStep × Opened → Checked (ℕ × Opened)
  with_body c b = Ok (place, with_trigger place (record (header_of entry s (of_trigger t)) { condition = c; body = b.0 }) b.1)

  abbrev with_condition : Option BoundExpr × Opened → Checked (ℕ × Opened)
  with_condition c = steps_bound opens (around_of w) (outer_in (around_of w) entry (rows ∷ [])) (map of_rows t.body) c.1 >>= λ b. with_body c.0 b

  condition-at : (r : Checked (Option BoundExpr × Opened)) → condition_in (scope_of p levels []) (of_option t.condition) taken ≡ r
      → trigger_at_place opens (around_of w) s entry (of_trigger t) place o ≡ (r >>= λ c. with_condition c)
  condition-at r h =
      ap (λ (ts : List BoundTrigger). condition_bound (around_of w) entry rows (of_option t.condition) (record o { triggers = ts }) >>= λ c. with_condition c) (sym takes)
      ∙ ap (λ (m : Checked (Option BoundExpr × Opened)). m >>= λ c. with_condition c)
      (condition-is w entry rows (of_option t.condition) taken
      ∙ ap (λ (q : Where). condition_in (scope_of q (rows ∷ []) []) (of_option t.condition) taken) (sym is)
      ∙ ap (λ (l : Levels). condition_in (scope_of p l []) (of_option t.condition) taken) (sym seen)
      ∙ h)

  pub condition-refused : (why : Cause) → (why ≡ Mem) ⊎ (condition_in (scope_of p levels []) (of_option t.condition) taken ≡ Err why)
      → (why ≡ Mem) ⊎ (trigger_at_place opens (around_of w) s entry (of_trigger t) place o ≡ Err why)
  condition-refused why (inl mem) = inl mem
  condition-refused why (inr h) = inr (condition-at (Err why) h)

  module _ (condition : Option BoundExpr) (next : Opened) (so : condition_in (scope_of p levels []) (of_option t.condition) taken ≡ Ok (condition, next)) (body : List RowCommand) (all : body ≡ t.body) where
    body-at : (r : Checked (List BoundStep × Opened)) → steps_bound (opening_of trigger_of (around_of p) left) (around_of p) (outer_of p levels []) (map of_rows body) next ≡ r
        → trigger_at_place opens (around_of w) s entry (of_trigger t) place o ≡ (r >>= λ b. with_body condition b)
    body-at r h =
        condition-at (Ok (condition, next)) so
        ∙ ap (λ (m : Checked (List BoundStep × Opened)). m >>= λ b. with_body condition b)
        (ap (λ (q : Where). steps_bound (opening_of trigger_of (around_of q) left) (around_of q) (outer_of q (rows ∷ []) []) (map of_rows t.body) next) (sym is)
        ∙ ap (λ (l : Levels). steps_bound (opening_of trigger_of (around_of p) left) (around_of p) (outer_of p l []) (map of_rows t.body) next) (sym seen)
        ∙ ap (λ (cs : List RowCommand). steps_bound (opening_of trigger_of (around_of p) left) (around_of p) (outer_of p levels []) (map of_rows cs) next) (sym all)
        ∙ h)

    pub body-refused : (why : Cause) → (why ≡ Mem) ⊎ (steps_bound (opening_of trigger_of (around_of p) left) (around_of p) (outer_of p levels []) (map of_rows body) next ≡ Err why)
        → (why ≡ Mem) ⊎ (trigger_at_place opens (around_of w) s entry (of_trigger t) place o ≡ Err why)
    body-refused why (inl mem) = inl mem
    body-refused why (inr h) = inr (body-at (Err why) h)

    pub trigger-opened : (steps : List BoundStep) (last : Opened)
        → steps_bound (opening_of trigger_of (around_of p) left) (around_of p) (outer_of p levels []) (map of_rows body) next ≡ Ok (steps, last)
        → (whole : BoundTrigger) → whole ≡ record (header_of entry s (of_trigger t)) { condition = condition; body = steps }
        → (at : ℕ) → at ≡ place → (triggers : List BoundTrigger) → triggers ≡ slice_set last.triggers at whole → (n : ℕ) → n ≡ at
        → trigger_at_place opens (around_of w) s entry (of_trigger t) place o ≡ Ok (n, record last { triggers = triggers })
    trigger-opened steps last h whole made at there triggers set n small =
        body-at (Ok (steps, last)) h
        ∙ ap (λ (b : BoundTrigger). Ok (place, record last { triggers = slice_set last.triggers place b })) (sym made)
        ∙ ap (λ (k : ℕ). Ok (k, record last { triggers = slice_set last.triggers k whole })) (sym there)
        ∙ ap (λ (ts : List BoundTrigger). Ok (at, record last { triggers = ts })) (sym set)
        ∙ ap (λ (k : ℕ). Ok (k, record last { triggers = triggers })) (sym small)
