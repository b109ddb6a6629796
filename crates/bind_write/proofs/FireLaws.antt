-- Triggers that are opened, as code opens them.
use Rattle.std.proofs.Common.{◌≡◌, ℕ, zero, suc, ◌+◌, [], ◌∷◌, Option, Some, None, Ok, Err, refl, ap, ◌∙◌, add-one}
use Rattle.bind_query.specs.Scopes.{around_of, in_text, scope_of}
use Rattle.bind_query.specs.Where.{Where}
use Rattle.bind_write.specs.Parts.{condition_in}
use Rattle.eng_entry.specs.declared.entry.Entry.{Entry}
use Rattle.eng_value.specs.declared.cause.Cause.TheVariants.{Unknown}
use Rattle.eng_value.specs.declared.cause.NameKind.TheVariants as kind
use Rattle.sql_bound.specs.Carriers.{Expression}
use Rattle.sql_bound.specs.Scopes.{Around, Level}
use Rattle.sql_bound.specs.Triggers.{condition_bound, in_trigger, opened_now, opened_or, opening_of, place_of_trigger, trigger_of}
use Rattle.sql_bound.specs.Writes.{Opened}
use Rattle.sql_bound.specs.declared.froms.Sourced.{Sourced}

-- ---- in the text of a trigger

abbrev pub inside_trigger : Where → Entry → Where
inside_trigger w entry = in_text entry.text (Some entry.name) w.catalog w.facts in_trigger

pub condition-is : (w : Where) (entry : Entry) (rows : Level) (x : Option Expression) (o : Opened)
    → condition_bound (around_of w) entry rows x o ≡ condition_in (scope_of (inside_trigger w entry) (rows ∷ []) []) x o
condition-is w entry rows None o = refl
condition-is w entry rows (Some x) o = refl

-- ---- opened before or now

module _ (around : Around) (s : Sourced) (entry : Entry) (o : Opened) where
  pub opened-before : (left place : ℕ) → place_of_trigger entry.name o.triggers ≡ Some place → opening_of trigger_of around left s entry o ≡ Ok (place, o)
  opened-before zero place is = ap (λ (p : Option ℕ). opened_or p o (Err (Unknown kind.Trigger entry.name))) is
  opened-before (suc n) place is = ap (λ (p : Option ℕ). opened_or p o (opened_now (opening_of trigger_of around n) around s entry (trigger_of entry) o)) is

  pub opens-now : (left n : ℕ) → left ≡ n + 1 → place_of_trigger entry.name o.triggers ≡ None
      → opening_of trigger_of around left s entry o ≡ opened_now (opening_of trigger_of around n) around s entry (trigger_of entry) o
  opens-now left n more is =
      ap (λ (k : ℕ). opening_of trigger_of around k s entry o) (more ∙ add-one n)
      ∙ ap (λ (p : Option ℕ). opened_or p o (opened_now (opening_of trigger_of around n) around s entry (trigger_of entry) o)) is
