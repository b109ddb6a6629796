-- Courses, one after the other.
use Rattle.std.proofs.Common.{◌≡◌, List, [], ◌∷◌, ◌++◌, Some, None, refl, sym, ◌∙◌}
use Rattle.std.specs.declared.option.Option.{Option}
use Rattle.eng_value.specs.Causes.{CauseSet}
use Rattle.eng_value.specs.Environments.{Environment}
use Rattle.eng_value.specs.declared.value.Value.{Value}
use Rattle.gen_write.specs.Writes.{Course, and_on, finished, row_put, rows_run, unless_failed}
use Rattle.sql_meaning.specs.declared.bound.BoundInsert.{BoundInsert}
use Rattle.vm_code.specs.Machine.{Shared}

and_on-twice : (c : Course) (f g : Shared → Course) → and_on (and_on c f) g ≡ and_on c (λ x. and_on (f x) g)
and_on-twice c f g = by c.causes
  where
    by : (o : Option CauseSet) → and_on (unless_failed o c.shared f) g ≡ unless_failed o c.shared (λ x. and_on (f x) g)
    by None = refl
    by (Some causes) = refl

and_on-same : (c : Course) (f g : Shared → Course) → ((x : Shared) → f x ≡ g x) → and_on c f ≡ and_on c g
and_on-same c f g e = by c.causes
  where
    by : (o : Option CauseSet) → unless_failed o c.shared f ≡ unless_failed o c.shared g
    by None = e c.shared
    by (Some causes) = refl

and_on-finished : (c : Course) → and_on c finished ≡ c
and_on-finished c = by c.causes
  where
    by : (o : Option CauseSet) → unless_failed o c.shared finished ≡ record { causes = o; shared = c.shared }
    by None = refl
    by (Some causes) = refl

-- one row more
pub rows_run-last : (env : Environment) (b : BoundInsert) (rows : List (List Value)) (row : List Value) (x : Shared) → and_on (rows_run env b rows x) (row_put env b row) ≡ rows_run env b (rows ++ row ∷ []) x
rows_run-last env b [] row x = sym (and_on-finished (row_put env b row x))
rows_run-last env b (r ∷ rows) row x =
    and_on-twice (row_put env b r x) (rows_run env b rows) (row_put env b row)
    ∙ and_on-same (row_put env b r x) (λ y. and_on (rows_run env b rows y) (row_put env b row)) (rows_run env b (rows ++ row ∷ [])) (λ y. rows_run-last env b rows row y)
