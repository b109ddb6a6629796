-- What the programs of writes leave, and what a catalog is again from which the last entry is taken.
use Rattle.std.proofs.Common.{◌≡◌, ◌++◌, ℕ, Bool, true, false, cond, not, List, [], ◌∷◌, ℤ, Some, None, refl, ap, ◌∙◌}
use Rattle.eng_entry.specs.Entries.{Entries, entries_not_named, entry_named, is_named, with_entry, without_name}
use Rattle.eng_entry.specs.declared.entry.Entry.{Entry}
use Rattle.eng_entry.specs.Spaces.{space_of}
use Rattle.eng_entry.specs.declared.entry.Space.TheVariants as space
use Rattle.sql_meaning.proofs.NameLaws.{is_same_name-refl}
use Rattle.sql_meaning.proofs.TableLaws.{with_entry-names}
use Rattle.vm_code.specs.Machine.{World as Lists, Shared, Ending, Finished, Failed, world_of}
use Rattle.engine.specs.Held.{state_of}
use Rattle.engine.specs.Outcomes.{left_by}
use Rattle.engine.proofs.CarryingOut.{Shows}

-- ---- an outcome by how a run ends

module _ (entries : Entries) (lists : Lists) (changes : ℕ) (last : ℤ) where
  pub left_shows : (e : Ending) (x : Shared) → Shows (state_of entries lists changes last) (left_by entries lists changes last e x) e x
  left_shows Finished x = record { ended = refl; given = refl; kept = λ causes is. absurd (let bad : Finished ≡ Failed causes = is in cc) }
  left_shows (Failed causes) x = record { ended = refl; given = refl; kept = λ others is. refl }

  -- where it ends well what was written stays
  pub left_next : (e : Ending) (x : Shared) → e ≡ Finished → (left_by entries lists changes last e x).next ≡ state_of entries (world_of x) x.written.changes x.written.last_rowid
  left_next e x ends = rw ends refl

  pub left_told : (e : Ending) (x : Shared) → e ≡ Finished → (left_by entries lists changes last e x).told ≡ x.written.told
  left_told e x ends = rw ends refl

  pub left_changed : (e : Ending) (x : Shared) → e ≡ Finished → (left_by entries lists changes last e x).changed ≡ x.written.changes
  left_changed e x ends = rw ends refl

-- ---- a catalog is what it was when the entry is taken away that was put last

others_stay : (name : List ℕ) (entries : List Entry) (e : Entry) → entry_named name entries ≡ None → is_named name e ≡ true → entries_not_named name (entries ++ e ∷ []) ≡ entries
others_stay name [] e none is = rw is refl
others_stay name (x ∷ entries) e none is = by (is_named name x) (others_stay name entries e) none
  where
    by : (b : Bool) → (entry_named name entries ≡ None → is_named name e ≡ true → entries_not_named name (entries ++ e ∷ []) ≡ entries) → cond b (Some x) (entry_named name entries) ≡ None
        → cond (not b) (x ∷ entries_not_named name (entries ++ e ∷ [])) (entries_not_named name (entries ++ e ∷ [])) ≡ x ∷ entries
    by true rest f = absurd (cc)
    by false rest f = ap (λ es. x ∷ es) (rest f is)

pub taken_back : (e : Entry) (entries : Entries) → space_of e.kind ≡ space.Names → entry_named e.name entries.names ≡ None → without_name space.Names e.name (with_entry e entries) ≡ entries
taken_back e entries kind free =
    ap (without_name space.Names e.name) (with_entry-names e entries kind)
    ∙ ap (λ names. record { names = names; triggers = entries.triggers }) (others_stay e.name entries.names e free (is_same_name-refl e.name))
