-- What is around a write does not count for what it writes.
use Rattle.std.proofs.Common.{◌≡◌, ℕ, Bool, true, false, List, [], Option, Some, None, refl}
use Rattle.bind_query.specs.Scopes.{Levels, around_of, outer_of}
use Rattle.bind_query.specs.Where.{Where}
use Rattle.eng_entry.specs.declared.entry.Entry.{Entry}
use Rattle.eng_entry.specs.declared.entry.EntryKind.TheVariants as kind
use Rattle.eng_entry.specs.declared.entry.EntryKind.{EntryKind}
use Rattle.sql_bound.specs.Declarations.{definition_of, table_in, table_named, view_in}
use Rattle.sql_bound.specs.Froms.{nothing_found, of_catalog, of_entry, of_eponymous, of_table, of_view, with_units}
use Rattle.sql_bound.specs.HostFacts.{facts_of}
use Rattle.sql_bound.specs.Targets.{Firing, declared_target, inside_write, may_write_module, may_write_view, shown_name, target_bound}
use Rattle.sql_bound.specs.Refusals.{Checked}
use Rattle.sql_bound.specs.Scopes.{Answer}
use Rattle.sql_bound.specs.declared.froms.Sourced.{Sourced}
use Rattle.sql_bound.specs.declared.scopes.Work.{Work}
use Rattle.sql_words.specs.Refusals.{◌>>=◌}
use Rattle.sql_tree.specs.declared.statement.TableDefinition.{TableDefinition}
use Rattle.sql_tree.specs.declared.statement.ViewDefinition.{ViewDefinition}
use Rattle.std.proofs.Common.{ap}

module _ (w : Where) (ls : Levels) (name : List ℕ) where
  table-same : (entry : Entry) (t : Option TableDefinition) → of_table (outer_of w ls []) name entry t ≡ of_table (outer_of w [] []) name entry t
  table-same entry None = refl
  table-same entry (Some t) = refl

  view-same : (entry : Entry) (v : Option ViewDefinition) (wk : Work) → of_view (inside_write (outer_of w ls [])) name entry v wk ≡ of_view (inside_write (outer_of w [] [])) name entry v wk
  view-same entry None wk = refl
  view-same entry (Some v) wk = refl

  entry-same : (entry : Entry) (k : EntryKind) (wk : Work) → of_entry (inside_write (outer_of w ls [])) name entry k [] nothing_found wk ≡ of_entry (inside_write (outer_of w [] [])) name entry k [] nothing_found wk
  entry-same entry kind.Table wk = ap (λ (r : Checked Sourced). with_units r wk) (table-same entry (table_in (definition_of entry)))
  entry-same entry kind.View wk = view-same entry (view_in (definition_of entry)) wk
  entry-same entry kind.Module wk = refl
  entry-same entry kind.Index wk = refl
  entry-same entry kind.Trigger wk = refl

  own-same : (m : Option (Bool × Bool)) (wk : Work) → of_eponymous (inside_write (outer_of w ls [])) name m [] nothing_found wk ≡ of_eponymous (inside_write (outer_of w [] [])) name m [] nothing_found wk
  own-same None wk = refl
  own-same (Some (true, writable)) wk = refl
  own-same (Some (false, writable)) wk = refl

  rows-same : (entry : Option Entry) (wk : Work) → of_catalog (inside_write (outer_of w ls [])) name entry [] nothing_found wk ≡ of_catalog (inside_write (outer_of w [] [])) name entry [] nothing_found wk
  rows-same (Some entry) wk = entry-same entry entry.kind wk
  rows-same None wk = own-same ((facts_of w.facts).host_module name) wk

  pub target-same : (f : Firing) (wk : Work) → target_bound (outer_of w ls []) name f wk ≡ target_bound (outer_of w [] []) name f wk
  target-same f wk =
      ap (λ (r : Answer Sourced).
      may_write_module (around_of w) name (table_named name w.catalog) >>= λ u. r >>= λ s. may_write_view (around_of w) s.0 f s.0.source >>= λ u.
      declared_target (around_of w) f.event (shown_name name s.0.name) s.0 (table_named name w.catalog) s.1)
      (rows-same (table_named name w.catalog) wk)
