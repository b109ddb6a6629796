use Rattle.std.proofs.Common.{subst}
use Rattle.eng_entry.specs.Entries.{HaveDistinctNames}
use Rattle.eng_catalog.proofs.KeyLaws.{distinct_names}
use Rattle.eng_catalog.proofs.entry_map.EntryMap.entries.Goals as goal

pub returns-clause-distinct : goal.returns-clause-distinct
returns-clause-distinct c =
    subst HaveDistinctNames c.self.view_is (distinct_names c.self.inside.entries.entries c.self.invariant c.len-len.ensures.unique)
