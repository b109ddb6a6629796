use Rattle.std.proofs.Common.{sym, ◌∙◌}
use Rattle.vm_tables.proofs.TermLaws.{same_terms}
use Rattle.vm_tables.proofs.indexes.is_by.Goals as goal

pub returns : goal.returns
returns c = λ equal. sym c.terms.ensures ∙ same_terms c.terms.result.now c.args.terms.now (sym c.eq.ensures ∙ equal)
