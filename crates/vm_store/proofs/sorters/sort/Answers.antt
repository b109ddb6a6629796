use Rattle.std.proofs.Common.{rules}
use Rattle.vm_store.proofs.SorterLaws.{arranged_by}
use Rattle.vm_store.proofs.sorters.sort.Goals as goal

pub returns-clause-ok : goal.returns-clause-ok
returns-clause-ok c =
    arranged_by c.args.terms.now c.sort_by.result _ _ c.sort_by.ensures.sorted c.sort_by.ensures.stable (λ a o f' k. search rules)
