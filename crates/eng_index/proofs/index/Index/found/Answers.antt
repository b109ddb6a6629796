use Rattle.std.proofs.Common.{◌≡◌, List, ℤ}
use Rattle.std.proofs.lemmas.Result.{IfOk-weaker}
use Rattle.eng_cursor.specs.Places.{sought}
use Rattle.eng_cursor.specs.declared.cursor.How.TheVariants.{Ge}
use Rattle.eng_value.specs.Arrangements.{Shuffled}
use Rattle.eng_value.specs.StoredRows.{StoredRow}
use Rattle.eng_index.specs.Fronts.{pairs_at, rowids_below}
use Rattle.eng_index.specs.Keys.{found}
use Rattle.eng_index.specs.Stored.{IsIndexOf, rowids_of}
use Rattle.eng_index.proofs.Searching.{finds_between, finds_none}
use Rattle.eng_index.proofs.index.Index.found.Goals as goal

pub returns-in-None : goal.returns-in-None
returns-in-None c =
    finds_none c.self.inside.keys c.terms.result.now c.self.inside.tree.pairs c.args.self.now c.args.range.now c.in_ok-fronts_of.field-0 c.new.result.items c.self.view_is c.terms.ensures c.in_ok-fronts_of.ensures c.in-None.is c.new.ensures.items

pub returns-in-Some : goal.returns-in-Some
returns-in-Some c =
    IfOk-weaker c.rowids_between.result (λ rowids. rowids.items ≡ rowids_below c.in-Some.fronts.to (pairs_at c.self.inside.tree.pairs (sought Ge c.in-Some.fronts.from c.self.inside.tree.pairs))) (λ rowids. (rows : List StoredRow) → IsIndexOf c.args.self.now rows → Shuffled {X = ℤ} (rowids_of (found c.args.self.now.terms c.args.range.now rows)) rowids.items) (λ rowids is. finds_between c.self.inside.keys c.terms.result.now c.self.inside.tree.pairs c.args.self.now c.args.range.now c.in_ok-fronts_of.field-0 c.in-Some.fronts c.self.view_is c.terms.ensures c.in_ok-fronts_of.ensures c.in-Some.is rowids.items is) c.rowids_between.ensures
