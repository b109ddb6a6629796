use Rattle.std.proofs.Common.{◌≡◌, ◌++◌, ◌∷◌, [], ◌∙◌, sym, ap, rules, w64, to_z, of_z}
use Rattle.eng_cursor.specs.Places.{row_at}
use Rattle.eng_index.specs.Fronts.{rowid_below}
use Rattle.eng_index.proofs.Searching.{found_all, found_more}
use Rattle.eng_index.proofs.walking.rowids_between.Goals as goal

pub loop-rowid-preserved : goal.loop-rowid-preserved
loop-rowid-preserved c =
    let pairs = c.args.tree.now.pairs in
    let n : to_z w64 (of_z w64 c.in-Some.rowid) ≡ c.in-Some.rowid = search rules in
    found_more c.args.fronts.now.from c.args.fronts.now.to pairs c.loop-rowid.rowids.items c.push.new.self.items c.loop-rowid.cursor c.next.new.self c.in-Some.rowid c.loop-rowid.invariant (ap (λ k. rowid_below k (row_at pairs c.loop-rowid.cursor)) (sym c.as_slice-in-loop-rowid.ensures) ∙ sym c.in-Some.ensures) (c.in_ok-push.ensures.items ∙ ap (λ m. c.loop-rowid.rowids.items ++ m ∷ []) n) c.next.ensures.place

pub returns : goal.returns
returns c =
    let pairs = c.args.tree.now.pairs in
    found_all c.args.fronts.now.from c.args.fronts.now.to pairs c.loop-rowid.rowids.items c.loop-rowid.cursor c.loop-rowid.invariant (ap (λ k. rowid_below k (row_at pairs c.loop-rowid.cursor)) (sym c.as_slice-in-loop-rowid.ensures) ∙ sym c.rowid_at.ensures ∙ c.in_default.is)
