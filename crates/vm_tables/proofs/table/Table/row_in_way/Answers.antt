use Rattle.std.proofs.Common.{◌≡◌, ◌<◌, Some, true, false, is_some, drop, length, refl, ap, sym, ◌∙◌, add-one, arith, rules, w64, to_z, of_z}
use Rattle.std.specs.Prelude.{slice_get}
use Rattle.std.proofs.lemmas.Option.{slice_get-get_or}
use Rattle.vm_code.specs.Machine.{row_under}
use Rattle.vm_tables.specs.Rows.{on_row}
use Rattle.vm_tables.proofs.Finding.{double_by, double_found, double_in_way, double_missing, first_double, same_in_way}
use Rattle.vm_tables.proofs.table.Table.row_in_way.Goals as goal

pub returns-then-has-clause-found : goal.returns-then-has-clause-found
returns-then-has-clause-found c =
    let rows = c.args.self.now in
    let row = c.args.row.now in
    let n : to_z w64 (of_z w64 c.rowid-then-has.result) ≡ row.rowid = search rules in
    let m : to_z w64 (of_z w64 c.rowid.result) ≡ row.rowid = search rules in
    let there : is_some (row_under rows row.rowid) ≡ true =
    ap (λ all. is_some (row_under all row.rowid)) (sym c.self.view_is) ∙ ap (λ k. is_some (row_under c.self.inside.tree k)) (sym m) ∙ sym c.has.ensures ∙ c.if-has.true in
    ap Some n ∙ sym (same_in_way c.args.keys.now rows row there)

pub loop-terms-init : goal.loop-terms-init
loop-terms-init c =
    let rows = c.args.self.now in
    let row = c.args.row.now in
    let m : to_z w64 (of_z w64 c.rowid.result) ≡ row.rowid = search rules in
    let missing : is_some (row_under rows row.rowid) ≡ false =
    ap (λ all. is_some (row_under all row.rowid)) (sym c.self.view_is) ∙ ap (λ k. is_some (row_under c.self.inside.tree k)) (sym m) ∙ sym c.has.ensures ∙ c.if-has.false in
    record { same = refl; left = double_in_way c.args.keys.now rows row missing }

pub returns-then-is_some-clause-found : goal.returns-then-is_some-clause-found
returns-then-is_some-clause-found c =
    let rows = c.args.self.now in
    let row = c.args.row.now in
    let keys = c.args.keys.now in
    let k = c.loop-terms.terms-index in
    let terms = c.as_slice.result.now in
    let lt : k < length keys = omega arith in
    let item : slice_get keys k ≡ Some terms = slice_get-get_or keys k c.terms-item.result lt ∙ ap Some (sym c.terms-item.is ∙ sym c.as_slice.ensures) in
    let found : c.in_ok-double.double ≡ double_by rows row terms = c.in_ok-double.ensures.found ∙ ap (λ all. double_by all row terms) c.loop-terms.invariant.same in
    let some : is_some (double_by rows row terms) ≡ true = ap is_some (sym found) ∙ sym c.is_some.ensures ∙ c.if-is_some.true in
    found ∙ sym (double_found rows row keys k terms item some) ∙ sym (ap on_row c.loop-terms.invariant.left)

pub loop-terms-preserved : goal.loop-terms-preserved
loop-terms-preserved c =
    let rows = c.args.self.now in
    let row = c.args.row.now in
    let keys = c.args.keys.now in
    let k = c.loop-terms.terms-index in
    let terms = c.as_slice.result.now in
    let lt : k < length keys = omega arith in
    let item : slice_get keys k ≡ Some terms = slice_get-get_or keys k c.terms-item.result lt ∙ ap Some (sym c.terms-item.is ∙ sym c.as_slice.ensures) in
    let found : c.in_ok-double.double ≡ double_by rows row terms = c.in_ok-double.ensures.found ∙ ap (λ all. double_by all row terms) c.loop-terms.invariant.same in
    let missing : is_some (double_by rows row terms) ≡ false = ap is_some (sym found) ∙ sym c.is_some.ensures ∙ c.if-is_some.false in
    record {
      same = c.in_ok-double.ensures.same ∙ c.loop-terms.invariant.same;
      left = c.loop-terms.invariant.left ∙ double_missing rows row keys k terms item missing ∙ ap (λ j. first_double (drop j keys) rows row) (sym (add-one k));
    }
