use Rattle.std.proofs.Common.{◌≡◌, ◌-◌, Bool, true, false, ◌||◌, length, refl, ap, ◌∙◌, arith}
use Rattle.gen_write.specs.Writes.{columns_beside, default_needs, may_be_met, needs_of_each, rowid_given}
use Rattle.gen_write.proofs.Checking.{checks_row_next}
use Rattle.gen_write.proofs.Columns.{held_then, stores_then, stores_wider}
use Rattle.gen_write.proofs.RowCode.{met-keeps, row-counted, row-puts-as, stored-keeps}
use Rattle.std.specs.List.{flat_map}
use Rattle.gen_expr.proofs.Covering.{covers_none}
use Rattle.vm_code.specs.Draft.{Draft}
use Rattle.vm_code.specs.Frames.{needing}
use Rattle.gen_write.proofs.rows.put_row.Goals as goal

none_of_both : (a b : Bool) → (a || b) ≡ false → (a ≡ false) × (b ≡ false)
none_of_both true b e = absurd (cc)
none_of_both false b e = (refl, e)

pub refuse_by_checks-requires : goal.refuse_by_checks-requires
refuse_by_checks-requires c =
    let kept = row-counted c.emit_beside.new.b c.refuse_if.new.b c.fix_rowid.new.b c.refuse_nulls.new.b (c.in_ok-stored.stored || c.in_ok-beside.beside) c.rowid_given-given.result c.as_slice-2.result.now c.args.insert.now.name c.next_register-first.result c.args.causes c.in_ok-refuse_if.ensures c.in_ok-rowid.ensures.fixes c.in_ok-refuse_nulls.ensures in
    record { counted = kept.1 c.in_ok-beside.ensures.stores.counted }

pub release-requires : goal.release-requires
release-requires c =
    let kept = row-counted c.emit_beside.new.b c.refuse_if.new.b c.fix_rowid.new.b c.refuse_nulls.new.b (c.in_ok-stored.stored || c.in_ok-beside.beside) c.rowid_given-given.result c.as_slice-2.result.now c.args.insert.now.name c.next_register-first.result c.args.causes c.in_ok-refuse_if.ensures c.in_ok-rowid.ensures.fixes c.in_ok-refuse_nulls.ensures in
    let checks = checks_row_next (needing (needs_of_each c.as_slice-3.result.now)) c.refuse_nulls.new.b c.refuse_by_checks.new.b c.args.insert.now.name c.as_slice-3.result.now c.in_ok-rowid.rowid c.next_register-first.result (c.next_register.result - c.next_register-first.result) c.in_ok-refuse_by_checks.ensures.checks in
    let count = c.next_register.result - c.next_register-first.result in
    let stored = stored-keeps c.is_within-is_within.result c.refuse_by_checks.new.b c.in_ok-rowid.rowid in
    let apart = ap (λ (d : Draft). d.next) c.in_ok-rowid-2.ensures.stores in
    let met = ap (λ (d : Draft). d.next) c.in_ok-refuse_met.ensures ∙ (met-keeps (may_be_met (rowid_given c.args.insert.now.rowid count) c.args.insert.now.keys) c.store_rowid.new.b c.args.insert.now.name c.args.insert.now.keys c.in_ok-rowid-2.rowid c.next_register-first.result count c.args.causes).1 in
    let put = ap (λ (d : Draft). d.next) c.in_ok-op.ensures in
    omega (arith, put, met, apart, stored.1, checks, kept.2, c.in_ok-beside.ensures.stores.next, c.in_ok-stored.ensures.stores.next, c.next_register-first.ensures)

pub returns-clause-puts : goal.returns-clause-puts
returns-clause-puts c =
    let insert = c.args.insert.now in
    let row = c.args.kept.now in
    let first = c.next_register-first.result in
    let stores = rw c.as_slice.ensures at c.in_ok-stored.ensures.stores in
    let held = rw c.as_slice.ensures at c.in_ok-stored.ensures.held in
    let beside = stores_wider (flat_map default_needs insert.columns) (covers_none (flat_map default_needs insert.columns)) c.in_ok-beside.ensures.stores in
    let both = stores_then c.args.causes row insert.columns (columns_beside insert.rowid) c.requires.taken stores beside in
    let nulls = rw c.as_slice-2.ensures at c.in_ok-refuse_nulls.ensures in
    let checks = rw c.as_slice-3.ensures at c.in_ok-refuse_by_checks.ensures.checks in
    let wide : c.next_register.result - first ≡ length insert.columns = omega (arith, c.next_register.ensures, c.next_register-first.ensures, stores.next) in
    let code = c.release.ensures ∙ ap (λ (d : Draft). record d { next = first }) c.in_ok-op.ensures in
    row-puts-as c.args.b.now c.emit_beside.new.b c.refuse_if.new.b c.fix_rowid.new.b c.refuse_nulls.new.b c.refuse_by_checks.new.b c.store_rowid.new.b c.refuse_met.new.b c.release.new.self (c.in_ok-stored.stored || c.in_ok-beside.beside) c.is_within-is_within.result c.rowid_given-given.result c.in_ok-rowid.rowid c.in_ok-rowid-2.rowid first (c.next_register.result - first) c.args.causes insert row c.next_register-first.ensures wide c.rowid_given-given.ensures c.is_within-is_within.ensures c.in_ok-refuse_if.ensures c.in_ok-rowid.ensures.register c.in_ok-rowid.ensures.fixes nulls checks c.in_ok-rowid-2.ensures.register c.in_ok-rowid-2.ensures.stores c.in_ok-refuse_met.ensures code c.requires.taken c.requires.cursors both (λ none.
    let apart = none_of_both c.in_ok-stored.stored c.in_ok-beside.beside none in
    held_then row insert.columns (columns_beside insert.rowid) (held apart.0) (c.in_ok-beside.ensures.held apart.1))

pub returns-clause-cursors : goal.returns-clause-cursors
returns-clause-cursors c =
    let kept = row-counted c.emit_beside.new.b c.refuse_if.new.b c.fix_rowid.new.b c.refuse_nulls.new.b (c.in_ok-stored.stored || c.in_ok-beside.beside) c.rowid_given-given.result c.as_slice-2.result.now c.args.insert.now.name c.next_register-first.result c.args.causes c.in_ok-refuse_if.ensures c.in_ok-rowid.ensures.fixes c.in_ok-refuse_nulls.ensures in
    let count = c.next_register.result - c.next_register-first.result in
    ap (λ (d : Draft). d.cursors) c.release.ensures
    ∙ ap (λ (d : Draft). d.cursors) c.in_ok-op.ensures
    ∙ ap (λ (d : Draft). d.cursors) c.in_ok-refuse_met.ensures
    ∙ (met-keeps (may_be_met (rowid_given c.args.insert.now.rowid count) c.args.insert.now.keys) c.store_rowid.new.b c.args.insert.now.name c.args.insert.now.keys c.in_ok-rowid-2.rowid c.next_register-first.result count c.args.causes).0
    ∙ ap (λ (d : Draft). d.cursors) c.in_ok-rowid-2.ensures.stores
    ∙ (stored-keeps c.is_within-is_within.result c.refuse_by_checks.new.b c.in_ok-rowid.rowid).0
    ∙ c.in_ok-refuse_by_checks.ensures.cursors
    ∙ kept.0
    ∙ c.in_ok-beside.ensures.cursors
    ∙ c.in_ok-stored.ensures.cursors

pub returns-clause-units : goal.returns-clause-units
returns-clause-units c =
    let kept = row-counted c.emit_beside.new.b c.refuse_if.new.b c.fix_rowid.new.b c.refuse_nulls.new.b (c.in_ok-stored.stored || c.in_ok-beside.beside) c.rowid_given-given.result c.as_slice-2.result.now c.args.insert.now.name c.next_register-first.result c.args.causes c.in_ok-refuse_if.ensures c.in_ok-rowid.ensures.fixes c.in_ok-refuse_nulls.ensures in
    let count = c.next_register.result - c.next_register-first.result in
    ap (λ (d : Draft). d.units) c.release.ensures
    ∙ ap (λ (d : Draft). d.units) c.in_ok-op.ensures
    ∙ ap (λ (d : Draft). d.units) c.in_ok-refuse_met.ensures
    ∙ (met-keeps (may_be_met (rowid_given c.args.insert.now.rowid count) c.args.insert.now.keys) c.store_rowid.new.b c.args.insert.now.name c.args.insert.now.keys c.in_ok-rowid-2.rowid c.next_register-first.result count c.args.causes).2
    ∙ ap (λ (d : Draft). d.units) c.in_ok-rowid-2.ensures.stores
    ∙ (stored-keeps c.is_within-is_within.result c.refuse_by_checks.new.b c.in_ok-rowid.rowid).2
    ∙ c.in_ok-refuse_by_checks.ensures.units
    ∙ kept.3
    ∙ c.in_ok-beside.ensures.units
    ∙ c.in_ok-stored.ensures.units
