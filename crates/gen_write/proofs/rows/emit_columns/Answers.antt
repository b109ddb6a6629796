use Rattle.std.proofs.Common.{◌≡◌, [], ◌∷◌, Bool, true, false, ◌||◌, take, ◌∙◌, subst, arith, rules, refl}
use Rattle.std.specs.List.{flat_map}
use Rattle.std.proofs.lemmas.List.{take_all}
use Rattle.gen_write.specs.Stretches.{AreHeld, Stores}
use Rattle.gen_write.proofs.Columns.{held_next, held_none, stores_next, stores_none, stores_wider}
use Rattle.gen_expr.proofs.Covering.{covers_item}
use Rattle.gen_write.specs.Writes.{default_needs}
use Rattle.vm_code.specs.Frames.{needing}
use Rattle.gen_write.proofs.rows.emit_columns.Goals as goal

none_of_both : (a b : Bool) → (a || b) ≡ false → (a ≡ false) × (b ≡ false)
none_of_both true b e = absurd (cc)
none_of_both false b e = (refl, e)

pub loop-column-init : goal.loop-column-init
loop-column-init c = record { stores = stores_none (needing (flat_map default_needs c.args.columns.now)) c.args.b.now c.args.causes c.args.kept.now c.requires.counted; held = λ none. held_none c.args.kept.now; cursors = search rules; units = search rules }

pub emit_column-requires-clause-taken : goal.emit_column-requires-clause-taken
emit_column-requires-clause-taken c = omega (arith, c.requires.taken, c.loop-column.invariant.stores.next)

pub emit_column-requires-clause-counted : goal.emit_column-requires-clause-counted
emit_column-requires-clause-counted c = c.loop-column.invariant.stores.counted

pub loop-column-preserved : goal.loop-column-preserved
loop-column-preserved c =
    let one = c.column-item.result in
    let i = c.loop-column.column-index in
    let all = c.args.columns.now in
    let widened = stores_wider (flat_map default_needs all) (covers_item default_needs all i one c.loop-column-test.true c.column-item.is) c.in_ok-may.ensures.stores in
    let stores = subst (λ x. Stores (needing (flat_map default_needs all)) c.loop-column.b c.emit_column.new.b c.args.causes c.args.kept.now (x ∷ [])) c.column-item.is widened in
    record {
      stores = stores_next c.args.causes c.args.kept.now c.args.columns.now i one c.requires.taken c.loop-column-test.true c.loop-column.invariant.stores stores;
      held = λ none.
          let both = none_of_both c.loop-column.may_fail c.in_ok-may.may none in
          held_next c.args.kept.now c.args.columns.now i one c.loop-column-test.true (c.loop-column.invariant.held both.0) (subst (λ x. AreHeld c.args.kept.now (x ∷ [])) c.column-item.is (c.in_ok-may.ensures.held both.1));
      cursors = c.in_ok-may.ensures.cursors ∙ c.loop-column.invariant.cursors;
      units = c.in_ok-may.ensures.units ∙ c.loop-column.invariant.units;
    }

pub returns-clause-stores : goal.returns-clause-stores
returns-clause-stores c =
    let all = c.args.columns.now in
    let whole : take c.loop-column.column-index all ≡ all = take_all c.loop-column.column-index all (omega arith) in
    subst (Stores (needing (flat_map default_needs all)) c.args.b.now c.loop-column.b c.args.causes c.args.kept.now) whole c.loop-column.invariant.stores

pub returns-clause-held : goal.returns-clause-held
returns-clause-held c none =
    let all = c.args.columns.now in
    let whole : take c.loop-column.column-index all ≡ all = take_all c.loop-column.column-index all (omega arith) in
    subst (AreHeld c.args.kept.now) whole (c.loop-column.invariant.held none)
