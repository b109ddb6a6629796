use Rattle.std.proofs.Common.{◌≡◌, true, refl, arith}
use Rattle.bound_tree.specs.Seen.{seen}
use Rattle.plan_best.proofs.Conjuncts.{one_way_compares}
use Rattle.plan_best.specs.Sides.{is_kept_beside}
use Rattle.plan_tree.specs.Ignoring.{ignores}
use Rattle.plan_best.proofs.comparing.with_source.Goals as goal

pub returns : goal.returns
returns c = λ a is.
    let fixed : ignores c.args.item (seen c.args.key.now) ≡ true = grind (arith, c.ignores.ensures, c.if-not-ignores.false) in
    let kept : is_kept_beside c.args.sides.right c.args.sides.left ≡ true = grind (arith, c.is_kept_beside.ensures, c.if-not-is_kept_beside.false) in
    (rw c.is_given.ensures (one_way_compares c.args.params.now c.args.item c.args.source c.args.op c.args.sides.collation (record { value = c.args.key; other = c.args.sides.left; own = c.args.sides.right }) a is fixed kept), refl)
