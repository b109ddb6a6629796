use Rattle.std.proofs.Common.{ap, ◌∙◌, flat_map, map, subst, sym}
use Rattle.bound_ignored.proofs.ErasedLaws.{flat_map-conditions_of-erased}
use Rattle.bound_ignored.specs.Erased.{erased, marks_of}
use Rattle.bound_tree.specs.Conditions.{conditions_of}
use Rattle.sql_meaning.specs.Running.{join_by}
use Rattle.sql_meaning.specs.declared.bound.Join.TheVariants as join
use Rattle.bind_stmt.specs.Binds.{IsJoin}
use Rattle.bind_stmt.proofs.querying.join_of.Goals as goal

pub returns-in_ok-ons-in-Left : goal.returns-in_ok-ons-in-Left
returns-in_ok-ons-in-Left c =
    let m = marks_of c.args.marks.now in
    let ons = c.args.item.now.ons in
    let made = c.in_ok-ons-in-Left.ensures ∙ ap (map (erased m)) c.as_slice.ensures in
    subst (λ kind. IsJoin m (join_by kind ons) (join.Left c.in_ok-ons-in-Left.ons)) (sym c.in-Left.is) (ap (flat_map conditions_of) made ∙ flat_map-conditions_of-erased m ons)
