use Rattle.std.proofs.Common.{◌≡◌, ◌∙◌, ◌+◌, length, map, refl, sym, ap, arith}
use Rattle.std.specs.List.{flat_map}
use Rattle.std.specs.Prelude.{slice_get}
use Rattle.std.proofs.lemmas.Result.{on_ok_weaker}
use Rattle.bound_tree.specs.Seen.{seen, seen_arm, seen_match}
use Rattle.bound_tree.specs.SeenLaws.{seen-Literal, seen-Parameter, seen-Column, seen-Rowid, seen-Argument, seen-Aggregate, seen-Unary, seen-Binary, seen-LikeEscaped, seen-Between, seen-In, seen-Choose, seen-Match, seen-Iif, seen-Coalesce, seen-Call, seen-HostCall, seen-Scalar, seen-Exists, seen-InQuery, seen-RaiseIgnore, seen-RaiseAbort}
use Rattle.bound_tree.specs.declared.tree.ArmTree.{out-ArmTree}
use Rattle.bound_tree.specs.declared.tree.MatchTree.{out-MatchTree}
use Rattle.eng_value.specs.Truths.{truth_of}
use Rattle.eng_value.specs.declared.operators.UnaryOperator.TheVariants as unary
use Rattle.gen_expr.specs.Needs.{arm_needs_of, match_needs_of, needs_of}
use Rattle.gen_expr.specs.Steps.{steps_of}
use Rattle.sql_meaning.specs.Expression.{value_of}
use Rattle.vm_code.specs.Frames.{needing}
use Rattle.vm_code.specs.declared.op.Op.TheVariants as op
use Rattle.vm_code.specs.declared.operand.Operand.TheVariants as operand
use Rattle.vm_code.proofs.Values.{leaves_one, leaves_same}
use Rattle.vm_code.specs.Draft.{Draft, bound, released, with_op}
use Rattle.gen_expr.proofs.Codes.{by_cases, not_built, of_column, of_parameter, of_rowid, of_unbuilt, literal_offered, column_offered, parameter_offered, register_offered, of_unary, both_joined, decided_joined, decided_within, three_offered, of_like_escaped, of_between, none_offered, all_more, of_call, member_more, of_in, known_more, of_coalesce, choice_more, of_choose, match_more, of_match}
use Rattle.gen_expr.proofs.Assembly.{beside_of, beside_on, turns_at, decides_at, emits_from, all_offered, map_below, map_past, map_item, label_open, tested_open, arm_parts, match_parts, member_all, known_all, choice_all, iif_decided, iif_all, match_all}
use Rattle.gen_expr.proofs.Stretches.{decides_none, turns_none}
use Rattle.gen_expr.specs.Parts.{with_arm_tested}
use Rattle.gen_expr.proofs.emitting.+emitting.Goals as goal

pub emit-returns-in_ok-emit_literal-in-Literal-clause-leaves : goal.emit-returns-in_ok-emit_literal-in-Literal-clause-leaves
emit-returns-in_ok-emit_literal-in-Literal-clause-leaves t c =
    rw (c.in-Literal.is, seen-Literal c.in-Literal.literal) c.in_ok-emit_literal-in-Literal.ensures.leaves

pub emit-returns-in_ok-read_column-in-Column-clause-leaves : goal.emit-returns-in_ok-read_column-in-Column-clause-leaves
emit-returns-in_ok-read_column-in-Column-clause-leaves t c =
    rw (c.in-Column.is, seen-Column c.in-Column.item c.in-Column.column, c.in_ok-read_column-in-Column.ensures) (of_column c.args.b.now c.in-Column.item c.in-Column.column c.args.to c.requires.taken c.requires.counted)

pub emit-returns-in_ok-read_rowid-in-Rowid-clause-leaves : goal.emit-returns-in_ok-read_rowid-in-Rowid-clause-leaves
emit-returns-in_ok-read_rowid-in-Rowid-clause-leaves t c =
    rw (c.in-Rowid.is, seen-Rowid c.in-Rowid.item, c.in_ok-read_rowid-in-Rowid.ensures) (of_rowid c.args.b.now c.in-Rowid.item c.args.to c.requires.taken c.requires.counted)

pub emit-returns-in_ok-read_parameter-in-Parameter-clause-leaves : goal.emit-returns-in_ok-read_parameter-in-Parameter-clause-leaves
emit-returns-in_ok-read_parameter-in-Parameter-clause-leaves t c =
    rw (c.in-Parameter.is, seen-Parameter c.in-Parameter.number, c.in_ok-read_parameter-in-Parameter.ensures) (of_parameter c.args.b.now c.in-Parameter.number c.args.to c.requires.taken c.requires.counted)

pub emit-returns-in_ok-unary-in-Unary-clause-leaves : goal.emit-returns-in_ok-unary-in-Unary-clause-leaves
emit-returns-in_ok-unary-in-Unary-clause-leaves t c =
    rw (c.in-Unary.is, seen-Unary c.in-Unary.operator c.in-Unary.inner, ← c.get.ensures, c.in_ok-unary-in-Unary.ensures) (of_unary c.args.b.now c.operand.new.b c.in-Unary.operator c.in_ok-inner-in-Unary.inner c.next_register-first.result c.args.to _ c.next_register-first.ensures c.in_ok-inner-in-Unary.ensures.offers c.requires.taken)

pub emit-returns-in_ok-emit_binary-in-Binary-clause-leaves : goal.emit-returns-in_ok-emit_binary-in-Binary-clause-leaves
emit-returns-in_ok-emit_binary-in-Binary-clause-leaves t c =
    rw (c.in-Binary.is, seen-Binary c.in-Binary.operator c.in-Binary.left c.in-Binary.right, ← c.get-in-Binary.ensures, ← c.get-in-Binary-2.ensures) c.in_ok-emit_binary-in-Binary.ensures.leaves

pub emit-returns-in_ok-like_escaped-in-LikeEscaped-clause-leaves : goal.emit-returns-in_ok-like_escaped-in-LikeEscaped-clause-leaves
emit-returns-in_ok-like_escaped-in-LikeEscaped-clause-leaves t c =
    rw (c.in-LikeEscaped.is, seen-LikeEscaped c.in-LikeEscaped.text c.in-LikeEscaped.pattern c.in-LikeEscaped.escape, ← c.get-in-LikeEscaped.ensures, ← c.get-in-LikeEscaped-2.ensures, ← c.get-in-LikeEscaped-3.ensures, c.in_ok-like_escaped-in-LikeEscaped.ensures)
    (of_like_escaped c.args.b.now c.three_operands.new.b c.in_ok-operands-in-LikeEscaped.operands c.next_register-first.result c.args.to _ _ _ c.next_register-first.ensures c.in_ok-operands-in-LikeEscaped.ensures.offers c.requires.taken)

pub emit-returns-in_ok-between-in-Between-clause-leaves : goal.emit-returns-in_ok-between-in-Between-clause-leaves
emit-returns-in_ok-between-in-Between-clause-leaves t c =
    rw (c.in-Between.is, seen-Between c.in-Between.above c.in-Between.below c.in-Between.tested c.in-Between.low c.in-Between.high, ← c.get-in-Between.ensures, ← c.get-in-Between-2.ensures, ← c.get-in-Between-3.ensures, c.in_ok-between-in-Between.ensures)
    (of_between c.args.b.now c.three_operands-in-Between.new.b c.in-Between.above c.in-Between.below c.in_ok-operands-in-Between.operands c.next_register-first.result c.args.to _ _ _ c.next_register-first.ensures c.in_ok-operands-in-Between.ensures.offers c.requires.taken)

pub emit-returns-in_ok-emit_member-in-In-clause-leaves : goal.emit-returns-in_ok-emit_member-in-In-clause-leaves
emit-returns-in_ok-emit_member-in-In-clause-leaves t c =
    rw (c.in-In.is, seen-In c.in-In.sides c.in-In.tested c.in-In.others, ← c.get-in-In.ensures, ← c.as_slice.ensures) (of_in c.args.b.now c.emit_member.new.b c.in-In.sides c.args.to _ _ c.in_ok-emit_member-in-In.ensures.leaves)

pub emit-returns-in_ok-emit_known-in-Coalesce-clause-leaves : goal.emit-returns-in_ok-emit_known-in-Coalesce-clause-leaves
emit-returns-in_ok-emit_known-in-Coalesce-clause-leaves t c =
    rw (c.in-Coalesce.is, seen-Coalesce c.in-Coalesce.field-0 c.in-Coalesce.operands, ← c.as_slice-in-Coalesce.ensures) (of_coalesce c.args.b.now c.emit_known.new.b c.in-Coalesce.field-0 c.args.to _ c.in_ok-emit_known-in-Coalesce.ensures.leaves)

pub emit-returns-in_ok-emit_choice-in-Choose-clause-leaves : goal.emit-returns-in_ok-emit_choice-in-Choose-clause-leaves
emit-returns-in_ok-emit_choice-in-Choose-clause-leaves t c =
    rw (c.in-Choose.is, seen-Choose c.in-Choose.arms c.in-Choose.otherwise, ← c.as_slice-in-Choose.ensures, ← c.get-in-Choose.ensures) (of_choose c.args.b.now c.emit_choice.new.b c.args.to _ _ c.in_ok-emit_choice-in-Choose.ensures.leaves)

pub emit-returns-in_ok-emit_match-in-Match-clause-leaves : goal.emit-returns-in_ok-emit_match-in-Match-clause-leaves
emit-returns-in_ok-emit_match-in-Match-clause-leaves t c =
    rw (c.in-Match.is, seen-Match c.in-Match.tested c.in-Match.arms c.in-Match.otherwise, ← c.get-in-Match.ensures, ← c.as_slice-in-Match.ensures, ← c.get-in-Match-2.ensures) (of_match c.args.b.now c.emit_match.new.b c.args.to _ _ _ c.in_ok-emit_match-in-Match.ensures.leaves)

pub emit-returns-in_ok-call-in-Call-clause-leaves : goal.emit-returns-in_ok-call-in-Call-clause-leaves
emit-returns-in_ok-call-in-Call-clause-leaves t c =
    rw (c.in-Call.is, seen-Call c.in-Call.function c.in-Call.collation c.in-Call.args, ← c.as_slice-in-Call.ensures, c.in_ok-call-in-Call.ensures)
    (of_call c.args.b.now c.all_operands.new.b c.in-Call.function c.in-Call.collation c.in_ok-args-in-Call.args c.next_register-first.result c.args.to _ c.next_register-first.ensures c.in_ok-args-in-Call.ensures.offers c.requires.taken)

pub emit-returns-in_ok-emit_iif-in-Iif-clause-leaves : goal.emit-returns-in_ok-emit_iif-in-Iif-clause-leaves
emit-returns-in_ok-emit_iif-in-Iif-clause-leaves t c =
    rw (c.in-Iif.is, seen-Iif c.in-Iif.condition c.in-Iif.value c.in-Iif.otherwise, ← c.get-in-Iif.ensures, ← c.get-in-Iif-2.ensures, ← c.get-in-Iif-3.ensures) c.in_ok-emit_iif-in-Iif.ensures.leaves

pub emit-returns-in_ok-emit_unbuilt-in-Argument-clause-leaves : goal.emit-returns-in_ok-emit_unbuilt-in-Argument-clause-leaves
emit-returns-in_ok-emit_unbuilt-in-Argument-clause-leaves t c =
    of_unbuilt c.args.b.now c.emit_unbuilt.new.b c.args.to (seen c.args.e.now)
    (by_cases c.in-Argument.is (λ argument. not_built argument.1 (seen-Argument argument.0) (λ env. refl) refl)
    (λ rest. by_cases rest (λ aggregate. not_built aggregate.1 (seen-Aggregate aggregate.0) (λ env. refl) refl)
    (λ rest. by_cases rest (λ call. not_built call.2 (seen-HostCall call.0 call.1) (λ env. refl) refl)
    (λ rest. by_cases rest (λ scalar. not_built scalar.2 (seen-Scalar scalar.0 scalar.1) (λ env. refl) refl)
    (λ rest. by_cases rest (λ exists. not_built exists.2 (seen-Exists exists.0 exists.1) (λ env. refl) refl)
    (λ rest. by_cases rest (λ in_query. not_built in_query.4 (seen-InQuery in_query.0 in_query.1 in_query.2 in_query.3) (λ env. refl) refl)
    (λ rest. by_cases rest (λ ignore. not_built ignore seen-RaiseIgnore (λ env. refl) refl)
    (λ abort. not_built abort.1 (seen-RaiseAbort abort.0) (λ env. refl) refl))))))))
    c.in_ok-emit_unbuilt-in-Argument.ensures.leaves

-- ---- truths

pub emit_truth-returns-then-gives_truth-clause-leaves : goal.emit_truth-returns-then-gives_truth-clause-leaves
emit_truth-returns-then-gives_truth-clause-leaves t c =
    leaves_same (λ env. truth_of (value_of (seen c.args.e.now) env)) (λ env. steps_of (seen c.args.e.now) + 1) (λ env. sym (c.if-gives_truth.ensures refl env)) (λ env. omega arith) c.in_ok-emit.ensures.leaves

pub emit_truth-returns-clause-leaves : goal.emit_truth-returns-clause-leaves
emit_truth-returns-clause-leaves t c =
    let leaves = c.in_ok-emit.ensures.leaves in
    on_ok_weaker {P = c.op.new.self ≡ with_op c.emit.new.b (op.Unary unary.Truth (operand.Register c.args.to) c.args.to)} c.op.result (λ is. rw is (leaves_one (needing (needs_of (seen c.args.e.now))) c.args.b.now c.emit.new.b (op.Unary unary.Truth (operand.Register c.args.to) c.args.to) c.args.to (λ env. value_of (seen c.args.e.now) env) truth_of (λ env. steps_of (seen c.args.e.now)) (refl, refl) leaves c.requires.taken c.requires.counted (λ m at s. refl))) c.op.ensures

-- ---- operators on two expressions

pub emit_binary-returns-in-Some-clause-leaves : goal.emit_binary-returns-in-Some-clause-leaves
emit_binary-returns-in-Some-clause-leaves t c =
    on_ok_weaker c.emit_decided.result (λ l. decided_within c.args.b.now c.emit_decided.new.b c.args.operator c.args.to (seen c.args.left.now) (seen c.args.right.now) c.in-Some.ensures.steps l) c.emit_decided.ensures.leaves

pub emit_binary-returns-clause-leaves : goal.emit_binary-returns-clause-leaves
emit_binary-returns-clause-leaves t c =
    on_ok_weaker {P = c.binary.new.b ≡ released (with_op c.operand-2.new.b (op.Binary c.args.operator c.in_ok-left.left c.in_ok-right.right c.args.to)) c.next_register-first.result} c.binary.result (λ is. rw is (both_joined c.args.b.now c.operand.new.b c.operand-2.new.b c.args.operator c.in_ok-left.left c.in_ok-right.right c.next_register-first.result c.args.to (seen c.args.left.now) (seen c.args.right.now) c.next_register-first.ensures c.in_ok-left.ensures.offers c.in_ok-right.ensures.offers c.requires.taken)) c.binary.ensures

pub emit_decided-returns-clause-leaves : goal.emit_decided-returns-clause-leaves
emit_decided-returns-clause-leaves t c =
    on_ok_weaker {P = c.bind.new.self ≡ bound c.binary.new.b c.in_ok-end.end} c.bind.result (λ is. decided_joined c.args.b.now c.emit_truth.new.b c.test_left.new.b c.operand.new.b c.binary.new.b c.bind.new.self c.args.operator c.args.wanted c.in_ok-right.right c.args.to c.in_ok-end.end c.next_register-first.result (seen c.args.left.now) (seen c.args.right.now) c.requires.decided c.in_ok-emit_truth.ensures.leaves c.in_ok-end.ensures.0 c.in_ok-end.ensures.1 c.next_register-first.ensures c.in_ok-right.ensures.offers c.in_ok-binary.ensures is c.requires.taken c.requires.counted) c.bind.ensures

-- ---- operands

pub operand-returns-in_ok-constant-in-Literal-clause-offers : goal.operand-returns-in_ok-constant-in-Literal-clause-offers
operand-returns-in_ok-constant-in-Literal-clause-offers t c =
    rw (c.in-Literal.is, seen-Literal c.in-Literal.literal, c.in_ok-constant-in-Literal.ensures) (literal_offered c.args.b.now c.in-Literal.literal c.requires.counted)

pub operand-returns-in-Column-clause-offers : goal.operand-returns-in-Column-clause-offers
operand-returns-in-Column-clause-offers t c =
    rw (c.in-Column.is, seen-Column c.in-Column.item c.in-Column.column) (column_offered c.args.b.now c.in-Column.item c.in-Column.column c.requires.counted)

pub operand-returns-in-Parameter-clause-offers : goal.operand-returns-in-Parameter-clause-offers
operand-returns-in-Parameter-clause-offers t c =
    rw (c.in-Parameter.is, seen-Parameter c.in-Parameter.number) (parameter_offered c.args.b.now c.in-Parameter.number c.requires.counted)

pub operand-returns-in_ok-emit-in_default : goal.operand-returns-in_ok-emit-in_default
operand-returns-in_ok-emit-in_default t c = record {
  offers = register_offered c.args.b.now c.take.new.self c.emit.new.b c.in_ok-register-in_default.register (seen c.args.e.now) c.in_ok-register-in_default.ensures.0 c.in_ok-register-in_default.ensures.1 c.in_ok-emit-in_default.ensures.leaves;
  units = c.in_ok-emit-in_default.ensures.units ∙ ap (λ (d : Draft). d.units) c.in_ok-register-in_default.ensures.1;
  cursors = c.in_ok-emit-in_default.ensures.cursors ∙ ap (λ (d : Draft). d.cursors) c.in_ok-register-in_default.ensures.1;
}

pub three_operands-returns-clause-offers : goal.three_operands-returns-clause-offers
three_operands-returns-clause-offers t c =
    three_offered c.args.b.now c.operand.new.b c.operand-2.new.b c.operand-3.new.b _ (seen c.args.x.now) (seen c.args.y.now) (seen c.args.z.now) c.in_ok-first.ensures.offers c.in_ok-second.ensures.offers c.in_ok-third.ensures.offers

pub all_operands-loop-e-init : goal.all_operands-loop-e-init
all_operands-loop-e-init t c = record { offers = none_offered (flat_map needs_of (map seen c.args.all.now)) c.args.b.now _ c.new-operands.ensures c.requires.counted; units = refl; cursors = refl }

pub all_operands-loop-e-preserved : goal.all_operands-loop-e-preserved
all_operands-loop-e-preserved t c = record {
  offers = all_more c.args.b.now c.loop-e.b c.operand.new.b c.loop-e.operands c.push.new.self c.in_ok-operand.field-0 (map seen c.args.all.now) c.loop-e.e-index (seen c.e-item.result) (map_below seen c.args.all.now c.loop-e.e-index c.loop-e-test.true) (map_item seen c.args.all.now c.loop-e.e-index c.e-item.result c.e-item.is) c.in_ok-push.ensures.ok c.loop-e.invariant.offers c.in_ok-operand.ensures.offers;
  units = c.in_ok-operand.ensures.units ∙ c.loop-e.invariant.units;
  cursors = c.in_ok-operand.ensures.cursors ∙ c.loop-e.invariant.cursors;
}

pub all_operands-returns-clause-offers : goal.all_operands-returns-clause-offers
all_operands-returns-clause-offers t c =
    all_offered c.args.b.now c.loop-e.b c.loop-e.operands (map seen c.args.all.now) c.loop-e.e-index (map_past seen c.args.all.now c.loop-e.e-index c.loop-e-test.false) c.loop-e.invariant.offers

-- ---- IN

pub emit_member-loop-e-init : goal.emit_member-loop-e-init
emit_member-loop-e-init t c =
    record { turns = turns_none (flat_map needs_of (map seen c.args.others.now)) c.begin_member.new.b c.in_ok-value.value c.args.to; next = refl; most = omega arith; units = refl; cursors = refl }

pub emit_member-loop-e-preserved : goal.emit_member-loop-e-preserved
emit_member-loop-e-preserved t c =
    let x = seen c.args.tested.now in
    let es = c.args.others.now in
    let held = beside_of c.args.b.now c.take.new.self c.emit.new.b c.in_ok-value.value c.args.to x c.in_ok-value.ensures.0 c.in_ok-value.ensures.1 c.in_ok-emit.ensures.leaves c.requires.taken in
    let begun = c.in_ok-begin_member.ensures in
    let beside = beside_on {d = c.begin_member.new.b} held (ap (λ (d : Draft). d.next) begun) (omega (arith, ap (λ (d : Draft). d.most) begun)) in
    let more = turns_at c.or_equal.new.b c.in_ok-or_equal.ensures (member_more c.begin_member.new.b c.loop-e.b c.operand.new.b c.args.sides c.in_ok-other.other c.in_ok-value.value c.next_register-first.result c.args.to c.loop-e.e-index (map seen es) (seen c.e-item.result) (map_below seen es c.loop-e.e-index c.loop-e-test.true) (map_item seen es c.loop-e.e-index c.e-item.result c.e-item.is) c.next_register-first.ensures c.loop-e.invariant.turns c.in_ok-other.ensures.offers beside.taken beside.beside beside.other) in
    record {
      turns = more;
      next = more.next;
      most = more.grows.most;
      units = ap (λ (d : Draft). d.units) c.in_ok-or_equal.ensures ∙ c.in_ok-other.ensures.units ∙ c.loop-e.invariant.units;
      cursors = ap (λ (d : Draft). d.cursors) c.in_ok-or_equal.ensures ∙ c.in_ok-other.ensures.cursors ∙ c.loop-e.invariant.cursors;
    }

pub emit_member-returns-clause-leaves : goal.emit_member-returns-clause-leaves
emit_member-returns-clause-leaves t c =
    member_all c.args.b.now c.take.new.self c.emit.new.b c.begin_member.new.b c.loop-e.b c.give_back.new.self c.args.sides c.in_ok-value.value c.args.to c.loop-e.e-index (map seen c.args.others.now) (seen c.args.tested.now) c.in_ok-value.ensures.0 c.in_ok-value.ensures.1 c.in_ok-emit.ensures.leaves c.in_ok-begin_member.ensures (map_past seen c.args.others.now c.loop-e.e-index c.loop-e-test.false) c.loop-e.invariant.turns c.give_back.ensures c.requires.taken c.requires.counted

-- ---- coalesce

pub emit_known-loop-e-init : goal.emit_known-loop-e-init
emit_known-loop-e-init t c =
    record { decides = decides_none (flat_map needs_of (map seen c.args.operands.now)) c.label.new.self c.args.to c.args.to c.in_ok-end.end; next = refl; most = omega arith; units = refl; cursors = refl }

pub emit_known-loop-e-preserved : goal.emit_known-loop-e-preserved
emit_known-loop-e-preserved t c =
    let more = decides_at c.unless_null.new.b c.in_ok-unless_null.ensures (known_more c.label.new.self c.loop-e.b c.emit.new.b c.args.to c.in_ok-end.end c.loop-e.e-index (map seen c.args.operands.now) (seen c.e-item.result) (map_below seen c.args.operands.now c.loop-e.e-index c.loop-e-test.true) (map_item seen c.args.operands.now c.loop-e.e-index c.e-item.result c.e-item.is) c.loop-e.invariant.decides c.in_ok-emit.ensures.leaves) in
    record {
      decides = more;
      next = more.next;
      most = more.grows.most;
      units = ap (λ (d : Draft). d.units) c.in_ok-unless_null.ensures ∙ c.in_ok-emit.ensures.units ∙ c.loop-e.invariant.units;
      cursors = ap (λ (d : Draft). d.cursors) c.in_ok-unless_null.ensures ∙ c.in_ok-emit.ensures.cursors ∙ c.loop-e.invariant.cursors;
    }

pub emit_known-bind-requires : goal.emit_known-bind-requires
emit_known-bind-requires t c =
    ap (λ (d : Draft). slice_get d.labels c.in_ok-end.end) c.in_ok-op.ensures ∙ c.loop-e.invariant.decides.grows.open_labels c.in_ok-end.end (label_open c.args.b.now c.label.new.self c.in_ok-end.end c.in_ok-end.ensures.0 c.in_ok-end.ensures.1)

pub emit_known-returns-clause-leaves : goal.emit_known-returns-clause-leaves
emit_known-returns-clause-leaves t c =
    known_all c.args.b.now c.label.new.self c.loop-e.b c.op.new.self c.bind.new.self c.args.to c.in_ok-end.end c.loop-e.e-index (map seen c.args.operands.now) c.in_ok-end.ensures.0 c.in_ok-end.ensures.1 (map_past seen c.args.operands.now c.loop-e.e-index c.loop-e-test.false) c.loop-e.invariant.decides c.in_ok-op.ensures c.in_ok-bind.ensures c.requires.taken c.requires.counted

-- ---- CASE with conditions

pub emit_choice-leave_arm-requires : goal.emit_choice-leave_arm-requires
emit_choice-leave_arm-requires t c =
    c.in_ok-emit.ensures.leaves.grows.open_labels c.in_ok-next.next (tested_open c.emit_truth.new.b c.test_arm.new.b c.args.to c.in_ok-end.end c.in_ok-next.next c.in_ok-next.ensures.0 c.in_ok-next.ensures.1)

pub emit_choice-bind-requires : goal.emit_choice-bind-requires
emit_choice-bind-requires t c =
    c.in_ok-emit-2.ensures.leaves.grows.open_labels c.in_ok-end.end (c.loop-arm.invariant.decides.grows.open_labels c.in_ok-end.end (label_open c.args.b.now c.label.new.self c.in_ok-end.end c.in_ok-end.ensures.0 c.in_ok-end.ensures.1))

pub emit_choice-loop-arm-init : goal.emit_choice-loop-arm-init
emit_choice-loop-arm-init t c =
    record { decides = decides_none (flat_map arm_needs_of (map seen_arm c.args.arms.now)) c.label.new.self c.args.to c.args.to c.in_ok-end.end; next = refl; most = omega arith; units = refl; cursors = refl }

pub emit_choice-loop-arm-preserved : goal.emit_choice-loop-arm-preserved
emit_choice-loop-arm-preserved t c =
    let arm = c.arm-item.result in
    let next = ap (λ (d : Draft). d.next) c.in_ok-end.ensures.1 in
    let most = ap (λ (d : Draft). d.most) c.in_ok-end.ensures.1 in
    let value = emits_from (seen (out-ArmTree arm).value) _ c.in_ok-next.ensures.1 c.in_ok-emit.ensures.leaves in
    let more = decides_at c.leave_arm.new.b c.in_ok-leave_arm.ensures (choice_more c.label.new.self c.loop-arm.b c.emit_truth.new.b c.emit.new.b c.args.to c.in_ok-next.next c.in_ok-end.end c.loop-arm.arm-index (map seen_arm c.args.arms.now) (seen_arm arm) (seen (out-ArmTree arm).condition) (seen (out-ArmTree arm).value) (map_below seen_arm c.args.arms.now c.loop-arm.arm-index c.loop-arm-test.true) (map_item seen_arm c.args.arms.now c.loop-arm.arm-index arm c.arm-item.is) (arm_parts arm) c.loop-arm.invariant.decides c.in_ok-emit_truth.ensures.leaves c.in_ok-next.ensures.0 value (omega (arith, next, c.loop-arm.invariant.next)) (omega (arith, next, most, c.loop-arm.invariant.next, c.loop-arm.invariant.most))) in
    record {
      decides = more;
      next = more.next;
      most = more.grows.most;
      units = ap (λ (d : Draft). d.units) c.in_ok-leave_arm.ensures ∙ c.in_ok-emit.ensures.units ∙ ap (λ (d : Draft). d.units) c.in_ok-next.ensures.1 ∙ c.in_ok-emit_truth.ensures.units ∙ c.loop-arm.invariant.units;
      cursors = ap (λ (d : Draft). d.cursors) c.in_ok-leave_arm.ensures ∙ c.in_ok-emit.ensures.cursors ∙ ap (λ (d : Draft). d.cursors) c.in_ok-next.ensures.1 ∙ c.in_ok-emit_truth.ensures.cursors ∙ c.loop-arm.invariant.cursors;
    }

pub emit_choice-returns-clause-leaves : goal.emit_choice-returns-clause-leaves
emit_choice-returns-clause-leaves t c =
    choice_all c.args.b.now c.label.new.self c.loop-arm.b c.emit-2.new.b c.bind.new.self c.args.to c.in_ok-end.end c.loop-arm.arm-index (map seen_arm c.args.arms.now) (seen c.args.otherwise.now) c.in_ok-end.ensures.0 c.in_ok-end.ensures.1 (map_past seen_arm c.args.arms.now c.loop-arm.arm-index c.loop-arm-test.false) c.loop-arm.invariant.decides c.in_ok-emit-2.ensures.leaves c.in_ok-bind.ensures

-- ---- iif

pub emit_iif-leave_arm-requires : goal.emit_iif-leave_arm-requires
emit_iif-leave_arm-requires t c =
    c.in_ok-emit.ensures.leaves.grows.open_labels c.in_ok-next.next (tested_open c.emit_truth.new.b c.test_arm.new.b c.args.to c.in_ok-end.end c.in_ok-next.next c.in_ok-next.ensures.0 c.in_ok-next.ensures.1)

pub emit_iif-bind-requires : goal.emit_iif-bind-requires
emit_iif-bind-requires t c =
    let decides = iif_decided c.args.b.now c.label.new.self c.emit_truth.new.b c.test_arm.new.b c.emit.new.b c.leave_arm.new.b c.args.to c.in_ok-next.next c.in_ok-end.end (seen c.args.condition.now) (seen c.args.value.now) c.in_ok-end.ensures.1 c.in_ok-emit_truth.ensures.leaves c.in_ok-next.ensures.0 c.in_ok-next.ensures.1 c.in_ok-emit.ensures.leaves c.in_ok-leave_arm.ensures c.requires.taken c.requires.counted in
    c.in_ok-emit-2.ensures.leaves.grows.open_labels c.in_ok-end.end (decides.grows.open_labels c.in_ok-end.end (label_open c.args.b.now c.label.new.self c.in_ok-end.end c.in_ok-end.ensures.0 c.in_ok-end.ensures.1))

pub emit_iif-returns-clause-leaves : goal.emit_iif-returns-clause-leaves
emit_iif-returns-clause-leaves t c =
    let decides = iif_decided c.args.b.now c.label.new.self c.emit_truth.new.b c.test_arm.new.b c.emit.new.b c.leave_arm.new.b c.args.to c.in_ok-next.next c.in_ok-end.end (seen c.args.condition.now) (seen c.args.value.now) c.in_ok-end.ensures.1 c.in_ok-emit_truth.ensures.leaves c.in_ok-next.ensures.0 c.in_ok-next.ensures.1 c.in_ok-emit.ensures.leaves c.in_ok-leave_arm.ensures c.requires.taken c.requires.counted in
    iif_all c.args.b.now c.label.new.self c.leave_arm.new.b c.emit-2.new.b c.bind.new.self c.args.to c.in_ok-end.end (seen c.args.condition.now) (seen c.args.value.now) (seen c.args.otherwise.now) c.in_ok-end.ensures.0 c.in_ok-end.ensures.1 decides c.in_ok-emit-2.ensures.leaves c.in_ok-bind.ensures

-- ---- CASE with an operand

pub emit_match-leave_arm-requires : goal.emit_match-leave_arm-requires
emit_match-leave_arm-requires t c =
    c.in_ok-emit-2.ensures.leaves.grows.open_labels c.in_ok-next.next (tested_open c.binary.new.b c.test_arm.new.b c.args.to c.in_ok-end.end c.in_ok-next.next c.in_ok-next.ensures.0 c.in_ok-next.ensures.1)

pub emit_match-bind-requires : goal.emit_match-bind-requires
emit_match-bind-requires t c =
    c.in_ok-emit-3.ensures.leaves.grows.open_labels c.in_ok-end.end (c.loop-arm.invariant.decides.grows.open_labels c.in_ok-end.end (label_open c.emit.new.b c.label.new.self c.in_ok-end.end c.in_ok-end.ensures.0 c.in_ok-end.ensures.1))

pub emit_match-loop-arm-init : goal.emit_match-loop-arm-init
emit_match-loop-arm-init t c =
    record { decides = decides_none (flat_map match_needs_of (map seen_match c.args.arms.now)) c.label.new.self c.in_ok-value.value c.args.to c.in_ok-end.end; next = refl; most = omega arith; units = refl; cursors = refl }

pub emit_match-loop-arm-preserved : goal.emit_match-loop-arm-preserved
emit_match-loop-arm-preserved t c =
    let arm = c.arm-item.result in
    let held = beside_of c.args.b.now c.take.new.self c.emit.new.b c.in_ok-value.value c.args.to (seen c.args.tested.now) c.in_ok-value.ensures.0 c.in_ok-value.ensures.1 c.in_ok-emit.ensures.leaves c.requires.taken in
    let beside = beside_on {d = c.label.new.self} held (ap (λ (d : Draft). d.next) c.in_ok-end.ensures.1) (omega (arith, ap (λ (d : Draft). d.most) c.in_ok-end.ensures.1)) in
    let long : c.in_ok-next.next ≡ length c.operand.new.b.labels = c.in_ok-next.ensures.0 ∙ ap (λ (d : Draft). length d.labels) c.in_ok-binary.ensures in
    let value = emits_from (seen (out-MatchTree arm).value) _ (c.in_ok-next.ensures.1 ∙ ap (λ (d : Draft). with_arm_tested d c.args.to c.in_ok-end.end) c.in_ok-binary.ensures) c.in_ok-emit-2.ensures.leaves in
    let more = decides_at c.leave_arm.new.b c.in_ok-leave_arm.ensures (match_more c.label.new.self c.loop-arm.b c.operand.new.b c.emit-in-loop-arm.new.b c.in_ok-other.other c.in_ok-value.value c.next_register-first.result c.args.to c.in_ok-next.next c.in_ok-end.end c.loop-arm.arm-index (map seen_match c.args.arms.now) (seen_match arm) (out-MatchTree arm).sides (seen (out-MatchTree arm).operand) (seen (out-MatchTree arm).value) (map_below seen_match c.args.arms.now c.loop-arm.arm-index c.loop-arm-test.true) (map_item seen_match c.args.arms.now c.loop-arm.arm-index arm c.arm-item.is) (match_parts arm) c.loop-arm.invariant.decides c.next_register-first.ensures c.in_ok-other.ensures.offers long value beside.taken beside.counted beside.beside beside.other) in
    record {
      decides = more;
      next = more.next;
      most = more.grows.most;
      units = ap (λ (d : Draft). d.units) c.in_ok-leave_arm.ensures ∙ c.in_ok-emit-2.ensures.units ∙ ap (λ (d : Draft). d.units) c.in_ok-next.ensures.1 ∙ ap (λ (d : Draft). d.units) c.in_ok-binary.ensures ∙ c.in_ok-other.ensures.units ∙ c.loop-arm.invariant.units;
      cursors = ap (λ (d : Draft). d.cursors) c.in_ok-leave_arm.ensures ∙ c.in_ok-emit-2.ensures.cursors ∙ ap (λ (d : Draft). d.cursors) c.in_ok-next.ensures.1 ∙ ap (λ (d : Draft). d.cursors) c.in_ok-binary.ensures ∙ c.in_ok-other.ensures.cursors ∙ c.loop-arm.invariant.cursors;
    }

pub emit_match-returns-clause-leaves : goal.emit_match-returns-clause-leaves
emit_match-returns-clause-leaves t c =
    match_all c.args.b.now c.take.new.self c.emit.new.b c.label.new.self c.loop-arm.b c.emit-2.new.b c.bind.new.self c.give_back.new.self c.in_ok-value.value c.args.to c.in_ok-end.end c.loop-arm.arm-index (map seen_match c.args.arms.now) (seen c.args.tested.now) (seen c.args.otherwise.now) c.in_ok-value.ensures.0 c.in_ok-value.ensures.1 c.in_ok-emit.ensures.leaves c.in_ok-end.ensures.0 c.in_ok-end.ensures.1 (map_past seen_match c.args.arms.now c.loop-arm.arm-index c.loop-arm-test.false) c.loop-arm.invariant.decides c.in_ok-emit-3.ensures.leaves c.in_ok-bind.ensures c.give_back.ensures c.requires.taken
