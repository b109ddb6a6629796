use denote.Param.Weighed.{most}
use Rattle.std.proofs.Common.{◌≡◌, ◌+◌, ◌*◌, ◌≤◌, map, fold, max, take}
use Rattle.std.specs.List.{flat_map}
use Rattle.std.specs.Prelude.{sum_by}
use Rattle.eng_value.specs.Applied.{or_equal}
use Rattle.eng_value.specs.Collations.{keys_of}
use Rattle.gen_expr.specs.Needs.{arm_needs_of, match_needs_of, needs_of}
use Rattle.gen_expr.specs.Parts.{Turns, Decides, decided_arm, decided_known, decided_match, first_in}
use Rattle.gen_expr.specs.Steps.{steps_of, arm_steps_of, match_steps_of}
use Rattle.sql_meaning.specs.Expression.{value_of, arm_of, match_of, in_all}
use Rattle.vm_code.specs.Frames.{Offers, needing}
use Rattle.bound_tree.specs.Seen.{seen, seen_arm, seen_match}
use Rattle.bound_tree.proofs.tree.ExprTree.TheLaws.{the_size}
use Rattle.bound_tree.proofs.tree.MatchTree.TheLaws.{the_size as match_size}
use Rattle.gen_expr.proofs.emitting.+emitting.Given as goal

abbrev pub invariant-all_operands-loop-e : goal.invariant-all_operands-loop-e
invariant-all_operands-loop-e l = record {
  offers : Offers (needing (flat_map needs_of (map seen l.all))) l.initial.b l.b l.operands (λ env. in_all (map value_of (take l.e-index (map seen l.all))) env) (λ env. sum_by steps_of (take l.e-index (map seen l.all)));
  units : l.b.units ≡ l.initial.b.units;
  cursors : l.b.cursors ≡ l.initial.b.cursors;
}

abbrev pub invariant-emit_member-loop-e : goal.invariant-emit_member-loop-e
invariant-emit_member-loop-e l = record {
  turns : Turns (flat_map needs_of (map seen l.others)) l.initial.b l.b l.value l.to (λ env x y. fold (or_equal (keys_of env.hosts) l.sides x) y (in_all (map value_of (take l.e-index (map seen l.others))) env)) (sum_by (λ e. steps_of e + 2) (take l.e-index (map seen l.others)));
  next : l.b.next ≡ l.initial.b.next;
  most : l.initial.b.most ≤ l.b.most;
  units : l.b.units ≡ l.initial.b.units;
  cursors : l.b.cursors ≡ l.initial.b.cursors;
}

abbrev pub invariant-emit_known-loop-e : goal.invariant-emit_known-loop-e
invariant-emit_known-loop-e l = record {
  decides : Decides (flat_map needs_of (map seen l.operands)) l.initial.b l.b l.to l.to l.end (λ env x. first_in (λ e. decided_known (value_of e env)) (take l.e-index (map seen l.operands))) (sum_by (λ e. steps_of e + 2) (take l.e-index (map seen l.operands)));
  next : l.b.next ≡ l.initial.b.next;
  most : l.initial.b.most ≤ l.b.most;
  units : l.b.units ≡ l.initial.b.units;
  cursors : l.b.cursors ≡ l.initial.b.cursors;
}

abbrev pub invariant-emit_choice-loop-arm : goal.invariant-emit_choice-loop-arm
invariant-emit_choice-loop-arm l = record {
  decides : Decides (flat_map arm_needs_of (map seen_arm l.arms)) l.initial.b l.b l.to l.to l.end (λ env x. first_in (λ arm. decided_arm env (arm_of arm)) (take l.arm-index (map seen_arm l.arms))) (sum_by arm_steps_of (take l.arm-index (map seen_arm l.arms)));
  next : l.b.next ≡ l.initial.b.next;
  most : l.initial.b.most ≤ l.b.most;
  units : l.b.units ≡ l.initial.b.units;
  cursors : l.b.cursors ≡ l.initial.b.cursors;
}

abbrev pub invariant-emit_match-loop-arm : goal.invariant-emit_match-loop-arm
invariant-emit_match-loop-arm l = record {
  decides : Decides (flat_map match_needs_of (map seen_match l.arms)) l.initial.b l.b l.value l.to l.end (λ env x. first_in (λ arm. decided_match env x (match_of arm)) (take l.arm-index (map seen_match l.arms))) (sum_by match_steps_of (take l.arm-index (map seen_match l.arms)));
  next : l.b.next ≡ l.initial.b.next;
  most : l.initial.b.most ≤ l.b.most;
  units : l.b.units ≡ l.initial.b.units;
  cursors : l.b.cursors ≡ l.initial.b.cursors;
}

-- what is emitted gets smaller: four times the depth, one more for an operand and a truth, two more where a function goes over parts of an expression, and three more where that is handed on
abbrev pub decreases-emit : goal.decreases-emit
decreases-emit l = 4 * goal.size-emit l

abbrev pub decreases-emit_truth : goal.decreases-emit_truth
decreases-emit_truth l = 4 * goal.size-emit_truth l + 1

abbrev pub decreases-emit_binary : goal.decreases-emit_binary
decreases-emit_binary l = 4 * max (the_size l.left.now) (the_size l.right.now) + 3

abbrev pub decreases-emit_decided : goal.decreases-emit_decided
decreases-emit_decided l = 4 * max (the_size l.left.now) (the_size l.right.now) + 2

abbrev pub decreases-operand : goal.decreases-operand
decreases-operand l = 4 * goal.size-operand l + 1

abbrev pub decreases-all_operands : goal.decreases-all_operands
decreases-all_operands l = 4 * goal.size-all_operands l + 2

abbrev pub decreases-three_operands : goal.decreases-three_operands
decreases-three_operands l = 4 * max (the_size l.x.now) (max (the_size l.y.now) (the_size l.z.now)) + 2

abbrev pub decreases-emit_known : goal.decreases-emit_known
decreases-emit_known l = 4 * goal.size-emit_known l + 2

abbrev pub decreases-emit_member : goal.decreases-emit_member
decreases-emit_member l = 4 * max (the_size l.tested.now) (most the_size l.others.now) + 2

abbrev pub decreases-emit_choice : goal.decreases-emit_choice
decreases-emit_choice l = 4 * max (goal.size-emit_choice l) (the_size l.otherwise.now) + 2

abbrev pub decreases-emit_iif : goal.decreases-emit_iif
decreases-emit_iif l = 4 * max (the_size l.condition.now) (max (the_size l.value.now) (the_size l.otherwise.now)) + 2

abbrev pub decreases-emit_match : goal.decreases-emit_match
decreases-emit_match l = 4 * max (the_size l.tested.now) (max (most match_size l.arms.now) (the_size l.otherwise.now)) + 2
