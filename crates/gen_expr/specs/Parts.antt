-- What the parts of an expression's code do: those behind the codes of operands, and those that decide a value.
use Rattle.std.specs.Prelude.{◌≡◌, ℕ, Bool, true, false, List, [], ◌∷◌, length, pos, Some, None}
use Rattle.std.specs.declared.option.Option.{Option}
use Rattle.eng_value.specs.Applied.{binary_of}
use Rattle.eng_value.specs.Collations.{Keys, keys_of}
use Rattle.eng_value.specs.Comparisons.{comparison_of}
use Rattle.eng_value.specs.Environments.{Environment}
use Rattle.eng_value.specs.Truths.{truth_in, truth_of}
use Rattle.eng_value.specs.declared.compare_op.CompareOp.TheVariants as compare
use Rattle.eng_value.specs.declared.operators.BinaryOperator.{BinaryOperator}
use Rattle.eng_value.specs.declared.operators.BinaryOperator.TheVariants as binary
use Rattle.eng_value.specs.declared.operators.Sides.{Sides}
use Rattle.eng_value.specs.declared.out.Out.{Out}
use Rattle.eng_value.specs.declared.out.Out.TheVariants.{Good, Bad}
use Rattle.eng_value.specs.declared.truth.Truth.{Truth}
use Rattle.eng_value.specs.declared.truth.Truth.TheVariants as truth
use Rattle.eng_value.specs.declared.value.Value.TheVariants as value
use Rattle.gen_expr.specs.declared.parts.Operands.{Operands}
use Rattle.sql_meaning.specs.Expression.{Arm, MatchArm}
use Rattle.vm_code.specs.declared.open_cursor.Need.{Need}
use Rattle.vm_code.specs.declared.op.Op.{Op}
use Rattle.vm_code.specs.declared.op.Op.TheVariants as op
use Rattle.vm_code.specs.declared.operand.Operand.{Operand}
use Rattle.vm_code.specs.declared.operand.Operand.TheVariants as operand
use Rattle.vm_code.specs.Draft.{Draft, with_op, with_label, bound, taken, released}
use Rattle.vm_code.specs.Tracked.{Steady}
use Rattle.vm_code.specs.Frames.{Holds, Grows, Ready, Left, here, environment_of}
use Rattle.vm_code.specs.Machine.{Setting, State, is_accepted, is_rejected, read}

-- ---- instructions behind operands

abbrev pub with_like_escaped : Draft → Operands → ℕ → ℕ → Draft
with_like_escaped d o first to = released (with_op d (op.LikeEscaped o.first o.second o.third to)) first

-- the lower bound in a register that is taken for it, the upper one in the last
abbrev pub with_between : Draft → Sides → Sides → Operands → ℕ → ℕ → Draft
with_between d above below o first to =
    released (with_op (with_op (with_op (taken d) (op.Binary (binary.Compare compare.Ge above) o.first o.second d.next)) (op.Binary (binary.Compare compare.Le below) o.first o.third to)) (op.Binary binary.And (operand.Register d.next) (operand.Register to) to)) first

abbrev pub with_member_begun : Draft → ℕ → ℕ → Draft
with_member_begun d held to = with_op (with_op d (op.Integer (pos 0) to)) (op.Merge held to)

abbrev pub with_or_equal : Draft → Sides → ℕ → Operand → ℕ → ℕ → Draft
with_or_equal d sides held other first to =
    released (with_op (with_op (taken d) (op.Binary (binary.Compare compare.Eq sides) (operand.Register held) other d.next)) (op.Binary binary.Or (operand.Register to) (operand.Register d.next) to)) first

abbrev pub with_known_left : Draft → ℕ → ℕ → Draft
with_known_left d to end = bound (with_op (with_op (with_label d) (op.IsNull to (length d.labels))) (op.Goto end)) (length d.labels)

abbrev pub with_arm_tested : Draft → ℕ → ℕ → Draft
with_arm_tested d to end = with_op (with_op (with_label d) (op.IsBad to end)) (op.IfNot to (length d.labels) true)

abbrev pub with_arm_left : Draft → ℕ → ℕ → Draft
with_arm_left d end next = bound (with_op d (op.Goto end)) next

-- ---- operators whose left side may decide alone

-- whether it has this truth; NULL and what is bad have none
abbrev pub has_truth : Bool → Out → Bool
has_truth true a = is_accepted false a
has_truth false a = is_rejected false a

-- the truth of the left side counts as that side does, and it is what the operator comes to where it is this one
abbrev pub IsDecidedBy : BinaryOperator → Bool → Type 0
IsDecidedBy operator wanted =
    (keys : Keys) (a b : Out) → (binary_of keys operator (truth_of a) b ≡ binary_of keys operator a b)
    × (has_truth wanted (truth_of a) ≡ true → truth_of a ≡ binary_of keys operator a b)

abbrev pub jump_on : Bool → ℕ → ℕ → Op
jump_on true register target = op.If register target false
jump_on false register target = op.IfNot register target false

abbrev pub with_left_tested : Draft → Bool → ℕ → Draft
with_left_tested d wanted to = with_op (with_label d) (jump_on wanted to (length d.labels))

-- ---- code that leaves a value by what registers hold

-- it leaves in a register a function of the environment, of another register and of what it held before, where this is so of cursors
pub record Turns (needs : List Need) (a b : Draft) (held to : ℕ) (f : Environment → Out → Out → Out) (most : ℕ) : Type 0 where
  pub grows : Grows a b
  pub next : b.next ≡ a.next
  pub steady : Steady needs [] a b
  pub turns : (m : Setting) (u : ℕ) (at : ℕ → ℕ) → Holds b m.prog u at → (s : State) → Ready b u s → s.pc ≡ length a.code
      → Left m most s (length b.code) a.next to (f (environment_of m (here s)) (read s.regs held) (read s.regs to))

-- ---- code that decides a value, or leaves that to what is behind it

-- the machine comes to a label with the value in a register, or to the end where there is none
abbrev pub Decided : Setting → ℕ → State → ℕ → ℕ → ℕ → ℕ → Option Out → Type 0
Decided m most s place out mark to None = (v : Out) × Left m most s place mark to v
Decided m most s place out mark to (Some v) = Left m most s out mark to v

-- it decides by the environment and by what another register holds, where this is so of cursors
pub record Decides (needs : List Need) (a b : Draft) (held to label : ℕ) (f : Environment → Out → Option Out) (most : ℕ) : Type 0 where
  pub grows : Grows a b
  pub next : b.next ≡ a.next
  pub steady : Steady needs (label ∷ []) a b
  pub decides : (m : Setting) (u : ℕ) (at : ℕ → ℕ) → Holds b m.prog u at → (s : State) → Ready b u s → s.pc ≡ length a.code
      → Decided m most s (length b.code) (at label) a.next to (f (environment_of m (here s)) (read s.regs held))

-- ---- what is decided

-- by a condition, for its value; a bad one decides for its causes
abbrev pub decided_by : Truth → Out → Option Out
decided_by truth.True v = Some v
decided_by truth.False v = None
decided_by truth.Unknown v = None
decided_by (truth.Failed causes) v = Some (Bad causes)

abbrev pub decided_arm : Environment → Arm → Option Out
decided_arm env arm = decided_by (truth_in (truth_of (arm.condition env))) (arm.value env)

abbrev pub decided_match : Environment → Out → MatchArm → Option Out
decided_match env a arm = decided_by (truth_in (truth_of (comparison_of (keys_of env.hosts) compare.Eq arm.sides a (arm.operand env)))) (arm.value env)

-- by an operand of coalesce, unless it is NULL
abbrev pub decided_known : Out → Option Out
decided_known (Good value.Null) = None
decided_known a = Some a

abbrev pub first_of : Option Out → Option Out → Option Out
first_of None other = other
first_of (Some v) other = Some v

-- by the first that decides
abbrev pub first_in : {A : Type 0} → (A → Option Out) → List A → Option Out
first_in f [] = None
first_in f (x ∷ xs) = first_of (f x) (first_in f xs)

abbrev pub out_or : Option Out → Out → Out
out_or None other = other
out_or (Some v) other = v
