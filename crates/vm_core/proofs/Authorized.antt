-- Where nothing is lent but an authorizer, the machine runs as if nothing were.
use Rattle.std.proofs.Common.{◌≡◌, ℕ, List, Option, Some, None, map, refl, ap, ◌∙◌}
use Rattle.std.proofs.Math.Path.{fun_ext}
use Rattle.std.specs.Prelude.{slice_get}
use Rattle.eng_key.specs.Values.{value_keys}
use Rattle.eng_value.specs.Applied.{binary_of, function_by, unary_of}
use Rattle.eng_value.specs.Collations.{keys_of}
use Rattle.eng_value.specs.Comparisons.{like_escaped_of}
use Rattle.eng_value.specs.HostMeanings.{Oracle, no_hosts}
use Rattle.eng_value.specs.declared.authorizing.Action.{Action}
use Rattle.eng_value.specs.declared.authorizing.Verdict.{Verdict}
use Rattle.eng_value.specs.declared.collation.Collation.{Collation}
use Rattle.eng_value.specs.declared.collation.Collation.TheVariants as collation
use Rattle.eng_value.specs.declared.out.Out.{Out}
use Rattle.eng_value.specs.declared.value.Value.{Value}
use Rattle.vm_code.specs.declared.op.Op.{Op}
use Rattle.vm_code.specs.declared.op.Op.TheVariants as op
use Rattle.vm_code.specs.declared.operand.Operand.{Operand}
use Rattle.vm_code.specs.declared.operand.Operand.TheVariants as operand
use Rattle.vm_code.specs.declared.program.Program.{Program}
use Rattle.vm_code.specs.Machine.{Setting, State, act, code_of, operand_of, put, setting, step}
use Rattle.vm_core.specs.Meant.{authorized}

module _ (told : Option (Option (Action → Verdict))) (ask : Oracle) (params : List Value) (prog : Program) where
  abbrev lent : Setting
  lent = setting (authorized told) ask params prog

  abbrev bare : Setting
  bare = setting no_hosts ask params prog

  key_beside : (c : Collation) (text : List ℕ) → keys_of (authorized told) c text ≡ keys_of no_hosts c text
  key_beside (collation.Built b) text = refl
  key_beside (collation.Host place) text = refl

  keys_beside : keys_of (authorized told) ≡ keys_of no_hosts
  keys_beside = fun_ext (λ c. fun_ext (key_beside c))

  operand_beside : (s : State) (o : Operand) → operand_of lent s o ≡ operand_of bare s o
  operand_beside s (operand.Register r) = refl
  operand_beside s (operand.Constant out) = refl
  operand_beside s (operand.Parameter k) = refl
  operand_beside s (operand.Argument k) = refl
  operand_beside s (operand.Column c k) = refl
  operand_beside s (operand.Rowid c) = refl

  op_beside : (s : State) (o : Op) → act lent (Some o) s ≡ act bare (Some o) s
  op_beside s (op.Goto target) = refl
  op_beside s (op.If r target on_null) = refl
  op_beside s (op.IfNot r target on_null) = refl
  op_beside s (op.IsNull r target) = refl
  op_beside s (op.NotNull r target) = refl
  op_beside s (op.IsBad r target) = refl
  op_beside s op.Halt = refl
  op_beside s (op.HaltBad r) = refl
  op_beside s (op.Call u first n to) = refl
  op_beside s (op.Ret first n) = refl
  op_beside s (op.Argument k to) = refl
  op_beside s (op.ResultRow first n) = refl
  op_beside s (op.Null to) = refl
  op_beside s (op.Integer n to) = refl
  op_beside s (op.String8 text to) = refl
  op_beside s (op.Blob bytes to) = refl
  op_beside s (op.Bad cause to) = refl
  op_beside s (op.Variable k to) = refl
  op_beside s (op.Copy from to) = refl
  op_beside s (op.Affinity r affinity) = refl
  op_beside s (op.Beside r other own) = refl
  op_beside s (op.MustBeInt r) = refl
  op_beside s (op.Unary o a to) = ap (λ x. put s to (unary_of o x)) (operand_beside s a)
  op_beside s (op.Binary o a b to) =
      ap (λ keys. put s to (binary_of keys o (operand_of lent s a) (operand_of lent s b))) keys_beside
      ∙ ap (λ x. put s to (binary_of (keys_of no_hosts) o x (operand_of lent s b))) (operand_beside s a)
      ∙ ap (λ y. put s to (binary_of (keys_of no_hosts) o (operand_of bare s a) y)) (operand_beside s b)
  op_beside s (op.LikeEscaped a b c to) =
      ap (λ x. put s to (like_escaped_of x (operand_of lent s b) (operand_of lent s c))) (operand_beside s a)
      ∙ ap (λ y. put s to (like_escaped_of (operand_of bare s a) y (operand_of lent s c))) (operand_beside s b)
      ∙ ap (λ z. put s to (like_escaped_of (operand_of bare s a) (operand_of bare s b) z)) (operand_beside s c)
  op_beside s (op.Function f collation args to) =
      ap (λ keys. put s to (function_by (value_keys keys) f collation (map (operand_of lent s) args))) keys_beside
      ∙ ap (λ (read_now : Operand → Out). put s to (function_by (value_keys (keys_of no_hosts)) f collation (map read_now args))) (fun_ext (operand_beside s))
  op_beside s (op.Merge from to) = refl
  op_beside s (op.OpenRead c table) = refl
  op_beside s (op.OpenWrite c table) = refl
  op_beside s (op.RowOf c rowid first n) = refl
  op_beside s (op.Close c) = refl
  op_beside s (op.CloseFrom c) = refl
  op_beside s (op.Rewind c target) = refl
  op_beside s (op.Next c target) = refl
  op_beside s (op.Search c terms bounds first target) = refl
  op_beside s (op.SeekRowid c rowid) = refl
  op_beside s (op.SorterOpen c) = refl
  op_beside s (op.SorterInsert first n) = refl
  op_beside s (op.SorterSort c terms target) = refl
  op_beside s (op.SorterData c first n) = refl
  op_beside s (op.SorterNext c target) = refl
  op_beside s (op.Column c k to) = refl
  op_beside s (op.Rowid c to) = refl
  op_beside s (op.NotExists c rowid target) = refl
  op_beside s (op.NoConflict c rowid first n keys target) = refl
  op_beside s (op.NewRowid c to table) = refl
  op_beside s (op.Insert c rowid first n) = refl
  op_beside s (op.BuildIndex c terms unique) = refl
  op_beside s (op.Schema change) = refl

  act_beside : (s : State) (o : Option Op) → act lent o s ≡ act bare o s
  act_beside s None = refl
  act_beside s (Some o) = op_beside s o

  pub step_beside : (s : State) → step lent s ≡ step bare s
  step_beside s = act_beside s (slice_get (code_of prog s.unit) s.pc)
