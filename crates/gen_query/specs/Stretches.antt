-- What the stretches of a query's code do.
use Rattle.std.specs.Prelude.{◌≡◌, ◌-◌, ℕ, [], List, length, fold, map, sum_by}
use Rattle.bound_tree.specs.Exprs.{BoundExpr}
use Rattle.eng_value.specs.Environments.{with_causes}
use Rattle.gen_expr.specs.Steps.{steps_of}
use Rattle.gen_query.specs.Queries.{results_read}
use Rattle.sql_meaning.specs.Expression.{value_of}
use Rattle.vm_code.specs.declared.op.Op.TheVariants as op
use Rattle.vm_code.specs.Draft.{Draft, bound, with_label, with_op}
use Rattle.vm_code.specs.Tracked.{Steady}
use Rattle.vm_code.specs.Frames.{Fills, Grows, Holds, Left, Ready, needing}
use Rattle.vm_code.specs.Machine.{Setting, State, outs_from, read}

-- code that adds the causes of so many registers to those of another, which is none of them
pub record Gathers (a b : Draft) (first count causes : ℕ) : Type 0 where
  pub grows : Grows a b
  pub next : b.next ≡ a.next
  pub steady : Steady [] [] a b
  pub gathers : (m : Setting) (u : ℕ) (at : ℕ → ℕ) → Holds b m.prog u at → (s : State) → Ready b u s → s.pc ≡ length a.code
      → Left m count s (length b.code) a.next causes (fold with_causes (read s.regs causes) (outs_from s.regs first count))

-- registers are given as a row, or the unit gives up where another is bad; then the label has its place
abbrev pub with_row_given : Draft → ℕ → ℕ → ℕ → ℕ → Draft
with_row_given d first count causes next =
    bound (with_op (bound (with_op (with_op (with_op (with_label d) (op.IsBad causes (length d.labels))) (op.ResultRow first count)) (op.Goto next)) (length d.labels)) (op.HaltBad causes)) next

-- results in registers, their causes added to those of another, and what follows
pub record Shows (a b : Draft) (results : List BoundExpr) (causes next : ℕ) : Type 0 where
  pub filled : Draft
  pub gathered : Draft
  pub fills : Fills (needing (results_read results)) a filled (length results) (λ env. map (λ e. value_of e env) results) (λ env. sum_by steps_of results)
  pub gathers : Gathers filled gathered a.next (filled.next - a.next) causes
  pub cursors : gathered.cursors ≡ a.cursors
  pub units : gathered.units ≡ a.units
  pub is : b ≡ with_row_given gathered a.next (filled.next - a.next) causes next
