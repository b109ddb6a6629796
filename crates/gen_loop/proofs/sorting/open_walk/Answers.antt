use Rattle.std.proofs.Common.{ℕ, ap, ◌∙◌, arith}
use Rattle.gen_loop.proofs.Seeking.{all-next}
use Rattle.vm_code.specs.Draft.{Draft, with_label}
use Rattle.gen_loop.proofs.sorting.open_walk.Goals as goal

-- the first free register, and the one of the causes
pub overflow_sub-count : goal.overflow_sub-count
overflow_sub-count c =
    let next : Draft → ℕ = λ d. d.next in
    let labelled = c.in_ok-top.ensures.1 ∙ ap with_label c.in_ok-end.ensures.1 in
    let registers = ap next c.in_ok-take_registers.ensures ∙ all-next c.args.width c.label-2.new.self in
    omega (arith, c.next_register.ensures, ap next c.in_ok-causes.ensures.1, registers, ap next labelled, c.next_register-first.ensures)

pub returns-clause-causes : goal.returns-clause-causes
returns-clause-causes c =
    let next : Draft → ℕ = λ d. d.next in
    let labelled = c.in_ok-top.ensures.1 ∙ ap with_label c.in_ok-end.ensures.1 in
    let registers = ap next c.in_ok-take_registers.ensures ∙ all-next c.args.width c.label-2.new.self in
    omega (arith, c.in_ok-causes.ensures.0, registers, ap next labelled)

pub returns-clause-count : goal.returns-clause-count
returns-clause-count c =
    let next : Draft → ℕ = λ d. d.next in
    let labelled = c.in_ok-top.ensures.1 ∙ ap with_label c.in_ok-end.ensures.1 in
    let registers = ap next c.in_ok-take_registers.ensures ∙ all-next c.args.width c.label-2.new.self in
    omega (arith, c.next_register.ensures, ap next c.in_ok-causes.ensures.1, registers, ap next labelled, c.next_register-first.ensures)
