use Rattle.std.proofs.Common.{◌≡◌, rules, sym, subst, w64, to_z, of_z}
use Rattle.vm_code.specs.Machine.{put}
use Rattle.vm_core.specs.Events.{ActsOver}
use Rattle.vm_core.proofs.running.Running.put_binary.Goals as goal

pub returns-in-Some : goal.returns-in-Some
returns-in-Some c e =
    let w = c.args.tables.now.world in
    let n : to_z w64 (of_z w64 c.in-Some.n) ≡ c.in-Some.n = search rules in
    let leads = c.put_integer.ensures e w in
    subst (λ v. ActsOver c.put_integer.result e c.args.self.now w c.put_integer.new.self w (λ s. put s c.args.to v)) (sym c.in-Some.ensures) (rw n at leads)
