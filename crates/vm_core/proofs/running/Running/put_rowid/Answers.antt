use Rattle.std.proofs.Common.{◌≡◌, rules, subst, w64, to_z, of_z}
use Rattle.vm_code.specs.Machine.{put}
use Rattle.vm_core.specs.Events.{ActsOver}
use Rattle.vm_core.proofs.running.Running.put_rowid.Goals as goal

pub returns-in-Some : goal.returns-in-Some
returns-in-Some c e =
    let w = c.args.tables.now.world in
    let n : to_z w64 (of_z w64 c.in-Some.rowid) ≡ c.in-Some.rowid = search rules in
    let leads = c.put_integer.ensures e w in
    subst (λ v. ActsOver c.put_integer.result e c.args.self.now w c.put_integer.new.self w (λ s. put s c.args.to v)) c.in-Some.ensures (rw n at leads)

pub returns-in-None : goal.returns-in-None
returns-in-None c e =
    let w = c.args.tables.now.world in
    subst (λ v. ActsOver c.put_null.result e c.args.self.now w c.put_null.new.self w (λ s. put s c.args.to v)) c.in-None.ensures (c.put_null.ensures e w)
