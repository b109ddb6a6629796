-- What the hosts mean.
use Rattle.std.specs.Prelude.{Option}
use Rattle.std.specs.Option.{option_map}
use Rattle.std.specs.declared.alloc.Global.{Global}
use Rattle.std.specs.declared.dyn_box.DynBox.{DynBox}
use Rattle.eng_value.specs.declared.authorizing.Action.{Action}
use Rattle.eng_value.specs.declared.authorizing.Verdict.{Verdict}
use Rattle.eng_value.specs.HostMeanings.{HostMeanings, no_hosts}
use Rattle.vm_core.specs.declared.hosts.Hosts.{Hosts}

-- no hosts but an authorizer, where there is one
abbrev pub authorized : Option (Option (Action → Verdict)) → HostMeanings
authorized told = record no_hosts { authorizer = told }

-- by what the object in a box tells
abbrev pub meant : {X : Type 0} {V : X → Type 0} → (DynBox X Global V → Option (Action → Verdict)) → Hosts X V → HostMeanings
meant verdicts hosts = authorized (option_map verdicts hosts.authorizer)
