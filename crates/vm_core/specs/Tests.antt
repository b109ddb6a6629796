-- What jumps ask of a register.
use Rattle.std.specs.Prelude.{Bool}
use Rattle.eng_value.specs.declared.out.Out.{Out}
use Rattle.vm_code.specs.Machine.{is_accepted, is_bad, is_known, is_null, is_rejected}
use Rattle.vm_core.specs.declared.jumping.Test.{Test}
use Rattle.vm_core.specs.declared.jumping.Test.TheVariants as test

abbrev pub passes : Test → Out → Bool
passes (test.True on_null) a = is_accepted on_null a
passes (test.False on_null) a = is_rejected on_null a
passes test.Null a = is_null a
passes test.Known a = is_known a
passes test.Bad a = is_bad a
