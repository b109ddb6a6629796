use Rattle.std.proofs.Common.{ℕ, List, ◌≤◌, ◌+◌, ◌++◌, take, length, arith}
use Rattle.std.proofs.lemmas.Grind.{common_steps}
use Rattle.std.proofs.KnownBytes.{Consumes-trans, Consumes-kept}
use Rattle.eng_value.specs.declared.limits.TheConstants.{MAX_SCRIPT_BYTES}
use Rattle.sql_shell.proofs.Due.{most_told}
use Rattle.sql_shell.proofs.reading.read_script.Goals as goal

pub returns-in_err-extend_from_slice-in-Got-clause-most :
    goal.returns-in_err-extend_from_slice-in-Got-clause-most
returns-in_err-extend_from_slice-in-Got-clause-most g c bytes told =
    let piece : List ℕ = take c.in-Got.n c.read.new.buf in
    let few : length (c.loop-chunk.bytes.items ++ piece) ≤ MAX_SCRIPT_BYTES + 1 = grind (arith, common_steps) in
    most_told _ _ (c.loop-chunk.bytes.items ++ piece) bytes (MAX_SCRIPT_BYTES + 1) (Consumes-trans _ _ _ c.loop-chunk.bytes.items piece c.loop-chunk.invariant.read c.in-Got.ensures.bytes.2) few told

pub returns-in-Failed-clause-most : goal.returns-in-Failed-clause-most
returns-in-Failed-clause-most g c bytes told =
    most_told _ _ c.loop-chunk.bytes.items bytes (MAX_SCRIPT_BYTES + 1) (Consumes-kept _ _ _ c.loop-chunk.bytes.items c.loop-chunk.invariant.read c.in-Failed.ensures.bytes) c.loop-chunk.invariant.few told

pub returns-clause-most : goal.returns-clause-most
returns-clause-most g c bytes told =
    most_told _ _ c.loop-chunk.bytes.items bytes (MAX_SCRIPT_BYTES + 1) c.loop-chunk.invariant.read c.loop-chunk.invariant.few told
