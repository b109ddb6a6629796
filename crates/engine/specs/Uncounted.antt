-- What the calls say that run a statement whose instructions nobody counts.
use Rattle.std.specs.Prelude.{ℕ, ◌<◌, List, ◌++◌, codes, Some}
use Rattle.std.specs.Fmt.{decimal}
use Rattle.eng_value.specs.CauseText.{code_of}
use Rattle.eng_value.specs.Shown.{said}
use Rattle.eng_value.specs.declared.cause.Cause.{Cause}
use Rattle.eng_value.specs.declared.cause.Cause.TheVariants as cause
use Rattle.sql_meaning.specs.Statement.{IsNamed, Outcome}

-- Why a statement is refused whose rows are taken by a sink that does not fail, where `o` is what it means and `bound` the most instructions that it needs.
pub data IsPlainCause (o : Outcome) (budget bound : ℕ) : Cause → Type 0 where
  -- want of memory is free
  no_memory : IsPlainCause o budget bound cause.Mem
  -- the budget was used up, and it is less than the statement needs
  used_up : budget < bound → IsPlainCause o budget bound (cause.Interrupted budget)
  -- one of the causes that the statement means
  meant : (why : Cause) → IsNamed o.refusal (Some why) → IsPlainCause o budget bound why

-- how a refusal is written
abbrev pub refusal_text : Cause → List ℕ
refusal_text why = codes "Error " ++ decimal (code_of why) ++ codes ": " ++ said why
