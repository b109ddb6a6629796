-- What the character of an ESCAPE stands for.
use Rattle.std.specs.Prelude.{pos}
use Rattle.eng_operator.specs.declared.escapes.Escape.{Escape}
use Rattle.eng_operator.specs.declared.escapes.Escape.TheVariants as escape
use Rattle.eng_value.specs.declared.out.Out.{Out}
use Rattle.eng_value.specs.declared.out.Out.TheVariants.{Good, Bad}
use Rattle.eng_value.specs.declared.value.Value.TheVariants.{Null, Integer}

-- a character as its number
abbrev pub escape_out : Escape → Out
escape_out escape.Null = Good Null
escape_out (escape.Char c) = Good (Integer (pos c))
escape_out (escape.Bad causes) = Bad causes
