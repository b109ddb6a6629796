-- A text without some characters at its ends.
use Rattle.std.specs.Prelude.{ℕ, List}
use Rattle.std.specs.Str.{chars}
use Rattle.eng_value.specs.declared.builtin.Builtin.{Builtin}
use Rattle.eng_value.specs.declared.out.Out.{Out}
use Rattle.eng_value.specs.declared.out.Out.TheVariants.{Good}
use Rattle.eng_value.specs.Functions.{text_of_chars, trim_by}

-- by the bytes of the text and of the characters to be taken away
abbrev pub trimmed : Builtin → List ℕ → List ℕ → Out
trimmed which text these = Good (text_of_chars (trim_by which (chars these) (chars text)))
