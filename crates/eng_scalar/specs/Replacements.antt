-- One text for another within a text.
use Rattle.std.specs.Prelude.{ℕ, List}
use Rattle.eng_text.specs.Texts.{replaced}
use Rattle.eng_value.specs.Operators.{made}
use Rattle.eng_value.specs.declared.out.Out.{Out}
use Rattle.eng_value.specs.declared.value.Value.TheVariants.{Text}

-- a value is no longer than its limit
abbrev pub replacement : List ℕ → List ℕ → List ℕ → Out
replacement old text new = made (Text (replaced old new text))
