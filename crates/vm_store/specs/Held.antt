-- What something holds that can be lent without a copy.
use Rattle.std.specs.Prelude.{ℕ, ℤ, List, Some, None}
use Rattle.std.specs.declared.option.Option.{Option}
use Rattle.eng_value.specs.declared.out.Out.{Out}
use Rattle.eng_value.specs.declared.out.Out.TheVariants.{Good, Bad}
use Rattle.eng_value.specs.declared.value.Value.{Value}
use Rattle.eng_value.specs.declared.value.Value.TheVariants.{Integer, Text}

-- the value that it is, if it is good
abbrev pub held_value : Out → Option Value
held_value (Good v) = Some v
held_value (Bad causes) = None

-- the integer that it is, if it is one
abbrev pub held_integer : Out → Option ℤ
held_integer (Good (Integer n)) = Some n
held_integer other = None

-- the text that it is, if it is one
abbrev pub held_text : Out → Option (List ℕ)
held_text (Good (Text text)) = Some text
held_text other = None
