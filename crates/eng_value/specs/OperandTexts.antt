-- What the texts of operands and arguments stand for.
use Rattle.eng_value.specs.declared.operand_text.BothTexts.{BothTexts}
use Rattle.eng_value.specs.declared.operand_text.BothTexts.TheVariants as both
use Rattle.eng_value.specs.declared.operand_text.OperandText.{OperandText}
use Rattle.eng_value.specs.declared.operand_text.OperandText.TheVariants as operand
use Rattle.eng_value.specs.declared.operand_text.Spelling.{Spelling}
use Rattle.eng_value.specs.declared.operand_text.Spelling.TheVariants as spelling
use Rattle.eng_value.specs.declared.out.Out.{Out}
use Rattle.eng_value.specs.declared.out.Out.TheVariants.{Good, Bad}
use Rattle.eng_value.specs.declared.value.Value.{Value}
use Rattle.eng_value.specs.declared.value.Value.TheVariants.{Null, Text}

-- the value that a spelling stands for
abbrev pub value_of : Spelling → Value
value_of spelling.Null = Null
value_of (spelling.Lent text) = Text text.now
value_of (spelling.Made text) = Text text

abbrev pub out_of : OperandText → Out
out_of (operand.Good text) = Good (value_of text)
out_of (operand.Bad causes) = Bad causes

-- what comes of the texts of two
abbrev pub applied : (Value → Value → Out) → BothTexts → Out
applied f (both.Good a b) = f (value_of a) (value_of b)
applied f (both.Bad causes) = Bad causes
