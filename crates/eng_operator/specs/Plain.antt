-- What operators do with two integers or two texts without looking further.
use Rattle.std.specs.Prelude.{Bool, true, false, not, ◌&&◌}
use Rattle.eng_value.specs.declared.affinity.Affinity.{Affinity}
use Rattle.eng_value.specs.declared.affinity.Affinity.TheVariants as affinity
use Rattle.eng_value.specs.declared.operators.BinaryOperator.{BinaryOperator}
use Rattle.eng_value.specs.declared.operators.BinaryOperator.TheVariants as binary
use Rattle.eng_value.specs.declared.operators.Sides.{Sides}
use Rattle.eng_value.specs.declared.out.Out.{Out}
use Rattle.eng_value.specs.declared.out.Out.TheVariants.{Good, Bad}
use Rattle.eng_value.specs.declared.value.Value.{Value}
use Rattle.eng_value.specs.declared.value.Value.TheVariants.{Null, Integer, Text, Blob}

abbrev pub is_text : Affinity → Bool
is_text affinity.Text = true
is_text a = false

-- beside each other integers of these affinities stay integers: only TEXT turns one into a text
abbrev pub keep_integers : Sides → Bool
keep_integers sides = not (is_text sides.right) && not (is_text sides.left)

-- an operator that looks at two integers as they are
abbrev pub is_of_integers : BinaryOperator → Bool
is_of_integers (binary.Arithmetic op) = true
is_of_integers (binary.Integers op) = true
is_of_integers binary.And = true
is_of_integers binary.Or = true
is_of_integers (binary.Compare op sides) = keep_integers sides
is_of_integers other = false

-- an operator that looks at two texts as they are
abbrev pub is_of_texts : BinaryOperator → Bool
is_of_texts binary.Like = true
is_of_texts binary.Glob = true
is_of_texts other = false

abbrev pub is_integer_value : Value → Bool
is_integer_value Null = false
is_integer_value (Integer n) = true
is_integer_value (Text text) = false
is_integer_value (Blob bytes) = false

-- an integer came of it
abbrev pub is_integer : Out → Bool
is_integer (Good v) = is_integer_value v
is_integer (Bad causes) = false
