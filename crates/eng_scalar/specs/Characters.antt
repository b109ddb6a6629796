-- The functions of one text.
use Rattle.std.specs.Prelude.{ℕ, List, length, pos, codes}
use Rattle.std.specs.Str.{chars}
use Rattle.eng_value.specs.declared.out.Out.{Out}
use Rattle.eng_value.specs.declared.out.Out.TheVariants.{Good}
use Rattle.eng_value.specs.declared.value.Value.TheVariants.{Null, Integer}
use Rattle.eng_value.specs.Functions.{FunctionKind, OfText as ByText, kind_of, text_of_chars, trim_by}
use Rattle.eng_scalar.specs.declared.characters.OfText.{OfText}
use Rattle.eng_scalar.specs.declared.characters.OfText.TheVariants as function

abbrev pub of_kind : FunctionKind → List ℕ → Out
of_kind (ByText f) t = Good (f t)
of_kind other t = Good Null

abbrev pub of_text : OfText → List ℕ → Out
of_text (function.Function f) t = of_kind (kind_of f) t
of_text function.Length t = Good (Integer (pos (length (chars t))))
of_text (function.Trim which) t = Good (text_of_chars (trim_by which (codes " ") (chars t)))
