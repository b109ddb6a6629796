-- The place of one text in another.
use Rattle.std.specs.Prelude.{ℕ, List}
use Rattle.std.specs.Str.{chars}
use Rattle.eng_text.specs.Texts.{place_of}
use Rattle.eng_value.specs.declared.out.Out.{Out}
use Rattle.eng_value.specs.declared.out.Out.TheVariants.{Good}
use Rattle.eng_value.specs.Functions.{number_of_place}

-- by the bytes of both, in characters
abbrev pub text_place : List ℕ → List ℕ → Out
text_place text needle = Good (number_of_place (place_of (chars needle) (chars text)))
