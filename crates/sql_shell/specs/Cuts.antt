-- Parts of a script as the code hands them on.
use Rattle.std.specs.Prelude.{ℕ, Bool, false, not, List, [], ◌∷◌, Option, Some, None, is_some}
use Rattle.sql_meaning.specs.declared.script.Ending.{Ending}
use Rattle.sql_meaning.specs.declared.script.Ending.TheVariants.{End, ReadFault, TooLong}
use Rattle.sql_meaning.specs.Parts as parts
use Rattle.sql_shell.specs.declared.cutting.Part.{Part}
use Rattle.sql_shell.specs.declared.cutting.Part.TheVariants.{Statement, DotLine}

-- none or one
abbrev pub part_list : Option Part → List parts.Part
part_list None = []
part_list (Some (Statement text)) = parts.Statement text.now ∷ []
part_list (Some (DotLine line)) = parts.DotLine line.now ∷ []

-- bytes behind whole characters may go on to one, where so many of them are at fault
abbrev pub goes_on : Ending → Option ℕ → Bool
goes_on End fault = false
goes_on ReadFault fault = not (is_some fault)
goes_on TooLong fault = not (is_some fault)
