-- The built-in collations by their names (Datatypes In SQLite, section 7).
use Rattle.std.specs.Prelude.{ℕ, List, Option, Some, None, if◌then◌else◌, codes}
use Rattle.eng_entry.specs.Names.{is_same_name}
use Rattle.eng_value.specs.declared.built.Built.TheVariants as built
use Rattle.eng_value.specs.declared.collation.Collation.{Collation}
use Rattle.eng_value.specs.declared.collation.Collation.TheVariants as collation

abbrev pub by_bytes : Collation
by_bytes = collation.Built built.Binary

abbrev pub collation_named : List ℕ → Option Collation
collation_named name =
    if is_same_name name (codes "BINARY") then Some (collation.Built built.Binary) else
    if is_same_name name (codes "NOCASE") then Some (collation.Built built.NoCase) else
    if is_same_name name (codes "RTRIM") then Some (collation.Built built.Rtrim) else None
