-- The built-in functions by their names, and how many arguments each takes (Built-in Scalar SQL Functions).
use Rattle.std.specs.Prelude.{ℕ, nat_eq, nat_le, Bool, ◌&&◌, List, map, Option}
use Rattle.std.specs.List.{find}
use Rattle.eng_entry.specs.Names.{is_same_name}
use Rattle.eng_value.specs.declared.builtin.Builtin.{Builtin}
use Rattle.sql_words.specs.declared.builtins.ArgumentCount.{ArgumentCount}
use Rattle.sql_words.specs.declared.builtins.ArgumentCount.TheVariants as count
use Rattle.sql_words.specs.declared.builtins.TheConstants.{BUILTINS}

-- a name of a function, the function, and how many arguments it takes
pub record NamedBuiltin : Type 0 where
  pub name : List ℕ
  pub function : Builtin
  pub count : ArgumentCount

abbrev pub takes : ArgumentCount → ℕ → Bool
takes (count.Exactly n) given = nat_eq given n
takes (count.Between least most) given = nat_le least given && nat_le given most
takes (count.AtLeast least) given = nat_le least given

-- a function by its name, as it is called
abbrev pub builtin_named : List ℕ → Option NamedBuiltin
builtin_named name = find (λ (b : NamedBuiltin). is_same_name b.name name) (map (λ b. record { name = b.0.now; function = b.1; count = b.2 }) BUILTINS)
