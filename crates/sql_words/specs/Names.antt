-- Names that mean something of their own.
use Rattle.std.specs.Prelude.{◌≡◌, ℕ, List, ◌++◌, Bool, true, false, codes, refl, take}
use Rattle.std.specs.List.{list_any}
use Rattle.eng_entry.specs.Names.{is_same_name}

-- one of the names is this one
abbrev pub is_named_in : List (List ℕ) → List ℕ → Bool
is_named_in names name = list_any (λ n. is_same_name n name) names

-- no created thing bears such a name: it begins with `sqlite_`
abbrev pub is_reserved_name : List ℕ → Bool
is_reserved_name name = is_same_name (take 7 name) (codes "sqlite_")

-- a column's name behind its table's
abbrev pub dotted : List ℕ → List ℕ → List ℕ
dotted table name = table ++ codes "." ++ name

begins_reserved : is_reserved_name (codes "SQLite_master") ≡ true
begins_reserved = refl

a_shorter_name : is_reserved_name (codes "sqlite") ≡ false
a_shorter_name = refl
