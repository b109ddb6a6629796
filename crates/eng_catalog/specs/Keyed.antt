-- The keys under which entries are kept.
use Rattle.std.specs.Prelude.{◌≡◌, ℕ, List, map}
use Rattle.std.specs.Map.{keys_of, values_of}
use Rattle.std.specs.Str.{str_to_ascii_lowercase}
use Rattle.std.specs.declared.alloc.Global.{Global}
use Rattle.std.specs.declared.vec.Vec.{Vec}
use Rattle.eng_entry.specs.declared.entry.Entry.{Entry}

-- a name in lower case
abbrev pub key_of : Entry → List ℕ
key_of e = str_to_ascii_lowercase e.name

-- each entry is kept under its name in lower case
abbrev pub AreKeyed : List (Vec ℕ Global × Entry) → Type 0
AreKeyed pairs = map (λ (k : Vec ℕ Global). k.items) (keys_of pairs) ≡ map key_of (values_of pairs)
