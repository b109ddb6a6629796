-- What a read does to the bytes that are left.
use Rattle.std.specs.Prelude.{◌<◌, ◌≤◌, ℕ, List, take, length}
use Rattle.std.specs.Io.KnownBytes.{Consumes, Keeps, IsAtEnd}
use Rattle.std.specs.declared.option.Option.{Option}
use Rattle.host_traits.specs.declared.source.ReadAnswer.{ReadAnswer}
use Rattle.host_traits.specs.declared.source.ReadAnswer.TheVariants.{Got, End, Failed}

-- `Got(n)` hands over the next n bytes, `End` comes only where nothing is left, and a failed read takes nothing
abbrev pub Takes : Option (List ℕ) → Option (List ℕ) → ReadAnswer → List ℕ → Type 0
Takes old new (Got n) buf = (0 < n) × (n ≤ length buf) × Consumes old new (take n buf)
Takes old new End buf = IsAtEnd new × Keeps old new
Takes old new Failed buf = Keeps old new
