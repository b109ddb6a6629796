-- Widths behind bytes that were passed over.
use Rattle.std.specs.Prelude.{ℕ, ◌+◌, Option, Some, None}

-- a width with so many bytes in front of it
abbrev pub further : ℕ → Option ℕ → Option ℕ
further n None = None
further n (Some width) = Some (n + width)
