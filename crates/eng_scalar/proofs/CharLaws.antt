-- The text of some characters, one character after the other.
use Rattle.std.proofs.Common.{◌≡◌, ◌∙◌, ◌<◌, ◌+◌, ℕ, List, ◌++◌, length, length-append, ap, sym, arith}

-- a front of a text is no longer than it
pub front_too_long : (limit : ℕ) (front rest all : List ℕ) → front ++ rest ≡ all → limit < length front → limit < length all
front_too_long limit front rest all is lt = let e : length front + length rest ≡ length all = sym (length-append front rest) ∙ ap length is in omega arith
