-- Rules that derive the same trees from the same marked tokens, with each number of nestings.
use Rattle.std.specs.Prelude.{ℕ, List}
use Rattle.sql_grammar.specs.Marks.{Marked}
use Rattle.sql_grammar.specs.Rules.{Rule, derives}

pub record Alike (N : Type 0 → Type 1) (rules : (A : Type 0) → N A → Rule N A) {A : Type 0} (r s : Rule N A) : Type 0 where
  pub there : (depth : ℕ) (w : List Marked) (a : A) → derives N rules depth r w a → derives N rules depth s w a
  pub back : (depth : ℕ) (w : List Marked) (a : A) → derives N rules depth s w a → derives N rules depth r w a
