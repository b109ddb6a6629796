-- Which of two keys the code takes.
use Rattle.std.specs.Prelude.{ℕ, Bool, List}
use Rattle.eng_value.specs.Functions.{is_above, is_below}
use Rattle.eng_scalar.specs.declared.extremes.Extreme.{Extreme}
use Rattle.eng_scalar.specs.declared.extremes.Extreme.TheVariants.{Largest, Smallest}

abbrev pub beats : Extreme → List ℕ → List ℕ → Bool
beats Largest = is_above
beats Smallest = is_below
