-- Rows that a sink takes.
use Rattle.std.specs.Prelude.{◌≡◌, List, [], ◌∷◌, ◌++◌, ⊤, Some, None}
use Rattle.std.specs.declared.option.Option.{Option}
use Rattle.eng_value.specs.declared.value.Value.{Value}
use Rattle.engine.specs.declared.row_sink.Took.{Took}
use Rattle.engine.specs.declared.row_sink.Took.TheVariants as took

abbrev pub Rows : Type 0
Rows = List (List Value)

-- the rows that a sink tells grow by these; a sink that tells none says nothing
abbrev pub Adds : Option Rows → Option Rows → Rows → Type 0
Adds None new rows = ⊤
Adds (Some xs) None rows = ⊥
Adds (Some xs) (Some ys) rows = ys ≡ xs ++ rows

-- `Yes` takes the row, and any other answer takes nothing
abbrev pub Takes : Option Rows → Option Rows → Took → List Value → Type 0
Takes old new took.Yes row = Adds old new (row ∷ [])
Takes old new took.Failed row = Adds old new []
Takes old new took.Mem row = Adds old new []

-- a front of these rows was taken
abbrev pub AddsFront : Option Rows → Option Rows → Rows → Type 0
AddsFront old new all = (front rest : Rows) × (front ++ rest ≡ all) × Adds old new front
