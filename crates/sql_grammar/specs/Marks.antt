-- What the tokens of a derivation count, and the first that passes a limit.
use Rattle.std.specs.Prelude.{ℕ, zero, suc, ◌+◌, ◌-◌, nat_eq, nat_lt, ◌&&◌, slice_index, slice_set, replicate, if◌then◌else◌, List, [], ◌∷◌, Result, Ok, Err}
use Rattle.sql_tree.specs.declared.token.Token.{Token}
use Rattle.sql_grammar.specs.declared.counts.TheConstants.{MAX_NESTINGS, MAX_OPERATORS, MAX_PARTS}
use Rattle.sql_grammar.specs.declared.counts.Limit.{Limit}
use Rattle.sql_grammar.specs.declared.counts.Limit.TheVariants as limit
use Rattle.sql_grammar.specs.declared.counts.Role.{Role}
use Rattle.sql_grammar.specs.declared.counts.Role.TheVariants as role
use Rattle.sql_grammar.specs.declared.counts.Counts.{Counts}

-- ---- the counts; the laws of the grammar never look into `count`

abbrev pub start : Counts
start = record { operators = 0; within = 0; depth = 0; parts = replicate (MAX_NESTINGS + 1) 0 }

-- an operator of the outermost expression; 1,000 may stand there
abbrev pub operator : Counts → Result Counts Limit
operator c = if nat_lt c.operators MAX_OPERATORS then Ok (record { operators = c.operators + 1; within = c.within; depth = c.depth; parts = c.parts }) else Err limit.Operators

-- outside of all expressions the next one begins anew
abbrev pub outside : Counts → Counts
outside c = if nat_eq c.within 0 then record { operators = 0; within = 0; depth = c.depth; parts = c.parts } else c

-- the query that stands directly in the innermost bracket begins anew
abbrev pub fresh : Counts → Counts
fresh c = record { operators = c.operators; within = c.within; depth = c.depth; parts = if nat_lt c.depth (MAX_NESTINGS + 1) then slice_set c.parts c.depth 0 else c.parts }

-- a part of it; 500 may stand there
abbrev pub part : Counts → Result Counts Limit
part c =
    if nat_lt c.depth (MAX_NESTINGS + 1) && nat_lt (slice_index c.parts c.depth) MAX_PARTS
    then Ok (record { operators = c.operators; within = c.within; depth = c.depth; parts = slice_set c.parts c.depth (slice_index c.parts c.depth + 1) })
    else Err limit.Parts

abbrev pub opening : Counts → Result Counts Limit
opening c = if nat_lt c.depth MAX_NESTINGS then Ok (fresh (record { operators = c.operators; within = c.within; depth = c.depth + 1; parts = c.parts })) else Err limit.Nestings

abbrev pub inward : Counts → Result Counts Limit
inward c = if nat_lt c.within MAX_NESTINGS then opening (record { operators = c.operators; within = c.within + 1; depth = c.depth; parts = c.parts }) else Err limit.Nestings

abbrev pub closing : Counts → Counts
closing c = record { operators = c.operators; within = c.within; depth = c.depth - 1; parts = c.parts }

abbrev pub outward : Counts → Counts
outward c = closing (record { operators = c.operators; within = c.within - 1; depth = c.depth; parts = c.parts })

unfoldable pub count : Role → Counts → Result Counts Limit
count role.Quiet c = Ok c
count role.Operator c = operator c
count role.Outside c = Ok (outside c)
count role.Fresh c = Ok (fresh (outside c))
count role.Part c = part (outside c)
count role.Inward c = inward c
count role.Outward c = Ok (outward c)
count role.Opening c = opening (outside c)
count role.Closing c = Ok (closing (outside c))

-- ---- marked tokens

-- what a token does where it stands in a derivation: it opens a nesting, closes one, or neither
pub data Mark : Type 0 where
  stays : Role → Mark
  opens : Role → Mark
  closes : Role → Mark

pub record Marked : Type 0 where
  pub token : Token
  pub mark : Mark

abbrev pub marked : Mark → Token → Marked
marked m t = record { token = t; mark = m }

abbrev pub plain : List Marked → List Token
plain [] = []
plain (x ∷ w) = x.token ∷ plain w

-- how many nestings may still be opened, with the counts; or from which token on a limit is passed
pub data Run : Type 0 where
  Fits : ℕ → Counts → Run
  Past : Limit → List Marked → Run

abbrev pub counted : ℕ → Result Counts Limit → List Marked → Run
counted d (Ok c) w = Fits d c
counted d (Err l) w = Past l w

-- one token, before these
abbrev pub step : Mark → ℕ → Counts → List Marked → Run
step (stays r) d c w = counted d (count r c) w
step (opens r) zero c w = Past limit.Nestings w
step (opens r) (suc d) c w = counted d (count r c) w
step (closes r) d c w = counted (suc d) (count r c) w

abbrev pub run_on : Run → (ℕ → Counts → Run) → Run
run_on (Fits d c) f = f d c
run_on (Past l w) f = Past l w

-- where so many nestings may still be opened
abbrev pub run : ℕ → Counts → List Marked → Run
run d c [] = Fits d c
run d c (x ∷ w) = run_on (step x.mark d c (x ∷ w)) (λ e k. run e k w)
