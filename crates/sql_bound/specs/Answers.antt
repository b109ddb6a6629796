-- How what code gives stands to what is meant: it may always be that memory is wanting.
use Rattle.std.specs.Prelude.{◌≡◌, ◌⊎◌, ⊤, Result, Ok, Err}
use Rattle.eng_value.specs.declared.cause.Cause.TheVariants.{Mem}
use Rattle.eng_value.specs.declared.cause.Cause.{Cause}

-- a refusal is want of memory
abbrev pub OnlyMem : {A : Type 0} → Result A Cause → Type 0
OnlyMem (Ok a) = ⊤
OnlyMem (Err why) = why ≡ Mem

-- the result is the one that is meant
abbrev pub Answers : {A : Type 0} → Result A Cause → Result A Cause → Type 0
Answers meant (Ok a) = meant ≡ Ok a
Answers meant (Err why) = (why ≡ Mem) ⊎ (meant ≡ Err why)

-- it is this refusal
abbrev pub Refuses : {A : Type 0} → Cause → Result A Cause → Type 0
Refuses meant (Ok a) = ⊥
Refuses meant (Err why) = (why ≡ Mem) ⊎ (why ≡ meant)

-- the value and the state are those that are meant, which is never refused
abbrev pub Becomes : {A S : Type 0} → A × S → Result A Cause → S → Type 0
Becomes meant (Ok a) new = meant ≡ (a, new)
Becomes meant (Err why) new = why ≡ Mem

-- the same of what may be refused
abbrev pub Comes : {A S : Type 0} → Result (A × S) Cause → Result A Cause → S → Type 0
Comes meant (Ok a) new = meant ≡ Ok (a, new)
Comes meant (Err why) new = (why ≡ Mem) ⊎ (meant ≡ Err why)

-- what was found so far and the state are those that are meant
abbrev pub Goes : {F S : Type 0} → Result (F × S) Cause → Result (Unit {0}) Cause → F → S → Type 0
Goes meant (Ok done) found new = meant ≡ Ok (found, new)
Goes meant (Err why) found new = (why ≡ Mem) ⊎ (meant ≡ Err why)
