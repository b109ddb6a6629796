-- What is lent is the value that was read, and no other value is.
use Rattle.std.proofs.Common.{◌≡◌, ◌≢◌, ℕ, List, get_or, Ok, refl, sym, ◌∙◌}
use Rattle.eng_value.specs.declared.value.Value.{Value}
use Rattle.eng_value.specs.declared.value.Value.TheVariants as value
use Rattle.eng_record.specs.declared.columns.Lent.{Lent}
use Rattle.eng_record.specs.declared.columns.Lent.TheVariants as lent
use Rattle.eng_record.specs.declared.record_error.RecordErr.{RecordErr}
use Rattle.eng_record.specs.declared.record_error.RecordErr.TheVariants as errors
use Rattle.eng_record.specs.Columns.{column_at}
use Rattle.eng_record.specs.Lent.{Lends, LendsRead}
use Rattle.eng_record.specs.Reading.{IsFault, Read, reading}
use Rattle.eng_record.proofs.Steps.{same_read}
use Rattle.eng_record.proofs.ColumnSteps.{column_is}

lends_value : (l : Lent) (found : Read Value) (v : Value) → LendsRead l found → found ≡ Ok v → Lends l v
lends_value (lent.Integer n) found v h is = same_read v (value.Integer n) (sym is ∙ h)
lends_value (lent.Text text) found v h is = same_read v (value.Text text.now) (sym is ∙ h)
lends_value lent.Other found v h is = h v is

pub lends_column : (l : Lent) (bytes : List ℕ) (row : List Value) (place : ℕ) → LendsRead l (column_at place bytes) → reading bytes ≡ Ok row → Lends l (get_or row place value.Null)
lends_column l bytes row place h is = lends_value l (column_at place bytes) (get_or row place value.Null) h (column_is bytes row place is)

-- a fault that is not that of memory
fault_not_value : (e : RecordErr) (found : Read Value) (v : Value) → e ≢ errors.Mem → IsFault e found → found ≡ Ok v → ⊥
fault_not_value errors.Mem found v other fault is = other refl
fault_not_value errors.Short found v other fault is = absurd cc
fault_not_value errors.BadKind found v other fault is = absurd cc
fault_not_value errors.BadText found v other fault is = absurd cc
fault_not_value errors.Trailing found v other fault is = absurd cc
fault_not_value errors.NotShortest found v other fault is = absurd cc

pub fault_lends : (e : RecordErr) (found : Read Value) → e ≢ errors.Mem → IsFault e found → LendsRead lent.Other found
fault_lends e found other fault v is = absurd (fault_not_value e found v other fault is)
