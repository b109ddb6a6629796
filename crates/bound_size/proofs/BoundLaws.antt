-- What is bound is bound part by part.
use Rattle.std.proofs.Common.{◌≡◌, Bool, true, false, ◌&&◌, cond, Ok, Err, refl}
use Rattle.eng_value.specs.declared.cause.Cause.{Cause}
use Rattle.sql_words.specs.Refusals.{◌>>=◌}
use Rattle.sql_bound.specs.Refusals.{Checked}

pub bound_by : {A B : Type 0} (a : Checked A) (f : A → Checked B) (b : B) → (a >>= f) ≡ Ok b → (x : A) × (a ≡ Ok x) × (f x ≡ Ok b)
bound_by (Ok x) f b e = (x, refl, e)
bound_by (Err why) f b e = cc

abbrev pub answer : {A : Type 0} → A → Checked A
answer a = Ok a

pub same_answer : {A : Type 0} (a b : A) → answer a ≡ answer b → a ≡ b
same_answer a b h = cc

-- what may be refused at once is not
pub if_passed : {A : Type 0} (test : Bool) (a : Checked A) (why : Cause) (b : A) → cond test a (Err why) ≡ Ok b → a ≡ Ok b
if_passed true a why b h = h
if_passed false a why b h = cc

pub both_hold : (a b : Bool) → (a && b) ≡ true → (a ≡ true) × (b ≡ true)
both_hold true b h = (refl, h)
both_hold false b h = cc

pub three_hold : (a b c : Bool) → (a && b && c) ≡ true → (a ≡ true) × (b ≡ true) × (c ≡ true)
three_hold true true c h = (refl, refl, h)
three_hold true false c h = cc
three_hold false b c h = cc
