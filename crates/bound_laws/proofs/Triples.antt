-- What an answer gives, if it is no refusal, by what its parts give.
use Rattle.std.proofs.Common.{◌≡◌, ℕ, zero, suc, Bool, true, false, cond, List, [], ◌∷◌, Ok, Err, refl}
use Rattle.std.specs.Bool.{⊤}
use Rattle.eng_value.specs.declared.cause.Cause.{Cause}
use Rattle.sql_words.specs.Refusals.{◌>>=◌}
use Rattle.sql_bound.specs.Limits.{walked}
use Rattle.sql_bound.specs.Refusals.{Checked}

abbrev pub HoldsIfOk : {A : Type 0} → (A → Type 0) → Checked A → Type 0
HoldsIfOk P (Ok a) = P a
HoldsIfOk P (Err why) = ⊤

-- a record, so that the property is found from what is known
pub record Gives {A : Type 0} (P : A → Type 0) (m : Checked A) : Type 0 where
  pub holds : HoldsIfOk P m

pub gives : {A : Type 0} (P : A → Type 0) (a : A) → P a → Gives P (Ok a)
gives P a h = record { holds = h }

pub refuses : {A : Type 0} (P : A → Type 0) (why : Cause) → Gives P (Err why)
refuses P why = record { holds = tt }

pub seq : {A B : Type 0} (m : Checked A) (f : A → Checked B) (P : A → Type 0) (Q : B → Type 0) → Gives P m → ((a : A) → P a → Gives Q (f a)) → Gives Q (m >>= f)
seq (Ok a) f P Q h k = k a h.holds
seq (Err why) f P Q h k = refuses Q why

pub given : {A : Type 0} (P : A → Type 0) (m : Checked A) (a : A) → Gives P m → m ≡ Ok a → P a
given P (Ok b) a h is = let same : b ≡ a = cc in subst_to P b a same h.holds where
  subst_to : {A : Type 0} (P : A → Type 0) (x y : A) → x ≡ y → P x → P y
  subst_to P x y same h = rw (← same) h
given P (Err why) a h is = cc

pub weaker : {A : Type 0} (P Q : A → Type 0) (m : Checked A) → ((a : A) → P a → Q a) → Gives P m → Gives Q m
weaker P Q (Ok a) f h = record { holds = f a h.holds }
weaker P Q (Err why) f h = record { holds = tt }

-- nothing is known of what it gives
pub any : {A : Type 0} (m : Checked A) → Gives (λ (a : A). ⊤) m
any (Ok a) = record { holds = tt }
any (Err why) = record { holds = tt }

-- whatever it gives
pub past : {A B : Type 0} (m : Checked A) (f : A → Checked B) (Q : B → Type 0) → ((a : A) → Gives Q (f a)) → Gives Q (m >>= f)
past (Ok a) f Q k = k a
past (Err why) f Q k = refuses Q why

-- it is what it gives
pub itself : {A : Type 0} (m : Checked A) → Gives (λ (a : A). m ≡ Ok a) m
itself (Ok a) = record { holds = refl }
itself (Err why) = record { holds = tt }

pub gives_if : {A : Type 0} (P : A → Type 0) (test : Bool) (m : Checked A) (why : Cause) → Gives P m → Gives P (cond test m (Err why))
gives_if P true m why h = h
gives_if P false m why h = refuses P why

pub gives_walked : {A B : Type 0} (P : B → Type 0) (f : A → B → Checked B) (n : ℕ) (xs : List A) (b : B) → ((x : A) (p : B) → P p → Gives P (f x p)) → P b → Gives P (walked f n xs b)
gives_walked P f n [] b each h = gives P b h
gives_walked P f zero (x ∷ xs) b each h = refuses P _
gives_walked P f (suc n) (x ∷ xs) b each h = seq (f x b) (λ c. walked f n xs c) P P (each x b h) (λ c k. gives_walked P f n xs c each k)
