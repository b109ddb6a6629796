-- From answers to what comes over the work, which stays as it is.
use Rattle.std.proofs.Common.{◌≡◌, ◌⊎◌, inl, inr, Result, Ok, Err, IfOk, refl, ap, sym, ◌∙◌}
use Rattle.eng_value.specs.declared.cause.Cause.{Cause}
use Rattle.sql_bound.specs.Answers.{Answers, Becomes, Comes, OnlyMem, Refuses}
use Rattle.sql_bound.specs.Froms.{with_units}
use Rattle.sql_bound.specs.Refusals.{Checked}
use Rattle.sql_bound.specs.declared.scopes.Work.{Work}

pub comes-units : {A : Type 0} (meant : Checked A) (r : Result A Cause) (w : Work) → Answers meant r → Comes (with_units meant w) r w
comes-units meant (Ok a) w is = ap (λ m. with_units m w) is
comes-units meant (Err why) w (inl mem) = inl mem
comes-units meant (Err why) w (inr is) = inr (ap (λ m. with_units m w) is)

pub comes-refused : {A : Type 0} (why : Cause) (r : Result A Cause) (w : Work) → Answers (Err why) r → Comes (Err why) r w
comes-refused why (Ok a) w is = cc
comes-refused why (Err e) w (inl mem) = inl mem
comes-refused why (Err e) w (inr is) = inr (cc)

pub comes-refuses : {A : Type 0} (why : Cause) (r : Result A Cause) (w : Work) → Refuses why r → Comes (Err why) r w
comes-refuses why (Ok a) w is = absurd is
comes-refuses why (Err e) w (inl mem) = inl mem
comes-refuses why (Err e) w (inr is) = inr (ap Err (sym is))

-- another way to say what is meant
pub comes-by : {A S : Type 0} (meant told : Result (A × S) Cause) (r : Result A Cause) (new : S) → meant ≡ told → Comes told r new → Comes meant r new
comes-by meant told (Ok a) new same is = same ∙ is
comes-by meant told (Err why) new same (inl mem) = inl mem
comes-by meant told (Err why) new same (inr is) = inr (same ∙ is)

pub answers-by : {A : Type 0} (meant told : Result A Cause) (r : Result A Cause) → meant ≡ told → Answers told r → Answers meant r
answers-by meant told (Ok a) same is = same ∙ is
answers-by meant told (Err why) same (inl mem) = inl mem
answers-by meant told (Err why) same (inr is) = inr (same ∙ is)

pub comes-becomes : {A S : Type 0} (meant : A × S) (r : Result A Cause) (new : S) → Becomes meant r new → Comes (Ok meant) r new
comes-becomes meant (Ok a) new is = ap Ok is
comes-becomes meant (Err why) new is = inl is

-- where only memory can fail
pub comes-made : {A S : Type 0} (meant : Result (A × S) Cause) (a : A) (r : Result A Cause) (new : S) → meant ≡ Ok (a, new) → IfOk r (λ x. x ≡ a) → OnlyMem r → Comes meant r new
comes-made meant a (Ok x) new is made mem = is ∙ ap (λ y. Ok (y, new)) (sym made)
comes-made meant a (Err why) new is made mem = inl mem

pub answers-made : {A : Type 0} (meant : Result A Cause) (a : A) (r : Result A Cause) → meant ≡ Ok a → IfOk r (λ x. x ≡ a) → OnlyMem r → Answers meant r
answers-made meant a (Ok x) is made mem = is ∙ ap Ok (sym made)
answers-made meant a (Err why) is made mem = inl mem
