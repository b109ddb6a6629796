-- What a statement's run says, from what its program's run says.
use Rattle.std.proofs.Common.{◌≡◌, ℕ, ◌-◌, ◌≤◌, [], List, true, Result, Option, Some, None, is_some, Ok, Err, refl, sym, ap, ◌∙◌, subst, arith, length}
use Rattle.eng_value.specs.Causes.{CauseSet, has_cause, only}
use Rattle.eng_value.specs.declared.cause.Cause.{Cause}
use Rattle.eng_value.specs.declared.cause.Cause.TheVariants as cause
use Rattle.eng_value.specs.declared.value.Value.{Value}
use Rattle.eng_value.proofs.CauseLaws.{has_cause-only}
use Rattle.sql_meaning.specs.Statement.{IsNamed, MayGive, Outcome, UnlessPlan, refused}
use Rattle.sql_meaning.specs.Valid.{IsValid}
use Rattle.sql_meaning.specs.World.{State}
use Rattle.sql_meaning.proofs.OutcomeLaws.{gives_meant}
use Rattle.vm_code.specs.Machine.{World, Shared, Ending, Finished, Failed}
use Rattle.engine.specs.declared.answers.Done.{Done}
use Rattle.engine.specs.declared.running.Completed.{Completed}
use Rattle.engine.specs.Causes.{GivesAll, GivesFront, IsCause, no_memory, used_up, sink_failed, meant}
use Rattle.engine.specs.Connected.{Carries, CarriesOut}
use Rattle.engine.specs.Executing.{Refuses, no_memory as free, used_up as spent, sink_failed as sunk, failed, ExecutesAs}
use Rattle.engine.specs.Taking.{Rows, Adds, AddsFront}
use Rattle.engine.proofs.Takings.{adds_none}

-- ---- rows that are given

given_all : (o : Outcome) (t0 t : Option Rows) → Adds t0 t o.given → GivesAll o t0 t
given_all o t0 t adds = (o.given, gives_meant o o.given refl, adds)

given_front : (o : Outcome) (t0 t : Option Rows) → AddsFront t0 t o.given → GivesFront o t0 t
given_front o t0 t adds = (o.given, gives_meant o o.given refl, adds)

-- ---- a program that does what a statement means

-- how the run of a program ends whose statement is refused so
abbrev pub ended_by : Option CauseSet → Ending
ended_by None = Finished
ended_by (Some causes) = Failed causes

-- its run ends as the statement does, and gives the statement's rows; where it fails, the state is as before
pub record Shows (old : State) (o : Outcome) (e : Ending) (x : Shared) : Type 0 where
  pub ended : e ≡ ended_by o.refusal
  pub given : x.given ≡ o.given
  pub kept : (causes : CauseSet) → e ≡ Failed causes → o.next ≡ old

pub named_by : (refusal : Option CauseSet) (e : Ending) (causes : CauseSet) (k : Cause) → e ≡ ended_by refusal → e ≡ Failed causes → has_cause causes k ≡ true → IsNamed refusal (Some k)
named_by None e causes k is fails has = absurd (let both : Finished ≡ Failed causes = sym is ∙ fails in cc)
named_by (Some others) e causes k is fails has = let both : Failed others ≡ Failed causes = sym is ∙ fails in let same : others ≡ causes = cc in rw same has

pub refusal_none : (refusal : Option CauseSet) (e : Ending) → e ≡ ended_by refusal → e ≡ Finished → refusal ≡ None
refusal_none None e is ends = refl
refusal_none (Some causes) e is ends = absurd (let both : Failed causes ≡ Finished = sym is ∙ ends in cc)

module _ (old : State) (o : Outcome) (e : Ending) (x : Shared) (shows : Shows old o e x) (most bound budget ran : ℕ) (w : World) (t0 t : Option Rows) (rose : Type 0) (le : most ≤ bound) where
  caused : (now : State) (k : Cause) → now ≡ old → Refuses e x most budget ran t0 t rose k → IsCause o old now budget bound ran t0 t rose k
  caused now _ same free = no_memory same
  caused now _ same (spent a b) = used_up same a (omega arith)
  caused now _ same (sunk r) = sink_failed same r
  caused now _ same (failed k causes is has took) =
      meant k (same ∙ sym (shows.kept causes is)) (named_by o.refusal e causes k shows.ended is has) (given_all o t0 t (rw (← shows.given) took))

  -- where the program does not run to its end
  pub carries_Err : (now : State) (k : Cause) → now ≡ old → ExecutesAs e x most budget ran w t0 t rose (Err k) → CarriesOut o old now budget bound ran t0 t rose (Err k)
  carries_Err now k same a = record {
    answer = caused now k same a.answer;
    front = given_front o t0 t (rw (← shows.given) a.front);
    within = omega (arith, a.within);
  }

  -- where it does
  pub carries_Ok : (now : State) (c : Completed) (d : Done) → now ≡ o.next → d.given ≡ c.given → d.changed ≡ o.changed → ExecutesAs e x most budget ran w t0 t rose (Ok c) → CarriesOut o old now budget bound ran t0 t rose (Ok d)
  carries_Ok now c d next given changed a = record {
    answer = (refusal_none o.refusal e shows.ended a.answer.0, next, (o.given, gives_meant o o.given refl, rw (← shows.given) a.answer.2, given ∙ a.answer.3 ∙ ap length shows.given), changed);
    front = given_front o t0 t (rw (← shows.given) a.front);
    within = omega (arith, a.within);
  }

-- ---- what runs nothing

none_taken : (o : Outcome) (t : Option Rows) → GivesFront o t t
none_taken o t = given_front o t t ([], o.given, refl, adds_none t)

-- no memory was found before the program ran
pub carries_Mem : (o : Outcome) (state : State) (budget bound steps : ℕ) (t : Option Rows) (rose : Type 0) → CarriesOut o state state budget bound (steps - steps) t t rose (Err cause.Mem)
carries_Mem o state budget bound steps t rose = record { answer = no_memory refl; front = none_taken o t; within = omega arith }

-- the statement is refused
pub carries_refused : (o : Outcome) (state : State) (budget bound steps : ℕ) (t : Option Rows) (rose : Type 0) (why : Cause) → o ≡ refused state (only why) → CarriesOut o state state budget bound (steps - steps) t t rose (Err why)
carries_refused o state budget bound steps t rose why is = record {
  answer = meant why (rw is refl) (rw is (has_cause-only why)) (given_all o t t (rw is (adds_none t)));
  front = none_taken o t;
  within = omega arith;
}

-- ---- the same of an outcome for which another one stands, with more instructions allowed

-- it is the same, but may name fewer of the causes
pub record StandsFor (o p : Outcome) : Type 0 where
  pub refusal : (why : Option Cause) → IsNamed p.refusal why → IsNamed o.refusal why
  pub fails : is_some o.refusal ≡ is_some p.refusal
  pub told : o.told ≡ p.told
  pub given : o.given ≡ p.given
  pub shows_plan : o.shows_plan ≡ p.shows_plan
  pub changed : o.changed ≡ p.changed
  pub next : o.next ≡ p.next

pub stands_same : (o p : Outcome) → o ≡ p → StandsFor o p
stands_same o p is =
    subst (λ q. StandsFor q p) (sym is) (record { refusal = λ why n. n; fails = refl; told = refl; given = refl; shows_plan = refl; changed = refl; next = refl })

pub named_none : (refusal : Option CauseSet) → IsNamed refusal None → refusal ≡ None
named_none None n = refl
named_none (Some causes) n = absurd n

-- it may give the same rows
may_give : (o p : Outcome) (rows : List (List Value)) → StandsFor o p → MayGive p rows → MayGive o rows
may_give o p rows s m =
    subst (λ given. UnlessPlan o.shows_plan (rows ≡ given)) (sym s.given) (subst (λ plan. UnlessPlan plan (rows ≡ p.given)) (sym s.shows_plan) m)

more_cause : (o p : Outcome) (old now : State) (budget most bound ran : ℕ) (t0 t : Option Rows) (rose : Type 0) (k : Cause) → StandsFor o p → most ≤ bound → IsCause p old now budget most ran t0 t rose k → IsCause o old now budget bound ran t0 t rose k
more_cause o p old now budget most bound ran t0 t rose _ s le (no_memory same) = no_memory same
more_cause o p old now budget most bound ran t0 t rose _ s le (used_up same a b) = used_up same a (omega arith)
more_cause o p old now budget most bound ran t0 t rose _ s le (sink_failed same r) = sink_failed same r
more_cause o p old now budget most bound ran t0 t rose _ s le (meant k same names took) =
    meant k (same ∙ sym s.next) (s.refusal (Some k) names) (took.0, may_give o p took.0 s took.1, took.2)

carries_more : (o p : Outcome) (old now : State) (budget most bound ran : ℕ) (t0 t : Option Rows) (rose : Type 0) (r : Result Done Cause) → StandsFor o p → most ≤ bound → Carries p old now budget most ran t0 t rose r → Carries o old now budget bound ran t0 t rose r
carries_more o p old now budget most bound ran t0 t rose (Ok d) s le c =
    (named_none o.refusal (s.refusal None (rw c.0 tt)), c.1 ∙ sym s.next, (c.2.0, may_give o p c.2.0 s c.2.1, c.2.2, c.2.3), c.3 ∙ sym s.changed)
carries_more o p old now budget most bound ran t0 t rose (Err k) s le c = more_cause o p old now budget most bound ran t0 t rose k s le c

pub carries_as : (o p : Outcome) (old now : State) (budget most bound ran : ℕ) (t0 t : Option Rows) (rose : Type 0) (r : Result Done Cause) → StandsFor o p → most ≤ bound → CarriesOut p old now budget most ran t0 t rose r → CarriesOut o old now budget bound ran t0 t rose r
carries_as o p old now budget most bound ran t0 t rose r s le c = record {
  answer = carries_more o p old now budget most bound ran t0 t rose r s le c.answer;
  front = (c.front.0, may_give o p c.front.0 s c.front.1, c.front.2);
  within = omega (arith, c.within);
}

-- ---- valid states

-- where the state before and the one that is meant are valid, so is the one that is left
cause_valid : (o : Outcome) (old now : State) (budget bound ran : ℕ) (t0 t : Option Rows) (rose : Type 0) (k : Cause) → IsValid old → IsValid o.next → IsCause o old now budget bound ran t0 t rose k → IsValid now
cause_valid o old now budget bound ran t0 t rose _ before then_valid (no_memory same) = subst IsValid (sym same) before
cause_valid o old now budget bound ran t0 t rose _ before then_valid (used_up same a b) = subst IsValid (sym same) before
cause_valid o old now budget bound ran t0 t rose _ before then_valid (sink_failed same r) = subst IsValid (sym same) before
cause_valid o old now budget bound ran t0 t rose _ before then_valid (meant k same names took) = subst IsValid (sym same) then_valid

pub carries_valid : (o : Outcome) (old now : State) (budget bound ran : ℕ) (t0 t : Option Rows) (rose : Type 0) (r : Result Done Cause) → IsValid old → IsValid o.next → CarriesOut o old now budget bound ran t0 t rose r → IsValid now
carries_valid o old now budget bound ran t0 t rose r before then_valid c = by r c.answer
  where
    by : (q : Result Done Cause) → Carries o old now budget bound ran t0 t rose q → IsValid now
    by (Ok d) a = subst IsValid (sym a.1) then_valid
    by (Err k) a = cause_valid o old now budget bound ran t0 t rose k before then_valid a
