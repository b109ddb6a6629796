-- What parts of a script come to that run one after another.
use Rattle.std.proofs.Common.{◌≡◌, ◌≤◌, ℕ, ◌+◌, Bool, true, false, ◌||◌, List, [], ◌∷◌, ◌++◌, Some, None, refl, sym, ◌∙◌, ap, subst, append-nil, arith, ℤ}
use Rattle.std.specs.List.{list_any}
use Rattle.std.proofs.lemmas.List.Sums.{sum_by-append}
use Rattle.std.specs.declared.option.Option.{Option}
use Rattle.eng_value.specs.HostMeanings.{HostMeanings}
use Rattle.eng_value.specs.declared.cause.Cause.{Cause}
use Rattle.eng_value.specs.declared.value.Value.{Value}
use Rattle.sql_meaning.specs.declared.script.Options.{Options}
use Rattle.sql_meaning.specs.Parts.{Part, Statement, DotLine, BadCharacter}
use Rattle.sql_meaning.specs.Runs.{last_state, state_behind, AreAsMeant, IsAsMeant, IsEnough, IsEnoughFor, IsFrontOf, PartIsAsMeant}
use Rattle.sql_meaning.specs.Script.{Came, Come, Comes, Follow, PartComes, as_meant, as_named, cut_off, ends, instructions, number_asked, row_of_number}
use Rattle.sql_meaning.specs.Statement.{MayGive, Outcome, UnlessPlan, text_outcome}
use Rattle.sql_meaning.specs.Work.{instruction_bound}
use Rattle.sql_meaning.specs.World.{Context, State, context}
use Rattle.sql_meaning.proofs.CausedLaws.{text_outcome-named}

-- ---- there is something that parts come to

-- the rows that it means may be given
pub gives_meant : (o : Outcome) (rows : List (List Value)) → rows ≡ o.given → MayGive o rows
gives_meant o rows is = by o.shows_plan
  where
    by : (plan : Bool) → UnlessPlan plan (rows ≡ o.given)
    by true = tt
    by false = is

pub Comes-some : (budget : ℕ) (ctx : Context) (text : List ℕ) → (o : Came) × Comes budget 0 ctx text o
Comes-some budget ctx text =
    let n = text_outcome-named ctx text in
    let o = text_outcome ctx text in
    (as_named o n.0 o.given 0, as_meant n.0 o.given 0 n.1 (gives_meant o o.given refl) (omega arith) (omega arith))

pub PartComes-some : (hosts : HostMeanings) (budget : ℕ) (state : State) (part : Part) → (o : Came) × PartComes hosts budget state part o
PartComes-some hosts budget state (Statement text) = let some = Comes-some budget (context hosts state []) text in (some.0, λ told. some.1)
PartComes-some hosts budget state (DotLine line) = (_, refl)
PartComes-some hosts budget state (BadCharacter place) = (_, refl)

follow-some : (hosts : HostMeanings) (options : Options) (state : State) (parts : List Part) (e : Bool) → (os : List Came) × Come hosts options state parts os → (os : List Came) × Follow e os (Come hosts options state parts os)
follow-some hosts options state parts true some = ([], refl)
follow-some hosts options state parts false some = some

pub Come-some : (hosts : HostMeanings) (options : Options) (state : State) (parts : List Part) → (os : List Came) × Come hosts options state parts os
Come-some hosts options state [] = ([], refl)
Come-some hosts options state (part ∷ parts) =
    let first = PartComes-some hosts options.budget state part in
    let others = follow-some hosts options first.0.next parts (ends options first.0) (Come-some hosts options first.0.next parts) in
    (first.0 ∷ others.0, (first.1, others.1))

-- ---- where the budget is enough

-- a statement comes to what it means alone
pub Comes-only : (budget : ℕ) (ctx : Context) (text : List ℕ) (o : Came) → instruction_bound ctx text ≤ budget → Comes budget 0 ctx text o → IsAsMeant budget ctx text o
Comes-only budget ctx text o enough (as_meant why rows ran named gives within few) = (why, rows, ran, named, gives, omega arith, omega arith, refl)
Comes-only budget ctx text o enough (cut_off rows front rest ran gives whole used below) = absurd (omega arith)

PartComes-only : (hosts : HostMeanings) (budget : ℕ) (state : State) (part : Part) (o : Came) → IsEnoughFor hosts budget state part → PartComes hosts budget state part o → PartIsAsMeant hosts budget state part o
PartComes-only hosts budget state (Statement text) o enough c = Comes-only budget (context hosts state []) text o enough.1 (c enough.0)
PartComes-only hosts budget state (DotLine line) o enough c = c
PartComes-only hosts budget state (BadCharacter place) o enough c = c

as_named-next : (m : Outcome) (why : Option Cause) (rows : List (List Value)) (ran : ℕ) → (as_named m why rows ran).next ≡ m.next
as_named-next m None rows ran = refl
as_named-next m (Some why) rows ran = refl

pub number-next : (state : State) (n : Option ℤ) → (row_of_number state n).next ≡ state
number-next state None = refl
number-next state (Some n) = refl

part-next : (hosts : HostMeanings) (budget : ℕ) (state : State) (part : Part) (o : Came) → PartIsAsMeant hosts budget state part o → o.next ≡ state_behind hosts state part
part-next hosts budget state (Statement text) o m =
    ap (λ (p : Came). p.next) m.7 ∙ as_named-next (text_outcome (context hosts state []) text) m.0 m.1 m.2
part-next hosts budget state (DotLine line) o m = ap (λ (p : Came). p.next) m ∙ number-next state (number_asked state line)
part-next hosts budget state (BadCharacter place) o m = ap (λ (p : Came). p.next) m

-- and so do parts
follow-turned : (e : Bool) (os : List Came) (P Q : Type 0) → (P → Q) → Follow e os P → Follow e os Q
follow-turned true os P Q turn f = f
follow-turned false os P Q turn f = turn f

pub Come-only : (hosts : HostMeanings) (options : Options) (state : State) (parts : List Part) (os : List Came) → IsEnough hosts options.budget state parts → Come hosts options state parts os → AreAsMeant hosts options state parts os
Come-only hosts options state [] os enough c = c
Come-only hosts options state (part ∷ parts) [] enough c = absurd c
Come-only hosts options state (part ∷ parts) (o ∷ os) enough c =
    let first = PartComes-only hosts options.budget state part o enough.0 c.0 in
    let rest : IsEnough hosts options.budget o.next parts = subst (λ s. IsEnough hosts options.budget s parts) (sym (part-next hosts options.budget state part o first)) enough.1 in
    (first, follow-turned (ends options o) os (Come hosts options o.next parts os) (AreAsMeant hosts options o.next parts os) (Come-only hosts options o.next parts os rest) c.1)

-- whatever the budget, they can
PartIsAsMeant-Comes : (hosts : HostMeanings) (budget : ℕ) (state : State) (part : Part) (o : Came) → PartIsAsMeant hosts budget state part o → PartComes hosts budget state part o
PartIsAsMeant-Comes hosts budget state (Statement text) o m = λ told.
    subst (Comes budget 0 (context hosts state []) text) (sym m.7) (as_meant m.0 m.1 m.2 m.3 m.4 (omega (arith, m.5)) (omega (arith, m.6)))
PartIsAsMeant-Comes hosts budget state (DotLine line) o m = m
PartIsAsMeant-Comes hosts budget state (BadCharacter place) o m = m

pub AreAsMeant-Come : (hosts : HostMeanings) (options : Options) (state : State) (parts : List Part) (os : List Came) → AreAsMeant hosts options state parts os → Come hosts options state parts os
AreAsMeant-Come hosts options state [] os c = c
AreAsMeant-Come hosts options state (part ∷ parts) [] c = absurd c
AreAsMeant-Come hosts options state (part ∷ parts) (o ∷ os) c =
    (PartIsAsMeant-Comes hosts options.budget state part o c.0, follow-turned (ends options o) os (AreAsMeant hosts options o.next parts os) (Come hosts options o.next parts os) (AreAsMeant-Come hosts options o.next parts os) c.1)

-- ---- parts, and then others

-- the script ended at one of them
abbrev pub is_ended : Options → List Came → Bool
is_ended options os = list_any (ends options) os

-- the later ones begin where the earlier ones end, unless the script ended there
pub Come-append : (hosts : HostMeanings) (options : Options) (state : State) (xs ys : List Part) (os ps : List Came) → is_ended options os ≡ false → Come hosts options state xs os → Come hosts options (last_state state os) ys ps → Come hosts options state (xs ++ ys) (os ++ ps)
Come-append hosts options state [] ys os ps on c d =
    subst (λ qs. Come hosts options state ys (qs ++ ps)) (sym c) (subst (λ qs. Come hosts options (last_state state qs) ys ps) c d)
Come-append hosts options state (x ∷ xs) ys [] ps on c d = absurd c
Come-append hosts options state (x ∷ xs) ys (o ∷ os) ps on c d =
    (c.0, goes_on (ends options o) on c.1 (λ on'. λ f. Come-append hosts options o.next xs ys os ps on' f d))
  where
    goes_on : (e : Bool) → (e || is_ended options os) ≡ false → Follow e os (Come hosts options o.next xs os)
        → (is_ended options os ≡ false → Come hosts options o.next xs os → Come hosts options o.next (xs ++ ys) (os ++ ps)) → Follow e (os ++ ps) (Come hosts options o.next (xs ++ ys) (os ++ ps))
    goes_on true on' f step = cc
    goes_on false on' f step = step on' f

-- where the script ended nothing follows, whatever there is
pub Come-ended : (hosts : HostMeanings) (options : Options) (state : State) (xs ys : List Part) (os : List Came) → is_ended options os ≡ true → Come hosts options state xs os → Come hosts options state (xs ++ ys) os
Come-ended hosts options state [] ys os ended c = let bad : is_ended options [] ≡ true = subst (λ qs. is_ended options qs ≡ true) c ended in cc
Come-ended hosts options state (x ∷ xs) ys [] ended c = absurd c
Come-ended hosts options state (x ∷ xs) ys (o ∷ os) ended c = (c.0, stays (ends options o) ended c.1 (Come-ended hosts options o.next xs ys os))
  where
    stays : (e : Bool) → (e || is_ended options os) ≡ true → Follow e os (Come hosts options o.next xs os)
        → (is_ended options os ≡ true → Come hosts options o.next xs os → Come hosts options o.next (xs ++ ys) os) → Follow e os (Come hosts options o.next (xs ++ ys) os)
    stays true is f step = f
    stays false is f step = step is f

-- whatever parts come to, they can go on to more
pub Come-more : (hosts : HostMeanings) (options : Options) (state : State) (xs ys : List Part) (os : List Came) → Come hosts options state xs os → (more : List Came) × Come hosts options state (xs ++ ys) (os ++ more)
Come-more hosts options state xs ys os c = by (is_ended options os) refl
  where
    by : (e : Bool) → is_ended options os ≡ e → (more : List Came) × Come hosts options state (xs ++ ys) (os ++ more)
    by true e = ([], subst (Come hosts options state (xs ++ ys)) (sym (append-nil os)) (Come-ended hosts options state xs ys os e c))
    by false e = let more = Come-some hosts options (last_state state os) ys in (more.0, Come-append hosts options state xs ys os more.0 e c more.1)

-- what the first ones come to stands in front
pub Come-front : (hosts : HostMeanings) (options : Options) (state : State) (xs ys : List Part) (all : List Came) → Come hosts options state (xs ++ ys) all → (os : List Came) × Come hosts options state xs os × IsFrontOf os all
Come-front hosts options state [] ys all c = ([], refl, (all, refl))
Come-front hosts options state (x ∷ xs) ys [] c = absurd c
Come-front hosts options state (x ∷ xs) ys (o ∷ all) c =
    let rest = front (ends options o) c.1 (Come-front hosts options o.next xs ys all) in (o ∷ rest.0, (c.0, rest.1), (rest.2.0, ap (λ ps. o ∷ ps) rest.2.1))
  where
    front : (e : Bool) → Follow e all (Come hosts options o.next (xs ++ ys) all) → (Come hosts options o.next (xs ++ ys) all → (os : List Came) × Come hosts options o.next xs os × IsFrontOf os all)
        → (os : List Came) × Follow e os (Come hosts options o.next xs os) × IsFrontOf os all
    front true f step = ([], refl, (all, refl))
    front false f step = step f

pub last_state-append : (state : State) (os ps : List Came) → last_state state (os ++ ps) ≡ last_state (last_state state os) ps
last_state-append state [] ps = refl
last_state-append state (o ∷ os) ps = last_state-append o.next os ps

-- the instructions of both
pub instructions-append : (os ps : List Came) → instructions (os ++ ps) ≡ instructions os + instructions ps
instructions-append os ps = sum_by-append (λ (o : Came). o.ran) os ps
