-- Conjuncts that are tested one after another.
use Rattle.std.proofs.Common.{◌≡◌, List, [], ◌∷◌, ◌++◌, Some, None, refl, sym, ap, ◌∙◌}
use Rattle.std.specs.FinSet as set
use Rattle.std.specs.List.{AllByRecursion}
use Rattle.std.specs.declared.option.Option.{Option}
use Rattle.bound_tree.specs.Exprs.{BoundExpr}
use Rattle.eng_value.proofs.CauseLaws.{union-comm, union-assoc}
use Rattle.eng_value.specs.Applied.{merged}
use Rattle.eng_value.specs.Arrangements.{Shuffled, empty, keep, swap, onward}
use Rattle.eng_value.specs.Environments.{Environment, no_causes}
use Rattle.eng_value.specs.Truths.{truth_in, truth_of}
use Rattle.eng_value.specs.declared.out.Out.{Out}
use Rattle.eng_value.specs.declared.out.Out.TheVariants.{Good, Bad}
use Rattle.eng_value.specs.declared.truth.Truth.{Truth}
use Rattle.eng_value.specs.declared.truth.Truth.TheVariants as truth
use Rattle.sql_meaning.specs.Expression.{value_of}
use Rattle.sql_meaning.specs.Products.{after_conjunct, if_some, sifted}

-- ---- causes

pub merged-assoc : (a b c : Out) → merged a (merged b c) ≡ merged (merged a b) c
merged-assoc (Good v) b c = refl
merged-assoc (Bad x) (Good w) c = refl
merged-assoc (Bad x) (Bad y) (Good u) = refl
merged-assoc (Bad x) (Bad y) (Bad z) = ap Bad (union-assoc x y z)

pub merged-swap : (a b c : Out) → merged a (merged b c) ≡ merged b (merged a c)
merged-swap (Good v) (Good w) c = refl
merged-swap (Good v) (Bad y) c = refl
merged-swap (Bad x) (Good w) c = refl
merged-swap (Bad x) (Bad y) (Good u) = ap Bad (union-comm x y)
merged-swap (Bad x) (Bad y) (Bad z) = ap Bad (union-assoc x y z ∙ ap (λ s. set.union s z) (union-comm x y) ∙ sym (union-assoc y x z))

-- ---- what conjuncts make of causes

abbrev pub truth_at : Environment → BoundExpr → Truth
truth_at env c = truth_in (truth_of (value_of c env))

-- they reject a row whatever its causes, or add the same to all
pub data Sifts (cs : List BoundExpr) (env : Environment) : Type 0 where
  rejects : ((causes : Out) → sifted cs env causes ≡ None) → Sifts cs env
  adds : (more : Out) → ((causes : Out) → sifted cs env causes ≡ Some (merged more causes)) → Sifts cs env

abbrev step : BoundExpr → List BoundExpr → Environment → Out → Truth → Option Out
step c cs env causes t = if_some (after_conjunct causes t) (sifted cs env)

sifts-cons : (c : BoundExpr) (cs : List BoundExpr) (env : Environment) (t : Truth) → truth_at env c ≡ t → Sifts cs env → Sifts (c ∷ cs) env
sifts-cons c cs env truth.True is (rejects none) = rejects (λ causes. ap (step c cs env causes) is ∙ none causes)
sifts-cons c cs env truth.True is (adds more some) = adds more (λ causes. ap (step c cs env causes) is ∙ some causes)
sifts-cons c cs env truth.False is those = rejects (λ causes. ap (step c cs env causes) is)
sifts-cons c cs env truth.Unknown is those = rejects (λ causes. ap (step c cs env causes) is)
sifts-cons c cs env (truth.Failed why) is (rejects none) =
    rejects (λ causes. ap (step c cs env causes) is ∙ none (merged (Bad why) causes))
sifts-cons c cs env (truth.Failed why) is (adds more some) =
    adds (merged more (Bad why)) (λ causes. ap (step c cs env causes) is ∙ some (merged (Bad why) causes) ∙ ap Some (merged-assoc more (Bad why) causes))

pub sifts : (cs : List BoundExpr) (env : Environment) → Sifts cs env
sifts [] env = adds no_causes (λ causes. refl)
sifts (c ∷ cs) env = sifts-cons c cs env (truth_at env c) refl (sifts cs env)

-- ---- some behind others

if_some-same : {A B : Type 0} (o : Option A) (f g : A → Option B) → ((a : A) → f a ≡ g a) → if_some o f ≡ if_some o g
if_some-same None f g same = refl
if_some-same (Some a) f g same = same a

if_some-twice : {A B C : Type 0} (o : Option A) (f : A → Option B) (g : B → Option C) → if_some o (λ a. if_some (f a) g) ≡ if_some (if_some o f) g
if_some-twice None f g = refl
if_some-twice (Some a) f g = refl

pub sifted-append : (xs ys : List BoundExpr) (env : Environment) (causes : Out) → sifted (xs ++ ys) env causes ≡ if_some (sifted xs env causes) (sifted ys env)
sifted-append [] ys env causes = refl
sifted-append (x ∷ xs) ys env causes =
    if_some-same (after_conjunct causes (truth_at env x)) (sifted (xs ++ ys) env) (λ d. if_some (sifted xs env d) (sifted ys env)) (sifted-append xs ys env)
    ∙ if_some-twice (after_conjunct causes (truth_at env x)) (sifted xs env) (sifted ys env)

-- ---- their order

swapped : (rest : Out → Option Out) (causes : Out) (a b : Truth) → if_some (after_conjunct causes a) (λ d. if_some (after_conjunct d b) rest) ≡ if_some (after_conjunct causes b) (λ d. if_some (after_conjunct d a) rest)
swapped rest causes truth.True truth.True = refl
swapped rest causes truth.True truth.False = refl
swapped rest causes truth.True truth.Unknown = refl
swapped rest causes truth.True (truth.Failed why) = refl
swapped rest causes truth.False truth.True = refl
swapped rest causes truth.False truth.False = refl
swapped rest causes truth.False truth.Unknown = refl
swapped rest causes truth.False (truth.Failed why) = refl
swapped rest causes truth.Unknown truth.True = refl
swapped rest causes truth.Unknown truth.False = refl
swapped rest causes truth.Unknown truth.Unknown = refl
swapped rest causes truth.Unknown (truth.Failed why) = refl
swapped rest causes (truth.Failed why) truth.True = refl
swapped rest causes (truth.Failed why) truth.False = refl
swapped rest causes (truth.Failed why) truth.Unknown = refl
swapped rest causes (truth.Failed why) (truth.Failed other) = ap rest (merged-swap (Bad other) (Bad why) causes)

-- it does not matter
pub sifted-shuffled : {xs ys : List BoundExpr} → Shuffled xs ys → (env : Environment) (causes : Out) → sifted xs env causes ≡ sifted ys env causes
sifted-shuffled empty env causes = refl
sifted-shuffled (keep x {xs} {ys} s) env causes =
    if_some-same (after_conjunct causes (truth_at env x)) (sifted xs env) (sifted ys env) (sifted-shuffled s env)
sifted-shuffled (swap x y xs) env causes = swapped (sifted xs env) causes (truth_at env x) (truth_at env y)
sifted-shuffled (onward s t) env causes = sifted-shuffled s env causes ∙ sifted-shuffled t env causes

-- ---- where they see the same

-- the conjunct comes to the same in both
abbrev pub Alike : Environment → Environment → BoundExpr → Type 0
Alike env other c = value_of c other ≡ value_of c env

pub sifted-alike : (cs : List BoundExpr) (env other : Environment) → AllByRecursion (Alike env other) cs → (causes : Out) → sifted cs other causes ≡ sifted cs env causes
sifted-alike [] env other alike causes = refl
sifted-alike (c ∷ cs) env other alike causes =
    ap (λ v. step c cs other causes (truth_in (truth_of v))) alike.0
    ∙ if_some-same (after_conjunct causes (truth_at env c)) (sifted cs other) (sifted cs env) (sifted-alike cs env other alike.1)
