-- Laws of sets of causes.
use Rattle.std.proofs.Common.{◌≡◌, ℕ, ◌+◌, ◌≤◌, cond, length, length-append, le_of_eq, nat_eq, if◌then◌else◌, List, [], ◌∷◌, ◌++◌, map, not, ◌&&◌, ◌||◌, nat_cmp, Bool, true, false, refl, sym, ap, ◌∙◌, subst, arith}
use Rattle.std.specs.Cmp.Lexicographic.{slice_cmp, nat_list_cmp_total, texts_ties}
use Rattle.std.specs.FinSet as set
use Rattle.std.specs.Ordering.{eq_by_cmp, is_eq}
use Rattle.std.proofs.Math.Bool.{or_assoc, or_comm, or-false}
use Rattle.std.proofs.lemmas.Cmp.{tied_itself}
use Rattle.std.specs.Cmp.{Equal-is}
use Rattle.std.proofs.lemmas.List.{append_assoc, map-append}
use Rattle.std.specs.declared.cmp.Ordering.TheVariants.{Equal}
use Rattle.eng_value.specs.declared.cause.Cause.{Cause}
use Rattle.eng_value.specs.declared.cause.Cause.TheVariants.{NotYet, Mem, Interrupted, SinkFault, Real, Overflow, NotText, Escape, TooBig, Full, Unknown, Exists, Reserved, Arity, Misuse, Limit, Syntax, Skip, Ambiguous, BareColumn, Fault, Denied, Constraint, Mismatch, HostRefused, ModuleRefused, TriggerDepth, TransactionState, NoPlan, BestIndex, Locked, Raise, CommitRefused, NotQuery, NoSuchStatement, StatementsFull}
use Rattle.eng_value.specs.declared.cause.ConstraintKind.{ConstraintKind}
use Rattle.eng_value.specs.declared.cause.ConstraintKind.TheVariants as constraint
use Rattle.eng_value.specs.declared.cause.LimitKind.{LimitKind}
use Rattle.eng_value.specs.declared.cause.LimitKind.TheVariants as limit
use Rattle.eng_value.specs.declared.cause.NameKind.{NameKind}
use Rattle.eng_value.specs.declared.cause.NameKind.TheVariants as kind
use Rattle.std.specs.List.{filter, list_any}
use Rattle.std.proofs.lemmas.Bool.{and_from, and_left, and_parts, and_right, both_ways, cond-false, cond-true, cond_both, eq-eqb, false_from_ne_true, ne_eqb, not_from_false}
use Rattle.eng_value.specs.Causes.{CauseSet, StandOnce, cause_key, constraint_key, has_cause, is_same_cause, is_skip, kind_key, limit_key, named, only}

-- the set of a list of causes
abbrev pub set_of : List Cause → CauseSet
set_of causes = set.from_list (map cause_key causes)

-- two sets are one where they hold the same keys
pub same_causes : (s t : CauseSet) → ((q : List ℕ) → set.contains s q ≡ set.contains t q) → s ≡ t
same_causes s t is = set.same_set nat_list_cmp_total (set.slice_cmp-IsAntisymmetric set.nat_cmp-IsAntisymmetric) s t is

contains-set_of-append : (xs ys : List Cause) (q : List ℕ) → set.contains (set_of (xs ++ ys)) q ≡ (set.contains (set_of xs) q || set.contains (set_of ys) q)
contains-set_of-append [] ys q = rw (set.contains-empty (slice_cmp nat_cmp) q)
contains-set_of-append (x ∷ xs) ys q =
    set.contains-insert nat_list_cmp_total (set_of (xs ++ ys)) (cause_key x) q
    ∙ ap (λ b. eq_by_cmp (slice_cmp nat_cmp) q (cause_key x) || b) (contains-set_of-append xs ys q)
    ∙ sym (or_assoc (eq_by_cmp (slice_cmp nat_cmp) q (cause_key x)) _ _)
    ∙ ap (λ b. b || set.contains (set_of ys) q) (sym (set.contains-insert nat_list_cmp_total (set_of xs) (cause_key x) q))

-- the set of two lists behind one another has the causes of both
pub set_of-append : (xs ys : List Cause) → set_of (xs ++ ys) ≡ set.union (set_of xs) (set_of ys)
set_of-append xs ys = same_causes _ _ (λ q. contains-set_of-append xs ys q ∙ sym (set.contains-union nat_list_cmp_total (set_of xs) (set_of ys) q))

-- as the code of `union` builds it: mine, then the others' first one, then the rest of theirs
pub set_of-joined : (first other_first : Cause) (mine theirs all : List Cause)
    → all ≡ (mine ++ other_first ∷ []) ++ theirs
    → set_of (first ∷ all) ≡ set.union (set_of (first ∷ mine)) (set_of (other_first ∷ theirs))
set_of-joined first other_first mine theirs all is =
    ap (λ cs. set_of (first ∷ cs)) (is ∙ append_assoc mine (other_first ∷ []) theirs)
    ∙ set_of-append (first ∷ mine) (other_first ∷ theirs)

-- union is commutative and associative
pub union-comm : (s t : CauseSet) → set.union s t ≡ set.union t s
union-comm s t = same_causes _ _ (λ q. set.contains-union nat_list_cmp_total s t q ∙ or_comm (set.contains s q) (set.contains t q) ∙ sym (set.contains-union nat_list_cmp_total t s q))

pub union-assoc : (s t u : CauseSet) → set.union s (set.union t u) ≡ set.union (set.union s t) u
union-assoc s t u = same_causes _ _ (λ q. simp (set.contains-union nat_list_cmp_total) (sym (or_assoc (set.contains s q) (set.contains t q) (set.contains u q))))

-- the cause of a number, a detail and a name
abbrev kind_of : ℕ → NameKind
kind_of n = if nat_eq n 0 then kind.Table else if nat_eq n 1 then kind.Column else if nat_eq n 2 then kind.Function else if nat_eq n 3 then kind.Collation else if nat_eq n 4 then kind.Pragma else
    if nat_eq n 5 then kind.Module else if nat_eq n 6 then kind.Index else if nat_eq n 7 then kind.View else if nat_eq n 8 then kind.Trigger else kind.Savepoint

abbrev limit_of : ℕ → LimitKind
limit_of n = if nat_eq n 0 then limit.Columns else if nat_eq n 1 then limit.Nestings else if nat_eq n 2 then limit.Operators else if nat_eq n 3 then limit.Parts else if nat_eq n 4 then limit.Items else
    if nat_eq n 5 then limit.Queries else if nat_eq n 6 then limit.Rows else limit.Asks

abbrev constraint_of : ℕ → ConstraintKind
constraint_of n = if nat_eq n 0 then constraint.NotNull else if nat_eq n 1 then constraint.Check else constraint.Unique

abbrev cause_by : ℕ → ℕ → List ℕ → Cause
cause_by n detail name =
    if nat_eq n 1 then Mem else
    if nat_eq n 2 then Interrupted detail else
    if nat_eq n 3 then SinkFault else
    if nat_eq n 4 then Full name else
    if nat_eq n 5 then Real else
    if nat_eq n 6 then Overflow else
    if nat_eq n 7 then NotText else
    if nat_eq n 8 then Escape else
    if nat_eq n 9 then TooBig else
    if nat_eq n 10 then Limit (limit_of detail) else
    if nat_eq n 11 then Reserved name else
    if nat_eq n 12 then Arity name else
    if nat_eq n 13 then Misuse name else
    if nat_eq n 14 then Unknown (kind_of detail) name else
    if nat_eq n 15 then Exists (kind_of detail) name else
    if nat_eq n 16 then Syntax detail else
    if nat_eq n 17 then Skip else
    if nat_eq n 18 then Ambiguous name else
    if nat_eq n 19 then BareColumn name else
    if nat_eq n 20 then Fault name else
    if nat_eq n 21 then Denied detail else
    if nat_eq n 22 then Constraint (constraint_of detail) name else
    if nat_eq n 23 then Mismatch else
    if nat_eq n 24 then HostRefused name else
    if nat_eq n 25 then ModuleRefused name else
    if nat_eq n 26 then TriggerDepth detail else
    if nat_eq n 27 then TransactionState (nat_eq detail 1) else
    if nat_eq n 28 then NoPlan name else
    if nat_eq n 29 then BestIndex name else
    if nat_eq n 30 then Locked name detail else
    if nat_eq n 31 then Raise name else
    if nat_eq n 32 then CommitRefused else
    if nat_eq n 33 then NotQuery else
    if nat_eq n 34 then NoSuchStatement detail else
    if nat_eq n 35 then StatementsFull else NotYet

-- the cause of a key
abbrev cause_of : List ℕ → Cause
cause_of (n ∷ detail ∷ name) = cause_by n detail name
cause_of other = NotYet

kind_of-kind_key : (k : NameKind) → kind_of (kind_key k) ≡ k
kind_of-kind_key kind.Table = refl
kind_of-kind_key kind.Column = refl
kind_of-kind_key kind.Function = refl
kind_of-kind_key kind.Collation = refl
kind_of-kind_key kind.Pragma = refl
kind_of-kind_key kind.Module = refl
kind_of-kind_key kind.Index = refl
kind_of-kind_key kind.View = refl
kind_of-kind_key kind.Trigger = refl
kind_of-kind_key kind.Savepoint = refl

limit_of-limit_key : (k : LimitKind) → limit_of (limit_key k) ≡ k
limit_of-limit_key limit.Columns = refl
limit_of-limit_key limit.Nestings = refl
limit_of-limit_key limit.Operators = refl
limit_of-limit_key limit.Parts = refl
limit_of-limit_key limit.Items = refl
limit_of-limit_key limit.Queries = refl
limit_of-limit_key limit.Rows = refl
limit_of-limit_key limit.Asks = refl

constraint_of-constraint_key : (k : ConstraintKind) → constraint_of (constraint_key k) ≡ k
constraint_of-constraint_key constraint.NotNull = refl
constraint_of-constraint_key constraint.Check = refl
constraint_of-constraint_key constraint.Unique = refl

cause_of-cause_key : (c : Cause) → cause_of (cause_key c) ≡ c
cause_of-cause_key NotYet = refl
cause_of-cause_key Mem = refl
cause_of-cause_key (Interrupted n) = refl
cause_of-cause_key SinkFault = refl
cause_of-cause_key (Full table) = refl
cause_of-cause_key Real = refl
cause_of-cause_key Overflow = refl
cause_of-cause_key NotText = refl
cause_of-cause_key Escape = refl
cause_of-cause_key TooBig = refl
cause_of-cause_key (Limit k) = ap Limit (limit_of-limit_key k)
cause_of-cause_key (Syntax at) = refl
cause_of-cause_key Skip = refl
cause_of-cause_key (Ambiguous name) = refl
cause_of-cause_key (BareColumn name) = refl
cause_of-cause_key (Fault host) = refl
cause_of-cause_key (Denied action) = refl
cause_of-cause_key (Constraint k table) = ap (λ m. Constraint m table) (constraint_of-constraint_key k)
cause_of-cause_key Mismatch = refl
cause_of-cause_key (HostRefused text) = refl
cause_of-cause_key (ModuleRefused text) = refl
cause_of-cause_key (TriggerDepth most) = refl
cause_of-cause_key (TransactionState true) = refl
cause_of-cause_key (TransactionState false) = refl
cause_of-cause_key (NoPlan host) = refl
cause_of-cause_key (BestIndex host) = refl
cause_of-cause_key (Locked table n) = refl
cause_of-cause_key (Raise text) = refl
cause_of-cause_key CommitRefused = refl
cause_of-cause_key NotQuery = refl
cause_of-cause_key (NoSuchStatement n) = refl
cause_of-cause_key StatementsFull = refl
cause_of-cause_key (Reserved name) = refl
cause_of-cause_key (Arity name) = refl
cause_of-cause_key (Misuse name) = refl
cause_of-cause_key (Unknown k name) = ap (λ m. Unknown m name) (kind_of-kind_key k)
cause_of-cause_key (Exists k name) = ap (λ m. Exists m name) (kind_of-kind_key k)

-- no two causes have the same key
pub cause_key-injective : (c d : Cause) → cause_key c ≡ cause_key d → c ≡ d
cause_key-injective c d same = sym (cause_of-cause_key c) ∙ ap cause_of same ∙ cause_of-cause_key d

-- a cause that was put into a set is in it
pub has_cause-insert : (s : CauseSet) (c : Cause) → has_cause (set.insert s (cause_key c)) c ≡ true
has_cause-insert s c =
    set.contains-insert nat_list_cmp_total s (cause_key c) (cause_key c)
    ∙ ap (λ o. is_eq o || has_cause s c) (tied_itself nat_list_cmp_total (cause_key c))

-- the set of one cause holds it, and no other
pub has_cause-only : (c : Cause) → has_cause (only c) c ≡ true
has_cause-only c = has_cause-insert set.empty c

contains-only : (k q : List ℕ) → set.contains {R = slice_cmp nat_cmp} (set.insert set.empty k) q ≡ eq_by_cmp (slice_cmp nat_cmp) q k
contains-only k q =
    set.contains-insert nat_list_cmp_total set.empty k q
    ∙ ap (λ b. eq_by_cmp (slice_cmp nat_cmp) q k || b) (set.contains-empty (slice_cmp nat_cmp) q)
    ∙ or-false (eq_by_cmp (slice_cmp nat_cmp) q k)

keys_tied : (k q : List ℕ) → slice_cmp nat_cmp k q ≡ Equal → k ≡ q
keys_tied = set.slice_cmp-IsAntisymmetric set.nat_cmp-IsAntisymmetric

pub only-has_cause : (c d : Cause) → has_cause (only c) d ≡ true → d ≡ c
only-has_cause c d has =
    let is : eq_by_cmp (slice_cmp nat_cmp) (cause_key d) (cause_key c) ≡ true = sym (contains-only (cause_key c) (cause_key d)) ∙ has in
    let tied : slice_cmp nat_cmp (cause_key d) (cause_key c) ≡ Equal = (Equal-is (slice_cmp nat_cmp (cause_key d) (cause_key c))).0 is in
    cause_key-injective d c (keys_tied (cause_key d) (cause_key c) tied)

-- what a set holds already leaves it as it is
pub insert-has_cause : (s : CauseSet) (c : Cause) → has_cause s c ≡ true → set.insert s (cause_key c) ≡ s
insert-has_cause s c has = same_causes _ _ (λ q. set.contains-insert nat_list_cmp_total s (cause_key c) q ∙ held q (eq_by_cmp (slice_cmp nat_cmp) q (cause_key c)) refl)
  where
    held : (q : List ℕ) (b : Bool) → eq_by_cmp (slice_cmp nat_cmp) q (cause_key c) ≡ b → (eq_by_cmp (slice_cmp nat_cmp) q (cause_key c) || set.contains s q) ≡ set.contains s q
    held q true is = rw is (sym (ap (set.contains s) (keys_tied q (cause_key c) ((Equal-is (slice_cmp nat_cmp q (cause_key c))).0 is)) ∙ has))
    held q false is = rw is refl

-- ---- each stands once

same-tied : (c d : Cause) → eq_by_cmp (slice_cmp nat_cmp) (cause_key c) (cause_key d) ≡ is_same_cause c d
same-tied c d = sym (texts_ties (cause_key c) (cause_key d))

-- a set holds what stands in its list
pub has_cause-set_of : (causes : List Cause) (c : Cause) → has_cause (set_of causes) c ≡ list_any (is_same_cause c) causes
has_cause-set_of [] c = set.contains-empty (slice_cmp nat_cmp) (cause_key c)
has_cause-set_of (d ∷ causes) c =
    set.contains-insert nat_list_cmp_total (set_of causes) (cause_key d) (cause_key c)
    ∙ ap (λ b. b || has_cause (set_of causes) c) (same-tied c d)
    ∙ ap (λ b. is_same_cause c d || b) (has_cause-set_of causes c)

-- as the code of `contains` looks for one
pub first_is : (s : CauseSet) (first : Cause) (others : List Cause) (c : Cause) (found : Bool) → set_of (first ∷ others) ≡ s → found ≡ is_same_cause c first → found ≡ true → found ≡ has_cause s c
first_is s first others c found whole is holds =
    holds ∙ sym (ap (λ t. has_cause t c) (sym whole) ∙ has_cause-set_of (first ∷ others) c ∙ ap (λ b. b || list_any (is_same_cause c) others) (sym is ∙ holds))

pub others_are : (s : CauseSet) (first : Cause) (others : List Cause) (c : Cause) (same found : Bool) → set_of (first ∷ others) ≡ s → same ≡ is_same_cause c first → same ≡ false → found ≡ list_any (is_same_cause c) others → found ≡ has_cause s c
others_are s first others c same found whole is differs some =
    some ∙ sym (ap (λ t. has_cause t c) (sym whole) ∙ has_cause-set_of (first ∷ others) c ∙ ap (λ b. b || list_any (is_same_cause c) others) (sym is ∙ differs))

-- one more behind the others is one more in the set
pub set_of-push : (causes : List Cause) (c : Cause) → set_of (causes ++ c ∷ []) ≡ set.insert (set_of causes) (cause_key c)
set_of-push causes c =
    ap (λ ks. set.from_list ks) (map-append cause_key causes (c ∷ []))
    ∙ set.from_list_push nat_list_cmp_total (set.slice_cmp-IsAntisymmetric set.nat_cmp-IsAntisymmetric) (map cause_key causes) (cause_key c)

-- what is new makes a set larger by one
len-new : (s : CauseSet) (c : Cause) → has_cause s c ≡ false → set.len (set.insert s (cause_key c)) ≡ set.len s + 1
len-new s c new = set.len-insert nat_list_cmp_total s (cause_key c) ∙ ap (λ b. cond b (set.len s) (set.len s + 1)) new

-- one cause stands once
pub StandOnce-one : (c : Cause) → StandOnce (c ∷ [])
StandOnce-one c = sym (len-new set.empty c (set.contains-empty (slice_cmp nat_cmp) (cause_key c)) ∙ ap (λ n. n + 1) (set.len-empty (slice_cmp nat_cmp)))

-- and what is new stands once behind the others
pub StandOnce-push : (causes : List Cause) (c : Cause) → StandOnce causes → has_cause (set_of causes) c ≡ false → StandOnce (causes ++ c ∷ [])
StandOnce-push causes c once new =
    length-append causes (c ∷ []) ∙ ap (λ n. n + 1) once ∙ sym (len-new (set_of causes) c new) ∙ sym (ap (λ (s : CauseSet). set.len s) (set_of-push causes c))

-- as the code of `add` puts one behind the others
pub add-once : (s : CauseSet) (first c copy : Cause) (others more : List Cause) → set_of (first ∷ others) ≡ s → has_cause s c ≡ false → copy ≡ c → more ≡ others ++ copy ∷ [] → StandOnce (first ∷ others) → StandOnce (first ∷ more)
add-once s first c copy others more whole new same pushed once =
    subst (λ cs. StandOnce (first ∷ cs)) (sym (pushed ∙ ap (λ d. others ++ d ∷ []) same)) (StandOnce-push (first ∷ others) c once (ap (λ t. has_cause t c) whole ∙ new))

pub add-set : (s : CauseSet) (first c copy : Cause) (others more : List Cause) → set_of (first ∷ others) ≡ s → copy ≡ c → more ≡ others ++ copy ∷ [] → set_of (first ∷ more) ≡ set.insert s (cause_key c)
add-set s first c copy others more whole same pushed =
    ap (λ cs. set_of (first ∷ cs)) (pushed ∙ ap (λ d. others ++ d ∷ []) same) ∙ set_of-push (first ∷ others) c ∙ ap (λ (t : CauseSet). set.insert t (cause_key c)) whole

-- ---- a union, one cause after another

or-swap : (a b c : Bool) → (a || (b || c)) ≡ (b || (a || c))
or-swap true true c = refl
or-swap true false c = refl
or-swap false b c = refl

union-insert : (s t : CauseSet) (c : Cause) → set.union s (set.insert t (cause_key c)) ≡ set.insert (set.union s t) (cause_key c)
union-insert s t c = same_causes _ _ (λ q. simp (set.contains-union nat_list_cmp_total, set.contains-insert nat_list_cmp_total) (or-swap (set.contains s q) (eq_by_cmp (slice_cmp nat_cmp) q (cause_key c)) (set.contains t q)))

insert-union : (s t : CauseSet) (c : Cause) → set.union (set.insert s (cause_key c)) t ≡ set.union s (set.insert t (cause_key c))
insert-union s t c = union-comm (set.insert s (cause_key c)) t ∙ union-insert t s c ∙ ap (λ (u : CauseSet). set.insert u (cause_key c)) (union-comm t s) ∙ sym (union-insert s t c)

-- nothing more
pub union-none : (s : CauseSet) → set.union s (set_of []) ≡ s
union-none s = same_causes _ _ (λ q. set.contains-union nat_list_cmp_total s (set_of []) q ∙ ap (λ b. set.contains s q || b) (set.contains-empty (slice_cmp nat_cmp) q) ∙ or-false (set.contains s q))

-- one more
pub union-push : (s : CauseSet) (causes : List Cause) (c : Cause) → set.union s (set_of (causes ++ c ∷ [])) ≡ set.insert (set.union s (set_of causes)) (cause_key c)
union-push s causes c = ap (λ (t : CauseSet). set.union s t) (set_of-push causes c) ∙ union-insert s (set_of causes) c

-- the first one was added before the others
pub union-first : (s : CauseSet) (first : Cause) (others : List Cause) → set.union (set.insert s (cause_key first)) (set_of others) ≡ set.union s (set_of (first ∷ others))
union-first s first others = insert-union s (set_of others) first

-- ---- the causes that may be named

-- any other cause than that the row is left
abbrev pub is_other : Cause → Bool
is_other c = not (is_same_cause c Skip)

same_cause-true : (c d : Cause) → is_same_cause c d ≡ true → c ≡ d
same_cause-true c d is = cause_key-injective c d (keys_tied (cause_key c) (cause_key d) ((Equal-is (slice_cmp nat_cmp (cause_key c) (cause_key d))).0 (same-tied c d ∙ is)))

same_cause-itself : (c : Cause) → is_same_cause c c ≡ true
same_cause-itself c = sym (same-tied c c) ∙ ap is_eq (tied_itself nat_list_cmp_total (cause_key c))

same_cause-false : (c d : Cause) → is_same_cause c d ≡ false → eq_by_cmp (slice_cmp nat_cmp) (cause_key d) (cause_key c) ≡ false
same_cause-false c d differs =
    false_from_ne_true _ (λ is. both_ways (is_same_cause c d) differs (ap (λ x. is_same_cause c x) (same_cause-true d c (sym (same-tied d c) ∙ is)) ∙ same_cause-itself c))

-- what a set does not hold is not removed
remove-absent : (s : CauseSet) (c : Cause) → has_cause s c ≡ false → set.remove s (cause_key c) ≡ s
remove-absent s c absent = same_causes _ _ (λ q. set.contains-remove nat_list_cmp_total s (cause_key c) q ∙ kept q (eq_by_cmp (slice_cmp nat_cmp) q (cause_key c)) refl)
  where
    kept : (q : List ℕ) (b : Bool) → eq_by_cmp (slice_cmp nat_cmp) q (cause_key c) ≡ b → (not (eq_by_cmp (slice_cmp nat_cmp) q (cause_key c)) && set.contains s q) ≡ set.contains s q
    kept q true is = rw is (sym (ap (set.contains s) (keys_tied q (cause_key c) ((Equal-is (slice_cmp nat_cmp q (cause_key c))).0 is)) ∙ absent))
    kept q false is = rw is refl

not-and-or : (a b : Bool) → (not a && (a || b)) ≡ (not a && b)
not-and-or true b = refl
not-and-or false b = refl

remove-insert : (s : CauseSet) (c : Cause) → set.remove (set.insert s (cause_key c)) (cause_key c) ≡ set.remove s (cause_key c)
remove-insert s c = same_causes _ _ (λ q. simp (set.contains-remove nat_list_cmp_total, set.contains-insert nat_list_cmp_total) (not-and-or (eq_by_cmp (slice_cmp nat_cmp) q (cause_key c)) (set.contains s q)))

remove-insert_other : (s : CauseSet) (c d : Cause) → is_same_cause c d ≡ false → set.remove (set.insert s (cause_key c)) (cause_key d) ≡ set.insert (set.remove s (cause_key d)) (cause_key c)
remove-insert_other s c d differs = same_causes _ _ (λ q. simp (set.contains-remove nat_list_cmp_total, set.contains-insert nat_list_cmp_total) (held q (eq_by_cmp (slice_cmp nat_cmp) q (cause_key d)) refl))
  where
    held : (q : List ℕ) (b : Bool) → eq_by_cmp (slice_cmp nat_cmp) q (cause_key d) ≡ b
        → (not (eq_by_cmp (slice_cmp nat_cmp) q (cause_key d)) && (eq_by_cmp (slice_cmp nat_cmp) q (cause_key c) || set.contains s q))
        ≡ (eq_by_cmp (slice_cmp nat_cmp) q (cause_key c) || (not (eq_by_cmp (slice_cmp nat_cmp) q (cause_key d)) && set.contains s q))
    held q true is =
        let other : eq_by_cmp (slice_cmp nat_cmp) q (cause_key c) ≡ false = ap (λ k. eq_by_cmp (slice_cmp nat_cmp) k (cause_key c)) (keys_tied q (cause_key d) ((Equal-is (slice_cmp nat_cmp q (cause_key d))).0 is)) ∙ same_cause-false c d differs in
        rw (is, other) refl
    held q false is = rw is refl

-- the set of the others
set_of-filter_cons : (c : Cause) (causes : List Cause) (b : Bool) → is_same_cause c Skip ≡ b → set_of (filter is_other causes) ≡ set.remove (set_of causes) (cause_key Skip) → set_of (filter is_other (c ∷ causes)) ≡ set.remove (set_of (c ∷ causes)) (cause_key Skip)
set_of-filter_cons c causes true is rest =
    ap (λ b. set_of (cond (not b) (c ∷ filter is_other causes) (filter is_other causes))) is
    ∙ rest
    ∙ sym (remove-insert (set_of causes) Skip)
    ∙ ap (λ d. set.remove (set.insert (set_of causes) (cause_key d)) (cause_key Skip)) (sym (same_cause-true c Skip is))
set_of-filter_cons c causes false is rest =
    ap (λ b. set_of (cond (not b) (c ∷ filter is_other causes) (filter is_other causes))) is
    ∙ ap (λ (s : CauseSet). set.insert s (cause_key c)) rest
    ∙ sym (remove-insert_other (set_of causes) c Skip is)

pub set_of-filter : (causes : List Cause) → set_of (filter is_other causes) ≡ set.remove (set_of causes) (cause_key Skip)
set_of-filter [] = sym (remove-absent set.empty Skip (set.contains-empty (slice_cmp nat_cmp) (cause_key Skip)))
set_of-filter (c ∷ causes) = set_of-filter_cons c causes (is_same_cause c Skip) refl (set_of-filter causes)

-- a list has no fewer than its set
len-set_of : (causes : List Cause) → set.len (set_of causes) ≤ length causes
len-set_of [] = le_of_eq (set.len-empty (slice_cmp nat_cmp))
len-set_of (c ∷ causes) =
    let rest = len-set_of causes in
    subst (λ n. n ≤ length (c ∷ causes)) (sym (set.len-insert nat_list_cmp_total (set_of causes) (cause_key c)))
    (cond_both (has_cause (set_of causes) c) (set.len (set_of causes)) (set.len (set_of causes) + 1) (λ n. n ≤ length (c ∷ causes)) (λ e. omega arith) (λ e. omega arith))

-- what stands once stands in front of others
StandOnce-new : (c : Cause) (causes : List Cause) → StandOnce (c ∷ causes) → has_cause (set_of causes) c ≡ false
StandOnce-new c causes once = false_from_ne_true _ (λ has.
    let same : set.len (set_of (c ∷ causes)) ≡ set.len (set_of causes) = set.len-insert nat_list_cmp_total (set_of causes) (cause_key c) ∙ ap (λ b. cond b (set.len (set_of causes)) (set.len (set_of causes) + 1)) has in
    let most = len-set_of causes in
    absurd (omega (arith, once)))

StandOnce-rest : (c : Cause) (causes : List Cause) → StandOnce (c ∷ causes) → StandOnce causes
StandOnce-rest c causes once =
    let one_more = len-new (set_of causes) c (StandOnce-new c causes once) in
    omega (arith, once)

StandOnce-cons : (c : Cause) (causes : List Cause) → has_cause (set_of causes) c ≡ false → StandOnce causes → StandOnce (c ∷ causes)
StandOnce-cons c causes new once =
    let one_more = len-new (set_of causes) c new in
    omega (arith, once)

StandOnce-filter_cons : (c : Cause) (causes : List Cause) (b : Bool) → is_same_cause c Skip ≡ b → has_cause (set_of causes) c ≡ false → StandOnce (filter is_other causes) → StandOnce (filter is_other (c ∷ causes))
StandOnce-filter_cons c causes true is new once = subst (λ b. StandOnce (cond (not b) (c ∷ filter is_other causes) (filter is_other causes))) (sym is) once
StandOnce-filter_cons c causes false is new once =
    subst (λ b. StandOnce (cond (not b) (c ∷ filter is_other causes) (filter is_other causes))) (sym is)
    (StandOnce-cons c (filter is_other causes) (ap (λ s. has_cause s c) (set_of-filter causes) ∙ set.contains-remove nat_list_cmp_total (set_of causes) (cause_key Skip) (cause_key c) ∙ and_right _ _ new) once)

StandOnce-filter : (causes : List Cause) → StandOnce causes → StandOnce (filter is_other causes)
StandOnce-filter [] once = once
StandOnce-filter (c ∷ causes) once = StandOnce-filter_cons c causes (is_same_cause c Skip) refl (StandOnce-new c causes once) (StandOnce-filter causes (StandOnce-rest c causes once))

-- where that the row is left is no cause, all may be named
pub named-no_skip : (causes : CauseSet) → has_cause causes Skip ≡ false → named causes ≡ causes
named-no_skip causes none = cond-false (is_skip causes) causes _ (and_left (has_cause causes Skip) _ none) ∙ remove-absent causes Skip none

-- of several, the others may be named
named-several : (causes : CauseSet) → nat_eq (set.len causes) 1 ≡ false → named causes ≡ set.remove causes (cause_key Skip)
named-several causes several = cond-false (is_skip causes) causes _ (and_right (has_cause causes Skip) _ several)

-- one alone may be named
pub named-only : (why : Cause) → named (only why) ≡ only why
named-only why = by (has_cause (only why) Skip) refl
  where
    by : (b : Bool) → has_cause (only why) Skip ≡ b → named (only why) ≡ only why
    by true is = cond-true (is_skip (only why)) (only why) _ (and_from (has_cause (only why) Skip) _ is (eq-eqb _ 1 (sym (StandOnce-one why))))
    by false none = named-no_skip (only why) none

-- what may be named is a cause
pub named-has_cause : (causes : CauseSet) (why : Cause) → has_cause (named causes) why ≡ true → has_cause causes why ≡ true
named-has_cause causes why = cond_both (is_skip causes) causes (set.remove causes (cause_key Skip)) (λ s. has_cause s why ≡ true → has_cause causes why ≡ true) (λ _ has. has) (λ _ has.
    (and_parts _ _ (sym (set.contains-remove nat_list_cmp_total causes (cause_key Skip) (cause_key why)) ∙ has)).1)

-- and a cause that is not Skip may be named
pub named-other : (causes : CauseSet) (why : Cause) → is_same_cause why Skip ≡ false → has_cause causes why ≡ true → has_cause (named causes) why ≡ true
named-other causes why other has = cond_both (is_skip causes) causes (set.remove causes (cause_key Skip)) (λ s. has_cause s why ≡ true) (λ _. has) (λ _.
    set.contains-remove nat_list_cmp_total causes (cause_key Skip) (cause_key why) ∙ and_from _ _ (not_from_false _ (same-tied why Skip ∙ other)) has)

-- as the code of `named` comes to them: another cause stands in front
pub StandOnce-others : (first : Cause) (others kept : List Cause) → kept ≡ filter is_other others → is_same_cause first Skip ≡ false → StandOnce (first ∷ others) → StandOnce (first ∷ kept)
StandOnce-others first others kept are other once =
    subst (λ cs. StandOnce (first ∷ cs)) (sym are) (subst (λ b. StandOnce (cond (not b) (first ∷ filter is_other others) (filter is_other others))) other (StandOnce-filter (first ∷ others) once))

pub named-others : (first : Cause) (others kept : List Cause) → kept ≡ filter is_other others → is_same_cause first Skip ≡ false → StandOnce (first ∷ others) → set_of (first ∷ kept) ≡ named (set_of (first ∷ others))
named-others first others kept are other once = ap (λ cs. set_of (first ∷ cs)) are ∙ by others once
  where
    by : (others : List Cause) → StandOnce (first ∷ others) → set_of (first ∷ filter is_other others) ≡ named (set_of (first ∷ others))
    by [] once = sym (named-no_skip (only first) (false_from_ne_true _ (λ has. both_ways (is_same_cause first Skip) other (ap (λ d. is_same_cause first d) (only-has_cause first Skip has) ∙ same_cause-itself first))))
    by (d ∷ ds) once =
        ap (λ b. set_of (cond (not b) (first ∷ filter is_other (d ∷ ds)) (filter is_other (d ∷ ds)))) (sym other)
        ∙ set_of-filter (first ∷ d ∷ ds)
        ∙ sym (named-several (set_of (first ∷ d ∷ ds)) (ne_eqb _ 1 (λ one. absurd (omega (arith, once)))))

-- and else one of the others takes its place
kept_are : (first : Cause) (others kept : List Cause) → kept ≡ filter is_other others → is_same_cause first Skip ≡ true → filter is_other (first ∷ others) ≡ kept
kept_are first others kept are skip = ap (λ b. cond (not b) (first ∷ filter is_other others) (filter is_other others)) skip ∙ sym are

pub StandOnce-another : (first other : Cause) (others kept rest : List Cause) → kept ≡ filter is_other others → kept ≡ rest ++ other ∷ [] → is_same_cause first Skip ≡ true → StandOnce (first ∷ others) → StandOnce (other ∷ rest)
StandOnce-another first other others kept rest are popped skip once =
    let kept_once : StandOnce (rest ++ other ∷ []) = subst StandOnce (kept_are first others kept are skip ∙ popped) (StandOnce-filter (first ∷ others) once) in
    let same : set.len (set_of (rest ++ other ∷ [])) ≡ set.len (set_of (other ∷ rest)) = ap (λ (s : CauseSet). set.len s) (set_of-push rest other) in
    omega (arith, length-append rest (other ∷ []))

pub named-another : (first other : Cause) (others kept rest : List Cause) → kept ≡ filter is_other others → kept ≡ rest ++ other ∷ [] → is_same_cause first Skip ≡ true → StandOnce (first ∷ others) → set_of (other ∷ rest) ≡ named (set_of (first ∷ others))
named-another first other others kept rest are popped skip once =
    sym (set_of-push rest other)
    ∙ ap set_of (sym (kept_are first others kept are skip ∙ popped))
    ∙ set_of-filter (first ∷ others)
    ∙ sym (named-several (set_of (first ∷ others)) (ne_eqb _ 1 (λ one. several others are (omega (arith, once)))))
  where
    several : (others : List Cause) → kept ≡ filter is_other others → length others ≡ 0 → ⊥
    several [] are none = absurd (omega (arith, ap length (sym are ∙ popped), length-append rest (other ∷ [])))
    several (d ∷ ds) are none = absurd (omega arith)

-- if there is one
pub named-alone : (first : Cause) (others kept : List Cause) → kept ≡ filter is_other others → kept ≡ [] → is_same_cause first Skip ≡ true → StandOnce (first ∷ others) → only first ≡ named (set_of (first ∷ others))
named-alone first others kept are none skip once =
    let absent : has_cause (set_of others) Skip ≡ false = ap (λ c. has_cause (set_of others) c) (sym (same_cause-true first Skip skip)) ∙ StandOnce-new first others once in
    let no_other : set_of others ≡ set_of [] = sym (remove-absent (set_of others) Skip absent) ∙ sym (set_of-filter others) ∙ ap set_of (sym are ∙ none) in
    sym (named-only first) ∙ ap (λ (s : CauseSet). named (set.insert s (cause_key first))) (sym no_other)
