-- Columns of a name, kept by several tests, and names that are walked.
use Rattle.std.proofs.Common.{◌≡◌, ℕ, zero, suc, ◌-◌, ◌<◌, Bool, true, false, not, ◌&&◌, ◌||◌, ◌≤◌, List, [], ◌∷◌, ◌++◌, filter, length, drop, slice_get, get_or, ◌+◌, append_assoc, add-one, IfOk, inl, Option, Some, Result, Ok, Err, refl, sym, ap, ◌∙◌, arith}
use Rattle.std.specs.List.{list_any, flat_map}
use Rattle.std.proofs.lemmas.List.{at_drop_all, at_drop_more}
use Rattle.bind_join.specs.Joins.{counted, is_joinable}
use Rattle.bind_join.specs.declared.joins.Counts.{Counts}
use Rattle.bind_join.specs.declared.joins.Counts.TheVariants as which_counts
use Rattle.eng_entry.specs.Names.{is_same_name}
use Rattle.eng_value.specs.declared.cause.Cause.{Cause}
use Rattle.eng_value.specs.declared.cause.Cause.TheVariants.{Ambiguous, Limit}
use Rattle.eng_value.specs.declared.cause.LimitKind.TheVariants as limit
use Rattle.sql_bound.specs.Answers.{Answers, OnlyMem}
use Rattle.sql_bound.specs.Declarations.{is_empty}
use Rattle.sql_bound.specs.Froms.{equality_of, on_left, one_of, using_one, with_joined}
use Rattle.sql_bound.specs.Limits.{walked}
use Rattle.sql_bound.specs.Refusals.{Checked}
use Rattle.sql_bound.specs.Scopes.{columns_named, is_shown, unjoined}
use Rattle.sql_words.specs.Refusals.{◌>>=◌}
use Rattle.sql_bound.specs.declared.froms.Joining.{Joining}
use Rattle.sql_bound.specs.declared.scopes.ScopeColumn.{ScopeColumn}
use Rattle.sql_bound.specs.declared.scopes.ScopeItem.{ScopeItem}

-- ---- two tests are one

filter-both : {X : Type 0} (p q : X → Bool) (x : X) (xs : List X) (b : Bool) → p x ≡ b → filter (λ y. p y && q y) xs ≡ filter q (filter p xs) → filter (λ y. p y && q y) (x ∷ xs) ≡ filter q (filter p (x ∷ xs))
filter-both p q x xs true is rest = rw (is, rest) refl
filter-both p q x xs false is rest = rw (is) rest

pub filter-and : {X : Type 0} (p q : X → Bool) (xs : List X) → filter (λ y. p y && q y) xs ≡ filter q (filter p xs)
filter-and p q [] = refl
filter-and p q (x ∷ xs) = filter-both p q x xs (p x) refl (filter-and p q xs)

pub joinable-is : (which : Counts) (name : List ℕ) (item : ScopeItem) → filter (is_joinable which name) item.columns ≡ filter (counted which) (unjoined (columns_named name item))
joinable-is which name item =
    filter-and (λ (c : ScopeColumn). is_same_name c.name name && not c.joined) (counted which) item.columns
    ∙ ap (filter (counted which)) (filter-and (λ (c : ScopeColumn). is_same_name c.name name) (λ (c : ScopeColumn). not c.joined) item.columns)

-- ---- whether there is one

any-filter-next : {X : Type 0} (p : X → Bool) (x : X) (xs : List X) (b : Bool) → p x ≡ b → list_any p xs ≡ not (is_empty (filter p xs)) → list_any p (x ∷ xs) ≡ not (is_empty (filter p (x ∷ xs)))
any-filter-next p x xs true is rest = rw is refl
any-filter-next p x xs false is rest = rw is rest

any-filter : {X : Type 0} (p : X → Bool) (xs : List X) → list_any p xs ≡ not (is_empty (filter p xs))
any-filter p [] = refl
any-filter p (x ∷ xs) = any-filter-next p x xs (p x) refl (any-filter p xs)

some-append : {X : Type 0} (xs ys : List X) → not (is_empty (xs ++ ys)) ≡ (not (is_empty xs) || not (is_empty ys))
some-append [] ys = refl
some-append (x ∷ xs) ys = refl

pub left-some : (which : Counts) (name : List ℕ) (left : List ScopeItem) → list_any (λ (item : ScopeItem). list_any (is_joinable which name) item.columns) left ≡ not (is_empty (on_left (counted which) name left))
left-some which name [] = refl
left-some which name (item ∷ left) =
    ap (λ b. b || list_any (λ (i : ScopeItem). list_any (is_joinable which name) i.columns) left) (any-filter (is_joinable which name) item.columns ∙ ap (λ cs. not (is_empty cs)) (joinable-is which name item))
    ∙ ap (λ b. not (is_empty (filter (counted which) (unjoined (columns_named name item)))) || b) (left-some which name left)
    ∙ sym (some-append (filter (counted which) (unjoined (columns_named name item))) (on_left (counted which) name left))

-- ---- names in turn

pub walked-none : {A B : Type 0} (f : A → B → Checked B) (n : ℕ) (b : B) → walked f n [] b ≡ Ok b
walked-none f zero b = refl
walked-none f (suc n) b = refl

pub walked-full : {A B : Type 0} (f : A → B → Checked B) (n : ℕ) (x : A) (xs : List A) (b : B) → n ≡ 0 → walked f n (x ∷ xs) b ≡ Err (Limit limit.Columns)
walked-full f n x xs b none = rw none refl

pub walked-passed : {A B : Type 0} (f : A → B → Checked B) (n m : ℕ) (x : A) (xs : List A) (b c : B) → n ≡ suc m → f x b ≡ Ok c → walked f n (x ∷ xs) b ≡ walked f m xs c
walked-passed f n m x xs b c more passed = rw (more, passed) refl

pub walked-refused : {A B : Type 0} (f : A → B → Checked B) (n m : ℕ) (x : A) (xs : List A) (b : B) (why : Cause) → n ≡ suc m → f x b ≡ Err why → walked f n (x ∷ xs) b ≡ Err why
walked-refused f n m x xs b why more refused = rw (more, refused) refl

pub left-step : (which : Counts) (name : List ℕ) (found new : List ScopeColumn) (left : List ScopeItem) (i : ℕ) (d : ScopeItem) → i < length left
    → new ≡ found ++ filter (is_joinable which name) (get_or left i d).columns
    → found ++ on_left (counted which) name (drop i left) ≡ new ++ on_left (counted which) name (drop (i + 1) left)
left-step which name found new left i d within is =
    let next : on_left (counted which) name (drop i left) ≡ filter (counted which) (unjoined (columns_named name (get_or left i d))) ++ on_left (counted which) name (drop (i + 1) left) = at_drop_more (on_left (counted which) name) left i d within in
    let made : new ≡ found ++ filter (counted which) (unjoined (columns_named name (get_or left i d))) = is ∙ ap (λ cs. found ++ cs) (joinable-is which name (get_or left i d)) in
    rw (next, made, append_assoc) refl

pub walk-passed : {A B : Type 0} (f : A → B → Checked B) (n m : ℕ) (xs : List A) (i : ℕ) (d : A) (b c : B) → i < length xs → n ≡ m + 1 → f (get_or xs i d) b ≡ Ok c
    → walked f n (drop i xs) b ≡ walked f m (drop (i + 1) xs) c
walk-passed f n m xs i d b c within more passed =
    at_drop_more (λ ys. walked f n ys b) xs i d within ∙ walked-passed f n m (get_or xs i d) (drop (i + 1) xs) b c (more ∙ add-one m) passed

pub walk-refused : {A B : Type 0} (f : A → B → Checked B) (n m : ℕ) (xs : List A) (i : ℕ) (d : A) (b : B) (why : Cause) → i < length xs → n ≡ m + 1 → f (get_or xs i d) b ≡ Err why
    → walked f n (drop i xs) b ≡ Err why
walk-refused f n m xs i d b why within more refused =
    at_drop_more (λ ys. walked f n ys b) xs i d within ∙ walked-refused f n m (get_or xs i d) (drop (i + 1) xs) b why (more ∙ add-one m) refused

pub walk-full : {A B : Type 0} (f : A → B → Checked B) (n : ℕ) (xs : List A) (i : ℕ) (d : A) (b : B) → i < length xs → n ≡ 0
    → walked f n (drop i xs) b ≡ Err (Limit limit.Columns)
walk-full f n xs i d b within none = at_drop_more (λ ys. walked f n ys b) xs i d within ∙ walked-full f n (get_or xs i d) (drop (i + 1) xs) b none

pub walk-end : {A B : Type 0} (f : A → B → Checked B) (n : ℕ) (xs : List A) (i : ℕ) (b : B) → length xs ≤ i → walked f n (drop i xs) b ≡ Ok b
walk-end f n xs i b past = at_drop_all (λ ys. walked f n ys b) xs i past ∙ walked-none f n b

-- ---- one name

abbrev using_both : Counts → List ℕ → Joining → ScopeColumn → ScopeColumn → Checked Joining
using_both which name j p q = Ok (record { right = with_joined (counted which) name j.right; ons = j.ons ++ equality_of p q ∷ [] })

pub using-is : (which : Counts) (left : List ScopeItem) (name : List ℕ) (j : Joining) (l r : ScopeColumn) (k : Result Joining Cause)
    → one_of name (on_left (counted which) name left) ≡ Ok l → one_of name (filter (counted which) (columns_named name j.right)) ≡ Ok r
    → IfOk k (λ x. x ≡ record { right = with_joined (counted which) name j.right; ons = j.ons ++ equality_of l r ∷ [] }) → OnlyMem k → Answers (using_one (counted which) left name j) k
using-is which left name j l r (Ok x) on_the_left on_the_right made mem =
    ap (λ (a : Checked ScopeColumn). a >>= λ p. one_of name (filter (counted which) (columns_named name j.right)) >>= λ q. using_both which name j p q) on_the_left
    ∙ ap (λ (b : Checked ScopeColumn). b >>= λ q. using_both which name j l q) on_the_right
    ∙ ap Ok (sym made)
using-is which left name j l r (Err why) on_the_left on_the_right made mem = inl mem

pub using-no_left : (which : Counts) (left : List ScopeItem) (name : List ℕ) (j : Joining) (why : Cause) → one_of name (on_left (counted which) name left) ≡ Err why → using_one (counted which) left name j ≡ Err why
using-no_left which left name j why none =
    ap (λ (a : Checked ScopeColumn). a >>= λ p. one_of name (filter (counted which) (columns_named name j.right)) >>= λ q. using_both which name j p q) none

pub using-no_right : (which : Counts) (left : List ScopeItem) (name : List ℕ) (j : Joining) (l : ScopeColumn) (why : Cause) → one_of name (on_left (counted which) name left) ≡ Ok l → one_of name (filter (counted which) (columns_named name j.right)) ≡ Err why → using_one (counted which) left name j ≡ Err why
using-no_right which left name j l why some none =
    ap (λ (a : Checked ScopeColumn). a >>= λ p. one_of name (filter (counted which) (columns_named name j.right)) >>= λ q. using_both which name j p q) some
    ∙ ap (λ (b : Checked ScopeColumn). b >>= λ q. using_both which name j l q) none

-- ---- the only one of a name

pub one-only : (name : List ℕ) (columns : List ScopeColumn) (c : ScopeColumn) → length columns ≡ 1 → slice_get columns 0 ≡ Some c → one_of name columns ≡ Ok c
one-only name [] c one here = absurd (omega arith)
one-only name (d ∷ e ∷ others) c one here = absurd (omega arith)
one-only name (d ∷ []) c one here = grind arith

pub one-two : (name : List ℕ) (columns : List ScopeColumn) → 2 ≤ length columns → one_of name columns ≡ Err (Ambiguous name)
one-two name [] two = absurd (omega arith)
one-two name (d ∷ []) two = absurd (omega arith)
one-two name (d ∷ e ∷ others) two = refl

pub ruleset one_steps = (one-only, one-two)
