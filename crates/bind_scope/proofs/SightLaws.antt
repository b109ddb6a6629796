-- What a name may mean in a FROM, item after item and column after column.
use Rattle.std.proofs.Common.{◌≡◌, ℕ, suc, ◌+◌, ◌<◌, add-one, drop, drop-cons, get_or, length, Bool, true, false, not, ◌&&◌, ◌||◌, List, [], ◌∷◌, ◌++◌, filter, Option, Some, None, refl, subst, ap, sym, ◌∙◌, is_some, if◌then◌else◌}
use Rattle.eng_entry.specs.Names.{is_same_name}
use Rattle.sql_bound.specs.Answers.{Answers}
use Rattle.sql_bound.specs.Refusals.{Checked}
use Rattle.std.specs.List.{flat_map}
use Rattle.sql_bound.specs.Scopes.{Level, columns_named, counted_once, nearest_from, nearest_of, rowid_named, unjoined}
use Rattle.sql_bound.specs.declared.scopes.ScopeColumn.{ScopeColumn}
use Rattle.sql_bound.specs.declared.scopes.ScopeItem.{ScopeItem}
use Rattle.sql_bound.specs.declared.scopes.Sight.{Sight}
use Rattle.bind_scope.specs.Sights.{another, candidates, first, is_meant, is_open, sight_of, sighted}

unjoined-step : (named joined : Bool) (c : ScopeColumn) (xs ys : List ScopeColumn) → c.joined ≡ joined → unjoined xs ≡ ys
    → unjoined (if named then c ∷ xs else xs) ≡ (if named && not joined then c ∷ ys else ys)
unjoined-step true true c xs ys is h = ap (λ j. if not j then c ∷ unjoined xs else unjoined xs) is ∙ h
unjoined-step true false c xs ys is h = ap (λ j. if not j then c ∷ unjoined xs else unjoined xs) is ∙ ap (λ zs. c ∷ zs) h
unjoined-step false joined c xs ys is h = h

unjoined-named : (name : List ℕ) (cs : List ScopeColumn) → unjoined (filter (λ (c : ScopeColumn). is_same_name c.name name) cs) ≡ filter (is_meant None name) cs
unjoined-named name [] = refl
unjoined-named name (c ∷ cs) = unjoined-step (is_same_name c.name name) c.joined c _ _ refl (unjoined-named name cs)

pub candidates-is : (table : Option (List ℕ)) (name : List ℕ) (item : ScopeItem)
    → candidates table name item ≡ (if is_open table item then filter (is_meant table name) item.columns ++ rowid_named name item else [])
candidates-is None name item = ap (λ xs. if item.bare then xs ++ rowid_named name item else []) (unjoined-named name item.columns)
candidates-is (Some table) name item = refl

-- ---- one list behind another

pub first-behind : (xs ys : List ScopeColumn) → first xs ≡ None → first (xs ++ ys) ≡ first ys
first-behind [] ys h = refl
first-behind (x ∷ xs) ys h = absurd (cc)

pub first-there : (xs ys : List ScopeColumn) (c : ScopeColumn) → first xs ≡ Some c → first (xs ++ ys) ≡ Some c
first-there [] ys c h = absurd (cc)
first-there (x ∷ xs) ys c h = h

or_false : (j : Bool) {m r s : Bool} → (m ≡ false → r ≡ s) → (not j || m) ≡ false → (not j || r) ≡ s
or_false true f h = f h
or_false false f h = absurd (cc)

or_true : (j : Bool) {m r : Bool} → (m ≡ true → r ≡ true) → (not j || m) ≡ true → (not j || r) ≡ true
or_true true f h = f h
or_true false f h = refl

behind_one : (xs ys : List ScopeColumn) → another true xs ≡ false → another true (xs ++ ys) ≡ another true ys
behind_one [] ys h = refl
behind_one (x ∷ xs) ys h = or_false x.joined (behind_one xs ys) h

pub another-behind : (b : Bool) (xs ys : List ScopeColumn) → another b xs ≡ false → another b (xs ++ ys) ≡ another (b || is_some (first xs)) ys
another-behind true xs ys h = behind_one xs ys h
another-behind false [] ys h = refl
another-behind false (x ∷ xs) ys h = behind_one xs ys h

there_one : (xs ys : List ScopeColumn) → another true xs ≡ true → another true (xs ++ ys) ≡ true
there_one [] ys h = absurd (cc)
there_one (x ∷ xs) ys h = or_true x.joined (there_one xs ys) h

pub another-there : (b : Bool) (xs ys : List ScopeColumn) → another b xs ≡ true → another b (xs ++ ys) ≡ true
another-there true xs ys h = there_one xs ys h
another-there false [] ys h = absurd (cc)
another-there false (x ∷ xs) ys h = there_one xs ys h

pub first_in-some : (table : Option (List ℕ)) (name : List ℕ) (item : ScopeItem) (c : ScopeColumn) → is_open table item ≡ true
    → first (filter (is_meant table name) item.columns) ≡ Some c → first (candidates table name item) ≡ Some c
first_in-some table name item c may h =
    ap first (candidates-is table name item)
    ∙ ap (λ b. first (if b then filter (is_meant table name) item.columns ++ rowid_named name item else [])) may
    ∙ first-there (filter (is_meant table name) item.columns) (rowid_named name item) c h

-- ---- the nearest one

module _ (name : List ℕ) (up : ℕ) (further : Checked (Option Sight)) where
  one_found : (c : ScopeColumn) (cs : List ScopeColumn) → nearest_of name up (c ∷ unjoined cs) further ≡ sighted name up (Some c) (another true cs) further
  one_found c [] = refl
  one_found c (d ∷ ds) = by d.joined (one_found c ds)
    where
      by : (j : Bool) → nearest_of name up (c ∷ unjoined ds) further ≡ sighted name up (Some c) (another true ds) further
          → nearest_of name up (c ∷ (if not j then d ∷ unjoined ds else unjoined ds)) further ≡ sighted name up (Some c) (not j || another true ds) further
      by true h = h
      by false h = refl

  pub nearest-sighted : (cs : List ScopeColumn) → nearest_of name up (counted_once cs) further ≡ sighted name up (first cs) (another false cs) further
  nearest-sighted [] = refl
  nearest-sighted (c ∷ cs) = one_found c cs

-- ---- item after item, and level after level

item_here : {A : Type 0} (all : List A) (i : ℕ) (one : A) → i < length all → one ≡ get_or all i one → drop i all ≡ one ∷ drop (suc i) all
item_here all i one h is = drop-cons all i one h ∙ ap (λ x. x ∷ drop (suc i) all) (sym is)

module _ (F : ScopeItem → List ScopeColumn) (level : List ScopeItem) (i : ℕ) (item : ScopeItem) (one : Bool) (whole : Bool)
    (within : i < length level) (is : item ≡ get_or level i item) (so_far : whole ≡ another one (flat_map F (drop i level))) where
  front : whole ≡ another one (F item ++ flat_map F (drop (suc i) level))
  front = so_far ∙ ap (λ xs. another one (flat_map F xs)) (item_here level i item within is)

  pub another_of-there : another one (F item) ≡ true → true ≡ whole
  another_of-there h = sym (front ∙ another-there one (F item) (flat_map F (drop (suc i) level)) h)

  pub another_of-on : (next : Bool) → another one (F item) ≡ false → next ≡ (one || is_some (first (F item))) → whole ≡ another next (flat_map F (drop (i + 1) level))
  another_of-on next h k =
      front ∙ another-behind one (F item) (flat_map F (drop (suc i) level)) h ∙ ap (λ b. another b (flat_map F (drop (suc i) level))) (sym k)
      ∙ ap (λ j. another next (flat_map F (drop j level))) (sym (add-one i))

pub nearest_column-found : (name : List ℕ) (F : ScopeItem → List ScopeColumn) (levels : List Level) (i : ℕ) (level : Level) (c : ScopeColumn) (whole : Checked (Option Sight))
    → i < length levels → level ≡ get_or levels i level
    → whole ≡ nearest_from i name (λ l. counted_once (flat_map F l)) (drop i levels)
    → first (flat_map F level) ≡ Some c → whole ≡ sight_of name i c (another false (flat_map F level))
nearest_column-found name F levels i level c whole within is so_far found =
    so_far
    ∙ ap (nearest_from i name (λ l. counted_once (flat_map F l))) (item_here levels i level within is)
    ∙ nearest-sighted name i (nearest_from (suc i) name (λ l. counted_once (flat_map F l)) (drop (suc i) levels)) (flat_map F level)
    ∙ ap (λ o. sighted name i o (another false (flat_map F level)) (nearest_from (suc i) name (λ l. counted_once (flat_map F l)) (drop (suc i) levels))) found

pub first_of-there : (F : ScopeItem → List ScopeColumn) (level : List ScopeItem) (i : ℕ) (item : ScopeItem) (c : ScopeColumn) (whole : Option ScopeColumn)
    → i < length level → item ≡ get_or level i item → whole ≡ first (flat_map F (drop i level)) → first (F item) ≡ Some c → Some c ≡ whole
first_of-there F level i item c whole within is so_far found =
    sym (so_far ∙ ap (λ xs. first (flat_map F xs)) (item_here level i item within is) ∙ first-there (F item) (flat_map F (drop (suc i) level)) c found)

answers_by : (m n : Checked (Option Sight)) (r : Checked (Option Sight)) → m ≡ n → Answers n r → Answers m r
answers_by m n r is h = subst (λ k. Answers k r) (sym is) h

pub nearest_column-answers : (name : List ℕ) (F : ScopeItem → List ScopeColumn) (levels : List Level) (i : ℕ) (level : Level) (c : ScopeColumn) (whole r : Checked (Option Sight))
    (up : ℕ) (others : Bool) → i < length levels → level ≡ get_or levels i level
    → whole ≡ nearest_from i name (λ l. counted_once (flat_map F l)) (drop i levels)
    → first (flat_map F level) ≡ Some c → up ≡ i → others ≡ another false (flat_map F level)
    → Answers (sight_of name up c others) r → Answers whole r
nearest_column-answers name F levels i level c whole r up others within is so_far found at more h =
    answers_by whole (sight_of name up c others) r
    (nearest_column-found name F levels i level c whole within is so_far found
    ∙ ap (λ k. sight_of name k c (another false (flat_map F level))) (sym at) ∙ ap (sight_of name up c) (sym more))
    h

pub ruleset sight_steps = (candidates-is, first-behind, first-there, another-behind, another-there, nearest-sighted)
