-- What is bound keeps the limits.
use Rattle.std.proofs.Common.{◌≡◌, ◌∙◌, ℕ, zero, suc, ◌+◌, ◌<◌, ◌≤◌, Bool, true, false, nat_lt, cond, Option, List, [], ◌∷◌, ◌++◌, length, Ok, Err, refl, sym, ap, arith}
use Rattle.std.proofs.lemmas.Bool.Decides.{Decides-ltb}
use Rattle.std.proofs.Math.ListN.{length-append}
use Rattle.eng_value.specs.declared.cause.Cause.TheVariants.{Limit}
use Rattle.eng_value.specs.declared.cause.Cause.{Cause}
use Rattle.eng_value.specs.declared.cause.LimitKind.TheVariants as limit
use Rattle.eng_value.specs.declared.limits.TheConstants.{MAX_COLUMNS}
use Rattle.sql_words.specs.Refusals.{◌>>=◌}
use Rattle.sql_bound.specs.Carriers.{Expression, ItemParts, ResultParts}
use Rattle.sql_bound.specs.Compounds.{row_bound}
use Rattle.sql_bound.specs.Froms.{Inside, are_made, kind_of_join, plain_item, called_by, constrained, has_room, item_found, items_found, joined_to, of_source, scope_item, using_all, using_one, with_item}
use Rattle.sql_bound.specs.Groups.{grouped_checked}
use Rattle.sql_bound.specs.Limits.{most_items, room_behind, walked}
use Rattle.sql_bound.specs.Refusals.{Checked}
use Rattle.sql_bound.specs.Results.{ResultScope, ShownResult, column_result, columns_result, results_bound, shown_by, with_result}
use Rattle.sql_bound.specs.Scopes.{Answer, Level, Scope}
use Rattle.sql_bound.specs.declared.froms.Found.{Found}
use Rattle.sql_bound.specs.declared.froms.Joining.{Joining}
use Rattle.sql_bound.specs.declared.froms.QueueTable.{QueueTable}
use Rattle.sql_bound.specs.declared.queries.Shown.{Shown}
use Rattle.sql_bound.specs.declared.scopes.Operand.{Operand}
use Rattle.sql_bound.specs.declared.scopes.ScopeColumn.{ScopeColumn}
use Rattle.sql_bound.specs.declared.scopes.Work.{Work}

-- what is bound is bound part by part
bound_by : {A B : Type 0} (a : Checked A) (f : A → Checked B) (b : B) → (a >>= f) ≡ Ok b → (x : A) × (a ≡ Ok x) × (f x ≡ Ok b)
bound_by (Ok x) f b e = (x, refl, e)
bound_by (Err why) f b e = cc

one_answer : {A : Type 0} (x : Checked A) (a b : A) → x ≡ Ok a → x ≡ Ok b → a ≡ b
one_answer x a b h k = cc

-- where the test of a limit is passed there is room
room_of : (n m : ℕ) (why : Cause) (u : Unit {0}) → cond (nat_lt n m) (Ok tt) (Err why) ≡ Ok u → n < m
room_of n m why u = go (nat_lt n m) (Decides-ltb n m).0 where
  go : (t : Bool) → (t ≡ true → n < m) → cond t (Ok tt) (Err why) ≡ Ok u → n < m
  go true h e = h refl
  go false h e = cc

longer : {A : Type 0} (xs : List A) (x : A) → length (xs ++ x ∷ []) ≡ suc (length xs)
longer xs x = omega (arith, length-append xs (x ∷ []))

-- ---- rows of VALUES

pub row_kept : (s : Scope) (values : List Expression) (so_far row : List Operand × Work) → length so_far.0 ≤ 100 → row_bound s values so_far ≡ Ok row → (length row.0 ≡ length so_far.0 + length values) × (length row.0 ≤ 100)
row_kept s [] so_far row l e = let same : so_far ≡ row = cc in let h : length so_far.0 ≡ length row.0 = ap (λ (r : List Operand × Work). length r.0) same in (omega arith, omega arith)
row_kept s (x ∷ values) so_far row l e =
    let p = bound_by (room_behind so_far.0) (λ u. x.bound s so_far.1 >>= λ a. row_bound s values (so_far.0 ++ a.0 ∷ [], a.1)) row e in
    let room = room_of (length so_far.0) MAX_COLUMNS (Limit limit.Columns) p.0 p.1 in
    let q = bound_by (x.bound s so_far.1) (λ a. row_bound s values (so_far.0 ++ a.0 ∷ [], a.1)) row p.2 in
    let n = longer so_far.0 q.0.0 in
    let rest = row_kept s values (so_far.0 ++ q.0.0 ∷ [], q.0.1) row (omega arith) q.2 in (omega arith, rest.1)

-- ---- results

shown_one_more : (s : ResultScope) (r : ShownResult) (so_far next : Shown × Work) → column_result s r so_far ≡ Ok next → length next.0.trees ≡ suc (length so_far.0.trees)
shown_one_more s r so_far next e =
    let p = bound_by (r.bound s.scope so_far.1) (λ a. grouped_checked s.grouped s.keys s.own a.0.tree >>= λ u. Ok (with_result r a.0 so_far.0, a.1)) next e in
    let q = bound_by (grouped_checked s.grouped s.keys s.own p.0.0.tree) (λ u. Ok (with_result r p.0.0 so_far.0, p.0.1)) next p.2 in
    let same : (with_result r p.0.0 so_far.0, p.0.1) ≡ next = one_answer (Ok (with_result r p.0.0 so_far.0, p.0.1)) (with_result r p.0.0 so_far.0, p.0.1) next refl q.2 in
    sym (ap (λ (n : Shown × Work). length n.0.trees) same) ∙ longer so_far.0.trees p.0.0.tree

columns_kept : (s : ResultScope) (rs : List ShownResult) (so_far shown : Shown × Work) → length so_far.0.trees ≤ 100 → columns_result s rs so_far ≡ Ok shown → length shown.0.trees ≤ 100
columns_kept s [] so_far shown l e = let same : so_far ≡ shown = cc in let h = ap (λ (n : Shown × Work). length n.0.trees) same in omega arith
columns_kept s (r ∷ rs) so_far shown l e =
    let p = bound_by (room_behind so_far.0.trees) (λ u. column_result s r so_far >>= λ next. columns_result s rs next) shown e in
    let room = room_of (length so_far.0.trees) MAX_COLUMNS (Limit limit.Columns) p.0 p.1 in
    let q = bound_by (column_result s r so_far) (λ next. columns_result s rs next) shown p.2 in
    let n = shown_one_more s r so_far q.0 q.1 in
    columns_kept s rs q.0 shown (omega arith) q.2

pub results_kept : (s : ResultScope) (rs : List ResultParts) (so_far shown : Shown × Work) → length so_far.0.trees ≤ 100 → results_bound s rs so_far ≡ Ok shown → length shown.0.trees ≤ 100
results_kept s [] so_far shown l e = let same : so_far ≡ shown = cc in let h = ap (λ (n : Shown × Work). length n.0.trees) same in omega arith
results_kept s (r ∷ rs) so_far shown l e =
    let p = bound_by (shown_by s.scope.outer.text s.own r) (λ more. columns_result s more so_far >>= λ next. results_bound s rs next) shown e in
    let q = bound_by (columns_result s p.0 so_far) (λ next. results_bound s rs next) shown p.2 in
    results_kept s rs q.0 shown (columns_kept s p.0 so_far q.0 l q.1) q.2

-- ---- items of FROM

abbrev the_answer : Found × Work → Answer Found
the_answer a = Ok a

items_after : (a b : Found × Work) (n : ℕ) → length a.0.items ≡ n → the_answer a ≡ Ok b → length b.0.items ≡ n
items_after a b n h e = let same : a ≡ b = cc in sym (ap (λ (x : Found × Work). length x.0.items) same) ∙ h

found_one_more : (i : Inside) (queue : Option QueueTable) (item : ItemParts) (f : Found) (w : Work) (g : Found × Work) → item_found i queue item f w ≡ Ok g → (length f.items < 16) × (length g.0.items ≡ suc (length f.items))
found_one_more i queue item f w g e =
    let p = bound_by (has_room f) (λ u. of_source i queue item.source f w >>= λ s. joined_to i item (called_by i.outer.text item.alias s.0.name) s.0 f s.1) g e in
    let room = room_of (length f.items) most_items (Limit limit.Items) p.0 p.1 in
    let q = bound_by (of_source i queue item.source f w) (λ s. joined_to i item (called_by i.outer.text item.alias s.0.name) s.0 f s.1) g p.2 in
    let name = called_by i.outer.text item.alias q.0.0.name in
    let r = bound_by (constrained i f.level item.join.natural item.constraint (record { right = scope_item (length f.items) name q.0.0; ons = [] }) q.0.1) (λ j. Ok (with_item item name q.0.0 f j.0, j.1)) g q.2 in
    let all : Found = with_item item name q.0.0 f r.0.0 in
    (room, items_after (all, r.0.1) g (suc (length f.items)) (longer f.items (record (plain_item name q.0.0) { join = kind_of_join item.join.left; ons = r.0.0.ons; ons_made = are_made item.constraint })) r.2)

pub items_kept : (i : Inside) (queue : Option QueueTable) (items : List ItemParts) (f : Found) (w : Work) (g : Found × Work) → length f.items ≤ 16 → items_found i queue items f w ≡ Ok g → (length g.0.items ≡ length f.items + length items) × (length g.0.items ≤ 16)
items_kept i queue [] f w g l e = let same : (f, w) ≡ g = cc in let h = ap (λ (x : Found × Work). length x.0.items) same in (omega arith, omega arith)
items_kept i queue (item ∷ items) f w g l e =
    let p = bound_by (item_found i queue item f w) (λ x. items_found i queue items x.0 x.1) g e in
    let one = found_one_more i queue item f w p.0 p.1 in
    let more = one.1 in
    let room = one.0 in
    let rest = items_kept i queue items p.0.0 p.0.1 g (omega arith) p.2 in
    let n = rest.0 in (omega arith, rest.1)

-- ---- what is walked member by member

walked_kept : {A B : Type 0} (f : A → B → Checked B) (n : ℕ) (xs : List A) (b c : B) → walked f n xs b ≡ Ok c → length xs ≤ n
walked_kept f n [] b c e = omega arith
walked_kept f zero (x ∷ xs) b c e = cc
walked_kept f (suc n) (x ∷ xs) b c e =
    let p = bound_by (f x b) (λ d. walked f n xs d) c e in
    let rest = walked_kept f n xs p.0 c p.2 in omega arith

pub joined_kept : (counts : ScopeColumn → Bool) (left : Level) (names : List (List ℕ)) (j k : Joining) → using_all counts left names j ≡ Ok k → length names ≤ 100
joined_kept counts left names j k e = walked_kept (using_one counts left) MAX_COLUMNS names j k e
