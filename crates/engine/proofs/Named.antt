-- What is ready to run names what is there.
use Rattle.std.proofs.Common.{◌≡◌, ◌<◌, ◌≤◌, ◌+◌, ℕ, suc, zero, List, [], ◌∷◌, ◌++◌, drop, length, map, All, Ok, Err, Result, refl, sym, ap, ◌∙◌, subst, arith}
use Rattle.std.specs.List.{flat_map}
use Rattle.std.proofs.lemmas.List.Elements.{All-append, All-cons, All-nil}
use Rattle.bind_stmt.specs.Binds.{AreFrom, IsBound, IsItem, IsJoin, IsQueryAs}
use Rattle.bound_ignored.specs.Erased.{Marks, erased}
use Rattle.bound_tree.specs.Conditions.{conditions_of}
use Rattle.bound_tree.specs.Exprs as e
use Rattle.bound_tree.specs.Exprs.{AMatch, AnArm, AnExpr, BoundArms, BoundExpr, BoundExprs, BoundMatches, NoArms, NoExprs, NoMatches}
use Rattle.eng_value.specs.declared.cause.Cause.{Cause}
use Rattle.eng_value.specs.declared.cause.Cause.TheVariants as cause
use Rattle.gen_expr.specs.Needs.{needs_of, needs_of_all, needs_of_arms, needs_of_matches}
use Rattle.gen_loop.specs.Needs.{IsNamedBelow, NamesBelow as ReadsBelow, conjuncts_read}
use Rattle.gen_query.specs.Queries.{NamesItsItems, NamesNoItem, conjuncts_of, results_read, rows_read}
use Rattle.gen_write.specs.Writes.{NamesWhatIsThere as InsertNames, default_needs, needs_within}
use Rattle.meaning_laws.specs.Names.{AreBelow, EachNamesBelow, NamesBelow, NamesBelowIfThere, items_in, items_in_arms, items_in_matches, items_named}
use Rattle.meaning_laws.specs.Runs.{InsertIsWithin, JoinNamesBelow, JoinsAreWithin, QueryIsWithin, RunnableIsWithin}
use Rattle.meaning_laws.proofs.ErasedNames.{erased_below, first_below, rest_below}
use Rattle.meaning_laws.proofs.StatementLaws.{statement_runs}
use Rattle.plan_tree.specs.Plans.{all_conjuncts, join_conjuncts}
use Rattle.sql_grammar.specs.Answers.{Answer, Tree, Syntax, TooMuch, place}
use Rattle.sql_lex.specs.Cutting.{start_of}
use Rattle.sql_lex.specs.Tokens.{tokens_of}
use Rattle.sql_meaning.specs.Permits.{Asking}
use Rattle.sql_meaning.specs.Runnables.{Runnable, Creates, DoesNothing, Drops, Explains, FromItem, Indexes, Puts, Queries, Query, Shows, Unindexes}
use Rattle.sql_meaning.specs.Searches.{marks_in}
use Rattle.sql_meaning.specs.Statement.{answer_bound, limit_kind, text_bound}
use Rattle.sql_meaning.specs.World.{World}
use Rattle.sql_meaning.specs.declared.bound.BoundInsert.{BoundInsert}
use Rattle.sql_meaning.specs.declared.bound.BoundSelect.{BoundSelect}
use Rattle.sql_meaning.specs.declared.bound.FromTable.{FromTable}
use Rattle.sql_meaning.specs.declared.bound.Join.{Join}
use Rattle.sql_meaning.specs.declared.bound.Join.TheVariants as join
use Rattle.sql_meaning.specs.declared.bound.PutColumn.{PutColumn}
use Rattle.sql_tree.specs.declared.statement.Statement.{Statement}
use Rattle.sql_words.specs.Bodies.{answer_of, body_of}
use Rattle.std.specs.List.{AllByRecursion}
use Rattle.std.specs.declared.option.Option.{Option}
use Rattle.std.specs.Prelude.{Some, None}
use Rattle.vm_code.specs.declared.open_cursor.Need.{Need}
use Rattle.vm_code.specs.declared.open_cursor.Need.TheVariants as need
use Rattle.engine.specs.declared.preparing.Ready.{Ready}
use Rattle.engine.specs.declared.preparing.Ready.TheVariants as ready
use Rattle.engine.specs.Prepared.{NamesWhatIsThere, bound_in}

-- ---- what an expression reads are rows of items that it names

module _ (n : ℕ) where
  none : ReadsBelow n []
  none = All-nil (IsNamedBelow n)

  two : (xs ys : List ℕ) (us vs : List Need) → (AreBelow n xs → ReadsBelow n us) → (AreBelow n ys → ReadsBelow n vs) → AreBelow n (xs ++ ys) → ReadsBelow n (us ++ vs)
  two xs ys us vs f g h = All-append (IsNamedBelow n) us vs (f (first_below n xs ys h)) (g (rest_below n xs ys h))

  three : (xs ys zs : List ℕ) (us vs ws : List Need) → (AreBelow n xs → ReadsBelow n us) → (AreBelow n ys → ReadsBelow n vs) → (AreBelow n zs → ReadsBelow n ws)
      → AreBelow n (xs ++ ys ++ zs) → ReadsBelow n (us ++ vs ++ ws)
  three xs ys zs us vs ws f g k h = two (xs ++ ys) zs (us ++ vs) ws (two xs ys us vs f g) k h

  one : (item : ℕ) → item < n → ReadsBelow n (need.Rows item ∷ [])
  one item h = All-cons (IsNamedBelow n) (need.Rows item) [] h none

  mutual
    pub reads_below : (x : BoundExpr) → NamesBelow n x → ReadsBelow n (needs_of x)
    reads_below (e.Literal l) h = none
    reads_below (e.Parameter number) h = none
    reads_below (e.Column item place) h = one item h.0
    reads_below (e.Rowid item) h = one item h.0
    reads_below (e.Argument place) h = none
    reads_below (e.Aggregate slot) h = none
    reads_below (e.Unary o a) h = reads_below a h
    reads_below (e.Binary o a b) h = two (items_named a) (items_named b) (needs_of a) (needs_of b) (reads_below a) (reads_below b) h
    reads_below (e.LikeEscaped a b c) h = three (items_named a) (items_named b) (items_named c) (needs_of a) (needs_of b) (needs_of c) (reads_below a) (reads_below b) (reads_below c) h
    reads_below (e.Between above below a low high) h = three (items_named a) (items_named low) (items_named high) (needs_of a) (needs_of low) (needs_of high) (reads_below a) (reads_below low) (reads_below high) h
    reads_below (e.InList sides a others) h = two (items_named a) (items_in others) (needs_of a) (needs_of_all others) (reads_below a) (all_below others) h
    reads_below (e.ChooseArm arms last) h = two (items_in_arms arms) (items_named last) (needs_of_arms arms) (needs_of last) (arms_below arms) (reads_below last) h
    reads_below (e.MatchArm a arms last) h = three (items_named a) (items_in_matches arms) (items_named last) (needs_of a) (needs_of_matches arms) (needs_of last) (reads_below a) (matches_below arms) (reads_below last) h
    reads_below (e.Iif a b c) h = three (items_named a) (items_named b) (items_named c) (needs_of a) (needs_of b) (needs_of c) (reads_below a) (reads_below b) (reads_below c) h
    reads_below (e.CoalesceList f args) h = all_below args h
    reads_below (e.CallBuiltin f collation args) h = all_below args h
    reads_below (e.CallHost name args) h = none
    reads_below (e.ScalarOf unit handed) h = none
    reads_below (e.ExistsIn unit handed) h = none
    reads_below (e.InUnit sides a unit handed) h = none
    reads_below e.RaiseIgnore h = none
    reads_below (e.RaiseAbort text) h = none

    all_below : (xs : BoundExprs) → AreBelow n (items_in xs) → ReadsBelow n (needs_of_all xs)
    all_below NoExprs h = none
    all_below (AnExpr a rest) h = two (items_named a) (items_in rest) (needs_of a) (needs_of_all rest) (reads_below a) (all_below rest) h

    arms_below : (xs : BoundArms) → AreBelow n (items_in_arms xs) → ReadsBelow n (needs_of_arms xs)
    arms_below NoArms h = none
    arms_below (AnArm a b rest) h = three (items_named a) (items_named b) (items_in_arms rest) (needs_of a) (needs_of b) (needs_of_arms rest) (reads_below a) (reads_below b) (arms_below rest) h

    matches_below : (xs : BoundMatches) → AreBelow n (items_in_matches xs) → ReadsBelow n (needs_of_matches xs)
    matches_below NoMatches h = none
    matches_below (AMatch sides a b rest) h = three (items_named a) (items_named b) (items_in_matches rest) (needs_of a) (needs_of b) (needs_of_matches rest) (reads_below a) (reads_below b) (matches_below rest) h

  each_below : (xs : List BoundExpr) → EachNamesBelow n xs → ReadsBelow n (flat_map needs_of xs)
  each_below [] h = none
  each_below (x ∷ xs) h = All-append (IsNamedBelow n) (needs_of x) (flat_map needs_of xs) (reads_below x h.0) (each_below xs h.1)

  -- as rows are stored
  stored_below : (m : Marks) (xs : List BoundExpr) → EachNamesBelow n xs → EachNamesBelow n (map (erased m) xs)
  stored_below m [] h = tt
  stored_below m (x ∷ xs) h = (erased_below m n x h.0, stored_below m xs h.1)

-- ---- queries

wider : (a b : ℕ) (items : List ℕ) → a ≤ b → AreBelow a items → AreBelow b items
wider a b [] le h = tt
wider a b (x ∷ items) le h = (omega (arith, le, h.0), wider a b items le h.1)

each_wider : (a b : ℕ) (xs : List BoundExpr) → a ≤ b → EachNamesBelow a xs → EachNamesBelow b xs
each_wider a b [] le h = tt
each_wider a b (x ∷ xs) le h = (wider a b (items_named x) le h.0, each_wider a b xs le h.1)

same_length : (m : Marks) (from : List FromItem) (made : List FromTable) → AreFrom m from made → length made ≡ length from
same_length m [] [] h = refl
same_length m [] (f ∷ made) h = absurd h
same_length m (i ∷ from) [] h = absurd h
same_length m (i ∷ from) (f ∷ made) h = ap suc (same_length m from made h.1)

-- what makes the pairs of an item
join_below : (m : Marks) (n left : ℕ) (i f : Join) → left < n → IsJoin m i f → JoinNamesBelow (suc left) i → EachNamesBelow n (join_conjuncts f)
join_below m n left join.Inner join.Inner lt at h = tt
join_below m n left join.Inner (join.Left made) lt at h = absurd at
join_below m n left (join.Left ons) join.Inner lt at h = absurd at
join_below m n left (join.Left ons) (join.Left made) lt at h = subst (EachNamesBelow n) (sym at) (stored_below n m ons (each_wider (suc left) n ons (omega (arith, lt)) h))

both : (n : ℕ) (xs ys : List BoundExpr) → EachNamesBelow n xs → EachNamesBelow n ys → EachNamesBelow n (xs ++ ys)
both n [] ys h k = k
both n (x ∷ xs) ys h k = (h.0, both n xs ys h.1 k)

joins_below : (m : Marks) (n left : ℕ) (from : List FromItem) (made : List FromTable) → left + length from ≤ n → AreFrom m from made → JoinsAreWithin left from → EachNamesBelow n (flat_map (λ (f : FromTable). join_conjuncts f.join) made)
joins_below m n left [] [] le at h = tt
joins_below m n left [] (f ∷ made) le at h = absurd at
joins_below m n left (i ∷ from) [] le at h = absurd at
joins_below m n left (i ∷ from) (f ∷ made) le at h =
    both n (join_conjuncts f.join) (flat_map (λ (g : FromTable). join_conjuncts g.join) made) (join_below m n left i.join f.join (omega (arith, le)) at.0.join h.0) (joins_below m n (suc left) from made (omega (arith, le)) at.1 h.1)

query_names : (q : Query) (b : BoundSelect) → IsQueryAs q b → QueryIsWithin q → NamesItsItems b
query_names q b at h =
    subst (λ n. ReadsBelow n (conjuncts_read tested ++ results_read b.results)) (sym (same_length m q.from b.from at.from))
    (All-append (IsNamedBelow n) (conjuncts_read tested) (results_read b.results) (each_below n tested all_tested) (each_below n b.results shown))
  where
    m : Marks
    m = marks_in q.from

    n : ℕ
    n = length q.from

    tested : List BoundExpr
    tested = all_conjuncts b.from (conjuncts_of b)

    all_tested : EachNamesBelow n tested
    all_tested = both n (conjuncts_of b) (flat_map (λ (f : FromTable). join_conjuncts f.join) b.from) (subst (EachNamesBelow n) (sym at.conjuncts) (stored_below n m q.conjuncts h.conjuncts)) (joins_below m n 0 q.from b.from (omega arith) at.from h.joins)

    shown : EachNamesBelow n b.results
    shown = subst (EachNamesBelow n) (sym at.results) (stored_below n m q.results h.results)

-- ---- rows of values

rows_below : (rows : List (List BoundExpr)) → AllByRecursion (EachNamesBelow 0) rows → NamesNoItem rows
rows_below [] h = none 0
rows_below (row ∷ rows) h = All-append (IsNamedBelow 0) (results_read row) (rows_read rows) (each_below 0 row h.0) (rows_below rows h.1)

-- ---- INSERT

nothing_read : (needs : List Need) → ReadsBelow 0 needs → needs ≡ []
nothing_read [] h = refl
nothing_read (x ∷ needs) h = absurd (no x (h 0 x (omega arith)))
  where
    no : (x : Need) → IsNamedBelow 0 x → ⊥
    no (need.Rows c) lt = absurd (omega (arith, lt))
    no (need.Open c) lt = lt
    no (need.Table c) lt = lt
    no (need.Sorter c) lt = lt

by_recursion : {A : Type 0} (P Q : A → Type 0) → ((a : A) → P a → Q a) → (xs : List A) → AllByRecursion P xs → All Q xs
by_recursion P Q f [] h = All-nil Q
by_recursion P Q f (x ∷ xs) h = All-cons Q x xs (f x h.0) (by_recursion P Q f xs h.1)

row_names : (row : List BoundExpr) → EachNamesBelow 0 row → All (λ (x : BoundExpr). needs_of x ≡ []) row
row_names row h = by_recursion (NamesBelow 0) (λ (x : BoundExpr). needs_of x ≡ []) (λ x named. nothing_read (needs_of x) (reads_below 0 x named)) row h

default_names : (c : PutColumn) → NamesBelowIfThere 0 c.default → default_needs c ≡ []
default_names c h = by c.default refl h
  where
    by : (d : Option BoundExpr) → c.default ≡ d → NamesBelowIfThere 0 d → default_needs c ≡ []
    by None is named = ap needs_within is
    by (Some x) is named = ap needs_within is ∙ nothing_read (needs_of x) (reads_below 0 x named)

the_row : (x : Need) → IsNamedBelow 1 x → x ≡ need.Rows 0
the_row (need.Rows zero) lt = refl
the_row (need.Rows (suc c)) lt = absurd (omega (arith, lt))
the_row (need.Open c) lt = absurd lt
the_row (need.Table c) lt = absurd lt
the_row (need.Sorter c) lt = absurd lt

check_names : (x : BoundExpr) → NamesBelow 1 x → All (λ (r : Need). r ≡ need.Rows 0) (needs_of x)
check_names x named = λ k d lt. the_row _ (reads_below 1 x named k d lt)

insert_names : (b : BoundInsert) → InsertIsWithin b → InsertNames b
insert_names b h = record {
  rows = by_recursion (EachNamesBelow 0) (λ row. All (λ (x : BoundExpr). needs_of x ≡ []) row) row_names b.rows h.rows;
  defaults = by_recursion (λ (c : PutColumn). NamesBelowIfThere 0 c.default) (λ (c : PutColumn). default_needs c ≡ []) default_names b.columns h.defaults;
  checks = by_recursion (NamesBelow 1) (λ (x : BoundExpr). All (λ (r : Need). r ≡ need.Rows 0) (needs_of x)) check_names b.checks h.checks;
}

-- ---- whatever is ready

pub ready_names : (x : Runnable) (r : Ready) → IsBound x (bound_in r) → RunnableIsWithin x → NamesWhatIsThere r
ready_names x (ready.Create n) at h = tt
ready_names x (ready.CreateIndex n) at h = tt
ready_names x (ready.Drop d) at h = tt
ready_names x (ready.DropIndex name) at h = tt
ready_names x ready.Nothing at h = tt
ready_names (Puts p) (ready.Insert b) at h = subst InsertNames (sym at) (insert_names p.insert h)
ready_names (Creates entry) (ready.Insert b) at h = absurd at
ready_names (Drops t) (ready.Insert b) at h = absurd at
ready_names (Indexes i) (ready.Insert b) at h = absurd at
ready_names (Unindexes name) (ready.Insert b) at h = absurd at
ready_names (Queries q) (ready.Insert b) at h = absurd at
ready_names (Shows rows) (ready.Insert b) at h = absurd at
ready_names DoesNothing (ready.Insert b) at h = absurd at
ready_names (Explains how y) (ready.Insert b) at h = absurd at
ready_names (Queries q) (ready.Select b) at h = query_names q b at h
ready_names (Creates entry) (ready.Select b) at h = absurd at
ready_names (Drops t) (ready.Select b) at h = absurd at
ready_names (Indexes i) (ready.Select b) at h = absurd at
ready_names (Unindexes name) (ready.Select b) at h = absurd at
ready_names (Puts p) (ready.Select b) at h = absurd at
ready_names (Shows rows) (ready.Select b) at h = absurd at
ready_names DoesNothing (ready.Select b) at h = absurd at
ready_names (Explains how y) (ready.Select b) at h = absurd at
ready_names (Shows rows) (ready.Values b) at h = subst NamesNoItem (sym at) (rows_below rows h)
ready_names (Creates entry) (ready.Values b) at h = absurd at
ready_names (Drops t) (ready.Values b) at h = absurd at
ready_names (Indexes i) (ready.Values b) at h = absurd at
ready_names (Unindexes name) (ready.Values b) at h = absurd at
ready_names (Puts p) (ready.Values b) at h = absurd at
ready_names (Queries q) (ready.Values b) at h = absurd at
ready_names DoesNothing (ready.Values b) at h = absurd at
ready_names (Explains how y) (ready.Values b) at h = absurd at

-- ---- texts

answer_within : (asked : Asking) (w : World) (before : ℕ) (text : List ℕ) (a : Answer Statement) (x : Runnable) → answer_bound asked w before text a ≡ Ok x → RunnableIsWithin x
answer_within asked w before text (Tree s) x is = (statement_runs asked w.catalog (length w.tables) (body_of text) s x is).within
answer_within asked w before text (Syntax rest) x is = absurd (let bad : Err (cause.Syntax (before + place (length text) rest)) ≡ Ok x = is in cc)
answer_within asked w before text (TooMuch l rest) x is = absurd (let bad : Err (cause.Limit (limit_kind l)) ≡ Ok x = is in cc)

pub text_within : (asked : Asking) (w : World) (text : List ℕ) (x : Runnable) → text_bound asked w text ≡ Ok x → RunnableIsWithin x
text_within asked w text x is =
    let before = start_of (tokens_of text) 0 in answer_within asked w before (drop before text) (answer_of (drop before text)) x is
