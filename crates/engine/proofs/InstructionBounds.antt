-- The programs of statements run within the bound that size and work give.
use Rattle.std.proofs.Common.{◌≡◌, inl, inr, ℕ, suc, ◌+◌, ◌*◌, ◌-◌, ◌≤◌, List, [], ◌∷◌, ◌++◌, ℤ, length, flat_map, map, sum_by, Option, Some, None, Ok, refl, sym, ap, subst, ◌∙◌, arith}
use Rattle.std.specs.List.{AllZip}
use Rattle.std.specs.Option.{option_to_list}
use Rattle.std.proofs.Math.Nat.{mul-le-mul_left}
use Rattle.std.proofs.lemmas.List.{length-map}
use Rattle.std.proofs.lemmas.List.Concat.{flat_map-cons}
use Rattle.std.proofs.lemmas.List.Sums.{sum-map, sum_by-cons}
use Rattle.bind_stmt.proofs.ErasedSizes.{all_nodes-erased}
use Rattle.bind_stmt.specs.Binds.{AreFrom, IsBound, IsJoin, IsQueryAs}
use Rattle.bind_stmt.specs.Small.{AreFew, IsSmall, IsSmallQuery, columns_in, from_size as table_tokens}
use Rattle.bound_ignored.specs.Erased.{Marks, erased}
use Rattle.bound_size.proofs.NodeLaws.{all_nodes-append}
use Rattle.bound_size.specs.Counts.{rows_size}
use Rattle.bound_size.specs.Sizes.{all_nodes, nodes_of}
use Rattle.eng_entry.specs.Entries.{Entries}
use Rattle.eng_value.specs.Environments.{Surroundings}
use Rattle.eng_value.specs.HostMeanings.{HostMeanings}
use Rattle.eng_value.specs.declared.value.Value.{Value}
use Rattle.gen_expr.proofs.Bounds.{some_nodes}
use Rattle.gen_query.proofs.Sizing.{steps-few, values-few}
use Rattle.gen_query.specs.Queries.{alone_turns, conjuncts_of, product_turns, query_steps, turns, turns_over, values_steps}
use Rattle.plan_tree.specs.Plans.{all_conjuncts, join_conjuncts}
use Rattle.gen_write.proofs.Sizing.{steps-few as puts_few}
use Rattle.gen_write.specs.Writes.{default_nodes, nodes_within, put_steps, row_bound, turns_of}
use Rattle.sql_lex.specs.Tokens.{tokens_of}
use Rattle.sql_tree.specs.declared.statement.Explain.{Explain}
use Rattle.bound_tree.specs.Exprs.{BoundExpr}
use Rattle.sql_meaning.specs.declared.bound.BoundInsert.{BoundInsert}
use Rattle.sql_meaning.specs.declared.bound.BoundSelect.{BoundSelect}
use Rattle.sql_meaning.specs.declared.bound.FromTable.{FromTable}
use Rattle.sql_meaning.specs.declared.bound.Join.{Join}
use Rattle.sql_meaning.specs.declared.bound.Join.TheVariants.{Inner, Left}
use Rattle.sql_meaning.specs.declared.bound.PutColumn.{PutColumn}
use Rattle.sql_meaning.specs.declared.column.Column.{Column}
use Rattle.sql_meaning.proofs.ConstraintLaws.{IsSpelled, text-spelled}
use Rattle.sql_meaning.proofs.DoneLaws.{given_each}
use Rattle.sql_meaning.proofs.StoringLaws.{IsInto, StoresAs}
use Rattle.sql_meaning.proofs.ValidLaws.{FitsIn, text-fits}
use Rattle.sql_meaning.specs.Declarations.{tables_of}
use Rattle.sql_meaning.specs.Valid.{IsWorld}
use Rattle.sql_meaning.specs.Runnables.{Runnable, Creates, DoesNothing, Drops, Explains, FromItem, Indexes, Put, Puts, Queries, Query, Shows, Unindexes}
use Rattle.sql_meaning.specs.Permits.{Asking}
use Rattle.sql_meaning.specs.Searches.{marks_in, rows_counted}
use Rattle.sql_meaning.specs.Statement.{Item, causes_of, given_of, item_rows, refusal_of, source_of, text_bound}
use Rattle.sql_meaning.specs.Work.{alone_work, bound_where, bound_within, from_size, from_work, ons_of, opened_size, product_work, size_of, source_work, tested_in, texts_size, work_of}
use Rattle.sql_meaning.specs.World.{Context, context, rows_at}
use Rattle.vm_code.specs.Machine.{World as Lists}
use Rattle.engine.specs.Held.{state_of, world_in}
use Rattle.engine.specs.Outcomes.{steps_behind, steps_in, surroundings_in}
use Rattle.engine.specs.Prepared.{behind, bound_in}
use Rattle.engine.specs.declared.preparing.Ready.{Ready}
use Rattle.engine.specs.declared.preparing.Ready.TheVariants as ready
use Rattle.engine.proofs.Bridges.{BadSides, bad_sides}
use Rattle.engine.proofs.NoTokens.{has_tokens}

-- ---- numbers

-- what the size allows alone, the work allows
within_size : (a n opens more work : ℕ) → a ≤ 256 * (n + more) → a ≤ 256 * (n + opens + more) * (work + 1)
within_size a n opens more work le =
    let m = 256 * (n + opens + more) in
    let all : m * (work + 1) ≡ m * work + m = omega arith in
    omega (arith, le, all)

-- so much for each turn
within_rows : (each size turns work : ℕ) → turns ≡ work → each + 16 ≤ 256 * size → 16 + turns * each ≤ 256 * size * (work + 1)
within_rows each size turns work is le =
    let m = 256 * size in
    let few : each ≤ m = omega (arith, le) in
    let times : turns * each ≤ turns * m = mul-le-mul_left turns few in
    let all : m * (turns + 1) ≡ turns * m + m = omega arith in
    subst (λ n. 16 + turns * each ≤ m * (n + 1)) is (omega (arith, le, times, all))

-- what one turn takes, where the statement has so many tokens and tables add so much
each_few : (from : List FromItem) (tokens opened more shown filter stars tests results : ℕ) → 1 + shown + table_tokens from + filter ≤ tokens → stars ≤ 100 → stars ≤ 100 * columns_in from → columns_in from ≤ opened
    → tests ≤ 16 * (tokens + opened) + more → results ≤ 2 * shown + stars → 6 * tests + 4 * results + 11 * length from + 9 + 16 ≤ 256 * (tokens + opened + more)
each_few [] tokens opened more shown filter stars tests results within hundred narrow wide few shows = omega (arith, within, hundred, narrow, wide, few, shows)
each_few (i ∷ from) tokens opened more shown filter stars tests results within hundred narrow wide few shows = omega (arith, within, hundred, narrow, wide, few, shows)

-- what there is beyond so much
within_beyond : (a n : ℕ) → a ≤ n + (a - n)
within_beyond a n = omega arith

rows_nodes : (rows : List (List BoundExpr)) → rows_size rows ≡ length rows + sum_by all_nodes rows
rows_nodes [] = omega arith
rows_nodes (row ∷ rows) = omega (arith, rows_nodes rows, sum_by-cons all_nodes row rows)

-- the nodes of defaults, as the program counts them and as the size does
defaults_nodes : (columns : List PutColumn) → sum_by default_nodes columns ≡ all_nodes (flat_map (λ (c : PutColumn). option_to_list c.default) columns)
defaults_nodes [] = refl
defaults_nodes (c ∷ columns) = sum_by-cons default_nodes c columns ∙ by c.default (defaults_nodes columns)
  where
    plain : (n : ℕ) → n ≡ 0 + n
    plain n = omega arith

    rest : List BoundExpr
    rest = flat_map (λ (d : PutColumn). option_to_list d.default) columns

    by : (o : Option BoundExpr) → sum_by default_nodes columns ≡ all_nodes rest → nodes_within o + sum_by default_nodes columns ≡ all_nodes (option_to_list o ++ rest)
    by None same = subst (λ n. n ≡ all_nodes rest) (plain (sum_by default_nodes columns)) same
    by (Some x) same = omega (arith, same, all_nodes-append (x ∷ []) rest)

checks_few : (checks : List BoundExpr) → length checks ≤ all_nodes checks
checks_few [] = omega arith
checks_few (x ∷ checks) = omega (arith, checks_few checks, some_nodes x)

-- a table's columns are as many as take something
widths : (columns : List Column) (puts : List PutColumn) → AllZip StoresAs columns puts → length columns ≡ length puts
widths [] [] same = refl
widths [] (p ∷ puts) same = absurd same
widths (c ∷ columns) [] same = absurd same
widths (c ∷ columns) (p ∷ puts) same = ap suc (widths columns puts same.1)

-- a source without a bad row is taken whole, and of another one no row is
turns_same : (items : List Item) → source_work (causes_of items) (given_of items) ≡ turns_of (refusal_of items) (length items)
turns_same items = by (bad_sides items)
  where
    by : BadSides items → source_work (causes_of items) (given_of items) ≡ turns_of (refusal_of items) (length items)
    by (inl none) = rw (none.0, none.1) (given_each items none.1)
    by (inr bad) = rw (bad.2, bad.3) refl

-- so much for each row that is taken
within_turns : (a each turns n opens work : ℕ) → work ≡ turns → a ≤ 256 * (n + opens + 0) → each ≤ 256 * (n + opens + 0) → a + turns * each ≤ 256 * (n + opens + 0) * (1 + work + 1)
within_turns a each turns n opens work is le few =
    let m = 256 * (n + opens + 0) in
    let times : turns * each ≤ turns * m = mul-le-mul_left turns few in
    let all : m * (1 + turns + 1) ≡ turns * m + 2 * m = omega arith in
    rw is (omega (arith, le, times, all))

module _ (asked : Asking) (hosts : HostMeanings) (entries : Entries) (lists : Lists) (changes : ℕ) (last : ℤ) (params : List Value) (text : List ℕ) (valid : IsWorld (world_in entries lists)) where
  abbrev ctx : Context
  ctx = context hosts (state_of entries lists changes last) params

  abbrev around : Surroundings
  around = surroundings_in hosts params lists

  abbrev tokens : ℕ
  tokens = length (tokens_of text)

  -- ---- a query

  -- the conjuncts of an ON over rows that are stored have as many nodes
  join_nodes : (m : Marks) (meant made : Join) → IsJoin m meant made → all_nodes (join_conjuncts made) ≡ all_nodes (ons_of meant)
  join_nodes m Inner Inner at = refl
  join_nodes m (Left ons) (Left made) at = ap all_nodes at ∙ all_nodes-erased m ons
  join_nodes m Inner (Left made) at = absurd at
  join_nodes m (Left ons) Inner at = absurd at

  ons_nodes : (m : Marks) (from : List FromItem) (read : List FromTable) → AreFrom m from read
      → all_nodes (flat_map (λ (f : FromTable). join_conjuncts f.join) read) ≡ all_nodes (flat_map (λ (i : FromItem). ons_of i.join) from)
  ons_nodes m [] [] at = refl
  ons_nodes m (i ∷ from) (f ∷ read) at =
      let ons : FromItem → List BoundExpr = λ (i : FromItem). ons_of i.join in
      let made : FromTable → List BoundExpr = λ (f : FromTable). join_conjuncts f.join in
      let item = at.0 in
      ap all_nodes (flat_map-cons made f read) ∙ all_nodes-append (made f) (flat_map made read)
      ∙ ap (λ n. n + all_nodes (flat_map made read)) (join_nodes m i.join f.join item.join) ∙ ap (λ n. all_nodes (ons i) + n) (ons_nodes m from read at.1)
      ∙ sym (ap all_nodes (flat_map-cons ons i from) ∙ all_nodes-append (ons i) (flat_map ons from))
  ons_nodes m [] (f ∷ read) at = absurd at
  ons_nodes m (i ∷ from) [] at = absurd at

  -- and so have all of a query
  tests_nodes : (q : Query) (b : BoundSelect) → IsQueryAs q b → all_nodes (all_conjuncts b.from (conjuncts_of b)) ≡ all_nodes (tested_in q)
  tests_nodes q b at =
      let ons : List BoundExpr = flat_map (λ (i : FromItem). ons_of i.join) q.from in
      let made : List BoundExpr = flat_map (λ (f : FromTable). join_conjuncts f.join) b.from in
      all_nodes-append (conjuncts_of b) made
      ∙ ap (λ n. n + all_nodes made) (ap all_nodes at.conjuncts ∙ all_nodes-erased (marks_in q.from) q.conjuncts)
      ∙ ap (λ n. all_nodes q.conjuncts + n) (ons_nodes (marks_in q.from) q.from b.from at.from)
      ∙ sym (all_nodes-append q.conjuncts ons)

  -- the columns of the tables count among what they add
  columns_few : (from : List FromItem) → columns_in from ≤ from_size entries from
  columns_few [] = omega arith
  columns_few (i ∷ from) =
      let adds : FromItem → ℕ = λ (x : FromItem). texts_size entries x.table + x.width in
      let wide : columns_in (i ∷ from) ≡ i.width + columns_in from = refl in
      let all : from_size entries (i ∷ from) ≡ texts_size entries i.table + i.width + from_size entries from =
      sum-map adds (i ∷ from) ∙ sum_by-cons adds i from ∙ ap (λ n. adds i + n) (sym (sum-map adds from)) in
      omega (arith, columns_few from, wide, all)

  same_count : (m : Marks) (from : List FromItem) (read : List FromTable) → AreFrom m from read → length read ≡ length from
  same_count m [] [] at = refl
  same_count m (i ∷ from) (f ∷ read) at = ap suc (same_count m from read at.1)
  same_count m [] (f ∷ read) at = absurd at
  same_count m (i ∷ from) [] at = absurd at

  -- a FROM has as many turns as it has work
  product_same : (m : Marks) (from : List FromItem) (read : List FromTable) → AreFrom m from read → product_turns around read ≡ product_work ctx from
  product_same m [] [] at = refl
  product_same m (i ∷ from) (f ∷ read) at =
      let item = at.0 in
      let rows : length (rows_at lists f.table) ≡ length (item_rows ctx i) = ap (λ t. length (rows_at lists t)) item.table ∙ sym (length-map (rows_at lists i.table.number) _) in
      ap (λ n. (1 + n) * product_turns around read) rows ∙ ap (λ n. (1 + length (item_rows ctx i)) * n) (product_same m from read at.1)
  product_same m [] (f ∷ read) at = absurd at
  product_same m (i ∷ from) [] at = absurd at

  alone_same : (q : Query) (tests : List BoundExpr) (i : FromItem) (f : FromTable) (meant made : Join) → tests ≡ map (erased (marks_in (i ∷ []))) q.conjuncts → AreFrom (marks_in (i ∷ [])) (i ∷ []) (f ∷ []) → IsJoin (marks_in (i ∷ [])) meant made
      → alone_turns f made tests around ≡ alone_work ctx q.conjuncts i meant
  alone_same q tests i f Inner Inner are at join =
      let item = at.0 in
      let rows = rows_at lists i.table.number in
      ap (λ n. 1 + n) (ap (λ t. rows_counted around f.indexes tests (rows_at lists t)) item.table ∙ ap (λ xs. rows_counted around xs tests rows) item.indexes ∙ ap (λ es. rows_counted around i.indexes es rows) are)
  alone_same q tests i f (Left ons) (Left made) are at join = product_same (marks_in (i ∷ [])) (i ∷ []) (f ∷ []) at
  alone_same q tests i f Inner (Left made) are at join = absurd join
  alone_same q tests i f (Left ons) Inner are at join = absurd join

  turns_are : (q : Query) (tests : List BoundExpr) (from : List FromItem) (read : List FromTable) → tests ≡ map (erased (marks_in from)) q.conjuncts → AreFrom (marks_in from) from read → turns_over read tests around ≡ from_work ctx q.conjuncts from
  turns_are q tests [] [] are at = refl
  turns_are q tests (i ∷ []) (f ∷ []) are at = let item = at.0 in alone_same q tests i f i.join f.join are at item.join
  turns_are q tests (i ∷ j ∷ from) (f ∷ g ∷ read) are at = product_same (marks_in (i ∷ j ∷ from)) (i ∷ j ∷ from) (f ∷ g ∷ read) at
  turns_are q tests [] (f ∷ read) are at = absurd at
  turns_are q tests (i ∷ from) [] are at = absurd at
  turns_are q tests (i ∷ []) (f ∷ g ∷ read) are at = absurd at.1
  turns_are q tests (i ∷ j ∷ from) (f ∷ []) are at = absurd at.1

  query_few : (q : Query) (b : BoundSelect) → IsQueryAs q b → IsSmallQuery tokens q
      → query_steps b around ≤ 256 * size_of entries tokens (Queries q) * (from_work ctx q.conjuncts q.from + 1)
  query_few q b at small =
      let opened = from_size entries q.from in
      let nodes = all_nodes (tested_in q) in
      let more = nodes - 16 * (tokens + opened) in
      let shows : all_nodes b.results ≤ 2 * small.shown + small.stars = subst (λ n. n ≤ 2 * small.shown + small.stars) (sym (ap all_nodes at.results ∙ all_nodes-erased (marks_in q.from) q.results)) small.results in
      let tests : all_nodes (all_conjuncts b.from (conjuncts_of b)) ≤ 16 * (tokens + opened) + more = omega (arith, tests_nodes q b at, within_beyond nodes (16 * (tokens + opened))) in
      let each = 6 * all_nodes (all_conjuncts b.from (conjuncts_of b)) + 4 * all_nodes b.results + 11 * length b.from + 9 in
      let few : each + 16 ≤ 256 * (tokens + opened + more) =
      subst (λ n. 6 * all_nodes (all_conjuncts b.from (conjuncts_of b)) + 4 * all_nodes b.results + 11 * n + 9 + 16 ≤ 256 * (tokens + opened + more)) (sym (same_count (marks_in q.from) q.from b.from at.from))
      (each_few q.from tokens opened more small.shown small.filter small.stars (all_nodes (all_conjuncts b.from (conjuncts_of b))) (all_nodes b.results) small.within small.hundred small.of_table (columns_few q.from) tests shows) in
      let turned : turns b around ≡ from_work ctx q.conjuncts q.from = turns_are q (conjuncts_of b) q.from b.from at.conjuncts at.from in
      omega (arith, steps-few b around, within_rows each (tokens + opened + more) (turns b around) (from_work ctx q.conjuncts q.from) turned few)

  -- ---- an INSERT

  put_few : (p : Put) → IsInto p.table p.insert → IsSpelled (Puts p) → AreFew tokens p.insert.rows
      → put_steps p.insert around ≤ 256 * (tokens + opened_size entries (Puts p) + 0) * (1 + source_work (causes_of (source_of ctx p)) (given_of (source_of ctx p)) + 1)
  put_few p into spelled few =
      let b = p.insert in
      let items = source_of ctx p in
      let each : row_bound b ≤ 256 * (tokens + opened_size entries (Puts p) + 0) = omega (arith, defaults_nodes b.columns, checks_few b.checks, widths p.table.columns b.columns into.columns, spelled, few.nodes) in
      let read : 3 * sum_by all_nodes b.rows + 3 * length b.rows + 4 ≤ 256 * (tokens + opened_size entries (Puts p) + 0) = omega (arith, rows_nodes b.rows, few.nodes) in
      let same : source_work (causes_of items) (given_of items) ≡ turns_of (refusal_of items) (length b.rows) = turns_same items ∙ ap (turns_of (refusal_of items)) (length-map b.rows _) in
      let steps : put_steps b around ≤ 3 * sum_by all_nodes b.rows + 3 * length b.rows + turns_of (refusal_of items) (length b.rows) * row_bound b + 4 = puts_few b around in
      omega (arith, steps, within_turns (3 * sum_by all_nodes b.rows + 3 * length b.rows + 4) (row_bound b) (turns_of (refusal_of items) (length b.rows)) tokens (opened_size entries (Puts p)) (source_work (causes_of items) (given_of items)) same read each)

  -- ---- any statement

  few_for : (x : Runnable) (r : Ready) → 1 ≤ tokens → FitsIn entries (length lists) x → IsSpelled x → IsBound x (bound_in r) → IsSmall tokens x → steps_in around r ≤ 256 * size_of entries tokens x * (work_of ctx x + 1)
  few_for (Creates e) (ready.Create n) some fits spelled at small = within_size 2 tokens 0 0 0 (omega (arith, small))
  few_for (Creates e) (ready.Drop d) some fits spelled at small = absurd at
  few_for (Creates e) (ready.CreateIndex n) some fits spelled at small = absurd at
  few_for (Creates e) (ready.DropIndex n) some fits spelled at small = absurd at
  few_for (Creates e) (ready.Insert b) some fits spelled at small = absurd at
  few_for (Creates e) (ready.Select b) some fits spelled at small = absurd at
  few_for (Creates e) (ready.Values b) some fits spelled at small = absurd at
  few_for (Creates e) ready.Nothing some fits spelled at small = absurd at
  few_for (Drops t) (ready.Create n) some fits spelled at small = absurd at
  few_for (Drops t) (ready.Drop d) some fits spelled at small = within_size 2 tokens 0 0 0 (omega (arith, small))
  few_for (Drops t) (ready.CreateIndex n) some fits spelled at small = absurd at
  few_for (Drops t) (ready.DropIndex n) some fits spelled at small = absurd at
  few_for (Drops t) (ready.Insert b) some fits spelled at small = absurd at
  few_for (Drops t) (ready.Select b) some fits spelled at small = absurd at
  few_for (Drops t) (ready.Values b) some fits spelled at small = absurd at
  few_for (Drops t) ready.Nothing some fits spelled at small = absurd at
  few_for (Indexes i) (ready.Create n) some fits spelled at small = absurd at
  few_for (Indexes i) (ready.Drop d) some fits spelled at small = absurd at
  few_for (Indexes i) (ready.CreateIndex n) some fits spelled at small = within_size 4 tokens 0 0 (work_of ctx (Indexes i)) (omega (arith, small))
  few_for (Indexes i) (ready.DropIndex n) some fits spelled at small = absurd at
  few_for (Indexes i) (ready.Insert b) some fits spelled at small = absurd at
  few_for (Indexes i) (ready.Select b) some fits spelled at small = absurd at
  few_for (Indexes i) (ready.Values b) some fits spelled at small = absurd at
  few_for (Indexes i) ready.Nothing some fits spelled at small = absurd at
  few_for (Unindexes name) (ready.Create n) some fits spelled at small = absurd at
  few_for (Unindexes name) (ready.Drop d) some fits spelled at small = absurd at
  few_for (Unindexes name) (ready.CreateIndex n) some fits spelled at small = absurd at
  few_for (Unindexes name) (ready.DropIndex n) some fits spelled at small = within_size 1 tokens 0 0 0 (omega (arith, small))
  few_for (Unindexes name) (ready.Insert b) some fits spelled at small = absurd at
  few_for (Unindexes name) (ready.Select b) some fits spelled at small = absurd at
  few_for (Unindexes name) (ready.Values b) some fits spelled at small = absurd at
  few_for (Unindexes name) ready.Nothing some fits spelled at small = absurd at
  few_for (Puts p) (ready.Create n) some fits spelled at small = absurd at
  few_for (Puts p) (ready.Drop d) some fits spelled at small = absurd at
  few_for (Puts p) (ready.CreateIndex n) some fits spelled at small = absurd at
  few_for (Puts p) (ready.DropIndex n) some fits spelled at small = absurd at
  few_for (Puts p) (ready.Insert b) some fits spelled at small =
      subst (λ (c : BoundInsert). put_steps c around ≤ 256 * (tokens + opened_size entries (Puts p) + 0) * (work_of ctx (Puts p) + 1)) (sym at) (put_few p fits.into spelled small)
  few_for (Puts p) (ready.Select b) some fits spelled at small = absurd at
  few_for (Puts p) (ready.Values b) some fits spelled at small = absurd at
  few_for (Puts p) ready.Nothing some fits spelled at small = absurd at
  few_for (Queries q) (ready.Create n) some fits spelled at small = absurd at
  few_for (Queries q) (ready.Drop d) some fits spelled at small = absurd at
  few_for (Queries q) (ready.CreateIndex n) some fits spelled at small = absurd at
  few_for (Queries q) (ready.DropIndex n) some fits spelled at small = absurd at
  few_for (Queries q) (ready.Insert b) some fits spelled at small = absurd at
  few_for (Queries q) (ready.Select b) some fits spelled at small = query_few q b at small
  few_for (Queries q) (ready.Values b) some fits spelled at small = absurd at
  few_for (Queries q) ready.Nothing some fits spelled at small = absurd at
  few_for (Shows rows) (ready.Create n) some fits spelled at small = absurd at
  few_for (Shows rows) (ready.Drop d) some fits spelled at small = absurd at
  few_for (Shows rows) (ready.CreateIndex n) some fits spelled at small = absurd at
  few_for (Shows rows) (ready.DropIndex n) some fits spelled at small = absurd at
  few_for (Shows rows) (ready.Insert b) some fits spelled at small = absurd at
  few_for (Shows rows) (ready.Select b) some fits spelled at small = absurd at
  few_for (Shows rows) (ready.Values b) some fits spelled at small =
      let few : rows_size b ≤ 2 * tokens = subst (λ r. rows_size r ≤ 2 * tokens) (sym at) small in
      within_size (values_steps b around) tokens 0 0 1 (omega (arith, values-few b around, rows_nodes b, few, some))
  few_for (Shows rows) ready.Nothing some fits spelled at small = absurd at
  few_for DoesNothing (ready.Create n) some fits spelled at small = absurd at
  few_for DoesNothing (ready.Drop d) some fits spelled at small = absurd at
  few_for DoesNothing (ready.CreateIndex n) some fits spelled at small = absurd at
  few_for DoesNothing (ready.DropIndex n) some fits spelled at small = absurd at
  few_for DoesNothing (ready.Insert b) some fits spelled at small = absurd at
  few_for DoesNothing (ready.Select b) some fits spelled at small = absurd at
  few_for DoesNothing (ready.Values b) some fits spelled at small = absurd at
  few_for DoesNothing ready.Nothing some fits spelled at small = within_size 1 tokens 0 0 0 (omega (arith, small))
  few_for (Explains how y) (ready.Create n) some fits spelled at small = absurd at
  few_for (Explains how y) (ready.Drop d) some fits spelled at small = absurd at
  few_for (Explains how y) (ready.CreateIndex n) some fits spelled at small = absurd at
  few_for (Explains how y) (ready.DropIndex n) some fits spelled at small = absurd at
  few_for (Explains how y) (ready.Insert b) some fits spelled at small = absurd at
  few_for (Explains how y) (ready.Select b) some fits spelled at small = absurd at
  few_for (Explains how y) (ready.Values b) some fits spelled at small = absurd at
  few_for (Explains how y) ready.Nothing some fits spelled at small = absurd at

  -- what is ready runs within what its text may run; what is shown doesn't run
  pub runs_within : (how : Option Explain) (x : Runnable) (r : Ready) → text_bound asked (world_in entries lists) text ≡ Ok (behind how x) → IsBound x (bound_in r) → IsSmall tokens x → steps_behind how (steps_in around r) ≤ bound_where asked ctx text
  runs_within None x r is at small = rw (ap (bound_within ctx tokens) is) (few_for x r (has_tokens asked (world_in entries lists) text x is) (text-fits asked (world_in entries lists) text x is) (text-spelled asked (world_in entries lists) text x valid is) at small)
  runs_within (Some how) x r is at small = omega arith
