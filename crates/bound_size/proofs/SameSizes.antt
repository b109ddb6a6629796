-- What is the same is as large: so what is asked twice, which is one unit, is small wherever it is asked.
use Rattle.std.proofs.Common.{◌≡◌, ℕ, ◌+◌, Bool, true, ◌&&◌, nat_eq, List, [], ◌∷◌, length, map, refl, sym, ap, ◌∙◌, arith}
use Rattle.std.specs.List.{flat_map}
use denote.Enum.Bare.{sameb}
use Rattle.eng_entry.specs.Names.{is_same_name}
use Rattle.eng_value.specs.contracts.modules.ColumnKind as column_kind
use Rattle.sql_tree.specs.Layers.{PartLayer, SelectLayer, of_select}
use Rattle.sql_tree.specs.Sizes.{total}
use Rattle.sql_tree.specs.declared.expr.Expr.TheOpen.{QueryPart-F}
use Rattle.bound_tree.specs.Exprs as e
use Rattle.bound_tree.specs.Exprs.{AMatch, AnArm, AnExpr, BoundArms, BoundExpr, BoundExprs, BoundMatches, NoArms, NoExprs, NoMatches}
use Rattle.bound_tree.specs.Same.{all_same, both_same, same_arms, same_binary, same_builtin, same_collation, same_expr, same_exprs, same_list, same_matches, same_sides, same_truth, same_unary}
use Rattle.bound_tree.specs.SameUnits.{same_column, same_compound, same_core, same_groups, same_index, same_item, same_join, same_part, same_query, same_source, same_term, same_unit, same_within}
use Rattle.bound_tree.specs.declared.units.BoundCore.{BoundCore}
use Rattle.bound_tree.specs.declared.units.BoundItem.{BoundItem}
use Rattle.bound_tree.specs.declared.units.BoundPart.TheVariants as bound_part
use Rattle.bound_tree.specs.declared.units.BoundPart.{BoundPart}
use Rattle.bound_tree.specs.declared.units.BoundQuery.{BoundQuery}
use Rattle.bound_tree.specs.declared.units.BoundUnit.TheVariants.{Queried, Recursed}
use Rattle.bound_tree.specs.declared.units.BoundUnit.{BoundUnit}
use Rattle.bound_tree.specs.Conditions.{conditions_of}
use Rattle.bound_size.specs.Counts.{row_size}
use Rattle.bound_size.specs.Sizes.{all_nodes, nodes_in, nodes_in_arms, nodes_in_matches, nodes_of}
use Rattle.bound_size.specs.Small.{AreFewRows, AreFewShown, IsSmallCore, IsSmallPart, columns_in, from_size}
use Rattle.bound_size.proofs.BoundLaws.{both_hold, three_hold}
use Rattle.bound_size.proofs.NodeLaws.{all_nodes-append}

-- ---- expressions

mutual
  pub nodes_same : (x y : BoundExpr) → same_expr x y ≡ true → nodes_of x ≡ nodes_of y
  nodes_same (e.Literal a) (e.Literal b) h = refl
  nodes_same (e.Parameter m) (e.Parameter n) h = refl
  nodes_same (e.Column i c) (e.Column j d) h = refl
  nodes_same (e.Rowid i) (e.Rowid j) h = refl
  nodes_same (e.Argument m) (e.Argument n) h = refl
  nodes_same (e.Aggregate m) (e.Aggregate n) h = refl
  nodes_same (e.Unary o a) (e.Unary p x) h = let k = both_hold (same_unary o p) (same_expr a x) h in omega (arith, nodes_same a x k.1)
  nodes_same (e.Binary o a b) (e.Binary p x y) h =
      let k = three_hold (same_binary o p) (same_expr a x) (same_expr b y) h in omega (arith, nodes_same a x k.1, nodes_same b y k.2)
  nodes_same (e.LikeEscaped a b c) (e.LikeEscaped x y z) h =
      let k = three_hold (same_expr a x) (same_expr b y) (same_expr c z) h in omega (arith, nodes_same a x k.0, nodes_same b y k.1, nodes_same c z k.2)
  nodes_same (e.Between s t a b c) (e.Between u v x y z) h =
      let k = three_hold (same_sides s u && same_sides t v && same_expr a x) (same_expr b y) (same_expr c z) h in
      let l = three_hold (same_sides s u) (same_sides t v) (same_expr a x) k.0 in
      omega (arith, nodes_same a x l.2, nodes_same b y k.1, nodes_same c z k.2)
  nodes_same (e.InList s a more) (e.InList t x others) h =
      let k = three_hold (same_sides s t) (same_expr a x) (same_list more others) h in omega (arith, nodes_same a x k.1, list_same more others k.2)
  nodes_same (e.ChooseArm arms a) (e.ChooseArm others x) h =
      let k = both_hold (same_arms arms others) (same_expr a x) h in omega (arith, arms_same arms others k.0, nodes_same a x k.1)
  nodes_same (e.MatchArm a arms b) (e.MatchArm x others y) h =
      let k = three_hold (same_expr a x) (same_matches arms others) (same_expr b y) h in omega (arith, nodes_same a x k.0, matches_same arms others k.1, nodes_same b y k.2)
  nodes_same (e.Iif a b c) (e.Iif x y z) h =
      let k = three_hold (same_expr a x) (same_expr b y) (same_expr c z) h in omega (arith, nodes_same a x k.0, nodes_same b y k.1, nodes_same c z k.2)
  nodes_same (e.CoalesceList f more) (e.CoalesceList g others) h = let k = both_hold (same_builtin f g) (same_list more others) h in omega (arith, list_same more others k.1)
  nodes_same (e.CallBuiltin f s more) (e.CallBuiltin g t others) h =
      let k = three_hold (same_builtin f g) (same_collation s t) (same_list more others) h in omega (arith, list_same more others k.2)
  nodes_same (e.CallHost f more) (e.CallHost g others) h = let k = both_hold (is_same_name f g) (same_list more others) h in omega (arith, list_same more others k.1)
  nodes_same (e.ScalarOf m more) (e.ScalarOf n others) h = let k = both_hold (nat_eq m n) (same_list more others) h in omega (arith, list_same more others k.1)
  nodes_same (e.ExistsIn m more) (e.ExistsIn n others) h = let k = both_hold (nat_eq m n) (same_list more others) h in omega (arith, list_same more others k.1)
  nodes_same (e.InUnit s a m more) (e.InUnit t x n others) h =
      let k = three_hold (same_sides s t && same_expr a x) (nat_eq m n) (same_list more others) h in
      let l = both_hold (same_sides s t) (same_expr a x) k.0 in
      omega (arith, nodes_same a x l.1, list_same more others k.2)
  nodes_same e.RaiseIgnore e.RaiseIgnore h = refl
  nodes_same (e.RaiseAbort a) (e.RaiseAbort b) h = refl
  nodes_same x y h = cc

  list_same : (xs ys : BoundExprs) → same_list xs ys ≡ true → nodes_in xs ≡ nodes_in ys
  list_same NoExprs NoExprs h = refl
  list_same (AnExpr a more) (AnExpr x others) h = let k = both_hold (same_expr a x) (same_list more others) h in omega (arith, nodes_same a x k.0, list_same more others k.1)
  list_same xs ys h = cc

  arms_same : (xs ys : BoundArms) → same_arms xs ys ≡ true → nodes_in_arms xs ≡ nodes_in_arms ys
  arms_same NoArms NoArms h = refl
  arms_same (AnArm a b more) (AnArm x y others) h =
      let k = three_hold (same_expr a x) (same_expr b y) (same_arms more others) h in omega (arith, nodes_same a x k.0, nodes_same b y k.1, arms_same more others k.2)
  arms_same xs ys h = cc

  matches_same : (xs ys : BoundMatches) → same_matches xs ys ≡ true → nodes_in_matches xs ≡ nodes_in_matches ys
  matches_same NoMatches NoMatches h = refl
  matches_same (AMatch s a b more) (AMatch t x y others) h =
      let k = three_hold (same_sides s t && same_expr a x) (same_expr b y) (same_matches more others) h in
      let l = both_hold (same_sides s t) (same_expr a x) k.0 in
      omega (arith, nodes_same a x l.1, nodes_same b y k.1, matches_same more others k.2)
  matches_same xs ys h = cc

one_test : (x y : BoundExpr) → same_expr x y ≡ true → all_nodes (x ∷ []) ≡ all_nodes (y ∷ [])
one_test x y h = omega (arith, nodes_same x y h)

test_same : (x y : BoundExpr) → same_expr x y ≡ true → all_nodes (conditions_of x) ≡ all_nodes (conditions_of y)
test_same (e.Between s t a b c) (e.Between u v x y z) h =
    let k = three_hold (same_sides s u && same_sides t v && same_expr a x) (same_expr b y) (same_expr c z) h in
    let l = three_hold (same_sides s u) (same_sides t v) (same_expr a x) k.0 in
    omega (arith, nodes_same a x l.2, nodes_same b y k.1, nodes_same c z k.2)
test_same (e.Literal a) (e.Literal b) h = one_test (e.Literal a) (e.Literal b) h
test_same (e.Parameter m) (e.Parameter n) h = one_test (e.Parameter m) (e.Parameter n) h
test_same (e.Column i c) (e.Column j d) h = one_test (e.Column i c) (e.Column j d) h
test_same (e.Rowid i) (e.Rowid j) h = one_test (e.Rowid i) (e.Rowid j) h
test_same (e.Argument m) (e.Argument n) h = one_test (e.Argument m) (e.Argument n) h
test_same (e.Aggregate m) (e.Aggregate n) h = one_test (e.Aggregate m) (e.Aggregate n) h
test_same (e.Unary o a) (e.Unary p x) h = one_test (e.Unary o a) (e.Unary p x) h
test_same (e.Binary o a b) (e.Binary p x y) h = one_test (e.Binary o a b) (e.Binary p x y) h
test_same (e.LikeEscaped a b c) (e.LikeEscaped x y z) h = one_test (e.LikeEscaped a b c) (e.LikeEscaped x y z) h
test_same (e.InList s a more) (e.InList t x others) h = one_test (e.InList s a more) (e.InList t x others) h
test_same (e.ChooseArm arms a) (e.ChooseArm others x) h = one_test (e.ChooseArm arms a) (e.ChooseArm others x) h
test_same (e.MatchArm a arms b) (e.MatchArm x others y) h = one_test (e.MatchArm a arms b) (e.MatchArm x others y) h
test_same (e.Iif a b c) (e.Iif x y z) h = one_test (e.Iif a b c) (e.Iif x y z) h
test_same (e.CoalesceList f more) (e.CoalesceList g others) h = one_test (e.CoalesceList f more) (e.CoalesceList g others) h
test_same (e.CallBuiltin f s more) (e.CallBuiltin g t others) h = one_test (e.CallBuiltin f s more) (e.CallBuiltin g t others) h
test_same (e.CallHost f more) (e.CallHost g others) h = one_test (e.CallHost f more) (e.CallHost g others) h
test_same (e.ScalarOf m more) (e.ScalarOf n others) h = one_test (e.ScalarOf m more) (e.ScalarOf n others) h
test_same (e.ExistsIn m more) (e.ExistsIn n others) h = one_test (e.ExistsIn m more) (e.ExistsIn n others) h
test_same (e.InUnit s a m more) (e.InUnit t x n others) h = one_test (e.InUnit s a m more) (e.InUnit t x n others) h
test_same e.RaiseIgnore e.RaiseIgnore h = refl
test_same (e.RaiseAbort a) (e.RaiseAbort b) h = refl
test_same x y h = cc

-- ---- lists

all_same_length : {A B : Type 0} (same : A → B → Bool) (xs : List A) (ys : List B) → all_same same xs ys ≡ true → length xs ≡ length ys
all_same_length same [] [] h = refl
all_same_length same (x ∷ xs) (y ∷ ys) h = let k = both_hold (same x y) (all_same same xs ys) h in omega (arith, all_same_length same xs ys k.1)
all_same_length same [] (y ∷ ys) h = cc
all_same_length same (x ∷ xs) [] h = cc

-- the sums of what is the same for each
sums_same : {A : Type 0} (same : A → A → Bool) (f : A → ℕ) → ((x y : A) → same x y ≡ true → f x ≡ f y) → (xs ys : List A) → all_same same xs ys ≡ true → total (map f xs) ≡ total (map f ys)
sums_same same f each [] [] h = refl
sums_same same f each (x ∷ xs) (y ∷ ys) h = let k = both_hold (same x y) (all_same same xs ys) h in omega (arith, each x y k.0, sums_same same f each xs ys k.1)
sums_same same f each [] (y ∷ ys) h = cc
sums_same same f each (x ∷ xs) [] h = cc

exprs_same : (xs ys : List BoundExpr) → same_exprs xs ys ≡ true → all_nodes xs ≡ all_nodes ys
exprs_same xs ys h = sums_same same_expr nodes_of nodes_same xs ys h

tests_sum : (xs : List BoundExpr) → all_nodes (flat_map conditions_of xs) ≡ total (map (λ x. all_nodes (conditions_of x)) xs)
tests_sum [] = refl
tests_sum (x ∷ xs) = omega (arith, tests_sum xs, all_nodes-append (conditions_of x) (flat_map conditions_of xs))

tests_same : (xs ys : List BoundExpr) → same_exprs xs ys ≡ true → all_nodes (flat_map conditions_of xs) ≡ all_nodes (flat_map conditions_of ys)
tests_same xs ys h = tests_sum xs ∙ sums_same same_expr (λ x. all_nodes (conditions_of x)) test_same xs ys h ∙ sym (tests_sum ys)

-- ---- items

sixth : (a b c d f g k r i : Bool) → (a && b && c && d && f && g && k && r && i) ≡ true → g ≡ true
sixth a b c d f g k r i h =
    let l = three_hold (a && b && c && d && f && g && k) r i h in
    let m = both_hold (a && b && c && d && f && g) k l.0 in
    (both_hold (a && b && c && d && f) g m.0).1

fourth : (a b c d f g k r i : Bool) → (a && b && c && d && f && g && k && r && i) ≡ true → d ≡ true
fourth a b c d f g k r i h =
    let l = three_hold (a && b && c && d && f && g && k) r i h in
    let m = three_hold (a && b && c && d && f) g k l.0 in
    (three_hold (a && b && c) d f m.0).1

item_same : (a b : BoundItem) → same_item a b ≡ true → length a.columns ≡ length b.columns
item_same a b h =
    all_same_length same_column a.columns b.columns
    (sixth (same_join a.join b.join) (same_exprs a.ons b.ons) (same_truth a.ons_made b.ons_made) (is_same_name a.shown b.shown) (same_source a.source b.source) (all_same same_column a.columns b.columns)
    (all_same (sameb column_kind.the_type) a.kinds b.kinds) (both_same nat_eq a.rowid b.rowid) (all_same same_index a.indexes b.indexes) h)

same_sizes : (a b : List BoundItem) → length a ≡ length b → from_size a ≡ from_size b
same_sizes [] [] h = refl
same_sizes (x ∷ a) (y ∷ b) h = omega (arith, h)
same_sizes [] (y ∷ b) h = cc
same_sizes (x ∷ a) [] h = cc

-- ---- parts

few_same : (size m n : ℕ) (xs ys : List BoundExpr) → m ≡ n → all_nodes xs ≡ all_nodes ys → AreFewShown size m xs → AreFewShown size n ys
few_same size m n xs ys columns nodes few = record {
  stars = few.stars;
  hundred = few.hundred;
  of_columns = omega (arith, few.of_columns, columns);
  nodes = omega (arith, few.nodes, nodes);
}

core_same : (s : SelectLayer) (a b : BoundCore) → same_core a b ≡ true → IsSmallCore s a → IsSmallCore s b
core_same s a b h small =
    let last = three_hold (all_same same_item a.items b.items && same_exprs a.conjuncts b.conjuncts && both_same same_groups a.groups b.groups && same_exprs a.results b.results)
    (all_same same_collation a.collations b.collations) (same_truth a.distinct b.distinct) h in
    let next = three_hold (all_same same_item a.items b.items && same_exprs a.conjuncts b.conjuncts) (both_same same_groups a.groups b.groups) (same_exprs a.results b.results) last.0 in
    let first = both_hold (all_same same_item a.items b.items) (same_exprs a.conjuncts b.conjuncts) next.0 in
    let tests = tests_same a.conjuncts b.conjuncts first.1 in
    record {
      items = sym (same_sizes a.items b.items (all_same_length same_item a.items b.items first.0)) ∙ small.items;
      results = few_same _ (columns_in a.items) (columns_in b.items) a.results b.results
          (sums_same same_item (λ (x : BoundItem). length x.columns) item_same a.items b.items first.0) (exprs_same a.results b.results next.2) small.results;
      tests = λ unnamed. omega (arith, small.tests unnamed, tests);
    }

rows_same : (size : ℕ) (a b : List (List BoundExpr)) → all_same same_exprs a b ≡ true → AreFewRows size a → AreFewRows size b
rows_same size a b h few =
    let nodes = sums_same same_exprs row_size (λ x y k. ap (λ n. 1 + n) (exprs_same x y k)) a b h in
    record { nodes = omega (arith, few.nodes, nodes); count = omega (arith, few.count, all_same_length same_exprs a b h) }

pub part_same : (l : PartLayer) (a b : BoundPart) → same_part a b ≡ true → IsSmallPart l a → IsSmallPart l b
part_same (QueryPart-F.Select core) (bound_part.Select a) (bound_part.Select b) h small = core_same (of_select core) a b h small
part_same (QueryPart-F.Values rows) (bound_part.Values a) (bound_part.Values b) h small = rows_same _ a b h small
part_same (QueryPart-F.Select core) (bound_part.Select a) (bound_part.Values b) h small = cc
part_same (QueryPart-F.Values rows) (bound_part.Values a) (bound_part.Select b) h small = cc
part_same (QueryPart-F.Select core) (bound_part.Values a) b h small = absurd small
part_same (QueryPart-F.Values rows) (bound_part.Select a) b h small = absurd small

first_same : (a b : BoundQuery) → same_query a b ≡ true → same_part a.first b.first ≡ true
first_same a b h =
    fourth (same_within a.within b.within) (nat_eq a.arguments b.arguments) (all_same nat_eq a.tables b.tables) (same_part a.first b.first) (all_same same_compound a.others b.others) (all_same same_term a.order b.order)
    (both_same same_expr a.limit b.limit) (both_same same_expr a.offset b.offset) (all_same same_column a.columns b.columns) h

-- a unit that is the same as a query's is a query's, whose first part is the same
pub query_unit_same : (a : BoundQuery) (u : BoundUnit) → same_unit (Queried a) u ≡ true → (b : BoundQuery) × (u ≡ Queried b) × (same_part a.first b.first ≡ true)
query_unit_same a (Queried b) h = (b, refl, first_same a b h)
query_unit_same a (Recursed r) h = cc
