-- What rows of values that name nothing come to, as a query of VALUES.
use Rattle.std.proofs.Common.{◌≡◌, ◌<◌, ◌≤◌, ◌+◌, ℕ, suc, nat_lt, true, false, ◌&&◌, not, is_some, if◌then◌else◌, List, [], ◌∷◌, ◌++◌, length, map, Option, Some, None, Result, Ok, Err, slice_get, codes, refl, sym, ap, ◌∙◌, arith, append_assoc, append-nil, option_map}
use Rattle.std.proofs.lemmas.Bool.{eq-eqb, lt-ltb}
use Rattle.eng_value.specs.declared.cause.Cause.{Cause}
use Rattle.eng_value.specs.declared.cause.Cause.TheVariants as cause
use Rattle.eng_value.specs.declared.cause.LimitKind.TheVariants as limit
use Rattle.eng_value.specs.declared.limits.TheConstants.{MAX_COLUMNS}
use Rattle.sql_tree.specs.Layers.{of_part as part_layer, of_query as query_layer}
use Rattle.sql_tree.specs.declared.expr.Expr.TheOpen.{QueryPart-F}
use Rattle.sql_tree.specs.declared.expr.Expr.TheVariants as x
use Rattle.sql_tree.specs.declared.expr.Expr.{Expr}
use Rattle.sql_tree.specs.declared.query.CommonTable.{CommonTable}
use Rattle.sql_tree.specs.declared.query.CompoundPart.{CompoundPart}
use Rattle.sql_tree.specs.declared.query.OrderingTerm.{OrderingTerm}
use Rattle.sql_tree.specs.declared.query.Query.{Query, out-Query}
use Rattle.sql_tree.specs.declared.query.RowLimit.{RowLimit}
use Rattle.sql_tree.specs.declared.expr.UnaryOp.TheVariants as sign
use Rattle.sql_tree.specs.declared.token.Token.{Token}
use Rattle.sql_tree.specs.declared.token.TokenKind.TheVariants as token
use Rattle.sql_tree.specs.declared.token.TokenKind.{TokenKind}
use Rattle.eng_value.specs.declared.operators.UnaryOperator.TheVariants as unary
use Rattle.sql_lex.specs.Tokens.{slice_of}
use Rattle.sql_words.specs.Refusals.{◌>>=◌}
use Rattle.sql_words.specs.Spelled.{is_least_magnitude, literal_at}
use Rattle.bound_tree.specs.Exprs as e
use Rattle.bound_tree.specs.Exprs.{BoundExpr}
use Rattle.bound_tree.specs.declared.units.BoundPart.TheVariants as part
use Rattle.bound_tree.specs.declared.units.BoundUnit.{BoundUnit}
use Rattle.bound_size.proofs.BoundLaws.{both_hold}
use Rattle.bound_size.proofs.LayerLaws.{of_part-out, part_parts}
use Rattle.sql_bound.proofs.TreeLaws.{of_expr-Literal, of_expr-Unary, of_query-out}
use Rattle.sql_bound.specs.Carriers.{Expression, PartParts, QueryParts, Values}
use Rattle.sql_bound.specs.Compounds.{gathered_alone, row_bound, rows_behind, trees_in, values_bound, values_columns, values_given, width_fits}
use Rattle.sql_bound.specs.Froms.{Inside}
use Rattle.sql_bound.specs.Operands.{form_by, literal_operand, negative_of, unary_of}
use Rattle.sql_bound.specs.Queries.{Written, asked_as, body_bound, entered, query_in, query_unit}
use Rattle.sql_bound.specs.Refusals.{Checked}
use Rattle.sql_bound.specs.Scopes.{Deeper, Depth, Outer, Scope, UnitsAnswer, begun, scope_over}
use Rattle.sql_bound.specs.Trees.{of_compound, of_expr, of_limit, of_part, of_query, of_table, of_term}
use Rattle.sql_bound.specs.declared.queries.BoundLimit.{BoundLimit}
use Rattle.sql_bound.specs.declared.queries.Gathered.{Gathered}
use Rattle.sql_bound.specs.declared.queries.Given.{Given}
use Rattle.sql_bound.specs.declared.scopes.Asked.{Asked}
use Rattle.sql_bound.specs.declared.scopes.Operand.{Operand}
use Rattle.sql_bound.specs.declared.scopes.Work.{Work}
use Rattle.sql_meaning.specs.Built.{is_empty, stands_alone}
use Rattle.sql_meaning.specs.Running.{first_part}
use Rattle.bind_stmt.specs.Plain.{AreRows, AreValues, IsValue}

pub then_is : {A B : Type 0} (r : Result A Cause) (f : A → Result B Cause) (a : A) (b : Result B Cause) → r ≡ Ok a → f a ≡ b → r >>= f ≡ b
then_is r f a b is e = ap (λ x. x >>= f) is ∙ e

-- ---- a literal

pub literal-value : (text : List ℕ) (t : Token) → IsValue text (x.Literal t) (e.Literal (literal_at text t))
literal-value text t = record { bound = by }
  where
    by : (s : Scope) (w : Work) → s.outer.text ≡ text → (a : Operand) × ((of_expr (x.Literal t)).bound s w ≡ Ok (a, w)) × (a.tree ≡ e.Literal (literal_at text t))
    by s w is =
        (literal_operand s.outer.text t, ap (λ (y : Expression). y.bound s w) (of_expr-Literal t), ap (λ own. e.Literal (literal_at own t)) is)

-- ---- a number behind a minus

-- any but the one that is an integer only so
plain-form : (k : TokenKind) (a : Operand) → (negative_of (form_by k false) a).tree ≡ e.Unary unary.Negative a.tree
plain-form token.True a = refl
plain-form token.False a = refl
plain-form token.Number a = refl
plain-form other a = refl

pub negative-value : (text : List ℕ) (t : Token) → is_least_magnitude (slice_of text t) ≡ false → IsValue text (x.Unary sign.Negative (x.Literal t)) (e.Unary unary.Negative (e.Literal (literal_at text t)))
negative-value text t plain = record { bound = by }
  where
    by : (s : Scope) (w : Work) → s.outer.text ≡ text
        → (a : Operand) × ((of_expr (x.Unary sign.Negative (x.Literal t))).bound s w ≡ Ok (a, w)) × (a.tree ≡ e.Unary unary.Negative (e.Literal (literal_at text t)))
    by s w is =
        let a = literal_operand s.outer.text t in (
          unary_of sign.Negative a,
          ap (λ (y : Expression). y.bound s w) (of_expr-Unary sign.Negative (x.Literal t)) ∙ ap (λ (y : Expression). y.bound s w >>= λ b. Ok (unary_of sign.Negative b.0, b.1)) (of_expr-Literal t),
          ap (λ least. (negative_of (form_by t.kind least) a).tree) (ap (λ own. is_least_magnitude (slice_of own t)) is ∙ plain) ∙ plain-form t.kind a ∙ ap (λ own. e.Unary unary.Negative (e.Literal (literal_at own t))) is,
        )

-- ---- a row

-- what a row of so many values comes to
record RowIs (n : ℕ) (made : List BoundExpr) (row : List Operand) : Type 0 where
  trees : trees_in row ≡ made
  width : length row ≡ n

abbrev Row : Type 0
Row = List Operand × Work

longer : {X : Type 0} (a b : List X) (x : X) → length (a ++ x ∷ b) ≡ suc (length a + length b)
longer [] b x = omega arith
longer (y ∷ a) b x = let rest = longer a b x in omega (arith, rest)

room : {X : Type 0} (xs : List X) → length xs < MAX_COLUMNS → nat_lt (length xs) MAX_COLUMNS ≡ true
room xs few = lt-ltb (length xs) MAX_COLUMNS few

module _ (s : Scope) (text : List ℕ) (own : s.outer.text ≡ text) where
  row-on : (xs : List Expr) (made : List BoundExpr) (so_far : List Operand) (w : Work) → AreValues text xs made → length so_far + length xs ≤ MAX_COLUMNS
      → (row : List Operand) × (row_bound s (map of_expr xs) (so_far, w) ≡ Ok (so_far ++ row, w)) × RowIs (length xs) made row
  row-on [] [] so_far w are few = ([], ap (λ r. Ok (r, w)) (sym (append-nil so_far)), record { trees = refl; width = refl })
  row-on [] (b ∷ made) so_far w are few = absurd are
  row-on (x ∷ xs) [] so_far w are few = absurd are
  row-on (x ∷ xs) (b ∷ made) so_far w are few =
      let one = are.0.bound s w own in
      let a = one.0 in
      let behind = longer so_far [] a in
      let rest = row-on xs made (so_far ++ a ∷ []) w are.1 (omega (arith, few, behind)) in
      let more : Operand × Work → Checked Row = λ c. row_bound s (map of_expr xs) (so_far ++ c.0 ∷ [], c.1) in
      let trees = rest.2.trees in
      let width = rest.2.width in (
        a ∷ rest.0,
        ap (λ ok. (if ok then Ok tt else Err (cause.Limit limit.Columns)) >>= λ u. (of_expr x).bound s w >>= λ c. more c) (room so_far (omega (arith, few)))
            ∙ then_is ((of_expr x).bound s w) more (a, w) _ one.1 (rest.1 ∙ ap (λ r. Ok (r, w)) (append_assoc so_far (a ∷ []) rest.0)),
        record { trees = ap (λ b. b ∷ trees_in rest.0) one.2 ∙ ap (λ bs. b ∷ bs) trees; width = ap suc width },
      )

  row-is : (xs : List Expr) (made : List BoundExpr) (w : Work) → AreValues text xs made → length xs ≤ MAX_COLUMNS → (row : List Operand) × (row_bound s (map of_expr xs) ([], w) ≡ Ok (row, w)) × RowIs (length xs) made row
  row-is xs made w are few = row-on xs made [] w are (omega (arith, few))

  -- ---- rows behind the first

  fits : (name : List ℕ) (width n : ℕ) → n ≡ width → width_fits name width n ≡ Ok tt
  fits name width n is = ap (λ ok. if ok then Ok tt else Err (cause.Arity name)) (eq-eqb n width is)

  rows-on : (width : ℕ) (rows : List (List Expr)) (made : List (List BoundExpr)) (so_far : List (List Operand)) (w : Work) → width ≤ MAX_COLUMNS → AreRows text width rows made
      → (more : List (List Operand)) × (rows_behind s width (map (map of_expr) rows) (so_far, w) ≡ Ok (so_far ++ more, w)) × (map trees_in more ≡ made)
  rows-on width [] [] so_far w few are = ([], ap (λ r. Ok (r, w)) (sym (append-nil so_far)), refl)
  rows-on width [] (m ∷ made) so_far w few are = absurd are
  rows-on width (row ∷ rows) [] so_far w few are = absurd are
  rows-on width (row ∷ rows) (m ∷ made) so_far w few are =
      let wide : length row ≡ width = are.1 in
      let one = row-is row m w are.0 (omega (arith, few, wide)) in
      let rest = rows-on width rows made (so_far ++ one.0 ∷ []) w few are.2 in
      let next : Row → Checked (List (List Operand) × Work) = λ r. width_fits (codes "VALUES") width (length r.0) >>= λ u. rows_behind s width (map (map of_expr) rows) (so_far ++ r.0 ∷ [], r.1) in (
        one.0 ∷ rest.0,
        then_is (row_bound s (map of_expr row) ([], w)) next (one.0, w) _ one.1
            (then_is (width_fits (codes "VALUES") width (length one.0)) (λ u. rows_behind s width (map (map of_expr) rows) (so_far ++ one.0 ∷ [], w)) tt _ (fits (codes "VALUES") width (length one.0) (one.2.width ∙ wide))
            (rest.1 ∙ ap (λ r. Ok (r, w)) (append_assoc so_far (one.0 ∷ []) rest.0))),
        ap (λ t. t ∷ map trees_in rest.0) one.2.trees ∙ ap (λ ts. m ∷ ts) rest.2,
      )

  -- ---- all rows

  -- what rows of so many values come to
  pub record RowsAre (width : ℕ) (made : List (List BoundExpr)) (rows : List (List Operand)) : Type 0 where
    pub part : (values_given rows).part ≡ part.Values made
    pub wide : length (values_given rows).columns ≡ width

  columns-are : (n : ℕ) (row : List Operand) → length (values_columns n row) ≡ length row
  columns-are n [] = refl
  columns-are n (a ∷ row) = ap suc (columns-are (suc n) row)

  pub rows-are : (width : ℕ) (first : List Expr) (rows : List (List Expr)) (made : List (List BoundExpr)) (w : Work) → width ≤ MAX_COLUMNS → AreRows text width (first ∷ rows) made
      → (all : List (List Operand)) × (values_bound s (map (map of_expr) (first ∷ rows)) w ≡ Ok (all, w)) × RowsAre width made all
  rows-are width first rows [] w few are = absurd are
  rows-are width first rows (m ∷ made) w few are =
      let wide : length first ≡ width = are.1 in
      let one = row-is first m w are.0 (omega (arith, few, wide)) in
      let here : length one.0 ≡ width = one.2.width ∙ wide in
      let rest = rows-on width rows made (one.0 ∷ []) w few are.2 in
      let next : Row → Checked (List (List Operand) × Work) = λ r. rows_behind s (length r.0) (map (map of_expr) rows) (r.0 ∷ [], r.1) in (
        one.0 ∷ rest.0,
        then_is (row_bound s (map of_expr first) ([], w)) next (one.0, w) _ one.1 (ap (λ n. rows_behind s n (map (map of_expr) rows) (one.0 ∷ [], w)) here ∙ rest.1),
        record {
          part = ap part.Values (ap (λ t. t ∷ map trees_in rest.0) one.2.trees ∙ ap (λ ts. m ∷ ts) rest.2);
          wide = columns-are 1 one.0 ∙ here;
        },
      )

-- ---- a query of VALUES that stands alone

abbrev alone : List (List Expr) → Written
alone rows = record { tables = []; first = Values (map (map of_expr) rows); others = []; order = []; limit = None }

abbrev written : Query → Written
written q =
    record { tables = map of_table (out-Query q).with; first = of_part (out-Query q).first; others = map of_compound (out-Query q).others; order = map of_term (out-Query q).order_by; limit = option_map of_limit (out-Query q).limit }

pub none-in : {X : Type 0} (xs : List X) → is_empty xs ≡ true → xs ≡ []
none-in [] h = refl
none-in (x ∷ xs) h = absurd (let bad : false ≡ true = h in cc)

none-there : {X : Type 0} (o : Option X) → not (is_some o) ≡ true → o ≡ None
none-there None h = refl
none-there (Some x) h = absurd (let bad : false ≡ true = h in cc)

written-alone : (q : Query) (rows : List (List Expr)) → stands_alone (query_layer q) ≡ true → part_layer (query_layer q).first ≡ QueryPart-F.Values rows → written q ≡ alone rows
written-alone q rows stands values =
    let o = query_layer q in
    let last = both_hold (is_empty o.with && is_empty o.others && is_empty o.order_by) (not (is_some o.limit)) stands in
    let third = both_hold (is_empty o.with && is_empty o.others) (is_empty o.order_by) last.0 in
    let two = both_hold (is_empty o.with) (is_empty o.others) third.0 in
    let first : of_part o.first ≡ Values (map (map of_expr) rows) = of_part-out o.first ∙ ap part_parts values in
    ap (λ (ts : List CommonTable). let w : Written = record { tables = map of_table ts; first = of_part o.first; others = map of_compound o.others; order = map of_term o.order_by; limit = option_map of_limit o.limit } in w) (none-in o.with two.0)
    ∙ ap (λ (p : PartParts). let w : Written = record { tables = []; first = p; others = map of_compound o.others; order = map of_term o.order_by; limit = option_map of_limit o.limit } in w) first
    ∙ ap (λ (cs : List CompoundPart). let w : Written = record { tables = []; first = Values (map (map of_expr) rows); others = map of_compound cs; order = map of_term o.order_by; limit = option_map of_limit o.limit } in w) (none-in o.others two.1)
    ∙ ap (λ (ts : List OrderingTerm). let w : Written = record { tables = []; first = Values (map (map of_expr) rows); others = []; order = map of_term ts; limit = option_map of_limit o.limit } in w) (none-in o.order_by third.1)
    ∙ ap (λ (l : Option RowLimit). let w : Written = record { tables = []; first = Values (map (map of_expr) rows); others = []; order = []; limit = option_map of_limit l } in w) (none-there o.limit last.1)

-- the first of the statement's units, which needs nothing and holds these rows
pub record AsksRows (width : ℕ) (made : List (List BoundExpr)) (a : Asked × List BoundUnit) : Type 0 where
  pub place : a.0.unit ≡ 0
  pub needs : a.0.needs ≡ []
  pub wide : length a.0.columns ≡ width
  pub part : first_part (slice_get a.1 0) ≡ Ok (part.Values made)

module _ (i : Inside) (width : ℕ) (first : List Expr) (rows : List (List Expr)) (made : List (List BoundExpr)) (few : width ≤ MAX_COLUMNS) (are : AreRows i.outer.text width (first ∷ rows) made) where
  body-asks : (a : Asked × List BoundUnit) × (body_bound i [] (alone (first ∷ rows)) [] ≡ Ok a) × AsksRows width made a
  body-asks =
      let w = begun [] in
      let s = scope_over [] i.outer in
      let all = rows-are s i.outer.text refl width first rows made w few are in
      let g = gathered_alone (values_given all.0) [] in
      let l : BoundLimit = record { count = None; offset = None } in
      let given : List (List Operand) × Work → Given × Work = λ rs. (values_given rs.0, rs.1) in
      let alone_given : Given × Work → Gathered × Work = λ g. (gathered_alone g.0 [], g.1) in
      let asks : Gathered × Work → Asked × List BoundUnit = λ g. asked_as (query_unit i.outer [] g.0 l g.1) g.0.columns g.1 in (
        asked_as (query_unit i.outer [] g l w) g.columns w,
        ap (λ r. ((r >>= λ rs. Ok (given rs)) >>= λ g. Ok (alone_given g)) >>= λ g. Ok (asks g)) all.1,
        record { place = refl; needs = refl; wide = all.2.wide; part = ap Ok all.2.part },
      )

pub values-ask : (o : Outer) (views : List ℕ → List ℕ → Query → List BoundUnit → UnitsAnswer Asked) (below : Depth) (q : Query) (width : ℕ) (first : List Expr) (rows : List (List Expr)) (made : List (List BoundExpr)) → o.depth ≡ Deeper views below
    → stands_alone (query_layer q) ≡ true → part_layer (query_layer q).first ≡ QueryPart-F.Values (first ∷ rows) → width ≤ MAX_COLUMNS → AreRows o.text width (first ∷ rows) made
    → (a : Asked × List BoundUnit) × ((of_query q).bound o [] ≡ Ok a) × AsksRows width made a
values-ask o views below q width first rows made deep stands values few are =
    let i : Inside = record { outer = record o { depth = below }; views = views } in
    let asks = body-asks i width first rows made few are in (
      asks.0,
      ap (λ (p : QueryParts). p.bound o []) (of_query-out q) ∙ ap (λ (w : Written). entered o o.depth (query_in w) []) (written-alone q (first ∷ rows) stands values)
          ∙ ap (λ d. entered o d (query_in (alone (first ∷ rows))) []) deep ∙ asks.1,
      asks.2,
    )
