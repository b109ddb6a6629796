-- A query of one part makes a unit that is small beside its tree.
use Rattle.std.proofs.Common.{◌≡◌, ℕ, true, List, [], ◌∷◌, length, map, Ok, refl, sym, subst}
use Rattle.std.specs.Option.{option_map}
use Rattle.sql_tree.specs.Layers.{PartLayer, of_part as layer_of, of_query as query_layer}
use Rattle.sql_tree.specs.declared.expr.Expr.TheOpen.{QueryPart-F}
use Rattle.sql_tree.specs.declared.expr.Expr.{Expr}
use Rattle.sql_tree.specs.declared.query.CompoundPart.{CompoundPart}
use Rattle.sql_tree.specs.declared.query.Query.{Query, out-Query}
use Rattle.sql_tree.specs.declared.query.SelectCore.{SelectCore}
use Rattle.sql_words.specs.Refusals.{◌>>=◌}
use Rattle.bound_tree.specs.declared.units.BoundQuery.{BoundQuery}
use Rattle.bound_tree.specs.declared.units.BoundTerm.{BoundTerm}
use Rattle.bound_tree.specs.declared.units.BoundUnit.TheVariants.{Queried}
use Rattle.bound_tree.specs.declared.units.BoundUnit.{BoundUnit}
use Rattle.sql_bound.proofs.TreeLaws.{of_query-out}
use Rattle.sql_bound.specs.Carriers.{PartParts, QueryParts, TermParts, Values}
use Rattle.sql_bound.specs.Compounds.{gathered_alone, part_bound, parts_bound, select_alone, select_given, values_alone, values_bound, values_given}
use Rattle.sql_bound.specs.Cores.{select_bound}
use Rattle.sql_bound.specs.Froms.{Inside, as_columns}
use Rattle.sql_bound.specs.Orders.{limit_bound, orders_by_aggregate, terms_of_compound, terms_of_select}
use Rattle.sql_bound.specs.Queries.{Written, asked_as, body_bound, entered, query_in, query_unit}
use Rattle.sql_bound.specs.Results.{shown_in}
use Rattle.sql_bound.specs.Scopes.{Bottom, Deeper, Depth, Outer, begun, scope_over}
use Rattle.sql_bound.specs.Trees.{of_compound, of_core, of_expr, of_limit, of_part, of_query, of_table, of_term}
use Rattle.sql_bound.specs.Withs.{tables_bound}
use Rattle.sql_bound.specs.declared.queries.BoundLimit.{BoundLimit}
use Rattle.sql_bound.specs.declared.queries.BoundSelect.{BoundSelect}
use Rattle.sql_bound.specs.declared.queries.Gathered.{Gathered}
use Rattle.sql_bound.specs.declared.queries.Given.{Given}
use Rattle.sql_bound.specs.declared.scopes.Asked.{Asked}
use Rattle.sql_bound.specs.declared.scopes.ResultColumn.{ResultColumn}
use Rattle.sql_bound.specs.declared.scopes.Work.{Work}
use Rattle.bound_size.specs.Plain.{is_alone, is_plain_part, is_plain_query}
use Rattle.bound_size.specs.Small.{IsSmallPart}
use Rattle.bound_size.proofs.BoundLaws.{both_hold, bound_by, same_answer}
use Rattle.bound_size.proofs.CoreLaws.{core_small, select_small}
use Rattle.bound_size.proofs.LayerLaws.{of_part-out, part_parts}
use Rattle.bound_size.proofs.ValueLaws.{given_values, values_few}

-- ---- one part

abbrev FirstIsSmall : PartLayer → Gathered × Work → Type 0
FirstIsSmall p g = IsSmallPart p g.0.first

select_alone_small : (i : Inside) (core : SelectCore) (ts : List TermParts) (w : Work) (g : Gathered × Work) → is_plain_part (QueryPart-F.Select core) ≡ true → select_alone i (of_core core) ts w ≡ Ok g → FirstIsSmall (QueryPart-F.Select core) g
select_alone_small i core ts w g plain h =
    let parts = of_core core in
    let ordered : BoundSelect × Work → List BoundTerm × Work → Gathered × Work = λ s o. let given = select_given s.0 o.1 in (gathered_alone given.0 o.0, given.1) in
    let s = bound_by (select_bound i parts (orders_by_aggregate i.outer ts) w) (λ s. terms_of_select s.0 i.outer (shown_in i.outer.text s.0.found.level parts.results) ts s.1 >>= λ o. Ok (ordered s o)) g h in
    let o = bound_by (terms_of_select s.0.0 i.outer (shown_in i.outer.text s.0.0.found.level parts.results) ts s.0.1) (λ o. Ok (ordered s.0 o)) g s.2 in
    subst (FirstIsSmall (QueryPart-F.Select core)) (same_answer (ordered s.0 o.0) g o.2) (core_small _ s.0.0 o.0.1 (select_small i core (orders_by_aggregate i.outer ts) w s.0 plain s.1))

values_alone_small : (i : Inside) (rows : List (List Expr)) (ts : List TermParts) (w : Work) (g : Gathered × Work) → is_plain_part (QueryPart-F.Values rows) ≡ true → values_alone i (map (map of_expr) rows) ts w ≡ Ok g
    → FirstIsSmall (QueryPart-F.Values rows) g
values_alone_small i rows ts w g plain h =
    let scope = scope_over [] i.outer in
    let v = bound_by (part_bound i (Values (map (map of_expr) rows)) w) (λ v. terms_of_compound i.outer.text v.0.columns ts >>= λ o. Ok (gathered_alone v.0 o, v.1)) g h in
    let o = bound_by (terms_of_compound i.outer.text v.0.0.columns ts) (λ o. Ok (gathered_alone v.0.0 o, v.0.1)) g v.2 in
    let rs = bound_by (values_bound scope (map (map of_expr) rows) w) (λ rs. Ok (values_given rs.0, rs.1)) v.0 v.1 in
    let given : Given × Work = (values_given rs.0.0, rs.0.1) in
    let few = values_few scope refl tt rows w rs.0 plain rs.1 in
    let small : IsSmallPart (QueryPart-F.Values rows) (values_given rs.0.0).part = subst (IsSmallPart (QueryPart-F.Values rows)) (sym (given_values rs.0.0)) few in
    let part = subst (λ (x : Given × Work). IsSmallPart (QueryPart-F.Values rows) x.0.part) (same_answer given v.0 rs.2) small in
    let all : Gathered × Work = (gathered_alone v.0.0 o.0, v.0.1) in
    subst (FirstIsSmall (QueryPart-F.Values rows)) (same_answer all g o.2) part

part_small : (i : Inside) (p : PartLayer) (ts : List TermParts) (w : Work) (g : Gathered × Work) → is_plain_part p ≡ true → parts_bound i (part_parts p) [] ts w ≡ Ok g → FirstIsSmall p g
part_small i (QueryPart-F.Select core) ts w g plain h = select_alone_small i core ts w g plain h
part_small i (QueryPart-F.Values rows) ts w g plain h = values_alone_small i rows ts w g plain h

-- ---- a query

-- its unit is this one, whose first part is small
pub record Makes (q : Query) (a : Asked × List BoundUnit) : Type 0 where
  pub unit : BoundQuery
  pub columns : List ResultColumn
  pub work : Work
  pub made : a ≡ asked_as (Queried unit) columns work
  pub small : IsSmallPart (layer_of (query_layer q).first) unit.first

-- as it is written
abbrev written : Query → Written
written q =
    record { tables = map of_table (out-Query q).with; first = of_part (out-Query q).first; others = map of_compound (out-Query q).others; order = map of_term (out-Query q).order_by; limit = option_map of_limit (out-Query q).limit }

none_other : (cs : List CompoundPart) → is_alone cs ≡ true → cs ≡ []
none_other [] h = refl
none_other (c ∷ cs) h = cc

body_small : (i : Inside) (tables : List ℕ) (q : Query) (units : List BoundUnit) (a : Asked × List BoundUnit) → is_plain_query q ≡ true → body_bound i tables (written q) units ≡ Ok a → Makes q a
body_small i tables q units a plain h =
    let both = both_hold (is_alone (query_layer q).others) (is_plain_part (layer_of (query_layer q).first)) plain in
    let w = written q in
    let made : Gathered × Work → BoundLimit × Work → Asked × List BoundUnit = λ g l. asked_as (query_unit i.outer tables g.0 l.0 l.1) g.0.columns l.1 in
    let g = bound_by (parts_bound i w.first w.others w.order (begun units)) (λ g. limit_bound i.outer w.limit g.1 >>= λ l. Ok (made g l)) a h in
    let l = bound_by (limit_bound i.outer w.limit g.0.1) (λ l. Ok (made g.0 l)) a g.2 in
    let first = subst (λ (p : PartParts). parts_bound i p w.others w.order (begun units) ≡ Ok g.0) (of_part-out (out-Query q).first) g.1 in
    let alone = subst (λ (cs : List CompoundPart). parts_bound i (part_parts (layer_of (query_layer q).first)) (map of_compound cs) w.order (begun units) ≡ Ok g.0) (none_other (out-Query q).others both.0) first in
    let small = part_small i (layer_of (query_layer q).first) w.order (begun units) g.0 both.1 alone in
    record {
      unit = record {
        within = i.outer.within;
        arguments = length l.0.1.needs;
        tables = tables;
        first = g.0.0.first;
        others = g.0.0.others;
        order = g.0.0.order;
        limit = l.0.0.count;
        offset = l.0.0.offset;
        columns = as_columns g.0.0.columns;
      };
      columns = g.0.0.columns;
      work = l.0.1;
      made = sym (same_answer (made g.0 l.0) a l.2);
      small = small;
    }

in_small : (q : Query) (i : Inside) (units : List BoundUnit) (a : Asked × List BoundUnit) → is_plain_query q ≡ true → query_in (written q) i units ≡ Ok a → Makes q a
in_small q i units a plain h =
    let t = bound_by (tables_bound i [] (written q).tables units) (λ t. body_bound t.0.0 t.0.1 (written q) t.1) a h in
    body_small t.0.0.0 t.0.0.1 q t.0.1 a plain t.2

entered_small : (q : Query) (o : Outer) (d : Depth) (units : List BoundUnit) (a : Asked × List BoundUnit) → is_plain_query q ≡ true → entered o d (query_in (written q)) units ≡ Ok a → Makes q a
entered_small q o Bottom units a plain h = cc
entered_small q o (Deeper views below) units a plain h = in_small q (record { outer = record o { depth = below }; views = views }) units a plain h

pub query_small : (q : Query) (o : Outer) (units : List BoundUnit) (a : Asked × List BoundUnit) → is_plain_query q ≡ true → (of_query q).bound o units ≡ Ok a → Makes q a
query_small q o units a plain h = entered_small q o o.depth units a plain (subst (λ (p : QueryParts). p.bound o units ≡ Ok a) (of_query-out q) h)
