-- A recursive table, whose parts in front are bound first.
use Rattle.std.proofs.Common.{◌≡◌, ℕ, Bool, List, length, Option, Ok, Err, sym, ap, ◌∙◌, codes}
use Rattle.bind_query.specs.Tables.{repeated_bound}
use Rattle.bind_with.specs.Units.{recursion_with}
use Rattle.bound_tree.specs.declared.units.BoundCompound.{BoundCompound}
use Rattle.bound_tree.specs.declared.units.BoundCore.{BoundCore}
use Rattle.bound_tree.specs.declared.units.BoundPart.{BoundPart}
use Rattle.bound_tree.specs.declared.units.BoundUnit.{BoundUnit}
use Rattle.eng_value.specs.declared.cause.Cause.{Cause}
use Rattle.sql_bound.specs.Compounds.{others_bound, part_bound, width_fits}
use Rattle.sql_bound.specs.Cores.{core_of, recursive_select_bound, without_aggregates}
use Rattle.sql_bound.specs.Froms.{Inside, with_names}
use Rattle.sql_bound.specs.Orders.{limit_bound}
use Rattle.sql_bound.specs.Queries.{Written, asked_as}
use Rattle.sql_bound.specs.Recursions.{Recursive, recursion_bound, unordered}
use Rattle.sql_bound.specs.Refusals.{Checked}
use Rattle.sql_bound.specs.Scopes.{Answer, UnitsAnswer, begun}
use Rattle.sql_bound.specs.declared.queries.BoundLimit.{BoundLimit}
use Rattle.sql_bound.specs.declared.queries.BoundSelect.{BoundSelect}
use Rattle.sql_bound.specs.declared.queries.Given.{Given}
use Rattle.sql_bound.specs.declared.scopes.Asked.{Asked}
use Rattle.sql_bound.specs.declared.scopes.ResultColumn.{ResultColumn}
use Rattle.sql_bound.specs.declared.scopes.Work.{Work}
use Rattle.sql_words.specs.Refusals.{◌>>=◌}

module _ (i : Inside) (tables name : List ℕ) (names : List (List ℕ)) (q : Written) (r : Recursive) (units : List BoundUnit) where
  abbrev repeated : Given → List BoundCompound × Work → List ResultColumn → UnitsAnswer Asked
  repeated g others columns = repeated_bound i tables name q r g.part others.0 columns others.1

  abbrev with_columns : Given → List BoundCompound × Work → UnitsAnswer Asked
  with_columns g others = with_names name names g.columns >>= repeated g others

  abbrev with_others : Given × Work → UnitsAnswer Asked
  with_others g = others_bound i g.0.columns r.front g.1 >>= with_columns g.0

  pub recursion-by : (g : Given) (v : Work) (others : List BoundCompound) (x : Work) (columns : List ResultColumn)
      → part_bound i q.first (begun units) ≡ Ok (g, v) → others_bound i g.columns r.front v ≡ Ok (others, x) → with_names name names g.columns ≡ Ok columns
      → recursion_bound i tables name names q r units ≡ repeated_bound i tables name q r g.part others columns x
  recursion-by g v others x columns first behind named =
      ap (λ (a : Answer Given). a >>= with_others) first
      ∙ ap (λ (a : Answer (List BoundCompound)). a >>= with_columns g) behind
      ∙ ap (λ (a : Checked (List ResultColumn)). a >>= repeated g (others, x)) named

-- a SELECT that is told, with the work as it is then
abbrev given_by : BoundCore → List ResultColumn → Work → (BoundCore × List ResultColumn) × Work
given_by part shown w = ((part, shown), w)

module _ (i : Inside) (tables name : List ℕ) (q : Written) (r : Recursive) (first : BoundPart) (others : List BoundCompound) (columns : List ResultColumn) (w : Work) where
  abbrev with_limit : BoundSelect × Work → BoundLimit × Work → UnitsAnswer Asked
  with_limit s l = Ok (asked_as (recursion_with i.outer.within (length l.1.needs) tables first others columns r.all (core_of s.0 s.1) s.0.shown.columns l.0) columns l.1)

  abbrev with_order : BoundSelect × Work → Unit {0} → UnitsAnswer Asked
  with_order s u = limit_bound i.outer q.limit (without_aggregates s.1) >>= with_limit s

  abbrev with_width : BoundSelect × Work → Unit {0} → UnitsAnswer Asked
  with_width s u = unordered name q.order >>= with_order s

  abbrev with_select : BoundSelect × Work → UnitsAnswer Asked
  with_select s = width_fits (codes "SELECT") (length columns) (length s.0.shown.columns) >>= with_width s

  pub no-select : (why : Cause) → recursive_select_bound i (record { name = name; columns = columns }) r.core w ≡ Err why → repeated_bound i tables name q r first others columns w ≡ Err why
  no-select why is = ap (λ (a : Answer BoundSelect). a >>= with_select) is

  module _ (s : BoundSelect) (v : Work) (selected : recursive_select_bound i (record { name = name; columns = columns }) r.core w ≡ Ok (s, v)) where
    pub no-width : (why : Cause) → width_fits (codes "SELECT") (length columns) (length s.shown.columns) ≡ Err why → repeated_bound i tables name q r first others columns w ≡ Err why
    no-width why is = ap (λ (a : Answer BoundSelect). a >>= with_select) selected ∙ ap (λ (a : Checked (Unit {0})). a >>= with_width (s, v)) is

    module _ (wide : width_fits (codes "SELECT") (length columns) (length s.shown.columns) ≡ Ok tt) where
      by-width : repeated_bound i tables name q r first others columns w ≡ with_width (s, v) tt
      by-width = ap (λ (a : Answer BoundSelect). a >>= with_select) selected ∙ ap (λ (a : Checked (Unit {0})). a >>= with_width (s, v)) wide

      pub no-order : (why : Cause) → unordered name q.order ≡ Err why → repeated_bound i tables name q r first others columns w ≡ Err why
      no-order why is = by-width ∙ ap (λ (a : Checked (Unit {0})). a >>= with_order (s, v)) is

      module _ (plain : unordered name q.order ≡ Ok tt) (part : BoundCore) (shown : List ResultColumn) (u : Work) (given : given_by (core_of s v) s.shown.columns (without_aggregates v) ≡ given_by part shown u) where
        abbrev with_core : (BoundCore × List ResultColumn) × Work → BoundLimit × Work → UnitsAnswer Asked
        with_core p l = Ok (asked_as (recursion_with i.outer.within (length l.1.needs) tables first others columns r.all p.0.0 p.0.1 l.0) columns l.1)

        by-core : repeated_bound i tables name q r first others columns w ≡ (limit_bound i.outer q.limit u >>= with_core ((part, shown), u))
        by-core =
            by-width
            ∙ ap (λ (a : Checked (Unit {0})). a >>= with_order (s, v)) plain
            ∙ ap (λ (p : (BoundCore × List ResultColumn) × Work). limit_bound i.outer q.limit p.1 >>= with_core p) given

        pub no-limit : (why : Cause) → limit_bound i.outer q.limit u ≡ Err why → repeated_bound i tables name q r first others columns w ≡ Err why
        no-limit why is = by-core ∙ ap (λ (a : Answer BoundLimit). a >>= with_core ((part, shown), u)) is

        pub repeated-is : (l : BoundLimit) (x : Work) (within : Option (List ℕ)) (all : Bool) → limit_bound i.outer q.limit u ≡ Ok (l, x) → within ≡ i.outer.within → all ≡ r.all
            → repeated_bound i tables name q r first others columns w ≡ Ok (asked_as (recursion_with within (length x.needs) tables first others columns all part shown l) columns x)
        repeated-is l x within all is same_within same_all =
            by-core
            ∙ ap (λ (a : Answer BoundLimit). a >>= with_core ((part, shown), u)) is
            ∙ ap (λ (o : Option (List ℕ)). unit_as o r.all) (sym same_within)
            ∙ ap (unit_as within) (sym same_all)
          where
            unit_as : Option (List ℕ) → Bool → UnitsAnswer Asked
            unit_as o b = Ok (asked_as (recursion_with o (length x.needs) tables first others columns b part shown l) columns x)
