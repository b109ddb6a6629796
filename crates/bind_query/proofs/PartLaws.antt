-- Parts of queries, as functions of their own bind them.
use Rattle.std.proofs.Common.{◌≡◌, Bool, List, [], ◌∷◌, ◌++◌, length, Ok, Err, ap, ◌∙◌, refl, codes}
use Rattle.eng_value.specs.declared.cause.Cause.{Cause}
use Rattle.sql_words.specs.Refusals.{◌>>=◌}
use Rattle.bound_tree.specs.declared.units.BoundCompound.{BoundCompound}
use Rattle.bound_tree.specs.declared.units.BoundTerm.{BoundTerm}
use Rattle.sql_bound.specs.Carriers.{CompoundParts, CoreParts, Expression, PartParts, ResultParts, Select, TermParts, Values}
use Rattle.sql_bound.specs.Compounds.{compound_bound, compound_with, first_word, gathered_alone, others_bound, part_bound, parts_bound, row_bound, rows_behind, select_alone, select_given, values_bound, values_given, width_fits}
use Rattle.sql_bound.specs.Cores.{select_bound}
use Rattle.sql_bound.specs.Froms.{Inside}
use Rattle.sql_bound.specs.Orders.{orders_by_aggregate, terms_of_select}
use Rattle.sql_bound.specs.Refusals.{Checked}
use Rattle.sql_bound.specs.Results.{shown_in}
use Rattle.sql_bound.specs.Scopes.{Answer, Level, Scope, scope_over}
use Rattle.sql_bound.specs.declared.queries.BoundSelect.{BoundSelect}
use Rattle.sql_bound.specs.declared.queries.Gathered.{Gathered}
use Rattle.sql_bound.specs.declared.queries.Given.{Given}
use Rattle.sql_bound.specs.declared.scopes.Operand.{Operand}
use Rattle.sql_bound.specs.declared.scopes.ResultColumn.{ResultColumn}
use Rattle.sql_bound.specs.declared.scopes.Standing.TheVariants.{Nowhere}
use Rattle.sql_bound.specs.declared.scopes.WithEntry.{WithEntry}
use Rattle.sql_bound.specs.declared.scopes.Work.{Work}
use Rattle.bind_result.specs.Rows.{row_put}
use Rattle.bind_query.specs.Results.{other_bound, rows_after}
use Rattle.bind_query.specs.Scopes.{Levels, clause, inside_of, outer_of, scope_of}
use Rattle.bind_query.specs.Turns.{in_turn}
use Rattle.bind_query.specs.Where.{Where}
use Rattle.bind_query.proofs.TurnedLaws.{in_front, turned}

-- ---- parts behind the first

module _ (i : Inside) (columns : List ResultColumn) where
  abbrev made : CompoundParts → Given × Work → Answer BoundCompound
  made c g = Ok (compound_with c columns g.0, g.1)

  other-fits : (c : CompoundParts) (cs : List CompoundParts) (g : Given × Work) (fits : Checked (Unit {0}))
      → (fits >>= λ u. others_bound i columns cs g.1 >>= λ more. in_front (compound_with c columns g.0) more)
      ≡ ((fits >>= λ u. made c g) >>= λ a. others_bound i columns cs a.1 >>= λ more. in_front a.0 more)
  other-fits c cs g (Err why) = refl
  other-fits c cs g (Ok u) = refl

  other-next : (c : CompoundParts) (cs : List CompoundParts) (r : Answer Given)
      → (r >>= λ g. width_fits (first_word c.part) (length columns) (length g.0.columns) >>= λ u. others_bound i columns cs g.1 >>= λ more. in_front (compound_with c columns g.0) more)
      ≡ ((r >>= λ g. width_fits (first_word c.part) (length columns) (length g.0.columns) >>= λ u. made c g) >>= λ a. others_bound i columns cs a.1 >>= λ more. in_front a.0 more)
  other-next c cs (Err why) = refl
  other-next c cs (Ok g) = other-fits c cs g (width_fits (first_word c.part) (length columns) (length g.0.columns))

  pub others-turn : (cs : List CompoundParts) (w : Work) → others_bound i columns cs w ≡ in_turn (other_bound i columns) cs [] w
  others-turn = turned (other_bound i columns) (others_bound i columns) (λ w. refl) (λ c cs w. other-next c cs (part_bound i c.part w))

-- ---- several parts

pub parts-several : (i : Inside) (first : PartParts) (c : CompoundParts) (cs : List CompoundParts) (ts : List TermParts) (w : Work) → parts_bound i first (c ∷ cs) ts w ≡ compound_bound i first (c ∷ cs) ts w
parts-several i (Select core) c cs ts w = refl
parts-several i (Values rows) c cs ts w = refl

-- ---- one SELECT

abbrev alone : List BoundTerm → Given × Work → Answer Gathered
alone o g = Ok (gathered_alone g.0 o, g.1)

module _ (i : Inside) (core : CoreParts) (ts : List TermParts) (w : Work) (ordered : Bool) (is : orders_by_aggregate i.outer ts ≡ ordered) where
  pub alone-refused : (why : Cause) → select_bound i core ordered w ≡ Err why → select_alone i core ts w ≡ Err why
  alone-refused why a = rw (is, a) refl

  module _ (s : BoundSelect) (first : Work) (a : select_bound i core ordered w ≡ Ok (s, first)) where
    terms-as : (rs : List ResultParts) (r : Answer (List BoundTerm)) → core.results ≡ rs → terms_of_select s i.outer (shown_in i.outer.text s.found.level rs) ts first ≡ r
        → terms_of_select s i.outer (shown_in i.outer.text s.found.level core.results) ts first ≡ r
    terms-as rs r same b = ap (λ (xs : List ResultParts). terms_of_select s i.outer (shown_in i.outer.text s.found.level xs) ts first) same ∙ b

    pub alone-unordered : (rs : List ResultParts) (why : Cause) → core.results ≡ rs → terms_of_select s i.outer (shown_in i.outer.text s.found.level rs) ts first ≡ Err why → select_alone i core ts w ≡ Err why
    alone-unordered rs why same b = rw (is, a, terms-as rs (Err why) same b) refl

    pub alone-made : (rs : List ResultParts) (o : List BoundTerm) (second last : Work) (g : Given) → core.results ≡ rs → terms_of_select s i.outer (shown_in i.outer.text s.found.level rs) ts first ≡ Ok (o, second) → select_given s second ≡ (g, last)
        → select_alone i core ts w ≡ Ok (gathered_alone g o, last)
    alone-made rs o second last g same b given = rw (is, a, terms-as rs (Ok (o, second)) same b) (ap (alone o) given)

pub ruleset part_laws = parts-several

-- ---- VALUES

module _ (s : Scope) where
  row-first : (rows : List (List Expression)) (r : Answer (List Operand))
      → (r >>= λ a. rows_behind s (length a.0) rows (a.0 ∷ [], a.1)) ≡ (r >>= λ a. row_put [] a.0 >>= λ all. rows_after s rows all a.1)
  row-first rows (Err why) = refl
  row-first rows (Ok a) = refl

  row-fits : (first : List Operand) (more : List (List Operand)) (rows : List (List Expression)) (a : List Operand × Work) (fits : Checked (Unit {0}))
      → (fits >>= λ u. rows_behind s (length first) rows ((first ∷ more) ++ a.0 ∷ [], a.1)) ≡ ((fits >>= λ u. Ok ((first ∷ more) ++ a.0 ∷ [])) >>= λ all. rows_after s rows all a.1)
  row-fits first more rows a (Err why) = refl
  row-fits first more rows a (Ok u) = refl

  row-other : (first : List Operand) (more : List (List Operand)) (rows : List (List Expression)) (r : Answer (List Operand))
      → (r >>= λ a. width_fits (codes "VALUES") (length first) (length a.0) >>= λ u. rows_behind s (length first) rows ((first ∷ more) ++ a.0 ∷ [], a.1))
      ≡ (r >>= λ a. row_put (first ∷ more) a.0 >>= λ all. rows_after s rows all a.1)
  row-other first more rows (Err why) = refl
  row-other first more rows (Ok a) = row-fits first more rows a (width_fits (codes "VALUES") (length first) (length a.0))

  -- one row more
  pub rows-next : (row : List Expression) (rows : List (List Expression)) (so_far : List (List Operand)) (w : Work)
      → rows_after s (row ∷ rows) so_far w ≡ (row_bound s row ([], w) >>= λ r. row_put so_far r.0 >>= λ all. rows_after s rows all r.1)
  rows-next row rows [] w = row-first rows (row_bound s row ([], w))
  rows-next row rows (first ∷ more) w = row-other first more rows (row_bound s row ([], w))

  pub rows-end : (so_far : List (List Operand)) (w : Work) → rows_after s [] so_far w ≡ Ok (so_far, w)
  rows-end [] w = refl
  rows-end (first ∷ more) w = refl

-- ---- what sees nothing of an own FROM

pub beside-scope : (w p : Where) (ls all : Levels) (ts : List WithEntry) (own : Level) → own ≡ [] → all ≡ own ∷ ls → p ≡ clause Nowhere [] w → scope_over [] (outer_of w ls ts) ≡ scope_of p all ts
beside-scope w p ls all ts own none levels is = rw (is, levels, none) refl

abbrev gives : List (List Operand) × Work → Answer Given
gives rs = Ok (values_given rs.0, rs.1)

pub values-refused : (w p : Where) (ls all : Levels) (ts : List WithEntry) (own : Level) (rows : List (List Expression)) (work : Work) (why : Cause) → own ≡ [] → all ≡ own ∷ ls → p ≡ clause Nowhere [] w
    → values_bound (scope_of p all ts) rows work ≡ Err why → part_bound (inside_of w ls ts) (Values rows) work ≡ Err why
values-refused w p ls all ts own rows work why none levels is h =
    ap (λ (s : Scope). values_bound s rows work >>= λ rs. gives rs) (beside-scope w p ls all ts own none levels is) ∙ ap (λ (r : Answer (List (List Operand))). r >>= λ rs. gives rs) h

pub ruleset row_laws = (rows-next, rows-end)
