-- The unit of a recursive table, by what code has of it (recursion_unit of Recursions.antt).
use Rattle.std.specs.Prelude.{◌≡◌, ℕ, Bool, List, Option, length, refl}
use Rattle.bound_tree.specs.declared.units.BoundCompound.{BoundCompound}
use Rattle.bound_tree.specs.declared.units.BoundCore.{BoundCore}
use Rattle.bound_tree.specs.declared.units.BoundPart.{BoundPart}
use Rattle.bound_tree.specs.declared.units.BoundUnit.TheVariants.{Recursed}
use Rattle.bound_tree.specs.declared.units.BoundUnit.{BoundUnit}
use Rattle.sql_bound.specs.Compounds.{collations_of}
use Rattle.sql_bound.specs.Cores.{core_of}
use Rattle.sql_bound.specs.Froms.{as_columns}
use Rattle.sql_bound.specs.Recursions.{Recursive, recursion_unit}
use Rattle.sql_bound.specs.Scopes.{Outer}
use Rattle.sql_bound.specs.declared.queries.BoundLimit.{BoundLimit}
use Rattle.sql_bound.specs.declared.queries.BoundSelect.{BoundSelect}
use Rattle.sql_bound.specs.declared.queries.Given.{Given}
use Rattle.sql_bound.specs.declared.scopes.ResultColumn.{ResultColumn}
use Rattle.sql_bound.specs.declared.scopes.Work.{Work}

abbrev pub recursion_with : Option (List ℕ) → ℕ → List ℕ → BoundPart → List BoundCompound → List ResultColumn → Bool → BoundCore → List ResultColumn → BoundLimit → BoundUnit
recursion_with within arguments tables first others columns all part shown l =
    Recursed (record {
      within = within;
      arguments = arguments;
      tables = tables;
      first = first;
      others = others;
      all = all;
      part = part;
      collations = collations_of columns shown;
      limit = l.count;
      offset = l.offset;
      columns = as_columns columns;
    })

pub recursion_unit-is : (o : Outer) (tables : List ℕ) (g : Given) (others : List BoundCompound) (r : Recursive) (columns : List ResultColumn) (s : BoundSelect) (x : Work) (l : BoundLimit) (w : Work)
    → recursion_unit o tables g others r columns s x l w ≡ recursion_with o.within (length w.needs) tables g.part others columns r.all (core_of s x) s.shown.columns l
recursion_unit-is o tables g others r columns s x l w = refl
