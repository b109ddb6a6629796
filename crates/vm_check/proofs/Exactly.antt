-- A program passes the test exactly where the rules hold.
use Rattle.std.proofs.Common.{◌≡◌, ℕ, zero, suc, ◌+◌, ◌≤◌, ◌<◌, List, [], ◌∷◌, length, Bool, not, ◌&&◌, Some, None, refl, sym, ap, ◌∙◌, subst, arith}
use Rattle.std.specs.Prelude.{All, nat_eq, nat_le, slice_get, slice_index_or}
use Rattle.std.specs.Bool.{Decides}
use Rattle.std.specs.List.{list_all}
use Rattle.std.specs.declared.option.Option.{Option}
use Rattle.std.proofs.lemmas.Bool.{leb-true, le-leb}
use Rattle.std.proofs.lemmas.Bool.Decides.{Decides-and, Decides-by_and, Decides-eqb, Decides-like}
use Rattle.vm_code.specs.declared.op.Op.{Op}
use Rattle.vm_code.specs.declared.program.Program.{Program}
use Rattle.vm_code.specs.declared.program.Unit.{Unit}
use Rattle.vm_code.specs.declared.program.UnitKind.{UnitKind}
use Rattle.vm_code.specs.declared.program.UnitKind.TheVariants.{Called, Main}
use Rattle.vm_code.specs.Accepted.{IsAccepted, IsOpenAt, Stands, UnitFits, UnitsFit}
use Rattle.vm_code.specs.Track.{Meets, OpenSet, needs_of, room_for, spans_of, way_of}
use Rattle.vm_code.specs.Tracked.{AreBelow}
use Rattle.vm_check.specs.Tests.{are_below, falls_well, if_reached, is_called, is_called_well, is_code_well, is_met, is_op_well, is_reached_well, is_unit_well, is_well, jumps_well, reached_well, set_at, starts_empty, units_well}
use Rattle.vm_check.proofs.Keeping.{got_below, there_is}
use Rattle.vm_check.proofs.Rules.{Falls, Jumps, below_tells, falls_tells, is_called_tells, jumps_tells, needs_tell, reached_tells, set_found, set_there, units_tell}

-- ---- an instruction

-- what the rules say of one that is reached with these open
abbrev Reached : Unit → ℕ → Op → OpenSet → Type 0
Reached x place o xs = ((AreBelow x.cursors xs × All (Meets xs) (needs_of o)) × Falls x place xs (way_of o)) × Jumps x xs (way_of o)

reached_well_tells : (x : Unit) (place : ℕ) (o : Op) (xs : OpenSet) → Decides (reached_well x place o xs) (Reached x place o xs)
reached_well_tells x place o xs = Decides-and (are_below x.cursors xs && list_all (is_met xs) (needs_of o) && falls_well x place xs (way_of o)) (jumps_well x xs (way_of o)) (Decides-and (are_below x.cursors xs && list_all (is_met xs) (needs_of o)) (falls_well x place xs (way_of o)) (Decides-and (are_below x.cursors xs) (list_all (is_met xs) (needs_of o)) (below_tells x.cursors xs) (needs_tell xs (needs_of o))) (falls_tells x place xs (way_of o))) (jumps_tells x xs (way_of o))

some_set : (xs ys : OpenSet) → Some xs ≡ Some ys → xs ≡ ys
some_set xs ys e = cc

if_reached_tells : (o : Option OpenSet) (test : OpenSet → Bool) (R : OpenSet → Type 0) → ((xs : OpenSet) → Decides (test xs) (R xs)) → Decides (if_reached o test) ((xs : OpenSet) → o ≡ Some xs → R xs)
if_reached_tells None test R each = (λ e xs h. absurd (none xs h), λ f. refl)
  where
    none : (xs : OpenSet) → None ≡ Some xs → ⊥
    none xs e = cc
if_reached_tells (Some ys) test R each = (λ e xs h. subst R (some_set ys xs h) ((each ys).0 e), λ f. (each ys).1 (f ys refl))

abbrev WhereReached : Unit → ℕ → Op → Type 0
WhereReached x place o = (xs : OpenSet) → IsOpenAt x place xs → Reached x place o xs

is_reached_well_tells : (x : Unit) (place : ℕ) (o : Op) → Decides (is_reached_well x place o) (WhereReached x place o)
is_reached_well_tells x place o = Decides-like (is_reached_well x place o) (λ f xs h. f xs (set_there x.sets place xs h)) (λ f xs h. f xs (set_found x.sets place xs h)) (if_reached_tells (set_at x place) (reached_well x place o) (Reached x place o) (reached_well_tells x place o))

abbrev OpRules : Program → Unit → ℕ → Op → Type 0
OpRules p x place o = ((room_for (spans_of o) ≤ x.registers) × UnitsFit p x (way_of o)) × WhereReached x place o

is_op_well_tells : (p : Program) (x : Unit) (place : ℕ) (o : Op) → Decides (is_op_well p x place o) (OpRules p x place o)
is_op_well_tells p x place o = Decides-and (nat_le (room_for (spans_of o)) x.registers && units_well p x (way_of o)) (is_reached_well x place o) (Decides-and (nat_le (room_for (spans_of o)) x.registers) (units_well p x (way_of o)) (leb-true (room_for (spans_of o)) x.registers, le-leb (room_for (spans_of o)) x.registers) (units_tell p x (way_of o))) (is_reached_well_tells x place o)

-- ---- a unit

abbrev CodeRules : Program → Unit → ℕ → List Op → Type 0
CodeRules p x place os = (k : ℕ) (o : Op) → slice_get os k ≡ Some o → OpRules p x (place + k) o

some_op : (o q : Op) → Some o ≡ Some q → o ≡ q
some_op o q e = cc

code_more : (p : Program) (x : Unit) (place : ℕ) (o : Op) (os : List Op) → OpRules p x place o → CodeRules p x (place + 1) os → CodeRules p x place (o ∷ os)
code_more p x place o os first others zero q e =
    let here : place ≡ place + 0 = omega arith in
    subst (λ k. OpRules p x k q) here (subst (OpRules p x place) (some_op o q e) first)
code_more p x place o os first others (suc k) q e =
    let here : place + 1 + k ≡ place + suc k = omega arith in
    subst (λ k. OpRules p x k q) here (others k q e)

code_less : (p : Program) (x : Unit) (place : ℕ) (o : Op) (os : List Op) → CodeRules p x place (o ∷ os) → OpRules p x place o × CodeRules p x (place + 1) os
code_less p x place o os all = (subst (λ k. OpRules p x k o) first (all 0 o refl), λ k q e. subst (λ k. OpRules p x k q) (later k) (all (suc k) q e))
  where
    first : place + 0 ≡ place
    first = omega arith

    later : (k : ℕ) → place + suc k ≡ place + 1 + k
    later k = omega arith

code_tells : (p : Program) (x : Unit) (place : ℕ) (os : List Op) → Decides (is_code_well p x place os) (CodeRules p x place os)
code_tells p x place [] = (λ e k o h. absurd (none o h), λ f. refl)
  where
    none : (o : Op) → None ≡ Some o → ⊥
    none o e = cc
code_tells p x place (o ∷ os) = Decides-like (is_op_well p x place o && is_code_well p x (place + 1) os) (λ h. code_more p x place o os h.0 h.1) (λ f. code_less p x place o os f) (Decides-and (is_op_well p x place o) (is_code_well p x (place + 1) os) (is_op_well_tells p x place o) (code_tells p x (place + 1) os))

starts_tells : (x : Unit) → Decides (starts_empty x) (IsOpenAt x 0 [])
starts_tells x = Decides-like (starts_empty x) (set_found x.sets 0 []) (set_there x.sets 0 []) (reached_tells (set_at x 0) [])

-- where a set stands, an instruction does
op_there : (x : Unit) (k : ℕ) (xs : OpenSet) → length x.sets ≡ length x.code → IsOpenAt x k xs → (o : Op) × Stands x k o
op_there x k xs long h = there_is x.code k (omega (arith, got_below x.sets k (Some xs) h, long))

unit_from : (p : Program) (x : Unit) → ((length x.sets ≡ length x.code) × IsOpenAt x 0 []) × CodeRules p x 0 x.code → UnitFits p x
unit_from p x h = record {
  long = h.0.0;
  first = h.0.1;
  registers = λ k o is. (at k o is).0.0;
  cursors = λ k xs there. let o = op_there x k xs h.0.0 there in ((at k o.0 o.1).1 xs there).0.0.0;
  units = λ k o is. (at k o is).0.1;
  uses = λ k o xs is there. ((at k o is).1 xs there).0.0.1;
  falls = λ k o xs ys is there e. ((at k o is).1 xs there).0.1 ys e;
  jumps = λ k o xs target is there e. ((at k o is).1 xs there).1 target e;
}
  where
    zero_more : (k : ℕ) → 0 + k ≡ k
    zero_more k = omega arith

    at : (k : ℕ) (o : Op) → Stands x k o → OpRules p x k o
    at k o is = subst (λ i. OpRules p x i o) (zero_more k) (h.1 k o is)

unit_to : (p : Program) (x : Unit) → UnitFits p x → ((length x.sets ≡ length x.code) × IsOpenAt x 0 []) × CodeRules p x 0 x.code
unit_to p x fits = ((fits.long, fits.first), λ k o is. subst (λ i. OpRules p x i o) (zero_more k) ((fits.registers k o is, fits.units k o is), λ xs there. (((fits.cursors k xs there, fits.uses k o xs is there), λ ys e. fits.falls k o xs ys is there e), λ target e. fits.jumps k o xs target is there e)))
  where
    zero_more : (k : ℕ) → k ≡ 0 + k
    zero_more k = omega arith

pub unit_tells : (p : Program) (x : Unit) → Decides (is_unit_well p x) (UnitFits p x)
unit_tells p x = Decides-like (is_unit_well p x) (unit_from p x) (unit_to p x) (Decides-and (nat_eq (length x.sets) (length x.code) && starts_empty x) (is_code_well p x 0 x.code) (Decides-and (nat_eq (length x.sets) (length x.code)) (starts_empty x) (Decides-eqb (length x.sets) (length x.code)) (starts_tells x)) (code_tells p x 0 x.code))

-- ---- a program

abbrev CalledRules : Program → Option Unit → Type 0
CalledRules p o = (x : Unit) → o ≡ Some x → (x.kind ≡ Called) × UnitFits p x

some_unit : (x y : Unit) → Some x ≡ Some y → x ≡ y
some_unit x y e = cc

called_tells : (p : Program) (o : Option Unit) → Decides (is_called_well p o) (CalledRules p o)
called_tells p None = (λ e x h. absurd (none x h), λ f. refl)
  where
    none : (x : Unit) → None ≡ Some x → ⊥
    none x e = cc
called_tells p (Some y) = Decides-like (is_called y.kind && is_unit_well p y) (λ h x e. subst (λ (z : Unit). (z.kind ≡ Called) × UnitFits p z) (some_unit y x e) (h.0, h.1)) (λ f. (f y refl)) (Decides-and (is_called y.kind) (is_unit_well p y) (is_called_tells y.kind) (unit_tells p y))

main_tells : (kind : UnitKind) → Decides (not (is_called kind)) (kind ≡ Main)
main_tells Main = (λ e. refl, λ e. refl)
main_tells Called = (λ e. absurd (cc), λ e. absurd (cc))

index_there : (xs : List (Option Unit)) (k : ℕ) (d : Option Unit) → k < length xs → slice_get xs k ≡ Some (slice_index_or xs k d)
index_there [] k d lt = absurd (omega arith)
index_there (x ∷ xs) zero d lt = refl
index_there (x ∷ xs) (suc k) d lt = index_there xs k d (omega arith)

some_inner : (x y : Option Unit) → Some x ≡ Some y → x ≡ y
some_inner x y e = cc

program_from : (p : Program) → ((p.main.kind ≡ Main) × UnitFits p p.main) × All (CalledRules p) p.units → IsAccepted p
program_from p h = record {
  main = h.0.0;
  main_fits = h.0.1;
  called = λ k x e. (at k x e).0;
  called_fit = λ k x e. (at k x e).1;
}
  where
    at : (k : ℕ) (x : Unit) → slice_get p.units k ≡ Some (Some x) → (x.kind ≡ Called) × UnitFits p x
    at k x e =
        let lt : k < length p.units = got_below p.units k (Some x) e in
        h.1 k None lt x (some_inner (slice_index_or p.units k None) (Some x) (sym (index_there p.units k None lt) ∙ e))

program_to : (p : Program) → IsAccepted p → ((p.main.kind ≡ Main) × UnitFits p p.main) × All (CalledRules p) p.units
program_to p a = ((a.main, a.main_fits), λ k d lt x e. (a.called k x (index_there p.units k d lt ∙ ap Some e), a.called_fit k x (index_there p.units k d lt ∙ ap Some e)))

pub program_tells : (p : Program) → Decides (is_well p) (IsAccepted p)
program_tells p = Decides-like (is_well p) (program_from p) (program_to p) (Decides-and (not (is_called p.main.kind) && is_unit_well p p.main) (list_all (is_called_well p) p.units) (Decides-and (not (is_called p.main.kind)) (is_unit_well p p.main) (main_tells p.main.kind) (unit_tells p p.main)) (Decides-by_and (is_called_well p) (CalledRules p) (list_all (is_called_well p)) (called_tells p) refl (λ _ _. refl) p.units))
