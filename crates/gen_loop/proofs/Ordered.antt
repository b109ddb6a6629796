-- What is done one after the other.
use Rattle.std.proofs.Common.{◌≡◌, List, [], ◌∷◌, ◌++◌, if◌then◌else◌, length, refl, sym, ap, ◌∙◌}
use Rattle.std.specs.List.{flat_map}
use Rattle.std.proofs.lemmas.List.Concat.{flat_map-cons}
use Rattle.std.specs.Option.{option_map, option_to_list}
use Rattle.std.specs.Prelude.{Some, None}
use Rattle.bound_tree.specs.Exprs.{BoundExpr}
use Rattle.eng_value.specs.Arrangements.{arranged}
use Rattle.eng_value.specs.Environments.{Environment, ItemRow, no_causes}
use Rattle.eng_value.specs.StoredRows.{StoredRow}
use Rattle.eng_value.specs.declared.out.Out.{Out}
use Rattle.gen_loop.specs.Loops.{KeepsWritten, at_row, each, gathering, nested, paired, passing, row_seen}
use Rattle.plan_tree.specs.Plans.{gathered, looped, paired_with, pairs_by, planned, stands_before, visited_by}
use Rattle.plan_tree.specs.declared.access.JoinPlan.{JoinPlan}
use Rattle.plan_tree.specs.declared.access.Loop.{Loop}
use Rattle.plan_tree.specs.declared.access.Pairs.{Pairs}
use Rattle.plan_tree.specs.declared.access.Pairs.TheVariants.{Each, OrAlone}
use Rattle.sql_meaning.specs.Products.{FromRow, in_row, passed, sifted}
use Rattle.vm_code.specs.Frames.{Effect, Memory, Outcome, Done, Fails, Quit, Sight, and_then}

and_then_twice : (o : Outcome) (f g : Memory → Outcome) → and_then (and_then o f) g ≡ and_then o (λ x. and_then (f x) g)
and_then_twice (Done x) f g = refl
and_then_twice (Quit x) f g = refl
and_then_twice (Fails c x) f g = refl

and_then_same : (o : Outcome) (f g : Memory → Outcome) → ((x : Memory) → f x ≡ g x) → and_then o f ≡ and_then o g
and_then_same (Done x) f g e = e x
and_then_same (Quit x) f g e = refl
and_then_same (Fails c x) f g e = refl

and_then_done : (o : Outcome) → and_then o Done ≡ o
and_then_done (Done x) = refl
and_then_done (Quit x) = refl
and_then_done (Fails c x) = refl

pub each_append : {A : Type 0} (f : A → Memory → Outcome) (xs ys : List A) (x : Memory) → each f (xs ++ ys) x ≡ and_then (each f xs x) (each f ys)
each_append f [] ys x = refl
each_append f (a ∷ xs) ys x =
    and_then_same (f a x) (each f (xs ++ ys)) (λ y. and_then (each f xs y) (each f ys)) (λ y. each_append f xs ys y)
    ∙ sym (and_then_twice (f a x) (each f xs) (each f ys))

pub each_flat : {A B : Type 0} (f : A → Memory → Outcome) (g : B → List A) (xs : List B) (x : Memory) → each f (flat_map g xs) x ≡ each (λ b. each f (g b)) xs x
each_flat f g [] x = refl
each_flat f g (b ∷ xs) x =
    ap (λ l. each f l x) (flat_map-cons g b xs)
    ∙ each_append f (g b) (flat_map g xs) x
    ∙ and_then_same (each f (g b) x) (each f (flat_map g xs)) (each (λ b. each f (g b)) xs) (λ y. each_flat f g xs y)

pub each_same : {A : Type 0} (f g : A → Memory → Outcome) (xs : List A) (x : Memory) → ((a : A) (y : Memory) → f a y ≡ g a y) → each f xs x ≡ each g xs x
each_same f g [] x e = refl
each_same f g (a ∷ xs) x e =
    ap (λ o. and_then o (each f xs)) (e a x) ∙ and_then_same (g a x) (each f xs) (each g xs) (λ y. each_same f g xs y e)

-- ---- rows that are seen do not matter to those of loops

flat_map_same : {A B : Type 0} (f g : A → List B) (xs : List A) → ((x : A) → f x ≡ g x) → flat_map f xs ≡ flat_map g xs
flat_map_same f g [] e = refl
flat_map_same f g (x ∷ xs) e =
    flat_map-cons f x xs
    ∙ ap (λ l. l ++ flat_map f xs) (e x)
    ∙ ap (λ l. g x ++ l) (flat_map_same f g xs e)
    ∙ sym (flat_map-cons g x xs)

module _ (env : Environment) (seen : List ItemRow) where
  abbrev other : Environment
  other = record env { rows = seen }

  paired-in : (place : _) (p : Pairs) (rows : List StoredRow) (row : FromRow) → paired_with other place p rows row ≡ paired_with env place p rows row
  paired-in place Each rows row = refl
  paired-in place (OrAlone ons) rows row = refl

  pub looped-in : (loops : List Loop) (row : FromRow) → looped other loops row ≡ looped env loops row
  looped-in [] row = refl
  looped-in (l ∷ loops) row =
      flat_map_same (λ pair. flat_map (looped other loops) (passed other l.checks pair)) (λ pair. flat_map (looped env loops) (passed env l.checks pair)) (pairs_by other l row) (λ pair. flat_map_same (looped other loops) (looped env loops) (passed env l.checks pair) (looped-in loops))
      ∙ ap (flat_map (λ pair. flat_map (looped env loops) (passed env l.checks pair))) (paired-in l.place l.pairs (visited_by env l row) row)

-- ---- loops by the outermost one

module _ (f : Effect) (sight : Sight) where
  -- what is done with the rows of loops behind conjuncts
  pub passing_nested : (conjuncts : List BoundExpr) (loops : List Loop) (row : FromRow) (x : Memory) → each (at_row f sight) (flat_map (looped sight.env loops) (passed sight.env conjuncts row)) x ≡ at_row (passing conjuncts (nested loops f)) sight row x
  passing_nested conjuncts loops row x =
      each_flat (at_row f sight) (looped sight.env loops) (passed sight.env conjuncts row) x
      ∙ each_same (λ q. each (at_row f sight) (looped sight.env loops q)) (at_row (nested loops f) (record sight { env = in_row sight.env row })) (passed sight.env conjuncts row) x (λ q y. ap (λ rs. each (at_row f sight) rs y) (sym (looped-in sight.env q.rows loops q)))

  pub nested-cons : (l : Loop) (loops : List Loop) (causes : Out) (x : Memory) → nested (l ∷ loops) f sight causes x ≡ paired l (passing l.checks (nested loops f)) sight causes x
  nested-cons l loops causes x =
      let row = row_seen sight causes in
      each_flat (at_row f sight) (λ pair. flat_map (looped sight.env loops) (passed sight.env l.checks pair)) (pairs_by sight.env l row) x
      ∙ each_same (λ pair. each (at_row f sight) (flat_map (looped sight.env loops) (passed sight.env l.checks pair))) (at_row (passing l.checks (nested loops f)) sight) (pairs_by sight.env l row) x (λ pair y. passing_nested l.checks loops pair y)

  pub nested-nil : (causes : Out) (x : Memory) → nested [] f sight causes x ≡ f sight causes x
  nested-nil causes x = and_then_done (f sight causes x)

  pub from-nested : (p : JoinPlan) (causes : Out) (x : Memory) → gathering p f sight causes x ≡ passing p.checks (nested p.loops f) sight no_causes x
  from-nested p causes x = passing_nested p.checks p.loops (row_seen sight no_causes) x

  -- a conjunct rejects, or not
  pub passing-none : (conjuncts : List BoundExpr) (causes : Out) (x : Memory) → sifted conjuncts sight.env causes ≡ None → passing conjuncts f sight causes x ≡ Done x
  passing-none conjuncts causes x e =
      ap (λ o. each (at_row f sight) (option_to_list (option_map (λ v. record (row_seen sight causes) { causes = v }) o)) x) e

  pub passing-some : (conjuncts : List BoundExpr) (causes v : Out) (x : Memory) → sifted conjuncts sight.env causes ≡ Some v → passing conjuncts f sight causes x ≡ f sight v x
  passing-some conjuncts causes v x e =
      ap (λ o. each (at_row f sight) (option_to_list (option_map (λ v. record (row_seen sight causes) { causes = v }) o)) x) e
      ∙ and_then_done (f sight v x)

-- ---- what writes nothing

each-keeps : (f : Effect) → KeepsWritten f → (sight : Sight) (rows : List FromRow) (x y : Memory) → each (at_row f sight) rows x ≡ Done y → y.shared.written ≡ x.shared.written
each-keeps f keeps sight [] x y e = let same : x ≡ y = cc in ap (λ (z : Memory). z.shared.written) (sym same)
each-keeps f keeps sight (row ∷ rows) x y e =
    by (λ z rest. each-keeps f keeps sight rows z y rest) (at_row f sight row x) refl e
  where
    by : ((z : Memory) → each (at_row f sight) rows z ≡ Done y → y.shared.written ≡ z.shared.written) → (o : Outcome) → at_row f sight row x ≡ o → and_then o (each (at_row f sight) rows) ≡ Done y → y.shared.written ≡ x.shared.written
    by rest (Done z) is e = rest z e ∙ keeps (record sight { env = in_row sight.env row }) row.causes x z is
    by rest (Quit z) is e = absurd (cc)
    by rest (Fails c z) is e = absurd (cc)

pub nested-keeps : (loops : List Loop) (f : Effect) → KeepsWritten f → KeepsWritten (nested loops f)
nested-keeps loops f keeps sight causes x y e =
    each-keeps f keeps sight (looped sight.env loops (row_seen sight causes)) x y e

-- ---- rows that are seen do not matter to those of a plan

pub gathered-in : (env : Environment) (seen : List ItemRow) (p : JoinPlan) (row : FromRow) → gathered (record env { rows = seen }) p row ≡ gathered env p row
gathered-in env seen p row =
    flat_map_same (looped (record env { rows = seen }) p.loops) (looped env p.loops) (passed env p.checks row) (looped-in env seen p.loops)

pub planned-in : (env : Environment) (seen : List ItemRow) (p : JoinPlan) (row : FromRow) → planned (record env { rows = seen }) p row ≡ planned env p row
planned-in env seen p row =
    ap (λ rows. if p.sort then arranged (stands_before (length p.loops)) rows else rows) (gathered-in env seen p row)
