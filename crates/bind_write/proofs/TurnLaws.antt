-- What is done in turn, from the definitions that put each in front of what comes behind it.
use Rattle.std.proofs.Common.{◌≡◌, ℕ, ◌+◌, ◌<◌, ◌≤◌, List, [], ◌∷◌, ◌++◌, length, drop, get_or, Ok, Err, ap, sym, ◌∙◌, refl}
use Rattle.std.proofs.lemmas.List.{at_drop_all, at_drop_more}
use Rattle.eng_value.specs.declared.cause.Cause.{Cause}
use Rattle.std.specs.List.{flat_map}
use Rattle.std.proofs.lemmas.List.{append_assoc}
use Rattle.sql_bound.specs.Carriers.{RowParts}
use Rattle.sql_bound.specs.Declarations.{DeclaredColumn, checks_of, table_checks}
use Rattle.sql_bound.specs.Refusals.{Checked}
use Rattle.sql_bound.specs.Scopes.{Around, Level, Outer}
use Rattle.sql_bound.specs.Targets.{checks_bound, default_bound, defaults_bound}
use Rattle.sql_bound.specs.Triggers.{step_bound, steps_bound}
use Rattle.sql_bound.specs.Writes.{Opened, Opening}
use Rattle.sql_bound.specs.declared.scopes.Work.{Work}
use Rattle.sql_words.specs.Refusals.{◌>>=◌}
use Rattle.sql_tree.specs.declared.expr.Expr.{Expr}
use Rattle.sql_tree.specs.declared.statement.ColumnConstraint.TheVariants as column_constraint
use Rattle.sql_tree.specs.declared.statement.ColumnConstraint.{ColumnConstraint}
use Rattle.sql_tree.specs.declared.statement.TableConstraint.TheVariants as table_constraint
use Rattle.sql_tree.specs.declared.statement.TableConstraint.{TableConstraint}
use Rattle.bind_write.specs.Turns.{check_bound, in_turn}

-- one after another, each in front of those behind it
abbrev each : {A B S : Type 0} → (A → S → Checked (B × S)) → List A → S → Checked (List B × S)
each f [] s = Ok ([], s)
each f (x ∷ xs) s = f x s >>= λ a. each f xs a.1 >>= λ more. Ok (a.0 ∷ more.0, more.1)

pub append-none : {B : Type 0} (ys : List B) → ys ++ [] ≡ ys
append-none [] = refl
append-none (y ∷ ys) = ap (λ zs. y ∷ zs) (append-none ys)

module _ {A B S : Type 0} (f : A → S → Checked (B × S)) where
  -- behind what there is so far
  behind : List B → Checked (List B × S) → Checked (List B × S)
  behind so_far (Ok a) = Ok (so_far ++ a.0, a.1)
  behind so_far (Err why) = Err why

  one : (xs : List A) (so_far : List B) (r : Checked (B × S))
      → ((a : B × S) → in_turn f xs (so_far ++ a.0 ∷ []) a.1 ≡ behind (so_far ++ a.0 ∷ []) (each f xs a.1))
      → (r >>= λ a. in_turn f xs (so_far ++ a.0 ∷ []) a.1) ≡ behind so_far (r >>= λ a. each f xs a.1 >>= λ more. Ok (a.0 ∷ more.0, more.1))
  unfolding behind
  one xs so_far (Err why) h = refl
  one xs so_far (Ok a) h = h a ∙ more (each f xs a.1)
    where
      more : (r : Checked (List B × S)) → behind (so_far ++ a.0 ∷ []) r ≡ behind so_far (r >>= λ m. Ok (a.0 ∷ m.0, m.1))
      more (Err why) = refl
      more (Ok m) = ap (λ all. Ok (all, m.1)) (append_assoc so_far (a.0 ∷ []) m.0)

  turn-behind : (xs : List A) (so_far : List B) (s : S) → in_turn f xs so_far s ≡ behind so_far (each f xs s)
  unfolding behind
  turn-behind [] so_far s = ap (λ all. Ok (all, s)) (sym (append-none so_far))
  turn-behind (x ∷ xs) so_far s = one xs so_far (f x s) (λ a. turn-behind xs (so_far ++ a.0 ∷ []) a.1)

  pub each-turn : (xs : List A) (s : S) → each f xs s ≡ in_turn f xs [] s
  unfolding behind
  each-turn xs s = all (each f xs s) refl ∙ sym (turn-behind xs [] s)
    where
      all : (r : Checked (List B × S)) → each f xs s ≡ r → r ≡ behind [] r
      all (Ok a) is = refl
      all (Err why) is = refl

  -- ---- of two lists

  both-next : (xs ys : List A) (so_far : List B) (r : Checked (B × S))
      → ((a : B × S) → in_turn f (xs ++ ys) (so_far ++ a.0 ∷ []) a.1 ≡ (in_turn f xs (so_far ++ a.0 ∷ []) a.1 >>= λ m. in_turn f ys m.0 m.1))
      → (r >>= λ a. in_turn f (xs ++ ys) (so_far ++ a.0 ∷ []) a.1) ≡ ((r >>= λ a. in_turn f xs (so_far ++ a.0 ∷ []) a.1) >>= λ m. in_turn f ys m.0 m.1)
  both-next xs ys so_far (Ok a) h = h a
  both-next xs ys so_far (Err why) h = refl

  pub turn-both : (xs ys : List A) (so_far : List B) (s : S) → in_turn f (xs ++ ys) so_far s ≡ (in_turn f xs so_far s >>= λ m. in_turn f ys m.0 m.1)
  turn-both [] ys so_far s = refl
  turn-both (x ∷ xs) ys so_far s = both-next xs ys so_far (f x s) (λ a. turn-both xs ys (so_far ++ a.0 ∷ []) a.1)

-- ---- of a list that is walked, each member of which stands for some of what is done

module _ {A B C S : Type 0} (f : A → S → Checked (B × S)) (g : List C → List A) (split : (c : C) (cs : List C) → g (c ∷ cs) ≡ g (c ∷ []) ++ g cs) where
  walk-split : (cs : List C) (i : ℕ) (d : C) (so_far : List B) (s : S) → i < length cs
      → in_turn f (g (drop i cs)) so_far s ≡ (in_turn f (g (get_or cs i d ∷ [])) so_far s >>= λ m. in_turn f (g (drop (i + 1) cs)) m.0 m.1)
  walk-split cs i d so_far s within =
      at_drop_more (λ ys. in_turn f (g ys) so_far s) cs i d within
      ∙ ap (λ ys. in_turn f ys so_far s) (split (get_or cs i d) (drop (i + 1) cs))
      ∙ turn-both f (g (get_or cs i d ∷ [])) (g (drop (i + 1) cs)) so_far s

  pub turn-passed : (cs : List C) (i : ℕ) (d : C) (so_far new : List B) (s t : S) → i < length cs → in_turn f (g (get_or cs i d ∷ [])) so_far s ≡ Ok (new, t)
      → in_turn f (g (drop i cs)) so_far s ≡ in_turn f (g (drop (i + 1) cs)) new t
  turn-passed cs i d so_far new s t within passed =
      walk-split cs i d so_far s within ∙ ap (λ (r : Checked (List B × S)). r >>= λ m. in_turn f (g (drop (i + 1) cs)) m.0 m.1) passed

  pub turn-refused : (cs : List C) (i : ℕ) (d : C) (so_far : List B) (s : S) (why : Cause) → i < length cs → in_turn f (g (get_or cs i d ∷ [])) so_far s ≡ Err why
      → in_turn f (g (drop i cs)) so_far s ≡ Err why
  turn-refused cs i d so_far s why within refused =
      walk-split cs i d so_far s within ∙ ap (λ (r : Checked (List B × S)). r >>= λ m. in_turn f (g (drop (i + 1) cs)) m.0 m.1) refused

  pub turn-end : (cs : List C) (i : ℕ) (so_far : List B) (s : S) → length cs ≤ i → g [] ≡ [] → in_turn f (g (drop i cs)) so_far s ≡ Ok (so_far, s)
  turn-end cs i so_far s past none =
      at_drop_all (λ ys. in_turn f (g ys) so_far s) cs i past ∙ ap (λ ys. in_turn f ys so_far s) none

-- one member in turn
pub turn-one : {A B S : Type 0} (f : A → S → Checked (B × S)) (x : A) (so_far : List B) (s t : S) (b : B) → f x s ≡ Ok (b, t) → in_turn f (x ∷ []) so_far s ≡ Ok (so_far ++ b ∷ [], t)
turn-one {A} {B} {S} f x so_far s t b is = ap (λ (r : Checked (B × S)). r >>= λ a. Ok (so_far ++ a.0 ∷ [], a.1)) is

pub turn-one-refused : {A B S : Type 0} (f : A → S → Checked (B × S)) (x : A) (so_far : List B) (s : S) (why : Cause) → f x s ≡ Err why → in_turn f (x ∷ []) so_far s ≡ Err why
turn-one-refused {A} {B} {S} f x so_far s why is = ap (λ (r : Checked (B × S)). r >>= λ a. Ok (so_far ++ a.0 ∷ [], a.1)) is

-- ---- of the definitions

abbrev onward : {B S : Type 0} → Checked (B × S) → (S → Checked (List B × S)) → Checked (List B × S)
onward r f = r >>= λ a. f a.1 >>= λ more. Ok (a.0 ∷ more.0, more.1)

onward-same : {B S : Type 0} (r : Checked (B × S)) (f g : S → Checked (List B × S)) → ((s : S) → f s ≡ g s) → onward r f ≡ onward r g
onward-same (Err why) f g h = refl
onward-same {B} {S} (Ok a) f g h = ap (λ (m : Checked (List B × S)). m >>= λ more. Ok (a.0 ∷ more.0, more.1)) (h a.1)

defaults-each : (around : Around) (text : List ℕ) (cs : List DeclaredColumn) (w : Work) → defaults_bound around text cs w ≡ each (λ (c : DeclaredColumn). default_bound around text c.default) cs w
defaults-each around text [] w = refl
defaults-each around text (c ∷ cs) w =
    onward-same (default_bound around text c.default w) (defaults_bound around text cs) (each (λ (d : DeclaredColumn). default_bound around text d.default) cs) (λ s. defaults-each around text cs s)

pub defaults-turn : (around : Around) (text : List ℕ) (cs : List DeclaredColumn) (w : Work) → defaults_bound around text cs w ≡ in_turn (λ (c : DeclaredColumn). default_bound around text c.default) cs [] w
defaults-turn around text cs w = defaults-each around text cs w ∙ each-turn (λ (c : DeclaredColumn). default_bound around text c.default) cs w

checks-each : (around : Around) (text : List ℕ) (level : Level) (xs : List Expr) (w : Work) → checks_bound around text level xs w ≡ each (check_bound around text level) xs w
checks-each around text level [] w = refl
checks-each around text level (x ∷ xs) w =
    onward-same (check_bound around text level x w) (checks_bound around text level xs) (each (check_bound around text level) xs) (λ s. checks-each around text level xs s)

pub checks-turn : (around : Around) (text : List ℕ) (level : Level) (xs : List Expr) (w : Work) → checks_bound around text level xs w ≡ in_turn (check_bound around text level) xs [] w
checks-turn around text level xs w = checks-each around text level xs w ∙ each-turn (check_bound around text level) xs w

module _ (opening : Opening) (around : Around) (o : Outer) where
  steps-each : (cs : List RowParts) (s : Opened) → steps_bound opening around o cs s ≡ each (step_bound opening around o) cs s
  steps-each [] s = refl
  steps-each (c ∷ cs) s = onward-same (step_bound opening around o c s) (steps_bound opening around o cs) (each (step_bound opening around o) cs) (λ n. steps-each cs n)

  pub steps-turn : (cs : List RowParts) (s : Opened) → steps_bound opening around o cs s ≡ in_turn (step_bound opening around o) cs [] s
  steps-turn cs s = steps-each cs s ∙ each-turn (step_bound opening around o) cs s

-- ---- the CHECKs of constraints, one constraint in front of others

pub checks-cons : (c : ColumnConstraint) (cs : List ColumnConstraint) → checks_of (c ∷ cs) ≡ checks_of (c ∷ []) ++ checks_of cs
checks-cons column_constraint.PrimaryKey cs = refl
checks-cons column_constraint.NotNull cs = refl
checks-cons column_constraint.Null cs = refl
checks-cons column_constraint.Unique cs = refl
checks-cons (column_constraint.Check x) cs = refl
checks-cons (column_constraint.Default x) cs = refl
checks-cons (column_constraint.Collate t) cs = refl

pub table_checks-cons : (c : TableConstraint) (cs : List TableConstraint) → table_checks (c ∷ cs) ≡ table_checks (c ∷ []) ++ table_checks cs
table_checks-cons (table_constraint.PrimaryKey key) cs = refl
table_checks-cons (table_constraint.Unique key) cs = refl
table_checks-cons (table_constraint.Check x) cs = refl

pub flat-cons : {A B : Type 0} (g : A → List B) (x : A) (xs : List A) → flat_map g (x ∷ xs) ≡ flat_map g (x ∷ []) ++ flat_map g xs
flat-cons g x xs = ap (λ ys. ys ++ flat_map g xs) (sym (append-none (g x)))
