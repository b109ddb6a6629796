-- In which order a name is looked up.
use Rattle.std.proofs.Common.{◌≡◌, ℕ, true, List, [], ◌∷◌, Some, None, Ok, Err, refl}
use Rattle.std.specs.List.{flat_map}
use Rattle.eng_value.specs.declared.cause.Cause.TheVariants.{Ambiguous, Unknown}
use Rattle.eng_value.specs.declared.cause.Cause.{Cause}
use Rattle.eng_value.specs.declared.cause.NameKind.TheVariants as kind
use Rattle.sql_bound.specs.Columns.{alias_named, column_bound}
use Rattle.sql_bound.specs.Operands.{column_operand}
use Rattle.sql_bound.specs.Scopes.{Alias, Level, Scope, bare_in, counted_once, name_of_ambiguous, nearest, needed}
use Rattle.sql_bound.specs.declared.scopes.Operand.{Operand}
use Rattle.sql_bound.specs.declared.scopes.ScopeColumn.{ScopeColumn}
use Rattle.sql_bound.specs.declared.scopes.Work.{Work}

module _ (s : Scope) (own : Level) (outer : List Level) (name : List ℕ) (w : Work) (may : s.outer.allowed.columns ≡ true) (levels : s.outer.levels ≡ own ∷ outer) where
  pub own_first : (c : ScopeColumn) → counted_once (flat_map (bare_in name) own) ≡ c ∷ [] → column_bound s name w ≡ Ok (column_operand c c.tree, w)
  own_first c h = rw (may, levels, h) refl

  pub own_ambiguous : (c d : ScopeColumn) (others : List ScopeColumn) → counted_once (flat_map (bare_in name) own) ≡ c ∷ (d ∷ others) → column_bound s name w ≡ Err (Ambiguous (name_of_ambiguous name c))
  own_ambiguous c d others h = rw (may, levels, h) refl

  pub result_next : (a : Alias) (x : Operand) (v : Work) → flat_map (bare_in name) own ≡ [] → alias_named name s.aliases ≡ Some a → a.shown s.aggregates w ≡ Ok (x, v) → column_bound s name w ≡ Ok (x, v)
  result_next a x v h k r = rw (may, levels, h, k, r) refl

  pub result_refused : (a : Alias) (why : Cause) → flat_map (bare_in name) own ≡ [] → alias_named name s.aliases ≡ Some a → a.shown s.aggregates w ≡ Err why → column_bound s name w ≡ Err why
  result_refused a why h k r = rw (may, levels, h, k, r) refl

  pub then_further_out : (up : ℕ) (c : ScopeColumn) → flat_map (bare_in name) own ≡ [] → alias_named name s.aliases ≡ None → nearest name (bare_in name) outer ≡ Ok (Some (record { up = up; column = c })) → column_bound s name w ≡ Ok (column_operand c (needed (record { up = up; tree = c.tree }) w).0, (needed (record { up = up; tree = c.tree }) w).1)
  then_further_out up c h k n = rw (may, levels, h, k, n) refl

  pub else_unknown : flat_map (bare_in name) own ≡ [] → alias_named name s.aliases ≡ None → nearest name (bare_in name) outer ≡ Ok None → column_bound s name w ≡ Err (Unknown kind.Column name)
  else_unknown h k n = rw (may, levels, h, k, n) refl
