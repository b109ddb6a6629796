-- Laws of names of results, and of what is done in turn.
use Rattle.std.proofs.Common.{◌≡◌, ℕ, Bool, true, false, List, [], ◌∷◌, ◌++◌, map, Option, Some, None, Ok, Err, ap, ◌∙◌, refl, rules, if◌then◌else◌, drop}
use Rattle.eng_entry.specs.Names.{is_same_name}
use Rattle.sql_tree.specs.declared.expr.Expr.{Expr, the_lemmas}
use Rattle.sql_tree.specs.declared.expr.Expr.TheOpen.{ResultColumn-F}
use Rattle.sql_tree.specs.declared.query.ResultColumn.{ResultColumn, out-ResultColumn, roll-ResultColumn, roll-out-ResultColumn}
use Rattle.sql_tree.specs.declared.query.SpannedExpr.{out-SpannedExpr}
use Rattle.sql_tree.specs.Layers.{ResultLayer, of_result as layer_of}
use Rattle.sql_words.specs.Spelled.{name_at}
use Rattle.sql_bound.specs.Columns.{alias_named, named_in, of_alias, of_outer, of_own, seen}
use Rattle.sql_bound.specs.Refusals.{Checked}
use Rattle.sql_bound.specs.declared.scopes.Sight.{Sight}
use Rattle.eng_value.specs.declared.cause.Cause.{Cause}
use Rattle.sql_bound.specs.Results.{alias_of, aliases_of}
use Rattle.sql_bound.specs.Scopes.{Alias, Answer, Level, Scope}
use Rattle.sql_bound.specs.Trees.{of_expr, of_result}
use Rattle.sql_bound.specs.declared.scopes.Operand.{Operand}
use Rattle.sql_bound.specs.declared.scopes.Standing.{Standing}
use Rattle.sql_bound.specs.declared.scopes.Work.{Work}
use Rattle.sql_words.specs.Refusals.{◌>>=◌}
use Rattle.bind_query.specs.Scopes.{Levels, named_here, own_sight, result_called}

-- ---- the own FROM comes first

pub named-own : (ls : Levels) (s : Scope) (name : List ℕ) (w : Work) → named_in ls s name w ≡ (own_sight ls name >>= λ sight. of_own sight s name (drop 1 ls) w)
named-own [] s name w = refl
named-own (own ∷ outer) s name w = refl

module _ (ls : Levels) (s : Scope) (name : List ℕ) (w : Work) where
  own_next : (r : Checked (Option Sight)) → own_sight ls name ≡ r → named_in ls s name w ≡ (r >>= λ sight. of_own sight s name (drop 1 ls) w)
  own_next r is = named-own ls s name w ∙ ap (λ (o : Checked (Option Sight)). o >>= λ sight. of_own sight s name (drop 1 ls) w) is

  pub named-refused : (why : Cause) → own_sight ls name ≡ Err why → named_in ls s name w ≡ Err why
  named-refused why is = own_next (Err why) is

  pub named-seen : (sight : Sight) → own_sight ls name ≡ Ok (Some sight) → named_in ls s name w ≡ Ok (seen sight w)
  named-seen sight is = own_next (Ok (Some sight)) is

  pub named-beside : own_sight ls name ≡ Ok None → named_in ls s name w ≡ of_own None s name (drop 1 ls) w
  named-beside is = own_next (Ok None) is

-- ---- names of results

alias_by : List ℕ → Scope → ResultLayer → List Alias
alias_by text plain ResultColumn-F.All = []
alias_by text plain (ResultColumn-F.AllOf t) = []
alias_by text plain (ResultColumn-F.Expression x None) = []
alias_by text plain (ResultColumn-F.Expression x (Some t)) = record { name = name_at text t; shown = λ standing. (of_expr (out-SpannedExpr x).expr).bound (record plain { aggregates = standing }) } ∷ []

alias_is : (text : List ℕ) (plain : Scope) (l : ResultLayer) → alias_of text plain (of_result (roll-ResultColumn l)) ≡ alias_by text plain l
unfolding alias_by
alias_is text plain ResultColumn-F.All = search (rules, the_lemmas)
alias_is text plain (ResultColumn-F.AllOf t) = search (rules, the_lemmas)
alias_is text plain (ResultColumn-F.Expression x None) = search (rules, the_lemmas)
alias_is text plain (ResultColumn-F.Expression x (Some t)) = search (rules, the_lemmas)

alias_out : (text : List ℕ) (plain : Scope) (r : ResultColumn) → alias_of text plain (of_result r) ≡ alias_by text plain (layer_of r)
alias_out text plain r = rw (roll-out-ResultColumn r) at (alias_is text plain (out-ResultColumn r))

-- what a name of a result is bound to, or else a column further out
pub of_shown : Standing → Scope → Option Expr → List ℕ → List Level → Work → Answer Operand
of_shown standing plain None name outer w = of_outer name outer w
of_shown standing plain (Some x) name outer w = (of_expr x).bound (record plain { aggregates = standing }) w

found_here : (text : List ℕ) (standing : Standing) (plain : Scope) (l : ResultLayer) (rest : List Alias) (more : Option Expr) (name : List ℕ) (outer : List Level) (w : Work)
    → of_alias standing (alias_named name rest) name outer w ≡ of_shown standing plain more name outer w
    → of_alias standing (alias_named name (alias_by text plain l ++ rest)) name outer w ≡ of_shown standing plain (named_here text name l more) name outer w
unfolding alias_by of_shown
found_here text standing plain ResultColumn-F.All rest more name outer w h = h
found_here text standing plain (ResultColumn-F.AllOf t) rest more name outer w h = h
found_here text standing plain (ResultColumn-F.Expression x None) rest more name outer w h = h
found_here text standing plain (ResultColumn-F.Expression x (Some t)) rest more name outer w h = by (is_same_name (name_at text t) name) refl
  where
    by : (b : Bool) → is_same_name (name_at text t) name ≡ b
        → of_alias standing (if b then Some (record { name = name_at text t; shown = λ standing. (of_expr (out-SpannedExpr x).expr).bound (record plain { aggregates = standing }) }) else alias_named name rest) name outer w
        ≡ of_shown standing plain (if b then Some (out-SpannedExpr x).expr else more) name outer w
    by true is = refl
    by false is = h

pub result-called : (text : List ℕ) (standing : Standing) (plain : Scope) (rs : List ResultColumn) (name : List ℕ) (outer : List Level) (w : Work)
    → of_alias standing (alias_named name (aliases_of text plain (map of_result rs))) name outer w ≡ of_shown standing plain (result_called text rs name) name outer w
unfolding of_shown
result-called text standing plain [] name outer w = refl
result-called text standing plain (r ∷ rs) name outer w =
    ap (λ front. of_alias standing (alias_named name (front ++ aliases_of text plain (map of_result rs))) name outer w) (alias_out text plain r)
    ∙ found_here text standing plain (layer_of r) (aliases_of text plain (map of_result rs)) (result_called text rs name) name outer w (result-called text standing plain rs name outer w)

module _ (text : List ℕ) (standing : Standing) (plain : Scope) (rs : List ResultColumn) (name : List ℕ) (outer : List Level) (w : Work) where
  pub result-there : (x : Expr) → result_called text rs name ≡ Some x
      → of_alias standing (alias_named name (aliases_of text plain (map of_result rs))) name outer w ≡ (of_expr x).bound (record plain { aggregates = standing }) w
  unfolding of_shown
  result-there x is = result-called text standing plain rs name outer w ∙ ap (λ o. of_shown standing plain o name outer w) is

  pub no-result : result_called text rs name ≡ None → of_alias standing (alias_named name (aliases_of text plain (map of_result rs))) name outer w ≡ of_outer name outer w
  unfolding of_shown
  no-result is = result-called text standing plain rs name outer w ∙ ap (λ o. of_shown standing plain o name outer w) is
