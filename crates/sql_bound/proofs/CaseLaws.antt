-- Names that are the same but for the case of letters are looked up alike.
use Rattle.std.proofs.Common.{◌≡◌, ◌∙◌, ℕ, suc, Bool, true, false, cond, Option, List, [], ◌∷◌, ◌++◌, Some, None, Ok, Err, refl, sym, ap}
use Rattle.std.specs.List.{flat_map}
use Rattle.std.proofs.lemmas.Slice.Eq.{bytes_eq-Decides}
use Rattle.eng_text.specs.Texts.{folded}
use Rattle.eng_entry.specs.Names.{is_same_name}
use Rattle.eng_value.specs.declared.cause.Cause.TheVariants.{Misuse}
use Rattle.sql_words.specs.Names.{dotted}
use Rattle.sql_words.specs.Refusals.{◌>>=◌}
use Rattle.sql_bound.specs.Columns.{alias_named, called_column_bound, column_bound, further_out, name_shown, named_in, of_alias, of_outer, of_own, seen_or_unknown}
use Rattle.sql_bound.specs.Refusals.{Checked}
use Rattle.sql_bound.specs.Scopes.{Alias, Level, Scope, bare_in, called_in, counted_once, nearest, nearest_from, nearest_of, with_named}
use Rattle.sql_bound.specs.declared.scopes.Operand.{Operand}
use Rattle.sql_bound.specs.declared.scopes.ScopeColumn.{ScopeColumn}
use Rattle.sql_bound.specs.declared.scopes.ScopeItem.{ScopeItem}
use Rattle.sql_bound.specs.declared.scopes.Sight.{Sight}
use Rattle.sql_bound.specs.declared.scopes.Standing.{Standing}
use Rattle.sql_bound.specs.declared.scopes.WithEntry.{WithEntry}
use Rattle.sql_bound.specs.declared.scopes.Work.{Work}

pub folds_alike : (a b : List ℕ) → is_same_name a b ≡ true → folded a ≡ folded b
folds_alike a b h = (bytes_eq-Decides (folded a) (folded b)).0 h

level_alike : (p q : ScopeItem → List ScopeColumn) → ((item : ScopeItem) → p item ≡ q item) → (level : Level) → flat_map p level ≡ flat_map q level
level_alike p q alike [] = refl
level_alike p q alike (item ∷ level) = ap (λ l. l ++ flat_map p level) (alike item) ∙ ap (λ l. q item ++ l) (level_alike p q alike level)

module _ (a b : List ℕ) (same : folded a ≡ folded b) where
  told_alike : (up : ℕ) (columns : List ScopeColumn) (further : Checked (Option Sight)) → nearest_of a up columns further ≡ nearest_of b up columns further
  told_alike up [] further = refl
  told_alike up (c ∷ []) further = refl
  told_alike up (c ∷ d ∷ others) further = rw same refl

  levels_alike : (p q : ScopeItem → List ScopeColumn) → ((item : ScopeItem) → p item ≡ q item) → (up : ℕ) (levels : List Level) → nearest_from up a (λ level. counted_once (flat_map p level)) levels ≡ nearest_from up b (λ level. counted_once (flat_map q level)) levels
  levels_alike p q alike up [] = refl
  levels_alike p q alike up (level ∷ levels) =
      told_alike up (counted_once (flat_map p level)) (nearest_from (suc up) a (λ l. counted_once (flat_map p l)) levels) ∙
      ap (λ l. nearest_of b up (counted_once l) (nearest_from (suc up) a (λ l. counted_once (flat_map p l)) levels)) (level_alike p q alike level) ∙
      ap (λ f. nearest_of b up (counted_once (flat_map q level)) f) (levels_alike p q alike (suc up) levels)

  pub alone : (levels : List Level) → nearest a (bare_in a) levels ≡ nearest b (bare_in b) levels
  alone levels = levels_alike (bare_in a) (bare_in b) (λ item. rw same refl) 0 levels

  pub called_alike : (t u : List ℕ) → folded t ≡ folded u → (levels : List Level) → nearest a (called_in t a) levels ≡ nearest b (called_in u b) levels
  called_alike t u tables levels = levels_alike (called_in t a) (called_in u b) (item_alike t u tables) 0 levels where
    item_alike : (t u : List ℕ) → folded t ≡ folded u → (item : ScopeItem) → called_in t a item ≡ called_in u b item
    item_alike t u tables item = elim (item.name) as (λ n. called_in t a (record item { name = n }) ≡ called_in u b (record item { name = n })) [ None ↦ refl | Some name ↦ rw (same, tables) refl ]

  pub result_alike : (results : List Alias) → alias_named a results ≡ alias_named b results
  result_alike results = rw same refl

  pub with_alike : (tables : List WithEntry) → with_named a tables ≡ with_named b tables
  with_alike tables = rw same refl

  -- ---- as it is bound

  sight_alike : (found : Option Sight) (w : Work) (x : Operand × Work) → seen_or_unknown a found w ≡ Ok x → seen_or_unknown b found w ≡ Ok x
  sight_alike None w x e = cc
  sight_alike (Some sight) w x e = e

  outer_alike : (outer : List Level) (w : Work) (x : Operand × Work) → of_outer a outer w ≡ Ok x → of_outer b outer w ≡ Ok x
  outer_alike outer w x e = go (nearest b (bare_in b) outer) (ap (λ n. n >>= λ s. seen_or_unknown a (further_out s) w) (sym (alone outer)) ∙ e) where
    go : (found : Checked (Option Sight)) → (found >>= λ s. seen_or_unknown a (further_out s) w) ≡ Ok x → (found >>= λ s. seen_or_unknown b (further_out s) w) ≡ Ok x
    go (Err why) k = cc
    go (Ok s) k = sight_alike (further_out s) w x k

  or_result_alike : (standing : Standing) (found : Option Alias) (outer : List Level) (w : Work) (x : Operand × Work) → of_alias standing found a outer w ≡ Ok x → of_alias standing found b outer w ≡ Ok x
  or_result_alike standing None outer w x e = outer_alike outer w x e
  or_result_alike standing (Some r) outer w x e = e

  own_alike : (found : Option Sight) (s : Scope) (outer : List Level) (w : Work) (x : Operand × Work) → of_own found s a outer w ≡ Ok x → of_own found s b outer w ≡ Ok x
  own_alike None s outer w x e = or_result_alike s.aggregates (alias_named b s.aliases) outer w x (ap (λ r. of_alias s.aggregates r a outer w) (sym (result_alike s.aliases)) ∙ e)
  own_alike (Some sight) s outer w x e = e

  named_alike : (levels : List Level) (s : Scope) (w : Work) (x : Operand × Work) → named_in levels s a w ≡ Ok x → named_in levels s b w ≡ Ok x
  named_alike [] s w x e = own_alike None s [] w x e
  named_alike (own ∷ outer) s w x e = go (nearest b (bare_in b) (own ∷ [])) (ap (λ n. n >>= λ found. of_own found s a outer w) (sym (alone (own ∷ []))) ∙ e) where
    go : (found : Checked (Option Sight)) → (found >>= λ f. of_own f s a outer w) ≡ Ok x → (found >>= λ f. of_own f s b outer w) ≡ Ok x
    go (Err why) k = cc
    go (Ok f) k = own_alike f s outer w x k

  pub bound_alike : (s : Scope) (w : Work) (x : Operand × Work) → column_bound s a w ≡ Ok x → column_bound s b w ≡ Ok x
  bound_alike s w x = go s.outer.allowed.columns where
    go : (may : Bool) → cond may (named_in s.outer.levels s a w) (Err (Misuse (name_shown s.outer.levels a))) ≡ Ok x → cond may (named_in s.outer.levels s b w) (Err (Misuse (name_shown s.outer.levels b))) ≡ Ok x
    go true e = named_alike s.outer.levels s w x e
    go false e = cc

  pub bound_of_item_alike : (t u : List ℕ) → folded t ≡ folded u → (s : Scope) (w : Work) (x : Operand × Work) → called_column_bound s t a w ≡ Ok x → called_column_bound s u b w ≡ Ok x
  bound_of_item_alike t u tables s w x = go s.outer.allowed.columns where
    found_alike : (found : Option Sight) → seen_or_unknown (dotted t a) found w ≡ Ok x → seen_or_unknown (dotted u b) found w ≡ Ok x
    found_alike None e = cc
    found_alike (Some sight) e = e

    nearest_alike : (found : Checked (Option Sight)) → (found >>= λ f. seen_or_unknown (dotted t a) f w) ≡ Ok x → (found >>= λ f. seen_or_unknown (dotted u b) f w) ≡ Ok x
    nearest_alike (Err why) k = cc
    nearest_alike (Ok f) k = found_alike f k

    go : (may : Bool) → cond may (nearest a (called_in t a) s.outer.levels >>= λ f. seen_or_unknown (dotted t a) f w) (Err (Misuse (name_shown s.outer.levels a))) ≡ Ok x → cond may (nearest b (called_in u b) s.outer.levels >>= λ f. seen_or_unknown (dotted u b) f w) (Err (Misuse (name_shown s.outer.levels b))) ≡ Ok x
    go true e = nearest_alike (nearest b (called_in u b) s.outer.levels) (ap (λ n. n >>= λ f. seen_or_unknown (dotted t a) f w) (sym (called_alike t u tables s.outer.levels)) ∙ e)
    go false e = cc
