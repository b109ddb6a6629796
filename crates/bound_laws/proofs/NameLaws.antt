-- What a name stands for is a column of a FROM that is there, or a result that is.
use Rattle.std.proofs.Common.{◌≡◌, ℕ, zero, suc, ◌+◌, Bool, true, false, not, ◌&&◌, cond, List, [], ◌∷◌, ◌++◌, Option, Some, None, subst, arith}
use Rattle.std.specs.Bool.{⊤}
use Rattle.std.specs.List.{AllByRecursion, find, flat_map}
use Rattle.std.specs.Option.{option_to_list}
use Rattle.eng_entry.specs.Names.{is_same_name}
use Rattle.sql_words.specs.Names.{dotted}
use Rattle.sql_bound.specs.Columns.{alias_named, called_column_bound, column_bound, further_out, named_in, of_alias, of_outer, of_own, seen, seen_or_unknown}
use Rattle.sql_bound.specs.Scopes.{Alias, Level, Scope, bare_in, called_in, columns_named, counted_once, has_column, is_called, is_rowid_name, nearest, nearest_from, nearest_of, rowid_named, unjoined}
use Rattle.sql_bound.specs.declared.scopes.Operand.{Operand}
use Rattle.sql_bound.specs.declared.scopes.ScopeColumn.{ScopeColumn}
use Rattle.sql_bound.specs.declared.scopes.ScopeItem.{ScopeItem}
use Rattle.sql_bound.specs.declared.scopes.Sight.{Sight}
use Rattle.sql_bound.specs.declared.scopes.Standing.{Standing}
use Rattle.sql_bound.specs.declared.scopes.Work.{Work}
use Rattle.bound_laws.proofs.HandLaws.{brought_fits, none_of_nothing}
use Rattle.bound_laws.proofs.Lists.{IfThere, all_append, all_flat, all_kept}
use Rattle.bound_laws.proofs.States.{AliasFits, BindsIn, ColumnFits, From, Here, IsColumnOf, ItemFits, LevelFits, LevelsFit, ScopeFits, Steps, TreeStays, WorkFits, from_at}
use Rattle.bound_laws.proofs.Triples.{Gives, gives, gives_if, refuses, seq, weaker}

-- ---- what an item brings by a name

module _ (from : From) where
  abbrev All : List ScopeColumn → Type 0
  All cs = AllByRecursion (ColumnFits from) cs

  rowid_listed : (c : Option ScopeColumn) → IfThere (ColumnFits from) c → All (option_to_list c)
  rowid_listed None h = tt
  rowid_listed (Some c) h = (h, tt)

  if_listed : (b : Bool) (cs : List ScopeColumn) → All cs → All (cond b cs [])
  if_listed true cs all = all
  if_listed false cs all = tt

  rowid_brought : (name : List ℕ) (item : ScopeItem) → ItemFits from item → All (rowid_named name item)
  rowid_brought name item h = if_listed (is_rowid_name name && not (has_column name item)) (option_to_list item.rowid) (rowid_listed item.rowid h.rowid)

  pub named_brought : (name : List ℕ) (item : ScopeItem) → ItemFits from item → All (columns_named name item)
  named_brought name item h = all_kept (ColumnFits from) (λ (c : ScopeColumn). is_same_name c.name name) item.columns h.columns

  pub bare_brought : (name : List ℕ) (item : ScopeItem) → ItemFits from item → All (bare_in name item)
  bare_brought name item h =
      if_listed item.bare (unjoined (columns_named name item) ++ rowid_named name item)
      (all_append (ColumnFits from) (unjoined (columns_named name item)) (rowid_named name item) (all_kept (ColumnFits from) (λ (c : ScopeColumn). not c.joined) (columns_named name item) (named_brought name item h)) (rowid_brought name item h))

  pub called_brought : (table name : List ℕ) (item : ScopeItem) → ItemFits from item → All (called_in table name item)
  called_brought table name item h =
      if_listed (is_called table item.name) (columns_named name item ++ rowid_named name item)
      (all_append (ColumnFits from) (columns_named name item) (rowid_named name item) (named_brought name item h) (rowid_brought name item h))

  pub once_kept : (cs : List ScopeColumn) → All cs → All (counted_once cs)
  once_kept [] all = tt
  once_kept (c ∷ cs) all = (all.0, all_kept (ColumnFits from) (λ (x : ScopeColumn). not x.joined) cs all.1)

-- ---- the nearest FROM that has it

abbrev SightFrom : ℕ → List From → Option Sight → Type 0
SightFrom up outers None = ⊤
SightFrom up outers (Some s) = (more : ℕ) × (s.up ≡ up + more) × IsColumnOf (from_at outers more) s.column.tree

abbrev pub SightFits : List From → Option Sight → Type 0
SightFits outers None = ⊤
SightFits outers (Some s) = IsColumnOf (from_at outers s.up) s.column.tree

one_further : (up : ℕ) (from : From) (outers : List From) (s : Option Sight) → SightFrom (suc up) outers s → SightFrom up (from ∷ outers) s
one_further up from outers None h = tt
one_further up from outers (Some s) h = let at : s.up ≡ suc up + h.0 = h.1 in (suc h.0, omega arith, h.2)

module _ (name : List ℕ) (candidates : Level → List ScopeColumn) (each : (from : From) (level : Level) → LevelFits from level → AllByRecursion (ColumnFits from) (candidates level)) where
  far_fits : (up : ℕ) (outers : List From) (levels : List Level) → LevelsFit outers levels → Gives (SightFrom up outers) (nearest_from up name candidates levels)
  far_fits up [] [] fits = gives _ _ tt
  far_fits up [] (level ∷ levels) fits = absurd fits
  far_fits up (from ∷ outers) [] fits = absurd fits
  far_fits up (from ∷ outers) (level ∷ levels) fits = go (candidates level) (each from level fits.0) (far_fits (suc up) outers levels fits.1) where
    go : (cs : List ScopeColumn) → AllByRecursion (ColumnFits from) cs → Gives (SightFrom (suc up) outers) (nearest_from (suc up) name candidates levels)
        → Gives (SightFrom up (from ∷ outers)) (nearest_of name up cs (nearest_from (suc up) name candidates levels))
    go [] all further = weaker _ _ _ (one_further up from outers) further
    go (c ∷ []) all further = gives _ _ (0, omega arith, all.0)
    go (c ∷ d ∷ cs) all further = refuses _ _

from_nought : (outers : List From) (s : Option Sight) → SightFrom 0 outers s → SightFits outers s
from_nought outers None h = tt
from_nought outers (Some s) h = let at : h.0 ≡ s.up = omega (arith, h.1) in subst (λ up. IsColumnOf (from_at outers up) s.column.tree) at h.2

pub nearest_fits : (name : List ℕ) (candidates : ScopeItem → List ScopeColumn) → ((from : From) (item : ScopeItem) → ItemFits from item → AllByRecursion (ColumnFits from) (candidates item))
    → (outers : List From) (levels : List Level) → LevelsFit outers levels → Gives (SightFits outers) (nearest name candidates levels)
nearest_fits name candidates each outers levels fits =
    weaker (SightFrom 0 outers) (SightFits outers) (nearest name candidates levels) (from_nought outers)
    (far_fits name (λ level. counted_once (flat_map candidates level)) (λ from level h. once_kept from (flat_map candidates level) (all_flat (ColumnFits from) (ItemFits from) candidates (each from) level h)) 0 outers levels fits)

-- ---- names

pub find_kept : {X : Type 0} (P : X → Type 0) (test : X → Bool) (xs : List X) → AllByRecursion P xs → IfThere P (find test xs)
find_kept P test [] all = tt
find_kept P test (x ∷ xs) all = go (test x) (find_kept P test xs all.1) where
  go : (b : Bool) → IfThere P (find test xs) → IfThere P (cond b (Some x) (find test xs))
  go true rest = all.0
  go false rest = rest

module _ (h : Here) where
  abbrev Result : Standing → Work → Operand × Work → Type 0
  Result standing w r = Steps h (TreeStays standing h.own) w r

  seen_fits : (standing : Standing) (s : Sight) (w : Work) → WorkFits h w → SightFits (h.own ∷ h.outers) (Some s) → Result standing w (seen s w)
  seen_fits standing s w fits at =
      let b = brought_fits h standing s.up s.column.tree w fits at in record { fits = b.fits; grows = b.grows; holds = b.holds }

  seen_or_fits : (standing : Standing) (shown : List ℕ) (s : Option Sight) (w : Work) → WorkFits h w → SightFits (h.own ∷ h.outers) s → Gives (Result standing w) (seen_or_unknown shown s w)
  seen_or_fits standing shown None w fits at = refuses _ _
  seen_or_fits standing shown (Some s) w fits at = gives _ _ (seen_fits standing s w fits at)

  further_fits : (s : Option Sight) → SightFits h.outers s → SightFits (h.own ∷ h.outers) (further_out s)
  further_fits None at = tt
  further_fits (Some s) at = at

  -- of the own FROM alone
  own_only : (s : Option Sight) → SightFits (h.own ∷ []) s → SightFits (h.own ∷ h.outers) s
  own_only None at = tt
  own_only (Some s) at = go s.up at where
    go : (up : ℕ) → IsColumnOf (from_at (h.own ∷ []) up) s.column.tree → IsColumnOf (from_at (h.own ∷ h.outers) up) s.column.tree
    go zero k = k
    go (suc up) k = absurd (none_of_nothing s.column.tree k)

  outer_fits : (standing : Standing) (name : List ℕ) (outer : List Level) (w : Work) → WorkFits h w → LevelsFit h.outers outer → Gives (Result standing w) (of_outer name outer w)
  outer_fits standing name outer w fits levels =
      seq _ _ _ _ (nearest_fits name (bare_in name) (λ from. bare_brought from name) h.outers outer levels) (λ s at. seen_or_fits standing name (further_out s) w fits (further_fits s at))

  alias_fits : (standing : Standing) (a : Option Alias) (name : List ℕ) (outer : List Level) (w : Work) → WorkFits h w → LevelsFit h.outers outer → IfThere (AliasFits h) a → Gives (Result standing w) (of_alias standing a name outer w)
  alias_fits standing None name outer w fits levels there = outer_fits standing name outer w fits levels
  alias_fits standing (Some a) name outer w fits levels there = there standing w fits

  own_fits : (s : Scope) (sight : Option Sight) (name : List ℕ) (outer : List Level) (w : Work) → ScopeFits h s → WorkFits h w → LevelsFit h.outers outer → SightFits (h.own ∷ h.outers) sight
      → Gives (Result s.aggregates w) (of_own sight s name outer w)
  own_fits s None name outer w scope fits levels at = alias_fits s.aggregates (alias_named name s.aliases) name outer w fits levels (find_kept (AliasFits h) (λ (a : Alias). is_same_name a.name name) s.aliases scope.aliases)
  own_fits s (Some sight) name outer w scope fits levels at = gives _ _ (seen_fits s.aggregates sight w fits at)

  named_fits : (s : Scope) (all : List Level) (name : List ℕ) (w : Work) → ScopeFits h s → WorkFits h w → LevelsFit (h.own ∷ h.outers) all → Gives (Result s.aggregates w) (named_in all s name w)
  named_fits s [] name w scope fits levels = absurd levels
  named_fits s (own ∷ outer) name w scope fits levels =
      seq _ _ _ _ (nearest_fits name (bare_in name) (λ from. bare_brought from name) (h.own ∷ []) (own ∷ []) (levels.0, tt))
      (λ sight at. own_fits s sight name outer w scope fits levels.1 (own_only sight at))

  pub column_binds : (name : List ℕ) → BindsIn h (λ s w. column_bound s name w)
  column_binds name s scope w fits = gives_if _ s.outer.allowed.columns _ _ (named_fits s s.outer.levels name w scope fits scope.outer.levels)

  pub called_column_binds : (table name : List ℕ) → BindsIn h (λ s w. called_column_bound s table name w)
  called_column_binds table name s scope w fits =
      gives_if _ s.outer.allowed.columns _ _
      (seq _ _ _ _ (nearest_fits name (called_in table name) (λ from. called_brought from table name) (h.own ∷ h.outers) s.outer.levels scope.outer.levels)
      (λ found at. seen_or_fits s.aggregates (dotted table name) found w fits at))
