-- A name brings one node.
use Rattle.std.proofs.Common.{◌≡◌, ◌≤◌, ℕ, zero, suc, Bool, true, false, not, ◌&&◌, cond, List, [], ◌∷◌, ◌++◌, filter, position, Option, Some, None, Ok, refl, ap, subst, ◌∙◌, arith}
use Rattle.std.specs.List.{AllByRecursion, flat_map}
use Rattle.std.specs.Option.{option_to_list}
use Rattle.eng_entry.specs.Names.{is_same_name}
use Rattle.eng_value.specs.declared.cause.Cause.TheVariants.{Misuse}
use Rattle.sql_words.specs.Names.{dotted}
use Rattle.sql_words.specs.Refusals.{◌>>=◌}
use Rattle.bound_tree.specs.Exprs.{BoundExpr}
use Rattle.sql_bound.specs.Columns.{called_column_bound, column_bound, further_out, name_shown, named_in, of_outer, of_own, seen, seen_or_unknown}
use Rattle.sql_bound.specs.Scopes.{Level, Scope, argument_at, bare_in, brought, called_in, columns_named, counted_once, has_column, is_called, is_need, is_rowid_name, nearest, nearest_from, nearest_of, rowid_named, unjoined}
use Rattle.sql_bound.specs.declared.scopes.Need.{Need}
use Rattle.sql_bound.specs.declared.scopes.Operand.{Operand}
use Rattle.sql_bound.specs.declared.scopes.ScopeColumn.{ScopeColumn}
use Rattle.sql_bound.specs.declared.scopes.ScopeItem.{ScopeItem}
use Rattle.sql_bound.specs.declared.scopes.Sight.{Sight}
use Rattle.sql_bound.specs.declared.scopes.Work.{Work}
use Rattle.bound_size.specs.Brought.{AllBringNodes, BringsNodes, IsNode, IsNodeIfThere, own_of}
use Rattle.bound_size.specs.Sizes.{nodes_of}
use Rattle.bound_size.proofs.BoundLaws.{answer, bound_by, if_passed, same_answer}

-- ---- lists all of whose members are so

module _ {X : Type 0} (P : X → Type 0) where
  pub all_kept : (passes : X → Bool) (xs : List X) → AllByRecursion P xs → AllByRecursion P (filter passes xs)
  all_kept passes [] all = tt
  all_kept passes (x ∷ xs) all = go (passes x) (all_kept passes xs all.1) where
    go : (b : Bool) → AllByRecursion P (filter passes xs) → AllByRecursion P (cond b (x ∷ filter passes xs) (filter passes xs))
    go true rest = (all.0, rest)
    go false rest = rest

  pub all_append : (xs ys : List X) → AllByRecursion P xs → AllByRecursion P ys → AllByRecursion P (xs ++ ys)
  all_append [] ys all more = more
  all_append (x ∷ xs) ys all more = (all.0, all_append xs ys all.1 more)

  pub all_flat : {Y : Type 0} (Q : Y → Type 0) (f : Y → List X) → ((y : Y) → Q y → AllByRecursion P (f y)) → (ys : List Y) → AllByRecursion Q ys → AllByRecursion P (flat_map f ys)
  all_flat Q f each [] all = tt
  all_flat Q f each (y ∷ ys) all = all_append (f y) (flat_map f ys) (each y all.0) (all_flat Q f each ys all.1)

-- ---- what an item brings by a name

rowid_listed : (c : Option ScopeColumn) → IsNodeIfThere c → AllByRecursion IsNode (option_to_list c)
rowid_listed None h = tt
rowid_listed (Some c) h = (h, tt)

if_listed : (b : Bool) (cs : List ScopeColumn) → AllByRecursion IsNode cs → AllByRecursion IsNode (cond b cs [])
if_listed true cs all = all
if_listed false cs all = tt

rowid_brought : (name : List ℕ) (item : ScopeItem) → BringsNodes item → AllByRecursion IsNode (rowid_named name item)
rowid_brought name item h = if_listed (is_rowid_name name && not (has_column name item)) (option_to_list item.rowid) (rowid_listed item.rowid h.rowid)

named_brought : (name : List ℕ) (item : ScopeItem) → BringsNodes item → AllByRecursion IsNode (columns_named name item)
named_brought name item h = all_kept IsNode (λ (c : ScopeColumn). is_same_name c.name name) item.columns h.columns

pub bare_brought : (name : List ℕ) (item : ScopeItem) → BringsNodes item → AllByRecursion IsNode (bare_in name item)
bare_brought name item h =
    if_listed item.bare (unjoined (columns_named name item) ++ rowid_named name item)
    (all_append IsNode (unjoined (columns_named name item)) (rowid_named name item) (all_kept IsNode (λ (c : ScopeColumn). not c.joined) (columns_named name item) (named_brought name item h)) (rowid_brought name item h))

pub called_brought : (table name : List ℕ) (item : ScopeItem) → BringsNodes item → AllByRecursion IsNode (called_in table name item)
called_brought table name item h =
    if_listed (is_called table item.name) (columns_named name item ++ rowid_named name item)
    (all_append IsNode (columns_named name item) (rowid_named name item) (named_brought name item h) (rowid_brought name item h))

-- ---- what is seen

-- it stands further out, or is a node
abbrev IsSmall : Sight → Type 0
IsSmall s = s.up ≡ 0 → IsNode s.column

abbrev seen_at : ℕ → ScopeColumn → Sight
seen_at up c = record { up = up; column = c }

same_sight : (a b : Sight) → answer (Some a) ≡ answer (Some b) → a ≡ b
same_sight a b h = cc

far_small : (up : ℕ) (name : List ℕ) (candidates : Level → List ScopeColumn) (levels : List Level) (s : Sight) → nearest_from (suc up) name candidates levels ≡ Ok (Some s) → IsSmall s
far_small up name candidates [] s h = cc
far_small up name candidates (level ∷ levels) s h = go (candidates level) (far_small (suc up) name candidates levels s) h where
  go : (cs : List ScopeColumn) → (nearest_from (suc (suc up)) name candidates levels ≡ Ok (Some s) → IsSmall s) → nearest_of name (suc up) cs (nearest_from (suc (suc up)) name candidates levels) ≡ Ok (Some s) → IsSmall s
  go [] further k = further k
  go (c ∷ []) further k = let same : seen_at (suc up) c ≡ s = same_sight (seen_at (suc up) c) s k in λ z. let bad : suc up ≡ 0 = ap (λ (x : Sight). x.up) same ∙ z in cc
  go (c ∷ d ∷ cs) further k = cc

near_small : (name : List ℕ) (candidates : Level → List ScopeColumn) (levels : List Level) (s : Sight) → AllByRecursion IsNode (candidates (own_of levels)) → nearest_from 0 name candidates levels ≡ Ok (Some s) → IsSmall s
near_small name candidates [] s all h = cc
near_small name candidates (own ∷ levels) s all h = go (candidates own) all h where
  go : (cs : List ScopeColumn) → AllByRecursion IsNode cs → nearest_of name 0 cs (nearest_from 1 name candidates levels) ≡ Ok (Some s) → IsSmall s
  go [] each k = far_small 0 name candidates levels s k
  go (c ∷ []) each k = let same : seen_at 0 c ≡ s = same_sight (seen_at 0 c) s k in λ z. subst (λ (x : Sight). IsNode x.column) same each.0
  go (c ∷ d ∷ cs) each k = cc

once_kept : (cs : List ScopeColumn) → AllByRecursion IsNode cs → AllByRecursion IsNode (counted_once cs)
once_kept [] all = tt
once_kept (c ∷ cs) all = (all.0, all_kept IsNode (λ (x : ScopeColumn). not x.joined) cs all.1)

pub nearest_small : (name : List ℕ) (candidates : ScopeItem → List ScopeColumn) (levels : List Level) (s : Sight)
    → ((item : ScopeItem) → BringsNodes item → AllByRecursion IsNode (candidates item)) → AllBringNodes (own_of levels) → nearest name candidates levels ≡ Ok (Some s) → IsSmall s
nearest_small name candidates levels s each own h =
    near_small name (λ level. counted_once (flat_map candidates level)) levels s (once_kept (flat_map candidates (own_of levels)) (all_flat IsNode BringsNodes candidates each (own_of levels) own)) h

argument_node : (place : Option ℕ) (n : Need) (w : Work) → nodes_of (argument_at place n w).0 ≤ 1
argument_node (Some place) n w = omega arith
argument_node None n w = omega arith

brought_node : (up : ℕ) (tree : BoundExpr) (w : Work) → (up ≡ 0 → nodes_of tree ≤ 1) → nodes_of (brought up tree w).0 ≤ 1
brought_node zero tree w h = h refl
brought_node (suc up) tree w h = let n : Need = record { up = up; tree = tree } in argument_node (position (is_need n) w.needs) n w

-- ---- names

abbrev pub OneNode : Operand × Work → Type 0
OneNode r = nodes_of r.0.tree ≤ 1

seen_node : (shown : List ℕ) (s : Option Sight) (w : Work) (r : Operand × Work) → ((x : Sight) → s ≡ Some x → IsSmall x) → seen_or_unknown shown s w ≡ Ok r → OneNode r
seen_node shown None w r small h = cc
seen_node shown (Some s) w r small h =
    subst OneNode (same_answer (seen s w) r h) (brought_node s.up s.column.tree w (small s refl))

outer_small : (s : Option Sight) (x : Sight) → further_out s ≡ Some x → IsSmall x
outer_small None x h z = cc
outer_small (Some s) x h z = let up : suc s.up ≡ x.up = cc in let bad : suc s.up ≡ 0 = up ∙ z in cc

outer_node : (name : List ℕ) (outer : List Level) (w : Work) (r : Operand × Work) → of_outer name outer w ≡ Ok r → OneNode r
outer_node name outer w r h =
    let p = bound_by (nearest name (bare_in name) outer) (λ s. seen_or_unknown name (further_out s) w) r h in
    seen_node name (further_out p.0) w r (outer_small p.0) p.2

module _ (s : Scope) (bare : s.aliases ≡ []) (own : AllBringNodes (own_of s.outer.levels)) where
  own_node : (sight : Option Sight) (name : List ℕ) (outer : List Level) (w : Work) (r : Operand × Work) → ((x : Sight) → sight ≡ Some x → IsSmall x) → of_own sight s name outer w ≡ Ok r → OneNode r
  own_node None name outer w r small h = outer_node name outer w r (rw bare at h)
  own_node (Some sight) name outer w r small h = seen_node name (Some sight) w r small h

  named_node : (levels : List Level) (name : List ℕ) (w : Work) (r : Operand × Work) → AllBringNodes (own_of levels) → named_in levels s name w ≡ Ok r → OneNode r
  named_node [] name w r all h = own_node None name [] w r (λ x k. cc) h
  named_node (first ∷ outer) name w r all h =
      let p = bound_by (nearest name (bare_in name) (first ∷ [])) (λ sight. of_own sight s name outer w) r h in
      own_node p.0 name outer w r (λ x k. nearest_small name (bare_in name) (first ∷ []) x (bare_brought name) all (p.1 ∙ ap answer k)) p.2

  pub column_node : (name : List ℕ) (w : Work) (r : Operand × Work) → column_bound s name w ≡ Ok r → OneNode r
  column_node name w r h = named_node s.outer.levels name w r own (if_passed s.outer.allowed.columns (named_in s.outer.levels s name w) (Misuse (name_shown s.outer.levels name)) r h)

  pub called_column_node : (table name : List ℕ) (w : Work) (r : Operand × Work) → called_column_bound s table name w ≡ Ok r → OneNode r
  called_column_node table name w r h =
      let find = nearest name (called_in table name) s.outer.levels in
      let unless = λ (found : Option Sight). seen_or_unknown (dotted table name) found w in
      let p = bound_by find unless r (if_passed s.outer.allowed.columns (find >>= unless) (Misuse (name_shown s.outer.levels name)) r h) in
      seen_node (dotted table name) p.0 w r (λ x k. nearest_small name (called_in table name) s.outer.levels x (called_brought table name) own (p.1 ∙ ap answer k)) p.2
