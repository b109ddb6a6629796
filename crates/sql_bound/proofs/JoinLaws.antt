-- NATURAL joins as USING where no column is hidden.
use Rattle.std.proofs.Common.{◌≡◌, ◌∙◌, ℕ, zero, suc, Bool, true, false, not, cond, ◌&&◌, filter, List, [], ◌∷◌, ◌++◌, map, Ok, Err, refl, sym, ap}
use Rattle.std.specs.List.{All}
use Rattle.std.proofs.lemmas.List.Elements.{All-filter, All-map, All-tail}
use Rattle.eng_entry.specs.Names.{is_same_name}
use Rattle.sql_words.specs.Refusals.{◌>>=◌}
use Rattle.sql_bound.proofs.NameLaws.{head_of}
use Rattle.sql_bound.specs.Froms.{equality_of, is_any, joined_if, on_left, one_of, using_one, with_joined}
use Rattle.sql_bound.specs.Limits.{walked}
use Rattle.sql_bound.specs.Refusals.{Checked}
use Rattle.sql_bound.specs.Scopes.{Level, columns_named, is_shown, unjoined}
use Rattle.sql_bound.specs.declared.froms.Joining.{Joining}
use Rattle.sql_bound.specs.declared.scopes.ScopeColumn.{ScopeColumn}
use Rattle.sql_bound.specs.declared.scopes.ScopeItem.{ScopeItem}

abbrev pub IsShown : ScopeColumn → Type 0
IsShown c = c.hidden ≡ false

abbrev pub ShowsAll : ScopeItem → Type 0
ShowsAll item = All IsShown item.columns

-- ---- columns count alike

counts_alike : (columns : List ScopeColumn) → All IsShown columns → filter is_shown columns ≡ filter is_any columns
counts_alike [] all = refl
counts_alike (c ∷ columns) all =
    ap (λ b. cond (not b) (c ∷ filter is_shown columns) (filter is_shown columns)) (head_of IsShown c columns all) ∙ ap (λ l. c ∷ l) (counts_alike columns (All-tail IsShown c columns all))

named_shown : (name : List ℕ) (item : ScopeItem) → ShowsAll item → All IsShown (columns_named name item)
named_shown name item all = All-filter (λ (c : ScopeColumn). is_same_name c.name name) IsShown item.columns all

left_alike : (name : List ℕ) (left : Level) → All ShowsAll left → on_left is_shown name left ≡ on_left is_any name left
left_alike name [] all = refl
left_alike name (item ∷ left) all =
    let here = counts_alike (unjoined (columns_named name item)) (All-filter (λ (c : ScopeColumn). not c.joined) IsShown (columns_named name item) (named_shown name item (head_of ShowsAll item left all))) in
    ap (λ l. l ++ on_left is_shown name left) here ∙ ap (λ l. filter is_any (unjoined (columns_named name item)) ++ l) (left_alike name left (All-tail ShowsAll item left all))

-- ---- the right item, with its columns joined

joined_alike : (name : List ℕ) (columns : List ScopeColumn) → All IsShown columns → map (joined_if is_shown name) columns ≡ map (joined_if is_any name) columns
joined_alike name [] all = refl
joined_alike name (c ∷ columns) all =
    ap (λ b. cond (not b && is_same_name c.name name) (record c { joined = true }) c ∷ map (joined_if is_shown name) columns) (head_of IsShown c columns all) ∙ ap (λ l. joined_if is_any name c ∷ l) (joined_alike name columns (All-tail IsShown c columns all))

right_alike : (name : List ℕ) (item : ScopeItem) → ShowsAll item → with_joined is_shown name item ≡ with_joined is_any name item
right_alike name item all = ap (λ l. record item { columns = l }) (joined_alike name item.columns all)

still_shown : (name : List ℕ) (c : ScopeColumn) → (joined_if is_any name c).hidden ≡ c.hidden
still_shown name c = elim (is_same_name c.name name) as (λ b. (cond b (record c { joined = true }) c).hidden ≡ c.hidden) [ true ↦ refl | false ↦ refl ]

joined_shown : (name : List ℕ) (item : ScopeItem) → ShowsAll item → ShowsAll (with_joined is_any name item)
joined_shown name item all = All-map IsShown (joined_if is_any name) item.columns (λ k d l. still_shown name _ ∙ all k d l)

-- ---- name by name

abbrev joined_by : Joining → List ℕ → ScopeColumn → ScopeColumn → Joining
joined_by j name l r = record { right = with_joined is_any name j.right; ons = j.ons ++ equality_of l r ∷ [] }

-- USING, with what it finds on either side
abbrev one_by : Joining → List ℕ → Checked ScopeColumn → Checked ScopeColumn → Checked Joining
one_by j name a b = a >>= λ l. b >>= λ r. Ok (joined_by j name l r)

one_alike : (left : Level) (name : List ℕ) (j : Joining) → All ShowsAll left → ShowsAll j.right → using_one is_shown left name j ≡ one_by j name (one_of name (on_left is_any name left)) (one_of name (filter is_any (columns_named name j.right)))
one_alike left name j all right = rw (left_alike name left all, counts_alike (columns_named name j.right) (named_shown name j.right right), right_alike name j.right right) refl

pub all_alike : (left : Level) (n : ℕ) (names : List (List ℕ)) (j : Joining) → All ShowsAll left → ShowsAll j.right → walked (using_one is_shown left) n names j ≡ walked (using_one is_any left) n names j
all_alike left n [] j all right = refl
all_alike left zero (name ∷ names) j all right = refl
all_alike left (suc n) (name ∷ names) j all right = ap (λ c. c >>= λ k. walked (using_one is_shown left) n names k) (one_alike left name j all right) ∙ go (λ k h. all_alike left n names k all h) (one_of name (on_left is_any name left)) (one_of name (filter is_any (columns_named name j.right))) where
  go : ((k : Joining) → ShowsAll k.right → walked (using_one is_shown left) n names k ≡ walked (using_one is_any left) n names k) → (a b : Checked ScopeColumn) → (one_by j name a b >>= λ k. walked (using_one is_shown left) n names k) ≡ (one_by j name a b >>= λ k. walked (using_one is_any left) n names k)
  go rest (Err why) b = refl
  go rest (Ok l) (Err why) = refl
  go rest (Ok l) (Ok r) = rest (joined_by j name l r) (joined_shown name j.right right)

-- ---- what USING joins is no other column any more

joined_gone : (name : List ℕ) (columns : List ScopeColumn) → unjoined (filter (λ (c : ScopeColumn). is_same_name c.name name) (map (joined_if is_any name) columns)) ≡ []
joined_gone name [] = refl
joined_gone name (c ∷ columns) = go (is_same_name c.name name) refl (joined_gone name columns) where
  go : (b : Bool) → is_same_name c.name name ≡ b → unjoined (filter (λ (x : ScopeColumn). is_same_name x.name name) (map (joined_if is_any name) columns)) ≡ [] → unjoined (filter (λ (x : ScopeColumn). is_same_name x.name name) (joined_if is_any name c ∷ map (joined_if is_any name) columns)) ≡ []
  go true h rest = simp h rest
  go false h rest = simp h rest

pub using_joins : (left : Level) (name : List ℕ) (j k : Joining) → using_one is_any left name j ≡ Ok k → unjoined (columns_named name k.right) ≡ []
using_joins left name j k e = go (one_of name (on_left is_any name left)) (one_of name (filter is_any (columns_named name j.right))) e where
  go : (a b : Checked ScopeColumn) → one_by j name a b ≡ Ok k → unjoined (columns_named name k.right) ≡ []
  go (Err why) b h = cc
  go (Ok l) (Err why) h = cc
  go (Ok l) (Ok r) h = let same : joined_by j name l r ≡ k = cc in ap (λ (x : Joining). unjoined (columns_named name x.right)) (sym same) ∙ joined_gone name j.right.columns
