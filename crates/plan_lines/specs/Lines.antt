-- The lines of EXPLAIN QUERY PLAN.
use Rattle.std.specs.Prelude.{◌≡◌, ℕ, suc, ℤ, nat_eq, ◌++◌, Bool, true, false, ◌&&◌, if◌then◌else◌, List, [], ◌∷◌, codes, map, pos, refl, slice_get, take, Some, None}
use Rattle.std.specs.Fmt.{decimal}
use Rattle.std.specs.List.{find, flat_map}
use Rattle.std.specs.declared.option.Option.{Option}
use Rattle.bound_tree.specs.Same.{same_truth}
use Rattle.eng_index.specs.declared.key_term.KeyTerm.{KeyTerm}
use Rattle.eng_index.specs.declared.key_term.TermSource.{TermSource}
use Rattle.eng_index.specs.declared.key_term.TermSource.TheVariants as source
use Rattle.eng_index.specs.declared.range.Bounds.{Bounds}
use Rattle.eng_index.specs.declared.range.Edge.{Edge}
use Rattle.eng_index.specs.declared.range.Edge.TheVariants.{Included, Excluded}
use Rattle.eng_value.specs.declared.built.Built.TheVariants.{Binary}
use Rattle.eng_value.specs.declared.value.Value.{Value}
use Rattle.eng_value.specs.declared.value.Value.TheVariants.{Integer, Text}
use Rattle.plan_tree.specs.declared.access.JoinPlan.{JoinPlan}
use Rattle.plan_tree.specs.declared.access.Loop.{Loop}
use Rattle.plan_tree.specs.declared.access.Pairs.TheVariants.{Each}
use Rattle.plan_tree.specs.declared.access.Path.{Path}
use Rattle.plan_tree.specs.declared.access.Path.TheVariants.{Scan, Search as by}
use Rattle.plan_tree.specs.declared.access.Search.{Search}
use Rattle.sql_meaning.specs.Searches.{same_built}
use Rattle.plan_lines.specs.declared.labels.IndexLabel.{IndexLabel}
use Rattle.plan_lines.specs.declared.labels.ItemLabel.{ItemLabel}

-- ---- names; what has no label is shown by its number

abbrev item_name : Option ItemLabel → ℕ → List ℕ
item_name None place = codes "item " ++ decimal place
item_name (Some item) place = item.name

abbrev columns_of : Option ItemLabel → List (List ℕ)
columns_of None = []
columns_of (Some item) = item.columns

abbrev indexes_of : Option ItemLabel → List IndexLabel
indexes_of None = []
indexes_of (Some item) = item.indexes

-- those of the item in a place of the FROM
abbrev pub name_at : List ItemLabel → ℕ → List ℕ
name_at items place = item_name (slice_get items place) place

abbrev pub columns_at : List ItemLabel → ℕ → List (List ℕ)
columns_at items place = columns_of (slice_get items place)

abbrev pub indexes_at : List ItemLabel → ℕ → List IndexLabel
indexes_at items place = indexes_of (slice_get items place)

abbrev name_or_number : Option (List ℕ) → ℕ → List ℕ
name_or_number None column = codes "column " ++ decimal column
name_or_number (Some name) column = name

abbrev pub column_name : List (List ℕ) → ℕ → List ℕ
column_name columns column = name_or_number (slice_get columns column) column

abbrev pub source_name : List (List ℕ) → TermSource → List ℕ
source_name columns source.Rowid = codes "rowid"
source_name columns (source.Column column) = column_name columns column

-- ---- what a search compares

-- a term and how it stands to its key
abbrev pub compared : List (List ℕ) → List ℕ → KeyTerm → List ℕ
compared columns sign t = source_name columns t.source ++ sign

-- where there is a limit; whether it is included is not told
abbrev pub limit : List (List ℕ) → List ℕ → Option Edge → KeyTerm → List (List ℕ)
limit columns sign None t = []
limit columns sign (Some edge) t = compared columns sign t ∷ []

abbrev pub limits : List (List ℕ) → Bounds → Option KeyTerm → List (List ℕ)
limits columns bounds None = []
limits columns bounds (Some t) = limit columns (codes ">?") bounds.lower t ++ limit columns (codes "<?") bounds.upper t

-- the terms that are equal to a key, and then the limits of the next one
abbrev pub conditions : List (List ℕ) → Search → List (List ℕ)
conditions columns s =
    map (compared columns (codes "=?")) (take s.bounds.equal s.terms) ++ limits columns s.bounds (slice_get s.terms s.bounds.equal)

abbrev pub behind_and : List ℕ → List ℕ
behind_and condition = codes " AND " ++ condition

abbrev pub joined : List (List ℕ) → List ℕ
joined [] = []
joined (condition ∷ conditions) = condition ++ flat_map behind_and conditions

-- ---- what a search uses

abbrev pub same_source : TermSource → TermSource → Bool
same_source source.Rowid source.Rowid = true
same_source (source.Column a) (source.Column b) = nat_eq a b
same_source a b = false

abbrev pub same_term : KeyTerm → KeyTerm → Bool
same_term a b = same_source a.source b.source && same_built a.collation b.collation && same_truth a.descending b.descending

-- the first of some terms are those that are sought
abbrev pub begins_with : List KeyTerm → List KeyTerm → Bool
begins_with terms [] = true
begins_with [] (s ∷ sought) = false
begins_with (t ∷ terms) (s ∷ sought) = same_term t s && begins_with terms sought

abbrev pub serves : List KeyTerm → IndexLabel → Bool
serves sought index = begins_with index.terms sought

abbrev pub is_rowid : TermSource → Bool
is_rowid source.Rowid = true
is_rowid (source.Column column) = false

-- the rowid is the only term
abbrev pub is_by_rowid : List KeyTerm → Bool
is_by_rowid (t ∷ []) = is_rowid t.source
is_by_rowid terms = false

abbrev index_used : Option IndexLabel → List ℕ
index_used None = codes "AUTOMATIC INDEX"
index_used (Some index) = codes "INDEX " ++ index.name

-- the rowid, or the first index that serves the search, or one that is made for it
abbrev pub used : List IndexLabel → List KeyTerm → List ℕ
used indexes terms = if is_by_rowid terms then codes "INTEGER PRIMARY KEY" else index_used (find (serves terms) indexes)

-- ---- lines

abbrev pub scan_detail : List ItemLabel → ℕ → List ℕ
scan_detail items place = codes "SCAN " ++ name_at items place

abbrev pub search_detail : List ItemLabel → ℕ → Search → List ℕ
search_detail items place s =
    codes "SEARCH " ++ name_at items place ++ codes " USING " ++ used (indexes_at items place) s.terms
    ++ codes " (" ++ joined (conditions (columns_at items place) s) ++ codes ")"

abbrev path_detail : List ItemLabel → ℕ → Path → List ℕ
path_detail items place Scan = scan_detail items place
path_detail items place (by s) = search_detail items place s

abbrev pub detail : List ItemLabel → Loop → List ℕ
detail items l = path_detail items l.place l.path

abbrev pub sort_details : Bool → List (List ℕ)
sort_details sort = if sort then codes "USE TEMP B-TREE FOR POSITION" ∷ [] else []

-- a line for each loop, outermost first, and one for the sort behind them
abbrev pub loop_details : List ItemLabel → Bool → List Loop → List (List ℕ)
loop_details items sort [] = codes "SCAN CONSTANT ROW" ∷ []
loop_details items sort loops = map (detail items) loops ++ sort_details sort

abbrev pub details : JoinPlan → List ItemLabel → List (List ℕ)
details plan items = loop_details items plan.sort plan.loops

-- the columns id, parent, one that is not used, and detail
abbrev pub line : ℤ → List ℕ → List Value
line id detail = Integer id ∷ Integer (pos 0) ∷ Integer (pos 0) ∷ Text detail ∷ []

abbrev pub numbered : ℕ → List (List ℕ) → List (List Value)
numbered id [] = []
numbered id (d ∷ more) = line (pos id) d ∷ numbered (suc id) more

abbrev pub lines_of : JoinPlan → List ItemLabel → List (List Value)
lines_of plan items = numbered 1 (details plan items)

-- ---- examples

abbrev term_of : TermSource → KeyTerm
term_of s = record { source = s; collation = Binary; descending = false }

abbrev column : ℕ → KeyTerm
column n = term_of (source.Column n)

-- t has an index i of its columns a and b, and one k of c; u has none
abbrev labels : List ItemLabel
labels = record {
  name = codes "t";
  columns = codes "a" ∷ codes "b" ∷ codes "c" ∷ [];
  indexes = record { name = codes "i"; terms = column 0 ∷ column 1 ∷ [] } ∷ record { name = codes "k"; terms = column 2 ∷ [] } ∷ [];
} ∷ record { name = codes "u"; columns = codes "d" ∷ []; indexes = [] } ∷ []

abbrev bounds : ℕ → Option Edge → Option Edge → Bounds
bounds equal lower upper = record { equal = equal; lower = lower; upper = upper }

abbrev search : List KeyTerm → Bounds → Path
search terms within = by (record { terms = terms; bounds = within; keys = [] })

abbrev loop_over : ℕ → Path → Loop
loop_over place path = record { place = place; table = 0; path = path; pairs = Each; checks = [] }

abbrev plan_of : List Loop → Bool → JoinPlan
plan_of loops sort = record { checks = []; loops = loops; sort = sort }

-- what the lines of a plan with one loop over t say
abbrev t_by : Path → List (List ℕ)
t_by path = details (plan_of (loop_over 0 path ∷ []) false) labels

scans : (details (plan_of [] false) labels ≡ codes "SCAN CONSTANT ROW" ∷ [])
    × (t_by Scan ≡ codes "SCAN t" ∷ [])
    × (details (plan_of (loop_over 1 Scan ∷ loop_over 0 Scan ∷ []) true) labels ≡ codes "SCAN u" ∷ codes "SCAN t" ∷ codes "USE TEMP B-TREE FOR POSITION" ∷ [])
scans = (refl, refl, refl)

searches : (t_by (search (term_of source.Rowid ∷ []) (bounds 1 None None)) ≡ codes "SEARCH t USING INTEGER PRIMARY KEY (rowid=?)" ∷ [])
    × (t_by (search (term_of source.Rowid ∷ []) (bounds 0 (Some Included) (Some Excluded))) ≡ codes "SEARCH t USING INTEGER PRIMARY KEY (rowid>? AND rowid<?)" ∷ [])
    × (t_by (search (column 0 ∷ column 1 ∷ []) (bounds 1 (Some Excluded) None)) ≡ codes "SEARCH t USING INDEX i (a=? AND b>?)" ∷ [])
    × (t_by (search (column 0 ∷ []) (bounds 0 None (Some Included))) ≡ codes "SEARCH t USING INDEX i (a<?)" ∷ [])
    × (t_by (search (column 2 ∷ []) (bounds 1 None None)) ≡ codes "SEARCH t USING INDEX k (c=?)" ∷ [])
    × (t_by (search (column 1 ∷ []) (bounds 1 None None)) ≡ codes "SEARCH t USING AUTOMATIC INDEX (b=?)" ∷ [])
searches = (refl, refl, refl, refl, refl, refl)

rows : lines_of (plan_of (loop_over 0 Scan ∷ loop_over 1 Scan ∷ []) false) labels
    ≡ (Integer (pos 1) ∷ Integer (pos 0) ∷ Integer (pos 0) ∷ Text (codes "SCAN t") ∷ [])
    ∷ (Integer (pos 2) ∷ Integer (pos 0) ∷ Integer (pos 0) ∷ Text (codes "SCAN u") ∷ []) ∷ []
rows = refl
