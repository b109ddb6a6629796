-- Tables by their names and their numbers.
use Rattle.std.proofs.Common.{suc, ◌≡◌, ◌≢◌, ◌<◌, ◌≤◌, ◌⊎◌, inl, inr, ℕ, List, [], ◌∷◌, ◌++◌, Bool, true, false, not, cond, length, Option, Some, None, is_some, eqb, ltb, position, slice_get, slice_index_or, slice_set, All, AllPairs, refl, sym, ap, ◌∙◌, subst, arith}
use Rattle.std.specs.List.{filter}
use Rattle.std.specs.Option.{option_map, option_to_list}
use Rattle.std.proofs.lemmas.Bool.{ltb-false, ltb-true}
use Rattle.std.proofs.lemmas.Bool.Decides.{eqb_tells}
use Rattle.std.proofs.Math.Nat.{eq-or-lt_of_le}
use Rattle.std.proofs.Math.Seq.{get_or-append_seam}
use Rattle.std.proofs.lemmas.List.{get_or-set_other, get_or-set_same, get_or_append_left, get_or_past, length-set, length_push}
use Rattle.std.proofs.lemmas.List.Elements.{All-cons, All-head, All-nil, All-push, All-tail}
use Rattle.std.proofs.lemmas.List.Quantifiers.{all_pairs_push}
use Rattle.std.proofs.lemmas.Option.{get_or_from_slice_get, slice_get_within}
use Rattle.eng_entry.specs.Entries.{entry_named, Entries, entries_in, entries_not_named, with_entries, with_entry}
use Rattle.eng_entry.specs.Spaces.{space_of}
use Rattle.eng_entry.specs.Names.{is_same_name}
use Rattle.eng_entry.specs.declared.entry.Entry.{Entry}
use Rattle.eng_entry.specs.declared.entry.Space.TheVariants as space
use Rattle.eng_value.specs.Environments.{Lists}
use Rattle.eng_value.specs.StoredRows.{StoredRow}
use Rattle.sql_meaning.specs.declared.column.Column.{Column}
use Rattle.sql_meaning.specs.declared.column.TableEntry.{TableEntry}
use Rattle.sql_tree.specs.declared.statement.Definition.{Definition}
use Rattle.sql_tree.specs.declared.statement.Definition.TheVariants as definition
use Rattle.sql_tree.specs.declared.statement.IndexDefinition.{IndexDefinition}
use Rattle.sql_bound.specs.Declarations.{definition_of, index_in, table_in}
use Rattle.sql_meaning.specs.Declarations.{columns_created, columns_kept, columns_of, table_called, table_of, table_with, tables_among}
use Rattle.sql_meaning.specs.Valid.{AreRowsOf, HaveOtherNames, IsRowOf, IsTable}
use Rattle.sql_meaning.specs.World.{rows_at}
use Rattle.sql_meaning.proofs.LookUps.{position_finds}
use Rattle.sql_meaning.proofs.NameLaws.{is_same_name-left, is_same_name-sym, is_same_name-trans}

-- ---- a table that is found by its name

pub found-same : (tables : List TableEntry) (name : List ℕ) (t : TableEntry) → table_called tables name ≡ Some t → is_same_name t.name name ≡ true
found-same [] name t e = absurd (cc)
found-same (x ∷ tables) name t e = by (is_same_name x.name name) refl (found-same tables name t) e
  where
    by : (b : Bool) → is_same_name x.name name ≡ b → (table_called tables name ≡ Some t → is_same_name t.name name ≡ true) → cond b (Some x) (table_called tables name) ≡ Some t → is_same_name t.name name ≡ true
    by true is rest f = subst (λ u. is_same_name u.name name ≡ true) (let same : x ≡ t = cc in same) is
    by false is rest f = rest f

-- it is found by its own
pub found-own : (tables : List TableEntry) (name : List ℕ) (t : TableEntry) → table_called tables name ≡ Some t → table_called tables t.name ≡ Some t
found-own tables name t e = look tables ∙ e
  where
    same : is_same_name t.name name ≡ true
    same = found-same tables name t e

    look : (others : List TableEntry) → table_called others t.name ≡ table_called others name
    look [] = refl
    look (x ∷ others) = ap (λ b. cond b (Some x) (table_called others t.name)) (is_same_name-left x.name t.name name same) ∙ ap (cond (is_same_name x.name name) (Some x)) (look others)

-- what holds of all tables holds of it
pub found-all : (P : TableEntry → Type 0) (tables : List TableEntry) (name : List ℕ) (t : TableEntry) → All P tables → table_called tables name ≡ Some t → P t
found-all P [] name t all e = absurd (cc)
found-all P (x ∷ tables) name t all e = by (is_same_name x.name name) (found-all P tables name t (All-tail P x tables all)) e
  where
    by : (b : Bool) → (table_called tables name ≡ Some t → P t) → cond b (Some x) (table_called tables name) ≡ Some t → P t
    by true rest f = subst P (let same : x ≡ t = cc in same) (All-head P x tables all)
    by false rest f = rest f

-- ---- the tables among entries

pub among-push : (entries : List Entry) (e : Entry) (t : TableEntry) → table_of e ≡ Some t → tables_among (entries ++ e ∷ []) ≡ tables_among entries ++ t ∷ []
among-push [] e t is = ap (λ o. option_to_list o ++ []) is
among-push (x ∷ entries) e t is = by (table_of x) (among-push entries e t is)
  where
    by : (o : Option TableEntry) → tables_among (entries ++ e ∷ []) ≡ tables_among entries ++ t ∷ [] → option_to_list o ++ tables_among (entries ++ e ∷ []) ≡ (option_to_list o ++ tables_among entries) ++ t ∷ []
    by None rest = rest
    by (Some u) rest = ap (λ us. u ∷ us) rest

-- a table has the name of its entry
pub table_of-name : (e : Entry) (t : TableEntry) → table_of e ≡ Some t → t.name ≡ e.name
table_of-name e t is = by (columns_created e.text e.def.command) is
  where
    by : (o : Option (List Column)) → option_map (table_with e) o ≡ Some t → t.name ≡ e.name
    by None f = absurd (cc)
    by (Some columns) f = let same : table_with e columns ≡ t = cc in ap (λ (u : TableEntry). u.name) (sym same)

abbrev pub is_other : List ℕ → TableEntry → Bool
is_other name t = not (is_same_name t.name name)

-- the tables among the entries of other names are the tables of other names
pub among-others : (name : List ℕ) (entries : List Entry) → tables_among (entries_not_named name entries) ≡ filter (is_other name) (tables_among entries)
among-others name [] = refl
among-others name (e ∷ entries) = by (is_same_name e.name name) (table_of e) refl (λ t is. table_of-name e t is) refl (among-others name entries)
  where
    by : (b : Bool) (o : Option TableEntry) → is_same_name e.name name ≡ b → ((t : TableEntry) → o ≡ Some t → t.name ≡ e.name) → table_of e ≡ o → tables_among (entries_not_named name entries) ≡ filter (is_other name) (tables_among entries)
        → tables_among (cond (not b) (e ∷ entries_not_named name entries) (entries_not_named name entries)) ≡ filter (is_other name) (option_to_list o ++ tables_among entries)
    by true None is named at rest = rest
    by true (Some t) is named at rest =
        let here : is_same_name t.name name ≡ true = ap (λ n. is_same_name n name) (named t refl) ∙ is in
        rw here rest
    by false None is named at rest = rw at rest
    by false (Some t) is named at rest =
        let here : is_same_name t.name name ≡ false = ap (λ n. is_same_name n name) (named t refl) ∙ is in
        rw (at, here) (ap (λ ts. t ∷ ts) rest)

-- and none of them has the name
pub others-none : (name : List ℕ) (tables : List TableEntry) → table_called (filter (is_other name) tables) name ≡ None
others-none name [] = refl
others-none name (t ∷ tables) = by (is_same_name t.name name) refl (others-none name tables)
  where
    by : (b : Bool) → is_same_name t.name name ≡ b → table_called (filter (is_other name) tables) name ≡ None → table_called (cond (not b) (t ∷ filter (is_other name) tables) (filter (is_other name) tables)) name ≡ None
    by true is rest = rest
    by false is rest = rw is rest

-- where no entry has a name, no table has it
pub none-called : (name : List ℕ) (entries : List Entry) → entry_named name entries ≡ None → table_called (tables_among entries) name ≡ None
none-called name [] none = refl
none-called name (e ∷ entries) none = by (is_same_name e.name name) refl (table_of e) (λ t is. table_of-name e t is) none (none-called name entries)
  where
    by : (b : Bool) → is_same_name e.name name ≡ b → (o : Option TableEntry) → ((t : TableEntry) → o ≡ Some t → t.name ≡ e.name) → cond b (Some e) (entry_named name entries) ≡ None
        → (entry_named name entries ≡ None → table_called (tables_among entries) name ≡ None) → table_called (option_to_list o ++ tables_among entries) name ≡ None
    by true is o named none rest = absurd (let bad : Some e ≡ None = none in cc)
    by false is None named none rest = rest none
    by false is (Some t) named none rest =
        let here : is_same_name t.name name ≡ false = ap (λ n. is_same_name n name) (named t refl) ∙ is in
        rw here (rest none)

-- an entry that creates an index is that of no table
pub index-no_table : (e : Entry) (i : IndexDefinition) → index_in (definition_of e) ≡ Some i → table_of e ≡ None
index-no_table e i creates = by (definition_of e) refl creates
  where
    none : table_in (definition_of e) ≡ None → table_of e ≡ None
    none is = ap (λ o. option_map (table_with e) (columns_kept (option_map (columns_of e.text) o))) is

    by : (d : Option Definition) → definition_of e ≡ d → index_in d ≡ Some i → table_of e ≡ None
    by (Some (definition.Index x)) is f = none (ap table_in is)
    by (Some (definition.Table x)) is f = absurd (let bad : None ≡ Some i = f in cc)
    by (Some (definition.View x)) is f = absurd (let bad : None ≡ Some i = f in cc)
    by (Some (definition.Trigger x)) is f = absurd (let bad : None ≡ Some i = f in cc)
    by (Some (definition.VirtualTable x)) is f = absurd (let bad : None ≡ Some i = f in cc)
    by None is f = absurd (let bad : None ≡ Some i = f in cc)

-- one more that is that of no table
pub among-beside : (entries : List Entry) (e : Entry) → table_of e ≡ None → tables_among (entries ++ e ∷ []) ≡ tables_among entries
among-beside [] e is = ap (λ o. option_to_list o ++ []) is
among-beside (x ∷ entries) e is = ap (λ ts. option_to_list (table_of x) ++ ts) (among-beside entries e is)

-- what a test leaves out is the entry of no table
abbrev pub LeavesNoTable : (Entry → Bool) → Entry → Type 0
LeavesNoTable p e = p e ≡ false → table_of e ≡ None

pub among-kept : (p : Entry → Bool) (entries : List Entry) → All (LeavesNoTable p) entries → tables_among (filter p entries) ≡ tables_among entries
among-kept p [] all = refl
among-kept p (e ∷ entries) all = by (p e) refl (among-kept p entries (All-tail (LeavesNoTable p) e entries all))
  where
    by : (b : Bool) → p e ≡ b → tables_among (filter p entries) ≡ tables_among entries → tables_among (cond b (e ∷ filter p entries) (filter p entries)) ≡ option_to_list (table_of e) ++ tables_among entries
    by true is rest = ap (λ ts. option_to_list (table_of e) ++ ts) rest
    by false is rest = rest ∙ sym (ap (λ o. option_to_list o ++ tables_among entries) (All-head (LeavesNoTable p) e entries all is))

-- ---- entries by their names

abbrev pub IsElse : List ℕ → Entry → Type 0
IsElse name e = is_same_name e.name name ≡ false

-- where none has the name, all have others
pub none-else : (entries : List Entry) (name : List ℕ) → entry_named name entries ≡ None → All (IsElse name) entries
none-else [] name none = All-nil (IsElse name)
none-else (e ∷ entries) name none = by (is_same_name e.name name) refl none (none-else entries name)
  where
    by : (b : Bool) → is_same_name e.name name ≡ b → cond b (Some e) (entry_named name entries) ≡ None → (entry_named name entries ≡ None → All (IsElse name) entries) → All (IsElse name) (e ∷ entries)
    by true is f rest = absurd (let bad : Some e ≡ None = f in cc)
    by false is f rest = All-cons (IsElse name) e entries is (rest f)

-- one that is found is found by its own name
pub entry-own : (entries : List Entry) (name : List ℕ) (e : Entry) → entry_named name entries ≡ Some e → (is_same_name e.name name ≡ true) × (entry_named e.name entries ≡ Some e)
entry-own entries name e is = (same entries is, look entries ∙ is)
  where
    same : (others : List Entry) → entry_named name others ≡ Some e → is_same_name e.name name ≡ true
    same [] f = absurd (let bad : None ≡ Some e = f in cc)
    same (x ∷ others) f = by (is_same_name x.name name) refl f (same others)
      where
        by : (b : Bool) → is_same_name x.name name ≡ b → cond b (Some x) (entry_named name others) ≡ Some e → (entry_named name others ≡ Some e → is_same_name e.name name ≡ true) → is_same_name e.name name ≡ true
        by true one g rest = subst (λ (y : Entry). is_same_name y.name name ≡ true) (let equal : x ≡ e = cc in equal) one
        by false one g rest = rest g

    look : (others : List Entry) → entry_named e.name others ≡ entry_named name others
    look [] = refl
    look (x ∷ others) = ap (λ b. cond b (Some x) (entry_named e.name others)) (is_same_name-left x.name e.name name (same entries is)) ∙ ap (cond (is_same_name x.name name) (Some x)) (look others)

-- what has the name is this one
abbrev pub IsIt : List ℕ → Entry → Entry → Type 0
IsIt name e x = is_same_name x.name name ≡ true → x ≡ e

-- and none is left with a name that went
pub entry-gone : (entries : List Entry) (name : List ℕ) → entry_named name (entries_not_named name entries) ≡ None
entry-gone [] name = refl
entry-gone (e ∷ entries) name = by (is_same_name e.name name) refl (entry-gone entries name)
  where
    by : (b : Bool) → is_same_name e.name name ≡ b → entry_named name (entries_not_named name entries) ≡ None → entry_named name (cond (not b) (e ∷ entries_not_named name entries) (entries_not_named name entries)) ≡ None
    by true is rest = rest
    by false is rest = rw is rest

-- where no two have one name
pub named-once : (entries : List Entry) (name : List ℕ) (e : Entry) → HaveOtherNames entries → entry_named name entries ≡ Some e → All (IsIt name e) entries
named-once [] name e others is = All-nil (IsIt name e)
named-once (y ∷ entries) name e others is = by (is_same_name y.name name) refl is (named-once entries name e (λ i j d l h. others (suc i) (suc j) d (omega arith) (omega arith)))
  where
    apart : All (λ x. is_same_name y.name x.name ≡ false) entries
    apart = λ k d l. others 0 (suc k) d (omega arith) (omega arith)

    by : (b : Bool) → is_same_name y.name name ≡ b → cond b (Some y) (entry_named name entries) ≡ Some e → (entry_named name entries ≡ Some e → All (IsIt name e) entries) → All (IsIt name e) (y ∷ entries)
    by true one f rest =
        let it : y ≡ e = cc in
        All-cons (IsIt name e) y entries (λ h. it) (λ k d l same. absurd (let bad : false ≡ true = sym (apart k d l) ∙ is_same_name-left y.name _ name same ∙ one in cc))
    by false one f rest = All-cons (IsIt name e) y entries (λ h. absurd (let bad : false ≡ true = sym one ∙ h in cc)) (rest f)

-- what stands behind a test passes it
pub all-kept : (P : Entry → Type 0) (p : Entry → Bool) (entries : List Entry) → All P entries → All (λ e. (p e ≡ true) × P e) (filter p entries)
all-kept P p [] all = All-nil (λ e. (p e ≡ true) × P e)
all-kept P p (e ∷ entries) all = by (p e) refl (all-kept P p entries (All-tail P e entries all))
  where
    by : (b : Bool) → p e ≡ b → All (λ x. (p x ≡ true) × P x) (filter p entries) → All (λ x. (p x ≡ true) × P x) (cond b (e ∷ filter p entries) (filter p entries))
    by true is rest = All-cons (λ x. (p x ≡ true) × P x) e (filter p entries) (is, All-head P e entries all) rest
    by false is rest = rest

pub entries-by : (P Q : Entry → Type 0) (entries : List Entry) → ((e : Entry) → P e → Q e) → All P entries → All Q entries
entries-by P Q entries f all = λ k d here. f (slice_index_or entries k d) (all k d here)

-- ---- tables that others stand by

-- one of another name than that which goes is found as before
pub called-others : (tables : List TableEntry) (gone name : List ℕ) → is_same_name name gone ≡ false → table_called (filter (is_other gone) tables) name ≡ table_called tables name
called-others [] gone name other = refl
called-others (t ∷ tables) gone name other = by (is_same_name t.name name) (is_same_name t.name gone) refl refl (called-others tables gone name other)
  where
    by : (b c : Bool) → is_same_name t.name name ≡ b → is_same_name t.name gone ≡ c → table_called (filter (is_other gone) tables) name ≡ table_called tables name
        → table_called (cond (not c) (t ∷ filter (is_other gone) tables) (filter (is_other gone) tables)) name ≡ cond b (Some t) (table_called tables name)
    by true true is at rest = absurd (let bad : true ≡ false = sym (is_same_name-trans name t.name gone (is_same_name-sym t.name name is) at) ∙ other in cc)
    by true false is at rest = rw is refl
    by false true is at rest = rest
    by false false is at rest = rw is rest

-- and beside one more some table is still found
pub called-more : (tables : List TableEntry) (t : TableEntry) (name : List ℕ) → is_some (table_called tables name) ≡ true → is_some (table_called (tables ++ t ∷ []) name) ≡ true
called-more [] t name there = absurd (let bad : false ≡ true = there in cc)
called-more (x ∷ tables) t name there = by (is_same_name x.name name) there (called-more tables t name)
  where
    by : (b : Bool) → is_some (cond b (Some x) (table_called tables name)) ≡ true → (is_some (table_called tables name) ≡ true → is_some (table_called (tables ++ t ∷ []) name) ≡ true) → is_some (cond b (Some x) (table_called (tables ++ t ∷ []) name)) ≡ true
    by true f rest = refl
    by false f rest = rest f

-- an entry of the names comes behind the others there
pub with_entry-names : (e : Entry) (c : Entries) → space_of e.kind ≡ space.Names → with_entry e c ≡ record { names = c.names ++ e ∷ []; triggers = c.triggers }
with_entry-names e c is = ap (λ s. with_entries s (entries_in s c ++ e ∷ []) c) is

-- ---- rows by their numbers

pub rows_at-set : (lists : Lists) (number : ℕ) (rows : List StoredRow) → number < length lists → rows_at (slice_set lists number rows) number ≡ rows
rows_at-set lists number rows there = get_or-set_same lists number rows [] there

pub rows_at-set_other : (lists : Lists) (number other : ℕ) (rows : List StoredRow) → other ≢ number → rows_at (slice_set lists number rows) other ≡ rows_at lists other
rows_at-set_other lists number other rows differs = get_or-set_other lists number other rows [] differs

pub rows_at-behind : (lists : Lists) → rows_at (lists ++ [] ∷ []) (length lists) ≡ []
rows_at-behind lists = get_or-append_seam lists [] [] []

pub rows_at-more : (lists : Lists) (other : ℕ) → other ≢ length lists → rows_at (lists ++ [] ∷ []) other ≡ rows_at lists other
rows_at-more lists other differs = by (ltb other (length lists)) refl
  where
    by : (b : Bool) → ltb other (length lists) ≡ b → rows_at (lists ++ [] ∷ []) other ≡ rows_at lists other
    by true is = get_or_append_left lists ([] ∷ []) [] other (ltb-true other (length lists) is)
    by false is =
        let past : length lists ≤ other = ltb-false other (length lists) is in
        let beyond : length (lists ++ [] ∷ []) ≤ other = behind (eq-or-lt_of_le past) in
        get_or_past (lists ++ [] ∷ []) other [] beyond ∙ sym (get_or_past lists other [] past)
      where
        behind : (length lists ≡ other) ⊎ (length lists < other) → length (lists ++ [] ∷ []) ≤ other
        behind (inl e) = absurd (differs (sym e))
        behind (inr lt) = let long = length_push lists [] in omega (arith, long, lt)

-- ---- the rows of tables

no_rows : (t : TableEntry) → AreRowsOf t []
no_rows t = record { ascending = λ i j d l h. absurd (omega arith); each = All-nil (IsRowOf t) }

-- a list more
more_there : (lists : Lists) (t : TableEntry) → IsTable lists t → IsTable (lists ++ [] ∷ []) t
more_there lists t held =
    let long = length_push lists [] in
    record {
      there = let there = held.there in omega (arith, long, there);
      rows = subst (AreRowsOf t) (sym (get_or_append_left lists ([] ∷ []) [] t.number held.there)) held.rows;
    }

-- other rows under a number
set_there : (lists : Lists) (t : TableEntry) (number : ℕ) (rows : List StoredRow) → (t.number ≡ number → AreRowsOf t rows) → IsTable lists t → IsTable (slice_set lists number rows) t
set_there lists t number rows new held = record { there = subst (λ n. t.number < n) (sym (length-set lists number rows)) held.there; rows = by (eqb_tells t.number number) }
  where
    by : ((eqb t.number number ≡ true) × (t.number ≡ number)) ⊎ ((eqb t.number number ≡ false) × (t.number ≢ number)) → AreRowsOf t (rows_at (slice_set lists number rows) t.number)
    by (inl same) =
        subst (λ n. AreRowsOf t (rows_at (slice_set lists n rows) t.number)) same.1 (subst (AreRowsOf t) (sym (rows_at-set lists t.number rows held.there)) (new same.1))
    by (inr other) = subst (AreRowsOf t) (sym (rows_at-set_other lists number t.number rows other.1)) held.rows

abbrev Differ : TableEntry → TableEntry → Type 0
Differ a b = a.number ≢ b.number

-- tables of one number are one
same-number : (tables : List TableEntry) (i k : ℕ) (t d : TableEntry) → AllPairs Differ tables → slice_get tables i ≡ Some t → i < length tables → k < length tables → (slice_index_or tables k d).number ≡ t.number → slice_index_or tables k d ≡ t
same-number tables i k t d differ at there here same = by (ltb k i) (ltb i k) refl refl
  where
    found : slice_index_or tables i d ≡ t
    found = get_or_from_slice_get tables i t d at

    by : (b c : Bool) → ltb k i ≡ b → ltb i k ≡ c → slice_index_or tables k d ≡ t
    by true c below e = absurd (differ k i d (ltb-true k i below) there (same ∙ ap (λ (u : TableEntry). u.number) (sym found)))
    by false true e above = absurd (differ i k d (ltb-true i k above) here (ap (λ (u : TableEntry). u.number) found ∙ sym same))
    by false false e f =
        let low = ltb-false k i e in
        let high = ltb-false i k f in
        let one : k ≡ i = omega (arith, low, high) in
        ap (λ n. slice_index_or tables n d) one ∙ found

-- what is so of a table that is found is so of all tables of its number
pub found-number : (tables : List TableEntry) (t : TableEntry) → AllPairs Differ tables → table_called tables t.name ≡ Some t → All (λ (u : TableEntry). u.number ≡ t.number → u ≡ t) tables
found-number tables t differ e = λ k d here same. by (position_finds (λ (u : TableEntry). is_same_name u.name t.name) tables) k d here same
  where
    by : ((position (λ (u : TableEntry). is_same_name u.name t.name) tables ≡ None) × (table_called tables t.name ≡ None))
        ⊎ ((i : ℕ) × (x : TableEntry) × (position (λ (u : TableEntry). is_same_name u.name t.name) tables ≡ Some i) × (slice_get tables i ≡ Some x) × (table_called tables t.name ≡ Some x))
        → (k : ℕ) (d : TableEntry) → k < length tables → (slice_index_or tables k d).number ≡ t.number → slice_index_or tables k d ≡ t
    by (inl none) k d here same = absurd (let bad : None ≡ Some t = sym none.1 ∙ e in cc)
    by (inr one) k d here same =
        let is : one.1 ≡ t = (let both : Some one.1 ≡ Some t = sym one.4 ∙ e in cc) in
        let at : slice_get tables one.0 ≡ Some t = one.3 ∙ ap Some is in
        same-number tables one.0 k t d differ at (slice_get_within tables one.0 t at) here same

-- ---- tables that stay, come and go

all-by : (P Q : TableEntry → Type 0) (tables : List TableEntry) → ((t : TableEntry) → P t → Q t) → All P tables → All Q tables
all-by P Q tables f all = λ k d here. f (slice_index_or tables k d) (all k d here)

-- a table that gets the number behind the others
pub tables-more : (lists : Lists) (tables : List TableEntry) (t : TableEntry) → All (IsTable lists) tables → t.number ≡ length lists → All (IsTable (lists ++ [] ∷ [])) (tables ++ t ∷ [])
tables-more lists tables t all number =
    All-push (IsTable (lists ++ [] ∷ [])) tables t (all-by (IsTable lists) (IsTable (lists ++ [] ∷ [])) tables (more_there lists) all) (record {
      there = let long = length_push lists [] in omega (arith, long, number);
      rows = subst (λ n. AreRowsOf t (rows_at (lists ++ [] ∷ []) n)) (sym number) (subst (AreRowsOf t) (sym (rows_at-behind lists)) (no_rows t));
    })

pub numbers-new : (lists : Lists) (tables : List TableEntry) (t : TableEntry) → All (IsTable lists) tables → t.number ≡ length lists → All (λ (u : TableEntry). u.number ≢ t.number) tables
numbers-new lists tables t all number =
    all-by (IsTable lists) (λ (u : TableEntry). u.number ≢ t.number) tables (λ u held same. let there = held.there in absurd (omega (arith, there, number, same))) all

pub numbers-more : (lists : Lists) (tables : List TableEntry) (t : TableEntry) → AllPairs Differ tables → All (IsTable lists) tables → t.number ≡ length lists → AllPairs Differ (tables ++ t ∷ [])
numbers-more lists tables t differ all number = all_pairs_push Differ tables t differ (numbers-new lists tables t all number)

-- without rows
pub tables-emptied : (lists : Lists) (tables : List TableEntry) (number : ℕ) → All (IsTable lists) tables → All (IsTable (slice_set lists number [])) tables
tables-emptied lists tables number all =
    all-by (IsTable lists) (IsTable (slice_set lists number [])) tables (λ t held. set_there lists t number [] (λ e. no_rows t) held) all

-- with other rows of one of them
pub tables-with : (lists : Lists) (tables : List TableEntry) (t : TableEntry) (rows : List StoredRow) → AllPairs Differ tables → table_called tables t.name ≡ Some t → AreRowsOf t rows → All (IsTable lists) tables → All (IsTable (slice_set lists t.number rows)) tables
tables-with lists tables t rows differ e new all = λ k d here.
    let u = slice_index_or tables k d in
    set_there lists u t.number rows (λ same. subst (λ x. AreRowsOf x rows) (sym (found-number tables t differ e k d here same)) new) (all k d here)
