-- Columns of which the first of a name is found, taken one by one.
use Rattle.std.proofs.Common.{◌≡◌, ℕ, Bool, List, [], ◌∷◌, ◌++◌, ◌||◌, map, reverse, refl, ap, sym, ◌∙◌, append_assoc}
use Rattle.std.proofs.lemmas.List.{map-append, reverse-append}
use Rattle.std.proofs.lemmas.List.Sorted.{IsPermutation-reverse, list_any-IsPermutation}
use Rattle.std.specs.List.{list_any}
use Rattle.bind_create.specs.Levels.{names_of}
use Rattle.eng_entry.specs.Names.{is_same_name}
use Rattle.sql_bound.specs.Creates.{behind_first}
use Rattle.sql_bound.specs.declared.scopes.ScopeColumn.{ScopeColumn}
use Rattle.sql_words.specs.Names.{is_named_in}

abbrev name_of : ScopeColumn → List ℕ
name_of c = c.name

any-map : (n : List ℕ) (cs : List ScopeColumn) → list_any (λ (m : List ℕ). is_same_name m n) (map name_of cs) ≡ list_any (λ (c : ScopeColumn). is_same_name c.name n) cs
any-map n [] = refl
any-map n (c ∷ cs) = ap (λ (b : Bool). is_same_name c.name n || b) (any-map n cs)

named : (made : List ScopeColumn) (n : List ℕ) → is_named_in (names_of made) n ≡ list_any (λ (c : ScopeColumn). is_same_name c.name n) made
named made n =
    sym (list_any-IsPermutation (λ (m : List ℕ). is_same_name m n) (map name_of made) (reverse (map name_of made)) (IsPermutation-reverse (map name_of made)))
    ∙ any-map n made

names-more : (made : List ScopeColumn) (y : ScopeColumn) → names_of (made ++ y ∷ []) ≡ y.name ∷ names_of made
names-more made y = ap reverse (map-append name_of made (y ∷ [])) ∙ reverse-append (map name_of made) (y.name ∷ [])

abbrev marked : ScopeColumn → Bool → ScopeColumn
marked x joined = record x { joined = joined }

pub level-more : (made rest : List ScopeColumn) (x y : ScopeColumn) (next whole : List ScopeColumn)
    → made ++ behind_first (names_of made) (x ∷ rest) ≡ whole → y ≡ marked x (list_any (λ (c : ScopeColumn). is_same_name c.name x.name) made) → next ≡ made ++ y ∷ []
    → next ++ behind_first (names_of next) rest ≡ whole
level-more made rest x y next whole so is put =
    ap (λ (n : List ScopeColumn). n ++ behind_first (names_of n) rest) put
    ∙ ap (λ (ns : List (List ℕ)). (made ++ y ∷ []) ++ behind_first ns rest) (names-more made y)
    ∙ append_assoc made (y ∷ []) (behind_first (y.name ∷ names_of made) rest)
    ∙ ap (λ (v : ScopeColumn). made ++ v ∷ behind_first (v.name ∷ names_of made) rest) (is ∙ ap (marked x) (sym (named made x.name)))
    ∙ so
