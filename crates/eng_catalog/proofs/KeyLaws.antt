-- What entries under their keys tell of the entries alone.
use Rattle.std.proofs.Common.{◌≡◌, ℕ, Bool, true, cond, List, [], ◌∷◌, ◌++◌, map, remove, position, slice_get, None, Some, Result, Ok, Err, OnOk, OnErr, refl, sym, ap, subst, ◌∙◌}
use Rattle.std.proofs.lemmas.List.{map-append}
use Rattle.std.proofs.lemmas.Option.{slice_get-map}
use Rattle.std.specs.Cmp.Lexicographic.{nat_list_eq_equiv}
use Rattle.std.specs.List.{IsDistinct}
use Rattle.std.specs.Map.{keys_of, lookup, values_of}
use Rattle.std.specs.Option.{option_map}
use Rattle.std.specs.Str.{bytes_eq, str_to_ascii_lowercase}
use Rattle.std.specs.declared.alloc.Global.{Global}
use Rattle.std.specs.declared.vec.Vec.{Vec}
use Rattle.indexmap.proofs.CallerLemmas.{insert_entry-new}
use Rattle.indexmap.proofs.SetLemmas.{map-remove}
use Rattle.indexmap.specs.IndexMap.{IndexMap, insert_entry, values}
use Rattle.eng_entry.specs.declared.entry.Entry.{Entry}
use Rattle.eng_entry.specs.Entries.{HaveDistinctNames, entries_not_named, entry_named, is_named}
use Rattle.eng_entry.specs.Names.{is_same_name}
use Rattle.eng_catalog.specs.Keyed.{AreKeyed, key_of}
use Rattle.eng_catalog.proofs.Lists.{at_place, distinct_mapped, distinct_unmapped, filter_by_place, filter_not-all, find_by_place, position-map, without_place}

-- a key, its bytes, and when two keys are the same
abbrev pub Key : Type 0
Key = Vec ℕ Global

abbrev pub bytes_of : Key → List ℕ
bytes_of k = k.items

abbrev pub same_key : Key → Key → Bool
same_key a b = bytes_eq a.items b.items

abbrev key_in : Key × Entry → Key
key_in p = p.0

abbrev entry_in : Key × Entry → Entry
entry_in p = p.1

-- a name's key is that of an entry where the entry has the name
same_letters : (name : List ℕ) (e : Entry) → bytes_eq (str_to_ascii_lowercase name) (key_of e) ≡ is_named name e
same_letters name e = nat_list_eq_equiv.symm (str_to_ascii_lowercase name) (key_of e)

-- two entries of one name have the same name
named_alike : (name : List ℕ) (a b : Entry) → is_named name a ≡ true → is_named name b ≡ is_same_name a.name b.name
named_alike name a b e =
    sym (same_letters name b) ∙ sym (nat_list_eq_equiv.congr (key_of a) (str_to_ascii_lowercase name) (key_of b) e)

-- the entry of a name stands at its place, and the entries of other names are those without that place
pub find_named : (name : List ℕ) (entries : List Entry) → entry_named name entries ≡ at_place entries (position (is_named name) entries)
find_named name = find_by_place (is_named name)

pub not_named : (name : List ℕ) (entries : List Entry) → HaveDistinctNames entries → entries_not_named name entries ≡ without_place entries (position (is_named name) entries)
not_named name = filter_by_place (is_named name) (λ a b. is_same_name a.name b.name) (named_alike name)

pub none_named : (name : List ℕ) (entries : List Entry) → entry_named name entries ≡ None → entries_not_named name entries ≡ entries
none_named name = filter_not-all (is_named name)

module _ (pairs : List (Key × Entry)) (keyed : AreKeyed pairs) where
  -- the key's place is the name's
  pub position-keys : (name : List ℕ) → position (λ (k : Key). bytes_eq (str_to_ascii_lowercase name) k.items) (keys_of pairs) ≡ position (is_named name) (values_of pairs)
  position-keys name =
      let test = bytes_eq (str_to_ascii_lowercase name) in
      sym (position-map bytes_of test (keys_of pairs)) ∙ ap (position test) keyed ∙ position-map key_of test (values_of pairs)
      ∙ (λ j. position (λ e. same_letters name e j) (values_of pairs))

  -- since no two keys are the same, no two names are
  pub distinct_names : IsDistinct same_key (keys_of pairs) → HaveDistinctNames (values_of pairs)
  distinct_names d =
      distinct_mapped key_of bytes_eq (values_of pairs) (subst (IsDistinct bytes_eq) keyed (distinct_unmapped bytes_of bytes_eq (keys_of pairs) d))

  -- an entry by its place, and the entries without it
  pub entry_at : (i : ℕ) (k : Key) (e : Entry) → Some (k, e) ≡ slice_get pairs i → Some e ≡ slice_get (values_of pairs) i
  entry_at i k e at = ap (option_map entry_in) at ∙ sym (slice_get-map entry_in pairs i)

  pub values-removed : (i : ℕ) → values_of (remove pairs i) ≡ remove (values_of pairs) i
  values-removed i = map-remove entry_in pairs i

  -- entries stay under their keys
  pub keyed_removed : (i : ℕ) → AreKeyed (remove pairs i)
  keyed_removed i =
      ap (map bytes_of) (map-remove key_in pairs i) ∙ map-remove bytes_of (keys_of pairs) i ∙ ap (λ l. remove l i) keyed
      ∙ sym (map-remove key_of (values_of pairs) i) ∙ sym (ap (map key_of) (values-removed i))

  pub keyed_added : (e : Entry) (k : Key) → k.items ≡ key_of e → AreKeyed (pairs ++ (k, e) ∷ [])
  keyed_added e k is =
      ap (map bytes_of) (map-append key_in pairs ((k, e) ∷ [])) ∙ map-append bytes_of (keys_of pairs) (k ∷ []) ∙ (λ j. keyed j ++ is j ∷ [])
      ∙ sym (map-append key_of (values_of pairs) (e ∷ [])) ∙ sym (ap (map key_of) (map-append entry_in pairs ((k, e) ∷ [])))

-- what is kept under a name's key is the entry of the name
lookup-keyed : (name : List ℕ) (pairs : List (Key × Entry)) → AreKeyed pairs → lookup (λ (k : Key). bytes_eq (str_to_ascii_lowercase name) k.items) pairs ≡ entry_named name (values_of pairs)
lookup-keyed name [] keyed = refl
lookup-keyed name (p ∷ ps) keyed =
    let both : (p.0.items ∷ map bytes_of (keys_of ps)) ≡ (key_of p.1 ∷ map key_of (values_of ps)) = keyed in
    let first : p.0.items ≡ key_of p.1 = cc in
    let rest : map bytes_of (keys_of ps) ≡ map key_of (values_of ps) = cc in
    let test : bytes_eq (str_to_ascii_lowercase name) p.0.items ≡ is_named name p.1 = ap (bytes_eq (str_to_ascii_lowercase name)) first ∙ same_letters name p.1 in
    λ j. cond (test j) (Some p.1) (lookup-keyed name ps rest j)

-- an entry of a free name goes behind the others
module _ {S : Type 0} (m : IndexMap Key Entry S) (keyed : AreKeyed m.entries) (entries : List Entry) (view : values m ≡ entries)
    (e : Entry) (k : Key) (is : k.items ≡ key_of e) (free : entry_named e.name entries ≡ None) where
  no_key : lookup (same_key k) m.entries ≡ None
  no_key =
      ap (λ l. lookup (λ (x : Key). bytes_eq l x.items) m.entries) is ∙ lookup-keyed e.name m.entries keyed ∙ ap (entry_named e.name) view ∙ free

  pairs-inserted : insert_entry same_key m.entries k e ≡ m.entries ++ (k, e) ∷ []
  pairs-inserted = insert_entry-new same_key m k e no_key

  pub values-inserted : (new : List (Key × Entry)) → new ≡ insert_entry same_key m.entries k e → values_of new ≡ entries ++ e ∷ []
  values-inserted new is_new =
      ap values_of (is_new ∙ pairs-inserted) ∙ map-append entry_in m.entries ((k, e) ∷ []) ∙ ap (λ l. l ++ e ∷ []) view

  pub keyed_inserted : {A E : Type 0} (r : Result A E) (new : List (Key × Entry)) → OnOk r (new ≡ insert_entry same_key m.entries k e) → OnErr r (new ≡ m.entries) → AreKeyed new
  keyed_inserted (Ok _) new ok err = subst AreKeyed (sym (ok ∙ pairs-inserted)) (keyed_added m.entries keyed e k is)
  keyed_inserted (Err _) new ok err = subst AreKeyed (sym err) keyed
