-- The affinities of types.
use Rattle.std.proofs.Common.{◌≡◌, ◌∙◌, ℕ, Bool, true, ◌||◌, List, [], ◌∷◌, map, is_some, codes, refl, sym, ap}
use Rattle.std.proofs.lemmas.Slice.Eq.{bytes_eq-Decides}
use Rattle.eng_entry.specs.Names.{is_same_name}
use Rattle.std.specs.List.{list_any}
use Rattle.eng_text.specs.Texts.{folded, place_of}
use Rattle.sql_words.specs.Types.{mentions, affinity_of_words, affinity_of_type}
use Rattle.sql_words.specs.Spelled.{name_at}
use Rattle.sql_tree.specs.declared.expr.TypeName.{TypeName}
use Rattle.bind_name.specs.Types.{affinity_by, affinity_of_folded}

any_of_map : {X Y : Type 0} (p : Y → Bool) (f : X → Y) (xs : List X) → list_any p (map f xs) ≡ list_any (λ x. p (f x)) xs
any_of_map p f [] = refl
any_of_map p f (x ∷ xs) = ap (λ t. p (f x) || t) (any_of_map p f xs)

affinity_by_same : (f g : List ℕ → Bool) → ((part : List ℕ) → f part ≡ g part) → affinity_by f ≡ affinity_by g
affinity_by_same f g same =
    rw (same (codes "int"), same (codes "char"), same (codes "clob"), same (codes "text"), same (codes "blob"), same (codes "real"), same (codes "floa"), same (codes "doub")) refl

pub affinity_of_folded_is : (words : List (List ℕ)) → affinity_of_folded (map folded words) ≡ affinity_of_words words
affinity_of_folded_is [] = refl
affinity_of_folded_is (w ∷ ws) = affinity_by_same _ (mentions (w ∷ ws)) (λ part. any_of_map (λ w. is_some (place_of part w)) folded (w ∷ ws))

map_twice : {X Y Z : Type 0} (f : Y → Z) (g : X → Y) (xs : List X) → map (λ x. f (g x)) xs ≡ map f (map g xs)
map_twice f g [] = refl
map_twice f g (x ∷ xs) = ap (λ rest. f (g x) ∷ rest) (map_twice f g xs)

pub affinity_of_type_is : (text : List ℕ) (t : TypeName) → affinity_of_folded (map (λ word. folded (name_at text word)) t.words) ≡ affinity_of_type text t
affinity_of_type_is text t = rw (map_twice folded (name_at text) t.words) (affinity_of_folded_is (map (name_at text) t.words))

-- a word that is another but for the case of its letters
pub usual : (w n : List ℕ) → is_same_name w n ≡ true → affinity_of_words (n ∷ []) ≡ affinity_of_words (w ∷ [])
usual w n h =
    sym (affinity_of_folded_is (n ∷ [])) ∙ ap (λ word. affinity_of_folded (word ∷ [])) (sym ((bytes_eq-Decides (folded w) (folded n)).0 h)) ∙ affinity_of_folded_is (w ∷ [])
