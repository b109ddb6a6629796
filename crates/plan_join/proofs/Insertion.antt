-- One item more is put into an order of loops.
use Rattle.std.proofs.Common.{◌≡◌, ◌+◌, ◌≤◌, ◌<◌, ℕ, suc, Bool, false, List, [], ◌∷◌, ◌++◌, length, take, drop, refl, sym, ap, subst, ◌∙◌, arith, append-nil, append_assoc}
use Rattle.std.specs.List.{AllByRecursion, insert}
use Rattle.std.proofs.Math.ListN.{drop_of_length-le}
use Rattle.std.proofs.lemmas.List.{length-drop, length-map, map-append, take-append-drop}
use Rattle.eng_value.proofs.Shuffling.{all-shuffled}
use Rattle.plan_join.specs.Orders.{IsInner, IsOrderOf, IsSlotFor, item_at, items_at}
use Rattle.plan_join.specs.declared.placing.Placed.{Placed}
use Rattle.plan_tree.proofs.Planning.{numbered-within}
use Rattle.plan_tree.proofs.Reordering.{reordered-shuffled}
use Rattle.plan_tree.specs.Assigned.{Reordered, as_it_is, behind, exchange, further, numbered}
use Rattle.sql_meaning.specs.declared.bound.FromTable.{FromTable}
use Rattle.sql_meaning.specs.declared.bound.Join.TheVariants.{Inner}

-- ---- orders of parts

one-behind : (last : ℕ × FromTable) {order other : List (ℕ × FromTable)} → Reordered order other → Reordered (order ++ last ∷ []) (other ++ last ∷ [])
one-behind last (as_it_is order) = as_it_is (order ++ last ∷ [])
one-behind last (behind first x) = behind first (one-behind last x)
one-behind last (exchange a b order apart inner_a inner_b) = exchange a b (order ++ last ∷ []) apart inner_a inner_b
one-behind last (further x y) = further (one-behind last x) (one-behind last y)

behind-front : (front : List (ℕ × FromTable)) {order other : List (ℕ × FromTable)} → Reordered order other → Reordered (front ++ order) (front ++ other)
behind-front [] x = x
behind-front (first ∷ front) x = behind first (behind-front front x)

abbrev JoinsInner : ℕ × FromTable → Type 0
JoinsInner item = item.1.join ≡ Inner

-- past others that are no LEFT JOINs to the front
to-front : (item : ℕ × FromTable) (others : List (ℕ × FromTable)) → (0 < length others → JoinsInner item) → AllByRecursion JoinsInner others → AllByRecursion (λ (other : ℕ × FromTable). other.0 < item.0) others → Reordered (others ++ item ∷ []) (item ∷ others)
to-front item [] inner all less = as_it_is (item ∷ [])
to-front item (other ∷ others) inner all less =
    further (behind other (to-front item others (λ some. inner (omega arith)) all.1 less.1)) (exchange other item others (omega arith) all.0 (inner (omega arith)))

-- ---- parts of lists

all-right : {X : Type 0} (P : X → Type 0) (xs ys : List X) → AllByRecursion P (xs ++ ys) → AllByRecursion P ys
all-right P [] ys all = all
all-right P (x ∷ xs) ys all = all-right P xs ys all.1

all-inner : (others : List Placed) → AllByRecursion IsInner others → AllByRecursion JoinsInner (items_at others)
all-inner [] all = tt
all-inner (other ∷ others) all = (all.0, all-inner others all.1)

numbered-behind : (place count : ℕ) (from : List FromTable) (f : FromTable) → place + length from ≡ count → numbered place (from ++ f ∷ []) ≡ numbered place from ++ (count, f) ∷ []
numbered-behind place count [] f is = ap (λ n. (n, f) ∷ []) (omega arith)
numbered-behind place count (g ∷ from) f is = ap (λ rest. (place, g) ∷ rest) (numbered-behind (suc place) count from f (omega arith))

-- ---- one more

pub no_items : IsOrderOf [] [] false
no_items = record { reordered = as_it_is []; unmoved = λ not_moved. refl }

module _ (from : List FromTable) (old : List Placed) (moved : Bool) (next : Placed) (slot : ℕ) (is : IsOrderOf from old moved) (place_is : next.place ≡ length from) (fits : IsSlotFor old next.item.now slot) where
  abbrev front : List (ℕ × FromTable)
  front = items_at (take slot old)

  abbrev others : List (ℕ × FromTable)
  others = items_at (drop slot old)

  parts : items_at old ≡ front ++ others
  parts = ap items_at (sym (take-append-drop slot old)) ∙ map-append item_at (take slot old) (drop slot old)

  text : numbered 0 (from ++ next.item.now ∷ []) ≡ numbered 0 from ++ item_at next ∷ []
  text = numbered-behind 0 next.place from next.item.now (omega arith)

  less : AllByRecursion (λ (other : ℕ × FromTable). other.0 < next.place) others
  less =
      let those : AllByRecursion (λ (other : ℕ × FromTable). other.0 < next.place) (items_at old) = all-shuffled (λ (other : ℕ × FromTable). other.0 < next.place) (reordered-shuffled is.reordered) (numbered-within next.place 0 from (omega arith)) in
      all-right (λ (other : ℕ × FromTable). other.0 < next.place) front others (subst (AllByRecursion (λ (other : ℕ × FromTable). other.0 < next.place)) parts those)

  some-others : 0 < length others → slot < length old
  some-others some = omega (arith, length-map (drop slot old) item_at, length-drop slot old)

  put-reordered : Reordered (numbered 0 (from ++ next.item.now ∷ [])) (items_at (insert old slot next))
  put-reordered =
      let last : Reordered (numbered 0 from ++ item_at next ∷ []) (items_at old ++ item_at next ∷ []) = one-behind (item_at next) is.reordered in
      let moves : Reordered (front ++ (others ++ item_at next ∷ [])) (front ++ item_at next ∷ others) = behind-front front (to-front (item_at next) others (λ some. fits.inner (some-others some)) (all-inner (drop slot old) fits.others) less) in
      let where_from : items_at old ++ item_at next ∷ [] ≡ front ++ (others ++ item_at next ∷ []) = ap (λ those. those ++ item_at next ∷ []) parts ∙ append_assoc front others (item_at next ∷ []) in
      let where_to : front ++ item_at next ∷ others ≡ items_at (insert old slot next) = sym (map-append item_at (take slot old) (next ∷ drop slot old)) in
      subst (λ those. Reordered those (items_at (insert old slot next))) (sym text) (further last (subst (λ those. Reordered those (items_at (insert old slot next))) (sym where_from) (subst (Reordered (front ++ (others ++ item_at next ∷ []))) where_to moves)))

  -- behind all others
  put-last : length old ≤ slot → items_at (insert old slot next) ≡ items_at old ++ item_at next ∷ []
  put-last long =
      let none : drop slot old ≡ [] = drop_of_length-le old long in
      let all : take slot old ≡ old = sym (append-nil (take slot old)) ∙ ap (λ rest. take slot old ++ rest) (sym none) ∙ take-append-drop slot old in
      ap (λ rest. items_at (take slot old ++ next ∷ rest)) none
      ∙ ap (λ those. items_at (those ++ next ∷ [])) all
      ∙ map-append item_at old (next ∷ [])

  pub put : (new : List Placed) (moved_now : Bool) → new ≡ insert old slot next → (moved_now ≡ false → (moved ≡ false) × (length old ≤ slot)) → IsOrderOf (from ++ next.item.now ∷ []) new moved_now
  put new moved_now new_is unmoved = record {
    reordered = subst (λ those. Reordered (numbered 0 (from ++ next.item.now ∷ [])) (items_at those)) (sym new_is) put-reordered;
    unmoved = λ not_moved.
        let those = unmoved not_moved in
        ap items_at new_is ∙ put-last those.1 ∙ ap (λ rest. rest ++ item_at next ∷ []) (is.unmoved those.0) ∙ sym text;
  }
