-- The fronts of a range bound the keys of the rows within it.
use Rattle.std.proofs.Common.{◌≡◌, ◌≤◌, List, [], ◌∷◌, ◌++◌, Bool, true, false, not, ◌&&◌, ◌||◌, length, take, Some, None, Option, if◌then◌else◌, ◌⊎◌, inl, inr, ⊎_elim, refl, sym, ap, ap₂, ◌∙◌, subst, arith, append_assoc}
use Rattle.std.specs.Prelude.{slice_get}
use Rattle.std.specs.List.{list_any}
use Rattle.std.specs.Ordering.{is_eq, is_le, is_lt, ordering_reverse, ordering_then}
use Rattle.std.specs.declared.cmp.Ordering.{Ordering}
use Rattle.std.specs.declared.cmp.Ordering.TheVariants.{Less, Equal, Greater}
use Rattle.eng_key.specs.RowKeys.{IsSoundRow, behind_front, keyed_row, part_key, row_cmp, row_key}
use Rattle.eng_key.specs.declared.key_part.KeyPart.{KeyPart}
use Rattle.eng_key.proofs.RowKeyLaws.{fronts_bound}
use Rattle.eng_key.proofs.SpellingLaws.{then-Equal}
use Rattle.eng_tree.specs.Map.{Bytes, order}
use Rattle.eng_value.specs.Collations.{compare}
use Rattle.eng_value.specs.HostMeanings.{no_hosts}
use Rattle.eng_value.specs.StoredRows.{StoredRow}
use Rattle.eng_value.specs.declared.built.Built.{Built}
use Rattle.eng_value.specs.declared.collation.Collation.TheVariants as collation
use Rattle.eng_value.specs.declared.value.Value.{Value}
use Rattle.eng_value.specs.declared.value.Value.TheVariants.{Null, Integer, Text, Blob}
use Rattle.eng_value.proofs.CollationLaws.{compare_total}
use Rattle.eng_index.specs.declared.fronts.Fronts.{Fronts}
use Rattle.eng_index.specs.declared.key_term.KeyTerm.{KeyTerm}
use Rattle.eng_index.specs.declared.range.Edge.{Edge}
use Rattle.eng_index.specs.declared.range.Edge.TheVariants as edge
use Rattle.eng_index.specs.declared.range.Limit.{Limit}
use Rattle.eng_index.specs.declared.range.Range.{Range}
use Rattle.eng_index.specs.Keys.{is_equal, is_from, is_known_so, is_up_to, is_within, passes_above, passes_below, term_cmp, term_value}
use Rattle.eng_index.specs.Stored.{IsSoundEntry, entry_key, entry_values, is_null, parts_of, term_part}
use Rattle.eng_index.specs.Fronts.{AreFronts, BoundsRange, IsSoundLimit, LimitsFront, begins_behind, edge_key, ends_behind, first_limit, fronts_within, is_excluded, last_limit, lies_in, limit_is_null, limit_key, lower_limit, not_null}
use Rattle.eng_index.proofs.EntryLaws.{alike, term_part-cmp}
use Rattle.eng_index.proofs.Lists.{differ}

-- ---- tests

both-comm : (a b : Bool) → (a && b) ≡ (b && a)
both-comm true true = refl
both-comm true false = refl
both-comm false true = refl
both-comm false false = refl

pub both-false : (a : Bool) → (a && false) ≡ false
both-false true = refl
both-false false = refl

-- one of two, or neither
either_false : (a b : Bool) → (a || b) ≡ false → (a ≡ false) × (b ≡ false)
either_false true b is = absurd (differ is)
either_false false b is = (refl, is)

-- ---- values that are known

pub null_is : (v : Value) → is_null v ≡ true → v ≡ Null
null_is Null is = refl
null_is (Integer n) is = absurd (differ (sym is))
null_is (Text t) is = absurd (differ (sym is))
null_is (Blob t) is = absurd (differ (sym is))

null_below : (c : Built) (v : Value) → is_null v ≡ false → compare c Null v ≡ Less
null_below c Null is = absurd (differ is)
null_below c (Integer n) is = refl
null_below c (Text t) is = refl
null_below c (Blob t) is = refl

above_null : (c : Built) (v : Value) → is_null v ≡ false → compare c v Null ≡ Greater
above_null c Null is = absurd (differ is)
above_null c (Integer n) is = refl
above_null c (Text t) is = refl
above_null c (Blob t) is = refl

pub known : (so : Ordering → Bool) (t : KeyTerm) (v w : Value) → is_null v ≡ false → is_null w ≡ false → is_known_so so t v w ≡ so (compare t.collation v w)
known so t Null w v_is w_is = absurd (differ v_is)
known so t (Integer m) Null v_is w_is = absurd (differ w_is)
known so t (Integer m) (Integer n) v_is w_is = refl
known so t (Integer m) (Text b) v_is w_is = refl
known so t (Integer m) (Blob b) v_is w_is = refl
known so t (Text a) Null v_is w_is = absurd (differ w_is)
known so t (Text a) (Integer n) v_is w_is = refl
known so t (Text a) (Text b) v_is w_is = refl
known so t (Text a) (Blob b) v_is w_is = refl
known so t (Blob a) Null v_is w_is = absurd (differ w_is)
known so t (Blob a) (Integer n) v_is w_is = refl
known so t (Blob a) (Text b) v_is w_is = refl
known so t (Blob a) (Blob b) v_is w_is = refl

pub unknown : (so : Ordering → Bool) (t : KeyTerm) (v w : Value) → is_null w ≡ true → is_known_so so t v w ≡ false
unknown so t Null w is = refl
unknown so t (Integer n) Null is = refl
unknown so t (Text a) Null is = refl
unknown so t (Blob a) Null is = refl
unknown so t (Integer n) (Integer m) is = absurd (differ (sym is))
unknown so t (Integer n) (Text b) is = absurd (differ (sym is))
unknown so t (Integer n) (Blob b) is = absurd (differ (sym is))
unknown so t (Text a) (Integer m) is = absurd (differ (sym is))
unknown so t (Text a) (Text b) is = absurd (differ (sym is))
unknown so t (Text a) (Blob b) is = absurd (differ (sym is))
unknown so t (Blob a) (Integer m) is = absurd (differ (sym is))
unknown so t (Blob a) (Text b) is = absurd (differ (sym is))
unknown so t (Blob a) (Blob b) is = absurd (differ (sym is))

pub turned : (c : Built) (v w : Value) → compare c w v ≡ ordering_reverse (compare c v w)
turned c v w = (compare_total no_hosts (collation.Built c)).antisymm w v

pub reverse_eq : (o : Ordering) → is_eq o ≡ is_eq (ordering_reverse o)
reverse_eq Less = refl
reverse_eq Equal = refl
reverse_eq Greater = refl

-- beside a known value those are equal that the term orders alike
pub equal_is : (t : KeyTerm) (v w : Value) → is_null w ≡ false → is_equal t v w ≡ is_eq (term_cmp t v w)
equal_is t v w w_is = by t.descending (is_null v) refl
  where
    by : (d b : Bool) → is_null v ≡ b → is_equal t v w ≡ is_eq (if d then compare t.collation w v else compare t.collation v w)
    by true true is =
        let null = null_is v is in
        ap (λ x. is_equal t x w) null ∙ sym (ap (λ x. is_eq (compare t.collation w x)) null ∙ ap is_eq (above_null t.collation w w_is))
    by false true is =
        let null = null_is v is in
        ap (λ x. is_equal t x w) null ∙ sym (ap (λ x. is_eq (compare t.collation x w)) null ∙ ap is_eq (null_below t.collation w w_is))
    by true false is =
        known is_eq t v w is w_is ∙ reverse_eq (compare t.collation v w) ∙ ap is_eq (sym (turned t.collation v w))
    by false false is = known is_eq t v w is w_is

-- and so they are beside any value where they are known themselves
pub known_equal : (t : KeyTerm) (v w : Value) → is_null v ≡ false → is_equal t v w ≡ is_eq (term_cmp t v w)
known_equal t v w v_is = by t.descending (is_null w) refl
  where
    by : (d b : Bool) → is_null w ≡ b → is_equal t v w ≡ is_eq (if d then compare t.collation w v else compare t.collation v w)
    by true true is =
        unknown is_eq t v w is
        ∙ sym (ap (λ x. is_eq (compare t.collation x v)) (null_is w is) ∙ ap is_eq (null_below t.collation v v_is))
    by false true is =
        unknown is_eq t v w is
        ∙ sym (ap (λ x. is_eq (compare t.collation v x)) (null_is w is) ∙ ap is_eq (above_null t.collation v v_is))
    by true false is =
        known is_eq t v w v_is is ∙ reverse_eq (compare t.collation v w) ∙ ap is_eq (sym (turned t.collation v w))
    by false false is = known is_eq t v w v_is is

-- ---- how a row stands to a front

abbrev pub front_cmp : List KeyTerm → List Value → StoredRow → Ordering
front_cmp [] front r = Equal
front_cmp (t ∷ terms) [] r = Equal
front_cmp (t ∷ terms) (v ∷ front) r = ordering_then (term_cmp t (term_value t r) v) (front_cmp terms front r)

front_cmp-nil : (terms : List KeyTerm) (r : StoredRow) → front_cmp terms [] r ≡ Equal
front_cmp-nil [] r = refl
front_cmp-nil (t ∷ terms) r = refl

-- the values of a row that stand beside those of a front, and the others
record Split (terms : List KeyTerm) (front : List Value) (r : StoredRow) : Type 0 where
  beside : List Value
  rest : List Value
  whole : entry_values terms r ≡ beside ++ rest
  len : length beside ≡ length front
  standing : row_cmp (parts_of terms) (keyed_row beside (parts_of terms)) (keyed_row front (parts_of terms)) ≡ front_cmp terms front r
  sound : IsSoundEntry terms r → IsSoundRow beside (parts_of terms)

split : (terms : List KeyTerm) (front : List Value) (r : StoredRow) → length front ≤ length terms → Split terms front r
split [] [] r le = record { beside = []; rest = entry_values [] r; whole = refl; len = refl; standing = refl; sound = λ s. tt }
split [] (v ∷ front) r le = absurd (omega arith)
split (t ∷ terms) [] r le = record { beside = []; rest = entry_values (t ∷ terms) r; whole = refl; len = refl; standing = refl; sound = λ s. tt }
split (t ∷ terms) (v ∷ front) r le =
    let more = split terms front r (omega arith) in
    let len = more.len in
    record {
      beside = term_value t r ∷ more.beside;
      rest = more.rest;
      whole = ap (λ l. term_value t r ∷ l) more.whole;
      len = omega arith;
      standing = ap₂ ordering_then (term_part-cmp t (term_value t r) v) more.standing;
      sound = λ s. (s.0, more.sound s.1);
    }

-- up to a front, or up to what stands behind it
abbrev pub reaches : Bool → Ordering → Bool
reaches behind o = if behind then is_le o else is_lt o

below_edge : (terms : List KeyTerm) (front : List Value) (r : StoredRow) (behind : Bool) → length front ≤ length terms → IsSoundEntry terms r → IsSoundRow front (parts_of terms) → is_lt (order (entry_key terms r) (edge_key behind (row_key front (parts_of terms)))) ≡ reaches behind (front_cmp terms front r)
below_edge terms front r behind le sound sound_front = by behind
  where
    s : Split terms front r
    s = split terms front r le

    bound : (is_lt (order (row_key (s.beside ++ s.rest) (parts_of terms)) (row_key front (parts_of terms))) ≡ is_lt (row_cmp (parts_of terms) (keyed_row s.beside (parts_of terms)) (keyed_row front (parts_of terms)))) × (is_lt (order (row_key (s.beside ++ s.rest) (parts_of terms)) (behind_front (row_key front (parts_of terms)))) ≡ is_le (row_cmp (parts_of terms) (keyed_row s.beside (parts_of terms)) (keyed_row front (parts_of terms))))
    bound = fronts_bound s.beside s.rest front (parts_of terms) (parts_of terms) s.len (alike (parts_of terms)) (s.sound sound) sound_front

    by : (b : Bool) → is_lt (order (entry_key terms r) (edge_key b (row_key front (parts_of terms)))) ≡ reaches b (front_cmp terms front r)
    by true =
        ap (λ values. is_lt (order (row_key values (parts_of terms)) (behind_front (row_key front (parts_of terms))))) s.whole
        ∙ bound.1
        ∙ ap is_le s.standing
    by false =
        ap (λ values. is_lt (order (row_key values (parts_of terms)) (row_key front (parts_of terms)))) s.whole
        ∙ bound.0
        ∙ ap is_lt s.standing

-- ---- between two fronts

abbrev between : Bool → Bool → Ordering → Ordering → Bool
between b c o p = not (reaches b o) && reaches c p

-- the first values decide, and the others where they are equal
between_then : (b c : Bool) (o p q : Ordering) → between b c (ordering_then o p) (ordering_then o q) ≡ (is_eq o && between b c p q)
between_then true true Less p q = refl
between_then true false Less p q = refl
between_then false true Less p q = refl
between_then false false Less p q = refl
between_then b c Equal p q = refl
between_then true true Greater p q = refl
between_then true false Greater p q = refl
between_then false true Greater p q = refl
between_then false false Greater p q = refl

-- ---- all terms have a value

within_whole : (terms : List KeyTerm) (equal : List Value) (lower upper : Option Limit) (r : StoredRow) → length equal ≤ length terms → slice_get terms (length equal) ≡ None → list_any is_null equal ≡ false → between false true (front_cmp terms equal r) (front_cmp terms equal r) ≡ is_within terms equal lower upper r
within_whole [] [] lower upper r le past is = refl
within_whole [] (v ∷ equal) lower upper r le past is = absurd (omega arith)
within_whole (t ∷ terms) [] lower upper r le past is = absurd (cc)
within_whole (t ∷ terms) (v ∷ equal) lower upper r le past is =
    let none = either_false (is_null v) (list_any is_null equal) is in
    between_then false true (term_cmp t (term_value t r) v) (front_cmp terms equal r) (front_cmp terms equal r)
    ∙ ap₂ (λ a b. a && b) (sym (equal_is t (term_value t r) v none.0)) (within_whole terms equal lower upper r (omega arith) past none.1)

-- ---- a term is left for the limits

abbrev limit_values : Option Limit → List Value
limit_values None = []
limit_values (Some limit) = limit.value ∷ []

abbrev limit_cmp : KeyTerm → Option Limit → Value → Ordering
limit_cmp t None x = Equal
limit_cmp t (Some limit) x = term_cmp t x limit.value

front_cmp-limit : (t : KeyTerm) (terms : List KeyTerm) (limit : Option Limit) (r : StoredRow) → front_cmp (t ∷ terms) (limit_values limit) r ≡ limit_cmp t limit (term_value t r)
front_cmp-limit t terms None r = refl
front_cmp-limit t terms (Some limit) r =
    ap (ordering_then (term_cmp t (term_value t r) limit.value)) (front_cmp-nil terms r) ∙ then-Equal (term_cmp t (term_value t r) limit.value)

within_limits : (terms : List KeyTerm) (equal : List Value) (t : KeyTerm) (first last lower upper : Option Limit) (b c : Bool) (r : StoredRow) → slice_get terms (length equal) ≡ Some t → list_any is_null equal ≡ false → between b c (limit_cmp t first (term_value t r)) (limit_cmp t last (term_value t r)) ≡ (is_from lower t (term_value t r) && is_up_to upper t (term_value t r)) → between b c (front_cmp terms (equal ++ limit_values first) r) (front_cmp terms (equal ++ limit_values last) r) ≡ is_within terms equal lower upper r
within_limits [] equal t first last lower upper b c r at is base = absurd (cc)
within_limits (u ∷ terms) [] t first last lower upper b c r at is base =
    let same : t ≡ u = cc in
    ap₂ (between b c) (front_cmp-limit u terms first r) (front_cmp-limit u terms last r)
    ∙ subst (λ x. between b c (limit_cmp x first (term_value x r)) (limit_cmp x last (term_value x r)) ≡ (is_from lower x (term_value x r) && is_up_to upper x (term_value x r))) same base
within_limits (u ∷ terms) (v ∷ equal) t first last lower upper b c r at is base =
    let none = either_false (is_null v) (list_any is_null equal) is in
    between_then b c (term_cmp u (term_value u r) v) (front_cmp terms (equal ++ limit_values first) r) (front_cmp terms (equal ++ limit_values last) r)
    ∙ ap₂ (λ a b. a && b) (sym (equal_is u (term_value u r) v none.0)) (within_limits terms equal t first last lower upper b c r at none.1 base)

-- ---- the sides of a range in a term

-- the limit below, in a term that descends and in another
low : Bool → Built → Option Limit → Value → Bool
low d c None x = true
low true c (Some l) x = reaches (not (is_excluded l.edge)) (compare c l.value x)
low false c (Some l) x = not (reaches (is_excluded l.edge) (compare c x l.value))

high : Bool → Built → Option Limit → Value → Bool
high d c None x = true
high true c (Some l) x = not (reaches (is_excluded l.edge) (compare c l.value x))
high false c (Some l) x = reaches (not (is_excluded l.edge)) (compare c x l.value)

abbrev limit_by : Bool → Built → Option Limit → Value → Ordering
limit_by d c None x = Equal
limit_by d c (Some l) x = if d then compare c l.value x else compare c x l.value

low_up : (c : Built) (l : Option Limit) (x : Value) → not (reaches (begins_behind l) (limit_by false c l x)) ≡ low false c l x
unfolding low
low_up c None x = refl
low_up c (Some l) x = refl

low_down : (c : Built) (l : Option Limit) (x : Value) → reaches (ends_behind l) (limit_by true c l x) ≡ low true c l x
unfolding low
low_down c None x = refl
low_down c (Some l) x = refl

high_up : (c : Built) (l : Option Limit) (x : Value) → reaches (ends_behind l) (limit_by false c l x) ≡ high false c l x
unfolding high
high_up c None x = refl
high_up c (Some l) x = refl

high_down : (c : Built) (l : Option Limit) (x : Value) → not (reaches (begins_behind l) (limit_by true c l x)) ≡ high true c l x
unfolding high
high_down c None x = refl
high_down c (Some l) x = refl

limit_cmp-by : (t : KeyTerm) (l : Option Limit) (x : Value) → limit_cmp t l x ≡ limit_by t.descending t.collation l x
limit_cmp-by t None x = refl
limit_cmp-by t (Some l) x = refl

-- in which order the term goes doesn't count
two_sides : (t : KeyTerm) (l u : Option Limit) (x : Value) → between (begins_behind (first_limit t l u)) (ends_behind (last_limit t l u)) (limit_cmp t (first_limit t l u) x) (limit_cmp t (last_limit t l u) x) ≡ (low t.descending t.collation l x && high t.descending t.collation u x)
two_sides t l u x =
    ap₂ (between (begins_behind (first_limit t l u)) (ends_behind (last_limit t l u))) (limit_cmp-by t (first_limit t l u) x) (limit_cmp-by t (last_limit t l u) x)
    ∙ by t.descending
  where
    by : (d : Bool) → between (begins_behind (if d then u else l)) (ends_behind (if d then l else u)) (limit_by d t.collation (if d then u else l) x) (limit_by d t.collation (if d then l else u) x) ≡ (low d t.collation l x && high d t.collation u x)
    by true =
        ap₂ (λ a b. a && b) (high_down t.collation u x) (low_down t.collation l x) ∙ both-comm (high true t.collation u x) (low true t.collation l x)
    by false = ap₂ (λ a b. a && b) (low_up t.collation l x) (high_up t.collation u x)

begins_from : (e : Edge) (o : Ordering) → not (reaches (is_excluded e) o) ≡ passes_below e o
begins_from edge.Included Less = refl
begins_from edge.Included Equal = refl
begins_from edge.Included Greater = refl
begins_from edge.Excluded Less = refl
begins_from edge.Excluded Equal = refl
begins_from edge.Excluded Greater = refl

begins_from_back : (e : Edge) (o : Ordering) → not (reaches (is_excluded e) (ordering_reverse o)) ≡ passes_above e o
begins_from_back edge.Included Less = refl
begins_from_back edge.Included Equal = refl
begins_from_back edge.Included Greater = refl
begins_from_back edge.Excluded Less = refl
begins_from_back edge.Excluded Equal = refl
begins_from_back edge.Excluded Greater = refl

ends_at : (e : Edge) (o : Ordering) → reaches (not (is_excluded e)) o ≡ passes_above e o
ends_at edge.Included Less = refl
ends_at edge.Included Equal = refl
ends_at edge.Included Greater = refl
ends_at edge.Excluded Less = refl
ends_at edge.Excluded Equal = refl
ends_at edge.Excluded Greater = refl

ends_at_back : (e : Edge) (o : Ordering) → reaches (not (is_excluded e)) (ordering_reverse o) ≡ passes_below e o
ends_at_back edge.Included Less = refl
ends_at_back edge.Included Equal = refl
ends_at_back edge.Included Greater = refl
ends_at_back edge.Excluded Less = refl
ends_at_back edge.Excluded Equal = refl
ends_at_back edge.Excluded Greater = refl

reaches_less : (b : Bool) → reaches b Less ≡ true
reaches_less true = refl
reaches_less false = refl

reaches_greater : (b : Bool) → reaches b Greater ≡ false
reaches_greater true = refl
reaches_greater false = refl

module _ (t : KeyTerm) (x : Value) where
  low_known : (d : Bool) (l : Option Limit) → is_null x ≡ false → limit_is_null l ≡ false → low d t.collation l x ≡ is_from l t x
  unfolding low
  low_known d None x_is l_is = refl
  low_known true (Some l) x_is l_is =
      ap (reaches (not (is_excluded l.edge))) (turned t.collation x l.value)
      ∙ ends_at_back l.edge (compare t.collation x l.value)
      ∙ sym (known (passes_below l.edge) t x l.value x_is l_is)
  low_known false (Some l) x_is l_is =
      begins_from l.edge (compare t.collation x l.value) ∙ sym (known (passes_below l.edge) t x l.value x_is l_is)

  high_known : (d : Bool) (u : Option Limit) → is_null x ≡ false → limit_is_null u ≡ false → high d t.collation u x ≡ is_up_to u t x
  unfolding high
  high_known d None x_is u_is = refl
  high_known true (Some u) x_is u_is =
      ap (λ o. not (reaches (is_excluded u.edge) o)) (turned t.collation x u.value)
      ∙ begins_from_back u.edge (compare t.collation x u.value)
      ∙ sym (known (passes_above u.edge) t x u.value x_is u_is)
  high_known false (Some u) x_is u_is =
      ends_at u.edge (compare t.collation x u.value) ∙ sym (known (passes_above u.edge) t x u.value x_is u_is)

  -- what isn't NULL is above it
  low_above_null : (d : Bool) → is_null x ≡ false → low d t.collation (Some not_null) x ≡ true
  unfolding low
  low_above_null true x_is = ap is_lt (null_below t.collation x x_is)
  low_above_null false x_is = ap (λ o. not (is_le o)) (above_null t.collation x x_is)

  known_sides : (d : Bool) (l u : Option Limit) → is_null x ≡ false → limit_is_null l ≡ false → limit_is_null u ≡ false → (low d t.collation (lower_limit l u) x && high d t.collation u x) ≡ (is_from l t x && is_up_to u t x)
  known_sides d None None x_is l_is u_is =
      ap₂ (λ a b. a && b) (low_known d None x_is l_is) (high_known d None x_is u_is)
  known_sides d None (Some u) x_is l_is u_is =
      ap₂ (λ a b. a && b) (low_above_null d x_is) (high_known d (Some u) x_is u_is)
  known_sides d (Some l) u x_is l_is u_is =
      ap₂ (λ a b. a && b) (low_known d (Some l) x_is l_is) (high_known d u x_is u_is)

-- NULL is below each limit, and not above itself
low_null : (d : Bool) (t : KeyTerm) (l : Limit) → is_null l.value ≡ false → low d t.collation (Some l) Null ≡ false
unfolding low
low_null true t l is =
    ap (reaches (not (is_excluded l.edge))) (above_null t.collation l.value is) ∙ reaches_greater (not (is_excluded l.edge))
low_null false t l is =
    ap (λ o. not (reaches (is_excluded l.edge) o)) (null_below t.collation l.value is) ∙ ap not (reaches_less (is_excluded l.edge))

low_not_null : (d : Bool) (t : KeyTerm) → low d t.collation (Some not_null) Null ≡ false
unfolding low
low_not_null true t = refl
low_not_null false t = refl

no_sides : (d : Bool) (t : KeyTerm) → (low d t.collation None Null && high d t.collation None Null) ≡ true
unfolding low high
no_sides d t = refl

null_sides : (d : Bool) (t : KeyTerm) (l u : Option Limit) → limit_is_null l ≡ false → limit_is_null u ≡ false → (low d t.collation (lower_limit l u) Null && high d t.collation u Null) ≡ (is_from l t Null && is_up_to u t Null)
null_sides d t None None l_is u_is = no_sides d t
null_sides d t None (Some u) l_is u_is = ap (λ b. b && high d t.collation (Some u) Null) (low_not_null d t)
null_sides d t (Some l) u l_is u_is = ap (λ b. b && high d t.collation u Null) (low_null d t l l_is)

sides : (t : KeyTerm) (l u : Option Limit) (x : Value) → limit_is_null l ≡ false → limit_is_null u ≡ false → between (begins_behind (first_limit t (lower_limit l u) u)) (ends_behind (last_limit t (lower_limit l u) u)) (limit_cmp t (first_limit t (lower_limit l u) u) x) (limit_cmp t (last_limit t (lower_limit l u) u) x) ≡ (is_from l t x && is_up_to u t x)
sides t l u x l_is u_is = two_sides t (lower_limit l u) u x ∙ by (is_null x) refl
  where
    by : (b : Bool) → is_null x ≡ b → (low t.descending t.collation (lower_limit l u) x && high t.descending t.collation u x) ≡ (is_from l t x && is_up_to u t x)
    by true is =
        let P : Value → Type 0 = λ y. (low t.descending t.collation (lower_limit l u) y && high t.descending t.collation u y) ≡ (is_from l t y && is_up_to u t y) in
        subst P (sym (null_is x is)) (null_sides t.descending t l u l_is u_is)
    by false is = known_sides t x t.descending l u is l_is u_is

-- ---- where nothing is found

pub none_equal : (terms : List KeyTerm) (equal : List Value) (lower upper : Option Limit) (r : StoredRow) → length equal ≤ length terms → list_any is_null equal ≡ true → is_within terms equal lower upper r ≡ false
none_equal terms [] lower upper r le is = absurd (differ (sym is))
none_equal [] (v ∷ equal) lower upper r le is = absurd (omega arith)
none_equal (t ∷ terms) (v ∷ equal) lower upper r le is =
    by (is_null v) refl is (λ e. none_equal terms equal lower upper r (omega arith) e)
  where
    by : (b : Bool) → is_null v ≡ b → (b || list_any is_null equal) ≡ true → (list_any is_null equal ≡ true → is_within terms equal lower upper r ≡ false) → is_within (t ∷ terms) (v ∷ equal) lower upper r ≡ false
    by true v_is e rest = ap (λ b. b && is_within terms equal lower upper r) (unknown is_eq t (term_value t r) v v_is)
    by false v_is e rest =
        ap (λ b. is_equal t (term_value t r) v && b) (rest e) ∙ both-false (is_equal t (term_value t r) v)

none_limited : (terms : List KeyTerm) (equal : List Value) (t : KeyTerm) (lower upper : Option Limit) (r : StoredRow) → slice_get terms (length equal) ≡ Some t → (is_from lower t (term_value t r) && is_up_to upper t (term_value t r)) ≡ false → is_within terms equal lower upper r ≡ false
none_limited [] equal t lower upper r at none = absurd (cc)
none_limited (u ∷ terms) [] t lower upper r at none =
    let same : t ≡ u = cc in
    subst (λ x. (is_from lower x (term_value x r) && is_up_to upper x (term_value x r)) ≡ false) same none
none_limited (u ∷ terms) (v ∷ equal) t lower upper r at none =
    ap (λ b. is_equal u (term_value u r) v && b) (none_limited terms equal t lower upper r at none) ∙ both-false (is_equal u (term_value u r) v)

is_from-null : (l : Option Limit) (t : KeyTerm) (x : Value) → limit_is_null l ≡ true → is_from l t x ≡ false
is_from-null None t x is = absurd (differ (sym is))
is_from-null (Some l) t x is = unknown (passes_below l.edge) t x l.value is

is_up_to-null : (u : Option Limit) (t : KeyTerm) (x : Value) → limit_is_null u ≡ true → is_up_to u t x ≡ false
is_up_to-null None t x is = absurd (differ (sym is))
is_up_to-null (Some u) t x is = unknown (passes_above u.edge) t x u.value is

pub none_from : (terms : List KeyTerm) (equal : List Value) (t : KeyTerm) (lower upper : Option Limit) (r : StoredRow) → slice_get terms (length equal) ≡ Some t → limit_is_null lower ≡ true → is_within terms equal lower upper r ≡ false
none_from terms equal t lower upper r at is =
    none_limited terms equal t lower upper r at (ap (λ b. b && is_up_to upper t (term_value t r)) (is_from-null lower t (term_value t r) is))

pub none_up_to : (terms : List KeyTerm) (equal : List Value) (t : KeyTerm) (lower upper : Option Limit) (r : StoredRow) → slice_get terms (length equal) ≡ Some t → limit_is_null upper ≡ true → is_within terms equal lower upper r ≡ false
none_up_to terms equal t lower upper r at is =
    none_limited terms equal t lower upper r at (ap (λ b. is_from lower t (term_value t r) && b) (is_up_to-null upper t (term_value t r) is) ∙ both-false (is_from lower t (term_value t r)))

-- values without a term say nothing
pub is_within-take : (terms : List KeyTerm) (equal : List Value) (lower upper : Option Limit) (r : StoredRow) → is_within terms (take (length terms) equal) lower upper r ≡ is_within terms equal lower upper r
is_within-take [] equal lower upper r = refl
is_within-take (t ∷ terms) [] lower upper r = refl
is_within-take (t ∷ terms) (v ∷ equal) lower upper r =
    ap (λ b. is_equal t (term_value t r) v && b) (is_within-take terms equal lower upper r)

-- ---- the keys

row_key-limit : (terms : List KeyTerm) (equal : List Value) (t : KeyTerm) (l : Option Limit) → slice_get terms (length equal) ≡ Some t → row_key (equal ++ limit_values l) (parts_of terms) ≡ row_key equal (parts_of terms) ++ limit_key t l
row_key-limit [] equal t l at = absurd (cc)
row_key-limit (u ∷ terms) [] t None at = refl
row_key-limit (u ∷ terms) [] t (Some l) at = let same : u ≡ t = cc in ap (λ y. part_key (term_part y) l.value ++ []) same
row_key-limit (u ∷ terms) (v ∷ equal) t l at =
    ap (λ k. part_key (term_part u) v ++ k) (row_key-limit terms equal t l at) ∙ sym (append_assoc (part_key (term_part u) v) (row_key equal (parts_of terms)) (limit_key t l))

sound-limit : (terms : List KeyTerm) (equal : List Value) (t : KeyTerm) (l : Option Limit) → slice_get terms (length equal) ≡ Some t → IsSoundRow equal (parts_of terms) → IsSoundLimit t l → IsSoundRow (equal ++ limit_values l) (parts_of terms)
sound-limit [] equal t l at sound more = absurd (cc)
sound-limit (u ∷ terms) [] t None at sound more = tt
sound-limit (u ∷ terms) [] t (Some l) at sound more =
    let same : t ≡ u = cc in
    ((subst (λ y. IsSoundRow (l.value ∷ []) (term_part y ∷ [])) same more).0, tt)
sound-limit (u ∷ terms) (v ∷ equal) t l at sound more = (sound.0, sound-limit terms equal t l at sound.1 more)

length-limit : (terms : List KeyTerm) (equal : List Value) (t : KeyTerm) (l : Option Limit) → slice_get terms (length equal) ≡ Some t → length (equal ++ limit_values l) ≤ length terms
length-limit [] equal t l at = absurd (cc)
length-limit (u ∷ terms) [] t None at = omega arith
length-limit (u ∷ terms) [] t (Some l) at = omega arith
length-limit (u ∷ terms) (v ∷ equal) t l at = let le = length-limit terms equal t l at in omega arith

pub bounds_whole : (terms : List KeyTerm) (equal : List Value) (lower upper : Option Limit) (r : StoredRow) → length equal ≤ length terms → slice_get terms (length equal) ≡ None → list_any is_null equal ≡ false → IsSoundRow equal (parts_of terms) → IsSoundEntry terms r → lies_in (Some (record { from = row_key equal (parts_of terms); to = behind_front (row_key equal (parts_of terms)) })) (entry_key terms r) ≡ is_within terms equal lower upper r
bounds_whole terms equal lower upper r le past is sound_front sound =
    ap₂ (λ a b. not a && b) (below_edge terms equal r false le sound sound_front) (below_edge terms equal r true le sound sound_front)
    ∙ within_whole terms equal lower upper r le past is

pub bounds_limits : (terms : List KeyTerm) (equal : List Value) (t : KeyTerm) (lower upper : Option Limit) (r : StoredRow) → slice_get terms (length equal) ≡ Some t → list_any is_null equal ≡ false → limit_is_null lower ≡ false → limit_is_null upper ≡ false → IsSoundRow equal (parts_of terms) → IsSoundLimit t (first_limit t (lower_limit lower upper) upper) → IsSoundLimit t (last_limit t (lower_limit lower upper) upper) → IsSoundEntry terms r → lies_in (Some (fronts_within (row_key equal (parts_of terms)) t (first_limit t (lower_limit lower upper) upper) (last_limit t (lower_limit lower upper) upper))) (entry_key terms r) ≡ is_within terms equal lower upper r
bounds_limits terms equal t lower upper r at is lower_is upper_is sound_front sound_first sound_last sound =
    let first = first_limit t (lower_limit lower upper) upper in
    let last = last_limit t (lower_limit lower upper) upper in
    ap₂ (λ a b. not a && b)
    (ap (λ k. is_lt (order (entry_key terms r) (edge_key (begins_behind first) k))) (sym (row_key-limit terms equal t first at)) ∙ below_edge terms (equal ++ limit_values first) r (begins_behind first) (length-limit terms equal t first at) sound (sound-limit terms equal t first at sound_front sound_first))
    (ap (λ k. is_lt (order (entry_key terms r) (edge_key (ends_behind last) k))) (sym (row_key-limit terms equal t last at)) ∙ below_edge terms (equal ++ limit_values last) r (ends_behind last) (length-limit terms equal t last at) sound (sound-limit terms equal t last at sound_front sound_last))
    ∙ within_limits terms equal t first last lower upper (begins_behind first) (ends_behind last) r at is (sides t lower upper (term_value t r) lower_is upper_is)

-- ---- as it is written

take_le : {X Y : Type 0} (xs : List X) (ys : List Y) → length (take (length xs) ys) ≤ length xs
take_le [] ys = omega arith
take_le (x ∷ xs) [] = omega arith
take_le (x ∷ xs) (y ∷ ys) = let le = take_le xs ys in omega arith

-- the values that have a term
abbrev pub AreEqual : List KeyTerm → Range → List Value → Type 0
AreEqual terms range equal = equal ≡ take (length terms) range.equal

equal_le : (terms : List KeyTerm) (range : Range) (equal : List Value) → AreEqual terms range equal → length equal ≤ length terms
equal_le terms range equal is = subst (λ l. length l ≤ length terms) (sym is) (take_le terms range.equal)

equal_within : (terms : List KeyTerm) (range : Range) (equal : List Value) (r : StoredRow) → AreEqual terms range equal → is_within terms equal range.lower range.upper r ≡ is_within terms range.equal range.lower range.upper r
equal_within terms range equal r is =
    ap (λ l. is_within terms l range.lower range.upper r) is ∙ is_within-take terms range.equal range.lower range.upper r

pub bounds_nothing : (terms : List KeyTerm) (range : Range) (equal : List Value) → AreEqual terms range equal → list_any is_null equal ≡ true → BoundsRange terms range None
bounds_nothing terms range equal is null r sound =
    sym (sym (equal_within terms range equal r is) ∙ none_equal terms equal range.lower range.upper r (equal_le terms range equal is) null)

-- what is known of the front
pub record IsFront (terms : List KeyTerm) (range : Range) (equal : List Value) (front : Bytes) : Type 0 where
  pub are : AreEqual terms range equal
  pub known : list_any is_null equal ≡ false
  pub key : front ≡ row_key equal (parts_of terms)
  pub sound : IsSoundRow equal (parts_of terms)

pub is_front : (terms : List KeyTerm) (parts : List KeyPart) (range : Range) (equal : List Value) (front : Bytes) → AreEqual terms range equal → list_any is_null equal ≡ false → parts ≡ parts_of terms → front ≡ row_key equal parts → IsSoundRow equal parts → IsFront terms range equal front
is_front terms parts range equal front is known parts_are key sound = record {
  are = is;
  known = known;
  key = key ∙ ap (row_key equal) parts_are;
  sound = subst (IsSoundRow equal) parts_are sound;
}

pub bounds_front : (terms : List KeyTerm) (range : Range) (equal : List Value) (front : Bytes) → IsFront terms range equal front → slice_get terms (length equal) ≡ None → (fronts : Option Fronts) → fronts ≡ Some (record { from = front; to = behind_front front }) → BoundsRange terms range fronts
bounds_front terms range equal front is past fronts are r sound =
    ap (λ f. lies_in f (entry_key terms r)) are
    ∙ ap (λ k. lies_in (Some (record { from = k; to = behind_front k })) (entry_key terms r)) is.key
    ∙ bounds_whole terms equal range.lower range.upper r (equal_le terms range equal is.are) past is.known is.sound sound
    ∙ equal_within terms range equal r is.are

either_true : (a b : Bool) → (a || b) ≡ true → (a ≡ true) ⊎ (b ≡ true)
either_true true b is = inl refl
either_true false b is = inr is

pub bounds_limited : (terms : List KeyTerm) (range : Range) (equal : List Value) (front : Bytes) (t : KeyTerm) → IsFront terms range equal front → slice_get terms (length equal) ≡ Some t → (fronts : Option Fronts) → LimitsFront front t range fronts → BoundsRange terms range fronts
bounds_limited terms range equal front t is at None null r sound =
    sym (sym (equal_within terms range equal r is.are) ∙ ⊎_elim (λ e. none_from terms equal t range.lower range.upper r at e) (λ e. none_up_to terms equal t range.lower range.upper r at e) (either_true (limit_is_null range.lower) (limit_is_null range.upper) null))
bounds_limited terms range equal front t is at (Some fronts) limits r sound =
    let known = either_false (limit_is_null range.lower) (limit_is_null range.upper) limits.0 in
    let first = first_limit t (lower_limit range.lower range.upper) range.upper in
    let last = last_limit t (lower_limit range.lower range.upper) range.upper in
    ap (λ f. lies_in (Some f) (entry_key terms r)) limits.1.keys
    ∙ ap (λ k. lies_in (Some (fronts_within k t first last)) (entry_key terms r)) is.key
    ∙ bounds_limits terms equal t range.lower range.upper r at is.known known.0 known.1 is.sound limits.1.sound_first limits.1.sound_last sound
    ∙ equal_within terms range equal r is.are

pub are_fronts : (front : Bytes) (t : KeyTerm) (first first' last last' : Option Limit) (fronts : Fronts) → first ≡ first' → last ≡ last' → AreFronts front t first last fronts → AreFronts front t first' last' fronts
are_fronts front t first first' last last' fronts first_is last_is are =
    subst (λ l. AreFronts front t first' l fronts) last_is (subst (λ l. AreFronts front t l last fronts) first_is are)
