-- A draft with a key more serves as the one without it did.
use Rattle.std.proofs.Common.{◌≡◌, ℕ, zero, suc, ◌+◌, ◌≤◌, ◌<◌, Bool, true, false, cond, ◌&&◌, List, [], ◌∷◌, ◌++◌, get_or, length, Some, None, refl, sym, ap, ◌∙◌, subst, arith, if◌then◌else◌}
use Rattle.std.proofs.lemmas.List.{length-append, length-map, map-append}
use Rattle.std.proofs.lemmas.List.Sums.{sum_by-cons, sum_by_push}
use Rattle.std.proofs.lemmas.Option.{get_or_from_slice_get, slice_get_within}
use Rattle.std.specs.List.{filter}
use Rattle.std.specs.Prelude.{replicate, slice_get, slice_set, sum_by}
use Rattle.std.specs.declared.option.Option.{Option}
use Rattle.bound_tree.specs.Exprs.{BoundExpr}
use Rattle.eng_index.proofs.Lists.{all-append, differ}
use Rattle.eng_index.specs.Keys.{is_known_so, is_within, term_value}
use Rattle.eng_index.specs.Searching.{bound_count, bounded_by, front_values}
use Rattle.eng_index.specs.declared.key_term.KeyTerm.{KeyTerm}
use Rattle.eng_value.specs.Environments.{Environment, Surroundings}
use Rattle.eng_value.specs.StoredRows.{StoredRow}
use Rattle.eng_value.specs.declared.out.Out.{Out}
use Rattle.eng_value.specs.declared.out.Out.TheVariants.{Good, Bad}
use Rattle.eng_value.specs.declared.truth.Truth.TheVariants.{True}
use Rattle.eng_value.specs.declared.value.Value.{Value}
use Rattle.plan_best.proofs.Ranging.{AreGood, MayFollow, counted, front-bad, front-good, front-length, narrows, past}
use Rattle.plan_best.specs.Comparing.{Compares, Rejects, is_of_term, stands_so, truth_at}
use Rattle.plan_best.specs.Drafts.{FindsFew, HasKeys, HasNoSearch, IsAround, IsSound, MayGoOn, Serves, UnlessSearch, is_found, set_if, with_bound, with_key, without_keys}
use Rattle.plan_best.specs.declared.comparing.Comparison.{Comparison}
use Rattle.plan_best.specs.declared.drafting.Draft.{Draft}
use Rattle.plan_tree.specs.Visits.{AreSides, CountsSides, at_item, before, is_in_range, key_expr, key_out, key_outs, tested, unless}
use Rattle.sql_meaning.proofs.SearchLaws.{all-count, search-counts}
use Rattle.sql_meaning.specs.Products.{after_conjunct, if_some, sifted}
use Rattle.sql_meaning.specs.Searches.{is_good, is_met, is_search, meets, rows_counted, rows_met}

-- ---- conjuncts at a row

if_none : (o : Option Out) (f : Out → Option Out) → ((v : Out) → f v ≡ None) → if_some o f ≡ None
if_none None f all = refl
if_none (Some v) f all = all v

if_same : (o : Option Out) (f g : Out → Option Out) → ((v : Out) → f v ≡ g v) → if_some o f ≡ if_some o g
if_same None f g all = refl
if_same (Some v) f g all = all v

module _ (env : Environment) (item : ℕ) (r : StoredRow) (c : BoundExpr) where
  -- one that rejects the row is enough
  pub sifted-rejected : Rejects env item c r → (cs : List BoundExpr) (i : ℕ) → slice_get cs i ≡ Some c → (causes : Out) → sifted cs (at_item env item r) causes ≡ None
  sifted-rejected rejects [] i at causes = absurd (cc)
  sifted-rejected rejects (d ∷ cs) zero at causes =
      let same : d ≡ c = cc in
      ap (λ (q : BoundExpr). if_some (after_conjunct causes (truth_at env item q r)) (sifted cs (at_item env item r))) same ∙ ap (λ o. if_some o (sifted cs (at_item env item r))) (rejects causes)
  sifted-rejected rejects (d ∷ cs) (suc i) at causes =
      if_none (after_conjunct causes (truth_at env item d r)) (sifted cs (at_item env item r)) (λ v. sifted-rejected rejects cs i at v)

  -- one that is true need not be tested
  sifted-met : truth_at env item c r ≡ True → (cs : List BoundExpr) (causes : Out) → sifted cs (at_item env item r) causes ≡ sifted (c ∷ cs) (at_item env item r) causes
  sifted-met met cs causes = sym (ap (λ t. if_some (after_conjunct causes t) (sifted cs (at_item env item r))) met)

  sifted-unless : (b : Bool) (d : BoundExpr) (cs ds : List BoundExpr) → ((causes : Out) → sifted cs (at_item env item r) causes ≡ sifted ds (at_item env item r) causes) → (causes : Out) → sifted (unless b d cs) (at_item env item r) causes ≡ sifted (unless b d ds) (at_item env item r) causes
  sifted-unless true d cs ds same causes = same causes
  sifted-unless false d cs ds same causes = if_same (after_conjunct causes (truth_at env item d r)) _ _ same

  unless-met : truth_at env item c r ≡ True → (b : Bool) (cs : List BoundExpr) (causes : Out) → sifted cs (at_item env item r) causes ≡ sifted (unless b c cs) (at_item env item r) causes
  unless-met met true cs causes = refl
  unless-met met false cs causes = sifted-met met cs causes

  pub sifted-set : truth_at env item c r ≡ True → (consumed : List Bool) (cs : List BoundExpr) (i : ℕ) → slice_get cs i ≡ Some c → (causes : Out) → sifted (tested (slice_set consumed i true) cs) (at_item env item r) causes ≡ sifted (tested consumed cs) (at_item env item r) causes
  sifted-set met consumed [] i at causes = absurd (cc)
  sifted-set met [] (d ∷ cs) i at causes = refl
  sifted-set met (b ∷ consumed) (d ∷ cs) zero at causes =
      let same : d ≡ c = cc in
      unless-met met b (tested consumed cs) causes ∙ ap (λ (q : BoundExpr). sifted (unless b q (tested consumed cs)) (at_item env item r) causes) (sym same)
  sifted-set met (b ∷ consumed) (d ∷ cs) (suc i) at causes =
      sifted-unless b d (tested (slice_set consumed i true) cs) (tested consumed cs) (λ v. sifted-set met consumed cs i at v) causes

-- ---- how large they are

module _ (size : BoundExpr → ℕ) where
  unless-sizes : (b : Bool) (d : BoundExpr) (cs ds : List BoundExpr) (n : ℕ) → sum_by size cs + n ≡ sum_by size ds → sum_by size (unless b d cs) + n ≡ sum_by size (unless b d ds)
  unless-sizes true d cs ds n is = is
  unless-sizes false d cs ds n is = omega (arith, sum_by-cons size d cs, sum_by-cons size d ds)

  -- one that is consumed is one less to be tested
  pub sizes-set : (c : BoundExpr) (consumed : List Bool) (cs : List BoundExpr) (i : ℕ) → slice_get consumed i ≡ Some false → slice_get cs i ≡ Some c → sum_by size (tested (slice_set consumed i true) cs) + size c ≡ sum_by size (tested consumed cs)
  sizes-set c consumed [] i free at = absurd (cc)
  sizes-set c [] (d ∷ cs) i free at = absurd (cc)
  sizes-set c (true ∷ consumed) (d ∷ cs) zero free at = absurd (cc)
  sizes-set c (false ∷ consumed) (d ∷ cs) zero free at =
      let same : size d ≡ size c = ap size (cc) in omega (arith, sum_by-cons size d (tested consumed cs))
  sizes-set c (b ∷ consumed) (d ∷ cs) (suc i) free at =
      unless-sizes b d (tested (slice_set consumed i true) cs) (tested consumed cs) (size c) (sizes-set c consumed cs i free at)

  unless-within : (b : Bool) (d : BoundExpr) (cs : List BoundExpr) (n : ℕ) → n ≤ sum_by size cs → n ≤ sum_by size (unless b d cs)
  unless-within true d cs n le = le
  unless-within false d cs n le = omega (arith, sum_by-cons size d cs)

  pub size-within : (c : BoundExpr) (consumed : List Bool) (cs : List BoundExpr) (i : ℕ) → slice_get consumed i ≡ Some false → slice_get cs i ≡ Some c → size c ≤ sum_by size (tested consumed cs)
  size-within c consumed cs i free at = omega (arith, sizes-set c consumed cs i free at)

pub tested-none : (n : ℕ) (cs : List BoundExpr) → tested (replicate n false) cs ≡ cs
tested-none n [] = refl
tested-none zero (c ∷ cs) = refl
tested-none (suc n) (c ∷ cs) = ap (λ ds. c ∷ ds) (tested-none n cs)

-- ---- how many rows

cond-narrows : (p q : Bool) (m n : ℕ) → (q ≡ true → p ≡ true) → m ≤ n → (if q then suc m else m) ≤ (if p then suc n else n)
cond-narrows true true m n so le = omega arith
cond-narrows true false m n so le = omega arith
cond-narrows false true m n so le = absurd (differ (sym (so refl)))
cond-narrows false false m n so le = le

length-cond : {X : Type 0} (b : Bool) (x : X) (xs : List X) → length (cond b (x ∷ xs) xs) ≡ (if b then suc (length xs) else length xs)
length-cond true x xs = refl
length-cond false x xs = refl

-- a stronger test keeps no more rows
pub filter-narrows : (p q : StoredRow → Bool) → ((r : StoredRow) → q r ≡ true → p r ≡ true) → (rows : List StoredRow) → length (filter q rows) ≤ length (filter p rows)
filter-narrows p q so [] = omega arith
filter-narrows p q so (r ∷ rows) =
    let rest : _ = cond-narrows (p r) (q r) (length (filter q rows)) (length (filter p rows)) (so r) (filter-narrows p q so rows) in
    rw (length-cond (q r) r (filter q rows), length-cond (p r) r (filter p rows)) rest

filter-within : (p : StoredRow → Bool) (rows : List StoredRow) → length (filter p rows) ≤ length rows
filter-within p [] = omega arith
filter-within p (r ∷ rows) = by (p r) (filter-within p rows)
  where
    by : (b : Bool) → length (filter p rows) ≤ length rows → length (cond b (r ∷ filter p rows) (filter p rows)) ≤ suc (length rows)
    by true le = omega arith
    by false le = omega arith

-- without a search all rows count
pub few_without_search : (x : Surroundings) (indexes : List (List KeyTerm)) (cs : List BoundExpr) → HasNoSearch x.params indexes cs → (p : StoredRow → Bool) (rows : List StoredRow) → length (filter p rows) ≤ rows_counted x indexes cs rows
few_without_search x indexes cs none p rows =
    omega (arith, all-count x indexes cs rows none, filter-within p rows)

-- those that meet a search count
pub few_by_search : (x : Surroundings) (indexes : List (List KeyTerm)) (cs : List BoundExpr) (c : BoundExpr) (i : ℕ) → slice_get cs i ≡ Some c → is_search indexes x.params c ≡ true → (p : StoredRow → Bool) → ((r : StoredRow) → p r ≡ true → meets x c r ≡ true) → (rows : List StoredRow) → length (filter p rows) ≤ rows_counted x indexes cs rows
few_by_search x indexes cs c i at search p so rows =
    let is : get_or cs i c ≡ c = get_or_from_slice_get cs i c c at in
    let counted_so : rows_met x rows c ≤ rows_counted x indexes cs rows = subst (λ (q : BoundExpr). is_search indexes x.params q ≡ true → rows_met x rows q ≤ rows_counted x indexes cs rows) is (search-counts x indexes cs rows i c (slice_get_within cs i c at)) search in
    omega (arith, filter-narrows (meets x c) p so rows, counted_so)

-- ---- a key more

both_true : (a b : Bool) → (a && b) ≡ true → (a ≡ true) × (b ≡ true)
both_true true b is = (refl, is)
both_true false b is = absurd (differ (sym is))

-- what the first item sees, where it stands alone
pub alone : (params : List Value) (item : ℕ) → item ≡ 0 → (x : Surroundings) → x.params ≡ params → IsAround params item (before x)
alone params item first x same = record { same = same; place = subst (λ i. i < 1) (sym first) (omega arith) }

module _ (params : List Value) (item : ℕ) (cs : List BoundExpr) (d : Draft) (t : KeyTerm) (place : ℕ) (c : Comparison) (conjunct : BoundExpr) where
  abbrev new : Draft
  new = with_key d place c

  abbrev so : Value → StoredRow → Bool
  so v r = is_known_so (stands_so c.op) t (term_value t r) v

  module _ (compares : Compares params item conjunct c) (at : slice_get cs place ≡ Some conjunct) (free : slice_get d.consumed place ≡ Some false) (term_at : slice_get d.search.terms d.search.bounds.equal ≡ Some t) (of_term : is_of_term c t ≡ true) (next : MayFollow c.op d.search.bounds) (goes_on : MayGoOn params item cs d) where
    module _ (env : Environment) (around : IsAround params item env) where
      abbrev key_is : Out
      key_is = key_out c.key env

      abbrev outs : List Out
      outs = key_outs env d.search.keys

      outs-more : key_outs env (d.search.keys ++ c.key ∷ []) ≡ outs ++ key_is ∷ []
      outs-more = map-append (λ k. key_out k env) d.search.keys (c.key ∷ [])

      good_so_far : AreGood outs
      good_so_far = goes_on.good env around.same

      sound_so_far : IsSound env item cs d
      sound_so_far = goes_on.sound env around

      long : length (front_values outs) ≡ bound_count d.search.bounds
      long = front-length outs good_so_far ∙ length-map d.search.keys (λ k. key_out k env) ∙ goes_on.counted

      found-by : (values : List Value) → front_values (outs ++ key_is ∷ []) ≡ values → (r : StoredRow) → is_found env new r ≡ is_in_range d.search.terms (bounded_by (with_bound c.op d.search.bounds) values) r
      found-by values is r =
          ap (λ vs. is_in_range d.search.terms (bounded_by (with_bound c.op d.search.bounds) vs) r) (ap front_values outs-more ∙ is)

      -- a key that has a value narrows it, and another leaves it as it is
      found-good : (v : Value) → key_is ≡ Good v → (r : StoredRow) → is_found env new r ≡ (is_found env d r && so v r)
      found-good v key r =
          found-by (front_values outs ++ v ∷ []) (ap (λ o. front_values (outs ++ o ∷ [])) key ∙ front-good outs v good_so_far) r
          ∙ narrows d.search.terms t c.op d.search.bounds (front_values outs) term_at next long v r

      found-bad : (causes : _) → key_is ≡ Bad causes → (r : StoredRow) → is_found env new r ≡ is_found env d r
      found-bad causes key r =
          found-by (front_values outs) (ap (λ o. front_values (outs ++ o ∷ [])) key ∙ front-bad outs causes good_so_far) r
          ∙ ap (λ q. is_in_range d.search.terms q r) (past c.op d.search.bounds (front_values outs) next long)

      narrower : (r : StoredRow) → is_found env new r ≡ true → is_found env d r ≡ true
      narrower r is = by key_is refl
        where
          by : (o : Out) → key_is ≡ o → is_found env d r ≡ true
          by (Good v) key = (both_true (is_found env d r) (so v r) (sym (found-good v key r) ∙ is)).0
          by (Bad causes) key = sym (found-bad causes key r) ∙ is

      more_left_out : (r : StoredRow) → is_found env new r ≡ false → (causes : Out) → sifted cs (at_item env item r) causes ≡ None
      more_left_out r is causes = by key_is refl
        where
          within : (v : Value) → key_is ≡ Good v → (a b : Bool) → is_found env d r ≡ a → so v r ≡ b → (a && b) ≡ false → sifted cs (at_item env item r) causes ≡ None
          within v key false b found stands not = sound_so_far.left_out r found causes
          within v key true b found stands not =
              sifted-rejected env item r conjunct (compares.rejected env around.place t r v of_term key (stands ∙ not)) cs place at causes

          by : (o : Out) → key_is ≡ o → sifted cs (at_item env item r) causes ≡ None
          by (Good v) key = within v key (is_found env d r) (so v r) refl refl (sym (found-good v key r) ∙ is)
          by (Bad why) key = sound_so_far.left_out r (sym (found-bad why key r) ∙ is) causes

      -- a given key has a value, so that its conjunct is true at each row that is found
      given_met : c.given ≡ true → (r : StoredRow) → is_found env new r ≡ true → truth_at env item conjunct r ≡ True
      given_met given r is = by key_is refl (compares.given env around.same given)
        where
          by : (o : Out) → key_is ≡ o → is_good o ≡ true → truth_at env item conjunct r ≡ True
          by (Good v) key good =
              compares.met env around.place t r v of_term key (both_true (is_found env d r) (so v r) (sym (found-good v key r) ∙ is)).1
          by (Bad why) key good = absurd (differ (sym good))

      more_kept : (r : StoredRow) → is_found env new r ≡ true → (causes : Out) → sifted (tested new.consumed cs) (at_item env item r) causes ≡ sifted cs (at_item env item r) causes
      more_kept r is causes = by c.given refl
        where
          by : (g : Bool) → c.given ≡ g → sifted (tested (set_if g d.consumed place) cs) (at_item env item r) causes ≡ sifted cs (at_item env item r) causes
          by true given =
              sifted-set env item r conjunct (given_met given r is) d.consumed cs place at causes
              ∙ sound_so_far.kept r (narrower r is) causes
          by false given = sound_so_far.kept r (narrower r is) causes

      more_sound : IsSound env item cs new
      more_sound = record { left_out = more_left_out; kept = more_kept }

    more_counted : HasKeys new
    more_counted =
        omega (arith, length-append d.search.keys (c.key ∷ []), goes_on.counted, counted c.op d.search.bounds next)

    more_keys : AreSides new.search.keys cs
    more_keys size larger =
        omega (arith, sum_by_push (λ k. size (key_expr k)) d.search.keys c.key, goes_on.spare size larger, compares.side size larger, size-within size conjunct d.consumed cs place free at)

    more_good : c.given ≡ true → (env : Environment) → env.params ≡ params → AreGood (key_outs env new.search.keys)
    more_good given env same =
        rw (map-append (λ k. key_out k env) d.search.keys (c.key ∷ [])) (all-append (λ out. is_good out ≡ true) (key_outs env d.search.keys) (key_out c.key env ∷ []) (goes_on.good env same) (compares.given env same given, tt))

    more_spare : c.given ≡ true → (size : BoundExpr → ℕ) → CountsSides size → sum_by (λ k. size (key_expr k)) new.search.keys + sum_by size (tested new.consumed cs) ≤ sum_by size cs
    more_spare given size larger =
        let less : sum_by size (tested (set_if c.given d.consumed place) cs) + size conjunct ≡ sum_by size (tested d.consumed cs) = ap (λ g. sum_by size (tested (set_if g d.consumed place) cs) + size conjunct) given ∙ sizes-set size conjunct d.consumed cs place free at in
        omega (arith, sum_by_push (λ k. size (key_expr k)) d.search.keys c.key, goes_on.spare size larger, compares.side size larger, less)

    pub more_open : c.given ≡ true → MayGoOn params item cs new
    more_open given = record { sound = more_sound; good = more_good given; counted = more_counted; spare = more_spare given }

    more_few : (indexes : List (List KeyTerm)) → item ≡ 0 → FindsFew params indexes cs d → FindsFew params indexes cs new
    more_few indexes first few x same rows =
        omega (arith, few x same rows, filter-narrows (is_found (before x) d) (is_found (before x) new) (narrower (before x) (alone params item first x same)) rows)

    pub more_served : (indexes : List (List KeyTerm)) → Serves params item indexes cs d → Serves params item indexes cs new
    more_served indexes serves = record {
      sound = more_sound;
      few = λ first. more_few indexes first (serves.few first);
      counted = more_counted;
      keys = more_keys;
    }

    meets-search : c.given ≡ true → item ≡ 0 → (x : Surroundings) → x.params ≡ params → (r : StoredRow) → is_found (before x) new r ≡ true → meets x conjunct r ≡ true
    meets-search given first x same r is =
        ap is_met (ap (λ i. truth_at (before x) i conjunct r) (sym first) ∙ given_met (before x) (alone params item first x same) given r is)

    begun_few : (indexes : List (List KeyTerm)) → c.given ≡ true → is_search indexes params conjunct ≡ true → item ≡ 0 → FindsFew params indexes cs new
    begun_few indexes given search first x same =
        few_by_search x indexes cs conjunct place at (ap (λ ps. is_search indexes ps conjunct) same ∙ search) (is_found (before x) new) (meets-search given first x same)

    pub begun_served : (indexes : List (List KeyTerm)) → c.given ≡ true → is_search indexes params conjunct ≡ true → Serves params item indexes cs new
    begun_served indexes given search = record {
      sound = more_sound;
      few = begun_few indexes given search;
      counted = more_counted;
      keys = more_keys;
    }

-- ---- without a key

no_bounds : (terms : List KeyTerm) (r : StoredRow) → is_within terms [] None None r ≡ true
no_bounds [] r = refl
no_bounds (t ∷ terms) r = refl

module _ (params : List Value) (item : ℕ) (cs : List BoundExpr) (terms : List KeyTerm) where
  abbrev none : Draft
  none = without_keys terms (length cs)

  none_sound : (env : Environment) → IsAround params item env → IsSound env item cs none
  none_sound env around = record {
    left_out = λ r is. absurd (differ (sym (no_bounds terms r) ∙ is));
    kept = λ r is causes. ap (λ ds. sifted ds (at_item env item r) causes) (tested-none (length cs) cs);
  }

  pub none_open : MayGoOn params item cs none
  none_open = record {
    sound = none_sound;
    good = λ env same. tt;
    counted = refl;
    spare = λ size larger. let all = ap (sum_by size) (tested-none (length cs) cs) in omega (arith, all);
  }

  none_few : (indexes : List (List KeyTerm)) → UnlessSearch params item indexes cs → item ≡ 0 → FindsFew params indexes cs none
  none_few indexes not first x same =
      few_without_search x indexes cs (subst (λ ps. HasNoSearch ps indexes cs) (sym same) (not first)) (is_found (before x) none)

  pub none_served : (indexes : List (List KeyTerm)) → UnlessSearch params item indexes cs → Serves params item indexes cs none
  none_served indexes not = record {
    sound = none_sound;
    few = none_few indexes not;
    counted = refl;
    keys = λ size larger. omega arith;
  }
