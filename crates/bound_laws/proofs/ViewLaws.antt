-- A view needs nothing of what is around its use, and so is bound as its query in brackets.
use Rattle.std.proofs.Common.{◌≡◌, ◌∙◌, ℕ, zero, suc, nat_eq, Bool, true, false, List, [], ◌∷◌, length, map, Some, None, Ok, Err, refl, sym, ap, subst}
use Rattle.std.proofs.lemmas.Bool.Decides.{Decides-eqb}
use Rattle.eng_entry.specs.declared.entry.Entry.{Entry}
use Rattle.eng_value.specs.declared.cause.Cause.TheVariants.{Arity}
use Rattle.eng_value.specs.declared.cause.Cause.{Cause}
use Rattle.sql_tree.specs.declared.query.Query.{Query}
use Rattle.sql_tree.specs.declared.statement.ViewDefinition.{ViewDefinition}
use Rattle.sql_words.specs.Refusals.{◌>>=◌}
use Rattle.bound_tree.specs.declared.units.BoundColumn.{BoundColumn}
use Rattle.bound_tree.specs.declared.units.BoundSource.TheVariants as bound_source
use Rattle.bound_tree.specs.declared.units.BoundUnit.{BoundUnit}
use Rattle.sql_bound.specs.Froms.{as_columns, derived, plain_source, renamed, with_names}
use Rattle.sql_bound.specs.Operands.{collation_of_result}
use Rattle.sql_bound.specs.Refusals.{Checked}
use Rattle.sql_bound.specs.Scopes.{Around, UnitsAnswer}
use Rattle.sql_bound.specs.declared.froms.Sourced.{Sourced}
use Rattle.sql_bound.specs.declared.scopes.Asked.{Asked}
use Rattle.sql_bound.specs.declared.scopes.Need.{Need}
use Rattle.sql_bound.specs.declared.scopes.ResultColumn.{ResultColumn}
use Rattle.sql_bound.specs.declared.scopes.Work.{Work}
use Rattle.bound_laws.specs.Views.{as_view, called, in_view, levels_deep, names_fit, names_written, views_at}
use Rattle.bound_laws.proofs.Lists.{begins_itself}
use Rattle.bound_laws.proofs.SourceLaws.{columns_length, nothing_needed}
use Rattle.bound_laws.proofs.States.{AskedFits, DepthFits}
use Rattle.bound_laws.proofs.TreeLaws.{query_is_good}
use Rattle.bound_laws.proofs.Triples.{Gives}

-- ---- so many levels, views opened

pub levels_fit : (around : Around) (depth : ℕ) → DepthFits (levels_deep around depth)
levels_fit around zero = tt
levels_fit around (suc depth) = (λ name text q units. view_asks around depth (levels_fit around depth) name text q units, levels_fit around depth) where
  view_asks : (around : Around) (depth : ℕ) → DepthFits (levels_deep around depth) → (name text : List ℕ) (q : Query) (units : List BoundUnit) → Gives (AskedFits units []) (views_at around depth name text q units)
  view_asks around depth fits name text q units = (query_is_good q).asks units [] (in_view around depth name text) (record { levels = tt; tables = tt; depth = fits }) units (begins_itself units)

pub view_asks : (around : Around) (depth : ℕ) (name text : List ℕ) (q : Query) (units : List BoundUnit) → Gives (AskedFits units []) (views_at around depth name text q units)
view_asks around depth name text q units = (query_is_good q).asks units [] (in_view around depth name text) (record { levels = tt; tables = tt; depth = levels_fit around depth }) units (begins_itself units)

-- ---- columns by the names that are written

renamed_called : (ns : List (List ℕ)) (cs : List ResultColumn) → length ns ≡ length cs → as_columns (renamed ns cs) ≡ called ns (as_columns cs)
renamed_called [] [] same = refl
renamed_called [] (c ∷ cs) same = cc
renamed_called (n ∷ ns) [] same = cc
renamed_called (n ∷ ns) (c ∷ cs) same = let rest : length ns ≡ length cs = cc in ap (λ l. record { name = n; affinity = c.affinity; collation = collation_of_result c } ∷ l) (renamed_called ns cs rest)

same_hidden : (ns : List (List ℕ)) (cs : List ResultColumn) → length ns ≡ length cs → map (λ (c : BoundColumn). false) (called ns (as_columns cs)) ≡ map (λ (c : BoundColumn). false) (as_columns cs)
same_hidden [] [] same = refl
same_hidden [] (c ∷ cs) same = cc
same_hidden (n ∷ ns) [] same = cc
same_hidden (n ∷ ns) (c ∷ cs) same = let rest : length ns ≡ length cs = cc in ap (λ l. false ∷ l) (same_hidden ns cs rest)

-- ---- answers

abbrev answer : {A : Type 0} → A → Checked A
answer a = Ok a

same_answer : {A : Type 0} (a b : A) → answer a ≡ answer b → a ≡ b
same_answer a b h = cc

-- ---- what the view's use comes to, by what its query comes to

module _ (entry : Entry) (v : ViewDefinition) (w : Work) where
  abbrev named : Asked × List BoundUnit → List (List ℕ) → Checked (Sourced × Work)
  named a names = with_names entry.name names a.0.columns >>= λ cs. Ok (plain_source (Some entry.name) (bound_source.View entry.name a.0.unit) (as_columns cs), record w { units = a.1 })

  abbrev bracketed : Asked × List BoundUnit → Sourced
  bracketed a = plain_source None (bound_source.Query a.0.unit []) (as_columns a.0.columns)

  abbrev viewed : Asked × List BoundUnit → List (List ℕ) → Sourced
  viewed a names = record (bracketed a) { name = Some entry.name; source = bound_source.View entry.name a.0.unit; columns = called names (as_columns a.0.columns) }

  named_as : (a : Asked × List BoundUnit) (names : List (List ℕ)) → names_fit names (as_columns a.0.columns) ≡ true → named a names ≡ Ok (viewed a names, record w { units = a.1 })
  named_as a [] fit = refl
  named_as a (n ∷ ns) fit =
      let fits : nat_eq (length (n ∷ ns)) (length a.0.columns) ≡ true = subst (λ k. nat_eq (length (n ∷ ns)) k ≡ true) (columns_length a.0.columns) fit in
      let same = (Decides-eqb (length (n ∷ ns)) (length a.0.columns)).0 fits in
      rw fits
      (ap (λ (cs : List BoundColumn). Ok (plain_source (Some entry.name) (bound_source.View entry.name a.0.unit) cs, record w { units = a.1 })) (renamed_called (n ∷ ns) a.0.columns same)
      ∙ ap (λ (hidden : List Bool). Ok (record (plain_source (Some entry.name) (bound_source.View entry.name a.0.unit) (called (n ∷ ns) (as_columns a.0.columns))) { hidden = hidden }, record w { units = a.1 })) (same_hidden (n ∷ ns) a.0.columns same))

  misnamed : (a : Asked × List BoundUnit) (names : List (List ℕ)) → names_fit names (as_columns a.0.columns) ≡ false → named a names ≡ Err (Arity entry.name)
  misnamed a [] fit = cc
  misnamed a (n ∷ ns) fit =
      let fits : nat_eq (length (n ∷ ns)) (length a.0.columns) ≡ false = subst (λ k. nat_eq (length (n ∷ ns)) k ≡ false) (columns_length a.0.columns) fit in rw fits refl

  -- ---- where nothing is needed

  handed_nothing : (m : UnitsAnswer Asked) → Gives (AskedFits w.units []) m → derived w m ≡ (m >>= λ a. Ok (bracketed a, record w { units = a.1 }))
  handed_nothing (Ok a) h =
      ap (λ (needs : List Need). derived w (Ok (record { unit = a.0.unit; needs = needs; columns = a.0.columns }, a.1))) (nothing_needed a.0.needs h.holds.needs)
  handed_nothing (Err why) h = refl

  module _ (m : UnitsAnswer Asked) (asks : Gives (AskedFits w.units []) m) where
    abbrev usage : Checked (Sourced × Work)
    usage = m >>= λ a. named a (names_written entry v)

    abbrev AsQuery : Sourced → Work → Type 0
    AsQuery s after = (unit : ℕ) × (s.source ≡ bound_source.Query unit []) × (usage ≡ Ok (as_view entry v unit s, after))

    pub bound_alike : (s : Sourced) (after : Work) → derived w m ≡ Ok (s, after) → names_fit (names_written entry v) s.columns ≡ true → AsQuery s after
    bound_alike s after = go m asks where
      go : (x : UnitsAnswer Asked) → Gives (AskedFits w.units []) x → derived w x ≡ Ok (s, after) → names_fit (names_written entry v) s.columns ≡ true
          → (unit : ℕ) × (s.source ≡ bound_source.Query unit []) × ((x >>= λ a. named a (names_written entry v)) ≡ Ok (as_view entry v unit s, after))
      go (Ok a) h is fit =
          let same : (bracketed a, record w { units = a.1 }) ≡ (s, after) = same_answer (bracketed a, record w { units = a.1 }) (s, after) (sym (handed_nothing (Ok a) h) ∙ is) in
          subst (λ (r : Sourced × Work). names_fit (names_written entry v) r.0.columns ≡ true → (unit : ℕ) × (r.0.source ≡ bound_source.Query unit []) × (named a (names_written entry v) ≡ Ok (as_view entry v unit r.0, r.1))) same
          (λ fits. (a.0.unit, refl, named_as a (names_written entry v) fits)) fit
      go (Err why) h is fit = cc

    pub misnamed_alike : (s : Sourced) (after : Work) → derived w m ≡ Ok (s, after) → names_fit (names_written entry v) s.columns ≡ false → usage ≡ Err (Arity entry.name)
    misnamed_alike s after = go m asks where
      go : (x : UnitsAnswer Asked) → Gives (AskedFits w.units []) x → derived w x ≡ Ok (s, after) → names_fit (names_written entry v) s.columns ≡ false → (x >>= λ a. named a (names_written entry v)) ≡ Err (Arity entry.name)
      go (Ok a) h is fit =
          let same : (bracketed a, record w { units = a.1 }) ≡ (s, after) = same_answer (bracketed a, record w { units = a.1 }) (s, after) (sym (handed_nothing (Ok a) h) ∙ is) in
          subst (λ (r : Sourced × Work). names_fit (names_written entry v) r.0.columns ≡ false → named a (names_written entry v) ≡ Err (Arity entry.name)) same (misnamed a (names_written entry v)) fit
      go (Err why) h is fit = cc

    pub refused_alike : (why : Cause) → derived w m ≡ Err why → usage ≡ Err why
    refused_alike why = go m asks where
      go : (x : UnitsAnswer Asked) → Gives (AskedFits w.units []) x → derived w x ≡ Err why → (x >>= λ a. named a (names_written entry v)) ≡ Err why
      go (Ok a) h is = let no : answer {A = Sourced × Work} (bracketed a, record w { units = a.1 }) ≡ Err why = sym (handed_nothing (Ok a) h) ∙ is in cc
      go (Err other) h is = let same : other ≡ why = cc in ap (λ (x : Cause). Err x) same
