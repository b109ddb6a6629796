-- Collations that are looked up one after another.
use Rattle.std.proofs.Common.{◌≡◌, ℕ, List, [], ◌∷◌, ◌++◌, Option, Some, None, Result, Ok, Err, ◌+◌, ◌<◌, length, drop, get_or, refl, ap, sym, ◌∙◌, if◌then◌else◌}
use Rattle.std.specs.List.{flat_map}
use Rattle.std.proofs.lemmas.List.{at_drop_more}
use Rattle.eng_entry.specs.declared.entry.Entry.{Entry}
use Rattle.eng_value.specs.declared.cause.Cause.{Cause}
use Rattle.sql_tree.specs.declared.statement.ColumnConstraint.{ColumnConstraint}
use Rattle.sql_tree.specs.declared.statement.ColumnConstraint.TheVariants as column_constraint
use Rattle.sql_tree.specs.declared.token.Token.{Token}
use Rattle.sql_words.specs.Refusals.{◌>>=◌, or_else}
use Rattle.sql_words.specs.Spelled.{name_at}
use Rattle.sql_bound.specs.Expressions.{collation_called}
use Rattle.sql_bound.specs.Lasting.{all_there, index_there, indexes_there, last_collate}
use Rattle.sql_bound.specs.Declarations.{definition_of, index_in, is_index_of}
use Rattle.sql_bound.specs.Refusals.{Checked}
use Rattle.sql_bound.specs.Scopes.{Facts}

bind-assoc : {A B C : Type 0} (r : Checked A) (f : A → Checked B) (g : B → Checked C) → ((r >>= f) >>= g) ≡ (r >>= λ a. f a >>= g)
bind-assoc (Ok a) f g = refl
bind-assoc (Err why) f g = refl

bind-same : {A B : Type 0} (r : Checked A) (f g : A → Checked B) → ((a : A) → f a ≡ g a) → (r >>= f) ≡ (r >>= g)
bind-same (Ok a) f g same = same a
bind-same (Err why) f g same = refl

there-append : (facts : Facts) (text : List ℕ) (ts us : List Token) → all_there facts text (ts ++ us) ≡ (all_there facts text ts >>= λ u. all_there facts text us)
there-append facts text [] us = refl
there-append facts text (t ∷ ts) us =
    bind-same (collation_called facts (name_at text t)) _ _ (λ c. there-append facts text ts us)
    ∙ sym (bind-assoc (collation_called facts (name_at text t)) (λ c. all_there facts text ts) (λ u. all_there facts text us))

-- all of the first are there: the rest decides
pub there-passed : (facts : Facts) (text : List ℕ) (ts us : List Token) → all_there facts text ts ≡ Ok tt → all_there facts text (ts ++ us) ≡ all_there facts text us
there-passed facts text ts us passed = there-append facts text ts us ∙ ap (λ r. r >>= λ u. all_there facts text us) passed

pub there-refused : (facts : Facts) (text : List ℕ) (ts us : List Token) (why : Cause) → all_there facts text ts ≡ Err why → all_there facts text (ts ++ us) ≡ Err why
there-refused facts text ts us why refused = there-append facts text ts us ∙ ap (λ r. r >>= λ u. all_there facts text us) refused

-- the same of what is walked
pub step-passed : {X : Type 0} (tokens : X → List Token) (facts : Facts) (text : List ℕ) (xs : List X) (i : ℕ) (d : X) → i < length xs
    → all_there facts text (tokens (get_or xs i d)) ≡ Ok tt → all_there facts text (flat_map tokens (drop i xs)) ≡ all_there facts text (flat_map tokens (drop (i + 1) xs))
step-passed tokens facts text xs i d within passed =
    at_drop_more (λ ys. all_there facts text (flat_map tokens ys)) xs i d within ∙ there-passed facts text (tokens (get_or xs i d)) (flat_map tokens (drop (i + 1) xs)) passed

pub step-refused : {X : Type 0} (tokens : X → List Token) (facts : Facts) (text : List ℕ) (xs : List X) (i : ℕ) (d : X) (why : Cause) → i < length xs
    → all_there facts text (tokens (get_or xs i d)) ≡ Err why → all_there facts text (flat_map tokens (drop i xs)) ≡ Err why
step-refused tokens facts text xs i d why within refused =
    at_drop_more (λ ys. all_there facts text (flat_map tokens ys)) xs i d within ∙ there-refused facts text (tokens (get_or xs i d)) (flat_map tokens (drop (i + 1) xs)) why refused

entries-append : (facts : Facts) (table : List ℕ) (e : Entry) (es : List Entry) → indexes_there facts table (e ∷ es) ≡ (indexes_there facts table (e ∷ []) >>= λ u. indexes_there facts table es)
entries-append facts table e es = sym (bind-assoc (if is_index_of table e then index_there facts e (index_in (definition_of e)) else Ok tt) (λ u. Ok tt) (λ u. indexes_there facts table es))

pub entry-passed : (facts : Facts) (table : List ℕ) (e : Entry) (es : List Entry) → indexes_there facts table (e ∷ []) ≡ Ok tt → indexes_there facts table (e ∷ es) ≡ indexes_there facts table es
entry-passed facts table e es passed = entries-append facts table e es ∙ ap (λ r. r >>= λ u. indexes_there facts table es) passed

pub entry-refused : (facts : Facts) (table : List ℕ) (e : Entry) (es : List Entry) (why : Cause) → indexes_there facts table (e ∷ []) ≡ Err why → indexes_there facts table (e ∷ es) ≡ Err why
entry-refused facts table e es why refused = entries-append facts table e es ∙ ap (λ r. r >>= λ u. indexes_there facts table es) refused

or_else-or_else : {X : Type 0} (a b c : Option X) → or_else (or_else a b) c ≡ or_else a (or_else b c)
or_else-or_else None b c = refl
or_else-or_else (Some a) b c = refl

pub or_else-None : {X : Type 0} (a : Option X) → or_else a None ≡ a
or_else-None None = refl
or_else-None (Some a) = refl

pub last-next : (c : ColumnConstraint) (rest : List ColumnConstraint) (found : Option Token)
    → or_else (last_collate (c ∷ rest)) found ≡ or_else (last_collate rest) (or_else (last_collate (c ∷ [])) found)
last-next (column_constraint.Collate t) rest found = or_else-or_else (last_collate rest) (Some t) found
last-next column_constraint.PrimaryKey rest found = refl
last-next column_constraint.NotNull rest found = refl
last-next column_constraint.Null rest found = refl
last-next column_constraint.Unique rest found = refl
last-next (column_constraint.Check x) rest found = refl
last-next (column_constraint.Default x) rest found = refl

pub ruleset there_steps = (there-passed, there-refused, entry-passed, entry-refused)

pub ruleset last_steps = (or_else-None, last-next)
