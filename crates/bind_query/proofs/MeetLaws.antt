-- An item that is joined, and views, by what code has of them.
use Rattle.std.proofs.Common.{◌≡◌, ℕ, List, [], Ok, Err, Option, length, Result, ap, sym, ◌∙◌}
use Rattle.bind_query.specs.Scopes.{Levels, inside_of}
use Rattle.bind_query.specs.Where.{Where}
use Rattle.bind_query.proofs.FromLaws.{view-anywhere}
use Rattle.bind_with.proofs.AnswerLaws.{comes-by}
use Rattle.eng_entry.specs.declared.entry.Entry.{Entry}
use Rattle.eng_entry.specs.declared.entry.EntryKind.TheVariants as entry_kind
use Rattle.eng_value.specs.declared.cause.Cause.{Cause}
use Rattle.sql_bound.specs.Answers.{Comes}
use Rattle.sql_bound.specs.Carriers.{Expression, ItemParts}
use Rattle.sql_bound.specs.Declarations.{definition_of, view_in}
use Rattle.sql_bound.specs.Froms.{Inside, constrained, joined_to, of_entry, of_view, scope_item, with_item, without_arguments}
use Rattle.sql_bound.specs.Refusals.{Checked}
use Rattle.sql_bound.specs.Scopes.{Answer}
use Rattle.sql_bound.specs.declared.froms.Found.{Found}
use Rattle.sql_bound.specs.declared.froms.Joining.{Joining}
use Rattle.sql_bound.specs.declared.froms.Sourced.{Sourced}
use Rattle.sql_bound.specs.declared.scopes.WithEntry.{WithEntry}
use Rattle.sql_bound.specs.declared.scopes.Work.{Work}
use Rattle.sql_words.specs.Refusals.{◌>>=◌}

-- an item behind those that were found
abbrev behind : ItemParts → Option (List ℕ) → Sourced → Found → Joining × Work → Answer Found
behind item name s f x = Ok (with_item item name s f x.0, x.1)

module _ (i : Inside) (item : ItemParts) (name : Option (List ℕ)) (s : Sourced) (f : Found) (j : Joining) (w : Work)
    (is : j ≡ record { right = scope_item (length f.items) name s; ons = [] }) where
  joined-by : joined_to i item name s f w ≡ (constrained i f.level item.join.natural item.constraint j w >>= behind item name s f)
  joined-by = ap (λ (y : Joining). constrained i f.level item.join.natural item.constraint y w >>= behind item name s f) (sym is)

  pub joined-is : (k : Joining) (v : Work) → constrained i f.level item.join.natural item.constraint j w ≡ Ok (k, v) → joined_to i item name s f w ≡ Ok (with_item item name s f k, v)
  joined-is k v told = joined-by ∙ ap (λ (r : Answer Joining). r >>= behind item name s f) told

  pub joined-refused : (why : Cause) → constrained i f.level item.join.natural item.constraint j w ≡ Err why → joined_to i item name s f w ≡ Err why
  joined-refused why told = joined-by ∙ ap (λ (r : Answer Joining). r >>= behind item name s f) told

pub view-plain : (w : Where) (ls : Levels) (ts : List WithEntry) (name : List ℕ) (entry : Entry) (args : List Expression) (f : Found) (work new : Work) (r : Result Sourced Cause)
    → without_arguments entry.name args ≡ Ok tt
    → Comes (of_view (inside_of w [] []) name entry (view_in (definition_of entry)) work) r new
    → Comes (of_entry (inside_of w ls ts) name entry entry_kind.View args f work) r new
view-plain w ls ts name entry args f work new r none told =
    comes-by (of_entry (inside_of w ls ts) name entry entry_kind.View args f work) (of_view (inside_of w [] []) name entry (view_in (definition_of entry)) work) r new
    (ap (λ (u : Checked (Unit {0})). u >>= λ x. of_view (inside_of w ls ts) name entry (view_in (definition_of entry)) work) none ∙ view-anywhere w ls [] ts [] name entry (view_in (definition_of entry)) work)
    told
