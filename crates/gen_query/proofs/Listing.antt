-- Items one after the other.
use Rattle.std.proofs.Common.{◌≡◌, List, [], ◌∷◌, ◌++◌, map, Some, None, refl, sym, ap, ◌∙◌, append_assoc, append-nil}
use Rattle.std.specs.declared.option.Option.{Option}
use Rattle.eng_value.specs.Causes.{CauseSet}
use Rattle.eng_value.specs.declared.out.Out.{Out}
use Rattle.eng_value.specs.declared.out.Out.TheVariants.{Good, Bad}
use Rattle.eng_value.specs.declared.value.Value.{Value}
use Rattle.eng_value.specs.declared.value.Value.TheVariants.{Null}
use Rattle.gen_query.specs.Queries.{gives, outcome_by, with_given}
use Rattle.sql_meaning.specs.Statement as meaning
use Rattle.sql_meaning.specs.Statement.{Item, Row, Failed, given_of, refusal_of}
use Rattle.vm_code.specs.Frames.{Memory, Done, Fails, Quit}
use Rattle.vm_code.specs.Machine as machine

-- behind items that are all good come those behind them
pub refusal_of-append : (xs ys : List Item) → refusal_of xs ≡ None → refusal_of (xs ++ ys) ≡ refusal_of ys
refusal_of-append [] ys e = refl
refusal_of-append (Row row ∷ xs) ys e = refusal_of-append xs ys e
refusal_of-append (Failed causes ∷ xs) ys e = absurd (cc)

pub given_of-append : (xs ys : List Item) → refusal_of xs ≡ None → given_of (xs ++ ys) ≡ given_of xs ++ given_of ys
given_of-append [] ys e = refl
given_of-append (Row row ∷ xs) ys e = ap (λ l. row ∷ l) (given_of-append xs ys e)
given_of-append (Failed causes ∷ xs) ys e = absurd (cc)

-- and behind a bad one comes nothing
pub refusal_of-bad : (xs ys : List Item) (causes : CauseSet) → refusal_of xs ≡ Some causes → refusal_of (xs ++ ys) ≡ Some causes
refusal_of-bad [] ys causes e = absurd (cc)
refusal_of-bad (Row row ∷ xs) ys causes e = refusal_of-bad xs ys causes e
refusal_of-bad (Failed c ∷ xs) ys causes e = e

pub given_of-bad : (xs ys : List Item) (causes : CauseSet) → refusal_of xs ≡ Some causes → given_of (xs ++ ys) ≡ given_of xs
given_of-bad [] ys causes e = absurd (cc)
given_of-bad (Row row ∷ xs) ys causes e = ap (λ l. row ∷ l) (given_of-bad xs ys causes e)
given_of-bad (Failed c ∷ xs) ys causes e = refl

-- ---- what is known where giving items goes on, and where it ends the run

by_done : (o : Option CauseSet) (x y : Memory) → outcome_by o x ≡ Done y → (o ≡ None) × (x ≡ y)
by_done None x y e = (refl, cc)
by_done (Some c) x y e = absurd (cc)

by_fails : (o : Option CauseSet) (c : CauseSet) (x y : Memory) → outcome_by o x ≡ Fails c y → (o ≡ Some c) × (x ≡ y)
by_fails None c x y e = absurd (cc)
by_fails (Some d) c x y e = (cc, cc)

by_quit : (o : Option CauseSet) (x y : Memory) → outcome_by o x ≡ Quit y → ⊥
by_quit None x y e = cc
by_quit (Some d) x y e = cc

pub gives_done : (items : List Item) (x y : Memory) → gives items x ≡ Done y → (refusal_of items ≡ None) × (with_given x (given_of items) ≡ y)
gives_done items x y e = by_done (refusal_of items) (with_given x (given_of items)) y e

pub gives_fails : (items : List Item) (c : CauseSet) (x y : Memory) → gives items x ≡ Fails c y → (refusal_of items ≡ Some c) × (with_given x (given_of items) ≡ y)
gives_fails items c x y e = by_fails (refusal_of items) c (with_given x (given_of items)) y e

pub gives_quit : (items : List Item) (x y : Memory) → gives items x ≡ Quit y → ⊥
gives_quit items x y e = by_quit (refusal_of items) (with_given x (given_of items)) y e

-- what was given comes in front of what is given then
with_given-twice : (x : Memory) (xs ys : List (List Value)) → with_given (with_given x xs) ys ≡ with_given x (xs ++ ys)
with_given-twice x xs ys =
    ap (λ l. record x { shared = record x.shared { given = l } }) (append_assoc x.shared.given xs ys)

pub with_given-nil : (x : Memory) → with_given x [] ≡ x
with_given-nil x =
    ap (λ l. record x { shared = record x.shared { given = l } }) (append-nil x.shared.given)

-- where the first items are good the others are left
pub gives-more : (xs ys : List Item) (x y : Memory) → gives xs x ≡ Done y → gives (xs ++ ys) x ≡ gives ys y
gives-more xs ys x y e =
    let known = gives_done xs x y e in
    ap (λ o. outcome_by o (with_given x (given_of (xs ++ ys)))) (refusal_of-append xs ys known.0)
    ∙ ap (λ l. outcome_by (refusal_of ys) (with_given x l)) (given_of-append xs ys known.0)
    ∙ ap (outcome_by (refusal_of ys)) (sym (with_given-twice x (given_of xs) (given_of ys)))
    ∙ ap (gives ys) known.1

-- and where one is bad they do not matter
pub gives-no_more : (xs ys : List Item) (c : CauseSet) (x y : Memory) → gives xs x ≡ Fails c y → gives (xs ++ ys) x ≡ Fails c y
gives-no_more xs ys c x y e =
    let known = gives_fails xs c x y e in
    ap (λ o. outcome_by o (with_given x (given_of (xs ++ ys)))) (refusal_of-bad xs ys c known.0)
    ∙ ap (λ l. Fails c (with_given x l)) (given_of-bad xs ys c known.0)
    ∙ ap (Fails c) known.1

-- ---- the item of a row

-- the machine's word for what a register counts as in a row is the definitions'
pub good_or_null-same : (outs : List Out) → map machine.good_or_null outs ≡ map meaning.good_or_null outs
good_or_null-same [] = refl
good_or_null-same (Good v ∷ outs) = ap (λ l. v ∷ l) (good_or_null-same outs)
good_or_null-same (Bad c ∷ outs) = ap (λ l. Null ∷ l) (good_or_null-same outs)
