-- Outs and the causes of all of them.
use Rattle.std.proofs.Common.{◌≡◌, List, [], ◌∷◌, ◌++◌, true, false, map, fold, Some, None, refl, sym, ap, ◌∙◌}
use Rattle.eng_value.specs.Causes.{CauseSet}
use Rattle.eng_value.specs.Environments.{no_causes, with_causes}
use Rattle.eng_value.specs.declared.out.Out.{Out}
use Rattle.eng_value.specs.declared.out.Out.TheVariants.{Good, Bad}
use Rattle.sql_meaning.specs.Statement as meaning
use Rattle.sql_meaning.specs.Statement.{Item, Row, Failed, given_of, item_by, item_of, refusal_of}
use Rattle.vm_code.specs.Machine.{is_bad}

-- ---- one bad out is enough

bad-stays : (outs : List Out) (k : CauseSet) → is_bad (fold with_causes (Bad k) outs) ≡ true
bad-stays [] k = refl
bad-stays (Good v ∷ outs) k = bad-stays outs k
bad-stays (Bad d ∷ outs) k = bad-stays outs _

-- where none is bad there are no causes, and each has its value
pub calm-good : (outs : List Out) → is_bad (fold with_causes no_causes outs) ≡ false → (fold with_causes no_causes outs ≡ no_causes) × (outs ≡ map Good (map meaning.good_or_null outs))
calm-good [] e = (refl, refl)
calm-good (Good v ∷ outs) e = let rest = calm-good outs e in (rest.0, ap (λ l. Good v ∷ l) rest.1)
calm-good (Bad k ∷ outs) e = let wrong : true ≡ false = sym (bad-stays outs k) ∙ e in cc

-- ---- the item of a row

pub item-good : (outs : List Out) → is_bad (fold with_causes no_causes outs) ≡ false → item_of no_causes outs ≡ Row (map meaning.good_or_null outs)
item-good outs e = ap (item_by outs) (calm-good outs e).0

pub item-bad : (outs : List Out) (all : Out) → is_bad all ≡ true → (k : CauseSet) × (all ≡ Bad k) × (item_by outs all ≡ Failed k)
item-bad outs (Good v) e = cc
item-bad outs (Bad k) e = (k, refl, refl)

-- ---- items one after the other

-- behind items that are all good come those behind them
pub refusal_of-append : (xs ys : List Item) → refusal_of xs ≡ None → refusal_of (xs ++ ys) ≡ refusal_of ys
refusal_of-append [] ys e = refl
refusal_of-append (Row row ∷ xs) ys e = refusal_of-append xs ys e
refusal_of-append (Failed causes ∷ xs) ys e = absurd (cc)

pub given_of-append : (xs ys : List Item) → refusal_of xs ≡ None → given_of (xs ++ ys) ≡ given_of xs ++ given_of ys
given_of-append [] ys e = refl
given_of-append (Row row ∷ xs) ys e = ap (λ l. row ∷ l) (given_of-append xs ys e)
given_of-append (Failed causes ∷ xs) ys e = absurd (cc)

-- and behind a bad one comes nothing
pub refusal_of-bad : (xs ys : List Item) (causes : CauseSet) → refusal_of xs ≡ Some causes → refusal_of (xs ++ ys) ≡ Some causes
refusal_of-bad [] ys causes e = absurd (cc)
refusal_of-bad (Row row ∷ xs) ys causes e = refusal_of-bad xs ys causes e
refusal_of-bad (Failed c ∷ xs) ys causes e = e
