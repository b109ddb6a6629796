-- What lists read, in the steps of the code.
use Rattle.std.proofs.Common.{◌≡◌, ℕ, ◌<◌, length, true, false, not, Bool, ◌&&◌, List, [], ◌∷◌, ◌++◌, refl, ap, ◌∙◌}
use Rattle.sql_tree.specs.declared.token.Token.{Token}
use Rattle.sql_tree.specs.declared.token.TokenKind.TheVariants as kind
use Rattle.sql_grammar.specs.declared.counts.Counts.{Counts}
use Rattle.sql_grammar.specs.declared.counts.Role.TheVariants as role
use Rattle.sql_grammar.specs.Rules.{Kinds, starts, first, is_clear, many, reads, one, Done, ◌>>=◌}
use Rattle.sql_grammar.specs.Grammar.{Name, Of}
use Rattle.sql_grammar.specs.Bodies.{rules}
use Rattle.sql_grammar.proofs.Clear.{clear, rich}
use Rattle.sql_grammar.proofs.Whole.{takes_some}
use Rattle.parse_cursor.specs.Gives.{collected}
use Rattle.parse_cursor.specs.Items.{items, more_items, run, more_of_run}
use Rattle.parse_cursor.proofs.Steps.{both_to, list_is, next_is, last_is, next_shorter, many_step, many_end}

left : (a b : Bool) → a && b ≡ true → a ≡ true
left true b h = refl
left false b h = cc h

middle : (a b c : Bool) → a && (b && c) ≡ true → b ≡ true
middle true true c h = refl
middle true false c h = cc h
middle false b c h = cc h

solid : (a b c : Bool) → a && (not b && c) ≡ true → b ≡ false
solid true false c h = refl
solid true true c h = cc h
solid false b c h = cc h

-- ---- x {"," x}

pub items_is : {A : Type 0} (r : Of A) (d : ℕ) (c : Counts) (ts : List Token) → reads Name rules d (items r) c ts ≡ (reads Name rules d r c ts >>= λ a e rest. collected (a ∷ []) (reads Name rules d (more_items r) e rest))
unfolding items more_items
items_is r d c ts = list_is r d c ts

pub items_step : {A : Type 0} (r : Of A) (found : List A) (d : ℕ) (c : Counts) (ts : List Token) → is_clear Name rules (items r) ≡ true → starts (kind.Comma ∷ []) ts ≡ true
    → collected found (reads Name rules d (more_items r) c ts) ≡ (one role.Outside (kind.Comma ∷ []) c ts >>= λ t e rest. reads Name rules d r e rest >>= λ a f end. collected (found ++ a ∷ []) (reads Name rules d (more_items r) f end))
unfolding items more_items
items_step r found d c ts h here = next_is r found d c ts (middle _ _ _ h) here

pub items_end : {A : Type 0} (r : Of A) (found : List A) (d : ℕ) (c : Counts) (ts : List Token) → is_clear Name rules (items r) ≡ true → starts (kind.Comma ∷ []) ts ≡ false → collected found (reads Name rules d (more_items r) c ts) ≡ Done found c ts
unfolding items more_items
items_end r found d c ts h none = last_is r found d c ts (middle _ _ _ h) none

pub items_shorter : {A : Type 0} (r : Of A) (d : ℕ) (c e f : Counts) (ts mid rest : List Token) (t : Token) (a : A) → is_clear Name rules (items r) ≡ true
    → one role.Outside (kind.Comma ∷ []) c ts ≡ Done t e mid → reads Name rules d r e mid ≡ Done a f rest → length rest < length ts
unfolding items
items_shorter r d c e f ts mid rest t a h g is = next_shorter r (left _ _ h) d c e f ts mid rest t a g is

pub ruleset items_steps = (items_is, items_step, items_end, items_shorter)

-- ---- x {x}

pub run_is : {A : Type 0} (r : Of A) (d : ℕ) (c : Counts) (ts : List Token) → reads Name rules d (run r) c ts ≡ (reads Name rules d r c ts >>= λ a e rest. collected (a ∷ []) (reads Name rules d (more_of_run r) e rest))
unfolding run more_of_run
run_is r d c ts = both_to (reads Name rules d r) (reads Name rules d (many r)) (λ x. x.0 ∷ x.1) c ts

pub run_step : {A : Type 0} (r : Of A) (ks : Kinds) (found : List A) (d : ℕ) (c : Counts) (ts : List Token) → is_clear Name rules (run r) ≡ true → first r ≡ ks → starts ks ts ≡ true
    → collected found (reads Name rules d (more_of_run r) c ts) ≡ (reads Name rules d r c ts >>= λ a e rest. collected (found ++ a ∷ []) (reads Name rules d (more_of_run r) e rest))
unfolding run more_of_run
run_step r ks found d c ts h f here = many_step r d found c ts (middle _ _ _ h) (ap (λ ks. starts ks ts) f ∙ here)

pub run_end : {A : Type 0} (r : Of A) (ks : Kinds) (found : List A) (d : ℕ) (c : Counts) (ts : List Token) → is_clear Name rules (run r) ≡ true → first r ≡ ks → starts ks ts ≡ false → collected found (reads Name rules d (more_of_run r) c ts) ≡ Done found c ts
unfolding run more_of_run
run_end r ks found d c ts h f none = many_end r d found c ts (middle _ _ _ h) (ap (λ ks. starts ks ts) f ∙ none)

pub run_shorter : {A : Type 0} (r : Of A) (d : ℕ) (c e : Counts) (ts rest : List Token) (a : A) → is_clear Name rules (run r) ≡ true → reads Name rules d r c ts ≡ Done a e rest → length rest < length ts
unfolding run
run_shorter r d c e ts rest a h is = takes_some Name rules clear rich r (left _ _ h) (solid _ _ _ (middle _ _ _ h)) d c e ts rest a is

pub ruleset run_steps = (run_is, run_step, run_end, run_shorter)
