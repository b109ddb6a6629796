-- Reading a statement token by token finds its end.
use Rattle.std.proofs.Common.{◌≡◌, ℕ, suc, zero, ◌+◌, ◌-◌, Bool, true, false, cond, ◌&&◌, List, [], ◌∷◌, length, drop, Option, Some, None, option_map, if◌then◌else◌, refl, sym, ap, ◌∙◌, subst, arith}
use Rattle.std.proofs.lemmas.List.{drop-drop}
use denote.Enum.Bare.{same_true}
use Rattle.sql_tree.specs.contracts.token.TokenKind.{the_type}
use Rattle.sql_tree.specs.Kinds.{begins, same_kind}
use Rattle.sql_tree.specs.declared.token.Token.{Token}
use Rattle.sql_tree.specs.declared.token.TokenKind.{TokenKind}
use Rattle.sql_tree.specs.declared.token.TokenKind.TheVariants as kind
use Rattle.sql_lex.specs.Cutting.{creates_trigger, end_among, end_in, first_place, kinds_of, start_of}
use Rattle.sql_lex.specs.Reading.{after, ends, ends_at_semicolon}
use Rattle.sql_lex.specs.declared.reading.Reading.{Reading}
use Rattle.sql_lex.specs.Plain.{end_from}
use Rattle.sql_lex.specs.declared.reading.Reading.TheVariants as reading

abbrev pub semicolon : List TokenKind
semicolon = kind.Semicolon ∷ []

abbrev pub trigger_end : List TokenKind
trigger_end = kind.Semicolon ∷ kind.End ∷ kind.Semicolon ∷ []

-- the place of the token that ends the statement, from a place on
abbrev pub scan : ℕ → Reading → List TokenKind → Option ℕ
scan place read [] = None
scan place read (k ∷ ks) = if ends read k then Some place else scan (suc place) (after read k) ks

-- ---- cases

pub is_kind : (k wanted : TokenKind) → same_kind k wanted ≡ true → k ≡ wanted
is_kind k wanted e = same_true the_type tt k wanted e

-- one of two, by a kind
pick : (P : Reading → Type 0) (k wanted : TokenKind) (x y : Reading) → (k ≡ wanted → P x) → (same_kind k wanted ≡ false → P y) → P (if same_kind k wanted then x else y)
pick P k wanted x y f g = by (same_kind k wanted) refl
  where
    by : (t : Bool) → same_kind k wanted ≡ t → P (cond t x y)
    by true e = f (is_kind k wanted e)
    by false e = g e

pub alike : {X : Type 0} (t u : Bool) (x a b : X) → t ≡ u → (t ≡ false → a ≡ b) → cond t x a ≡ cond u x b
alike true u x a b e h = ap (λ u. cond u x b) e
alike false u x a b e h = h refl ∙ ap (λ u. cond u x b) e

true_false : {X : Type 0} → true ≡ false → X
true_false e = absurd (cc)

pub next : {X : Type 0} (all xs : List X) (place : ℕ) (x : X) → drop place all ≡ x ∷ xs → drop (suc place) all ≡ xs
next all xs place x at =
    let e : suc place ≡ place + 1 = omega arith in
    ap (λ n. drop n all) e ∙ sym (drop-drop 1 place all) ∙ ap (drop 1) at

-- ---- what creates no trigger

-- whether the tokens that follow make it one that creates a trigger
abbrev will_create : Reading → List TokenKind → Bool
will_create reading.Start ks = creates_trigger ks
will_create reading.Explain ks = begins (if begins ks (kind.Query ∷ kind.Plan ∷ []) then drop 2 ks else ks) (kind.Create ∷ kind.Trigger ∷ [])
will_create reading.Query ks = begins ks (kind.Plan ∷ kind.Create ∷ kind.Trigger ∷ [])
will_create reading.Plan ks = begins ks (kind.Create ∷ kind.Trigger ∷ [])
will_create reading.Create ks = begins ks (kind.Trigger ∷ [])
will_create reading.Other ks = false
will_create reading.Body ks = true
will_create reading.Semicolon ks = true
will_create reading.End ks = true

query_alone : (ks : List TokenKind) → begins (if begins ks (kind.Plan ∷ []) then drop 1 ks else kind.Query ∷ ks) (kind.Create ∷ kind.Trigger ∷ []) ≡ begins ks (kind.Plan ∷ kind.Create ∷ kind.Trigger ∷ [])
query_alone [] = refl
query_alone (k ∷ ks) = by (same_kind k kind.Plan)
  where
    by : (t : Bool) → begins (cond (t && true) ks (kind.Query ∷ k ∷ ks)) (kind.Create ∷ kind.Trigger ∷ []) ≡ (t && begins ks (kind.Create ∷ kind.Trigger ∷ []))
    by true = refl
    by false = refl

creates_none : (read : Reading) (k : TokenKind) (ks : List TokenKind) → will_create read (k ∷ ks) ≡ false → will_create (after read k) ks ≡ false
creates_none reading.Start k ks h =
    let P : Reading → Type 0 = λ r. will_create r ks ≡ false in
    pick P k kind.Explain _ _ (λ e. subst (λ (k : TokenKind). will_create reading.Start (k ∷ ks) ≡ false) e h)
    (λ _. pick P k kind.Create _ _ (λ e. subst (λ (k : TokenKind). will_create reading.Start (k ∷ ks) ≡ false) e h) (λ _. refl))
creates_none reading.Explain k ks h =
    let P : Reading → Type 0 = λ r. will_create r ks ≡ false in
    pick P k kind.Query _ _ (λ e. sym (query_alone ks) ∙ subst (λ (k : TokenKind). will_create reading.Explain (k ∷ ks) ≡ false) e h)
    (λ _. pick P k kind.Create _ _ (λ e. subst (λ (k : TokenKind). will_create reading.Explain (k ∷ ks) ≡ false) e h) (λ _. refl))
creates_none reading.Query k ks h =
    pick (λ r. will_create r ks ≡ false) k kind.Plan _ _ (λ e. subst (λ (k : TokenKind). will_create reading.Query (k ∷ ks) ≡ false) e h) (λ _. refl)
creates_none reading.Plan k ks h =
    pick (λ r. will_create r ks ≡ false) k kind.Create _ _ (λ e. subst (λ (k : TokenKind). will_create reading.Plan (k ∷ ks) ≡ false) e h) (λ _. refl)
creates_none reading.Create k ks h =
    pick (λ r. will_create r ks ≡ false) k kind.Trigger _ _ (λ e. subst (λ (k : TokenKind). will_create reading.Create (k ∷ ks) ≡ false) e h) (λ _. refl)
creates_none reading.Other k ks h = refl
creates_none reading.Body k ks h = true_false h
creates_none reading.Semicolon k ks h = true_false h
creates_none reading.End k ks h = true_false h

ends_at_any : (read : Reading) (ks : List TokenKind) → will_create read ks ≡ false → ends_at_semicolon read ≡ true
ends_at_any reading.Start ks h = refl
ends_at_any reading.Explain ks h = refl
ends_at_any reading.Query ks h = refl
ends_at_any reading.Plan ks h = refl
ends_at_any reading.Create ks h = refl
ends_at_any reading.Other ks h = refl
ends_at_any reading.Body ks h = true_false h
ends_at_any reading.Semicolon ks h = true_false h
ends_at_any reading.End ks h = true_false h

plain_scan : (all ks : List TokenKind) (place : ℕ) (read : Reading) → drop place all ≡ ks → will_create read ks ≡ false → scan place read ks ≡ first_place (λ p. begins (drop p all) semicolon) place (length ks)
plain_scan all [] place read at h = refl
plain_scan all (k ∷ ks) place read at h =
    alike (ends read k) (begins (drop place all) semicolon) (Some place) _ _
    (ap (λ t. same_kind k kind.Semicolon && t) (ends_at_any read (k ∷ ks) h) ∙ sym (ap (λ xs. begins xs semicolon) at))
    (λ _. plain_scan all ks (suc place) (after read k) (next all ks place k at) (creates_none read k ks h))

-- ---- what creates a trigger

-- what the last two tokens are
abbrev Recent : Reading → TokenKind → TokenKind → Type 0
Recent reading.Body x y = (same_kind y kind.Semicolon ≡ false) × ((same_kind x kind.Semicolon && same_kind y kind.End) ≡ false)
Recent reading.Semicolon x y = y ≡ kind.Semicolon
Recent reading.End x y = (x ≡ kind.Semicolon) × (y ≡ kind.End)
Recent read x y = ⊥

and_false : (t : Bool) → (t && false) ≡ false
and_false true = refl
and_false false = refl

and_first : (s t u : Bool) → (s && t) ≡ false → (s && (t && u)) ≡ false
and_first true t u h = ap (λ b. b && u) h
and_first false t u h = refl

and_second : (s t u : Bool) → t ≡ false → (s && (t && u)) ≡ false
and_second true t u h = ap (λ b. b && u) h
and_second false t u h = refl

only_first : (s t : Bool) → (s && true) ≡ false → s ≡ false
only_first true t h = h
only_first false t h = refl

ends_trigger : (read : Reading) (x y k : TokenKind) (ks : List TokenKind) → Recent read x y → ends read k ≡ begins (x ∷ y ∷ k ∷ ks) trigger_end
ends_trigger reading.Body x y k ks h = and_false (same_kind k kind.Semicolon) ∙ sym (and_first (same_kind x kind.Semicolon) (same_kind y kind.End) _ h.1)
ends_trigger reading.Semicolon x y k ks h = and_false (same_kind k kind.Semicolon) ∙ sym (and_second (same_kind x kind.Semicolon) (same_kind y kind.End) _ (ap (λ (y : TokenKind). same_kind y kind.End) h))
ends_trigger reading.End x y k ks h =
    sym (ap (λ (x : TokenKind). same_kind x kind.Semicolon && (same_kind y kind.End && (same_kind k kind.Semicolon && true))) h.0
    ∙ ap (λ (y : TokenKind). same_kind y kind.End && (same_kind k kind.Semicolon && true)) h.1)
ends_trigger reading.Start x y k ks h = absurd h
ends_trigger reading.Explain x y k ks h = absurd h
ends_trigger reading.Query x y k ks h = absurd h
ends_trigger reading.Plan x y k ks h = absurd h
ends_trigger reading.Create x y k ks h = absurd h
ends_trigger reading.Other x y k ks h = absurd h

recent_more : (read : Reading) (x y k : TokenKind) → Recent read x y → ends read k ≡ false → Recent (after read k) y k
recent_more reading.Body x y k h goes =
    pick (λ r. Recent r y k) k kind.Semicolon _ _ (λ e. e) (λ n. (n, ap (λ t. t && same_kind k kind.End) h.0))
recent_more reading.Semicolon x y k h goes =
    pick (λ r. Recent r y k) k kind.Semicolon _ _ (λ e. e)
    (λ n. pick (λ r. Recent r y k) k kind.End _ _ (λ e. (h, e)) (λ m. (n, ap (λ t. same_kind y kind.Semicolon && t) m ∙ and_false (same_kind y kind.Semicolon))))
recent_more reading.End x y k h goes =
    (only_first (same_kind k kind.Semicolon) true goes, ap (λ (y : TokenKind). same_kind y kind.Semicolon && same_kind k kind.End) h.1)
recent_more reading.Start x y k h goes = absurd h
recent_more reading.Explain x y k h goes = absurd h
recent_more reading.Query x y k h goes = absurd h
recent_more reading.Plan x y k h goes = absurd h
recent_more reading.Create x y k h goes = absurd h
recent_more reading.Other x y k h goes = absurd h

trigger_scan : (all ks : List TokenKind) (place : ℕ) (read : Reading) (x y : TokenKind) → drop place all ≡ x ∷ y ∷ ks → Recent read x y → scan (suc (suc place)) read ks ≡ first_place (λ p. begins (drop (p - 2) all) trigger_end) (suc (suc place)) (length ks)
trigger_scan all [] place read x y at h = refl
trigger_scan all (k ∷ ks) place read x y at h =
    let e : suc (suc place) - 2 ≡ place = omega arith in
    alike (ends read k) (begins (drop (suc (suc place) - 2) all) trigger_end) (Some (suc (suc place))) _ _
    (ends_trigger read x y k ks h ∙ sym (ap (λ n. begins (drop n all) trigger_end) e ∙ ap (λ xs. begins xs trigger_end) at))
    (λ goes. trigger_scan all ks (suc place) (after read k) y k (next all (y ∷ k ∷ ks) place x at) (recent_more read x y k h goes))

-- ---- the first tokens

and_both : (s t : Bool) → (s && t) ≡ true → (s ≡ true) × (t ≡ true)
and_both true t h = (refl, h)
and_both false t h = absurd (cc)

begins_more : (k : TokenKind) (ks wanted : List TokenKind) → begins ks (k ∷ wanted) ≡ true → (ks ≡ k ∷ drop 1 ks) × (begins (drop 1 ks) wanted ≡ true)
begins_more k [] wanted h = absurd (cc)
begins_more k (j ∷ ks) wanted h =
    let both = and_both (same_kind j k) (begins ks wanted) h in
    (ap (λ (j : TokenKind). j ∷ ks) (is_kind j k both.0), both.1)

abbrev Scans : List TokenKind → Type 0
Scans kinds = scan 0 reading.Start kinds ≡ first_place (λ p. begins (drop (p - 2) kinds) trigger_end) 0 (length kinds)

create_scan : (ks : List TokenKind) → Scans (kind.Create ∷ kind.Trigger ∷ ks)
create_scan ks = trigger_scan (kind.Create ∷ kind.Trigger ∷ ks) ks 0 reading.Body kind.Create kind.Trigger refl (refl, refl)

explain_scan : (ks : List TokenKind) → Scans (kind.Explain ∷ kind.Create ∷ kind.Trigger ∷ ks)
explain_scan ks = trigger_scan (kind.Explain ∷ kind.Create ∷ kind.Trigger ∷ ks) ks 1 reading.Body kind.Create kind.Trigger refl (refl, refl)

plan_scan : (ks : List TokenKind) → Scans (kind.Explain ∷ kind.Query ∷ kind.Plan ∷ kind.Create ∷ kind.Trigger ∷ ks)
plan_scan ks = trigger_scan (kind.Explain ∷ kind.Query ∷ kind.Plan ∷ kind.Create ∷ kind.Trigger ∷ ks) ks 3 reading.Body kind.Create kind.Trigger refl (refl, refl)

-- what begins with CREATE TRIGGER
create_shape : (ks : List TokenKind) → begins ks (kind.Create ∷ kind.Trigger ∷ []) ≡ true → ks ≡ kind.Create ∷ kind.Trigger ∷ drop 1 (drop 1 ks)
create_shape ks h =
    let one = begins_more kind.Create ks (kind.Trigger ∷ []) h in
    let two = begins_more kind.Trigger (drop 1 ks) [] one.1 in
    one.0 ∙ ap (λ (js : List TokenKind). kind.Create ∷ js) two.0

heading_scan : (kinds : List TokenKind) → creates_trigger kinds ≡ true → Scans kinds
heading_scan kinds h = by (begins kinds (kind.Explain ∷ kind.Query ∷ kind.Plan ∷ [])) (begins kinds (kind.Explain ∷ [])) refl refl h
  where
    by : (s t : Bool) → begins kinds (kind.Explain ∷ kind.Query ∷ kind.Plan ∷ []) ≡ s → begins kinds (kind.Explain ∷ []) ≡ t → begins (cond s (drop 3 kinds) (cond t (drop 1 kinds) kinds)) (kind.Create ∷ kind.Trigger ∷ []) ≡ true → Scans kinds
    by true t es et h =
        let one = begins_more kind.Explain kinds (kind.Query ∷ kind.Plan ∷ []) es in
        let two = begins_more kind.Query (drop 1 kinds) (kind.Plan ∷ []) one.1 in
        let three = begins_more kind.Plan (drop 1 (drop 1 kinds)) [] two.1 in
        let third : drop 1 (drop 1 (drop 1 kinds)) ≡ drop 3 kinds = ap (drop 1) (drop-drop 1 1 kinds) ∙ drop-drop 1 2 kinds in
        let rest : List TokenKind = drop 1 (drop 1 (drop 3 kinds)) in
        let shape : kinds ≡ kind.Explain ∷ kind.Query ∷ kind.Plan ∷ kind.Create ∷ kind.Trigger ∷ rest =
        one.0 ∙ ap (λ (js : List TokenKind). kind.Explain ∷ js) (two.0 ∙ ap (λ (js : List TokenKind). kind.Query ∷ js) (three.0 ∙ ap (λ (js : List TokenKind). kind.Plan ∷ js) (third ∙ create_shape (drop 3 kinds) h))) in
        subst Scans (sym shape) (plan_scan rest)
    by false true es et h =
        let one = begins_more kind.Explain kinds [] et in
        let rest : List TokenKind = drop 1 (drop 1 (drop 1 kinds)) in
        let shape : kinds ≡ kind.Explain ∷ kind.Create ∷ kind.Trigger ∷ rest = one.0 ∙ ap (λ (js : List TokenKind). kind.Explain ∷ js) (create_shape (drop 1 kinds) h) in
        subst Scans (sym shape) (explain_scan rest)
    by false false es et h = subst Scans (sym (create_shape kinds h)) (create_scan (drop 1 (drop 1 kinds)))

-- ---- the end

pub scan_is : (kinds : List TokenKind) → scan 0 reading.Start kinds ≡ end_among kinds
scan_is kinds = by (creates_trigger kinds) refl
  where
    by : (t : Bool) → creates_trigger kinds ≡ t → scan 0 reading.Start kinds ≡ first_place (λ place. cond t (begins (drop (place - 2) kinds) trigger_end) (begins (drop place kinds) semicolon)) 0 (length kinds)
    by true e = heading_scan kinds e
    by false e = plain_scan kinds kinds 0 reading.Start refl e

start_at : (all tokens : List Token) (place : ℕ) (t : Token) → drop place all ≡ t ∷ tokens → start_of all place ≡ t.span.start
start_at [] tokens place t at = absurd (none place at)
  where
    none : (place : ℕ) → drop place [] ≡ t ∷ tokens → ⊥
    none zero e = cc
    none (suc place) e = cc
start_at (a ∷ all) tokens zero t at = ap (λ (ts : List Token). start_of ts 0) at
start_at (a ∷ all) tokens (suc place) t at = start_at all tokens place t at

end_scan : (all tokens : List Token) (place : ℕ) (read : Reading) → drop place all ≡ tokens → option_map (start_of all) (scan place read (kinds_of tokens)) ≡ end_from read tokens
end_scan all [] place read at = refl
end_scan all (t ∷ tokens) place read at = by (ends read t.kind) (end_scan all tokens (suc place) (after read t.kind) (next all tokens place t at))
  where
    by : (b : Bool) → option_map (start_of all) (scan (suc place) (after read t.kind) (kinds_of tokens)) ≡ end_from (after read t.kind) tokens → option_map (start_of all) (cond b (Some place) (scan (suc place) (after read t.kind) (kinds_of tokens))) ≡ cond b (Some t.span.start) (end_from (after read t.kind) tokens)
    by true h = ap Some (start_at all tokens place t at)
    by false h = h

pub end_is : (tokens : List Token) → end_in tokens ≡ end_from reading.Start tokens
end_is tokens = ap (option_map (start_of tokens)) (sym (scan_is (kinds_of tokens))) ∙ end_scan tokens tokens 0 reading.Start refl
