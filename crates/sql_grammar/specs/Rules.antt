-- Rules of a grammar: the trees that they derive from marked tokens, and how one token of look-ahead reads them.
use Rattle.std.specs.Prelude.{◌≡◌, ℕ, ◌-◌, take, nat_eq, zero, suc, Result, Ok, Err, Bool, true, false, not, ◌&&◌, ◌||◌, if◌then◌else◌, List, [], ◌∷◌, ◌++◌, length, ◌⊎◌, Option, Some, None, is_some}
use Rattle.sql_tree.specs.declared.token.Token.{Token}
use Rattle.sql_tree.specs.declared.token.TokenKind.{TokenKind}
use Rattle.sql_grammar.specs.Kinds.{all_kinds}
use Rattle.sql_tree.specs.Kinds.{same_kind}
use Rattle.sql_grammar.specs.declared.counts.Limit.{Limit}
use Rattle.sql_grammar.specs.declared.counts.Limit.TheVariants as limit
use Rattle.sql_grammar.specs.declared.counts.Role.{Role}
use Rattle.sql_grammar.specs.declared.counts.Counts.{Counts}
use Rattle.sql_grammar.specs.Marks.{count, Mark, stays, opens, closes, Marked, marked, plain}

-- a set of kinds
abbrev pub Kinds : Type 0
Kinds = List TokenKind

abbrev pub has : Kinds → TokenKind → Bool
has [] n = false
has (k ∷ ks) n = same_kind n k || has ks n

-- both sets, each kind once
abbrev pub join : Kinds → Kinds → Kinds
join [] js = js
join (k ∷ ks) js = if has js k then join ks js else k ∷ join ks js

abbrev pub starts : Kinds → List Token → Bool
starts ks [] = false
starts ks (t ∷ ts) = has ks t.kind

-- N names what stands between an opening and a closing token.
pub data Rule (N : Type 0 → Type 1) : Type 0 → Type 1 where
  -- one token of these kinds, and what it counts as
  tok : Role → Kinds → Rule N Token
  pure : {A : Type 0} → A → Rule N A
  seq : {A B : Type 0} → Rule N A → Rule N B → Rule N (A × B)
  alt : {A : Type 0} → Rule N A → Rule N A → Rule N A
  -- after a tree of the first, the second where the test holds, and else the third
  fork : {A B : Type 0} → Rule N A → (A → Bool) → Rule N B → Rule N B → Rule N (A × B)
  many : {A : Type 0} → Rule N A → Rule N (List A)
  -- any number of the first, and after one where the test holds any number of the second
  until : {A : Type 0} → Rule N A → (A → Bool) → Rule N A → Rule N (List A)
  to : {A B : Type 0} → (A → B) → Rule N A → Rule N B
  -- a function of the tree and of its tokens
  over : {A B : Type 0} → (A → List Token → B) → Rule N A → Rule N B
  -- an opening token, what is named, a closing token
  nest : {A : Type 0} → Role → Kinds → N A → Role → Kinds → Rule N A

-- ---- what a rule derives

abbrev pub Lang : Type 0 → Type 1
Lang A = List Marked → A → Type 0

-- turns of l false, and of l true after one where the test holds
abbrev pub Loop : {A : Type 0} → (Bool → Lang A) → (A → Bool) → Bool → List Marked → List A → Type 0
Loop l f b ts [] = ts ≡ []
Loop l f b ts (a ∷ more) = (xs ys : List Marked) × (ts ≡ xs ++ ys) × l b xs a × Loop l f (b || f a) ys more

-- the one token
abbrev pub Tok : (Role → Mark) → Role → Kinds → Lang Token
Tok m r ks ts t = (ts ≡ marked (m r) t ∷ []) × (has ks t.kind ≡ true)

abbrev pub pick : {A : Type 0} → Bool → Lang A → Lang A → Lang A
pick true l m ts a = l ts a
pick false l m ts a = m ts a

abbrev pub Fork : {A B : Type 0} → Lang A → (A → Lang B) → Lang (A × B)
Fork l m ts p = (xs ys : List Marked) × (ts ≡ xs ++ ys) × l xs p.0 × m p.0 ys p.1

abbrev pub To : {A B : Type 0} → (A → B) → Lang A → Lang B
To {A} f l ts b = (a : A) × l ts a × (b ≡ f a)

abbrev pub Made : {A B : Type 0} → (A → List Token → B) → Lang A → Lang B
Made {A} f l ts b = (a : A) × l ts a × (b ≡ f a (plain ts))

abbrev pub Between : {A : Type 0} → Role → Kinds → Lang A → Role → Kinds → Lang A
Between m o l k c ts a = (t z : Token) × (xs : List Marked) × (ts ≡ marked (opens m) t ∷ (xs ++ marked (closes k) z ∷ [])) × (has o t.kind ≡ true) × (has c z.kind ≡ true) × l xs a

module _ (N : Type 0 → Type 1) (rules : (A : Type 0) → N A → Rule N A) where
  abbrev pub derives_in : ((A : Type 0) → N A → Lang A) → {A : Type 0} → Rule N A → Lang A
  derives_in inner (tok m ks) ts t = Tok stays m ks ts t
  derives_in inner (pure a) ts x = (ts ≡ []) × (x ≡ a)
  derives_in inner (seq r s) ts p = Fork (derives_in inner r) (λ a. derives_in inner s) ts p
  derives_in inner (fork r f s t) ts p = Fork (derives_in inner r) (λ a. pick (f a) (derives_in inner s) (derives_in inner t)) ts p
  derives_in inner (alt r s) ts a = derives_in inner r ts a ⊎ derives_in inner s ts a
  derives_in inner (many r) ts found = Loop (λ b. derives_in inner r) (λ a. false) false ts found
  derives_in inner (until r f s) ts found = Loop (λ b. pick b (derives_in inner s) (derives_in inner r)) f false ts found
  derives_in inner (to f r) ts b = To f (derives_in inner r) ts b
  derives_in inner (over f r) ts b = Made f (derives_in inner r) ts b
  derives_in inner (nest {A} m o n k c) ts a = Between m o (inner A n) k c ts a

  -- with at most so many nestings open
  abbrev pub nested : ℕ → (A : Type 0) → N A → Lang A
  nested zero A n ts a = ⊥
  nested (suc depth) A n ts a = derives_in (nested depth) (rules A n) ts a

  abbrev pub derives : ℕ → {A : Type 0} → Rule N A → Lang A
  derives depth r = derives_in (nested depth) r

-- ---- the sets of one token of look-ahead

abbrev pub can_be_empty : {N : Type 0 → Type 1} {A : Type 0} → Rule N A → Bool
can_be_empty (tok m ks) = false
can_be_empty (pure a) = true
can_be_empty (seq r s) = can_be_empty r && can_be_empty s
can_be_empty (fork r f s t) = can_be_empty r
can_be_empty (alt r s) = can_be_empty r || can_be_empty s
can_be_empty (many r) = true
can_be_empty (until r f s) = true
can_be_empty (to f r) = can_be_empty r
can_be_empty (over f r) = can_be_empty r
can_be_empty (nest m o n k c) = false

-- the kinds that it begins with
abbrev pub first : {N : Type 0 → Type 1} {A : Type 0} → Rule N A → Kinds
first (tok m ks) = ks
first (pure a) = []
first (seq r s) = if can_be_empty r then join (first r) (first s) else first r
first (fork r f s t) = if can_be_empty r then join (first r) (join (first s) (first t)) else first r
first (alt r s) = join (first r) (first s)
first (many r) = first r
first (until r f s) = join (first r) (first s)
first (to f r) = first r
first (over f r) = first r
first (nest m o n k c) = o

-- the kinds that may make it longer
abbrev pub more : {N : Type 0 → Type 1} {A : Type 0} → Rule N A → Kinds
more (tok m ks) = []
more (pure a) = []
more (seq r s) = if can_be_empty s then join (more r) (more s) else more s
more (fork r f s t) = join (if can_be_empty s || can_be_empty t then more r else []) (join (more s) (more t))
more (alt r s) = join (more r) (join (more s) (if can_be_empty s then first r else []))
more (many r) = join (first r) (more r)
more (until r f s) = join (join (first r) (more r)) (join (first s) (more s))
more (to f r) = more r
more (over f r) = more r
more (nest m o n k c) = []

abbrev pub apart : Kinds → Kinds → Bool
apart [] ks = true
apart (k ∷ js) ks = not (has ks k) && apart js ks

abbrev pub some_kind : Kinds → List TokenKind → Option TokenKind
some_kind ks [] = None
some_kind ks (kind ∷ kinds) = if has ks kind then Some kind else some_kind ks kinds

module _ (N : Type 0 → Type 1) (rules : (A : Type 0) → N A → Rule N A) where
  -- one token tells what to do
  abbrev pub is_clear : {A : Type 0} → Rule N A → Bool
  is_clear (tok m ks) = is_some (some_kind ks all_kinds)
  is_clear (pure a) = true
  is_clear (seq r s) = is_clear r && (is_clear s && apart (more r) (first s))
  is_clear (fork r f s t) = is_clear r && (is_clear s && (is_clear t && (not (can_be_empty r) && (apart (more r) (first s) && apart (more r) (first t)))))
  is_clear (alt r s) = is_clear r && (is_clear s && (not (can_be_empty r) && apart (first r) (first s)))
  is_clear (many r) = is_clear r && (not (can_be_empty r) && apart (more r) (first r))
  is_clear (until r f s) = is_clear r && (is_clear s && (not (can_be_empty r) && (not (can_be_empty s) && (apart (more r) (first r) && (apart (more r) (first s) && apart (more s) (first s))))))
  is_clear (to f r) = is_clear r
  is_clear (over f r) = is_clear r
  is_clear (nest {A} m o n k c) = is_some (some_kind o all_kinds) && (is_some (some_kind c all_kinds) && apart (more (rules A n)) c)

-- something is derived, where some inner names do
abbrev pub can_end : {N : Type 0 → Type 1} → ((A : Type 0) → N A → Bool) → {A : Type 0} → Rule N A → Bool
can_end inner (tok m ks) = true
can_end inner (pure a) = true
can_end inner (seq r s) = can_end inner r && can_end inner s
can_end inner (fork r f s t) = can_end inner r && (can_end inner s && can_end inner t)
can_end inner (alt r s) = can_end inner r || can_end inner s
can_end inner (many r) = true
can_end inner (until r f s) = true
can_end inner (to f r) = can_end inner r
can_end inner (over f r) = can_end inner r
can_end inner (nest {A} m o n k c) = inner A n

module _ (N : Type 0 → Type 1) (rules : (A : Type 0) → N A → Rule N A) where
  abbrev pub ends : ℕ → (A : Type 0) → N A → Bool
  ends zero A n = false
  ends (suc depth) A n = can_end (ends depth) (rules A n)

-- ---- reading

-- What reading gave, with the tokens from there on: a tree, and the counts; the first token that cannot stand there; one that passes a limit.
pub data Why : Type 0 where
  Wrong : Why
  Over : Limit → Why

pub data Outcome (A : Type 0) : Type 0 where
  Done : A → Counts → List Token → Outcome A
  Stop : Why → List Token → Outcome A

pattern abbrev pub Fail : {A : Type 0} → List Token → Outcome A
Fail rest = Stop Wrong rest

abbrev pub Parser : Type 0 → Type 0
Parser A = Counts → List Token → Outcome A

infixl 10 ◌>>=◌
abbrev pub ◌>>=◌ : {A B : Type 0} → Outcome A → (A → Parser B) → Outcome B
(Done a c rest) >>= f = f a c rest
(Stop why rest) >>= f = Stop why rest

abbrev pub taken : Result Counts Limit → Token → List Token → Outcome Token
taken (Ok c) t ts = Done t c ts
taken (Err l) t ts = Stop (Over l) (t ∷ ts)

abbrev pub one : Role → Kinds → Parser Token
one r ks c [] = Fail []
one r ks c (t ∷ ts) = if has ks t.kind then taken (count r c) t ts else Fail (t ∷ ts)

-- a token that opens a nesting, where so many may still be opened
abbrev pub opening : ℕ → Role → Kinds → Parser Token
opening d r ks c [] = Fail []
opening d r ks c (t ∷ ts) = if has ks t.kind then (if nat_eq d 0 then Stop (Over limit.Nestings) (t ∷ ts) else taken (count r c) t ts) else Fail (t ∷ ts)

-- the second reads on after the tree of the first
abbrev pub on : {A B : Type 0} → Parser A → (A → Parser B) → Parser (A × B)
on p q c ts = p c ts >>= λ a d rest. q a d rest >>= λ b e end. Done (a, b) e end

abbrev pub both : {A B : Type 0} → Parser A → Parser B → Parser (A × B)
both p q c ts = on p (λ a. q) c ts

abbrev pub pick_read : {A : Type 0} → Bool → Parser A → Parser A → Parser A
pick_read true p q c ts = p c ts
pick_read false p q c ts = q c ts

abbrev pub pick_kinds : Bool → Kinds → Kinds → Kinds
pick_kinds true ks js = ks
pick_kinds false ks js = js

-- the tokens in front of a rest
abbrev pub before : List Token → List Token → List Token
before ts rest = take (length ts - length rest) ts

-- as long as one of these kinds comes; the number bounds the turns, and each takes a token
abbrev pub all_of : {A : Type 0} → (Bool → Kinds) → (Bool → Parser A) → (A → Bool) → ℕ → Bool → Parser (List A)
all_of ks p f zero b c ts = Done [] c ts
all_of ks p f (suc n) b c ts = if starts (ks b) ts then p b c ts >>= (λ a d rest. all_of ks p f n (b || f a) d rest >>= λ found e end. Done (a ∷ found) e end) else Done [] c ts

-- at the token after the opening one
abbrev pub body : {A : Type 0} → Parser A → Role → Kinds → Parser A
body p k z c ts = both p (one k z) c ts >>= (λ x d rest. Done x.0 d rest)

module _ (N : Type 0 → Type 1) (rules : (A : Type 0) → N A → Rule N A) where
  -- the inner parser reads from an opening token to the closing one
  abbrev pub read_in : ((A : Type 0) → N A → Role → Role → Kinds → Parser A) → {A : Type 0} → Rule N A → Parser A
  read_in inner (tok m ks) c ts = one m ks c ts
  read_in inner (pure a) c ts = Done a c ts
  read_in inner (seq r s) c ts = on (read_in inner r) (λ a. read_in inner s) c ts
  read_in inner (fork r f s t) c ts = on (read_in inner r) (λ a. pick_read (f a) (read_in inner s) (read_in inner t)) c ts
  read_in inner (alt r s) c ts = if starts (first r) ts then read_in inner r c ts else read_in inner s c ts
  read_in inner (many r) c ts = all_of (λ b. first r) (λ b. read_in inner r) (λ a. false) (length ts) false c ts
  read_in inner (until r f s) c ts = all_of (λ b. pick_kinds b (first s) (first r)) (λ b. pick_read b (read_in inner s) (read_in inner r)) f (length ts) false c ts
  read_in inner (to f r) c ts = read_in inner r c ts >>= λ a d rest. Done (f a) d rest
  read_in inner (over f r) c ts = read_in inner r c ts >>= λ a d rest. Done (f a (before ts rest)) d rest
  read_in inner (nest {A} m o n k z) c ts = if starts o ts then inner A n m k z c ts else Fail ts

  abbrev pub read_nested : ℕ → (A : Type 0) → N A → Role → Role → Kinds → Parser A
  read_nested depth A n m k z c [] = Fail []
  read_nested zero A n m k z c (t ∷ ts) = Stop (Over limit.Nestings) (t ∷ ts)
  read_nested (suc depth) A n m k z c (t ∷ ts) = taken (count m c) t ts >>= λ u d rest. body (read_in (read_nested depth) (rules A n)) k z d rest

  abbrev pub reads : ℕ → {A : Type 0} → Rule N A → Parser A
  reads depth r = read_in (read_nested depth) r
