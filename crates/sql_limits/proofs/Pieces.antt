-- What stands between the tokens that stand in no expression, of all that a rule derives.
use Rattle.std.proofs.Common.{◌≡◌, ◌∙◌, ℕ, ◌&&◌, ◌||◌, Bool, true, false, List, [], ◌∷◌, ◌++◌, refl, sym, subst, ap, append-nil, inl, inr}
use Rattle.std.specs.List.{AllByRecursion}
use Rattle.sql_tree.specs.declared.expr.Expr.{Expr}
use Rattle.sql_tree.specs.declared.token.Token.{Token}
use Rattle.sql_tree.specs.declared.token.TokenKind.{TokenKind}
use Rattle.sql_grammar.specs.declared.counts.Role.{Role}
use Rattle.sql_grammar.specs.declared.counts.Role.TheVariants as role
use Rattle.sql_grammar.specs.Alike.{Alike}
use Rattle.sql_grammar.specs.Bodies.{rules}
use Rattle.sql_grammar.specs.Grammar.{Name, Of, maybe, after, list_of, expr}
use Rattle.sql_grammar.specs.Grammar as name
use Rattle.sql_grammar.specs.Marks.{stays, opens, closes, Marked, marked}
use Rattle.sql_grammar.specs.Rules.{Kinds, Lang, Loop, tok, pure, seq, fork, alt, many, to, over, pick, derives, nested}
use Rattle.sql_grammar.proofs.KindSets.{and_true}
use Rattle.sql_limits.specs.Limits.{first_expression, other_expressions, outermost_expressions}
use Rattle.sql_limits.specs.Nestings.{quiet, outside, fresh, part, of_others, Nested, nothing, token, bracket, flat}
use Rattle.sql_limits.specs.Outermost.{IsNames, IsOneAtMost}
use Rattle.sql_limits.proofs.Nests.{follow, flat_follow, expression_nested}
use Rattle.sql_limits.proofs.Rows.{Row, outermost_follow, glue_rows}
use Rattle.sql_limits.proofs.Shapes.{has_roles, Builds, rule_law}
use Rattle.sql_limits.proofs.Steps.{each_append}

-- the tokens are nested, and the outermost expressions are such a row
pub record Parted (s c e : Bool) (w : List Marked) : Type 0 where
  pub nested : Nested
  pub flat : w ≡ flat nested
  pub row : Row s c e (outermost_expressions nested)

abbrev pub Parts : List Marked → Type 0
Parts w = (n : Nested) × (w ≡ flat n) × AllByRecursion IsOneAtMost (outermost_expressions n)

pub parts_of : {s c e : Bool} {w : List Marked} → Parted s c e w → Parts w
parts_of f = (f.nested, f.flat, f.row.each)

-- less is said
pub weaker : (s c e s' c' e' : Bool) {w : List Marked} → (s' ≡ true → s ≡ true) → (c' ≡ true → c ≡ true) → (e' ≡ true → e ≡ true) → Parted s c e w → Parted s' c' e' w
weaker s c e s' c' e' f g h p = record { nested = p.nested; flat = p.flat; row = record { each = p.row.each; starts = λ k. p.row.starts (f k); parted = λ k. p.row.parted (g k); ends = λ k. p.row.ends (h k) } }

pub together : (s c e s' c' e' : Bool) (v w u : List Marked) → u ≡ v ++ w → (e || s') ≡ true → Parted s c e v → Parted s' c' e' w → Parted (s && (c || s')) (c || c') (e' && (c' || e)) u
together s c e s' c' e' v w u is h f g = record {
  nested = follow f.nested g.nested;
  flat = is ∙ ap (λ x. x ++ w) f.flat ∙ ap (λ x. flat f.nested ++ x) g.flat ∙ sym (flat_follow f.nested g.nested);
  row = subst (λ xs. Row (s && (c || s')) (c || c') (e' && (c' || e)) xs) (sym (outermost_follow f.nested g.nested))
      (glue_rows s c e s' c' e' (first_expression f.nested) (other_expressions f.nested) (first_expression g.nested) (other_expressions g.nested) f.row g.row h);
}

nothing_is_names : IsNames nothing
nothing_is_names = ([], refl)

pub empty_parted : Parted true false true []
empty_parted = record { nested = nothing; flat = refl; row = record { each = (inl nothing_is_names, tt); starts = λ k. nothing_is_names; parted = λ k. cc; ends = λ k. refl } }

quiet_parted : (t : Token) → Parted true false false (marked (stays role.Quiet) t ∷ [])
quiet_parted t = let one : IsNames (token quiet t nothing) = (t ∷ [], refl) in record { nested = token quiet t nothing; flat = refl; row = record { each = (inl one, tt); starts = λ k. one; parted = λ k. cc; ends = λ k. cc } }

-- stands in no expression
abbrev pub cuts : Role → Bool
cuts role.Outside = true
cuts role.Fresh = true
cuts role.Part = true
cuts _ = false

two_empty : Row true true true (nothing ∷ nothing ∷ [])
two_empty = record { each = (inl nothing_is_names, (inl nothing_is_names, tt)); starts = λ k. nothing_is_names; parted = λ k. refl; ends = λ k. refl }

cut_parted : (m : Role) (t : Token) → cuts m ≡ true → Parted true true true (marked (stays m) t ∷ [])
cut_parted role.Outside t h = record { nested = token outside t nothing; flat = refl; row = two_empty }
cut_parted role.Fresh t h = record { nested = token fresh t nothing; flat = refl; row = two_empty }
cut_parted role.Part t h = record { nested = token part t nothing; flat = refl; row = two_empty }
cut_parted _ t h = cc

-- ---- rules without expressions, other than in brackets

-- what stands in brackets of no expression
abbrev pub is_open : {A : Type 0} → Name A → Bool
is_open name.subquery = true
is_open name.expression = true
is_open name.row = true
is_open name.table_arguments = true
is_open name.sizes = true
is_open name.name_list = true
is_open name.columns = true
is_open name.key_columns = true
is_open name.index_columns = true
is_open name.module_arguments = true
is_open name.balanced = true
is_open name.word = true
is_open _ = false

abbrev pub may_stand : Role → Bool
may_stand role.Quiet = true
may_stand role.Outside = true
may_stand role.Fresh = true
may_stand role.Part = true
may_stand _ = false

abbrev pub may_hold : (A : Type 0) → Role → Name A → Role → Bool
may_hold A role.Opening n role.Closing = is_open n
may_hold A _ n _ = false

abbrev pub Inside : (A : Type 0) → Name A → List Marked → Type 0
Inside A n w = is_open n ≡ true → Parts w

plain_single : (m : Role) (t : Token) → may_stand m ≡ true → Parted true false false (marked (stays m) t ∷ [])
plain_single role.Quiet t h = quiet_parted t
plain_single role.Outside t h = weaker true true true true false false (λ k. refl) (λ k. refl) (λ k. refl) (cut_parted role.Outside t refl)
plain_single role.Fresh t h = weaker true true true true false false (λ k. refl) (λ k. refl) (λ k. refl) (cut_parted role.Fresh t refl)
plain_single role.Part t h = weaker true true true true false false (λ k. refl) (λ k. refl) (λ k. refl) (cut_parted role.Part t refl)
plain_single _ t h = cc

plain_around : (A : Type 0) (m : Role) (n : Name A) (k : Role) (t z : Token) (w : List Marked) → may_hold A m n k ≡ true → Inside A n w → Parted true false false (marked (opens m) t ∷ (w ++ marked (closes k) z ∷ []))
plain_around A role.Opening n role.Closing t z w h inside =
    let f = inside h in
    record {
      nested = bracket of_others t f.0 z nothing;
      flat = ap (λ v. marked (opens role.Opening) t ∷ (v ++ marked (closes role.Closing) z ∷ [])) f.1;
      row = record { each = (inl nothing_is_names, each_append IsOneAtMost (outermost_expressions f.0) (nothing ∷ []) f.2 (inl nothing_is_names, tt)); starts = λ k. nothing_is_names; parted = λ k. cc; ends = λ k. cc };
    }
plain_around A _ n _ t z w h inside = cc

builds_plain : Builds Name may_stand may_hold (Parted true false false) Inside
builds_plain = record {
  none = weaker true false true true false false (λ k. refl) (λ k. k) (λ k. refl) empty_parted;
  both = λ v w f g. together true false false true false false v w (v ++ w) refl refl f g;
  single = plain_single;
  around = plain_around;
}

-- ---- rules

pub record Keeps (depth : ℕ) {A : Type 0} (s c e : Bool) (r : Of A) : Type 0 where
  pub by : (w : List Marked) (a : A) → derives Name rules depth r w a → Parted s c e w

abbrev D : ℕ → {A : Type 0} → Of A → Lang A
D depth r = derives Name rules depth r

module _ {depth : ℕ} where
  pub plain : {A : Type 0} {r : Of A} → ((A : Type 0) (n : Name A) (w : List Marked) (a : A) → nested Name rules depth A n w a → Inside A n w) → has_roles may_stand may_hold r ≡ true → Keeps depth true false false r
  plain {r} inside h = record { by = rule_law Name rules may_stand may_hold (Parted true false false) Inside builds_plain (nested Name rules depth) inside r h }

  pub expression : Keeps depth false false false expr
  expression = record { by = go } where
    go : (w : List Marked) (a : Expr) → D depth expr w a → Parted false false false w
    go w a d =
        let n = expression_nested depth w a d in
        let one : IsOneAtMost n.0 = inr (depth, w, a, [], d, sym (append-nil w ∙ n.1)) in
        record { nested = n.0; flat = n.1; row = record { each = subst (λ xs. AllByRecursion IsOneAtMost xs) (sym n.2) (one, tt); starts = λ k. cc; parted = λ k. cc; ends = λ k. cc } }

  pub said_less : {A : Type 0} {r : Of A} {s c e : Bool} → Keeps depth s c e r → Keeps depth false false false r
  said_less {s} {c} {e} f = record { by = λ w a d. weaker s c e false false false (λ k. cc) (λ k. cc) (λ k. cc) (f.by w a d) }

  pub starts_with_names : {A : Type 0} {r : Of A} {c e : Bool} → Keeps depth true c e r → Keeps depth true false false r
  starts_with_names {c} {e} f = record { by = λ w a d. weaker true c e true false false (λ k. refl) (λ k. cc) (λ k. cc) (f.by w a d) }

  pub cut : {m : Role} {ks : Kinds} → cuts m ≡ true → Keeps depth true true true (tok m ks)
  cut {m} h = record { by = λ w a d. subst (λ v. Parted true true true v) (sym d.0) (cut_parted m a h) }

  pub none : {A : Type 0} {x : A} → Keeps depth true false true (pure x)
  none = record { by = λ w a d. subst (λ v. Parted true false true v) (sym d.0) empty_parted }

  pub either : {A : Type 0} {r t : Of A} {s c e s' c' e' : Bool} → Keeps depth s c e r → Keeps depth s' c' e' t → Keeps depth (s && s') (c && c') (e && e') (alt r t)
  either {A} {r} {t} {s} {c} {e} {s'} {c'} {e'} f g = record { by = go } where
    go : (w : List Marked) (a : A) → D depth (alt r t) w a → Parted (s && s') (c && c') (e && e') w
    go w a d = elim d [
      | inl p ↦ weaker s c e (s && s') (c && c') (e && e') (λ k. let q = and_true s _ k in q.0) (λ k. let q = and_true c _ k in q.0) (λ k. let q = and_true e _ k in q.0) (f.by w a p)
      | inr p ↦ weaker s' c' e' (s && s') (c && c') (e && e') (λ k. let q = and_true s _ k in q.1) (λ k. let q = and_true c _ k in q.1) (λ k. let q = and_true e _ k in q.1) (g.by w a p)
    ]

  pub makes : {A B : Type 0} {h : A → B} {r : Of A} {s c e : Bool} → Keeps depth s c e r → Keeps depth s c e (to h r)
  makes f = record { by = λ w b d. f.by w d.0 d.1 }

  pub makes_over : {A B : Type 0} {h : A → List Token → B} {r : Of A} {s c e : Bool} → Keeps depth s c e r → Keeps depth s c e (over h r)
  makes_over f = record { by = λ w b d. f.by w d.0 d.1 }

  pub both : {A B : Type 0} {r : Of A} {t : Of B} {s c e s' c' e' : Bool} → (e || s') ≡ true → Keeps depth s c e r → Keeps depth s' c' e' t → Keeps depth (s && (c || s')) (c || c') (e' && (c' || e)) (seq r t)
  both {s} {c} {e} {s'} {c'} {e'} h f g = record { by = λ w a d. together s c e s' c' e' d.0 d.1 w d.2 h (f.by d.0 a.0 d.3) (g.by d.1 a.1 d.4) }

  -- what comes second follows from the first
  pub forks : {A B : Type 0} {r : Of A} {test : A → Bool} {t u : Of B} {s c e s' c' e' : Bool} → (e || s') ≡ true → Keeps depth s c e r → Keeps depth s' c' e' t → Keeps depth s' c' e' u → Keeps depth (s && (c || s')) (c || c') (e' && (c' || e)) (fork r test t u)
  forks {A} {B} {r} {test} {t} {u} {s} {c} {e} {s'} {c'} {e'} h f g k = record { by = λ w a d. together s c e s' c' e' d.0 d.1 w d.2 h (f.by d.0 a.0 d.3) (picked (test a.0) d.1 a.1 d.4) } where
    picked : (b : Bool) (w : List Marked) (x : B) → pick b (D depth t) (D depth u) w x → Parted s' c' e' w
    picked true w x d = g.by w x d
    picked false w x d = k.by w x d

  pub turns : {A : Type 0} {r : Of A} {c e : Bool} → Keeps depth true c e r → Keeps depth true false false (many r)
  turns {A} {r} {c} {e} f = record { by = go false } where
    go : (b : Bool) (w : List Marked) (found : List A) → Loop (λ b. D depth r) (λ a. false) b w found → Parted true false false w
    go b w [] d = subst (λ v. Parted true false false v) (sym d) (weaker true false true true false false (λ k. refl) (λ k. k) (λ k. refl) empty_parted)
    go b w (a ∷ found) d =
        let first = weaker true c e true false false (λ k. refl) (λ k. cc) (λ k. cc) (f.by d.0 a d.3) in
        together true false false true false false d.0 d.1 w d.2 refl first (go (b || false) d.1 found d.4)

  -- ---- words of grammars

  pub behind : {A : Type 0} {m : Role} {k : TokenKind} {r : Of A} {s c e : Bool} → cuts m ≡ true → Keeps depth s c e r → Keeps depth true true (e && (c || true)) (after m k r)
  behind h f = makes (both refl (cut h) f)

  pub may_be : {A : Type 0} {r : Of A} {s c e : Bool} → Keeps depth s c e r → Keeps depth (s && true) (c && false) (e && true) (maybe r)
  may_be f = either (makes f) none

  pub listed : {A : Type 0} {r : Of A} → Keeps depth false false false r → Keeps depth false false false (list_of r)
  listed f = said_less (makes (both refl f (turns (behind refl f))))

  pub alike : {A : Type 0} {r t : Of A} {s c e : Bool} → Alike Name rules r t → Keeps depth s c e t → Keeps depth s c e r
  alike x f = record { by = λ w a d. f.by w a (x.there depth w a d) }
