-- The factored rule of queries derives what the written one does: parts with an operator behind each but the last, or in front of each but the first.
use Rattle.std.proofs.Common.{◌≡◌, ℕ, Bool, true, false, List, [], ◌∷◌, ◌++◌, map, if◌then◌else◌, Some, None, refl, sym, ◌∙◌, ap, subst, append_assoc, append-nil}
use Rattle.sql_tree.specs.declared.query.CompoundOp.{CompoundOp}
use Rattle.sql_tree.specs.declared.query.CompoundPart.{CompoundPart, roll-CompoundPart}
use Rattle.sql_tree.specs.declared.query.QueryPart.{QueryPart}
use Rattle.sql_tree.specs.declared.query.QueryPart.TheVariants as part_is
use Rattle.sql_tree.specs.Kinds.{same_kind}
use Rattle.sql_tree.specs.declared.expr.Expr.{Expr}
use Rattle.sql_tree.specs.declared.query.RowLimit.{RowLimit, roll-RowLimit}
use Rattle.sql_tree.specs.declared.token.Token.{Token}
use Rattle.sql_tree.specs.declared.token.TokenKind.TheVariants as kind
use Rattle.sql_grammar.specs.declared.counts.Role.TheVariants as role
use Rattle.sql_grammar.specs.Marks.{Marked}
use Rattle.sql_grammar.specs.Rules.{Lang, Loop, To, Fork, pick, tok, pure, seq, fork, alt, many, to, derives}
use Rattle.sql_grammar.specs.Grammar.{Name, Of, after, expr}
use Rattle.sql_grammar.specs.Bodies.{rules}
use Rattle.sql_grammar.specs.Queries.{select, values, core, compound_part, Parts, parts, second_limit, row_limit, last_of, ends_in_select, Ordering, ordering, ordered_parts, query}
use Rattle.sql_grammar.specs.Written as written
use Rattle.sql_grammar.proofs.Alike.{same, turned, ◌⊳◌, in_seq, in_to, in_alt, in_many, to_to, to_left, to_right, to_alt, alt_turned, pure_right, alt_left, alt_right, fork_or, tok_or, to_kind, many_to}
use Rattle.sql_grammar.proofs.FactoredExpressions.{◌≈◌, maybe_right}

abbrev Core : Type 0
Core = Bool × QueryPart

abbrev compound : CompoundOp → QueryPart → CompoundPart
compound o p = roll-CompoundPart (record { op = o; part = p })

-- with the operator in front
abbrev with_operator : CompoundOp × Core → Bool × CompoundPart
with_operator p = (p.1.0, compound p.0 p.1.1)

-- without whether it is SELECT
abbrev stripped : Core × CompoundOp → QueryPart × CompoundOp
stripped p = (p.0.1, p.1)

abbrev others_of : List (Bool × CompoundPart) → List CompoundPart
others_of ps = map (λ x. x.1) ps

there_joins : (x o c v y us vs w x1 : List Marked) → x1 ≡ (o ++ c) ++ v → c ++ (v ++ y) ≡ us ++ vs → x ++ (x1 ++ y) ≡ ((x ++ o) ++ us) ++ vs
there_joins x o c v y us vs w x1 e f =
    ap (λ (z : List Marked). x ++ (z ++ y)) e
    ∙ ap (λ (z : List Marked). x ++ z) (ap (λ (z : List Marked). z ++ y) (append_assoc o c v) ∙ append_assoc o (c ++ v) y ∙ ap (λ (z : List Marked). o ++ z) (append_assoc c v y ∙ f))
    ∙ sym (append_assoc x o (us ++ vs)) ∙ sym (append_assoc (x ++ o) us vs)

back_joins : (x o v y r1 r2 ry us : List Marked) → us ≡ (x ++ o) ++ v → v ++ y ≡ (r1 ++ r2) ++ ry → us ++ y ≡ (x ++ ((o ++ r1) ++ r2)) ++ ry
back_joins x o v y r1 r2 ry us e f =
    ap (λ (z : List Marked). z ++ y) e
    ∙ append_assoc (x ++ o) v y ∙ ap (λ (z : List Marked). (x ++ o) ++ z) f ∙ append_assoc x o ((r1 ++ r2) ++ ry)
    ∙ ap (λ (z : List Marked). x ++ z) (sym (append_assoc o (r1 ++ r2) ry) ∙ ap (λ (z : List Marked). z ++ ry) (sym (append_assoc o r1 r2)))
    ∙ sym (append_assoc x ((o ++ r1) ++ r2) ry)

-- from the languages of parts and of operators, and of what comes behind a SELECT and behind VALUES
module _ {B : Type 0} (part : Lang Core) (op : Lang CompoundOp) (t u : Lang B) where
  abbrev Turns : {A : Type 0} → Lang A → Lang (List A)
  Turns l = Loop (λ b. l) (λ a. false) false

  abbrev Last : Lang (Core × B)
  Last = Fork part (λ a. pick a.0 t u)

  pub behind_each : (b : B) (ps : List (Bool × CompoundPart)) (c : Core) (x x1 y : List Marked) → part x c → Turns (To with_operator (Fork op (λ o. part))) x1 ps → pick (last_of c.0 ps) t u y b
      → (found : List (Core × CompoundOp)) × (z : Core) × (us vs : List Marked) × (x ++ (x1 ++ y) ≡ us ++ vs) × Turns (Fork part (λ p. op)) us found × Last vs (z, b) × (written.in_turn (map stripped found) z.1 ≡ (c.1, others_of ps))
  behind_each b [] c x x1 y p l k = ([], c, [], x ++ (x1 ++ y), refl, refl, (x, y, ap (λ (z : List Marked). x ++ (z ++ y)) l, p, k), refl)
  behind_each b (q ∷ ps) c x x1 y p l k =
      let h = l.3 in
      let r = behind_each b ps h.0.1 h.1.1 l.1 y h.1.4 l.4 (subst (λ (v : Bool × CompoundPart). pick (last_of v.0 ps) t u y b) h.2 k) in (
        (c, h.0.0) ∷ r.0,
        r.1,
        (x ++ h.1.0) ++ r.2,
        r.3,
        there_joins x h.1.0 h.1.1 l.1 y r.2 r.3 [] x1 (l.2 ∙ ap (λ (z : List Marked). z ++ l.1) h.1.2) r.4,
        (x ++ h.1.0, r.2, refl, (x, h.1.0, refl, p, h.1.3), r.5),
        r.6,
        ap (λ (v : QueryPart × List CompoundPart). (c.1, compound h.0.0 v.0 ∷ v.1)) r.7 ∙ ap (λ (v : Bool × CompoundPart). (c.1, v.1 ∷ others_of ps)) (sym h.2),
      )

  pub in_front_of_each : (b : B) (found : List (Core × CompoundOp)) (z : Core) (us vs : List Marked) → Turns (Fork part (λ p. op)) us found → Last vs (z, b)
      → (c : Core) × (ps : List (Bool × CompoundPart)) × (x x1 y : List Marked) × (us ++ vs ≡ (x ++ x1) ++ y) × part x c × Turns (To with_operator (Fork op (λ o. part))) x1 ps × pick (last_of c.0 ps) t u y b × (written.in_turn (map stripped found) z.1 ≡ (c.1, others_of ps))
  in_front_of_each b [] z us vs l k = (z, [], k.0, [], k.1, ap (λ (v : List Marked). v ++ vs) l ∙ k.2 ∙ ap (λ (v : List Marked). v ++ k.1) (sym (append-nil k.0)), k.3, refl, k.4, refl)
  in_front_of_each b (g ∷ found) z us vs l k =
      let r = in_front_of_each b found z l.1 vs l.4 k in (
        g.0,
        (r.0.0, compound g.1 r.0.1) ∷ r.1,
        l.3.0,
        (l.3.1 ++ r.2) ++ r.3,
        r.4,
        back_joins l.3.0 l.3.1 l.1 vs r.2 r.3 r.4 us (l.2 ∙ ap (λ (v : List Marked). v ++ l.1) l.3.2) r.5,
        l.3.3,
        (l.3.1 ++ r.2, r.3, refl, ((g.1, r.0), (l.3.1, r.2, refl, l.3.4, r.6), refl), r.7),
        r.8,
        ap (λ (v : QueryPart × List CompoundPart). (g.0.1, compound g.1 v.0 ∷ v.1)) r.9,
      )

abbrev kept : {B : Type 0} → Parts × B → (QueryPart × List CompoundPart) × B
kept p = ((p.0.0.1, others_of p.0.1), p.1)

abbrev arranged : {B : Type 0} → List (Core × CompoundOp) × (Core × B) → (QueryPart × List CompoundPart) × B
arranged p = (written.in_turn (map stripped p.0) p.1.0.1, p.1.1)

operators_shift : {B : Type 0} {c : Of Core} {o : Of CompoundOp} {t u : Of B} → to kept (fork (seq c (many (to with_operator (seq o c)))) ends_in_select t u) ≈ to arranged (seq (many (seq c o)) (fork c (λ p. p.0) t u))
operators_shift {B} {c} {o} {t} {u} = record {
  there = λ d w p l.
      let k = l.1 in
      let q = behind_each (derives Name rules d c) (derives Name rules d o) (derives Name rules d t) (derives Name rules d u) l.0.1 l.0.0.1 l.0.0.0 k.3.0 k.3.1 k.1 k.3.3 k.3.4 k.4 in
      ((q.0, (q.1, l.0.1)), (q.2, q.3, k.2 ∙ ap (λ (z : List Marked). z ++ k.1) k.3.2 ∙ append_assoc k.3.0 k.3.1 k.1 ∙ q.4, q.5, q.6), l.2 ∙ ap (λ (z : QueryPart × List CompoundPart). (z, l.0.1)) (sym q.7));
  back = λ d w p l.
      let k = l.1 in
      let q = in_front_of_each (derives Name rules d c) (derives Name rules d o) (derives Name rules d t) (derives Name rules d u) l.0.1.1 l.0.0 l.0.1.0 k.0 k.1 k.3 k.4 in
      (((q.0, q.1), l.0.1.1), (q.2 ++ q.3, q.4, k.2 ∙ q.5, (q.2, q.3, refl, q.6, q.7), q.8), l.2 ∙ ap (λ (z : QueryPart × List CompoundPart). (z, l.0.1.1)) q.9);
}

-- ---- the last part

abbrev of_select : Of Core
of_select = to (λ s. (true, part_is.Select s)) select

abbrev of_values : Of Core
of_values = to (λ v. (false, part_is.Values v)) values

tells_select : (d : ℕ) (w : List Marked) (p : Core) → derives Name rules d of_select w p → p.0 ≡ true
tells_select d w p l = ap (λ (q : Core). q.0) l.2

tells_values : (d : ℕ) (w : List Marked) (p : Core) → derives Name rules d of_values w p → p.0 ≡ false
tells_values d w p l = ap (λ (q : Core). q.0) l.2

abbrev part_alone : Core × Ordering → QueryPart × Ordering
part_alone p = (p.0.1, p.1)

last_core_is : written.last_core ≈ to part_alone (fork core (λ p. p.0) ordering (pure ([], None)))
unfolding written.last_core core
last_core_is = alt_turned ⊳ turned (in_to _ (fork_or tells_select tells_values ⊳ in_alt to_left (pure_right ⊳ to_to)) ⊳ to_alt ⊳ in_alt to_to to_to)

core_is : written.core ≈ to (λ (p : Core). p.1) core
unfolding written.core core
core_is = turned (to_alt ⊳ in_alt to_to to_to)

-- ---- queries

parts_are : to kept ordered_parts ≈ written.ordered_parts
unfolding ordered_parts parts compound_part written.ordered_parts
parts_are =
    operators_shift
    ⊳ turned (in_to _ (in_seq (in_many (in_seq core_is same ⊳ to_left) ⊳ many_to) last_core_is ⊳ to_left ⊳ in_to _ to_right ⊳ to_to) ⊳ to_to)

pub query_is : query ≈ written.query
unfolding query written.query
query_is = turned (in_to _ (in_seq same (turned parts_are) ⊳ to_right) ⊳ to_to)

-- ---- LIMIT

abbrev is_comma : Token → Bool
is_comma t = same_kind t.kind kind.Comma

abbrev limited : Expr × (Bool × Expr) → RowLimit
limited p = if p.1.0 then roll-RowLimit (record { count = p.1.1; offset = Some p.0 }) else roll-RowLimit (record { count = p.0; offset = Some p.1.1 })

second_by_kind : seq (to is_comma (tok role.Outside (kind.Offset ∷ kind.Comma ∷ []))) expr ≈ alt (to (λ x. (false, x)) (after role.Outside kind.Offset expr)) (to (λ x. (true, x)) (after role.Outside kind.Comma expr))
second_by_kind =
    in_seq (in_to _ tok_or ⊳ to_alt ⊳ in_alt (to_kind {g = λ t. false} (λ t h. rw h refl)) (to_kind {g = λ t. true} (λ t h. rw h refl))) same
    ⊳ alt_left ⊳ in_alt (to_left ⊳ turned to_to) (to_left ⊳ turned to_to)

pub row_limit_is : row_limit ≈ written.row_limit
unfolding row_limit second_limit written.row_limit
row_limit_is =
    in_to _ maybe_right ⊳ to_alt ⊳ in_alt (to_to ⊳ turned (in_to limited (in_seq same to_left ⊳ to_right) ⊳ to_to)) to_to
    ⊳ in_alt (in_to _ (in_seq same second_by_kind ⊳ alt_right ⊳ in_alt to_right to_right) ⊳ to_alt ⊳ in_alt to_to to_to) same
    ⊳ alt_turned
