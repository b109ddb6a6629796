-- The tokens of a query are one query, with as many parts as its tree has.
use Rattle.std.proofs.Common.{◌≡◌, ◌∙◌, ℕ, ◌+◌, ◌||◌, Bool, true, false, List, [], ◌∷◌, ◌++◌, length, map, Option, None, refl, sym, subst, ap, arith, rules as steps, inl, inr}
use Rattle.std.proofs.lemmas.List.{length-map}
use Rattle.sql_tree.specs.Layers.{of_query}
use Rattle.sql_tree.specs.declared.expr.Expr.{the_lemmas}
use Rattle.sql_tree.specs.declared.query.CommonTable.{CommonTable}
use Rattle.sql_tree.specs.declared.query.CompoundPart.{CompoundPart}
use Rattle.sql_tree.specs.declared.query.OrderingTerm.{OrderingTerm}
use Rattle.sql_tree.specs.declared.query.Query.{Query}
use Rattle.sql_tree.specs.declared.query.QueryPart.{QueryPart}
use Rattle.sql_tree.specs.declared.query.RowLimit.{RowLimit}
use Rattle.sql_tree.specs.declared.token.Token.{Token}
use Rattle.sql_grammar.specs.declared.counts.Role.{Role}
use Rattle.sql_grammar.specs.declared.counts.Role.TheVariants as role
use Rattle.sql_grammar.specs.Bodies.{rules}
use Rattle.sql_grammar.specs.Grammar.{Name, Of, list_of}
use Rattle.sql_grammar.specs.Marks.{stays, opens, closes, Marked, marked}
use Rattle.sql_grammar.specs.Queries.{common_tables, select_core, one_row, core, compound_op, compound_part, ends_in_select, ordering, Parts, Ordering, query_of, query, all_query_rules}
use Rattle.sql_grammar.specs.Rules.{Loop, derives, nested, pick, pure}
use Rattle.sql_limits.specs.Limits as limits
use Rattle.sql_limits.specs.Limits.{first_query}
use Rattle.sql_limits.specs.Nestings.{quiet, operator, outside, fresh, part, of_expression, of_others, Nested, nothing, token, bracket, flat}
use Rattle.sql_limits.proofs.Nests.{IsNested, follow, flat_follow, inner_nested, may_enclose}
use Rattle.sql_limits.proofs.Shapes.{has_roles, Builds, rule_law}

-- one query, of so many parts
pub record OfParts (k : ℕ) (w : List Marked) : Type 0 where
  pub nested : Nested
  pub flat : w ≡ flat nested
  pub one : first_query nested ≡ nested
  pub parts : limits.parts nested ≡ k

one_query_follows : (m n : Nested) → first_query m ≡ m → first_query n ≡ n → first_query (follow m n) ≡ follow m n
one_query_follows nothing n h k = k
one_query_follows (token quiet t m) n h k = let tail : first_query m ≡ m = cc in ap (λ x. token quiet t x) (one_query_follows m n tail k)
one_query_follows (token operator t m) n h k = let tail : first_query m ≡ m = cc in ap (λ x. token operator t x) (one_query_follows m n tail k)
one_query_follows (token outside t m) n h k = let tail : first_query m ≡ m = cc in ap (λ x. token outside t x) (one_query_follows m n tail k)
one_query_follows (token fresh t m) n h k = cc
one_query_follows (token part t m) n h k = let tail : first_query m ≡ m = cc in ap (λ x. token part t x) (one_query_follows m n tail k)
one_query_follows (bracket b t i z m) n h k = let tail : first_query m ≡ m = cc in ap (λ x. bracket b t i z x) (one_query_follows m n tail k)

parts_follow : (m n : Nested) → limits.parts (follow m n) ≡ limits.parts m + limits.parts n
parts_follow nothing n = omega arith
parts_follow (token quiet t m) n = parts_follow m n
parts_follow (token operator t m) n = parts_follow m n
parts_follow (token outside t m) n = parts_follow m n
parts_follow (token fresh t m) n = parts_follow m n
parts_follow (token part t m) n = let h = parts_follow m n in omega arith
parts_follow (bracket b t i z m) n = parts_follow m n

together : (j k l : ℕ) (v w u : List Marked) → l ≡ j + k → u ≡ v ++ w → OfParts j v → OfParts k w → OfParts l u
together j k l v w u sum is f g = record {
  nested = follow f.nested g.nested;
  flat = is ∙ ap (λ x. x ++ w) f.flat ∙ ap (λ x. flat f.nested ++ x) g.flat ∙ sym (flat_follow f.nested g.nested);
  one = one_query_follows f.nested g.nested f.one g.one;
  parts = (let s = parts_follow f.nested g.nested in let a = f.parts in let b = g.parts in omega arith);
}

none_of_parts : OfParts 0 []
none_of_parts = record { nested = nothing; flat = refl; one = refl; parts = refl }

-- ---- what has none

abbrev may_stay_in_a_part : Role → Bool
may_stay_in_a_part role.Quiet = true
may_stay_in_a_part role.Operator = true
may_stay_in_a_part role.Outside = true
may_stay_in_a_part _ = false

single_of_none : (m : Role) (t : Token) → may_stay_in_a_part m ≡ true → OfParts 0 (marked (stays m) t ∷ [])
single_of_none role.Quiet t y = record { nested = token quiet t nothing; flat = refl; one = refl; parts = refl }
single_of_none role.Operator t y = record { nested = token operator t nothing; flat = refl; one = refl; parts = refl }
single_of_none role.Outside t y = record { nested = token outside t nothing; flat = refl; one = refl; parts = refl }
single_of_none _ t y = cc

bracket_of_none : (A : Type 0) (m : Role) (n : Name A) (k : Role) (t z : Token) (w : List Marked) → may_enclose A m n k ≡ true → IsNested w → OfParts 0 (marked (opens m) t ∷ (w ++ marked (closes k) z ∷ []))
bracket_of_none A role.Inward n role.Outward t z w y h = record { nested = bracket of_expression t h.0 z nothing; flat = ap (λ v. marked (opens role.Inward) t ∷ (v ++ marked (closes role.Outward) z ∷ [])) h.1; one = refl; parts = refl }
bracket_of_none A role.Opening n role.Closing t z w y h = record { nested = bracket of_others t h.0 z nothing; flat = ap (λ v. marked (opens role.Opening) t ∷ (v ++ marked (closes role.Closing) z ∷ [])) h.1; one = refl; parts = refl }
bracket_of_none A _ n _ t z w y h = cc

builds_none : Builds Name may_stay_in_a_part may_enclose (OfParts 0) (λ A n. IsNested)
builds_none = record {
  none = none_of_parts;
  both = λ v w f g. together 0 0 0 v w (v ++ w) refl refl f g;
  single = single_of_none;
  around = bracket_of_none;
}

others_of : (tables : List CommonTable) (p : Parts × Ordering) → (of_query (query_of tables p)).others ≡ map (λ x. x.1) p.0.1
others_of tables p = search (steps, the_lemmas)

module _ (depth : ℕ) where
  has_none : {A : Type 0} (r : Of A) → has_roles may_stay_in_a_part may_enclose r ≡ true → (w : List Marked) (a : A) → derives Name rules depth r w a → OfParts 0 w
  has_none r h w a d = rule_law Name rules may_stay_in_a_part may_enclose (OfParts 0) (λ A n. IsNested) builds_none (nested Name rules depth) (inner_nested depth) r h w a d

  -- ---- parts

  begins_part : (t : Token) (v w u : List Marked) → v ≡ marked (stays role.Part) t ∷ [] → u ≡ v ++ w → OfParts 0 w → OfParts 1 u
  begins_part t v w u is whole f = together 1 0 1 v w u refl whole (record { nested = token part t nothing; flat = is; one = refl; parts = refl }) f

  core_parts : (w : List Marked) (x : Bool × QueryPart) → derives Name rules depth core w x → OfParts 1 w
  unfolding all_query_rules
  core_parts w x d = elim d [
    | inl s ↦ (let f = s.1.1 in begins_part s.1.0.0 f.0 f.1 w f.3.0 f.2 (has_none select_core refl f.1 s.1.0.1 f.4))
    | inr s ↦ (let f = s.1.1 in begins_part s.1.0.0 f.0 f.1 w f.3.0 f.2 (has_none (list_of one_row) refl f.1 s.1.0.1 f.4))
  ]

  compound_parts : (w : List Marked) (x : Bool × CompoundPart) → derives Name rules depth compound_part w x → OfParts 1 w
  unfolding all_query_rules
  compound_parts w x d = let f = d.1 in together 0 1 1 f.0 f.1 w refl f.2 (has_none compound_op refl f.0 d.0.0 f.3) (core_parts f.1 d.0.1 f.4)

  all_parts : (b : Bool) (w : List Marked) (xs : List (Bool × CompoundPart)) → Loop (λ c. derives Name rules depth compound_part) (λ a. false) b w xs → OfParts (length xs) w
  all_parts b w [] d = subst (λ v. OfParts 0 v) (sym d) none_of_parts
  all_parts b w (x ∷ xs) d = together 1 (length xs) (length (x ∷ xs)) d.0 d.1 w (omega arith) d.2 (compound_parts d.0 x d.3) (all_parts (b || false) d.1 xs d.4)

  picked : (b : Bool) (w : List Marked) (x : List OrderingTerm × Option RowLimit) → pick b (derives Name rules depth ordering) (derives Name rules depth (pure ([], None))) w x → OfParts 0 w
  unfolding all_query_rules
  picked true w x d = has_none ordering refl w x d
  picked false w x d = subst (λ v. OfParts 0 v) (sym d.0) none_of_parts

  pub query_parts : (w : List Marked) (q : Query) → derives Name rules depth query w q → (n : Nested) × (w ≡ flat n) × (first_query n ≡ n) × (limits.parts n ≡ 1 + length (of_query q).others)
  unfolding all_query_rules
  query_parts w q d =
      let top = d.1 in
      let ordered = top.4 in
      let all = ordered.3 in
      let many = length d.0.1.0.1 in
      let first = core_parts all.0 d.0.1.0.0 all.3 in
      let more = all_parts false all.1 d.0.1.0.1 all.4 in
      let found = together 1 many (1 + many) all.0 all.1 ordered.0 refl all.2 first more in
      let behind = together (1 + many) 0 (1 + many) ordered.0 ordered.1 top.1 (omega arith) ordered.2 found (picked (ends_in_select d.0.1.0) ordered.1 d.0.1.1 ordered.4) in
      let whole = together 0 (1 + many) (1 + many) top.0 top.1 w (omega arith) top.2 (has_none common_tables refl top.0 d.0.0 top.3) behind in
      let others = ap (λ x. length (of_query x).others) d.2 ∙ ap length (others_of d.0.0 d.0.1) ∙ length-map d.0.1.0.1 (λ x. x.1) in
      (whole.nested, whole.flat, whole.one, whole.parts ∙ ap (λ k. 1 + k) (sym others))
