-- The front of nested tokens, with the brackets that are open at its end closed there.
use Rattle.std.proofs.Common.{◌≡◌, ◌∙◌, List, [], ◌∷◌, ◌++◌, ◌⊎◌, refl, sym, ap, append_assoc, append-nil, inl, inr}
use Rattle.sql_tree.specs.declared.token.Token.{Token}
use Rattle.sql_grammar.specs.Marks.{stays, opens, closes, Marked, marked}
use Rattle.sql_limits.specs.Fronts.{closed_by, Closed}
use Rattle.sql_limits.specs.Nestings.{Bracket, Nested, nothing, token, bracket, role_of, opening_of, closing_of, flat}

closed_append : (xs ys : List (Bracket × Token)) → closed_by (xs ++ ys) ≡ closed_by xs ++ closed_by ys
closed_append [] ys = refl
closed_append (x ∷ xs) ys = ap (λ w. marked (closes (closing_of x.0)) x.1 ∷ w) (closed_append xs ys)

-- two ways to cut a list
cuts : (v u a c : List Marked) → v ++ u ≡ a ++ c → ((w : List Marked) × (a ≡ v ++ w) × (u ≡ w ++ c)) ⊎ ((w : List Marked) × (v ≡ a ++ w) × (w ++ u ≡ c))
cuts [] u a c e = inl (a, refl, e)
cuts (x ∷ v) u [] c e = inr (x ∷ v, refl, e)
cuts (x ∷ v) u (y ∷ a) c e =
    let same : x ≡ y = cc in
    let tails : v ++ u ≡ a ++ c = cc in
    elim (cuts v u a c tails) [
      | inl f ↦ (let g = f.1 in inl (f.0, cc, f.2))
      | inr f ↦ (let g = f.1 in inr (f.0, cc, f.2))
    ]

pub front : (n : Nested) (v u : List Marked) → v ++ u ≡ flat n → (m : Nested) × Closed v m
front n [] u e = (nothing, ([], refl))
front nothing (x ∷ v) u e = cc
front (token s t n) (x ∷ v) u e =
    let same : x ≡ marked (stays (role_of s)) t = cc in
    let tails : v ++ u ≡ flat n = cc in
    let f = front n v u tails in
    (token s t f.0, (f.1.0, ap (λ y. y ∷ (v ++ closed_by f.1.0)) same ∙ ap (λ w. marked (stays (role_of s)) t ∷ w) f.1.1))
front (bracket b t i z n) (x ∷ v) u e = go (front i v) (front n) where
  go : ((w : List Marked) → v ++ w ≡ flat i → (m : Nested) × Closed v m) → ((y w : List Marked) → y ++ w ≡ flat n → (m : Nested) × Closed y m) → (m : Nested) × Closed (x ∷ v) m
  go f g =
      let same : x ≡ marked (opens (opening_of b)) t = cc in
      let tails : v ++ u ≡ flat i ++ marked (closes (closing_of b)) z ∷ flat n = cc in
      elim (cuts v u (flat i) (marked (closes (closing_of b)) z ∷ flat n) tails) [
        | inl p ↦ inside same (f p.0 (sym p.1))
        | inr p ↦ behind same p.0 p.1 p.2
      ]
    where
      inside : x ≡ marked (opens (opening_of b)) t → (m : Nested) × Closed v m → (m : Nested) × Closed (x ∷ v) m
      inside same h = (
        bracket b t h.0 z nothing,
        (
          h.1.0 ++ (b, z) ∷ [],
          ap (λ y. y ∷ (v ++ closed_by (h.1.0 ++ (b, z) ∷ []))) same
              ∙ ap (λ w. marked (opens (opening_of b)) t ∷ w) (ap (λ w. v ++ w) (closed_append h.1.0 ((b, z) ∷ [])) ∙ sym (append_assoc v (closed_by h.1.0) (marked (closes (closing_of b)) z ∷ [])) ∙ ap (λ w. w ++ marked (closes (closing_of b)) z ∷ []) h.1.1),
        ),
      )

      behind : x ≡ marked (opens (opening_of b)) t → (y : List Marked) → v ≡ flat i ++ y → y ++ u ≡ marked (closes (closing_of b)) z ∷ flat n → (m : Nested) × Closed (x ∷ v) m
      behind same [] whole e = inside same (i, ([], append-nil v ∙ whole ∙ append-nil (flat i)))
      behind same (y ∷ w) whole e =
          let here : y ≡ marked (closes (closing_of b)) z = cc in
          let rest : w ++ u ≡ flat n = cc in
          let h = g w u rest in (
            bracket b t i z h.0,
            (
              h.1.0,
              ap (λ a. a ∷ (v ++ closed_by h.1.0)) same
                  ∙ ap (λ a. marked (opens (opening_of b)) t ∷ a) (ap (λ a. a ++ closed_by h.1.0) (whole ∙ ap (λ a. flat i ++ a ∷ w) here) ∙ append_assoc (flat i) (marked (closes (closing_of b)) z ∷ w) (closed_by h.1.0) ∙ ap (λ a. flat i ++ marked (closes (closing_of b)) z ∷ a) h.1.1),
            ),
          )
