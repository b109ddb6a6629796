-- Where tokens begin and end a text may be cut.
use Rattle.std.proofs.Common.{◌≡◌, ◌<◌, ◌≤◌, ◌+◌, ◌-◌, ℕ, List, [], ◌∷◌, length, length-drop, length-take, get_or, drop, All, ap, ◌∙◌, subst, arith}
use Rattle.std.specs.Str.{IsCharBoundary, IsUtf8}
use Rattle.std.proofs.lemmas.List.{get_or-drop, get_or-take}
use Rattle.std.proofs.lemmas.List.Elements.{All-cons, All-head, All-nil, All-tail}
use Rattle.std.proofs.lemmas.Str.{IsCharBoundary-from_rest, IsCharBoundary-from_take, IsCharBoundary-start, IsUtf8-drop, IsUtf8-from_is_utf8}
use Rattle.sql_tree.specs.declared.token.Token.{Token}
use Rattle.sql_lex.specs.Tokens.{InOrder, slice_of}
use Rattle.sql_lex.proofs.Following.{IsCut}

-- a token's place in a text, and its bytes
pub record Stands (text : List ℕ) (t : Token) : Type 0 where
  pub some : t.span.start < t.span.end
  pub within : t.span.end ≤ length text
  pub utf8 : IsUtf8 (slice_of text t)

order_within : (from end : ℕ) (ts : List Token) → InOrder from end ts → from ≤ end
order_within from end [] order = order
order_within from end (t ∷ ts) order = omega (arith, order.0, order.1, order_within t.span.end end ts order.2)

pub all_stand : (text : List ℕ) (from : ℕ) (ts : List Token) → InOrder from (length text) ts → All (IsCut text) ts → All (Stands text) ts
all_stand text from [] order cut = All-nil (Stands text)
all_stand text from (t ∷ ts) order cut =
    All-cons (Stands text) t ts
    (record { some = order.1; within = order_within t.span.end (length text) ts order.2; utf8 = IsUtf8-from_is_utf8 (slice_of text t) (All-head (IsCut text) t ts cut) })
    (all_stand text t.span.end ts order.2 (All-tail (IsCut text) t ts cut))

pub starts : (text : List ℕ) (t : Token) → Stands text t → IsCharBoundary text t.span.start
starts text t h =
    let at = IsCharBoundary-start (slice_of text t) h.utf8 in
    let first : get_or (slice_of text t) 0 0 ≡ get_or text t.span.start 0 = get_or-take (t.span.end - t.span.start) (drop t.span.start text) 0 0 (omega (arith, h.some)) ∙ get_or-drop t.span.start text 0 0 ∙ ap (λ n. get_or text n 0) (omega arith) in
    let some : 0 < length (slice_of text t) = omega (arith, h.some, h.within, length-take (t.span.end - t.span.start) (drop t.span.start text), length-drop t.span.start text) in
    (omega (arith, h.some, h.within), λ lt high. let top : 192 ≤ get_or (slice_of text t) 0 0 = at.1 some (omega (arith, first, high)) in omega (arith, first, top))

pub ends : (text : List ℕ) (t : Token) → IsUtf8 text → Stands text t → IsCharBoundary text t.span.end
ends text t utf8 h =
    let rest = drop t.span.start text in
    let long = length-drop t.span.start text in
    let back = IsCharBoundary-from_take rest (t.span.end - t.span.start) (IsUtf8-drop text t.span.start utf8 (starts text t h)) (omega (arith, h.some, h.within, long)) h.utf8 in
    let whole : t.span.start + (t.span.end - t.span.start) ≡ t.span.end = omega (arith, h.some) in
    subst (λ n. IsCharBoundary text n) whole (IsCharBoundary-from_rest text t.span.start (t.span.end - t.span.start) (omega (arith, h.some, h.within)) back)
