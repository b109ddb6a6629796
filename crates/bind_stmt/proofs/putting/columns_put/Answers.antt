use Rattle.std.proofs.Common.{◌≡◌, ◌<◌, ◌+◌, ◌++◌, ℕ, suc, Bool, false, List, [], ◌∷◌, length, get_or, drop, drop-cons, reverse, Option, None, add-one, append_assoc, sym, ap, ◌∙◌}
use Rattle.std.proofs.lemmas.List.{drop-drop}
use Rattle.bound_tree.specs.Exprs.{BoundExpr}
use Rattle.sql_meaning.specs.Running.{columns_put, first_or}
use Rattle.sql_meaning.specs.declared.bound.PutColumn.{PutColumn}
use Rattle.sql_meaning.specs.declared.column.Column.{Column}
use Rattle.bind_stmt.proofs.putting.columns_put.Goals as goal

-- what the next column takes, and those behind it
columns_put-drop : (columns : List Column) (places : List (Option ℕ)) (defaults : List (Option BoundExpr)) (marks : List Bool) (i : ℕ) (c : Column) → i < length columns → c ≡ get_or columns i c
    → columns_put (drop i columns) (drop i places) defaults (drop i marks)
    ≡ record { affinity = c.affinity; place = first_or None (drop i places); default = first_or None defaults; not_null = first_or false (drop i marks) } ∷ columns_put (drop (i + 1) columns) (drop (i + 1) places) (drop 1 defaults) (drop (i + 1) marks)
columns_put-drop columns places defaults marks i c lt is =
    let first : PutColumn = record { affinity = c.affinity; place = first_or None (drop i places); default = first_or None defaults; not_null = first_or false (drop i marks) } in
    ap (λ cs. columns_put cs (drop i places) defaults (drop i marks)) (drop-cons columns i c lt ∙ ap (λ d. d ∷ drop (suc i) columns) (sym is) ∙ ap (λ n. c ∷ drop n columns) (sym (add-one i)))
    ∙ ap (λ ps. first ∷ columns_put (drop (i + 1) columns) ps (drop 1 defaults) (drop 1 (drop i marks))) (drop-drop 1 i places)
    ∙ ap (λ ms. first ∷ columns_put (drop (i + 1) columns) (drop (i + 1) places) (drop 1 defaults) ms) (drop-drop 1 i marks)

pub loop-i-preserved : goal.loop-i-preserved
loop-i-preserved c =
    let i = c.loop-i.i in
    let column = c.index-columns-i.result in
    let columns = c.args.columns.now in
    let places = c.args.places.now in
    let marks = c.args.not_nulls.now in
    let found = c.loop-i.found in
    let put : Option ℕ → Option BoundExpr → Bool → List (Option BoundExpr) → List PutColumn = λ place default mark behind.
    record { affinity = column.affinity; place = place; default = default; not_null = mark } ∷ columns_put (drop (i + 1) columns) (drop (i + 1) places) behind (drop (i + 1) marks) in
    let place = c.place_at.result in
    let default = c.next_default.result in
    let mark = c.is_set.result in
    let before = reverse c.loop-i.defaults in
    let behind = reverse c.next_default.new.defaults in
    ap (λ f. f ++ columns_put (drop (i + 1) columns) (drop (i + 1) places) behind (drop (i + 1) marks)) c.in_ok-push.ensures.ok
    ∙ append_assoc found (record { affinity = column.affinity; place = place; default = default; not_null = mark } ∷ []) _
    ∙ ap (λ p. found ++ put p default mark behind) c.place_at.ensures
    ∙ ap (λ d. found ++ put (first_or None (drop i places)) d mark behind) c.next_default.ensures.default
    ∙ ap (λ m. found ++ put (first_or None (drop i places)) (first_or None before) m behind) c.is_set.ensures
    ∙ ap (λ ds. found ++ put (first_or None (drop i places)) (first_or None before) (first_or false (drop i marks)) ds) c.next_default.ensures.rest
    ∙ ap (λ ps. found ++ ps) (sym (columns_put-drop columns places before marks i column c.loop-i-test.true c.index-columns-i.is))
    ∙ c.loop-i.invariant
