use Rattle.std.proofs.Common.{rules, ◌≡◌, ◌-◌, ap, ◌∙◌, sym, refl, nat_cmp}
use Rattle.std.specs.Ordering.{ordering_then}
use Rattle.std.specs.Cmp.Lexicographic.{slice_cmp}
use Rattle.std.specs.Prelude.{drop, take, length}
use Rattle.std.specs.declared.cmp.Ordering.{Ordering}
use Rattle.std.specs.declared.cmp.Ordering.TheVariants.{Less, Equal, Greater}
use Rattle.eng_tree.specs.Prefix.{worth}
use Rattle.eng_tree.proofs.Prefixes.{by_prefix, left_behind}
use Rattle.eng_tree.proofs.entry.order_of.Goals as goal

unequal_decides : (o rest : Ordering) → (o ≡ Equal → ⊥) → o ≡ ordering_then o rest
unequal_decides Less rest differs = refl
unequal_decides Equal rest differs = absurd (differs refl)
unequal_decides Greater rest differs = refl

pub returns-in-Equal : goal.returns-in-Equal
returns-in-Equal c =
    let key = c.args.key.now in
    let other = c.args.other.now in
    let long = c.if-key-lt8.false in
    let other_long = c.if-other-lt8.false in
    let whole = by_prefix 8 key other (search rules) (search rules) long other_long in
    let same = c.cmp-2.ensures ∙ ap (λ p. nat_cmp p c.args.other_prefix) (c.requires.own long) ∙ ap (λ p. nat_cmp (worth 8 c.args.key.now) p) (c.requires.other other_long) in
    c.cmp-in-Equal.ensures
    ∙ ap (λ l. slice_cmp nat_cmp l (take (length other - 8) (drop 8 other))) (left_behind 8 key)
    ∙ ap (λ l. slice_cmp nat_cmp (drop 8 key) l) (left_behind 8 other)
    ∙ ap (λ o. ordering_then o (slice_cmp nat_cmp (drop 8 key) (drop 8 other))) (sym c.in-Equal.is ∙ same)
    ∙ sym whole

pub returns-in_default : goal.returns-in_default
returns-in_default c =
    let key = c.args.key.now in
    let other = c.args.other.now in
    let long = c.if-key-lt8.false in
    let other_long = c.if-other-lt8.false in
    let whole = by_prefix 8 key other (search rules) (search rules) long other_long in
    let same = c.cmp-2.ensures ∙ ap (λ p. nat_cmp p c.args.other_prefix) (c.requires.own long) ∙ ap (λ p. nat_cmp (worth 8 c.args.key.now) p) (c.requires.other other_long) in
    unequal_decides c.cmp-2.result (slice_cmp nat_cmp (drop 8 key) (drop 8 other)) c.in_default.not-Equal
    ∙ ap (λ o. ordering_then o (slice_cmp nat_cmp (drop 8 key) (drop 8 other))) same
    ∙ sym whole
