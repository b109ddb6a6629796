-- Terms that are compared.
use Rattle.std.proofs.Common.{◌≡◌, List, [], ◌∷◌, Bool, true, false, ◌&&◌, refl, ap, ap₂, arith}
use lib.Pointwise.{pointwise}
use Rattle.eng_index.specs.contracts.key_term.KeyTermPartialEq.TheImpl.{eq-value as term_eq}
use Rattle.eng_index.specs.contracts.key_term.TermSourcePartialEq.TheImpl.{eq-value as source_eq}
use Rattle.eng_index.specs.declared.key_term.KeyTerm.{KeyTerm}
use Rattle.eng_index.specs.declared.key_term.TermSource.{TermSource}
use Rattle.eng_index.specs.declared.key_term.TermSource.TheVariants.{Rowid, Column}
use Rattle.eng_value.specs.contracts.built.BuiltPartialEq.TheImpl.{eq-value as built_eq}
use Rattle.eng_value.specs.declared.built.Built.{Built}
use Rattle.eng_value.specs.declared.built.Built.TheVariants.{Binary, NoCase, Rtrim}
use Rattle.std.specs.contracts.prelude.BoolPartialEq.TheImpl as bools

both : (s t : Bool) → (s && t) ≡ true → (s ≡ true) × (t ≡ true)
both true t h = (refl, h)
both false t h = absurd (cc)

same_source : (a b : TermSource) → source_eq.it a b ≡ true → a ≡ b
same_source Rowid Rowid h = refl
same_source Rowid (Column d) h = absurd (cc)
same_source (Column c) Rowid h = absurd (cc)
same_source (Column c) (Column d) h = ap Column (grind (arith, h))

same_collation : (a b : Built) → built_eq.it a b ≡ true → a ≡ b
same_collation Binary Binary h = refl
same_collation Binary NoCase h = absurd (cc)
same_collation Binary Rtrim h = absurd (cc)
same_collation NoCase Binary h = absurd (cc)
same_collation NoCase NoCase h = refl
same_collation NoCase Rtrim h = absurd (cc)
same_collation Rtrim Binary h = absurd (cc)
same_collation Rtrim NoCase h = absurd (cc)
same_collation Rtrim Rtrim h = refl

same_bool : (a b : Bool) → (bools.ghosts).eq a b ≡ true → a ≡ b
same_bool true true h = refl
same_bool true false h = absurd (cc)
same_bool false true h = absurd (cc)
same_bool false false h = refl

same_term : (a b : KeyTerm) → term_eq.it a b ≡ true → a ≡ b
same_term a b h =
    let parts = both (source_eq.it a.source b.source) (built_eq.it a.collation b.collation && (bools.ghosts).eq a.descending b.descending) h in
    let rest = both (built_eq.it a.collation b.collation) ((bools.ghosts).eq a.descending b.descending) parts.1 in
    let source = same_source a.source b.source parts.0 in
    let collation = same_collation a.collation b.collation rest.0 in
    let descending = same_bool a.descending b.descending rest.1 in
    λ i. record { source = source i; collation = collation i; descending = descending i }

pub same_terms : (xs ys : List KeyTerm) → pointwise term_eq.it xs ys ≡ true → xs ≡ ys
same_terms [] [] h = refl
same_terms [] (y ∷ ys) h = absurd (cc)
same_terms (x ∷ xs) [] h = absurd (cc)
same_terms (x ∷ xs) (y ∷ ys) h =
    let parts = both (term_eq.it x y) (pointwise term_eq.it xs ys) h in
    ap₂ (λ a l. a ∷ l) (same_term x y parts.0) (same_terms xs ys parts.1)
