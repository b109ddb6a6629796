-- An opening token, where so many nestings may still be opened.
use Rattle.std.proofs.Common.{◌≡◌, ℕ, zero, suc, ◌<◌, ◌≤◌, nat_eq, true, false, List, [], ◌∷◌, refl, arith}
use Rattle.std.proofs.Math.Dec.{eqb-suc-zero}
use Rattle.sql_tree.specs.declared.token.Token.{Token}
use Rattle.sql_grammar.specs.declared.counts.Counts.{Counts}
use Rattle.sql_grammar.specs.declared.counts.Limit.TheVariants as limit
use Rattle.sql_grammar.specs.declared.counts.Role.{Role}
use Rattle.sql_grammar.specs.Rules.{Kinds, starts, opening, one, Stop, Wrong, Over}
use Rattle.sql_grammar.proofs.ReadingLaws.{other, chosen}

pub opening_some : (d : ℕ) (m : Role) (ks : Kinds) (c : Counts) (ts : List Token) → 0 < d → opening d m ks c ts ≡ one m ks c ts
opening_some zero m ks c ts h = absurd (omega arith)
opening_some (suc d) m ks c [] h = refl
opening_some (suc d) m ks c (t ∷ ts) h = let some : nat_eq (suc d) 0 ≡ false = eqb-suc-zero d in rw some refl

pub opening_past : (d : ℕ) (m : Role) (ks : Kinds) (c : Counts) (ts : List Token) → d ≤ 0 → starts ks ts ≡ true → opening d m ks c ts ≡ Stop (Over limit.Nestings) ts
opening_past zero m ks c [] h here = cc here
opening_past zero m ks c (t ∷ ts) h here = chosen _ _ _ here
opening_past (suc d) m ks c ts h here = absurd (omega arith)

pub opening_wrong : (d : ℕ) (m : Role) (ks : Kinds) (c : Counts) (ts : List Token) → d ≤ 0 → starts ks ts ≡ false → opening d m ks c ts ≡ Stop Wrong ts
opening_wrong zero m ks c [] h none = refl
opening_wrong zero m ks c (t ∷ ts) h none = other _ _ _ none
opening_wrong (suc d) m ks c ts h none = absurd (omega arith)

pub ruleset openings = (opening_some, opening_past, opening_wrong)
