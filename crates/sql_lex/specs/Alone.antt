-- What a token is where its bytes stand alone.
use Rattle.std.specs.Prelude.{◌≡◌, ◌⊎◌, ℕ, suc, ◌-◌, List, [], ◌∷◌, map, Some, codes, refl}
use Rattle.sql_tree.specs.declared.token.Token.{Token}
use Rattle.sql_tree.specs.declared.token.TokenKind.TheVariants as kind
use Rattle.sql_lex.specs.Pieces.{word_kind}
use Rattle.sql_lex.specs.Tokens.{numbered, slice_of, tokens_of}

-- the token, in a text that begins with it
abbrev pub at_front : Token → Token
at_front t = record { kind = t.kind; span = record { start = 0; end = t.span.end - t.span.start }; parameter = t.parameter }

-- a parameter without a number, which has the next one behind some largest in front of it
abbrev pub IsUnnumbered : List ℕ → Token → Type 0
IsUnnumbered bytes t = (largest : ℕ) × (bytes ≡ codes "?") × (t ≡ numbered (suc largest) t.span.start 1)

-- the bytes of the token are a text of this token alone, unless they are `?`
abbrev pub IsItself : List ℕ → Token → Type 0
IsItself text t = (tokens_of (slice_of text t) ≡ at_front t ∷ []) ⊎ IsUnnumbered (slice_of text t) t

-- ---- examples

-- the tokens of each token's bytes alone, and each token alone
abbrev read_alone : List ℕ → List (List Token)
read_alone text = map (λ (t : Token). tokens_of (slice_of text t)) (tokens_of text)

abbrev each_alone : List ℕ → List (List Token)
each_alone text = map (λ (t : Token). at_front t ∷ []) (tokens_of text)

-- numbers that end early, a blob that is none, signs that could begin longer ones, a text that is not closed
same_alone : (read_alone (codes "1e+.5x'0'0xg") ≡ each_alone (codes "1e+.5x'0'0xg")) × (read_alone (codes "a<>-b|| ?7!'c") ≡ each_alone (codes "a<>-b|| ?7!'c"))
unfolding tokens_of word_kind
same_alone = (refl, refl)

-- alone `?` is the first parameter; behind 7 it is the eighth, and behind 999 none
unnumbered : (map (λ (t : Token). t.parameter) (tokens_of (codes "?7?")) ≡ Some 7 ∷ Some 8 ∷ []) × (map (λ (t : Token). t.kind) (tokens_of (codes "?999?")) ≡ kind.Parameter ∷ kind.Illegal ∷ []) × (tokens_of (codes "?") ≡ numbered 1 0 1 ∷ [])
unfolding tokens_of word_kind
unnumbered = (refl, refl, refl)
