-- What is made of a text up to its first `old`, and of one with none.
use Rattle.std.proofs.Common.{◌≡◌, ℕ, zero, suc, ◌-◌, ◌<◌, ◌≤◌, List, [], ◌∷◌, ◌++◌, Option, Some, None, MatchOption, length, take, drop, false, refl, ap, arith}
use Rattle.std.proofs.lemmas.Bool.{false_from_ne_true}
use Rattle.std.proofs.Math.Seq.{drop-append_seam}
use Rattle.std.specs.Option.{option_map}
use Rattle.std.specs.Str.Pattern.{FindsText, LacksTextAt, SplitsAroundMatch}
use denote.Ref.{Bor}
use Rattle.eng_text.specs.Replacing.{IsAroundFirst}
use Rattle.eng_text.specs.Texts.{begins, replaced, replaced_behind}
use Rattle.eng_text.proofs.FindLaws.{begins-append, begins-true}

lacks : (old bytes : List ℕ) → LacksTextAt old bytes 0 → begins old bytes ≡ false
lacks old bytes h = false_from_ne_true (begins old bytes) (λ e. h _ (begins-true old bytes e))

behind-none : (old new bytes : List ℕ) → ((i : ℕ) → i ≤ length bytes → LacksTextAt old bytes i) → replaced_behind old new zero bytes ≡ bytes
behind-none old new [] h = refl
behind-none old new (b ∷ bytes) h =
    rw (lacks old (b ∷ bytes) (h 0 (omega arith))) (ap (λ bs. b ∷ bs) (behind-none old new bytes (λ i le. h (suc i) (omega arith))))

-- nothing changes where no `old` stands
pub replaced-none : (old new bytes : List ℕ) → ((i : ℕ) → i ≤ length bytes → LacksTextAt old bytes i) → replaced old new bytes ≡ bytes
replaced-none [] new bytes h = refl
replaced-none (o ∷ old) new bytes h = behind-none (o ∷ old) new bytes h

pub behind-skip : (old new : List ℕ) (skip : ℕ) (bytes : List ℕ) → replaced_behind old new skip bytes ≡ replaced_behind old new zero (drop skip bytes)
behind-skip old new zero bytes = refl
behind-skip old new (suc skip) [] = refl
behind-skip old new (suc skip) (b ∷ bytes) = behind-skip old new skip bytes

-- up to where the bytes begin with `old`, they stay
behind-first : (o : ℕ) (old new rest : List ℕ) (i : ℕ) (bytes : List ℕ) → ((k : ℕ) → k < i → LacksTextAt (o ∷ old) bytes k) → drop i bytes ≡ (o ∷ old) ++ rest → replaced_behind (o ∷ old) new zero bytes ≡ take i bytes ++ (new ++ replaced_behind (o ∷ old) new zero rest)
behind-first o old new rest zero bytes none is =
    let size : length (o ∷ old) - 1 ≡ length old = omega arith in
    rw (is, begins-append (o ∷ old) rest, size, behind-skip (o ∷ old) new (length old) (old ++ rest), drop-append_seam old rest) refl
behind-first o old new rest (suc i) [] none is = absurd (omega (arith, ap length is))
behind-first o old new rest (suc i) (b ∷ bytes) none is =
    rw (lacks (o ∷ old) (b ∷ bytes) (none 0 (omega arith))) (ap (λ bs. b ∷ bs) (behind-first o old new rest i bytes (λ k lt. none (suc k) (omega arith)) is))

pub replaced-first : (old new rest : List ℕ) (i : ℕ) (bytes : List ℕ) → 0 < length old → ((k : ℕ) → k < i → LacksTextAt old bytes k) → drop i bytes ≡ old ++ rest → replaced old new bytes ≡ take i bytes ++ (new ++ replaced old new rest)
replaced-first [] new rest i bytes some none is = absurd (omega arith)
replaced-first (o ∷ old) new rest i bytes some none is = behind-first o old new rest i bytes none is

pub IsAroundFirst-split : (old bytes : List ℕ) (parts : Option (Bor (List ℕ) × Bor (List ℕ))) → 0 < length old → MatchOption parts (FindsText old bytes None) (λ p. SplitsAroundMatch (FindsText old) bytes p.0.now p.1.now) → IsAroundFirst old bytes (option_map (λ p. (p.0.now, p.1.now)) parts)
IsAroundFirst-split old bytes None some none = λ new. replaced-none old new bytes none
IsAroundFirst-split old bytes (Some p) some (i, j, finds, front, behind, le, in_front, in_all) = (
  λ new. rw (front, behind) (replaced-first old new (drop j bytes) i bytes some finds.0 finds.1.split),
  omega (arith, finds.1.ends),
)
