-- How many bytes from a place on, by what stands there.
use Rattle.std.proofs.Common.{◌≡◌, ◌≢◌, ℕ, suc, ◌+◌, ◌<◌, ◌≤◌, Bool, true, false, cond, not, ◌&&◌, ◌==◌, List, [], ◌∷◌, length, get_or, take, drop, Option, Some, None, option_map, refl, ap, ◌∙◌, add-one, drop-cons, arith}
use Rattle.std.specs.List.{take_while, prefix_len, AllPass}
use Rattle.std.proofs.lemmas.List.Sums.{prefix_len_passes}
use Rattle.std.proofs.lemmas.List.Folds.{length-prefix_len}
use Rattle.std.proofs.lemmas.List.{get_or-take, drop-drop}
use Rattle.std.proofs.lemmas.Bool.Decides.{nat_tests}
use Rattle.sql_lex.specs.Pieces.{begins_with, comment_width, up_to, up_to_quote}
use Rattle.sql_lex.specs.Widths.{further}

pub when : {X : Type 0} (b : Bool) (x y : X) → b ≡ true → cond b x y ≡ x
when b x y e = ap (λ c. cond c x y) e

pub otherwise : {X : Type 0} (b : Bool) (x y : X) → b ≡ false → cond b x y ≡ y
otherwise b x y e = ap (λ c. cond c x y) e

-- as many from the front as pass there
pub take_length_take_while : {X : Type 0} (p : X → Bool) (xs : List X) → take (length (take_while p xs)) xs ≡ take_while p xs
take_length_take_while p xs = ap (λ n. take n xs) (length-prefix_len p xs)

-- each of them passes
pub AllPass-take_while : {X : Type 0} (p : X → Bool) (xs : List X) → AllPass p (take_while p xs)
AllPass-take_while p xs k d lt =
    let few : k < prefix_len p xs = omega (arith, length-prefix_len p xs) in
    rw (get_or-take (prefix_len p xs) xs k d few) (prefix_len_passes p xs k d few)

false-true : false ≡ true → ⊥
false-true e = (cc)

drop_twice : (bytes : List ℕ) (i : ℕ) → drop 1 (drop (i + 1) bytes) ≡ drop (i + 2) bytes
drop_twice bytes i = drop-drop 1 (i + 1) bytes ∙ ap (λ n. drop n bytes) (omega arith)

-- ---- comments

comment-more : (b : ℕ) (more : List ℕ) → (b == 42 && begins_with 47 more) ≡ false → comment_width (b ∷ more) ≡ suc (comment_width more)
comment-more b [] h = refl
comment-more b (c ∷ more) h = otherwise (b == 42 && c == 47) _ _ h

comment-here : (b : ℕ) (more : List ℕ) → (b == 42 && begins_with 47 more) ≡ true → comment_width (b ∷ more) ≡ 2
comment-here b [] h = grind arith
comment-here b (c ∷ more) h = when (b == 42 && c == 47) _ _ h

drop-here : (bytes : List ℕ) (i : ℕ) → i < length bytes → drop i bytes ≡ get_or bytes i 0 ∷ drop (i + 1) bytes
drop-here bytes i lt = rw (add-one, drop-cons bytes i 0)

pub comment_goes_on : (bytes : List ℕ) (i : ℕ) → i < length bytes → (get_or bytes i 0 == 42 && begins_with 47 (drop (i + 1) bytes)) ≡ false → comment_width (drop i bytes) ≡ suc (comment_width (drop (i + 1) bytes))
comment_goes_on bytes i lt h = ap comment_width (drop-here bytes i lt) ∙ comment-more (get_or bytes i 0) (drop (i + 1) bytes) h

pub comment_ends : (bytes : List ℕ) (i : ℕ) → i < length bytes → (get_or bytes i 0 == 42 && begins_with 47 (drop (i + 1) bytes)) ≡ true → comment_width (drop i bytes) ≡ 2
comment_ends bytes i lt h = ap comment_width (drop-here bytes i lt) ∙ comment-here (get_or bytes i 0) (drop (i + 1) bytes) h

-- ---- quotes

pub further_twice : (n m : ℕ) (o : Option ℕ) → further n (further m o) ≡ further (n + m) o
further_twice n m None = refl
further_twice n m (Some w) = ap Some (omega arith)

further-suc : (o : Option ℕ) → option_map suc o ≡ further 1 o
further-suc None = refl
further-suc (Some w) = ap Some (omega arith)

further-two : (o : Option ℕ) → option_map (λ n. suc (suc n)) o ≡ further 2 o
further-two None = refl
further-two (Some w) = ap Some (omega arith)

pub byte_other : (q : ℕ) (bytes : List ℕ) (i : ℕ) → i < length bytes → get_or bytes i 0 ≢ q → up_to q (drop i bytes) ≡ further 1 (up_to q (drop (i + 1) bytes))
byte_other q bytes i lt h =
    let no : (get_or bytes i 0 == q) ≡ false = grind (arith, nat_tests) in
    ap (up_to q) (drop-here bytes i lt) ∙ otherwise (get_or bytes i 0 == q) _ _ no ∙ further-suc (up_to q (drop (i + 1) bytes))

pub byte_here : (q : ℕ) (bytes : List ℕ) (i : ℕ) → i < length bytes → get_or bytes i 0 ≡ q → up_to q (drop i bytes) ≡ Some 1
byte_here q bytes i lt h =
    let same : (get_or bytes i 0 == q) ≡ true = grind (arith, nat_tests) in
    ap (up_to q) (drop-here bytes i lt) ∙ when (get_or bytes i 0 == q) _ _ same

quote-other : (q b : ℕ) (more : List ℕ) → b ≢ q → up_to_quote q (b ∷ more) ≡ further 1 (up_to_quote q more)
quote-other q b [] h = let no : (b == q) ≡ false = grind (arith, nat_tests) in otherwise (b == q) _ _ no
quote-other q b (c ∷ more) h = let no : not (b == q) ≡ true = grind (arith, nat_tests) in when (not (b == q)) _ _ no ∙ further-suc (up_to_quote q (c ∷ more))

quote-twice : (q b : ℕ) (more : List ℕ) → b ≡ q → begins_with q more ≡ true → up_to_quote q (b ∷ more) ≡ further 2 (up_to_quote q (drop 1 more))
quote-twice q b [] h g = absurd (false-true g)
quote-twice q b (c ∷ more) h g =
    let same : not (b == q) ≡ false = grind (arith, nat_tests) in
    otherwise (not (b == q)) _ _ same ∙ when (c == q) _ _ g ∙ further-two (up_to_quote q more)

quote-ends : (q b : ℕ) (more : List ℕ) → b ≡ q → begins_with q more ≡ false → up_to_quote q (b ∷ more) ≡ Some 1
quote-ends q b [] h g = let same : (b == q) ≡ true = grind (arith, nat_tests) in when (b == q) _ _ same
quote-ends q b (c ∷ more) h g =
    let same : not (b == q) ≡ false = grind (arith, nat_tests) in
    otherwise (not (b == q)) _ _ same ∙ otherwise (c == q) _ _ g

pub quote_other : (q : ℕ) (bytes : List ℕ) (i : ℕ) → i < length bytes → get_or bytes i 0 ≢ q → up_to_quote q (drop i bytes) ≡ further 1 (up_to_quote q (drop (i + 1) bytes))
quote_other q bytes i lt h = ap (up_to_quote q) (drop-here bytes i lt) ∙ quote-other q (get_or bytes i 0) (drop (i + 1) bytes) h

pub quote_twice : (q : ℕ) (bytes : List ℕ) (i : ℕ) → i < length bytes → get_or bytes i 0 ≡ q → begins_with q (drop (i + 1) bytes) ≡ true → up_to_quote q (drop i bytes) ≡ further 2 (up_to_quote q (drop (i + 2) bytes))
quote_twice q bytes i lt h g =
    ap (up_to_quote q) (drop-here bytes i lt)
    ∙ quote-twice q (get_or bytes i 0) (drop (i + 1) bytes) h g
    ∙ ap (λ xs. further 2 (up_to_quote q xs)) (drop_twice bytes i)

pub quote_ends : (q : ℕ) (bytes : List ℕ) (i : ℕ) → i < length bytes → get_or bytes i 0 ≡ q → begins_with q (drop (i + 1) bytes) ≡ false → up_to_quote q (drop i bytes) ≡ Some 1
quote_ends q bytes i lt h g = ap (up_to_quote q) (drop-here bytes i lt) ∙ quote-ends q (get_or bytes i 0) (drop (i + 1) bytes) h g

-- what begins with a byte is not empty
pub begins_has : (q : ℕ) (bytes : List ℕ) → begins_with q bytes ≡ true → 1 ≤ length bytes
begins_has q [] g = absurd (false-true g)
begins_has q (b ∷ bytes) g = omega arith
