-- The first place of a text in another by characters and by bytes: no character begins within another.
use Rattle.std.proofs.Common.{◌≡◌, ℕ, zero, suc, ◌+◌, ◌<◌, ◌≤◌, Bool, true, false, ◌==◌, cond, List, [], ◌∷◌, ◌++◌, Option, Some, None, length, take, drop, refl, sym, ap, ◌∙◌, arith, length-append}
use Rattle.std.proofs.lemmas.Bool.{eq-eqb, ne_eqb, ltb-true, and_parts, and_from}
use Rattle.std.proofs.lemmas.List.{append_assoc, take-append-drop, length-take-le}
use Rattle.std.proofs.lemmas.Str.{cons_from_encodes, chars-encodes, encodes-append, encodes-chars, scalars-chars}
use Rattle.std.specs.Option.{option_map}
use Rattle.std.specs.Prelude.{encode_utf8, encode_utf8_all, if◌then◌else◌, ◌/◌}
use Rattle.std.specs.Str.{IsUtf8, chars}
use Rattle.eng_text.specs.Texts.{begins, place_of}
use Rattle.eng_text.proofs.FindLaws.{begins-append, begins-true}
use lib.Dec.{ltb}
use lib.Utf8.{encode, next, scalar, scalars}

-- ---- what a list of characters begins with

same_test : (a b : Bool) → (a ≡ true → b ≡ true) → (b ≡ true → a ≡ true) → a ≡ b
same_test true b there back = sym (there refl)
same_test false true there back = back refl
same_test false false there back = refl

begins-spelled : (ds cs rest : List ℕ) → encode_utf8_all cs ≡ encode_utf8_all ds ++ rest → begins ds cs ≡ true
begins-spelled [] cs rest is = refl
begins-spelled (d ∷ ds) cs rest is =
    let next = cons_from_encodes cs (encode_utf8_all ds ++ rest) d (is ∙ append_assoc (encode_utf8 d) (encode_utf8_all ds) rest) in
    rw (next.1, eq-eqb d d refl) (begins-spelled ds next.0 rest next.2)

begins-encodes : (ds cs : List ℕ) → begins (encode_utf8_all ds) (encode_utf8_all cs) ≡ begins ds cs
begins-encodes ds cs =
    same_test _ _ (λ h. begins-spelled ds cs _ (begins-true _ _ h))
    (λ h. rw (begins-true ds cs h, encodes-append ds (drop (length ds) cs)) (begins-append (encode_utf8_all ds) _))

-- ---- the bytes of a character

-- the first byte of a character, and the others
abbrev IsLead : ℕ → Type 0
IsLead b = 128 ≤ b → 192 ≤ b

abbrev Follow : List ℕ → Type 0
Follow [] = Unit {0}
Follow (b ∷ bs) = (128 ≤ b) × (b < 192) × Follow bs

record Spelling (bytes : List ℕ) : Type 0 where
  first : ℕ
  others : List ℕ
  is : bytes ≡ first ∷ others
  leads : IsLead first
  follow : Follow others

either : (b : Bool) (xs ys : List ℕ) → (b ≡ true → Spelling xs) → (b ≡ false → Spelling ys) → Spelling (cond b xs ys)
either true xs ys h k = h refl
either false xs ys h k = k refl

next_follows : (x : ℕ) → (128 ≤ next x) × (next x < 192)
next_follows x = (omega arith, omega arith)

spelling : (c : ℕ) → Spelling (encode_utf8 c)
unfolding encode
spelling c =
    let one = next_follows c in
    let two = next_follows (c / 64) in
    let three = next_follows (c / 4096) in
    either (ltb c 128) _ _ (λ small. let low = ltb-true c 128 small in record { first = c; others = []; is = refl; leads = λ h. absurd (omega arith); follow = tt })
    (λ h. either (ltb c 2048) _ _ (λ h. record { first = 192 + c / 64; others = next c ∷ []; is = refl; leads = λ k. omega arith; follow = (one.0, one.1, tt) })
    (λ h. either (ltb c 65536) _ _ (λ h. record { first = 224 + c / 4096; others = next (c / 64) ∷ next c ∷ []; is = refl; leads = λ k. omega arith; follow = (two.0, two.1, (one.0, one.1, tt)) })
    (λ h. record { first = 240 + c / 262144; others = next (c / 4096) ∷ next (c / 64) ∷ next c ∷ []; is = refl; leads = λ k. omega arith; follow = (three.0, three.1, (two.0, two.1, (one.0, one.1, tt))) })))

-- ---- the first place

later : (r : Option ℕ) (n : ℕ) → option_map suc (option_map (λ k. n + k) r) ≡ option_map (λ k. suc n + k) r
later None n = refl
later (Some k) n = let same : suc (n + k) ≡ suc n + k = omega arith in ap Some same

here : (r : Option ℕ) → r ≡ option_map (λ k. 0 + k) r
here None = refl
here (Some k) = let same : k ≡ 0 + k = omega arith in ap Some same

-- no character begins at a byte that follows in one
place-past_others : (lead : ℕ) (needle others rest : List ℕ) → IsLead lead → Follow others → place_of (lead ∷ needle) (others ++ rest) ≡ option_map (λ k. length others + k) (place_of (lead ∷ needle) rest)
place-past_others lead needle [] rest leads follow = here (place_of (lead ∷ needle) rest)
place-past_others lead needle (b ∷ bs) rest leads follow =
    let other : (lead == b) ≡ false = ne_eqb lead b (λ same. absurd (omega (arith, leads (omega arith)))) in
    rw other (ap (option_map suc) (place-past_others lead needle bs rest leads follow.2) ∙ later (place_of (lead ∷ needle) rest) (length bs))

-- how many bytes the first so many characters take
abbrev pub bytes_of_front : List ℕ → ℕ → ℕ
bytes_of_front cs n = length (encode_utf8_all (take n cs))

past_char : (c first : ℕ) (others cs : List ℕ) (r : Option ℕ) → encode_utf8 c ≡ first ∷ others
    → option_map suc (option_map (λ k. length others + k) (option_map (bytes_of_front cs) r)) ≡ option_map (bytes_of_front (c ∷ cs)) (option_map suc r)
past_char c first others cs None is = refl
past_char c first others cs (Some n) is =
    let same : suc (length others + bytes_of_front cs n) ≡ bytes_of_front (c ∷ cs) (suc n) = omega (arith, length-append (encode_utf8 c) (encode_utf8_all (take n cs)), ap length is) in
    ap Some same

none_or_first : (b : Bool) (r s : Option ℕ) (g : ℕ → ℕ) → g 0 ≡ 0 → (b ≡ false → r ≡ option_map g s) → (if b then Some 0 else r) ≡ option_map g (if b then Some 0 else s)
none_or_first true r s g zero_is h = ap Some (sym zero_is)
none_or_first false r s g zero_is h = h refl

place-nothing : (hay : List ℕ) → place_of [] hay ≡ Some 0
place-nothing [] = refl
place-nothing (b ∷ hay) = refl

place-cons : (needle hay : List ℕ) (b : ℕ) (rest : List ℕ) → hay ≡ b ∷ rest → place_of needle hay ≡ (if begins needle hay then Some 0 else option_map suc (place_of needle rest))
place-cons needle hay b rest is = rw is refl

spelling-before : (bytes rest : List ℕ) → Spelling bytes → (lead : ℕ) × (others : List ℕ) × IsLead lead × (bytes ++ rest ≡ lead ∷ others)
spelling-before bytes rest s = (s.first, s.others ++ rest, s.leads, ap (λ (t : List ℕ). t ++ rest) s.is)

pub place-encodes : (ds cs : List ℕ) → place_of (encode_utf8_all ds) (encode_utf8_all cs) ≡ option_map (bytes_of_front cs) (place_of ds cs)
place-encodes ds [] = rw (begins-encodes ds []) (none_or_first (begins ds []) None None (bytes_of_front []) refl (λ h. refl))
place-encodes [] (c ∷ cs) = place-nothing (encode_utf8_all (c ∷ cs))
place-encodes (d ∷ ds) (c ∷ cs) =
    let needle = encode_utf8_all (d ∷ ds) in
    let rest = encode_utf8_all cs in
    let s = spelling c in
    let lead = spelling-before (encode_utf8 d) (encode_utf8_all ds) (spelling d) in
    let past : place_of needle (s.others ++ rest) ≡ option_map (λ k. length s.others + k) (place_of needle rest) = rw lead.3 (place-past_others lead.0 lead.1 s.others rest lead.2 s.follow) in
    place-cons needle (encode_utf8_all (c ∷ cs)) s.first (s.others ++ rest) (ap (λ (t : List ℕ). t ++ rest) s.is)
    ∙ ap (λ (b : Bool). if b then Some 0 else option_map suc (place_of needle (s.others ++ rest))) (begins-encodes (d ∷ ds) (c ∷ cs))
    ∙ none_or_first (begins (d ∷ ds) (c ∷ cs)) _ _ (bytes_of_front (c ∷ cs)) refl (λ other.
    ap (option_map suc) (past ∙ ap (option_map (λ k. length s.others + k)) (place-encodes (d ∷ ds) cs)) ∙ past_char c s.first s.others cs (place_of (d ∷ ds) cs) s.is)

-- ---- for the code

scalars-parts : (n : ℕ) (cs : List ℕ) → scalars cs ≡ true → (scalars (take n cs) ≡ true) × (scalars (drop n cs) ≡ true)
scalars-parts zero cs h = (refl, h)
scalars-parts (suc n) [] h = (refl, refl)
scalars-parts (suc n) (c ∷ cs) h =
    let both = and_parts (scalar c) (scalars cs) h in
    let rest = scalars-parts n cs both.1 in
    (and_from (scalar c) (scalars (take n cs)) both.0 rest.0, rest.1)

begins-length : (needle bytes : List ℕ) → begins needle bytes ≡ true → length needle ≤ length bytes
begins-length needle bytes h = omega (arith, ap length (begins-true needle bytes h), length-append needle (drop (length needle) bytes))

was_some : {A B : Type 0} (r : Option A) (g : A → B) (b : B) → option_map g r ≡ Some b → (a : A) × (r ≡ Some a) × (g a ≡ b)
was_some None g b h = absurd (cc)
was_some (Some a) g b h = (a, refl, cc)

was_none : {A B : Type 0} (r : Option A) (g : A → B) → option_map g r ≡ None → r ≡ None
was_none None g h = refl
was_none (Some a) g h = absurd (cc)

fits : (b : Bool) (needle bytes : ℕ) (r : Option ℕ) (n : ℕ) → (b ≡ true → needle ≤ bytes) → ((m : ℕ) → r ≡ Some m → m + needle ≤ bytes) → (if b then Some 0 else r) ≡ Some n → n + needle ≤ bytes
fits true needle bytes r n first more h = let same : 0 ≡ n = cc in omega (arith, first refl)
fits false needle bytes r n first more h = more n h

-- the needle ends within the bytes
pub place-fits : (needle hay : List ℕ) (n : ℕ) → place_of needle hay ≡ Some n → n + length needle ≤ length hay
place-fits needle [] n h = fits (begins needle []) (length needle) 0 None n (λ e. begins-length needle [] e) (λ m e. absurd (cc)) h
place-fits needle (b ∷ hay) n h =
    fits (begins needle (b ∷ hay)) (length needle) (length (b ∷ hay)) (option_map suc (place_of needle hay)) n (λ e. begins-length needle (b ∷ hay) e)
    (λ m e. let found = was_some (place_of needle hay) suc m e in let within = place-fits needle hay found.0 found.1 in omega (arith, within, found.2)) h

-- a needle that was found by its bytes
pub record FoundBehind (text needle : List ℕ) (n : ℕ) : Type 0 where
  pub front : List ℕ
  pub rest : List ℕ
  pub split : text ≡ front ++ rest
  pub len : length front ≡ n
  pub rest_utf8 : IsUtf8 rest
  pub place : place_of (chars needle) (chars text) ≡ Some (length (chars front))

by_chars : (text needle : List ℕ) → IsUtf8 text → IsUtf8 needle → place_of needle text ≡ option_map (bytes_of_front (chars text)) (place_of (chars needle) (chars text))
by_chars text needle utf8 utf8_needle =
    ap (λ (t : List ℕ). place_of t text) (sym (encodes-chars needle utf8_needle))
    ∙ ap (place_of (encode_utf8_all (chars needle))) (sym (encodes-chars text utf8))
    ∙ place-encodes (chars needle) (chars text)

pub found : (text needle : List ℕ) (n : ℕ) → IsUtf8 text → IsUtf8 needle → place_of needle text ≡ Some n → FoundBehind text needle n
found text needle n utf8 utf8_needle h =
    let cs = chars text in
    let was = was_some (place_of (chars needle) cs) (bytes_of_front cs) n (sym (by_chars text needle utf8 utf8_needle) ∙ h) in
    let m = was.0 in
    let both = scalars-parts m cs (scalars-chars text utf8) in
    let within : m ≤ length cs = omega (arith, place-fits (chars needle) cs m was.1) in
    let size : m ≡ length (chars (encode_utf8_all (take m cs))) = sym (ap length (chars-encodes (take m cs) both.0) ∙ length-take-le m cs within) in
    record {
      front = encode_utf8_all (take m cs);
      rest = encode_utf8_all (drop m cs);
      split = sym (encodes-chars text utf8) ∙ ap encode_utf8_all (sym (take-append-drop m cs)) ∙ encodes-append (take m cs) (drop m cs);
      len = was.2;
      rest_utf8 = (drop m cs, (both.1, refl));
      place = was.1 ∙ ap Some size;
    }

pub not_found : (text needle : List ℕ) → IsUtf8 text → IsUtf8 needle → place_of needle text ≡ None → place_of (chars needle) (chars text) ≡ None
not_found text needle utf8 utf8_needle h = was_none (place_of (chars needle) (chars text)) (bytes_of_front (chars text)) (sym (by_chars text needle utf8 utf8_needle) ∙ h)

-- a place and 1 is no more than the length, but in what is empty
pub place_small : (needle hay : List ℕ) (n limit : ℕ) → place_of needle hay ≡ Some n → length hay < limit → 1 < limit → n + 1 < limit
place_small [] hay n limit h small more = let same : 0 ≡ n = cc (place-nothing hay) in omega (arith, same)
place_small (b ∷ needle) hay n limit h small more = let within = place-fits (b ∷ needle) hay n h in omega (arith, within)
