use Rattle.std.proofs.Common.{◌≡◌, ◌<◌, ◌^◌, ◌-◌, refl, ℕ, List, Option, Some, length, take, sym, ap, ◌∙◌, arith, rules}
use Rattle.std.proofs.lemmas.List.{take_at}
use Rattle.std.proofs.lemmas.Str.{IsCharBoundary-at_seam}
use Rattle.std.specs.Str.{chars}
use Rattle.eng_text.specs.Texts.{place_of}
use Rattle.eng_value.specs.Functions.{number_of_place}
use Rattle.eng_scalar.proofs.PlaceLaws.{found, not_found, place_small}
use Rattle.eng_scalar.proofs.places.place_in_text.Goals as goal

-- what was found in the bytes was found in the texts
by_texts : (text needle hay part : List ℕ) (r s : Option ℕ) → r ≡ place_of part hay → hay ≡ text → part ≡ needle → r ≡ s → place_of needle text ≡ s
by_texts text needle hay part r s is is_text is_needle result = ap (λ (t : List ℕ). place_of t text) (sym is_needle) ∙ ap (place_of part) (sym is_text) ∙ sym is ∙ result

pub range-requires-clause-end_boundary : goal.range-requires-clause-end_boundary
range-requires-clause-end_boundary c =
    let place = by_texts c.args.text.now c.args.needle.now _ _ _ _ c.find.ensures c.as_bytes.ensures.value c.as_bytes-2.ensures.value c.in-Some.is in
    let h = found c.args.text.now c.args.needle.now c.in-Some.place c.utf8.text c.utf8.needle place in
    rw (← h.len) (IsCharBoundary-at_seam c.args.text.now h.front h.rest h.split h.rest_utf8)

pub number_of-requires : goal.number_of-requires
number_of-requires c =
    let place = by_texts c.args.text.now c.args.needle.now _ _ _ _ c.find.ensures c.as_bytes.ensures.value c.as_bytes-2.ensures.value c.in-Some.is in
    let small : length c.args.text.now < 2 ^ 63 = search rules in
    omega (arith, place_small c.args.needle.now c.args.text.now c.in-Some.place (2 ^ 63) place small (omega arith), c.count.ensures.short, c.range.ensures.len)

pub returns-in-Some : goal.returns-in-Some
returns-in-Some c =
    let place = by_texts c.args.text.now c.args.needle.now _ _ _ _ c.find.ensures c.as_bytes.ensures.value c.as_bytes-2.ensures.value c.in-Some.is in
    let h = found c.args.text.now c.args.needle.now c.in-Some.place c.utf8.text c.utf8.needle place in
    let size : c.in-Some.place - 0 ≡ length h.front = omega (arith, h.len) in
    let front : c.range.result.now ≡ h.front = c.range.ensures.value ∙ ap (λ (n : ℕ). take n c.args.text.now) size ∙ ap (λ (t : List ℕ). take (length h.front) t) h.split ∙ take_at h.front h.rest (length h.front) refl in
    let number : c.count.result ≡ length (chars h.front) = c.count.ensures.count ∙ ap (λ (t : List ℕ). length (chars t)) front in
    c.number_of.ensures ∙ ap (λ (n : ℕ). number_of_place (Some n)) number ∙ ap number_of_place (sym h.place)

pub returns-in-None : goal.returns-in-None
returns-in-None c =
    let place = by_texts c.args.text.now c.args.needle.now _ _ _ _ c.find.ensures c.as_bytes.ensures.value c.as_bytes-2.ensures.value c.in-None.is in
    sym (ap number_of_place (not_found c.args.text.now c.args.needle.now c.utf8.text c.utf8.needle place))
