use Rattle.std.proofs.Common.{◌≡◌, ◌+◌, rules}
use Rattle.bind_target.specs.Meant.{target_meant}
use Rattle.bind_target.proofs.PlaceLaws.{walk-first}
use Rattle.sql_bound.specs.Writes.{listed_place}
use Rattle.sql_words.specs.Spelled.{name_at}
use Rattle.bind_target.proofs.places.+put_places.Goals as goal

pub returns-in_ok-put_place-in-Some : goal.returns-in_ok-put_place-in-Some
returns-in_ok-put_place-in-Some t c =
    let more : c.args.room ≡ c.in-Some.room + 1 = search rules in
    rw (walk-first (listed_place (target_meant c.args.target.now)) (name_at c.args.text.now) c.args.tokens.now _ c.args.room c.in-Some.room c.args.places.now c.put_place.new.places c.in-len1-up.len_at_least more c.in_ok-put_place-in-Some.ensures)
    c.put_places.ensures
