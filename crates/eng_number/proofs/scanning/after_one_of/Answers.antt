use Rattle.std.proofs.Common.{◌≡◌, ◌∷◌, true, false, sym, ◌∙◌, refl}
use Rattle.eng_number.proofs.Lengths.{IsLongest-one_of, is_one_of, none_of}
use Rattle.eng_number.proofs.scanning.after_one_of.Goals as goal

pub returns-then-contains : goal.returns-then-contains
returns-then-contains c =
    let these = c.args.these.now in
    let b = c.in_ok-first.first.now in
    let rest = c.in_ok-first.rest.now in
    let found : is_one_of these b ≡ true = sym c.contains.ensures.value ∙ c.if-contains.true in
    let is : c.args.bytes.now ≡ b ∷ rest = c.in_ok-first.ensures.cases.0 in
    rw is (IsLongest-one_of these b rest found, refl)

pub returns-else-contains : goal.returns-else-contains
returns-else-contains c =
    let these = c.args.these.now in
    let b = c.in_ok-first.first.now in
    let missing : is_one_of these b ≡ false = sym c.contains.ensures.value ∙ c.if-contains.false in
    let is : c.args.bytes.now ≡ b ∷ c.in_ok-first.rest.now = c.in_ok-first.ensures.cases.0 in
    rw is (none_of these b c.in_ok-first.rest.now missing)
