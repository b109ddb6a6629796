-- What comes to be, from what is known of its parts.
use Rattle.std.proofs.Common.{◌≡◌, ◌⊎◌, Result, Ok, Err, inl, inr, ap, ◌∙◌, refl}
use Rattle.eng_value.specs.declared.cause.Cause.{Cause}
use Rattle.eng_value.specs.declared.cause.Cause.TheVariants.{Mem}
use Rattle.sql_words.specs.Refusals.{◌>>=◌}
use Rattle.sql_bound.specs.Answers.{Answers, Comes}
use Rattle.sql_bound.specs.Refusals.{Checked}
use Rattle.sql_bound.specs.Scopes.{Answer}
use Rattle.sql_bound.specs.declared.scopes.Work.{Work}

-- what is meant over work that stays as it is
abbrev pub beside : {S : Type 0} → Work → Checked S → Answer S
beside w meant = meant >>= λ s. Ok (s, w)

abbrev pub kept : {S : Type 0} → Work → S → Answer S
kept w s = Ok (s, w)

pub one-beside : {S : Type 0} (w : Work) (room : Checked (Unit {0})) (s : S) → (room >>= λ u. beside w (Ok s)) ≡ beside w (room >>= λ u. Ok s)
one-beside w (Ok u) s = refl
one-beside w (Err why) s = refl

pub comes-beside : {S : Type 0} (whole : Answer S) (w : Work) (meant : Checked S) (r : Result S Cause) → whole ≡ beside w meant → Answers meant r → Comes whole r w
comes-beside whole w meant (Ok a) is h = is ∙ ap (beside w) h
comes-beside whole w meant (Err why) is (inl mem) = inl mem
comes-beside whole w meant (Err why) is (inr h) = inr (is ∙ ap (beside w) h)

-- a refusal of a part refuses the whole
pub refused-by : {A B : Type 0} (part : Checked A) (whole : Checked B) (why : Cause) → (part ≡ Err why → whole ≡ Err why) → (why ≡ Mem) ⊎ (part ≡ Err why) → (why ≡ Mem) ⊎ (whole ≡ Err why)
refused-by part whole why f (inl mem) = inl mem
refused-by part whole why f (inr h) = inr (f h)
