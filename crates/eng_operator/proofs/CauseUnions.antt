-- A union with no causes.
use Rattle.std.proofs.Common.{◌≡◌, ◌∙◌, ◌||◌, ap}
use Rattle.std.proofs.Math.Bool.{or-false}
use Rattle.std.specs.Cmp.Lexicographic.{slice_cmp, nat_list_cmp_total}
use Rattle.std.specs.FinSet as set
use Rattle.std.specs.Ordering.{nat_cmp}
use Rattle.eng_value.specs.Causes.{CauseSet}
use Rattle.eng_value.proofs.CauseLaws.{same_causes}

pub union_none : (s : CauseSet) → set.union s set.empty ≡ s
union_none s = same_causes _ _ (λ q. set.contains-union nat_list_cmp_total s set.empty q ∙ ap (λ b. set.contains s q || b) (set.contains-empty (slice_cmp nat_cmp) q) ∙ or-false (set.contains s q))

pub none_union : (s : CauseSet) → set.union set.empty s ≡ s
none_union s = same_causes _ _ (λ q. set.contains-union nat_list_cmp_total set.empty s q ∙ ap (λ b. b || set.contains s q) (set.contains-empty (slice_cmp nat_cmp) q))
