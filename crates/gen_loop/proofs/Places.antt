-- What loops need of cursors, where that of the whole is so.
use Rattle.std.proofs.Common.{ℕ, Contains, ◌≤◌, List, [], ◌∷◌, ◌++◌, sum_by, refl, arith, subst}
use Rattle.std.specs.Prelude.{All}
use Rattle.std.specs.List.{flat_map}
use Rattle.std.proofs.lemmas.Grind.{flat_map-append}
use Rattle.std.proofs.lemmas.List.Concat.{flat_map-cons}
use Rattle.std.proofs.lemmas.List.Sums.{sum_by-cons}
use Rattle.gen_loop.specs.Needs.{conjuncts_read, keys_read, loop_needs, loop_reads}
use Rattle.plan_tree.specs.Plans.{ons_in}
use Rattle.plan_tree.specs.Visits.{keys_in}
use Rattle.plan_tree.specs.declared.access.Loop.{Loop}
use Rattle.vm_code.specs.declared.open_cursor.Need.{Need}
use Rattle.vm_code.specs.declared.open_cursor.Need.TheVariants as need
use Rattle.vm_code.specs.Draft.{Draft}
use Rattle.vm_code.specs.Track.{Meets, OpenSet}
use Rattle.vm_code.specs.Tracked.{Among, Steady}
use Rattle.vm_code.proofs.Meeting.{met_left, met_right, met_tail}

-- code that needs less, and leaves by fewer labels
pub st_inside : {a b : Draft} {needs : List Need} {labels : List ℕ} (more : List Need) (more_labels : List ℕ) → ((xs : OpenSet) → All (Meets xs) more → All (Meets xs) needs) → ((k : ℕ) → Among labels k → Among more_labels k) → Steady needs labels a b → Steady more more_labels a b
st_inside more more_labels wider among x =
    record { keeps = x.keeps; made = x.made; stays = λ xs is met t marks. x.stays xs is (wider xs met) t (λ k a. marks k (among k a)) }

-- ---- a loop

pub loop_moves : (l : Loop) (inner : List Need) → Contains (loop_needs l inner) (need.Table l.place)
loop_moves l inner = (0, omega arith, refl)

module _ (l : Loop) (inner : List Need) (xs : OpenSet) (met : All (Meets xs) (loop_needs l inner)) where
  behind : All (Meets xs) (loop_reads l ++ inner)
  behind = met_tail xs (need.Table l.place) (loop_reads l ++ inner) met

  reads : All (Meets xs) (loop_reads l)
  reads = met_left xs (loop_reads l) inner behind

  pub inner_met : All (Meets xs) inner
  inner_met = met_right xs (loop_reads l) inner behind

  searches : All (Meets xs) (keys_read (keys_in l.path) ++ conjuncts_read (ons_in l.pairs))
  searches =
      met_left xs (keys_read (keys_in l.path) ++ conjuncts_read (ons_in l.pairs)) (conjuncts_read l.checks) reads

  pub keys_met : All (Meets xs) (keys_read (keys_in l.path))
  keys_met = met_left xs (keys_read (keys_in l.path)) (conjuncts_read (ons_in l.pairs)) searches

  pub ons_met : All (Meets xs) (conjuncts_read (ons_in l.pairs))
  ons_met = met_right xs (keys_read (keys_in l.path)) (conjuncts_read (ons_in l.pairs)) searches

  pub checks_met : All (Meets xs) (conjuncts_read l.checks)
  checks_met = met_right xs (keys_read (keys_in l.path) ++ conjuncts_read (ons_in l.pairs)) (conjuncts_read l.checks) reads

-- ---- one more

module _ {A : Type 0} (xs : OpenSet) (f : A → List Need) (those : List A) (a : A) (met : All (Meets xs) (flat_map f (those ++ a ∷ []))) where
  all-met : All (Meets xs) (flat_map f those ++ flat_map f (a ∷ []))
  all-met = subst (All (Meets xs)) (flat_map-append f those (a ∷ [])) met

  pub front_met : All (Meets xs) (flat_map f those)
  front_met = met_left xs (flat_map f those) (flat_map f (a ∷ [])) all-met

  pub last_met : All (Meets xs) (f a)
  last_met =
      met_left xs (f a) [] (subst (All (Meets xs)) (flat_map-cons f a []) (met_right xs (flat_map f those) (flat_map f (a ∷ [])) all-met))

-- sums of what is less are less
pub sums-le : {A : Type 0} (f g : A → ℕ) (xs : List A) → ((x : A) → f x ≤ g x) → sum_by f xs ≤ sum_by g xs
sums-le f g [] le = omega arith
sums-le f g (x ∷ xs) le = omega (arith, sum_by-cons f x xs, sum_by-cons g x xs, le x, sums-le f g xs le)
