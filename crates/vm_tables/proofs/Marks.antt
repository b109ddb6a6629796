-- What the tables were at each mark.
use Rattle.std.proofs.Common.{◌≡◌, ℕ, zero, suc, ◌-◌, ◌≤◌, List, [], ◌∷◌, ◌++◌, length, map, take, drop, refl, sym, ap, ◌∙◌, subst, arith, length-append}
use Rattle.std.specs.Prelude.{reverse}
use Rattle.std.proofs.lemmas.List.{drop-append-le, length-take, reverse-append, take-append-drop}
use Rattle.vm_code.specs.Machine.{World}
use Rattle.vm_tables.specs.declared.change.Change.{Change}
use Rattle.vm_tables.specs.Changes.{at_mark, at_marks, before, undone, Descend}
use Rattle.vm_tables.proofs.TakingBack.{before-append}

pub reverse-last : {X : Type 0} (xs : List X) (x : X) → reverse (xs ++ x ∷ []) ≡ x ∷ reverse xs
reverse-last xs x = reverse-append xs (x ∷ [])

pub descend_more : (n k : ℕ) (marks : List ℕ) → n ≤ k → Descend n marks → Descend k marks
descend_more n k [] le down = tt
descend_more n k (m ∷ marks) le down = (omega (arith, down.0), down.1)

drop_none : (log : List Change) → drop (length log) log ≡ []
drop_none [] = refl
drop_none (c ∷ log) = drop_none log

-- at a mark that is set now the tables are as they are now
pub at_new_mark : (log : List Change) (w : World) → at_mark log w (length log) ≡ w
at_new_mark log w = ap (λ cs. before cs w) (drop_none log)

-- one change more
module _ (log : List Change) (c : Change) (w v : World) (is : undone c v ≡ w) where
  at_mark_logged : (m : ℕ) → m ≤ length log → at_mark (log ++ c ∷ []) v m ≡ at_mark log w m
  at_mark_logged m le =
      ap (λ cs. before cs v) (drop-append-le m log (c ∷ []) le)
      ∙ before-append (drop m log) (c ∷ []) v
      ∙ ap (before (drop m log)) is

  logged : (n : ℕ) (marks : List ℕ) → n ≤ length log → Descend n marks → map (at_mark (log ++ c ∷ []) v) marks ≡ map (at_mark log w) marks
  logged n [] le down = refl
  logged n (m ∷ marks) le down =
      let low : m ≤ length log = omega (arith, down.0) in
      ap (λ x. x ∷ map (at_mark (log ++ c ∷ []) v) marks) (at_mark_logged m low) ∙ ap (λ l. at_mark log w m ∷ l) (logged m marks low down.1)

  pub marks_logged : (marks : List ℕ) → Descend (length log) (reverse marks) → at_marks marks (log ++ c ∷ []) v ≡ at_marks marks log w
  marks_logged marks down = logged (length log) (reverse marks) (omega arith) down

  pub descend_logged : (marks : List ℕ) → Descend (length log) (reverse marks) → Descend (length (log ++ c ∷ [])) (reverse marks)
  descend_logged marks down = descend_more (length log) (length (log ++ c ∷ [])) (reverse marks) (omega (arith, length-append log (c ∷ []))) down

-- back to a mark
module _ (log : List Change) (w : World) (at : ℕ) (inside : at ≤ length log) where
  drop_split : (xs : List Change) (m n : ℕ) → m ≤ n → drop m (take n xs) ++ drop n xs ≡ drop m xs
  drop_split xs zero n le = take-append-drop n xs
  drop_split [] (suc m) zero le = absurd (omega arith)
  drop_split [] (suc m) (suc n) le = refl
  drop_split (x ∷ xs) (suc m) zero le = absurd (omega arith)
  drop_split (x ∷ xs) (suc m) (suc n) le = drop_split xs m n (omega arith)

  at_mark_back : (m : ℕ) → m ≤ at → at_mark (take at log) (before (drop at log) w) m ≡ at_mark log w m
  at_mark_back m le =
      sym (before-append (drop m (take at log)) (drop at log) w) ∙ ap (λ cs. before cs w) (drop_split log m at le)

  pub marks_back : (n : ℕ) (marks : List ℕ) → n ≤ at → Descend n marks → map (at_mark (take at log) (before (drop at log) w)) marks ≡ map (at_mark log w) marks
  marks_back n [] le down = refl
  marks_back n (m ∷ marks) le down =
      let low : m ≤ at = omega (arith, down.0) in
      ap (λ x. x ∷ map (at_mark (take at log) (before (drop at log) w)) marks) (at_mark_back m low) ∙ ap (λ l. at_mark log w m ∷ l) (marks_back m marks low down.1)

-- ---- one mark more, and one less

module _ (marks : List ℕ) (log : List Change) (w : World) where
  pub marks_now : at_marks (marks ++ length log ∷ []) log w ≡ w ∷ at_marks marks log w
  marks_now = ap (map (at_mark log w)) (reverse-last marks (length log)) ∙ ap (λ x. x ∷ at_marks marks log w) (at_new_mark log w)

  pub descend_now : Descend (length log) (reverse marks) → Descend (length log) (reverse (marks ++ length log ∷ []))
  descend_now down = subst (Descend (length log)) (sym (reverse-last marks (length log))) (omega arith, down)

  module _ (mark : ℕ) (down : Descend (length log) (reverse (marks ++ mark ∷ []))) where
    parts : Descend (length log) (mark ∷ reverse marks)
    parts = subst (Descend (length log)) (reverse-last marks mark) down

    pub marks_undone : at_marks (marks ++ mark ∷ []) log w ≡ before (drop mark log) w ∷ at_marks marks (take mark log) (before (drop mark log) w)
    marks_undone =
        ap (map (at_mark log w)) (reverse-last marks mark)
        ∙ ap (λ l. before (drop mark log) w ∷ l) (sym (marks_back log w mark parts.0 mark (reverse marks) (omega arith) parts.1))

    pub descend_undone : Descend (length (take mark log)) (reverse marks)
    descend_undone =
        let long : mark ≤ length (take mark log) = omega (arith, length-take mark log, parts.0) in
        descend_more mark (length (take mark log)) (reverse marks) long parts.1

    pub marks_forgotten : drop 1 (at_marks (marks ++ mark ∷ []) log w) ≡ at_marks marks log w
    marks_forgotten = ap (λ l. drop 1 (map (at_mark log w) l)) (reverse-last marks mark)

    pub descend_forgotten : Descend (length log) (reverse marks)
    descend_forgotten = descend_more mark (length log) (reverse marks) parts.0 parts.1

-- the last mark goes, if there is one
split_last : (m : ℕ) (ms : List ℕ) → (k : ℕ) × (m ∷ ms ≡ take (length ms) (m ∷ ms) ++ k ∷ [])
split_last m [] = (m, refl)
split_last m (n ∷ ms) = let rest = split_last n ms in (rest.0, ap (λ l. m ∷ l) rest.1)

pub descend_popped : (ms rest : List ℕ) (log : List Change) → rest ≡ take (length ms - 1) ms → Descend (length log) (reverse ms) → Descend (length log) (reverse rest)
descend_popped [] rest log is down =
    let none : rest ≡ [] = is in
    subst (λ l. Descend (length log) (reverse l)) (sym none) tt
descend_popped (m ∷ ms) rest log is down =
    let last = split_last m ms in
    let fewer : length (m ∷ ms) - 1 ≡ length ms = omega arith in
    let same : rest ≡ take (length ms) (m ∷ ms) = is ∙ ap (λ n. take n (m ∷ ms)) fewer in
    let whole : m ∷ ms ≡ rest ++ last.0 ∷ [] = last.1 ∙ ap (λ l. l ++ last.0 ∷ []) (sym same) in
    descend_forgotten rest log [] last.0 (subst (λ l. Descend (length log) (reverse l)) whole down)
