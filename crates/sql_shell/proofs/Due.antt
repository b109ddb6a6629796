-- What is written and what is read, one call after another.
use Rattle.std.proofs.Common.{◌≡◌, ◌≤◌, ℕ, ◌-◌, List, [], ◌++◌, length, take, drop, Some, None, refl, sym, ◌∙◌, ap, subst, append_assoc, append-nil}
use Rattle.std.proofs.lemmas.List.{take-append-drop, take_rest, append_cancel_right}
use Rattle.std.proofs.KnownBytes.{Appends-nil, Appends-trans}
use Rattle.std.specs.declared.option.Option.{Option}
use Rattle.std.specs.Io.KnownBytes.{Appends, Consumes}
use Rattle.sql_meaning.specs.Due.{Along, CutShort, IsRead}

-- nothing is written yet
pub along_start : (w : Option (List ℕ)) (all : List ℕ) → Along w w all all
along_start w all = ([], Appends-nil w, refl)

pub cut_at_start : (w : Option (List ℕ)) (all : List ℕ) → CutShort w w all
cut_at_start w all = (all, along_start w all)

-- a piece of what is due is written
pub along_more : (u v w : Option (List ℕ)) (piece rest all : List ℕ) → Along u v (piece ++ rest) all → Appends v w piece → Along u w rest all
along_more u v w piece rest all a p = (a.0 ++ piece, Appends-trans u v w a.0 piece a.1 p, append_assoc a.0 piece rest ∙ a.2)

-- a front of the rest is written, where the rest is a slice from n on
pub along_slice : (u v w : Option (List ℕ)) (n : ℕ) (rest all : List ℕ) → Along u v rest all → Appends v w (take n rest) → Along u w (take (length rest - n) (drop n rest)) all
along_slice u v w n rest all a p =
    let whole = subst (λ r. Along u v r all) (sym (take-append-drop n rest)) a in
    subst (λ r. Along u w r all) (sym (take_rest rest n)) (along_more u v w (take n rest) (drop n rest) all whole p)

-- nothing is left to write
pub along_end : (u v : Option (List ℕ)) (all : List ℕ) → Along u v [] all → Appends u v all
along_end u v all a = subst (λ xs. Appends u v xs) (sym (append-nil a.0) ∙ a.2) a.1

pub cut_short : (u v : Option (List ℕ)) (rest all : List ℕ) → Along u v rest all → CutShort u v all
cut_short u v rest all a = (rest, a)

-- a front of the next piece is written
pub cut_more : (u v w : Option (List ℕ)) (piece rest all : List ℕ) → Along u v (piece ++ rest) all → CutShort v w piece → CutShort u w all
cut_more u v w piece rest all a p =
    let parts : p.1.0 ++ (p.0 ++ rest) ≡ piece ++ rest = sym (append_assoc p.1.0 p.0 rest) ∙ ap (λ xs. xs ++ rest) p.1.2 in
    (p.0 ++ rest, along_more u v w p.1.0 (p.0 ++ rest) all (subst (λ r. Along u v r all) (sym parts) a) p.1.1)

-- the bytes that a source tells are those that were read from it
pub same_read : (u v : Option (List ℕ)) (xs ys : List ℕ) → Consumes u v xs → IsRead u v ys → xs ≡ ys
same_read None v xs ys p q = absurd q
same_read (Some us) None xs ys p q = absurd q
same_read (Some us) (Some vs) xs ys p q = append_cancel_right xs ys vs (sym p ∙ q)

-- no more bytes are told than were read
pub most_told : (u v : Option (List ℕ)) (xs ys : List ℕ) (most : ℕ) → Consumes u v xs → length xs ≤ most → IsRead u v ys → length ys ≤ most
most_told u v xs ys most p few q = subst (λ zs. length zs ≤ most) (same_read u v xs ys p q) few
