-- What a parse found of an argument passed the parser that the caller gave it.
use Rattle.std.proofs.Common.{codes, ◌==◌, ◌⊎◌, ◌||◌, ◌≡◌, ◌∙◌, ◌<◌, ap, sym, subst, refl, inl, inr, arith, ℕ, true, false, true≢false, zero, suc, ◌++◌, List, [], ◌∷◌, length, Option, Some, None}
use Rattle.std.specs.Prelude.{IfSome, option_and_then, option_map, slice_get}
use Rattle.std.specs.List.{All, slice_index_or}
use Rattle.std.specs.Str.{bytes_eq}
use Rattle.std.specs.Borrow.{Bor}
use Rattle.std.proofs.lemmas.Slice.Eq.{bytes_eq-Decides}
use Rattle.std.proofs.lemmas.List.Elements.{All-get_or, All-nil}
use Rattle.clap.specs.Facts.{Entry, EntryPasses, ValuesPass, HasReading, PassesArg, args_of, groups_of, parser_of, parser_of_value}
use Rattle.clap.specs.Built.{AddsArg, IsParsedFrom, IsPlain, IsPlainArg, SameRules}
use Rattle.clap.specs.Matches.{found_of, matched_of, one_text}
use Rattle.clap.specs.Values.{Accepts, read_as, reading_of}
use Rattle.clap.specs.declared.builder.arg.Arg.{Arg}
use Rattle.clap.specs.declared.builder.command.Command.{Command}
use Rattle.clap.specs.declared.builder.command.Command.TheViews.{out-Command}
use Rattle.clap.specs.declared.builder.value_parser.Reading.{Reading}
use Rattle.clap.specs.declared.builder.value_parser.Reading.TheVariants.{AsWritten}
use Rattle.clap.specs.declared.builder.value_parser.ValueParser.{ValueParser}
use Rattle.clap.specs.declared.parser.matches.ArgMatches.{ArgMatches}
use Rattle.clap.specs.declared.parser.matches.Found.{Found}
use Rattle.clap.specs.declared.parser.matches.MatchedArg.{MatchedArg}
use Rattle.clap.proofs.CallerLemmas.{added_plain, entry_by_id, same_rules_by_id}

first_passes : (P : List ℕ → Type 0) (how : Reading) (vs : List (Bor (List ℕ))) → how ≡ AsWritten → All (λ v. P v.now) vs
    → IfSome (option_map (λ s. read_as how s.now) (slice_get vs 0)) P
first_passes P how [] is h = tt
first_passes P how (v ∷ vs) is h = rw is (All-get_or (λ x. P x.now) (v ∷ vs) 0 v (omega arith) h)

accepted : (a y : Arg) (q : ValueParser) (t : List ℕ) → SameRules a y → a.value_parser ≡ Some q
    → Accepts y.ignore_case (parser_of y) t → Accepts a.ignore_case q t
accepted a y q t s given h =
    let is_q : parser_of y ≡ q = ap parser_of_value (s.parser q given) in
    subst (λ b. Accepts b q t) s.ignore_case (subst (λ w. Accepts y.ignore_case w t) is_q h)

-- the arguments of the command with this id keep the rules of a
abbrev AreLike : Command → List ℕ → Arg → Type 0
AreLike c id a = (j : ℕ) (x : Arg) → j < length (args_of c) → slice_index_or (args_of c) j x ≡ x → bytes_eq x.id.now id ≡ true → SameRules a x

value_in : (c : Command) (id : List ℕ) (a : Arg) (q : ValueParser) (t : List ℕ) → AreLike c id a → a.value_parser ≡ Some q → PassesArg c id t
    → Accepts a.ignore_case q t
value_in c id a q t like given any = accepted a any.1 q t (like any.0 any.1 any.2 any.3 any.4.0) given any.4.1

reading_in : (c : Command) (id : List ℕ) (a : Arg) (q : ValueParser) (r : Reading) → AreLike c id a → a.value_parser ≡ Some q → reading_of q ≡ AsWritten
    → HasReading c id r → r ≡ AsWritten
reading_in c id a q r like given written any =
    let s = like any.0 any.1 any.2 any.3 any.4.0 in
    let is_q : parser_of any.1 ≡ q = ap parser_of_value (s.parser q given) in
    sym any.4.1 ∙ ap reading_of is_q ∙ written

entry_in : (c : Command) (id : List ℕ) (a : Arg) (q : ValueParser) (x : MatchedArg) (e : Entry) → AreLike c id a → a.value_parser ≡ Some q
    → reading_of q ≡ AsWritten → groups_of c ≡ [] → (id ≡ [] → ⊥) → e.1 ≡ x → e.0.now ≡ id → EntryPasses c e
    → IfSome (option_map (λ s. read_as x.reading s.now) (slice_get x.vals.items 0)) (Accepts a.ignore_case q)
entry_in c id a q x e like given written no_groups named same key pass =
    let no_group : e.1.is_group ≡ true → ⊥ = λ g. elim (pass.3 g) [
      | inl empty ↦ named (sym key ∙ empty)
      | inr lots ↦
          let bad : 0 < 0 = rw no_groups at lots in
          absurd (omega arith)
    ] in
    let all : All (λ v. PassesArg c id v.now) x.vals.items = elim pass.0 [
      | inl g ↦ absurd (no_group g)
      | inr vals ↦ subst (λ w. All (λ v. PassesArg c w v.now) x.vals.items) key (rw same at vals)
    ] in
    let is : e.1.reading ≡ AsWritten = elim pass.4 [
      | inl g ↦ absurd (no_group g)
      | inr any ↦ reading_in c id a q e.1.reading like given written (subst (λ w. HasReading c w e.1.reading) key any)
    ] in
    first_passes (Accepts a.ignore_case q) x.reading x.vals.items (ap (λ (y : MatchedArg). y.reading) (sym same) ∙ is)
    (λ i v low. value_in c id a q _ like given (all i v low))

one_in : (c : Command) (f : Found) (id : List ℕ) (a : Arg) (q : ValueParser) → AreLike c id a → a.value_parser ≡ Some q
    → reading_of q ≡ AsWritten → groups_of c ≡ [] → (id ≡ [] → ⊥) → ValuesPass c f → IfSome (one_text f id) (Accepts a.ignore_case q)
one_in c f id a q like given written no_groups named values = go (matched_of f id) refl
  where
    go : (o : Option MatchedArg) → matched_of f id ≡ o
        → IfSome (option_and_then (λ y. option_map (λ s. read_as y.reading s.now) (slice_get y.vals.items 0)) o) (Accepts a.ignore_case q)
    go None e = tt
    go (Some x) e =
        let got = entry_by_id (EntryPasses c) f.entries.items id x values e in
        entry_in c id a q x got.0 like given written no_groups named got.1 ((bytes_eq-Decides got.0.0.now id).0 got.2) got.3

only_first : (x y : Arg) (name : List ℕ) → bytes_eq y.id.now name ≡ false
    → (n : ℕ) (e : Arg) → n < 2 → bytes_eq (slice_index_or (x ∷ y ∷ []) n e).id.now name ≡ true → n ≡ 0
only_first x y name other zero e low same = refl
only_first x y name other (suc zero) e low same = absurd (true≢false (sym same ∙ other))
only_first x y name other (suc (suc n)) e low same = absurd (omega arith)

only_second : (x y : Arg) (name : List ℕ) → bytes_eq x.id.now name ≡ false
    → (n : ℕ) (e : Arg) → n < 2 → bytes_eq (slice_index_or (x ∷ y ∷ []) n e).id.now name ≡ true → n ≡ 1
only_second x y name other zero e low same = absurd (true≢false (sym same ∙ other))
only_second x y name other (suc zero) e low same = refl
only_second x y name other (suc (suc n)) e low same = absurd (omega arith)

-- the argument has this id, and a parser whose values are read as they are written
pub record IsKnown (a : Arg) (name : List ℕ) (q : ValueParser) : Type 0 where
  pub name_is : a.id.now ≡ name
  pub given : a.value_parser ≡ Some q
  pub exact : a.ignore_case ≡ false
  pub written : reading_of q ≡ AsWritten
  pub plain : IsPlainArg a
  pub here : a.global ≡ false
  pub named : (length name == 0) ≡ false
  pub own : (bytes_eq name (codes "help") || bytes_eq name (codes "version")) ≡ false

some_name : (name : List ℕ) → (length name == 0) ≡ false → name ≡ [] → ⊥
some_name name e empty =
    let same : (length name == 0) ≡ true = ap (λ t. length t == 0) empty in
    true≢false (sym same ∙ e)

own_name : (name : List ℕ) → (bytes_eq name (codes "help") || bytes_eq name (codes "version")) ≡ false → (name ≡ codes "help") ⊎ (name ≡ codes "version") → ⊥
own_name name e (inl h) =
    let same : (bytes_eq name (codes "help") || bytes_eq name (codes "version")) ≡ true = ap (λ t. bytes_eq t (codes "help") || bytes_eq t (codes "version")) h in
    true≢false (sym same ∙ e)
own_name name e (inr h) =
    let same : (bytes_eq name (codes "help") || bytes_eq name (codes "version")) ≡ true = ap (λ t. bytes_eq t (codes "help") || bytes_eq t (codes "version")) h in
    true≢false (sym same ∙ e)

kept_known : (a x : Arg) (name : List ℕ) (q : ValueParser) → SameRules a x → IsKnown a name q → (x.id.now ≡ name) × (x.value_parser ≡ Some q) × (x.ignore_case ≡ false)
kept_known a x name q s known = (ap (λ y. y.now) s.id ∙ known.name_is, s.parser q known.given, s.ignore_case ∙ known.exact)

-- what was found of the k-th argument of a plain command, x, whose id no other has
known_pass : (cmd : Command) (m : ArgMatches) (a x : Arg) (k : ℕ) (name : List ℕ) (q : ValueParser) → IsParsedFrom cmd m → IsPlain cmd → (out-Command cmd).has_globals ≡ false
    → SameRules a x → IsKnown a name q → k < length (args_of cmd) → slice_index_or (args_of cmd) k x ≡ x
    → ((j : ℕ) (e : Arg) → j < length (args_of cmd) → bytes_eq (slice_index_or (args_of cmd) j e).id.now name ≡ true → j ≡ k)
    → IfSome (one_text (found_of m) name) (Accepts false q)
known_pass cmd m a x k name q p plain globals s known lt at unique =
    let kept = kept_known a x name q s known in
    let at_id : (slice_index_or (args_of cmd) k x).id.now ≡ name = ap (λ (y : Arg). y.id.now) at ∙ kept.0 in
    let like : AreLike p.built name x = λ j y low is same. subst (λ w. SameRules w y) at
    (same_rules_by_id cmd m p k x lt (λ i e i_low i_same. unique i e i_low (rw at_id at i_same))
    (λ auto. own_name name known.own (elim auto [ inl h ↦ inl (sym at_id ∙ h) | inr h ↦ inr (sym at_id ∙ h) ])) j y low is (rw at_id same)) in
    let parsed = p.parsed (p.from.globals ∙ globals) in
    subst (λ b. IfSome (one_text (found_of m) name) (Accepts b q)) kept.2
    (one_in p.built (found_of m) name x q like kept.1 known.written (p.from.plain plain).1 (some_name name known.named) parsed.values)

-- a command of two arguments
pub two_pass : (start one cmd : Command) (a b : Arg) (m : ArgMatches) → AddsArg start a one → AddsArg one b cmd
    → args_of start ≡ [] → groups_of start ≡ [] → (out-Command start).has_globals ≡ false → IsParsedFrom cmd m
    → (i j : List ℕ) (q r : ValueParser) → IsKnown a i q → IsKnown b j r → bytes_eq i j ≡ false → bytes_eq j i ≡ false
    → IfSome (one_text (found_of m) i) (Accepts false q) × IfSome (one_text (found_of m) j) (Accepts false r)
two_pass start one cmd a b m first second args groups globals p i j q r known_a known_b ij ji =
    let x = first.arg in
    let y = second.arg in
    let list : args_of cmd ≡ x ∷ y ∷ [] = second.args ∙ ap (λ l. l ++ y ∷ []) (first.args ∙ ap (λ l. l ++ x ∷ []) args) in
    let start_plain : IsPlain start = (subst (All IsPlainArg) (sym args) (All-nil IsPlainArg), groups) in
    let plain = added_plain one cmd b second (added_plain start one a first start_plain known_a.plain) known_b.plain in
    let here : (out-Command cmd).has_globals ≡ false = second.globals ∙ (ap (λ t. t || b.global) (first.globals ∙ (ap (λ t. t || a.global) globals ∙ known_a.here)) ∙ known_b.here) in
    let x_id = (kept_known a x i q first.rules known_a).0 in
    let y_id = (kept_known b y j r second.rules known_b).0 in (
      known_pass cmd m a x 0 i q p plain here first.rules known_a (subst (λ l. 0 < length l) (sym list) (omega arith)) (ap (λ l. slice_index_or l 0 x) list)
          (subst (λ l. (n : ℕ) (e : Arg) → n < length l → bytes_eq (slice_index_or l n e).id.now i ≡ true → n ≡ 0) (sym list) (only_first x y i (ap (λ t. bytes_eq t i) y_id ∙ ji))),
      known_pass cmd m b y 1 j r p plain here second.rules known_b (subst (λ l. 1 < length l) (sym list) (omega arith)) (ap (λ l. slice_index_or l 1 y) list)
          (subst (λ l. (n : ℕ) (e : Arg) → n < length l → bytes_eq (slice_index_or l n e).id.now j ≡ true → n ≡ 1) (sym list) (only_second x y j (ap (λ t. bytes_eq t j) x_id ∙ ij))),
    )
