-- An access by a draft that serves fits, and so do all rows where there is no search.
use Rattle.std.proofs.Common.{◌≡◌, ℕ, List, [], ◌∷◌, refl, sym, ap, subst, arith}
use Rattle.bound_tree.specs.Exprs.{BoundExpr}
use Rattle.eng_index.proofs.Lists.{differ}
use Rattle.eng_index.specs.declared.key_term.KeyTerm.{KeyTerm}
use Rattle.eng_value.specs.Environments.{Environment}
use Rattle.eng_value.specs.declared.value.Value.{Value}
use Rattle.plan_best.proofs.Serving.{few_without_search}
use Rattle.plan_best.specs.Drafts.{HasNoSearch, IsSound, Serves, UnlessSearch}
use Rattle.plan_best.specs.declared.drafting.Draft.{Draft}
use Rattle.plan_tree.specs.Visits.{AccessFits, Fits, at_item, before, is_visited, tested}
use Rattle.plan_tree.specs.declared.access.Order.{Order}
use Rattle.plan_tree.specs.declared.access.Path.TheVariants as path
use Rattle.sql_meaning.specs.Products.{sifted}

sound_fits : (env : Environment) (item : ℕ) (cs : List BoundExpr) (d : Draft) (order : Order) → IsSound env item cs d → Fits env item cs (record { path = path.Search d.search; order = order; consumed = d.consumed })
sound_fits env item cs d order sound = record { left_out = sound.left_out; kept = sound.kept }

pub draft_fits : (params : List Value) (item : ℕ) (indexes : List (List KeyTerm)) (cs : List BoundExpr) (d : Draft) (order : Order) → Serves params item indexes cs d → AccessFits params item indexes cs (record { path = path.Search d.search; order = order; consumed = d.consumed })
draft_fits params item indexes cs d order serves = record {
  fits = λ env same place. sound_fits env item cs d order (serves.sound env (record { same = same; place = place }));
  few = serves.few;
  counted = serves.counted;
  keys = serves.keys;
}

nothing-consumed : (cs : List BoundExpr) → tested [] cs ≡ cs
nothing-consumed [] = refl
nothing-consumed (c ∷ cs) = refl

all_fit : (env : Environment) (item : ℕ) (cs : List BoundExpr) (order : Order) → Fits env item cs (record { path = path.Scan; order = order; consumed = [] })
all_fit env item cs order = record {
  left_out = λ r is. absurd (differ is);
  kept = λ r is causes. ap (λ ds. sifted ds (at_item env item r) causes) (nothing-consumed cs);
}

pub scan_fits : (params : List Value) (item : ℕ) (indexes : List (List KeyTerm)) (cs : List BoundExpr) (order : Order) → UnlessSearch params item indexes cs → AccessFits params item indexes cs (record { path = path.Scan; order = order; consumed = [] })
scan_fits params item indexes cs order none = record {
  fits = λ env same place. all_fit env item cs order;
  few = λ first x same. few_without_search x indexes cs (subst (λ ps. HasNoSearch ps indexes cs) (sym same) (none first)) (is_visited (before x) path.Scan);
  counted = tt;
  keys = λ size larger. omega arith;
}
