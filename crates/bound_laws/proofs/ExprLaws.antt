-- An expression is bound to what is there, if its parts are.
use Rattle.std.proofs.Common.{◌≡◌, refl, ℕ, Bool, true, false, List, [], ◌∷◌, ◌++◌, length, Option, Some, None, codes, Ok, subst, sym, arith}
use Rattle.std.specs.List.{AllByRecursion}
use Rattle.std.proofs.Math.ListN.{length-append}
use Rattle.sql_tree.specs.declared.expr.Arguments.{Arguments}
use Rattle.sql_tree.specs.declared.expr.BinaryOp.{BinaryOp}
use Rattle.sql_tree.specs.declared.expr.Expr.TheOpen.{Expr-F}
use Rattle.sql_tree.specs.declared.expr.TypeName.{TypeName}
use Rattle.sql_tree.specs.declared.expr.UnaryOp.{UnaryOp}
use Rattle.sql_tree.specs.declared.token.Token.{Token}
use Rattle.sql_words.specs.Refusals.{◌>>=◌}
use Rattle.sql_words.specs.Spelled.{name_at}
use Rattle.bound_tree.specs.Exprs as e
use Rattle.bound_tree.specs.Exprs.{BoundExpr, exprs}
use Rattle.bound_tree.specs.declared.units.BoundAggregate.{BoundAggregate}
use Rattle.sql_bound.specs.Callees.{Aggregate, Aggregator, Callee, HostScalar, Nobody, Scalar, may_aggregate, may_call, without_filter}
use Rattle.sql_bound.specs.Carriers.{ArmParts, Expression, QueryParts}
use Rattle.sql_bound.specs.Expressions.{aggregate_bound, aggregate_of, all_bound, arms_bound, bound_step, call_bound, collation_called, function_bound, if_allowed, one_column, option_bound, option_tree, query_asked, raise_bound, with_aggregate, within_aggregate}
use Rattle.sql_bound.specs.Operands.{call_of, host_call_of, option_list, over}
use Rattle.sql_bound.specs.Refusals.{Checked}
use Rattle.sql_bound.specs.Scopes.{Scope}
use Rattle.sql_bound.specs.declared.scopes.ArmOperands.{ArmOperands}
use Rattle.sql_bound.specs.declared.scopes.Asked.{Asked}
use Rattle.sql_bound.specs.declared.scopes.Operand.{Operand}
use Rattle.sql_bound.specs.declared.scopes.ResultColumn.{ResultColumn}
use Rattle.sql_bound.specs.declared.scopes.Standing.TheVariants.{Nowhere, Taken}
use Rattle.sql_bound.specs.declared.scopes.Standing.{Standing}
use Rattle.sql_bound.specs.declared.scopes.Work.{Work}
use Rattle.bound_laws.specs.Reach.{AreWithin, IsWithin, IsWithinIfThere, Reach, Serves, count_of}
use Rattle.bound_laws.proofs.GrowLaws.{aggregates_later, grown, reached_before, stays_here}
use Rattle.bound_laws.proofs.HandLaws.{AskedAt, asked_fits}
use Rattle.bound_laws.proofs.Lists.{IfThere, adds_nothing, all_append, count_of-exprs, exprs_within, serves_later}
use Rattle.bound_laws.proofs.OperandLaws.{ArmsAre, OperandIs, OperandsAre, OptionIs, between_within, binary_within, call_within, case_within, host_call_within, in_within, like_within, trees_within, unary_within}
use Rattle.bound_laws.proofs.States.{AggregateStays, Asks, Binds, BindsIn, Grows, Here, Reached, ScopeFits, Steps, TreeStays, WorkFits}
use Rattle.bound_laws.proofs.Triples.{Gives, gives, past, refuses, seq}

abbrev pub ExprBinds : Expression → Type 0
ExprBinds x = Binds x.bound

pub record ArmBinds (arm : ArmParts) : Type 0 where
  pub condition : ExprBinds arm.condition
  pub value : ExprBinds arm.value

pub allowed : {A : Type 0} (P : A → Type 0) (may : Bool) (name : List ℕ) (m : Checked A) → Gives P m → Gives P (if_allowed may name m)
allowed P true name m h = h
allowed P false name m h = refuses _ _

module _ (h : Here) where
  abbrev Result : Standing → Work → Operand × Work → Type 0
  Result standing w r = Steps h (TreeStays standing h.own) w r

  -- ---- parts in turn

  abbrev pub OperandsStay : Standing → List Operand → Work → Type 0
  OperandsStay standing xs v = (r : Reach) → Reached standing v r → OperandsAre r h.own xs

  pub all_bind : (xs : List Expression) → AllByRecursion ExprBinds xs → (s : Scope) → ScopeFits h s → (w : Work) → WorkFits h w → Gives (Steps h (OperandsStay s.aggregates) w) (all_bound s xs w)
  all_bind [] all s scope w fits = stays_here h (OperandsStay s.aggregates) w [] fits (λ r k. tt)
  all_bind (x ∷ xs) all s scope w fits =
      seq _ _ _ _ (all.0 h s scope w fits) (λ a ha. seq _ _ _ _ (all_bind xs all.1 s scope a.1 ha.fits) (λ more hm. gives _ _ (record {
        fits = hm.fits;
        grows = grown _ _ _ ha.grows hm.grows;
        holds = λ r k. (ha.holds r (reached_before _ _ _ _ hm.grows k), hm.holds r k);
      })))

  abbrev pub OptionStays : Standing → Option Operand → Work → Type 0
  OptionStays standing o v = (r : Reach) → Reached standing v r → OptionIs r h.own o

  pub option_binds : (o : Option Expression) → IfThere ExprBinds o → (s : Scope) → ScopeFits h s → (w : Work) → WorkFits h w → Gives (Steps h (OptionStays s.aggregates) w) (option_bound s o w)
  option_binds None there s scope w fits = stays_here h (OptionStays s.aggregates) w None fits (λ r k. tt)
  option_binds (Some x) there s scope w fits = seq _ _ _ _ (there h s scope w fits) (λ a ha. gives _ _ (record { fits = ha.fits; grows = ha.grows; holds = λ r k. ha.holds r k }))

  abbrev ArmsStay : Standing → List ArmOperands → Work → Type 0
  ArmsStay standing those v = (r : Reach) → Reached standing v r → ArmsAre r h.own those

  arms_bind : (those : List ArmParts) → AllByRecursion ArmBinds those → (s : Scope) → ScopeFits h s → (w : Work) → WorkFits h w → Gives (Steps h (ArmsStay s.aggregates) w) (arms_bound s those w)
  arms_bind [] all s scope w fits = stays_here h (ArmsStay s.aggregates) w [] fits (λ r k. tt)
  arms_bind (arm ∷ those) all s scope w fits =
      seq _ _ _ _ (all.0.condition h s scope w fits) (λ c hc. seq _ _ _ _ (all.0.value h s scope c.1 hc.fits) (λ v hv. seq _ _ _ _ (arms_bind those all.1 s scope v.1 hv.fits) (λ more hm. gives _ _ (record {
        fits = hm.fits;
        grows = grown _ _ _ hc.grows (grown _ _ _ hv.grows hm.grows);
        holds = λ r k. (record { condition = hc.holds r (reached_before _ _ _ _ (grown _ _ _ hv.grows hm.grows) k); value = hv.holds r (reached_before _ _ _ _ hm.grows k) }, hm.holds r k);
      }))))

  -- ---- operators

  -- a tree that names nothing
  pub leaf_binds : (a : Operand) (s : Scope) (w : Work) → WorkFits h w → ((r : Reach) → IsWithin r h.own a.tree) → Gives (Result s.aggregates w) (Ok (a, w))
  leaf_binds a s w fits always = stays_here h (TreeStays s.aggregates h.own) w a fits (λ r k. always r)

  pub raise_binds : (tree : BoundExpr) → ((r : Reach) → IsWithin r h.own tree) → (s : Scope) (w : Work) → WorkFits h w → Gives (Result s.aggregates w) (raise_bound s tree w)
  raise_binds tree always s w fits = allowed _ s.outer.allowed.raises (codes "RAISE") _ (leaf_binds (over [] tree) s w fits always)

  pub unary_binds : (o : UnaryOp) (a : Expression) → ExprBinds a → BindsIn h (bound_step (Expr-F.Unary o a))
  unary_binds o a ha s scope w fits = seq _ _ _ _ (ha h s scope w fits) (λ x hx. gives _ _ (record { fits = hx.fits; grows = hx.grows; holds = λ r k. unary_within r h.own o x.0 (hx.holds r k) }))

  pub binary_binds : (o : BinaryOp) (a b : Expression) → ExprBinds a → ExprBinds b → BindsIn h (bound_step (Expr-F.Binary o a b))
  binary_binds o a b ha hb s scope w fits =
      seq _ _ _ _ (ha h s scope w fits) (λ x hx. seq _ _ _ _ (hb h s scope x.1 hx.fits) (λ y hy. gives _ _ (record {
        fits = hy.fits;
        grows = grown _ _ _ hx.grows hy.grows;
        holds = λ r k. binary_within r h.own o x.0 y.0 (hx.holds r (reached_before _ _ _ _ hy.grows k)) (hy.holds r k);
      })))

  pub between_binds : (a b c : Expression) → ExprBinds a → ExprBinds b → ExprBinds c → BindsIn h (bound_step (Expr-F.Between a b c))
  between_binds a b c ha hb hc s scope w fits =
      seq _ _ _ _ (ha h s scope w fits) (λ x hx. seq _ _ _ _ (hb h s scope x.1 hx.fits) (λ y hy. seq _ _ _ _ (hc h s scope y.1 hy.fits) (λ z hz. gives _ _ (record {
        fits = hz.fits;
        grows = grown _ _ _ hx.grows (grown _ _ _ hy.grows hz.grows);
        holds = λ r k. between_within r h.own x.0 y.0 z.0 (hx.holds r (reached_before _ _ _ _ (grown _ _ _ hy.grows hz.grows) k)) (hy.holds r (reached_before _ _ _ _ hz.grows k)) (hz.holds r k);
      }))))

  pub like_binds : (a b : Expression) (c : Option Expression) → ExprBinds a → ExprBinds b → IfThere ExprBinds c → BindsIn h (bound_step (Expr-F.Like a b c))
  like_binds a b c ha hb hc s scope w fits =
      seq _ _ _ _ (ha h s scope w fits) (λ x hx. seq _ _ _ _ (hb h s scope x.1 hx.fits) (λ y hy. seq _ _ _ _ (option_binds c hc s scope y.1 hy.fits) (λ z hz. gives _ _ (record {
        fits = hz.fits;
        grows = grown _ _ _ hx.grows (grown _ _ _ hy.grows hz.grows);
        holds = λ r k. like_within r h.own x.0 y.0 z.0 (hx.holds r (reached_before _ _ _ _ (grown _ _ _ hy.grows hz.grows) k)) (hy.holds r (reached_before _ _ _ _ hz.grows k)) (hz.holds r k);
      }))))

  pub in_binds : (a : Expression) (others : List Expression) → ExprBinds a → AllByRecursion ExprBinds others → BindsIn h (bound_step (Expr-F.In a others))
  in_binds a others ha all s scope w fits =
      seq _ _ _ _ (ha h s scope w fits) (λ x hx. seq _ _ _ _ (all_bind others all s scope x.1 hx.fits) (λ ys hy. gives _ _ (record {
        fits = hy.fits;
        grows = grown _ _ _ hx.grows hy.grows;
        holds = λ r k. in_within r h.own x.0 ys.0 (hx.holds r (reached_before _ _ _ _ hy.grows k)) (hy.holds r k);
      })))

  pub collate_binds : (a : Expression) (t : Token) → ExprBinds a → BindsIn h (bound_step (Expr-F.Collate a t))
  collate_binds a t ha s scope w fits =
      seq _ _ _ _ (ha h s scope w fits) (λ x hx. past (collation_called s.outer.around.facts (name_at s.outer.text t)) _ _ (λ c. gives _ _ (record { fits = hx.fits; grows = hx.grows; holds = λ r k. hx.holds r k })))

  pub cast_binds : (a : Expression) (t : TypeName) → ExprBinds a → BindsIn h (bound_step (Expr-F.Cast a t))
  cast_binds a t ha s scope w fits = seq _ _ _ _ (ha h s scope w fits) (λ x hx. gives _ _ (record { fits = hx.fits; grows = hx.grows; holds = λ r k. hx.holds r k }))

  pub case_binds : (a : Option Expression) (those : List ArmParts) (otherwise : Option Expression) → IfThere ExprBinds a → AllByRecursion ArmBinds those → IfThere ExprBinds otherwise → BindsIn h (bound_step (Expr-F.Case a those otherwise))
  case_binds a those otherwise ha all hc s scope w fits =
      seq _ _ _ _ (option_binds a ha s scope w fits) (λ x hx. seq _ _ _ _ (arms_bind those all s scope x.1 hx.fits) (λ ys hy. seq _ _ _ _ (option_binds otherwise hc s scope ys.1 hy.fits) (λ z hz. gives _ _ (record {
        fits = hz.fits;
        grows = grown _ _ _ hx.grows (grown _ _ _ hy.grows hz.grows);
        holds = λ r k. case_within r h.own x.0 ys.0 z.0 (hx.holds r (reached_before _ _ _ _ (grown _ _ _ hy.grows hz.grows) k)) (hy.holds r (reached_before _ _ _ _ hz.grows k)) (hz.holds r k);
      }))))

  -- ---- calls

  function_binds : (name : List ℕ) (takes : ℕ → Bool) (make : List Operand → Operand) (how : Arguments) (xs : List Expression) (filter : Option Expression)
      → ((r : Reach) (args : List Operand) → OperandsAre r h.own args → OperandIs r h.own (make args)) → AllByRecursion ExprBinds xs
      → (s : Scope) → ScopeFits h s → (w : Work) → WorkFits h w → Gives (Result s.aggregates w) (function_bound s name takes make how xs filter w)
  function_binds name takes make how xs filter within all s scope w fits =
      past (may_call name takes how (length xs)) _ _ (λ u. seq _ _ _ _ (all_bind xs all s scope w fits) (λ args ha. past (without_filter name filter) _ _ (λ u. gives _ _ (record { fits = ha.fits; grows = ha.grows; holds = λ r k. within r args.0 (ha.holds r k) }))))

  option_tree_within : (r : Reach) (o : Option Operand) → OptionIs r h.own o → IsWithinIfThere r h.own (option_tree o)
  option_tree_within r None there = tt
  option_tree_within r (Some a) there = there

  one_slot : (g : BoundAggregate) (w : Work) → Grows w (with_aggregate g w)
  one_slot g w = record { units = adds_nothing w.units; needs = omega arith; aggregates = omega (arith, length-append w.aggregates (g ∷ [])) }

  slot_fits : (g : BoundAggregate) (w : Work) → WorkFits h w → AggregateStays h.own w g → WorkFits h (with_aggregate g w)
  slot_fits g w fits stays = record {
    begins = fits.begins;
    needs = fits.needs;
    aggregates = aggregates_later h.own w (with_aggregate g w) (w.aggregates ++ g ∷ []) (one_slot g w) (all_append (AggregateStays h.own w) w.aggregates (g ∷ []) fits.aggregates (stays, tt));
  }

  aggregate_binds : (a : Aggregator) (how : Arguments) (xs : List Expression) (filter : Option Expression) → AllByRecursion ExprBinds xs → IfThere ExprBinds filter
      → (s : Scope) → ScopeFits h s → (w : Work) → WorkFits h w → Gives (Result s.aggregates w) (aggregate_bound s a how xs filter w)
  aggregate_binds a how xs filter all there s scope w fits = go s.aggregates where
    inner_fits : ScopeFits h (within_aggregate s)
    inner_fits = record { outer = scope.outer; aliases = scope.aliases }

    go : (standing : Standing) → Gives (Result standing w) (may_aggregate a standing how (length xs) >>= λ u. all_bound (within_aggregate s) xs w >>= λ args. option_bound (within_aggregate s) filter args.1 >>= λ f. Ok (over (args.0 ++ option_list f.0) (e.Aggregate (length f.1.aggregates)), with_aggregate (aggregate_of a how args.0 f.0) f.1))
    go Nowhere = refuses _ _
    go Taken =
        past (may_aggregate a Taken how (length xs)) _ _ (λ u. seq _ _ _ _ (all_bind xs all (within_aggregate s) inner_fits w fits) (λ args ha. seq _ _ _ _ (option_binds filter there (within_aggregate s) inner_fits args.1 ha.fits) (λ f hf.
        let g : BoundAggregate = aggregate_of a how args.0 f.0 in
        gives _ _ (record {
          fits = slot_fits g f.1 hf.fits (λ r k. record { arguments = trees_within r h.own args.0 (ha.holds r (reached_before _ _ _ _ hf.grows k)); filter = option_tree_within r f.0 (hf.holds r k) });
          grows = grown _ _ _ ha.grows (grown _ _ _ hf.grows (one_slot g f.1));
          holds = λ r k. omega (arith, k.aggregates, length-append f.1.aggregates (g ∷ []));
        }))))

  pub call_binds : (name : List ℕ) (callee : Callee) (how : Arguments) (xs : List Expression) (filter : Option Expression) → AllByRecursion ExprBinds xs → IfThere ExprBinds filter
      → (s : Scope) → ScopeFits h s → (w : Work) → WorkFits h w → Gives (Result s.aggregates w) (call_bound s name callee how xs filter w)
  call_binds name (Scalar shown f takes) how xs filter all there s scope w fits = function_binds shown takes (call_of f) how xs filter (λ r. call_within r h.own f) all s scope w fits
  call_binds name (HostScalar shown takes) how xs filter all there s scope w fits =
      allowed _ s.outer.allowed.hosts shown _ (function_binds shown takes (host_call_of shown) how xs filter (λ r. host_call_within r h.own shown) all s scope w fits)
  call_binds name (Aggregate a) how xs filter all there s scope w fits = aggregate_binds a how xs filter all there s scope w fits
  call_binds name Nobody how xs filter all there s scope w fits = refuses _ _

  -- ---- queries

  asks_here : (q : QueryParts) → Asks q.bound → (s : Scope) → ScopeFits h s → (w : Work) → WorkFits h w → Gives (Steps h (AskedAt h s.aggregates) w) (query_asked s q w)
  asks_here q hq s scope w fits =
      allowed _ s.outer.allowed.queries q.first_word _ (asked_fits h s.aggregates w (q.bound s.outer w.units) fits (hq h.units (h.own ∷ h.outers) s.outer scope.outer w.units fits.begins))

  record AskedWithin (r : Reach) (a : Asked × List BoundExpr) : Type 0 where
    serves : Serves r.units a.0.unit (count_of (exprs a.1)) (length a.0.columns)
    handed : AreWithin r h.own (exprs a.1)

  asked_within : (standing : Standing) (a : Asked × List BoundExpr) (v : Work) → AskedAt h standing a v → (r : Reach) → Reached standing v r → AskedWithin r a
  asked_within standing a v asked r k = record {
    serves = subst (λ n. Serves r.units a.0.unit n (length a.0.columns)) (sym (count_of-exprs a.1)) (serves_later v.units r.units a.0.unit (length a.1) (length a.0.columns) k.units asked.serves);
    handed = exprs_within r h.own a.1 (asked.stays r k);
  }

  one_is : (word : List ℕ) (columns : List ResultColumn) → Gives (λ (c : ResultColumn). length columns ≡ 1) (one_column word columns)
  one_is word [] = refuses _ _
  one_is word (c ∷ []) = gives _ _ refl
  one_is word (c ∷ d ∷ cs) = refuses _ _

  serves_one : (r : Reach) (a : Asked × List BoundExpr) → AskedWithin r a → length a.0.columns ≡ 1 → Serves r.units a.0.unit (count_of (exprs a.1)) 1
  serves_one r a at one = subst (Serves r.units a.0.unit (count_of (exprs a.1))) one at.serves

  pub exists_binds : (q : QueryParts) → Asks q.bound → BindsIn h (bound_step (Expr-F.Exists q))
  exists_binds q hq s scope w fits =
      seq _ _ _ _ (asks_here q hq s scope w fits) (λ a ha. gives _ _ (record { fits = ha.fits; grows = ha.grows; holds = λ r k. let at = asked_within s.aggregates a.0 a.1 ha.holds r k in ((length a.0.0.columns, at.serves), at.handed) }))

  pub scalar_binds : (q : QueryParts) → Asks q.bound → BindsIn h (bound_step (Expr-F.Subquery q))
  scalar_binds q hq s scope w fits =
      seq _ _ _ _ (asks_here q hq s scope w fits) (λ a ha. seq _ _ _ _ (one_is q.first_word a.0.0.columns) (λ c one. gives _ _ (record {
        fits = ha.fits;
        grows = ha.grows;
        holds = λ r k. let at = asked_within s.aggregates a.0 a.1 ha.holds r k in (serves_one r a.0 at one, at.handed);
      })))

  pub in_query_binds : (x : Expression) (q : QueryParts) → ExprBinds x → Asks q.bound → BindsIn h (bound_step (Expr-F.InQuery x q))
  in_query_binds x q hx hq s scope w fits =
      seq _ _ _ _ (hx h s scope w fits) (λ y hy. seq _ _ _ _ (asks_here q hq s scope y.1 hy.fits) (λ a ha. seq _ _ _ _ (one_is q.first_word a.0.0.columns) (λ c one. gives _ _ (record {
        fits = ha.fits;
        grows = grown _ _ _ hy.grows ha.grows;
        holds = λ r k. let at = asked_within s.aggregates a.0 a.1 ha.holds r k in (hy.holds r (reached_before _ _ _ _ ha.grows k), serves_one r a.0 at one, at.handed);
      }))))
