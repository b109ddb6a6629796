use Rattle.std.proofs.Common.{◌≡◌, [], ap, ◌∙◌, drop, length, take, subst, sym, Result, Ok, Err, rules}
use Rattle.std.proofs.lemmas.Str.{IsUtf8-drop}
use Rattle.std.proofs.lemmas.Result.{err_from_is_err_and}
use Rattle.bind_stmt.specs.Binds.{IsRefusal}
use Rattle.parse_cursor.specs.Whole.{Shows}
use Rattle.sql_grammar.specs.Answers.{Answer}
use Rattle.sql_grammar.specs.StatementTexts.{AnswersAs}
use Rattle.sql_lex.specs.Tokens.{tokens_of}
use Rattle.sql_words.specs.Bodies.{body_of, end_of, without_end}
use Rattle.sql_meaning.specs.Permits.{Ignores, asked_as}
use Rattle.sql_meaning.specs.Statement.{plain_bound, text_bound_from}
use Rattle.sql_tree.specs.Sizes.{size_of_statement}
use Rattle.sql_tree.specs.declared.statement.Statement.{Statement}
use Rattle.vm_core.specs.Meant.{meant}
use Rattle.eng_value.specs.declared.cause.Cause.{Cause}
use Rattle.engine.specs.Held.{world_in}
use Rattle.engine.specs.declared.preparing.Ready.{Ready}
use Rattle.engine.specs.Prepared.{Prepares, Readies}
use Rattle.engine.proofs.Bodies.{body_cut}
use Rattle.engine.proofs.Places.{failure_stands}
use Rattle.engine.proofs.Prepared.{bound_to, failed, found, prepared, prepared_refusal, refused_to}
use Rattle.engine.proofs.preparing.prepare_from.Goals as goal

pub cause_of-requires : goal.cause_of-requires
cause_of-requires g c =
    let from : c.range_from-from.result.now ≡ drop c.args.start c.args.text.now = search rules in
    let parsed : (x : Answer Statement) → AnswersAs c.args.tokens.now x → Shows (length c.range_from-from.result.now) x (Err c.in-Err.failure) = c.in-Err.ensures in
    let shows = subst (λ t. (x : Answer Statement) → AnswersAs c.args.tokens.now x → Shows (length t) x (Err c.in-Err.failure)) from parsed in
    failure_stands c.args.text.now c.args.start c.args.tokens.now c.requires.cut.0 c.requires.order c.in-Err.failure shows

pub returns-in-Err-clause-readies : goal.returns-in-Err-clause-readies
returns-in-Err-clause-readies g c = (
  Ignores [],
  λ lists many.
      let text = drop c.args.start c.args.text.now in
      let from : c.range_from-from.result.now ≡ text = search rules in
      let parsed : (x : Answer Statement) → AnswersAs c.args.tokens.now x → Shows (length c.range_from-from.result.now) x (Err c.in-Err.failure) = c.in-Err.ensures in
      let shows = subst (λ t. (x : Answer Statement) → AnswersAs c.args.tokens.now x → Shows (length t) x (Err c.in-Err.failure)) from parsed in
      failed (asked_as (meant (λ b. (goal.Authorizer-dyn g (b.vtable, b.value)).verdicts b.value) c.args.hosts.now).authorizer (Ignores [])) c.args.schema.now lists c.args.start text c.in-Err.failure c.cause_of.result c.cause_of.ensures (subst (λ ts. (x : Answer Statement) → AnswersAs ts x → Shows (length text) x (Err c.in-Err.failure)) c.requires.tokens shows),
)

pub range-body-requires-clause-end_boundary : goal.range-body-requires-clause-end_boundary
range-body-requires-clause-end_boundary g c =
    let text = drop c.args.start c.args.text.now in
    let from : c.range_from-from.result.now ≡ text = search rules in
    let cut = body_cut text (IsUtf8-drop c.args.text.now c.args.start c.utf8.text c.requires.cut) c.args.tokens.now c.requires.order c.requires.characters in
    rw (from, c.end_of.ensures, c.without_end.ensures) cut

pub returns-in_err-bound-clause-readies : goal.returns-in_err-bound-clause-readies
returns-in_err-bound-clause-readies g c =
    let said = c.in_err-bound.ensures.binds in
    let asked = asked_as (meant (λ b. (goal.Authorizer-dyn g (b.vtable, b.value)).verdicts b.value) c.args.hosts.now).authorizer said.0 in (
      said.0,
      λ lists many.
          let text = drop c.args.start c.args.text.now in
          let from : c.range_from-from.result.now ≡ text = search rules in
          let parsed : (x : Answer Statement) → AnswersAs c.args.tokens.now x → Shows (length c.range_from-from.result.now) x (Ok c.in-Ok.statement) = c.in-Ok.ensures in
          let shows = subst (λ t. (x : Answer Statement) → AnswersAs c.args.tokens.now x → Shows (length t) x (Ok c.in-Ok.statement)) from parsed in
          let tree = found asked c.args.schema.now lists c.args.start text c.in-Ok.statement (subst (λ ts. (x : Answer Statement) → AnswersAs ts x → Shows (length text) x (Ok c.in-Ok.statement)) c.requires.tokens shows) in
          let end : c.end_of.result ≡ end_of (without_end (tokens_of text)) = c.end_of.ensures ∙ ap end_of (c.without_end.ensures ∙ ap without_end c.requires.tokens) in
          let body : c.range-body.result.now ≡ take c.end_of.result c.range_from-from.result.now = search rules in
          let whole : c.range-body.result.now ≡ body_of text = body ∙ ap (take c.end_of.result) from ∙ ap (λ n. take n text) end in
          let why = err_from_is_err_and c.from_residual.result c.from_residual.ensures.1 in
          let refused = refused_to asked c.args.schema.now (length lists) c.range-body.result.now c.in-Ok.statement c.in_err-bound.field-0.0 (rw c.catalog.ensures.catalog at (said.1 (length lists))) in
          rw (why.1, why.2) (prepared_refusal asked c.args.schema.now lists c.args.start text c.in-Ok.statement c.in_err-bound.field-0.0 tree (subst (λ b. IsRefusal (plain_bound asked c.args.schema.now (length lists) b c.in-Ok.statement) c.in_err-bound.field-0.0) whole refused)),
    )

pub returns-in_err-ready-clause-readies : goal.returns-in_err-ready-clause-readies
returns-in_err-ready-clause-readies g c =
    let said = c.in_ok-bound.ensures.binds in
    let asked = asked_as (meant (λ b. (goal.Authorizer-dyn g (b.vtable, b.value)).verdicts b.value) c.args.hosts.now).authorizer said.0 in (
      said.0,
      λ lists many.
          let text = drop c.args.start c.args.text.now in
          let from : c.range_from-from.result.now ≡ text = search rules in
          let parsed : (x : Answer Statement) → AnswersAs c.args.tokens.now x → Shows (length c.range_from-from.result.now) x (Ok c.in-Ok.statement) = c.in-Ok.ensures in
          let shows = subst (λ t. (x : Answer Statement) → AnswersAs c.args.tokens.now x → Shows (length t) x (Ok c.in-Ok.statement)) from parsed in
          let tree = found asked c.args.schema.now lists c.args.start text c.in-Ok.statement (subst (λ ts. (x : Answer Statement) → AnswersAs ts x → Shows (length text) x (Ok c.in-Ok.statement)) c.requires.tokens shows) in
          let end : c.end_of.result ≡ end_of (without_end (tokens_of text)) = c.end_of.ensures ∙ ap end_of (c.without_end.ensures ∙ ap without_end c.requires.tokens) in
          let body : c.range-body.result.now ≡ take c.end_of.result c.range_from-from.result.now = search rules in
          let whole : c.range-body.result.now ≡ body_of text = body ∙ ap (take c.end_of.result) from ∙ ap (λ n. take n text) end in
          let bound = bound_to asked c.args.schema.now c.args.number c.range-body.result.now c.in-Ok.statement c.in_ok-bound.bound (rw c.catalog.ensures.catalog at (said.1 c.args.number)) in
          let ready = c.in_err-ready.ensures lists c.args.schema.now many asked bound in
          let size = size_of_statement c.in-Ok.statement in
          let answer : Result Ready Cause = Err c.in_err-ready.field-0.0 in
          let meant = subst (λ b. Readies size (plain_bound asked c.args.schema.now (length lists) b c.in-Ok.statement) answer) whole
          (subst (λ n. Readies size (plain_bound asked c.args.schema.now n c.range-body.result.now c.in-Ok.statement) answer) (sym many) ready) in
          let why = err_from_is_err_and c.from_residual-in_err-ready.result c.from_residual-in_err-ready.ensures.1 in
          rw (why.1, why.2) (prepared_refusal asked c.args.schema.now lists c.args.start text c.in-Ok.statement c.in_err-ready.field-0.0 tree meant),
    )

pub returns-clause-readies : goal.returns-clause-readies
returns-clause-readies g c =
    let said = c.in_ok-bound.ensures.binds in
    let asked = asked_as (meant (λ b. (goal.Authorizer-dyn g (b.vtable, b.value)).verdicts b.value) c.args.hosts.now).authorizer said.0 in (
      said.0,
      λ lists many.
          let text = drop c.args.start c.args.text.now in
          let from : c.range_from-from.result.now ≡ text = search rules in
          let parsed : (x : Answer Statement) → AnswersAs c.args.tokens.now x → Shows (length c.range_from-from.result.now) x (Ok c.in-Ok.statement) = c.in-Ok.ensures in
          let shows = subst (λ t. (x : Answer Statement) → AnswersAs c.args.tokens.now x → Shows (length t) x (Ok c.in-Ok.statement)) from parsed in
          let tree = found asked c.args.schema.now lists c.args.start text c.in-Ok.statement (subst (λ ts. (x : Answer Statement) → AnswersAs ts x → Shows (length text) x (Ok c.in-Ok.statement)) c.requires.tokens shows) in
          let end : c.end_of.result ≡ end_of (without_end (tokens_of text)) = c.end_of.ensures ∙ ap end_of (c.without_end.ensures ∙ ap without_end c.requires.tokens) in
          let body : c.range-body.result.now ≡ take c.end_of.result c.range_from-from.result.now = search rules in
          let whole : c.range-body.result.now ≡ body_of text = body ∙ ap (take c.end_of.result) from ∙ ap (λ n. take n text) end in
          let bound = bound_to asked c.args.schema.now c.args.number c.range-body.result.now c.in-Ok.statement c.in_ok-bound.bound (rw c.catalog.ensures.catalog at (said.1 c.args.number)) in
          let ready = c.in_ok-ready.ensures lists c.args.schema.now many asked bound in
          let size = size_of_statement c.in-Ok.statement in
          let answer : Result Ready Cause = Ok c.in_ok-ready.ready in
          let meant = subst (λ b. Readies size (plain_bound asked c.args.schema.now (length lists) b c.in-Ok.statement) answer) whole
          (subst (λ n. Readies size (plain_bound asked c.args.schema.now n c.range-body.result.now c.in-Ok.statement) answer) (sym many) ready) in
          subst (λ ts. Prepares (length ts) (text_bound_from asked (world_in c.args.schema.now lists) c.args.start c.args.text.now) (Ok (record { explain = c.in-Ok.statement.explain; ready = c.in_ok-ready.ready }))) (sym c.requires.tokens)
          (prepared asked c.args.schema.now lists c.args.start text c.in-Ok.statement c.in_ok-ready.ready tree meant),
    )
