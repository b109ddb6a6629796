use Rattle.std.proofs.Common.{rules, ◌≡◌, ◌∙◌, ap, ap₂, refl, false, true, codes, map, string_bytes, Some}
use Rattle.clap.specs.Words.{Rule, found_of, is_simple, matches_of, one_text, app_of, new_app, new_rule, rule_of, takes, with_rule}
use Rattle.std.specs.Prelude.{IfOk, IfSome}
use Rattle.std.proofs.lemmas.Result.{IfErr-weaker, IfOk-weaker}
use Rattle.clap.specs.Values.{Accepts}
use Rattle.clap.specs.Simple.{app_of_fields}
use Rattle.clap.specs.declared.builder.value_parser.ValueParser.TheVariants as parser
use Rattle.clap.specs.declared.builder.action.ArgAction.TheVariants.{Set, SetTrue}
use Rattle.eng_value.specs.declared.limits.TheConstants.{DEFAULT_BUDGET}
use Rattle.shell_words.specs.CommandLine.{bail_rule, budget_rule, sqlsh, without_help}
use Rattle.shell_words.proofs.Found.{IsKnown, two_pass}
use Rattle.shell_words.proofs.Taken.{flag_texts, sqlsh_is_simple, taken}
use Rattle.shell_words.proofs.parse.Goals as goal

pub returns : goal.returns
returns c =
    let given = c.value_parser-budget.ensures.given in
    let budget_parser : c.value_parser-budget.result.value_parser ≡ Some (parser.Unsigned 1 DEFAULT_BUDGET) = given.1 ∙ ap (λ q. Some q) (given.2 ∙ c.unsigned.ensures) in
    let before : rule_of c.action.result ≡ record (new_rule (codes "budget")) { long = Some (codes "budget"); action = Some Set } = search rules in
    let budget_is : rule_of c.value_parser-budget.result ≡ budget_rule = ap rule_of c.value_parser-budget.ensures.others
    ∙ ap₂ (λ (r : Rule) p. record r { parser = p }) before budget_parser in
    let bail_given = c.value_parser-bail.ensures.given in
    let bail_parser : c.value_parser-bail.result.value_parser ≡ Some parser.Bool = bail_given.1 ∙ ap (λ q. Some q) (bail_given.2 ∙ c.bool.ensures) in
    let bail_before : rule_of c.action-2.result ≡ record (new_rule (codes "bail")) { long = Some (codes "bail"); action = Some SetTrue } = search rules in
    let bail_is : rule_of c.value_parser-bail.result ≡ bail_rule = ap rule_of c.value_parser-bail.ensures.others
    ∙ ap₂ (λ (r : Rule) p. record r { parser = p }) bail_before bail_parser in
    let bare_is : app_of c.disable_version_flag.result ≡ without_help (new_app (codes "sqlsh")) =
    ap app_of_fields c.disable_version_flag.ensures
    ∙ ap (λ f. app_of_fields (record f { disable_version_flag = true })) c.disable_help_flag.ensures
    ∙ ap without_help c.new-3.ensures.app in
    let app_is : app_of c.in_ok-command.command ≡ sqlsh = c.in_ok-command.ensures.shape (search rules)
    ∙ ap₂ with_rule (c.in_ok-arg.ensures.shape (search rules) ∙ ap₂ with_rule bare_is budget_is) bail_is in
    let parse = c.try_get_matches_from in
    let words = map string_bytes c.args.words.now in
    let budget_known : IsKnown c.value_parser-budget.result (codes "budget") (parser.Unsigned 1 DEFAULT_BUDGET) = record {
      name_is = ap (λ (r : Rule). r.id) budget_is;
      given = budget_parser;
      exact = ap (λ (r : Rule). r.ignore_case) budget_is;
      written = refl;
      plain = search rules;
      here = search rules;
      named = refl;
      own = refl;
    } in
    let bail_known : IsKnown c.value_parser-bail.result (codes "bail") parser.Bool = record {
      name_is = ap (λ (r : Rule). r.id) bail_is;
      given = bail_parser;
      exact = ap (λ (r : Rule). r.ignore_case) bail_is;
      written = refl;
      plain = search rules;
      here = search rules;
      named = refl;
      own = refl;
    } in
    let values : IfOk parse.result (λ m. IfSome (one_text (found_of m) (codes "budget")) (Accepts false (parser.Unsigned 1 DEFAULT_BUDGET))
    × IfSome (one_text (found_of m) (codes "bail")) (Accepts false parser.Bool)) =
    IfOk-weaker parse.result _ _ (λ m p. two_pass c.disable_version_flag.result c.in_ok-arg.field-0 c.in_ok-command.command _ _ m c.in_ok-arg.ensures c.in_ok-command.ensures
    (search rules) (search rules) (search rules) p _ _ _ _ budget_known bail_known refl refl) parse.ensures.parsed in
    record {
      taken = taken (app_of c.in_ok-command.command) words parse.result app_is parse.ensures.kinds;
      rows = IfOk-weaker parse.result _ _ (λ m h. (h (ap is_simple app_is ∙ sqlsh_is_simple)).0 ∙ ap (λ a. matches_of a words) app_is) parse.ensures.matches;
      budget = IfOk-weaker parse.result _ _ (λ m h. h.0) values;
      bail = IfOk-weaker parse.result _ _ (λ m h. flag_texts _ h.1) values;
      refused = IfErr-weaker parse.result _ _ (λ e h. λ t. h (ap (λ a. takes a words) app_is ∙ t)) parse.ensures.passes;
    }
