-- Which column a name stands for: one of the own FROM, then a result of the name, then a column of a FROM further out.
use Rattle.std.specs.Prelude.{ℕ, suc, List, [], ◌∷◌, Option, Some, None, Ok, Err, if◌then◌else◌}
use Rattle.std.specs.List.{find, flat_map}
use Rattle.eng_entry.specs.Names.{is_same_name}
use Rattle.eng_value.specs.declared.cause.Cause.TheVariants.{Misuse, Unknown}
use Rattle.eng_value.specs.declared.cause.NameKind.TheVariants as kind
use Rattle.sql_words.specs.Names.{dotted}
use Rattle.sql_words.specs.Refusals.{◌>>=◌}
use Rattle.sql_bound.specs.Operands.{column_operand}
use Rattle.sql_bound.specs.Refusals.{Checked}
use Rattle.sql_bound.specs.Scopes.{Alias, Answer, Level, Scope, bare_in, brought, called_in, columns_named, nearest}
use Rattle.sql_bound.specs.declared.scopes.Operand.{Operand}
use Rattle.sql_bound.specs.declared.scopes.ScopeColumn.{ScopeColumn}
use Rattle.sql_bound.specs.declared.scopes.Sight.{Sight}
use Rattle.sql_bound.specs.declared.scopes.Standing.{Standing}
use Rattle.sql_bound.specs.declared.scopes.Work.{Work}

abbrev pub seen : Sight → Work → Operand × Work
seen s w = let b = brought s.up s.column.tree w in (column_operand s.column b.0, b.1)

abbrev pub seen_or_unknown : List ℕ → Option Sight → Work → Answer Operand
seen_or_unknown shown None w = Err (Unknown kind.Column shown)
seen_or_unknown shown (Some s) w = Ok (seen s w)

-- a FROM further out than the own one
abbrev pub further_out : Option Sight → Option Sight
further_out None = None
further_out (Some s) = Some (record s { up = suc s.up })

-- ---- by a name alone

abbrev pub of_outer : List ℕ → List Level → Work → Answer Operand
of_outer name outer w = nearest name (bare_in name) outer >>= λ s. seen_or_unknown name (further_out s) w

abbrev pub of_alias : Standing → Option Alias → List ℕ → List Level → Work → Answer Operand
of_alias standing None name outer w = of_outer name outer w
of_alias standing (Some a) name outer w = a.shown standing w

abbrev pub alias_named : List ℕ → List Alias → Option Alias
alias_named name aliases = find (λ (a : Alias). is_same_name a.name name) aliases

abbrev pub of_own : Option Sight → Scope → List ℕ → List Level → Work → Answer Operand
of_own None s name outer w = of_alias s.aggregates (alias_named name s.aliases) name outer w
of_own (Some sight) s name outer w = Ok (seen sight w)

abbrev pub named_in : List Level → Scope → List ℕ → Work → Answer Operand
named_in [] s name w = of_own None s name [] w
named_in (own ∷ outer) s name w = nearest name (bare_in name) (own ∷ []) >>= λ sight. of_own sight s name outer w

-- where no column may stand it is misused, whatever it is: by its declared name, if it has one
abbrev pub declared_name : List ℕ → List ScopeColumn → List ℕ
declared_name name [] = name
declared_name name (c ∷ cs) = c.name

abbrev pub name_shown : List Level → List ℕ → List ℕ
name_shown [] name = name
name_shown (own ∷ outer) name = declared_name name (flat_map (columns_named name) own)

abbrev pub if_columns : {A : Type 0} → Scope → List ℕ → Checked A → Checked A
if_columns s name answer = if s.outer.allowed.columns then answer else Err (Misuse (name_shown s.outer.levels name))

abbrev pub column_bound : Scope → List ℕ → Work → Answer Operand
column_bound s name w = if_columns s name (named_in s.outer.levels s name w)

-- ---- by the name of its item and its own

abbrev pub called_column_bound : Scope → List ℕ → List ℕ → Work → Answer Operand
called_column_bound s table name w =
    if_columns s name
    (nearest name (called_in table name) s.outer.levels >>= λ found. seen_or_unknown (dotted table name) found w)
