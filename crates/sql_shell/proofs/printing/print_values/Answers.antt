use Rattle.sql_shell.proofs.Joined.{joined_in_two}
use Rattle.sql_shell.proofs.printing.print_values.Goals as goal

pub returns-in_ok-print_others-in-len1-up : goal.returns-in_ok-print_others-in-len1-up
returns-in_ok-print_others-in-len1-up c =
    joined_in_two c.args.values.now c.first-item.result _ _ _ c.first-item.is c.in-len1-up.len_at_least c.in_ok-print_value-in-len1-up.ensures c.in_ok-print_others-in-len1-up.ensures
