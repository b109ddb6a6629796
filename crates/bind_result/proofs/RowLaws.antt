-- What rows of VALUES give.
use Rattle.bind_result.specs.Rows.{values_given-is}

pub ruleset row_laws = values_given-is
