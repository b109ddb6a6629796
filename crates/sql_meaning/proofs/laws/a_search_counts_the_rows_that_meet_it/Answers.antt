use Rattle.sql_meaning.proofs.SearchLaws.{all-count, counted-few, search-counts}
use Rattle.sql_meaning.proofs.laws.a_search_counts_the_rows_that_meet_it.Goals as goal

pub returns : goal.returns
returns c = record { within = counted-few; each = search-counts; without = all-count }
