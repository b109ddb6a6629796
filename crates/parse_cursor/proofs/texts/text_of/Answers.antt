use Rattle.parse_cursor.proofs.Spans.{span_is}
use Rattle.parse_cursor.proofs.texts.text_of.Goals as goal

pub returns-in-len1-up : goal.returns-in-len1-up
returns-in-len1-up c = span_is c.args.tokens.now _ c.in-len1-up.len_at_least
