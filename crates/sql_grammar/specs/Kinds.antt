-- Kinds of tokens.
use Rattle.std.specs.Prelude.{List, [], ◌∷◌}
use Rattle.sql_tree.specs.declared.token.TokenKind.{TokenKind}
use Rattle.sql_tree.specs.declared.token.TokenKind.TheVariants as kind

-- all that may stand in a statement
abbrev pub all_kinds : List TokenKind
all_kinds = kind.Word ∷ kind.QuotedName ∷ kind.Text ∷ kind.Blob ∷ kind.Number ∷ kind.Parameter ∷ kind.LeftParen ∷ kind.RightParen ∷ kind.Comma ∷ kind.Semicolon ∷ kind.Dot ∷ kind.Star ∷ kind.Plus ∷ kind.Minus ∷ kind.Slash ∷ kind.Percent ∷ kind.Ampersand ∷ kind.Bar ∷ kind.Tilde ∷ kind.ShiftLeft ∷ kind.ShiftRight ∷ kind.DoubleBar ∷ kind.Less ∷ kind.LessEqual ∷ kind.Greater ∷ kind.GreaterEqual ∷ kind.Equal ∷ kind.DoubleEqual ∷ kind.LessGreater ∷ kind.BangEqual ∷ kind.All ∷ kind.And ∷ kind.As ∷ kind.Autoincrement ∷ kind.Between ∷ kind.Case ∷ kind.Cast ∷ kind.Check ∷ kind.Collate ∷ kind.Commit ∷ kind.Constraint ∷ kind.Create ∷ kind.Cross ∷ kind.Default ∷ kind.Delete ∷ kind.Distinct ∷ kind.Drop ∷ kind.Else ∷ kind.End ∷ kind.Escape ∷ kind.Except ∷ kind.Exists ∷ kind.False ∷ kind.Filter ∷ kind.From ∷ kind.Full ∷ kind.Glob ∷ kind.Group ∷ kind.Having ∷ kind.If ∷ kind.In ∷ kind.Index ∷ kind.Inner ∷ kind.Insert ∷ kind.Intersect ∷ kind.Into ∷ kind.Is ∷ kind.IsNull ∷ kind.Join ∷ kind.Left ∷ kind.Like ∷ kind.Limit ∷ kind.Natural ∷ kind.Not ∷ kind.NotNull ∷ kind.Null ∷ kind.On ∷ kind.Or ∷ kind.Order ∷ kind.Outer ∷ kind.Over ∷ kind.Primary ∷ kind.Raise ∷ kind.Recursive ∷ kind.References ∷ kind.Returning ∷ kind.Right ∷ kind.Savepoint ∷ kind.Select ∷ kind.Set ∷ kind.Table ∷ kind.Then ∷ kind.To ∷ kind.Transaction ∷ kind.True ∷ kind.Union ∷ kind.Unique ∷ kind.Update ∷ kind.Using ∷ kind.Values ∷ kind.When ∷ kind.Where ∷ kind.Window ∷ kind.With ∷ kind.Abort ∷ kind.After ∷ kind.Asc ∷ kind.Before ∷ kind.Begin ∷ kind.By ∷ kind.Deferred ∷ kind.Desc ∷ kind.Each ∷ kind.Exclusive ∷ kind.Explain ∷ kind.First ∷ kind.For ∷ kind.Ignore ∷ kind.Immediate ∷ kind.Instead ∷ kind.Key ∷ kind.Last ∷ kind.Nulls ∷ kind.Of ∷ kind.Offset ∷ kind.Plan ∷ kind.Pragma ∷ kind.Query ∷ kind.Release ∷ kind.Replace ∷ kind.Rollback ∷ kind.Row ∷ kind.Trigger ∷ kind.View ∷ kind.Virtual ∷ []

-- words, reserved or not
abbrev pub all_words : List TokenKind
all_words = kind.Word ∷ kind.All ∷ kind.And ∷ kind.As ∷ kind.Autoincrement ∷ kind.Between ∷ kind.Case ∷ kind.Cast ∷ kind.Check ∷ kind.Collate ∷ kind.Commit ∷ kind.Constraint ∷ kind.Create ∷ kind.Cross ∷ kind.Default ∷ kind.Delete ∷ kind.Distinct ∷ kind.Drop ∷ kind.Else ∷ kind.End ∷ kind.Escape ∷ kind.Except ∷ kind.Exists ∷ kind.False ∷ kind.Filter ∷ kind.From ∷ kind.Full ∷ kind.Glob ∷ kind.Group ∷ kind.Having ∷ kind.If ∷ kind.In ∷ kind.Index ∷ kind.Inner ∷ kind.Insert ∷ kind.Intersect ∷ kind.Into ∷ kind.Is ∷ kind.IsNull ∷ kind.Join ∷ kind.Left ∷ kind.Like ∷ kind.Limit ∷ kind.Natural ∷ kind.Not ∷ kind.NotNull ∷ kind.Null ∷ kind.On ∷ kind.Or ∷ kind.Order ∷ kind.Outer ∷ kind.Over ∷ kind.Primary ∷ kind.Raise ∷ kind.Recursive ∷ kind.References ∷ kind.Returning ∷ kind.Right ∷ kind.Savepoint ∷ kind.Select ∷ kind.Set ∷ kind.Table ∷ kind.Then ∷ kind.To ∷ kind.Transaction ∷ kind.True ∷ kind.Union ∷ kind.Unique ∷ kind.Update ∷ kind.Using ∷ kind.Values ∷ kind.When ∷ kind.Where ∷ kind.Window ∷ kind.With ∷ kind.Abort ∷ kind.After ∷ kind.Asc ∷ kind.Before ∷ kind.Begin ∷ kind.By ∷ kind.Deferred ∷ kind.Desc ∷ kind.Each ∷ kind.Exclusive ∷ kind.Explain ∷ kind.First ∷ kind.For ∷ kind.Ignore ∷ kind.Immediate ∷ kind.Instead ∷ kind.Key ∷ kind.Last ∷ kind.Nulls ∷ kind.Of ∷ kind.Offset ∷ kind.Plan ∷ kind.Pragma ∷ kind.Query ∷ kind.Release ∷ kind.Replace ∷ kind.Rollback ∷ kind.Row ∷ kind.Trigger ∷ kind.View ∷ kind.Virtual ∷ []

-- what an argument of a module is made of, beside what stands in parentheses
abbrev pub argument_kinds : List TokenKind
argument_kinds = kind.Word ∷ kind.QuotedName ∷ kind.Text ∷ kind.Blob ∷ kind.Number ∷ kind.Parameter ∷ kind.Dot ∷ kind.Star ∷ kind.Plus ∷ kind.Minus ∷ kind.Slash ∷ kind.Percent ∷ kind.Ampersand ∷ kind.Bar ∷ kind.Tilde ∷ kind.ShiftLeft ∷ kind.ShiftRight ∷ kind.DoubleBar ∷ kind.Less ∷ kind.LessEqual ∷ kind.Greater ∷ kind.GreaterEqual ∷ kind.Equal ∷ kind.DoubleEqual ∷ kind.LessGreater ∷ kind.BangEqual ∷ kind.All ∷ kind.And ∷ kind.As ∷ kind.Autoincrement ∷ kind.Between ∷ kind.Case ∷ kind.Cast ∷ kind.Check ∷ kind.Collate ∷ kind.Commit ∷ kind.Constraint ∷ kind.Create ∷ kind.Cross ∷ kind.Default ∷ kind.Delete ∷ kind.Distinct ∷ kind.Drop ∷ kind.Else ∷ kind.End ∷ kind.Escape ∷ kind.Except ∷ kind.Exists ∷ kind.False ∷ kind.Filter ∷ kind.From ∷ kind.Full ∷ kind.Glob ∷ kind.Group ∷ kind.Having ∷ kind.If ∷ kind.In ∷ kind.Index ∷ kind.Inner ∷ kind.Insert ∷ kind.Intersect ∷ kind.Into ∷ kind.Is ∷ kind.IsNull ∷ kind.Join ∷ kind.Left ∷ kind.Like ∷ kind.Limit ∷ kind.Natural ∷ kind.Not ∷ kind.NotNull ∷ kind.Null ∷ kind.On ∷ kind.Or ∷ kind.Order ∷ kind.Outer ∷ kind.Over ∷ kind.Primary ∷ kind.Raise ∷ kind.Recursive ∷ kind.References ∷ kind.Returning ∷ kind.Right ∷ kind.Savepoint ∷ kind.Select ∷ kind.Set ∷ kind.Table ∷ kind.Then ∷ kind.To ∷ kind.Transaction ∷ kind.True ∷ kind.Union ∷ kind.Unique ∷ kind.Update ∷ kind.Using ∷ kind.Values ∷ kind.When ∷ kind.Where ∷ kind.Window ∷ kind.With ∷ kind.Abort ∷ kind.After ∷ kind.Asc ∷ kind.Before ∷ kind.Begin ∷ kind.By ∷ kind.Deferred ∷ kind.Desc ∷ kind.Each ∷ kind.Exclusive ∷ kind.Explain ∷ kind.First ∷ kind.For ∷ kind.Ignore ∷ kind.Immediate ∷ kind.Instead ∷ kind.Key ∷ kind.Last ∷ kind.Nulls ∷ kind.Of ∷ kind.Offset ∷ kind.Plan ∷ kind.Pragma ∷ kind.Query ∷ kind.Release ∷ kind.Replace ∷ kind.Rollback ∷ kind.Row ∷ kind.Trigger ∷ kind.View ∷ kind.Virtual ∷ []
