use Rattle.std.proofs.Common.{◌≡◌, ◌++◌, drop, codes, string_bytes}
use Rattle.std.specs.List.{flat_map, join_by}
use Rattle.vm_code.specs.declared.operand.Operand.{Operand}
use Rattle.vm_listing.specs.Pieces.{operand_text}
use Rattle.vm_listing.proofs.operands.operands_text.Given as goal

-- what is shown, and then the operands behind, each after a comma, is the whole
abbrev pub invariant-loop-operand : goal.invariant-loop-operand
invariant-loop-operand l =
    string_bytes l.shown ++ flat_map (λ (o : Operand). codes ", " ++ operand_text l.tables l.code o) (drop l.operand-index l.rest)
    ≡ join_by (operand_text l.tables l.code) (codes ", ") l.operands
