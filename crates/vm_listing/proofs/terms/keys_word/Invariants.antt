use Rattle.std.proofs.Common.{◌≡◌, take, string_bytes}
use Rattle.vm_listing.specs.Words.{keys_word}
use Rattle.vm_listing.proofs.terms.keys_word.Given as goal

-- the words of the keys in front
abbrev pub invariant-loop-key : goal.invariant-loop-key
invariant-loop-key l = string_bytes l.shown ≡ keys_word (take l.key-index l.keys)
