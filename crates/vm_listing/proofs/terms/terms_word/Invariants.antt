use Rattle.std.proofs.Common.{◌≡◌, take, string_bytes}
use Rattle.vm_listing.specs.Words.{terms_word}
use Rattle.vm_listing.proofs.terms.terms_word.Given as goal

-- the words of the terms in front
abbrev pub invariant-loop-term : goal.invariant-loop-term
invariant-loop-term l = string_bytes l.shown ≡ terms_word (take l.term-index l.terms)
