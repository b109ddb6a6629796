use Rattle.bind_name.proofs.Affinities.{affinity_of_type_is}
use Rattle.bind_name.proofs.types.affinity_of_any.Goals as goal

pub returns : goal.returns
returns c = rw (c.affinity_of_folded.ensures, c.as_slice-2.ensures, c.in_ok-words.ensures, c.as_slice.ensures) (affinity_of_type_is c.args.text.now c.args.type_name.now)
