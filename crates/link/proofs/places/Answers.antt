use Rattle.std.proofs.Common.{refl}
use Rattle.link.proofs.Finishes.{answers_finish}
use Rattle.link.proofs.ReadsBack.{unharmed_reads}
use Rattle.link.proofs.Senders.{discloses_in_time}
use Rattle.link.proofs.Theorem.{link_stands}
use Rattle.link.proofs.Welcomes.{answers_pass}
use Rattle.link.proofs.places.Goals as goal

pub returns : goal.returns
returns c = record { count = refl; stands = link_stands; keys = λ cipher x. discloses_in_time x; answers = answers_pass; unharmed = unharmed_reads; joins = answers_finish }
