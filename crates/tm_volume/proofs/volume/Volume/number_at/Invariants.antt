use Rattle.tm_volume.proofs.Finding.{IsOnWay}
use Rattle.tm_volume.proofs.volume.Volume.number_at.Given as goal

abbrev pub invariant-loop-name : goal.invariant-loop-name
invariant-loop-name l = IsOnWay l.self l.path l.name-index l.number
