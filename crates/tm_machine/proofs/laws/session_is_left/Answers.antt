use Rattle.tm_machine.proofs.Resting.{rest_leaves}
use Rattle.tm_machine.proofs.laws.session_is_left.Goals as goal

pub returns : goal.returns
returns c = rest_leaves (record {
  volume_stands = c.standing_volume_is_left.ensures;
  volume_blank = c.blank_is_left.ensures;
  store_stands = c.held_reads.ensures;
  store_blank = c.blank_is_left-2.ensures;
})
