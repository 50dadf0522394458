use Rattle.std.proofs.Common.{◌∙◌}
use Rattle.tm_memworld.proofs.tests.first_bytes.Goals as goal

pub first_byte-requires : goal.first_byte-requires
first_byte-requires c = λ side. (λ i. c.first_byte-volume.ensures i side) ∙ c.requires side
