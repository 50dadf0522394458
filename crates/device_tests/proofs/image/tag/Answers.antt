use Rattle.std.proofs.Common.{refl, arith}
use Rattle.tm_codec.specs.Fields.{u64_text}
use Rattle.device_tests.proofs.image.tag.Goals as goal

pub returns-then-second : goal.returns-then-second
unfolding u64_text
returns-then-second c = record { clean = 0; generation = 1; next = 2; is = refl; clean_most = omega arith; generation_least = omega arith; generation_most = omega arith; next_least = omega arith; next_most = omega arith }

pub returns-else-second : goal.returns-else-second
unfolding u64_text
returns-else-second c = record { clean = 0; generation = 1; next = 1; is = refl; clean_most = omega arith; generation_least = omega arith; generation_most = omega arith; next_least = omega arith; next_most = omega arith }
