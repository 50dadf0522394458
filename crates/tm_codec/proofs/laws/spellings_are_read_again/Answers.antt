use Rattle.tm_codec.specs.Fields.{u8_text, u16_text, u32_text, u64_text, u128_text, short_text, long_text}
use Rattle.tm_codec.proofs.Fields.{read_again}
use Rattle.tm_codec.proofs.laws.spellings_are_read_again.Goals as goal

pub returns : goal.returns
returns c = record {
  u8s = λ a. read_again (u8_text a);
  u16s = λ a. read_again (u16_text a);
  u32s = λ a. read_again (u32_text a);
  u64s = λ a. read_again (u64_text a);
  u128s = λ a. read_again (u128_text a);
  shorts = λ a. read_again (short_text a);
  longs = λ a. read_again (long_text a);
}
