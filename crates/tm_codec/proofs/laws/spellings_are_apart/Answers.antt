use Rattle.tm_codec.proofs.Fields.{apart-u8, apart-u16, apart-u32, apart-u64, apart-u128, apart-short, apart-long}
use Rattle.tm_codec.proofs.laws.spellings_are_apart.Goals as goal

pub returns : goal.returns
returns c = record {
  u8s = apart-u8;
  u16s = apart-u16;
  u32s = apart-u32;
  u64s = apart-u64;
  u128s = apart-u128;
  shorts = apart-short;
  longs = apart-long;
}
