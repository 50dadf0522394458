use Rattle.std.proofs.Common.{refl, ◌∙◌}
use Rattle.tm_store_records.proofs.Laying.{laid}
use Rattle.tm_store_records.proofs.tag.lay_tag.Goals as goal

pub returns : goal.returns
returns c =
    laid c.args.running c.args.date c.args.number _ c.copy_from_slice.new.self c.copy_from_slice-2.new.self c.copy_from_slice-3.new.self
    refl c.copy_from_slice.ensures.after (c.copy_from_slice-2.ensures.after ∙ c.to_be_bytes.ensures) (c.copy_from_slice-3.ensures.after ∙ c.to_be_bytes-2.ensures)
