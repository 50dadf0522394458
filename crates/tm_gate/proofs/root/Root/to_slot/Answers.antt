use Rattle.std.proofs.Common.{refl, ◌∙◌}
use Rattle.tm_gate.proofs.Laying.{laid}
use Rattle.tm_gate.proofs.root.Root.to_slot.Goals as goal

pub returns : goal.returns
returns c =
    laid c.args.self.now _ c.copy_from_slice.new.self c.copy_from_slice-2.new.self c.copy_from_slice-3.new.self c.copy_from_slice-4.new.self c.copy_from_slice-5.new.self c.copy_from_slice-6.new.self
    refl c.copy_from_slice.ensures.after c.copy_from_slice-2.ensures.after (c.copy_from_slice-3.ensures.after ∙ c.to_be_bytes.ensures) (c.copy_from_slice-4.ensures.after ∙ c.to_be_bytes-2.ensures) (c.copy_from_slice-5.ensures.after ∙ c.to_be_bytes-3.ensures) c.copy_from_slice-6.ensures.after
