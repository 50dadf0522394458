use Rattle.std.proofs.Common.{refl}
use Rattle.tm_gate.proofs.Spelling.{slot_from_parts, u32_at, u64_at}
use Rattle.tm_gate.proofs.root.Root.from_slot.Goals as goal

pub returns-clause-spelled : goal.returns-clause-spelled
returns-clause-spelled c =
    let slot = c.args.slot.now in
    let sequence = u64_at 16 c.unwrap.result slot (rw c.unwrap.ensures at c.get_u64.ensures.stands) in
    let table_len = u64_at 24 c.unwrap-2.result slot (rw c.unwrap-2.ensures at c.get_u64-2.ensures.stands) in
    let first = u32_at 12 c.unwrap-3.result slot (rw c.unwrap-3.ensures at c.get_u32.ensures.stands) in
    slot_from_parts slot _ c.told-slot c.requires.magic refl refl c.requires.after_version first sequence table_len c.copy_from_slice.ensures.after c.requires.after_tag
