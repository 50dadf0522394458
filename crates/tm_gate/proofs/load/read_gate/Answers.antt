use Rattle.std.proofs.Common.{List, ℕ, subst, length, get_or, ◌≡◌, ◌<◌, ◌∙◌, sym, arith}
use Rattle.tm_gate.specs.Fields.{IsGoodSlot}
use Rattle.tm_gate.proofs.Spelling.{length-bytes_at, small_at}
use Rattle.tm_gate.proofs.Roots.{root_from_good}
use Rattle.tm_gate.proofs.load.read_gate.Goals as goal

pub returns-in-None-clause-root : goal.returns-in-None-clause-root
returns-in-None-clause-root c =
    let slot = c.args.slot.now in
    let tag_is = sym c.from_slot.ensures.tag in
    let good : IsGoodSlot c.args.side c.args.blocks slot = sym c.first_bad.ensures ∙ c.in-None.is in
    let long : length c.from_slot.result.tag ≡ 64 = subst (λ (t : List ℕ). length t ≡ 64) tag_is (length-bytes_at 32 64 slot (omega arith)) in
    let small : (i : ℕ) → get_or c.from_slot.result.tag i 0 < 256 = subst (λ (t : List ℕ). (i : ℕ) → get_or t i 0 < 256) tag_is (small_at 32 64 slot (omega arith) c.fits-slot) in
    let good_root = subst (IsGoodSlot c.args.side c.args.blocks) c.from_slot.ensures.spelled good in
    root_from_good c.args.side c.args.blocks c.from_slot.result c.requires.blocks c.from_slot.ensures.first c.from_slot.ensures.table_len long small good_root
