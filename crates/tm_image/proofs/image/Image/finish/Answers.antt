use Rattle.std.proofs.Common.{◌≡◌, ◌≤◌, ◌<◌, ◌∙◌, ℕ, List, length, get_or, ap, sym, subst, arith}
use Rattle.tm_blockmap.specs.Counts.{times, IsDistinct}
use Rattle.tm_world.specs.Outside.{disk}
use Rattle.tm_world.specs.Log.{now}
use Rattle.tm_gate.specs.Tag.{IsTag}
use Rattle.tm_gate.specs.declared.root.Root.{Root}
use Rattle.tm_world.specs.Runs.{Runs}
use Rattle.tm_blockmap.specs.Gives.{Gives}
use Rattle.tm_image.specs.Content.{Content, IsAtRest, LeavesEither, in_data}
use Rattle.tm_image.specs.Seen.{Seen, IsSound}
use Rattle.tm_image.specs.Commit.{IsFor, IsCovered, next_content, released, released_len}
use Rattle.tm_image.proofs.Finishing.{beside, once, up_blocks, within, some_block, sound_after, root_is}
use Rattle.tm_image.proofs.image.Image.finish.Goals as goal

pub write_out-requires-clause-within : goal.write_out-requires-clause-within
write_out-requires-clause-within g c =
    subst (λ bs. (k : ℕ) → k < length bs → get_or bs k 0 < g.W.World.blocks c.args.world.now c.self.inside.side) (sym c.deref-3.ensures.value)
    (within _ c.self.invariant _ _ _ (subst (IsFor c.args.prepared.text.items c.args.prepared.blocks.items c.args.prepared.log.items) (sym c.self.view_is) c.requires.ready) _
    (ap (λ (s : Seen). length s.used) c.self.view_is ∙ c.requires.count ∙ ap (λ (s : Seen). g.W.World.blocks c.args.world.now s.side) (sym c.self.view_is)))

pub write_out-requires-clause-once : goal.write_out-requires-clause-once
write_out-requires-clause-once g c = subst IsDistinct (sym c.deref-3.ensures.value) (once c.args.self.now (subst IsSound c.self.view_is c.self.invariant) _ _ _ c.requires.ready)

pub write_out-requires-clause-high : goal.write_out-requires-clause-high
write_out-requires-clause-high g c = subst (λ bs. (b : ℕ) → 0 < times b bs → 3 ≤ b) (sym c.deref-3.ensures.value) (up_blocks c.args.self.now (subst IsSound c.self.view_is c.self.invariant) _ _ _ c.requires.ready)

pub returns-in_err-write_out-clause-any_moment : goal.returns-in_err-write_out-clause-any_moment
returns-in_err-write_out-clause-any_moment g c told =
    let m : Seen = record { side = c.self.inside.side; records = c.self.inside.records.entries; used = c.self.inside.map; layout = c.self.inside.table.items; root = c.self.inside.gate.root; named = c.self.inside.gate.named } in
    let ready : IsFor c.args.prepared.text.items c.args.prepared.blocks.items c.args.prepared.log.items m = subst (IsFor c.args.prepared.text.items c.args.prepared.blocks.items c.args.prepared.log.items) (sym c.self.view_is) c.requires.ready in
    let first : c.first_block.result ≡ get_or c.args.prepared.blocks.items 0 0 = c.first_block.ensures ∙ ap (λ (bs : List ℕ). get_or bs 0 0) c.deref.ensures.value in
    let root = root_is c.self.inside.gate.root c.args.prepared.text.items c.args.prepared.blocks.items c.args.tag c.first_block.result c.len.result first (omega (arith, c.len.ensures, c.args.prepared.text.ok)) in
    subst (λ (s : Seen). (old : Content) → IsAtRest old s.named (disk s.side (now (g.W.World.log c.args.world.now))) → IsCovered old s c.args.prepared.log.items
    → Runs s.side (LeavesEither old (next_content c.args.prepared.blocks.items c.args.prepared.text.items c.args.tag s) (disk s.side (now (g.W.World.log c.args.world.now))).bytes) (g.W.World.log c.args.world.now) (g.W.World.log c.write_out.new.world)) c.self.view_is
    (λ old rest covered. c.write_out.ensures.any_moment told old (next_content c.args.prepared.blocks.items c.args.prepared.text.items c.args.tag m) rest (beside m c.self.invariant _ _ _ ready old c.args.tag covered) (record { blocks_are = c.deref-3.ensures.value; text_is = c.deref-2.ensures.value ∙ ready.text_is; root_is = root }))

pub invariant_of-self-2 : goal.invariant_of-self-2
invariant_of-self-2 g c =
    let m : Seen = record { side = c.self.inside.side; records = c.self.inside.records.entries; used = c.self.inside.map; layout = c.self.inside.table.items; root = c.self.inside.gate.root; named = c.self.inside.gate.named } in
    let ready : IsFor c.args.prepared.text.items c.args.prepared.blocks.items c.args.prepared.log.items m = subst (IsFor c.args.prepared.text.items c.args.prepared.blocks.items c.args.prepared.log.items) (sym c.self.view_is) c.requires.ready in
    let first : c.first_block.result ≡ get_or c.args.prepared.blocks.items 0 0 = c.first_block.ensures ∙ ap (λ (bs : List ℕ). get_or bs 0 0) c.deref.ensures.value in
    let root = root_is c.self.inside.gate.root c.args.prepared.text.items c.args.prepared.blocks.items c.args.tag c.first_block.result c.len.result first (omega (arith, c.len.ensures, c.args.prepared.text.ok)) in
    subst (λ (r : Root). IsSound (record { side = c.self.inside.side; records = c.self.inside.records.entries; used = c.give_log.new.map; layout = c.args.prepared.blocks.items; root = r; named = c.write_out.new.gate.named }))
    (sym (c.in_ok-write_out.ensures.root ∙ root))
    (sound_after m c.self.invariant _ _ _ ready c.give_all.new.self c.give_log.new.map (subst (λ bs. Gives bs c.self.inside.map c.give_all.new.self) c.deref-4.ensures.value c.give_all.ensures)
    (λ b. omega (arith, c.give_log.ensures.marks b, ap (released b) c.deref-5.ensures.value)) c.give_log.ensures.size (omega (arith, c.give_log.ensures.count, ap released_len c.deref-5.ensures.value)) c.args.tag c.write_out.new.gate.named
    (subst (λ (s : Seen). IsTag s.side c.args.tag) (sym c.self.view_is) c.requires.tag) c.write_out.new.gate.in_range.0 c.write_out.new.gate.in_range.1)

pub returns-clause-sound_after : goal.returns-clause-sound_after
returns-clause-sound_after g c =
    let m : Seen = record { side = c.self.inside.side; records = c.self.inside.records.entries; used = c.self.inside.map; layout = c.self.inside.table.items; root = c.self.inside.gate.root; named = c.self.inside.gate.named } in
    let ready : IsFor c.args.prepared.text.items c.args.prepared.blocks.items c.args.prepared.log.items m = subst (IsFor c.args.prepared.text.items c.args.prepared.blocks.items c.args.prepared.log.items) (sym c.self.view_is) c.requires.ready in
    let first : c.first_block.result ≡ get_or c.args.prepared.blocks.items 0 0 = c.first_block.ensures ∙ ap (λ (bs : List ℕ). get_or bs 0 0) c.deref.ensures.value in
    let root = root_is c.self.inside.gate.root c.args.prepared.text.items c.args.prepared.blocks.items c.args.tag c.first_block.result c.len.result first (omega (arith, c.len.ensures, c.args.prepared.text.ok)) in
    subst (λ (r : Root). IsSound (record { side = c.self.inside.side; records = c.self.inside.records.entries; used = c.give_log.new.map; layout = c.args.prepared.blocks.items; root = r; named = c.write_out.new.gate.named }))
    (sym (c.in_ok-write_out.ensures.root ∙ root))
    (sound_after m c.self.invariant _ _ _ ready c.give_all.new.self c.give_log.new.map (subst (λ bs. Gives bs c.self.inside.map c.give_all.new.self) c.deref-4.ensures.value c.give_all.ensures)
    (λ b. omega (arith, c.give_log.ensures.marks b, ap (released b) c.deref-5.ensures.value)) c.give_log.ensures.size (omega (arith, c.give_log.ensures.count, ap released_len c.deref-5.ensures.value)) c.args.tag c.write_out.new.gate.named
    (subst (λ (s : Seen). IsTag s.side c.args.tag) (sym c.self.view_is) c.requires.tag) c.write_out.new.gate.in_range.0 c.write_out.new.gate.in_range.1)

pub returns-clause-any_moment : goal.returns-clause-any_moment
returns-clause-any_moment g c told =
    let m : Seen = record { side = c.self.inside.side; records = c.self.inside.records.entries; used = c.self.inside.map; layout = c.self.inside.table.items; root = c.self.inside.gate.root; named = c.self.inside.gate.named } in
    let ready : IsFor c.args.prepared.text.items c.args.prepared.blocks.items c.args.prepared.log.items m = subst (IsFor c.args.prepared.text.items c.args.prepared.blocks.items c.args.prepared.log.items) (sym c.self.view_is) c.requires.ready in
    let first : c.first_block.result ≡ get_or c.args.prepared.blocks.items 0 0 = c.first_block.ensures ∙ ap (λ (bs : List ℕ). get_or bs 0 0) c.deref.ensures.value in
    let root = root_is c.self.inside.gate.root c.args.prepared.text.items c.args.prepared.blocks.items c.args.tag c.first_block.result c.len.result first (omega (arith, c.len.ensures, c.args.prepared.text.ok)) in
    subst (λ (s : Seen). (old : Content) → IsAtRest old s.named (disk s.side (now (g.W.World.log c.args.world.now))) → IsCovered old s c.args.prepared.log.items
    → Runs s.side (LeavesEither old (next_content c.args.prepared.blocks.items c.args.prepared.text.items c.args.tag s) (disk s.side (now (g.W.World.log c.args.world.now))).bytes) (g.W.World.log c.args.world.now) (g.W.World.log c.write_out.new.world)) c.self.view_is
    (λ old rest covered. c.write_out.ensures.any_moment told old (next_content c.args.prepared.blocks.items c.args.prepared.text.items c.args.tag m) rest (beside m c.self.invariant _ _ _ ready old c.args.tag covered) (record { blocks_are = c.deref-3.ensures.value; text_is = c.deref-2.ensures.value ∙ ready.text_is; root_is = root }))

pub returns-clause-at_rest : goal.returns-clause-at_rest
returns-clause-at_rest g c told =
    let m : Seen = record { side = c.self.inside.side; records = c.self.inside.records.entries; used = c.self.inside.map; layout = c.self.inside.table.items; root = c.self.inside.gate.root; named = c.self.inside.gate.named } in
    let ready : IsFor c.args.prepared.text.items c.args.prepared.blocks.items c.args.prepared.log.items m = subst (IsFor c.args.prepared.text.items c.args.prepared.blocks.items c.args.prepared.log.items) (sym c.self.view_is) c.requires.ready in
    let first : c.first_block.result ≡ get_or c.args.prepared.blocks.items 0 0 = c.first_block.ensures ∙ ap (λ (bs : List ℕ). get_or bs 0 0) c.deref.ensures.value in
    let root = root_is c.self.inside.gate.root c.args.prepared.text.items c.args.prepared.blocks.items c.args.tag c.first_block.result c.len.result first (omega (arith, c.len.ensures, c.args.prepared.text.ok)) in
    subst (λ (s : Seen). (old : Content) → IsAtRest old s.named (disk s.side (now (g.W.World.log c.args.world.now))) → IsCovered old s c.args.prepared.log.items
    → IsAtRest (record { blocks = length c.give_log.new.map; records = c.self.inside.records.entries; layout = c.args.prepared.blocks.items; root = c.write_out.new.gate.root }) c.write_out.new.gate.named (disk s.side (now (g.W.World.log c.write_out.new.world)))) c.self.view_is
    (λ old rest covered.
    let size : length c.give_log.new.map ≡ length c.self.inside.map = omega (arith, c.give_log.ensures.size, c.give_all.ensures.size) in
    let same : next_content c.args.prepared.blocks.items c.args.prepared.text.items c.args.tag m ≡ record { blocks = length c.give_log.new.map; records = c.self.inside.records.entries; layout = c.args.prepared.blocks.items; root = c.write_out.new.gate.root }
    = λ i. record { blocks = sym size i; records = c.self.inside.records.entries; layout = c.args.prepared.blocks.items; root = sym (c.in_ok-write_out.ensures.root ∙ root) i } in
    subst (λ (k : Content). IsAtRest k c.write_out.new.gate.named (disk c.self.inside.side (now (g.W.World.log c.write_out.new.world)))) same
    (c.in_ok-write_out.ensures.at_rest told old (next_content c.args.prepared.blocks.items c.args.prepared.text.items c.args.tag m) rest (beside m c.self.invariant _ _ _ ready old c.args.tag covered) (record { blocks_are = c.deref-3.ensures.value; text_is = c.deref-2.ensures.value ∙ ready.text_is; root_is = root })))

pub returns-clause-data : goal.returns-clause-data
returns-clause-data g c told =
    let m : Seen = record { side = c.self.inside.side; records = c.self.inside.records.entries; used = c.self.inside.map; layout = c.self.inside.table.items; root = c.self.inside.gate.root; named = c.self.inside.gate.named } in
    let ready : IsFor c.args.prepared.text.items c.args.prepared.blocks.items c.args.prepared.log.items m = subst (IsFor c.args.prepared.text.items c.args.prepared.blocks.items c.args.prepared.log.items) (sym c.self.view_is) c.requires.ready in
    let first : c.first_block.result ≡ get_or c.args.prepared.blocks.items 0 0 = c.first_block.ensures ∙ ap (λ (bs : List ℕ). get_or bs 0 0) c.deref.ensures.value in
    let root = root_is c.self.inside.gate.root c.args.prepared.text.items c.args.prepared.blocks.items c.args.tag c.first_block.result c.len.result first (omega (arith, c.len.ensures, c.args.prepared.text.ok)) in
    subst (λ (s : Seen). (old : Content) → IsAtRest old s.named (disk s.side (now (g.W.World.log c.args.world.now))) → IsCovered old s c.args.prepared.log.items
    → (b : ℕ) → 0 < in_data b s.records → (disk s.side (now (g.W.World.log c.write_out.new.world))).bytes b ≡ (disk s.side (now (g.W.World.log c.args.world.now))).bytes b) c.self.view_is
    (λ old rest covered. c.in_ok-write_out.ensures.data told old (next_content c.args.prepared.blocks.items c.args.prepared.text.items c.args.tag m) rest (beside m c.self.invariant _ _ _ ready old c.args.tag covered) (record { blocks_are = c.deref-3.ensures.value; text_is = c.deref-2.ensures.value ∙ ready.text_is; root_is = root }))

pub first_block-requires : goal.first_block-requires
first_block-requires g c = omega (arith, some_block _ _ _ _ c.requires.ready, ap length c.deref.ensures.value)
