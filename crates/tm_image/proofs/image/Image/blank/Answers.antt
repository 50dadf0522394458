use Rattle.std.proofs.Common.{◌≡◌, ◌<◌, ◌≤◌, ◌∙◌, ℕ, List, [], length, get_or, ap, sym, subst, arith}
use Rattle.tm_world.specs.Disk.{Disk}
use Rattle.tm_world.specs.Outside.{disk}
use Rattle.tm_world.specs.Log.{Log, now, Steps}
use Rattle.tm_world.proofs.Going.{Runs-none}
use Rattle.tm_world.specs.declared.world.Side.{Side}
use Rattle.tm_gate.specs.Gate.{IsGate}
use Rattle.tm_gate.specs.declared.root.Root.{Root}
use Rattle.tm_blockmap.specs.Counts.{times, IsDistinct}
use Rattle.tm_records.specs.Puts.{with_puts}
use Rattle.tm_image.specs.Content.{IsAtRest}
use Rattle.tm_image.specs.Seen.{IsSound}
use Rattle.tm_image.specs.Blank.{IsDraft}
use Rattle.tm_image.proofs.First.{IsFirstRoot, some_block, high, once, within, sound, space, blank_run, blank_rest, read_blank, blank_gate}
use Rattle.tm_image.proofs.image.Image.blank.Goals as goal

pub returns-in_err-records-clause-any_moment : goal.returns-in_err-records-clause-any_moment
returns-in_err-records-clause-any_moment g c told = Runs-none c.args.side _ (g.W.World.log c.args.world.now)

pub returns-in_err-named-clause-any_moment : goal.returns-in_err-named-clause-any_moment
returns-in_err-named-clause-any_moment g c told =
    let l0 = g.W.World.log c.args.world.now in
    let l1 = g.W.World.log c.read_named.new.world in
    let is : IsDraft _ _ _ _ _ = c.in_ok-records.ensures.is in
    let least : 3 ≤ c.args.blocks = omega (arith, c.in_ok-records.ensures.is.room) in
    read_blank c.args.side l0 l1 _ c.args.tag (c.read_named.ensures.steps told) (c.requires.blank told least)

pub first_block-requires : goal.first_block-requires
first_block-requires g c = omega (arith, some_block _ _ _ _ _ c.in_ok-records.ensures.is, ap length c.deref.ensures.value)

pub write_out-requires-clause-within : goal.write_out-requires-clause-within
write_out-requires-clause-within g c = subst (λ bs. (k : ℕ) → k < length bs → get_or bs k 0 < g.W.World.blocks c.read_named.new.world c.args.side) (sym c.deref-3.ensures.value)
    (within _ _ _ _ _ c.in_ok-records.ensures.is _ (ap (λ (f : Side → ℕ). f c.args.side) c.in_ok-named.ensures.blocks ∙ c.requires.count))

pub write_out-requires-clause-once : goal.write_out-requires-clause-once
write_out-requires-clause-once g c = subst IsDistinct (sym c.deref-3.ensures.value) (once _ _ _ _ _ c.in_ok-records.ensures.is)

pub write_out-requires-clause-high : goal.write_out-requires-clause-high
write_out-requires-clause-high g c = subst (λ bs. (b : ℕ) → 0 < times b bs → 3 ≤ b) (sym c.deref-3.ensures.value) (high _ _ _ _ _ c.in_ok-records.ensures.is)

-- the disk before the first write
same : (side : Side) (l0 l1 : Log) → Steps l0 l1 (now l0) → disk side (now l1) ≡ disk side (now l0)
same side l0 l1 steps = ap (disk side) steps.ends

pub write_out-requires-clause-gate : goal.write_out-requires-clause-gate
write_out-requires-clause-gate g c told =
    let l0 = g.W.World.log c.args.world.now in
    let l1 = g.W.World.log c.read_named.new.world in
    let least : 3 ≤ c.args.blocks = omega (arith, c.in_ok-records.ensures.is.room) in
    subst (λ (d : Disk). IsGate d c.in_ok-named.named (d.bytes c.in_ok-named.named)) (sym (same c.args.side l0 l1 (c.in_ok-named.ensures.steps told)))
    (blank_gate (disk c.args.side (now l0)) c.in_ok-named.named (c.requires.blank told least) (c.in_ok-named.ensures.named told))

pub returns-in_err-write_out-clause-any_moment : goal.returns-in_err-write_out-clause-any_moment
returns-in_err-write_out-clause-any_moment g c told =
    let l0 = g.W.World.log c.args.world.now in
    let l1 = g.W.World.log c.read_named.new.world in
    let l2 = g.W.World.log c.write_out.new.world in
    let is = c.in_ok-records.ensures.is in
    let d = c.in_ok-records.field-0 in
    let root : IsFirstRoot c.args.side d.table.items d.text.items c.args.tag c.new-root.result = record {
      is_tag = c.requires.tag;
      kind = c.new-root.ensures.kind;
      version = c.new-root.ensures.version;
      first = c.new-root.ensures.first ∙ c.first_block.ensures ∙ ap (λ (bs : List ℕ). get_or bs 0 0) c.deref.ensures.value;
      table_len = omega (arith, c.new-root.ensures.table_len, c.len.ensures, d.text.ok);
      tag_is = c.new-root.ensures.tag;
    } in
    let least : 3 ≤ c.args.blocks = omega (arith, is.room) in
    blank_run _ _ _ _ _ is c.args.side c.args.tag c.new-root.result root (with_puts c.args.put.items []) c.in_ok-records.ensures.records _ _ c.deref-3.ensures.value c.deref-2.ensures.value l0 l1 l2
    (c.in_ok-named.ensures.steps told) (g.met.W.World.counts told c.args.world.now c.args.side ∙ c.requires.count) (c.requires.blank told least) (c.write_out.ensures.first_moment told)

pub returns-clause-any_moment : goal.returns-clause-any_moment
returns-clause-any_moment g c told =
    let l0 = g.W.World.log c.args.world.now in
    let l1 = g.W.World.log c.read_named.new.world in
    let l2 = g.W.World.log c.write_out.new.world in
    let is = c.in_ok-records.ensures.is in
    let d = c.in_ok-records.field-0 in
    let root : IsFirstRoot c.args.side d.table.items d.text.items c.args.tag c.new-root.result = record {
      is_tag = c.requires.tag;
      kind = c.new-root.ensures.kind;
      version = c.new-root.ensures.version;
      first = c.new-root.ensures.first ∙ c.first_block.ensures ∙ ap (λ (bs : List ℕ). get_or bs 0 0) c.deref.ensures.value;
      table_len = omega (arith, c.new-root.ensures.table_len, c.len.ensures, d.text.ok);
      tag_is = c.new-root.ensures.tag;
    } in
    let least : 3 ≤ c.args.blocks = omega (arith, is.room) in
    blank_run _ _ _ _ _ is c.args.side c.args.tag c.new-root.result root (with_puts c.args.put.items []) c.in_ok-records.ensures.records _ _ c.deref-3.ensures.value c.deref-2.ensures.value l0 l1 l2
    (c.in_ok-named.ensures.steps told) (g.met.W.World.counts told c.args.world.now c.args.side ∙ c.requires.count) (c.requires.blank told least) (c.write_out.ensures.first_moment told)

pub returns-clause-stands : goal.returns-clause-stands
returns-clause-stands g c told =
    let l0 = g.W.World.log c.args.world.now in
    let l1 = g.W.World.log c.read_named.new.world in
    let l2 = g.W.World.log c.write_out.new.world in
    let is = c.in_ok-records.ensures.is in
    let d = c.in_ok-records.field-0 in
    let root : IsFirstRoot c.args.side d.table.items d.text.items c.args.tag c.new-root.result = record {
      is_tag = c.requires.tag;
      kind = c.new-root.ensures.kind;
      version = c.new-root.ensures.version;
      first = c.new-root.ensures.first ∙ c.first_block.ensures ∙ ap (λ (bs : List ℕ). get_or bs 0 0) c.deref.ensures.value;
      table_len = omega (arith, c.new-root.ensures.table_len, c.len.ensures, d.text.ok);
      tag_is = c.new-root.ensures.tag;
    } in
    subst (λ (r : Root). IsAtRest (record { blocks = length d.map; records = d.records.entries; layout = d.table.items; root = r }) c.write_out.new.gate.named (disk c.args.side (now l2))) (sym c.in_ok-write_out.ensures.root)
    (blank_rest _ _ _ _ _ is c.args.side c.args.tag c.new-root.result root (with_puts c.args.put.items []) c.in_ok-records.ensures.records _ _ c.deref-3.ensures.value c.deref-2.ensures.value l0 l1 l2
    (c.in_ok-named.ensures.steps told) (g.met.W.World.counts told c.args.world.now c.args.side ∙ c.requires.count) c.write_out.new.gate.named (c.in_ok-write_out.ensures.first_at_rest told))

pub invariant_of-result : goal.invariant_of-result
invariant_of-result g c =
    let is = c.in_ok-records.ensures.is in
    let d = c.in_ok-records.field-0 in
    let root : IsFirstRoot c.args.side d.table.items d.text.items c.args.tag c.new-root.result = record {
      is_tag = c.requires.tag;
      kind = c.new-root.ensures.kind;
      version = c.new-root.ensures.version;
      first = c.new-root.ensures.first ∙ c.first_block.ensures ∙ ap (λ (bs : List ℕ). get_or bs 0 0) c.deref.ensures.value;
      table_len = omega (arith, c.new-root.ensures.table_len, c.len.ensures, d.text.ok);
      tag_is = c.new-root.ensures.tag;
    } in
    subst (λ (r : Root). IsSound (record { side = c.args.side; records = d.records.entries; used = d.map; layout = d.table.items; root = r; named = c.write_out.new.gate.named })) (sym c.in_ok-write_out.ensures.root)
    (sound _ _ _ _ _ is c.args.side c.args.tag c.new-root.result root c.write_out.new.gate.named c.write_out.new.gate.in_range.0 c.write_out.new.gate.in_range.1)

pub returns-clause-sound : goal.returns-clause-sound
returns-clause-sound g c =
    let is = c.in_ok-records.ensures.is in
    let d = c.in_ok-records.field-0 in
    let root : IsFirstRoot c.args.side d.table.items d.text.items c.args.tag c.new-root.result = record {
      is_tag = c.requires.tag;
      kind = c.new-root.ensures.kind;
      version = c.new-root.ensures.version;
      first = c.new-root.ensures.first ∙ c.first_block.ensures ∙ ap (λ (bs : List ℕ). get_or bs 0 0) c.deref.ensures.value;
      table_len = omega (arith, c.new-root.ensures.table_len, c.len.ensures, d.text.ok);
      tag_is = c.new-root.ensures.tag;
    } in
    subst (λ (r : Root). IsSound (record { side = c.args.side; records = d.records.entries; used = d.map; layout = d.table.items; root = r; named = c.write_out.new.gate.named })) (sym c.in_ok-write_out.ensures.root)
    (sound _ _ _ _ _ is c.args.side c.args.tag c.new-root.result root c.write_out.new.gate.named c.write_out.new.gate.in_range.0 c.write_out.new.gate.in_range.1)

pub returns-clause-space : goal.returns-clause-space
returns-clause-space g c =
    let is = c.in_ok-records.ensures.is in
    let d = c.in_ok-records.field-0 in
    let root : IsFirstRoot c.args.side d.table.items d.text.items c.args.tag c.new-root.result = record {
      is_tag = c.requires.tag;
      kind = c.new-root.ensures.kind;
      version = c.new-root.ensures.version;
      first = c.new-root.ensures.first ∙ c.first_block.ensures ∙ ap (λ (bs : List ℕ). get_or bs 0 0) c.deref.ensures.value;
      table_len = omega (arith, c.new-root.ensures.table_len, c.len.ensures, d.text.ok);
      tag_is = c.new-root.ensures.tag;
    } in
    space _ _ _ _ _ is c.args.side c.args.tag c.new-root.result root c.write_out.new.gate.named
