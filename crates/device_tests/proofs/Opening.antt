-- A synced disk is a gate at rest.
use Rattle.std.proofs.Common.{◌≡◌, ℕ, refl, ◌∙◌, ap}
use Rattle.tm_world.specs.Disk.{Disk, synced}
use Rattle.tm_world.specs.Outside.{disk, put_disk}
use Rattle.tm_world.specs.Log.{Log, now, Steps}
use Rattle.tm_world.specs.declared.world.Side.{Side}
use Rattle.tm_world.proofs.Disks.{loose_synced}
use Rattle.tm_world.proofs.Going.{disk_after}
use Rattle.tm_gate.specs.Selector.{named_by}
use Rattle.tm_gate.specs.Gate.{IsGate}

pub at_rest : (side : Side) (l0 l1 l2 : Log) (named : ℕ) → Steps l0 l1 (put_disk side (synced (disk side (now l0))) (now l0)) → Steps l1 l2 (now l1)
    → named_by ((disk side (now l1)).bytes 0) ≡ named → IsGate (disk side (now l2)) named ((disk side (now l2)).bytes named)
at_rest side l0 l1 l2 named syncs stays selected =
    let same : disk side (now l2) ≡ disk side (now l1) = ap (disk side) stays.ends in
    let stable : disk side (now l2) ≡ synced (disk side (now l0)) = same ∙ disk_after side l0 l1 _ syncs in
    record {
      selected = ap (λ (d : Disk). named_by (d.bytes 0)) same ∙ selected;
      holds = refl;
      selector_stable = ap (λ (d : Disk). d.loose 0) stable ∙ loose_synced _ 0;
      slot_stable = ap (λ (d : Disk). d.loose named) stable ∙ loose_synced _ named;
    }
