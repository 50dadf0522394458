-- Heads: what reading gives.
use Rattle.std.proofs.Common.{refl, ap, append_assoc}
use Rattle.std.proofs.lemmas.List.{append-nil}
use Rattle.tm_base.specs.IsName.{IsName}
use Rattle.tm_nodes.specs.declared.volume.VolumeHead.{VolumeHead}
use Rattle.tm_nodes.specs.declared.snapshot.SnapshotRow.{SnapshotRow}
use Rattle.tm_nodes.specs.Headers.{volume_text, machine_text, snapshot_text, IsVolumeHead, IsSnapshotRow}
use Rattle.tm_nodes.specs.Reading.{volume_at, snapshot_at}
use Rattle.tm_nodes.specs.Records.{volume_of, machine_of, snapshot_of}
use Rattle.tm_nodes.proofs.Formats.{IsReader, Finds, alike, then_reads, done_reads, whole_finds}
use Rattle.tm_nodes.proofs.Numbers.{u32_reads, u64_reads, u128_reads}
use Rattle.tm_nodes.proofs.Fields.{name_reads, moment_reads}

volume_reads : IsReader volume_at IsVolumeHead volume_text
unfolding volume_at volume_text
volume_reads = alike
    (then_reads (λ head. head.id) u128_reads
    (λ id. then_reads (λ head. head.capacity) u32_reads
    (λ capacity. then_reads (λ head. head.name) name_reads
    (λ name. done_reads (record { id = id; capacity = capacity; name = name }))
    (λ v head is e. ap (λ (h : VolumeHead). h.name) e))
    (λ v head is kept. ap (λ (h : VolumeHead). h.capacity) kept.1))
    (λ v head is kept. ap (λ (h : VolumeHead). h.id) kept.1.1))
    (λ head kept. record { id = kept.0; capacity = kept.1.0; name = kept.1.1.0 })
    (λ head is. (is.id, (is.capacity, (is.name, refl))))
    (λ head is. simp (append_assoc, append-nil))

snapshot_reads : IsReader snapshot_at IsSnapshotRow snapshot_text
unfolding snapshot_at snapshot_text
snapshot_reads = alike
    (then_reads (λ row. row.date) moment_reads
    (λ date. then_reads (λ row. row.id) u128_reads
    (λ id. then_reads (λ row. row.mark.generation) u64_reads
    (λ generation. then_reads (λ row. row.mark.cursor) u64_reads
    (λ cursor. then_reads (λ row. row.volume) name_reads
    (λ volume. then_reads (λ row. row.root) u64_reads
    (λ root. done_reads (record { date = date; id = id; mark = record { generation = generation; cursor = cursor }; volume = volume; root = root }))
    (λ v row is e. ap (λ (r : SnapshotRow). r.root) e))
    (λ v row is kept. ap (λ (r : SnapshotRow). r.volume) kept.1))
    (λ v row is kept. ap (λ (r : SnapshotRow). r.mark.cursor) kept.1.1))
    (λ v row is kept. ap (λ (r : SnapshotRow). r.mark.generation) kept.1.1.1))
    (λ v row is kept. ap (λ (r : SnapshotRow). r.id) kept.1.1.1.1))
    (λ v row is kept. ap (λ (r : SnapshotRow). r.date) kept.1.1.1.1.1))
    (λ row kept. record { date = kept.0; id = kept.1.0; generation = kept.1.1.0; cursor = kept.1.1.1.0; volume = kept.1.1.1.1.0; root = kept.1.1.1.1.1.0 })
    (λ row is. (is.date, (is.id, (is.generation, (is.cursor, (is.volume, (is.root, refl)))))))
    (λ row is. simp (append_assoc, append-nil))

pub volume_finds : Finds volume_of IsVolumeHead volume_text
unfolding volume_of
volume_finds = whole_finds volume_reads

pub machine_finds : Finds machine_of IsName machine_text
unfolding machine_of
machine_finds = whole_finds name_reads

pub snapshot_finds : Finds snapshot_of IsSnapshotRow snapshot_text
unfolding snapshot_of
snapshot_finds = whole_finds snapshot_reads
