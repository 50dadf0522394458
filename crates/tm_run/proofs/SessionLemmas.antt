-- A session while its replies are said.
use Rattle.std.proofs.Common.{◌≡◌, List, refl, sym, subst}
use Rattle.std.specs.Option.{option_map}
use Rattle.tm_store_records.specs.Held.{store_stored_on}
use Rattle.tm_volume.specs.Seen.{stored_on}
use Rattle.tm_machine.specs.Session.{Seen, Standing, VolumeStands, StoreStands, state_on}
use Rattle.tm_machine.specs.States.{Stored}
use Rattle.tm_machine.specs.Stops.{LeavesCommits}
use Rattle.tm_world.specs.Disk.{Disk}
use Rattle.tm_world.specs.Log.{Log, now, Passes}
use Rattle.tm_world.specs.Outside.{Outside}
use Rattle.tm_world.specs.declared.world.Side.TheVariants.{Volume as VolumeSide, Store as StoreSide}
use Rattle.tm_world.proofs.Going.{Passes-now, Passes-weaker}
use Rattle.tm_run.specs.Pairs.{KeepsPair}

pub standing_kept : (m : Seen) (old new : Outside) → KeepsPair old new → Standing m old → Standing m new
standing_kept m old new keeps standing = record {
  apart = keeps.apart standing.apart;
  volume_side = subst (λ (d : Disk). VolumeStands m.volume d) (sym (keeps.sides VolumeSide)) standing.volume_side;
  store_side = subst (λ (d : Disk). StoreStands m.store d) (sym (keeps.sides StoreSide)) standing.store_side;
}

pub state_kept : (m : Seen) (old new : Outside) → KeepsPair old new → state_on m new ≡ state_on m old
state_kept m old new keeps = λ i. record {
  volume_blocks = m.volume_blocks;
  store_blocks = m.store_blocks;
  volume = option_map (λ v. stored_on v (keeps.sides VolumeSide i).bytes) m.volume;
  store = option_map (λ h. store_stored_on h (keeps.sides StoreSide i).bytes) m.store;
  moment = m.moment;
}

-- nothing is said within a line
pub line_silent : (first : Stored) (later : List Stored) (old new : Log) → Passes old new (LeavesCommits first later (now old)) → (now new).said ≡ (now old).said
line_silent first later old new passes =
    Passes-now old new (λ o. o.said ≡ (now old).said) (Passes-weaker old new _ (λ o. o.said ≡ (now old).said) (λ o h. h.said) passes) refl
