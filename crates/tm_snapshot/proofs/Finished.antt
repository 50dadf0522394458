-- The store with the grown records is the completed one.
use Rattle.std.proofs.Common.{◌≡◌, ℕ, ◌+◌, Some, List, [], ◌∷◌, ◌++◌, map, sym, ap, ◌∙◌, subst}
use Rattle.tm_records.specs.Records.{Records}
use Rattle.tm_image.specs.Reads.{entries_of}
use Rattle.tm_store_records.specs.Heads.{RecordHeads, heads_in, heads_of}
use Rattle.tm_store_records.specs.Held.{files_of}
use Rattle.tm_store_records.specs.Built.{snapshot_built, store_completed}
use Rattle.tm_store_records.specs.Found.{machine_in, nodes_in, snapshots_in}
use Rattle.tm_store_records.specs.Rules.{IsGoodStore}
use Rattle.tm_store_records.specs.States.{StoreIs, files_in, snapshot_on}
use Rattle.tm_store_records.proofs.Storing.{heads_are, files_are}
use Rattle.tm_snapshot.specs.Growth.{AreGrown}
use Rattle.tm_snapshot.proofs.Finishing.{Finishing, parts}
use Rattle.tm_snapshot.proofs.Olds.{wide}
use Rattle.tm_snapshot.proofs.Filed.{snapshots_are}

module _ (f : Finishing)
    (records : Records) (is : AreGrown f.h f.built f.date f.volume f.id f.mark records) (bytes : ℕ → List ℕ) where
  open f use {h, built, date, volume, id, mark, may, found}
  open parts f use {after}

  abbrev files : ℕ → List ℕ
  files = files_of records bytes

  pub is_completed : map (snapshot_on files after) (h.snapshots ++ snapshot_built h built date volume id mark ∷ []) ≡ (store_completed h built date volume id mark bytes).snapshots
  is_completed = snapshots_are h built may.whole may.is_built (wide may.few) found bytes files (is.files_are bytes) date volume id mark

  -- and its entries on a disk are that store's
  heads_same : heads_of records ≡ heads_in (entries_of bytes records)
  heads_same = sym (heads_are records bytes)

  pub is_stored : StoreIs (entries_of bytes records) (store_completed h built date volume id mark bytes)
  is_stored = record {
    good = subst (λ (heads : RecordHeads). IsGoodStore heads (h.number + 1)) heads_same is.good;
    machine = subst (λ (heads : RecordHeads). machine_in heads ≡ Some h.machine) heads_same is.machine_is;
    snapshots =
        sym is_completed
        ∙ ap (λ (fs : ℕ → List ℕ). map (snapshot_on fs after) (h.snapshots ++ snapshot_built h built date volume id mark ∷ [])) (sym (files_are records bytes))
        ∙ (λ i. map (snapshot_on (files_in (entries_of bytes records)) (sym is.nodes_are i)) (sym is.snapshots_are i))
        ∙ ap (λ (heads : RecordHeads). map (snapshot_on (files_in (entries_of bytes records)) (nodes_in heads)) (snapshots_in heads)) heads_same;
  }
