-- What a reply prints reads as what was printed.
use Rattle.std.specs.Prelude.{ℕ, ◌≤◌, ◌<◌, ◌^◌, List, All, length}
use Rattle.tm_base.specs.Limits.{max_names}
use Rattle.tm_base.specs.Days.{last_moment}
use Rattle.tm_base.specs.IsName.{IsName}
use Rattle.tm_reply.specs.Escapes.{printed_word, printed_path, printed_id}
use Rattle.tm_reply.specs.Rows.{snapshot_path}
use Rattle.tm_text.specs.Words.{IsNameWord, IsPath, IsId, IsSnapshot}
use Rattle.tm_text.specs.declared.place.Which.TheVariants as which

abbrev pub PrintedNamesRead : Type 0
PrintedNamesRead = (name : List ℕ) → IsName name → IsNameWord (printed_word name) name

abbrev pub PrintedPathsRead : Type 0
PrintedPathsRead = (path : List (List ℕ)) → All IsName path → length path ≤ max_names → IsPath (printed_path path) path

abbrev pub PrintedIdsRead : Type 0
PrintedIdsRead = (id : ℕ) → id < 2 ^ 128 → IsId (printed_id id) id

-- the path of a snapshot, as `tmutil listbackups` prints it, is a store path of that snapshot
abbrev pub PrintedSnapshotsRead : Type 0
PrintedSnapshotsRead =
    (machine : List ℕ) (date : ℕ) → IsName machine → date ≤ last_moment
    → IsSnapshot (snapshot_path machine date) (record { machine = machine; at = which.At date })
