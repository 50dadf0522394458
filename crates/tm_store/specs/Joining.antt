-- What a backup built, in memory before its commit.
use Rattle.std.specs.Prelude.{ℕ, List, ◌∷◌, ◌++◌, []}
use Rattle.tm_records.specs.declared.record.Put.{Put}
use Rattle.tm_image.specs.Seen.{Seen}
use Rattle.tm_image.specs.Room.{need_of, table_len}
use Rattle.tm_image.specs.Commit.{changed, released_by}
use Rattle.tm_graph.specs.declared.built.Built.{Built}
use Rattle.tm_graph.specs.Growing.{grown}
use Rattle.tm_store_records.specs.declared.snapshot.Snapshot.{Snapshot}
use Rattle.tm_store_records.specs.Held.{Held}

-- the new nodes with exact links, and a snapshot more
abbrev pub joined : Held → Built → Snapshot → Held
joined h built s = record h { nodes = grown h.nodes built.nodes built.root; snapshots = h.snapshots ++ s ∷ [] }

-- how many free blocks the commit of these records needs: it removes none
abbrev pub need_to_put : Seen → List Put → ℕ
need_to_put image puts = need_of (table_len image.records) (table_len (changed [] puts image.records)) (released_by [] puts image.records)
