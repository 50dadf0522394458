-- What a part of the session answers and leaves.
use Rattle.std.specs.Prelude.{◌≡◌, ℕ, Option, Some, None, Result, Ok, Err, List, [], ◌∷◌}
use Rattle.tm_base.specs.declared.refused.LineFault.{LineFault}
use Rattle.tm_base.specs.declared.refused.LineFault.TheVariants.{Refused as RefusedFor, Fault, Memory}
use Rattle.tm_base.specs.declared.refused.Refused.{Refused}
use Rattle.tm_reply.specs.declared.row.ReplyRow.{ReplyRow}
use Rattle.std.specs.List.{filter_map}
use Rattle.tm_base.specs.Paths.{Names}
use Rattle.tm_base.specs.declared.refused.Refused.TheVariants.{NoSnapshot}
use Rattle.tm_graph.specs.Nodes.{Nodes, node, entries_of as entries_in}
use Rattle.tm_store_records.specs.States.{item_on}
use Rattle.tm_tree.specs.declared.node.NodeRow.{NodeRow}
use Rattle.tm_tree.specs.Copies.{bare}
use Rattle.tm_tree.specs.Listings.{entries_of}
use Rattle.tm_tree.specs.Refusing.{Tests, first_refused}
use Rattle.tm_tree.specs.States.{Snapshot}
use Rattle.tm_tree.specs.Walks.{walk}
use Rattle.tm_machine.specs.Queries.{read_item}
use Rattle.tm_machine.specs.declared.store.StoredItem.{StoredItem}

-- by the tests of a line, its data lines and the state after it: done exactly where no test
-- refuses it, and refused without a change where one does
abbrev pub AnswersBy : {S : Type 0} → Tests → List ReplyRow → S → S → S → Result (List ReplyRow) LineFault → Type 0
AnswersBy tested data_lines after old new (Ok found) = (first_refused tested ≡ None) × (found ≡ data_lines) × (new ≡ after)
AnswersBy tested data_lines after old new (Err (RefusedFor why)) = (first_refused tested ≡ Some why) × (new ≡ old)
AnswersBy tested data_lines after old new (Err (Fault side)) = ⊥
AnswersBy tested data_lines after old new (Err Memory) = Unit {0}

-- what a part that only reads answers, by its tests and data lines
abbrev pub AnswersQuery : Tests → List ReplyRow → Result (List ReplyRow) LineFault → Type 0
AnswersQuery tested data_lines (Ok found) = (first_refused tested ≡ None) × (found ≡ data_lines)
AnswersQuery tested data_lines (Err (RefusedFor why)) = first_refused tested ≡ Some why
AnswersQuery tested data_lines (Err (Fault side)) = ⊥
AnswersQuery tested data_lines (Err Memory) = Unit {0}

-- the same of a part that reads the images
abbrev pub AnswersReading : Tests → List ReplyRow → Result (List ReplyRow) LineFault → Type 0
AnswersReading tested data_lines (Ok found) = (first_refused tested ≡ None) × (found ≡ data_lines)
AnswersReading tested data_lines (Err (RefusedFor why)) = first_refused tested ≡ Some why
AnswersReading tested data_lines (Err (Fault side)) = Unit {0}
AnswersReading tested data_lines (Err Memory) = Unit {0}

-- this data line alone, or want of memory
abbrev pub IsRow : ReplyRow → Result (List ReplyRow) LineFault → Type 0
IsRow row (Ok found) = found ≡ row ∷ []
IsRow row (Err (RefusedFor why)) = ⊥
IsRow row (Err (Fault side)) = ⊥
IsRow row (Err Memory) = Unit {0}

-- ---- stored items

-- the node stands at the path of the snapshot: the walk comes to its item, and its entries are what stands in that
pub record HoldsNode (snapshot : Snapshot) (path : Names) (files : ℕ → List ℕ) (g : Nodes) (number : ℕ) (row : NodeRow) : Type 0 where
  pub is : node g number ≡ Some row
  pub walks : walk (bare snapshot.tree) path ≡ Ok (item_on (files number) row.body)
  pub entries : entries_of (bare snapshot.tree) path ≡ filter_map (read_item files g) (entries_in row)

-- there is no snapshot, or the walk in it ends so
abbrev pub MissesIn : Option Snapshot → Names → Refused → Type 0
MissesIn None path why = why ≡ NoSnapshot
MissesIn (Some snapshot) path why = walk (bare snapshot.tree) path ≡ Err why

-- what a look for a stored item finds
abbrev pub FindsIn : Option Snapshot → Names → (ℕ → List ℕ) → Nodes → Result StoredItem LineFault → Type 0
FindsIn None path files g (Ok found) = ⊥
FindsIn (Some snapshot) path files g (Ok found) = HoldsNode snapshot path files g found.number found.row.now
FindsIn o path files g (Err (RefusedFor why)) = MissesIn o path why
FindsIn o path files g (Err (Fault side)) = ⊥
FindsIn o path files g (Err Memory) = Unit {0}
