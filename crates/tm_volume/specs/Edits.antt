-- What a change writes, in records and in the index.
use Rattle.std.specs.Prelude.{◌≡◌, ℕ, ◌≤◌, ◌<◌, ◌^◌, Option, Some, None, List, unwrap_or}
use Rattle.std.specs.Option.{option_map}
use Rattle.std.specs.List.{All}
use Rattle.std.specs.List.Sorted.{IsStrictlyIncreasing}
use Rattle.tm_image.specs.Commit.{changed, released_by, IsPut}
use Rattle.tm_base.specs.declared.refused.Refused.{Refused}
use Rattle.tm_base.specs.declared.refused.Refused.TheVariants.{Full}
use Rattle.tm_image.specs.Room.{need_of, table_len, free_of}
use Rattle.tm_image.specs.Seen.{HasSameImage}
use Rattle.tm_items.specs.Index.{Numbers, IsIndex, SetsAt}
use Rattle.tm_items.specs.Places.{at_name}
use Rattle.tm_items.specs.Rules.{IsSound}
use Rattle.tm_nodes.specs.Records.{volume_of, paths_of}
use Rattle.tm_records.specs.declared.record.Body.{Body}
use Rattle.tm_records.specs.declared.record.Body.TheVariants.{Kept, Empty, New}
use Rattle.tm_records.specs.declared.record.Put.{Put}
use Rattle.tm_records.specs.Records.{at}
use Rattle.tm_volume.specs.declared.edit.Edit.{Edit}
use Rattle.tm_volume.specs.declared.edit.Entered.{Entered}
use Rattle.tm_volume.specs.declared.edit.Left.{Left}
use Rattle.tm_volume_records.specs.Records.{head_key, item_key, entry_at}
use Rattle.tm_volume_records.specs.Rules.{Tag, IsGoodVolume}
use Rattle.tm_volume.specs.Seen.{Seen, entries_on, items_on}
use Rattle.tm_base.specs.Limits.{max_file_bytes}

-- the tag after a change: the mark is off
abbrev pub next_tag : Seen → Edit → Tag
next_tag m e = record { clean = 0; generation = m.tag.generation; next = e.next }

-- the volume in memory after it, wherever its table lies
abbrev pub after : Seen → Edit → Seen
after m e = record {
  image = record m.image { records = changed e.remove.items e.put.items m.image.records };
  head = m.head;
  fixed = unwrap_or e.fixed m.fixed;
  tag = next_tag m e;
  looks = m.looks;
}

-- a name that gets its number in the index
abbrev pub Enters : Option Entered → Numbers → Numbers → Type 0
Enters None old new = new ≡ old
Enters (Some e) old new = SetsAt (at_name e.parent e.name) (Some e.number) old new

-- that number is taken out again
abbrev pub Forgets : Option Entered → Numbers → Numbers → Type 0
Forgets None old new = new ≡ old
Forgets (Some e) old new = SetsAt (at_name e.parent e.name) None old new

-- a name that loses its number
abbrev pub Leaves : Option Left → Numbers → Numbers → Type 0
Leaves None old new = new ≡ old
Leaves (Some l) old new = SetsAt (at_name l.parent l.name) None old new

-- it has none yet
abbrev pub IsFree : Option Entered → Numbers → Type 0
IsFree None numbers = Unit {0}
IsFree (Some e) numbers = numbers (at_name e.parent e.name) ≡ None

-- data with no more bytes than a file may have
abbrev pub IsShortBody : Body → Type 0
IsShortBody Kept = Unit {0}
IsShortBody Empty = Unit {0}
IsShortBody (New blob) = blob.length ≤ max_file_bytes

-- a put that brings an item no more than that
abbrev pub IsShortPut : Put → Type 0
IsShortPut p = (n : ℕ) → 1 ≤ n → p.key ≡ item_key n → IsShortBody p.body

-- an edit that can be made: the items stay sound, whatever the bytes of their data, and the index follows
pub record IsEdit (m : Seen) (e : Edit) : Type 0 where
  pub rising : IsStrictlyIncreasing e.remove.items
  pub put : All (IsPut m.image.records) e.put.items
  pub lengths : All IsShortPut e.put.items
  pub head : option_map (λ r. volume_of r.meta) (at head_key (changed e.remove.items e.put.items m.image.records)) ≡ Some (Some m.head)
  pub next_least : m.tag.next ≤ e.next
  pub next_most : e.next ≤ 2 ^ 62
  pub sound : (bytes : ℕ → List ℕ) → IsSound (items_on (after m e) bytes)
  pub free : (bytes : ℕ → List ℕ) (numbers : Numbers) → IsIndex (items_on m bytes) numbers → IsFree e.enter numbers
  pub index_is : (bytes : ℕ → List ℕ) (old between new : Numbers) → IsIndex (items_on m bytes) old → Enters e.enter old between
      → Leaves e.leave between new → IsIndex (items_on (after m e) bytes) new

-- after it the entries keep the rules, and the data of the head are the fixed paths
pub record IsGoodEdit (m : Seen) (e : Edit) (bytes : ℕ → List ℕ) : Type 0 where
  pub good : IsGoodVolume (entries_on (after m e) bytes) (next_tag m e)
  pub fixed : option_map (λ d. paths_of d.bytes) (entry_at head_key (entries_on (after m e) bytes)) ≡ Some (Some (unwrap_or e.fixed m.fixed))

-- but for the blocks that were staged, all is as before
pub record IsBack (old new : Seen) : Type 0 where
  pub image : HasSameImage old.image new.image
  pub rest : new ≡ record old { image = new.image }

-- how many blocks its commit needs
abbrev pub need_of_edit : Seen → Edit → ℕ
need_of_edit m e = need_of (table_len m.image.records) (table_len (after m e).image.records) (released_by e.remove.items e.put.items m.image.records)

-- by the rule of room so many are needed, and fewer are free
pub record IsFullEdit (m : Seen) (e : Edit) (why : Refused) : Type 0 where
  pub is : why ≡ Full (need_of_edit m e) (free_of m.image)
  pub less : free_of m.image < need_of_edit m e
