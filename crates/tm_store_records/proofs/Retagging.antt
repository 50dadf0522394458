-- Another date in the tag.
use Rattle.std.proofs.Common.{◌≡◌, ◌<◌, ◌≤◌, ◌+◌, ◌-◌, ◌^◌, ℕ, slice_index, length, map, List, [], arith, Option, Some, refl, sym, ap, ◌∙◌, subst}
use Rattle.tm_world.specs.Outside.{disk}
use Rattle.tm_world.specs.Log.{Log, now}
use Rattle.tm_world.specs.Runs.{Runs}
use Rattle.tm_world.specs.declared.world.Side.{Side}
use Rattle.tm_world.specs.declared.world.Side.TheVariants.{Store}
use Rattle.tm_world.proofs.Going.{Runs-weaker}
use Rattle.tm_records.specs.Records.{Records}
use Rattle.tm_blockmap.specs.Counts.{times}
use Rattle.tm_image.specs.Content.{in_data}
use Rattle.tm_image.specs.Reads.{LeavesOneOf, entries_of, kept}
use Rattle.tm_image.specs.Seen.{Seen, IsSound, IsSettled, HasSameImage, staged}
use Rattle.tm_image.specs.Room.{HasRoom, AreStaged, free_of}
use Rattle.tm_gate.specs.declared.root.Root.{Root}
use Rattle.tm_table.specs.Text.{table_text}
use Rattle.std.specs.List.{All}
use Rattle.tm_base.specs.Limits.{max_snapshots}
use Rattle.tm_store_records.specs.declared.snapshot.Snapshot.{Snapshot}
use Rattle.tm_store_records.specs.Heads.{heads_of}
use Rattle.tm_store_records.specs.Found.{machine_in, nodes_in, snapshots_in}
use Rattle.tm_store_records.specs.Rules.{IsGoodStore}
use Rattle.tm_store_records.specs.Tags.{tag_of, FitsTag}
use Rattle.tm_store_records.specs.States.{LeavesStore, snapshot_on, files_in}
use Rattle.tm_store_records.specs.Held.{Held, IsWhole, MayFinish, store_on, store_stored_on, files_of}
use Rattle.tm_store_records.proofs.Storing.{store_is, files_are}
use Rattle.tm_store_records.proofs.Leaving.{leaves_store}

-- a run that leaves the old tag or this one leaves the store with the one date or the other
pub retagged : (h : Held) (old new : Log) (date : Option ℕ) → IsWhole h → FitsTag date h.number
    → Runs h.image.side (LeavesOneOf h.image.side (entries_of (disk h.image.side (now old)).bytes h.image.records) h.image.root.tag (entries_of (disk h.image.side (now old)).bytes h.image.records) (tag_of date h.number)) old new
    → Runs Store (LeavesStore (store_stored_on h (disk Store (now old)).bytes) (record { store = store_on h (disk Store (now old)).bytes; running = date })) old new
retagged h old new date whole fits runs =
    let bytes = (disk Store (now old)).bytes in
    let entries = entries_of bytes h.image.records in
    let here : Runs Store (LeavesOneOf Store entries h.image.root.tag entries (tag_of date h.number)) old new
    = subst (λ (s : Side). Runs s (LeavesOneOf s (entries_of (disk s (now old)).bytes h.image.records) h.image.root.tag (entries_of (disk s (now old)).bytes h.image.records) (tag_of date h.number)) old new) whole.side runs in
    let is = store_is h bytes whole in
    Runs-weaker Store _ _ old new (λ d. leaves_store entries entries h.image.root.tag (tag_of date h.number) (store_stored_on h bytes) (record { store = store_on h bytes; running = date }) whole.tag whole.fits is refl fits is Store refl d) here

-- equal data on two disks: the store is the same
pub same_store : (h k : Held) (x y : ℕ → List ℕ) → k.machine ≡ h.machine → k.number ≡ h.number → k.nodes ≡ h.nodes → k.snapshots ≡ h.snapshots → k.image.records ≡ h.image.records
    → entries_of y h.image.records ≡ entries_of x h.image.records → store_on k y ≡ store_on h x
same_store h k x y machine number nodes snapshots records data_same =
    let files : files_of k.image.records y ≡ files_of h.image.records x
    = ap (λ (es : Records). files_of es y) records ∙ sym (files_are h.image.records y) ∙ ap files_in data_same ∙ files_are h.image.records x in
    λ i. record { machine = machine i; number = number i; snapshots = map (snapshot_on (files i) (nodes i)) (snapshots i) }

-- a store with the same records is whole
pub whole_again : (h k : Held) → IsWhole h → FitsTag k.stored k.number → k.image.root.tag ≡ tag_of k.stored k.number → ((date : ℕ) → k.running ≡ Some date → (k.stored ≡ Some date) × MayFinish h date)
    → k.image.side ≡ h.image.side → k.image.records ≡ h.image.records → IsSound k.image → IsSettled k.image → HasRoom k.image
    → k.machine ≡ h.machine → k.number ≡ h.number → k.nodes ≡ h.nodes → k.snapshots ≡ h.snapshots → AreStaged k.staged k.image → IsWhole k
whole_again h k whole fits tag runs side records sound settled space machine number nodes snapshots blobs = record {
  side = side ∙ whole.side;
  sound = sound;
  settled = settled;
  space = space;
  good = subst (λ (es : Records). IsGoodStore (heads_of es) k.number) (sym records) (subst (λ n. IsGoodStore (heads_of h.image.records) n) (sym number) whole.good);
  machine_is = ap (λ (es : Records). machine_in (heads_of es)) records ∙ whole.machine_is ∙ ap (λ m. Some m) (sym machine);
  nodes_are = nodes ∙ whole.nodes_are ∙ ap (λ (es : Records). nodes_in (heads_of es)) (sym records);
  snapshots_are = snapshots ∙ whole.snapshots_are ∙ ap (λ (es : Records). snapshots_in (heads_of es)) (sym records);
  tag = tag;
  fits = fits;
  runs = λ date is. let both = runs date is in (both.0, record { later = subst (λ (ss : List Snapshot). All (λ s. s.date < date) ss) (sym snapshots) both.1.later; few = subst (λ (ss : List Snapshot). length ss < max_snapshots) (sym snapshots) both.1.few; number = subst (λ n. n < 2 ^ 40) (sym number) both.1.number });
  blobs = blobs;
}

-- what is staged is told by the records, the table and the used blocks
pub staged_again : (m n : Seen) (blobs : List ℕ) → AreStaged blobs m → n.records ≡ m.records → n.layout ≡ m.layout → n.used ≡ m.used → AreStaged blobs n
staged_again m n blobs are records layout used b =
    are b ∙ (λ i. slice_index (sym used i) b - (kept b + times b (sym layout i) + in_data b (sym records i)))

-- all staged blocks are given back
pub unstaged : (m n : Seen) (blobs : List ℕ) → AreStaged blobs m → ((b : ℕ) → staged b n + times b blobs ≡ staged b m) → AreStaged [] n
unstaged m n blobs are given b = omega (arith, are b, given b)

-- but for used blocks the image is the same: no commit is under way
pub settled_same : (m n : Seen) → HasSameImage m n → IsSettled m → IsSettled n
settled_same m n same settled = ap (λ (r : Root). r.table_len) same.root ∙ settled ∙ ap (λ (es : Records). length (table_text es)) (sym same.records)

-- and there is room
pub room_same : (m n : Seen) → HasSameImage m n → free_of m ≤ free_of n → HasRoom m → HasRoom n
room_same m n same more room = omega (arith, more, room, ap (λ (xs : List ℕ). length xs) same.layout)

-- no block is staged twice
pub staged_once : (h : Held) → IsWhole h → (b : ℕ) → times b h.staged ≤ 1
staged_once h whole b = omega (arith, whole.blobs b, whole.sound.marks b)
