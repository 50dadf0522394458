-- The records of a new volume, and that they are one.
use Rattle.std.proofs.Common.{◌≡◌, ⊎_elim, inl, inr, ℕ, zero, suc, ◌-◌, ◌*◌, ◌^◌, ◌<◌, ◌≤◌, Bool, true, false, cond, is_some, List, [], ◌∷◌, ◌++◌, length, drop, Option, Some, None, IfSome, refl, sym, ◌∙◌, ap, subst, arith, length-append}
use Rattle.std.proofs.Math.Bool.{Bool-set}
use Rattle.std.proofs.Math.Logic.{∥∥₁_elim}
use Rattle.std.specs.List.{All}
use Rattle.std.specs.List.Sorted.{IsStrictlySortedBy}
use Rattle.std.specs.BTreeMap.{is_at}
use Rattle.std.specs.Option.{option_map}
use Rattle.std.specs.Ordering.{nat_cmp}
use Rattle.tm_base.specs.Days.{last_moment}
use Rattle.tm_base.specs.IsName.{IsName}
use Rattle.tm_base.specs.Paths.{Names}
use Rattle.tm_codec.specs.Fields.{u8_text, u16_text, u32_text, u64_text, u128_text, short_text}
use Rattle.tm_codec.proofs.Fields.{length-u8_text, length-u16_text, length-u32_text, length-u64_text, length-u128_text, length-short_text}
use Rattle.tm_gate.specs.Selector.{named_by}
use Rattle.tm_gate.specs.Tag.{volume_tag}
use Rattle.tm_image.specs.Blank.{IsFirstPut, LacksMagic, LeavesNoneOr}
use Rattle.tm_image.specs.Reads.{Entry, ReadsAsTable, entry_of, entries_of}
use Rattle.tm_image.specs.Room as image_room
use Rattle.tm_image.specs.Seen.{Seen as ImageSeen, Stands}
use Rattle.tm_index.specs.Folders.{Folders, numbers_in}
use Rattle.tm_items.proofs.Loading.{load_starts, load_ends}
use Rattle.tm_items.specs.Computed.{Placings, items_of, tree_of, path_to}
use Rattle.tm_items.specs.Index.{IsIndex}
use Rattle.tm_items.specs.Placings.{Placed}
use Rattle.tm_items.specs.Rules.{IsSound}
use Rattle.tm_nodes.specs.declared.volume.VolumeHead.{VolumeHead}
use Rattle.tm_nodes.specs.Attrs.{attrs_text}
use Rattle.tm_nodes.specs.Kinds.{kind_text, kind_number}
use Rattle.tm_nodes.specs.declared.kind.Kind.TheVariants as kind
use Rattle.tm_nodes.specs.Headers.{volume_text, machine_text, IsVolumeHead}
use Rattle.tm_nodes.specs.Items.{item_text, IsItemRow}
use Rattle.tm_nodes.specs.Paths.{paths_text}
use Rattle.tm_nodes.specs.Records.{item_of, volume_of, machine_of, paths_of}
use Rattle.tm_nodes.proofs.HeadLemmas.{volume_finds, machine_finds}
use Rattle.tm_nodes.proofs.ItemLemmas.{item_finds}
use Rattle.tm_nodes.proofs.RowLemmas.{paths_finds}
use Rattle.tm_records.specs.declared.record.Record.{Record}
use Rattle.tm_records.specs.declared.record.Put.{Put}
use Rattle.tm_records.specs.Puts.{with_puts}
use Rattle.tm_records.specs.Records.{Records, at}
use Rattle.tm_table.specs.Text.{table_text}
use Rattle.tm_tree.specs.Items.{new_attrs, new_folder}
use Rattle.tm_tree.specs.Trees.{new_tree}
use Rattle.tm_world.specs.Disk.{Disk}
use Rattle.tm_world.specs.Log.{Log}
use Rattle.tm_world.specs.Runs.{Runs}
use Rattle.tm_world.specs.declared.world.Side.TheVariants.{Volume as OfVolume}
use Rattle.tm_world.proofs.Going.{Runs-weaker}
use Rattle.tm_volume.specs.Blank.{root_row, first_puts}
use Rattle.tm_volume_records.specs.Records.{head_key, journal_key, item_key, entry_at, placed_with, numbered, placings_of}
use Rattle.tm_volume.specs.Reads.{VolumeReads, LeavesEither}
use Rattle.tm_volume_records.specs.Rules.{Tag, AreShort, IsTagged, IsGoodVolume, IsHead, IsItem}
use Rattle.tm_volume.specs.Seen.{Seen, IsShelf, StandsOn, tree_on, stored_on}
use Rattle.tm_volume.specs.Stored.{StoredVolume, new_stored}
use Rattle.tm_volume.proofs.GoodRecords.{AreGood, good_put, good_volume}
use Rattle.tm_volume_records.proofs.Keys.{not_at}
use Rattle.tm_volume.proofs.Metas.{meta_short}
use Rattle.tm_volume.proofs.Rooms.{data_length, part_len, text_sum}
use Rattle.tm_volume.proofs.Standing.{IsTold, volume_reads}
use Rattle.tm_nodes.proofs.Fields.{name_had}
use Rattle.tm_base.specs.Limits.{min_blocks, max_events, max_file_bytes}

-- ---- names

pub head_rules : (name : List ℕ) (id events : ℕ) → ∥ IsName name ∥₁ → id < 2 ^ 128 → events < 2 ^ 32 → IsVolumeHead (record { id = id; capacity = events; name = name })
head_rules name id events had small few = record { id = small; capacity = few; name = name_had name had }

-- ---- the records

root_rules : (moment : ℕ) → moment ≤ last_moment → IsItemRow (root_row moment)
unfolding IsStrictlySortedBy
root_rules moment low = record {
  parent = omega arith;
  name = tt;
  attrs = record { mode = omega arith; uid = omega arith; gid = omega arith; modified = low; few = omega arith; each = λ k d lt. absurd (omega (arith, lt)); rising = tt };
  tail = tt;
}

pub head_len : (head : VolumeHead) → IsVolumeHead head → length (volume_text head) ≤ 300
unfolding volume_text
head_len head rules =
    let i = u128_text head.id in
    let c = u32_text head.capacity in
    let n = short_text head.name in
    omega (arith, length-append (i ++ c) n, length-append i c, length-u128_text head.id, length-u32_text head.capacity, length-short_text head.name, rules.name.short)

all_two : {X : Type 0} (P : X → Type 0) (a b : X) → P a → P b → All P (a ∷ b ∷ [])
all_two P a b pa pb zero d lt = pa
all_two P a b pa pb (suc zero) d lt = pb
all_two P a b pa pb (suc (suc k)) d lt = absurd (omega arith)

puts_rules : (head : VolumeHead) (moment : ℕ) → IsVolumeHead head → moment ≤ last_moment → All IsFirstPut (first_puts head moment)
puts_rules head moment rules low = all_two IsFirstPut _ _
    (record { body = refl; key = omega arith; meta = omega (arith, head_len head rules) })
    (record { body = refl; key = omega arith; meta = meta_short (root_row moment) (root_rules moment low) })

abbrev head_record : VolumeHead → Record
head_record head = record { meta = volume_text head; length = 0; blocks = [] }

abbrev root_record : ℕ → Record
root_record moment = record { meta = item_text (root_row moment); length = 0; blocks = [] }

abbrev first_records : VolumeHead → ℕ → Records
first_records head moment = (head_key, head_record head) ∷ (item_key 1, root_record moment) ∷ []

-- ---- the volume in memory

abbrev pub first_tag : Tag
first_tag = record { clean = 0; generation = 1; next = 1 }

abbrev pub new_seen : ImageSeen → VolumeHead → List Names → Seen
new_seen image head fixed = record { image = image; head = head; fixed = fixed; tag = first_tag; looks = 0 }

-- ---- the table takes one block

root_len : (moment : ℕ) → length (item_text (root_row moment)) ≤ 300
unfolding kind_text attrs_text
root_len moment =
    let a = new_attrs 493 moment in
    omega (
      arith,
      part_len (root_row moment),
      length-short_text [],
      length-u8_text (kind_number kind.Folder),
      length-append (u16_text a.mode ++ u32_text a.uid ++ u32_text a.gid ++ u64_text a.modified ++ u8_text 0) [],
      length-append (u16_text a.mode ++ u32_text a.uid ++ u32_text a.gid ++ u64_text a.modified) (u8_text 0),
      length-append (u16_text a.mode ++ u32_text a.uid ++ u32_text a.gid) (u64_text a.modified),
      length-append (u16_text a.mode ++ u32_text a.uid) (u32_text a.gid),
      length-append (u16_text a.mode) (u32_text a.uid),
      length-u16_text a.mode,
      length-u32_text a.uid,
      length-u32_text a.gid,
      length-u64_text a.modified,
      length-u8_text 0,
    )

one_block : (head : VolumeHead) (moment : ℕ) → IsVolumeHead head → length (table_text (first_records head moment)) ≤ 4092
one_block head moment rules = omega (arith, text_sum (first_records head moment), head_len head rules, root_len moment)

-- so from the fewest blocks on there is room
never_full : (head : VolumeHead) (moment blocks need free : ℕ) → IsVolumeHead head → min_blocks ≤ blocks
    → (free < need) × (free ≡ blocks - 3) × (need ≡ 2 * image_room.table_len (with_puts (first_puts head moment) [])) → ⊥
never_full head moment blocks need free rules many full =
    let short = one_block head moment rules in
    absurd (omega (arith, short, many, full.0, full.1, full.2))

-- ---- one item, the root

abbrev root_placed : ℕ → Placed
root_placed moment = record { parent = 0; name = None; item = new_folder moment }

abbrev alone : ℕ → Placings
alone moment = (1, root_placed moment) ∷ []

sound_alone : (moment : ℕ) → IsSound (items_of (alone moment)) × IsIndex (items_of (alone moment)) (λ place. None)
sound_alone moment =
    load_ends (items_of (alone moment)) 2 (λ place. None) (load_starts (items_of (alone moment)) refl refl) (omega arith)
    (λ m le. ap (λ b. cond b (Some (root_placed moment)) None) (not_at m 1 (λ same. omega (arith, same, le))))

tree_alone : (moment : ℕ) → tree_of (alone moment) ≡ new_tree (new_folder moment)
unfolding tree_of path_to
tree_alone moment = refl

-- ---- what the two records say, whatever the bytes of their blocks, which are none

no_bytes : (bytes : ℕ → List ℕ) (meta : List ℕ) → (entry_of bytes (record { meta = meta; length = 0; blocks = [] })).bytes ≡ []
no_bytes bytes meta = of_list (entry_of bytes (record { meta = meta; length = 0; blocks = [] })).bytes (data_length bytes (record { meta = meta; length = 0; blocks = [] }))
  where
    of_list : (xs : List ℕ) → length xs ≡ 0 → xs ≡ []
    of_list [] h = refl
    of_list (x ∷ xs) h = absurd (omega (arith, h))

no_paths : paths_of [] ≡ Some []
unfolding paths_text IsStrictlySortedBy
no_paths = paths_finds.again [] [] (record { rules = record { few = omega arith; each = λ k d lt. absurd (omega (arith, lt)); no_root = λ k d lt. absurd (omega (arith, lt)); rising = tt }; spelled = refl })

module _ (head : VolumeHead) (moment : ℕ) (rules : IsVolumeHead head) (low : moment ≤ last_moment) where
  head_reads : volume_of (volume_text head) ≡ Some head
  head_reads = volume_finds.again (volume_text head) head (record { rules = rules; spelled = refl })

  root_reads : (bytes : ℕ → List ℕ) → item_of (item_text (root_row moment)) (length (entry_of bytes (root_record moment)).bytes) ≡ Some (root_row moment)
  root_reads bytes = (item_finds (length (entry_of bytes (root_record moment)).bytes)).again (item_text (root_row moment)) (root_row moment) (record { rules = record { rules = root_rules moment low; size_is = tt }; spelled = refl })

  placings_are : (bytes : ℕ → List ℕ) → placings_of (entries_of bytes (first_records head moment)) ≡ alone moment
  unfolding placings_of
  placings_are bytes = ap (λ o. numbered (item_key 1 - 2 ^ 62) (option_map (placed_with (entry_of bytes (root_record moment)).bytes) o) ++ []) (root_reads bytes)

  sound_first : (bytes : ℕ → List ℕ) → IsSound (items_of (placings_of (entries_of bytes (first_records head moment))))
  sound_first bytes = subst (λ ps. IsSound (items_of ps)) (sym (placings_are bytes)) (sound_alone moment).0

  index_first : (bytes : ℕ → List ℕ) → IsIndex (items_of (placings_of (entries_of bytes (first_records head moment)))) (λ place. None)
  index_first bytes = subst (λ ps. IsIndex (items_of ps) (λ place. None)) (sym (placings_are bytes)) (sound_alone moment).1

  tree_first : (bytes : ℕ → List ℕ) → tree_of (placings_of (entries_of bytes (first_records head moment))) ≡ new_tree (new_folder moment)
  tree_first bytes = ap tree_of (placings_are bytes) ∙ tree_alone moment

  fixed_first : (bytes : ℕ → List ℕ) → paths_of (entry_of bytes (head_record head)).bytes ≡ Some []
  fixed_first bytes = ap paths_of (no_bytes bytes (volume_text head)) ∙ no_paths

  short_first : AreShort (first_records head moment)
  short_first n least most = by_tests (is_at (nat_cmp (item_key n)) head_key) (is_at (nat_cmp (item_key n)) (item_key 1))
    where
      by_tests : (a b : Bool) → IfSome (cond a (Some (head_record head)) (cond b (Some (root_record moment)) None)) (λ (r : Record). r.length ≤ max_file_bytes)
      by_tests true b = omega arith
      by_tests false true = omega arith
      by_tests false false = tt

  -- ---- the rules

  module _ (events : (1 ≤ head.capacity) × (head.capacity ≤ max_events)) where
    good_head : (bytes : ℕ → List ℕ) → IsHead (entry_of bytes (head_record head))
    good_head bytes = record { head = head; meta = head_reads; capacity = events; fixed = []; bytes = fixed_first bytes }

    good_root : (bytes : ℕ → List ℕ) → IsItem 1 (entry_of bytes (root_record moment))
    good_root bytes = record { row = root_row moment; meta = root_reads bytes; bytes = data_length bytes (root_record moment); stamp = tt }

    good_none : (bytes : ℕ → List ℕ) → AreGood bytes 1 []
    good_none bytes = record { each = λ k r is. cc }

    good_records : (bytes : ℕ → List ℕ) → AreGood bytes 1 (first_records head moment)
    good_records bytes =
        good_put bytes 1 ((head_key, head_record head) ∷ []) (item_key 1) (root_record moment)
        (good_put bytes 1 [] head_key (head_record head) (good_none bytes) (inl (refl, good_head bytes)))
        (inr (inr (1, omega arith, omega arith, refl, good_root bytes)))

    good_first : (bytes : ℕ → List ℕ) → IsGoodVolume (entries_of bytes (first_records head moment)) first_tag
    good_first bytes = good_volume bytes (first_records head moment) first_tag refl (good_records bytes) (head_record head) refl (sound_first bytes)

    -- ---- the volume in memory

    first_tagged : IsTagged first_tag
    first_tagged = record { clean_most = omega arith; generation_least = omega arith; generation_most = omega arith; next_least = omega arith; next_most = omega arith }

    module _ (image : ImageSeen) (is : image.records ≡ with_puts (first_puts head moment) []) where
      on_records : (P : Records → Type 0) → P (first_records head moment) → P image.records
      on_records P p = subst P (sym is) p

      told_first : (bytes : ℕ → List ℕ) → IsTold (new_seen image head []) bytes
      told_first bytes = record {
        tagged = first_tagged;
        head = on_records (λ rs. option_map (λ r. volume_of r.meta) (at head_key rs) ≡ Some (Some head)) (ap Some head_reads);
        sound = on_records (λ rs. IsSound (items_of (placings_of (entries_of bytes rs)))) (sound_first bytes);
        good = on_records (λ rs. IsGoodVolume (entries_of bytes rs) first_tag) (good_first bytes);
        fixed = on_records (λ rs. option_map (λ (e : Entry). paths_of e.bytes) (entry_at head_key (entries_of bytes rs)) ≡ Some (Some [])) (ap Some (fixed_first bytes));
      }

      shelf_first : image.side ≡ OfVolume → image.root.tag ≡ volume_tag 0 1 1 → IsShelf (new_seen image head []) (λ place. None)
      shelf_first side tag = record {
        side = side;
        tag_is = tag;
        tagged = first_tagged;
        head_is = (told_first (λ b. [])).head;
        sound = λ bytes. (told_first bytes).sound;
        lengths = on_records AreShort short_first;
        index_is = λ bytes. on_records (λ rs. IsIndex (items_of (placings_of (entries_of bytes rs))) (λ place. None)) (index_first bytes);
      }

      stands_first : (d : Disk) → Stands image d → StandsOn (new_seen image head []) d
      stands_first d stands = record { stands = stands; good = (told_first d.bytes).good; fixed = (told_first d.bytes).fixed }

      stored_first : (bytes : ℕ → List ℕ) → stored_on (new_seen image head []) bytes ≡ new_stored head.name head.id head.capacity moment
      stored_first bytes =
          let tree : tree_on (new_seen image head []) bytes ≡ new_tree (new_folder moment) = on_records (λ rs. tree_of (placings_of (entries_of bytes rs)) ≡ new_tree (new_folder moment)) (tree_first bytes) in
          let journal : option_map (λ (r : Record). r.length) (at journal_key image.records) ≡ None = on_records (λ rs. option_map (λ (r : Record). r.length) (at journal_key rs) ≡ None) refl in
          λ i. record {
            volume = record { name = head.name; id = head.id; capacity = head.capacity; generation = 1; contents = record { tree = tree i; fixed = []; next = 1 } };
            clean = false;
            journal = journal i;
          }

    -- ---- while it is written

    abbrev some_image : ImageSeen
    some_image = record {
      side = OfVolume;
      records = with_puts (first_puts head moment) [];
      used = [];
      layout = [];
      root = record { kind = 1; version = 1; sequence = 0; table_len = 0; first = 0; tag = [] };
      named = 1;
    }

    leaves_first : (bytes : ℕ → List ℕ) (d : Disk) → LeavesNoneOr OfVolume (entries_of bytes (with_puts (first_puts head moment) [])) (volume_tag 0 1 1) d
        → LeavesEither None (Some (new_stored head.name head.id head.capacity moment)) d
    leaves_first bytes d leaves image left = ⊎_elim
        (λ (lacks : LacksMagic image.bytes). inl (inr (named_by (image.bytes 0), record { selected = refl; lacks = lacks })))
        (λ (reads : ReadsAsTable OfVolume (entries_of bytes (with_puts (first_puts head moment) [])) (volume_tag 0 1 1) image).
        inr (subst (λ (s : StoredVolume). VolumeReads image s) (stored_first some_image refl bytes) (volume_reads (new_seen some_image head []) bytes image (told_first some_image refl bytes) reads)))
        (leaves image left)

    run_first : (bytes : ℕ → List ℕ) (l0 l1 : Log) → Runs OfVolume (LeavesNoneOr OfVolume (entries_of bytes (with_puts (first_puts head moment) [])) (volume_tag 0 1 1)) l0 l1
        → Runs OfVolume (LeavesEither None (Some (new_stored head.name head.id head.capacity moment))) l0 l1
    run_first bytes l0 l1 runs = Runs-weaker OfVolume _ (LeavesEither None (Some (new_stored head.name head.id head.capacity moment))) l0 l1 (λ d leaves. leaves_first bytes d leaves) runs

-- ---- what was made of it in code

pub record IsMade (name : List ℕ) (id events moment : ℕ) (head : VolumeHead) (put : List Put) (tag : List ℕ) : Type 0 where
  pub head_is : head ≡ record { id = id; capacity = events; name = name }
  pub rules : IsVolumeHead head
  pub low : moment ≤ last_moment
  pub few : (1 ≤ events) × (events ≤ max_events)
  pub puts : put ≡ first_puts head moment
  pub tag_is : tag ≡ volume_tag 0 1 1

module _ (name : List ℕ) (id events moment : ℕ) (head : VolumeHead) (put : List Put) (tag : List ℕ) (made : IsMade name id events moment head put tag) where
  few : (1 ≤ head.capacity) × (head.capacity ≤ max_events)
  few = subst (λ (h : VolumeHead). (1 ≤ h.capacity) × (h.capacity ≤ max_events)) (sym made.head_is) made.few

  new_is : new_stored head.name head.id head.capacity moment ≡ new_stored name id events moment
  new_is = ap (λ (h : VolumeHead). new_stored h.name h.id h.capacity moment) made.head_is

  pub made_puts : All IsFirstPut put
  made_puts = subst (λ (ps : List Put). All IsFirstPut ps) (sym made.puts) (puts_rules head moment made.rules made.low)

  pub made_fits : (blocks need free : ℕ) → min_blocks ≤ blocks → (free < need) × (free ≡ blocks - 3) × (need ≡ 2 * image_room.table_len (with_puts put [])) → ⊥
  made_fits blocks need free many full =
      never_full head moment blocks need free made.rules many (full.0, full.1, full.2 ∙ ap (λ (ps : List Put). 2 * image_room.table_len (with_puts ps [])) made.puts)

  pub made_run : (bytes : ℕ → List ℕ) (l0 l1 : Log) → Runs OfVolume (LeavesNoneOr OfVolume (entries_of bytes (with_puts put [])) tag) l0 l1
      → Runs OfVolume (LeavesEither None (Some (new_stored name id events moment))) l0 l1
  made_run bytes l0 l1 runs =
      subst (λ (s : StoredVolume). Runs OfVolume (LeavesEither None (Some s)) l0 l1) new_is
      (run_first head moment made.rules made.low few bytes l0 l1
      (subst (λ t. Runs OfVolume (LeavesNoneOr OfVolume (entries_of bytes (with_puts (first_puts head moment) [])) t) l0 l1) made.tag_is
      (subst (λ (ps : List Put). Runs OfVolume (LeavesNoneOr OfVolume (entries_of bytes (with_puts ps [])) tag) l0 l1) made.puts runs)))

  module _ (image : ImageSeen) (records : image.records ≡ with_puts put []) (fixed : List Names) (none : fixed ≡ []) where
    are : image.records ≡ with_puts (first_puts head moment) []
    are = records ∙ ap (λ (ps : List Put). with_puts ps []) made.puts

    seen_is : new_seen image head fixed ≡ new_seen image head []
    seen_is = ap (new_seen image head) none

    pub made_shelf : (folders : Folders) → folders ≡ [] → image.side ≡ OfVolume → image.root.tag ≡ tag
        → IsShelf (new_seen image head fixed) (numbers_in folders)
    made_shelf folders empty side tagged =
        subst (λ (fs : Folders). IsShelf (new_seen image head fixed) (numbers_in fs)) (sym empty)
        (subst (λ (m : Seen). IsShelf m (λ place. None)) (sym seen_is) (shelf_first head moment made.rules made.low few image are side (tagged ∙ made.tag_is)))

    pub made_stands : (d : Disk) → Stands image d → StandsOn (new_seen image head fixed) d
    made_stands d stands = subst (λ (m : Seen). StandsOn m d) (sym seen_is) (stands_first head moment made.rules made.low few image are d stands)

    pub made_stored : (bytes : ℕ → List ℕ) → stored_on (new_seen image head fixed) bytes ≡ new_stored name id events moment
    made_stored bytes = ap (λ (m : Seen). stored_on m bytes) seen_is ∙ stored_first head moment made.rules made.low few image are bytes ∙ new_is
