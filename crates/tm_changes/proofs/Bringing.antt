-- An edit that brings a staged blob: what is known after it, and when it has room.
use Rattle.std.proofs.Common.{◌≡◌, ℕ, ◌+◌, ◌-◌, ◌<◌, ◌≤◌, ◌==◌, Bool, true, false, cond, nat_lt, List, [], ◌∷◌, length, sym, ap, ◌∙◌, subst, Some, None, arith}
use Rattle.std.specs.Option.{option_map}
use Rattle.std.proofs.lemmas.Bool.Decides.{nat_tests}
use Rattle.std.proofs.lemmas.List.Sums.{sum_by-cons}
use Rattle.tm_base.specs.declared.refused.Refused.{Refused}
use Rattle.tm_base.specs.declared.refused.Refused.TheVariants.{Full}
use Rattle.tm_blockmap.specs.Counts.{times}
use Rattle.tm_records.specs.declared.record.Body.TheVariants.{New}
use Rattle.tm_records.specs.declared.record.Put.{Put}
use Rattle.tm_records.specs.declared.record.Record.{Record}
use Rattle.tm_records.specs.Puts.{brought}
use Rattle.tm_records.specs.Records.{at}
use Rattle.tm_image.specs.Commit.{brought_by}
use Rattle.tm_image.specs.Room as image_room
use Rattle.tm_image.specs.Reads as image_reads
use Rattle.tm_items.specs.Computed.{tree_of}
use Rattle.tm_nodes.specs.Records.{paths_of}
use Rattle.tm_tree.specs.Refusing.{first_refused}
use Rattle.tm_world.specs.declared.bytes.Blob.{Blob}
use Rattle.tm_volume.specs.declared.edit.Edit.{Edit}
use Rattle.tm_volume.specs.Edits.{after, IsBack, IsEdit, IsGoodEdit, need_of_edit}
use Rattle.tm_changes.specs.Plans.{BringNone, IsGood}
use Rattle.tm_volume_records.specs.Records.{head_key, journal_key, entry_at, placings_of}
use Rattle.tm_volume.specs.Room.{table_len, data_len, free_of}
use Rattle.tm_changes.specs.Fitting.{room_tests}
use Rattle.tm_volume.specs.Seen.{Seen, entries_on, stored_on}
use Rattle.tm_volume.specs.Stored.{StoredVolume}
use Rattle.tm_changes.specs.Writes.{brings_first, IsBringing}
use Rattle.tm_changes.proofs.Knowing.{known_then}
use Rattle.tm_changes.proofs.Exacting.{none_by, none_len}
use Rattle.tm_volume.proofs.Rooms.{Known, table_is, data_is}

-- ---- the same volume, of which other blocks are used

abbrev pub Restaged : Seen → List ℕ → Seen
Restaged m used = record {
  image = record { side = m.image.side; records = m.image.records; used = used; layout = m.image.layout; root = m.image.root; named = m.image.named };
  head = m.head;
  fixed = m.fixed;
  tag = m.tag;
  looks = m.looks;
}

pub restaged : (m n : Seen) → IsBack m n → n ≡ Restaged m n.image.used
restaged m n back =
    let s = back.image.side in
    let r = back.image.records in
    let l = back.image.layout in
    let t = back.image.root in
    let k = back.image.named in
    back.rest
    ∙ (λ i. record { image = record { side = s i; records = r i; used = n.image.used; layout = l i; root = t i; named = k i }; head = m.head; fixed = m.fixed; tag = m.tag; looks = m.looks })

pub back_twice : (a b c : Seen) → IsBack a b → IsBack b c → IsBack a c
back_twice a b c one two = record {
  image = record {
    side = two.image.side ∙ one.image.side;
    records = two.image.records ∙ one.image.records;
    layout = two.image.layout ∙ one.image.layout;
    root = two.image.root ∙ one.image.root;
    named = two.image.named ∙ one.image.named;
    size = two.image.size ∙ one.image.size;
  };
  rest = two.rest ∙ ap (λ (s : Seen). record s { image = c.image }) one.rest;
}

module _ (m n : Seen) (back : IsBack m n) where
  edit_with : (used : List ℕ) (e : Edit) → IsEdit m e → IsEdit (Restaged m used) e
  edit_with used e is = record { rising = is.rising; put = is.put; lengths = is.lengths; head = is.head; next_least = is.next_least; next_most = is.next_most; sound = is.sound; free = is.free; index_is = is.index_is }

  good_with : (used : List ℕ) (e : Edit) (bytes : ℕ → List ℕ) → IsGoodEdit m e bytes → IsGoodEdit (Restaged m used) e bytes
  good_with used e bytes is = record { good = is.good; fixed = is.fixed }

  pub edit_there : (e : Edit) → IsEdit m e → IsEdit n e
  edit_there e is = subst (λ (s : Seen). IsEdit s e) (sym (restaged m n back)) (edit_with n.image.used e is)

  pub good_there : (e : Edit) (bytes : ℕ → List ℕ) → IsGoodEdit m e bytes → IsGoodEdit n e bytes
  good_there e bytes is = subst (λ (s : Seen). IsGoodEdit s e bytes) (sym (restaged m n back)) (good_with n.image.used e bytes is)

  pub stored_there : (bytes : ℕ → List ℕ) → stored_on n bytes ≡ stored_on m bytes
  stored_there bytes = ap (λ (s : Seen). stored_on s bytes) (restaged m n back)

  pub after_there : (e : Edit) (bytes : ℕ → List ℕ) → stored_on (after n e) bytes ≡ stored_on (after m e) bytes
  after_there e bytes = ap (λ (s : Seen). stored_on (after s e) bytes) (restaged m n back)

  pub need_there : (e : Edit) → need_of_edit n e ≡ need_of_edit m e
  need_there e = ap (λ (s : Seen). need_of_edit s e) (restaged m n back)

  -- what stands for the one stands for the other
  pub good_here : (bytes : ℕ → List ℕ) → IsGood n bytes → IsGood m bytes
  good_here bytes is = let there : IsGood (Restaged m n.image.used) bytes = subst (λ (s : Seen). IsGood s bytes) (restaged m n back) is in record { good = there.good; fixed = there.fixed }

-- other blocks that hold the same data
pub stored_alike : (m : Seen) (old new : ℕ → List ℕ) → entries_on m new ≡ entries_on m old → stored_on m new ≡ stored_on m old
stored_alike m old new same = λ i. record {
  volume = record { name = m.head.name; id = m.head.id; capacity = m.head.capacity; generation = m.tag.generation; contents = record { tree = tree_of (placings_of (same i)); fixed = m.fixed; next = m.tag.next } };
  clean = m.tag.clean == 1;
  journal = option_map (λ (r : Record). r.length) (at journal_key m.image.records);
}

-- ---- what it brings

module _ (old new : Edit) (blob : Blob) (is : IsBringing old new blob) (first : Put) (rest : List Put) (put : old.put.items ≡ first ∷ rest) (no_data : BringNone rest) where
  puts_are : new.put.items ≡ record { key = first.key; meta = first.meta; body = New blob } ∷ rest
  puts_are = is.put ∙ ap (brings_first blob) put

  pub brings_by : (b : ℕ) → brought_by b new.put.items ≡ times b blob.blocks
  brings_by b = ap (brought_by b) puts_are ∙ sum_by-cons (λ (p : Put). times b (brought p.body)) (record { key = first.key; meta = first.meta; body = New blob }) rest ∙ omega (arith, none_by rest no_data b)

  pub brings_len : image_room.brought_len new.put.items ≡ length blob.blocks
  brings_len = ap image_room.brought_len puts_are ∙ sum_by-cons (λ (p : Put). length (brought p.body)) (record { key = first.key; meta = first.meta; body = New blob }) rest ∙ omega (arith, none_len rest no_data)

-- ---- what is known afterwards

-- ---- the tests of room

less_is : (a b : ℕ) → a < b → nat_lt a b ≡ true
less_is a b lt = grind (arith, nat_tests)

not_less : (a b : ℕ) → b ≤ a → nat_lt a b ≡ false
not_less a b le = grind (arith, nat_tests)

-- the first of two tests holds
first_holds : (f n g k : ℕ) (second : Bool × Refused) → f ≡ g → n ≡ k → g < k → first_refused ((nat_lt f n, Full n f) ∷ second ∷ []) ≡ Some (Full k g)
first_holds f n g k second fs ns lt =
    (λ i. first_refused ((nat_lt (fs i) (ns i), Full (ns i) (fs i)) ∷ second ∷ [])) ∙ ap (λ b. cond b (Some (Full k g)) (first_refused (second ∷ []))) (less_is g k lt)

-- or the second alone decides
second_decides : (first : Bool) (why : Refused) (f n g k : ℕ) → first ≡ false → f ≡ g → n ≡ k → first_refused ((first, why) ∷ (nat_lt f n, Full n f) ∷ []) ≡ cond (nat_lt g k) (Some (Full k g)) None
second_decides first why f n g k off fs ns =
    ap (λ b. cond b (Some why) (cond (nat_lt f n) (Some (Full n f)) None)) off ∙ (λ i. cond (nat_lt (fs i) (ns i)) (Some (Full (ns i) (fs i))) None)

module _ (m : Seen) (bytes : ℕ → List ℕ) (blocks staged : ℕ) (known : Known m bytes)
    (fixed_is : option_map (λ d. paths_of d.bytes) (entry_at head_key (entries_on m bytes)) ≡ Some (Some m.fixed))
    (free_is : image_room.free_of m.image + 3 + image_room.table_len m.image.records + image_reads.data_len m.image.records ≡ blocks) where
  free_same : free_of blocks (stored_on m bytes) ≡ image_room.free_of m.image
  free_same = omega (arith, free_is, table_is m bytes known fixed_is, data_is m bytes known fixed_is)

  need_same : staged + table_len (stored_on m bytes) ≡ staged + image_room.table_len m.image.records
  need_same = ap (λ t. staged + t) (sym (table_is m bytes known fixed_is))

  -- the blob doesn't fit
  pub staging_refuses : (new : StoredVolume) → image_room.free_of m.image < staged + image_room.table_len m.image.records
      → first_refused (room_tests blocks (stored_on m bytes) new staged) ≡ Some (Full (staged + image_room.table_len m.image.records) (image_room.free_of m.image))
  staging_refuses new lt = first_holds (free_of blocks (stored_on m bytes)) (staged + table_len (stored_on m bytes)) (image_room.free_of m.image) (staged + image_room.table_len m.image.records) (
    nat_lt (free_of blocks (stored_on m bytes) - staged) (image_room.need_of (table_len (stored_on m bytes)) (table_len new) (data_len (stored_on m bytes) + staged - data_len new)),
    Full (image_room.need_of (table_len (stored_on m bytes)) (table_len new) (data_len (stored_on m bytes) + staged - data_len new)) (free_of blocks (stored_on m bytes) - staged),
  ) free_same need_same lt

  module _ (e : Edit) (is : IsEdit m e) (good : IsGoodEdit m e bytes) (brought : image_room.brought_len e.put.items ≡ staged)
      (fits : staged + image_room.table_len m.image.records ≤ image_room.free_of m.image) (left : ℕ) (left_is : left + staged ≡ image_room.free_of m.image) where
    commit_same : image_room.need_of (table_len (stored_on m bytes)) (table_len (stored_on (after m e) bytes)) (data_len (stored_on m bytes) + staged - data_len (stored_on (after m e) bytes)) ≡ need_of_edit m e
    commit_same =
        let known_after = known_then m e bytes known is good in
        let t = sym (table_is m bytes known fixed_is) in
        let u = sym (table_is (after m e) bytes known_after good.fixed) in
        let d = sym (data_is m bytes known fixed_is) in
        let f = sym (data_is (after m e) bytes known_after good.fixed) in
        let b = sym brought in
        λ i. image_room.need_of (t i) (u i) (d i + b i - f i)

    -- it does, and the commit decides
    commit_decides : first_refused (room_tests blocks (stored_on m bytes) (stored_on (after m e) bytes) staged) ≡ cond (nat_lt left (need_of_edit m e)) (Some (Full (need_of_edit m e) left)) None
    commit_decides = second_decides (nat_lt (free_of blocks (stored_on m bytes)) (staged + table_len (stored_on m bytes))) (Full (staged + table_len (stored_on m bytes)) (free_of blocks (stored_on m bytes)))
        (free_of blocks (stored_on m bytes) - staged)
        (image_room.need_of (table_len (stored_on m bytes)) (table_len (stored_on (after m e) bytes)) (data_len (stored_on m bytes) + staged - data_len (stored_on (after m e) bytes)))
        left (need_of_edit m e)
        (not_less (free_of blocks (stored_on m bytes)) (staged + table_len (stored_on m bytes)) (omega (arith, free_same, need_same, fits)))
        (omega (arith, free_same, left_is)) commit_same

    pub commit_passes : need_of_edit m e ≤ left → first_refused (room_tests blocks (stored_on m bytes) (stored_on (after m e) bytes) staged) ≡ None
    commit_passes le = commit_decides ∙ ap (λ b. cond b (Some (Full (need_of_edit m e) left)) None) (not_less left (need_of_edit m e) le)

    pub commit_refuses : left < need_of_edit m e → first_refused (room_tests blocks (stored_on m bytes) (stored_on (after m e) bytes) staged) ≡ Some (Full (need_of_edit m e) left)
    commit_refuses lt = commit_decides ∙ ap (λ b. cond b (Some (Full (need_of_edit m e) left)) None) (less_is left (need_of_edit m e) lt)
