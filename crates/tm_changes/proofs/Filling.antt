-- When an edit doesn't fit: the room of the image is the room of the volume.
use Rattle.std.proofs.Common.{◌≡◌, ℕ, ◌+◌, ◌-◌, ◌<◌, ◌≤◌, Bool, true, false, cond, nat_lt, List, [], ◌∷◌, sym, ap, ◌∙◌, Some, None, arith}
use Rattle.std.specs.Option.{option_map}
use Rattle.std.proofs.lemmas.Bool.Decides.{nat_tests}
use Rattle.tm_base.specs.declared.refused.Refused.{Refused}
use Rattle.tm_base.specs.declared.refused.Refused.TheVariants.{Full}
use Rattle.tm_image.specs.Room as image_room
use Rattle.tm_image.specs.Reads as image_reads
use Rattle.tm_nodes.specs.Records.{paths_of}
use Rattle.tm_tree.specs.Refusing.{first_refused}
use Rattle.tm_volume.specs.declared.edit.Edit.{Edit}
use Rattle.tm_volume.specs.Edits.{after, IsFullEdit, need_of_edit}
use Rattle.tm_volume_records.specs.Records.{head_key, entry_at}
use Rattle.tm_volume.specs.Room.{table_len, data_len, free_of}
use Rattle.tm_changes.specs.Fitting.{room_tests}
use Rattle.tm_volume.specs.Seen.{Seen, entries_on, stored_on}
use Rattle.tm_volume.specs.Stored.{StoredVolume}
use Rattle.tm_volume.proofs.Rooms.{Known, table_is, data_is}

module _ (m : Seen) (e : Edit) (bytes : ℕ → List ℕ) (blocks : ℕ) (known : Known m bytes) (known_after : Known (after m e) bytes)
    (fixed_is : option_map (λ d. paths_of d.bytes) (entry_at head_key (entries_on m bytes)) ≡ Some (Some m.fixed))
    (fixed_after : option_map (λ d. paths_of d.bytes) (entry_at head_key (entries_on (after m e) bytes)) ≡ Some (Some (after m e).fixed))
    (brought : image_room.brought_len e.put.items ≡ 0)
    (free_is : image_room.free_of m.image + 3 + image_room.table_len m.image.records + image_reads.data_len m.image.records ≡ blocks)
    (room : image_room.table_len m.image.records ≤ image_room.free_of m.image) where
  old : StoredVolume
  old = stored_on m bytes

  pub free_same : free_of blocks (stored_on m bytes) ≡ image_room.free_of m.image
  free_same = omega (arith, free_is, table_is m bytes known fixed_is, data_is m bytes known fixed_is)

  pub need_same : need_of_edit m e ≡ image_room.need_of (table_len (stored_on m bytes)) (table_len (stored_on (after m e) bytes)) (data_len (stored_on m bytes) + 0 - data_len (stored_on (after m e) bytes))
  need_same =
      let t = table_is m bytes known fixed_is in
      let u = table_is (after m e) bytes known_after fixed_after in
      let d = data_is m bytes known fixed_is in
      let f = data_is (after m e) bytes known_after fixed_after in
      λ i. image_room.need_of (t i) (u i) (d i + brought i - f i)

  -- the tests of room, where nothing is staged
  tests_are : (free need free2 need2 : ℕ) (test : Bool) (why : Refused) → test ≡ false → free ≡ free2 → need ≡ need2
      → first_refused ((test, why) ∷ (nat_lt free need, Full need free) ∷ []) ≡ cond (nat_lt free2 need2) (Some (Full need2 free2)) None
  tests_are free need free2 need2 test why off f n =
      ap (λ b. cond b (Some why) (cond (nat_lt free need) (Some (Full need free)) None)) off ∙ (λ i. cond (nat_lt (f i) (n i)) (Some (Full (n i) (f i))) None)

  staging_passes : nat_lt (free_of blocks (stored_on m bytes)) (0 + table_len (stored_on m bytes)) ≡ false
  staging_passes = not_less (free_of blocks (stored_on m bytes)) (0 + table_len (stored_on m bytes)) (omega (arith, free_same, table_is m bytes known fixed_is, room))
    where
      not_less : (a b : ℕ) → b ≤ a → nat_lt a b ≡ false
      not_less a b le = grind (arith, nat_tests)

  pub room_is : first_refused (room_tests blocks (stored_on m bytes) (stored_on (after m e) bytes) 0)
      ≡ cond (nat_lt (image_room.free_of m.image) (need_of_edit m e)) (Some (Full (need_of_edit m e) (image_room.free_of m.image))) None
  room_is = tests_are (free_of blocks (stored_on m bytes) - 0)
      (image_room.need_of (table_len (stored_on m bytes)) (table_len (stored_on (after m e) bytes)) (data_len (stored_on m bytes) + 0 - data_len (stored_on (after m e) bytes)))
      (image_room.free_of m.image) (need_of_edit m e)
      (nat_lt (free_of blocks (stored_on m bytes)) (0 + table_len (stored_on m bytes))) (Full (0 + table_len (stored_on m bytes)) (free_of blocks (stored_on m bytes)))
      staging_passes (omega (arith, free_same)) (sym need_same)

  pub fits_passes : need_of_edit m e ≤ image_room.free_of m.image → first_refused (room_tests blocks (stored_on m bytes) (stored_on (after m e) bytes) 0) ≡ None
  fits_passes le = room_is ∙ ap (λ b. cond b (Some (Full (need_of_edit m e) (image_room.free_of m.image))) None) (not_less (image_room.free_of m.image) (need_of_edit m e) le)
    where
      not_less : (a b : ℕ) → b ≤ a → nat_lt a b ≡ false
      not_less a b le = grind (arith, nat_tests)

  pub full_refuses : (why : Refused) → IsFullEdit m e why → first_refused (room_tests blocks (stored_on m bytes) (stored_on (after m e) bytes) 0) ≡ Some why
  full_refuses why full = room_is ∙ ap (λ b. cond b (Some (Full (need_of_edit m e) (image_room.free_of m.image))) None) (is_less (image_room.free_of m.image) (need_of_edit m e) full.less) ∙ ap Some (sym full.is)
    where
      is_less : (a b : ℕ) → a < b → nat_lt a b ≡ true
      is_less a b lt = grind (arith, nat_tests)
