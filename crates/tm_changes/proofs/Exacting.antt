-- An edit that brings no data, and when it has room.
use Rattle.std.proofs.Common.{◌≡◌, ℕ, ◌+◌, ◌≤◌, List, [], ◌∷◌, length, refl, ◌∙◌, Some, None}
use Rattle.std.proofs.lemmas.List.Sums.{sum_by-cons}
use Rattle.tm_base.specs.declared.refused.Refused.{Refused}
use Rattle.tm_blockmap.specs.Counts.{times}
use Rattle.tm_records.specs.declared.record.Put.{Put}
use Rattle.tm_records.specs.Puts.{brought}
use Rattle.tm_image.specs.Commit.{brought_by}
use Rattle.tm_image.specs.Reads.{data_len}
use Rattle.tm_image.specs.Room.{free_of, table_len, brought_len}
use Rattle.tm_tree.specs.Refusing.{first_refused}
use Rattle.tm_volume.specs.declared.edit.Edit.{Edit}
use Rattle.tm_volume.specs.Edits.{after, IsEdit, IsGoodEdit, IsFullEdit, need_of_edit}
use Rattle.tm_volume.specs.Seen.{IsShelved}
use Rattle.tm_changes.specs.Plans.{BringNone, IsGood}
use Rattle.tm_changes.specs.Fitting.{room_tests}
use Rattle.tm_volume.specs.Seen.{Seen, IsReady, stored_on}
use Rattle.tm_changes.proofs.Filling.{fits_passes, full_refuses}
use Rattle.tm_changes.proofs.Knowing.{room_here, known_then}
use Rattle.tm_volume.proofs.Rooms.{Known}
use Rattle.tm_volume.proofs.Counting.{known_on}

-- ---- nothing is brought

pub none_by : (puts : List Put) → BringNone puts → (b : ℕ) → brought_by b puts ≡ 0
none_by [] none b = refl
none_by (p ∷ ps) none b = sum_by-cons (λ p. times b (brought p.body)) p ps ∙ (λ i. times b (none.0 i) + none_by ps none.1 b i)

pub none_len : (puts : List Put) → BringNone puts → brought_len puts ≡ 0
none_len [] none = refl
none_len (p ∷ ps) none = sum_by-cons (λ p. length (brought p.body)) p ps ∙ (λ i. length (none.0 i) + none_len ps none.1 i)

-- ---- the room

module _ (m : Seen) (s : IsShelved m) (e : Edit) (is : IsEdit m e) (no_data : BringNone e.put.items) (bytes : ℕ → List ℕ) (good : IsGood m bytes) (good_edit : IsGoodEdit m e bytes)
    (blocks : ℕ) (ready : IsReady m blocks) (room : free_of m.image + 3 + table_len m.image.records + data_len m.image.records ≡ blocks) where
  known : Known m bytes
  known = known_on m s.numbers s.shelf s.image bytes good.good

  known_after : Known (after m e) bytes
  known_after = known_then m e bytes known is good_edit

  pub no_data_fits : need_of_edit m e ≤ free_of m.image → first_refused (room_tests blocks (stored_on m bytes) (stored_on (after m e) bytes) 0) ≡ None
  no_data_fits le = fits_passes m e bytes blocks known known_after good.fixed good_edit.fixed (none_len e.put.items no_data) room (room_here m blocks ready s.image) le

  pub no_data_full : (why : Refused) → IsFullEdit m e why → first_refused (room_tests blocks (stored_on m bytes) (stored_on (after m e) bytes) 0) ≡ Some why
  no_data_full why full = full_refuses m e bytes blocks known known_after good.fixed good_edit.fixed (none_len e.put.items no_data) room (room_here m blocks ready s.image) why full
