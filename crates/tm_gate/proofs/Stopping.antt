-- What a stop leaves of the disks that a turn goes through.
use Rattle.std.proofs.Common.{◌≡◌, ◌≢◌, inl, inr, ⊎_elim, ◌⊎◌, ℕ, ◌+◌, ◌-◌, ◌≤◌, List, sym, ◌∙◌, ap, arith}
use Rattle.std.proofs.lemmas.Bool.{cases_eq}
use Rattle.tm_world.specs.Disk.{Disk, Image, IsLeft, written, synced}
use Rattle.tm_world.specs.Disk.{DiffersAt}
use Rattle.tm_world.proofs.Disks.{bytes_here, differs-written, bytes_synced, loose_synced, count_synced}
use Rattle.tm_gate.specs.Selector.{named_by, named_slot}
use Rattle.tm_gate.specs.Gate.{IsGate, IsBefore, IsAfter, LeavesOldOrNew, IsTurned}

-- before the first call
pub rest_leaves : (old : Disk) (named target : ℕ) (old_slot slot : List ℕ) → IsGate old named old_slot → LeavesOldOrNew old target slot old
rest_leaves old named target old_slot slot gate image left = inl (record {
  count = left.count;
  selected = ap named_by (left.stable 0 gate.selector_stable);
  others = λ b not0 not_target stable. left.stable b stable;
})

module _ (old : Disk) (named : ℕ) (target : ℕ) (old_slot : List ℕ) (slot : List ℕ) (gate : IsGate old named old_slot) (two : named + target ≡ 3) (low : 1 ≤ named) (high : named ≤ 2) where
  -- while the other slot is written
  pub slot_leaves : (new : Disk) → DiffersAt target old new → LeavesOldOrNew old target slot new
  slot_leaves new differs image left = inl (record {
    count = left.count ∙ differs.count;
    selected = ap named_by (left.stable 0 (differs.loose 0 (omega arith) ∙ gate.selector_stable) ∙ differs.bytes 0 (omega arith));
    others = λ b not0 not_target stable. left.stable b (differs.loose b not_target ∙ stable) ∙ differs.bytes b not_target;
  })

  -- once it is stable
  pub slot_synced : LeavesOldOrNew old target slot (synced (written target slot old))
  slot_synced image left = inl (record {
    count = left.count ∙ count_synced _ ∙ (differs-written target slot old).count;
    selected = ap named_by (left.stable 0 (loose_synced _ 0) ∙ bytes_synced _ 0 ∙ (differs-written target slot old).bytes 0 (omega arith));
    others = λ b not0 not_target stable. left.stable b (loose_synced _ b) ∙ bytes_synced _ b ∙ (differs-written target slot old).bytes b not_target;
  })

  abbrev pub staged : Disk
  staged = synced (written target slot old)

  -- while the selector is written, whatever its bits are
  pub selector_leaves : (new : Disk) → DiffersAt 0 staged new → LeavesOldOrNew old target slot new
  selector_leaves new differs image left =
      let count : image.count ≡ old.count = left.count ∙ differs.count ∙ count_synced _ ∙ (differs-written target slot old).count in
      let is_staged : (b : ℕ) → b ≢ 0 → image.bytes b ≡ (written target slot old).bytes b =
      λ b not0. left.stable b (differs.loose b not0 ∙ loose_synced _ b) ∙ differs.bytes b not0 ∙ bytes_synced _ b in
      let others : (b : ℕ) → b ≢ 0 → b ≢ target → image.bytes b ≡ old.bytes b =
      λ b not0 not_target. is_staged b not0 ∙ (differs-written target slot old).bytes b not_target in
      ⊎_elim
      (λ (is_new : named_by (image.bytes 0) ≡ target). inr (record {
        count = count;
        selected = is_new;
        holds = is_staged target (omega arith) ∙ bytes_here target slot old;
        others = others;
      }))
      (λ (is_old : named_by (image.bytes 0) ≢ target). inl (record {
        count = count;
        selected = (let e : named_by (image.bytes 0) ≡ named = omega arith in e ∙ sym gate.selected);
        others = λ b not0 not_target stable. others b not0 not_target;
      }))
      (cases_eq (named_by (image.bytes 0)) target)

  module _ (selector : List ℕ) (names : named_by selector ≡ target) where
    abbrev turned : Disk
    turned = synced (written 0 selector staged)

    turned_at : (b : ℕ) → b ≢ 0 → turned.bytes b ≡ (written target slot old).bytes b
    turned_at b not0 = bytes_synced _ b ∙ (differs-written 0 selector staged).bytes b not0 ∙ bytes_synced _ b

    pub is_turned : IsTurned old target slot turned
    is_turned = record {
      gate = record {
        selected = ap named_by (bytes_synced _ 0 ∙ bytes_here 0 selector staged) ∙ names;
        holds = turned_at target (omega arith) ∙ bytes_here target slot old;
        selector_stable = loose_synced _ 0;
        slot_stable = loose_synced _ target;
      };
      count = count_synced _ ∙ (differs-written 0 selector staged).count ∙ count_synced _ ∙ (differs-written target slot old).count;
      stable = λ b. loose_synced _ b;
      others = λ b not0 not_target. turned_at b not0 ∙ (differs-written target slot old).bytes b not_target;
    }

    pub turned_leaves : LeavesOldOrNew old target slot turned
    turned_leaves image left = inr (record {
      count = left.count ∙ is_turned.count;
      selected = ap named_by (left.stable 0 (is_turned.stable 0)) ∙ is_turned.gate.selected;
      holds = left.stable target (is_turned.stable target) ∙ is_turned.gate.holds;
      others = λ b not0 not_target. left.stable b (is_turned.stable b) ∙ is_turned.others b not0 not_target;
    })

-- the slot that is named, whatever a stop leaves
pub one_is_whole : (old now : Disk) (named : ℕ) (old_slot new_slot : List ℕ) → IsGate old named old_slot → LeavesOldOrNew old (3 - named) new_slot now
    → (image : Image) → IsLeft now image → (named_slot image.bytes ≡ old_slot) ⊎ (named_slot image.bytes ≡ new_slot)
one_is_whole old now named old_slot new_slot gate leaves image left = ⊎_elim
    (λ (before : IsBefore old (3 - named) image). inl (
    ap image.bytes (before.selected ∙ gate.selected)
    ∙ before.others named (omega (arith, gate.selected)) (omega (arith, gate.selected)) gate.slot_stable ∙ gate.holds))
    (λ (after : IsAfter old (3 - named) new_slot image). inr (ap image.bytes after.selected ∙ after.holds))
    (leaves image left)
