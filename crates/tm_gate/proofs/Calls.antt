-- The four calls of a turn, one after another.
use Rattle.std.proofs.Common.{◌≡◌, ℕ, ◌+◌, ◌-◌, ◌≤◌, List, Result, Ok, sym, ◌∙◌, ap, subst, arith}
use Rattle.tm_world.specs.Disk.{Disk, DiffersAt, written, synced}
use Rattle.tm_world.specs.Outside.{disk, put_disk}
use Rattle.tm_world.specs.Log.{Log, now, Steps, Writes}
use Rattle.tm_world.specs.Runs.{OnSide, Runs}
use Rattle.tm_world.specs.declared.world.Side.{Side}
use Rattle.tm_world.proofs.Sides.{disk-put_disk, put_disk_same}
use Rattle.tm_world.proofs.Going.{Passes-now, Runs-none, Runs-steps, Runs-stays, disk_after}
use Rattle.tm_gate.specs.Selector.{named_by}
use Rattle.tm_gate.specs.Gate.{IsGate, LeavesOldOrNew, IsTurned}
use Rattle.tm_gate.proofs.Stopping.{rest_leaves, slot_leaves, slot_synced, selector_leaves, is_turned, turned_leaves}

abbrev pub Syncs : Side → Log → Log → Type 0
Syncs side old new = Steps old new (put_disk side (synced (disk side (now old))) (now old))

module _ (side : Side) (l0 : Log) (named : ℕ) (old_slot slot : List ℕ) (gate : IsGate (disk side (now l0)) named old_slot) (low : 1 ≤ named) (high : named ≤ 2) where
  abbrev d0 : Disk
  d0 = disk side (now l0)

  abbrev target : ℕ
  target = 3 - named

  abbrev P : Disk → Type 0
  P = LeavesOldOrNew d0 target slot

  two : named + target ≡ 3
  two = omega arith

  pub first : (l1 : Log) {T E : Type 0} {r : Result T E} → Writes side target slot l0 l1 r → Runs side P l0 l1
  first l1 w = Runs-steps side P l0 l0 l1 w.left (Runs-none side P l0) w.steps (slot_leaves d0 named target old_slot slot gate two low high w.left w.differs)

  pub first_stays : (l1 l2 : Log) {T E : Type 0} {r : Result T E} → Writes side target slot l0 l1 r → Steps l1 l2 (now l1) → Runs side P l0 l2
  first_stays l1 l2 w stays = Runs-stays side P l0 l1 l2 (first l1 w) stays
      (subst P (sym (disk_after side l0 l1 w.left w.steps)) (slot_leaves d0 named target old_slot slot gate two low high w.left w.differs))

  abbrev pub staged : Disk
  staged = synced (written target slot d0)

  -- the new slot is stable
  pub record IsStaged (l2 : Log) : Type 0 where
    pub runs : Runs side P l0 l2
    pub is : disk side (now l2) ≡ staged

  pub second : (l1 l2 : Log) {T E : Type 0} {v : T} → Writes {T = T} {E = E} side target slot l0 l1 (Ok v) → Syncs side l1 l2 → IsStaged l2
  second l1 l2 w syncs =
      let is : synced (disk side (now l1)) ≡ staged = ap synced (disk_after side l0 l1 w.left w.steps ∙ w.ok) in
      record {
        runs = Runs-steps side P l0 l1 l2 _ (first l1 w) syncs (subst P (sym is) (slot_synced d0 named target old_slot slot gate two low high));
        is = disk_after side l1 l2 _ syncs ∙ is;
      }

  module _ (l2 : Log) (reached : IsStaged l2) where
    third_leaves : (l3 : Log) {T E : Type 0} {r : Result T E} (bytes : List ℕ) → (w : Writes side 0 bytes l2 l3 r) → P w.left
    third_leaves l3 bytes w = selector_leaves d0 named target old_slot slot gate two low high w.left (subst (λ d. DiffersAt 0 d w.left) reached.is w.differs)

    pub third : (l3 : Log) {T E : Type 0} {r : Result T E} (bytes : List ℕ) → Writes side 0 bytes l2 l3 r → Runs side P l0 l3
    third l3 bytes w = Runs-steps side P l0 l2 l3 w.left reached.runs w.steps (third_leaves l3 bytes w)

    pub third_stays : (l3 l4 : Log) {T E : Type 0} {r : Result T E} (bytes : List ℕ) → Writes side 0 bytes l2 l3 r → Steps l3 l4 (now l3) → Runs side P l0 l4
    third_stays l3 l4 bytes w stays = Runs-stays side P l0 l3 l4 (third l3 bytes w) stays (subst P (sym (disk_after side l2 l3 w.left w.steps)) (third_leaves l3 bytes w))

    module _ (l3 l4 : Log) {T E : Type 0} {v : T} (selector : List ℕ) (names : named_by selector ≡ target) (w : Writes {T = T} {E = E} side 0 selector l2 l3 (Ok v)) (syncs : Syncs side l3 l4) where
      turned_is : synced (disk side (now l3)) ≡ synced (written 0 selector staged)
      turned_is = ap synced (disk_after side l2 l3 w.left w.steps ∙ w.ok ∙ ap (written 0 selector) reached.is)

      pub fourth : Runs side P l0 l4
      fourth = Runs-steps side P l0 l3 l4 _ (third l3 selector w) syncs (subst P (sym turned_is) (turned_leaves d0 named target old_slot slot gate two low high selector names))

      pub turned : IsTurned d0 target slot (disk side (now l4))
      turned = subst (IsTurned d0 target slot) (sym (disk_after side l3 l4 _ syncs ∙ turned_is)) (is_turned d0 named target old_slot slot gate two low high selector names)

-- what a run may leave at each moment, it may leave in the end
pub leaves_now : (side : Side) (l0 l1 : Log) (named target : ℕ) (old_slot slot same_slot : List ℕ) → slot ≡ same_slot → IsGate (disk side (now l0)) named old_slot
    → Runs side (LeavesOldOrNew (disk side (now l0)) target slot) l0 l1 → LeavesOldOrNew (disk side (now l0)) target same_slot (disk side (now l1))
leaves_now side l0 l1 named target old_slot slot same_slot same gate runs =
    let P : Disk → Type 0 = LeavesOldOrNew (disk side (now l0)) target slot in
    let at_start : OnSide side P (now l0) (now l0) =
    record { disk_then = disk side (now l0); has = rest_leaves (disk side (now l0)) named target old_slot slot gate; rest = sym (put_disk_same side (now l0)) } in
    let at_end : OnSide side P (now l0) (now l1) = Passes-now l0 l1 (OnSide side P (now l0)) runs.passes at_start in
    let leaves : P (disk side (now l1)) = subst P (sym (ap (disk side) at_end.rest ∙ disk-put_disk side at_end.disk_then (now l0))) at_end.has in
    subst (λ s. LeavesOldOrNew (disk side (now l0)) target s (disk side (now l1))) same leaves
