-- What a stop leaves while a side is formatted.
use Rattle.std.proofs.Common.{◌≡◌, ◌≢◌, ⊎_elim, inl, inr, ℕ, ◌-◌, ◌<◌, ◌≤◌, List, length, get_or, sym, ◌∙◌, ap, subst, arith}
use Rattle.std.proofs.lemmas.Bool.{cases_lt}
use Rattle.tm_world.specs.Disk.{Disk, Image, IsLeft}
use Rattle.tm_world.specs.Outside.{disk}
use Rattle.tm_world.specs.Log.{Log, now}
use Rattle.tm_world.specs.Runs.{Runs}
use Rattle.tm_world.specs.declared.world.Side.{Side}
use Rattle.tm_world.proofs.Going.{Runs-then, Runs-weaker}
use Rattle.tm_gate.specs.declared.root.Root.{Root}
use Rattle.tm_gate.specs.Selector.{named_by}
use Rattle.tm_gate.specs.Slot.{HasMagic, slot_of}
use Rattle.tm_gate.specs.Load.{IsUnformatted}
use Rattle.tm_gate.specs.Gate.{IsGate, IsBefore, IsAfter, IsTurned, LeavesOldOrNew}
use Rattle.tm_chain.specs.Differs.{DiffersIn}
use Rattle.tm_chain.specs.Chain.{LiesOn, chain_len}
use Rattle.tm_blockmap.specs.Counts.{times}
use Rattle.tm_blockmap.proofs.Counting.{stands_not}
use Rattle.tm_image.specs.Layout.{LiesAt}
use Rattle.tm_table.specs.Text.{table_text}
use Rattle.tm_image.specs.Content.{Content, reached, IsAtRest, Writes}
use Rattle.tm_image.specs.Blank.{LacksMagic, IsFirst, LeavesNoneOrHeld}
use Rattle.tm_image.proofs.Counting.{LiesAt-same}
use Rattle.tm_image.proofs.Stopping.{gate_still}

-- the same named slot lacks the magic as well
pub lacks_same : (f g : ℕ → List ℕ) (named : ℕ) → named_by (f 0) ≡ named → named_by (g 0) ≡ named → g named ≡ f named → LacksMagic f → LacksMagic g
lacks_same f g named sel_f sel_g slot lacks = λ has. lacks (subst HasMagic (ap g sel_g ∙ slot ∙ ap f (sym sel_f)) has)

pub lacks_from : (f : ℕ → List ℕ) (named : ℕ) → IsUnformatted f named → LacksMagic f
lacks_from f named is = λ has. is.lacks (subst HasMagic (ap f is.selected) has)

module _ (new : Content) (named : ℕ) (low : 1 ≤ named) (high : named ≤ 2) (table : List ℕ) (up : (b : ℕ) → 0 < times b table → 3 ≤ b) where
  off : (b : ℕ) → b ≤ 2 → (k : ℕ) → k < length table → b ≢ get_or table k 0
  off b le = stands_not table b (⊎_elim
      (λ (some : 0 < times b table). absurd (omega (arith, up b some)))
      (λ (none : times b table ≤ 0). omega arith)
      (cases_lt 0 (times b table)))

  module _ (d0 d1 : Disk) (gate : IsGate d0 named (d0.bytes named)) (differs : DiffersIn table d0 d1) where
    still : IsGate d1 named (d1.bytes named)
    still = gate_still d0 d1 named table low high up differs gate

    lacks_on : LacksMagic d0.bytes → LacksMagic d1.bytes
    lacks_on lacks = lacks_same d0.bytes d1.bytes named gate.selected still.selected (differs.bytes named (off named high)) lacks

    lacks_left : LacksMagic d0.bytes → (image : Image) → IsLeft d1 image → LacksMagic image.bytes
    lacks_left lacks image left = lacks_same d1.bytes image.bytes named still.selected (ap named_by (left.stable 0 still.selector_stable) ∙ still.selected) (left.stable named still.slot_stable) (lacks_on lacks)

    module _ (first : IsFirst new d0) (lies : LiesAt new.layout (table_text new.records) d1.bytes) where
      first_turn : LacksMagic d0.bytes → (d : Disk) → LeavesOldOrNew d1 (3 - named) (slot_of new.root) d → LeavesNoneOrHeld new d0.bytes d
      first_turn lacks d leaves image left = ⊎_elim
          (λ (before : IsBefore d1 (3 - named) image).
          inl (lacks_same d1.bytes image.bytes named still.selected (before.selected ∙ still.selected) (before.others named (omega arith) (omega arith) still.slot_stable) (lacks_on lacks)))
          (λ (after : IsAfter d1 (3 - named) (slot_of new.root) image).
          let keeps : (b : ℕ) → 0 < reached b new → image.bytes b ≡ d1.bytes b = λ b some. let b_up : 3 ≤ b = first.high b some in after.others b (omega arith) (omega arith) in
          inr (record {
            count = after.count ∙ differs.count ∙ first.count;
            slot = ap image.bytes after.selected ∙ after.holds;
            table = LiesAt-same new.layout (table_text new.records) d1.bytes image.bytes (λ b some. keeps b (omega arith)) lies;
            each = λ b some. absurd (omega (arith, some, first.empty b));
          }))
          (leaves image left)

      pub first_rest : (d : Disk) → IsTurned d1 (3 - named) (slot_of new.root) d → IsAtRest new (3 - named) d
      first_rest d turned = record {
        count = turned.count ∙ differs.count ∙ first.count;
        gate = turned.gate;
        table = LiesAt-same new.layout (table_text new.records) d1.bytes d.bytes (λ b some. let b_up : 3 ≤ b = first.high b (omega arith) in turned.others b (omega arith) (omega arith)) lies;
        high = first.high;
        stable = λ b some. turned.stable b;
      }

  module _ (side : Side) (l0 l1 : Log) (gate : IsGate (disk side (now l0)) named ((disk side (now l0)).bytes named)) (lacks : LacksMagic (disk side (now l0)).bytes) where
    abbrev P : Disk → Type 0
    P = LeavesNoneOrHeld new (disk side (now l0)).bytes

    pub table_run : Runs side (DiffersIn table (disk side (now l0))) l0 l1 → Runs side P l0 l1
    table_run runs = Runs-weaker side _ P l0 l1 (λ d differs. λ image left. inl (lacks_left (disk side (now l0)) d gate differs lacks image left)) runs

    pub whole_run : (l2 : Log) → Runs side (DiffersIn table (disk side (now l0))) l0 l1 → DiffersIn table (disk side (now l0)) (disk side (now l1)) → IsFirst new (disk side (now l0))
        → LiesAt new.layout (table_text new.records) (disk side (now l1)).bytes → Runs side (LeavesOldOrNew (disk side (now l1)) (3 - named) (slot_of new.root)) l1 l2 → Runs side P l0 l2
    whole_run l2 runs differs first lies turning = Runs-then side P l0 l1 l2 (table_run runs)
        (Runs-weaker side _ P l1 l2 (first_turn (disk side (now l0)) (disk side (now l1)) gate differs first lies lacks) turning)

-- the same, for what a call was given
module _ (new : Content) (table text : List ℕ) (root : Root) (writes : Writes new table text root) where
  pub first_lies : (d : Disk) → length table ≡ chain_len (length text) → LiesOn table text d.bytes → LiesAt new.layout (table_text new.records) d.bytes
  first_lies d many on = subst (λ bs. LiesAt bs (table_text new.records) d.bytes) writes.blocks_are
      (subst (λ t. LiesAt table t d.bytes) writes.text_is (record { many = many; lies = on }))

  pub first_turning : (side : Side) (l1 l2 : Log) (d1 : Disk) (target : ℕ) → Runs side (LeavesOldOrNew d1 target (slot_of root)) l1 l2 → Runs side (LeavesOldOrNew d1 target (slot_of new.root)) l1 l2
  first_turning side l1 l2 d1 target turning = subst (λ (r : Root). Runs side (LeavesOldOrNew d1 target (slot_of r)) l1 l2) writes.root_is turning

  pub first_turned : (d1 d : Disk) (target : ℕ) → IsTurned d1 target (slot_of root) d → IsTurned d1 target (slot_of new.root) d
  first_turned d1 d target turned = subst (λ (r : Root). IsTurned d1 target (slot_of r) d) writes.root_is turned
