-- What a stop leaves while a table goes to free blocks, and while the gate is turned after it.
use Rattle.std.proofs.Common.{◌≡◌, ◌≢◌, inl, inr, ⊎_elim, ℕ, ◌-◌, ◌<◌, ◌≤◌, List, [], length, get_or, refl, sym, ◌∙◌, ap, subst, arith}
use Rattle.std.proofs.lemmas.Bool.{cases_lt}
use Rattle.tm_world.specs.Disk.{Disk}
use Rattle.tm_world.specs.Outside.{disk}
use Rattle.tm_world.specs.Log.{Log, now}
use Rattle.tm_world.specs.Runs.{Runs}
use Rattle.tm_world.specs.declared.world.Side.{Side}
use Rattle.tm_world.proofs.Going.{Runs-then, Runs-weaker}
use Rattle.tm_gate.specs.declared.root.Root.{Root}
use Rattle.tm_gate.specs.Selector.{named_by}
use Rattle.tm_gate.specs.Slot.{slot_of}
use Rattle.tm_gate.specs.Gate.{IsGate, IsBefore, IsAfter, IsTurned, LeavesOldOrNew}
use Rattle.tm_chain.specs.Differs.{DiffersIn}
use Rattle.tm_chain.specs.Chain.{LiesOn, chain_len}
use Rattle.tm_blockmap.specs.Counts.{times}
use Rattle.tm_blockmap.proofs.Counting.{stands_not}
use Rattle.tm_image.specs.Layout.{LiesAt, places}
use Rattle.tm_table.specs.Text.{table_text}
use Rattle.tm_image.specs.Content.{Content, in_data, reached, IsAtRest, IsBeside, LeavesSame, LeavesEither, Writes}
use Rattle.tm_image.proofs.Counting.{LiesAt-same}

module _ (old new : Content) (named : ℕ) (low : 1 ≤ named) (high : named ≤ 2) (written : List ℕ) (beside : IsBeside old new written) where
  -- a block that is reached is none of the new table's
  off : (b : ℕ) → times b written ≡ 0 → (k : ℕ) → k < length written → b ≢ get_or written k 0
  off b none = stands_not written b none

  off_low : (b : ℕ) → b ≤ 2 → times b written ≡ 0
  off_low b le = ⊎_elim
      (λ (some : 0 < times b written). absurd (omega (arith, beside.high b (omega arith))))
      (λ (none : times b written ≤ 0). omega arith)
      (cases_lt 0 (times b written))

  off_old : (b : ℕ) → 0 < reached b old → times b written ≡ 0
  off_old b some = ⊎_elim
      (λ (clash : 0 < times b written). absurd (omega (arith, beside.apart b clash)))
      (λ (none : times b written ≤ 0). omega arith)
      (cases_lt 0 (times b written))

  off_data : (b : ℕ) → 0 < in_data b new.records → times b written ≡ 0
  off_data b some = ⊎_elim
      (λ (clash : 0 < times b written). absurd (omega (arith, beside.apart b clash)))
      (λ (none : times b written ≤ 0). omega arith)
      (cases_lt 0 (times b written))

  module _ (d0 d1 : Disk) (rest : IsAtRest old named d0) (differs : DiffersIn written d0 d1) where
    same : (b : ℕ) → times b written ≡ 0 → d1.bytes b ≡ d0.bytes b
    same b none = differs.bytes b (off b none)

    -- the old content stands as it did
    pub still : IsAtRest old named d1
    still = record {
      count = differs.count ∙ rest.count;
      gate = record {
        selected = ap named_by (same 0 (off_low 0 (omega arith))) ∙ rest.gate.selected;
        holds = same named (off_low named high) ∙ rest.gate.holds;
        selector_stable = differs.loose 0 (off 0 (off_low 0 (omega arith))) ∙ rest.gate.selector_stable;
        slot_stable = differs.loose named (off named (off_low named high)) ∙ rest.gate.slot_stable;
      };
      table = LiesAt-same old.layout (table_text old.records) d0.bytes d1.bytes (λ b some. same b (off_old b (omega arith))) rest.table;
      high = rest.high;
      stable = λ b some. differs.loose b (off b (off_old b some)) ∙ rest.stable b some;
    }

    -- what a stop leaves of it
    pub still_reads : LeavesSame old d0.bytes d1
    still_reads image left =
        let r = still in
        let named_is : named_by (image.bytes 0) ≡ named = ap named_by (left.stable 0 r.gate.selector_stable) ∙ r.gate.selected in
        record {
          count = left.count ∙ r.count;
          slot = ap image.bytes named_is ∙ left.stable named r.gate.slot_stable ∙ r.gate.holds;
          table = LiesAt-same old.layout (table_text old.records) d1.bytes image.bytes (λ b some. left.stable b (r.stable b (omega arith))) r.table;
          each = λ b some. left.stable b (r.stable b (omega arith)) ∙ same b (off_old b (omega arith));
        }

    pub still_leaves : LeavesEither old new d0.bytes d1
    still_leaves image left = inl (still_reads image left)

    module _ (lies : LiesAt new.layout (table_text new.records) d1.bytes) where
      pub turn_leaves : (d : Disk) → LeavesOldOrNew d1 (3 - named) (slot_of new.root) d → LeavesEither old new d0.bytes d
      turn_leaves d leaves image left = ⊎_elim
          (λ (before : IsBefore d1 (3 - named) image).
          let r = still in
          let named_is : named_by (image.bytes 0) ≡ named = before.selected ∙ r.gate.selected in
          let keeps : (b : ℕ) → 0 < reached b old → image.bytes b ≡ d1.bytes b = λ b some. let up : 3 ≤ b = r.high b some in before.others b (omega arith) (omega arith) (r.stable b some) in
          inl (record {
            count = before.count ∙ r.count;
            slot = ap image.bytes named_is ∙ before.others named (omega arith) (omega arith) r.gate.slot_stable ∙ r.gate.holds;
            table = LiesAt-same old.layout (table_text old.records) d1.bytes image.bytes (λ b some. keeps b (omega arith)) r.table;
            each = λ b some. keeps b (omega arith) ∙ same b (off_old b (omega arith));
          }))
          (λ (after : IsAfter d1 (3 - named) (slot_of new.root) image).
          let keeps : (b : ℕ) → 0 < reached b new → image.bytes b ≡ d1.bytes b = λ b some. let up : 3 ≤ b = beside.high b (omega arith) in after.others b (omega arith) (omega arith) in
          inr (record {
            count = after.count ∙ differs.count ∙ rest.count ∙ sym beside.blocks;
            slot = ap image.bytes after.selected ∙ after.holds;
            table = LiesAt-same new.layout (table_text new.records) d1.bytes image.bytes (λ b some. keeps b (omega arith)) lies;
            each = λ b some. keeps b (omega arith) ∙ same b (off_data b some);
          }))
          (leaves image left)

      pub turned_rest : (d : Disk) → IsTurned d1 (3 - named) (slot_of new.root) d → IsAtRest new (3 - named) d
      turned_rest d turned = record {
        count = turned.count ∙ differs.count ∙ rest.count ∙ sym beside.blocks;
        gate = turned.gate;
        table = LiesAt-same new.layout (table_text new.records) d1.bytes d.bytes (λ b some. let up : 3 ≤ b = beside.high b (omega arith) in turned.others b (omega arith) (omega arith)) lies;
        high = λ b some. beside.high b (omega arith);
        stable = λ b some. turned.stable b;
      }

      -- the data blocks hold what they held
      pub turned_data : (d : Disk) → IsTurned d1 (3 - named) (slot_of new.root) d → (b : ℕ) → 0 < in_data b new.records → d.bytes b ≡ d0.bytes b
      turned_data d turned b some = let up : 3 ≤ b = beside.high b (omega arith) in turned.others b (omega arith) (omega arith) ∙ same b (off_data b some)

  module _ (side : Side) (l0 l1 : Log) (rest : IsAtRest old named (disk side (now l0))) where
    abbrev P : Disk → Type 0
    P = LeavesEither old new (disk side (now l0)).bytes

    pub table_run : Runs side (DiffersIn written (disk side (now l0))) l0 l1 → Runs side P l0 l1
    table_run runs = Runs-weaker side _ P l0 l1 (λ d differs. still_leaves (disk side (now l0)) d rest differs) runs

    pub whole_run : (l2 : Log) → Runs side (DiffersIn written (disk side (now l0))) l0 l1 → DiffersIn written (disk side (now l0)) (disk side (now l1))
        → LiesAt new.layout (table_text new.records) (disk side (now l1)).bytes → Runs side (LeavesOldOrNew (disk side (now l1)) (3 - named) (slot_of new.root)) l1 l2 → Runs side P l0 l2
    whole_run l2 runs differs lies turning = Runs-then side P l0 l1 l2 (table_run runs)
        (Runs-weaker side _ P l1 l2 (turn_leaves (disk side (now l0)) (disk side (now l1)) rest differs lies) turning)

-- a table elsewhere leaves the gate as it was
pub gate_still : (d0 d1 : Disk) (named : ℕ) (table : List ℕ) → 1 ≤ named → named ≤ 2 → ((b : ℕ) → 0 < times b table → 3 ≤ b) → DiffersIn table d0 d1 → IsGate d0 named (d0.bytes named) → IsGate d1 named (d1.bytes named)
gate_still d0 d1 named table low high up differs gate =
    let out : (b : ℕ) → b ≤ 2 → (k : ℕ) → k < length table → b ≢ get_or table k 0 = λ b le. stands_not table b (⊎_elim
    (λ (some : 0 < times b table). absurd (omega (arith, up b some)))
    (λ (none : times b table ≤ 0). omega arith)
    (cases_lt 0 (times b table))) in
    record {
      selected = ap named_by (differs.bytes 0 (out 0 (omega arith))) ∙ gate.selected;
      holds = refl;
      selector_stable = differs.loose 0 (out 0 (omega arith)) ∙ gate.selector_stable;
      slot_stable = differs.loose named (out named high) ∙ gate.slot_stable;
    }

-- the same, for what a call was given
module _ (old new : Content) (named : ℕ) (low : 1 ≤ named) (high : named ≤ 2) (beside : IsBeside old new (places new.layout)) (side : Side) (l0 l1 : Log) (rest : IsAtRest old named (disk side (now l0)))
    (table text : List ℕ) (root : Root) (writes : Writes new table text root) where
  pub table_of : Runs side (DiffersIn table (disk side (now l0))) l0 l1 → Runs side (LeavesEither old new (disk side (now l0)).bytes) l0 l1
  table_of runs = table_run old new named low high (places new.layout) beside side l0 l1 rest (subst (λ bs. Runs side (DiffersIn bs (disk side (now l0))) l0 l1) writes.blocks_are runs)

  lies_of : length table ≡ chain_len (length text) → LiesOn table text (disk side (now l1)).bytes → LiesAt new.layout (table_text new.records) (disk side (now l1)).bytes
  lies_of many on = subst (λ bs. LiesAt bs (table_text new.records) (disk side (now l1)).bytes) writes.blocks_are
      (subst (λ t. LiesAt table t (disk side (now l1)).bytes) writes.text_is (record { many = many; lies = on }))

  module _ (many : length table ≡ chain_len (length text)) (runs : Runs side (DiffersIn table (disk side (now l0))) l0 l1) (differs : DiffersIn table (disk side (now l0)) (disk side (now l1)))
      (on : LiesOn table text (disk side (now l1)).bytes) where
    moved : DiffersIn (places new.layout) (disk side (now l0)) (disk side (now l1))
    moved = subst (λ bs. DiffersIn bs (disk side (now l0)) (disk side (now l1))) writes.blocks_are differs

    pub whole_of : (l2 : Log) → Runs side (LeavesOldOrNew (disk side (now l1)) (3 - named) (slot_of root)) l1 l2 → Runs side (LeavesEither old new (disk side (now l0)).bytes) l0 l2
    whole_of l2 turning = whole_run old new named low high (places new.layout) beside side l0 l1 rest l2
        (subst (λ bs. Runs side (DiffersIn bs (disk side (now l0))) l0 l1) writes.blocks_are runs) moved (lies_of many on)
        (subst (λ (r : Root). Runs side (LeavesOldOrNew (disk side (now l1)) (3 - named) (slot_of r)) l1 l2) writes.root_is turning)

    pub rest_of : (d : Disk) (n : ℕ) → n ≡ 3 - named → IsTurned (disk side (now l1)) (3 - named) (slot_of root) d → IsAtRest new n d
    rest_of d n is turned = subst (λ m. IsAtRest new m d) (sym is) (turned_rest old new named low high (places new.layout) beside (disk side (now l0)) (disk side (now l1)) rest moved (lies_of many on) d
        (subst (λ (r : Root). IsTurned (disk side (now l1)) (3 - named) (slot_of r) d) writes.root_is turned))

-- blocks that nothing reaches, as the table of nothing
aside : Content → List ℕ → Content
aside old table = record { blocks = old.blocks; records = []; layout = table; root = old.root }

-- blocks that nothing reaches are written
module _ (old : Content) (named : ℕ) (low : 1 ≤ named) (high : named ≤ 2) (table : List ℕ) (apart : (b : ℕ) → 0 < times b table → (3 ≤ b) × (reached b old ≡ 0)) (once : (b : ℕ) → times b table ≤ 1) where
  is_beside : IsBeside old (aside old table) table
  unfolding aside
  is_beside = record {
    blocks = refl;
    high = λ b some. (apart b (omega arith)).0;
    apart = λ b some. omega (arith, (apart b some).1);
    once = once;
  }

  pub rest_still : (d0 d1 : Disk) → IsAtRest old named d0 → DiffersIn table d0 d1 → IsAtRest old named d1
  rest_still d0 d1 rest differs = still old (aside old table) named low high table is_beside d0 d1 rest differs

  pub staged_run : (side : Side) (l0 l1 : Log) → IsAtRest old named (disk side (now l0)) → Runs side (DiffersIn table (disk side (now l0))) l0 l1 → Runs side (LeavesSame old (disk side (now l0)).bytes) l0 l1
  staged_run side l0 l1 rest runs = Runs-weaker side _ (LeavesSame old (disk side (now l0)).bytes) l0 l1
      (λ d differs. still_reads old (aside old table) named low high table is_beside (disk side (now l0)) d rest differs) runs

-- the data blocks hold what they held
module _ (old new : Content) (named : ℕ) (low : 1 ≤ named) (high : named ≤ 2) (beside : IsBeside old new (places new.layout)) (table text : List ℕ) (root : Root) (writes : Writes new table text root) where
  pub data_of : (d0 d1 d2 : Disk) → IsAtRest old named d0 → DiffersIn table d0 d1 → length table ≡ chain_len (length text) → LiesOn table text d1.bytes → IsTurned d1 (3 - named) (slot_of root) d2 → (b : ℕ) → 0 < in_data b new.records → d2.bytes b ≡ d0.bytes b
  data_of d0 d1 d2 rest differs many on turned =
      let moved : DiffersIn (places new.layout) d0 d1 = subst (λ bs. DiffersIn bs d0 d1) writes.blocks_are differs in
      let lies : LiesAt new.layout (table_text new.records) d1.bytes = subst (λ bs. LiesAt bs (table_text new.records) d1.bytes) writes.blocks_are (subst (λ t. LiesAt table t d1.bytes) writes.text_is (record { many = many; lies = on })) in
      turned_data old new named low high (places new.layout) beside d0 d1 rest moved lies d2 (subst (λ (r : Root). IsTurned d1 (3 - named) (slot_of r) d2) writes.root_is turned)

  pub staged_data : (d0 d1 : Disk) → DiffersIn table d0 d1 → (b : ℕ) → times b table ≡ 0 → d1.bytes b ≡ d0.bytes b
  staged_data d0 d1 differs b none = differs.bytes b (stands_not table b none)
