-- What was read makes an image.
use Rattle.std.proofs.Common.{◌≡◌, ◌≢◌, ◌↔◌, ⊎_elim, ℕ, zero, suc, ◌+◌, ◌^◌, ◌<◌, ◌≤◌, List, [], ◌∷◌, ◌++◌, length, get_or, take, Option, Some, None, false, sym, ◌∙◌, ap, subst, arith, length-append}
use Rattle.std.specs.List.{All}
use Rattle.std.specs.List.Sorted.{IsStrictlyIncreasing}
use Rattle.std.specs.Map.{keys_of, values_of}
use Rattle.std.proofs.Math.Seq.{take-append-add}
use Rattle.std.proofs.lemmas.Bool.{cases_lt, cases_eq}
use Rattle.std.proofs.lemmas.List.{get_or_past, take-append-le, get_or-append-add, get_or_append_left}
use Rattle.std.proofs.lemmas.List.Sums.{sum_by-cons}
use Rattle.std.proofs.lemmas.Map.Keys.{sorted_from_strictly_increasing}
use Rattle.tm_world.specs.declared.world.Side.{Side}
use Rattle.tm_gate.specs.declared.root.Root.{Root}
use Rattle.tm_gate.specs.Root.{IsRoot}
use Rattle.tm_blockmap.specs.Marks.{AreMarks}
use Rattle.tm_blockmap.specs.Counts.{times, IsDistinct}
use Rattle.tm_blockmap.proofs.Counting.{one_other, times-cons, times-append, stands}
use Rattle.tm_world.specs.Disk.{Disk}
use Rattle.tm_gate.specs.declared.gate.Gate.{Gate}
use Rattle.tm_gate.specs.Slot.{slot_of}
use Rattle.tm_gate.specs.Load.{Shows}
use Rattle.tm_table.specs.Text.{table_text}
use Rattle.tm_chain.specs.Chain.{IsBlockList, IsChain, LiesOn}
use Rattle.tm_records.specs.declared.record.Record.{Record}
use Rattle.tm_records.specs.Records.{Records}
use Rattle.tm_table.specs.Good.{AreRecords}
use Rattle.tm_image.specs.Layout.{blocks_for}
use Rattle.tm_image.specs.Content.{in_data}
use Rattle.tm_image.specs.Reads.{kept}
use Rattle.tm_image.specs.Seen.{Seen, IsSound, IsKept, IsSettled, Stands}
use Rattle.tm_image.specs.Claim.{IsRefused}
use Rattle.tm_image.specs.Load.{IsClaimedAgain, claims}
use Rattle.tm_image.proofs.Owning.{kept_low, kept_high}
use Rattle.tm_image.proofs.Claiming.{flat, times-flat}
use Rattle.tm_base.specs.Limits.{max_blocks}

module _ (total : ℕ) where
  rise : (before : Option ℕ) (es : Records) → AreRecords total before es → IsStrictlyIncreasing (keys_of es)
  rise before [] are k lt = absurd (omega arith)
  rise before (e ∷ []) are k lt = absurd (omega arith)
  rise before (e ∷ d ∷ es) are zero lt = are.1.0.above
  rise before (e ∷ d ∷ es) are (suc k) lt =
      let next : suc (k + 1) ≡ suc k + 1 = omega arith in
      subst (λ (j : ℕ). get_or (keys_of (e ∷ d ∷ es)) (suc k) 0 < get_or (keys_of (e ∷ d ∷ es)) j 0) next (rise (Some e.0) (d ∷ es) are.1 k (omega arith))

  small_keys : (before : Option ℕ) (es : Records) → AreRecords total before es → All (λ k. k < 2 ^ 64) (keys_of es)
  small_keys before [] are k d lt = absurd (omega arith)
  small_keys before (e ∷ es) are zero d lt = are.0.key
  small_keys before (e ∷ es) are (suc k) d lt = small_keys (Some e.0) es are.1 k d (omega arith)

  kept_each : (before : Option ℕ) (es : Records) → AreRecords total before es → All IsKept (values_of es)
  kept_each before [] are k d lt = absurd (omega arith)
  kept_each before (e ∷ es) are zero d lt = record { meta = are.0.meta; many = are.0.many }
  kept_each before (e ∷ es) are (suc k) d lt = kept_each (Some e.0) es are.1 k d (omega arith)

  pub within_each : (before : Option ℕ) (es : Records) (n : ℕ) → n ≡ total → AreRecords total before es → All (λ (e : ℕ × Record). All (λ b. b < n) e.1.blocks) es
  within_each before [] n is are k d lt = absurd (omega arith)
  within_each before (e ∷ es) n is are zero d lt = λ j c low. omega (arith, is, (are.0.each j c low).1)
  within_each before (e ∷ es) n is are (suc k) d lt = within_each (Some e.0) es n is are.1 k d (omega arith)

  high_all : (b : ℕ) (xs : List ℕ) → All (λ x. (3 ≤ x) × (x < total)) xs → 0 < times b xs → 3 ≤ b
  high_all b [] all some = absurd (omega arith)
  high_all b (x ∷ xs) all some = ⊎_elim
      (λ (e : x ≡ b). omega (arith, e, (all 0 x (omega arith)).0))
      (λ (ne : x ≢ b). high_all b xs (λ k d lt. all (suc k) d (omega arith)) (omega (arith, some, times-cons b x xs, one_other x b ne)))
      (cases_eq x b)

  high_data : (b : ℕ) (before : Option ℕ) (es : Records) → AreRecords total before es → 0 < in_data b es → 3 ≤ b
  high_data b before [] are some = absurd (omega arith)
  high_data b before (e ∷ es) are some = ⊎_elim
      (λ (here : 0 < times b e.1.blocks). high_all b e.1.blocks are.0.each here)
      (λ (none : times b e.1.blocks ≤ 0). high_data b (Some e.0) es are.1 (omega (arith, some, sum_by-cons (λ (r : Record). times b r.blocks) e.1 (values_of es))))
      (cases_lt 0 (times b e.1.blocks))

  -- a new map has the blocks of the gate
  pub kept_marks : (ms : List ℕ) → 3 ≤ total → length ms ≡ total → AreMarks ms → ((b : ℕ) → b < total → (get_or ms b 0 ≡ 0) ↔ (3 ≤ b)) → (b : ℕ) → get_or ms b 0 ≡ kept b
  kept_marks ms least size marks free b = ⊎_elim
      (λ (lt : b < 3). ⊎_elim
      (λ (some : 0 < get_or ms b 0). omega (arith, marks b, kept_low b lt))
      (λ (none : get_or ms b 0 ≤ 0). absurd (omega (arith, lt, (free b (omega arith)).0 (omega arith))))
      (cases_lt 0 (get_or ms b 0)))
      (λ (le : 3 ≤ b). ⊎_elim
      (λ (in_map : b < total). omega (arith, (free b in_map).1 le, kept_high b le))
      (λ (past : total ≤ b). omega (arith, get_or_past ms b 0 (omega (arith, size)), kept_high b le))
      (cases_lt b total))
      (cases_lt b 3)

  module _ (side : Side) (root : Root) (named : ℕ) (table : List ℕ) (es : Records) (few : total ≤ max_blocks) (is_root : IsRoot side total root) (row : IsBlockList root.first total table) (many : length table ≡ blocks_for root.table_len) (are : AreRecords total None es) where
    pub sound_loaded : (used : List ℕ) → 1 ≤ named → named ≤ 2 → length used ≡ total → AreMarks used → ((b : ℕ) → get_or used b 0 ≡ kept b + times b table + in_data b es) → IsSound (record { side = side; records = es; used = used; layout = table; root = root; named = named })
    sound_loaded used low high size marks owned = record {
      marks = marks;
      owners = λ b. omega (arith, owned b);
      small = omega (arith, size, few);
      low = low;
      high = high;
      rising = sorted_from_strictly_increasing (keys_of es) (rise None es are);
      keys = small_keys None es are;
      each = kept_each None es are;
      root = subst (λ n. IsRoot side n root) (sym size) is_root;
      first = sym row.starts;
      many = many;
    }

    pub again_in_table : (ms : List ℕ) (block : ℕ) → ((b : ℕ) → get_or ms b 0 ≡ kept b) → IsRefused table ms block → IsClaimedAgain (claims table es) block
    again_in_table ms block new refused =
        let p : ℕ = refused.place in
        let here : take p (claims table es) ≡ take p table = take-append-le p table (flat es) (omega (arith, refused.within)) in
        let high : 3 ≤ block = subst (λ (b : ℕ). 3 ≤ b) refused.is (row.inside p refused.within).0 in
        record {
          place = p;
          within = omega (arith, refused.within, length-append table (flat es));
          is = get_or_append_left table (flat es) 0 p refused.within ∙ refused.is;
          again = omega (arith, refused.again, new block, kept_high block high, ap (times block) here);
          first = λ b. omega (arith, refused.first b, ap (times b) here);
        }

    pub again_in_data : (ms : List ℕ) (block : ℕ) → ((b : ℕ) → get_or ms b 0 ≡ kept b + times b table) → IsRefused (flat es) ms block → IsClaimedAgain (claims table es) block
    again_in_data ms block new refused =
        let p : ℕ = refused.place in
        let here : take (length table + p) (claims table es) ≡ table ++ take p (flat es) = take-append-add table (flat es) p in
        let found : 0 < times block (flat es) = subst (λ (b : ℕ). 0 < times b (flat es)) refused.is (stands (flat es) p refused.within) in
        let high : 3 ≤ block = high_data block None es are (omega (arith, found, times-flat block es)) in
        record {
          place = length table + p;
          within = omega (arith, refused.within, length-append table (flat es));
          is = get_or-append-add table (flat es) p 0 ∙ refused.is;
          again = omega (arith, refused.again, new block, kept_high block high, ap (times block) here, times-append block table (take p (flat es)));
          first = λ b. omega (arith, refused.first b, new b, ap (times b) here, times-append b table (take p (flat es)));
        }

    pub owned_loaded : (m1 m2 m3 : List ℕ) → ((b : ℕ) → get_or m1 b 0 ≡ kept b) → ((b : ℕ) → get_or m2 b 0 ≡ get_or m1 b 0 + times b table) → ((b : ℕ) → get_or m3 b 0 ≡ get_or m2 b 0 + in_data b es) → (b : ℕ) → get_or m3 b 0 ≡ kept b + times b table + in_data b es
    owned_loaded m1 m2 m3 new chain data_blocks b = omega (arith, new b, chain b, data_blocks b)

-- no block is claimed twice
pub distinct_claims : (table : List ℕ) (es : Records) (used : List ℕ) → ((b : ℕ) → get_or used b 0 ≡ kept b + times b table + in_data b es) → AreMarks used → IsDistinct (claims table es)
distinct_claims table es used owned marks b = omega (arith, owned b, marks b, times-append b table (flat es), times-flat b es)

-- what was read stands
pub stands_loaded : (m : Seen) → IsSound m → (d : Disk) (gate : Gate) (text : List ℕ) (n : ℕ) → d.count ≡ length m.used → Shows d.bytes gate → m.root ≡ gate.root → m.named ≡ gate.named
    → IsChain gate.root.first gate.root.table_len n m.layout text d.bytes → text ≡ table_text m.records → ((b : ℕ) → d.loose b ≡ false) → Stands m d
stands_loaded m sound d gate text n count shows root named chain is stable = record {
  count = count;
  gate = record { selected = shows.selected ∙ sym named; holds = ap d.bytes named ∙ shows.holds ∙ ap slot_of (sym root); selector_stable = stable 0; slot_stable = stable m.named };
  table = record { many = chain.many ∙ ap blocks_for (sym chain.size ∙ ap length is); lies = subst (λ t. LiesOn m.layout t d.bytes) is chain.lies };
  high = λ b some. ⊎_elim (λ (lt : b < 3). absurd (omega (arith, sound.owners b, sound.marks b, kept_low b lt, some))) (λ (le : 3 ≤ b). le) (cases_lt b 3);
  stable = λ b some. stable b;
}

pub settled_loaded : (m : Seen) (root : Root) (text : List ℕ) → m.root ≡ root → length text ≡ root.table_len → text ≡ table_text m.records → IsSettled m
settled_loaded m root text is size text_is = ap (λ (r : Root). r.table_len) is ∙ sym size ∙ ap length text_is
