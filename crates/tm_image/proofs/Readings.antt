-- An image has one reading.
use Rattle.std.proofs.Common.{◌≡◌, ⊎_elim, ℕ, ◌+◌, ◌<◌, ◌≤◌, List, ◌++◌, length, get_or, take, drop, Some, None, refl, sym, ◌∙◌, ap, subst, arith}
use Rattle.std.proofs.lemmas.Bool.{cases_lt}
use Rattle.std.proofs.lemmas.List.{take-append-drop, take-take, length-take, get_or-take}
use Rattle.tm_world.specs.Disk.{Image}
use Rattle.tm_world.specs.declared.world.Side.{Side}
use Rattle.tm_world.specs.declared.world.Side.TheVariants.{Volume, Store}
use Rattle.tm_world.specs.declared.cause.Cause.{Cause}
use Rattle.tm_world.specs.declared.cause.Cause.TheVariants.{Slot, Chain, Table, Pages, Block, Room, Record as RecordCause, Spent}
use Rattle.tm_codec.specs.Fields.{u32_text, u64_text}
use Rattle.tm_codec.proofs.Fields.{apart-u32, apart-u64}
use Rattle.tm_gate.specs.declared.root.Root.{Root}
use Rattle.tm_gate.specs.Selector.{named_slot}
use Rattle.tm_gate.specs.Slot.{HasMagic, slot_of}
use Rattle.tm_gate.specs.Fields.{IsGoodSlot, bytes_at}
use Rattle.tm_gate.specs.Root.{IsRoot}
use Rattle.tm_gate.specs.Tag.{IsTag, volume_tag}
use Rattle.tm_gate.specs.Load.{IsBadGate}
use Rattle.tm_gate.proofs.Roots.{good_from_root, has_magic, tag_at}
use Rattle.tm_blockmap.specs.Counts.{times, IsDistinct}
use Rattle.tm_blockmap.proofs.Counting.{one_same, stands, times-append, times-more}
use Rattle.tm_chain.specs.Chain.{IsBlockList, IsChain, chain_len}
use Rattle.tm_chain.specs.Way.{BreaksAt as ChainBreaksAt}
use Rattle.tm_chain.proofs.Ways.{one_chain, chain_or_break, one_break}
use Rattle.tm_records.specs.Records.{Records}
use Rattle.tm_table.specs.Text.{table_text}
use Rattle.tm_table.specs.Breaks.{BreaksAt as TableBreaksAt}
use Rattle.tm_table.proofs.OneText.{table_is_one, table_or_break, break_is_one}
use Rattle.tm_image.specs.Content.{Content}
use Rattle.tm_image.specs.Reads.{Entries, ReadsAsTable, data_len, entries_of}
use Rattle.tm_image.specs.Blank.{LacksMagic}
use Rattle.tm_image.specs.Load.{HasRoot, HasRecords, IsClaimedAgain, claims, Fails}
use Rattle.tm_image.specs.Laws.{OneFailure, OneReading, FailsOrLacks, ReadsOrFails, ReadsOrLacks}
use Rattle.tm_image.proofs.Owning.{kept_low}
use Rattle.tm_image.proofs.Claiming.{flat, times-flat}
use Rattle.tm_base.specs.Limits.{max_blocks}

-- what a slot says of its root, but for the sequence
pub record IsSameRoot (r s : Root) : Type 0 where
  pub first : r.first ≡ s.first
  pub table_len : r.table_len ≡ s.table_len
  pub tag : r.tag ≡ s.tag

slot_12 : (r : Root) → drop 12 (slot_of r) ≡ u32_text r.first ++ drop 16 (slot_of r)
unfolding slot_of u32_text u64_text
slot_12 r = refl

slot_24 : (r : Root) → drop 24 (slot_of r) ≡ u64_text r.table_len ++ drop 32 (slot_of r)
unfolding slot_of u32_text u64_text
slot_24 r = refl

long_tag : (flag second third : ℕ) → length (volume_tag flag second third) ≡ 64
unfolding u64_text
long_tag flag second third = refl

tag_long : (side : Side) (tag : List ℕ) → IsTag side tag → length tag ≡ 64
tag_long Volume tag is = ap length is.is ∙ long_tag is.clean is.generation is.next
tag_long Store tag is = ap length is.is ∙ long_tag is.running is.date is.number

same_root : (side : Side) (blocks : ℕ) (r s : Root) → blocks ≤ max_blocks → IsRoot side blocks r → IsRoot side blocks s → slot_of r ≡ slot_of s → IsSameRoot r s
same_root side blocks r s few is_r is_s same = record {
  first = (apart-u32 r.first s.first (drop 16 (slot_of r)) (drop 16 (slot_of s)) (omega (arith, is_r.first_most)) (omega (arith, is_s.first_most)) (sym (slot_12 r) ∙ ap (drop 12) same ∙ slot_12 s)).0;
  table_len = (apart-u64 r.table_len s.table_len (drop 32 (slot_of r)) (drop 32 (slot_of s)) (omega (arith, is_r.length_most)) (omega (arith, is_s.length_most)) (sym (slot_24 r) ∙ ap (drop 24) same ∙ slot_24 s)).0;
  tag = sym (tag_at r (tag_long side r.tag is_r.tag)) ∙ ap (bytes_at 32 64) same ∙ tag_at s (tag_long side s.tag is_s.tag);
}

-- at one place in a list, by how often a block stands before it
cut : (n : ℕ) (xs : List ℕ) (b : ℕ) → times b (take n xs) ≤ times b xs
cut n xs b = omega (arith, times-append b (take n xs) (drop n xs), ap (times b) (take-append-drop n xs))

again_not : (xs : List ℕ) (b : ℕ) → IsDistinct xs → IsClaimedAgain xs b → ⊥
again_not xs b distinct again = absurd (omega (arith, distinct b, cut (again.place + 1) xs b, times-more xs again.place b again.within, one_same (get_or xs again.place 0) b again.is, again.again))

-- the first block that is claimed twice is one
again_before : (xs : List ℕ) (a b : ℕ) (f : IsClaimedAgain xs a) (g : IsClaimedAgain xs b) → f.place < g.place → ⊥
again_before xs a b f g lt =
    let within : f.place < length (take g.place xs) = omega (arith, length-take g.place xs, g.within, lt) in
    let is : get_or (take g.place xs) f.place 0 ≡ a = get_or-take g.place xs f.place 0 lt ∙ f.is in
    let here : take f.place (take g.place xs) ≡ take f.place xs = take-take f.place g.place xs (omega (arith, lt)) in
    absurd (omega (arith, g.first a, cut (f.place + 1) (take g.place xs) a, times-more (take g.place xs) f.place a within, one_same (get_or (take g.place xs) f.place 0) a is, ap (times a) here, f.again))

again_one : (xs : List ℕ) (a b : ℕ) → IsClaimedAgain xs a → IsClaimedAgain xs b → b ≡ a
again_one xs a b f g = ⊎_elim
    (λ (lt : f.place < g.place). absurd (again_before xs a b f g lt))
    (λ (le : g.place ≤ f.place). ⊎_elim
    (λ (gt : g.place < f.place). absurd (again_before xs b a g f gt))
    (λ (ge : f.place ≤ g.place). let same : g.place ≡ f.place = omega arith in sym g.is ∙ ap (λ i. get_or xs i 0) same ∙ f.is)
    (cases_lt g.place f.place))
    (cases_lt f.place g.place)

module _ (side : Side) (blocks : ℕ) (bytes : ℕ → List ℕ) (few : blocks ≤ max_blocks) where
  pub one_root : (r s : Root) → HasRoot side blocks bytes r → HasRoot side blocks bytes s → IsSameRoot r s
  one_root r s has_r has_s = same_root side blocks r s few has_r.good has_s.good (sym has_r.slot ∙ has_s.slot)

  -- a chain that another root names is the same
  moved : (r s : Root) (chain text : List ℕ) → IsSameRoot r s → IsChain s.first s.table_len blocks chain text bytes → IsChain r.first r.table_len blocks chain text bytes
  moved r s chain text same lies = subst (λ n. IsChain n r.table_len blocks chain text bytes) (sym same.first) (subst (λ n. IsChain s.first n blocks chain text bytes) (sym same.table_len) lies)

  breaks_moved : (r s : Root) (place : ℕ) → IsSameRoot r s → ChainBreaksAt s.first s.table_len blocks place bytes → ChainBreaksAt r.first r.table_len blocks place bytes
  breaks_moved r s place same breaks = subst (λ n. ChainBreaksAt n r.table_len blocks place bytes) (sym same.first) (subst (λ n. ChainBreaksAt s.first n blocks place bytes) (sym same.table_len) breaks)

  pub slot_or_root : (place : ℕ) (r : Root) → IsBadGate side blocks bytes place → HasRoot side blocks bytes r → ⊥
  slot_or_root place r bad has =
      let good : IsGoodSlot side blocks (named_slot bytes) = subst (IsGoodSlot side blocks) (sym has.slot) (good_from_root side blocks r (omega (arith, few)) has.good) in
      let both : None ≡ Some place = sym good ∙ bad.bad in
      cc

  pub break_or_chain : (r s : Root) (place : ℕ) (chain text : List ℕ) → HasRoot side blocks bytes r → ChainBreaksAt r.first r.table_len blocks place bytes → HasRoot side blocks bytes s → IsChain s.first s.table_len blocks chain text bytes → ⊥
  break_or_chain r s place chain text has_r breaks has_s lies = chain_or_break r.first r.table_len blocks place chain text bytes (omega (arith, few)) (moved r s chain text (one_root r s has_r has_s) lies) breaks

  one_text : (r s : Root) (chain text chain2 text2 : List ℕ) → HasRoot side blocks bytes r → IsChain r.first r.table_len blocks chain text bytes → HasRoot side blocks bytes s → IsChain s.first s.table_len blocks chain2 text2 bytes
      → (chain2 ≡ chain) × (text2 ≡ text)
  one_text r s chain text chain2 text2 has_r lies_r has_s lies_s = one_chain r.first r.table_len blocks chain chain2 text text2 bytes (omega (arith, few)) lies_r (moved r s chain2 text2 (one_root r s has_r has_s) lies_s)

  pub table_or_records : (r : Root) (chain text : List ℕ) (place : ℕ) (chain2 : List ℕ) (es : Records) → HasRoot side blocks bytes r → IsChain r.first r.table_len blocks chain text bytes → TableBreaksAt blocks text place
      → HasRecords side blocks bytes chain2 es → ⊥
  table_or_records r chain text place chain2 es has lies breaks records =
      let same = one_text r records.root chain text chain2 (table_text es) has lies records.has records.lies in
      table_or_break blocks es place (omega (arith, few)) records.are (subst (λ t. TableBreaksAt blocks t place) (sym same.1) breaks)

  pub one_records : (chain chain2 : List ℕ) (es es2 : Records) → HasRecords side blocks bytes chain es → HasRecords side blocks bytes chain2 es2 → (chain2 ≡ chain) × (es2 ≡ es)
  one_records chain chain2 es es2 f g =
      let same = one_text f.root g.root chain (table_text es) chain2 (table_text es2) f.has f.lies g.has g.lies in
      (same.0, table_is_one blocks es2 es (omega (arith, few)) g.are f.are same.1)

  same_claims : (chain chain2 : List ℕ) (es es2 : Records) → HasRecords side blocks bytes chain es → HasRecords side blocks bytes chain2 es2 → claims chain2 es2 ≡ claims chain es
  same_claims chain chain2 es es2 f g = let same = one_records chain chain2 es es2 f g in λ i. claims (same.0 i) (same.1 i)

  pub block_or_distinct : (chain chain2 : List ℕ) (es es2 : Records) (place : ℕ) → HasRecords side blocks bytes chain es → IsClaimedAgain (claims chain es) place → HasRecords side blocks bytes chain2 es2 → IsDistinct (claims chain2 es2) → ⊥
  block_or_distinct chain chain2 es es2 place f again g distinct = again_not (claims chain es) place (subst IsDistinct (same_claims chain chain2 es es2 f g) distinct) again

  -- each failure against each
  one_slot : (place place2 : ℕ) → IsBadGate side blocks bytes place → IsBadGate side blocks bytes place2 → place2 ≡ place
  one_slot place place2 f g = let both : Some place2 ≡ Some place = sym g.bad ∙ f.bad in cc

  one_chain_break : (r s : Root) (place place2 : ℕ) → HasRoot side blocks bytes r → ChainBreaksAt r.first r.table_len blocks place bytes → HasRoot side blocks bytes s → ChainBreaksAt s.first s.table_len blocks place2 bytes → place2 ≡ place
  one_chain_break r s place place2 has_r f has_s g = one_break r.first r.table_len blocks place place2 bytes (omega (arith, few)) f (breaks_moved r s place2 (one_root r s has_r has_s) g)

  one_table_break : (r s : Root) (chain text chain2 text2 : List ℕ) (place place2 : ℕ) → HasRoot side blocks bytes r → IsChain r.first r.table_len blocks chain text bytes → TableBreaksAt blocks text place
      → HasRoot side blocks bytes s → IsChain s.first s.table_len blocks chain2 text2 bytes → TableBreaksAt blocks text2 place2 → place2 ≡ place
  one_table_break r s chain text chain2 text2 place place2 has_r lies_r f has_s lies_s g =
      let same = one_text r s chain text chain2 text2 has_r lies_r has_s lies_s in
      break_is_one blocks text place2 place (omega (arith, few)) (subst (λ t. TableBreaksAt blocks t place2) same.1 g) f

  one_block : (chain chain2 : List ℕ) (es es2 : Records) (place place2 : ℕ) → HasRecords side blocks bytes chain es → IsClaimedAgain (claims chain es) place → HasRecords side blocks bytes chain2 es2 → IsClaimedAgain (claims chain2 es2) place2 → place2 ≡ place
  one_block chain chain2 es es2 place place2 f again g again2 = again_one (claims chain es) place place2 again (subst (λ xs. IsClaimedAgain xs place2) (same_claims chain chain2 es es2 f g) again2)

  one_room : (chain chain2 : List ℕ) (es es2 : Records) (place place2 : ℕ) → HasRecords side blocks bytes chain es → place + 3 + length chain + data_len es ≡ blocks → HasRecords side blocks bytes chain2 es2 → place2 + 3 + length chain2 + data_len es2 ≡ blocks → place2 ≡ place
  one_room chain chain2 es es2 place place2 f is g is2 = let same = one_records chain chain2 es es2 f g in omega (arith, is, is2, ap length same.0, ap data_len same.1)

  -- where the root is read, the first check doesn't fail, and so on
  pub failure : (cause cause2 : Cause) (place place2 : ℕ) → Fails side blocks bytes cause place → Fails side blocks bytes cause2 place2 → (cause2 ≡ cause) × (place2 ≡ place)
  failure Pages cause2 place place2 f g = absurd f
  failure RecordCause cause2 place place2 f g = absurd f
  failure Spent cause2 place place2 f g = absurd f
  failure Slot Pages place place2 f g = absurd g
  failure Slot RecordCause place place2 f g = absurd g
  failure Slot Spent place place2 f g = absurd g
  failure Slot Slot place place2 f g = (refl, one_slot place place2 f g)
  failure Slot Chain place place2 f g = absurd (slot_or_root place g.0 f g.1)
  failure Slot Table place place2 f g = absurd (slot_or_root place g.0 f g.1)
  failure Slot Block place place2 f g = absurd (slot_or_root place g.2.root f g.2.has)
  failure Slot Room place place2 f g = absurd (slot_or_root place g.2.root f g.2.has)
  failure Chain Pages place place2 f g = absurd g
  failure Chain RecordCause place place2 f g = absurd g
  failure Chain Spent place place2 f g = absurd g
  failure Chain Slot place place2 f g = absurd (slot_or_root place2 f.0 g f.1)
  failure Chain Chain place place2 f g = (refl, one_chain_break f.0 g.0 place place2 f.1 f.2 g.1 g.2)
  failure Chain Table place place2 f g = absurd (break_or_chain f.0 g.0 place g.2 g.3 f.1 f.2 g.1 g.4)
  failure Chain Block place place2 f g = absurd (break_or_chain f.0 g.2.root place g.0 (table_text g.1) f.1 f.2 g.2.has g.2.lies)
  failure Chain Room place place2 f g = absurd (break_or_chain f.0 g.2.root place g.0 (table_text g.1) f.1 f.2 g.2.has g.2.lies)
  failure Table Pages place place2 f g = absurd g
  failure Table RecordCause place place2 f g = absurd g
  failure Table Spent place place2 f g = absurd g
  failure Table Slot place place2 f g = absurd (slot_or_root place2 f.0 g f.1)
  failure Table Chain place place2 f g = absurd (break_or_chain g.0 f.0 place2 f.2 f.3 g.1 g.2 f.1 f.4)
  failure Table Table place place2 f g = (refl, one_table_break f.0 g.0 f.2 f.3 g.2 g.3 place place2 f.1 f.4 f.5 g.1 g.4 g.5)
  failure Table Block place place2 f g = absurd (table_or_records f.0 f.2 f.3 place g.0 g.1 f.1 f.4 f.5 g.2)
  failure Table Room place place2 f g = absurd (table_or_records f.0 f.2 f.3 place g.0 g.1 f.1 f.4 f.5 g.2)
  failure Block Pages place place2 f g = absurd g
  failure Block RecordCause place place2 f g = absurd g
  failure Block Spent place place2 f g = absurd g
  failure Block Slot place place2 f g = absurd (slot_or_root place2 f.2.root g f.2.has)
  failure Block Chain place place2 f g = absurd (break_or_chain g.0 f.2.root place2 f.0 (table_text f.1) g.1 g.2 f.2.has f.2.lies)
  failure Block Table place place2 f g = absurd (table_or_records g.0 g.2 g.3 place2 f.0 f.1 g.1 g.4 g.5 f.2)
  failure Block Block place place2 f g = (refl, one_block f.0 g.0 f.1 g.1 place place2 f.2 f.3 g.2 g.3)
  failure Block Room place place2 f g = absurd (block_or_distinct f.0 g.0 f.1 g.1 place f.2 f.3 g.2 g.3)
  failure Room Pages place place2 f g = absurd g
  failure Room RecordCause place place2 f g = absurd g
  failure Room Spent place place2 f g = absurd g
  failure Room Slot place place2 f g = absurd (slot_or_root place2 f.2.root g f.2.has)
  failure Room Chain place place2 f g = absurd (break_or_chain g.0 f.2.root place2 f.0 (table_text f.1) g.1 g.2 f.2.has f.2.lies)
  failure Room Table place place2 f g = absurd (table_or_records g.0 g.2 g.3 place2 f.0 f.1 g.1 g.4 g.5 f.2)
  failure Room Block place place2 f g = absurd (block_or_distinct g.0 f.0 g.1 f.1 place2 g.2 g.3 f.2 f.3)
  failure Room Room place place2 f g = (refl, one_room f.0 g.0 f.1 g.1 place place2 f.2 f.4 g.2 g.4)

pub one_failure : OneFailure
one_failure side blocks bytes cause cause2 place place2 few f g = failure side blocks bytes few cause cause2 place place2 f g

root_or_lacks : (side : Side) (blocks : ℕ) (bytes : ℕ → List ℕ) (r : Root) → HasRoot side blocks bytes r → LacksMagic bytes → ⊥
root_or_lacks side blocks bytes r has lacks = lacks (subst HasMagic (sym has.slot) (has_magic r))

pub fails_or_lacks : FailsOrLacks
fails_or_lacks side blocks bytes Slot place f lacks = lacks f.formatted
fails_or_lacks side blocks bytes Chain place f lacks = root_or_lacks side blocks bytes f.0 f.1 lacks
fails_or_lacks side blocks bytes Table place f lacks = root_or_lacks side blocks bytes f.0 f.1 lacks
fails_or_lacks side blocks bytes Pages place f lacks = absurd f
fails_or_lacks side blocks bytes Block place f lacks = root_or_lacks side blocks bytes f.2.root f.2.has lacks
fails_or_lacks side blocks bytes Room place f lacks = root_or_lacks side blocks bytes f.2.root f.2.has lacks
fails_or_lacks side blocks bytes RecordCause place f lacks = absurd f
fails_or_lacks side blocks bytes Spent place f lacks = absurd f

-- what an image that stands for something has
module _ (side : Side) (entries : Entries) (tag : List ℕ) (image : Image) (reads : ReadsAsTable side entries tag image) where
  abbrev c : Content
  c = reads.content

  high : (b : ℕ) → 0 < times b c.layout → 3 ≤ b
  high b some = ⊎_elim (λ (lt : b < 3). absurd (omega (arith, reads.good.once b, kept_low b lt))) (λ (le : 3 ≤ b). le) (cases_lt b 3)

  listed : IsBlockList c.root.first c.blocks c.layout
  listed = record {
    some = omega (arith, reads.holds.table.many, reads.good.size, reads.good.root.length_least);
    starts = sym reads.good.first;
    inside = λ k lt. (high (get_or c.layout k 0) (stands c.layout k lt), reads.good.inside (get_or c.layout k 0) (stands c.layout k lt));
    distinct = λ b. omega (arith, reads.good.once b);
  }

  lies : IsChain c.root.first c.root.table_len c.blocks c.layout (table_text c.records) image.bytes
  lies = record { listed = listed; size = sym reads.good.size; many = reads.holds.table.many ∙ ap chain_len (sym reads.good.size); lies = reads.holds.table.lies }

  its_root : HasRoot side c.blocks image.bytes c.root
  its_root = record { slot = reads.holds.slot; good = reads.good.root }

  its_records : HasRecords side c.blocks image.bytes c.layout c.records
  its_records = record { root = c.root; has = its_root; lies = lies; are = reads.good.records }

  its_claims : IsDistinct (claims c.layout c.records)
  its_claims b = omega (arith, reads.good.once b, times-append b c.layout (flat c.records), times-flat b c.records)

  module _ (few : c.blocks ≤ max_blocks) where
    its_failure : (cause : Cause) (place : ℕ) → Fails side c.blocks image.bytes cause place → ⊥
    its_failure Slot place f = slot_or_root side c.blocks image.bytes few place c.root f its_root
    its_failure Chain place f = break_or_chain side c.blocks image.bytes few f.0 c.root place c.layout (table_text c.records) f.1 f.2 its_root lies
    its_failure Table place f = table_or_records side c.blocks image.bytes few f.0 f.2 f.3 place c.layout c.records f.1 f.4 f.5 its_records
    its_failure Pages place f = absurd f
    its_failure Block place f = block_or_distinct side c.blocks image.bytes few f.0 c.layout f.1 c.records place f.2 f.3 its_records its_claims
    its_failure Room place f = let same = one_records side c.blocks image.bytes few c.layout f.0 c.records f.1 its_records f.2 in absurd (omega (arith, f.4, f.5, ap length same.0, ap data_len same.1, reads.good.room))
    its_failure RecordCause place f = absurd f
    its_failure Spent place f = absurd f

pub reads_or_fails : ReadsOrFails
reads_or_fails side entries tag image cause place few reads f =
    its_failure side entries tag image reads (omega (arith, few, reads.holds.count)) cause place (subst (λ n. Fails side n image.bytes cause place) reads.holds.count f)

pub reads_or_lacks : ReadsOrLacks
reads_or_lacks side entries tag image reads lacks = root_or_lacks side reads.content.blocks image.bytes reads.content.root (its_root side entries tag image reads) lacks

pub one_reading : OneReading
one_reading side entries entries2 tag tag2 image few f g =
    let size : g.content.blocks ≡ f.content.blocks = sym g.holds.count ∙ f.holds.count in
    let few_f : f.content.blocks ≤ max_blocks = omega (arith, few, f.holds.count) in
    let its : HasRecords side f.content.blocks image.bytes g.content.layout g.content.records = subst (λ n. HasRecords side n image.bytes g.content.layout g.content.records) size (its_records side entries2 tag2 image g) in
    let root_g : HasRoot side f.content.blocks image.bytes g.content.root = subst (λ n. HasRoot side n image.bytes g.content.root) size (its_root side entries2 tag2 image g) in
    let same = one_records side f.content.blocks image.bytes few_f f.content.layout g.content.layout f.content.records g.content.records (its_records side entries tag image f) its in
    let root = one_root side f.content.blocks image.bytes few_f f.content.root g.content.root (its_root side entries tag image f) root_g in
    (g.entries_are ∙ ap (entries_of image.bytes) same.1 ∙ sym f.entries_are, g.tag_is ∙ sym root.tag ∙ sym f.tag_is)
