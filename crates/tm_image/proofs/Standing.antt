-- What an image keeps makes a good content, and what a disk holds of it is what an image stands for.
use Rattle.std.proofs.Common.{◌≡◌, ⊎_elim, inl, inr, ℕ, zero, suc, ◌+◌, ◌*◌, ◌/◌, ◌%◌, ◌^◌, ◌<◌, ◌≤◌, List, [], ◌∷◌, length, get_or, map, Option, Some, None, refl, sym, ◌∙◌, ap, subst, arith}
use Rattle.std.specs.List.{sum, All, AllByRecursion, range_with_len}
use Rattle.std.specs.List.Sorted.{IsStrictlySortedBy}
use Rattle.std.specs.Ordering.{nat_cmp}
use Rattle.std.specs.Cmp.{nat_cmp_is}
use Rattle.std.specs.declared.cmp.Ordering.TheVariants.{Less, Equal, Greater}
use Rattle.std.specs.Map.{keys_of, values_of}
use Rattle.std.proofs.lemmas.Bool.{cases_lt}
use Rattle.std.proofs.lemmas.List.{get_or_default}
use Rattle.std.proofs.lemmas.List.Sums.{sum_by-cons}
use Rattle.std.proofs.lemmas.Map.Keys.{sorted_head, sorted_tail}
use Rattle.tm_world.specs.Disk.{Disk, Image}
use Rattle.tm_world.specs.declared.world.Side.{Side}
use Rattle.tm_gate.specs.Selector.{named_by}
use Rattle.tm_gate.specs.Root.{IsRoot}
use Rattle.tm_gate.specs.Tag.{IsTag}
use Rattle.tm_blockmap.specs.Counts.{times}
use Rattle.tm_blockmap.proofs.Counting.{within_map, stands, marks_sum}
use Rattle.tm_chain.specs.Blob.{bytes_in, byte_in}
use Rattle.tm_records.specs.declared.record.Record.{Record}
use Rattle.tm_records.specs.declared.log.Undo.{Undo}
use Rattle.tm_records.specs.Records.{Records}
use Rattle.tm_table.specs.Good.{IsAbove, AreRecords}
use Rattle.tm_image.specs.Content.{Content, IsAtRest, in_data, Holds, LeavesSame, LeavesEither}
use Rattle.tm_image.specs.Reads.{kept, data_len, entry_of, entries_of, IsGood, ReadsAsTable, LeavesRead, LeavesOneOf}
use Rattle.tm_image.specs.Seen.{Seen, IsSound, IsKept, IsSettled, Stands, content_of}
use Rattle.tm_image.specs.Room.{HasRoom}
use Rattle.tm_image.specs.Commit.{IsFor, next_content, next_root, released_len}
use Rattle.tm_image.proofs.Counting.{LiesAt-same}
use Rattle.tm_table.specs.Text.{table_text}
use Rattle.tm_image.proofs.Owning.{bounded, kept_low}

below : (x y : ℕ) → nat_cmp x y ≡ Less → x < y
below x y less = ⊎_elim
    (λ (lt : x < y). lt)
    (λ (le : y ≤ x). ⊎_elim
    (λ (lt : y < x). let bad : Less ≡ Greater = sym less ∙ sym (nat_cmp_is x y Greater lt) in cc)
    (λ (ge : x ≤ y). let bad : Less ≡ Equal = sym less ∙ sym (nat_cmp_is x y Equal (omega arith)) in cc)
    (cases_lt y x))
    (cases_lt x y)

-- all keys are above the one before
abbrev After : Option ℕ → Records → Type 0
After None es = Unit {0}
After (Some low) es = AllByRecursion (λ y. nat_cmp low y ≡ Less) (keys_of es)

above : (before : Option ℕ) (e : ℕ × Record) (es : Records) → After before (e ∷ es) → IsAbove before e.0
above None e es h = tt
above (Some low) e es h = below low e.0 h.0

-- rising keys and records that keep the rules
pub are_records : (total : ℕ) (before : Option ℕ) (es : Records) → After before es → IsStrictlySortedBy nat_cmp (keys_of es) → All (λ k. k < 2 ^ 64) (keys_of es) → All IsKept (values_of es)
    → ((b : ℕ) → 0 < in_data b es → (3 ≤ b) × (b < total)) → data_len es ≤ total → AreRecords total before es
are_records total before [] after rising keys each inside few = tt
are_records total before (e ∷ es) after rising keys each inside few =
    let here : IsKept e.1 = each 0 e.1 (omega arith) in (
      record {
        above = above before e es after;
        key = keys 0 0 (omega arith);
        meta = here.meta;
        size = omega (arith, here.many, few, sum_by-cons (λ (r : Record). length r.blocks) e.1 (values_of es));
        many = here.many;
        each = λ k d lt. let at : 0 < times (get_or e.1.blocks k 0) e.1.blocks = stands e.1.blocks k lt in
            let both = inside (get_or e.1.blocks k 0) (omega (arith, at, sum_by-cons (λ (r : Record). times (get_or e.1.blocks k 0) r.blocks) e.1 (values_of es))) in
            subst (λ b. (3 ≤ b) × (b < total)) (get_or_default e.1.blocks k 0 d lt) both;
      },
      are_records total (Some e.0) es (sorted_head nat_cmp e.0 (keys_of es) rising) (sorted_tail nat_cmp e.0 (keys_of es) rising) (λ k d lt. keys (suc k) d (omega arith)) (λ k d lt. each (suc k) d (omega arith))
          (λ b some. inside b (omega (arith, sum_by-cons (λ (r : Record). times b r.blocks) e.1 (values_of es)))) (omega (arith, few, sum_by-cons (λ (r : Record). length r.blocks) e.1 (values_of es))),
    )

module _ (m : Seen) (sound : IsSound m) where
  high : (b : ℕ) → 0 < in_data b m.records → (3 ≤ b) × (b < length m.used)
  high b some =
      (⊎_elim (λ (lt : b < 3). absurd (omega (arith, sound.owners b, sound.marks b, kept_low b lt))) (λ (le : 3 ≤ b). le) (cases_lt b 3), within_map m.used b (omega (arith, sound.owners b)))

  owned_few : 3 + length m.layout + data_len m.records ≤ sum m.used
  owned_few = omega (arith, bounded m.used m.layout [] m.records [] (λ b. omega (arith, sound.owners b)))

  records_are : AreRecords (length m.used) None m.records
  records_are = are_records (length m.used) None m.records tt sound.rising sound.keys sound.each high (omega (arith, owned_few, marks_sum m.used sound.marks))

  pub good : IsSettled m → HasRoom m → IsGood m.side (content_of m)
  good settled room = record {
    root = sound.root;
    first = sound.first;
    size = settled;
    records = records_are;
    inside = λ b some. within_map m.used b (omega (arith, sound.owners b));
    once = λ b. omega (arith, sound.owners b, sound.marks b);
    room = omega (arith, owned_few, room, marks_sum m.used sound.marks);
  }

  module _ (text blocks : List ℕ) (log : List Undo) (tag : List ℕ) (ready : IsFor text blocks log m) (is_tag : IsTag m.side tag) where
    all_few : 3 + length m.layout + data_len m.records + length blocks + released_len log ≤ sum m.used
    all_few = bounded m.used m.layout blocks m.records log (λ b. ready.held b)

    first_stands : 0 < times (get_or blocks 0 0) blocks
    first_stands = stands blocks 0 (omega (arith, ready.many, ready.some))

    pub root_after : IsRoot m.side (length m.used) (next_root blocks text tag m.root)
    root_after = record {
      kind = sound.root.kind;
      version = sound.root.version;
      first_least = ⊎_elim (λ (lt : get_or blocks 0 0 < 3). absurd (omega (arith, ready.held (get_or blocks 0 0), sound.marks (get_or blocks 0 0), kept_low (get_or blocks 0 0) lt, first_stands))) (λ (le : 3 ≤ get_or blocks 0 0). le) (cases_lt (get_or blocks 0 0) 3);
      first_most = within_map m.used (get_or blocks 0 0) (omega (arith, ready.held (get_or blocks 0 0), first_stands));
      length_least = ready.some;
      length_most = omega (arith, ready.many, all_few, marks_sum m.used sound.marks);
      tag = is_tag;
    }

    pub good_next : IsGood m.side (next_content blocks text tag m)
    good_next = record {
      root = root_after;
      first = refl;
      size = ap length ready.text_is;
      records = records_are;
      inside = λ b some. within_map m.used b (omega (arith, ready.held b));
      once = λ b. omega (arith, ready.held b, sound.marks b);
      room = omega (arith, all_few, ready.room, marks_sum m.used sound.marks);
    }

-- the same blocks, the same entries
same_byte : (blocks : List ℕ) (x y : ℕ → List ℕ) (i : ℕ) → x (get_or blocks (i / 4096) 0) ≡ y (get_or blocks (i / 4096) 0) → byte_in blocks x i ≡ byte_in blocks y i
same_byte blocks x y i e = ap (λ (bs : List ℕ). get_or bs (i % 4096) 0) e

map_same : (f g : ℕ → ℕ) (from n : ℕ) → ((i : ℕ) → i < from + n → f i ≡ g i) → map f (range_with_len from n) ≡ map g (range_with_len from n)
map_same f g from zero same = refl
map_same f g from (suc n) same =
    let first = same from (omega arith) in
    let rest = map_same f g (from + 1) n (λ i lt. same i (omega arith)) in
    λ i. first i ∷ rest i

pub held_same : (blocks : List ℕ) (x y : ℕ → List ℕ) (n : ℕ) → n ≤ 4096 * length blocks → ((b : ℕ) → 0 < times b blocks → x b ≡ y b) → bytes_in blocks x 0 n ≡ bytes_in blocks y 0 n
unfolding bytes_in
held_same blocks x y n within same = map_same (byte_in blocks x) (byte_in blocks y) 0 n (λ i lt. same_byte blocks x y i (same (get_or blocks (i / 4096) 0) (stands blocks (i / 4096) (omega (arith, within)))))

pub entry_same : (r : Record) (x y : ℕ → List ℕ) → IsKept r → ((b : ℕ) → 0 < times b r.blocks → x b ≡ y b) → entry_of x r ≡ entry_of y r
entry_same r x y kept same =
    let bytes = held_same r.blocks x y r.length (omega (arith, kept.many)) same in
    λ i. record { meta = r.meta; bytes = bytes i }

pub entries_same : (es : Records) (x y : ℕ → List ℕ) → All IsKept (values_of es) → ((b : ℕ) → 0 < in_data b es → x b ≡ y b) → entries_of x es ≡ entries_of y es
entries_same [] x y each same = refl
entries_same (e ∷ es) x y each same =
    let first = entry_same e.1 x y (each 0 e.1 (omega arith)) (λ b some. same b (omega (arith, sum_by-cons (λ (r : Record). times b r.blocks) e.1 (values_of es)))) in
    let rest = entries_same es x y (λ k d lt. each (suc k) d (omega arith)) (λ b some. same b (omega (arith, sum_by-cons (λ (r : Record). times b r.blocks) e.1 (values_of es)))) in
    λ i. (e.0, first i) ∷ rest i

-- an image that holds a good content stands for its entries
pub reads : (side : Side) (c : Content) (data_bytes : ℕ → List ℕ) (image : Image) → IsGood side c → All IsKept (values_of c.records) → Holds c data_bytes image → ReadsAsTable side (entries_of data_bytes c.records) c.root.tag image
reads side c data_bytes image good each holds = record {
  content = c;
  good = good;
  holds = record { count = holds.count; slot = holds.slot; table = holds.table; each = λ b some. refl };
  entries_are = sym (entries_same c.records image.bytes data_bytes each holds.each);
  tag_is = refl;
}

pub leaves_read : (side : Side) (c : Content) (data_bytes : ℕ → List ℕ) → IsGood side c → All IsKept (values_of c.records) → (d : Disk) → LeavesSame c data_bytes d → LeavesRead side (entries_of data_bytes c.records) c.root.tag d
leaves_read side c data_bytes good each d leaves image left = reads side c data_bytes image good each (leaves image left)

pub leaves_one_of : (side : Side) (old new : Content) (data_bytes : ℕ → List ℕ) → IsGood side old → All IsKept (values_of old.records) → IsGood side new → All IsKept (values_of new.records) → (d : Disk) → LeavesEither old new data_bytes d
    → LeavesOneOf side (entries_of data_bytes old.records) old.root.tag (entries_of data_bytes new.records) new.root.tag d
leaves_one_of side old new data_bytes good_old each_old good_new each_new d leaves image left = ⊎_elim
    (λ (holds : Holds old data_bytes image). inl (reads side old data_bytes image good_old each_old holds))
    (λ (holds : Holds new data_bytes image). inr (reads side new data_bytes image good_new each_new holds))
    (leaves image left)

-- a content at rest is held by whatever a stop leaves
pub rest_leaves : (c : Content) (named : ℕ) (d : Disk) → IsAtRest c named d → LeavesSame c d.bytes d
rest_leaves c named d rest image left =
    let named_is : named_by (image.bytes 0) ≡ named = ap named_by (left.stable 0 rest.gate.selector_stable) ∙ rest.gate.selected in
    record {
      count = left.count ∙ rest.count;
      slot = ap image.bytes named_is ∙ left.stable named rest.gate.slot_stable ∙ rest.gate.holds;
      table = LiesAt-same c.layout (table_text c.records) d.bytes image.bytes (λ b some. left.stable b (rest.stable b (omega arith))) rest.table;
      each = λ b some. left.stable b (rest.stable b (omega arith));
    }

-- so what stands is what a stop leaves
pub stands_reads : (m : Seen) (d : Disk) → IsSound m → IsSettled m → HasRoom m → Stands m d → LeavesRead m.side (entries_of d.bytes m.records) m.root.tag d
stands_reads m d sound settled room rest = leaves_read m.side (content_of m) d.bytes (good m sound settled room) sound.each d (rest_leaves (content_of m) m.named d rest)
