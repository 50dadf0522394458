-- A root within its bounds is a good slot, and the other way round.
use Rattle.std.proofs.Common.{◌≡◌, ℕ, ◌+◌, ◌-◌, ◌*◌, ◌^◌, ◌<◌, ◌≤◌, List, [], ◌∷◌, ◌++◌, length, slice_index, get_or, take, drop, replicate, cond, eqb, true, refl, sym, ◌∙◌, ap, subst, arith}
use Rattle.std.proofs.Math.Seq.{take-add}
use Rattle.std.proofs.lemmas.Bool.Decides.{nat_tests}
use Rattle.std.proofs.lemmas.List.{drop_more, take_all, take_at, drop_at, take-append-le, drop-append-le, length-drop, length-replicate, get_or_append_left}
use Rattle.tm_codec.specs.Fields.{u32_text, u64_text}
use Rattle.tm_world.specs.declared.world.Side.{Side}
use Rattle.tm_world.specs.declared.world.Side.TheVariants.{Volume, Store}
use Rattle.tm_gate.specs.declared.root.Root.{Root}
use Rattle.tm_gate.specs.Slot.{HasMagic, slot_of}
use Rattle.tm_gate.specs.Tag.{latest, volume_tag, IsVolumeTag, IsStoreTag, IsTag}
use Rattle.tm_gate.specs.Fields.{FieldRule, number, bytes_at, is_kept, field, zeros, tag_fields, fields, kind_of, IsGoodSlot}
use Rattle.tm_gate.specs.Root.{IsRoot, after_root}
use Rattle.tm_gate.proofs.Numbers.{zeros_from, u64_text-number, number_one, number-replicate, number-u32_text, number-u64_text}
use Rattle.tm_gate.proofs.Kept.{AllKept, kept_from_none, none_from_kept, bounds, keeps}
use Rattle.tm_gate.proofs.Spelling.{length-bytes_at, small_at}

-- the numbers of a tag
pub record HasNumbers (tag : List ℕ) (flag second third : ℕ) : Type 0 where
  pub flag_is : number (bytes_at 0 1 tag) ≡ flag
  pub gap : number (bytes_at 1 7 tag) ≡ 0
  pub second_is : number (bytes_at 8 8 tag) ≡ second
  pub third_is : number (bytes_at 16 8 tag) ≡ third
  pub rest : number (bytes_at 24 40 tag) ≡ 0

numbers_of : (flag second third : ℕ) → second < 2 ^ 64 → third < 2 ^ 64 → HasNumbers (volume_tag flag second third) flag second third
unfolding u64_text
numbers_of flag second third fits2 fits3 = record {
  flag_is = number_one flag;
  gap = number-replicate 7;
  second_is = number-u64_text second fits2;
  third_is = number-u64_text third fits3;
  rest = number-replicate 40;
}

length-volume_tag : (flag second third : ℕ) → length (volume_tag flag second third) ≡ 64
unfolding u64_text
length-volume_tag flag second third = refl

pub flag_number : (tag : List ℕ) → length tag ≡ 64 → number (bytes_at 0 1 tag) ≡ get_or tag 0 0
flag_number tag long = ap (λ r. number (take 1 r)) (drop_more tag 0 0 (omega arith)) ∙ number_one (get_or tag 0 0)

-- a tag whose gaps are zeros is spelled by its numbers
pub tag_spelled : (tag : List ℕ) → length tag ≡ 64 → ((i : ℕ) → get_or tag i 0 < 256) → number (bytes_at 1 7 tag) ≡ 0 → number (bytes_at 24 40 tag) ≡ 0
    → tag ≡ volume_tag (get_or tag 0 0) (number (bytes_at 8 8 tag)) (number (bytes_at 16 8 tag))
tag_spelled tag long small gap rest =
    let one : take 1 tag ≡ get_or tag 0 0 ∷ [] = ap (take 1) (drop_more tag 0 0 (omega arith)) in
    let gap_is : bytes_at 1 7 tag ≡ replicate 7 0 = zeros_from (bytes_at 1 7 tag) 7 (length-bytes_at 1 7 tag (omega arith)) gap in
    let rest_is : bytes_at 24 40 tag ≡ replicate 40 0 = zeros_from (bytes_at 24 40 tag) 40 (length-bytes_at 24 40 tag (omega arith)) rest in
    let long8 : length (bytes_at 8 8 tag) ≡ 8 = length-bytes_at 8 8 tag (omega arith) in
    let long16 : length (bytes_at 16 8 tag) ≡ 8 = length-bytes_at 16 8 tag (omega arith) in
    let second : u64_text (number (bytes_at 8 8 tag)) ≡ bytes_at 8 8 tag =
    u64_text-number (bytes_at 8 8 tag) long8 (small_at 8 8 tag (omega arith) small) in
    let third : u64_text (number (bytes_at 16 8 tag)) ≡ bytes_at 16 8 tag =
    u64_text-number (bytes_at 16 8 tag) long16 (small_at 16 8 tag (omega arith) small) in
    let p8 : take 8 tag ≡ get_or tag 0 0 ∷ replicate 7 0 = take-add 1 7 tag ∙ (λ i. one i ++ gap_is i) in
    let p16 : take 16 tag ≡ get_or tag 0 0 ∷ replicate 7 0 ++ u64_text (number (bytes_at 8 8 tag)) = take-add 8 8 tag ∙ (λ i. p8 i ++ sym second i) in
    let p24 : take 24 tag ≡ get_or tag 0 0 ∷ replicate 7 0 ++ u64_text (number (bytes_at 8 8 tag)) ++ u64_text (number (bytes_at 16 8 tag)) =
    take-add 16 8 tag ∙ (λ i. p16 i ++ sym third i) in
    sym (take_all 64 tag (omega arith)) ∙ take-add 24 40 tag ∙ (λ i. p24 i ++ rest_is i)

inside : (at size : ℕ) (xs ys : List ℕ) → at + size ≤ length xs → bytes_at at size (xs ++ ys) ≡ bytes_at at size xs
inside at size xs ys within = ap (take size) (drop-append-le at xs ys (omega arith)) ∙ take-append-le size (drop at xs) ys (omega (arith, length-drop at xs))

-- the parts of a root's slot
module _ (root : Root) where
  at_8 : number (bytes_at 8 1 (slot_of root)) ≡ root.kind
  unfolding slot_of u32_text u64_text
  at_8 = number_one root.kind

  at_9 : number (bytes_at 9 1 (slot_of root)) ≡ root.version
  unfolding slot_of u32_text u64_text
  at_9 = number_one root.version

  at_10 : number (bytes_at 10 2 (slot_of root)) ≡ 0
  unfolding slot_of u32_text u64_text
  at_10 = number-replicate 2

  at_12 : root.first < 2 ^ 32 → number (bytes_at 12 4 (slot_of root)) ≡ root.first
  unfolding slot_of u32_text u64_text
  at_12 fits = number-u32_text root.first fits

  at_16 : root.sequence < 2 ^ 64 → number (bytes_at 16 8 (slot_of root)) ≡ root.sequence
  unfolding slot_of u32_text u64_text
  at_16 fits = number-u64_text root.sequence fits

  at_24 : root.table_len < 2 ^ 64 → number (bytes_at 24 8 (slot_of root)) ≡ root.table_len
  unfolding slot_of u32_text u64_text
  at_24 fits = number-u64_text root.table_len fits

  module _ (long : length root.tag ≡ 64) where
    pub tag_at : bytes_at 32 64 (slot_of root) ≡ root.tag
    unfolding slot_of u32_text u64_text
    tag_at = take_at root.tag (replicate 4000 0) 64 long

    at_32 : bytes_at 32 1 (slot_of root) ≡ bytes_at 0 1 root.tag
    unfolding slot_of u32_text u64_text
    at_32 = inside 0 1 root.tag (replicate 4000 0) (omega arith)

    at_33 : bytes_at 33 7 (slot_of root) ≡ bytes_at 1 7 root.tag
    unfolding slot_of u32_text u64_text
    at_33 = inside 1 7 root.tag (replicate 4000 0) (omega arith)

    at_40 : bytes_at 40 8 (slot_of root) ≡ bytes_at 8 8 root.tag
    unfolding slot_of u32_text u64_text
    at_40 = inside 8 8 root.tag (replicate 4000 0) (omega arith)

    at_48 : bytes_at 48 8 (slot_of root) ≡ bytes_at 16 8 root.tag
    unfolding slot_of u32_text u64_text
    at_48 = inside 16 8 root.tag (replicate 4000 0) (omega arith)

    at_56 : bytes_at 56 40 (slot_of root) ≡ bytes_at 24 40 root.tag
    unfolding slot_of u32_text u64_text
    at_56 = inside 24 40 root.tag (replicate 4000 0) (omega arith)

    at_96 : number (bytes_at 96 4000 (slot_of root)) ≡ 0
    unfolding slot_of u32_text u64_text
    at_96 = ap (λ r. number (take 4000 r)) (drop_at root.tag (replicate 4000 0) 64 long)
        ∙ ap number (take_all 4000 (replicate 4000 0) (omega (arith, length-replicate 4000 (let z : ℕ = 0 in z)))) ∙ number-replicate 4000

    flag_at : get_or (slot_of root) 32 0 ≡ get_or root.tag 0 0
    unfolding slot_of u32_text u64_text
    flag_at = get_or_append_left root.tag (replicate 4000 0) 0 0 (omega arith)

-- the date of a store, where a backup runs and where none does
dated : (flag date : ℕ) → date ≤ cond (eqb flag 0) 0 latest → date ≤ latest
dated flag date le = grind (arith, nat_tests)

not_dated : (flag date : ℕ) → date ≤ cond (eqb flag 0) 0 latest → flag ≡ 0 → date ≡ 0
not_dated flag date le none = grind (arith, nat_tests)

in_time : (flag date : ℕ) → date ≤ latest → (flag ≡ 0 → date ≡ 0) → date ≤ cond (eqb flag 0) 0 latest
in_time flag date le none = grind (arith, nat_tests)

-- the tag of a root
module _ (blocks : ℕ) (root : Root) (small : (i : ℕ) → get_or root.tag i 0 < 256) (long : length root.tag ≡ 64) where
  abbrev s : List ℕ
  s = slot_of root

  spelled : is_kept s (zeros 33 7) ≡ true → is_kept s (zeros 56 40) ≡ true
      → root.tag ≡ volume_tag (get_or root.tag 0 0) (number (bytes_at 8 8 root.tag)) (number (bytes_at 16 8 root.tag))
  spelled gap rest = tag_spelled root.tag long small
      (omega (arith, ap number (at_33 root long), bounds s (zeros 33 7) gap)) (omega (arith, ap number (at_56 root long), bounds s (zeros 56 40) rest))

  flag_is : number (bytes_at 32 1 s) ≡ get_or root.tag 0 0
  flag_is = ap number (at_32 root long) ∙ flag_number root.tag long

  volume_from_kept : (flag : ℕ) (rest : List FieldRule) → AllKept s (tag_fields Volume flag ++ rest) → IsVolumeTag root.tag
  volume_from_kept flag rest kept = record {
    clean = get_or root.tag 0 0;
    generation = number (bytes_at 8 8 root.tag);
    next = number (bytes_at 16 8 root.tag);
    is = spelled kept.1.0 kept.1.1.1.1.0;
    clean_most = omega (arith, flag_is, bounds s (field 32 1 0 1) kept.0);
    generation_least = omega (arith, ap number (at_40 root long), bounds s (field 40 8 1 (2 ^ 62 - 1)) kept.1.1.0);
    generation_most = omega (arith, ap number (at_40 root long), bounds s (field 40 8 1 (2 ^ 62 - 1)) kept.1.1.0);
    next_least = omega (arith, ap number (at_48 root long), bounds s (field 48 8 1 (2 ^ 62)) kept.1.1.1.0);
    next_most = omega (arith, ap number (at_48 root long), bounds s (field 48 8 1 (2 ^ 62)) kept.1.1.1.0);
  }

  store_from_kept : (flag : ℕ) (rest : List FieldRule) → flag ≡ get_or root.tag 0 0 → AllKept s (tag_fields Store flag ++ rest) → IsStoreTag root.tag
  store_from_kept flag rest same kept =
      let date = bounds s (field 40 8 0 (cond (eqb flag 0) 0 latest)) kept.1.1.0 in
      let date_is : number (bytes_at 40 8 s) ≡ number (bytes_at 8 8 root.tag) = ap number (at_40 root long) in
      record {
        running = get_or root.tag 0 0;
        date = number (bytes_at 8 8 root.tag);
        number = number (bytes_at 16 8 root.tag);
        is = spelled kept.1.0 kept.1.1.1.1.0;
        running_most = omega (arith, flag_is, bounds s (field 32 1 0 1) kept.0);
        date_most = omega (arith, date_is, dated flag (number (bytes_at 40 8 s)) date.1);
        no_date = λ none. sym date_is ∙ not_dated flag (number (bytes_at 40 8 s)) date.1 (same ∙ none);
        number_least = omega (arith, ap number (at_48 root long), bounds s (field 48 8 1 (2 ^ 40)) kept.1.1.1.0);
        number_most = omega (arith, ap number (at_48 root long), bounds s (field 48 8 1 (2 ^ 40)) kept.1.1.1.0);
      }

tag_from_kept : (side : Side) (blocks : ℕ) (root : Root) → ((i : ℕ) → get_or root.tag i 0 < 256) → length root.tag ≡ 64 → (rest : List FieldRule)
    → AllKept (slot_of root) (tag_fields side (slice_index (slot_of root) 32) ++ rest) → IsTag side root.tag
tag_from_kept Volume blocks root small long rest kept = volume_from_kept blocks root small long (slice_index (slot_of root) 32) rest kept
tag_from_kept Store blocks root small long rest kept = store_from_kept blocks root small long (slice_index (slot_of root) 32) rest (flag_at root long) kept

-- what a good slot says of its root
pub root_from_good : (side : Side) (blocks : ℕ) (root : Root) → 3 ≤ blocks → root.first < 2 ^ 32 → root.table_len < 2 ^ 64 → length root.tag ≡ 64
    → ((i : ℕ) → get_or root.tag i 0 < 256) → IsGoodSlot side blocks (slot_of root) → IsRoot side blocks root
root_from_good side blocks root three fits_first fits_length long small good =
    let kept = kept_from_none (slot_of root) (fields side blocks (slice_index (slot_of root) 32)) good in
    let kind = bounds (slot_of root) (field 8 1 (kind_of side) (kind_of side)) kept.0 in
    let version = bounds (slot_of root) (field 9 1 1 1) kept.1.0 in
    let first = bounds (slot_of root) (field 12 4 3 (blocks - 1)) kept.1.1.1.0 in
    let table_len = bounds (slot_of root) (field 24 8 1 (4092 * (blocks - 3))) kept.1.1.1.1.0 in
    record {
      kind = omega (arith, at_8 root, kind);
      version = omega (arith, at_9 root, version);
      first_least = omega (arith, at_12 root fits_first, first);
      first_most = omega (arith, at_12 root fits_first, first);
      length_least = omega (arith, at_24 root fits_length, table_len);
      length_most = omega (arith, at_24 root fits_length, table_len);
      tag = tag_from_kept side blocks root small long (zeros 96 4000 ∷ []) kept.1.1.1.1.1;
    }

-- the numbers of a tag are kept in its slot
tag_kept : (root : Root) (flag second third : ℕ) → root.tag ≡ volume_tag flag second third → second < 2 ^ 64 → third < 2 ^ 64 → flag ≤ 1
    → (low2 high2 high3 : ℕ) → low2 ≤ second → second ≤ high2 → 1 ≤ third → third ≤ high3
    → AllKept (slot_of root) (field 32 1 0 1 ∷ zeros 33 7 ∷ field 40 8 low2 high2 ∷ field 48 8 1 high3 ∷ zeros 56 40 ∷ zeros 96 4000 ∷ [])
tag_kept root flag second third is fits2 fits3 mark low2 high2 high3 least2 most2 least3 most3 =
    let long : length root.tag ≡ 64 = ap length is ∙ length-volume_tag flag second third in
    let numbers : HasNumbers root.tag flag second third = subst (λ tag. HasNumbers tag flag second third) (sym is) (numbers_of flag second third fits2 fits3) in
    let s = slot_of root in (
      keeps s (field 32 1 0 1) flag (ap number (at_32 root long) ∙ numbers.flag_is) (omega arith) mark,
      (
        keeps s (zeros 33 7) 0 (ap number (at_33 root long) ∙ numbers.gap) (omega arith) (omega arith),
        (
          keeps s (field 40 8 low2 high2) second (ap number (at_40 root long) ∙ numbers.second_is) least2 most2,
          (
            keeps s (field 48 8 1 high3) third (ap number (at_48 root long) ∙ numbers.third_is) least3 most3,
            (
              keeps s (zeros 56 40) 0 (ap number (at_56 root long) ∙ numbers.rest) (omega arith) (omega arith),
              (keeps s (zeros 96 4000) 0 (at_96 root long) (omega arith) (omega arith), tt),
            ),
          ),
        ),
      ),
    )

kept_from_tag : (side : Side) (root : Root) → IsTag side root.tag → AllKept (slot_of root) (tag_fields side (slice_index (slot_of root) 32) ++ zeros 96 4000 ∷ [])
kept_from_tag Volume root tag = tag_kept root tag.clean tag.generation tag.next tag.is (omega (arith, tag.generation_most)) (omega (arith, tag.next_most)) tag.clean_most
    1 (2 ^ 62 - 1) (2 ^ 62) tag.generation_least (omega (arith, tag.generation_most)) tag.next_least tag.next_most
kept_from_tag Store root tag =
    let long : length root.tag ≡ 64 = ap length tag.is ∙ length-volume_tag tag.running tag.date tag.number in
    let flag : slice_index (slot_of root) 32 ≡ tag.running = flag_at root long ∙ ap (λ t. get_or t 0 0) tag.is in
    tag_kept root tag.running tag.date tag.number tag.is (omega (arith, tag.date_most)) (omega (arith, tag.number_most)) tag.running_most
    0 (cond (eqb (slice_index (slot_of root) 32) 0) 0 latest) (2 ^ 40) (omega arith)
    (in_time (slice_index (slot_of root) 32) tag.date tag.date_most (λ none. tag.no_date (sym flag ∙ none))) tag.number_least tag.number_most

pub good_from_root : (side : Side) (blocks : ℕ) (root : Root) → blocks < 2 ^ 32 → IsRoot side blocks root → IsGoodSlot side blocks (slot_of root)
good_from_root side blocks root fits is =
    let s = slot_of root in
    none_from_kept s (fields side blocks (slice_index s 32)) (
      keeps s (field 8 1 (kind_of side) (kind_of side)) root.kind (at_8 root) (omega (arith, is.kind)) (omega (arith, is.kind)),
      (
        keeps s (field 9 1 1 1) root.version (at_9 root) (omega (arith, is.version)) (omega (arith, is.version)),
        (
          keeps s (zeros 10 2) 0 (at_10 root) (omega arith) (omega arith),
          (
            keeps s (field 12 4 3 (blocks - 1)) root.first (at_12 root (omega (arith, is.first_most))) is.first_least (omega (arith, is.first_most)),
            (
              keeps s (field 24 8 1 (4092 * (blocks - 3))) root.table_len (at_24 root (omega (arith, is.length_most))) is.length_least is.length_most,
              kept_from_tag side root is.tag,
            ),
          ),
        ),
      ),
    )

pub has_magic : (root : Root) → HasMagic (slot_of root)
unfolding slot_of u32_text u64_text
has_magic root = refl

tag_long : (side : Side) (tag : List ℕ) → IsTag side tag → length tag ≡ 64
tag_long Volume tag is = ap length is.is ∙ length-volume_tag is.clean is.generation is.next
tag_long Store tag is = ap length is.is ∙ length-volume_tag is.running is.date is.number

pub one_root : (side : Side) (blocks : ℕ) (r s : Root) → blocks < 2 ^ 32 → IsRoot side blocks r → IsRoot side blocks s
    → r.sequence < 2 ^ 64 → s.sequence < 2 ^ 64 → slot_of r ≡ slot_of s → r ≡ s
one_root side blocks r s fits is_r is_s fits_r fits_s same =
    let kind : r.kind ≡ s.kind = is_r.kind ∙ sym is_s.kind in
    let version : r.version ≡ s.version = is_r.version ∙ sym is_s.version in
    let sequence : r.sequence ≡ s.sequence = sym (at_16 r fits_r) ∙ ap (λ x. number (bytes_at 16 8 x)) same ∙ at_16 s fits_s in
    let table_len : r.table_len ≡ s.table_len =
    sym (at_24 r (omega (arith, is_r.length_most))) ∙ ap (λ x. number (bytes_at 24 8 x)) same ∙ at_24 s (omega (arith, is_s.length_most)) in
    let first : r.first ≡ s.first = sym (at_12 r (omega (arith, is_r.first_most))) ∙ ap (λ x. number (bytes_at 12 4 x)) same ∙ at_12 s (omega (arith, is_s.first_most)) in
    let tag : r.tag ≡ s.tag = sym (tag_at r (tag_long side r.tag is_r.tag)) ∙ ap (bytes_at 32 64) same ∙ tag_at s (tag_long side s.tag is_s.tag) in
    λ i. record { kind = kind i; version = version i; sequence = sequence i; table_len = table_len i; first = first i; tag = tag i }

pub IsRoot-after_root : (side : Side) (blocks : ℕ) (old root : Root) → IsRoot side blocks root → IsRoot side blocks (after_root old root)
IsRoot-after_root side blocks old root is = record {
  kind = is.kind;
  version = is.version;
  first_least = is.first_least;
  first_most = is.first_most;
  length_least = is.length_least;
  length_most = is.length_most;
  tag = is.tag;
}
