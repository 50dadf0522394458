-- One bit of one word changes one mark.
use Rattle.std.proofs.Common.{◌≡◌, ◌≢◌, ⊎_elim, ℕ, ◌+◌, ◌-◌, ◌*◌, ◌/◌, ◌%◌, ◌^◌, ◌<◌, ◌≤◌, List, length, get_or, replicate, sym, ◌∙◌, ap, subst, arith}
use Rattle.std.specs.List.{sum}
use Rattle.std.specs.Int.{bit_at, bit_not, w64}
use Rattle.std.specs.Int.RustNames.{bit_or}
use lib.Bits.{bit_and}
use Rattle.std.proofs.Math.ListN.{set}
use Rattle.std.proofs.lemmas.List.{length-set, get_or-set_same, get_or-set_other, get_or_default, get_or_past, length-replicate, get_or-replicate}
use Rattle.std.proofs.lemmas.Bool.{cases_eq, cases_lt}
use Rattle.std.proofs.lemmas.Nat.Bits.{bit_at-lt, bit_at_ones, bit_at-zero, bit_at_set_same, bit_at_set_other, bit_at_clear_same, bit_at_clear_other}
use Rattle.std.proofs.lemmas.List.FromFn.{length-map-range_with_len, get_or-map-range_with_len, fill_by_all}
use Rattle.std.proofs.lemmas.List.Sums.{sum_by-set, sum_by-le}
use Rattle.std.proofs.lemmas.List.Folds.{sum_by-replicate}
use Rattle.tm_blockmap.specs.Words.{mark_in, marks_of, IsBlockMap}
use Rattle.tm_blockmap.specs.declared.BlockMap.TheInside.{Inside}

pub length-marks_of : (count : ℕ) (words : List ℕ) → length (marks_of count words) ≡ count
unfolding marks_of
length-marks_of count words = length-map-range_with_len (mark_in words) 0 count

pub get_or-marks_of : (count : ℕ) (words : List ℕ) (b : ℕ) → b < count → get_or (marks_of count words) b 0 ≡ mark_in words b
unfolding marks_of
get_or-marks_of count words b lt = get_or-map-range_with_len (mark_in words) 0 count b b 0 lt (omega arith)

-- a list is the marks of these words, if it is so at each block
pub marks_of_each : (count : ℕ) (words marks : List ℕ) → length marks ≡ count → ((b : ℕ) → b < count → get_or marks b 0 ≡ mark_in words b) → marks ≡ marks_of count words
unfolding marks_of
marks_of_each count words marks len each = fill_by_all (mark_in words) marks count 0 len each

module _ (count : ℕ) (words : List ℕ) (block at bit word x : ℕ) (q : block / 64 ≡ at) (r : block % 64 ≡ bit) (within : block < count) (enough : at < length words)
    (here : bit_at word bit ≡ x) (others : (i : ℕ) → i < 64 → i ≢ bit → bit_at word i ≡ bit_at (get_or words at 0) i) where
  other_block : (b : ℕ) → b ≢ block → mark_in (set words at word) b ≡ mark_in words b
  other_block b ne = ⊎_elim
      (λ (e : b / 64 ≡ at).
      let ne2 : b % 64 ≢ bit = λ same. ne (omega arith) in
      ap (λ w. bit_at w (b % 64)) (subst (λ k. get_or (set words at word) k 0 ≡ word) (sym e) (get_or-set_same words at word 0 enough))
      ∙ others (b % 64) (omega arith) ne2 ∙ ap (λ k. bit_at (get_or words k 0) (b % 64)) (sym e))
      (λ (apart : b / 64 ≢ at). ap (λ w. bit_at w (b % 64)) (get_or-set_other words at (b / 64) word 0 apart))
      (cases_eq (b / 64) at)

  same_block : mark_in (set words at word) block ≡ x
  same_block =
      ap (λ k. bit_at (get_or (set words at word) k 0) (block % 64)) q
      ∙ ap (bit_at (get_or (set words at word) at 0)) r
      ∙ ap (λ w. bit_at w bit) (get_or-set_same words at word 0 enough) ∙ here

  pub marks_of-set : marks_of count (set words at word) ≡ set (marks_of count words) block x
  marks_of-set = sym (marks_of_each count (set words at word) (set (marks_of count words) block x)
      (length-set (marks_of count words) block x ∙ length-marks_of count words)
      (λ b lt. ⊎_elim
      (λ (e : b ≡ block).
      let len : block < length (marks_of count words) = omega (arith, length-marks_of count words) in
      subst (λ k. get_or (set (marks_of count words) block x) k 0 ≡ mark_in (set words at word) k) (sym e)
      (get_or-set_same (marks_of count words) block x 0 len ∙ sym same_block))
      (λ (ne : b ≢ block). get_or-set_other (marks_of count words) block b x 0 ne ∙ get_or-marks_of count words b lt ∙ sym (other_block b ne))
      (cases_eq b block)))

-- the fields of a map after a change of one mark
module _ (a b : Inside) (whole : IsBlockMap a) (block x : ℕ) (within : block < a.count) where
  pub word_within : block / 64 < length a.words.items
  word_within = omega (arith, whole.enough)

  pub mark_is : get_or (marks_of a.count a.words.items) block 0 ≡ mark_in a.words.items block
  mark_is = get_or-marks_of a.count a.words.items block within

  pub sum_after : sum (set (marks_of a.count a.words.items) block x) + mark_in a.words.items block ≡ sum (marks_of a.count a.words.items) + x
  sum_after =
      let len : block < length (marks_of a.count a.words.items) = omega (arith, length-marks_of a.count a.words.items) in
      subst (λ m. sum (set (marks_of a.count a.words.items) block x) + m ≡ sum (marks_of a.count a.words.items) + x) mark_is
      (sum_by-set (λ y. y) (marks_of a.count a.words.items) block x 0 len)

  pub whole_after : b.count ≡ a.count → length b.words.items ≡ length a.words.items → marks_of a.count b.words.items ≡ set (marks_of a.count a.words.items) block x
      → b.free + x ≡ a.free + mark_in a.words.items block → b.hint ≤ length a.words.items → ((w : ℕ) → w < b.hint → get_or b.words.items w 0 ≡ 2 ^ 64 - 1) → IsBlockMap b
  whole_after count len marks free hint full =
      let marks2 : sum (marks_of b.count b.words.items) ≡ sum (set (marks_of a.count a.words.items) block x) = ap (λ n. sum (marks_of n b.words.items)) count ∙ ap sum marks in
      record {
        small = omega (arith, whole.small);
        enough = omega (arith, whole.enough);
        no_more = omega (arith, whole.no_more);
        full = full;
        hint = omega arith;
        free = omega (arith, whole.free, sum_after, marks2);
      }

pub word_is : (words : List ℕ) (i x : ℕ) → i < length words → x ≡ get_or words i x → x ≡ get_or words i 0
word_is words i x lt e = e ∙ get_or_default words i x 0 lt

-- marks are 0 or 1
pub marks_le : (count : ℕ) (words : List ℕ) (b : ℕ) → b < count → get_or (marks_of count words) b 0 ≤ 1
marks_le count words b lt = omega (arith, get_or-marks_of count words b lt, bit_at-lt (get_or words (b / 64) 0) (b % 64))

sum-le : (xs : List ℕ) → ((k : ℕ) → k < length xs → get_or xs k 0 ≤ 1) → sum xs ≤ length xs
sum-le xs each = omega (arith, sum_by-le (λ y. y) 1 xs (λ k d lt. omega (arith, each k lt, get_or_default xs k d 0 lt)))

-- where a mark is 0, some block is free
pub some_free : (a : Inside) (whole : IsBlockMap a) (block : ℕ) → block < a.count → mark_in a.words.items block ≡ 0 → 1 ≤ a.free
some_free a whole block within zero_here =
    let ms : List ℕ = marks_of a.count a.words.items in
    let len : length ms ≡ a.count = length-marks_of a.count a.words.items in
    let len2 : length (set ms block 1) ≡ a.count = length-set ms block 1 ∙ len in
    let le : sum (set ms block 1) ≤ length (set ms block 1) = sum-le (set ms block 1) (λ k lt. ⊎_elim
    (λ (e : k ≡ block). omega (arith, subst (λ j. get_or (set ms block 1) j 0 ≡ 1) (sym e) (get_or-set_same ms block 1 0 (omega arith))))
    (λ (ne : k ≢ block). omega (arith, get_or-set_other ms block k 1 0 ne, marks_le a.count a.words.items k (omega arith)))
    (cases_eq k block)) in
    omega (arith, sum_after a a whole block 1 within, whole.free)

-- no bit, no mark
pub marks_of-zeros : (count n : ℕ) → count ≤ 64 * n → marks_of count (replicate n 0) ≡ replicate count 0
marks_of-zeros count n enough = sym (marks_of_each count (replicate n 0) (replicate count 0) (length-replicate count 0)
    (λ b lt. get_or-replicate count b 0 0 lt ∙ sym (ap (λ w. bit_at w (b % 64)) (get_or-replicate n (b / 64) 0 0 (omega arith)) ∙ bit_at-zero (b % 64))))

pub sum-zeros : (n : ℕ) → sum (replicate n 0) ≡ 0
sum-zeros n = sum_by-replicate (λ y. y) n 0 ∙ omega arith

-- a full word has no free block
pub full_word : (words : List ℕ) (b : ℕ) → get_or words (b / 64) 0 ≡ 2 ^ 64 - 1 → mark_in words b ≡ 1
full_word words b full = ap (λ w. bit_at w (b % 64)) full ∙ bit_at_ones 64 (b % 64) (omega arith)

module _ (count : ℕ) (words : List ℕ) (block at bit x : ℕ) (q : block / 64 ≡ at) (r : block % 64 ≡ bit) (within : block < count) (enough : at < length words) (was : x ≡ get_or words at x) where
  word_was : x ≡ get_or words at 0
  word_was = word_is words at x enough was

  pub marks-claimed : marks_of count (set words at (bit_or x (1 * 2 ^ bit % 18446744073709551616))) ≡ set (marks_of count words) block 1
  marks-claimed =
      let small : bit < 64 = omega arith in
      marks_of-set count words block at bit _ 1 q r within enough
      (bit_at_set_same w64 x bit small)
      (λ i lt ne. bit_at_set_other w64 x bit small i ne ∙ ap (λ w. bit_at w i) word_was)

  pub marks-given : marks_of count (set words at (bit_and x (bit_not w64 (1 * 2 ^ bit % 18446744073709551616)))) ≡ set (marks_of count words) block 0
  marks-given =
      let small : bit < 64 = omega arith in
      marks_of-set count words block at bit _ 0 q r within enough
      (bit_at_clear_same w64 x bit small)
      (λ i lt ne. bit_at_clear_other w64 x bit small i lt ne ∙ ap (λ w. bit_at w i) word_was)

  pub mark_was : mark_in words block ≡ bit_at x bit
  mark_was = ap (λ k. bit_at (get_or words k 0) (block % 64)) q ∙ ap (bit_at (get_or words at 0)) r ∙ ap (λ w. bit_at w bit) (sym word_was)

-- past the end there is no mark
pub marked_within : (count : ℕ) (words : List ℕ) (b : ℕ) → get_or (marks_of count words) b 0 ≡ 1 → b < count
marked_within count words b e = ⊎_elim
    (λ (lt : b < count). lt)
    (λ (le : count ≤ b). absurd (omega (arith, get_or_past (marks_of count words) b 0 (omega (arith, length-marks_of count words)))))
    (cases_lt b count)

pub in_count : (a : Inside) (seen : List ℕ) (b : ℕ) → marks_of a.count a.words.items ≡ seen → b < length seen → b < a.count
in_count a seen b e lt = omega (arith, length-marks_of a.count a.words.items, ap length e)

-- a change of a word that isn't full leaves the full ones
pub kept_full : (words : List ℕ) (at word hint : ℕ) → (hint ≤ at) → ((w : ℕ) → w < hint → get_or words w 0 ≡ 2 ^ 64 - 1) → (w : ℕ) → w < hint → get_or (set words at word) w 0 ≡ 2 ^ 64 - 1
kept_full words at word hint le full w lt = get_or-set_other words at w word 0 (omega arith) ∙ full w lt

-- the word of a free block isn't full
pub past_hint : (a : Inside) (whole : IsBlockMap a) (block : ℕ) → mark_in a.words.items block ≡ 0 → a.hint ≤ block / 64
past_hint a whole block zero_here = ⊎_elim
    (λ (lt : block / 64 < a.hint). absurd (omega (arith, full_word a.words.items block (whole.full (block / 64) lt))))
    (λ (le : a.hint ≤ block / 64). le)
    (cases_lt (block / 64) a.hint)

-- no block of the words before this one is free
pub full_so_far : (a : Inside) (whole : IsBlockMap a) (at : ℕ) → ((w : ℕ) → a.hint ≤ w → w < at → get_or a.words.items w 0 ≡ 2 ^ 64 - 1) → (w : ℕ) → w < at → get_or a.words.items w 0 ≡ 2 ^ 64 - 1
full_so_far a whole at full w lt = ⊎_elim (λ (below : w < a.hint). whole.full w below) (λ (from : a.hint ≤ w). full w from lt) (cases_lt w a.hint)

-- the first word that isn't full, and its lowest free bit
module _ (a : Inside) (whole : IsBlockMap a) (at word bit : ℕ) (enough : at < length a.words.items) (was : word ≡ get_or a.words.items at word)
    (full : (w : ℕ) → w < at → get_or a.words.items w 0 ≡ 2 ^ 64 - 1) (bit_small : bit < 64) (free : bit_at word bit ≡ 0) (below : (i : ℕ) → i < bit → bit_at word i ≡ 1) where
  pub quotient : (at * 64 + bit) / 64 ≡ at
  quotient = omega (arith, bit_small)

  pub remainder : (at * 64 + bit) % 64 ≡ bit
  remainder = omega (arith, bit_small)

  pub found_free : at * 64 + bit < a.count → mark_in a.words.items (at * 64 + bit) ≡ 0
  found_free within = mark_was a.count a.words.items (at * 64 + bit) at bit word quotient remainder within enough was ∙ free

  pub below_used : (b : ℕ) → b < at * 64 + bit → mark_in a.words.items b ≡ 1
  below_used b lt = ⊎_elim
      (λ (less : b / 64 < at). full_word a.words.items b (full (b / 64) less))
      (λ (le : at ≤ b / 64).
      let q : b / 64 ≡ at = omega (arith, bit_small) in
      let r : b % 64 < bit = omega (arith, bit_small) in
      ap (λ k. bit_at (get_or a.words.items k 0) (b % 64)) q ∙ ap (λ w. bit_at w (b % 64)) (sym (word_is a.words.items at word enough was)) ∙ below (b % 64) r)
      (cases_lt (b / 64) at)

-- a mark as it is seen
pub seen_mark : (a : Inside) (seen : List ℕ) → marks_of a.count a.words.items ≡ seen → (b : ℕ) → b < a.count → get_or seen b 0 ≡ mark_in a.words.items b
seen_mark a seen e b lt = ap (λ ms. get_or ms b 0) (sym e) ∙ get_or-marks_of a.count a.words.items b lt
