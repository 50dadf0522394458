-- A chain that is read, one block more at a time.
use Rattle.std.proofs.Common.{◌≡◌, ◌≢◌, ◌↔◌, ℕ, ◌+◌, ◌-◌, ◌*◌, ◌^◌, ◌<◌, ◌≤◌, List, [], ◌∷◌, ◌++◌, length, get_or, take, drop, replicate, ⊎_elim, ap, subst, sym, ◌∙◌, arith, length-append, length-drop, append_assoc}
use Rattle.std.proofs.Math.ListN.{set}
use Rattle.std.proofs.lemmas.Bool.{cases_lt, cases_eq}
use Rattle.std.proofs.lemmas.List.{length-set, get_or-set_same, get_or-set_other, get_or_append_left, get_or-append-add, drop_at, take_all, drop-append-le, take-append-le, drop-drop, take-append-drop, length-take-le}
use Rattle.tm_blockmap.specs.Counts.{times}
use Rattle.tm_blockmap.proofs.Counting.{hit, one_same, one_other, times-push, times-cons}
use Rattle.tm_codec.specs.Fields.{u32_text}
use Rattle.tm_codec.proofs.Fields.{apart-u32, length-u32_text}
use Rattle.tm_chain.specs.Way.{Names, MayFollow, EndsChain}
use Rattle.tm_chain.specs.Walk.{IsWalk, IsRead, IsLast, last_of}

-- a block has one number at its front
pub one_name : (m n : ℕ) (block : List ℕ) → m < 2 ^ 32 → n < 2 ^ 32 → Names m block → Names n block → m ≡ n
one_name m n block small_m small_n first second = (apart-u32 m n _ _ small_m small_n (sym first ∙ second)).0

-- the first block is claimed
pub begun : (first total : ℕ) (blocks text before marks : List ℕ) → 3 ≤ first → first < total → total < 2 ^ 32 → blocks ≡ first ∷ [] → text ≡ [] → length marks ≡ total
    → ((b : ℕ) → b < total → (get_or before b 0 ≡ 0) ↔ (3 ≤ b)) → length before ≡ total → marks ≡ set before first 1 → IsWalk blocks text marks
begun first total blocks text before marks high low few one none size free size2 after =
    let alone : (b : ℕ) → times b blocks ≡ hit first b = λ b. omega (arith, ap (times b) one, times-cons b first []) in
    record {
      some = omega (arith, ap length one);
      inside = λ k lt. let only : k ≡ 0 = omega (arith, ap length one) in
          let here : get_or blocks k 0 ≡ first = ap (λ j. get_or blocks j 0) only ∙ ap (λ bs. get_or bs 0 0) one in (omega arith, omega arith);
      distinct = λ b. ⊎_elim
          (λ (e : first ≡ b). omega (arith, alone b, one_same first b e))
          (λ (ne : first ≢ b). omega (arith, alone b, one_other first b ne))
          (cases_eq first b);
      small = omega arith;
      size = omega (arith, ap length one, ap length none);
      marks_are = λ b lt. ⊎_elim
          (λ (e : first ≡ b).
          let used : get_or marks b 0 ≡ 1 = ap (λ ms. get_or ms b 0) after ∙ subst (λ j. get_or (set before first 1) j 0 ≡ 1) e (get_or-set_same before first 1 0 (omega arith)) in
          (λ z. absurd (omega arith), λ p. absurd (omega (arith, p.1, alone b, one_same first b e))))
          (λ (ne : first ≢ b).
          let same : get_or marks b 0 ≡ get_or before b 0 = ap (λ ms. get_or ms b 0) after ∙ get_or-set_other before first b 1 0 (λ e. ne (sym e)) in
          (λ z. ((free b (omega arith)).0 (sym same ∙ z), omega (arith, alone b, one_other first b ne)), λ p. same ∙ (free b (omega arith)).1 p.0))
          (cases_eq first b);
    }

-- a free block is claimed next
module _ (blocks text marks : List ℕ) (next : ℕ) (walk : IsWalk blocks text marks) (within : next < length marks) (free : get_or marks next 0 ≡ 0)
    (blocks2 text2 marks2 part : List ℕ) (more : blocks2 ≡ blocks ++ next ∷ []) (added : text2 ≡ text ++ part) (full : length part ≡ 4092) (claimed : marks2 ≡ set marks next 1) where
  count : (b : ℕ) → times b blocks2 ≡ times b blocks + hit next b
  count b = ap (times b) more ∙ times-push b blocks next

  longer : length blocks2 ≡ length blocks + 1
  longer = ap length more ∙ length-append blocks (next ∷ [])

  old_block : (k : ℕ) → k < length blocks → get_or blocks2 k 0 ≡ get_or blocks k 0
  old_block k lt = ap (λ bs. get_or bs k 0) more ∙ get_or_append_left blocks (next ∷ []) 0 k lt

  new_block : (k : ℕ) → k ≡ length blocks → get_or blocks2 k 0 ≡ next
  new_block k is =
      let place : k ≡ length blocks + 0 = omega arith in
      ap (λ bs. get_or bs k 0) more ∙ ap (λ j. get_or (blocks ++ next ∷ []) j 0) place ∙ get_or-append-add blocks (next ∷ []) 0 0

  may : (3 ≤ next) × (times next blocks ≡ 0)
  may = (walk.marks_are next within).0 free

  same_size : length marks2 ≡ length marks
  same_size = ap length claimed ∙ length-set marks next 1

  pub advanced : IsWalk blocks2 text2 marks2
  advanced = record {
    some = omega (arith, longer);
    inside = λ k lt. ⊎_elim
        (λ (below : k < length blocks). (omega (arith, old_block k below, (walk.inside k below).0), omega (arith, old_block k below, (walk.inside k below).1, same_size)))
        (λ (last : length blocks ≤ k). let here : get_or blocks2 k 0 ≡ next = new_block k (omega (arith, longer)) in (omega (arith, may.0), omega (arith, same_size)))
        (cases_lt k (length blocks));
    distinct = λ b. ⊎_elim
        (λ (e : next ≡ b). omega (arith, count b, one_same next b e, ap (λ j. times j blocks) e, may.1))
        (λ (ne : next ≢ b). omega (arith, count b, one_other next b ne, walk.distinct b))
        (cases_eq next b);
    small = omega (arith, same_size, walk.small);
    size = omega (arith, longer, walk.size, ap length added, length-append text part);
    marks_are = λ b lt. ⊎_elim
        (λ (e : next ≡ b).
        let used : get_or marks2 b 0 ≡ 1 = ap (λ ms. get_or ms b 0) claimed ∙ subst (λ j. get_or (set marks next 1) j 0 ≡ 1) e (get_or-set_same marks next 1 0 within) in
        (λ z. absurd (omega arith), λ p. absurd (omega (arith, p.1, count b, one_same next b e))))
        (λ (ne : next ≢ b).
        let same : get_or marks2 b 0 ≡ get_or marks b 0 = ap (λ ms. get_or ms b 0) claimed ∙ get_or-set_other marks next b 1 0 (λ e. ne (sym e)) in
        let old = walk.marks_are b (omega (arith, same_size)) in
        let as_often : times b blocks2 ≡ times b blocks = omega (arith, count b, one_other next b ne) in
        (λ z. let p = old.0 (sym same ∙ z) in (p.0, as_often ∙ p.1), λ p. same ∙ old.1 (p.0, sym as_often ∙ p.1)))
        (cases_eq next b);
  }

  -- the text of a block before the last
  old_part : (k : ℕ) → k + 1 < length blocks → take 4092 (drop (4092 * k) text2) ≡ take 4092 (drop (4092 * k) text)
  old_part k lt =
      let place : 4092 * k ≤ length text = omega (arith, walk.size) in
      let room : 4092 ≤ length (drop (4092 * k) text) = omega (arith, walk.size, length-drop (4092 * k) text) in
      ap (λ t. take 4092 (drop (4092 * k) t)) added ∙ ap (take 4092) (drop-append-le (4092 * k) text part place) ∙ take-append-le 4092 (drop (4092 * k) text) part room

  new_part : (k : ℕ) → k + 1 ≡ length blocks → take 4092 (drop (4092 * k) text2) ≡ part
  new_part k is =
      let place : length text ≡ 4092 * k = omega (arith, walk.size) in
      ap (λ t. take 4092 (drop (4092 * k) t)) added ∙ ap (take 4092) (drop_at text part (4092 * k) place) ∙ take_all 4092 part (omega arith)

  pub read_on : (bytes : ℕ → List ℕ) → bytes (last_of blocks) ≡ u32_text next ++ part → IsRead blocks text bytes → IsRead blocks2 text2 bytes
  read_on bytes here read = record {
    each = λ k lt. ⊎_elim
        (λ (below : k + 1 < length blocks).
        ap bytes (old_block k (omega arith)) ∙ read.each k below ∙ ap (λ n. u32_text n ++ take 4092 (drop (4092 * k) text)) (sym (old_block (k + 1) below))
        ∙ ap (λ p. u32_text (get_or blocks2 (k + 1) 0) ++ p) (sym (old_part k below)))
        (λ (last : length blocks ≤ k + 1).
        let is : k + 1 ≡ length blocks = omega (arith, longer) in
        let place : k ≡ length blocks - 1 = omega arith in
        ap bytes (old_block k (omega arith) ∙ ap (λ j. get_or blocks j 0) place) ∙ here ∙ ap (λ n. u32_text n ++ part) (sym (new_block (k + 1) is))
        ∙ ap (λ p. u32_text (get_or blocks2 (k + 1) 0) ++ p) (sym (new_part k is)))
        (cases_lt (k + 1) (length blocks));
  }

-- a block that may not be claimed may not follow
pub refused : (blocks text marks block : List ℕ) (next other : ℕ) → IsWalk blocks text marks → ((next < length marks) × (get_or marks next 0 ≡ 0) → ⊥) → next < 2 ^ 32 → other < 2 ^ 32 → Names next block → Names other block → MayFollow (length marks) blocks other → ⊥
refused blocks text marks block next other walk taken small small2 first second follows =
    let same : other ≡ next = one_name other next block small2 small second first in
    let can = (walk.marks_are other follows.1).1 (follows.0, follows.2) in
    taken (subst (λ n. (n < length marks) × (get_or marks n 0 ≡ 0)) same (follows.1, can))

-- a block whose number is 0 ends the chain, if zeros follow
pub ended : (next rest : ℕ) (block : List ℕ) → next < 2 ^ 32 → Names next block → EndsChain rest block → next ≡ 0
ended next rest block small name end = one_name next 0 block small (omega arith) name end.0

-- a block is the number at its front and a part
pub named_part : (next k : ℕ) (block : List ℕ) → length block ≤ 4 + k → Names next block → block ≡ u32_text next ++ take k (drop 4 block)
named_part next k block short name =
    let place : 0 + length (u32_text next) ≡ 4 = omega (arith, length-u32_text next) in
    name ∙ ap (λ j. u32_text next ++ drop j block) place ∙ ap (λ p. u32_text next ++ p) (sym (take_all k (drop 4 block) (omega (arith, length-drop 4 block))))

pub part_long : (block : List ℕ) → length block ≡ 4096 → length (take 4092 (drop 4 block)) ≡ 4092
part_long block long = length-take-le 4092 (drop 4 block) (omega (arith, length-drop 4 block))

-- a last block holds the last part of a text
pub last_read : (text whole block : List ℕ) (rest k : ℕ) → length block ≡ 4096 → rest ≤ 4092 → EndsChain rest block → k ≡ rest → whole ≡ text ++ take k (drop 4 block) → IsLast text whole rest block
last_read text whole block rest k long short end same added =
    let front : List ℕ = u32_text 0 in
    let part : List ℕ = take rest (drop 4 block) in
    let place : 0 + length front ≡ 4 = omega (arith, length-u32_text 0) in
    let size : length part ≡ rest = length-take-le rest (drop 4 block) (omega (arith, length-drop 4 block)) in
    let zeros : drop rest (drop 4 block) ≡ replicate (4092 - rest) 0 = drop-drop rest 4 block ∙ end.1 in
    let many : 4092 - rest ≡ 4096 - length (front ++ part) = omega (arith, length-append front part, length-u32_text 0) in
    record {
      part = part;
      added = added ∙ ap (λ j. text ++ take j (drop 4 block)) same;
      long = size;
      holds = end.0 ∙ ap (λ j. front ++ drop j block) place ∙ ap (λ r. front ++ r) (sym (take-append-drop rest (drop 4 block)) ∙ ap (λ z. part ++ z) zeros)
          ∙ sym (append_assoc front part (replicate (4092 - rest) 0)) ∙ ap (λ j. front ++ part ++ replicate j 0) many;
    }
