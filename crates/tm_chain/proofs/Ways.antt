-- At a block one chain begins at most, or one block breaks a rule first.
use Rattle.std.proofs.Common.{◌≡◌, ℕ, zero, suc, ◌+◌, ◌-◌, ◌*◌, ◌/◌, ◌%◌, ◌^◌, ◌<◌, ◌≤◌, List, ◌++◌, length, get_or, take, drop, replicate, ⊎_elim, ap, subst, refl, sym, ◌∙◌, arith, length-append, length-drop, append_assoc}
use Rattle.std.proofs.lemmas.Bool.{cases_lt}
use Rattle.std.proofs.lemmas.List.{ext_get_or, get_or-take, get_or-drop, get_or_append_left, get_or-append-add, get_or_past, length-take-le, length-take, drop_at}
use Rattle.std.proofs.lemmas.List.Sums.{sum_by_more_le}
use Rattle.tm_blockmap.specs.Counts.{times}
use Rattle.tm_blockmap.proofs.Counting.{hit, one_same}
use Rattle.tm_codec.specs.Fields.{u32_text}
use Rattle.tm_codec.specs.Padded.{padded}
use Rattle.tm_codec.proofs.Fields.{length-u32_text}
use Rattle.tm_chain.specs.Chain.{IsBlockList, IsChain, LiesOn, link_of}
use Rattle.tm_chain.specs.Way.{Names, IsLinked, MayFollow, EndsChain, BreaksAt, last_len}
use Rattle.tm_chain.specs.Laws.{OneChain, ChainOrBreak, OneBreak}
use Rattle.tm_chain.proofs.Walking.{one_name}
use Rattle.tm_chain.proofs.Reading.{named}

-- two ways from one block agree as far as both go
agree : (first total : ℕ) (xs ys : List ℕ) (bytes : ℕ → List ℕ) → total ≤ 2 ^ 32 → IsBlockList first total xs → IsBlockList first total ys → IsLinked xs bytes → IsLinked ys bytes
    → (k : ℕ) → k < length xs → k < length ys → get_or xs k 0 ≡ get_or ys k 0
agree first total xs ys bytes few listed list2 links links2 zero lt lt2 = listed.starts ∙ sym list2.starts
agree first total xs ys bytes few listed list2 links links2 (suc k) lt lt2 =
    let next : k + 1 ≡ suc k = omega arith in
    let here : get_or xs k 0 ≡ get_or ys k 0 = agree first total xs ys bytes few listed list2 links links2 k (omega arith) (omega arith) in
    let name : Names (get_or xs (suc k) 0) (bytes (get_or xs k 0)) = subst (λ j. Names (get_or xs j 0) (bytes (get_or xs k 0))) next (links.each k (omega arith)) in
    let name2 : Names (get_or ys (suc k) 0) (bytes (get_or ys k 0)) = subst (λ j. Names (get_or ys j 0) (bytes (get_or ys k 0))) next (links2.each k (omega arith)) in
    one_name _ _ (bytes (get_or xs k 0)) (omega (arith, (listed.inside (suc k) lt).1)) (omega (arith, (list2.inside (suc k) lt2).1)) name (subst (λ b. Names (get_or ys (suc k) 0) (bytes b)) (sym here) name2)

-- a way that a longer one goes on from
module _ (first total : ℕ) (way more : List ℕ) (bytes : ℕ → List ℕ) (few : total ≤ 2 ^ 32) (listed : IsBlockList first total way) (list2 : IsBlockList first total more) (links : IsLinked way bytes) (links2 : IsLinked more bytes) (longer : length way < length more) where
  prefix : way ≡ take (length way) more
  prefix =
      let size : length (take (length way) more) ≡ length way = length-take-le (length way) more (omega arith) in
      ext_get_or 0 way (take (length way) more) (sym size)
      (λ k lt. agree first total way more bytes few listed list2 links links2 k lt (omega arith) ∙ sym (get_or-take (length way) more k 0 lt))

  pub next_names : Names (get_or more (length way) 0) (bytes (get_or way (length way - 1) 0))
  next_names =
      let k : ℕ = length way - 1 in
      let next : k + 1 ≡ length way = omega (arith, listed.some) in
      let here : get_or way k 0 ≡ get_or more k 0 = agree first total way more bytes few listed list2 links links2 k (omega (arith, listed.some)) (omega arith) in
      subst (λ b. Names (get_or more (length way) 0) (bytes b)) (sym here) (subst (λ j. Names (get_or more j 0) (bytes (get_or more k 0))) next (links2.each k (omega arith)))

  pub next_follows : MayFollow total way (get_or more (length way) 0)
  next_follows =
      let n : ℕ = length way in
      let b : ℕ = get_or more n 0 in
      let f : ℕ → ℕ = λ y. hit y b in
      let one : f b ≡ 1 = one_same b b refl in
      let none : times b (take n more) ≡ 0 = omega (arith, sum_by_more_le f more n 0 longer, list2.distinct b, one) in
      ((list2.inside n longer).0, (list2.inside n longer).1, ap (times b) prefix ∙ none)

-- the blocks of a chain are linked
pub chain_linked : (blocks text : List ℕ) (bytes : ℕ → List ℕ) → LiesOn blocks text bytes → IsLinked blocks bytes
unfolding link_of
chain_linked blocks text bytes lies = record {
  each = λ k lt. named (get_or blocks (k + 1) 0) _ (bytes (get_or blocks k 0)) (lies.each k (omega arith) ∙ append_assoc (u32_text (get_or blocks (k + 1) 0)) (take 4092 (drop (4092 * k) text)) _);
}

-- the last block of a chain ends it
pub chain_ends : (first len total : ℕ) (blocks text : List ℕ) (bytes : ℕ → List ℕ) → IsChain first len total blocks text bytes → EndsChain (last_len len) (bytes (get_or blocks (length blocks - 1) 0))
unfolding link_of
chain_ends first len total blocks text bytes chain =
    let k : ℕ = length blocks - 1 in
    let some : 0 < length blocks = chain.listed.some in
    let next : k + 1 ≡ length blocks = omega arith in
    let none : get_or blocks (k + 1) 0 ≡ 0 = get_or_past blocks (k + 1) 0 (omega arith) in
    let part : List ℕ = take 4092 (drop (4092 * k) text) in
    let size : length part ≡ last_len len = omega (arith, length-take 4092 (drop (4092 * k) text), length-drop (4092 * k) text, chain.size, chain.many) in
    let zeros : List ℕ = replicate (4096 - length (u32_text 0 ++ part)) 0 in
    let holds : bytes (get_or blocks k 0) ≡ u32_text 0 ++ part ++ zeros = chain.lies.each k (omega arith) ∙ ap (λ n. padded 4096 (u32_text n ++ part)) none in
    let front : length (u32_text 0 ++ part) ≡ 4 + last_len len = omega (arith, length-append (u32_text 0) part, length-u32_text 0) in (
      named 0 (part ++ zeros) (bytes (get_or blocks k 0)) (holds ∙ append_assoc (u32_text 0) part zeros),
      ap (drop (4 + last_len len)) holds ∙ drop_at (u32_text 0 ++ part) zeros (4 + last_len len) front ∙ ap (λ j. replicate j 0) (omega arith),
    )

-- a byte of a text on a chain
text_byte : (blocks text : List ℕ) (bytes : ℕ → List ℕ) (i : ℕ) → LiesOn blocks text bytes → length text ≤ 4092 * length blocks → i < length text → get_or (bytes (get_or blocks (i / 4092) 0)) (4 + i % 4092) 0 ≡ get_or text i 0
unfolding link_of
text_byte blocks text bytes i lies enough lt =
    let k : ℕ = i / 4092 in
    let place : 4092 * k + i % 4092 ≡ i = omega arith in
    let within : k < length blocks = omega arith in
    let front : List ℕ = u32_text (get_or blocks (k + 1) 0) in
    let part : List ℕ = take 4092 (drop (4092 * k) text) in
    let inside : i % 4092 < length part = omega (arith, length-take 4092 (drop (4092 * k) text), length-drop (4092 * k) text) in
    let after : 4 + i % 4092 ≡ length front + i % 4092 = omega (arith, length-u32_text (get_or blocks (k + 1) 0)) in
    ap (λ b. get_or b (4 + i % 4092) 0) (lies.each k within)
    ∙ get_or_append_left (front ++ part) _ 0 (4 + i % 4092) (omega (arith, length-append front part, length-u32_text (get_or blocks (k + 1) 0)))
    ∙ ap (λ j. get_or (front ++ part) j 0) after ∙ get_or-append-add front part (i % 4092) 0
    ∙ get_or-take 4092 (drop (4092 * k) text) (i % 4092) 0 (omega arith) ∙ get_or-drop (4092 * k) text (i % 4092) 0 ∙ ap (λ j. get_or text j 0) place

pub one_chain : OneChain
one_chain first len total blocks blocks2 text text2 bytes few chain chain2 =
    let many : length blocks2 ≡ length blocks = chain2.many ∙ sym chain.many in
    let links = chain_linked blocks text bytes chain.lies in
    let links2 = chain_linked blocks2 text2 bytes chain2.lies in
    let same : blocks2 ≡ blocks = ext_get_or 0 blocks2 blocks many (λ k lt. agree first total blocks2 blocks bytes few chain2.listed chain.listed links2 links k lt (omega arith)) in
    let size : length text2 ≡ length text = chain2.size ∙ sym chain.size in
    let enough : length text ≤ 4092 * length blocks = omega (arith, chain.size, chain.many) in
    let enough2 : length text2 ≤ 4092 * length blocks2 = omega (arith, chain2.size, chain2.many) in (
      same,
      ext_get_or 0 text2 text size
          (λ i lt. sym (text_byte blocks2 text2 bytes i chain2.lies enough2 lt) ∙ ap (λ bs. get_or (bytes (get_or bs (i / 4092) 0)) (4 + i % 4092) 0) same ∙ text_byte blocks text bytes i chain.lies enough (omega arith)),
    )

pub chain_or_break : ChainOrBreak
chain_or_break first len total block blocks text bytes few chain break =
    let links = chain_linked blocks text bytes chain.lies in
    ⊎_elim
    (λ (shorter : length break.way < length blocks).
    break.goes_on (omega (arith, chain.many)) (get_or blocks (length break.way) 0)
    (subst (λ b. Names (get_or blocks (length break.way) 0) (bytes b)) break.reaches (next_names first total break.way blocks bytes few break.listed chain.listed break.linked links shorter))
    (next_follows first total break.way blocks bytes few break.listed chain.listed break.linked links shorter))
    (λ (full : length blocks ≤ length break.way).
    let same : length break.way ≡ length blocks = omega (arith, break.within, chain.many) in
    let last : get_or blocks (length blocks - 1) 0 ≡ block =
    ap (λ j. get_or blocks (j - 1) 0) (sym same) ∙ agree first total blocks break.way bytes few chain.listed break.listed links break.linked (length break.way - 1) (omega (arith, break.listed.some)) (omega (arith, break.listed.some)) ∙ break.reaches in
    break.ends (same ∙ chain.many) (subst (λ b. EndsChain (last_len len) (bytes b)) last (chain_ends first len total blocks text bytes chain)))
    (cases_lt (length break.way) (length blocks))

-- the way to a block that breaks a rule isn't the beginning of a longer one
no_longer : (first len total block block2 : ℕ) (bytes : ℕ → List ℕ) → total ≤ 2 ^ 32 → (break : BreaksAt first len total block bytes) (break2 : BreaksAt first len total block2 bytes) → length break.way < length break2.way → ⊥
no_longer first len total block block2 bytes few break break2 shorter =
    break.goes_on (omega (arith, break2.within)) (get_or break2.way (length break.way) 0)
    (subst (λ b. Names (get_or break2.way (length break.way) 0) (bytes b)) break.reaches (next_names first total break.way break2.way bytes few break.listed break2.listed break.linked break2.linked shorter))
    (next_follows first total break.way break2.way bytes few break.listed break2.listed break.linked break2.linked shorter)

pub one_break : OneBreak
one_break first len total block block2 bytes few break break2 =
    ⊎_elim
    (λ (shorter : length break.way < length break2.way). absurd (no_longer first len total block block2 bytes few break break2 shorter))
    (λ (le : length break2.way ≤ length break.way).
    ⊎_elim
    (λ (longer : length break2.way < length break.way). absurd (no_longer first len total block2 block bytes few break2 break longer))
    (λ (ge : length break.way ≤ length break2.way).
    let same : length break2.way ≡ length break.way = omega arith in
    sym break2.reaches ∙ agree first total break2.way break.way bytes few break2.listed break.listed break2.linked break.linked (length break2.way - 1) (omega (arith, break2.listed.some)) (omega (arith, break2.listed.some))
    ∙ ap (λ j. get_or break.way (j - 1) 0) same ∙ break.reaches)
    (cases_lt (length break2.way) (length break.way)))
    (cases_lt (length break.way) (length break2.way))
