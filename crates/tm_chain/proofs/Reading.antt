-- What the end of a walk says of a chain.
use Rattle.std.proofs.Common.{◌≡◌, ℕ, ◌+◌, ◌-◌, ◌*◌, ◌<◌, ◌≤◌, List, ◌++◌, length, get_or, take, drop, replicate, Result, Ok, Err, ⊎_elim, ap, sym, ◌∙◌, arith, length-append, length-drop, append-nil}
use Rattle.std.specs.Result.{IfOk}
use Rattle.std.proofs.lemmas.Bool.{cases_lt}
use Rattle.std.proofs.lemmas.List.{get_or_past, drop_at, take_all, drop-append-le, take-append-le, length-take-le}
use Rattle.tm_codec.specs.Fields.{u32_text}
use Rattle.tm_codec.specs.Padded.{padded}
use Rattle.tm_codec.proofs.Fields.{length-u32_text}
use Rattle.tm_chain.specs.Chain.{IsBlockList, LiesOn, link_of, chain_len}
use Rattle.tm_chain.specs.Way.{Names, IsLinked, MayFollow, EndsChain, BreaksAt, last_len}
use Rattle.tm_chain.specs.Walk.{IsWalk, IsRead, IsLast, last_of}

-- two facts of the value of an `Ok`, put together
pub IfOk-both : {T E : Type 0} (r : Result T E) (P Q R : T → Type 0) → ((x : T) → P x → Q x → R x) → IfOk r P → IfOk r Q → IfOk r R
IfOk-both (Ok x) P Q R both p q = both x p q
IfOk-both (Err e) P Q R both p q = tt

pub list_of : (first total : ℕ) (blocks text marks : List ℕ) → IsWalk blocks text marks → length marks ≡ total → get_or blocks 0 0 ≡ first → IsBlockList first total blocks
list_of first total blocks text marks walk size starts = record {
  some = walk.some;
  starts = starts;
  inside = λ k lt. ((walk.inside k lt).0, omega (arith, (walk.inside k lt).1));
  distinct = walk.distinct;
}

-- the number of a spelling stands at its front
pub named : (next : ℕ) (part block : List ℕ) → block ≡ u32_text next ++ part → Names next block
named next part block is =
    let place : 4 ≡ 0 + length (u32_text next) = omega (arith, length-u32_text next) in
    is ∙ ap (λ p. u32_text next ++ p) (sym (drop_at (u32_text next) part 4 (length-u32_text next)) ∙ ap (drop 4) (sym is) ∙ ap (λ j. drop j block) place)

pub linked_of : (blocks text : List ℕ) (bytes : ℕ → List ℕ) → IsRead blocks text bytes → IsLinked blocks bytes
linked_of blocks text bytes read = record { each = λ k lt. named (get_or blocks (k + 1) 0) _ (bytes (get_or blocks k 0)) (read.each k lt) }

-- a walk that can't go on
pub breaks_on : (first len total block : ℕ) (blocks text marks : List ℕ) (bytes : ℕ → List ℕ) → IsWalk blocks text marks → length marks ≡ total → get_or blocks 0 0 ≡ first → IsRead blocks text bytes
    → block ≡ last_of blocks → length blocks < chain_len len → ((next : ℕ) → Names next (bytes block) → MayFollow (length marks) blocks next → ⊥) → BreaksAt first len total block bytes
breaks_on first len total block blocks text marks bytes walk size starts read place short stuck = record {
  way = blocks;
  listed = list_of first total blocks text marks walk size starts;
  linked = linked_of blocks text bytes read;
  reaches = sym place;
  within = omega arith;
  goes_on = λ lt next name follows. stuck next name (follows.0, omega (arith, follows.1), follows.2);
  ends = λ full. absurd (omega arith);
}

-- a walk whose last block doesn't end the chain
pub breaks_last : (first len total block : ℕ) (blocks text marks : List ℕ) (bytes : ℕ → List ℕ) → IsWalk blocks text marks → length marks ≡ total → get_or blocks 0 0 ≡ first → IsRead blocks text bytes
    → block ≡ last_of blocks → length blocks ≡ chain_len len → (EndsChain (last_len len) (bytes block) → ⊥) → BreaksAt first len total block bytes
breaks_last first len total block blocks text marks bytes walk size starts read place full open_end = record {
  way = blocks;
  listed = list_of first total blocks text marks walk size starts;
  linked = linked_of blocks text bytes read;
  reaches = sym place;
  within = omega arith;
  goes_on = λ lt. absurd (omega arith);
  ends = λ same. open_end;
}

-- the text that was read lies on the chain
module _ (blocks text marks whole : List ℕ) (rest : ℕ) (bytes : ℕ → List ℕ) (walk : IsWalk blocks text marks) (read : IsRead blocks text bytes) (short : rest ≤ 4092) (end : IsLast text whole rest (bytes (last_of blocks))) where
  part_before : (k : ℕ) → k + 1 < length blocks → take 4092 (drop (4092 * k) whole) ≡ take 4092 (drop (4092 * k) text)
  part_before k lt =
      let place : 4092 * k ≤ length text = omega (arith, walk.size) in
      let room : 4092 ≤ length (drop (4092 * k) text) = omega (arith, walk.size, length-drop (4092 * k) text) in
      ap (λ t. take 4092 (drop (4092 * k) t)) end.added ∙ ap (take 4092) (drop-append-le (4092 * k) text end.part place) ∙ take-append-le 4092 (drop (4092 * k) text) end.part room

  whole_block : (next k : ℕ) → k + 1 < length blocks → u32_text next ++ take 4092 (drop (4092 * k) text) ≡ padded 4096 (u32_text next ++ take 4092 (drop (4092 * k) text))
  whole_block next k lt =
      let part : List ℕ = take 4092 (drop (4092 * k) text) in
      let size : length part ≡ 4092 = length-take-le 4092 (drop (4092 * k) text) (omega (arith, walk.size, length-drop (4092 * k) text)) in
      let none : 0 ≡ 4096 - length (u32_text next ++ part) = omega (arith, length-append (u32_text next) part, length-u32_text next) in
      sym (append-nil (u32_text next ++ part)) ∙ ap (λ j. u32_text next ++ part ++ replicate j 0) none

  pub lies_on : LiesOn blocks whole bytes
  unfolding link_of
  lies_on = record {
    each = λ k lt. ⊎_elim
        (λ (below : k + 1 < length blocks).
        read.each k below ∙ whole_block (get_or blocks (k + 1) 0) k below ∙ ap (λ p. padded 4096 (u32_text (get_or blocks (k + 1) 0) ++ p)) (sym (part_before k below)))
        (λ (last : length blocks ≤ k + 1).
        let here : k ≡ length blocks - 1 = omega arith in
        let after : get_or blocks (k + 1) 0 ≡ 0 = get_or_past blocks (k + 1) 0 last in
        let place : length text ≡ 4092 * k = omega (arith, walk.size) in
        let part : take 4092 (drop (4092 * k) whole) ≡ end.part =
        ap (λ t. take 4092 (drop (4092 * k) t)) end.added ∙ ap (take 4092) (drop_at text end.part (4092 * k) place) ∙ take_all 4092 end.part (omega (arith, end.long)) in
        ap (λ j. bytes (get_or blocks j 0)) here ∙ end.holds ∙ ap (λ n. padded 4096 (u32_text n ++ end.part)) (sym after)
        ∙ ap (λ p. padded 4096 (u32_text (get_or blocks (k + 1) 0) ++ p)) (sym part))
        (cases_lt (k + 1) (length blocks));
  }
