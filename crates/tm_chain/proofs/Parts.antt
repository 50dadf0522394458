-- Parts of a text, and the blocks that hold them.
use Rattle.std.proofs.Common.{◌≡◌, ℕ, ◌+◌, ◌-◌, ◌*◌, ◌<◌, ◌≤◌, List, ◌++◌, length, get_or, take, drop, min, ⊎_elim, ap, sym, ◌∙◌, arith, length-drop}
use Rattle.std.specs.Int.{to_be_bytes, w32}
use Rattle.std.proofs.lemmas.List.{take_all}
use Rattle.std.proofs.lemmas.Bool.{cases_lt}
use Rattle.tm_codec.specs.Fields.{u32_text}
use Rattle.tm_codec.specs.Padded.{padded}
use Rattle.tm_chain.specs.Chain.{link_of}

take-min : (n m : ℕ) (xs : List ℕ) → m ≡ min (length xs) n → take m xs ≡ take n xs
take-min n m xs is = ⊎_elim
    (λ (lt : length xs < n). take_all m xs (omega arith) ∙ sym (take_all n xs (omega arith)))
    (λ (le : n ≤ length xs). ap (λ k. take k xs) (omega arith))
    (cases_lt (length xs) n)

-- a part that stops at the end
pub part_of : (n a m : ℕ) (xs : List ℕ) → m ≡ min (length (take (length xs - a) (drop a xs))) n → take m (take (length xs - a) (drop a xs)) ≡ take n (drop a xs)
part_of n a m xs is =
    let all : take (length xs - a) (drop a xs) ≡ drop a xs = take_all (length xs - a) (drop a xs) (omega (arith, length-drop a xs)) in
    take-min n m (take (length xs - a) (drop a xs)) is ∙ ap (take n) all

-- the k-th block of a chain, made of its parts
pub link_made : (text blocks front part block : List ℕ) (k next : ℕ) → next ≡ get_or blocks (k + 1) 0 → front ≡ to_be_bytes w32 next → part ≡ take 4092 (drop (4092 * k) text) → block ≡ padded 4096 (front ++ part) → block ≡ link_of text blocks k
unfolding link_of u32_text
link_made text blocks front part block k next following spelled cut laid =
    laid ∙ ap (λ f. padded 4096 (f ++ part)) (spelled ∙ ap (to_be_bytes w32) following) ∙ ap (λ p. padded 4096 (to_be_bytes w32 (get_or blocks (k + 1) 0) ++ p)) cut
