-- The fields of a tag, laid one after another over zeros.
use Rattle.std.proofs.Common.{◌≡◌, ℕ, ◌+◌, ◌-◌, List, [], ◌∷◌, ◌++◌, length, take, drop, replicate, refl, sym, ◌∙◌, ap, arith, length-append, append_assoc}
use Rattle.std.proofs.lemmas.List.{take_at, drop_at, drop-replicate, replicate-append-replicate}
use Rattle.std.specs.Int.{w64, to_be_bytes}
use borrow.Rule.Slice.PartMut.{put_mid, post_of}
use Rattle.tm_codec.specs.Fields.{u64_text}
use Rattle.tm_gate.specs.Tag.{store_tag}

-- a part more, where zeros stood
lay : (a n m : ℕ) (s front part : List ℕ) → s ≡ front ++ replicate m 0 → length front ≡ a → put_mid a n s part ≡ (front ++ part) ++ replicate (m - n) 0
lay a n m s front part is len =
    let t : take a s ≡ front = ap (take a) is ∙ take_at front (replicate m 0) a len in
    let d : drop a s ≡ replicate m 0 = ap (drop a) is ∙ drop_at front (replicate m 0) a len in
    ap (λ f. f ++ (part ++ drop n (drop a s))) t ∙ ap (λ r. front ++ (part ++ r)) (ap (drop n) d ∙ drop-replicate n m 0) ∙ sym (append_assoc front part (replicate (m - n) 0))

-- a gap of zeros
skip : (k m : ℕ) (s front : List ℕ) → s ≡ front ++ replicate (k + m) 0 → s ≡ (front ++ replicate k 0) ++ replicate m 0
skip k m s front is = is ∙ ap (λ r. front ++ r) (sym (replicate-append-replicate k m 0)) ∙ sym (append_assoc front (replicate k 0) (replicate m 0))

laid_parts : (s r d n : List ℕ) → s ≡ replicate 64 0 → length r ≡ 1 → length d ≡ 8 → length n ≡ 8
    → put_mid 16 8 (put_mid 8 8 (r ++ post_of 0 1 s) d) n ≡ (((r ++ replicate 7 0) ++ d) ++ n) ++ replicate 40 0
laid_parts s r d n zeros lr ld ln =
    let s1 : r ++ post_of 0 1 s ≡ r ++ replicate 63 0 = ap (λ x. r ++ drop 1 x) zeros ∙ ap (λ x. r ++ x) (drop-replicate 1 64 0) in
    let l1 : length (r ++ replicate 7 0) ≡ 8 = omega (arith, length-append r (replicate 7 0)) in
    let s2 = lay 8 8 56 _ _ d (skip 7 56 _ r s1) l1 in
    let l2 : length (r ++ replicate 7 0 ++ d) ≡ 16 = omega (arith, length-append (r ++ replicate 7 0) d) in
    lay 16 8 48 _ _ n s2 l2

pub laid : (running date number : ℕ) (s r d n : List ℕ) → s ≡ replicate 64 0 → r ≡ running ∷ [] → d ≡ to_be_bytes w64 date → n ≡ to_be_bytes w64 number
    → put_mid 16 8 (put_mid 8 8 (r ++ post_of 0 1 s) d) n ≡ store_tag running date number
unfolding u64_text
laid running date number s r d n zeros er ed en =
    (λ i. put_mid 16 8 (put_mid 8 8 (er i ++ post_of 0 1 s) (ed i)) (en i))
    ∙ laid_parts s (running ∷ []) (to_be_bytes w64 date) (to_be_bytes w64 number) zeros refl refl refl
